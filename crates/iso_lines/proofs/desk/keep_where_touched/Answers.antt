use Rattle.std.proofs.Common.{◌∙◌, sym}
use Rattle.iso_lines.proofs.desk.keep_where_touched.Goals as goal

pub returns-else-not-touches-clause-own : goal.returns-else-not-touches-clause-own
returns-else-not-touches-clause-own c = λ h.
    let after = sym c.touches.ensures ∙ c.if-not-touches.false in
    h after ∙ sym after
