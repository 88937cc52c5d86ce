use Rattle.std.proofs.Common.{◌∙◌, sym}
use Rattle.iso_words.proofs.Found.{no-row, table}
use Rattle.iso_words.specs.Table.{texts}
use Rattle.iso_words.proofs.parts.read_words.Goals as goal

pub returns-clause-table : goal.returns-clause-table
returns-clause-table c = λ job.
    let t = table (texts c.args.words.now) job in
    (λ e. t.0 (sym c.scanned.ensures ∙ e), λ r. c.scanned.ensures ∙ t.1 r)

pub returns-clause-none : goal.returns-clause-none
returns-clause-none c =
    let t = no-row (texts c.args.words.now) in
    (λ e. t.0 (sym c.scanned.ensures ∙ e), λ r. c.scanned.ensures ∙ t.1 r)
