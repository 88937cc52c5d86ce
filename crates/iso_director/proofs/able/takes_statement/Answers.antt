use Rattle.std.proofs.Common.{◌∙◌, ◌||◌, Bool, ap, sym}
use Rattle.iso_director.proofs.Ables.{statement-some}
use Rattle.iso_history.specs.Quiet.{waits_stuck}
use Rattle.iso_state.specs.Stands.{world_of}
use Rattle.iso_director.proofs.able.takes_statement.Goals as goal

pub returns-else-is_idle : goal.returns-else-is_idle
returns-else-is_idle c n =
    let p = c.args.parts.now in
    c.is_blocked.ensures
    ∙ (sym (ap (λ (b : Bool). b || waits_stuck (world_of p) c.args.conn) (sym c.is_idle.ensures ∙ c.if-is_idle.false))
    ∙ statement-some p.head (world_of p) n c.args.conn c.requires.acyclic)
