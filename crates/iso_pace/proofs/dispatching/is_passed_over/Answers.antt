use Rattle.std.proofs.Common.{◌≡◌, ◌∙◌, ap, Bool, sym, true}
use Rattle.std.specs.Prelude.{◌||◌}
use Rattle.iso_history.specs.Quiet.{is_quiet}
use Rattle.iso_state.specs.Stands.{world_of}
use Rattle.iso_pace.proofs.Waits.{quiet-busy}
use Rattle.iso_pace.proofs.dispatching.is_passed_over.Goals as goal

pub returns-else-free : goal.returns-else-free
returns-else-free c =
    let p = c.args.parts.now in
    let quiet : is_quiet p.head (world_of p) ≡ true =
    sym (ap (λ (b : Bool). b || is_quiet p.head (world_of p)) c.if-free.false) ∙ c.requires.quiet in
    c.is_blocked.ensures ∙ sym (quiet-busy p.head (world_of p) c.args.conn quiet)
