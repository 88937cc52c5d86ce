use Rattle.std.proofs.Common.{◌∙◌, ap}
use Rattle.iso_history.specs.Requests.{request}
use Rattle.iso_locks.specs.declared.locking.Answer.{Answer}
use Rattle.iso_state.specs.Stands.{world_of}
use Rattle.iso_writes.proofs.Judged.{blocked-answer}
use Rattle.iso_writes.specs.Changing.{blocked_by_name}
use Rattle.iso_writes.proofs.hindered.wait_for.Goals as goal

pub returns-clause-answer : goal.returns-clause-answer
returns-clause-answer c =
    let p = c.args.parts.now in
    c.blocked.ensures ∙ ap (λ (a : Answer). blocked_by_name a c.args.name.now) c.in_ok-answer.ensures.answer
    ∙ blocked-answer p.head (world_of p) c.args.conn c.args.name.now c.args.mode (request p.head (world_of p) c.args.conn c.args.name.now c.args.mode)
