use Rattle.std.proofs.Common.{◌∙◌, ap}
use Rattle.iso_locks.specs.declared.locking.Answer.{Answer}
use Rattle.iso_state.specs.Stands.{world_of}
use Rattle.iso_writes.proofs.Judged.{limit-answer, limit-comes}
use Rattle.iso_writes.specs.Answers.{comes_at_limit, limited}
use Rattle.iso_writes.proofs.hindered.limit.Goals as goal

pub limited-requires : goal.limited-requires
limited-requires c =
    ap (λ (a : Answer). comes_at_limit a) c.in_ok-answer.ensures.answer
    ∙ limit-comes c.args.parts.now.head (world_of c.args.parts.now) c.args.conn

pub returns-clause-answer : goal.returns-clause-answer
returns-clause-answer c =
    c.limited.ensures ∙ ap (λ (a : Answer). limited a) c.in_ok-answer.ensures.answer
    ∙ limit-answer c.args.parts.now.head (world_of c.args.parts.now) c.args.conn
