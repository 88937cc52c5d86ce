use Rattle.std.proofs.Common.{◌∙◌, ap}
use Rattle.iso_locks.specs.declared.locking.Answer.{Answer}
use Rattle.iso_state.specs.Stands.{world_of}
use Rattle.iso_reads.proofs.Beside.{limit-comes}
use Rattle.iso_reads.specs.Answers.{comes_at_limit}
use Rattle.iso_reads.proofs.stepping.limit.Goals as goal

pub limited-requires : goal.limited-requires
limited-requires c =
    ap (λ (a : Answer). comes_at_limit a) c.in_ok-answer.ensures.answer
    ∙ limit-comes c.args.parts.now.head (world_of c.args.parts.now) c.args.conn
