use Rattle.std.proofs.Common.{inr}
use Rattle.iso_engine.proofs.job.tell_bytes.Goals as goal

pub returns-in-Ok-clause-outcome : goal.returns-in-Ok-clause-outcome
returns-in-Ok-clause-outcome g c = λ left end. inr (inr (end, c.requires, c.in-Ok.script, c.in-Ok.ensures.read, c.tell.ensures.told))
