use Rattle.std.proofs.Common.{arith}
use Rattle.std.proofs.lemmas.Grind.{common_steps}
use Rattle.iso_queue.proofs.Steps.{granted_here}
use Rattle.iso_queue.proofs.lists.grant.Goals as goal

pub returns-then-eq-clause-items : goal.returns-then-eq-clause-items
returns-then-eq-clause-items c = let x = c.if-eq.true in grind (arith, common_steps, granted_here)
