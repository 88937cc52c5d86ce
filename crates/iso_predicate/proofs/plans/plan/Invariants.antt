use Rattle.std.proofs.Common.{◌≡◌}
use Rattle.iso_predicate.specs.Plan.{plan_of}
use Rattle.iso_predicate.proofs.Paths.{path_from}
use Rattle.iso_predicate.proofs.plans.plan.Given as goal

abbrev pub invariant-loop-place : goal.invariant-loop-place
invariant-loop-place l = path_from l.head l.table l.cond l.place ≡ plan_of l.head l.table l.cond
