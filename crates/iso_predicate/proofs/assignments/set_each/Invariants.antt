use Rattle.std.proofs.Common.{◌≡◌, true, drop}
use Rattle.iso_types.specs.Head.{all_fit}
use Rattle.iso_predicate.specs.Walks.{set_all}
use Rattle.iso_predicate.proofs.assignments.set_each.Given as goal

abbrev pub invariant-loop-assignment : goal.invariant-loop-assignment
invariant-loop-assignment l = record {
  fits : all_fit l.columns l.row ≡ true;
  rest : set_all l.columns (drop l.assignment-index l.sets) l.old l.row ≡ set_all l.columns l.sets l.old l.fn.row;
}
