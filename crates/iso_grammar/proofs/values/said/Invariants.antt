use Rattle.std.proofs.Common.{◌≡◌, ◌≤◌, length, false, ◌++◌, take}
use Rattle.iso_grammar.specs.Values as spec
use Rattle.iso_grammar.proofs.values.said.Given as goal

abbrev pub invariant-loop-rest : goal.invariant-loop-rest
invariant-loop-rest l = record {
  said : take l.len l.cells ++ spec.said l.closes l.rest ≡ spec.said false l.initial.rest;
  small : l.len ≤ 32;
  cells : length l.cells ≡ 32;
}

abbrev pub decreases-loop-rest : goal.decreases-loop-rest
decreases-loop-rest l = length l.rest
