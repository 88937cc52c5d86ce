use Rattle.std.proofs.Common.{◌≡◌, map}
use Rattle.std.specs.List.{range_with_len}
use Rattle.iso_key.specs.Pages.{entries}
use Rattle.iso_state.specs.Firsts.{first_keys}
use Rattle.iso_state.proofs.keys.first_indexes.Given as goal

abbrev pub invariant-loop-at : goal.invariant-loop-at
invariant-loop-at l = map entries l.indexes ≡ map (λ k. first_keys l.head (record { 0 = k })) (range_with_len 0 l.at)
