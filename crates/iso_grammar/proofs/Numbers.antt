-- A number grows with its digits.
use Rattle.std.proofs.Common.{◌≡◌, ℕ, ◌+◌, ◌-◌, ◌*◌, ◌≤◌, ◌<◌, List, [], ◌∷◌, None, arith}
use Rattle.iso_grammar.specs.Values.{number_after, at_most}

grows : (n : ℕ) (ds : List ℕ) → n ≤ number_after n ds
grows n [] = omega arith
grows n (b ∷ ds) =
    let later : n * 10 + (b - 48) ≤ number_after (n * 10 + (b - 48)) ds = grows (n * 10 + (b - 48)) ds in
    omega (arith, later)

pub too_large : (most n : ℕ) (ds whole : List ℕ) → number_after n ds ≡ number_after 0 whole → most < n → None ≡ at_most most (number_after 0 whole)
too_large most n ds whole e lt =
    let far : n ≤ number_after n ds = grows n ds in
    above (number_after 0 whole) (omega (arith, far, e, lt))
  where
    above : (m : ℕ) → most < m → None ≡ at_most most m
    above m lt = grind (arith, lt)
