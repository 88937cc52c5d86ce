-- Where tokens stand in their line.
use Rattle.std.specs.Prelude.{ℕ, ◌≤◌, ◌<◌, List, [], ◌∷◌}
use Rattle.iso_grammar.specs.declared.token.Token.{Token}

-- each begins behind the last byte of the one before it, the first behind this many bytes
abbrev pub RisesFrom : ℕ → List Token → Type 0
RisesFrom n [] = Unit {0}
RisesFrom n (t ∷ ts) = (n < t.start) × (t.start ≤ t.end) × RisesFrom t.end ts
