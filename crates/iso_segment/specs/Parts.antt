-- A list in parts: stretches one after the other, and what comes behind them.
use Rattle.std.specs.Prelude.{◌≡◌, ℕ, ◌+◌, List, [], ◌∷◌, ◌++◌, length, map, slice_index_or}
use Rattle.iso_segment.specs.Pinned.{Pinned}

-- the stretches stand one after the other, from a number on up to the next
abbrev pub AreLaid : {T : Type 0} → ℕ → List (Pinned T) → ℕ → Type 0
AreLaid from [] next = from ≡ next
AreLaid from (s ∷ ss) next = (s.first ≡ from) × AreLaid (from + length s.items) ss next

-- the items of all stretches
abbrev pub joined : {T : Type 0} → List (Pinned T) → List T
joined [] = []
joined (s ∷ ss) = s.items ++ joined ss

-- the number at which stretch k begins; behind the last, the next number
abbrev pub first_at : {T : Type 0} → List (Pinned T) → ℕ → ℕ → ℕ
first_at ss k next = slice_index_or (map (λ s. s.first) ss) k next
