-- A stretch of a store, kept by itself.
use Rattle.std.specs.Prelude.{ℕ, ◌-◌, ◌+◌, min, List, if◌then◌else◌, nat_lt, slice_get, None, Option, refl, drop, take}
use Rattle.std.specs.Coded.{Coded, code_by, coded×, coded_ℕ, coded_list}

-- the number of its first item, and its items
pub record Pinned (T : Type 0) : Type 0 where
  pub first : ℕ
  pub items : List T

abbrev pub pinned_code : {T : Type 0} → Coded T → Coded (Pinned T)
pinned_code {T} code = code_by (ℕ × List T) (coded× coded_ℕ (coded_list code)) (λ p. (p.first, p.items)) (λ p. record { first = p.0; items = p.1 }) (λ _. refl)

-- the item with this number; none outside of the stretch
abbrev pub item_of : {T : Type 0} → Pinned T → ℕ → Option T
item_of p n = if nat_lt n p.first then None else slice_get p.items (n - p.first)

-- the items of a list from one number to another
abbrev pub stretch : {T : Type 0} → List T → ℕ → ℕ → Pinned T
stretch items first last = record { first = first; items = take (last + 1 - first) (drop first items) }

-- the room of an open part whose first item has the number `next`: a store has at most 2^32 - 1 items, whatever memory it has
abbrev pub spare_of : ℕ → ℕ → ℕ → ℕ
spare_of capacity next len = min capacity (4294967295 - next) - len
