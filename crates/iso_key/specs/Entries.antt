-- The entries of an index as one list in order: pairs of a key and a rid.
use Rattle.std.specs.List.{list_all, list_any}
use Rattle.std.specs.Option.{option_map}
use Rattle.std.specs.Prelude.{◌≡◌, Bool, true, not, ◌&&◌, ◌||◌, List, [], ◌∷◌, if◌then◌else◌, Option, Some, None, filter, find}
use Rattle.iso_types.specs.Ids.{pair_eq, pair_lt}
use Rattle.iso_types.specs.Value.{value_eq, value_lt}
use Rattle.iso_types.specs.declared.head.Edge.{Edge}
use Rattle.iso_types.specs.declared.value.Rid.{Rid}
use Rattle.iso_types.specs.declared.value.Value.{Value}

-- the pairs stand strictly in order
abbrev pub IsOrdered : List (Value × Rid) → Type 0
IsOrdered [] = Unit {0}
IsOrdered (p ∷ ps) = (list_all (pair_lt p) ps ≡ true) × IsOrdered ps

-- the pair is in the list
abbrev pub has_pair : List (Value × Rid) → Value × Rid → Bool
has_pair ps p = list_any (pair_eq p) ps

-- the pair stands in its place, once
abbrev pub with_pair : Value × Rid → List (Value × Rid) → List (Value × Rid)
with_pair p [] = p ∷ []
with_pair p (q ∷ qs) = if pair_lt p q then p ∷ q ∷ qs else if pair_eq p q then q ∷ qs else q ∷ with_pair p qs

-- the pair goes
abbrev pub without_pair : Value × Rid → List (Value × Rid) → List (Value × Rid)
without_pair p qs = filter (λ q. not (pair_eq p q)) qs

-- a pair has the key
abbrev pub has_key : List (Value × Rid) → Value → Bool
has_key ps v = list_any (λ p. value_eq p.0 v) ps

-- the key meets the low bound
abbrev pub meets_low : Option Edge → Value → Bool
meets_low None v = true
meets_low (Some e) v = value_lt e.value v || (e.inclusive && value_eq e.value v)

-- the least pair whose key meets the low bound
abbrev pub first_from : Option Edge → List (Value × Rid) → Option (Value × Rid)
first_from low ps = find (λ p. meets_low low p.0) ps

-- the least pair after the position
abbrev pub next_after : Value × Rid → List (Value × Rid) → Option (Value × Rid)
next_after at ps = find (pair_lt at) ps

-- the least key above this one
abbrev pub next_key : Value → List (Value × Rid) → Option Value
next_key v ps = option_map (λ p. p.0) (find (λ p. value_lt v p.0) ps)
