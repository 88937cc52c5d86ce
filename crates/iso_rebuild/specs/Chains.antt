-- The chain of a slot's records in a pin.
use Rattle.std.specs.List.{list_all}
use Rattle.std.specs.Prelude.{◌≡◌, ℕ, ◌<◌, true, List, [], ◌∷◌, length, Some, None, Option, IfSome}
use Rattle.iso_record.specs.Undone.{Face, all_undone, columns_in, shown}
use Rattle.iso_record.specs.declared.record.Record.{Record}
use Rattle.iso_types.specs.declared.value.Value.{Value}
use Rattle.iso_segment.specs.Pinned.{Pinned, item_of}
use Rattle.iso_rebuild.specs.declared.past.Past.{Past}

-- these records follow one another along `prev_row`, down to one that has none, and all of them are in the pin
abbrev pub IsChain : Pinned Record → Option ℕ → List Record → Type 0
IsChain pin at [] = at ≡ None
IsChain pin at (n ∷ ns) =
    (k : ℕ) × (at ≡ Some k) × (item_of pin k ≡ Some n) × IfSome n.prev_row (λ j. j < k) × IsChain pin n.prev_row ns

-- the columns of all these records are in a row of this width
abbrev pub AllIn : ℕ → List Record → Type 0
AllIn width ns = list_all (λ n. columns_in width n.change) ns ≡ true

-- the slot as it was pinned
abbrev pub face_of : Past → Face
face_of past = record { row = past.row; live = past.live }

-- the pin has the slot's chain from its head on
abbrev pub HasChain : Past → Type 0
HasChain past = (chain : List Record) × IsChain past.pin (Some past.head) chain × AllIn (length past.row) chain

-- the row that is shown once all records of the chain are undone
abbrev pub IsRebuilt : Past → Option (List Value) → Type 0
IsRebuilt past row = (chain : List Record) → IsChain past.pin (Some past.head) chain → row ≡ shown (all_undone chain (face_of past))
