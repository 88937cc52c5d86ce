-- The pairs (key, rid) of each index, the guard of a key, and which pair may be purged.
use Rattle.std.specs.List.{list_any}
use Rattle.std.specs.Option.{option_map_or}
use Rattle.std.specs.Prelude.{ℕ, ◌+◌, Bool, true, false, not, ◌&&◌, ◌||◌, List, [], ◌∷◌, map, if◌then◌else◌, slice_index_or, slice_set, Some, None, filter, find, Option}
use Rattle.iso_history.specs.Versions.{committed, is_pending, versions}
use Rattle.iso_history.specs.World.{World}
use Rattle.iso_history.specs.declared.entry.Act.{Act}
use Rattle.iso_history.specs.declared.entry.Act.TheVariants.{Insert, Purge, Update}
use Rattle.iso_history.specs.declared.entry.Stand.{Stand}
use Rattle.iso_history.specs.declared.entry.Stand.TheVariants.{At, Past}
use Rattle.iso_types.specs.Head.{indexes, indexes_of, key_in, rows_of, table_of_index}
use Rattle.iso_types.specs.Ids.{index_eq, name_eq, pair_eq, pair_lt}
use Rattle.iso_types.specs.Value.{value_eq, value_lt}
use Rattle.iso_types.specs.declared.head.Edge.{Edge}
use Rattle.iso_types.specs.declared.head.Head.{Head}
use Rattle.iso_types.specs.declared.head.Range.{Range}
use Rattle.iso_types.specs.declared.value.IndexId.{IndexId}
use Rattle.iso_types.specs.declared.value.Name.{Name}
use Rattle.iso_types.specs.declared.value.Name.TheVariants.{End, Key}
use Rattle.iso_types.specs.declared.value.Rid.{Rid}
use Rattle.iso_types.specs.declared.value.TableId.{TableId}
use Rattle.iso_types.specs.declared.value.Value.{Value}

-- the pairs of an index
abbrev pub entries_of : World → IndexId → List (Value × Rid)
entries_of w i = slice_index_or w.entries i.0 []

-- the pair stands in its place, once
abbrev pub with_pair : Value × Rid → List (Value × Rid) → List (Value × Rid)
with_pair p [] = p ∷ []
with_pair p (q ∷ qs) = if pair_lt p q then p ∷ q ∷ qs else if pair_eq p q then q ∷ qs else q ∷ with_pair p qs

-- the pair goes
abbrev pub without_pair : Value × Rid → List (Value × Rid) → List (Value × Rid)
without_pair p qs = filter (λ q. not (pair_eq p q)) qs

-- what an entry does to the pairs
pub data Pairing : Type 0 where
  Same : Pairing
  Gains : (table : TableId) → (rid : Rid) → (row : List Value) → Pairing
  Loses : (index : IndexId) → (key : Value) → (rid : Rid) → Pairing

-- an Insert or Update adds its row's keys, a Purge takes one pair off, nothing else does
abbrev pub pairing_of : Act → Pairing
pairing_of (Insert t r row) = Gains t r row
pairing_of (Update t r row) = Gains t r row
pairing_of (Purge i key r) = Loses i key r
pairing_of _ = Same

-- the pairs of one index, with the row's key where the index is the table's
abbrev pub gained : Head → World → TableId → Rid → List Value → IndexId → List (Value × Rid)
gained head w t r row i =
    if list_any (index_eq i) (indexes_of head t) then with_pair (key_in head i row, r) (entries_of w i) else entries_of w i

-- the pairs of all indexes
abbrev pub entries_by : Head → World → Pairing → List (List (Value × Rid))
entries_by head w Same = w.entries
entries_by head w (Gains t r row) = map (gained head w t r row) (indexes head)
entries_by head w (Loses i key r) = slice_set w.entries i.0 (without_pair (key, r) (entries_of w i))

-- the pairs of the head's rows
abbrev pub with_rows : Head → IndexId → ℕ → List (List Value) → List (Value × Rid)
with_rows head i k [] = []
with_rows head i k (row ∷ rows) = with_pair (key_in head i row, record { 0 = k }) (with_rows head i (k + 1) rows)

-- the pairs of the head's rows, for each index
abbrev pub first_entries : Head → List (List (Value × Rid))
first_entries head =
    map (λ i. with_rows head i 0 (option_map_or (rows_of head) (table_of_index head i) [])) (indexes head)

-- the index has an entry of this key
abbrev pub has_key : World → IndexId → Value → Bool
has_key w i v = list_any (λ p. value_eq p.0 v) (entries_of w i)

-- the lock name of the entry, or END where there is none
abbrev pub key_name : IndexId → Option (Value × Rid) → Name
key_name i None = End i
key_name i (Some p) = Key i p.0

-- the guard of a key value: the key itself where the index has it, else the next greater one, else END
abbrev pub guard : World → IndexId → Value → Name
guard w i v = key_name i (find (λ p. not (value_lt p.0 v)) (entries_of w i))

-- bounds of a range
abbrev pub meets_low : Option Edge → Value → Bool
meets_low None v = true
meets_low (Some e) v = value_lt e.value v || (e.inclusive && value_eq e.value v)

-- the value meets the high bound
abbrev pub meets_high : Option Edge → Value → Bool
meets_high None v = true
meets_high (Some e) v = value_lt v e.value || (e.inclusive && value_eq e.value v)

-- the value meets both bounds
abbrev pub is_in_range : Range → Value → Bool
is_in_range range v = meets_low range.low v && meets_high range.high v

-- the least entry after the position, or at first the least whose key meets the low bound
abbrev pub found : World → IndexId → Range → Option (Value × Rid) → Option (Value × Rid)
found w i range None = find (λ p. meets_low range.low p.0) (entries_of w i)
found w i range (Some at) = find (pair_lt at) (entries_of w i)

-- where a Next stands: at the entry found where it is in the range, else past
abbrev pub stand_of : Range → Option (Value × Rid) → Stand
stand_of range None = Past
stand_of range (Some p) = if is_in_range range p.0 then At p.0 p.1 else Past

-- somebody holds or awaits the name
abbrev pub is_in_use : World → Name → Bool
is_in_use w n = list_any (λ h. name_eq h.name n) w.holds || list_any (λ x. name_eq x.name n) w.waits

-- the row is there and has the key
abbrev pub row_has : Head → IndexId → Value → Option (List Value) → Bool
row_has head i v row = option_map_or (λ vs. value_eq (key_in head i vs) v) row false

-- no version of the slot is pending, `committed` is Absent or has another key, and the key's name is not in use
abbrev pub is_purgeable_of : Head → World → IndexId → Value × Rid → TableId → Bool
is_purgeable_of head w i p t =
    not (is_pending (versions w t p.1))
    && not (row_has head i p.0 (committed (versions w t p.1)))
    && not (is_in_use w (Key i p.0))

-- the pair is purgeable
abbrev pub is_purgeable : Head → World → IndexId → Value × Rid → Bool
is_purgeable head w i p = option_map_or (is_purgeable_of head w i p) (table_of_index head i) false

-- the least purgeable pair, by index, key and rid
abbrev pub purgeable_from : Head → World → List IndexId → Option (IndexId × (Value × Rid))
purgeable_from head w [] = None
purgeable_from head w (i ∷ is) =
    elim (find (is_purgeable head w i) (entries_of w i)) [ None ↦ purgeable_from head w is | Some p ↦ Some (i, p) ]

-- the least purgeable pair of the world
abbrev pub least_purgeable : Head → World → Option (IndexId × (Value × Rid))
least_purgeable head w = purgeable_from head w (indexes head)
