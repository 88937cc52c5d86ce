-- What a purge judges of a slot, and what it records.
use Rattle.std.specs.List.{list_any}
use Rattle.std.specs.Option.{option_map_or}
use Rattle.std.specs.Prelude.{◌≡◌, ◌<◌, ℕ, Bool, true, false, not, ◌&&◌, List, [], ◌∷◌, find, Option, Some, None, is_none, is_some, length, slice_index_or}
use Rattle.iso_history.specs.Entries.{entries_of, row_has}
use Rattle.iso_history.specs.Makers.{by_dispatcher}
use Rattle.iso_history.specs.Orders.{has_pair}
use Rattle.iso_history.specs.Versions.{committed, is_pending, versions}
use Rattle.iso_history.specs.World.{Version, World}
use Rattle.iso_history.specs.declared.entry.Act.{Act}
use Rattle.iso_history.specs.declared.entry.Act.TheVariants.{Commit, Purge, Undo}
use Rattle.iso_history.specs.declared.entry.Entry.{Entry}
use Rattle.iso_table.specs.declared.slot.Slot.{Slot}
use Rattle.iso_types.specs.Head.{indexes, table_of_index}
use Rattle.iso_types.specs.Value.{value_eq}
use Rattle.iso_types.specs.declared.head.Head.{Head}
use Rattle.iso_types.specs.declared.value.IndexId.{IndexId}
use Rattle.iso_types.specs.declared.value.Rid.{Rid}
use Rattle.iso_types.specs.declared.value.TableId.{TableId}
use Rattle.iso_types.specs.declared.value.Value.{Value}
use Rattle.iso_types.specs.declared.value.Value.TheVariants.{Null}

-- the row has the key in the column
abbrev pub has_key : List Value → ℕ → Value → Bool
has_key row column key = value_eq (slice_index_or row column Null) key

-- no change of the slot is pending, and it is dead or its row has another key
abbrev pub is_left : Slot → ℕ → Value → Bool
is_left s column key = is_none s.head && not (s.live && has_key s.row column key)

-- no change of the slot is pending, and its row is live and has the key
abbrev pub is_settled : Slot → ℕ → Value → Bool
is_settled s column key = is_none s.head && (s.live && has_key s.row column key)

-- no version of the slot is pending, and its committed row has the key
abbrev pub is_calm : Head → IndexId → Value → List Version → Bool
is_calm head i key vs = not (is_pending vs) && row_has head i key (committed vs)

-- the purge of a pair
abbrev pub purge_of : IndexId × (Value × Rid) → Act
purge_of p = Purge p.0 p.1.0 p.1.1

-- what is recorded of the least purgeable pair, where there is one
abbrev pub purging : Option (IndexId × (Value × Rid)) → List Entry
purging None = []
purging (Some p) = by_dispatcher (purge_of p) ∷ []

-- no version of the slot is pending, and its committed row is not there or has another key
abbrev pub is_stale : Head → IndexId → Value → List Version → Bool
is_stale head i key vs = not (is_pending vs) && not (row_has head i key (committed vs))

-- the pair is stale: it is purgeable unless its key's name is in use
abbrev pub is_stale_at : Head → World → IndexId → Value × Rid → Bool
is_stale_at head w i p = option_map_or (λ t. is_stale head i p.0 (versions w t p.1)) (table_of_index head i) false

-- some pair is stale
abbrev pub any_stale : Head → World → Bool
any_stale head w = list_any (λ i. is_some (find (is_stale_at head w i) (entries_of w i))) (indexes head)

-- the table of each index is there
abbrev pub TablesThere : Head → World → Type 0
TablesThere head w = (i : IndexId) (t : TableId) → table_of_index head i ≡ Some t → t.0 < length w.tables

-- no pair is stale
abbrev pub NoneStale : Head → World → Type 0
NoneStale head w = (i : IndexId) (t : TableId) (p : Value × Rid) → table_of_index head i ≡ Some t → has_pair (entries_of w i) p ≡ true
    → is_stale head i p.0 (versions w t p.1) ≡ false

-- an act after which a pair may be stale that was not
abbrev pub may_ripen : Act → Bool
may_ripen Commit = true
may_ripen (Undo n) = true
may_ripen _ = false
