-- The guards, over the head and the history.
use Rattle.std.specs.List.{list_any}
use Rattle.std.specs.Option.{option_map_or}
use Rattle.std.specs.Prelude.{◌≡◌, ℕ, ◌+◌, Bool, true, false, not, ◌&&◌, ◌||◌, List, [], ◌∷◌, take, drop, IsTrue, slice_get, Some, find, AllPairs, Option}
use Rattle.iso_history.specs.After.{after, world}
use Rattle.iso_history.specs.Entries.{is_in_range}
use Rattle.iso_history.specs.Looks.{shown}
use Rattle.iso_history.specs.Settled.{settled_row}
use Rattle.iso_history.specs.Versions.{is_changed_beside, is_dead, slot_list, versions}
use Rattle.iso_history.specs.World.{Version, World}
use Rattle.iso_history.specs.declared.entry.Act.{Act}
use Rattle.iso_history.specs.declared.entry.Act.TheVariants.{Commit, Free, Look, Next, Rollback}
use Rattle.iso_history.specs.declared.entry.Entry.{Entry}
use Rattle.iso_history.specs.declared.entry.Got.{Got}
use Rattle.iso_history.specs.declared.entry.Stand.{Stand}
use Rattle.iso_history.specs.declared.entry.Stand.TheVariants.{At, Past}
use Rattle.iso_history.specs.declared.entry.Want.{Want}
use Rattle.iso_history.specs.declared.entry.Want.TheVariants.{Alter, AlterKept, Current, Repeat, Steady}
use Rattle.iso_history.specs.declared.entry.Who.TheVariants.{Agent, Dispatcher}
use Rattle.iso_modes.specs.Modes.{compatible}
use Rattle.iso_modes.specs.declared.Mode.TheVariants.{S}
use Rattle.iso_queue.specs.Locks.{Hold, holds_at_least}
use Rattle.iso_types.specs.Head.{key_in, table_of_index}
use Rattle.iso_types.specs.Ids.{conn_eq, name_eq, pair_lt, rid_eq, table_eq}
use Rattle.iso_types.specs.declared.head.Head.{Head}
use Rattle.iso_types.specs.declared.head.Range.{Range}
use Rattle.iso_types.specs.declared.value.Conn.{Conn}
use Rattle.iso_types.specs.declared.value.IndexId.{IndexId}
use Rattle.iso_types.specs.declared.value.Name.TheVariants.{Table}
use Rattle.iso_types.specs.declared.value.Rid.{Rid}
use Rattle.iso_types.specs.declared.value.TableId.{TableId}
use Rattle.iso_types.specs.declared.value.Value.{Value}

-- the entry is this connection's
abbrev pub is_own : Conn → Entry → Bool
is_own c e = elim e.who [ Dispatcher ↦ false | Agent d ↦ conn_eq d c ]

-- an entry of another connection
abbrev pub is_others : Conn → Entry → Bool
is_others c e = elim e.who [ Dispatcher ↦ false | Agent d ↦ not (conn_eq d c) ]

-- the act ends the unit of its maker
abbrev pub is_end : Act → Bool
is_end Commit = true
is_end (Rollback code reason) = true
is_end Act.Ended = true
is_end _ = false

-- the entry ends the connection's unit
abbrev pub ends_unit : Conn → Entry → Bool
ends_unit c e = is_own c e && is_end e.act

-- To the end of the connection's unit, no entry of another connection changes the versions
-- of the slot:
unfoldable pub SlotStays : Head → World → Conn → TableId → Rid → List Entry → Type 0
SlotStays head w c t r [] = Unit {0}
SlotStays head w c t r (e ∷ es) =
    (IsTrue (is_others c e) → versions (after head w e) t r ≡ versions w t r)
    × (IsTrue (not (ends_unit c e)) → SlotStays head (after head w e) c t r es)

-- of any slot of the table:
unfoldable pub TableStays : Head → World → Conn → TableId → List Entry → Type 0
TableStays head w c t [] = Unit {0}
TableStays head w c t (e ∷ es) =
    (IsTrue (is_others c e) → slot_list (after head w e) t ≡ slot_list w t)
    × (IsTrue (not (ends_unit c e)) → TableStays head (after head w e) c t es)

-- the part of a range that a Next has passed: below where it stands, or all at Past
abbrev pub is_passed : Stand → Value × Rid → Bool
is_passed (At v r) p = pair_lt p (v, r)
is_passed Past p = true
is_passed _ p = false

-- a version of the slot has its key in the range, in the part that the Next has passed
abbrev pub is_protected : Head → IndexId → Range → Stand → Rid → Version → Bool
is_protected head i range stand s v =
    option_map_or (λ row. is_in_range range (key_in head i row) && is_passed stand (key_in head i row, s)) v.row false

-- some version of the slot is protected
abbrev pub has_protected : Head → IndexId → Range → Stand → Rid → List Version → Bool
has_protected head i range stand s vs = list_any (is_protected head i range stand s) vs

-- the slot has one on the first world or on the second
abbrev pub is_watched : Head → World → World → TableId → IndexId → Range → Stand → Rid → Bool
is_watched head w x t i range stand s =
    has_protected head i range stand s (versions w t s) || has_protected head i range stand s (versions x t s)

-- of a slot that has a protected version before or after the entry:
unfoldable pub RangeStays : Head → World → Conn → TableId → IndexId → Range → Stand → List Entry → Type 0
RangeStays head w c t i range stand [] = Unit {0}
RangeStays head w c t i range stand (e ∷ es) =
    (IsTrue (is_others c e) → (s : Rid) → IsTrue (is_watched head w (after head w e) t i range stand s) → versions (after head w e) t s ≡ versions w t s)
    × (IsTrue (not (ends_unit c e)) → RangeStays head (after head w e) c t i range stand es)

-- the wants whose locks last
abbrev pub is_lasting : Want → Bool
is_lasting Steady = true
is_lasting Alter = true
is_lasting Repeat = true
is_lasting AlterKept = true
is_lasting _ = false

-- the act frees this row
abbrev pub is_free_at : TableId → Rid → Act → Bool
is_free_at t r (Free u s) = table_eq u t && rid_eq s r
is_free_at t r _ = false

-- the connection's next own entry frees the row
abbrev pub is_freed : Conn → TableId → Rid → List Entry → Bool
is_freed c t r es = option_map_or (λ e. is_free_at t r e.act) (find (is_own c) es) false

-- the world of the first k entries; entry k is this act of this connection
abbrev pub world_at : Head → List Entry → ℕ → World
world_at head es k = world head (take k es)

-- entry k is this act of this connection
abbrev pub StandsAt : List Entry → ℕ → Conn → Act → Type 0
StandsAt es k c a = slice_get es k ≡ Some (record { who = Agent c; act = a })

-- In every prefix, two connections that hold one name hold compatible modes
abbrev pub AreCompatible : List Hold → Type 0
AreCompatible holds =
    AllPairs (λ h g. IsTrue (name_eq h.name g.name && not (conn_eq h.conn g.conn)) → IsTrue (compatible h.mode g.mode)) holds

-- it holds on each prefix
abbrev pub HoldsGuarded : Head → List Entry → Type 0
HoldsGuarded head es = (k : ℕ) → AreCompatible (world_at head es k).holds

-- A granted Current look at a slot with another unit's pending version shows the settled row
abbrev pub ReadsGuarded : Head → List Entry → Type 0
ReadsGuarded head es = (k : ℕ) (c : Conn) (t : TableId) (r : Rid) → StandsAt es k c (Look t r Current Got.Granted)
    → IsTrue (is_changed_beside (world_at head es k) c t r)
    → shown (world_at head es k) c t r Current ≡ settled_row head (take k es) t r

-- A granted lasting look at a slot that is not dead, not followed by its Free: the slot stays
abbrev pub RowsGuarded : Head → List Entry → Type 0
RowsGuarded head es =
    (k : ℕ) (c : Conn) (t : TableId) (r : Rid) (want : Want) → StandsAt es k c (Look t r want Got.Granted)
    → IsTrue (is_lasting want) → IsTrue (not (is_dead (versions (world_at head es k) t r)))
    → IsTrue (not (is_freed c t r (drop (k + 1) es)))
    → SlotStays head (world_at head es (k + 1)) c t r (drop (k + 1) es)

-- From where a connection holds S or more on a table, as an RR table scan does from its grant on
abbrev pub TablesGuarded : Head → List Entry → Type 0
TablesGuarded head es =
    (k : ℕ) (c : Conn) (t : TableId) → IsTrue (holds_at_least (world_at head es k).holds c (Table t) S)
    → TableStays head (world_at head es k) c t (drop k es)

-- A Next of an RR index scan over a range, from the Next on
-- (it needs Conduct: that the Nexts before it are those of its scan)
abbrev pub RangesGuarded : Head → List Entry → Type 0
RangesGuarded head es =
    (k : ℕ) (c : Conn) (i : IndexId) (t : TableId) (range : Range) (at : Option (Value × Rid)) (got : Stand)
    → StandsAt es k c (Next i range at true got) → table_of_index head i ≡ Some t
    → RangeStays head (world_at head es (k + 1)) c t i range got (drop (k + 1) es)

-- the first three guards, which Ground gives
pub record IsGuarded (head : Head) (es : List Entry) : Type 0 where
  pub holds : HoldsGuarded head es
  pub reads : ReadsGuarded head es
  pub rows : RowsGuarded head es
