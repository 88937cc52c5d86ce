-- The lock list: names, each with its holders and waiters. The order of the names is of no matter.
-- Db2 LUW, 'locklist' and 'maxlocks' configuration parameters; the unit of a slot is this project's own.
use Rattle.std.specs.List.{list_any}
use Rattle.std.specs.Option.{option_map_or}
use Rattle.std.specs.Prelude.{◌≡◌, map, ℕ, zero, suc, ◌+◌, Bool, true, false, not, ◌&&◌, List, [], ◌∷◌, if◌then◌else◌, nat_lt, count_by, Result, Ok, Err}
pub use Rattle.iso_lines.specs.Named.{cancelled, nobody, released}
pub use Rattle.iso_lines.specs.Tasks.{is_spared, table_in}
use Rattle.iso_lines.specs.Named.{Named, line_under}
use Rattle.iso_locklist.specs.declared.room.LockFault.{LockFault}
use Rattle.iso_locklist.specs.declared.room.Room.{Room}
use Rattle.iso_locklist.specs.declared.room.Room.TheVariants.{AtCapacity, AtShare, Free}
use Rattle.iso_modes.specs.Modes.{covers}
use Rattle.iso_modes.specs.declared.Mode.{Mode}
use Rattle.iso_queue.specs.Lines.{Line, has_mode, hold_of, is_grantable, is_touched}
use Rattle.iso_queue.specs.declared.types.Asked.{Asked}
use Rattle.iso_types.specs.Ids.{name_eq}
use Rattle.iso_types.specs.declared.value.Conn.{Conn}
use Rattle.iso_types.specs.declared.value.Name.{Name}
use Rattle.iso_types.specs.declared.value.Name.TheVariants.{Table}
use Rattle.iso_types.specs.declared.value.TableId.{TableId}

-- a name with its holders and waiters
pub record Place : Type 0 where
  pub name : Name
  pub queue : Line

abbrev pub place : Name → Line → Place
place n q = record { name = n; queue = q }

-- the lock list: its places, the share of one connection, the slots of all, and the table of each index
pub record Ledger : Type 0 where
  pub places : List Place
  pub share : ℕ
  pub slots : ℕ
  pub index_tables : List TableId

-- the holders and waiters of the name
abbrev pub line_at : List Place → Name → Line
line_at [] n = nobody
line_at (p ∷ ps) n = if name_eq p.name n then p.queue else line_at ps n

-- the number of names that the connection holds or awaits
abbrev pub taken : List Place → Conn → ℕ
taken ps c = count_by (λ p. is_touched p.queue c) ps

-- the same for the connections below k together
abbrev pub taken_below : List Place → ℕ → ℕ
taken_below ps zero = 0
taken_below ps (suc k) = taken_below ps k + taken ps (record { 0 = k })

-- the same for all 32 connections together
unfoldable pub all_taken : List Place → ℕ
all_taken ps = taken_below ps 32

-- 1 for what is so, else 0
abbrev pub one : Bool → ℕ
one b = if b then 1 else 0

-- the names of the places
abbrev pub names : List Place → List Name
names ps = map (λ p. p.name) ps

-- no two names are the same
abbrev pub are_apart : List Name → Bool
are_apart [] = true
are_apart (n ∷ ns) = not (list_any (λ m. name_eq m n) ns) && are_apart ns

-- each name has one place
pub record IsLedger (ps : List Place) : Type 0 where
  pub apart : are_apart (names ps) ≡ true

-- the names of a register, each with its line
abbrev pub places_in : Named → List Place
places_in l = map (λ e. place e.0 (line_under l.slots e.1)) l.index

-- whether a need of that many more is at its limit: the share first, then the slots
abbrev pub room_by : ℕ → ℕ → ℕ → ℕ → ℕ → Room
room_by count total share slots more =
    if nat_lt share (count + more) then AtShare else if nat_lt slots (total + more) then AtCapacity else Free

-- the same for a connection of the lock list
abbrev pub room_for : Ledger → Conn → ℕ → Room
room_for l c more = room_by (taken l.places c) (all_taken l.places) l.share l.slots more

-- a request needs a slot, or none where the connection holds or awaits the name
abbrev pub need_of : List Place → Conn → Name → ℕ
need_of ps c n = if is_touched (line_at ps n) c then 0 else 1

-- the room for a request: where the connection holds the mode already it needs none
abbrev pub room_to_ask : Ledger → Conn → Name → Mode → Room
room_to_ask l c n m = if has_mode (line_at l.places n).holders c m then Free else room_for l c (need_of l.places c n)

-- the connection's wait has no edge
abbrev pub is_grantable_in : List Place → Conn → Bool
is_grantable_in ps c = list_any (λ p. is_grantable p.queue c) ps

-- a request fails by a limit exactly where its need is at that limit
abbrev pub IsLimited : Room → Result Asked LockFault → Type 0
IsLimited AtShare result = result ≡ Err LockFault.AtShare
IsLimited AtCapacity result = result ≡ Err LockFault.AtCapacity
IsLimited Free (Err f) = f ≡ LockFault.Memory
IsLimited Free (Ok a) = Unit {0}

-- the limits and the tables of the indexes are the same
pub record IsSameLimits (l m : Ledger) : Type 0 where
  pub share : l.share ≡ m.share
  pub slots : l.slots ≡ m.slots
  pub index_tables : l.index_tables ≡ m.index_tables

-- the connection's hold on the table covers the mode
abbrev pub is_covered_on : List Place → Conn → Mode → TableId → Bool
is_covered_on ps c m t = option_map_or (λ h. covers h.mode m) (hold_of (line_at ps (Table t)).holders c) false

-- the connection's hold on the name's table covers the mode
abbrev pub is_covered : Ledger → Conn → Name → Mode → Bool
is_covered l c n m = option_map_or (is_covered_on l.places c m) (table_in l.index_tables n) false
