-- When a lock list stands for a history's holds and waits. Nothing of how names are kept is told.
use Rattle.std.specs.List.{list_any}
use Rattle.std.specs.Option.{option_map_or}
use Rattle.std.specs.Prelude.{◌≡◌, ◌≤◌, ℕ, Bool, List, [], ◌∷◌, true, false, count_by, filter, length, map, not, Option, if◌then◌else◌, ◌&&◌, ◌||◌}
use Rattle.iso_locklist.specs.Lists.{IsHeadsIn, IsSingleIn, asked_for, named_hold, named_wait, waiting_for}
use Rattle.iso_locklist.specs.Places.{Ledger, line_at, room_by}
use Rattle.iso_locklist.specs.declared.places.Asking.{Asking}
use Rattle.iso_locklist.specs.declared.room.Room.{Room}
use Rattle.iso_locklist.specs.declared.room.Room.TheVariants.{Free}
use Rattle.iso_modes.specs.Modes.{mode_eq}
use Rattle.iso_modes.specs.Terms.{is_brief}
use Rattle.iso_modes.specs.declared.Mode.{Mode}
use Rattle.iso_modes.specs.declared.Term.{Term}
use Rattle.iso_modes.specs.declared.Term.TheVariants.{Kept}
use Rattle.iso_queue.specs.Limits.{all_taken, taken}
use Rattle.iso_queue.specs.Lines.{Line}
use Rattle.iso_queue.specs.Locks.{Hold, added, held, is_held, settled_one, target}
use Rattle.iso_queue.specs.Queues.{Wait, is_waiting, queue, queued}
use Rattle.iso_types.specs.Ids.{conn_eq, name_eq}
use Rattle.iso_types.specs.declared.head.Head.{Head}
use Rattle.iso_types.specs.declared.head.IndexDef.{IndexDef}
use Rattle.iso_types.specs.declared.value.Conn.{Conn}
use Rattle.iso_types.specs.declared.value.Name.{Name}

-- of each name the holders are its holds, in order of first grant, and the queue is that of its waits
pub record AreLines (hs : List Hold) (xs : List Wait) (line : Name → Line) : Type 0 where
  pub holds : (n : Name) → map (named_hold n) (line n).holders ≡ filter (λ h. name_eq h.name n) hs
  pub waits : (n : Name) → map (named_wait n) (line n).waiters ≡ queue xs n

-- the holders and waiters of the name
abbrev pub line_of : Ledger → Name → Line
line_of l n = line_at l.places n

-- the lock list is that of these holds and waits
abbrev pub LocksAre : List Hold → List Wait → Ledger → Type 0
LocksAre hs xs l = AreLines hs xs (line_of l)

-- its tables of indexes are the head's
abbrev pub HasTables : Head → Ledger → Type 0
HasTables head l = l.index_tables ≡ map (λ (d : IndexDef). d.table) head.indexes

-- the connection holds the mode already
abbrev pub holds_mode : List Hold → Conn → Name → Mode → Bool
holds_mode hs c n m = option_map_or (mode_eq (target hs c n m)) (held hs c n) false

-- whether a need of that many more names is at a limit
abbrev pub room_in_lists : Head → Ledger → List Hold → List Wait → Conn → ℕ → Room
room_in_lists head l hs xs c k = room_by (taken hs xs c) (all_taken head hs xs) l.share l.slots k

-- the connection has one wait at most
abbrev pub WaitsOnce : List Wait → Conn → Type 0
WaitsOnce xs c = count_by (λ x. conn_eq x.conn c) xs ≤ 1

-- a request needs a name more, or none where the connection holds or awaits the name
abbrev pub need_in : List Hold → List Wait → Conn → Name → ℕ
need_in hs xs c n = if is_held hs c n || is_waiting (queue xs n) c then 0 else 1

-- the room for a request: where the connection holds the mode already it needs none
abbrev pub room_asked : Head → Ledger → List Hold → List Wait → Conn → Name → Mode → Room
room_asked head l hs xs c n m = if holds_mode hs c n m then Free else room_in_lists head l hs xs c (need_in hs xs c n)

-- no connection holds a name twice or has two waits, and none but the head's, at most 32, holds or awaits one
pub record AreOfHead (head : Head) (hs : List Hold) (xs : List Wait) : Type 0 where
  pub few : length head.conns ≤ 32
  pub single : (c : Conn) → IsSingleIn hs xs c
  pub conns : IsHeadsIn head hs xs

-- the lock list after a request: it is added to the holds where it is granted, else its wait to the waits
pub record AreAsked (granted : Bool) (hs : List Hold) (xs : List Wait) (c : Conn) (n : Name) (m : Mode) (t : Term) (l : Ledger) : Type 0 where
  pub granted_are : granted ≡ true → LocksAre (added hs c (asked_for n m t)) xs l
  pub queued_are : granted ≡ false → LocksAre hs (queued hs (waiting_for hs c n m t) xs) l

-- the connection's holds on all names but one are settled
abbrev pub settled_beside : Conn → Option Name → Name → List Hold → List Hold
settled_beside c spare m holds =
    filter (λ h. name_eq m h.name || not (conn_eq h.conn c && is_brief h.term))
    (map (λ h. if name_eq m h.name then h else settled_one c spare h) holds)

-- nobody holds or awaits the name
pub record IsNew (hs : List Hold) (xs : List Wait) (n : Name) : Type 0 where
  pub held : filter (λ h. name_eq h.name n) hs ≡ []
  pub awaited : queue xs n ≡ []

-- nobody holds or awaits one of the names, and no two of them are the same
abbrev pub AreNew : List Hold → List Wait → List Asking → Type 0
AreNew hs xs [] = Unit {0}
AreNew hs xs (a ∷ asks) = IsNew hs xs a.name × (list_any (λ b. name_eq a.name b.name) asks ≡ false) × AreNew hs xs asks

-- the holds with each of them added, as one that is kept
abbrev pub all_added : List Hold → Conn → List Asking → List Hold
all_added hs c [] = hs
all_added hs c (a ∷ asks) = all_added (added hs c (asked_for a.name a.mode Kept)) c asks
