-- The lock list as one list of the holds, and one of the waits, of all names: the form in which a history's locks are told.
use Rattle.std.specs.List.{flat_map}
use Rattle.std.specs.Option.{option_map_or}
use Rattle.std.specs.Prelude.{◌≡◌, ◌≤◌, Bool, List, count_by, false, filter, if◌then◌else◌, map, not, ◌||◌}
use Rattle.iso_locklist.specs.Places.{line_at, taken}
use Rattle.iso_locklist.specs.Places.{Place}
use Rattle.iso_modes.specs.Modes.{mode_eq}
use Rattle.iso_modes.specs.declared.Mode.{Mode}
use Rattle.iso_modes.specs.declared.Term.{Term}
use Rattle.iso_modes.specs.declared.Term.TheVariants.{Brief}
use Rattle.iso_queue.specs.Limits as limits
use Rattle.iso_queue.specs.Locks as locks
use Rattle.iso_queue.specs.Queues as queues
use Rattle.iso_queue.specs.declared.types.Hold.{Hold}
use Rattle.iso_queue.specs.declared.types.Waiter.{Waiter}
use Rattle.iso_types.specs.Head.{is_conn}
use Rattle.iso_types.specs.Ids.{conn_eq, name_eq}
use Rattle.iso_types.specs.declared.head.Head.{Head}
use Rattle.iso_types.specs.declared.value.Conn.{Conn}
use Rattle.iso_types.specs.declared.value.Name.{Name}

-- the hold with its name
abbrev pub named_hold : Name → Hold → locks.Hold
named_hold n h = record { name = n; conn = h.conn; mode = h.mode; term = h.term }

-- the wait with its name
abbrev pub named_wait : Name → Waiter → queues.Wait
named_wait n w = record { name = n; conn = w.conn; target = w.target; term = w.term }

-- the holds of all names
abbrev pub holds_in : List Place → List locks.Hold
holds_in ps = flat_map (λ p. map (named_hold p.name) p.queue.holders) ps

-- the waits of all names, those of one name in queue order
abbrev pub waits_in : List Place → List queues.Wait
waits_in ps = flat_map (λ p. map (named_wait p.name) p.queue.waiters) ps

-- the connection holds no name twice, and has one wait at most
pub record IsSingle (ps : List Place) (c : Conn) : Type 0 where
  pub holds : (n : Name) → count_by (λ h. conn_eq h.conn c) (line_at ps n).holders ≤ 1
  pub waits : count_by (λ w. conn_eq w.conn c) (waits_in ps) ≤ 1

-- nobody but the head's connections holds or awaits a name
abbrev pub IsHeads : Head → List Place → Type 0
IsHeads head ps = (c : Conn) → is_conn head c ≡ false → taken ps c ≡ 0

-- of each name the same holds, in the same order
abbrev pub HoldsAlike : List locks.Hold → List locks.Hold → Type 0
HoldsAlike xs ys = (n : Name) → filter (λ h. name_eq h.name n) xs ≡ filter (λ h. name_eq h.name n) ys

-- of each name the same waits, in the same order
abbrev pub WaitsAlike : List queues.Wait → List queues.Wait → Type 0
WaitsAlike xs ys = (n : Name) → queues.queue xs n ≡ queues.queue ys n

-- the request for a name
abbrev pub asked_for : Name → Mode → Term → locks.Request
asked_for n m t = record { name = n; mode = m; term = t }

-- the wait that the request makes
abbrev pub waiting_for : List locks.Hold → Conn → Name → Mode → Term → queues.Wait
waiting_for holds c n m t = record { name = n; conn = c; target = locks.target holds c n m; term = t }

-- a request is granted at once: the mode is held already, or its wait would have no edge
abbrev pub grants_in : List locks.Hold → List queues.Wait → Conn → Name → Mode → Bool
grants_in holds waits c n m =
    option_map_or (mode_eq (locks.target holds c n m)) (locks.held holds c n) false || not (queues.would_wait holds waits (waiting_for holds c n m Brief))

-- the holds after a claim: the wait's target and term are added where it has no edge
abbrev pub claimed_holds : List locks.Hold → List queues.Wait → Conn → List locks.Hold
claimed_holds holds waits c =
    option_map_or (λ x. if queues.has_edge holds waits x then holds else locks.added holds c (asked_for x.name x.target x.term)) (queues.wait_of waits c) holds

-- and the waits: it goes
abbrev pub claimed_waits : List locks.Hold → List queues.Wait → Conn → List queues.Wait
claimed_waits holds waits c = if queues.is_grantable holds waits c then queues.unqueued c waits else waits

-- in lists of all holds and waits: the connection holds no name twice, and has one wait at most
pub record IsSingleIn (hs : List locks.Hold) (xs : List queues.Wait) (c : Conn) : Type 0 where
  pub holds : (n : Name) → count_by (locks.is_hold_of c n) hs ≤ 1
  pub waits : count_by (λ x. conn_eq x.conn c) xs ≤ 1

-- nobody but the head's connections holds or awaits a name in the lists
abbrev pub IsHeadsIn : Head → List locks.Hold → List queues.Wait → Type 0
IsHeadsIn head holds waits = (c : Conn) → is_conn head c ≡ false → limits.taken holds waits c ≡ 0
