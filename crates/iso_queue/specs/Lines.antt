-- One lock name: its holders, and the waiters in queue order.
-- That waiters stand in a queue, and when one is granted, is this project's own; modes and conversions are those of
-- Db2 LUW, 'Lock type compatibility' and 'Lock conversion'.
use Rattle.std.specs.List.{list_any}
use Rattle.std.specs.Option.{option_map_or}
use Rattle.std.specs.Prelude.{ℕ, zero, suc, ◌+◌, ◌^◌, Bool, true, false, not, ◌&&◌, ◌||◌, List, [], ◌∷◌, is_some, if◌then◌else◌, filter, find, map, Option}
use Rattle.iso_modes.specs.Modes.{compatible, joined, mode_eq}
use Rattle.iso_modes.specs.Terms.{is_brief, is_fresh, is_kept}
use Rattle.iso_modes.specs.declared.Mode.{Mode}
use Rattle.iso_modes.specs.declared.Mode.TheVariants.{Nw, S}
use Rattle.iso_modes.specs.declared.Term.{Term}
use Rattle.iso_modes.specs.declared.Term.TheVariants.{Kept}
use Rattle.iso_queue.specs.declared.types.Hold.{Hold}
use Rattle.iso_queue.specs.declared.types.Waiter.{Waiter}
use Rattle.iso_types.specs.Ids.{conn_eq}
use Rattle.iso_types.specs.declared.value.Conn.{Conn}

-- the holders and the waiters of one name
pub record Line : Type 0 where
  pub holders : List Hold
  pub waiters : List Waiter

-- the connection's hold
abbrev pub hold_of : List Hold → Conn → Option Hold
hold_of hs c = find (λ h. conn_eq h.conn c) hs

-- the connection holds the name
abbrev pub is_holder : List Hold → Conn → Bool
is_holder hs c = is_some (hold_of hs c)

-- the connection's wait
abbrev pub waiter_of : List Waiter → Conn → Option Waiter
waiter_of ws c = find (λ w. conn_eq w.conn c) ws

-- the connection waits
abbrev pub is_waiter : List Waiter → Conn → Bool
is_waiter ws c = is_some (waiter_of ws c)

-- what the connection holds once the mode is granted
abbrev pub target_of : List Hold → Conn → Mode → Mode
target_of hs c m = option_map_or (λ h. joined h.mode m) (hold_of hs c) m

-- the connection holds the mode already
abbrev pub has_mode : List Hold → Conn → Mode → Bool
has_mode hs c m = option_map_or (λ h. mode_eq (joined h.mode m) h.mode) (hold_of hs c) false

-- the joined mode, and the asked term unless the hold was Kept
abbrev pub raised : Hold → Hold → Hold
raised x h = record { conn = h.conn; mode = joined h.mode x.mode; term = if is_kept h.term then Kept else x.term }

-- an own hold is raised; else a new hold is added
abbrev pub granted : List Hold → Hold → List Hold
granted [] x = x ∷ []
granted (h ∷ hs) x = if conn_eq h.conn x.conn then raised x h ∷ hs else h ∷ granted hs x

-- a conversion stands before the waiting new requests, a new request last
abbrev pub queued : List Hold → Waiter → List Waiter → List Waiter
queued hs x [] = x ∷ []
queued hs x (w ∷ ws) = if is_holder hs x.conn && not (is_holder hs w.conn) then x ∷ w ∷ ws else w ∷ queued hs x ws

-- another connection holds the name in a mode that does not go with the target
abbrev pub opposes : Conn → Mode → Hold → Bool
opposes c target h = not (conn_eq h.conn c) && not (compatible h.mode target)

-- the waiters before the connection's own wait
abbrev pub before : List Waiter → Conn → List Waiter
before [] c = []
before (w ∷ ws) c = if conn_eq w.conn c then [] else w ∷ before ws c

-- the wait has an edge: to a holder that opposes it, or to an earlier waiter
abbrev pub has_edge : List Hold → List Waiter → Waiter → Bool
has_edge hs ws x = list_any (opposes x.conn x.target) hs || list_any (λ _. true) (before ws x.conn)

-- the wait has an edge to this connection
abbrev pub has_edge_to : List Hold → List Waiter → Waiter → Conn → Bool
has_edge_to hs ws x d =
    list_any (λ h. conn_eq h.conn d && opposes x.conn x.target h) hs || list_any (λ w. conn_eq w.conn d) (before ws x.conn)

-- a request for the target would have an edge: it is judged as if it stood last, a conversion as if last of the conversions
abbrev pub would_wait : List Hold → List Waiter → Waiter → Bool
would_wait hs ws x = has_edge hs (queued hs x ws) x

-- the wait that a request would make
abbrev pub wait_for : List Hold → Conn → Mode → Term → Waiter
wait_for hs c m t = record { conn = c; target = target_of hs c m; term = t }

-- a request is granted at once where its target is the held mode, or where it has no edge, whatever its term
abbrev pub is_granted : Line → Conn → Mode → Bool
is_granted q c m = has_mode q.holders c m || not (would_wait q.holders q.waiters (wait_for q.holders c m Kept))

-- the line after a request
abbrev pub asked : Line → Conn → Mode → Term → Line
asked q c m t =
    if is_granted q c m
    then record { holders = granted q.holders (record { conn = c; mode = m; term = t }); waiters = q.waiters }
    else record { holders = q.holders; waiters = queued q.holders (wait_for q.holders c m t) q.waiters }

-- the connection's wait goes
abbrev pub unqueued : Conn → List Waiter → List Waiter
unqueued c ws = filter (λ w. not (conn_eq w.conn c)) ws

-- the connection's hold goes
abbrev pub unheld : Conn → List Hold → List Hold
unheld c hs = filter (λ h. not (conn_eq h.conn c)) hs

-- the connection waits, and its wait has no edge
abbrev pub is_grantable : Line → Conn → Bool
is_grantable q c = option_map_or (λ x. not (has_edge q.holders q.waiters x)) (waiter_of q.waiters c) false

-- the wait goes, and its target and term are granted
abbrev pub taken_in : Line → Conn → Waiter → Line
taken_in q c x =
    record { holders = granted q.holders (record { conn = c; mode = x.target; term = x.term }); waiters = unqueued c q.waiters }

-- the line after a claim
abbrev pub claimed : Line → Conn → Line
claimed q c = option_map_or (λ x. if has_edge q.holders q.waiters x then q else taken_in q c x) (waiter_of q.waiters c) q

-- the number whose bit d, for each d below k, is set where connection d passes the test
unfoldable pub bits_of : (Conn → Bool) → ℕ → ℕ
bits_of test zero = 0
bits_of test (suc k) = bits_of test k + (if test (record { 0 = k }) then 2 ^ k else 0)

-- the edges of the connection's wait: bit d for connection d
abbrev pub edges_of : Line → Conn → ℕ
edges_of q c = option_map_or (λ x. bits_of (has_edge_to q.holders q.waiters x) 32) (waiter_of q.waiters c) 0

-- a hold of the connection that is Fresh, and not spared, becomes Kept
abbrev pub settled_hold : Conn → Bool → Hold → Hold
settled_hold c spared h = if conn_eq h.conn c && (is_fresh h.term && not spared) then record h { term = Kept } else h

-- then its Brief holds go
abbrev pub settled : Line → Conn → Bool → Line
settled q c spared =
    record { holders = filter (λ h. not (conn_eq h.conn c && is_brief h.term)) (map (settled_hold c spared) q.holders); waiters = q.waiters }

-- another connection holds S or NW
abbrev pub is_guarded_against : List Hold → Conn → Bool
is_guarded_against hs c = list_any (λ h. not (conn_eq h.conn c) && (mode_eq h.mode S || mode_eq h.mode Nw)) hs

-- the connection holds or awaits the name
abbrev pub is_touched : Line → Conn → Bool
is_touched q c = is_holder q.holders c || is_waiter q.waiters c

-- somebody holds or awaits the name
abbrev pub is_used : Line → Bool
is_used q = list_any (λ _. true) q.holders || list_any (λ _. true) q.waiters
