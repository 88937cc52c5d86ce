-- What the steps of an index scan leave of locks and waits, and that their entries may stand.
use Rattle.std.proofs.Common.{◌≡◌, List, ◌&&◌, ◌||◌, Bool, true, false, not, refl, ap, sym, subst, ◌∙◌, Some, None, Option}
use Rattle.std.specs.Prelude.{IsTrue, if◌then◌else◌}
use Rattle.iso_history.specs.After.{after, world}
use Rattle.iso_history.specs.Entries.{found, is_in_range, key_name, stand_of}
use Rattle.iso_history.specs.Holds.{next_name}
use Rattle.iso_history.specs.Legal.{ByAgent, Runs}
use Rattle.iso_history.specs.Makers.{by_agent}
use Rattle.iso_history.specs.Nexts.{may_next, next, stand_after}
use Rattle.iso_history.specs.Requests.{Outcome, asking, is_had, is_limited, need_of, request}
use Rattle.iso_history.specs.Requests.Outcome.{Gives, Limit}
use Rattle.iso_history.specs.World.{World}
use Rattle.iso_history.specs.declared.entry.Act.{Act}
use Rattle.iso_history.specs.declared.entry.Act.TheVariants.{Next}
use Rattle.iso_history.specs.declared.entry.Got.{Got}
use Rattle.iso_history.specs.declared.entry.Stand.{Stand}
use Rattle.iso_history.specs.declared.entry.Stand.TheVariants.{At, Past}
use Rattle.iso_locklist.specs.Holding.{LocksAre}
use Rattle.iso_locklist.specs.Lists.{asked_for}
use Rattle.iso_locklist.specs.Places.{Ledger}
use Rattle.iso_modes.specs.declared.Mode.{Mode}
use Rattle.iso_modes.specs.declared.Mode.TheVariants.{S}
use Rattle.iso_modes.specs.declared.Term.TheVariants.{Kept}
use Rattle.iso_queue.specs.Locks.{Hold, Request, placed, settled, target, without_briefs}
use Rattle.iso_queue.specs.Queues.{Wait, queued, would_wait}
use Rattle.iso_types.specs.declared.head.Head.{Head}
use Rattle.iso_types.specs.declared.head.Range.{Range}
use Rattle.iso_types.specs.declared.value.Conn.{Conn}
use Rattle.iso_types.specs.declared.value.IndexId.{IndexId}
use Rattle.iso_types.specs.declared.value.Name.{Name}
use Rattle.iso_types.specs.declared.value.Rid.{Rid}
use Rattle.iso_types.specs.declared.value.Value.{Value}
use Rattle.iso_state.specs.Kinds.{is_bare}
use Rattle.iso_state.specs.Stands.{Content}
use Rattle.iso_reads.specs.Nexts.{lands}

-- where a range stands at what is found, no lock is awaited
pub of-range : (range : Range) (o : Option (Value × Rid)) → lands (stand_of range o) ≡ true
of-range range None = refl
of-range range (Some p) = go (is_in_range range p.0)
  where
    go : (b : Bool) → lands (if b then At p.0 p.1 else Past) ≡ true
    go true = refl
    go false = refl

pub bare-next : (i : IndexId) (range : Range) (at : Option (Value × Rid)) (guarded : Bool) (s : Stand) → lands s ≡ true
    → is_bare (Next i range at guarded s) ≡ true
bare-next i range at guarded (At v r) e = refl
bare-next i range at guarded Past e = refl
bare-next i range at guarded (Stand.Queued n) e = cc e
bare-next i range at guarded (Stand.TimedOut n) e = cc e

-- a step that asks for no lock settles the connection's holds
pub passed-holds : (head : Head) (w : World) (c : Conn) (i : IndexId) (range : Range) (at : Option (Value × Rid)) (s : Stand) → lands s ≡ true
    → (after head w (by_agent c (Next i range at false s))).holds ≡ without_briefs w.holds c (settled c None w.holds)
passed-holds head w c i range at (At v r) e = refl
passed-holds head w c i range at Past e = refl
passed-holds head w c i range at (Stand.Queued n) e = cc e
passed-holds head w c i range at (Stand.TimedOut n) e = cc e

-- one that is granted its lock places it besides
pub taken-holds : (head : Head) (w : World) (c : Conn) (i : IndexId) (range : Range) (at : Option (Value × Rid)) (n : Name) (s : Stand)
    → n ≡ next_name w i range at → lands s ≡ true
    → (after head w (by_agent c (Next i range at true s))).holds ≡ without_briefs w.holds c (placed head (settled c None w.holds) c (asked_for n S Kept))
taken-holds head w c i range at n (At v r) is e = rw is refl
taken-holds head w c i range at n Past is e = rw is refl
taken-holds head w c i range at n (Stand.Queued m) is e = cc e
taken-holds head w c i range at n (Stand.TimedOut m) is e = cc e

-- the mode that a request which queues will hold
pub to-target : (head : Head) (w : World) (c : Conn) (n : Name) (m to : Mode) → request head w c n m ≡ Gives (Got.Queued to) → to ≡ target w.holds c n m
to-target head w c n m to =
    go (is_had head w c n m) (is_limited head w c (need_of w c n)) (would_wait w.holds w.waits (asking w c n m)) (w.setting c).may_wait (target w.holds c n m)
  where
    got-mode : Mode → Outcome → Mode
    got-mode d (Gives (Got.Queued m)) = m
    got-mode d _ = d

    go : (had limited waits may : Bool) (t : Mode)
        → (if had then Gives Got.Granted else if limited then Limit else if not waits then Gives Got.Granted
        else if may then Gives (Got.Queued t) else Gives Got.TimedOut) ≡ Gives (Got.Queued to)
        → to ≡ t
    go true l x y t e = cc e
    go false true x y t e = cc e
    go false false false y t e = cc e
    go false false true true t e = sym (ap (got-mode t) e)
    go false false true false t e = cc e

-- so what joins the waits is this
pub joined-waits : (head : Head) (w : World) (c : Conn) (i : IndexId) (range : Range) (at : Option (Value × Rid)) (n : Name) (to : Mode)
    → request head w c n S ≡ Gives (Got.Queued to)
    → (after head w (by_agent c (Next i range at true (Stand.Queued n)))).waits
    ≡ queued w.holds (record { name = n; conn = c; target = to; term = Kept }) w.waits
joined-waits head w c i range at n to e =
    ap (λ (t : Mode). queued w.holds (record { name = n; conn = c; target = t; term = Kept }) w.waits) (sym (to-target head w c n S to e))

-- where a guarded step stands, by its request
pub guarded-stand : (head : Head) (w : World) (c : Conn) (i : IndexId) (range : Range) (at : Option (Value × Rid)) (n : Name) (o : Outcome)
    → n ≡ next_name w i range at → request head w c n S ≡ o
    → next head w c i range at true ≡ stand_after o n (stand_of range (found w i range at))
guarded-stand head w c i range at n o is e =
    subst (λ (m : Name). stand_after (request head w c m S) m (stand_of range (found w i range at)) ≡ stand_after o n (stand_of range (found w i range at))) is
    (ap (λ (x : Outcome). stand_after x n (stand_of range (found w i range at))) e)

-- the holds after an entry that settles them, in content that is the same
pub settled-now : (p q : Content) (c : Conn) (a : Act) (l : Ledger) (xs : List Wait) → q ≡ p
    → (after p.head (world p.head p.history) (by_agent c a)).holds ≡ without_briefs (world p.head p.history).holds c (settled c None (world p.head p.history).holds)
    → LocksAre (without_briefs (world q.head q.history).holds c (settled c None (world q.head q.history).holds)) xs l
    → LocksAre (after q.head (world q.head q.history) (by_agent c a)).holds xs l
settled-now p q c a l xs same leaves are =
    subst (λ (hs : List Hold). LocksAre hs xs l)
    (sym (subst (λ (x : Content). (after x.head (world x.head x.history) (by_agent c a)).holds
    ≡ without_briefs (world x.head x.history).holds c (settled c None (world x.head x.history).holds)) (sym same) leaves)) are

-- and after one that places a lock
pub placed-now : (p q : Content) (c : Conn) (a : Act) (r : Request) (l : Ledger) (xs : List Wait) → q ≡ p
    → (after p.head (world p.head p.history) (by_agent c a)).holds
    ≡ without_briefs (world p.head p.history).holds c (placed p.head (settled c None (world p.head p.history).holds) c r)
    → LocksAre (without_briefs (world q.head q.history).holds c (placed q.head (settled c None (world q.head q.history).holds) c r)) xs l
    → LocksAre (after q.head (world q.head q.history) (by_agent c a)).holds xs l
placed-now p q c a r l xs same leaves are =
    subst (λ (hs : List Hold). LocksAre hs xs l)
    (sym (subst (λ (x : Content). (after x.head (world x.head x.history) (by_agent c a)).holds
    ≡ without_briefs (world x.head x.history).holds c (placed x.head (settled c None (world x.head x.history).holds) c r)) (sym same) leaves)) are

-- holds and waits after one that queues
pub queued-now : (p q : Content) (c : Conn) (a : Act) (x : Wait) (l : Ledger) → q ≡ p
    → (after p.head (world p.head p.history) (by_agent c a)).holds ≡ without_briefs (world p.head p.history).holds c (settled c None (world p.head p.history).holds)
    → (after p.head (world p.head p.history) (by_agent c a)).waits ≡ queued (world p.head p.history).holds x (world p.head p.history).waits
    → LocksAre (without_briefs (world q.head q.history).holds c (settled c None (world q.head q.history).holds))
    (queued (world q.head q.history).holds x (world q.head q.history).waits) l
    → LocksAre (after q.head (world q.head q.history) (by_agent c a)).holds (after q.head (world q.head q.history) (by_agent c a)).waits l
queued-now p q c a x l same leaves joins are =
    subst (λ (ws : List Wait). LocksAre (after q.head (world q.head q.history) (by_agent c a)).holds ws l)
    (sym (subst (λ (y : Content). (after y.head (world y.head y.history) (by_agent c a)).waits
    ≡ queued (world y.head y.history).holds x (world y.head y.history).waits) (sym same) joins))
    (settled-now p q c a l (queued (world q.head q.history).holds x (world q.head q.history).waits) same leaves are)

-- a request in content that is the same
pub request-now : (p q : Content) (c : Conn) (n : Name) (o : Outcome) → q ≡ p → request p.head (world p.head p.history) c n S ≡ o
    → request q.head (world q.head q.history) c n S ≡ o
request-now p q c n o same is = subst (λ (x : Content). request x.head (world x.head x.history) c n S ≡ o) (sym same) is
