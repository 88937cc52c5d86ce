-- What each outcome of a look rests on: its request, its spared row, and that its entry may stand.
use Rattle.std.proofs.Common.{◌≡◌, ◌&&◌, Bool, true, false, not, List, [], ◌∷◌, refl, ap, sym, subst, ◌∙◌}
use Rattle.std.specs.Option.{option_map_or}
use Rattle.std.specs.Prelude.{None, Some, IsTrue, Option, if◌then◌else◌, is_some}
use Rattle.iso_history.specs.After.{after, world}
use Rattle.iso_history.specs.Holds.{looked, placed_by_want, request_on, spared_by_look}
use Rattle.iso_history.specs.Legal.{ByAgent, Runs}
use Rattle.iso_history.specs.Looks.{is_current, is_settled, look, may_look, want_asks}
use Rattle.iso_history.specs.Makers.{by_agent}
use Rattle.iso_history.specs.Requests.{Outcome, request}
use Rattle.iso_history.specs.Requests.Outcome.{Gives}
use Rattle.iso_history.specs.Versions.{is_dead, slots, versions}
use Rattle.iso_history.specs.Waits.{wait_term}
use Rattle.iso_history.specs.World.{Last, World}
use Rattle.iso_history.specs.World.Last.{Awaits, Claimed, Looked, Other}
use Rattle.iso_history.specs.declared.entry.Act.TheVariants.{Look, ScanEnd}
use Rattle.iso_history.specs.declared.entry.Got.{Got}
use Rattle.iso_history.specs.declared.entry.Want.{Want}
use Rattle.iso_history.specs.declared.entry.Want.TheVariants.{Alter, AlterKept, Current, Dirty, Repeat, Steady}
use Rattle.iso_locklist.specs.Holding.{LocksAre}
use Rattle.iso_locklist.specs.Lists.{asked_for}
use Rattle.iso_locklist.specs.Places.{Ledger}
use Rattle.iso_modes.specs.declared.Mode.{Mode}
use Rattle.iso_modes.specs.declared.Mode.TheVariants.{Ns}
use Rattle.iso_modes.specs.declared.Term.{Term}
use Rattle.iso_queue.specs.Locks.{Hold, Request, all_placed, placed, settled, without_briefs}
use Rattle.iso_queue.specs.Queues.{Wait}
use Rattle.iso_types.specs.Head.{is_table}
use Rattle.iso_types.specs.declared.head.Head.{Head}
use Rattle.iso_types.specs.declared.value.Conn.{Conn}
use Rattle.iso_types.specs.declared.value.Name.{Name}
use Rattle.iso_types.specs.declared.value.Name.TheVariants.{Row}
use Rattle.iso_types.specs.declared.value.Rid.{Rid}
use Rattle.iso_types.specs.declared.value.TableId.{TableId}
use Rattle.iso_state.specs.Stands.{Content, is_claimed}
use Rattle.iso_reads.specs.Answers.{asked_mode, places}

-- the name that is spared
pub spare-is : (n : Name) (a : Last) → (if is_claimed a then Some n else None) ≡ spared_by_look n a
spare-is n Claimed = refl
spare-is n (Looked t r) = refl
spare-is n (Awaits t m) = refl
spare-is n Other = refl

-- a look that places no lock
pub bare-is : (w : World) (t : TableId) (r : Rid) (want : Want) → places w t r want ≡ false → looked w t r want ≡ []
bare-is w t r want none = go (is_dead (versions w t r)) (placed_by_want want) none
  where
    on-row : Mode × Term → List Request
    on-row m = request_on (Row t r) m ∷ []

    nothing : List Request
    nothing = []

    go : (b : Bool) (o : Option (Mode × Term)) → (is_some o && not b) ≡ false → (if b then nothing else option_map_or on-row o nothing) ≡ nothing
    go true o e = refl
    go false None e = refl
    go false (Some m) e = cc e

-- a want asks for its mode, or for none
want-asks : (head : Head) (w : World) (c : Conn) (t : TableId) (r : Rid) (want : Want) (m : Mode) → want_asks head w c t r want ≡ Some m
    → m ≡ asked_mode want
want-asks head w c t r Dirty m e = cc e
want-asks head w c t r Current m e = go (is_current head w c t r) e
  where
    go : (b : Bool) → (if b then None else Some Ns) ≡ Some m → m ≡ Ns
    go true e = cc e
    go false e = cc e
want-asks head w c t r Want.Settled m e = go (is_settled head w c t r) e
  where
    go : (b : Bool) → (if b then None else Some Ns) ≡ Some m → m ≡ Ns
    go true e = cc e
    go false e = cc e
want-asks head w c t r Steady m e = cc e
want-asks head w c t r Repeat m e = cc e
want-asks head w c t r Alter m e = cc e
want-asks head w c t r AlterKept m e = cc e

-- the outcome is no plain grant
abbrev pub asks-by : Outcome → Bool
asks-by (Gives Got.Granted) = false
asks-by _ = true

-- then it is that of the request for the want's mode
pub outcome-is : (head : Head) (w : World) (c : Conn) (t : TableId) (r : Rid) (want : Want) → asks-by (look head w c t r want) ≡ true
    → look head w c t r want ≡ request head w c (Row t r) (asked_mode want)
outcome-is head w c t r want asks = go (is_dead (versions w t r)) (want_asks head w c t r want) refl asks
  where
    go : (b : Bool) (o : Option Mode) → want_asks head w c t r want ≡ o
        → asks-by (option_map_or (request head w c (Row t r)) (if b then None else o) (Gives Got.Granted)) ≡ true
        → option_map_or (request head w c (Row t r)) (if b then None else o) (Gives Got.Granted) ≡ request head w c (Row t r) (asked_mode want)
    go true o e k = cc k
    go false None e k = cc k
    go false (Some m) e k = ap (request head w c (Row t r)) (want-asks head w c t r want m e)

-- a look that places a lock places this one
pub placed-is : (want : Want) → is_some (placed_by_want want) ≡ true → placed_by_want want ≡ Some (asked_mode want, wait_term want)
placed-is Dirty e = cc e
placed-is Current e = cc e
placed-is Want.Settled e = cc e
placed-is Steady e = refl
placed-is Repeat e = refl
placed-is Alter e = refl
placed-is AlterKept e = refl

both-of : (b c : Bool) → (c && not b) ≡ true → (b ≡ false) × (c ≡ true)
both-of b false e = cc e
both-of true true e = cc e
both-of false true e = (refl, refl)

module _ (head : Head) (w : World) (c : Conn) (t : TableId) (r : Rid) (want : Want) (lock : places w t r want ≡ true) where
  alive : is_dead (versions w t r) ≡ false
  alive = (both-of (is_dead (versions w t r)) (is_some (placed_by_want want)) lock).0

  locks : is_some (placed_by_want want) ≡ true
  locks = (both-of (is_dead (versions w t r)) (is_some (placed_by_want want)) lock).1

  -- it asks for it
  asks : want_asks head w c t r want ≡ Some (asked_mode want)
  asks = at want locks
    where
      at : (want : Want) → is_some (placed_by_want want) ≡ true → want_asks head w c t r want ≡ Some (asked_mode want)
      at Dirty e = cc e
      at Current e = cc e
      at Want.Settled e = cc e
      at Steady e = refl
      at Repeat e = refl
      at Alter e = refl
      at AlterKept e = refl

  -- so its outcome is the request's
  pub taken-asks : look head w c t r want ≡ Gives Got.Granted → request head w c (Row t r) (asked_mode want) ≡ Gives Got.Granted
  taken-asks outcome =
      sym (ap (λ (o : Option Mode). option_map_or (request head w c (Row t r)) o (Gives Got.Granted))
      (ap (λ (b : Bool). if b then None else want_asks head w c t r want) alive ∙ asks)) ∙ outcome

  -- and this is what it places
  pub taken-is : looked w t r want ≡ request_on (Row t r) (asked_mode want, wait_term want) ∷ []
  taken-is = rw (alive, placed-is want locks) refl

-- the entry of a look may stand
pub looked-by : (head : Head) (w : World) (c : Conn) (t : TableId) (r : Rid) (want : Want) (got : Got) → Runs w c
    → IsTrue (may_look head w c t r want) → look head w c t r want ≡ Gives got → ByAgent head w c (Look t r want got)
looked-by head w c t r want got runs may outcome = (runs, may, outcome)

-- and that of the end of a table
pub ended-by : (head : Head) (w : World) (c : Conn) (t : TableId) (r : Rid) → Runs w c → IsTrue (is_table head t) → r.0 ≡ slots w t
    → ByAgent head w c (ScanEnd t r.0)
ended-by head w c t r runs table last = (runs, table, last)

-- the holds once they are settled, but that on the name that is spared
pub spared-are : (hs : List Hold) (xs : List Wait) (l : Ledger) (c : Conn) (n : Name) (a : Last) (spare : Option Name)
    → spare ≡ (if is_claimed a then Some n else None) → LocksAre (without_briefs hs c (settled c spare hs)) xs l
    → LocksAre (without_briefs hs c (settled c (spared_by_look n a) hs)) xs l
spared-are hs xs l c n a spare is are =
    subst (λ (o : Option Name). LocksAre (without_briefs hs c (settled c o hs)) xs l) (is ∙ spare-is n a) are

-- the holds after a look that places none
pub passed-are : (head : Head) (w : World) (l : Ledger) (c : Conn) (t : TableId) (r : Rid) (want : Want) → places w t r want ≡ false
    → LocksAre (without_briefs w.holds c (settled c (spared_by_look (Row t r) (w.last c)) w.holds)) w.waits l
    → LocksAre (after head w (by_agent c (Look t r want Got.Granted))).holds w.waits l
passed-are head w l c t r want none are =
    subst (λ (rs : List Request). LocksAre (without_briefs w.holds c (all_placed head (settled c (spared_by_look (Row t r) (w.last c)) w.holds) c rs)) w.waits l)
    (sym (bare-is w t r want none)) are

-- and after one that takes its lock
pub taken-are : (head : Head) (w : World) (l : Ledger) (c : Conn) (t : TableId) (r : Rid) (want : Want) (m : Mode) (term : Term) (spared : Bool)
    → places w t r want ≡ true → m ≡ asked_mode want → term ≡ wait_term want → spared ≡ is_claimed (w.last c)
    → LocksAre (without_briefs w.holds c (placed head (settled c (if spared then Some (Row t r) else None) w.holds) c (asked_for (Row t r) m term))) w.waits l
    → LocksAre (after head w (by_agent c (Look t r want Got.Granted))).holds w.waits l
taken-are head w l c t r want m term spared lock mode brief is are =
    subst (λ (rs : List Request). LocksAre (without_briefs w.holds c (all_placed head (settled c (spared_by_look (Row t r) (w.last c)) w.holds) c rs)) w.waits l)
    (sym (taken-is head w c t r want lock))
    (subst (λ (o : Option Name). LocksAre (without_briefs w.holds c (placed head (settled c o w.holds) c (asked_for (Row t r) (asked_mode want) (wait_term want)))) w.waits l)
    (ap (λ (b : Bool). if b then Some (Row t r) else None) is ∙ spare-is (Row t r) (w.last c))
    (subst (λ (x : Term). LocksAre (without_briefs w.holds c (placed head (settled c (if spared then Some (Row t r) else None) w.holds) c (asked_for (Row t r) (asked_mode want) x))) w.waits l)
    brief
    (subst (λ (x : Mode). LocksAre (without_briefs w.holds c (placed head (settled c (if spared then Some (Row t r) else None) w.holds) c (asked_for (Row t r) x term))) w.waits l)
    mode are)))

-- in content that is the same
pub places-now : (p q : Content) (t : TableId) (r : Rid) (want : Want) (b : Bool) → q ≡ p → places (world p.head p.history) t r want ≡ b
    → places (world q.head q.history) t r want ≡ b
places-now p q t r want b same is = subst (λ (x : Content). places (world x.head x.history) t r want ≡ b) (sym same) is

pub look-now : (p q : Content) (c : Conn) (t : TableId) (r : Rid) (want : Want) (o : Outcome) → q ≡ p
    → look p.head (world p.head p.history) c t r want ≡ o → look q.head (world q.head q.history) c t r want ≡ o
look-now p q c t r want o same is = subst (λ (x : Content). look x.head (world x.head x.history) c t r want ≡ o) (sym same) is

-- the request of a look that queues does so
pub queues-now : (p : Content) (c : Conn) (t : TableId) (r : Rid) (want : Want) (m to : Mode) → m ≡ asked_mode want
    → look p.head (world p.head p.history) c t r want ≡ Gives (Got.Queued to)
    → request p.head (world p.head p.history) c (Row t r) m ≡ Gives (Got.Queued to)
queues-now p c t r want m to mode outcome =
    ap (request p.head (world p.head p.history) c (Row t r)) mode
    ∙ sym (outcome-is p.head (world p.head p.history) c t r want (ap (λ (o : Outcome). asks-by o) outcome)) ∙ outcome
