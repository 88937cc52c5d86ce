-- Waits stay in modes that their names fit, and what is queued is found.
use Rattle.std.proofs.Common.{◌≡◌, Bool, true, false, not, ◌&&◌, List, [], ◌∷◌, refl, ap, sym, ◌∙◌, subst, Some, None, Option}
use Rattle.std.specs.List.{list_all}
use Rattle.std.specs.Prelude.{if◌then◌else◌, is_none, is_some}
use Rattle.iso_history.proofs.phantoms.Tests.{both}
use Rattle.iso_history.proofs.phantoms.Finds.{find-all, find-filter_same, find-passes}
use Rattle.iso_history.proofs.phantoms.FitHolds.{fits_hold, key-fits, lock-fits}
use Rattle.iso_history.proofs.phantoms.ModeLaws.{fits-joined}
use Rattle.iso_history.proofs.phantoms.Names.{conn_is, conn_same, of-name}
use Rattle.iso_history.proofs.phantoms.NextLaws.{next-queued}
use Rattle.iso_history.specs.Gaps.{IsFit, fits_name, is_plain}
use Rattle.iso_history.specs.Legal.{ByAgent, LockStands}
use Rattle.iso_history.specs.Entries.{found}
use Rattle.iso_history.specs.Looks.{look, look_asks, is_current, is_settled}
use Rattle.iso_history.specs.Phases.{phase, phase_of}
use Rattle.iso_history.specs.Requests.{asking, is_had, is_limited, is_row_mode, need_of, request}
use Rattle.iso_history.specs.Requests.Outcome.{Gives, Limit}
use Rattle.iso_history.specs.Versions.{is_dead, versions}
use Rattle.iso_history.specs.Waits.{Joining, joining_of_agent}
use Rattle.iso_history.specs.Waits.Joining.{Joins}
use Rattle.iso_history.specs.World.{World}
use Rattle.iso_history.specs.declared.entry.Act.{Act}
use Rattle.iso_history.specs.declared.entry.Act.TheVariants.{Lock, Look, Next}
use Rattle.iso_history.specs.declared.entry.Got.{Got}
use Rattle.iso_history.specs.declared.entry.Stand.{Stand}
use Rattle.iso_history.specs.declared.entry.Stand.TheVariants.{At, Past}
use Rattle.iso_history.specs.declared.entry.Want.{Want}
use Rattle.iso_history.specs.declared.entry.Want.TheVariants.{Alter, AlterKept, Current, Dirty, Repeat, Steady}
use Rattle.iso_history.specs.declared.entry.Why.{Why}
use Rattle.iso_modes.specs.declared.Mode.{Mode}
use Rattle.iso_modes.specs.declared.Mode.TheVariants.{Ns, S, U}
use Rattle.iso_modes.specs.declared.Term.{Term}
use Rattle.iso_queue.specs.Locks.{Hold, hold_on, is_held, is_hold_of, target}
use Rattle.iso_queue.specs.Queues.{Wait, is_new_beside, queued, unqueued, wait_of, would_wait}
use Rattle.iso_types.specs.Ids.{conn_eq}
use Rattle.iso_types.specs.declared.desk.Phase.TheVariants.{Running}
use Rattle.iso_types.specs.declared.head.Head.{Head}
use Rattle.iso_types.specs.declared.value.Conn.{Conn}
use Rattle.iso_types.specs.declared.value.Name.{Name}
use Rattle.iso_types.specs.declared.value.Name.TheVariants.{Row, Table}
use Rattle.iso_types.specs.declared.value.Rid.{Rid}
use Rattle.iso_types.specs.declared.value.TableId.{TableId}

-- a wait that fits
abbrev pub fits_wait : Wait → Bool
fits_wait x = fits_name x.name x.target

-- what all pass and the new one too, all pass
pub all-queued : (p : Wait → Bool) (hs : List Hold) (x : Wait) (ws : List Wait) → p x ≡ true → list_all p ws ≡ true → list_all p (queued hs x ws) ≡ true
all-queued p hs x [] f a = rw f refl
all-queued p hs x (y ∷ ys) f a = go (all-queued p hs x ys f (both (p y) (list_all p ys) a).1) (is_held hs x.conn x.name && is_new_beside hs x y) refl
  where
    go : list_all p (queued hs x ys) ≡ true → (b : Bool) → (is_held hs x.conn x.name && is_new_beside hs x y) ≡ b → list_all p (queued hs x (y ∷ ys)) ≡ true
    go ih true e = rw (e, f) a
    go ih false e = rw (e, (both (p y) (list_all p ys) a).0) ih

-- another connection's wait is found where it was
pub wait-queued_other : (c : Conn) (hs : List Hold) (x : Wait) (ws : List Wait) → conn_eq x.conn c ≡ false → wait_of (queued hs x ws) c ≡ wait_of ws c
wait-queued_other c hs x [] ne = rw ne refl
wait-queued_other c hs x (y ∷ ys) ne = go (wait-queued_other c hs x ys ne) (is_held hs x.conn x.name && is_new_beside hs x y) refl (conn_eq y.conn c) refl
  where
    go : wait_of (queued hs x ys) c ≡ wait_of ys c → (b : Bool) → (is_held hs x.conn x.name && is_new_beside hs x y) ≡ b → (d : Bool) → conn_eq y.conn c ≡ d
        → wait_of (queued hs x (y ∷ ys)) c ≡ wait_of (y ∷ ys) c
    go ih true e d f = rw (e, ne) refl
    go ih false e true f = rw (e, f) refl
    go ih false e false f = rw (e, f) ih

-- what is queued is its connection's wait, where that did not wait
pub wait-queued_own : (hs : List Hold) (x : Wait) (ws : List Wait) → wait_of ws x.conn ≡ None → wait_of (queued hs x ws) x.conn ≡ Some x
wait-queued_own hs x [] n = rw (conn_same x.conn) refl
wait-queued_own hs x (y ∷ ys) n = go (wait-queued_own hs x ys) (is_held hs x.conn x.name && is_new_beside hs x y) refl (conn_eq y.conn x.conn) refl
  where
    go : (wait_of ys x.conn ≡ None → wait_of (queued hs x ys) x.conn ≡ Some x) → (b : Bool) → (is_held hs x.conn x.name && is_new_beside hs x y) ≡ b
        → (d : Bool) → conn_eq y.conn x.conn ≡ d → wait_of (queued hs x (y ∷ ys)) x.conn ≡ Some x
    go ih true e d f = rw (e, conn_same x.conn) refl
    go ih false e true f = let z : Some y ≡ None = rw f at n in absurd (cc)
    go ih false e false f = rw (e, f) (ih (rw f at n))

-- a wait that goes
pub wait-unqueued : (c d : Conn) (ws : List Wait) (x : Wait) → wait_of (unqueued d ws) c ≡ Some x → wait_of ws c ≡ Some x
wait-unqueued c d ws x e = go (conn_eq c d) refl
  where
    go : (b : Bool) → conn_eq c d ≡ b → wait_of ws c ≡ Some x
    go false ne = sym (find-filter_same (λ y. conn_eq y.conn c) (λ y. not (conn_eq y.conn d)) (λ y f. keep y f ne) ws) ∙ e
      where
        keep : (y : Wait) → conn_eq y.conn c ≡ true → conn_eq c d ≡ false → not (conn_eq y.conn d) ≡ true
        keep y f ne = let z : conn_eq y.conn d ≡ false = subst (λ (k : Conn). conn_eq k d ≡ false) (sym (conn_is y.conn c f)) ne in rw z refl
    go true same = absurd (gone ws e)
      where
        gone : (ws : List Wait) → wait_of (unqueued d ws) c ≡ Some x → ⊥
        gone [] e = cc
        gone (y ∷ ys) e = by (gone ys) (conn_eq y.conn d) refl
          where
            by : (wait_of (unqueued d ys) c ≡ Some x → ⊥) → (b : Bool) → conn_eq y.conn d ≡ b → ⊥
            by ih true f = ih (rw f at e)
            by ih false f =
                let z : conn_eq y.conn c ≡ false = subst (λ (k : Conn). conn_eq y.conn k ≡ false) (sym (conn_is c d same)) f in
                ih (rw (f, z) at e)

-- a connection that runs does not wait
pub runs-alone : (w : World) (c : Conn) → phase w c ≡ Running → wait_of w.waits c ≡ None
runs-alone w c e = go (w.ended c) (w.closing c) (is_some (w.doom c)) (wait_of w.waits c) (is_none (w.line c)) e
  where
    go : (a b d : Bool) (o : Option Wait) (f : Bool) → phase_of a b d (is_some o) f ≡ Running → o ≡ None
    go a b d None f e = refl
    go true b d (Some x) f e = cc
    go false true d (Some x) f e = cc
    go false false true (Some x) f e = cc
    go false false false (Some x) f e = cc

-- what a request queues with is its target
pub request-queued : (head : Head) (w : World) (c : Conn) (n : Name) (m k : Mode) → request head w c n m ≡ Gives (Got.Queued k) → k ≡ target w.holds c n m
request-queued head w c n m k e = go (is_had head w c n m) refl (is_limited head w c (need_of w c n)) refl (not (would_wait w.holds w.waits (asking w c n m)))
    refl ((w.setting c).may_wait) refl
  where
    go : (a : Bool) → is_had head w c n m ≡ a → (b : Bool) → is_limited head w c (need_of w c n) ≡ b → (d : Bool)
        → not (would_wait w.holds w.waits (asking w c n m)) ≡ d
        → (f : Bool) → (w.setting c).may_wait ≡ f → k ≡ target w.holds c n m
    go true p b q d r f s = let z : Gives Got.Granted ≡ Gives (Got.Queued k) = rw p at e in absurd (cc)
    go false p true q d r f s = let z : Limit ≡ Gives (Got.Queued k) = rw (p, q) at e in absurd (cc)
    go false p false q true r f s = let z : Gives Got.Granted ≡ Gives (Got.Queued k) = rw (p, q, r) at e in absurd (cc)
    go false p false q false r true s = let z : Gives (Got.Queued (target w.holds c n m)) ≡ Gives (Got.Queued k) = rw (p, q, r, s) at e in cc
    go false p false q false r false s = let z : Gives Got.TimedOut ≡ Gives (Got.Queued k) = rw (p, q, r, s) at e in absurd (cc)

-- the target of a mode that fits fits
pub target-fits : (w : World) (c : Conn) (n : Name) (m : Mode) → IsFit w → fits_name n m ≡ true → fits_name n (target w.holds c n m) ≡ true
target-fits w c n m fit f = go (hold_on w.holds c n) refl
  where
    go : (o : Option Hold) → hold_on w.holds c n ≡ o → fits_name n (target w.holds c n m) ≡ true
    go None e = rw e f
    go (Some h) e = rw e (fits-joined n h.mode m
        (subst (λ (k : Name). fits_name k h.mode ≡ true) (of-name c n h (find-passes (is_hold_of c n) w.holds h e))
        (find-all (is_hold_of c n) fits_hold w.holds h fit.holds e)) f)

-- the request of a Lock
pub lock-request : (head : Head) (w : World) (c : Conn) (n : Name) (m : Mode) (term : Term) (why : Why) (got : Got) → LockStands head w c n m term why got
    → request head w c n m ≡ Gives got
lock-request head w c n m term Why.Asked got al = al.2
lock-request head w c (Table t) m term Why.Escalation got al = al.1.2
lock-request head w c (Row t r) m term Why.Escalation got al = absurd al.1
lock-request head w c (Name.Key i v) m term Why.Escalation got al = absurd al.1
lock-request head w c (Name.End i) m term Why.Escalation got al = absurd al.1
lock-request head w c n m term Why.Blocked got al = al.3

if_some : (b : Bool) (m k : Mode) → (if b then None else Some m) ≡ Some k → m ≡ k
if_some true m k e = cc
if_some false m k e = cc

-- a look asks a row mode
asks-row : (head : Head) (w : World) (c : Conn) (t : TableId) (r : Rid) (want : Want) (m : Mode) → look_asks head w c t r want ≡ Some m → is_row_mode m ≡ true
unfolding is_row_mode
asks-row head w c t r want m e = go (is_dead (versions w t r)) refl want e
  where
    is : (a b : Mode) → Some a ≡ Some b → is_row_mode a ≡ true → is_row_mode b ≡ true
    is a b f g = let s : a ≡ b = cc in subst (λ (z : Mode). is_row_mode z ≡ true) s g

    go : (b : Bool) → is_dead (versions w t r) ≡ b → (want : Want) → look_asks head w c t r want ≡ Some m → is_row_mode m ≡ true
    go true d want e = let z : None ≡ Some m = rw d at e in absurd (cc)
    go false d Steady e = is Ns m (rw d at e) refl
    go false d Repeat e = is S m (rw d at e) refl
    go false d Alter e = is U m (rw d at e) refl
    go false d AlterKept e = is U m (rw d at e) refl
    go false d Dirty e = let z : None ≡ Some m = rw d at e in absurd (cc)
    go false d Current e = is Ns m (ap Some (if_some (is_current head w c t r) Ns m (rw d at e))) refl
    go false d Want.Settled e = is Ns m (ap Some (if_some (is_settled head w c t r) Ns m (rw d at e))) refl

-- what the entry queues fits, and is its maker's
abbrev pub JoiningFits : Conn → Joining → Type 0
JoiningFits c (Joins x) = (fits_wait x ≡ true) × (x.conn ≡ c)
JoiningFits c _ = Unit {0}

look-fits : (head : Head) (w : World) (c : Conn) (t : TableId) (r : Rid) (want : Want) (k : Mode) → IsFit w → look head w c t r want ≡ Gives (Got.Queued k)
    → fits_name (Row t r) k ≡ true
look-fits head w c t r want k fit e = go (look_asks head w c t r want) refl
  where
    go : (o : Option Mode) → look_asks head w c t r want ≡ o → fits_name (Row t r) k ≡ true
    go None f = let z : Gives Got.Granted ≡ Gives (Got.Queued k) = rw f at e in absurd (cc)
    go (Some m) f =
        let z : request head w c (Row t r) m ≡ Gives (Got.Queued k) = rw f at e in
        subst (λ (x : Mode). is_row_mode x ≡ true) (sym (request-queued head w c (Row t r) m k z))
        (target-fits w c (Row t r) m fit (asks-row head w c t r want m f))

-- joining of an agent
pub joining-fits : (head : Head) (w : World) (c : Conn) (a : Act) → ByAgent head w c a → is_plain a ≡ true → IsFit w → JoiningFits c (joining_of_agent w c a)
joining-fits head w c (Lock n m term why (Got.Queued k)) al p fit = (
  subst (λ (z : Mode). fits_name n z ≡ true) (sym (request-queued head w c n m k (lock-request head w c n m term why (Got.Queued k) al.1)))
      (target-fits w c n m fit (lock-fits head w c n m term why (Got.Queued k) p al.1)),
  refl,
)
joining-fits head w c (Lock n m term why Got.Granted) al p fit = tt
joining-fits head w c (Lock n m term why Got.TimedOut) al p fit = tt
joining-fits head w c (Look t r want (Got.Queued k)) al p fit = (look-fits head w c t r want k fit al.2, refl)
joining-fits head w c (Look t r want Got.Granted) al p fit = tt
joining-fits head w c (Look t r want Got.TimedOut) al p fit = tt
joining-fits head w c (Next i range at guarded (Stand.Queued n)) al p fit = (
  target-fits w c n S fit (subst (λ (k : Name). fits_name k S ≡ true) (sym (next-queued head w c i range at guarded n al.2))
      (key-fits i (found w i range at))),
  refl,
)
joining-fits head w c (Next i range at guarded (At v r)) al p fit = tt
joining-fits head w c (Next i range at guarded Past) al p fit = tt
joining-fits head w c (Next i range at guarded (Stand.TimedOut n)) al p fit = tt
joining-fits head w c _ al p fit = tt
