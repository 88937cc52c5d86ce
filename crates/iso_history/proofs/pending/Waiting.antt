-- Who runs does not wait; whose wait an entry changes.
use Rattle.std.proofs.Common.{◌≡◌, ◌≤◌, ◌+◌, ◌⊎◌, inl, inr, ℕ, Bool, true, false, not, ◌&&◌, List, [], ◌∷◌, map, filter, find, refl, ap, sym, ◌∙◌, arith, Some, None, Option, is_some, is_none, subst, cond, count_by}
use Rattle.std.proofs.lemmas.List.Sums.{sum_by-cons}
use Rattle.iso_history.proofs.pending.Conns.{conn-is, conn-same}
use Rattle.iso_history.proofs.pending.Finds.{find-all_kept}
use Rattle.iso_history.specs.Phases.{phase, phase_of}
use Rattle.iso_history.specs.Waits.{Joining, waits_by}
use Rattle.iso_history.specs.Waits.Joining.{Joins, Passes, Quits}
use Rattle.iso_history.specs.World.{World}
use Rattle.iso_queue.specs.Locks.{Hold, is_held}
use Rattle.iso_queue.specs.Queues.{Wait, is_new_beside, is_waiting, queued, unqueued, wait_of}
use Rattle.iso_types.specs.Ids.{conn_eq}
use Rattle.iso_types.specs.declared.desk.Phase.TheVariants.{Running}
use Rattle.iso_types.specs.declared.value.Conn.{Conn}

pub none-of : {A : Type 0} (o : Option A) → is_some o ≡ false → o ≡ None
none-of None e = refl
none-of (Some x) e = cc

pub some-of : {A : Type 0} (o : Option A) → is_none o ≡ false → (x : A) × (o ≡ Some x)
some-of None e = cc
some-of (Some x) e = (x, refl)

-- what Running says
pub running-tests : (a b d e f : Bool) → phase_of a b d e f ≡ Running → (e ≡ false) × (f ≡ false)
running-tests false false false false false p = (refl, refl)
running-tests true b d e f p = cc
running-tests false true d e f p = cc
running-tests false false true e f p = cc
running-tests false false false true f p = cc
running-tests false false false false true p = cc

pub running-free : (w : World) (c : Conn) → phase w c ≡ Running → wait_of w.waits c ≡ None
running-free w c p = none-of (wait_of w.waits c) (running-tests (w.ended c) (w.closing c) (is_some (w.doom c)) (is_waiting w.waits c) (is_none (w.line c)) p).0

pub running-open : (w : World) (c : Conn) → phase w c ≡ Running → (k : ℕ) × (w.line c ≡ Some k)
running-open w c p = some-of (w.line c) (running-tests (w.ended c) (w.closing c) (is_some (w.doom c)) (is_waiting w.waits c) (is_none (w.line c)) p).1

-- the others' waits stay where one is added
pub queued-other : (holds : List Hold) (x : Wait) (waits : List Wait) (d : Conn) → conn_eq x.conn d ≡ false → wait_of (queued holds x waits) d ≡ wait_of waits d
queued-other holds x [] d ne = rw ne refl
queued-other holds x (y ∷ ys) d ne = go (queued-other holds x ys d ne) (is_held holds x.conn x.name && is_new_beside holds x y) refl (conn_eq y.conn d) refl
  where
    go : wait_of (queued holds x ys) d ≡ wait_of ys d → (a : Bool) → (is_held holds x.conn x.name && is_new_beside holds x y) ≡ a
        → (b : Bool) → conn_eq y.conn d ≡ b → wait_of (queued holds x (y ∷ ys)) d ≡ wait_of (y ∷ ys) d
    go ih true a b e = rw (a, ne) refl
    go ih false a true b = rw (a, b) refl
    go ih false a false b = rw (a, b) ih

-- and its own is found, where it had none
pub queued-own : (holds : List Hold) (x : Wait) (waits : List Wait) → wait_of waits x.conn ≡ None → wait_of (queued holds x waits) x.conn ≡ Some x
queued-own holds x [] n = rw (conn-same x.conn) refl
queued-own holds x (y ∷ ys) n = go (queued-own holds x ys) (is_held holds x.conn x.name && is_new_beside holds x y) refl (conn_eq y.conn x.conn) refl
  where
    go : (wait_of ys x.conn ≡ None → wait_of (queued holds x ys) x.conn ≡ Some x) → (a : Bool)
        → (is_held holds x.conn x.name && is_new_beside holds x y) ≡ a → (b : Bool) → conn_eq y.conn x.conn ≡ b
        → wait_of (queued holds x (y ∷ ys)) x.conn ≡ Some x
    go ih a q true b = absurd (wrong (rw b at n))
      where
        wrong : Some y ≡ None → ⊥
        wrong s = cc
    go ih true a false b = rw (a, conn-same x.conn) refl
    go ih false a false b = rw (a, b) (ih (rw b at n))

-- where a wait goes, the others' stay
pub unqueued-other : (c : Conn) (waits : List Wait) (d : Conn) → conn_eq d c ≡ false → wait_of (unqueued c waits) d ≡ wait_of waits d
unqueued-other c waits d ne = find-all_kept (λ x. conn_eq x.conn d) (λ x. not (conn_eq x.conn c)) (λ x is. kept x is) waits
  where
    kept : (x : Wait) → conn_eq x.conn d ≡ true → not (conn_eq x.conn c) ≡ true
    kept x is = subst (λ (z : Conn). not (conn_eq z c) ≡ true) (sym (conn-is x.conn d is)) (rw ne refl)

pub unqueued-own : (c : Conn) (waits : List Wait) → wait_of (unqueued c waits) c ≡ None
unqueued-own c [] = refl
unqueued-own c (y ∷ ys) = go (unqueued-own c ys) (conn_eq y.conn c) refl
  where
    go : wait_of (unqueued c ys) c ≡ None → (b : Bool) → conn_eq y.conn c ≡ b → wait_of (unqueued c (y ∷ ys)) c ≡ None
    go ih true b = rw b ih
    go ih false b = rw (b, b) ih

-- what a filter leaves of a list in which at most one passes the test
module _ {X : Type 0} (p : X → Bool) where
  count-at : (y : X) (ys : List X) (b : Bool) → p y ≡ b → count_by p (y ∷ ys) ≡ cond b 1 0 + count_by p ys
  count-at y ys b e = sum_by-cons (λ x. cond (p x) 1 0) y ys ∙ ap (λ z. cond z 1 0 + count_by p ys) e

  none-passes : (xs : List X) → count_by p xs ≤ 0 → find p xs ≡ None
  none-passes [] h = refl
  none-passes (y ∷ ys) h = go (none-passes ys) (p y) refl
    where
      go : (count_by p ys ≤ 0 → find p ys ≡ None) → (b : Bool) → p y ≡ b → find p (y ∷ ys) ≡ None
      go ih true b = let c : count_by p (y ∷ ys) ≡ 1 + count_by p ys = count-at y ys true b in absurd (omega (arith, h))
      go ih false b = let c : count_by p (y ∷ ys) ≡ 0 + count_by p ys = count-at y ys false b in rw b (ih (omega (arith, h)))

  pub none-left : (q : X → Bool) (xs : List X) → find p xs ≡ None → find p (filter q xs) ≡ None
  none-left q [] h = refl
  none-left q (y ∷ ys) h = go (none-left q ys) (p y) refl (q y) refl
    where
      go : (find p ys ≡ None → find p (filter q ys) ≡ None) → (a : Bool) → p y ≡ a → (b : Bool) → q y ≡ b → find p (filter q (y ∷ ys)) ≡ None
      go ih true a b e = absurd (wrong (rw a at h))
        where
          wrong : Some y ≡ None → ⊥
          wrong k = cc
      go ih false a true b = rw (b, a) (ih (rw a at h))
      go ih false a false b = rw b (ih (rw a at h))

  pub single-left : (q : X → Bool) (xs : List X) (x : X) → count_by p xs ≤ 1 → find p (filter q xs) ≡ Some x → find p xs ≡ Some x
  single-left q [] x h e = e
  single-left q (y ∷ ys) x h e = go (single-left q ys x) (p y) refl (q y) refl
    where
      go : (count_by p ys ≤ 1 → find p (filter q ys) ≡ Some x → find p ys ≡ Some x) → (a : Bool) → p y ≡ a → (b : Bool) → q y ≡ b
          → find p (y ∷ ys) ≡ Some x
      go ih true a true b = rw a (rw (b, a) at e)
      go ih true a false b = let c : count_by p (y ∷ ys) ≡ 1 + count_by p ys = count-at y ys true a in
          absurd (wrong (none-left q ys (none-passes ys (omega (arith, h)))) (rw b at e))
        where
          wrong : find p (filter q ys) ≡ None → find p (filter q ys) ≡ Some x → ⊥
          wrong k l = cc
      go ih false a true b = let c : count_by p (y ∷ ys) ≡ 0 + count_by p ys = count-at y ys false a in rw a (ih (omega (arith, h)) (rw (b, a) at e))
      go ih false a false b = let c : count_by p (y ∷ ys) ≡ 0 + count_by p ys = count-at y ys false a in rw a (ih (omega (arith, h)) (rw b at e))

  pub count-mapped : (f : X → X) → ((x : X) → p (f x) ≡ p x) → (xs : List X) → count_by p (map f xs) ≡ count_by p xs
  count-mapped f same [] = refl
  count-mapped f same (y ∷ ys) = count-at (f y) (map f ys) (p y) (same y) ∙ ap (λ z. cond (p y) 1 0 + z) (count-mapped f same ys) ∙
      sym (count-at y ys (p y) refl)

-- a wait that joins is of a connection that does not wait
abbrev pub JoinFits : World → Joining → Type 0
JoinFits w (Joins x) = wait_of w.waits x.conn ≡ None
JoinFits w _ = Unit {0}

-- a wait after an entry was there before, or joined by it
pub wait-from : (w : World) (j : Joining) (d : Conn) (x : Wait) → JoinFits w j → wait_of (waits_by w j) d ≡ Some x
    → (wait_of w.waits d ≡ Some x) ⊎ ((j ≡ Joins x) × (x.conn ≡ d))
wait-from w Passes d x f e = inl e
wait-from w (Joins y) d x f e = go (conn_eq y.conn d) refl
  where
    go : (b : Bool) → conn_eq y.conn d ≡ b → (wait_of w.waits d ≡ Some x) ⊎ ((Joins y ≡ Joins x) × (x.conn ≡ d))
    go true b =
        let same : y.conn ≡ d = conn-is y.conn d b in
        let own : wait_of (queued w.holds y w.waits) d ≡ Some y = subst (λ (z : Conn). wait_of (queued w.holds y w.waits) z ≡ Some y) same
        (queued-own w.holds y w.waits f) in
        let is : y ≡ x = some-same (sym own ∙ e) in
        inr (ap Joins is, ap (λ z. z.conn) (sym is) ∙ same)
      where
        some-same : {y x : Wait} → Some y ≡ Some x → y ≡ x
        some-same q = cc
    go false b = inl (sym (queued-other w.holds y w.waits d b) ∙ e)
wait-from w (Quits c) d x f e = go (conn_eq d c) refl
  where
    none-some : {y : Option Wait} → y ≡ None → y ≡ Some x → ⊥
    none-some p q = cc

    go : (b : Bool) → conn_eq d c ≡ b → (wait_of w.waits d ≡ Some x) ⊎ ((Quits c ≡ Joins x) × (x.conn ≡ d))
    go true b = absurd (none-some (unqueued-own c w.waits) (subst (λ (z : Conn). wait_of (unqueued c w.waits) z ≡ Some x) (conn-is d c b) e))
    go false b = inl (sym (unqueued-other c w.waits d b) ∙ e)
