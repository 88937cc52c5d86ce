-- What an entry queues, and who makes an entry while it waits.
use Rattle.std.proofs.Common.{◌≡◌, ◌≤◌, ◌⊎◌, inl, inr, ℕ, Bool, true, false, not, ◌&&◌, ◌||◌, List, refl, ap, sym, ◌∙◌, Some, None, Option, if◌then◌else◌, option_map, subst}
use Rattle.std.specs.Option.{option_map_or}
use Rattle.iso_history.proofs.pending.Conns.{and-first, conn-is}
use Rattle.iso_history.proofs.pending.Finds.{find-mapped}
use Rattle.iso_history.proofs.pending.Kept.{settled-of}
use Rattle.iso_history.proofs.pending.ModeTests.{is_weak}
use Rattle.iso_history.proofs.pending.Waiting.{JoinFits, count-mapped, running-free, single-left, unqueued-own, wait-from}
use Rattle.iso_history.specs.Facts.{AreSingle, is_row}
use Rattle.iso_history.specs.Holds.{hand_of}
use Rattle.iso_history.specs.Holds.Hand.{Leaves}
use Rattle.iso_history.specs.Legal.{ByAgent, LockStands}
use Rattle.iso_history.specs.Looks.{is_current, is_settled, look, look_asks, want_asks}
use Rattle.iso_history.specs.Phases.{phase, victim}
use Rattle.iso_history.specs.Requests.{asking, is_had, is_limited, need_of, request}
use Rattle.iso_history.specs.Requests.Outcome.{Gives, Limit}
use Rattle.iso_history.specs.Versions.{is_dead, versions}
use Rattle.iso_history.specs.Waits.{Joining, joining_of_agent, joining_of_dispatcher, wait_term, waits_by}
use Rattle.iso_history.specs.Waits.Joining.{Joins, Passes, Quits}
use Rattle.iso_history.specs.World.{World}
use Rattle.iso_history.specs.Writes.{is_block}
use Rattle.iso_history.specs.declared.entry.Act.{Act}
use Rattle.iso_history.specs.declared.entry.Act.TheVariants.{Back, Claim, Collapse, Commit, Delete, Expire, Free, Insert, Lock, Look, Mark, Next, Refused, Reply, Rollback, ScanEnd, Set, Stopped, Undo, Update, Victim}
use Rattle.iso_history.specs.declared.entry.Got.{Got}
use Rattle.iso_history.specs.declared.entry.Stand.{Stand}
use Rattle.iso_history.specs.declared.entry.Stand.TheVariants.{At, Past}
use Rattle.iso_history.specs.declared.entry.Want.{Want}
use Rattle.iso_history.specs.declared.entry.Want.TheVariants.{Alter, AlterKept, Current, Dirty, Repeat, Steady}
use Rattle.iso_history.specs.declared.entry.Why.{Why}
use Rattle.iso_history.specs.declared.entry.Why.TheVariants.{Asked, Blocked, Escalation}
use Rattle.iso_modes.specs.Modes.{mode_eq, mode_number}
use Rattle.iso_modes.specs.Terms.{is_fresh, is_kept}
use Rattle.iso_modes.specs.declared.Mode.{Mode}
use Rattle.iso_modes.specs.declared.Mode.TheVariants.{Ns, S, U}
use Rattle.iso_modes.specs.declared.Term.{Term}
use Rattle.iso_modes.specs.declared.Term.TheVariants.{Kept}
use Rattle.iso_queue.specs.Locks.{Hold, hold_on, is_hold_of, is_spared, settled, settled_one, target, without_briefs}
use Rattle.iso_queue.specs.Queues.{Wait, wait_of, would_wait}
use Rattle.iso_types.specs.Ids.{conn_eq}
use Rattle.iso_types.specs.declared.desk.Phase.TheVariants.{Running}
use Rattle.iso_types.specs.declared.head.Head.{Head}
use Rattle.iso_types.specs.declared.value.Conn.{Conn}
use Rattle.iso_types.specs.declared.value.Name.{Name}
use Rattle.iso_types.specs.declared.value.Name.TheVariants.{End, Key, Row, Table}
use Rattle.iso_types.specs.declared.value.Rid.{Rid}
use Rattle.iso_types.specs.declared.value.TableId.{TableId}

-- settling leaves a hold's mode
pub mode-settled : (c : Conn) (spare : Option Name) (h : Hold) → (settled_one c spare h).mode ≡ h.mode
mode-settled c spare h = go (conn_eq h.conn c && (is_fresh h.term && not (is_spared spare h)))
  where
    go : (b : Bool) → (if b then record h { term = Kept } else h).mode ≡ h.mode
    go true = refl
    go false = refl

-- what is held after an entry that places and frees nothing was held in that mode before
pub leaves-from : (before holds : List Hold) (c : Conn) (spare : Option Name) (d : Conn) (n : Name) (h : Hold) → AreSingle holds
    → hold_on (without_briefs before c (settled c spare holds)) d n ≡ Some h → (g : Hold) × (hold_on holds d n ≡ Some g) × (h.mode ≡ g.mode)
unfolding AreSingle
leaves-from before holds c spare d n h s e = go (hold_on holds d n) refl
    (sym (find-mapped (is_hold_of d n) (settled_one c spare) (settled-of c spare d n) holds)
    ∙ single-left (is_hold_of d n) _ (settled c spare holds) h
    (subst (λ (z : ℕ). z ≤ 1) (sym (count-mapped (is_hold_of d n) (settled_one c spare) (settled-of c spare d n) holds)) (s d n)) e)
  where
    some-is : {y x : Hold} → Some y ≡ Some x → y ≡ x
    some-is q = cc

    go : (o : Option Hold) → hold_on holds d n ≡ o → option_map (settled_one c spare) o ≡ Some h → (g : Hold) × (hold_on holds d n ≡ Some g) × (h.mode ≡ g.mode)
    go None q p = cc
    go (Some g) q p = (g, q, ap (λ z. z.mode) (sym (some-is p)) ∙ mode-settled c spare g)

-- the wait that an entry makes: its maker runs, it places nothing, and it awaits the target of a mode
pub record Queues (head : Head) (w : World) (c : Conn) (a : Act) (x : Wait) : Type 0 where
  pub conn : x.conn ≡ c
  pub runs : phase w c ≡ Running
  pub leaves : hand_of head w c a ≡ Leaves
  pub asks : Mode
  pub target_is : x.target ≡ target w.holds c x.name asks
  pub weak : is_row x.name ≡ true → (is_kept x.term || is_weak asks) ≡ true

module _ (head : Head) (w : World) (c : Conn) where
  -- what a request queues for is its target
  pub request-queued : (n : Name) (m q : Mode) → request head w c n m ≡ Gives (Got.Queued q) → q ≡ target w.holds c n m
  request-queued n m q e = go (is_had head w c n m) (is_limited head w c (need_of w c n)) (not (would_wait w.holds w.waits (asking w c n m)))
      ((w.setting c).may_wait) e
    where
      go : (a b d f : Bool)
          → (if a then Gives Got.Granted else if b then Limit else if d then Gives Got.Granted else if f then Gives (Got.Queued (target w.holds c n m)) else
          Gives Got.TimedOut)
          ≡ Gives (Got.Queued q)
          → q ≡ target w.holds c n m
      go true b d f z = cc
      go false true d f z = cc
      go false false true f z = cc
      go false false false true z = sym (queued-is z)
        where
          queued-is : Gives (Got.Queued (target w.holds c n m)) ≡ Gives (Got.Queued q) → target w.holds c n m ≡ q
          queued-is y = cc
      go false false false false z = cc

  -- a look asks for a weak mode
  asks-weak : (t : TableId) (r : Rid) (want : Want) (m : Mode) → look_asks head w c t r want ≡ Some m → is_weak m ≡ true
  unfolding mode_eq mode_number
  asks-weak t r want m e = at_dead (is_dead (versions w t r)) want e
    where
      some-mode : (a b : Mode) → Some a ≡ Some b → is_weak a ≡ true → is_weak b ≡ true
      some-mode a b q i = subst (λ (z : Mode). is_weak z ≡ true) (is q) i
        where
          is : Some a ≡ Some b → a ≡ b
          is q = cc

      none-mode : None ≡ Some m → ⊥
      none-mode q = cc

      by_test : (b : Bool) → (if b then None else Some Ns) ≡ Some m → is_weak m ≡ true
      by_test true q = absurd (none-mode q)
      by_test false q = some-mode Ns m q refl

      at_want : (want : Want) → want_asks head w c t r want ≡ Some m → is_weak m ≡ true
      at_want Dirty q = absurd (none-mode q)
      at_want Current q = by_test (is_current head w c t r) q
      at_want Want.Settled q = by_test (is_settled head w c t r) q
      at_want Steady q = some-mode Ns m q refl
      at_want Repeat q = some-mode S m q refl
      at_want Alter q = some-mode U m q refl
      at_want AlterKept q = some-mode U m q refl

      at_dead : (b : Bool) (want : Want) → (if b then None else want_asks head w c t r want) ≡ Some m → is_weak m ≡ true
      at_dead true want q = absurd (none-mode q)
      at_dead false want q = at_want want q

  -- a look that queues
  look-queued : (t : TableId) (r : Rid) (want : Want) (q : Mode) → look head w c t r want ≡ Gives (Got.Queued q)
      → (m : Mode) × (is_weak m ≡ true) × (q ≡ target w.holds c (Row t r) m)
  look-queued t r want q e = go (look_asks head w c t r want) refl e
    where
      go : (o : Option Mode) → look_asks head w c t r want ≡ o → option_map_or (request head w c (Row t r)) o (Gives Got.Granted) ≡ Gives (Got.Queued q)
          → (m : Mode) × (is_weak m ≡ true) × (q ≡ target w.holds c (Row t r) m)
      go None a z = cc
      go (Some m) a z = (m, asks-weak t r want m a, request-queued (Row t r) m q z)

  block-weak : (n : Name) (m : Mode) → is_block head w c n m ≡ true → is_row n ≡ true → is_weak m ≡ true
  block-weak (Row t r) m e i = let p : mode_eq m Ns ≡ true = and-first _ _ e in rw p refl
  block-weak (Table t) m e i = cc
  block-weak (Key j v) m e i = cc
  block-weak (End j) m e i = cc

  kept-or : (k : Term) (b : Bool) → k ≡ Kept → (is_kept k || b) ≡ true
  kept-or k b e = rw e refl

  lock-weak : (n : Name) (m : Mode) (k : Term) (why : Why) (got : Got) → LockStands head w c n m k why got → is_row n ≡ true → (is_kept k || is_weak m) ≡ true
  lock-weak n m k Asked got al i = kept-or k (is_weak m) al.0
  lock-weak n m k Escalation got al i = kept-or k (is_weak m) al.0
  lock-weak n m k Blocked got al i = let p : is_weak m ≡ true = block-weak n m al.2 i in rw p (or-true (is_kept k))
    where
      or-true : (b : Bool) → (b || true) ≡ true
      or-true true = refl
      or-true false = refl

  pub lock-request : (n : Name) (m : Mode) (k : Term) (why : Why) (got : Got) → LockStands head w c n m k why got → request head w c n m ≡ Gives got
  lock-request n m k Asked got al = al.2
  lock-request (Table t) m k Escalation got al = al.1.2
  lock-request (Row t r) m k Escalation got al = absurd al.1
  lock-request (Key i v) m k Escalation got al = absurd al.1
  lock-request (End i) m k Escalation got al = absurd al.1
  lock-request n m k Blocked got al = al.3

  joins-is : (y x : Wait) → Joins y ≡ Joins x → y ≡ x
  joins-is y x e = cc

  queues-same : (a : Act) (y x : Wait) → Joins y ≡ Joins x → Queues head w c a y → Queues head w c a x
  queues-same a y x e q = subst (Queues head w c a) (joins-is y x e) q

  weak-or : (k : Bool) (b : Bool) → b ≡ true → (k || b) ≡ true
  weak-or true b e = refl
  weak-or false b e = e

  -- what an allowed entry queues
  pub queues : (a : Act) (x : Wait) → ByAgent head w c a → joining_of_agent w c a ≡ Joins x → Queues head w c a x
  queues (Lock n m k why (Got.Queued q)) x al e = queues-same _ _ x e (record {
    conn = refl;
    runs = al.0.0;
    leaves = refl;
    asks = m;
    target_is = request-queued n m q (lock-request n m k why (Got.Queued q) al.1);
    weak = lock-weak n m k why (Got.Queued q) al.1;
  })
  queues (Lock n m k why Got.Granted) x al e = cc
  queues (Lock n m k why Got.TimedOut) x al e = cc
  queues (Look t r want (Got.Queued q)) x al e =
      let z = look-queued t r want q al.2 in
      queues-same _ _ x e (record {
        conn = refl;
        runs = al.0.0;
        leaves = refl;
        asks = z.0;
        target_is = z.2;
        weak = λ i. weak-or (is_kept (wait_term want)) (is_weak z.0) z.1;
      })
  queues (Look t r want Got.Granted) x al e = cc
  queues (Look t r want Got.TimedOut) x al e = cc
  queues (Next i range at guarded (Stand.Queued n)) x al e =
      queues-same _ _ x e (record { conn = refl; runs = al.0.0; leaves = refl; asks = S; target_is = refl; weak = λ i. refl })
  queues (Next i range at guarded (At v r)) x al e = cc
  queues (Next i range at guarded Past) x al e = cc
  queues (Next i range at guarded (Stand.TimedOut n)) x al e = cc
  queues Claim x al e = cc
  queues Commit x al e = cc
  queues (Rollback code reason) x al e = cc
  queues Act.Ended x al e = cc
  queues (Stopped cause) x al e = cc
  queues _ x al e = cc

  -- who waits and makes an entry, quits its wait or undoes a change
  pub waits-quits : (a : Act) (x : Wait) → ByAgent head w c a → wait_of w.waits c ≡ Some x
      → (joining_of_agent w c a ≡ Quits c) ⊎ ((n : ℕ) × (a ≡ Undo n))
  waits-quits a x al e = go a al
    where
      running : phase w c ≡ Running → ⊥
      running p = none-some (running-free w c p)
        where
          none-some : wait_of w.waits c ≡ None → ⊥
          none-some q = cc

      go : (a : Act) → ByAgent head w c a → (joining_of_agent w c a ≡ Quits c) ⊎ ((n : ℕ) × (a ≡ Undo n))
      go (Lock n m k why got) al = absurd (running al.0.0)
      go (Look t r want got) al = absurd (running al.0.0)
      go (Next i range at guarded got) al = absurd (running al.0.0)
      go Claim al = inl refl
      go Commit al = inl refl
      go (Rollback code reason) al = inl refl
      go Act.Ended al = inl refl
      go (Stopped cause) al = inl refl
      go (Undo n) al = inr (n, refl)
      go (ScanEnd t n) al = absurd (running al.0.0)
      go (Free t r) al = absurd (running al.0.0)
      go (Collapse t m) al = absurd (running al.0)
      go (Insert t r row) al = absurd (running al.0.0)
      go (Update t r row) al = absurd (running al.0.0)
      go (Delete t r) al = absurd (running al.0.0)
      go (Refused code) al = absurd (running al.0.0)
      go (Mark name) al = absurd (running al.0)
      go (Back name) al = absurd (running al.0.0)
      go (Set level may_wait) al = absurd (running al.0)
      go (Reply code changed rows) al = absurd (running al.0)
      go _ al = absurd al

  agent-fits : (a : Act) → ByAgent head w c a → JoinFits w (joining_of_agent w c a)
  agent-fits a al = go (joining_of_agent w c a) refl
    where
      go : (j : Joining) → joining_of_agent w c a ≡ j → JoinFits w j
      go Passes e = tt
      go (Quits d) e = tt
      go (Joins x) e = let q = queues a x al e in subst (λ (z : Conn). wait_of w.waits z ≡ None) (sym q.conn) (running-free w c q.runs)

  -- the waits after an agent's entry: another's stays; its own stays where it undoes a change; or it is new
  pub data WaitOf (a : Act) (d : Conn) (x : Wait) : Type 0 where
    others : conn_eq d c ≡ false → wait_of w.waits d ≡ Some x → WaitOf a d x
    undoes : d ≡ c → (n : ℕ) → a ≡ Undo n → wait_of w.waits c ≡ Some x → WaitOf a d x
    joins : d ≡ c → joining_of_agent w c a ≡ Joins x → Queues head w c a x → WaitOf a d x

  pub waits-agent : (a : Act) (d : Conn) (x : Wait) → ByAgent head w c a → wait_of (waits_by w (joining_of_agent w c a)) d ≡ Some x → WaitOf a d x
  waits-agent a d x al e = go (wait-from w (joining_of_agent w c a) d x (agent-fits a al) e)
    where
      none-some : {o : Option Wait} → o ≡ None → o ≡ Some x → ⊥
      none-some p q = cc

      own : d ≡ c → wait_of w.waits c ≡ Some x → (joining_of_agent w c a ≡ Quits c) ⊎ ((n : ℕ) × (a ≡ Undo n)) → WaitOf a d x
      own p old (inl q) = absurd (none-some (unqueued-own c w.waits)
          (subst (λ (z : Conn). wait_of (waits_by w (Quits c)) z ≡ Some x) p (subst (λ (z : Joining). wait_of (waits_by w z) d ≡ Some x) q e)))
      own p old (inr q) = undoes p q.0 q.1 old

      at_old : wait_of w.waits d ≡ Some x → (b : Bool) → conn_eq d c ≡ b → WaitOf a d x
      at_old old false b = others b old
      at_old old true b =
          let p : d ≡ c = conn-is d c b in
          let here : wait_of w.waits c ≡ Some x = subst (λ (z : Conn). wait_of w.waits z ≡ Some x) p old in
          own p here (waits-quits a x al here)

      go : (wait_of w.waits d ≡ Some x) ⊎ ((joining_of_agent w c a ≡ Joins x) × (x.conn ≡ d)) → WaitOf a d x
      go (inl old) = at_old old (conn_eq d c) refl
      go (inr p) = let q = queues a x al p.0 in joins (sym p.1 ∙ q.conn) p.0 q

module _ (w : World) where
  -- after a dispatcher's entry what waits has waited before
  pub waits-dispatcher : (a : Act) (d : Conn) (x : Wait) → wait_of (waits_by w (joining_of_dispatcher w a)) d ≡ Some x → wait_of w.waits d ≡ Some x
  waits-dispatcher a d x e = elim (wait-from w (joining_of_dispatcher w a) d x (fits a) e) [ inl p ↦ p | inr p ↦ absurd (never a x p.0) ]
    where
      victim-fits : (o : Option Conn) → JoinFits w (option_map_or Quits o Passes)
      victim-fits None = tt
      victim-fits (Some v) = tt

      victim-never : (o : Option Conn) (x : Wait) → option_map_or Quits o Passes ≡ Joins x → ⊥
      victim-never None x e = cc
      victim-never (Some v) x e = cc

      fits : (a : Act) → JoinFits w (joining_of_dispatcher w a)
      fits (Victim cycle) = victim-fits (victim w cycle)
      fits (Expire line c true) = tt
      fits (Expire line c false) = tt
      fits _ = tt

      never : (a : Act) (x : Wait) → joining_of_dispatcher w a ≡ Joins x → ⊥
      never (Victim cycle) x e = victim-never (victim w cycle) x e
      never (Expire line c true) x e = cc
      never (Expire line c false) x e = cc
      never _ x e = cc
