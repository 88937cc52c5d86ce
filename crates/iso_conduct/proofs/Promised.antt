-- A table that a statement has locked, or awaits, stays so until its unit ends or it has to roll back.
use Rattle.std.proofs.Common.{◌≡◌, ◌⊎◌, inl, inr, ℕ, Bool, true, false, not, ◌&&◌, ◌||◌, List, [], ◌∷◌, refl, ap, sym, ◌∙◌, subst, is_some, Some, None, Option, option_map}
use Rattle.std.specs.Option.{option_map_or}
use Rattle.std.specs.Prelude.{if◌then◌else◌, is_none}
use Rattle.std.proofs.lemmas.Bool.{and_parts}
use Rattle.iso_conduct.proofs.Needs.{Locked, Within}
use Rattle.iso_conduct.proofs.Open.{eq-is, eq-turned}
use Rattle.iso_conduct.specs.Conduct.{ends, is_by}
use Rattle.iso_history.proofs.facts.Backed.{at_least-filter, brief-kept}
use Rattle.iso_history.proofs.facts.Single.{single-settled}
use Rattle.iso_history.proofs.facts.Tables.{at_table, tables-hand, tables-settled}
use Rattle.iso_history.proofs.locks.Hands.{hand-stands}
use Rattle.iso_history.proofs.locks.Holds.{held-own, held-settled}
use Rattle.iso_history.proofs.facts.Lasting.{drops, table_lock-stays}
use Rattle.iso_history.proofs.facts.Others.{wait-others}
use Rattle.iso_history.proofs.locks.Finds.{find-filter_kept, find-is}
use Rattle.iso_history.proofs.locks.Joins.{runs-alone}
use Rattle.iso_history.proofs.pending.ModeTests.{at_least-second}
use Rattle.iso_history.specs.After.{after}
use Rattle.iso_history.specs.Facts.{IsOpen, LocksSound, WaitersOpen}
use Rattle.iso_history.specs.Holds.{Hand, claimed, hand_of, holds_by_agent, holds_by_hand, spared}
use Rattle.iso_history.specs.Holds.Hand.{Drops, Leaves, Places}
use Rattle.iso_history.specs.Legal.{Allowed, By, ByAgent}
use Rattle.iso_history.specs.Phases.{Doom, doom_by, doom_of, doom_of_agent, doom_of_dispatcher, is_phase, phase, phase_of, victim}
use Rattle.iso_history.specs.Phases.Doom.{Dooms, Lifts, Spares}
use Rattle.iso_history.specs.Waits.{Joining, joining_of, joining_of_agent, joining_of_dispatcher, waits_by}
use Rattle.iso_history.specs.Waits.Joining.{Joins, Passes, Quits}
use Rattle.iso_history.specs.World.{World, at_conn}
use Rattle.iso_history.specs.declared.entry.Act.{Act}
use Rattle.iso_history.specs.declared.entry.Act.TheVariants.{Back, Busy, Claim, Close, Collapse, Commit, Delete, Dispatch, Expire, Finish, Free, Insert, Lock, Look, Mark, Next, Purge, Refused, Reply, Rollback, ScanEnd, Set, Snapshot, Stopped, Undo, Update, Victim}
use Rattle.iso_history.specs.declared.entry.Entry.{Entry}
use Rattle.iso_history.specs.declared.entry.Got.{Got}
use Rattle.iso_history.specs.declared.entry.Stand.{Stand}
use Rattle.iso_history.specs.declared.entry.Who.{Who}
use Rattle.iso_history.specs.declared.entry.Who.TheVariants.{Agent, Dispatcher}
use Rattle.iso_modes.specs.Modes.{at_least, joined}
use Rattle.iso_modes.specs.declared.Mode.{Mode}
use Rattle.iso_modes.specs.declared.Term.{Term}
use Rattle.iso_queue.specs.Locks.{Hold, Request, added, held, holds_at_least, settled, target}
use Rattle.iso_queue.specs.Queues.{Wait, unqueued, wait_of}
use Rattle.iso_types.specs.Ids.{conn_eq}
use Rattle.iso_types.specs.declared.desk.Phase.{Phase}
use Rattle.iso_types.specs.declared.desk.Phase.TheVariants.{Closing, Rolling, Running}
use Rattle.iso_types.specs.declared.head.Head.{Head}
use Rattle.iso_types.specs.declared.value.Conn.{Conn}
use Rattle.iso_types.specs.declared.value.Name.{Name}
use Rattle.iso_types.specs.declared.value.Name.TheVariants.{Table}
use Rattle.iso_types.specs.declared.value.TableId.{TableId}

-- the connection awaits the table, and will hold it in this mode or more
abbrev pub Awaits : World → Conn → Locked
Awaits w c u k = (x : Wait) × (wait_of w.waits c ≡ Some x) × (x.name ≡ Table u) × (at_least x.target k ≡ true)

-- it holds the table so, awaits it, or has to roll back and then needs none
abbrev pub Promised : World → Conn → Locked
Promised w c u k = (holds_at_least w.holds c (Table u) k ≡ true) ⊎ (Awaits w c u k ⊎ (is_some (w.doom c) ≡ true))

-- ---- what goes on

-- only an entry that ends a statement drops its unit's holds
drops-ends : (head : Head) (w : World) (c : Conn) (a : Act) → hand_of head w c a ≡ Drops → ends a ≡ true
drops-ends head w c Commit h = refl
drops-ends head w c (Rollback code reason) h = refl
drops-ends head w c Act.Ended h = refl
drops-ends head w c (Lock n m t why Got.Granted) h = cc
drops-ends head w c (Lock n m t why (Got.Queued q)) h = cc
drops-ends head w c (Lock n m t why Got.TimedOut) h = cc
drops-ends head w c (Look t r want Got.Granted) h = cc
drops-ends head w c (Look t r want (Got.Queued q)) h = cc
drops-ends head w c (Look t r want Got.TimedOut) h = cc
drops-ends head w c (Next i range at guarded (Stand.At v r)) h = cc
drops-ends head w c (Next i range at guarded Stand.Past) h = cc
drops-ends head w c (Next i range at guarded (Stand.Queued n)) h = cc
drops-ends head w c (Next i range at guarded (Stand.TimedOut n)) h = cc
drops-ends head w c Claim h = absurd (go (wait_of w.waits c) h)
  where
    go : (o : Option Wait) → option_map_or (λ x. Places (record { name = x.name; mode = x.target; term = x.term } ∷ [])) o Leaves ≡ Drops → ⊥
    go None k = cc
    go (Some x) k = cc
drops-ends head w c _ h = cc

and-no : (a b : Bool) → (a && b) ≡ false → a ≡ true → b ≡ true → ⊥
and-no true true h e f = cc
and-no false b h e f = cc
and-no true false h e f = cc

not-dropped : (head : Head) (w : World) (c : Conn) (who : Who) (a : Act) → (is_by c who && ends a) ≡ false → drops head w c who a → ⊥
not-dropped head w c Dispatcher a goes d = d
not-dropped head w c (Agent e) a goes d = and-no (conn_eq e c) (ends a) goes d.0 (drops-ends head w e a d.1)

-- the entry lifts the connection's doom
abbrev lifts : Conn → Doom → Bool
lifts c (Lifts d) = conn_eq c d
lifts c _ = false

doom-stays : (f : Conn → Option ℕ) (c : Conn) (x : Doom) → lifts c x ≡ false → is_some (f c) ≡ true → is_some (doom_by f x c) ≡ true
doom-stays f c Spares l e = e
doom-stays f c (Dooms d reason) l e = go (conn_eq c d)
  where
    go : (b : Bool) → is_some (if b then Some reason else f c) ≡ true
    go true = refl
    go false = e
doom-stays f c (Lifts d) l e = rw l e

unlifted : (w : World) (c : Conn) (who : Who) (a : Act) → (is_by c who && ends a) ≡ false → lifts c (doom_of w who a) ≡ false
unlifted w c Dispatcher (Victim cycle) goes = go (victim w cycle)
  where
    go : (o : Option Conn) → lifts c (option_map_or (λ d. Dooms d 2) o Spares) ≡ false
    go None = refl
    go (Some d) = refl
unlifted w c Dispatcher (Expire line d true) goes = refl
unlifted w c Dispatcher (Expire line d false) goes = refl
unlifted w c Dispatcher _ goes = refl
unlifted w c (Agent d) (Rollback code reason) goes = eq-turned d c (first (conn_eq d c) goes)
  where
    first : (b : Bool) → (b && true) ≡ false → b ≡ false
    first true h = cc
    first false h = refl
unlifted w c (Agent d) (Lock n m t why Got.Granted) goes = refl
unlifted w c (Agent d) (Lock n m t why (Got.Queued q)) goes = refl
unlifted w c (Agent d) (Lock n m t why Got.TimedOut) goes = refl
unlifted w c (Agent d) (Look t r want Got.Granted) goes = refl
unlifted w c (Agent d) (Look t r want (Got.Queued q)) goes = refl
unlifted w c (Agent d) (Look t r want Got.TimedOut) goes = refl
unlifted w c (Agent d) (Next i range at guarded (Stand.At v r)) goes = refl
unlifted w c (Agent d) (Next i range at guarded Stand.Past) goes = refl
unlifted w c (Agent d) (Next i range at guarded (Stand.Queued n)) goes = refl
unlifted w c (Agent d) (Next i range at guarded (Stand.TimedOut n)) goes = refl
unlifted w c (Agent d) _ goes = refl

-- ---- who waits

waits-phase : (w : World) (c : Conn) (x : Wait) → WaitersOpen w → wait_of w.waits c ≡ Some x → phase w c ≡ Phase.Waiting
unfolding WaitersOpen
waits-phase w c x open' e =
    let o = open' c x e in
    let waits : is_some (wait_of w.waits c) ≡ true = ap (λ (z : Option Wait). is_some z) e in
    rw (o.ended, o.closing, o.doom, waits) refl

undo-waits : (p : Phase) → p ≡ Phase.Waiting → (is_phase p Running || is_phase p Rolling || is_phase p Closing) ≡ true → ⊥
undo-waits Phase.Waiting e h = cc
undo-waits Running e h = cc
undo-waits Rolling e h = cc
undo-waits Closing e h = cc
undo-waits Phase.Idle e h = cc
undo-waits Phase.Ended e h = cc

-- in that phase a connection claims, or ends its statement
waiting-claims : (head : Head) (w : World) (c : Conn) (a : Act) → phase w c ≡ Phase.Waiting → ByAgent head w c a → ends a ≡ false → a ≡ Claim
waiting-claims head w c Claim p al e = refl
waiting-claims head w c (Lock n m t why got) p al e = cc (sym p ∙ al.0.0)
waiting-claims head w c (Look t r want got) p al e = cc (sym p ∙ al.0.0)
waiting-claims head w c (ScanEnd t n) p al e = cc (sym p ∙ al.0.0)
waiting-claims head w c (Next i range at guarded got) p al e = cc (sym p ∙ al.0.0)
waiting-claims head w c (Free t r) p al e = cc (sym p ∙ al.0.0)
waiting-claims head w c (Collapse t m) p al e = cc (sym p ∙ al.0)
waiting-claims head w c (Insert t r row) p al e = cc (sym p ∙ al.0.0)
waiting-claims head w c (Update t r row) p al e = cc (sym p ∙ al.0.0)
waiting-claims head w c (Delete t r) p al e = cc (sym p ∙ al.0.0)
waiting-claims head w c (Refused code) p al e = cc (sym p ∙ al.0.0)
waiting-claims head w c (Undo n) p al e = absurd (undo-waits (phase w c) p ((and_parts _ _ al.0).0))
waiting-claims head w c (Mark name) p al e = cc (sym p ∙ al.0)
waiting-claims head w c (Back name) p al e = cc (sym p ∙ al.0.0)
waiting-claims head w c (Set level may_wait) p al e = cc (sym p ∙ al.0)
waiting-claims head w c Commit p al e = cc
waiting-claims head w c (Rollback code reason) p al e = cc
waiting-claims head w c (Reply code changed rows) p al e = cc
waiting-claims head w c Act.Ended p al e = cc
waiting-claims head w c (Stopped cause) p al e = cc
waiting-claims head w c _ p al e = absurd al

-- ---- waits

wait-quits : (c d : Conn) (ws : List Wait) (x : Wait) → conn_eq c d ≡ false → wait_of ws c ≡ Some x → wait_of (unqueued d ws) c ≡ Some x
wait-quits c d ws x away e = find-filter_kept (λ (y : Wait). conn_eq y.conn c) (λ (y : Wait). not (conn_eq y.conn d)) ws x e
    (ap (λ z. not (conn_eq z d)) (eq-is x.conn c (find-is (λ (y : Wait). conn_eq y.conn c) ws x e)) ∙ ap not away)

module _ (head : Head) (w : World) (c : Conn) (s : LocksSound head w) where
  -- the dispatcher ends a wait where it dooms its connection
  awaits-dispatcher : (a : Act) (x : Wait) → wait_of w.waits c ≡ Some x
      → (wait_of (waits_by w (joining_of_dispatcher w a)) c ≡ Some x) ⊎ (is_some (doom_by w.doom (doom_of_dispatcher w a) c) ≡ true)
  awaits-dispatcher (Victim cycle) x e = go (victim w cycle)
    where
      by : (d : Conn) (b : Bool) → conn_eq c d ≡ b
          → (wait_of (unqueued d w.waits) c ≡ Some x) ⊎ (is_some (if b then Some 2 else w.doom c) ≡ true)
      by d true k = inr refl
      by d false k = inl (wait-quits c d w.waits x k e)

      go : (o : Option Conn) → (wait_of (waits_by w (option_map_or Quits o Passes)) c ≡ Some x)
          ⊎ (is_some (doom_by w.doom (option_map_or (λ d. Dooms d 2) o Spares) c) ≡ true)
      go None = inl e
      go (Some d) = by d (conn_eq c d) refl
  awaits-dispatcher (Expire line d true) x e = by (conn_eq c d) refl
    where
      by : (b : Bool) → conn_eq c d ≡ b → (wait_of (unqueued d w.waits) c ≡ Some x) ⊎ (is_some (if b then Some 68 else w.doom c) ≡ true)
      by true k = inr refl
      by false k = inl (wait-quits c d w.waits x k e)
  awaits-dispatcher (Expire line d false) x e = inl e
  awaits-dispatcher _ x e = inl e

  at-target : (o : Option Mode) (m k : Mode) → at_least m k ≡ true → at_least (option_map_or (λ h. joined h m) o m) k ≡ true
  at-target None m k e = e
  at-target (Some h) m k e = at_least-second k h m e

  -- what is placed on a table is held
  pub placed-held : (a : Act) → ByAgent head w c a → (t : TableId) (m k : Mode) (term : Term)
      → hand_of head w c a ≡ Places (record { name = Table t; mode = m; term = term } ∷ []) → at_least m k ≡ true
      → holds_at_least (holds_by_agent head w c a) c (Table t) k ≡ true
  placed-held a al t m k term is e =
      let hand = hand_of head w c a in
      let kept = tables-hand head c hand mid (single-settled c (spared a (w.last c)) w.holds s.single)
      (hand-stands head w c (spared a (w.last c)) a s al) (tables-settled c (spared a (w.last c)) w.holds s.tables) in
      at_least-filter _ (holds_by_hand head c hand mid) c (Table t)
      (λ g x. brief-kept w.holds c g (at_table (holds_by_hand head c hand mid) kept c t g x)) k
      (ap (λ h. holds_at_least (holds_by_hand head c h mid) c (Table t) k) is ∙ new)
    where
      mid : List Hold
      mid = settled c (spared a (w.last c)) w.holds

      asked : Request
      asked = record { name = Table t; mode = m; term = term }

      new : holds_at_least (added mid c asked) c (Table t) k ≡ true
      new = ap (λ o. option_map_or (λ z. at_least z k) o false) (held-own c asked mid) ∙ at-target (held mid c (Table t)) m k e

  claim-held : ByAgent head w c Claim → (x : Wait) (u : TableId) (k : Mode) → wait_of w.waits c ≡ Some x → x.name ≡ Table u → at_least x.target k ≡ true
      → holds_at_least (holds_by_agent head w c Claim) c (Table u) k ≡ true
  claim-held al x u k e n h = placed-held Claim al u x.target k x.term
      (ap (λ o. option_map_or (λ (y : Wait). Places (record { name = y.name; mode = y.target; term = y.term } ∷ [])) o Leaves) e
      ∙ ap (λ z. Places (record { name = z; mode = x.target; term = x.term } ∷ [])) n) h

  awaits-stays : (who : Who) (a : Act) → By head w who a → (is_by c who && ends a) ≡ false → (u : TableId) (k : Mode) → Awaits w c u k
      → Promised (after head w (record { who = who; act = a })) c u k
  awaits-stays Dispatcher a al goes u k p = go (awaits-dispatcher a p.0 p.1)
    where
      go : (wait_of (waits_by w (joining_of_dispatcher w a)) c ≡ Some p.0) ⊎ (is_some (doom_by w.doom (doom_of_dispatcher w a) c) ≡ true)
          → Promised (after head w (record { who = Dispatcher; act = a })) c u k
      go (inl e) = inr (inl (p.0, e, p.2, p.3))
      go (inr e) = inr (inr e)
  awaits-stays (Agent d) a al goes u k p = go (conn_eq d c) refl goes
    where
      own : (d ≡ c) → ends a ≡ false → Promised (after head w (record { who = Agent d; act = a })) c u k
      own same goes =
          let by : ByAgent head w c a = subst (λ z. ByAgent head w z a) same al.1 in
          let is : a ≡ Claim = waiting-claims head w c a (waits-phase w c p.0 s.open_waits p.1) by goes in
          inl (subst (λ z. holds_at_least (holds_by_agent head w z a) c (Table u) k ≡ true) (sym same)
          (subst (λ z. holds_at_least (holds_by_agent head w c z) c (Table u) k ≡ true) (sym is) (claim-held (subst (ByAgent head w c) is by) p.0 u k p.1 p.2 p.3)))

      go : (b : Bool) → conn_eq d c ≡ b → (b && ends a) ≡ false → Promised (after head w (record { who = Agent d; act = a })) c u k
      go true e g = own (eq-is d c e) g
      go false e g = inr (inl (p.0, wait-others w d c a e ∙ p.1, p.2, p.3))

  -- so what is promised stays so
  pub promised-stays : (e : Entry) → Allowed head w e → (is_by c e.who && ends e.act) ≡ false → Within (Promised w c) (Promised (after head w e) c)
  promised-stays e al goes u k (inl h) = inl (table_lock-stays head w e.who e.act al.2 s c u k (not-dropped head w c e.who e.act goes) h)
  promised-stays e al goes u k (inr (inl h)) = awaits-stays e.who e.act al.2 goes u k h
  promised-stays e al goes u k (inr (inr h)) = inr (inr (doom-stays w.doom c (doom_of w e.who e.act) (unlifted w c e.who e.act goes) h))
