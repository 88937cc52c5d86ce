-- What lasts while a statement goes on: its unit's holds, its doom, and its wait until the Claim.
use Rattle.std.proofs.Common.{◌≡◌, ◌⊎◌, inl, inr, ℕ, Bool, true, false, not, ◌&&◌, ◌||◌, List, [], ◌∷◌, refl, ap, sym, ◌∙◌, is_some, Some, None, Option}
use Rattle.std.specs.Option.{option_map_or}
use Rattle.std.specs.Prelude.{if◌then◌else◌}
use Rattle.std.proofs.lemmas.Bool.{and_parts}
use Rattle.iso_conduct.proofs.Open.{eq-is, eq-turned}
use Rattle.iso_conduct.specs.Conduct.{ends, is_by}
use Rattle.iso_history.proofs.facts.Lasting.{drops}
use Rattle.iso_history.proofs.locks.Finds.{find-filter_kept, find-is}
use Rattle.iso_history.specs.Facts.{WaitersOpen}
use Rattle.iso_history.specs.Holds.{hand_of}
use Rattle.iso_history.specs.Holds.Hand.{Drops, Leaves, Places}
use Rattle.iso_history.specs.Legal.{ByAgent}
use Rattle.iso_history.specs.Phases.{Doom, doom_by, doom_of, doom_of_dispatcher, is_phase, phase, victim}
use Rattle.iso_history.specs.Phases.Doom.{Dooms, Lifts, Spares}
use Rattle.iso_history.specs.Waits.{joining_of_dispatcher, waits_by}
use Rattle.iso_history.specs.Waits.Joining.{Passes, Quits}
use Rattle.iso_history.specs.World.{World}
use Rattle.iso_history.specs.declared.entry.Act.{Act}
use Rattle.iso_history.specs.declared.entry.Act.TheVariants.{Back, Claim, Collapse, Commit, Delete, Expire, Free, Insert, Lock, Look, Mark, Next, Refused, Reply, Rollback, ScanEnd, Set, Stopped, Undo, Update, Victim}
use Rattle.iso_history.specs.declared.entry.Got.{Got}
use Rattle.iso_history.specs.declared.entry.Stand.{Stand}
use Rattle.iso_history.specs.declared.entry.Who.{Who}
use Rattle.iso_history.specs.declared.entry.Who.TheVariants.{Agent, Dispatcher}
use Rattle.iso_queue.specs.Queues.{Wait, unqueued, wait_of}
use Rattle.iso_types.specs.Ids.{conn_eq}
use Rattle.iso_types.specs.declared.desk.Phase.{Phase}
use Rattle.iso_types.specs.declared.desk.Phase.TheVariants.{Closing, Rolling, Running}
use Rattle.iso_types.specs.declared.head.Head.{Head}
use Rattle.iso_types.specs.declared.value.Conn.{Conn}

-- only an entry that ends a statement drops its unit's holds
pub drops-ends : (head : Head) (w : World) (c : Conn) (a : Act) → hand_of head w c a ≡ Drops → ends a ≡ true
drops-ends head w c Commit h = refl
drops-ends head w c (Rollback code reason) h = refl
drops-ends head w c Act.Ended h = refl
drops-ends head w c (Lock n m t why Got.Granted) h = cc
drops-ends head w c (Lock n m t why (Got.Queued q)) h = cc
drops-ends head w c (Lock n m t why Got.TimedOut) h = cc
drops-ends head w c (Look t r want Got.Granted) h = cc
drops-ends head w c (Look t r want (Got.Queued q)) h = cc
drops-ends head w c (Look t r want Got.TimedOut) h = cc
drops-ends head w c (Next i range at guarded (Stand.At v r)) h = cc
drops-ends head w c (Next i range at guarded Stand.Past) h = cc
drops-ends head w c (Next i range at guarded (Stand.Queued n)) h = cc
drops-ends head w c (Next i range at guarded (Stand.TimedOut n)) h = cc
drops-ends head w c Claim h = absurd (go (wait_of w.waits c) h)
  where
    go : (o : Option Wait) → option_map_or (λ x. Places (record { name = x.name; mode = x.target; term = x.term } ∷ [])) o Leaves ≡ Drops → ⊥
    go None k = cc
    go (Some x) k = cc
drops-ends head w c _ h = cc

and-no : (a b : Bool) → (a && b) ≡ false → a ≡ true → b ≡ true → ⊥
and-no true true h e f = cc
and-no false b h e f = cc
and-no true false h e f = cc

pub not-dropped : (head : Head) (w : World) (c : Conn) (who : Who) (a : Act) → (is_by c who && ends a) ≡ false → drops head w c who a → ⊥
not-dropped head w c Dispatcher a goes d = d
not-dropped head w c (Agent e) a goes d = and-no (conn_eq e c) (ends a) goes d.0 (drops-ends head w e a d.1)

-- the entry lifts the connection's doom
abbrev pub lifts : Conn → Doom → Bool
lifts c (Lifts d) = conn_eq c d
lifts c _ = false

pub doom-stays : (f : Conn → Option ℕ) (c : Conn) (x : Doom) → lifts c x ≡ false → is_some (f c) ≡ true → is_some (doom_by f x c) ≡ true
doom-stays f c Spares l e = e
doom-stays f c (Dooms d reason) l e = go (conn_eq c d)
  where
    go : (b : Bool) → is_some (if b then Some reason else f c) ≡ true
    go true = refl
    go false = e
doom-stays f c (Lifts d) l e = rw l e

pub unlifted : (w : World) (c : Conn) (who : Who) (a : Act) → (is_by c who && ends a) ≡ false → lifts c (doom_of w who a) ≡ false
unlifted w c Dispatcher (Victim cycle) goes = go (victim w cycle)
  where
    go : (o : Option Conn) → lifts c (option_map_or (λ d. Dooms d 2) o Spares) ≡ false
    go None = refl
    go (Some d) = refl
unlifted w c Dispatcher (Expire line d true) goes = refl
unlifted w c Dispatcher (Expire line d false) goes = refl
unlifted w c Dispatcher _ goes = refl
unlifted w c (Agent d) (Rollback code reason) goes = eq-turned d c (first (conn_eq d c) goes)
  where
    first : (b : Bool) → (b && true) ≡ false → b ≡ false
    first true h = cc
    first false h = refl
unlifted w c (Agent d) (Lock n m t why Got.Granted) goes = refl
unlifted w c (Agent d) (Lock n m t why (Got.Queued q)) goes = refl
unlifted w c (Agent d) (Lock n m t why Got.TimedOut) goes = refl
unlifted w c (Agent d) (Look t r want Got.Granted) goes = refl
unlifted w c (Agent d) (Look t r want (Got.Queued q)) goes = refl
unlifted w c (Agent d) (Look t r want Got.TimedOut) goes = refl
unlifted w c (Agent d) (Next i range at guarded (Stand.At v r)) goes = refl
unlifted w c (Agent d) (Next i range at guarded Stand.Past) goes = refl
unlifted w c (Agent d) (Next i range at guarded (Stand.Queued n)) goes = refl
unlifted w c (Agent d) (Next i range at guarded (Stand.TimedOut n)) goes = refl
unlifted w c (Agent d) _ goes = refl

-- ---- who waits

pub waits-phase : (w : World) (c : Conn) (x : Wait) → WaitersOpen w → wait_of w.waits c ≡ Some x → phase w c ≡ Phase.Waiting
unfolding WaitersOpen
waits-phase w c x open' e =
    let o = open' c x e in
    let waits : is_some (wait_of w.waits c) ≡ true = ap (λ (z : Option Wait). is_some z) e in
    rw (o.ended, o.closing, o.doom, waits) refl

undo-waits : (p : Phase) → p ≡ Phase.Waiting → (is_phase p Running || is_phase p Rolling || is_phase p Closing) ≡ true → ⊥
undo-waits Phase.Waiting e h = cc
undo-waits Running e h = cc
undo-waits Rolling e h = cc
undo-waits Closing e h = cc
undo-waits Phase.Idle e h = cc
undo-waits Phase.Ended e h = cc

-- in that phase a connection claims, or ends its statement
pub waiting-claims : (head : Head) (w : World) (c : Conn) (a : Act) → phase w c ≡ Phase.Waiting → ByAgent head w c a → ends a ≡ false → a ≡ Claim
waiting-claims head w c Claim p al e = refl
waiting-claims head w c (Lock n m t why got) p al e = cc (sym p ∙ al.0.0)
waiting-claims head w c (Look t r want got) p al e = cc (sym p ∙ al.0.0)
waiting-claims head w c (ScanEnd t n) p al e = cc (sym p ∙ al.0.0)
waiting-claims head w c (Next i range at guarded got) p al e = cc (sym p ∙ al.0.0)
waiting-claims head w c (Free t r) p al e = cc (sym p ∙ al.0.0)
waiting-claims head w c (Collapse t m) p al e = cc (sym p ∙ al.0)
waiting-claims head w c (Insert t r row) p al e = cc (sym p ∙ al.0.0)
waiting-claims head w c (Update t r row) p al e = cc (sym p ∙ al.0.0)
waiting-claims head w c (Delete t r) p al e = cc (sym p ∙ al.0.0)
waiting-claims head w c (Refused code) p al e = cc (sym p ∙ al.0.0)
waiting-claims head w c (Undo n) p al e = absurd (undo-waits (phase w c) p ((and_parts _ _ al.0).0))
waiting-claims head w c (Mark name) p al e = cc (sym p ∙ al.0)
waiting-claims head w c (Back name) p al e = cc (sym p ∙ al.0.0)
waiting-claims head w c (Set level may_wait) p al e = cc (sym p ∙ al.0)
waiting-claims head w c Commit p al e = cc
waiting-claims head w c (Rollback code reason) p al e = cc
waiting-claims head w c (Reply code changed rows) p al e = cc
waiting-claims head w c Act.Ended p al e = cc
waiting-claims head w c (Stopped cause) p al e = cc
waiting-claims head w c _ p al e = absurd al

-- ---- waits

wait-quits : (c d : Conn) (ws : List Wait) (x : Wait) → conn_eq c d ≡ false → wait_of ws c ≡ Some x → wait_of (unqueued d ws) c ≡ Some x
wait-quits c d ws x away e = find-filter_kept (λ (y : Wait). conn_eq y.conn c) (λ (y : Wait). not (conn_eq y.conn d)) ws x e
    (ap (λ z. not (conn_eq z d)) (eq-is x.conn c (find-is (λ (y : Wait). conn_eq y.conn c) ws x e)) ∙ ap not away)

module _ (w : World) (c : Conn) where
  -- the dispatcher ends a wait where it dooms its connection
  pub awaits-dispatcher : (a : Act) (x : Wait) → wait_of w.waits c ≡ Some x
      → (wait_of (waits_by w (joining_of_dispatcher w a)) c ≡ Some x) ⊎ (is_some (doom_by w.doom (doom_of_dispatcher w a) c) ≡ true)
  awaits-dispatcher (Victim cycle) x e = go (victim w cycle)
    where
      by : (d : Conn) (b : Bool) → conn_eq c d ≡ b
          → (wait_of (unqueued d w.waits) c ≡ Some x) ⊎ (is_some (if b then Some 2 else w.doom c) ≡ true)
      by d true k = inr refl
      by d false k = inl (wait-quits c d w.waits x k e)

      go : (o : Option Conn) → (wait_of (waits_by w (option_map_or Quits o Passes)) c ≡ Some x)
          ⊎ (is_some (doom_by w.doom (option_map_or (λ d. Dooms d 2) o Spares) c) ≡ true)
      go None = inl e
      go (Some d) = by d (conn_eq c d) refl
  awaits-dispatcher (Expire line d true) x e = by (conn_eq c d) refl
    where
      by : (b : Bool) → conn_eq c d ≡ b → (wait_of (unqueued d w.waits) c ≡ Some x) ⊎ (is_some (if b then Some 68 else w.doom c) ≡ true)
      by true k = inr refl
      by false k = inl (wait-quits c d w.waits x k e)
  awaits-dispatcher (Expire line d false) x e = inl e
  awaits-dispatcher _ x e = inl e
