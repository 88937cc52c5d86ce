-- A connection that has to roll back has an open statement with an own entry.
use Rattle.std.proofs.Common.{◌≡◌, ℕ, Bool, true, false, List, [], ◌∷◌, refl, sym, ap, ◌∙◌, subst, Option, Some, None, if◌then◌else◌}
use Rattle.std.specs.Prelude.{is_none, is_some}
use Rattle.iso_conduct.proofs.PairedAlong.{IsTied, next_at, tied-along}
use Rattle.iso_conduct.specs.Conduct.{Conduct, ConductFrom, Does, IsNext, MayIn, Rolls, ends, moved_by, moved_in, point, point_after, point_from, ready, stops_for_memory}
use Rattle.iso_conduct.specs.Points.{Point}
use Rattle.iso_history.proofs.limits.Courses.{is_phase-is}
use Rattle.iso_history.proofs.limits.Others.{others-agent}
use Rattle.iso_history.proofs.limits.Stations.{closing-parts, rolling-parts, waiting-parts, running-parts}
use Rattle.iso_history.proofs.limits.Victims.{has_victim}
use Rattle.iso_history.proofs.limits.Waiting.{conn_eq-is, conn_eq-refl, conn_eq-sym}
use Rattle.iso_history.specs.After.{after, start, world, world_from}
use Rattle.iso_history.specs.Legal.{By, ByAgent, ByDispatcher, Ground, GroundFrom}
use Rattle.iso_history.specs.Makers.{by_agent, by_dispatcher}
use Rattle.iso_history.specs.Phases.{closing_by, phase}
use Rattle.iso_history.specs.World.{World}
use Rattle.iso_history.specs.declared.entry.Act.{Act}
use Rattle.iso_history.specs.declared.entry.Act.TheVariants.{Close, Commit, Expire, Reply, Rollback, Stopped, Victim}
use Rattle.iso_history.specs.declared.entry.Entry.{Entry}
use Rattle.iso_history.specs.declared.entry.Who.{Who}
use Rattle.iso_history.specs.declared.entry.Who.TheVariants.{Agent, Dispatcher}
use Rattle.iso_queue.specs.Queues.{is_waiting}
use Rattle.iso_script.specs.declared.script.Line.{Line}
use Rattle.iso_types.specs.Ids.{conn_eq}
use Rattle.iso_types.specs.declared.desk.Phase.{Phase}
use Rattle.iso_types.specs.declared.desk.Phase.TheVariants.{Closing, Idle, Rolling, Running}
use Rattle.iso_types.specs.declared.head.Head.{Head}
use Rattle.iso_types.specs.declared.value.Conn.{Conn}

-- while it does not close: who is doomed has a point
abbrev DoomOpen : World → Conn → Option Point → Type 0
DoomOpen w c o = w.closing c ≡ false → is_some (w.doom c) ≡ true → is_some o ≡ true

both : (b : Bool) → b ≡ true → b ≡ false → (P : Type 0) → P
both b t f P = absurd (cc)

claims-some : (o : Option Point) → next_at o ≡ true → is_some o ≡ true
claims-some None e = absurd (cc)
claims-some (Some p) e = refl

-- who waits has a point
waits-open : (w : World) (c : Conn) (o : Option Point) → IsTied w c o → DoomOpen w c o → w.closing c ≡ false → is_waiting w.waits c ≡ true
    → is_some o ≡ true
waits-open w c o t h closing waits = go (is_some (w.doom c)) refl
  where
    go : (b : Bool) → is_some (w.doom c) ≡ b → is_some o ≡ true
    go true e = h closing e
    go false e = claims-some o (sym (t.waits closing e) ∙ waits)

-- ---- what the dispatcher does

-- a doom that comes upon a connection that waits
dooms-open : (w : World) (c d : Conn) (r : ℕ) (o : Option Point) → IsTied w c o → DoomOpen w c o → w.closing c ≡ false → is_waiting w.waits d ≡ true
    → is_some (if conn_eq c d then Some r else w.doom c) ≡ true → is_some o ≡ true
dooms-open w c d r o t h closing waits e = go (conn_eq c d) refl e
  where
    go : (b : Bool) → conn_eq c d ≡ b → is_some (if b then Some r else w.doom c) ≡ true → is_some o ≡ true
    go true k e = waits-open w c o t h closing (subst (λ x. is_waiting w.waits x ≡ true) (sym (conn_eq-is c d k)) waits)
    go false k e = h closing e

-- no connection closes that did
closed-not : (f : Conn → Bool) (c d : Conn) → (if conn_eq c d then true else f c) ≡ false → f c ≡ false
closed-not f c d e = go (conn_eq c d) e
  where
    go : (b : Bool) → (if b then true else f c) ≡ false → f c ≡ false
    go true k = absurd (cc)
    go false k = k

dispatcher-open : (head : Head) (w : World) (c : Conn) (o : Option Point) (a : Act) → ByDispatcher head w a → IsTied w c o → DoomOpen w c o
    → DoomOpen (after head w (by_dispatcher a)) c o
dispatcher-open head w c o (Victim cycle) by t h = λ closing doom.
    let v = has_victim head w cycle by in dooms-open w c v.conn 2 o t h closing v.waits (rw (v.is_victim) at doom)
dispatcher-open head w c o (Expire line d true) by t h = λ closing doom.
    dooms-open w c d 68 o t h closing
    (waiting-parts (w.ended d) (w.closing d) (is_some (w.doom d)) (is_waiting w.waits d) (is_none (w.line d)) (is_phase-is (phase w d) Phase.Waiting (sym by.3))).waiting_is
    doom
dispatcher-open head w c o (Close d) by t h = λ closing doom. h (closed-not w.closing c d closing) doom
dispatcher-open head w c o _ by t h = h

-- ---- what an own entry does

-- the act ends its statement, and is neither a rollback nor a stop: its maker is not doomed
ender-free : (head : Head) (w : World) (c : Conn) (a : Act) → ByAgent head w c a → ends a ≡ true
    → (after head w (by_agent c a)).closing c ≡ false → is_some ((after head w (by_agent c a)).doom c) ≡ true → (P : Type 0) → P
ender-free head w c (Reply code changed rows) by e closing doom P =
    both (is_some (w.doom c)) doom (running-parts (w.ended c) (w.closing c) (is_some (w.doom c)) (is_waiting w.waits c) (is_none (w.line c)) by.0).doomed_is P
ender-free head w c Commit by e closing doom P =
    both (is_some (w.doom c)) doom (running-parts (w.ended c) (w.closing c) (is_some (w.doom c)) (is_waiting w.waits c) (is_none (w.line c)) by.0).doomed_is P
ender-free head w c (Rollback code reason) by e closing doom P = let k : false ≡ true = rw (conn_eq-refl c) at doom in absurd (cc)
ender-free head w c Act.Ended by e closing doom P =
    both (w.closing c) (closing-parts (w.ended c) (w.closing c) (is_some (w.doom c)) (is_waiting w.waits c) (is_none (w.line c)) by.0).closing_is closing P
ender-free head w c (Stopped cause) by e closing doom P = let k : true ≡ false = rw (conn_eq-refl c) at closing in absurd (cc)
ender-free head w c _ by e closing doom P = absurd (cc)

-- a step is one of a point
next-some : (head : Head) (w : World) (c : Conn) (q : Option Point) (a : Act) → ends a ≡ false → IsNext head w c q a → is_some q ≡ true
next-some head w c None (Stopped cause) e m = absurd (cc)
next-some head w c None a e m = absurd (goes a e m)
  where
    goes : (a : Act) → ends a ≡ false → stops_for_memory a ≡ true → ⊥
    goes (Stopped cause) e m = cc
    goes _ e m = cc
next-some head w c (Some p) a e m = refl

rolls-some : (head : Head) (w : World) (c : Conn) (q : Option Point) (a : Act) → Rolls head w c q a → is_some q ≡ true
rolls-some head w c None a m = absurd m
rolls-some head w c (Some p) a m = refl

module _ (head : Head) (lines : List Line) (w v : World) (c : Conn) (o : Option Point) (a : Act) (e : ends a ≡ false) where
  told-some : (q : Option Point) → is_some q ≡ true → is_some (moved_by (ends a) w v c q a) ≡ true
  told-some None k = absurd (cc)
  told-some (Some p) k = rw e refl

  moved-some : (f : Phase) → MayIn f head lines w c o a → (f ≡ Closing → ⊥) → is_some (moved_in f head lines w v c o a) ≡ true
  moved-some Running m k = told-some (ready head lines w c o) (next-some head w c (ready head lines w c o) a e m)
  moved-some Phase.Waiting m k = told-some (ready head lines w c o) (next-some head w c (ready head lines w c o) a e m)
  moved-some Rolling m k = told-some (ready head lines w c o) (rolls-some head w c (ready head lines w c o) a m)
  moved-some Closing m k = absurd (k refl)
  moved-some Idle m k = absurd m
  moved-some Phase.Ended m k = absurd m

was-open : (f : Conn → Bool) (c : Conn) (a : Act) → closing_by f (Agent c) a c ≡ false → f c ≡ false
was-open f c (Stopped cause) e = let k : true ≡ false = rw (conn_eq-refl c) at e in absurd (cc)
was-open f c _ e = e

own-open : (head : Head) (lines : List Line) (w : World) (c : Conn) (o : Option Point) (a : Act) → ByAgent head w c a
    → MayIn (phase w c) head lines w c o a → DoomOpen (after head w (by_agent c a)) c (moved_in (phase w c) head lines w (after head w (by_agent c a)) c o a)
own-open head lines w c o a by m = λ closing doom. go (ends a) refl closing doom
  where
    go : (b : Bool) → ends a ≡ b → (after head w (by_agent c a)).closing c ≡ false → is_some ((after head w (by_agent c a)).doom c) ≡ true
        → is_some (moved_in (phase w c) head lines w (after head w (by_agent c a)) c o a) ≡ true
    go true e closing doom = ender-free head w c a by e closing doom _
    go false e closing doom = moved-some head lines w (after head w (by_agent c a)) c o a e (phase w c) m
        (λ k. both (w.closing c) (closing-parts (w.ended c) (w.closing c) (is_some (w.doom c)) (is_waiting w.waits c) (is_none (w.line c)) k).closing_is
        (was-open w.closing c a closing) _)

-- ---- along a history

after-open : (head : Head) (lines : List Line) (w : World) (c : Conn) (o : Option Point) (who : Who) (a : Act) → By head w who a
    → Does head lines w c o (record { who = who; act = a }) → IsTied w c o → DoomOpen w c o
    → DoomOpen (after head w (record { who = who; act = a })) c (point_after head lines w c o (record { who = who; act = a }))
after-open head lines w c o Dispatcher a by d t h = dispatcher-open head w c o a by t h
after-open head lines w c o (Agent k) a by d t h = go (conn_eq k c) refl
  where
    v : World
    v = after head w (by_agent k a)

    go : (b : Bool) → conn_eq k c ≡ b → DoomOpen (after head w (by_agent k a)) c (if b then moved_in (phase w c) head lines w (after head w (by_agent k a)) c o a else o)
    go false n =
        let same = others-agent head w k a c (conn_eq-sym c k ∙ n) in
        λ closing doom. h (sym same.closing_same ∙ closing) (ap (λ (x : Option ℕ). is_some x) (sym same.doom_same) ∙ doom)
    go true own =
        let is : c ≡ k = sym (conn_eq-is k c own) in
        subst (λ x. DoomOpen (after head w (by_agent x a)) c (moved_in (phase w c) head lines w (after head w (by_agent x a)) c o a)) is
        (own-open head lines w c o a (subst (λ x. ByAgent head w x a) (sym is) by.1) (d own))

open-along : (head : Head) (lines : List Line) (w : World) (c : Conn) (o : Option Point) (es : List Entry) → GroundFrom head w es
    → ConductFrom head lines w c o es → IsTied w c o → DoomOpen w c o → DoomOpen (world_from head w es) c (point_from head lines w c o es)
unfolding GroundFrom ConductFrom world_from point_from
open-along head lines w c o [] g d t h = h
open-along head lines w c o (e ∷ es) g d t h =
    open-along head lines (after head w e) c (point_after head lines w c o e) es g.1 d.1 (tied-along head lines w c o (e ∷ []) (d.0, tt) t)
    (after-open head lines w c o e.who e.act g.0.2 d.0 t h)

-- who rolls back has a point
pub rolling-open : (head : Head) (lines : List Line) (es : List Entry) (c : Conn) → Ground head es → Conduct head lines es c
    → phase (world head es) c ≡ Rolling → is_some (point head lines es c) ≡ true
unfolding Ground Conduct world point
rolling-open head lines es c g d rolls = go (world_from head (start head) es) (open-along head lines (start head) c None es g d
    (record { front = tt; waits = λ hc hd. refl }) (λ closing doom. absurd (cc))) rolls
  where
    go : (w : World) → DoomOpen w c (point_from head lines (start head) c None es) → phase w c ≡ Rolling → is_some (point_from head lines (start head) c None es) ≡ true
    go w h r =
        let parts = rolling-parts (w.ended c) (w.closing c) (is_some (w.doom c)) (is_waiting w.waits c) (is_none (w.line c)) r in
        h parts.closing_is parts.doomed_is
