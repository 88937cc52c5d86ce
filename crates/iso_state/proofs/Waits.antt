-- Phases after a wait is added, and after a doom.
use Rattle.std.proofs.Common.{◌≡◌, ◌≢◌, Bool, true, false, ◌&&◌, List, [], ◌∷◌, refl, ap, ◌∙◌, arith}
use Rattle.std.specs.Prelude.{if◌then◌else◌, is_none, is_some, Some, Option}
use Rattle.std.proofs.lemmas.Bool.Decides.{nat_tests}
use Rattle.std.proofs.lemmas.Cmp.{nat_eq_equiv}
use Rattle.iso_history.specs.Phases.{phase, phase_of}
use Rattle.iso_history.specs.World.{World}
use Rattle.iso_queue.specs.Locks.{Hold, is_held}
use Rattle.iso_queue.specs.Queues.{Wait, is_new_beside, is_waiting, queued, unqueued, wait_of}
use Rattle.iso_types.specs.Ids.{conn_eq}
use Rattle.iso_types.specs.declared.desk.Phase.{Phase}
use Rattle.iso_types.specs.declared.desk.Phase.TheVariants.{Rolling, Running}
use Rattle.iso_types.specs.declared.value.Conn.{Conn}

-- who queued waits
pub waits-own : (hs : List Hold) (x : Wait) (ws : List Wait) → is_waiting (queued hs x ws) x.conn ≡ true
waits-own hs x [] = rw (nat_eq_equiv.refl x.conn.0) refl
waits-own hs x (y ∷ ys) = go (is_held hs x.conn x.name && is_new_beside hs x y) (waits-own hs x ys)
  where
    pass : (b : Bool) → is_waiting (queued hs x ys) x.conn ≡ true → is_some (if b then Some y else wait_of (queued hs x ys) x.conn) ≡ true
    pass true ih = refl
    pass false ih = ih

    go : (b : Bool) → is_waiting (queued hs x ys) x.conn ≡ true → is_waiting (if b then x ∷ y ∷ ys else y ∷ queued hs x ys) x.conn ≡ true
    go true ih = rw (nat_eq_equiv.refl x.conn.0) refl
    go false ih = pass (conn_eq y.conn x.conn) ih

-- and nobody else
pub waits-other : (hs : List Hold) (x : Wait) (ws : List Wait) (d : Conn) → conn_eq x.conn d ≡ false → wait_of (queued hs x ws) d ≡ wait_of ws d
waits-other hs x [] d ne = rw ne refl
waits-other hs x (y ∷ ys) d ne = go (is_held hs x.conn x.name && is_new_beside hs x y) (waits-other hs x ys d ne)
  where
    go : (b : Bool) → wait_of (queued hs x ys) d ≡ wait_of ys d → wait_of (if b then x ∷ y ∷ ys else y ∷ queued hs x ys) d ≡ wait_of (y ∷ ys) d
    go true ih = rw ne refl
    go false ih = ap (λ (o : Option Wait). if conn_eq y.conn d then Some y else o) ih

pub queues-by : (e c d v s : Bool) → phase_of e c d v s ≡ Running → phase_of e c d true s ≡ Phase.Waiting
queues-by true c d v s h = cc
queues-by false true d v s h = cc
queues-by false false true v s h = cc
queues-by false false false v s h = refl

pub rolls-by : (e c d v s : Bool) → phase_of e c d v s ≡ Running → phase_of e c true v s ≡ Rolling
rolls-by true c d v s h = cc
rolls-by false true d v s h = cc
rolls-by false false d v s h = refl

-- a running connection does not wait
idle-by : (e c d v s : Bool) → phase_of e c d v s ≡ Running → v ≡ false
idle-by true c d v s h = cc
idle-by false true d v s h = cc
idle-by false false true v s h = cc
idle-by false false false true s h = cc
idle-by false false false false s h = refl

pub runs-idle : (w : World) (c : Conn) → phase w c ≡ Running → is_waiting w.waits c ≡ false
runs-idle w c running = idle-by _ _ _ _ _ running

-- the phase with these waits, and with this doom
abbrev pub phase-with : World → List Wait → Bool → Conn → Phase
phase-with w ws doomed d = phase_of (w.ended d) (w.closing d) doomed (is_waiting ws d) (is_none (w.line d))

pub apart-is : (c d : Conn) → d.0 ≢ c.0 → conn_eq c d ≡ false
apart-is c d ne = grind (arith, nat_tests)

-- the wait of a connection goes, and no other
pub gone-own : (c : Conn) (ws : List Wait) → is_waiting (unqueued c ws) c ≡ false
gone-own c [] = refl
gone-own c (x ∷ ws) = go (conn_eq x.conn c) refl (gone-own c ws)
  where
    go : (b : Bool) → conn_eq x.conn c ≡ b → is_waiting (unqueued c ws) c ≡ false → is_waiting (unqueued c (x ∷ ws)) c ≡ false
    go true e ih = rw e ih
    go false e ih = rw e (rw e ih)

pub gone-other : (c d : Conn) (ws : List Wait) → d.0 ≢ c.0 → is_waiting (unqueued c ws) d ≡ is_waiting ws d
gone-other c d [] ne = refl
gone-other c d (x ∷ ws) ne = go (conn_eq x.conn c) (conn_eq x.conn d) refl refl (gone-other c d ws ne)
  where
    apart : conn_eq c d ≡ false
    apart = apart-is c d ne

    go : (a b : Bool) → conn_eq x.conn c ≡ a → conn_eq x.conn d ≡ b → is_waiting (unqueued c ws) d ≡ is_waiting ws d
        → is_waiting (unqueued c (x ∷ ws)) d ≡ is_waiting (x ∷ ws) d
    go true b e f ih =
        let past : conn_eq x.conn d ≡ false = nat_eq_equiv.congr x.conn.0 c.0 d.0 e ∙ apart in
        rw (e, past) ih
    go false true e f ih = rw e (rw f refl)
    go false false e f ih = rw e (rw f ih)

module _ (w : World) (x : Wait) where
  -- a running connection waits once it queues
  pub queues-at : phase w x.conn ≡ Running → phase-with w (queued w.holds x w.waits) (is_some (w.doom x.conn)) x.conn ≡ Phase.Waiting
  queues-at running =
      ap (λ (b : Bool). phase_of (w.ended x.conn) (w.closing x.conn) (is_some (w.doom x.conn)) b (is_none (w.line x.conn))) (waits-own w.holds x w.waits)
      ∙ queues-by (w.ended x.conn) (w.closing x.conn) (is_some (w.doom x.conn)) (is_waiting w.waits x.conn) (is_none (w.line x.conn)) running

  pub queues-others : (d : Conn) → d.0 ≢ x.conn.0 → phase-with w (queued w.holds x w.waits) (is_some (w.doom d)) d ≡ phase w d
  queues-others d ne =
      ap (λ (o : Option Wait). phase_of (w.ended d) (w.closing d) (is_some (w.doom d)) (is_some o) (is_none (w.line d)))
      (waits-other w.holds x w.waits d (apart-is x.conn d ne))

-- a running connection rolls back once it is doomed
pub rolls-at : (w : World) (c : Conn) → phase w c ≡ Running → phase-with w w.waits true c ≡ Rolling
rolls-at w c running = rolls-by (w.ended c) (w.closing c) (is_some (w.doom c)) (is_waiting w.waits c) (is_none (w.line c)) running
