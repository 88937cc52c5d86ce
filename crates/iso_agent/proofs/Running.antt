-- A connection that runs goes on running while others make entries.
use Rattle.std.proofs.Common.{◌≡◌, Bool, true, false, List, [], ◌∷◌, ◌++◌, refl, sym, ap, ◌∙◌, subst}
use Rattle.iso_conduct.specs.Conduct.{AreOthers, is_by}
use Rattle.iso_history.proofs.limits.Courses.{is_phase-is, least-idle-is, phase-same, running}
use Rattle.iso_history.proofs.limits.Others.{others-agent, others-close, others-dispatch, others-expire, others-victim}
use Rattle.iso_history.proofs.limits.Victims.{has_victim}
use Rattle.iso_history.proofs.limits.Waiting.{conn_eq-is, conn_eq-sym}
use Rattle.iso_history.specs.After.{after, start, world, world_from}
use Rattle.iso_history.specs.Legal.{By, ByDispatcher, Ground, GroundFrom}
use Rattle.iso_history.specs.Makers.{by_dispatcher}
use Rattle.iso_history.specs.Phases.{phase}
use Rattle.iso_history.specs.World.{World}
use Rattle.iso_history.specs.declared.entry.Act.{Act}
use Rattle.iso_history.specs.declared.entry.Act.TheVariants.{Close, Dispatch, Expire, Victim}
use Rattle.iso_history.specs.declared.entry.Entry.{Entry}
use Rattle.iso_history.specs.declared.entry.Who.{Who}
use Rattle.iso_history.specs.declared.entry.Who.TheVariants.{Agent, Dispatcher}
use Rattle.iso_queue.specs.Queues.{is_waiting}
use Rattle.iso_types.specs.Ids.{conn_eq}
use Rattle.iso_types.specs.declared.desk.Phase.{Phase}
use Rattle.iso_types.specs.declared.desk.Phase.TheVariants.{Idle, Running}
use Rattle.iso_types.specs.declared.head.Head.{Head}
use Rattle.iso_types.specs.declared.value.Conn.{Conn}

-- connections of which one passes a test and the other does not are two
apart : (f : Conn → Bool) (c d : Conn) → f c ≡ false → f d ≡ true → conn_eq c d ≡ false
apart f c d off on = go (conn_eq c d) refl
  where
    go : (b : Bool) → conn_eq c d ≡ b → b ≡ false
    go false e = refl
    go true e = let q : f d ≡ false = subst (λ x. f x ≡ false) (conn_eq-is c d e) off in absurd (cc)

-- the phase is idle
abbrev is_idle : Phase → Bool
is_idle Idle = true
is_idle p = false

-- one that runs is none that is idle
from-idle : (w : World) (c d : Conn) → phase w c ≡ Running → phase w d ≡ Idle → conn_eq c d ≡ false
from-idle w c d runs idle = apart (λ x. is_idle (phase w x)) c d (ap is_idle runs) (ap is_idle idle)

-- nor one that waits
from-waiting : (w : World) (c d : Conn) → phase w c ≡ Running → is_waiting w.waits d ≡ true → conn_eq c d ≡ false
from-waiting w c d runs waits = apart (λ x. is_waiting w.waits x) c d (running w c runs).waiting_is waits

-- nor one of this phase
abbrev is_waiting_phase : Phase → Bool
is_waiting_phase Phase.Waiting = true
is_waiting_phase p = false

from-waits : (w : World) (c d : Conn) → phase w c ≡ Running → phase w d ≡ Phase.Waiting → conn_eq c d ≡ false
from-waits w c d runs waits = apart (λ x. is_waiting_phase (phase w x)) c d (ap is_waiting_phase runs) (ap is_waiting_phase waits)

dispatcher-stays : (head : Head) (w : World) (c : Conn) (a : Act) → ByDispatcher head w a → phase w c ≡ Running
    → phase (after head w (by_dispatcher a)) c ≡ Running
dispatcher-stays head w c (Dispatch line d) by runs = phase-same w _ c (others-dispatch head w line d c (from-idle w c d runs by.1)) ∙ runs
dispatcher-stays head w c (Expire line d true) by runs =
    phase-same w _ c (others-expire head w line d c (from-waits w c d runs (is_phase-is (phase w d) Phase.Waiting (sym by.3)))) ∙ runs
dispatcher-stays head w c (Victim cycle) by runs = let v = has_victim head w cycle by in
    phase-same w _ c (others-victim head w cycle v.conn c v.is_victim (from-waiting w c v.conn runs v.waits)) ∙ runs
dispatcher-stays head w c (Close d) by runs =
    phase-same w _ c (others-close head w d c (from-idle w c d runs (least-idle-is head w d by.1))) ∙ runs
dispatcher-stays head w c _ by runs = runs

other-stays : (head : Head) (w : World) (c : Conn) (who : Who) (a : Act) → By head w who a → is_by c who ≡ false → phase w c ≡ Running
    → phase (after head w (record { who = who; act = a })) c ≡ Running
other-stays head w c Dispatcher a by other runs = dispatcher-stays head w c a by runs
other-stays head w c (Agent d) a by other runs = phase-same w _ c (others-agent head w d a c (conn_eq-sym c d ∙ other)) ∙ runs

-- along what others add
stays-from : (head : Head) (w : World) (c : Conn) (es : List Entry) → GroundFrom head w es → AreOthers c es → phase w c ≡ Running
    → phase (world_from head w es) c ≡ Running
unfolding world_from GroundFrom
stays-from head w c [] g n runs = runs
stays-from head w c (e ∷ es) g n runs = stays-from head (after head w e) c es g.1 n.1 (other-stays head w c e.who e.act g.0.2 n.0 runs)

pub past-from : (head : Head) (w : World) (es fs : List Entry) → GroundFrom head w (es ++ fs)
    → GroundFrom head (world_from head w es) fs × (world_from head w (es ++ fs) ≡ world_from head (world_from head w es) fs)
unfolding world_from GroundFrom
past-from head w [] fs g = (g, refl)
past-from head w (e ∷ es) fs g = past-from head (after head w e) es fs g.1

-- of each legal history
pub running-stays : (head : Head) (c : Conn) (es fs : List Entry) → Ground head (es ++ fs) → AreOthers c fs → phase (world head es) c ≡ Running
    → phase (world head (es ++ fs)) c ≡ Running
unfolding world Ground
running-stays head c es fs g n runs =
    let past = past-from head (start head) es fs g in
    ap (λ w. phase w c) past.1 ∙ stays-from head (world_from head (start head) es) c fs past.0 n runs
