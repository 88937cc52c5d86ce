-- The parts after a claim that is granted.
use Rattle.std.proofs.Common.{◌≡◌, ◌<◌, Bool, true, false, not, List, length, refl, ap, sym, subst, ◌∙◌, arith, inl}
use Rattle.std.specs.Option.{option_map_or}
use Rattle.std.specs.Prelude.{None, Some, Option, is_none, is_some}
use Rattle.iso_chain.proofs.Carries.{no-row}
use Rattle.iso_chain.proofs.Units.{kept-chained}
use Rattle.iso_history.specs.After.{after, world}
use Rattle.iso_history.specs.Facts.{LockFacts, WaitersBusy, WaitersKeep, WaitsUncovered}
use Rattle.iso_history.specs.Holds.{claimed, holds_by_hand}
use Rattle.iso_history.specs.Legal.{ByAgent}
use Rattle.iso_history.specs.Makers.{by_agent}
use Rattle.iso_history.specs.Phases.{phase, phase_of}
use Rattle.iso_history.specs.Stops.{is_full}
use Rattle.iso_history.specs.World.{World}
use Rattle.iso_history.specs.declared.entry.Act.TheVariants.{Claim}
use Rattle.iso_history.specs.declared.entry.Who.TheVariants.{Agent}
use Rattle.iso_locklist.specs.Holding.{LocksAre}
use Rattle.iso_locklist.specs.Lists.{claimed_holds, claimed_waits}
use Rattle.iso_locklist.specs.Places.{IsSameLimits, Ledger}
use Rattle.iso_locklist.proofs.AlikeClaims.{edge_settled, grantable_settled}
use Rattle.iso_locklist.proofs.SettledLists.{covered_settled, none_brief}
use Rattle.iso_queue.specs.Locks.{Hold, is_covered, settled, without_briefs}
use Rattle.iso_queue.specs.Queues.{Wait, has_edge, is_grantable, is_waiting, unqueued, wait_of}
use Rattle.iso_types.specs.declared.desk.Desk.{Desk}
use Rattle.iso_types.specs.declared.desk.Phase.{Phase}
use Rattle.iso_types.specs.declared.desk.Phase.TheVariants.{Running}
use Rattle.iso_types.specs.declared.head.Head.{Head}
use Rattle.iso_types.specs.declared.value.Conn.{Conn}
use Rattle.iso_state.proofs.ByKind.{full-is, ready-allowed}
use Rattle.iso_state.proofs.Desks.{claims-own, seat-as}
use Rattle.iso_state.proofs.FactsAlong.{facts-of}
use Rattle.iso_state.proofs.Steps.{conn-is, own-desk, own-place}
use Rattle.iso_state.proofs.Waits.{gone-own, phase-with}
use Rattle.iso_state.specs.Changes.{relocked, seated}
use Rattle.iso_state.specs.Stands.{Content, IsDeskOf, StandsFor, content_of, desk_at, world_of}
use Rattle.iso_state.specs.Steps.{IsReady, Spends, is_past}
use Rattle.iso_state.specs.declared.parts.Parts.{Parts}

-- who has this phase waits
waiting-by : (e c d v s : Bool) → phase_of e c d v s ≡ Phase.Waiting → v ≡ true
waiting-by true c d v s h = cc
waiting-by false true d v s h = cc
waiting-by false false true v s h = cc
waiting-by false false false true s h = refl
waiting-by false false false false true h = cc
waiting-by false false false false false h = cc

runs-by : (e c d v s : Bool) → phase_of e c d v s ≡ Phase.Waiting → s ≡ false → phase_of e c d false s ≡ Running
runs-by true c d v s h k = cc
runs-by false true d v s h k = cc
runs-by false false true v s h k = cc
runs-by false false false v true h k = cc
runs-by false false false v false h k = refl

pub waits-true : (w : World) (c : Conn) → phase w c ≡ Phase.Waiting → is_waiting w.waits c ≡ true
waits-true w c waits = waiting-by (w.ended c) (w.closing c) (is_some (w.doom c)) (is_waiting w.waits c) (is_none (w.line c)) waits

-- a waiting connection runs once its wait is gone
claims-at : (w : World) (c : Conn) → phase w c ≡ Phase.Waiting → is_none (w.line c) ≡ false → phase-with w (unqueued c w.waits) (is_some (w.doom c)) c ≡ Running
claims-at w c waits busy =
    ap (λ (b : Bool). phase_of (w.ended c) (w.closing c) (is_some (w.doom c)) b (is_none (w.line c))) (gone-own c w.waits)
    ∙ runs-by (w.ended c) (w.closing c) (is_some (w.doom c)) (is_waiting w.waits c) (is_none (w.line c)) waits busy

pub may-claim : (head : Head) (w : World) (c : Conn) → phase w c ≡ Phase.Waiting → is_grantable w.holds w.waits c ≡ true → ByAgent head w c Claim
may-claim head w c waits ready = rw (waits, ready) refl

module _ (head : Head) (w : World) (c : Conn) (facts : LockFacts head w) (waits : phase w c ≡ Phase.Waiting)
    (ready : is_grantable w.holds w.waits c ≡ true) where
  -- it has no Brief hold
  pub keeps-all : (gs : List Hold) → without_briefs w.holds c gs ≡ gs
  unfolding WaitersKeep
  keeps-all gs = none_brief w.holds gs c (λ n. facts.plain c n (waits-true w c waits))

  not_true : (b : Bool) → not b ≡ true → b ≡ false
  not_true true k = cc
  not_true false k = refl

  -- its wait is placed
  pub claimed-is : holds_by_hand head c (claimed w c) (settled c None w.holds) ≡ claimed_holds (settled c None w.holds) w.waits c
  unfolding WaitsUncovered
  claimed-is = go (wait_of w.waits c) refl
    where
      go : (o : Option Wait) → wait_of w.waits c ≡ o → holds_by_hand head c (claimed w c) (settled c None w.holds)
          ≡ claimed_holds (settled c None w.holds) w.waits c
      go None e = cc (sym (waits-true w c waits) ∙ ap (λ (o : Option Wait). is_some o) e)
      go (Some x) e =
          let open_name : is_covered head (settled c None w.holds) c x.name x.target ≡ false = covered_settled c None head w.holds c x.name x.target
          ∙ facts.uncovered c x e in
          let edge : not (has_edge (settled c None w.holds) w.waits x) ≡ true =
          ap not (edge_settled c None x w.holds w.waits) ∙ sym (ap (λ (o : Option Wait). option_map_or (λ y. not
          (has_edge w.holds w.waits y)) o false) e) ∙ ready in
          rw (e, open_name, not_true (has_edge (settled c None w.holds) w.waits x) edge) refl

  pub claimed-waits : claimed_waits (settled c None w.holds) w.waits c ≡ unqueued c w.waits
  claimed-waits = rw (grantable_settled c c None w.holds w.waits, ready) refl

  -- the lock list after it
  pub claimed-are : (l : Ledger) → LocksAre (claimed_holds (settled c None w.holds) w.waits c) (claimed_waits (settled c None w.holds) w.waits c) l
      → LocksAre (after head w (by_agent c Claim)).holds (after head w (by_agent c Claim)).waits l
  claimed-are l are =
      subst (λ (hs : List Hold). LocksAre hs (unqueued c w.waits) l)
      (sym (keeps-all (holds_by_hand head c (claimed w c) (settled c None w.holds)) ∙ claimed-is))
      (subst (λ (ws : List Wait). LocksAre (claimed_holds (settled c None w.holds) w.waits c) ws l) claimed-waits are)

  -- its desk
  claim-desk : (d : Desk) → IsDeskOf w c d → IsDeskOf (after head w (by_agent c Claim)) c (record d { phase = Running; claimed = true })
  unfolding WaitersBusy
  claim-desk d is =
      seat-as w (after head w (by_agent c Claim)) c d Running d.doom true
      (sym (claims-at w c waits (facts.busy c (waits-true w c waits)))) refl refl is.doom refl (claims-own w c Claim) is

module _ (o p q : Parts) (c : Conn) (s : StandsFor p) (same : content_of p ≡ content_of o) (spends : Spends p q)
    (free : (world_of o).pace.finished ≡ false) (lt : c.0 < length o.head.conns) (waits : phase (world_of o) c ≡ Phase.Waiting)
    (ready : is_grantable (world_of o).holds (world_of o).waits c ≡ true) where
  free-now : (world_of p).pace.finished ≡ false
  free-now = subst (λ (x : Content). (world x.head x.history).pace.finished ≡ false) (sym same) free

  lt-now : c.0 < length p.head.conns
  lt-now = subst (λ (x : Content). c.0 < length x.head.conns) (sym same) lt

  pub waits-now : phase (world_of p) c ≡ Phase.Waiting
  waits-now = subst (λ (x : Content). phase (world x.head x.history) c ≡ Phase.Waiting) (sym same) waits

  pub ready-now : is_grantable (world_of p).holds (world_of p).waits c ≡ true
  ready-now = subst (λ (x : Content). is_grantable (world x.head x.history).holds (world x.head x.history).waits c ≡ true) (sym same) ready

  pub claim-place : (l : Ledger) → IsReady p 1
      → LocksAre (claimed_holds (settled c None (world_of p).holds) (world_of p).waits c) (claimed_waits (settled c None (world_of p).holds) (world_of p).waits c) l
      → IsSameLimits l p.locks
      → content_of q ≡ seated (relocked (content_of p) l) c (record (desk_at p.desks c) { phase = Running; claimed = true }) (by_agent c Claim)
      → StandsFor q
  claim-place l room are limits wrote =
      let more = spends.log in
      let facts = facts-of s.stands in
      rw wrote (own-place (content_of p) c Claim (content_of p).chain l (record (desk_at p.desks c) { phase = Running; claimed = true }) p.reserved
      p.history.spare q.history.spare p.log.spare q.log.spare s
      (ready-allowed (content_of p) (Agent c) Claim 1 s.stands free-now (conn-is p.head c lt-now, may-claim p.head (world_of p) c waits-now ready-now) refl refl room.fits)
      (record { made = inl room.spare; pushed = spends.history; logged = omega (arith, more); bare = refl })
      (record {
        chain = kept-chained (world_of p) (after p.head (world_of p) (by_agent c Claim)) (content_of p).chain refl refl refl refl refl refl s.parts.chain;
        carried = no-row (content_of p).chain.log Claim refl;
        works = refl;
        entries = refl;
        locks = claimed-are p.head (world_of p) c facts waits-now ready-now l are;
        limits = limits;
        desk = claim-desk p.head (world_of p) c facts waits-now ready-now (desk_at p.desks c) (own-desk (content_of p) c (desk_at p.desks c) s.stands lt-now refl);
        reserved = refl;
      }))

-- where `make_room` says that a claim is past the limit, its entry is full
pub claim-full : (p : Parts) (c : Conn) → StandsFor p → (world_of p).pace.finished ≡ false → c.0 < length p.head.conns
    → phase (world_of p) c ≡ Phase.Waiting → is_grantable (world_of p).holds (world_of p).waits c ≡ true
    → is_past (content_of p) 1 ≡ true → is_full p.head (world_of p) (by_agent c Claim) ≡ true
claim-full p c s free lt waits ready past =
    full-is (content_of p) (Agent c) Claim 1 s.stands free (conn-is p.head c lt, may-claim p.head (world_of p) c waits ready) refl refl ∙ past
