-- The parts after a Reply, and after a Set.
use Rattle.std.proofs.Common.{◌≡◌, ◌<◌, ℕ, Bool, false, List, length, refl, ap, sym, subst, None, Option}
use Rattle.std.specs.Prelude.{IfSome, ℤ}
use Rattle.iso_chain.proofs.Carries.{no-row}
use Rattle.iso_chain.proofs.Units.{kept-chained}
use Rattle.iso_history.proofs.limits.Others.{at-same}
use Rattle.iso_history.specs.After.{after, world}
use Rattle.iso_history.specs.Legal.{Runs}
use Rattle.iso_history.specs.Makers.{by_agent}
use Rattle.iso_history.specs.Phases.{phase}
use Rattle.iso_history.specs.World.{Setting, World}
use Rattle.iso_history.specs.declared.entry.Act.TheVariants.{Reply, Set}
use Rattle.iso_locklist.specs.Holding.{LocksAre}
use Rattle.iso_locklist.specs.Places.{IsSameLimits, Ledger}
use Rattle.iso_types.specs.declared.desk.Desk.{Desk}
use Rattle.iso_types.specs.declared.desk.Phase.TheVariants.{Idle, Running}
use Rattle.iso_types.specs.declared.head.Head.{Head}
use Rattle.iso_types.specs.declared.head.Isolation.{Isolation}
use Rattle.iso_types.specs.declared.value.Conn.{Conn}
use Rattle.iso_types.specs.declared.value.Value.{Value}
use Rattle.iso_state.proofs.Desks.{claims-own}
use Rattle.iso_state.proofs.Phases.{reply-at}
use Rattle.iso_state.proofs.Steps.{IsOwn, own-desk}
use Rattle.iso_state.specs.Stands.{Content, IsDeskOf, Stands, desk_at}

-- the desk of a connection whose statement is answered
reply-desk : (head : Head) (w : World) (c : Conn) (d : Desk) (code : ℤ) (changed : ℕ) (rows : List (List Value)) → phase w c ≡ Running → IsDeskOf w c d
    → IsDeskOf (after head w (by_agent c (Reply code changed rows))) c (record d { phase = Idle; claimed = false })
reply-desk head w c d code changed rows runs is = record {
  phase = sym (reply-at head w c code changed rows runs);
  line = subst (λ (o : Option ℕ). IfSome o (λ n. d.line ≡ n)) (sym (at-same w.line c None)) tt;
  isolation = is.isolation;
  may_wait = is.may_wait;
  doom = is.doom;
  start = is.start;
  claimed = claims-own w c (Reply code changed rows);
}

-- and of one whose settings are changed
set-desk : (head : Head) (w : World) (c : Conn) (d : Desk) (level : Isolation) (may_wait : Bool) → IsDeskOf w c d
    → IsDeskOf (after head w (by_agent c (Set level may_wait))) c (record d { isolation = level; may_wait = may_wait; claimed = false })
set-desk head w c d level may_wait is = let setting : Setting = record { level = level; may_wait = may_wait } in record {
  phase = is.phase;
  line = is.line;
  isolation = ap (λ (s : Setting). s.level) (sym (at-same w.setting c setting));
  may_wait = ap (λ (s : Setting). s.may_wait) (sym (at-same w.setting c setting));
  doom = is.doom;
  start = is.start;
  claimed = claims-own w c (Set level may_wait);
}

module _ (p : Content) (c : Conn) (s : Stands p) (lt : c.0 < length p.head.conns) (l : Ledger) (limits : IsSameLimits l p.locks) where
  -- what the step of a Reply has to show
  pub reply-own : (code : ℤ) (changed : ℕ) (rows : List (List Value)) → Runs (world p.head p.history) c
      → LocksAre (after p.head (world p.head p.history) (by_agent c (Reply code changed rows))).holds (world p.head p.history).waits l
      → IsOwn p c (Reply code changed rows) p.chain l (record (desk_at p.desks c) { phase = Idle; claimed = false }) p.reserved
  reply-own code changed rows runs are = record {
    chain = kept-chained (world p.head p.history) (after p.head (world p.head p.history) (by_agent c (Reply code changed rows))) p.chain refl refl refl refl refl refl
        s.parts.chain;
    carried = no-row p.chain.log (Reply code changed rows) refl;
    works = refl;
    entries = refl;
    locks = are;
    limits = limits;
    desk = reply-desk p.head (world p.head p.history) c (desk_at p.desks c) code changed rows runs.0 (own-desk p c (desk_at p.desks c) s lt refl);
    reserved = refl;
  }

  -- and that of a Set
  pub set-own : (level : Isolation) (may_wait : Bool)
      → LocksAre (after p.head (world p.head p.history) (by_agent c (Set level may_wait))).holds (world p.head p.history).waits l
      → IsOwn p c (Set level may_wait) p.chain l (record (desk_at p.desks c) { isolation = level; may_wait = may_wait; claimed = false }) p.reserved
  set-own level may_wait are = record {
    chain = kept-chained (world p.head p.history) (after p.head (world p.head p.history) (by_agent c (Set level may_wait))) p.chain refl refl refl refl refl refl
        s.parts.chain;
    carried = no-row p.chain.log (Set level may_wait) refl;
    works = refl;
    entries = refl;
    locks = are;
    limits = limits;
    desk = set-desk p.head (world p.head p.history) c (desk_at p.desks c) level may_wait (own-desk p c (desk_at p.desks c) s lt refl);
    reserved = refl;
  }
