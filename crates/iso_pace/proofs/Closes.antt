-- The parts after a connection was told to close, and after the last entry.
use Rattle.std.proofs.Common.{◌≡◌, ◌≤◌, ◌<◌, ◌+◌, inr, ℕ, Bool, true, false, length, refl, ap, sym, ◌∙◌, arith, Some, None, Option}
use Rattle.std.specs.Option.{option_map}
use Rattle.std.specs.Prelude.{if◌then◌else◌, is_some, slice_set}
use Rattle.std.proofs.Math.ListN.{length-set}
use Rattle.std.proofs.lemmas.Bool.{ltb-true}
use Rattle.iso_chain.proofs.Carries.{no-row}
use Rattle.iso_chain.proofs.Units.{kept-chained}
use Rattle.iso_history.proofs.limits.Courses.{find-passes}
use Rattle.iso_history.proofs.limits.Victims.{found-conn}
use Rattle.iso_types.specs.Head.{conns}
use Rattle.iso_history.proofs.limits.Others.{others-close, same-at}
use Rattle.iso_history.specs.After.{after}
use Rattle.iso_history.specs.Legal.{Allowed}
use Rattle.iso_history.specs.Makers.{by_dispatcher}
use Rattle.iso_history.specs.Paces.{pace_by}
use Rattle.iso_history.specs.Phases.{is_phase, phase, phase_of}
use Rattle.iso_history.specs.Quiet.{all_ended, is_quiet, least_idle}
use Rattle.iso_history.specs.Stops.{dispatcher_reserve}
use Rattle.iso_history.specs.World.{World}
use Rattle.iso_history.specs.declared.entry.Act.TheVariants.{Close, Finish}
use Rattle.iso_history.specs.declared.entry.Who.TheVariants.{Dispatcher}
use Rattle.iso_types.specs.declared.desk.Desk.{Desk}
use Rattle.iso_types.specs.declared.desk.Phase.{Phase}
use Rattle.iso_types.specs.declared.desk.Phase.TheVariants.{Closing, Idle, Rolling, Running}
use Rattle.iso_types.specs.declared.head.Head.{Head}
use Rattle.iso_types.specs.declared.value.Conn.{Conn}
use Rattle.iso_state.proofs.ByKind.{reserved-covers}
use Rattle.iso_state.proofs.Desks.{desks-set, dispatcher-kept, seat-as}
use Rattle.iso_state.proofs.Phases.{close-at}
use Rattle.iso_state.proofs.Steps.{is-open, own-desk, same-limits, step-place}
use Rattle.iso_state.specs.Changes.{repaced, stepped}
use Rattle.iso_state.specs.Stands.{IsDeskOf, StandsFor, content_of, desk_at, world_of}
use Rattle.iso_state.specs.Steps.{Spends}
use Rattle.iso_state.specs.declared.parts.Parts.{Parts}

-- who has ended, by the phase
ended-by : (e c d v s : Bool) → is_phase (phase_of e c d v s) Phase.Ended ≡ e
ended-by true c d v s = refl
ended-by false true d v s = refl
ended-by false false true v s = refl
ended-by false false false true s = refl
ended-by false false false false true = refl
ended-by false false false false false = refl

pub ended-is : (w : World) (c : Conn) → is_phase (phase w c) Phase.Ended ≡ w.ended c
ended-is w c = ended-by _ _ _ _ _

-- whether a connection has a unit, as the units tell it
pub unit-is : {A B C : Type 0} (o : Option A) (f : A → B) (g : B → C) (r : Option C) (x : Option B) → x ≡ option_map f o → r ≡ option_map g x
    → is_some r ≡ is_some o
unit-is {A} {B} {C} o f g r x e h = ap (λ (y : Option C). is_some y) (h ∙ ap (option_map g) e) ∙ go o
  where
    go : (o : Option A) → is_some (option_map g (option_map f o)) ≡ is_some o
    go None = refl
    go (Some a) = refl

-- the least idle connection is idle, and the head's
idle-from : (x : Phase) → is_phase x Idle ≡ true → x ≡ Idle
idle-from Idle e = refl
idle-from Running e = absurd (cc)
idle-from Phase.Waiting e = absurd (cc)
idle-from Rolling e = absurd (cc)
idle-from Closing e = absurd (cc)
idle-from Phase.Ended e = absurd (cc)

pub idle-least : (head : Head) (w : World) (c : Conn) → least_idle head w ≡ Some c → phase w c ≡ Idle
idle-least head w c e = idle-from (phase w c) (find-passes (λ d. is_phase (phase w d) Idle) (conns head) c e)

pub conn-least : (head : Head) (w : World) (c : Conn) → least_idle head w ≡ Some c → c.0 < length head.conns
conn-least head w c e = ltb-true c.0 (length head.conns) (found-conn head (λ d. is_phase (phase w d) Idle) c e)

module _ (p q : Parts) (c : Conn) (s : StandsFor p) (free : (world_of p).pace.finished ≡ false) (lt : c.0 < length p.head.conns)
    (quiet : is_quiet p.head (world_of p) ≡ true) (least : least_idle p.head (world_of p) ≡ Some c) (idle : phase (world_of p) c ≡ Idle) where
  pub may-close : Allowed p.head (world_of p) (by_dispatcher (Close c))
  may-close = (is-open (world_of p) free, refl, (quiet, least))

  pub close-covers : (if is_some ((world_of p).unit c) then 1 else 0) ≤ p.reserved + (if is_some ((world_of p).unit c) then 0 else 1)
  close-covers = reserved-covers (content_of p) (by_dispatcher (Close c)) s.stands may-close

  -- where it has a unit, there is one to take off
  pub close-some : is_some ((world_of p).unit c) ≡ true → 1 ≤ p.reserved
  close-some e = let covers = close-covers in less (is_some ((world_of p).unit c)) e covers
    where
      less : (b : Bool) → b ≡ true → (if b then 1 else 0) ≤ p.reserved + (if b then 0 else 1) → 1 ≤ p.reserved
      less true e le = omega (arith, le)
      less false e le = absurd (cc)

  close-desk : (d : Desk) → IsDeskOf (world_of p) c d
      → IsDeskOf (after p.head (world_of p) (by_dispatcher (Close c))) c (record d { phase = Closing; doom = d.doom; claimed = d.claimed })
  close-desk d is =
      let w = world_of p in
      let v = after p.head w (by_dispatcher (Close c)) in
      seat-as w v c d Closing d.doom d.claimed (sym (close-at p.head w c idle)) refl refl is.doom refl is.claimed is

  pub close-place : (n : ℕ) → Spends p q
      → n + (if is_some ((world_of p).unit c) then 1 else 0) ≡ p.reserved + (if is_some ((world_of p).unit c) then 0 else 1)
      → content_of q ≡ repaced (stepped (content_of p) (content_of p).chain p.locks
      (slice_set p.desks c.0 (record (desk_at p.desks c) { phase = Closing })) n (by_dispatcher (Close c)))
      (pace_by (content_of p).pace Dispatcher (Close c))
      → StandsFor q
  close-place n spends sum wrote =
      let w = world_of p in
      let v = after p.head w (by_dispatcher (Close c)) in
      let more = spends.log in
      let desk : Desk = record (desk_at p.desks c) { phase = Closing } in
      rw wrote (step-place (content_of p) (by_dispatcher (Close c)) (content_of p).chain p.locks (slice_set p.desks c.0 desk) n
      p.history.spare q.history.spare p.log.spare q.log.spare s may-close
      (record { made = inr refl; pushed = spends.history; logged = omega (arith, more); bare = refl })
      (record {
        chain = kept-chained w v (content_of p).chain refl refl refl refl refl refl s.parts.chain;
        carried = no-row (content_of p).chain.log (Close c) refl;
        works = refl;
        entries = refl;
        locks = s.parts.locks;
        limits = same-limits p.locks;
        desks = desks-set v w p.desks c desk (close-desk (desk_at p.desks c) (own-desk (content_of p) c (desk_at p.desks c) s.stands lt refl))
            (λ d x ne is. dispatcher-kept p.head w (Close c) d x (others-close p.head w c d ne) refl is) s.parts.desks;
        seats = length-set p.desks c.0 desk;
        reserved = sum;
      }))

module _ (p q : Parts) (s : StandsFor p) (free : (world_of p).pace.finished ≡ false) (over : all_ended p.head (world_of p) ≡ true) where
  may-finish : Allowed p.head (world_of p) (by_dispatcher Finish)
  may-finish = (is-open (world_of p) free, refl, over)

  pub finish-covers : dispatcher_reserve (world_of p).pace ≤ p.reserved
  finish-covers = let k = reserved-covers (content_of p) (by_dispatcher Finish) s.stands may-finish in omega (arith, k)

  pub finish-place : (n : ℕ) → Spends p q → n + dispatcher_reserve (world_of p).pace ≡ p.reserved
      → content_of q ≡ repaced (stepped (content_of p) (content_of p).chain p.locks p.desks n (by_dispatcher Finish))
      (pace_by (content_of p).pace Dispatcher Finish)
      → StandsFor q
  finish-place n spends sum wrote =
      let w = world_of p in
      let v = after p.head w (by_dispatcher Finish) in
      let more = spends.log in
      rw wrote (step-place (content_of p) (by_dispatcher Finish) (content_of p).chain p.locks p.desks n
      p.history.spare q.history.spare p.log.spare q.log.spare s may-finish
      (record { made = inr refl; pushed = spends.history; logged = omega (arith, more); bare = refl })
      (record {
        chain = kept-chained w v (content_of p).chain refl refl refl refl refl refl s.parts.chain;
        carried = no-row (content_of p).chain.log Finish refl;
        works = refl;
        entries = refl;
        locks = s.parts.locks;
        limits = same-limits p.locks;
        desks = λ d lt. dispatcher-kept p.head w Finish d (desk_at p.desks d) (same-at w v d refl refl refl refl refl refl) refl (s.parts.desks d lt);
        seats = refl;
        reserved = omega (arith, sum);
      }))
