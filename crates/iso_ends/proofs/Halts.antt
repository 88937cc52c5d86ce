-- The parts after the dispatcher's Stopped.
use Rattle.std.proofs.Common.{◌≡◌, ◌≤◌, ◌-◌, inr, true, false, refl, arith}
use Rattle.iso_chain.proofs.Carries.{no-row}
use Rattle.iso_chain.proofs.Units.{kept-chained}
use Rattle.iso_history.specs.After.{after}
use Rattle.iso_history.specs.Legal.{Allowed}
use Rattle.iso_history.specs.Makers.{by_dispatcher}
use Rattle.iso_history.specs.Stops.{may_halt}
use Rattle.iso_history.specs.World.{Pace}
use Rattle.iso_history.specs.declared.entry.Act.TheVariants.{Stopped}
use Rattle.iso_history.specs.declared.entry.Cause.{Cause}
use Rattle.iso_state.proofs.ByKind.{reserved-covers}
use Rattle.iso_state.proofs.Desks.{dispatcher-kept}
use Rattle.iso_state.proofs.Steps.{is-open, same-limits, step-place}
use Rattle.iso_state.specs.Changes.{noted}
use Rattle.iso_state.specs.Stands.{StandsFor, content_of, desk_at, world_of}
use Rattle.iso_state.specs.Steps.{Spends}
use Rattle.iso_state.specs.declared.parts.Parts.{Parts}

-- the dispatcher's state once it has stopped
abbrev pub halted : Pace → Pace
halted q = record q { purged = false; stopped = true; halted = true }

module _ (p q : Parts) (cause : Cause) (s : StandsFor p) (free : (world_of p).pace.finished ≡ false) (may : may_halt p.head (world_of p) cause ≡ true) where
  may-halt : Allowed p.head (world_of p) (by_dispatcher (Stopped cause))
  may-halt = (is-open (world_of p) free, refl, may)

  pub halt-covers : 1 ≤ p.reserved
  halt-covers = let k = reserved-covers (content_of p) (by_dispatcher (Stopped cause)) s.stands may-halt in omega (arith, k)

  pub halt-place : Spends p q → content_of q ≡ noted (record (content_of p) { reserved = p.reserved - 1; pace = halted (content_of p).pace }) (by_dispatcher (Stopped cause)) → StandsFor q
  halt-place spends wrote =
      let covers = halt-covers in
      let more = spends.log in
      rw wrote (step-place (content_of p) (by_dispatcher (Stopped cause)) (content_of p).chain p.locks p.desks (p.reserved - 1)
      p.history.spare q.history.spare p.log.spare q.log.spare s may-halt
      (record { made = inr refl; pushed = spends.history; logged = omega (arith, more); bare = refl })
      (record {
        chain = kept-chained (world_of p) (after p.head (world_of p) (by_dispatcher (Stopped cause))) (content_of p).chain refl refl refl refl refl refl s.parts.chain;
        carried = no-row (content_of p).chain.log (Stopped cause) refl;
        works = refl;
        entries = refl;
        locks = s.parts.locks;
        limits = same-limits p.locks;
        desks = λ d lt. dispatcher-kept p.head (world_of p) (Stopped cause) d (desk_at p.desks d)
            (record { ended_same = refl; closing_same = refl; doom_same = refl; waiting_same = refl; line_same = refl; unit_same = refl }) refl (s.parts.desks d lt);
        seats = refl;
        reserved = omega (arith, covers);
      }))
