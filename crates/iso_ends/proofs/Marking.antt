-- The parts after a Mark, and after a Back.
use Rattle.std.proofs.Common.{◌≡◌, ◌<◌, ℕ, false, List, length, refl, ap, ◌∙◌, Option}
use Rattle.std.specs.Option.{option_map}
use Rattle.std.specs.Prelude.{IsSome}
use Rattle.std.proofs.Math.ListN.{length-set}
use Rattle.iso_chain.proofs.Carries.{no-row}
use Rattle.iso_chain.proofs.Asks.{has-unit}
use Rattle.iso_chain.proofs.Units.{back-chained, floor-is, mark-chained}
use Rattle.iso_chain.specs.Works.{work_of_unit}
use Rattle.iso_chain.specs.Writes.{own_work}
use Rattle.iso_history.specs.After.{after, world}
use Rattle.iso_history.specs.Legal.{Runs}
use Rattle.iso_history.specs.Makers.{by_agent}
use Rattle.iso_history.specs.Marks.{mark_of}
use Rattle.iso_history.specs.Units.{unit_of}
use Rattle.iso_history.specs.declared.entry.Act.TheVariants.{Back, Mark}
use Rattle.iso_locklist.specs.Holding.{LocksAre}
use Rattle.iso_locklist.specs.Places.{IsSameLimits, Ledger}
use Rattle.iso_types.specs.declared.value.Conn.{Conn}
use Rattle.iso_uow.specs.Book.{floor_at, work_at}
use Rattle.iso_uow.specs.Savepoints.{down_to, set_again}
use Rattle.iso_uow.specs.declared.units.Work.{Work}
use Rattle.iso_state.proofs.Desks.{claims-own, seat-kept}
use Rattle.iso_state.proofs.FactsAlong.{unit-of, work-there}
use Rattle.iso_state.proofs.Steps.{IsOwn, own-desk}
use Rattle.iso_state.specs.Changes.{unclaimed}
use Rattle.iso_state.specs.Stands.{Content, Stands, desk_at}
use Rattle.iso_ends.specs.Ends.{with_savepoints}

module _ (p : Content) (c : Conn) (s : Stands p) (lt : c.0 < length p.head.conns) (runs : Runs (world p.head p.history) c) where
  -- who runs has a unit
  pub unit-there : IsSome (work_at p.chain.book.works c)
  unit-there = has-unit (world p.head p.history) p.chain c (unit_of (world p.head p.history) c) s.parts.chain (work-there s c lt) (unit-of s c runs.0)

  -- its savepoints are the world's
  pub floor-told : (name : List ℕ) → floor_at (work_at p.chain.book.works c) name ≡ mark_of ((world p.head p.history).marks c) name
  floor-told name =
      ap (λ (o : Option Work). floor_at o name)
      (s.parts.chain.works c (work-there s c lt)
      ∙ ap (option_map (work_of_unit (world p.head p.history).records ((world p.head p.history).marks c))) (unit-of s c runs.0))
      ∙ floor-is ((world p.head p.history).marks c) name

  -- what the step of a Mark has to show
  pub mark-own : (name : List ℕ) (l : Ledger) → IsSameLimits l p.locks
      → LocksAre (after p.head (world p.head p.history) (by_agent c (Mark name))).holds (world p.head p.history).waits l
      → IsOwn p c (Mark name) (with_savepoints p.chain c (set_again (own_work p.chain c).marks name (length p.chain.log))) l
      (unclaimed (desk_at p.desks c)) p.reserved
  mark-own name l limits are = record {
    chain = mark-chained p.head (world p.head p.history) p.chain c (unit_of (world p.head p.history) c) name s.parts.chain (work-there s c lt)
        (unit-of s c runs.0);
    carried = no-row p.chain.log (Mark name) refl;
    works = length-set p.chain.book.works c.0 _;
    entries = refl;
    locks = are;
    limits = limits;
    desk = seat-kept (world p.head p.history) (after p.head (world p.head p.history) (by_agent c (Mark name))) c (desk_at p.desks c) false
        (record { phase_same = refl; line_same = refl; setting_same = refl; doom_same = refl; floor_same = refl })
        (claims-own (world p.head p.history) c (Mark name)) (own-desk p c (desk_at p.desks c) s lt refl);
    reserved = refl;
  }

  -- and that of a Back
  pub back-own : (name : List ℕ) (l : Ledger) → IsSameLimits l p.locks
      → LocksAre (after p.head (world p.head p.history) (by_agent c (Back name))).holds (world p.head p.history).waits l
      → IsOwn p c (Back name) (with_savepoints p.chain c (down_to name (own_work p.chain c).marks)) l (unclaimed (desk_at p.desks c)) p.reserved
  back-own name l limits are = record {
    chain = back-chained p.head (world p.head p.history) p.chain c (unit_of (world p.head p.history) c) name s.parts.chain (work-there s c lt)
        (unit-of s c runs.0);
    carried = no-row p.chain.log (Back name) refl;
    works = length-set p.chain.book.works c.0 _;
    entries = refl;
    locks = are;
    limits = limits;
    desk = seat-kept (world p.head p.history) (after p.head (world p.head p.history) (by_agent c (Back name))) c (desk_at p.desks c) false
        (record { phase_same = refl; line_same = refl; setting_same = refl; doom_same = refl; floor_same = refl })
        (claims-own (world p.head p.history) c (Back name)) (own-desk p c (desk_at p.desks c) s lt refl);
    reserved = refl;
  }
