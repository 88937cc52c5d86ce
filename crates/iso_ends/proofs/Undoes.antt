-- The parts after an Undo.
use Rattle.std.proofs.Common.{◌≡◌, ◌≤◌, ◌<◌, ◌-◌, ℕ, true, false, List, length, inl, refl, ap, sym, subst, ◌∙◌, arith, Some, None, Option}
use Rattle.std.specs.Option.{option_map}
use Rattle.std.specs.Prelude.{IsSome, is_some, slice_get, unwrap_or}
use Rattle.std.proofs.Math.ListN.{length-set}
use Rattle.iso_chain.proofs.Carries.{one-row}
use Rattle.iso_chain.proofs.Asks.{undo-asks}
use Rattle.iso_chain.proofs.Rooms.{count-debt}
use Rattle.iso_chain.proofs.Undo.{undo-chained}
use Rattle.iso_chain.specs.Asked.{UndoAsks}
use Rattle.iso_chain.specs.Facts.{MayUndo}
use Rattle.iso_chain.specs.Works.{work_of_unit}
use Rattle.iso_chain.specs.Writes.{taken_back}
use Rattle.iso_history.proofs.limits.Begun.{undo-unit}
use Rattle.iso_history.specs.After.{after, world}
use Rattle.iso_history.specs.Courses.{NoneLeft}
use Rattle.iso_history.specs.Makers.{by_agent}
use Rattle.iso_history.specs.Outcomes.{last_record}
use Rattle.iso_history.specs.Records.{debt, last_left}
use Rattle.iso_history.specs.declared.entry.Act.TheVariants.{Undo}
use Rattle.iso_locklist.specs.Holding.{LocksAre}
use Rattle.iso_locklist.specs.Places.{IsSameLimits, Ledger}
use Rattle.iso_types.specs.declared.value.Conn.{Conn}
use Rattle.iso_uow.specs.Book.{last_of, work_at}
use Rattle.iso_uow.specs.declared.units.Work.{Work}
use Rattle.iso_state.proofs.Desks.{claims-own, seat-kept}
use Rattle.iso_state.proofs.FactsAlong.{debt-of, kept-of, none_left-of, top-of, work-there}
use Rattle.iso_state.proofs.Steps.{IsOwn, own-desk}
use Rattle.iso_state.specs.Changes.{unclaimed}
use Rattle.iso_state.specs.Stands.{Content, Stands, desk_at}

-- what the unit keeps as its last record is the world's; without a unit there is none
pub last-is : (p : Content) (c : Conn) → Stands p → c.0 < length p.head.conns
    → last_of (work_at p.chain.book.works c) ≡ last_record (world p.head p.history) c
unfolding NoneLeft
last-is p c s lt = ap last_of (s.parts.chain.works c (work-there s c lt)) ∙ go ((world p.head p.history).unit c)
  where
    go : (o : Option ℕ) → last_of (option_map (work_of_unit (world p.head p.history).records ((world p.head p.history).marks c)) o)
        ≡ last_left (world p.head p.history) (unwrap_or o 0)
    go None = sym (ap (λ (ms : List ℕ). slice_get ms 0) (none_left-of s 0 (inl refl)))
    go (Some u) = refl

module _ (p : Content) (c : Conn) (n : ℕ) (s : Stands p) (lt : c.0 < length p.head.conns) (last : last_record (world p.head p.history) c ≡ Some n) where
  -- the unit tells the record that it may undo next
  pub may-take : MayUndo (world p.head p.history) c n
  may-take = go ((world p.head p.history).unit c) refl (undo-unit (world p.head p.history) c n (none_left-of s) last)
    where
      go : (o : Option ℕ) → (world p.head p.history).unit c ≡ o → is_some ((world p.head p.history).unit c) ≡ true → MayUndo (world p.head p.history) c n
      go None k some = absurd (let no : is_some {T = ℕ} None ≡ true = subst (λ (o : Option ℕ). is_some o ≡ true) k some in cc)
      go (Some u) k some = record {
        unit = u;
        open_unit = k;
        last = subst (λ (x : ℕ). last_left (world p.head p.history) x ≡ Some n) (ap (λ (o : Option ℕ). unwrap_or o 0) k) last;
        top = top-of s c n last;
      }

  pub take-asks : UndoAsks p.chain c n
  take-asks = undo-asks (world p.head p.history) p.chain c n s.parts.chain (kept-of s) (work-there s c lt) may-take

  -- and the log has room for it
  pub take-room : (spare : ℕ) → debt p.head (world p.head p.history) ≤ spare → 1 ≤ spare
  take-room spare room = go (work_at p.chain.book.works c) refl take-asks
    where
      go : (o : Option Work) → work_at p.chain.book.works c ≡ o → UndoAsks p.chain c n → 1 ≤ spare
      go None e asks = absurd (let some = asks.has_unit in let none : IsSome {T = Work} None = rw e at some in cc)
      go (Some work) e asks =
          let some = asks.some in
          let count : 1 ≤ work.count = rw e at some in
          let k = count-debt p.chain.book.works c work (work-there s c lt) e in
          let is = debt-of s in
          omega (arith, count, k, is, room)

  -- what the step has to show
  pub undo-own : (l : Ledger) → IsSameLimits l p.locks
      → LocksAre (after p.head (world p.head p.history) (by_agent c (Undo n))).holds (world p.head p.history).waits l → 1 ≤ p.reserved
      → IsOwn p c (Undo n) (taken_back p.chain c n) l (unclaimed (desk_at p.desks c)) (p.reserved - 1)
  undo-own l limits are some = record {
    chain = undo-chained p.head (world p.head p.history) p.chain c n s.parts.chain (kept-of s) (work-there s c lt) may-take;
    carried = one-row p.chain.log _ (Undo n) refl;
    works = length-set p.chain.book.works c.0 _;
    entries = refl;
    locks = are;
    limits = limits;
    desk = seat-kept (world p.head p.history) (after p.head (world p.head p.history) (by_agent c (Undo n))) c (desk_at p.desks c) false
        (record { phase_same = refl; line_same = refl; setting_same = refl; doom_same = refl; floor_same = refl })
        (claims-own (world p.head p.history) c (Undo n)) (own-desk p c (desk_at p.desks c) s lt refl);
    reserved = omega (arith, some);
  }
