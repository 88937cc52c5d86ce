-- A granted look of an RR scan keeps the slot.
use Rattle.std.proofs.Common.{◌≡◌, Bool, true, false, List, refl, ◌∙◌}
use Rattle.std.specs.Prelude.{nat_lt}
use Rattle.iso_history.proofs.phantoms.Tests.{both, join, or-right}
use Rattle.iso_history.proofs.phantoms.Dues.{raised-kept}
use Rattle.iso_history.proofs.phantoms.Inherited.{covered-settled}
use Rattle.iso_history.proofs.phantoms.KeptHolds.{kept-briefs, kept_as, made-added}
use Rattle.iso_history.proofs.phantoms.ModeLaws.{cover-u-s, joined-least, least-s, least-u}
use Rattle.iso_history.proofs.phantoms.OwnLocks.{k_least, k_least-kept, own-covered}
use Rattle.iso_history.proofs.phantoms.RangeOwn.{slot_kept-own}
use Rattle.iso_history.proofs.phantoms.SlotStays.{covered-held}
use Rattle.iso_history.specs.After.{after}
use Rattle.iso_history.specs.Facts.{IsSound, keeps_mode}
use Rattle.iso_history.specs.Gaps.{IsFit, is_slot_kept}
use Rattle.iso_history.specs.Holds.{holds_by_agent, request_on, spared}
use Rattle.iso_history.specs.Legal.{ByAgent}
use Rattle.iso_history.specs.Makers.{by_agent}
use Rattle.iso_history.specs.Scans.{is_repeated}
use Rattle.iso_history.specs.Versions.{is_dead, slots, versions}
use Rattle.iso_history.specs.World.{World}
use Rattle.iso_history.specs.declared.entry.Act.TheVariants.{Look}
use Rattle.iso_history.specs.declared.entry.Got.{Got}
use Rattle.iso_history.specs.declared.entry.Want.{Want}
use Rattle.iso_history.specs.declared.entry.Want.TheVariants.{Alter, AlterKept, Current, Dirty, Repeat, Steady}
use Rattle.iso_modes.specs.Modes.{at_least, covers, joined}
use Rattle.iso_modes.specs.Terms.{is_kept}
use Rattle.iso_modes.specs.declared.Mode.{Mode}
use Rattle.iso_modes.specs.declared.Mode.TheVariants.{S, U}
use Rattle.iso_modes.specs.declared.Term.TheVariants.{Kept}
use Rattle.iso_queue.specs.Locks.{Hold, is_covered, is_covered_on, placed, raised, settled, without_briefs}
use Rattle.iso_types.specs.declared.head.Head.{Head}
use Rattle.iso_types.specs.declared.value.Conn.{Conn}
use Rattle.iso_types.specs.declared.value.Name.TheVariants.{Row}
use Rattle.iso_types.specs.declared.value.Rid.{Rid}
use Rattle.iso_types.specs.declared.value.TableId.{TableId}

module _ (head : Head) (w : World) (sound : IsSound head w) (fit : IsFit w) (c : Conn) (t : TableId) (r : Rid) where
  -- a kept lock of S or more that is placed on the row
  row-placed : (m : Mode) (hs before : List Hold) → at_least m S ≡ true → ((a : Mode) → covers a m ≡ true → covers a S ≡ true) → is_covered_on hs c S t ≡ false
      → keeps_mode (without_briefs before c (placed head hs c (request_on (Row t r) (m, Kept)))) c (Row t r) S ≡ true
  row-placed m hs before l cov bare = kept-briefs head k_least k_least-kept c (Row t r) before (placed head hs c (request_on (Row t r) (m, Kept)))
      (go (is_covered_on hs c m t) refl)
    where
      go : (b : Bool) → is_covered_on hs c m t ≡ b → kept_as k_least (placed head hs c (request_on (Row t r) (m, Kept))) c (Row t r) ≡ true
      go true e = let x = covered-held hs c m t e in let z : is_covered_on hs c S t ≡ true = rw x.1 (cov x.0.mode x.2) in absurd (cc)
      go false e = let z : is_covered head hs c (Row t r) m ≡ false = e in
          rw z (made-added k_least c (Row t r) (request_on (Row t r) (m, Kept)) hs refl
          (l, λ h f. join (is_kept (raised m Kept h).term) (at_least (joined h.mode m) S) (raised-kept m h) (joined-least h.mode m l)))

  abbrev base : Want → List Hold
  base want = settled c (spared (Look t r want Got.Granted) (w.last c)) w.holds

  placed-look : (want : Want) → is_repeated want ≡ true → is_dead (versions w t r) ≡ false → is_covered_on w.holds c S t ≡ false
      → keeps_mode (holds_by_agent head w c (Look t r want Got.Granted)) c (Row t r) S ≡ true
  placed-look Repeat e d bare = rw d (row-placed S (base Repeat) w.holds least-s (λ a f. f)
      (covered-settled c (spared (Look t r Repeat Got.Granted) (w.last c)) w.holds S t ∙ bare))
  placed-look AlterKept e d bare = rw d (row-placed U (base AlterKept) w.holds least-u cover-u-s
      (covered-settled c (spared (Look t r AlterKept Got.Granted) (w.last c)) w.holds S t ∙ bare))
  placed-look Steady e d bare = cc
  placed-look Alter e d bare = cc
  placed-look Current e d bare = cc
  placed-look Dirty e d bare = cc
  placed-look Want.Settled e d bare = cc

  -- its slot is kept after the look
  pub look-keeps : (want : Want) → ByAgent head w c (Look t r want Got.Granted) → is_repeated want ≡ true
      → IsSound head (after head w (by_agent c (Look t r want Got.Granted)))
      → is_slot_kept (after head w (by_agent c (Look t r want Got.Granted))) c t r ≡ true
  look-keeps want al e sa = go (is_covered_on w.holds c S t) refl (is_dead (versions w t r)) refl
    where
      x : World
      x = after head w (by_agent c (Look t r want Got.Granted))

      go : (a : Bool) → is_covered_on w.holds c S t ≡ a → (b : Bool) → is_dead (versions w t r) ≡ b → is_slot_kept x c t r ≡ true
      go true f b g = rw (own-covered head w sound fit c (Look t r want Got.Granted) al refl refl t f) refl
      go false f true g = slot_kept-own head w sound fit c (Look t r want Got.Granted) al refl refl sa t r
          (or-right (is_covered_on w.holds c S t) _
          (or-right (keeps_mode w.holds c (Row t r) S) _
          (join (nat_lt r.0 (slots w t)) (is_dead (versions w t r)) (both (nat_lt r.0 (slots w t)) _ al.1).0 g)))
      go false f false g = or-right (is_covered_on x.holds c S t) _ (rw (placed-look want e g f) refl)
