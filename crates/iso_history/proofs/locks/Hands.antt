-- What an allowed entry of an agent does to the holds stands.
use Rattle.std.proofs.Common.{◌≡◌, true, false, ◌∷◌, refl, ap, ◌∙◌, Option, nat_lt}
use Rattle.std.proofs.lemmas.Bool.{and_parts, le-ltb}
use Rattle.std.proofs.Common.{arith}
use Rattle.iso_history.proofs.locks.Inherits.{inheriting-fit, new-fits, placing-fit}
use Rattle.iso_history.proofs.locks.Stands.{HandStands, claim-stands, lock-stands, look-stands, next-stands}
use Rattle.iso_history.specs.Facts.{LocksSound}
use Rattle.iso_history.specs.Holds.{hand_of, inheriting, request_on}
use Rattle.iso_history.specs.Legal.{ByAgent}
use Rattle.iso_history.specs.Requests.{is_row_mode, is_there}
use Rattle.iso_history.specs.Versions.{next_rid, slots}
use Rattle.iso_history.specs.World.{World}
use Rattle.iso_history.specs.declared.entry.Act.{Act}
use Rattle.iso_history.specs.declared.entry.Act.TheVariants.{Claim, Free, Insert, Lock, Look, Next, Update}
use Rattle.iso_history.specs.declared.entry.Got.{Got}
use Rattle.iso_history.specs.declared.entry.Stand.{Stand}
use Rattle.iso_history.specs.declared.entry.Stand.TheVariants.{At, Past}
use Rattle.iso_modes.specs.declared.Mode.TheVariants.{X}
use Rattle.iso_modes.specs.declared.Term.TheVariants.{Kept}
use Rattle.iso_queue.specs.Locks.{settled}
use Rattle.iso_types.specs.declared.head.Head.{Head}
use Rattle.iso_types.specs.declared.value.Conn.{Conn}
use Rattle.iso_types.specs.declared.value.Name.{Name}
use Rattle.iso_types.specs.declared.value.Name.TheVariants.{Row}
use Rattle.iso_types.specs.declared.value.Rid.{Rid}
use Rattle.iso_types.specs.declared.value.TableId.{TableId}

-- the next slot is not there
pub next-new : (head : Head) (w : World) (t : TableId) (r : Rid) → r ≡ next_rid w t → is_there head w (Row t r) ≡ false
next-new head w t r e = ap (λ (z : Rid). nat_lt z.0 (slots w t)) e ∙ le-ltb (slots w t) (slots w t) (omega arith)

x_suits : is_row_mode X ≡ true
unfolding is_row_mode
x_suits = refl

-- the hand of each kind of entry
pub hand-stands : (head : Head) (w : World) (c : Conn) (spare : Option Name) (a : Act) → LocksSound head w → ByAgent head w c a
    → HandStands head c (settled c spare w.holds) (hand_of head w c a)
hand-stands head w c spare (Lock n m t why Got.Granted) s al = lock-stands head w c s spare n m t why al.1
hand-stands head w c spare (Lock n m t why (Got.Queued q)) s al = tt
hand-stands head w c spare (Lock n m t why Got.TimedOut) s al = tt
hand-stands head w c spare (Look t r want Got.Granted) s al = look-stands head w c s spare t r want al.1 al.2
hand-stands head w c spare (Look t r want (Got.Queued q)) s al = tt
hand-stands head w c spare (Look t r want Got.TimedOut) s al = tt
hand-stands head w c spare (Next i range at guarded (At v r)) s al = next-stands head w c s spare i range at guarded (At v r) refl al.1 al.2
hand-stands head w c spare (Next i range at guarded Past) s al = next-stands head w c s spare i range at guarded Past refl al.1 al.2
hand-stands head w c spare (Next i range at guarded (Stand.Queued n)) s al = tt
hand-stands head w c spare (Next i range at guarded (Stand.TimedOut n)) s al = tt
hand-stands head w c spare Claim s al = claim-stands head w c s spare al
hand-stands head w c spare (Insert t r row) s al =
    placing-fit head w c s t spare al.1 (request_on (Row t r) (X, Kept) ∷ inheriting head w c t row)
    (new-fits head w c s t (Row t r) X x_suits (next-new head w t r al.3) (λ u k. cc), inheriting-fit head w c s t row)
hand-stands head w c spare (Update t r row) s al =
    placing-fit head w c s t spare ((and_parts _ _ al.1).0) (inheriting head w c t row) (inheriting-fit head w c s t row)
hand-stands head w c spare (Free t r) s al = λ u k. cc
hand-stands head w c spare _ s al = tt
