-- Only a look for Current sees a row beside another unit's pending version.
use Rattle.std.proofs.Common.{◌≡◌, Bool, true, false, refl, sym, ◌∙◌}
use Rattle.iso_history.proofs.whole.Looking.{look-alone, settled-alone}
use Rattle.iso_history.specs.Facts.{IsSound}
use Rattle.iso_history.specs.Looks.{look, may_look}
use Rattle.iso_history.specs.Requests.Outcome.{Gives}
use Rattle.iso_history.specs.Versions.{is_changed_beside}
use Rattle.iso_history.specs.World.{World}
use Rattle.iso_history.specs.declared.entry.Got.{Got}
use Rattle.iso_history.specs.declared.entry.Want.{Want}
use Rattle.iso_history.specs.declared.entry.Want.TheVariants.{Alter, AlterKept, Current, Dirty, Repeat, Steady}
use Rattle.iso_modes.specs.declared.Mode.TheVariants.{Is}
use Rattle.iso_queue.specs.Locks.{holds_at_least}
use Rattle.iso_types.specs.declared.head.Head.{Head}
use Rattle.iso_types.specs.declared.value.Conn.{Conn}
use Rattle.iso_types.specs.declared.value.Name.TheVariants.{Table}
use Rattle.iso_types.specs.declared.value.Rid.{Rid}
use Rattle.iso_types.specs.declared.value.TableId.{TableId}
use Rattle.iso_reads.specs.Answers.{is_beside}

-- a change cannot be beside and not
neither : (b : Bool) (want : Want) → b ≡ false → b ≡ true → want ≡ Current
neither b want e f = let z : false ≡ true = sym e ∙ f in cc

pub only-current : (head : Head) (w : World) (c : Conn) (t : TableId) (r : Rid) (want : Want) → IsSound head w
    → holds_at_least w.holds c (Table t) Is ≡ true → may_look head w c t r want ≡ true → look head w c t r want ≡ Gives Got.Granted
    → is_beside w c t r want ≡ true → want ≡ Current
only-current head w c t r Dirty sound table may granted beside = cc beside
only-current head w c t r Current sound table may granted beside = refl
only-current head w c t r Want.Settled sound table may granted beside =
    neither (is_changed_beside w c t r) Want.Settled (settled-alone head w sound c t r table granted) beside
only-current head w c t r Steady sound table may granted beside =
    neither (is_changed_beside w c t r) Steady (look-alone head w sound c t r Steady refl may granted) beside
only-current head w c t r Repeat sound table may granted beside =
    neither (is_changed_beside w c t r) Repeat (look-alone head w sound c t r Repeat refl may granted) beside
only-current head w c t r Alter sound table may granted beside =
    neither (is_changed_beside w c t r) Alter (look-alone head w sound c t r Alter refl may granted) beside
only-current head w c t r AlterKept sound table may granted beside =
    neither (is_changed_beside w c t r) AlterKept (look-alone head w sound c t r AlterKept refl may granted) beside
