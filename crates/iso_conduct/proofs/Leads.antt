-- What the dispatcher's first step makes may stand.
use Rattle.std.proofs.Common.{◌≡◌, Bool, true, false, List, [], ◌∷◌, refl, subst, ◌∙◌, Option, Some, None, option_map, if◌then◌else◌}
use Rattle.std.specs.Option.{option_or}
use Rattle.iso_conduct.proofs.Takes.{taken-stands}
use Rattle.iso_conduct.specs.Pacing.{FirstLine, is_over, taking}
use Rattle.iso_conduct.specs.Schedule.{ending_step, first_step}
use Rattle.iso_history.specs.Legal.{ByDispatcher}
use Rattle.iso_history.specs.Quiet.{all_ended, cycle_in, is_quiet, least_idle}
use Rattle.iso_history.specs.World.{World}
use Rattle.iso_history.specs.declared.entry.Act.{Act}
use Rattle.iso_history.specs.declared.entry.Act.TheVariants.{Close, Finish, Victim}
use Rattle.iso_script.specs.declared.script.Line.{Line}
use Rattle.iso_types.specs.declared.head.Head.{Head}
use Rattle.iso_types.specs.declared.value.Conn.{Conn}

module _ (head : Head) (w : World) where
  of-some : (a b : Act) → Some a ≡ Some b → a ≡ b
  of-some a b e = cc

  taking-stands : (ls : List Line) (a : Act) → FirstLine head ls → taking head w ls ≡ Some a → ByDispatcher head w a
  taking-stands [] a is e = absurd (cc)
  taking-stands (l ∷ ls) a is e = taken-stands head w l ls a is e

  ending-stands : (a : Act) → ending_step head w ≡ Some a → ByDispatcher head w a
  ending-stands a e = go (is_quiet head w) refl (least_idle head w) refl (all_ended head w) refl e
    where
      done : (b : Bool) → all_ended head w ≡ b → (if b then Some Finish else None) ≡ Some a → ByDispatcher head w a
      done true k h = subst (ByDispatcher head w) (of-some Finish a h) k
      done false k h = absurd (cc)

      go : (q : Bool) → is_quiet head w ≡ q → (o : Option Conn) → least_idle head w ≡ o → (b : Bool) → all_ended head w ≡ b
          → option_or (if q then option_map Close o else None) (if b then Some Finish else None) ≡ Some a → ByDispatcher head w a
      go true quiet (Some c) least b k h = subst (ByDispatcher head w) (of-some (Close c) a h) (quiet, least)
      go true quiet None least b k h = done b k h
      go false quiet o least b k h = done b k h

  -- Ground allows it, where it is not full
  pub first-stands : (ls : List Line) (a : Act) → FirstLine head ls → first_step head w ls ≡ Some a → ByDispatcher head w a × (w.pace.finished ≡ false)
  first-stands ls a is e = go w.pace.finished refl (cycle_in head w) refl (taking head w ls) refl (is_over w ls) refl e
    where
      go : (f : Bool) → w.pace.finished ≡ f → (o : Option (List Conn)) → cycle_in head w ≡ o → (t : Option Act) → taking head w ls ≡ t
          → (b : Bool) → is_over w ls ≡ b
          → (if f then None else option_or (option_map Victim o) (option_or t (if b then ending_step head w else None))) ≡ Some a
          → ByDispatcher head w a × (w.pace.finished ≡ false)
      go true fin o cycle t take b over h = absurd (cc)
      go false fin (Some members) cycle t take b over h = (subst (ByDispatcher head w) (of-some (Victim members) a h) cycle, fin)
      go false fin None cycle (Some x) take b over h = (taking-stands ls a is (take ∙ h), fin)
      go false fin None cycle None take true over h = (ending-stands a h, fin)
      go false fin None cycle None take false over h = absurd (cc)
