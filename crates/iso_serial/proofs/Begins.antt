-- A run before its first entry.
use Rattle.std.proofs.Common.{◌≡◌, ℕ, true, List, [], None, refl, sym, ap, drop, subst}
use Rattle.iso_conduct.proofs.Progress.{some-able}
use Rattle.iso_conduct.specs.Pacing.{Paced, PacedFrom, lines_from, lines_left}
use Rattle.iso_director.specs.Director.{HasTaken}
use Rattle.iso_director.specs.Untied.{WasAcyclic}
use Rattle.iso_director.specs.declared.director.Director.{Director}
use Rattle.iso_ends.specs.Doubts.{AreKept}
use Rattle.iso_history.specs.After.{world, world_from}
use Rattle.iso_history.specs.Legal.{Ground, GroundFrom}
use Rattle.iso_history.specs.declared.entry.Entry.{Entry}
use Rattle.iso_history.specs.declared.entry.Who.TheVariants.{Dispatcher}
use Rattle.iso_script.specs.Sound.{IsSound}
use Rattle.iso_script.specs.declared.script.Script.{Script}
use Rattle.iso_serial.proofs.Circle.{first-leads}
use Rattle.iso_serial.specs.Rounds.{could_act}
use Rattle.iso_types.specs.declared.head.Head.{Head}

-- no line is taken, and nothing is known of pairs and of cycles
none-taken : (script : Script) (d : Director) → d.taken ≡ 0 → ((head : Head) (es : List Entry) → AreKept head es d.doubts) → d.acyclic ≡ None
    → HasTaken script [] d
unfolding Paced PacedFrom lines_left lines_from
none-taken script d zeroth unknown unsought = record {
  paced = tt;
  left = ap (λ (n : ℕ). drop n script.lines) (sym zeroth);
  kept = unknown script.head [];
  acyclic = subst (WasAcyclic script.head []) (sym unsought) tt;
}

pub first-taken : (script : Script) (es : List Entry) (d : Director) → es ≡ [] → d.taken ≡ 0
    → ((head : Head) (gs : List Entry) → AreKept head gs d.doubts) → d.acyclic ≡ None → HasTaken script es d
first-taken script es d none zeroth unknown unsought =
    subst (λ (fs : List Entry). HasTaken script fs d) (sym none) (none-taken script d zeroth unknown unsought)

-- the dispatcher alone can act
begins : (script : Script) → IsSound script → could_act script [] Dispatcher ≡ true
unfolding world world_from lines_left lines_from Ground GroundFrom Paced PacedFrom
begins script sound = first-leads script.head script.lines (some-able script [] sound tt tt refl)

pub dispatcher-begins : (script : Script) (es : List Entry) → es ≡ [] → IsSound script → could_act script es Dispatcher ≡ true
dispatcher-begins script es none sound =
    subst (λ (fs : List Entry). could_act script fs Dispatcher ≡ true) (sym none) (begins script sound)
