use Rattle.std.proofs.Common.{◌≡◌, drop, filter}
use Rattle.std.specs.Prelude.{slice_get}
use Rattle.iso_serial.specs.Rounds.{agents_of, could_act}
use Rattle.iso_serial.proofs.drawing.able_at.Given as goal

abbrev pub invariant-loop-at : goal.invariant-loop-at
invariant-loop-at l =
    slice_get (filter (could_act l.script l.parts.history.items) (drop l.at (agents_of l.script.head))) l.left
    ≡ slice_get (filter (could_act l.script l.parts.history.items) (agents_of l.script.head)) l.place
