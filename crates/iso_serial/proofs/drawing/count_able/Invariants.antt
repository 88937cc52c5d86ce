use Rattle.std.proofs.Common.{◌≡◌, ◌+◌, ◌≤◌, drop, filter, length}
use Rattle.iso_serial.specs.Rounds.{agents_of, could_act}
use Rattle.iso_serial.proofs.drawing.count_able.Given as goal

abbrev pub invariant-loop-at : goal.invariant-loop-at
invariant-loop-at l = record {
  counted : l.count + length (filter (could_act l.script l.parts.history.items) (drop l.at (agents_of l.script.head)))
      ≡ length (filter (could_act l.script l.parts.history.items) (agents_of l.script.head));
  few : l.count ≤ l.at;
}
