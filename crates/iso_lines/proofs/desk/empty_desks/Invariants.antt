use Rattle.std.proofs.Common.{◌≡◌, length}
use Rattle.iso_lines.specs.Registers.{AreIdle}
use Rattle.iso_lines.proofs.desk.empty_desks.Given as goal

abbrev pub invariant-loop-turn : goal.invariant-loop-turn
invariant-loop-turn l = (length l.desks.items ≡ l._turn) × AreIdle l.desks.items
