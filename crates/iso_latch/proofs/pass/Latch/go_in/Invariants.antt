use Rattle.std.proofs.Common.{◌≡◌}
use Rattle.iso_latch.specs.Told.{IsSameSeat}
use Rattle.iso_latch.proofs.pass.Latch.go_in.Given as goal

abbrev pub invariant-loop : goal.invariant-loop
invariant-loop g l = IsSameSeat l.initial.seat l.seat × (l.seat.me ≡ l.initial.seat.me)
