use Rattle.std.proofs.Common.{◌≡◌, length, true}
use Rattle.std.specs.Prelude.{◌==◌, find}
use Rattle.iso_agent.specs.Rising.{rises}
use Rattle.iso_agent.proofs.opening.line_at.Given as goal

abbrev pub invariant-loop-rest : goal.invariant-loop-rest
invariant-loop-rest l = record {
  rises : rises l.rest ≡ true;
  same : find (λ y. y.number == l.number) l.rest ≡ find (λ y. y.number == l.number) l.lines;
}

abbrev pub decreases-loop-rest : goal.decreases-loop-rest
decreases-loop-rest l = length l.rest
