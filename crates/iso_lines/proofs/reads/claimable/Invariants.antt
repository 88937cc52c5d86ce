use Rattle.iso_lines.proofs.Walked.{ArePast}
use Rattle.iso_lines.specs.Named.{line_of}
use Rattle.iso_queue.specs.Lines.{is_grantable}
use Rattle.iso_lines.proofs.reads.claimable.Given as goal

abbrev pub invariant-loop-at : goal.invariant-loop-at
invariant-loop-at l = ArePast (λ n. is_grantable (line_of l.lines n) l.conn) l.names.entries l.at
