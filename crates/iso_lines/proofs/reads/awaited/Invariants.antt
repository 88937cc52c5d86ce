use Rattle.iso_lines.proofs.Walked.{ArePast}
use Rattle.iso_lines.specs.Named.{line_of}
use Rattle.iso_queue.specs.Lines.{is_waiter}
use Rattle.iso_lines.proofs.reads.awaited.Given as goal

abbrev pub invariant-loop-at : goal.invariant-loop-at
invariant-loop-at l = ArePast (λ n. is_waiter (line_of l.lines n).waiters l.conn) l.names.entries l.at
