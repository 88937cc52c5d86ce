use Rattle.std.proofs.Common.{◌≤◌, ◌+◌, ℕ, length}
use Rattle.iso_grammar.specs.Lines.{lines}
use Rattle.iso_script.specs.declared.reader.Reader.{Reader}
use Rattle.iso_script.specs.declared.fault.LineCause.{LineCause}
use Rattle.iso_script.specs.Kept.{IsKept}
use Rattle.iso_script.specs.Reading.{ReadsFrom, BadFrom, start}
use Rattle.iso_script.proofs.read.read_lines.Given as goal

abbrev pub invariant-loop-rest : goal.invariant-loop-rest
invariant-loop-rest l = record {
  kept : IsKept l.progress;
  small : l.number + length l.rest ≤ 1048577;
  reads : (end : Reader) → ReadsFrom l.progress.reader l.number (lines l.rest) end → ReadsFrom start 1 (lines l.bytes) end;
  bad : (n : ℕ) (why : LineCause) → BadFrom l.progress.reader l.number (lines l.rest) n why → BadFrom start 1 (lines l.bytes) n why;
}

abbrev pub decreases-loop-rest : goal.decreases-loop-rest
decreases-loop-rest l = length l.rest
