use Rattle.std.proofs.Common.{◌≡◌, ◌++◌, drop}
use Rattle.iso_render.specs.Opened.{IsPassed}
use Rattle.iso_render.specs.Transcript.{printed, transcript}
use Rattle.iso_render.proofs.entries.print.Given as goal

abbrev pub invariant-loop-entry : goal.invariant-loop-entry
invariant-loop-entry l = record {
  told : l.out.items ++ printed l.script l.opens.items (drop l.entry-index l.entries) ≡ transcript l.script l.entries;
  passed : IsPassed l.script.lines l.passed;
}
