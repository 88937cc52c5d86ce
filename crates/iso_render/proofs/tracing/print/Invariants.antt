use Rattle.std.proofs.Common.{◌≡◌, ◌++◌, drop}
use Rattle.iso_render.specs.Trace.{trace, trace_lines}
use Rattle.iso_render.proofs.tracing.print.Given as goal

abbrev pub invariant-loop-entry : goal.invariant-loop-entry
invariant-loop-entry l = record {
  place : l.place ≡ l.entry-index;
  text : l.out.items ++ trace_lines l.script.head l.place (drop l.entry-index l.entries) ≡ trace l.script l.entries;
}
