use Rattle.std.proofs.Common.{◌≡◌, true, is_some}
use Rattle.iso_queue.specs.Lines.{is_touched}
use Rattle.iso_types.specs.declared.value.Name.{Name}
use Rattle.iso_lines.proofs.Worked.{AreWorked}
use Rattle.iso_lines.specs.Named.{key_of, line_of}
use Rattle.iso_lines.specs.Tasks.{worked}
use Rattle.iso_lines.specs.Weighs.{IsWeighed}
use Rattle.iso_lines.proofs.work.work_over.Given as goal

abbrev pub invariant-loop-at : goal.invariant-loop-at
invariant-loop-at l = record {
  done : AreWorked l.names.entries l.initial.lines l.lines (worked l.tables l.task l.conn) l.at;
  there : (n : Name) → is_touched (line_of l.lines n) l.conn ≡ true → is_some (key_of l.all.entries n) ≡ true;
  weighed : IsWeighed l.tables l.lines l.conn l.all.entries l.weights.items;
}
