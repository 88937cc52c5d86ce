use Rattle.std.proofs.Common.{◌≡◌, ◌++◌, drop}
use Rattle.iso_render.specs.Transcript.{row_lines}
use Rattle.iso_render.proofs.agents.put_rows.Given as goal

abbrev pub invariant-loop-row : goal.invariant-loop-row
invariant-loop-row l =
    l.out.items ++ row_lines l.head l.line l.conn (drop l.row-index l.rows) ≡ l.fn.out.items ++ row_lines l.head l.line l.conn l.rows
