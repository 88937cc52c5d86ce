use Rattle.std.proofs.Common.{◌≡◌, take}
use Rattle.iso_types.proofs.head.copied_rows.Given as goal

abbrev pub invariant-loop-first : goal.invariant-loop-first
invariant-loop-first l = l.copies ≡ take l.first-index l.rows
