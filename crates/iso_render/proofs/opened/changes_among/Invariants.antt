use Rattle.std.proofs.Common.{◌≡◌, drop}
use Rattle.iso_render.specs.Opened.{changes_at}
use Rattle.iso_render.proofs.opened.changes_among.Given as goal

abbrev pub invariant-loop-line : goal.invariant-loop-line
invariant-loop-line l = changes_at (drop l.line-index l.lines) l.number ≡ changes_at l.lines l.number
