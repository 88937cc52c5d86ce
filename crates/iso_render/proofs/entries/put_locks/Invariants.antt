use Rattle.std.proofs.Common.{◌≡◌, ◌++◌, drop}
use Rattle.iso_render.specs.Transcript.{lock_lines}
use Rattle.iso_render.proofs.entries.put_locks.Given as goal

abbrev pub invariant-loop-lock : goal.invariant-loop-lock
invariant-loop-lock l =
    l.out.items ++ lock_lines l.head l.line (drop l.lock-index l.locks) ≡ l.fn.out.items ++ lock_lines l.head l.line l.locks
