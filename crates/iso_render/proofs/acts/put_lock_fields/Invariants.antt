use Rattle.std.proofs.Common.{◌≡◌, ◌++◌, drop}
use Rattle.std.specs.Prelude.{map}
use Rattle.iso_render.specs.Fields.{lock_text, spaced}
use Rattle.iso_render.proofs.acts.put_lock_fields.Given as goal

abbrev pub invariant-loop-lock : goal.invariant-loop-lock
invariant-loop-lock l =
    l.out.items ++ spaced (map (lock_text l.head) (drop l.lock-index l.locks)) ≡ l.fn.out.items ++ spaced (map (lock_text l.head) l.locks)
