use Rattle.std.proofs.Common.{◌+◌, ◌≤◌, vec_len, vec_capacity}
use Rattle.iso_threads.specs.Backs.{AllBack, AllPromised}
use Rattle.iso_threads.specs.Passes.{AllFresh}
use Rattle.iso_threads.proofs.Started.{Covers}
use Rattle.iso_threads.proofs.threads.fn.drive_all.scope.Given as goal

abbrev pub invariant-loop-one : goal.invariant-loop-one
invariant-loop-one g l = record {
  fewer : vec_len l.passes ≤ vec_len l.initial.passes;
  fresh : AllFresh l.latch.table.shared.table_id l.script l.passes.items;
  here : AllBack l.latch.table.shared.table_id l.script l.here.items;
  children : AllPromised l.latch.table.shared.table_id l.script l.children.items;
  room_here : vec_len l.here + vec_len l.passes ≤ vec_capacity l.here;
  len_here : vec_len l.here + vec_len l.passes ≤ vec_len l.initial.passes;
  room_children : vec_len l.children + vec_len l.passes ≤ vec_capacity l.children;
  cover : Covers (vec_len l.passes) (vec_len l.initial.passes) l.children.items l.here.items;
}

abbrev pub decreases-loop-one : goal.decreases-loop-one
decreases-loop-one g l = vec_len l.passes
