use Rattle.std.proofs.Common.{◌≡◌, ◌++◌, map}
use Rattle.std.specs.List.{range_with_len}
use Rattle.std.specs.Prelude.{filter_map}
use Rattle.iso_locklist.specs.Snapshots.{holder_line}
use Rattle.iso_queue.specs.Lines.{hold_of}
use Rattle.iso_locklist.proofs.snapshot.push_holders.Given as goal

abbrev pub invariant-loop-conn : goal.invariant-loop-conn
invariant-loop-conn l =
    l.lines ≡ l.initial.lines ++ map (holder_line l.name) (filter_map (hold_of l.queue.holders) (map (λ k. record { 0 = k }) (range_with_len 0 l.conn)))
