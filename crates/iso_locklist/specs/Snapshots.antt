-- What a snapshot lists of one place. The states are those of Db2 LUW, 'MON_GET_LOCKS'; the order is this project's own.
use Rattle.std.specs.Prelude.{List, ◌++◌, map, filter_map, if◌then◌else◌}
use Rattle.iso_locklist.specs.Places.{Place}
use Rattle.iso_modes.specs.declared.LockState.TheVariants.{Converting, Granted, Waiting}
use Rattle.iso_queue.specs.Lines.{hold_of, is_holder}
use Rattle.iso_queue.specs.declared.LockLine.{LockLine}
use Rattle.iso_queue.specs.declared.types.Hold.{Hold}
use Rattle.iso_queue.specs.declared.types.Waiter.{Waiter}
use Rattle.iso_types.specs.Head.{conns}
use Rattle.iso_types.specs.declared.head.Head.{Head}
use Rattle.iso_types.specs.declared.value.Name.{Name}

-- a holder's line
abbrev pub holder_line : Name → Hold → LockLine
holder_line n h = record { name = n; conn = h.conn; mode = h.mode; state = Granted }

-- the holders' lines, by connection
abbrev pub holder_lines : Head → Place → List LockLine
holder_lines head p = map (holder_line p.name) (filter_map (hold_of p.queue.holders) (conns head))

-- a waiter's line: Converting where its connection holds the name
abbrev pub waiter_line : Place → Waiter → LockLine
waiter_line p w =
    record { name = p.name; conn = w.conn; mode = w.target; state = if is_holder p.queue.holders w.conn then Converting else Waiting }

-- the holders' lines, then the waiters', in queue order
abbrev pub lines_of : Head → Place → List LockLine
lines_of head p = holder_lines head p ++ map (waiter_line p) p.queue.waiters
