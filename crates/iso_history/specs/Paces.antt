-- The dispatcher's own state: its last Purge, the stops, and Finish.
use Rattle.std.specs.Prelude.{Bool, true, false, ◌||◌}
use Rattle.iso_history.specs.World.{Pace}
use Rattle.iso_history.specs.declared.entry.Act.{Act}
use Rattle.iso_history.specs.declared.entry.Act.TheVariants.{Finish, Purge, Stopped}
use Rattle.iso_history.specs.declared.entry.Who.{Who}
use Rattle.iso_history.specs.declared.entry.Who.TheVariants.{Agent, Dispatcher}

-- the act is a Purge
abbrev pub is_purge : Act → Bool
is_purge (Purge i key r) = true
is_purge _ = false

-- the act is a Stopped
abbrev pub is_stop : Act → Bool
is_stop (Stopped cause) = true
is_stop _ = false

-- the act is Finish
abbrev pub is_finish : Act → Bool
is_finish Finish = true
is_finish _ = false

-- the dispatcher's state after an entry
abbrev pub pace_by : Pace → Who → Act → Pace
pace_by p Dispatcher a =
    record {
      purged = is_purge a;
      stopped = is_stop a || p.stopped;
      halted = is_stop a || p.halted;
      finished = is_finish a || p.finished;
    }
pace_by p (Agent c) a = record p { stopped = is_stop a || p.stopped }
