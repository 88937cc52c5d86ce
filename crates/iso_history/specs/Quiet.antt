-- When all connections rest, which wait on a cycle, and when a line may be taken.
use Rattle.std.specs.List.{list_all}
use Rattle.std.specs.Prelude.{Bool, not, ◌&&◌, ◌||◌, List, is_none, find, Option}
use Rattle.iso_history.specs.Entries.{least_purgeable}
use Rattle.iso_history.specs.Phases.{is_active, is_phase, phase, waits_grantable}
use Rattle.iso_history.specs.World.{World}
use Rattle.iso_queue.specs.Queues.{edges, is_stuck}
use Rattle.iso_types.specs.Cycles.{chosen_cycle, is_on_cycle}
use Rattle.iso_types.specs.Head.{conns}
use Rattle.iso_types.specs.declared.desk.Phase.{Phase}
use Rattle.iso_types.specs.declared.desk.Phase.TheVariants.{Idle}
use Rattle.iso_types.specs.declared.head.Head.{Head}
use Rattle.iso_types.specs.declared.value.Conn.{Conn}

-- the edges of each connection
abbrev pub edges_in : Head → World → Conn → List Conn
edges_in head w = edges (conns head) w.holds w.waits

-- the chosen cycle
abbrev pub cycle_in : Head → World → Option (List Conn)
cycle_in head w = chosen_cycle (edges_in head w) (conns head)

-- the connection waits with an edge
abbrev pub waits_stuck : World → Conn → Bool
waits_stuck w c = is_phase (phase w c) Phase.Waiting && is_stuck w.holds w.waits c

-- idle, ended, or waiting with an edge
abbrev pub is_resting : World → Conn → Bool
is_resting w c = is_phase (phase w c) Idle || is_phase (phase w c) Phase.Ended || waits_stuck w c

-- each connection rests, and no cycle exists
abbrev pub is_quiet : Head → World → Bool
is_quiet head w = list_all (is_resting w) (conns head) && is_none (cycle_in head w)

-- a line may be taken: no Stopped stands, and no pair is purgeable or the dispatcher's last entry is a Purge
abbrev pub may_take : Head → World → Bool
may_take head w = not w.pace.stopped && (w.pace.purged || is_none (least_purgeable head w))

-- the connection waits with an edge and lies on no cycle
abbrev pub is_busy : Head → World → Conn → Bool
is_busy head w c =
    waits_stuck w c && not (is_on_cycle (edges_in head w) (conns head) c)

-- the least idle connection
abbrev pub least_idle : Head → World → Option Conn
least_idle head w = find (λ c. is_phase (phase w c) Idle) (conns head)

-- all connections are ended
abbrev pub all_ended : Head → World → Bool
all_ended head w = list_all w.ended (conns head)

-- the agent is able
abbrev pub is_able : World → Conn → Bool
is_able w c = is_active w c || waits_grantable w c
