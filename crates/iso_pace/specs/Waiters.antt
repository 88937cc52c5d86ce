-- Which connections wait, by their phases.
use Rattle.std.specs.Prelude.{List, filter}
use Rattle.iso_history.specs.Phases.{is_phase, phase}
use Rattle.iso_history.specs.World.{World}
use Rattle.iso_types.specs.Head.{conns}
use Rattle.iso_types.specs.declared.desk.Phase.{Phase}
use Rattle.iso_types.specs.declared.head.Head.{Head}
use Rattle.iso_types.specs.declared.value.Conn.{Conn}

-- the head's connections that wait
abbrev pub waiters : Head → World → List Conn
waiters head w = filter (λ c. is_phase (phase w c) Phase.Waiting) (conns head)
