-- What is asked for where a way back to a savepoint is due.
use Rattle.iso_conduct.specs.declared.moves.Move.{Move}
use Rattle.iso_history.specs.Legal.{Runs}
use Rattle.iso_history.specs.World.{World}
use Rattle.iso_types.specs.declared.value.Conn.{Conn}

-- the connection runs where its step is a way back to a savepoint
abbrev pub RunsForBack : World → Conn → Move → Type 0
RunsForBack w c (Move.Back name) = Runs w c
RunsForBack w c m = Unit {0}
