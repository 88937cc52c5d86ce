-- When the agent of a connection can make the step that is due of its statement.
use Rattle.std.specs.Prelude.{◌≡◌, true}
use Rattle.iso_history.specs.Phases.{phase}
use Rattle.iso_history.specs.Quiet.{is_able}
use Rattle.iso_history.specs.World.{World}
use Rattle.iso_types.specs.declared.desk.Phase.TheVariants.{Closing}
use Rattle.iso_types.specs.declared.value.Conn.{Conn}

-- it runs, rolls back, or waits for a lock that it could have; a closing connection has no statement
abbrev pub GoesOn : World → Conn → Type 0
GoesOn w c = (is_able w c ≡ true) × (phase w c ≡ Closing → ⊥)
