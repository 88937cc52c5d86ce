-- What a connection can do next.
use Rattle.std.specs.Prelude.{◌≡◌, true, false}
use Rattle.iso_agent.specs.declared.ways.Way.{Way}
use Rattle.iso_agent.specs.declared.ways.Way.TheVariants.{Close, End, Rest, Run}
use Rattle.iso_history.specs.Phases.{phase}
use Rattle.iso_history.specs.Quiet.{is_able}
use Rattle.iso_history.specs.World.{World}
use Rattle.iso_standing.specs.Going.{GoesOn}
use Rattle.iso_types.specs.declared.desk.Phase.TheVariants.{Closing}
use Rattle.iso_types.specs.declared.value.Conn.{Conn}

-- it rests or has ended exactly where it is not able; else it closes, or goes on with its statement
abbrev pub IsWay : World → Conn → Way → Type 0
IsWay w c Rest = (is_able w c ≡ false) × (w.ended c ≡ false)
IsWay w c End = (is_able w c ≡ false) × (w.ended c ≡ true)
IsWay w c Close = (is_able w c ≡ true) × (w.ended c ≡ false) × (phase w c ≡ Closing)
IsWay w c Run = (is_able w c ≡ true) × (w.ended c ≡ false) × GoesOn w c
