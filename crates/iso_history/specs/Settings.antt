-- The isolation level of each connection, and whether it may wait.
use Rattle.std.specs.Option.{option_map_or}
use Rattle.std.specs.Prelude.{true, slice_get}
use Rattle.iso_history.specs.World.{Setting, at_conn}
use Rattle.iso_history.specs.declared.entry.Act.{Act}
use Rattle.iso_history.specs.declared.entry.Act.TheVariants.{Set}
use Rattle.iso_history.specs.declared.entry.Who.{Who}
use Rattle.iso_history.specs.declared.entry.Who.TheVariants.{Agent, Dispatcher}
use Rattle.iso_types.specs.declared.head.Head.{Head}
use Rattle.iso_types.specs.declared.head.Isolation.TheVariants.{Cs}
use Rattle.iso_types.specs.declared.value.Conn.{Conn}

-- the settings are those of the last Set
abbrev pub setting_by_agent : (Conn → Setting) → Conn → Act → Conn → Setting
setting_by_agent f c (Set level may_wait) = at_conn f c (record { level = level; may_wait = may_wait })
setting_by_agent f c _ = f

-- the settings of each connection
abbrev pub setting_by : (Conn → Setting) → Who → Act → Conn → Setting
setting_by f Dispatcher a = f
setting_by f (Agent c) a = setting_by_agent f c a

-- CONNECT's level, and leave to wait
abbrev pub first_setting : Head → Conn → Setting
first_setting head c =
    record { level = option_map_or (λ d. d.isolation) (slice_get head.conns c.0) Cs; may_wait = true }
