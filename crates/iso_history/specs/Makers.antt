-- An entry of an agent, and one of the dispatcher.
use Rattle.iso_history.specs.declared.entry.Act.{Act}
use Rattle.iso_history.specs.declared.entry.Entry.{Entry}
use Rattle.iso_history.specs.declared.entry.Who.TheVariants.{Agent, Dispatcher}
use Rattle.iso_types.specs.declared.value.Conn.{Conn}

-- an entry of the connection's agent
abbrev pub by_agent : Conn → Act → Entry
by_agent c a = record { who = Agent c; act = a }

-- an entry of the dispatcher
abbrev pub by_dispatcher : Act → Entry
by_dispatcher a = record { who = Dispatcher; act = a }
