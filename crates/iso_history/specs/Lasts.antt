-- The last own entry, and the collapse that is due.
use Rattle.std.specs.Prelude.{Some, None, Option}
use Rattle.iso_history.specs.World.{Last, World, at_conn}
use Rattle.iso_history.specs.World.Last.{Awaits, Claimed, Looked, Other}
use Rattle.iso_history.specs.declared.entry.Act.{Act}
use Rattle.iso_history.specs.declared.entry.Act.TheVariants.{Claim, Lock, Look}
use Rattle.iso_history.specs.declared.entry.Got.{Got}
use Rattle.iso_history.specs.declared.entry.Who.{Who}
use Rattle.iso_history.specs.declared.entry.Who.TheVariants.{Agent, Dispatcher}
use Rattle.iso_history.specs.declared.entry.Why.{Why}
use Rattle.iso_history.specs.declared.entry.Why.TheVariants.{Escalation}
use Rattle.iso_modes.specs.declared.Mode.{Mode}
use Rattle.iso_types.specs.declared.value.Conn.{Conn}
use Rattle.iso_types.specs.declared.value.Name.{Name}
use Rattle.iso_types.specs.declared.value.Name.TheVariants.{Table}
use Rattle.iso_types.specs.declared.value.TableId.{TableId}

-- an escalation that queued awaits its Claim
abbrev pub last_of_lock : Why → Got → Name → Mode → Last
last_of_lock Escalation (Got.Queued m) (Table t) mode = Awaits t mode
last_of_lock _ _ _ _ = Other

-- what an own entry leaves to be asked of it
abbrev pub last_of : Act → Last
last_of (Lock n mode term why got) = last_of_lock why got n mode
last_of (Look t r want Got.Granted) = Looked t r
last_of Claim = Claimed
last_of _ = Other

-- the last own entry of each connection
abbrev pub last_by : (Conn → Last) → Who → Act → Conn → Last
last_by f Dispatcher a = f
last_by f (Agent c) a = at_conn f c (last_of a)

-- next after an own escalation Lock was granted or claimed comes a Collapse with its table and mode
abbrev pub due_of_lock : Why → Got → Name → Mode → Option (TableId × Mode)
due_of_lock Escalation Got.Granted (Table t) mode = Some (t, mode)
due_of_lock _ _ _ _ = None

-- a Claim of an awaited escalation makes its Collapse due
abbrev pub due_of_claim : Last → Option (TableId × Mode)
due_of_claim (Awaits t mode) = Some (t, mode)
due_of_claim _ = None

-- the Collapse that an entry makes due, or none
abbrev pub due_of : Act → Last → Option (TableId × Mode)
due_of (Lock n mode term why got) last = due_of_lock why got n mode
due_of Claim last = due_of_claim last
due_of _ last = None

-- the Collapse that is due of each connection
abbrev pub due_by : World → Who → Act → Conn → Option (TableId × Mode)
due_by w Dispatcher a = w.due
due_by w (Agent c) a = at_conn w.due c (due_of a (w.last c))
