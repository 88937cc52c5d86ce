-- What a connection's own entries leave to be asked of them, as it is read from the history.
use Rattle.std.specs.Prelude.{◌≡◌, Option, Some, None}
use Rattle.iso_history.specs.Lasts.{due_of_claim}
use Rattle.iso_history.specs.World.{Last, World}
use Rattle.iso_history.specs.World.Last.{Looked}
use Rattle.iso_types.specs.declared.value.Conn.{Conn}
use Rattle.iso_types.specs.declared.value.Rid.{Rid}
use Rattle.iso_types.specs.declared.value.TableId.{TableId}
use Rattle.iso_trials.specs.declared.owns.Own.{Own}

-- the slot of a last look that was granted
abbrev pub looked_of : Last → Option (TableId × Rid)
looked_of (Looked t r) = Some (t, r)
looked_of _ = None

-- it is known of the connection's last own entry, and of the Collapse that is due
pub record IsOwn (w : World) (c : Conn) (o : Own) : Type 0 where
  pub looked : o.looked ≡ looked_of (w.last c)
  pub awaits : o.awaits ≡ due_of_claim (w.last c)
  pub due : o.due ≡ w.due c
