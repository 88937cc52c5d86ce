-- Passes of agents.
use Rattle.std.specs.Prelude.{◌≡◌, ℕ, ◌+◌, [], ◌∷◌, Some}
use Rattle.atomic_table.specs.Seated.{TableId}
use Rattle.iso_latch.specs.Told.{head_of, voices_of}
use Rattle.iso_latch.specs.declared.pass.Pass.{Pass}
use Rattle.iso_script.specs.declared.script.Script.{Script}
use Rattle.iso_state.specs.declared.state.State.{State}
use Rattle.iso_types.specs.declared.value.Conn.{Conn}

-- the pass is of this latch, under the script's head, and has just the voice of the connection
pub record IsPassOf (id : TableId) (script : Script) (c : Conn) (p : Pass State) : Type 0 where
  pub of : p.seat.table_id ≡ id
  pub head : head_of p.seat ≡ Some script.head
  pub voice : voices_of p.seat ≡ (c.0 + 1) ∷ []
