-- The passes of a run: before its first turn, and after its last.
use Rattle.std.specs.Prelude.{◌≡◌, ℕ, ◌≤◌, true, List, [], length, Some}
use lib.ListN.{get_elem?}
use mathlib.Core.Option.{some}
use Rattle.atomic_table.specs.Seated.{TableId}
use Rattle.iso_agent.specs.Passes.{IsPassOf}
use Rattle.iso_latch.specs.Seen.{has}
use Rattle.iso_latch.specs.Told.{head_of, seen_of, voices_of}
use Rattle.iso_latch.specs.declared.pass.Pass.{Pass}
use Rattle.iso_script.specs.declared.script.Script.{Script}
use Rattle.iso_state.specs.declared.state.State.{State}
use Rattle.iso_threads.specs.Kept.{AllKeep, HasFinished}

-- the pass is of this latch, under the script's head, and has the dispatcher's voice
pub record IsHostPass (id : TableId) (script : Script) (p : Pass State) : Type 0 where
  pub of : p.seat.table_id ≡ id
  pub head : head_of p.seat ≡ Some script.head
  pub voice : has 0 (voices_of p.seat) ≡ true

-- each pass has just the voice of the connection at its place, and has seen nothing
abbrev pub AllFresh : TableId → Script → List (Pass State) → Type 0
AllFresh id script ps = (k : ℕ) (p : Pass State) → get_elem? ps k ≡ some p
    → IsPassOf id script (record { 0 = k }) p × (seen_of p.seat ≡ [])

-- before the first turn: the dispatcher's pass, and one for each connection
pub record AreReady (id : TableId) (script : Script) (p : Pass State) (ps : List (Pass State)) : Type 0 where
  pub host : IsHostPass id script p
  pub fresh : seen_of p.seat ≡ []
  pub all : AllFresh id script ps
  pub few : length ps ≤ 32
  pub count : length ps ≡ length script.head.conns

-- after the last: the pass has the voices of the dispatcher and of n connections, each of which has kept to its part, and the
-- history has finished
pub record HasMet (id : TableId) (script : Script) (n : ℕ) (p : Pass State) : Type 0 where
  pub host : IsHostPass id script p
  pub keep : AllKeep script (voices_of p.seat) (seen_of p.seat)
  pub all : (x : ℕ) → x ≤ n → has x (voices_of p.seat) ≡ true
  pub finished : HasFinished script (seen_of p.seat)
