-- Facts of phases and of the log that the history's limit rests on, on the world of a legal history.
use Rattle.std.specs.Prelude.{◌≡◌, ◌≤◌, ◌<◌, ◌⊎◌, ℕ, true, List, [], is_some}
use Rattle.std.specs.List.{AllByRecursion}
use Rattle.iso_history.specs.Phases.{phase}
use Rattle.iso_history.specs.Records.{left}
use Rattle.iso_history.specs.World.{Note, World}
use Rattle.iso_queue.specs.Queues.{is_waiting}
use Rattle.iso_types.specs.declared.desk.Phase.{Phase}
use Rattle.iso_types.specs.declared.value.Conn.{Conn}

-- who stands in a queue is in phase waiting, with an open statement; an open statement has a unit
pub record CourseAt (w : World) (c : Conn) : Type 0 where
  pub waits : is_waiting w.waits c ≡ true → (phase w c ≡ Phase.Waiting) × (is_some (w.line c) ≡ true)
  pub lines : is_some (w.line c) ≡ true → is_some (w.unit c) ≡ true

-- so it is with each connection, and the dispatcher's own stop is a stop
pub record OnCourse (w : World) : Type 0 where
  pub each : (c : Conn) → CourseAt w c
  pub halts : w.pace.halted ≡ true → w.pace.stopped ≡ true

-- each record was made by a unit that has begun
unfoldable pub RecordsBegun : ℕ → List Note → Type 0
RecordsBegun begun notes = AllByRecursion (λ n. (1 ≤ n.unit) × (n.unit ≤ begun)) notes

-- so a unit that no connection has had has nothing left
unfoldable pub NoneLeft : ℕ → List Note → Type 0
NoneLeft begun notes = (u : ℕ) → (u ≡ 0) ⊎ (begun < u) → left notes u ≡ []
