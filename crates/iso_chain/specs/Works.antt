-- When the open units stand for those of a world.
use Rattle.std.specs.Option.{option_map}
use Rattle.std.specs.Prelude.{◌≡◌, ℕ, ◌<◌, List, length, map, slice_get, Option}
use Rattle.iso_history.specs.Linked.{first_made}
use Rattle.iso_history.specs.Records.{left}
use Rattle.iso_history.specs.World.{MarkAt, Note}
use Rattle.iso_types.specs.declared.value.Conn.{Conn}
use Rattle.iso_uow.specs.Book.{work_at}
use Rattle.iso_uow.specs.declared.marks.Savepoint.{Savepoint}
use Rattle.iso_uow.specs.declared.units.Work.{Work}

-- a savepoint as it is kept
abbrev pub savepoint_of : MarkAt → Savepoint
savepoint_of k = record { name = k.name; at = k.at }

-- what is kept of an open unit
abbrev pub work_of_unit : List Note → List MarkAt → ℕ → Work
work_of_unit notes marks u = record {
  number = u;
  first = first_made notes u;
  last = slice_get (left notes u) 0;
  count = length (left notes u);
  marks = map savepoint_of marks;
}

-- each connection has its unit, or none
abbrev pub WorksStand : List (Option Work) → List Note → (Conn → Option ℕ) → (Conn → List MarkAt) → Type 0
WorksStand works notes unit marks =
    (c : Conn) → c.0 < length works → work_at works c ≡ option_map (work_of_unit notes (marks c)) (unit c)
