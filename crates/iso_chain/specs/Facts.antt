-- The facts of worlds on which slots, log and units rest.
use Rattle.std.specs.Prelude.{◌≡◌, ◌<◌, ℕ, List, length, IfSome, Some, Option}
use Rattle.iso_history.specs.Linked.{AllLinked, AllOwned}
use Rattle.iso_history.specs.Piles.{AllOneUnit, AllPiled}
use Rattle.iso_history.specs.Recorded.{AllRecorded}
use Rattle.iso_history.specs.Records.{last_left, note_of}
use Rattle.iso_history.specs.Versions.{head_record, present as shown_by, slots, versions}
use Rattle.iso_history.specs.World.{World}
use Rattle.iso_types.specs.declared.value.Conn.{Conn}
use Rattle.iso_types.specs.declared.value.Rid.{Rid}
use Rattle.iso_types.specs.declared.value.TableId.{TableId}
use Rattle.iso_types.specs.declared.value.Value.{Value}

-- open units differ
abbrev pub UnitsDiffer : (Conn → Option ℕ) → Type 0
UnitsDiffer unit = (c d : Conn) (u : ℕ) → unit c ≡ Some u → unit d ≡ Some u → c.0 ≡ d.0

-- versions and records belong together, each record that is left names the one below it, and open units differ
pub record AreKept (w : World) : Type 0 where
  pub piled : AllPiled w
  pub one : AllOneUnit w
  pub linked : AllLinked w.records
  pub owned : AllOwned w.records
  pub recorded : AllRecorded w.records w.changes w.tables
  pub differ : UnitsDiffer w.unit

-- the record is the last that the connection's unit has left, and its slot's last version is of it
pub record MayUndo (w : World) (c : Conn) (n : ℕ) : Type 0 where
  pub unit : ℕ
  pub open_unit : w.unit c ≡ Some unit
  pub last : last_left w unit ≡ Some n
  pub top : head_record (versions w (note_of w.records n).table (note_of w.records n).rid) ≡ Some n

-- the connection has a unit, and the slot shows a row as wide as the new one
pub record MayWrite (w : World) (c : Conn) (t : TableId) (r : Rid) (row : Option (List Value)) : Type 0 where
  pub unit : ℕ
  pub open_unit : w.unit c ≡ Some unit
  pub table : t.0 < length w.tables
  pub rid : r.0 < slots w t
  pub old : List Value
  pub shows : shown_by (versions w t r) ≡ Some old
  pub wide : IfSome row (λ new. length new ≡ length old)

-- the connection has a unit, and the table is there
pub record MayAdd (w : World) (c : Conn) (t : TableId) : Type 0 where
  pub unit : ℕ
  pub open_unit : w.unit c ≡ Some unit
  pub table : t.0 < length w.tables
