-- When slots, log and units stand for a world.
use Rattle.std.specs.Prelude.{◌≡◌, List}
use Rattle.iso_history.specs.World.{World}
use Rattle.iso_record.specs.declared.record.Record.{Record}
use Rattle.iso_table.specs.declared.slot.Slot.{Slot}
use Rattle.iso_uow.specs.Book.{Book}
use Rattle.iso_chain.specs.Logs.{LogStands}
use Rattle.iso_chain.specs.Slots.{SlotsStand}
use Rattle.iso_chain.specs.Works.{WorksStand}

-- the slots of each table, the log's records, and the open units
pub record Chained : Type 0 where
  pub tables : List (List Slot)
  pub log : List Record
  pub book : Book

-- they are those of this world
pub record AreChained (w : World) (p : Chained) : Type 0 where
  pub slots : SlotsStand p.tables w.tables
  pub log : LogStands p.log w.records w.changes
  pub works : WorksStand p.book.works w.records w.unit w.marks
  pub begun : p.book.begun ≡ w.begun
