-- What the undo of a record asks.
use Rattle.std.specs.Prelude.{◌≡◌, ℕ, ◌<◌, ◌≤◌, true, length, IsSome}
use Rattle.iso_record.specs.Undone.{columns_in}
use Rattle.iso_types.specs.declared.value.Conn.{Conn}
use Rattle.iso_uow.specs.Book.{own, work_at}
use Rattle.iso_chain.specs.Logs.{record_at}
use Rattle.iso_chain.specs.Slots.{slot_in, slots_of}
use Rattle.iso_chain.specs.Stands.{Chained}

-- what `take_back` asks
pub record UndoAsks (p : Chained) (c : Conn) (n : ℕ) : Type 0 where
  pub has_unit : IsSome (work_at p.book.works c)
  pub some : 1 ≤ (own p.book.works c).count
  pub number : n < length p.log
  pub table : (record_at p.log n).table.0 < length p.tables
  pub rid : (record_at p.log n).rid.0 < length (slots_of p.tables (record_at p.log n).table)
  pub columns : columns_in (length (slot_in p.tables (record_at p.log n).table (record_at p.log n).rid).row) (record_at p.log n).change ≡ true
