-- What undos, savepoints and the ends of units answer, and what they write.
use Rattle.std.specs.Option.{option_map_or}
use Rattle.std.specs.Prelude.{ℕ, Bool, false, not, List, Some, None, length, nat_lt}
use Rattle.iso_chain.specs.Stands.{Chained}
use Rattle.iso_chain.specs.Writes.{own_work}
use Rattle.iso_history.specs.Outcomes.{last_record}
use Rattle.iso_history.specs.World.{World}
use Rattle.iso_types.specs.declared.value.Conn.{Conn}
use Rattle.iso_uow.specs.Book.{with_marks, with_work}
use Rattle.iso_uow.specs.Savepoints.{set_again}
use Rattle.iso_uow.specs.declared.marks.Savepoint.{Savepoint}

-- the unit has a record at or above the floor that is not undone
abbrev pub has_left : World → Conn → ℕ → Bool
has_left w c floor = option_map_or (λ n. not (nat_lt n floor)) (last_record w c) false

-- other savepoints of the connection's unit
abbrev pub with_savepoints : Chained → Conn → List Savepoint → Chained
with_savepoints k c marks =
    record k { book = record k.book { works = with_work k.book.works c (Some (with_marks (own_work k c) marks)) } }

-- a savepoint of this name at the end of the log
abbrev pub with_mark : Chained → Conn → List ℕ → Chained
with_mark k c name = with_savepoints k c (set_again (own_work k c).marks name (length k.log))

-- without the connection's unit
abbrev pub without_unit : Chained → Conn → Chained
without_unit k c = record k { book = record k.book { works = with_work k.book.works c None } }
