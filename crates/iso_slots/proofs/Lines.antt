-- A unit's own chain that is walked from its last record.
use Rattle.std.proofs.Common.{◌≡◌, ◌<◌, ℕ, List, [], ◌∷◌, length, Some, None, Option, subst}
use Rattle.std.specs.Prelude.{IfSome}
use Rattle.iso_record.specs.declared.record.Record.{Record}
use Rattle.iso_table.specs.declared.slot.Slot.{Slot}
use Rattle.iso_chain.specs.Lines.{HasLine}
use Rattle.iso_chain.specs.Logs.{record_at}
use Rattle.iso_chain.specs.Slots.{slots_of}

-- what is known of the record where the walk stands: the next one is lower, its slot is there, and the line goes on from the next one
pub record GoesOn (log : List Record) (tables : List (List Slot)) (k : ℕ) (n : Record) : Type 0 where
  pub lower : IfSome n.prev_unit (λ j. j < k)
  pub table : n.table.0 < length tables
  pub rid : n.rid.0 < length (slots_of tables n.table)
  pub rest : HasLine log tables n.prev_unit

-- one record more
longer : (log : List Record) (tables : List (List Slot)) (at : Option ℕ) (k : ℕ) → at ≡ Some k → k < length log → GoesOn log tables k (record_at log k)
    → HasLine log tables at
longer log tables at k is within goes =
    (k ∷ goes.rest.0, (is, within, goes.lower, goes.rest.1), (goes.table, goes.rid, goes.rest.2))

-- the same of a record that was read
pub link : (log : List Record) (tables : List (List Slot)) (at : Option ℕ) (k : ℕ) (n : Record) → at ≡ Some k → k < length log → n ≡ record_at log k
    → IfSome n.prev_unit (λ j. j < k) → n.table.0 < length tables → n.rid.0 < length (slots_of tables n.table) → HasLine log tables n.prev_unit
    → HasLine log tables at
link log tables at k n is within same lower table rid rest =
    longer log tables at k is within (subst (GoesOn log tables k) same (record { lower = lower; table = table; rid = rid; rest = rest }))
