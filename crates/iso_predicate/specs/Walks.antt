-- What the walks of the code over assignments and indexes come to.
use Rattle.std.specs.Prelude.{◌≡◌, ℕ, Bool, true, nat_lt, if◌then◌else◌, List, Some, None, Err, Ok, Option, Result}
use Rattle.iso_predicate.specs.Assigned.{Fault, first_fault, replaced, unless}
use Rattle.iso_predicate.specs.Assigned.Fault.{NullFault, Overflow}
use Rattle.iso_predicate.specs.Plan.{bounds_of}
use Rattle.iso_predicate.specs.declared.assignments.AssignFault.{AssignFault}
use Rattle.iso_sql.specs.declared.statement.Assignment.{Assignment}
use Rattle.iso_sql.specs.declared.statement.Condition.{Condition}
use Rattle.iso_sql.specs.declared.statement.Expr.{Expr}
use Rattle.iso_types.specs.Ids.{table_eq}
use Rattle.iso_types.specs.declared.head.Column.{Column}
use Rattle.iso_types.specs.declared.head.IndexDef.{IndexDef}
use Rattle.iso_types.specs.declared.head.Range.{Range}
use Rattle.iso_types.specs.declared.value.TableId.{TableId}
use Rattle.iso_types.specs.declared.value.Value.{Value}

-- the assignments, evaluated on the row `old`, go over another row
abbrev pub set_all : List Column → List Assignment → List Value → List Value → Result (List Value) Fault
set_all columns sets old row = unless (first_fault columns old sets) (replaced old sets row)

-- what one assignment may answer: its value, or its fault
abbrev pub GivesValue : Option Fault → Value → Result Value AssignFault → Type 0
GivesValue fault v (Ok w) = (fault ≡ None) × (w ≡ v)
GivesValue fault v (Err AssignFault.Overflow) = fault ≡ Some Overflow
GivesValue fault v (Err AssignFault.NullFault) = fault ≡ Some NullFault
GivesValue fault v (Err AssignFault.Memory) = ⊥

-- the column that the expression names is in a row of this width
abbrev pub names_within : ℕ → Expr → Bool
names_within width (Expr.Literal v) = true
names_within width (Expr.Column k) = nat_lt k width
names_within width (Expr.Sum k n) = nat_lt k width

-- the range of an index's column, where the index is the table's
abbrev pub bounds_on : TableId → Condition → IndexDef → Option Range
bounds_on t cond d = if table_eq d.table t then bounds_of d.column cond else None
