-- The row that the assignments of an UPDATE make of a row, or their first fault.
-- // Db2 LUW documentation, SQL reference: 'Assignments and comparisons', 'UPDATE statement'
use Rattle.std.specs.List.{enumerate_from, list_all, list_any}
use Rattle.std.specs.Option.{option_map_or, option_or}
use Rattle.std.specs.Prelude.{◌≡◌, ℕ, Bool, true, false, not, ◌&&◌, ◌==◌, List, [], ◌∷◌, ℤ, ◌+ℤ◌, map, zip, if◌then◌else◌, slice_get, Some, None, Ok, Err, Option, Result}
use Rattle.iso_predicate.specs.Truth.{value_at}
use Rattle.iso_predicate.specs.declared.assignments.AssignFault.{AssignFault}
use Rattle.iso_sql.specs.Sound.{is_number, is_sound_assignment}
use Rattle.iso_sql.specs.declared.statement.Assignment.{Assignment}
use Rattle.iso_sql.specs.declared.statement.Expr.{Expr}
use Rattle.iso_types.specs.Head.{all_fit, fits_kind, is_null}
use Rattle.iso_types.specs.declared.head.Column.{Column}
use Rattle.iso_types.specs.declared.value.Value.{Value}
use Rattle.iso_types.specs.declared.value.Value.TheVariants.{Int}

-- why assignments fail: -802 for a value that does not fit its column, -407 for a NULL where none may stand
pub data Fault : Type 0 where
  Overflow : Fault
  NullFault : Fault

-- a value and a number; NULL plus a number is NULL // Db2 LUW, 'Expressions'
abbrev pub plus : Value → ℤ → Value
plus (Int m) n = Int (m +ℤ n)
plus v n = v

-- what an expression gives on a row
abbrev pub evaluated : List Value → Expr → Value
evaluated row (Expr.Literal v) = v
evaluated row (Expr.Column k) = value_at row k
evaluated row (Expr.Sum k n) = plus (value_at row k) n

-- the fault of a value in a column, if it has one
abbrev pub fault_in : Column → Value → Option Fault
fault_in column v =
    if not (fits_kind column.kind v) then Some Overflow else
    if column.required && is_null v then Some NullFault else None

-- the fault of one assignment, if it has one
abbrev pub fault_of : List Column → List Value → Assignment → Option Fault
fault_of columns row a = option_map_or (λ column. fault_in column (evaluated row a.expr)) (slice_get columns a.column) None

-- the fault of the first assignment that has one
abbrev pub first_fault : List Column → List Value → List Assignment → Option Fault
first_fault columns row [] = None
first_fault columns row (a ∷ rest) = option_or (fault_of columns row a) (first_fault columns row rest)

-- what the assignments, evaluated on the row `old`, make of the value of the k-th column: the last that names the column counts
abbrev pub new_value : List Value → List Assignment → ℕ → Value → Value
new_value old [] k v = v
new_value old (a ∷ rest) k v = new_value old rest k (if a.column == k then evaluated old a.expr else v)

-- the same for each value of a row
abbrev pub replaced : List Value → List Assignment → List Value → List Value
replaced old sets row = map (λ p. new_value old sets p.0 p.1) (enumerate_from 0 row)

-- the row, or the fault in its place
abbrev pub unless : Option Fault → List Value → Result (List Value) Fault
unless None row = Ok row
unless (Some fault) row = Err fault

-- the assigned row, every expression evaluated on the old one, or the first fault from left to right
abbrev pub assigned : List Column → List Assignment → List Value → Result (List Value) Fault
assigned columns sets row = unless (first_fault columns row sets) (replaced row sets row)

-- what a call may answer: this, or want of memory
abbrev pub Answers : Result (List Value) Fault → Result (List Value) AssignFault → Type 0
Answers told (Ok row) = told ≡ Ok row
Answers told (Err AssignFault.Overflow) = told ≡ Err Overflow
Answers told (Err AssignFault.NullFault) = told ≡ Err NullFault
Answers told (Err AssignFault.Memory) = Unit {0}

-- each assignment names columns of the table, and keeps to its types
abbrev pub are_sound : List Column → List Assignment → Bool
are_sound columns sets = list_all (is_sound_assignment columns) sets

-- a column that is NOT NULL has a NULL
abbrev pub has_null : List Column → List Value → Bool
has_null columns row = list_any (λ p. p.0.required && is_null p.1) (zip columns row)

-- the expression reads a column
abbrev pub reads_column : Expr → Bool
reads_column (Expr.Literal v) = false
reads_column _ = true

-- a sound assignment to a row that fits overflows only where it sets an integer column from a column
abbrev pub OverflowIsOfNumbers : List Column → Assignment → List Value → Type 0
OverflowIsOfNumbers columns a row =
    is_sound_assignment columns a ≡ true → all_fit columns row ≡ true → fault_of columns row a ≡ Some Overflow
    → (reads_column a.expr ≡ true) × (option_map_or (λ column. is_number column.kind) (slice_get columns a.column) false ≡ true)
