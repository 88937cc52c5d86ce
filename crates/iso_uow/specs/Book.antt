-- The open units.
use Rattle.std.specs.Option.{option_map_or}
use Rattle.std.specs.Prelude.{ℕ, ◌+◌, ◌-◌, List, [], ◌∷◌, slice_index_or, slice_set, Some, None, Option, sum_by, unwrap_or, min}
use Rattle.iso_types.specs.declared.value.Conn.{Conn}
use Rattle.iso_uow.specs.Savepoints.{floor_of}
use Rattle.iso_uow.specs.declared.marks.Savepoint.{Savepoint}
use Rattle.iso_uow.specs.declared.units.Work.{Work}

-- the number of units begun, and the open unit of each connection
pub record Book : Type 0 where
  pub begun : ℕ
  pub works : List (Option Work)

-- the open unit of a connection
abbrev pub work_at : List (Option Work) → Conn → Option Work
work_at works c = slice_index_or works c.0 None

-- what stands for a unit that is not open
abbrev pub no_work : Work
no_work = record { number = 0; first = None; last = None; count = 0; marks = [] }

-- a unit that has just begun
abbrev pub new_work : ℕ → Work
new_work number = record { number = number; first = None; last = None; count = 0; marks = [] }

-- with one more record
abbrev pub with_added : Work → ℕ → Work
with_added work n = record work { first = Some (unwrap_or work.first n); last = Some n; count = work.count + 1 }

-- with one record fewer
abbrev pub with_undone : Work → Option ℕ → Work
with_undone work last = record work { last = last; count = work.count - 1 }

-- with other savepoints
abbrev pub with_marks : Work → List Savepoint → Work
with_marks work marks = record work { marks = marks }

-- the connection's unit, or what stands for it
abbrev pub own : List (Option Work) → Conn → Work
own works c = unwrap_or (work_at works c) no_work

-- the last record that is not undone
abbrev pub last_of : Option Work → Option ℕ
last_of None = None
last_of (Some w) = w.last

-- the number of records at a savepoint of the unit
abbrev pub floor_at : Option Work → List ℕ → Option ℕ
floor_at None name = None
floor_at (Some w) name = floor_of w.marks name

-- another unit stands for the connection
abbrev pub with_work : List (Option Work) → Conn → Option Work → List (Option Work)
with_work works c work = slice_set works c.0 work

-- the number of records that a connection's unit has to undo
abbrev pub count_of : Option Work → ℕ
count_of o = option_map_or (λ w. w.count) o 0

-- the number of records of open units that are not undone
abbrev pub debt_of : List (Option Work) → ℕ
debt_of works = sum_by (λ o. option_map_or (λ w. w.count) o 0) works

-- one more record of the unit, where it is its first
abbrev pub first_added : Option Work → ℕ → Option ℕ
first_added None n = None
first_added (Some w) n = elim w.first [ None ↦ Some n | Some k ↦ None ]

-- the lesser of two, where there are both
abbrev pub lesser : Option ℕ → Option ℕ → Option ℕ
lesser None b = b
lesser (Some a) None = Some a
lesser (Some a) (Some b) = Some (min a b)

-- the least first record of an open unit
abbrev pub oldest_of : List (Option Work) → Option ℕ
oldest_of [] = None
oldest_of (o ∷ os) = lesser (elim o [ None ↦ None | Some w ↦ w.first ]) (oldest_of os)
