-- The log as a list of records.
use Rattle.std.specs.Prelude.{ℕ, ◌+◌, ◌-◌, Bool, List, length, nat_lt, nat_le}
use Rattle.iso_record.specs.declared.record.Record.{Record}

-- its records, how many more it has room for, WINDOW and LOGMAX
pub record Journal : Type 0 where
  pub records : List Record
  pub spare : ℕ
  pub window : ℕ
  pub logmax : ℕ

-- a change is past the log: with its record, and one to undo it, the records from the oldest on and the debt pass LOGMAX
abbrev pub is_past : ℕ → ℕ → ℕ → ℕ → Bool
is_past logmax count oldest debt = nat_lt logmax ((count + 1 - oldest) + debt + 1)

-- the record is one of the last WINDOW records
abbrev pub is_within_window : Journal → ℕ → Bool
is_within_window j k = nat_le (length j.records) (k + j.window)
