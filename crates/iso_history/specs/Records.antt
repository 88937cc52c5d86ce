-- The records of the log, what of them is not undone, and the log's limit.
use Rattle.std.specs.List.{position_or_len}
use Rattle.std.specs.Option.{option_map_or}
use Rattle.std.specs.Prelude.{ℕ, ◌+◌, ◌-◌, Bool, not, List, [], ◌∷◌, ◌++◌, length, if◌then◌else◌, nat_lt, nat_le, ◌==◌, slice_get, slice_index_or, Some, None, sum_by, filter, Option}
use Rattle.iso_history.specs.Units.{is_open}
use Rattle.iso_history.specs.Versions.{Change, head_record, next_rid, versions}
use Rattle.iso_history.specs.Versions.Change.{Adds, Keeps, Settles, Takes, Writes}
use Rattle.iso_history.specs.World.{Note, World}
use Rattle.iso_types.specs.Head.{conns}
use Rattle.iso_types.specs.declared.head.Head.{Head}
use Rattle.iso_types.specs.declared.value.Conn.{Conn}
use Rattle.iso_types.specs.declared.value.Rid.{Rid}
use Rattle.iso_types.specs.declared.value.TableId.{TableId}

-- what stands for a record that is not there
abbrev pub no_note : Note
no_note =
    record { unit = 0; table = record { 0 = 0 }; rid = record { 0 = 0 }; undoes = None; prev_row = None; prev_unit = None }

-- record n
abbrev pub note_of : List Note → ℕ → Note
note_of notes n = slice_index_or notes n no_note

-- the changes of a unit that are not undone, newest first
abbrev pub left_by : ℕ → ℕ → List ℕ → Note → List ℕ
left_by u k acc n =
    if n.unit == u then (elim n.undoes [ None ↦ k ∷ acc | Some m ↦ filter (λ x. not (x == m)) acc ]) else acc

-- the same, from record k on
abbrev pub left_from : ℕ → ℕ → List ℕ → List Note → List ℕ
left_from u k acc [] = acc
left_from u k acc (n ∷ ns) = left_from u (k + 1) (left_by u k acc n) ns

-- the changes of the unit that are not undone, newest first
abbrev pub left : List Note → ℕ → List ℕ
left notes u = left_from u 0 [] notes

-- what the connection's unit has left to undo
abbrev pub left_of : World → Conn → List ℕ
left_of w c = option_map_or (left w.records) (w.unit c) []

-- the number of records
abbrev pub count : World → ℕ
count w = length w.records

-- the greatest record of the unit that is not undone
abbrev pub last_left : World → ℕ → Option ℕ
last_left w u = slice_get (left w.records u) 0

-- the record is in the window
abbrev pub is_in_window : Head → World → ℕ → Bool
is_in_window head w k = nat_le (count w) (k + head.config.window)

-- the number of changes of open units that are not undone
abbrev pub debt : Head → World → ℕ
debt head w = sum_by (λ c. length (left_of w c)) (conns head)

-- the least number of a record made by an open unit, and `count` where there is none
abbrev pub oldest : Head → World → ℕ
oldest head w = position_or_len (λ n. is_open head w n.unit) w.records

-- a change is past the log
abbrev pub is_past_log : Head → World → Bool
is_past_log head w = nat_lt head.config.logmax ((count w + 1 - oldest head w) + debt head w + 1)

-- the record of a change
abbrev pub change_note : World → ℕ → TableId → Rid → Option ℕ → Note
change_note w u t r prev_row =
    record { unit = u; table = t; rid = r; undoes = None; prev_row = prev_row; prev_unit = last_left w u }

-- a change and an undo make one record each
abbrev pub records_by : World → ℕ → Change → List Note
records_by w u Keeps = w.records
records_by w u (Adds t row) = w.records ++ change_note w u t (next_rid w t) None ∷ []
records_by w u (Writes t r row) = w.records ++ change_note w u t r (head_record (versions w t r)) ∷ []
records_by w u (Takes n) = w.records ++ record (note_of w.records n) { unit = u; undoes = Some n } ∷ []
records_by w u Settles = w.records
