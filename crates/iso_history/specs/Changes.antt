-- What the log keeps of each change.
use Rattle.std.specs.Prelude.{ℕ, List, [], ◌∷◌, ◌++◌, slice_index_or, Some, None, Option, unwrap_or}
use Rattle.iso_history.specs.Versions.{Change as Effect, present, versions}
use Rattle.iso_history.specs.Versions.Change.{Adds, Keeps, Settles, Takes, Writes}
use Rattle.iso_history.specs.World.{World}
use Rattle.iso_record.specs.Olds.{olds}
use Rattle.iso_record.specs.declared.record.Change.{Change}
use Rattle.iso_record.specs.declared.record.Change.TheVariants.{Delete, Insert, Undone, Update}
use Rattle.iso_types.specs.declared.value.Value.{Value}

-- what stands for the change of a record that is not there
abbrev pub no_change : Change
no_change = Undone 0

-- what record n did
abbrev pub change_at : List Change → ℕ → Change
change_at changes n = slice_index_or changes n no_change

-- a row is written, or Absent
abbrev pub change_to : Option (List Value) → Option (List Value) → Change
change_to old None = Delete
change_to old (Some new) = Update (olds (unwrap_or old []) new)

-- each change and each undo
abbrev pub changes_by : World → Effect → List Change
changes_by w Keeps = w.changes
changes_by w (Adds t row) = w.changes ++ Insert ∷ []
changes_by w (Writes t r row) = w.changes ++ change_to (present (versions w t r)) row ∷ []
changes_by w (Takes n) = w.changes ++ Undone n ∷ []
changes_by w Settles = w.changes
