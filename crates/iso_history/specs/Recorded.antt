-- What the record of a pending version says.
use Rattle.std.specs.Prelude.{◌≡◌, ◌⊎◌, ℕ, ◌<◌, true, List, [], ◌∷◌, length, if◌then◌else◌, slice_index_or, IfSome, IsSome, Some, None, Option}
use Rattle.iso_history.specs.Changes.{change_at}
use Rattle.iso_history.specs.Piles.{OneUnit}
use Rattle.iso_history.specs.Records.{note_of}
use Rattle.iso_history.specs.Versions.{Change as Effect, head_record, present, slots, taken_off, versions}
use Rattle.iso_history.specs.Versions.Change.{Adds, Keeps, Settles, Takes, Writes}
use Rattle.iso_history.specs.World.{Note, Version, World}
use Rattle.iso_record.specs.Undone.{columns_in, restored}
use Rattle.iso_record.specs.declared.record.Change.{Change}
use Rattle.iso_record.specs.declared.record.Change.TheVariants.{Delete, Insert, Undone, Update}
use Rattle.iso_types.specs.declared.value.Rid.{Rid}
use Rattle.iso_types.specs.declared.value.TableId.{TableId}
use Rattle.iso_types.specs.declared.value.Value.{Value}

-- the versions of a slot
abbrev pub versions_in : List (List (List Version)) → TableId → Rid → List Version
versions_in tables t r = slice_index_or (slice_index_or tables t.0 []) r.0 []

-- the row that a slot has to keep: the present row, or that of the version under a pending Absent
abbrev pub kept : List Version → Option (List Value)
kept [] = None
kept (v ∷ vs) = elim v.row [ Some row ↦ Some row | None ↦ if v.pending then present vs else None ]

-- the change made this content of what the versions below it show, and undoing it gives that back
abbrev pub LeadsTo : Change → List Version → Option (List Value) → Type 0
LeadsTo Insert below row = IsSome row × (below ≡ [])
LeadsTo (Update olds) below row =
    (new : List Value) × (row ≡ Some new) × (present below ≡ Some (restored olds new)) × (columns_in (length new) (Update olds) ≡ true)
LeadsTo Delete below row = (row ≡ None) × IsSome (present below)
LeadsTo (Undone n) below row = ⊥

-- the version's record is of its unit, and has what is below it
pub record IsRecorded (notes : List Note) (changes : List Change) (v : Version) (below : List Version) : Type 0 where
  pub within : v.number < length notes
  pub unit : (note_of notes v.number).unit ≡ v.unit
  pub prev_row : (note_of notes v.number).prev_row ≡ head_record below
  pub change : LeadsTo (change_at changes v.number) below v.row

-- each pending version has its record
abbrev pub Recorded : List Note → List Change → List Version → Type 0
Recorded notes changes [] = Unit {0}
Recorded notes changes (v ∷ vs) = (v.pending ≡ true → IsRecorded notes changes v vs) × Recorded notes changes vs

-- as many changes as records, and each pending version of each slot has its record
pub record AllRecorded (notes : List Note) (changes : List Change) (tables : List (List (List Version))) : Type 0 where
  pub same : length changes ≡ length notes
  pub each : (t : TableId) (r : Rid) → Recorded notes changes (versions_in tables t r)

-- what is under the last version
abbrev pub below : List Version → List Version
below [] = []
below (v ∷ vs) = vs

-- the undone record is that of the slot's last version, or of none of its versions
abbrev pub TakesTop : ℕ → List Version → Type 0
TakesTop n vs = (taken_off n vs ≡ vs) ⊎ (taken_off n vs ≡ below vs)

-- what keeps the records of versions: a write goes to a slot that shows a row as wide as the new one, an undo takes last
-- versions off, and what is settled is all one unit's
abbrev pub ChangeFits : World → Effect → Type 0
ChangeFits w Keeps = Unit {0}
ChangeFits w (Adds t row) = t.0 < length w.tables
ChangeFits w (Writes t r row) =
    (t.0 < length w.tables) × (r.0 < slots w t) × (old : List Value) × (present (versions w t r) ≡ Some old) × IfSome row (λ new. length new ≡ length old)
ChangeFits w (Takes n) = (t : TableId) (r : Rid) → TakesTop n (versions w t r)
ChangeFits w Settles = (t : TableId) (r : Rid) → OneUnit (versions w t r)
