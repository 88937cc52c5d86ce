-- How the records that are left and the pending versions belong together.
use Rattle.std.specs.List.{list_any}
use Rattle.std.specs.Prelude.{◌≡◌, ◌≤◌, ◌<◌, ℕ, Bool, true, false, ◌&&◌, List, [], ◌∷◌, ◌==◌, Some, length}
use Rattle.iso_history.specs.Records.{left, note_of}
use Rattle.iso_history.specs.Versions.{versions}
use Rattle.iso_history.specs.World.{Note, Version, World}
use Rattle.iso_types.specs.declared.value.Conn.{Conn}
use Rattle.iso_types.specs.declared.value.Rid.{Rid}
use Rattle.iso_types.specs.declared.value.TableId.{TableId}

-- the number is in the list
abbrev pub has : ℕ → List ℕ → Bool
has n ms = list_any (λ m. m == n) ms

-- the version of record n is pending there, and of this unit
abbrev pub is_of_change : ℕ → ℕ → Version → Bool
is_of_change n u v = v.pending && ((v.number == n) && (v.unit == u))

-- some version there is
abbrev pub pends : ℕ → ℕ → List Version → Bool
pends n u vs = list_any (is_of_change n u) vs

-- what is pending is older
abbrev pub Under : ℕ → List Version → Type 0
Under k [] = Unit {0}
Under k (v ∷ vs) = (v.pending ≡ true → v.number < k) × Under k vs

-- nothing is pending
abbrev pub NonePending : List Version → Type 0
NonePending [] = Unit {0}
NonePending (v ∷ vs) = (v.pending ≡ false) × NonePending vs

-- a version of the pile at (t, r): its record is of that slot and is left, and what is pending below is older
pub record IsPiled (notes : List Note) (t : TableId) (r : Rid) (v : Version) (vs : List Version) : Type 0 where
  pub table : (note_of notes v.number).table ≡ t
  pub rid : (note_of notes v.number).rid ≡ r
  pub is_left : has v.number (left notes v.unit) ≡ true
  pub under : Under v.number vs

-- each pending version of the pile, and nothing is pending under a committed one
abbrev pub Piled : List Note → TableId → Rid → List Version → Type 0
Piled notes t r [] = Unit {0}
Piled notes t r (v ∷ vs) = (v.pending ≡ true → IsPiled notes t r v vs) × (v.pending ≡ false → NonePending vs) × Piled notes t r vs

-- each slot
unfoldable pub AllPiled : World → Type 0
AllPiled w = (t : TableId) (r : Rid) → Piled w.records t r (versions w t r)

-- the unit has nothing pending
abbrev pub HasNone : ℕ → List Version → Type 0
HasNone u [] = Unit {0}
HasNone u (v ∷ vs) = (v.pending ≡ true → v.unit ≡ u → ⊥) × HasNone u vs

-- what is pending is the unit's
abbrev pub AllOfUnit : ℕ → List Version → Type 0
AllOfUnit u [] = Unit {0}
AllOfUnit u (v ∷ vs) = (v.pending ≡ true → v.unit ≡ u) × AllOfUnit u vs

-- all that is pending in a slot is one unit's
abbrev pub OneUnit : List Version → Type 0
OneUnit [] = Unit {0}
OneUnit (v ∷ vs) = (v.pending ≡ true → AllOfUnit v.unit vs) × OneUnit vs

-- in each slot
unfoldable pub AllOneUnit : World → Type 0
AllOneUnit w = (t : TableId) (r : Rid) → OneUnit (versions w t r)

-- what an open unit has left is pending in the record's slot
unfoldable pub LeftPends : World → Type 0
LeftPends w = (c : Conn) (u n : ℕ) → w.unit c ≡ Some u → has n (left w.records u) ≡ true
    → pends n u (versions w (note_of w.records n).table (note_of w.records n).rid) ≡ true

-- each record is of a unit that has begun
unfoldable pub NotesBegun : World → Type 0
NotesBegun w = (n : ℕ) → n < length w.records → (note_of w.records n).unit ≤ w.begun
