-- When slots stand for the versions of a world.
use Rattle.std.specs.Prelude.{◌≡◌, List, [], length, slice_index_or, is_some, IfSome}
use Rattle.iso_history.specs.Recorded.{kept, versions_in}
use Rattle.iso_history.specs.Versions.{first_record, head_record, present}
use Rattle.iso_history.specs.World.{Version}
use Rattle.iso_record.specs.Undone.{Face}
use Rattle.iso_table.specs.Slots.{slot_at}
use Rattle.iso_table.specs.declared.slot.Slot.{Slot}
use Rattle.iso_types.specs.declared.value.Rid.{Rid}
use Rattle.iso_types.specs.declared.value.TableId.{TableId}

-- a slot's row and liveness
abbrev pub face : Slot → Face
face s = record { row = s.row; live = s.live }

-- the row and liveness are `present`; under a pending Absent the row is the content of the version before it
pub record FaceStands (f : Face) (vs : List Version) : Type 0 where
  pub row : IfSome (kept vs) (λ row. f.row ≡ row)
  pub live : f.live ≡ is_some (present vs)

-- besides, head and first are the records of the last and first pending versions
pub record SlotStands (s : Slot) (vs : List Version) : Type 0 where
  pub face : FaceStands (face s) vs
  pub head : s.head ≡ head_record vs
  pub first : s.first ≡ first_record vs

-- the slots of a table
abbrev pub slots_of : List (List Slot) → TableId → List Slot
slots_of tables t = slice_index_or tables t.0 []

-- a slot
abbrev pub slot_in : List (List Slot) → TableId → Rid → Slot
slot_in tables t r = slot_at (slots_of tables t) r

-- as many tables and slots, and each slot stands for its versions
pub record SlotsStand (tables : List (List Slot)) (world : List (List (List Version))) : Type 0 where
  pub wide : length tables ≡ length world
  pub long : (t : TableId) → length (slots_of tables t) ≡ length (slice_index_or world t.0 [])
  pub each : (t : TableId) (r : Rid) → SlotStands (slot_in tables t r) (versions_in world t r)
