-- The order of an index's pairs, and where committed versions and the records of pending ones stand.
use Rattle.std.specs.List.{list_all, list_any}
use Rattle.std.specs.Prelude.{◌≡◌, ◌<◌, Bool, Contains, true, false, List, [], ◌∷◌}
use Rattle.iso_history.specs.Entries.{entries_of}
use Rattle.iso_history.specs.Records.{count, note_of}
use Rattle.iso_history.specs.Versions.{versions}
use Rattle.iso_history.specs.World.{Version, World}
use Rattle.iso_types.specs.Ids.{pair_eq, pair_lt}
use Rattle.iso_types.specs.declared.value.IndexId.{IndexId}
use Rattle.iso_types.specs.declared.value.Rid.{Rid}
use Rattle.iso_types.specs.declared.value.TableId.{TableId}
use Rattle.iso_types.specs.declared.value.Value.{Value}

-- the pairs stand strictly in order
abbrev pub IsOrdered : List (Value × Rid) → Type 0
IsOrdered [] = Unit {0}
IsOrdered (p ∷ ps) = (list_all (pair_lt p) ps ≡ true) × IsOrdered ps

-- the pair is in the list
abbrev pub has_pair : List (Value × Rid) → Value × Rid → Bool
has_pair ps p = list_any (pair_eq p) ps

-- the pairs of each index stand strictly in order
unfoldable pub EntriesOrdered : World → Type 0
EntriesOrdered w = (i : IndexId) → IsOrdered (entries_of w i)

-- only pending versions stand above others: a committed one is the last of the list
abbrev pub IsLayered : List Version → Type 0
IsLayered [] = Unit {0}
IsLayered (v ∷ vs) = (v.pending ≡ false → vs ≡ []) × IsLayered vs

-- so in each slot
unfoldable pub VersionsLayered : World → Type 0
VersionsLayered w = (t : TableId) (r : Rid) → IsLayered (versions w t r)

-- each pending version has its record, which is of its unit
unfoldable pub VersionsLogged : World → Type 0
VersionsLogged w = (t : TableId) (r : Rid) (v : Version) → Contains (versions w t r) v → v.pending ≡ true
    → (v.number < count w) × ((note_of w.records v.number).unit ≡ v.unit)
