-- What holds of all names and desks together.
use Rattle.std.specs.List.{IsDistinct}
use Rattle.std.specs.Map.{keys_of}
use Rattle.std.specs.Prelude.{◌≤◌, ◌≡◌, ℕ, false, List, [], ◌∷◌, length, slice_get, Some}
use Rattle.iso_lines.specs.Locks.{IsSeated, counts_below, names_at}
use Rattle.iso_lines.specs.Named.{Named, line_of, same}
use Rattle.iso_lines.specs.Weighs.{IsBlank, IsWeighed}
use Rattle.iso_lines.specs.declared.desk.Desk.{Desk}
use Rattle.iso_queue.specs.Lines.{is_touched}
use Rattle.iso_types.specs.declared.value.Name.{Name}
use Rattle.iso_types.specs.declared.value.TableId.{TableId}

-- no desk has a name or a weight
abbrev pub AreIdle : List Desk → Type 0
AreIdle [] = Unit {0}
AreIdle (d ∷ ds) = (d.names.entries ≡ []) × IsBlank d.weights.items × AreIdle ds

-- there are 32 desks, each that of the connection of its number, with each of its names once; no other connection holds or awaits
-- a name; each desk keeps the weights of its names; and the total is that of their names
pub record IsLocks (lines : Named) (desks : List Desk) (total : ℕ) (tables : List TableId) : Type 0 where
  pub size : length desks ≡ 32
  pub seated : (c : ℕ) (d : Desk) → slice_get desks c ≡ Some d → IsSeated lines (record { 0 = c }) d
  pub unique : (c : ℕ) (d : Desk) → slice_get desks c ≡ Some d → IsDistinct same (keys_of d.names.entries)
  pub weighed : (c : ℕ) (d : Desk) → slice_get desks c ≡ Some d → IsWeighed tables lines (record { 0 = c }) d.names.entries d.weights.items
  pub beyond : (c : ℕ) → 32 ≤ c → (n : Name) → is_touched (line_of lines n) (record { 0 = c }) ≡ false
  pub all : total ≡ counts_below (names_at desks) 32
