-- Each version's row fits its table.
use Rattle.std.specs.Prelude.{◌≡◌, true, List, [], ◌∷◌, IfSome, Option}
use Rattle.iso_history.specs.Recorded.{versions_in}
use Rattle.iso_history.specs.Versions.{Change}
use Rattle.iso_history.specs.Versions.Change.{Adds, Writes}
use Rattle.iso_history.specs.World.{Version}
use Rattle.iso_types.specs.Head.{row_fits}
use Rattle.iso_types.specs.declared.head.Head.{Head}
use Rattle.iso_types.specs.declared.value.Rid.{Rid}
use Rattle.iso_types.specs.declared.value.TableId.{TableId}
use Rattle.iso_types.specs.declared.value.Value.{Value}

-- the content, where it is a row, fits the table
abbrev pub Fits : Head → TableId → Option (List Value) → Type 0
Fits head t row = IfSome row (λ x. row_fits head t x ≡ true)

-- each of these versions
abbrev pub AllFit : Head → TableId → List Version → Type 0
AllFit head t [] = Unit {0}
AllFit head t (v ∷ vs) = Fits head t v.row × AllFit head t vs

-- in each slot
abbrev pub RowsFit : Head → List (List (List Version)) → Type 0
RowsFit head tables = (t : TableId) (r : Rid) → AllFit head t (versions_in tables t r)

-- what an entry writes fits
abbrev pub WriteFits : Head → Change → Type 0
WriteFits head (Adds t row) = row_fits head t row ≡ true
WriteFits head (Writes t r row) = Fits head t row
WriteFits head _ = Unit {0}
