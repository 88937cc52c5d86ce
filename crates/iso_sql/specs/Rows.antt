-- Literals that are to be stored, against the columns that they are for.
-- Db2 LUW, SQL reference, 'Assignments and comparisons'; that a literal is refused where it stands is this project's own
use Rattle.std.specs.List.{range_with_len}
use Rattle.std.specs.Option.{option_map_or}
use Rattle.std.specs.Prelude.{ℕ, Bool, false, if◌then◌else◌, ◌==◌, List, [], ◌∷◌, map, Option, Some, None}
use Rattle.iso_types.specs.Head.{fits_column, fits_kind}
use Rattle.iso_types.specs.declared.head.Column.{Column}
use Rattle.iso_types.specs.declared.value.Value.{Value}
use Rattle.iso_types.specs.declared.value.Value.TheVariants as value
use Rattle.iso_grammar.specs.declared.fault.Cause.TheVariants.{TypeFault}
use Rattle.iso_grammar.specs.declared.fault.Fault.{Fault}
use Rattle.iso_grammar.specs.declared.token.Token.{Token}
use Rattle.iso_grammar.specs.Faults.{at}
use Rattle.iso_grammar.specs.Values.{value_of}

-- the value fits the column; where it is strict, no NULL fits a NOT NULL column
abbrev pub fits : Bool → Column → Value → Bool
fits strict column v = if strict then fits_column column v else fits_kind column.kind v

-- the literal may be stored in the column
unfoldable pub stores : Bool → List ℕ → Column → Token → Bool
stores strict line column t = option_map_or (fits strict column) (value_of line t) false

-- The first of the literals that its column can't store; what closes the list where there are too few, and the first that has no column.
abbrev pub stored_fault : Bool → List ℕ → List Column → List Token → Token → Option Fault
stored_fault strict line [] [] close = None
stored_fault strict line [] (t ∷ ts) close = at t TypeFault
stored_fault strict line (c ∷ cs) [] close = at close TypeFault
stored_fault strict line (c ∷ cs) (t ∷ ts) close = if stores strict line c t then stored_fault strict line cs ts close else at t TypeFault

abbrev pub or_null : Option Value → Value
or_null None = value.Null
or_null (Some v) = v

-- the value of a literal; NULL where it is none, which is a fault
unfoldable pub stored_value : List ℕ → Token → Value
stored_value line t = or_null (value_of line t)

-- the row of literals, one for each column
abbrev pub stored_row : List ℕ → List Token → List Value
stored_row line ts = map (stored_value line) ts

-- the value for the column in this place, where the literals are for the columns in those; NULL where no literal is for it
abbrev pub placed_value : List ℕ → List ℕ → List Token → ℕ → Value
placed_value line [] ts place = value.Null
placed_value line (p ∷ ps) [] place = value.Null
placed_value line (p ∷ ps) (t ∷ ts) place = if p == place then stored_value line t else placed_value line ps ts place

-- the row of so many columns, where the literals are for the columns in these places
abbrev pub placed_row : ℕ → List ℕ → List ℕ → List Token → List Value
placed_row width line places ts = map (placed_value line places ts) (range_with_len 0 width)
