-- The head of the trials.
use Rattle.std.specs.Prelude.{ℕ, true, false, List, [], ◌∷◌, pos}
use Rattle.iso_types.specs.declared.head.ColumnKind.TheVariants.{Integer}
use Rattle.iso_types.specs.declared.head.FirstRow.{FirstRow}
use Rattle.iso_types.specs.declared.head.Head.{Head}
use Rattle.iso_types.specs.declared.head.Isolation.TheVariants.{Cs}
use Rattle.iso_types.specs.declared.value.TableId.{TableId}
use Rattle.iso_types.specs.declared.value.Value.TheVariants.{Int}

-- the table
abbrev pub the_table : TableId
the_table = record { 0 = 0 }

-- a row of one number
abbrev pub first : ℕ → FirstRow
first n = record { table = the_table; row = Int (pos n) ∷ [] }

-- a table of one required column with the rows 10, 20 and 30, an index on it, two connections at CS, and a lock list of one
-- page, of which one connection may take so many percent
abbrev pub heading : ℕ → Head
heading percent = record {
  config = record { cur_commit = true; locklist = 1; maxlocks = percent; logmax = 1000; window = 100 };
  tables = record { name = []; columns = record { name = []; kind = Integer; required = true } ∷ [] } ∷ [];
  indexes = record { name = []; table = the_table; column = 0; unique = false } ∷ [];
  rows = first 10 ∷ first 20 ∷ first 30 ∷ [];
  conns = record { name = []; isolation = Cs } ∷ record { name = []; isolation = Cs } ∷ [];
}
