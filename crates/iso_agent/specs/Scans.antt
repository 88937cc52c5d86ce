-- What holds of the scan of an open statement.
use Rattle.std.specs.List.{list_all}
use Rattle.std.specs.Option.{option_map_or}
use Rattle.std.specs.Prelude.{◌≡◌, ◌≤◌, Bool, true, false, ◌&&◌, length, nat_le, nat_lt}
use Rattle.iso_conduct.specs.Courses.{haul_size}
use Rattle.iso_conduct.specs.Parts.{Part, Walk}
use Rattle.iso_conduct.specs.Parts.Part.{EntryLook, IndexScan, TableScan}
use Rattle.iso_conduct.specs.Points.{Point, updated_columns}
use Rattle.iso_history.specs.Versions.{slots}
use Rattle.iso_history.specs.World.{World}
use Rattle.iso_sql.specs.Sound.{columns_of, is_sound_statement}
use Rattle.iso_sql.specs.declared.statement.Statement.{Statement}
use Rattle.iso_sql.specs.declared.statement.Statement.TheVariants as st
use Rattle.iso_types.specs.Head.{table_of_index}
use Rattle.iso_types.specs.Ids.{table_eq}
use Rattle.iso_types.specs.declared.head.Head.{Head}
use Rattle.iso_types.specs.declared.value.TableId.{TableId}

-- a scan of the statement is one of this table
abbrev pub is_scanned : Statement → TableId → Bool
is_scanned (st.Select u items cond level) t = table_eq u t
is_scanned (st.Update u sets cond level) t = table_eq u t
is_scanned (st.Delete u cond level) t = table_eq u t
is_scanned s t = true

-- an index scan is of the statement's table, by one of its indexes, whose keys are one of its columns
abbrev pub is_walk : Head → Statement → Walk → Bool
is_walk head s k =
    is_scanned s k.table && (option_map_or (λ t. table_eq t k.table) (table_of_index head k.index) false && nat_lt k.column (length (columns_of head k.table)))

-- a table scan is of the statement's table, and not past its slots nor the number of entries; an index scan stands at an entry of a slot
abbrev pub is_within : Head → World → Statement → Part → Bool
is_within head w s (TableScan t want r) = is_scanned s t && (nat_le r (slots w t) && nat_le r w.made)
is_within head w s (IndexScan k at) = is_walk head s k
is_within head w s (EntryLook k key r) = is_walk head s k && nat_lt r.0 (slots w k.table)
is_within head w s part = true

-- each scan that is left is
abbrev pub ScansWithin : Head → World → Point → Type 0
ScansWithin head w p = list_all (is_within head w p.statement) p.left ≡ true

-- a sound statement with the columns of its table, its scan, and no more kept rows than entries
pub record IsSoundPoint (head : Head) (w : World) (p : Point) : Type 0 where
  pub sound : is_sound_statement head p.statement ≡ true
  pub columns : p.columns ≡ updated_columns head p.statement
  pub within : ScansWithin head w p
  pub few : haul_size p.kept ≤ w.made
