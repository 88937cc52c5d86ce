-- The indexes of a table in order, and the lock slots that a row needs at some of them.
use Rattle.std.specs.List.{range_with_len}
use Rattle.std.specs.Option.{option_map_or}
use Rattle.std.specs.Prelude.{ℕ, Bool, false, not, List, count_by, filter, map}
use Rattle.iso_history.specs.Holds.{is_inherited}
use Rattle.iso_history.specs.World.{World}
use Rattle.iso_modes.specs.declared.Mode.TheVariants.{S}
use Rattle.iso_queue.specs.Locks.{is_covered}
use Rattle.iso_types.specs.Head.{key_in, table_of_index}
use Rattle.iso_types.specs.Ids.{table_eq}
use Rattle.iso_types.specs.declared.head.Head.{Head}
use Rattle.iso_types.specs.declared.value.Conn.{Conn}
use Rattle.iso_types.specs.declared.value.IndexId.{IndexId}
use Rattle.iso_types.specs.declared.value.Name.TheVariants.{Key}
use Rattle.iso_types.specs.declared.value.TableId.{TableId}
use Rattle.iso_types.specs.declared.value.Value.{Value}

-- the index with this number
abbrev pub index_numbered : ℕ → IndexId
index_numbered k = record { 0 = k }

-- so many indexes from this number on
abbrev pub numbered : ℕ → ℕ → List IndexId
numbered a n = map index_numbered (range_with_len a n)

-- the index is the table's
abbrev pub is_of : Head → TableId → IndexId → Bool
is_of head t i = option_map_or (λ u. table_eq u t) (table_of_index head i) false

-- those of the table
abbrev pub of_table : Head → TableId → List IndexId → List IndexId
of_table head t is = filter (is_of head t) is

-- the lock slots that the row needs at these indexes: one for each key that it inherits and that is not covered
abbrev pub needed : Head → World → Conn → List Value → List IndexId → ℕ
needed head w c row is =
    count_by (λ n. not (is_covered head w.holds c n S)) (map (λ i. Key i (key_in head i row)) (filter (is_inherited head w c row) is))
