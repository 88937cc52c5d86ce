-- Which places count as a connection's row and key holds on a table.
use Rattle.std.specs.Prelude.{ℕ, Bool, List, count_by}
use Rattle.iso_lines.specs.Weighs.{weighs}
use Rattle.iso_locklist.specs.Places.{Ledger, Place}
use Rattle.iso_types.specs.declared.value.Conn.{Conn}
use Rattle.iso_types.specs.declared.value.TableId.{TableId}

-- the place is that of a row or key of the table on which the connection has a hold that is not Brief
abbrev pub is_weighed : List TableId → Conn → TableId → Place → Bool
is_weighed index_tables c t p = weighs index_tables c t p.name p.queue

-- the number of such places
abbrev pub weight_in : Ledger → Conn → TableId → ℕ
weight_in l c t = count_by (is_weighed l.index_tables c t) l.places
