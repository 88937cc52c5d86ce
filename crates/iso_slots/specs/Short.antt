-- The table and the connection of the tests.
use Rattle.iso_types.specs.declared.value.Conn.{Conn}
use Rattle.iso_types.specs.declared.value.TableId.{TableId}

-- the one table
abbrev pub the_table : TableId
the_table = record { 0 = 0 }

-- the one connection
abbrev pub the_conn : Conn
the_conn = record { 0 = 0 }
