-- What sets of edges say, a bit a connection (this project's own).
use Rattle.std.specs.Int.{bit_at}
use Rattle.std.specs.Prelude.{Bool, List, ◌==◌, slice_index_or}
use Rattle.iso_types.specs.declared.edges.Edges.{Edges}
use Rattle.iso_types.specs.declared.value.Conn.{Conn}

-- the set has an edge to the connection: its bit is set
unfoldable pub has_edge : Edges → Conn → Bool
has_edge e c = bit_at e.0 c.0 == 1

-- of the connections' sets, in order of connections, that of the first has an edge to the second
unfoldable pub leads : List Edges → Conn → Conn → Bool
leads sets c d = has_edge (slice_index_or sets c.0 (record { 0 = 0 })) d
