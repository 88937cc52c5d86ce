-- What the parts hold before the first entry.
use Rattle.std.specs.Prelude.{ℕ, true, false, List, [], ◌∷◌, ◌+◌, ◌*◌, length, map, slice_index_or}
use Rattle.std.specs.Option.{option_map_or}
use Rattle.iso_types.specs.Head.{lock_share, lock_slots, rows_of, table_of_index}
use Rattle.iso_types.specs.declared.desk.Desk.{Desk}
use Rattle.iso_types.specs.declared.desk.Phase.TheVariants.{Idle}
use Rattle.iso_types.specs.declared.head.ConnDef.{ConnDef}
use Rattle.iso_types.specs.declared.head.Head.{Head}
use Rattle.iso_types.specs.declared.value.IndexId.{IndexId}
use Rattle.iso_types.specs.declared.value.Rid.{Rid}
use Rattle.iso_types.specs.declared.value.Value.{Value}
use Rattle.iso_types.specs.declared.value.Value.TheVariants.{Null}
use Rattle.iso_chain.specs.Firsts.{first_chained}
use Rattle.iso_history.specs.Entries.{first_entries, with_pair, with_rows}
use Rattle.iso_history.specs.World.{Pace}
use Rattle.iso_locklist.specs.Places.{Ledger}
use Rattle.iso_state.specs.Stands.{Content}

-- a connection is idle at first, at the level of its CONNECT line, and its requests may queue
abbrev pub first_desk : ConnDef → Desk
first_desk d = record { phase = Idle; line = 0; isolation = d.isolation; may_wait = true; doom = 0; start = 0; claimed = false }

-- nobody holds or awaits a name
abbrev pub first_locks : Head → Ledger
first_locks head =
    record { places = []; share = lock_share head.config; slots = lock_slots head.config; index_tables = map (λ d. d.table) head.indexes }

-- the pairs that rows, counted from k on, have in an index on this column
abbrev pub keyed : ℕ → ℕ → List (List Value) → List (Value × Rid)
keyed column k [] = []
keyed column k (row ∷ rows) = with_pair (slice_index_or row column Null, record { 0 = k }) (keyed column (k + 1) rows)

-- the pairs of an index before the first entry
abbrev pub first_keys : Head → IndexId → List (Value × Rid)
first_keys head i = with_rows head i 0 (option_map_or (rows_of head) (table_of_index head i) [])

-- the dispatcher has done nothing
abbrev pub calm : Pace
calm = record { purged = false; stopped = false; halted = false; finished = false }

-- a slot for each row that the head gives a table, no record, no lock, each connection at its first desk, and no entry
abbrev pub first_content : Head → Content
first_content head = record {
  head = head;
  chain = first_chained head;
  bounds = record { window = head.config.window; logmax = head.config.logmax };
  entries = first_entries head;
  locks = first_locks head;
  desks = map first_desk head.conns;
  pace = calm;
  history = [];
  reserved = length head.conns * 2 + 2;
}
