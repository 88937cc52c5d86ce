-- Why a Lock on a key name alone is left out: with one, Ground lets a new key into a range that a guarded scan has passed.
use Rattle.std.proofs.Common.{◌≡◌, true, false, List, [], ◌∷◌, refl, None}
use Rattle.std.specs.Prelude.{pos}
use Rattle.iso_history.specs.After.{start, world_from}
use Rattle.iso_history.specs.Guards.{RangeStays}
use Rattle.iso_history.specs.Legal.{GroundFrom}
use Rattle.iso_history.specs.Makers.{by_agent, by_dispatcher}
use Rattle.iso_history.specs.Requests.{is_row_mode, is_table_mode, table_mode}
use Rattle.iso_history.specs.World.{World}
use Rattle.iso_history.specs.Writes.{inserts}
use Rattle.iso_history.specs.Writes.Written.{Blocks}
use Rattle.iso_history.specs.declared.entry.Act.TheVariants.{Dispatch, Insert, Lock, Next}
use Rattle.iso_history.specs.declared.entry.Entry.{Entry}
use Rattle.iso_history.specs.declared.entry.Got.{Got}
use Rattle.iso_history.specs.declared.entry.Stand.TheVariants.{Past}
use Rattle.iso_history.specs.declared.entry.Why.TheVariants.{Asked}
use Rattle.iso_modes.specs.Modes.{at_least, compatible, covers, goes_with, joined, mode_eq, mode_number}
use Rattle.iso_modes.specs.declared.Mode.TheVariants.{Ix, Nw, U}
use Rattle.iso_modes.specs.declared.Term.TheVariants.{Kept}
use Rattle.iso_queue.specs.Locks.{is_hold_of}
use Rattle.iso_queue.specs.Queues.{opposes}
use Rattle.iso_types.specs.Ids.{name_eq}
use Rattle.iso_types.specs.Value.{value_cmp, value_eq, value_lt}
use Rattle.iso_types.specs.declared.head.ColumnKind.TheVariants.{Integer}
use Rattle.iso_types.specs.declared.head.Head.{Head}
use Rattle.iso_types.specs.declared.head.Isolation.TheVariants.{Rr}
use Rattle.iso_types.specs.declared.head.Range.{Range}
use Rattle.iso_types.specs.declared.value.Conn.{Conn}
use Rattle.iso_types.specs.declared.value.IndexId.{IndexId}
use Rattle.iso_types.specs.declared.value.Name.TheVariants.{End, Table}
use Rattle.iso_types.specs.declared.value.TableId.{TableId}
use Rattle.iso_types.specs.declared.value.Value.TheVariants.{Int}

-- one table of one column with an index, no rows, two connections
abbrev head : Head
head = record {
  config = record { cur_commit = true; locklist = 4; maxlocks = 100; logmax = 100; window = 10 };
  tables = record { name = []; columns = record { name = []; kind = Integer; required = true } ∷ [] } ∷ [];
  indexes = record { name = []; table = record { 0 = 0 }; column = 0; unique = false } ∷ [];
  rows = [];
  conns = record { name = []; isolation = Rr } ∷ record { name = []; isolation = Rr } ∷ [];
}

abbrev reader : Conn
reader = record { 0 = 0 }

abbrev writer : Conn
writer = record { 0 = 1 }

abbrev table : TableId
table = record { 0 = 0 }

abbrev index : IndexId
index = record { 0 = 0 }

-- all keys
abbrev range : Range
range = record { low = None; high = None }

-- the reader's scan of the empty index: S on END
abbrev scan : List Entry
scan = by_dispatcher (Dispatch 1 reader)
    ∷ by_agent reader (Lock (Table table) Ix Kept Asked Got.Granted)
    ∷ by_agent reader (Next index range None true Past)
    ∷ []

-- it asks for U on END, which makes its S U; then the writer may insert
abbrev later : List Entry
later = by_agent reader (Lock (End index) U Kept Asked Got.Granted)
    ∷ by_dispatcher (Dispatch 2 writer)
    ∷ by_agent writer (Lock (Table table) Ix Kept Asked Got.Granted)
    ∷ by_agent writer (Insert table (record { 0 = 0 }) (Int (pos 5) ∷ []))
    ∷ []

abbrev scanned : World
scanned = world_from head (start head) scan

allowed-scan : GroundFrom head (start head) scan
unfolding GroundFrom at_least compatible covers goes_with joined mode_eq mode_number is_hold_of opposes name_eq value_cmp value_eq value_lt is_row_mode
    is_table_mode table_mode
allowed-scan = (
  (refl, refl, (refl, refl, refl)),
  ((refl, refl, (refl, ((refl, refl), (refl, refl, refl)))), ((refl, refl, (refl, ((refl, refl), refl, refl))), tt)),
)

allowed-later : GroundFrom head scanned later
unfolding GroundFrom world_from at_least compatible covers goes_with joined mode_eq mode_number is_hold_of opposes name_eq value_cmp value_eq value_lt
    is_row_mode is_table_mode table_mode
allowed-later = (
  (refl, refl, (refl, ((refl, refl), (refl, refl, refl)))),
  (
    (refl, refl, (refl, refl, refl)),
    (
      (refl, refl, (refl, ((refl, refl), (refl, refl, refl)))),
      ((refl, refl, (refl, ((refl, refl), refl, refl, refl, refl))), tt),
    ),
  ),
)

-- a phantom: the writer's Insert makes a version in the range that the scan has passed
pub phantom : RangeStays head scanned reader table index range Past later → ⊥
unfolding RangeStays world_from at_least compatible covers goes_with joined mode_eq mode_number is_hold_of opposes name_eq value_cmp value_eq value_lt
phantom stays = let e = (((stays.1 refl).1 refl).1 refl).0 refl (record { 0 = 0 }) refl in cc

-- without it the writer is blocked on the name that the reader keeps
abbrev beside : World
beside = world_from head scanned (by_dispatcher (Dispatch 2 writer) ∷ by_agent writer (Lock (Table table) Ix Kept Asked Got.Granted) ∷ [])

blocked : inserts head beside writer table (Int (pos 5) ∷ []) ≡ Blocks (End index) Nw
unfolding world_from at_least compatible covers goes_with joined mode_eq mode_number is_hold_of opposes name_eq value_cmp value_eq value_lt
blocked = refl
