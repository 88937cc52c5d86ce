-- When parts stand for their history.
use Rattle.std.specs.List.{list_all}
use Rattle.std.specs.Prelude.{◌≡◌, ◌<◌, ◌≤◌, ◌&&◌, Bool, ℕ, true, false, List, length, map, nat_le, nat_lt, slice_index_or, unwrap_or, IfSome}
use Rattle.iso_chain.specs.Carried.{CarriesRows}
use Rattle.iso_types.specs.Head.{indexes_of, lock_share, lock_slots, row_fits, width_of}
use Rattle.iso_types.specs.declared.desk.Desk.{Desk}
use Rattle.iso_types.specs.declared.desk.Phase.TheVariants.{Idle}
use Rattle.iso_types.specs.declared.head.Head.{Head}
use Rattle.iso_types.specs.declared.head.IndexDef.{IndexDef}
use Rattle.iso_types.specs.declared.head.Isolation.TheVariants.{Cs}
use Rattle.iso_types.specs.declared.value.Conn.{Conn}
use Rattle.iso_types.specs.declared.value.Rid.{Rid}
use Rattle.iso_types.specs.declared.value.TableId.{TableId}
use Rattle.iso_types.specs.declared.value.Value.{Value}
use Rattle.iso_chain.specs.Stands.{AreChained, Chained}
use Rattle.iso_chain.specs.Views.{chained}
use Rattle.iso_key.specs.Pages.{entries}
use Rattle.iso_locklist.specs.Holding.{LocksAre}
use Rattle.iso_locklist.specs.Places.{Ledger}
use Rattle.iso_history.specs.declared.entry.Entry.{Entry}
use Rattle.iso_history.specs.After.{world}
use Rattle.iso_history.specs.Legal.{Ground}
use Rattle.iso_history.specs.Phases.{phase}
use Rattle.iso_history.specs.Reserves.{HasRoom}
use Rattle.iso_history.specs.Stops.{reserves}
use Rattle.iso_history.specs.World.{Last, Pace, World}
use Rattle.iso_history.specs.World.Last.{Claimed}
use Rattle.iso_state.specs.declared.pace.Pace.{Pace as Paced}
use Rattle.iso_state.specs.declared.parts.Parts.{Parts}

-- what the log may have: its window and its limit
pub record Bounds : Type 0 where
  pub window : ℕ
  pub logmax : ℕ

-- what the parts hold, without the room that they have; `reserved` is the kept sum of all reserves
pub record Content : Type 0 where
  pub head : Head
  pub chain : Chained
  pub bounds : Bounds
  pub entries : List (List (Value × Rid))
  pub locks : Ledger
  pub desks : List Desk
  pub pace : Pace
  pub history : List Entry
  pub reserved : ℕ

-- the dispatcher's state
abbrev pub pace_of : Paced → Pace
pace_of q = record { purged = q.purged; stopped = q.stopped; halted = q.halted; finished = q.finished }

-- what the parts hold
abbrev pub content_of : Parts → Content
content_of p = record {
  head = p.head;
  chain = chained p.tables p.log p.units;
  bounds = record { window = p.log.window; logmax = p.log.logmax };
  entries = map entries p.indexes;
  locks = p.locks;
  desks = p.desks;
  pace = pace_of p.pace;
  history = p.history.items;
  reserved = p.reserved;
}

-- what stands for a desk that is not there
abbrev pub no_desk : Desk
no_desk = record { phase = Idle; line = 0; isolation = Cs; may_wait = true; doom = 0; start = 0; claimed = false }

-- the desk of a connection
abbrev pub desk_at : List Desk → Conn → Desk
desk_at desks c = slice_index_or desks c.0 no_desk

-- the last own entry is a claim
abbrev pub is_claimed : Last → Bool
is_claimed Claimed = true
is_claimed _ = false

-- the desk has its connection's phase, the line of its open statement, its level, whether its requests may queue, the reason
-- for which it has to roll back or 0, the number of records at its last Dispatch, and whether its last own entry is a claim
pub record IsDeskOf (w : World) (c : Conn) (d : Desk) : Type 0 where
  pub phase : d.phase ≡ phase w c
  pub line : IfSome (w.line c) (λ n. d.line ≡ n)
  pub isolation : d.isolation ≡ (w.setting c).level
  pub may_wait : d.may_wait ≡ (w.setting c).may_wait
  pub doom : d.doom ≡ unwrap_or (w.doom c) 0
  pub start : d.start ≡ w.floor c
  pub claimed : d.claimed ≡ is_claimed (w.last c)

-- each desk is its connection's
abbrev pub DesksStand : List Desk → World → Type 0
DesksStand desks w = (c : Conn) → c.0 < length desks → IsDeskOf w c (desk_at desks c)

-- its limits, and the tables of the indexes, are the head's
pub record IsLimitedBy (head : Head) (l : Ledger) : Type 0 where
  pub share : l.share ≡ lock_share head.config
  pub slots : l.slots ≡ lock_slots head.config
  pub index_tables : l.index_tables ≡ map (λ d. d.table) head.indexes

-- the window and the limit of the log are the head's
pub record IsBoundBy (head : Head) (b : Bounds) : Type 0 where
  pub window : b.window ≡ head.config.window
  pub logmax : b.logmax ≡ head.config.logmax

-- the index stands on a column of a table of the head
abbrev pub is_placed : Head → IndexDef → Bool
is_placed head d = nat_lt d.table.0 (length head.tables) && nat_lt d.column (width_of head d.table)

-- what the steps ask of a head; a script that is read has it
pub record HeadFits (head : Head) : Type 0 where
  pub tables : length head.tables ≤ 16
  pub columns : list_all (λ d. nat_le (length d.columns) 8) head.tables ≡ true
  pub conns : length head.conns ≤ 32
  pub rows : list_all (λ f. row_fits head f.table f.row) head.rows ≡ true
  pub locklist : head.config.locklist ≤ 4096
  pub maxlocks : head.config.maxlocks ≤ 100
  pub indexes : list_all (is_placed head) head.indexes ≡ true
  pub some_indexes : length head.indexes ≤ 32
  pub few_indexes : (t : TableId) → length (indexes_of head t) ≤ 4

-- the content is that of this world
pub record AreOf (w : World) (p : Content) : Type 0 where
  pub chain : AreChained w p.chain
  pub entries : p.entries ≡ w.entries
  pub locks : LocksAre w.holds w.waits p.locks
  pub desks : DesksStand p.desks w
  pub pace : p.pace ≡ w.pace
  pub reserved : p.reserved ≡ reserves p.head w

-- the content stands for its history, and the log's records carry the new row of each of its insertions and updates
pub record Stands (p : Content) : Type 0 where
  pub parts : AreOf (world p.head p.history) p
  pub carried : CarriesRows p.chain.log p.history
  pub conns : length p.desks ≡ length p.head.conns
  pub works : length p.chain.book.works ≡ length p.head.conns
  pub limits : IsLimitedBy p.head p.locks
  pub bounds : IsBoundBy p.head p.bounds
  pub fits : HeadFits p.head
  pub ground : Ground p.head p.history

-- besides, history and log have room for all that the open units owe
pub record HasPlace (p : Content) (spare log_spare : ℕ) : Type 0 where
  pub stands : Stands p
  pub open stands use *
  pub room : HasRoom p.head (world p.head p.history) spare log_spare

-- the parts stand for their history, with that room
abbrev pub StandsFor : Parts → Type 0
StandsFor p = HasPlace (content_of p) p.history.spare p.log.spare

-- the world of the parts' history
abbrev pub world_of : Parts → World
world_of p = world p.head p.history.items
