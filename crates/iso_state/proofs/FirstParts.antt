-- The first parts stand for the empty history.
use Rattle.std.proofs.Common.{◌≡◌, ◌≤◌, ◌<◌, ◌+◌, ◌*◌, ℕ, zero, suc, Bool, true, false, List, [], ◌∷◌, ◌++◌, length, map, refl, ap, sym, ◌∙◌, None, Option, filter, take, get_or, if◌then◌else◌, arith}
use Rattle.std.specs.Prelude.{cond, slice_get, slice_index_or, replicate}
use Rattle.std.specs.Option.{option_map_or}
use Rattle.std.proofs.lemmas.List.{length-map, map-append, length-replicate}
use Rattle.std.proofs.lemmas.List.Elements.{filter_more}
use Rattle.iso_chain.proofs.Firsts.{first-stands as chain-stands}
use Rattle.iso_chain.specs.Views.{bare, chained}
use Rattle.iso_key.specs.Pages.{entries}
use Rattle.iso_log.specs.Journal.{Journal}
use Rattle.iso_record.specs.declared.record.Record.{Record}
use Rattle.iso_table.specs.Slots.{new_slot}
use Rattle.iso_table.specs.declared.slot.Slot.{Slot}
use Rattle.iso_uow.specs.Book.{Book}
use Rattle.iso_uow.specs.declared.units.Work.{Work}
use Rattle.iso_types.specs.Filled.{Filled}
use Rattle.iso_types.specs.Head.{lock_share, lock_slots, rows_of, tables as tables_of}
use Rattle.iso_types.specs.Ids.{table_eq}
use Rattle.iso_types.specs.declared.desk.Desk.{Desk}
use Rattle.iso_types.specs.declared.desk.Phase.TheVariants.{Idle}
use Rattle.iso_types.specs.declared.head.ConnDef.{ConnDef}
use Rattle.iso_types.specs.declared.head.FirstRow.{FirstRow}
use Rattle.iso_types.specs.declared.head.Head.{Head}
use Rattle.iso_types.specs.declared.head.Isolation.TheVariants.{Cs}
use Rattle.iso_types.specs.declared.value.Rid.{Rid}
use Rattle.iso_types.specs.declared.value.TableId.{TableId}
use Rattle.iso_types.specs.declared.value.Value.{Value}
use Rattle.iso_history.proofs.limits.LogRoom.{debt-start}
use Rattle.iso_history.proofs.limits.Room.{needs-start, reserves-start}
use Rattle.iso_history.specs.After.{start, world, world_from}
use Rattle.iso_history.specs.Entries.{first_entries}
use Rattle.iso_history.specs.Legal.{Ground, GroundFrom}
use Rattle.iso_history.specs.Reserves.{HasRoom}
use Rattle.iso_history.specs.declared.entry.Entry.{Entry}
use Rattle.iso_locklist.specs.Places.{Ledger}
use Rattle.iso_locklist.specs.Places.{Place}
use Rattle.iso_state.specs.Firsts.{calm, first_content, first_desk, first_locks}
use Rattle.iso_state.specs.Stands.{AreOf, HasPlace, HeadFits, Stands, no_desk}

-- the table with this number
abbrev pub table_number : ℕ → TableId
table_number k = record { 0 = k }

-- the slots of the tables with these numbers
pub slots-of-numbers : (head : Head) (ks : List ℕ)
    → map (λ k. map new_slot (rows_of head (table_number k))) ks ≡ map (λ t. map new_slot (rows_of head t)) (map (λ k. record { 0 = k }) ks)
slots-of-numbers head [] = refl
slots-of-numbers head (k ∷ ks) = ap (λ (l : List (List Slot)). map new_slot (rows_of head (table_number k)) ∷ l) (slots-of-numbers head ks)

-- one more row of the head
pub rows-more : (rows : List FirstRow) (t : TableId) (k : ℕ) (d : FirstRow) → k < length rows
    → map (λ f. f.row) (filter (λ f. table_eq f.table t) (take (k + 1) rows))
    ≡ map (λ f. f.row) (filter (λ f. table_eq f.table t) (take k rows)) ++ (if table_eq (get_or rows k d).table t then (get_or rows k d).row ∷ [] else [])
rows-more rows t k d lt =
    ap (λ (l : List FirstRow). map (λ f. f.row) l) (filter_more (λ f. table_eq f.table t) rows k d lt)
    ∙ map-append (λ (f : FirstRow). f.row) (filter (λ f. table_eq f.table t) (take k rows)) _
    ∙ ap (λ (l : List (List Value)). map (λ f. f.row) (filter (λ f. table_eq f.table t) (take k rows)) ++ l) (go (table_eq (get_or rows k d).table t))
  where
    go : (b : Bool) → map (λ (f : FirstRow). f.row) (cond b (get_or rows k d ∷ []) []) ≡ (if b then (get_or rows k d).row ∷ [] else [])
    go true = refl
    go false = refl

-- what a first desk says
record IsFirst (ds : List ConnDef) (k : ℕ) (d : Desk) : Type 0 where
  pub phase : d.phase ≡ Idle
  pub level : d.isolation ≡ option_map_or (λ x. x.isolation) (slice_get ds k) Cs
  pub may_wait : d.may_wait ≡ true
  pub doom : d.doom ≡ 0
  pub start : d.start ≡ 0
  pub claimed : d.claimed ≡ false

-- each first desk is its connection's
first-desk : (ds : List ConnDef) (k : ℕ) → IsFirst ds k (slice_index_or (map first_desk ds) k no_desk)
first-desk [] k = record { phase = refl; level = refl; may_wait = refl; doom = refl; start = refl; claimed = refl }
first-desk (d ∷ ds) zero = record { phase = refl; level = refl; may_wait = refl; doom = refl; start = refl; claimed = refl }
first-desk (d ∷ ds) (suc k) = let r = first-desk ds k in
    record { phase = r.phase; level = r.level; may_wait = r.may_wait; doom = r.doom; start = r.start; claimed = r.claimed }

first-parts : (head : Head) → AreOf (start head) (first_content head)
first-parts head = record {
  chain = chain-stands head;
  entries = refl;
  locks = record { holds = λ n. refl; waits = λ n. refl };
  desks = λ c lt. let r = first-desk head.conns c.0 in
      record { phase = r.phase; line = tt; isolation = r.level; may_wait = r.may_wait; doom = r.doom; start = r.start; claimed = r.claimed };
  pace = refl;
  reserved = sym (reserves-start head);
}

pub first-stands : (head : Head) → HeadFits head → Stands (first_content head)
unfolding world world_from Ground GroundFrom
first-stands head fits = record {
  parts = first-parts head;
  carried = refl;
  conns = length-map head.conns first_desk;
  works = length-replicate (length head.conns) None;
  limits = record { share = refl; slots = refl; index_tables = refl };
  bounds = record { window = refl; logmax = refl };
  fits = fits;
  ground = tt;
}

-- and there is room for what all connections and the dispatcher need
first-room : (head : Head) (spare log_spare : ℕ) → length head.conns * 2 + 2 ≤ spare → HasRoom head (world head []) spare log_spare
unfolding world world_from
first-room head spare log_spare le = record {
  for_needs = rw (needs-start head) le;
  for_debt = let none = debt-start head in omega (arith, none);
}

pub first-place : (head : Head) (spare log_spare : ℕ) → HeadFits head → length head.conns * 2 + 2 ≤ spare → HasPlace (first_content head) spare log_spare
first-place head spare log_spare fits le = record { stands = first-stands head fits; room = first-room head spare log_spare le }

-- the content, from what each part is
pub first-is : (head copy : Head) (tables : List (Filled Slot)) (log : Journal) (units : Book) (indexes : List (List (List (Value × Rid)))) (locks : Ledger)
    (desks : List Desk) (past : List Entry) (reserved : ℕ) → copy ≡ head → bare tables ≡ map (λ t. map new_slot (rows_of head t)) (tables_of head)
    → log.records ≡ [] → log.window ≡ head.config.window → log.logmax ≡ head.config.logmax
    → units.begun ≡ 0 → units.works ≡ replicate (length head.conns) None → map entries indexes ≡ first_entries head
    → locks ≡ first_locks head → desks ≡ map first_desk head.conns → past ≡ [] → reserved ≡ length head.conns * 2 + 2
    → record {
      head = copy;
      chain = chained tables log units;
      bounds = record { window = log.window; logmax = log.logmax };
      entries = map entries indexes;
      locks = locks;
      desks = desks;
      pace = calm;
      history = past;
      reserved = reserved;
    } ≡ first_content head
first-is head copy tables log units indexes locks desks past reserved same slots none window logmax begun works keys free idle empty sum =
    go copy (bare tables) log.records log.window log.logmax units.begun units.works (map entries indexes) locks desks past reserved
    same slots none window logmax begun works keys free idle empty sum
  where
    go : (copy : Head) (tables : List (List Slot)) (records : List Record) (window logmax begun : ℕ) (works : List (Option Work))
        (pairs : List (List (Value × Rid))) (locks : Ledger) (desks : List Desk) (past : List Entry) (reserved : ℕ)
        → copy ≡ head → tables ≡ map (λ t. map new_slot (rows_of head t)) (tables_of head) → records ≡ [] → window ≡ head.config.window
        → logmax ≡ head.config.logmax → begun ≡ 0 → works ≡ replicate (length head.conns) None → pairs ≡ first_entries head → locks ≡ first_locks head
        → desks ≡ map first_desk head.conns → past ≡ [] → reserved ≡ length head.conns * 2 + 2
        → record {
          head = copy;
          chain = record { tables = tables; log = records; book = record { begun = begun; works = works } };
          bounds = record { window = window; logmax = logmax };
          entries = pairs;
          locks = locks;
          desks = desks;
          pace = calm;
          history = past;
          reserved = reserved;
        }
        ≡ first_content head
    go copy tables records window logmax begun works pairs locks desks past reserved a b c d e f g h i j k l =
        rw (a, b, c, d, e, f, g, h, i, j, k, l) refl

-- the lock list, from its fields
pub locks-are : (head : Head) (l : Ledger) → l.places ≡ [] → l.share ≡ lock_share head.config → l.slots ≡ lock_slots head.config
    → l.index_tables ≡ map (λ d. d.table) head.indexes → l ≡ first_locks head
locks-are head l places share slots index_tables = go l.places l.share l.slots l.index_tables places share slots index_tables
  where
    go : (ps : List Place) (a b : ℕ) (ts : List TableId) → ps ≡ [] → a ≡ lock_share head.config → b ≡ lock_slots head.config
        → ts ≡ map (λ d. d.table) head.indexes → record { places = ps; share = a; slots = b; index_tables = ts } ≡ first_locks head
    go ps a b ts e f g h = rw (e, f, g, h) refl
