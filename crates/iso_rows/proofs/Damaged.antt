-- Damaged histories are refused, by computing: a lock left out before a change, and an Undo left out before a Rollback.
use Rattle.std.proofs.Common.{◌≡◌, ℕ, Bool, true, false, List, [], ◌∷◌, pos, Some}
use Rattle.iso_history.specs.After.{world, world_from}
use Rattle.iso_history.specs.Legal.{Ground, GroundFrom}
use Rattle.iso_history.specs.Requests.{is_row_mode, is_table_mode, table_mode}
use Rattle.iso_history.specs.declared.entry.Act.TheVariants.{Dispatch, Insert, Lock, Rollback, Undo}
use Rattle.iso_history.specs.declared.entry.Entry.{Entry}
use Rattle.iso_history.specs.declared.entry.Got.{Got}
use Rattle.iso_history.specs.declared.entry.Why.TheVariants.{Asked}
use Rattle.iso_modes.specs.Modes.{at_least, compatible, covers, escalated, goes_with, joined, mode_eq, mode_number}
use Rattle.iso_modes.specs.declared.Mode.TheVariants.{Ix}
use Rattle.iso_modes.specs.declared.Term.TheVariants.{Kept}
use Rattle.iso_queue.specs.Locks.{is_hold_of}
use Rattle.iso_queue.specs.Queues.{opposes}
use Rattle.iso_rows.proofs.Short.{agent, column, config, conn, conn_def, dispatcher, heading, rid, table, table_def}
use Rattle.iso_types.specs.Ids.{name_eq}
use Rattle.iso_types.specs.Value.{value_cmp, value_eq, value_lt}
use Rattle.iso_types.specs.declared.head.ColumnKind.TheVariants.{Integer}
use Rattle.iso_types.specs.declared.head.Head.{Head}
use Rattle.iso_types.specs.declared.head.Isolation.TheVariants.{Cs}
use Rattle.iso_types.specs.declared.value.Name.TheVariants.{Table}
use Rattle.iso_types.specs.declared.value.Value.TheVariants.{Int}

abbrev head : Head
head = heading (config true 1024 60 65536 65536) (table_def (column Integer false ∷ []) ∷ []) [] [] (conn_def Cs ∷ [])

abbrev begun : Entry
begun = dispatcher (Dispatch 5 (conn 0))

abbrev locked : Entry
locked = agent 0 (Lock (Table (table 0)) Ix Kept Asked Got.Granted)

abbrev inserted : Entry
inserted = agent 0 (Insert (table 0) (rid 0) ((Int (pos 7)) ∷ []))

abbrev rolled_back : Entry
rolled_back = agent 0 (Rollback (pos 0) 0)

never : false ≡ true → ⊥
never e = cc

not_empty : (k : ℕ) → k ∷ [] ≡ [] → ⊥
not_empty k e = cc

-- the lock of the table is left out
unlocked : Ground head (begun ∷ inserted ∷ []) → ⊥
unfolding mode_number mode_eq goes_with compatible joined at_least covers escalated value_cmp value_eq value_lt name_eq is_hold_of opposes world_from world is_table_mode is_row_mode table_mode GroundFrom Ground
unlocked g = never (g.1.0.2.1.1)

-- the Undo of the change is left out
not_undone : Ground head (begun ∷ locked ∷ inserted ∷ rolled_back ∷ []) → ⊥
unfolding mode_number mode_eq goes_with compatible joined at_least covers escalated value_cmp value_eq value_lt name_eq is_hold_of opposes world_from world is_table_mode is_row_mode table_mode GroundFrom Ground
not_undone g = not_empty 0 (g.1.1.1.0.2.1.1)
