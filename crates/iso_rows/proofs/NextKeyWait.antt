-- An insertion into a range that a repeatable-read scan has passed: legal, scheduled and whole, by computing.
use Rattle.std.proofs.Common.{◌≡◌, ℕ, Bool, true, false, List, [], ◌∷◌, refl, Some, None, length, take, drop, pos, negsuc}
use Rattle.std.specs.List.{list_all}
use Rattle.iso_types.specs.declared.value.Value.{Value}
use Rattle.iso_types.specs.declared.value.Value.TheVariants.{Null, Int}
use Rattle.iso_types.specs.declared.value.Name.TheVariants.{Table, Row, Key, End}
use Rattle.iso_types.specs.declared.head.Head.{Head}
use Rattle.iso_types.specs.declared.head.ColumnKind.TheVariants.{Integer, Bigint, Varchar}
use Rattle.iso_types.specs.declared.head.Isolation.TheVariants.{Ur, Cs, Rs, Rr}
use Rattle.iso_modes.specs.declared.Mode.TheVariants.{In, Is, Ns, S, Ix, Six, U, X, Nw, Z}
use Rattle.iso_modes.specs.declared.Term.TheVariants.{Kept, Brief, Fresh}
use Rattle.iso_modes.specs.declared.LockState.{LockState}
use Rattle.iso_modes.specs.declared.LockState.TheVariants.{Converting}
use Rattle.iso_queue.specs.declared.LockLine.{LockLine}
use Rattle.iso_history.specs.declared.entry.Act.{Act}
use Rattle.iso_history.specs.declared.entry.Act.TheVariants.{Dispatch, Busy, Expire, Snapshot, Victim, Purge, Close, Stopped, Finish, Lock, Claim, Look, ScanEnd, Next, Free, Collapse, Insert, Update, Delete, Refused, Undo, Mark, Back, Set, Commit, Rollback, Reply}
use Rattle.iso_history.specs.declared.entry.Why.TheVariants.{Asked, Escalation, Blocked}
use Rattle.iso_history.specs.declared.entry.Got.{Got}
use Rattle.iso_history.specs.declared.entry.Stand.{Stand}
use Rattle.iso_history.specs.declared.entry.Stand.TheVariants.{At, Past}
use Rattle.iso_history.specs.declared.entry.Want.{Want}
use Rattle.iso_history.specs.declared.entry.Want.TheVariants.{Dirty, Current, Steady, Repeat, Alter, AlterKept}
use Rattle.iso_history.specs.declared.entry.Cause.{Cause}
use Rattle.iso_history.specs.declared.entry.Cause.TheVariants.{Memory, History}
use Rattle.iso_history.specs.declared.entry.Entry.{Entry}
use Rattle.iso_sql.specs.declared.statement.Statement.{Statement}
use Rattle.iso_sql.specs.declared.statement.Statement.TheVariants.{Select, RollbackTo, Savepoint, LockTable, SetIsolation, SetWait}
use Rattle.iso_sql.specs.declared.statement.Expr.{Expr}
use Rattle.iso_sql.specs.declared.statement.Items2.TheVariants.{All, Count, Columns}
use Rattle.iso_sql.specs.declared.statement.Op.TheVariants.{Eq, Ne, Lt, Le, Gt, Ge}
use Rattle.iso_script.specs.declared.script.Line.{Line}
use Rattle.iso_script.specs.declared.script.What.{What}
use Rattle.iso_script.specs.declared.script.Script.{Script}
use Rattle.iso_rows.proofs.Short.{conn, table, index, rid, dispatcher, agent, bound, range, lock_line, column, table_def, index_def, conn_def, first_row, config, heading, line, assign, sets_of, not_own, no_stop}
use Rattle.iso_modes.specs.Modes.{mode_number, mode_eq, goes_with, compatible, joined, at_least, covers, escalated}
use Rattle.iso_types.specs.Value.{value_cmp, value_eq, value_lt}
use Rattle.iso_types.specs.Ids.{name_eq}
use Rattle.iso_queue.specs.Locks.{is_hold_of}
use Rattle.iso_queue.specs.Queues.{opposes}
use Rattle.iso_queue.specs.Snapshots.{stands_before, snapshot}
use Rattle.iso_history.specs.After.{world_from, world, start}
use Rattle.iso_history.specs.Requests.{is_table_mode, is_row_mode, table_mode}
use Rattle.iso_history.specs.Legal.{GroundFrom, Ground}
use Rattle.iso_conduct.specs.Conduct.{Conduct, ConductFrom, point, point_from}
use Rattle.iso_conduct.specs.Pacing.{Paced, PacedFrom, lines_left, lines_from}
use Rattle.iso_conduct.specs.Schedule.{Scheduled, ScheduledFrom}
use Rattle.iso_conduct.specs.Whole.{IsWhole, is_line_done}
use Rattle.std.proofs.Common.{◌∙◌, ap, Option}
use Rattle.iso_conduct.specs.Conduct.{Does, point_after}
use Rattle.iso_conduct.specs.Parts.{Part, change_list, level_in, select_list}
use Rattle.iso_conduct.specs.Parts.Part.{Answer, Asks, Backs, Changes, Claims, Collapses, EntryLook, Frees, IndexScan, Leaves, Marks, NewRow, Replies, RowDelete, RowUpdate, Sets, Settles, TableScan, Undos}
use Rattle.iso_conduct.specs.Points.{Point, is_true, updated_columns}
use Rattle.iso_conduct.specs.Points.Haul.{Found, Given, Number}
use Rattle.iso_history.specs.World.{World}
use Rattle.iso_history.specs.After.{after}
use Rattle.iso_predicate.specs.Plan.{bounds_at, common_of, first_path, path_by, plan_of}
use Rattle.iso_predicate.specs.Truth.{between, both, compared, either, known, negated, truth, value_at}
use Rattle.iso_predicate.specs.declared.conditions.Truth.TheVariants.{True}
use Rattle.iso_predicate.specs.declared.plans.Path.{Path}
use Rattle.iso_sql.specs.declared.statement.Condition.{Condition}
use Rattle.iso_sql.specs.declared.statement.Condition.TheOpen.{Condition-F}
use Rattle.iso_sql.specs.declared.statement.Condition.TheVariants as c
use Rattle.iso_types.specs.Head.{is_null}
use Rattle.iso_rows.proofs.Linked.{always-bounds, always-truth, and-bounds-by, and-by, begins, begun, between-bounds, between-truth, compare-bounds, compare-truth, link, not-bounds, not-by, null-bounds, null-truth, or-bounds, or-by, past_look}

abbrev head : Head
head = heading (config true 1024 60 65536 65536)
    (table_def (column Integer true ∷ []) ∷ [])
    (index_def (table 0) 0 false ∷ [])
    (first_row (table 0) ((Int (pos 5)) ∷ []) ∷ first_row (table 0) ((Int (pos 30)) ∷ []) ∷ [])
    (conn_def Cs ∷ conn_def Rr ∷ [])

abbrev statement_9 : Statement
statement_9 = Select (table 0) (Columns (0 ∷ [])) (c.Between 0 (Int (pos 10)) (Int (pos 20))) None

abbrev cond_9 : Condition
cond_9 = (c.Between 0 (Int (pos 10)) (Int (pos 20)))

truth_9 : (shown : List Value) → truth shown cond_9 ≡ between (value_at shown 0) (Int (pos 10)) (Int (pos 20))
truth_9 shown = between-truth shown 0 (Int (pos 10)) (Int (pos 20))

plan_9 : plan_of head (table 0) cond_9 ≡ (Path.Index (index 0) (range (Some (bound (Int (pos 10)) true)) (Some (bound (Int (pos 20)) true))))
unfolding mode_number mode_eq goes_with compatible joined at_least covers escalated value_cmp value_eq value_lt name_eq is_hold_of opposes stands_before world_from world is_table_mode is_row_mode table_mode
plan_9 = ap (λ x. path_by (index 0) x (first_path head cond_9 [])) (between-bounds 0 0 (Int (pos 10)) (Int (pos 20)))

abbrev statement_10 : Statement
statement_10 = Statement.Insert (table 0) ((Int (pos 40)) ∷ [])

abbrev statement_11 : Statement
statement_11 = Statement.Insert (table 0) ((Int (pos 15)) ∷ [])

abbrev statement_12 : Statement
statement_12 = Statement.Commit

abbrev lines : List Line
lines =
    (line 9 (Some (conn 1)) false (What.Statement (Select (table 0) (Columns (0 ∷ [])) (c.Between 0 (Int (pos 10)) (Int (pos 20))) None))
    ∷ line 10 (Some (conn 0)) false (What.Statement (Statement.Insert (table 0) ((Int (pos 40)) ∷ [])))
    ∷ line 11 (Some (conn 0)) false (What.Statement (Statement.Insert (table 0) ((Int (pos 15)) ∷ [])))
    ∷ line 12 (Some (conn 1)) false (What.Statement (Statement.Commit)) ∷ [])

abbrev e_0 : Entry
e_0 = dispatcher (Dispatch 9 (conn 1))

abbrev e_1 : Entry
e_1 = agent 1 (Lock (Table (table 0)) Is Kept Asked Got.Granted)

abbrev e_2 : Entry
e_2 = agent 1 (Next (index 0) (range (Some (bound (Int (pos 10)) true)) (Some (bound (Int (pos 20)) true))) None true Past)

abbrev e_3 : Entry
e_3 = agent 1 (Reply (pos 100) 0 [])

abbrev e_4 : Entry
e_4 = dispatcher (Dispatch 10 (conn 0))

abbrev e_5 : Entry
e_5 = agent 0 (Lock (Table (table 0)) Ix Kept Asked Got.Granted)

abbrev e_6 : Entry
e_6 = agent 0 (Insert (table 0) (rid 2) ((Int (pos 40)) ∷ []))

abbrev e_7 : Entry
e_7 = agent 0 (Reply (pos 0) 1 [])

abbrev e_8 : Entry
e_8 = dispatcher (Dispatch 11 (conn 0))

abbrev e_9 : Entry
e_9 = agent 0 (Lock (Table (table 0)) Ix Kept Asked Got.Granted)

abbrev e_10 : Entry
e_10 = agent 0 (Lock (Key (index 0) (Int (pos 30))) Nw Brief Blocked (Got.Queued Nw))

abbrev e_11 : Entry
e_11 = dispatcher (Dispatch 12 (conn 1))

abbrev e_12 : Entry
e_12 = agent 1 (Commit)

abbrev e_13 : Entry
e_13 = agent 0 (Claim)

abbrev e_14 : Entry
e_14 = agent 0 (Insert (table 0) (rid 3) ((Int (pos 15)) ∷ []))

abbrev e_15 : Entry
e_15 = agent 0 (Reply (pos 0) 1 [])

abbrev e_16 : Entry
e_16 = dispatcher (Close (conn 0))

abbrev e_17 : Entry
e_17 = agent 0 (Undo 1)

abbrev e_18 : Entry
e_18 = agent 0 (Undo 0)

abbrev e_19 : Entry
e_19 = agent 0 (Act.Ended)

abbrev e_20 : Entry
e_20 = dispatcher (Close (conn 1))

abbrev e_21 : Entry
e_21 = agent 1 (Act.Ended)

abbrev e_22 : Entry
e_22 = dispatcher (Finish)

abbrev rest_23 : List Entry
rest_23 = []

abbrev rest_22 : List Entry
rest_22 = e_22 ∷ rest_23

abbrev rest_21 : List Entry
rest_21 = e_21 ∷ rest_22

abbrev rest_20 : List Entry
rest_20 = e_20 ∷ rest_21

abbrev rest_19 : List Entry
rest_19 = e_19 ∷ rest_20

abbrev rest_18 : List Entry
rest_18 = e_18 ∷ rest_19

abbrev rest_17 : List Entry
rest_17 = e_17 ∷ rest_18

abbrev rest_16 : List Entry
rest_16 = e_16 ∷ rest_17

abbrev rest_15 : List Entry
rest_15 = e_15 ∷ rest_16

abbrev rest_14 : List Entry
rest_14 = e_14 ∷ rest_15

abbrev rest_13 : List Entry
rest_13 = e_13 ∷ rest_14

abbrev rest_12 : List Entry
rest_12 = e_12 ∷ rest_13

abbrev rest_11 : List Entry
rest_11 = e_11 ∷ rest_12

abbrev rest_10 : List Entry
rest_10 = e_10 ∷ rest_11

abbrev rest_9 : List Entry
rest_9 = e_9 ∷ rest_10

abbrev rest_8 : List Entry
rest_8 = e_8 ∷ rest_9

abbrev rest_7 : List Entry
rest_7 = e_7 ∷ rest_8

abbrev rest_6 : List Entry
rest_6 = e_6 ∷ rest_7

abbrev rest_5 : List Entry
rest_5 = e_5 ∷ rest_6

abbrev rest_4 : List Entry
rest_4 = e_4 ∷ rest_5

abbrev rest_3 : List Entry
rest_3 = e_3 ∷ rest_4

abbrev rest_2 : List Entry
rest_2 = e_2 ∷ rest_3

abbrev rest_1 : List Entry
rest_1 = e_1 ∷ rest_2

abbrev rest_0 : List Entry
rest_0 = e_0 ∷ rest_1

abbrev w_0 : World
w_0 = start head

abbrev w_1 : World
w_1 = after head w_0 e_0

abbrev w_2 : World
w_2 = after head w_1 e_1

abbrev w_3 : World
w_3 = after head w_2 e_2

abbrev w_4 : World
w_4 = after head w_3 e_3

abbrev w_5 : World
w_5 = after head w_4 e_4

abbrev w_6 : World
w_6 = after head w_5 e_5

abbrev w_7 : World
w_7 = after head w_6 e_6

abbrev w_8 : World
w_8 = after head w_7 e_7

abbrev w_9 : World
w_9 = after head w_8 e_8

abbrev w_10 : World
w_10 = after head w_9 e_9

abbrev w_11 : World
w_11 = after head w_10 e_10

abbrev w_12 : World
w_12 = after head w_11 e_11

abbrev w_13 : World
w_13 = after head w_12 e_12

abbrev w_14 : World
w_14 = after head w_13 e_13

abbrev w_15 : World
w_15 = after head w_14 e_14

abbrev w_16 : World
w_16 = after head w_15 e_15

abbrev w_17 : World
w_17 = after head w_16 e_16

abbrev w_18 : World
w_18 = after head w_17 e_17

abbrev w_19 : World
w_19 = after head w_18 e_18

abbrev w_20 : World
w_20 = after head w_19 e_19

abbrev w_21 : World
w_21 = after head w_20 e_20

abbrev w_22 : World
w_22 = after head w_21 e_21

abbrev w_23 : World
w_23 = after head w_22 e_22

abbrev es : List Entry
es = rest_0

ground : Ground head es
unfolding mode_number mode_eq goes_with compatible joined at_least covers escalated value_cmp value_eq value_lt name_eq is_hold_of opposes stands_before world_from world is_table_mode is_row_mode table_mode GroundFrom Ground
ground = ((refl, refl, (refl, refl, refl)), ((refl, refl, (refl, ((refl, refl), (refl, refl, refl)))), ((refl, refl, (refl, ((refl, refl), refl, refl))), ((refl, refl, (refl, (refl, refl))), ((refl, refl, (refl, refl, refl)), ((refl, refl, (refl, ((refl, refl), (refl, refl, refl)))), ((refl, refl, (refl, ((refl, refl), refl, refl, refl, refl))), ((refl, refl, (refl, (refl, refl))), ((refl, refl, (refl, refl, refl)), ((refl, refl, (refl, ((refl, refl), (refl, refl, refl)))), ((refl, refl, (refl, ((refl, refl), (refl, refl, refl, refl)))), ((refl, refl, (refl, refl, refl)), ((refl, refl, (refl, (refl, refl))), ((refl, refl, (refl, refl)), ((refl, refl, (refl, ((refl, refl), refl, refl, refl, refl))), ((refl, refl, (refl, (refl, refl))), ((refl, refl, (refl, refl)), ((refl, refl, (refl, (refl, refl))), ((refl, refl, (refl, (refl, refl))), ((refl, refl, (refl, (refl, refl))), ((refl, refl, (refl, refl)), ((refl, refl, (refl, (refl, refl))), ((refl, refl, refl), tt)))))))))))))))))))))))

abbrev o0_5 : Point
o0_5 = record { statement = statement_10; columns = []; floor = 0; left = (Asks (Table (table 0)) Ix ∷ NewRow (table 0) ((Int (pos 40)) ∷ []) ∷ Replies (pos 0) 1 ∷ []); kept = Found [] }

abbrev o0_6 : Point
o0_6 = record { statement = statement_10; columns = []; floor = 0; left = (NewRow (table 0) ((Int (pos 40)) ∷ []) ∷ Replies (pos 0) 1 ∷ []); kept = Found [] }

abbrev o0_7 : Point
o0_7 = record { statement = statement_10; columns = []; floor = 0; left = (Replies (pos 0) 1 ∷ []); kept = Found [] }

abbrev o0_9 : Point
o0_9 = record { statement = statement_11; columns = []; floor = 1; left = (Asks (Table (table 0)) Ix ∷ NewRow (table 0) ((Int (pos 15)) ∷ []) ∷ Replies (pos 0) 1 ∷ []); kept = Found [] }

abbrev o0_10 : Point
o0_10 = record { statement = statement_11; columns = []; floor = 1; left = (NewRow (table 0) ((Int (pos 15)) ∷ []) ∷ Replies (pos 0) 1 ∷ []); kept = Found [] }

abbrev o0_11 : Point
o0_11 = record { statement = statement_11; columns = []; floor = 1; left = (Claims ∷ NewRow (table 0) ((Int (pos 15)) ∷ []) ∷ Replies (pos 0) 1 ∷ []); kept = Found [] }

abbrev o0_14 : Point
o0_14 = record { statement = statement_11; columns = []; floor = 1; left = (NewRow (table 0) ((Int (pos 15)) ∷ []) ∷ Replies (pos 0) 1 ∷ []); kept = Found [] }

abbrev o0_15 : Point
o0_15 = record { statement = statement_11; columns = []; floor = 1; left = (Replies (pos 0) 1 ∷ []); kept = Found [] }

from0_23 : ConductFrom head lines w_23 (conn 0) None rest_23
unfolding mode_number mode_eq goes_with compatible joined at_least covers escalated value_cmp value_eq value_lt name_eq is_hold_of opposes stands_before world_from world is_table_mode is_row_mode table_mode ConductFrom
from0_23 = tt

from0_22 : ConductFrom head lines w_22 (conn 0) None rest_22
unfolding mode_number mode_eq goes_with compatible joined at_least covers escalated value_cmp value_eq value_lt name_eq is_hold_of opposes stands_before world_from world is_table_mode is_row_mode table_mode
from0_22 = link head lines w_22 (conn 0) None e_22 rest_23 None (λ h. not_own h) (refl) from0_23

from0_21 : ConductFrom head lines w_21 (conn 0) None rest_21
unfolding mode_number mode_eq goes_with compatible joined at_least covers escalated value_cmp value_eq value_lt name_eq is_hold_of opposes stands_before world_from world is_table_mode is_row_mode table_mode
from0_21 = link head lines w_21 (conn 0) None e_21 rest_22 None (λ h. not_own h) (refl) from0_22

from0_20 : ConductFrom head lines w_20 (conn 0) None rest_20
unfolding mode_number mode_eq goes_with compatible joined at_least covers escalated value_cmp value_eq value_lt name_eq is_hold_of opposes stands_before world_from world is_table_mode is_row_mode table_mode
from0_20 = link head lines w_20 (conn 0) None e_20 rest_21 None (λ h. not_own h) (refl) from0_21

from0_19 : ConductFrom head lines w_19 (conn 0) None rest_19
unfolding mode_number mode_eq goes_with compatible joined at_least covers escalated value_cmp value_eq value_lt name_eq is_hold_of opposes stands_before world_from world is_table_mode is_row_mode table_mode
from0_19 = link head lines w_19 (conn 0) None e_19 rest_20 None (λ h. refl) (refl) from0_20

from0_18 : ConductFrom head lines w_18 (conn 0) None rest_18
unfolding mode_number mode_eq goes_with compatible joined at_least covers escalated value_cmp value_eq value_lt name_eq is_hold_of opposes stands_before world_from world is_table_mode is_row_mode table_mode
from0_18 = link head lines w_18 (conn 0) None e_18 rest_19 None (λ h. refl) (refl) from0_19

from0_17 : ConductFrom head lines w_17 (conn 0) None rest_17
unfolding mode_number mode_eq goes_with compatible joined at_least covers escalated value_cmp value_eq value_lt name_eq is_hold_of opposes stands_before world_from world is_table_mode is_row_mode table_mode
from0_17 = link head lines w_17 (conn 0) None e_17 rest_18 None (λ h. refl) (refl) from0_18

from0_16 : ConductFrom head lines w_16 (conn 0) None rest_16
unfolding mode_number mode_eq goes_with compatible joined at_least covers escalated value_cmp value_eq value_lt name_eq is_hold_of opposes stands_before world_from world is_table_mode is_row_mode table_mode
from0_16 = link head lines w_16 (conn 0) None e_16 rest_17 None (λ h. not_own h) (refl) from0_17

from0_15 : ConductFrom head lines w_15 (conn 0) (Some o0_15) rest_15
unfolding mode_number mode_eq goes_with compatible joined at_least covers escalated value_cmp value_eq value_lt name_eq is_hold_of opposes stands_before world_from world is_table_mode is_row_mode table_mode
from0_15 = link head lines w_15 (conn 0) (Some o0_15) e_15 rest_16 None (λ h k. refl) (refl) from0_16

from0_14 : ConductFrom head lines w_14 (conn 0) (Some o0_14) rest_14
unfolding mode_number mode_eq goes_with compatible joined at_least covers escalated value_cmp value_eq value_lt name_eq is_hold_of opposes stands_before world_from world is_table_mode is_row_mode table_mode
from0_14 = link head lines w_14 (conn 0) (Some o0_14) e_14 rest_15 (Some o0_15) (λ h k. refl) (refl) from0_15

from0_13 : ConductFrom head lines w_13 (conn 0) (Some o0_11) rest_13
unfolding mode_number mode_eq goes_with compatible joined at_least covers escalated value_cmp value_eq value_lt name_eq is_hold_of opposes stands_before world_from world is_table_mode is_row_mode table_mode
from0_13 = link head lines w_13 (conn 0) (Some o0_11) e_13 rest_14 (Some o0_14) (λ h k. refl) (refl) from0_14

from0_12 : ConductFrom head lines w_12 (conn 0) (Some o0_11) rest_12
unfolding mode_number mode_eq goes_with compatible joined at_least covers escalated value_cmp value_eq value_lt name_eq is_hold_of opposes stands_before world_from world is_table_mode is_row_mode table_mode
from0_12 = link head lines w_12 (conn 0) (Some o0_11) e_12 rest_13 (Some o0_11) (λ h. not_own h) (refl) from0_13

from0_11 : ConductFrom head lines w_11 (conn 0) (Some o0_11) rest_11
unfolding mode_number mode_eq goes_with compatible joined at_least covers escalated value_cmp value_eq value_lt name_eq is_hold_of opposes stands_before world_from world is_table_mode is_row_mode table_mode
from0_11 = link head lines w_11 (conn 0) (Some o0_11) e_11 rest_12 (Some o0_11) (λ h. not_own h) (refl) from0_12

from0_10 : ConductFrom head lines w_10 (conn 0) (Some o0_10) rest_10
unfolding mode_number mode_eq goes_with compatible joined at_least covers escalated value_cmp value_eq value_lt name_eq is_hold_of opposes stands_before world_from world is_table_mode is_row_mode table_mode
from0_10 = link head lines w_10 (conn 0) (Some o0_10) e_10 rest_11 (Some o0_11) (λ h k. refl) (refl) from0_11

from0_9 : ConductFrom head lines w_9 (conn 0) None rest_9
unfolding mode_number mode_eq goes_with compatible joined at_least covers escalated value_cmp value_eq value_lt name_eq is_hold_of opposes stands_before world_from world is_table_mode is_row_mode table_mode
from0_9 = begins head lines w_9 (conn 0) o0_9 e_9 rest_10 refl (refl) (link head lines w_9 (conn 0) (Some o0_9) e_9 rest_10 (Some o0_10) (λ h k. refl) (refl) from0_10)

from0_8 : ConductFrom head lines w_8 (conn 0) None rest_8
unfolding mode_number mode_eq goes_with compatible joined at_least covers escalated value_cmp value_eq value_lt name_eq is_hold_of opposes stands_before world_from world is_table_mode is_row_mode table_mode
from0_8 = link head lines w_8 (conn 0) None e_8 rest_9 None (λ h. not_own h) (refl) from0_9

from0_7 : ConductFrom head lines w_7 (conn 0) (Some o0_7) rest_7
unfolding mode_number mode_eq goes_with compatible joined at_least covers escalated value_cmp value_eq value_lt name_eq is_hold_of opposes stands_before world_from world is_table_mode is_row_mode table_mode
from0_7 = link head lines w_7 (conn 0) (Some o0_7) e_7 rest_8 None (λ h k. refl) (refl) from0_8

from0_6 : ConductFrom head lines w_6 (conn 0) (Some o0_6) rest_6
unfolding mode_number mode_eq goes_with compatible joined at_least covers escalated value_cmp value_eq value_lt name_eq is_hold_of opposes stands_before world_from world is_table_mode is_row_mode table_mode
from0_6 = link head lines w_6 (conn 0) (Some o0_6) e_6 rest_7 (Some o0_7) (λ h k. refl) (refl) from0_7

from0_5 : ConductFrom head lines w_5 (conn 0) None rest_5
unfolding mode_number mode_eq goes_with compatible joined at_least covers escalated value_cmp value_eq value_lt name_eq is_hold_of opposes stands_before world_from world is_table_mode is_row_mode table_mode
from0_5 = begins head lines w_5 (conn 0) o0_5 e_5 rest_6 refl (refl) (link head lines w_5 (conn 0) (Some o0_5) e_5 rest_6 (Some o0_6) (λ h k. refl) (refl) from0_6)

from0_4 : ConductFrom head lines w_4 (conn 0) None rest_4
unfolding mode_number mode_eq goes_with compatible joined at_least covers escalated value_cmp value_eq value_lt name_eq is_hold_of opposes stands_before world_from world is_table_mode is_row_mode table_mode
from0_4 = link head lines w_4 (conn 0) None e_4 rest_5 None (λ h. not_own h) (refl) from0_5

from0_3 : ConductFrom head lines w_3 (conn 0) None rest_3
unfolding mode_number mode_eq goes_with compatible joined at_least covers escalated value_cmp value_eq value_lt name_eq is_hold_of opposes stands_before world_from world is_table_mode is_row_mode table_mode
from0_3 = link head lines w_3 (conn 0) None e_3 rest_4 None (λ h. not_own h) (refl) from0_4

from0_2 : ConductFrom head lines w_2 (conn 0) None rest_2
unfolding mode_number mode_eq goes_with compatible joined at_least covers escalated value_cmp value_eq value_lt name_eq is_hold_of opposes stands_before world_from world is_table_mode is_row_mode table_mode
from0_2 = link head lines w_2 (conn 0) None e_2 rest_3 None (λ h. not_own h) (refl) from0_3

from0_1 : ConductFrom head lines w_1 (conn 0) None rest_1
unfolding mode_number mode_eq goes_with compatible joined at_least covers escalated value_cmp value_eq value_lt name_eq is_hold_of opposes stands_before world_from world is_table_mode is_row_mode table_mode
from0_1 = link head lines w_1 (conn 0) None e_1 rest_2 None (λ h. not_own h) (refl) from0_2

from0_0 : ConductFrom head lines w_0 (conn 0) None rest_0
unfolding mode_number mode_eq goes_with compatible joined at_least covers escalated value_cmp value_eq value_lt name_eq is_hold_of opposes stands_before world_from world is_table_mode is_row_mode table_mode
from0_0 = link head lines w_0 (conn 0) None e_0 rest_1 None (λ h. not_own h) (refl) from0_1

conduct_0 : Conduct head lines es (conn 0)
unfolding Conduct
conduct_0 = from0_0

abbrev o1_1 : Point
o1_1 = record { statement = statement_9; columns = []; floor = 0; left = (Asks (Table (table 0)) Is ∷ IndexScan (record { table = table 0; want = Repeat; index = index 0; column = 0; range = range (Some (bound (Int (pos 10)) true)) (Some (bound (Int (pos 20)) true)); guarded = true }) None ∷ Answer ∷ []); kept = Given [] }

abbrev o1_2 : Point
o1_2 = record { statement = statement_9; columns = []; floor = 0; left = (IndexScan (record { table = table 0; want = Repeat; index = index 0; column = 0; range = range (Some (bound (Int (pos 10)) true)) (Some (bound (Int (pos 20)) true)); guarded = true }) None ∷ Answer ∷ []); kept = Given [] }

abbrev o1_3 : Point
o1_3 = record { statement = statement_9; columns = []; floor = 0; left = (Answer ∷ []); kept = Given [] }

abbrev o1_12 : Point
o1_12 = record { statement = statement_12; columns = []; floor = 1; left = (Settles ∷ []); kept = Found [] }

from1_23 : ConductFrom head lines w_23 (conn 1) None rest_23
unfolding mode_number mode_eq goes_with compatible joined at_least covers escalated value_cmp value_eq value_lt name_eq is_hold_of opposes stands_before world_from world is_table_mode is_row_mode table_mode ConductFrom
from1_23 = tt

from1_22 : ConductFrom head lines w_22 (conn 1) None rest_22
unfolding mode_number mode_eq goes_with compatible joined at_least covers escalated value_cmp value_eq value_lt name_eq is_hold_of opposes stands_before world_from world is_table_mode is_row_mode table_mode
from1_22 = link head lines w_22 (conn 1) None e_22 rest_23 None (λ h. not_own h) (refl) from1_23

from1_21 : ConductFrom head lines w_21 (conn 1) None rest_21
unfolding mode_number mode_eq goes_with compatible joined at_least covers escalated value_cmp value_eq value_lt name_eq is_hold_of opposes stands_before world_from world is_table_mode is_row_mode table_mode
from1_21 = link head lines w_21 (conn 1) None e_21 rest_22 None (λ h. refl) (refl) from1_22

from1_20 : ConductFrom head lines w_20 (conn 1) None rest_20
unfolding mode_number mode_eq goes_with compatible joined at_least covers escalated value_cmp value_eq value_lt name_eq is_hold_of opposes stands_before world_from world is_table_mode is_row_mode table_mode
from1_20 = link head lines w_20 (conn 1) None e_20 rest_21 None (λ h. not_own h) (refl) from1_21

from1_19 : ConductFrom head lines w_19 (conn 1) None rest_19
unfolding mode_number mode_eq goes_with compatible joined at_least covers escalated value_cmp value_eq value_lt name_eq is_hold_of opposes stands_before world_from world is_table_mode is_row_mode table_mode
from1_19 = link head lines w_19 (conn 1) None e_19 rest_20 None (λ h. not_own h) (refl) from1_20

from1_18 : ConductFrom head lines w_18 (conn 1) None rest_18
unfolding mode_number mode_eq goes_with compatible joined at_least covers escalated value_cmp value_eq value_lt name_eq is_hold_of opposes stands_before world_from world is_table_mode is_row_mode table_mode
from1_18 = link head lines w_18 (conn 1) None e_18 rest_19 None (λ h. not_own h) (refl) from1_19

from1_17 : ConductFrom head lines w_17 (conn 1) None rest_17
unfolding mode_number mode_eq goes_with compatible joined at_least covers escalated value_cmp value_eq value_lt name_eq is_hold_of opposes stands_before world_from world is_table_mode is_row_mode table_mode
from1_17 = link head lines w_17 (conn 1) None e_17 rest_18 None (λ h. not_own h) (refl) from1_18

from1_16 : ConductFrom head lines w_16 (conn 1) None rest_16
unfolding mode_number mode_eq goes_with compatible joined at_least covers escalated value_cmp value_eq value_lt name_eq is_hold_of opposes stands_before world_from world is_table_mode is_row_mode table_mode
from1_16 = link head lines w_16 (conn 1) None e_16 rest_17 None (λ h. not_own h) (refl) from1_17

from1_15 : ConductFrom head lines w_15 (conn 1) None rest_15
unfolding mode_number mode_eq goes_with compatible joined at_least covers escalated value_cmp value_eq value_lt name_eq is_hold_of opposes stands_before world_from world is_table_mode is_row_mode table_mode
from1_15 = link head lines w_15 (conn 1) None e_15 rest_16 None (λ h. not_own h) (refl) from1_16

from1_14 : ConductFrom head lines w_14 (conn 1) None rest_14
unfolding mode_number mode_eq goes_with compatible joined at_least covers escalated value_cmp value_eq value_lt name_eq is_hold_of opposes stands_before world_from world is_table_mode is_row_mode table_mode
from1_14 = link head lines w_14 (conn 1) None e_14 rest_15 None (λ h. not_own h) (refl) from1_15

from1_13 : ConductFrom head lines w_13 (conn 1) None rest_13
unfolding mode_number mode_eq goes_with compatible joined at_least covers escalated value_cmp value_eq value_lt name_eq is_hold_of opposes stands_before world_from world is_table_mode is_row_mode table_mode
from1_13 = link head lines w_13 (conn 1) None e_13 rest_14 None (λ h. not_own h) (refl) from1_14

from1_12 : ConductFrom head lines w_12 (conn 1) None rest_12
unfolding mode_number mode_eq goes_with compatible joined at_least covers escalated value_cmp value_eq value_lt name_eq is_hold_of opposes stands_before world_from world is_table_mode is_row_mode table_mode
from1_12 = begins head lines w_12 (conn 1) o1_12 e_12 rest_13 refl (refl) (link head lines w_12 (conn 1) (Some o1_12) e_12 rest_13 None (λ h k. refl) (refl) from1_13)

from1_11 : ConductFrom head lines w_11 (conn 1) None rest_11
unfolding mode_number mode_eq goes_with compatible joined at_least covers escalated value_cmp value_eq value_lt name_eq is_hold_of opposes stands_before world_from world is_table_mode is_row_mode table_mode
from1_11 = link head lines w_11 (conn 1) None e_11 rest_12 None (λ h. not_own h) (refl) from1_12

from1_10 : ConductFrom head lines w_10 (conn 1) None rest_10
unfolding mode_number mode_eq goes_with compatible joined at_least covers escalated value_cmp value_eq value_lt name_eq is_hold_of opposes stands_before world_from world is_table_mode is_row_mode table_mode
from1_10 = link head lines w_10 (conn 1) None e_10 rest_11 None (λ h. not_own h) (refl) from1_11

from1_9 : ConductFrom head lines w_9 (conn 1) None rest_9
unfolding mode_number mode_eq goes_with compatible joined at_least covers escalated value_cmp value_eq value_lt name_eq is_hold_of opposes stands_before world_from world is_table_mode is_row_mode table_mode
from1_9 = link head lines w_9 (conn 1) None e_9 rest_10 None (λ h. not_own h) (refl) from1_10

from1_8 : ConductFrom head lines w_8 (conn 1) None rest_8
unfolding mode_number mode_eq goes_with compatible joined at_least covers escalated value_cmp value_eq value_lt name_eq is_hold_of opposes stands_before world_from world is_table_mode is_row_mode table_mode
from1_8 = link head lines w_8 (conn 1) None e_8 rest_9 None (λ h. not_own h) (refl) from1_9

from1_7 : ConductFrom head lines w_7 (conn 1) None rest_7
unfolding mode_number mode_eq goes_with compatible joined at_least covers escalated value_cmp value_eq value_lt name_eq is_hold_of opposes stands_before world_from world is_table_mode is_row_mode table_mode
from1_7 = link head lines w_7 (conn 1) None e_7 rest_8 None (λ h. not_own h) (refl) from1_8

from1_6 : ConductFrom head lines w_6 (conn 1) None rest_6
unfolding mode_number mode_eq goes_with compatible joined at_least covers escalated value_cmp value_eq value_lt name_eq is_hold_of opposes stands_before world_from world is_table_mode is_row_mode table_mode
from1_6 = link head lines w_6 (conn 1) None e_6 rest_7 None (λ h. not_own h) (refl) from1_7

from1_5 : ConductFrom head lines w_5 (conn 1) None rest_5
unfolding mode_number mode_eq goes_with compatible joined at_least covers escalated value_cmp value_eq value_lt name_eq is_hold_of opposes stands_before world_from world is_table_mode is_row_mode table_mode
from1_5 = link head lines w_5 (conn 1) None e_5 rest_6 None (λ h. not_own h) (refl) from1_6

from1_4 : ConductFrom head lines w_4 (conn 1) None rest_4
unfolding mode_number mode_eq goes_with compatible joined at_least covers escalated value_cmp value_eq value_lt name_eq is_hold_of opposes stands_before world_from world is_table_mode is_row_mode table_mode
from1_4 = link head lines w_4 (conn 1) None e_4 rest_5 None (λ h. not_own h) (refl) from1_5

from1_3 : ConductFrom head lines w_3 (conn 1) (Some o1_3) rest_3
unfolding mode_number mode_eq goes_with compatible joined at_least covers escalated value_cmp value_eq value_lt name_eq is_hold_of opposes stands_before world_from world is_table_mode is_row_mode table_mode
from1_3 = link head lines w_3 (conn 1) (Some o1_3) e_3 rest_4 None (λ h k. refl) (refl) from1_4

from1_2 : ConductFrom head lines w_2 (conn 1) (Some o1_2) rest_2
unfolding mode_number mode_eq goes_with compatible joined at_least covers escalated value_cmp value_eq value_lt name_eq is_hold_of opposes stands_before world_from world is_table_mode is_row_mode table_mode
from1_2 = link head lines w_2 (conn 1) (Some o1_2) e_2 rest_3 (Some o1_3) (λ h k. refl) (refl) from1_3

from1_1 : ConductFrom head lines w_1 (conn 1) None rest_1
unfolding mode_number mode_eq goes_with compatible joined at_least covers escalated value_cmp value_eq value_lt name_eq is_hold_of opposes stands_before world_from world is_table_mode is_row_mode table_mode
from1_1 = begins head lines w_1 (conn 1) o1_1 e_1 rest_2 refl (ap (λ x. Some (begun head w_1 (conn 1) statement_9 (select_list head (table 0) (level_in (w_1.setting (conn 1)) None) x))) plan_9) (link head lines w_1 (conn 1) (Some o1_1) e_1 rest_2 (Some o1_2) (λ h k. refl) (refl) from1_2)

from1_0 : ConductFrom head lines w_0 (conn 1) None rest_0
unfolding mode_number mode_eq goes_with compatible joined at_least covers escalated value_cmp value_eq value_lt name_eq is_hold_of opposes stands_before world_from world is_table_mode is_row_mode table_mode
from1_0 = link head lines w_0 (conn 1) None e_0 rest_1 None (λ h. not_own h) (refl) from1_1

conduct_1 : Conduct head lines es (conn 1)
unfolding Conduct
conduct_1 = from1_0

paced : Paced head lines es
unfolding mode_number mode_eq goes_with compatible joined at_least covers escalated value_cmp value_eq value_lt name_eq is_hold_of opposes stands_before world_from world is_table_mode is_row_mode table_mode PacedFrom Paced
paced = (refl, (tt, (tt, (tt, (refl, (tt, (tt, (tt, (refl, (tt, (tt, (refl, (tt, (tt, (tt, (tt, (refl, (tt, (tt, (tt, (refl, (tt, (refl, tt)))))))))))))))))))))))

scheduled : Scheduled head lines None es
unfolding mode_number mode_eq goes_with compatible joined at_least covers escalated value_cmp value_eq value_lt name_eq is_hold_of opposes stands_before world_from world is_table_mode is_row_mode table_mode ScheduledFrom Scheduled
scheduled = (refl, (λ k. refl, λ h. no_stop h), (refl, tt, (refl, tt, (refl, tt, (refl, (λ k. refl, λ h. no_stop h), (refl, tt, (refl, tt, (refl, tt, (refl, (λ k. refl, λ h. no_stop h), (refl, tt, (refl, tt, (refl, (λ k. refl, λ h. no_stop h), (refl, tt, (refl, tt, (refl, tt, (refl, tt, (refl, (λ k. refl, λ h. no_stop h), (refl, tt, (refl, tt, (refl, tt, (refl, (λ k. refl, λ h. no_stop h), (refl, tt, (refl, (λ k. refl, λ h. no_stop h), tt)))))))))))))))))))))))

whole : IsWhole (record { head = head; lines = lines }) es
unfolding mode_number mode_eq goes_with compatible joined at_least covers escalated value_cmp value_eq value_lt name_eq is_hold_of opposes stands_before world_from world is_table_mode is_row_mode table_mode
whole = record { finished = (take 22 es, refl); unstopped = refl; lines = refl; ended = refl }
