-- An insertion that is read and committed: legal, scheduled and whole, by computing.
use Rattle.std.proofs.Common.{◌≡◌, ℕ, Bool, true, false, List, [], ◌∷◌, refl, Some, None, length, take, drop, pos, negsuc}
use Rattle.std.specs.List.{list_all}
use Rattle.iso_types.specs.declared.value.Value.{Value}
use Rattle.iso_types.specs.declared.value.Value.TheVariants.{Null, Int}
use Rattle.iso_types.specs.declared.value.Name.TheVariants.{Table, Row, Key, End}
use Rattle.iso_types.specs.declared.head.Head.{Head}
use Rattle.iso_types.specs.declared.head.ColumnKind.TheVariants.{Integer, Bigint, Varchar}
use Rattle.iso_types.specs.declared.head.Isolation.TheVariants.{Ur, Cs, Rs, Rr}
use Rattle.iso_modes.specs.declared.Mode.TheVariants.{In, Is, Ns, S, Ix, Six, U, X, Nw, Z}
use Rattle.iso_modes.specs.declared.Term.TheVariants.{Kept, Brief, Fresh}
use Rattle.iso_modes.specs.declared.LockState.{LockState}
use Rattle.iso_modes.specs.declared.LockState.TheVariants.{Converting}
use Rattle.iso_queue.specs.declared.LockLine.{LockLine}
use Rattle.iso_history.specs.declared.entry.Act.{Act}
use Rattle.iso_history.specs.declared.entry.Act.TheVariants.{Dispatch, Busy, Expire, Snapshot, Victim, Purge, Close, Stopped, Finish, Lock, Claim, Look, ScanEnd, Next, Free, Collapse, Insert, Update, Delete, Refused, Undo, Mark, Back, Set, Commit, Rollback, Reply}
use Rattle.iso_history.specs.declared.entry.Why.TheVariants.{Asked, Escalation, Blocked}
use Rattle.iso_history.specs.declared.entry.Got.{Got}
use Rattle.iso_history.specs.declared.entry.Stand.{Stand}
use Rattle.iso_history.specs.declared.entry.Stand.TheVariants.{At, Past}
use Rattle.iso_history.specs.declared.entry.Want.{Want}
use Rattle.iso_history.specs.declared.entry.Want.TheVariants.{Dirty, Current, Steady, Repeat, Alter, AlterKept}
use Rattle.iso_history.specs.declared.entry.Cause.{Cause}
use Rattle.iso_history.specs.declared.entry.Cause.TheVariants.{Memory, History}
use Rattle.iso_history.specs.declared.entry.Entry.{Entry}
use Rattle.iso_sql.specs.declared.statement.Statement.{Statement}
use Rattle.iso_sql.specs.declared.statement.Statement.TheVariants.{Select, RollbackTo, Savepoint, LockTable, SetIsolation, SetWait}
use Rattle.iso_sql.specs.declared.statement.Expr.{Expr}
use Rattle.iso_sql.specs.declared.statement.Items2.TheVariants.{All, Count, Columns}
use Rattle.iso_sql.specs.declared.statement.Op.TheVariants.{Eq, Ne, Lt, Le, Gt, Ge}
use Rattle.iso_script.specs.declared.script.Line.{Line}
use Rattle.iso_script.specs.declared.script.What.{What}
use Rattle.iso_script.specs.declared.script.Script.{Script}
use Rattle.iso_rows.proofs.Short.{conn, table, index, rid, dispatcher, agent, bound, range, lock_line, column, table_def, index_def, conn_def, first_row, config, heading, line, assign, sets_of, not_own, no_stop}
use Rattle.iso_modes.specs.Modes.{mode_number, mode_eq, goes_with, compatible, joined, at_least, covers, escalated}
use Rattle.iso_types.specs.Value.{value_cmp, value_eq, value_lt}
use Rattle.iso_types.specs.Ids.{name_eq}
use Rattle.iso_queue.specs.Locks.{is_hold_of}
use Rattle.iso_queue.specs.Queues.{opposes}
use Rattle.iso_queue.specs.Snapshots.{stands_before, snapshot}
use Rattle.iso_history.specs.After.{world_from, world, start}
use Rattle.iso_history.specs.Requests.{is_table_mode, is_row_mode, table_mode}
use Rattle.iso_history.specs.Legal.{GroundFrom, Ground}
use Rattle.iso_conduct.specs.Conduct.{Conduct, ConductFrom, point, point_from}
use Rattle.iso_conduct.specs.Pacing.{Paced, PacedFrom, lines_left, lines_from}
use Rattle.iso_conduct.specs.Schedule.{Scheduled, ScheduledFrom}
use Rattle.iso_conduct.specs.Whole.{IsWhole, is_line_done}
use Rattle.std.proofs.Common.{◌∙◌, ap, Option}
use Rattle.iso_conduct.specs.Conduct.{Does, point_after}
use Rattle.iso_conduct.specs.Parts.{Part, change_list, level_in, select_list}
use Rattle.iso_conduct.specs.Parts.Part.{Answer, Asks, Backs, Changes, Claims, Collapses, EntryLook, Frees, IndexScan, Leaves, Marks, NewRow, Replies, RowDelete, RowUpdate, Sets, Settles, TableScan, Undos}
use Rattle.iso_conduct.specs.Points.{Point, is_true, updated_columns}
use Rattle.iso_conduct.specs.Points.Haul.{Found, Given, Number}
use Rattle.iso_history.specs.World.{World}
use Rattle.iso_history.specs.After.{after}
use Rattle.iso_predicate.specs.Plan.{bounds_at, common_of, first_path, path_by, plan_of}
use Rattle.iso_predicate.specs.Truth.{between, both, compared, either, known, negated, truth, value_at}
use Rattle.iso_predicate.specs.declared.conditions.Truth.TheVariants.{True}
use Rattle.iso_predicate.specs.declared.plans.Path.{Path}
use Rattle.iso_sql.specs.declared.statement.Condition.{Condition}
use Rattle.iso_sql.specs.declared.statement.Condition.TheOpen.{Condition-F}
use Rattle.iso_sql.specs.declared.statement.Condition.TheVariants as c
use Rattle.iso_types.specs.Head.{is_null}
use Rattle.iso_rows.proofs.Linked.{always-bounds, always-truth, and-bounds-by, and-by, begins, begun, between-bounds, between-truth, compare-bounds, compare-truth, link, not-bounds, not-by, null-bounds, null-truth, or-bounds, or-by, past_look}

abbrev head : Head
head = heading (config true 1024 60 65536 65536)
    (table_def (column Integer false ∷ []) ∷ [])
    []
    []
    (conn_def Cs ∷ [])

abbrev statement_5 : Statement
statement_5 = Statement.Insert (table 0) ((Int (pos 7)) ∷ [])

abbrev statement_6 : Statement
statement_6 = Select (table 0) (Columns (0 ∷ [])) c.Always (Some Ur)

abbrev cond_6 : Condition
cond_6 = c.Always

truth_6 : (shown : List Value) → truth shown cond_6 ≡ True
truth_6 shown = always-truth shown

plan_6 : plan_of head (table 0) cond_6 ≡ Path.Table
unfolding mode_number mode_eq goes_with compatible joined at_least covers escalated value_cmp value_eq value_lt name_eq is_hold_of opposes stands_before world_from world is_table_mode is_row_mode table_mode
plan_6 = refl

abbrev statement_7 : Statement
statement_7 = Statement.Commit

abbrev lines : List Line
lines =
    (line 5 (Some (conn 0)) false (What.Statement (Statement.Insert (table 0) ((Int (pos 7)) ∷ [])))
    ∷ line 6 (Some (conn 0)) false (What.Statement (Select (table 0) (Columns (0 ∷ [])) c.Always (Some Ur)))
    ∷ line 7 (Some (conn 0)) false (What.Statement (Statement.Commit)) ∷ [])

abbrev e_0 : Entry
e_0 = dispatcher (Dispatch 5 (conn 0))

abbrev e_1 : Entry
e_1 = agent 0 (Lock (Table (table 0)) Ix Kept Asked Got.Granted)

abbrev e_2 : Entry
e_2 = agent 0 (Insert (table 0) (rid 0) ((Int (pos 7)) ∷ []))

abbrev e_3 : Entry
e_3 = agent 0 (Reply (pos 0) 1 [])

abbrev e_4 : Entry
e_4 = dispatcher (Dispatch 6 (conn 0))

abbrev e_5 : Entry
e_5 = agent 0 (Lock (Table (table 0)) In Kept Asked Got.Granted)

abbrev e_6 : Entry
e_6 = agent 0 (Look (table 0) (rid 0) Dirty Got.Granted)

abbrev e_7 : Entry
e_7 = agent 0 (ScanEnd (table 0) 1)

abbrev e_8 : Entry
e_8 = agent 0 (Reply (pos 0) 0 (((Int (pos 7)) ∷ []) ∷ []))

abbrev e_9 : Entry
e_9 = dispatcher (Dispatch 7 (conn 0))

abbrev e_10 : Entry
e_10 = agent 0 (Commit)

abbrev e_11 : Entry
e_11 = dispatcher (Close (conn 0))

abbrev e_12 : Entry
e_12 = agent 0 (Act.Ended)

abbrev e_13 : Entry
e_13 = dispatcher (Finish)

abbrev rest_14 : List Entry
rest_14 = []

abbrev rest_13 : List Entry
rest_13 = e_13 ∷ rest_14

abbrev rest_12 : List Entry
rest_12 = e_12 ∷ rest_13

abbrev rest_11 : List Entry
rest_11 = e_11 ∷ rest_12

abbrev rest_10 : List Entry
rest_10 = e_10 ∷ rest_11

abbrev rest_9 : List Entry
rest_9 = e_9 ∷ rest_10

abbrev rest_8 : List Entry
rest_8 = e_8 ∷ rest_9

abbrev rest_7 : List Entry
rest_7 = e_7 ∷ rest_8

abbrev rest_6 : List Entry
rest_6 = e_6 ∷ rest_7

abbrev rest_5 : List Entry
rest_5 = e_5 ∷ rest_6

abbrev rest_4 : List Entry
rest_4 = e_4 ∷ rest_5

abbrev rest_3 : List Entry
rest_3 = e_3 ∷ rest_4

abbrev rest_2 : List Entry
rest_2 = e_2 ∷ rest_3

abbrev rest_1 : List Entry
rest_1 = e_1 ∷ rest_2

abbrev rest_0 : List Entry
rest_0 = e_0 ∷ rest_1

abbrev w_0 : World
w_0 = start head

abbrev w_1 : World
w_1 = after head w_0 e_0

abbrev w_2 : World
w_2 = after head w_1 e_1

abbrev w_3 : World
w_3 = after head w_2 e_2

abbrev w_4 : World
w_4 = after head w_3 e_3

abbrev w_5 : World
w_5 = after head w_4 e_4

abbrev w_6 : World
w_6 = after head w_5 e_5

abbrev w_7 : World
w_7 = after head w_6 e_6

abbrev w_8 : World
w_8 = after head w_7 e_7

abbrev w_9 : World
w_9 = after head w_8 e_8

abbrev w_10 : World
w_10 = after head w_9 e_9

abbrev w_11 : World
w_11 = after head w_10 e_10

abbrev w_12 : World
w_12 = after head w_11 e_11

abbrev w_13 : World
w_13 = after head w_12 e_12

abbrev w_14 : World
w_14 = after head w_13 e_13

abbrev es : List Entry
es = rest_0

ground : Ground head es
unfolding mode_number mode_eq goes_with compatible joined at_least covers escalated value_cmp value_eq value_lt name_eq is_hold_of opposes stands_before world_from world is_table_mode is_row_mode table_mode GroundFrom Ground
ground = ((refl, refl, (refl, refl, refl)), ((refl, refl, (refl, ((refl, refl), (refl, refl, refl)))), ((refl, refl, (refl, ((refl, refl), refl, refl, refl, refl))), ((refl, refl, (refl, (refl, refl))), ((refl, refl, (refl, refl, refl)), ((refl, refl, (refl, ((refl, refl), (refl, refl, refl)))), ((refl, refl, (refl, ((refl, refl), refl, refl))), ((refl, refl, (refl, ((refl, refl), refl, refl))), ((refl, refl, (refl, (refl, refl))), ((refl, refl, (refl, refl, refl)), ((refl, refl, (refl, (refl, refl))), ((refl, refl, (refl, refl)), ((refl, refl, (refl, (refl, refl))), ((refl, refl, refl), tt))))))))))))))

abbrev o0_1 : Point
o0_1 = record { statement = statement_5; columns = []; floor = 0; left = (Asks (Table (table 0)) Ix ∷ NewRow (table 0) ((Int (pos 7)) ∷ []) ∷ Replies (pos 0) 1 ∷ []); kept = Found [] }

abbrev o0_2 : Point
o0_2 = record { statement = statement_5; columns = []; floor = 0; left = (NewRow (table 0) ((Int (pos 7)) ∷ []) ∷ Replies (pos 0) 1 ∷ []); kept = Found [] }

abbrev o0_3 : Point
o0_3 = record { statement = statement_5; columns = []; floor = 0; left = (Replies (pos 0) 1 ∷ []); kept = Found [] }

abbrev o0_5 : Point
o0_5 = record { statement = statement_6; columns = []; floor = 1; left = (Asks (Table (table 0)) In ∷ TableScan (table 0) Dirty 0 ∷ Answer ∷ []); kept = Given [] }

abbrev o0_6 : Point
o0_6 = record { statement = statement_6; columns = []; floor = 1; left = (TableScan (table 0) Dirty 0 ∷ Answer ∷ []); kept = Given [] }

abbrev o0_7 : Point
o0_7 = record { statement = statement_6; columns = []; floor = 1; left = (TableScan (table 0) Dirty 1 ∷ Answer ∷ []); kept = Given (((Int (pos 7)) ∷ []) ∷ []) }

abbrev o0_8 : Point
o0_8 = record { statement = statement_6; columns = []; floor = 1; left = (Answer ∷ []); kept = Given (((Int (pos 7)) ∷ []) ∷ []) }

abbrev o0_10 : Point
o0_10 = record { statement = statement_7; columns = []; floor = 1; left = (Settles ∷ []); kept = Found [] }

from0_14 : ConductFrom head lines w_14 (conn 0) None rest_14
unfolding mode_number mode_eq goes_with compatible joined at_least covers escalated value_cmp value_eq value_lt name_eq is_hold_of opposes stands_before world_from world is_table_mode is_row_mode table_mode ConductFrom
from0_14 = tt

from0_13 : ConductFrom head lines w_13 (conn 0) None rest_13
unfolding mode_number mode_eq goes_with compatible joined at_least covers escalated value_cmp value_eq value_lt name_eq is_hold_of opposes stands_before world_from world is_table_mode is_row_mode table_mode
from0_13 = link head lines w_13 (conn 0) None e_13 rest_14 None (λ h. not_own h) (refl) from0_14

from0_12 : ConductFrom head lines w_12 (conn 0) None rest_12
unfolding mode_number mode_eq goes_with compatible joined at_least covers escalated value_cmp value_eq value_lt name_eq is_hold_of opposes stands_before world_from world is_table_mode is_row_mode table_mode
from0_12 = link head lines w_12 (conn 0) None e_12 rest_13 None (λ h. refl) (refl) from0_13

from0_11 : ConductFrom head lines w_11 (conn 0) None rest_11
unfolding mode_number mode_eq goes_with compatible joined at_least covers escalated value_cmp value_eq value_lt name_eq is_hold_of opposes stands_before world_from world is_table_mode is_row_mode table_mode
from0_11 = link head lines w_11 (conn 0) None e_11 rest_12 None (λ h. not_own h) (refl) from0_12

from0_10 : ConductFrom head lines w_10 (conn 0) None rest_10
unfolding mode_number mode_eq goes_with compatible joined at_least covers escalated value_cmp value_eq value_lt name_eq is_hold_of opposes stands_before world_from world is_table_mode is_row_mode table_mode
from0_10 = begins head lines w_10 (conn 0) o0_10 e_10 rest_11 refl (refl) (link head lines w_10 (conn 0) (Some o0_10) e_10 rest_11 None (λ h k. refl) (refl) from0_11)

from0_9 : ConductFrom head lines w_9 (conn 0) None rest_9
unfolding mode_number mode_eq goes_with compatible joined at_least covers escalated value_cmp value_eq value_lt name_eq is_hold_of opposes stands_before world_from world is_table_mode is_row_mode table_mode
from0_9 = link head lines w_9 (conn 0) None e_9 rest_10 None (λ h. not_own h) (refl) from0_10

from0_8 : ConductFrom head lines w_8 (conn 0) (Some o0_8) rest_8
unfolding mode_number mode_eq goes_with compatible joined at_least covers escalated value_cmp value_eq value_lt name_eq is_hold_of opposes stands_before world_from world is_table_mode is_row_mode table_mode
from0_8 = link head lines w_8 (conn 0) (Some o0_8) e_8 rest_9 None (λ h k. refl) (refl) from0_9

from0_7 : ConductFrom head lines w_7 (conn 0) (Some o0_7) rest_7
unfolding mode_number mode_eq goes_with compatible joined at_least covers escalated value_cmp value_eq value_lt name_eq is_hold_of opposes stands_before world_from world is_table_mode is_row_mode table_mode
from0_7 = link head lines w_7 (conn 0) (Some o0_7) e_7 rest_8 (Some o0_8) (λ h k. refl) (refl) from0_8

from0_6 : ConductFrom head lines w_6 (conn 0) (Some o0_6) rest_6
unfolding mode_number mode_eq goes_with compatible joined at_least covers escalated value_cmp value_eq value_lt name_eq is_hold_of opposes stands_before world_from world is_table_mode is_row_mode table_mode
from0_6 = link head lines w_6 (conn 0) (Some o0_6) e_6 rest_7 (Some o0_7) (λ h k. refl) (ap (λ x. past_look head lines w_6 (conn 0) o0_6 (table 0) (rid 0) Dirty x) (ap is_true (truth_6 ((Int (pos 7)) ∷ [])))) from0_7

from0_5 : ConductFrom head lines w_5 (conn 0) None rest_5
unfolding mode_number mode_eq goes_with compatible joined at_least covers escalated value_cmp value_eq value_lt name_eq is_hold_of opposes stands_before world_from world is_table_mode is_row_mode table_mode
from0_5 = begins head lines w_5 (conn 0) o0_5 e_5 rest_6 refl (ap (λ x. Some (begun head w_5 (conn 0) statement_6 (select_list head (table 0) (level_in (w_5.setting (conn 0)) (Some Ur)) x))) plan_6) (link head lines w_5 (conn 0) (Some o0_5) e_5 rest_6 (Some o0_6) (λ h k. refl) (refl) from0_6)

from0_4 : ConductFrom head lines w_4 (conn 0) None rest_4
unfolding mode_number mode_eq goes_with compatible joined at_least covers escalated value_cmp value_eq value_lt name_eq is_hold_of opposes stands_before world_from world is_table_mode is_row_mode table_mode
from0_4 = link head lines w_4 (conn 0) None e_4 rest_5 None (λ h. not_own h) (refl) from0_5

from0_3 : ConductFrom head lines w_3 (conn 0) (Some o0_3) rest_3
unfolding mode_number mode_eq goes_with compatible joined at_least covers escalated value_cmp value_eq value_lt name_eq is_hold_of opposes stands_before world_from world is_table_mode is_row_mode table_mode
from0_3 = link head lines w_3 (conn 0) (Some o0_3) e_3 rest_4 None (λ h k. refl) (refl) from0_4

from0_2 : ConductFrom head lines w_2 (conn 0) (Some o0_2) rest_2
unfolding mode_number mode_eq goes_with compatible joined at_least covers escalated value_cmp value_eq value_lt name_eq is_hold_of opposes stands_before world_from world is_table_mode is_row_mode table_mode
from0_2 = link head lines w_2 (conn 0) (Some o0_2) e_2 rest_3 (Some o0_3) (λ h k. refl) (refl) from0_3

from0_1 : ConductFrom head lines w_1 (conn 0) None rest_1
unfolding mode_number mode_eq goes_with compatible joined at_least covers escalated value_cmp value_eq value_lt name_eq is_hold_of opposes stands_before world_from world is_table_mode is_row_mode table_mode
from0_1 = begins head lines w_1 (conn 0) o0_1 e_1 rest_2 refl (refl) (link head lines w_1 (conn 0) (Some o0_1) e_1 rest_2 (Some o0_2) (λ h k. refl) (refl) from0_2)

from0_0 : ConductFrom head lines w_0 (conn 0) None rest_0
unfolding mode_number mode_eq goes_with compatible joined at_least covers escalated value_cmp value_eq value_lt name_eq is_hold_of opposes stands_before world_from world is_table_mode is_row_mode table_mode
from0_0 = link head lines w_0 (conn 0) None e_0 rest_1 None (λ h. not_own h) (refl) from0_1

conduct_0 : Conduct head lines es (conn 0)
unfolding Conduct
conduct_0 = from0_0

paced : Paced head lines es
unfolding mode_number mode_eq goes_with compatible joined at_least covers escalated value_cmp value_eq value_lt name_eq is_hold_of opposes stands_before world_from world is_table_mode is_row_mode table_mode PacedFrom Paced
paced = (refl, (tt, (tt, (tt, (refl, (tt, (tt, (tt, (tt, (refl, (tt, (refl, (tt, (refl, tt))))))))))))))

scheduled : Scheduled head lines None es
unfolding mode_number mode_eq goes_with compatible joined at_least covers escalated value_cmp value_eq value_lt name_eq is_hold_of opposes stands_before world_from world is_table_mode is_row_mode table_mode ScheduledFrom Scheduled
scheduled = (refl, (λ k. refl, λ h. no_stop h), (refl, tt, (refl, tt, (refl, tt, (refl, (λ k. refl, λ h. no_stop h), (refl, tt, (refl, tt, (refl, tt, (refl, tt, (refl, (λ k. refl, λ h. no_stop h), (refl, tt, (refl, (λ k. refl, λ h. no_stop h), (refl, tt, (refl, (λ k. refl, λ h. no_stop h), tt))))))))))))))

whole : IsWhole (record { head = head; lines = lines }) es
unfolding mode_number mode_eq goes_with compatible joined at_least covers escalated value_cmp value_eq value_lt name_eq is_hold_of opposes stands_before world_from world is_table_mode is_row_mode table_mode
whole = record { finished = (take 13 es, refl); unstopped = refl; lines = refl; ended = refl }
