-- An escalation that waits: legal, scheduled and whole, by computing.
use Rattle.std.proofs.Common.{◌≡◌, ℕ, Bool, true, false, List, [], ◌∷◌, refl, Some, None, length, take, drop, pos, negsuc}
use Rattle.std.specs.List.{list_all}
use Rattle.iso_types.specs.declared.value.Value.{Value}
use Rattle.iso_types.specs.declared.value.Value.TheVariants.{Null, Int}
use Rattle.iso_types.specs.declared.value.Name.TheVariants.{Table, Row, Key, End}
use Rattle.iso_types.specs.declared.head.Head.{Head}
use Rattle.iso_types.specs.declared.head.ColumnKind.TheVariants.{Integer, Bigint, Varchar}
use Rattle.iso_types.specs.declared.head.Isolation.TheVariants.{Ur, Cs, Rs, Rr}
use Rattle.iso_modes.specs.declared.Mode.TheVariants.{In, Is, Ns, S, Ix, Six, U, X, Nw, Z}
use Rattle.iso_modes.specs.declared.Term.TheVariants.{Kept, Brief, Fresh}
use Rattle.iso_modes.specs.declared.LockState.{LockState}
use Rattle.iso_modes.specs.declared.LockState.TheVariants.{Converting}
use Rattle.iso_queue.specs.declared.LockLine.{LockLine}
use Rattle.iso_history.specs.declared.entry.Act.{Act}
use Rattle.iso_history.specs.declared.entry.Act.TheVariants.{Dispatch, Busy, Expire, Snapshot, Victim, Purge, Close, Stopped, Finish, Lock, Claim, Look, ScanEnd, Next, Free, Collapse, Insert, Update, Delete, Refused, Undo, Mark, Back, Set, Commit, Rollback, Reply}
use Rattle.iso_history.specs.declared.entry.Why.TheVariants.{Asked, Escalation, Blocked}
use Rattle.iso_history.specs.declared.entry.Got.{Got}
use Rattle.iso_history.specs.declared.entry.Stand.{Stand}
use Rattle.iso_history.specs.declared.entry.Stand.TheVariants.{At, Past}
use Rattle.iso_history.specs.declared.entry.Want.{Want}
use Rattle.iso_history.specs.declared.entry.Want.TheVariants.{Dirty, Current, Steady, Repeat, Alter, AlterKept}
use Rattle.iso_history.specs.declared.entry.Cause.{Cause}
use Rattle.iso_history.specs.declared.entry.Cause.TheVariants.{Memory, History}
use Rattle.iso_history.specs.declared.entry.Entry.{Entry}
use Rattle.iso_sql.specs.declared.statement.Statement.{Statement}
use Rattle.iso_sql.specs.declared.statement.Statement.TheVariants.{Select, RollbackTo, Savepoint, LockTable, SetIsolation, SetWait}
use Rattle.iso_sql.specs.declared.statement.Expr.{Expr}
use Rattle.iso_sql.specs.declared.statement.Items2.TheVariants.{All, Count, Columns}
use Rattle.iso_sql.specs.declared.statement.Op.TheVariants.{Eq, Ne, Lt, Le, Gt, Ge}
use Rattle.iso_script.specs.declared.script.Line.{Line}
use Rattle.iso_script.specs.declared.script.What.{What}
use Rattle.iso_script.specs.declared.script.Script.{Script}
use Rattle.iso_rows.proofs.Short.{conn, table, index, rid, dispatcher, agent, bound, range, lock_line, column, table_def, index_def, conn_def, first_row, config, heading, line, assign, sets_of, not_own, no_stop}
use Rattle.iso_modes.specs.Modes.{mode_number, mode_eq, goes_with, compatible, joined, at_least, covers, escalated}
use Rattle.iso_types.specs.Value.{value_cmp, value_eq, value_lt}
use Rattle.iso_types.specs.Ids.{name_eq}
use Rattle.iso_queue.specs.Locks.{is_hold_of}
use Rattle.iso_queue.specs.Queues.{opposes}
use Rattle.iso_queue.specs.Snapshots.{stands_before, snapshot}
use Rattle.iso_history.specs.After.{world_from, world, start}
use Rattle.iso_history.specs.Requests.{is_table_mode, is_row_mode, table_mode}
use Rattle.iso_history.specs.Legal.{GroundFrom, Ground}
use Rattle.iso_conduct.specs.Conduct.{Conduct, ConductFrom, point, point_from}
use Rattle.iso_conduct.specs.Pacing.{Paced, PacedFrom, lines_left, lines_from}
use Rattle.iso_conduct.specs.Schedule.{Scheduled, ScheduledFrom}
use Rattle.iso_conduct.specs.Whole.{IsWhole, is_line_done}
use Rattle.std.proofs.Common.{◌∙◌, ap, Option}
use Rattle.iso_conduct.specs.Conduct.{Does, point_after}
use Rattle.iso_conduct.specs.Parts.{Part, change_list, level_in, select_list}
use Rattle.iso_conduct.specs.Parts.Part.{Answer, Asks, Backs, Changes, Claims, Collapses, EntryLook, Frees, IndexScan, Leaves, Marks, NewRow, Replies, RowDelete, RowUpdate, Sets, Settles, TableScan, Undos}
use Rattle.iso_conduct.specs.Points.{Point, is_true, updated_columns}
use Rattle.iso_conduct.specs.Points.Haul.{Found, Given, Number}
use Rattle.iso_history.specs.World.{World}
use Rattle.iso_history.specs.After.{after}
use Rattle.iso_predicate.specs.Plan.{bounds_at, common_of, first_path, path_by, plan_of}
use Rattle.iso_predicate.specs.Truth.{between, both, compared, either, known, negated, truth, value_at}
use Rattle.iso_predicate.specs.declared.conditions.Truth.TheVariants.{True}
use Rattle.iso_predicate.specs.declared.plans.Path.{Path}
use Rattle.iso_sql.specs.declared.statement.Condition.{Condition}
use Rattle.iso_sql.specs.declared.statement.Condition.TheOpen.{Condition-F}
use Rattle.iso_sql.specs.declared.statement.Condition.TheVariants as c
use Rattle.iso_types.specs.Head.{is_null}
use Rattle.iso_rows.proofs.Linked.{always-bounds, always-truth, and-bounds-by, and-by, begins, begun, between-bounds, between-truth, compare-bounds, compare-truth, link, not-bounds, not-by, null-bounds, null-truth, or-bounds, or-by, past_look}

abbrev head : Head
head = heading (config true 4 10 65536 65536)
    (table_def (column Integer true ∷ []) ∷ table_def (column Integer true ∷ []) ∷ [])
    (index_def (table 0) 0 false ∷ [])
    (first_row (table 0) ((Int (pos 1)) ∷ []) ∷ first_row (table 0) ((Int (pos 2)) ∷ []) ∷ first_row (table 0) ((Int (pos 3)) ∷ []) ∷ first_row (table 0) ((Int (pos 4)) ∷ []) ∷ first_row (table 0) ((Int (pos 5)) ∷ []) ∷ first_row (table 0) ((Int (pos 6)) ∷ []) ∷ first_row (table 0) ((Int (pos 7)) ∷ []) ∷ first_row (table 0) ((Int (pos 8)) ∷ []) ∷ first_row (table 0) ((Int (pos 9)) ∷ []) ∷ first_row (table 0) ((Int (pos 10)) ∷ []) ∷ first_row (table 0) ((Int (pos 11)) ∷ []) ∷ first_row (table 0) ((Int (pos 12)) ∷ []) ∷ first_row (table 1) ((Int (pos 1)) ∷ []) ∷ first_row (table 1) ((Int (pos 2)) ∷ []) ∷ [])
    (conn_def Rs ∷ conn_def Cs ∷ [])

abbrev statement_24 : Statement
statement_24 = Select (table 1) Count c.Always None

abbrev cond_24 : Condition
cond_24 = c.Always

truth_24 : (shown : List Value) → truth shown cond_24 ≡ True
truth_24 shown = always-truth shown

plan_24 : plan_of head (table 1) cond_24 ≡ Path.Table
unfolding mode_number mode_eq goes_with compatible joined at_least covers escalated value_cmp value_eq value_lt name_eq is_hold_of opposes stands_before world_from world is_table_mode is_row_mode table_mode
plan_24 = refl

abbrev statement_25 : Statement
statement_25 = Statement.Delete (table 0) (c.Compare 0 Eq (Int (pos 12))) None

abbrev cond_25 : Condition
cond_25 = (c.Compare 0 Eq (Int (pos 12)))

truth_25 : (shown : List Value) → truth shown cond_25 ≡ compared Eq (value_at shown 0) (Int (pos 12))
truth_25 shown = compare-truth shown 0 Eq (Int (pos 12))

plan_25 : plan_of head (table 0) cond_25 ≡ (Path.Index (index 0) (range (Some (bound (Int (pos 12)) true)) (Some (bound (Int (pos 12)) true))))
unfolding mode_number mode_eq goes_with compatible joined at_least covers escalated value_cmp value_eq value_lt name_eq is_hold_of opposes stands_before world_from world is_table_mode is_row_mode table_mode
plan_25 = ap (λ x. path_by (index 0) x (first_path head cond_25 [])) (compare-bounds 0 0 Eq (Int (pos 12)))

abbrev statement_26 : Statement
statement_26 = Select (table 0) Count c.Always None

abbrev cond_26 : Condition
cond_26 = c.Always

truth_26 : (shown : List Value) → truth shown cond_26 ≡ True
truth_26 shown = always-truth shown

plan_26 : plan_of head (table 0) cond_26 ≡ Path.Table
unfolding mode_number mode_eq goes_with compatible joined at_least covers escalated value_cmp value_eq value_lt name_eq is_hold_of opposes stands_before world_from world is_table_mode is_row_mode table_mode
plan_26 = ap (λ x. path_by (index 0) x (first_path head cond_26 [])) (always-bounds 0)

abbrev statement_27 : Statement
statement_27 = Statement.Commit

abbrev lines : List Line
lines =
    (line 24 (Some (conn 0)) false (What.Statement (Select (table 1) Count c.Always None))
    ∷ line 25 (Some (conn 1)) false (What.Statement (Statement.Delete (table 0) (c.Compare 0 Eq (Int (pos 12))) None))
    ∷ line 26 (Some (conn 0)) false (What.Statement (Select (table 0) Count c.Always None))
    ∷ line 27 (Some (conn 1)) false (What.Statement (Statement.Commit))
    ∷ line 28 None false What.Snapshot ∷ [])

abbrev e_0 : Entry
e_0 = dispatcher (Dispatch 24 (conn 0))

abbrev e_1 : Entry
e_1 = agent 0 (Lock (Table (table 1)) Is Kept Asked Got.Granted)

abbrev e_2 : Entry
e_2 = agent 0 (Look (table 1) (rid 0) Steady Got.Granted)

abbrev e_3 : Entry
e_3 = agent 0 (Look (table 1) (rid 1) Steady Got.Granted)

abbrev e_4 : Entry
e_4 = agent 0 (ScanEnd (table 1) 2)

abbrev e_5 : Entry
e_5 = agent 0 (Reply (pos 0) 0 (((Int (pos 2)) ∷ []) ∷ []))

abbrev e_6 : Entry
e_6 = dispatcher (Dispatch 25 (conn 1))

abbrev e_7 : Entry
e_7 = agent 1 (Lock (Table (table 0)) Ix Kept Asked Got.Granted)

abbrev e_8 : Entry
e_8 = agent 1 (Next (index 0) (range (Some (bound (Int (pos 12)) true)) (Some (bound (Int (pos 12)) true))) None false (At (Int (pos 12)) (rid 11)))

abbrev e_9 : Entry
e_9 = agent 1 (Look (table 0) (rid 11) Alter Got.Granted)

abbrev e_10 : Entry
e_10 = agent 1 (Next (index 0) (range (Some (bound (Int (pos 12)) true)) (Some (bound (Int (pos 12)) true))) (Some ((Int (pos 12)), rid 11)) false Past)

abbrev e_11 : Entry
e_11 = agent 1 (Lock (Row (table 0) (rid 11)) X Kept Asked Got.Granted)

abbrev e_12 : Entry
e_12 = agent 1 (Delete (table 0) (rid 11))

abbrev e_13 : Entry
e_13 = agent 1 (Reply (pos 0) 1 [])

abbrev e_14 : Entry
e_14 = dispatcher (Dispatch 26 (conn 0))

abbrev e_15 : Entry
e_15 = agent 0 (Lock (Table (table 0)) Is Kept Asked Got.Granted)

abbrev e_16 : Entry
e_16 = agent 0 (Look (table 0) (rid 0) Steady Got.Granted)

abbrev e_17 : Entry
e_17 = agent 0 (Look (table 0) (rid 1) Steady Got.Granted)

abbrev e_18 : Entry
e_18 = agent 0 (Look (table 0) (rid 2) Steady Got.Granted)

abbrev e_19 : Entry
e_19 = agent 0 (Look (table 0) (rid 3) Steady Got.Granted)

abbrev e_20 : Entry
e_20 = agent 0 (Look (table 0) (rid 4) Steady Got.Granted)

abbrev e_21 : Entry
e_21 = agent 0 (Look (table 0) (rid 5) Steady Got.Granted)

abbrev e_22 : Entry
e_22 = agent 0 (Look (table 0) (rid 6) Steady Got.Granted)

abbrev e_23 : Entry
e_23 = agent 0 (Look (table 0) (rid 7) Steady Got.Granted)

abbrev e_24 : Entry
e_24 = agent 0 (Lock (Table (table 0)) S Kept Escalation (Got.Queued S))

abbrev e_25 : Entry
e_25 = dispatcher (Dispatch 27 (conn 1))

abbrev e_26 : Entry
e_26 = agent 1 (Commit)

abbrev e_27 : Entry
e_27 = dispatcher (Purge (index 0) (Int (pos 12)) (rid 11))

abbrev e_28 : Entry
e_28 = agent 0 (Claim)

abbrev e_29 : Entry
e_29 = agent 0 (Collapse (table 0) S)

abbrev e_30 : Entry
e_30 = agent 0 (Look (table 0) (rid 8) Steady Got.Granted)

abbrev e_31 : Entry
e_31 = agent 0 (Look (table 0) (rid 9) Steady Got.Granted)

abbrev e_32 : Entry
e_32 = agent 0 (Look (table 0) (rid 10) Steady Got.Granted)

abbrev e_33 : Entry
e_33 = agent 0 (Look (table 0) (rid 11) Steady Got.Granted)

abbrev e_34 : Entry
e_34 = agent 0 (ScanEnd (table 0) 12)

abbrev e_35 : Entry
e_35 = agent 0 (Reply (pos 0) 0 (((Int (pos 11)) ∷ []) ∷ []))

abbrev e_36 : Entry
e_36 = dispatcher (Snapshot 28 (lock_line (Table (table 0)) (conn 0) S LockState.Granted ∷ lock_line (Table (table 1)) (conn 0) Is LockState.Granted ∷ lock_line (Row (table 1) (rid 0)) (conn 0) Ns LockState.Granted ∷ lock_line (Row (table 1) (rid 1)) (conn 0) Ns LockState.Granted ∷ []))

abbrev e_37 : Entry
e_37 = dispatcher (Close (conn 0))

abbrev e_38 : Entry
e_38 = agent 0 (Act.Ended)

abbrev e_39 : Entry
e_39 = dispatcher (Close (conn 1))

abbrev e_40 : Entry
e_40 = agent 1 (Act.Ended)

abbrev e_41 : Entry
e_41 = dispatcher (Finish)

abbrev rest_42 : List Entry
rest_42 = []

abbrev rest_41 : List Entry
rest_41 = e_41 ∷ rest_42

abbrev rest_40 : List Entry
rest_40 = e_40 ∷ rest_41

abbrev rest_39 : List Entry
rest_39 = e_39 ∷ rest_40

abbrev rest_38 : List Entry
rest_38 = e_38 ∷ rest_39

abbrev rest_37 : List Entry
rest_37 = e_37 ∷ rest_38

abbrev rest_36 : List Entry
rest_36 = e_36 ∷ rest_37

abbrev rest_35 : List Entry
rest_35 = e_35 ∷ rest_36

abbrev rest_34 : List Entry
rest_34 = e_34 ∷ rest_35

abbrev rest_33 : List Entry
rest_33 = e_33 ∷ rest_34

abbrev rest_32 : List Entry
rest_32 = e_32 ∷ rest_33

abbrev rest_31 : List Entry
rest_31 = e_31 ∷ rest_32

abbrev rest_30 : List Entry
rest_30 = e_30 ∷ rest_31

abbrev rest_29 : List Entry
rest_29 = e_29 ∷ rest_30

abbrev rest_28 : List Entry
rest_28 = e_28 ∷ rest_29

abbrev rest_27 : List Entry
rest_27 = e_27 ∷ rest_28

abbrev rest_26 : List Entry
rest_26 = e_26 ∷ rest_27

abbrev rest_25 : List Entry
rest_25 = e_25 ∷ rest_26

abbrev rest_24 : List Entry
rest_24 = e_24 ∷ rest_25

abbrev rest_23 : List Entry
rest_23 = e_23 ∷ rest_24

abbrev rest_22 : List Entry
rest_22 = e_22 ∷ rest_23

abbrev rest_21 : List Entry
rest_21 = e_21 ∷ rest_22

abbrev rest_20 : List Entry
rest_20 = e_20 ∷ rest_21

abbrev rest_19 : List Entry
rest_19 = e_19 ∷ rest_20

abbrev rest_18 : List Entry
rest_18 = e_18 ∷ rest_19

abbrev rest_17 : List Entry
rest_17 = e_17 ∷ rest_18

abbrev rest_16 : List Entry
rest_16 = e_16 ∷ rest_17

abbrev rest_15 : List Entry
rest_15 = e_15 ∷ rest_16

abbrev rest_14 : List Entry
rest_14 = e_14 ∷ rest_15

abbrev rest_13 : List Entry
rest_13 = e_13 ∷ rest_14

abbrev rest_12 : List Entry
rest_12 = e_12 ∷ rest_13

abbrev rest_11 : List Entry
rest_11 = e_11 ∷ rest_12

abbrev rest_10 : List Entry
rest_10 = e_10 ∷ rest_11

abbrev rest_9 : List Entry
rest_9 = e_9 ∷ rest_10

abbrev rest_8 : List Entry
rest_8 = e_8 ∷ rest_9

abbrev rest_7 : List Entry
rest_7 = e_7 ∷ rest_8

abbrev rest_6 : List Entry
rest_6 = e_6 ∷ rest_7

abbrev rest_5 : List Entry
rest_5 = e_5 ∷ rest_6

abbrev rest_4 : List Entry
rest_4 = e_4 ∷ rest_5

abbrev rest_3 : List Entry
rest_3 = e_3 ∷ rest_4

abbrev rest_2 : List Entry
rest_2 = e_2 ∷ rest_3

abbrev rest_1 : List Entry
rest_1 = e_1 ∷ rest_2

abbrev rest_0 : List Entry
rest_0 = e_0 ∷ rest_1

abbrev w_0 : World
w_0 = start head

abbrev w_1 : World
w_1 = after head w_0 e_0

abbrev w_2 : World
w_2 = after head w_1 e_1

abbrev w_3 : World
w_3 = after head w_2 e_2

abbrev w_4 : World
w_4 = after head w_3 e_3

abbrev w_5 : World
w_5 = after head w_4 e_4

abbrev w_6 : World
w_6 = after head w_5 e_5

abbrev w_7 : World
w_7 = after head w_6 e_6

abbrev w_8 : World
w_8 = after head w_7 e_7

abbrev w_9 : World
w_9 = after head w_8 e_8

abbrev w_10 : World
w_10 = after head w_9 e_9

abbrev w_11 : World
w_11 = after head w_10 e_10

abbrev w_12 : World
w_12 = after head w_11 e_11

abbrev w_13 : World
w_13 = after head w_12 e_12

abbrev w_14 : World
w_14 = after head w_13 e_13

abbrev w_15 : World
w_15 = after head w_14 e_14

abbrev w_16 : World
w_16 = after head w_15 e_15

abbrev w_17 : World
w_17 = after head w_16 e_16

abbrev w_18 : World
w_18 = after head w_17 e_17

abbrev w_19 : World
w_19 = after head w_18 e_18

abbrev w_20 : World
w_20 = after head w_19 e_19

abbrev w_21 : World
w_21 = after head w_20 e_20

abbrev w_22 : World
w_22 = after head w_21 e_21

abbrev w_23 : World
w_23 = after head w_22 e_22

abbrev w_24 : World
w_24 = after head w_23 e_23

abbrev w_25 : World
w_25 = after head w_24 e_24

abbrev w_26 : World
w_26 = after head w_25 e_25

abbrev w_27 : World
w_27 = after head w_26 e_26

abbrev w_28 : World
w_28 = after head w_27 e_27

abbrev w_29 : World
w_29 = after head w_28 e_28

abbrev w_30 : World
w_30 = after head w_29 e_29

abbrev w_31 : World
w_31 = after head w_30 e_30

abbrev w_32 : World
w_32 = after head w_31 e_31

abbrev w_33 : World
w_33 = after head w_32 e_32

abbrev w_34 : World
w_34 = after head w_33 e_33

abbrev w_35 : World
w_35 = after head w_34 e_34

abbrev w_36 : World
w_36 = after head w_35 e_35

abbrev w_37 : World
w_37 = after head w_36 e_36

abbrev w_38 : World
w_38 = after head w_37 e_37

abbrev w_39 : World
w_39 = after head w_38 e_38

abbrev w_40 : World
w_40 = after head w_39 e_39

abbrev w_41 : World
w_41 = after head w_40 e_40

abbrev w_42 : World
w_42 = after head w_41 e_41

abbrev es : List Entry
es = rest_0

ground : Ground head es
unfolding mode_number mode_eq goes_with compatible joined at_least covers escalated value_cmp value_eq value_lt name_eq is_hold_of opposes stands_before world_from world is_table_mode is_row_mode table_mode GroundFrom Ground
ground = ((refl, refl, (refl, refl, refl)), ((refl, refl, (refl, ((refl, refl), (refl, refl, refl)))), ((refl, refl, (refl, ((refl, refl), refl, refl))), ((refl, refl, (refl, ((refl, refl), refl, refl))), ((refl, refl, (refl, ((refl, refl), refl, refl))), ((refl, refl, (refl, (refl, refl))), ((refl, refl, (refl, refl, refl)), ((refl, refl, (refl, ((refl, refl), (refl, refl, refl)))), ((refl, refl, (refl, ((refl, refl), refl, refl))), ((refl, refl, (refl, ((refl, refl), refl, refl))), ((refl, refl, (refl, ((refl, refl), refl, refl))), ((refl, refl, (refl, ((refl, refl), (refl, refl, refl)))), ((refl, refl, (refl, ((refl, refl), refl, refl))), ((refl, refl, (refl, (refl, refl))), ((refl, refl, (refl, refl, refl)), ((refl, refl, (refl, ((refl, refl), (refl, refl, refl)))), ((refl, refl, (refl, ((refl, refl), refl, refl))), ((refl, refl, (refl, ((refl, refl), refl, refl))), ((refl, refl, (refl, ((refl, refl), refl, refl))), ((refl, refl, (refl, ((refl, refl), refl, refl))), ((refl, refl, (refl, ((refl, refl), refl, refl))), ((refl, refl, (refl, ((refl, refl), refl, refl))), ((refl, refl, (refl, ((refl, refl), refl, refl))), ((refl, refl, (refl, ((refl, refl), refl, refl))), ((refl, refl, (refl, ((refl, refl), (refl, (refl, refl, refl))))), ((refl, refl, (refl, refl, refl)), ((refl, refl, (refl, (refl, refl))), ((refl, refl, (refl, refl, refl)), ((refl, refl, (refl, refl)), ((refl, refl, (refl, (refl, refl))), ((refl, refl, (refl, ((refl, refl), refl, refl))), ((refl, refl, (refl, ((refl, refl), refl, refl))), ((refl, refl, (refl, ((refl, refl), refl, refl))), ((refl, refl, (refl, ((refl, refl), refl, refl))), ((refl, refl, (refl, ((refl, refl), refl, refl))), ((refl, refl, (refl, (refl, refl))), ((refl, refl, (refl, refl, refl)), ((refl, refl, (refl, refl)), ((refl, refl, (refl, (refl, refl))), ((refl, refl, (refl, refl)), ((refl, refl, (refl, (refl, refl))), ((refl, refl, refl), tt))))))))))))))))))))))))))))))))))))))))))

abbrev o0_1 : Point
o0_1 = record { statement = statement_24; columns = []; floor = 0; left = (Asks (Table (table 1)) Is ∷ TableScan (table 1) Steady 0 ∷ Answer ∷ []); kept = Number 0 }

abbrev o0_2 : Point
o0_2 = record { statement = statement_24; columns = []; floor = 0; left = (TableScan (table 1) Steady 0 ∷ Answer ∷ []); kept = Number 0 }

abbrev o0_3 : Point
o0_3 = record { statement = statement_24; columns = []; floor = 0; left = (TableScan (table 1) Steady 1 ∷ Answer ∷ []); kept = Number 1 }

abbrev o0_4 : Point
o0_4 = record { statement = statement_24; columns = []; floor = 0; left = (TableScan (table 1) Steady 2 ∷ Answer ∷ []); kept = Number 2 }

abbrev o0_5 : Point
o0_5 = record { statement = statement_24; columns = []; floor = 0; left = (Answer ∷ []); kept = Number 2 }

abbrev o0_15 : Point
o0_15 = record { statement = statement_26; columns = []; floor = 1; left = (Asks (Table (table 0)) Is ∷ TableScan (table 0) Steady 0 ∷ Answer ∷ []); kept = Number 0 }

abbrev o0_16 : Point
o0_16 = record { statement = statement_26; columns = []; floor = 1; left = (TableScan (table 0) Steady 0 ∷ Answer ∷ []); kept = Number 0 }

abbrev o0_17 : Point
o0_17 = record { statement = statement_26; columns = []; floor = 1; left = (TableScan (table 0) Steady 1 ∷ Answer ∷ []); kept = Number 1 }

abbrev o0_18 : Point
o0_18 = record { statement = statement_26; columns = []; floor = 1; left = (TableScan (table 0) Steady 2 ∷ Answer ∷ []); kept = Number 2 }

abbrev o0_19 : Point
o0_19 = record { statement = statement_26; columns = []; floor = 1; left = (TableScan (table 0) Steady 3 ∷ Answer ∷ []); kept = Number 3 }

abbrev o0_20 : Point
o0_20 = record { statement = statement_26; columns = []; floor = 1; left = (TableScan (table 0) Steady 4 ∷ Answer ∷ []); kept = Number 4 }

abbrev o0_21 : Point
o0_21 = record { statement = statement_26; columns = []; floor = 1; left = (TableScan (table 0) Steady 5 ∷ Answer ∷ []); kept = Number 5 }

abbrev o0_22 : Point
o0_22 = record { statement = statement_26; columns = []; floor = 1; left = (TableScan (table 0) Steady 6 ∷ Answer ∷ []); kept = Number 6 }

abbrev o0_23 : Point
o0_23 = record { statement = statement_26; columns = []; floor = 1; left = (TableScan (table 0) Steady 7 ∷ Answer ∷ []); kept = Number 7 }

abbrev o0_24 : Point
o0_24 = record { statement = statement_26; columns = []; floor = 1; left = (TableScan (table 0) Steady 8 ∷ Answer ∷ []); kept = Number 8 }

abbrev o0_25 : Point
o0_25 = record { statement = statement_26; columns = []; floor = 1; left = (Claims ∷ Collapses (table 0) ∷ TableScan (table 0) Steady 8 ∷ Answer ∷ []); kept = Number 8 }

abbrev o0_29 : Point
o0_29 = record { statement = statement_26; columns = []; floor = 1; left = (Collapses (table 0) ∷ TableScan (table 0) Steady 8 ∷ Answer ∷ []); kept = Number 8 }

abbrev o0_30 : Point
o0_30 = record { statement = statement_26; columns = []; floor = 1; left = (TableScan (table 0) Steady 8 ∷ Answer ∷ []); kept = Number 8 }

abbrev o0_31 : Point
o0_31 = record { statement = statement_26; columns = []; floor = 1; left = (TableScan (table 0) Steady 9 ∷ Answer ∷ []); kept = Number 9 }

abbrev o0_32 : Point
o0_32 = record { statement = statement_26; columns = []; floor = 1; left = (TableScan (table 0) Steady 10 ∷ Answer ∷ []); kept = Number 10 }

abbrev o0_33 : Point
o0_33 = record { statement = statement_26; columns = []; floor = 1; left = (TableScan (table 0) Steady 11 ∷ Answer ∷ []); kept = Number 11 }

abbrev o0_34 : Point
o0_34 = record { statement = statement_26; columns = []; floor = 1; left = (TableScan (table 0) Steady 12 ∷ Answer ∷ []); kept = Number 11 }

abbrev o0_35 : Point
o0_35 = record { statement = statement_26; columns = []; floor = 1; left = (Answer ∷ []); kept = Number 11 }

from0_42 : ConductFrom head lines w_42 (conn 0) None rest_42
unfolding mode_number mode_eq goes_with compatible joined at_least covers escalated value_cmp value_eq value_lt name_eq is_hold_of opposes stands_before world_from world is_table_mode is_row_mode table_mode ConductFrom
from0_42 = tt

from0_41 : ConductFrom head lines w_41 (conn 0) None rest_41
unfolding mode_number mode_eq goes_with compatible joined at_least covers escalated value_cmp value_eq value_lt name_eq is_hold_of opposes stands_before world_from world is_table_mode is_row_mode table_mode
from0_41 = link head lines w_41 (conn 0) None e_41 rest_42 None (λ h. not_own h) (refl) from0_42

from0_40 : ConductFrom head lines w_40 (conn 0) None rest_40
unfolding mode_number mode_eq goes_with compatible joined at_least covers escalated value_cmp value_eq value_lt name_eq is_hold_of opposes stands_before world_from world is_table_mode is_row_mode table_mode
from0_40 = link head lines w_40 (conn 0) None e_40 rest_41 None (λ h. not_own h) (refl) from0_41

from0_39 : ConductFrom head lines w_39 (conn 0) None rest_39
unfolding mode_number mode_eq goes_with compatible joined at_least covers escalated value_cmp value_eq value_lt name_eq is_hold_of opposes stands_before world_from world is_table_mode is_row_mode table_mode
from0_39 = link head lines w_39 (conn 0) None e_39 rest_40 None (λ h. not_own h) (refl) from0_40

from0_38 : ConductFrom head lines w_38 (conn 0) None rest_38
unfolding mode_number mode_eq goes_with compatible joined at_least covers escalated value_cmp value_eq value_lt name_eq is_hold_of opposes stands_before world_from world is_table_mode is_row_mode table_mode
from0_38 = link head lines w_38 (conn 0) None e_38 rest_39 None (λ h. refl) (refl) from0_39

from0_37 : ConductFrom head lines w_37 (conn 0) None rest_37
unfolding mode_number mode_eq goes_with compatible joined at_least covers escalated value_cmp value_eq value_lt name_eq is_hold_of opposes stands_before world_from world is_table_mode is_row_mode table_mode
from0_37 = link head lines w_37 (conn 0) None e_37 rest_38 None (λ h. not_own h) (refl) from0_38

from0_36 : ConductFrom head lines w_36 (conn 0) None rest_36
unfolding mode_number mode_eq goes_with compatible joined at_least covers escalated value_cmp value_eq value_lt name_eq is_hold_of opposes stands_before world_from world is_table_mode is_row_mode table_mode
from0_36 = link head lines w_36 (conn 0) None e_36 rest_37 None (λ h. not_own h) (refl) from0_37

from0_35 : ConductFrom head lines w_35 (conn 0) (Some o0_35) rest_35
unfolding mode_number mode_eq goes_with compatible joined at_least covers escalated value_cmp value_eq value_lt name_eq is_hold_of opposes stands_before world_from world is_table_mode is_row_mode table_mode
from0_35 = link head lines w_35 (conn 0) (Some o0_35) e_35 rest_36 None (λ h k. refl) (refl) from0_36

from0_34 : ConductFrom head lines w_34 (conn 0) (Some o0_34) rest_34
unfolding mode_number mode_eq goes_with compatible joined at_least covers escalated value_cmp value_eq value_lt name_eq is_hold_of opposes stands_before world_from world is_table_mode is_row_mode table_mode
from0_34 = link head lines w_34 (conn 0) (Some o0_34) e_34 rest_35 (Some o0_35) (λ h k. refl) (refl) from0_35

from0_33 : ConductFrom head lines w_33 (conn 0) (Some o0_33) rest_33
unfolding mode_number mode_eq goes_with compatible joined at_least covers escalated value_cmp value_eq value_lt name_eq is_hold_of opposes stands_before world_from world is_table_mode is_row_mode table_mode
from0_33 = link head lines w_33 (conn 0) (Some o0_33) e_33 rest_34 (Some o0_34) (λ h k. refl) (refl) from0_34

from0_32 : ConductFrom head lines w_32 (conn 0) (Some o0_32) rest_32
unfolding mode_number mode_eq goes_with compatible joined at_least covers escalated value_cmp value_eq value_lt name_eq is_hold_of opposes stands_before world_from world is_table_mode is_row_mode table_mode
from0_32 = link head lines w_32 (conn 0) (Some o0_32) e_32 rest_33 (Some o0_33) (λ h k. refl) (ap (λ x. past_look head lines w_32 (conn 0) o0_32 (table 0) (rid 10) Steady x) (ap is_true (truth_26 ((Int (pos 11)) ∷ [])))) from0_33

from0_31 : ConductFrom head lines w_31 (conn 0) (Some o0_31) rest_31
unfolding mode_number mode_eq goes_with compatible joined at_least covers escalated value_cmp value_eq value_lt name_eq is_hold_of opposes stands_before world_from world is_table_mode is_row_mode table_mode
from0_31 = link head lines w_31 (conn 0) (Some o0_31) e_31 rest_32 (Some o0_32) (λ h k. refl) (ap (λ x. past_look head lines w_31 (conn 0) o0_31 (table 0) (rid 9) Steady x) (ap is_true (truth_26 ((Int (pos 10)) ∷ [])))) from0_32

from0_30 : ConductFrom head lines w_30 (conn 0) (Some o0_30) rest_30
unfolding mode_number mode_eq goes_with compatible joined at_least covers escalated value_cmp value_eq value_lt name_eq is_hold_of opposes stands_before world_from world is_table_mode is_row_mode table_mode
from0_30 = link head lines w_30 (conn 0) (Some o0_30) e_30 rest_31 (Some o0_31) (λ h k. refl) (ap (λ x. past_look head lines w_30 (conn 0) o0_30 (table 0) (rid 8) Steady x) (ap is_true (truth_26 ((Int (pos 9)) ∷ [])))) from0_31

from0_29 : ConductFrom head lines w_29 (conn 0) (Some o0_29) rest_29
unfolding mode_number mode_eq goes_with compatible joined at_least covers escalated value_cmp value_eq value_lt name_eq is_hold_of opposes stands_before world_from world is_table_mode is_row_mode table_mode
from0_29 = link head lines w_29 (conn 0) (Some o0_29) e_29 rest_30 (Some o0_30) (λ h k. refl) (refl) from0_30

from0_28 : ConductFrom head lines w_28 (conn 0) (Some o0_25) rest_28
unfolding mode_number mode_eq goes_with compatible joined at_least covers escalated value_cmp value_eq value_lt name_eq is_hold_of opposes stands_before world_from world is_table_mode is_row_mode table_mode
from0_28 = link head lines w_28 (conn 0) (Some o0_25) e_28 rest_29 (Some o0_29) (λ h k. refl) (refl) from0_29

from0_27 : ConductFrom head lines w_27 (conn 0) (Some o0_25) rest_27
unfolding mode_number mode_eq goes_with compatible joined at_least covers escalated value_cmp value_eq value_lt name_eq is_hold_of opposes stands_before world_from world is_table_mode is_row_mode table_mode
from0_27 = link head lines w_27 (conn 0) (Some o0_25) e_27 rest_28 (Some o0_25) (λ h. not_own h) (refl) from0_28

from0_26 : ConductFrom head lines w_26 (conn 0) (Some o0_25) rest_26
unfolding mode_number mode_eq goes_with compatible joined at_least covers escalated value_cmp value_eq value_lt name_eq is_hold_of opposes stands_before world_from world is_table_mode is_row_mode table_mode
from0_26 = link head lines w_26 (conn 0) (Some o0_25) e_26 rest_27 (Some o0_25) (λ h. not_own h) (refl) from0_27

from0_25 : ConductFrom head lines w_25 (conn 0) (Some o0_25) rest_25
unfolding mode_number mode_eq goes_with compatible joined at_least covers escalated value_cmp value_eq value_lt name_eq is_hold_of opposes stands_before world_from world is_table_mode is_row_mode table_mode
from0_25 = link head lines w_25 (conn 0) (Some o0_25) e_25 rest_26 (Some o0_25) (λ h. not_own h) (refl) from0_26

from0_24 : ConductFrom head lines w_24 (conn 0) (Some o0_24) rest_24
unfolding mode_number mode_eq goes_with compatible joined at_least covers escalated value_cmp value_eq value_lt name_eq is_hold_of opposes stands_before world_from world is_table_mode is_row_mode table_mode
from0_24 = link head lines w_24 (conn 0) (Some o0_24) e_24 rest_25 (Some o0_25) (λ h k. refl) (refl) from0_25

from0_23 : ConductFrom head lines w_23 (conn 0) (Some o0_23) rest_23
unfolding mode_number mode_eq goes_with compatible joined at_least covers escalated value_cmp value_eq value_lt name_eq is_hold_of opposes stands_before world_from world is_table_mode is_row_mode table_mode
from0_23 = link head lines w_23 (conn 0) (Some o0_23) e_23 rest_24 (Some o0_24) (λ h k. refl) (ap (λ x. past_look head lines w_23 (conn 0) o0_23 (table 0) (rid 7) Steady x) (ap is_true (truth_26 ((Int (pos 8)) ∷ [])))) from0_24

from0_22 : ConductFrom head lines w_22 (conn 0) (Some o0_22) rest_22
unfolding mode_number mode_eq goes_with compatible joined at_least covers escalated value_cmp value_eq value_lt name_eq is_hold_of opposes stands_before world_from world is_table_mode is_row_mode table_mode
from0_22 = link head lines w_22 (conn 0) (Some o0_22) e_22 rest_23 (Some o0_23) (λ h k. refl) (ap (λ x. past_look head lines w_22 (conn 0) o0_22 (table 0) (rid 6) Steady x) (ap is_true (truth_26 ((Int (pos 7)) ∷ [])))) from0_23

from0_21 : ConductFrom head lines w_21 (conn 0) (Some o0_21) rest_21
unfolding mode_number mode_eq goes_with compatible joined at_least covers escalated value_cmp value_eq value_lt name_eq is_hold_of opposes stands_before world_from world is_table_mode is_row_mode table_mode
from0_21 = link head lines w_21 (conn 0) (Some o0_21) e_21 rest_22 (Some o0_22) (λ h k. refl) (ap (λ x. past_look head lines w_21 (conn 0) o0_21 (table 0) (rid 5) Steady x) (ap is_true (truth_26 ((Int (pos 6)) ∷ [])))) from0_22

from0_20 : ConductFrom head lines w_20 (conn 0) (Some o0_20) rest_20
unfolding mode_number mode_eq goes_with compatible joined at_least covers escalated value_cmp value_eq value_lt name_eq is_hold_of opposes stands_before world_from world is_table_mode is_row_mode table_mode
from0_20 = link head lines w_20 (conn 0) (Some o0_20) e_20 rest_21 (Some o0_21) (λ h k. refl) (ap (λ x. past_look head lines w_20 (conn 0) o0_20 (table 0) (rid 4) Steady x) (ap is_true (truth_26 ((Int (pos 5)) ∷ [])))) from0_21

from0_19 : ConductFrom head lines w_19 (conn 0) (Some o0_19) rest_19
unfolding mode_number mode_eq goes_with compatible joined at_least covers escalated value_cmp value_eq value_lt name_eq is_hold_of opposes stands_before world_from world is_table_mode is_row_mode table_mode
from0_19 = link head lines w_19 (conn 0) (Some o0_19) e_19 rest_20 (Some o0_20) (λ h k. refl) (ap (λ x. past_look head lines w_19 (conn 0) o0_19 (table 0) (rid 3) Steady x) (ap is_true (truth_26 ((Int (pos 4)) ∷ [])))) from0_20

from0_18 : ConductFrom head lines w_18 (conn 0) (Some o0_18) rest_18
unfolding mode_number mode_eq goes_with compatible joined at_least covers escalated value_cmp value_eq value_lt name_eq is_hold_of opposes stands_before world_from world is_table_mode is_row_mode table_mode
from0_18 = link head lines w_18 (conn 0) (Some o0_18) e_18 rest_19 (Some o0_19) (λ h k. refl) (ap (λ x. past_look head lines w_18 (conn 0) o0_18 (table 0) (rid 2) Steady x) (ap is_true (truth_26 ((Int (pos 3)) ∷ [])))) from0_19

from0_17 : ConductFrom head lines w_17 (conn 0) (Some o0_17) rest_17
unfolding mode_number mode_eq goes_with compatible joined at_least covers escalated value_cmp value_eq value_lt name_eq is_hold_of opposes stands_before world_from world is_table_mode is_row_mode table_mode
from0_17 = link head lines w_17 (conn 0) (Some o0_17) e_17 rest_18 (Some o0_18) (λ h k. refl) (ap (λ x. past_look head lines w_17 (conn 0) o0_17 (table 0) (rid 1) Steady x) (ap is_true (truth_26 ((Int (pos 2)) ∷ [])))) from0_18

from0_16 : ConductFrom head lines w_16 (conn 0) (Some o0_16) rest_16
unfolding mode_number mode_eq goes_with compatible joined at_least covers escalated value_cmp value_eq value_lt name_eq is_hold_of opposes stands_before world_from world is_table_mode is_row_mode table_mode
from0_16 = link head lines w_16 (conn 0) (Some o0_16) e_16 rest_17 (Some o0_17) (λ h k. refl) (ap (λ x. past_look head lines w_16 (conn 0) o0_16 (table 0) (rid 0) Steady x) (ap is_true (truth_26 ((Int (pos 1)) ∷ [])))) from0_17

from0_15 : ConductFrom head lines w_15 (conn 0) None rest_15
unfolding mode_number mode_eq goes_with compatible joined at_least covers escalated value_cmp value_eq value_lt name_eq is_hold_of opposes stands_before world_from world is_table_mode is_row_mode table_mode
from0_15 = begins head lines w_15 (conn 0) o0_15 e_15 rest_16 refl (ap (λ x. Some (begun head w_15 (conn 0) statement_26 (select_list head (table 0) (level_in (w_15.setting (conn 0)) None) x))) plan_26) (link head lines w_15 (conn 0) (Some o0_15) e_15 rest_16 (Some o0_16) (λ h k. refl) (refl) from0_16)

from0_14 : ConductFrom head lines w_14 (conn 0) None rest_14
unfolding mode_number mode_eq goes_with compatible joined at_least covers escalated value_cmp value_eq value_lt name_eq is_hold_of opposes stands_before world_from world is_table_mode is_row_mode table_mode
from0_14 = link head lines w_14 (conn 0) None e_14 rest_15 None (λ h. not_own h) (refl) from0_15

from0_13 : ConductFrom head lines w_13 (conn 0) None rest_13
unfolding mode_number mode_eq goes_with compatible joined at_least covers escalated value_cmp value_eq value_lt name_eq is_hold_of opposes stands_before world_from world is_table_mode is_row_mode table_mode
from0_13 = link head lines w_13 (conn 0) None e_13 rest_14 None (λ h. not_own h) (refl) from0_14

from0_12 : ConductFrom head lines w_12 (conn 0) None rest_12
unfolding mode_number mode_eq goes_with compatible joined at_least covers escalated value_cmp value_eq value_lt name_eq is_hold_of opposes stands_before world_from world is_table_mode is_row_mode table_mode
from0_12 = link head lines w_12 (conn 0) None e_12 rest_13 None (λ h. not_own h) (refl) from0_13

from0_11 : ConductFrom head lines w_11 (conn 0) None rest_11
unfolding mode_number mode_eq goes_with compatible joined at_least covers escalated value_cmp value_eq value_lt name_eq is_hold_of opposes stands_before world_from world is_table_mode is_row_mode table_mode
from0_11 = link head lines w_11 (conn 0) None e_11 rest_12 None (λ h. not_own h) (refl) from0_12

from0_10 : ConductFrom head lines w_10 (conn 0) None rest_10
unfolding mode_number mode_eq goes_with compatible joined at_least covers escalated value_cmp value_eq value_lt name_eq is_hold_of opposes stands_before world_from world is_table_mode is_row_mode table_mode
from0_10 = link head lines w_10 (conn 0) None e_10 rest_11 None (λ h. not_own h) (refl) from0_11

from0_9 : ConductFrom head lines w_9 (conn 0) None rest_9
unfolding mode_number mode_eq goes_with compatible joined at_least covers escalated value_cmp value_eq value_lt name_eq is_hold_of opposes stands_before world_from world is_table_mode is_row_mode table_mode
from0_9 = link head lines w_9 (conn 0) None e_9 rest_10 None (λ h. not_own h) (refl) from0_10

from0_8 : ConductFrom head lines w_8 (conn 0) None rest_8
unfolding mode_number mode_eq goes_with compatible joined at_least covers escalated value_cmp value_eq value_lt name_eq is_hold_of opposes stands_before world_from world is_table_mode is_row_mode table_mode
from0_8 = link head lines w_8 (conn 0) None e_8 rest_9 None (λ h. not_own h) (refl) from0_9

from0_7 : ConductFrom head lines w_7 (conn 0) None rest_7
unfolding mode_number mode_eq goes_with compatible joined at_least covers escalated value_cmp value_eq value_lt name_eq is_hold_of opposes stands_before world_from world is_table_mode is_row_mode table_mode
from0_7 = link head lines w_7 (conn 0) None e_7 rest_8 None (λ h. not_own h) (refl) from0_8

from0_6 : ConductFrom head lines w_6 (conn 0) None rest_6
unfolding mode_number mode_eq goes_with compatible joined at_least covers escalated value_cmp value_eq value_lt name_eq is_hold_of opposes stands_before world_from world is_table_mode is_row_mode table_mode
from0_6 = link head lines w_6 (conn 0) None e_6 rest_7 None (λ h. not_own h) (refl) from0_7

from0_5 : ConductFrom head lines w_5 (conn 0) (Some o0_5) rest_5
unfolding mode_number mode_eq goes_with compatible joined at_least covers escalated value_cmp value_eq value_lt name_eq is_hold_of opposes stands_before world_from world is_table_mode is_row_mode table_mode
from0_5 = link head lines w_5 (conn 0) (Some o0_5) e_5 rest_6 None (λ h k. refl) (refl) from0_6

from0_4 : ConductFrom head lines w_4 (conn 0) (Some o0_4) rest_4
unfolding mode_number mode_eq goes_with compatible joined at_least covers escalated value_cmp value_eq value_lt name_eq is_hold_of opposes stands_before world_from world is_table_mode is_row_mode table_mode
from0_4 = link head lines w_4 (conn 0) (Some o0_4) e_4 rest_5 (Some o0_5) (λ h k. refl) (refl) from0_5

from0_3 : ConductFrom head lines w_3 (conn 0) (Some o0_3) rest_3
unfolding mode_number mode_eq goes_with compatible joined at_least covers escalated value_cmp value_eq value_lt name_eq is_hold_of opposes stands_before world_from world is_table_mode is_row_mode table_mode
from0_3 = link head lines w_3 (conn 0) (Some o0_3) e_3 rest_4 (Some o0_4) (λ h k. refl) (ap (λ x. past_look head lines w_3 (conn 0) o0_3 (table 1) (rid 1) Steady x) (ap is_true (truth_24 ((Int (pos 2)) ∷ [])))) from0_4

from0_2 : ConductFrom head lines w_2 (conn 0) (Some o0_2) rest_2
unfolding mode_number mode_eq goes_with compatible joined at_least covers escalated value_cmp value_eq value_lt name_eq is_hold_of opposes stands_before world_from world is_table_mode is_row_mode table_mode
from0_2 = link head lines w_2 (conn 0) (Some o0_2) e_2 rest_3 (Some o0_3) (λ h k. refl) (ap (λ x. past_look head lines w_2 (conn 0) o0_2 (table 1) (rid 0) Steady x) (ap is_true (truth_24 ((Int (pos 1)) ∷ [])))) from0_3

from0_1 : ConductFrom head lines w_1 (conn 0) None rest_1
unfolding mode_number mode_eq goes_with compatible joined at_least covers escalated value_cmp value_eq value_lt name_eq is_hold_of opposes stands_before world_from world is_table_mode is_row_mode table_mode
from0_1 = begins head lines w_1 (conn 0) o0_1 e_1 rest_2 refl (ap (λ x. Some (begun head w_1 (conn 0) statement_24 (select_list head (table 1) (level_in (w_1.setting (conn 0)) None) x))) plan_24) (link head lines w_1 (conn 0) (Some o0_1) e_1 rest_2 (Some o0_2) (λ h k. refl) (refl) from0_2)

from0_0 : ConductFrom head lines w_0 (conn 0) None rest_0
unfolding mode_number mode_eq goes_with compatible joined at_least covers escalated value_cmp value_eq value_lt name_eq is_hold_of opposes stands_before world_from world is_table_mode is_row_mode table_mode
from0_0 = link head lines w_0 (conn 0) None e_0 rest_1 None (λ h. not_own h) (refl) from0_1

conduct_0 : Conduct head lines es (conn 0)
unfolding Conduct
conduct_0 = from0_0

abbrev o1_7 : Point
o1_7 = record { statement = statement_25; columns = []; floor = 0; left = (Asks (Table (table 0)) Ix ∷ IndexScan (record { table = table 0; want = Alter; index = index 0; column = 0; range = range (Some (bound (Int (pos 12)) true)) (Some (bound (Int (pos 12)) true)); guarded = false }) None ∷ Changes (table 0) ∷ Answer ∷ []); kept = Found [] }

abbrev o1_8 : Point
o1_8 = record { statement = statement_25; columns = []; floor = 0; left = (IndexScan (record { table = table 0; want = Alter; index = index 0; column = 0; range = range (Some (bound (Int (pos 12)) true)) (Some (bound (Int (pos 12)) true)); guarded = false }) None ∷ Changes (table 0) ∷ Answer ∷ []); kept = Found [] }

abbrev o1_9 : Point
o1_9 = record { statement = statement_25; columns = []; floor = 0; left = (EntryLook (record { table = table 0; want = Alter; index = index 0; column = 0; range = range (Some (bound (Int (pos 12)) true)) (Some (bound (Int (pos 12)) true)); guarded = false }) (Int (pos 12)) (rid 11) ∷ Changes (table 0) ∷ Answer ∷ []); kept = Found [] }

abbrev o1_10 : Point
o1_10 = record { statement = statement_25; columns = []; floor = 0; left = (IndexScan (record { table = table 0; want = Alter; index = index 0; column = 0; range = range (Some (bound (Int (pos 12)) true)) (Some (bound (Int (pos 12)) true)); guarded = false }) (Some ((Int (pos 12)), rid 11)) ∷ Changes (table 0) ∷ Answer ∷ []); kept = Found ((rid 11, ((Int (pos 12)) ∷ [])) ∷ []) }

abbrev o1_11 : Point
o1_11 = record { statement = statement_25; columns = []; floor = 0; left = (Asks (Row (table 0) (rid 11)) X ∷ RowDelete (table 0) (rid 11) ∷ Answer ∷ []); kept = Found ((rid 11, ((Int (pos 12)) ∷ [])) ∷ []) }

abbrev o1_12 : Point
o1_12 = record { statement = statement_25; columns = []; floor = 0; left = (RowDelete (table 0) (rid 11) ∷ Answer ∷ []); kept = Found ((rid 11, ((Int (pos 12)) ∷ [])) ∷ []) }

abbrev o1_13 : Point
o1_13 = record { statement = statement_25; columns = []; floor = 0; left = (Answer ∷ []); kept = Found ((rid 11, ((Int (pos 12)) ∷ [])) ∷ []) }

abbrev o1_26 : Point
o1_26 = record { statement = statement_27; columns = []; floor = 1; left = (Settles ∷ []); kept = Found [] }

from1_42 : ConductFrom head lines w_42 (conn 1) None rest_42
unfolding mode_number mode_eq goes_with compatible joined at_least covers escalated value_cmp value_eq value_lt name_eq is_hold_of opposes stands_before world_from world is_table_mode is_row_mode table_mode ConductFrom
from1_42 = tt

from1_41 : ConductFrom head lines w_41 (conn 1) None rest_41
unfolding mode_number mode_eq goes_with compatible joined at_least covers escalated value_cmp value_eq value_lt name_eq is_hold_of opposes stands_before world_from world is_table_mode is_row_mode table_mode
from1_41 = link head lines w_41 (conn 1) None e_41 rest_42 None (λ h. not_own h) (refl) from1_42

from1_40 : ConductFrom head lines w_40 (conn 1) None rest_40
unfolding mode_number mode_eq goes_with compatible joined at_least covers escalated value_cmp value_eq value_lt name_eq is_hold_of opposes stands_before world_from world is_table_mode is_row_mode table_mode
from1_40 = link head lines w_40 (conn 1) None e_40 rest_41 None (λ h. refl) (refl) from1_41

from1_39 : ConductFrom head lines w_39 (conn 1) None rest_39
unfolding mode_number mode_eq goes_with compatible joined at_least covers escalated value_cmp value_eq value_lt name_eq is_hold_of opposes stands_before world_from world is_table_mode is_row_mode table_mode
from1_39 = link head lines w_39 (conn 1) None e_39 rest_40 None (λ h. not_own h) (refl) from1_40

from1_38 : ConductFrom head lines w_38 (conn 1) None rest_38
unfolding mode_number mode_eq goes_with compatible joined at_least covers escalated value_cmp value_eq value_lt name_eq is_hold_of opposes stands_before world_from world is_table_mode is_row_mode table_mode
from1_38 = link head lines w_38 (conn 1) None e_38 rest_39 None (λ h. not_own h) (refl) from1_39

from1_37 : ConductFrom head lines w_37 (conn 1) None rest_37
unfolding mode_number mode_eq goes_with compatible joined at_least covers escalated value_cmp value_eq value_lt name_eq is_hold_of opposes stands_before world_from world is_table_mode is_row_mode table_mode
from1_37 = link head lines w_37 (conn 1) None e_37 rest_38 None (λ h. not_own h) (refl) from1_38

from1_36 : ConductFrom head lines w_36 (conn 1) None rest_36
unfolding mode_number mode_eq goes_with compatible joined at_least covers escalated value_cmp value_eq value_lt name_eq is_hold_of opposes stands_before world_from world is_table_mode is_row_mode table_mode
from1_36 = link head lines w_36 (conn 1) None e_36 rest_37 None (λ h. not_own h) (refl) from1_37

from1_35 : ConductFrom head lines w_35 (conn 1) None rest_35
unfolding mode_number mode_eq goes_with compatible joined at_least covers escalated value_cmp value_eq value_lt name_eq is_hold_of opposes stands_before world_from world is_table_mode is_row_mode table_mode
from1_35 = link head lines w_35 (conn 1) None e_35 rest_36 None (λ h. not_own h) (refl) from1_36

from1_34 : ConductFrom head lines w_34 (conn 1) None rest_34
unfolding mode_number mode_eq goes_with compatible joined at_least covers escalated value_cmp value_eq value_lt name_eq is_hold_of opposes stands_before world_from world is_table_mode is_row_mode table_mode
from1_34 = link head lines w_34 (conn 1) None e_34 rest_35 None (λ h. not_own h) (refl) from1_35

from1_33 : ConductFrom head lines w_33 (conn 1) None rest_33
unfolding mode_number mode_eq goes_with compatible joined at_least covers escalated value_cmp value_eq value_lt name_eq is_hold_of opposes stands_before world_from world is_table_mode is_row_mode table_mode
from1_33 = link head lines w_33 (conn 1) None e_33 rest_34 None (λ h. not_own h) (refl) from1_34

from1_32 : ConductFrom head lines w_32 (conn 1) None rest_32
unfolding mode_number mode_eq goes_with compatible joined at_least covers escalated value_cmp value_eq value_lt name_eq is_hold_of opposes stands_before world_from world is_table_mode is_row_mode table_mode
from1_32 = link head lines w_32 (conn 1) None e_32 rest_33 None (λ h. not_own h) (refl) from1_33

from1_31 : ConductFrom head lines w_31 (conn 1) None rest_31
unfolding mode_number mode_eq goes_with compatible joined at_least covers escalated value_cmp value_eq value_lt name_eq is_hold_of opposes stands_before world_from world is_table_mode is_row_mode table_mode
from1_31 = link head lines w_31 (conn 1) None e_31 rest_32 None (λ h. not_own h) (refl) from1_32

from1_30 : ConductFrom head lines w_30 (conn 1) None rest_30
unfolding mode_number mode_eq goes_with compatible joined at_least covers escalated value_cmp value_eq value_lt name_eq is_hold_of opposes stands_before world_from world is_table_mode is_row_mode table_mode
from1_30 = link head lines w_30 (conn 1) None e_30 rest_31 None (λ h. not_own h) (refl) from1_31

from1_29 : ConductFrom head lines w_29 (conn 1) None rest_29
unfolding mode_number mode_eq goes_with compatible joined at_least covers escalated value_cmp value_eq value_lt name_eq is_hold_of opposes stands_before world_from world is_table_mode is_row_mode table_mode
from1_29 = link head lines w_29 (conn 1) None e_29 rest_30 None (λ h. not_own h) (refl) from1_30

from1_28 : ConductFrom head lines w_28 (conn 1) None rest_28
unfolding mode_number mode_eq goes_with compatible joined at_least covers escalated value_cmp value_eq value_lt name_eq is_hold_of opposes stands_before world_from world is_table_mode is_row_mode table_mode
from1_28 = link head lines w_28 (conn 1) None e_28 rest_29 None (λ h. not_own h) (refl) from1_29

from1_27 : ConductFrom head lines w_27 (conn 1) None rest_27
unfolding mode_number mode_eq goes_with compatible joined at_least covers escalated value_cmp value_eq value_lt name_eq is_hold_of opposes stands_before world_from world is_table_mode is_row_mode table_mode
from1_27 = link head lines w_27 (conn 1) None e_27 rest_28 None (λ h. not_own h) (refl) from1_28

from1_26 : ConductFrom head lines w_26 (conn 1) None rest_26
unfolding mode_number mode_eq goes_with compatible joined at_least covers escalated value_cmp value_eq value_lt name_eq is_hold_of opposes stands_before world_from world is_table_mode is_row_mode table_mode
from1_26 = begins head lines w_26 (conn 1) o1_26 e_26 rest_27 refl (refl) (link head lines w_26 (conn 1) (Some o1_26) e_26 rest_27 None (λ h k. refl) (refl) from1_27)

from1_25 : ConductFrom head lines w_25 (conn 1) None rest_25
unfolding mode_number mode_eq goes_with compatible joined at_least covers escalated value_cmp value_eq value_lt name_eq is_hold_of opposes stands_before world_from world is_table_mode is_row_mode table_mode
from1_25 = link head lines w_25 (conn 1) None e_25 rest_26 None (λ h. not_own h) (refl) from1_26

from1_24 : ConductFrom head lines w_24 (conn 1) None rest_24
unfolding mode_number mode_eq goes_with compatible joined at_least covers escalated value_cmp value_eq value_lt name_eq is_hold_of opposes stands_before world_from world is_table_mode is_row_mode table_mode
from1_24 = link head lines w_24 (conn 1) None e_24 rest_25 None (λ h. not_own h) (refl) from1_25

from1_23 : ConductFrom head lines w_23 (conn 1) None rest_23
unfolding mode_number mode_eq goes_with compatible joined at_least covers escalated value_cmp value_eq value_lt name_eq is_hold_of opposes stands_before world_from world is_table_mode is_row_mode table_mode
from1_23 = link head lines w_23 (conn 1) None e_23 rest_24 None (λ h. not_own h) (refl) from1_24

from1_22 : ConductFrom head lines w_22 (conn 1) None rest_22
unfolding mode_number mode_eq goes_with compatible joined at_least covers escalated value_cmp value_eq value_lt name_eq is_hold_of opposes stands_before world_from world is_table_mode is_row_mode table_mode
from1_22 = link head lines w_22 (conn 1) None e_22 rest_23 None (λ h. not_own h) (refl) from1_23

from1_21 : ConductFrom head lines w_21 (conn 1) None rest_21
unfolding mode_number mode_eq goes_with compatible joined at_least covers escalated value_cmp value_eq value_lt name_eq is_hold_of opposes stands_before world_from world is_table_mode is_row_mode table_mode
from1_21 = link head lines w_21 (conn 1) None e_21 rest_22 None (λ h. not_own h) (refl) from1_22

from1_20 : ConductFrom head lines w_20 (conn 1) None rest_20
unfolding mode_number mode_eq goes_with compatible joined at_least covers escalated value_cmp value_eq value_lt name_eq is_hold_of opposes stands_before world_from world is_table_mode is_row_mode table_mode
from1_20 = link head lines w_20 (conn 1) None e_20 rest_21 None (λ h. not_own h) (refl) from1_21

from1_19 : ConductFrom head lines w_19 (conn 1) None rest_19
unfolding mode_number mode_eq goes_with compatible joined at_least covers escalated value_cmp value_eq value_lt name_eq is_hold_of opposes stands_before world_from world is_table_mode is_row_mode table_mode
from1_19 = link head lines w_19 (conn 1) None e_19 rest_20 None (λ h. not_own h) (refl) from1_20

from1_18 : ConductFrom head lines w_18 (conn 1) None rest_18
unfolding mode_number mode_eq goes_with compatible joined at_least covers escalated value_cmp value_eq value_lt name_eq is_hold_of opposes stands_before world_from world is_table_mode is_row_mode table_mode
from1_18 = link head lines w_18 (conn 1) None e_18 rest_19 None (λ h. not_own h) (refl) from1_19

from1_17 : ConductFrom head lines w_17 (conn 1) None rest_17
unfolding mode_number mode_eq goes_with compatible joined at_least covers escalated value_cmp value_eq value_lt name_eq is_hold_of opposes stands_before world_from world is_table_mode is_row_mode table_mode
from1_17 = link head lines w_17 (conn 1) None e_17 rest_18 None (λ h. not_own h) (refl) from1_18

from1_16 : ConductFrom head lines w_16 (conn 1) None rest_16
unfolding mode_number mode_eq goes_with compatible joined at_least covers escalated value_cmp value_eq value_lt name_eq is_hold_of opposes stands_before world_from world is_table_mode is_row_mode table_mode
from1_16 = link head lines w_16 (conn 1) None e_16 rest_17 None (λ h. not_own h) (refl) from1_17

from1_15 : ConductFrom head lines w_15 (conn 1) None rest_15
unfolding mode_number mode_eq goes_with compatible joined at_least covers escalated value_cmp value_eq value_lt name_eq is_hold_of opposes stands_before world_from world is_table_mode is_row_mode table_mode
from1_15 = link head lines w_15 (conn 1) None e_15 rest_16 None (λ h. not_own h) (refl) from1_16

from1_14 : ConductFrom head lines w_14 (conn 1) None rest_14
unfolding mode_number mode_eq goes_with compatible joined at_least covers escalated value_cmp value_eq value_lt name_eq is_hold_of opposes stands_before world_from world is_table_mode is_row_mode table_mode
from1_14 = link head lines w_14 (conn 1) None e_14 rest_15 None (λ h. not_own h) (refl) from1_15

from1_13 : ConductFrom head lines w_13 (conn 1) (Some o1_13) rest_13
unfolding mode_number mode_eq goes_with compatible joined at_least covers escalated value_cmp value_eq value_lt name_eq is_hold_of opposes stands_before world_from world is_table_mode is_row_mode table_mode
from1_13 = link head lines w_13 (conn 1) (Some o1_13) e_13 rest_14 None (λ h k. refl) (refl) from1_14

from1_12 : ConductFrom head lines w_12 (conn 1) (Some o1_12) rest_12
unfolding mode_number mode_eq goes_with compatible joined at_least covers escalated value_cmp value_eq value_lt name_eq is_hold_of opposes stands_before world_from world is_table_mode is_row_mode table_mode
from1_12 = link head lines w_12 (conn 1) (Some o1_12) e_12 rest_13 (Some o1_13) (λ h k. refl) (refl) from1_13

from1_11 : ConductFrom head lines w_11 (conn 1) (Some o1_11) rest_11
unfolding mode_number mode_eq goes_with compatible joined at_least covers escalated value_cmp value_eq value_lt name_eq is_hold_of opposes stands_before world_from world is_table_mode is_row_mode table_mode
from1_11 = link head lines w_11 (conn 1) (Some o1_11) e_11 rest_12 (Some o1_12) (λ h k. refl) (refl) from1_12

from1_10 : ConductFrom head lines w_10 (conn 1) (Some o1_10) rest_10
unfolding mode_number mode_eq goes_with compatible joined at_least covers escalated value_cmp value_eq value_lt name_eq is_hold_of opposes stands_before world_from world is_table_mode is_row_mode table_mode
from1_10 = link head lines w_10 (conn 1) (Some o1_10) e_10 rest_11 (Some o1_11) (λ h k. refl) (refl) from1_11

from1_9 : ConductFrom head lines w_9 (conn 1) (Some o1_9) rest_9
unfolding mode_number mode_eq goes_with compatible joined at_least covers escalated value_cmp value_eq value_lt name_eq is_hold_of opposes stands_before world_from world is_table_mode is_row_mode table_mode
from1_9 = link head lines w_9 (conn 1) (Some o1_9) e_9 rest_10 (Some o1_10) (λ h k. refl) (ap (λ x. past_look head lines w_9 (conn 1) o1_9 (table 0) (rid 11) Alter x) (ap is_true (truth_25 ((Int (pos 12)) ∷ [])))) from1_10

from1_8 : ConductFrom head lines w_8 (conn 1) (Some o1_8) rest_8
unfolding mode_number mode_eq goes_with compatible joined at_least covers escalated value_cmp value_eq value_lt name_eq is_hold_of opposes stands_before world_from world is_table_mode is_row_mode table_mode
from1_8 = link head lines w_8 (conn 1) (Some o1_8) e_8 rest_9 (Some o1_9) (λ h k. refl) (refl) from1_9

from1_7 : ConductFrom head lines w_7 (conn 1) None rest_7
unfolding mode_number mode_eq goes_with compatible joined at_least covers escalated value_cmp value_eq value_lt name_eq is_hold_of opposes stands_before world_from world is_table_mode is_row_mode table_mode
from1_7 = begins head lines w_7 (conn 1) o1_7 e_7 rest_8 refl (ap (λ x. Some (begun head w_7 (conn 1) statement_25 (change_list head (table 0) (level_in (w_7.setting (conn 1)) None) x))) plan_25) (link head lines w_7 (conn 1) (Some o1_7) e_7 rest_8 (Some o1_8) (λ h k. refl) (refl) from1_8)

from1_6 : ConductFrom head lines w_6 (conn 1) None rest_6
unfolding mode_number mode_eq goes_with compatible joined at_least covers escalated value_cmp value_eq value_lt name_eq is_hold_of opposes stands_before world_from world is_table_mode is_row_mode table_mode
from1_6 = link head lines w_6 (conn 1) None e_6 rest_7 None (λ h. not_own h) (refl) from1_7

from1_5 : ConductFrom head lines w_5 (conn 1) None rest_5
unfolding mode_number mode_eq goes_with compatible joined at_least covers escalated value_cmp value_eq value_lt name_eq is_hold_of opposes stands_before world_from world is_table_mode is_row_mode table_mode
from1_5 = link head lines w_5 (conn 1) None e_5 rest_6 None (λ h. not_own h) (refl) from1_6

from1_4 : ConductFrom head lines w_4 (conn 1) None rest_4
unfolding mode_number mode_eq goes_with compatible joined at_least covers escalated value_cmp value_eq value_lt name_eq is_hold_of opposes stands_before world_from world is_table_mode is_row_mode table_mode
from1_4 = link head lines w_4 (conn 1) None e_4 rest_5 None (λ h. not_own h) (refl) from1_5

from1_3 : ConductFrom head lines w_3 (conn 1) None rest_3
unfolding mode_number mode_eq goes_with compatible joined at_least covers escalated value_cmp value_eq value_lt name_eq is_hold_of opposes stands_before world_from world is_table_mode is_row_mode table_mode
from1_3 = link head lines w_3 (conn 1) None e_3 rest_4 None (λ h. not_own h) (refl) from1_4

from1_2 : ConductFrom head lines w_2 (conn 1) None rest_2
unfolding mode_number mode_eq goes_with compatible joined at_least covers escalated value_cmp value_eq value_lt name_eq is_hold_of opposes stands_before world_from world is_table_mode is_row_mode table_mode
from1_2 = link head lines w_2 (conn 1) None e_2 rest_3 None (λ h. not_own h) (refl) from1_3

from1_1 : ConductFrom head lines w_1 (conn 1) None rest_1
unfolding mode_number mode_eq goes_with compatible joined at_least covers escalated value_cmp value_eq value_lt name_eq is_hold_of opposes stands_before world_from world is_table_mode is_row_mode table_mode
from1_1 = link head lines w_1 (conn 1) None e_1 rest_2 None (λ h. not_own h) (refl) from1_2

from1_0 : ConductFrom head lines w_0 (conn 1) None rest_0
unfolding mode_number mode_eq goes_with compatible joined at_least covers escalated value_cmp value_eq value_lt name_eq is_hold_of opposes stands_before world_from world is_table_mode is_row_mode table_mode
from1_0 = link head lines w_0 (conn 1) None e_0 rest_1 None (λ h. not_own h) (refl) from1_1

conduct_1 : Conduct head lines es (conn 1)
unfolding Conduct
conduct_1 = from1_0

paced : Paced head lines es
unfolding mode_number mode_eq goes_with compatible joined at_least covers escalated value_cmp value_eq value_lt name_eq is_hold_of opposes stands_before world_from world is_table_mode is_row_mode table_mode PacedFrom Paced
paced = (refl, (tt, (tt, (tt, (tt, (tt, (refl, (tt, (tt, (tt, (tt, (tt, (tt, (tt, (refl, (tt, (tt, (tt, (tt, (tt, (tt, (tt, (tt, (tt, (tt, (refl, (tt, (refl, (tt, (tt, (tt, (tt, (tt, (tt, (tt, (tt, (refl, (refl, (tt, (refl, (tt, (refl, tt))))))))))))))))))))))))))))))))))))))))))

scheduled : Scheduled head lines None es
unfolding mode_number mode_eq goes_with compatible joined at_least covers escalated value_cmp value_eq value_lt name_eq is_hold_of opposes stands_before world_from world is_table_mode is_row_mode table_mode ScheduledFrom Scheduled
scheduled = (refl, (λ k. refl, λ h. no_stop h), (refl, tt, (refl, tt, (refl, tt, (refl, tt, (refl, tt, (refl, (λ k. refl, λ h. no_stop h), (refl, tt, (refl, tt, (refl, tt, (refl, tt, (refl, tt, (refl, tt, (refl, tt, (refl, (λ k. refl, λ h. no_stop h), (refl, tt, (refl, tt, (refl, tt, (refl, tt, (refl, tt, (refl, tt, (refl, tt, (refl, tt, (refl, tt, (refl, tt, (refl, (λ k. refl, λ h. no_stop h), (refl, tt, (refl, (λ k. refl, λ h. no_stop h), (refl, tt, (refl, tt, (refl, tt, (refl, tt, (refl, tt, (refl, tt, (refl, tt, (refl, tt, (refl, (λ k. refl, λ h. no_stop h), (refl, (λ k. refl, λ h. no_stop h), (refl, tt, (refl, (λ k. refl, λ h. no_stop h), (refl, tt, (refl, (λ k. refl, λ h. no_stop h), tt))))))))))))))))))))))))))))))))))))))))))

whole : IsWhole (record { head = head; lines = lines }) es
unfolding mode_number mode_eq goes_with compatible joined at_least covers escalated value_cmp value_eq value_lt name_eq is_hold_of opposes stands_before world_from world is_table_mode is_row_mode table_mode
whole = record { finished = (take 41 es, refl); unstopped = refl; lines = refl; ended = refl }
