-- A rollback to a savepoint: legal, scheduled and whole, by computing.
use Rattle.std.proofs.Common.{◌≡◌, ℕ, Bool, true, false, List, [], ◌∷◌, refl, Some, None, length, take, drop, pos, negsuc}
use Rattle.std.specs.List.{list_all}
use Rattle.iso_types.specs.declared.value.Value.{Value}
use Rattle.iso_types.specs.declared.value.Value.TheVariants.{Null, Int}
use Rattle.iso_types.specs.declared.value.Name.TheVariants.{Table, Row, Key, End}
use Rattle.iso_types.specs.declared.head.Head.{Head}
use Rattle.iso_types.specs.declared.head.ColumnKind.TheVariants.{Integer, Bigint, Varchar}
use Rattle.iso_types.specs.declared.head.Isolation.TheVariants.{Ur, Cs, Rs, Rr}
use Rattle.iso_modes.specs.declared.Mode.TheVariants.{In, Is, Ns, S, Ix, Six, U, X, Nw, Z}
use Rattle.iso_modes.specs.declared.Term.TheVariants.{Kept, Brief, Fresh}
use Rattle.iso_modes.specs.declared.LockState.{LockState}
use Rattle.iso_modes.specs.declared.LockState.TheVariants.{Converting}
use Rattle.iso_queue.specs.declared.LockLine.{LockLine}
use Rattle.iso_history.specs.declared.entry.Act.{Act}
use Rattle.iso_history.specs.declared.entry.Act.TheVariants.{Dispatch, Busy, Expire, Snapshot, Victim, Purge, Close, Stopped, Finish, Lock, Claim, Look, ScanEnd, Next, Free, Collapse, Insert, Update, Delete, Refused, Undo, Mark, Back, Set, Commit, Rollback, Reply}
use Rattle.iso_history.specs.declared.entry.Why.TheVariants.{Asked, Escalation, Blocked}
use Rattle.iso_history.specs.declared.entry.Got.{Got}
use Rattle.iso_history.specs.declared.entry.Stand.{Stand}
use Rattle.iso_history.specs.declared.entry.Stand.TheVariants.{At, Past}
use Rattle.iso_history.specs.declared.entry.Want.{Want}
use Rattle.iso_history.specs.declared.entry.Want.TheVariants.{Dirty, Current, Steady, Repeat, Alter, AlterKept}
use Rattle.iso_history.specs.declared.entry.Cause.{Cause}
use Rattle.iso_history.specs.declared.entry.Cause.TheVariants.{Memory, History}
use Rattle.iso_history.specs.declared.entry.Entry.{Entry}
use Rattle.iso_sql.specs.declared.statement.Statement.{Statement}
use Rattle.iso_sql.specs.declared.statement.Statement.TheVariants.{Select, RollbackTo, Savepoint, LockTable, SetIsolation, SetWait}
use Rattle.iso_sql.specs.declared.statement.Expr.{Expr}
use Rattle.iso_sql.specs.declared.statement.Items2.TheVariants.{All, Count, Columns}
use Rattle.iso_sql.specs.declared.statement.Op.TheVariants.{Eq, Ne, Lt, Le, Gt, Ge}
use Rattle.iso_script.specs.declared.script.Line.{Line}
use Rattle.iso_script.specs.declared.script.What.{What}
use Rattle.iso_script.specs.declared.script.Script.{Script}
use Rattle.iso_rows.proofs.Short.{conn, table, index, rid, dispatcher, agent, bound, range, lock_line, column, table_def, index_def, conn_def, first_row, config, heading, line, assign, sets_of, not_own, no_stop}
use Rattle.iso_modes.specs.Modes.{mode_number, mode_eq, goes_with, compatible, joined, at_least, covers, escalated}
use Rattle.iso_types.specs.Value.{value_cmp, value_eq, value_lt}
use Rattle.iso_types.specs.Ids.{name_eq}
use Rattle.iso_queue.specs.Locks.{is_hold_of}
use Rattle.iso_queue.specs.Queues.{opposes}
use Rattle.iso_queue.specs.Snapshots.{stands_before, snapshot}
use Rattle.iso_history.specs.After.{world_from, world, start}
use Rattle.iso_history.specs.Requests.{is_table_mode, is_row_mode, table_mode}
use Rattle.iso_history.specs.Legal.{GroundFrom, Ground}
use Rattle.iso_conduct.specs.Conduct.{Conduct, ConductFrom, point, point_from}
use Rattle.iso_conduct.specs.Pacing.{Paced, PacedFrom, lines_left, lines_from}
use Rattle.iso_conduct.specs.Schedule.{Scheduled, ScheduledFrom}
use Rattle.iso_conduct.specs.Whole.{IsWhole, is_line_done}
use Rattle.std.proofs.Common.{◌∙◌, ap, Option}
use Rattle.iso_conduct.specs.Conduct.{Does, point_after}
use Rattle.iso_conduct.specs.Parts.{Part, change_list, level_in, select_list}
use Rattle.iso_conduct.specs.Parts.Part.{Answer, Asks, Backs, Changes, Claims, Collapses, EntryLook, Frees, IndexScan, Leaves, Marks, NewRow, Replies, RowDelete, RowUpdate, Sets, Settles, TableScan, Undos}
use Rattle.iso_conduct.specs.Points.{Point, is_true, updated_columns}
use Rattle.iso_conduct.specs.Points.Haul.{Found, Given, Number}
use Rattle.iso_history.specs.World.{World}
use Rattle.iso_history.specs.After.{after}
use Rattle.iso_predicate.specs.Plan.{bounds_at, common_of, first_path, path_by, plan_of}
use Rattle.iso_predicate.specs.Truth.{between, both, compared, either, known, negated, truth, value_at}
use Rattle.iso_predicate.specs.declared.conditions.Truth.TheVariants.{True}
use Rattle.iso_predicate.specs.declared.plans.Path.{Path}
use Rattle.iso_sql.specs.declared.statement.Condition.{Condition}
use Rattle.iso_sql.specs.declared.statement.Condition.TheOpen.{Condition-F}
use Rattle.iso_sql.specs.declared.statement.Condition.TheVariants as c
use Rattle.iso_types.specs.Head.{is_null}
use Rattle.iso_rows.proofs.Linked.{always-bounds, always-truth, and-bounds-by, and-by, begins, begun, between-bounds, between-truth, compare-bounds, compare-truth, link, not-bounds, not-by, null-bounds, null-truth, or-bounds, or-by, past_look}

abbrev head : Head
head = heading (config true 1024 60 65536 65536)
    (table_def (column Integer true ∷ column Integer false ∷ []) ∷ [])
    []
    (first_row (table 0) ((Int (pos 1)) ∷ (Int (pos 100)) ∷ []) ∷ first_row (table 0) ((Int (pos 2)) ∷ (Int (pos 200)) ∷ []) ∷ [])
    (conn_def Cs ∷ conn_def Cs ∷ [])

abbrev statement_8 : Statement
statement_8 = Statement.Insert (table 0) ((Int (pos 3)) ∷ (Int (pos 300)) ∷ [])

abbrev statement_9 : Statement
statement_9 = Savepoint (83 ∷ 49 ∷ [])

abbrev statement_10 : Statement
statement_10 = Statement.Delete (table 0) (c.Compare 0 Eq (Int (pos 3))) None

abbrev cond_10 : Condition
cond_10 = (c.Compare 0 Eq (Int (pos 3)))

truth_10 : (shown : List Value) → truth shown cond_10 ≡ compared Eq (value_at shown 0) (Int (pos 3))
truth_10 shown = compare-truth shown 0 Eq (Int (pos 3))

plan_10 : plan_of head (table 0) cond_10 ≡ Path.Table
unfolding mode_number mode_eq goes_with compatible joined at_least covers escalated value_cmp value_eq value_lt name_eq is_hold_of opposes stands_before world_from world is_table_mode is_row_mode table_mode
plan_10 = refl

abbrev statement_11 : Statement
statement_11 = RollbackTo (83 ∷ 49 ∷ [])

abbrev statement_12 : Statement
statement_12 = Statement.Update (table 0) (sets_of (assign 1 (Expr.Literal (Int (pos 301))) ∷ [])) (c.Compare 0 Eq (Int (pos 3))) None

abbrev cond_12 : Condition
cond_12 = (c.Compare 0 Eq (Int (pos 3)))

truth_12 : (shown : List Value) → truth shown cond_12 ≡ compared Eq (value_at shown 0) (Int (pos 3))
truth_12 shown = compare-truth shown 0 Eq (Int (pos 3))

plan_12 : plan_of head (table 0) cond_12 ≡ Path.Table
unfolding mode_number mode_eq goes_with compatible joined at_least covers escalated value_cmp value_eq value_lt name_eq is_hold_of opposes stands_before world_from world is_table_mode is_row_mode table_mode
plan_12 = refl

abbrev statement_13 : Statement
statement_13 = Select (table 0) (Columns (0 ∷ [])) c.Always None

abbrev cond_13 : Condition
cond_13 = c.Always

truth_13 : (shown : List Value) → truth shown cond_13 ≡ True
truth_13 shown = always-truth shown

plan_13 : plan_of head (table 0) cond_13 ≡ Path.Table
unfolding mode_number mode_eq goes_with compatible joined at_least covers escalated value_cmp value_eq value_lt name_eq is_hold_of opposes stands_before world_from world is_table_mode is_row_mode table_mode
plan_13 = refl

abbrev statement_14 : Statement
statement_14 = Select (table 0) (Columns (1 ∷ [])) (c.Compare 0 Eq (Int (pos 3))) None

abbrev cond_14 : Condition
cond_14 = (c.Compare 0 Eq (Int (pos 3)))

truth_14 : (shown : List Value) → truth shown cond_14 ≡ compared Eq (value_at shown 0) (Int (pos 3))
truth_14 shown = compare-truth shown 0 Eq (Int (pos 3))

plan_14 : plan_of head (table 0) cond_14 ≡ Path.Table
unfolding mode_number mode_eq goes_with compatible joined at_least covers escalated value_cmp value_eq value_lt name_eq is_hold_of opposes stands_before world_from world is_table_mode is_row_mode table_mode
plan_14 = refl

abbrev statement_15 : Statement
statement_15 = RollbackTo (83 ∷ 50 ∷ [])

abbrev lines : List Line
lines =
    (line 8 (Some (conn 0)) false (What.Statement (Statement.Insert (table 0) ((Int (pos 3)) ∷ (Int (pos 300)) ∷ [])))
    ∷ line 9 (Some (conn 0)) false (What.Statement (Savepoint (83 ∷ 49 ∷ [])))
    ∷ line 10 (Some (conn 0)) false (What.Statement (Statement.Delete (table 0) (c.Compare 0 Eq (Int (pos 3))) None))
    ∷ line 11 (Some (conn 0)) false (What.Statement (RollbackTo (83 ∷ 49 ∷ [])))
    ∷ line 12 (Some (conn 0)) false (What.Statement (Statement.Update (table 0) (sets_of (assign 1 (Expr.Literal (Int (pos 301))) ∷ [])) (c.Compare 0 Eq (Int (pos 3))) None))
    ∷ line 13 (Some (conn 1)) false (What.Statement (Select (table 0) (Columns (0 ∷ [])) c.Always None))
    ∷ line 14 (Some (conn 0)) false (What.Statement (Select (table 0) (Columns (1 ∷ [])) (c.Compare 0 Eq (Int (pos 3))) None))
    ∷ line 15 (Some (conn 0)) false (What.Statement (RollbackTo (83 ∷ 50 ∷ []))) ∷ [])

abbrev e_0 : Entry
e_0 = dispatcher (Dispatch 8 (conn 0))

abbrev e_1 : Entry
e_1 = agent 0 (Lock (Table (table 0)) Ix Kept Asked Got.Granted)

abbrev e_2 : Entry
e_2 = agent 0 (Insert (table 0) (rid 2) ((Int (pos 3)) ∷ (Int (pos 300)) ∷ []))

abbrev e_3 : Entry
e_3 = agent 0 (Reply (pos 0) 1 [])

abbrev e_4 : Entry
e_4 = dispatcher (Dispatch 9 (conn 0))

abbrev e_5 : Entry
e_5 = agent 0 (Mark (83 ∷ 49 ∷ []))

abbrev e_6 : Entry
e_6 = agent 0 (Reply (pos 0) 0 [])

abbrev e_7 : Entry
e_7 = dispatcher (Dispatch 10 (conn 0))

abbrev e_8 : Entry
e_8 = agent 0 (Lock (Table (table 0)) Ix Kept Asked Got.Granted)

abbrev e_9 : Entry
e_9 = agent 0 (Look (table 0) (rid 0) Alter Got.Granted)

abbrev e_10 : Entry
e_10 = agent 0 (Free (table 0) (rid 0))

abbrev e_11 : Entry
e_11 = agent 0 (Look (table 0) (rid 1) Alter Got.Granted)

abbrev e_12 : Entry
e_12 = agent 0 (Free (table 0) (rid 1))

abbrev e_13 : Entry
e_13 = agent 0 (Look (table 0) (rid 2) Alter Got.Granted)

abbrev e_14 : Entry
e_14 = agent 0 (ScanEnd (table 0) 3)

abbrev e_15 : Entry
e_15 = agent 0 (Lock (Row (table 0) (rid 2)) X Kept Asked Got.Granted)

abbrev e_16 : Entry
e_16 = agent 0 (Delete (table 0) (rid 2))

abbrev e_17 : Entry
e_17 = agent 0 (Reply (pos 0) 1 [])

abbrev e_18 : Entry
e_18 = dispatcher (Dispatch 11 (conn 0))

abbrev e_19 : Entry
e_19 = agent 0 (Back (83 ∷ 49 ∷ []))

abbrev e_20 : Entry
e_20 = agent 0 (Undo 1)

abbrev e_21 : Entry
e_21 = agent 0 (Reply (pos 0) 0 [])

abbrev e_22 : Entry
e_22 = dispatcher (Dispatch 12 (conn 0))

abbrev e_23 : Entry
e_23 = agent 0 (Lock (Table (table 0)) Ix Kept Asked Got.Granted)

abbrev e_24 : Entry
e_24 = agent 0 (Look (table 0) (rid 0) Alter Got.Granted)

abbrev e_25 : Entry
e_25 = agent 0 (Free (table 0) (rid 0))

abbrev e_26 : Entry
e_26 = agent 0 (Look (table 0) (rid 1) Alter Got.Granted)

abbrev e_27 : Entry
e_27 = agent 0 (Free (table 0) (rid 1))

abbrev e_28 : Entry
e_28 = agent 0 (Look (table 0) (rid 2) Alter Got.Granted)

abbrev e_29 : Entry
e_29 = agent 0 (ScanEnd (table 0) 3)

abbrev e_30 : Entry
e_30 = agent 0 (Lock (Row (table 0) (rid 2)) X Kept Asked Got.Granted)

abbrev e_31 : Entry
e_31 = agent 0 (Update (table 0) (rid 2) ((Int (pos 3)) ∷ (Int (pos 301)) ∷ []))

abbrev e_32 : Entry
e_32 = agent 0 (Reply (pos 0) 1 [])

abbrev e_33 : Entry
e_33 = dispatcher (Dispatch 13 (conn 1))

abbrev e_34 : Entry
e_34 = agent 1 (Lock (Table (table 0)) Is Kept Asked Got.Granted)

abbrev e_35 : Entry
e_35 = agent 1 (Look (table 0) (rid 0) Current Got.Granted)

abbrev e_36 : Entry
e_36 = agent 1 (Look (table 0) (rid 1) Current Got.Granted)

abbrev e_37 : Entry
e_37 = agent 1 (Look (table 0) (rid 2) Current Got.Granted)

abbrev e_38 : Entry
e_38 = agent 1 (ScanEnd (table 0) 3)

abbrev e_39 : Entry
e_39 = agent 1 (Reply (pos 0) 0 (((Int (pos 1)) ∷ []) ∷ ((Int (pos 2)) ∷ []) ∷ []))

abbrev e_40 : Entry
e_40 = dispatcher (Dispatch 14 (conn 0))

abbrev e_41 : Entry
e_41 = agent 0 (Lock (Table (table 0)) Is Kept Asked Got.Granted)

abbrev e_42 : Entry
e_42 = agent 0 (Look (table 0) (rid 0) Current Got.Granted)

abbrev e_43 : Entry
e_43 = agent 0 (Look (table 0) (rid 1) Current Got.Granted)

abbrev e_44 : Entry
e_44 = agent 0 (Look (table 0) (rid 2) Current Got.Granted)

abbrev e_45 : Entry
e_45 = agent 0 (ScanEnd (table 0) 3)

abbrev e_46 : Entry
e_46 = agent 0 (Reply (pos 0) 0 (((Int (pos 301)) ∷ []) ∷ []))

abbrev e_47 : Entry
e_47 = dispatcher (Dispatch 15 (conn 0))

abbrev e_48 : Entry
e_48 = agent 0 (Refused (negsuc 879))

abbrev e_49 : Entry
e_49 = agent 0 (Reply (negsuc 879) 0 [])

abbrev e_50 : Entry
e_50 = dispatcher (Close (conn 0))

abbrev e_51 : Entry
e_51 = agent 0 (Undo 3)

abbrev e_52 : Entry
e_52 = agent 0 (Undo 0)

abbrev e_53 : Entry
e_53 = agent 0 (Act.Ended)

abbrev e_54 : Entry
e_54 = dispatcher (Close (conn 1))

abbrev e_55 : Entry
e_55 = agent 1 (Act.Ended)

abbrev e_56 : Entry
e_56 = dispatcher (Finish)

abbrev rest_57 : List Entry
rest_57 = []

abbrev rest_56 : List Entry
rest_56 = e_56 ∷ rest_57

abbrev rest_55 : List Entry
rest_55 = e_55 ∷ rest_56

abbrev rest_54 : List Entry
rest_54 = e_54 ∷ rest_55

abbrev rest_53 : List Entry
rest_53 = e_53 ∷ rest_54

abbrev rest_52 : List Entry
rest_52 = e_52 ∷ rest_53

abbrev rest_51 : List Entry
rest_51 = e_51 ∷ rest_52

abbrev rest_50 : List Entry
rest_50 = e_50 ∷ rest_51

abbrev rest_49 : List Entry
rest_49 = e_49 ∷ rest_50

abbrev rest_48 : List Entry
rest_48 = e_48 ∷ rest_49

abbrev rest_47 : List Entry
rest_47 = e_47 ∷ rest_48

abbrev rest_46 : List Entry
rest_46 = e_46 ∷ rest_47

abbrev rest_45 : List Entry
rest_45 = e_45 ∷ rest_46

abbrev rest_44 : List Entry
rest_44 = e_44 ∷ rest_45

abbrev rest_43 : List Entry
rest_43 = e_43 ∷ rest_44

abbrev rest_42 : List Entry
rest_42 = e_42 ∷ rest_43

abbrev rest_41 : List Entry
rest_41 = e_41 ∷ rest_42

abbrev rest_40 : List Entry
rest_40 = e_40 ∷ rest_41

abbrev rest_39 : List Entry
rest_39 = e_39 ∷ rest_40

abbrev rest_38 : List Entry
rest_38 = e_38 ∷ rest_39

abbrev rest_37 : List Entry
rest_37 = e_37 ∷ rest_38

abbrev rest_36 : List Entry
rest_36 = e_36 ∷ rest_37

abbrev rest_35 : List Entry
rest_35 = e_35 ∷ rest_36

abbrev rest_34 : List Entry
rest_34 = e_34 ∷ rest_35

abbrev rest_33 : List Entry
rest_33 = e_33 ∷ rest_34

abbrev rest_32 : List Entry
rest_32 = e_32 ∷ rest_33

abbrev rest_31 : List Entry
rest_31 = e_31 ∷ rest_32

abbrev rest_30 : List Entry
rest_30 = e_30 ∷ rest_31

abbrev rest_29 : List Entry
rest_29 = e_29 ∷ rest_30

abbrev rest_28 : List Entry
rest_28 = e_28 ∷ rest_29

abbrev rest_27 : List Entry
rest_27 = e_27 ∷ rest_28

abbrev rest_26 : List Entry
rest_26 = e_26 ∷ rest_27

abbrev rest_25 : List Entry
rest_25 = e_25 ∷ rest_26

abbrev rest_24 : List Entry
rest_24 = e_24 ∷ rest_25

abbrev rest_23 : List Entry
rest_23 = e_23 ∷ rest_24

abbrev rest_22 : List Entry
rest_22 = e_22 ∷ rest_23

abbrev rest_21 : List Entry
rest_21 = e_21 ∷ rest_22

abbrev rest_20 : List Entry
rest_20 = e_20 ∷ rest_21

abbrev rest_19 : List Entry
rest_19 = e_19 ∷ rest_20

abbrev rest_18 : List Entry
rest_18 = e_18 ∷ rest_19

abbrev rest_17 : List Entry
rest_17 = e_17 ∷ rest_18

abbrev rest_16 : List Entry
rest_16 = e_16 ∷ rest_17

abbrev rest_15 : List Entry
rest_15 = e_15 ∷ rest_16

abbrev rest_14 : List Entry
rest_14 = e_14 ∷ rest_15

abbrev rest_13 : List Entry
rest_13 = e_13 ∷ rest_14

abbrev rest_12 : List Entry
rest_12 = e_12 ∷ rest_13

abbrev rest_11 : List Entry
rest_11 = e_11 ∷ rest_12

abbrev rest_10 : List Entry
rest_10 = e_10 ∷ rest_11

abbrev rest_9 : List Entry
rest_9 = e_9 ∷ rest_10

abbrev rest_8 : List Entry
rest_8 = e_8 ∷ rest_9

abbrev rest_7 : List Entry
rest_7 = e_7 ∷ rest_8

abbrev rest_6 : List Entry
rest_6 = e_6 ∷ rest_7

abbrev rest_5 : List Entry
rest_5 = e_5 ∷ rest_6

abbrev rest_4 : List Entry
rest_4 = e_4 ∷ rest_5

abbrev rest_3 : List Entry
rest_3 = e_3 ∷ rest_4

abbrev rest_2 : List Entry
rest_2 = e_2 ∷ rest_3

abbrev rest_1 : List Entry
rest_1 = e_1 ∷ rest_2

abbrev rest_0 : List Entry
rest_0 = e_0 ∷ rest_1

abbrev w_0 : World
w_0 = start head

abbrev w_1 : World
w_1 = after head w_0 e_0

abbrev w_2 : World
w_2 = after head w_1 e_1

abbrev w_3 : World
w_3 = after head w_2 e_2

abbrev w_4 : World
w_4 = after head w_3 e_3

abbrev w_5 : World
w_5 = after head w_4 e_4

abbrev w_6 : World
w_6 = after head w_5 e_5

abbrev w_7 : World
w_7 = after head w_6 e_6

abbrev w_8 : World
w_8 = after head w_7 e_7

abbrev w_9 : World
w_9 = after head w_8 e_8

abbrev w_10 : World
w_10 = after head w_9 e_9

abbrev w_11 : World
w_11 = after head w_10 e_10

abbrev w_12 : World
w_12 = after head w_11 e_11

abbrev w_13 : World
w_13 = after head w_12 e_12

abbrev w_14 : World
w_14 = after head w_13 e_13

abbrev w_15 : World
w_15 = after head w_14 e_14

abbrev w_16 : World
w_16 = after head w_15 e_15

abbrev w_17 : World
w_17 = after head w_16 e_16

abbrev w_18 : World
w_18 = after head w_17 e_17

abbrev w_19 : World
w_19 = after head w_18 e_18

abbrev w_20 : World
w_20 = after head w_19 e_19

abbrev w_21 : World
w_21 = after head w_20 e_20

abbrev w_22 : World
w_22 = after head w_21 e_21

abbrev w_23 : World
w_23 = after head w_22 e_22

abbrev w_24 : World
w_24 = after head w_23 e_23

abbrev w_25 : World
w_25 = after head w_24 e_24

abbrev w_26 : World
w_26 = after head w_25 e_25

abbrev w_27 : World
w_27 = after head w_26 e_26

abbrev w_28 : World
w_28 = after head w_27 e_27

abbrev w_29 : World
w_29 = after head w_28 e_28

abbrev w_30 : World
w_30 = after head w_29 e_29

abbrev w_31 : World
w_31 = after head w_30 e_30

abbrev w_32 : World
w_32 = after head w_31 e_31

abbrev w_33 : World
w_33 = after head w_32 e_32

abbrev w_34 : World
w_34 = after head w_33 e_33

abbrev w_35 : World
w_35 = after head w_34 e_34

abbrev w_36 : World
w_36 = after head w_35 e_35

abbrev w_37 : World
w_37 = after head w_36 e_36

abbrev w_38 : World
w_38 = after head w_37 e_37

abbrev w_39 : World
w_39 = after head w_38 e_38

abbrev w_40 : World
w_40 = after head w_39 e_39

abbrev w_41 : World
w_41 = after head w_40 e_40

abbrev w_42 : World
w_42 = after head w_41 e_41

abbrev w_43 : World
w_43 = after head w_42 e_42

abbrev w_44 : World
w_44 = after head w_43 e_43

abbrev w_45 : World
w_45 = after head w_44 e_44

abbrev w_46 : World
w_46 = after head w_45 e_45

abbrev w_47 : World
w_47 = after head w_46 e_46

abbrev w_48 : World
w_48 = after head w_47 e_47

abbrev w_49 : World
w_49 = after head w_48 e_48

abbrev w_50 : World
w_50 = after head w_49 e_49

abbrev w_51 : World
w_51 = after head w_50 e_50

abbrev w_52 : World
w_52 = after head w_51 e_51

abbrev w_53 : World
w_53 = after head w_52 e_52

abbrev w_54 : World
w_54 = after head w_53 e_53

abbrev w_55 : World
w_55 = after head w_54 e_54

abbrev w_56 : World
w_56 = after head w_55 e_55

abbrev w_57 : World
w_57 = after head w_56 e_56

abbrev es : List Entry
es = rest_0

ground : Ground head es
unfolding mode_number mode_eq goes_with compatible joined at_least covers escalated value_cmp value_eq value_lt name_eq is_hold_of opposes stands_before world_from world is_table_mode is_row_mode table_mode GroundFrom Ground
ground = ((refl, refl, (refl, refl, refl)), ((refl, refl, (refl, ((refl, refl), (refl, refl, refl)))), ((refl, refl, (refl, ((refl, refl), refl, refl, refl, refl))), ((refl, refl, (refl, (refl, refl))), ((refl, refl, (refl, refl, refl)), ((refl, refl, (refl, (refl, refl))), ((refl, refl, (refl, (refl, refl))), ((refl, refl, (refl, refl, refl)), ((refl, refl, (refl, ((refl, refl), (refl, refl, refl)))), ((refl, refl, (refl, ((refl, refl), refl, refl))), ((refl, refl, (refl, ((refl, refl), refl, refl))), ((refl, refl, (refl, ((refl, refl), refl, refl))), ((refl, refl, (refl, ((refl, refl), refl, refl))), ((refl, refl, (refl, ((refl, refl), refl, refl))), ((refl, refl, (refl, ((refl, refl), refl, refl))), ((refl, refl, (refl, ((refl, refl), (refl, refl, refl)))), ((refl, refl, (refl, ((refl, refl), refl, refl))), ((refl, refl, (refl, (refl, refl))), ((refl, refl, (refl, refl, refl)), ((refl, refl, (refl, ((refl, refl), refl))), ((refl, refl, (refl, (refl, refl))), ((refl, refl, (refl, (refl, refl))), ((refl, refl, (refl, refl, refl)), ((refl, refl, (refl, ((refl, refl), (refl, refl, refl)))), ((refl, refl, (refl, ((refl, refl), refl, refl))), ((refl, refl, (refl, ((refl, refl), refl, refl))), ((refl, refl, (refl, ((refl, refl), refl, refl))), ((refl, refl, (refl, ((refl, refl), refl, refl))), ((refl, refl, (refl, ((refl, refl), refl, refl))), ((refl, refl, (refl, ((refl, refl), refl, refl))), ((refl, refl, (refl, ((refl, refl), (refl, refl, refl)))), ((refl, refl, (refl, ((refl, refl), refl, refl, refl))), ((refl, refl, (refl, (refl, refl))), ((refl, refl, (refl, refl, refl)), ((refl, refl, (refl, ((refl, refl), (refl, refl, refl)))), ((refl, refl, (refl, ((refl, refl), refl, refl))), ((refl, refl, (refl, ((refl, refl), refl, refl))), ((refl, refl, (refl, ((refl, refl), refl, refl))), ((refl, refl, (refl, ((refl, refl), refl, refl))), ((refl, refl, (refl, (refl, refl))), ((refl, refl, (refl, refl, refl)), ((refl, refl, (refl, ((refl, refl), (refl, refl, refl)))), ((refl, refl, (refl, ((refl, refl), refl, refl))), ((refl, refl, (refl, ((refl, refl), refl, refl))), ((refl, refl, (refl, ((refl, refl), refl, refl))), ((refl, refl, (refl, ((refl, refl), refl, refl))), ((refl, refl, (refl, (refl, refl))), ((refl, refl, (refl, refl, refl)), ((refl, refl, (refl, ((refl, refl), refl))), ((refl, refl, (refl, (refl, refl))), ((refl, refl, (refl, refl)), ((refl, refl, (refl, (refl, refl))), ((refl, refl, (refl, (refl, refl))), ((refl, refl, (refl, (refl, refl))), ((refl, refl, (refl, refl)), ((refl, refl, (refl, (refl, refl))), ((refl, refl, refl), tt)))))))))))))))))))))))))))))))))))))))))))))))))))))))))

abbrev o0_1 : Point
o0_1 = record { statement = statement_8; columns = []; floor = 0; left = (Asks (Table (table 0)) Ix ∷ NewRow (table 0) ((Int (pos 3)) ∷ (Int (pos 300)) ∷ []) ∷ Replies (pos 0) 1 ∷ []); kept = Found [] }

abbrev o0_2 : Point
o0_2 = record { statement = statement_8; columns = []; floor = 0; left = (NewRow (table 0) ((Int (pos 3)) ∷ (Int (pos 300)) ∷ []) ∷ Replies (pos 0) 1 ∷ []); kept = Found [] }

abbrev o0_3 : Point
o0_3 = record { statement = statement_8; columns = []; floor = 0; left = (Replies (pos 0) 1 ∷ []); kept = Found [] }

abbrev o0_5 : Point
o0_5 = record { statement = statement_9; columns = []; floor = 1; left = (Marks (83 ∷ 49 ∷ []) ∷ Replies (pos 0) 0 ∷ []); kept = Found [] }

abbrev o0_6 : Point
o0_6 = record { statement = statement_9; columns = []; floor = 1; left = (Replies (pos 0) 0 ∷ []); kept = Found [] }

abbrev o0_8 : Point
o0_8 = record { statement = statement_10; columns = []; floor = 1; left = (Asks (Table (table 0)) Ix ∷ TableScan (table 0) Alter 0 ∷ Changes (table 0) ∷ Answer ∷ []); kept = Found [] }

abbrev o0_9 : Point
o0_9 = record { statement = statement_10; columns = []; floor = 1; left = (TableScan (table 0) Alter 0 ∷ Changes (table 0) ∷ Answer ∷ []); kept = Found [] }

abbrev o0_10 : Point
o0_10 = record { statement = statement_10; columns = []; floor = 1; left = (Frees (table 0) (rid 0) ∷ TableScan (table 0) Alter 1 ∷ Changes (table 0) ∷ Answer ∷ []); kept = Found [] }

abbrev o0_11 : Point
o0_11 = record { statement = statement_10; columns = []; floor = 1; left = (TableScan (table 0) Alter 1 ∷ Changes (table 0) ∷ Answer ∷ []); kept = Found [] }

abbrev o0_12 : Point
o0_12 = record { statement = statement_10; columns = []; floor = 1; left = (Frees (table 0) (rid 1) ∷ TableScan (table 0) Alter 2 ∷ Changes (table 0) ∷ Answer ∷ []); kept = Found [] }

abbrev o0_13 : Point
o0_13 = record { statement = statement_10; columns = []; floor = 1; left = (TableScan (table 0) Alter 2 ∷ Changes (table 0) ∷ Answer ∷ []); kept = Found [] }

abbrev o0_14 : Point
o0_14 = record { statement = statement_10; columns = []; floor = 1; left = (TableScan (table 0) Alter 3 ∷ Changes (table 0) ∷ Answer ∷ []); kept = Found ((rid 2, ((Int (pos 3)) ∷ (Int (pos 300)) ∷ [])) ∷ []) }

abbrev o0_15 : Point
o0_15 = record { statement = statement_10; columns = []; floor = 1; left = (Asks (Row (table 0) (rid 2)) X ∷ RowDelete (table 0) (rid 2) ∷ Answer ∷ []); kept = Found ((rid 2, ((Int (pos 3)) ∷ (Int (pos 300)) ∷ [])) ∷ []) }

abbrev o0_16 : Point
o0_16 = record { statement = statement_10; columns = []; floor = 1; left = (RowDelete (table 0) (rid 2) ∷ Answer ∷ []); kept = Found ((rid 2, ((Int (pos 3)) ∷ (Int (pos 300)) ∷ [])) ∷ []) }

abbrev o0_17 : Point
o0_17 = record { statement = statement_10; columns = []; floor = 1; left = (Answer ∷ []); kept = Found ((rid 2, ((Int (pos 3)) ∷ (Int (pos 300)) ∷ [])) ∷ []) }

abbrev o0_19 : Point
o0_19 = record { statement = statement_11; columns = []; floor = 2; left = (Backs (83 ∷ 49 ∷ []) ∷ Replies (pos 0) 0 ∷ []); kept = Found [] }

abbrev o0_20 : Point
o0_20 = record { statement = statement_11; columns = []; floor = 2; left = (Undos 1 ∷ Replies (pos 0) 0 ∷ []); kept = Found [] }

abbrev o0_21 : Point
o0_21 = record { statement = statement_11; columns = []; floor = 2; left = (Undos 1 ∷ Replies (pos 0) 0 ∷ []); kept = Found [] }

abbrev o0_23 : Point
o0_23 = record { statement = statement_12; columns = (updated_columns head statement_12); floor = 3; left = (Asks (Table (table 0)) Ix ∷ TableScan (table 0) Alter 0 ∷ Changes (table 0) ∷ Answer ∷ []); kept = Found [] }

abbrev o0_24 : Point
o0_24 = record { statement = statement_12; columns = (updated_columns head statement_12); floor = 3; left = (TableScan (table 0) Alter 0 ∷ Changes (table 0) ∷ Answer ∷ []); kept = Found [] }

abbrev o0_25 : Point
o0_25 = record { statement = statement_12; columns = (updated_columns head statement_12); floor = 3; left = (Frees (table 0) (rid 0) ∷ TableScan (table 0) Alter 1 ∷ Changes (table 0) ∷ Answer ∷ []); kept = Found [] }

abbrev o0_26 : Point
o0_26 = record { statement = statement_12; columns = (updated_columns head statement_12); floor = 3; left = (TableScan (table 0) Alter 1 ∷ Changes (table 0) ∷ Answer ∷ []); kept = Found [] }

abbrev o0_27 : Point
o0_27 = record { statement = statement_12; columns = (updated_columns head statement_12); floor = 3; left = (Frees (table 0) (rid 1) ∷ TableScan (table 0) Alter 2 ∷ Changes (table 0) ∷ Answer ∷ []); kept = Found [] }

abbrev o0_28 : Point
o0_28 = record { statement = statement_12; columns = (updated_columns head statement_12); floor = 3; left = (TableScan (table 0) Alter 2 ∷ Changes (table 0) ∷ Answer ∷ []); kept = Found [] }

abbrev o0_29 : Point
o0_29 = record { statement = statement_12; columns = (updated_columns head statement_12); floor = 3; left = (TableScan (table 0) Alter 3 ∷ Changes (table 0) ∷ Answer ∷ []); kept = Found ((rid 2, ((Int (pos 3)) ∷ (Int (pos 300)) ∷ [])) ∷ []) }

abbrev o0_30 : Point
o0_30 = record { statement = statement_12; columns = (updated_columns head statement_12); floor = 3; left = (Asks (Row (table 0) (rid 2)) X ∷ RowUpdate (table 0) (rid 2) ((Int (pos 3)) ∷ (Int (pos 301)) ∷ []) ∷ Answer ∷ []); kept = Found ((rid 2, ((Int (pos 3)) ∷ (Int (pos 300)) ∷ [])) ∷ []) }

abbrev o0_31 : Point
o0_31 = record { statement = statement_12; columns = (updated_columns head statement_12); floor = 3; left = (RowUpdate (table 0) (rid 2) ((Int (pos 3)) ∷ (Int (pos 301)) ∷ []) ∷ Answer ∷ []); kept = Found ((rid 2, ((Int (pos 3)) ∷ (Int (pos 300)) ∷ [])) ∷ []) }

abbrev o0_32 : Point
o0_32 = record { statement = statement_12; columns = (updated_columns head statement_12); floor = 3; left = (Answer ∷ []); kept = Found ((rid 2, ((Int (pos 3)) ∷ (Int (pos 300)) ∷ [])) ∷ []) }

abbrev o0_41 : Point
o0_41 = record { statement = statement_14; columns = []; floor = 4; left = (Asks (Table (table 0)) Is ∷ TableScan (table 0) Current 0 ∷ Answer ∷ []); kept = Given [] }

abbrev o0_42 : Point
o0_42 = record { statement = statement_14; columns = []; floor = 4; left = (TableScan (table 0) Current 0 ∷ Answer ∷ []); kept = Given [] }

abbrev o0_43 : Point
o0_43 = record { statement = statement_14; columns = []; floor = 4; left = (TableScan (table 0) Current 1 ∷ Answer ∷ []); kept = Given [] }

abbrev o0_44 : Point
o0_44 = record { statement = statement_14; columns = []; floor = 4; left = (TableScan (table 0) Current 2 ∷ Answer ∷ []); kept = Given [] }

abbrev o0_45 : Point
o0_45 = record { statement = statement_14; columns = []; floor = 4; left = (TableScan (table 0) Current 3 ∷ Answer ∷ []); kept = Given (((Int (pos 301)) ∷ []) ∷ []) }

abbrev o0_46 : Point
o0_46 = record { statement = statement_14; columns = []; floor = 4; left = (Answer ∷ []); kept = Given (((Int (pos 301)) ∷ []) ∷ []) }

abbrev o0_48 : Point
o0_48 = record { statement = statement_15; columns = []; floor = 4; left = (Backs (83 ∷ 50 ∷ []) ∷ Replies (pos 0) 0 ∷ []); kept = Found [] }

abbrev o0_49 : Point
o0_49 = record { statement = statement_15; columns = []; floor = 4; left = (Undos 4 ∷ Replies (negsuc 879) 0 ∷ []); kept = Found [] }

from0_57 : ConductFrom head lines w_57 (conn 0) None rest_57
unfolding mode_number mode_eq goes_with compatible joined at_least covers escalated value_cmp value_eq value_lt name_eq is_hold_of opposes stands_before world_from world is_table_mode is_row_mode table_mode ConductFrom
from0_57 = tt

from0_56 : ConductFrom head lines w_56 (conn 0) None rest_56
unfolding mode_number mode_eq goes_with compatible joined at_least covers escalated value_cmp value_eq value_lt name_eq is_hold_of opposes stands_before world_from world is_table_mode is_row_mode table_mode
from0_56 = link head lines w_56 (conn 0) None e_56 rest_57 None (λ h. not_own h) (refl) from0_57

from0_55 : ConductFrom head lines w_55 (conn 0) None rest_55
unfolding mode_number mode_eq goes_with compatible joined at_least covers escalated value_cmp value_eq value_lt name_eq is_hold_of opposes stands_before world_from world is_table_mode is_row_mode table_mode
from0_55 = link head lines w_55 (conn 0) None e_55 rest_56 None (λ h. not_own h) (refl) from0_56

from0_54 : ConductFrom head lines w_54 (conn 0) None rest_54
unfolding mode_number mode_eq goes_with compatible joined at_least covers escalated value_cmp value_eq value_lt name_eq is_hold_of opposes stands_before world_from world is_table_mode is_row_mode table_mode
from0_54 = link head lines w_54 (conn 0) None e_54 rest_55 None (λ h. not_own h) (refl) from0_55

from0_53 : ConductFrom head lines w_53 (conn 0) None rest_53
unfolding mode_number mode_eq goes_with compatible joined at_least covers escalated value_cmp value_eq value_lt name_eq is_hold_of opposes stands_before world_from world is_table_mode is_row_mode table_mode
from0_53 = link head lines w_53 (conn 0) None e_53 rest_54 None (λ h. refl) (refl) from0_54

from0_52 : ConductFrom head lines w_52 (conn 0) None rest_52
unfolding mode_number mode_eq goes_with compatible joined at_least covers escalated value_cmp value_eq value_lt name_eq is_hold_of opposes stands_before world_from world is_table_mode is_row_mode table_mode
from0_52 = link head lines w_52 (conn 0) None e_52 rest_53 None (λ h. refl) (refl) from0_53

from0_51 : ConductFrom head lines w_51 (conn 0) None rest_51
unfolding mode_number mode_eq goes_with compatible joined at_least covers escalated value_cmp value_eq value_lt name_eq is_hold_of opposes stands_before world_from world is_table_mode is_row_mode table_mode
from0_51 = link head lines w_51 (conn 0) None e_51 rest_52 None (λ h. refl) (refl) from0_52

from0_50 : ConductFrom head lines w_50 (conn 0) None rest_50
unfolding mode_number mode_eq goes_with compatible joined at_least covers escalated value_cmp value_eq value_lt name_eq is_hold_of opposes stands_before world_from world is_table_mode is_row_mode table_mode
from0_50 = link head lines w_50 (conn 0) None e_50 rest_51 None (λ h. not_own h) (refl) from0_51

from0_49 : ConductFrom head lines w_49 (conn 0) (Some o0_49) rest_49
unfolding mode_number mode_eq goes_with compatible joined at_least covers escalated value_cmp value_eq value_lt name_eq is_hold_of opposes stands_before world_from world is_table_mode is_row_mode table_mode
from0_49 = link head lines w_49 (conn 0) (Some o0_49) e_49 rest_50 None (λ h k. refl) (refl) from0_50

from0_48 : ConductFrom head lines w_48 (conn 0) None rest_48
unfolding mode_number mode_eq goes_with compatible joined at_least covers escalated value_cmp value_eq value_lt name_eq is_hold_of opposes stands_before world_from world is_table_mode is_row_mode table_mode
from0_48 = begins head lines w_48 (conn 0) o0_48 e_48 rest_49 refl (refl) (link head lines w_48 (conn 0) (Some o0_48) e_48 rest_49 (Some o0_49) (λ h k. refl) (refl) from0_49)

from0_47 : ConductFrom head lines w_47 (conn 0) None rest_47
unfolding mode_number mode_eq goes_with compatible joined at_least covers escalated value_cmp value_eq value_lt name_eq is_hold_of opposes stands_before world_from world is_table_mode is_row_mode table_mode
from0_47 = link head lines w_47 (conn 0) None e_47 rest_48 None (λ h. not_own h) (refl) from0_48

from0_46 : ConductFrom head lines w_46 (conn 0) (Some o0_46) rest_46
unfolding mode_number mode_eq goes_with compatible joined at_least covers escalated value_cmp value_eq value_lt name_eq is_hold_of opposes stands_before world_from world is_table_mode is_row_mode table_mode
from0_46 = link head lines w_46 (conn 0) (Some o0_46) e_46 rest_47 None (λ h k. refl) (refl) from0_47

from0_45 : ConductFrom head lines w_45 (conn 0) (Some o0_45) rest_45
unfolding mode_number mode_eq goes_with compatible joined at_least covers escalated value_cmp value_eq value_lt name_eq is_hold_of opposes stands_before world_from world is_table_mode is_row_mode table_mode
from0_45 = link head lines w_45 (conn 0) (Some o0_45) e_45 rest_46 (Some o0_46) (λ h k. refl) (refl) from0_46

from0_44 : ConductFrom head lines w_44 (conn 0) (Some o0_44) rest_44
unfolding mode_number mode_eq goes_with compatible joined at_least covers escalated value_cmp value_eq value_lt name_eq is_hold_of opposes stands_before world_from world is_table_mode is_row_mode table_mode
from0_44 = link head lines w_44 (conn 0) (Some o0_44) e_44 rest_45 (Some o0_45) (λ h k. refl) (ap (λ x. past_look head lines w_44 (conn 0) o0_44 (table 0) (rid 2) Current x) (ap is_true (truth_14 ((Int (pos 3)) ∷ (Int (pos 301)) ∷ [])))) from0_45

from0_43 : ConductFrom head lines w_43 (conn 0) (Some o0_43) rest_43
unfolding mode_number mode_eq goes_with compatible joined at_least covers escalated value_cmp value_eq value_lt name_eq is_hold_of opposes stands_before world_from world is_table_mode is_row_mode table_mode
from0_43 = link head lines w_43 (conn 0) (Some o0_43) e_43 rest_44 (Some o0_44) (λ h k. refl) (ap (λ x. past_look head lines w_43 (conn 0) o0_43 (table 0) (rid 1) Current x) (ap is_true (truth_14 ((Int (pos 2)) ∷ (Int (pos 200)) ∷ [])))) from0_44

from0_42 : ConductFrom head lines w_42 (conn 0) (Some o0_42) rest_42
unfolding mode_number mode_eq goes_with compatible joined at_least covers escalated value_cmp value_eq value_lt name_eq is_hold_of opposes stands_before world_from world is_table_mode is_row_mode table_mode
from0_42 = link head lines w_42 (conn 0) (Some o0_42) e_42 rest_43 (Some o0_43) (λ h k. refl) (ap (λ x. past_look head lines w_42 (conn 0) o0_42 (table 0) (rid 0) Current x) (ap is_true (truth_14 ((Int (pos 1)) ∷ (Int (pos 100)) ∷ [])))) from0_43

from0_41 : ConductFrom head lines w_41 (conn 0) None rest_41
unfolding mode_number mode_eq goes_with compatible joined at_least covers escalated value_cmp value_eq value_lt name_eq is_hold_of opposes stands_before world_from world is_table_mode is_row_mode table_mode
from0_41 = begins head lines w_41 (conn 0) o0_41 e_41 rest_42 refl (ap (λ x. Some (begun head w_41 (conn 0) statement_14 (select_list head (table 0) (level_in (w_41.setting (conn 0)) None) x))) plan_14) (link head lines w_41 (conn 0) (Some o0_41) e_41 rest_42 (Some o0_42) (λ h k. refl) (refl) from0_42)

from0_40 : ConductFrom head lines w_40 (conn 0) None rest_40
unfolding mode_number mode_eq goes_with compatible joined at_least covers escalated value_cmp value_eq value_lt name_eq is_hold_of opposes stands_before world_from world is_table_mode is_row_mode table_mode
from0_40 = link head lines w_40 (conn 0) None e_40 rest_41 None (λ h. not_own h) (refl) from0_41

from0_39 : ConductFrom head lines w_39 (conn 0) None rest_39
unfolding mode_number mode_eq goes_with compatible joined at_least covers escalated value_cmp value_eq value_lt name_eq is_hold_of opposes stands_before world_from world is_table_mode is_row_mode table_mode
from0_39 = link head lines w_39 (conn 0) None e_39 rest_40 None (λ h. not_own h) (refl) from0_40

from0_38 : ConductFrom head lines w_38 (conn 0) None rest_38
unfolding mode_number mode_eq goes_with compatible joined at_least covers escalated value_cmp value_eq value_lt name_eq is_hold_of opposes stands_before world_from world is_table_mode is_row_mode table_mode
from0_38 = link head lines w_38 (conn 0) None e_38 rest_39 None (λ h. not_own h) (refl) from0_39

from0_37 : ConductFrom head lines w_37 (conn 0) None rest_37
unfolding mode_number mode_eq goes_with compatible joined at_least covers escalated value_cmp value_eq value_lt name_eq is_hold_of opposes stands_before world_from world is_table_mode is_row_mode table_mode
from0_37 = link head lines w_37 (conn 0) None e_37 rest_38 None (λ h. not_own h) (refl) from0_38

from0_36 : ConductFrom head lines w_36 (conn 0) None rest_36
unfolding mode_number mode_eq goes_with compatible joined at_least covers escalated value_cmp value_eq value_lt name_eq is_hold_of opposes stands_before world_from world is_table_mode is_row_mode table_mode
from0_36 = link head lines w_36 (conn 0) None e_36 rest_37 None (λ h. not_own h) (refl) from0_37

from0_35 : ConductFrom head lines w_35 (conn 0) None rest_35
unfolding mode_number mode_eq goes_with compatible joined at_least covers escalated value_cmp value_eq value_lt name_eq is_hold_of opposes stands_before world_from world is_table_mode is_row_mode table_mode
from0_35 = link head lines w_35 (conn 0) None e_35 rest_36 None (λ h. not_own h) (refl) from0_36

from0_34 : ConductFrom head lines w_34 (conn 0) None rest_34
unfolding mode_number mode_eq goes_with compatible joined at_least covers escalated value_cmp value_eq value_lt name_eq is_hold_of opposes stands_before world_from world is_table_mode is_row_mode table_mode
from0_34 = link head lines w_34 (conn 0) None e_34 rest_35 None (λ h. not_own h) (refl) from0_35

from0_33 : ConductFrom head lines w_33 (conn 0) None rest_33
unfolding mode_number mode_eq goes_with compatible joined at_least covers escalated value_cmp value_eq value_lt name_eq is_hold_of opposes stands_before world_from world is_table_mode is_row_mode table_mode
from0_33 = link head lines w_33 (conn 0) None e_33 rest_34 None (λ h. not_own h) (refl) from0_34

from0_32 : ConductFrom head lines w_32 (conn 0) (Some o0_32) rest_32
unfolding mode_number mode_eq goes_with compatible joined at_least covers escalated value_cmp value_eq value_lt name_eq is_hold_of opposes stands_before world_from world is_table_mode is_row_mode table_mode
from0_32 = link head lines w_32 (conn 0) (Some o0_32) e_32 rest_33 None (λ h k. refl) (refl) from0_33

from0_31 : ConductFrom head lines w_31 (conn 0) (Some o0_31) rest_31
unfolding mode_number mode_eq goes_with compatible joined at_least covers escalated value_cmp value_eq value_lt name_eq is_hold_of opposes stands_before world_from world is_table_mode is_row_mode table_mode
from0_31 = link head lines w_31 (conn 0) (Some o0_31) e_31 rest_32 (Some o0_32) (λ h k. refl) (refl) from0_32

from0_30 : ConductFrom head lines w_30 (conn 0) (Some o0_30) rest_30
unfolding mode_number mode_eq goes_with compatible joined at_least covers escalated value_cmp value_eq value_lt name_eq is_hold_of opposes stands_before world_from world is_table_mode is_row_mode table_mode
from0_30 = link head lines w_30 (conn 0) (Some o0_30) e_30 rest_31 (Some o0_31) (λ h k. refl) (refl) from0_31

from0_29 : ConductFrom head lines w_29 (conn 0) (Some o0_29) rest_29
unfolding mode_number mode_eq goes_with compatible joined at_least covers escalated value_cmp value_eq value_lt name_eq is_hold_of opposes stands_before world_from world is_table_mode is_row_mode table_mode
from0_29 = link head lines w_29 (conn 0) (Some o0_29) e_29 rest_30 (Some o0_30) (λ h k. refl) (refl) from0_30

from0_28 : ConductFrom head lines w_28 (conn 0) (Some o0_28) rest_28
unfolding mode_number mode_eq goes_with compatible joined at_least covers escalated value_cmp value_eq value_lt name_eq is_hold_of opposes stands_before world_from world is_table_mode is_row_mode table_mode
from0_28 = link head lines w_28 (conn 0) (Some o0_28) e_28 rest_29 (Some o0_29) (λ h k. refl) (ap (λ x. past_look head lines w_28 (conn 0) o0_28 (table 0) (rid 2) Alter x) (ap is_true (truth_12 ((Int (pos 3)) ∷ (Int (pos 300)) ∷ [])))) from0_29

from0_27 : ConductFrom head lines w_27 (conn 0) (Some o0_27) rest_27
unfolding mode_number mode_eq goes_with compatible joined at_least covers escalated value_cmp value_eq value_lt name_eq is_hold_of opposes stands_before world_from world is_table_mode is_row_mode table_mode
from0_27 = link head lines w_27 (conn 0) (Some o0_27) e_27 rest_28 (Some o0_28) (λ h k. refl) (refl) from0_28

from0_26 : ConductFrom head lines w_26 (conn 0) (Some o0_26) rest_26
unfolding mode_number mode_eq goes_with compatible joined at_least covers escalated value_cmp value_eq value_lt name_eq is_hold_of opposes stands_before world_from world is_table_mode is_row_mode table_mode
from0_26 = link head lines w_26 (conn 0) (Some o0_26) e_26 rest_27 (Some o0_27) (λ h k. refl) (ap (λ x. past_look head lines w_26 (conn 0) o0_26 (table 0) (rid 1) Alter x) (ap is_true (truth_12 ((Int (pos 2)) ∷ (Int (pos 200)) ∷ [])))) from0_27

from0_25 : ConductFrom head lines w_25 (conn 0) (Some o0_25) rest_25
unfolding mode_number mode_eq goes_with compatible joined at_least covers escalated value_cmp value_eq value_lt name_eq is_hold_of opposes stands_before world_from world is_table_mode is_row_mode table_mode
from0_25 = link head lines w_25 (conn 0) (Some o0_25) e_25 rest_26 (Some o0_26) (λ h k. refl) (refl) from0_26

from0_24 : ConductFrom head lines w_24 (conn 0) (Some o0_24) rest_24
unfolding mode_number mode_eq goes_with compatible joined at_least covers escalated value_cmp value_eq value_lt name_eq is_hold_of opposes stands_before world_from world is_table_mode is_row_mode table_mode
from0_24 = link head lines w_24 (conn 0) (Some o0_24) e_24 rest_25 (Some o0_25) (λ h k. refl) (ap (λ x. past_look head lines w_24 (conn 0) o0_24 (table 0) (rid 0) Alter x) (ap is_true (truth_12 ((Int (pos 1)) ∷ (Int (pos 100)) ∷ [])))) from0_25

from0_23 : ConductFrom head lines w_23 (conn 0) None rest_23
unfolding mode_number mode_eq goes_with compatible joined at_least covers escalated value_cmp value_eq value_lt name_eq is_hold_of opposes stands_before world_from world is_table_mode is_row_mode table_mode
from0_23 = begins head lines w_23 (conn 0) o0_23 e_23 rest_24 refl (ap (λ x. Some (begun head w_23 (conn 0) statement_12 (change_list head (table 0) (level_in (w_23.setting (conn 0)) None) x))) plan_12) (link head lines w_23 (conn 0) (Some o0_23) e_23 rest_24 (Some o0_24) (λ h k. refl) (refl) from0_24)

from0_22 : ConductFrom head lines w_22 (conn 0) None rest_22
unfolding mode_number mode_eq goes_with compatible joined at_least covers escalated value_cmp value_eq value_lt name_eq is_hold_of opposes stands_before world_from world is_table_mode is_row_mode table_mode
from0_22 = link head lines w_22 (conn 0) None e_22 rest_23 None (λ h. not_own h) (refl) from0_23

from0_21 : ConductFrom head lines w_21 (conn 0) (Some o0_21) rest_21
unfolding mode_number mode_eq goes_with compatible joined at_least covers escalated value_cmp value_eq value_lt name_eq is_hold_of opposes stands_before world_from world is_table_mode is_row_mode table_mode
from0_21 = link head lines w_21 (conn 0) (Some o0_21) e_21 rest_22 None (λ h k. refl) (refl) from0_22

from0_20 : ConductFrom head lines w_20 (conn 0) (Some o0_20) rest_20
unfolding mode_number mode_eq goes_with compatible joined at_least covers escalated value_cmp value_eq value_lt name_eq is_hold_of opposes stands_before world_from world is_table_mode is_row_mode table_mode
from0_20 = link head lines w_20 (conn 0) (Some o0_20) e_20 rest_21 (Some o0_21) (λ h k. refl) (refl) from0_21

from0_19 : ConductFrom head lines w_19 (conn 0) None rest_19
unfolding mode_number mode_eq goes_with compatible joined at_least covers escalated value_cmp value_eq value_lt name_eq is_hold_of opposes stands_before world_from world is_table_mode is_row_mode table_mode
from0_19 = begins head lines w_19 (conn 0) o0_19 e_19 rest_20 refl (refl) (link head lines w_19 (conn 0) (Some o0_19) e_19 rest_20 (Some o0_20) (λ h k. refl) (refl) from0_20)

from0_18 : ConductFrom head lines w_18 (conn 0) None rest_18
unfolding mode_number mode_eq goes_with compatible joined at_least covers escalated value_cmp value_eq value_lt name_eq is_hold_of opposes stands_before world_from world is_table_mode is_row_mode table_mode
from0_18 = link head lines w_18 (conn 0) None e_18 rest_19 None (λ h. not_own h) (refl) from0_19

from0_17 : ConductFrom head lines w_17 (conn 0) (Some o0_17) rest_17
unfolding mode_number mode_eq goes_with compatible joined at_least covers escalated value_cmp value_eq value_lt name_eq is_hold_of opposes stands_before world_from world is_table_mode is_row_mode table_mode
from0_17 = link head lines w_17 (conn 0) (Some o0_17) e_17 rest_18 None (λ h k. refl) (refl) from0_18

from0_16 : ConductFrom head lines w_16 (conn 0) (Some o0_16) rest_16
unfolding mode_number mode_eq goes_with compatible joined at_least covers escalated value_cmp value_eq value_lt name_eq is_hold_of opposes stands_before world_from world is_table_mode is_row_mode table_mode
from0_16 = link head lines w_16 (conn 0) (Some o0_16) e_16 rest_17 (Some o0_17) (λ h k. refl) (refl) from0_17

from0_15 : ConductFrom head lines w_15 (conn 0) (Some o0_15) rest_15
unfolding mode_number mode_eq goes_with compatible joined at_least covers escalated value_cmp value_eq value_lt name_eq is_hold_of opposes stands_before world_from world is_table_mode is_row_mode table_mode
from0_15 = link head lines w_15 (conn 0) (Some o0_15) e_15 rest_16 (Some o0_16) (λ h k. refl) (refl) from0_16

from0_14 : ConductFrom head lines w_14 (conn 0) (Some o0_14) rest_14
unfolding mode_number mode_eq goes_with compatible joined at_least covers escalated value_cmp value_eq value_lt name_eq is_hold_of opposes stands_before world_from world is_table_mode is_row_mode table_mode
from0_14 = link head lines w_14 (conn 0) (Some o0_14) e_14 rest_15 (Some o0_15) (λ h k. refl) (refl) from0_15

from0_13 : ConductFrom head lines w_13 (conn 0) (Some o0_13) rest_13
unfolding mode_number mode_eq goes_with compatible joined at_least covers escalated value_cmp value_eq value_lt name_eq is_hold_of opposes stands_before world_from world is_table_mode is_row_mode table_mode
from0_13 = link head lines w_13 (conn 0) (Some o0_13) e_13 rest_14 (Some o0_14) (λ h k. refl) (ap (λ x. past_look head lines w_13 (conn 0) o0_13 (table 0) (rid 2) Alter x) (ap is_true (truth_10 ((Int (pos 3)) ∷ (Int (pos 300)) ∷ [])))) from0_14

from0_12 : ConductFrom head lines w_12 (conn 0) (Some o0_12) rest_12
unfolding mode_number mode_eq goes_with compatible joined at_least covers escalated value_cmp value_eq value_lt name_eq is_hold_of opposes stands_before world_from world is_table_mode is_row_mode table_mode
from0_12 = link head lines w_12 (conn 0) (Some o0_12) e_12 rest_13 (Some o0_13) (λ h k. refl) (refl) from0_13

from0_11 : ConductFrom head lines w_11 (conn 0) (Some o0_11) rest_11
unfolding mode_number mode_eq goes_with compatible joined at_least covers escalated value_cmp value_eq value_lt name_eq is_hold_of opposes stands_before world_from world is_table_mode is_row_mode table_mode
from0_11 = link head lines w_11 (conn 0) (Some o0_11) e_11 rest_12 (Some o0_12) (λ h k. refl) (ap (λ x. past_look head lines w_11 (conn 0) o0_11 (table 0) (rid 1) Alter x) (ap is_true (truth_10 ((Int (pos 2)) ∷ (Int (pos 200)) ∷ [])))) from0_12

from0_10 : ConductFrom head lines w_10 (conn 0) (Some o0_10) rest_10
unfolding mode_number mode_eq goes_with compatible joined at_least covers escalated value_cmp value_eq value_lt name_eq is_hold_of opposes stands_before world_from world is_table_mode is_row_mode table_mode
from0_10 = link head lines w_10 (conn 0) (Some o0_10) e_10 rest_11 (Some o0_11) (λ h k. refl) (refl) from0_11

from0_9 : ConductFrom head lines w_9 (conn 0) (Some o0_9) rest_9
unfolding mode_number mode_eq goes_with compatible joined at_least covers escalated value_cmp value_eq value_lt name_eq is_hold_of opposes stands_before world_from world is_table_mode is_row_mode table_mode
from0_9 = link head lines w_9 (conn 0) (Some o0_9) e_9 rest_10 (Some o0_10) (λ h k. refl) (ap (λ x. past_look head lines w_9 (conn 0) o0_9 (table 0) (rid 0) Alter x) (ap is_true (truth_10 ((Int (pos 1)) ∷ (Int (pos 100)) ∷ [])))) from0_10

from0_8 : ConductFrom head lines w_8 (conn 0) None rest_8
unfolding mode_number mode_eq goes_with compatible joined at_least covers escalated value_cmp value_eq value_lt name_eq is_hold_of opposes stands_before world_from world is_table_mode is_row_mode table_mode
from0_8 = begins head lines w_8 (conn 0) o0_8 e_8 rest_9 refl (ap (λ x. Some (begun head w_8 (conn 0) statement_10 (change_list head (table 0) (level_in (w_8.setting (conn 0)) None) x))) plan_10) (link head lines w_8 (conn 0) (Some o0_8) e_8 rest_9 (Some o0_9) (λ h k. refl) (refl) from0_9)

from0_7 : ConductFrom head lines w_7 (conn 0) None rest_7
unfolding mode_number mode_eq goes_with compatible joined at_least covers escalated value_cmp value_eq value_lt name_eq is_hold_of opposes stands_before world_from world is_table_mode is_row_mode table_mode
from0_7 = link head lines w_7 (conn 0) None e_7 rest_8 None (λ h. not_own h) (refl) from0_8

from0_6 : ConductFrom head lines w_6 (conn 0) (Some o0_6) rest_6
unfolding mode_number mode_eq goes_with compatible joined at_least covers escalated value_cmp value_eq value_lt name_eq is_hold_of opposes stands_before world_from world is_table_mode is_row_mode table_mode
from0_6 = link head lines w_6 (conn 0) (Some o0_6) e_6 rest_7 None (λ h k. refl) (refl) from0_7

from0_5 : ConductFrom head lines w_5 (conn 0) None rest_5
unfolding mode_number mode_eq goes_with compatible joined at_least covers escalated value_cmp value_eq value_lt name_eq is_hold_of opposes stands_before world_from world is_table_mode is_row_mode table_mode
from0_5 = begins head lines w_5 (conn 0) o0_5 e_5 rest_6 refl (refl) (link head lines w_5 (conn 0) (Some o0_5) e_5 rest_6 (Some o0_6) (λ h k. refl) (refl) from0_6)

from0_4 : ConductFrom head lines w_4 (conn 0) None rest_4
unfolding mode_number mode_eq goes_with compatible joined at_least covers escalated value_cmp value_eq value_lt name_eq is_hold_of opposes stands_before world_from world is_table_mode is_row_mode table_mode
from0_4 = link head lines w_4 (conn 0) None e_4 rest_5 None (λ h. not_own h) (refl) from0_5

from0_3 : ConductFrom head lines w_3 (conn 0) (Some o0_3) rest_3
unfolding mode_number mode_eq goes_with compatible joined at_least covers escalated value_cmp value_eq value_lt name_eq is_hold_of opposes stands_before world_from world is_table_mode is_row_mode table_mode
from0_3 = link head lines w_3 (conn 0) (Some o0_3) e_3 rest_4 None (λ h k. refl) (refl) from0_4

from0_2 : ConductFrom head lines w_2 (conn 0) (Some o0_2) rest_2
unfolding mode_number mode_eq goes_with compatible joined at_least covers escalated value_cmp value_eq value_lt name_eq is_hold_of opposes stands_before world_from world is_table_mode is_row_mode table_mode
from0_2 = link head lines w_2 (conn 0) (Some o0_2) e_2 rest_3 (Some o0_3) (λ h k. refl) (refl) from0_3

from0_1 : ConductFrom head lines w_1 (conn 0) None rest_1
unfolding mode_number mode_eq goes_with compatible joined at_least covers escalated value_cmp value_eq value_lt name_eq is_hold_of opposes stands_before world_from world is_table_mode is_row_mode table_mode
from0_1 = begins head lines w_1 (conn 0) o0_1 e_1 rest_2 refl (refl) (link head lines w_1 (conn 0) (Some o0_1) e_1 rest_2 (Some o0_2) (λ h k. refl) (refl) from0_2)

from0_0 : ConductFrom head lines w_0 (conn 0) None rest_0
unfolding mode_number mode_eq goes_with compatible joined at_least covers escalated value_cmp value_eq value_lt name_eq is_hold_of opposes stands_before world_from world is_table_mode is_row_mode table_mode
from0_0 = link head lines w_0 (conn 0) None e_0 rest_1 None (λ h. not_own h) (refl) from0_1

conduct_0 : Conduct head lines es (conn 0)
unfolding Conduct
conduct_0 = from0_0

abbrev o1_34 : Point
o1_34 = record { statement = statement_13; columns = []; floor = 4; left = (Asks (Table (table 0)) Is ∷ TableScan (table 0) Current 0 ∷ Answer ∷ []); kept = Given [] }

abbrev o1_35 : Point
o1_35 = record { statement = statement_13; columns = []; floor = 4; left = (TableScan (table 0) Current 0 ∷ Answer ∷ []); kept = Given [] }

abbrev o1_36 : Point
o1_36 = record { statement = statement_13; columns = []; floor = 4; left = (TableScan (table 0) Current 1 ∷ Answer ∷ []); kept = Given (((Int (pos 1)) ∷ []) ∷ []) }

abbrev o1_37 : Point
o1_37 = record { statement = statement_13; columns = []; floor = 4; left = (TableScan (table 0) Current 2 ∷ Answer ∷ []); kept = Given (((Int (pos 1)) ∷ []) ∷ ((Int (pos 2)) ∷ []) ∷ []) }

abbrev o1_38 : Point
o1_38 = record { statement = statement_13; columns = []; floor = 4; left = (TableScan (table 0) Current 3 ∷ Answer ∷ []); kept = Given (((Int (pos 1)) ∷ []) ∷ ((Int (pos 2)) ∷ []) ∷ []) }

abbrev o1_39 : Point
o1_39 = record { statement = statement_13; columns = []; floor = 4; left = (Answer ∷ []); kept = Given (((Int (pos 1)) ∷ []) ∷ ((Int (pos 2)) ∷ []) ∷ []) }

from1_57 : ConductFrom head lines w_57 (conn 1) None rest_57
unfolding mode_number mode_eq goes_with compatible joined at_least covers escalated value_cmp value_eq value_lt name_eq is_hold_of opposes stands_before world_from world is_table_mode is_row_mode table_mode ConductFrom
from1_57 = tt

from1_56 : ConductFrom head lines w_56 (conn 1) None rest_56
unfolding mode_number mode_eq goes_with compatible joined at_least covers escalated value_cmp value_eq value_lt name_eq is_hold_of opposes stands_before world_from world is_table_mode is_row_mode table_mode
from1_56 = link head lines w_56 (conn 1) None e_56 rest_57 None (λ h. not_own h) (refl) from1_57

from1_55 : ConductFrom head lines w_55 (conn 1) None rest_55
unfolding mode_number mode_eq goes_with compatible joined at_least covers escalated value_cmp value_eq value_lt name_eq is_hold_of opposes stands_before world_from world is_table_mode is_row_mode table_mode
from1_55 = link head lines w_55 (conn 1) None e_55 rest_56 None (λ h. refl) (refl) from1_56

from1_54 : ConductFrom head lines w_54 (conn 1) None rest_54
unfolding mode_number mode_eq goes_with compatible joined at_least covers escalated value_cmp value_eq value_lt name_eq is_hold_of opposes stands_before world_from world is_table_mode is_row_mode table_mode
from1_54 = link head lines w_54 (conn 1) None e_54 rest_55 None (λ h. not_own h) (refl) from1_55

from1_53 : ConductFrom head lines w_53 (conn 1) None rest_53
unfolding mode_number mode_eq goes_with compatible joined at_least covers escalated value_cmp value_eq value_lt name_eq is_hold_of opposes stands_before world_from world is_table_mode is_row_mode table_mode
from1_53 = link head lines w_53 (conn 1) None e_53 rest_54 None (λ h. not_own h) (refl) from1_54

from1_52 : ConductFrom head lines w_52 (conn 1) None rest_52
unfolding mode_number mode_eq goes_with compatible joined at_least covers escalated value_cmp value_eq value_lt name_eq is_hold_of opposes stands_before world_from world is_table_mode is_row_mode table_mode
from1_52 = link head lines w_52 (conn 1) None e_52 rest_53 None (λ h. not_own h) (refl) from1_53

from1_51 : ConductFrom head lines w_51 (conn 1) None rest_51
unfolding mode_number mode_eq goes_with compatible joined at_least covers escalated value_cmp value_eq value_lt name_eq is_hold_of opposes stands_before world_from world is_table_mode is_row_mode table_mode
from1_51 = link head lines w_51 (conn 1) None e_51 rest_52 None (λ h. not_own h) (refl) from1_52

from1_50 : ConductFrom head lines w_50 (conn 1) None rest_50
unfolding mode_number mode_eq goes_with compatible joined at_least covers escalated value_cmp value_eq value_lt name_eq is_hold_of opposes stands_before world_from world is_table_mode is_row_mode table_mode
from1_50 = link head lines w_50 (conn 1) None e_50 rest_51 None (λ h. not_own h) (refl) from1_51

from1_49 : ConductFrom head lines w_49 (conn 1) None rest_49
unfolding mode_number mode_eq goes_with compatible joined at_least covers escalated value_cmp value_eq value_lt name_eq is_hold_of opposes stands_before world_from world is_table_mode is_row_mode table_mode
from1_49 = link head lines w_49 (conn 1) None e_49 rest_50 None (λ h. not_own h) (refl) from1_50

from1_48 : ConductFrom head lines w_48 (conn 1) None rest_48
unfolding mode_number mode_eq goes_with compatible joined at_least covers escalated value_cmp value_eq value_lt name_eq is_hold_of opposes stands_before world_from world is_table_mode is_row_mode table_mode
from1_48 = link head lines w_48 (conn 1) None e_48 rest_49 None (λ h. not_own h) (refl) from1_49

from1_47 : ConductFrom head lines w_47 (conn 1) None rest_47
unfolding mode_number mode_eq goes_with compatible joined at_least covers escalated value_cmp value_eq value_lt name_eq is_hold_of opposes stands_before world_from world is_table_mode is_row_mode table_mode
from1_47 = link head lines w_47 (conn 1) None e_47 rest_48 None (λ h. not_own h) (refl) from1_48

from1_46 : ConductFrom head lines w_46 (conn 1) None rest_46
unfolding mode_number mode_eq goes_with compatible joined at_least covers escalated value_cmp value_eq value_lt name_eq is_hold_of opposes stands_before world_from world is_table_mode is_row_mode table_mode
from1_46 = link head lines w_46 (conn 1) None e_46 rest_47 None (λ h. not_own h) (refl) from1_47

from1_45 : ConductFrom head lines w_45 (conn 1) None rest_45
unfolding mode_number mode_eq goes_with compatible joined at_least covers escalated value_cmp value_eq value_lt name_eq is_hold_of opposes stands_before world_from world is_table_mode is_row_mode table_mode
from1_45 = link head lines w_45 (conn 1) None e_45 rest_46 None (λ h. not_own h) (refl) from1_46

from1_44 : ConductFrom head lines w_44 (conn 1) None rest_44
unfolding mode_number mode_eq goes_with compatible joined at_least covers escalated value_cmp value_eq value_lt name_eq is_hold_of opposes stands_before world_from world is_table_mode is_row_mode table_mode
from1_44 = link head lines w_44 (conn 1) None e_44 rest_45 None (λ h. not_own h) (refl) from1_45

from1_43 : ConductFrom head lines w_43 (conn 1) None rest_43
unfolding mode_number mode_eq goes_with compatible joined at_least covers escalated value_cmp value_eq value_lt name_eq is_hold_of opposes stands_before world_from world is_table_mode is_row_mode table_mode
from1_43 = link head lines w_43 (conn 1) None e_43 rest_44 None (λ h. not_own h) (refl) from1_44

from1_42 : ConductFrom head lines w_42 (conn 1) None rest_42
unfolding mode_number mode_eq goes_with compatible joined at_least covers escalated value_cmp value_eq value_lt name_eq is_hold_of opposes stands_before world_from world is_table_mode is_row_mode table_mode
from1_42 = link head lines w_42 (conn 1) None e_42 rest_43 None (λ h. not_own h) (refl) from1_43

from1_41 : ConductFrom head lines w_41 (conn 1) None rest_41
unfolding mode_number mode_eq goes_with compatible joined at_least covers escalated value_cmp value_eq value_lt name_eq is_hold_of opposes stands_before world_from world is_table_mode is_row_mode table_mode
from1_41 = link head lines w_41 (conn 1) None e_41 rest_42 None (λ h. not_own h) (refl) from1_42

from1_40 : ConductFrom head lines w_40 (conn 1) None rest_40
unfolding mode_number mode_eq goes_with compatible joined at_least covers escalated value_cmp value_eq value_lt name_eq is_hold_of opposes stands_before world_from world is_table_mode is_row_mode table_mode
from1_40 = link head lines w_40 (conn 1) None e_40 rest_41 None (λ h. not_own h) (refl) from1_41

from1_39 : ConductFrom head lines w_39 (conn 1) (Some o1_39) rest_39
unfolding mode_number mode_eq goes_with compatible joined at_least covers escalated value_cmp value_eq value_lt name_eq is_hold_of opposes stands_before world_from world is_table_mode is_row_mode table_mode
from1_39 = link head lines w_39 (conn 1) (Some o1_39) e_39 rest_40 None (λ h k. refl) (refl) from1_40

from1_38 : ConductFrom head lines w_38 (conn 1) (Some o1_38) rest_38
unfolding mode_number mode_eq goes_with compatible joined at_least covers escalated value_cmp value_eq value_lt name_eq is_hold_of opposes stands_before world_from world is_table_mode is_row_mode table_mode
from1_38 = link head lines w_38 (conn 1) (Some o1_38) e_38 rest_39 (Some o1_39) (λ h k. refl) (refl) from1_39

from1_37 : ConductFrom head lines w_37 (conn 1) (Some o1_37) rest_37
unfolding mode_number mode_eq goes_with compatible joined at_least covers escalated value_cmp value_eq value_lt name_eq is_hold_of opposes stands_before world_from world is_table_mode is_row_mode table_mode
from1_37 = link head lines w_37 (conn 1) (Some o1_37) e_37 rest_38 (Some o1_38) (λ h k. refl) (refl) from1_38

from1_36 : ConductFrom head lines w_36 (conn 1) (Some o1_36) rest_36
unfolding mode_number mode_eq goes_with compatible joined at_least covers escalated value_cmp value_eq value_lt name_eq is_hold_of opposes stands_before world_from world is_table_mode is_row_mode table_mode
from1_36 = link head lines w_36 (conn 1) (Some o1_36) e_36 rest_37 (Some o1_37) (λ h k. refl) (ap (λ x. past_look head lines w_36 (conn 1) o1_36 (table 0) (rid 1) Current x) (ap is_true (truth_13 ((Int (pos 2)) ∷ (Int (pos 200)) ∷ [])))) from1_37

from1_35 : ConductFrom head lines w_35 (conn 1) (Some o1_35) rest_35
unfolding mode_number mode_eq goes_with compatible joined at_least covers escalated value_cmp value_eq value_lt name_eq is_hold_of opposes stands_before world_from world is_table_mode is_row_mode table_mode
from1_35 = link head lines w_35 (conn 1) (Some o1_35) e_35 rest_36 (Some o1_36) (λ h k. refl) (ap (λ x. past_look head lines w_35 (conn 1) o1_35 (table 0) (rid 0) Current x) (ap is_true (truth_13 ((Int (pos 1)) ∷ (Int (pos 100)) ∷ [])))) from1_36

from1_34 : ConductFrom head lines w_34 (conn 1) None rest_34
unfolding mode_number mode_eq goes_with compatible joined at_least covers escalated value_cmp value_eq value_lt name_eq is_hold_of opposes stands_before world_from world is_table_mode is_row_mode table_mode
from1_34 = begins head lines w_34 (conn 1) o1_34 e_34 rest_35 refl (ap (λ x. Some (begun head w_34 (conn 1) statement_13 (select_list head (table 0) (level_in (w_34.setting (conn 1)) None) x))) plan_13) (link head lines w_34 (conn 1) (Some o1_34) e_34 rest_35 (Some o1_35) (λ h k. refl) (refl) from1_35)

from1_33 : ConductFrom head lines w_33 (conn 1) None rest_33
unfolding mode_number mode_eq goes_with compatible joined at_least covers escalated value_cmp value_eq value_lt name_eq is_hold_of opposes stands_before world_from world is_table_mode is_row_mode table_mode
from1_33 = link head lines w_33 (conn 1) None e_33 rest_34 None (λ h. not_own h) (refl) from1_34

from1_32 : ConductFrom head lines w_32 (conn 1) None rest_32
unfolding mode_number mode_eq goes_with compatible joined at_least covers escalated value_cmp value_eq value_lt name_eq is_hold_of opposes stands_before world_from world is_table_mode is_row_mode table_mode
from1_32 = link head lines w_32 (conn 1) None e_32 rest_33 None (λ h. not_own h) (refl) from1_33

from1_31 : ConductFrom head lines w_31 (conn 1) None rest_31
unfolding mode_number mode_eq goes_with compatible joined at_least covers escalated value_cmp value_eq value_lt name_eq is_hold_of opposes stands_before world_from world is_table_mode is_row_mode table_mode
from1_31 = link head lines w_31 (conn 1) None e_31 rest_32 None (λ h. not_own h) (refl) from1_32

from1_30 : ConductFrom head lines w_30 (conn 1) None rest_30
unfolding mode_number mode_eq goes_with compatible joined at_least covers escalated value_cmp value_eq value_lt name_eq is_hold_of opposes stands_before world_from world is_table_mode is_row_mode table_mode
from1_30 = link head lines w_30 (conn 1) None e_30 rest_31 None (λ h. not_own h) (refl) from1_31

from1_29 : ConductFrom head lines w_29 (conn 1) None rest_29
unfolding mode_number mode_eq goes_with compatible joined at_least covers escalated value_cmp value_eq value_lt name_eq is_hold_of opposes stands_before world_from world is_table_mode is_row_mode table_mode
from1_29 = link head lines w_29 (conn 1) None e_29 rest_30 None (λ h. not_own h) (refl) from1_30

from1_28 : ConductFrom head lines w_28 (conn 1) None rest_28
unfolding mode_number mode_eq goes_with compatible joined at_least covers escalated value_cmp value_eq value_lt name_eq is_hold_of opposes stands_before world_from world is_table_mode is_row_mode table_mode
from1_28 = link head lines w_28 (conn 1) None e_28 rest_29 None (λ h. not_own h) (refl) from1_29

from1_27 : ConductFrom head lines w_27 (conn 1) None rest_27
unfolding mode_number mode_eq goes_with compatible joined at_least covers escalated value_cmp value_eq value_lt name_eq is_hold_of opposes stands_before world_from world is_table_mode is_row_mode table_mode
from1_27 = link head lines w_27 (conn 1) None e_27 rest_28 None (λ h. not_own h) (refl) from1_28

from1_26 : ConductFrom head lines w_26 (conn 1) None rest_26
unfolding mode_number mode_eq goes_with compatible joined at_least covers escalated value_cmp value_eq value_lt name_eq is_hold_of opposes stands_before world_from world is_table_mode is_row_mode table_mode
from1_26 = link head lines w_26 (conn 1) None e_26 rest_27 None (λ h. not_own h) (refl) from1_27

from1_25 : ConductFrom head lines w_25 (conn 1) None rest_25
unfolding mode_number mode_eq goes_with compatible joined at_least covers escalated value_cmp value_eq value_lt name_eq is_hold_of opposes stands_before world_from world is_table_mode is_row_mode table_mode
from1_25 = link head lines w_25 (conn 1) None e_25 rest_26 None (λ h. not_own h) (refl) from1_26

from1_24 : ConductFrom head lines w_24 (conn 1) None rest_24
unfolding mode_number mode_eq goes_with compatible joined at_least covers escalated value_cmp value_eq value_lt name_eq is_hold_of opposes stands_before world_from world is_table_mode is_row_mode table_mode
from1_24 = link head lines w_24 (conn 1) None e_24 rest_25 None (λ h. not_own h) (refl) from1_25

from1_23 : ConductFrom head lines w_23 (conn 1) None rest_23
unfolding mode_number mode_eq goes_with compatible joined at_least covers escalated value_cmp value_eq value_lt name_eq is_hold_of opposes stands_before world_from world is_table_mode is_row_mode table_mode
from1_23 = link head lines w_23 (conn 1) None e_23 rest_24 None (λ h. not_own h) (refl) from1_24

from1_22 : ConductFrom head lines w_22 (conn 1) None rest_22
unfolding mode_number mode_eq goes_with compatible joined at_least covers escalated value_cmp value_eq value_lt name_eq is_hold_of opposes stands_before world_from world is_table_mode is_row_mode table_mode
from1_22 = link head lines w_22 (conn 1) None e_22 rest_23 None (λ h. not_own h) (refl) from1_23

from1_21 : ConductFrom head lines w_21 (conn 1) None rest_21
unfolding mode_number mode_eq goes_with compatible joined at_least covers escalated value_cmp value_eq value_lt name_eq is_hold_of opposes stands_before world_from world is_table_mode is_row_mode table_mode
from1_21 = link head lines w_21 (conn 1) None e_21 rest_22 None (λ h. not_own h) (refl) from1_22

from1_20 : ConductFrom head lines w_20 (conn 1) None rest_20
unfolding mode_number mode_eq goes_with compatible joined at_least covers escalated value_cmp value_eq value_lt name_eq is_hold_of opposes stands_before world_from world is_table_mode is_row_mode table_mode
from1_20 = link head lines w_20 (conn 1) None e_20 rest_21 None (λ h. not_own h) (refl) from1_21

from1_19 : ConductFrom head lines w_19 (conn 1) None rest_19
unfolding mode_number mode_eq goes_with compatible joined at_least covers escalated value_cmp value_eq value_lt name_eq is_hold_of opposes stands_before world_from world is_table_mode is_row_mode table_mode
from1_19 = link head lines w_19 (conn 1) None e_19 rest_20 None (λ h. not_own h) (refl) from1_20

from1_18 : ConductFrom head lines w_18 (conn 1) None rest_18
unfolding mode_number mode_eq goes_with compatible joined at_least covers escalated value_cmp value_eq value_lt name_eq is_hold_of opposes stands_before world_from world is_table_mode is_row_mode table_mode
from1_18 = link head lines w_18 (conn 1) None e_18 rest_19 None (λ h. not_own h) (refl) from1_19

from1_17 : ConductFrom head lines w_17 (conn 1) None rest_17
unfolding mode_number mode_eq goes_with compatible joined at_least covers escalated value_cmp value_eq value_lt name_eq is_hold_of opposes stands_before world_from world is_table_mode is_row_mode table_mode
from1_17 = link head lines w_17 (conn 1) None e_17 rest_18 None (λ h. not_own h) (refl) from1_18

from1_16 : ConductFrom head lines w_16 (conn 1) None rest_16
unfolding mode_number mode_eq goes_with compatible joined at_least covers escalated value_cmp value_eq value_lt name_eq is_hold_of opposes stands_before world_from world is_table_mode is_row_mode table_mode
from1_16 = link head lines w_16 (conn 1) None e_16 rest_17 None (λ h. not_own h) (refl) from1_17

from1_15 : ConductFrom head lines w_15 (conn 1) None rest_15
unfolding mode_number mode_eq goes_with compatible joined at_least covers escalated value_cmp value_eq value_lt name_eq is_hold_of opposes stands_before world_from world is_table_mode is_row_mode table_mode
from1_15 = link head lines w_15 (conn 1) None e_15 rest_16 None (λ h. not_own h) (refl) from1_16

from1_14 : ConductFrom head lines w_14 (conn 1) None rest_14
unfolding mode_number mode_eq goes_with compatible joined at_least covers escalated value_cmp value_eq value_lt name_eq is_hold_of opposes stands_before world_from world is_table_mode is_row_mode table_mode
from1_14 = link head lines w_14 (conn 1) None e_14 rest_15 None (λ h. not_own h) (refl) from1_15

from1_13 : ConductFrom head lines w_13 (conn 1) None rest_13
unfolding mode_number mode_eq goes_with compatible joined at_least covers escalated value_cmp value_eq value_lt name_eq is_hold_of opposes stands_before world_from world is_table_mode is_row_mode table_mode
from1_13 = link head lines w_13 (conn 1) None e_13 rest_14 None (λ h. not_own h) (refl) from1_14

from1_12 : ConductFrom head lines w_12 (conn 1) None rest_12
unfolding mode_number mode_eq goes_with compatible joined at_least covers escalated value_cmp value_eq value_lt name_eq is_hold_of opposes stands_before world_from world is_table_mode is_row_mode table_mode
from1_12 = link head lines w_12 (conn 1) None e_12 rest_13 None (λ h. not_own h) (refl) from1_13

from1_11 : ConductFrom head lines w_11 (conn 1) None rest_11
unfolding mode_number mode_eq goes_with compatible joined at_least covers escalated value_cmp value_eq value_lt name_eq is_hold_of opposes stands_before world_from world is_table_mode is_row_mode table_mode
from1_11 = link head lines w_11 (conn 1) None e_11 rest_12 None (λ h. not_own h) (refl) from1_12

from1_10 : ConductFrom head lines w_10 (conn 1) None rest_10
unfolding mode_number mode_eq goes_with compatible joined at_least covers escalated value_cmp value_eq value_lt name_eq is_hold_of opposes stands_before world_from world is_table_mode is_row_mode table_mode
from1_10 = link head lines w_10 (conn 1) None e_10 rest_11 None (λ h. not_own h) (refl) from1_11

from1_9 : ConductFrom head lines w_9 (conn 1) None rest_9
unfolding mode_number mode_eq goes_with compatible joined at_least covers escalated value_cmp value_eq value_lt name_eq is_hold_of opposes stands_before world_from world is_table_mode is_row_mode table_mode
from1_9 = link head lines w_9 (conn 1) None e_9 rest_10 None (λ h. not_own h) (refl) from1_10

from1_8 : ConductFrom head lines w_8 (conn 1) None rest_8
unfolding mode_number mode_eq goes_with compatible joined at_least covers escalated value_cmp value_eq value_lt name_eq is_hold_of opposes stands_before world_from world is_table_mode is_row_mode table_mode
from1_8 = link head lines w_8 (conn 1) None e_8 rest_9 None (λ h. not_own h) (refl) from1_9

from1_7 : ConductFrom head lines w_7 (conn 1) None rest_7
unfolding mode_number mode_eq goes_with compatible joined at_least covers escalated value_cmp value_eq value_lt name_eq is_hold_of opposes stands_before world_from world is_table_mode is_row_mode table_mode
from1_7 = link head lines w_7 (conn 1) None e_7 rest_8 None (λ h. not_own h) (refl) from1_8

from1_6 : ConductFrom head lines w_6 (conn 1) None rest_6
unfolding mode_number mode_eq goes_with compatible joined at_least covers escalated value_cmp value_eq value_lt name_eq is_hold_of opposes stands_before world_from world is_table_mode is_row_mode table_mode
from1_6 = link head lines w_6 (conn 1) None e_6 rest_7 None (λ h. not_own h) (refl) from1_7

from1_5 : ConductFrom head lines w_5 (conn 1) None rest_5
unfolding mode_number mode_eq goes_with compatible joined at_least covers escalated value_cmp value_eq value_lt name_eq is_hold_of opposes stands_before world_from world is_table_mode is_row_mode table_mode
from1_5 = link head lines w_5 (conn 1) None e_5 rest_6 None (λ h. not_own h) (refl) from1_6

from1_4 : ConductFrom head lines w_4 (conn 1) None rest_4
unfolding mode_number mode_eq goes_with compatible joined at_least covers escalated value_cmp value_eq value_lt name_eq is_hold_of opposes stands_before world_from world is_table_mode is_row_mode table_mode
from1_4 = link head lines w_4 (conn 1) None e_4 rest_5 None (λ h. not_own h) (refl) from1_5

from1_3 : ConductFrom head lines w_3 (conn 1) None rest_3
unfolding mode_number mode_eq goes_with compatible joined at_least covers escalated value_cmp value_eq value_lt name_eq is_hold_of opposes stands_before world_from world is_table_mode is_row_mode table_mode
from1_3 = link head lines w_3 (conn 1) None e_3 rest_4 None (λ h. not_own h) (refl) from1_4

from1_2 : ConductFrom head lines w_2 (conn 1) None rest_2
unfolding mode_number mode_eq goes_with compatible joined at_least covers escalated value_cmp value_eq value_lt name_eq is_hold_of opposes stands_before world_from world is_table_mode is_row_mode table_mode
from1_2 = link head lines w_2 (conn 1) None e_2 rest_3 None (λ h. not_own h) (refl) from1_3

from1_1 : ConductFrom head lines w_1 (conn 1) None rest_1
unfolding mode_number mode_eq goes_with compatible joined at_least covers escalated value_cmp value_eq value_lt name_eq is_hold_of opposes stands_before world_from world is_table_mode is_row_mode table_mode
from1_1 = link head lines w_1 (conn 1) None e_1 rest_2 None (λ h. not_own h) (refl) from1_2

from1_0 : ConductFrom head lines w_0 (conn 1) None rest_0
unfolding mode_number mode_eq goes_with compatible joined at_least covers escalated value_cmp value_eq value_lt name_eq is_hold_of opposes stands_before world_from world is_table_mode is_row_mode table_mode
from1_0 = link head lines w_0 (conn 1) None e_0 rest_1 None (λ h. not_own h) (refl) from1_1

conduct_1 : Conduct head lines es (conn 1)
unfolding Conduct
conduct_1 = from1_0

paced : Paced head lines es
unfolding mode_number mode_eq goes_with compatible joined at_least covers escalated value_cmp value_eq value_lt name_eq is_hold_of opposes stands_before world_from world is_table_mode is_row_mode table_mode PacedFrom Paced
paced = (refl, (tt, (tt, (tt, (refl, (tt, (tt, (refl, (tt, (tt, (tt, (tt, (tt, (tt, (tt, (tt, (tt, (tt, (refl, (tt, (tt, (tt, (refl, (tt, (tt, (tt, (tt, (tt, (tt, (tt, (tt, (tt, (tt, (refl, (tt, (tt, (tt, (tt, (tt, (tt, (refl, (tt, (tt, (tt, (tt, (tt, (tt, (refl, (tt, (tt, (refl, (tt, (tt, (tt, (refl, (tt, (refl, tt)))))))))))))))))))))))))))))))))))))))))))))))))))))))))

scheduled : Scheduled head lines None es
unfolding mode_number mode_eq goes_with compatible joined at_least covers escalated value_cmp value_eq value_lt name_eq is_hold_of opposes stands_before world_from world is_table_mode is_row_mode table_mode ScheduledFrom Scheduled
scheduled = (refl, (λ k. refl, λ h. no_stop h), (refl, tt, (refl, tt, (refl, tt, (refl, (λ k. refl, λ h. no_stop h), (refl, tt, (refl, tt, (refl, (λ k. refl, λ h. no_stop h), (refl, tt, (refl, tt, (refl, tt, (refl, tt, (refl, tt, (refl, tt, (refl, tt, (refl, tt, (refl, tt, (refl, tt, (refl, (λ k. refl, λ h. no_stop h), (refl, tt, (refl, tt, (refl, tt, (refl, (λ k. refl, λ h. no_stop h), (refl, tt, (refl, tt, (refl, tt, (refl, tt, (refl, tt, (refl, tt, (refl, tt, (refl, tt, (refl, tt, (refl, tt, (refl, (λ k. refl, λ h. no_stop h), (refl, tt, (refl, tt, (refl, tt, (refl, tt, (refl, tt, (refl, tt, (refl, (λ k. refl, λ h. no_stop h), (refl, tt, (refl, tt, (refl, tt, (refl, tt, (refl, tt, (refl, tt, (refl, (λ k. refl, λ h. no_stop h), (refl, tt, (refl, tt, (refl, (λ k. refl, λ h. no_stop h), (refl, tt, (refl, tt, (refl, tt, (refl, (λ k. refl, λ h. no_stop h), (refl, tt, (refl, (λ k. refl, λ h. no_stop h), tt)))))))))))))))))))))))))))))))))))))))))))))))))))))))))

whole : IsWhole (record { head = head; lines = lines }) es
unfolding mode_number mode_eq goes_with compatible joined at_least covers escalated value_cmp value_eq value_lt name_eq is_hold_of opposes stands_before world_from world is_table_mode is_row_mode table_mode
whole = record { finished = (take 56 es, refl); unstopped = refl; lines = refl; ended = refl }
