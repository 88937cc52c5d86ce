-- Where a statement starts: its level, wants, path, and first stage.
use Rattle.std.specs.Prelude.{◌≡◌, ℕ, List, [], ◌∷◌, Option, None, Some, pos}
use Rattle.iso_conduct.specs.Courses.{IsAfterLock}
use Rattle.iso_conduct.specs.Parts.{Part, change_want, level_in, scan, select_want}
use Rattle.iso_conduct.specs.declared.course.Place.{Place}
use Rattle.iso_conduct.specs.declared.course.Stage.{Stage}
use Rattle.iso_history.specs.World.{Setting}
use Rattle.iso_history.specs.declared.entry.Want.{Want}
use Rattle.iso_history.specs.declared.entry.Want.TheVariants.{Dirty}
use Rattle.iso_predicate.specs.Plan.{plan_of}
use Rattle.iso_predicate.specs.declared.plans.Path.{Path}
use Rattle.iso_sql.specs.declared.statement.Items2.TheVariants.{Count}
use Rattle.iso_sql.specs.declared.statement.Statement.{Statement}
use Rattle.iso_sql.specs.declared.statement.Statement.TheVariants as st
use Rattle.iso_types.specs.declared.desk.Desk.{Desk}
use Rattle.iso_types.specs.declared.head.Head.{Head}
use Rattle.iso_types.specs.declared.head.Isolation.{Isolation}
use Rattle.iso_types.specs.declared.value.TableId.{TableId}
use Rattle.iso_types.specs.declared.value.Value.{Value}
use Rattle.iso_types.specs.declared.value.Value.TheVariants.{Int}

-- the settings of a desk
abbrev pub setting_of : Desk → Setting
setting_of d = record { level = d.isolation; may_wait = d.may_wait }

-- the table of a statement, the first one where it has none
abbrev pub table_in : Statement → TableId
table_in (st.Select t items cond level) = t
table_in (st.Insert t row) = t
table_in (st.Update t sets cond level) = t
table_in (st.Delete t cond level) = t
table_in (st.LockTable t mode) = t
table_in s = record { 0 = 0 }

-- how its rows are looked for
abbrev pub path_in : Head → Statement → Path
path_in head (st.Select t items cond level) = plan_of head t cond
path_in head (st.Update t sets cond level) = plan_of head t cond
path_in head (st.Delete t cond level) = plan_of head t cond
path_in head s = Path.Table

-- its level
abbrev pub level_by : Setting → Statement → Isolation
level_by set (st.Select t items cond level) = level_in set level
level_by set (st.Update t sets cond level) = level_in set level
level_by set (st.Delete t cond level) = level_in set level
level_by set s = set.level

-- what its looks want
abbrev pub want_by : Head → Setting → Statement → Want
want_by head set (st.Select t items cond level) = select_want head.config.cur_commit (level_in set level)
want_by head set (st.Update t sets cond level) = change_want (level_in set level)
want_by head set (st.Delete t cond level) = change_want (level_in set level)
want_by head set s = Dirty

-- its scan
abbrev pub look_in : Head → Setting → Statement → Part
look_in head set s = scan head (table_in s) (want_by head set s) (level_by set s) (path_in head s)

-- where a scan by this path starts
abbrev pub first_place : Path → Place
first_place Path.Table = Place.Slot 0
first_place (Path.Index i range) = Place.Behind None

-- what a stage asks of a course that kept nothing
abbrev pub IsFirst : Statement → Stage → Type 0
IsFirst s (Stage.Lock mode then') = IsAfterLock s then'
IsFirst s (Stage.Marks name) = Unit {0}
IsFirst s (Stage.Backs name) = Unit {0}
IsFirst s (Stage.Undos floor end) = Unit {0}
IsFirst s Stage.Settles = Unit {0}
IsFirst s (Stage.Sets level may_wait) = Unit {0}
IsFirst s stage = ⊥

-- a COUNT starts with 0, and nothing else has a number
abbrev pub IsFirstTally : Statement → Option ℕ → Type 0
IsFirstTally (st.Select t Count cond level) tally = tally ≡ Some 0
IsFirstTally s tally = tally ≡ None

-- the row of a COUNT, else no row
abbrev pub AreFirstRows : Option ℕ → List (List Value) → Type 0
AreFirstRows None rows = rows ≡ []
AreFirstRows (Some n) rows = rows ≡ (Int (pos 0) ∷ []) ∷ []
