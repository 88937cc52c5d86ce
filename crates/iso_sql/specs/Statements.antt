-- The grammar of statements.
-- Db2 LUW, SQL reference, the pages of each statement; which forms there are is this project's own
use Rattle.std.specs.Prelude.{ℕ, Bool, true, false, List, ◌∷◌, Option, Some, None}
use Rattle.iso_types.specs.declared.head.Head.{Head}
use Rattle.iso_types.specs.declared.head.Isolation.{Isolation}
use Rattle.iso_types.specs.declared.head.Isolation.TheVariants as iso
use Rattle.iso_modes.specs.declared.Mode.{Mode}
use Rattle.iso_modes.specs.declared.Mode.TheVariants as mode
use Rattle.iso_grammar.specs.declared.fault.Checked.{Checked}
use Rattle.iso_grammar.specs.declared.token.Kind.TheVariants as k
use Rattle.iso_grammar.specs.declared.token.Token.{Token}
use Rattle.iso_grammar.specs.Grammar.{Lang, pure, ◌>>=◌, ◌>>◌, ◌<|>◌, token, optional, many}
use Rattle.iso_sql.specs.declared.assignment.Right.{Right}
use Rattle.iso_sql.specs.declared.assignment.Right.TheVariants as side
use Rattle.iso_sql.specs.declared.assignment.Target.{Target}
use Rattle.iso_sql.specs.declared.list.Chosen.{Chosen}
use Rattle.iso_sql.specs.declared.list.Chosen.TheVariants as chosen
use Rattle.iso_sql.specs.declared.list.Listed.{Listed}
use Rattle.iso_sql.specs.declared.list.Listed.TheVariants as listed
use Rattle.iso_sql.specs.declared.statement.Condition.{Condition}
use Rattle.iso_sql.specs.declared.statement.Statement.{Statement}
use Rattle.iso_sql.specs.declared.statement.Statement.TheVariants as s
use Rattle.iso_sql.specs.Names.{Names, table_names}
use Rattle.iso_sql.specs.Actions.{limited, unfiltered, selected, inserted, updated, deleted, saved, rolled_back, locked, plain}
use Rattle.iso_sql.specs.Conditions.{condition}

-- ---- parts

-- integer | text | NULL
abbrev pub stored : Lang Token
stored = token k.Integer <|> (token k.One <|> (token k.Text <|> token k.Null))

abbrev pub item : Listed → Lang Token
item listed.Column = token k.Name
item listed.Literal = stored

-- one or more, with commas between
abbrev pub separated : Listed → Lang (List Token)
separated i = do
  first ← item i
  more ← many (token k.Comma >> item i)
  pure (first ∷ more)

-- ( c {, c} )
abbrev pub column_list : Lang (List Token)
column_list = do
  token k.Open
  cs ← separated listed.Column
  token k.Close
  pure cs

-- UR | CS | RS | RR
abbrev pub isolation : Lang Isolation
isolation =
    (token k.Ur >> pure iso.Ur)
    <|> ((token k.Cs >> pure iso.Cs)
    <|> ((token k.Rs >> pure iso.Rs)
    <|> (token k.Rr >> pure iso.Rr)))

-- [WITH level]
abbrev pub level : Lang (Option Isolation)
level = optional (token k.With >> isolation)

-- WHERE cond
abbrev pub where_ : Names → Lang (Checked Condition)
where_ names = do
  token k.Where
  x ← condition names
  pure (limited x)

-- [WHERE cond]
abbrev pub filter : Names → Lang (Checked Condition)
filter names = where_ names <|> pure unfiltered

-- * | COUNT ( * ) | c {, c}
abbrev pub all_items : Lang Chosen
all_items = do
  token k.Star
  pure chosen.All

abbrev pub counted : Lang Chosen
counted = do
  token k.Count
  token k.Open
  token k.Star
  token k.Close
  pure chosen.Count

abbrev pub column_items : Lang Chosen
column_items = do
  cs ← separated listed.Column
  pure (chosen.Columns cs)

abbrev pub items : Lang Chosen
items = all_items <|> (counted <|> column_items)

-- ---- expressions and assignments

abbrev pub integer : Lang Token
integer = token k.Integer <|> token k.One

abbrev pub literal_right : Lang Right
literal_right = do
  t ← stored
  pure (side.Literal t)

-- + integer | - integer | nothing, behind a column
abbrev pub plus : Token → Lang Right
plus t = do
  token k.Plus
  n ← integer
  pure (side.Plus t n)

abbrev pub minus : Token → Lang Right
minus t = do
  token k.Minus
  n ← integer
  pure (side.Minus t n)

abbrev pub behind_column : Token → Lang Right
behind_column t = plus t <|> (minus t <|> pure (side.Column t))

abbrev pub column_right : Lang Right
column_right = do
  t ← token k.Name
  behind_column t

-- c = literal | c | c + integer | c - integer
abbrev pub assignment : Lang Target
assignment = do
  c ← token k.Name
  token k.Equal
  x ← column_right <|> literal_right
  pure (record { column = c; right = x })

abbrev pub assignments : Lang (List Target)
assignments = do
  first ← assignment
  more ← many (token k.Comma >> assignment)
  pure (first ∷ more)

-- ---- statements

-- SELECT items FROM t [WHERE cond] [WITH level]
abbrev pub select : Head → List ℕ → Lang (Checked Statement)
select head line = do
  token k.Select
  is ← items
  token k.From
  t ← token k.Name
  cond ← filter (table_names head line t)
  at ← level
  pure (selected head line is t cond at)

-- INSERT INTO t [( c {, c} )] VALUES ( literal {, literal} )
abbrev pub insert : Head → List ℕ → Lang (Checked Statement)
insert head line = do
  token k.Insert
  token k.Into
  t ← token k.Name
  cs ← optional column_list
  token k.Values
  token k.Open
  vs ← separated listed.Literal
  close ← token k.Close
  pure (inserted head line t cs vs close)

-- UPDATE t SET c = expr {, c = expr} [WHERE cond] [WITH level]
abbrev pub update : Head → List ℕ → Lang (Checked Statement)
update head line = do
  token k.Update
  t ← token k.Name
  token k.Set
  targets ← assignments
  cond ← filter (table_names head line t)
  at ← level
  pure (updated head line t targets cond at)

-- DELETE FROM t [WHERE cond] [WITH level]
abbrev pub delete : Head → List ℕ → Lang (Checked Statement)
delete head line = do
  token k.Delete
  token k.From
  t ← token k.Name
  cond ← filter (table_names head line t)
  at ← level
  pure (deleted head line t cond at)

-- COMMIT [WORK]
abbrev pub commit : Lang (Checked Statement)
commit = do
  token k.Commit
  optional (token k.Work)
  pure (plain s.Commit)

-- TO SAVEPOINT s
abbrev pub to_savepoint : Lang Token
to_savepoint = do
  token k.To
  token k.Savepoint
  token k.Name

-- ROLLBACK [WORK] [TO SAVEPOINT s]
abbrev pub rollback : List ℕ → Lang (Checked Statement)
rollback line = do
  token k.Rollback
  optional (token k.Work)
  to ← optional to_savepoint
  pure (rolled_back line to)

-- ON ROLLBACK RETAIN CURSORS
abbrev pub retaining : Lang Token
retaining = do
  token k.On
  token k.Rollback
  token k.Retain
  token k.Cursors

-- SAVEPOINT s [ON ROLLBACK RETAIN CURSORS]
abbrev pub savepoint : List ℕ → Lang (Checked Statement)
savepoint line = do
  token k.Savepoint
  t ← token k.Name
  optional retaining
  pure (saved line t)

-- SHARE | EXCLUSIVE
abbrev pub lock_mode : Lang Mode
lock_mode = (token k.Share >> pure mode.S) <|> (token k.Exclusive >> pure mode.X)

-- LOCK TABLE t IN SHARE MODE | LOCK TABLE t IN EXCLUSIVE MODE
abbrev pub lock : Head → List ℕ → Lang (Checked Statement)
lock head line = do
  token k.Lock
  token k.Table
  t ← token k.Name
  token k.In
  m ← lock_mode
  token k.Mode
  pure (locked head line t m)

-- a level, or RESET
abbrev pub new_level : Lang (Option Isolation)
new_level = (isolation >>= λ x. pure (Some x)) <|> (token k.Reset >> pure None)

-- ISOLATION [=] UR | CS | RS | RR | RESET
abbrev pub set_isolation : Lang (Checked Statement)
set_isolation = do
  token k.Isolation
  optional (token k.Equal)
  x ← new_level
  pure (plain (s.SetIsolation x))

-- WAIT | NOT WAIT
abbrev pub waits : Lang Bool
waits = (token k.Wait >> pure true) <|> (token k.Not >> (token k.Wait >> pure false))

-- LOCK TIMEOUT [=] WAIT | NOT WAIT
abbrev pub set_timeout : Lang (Checked Statement)
set_timeout = do
  token k.Lock
  token k.Timeout
  optional (token k.Equal)
  w ← waits
  pure (plain (s.SetWait w))

abbrev pub set_current : Lang (Checked Statement)
set_current = token k.Current >> (set_isolation <|> set_timeout)

-- SET [CURRENT] ISOLATION .. | SET CURRENT LOCK TIMEOUT ..
abbrev pub set : Lang (Checked Statement)
set = token k.Set >> (set_isolation <|> set_current)

abbrev pub short_statement : Head → List ℕ → Lang (Checked Statement)
short_statement head line = commit <|> (rollback line <|> (savepoint line <|> (lock head line <|> set)))

abbrev pub statement : Head → List ℕ → Lang (Checked Statement)
statement head line = select head line <|> (insert head line <|> (update head line <|> (delete head line <|> short_statement head line)))
