-- Reading statements, as the code does.
use Rattle.std.specs.Prelude.{ℕ, Bool, true, false, List, [], ◌∷◌, Option, Some, None}
use Rattle.iso_types.specs.declared.head.Head.{Head}
use Rattle.iso_types.specs.declared.head.Isolation.{Isolation}
use Rattle.iso_types.specs.declared.head.Isolation.TheVariants as iso
use Rattle.iso_modes.specs.declared.Mode.{Mode}
use Rattle.iso_modes.specs.declared.Mode.TheVariants as mode
use Rattle.iso_grammar.specs.declared.fault.Checked.{Checked}
use Rattle.iso_grammar.specs.declared.token.Kind.TheVariants as k
use Rattle.iso_grammar.specs.declared.token.Token.{Token}
use Rattle.iso_grammar.specs.Kinds.{Kinds}
use Rattle.iso_grammar.specs.Reading.{Parser, pure, ◌>>=◌, ◌>>◌, begins, either, expect, optional, many}
use Rattle.iso_sql.specs.declared.assignment.Right.{Right}
use Rattle.iso_sql.specs.declared.assignment.Right.TheVariants as side
use Rattle.iso_sql.specs.declared.assignment.Target.{Target}
use Rattle.iso_sql.specs.declared.list.Chosen.{Chosen}
use Rattle.iso_sql.specs.declared.list.Chosen.TheVariants as chosen
use Rattle.iso_sql.specs.declared.list.Listed.{Listed}
use Rattle.iso_sql.specs.declared.list.Listed.TheVariants as listed
use Rattle.iso_sql.specs.declared.statement.Condition.{Condition}
use Rattle.iso_sql.specs.declared.statement.Statement.{Statement}
use Rattle.iso_sql.specs.declared.statement.Statement.TheVariants as s
use Rattle.iso_sql.specs.Names.{Names, table_names}
use Rattle.iso_sql.specs.Actions.{limited, unfiltered, selected, inserted, updated, deleted, saved, rolled_back, locked, plain}
use Rattle.iso_sql.specs.ConditionReading.{condition}

unfoldable pub stored : Parser Token
stored = either (k.Integer ∷ []) (expect k.Integer) (either (k.One ∷ []) (expect k.One) (either (k.Text ∷ []) (expect k.Text) (expect k.Null)))

abbrev pub item : Listed → Parser Token
item listed.Column = expect k.Name
item listed.Literal = stored

abbrev pub next_item : Listed → Parser Token
next_item i = expect k.Comma >> item i

unfoldable pub separated : Listed → ℕ → Parser (List Token)
separated i n = do
  first ← item i
  more ← many (k.Comma ∷ []) (next_item i) n
  pure (first ∷ more)

unfoldable pub column_list : ℕ → Parser (List Token)
column_list n = do
  expect k.Open
  cs ← separated listed.Column n
  expect k.Close
  pure cs

unfoldable pub maybe_columns : ℕ → Parser (Option (List Token))
maybe_columns n = optional (k.Open ∷ []) (column_list n)

unfoldable pub isolation : Parser Isolation
isolation =
    either (k.Ur ∷ []) (expect k.Ur >> pure iso.Ur)
    (either (k.Cs ∷ []) (expect k.Cs >> pure iso.Cs)
    (either (k.Rs ∷ []) (expect k.Rs >> pure iso.Rs)
    (expect k.Rr >> pure iso.Rr)))

unfoldable pub level : Parser (Option Isolation)
level = optional (k.With ∷ []) (expect k.With >> isolation)

unfoldable pub where_ : Names → ℕ → Parser (Checked Condition)
where_ names n = do
  expect k.Where
  x ← condition names n
  pure (limited x)

unfoldable pub filter : Names → ℕ → Parser (Checked Condition)
filter names n = either (k.Where ∷ []) (where_ names n) (pure unfiltered)

unfoldable pub all_items : Parser Chosen
all_items = do
  expect k.Star
  pure chosen.All

unfoldable pub counted : Parser Chosen
counted = do
  expect k.Count
  expect k.Open
  expect k.Star
  expect k.Close
  pure chosen.Count

unfoldable pub column_items : ℕ → Parser Chosen
column_items n = do
  cs ← separated listed.Column n
  pure (chosen.Columns cs)

unfoldable pub items : ℕ → Parser Chosen
items n = either (k.Star ∷ []) all_items (either (k.Count ∷ []) counted (column_items n))

unfoldable pub integer : Parser Token
integer = either (k.Integer ∷ []) (expect k.Integer) (expect k.One)

unfoldable pub literal_right : Parser Right
literal_right = do
  t ← stored
  pure (side.Literal t)

unfoldable pub plus : Token → Parser Right
plus t = do
  expect k.Plus
  n ← integer
  pure (side.Plus t n)

unfoldable pub minus : Token → Parser Right
minus t = do
  expect k.Minus
  n ← integer
  pure (side.Minus t n)

unfoldable pub behind_column : Token → Parser Right
behind_column t = either (k.Plus ∷ []) (plus t) (either (k.Minus ∷ []) (minus t) (pure (side.Column t)))

unfoldable pub column_right : Parser Right
column_right = do
  t ← expect k.Name
  behind_column t

abbrev pub right : Parser Right
right = either (k.Name ∷ []) column_right literal_right

unfoldable pub assignment : Parser Target
assignment = do
  c ← expect k.Name
  expect k.Equal
  x ← right
  pure (record { column = c; right = x })

abbrev pub next_assignment : Parser Target
next_assignment = expect k.Comma >> assignment

unfoldable pub assignments : ℕ → Parser (List Target)
assignments n = do
  first ← assignment
  more ← many (k.Comma ∷ []) next_assignment n
  pure (first ∷ more)

unfoldable pub select : Head → List ℕ → ℕ → Parser (Checked Statement)
select head line n = do
  expect k.Select
  is ← items n
  expect k.From
  t ← expect k.Name
  cond ← filter (table_names head line t) n
  at ← level
  pure (selected head line is t cond at)

unfoldable pub insert : Head → List ℕ → ℕ → Parser (Checked Statement)
insert head line n = do
  expect k.Insert
  expect k.Into
  t ← expect k.Name
  cs ← maybe_columns n
  expect k.Values
  expect k.Open
  vs ← separated listed.Literal n
  close ← expect k.Close
  pure (inserted head line t cs vs close)

unfoldable pub update : Head → List ℕ → ℕ → Parser (Checked Statement)
update head line n = do
  expect k.Update
  t ← expect k.Name
  expect k.Set
  targets ← assignments n
  cond ← filter (table_names head line t) n
  at ← level
  pure (updated head line t targets cond at)

unfoldable pub delete : Head → List ℕ → ℕ → Parser (Checked Statement)
delete head line n = do
  expect k.Delete
  expect k.From
  t ← expect k.Name
  cond ← filter (table_names head line t) n
  at ← level
  pure (deleted head line t cond at)

unfoldable pub commit : Parser (Checked Statement)
commit = do
  expect k.Commit
  optional (k.Work ∷ []) (expect k.Work)
  pure (plain s.Commit)

unfoldable pub to_savepoint : Parser Token
to_savepoint = do
  expect k.To
  expect k.Savepoint
  expect k.Name

unfoldable pub maybe_to : Parser (Option Token)
maybe_to = optional (k.To ∷ []) to_savepoint

unfoldable pub rollback : List ℕ → Parser (Checked Statement)
rollback line = do
  expect k.Rollback
  optional (k.Work ∷ []) (expect k.Work)
  to ← maybe_to
  pure (rolled_back line to)

unfoldable pub retaining : Parser Token
retaining = do
  expect k.On
  expect k.Rollback
  expect k.Retain
  expect k.Cursors

unfoldable pub maybe_retaining : Parser (Option Token)
maybe_retaining = optional (k.On ∷ []) retaining

unfoldable pub savepoint : List ℕ → Parser (Checked Statement)
savepoint line = do
  expect k.Savepoint
  t ← expect k.Name
  maybe_retaining
  pure (saved line t)

unfoldable pub lock_mode : Parser Mode
lock_mode = either (k.Share ∷ []) (expect k.Share >> pure mode.S) (expect k.Exclusive >> pure mode.X)

unfoldable pub lock : Head → List ℕ → Parser (Checked Statement)
lock head line = do
  expect k.Lock
  expect k.Table
  t ← expect k.Name
  expect k.In
  m ← lock_mode
  expect k.Mode
  pure (locked head line t m)

abbrev pub level_words : Kinds
level_words = k.Ur ∷ k.Cs ∷ k.Rs ∷ k.Rr ∷ []

abbrev pub begins_level : List Token → Bool
begins_level = begins level_words

abbrev pub reset : Parser (Option Isolation)
reset = expect k.Reset >> pure None

unfoldable pub new_level : Parser (Option Isolation)
new_level = either level_words (isolation >>= λ x. pure (Some x)) reset

unfoldable pub set_isolation : Parser (Checked Statement)
set_isolation = do
  expect k.Isolation
  optional (k.Equal ∷ []) (expect k.Equal)
  x ← new_level
  pure (plain (s.SetIsolation x))

abbrev pub no_wait : Parser Bool
no_wait = expect k.Not >> (expect k.Wait >> pure false)

unfoldable pub waits : Parser Bool
waits = either (k.Wait ∷ []) (expect k.Wait >> pure true) no_wait

unfoldable pub set_timeout : Parser (Checked Statement)
set_timeout = do
  expect k.Lock
  expect k.Timeout
  optional (k.Equal ∷ []) (expect k.Equal)
  w ← waits
  pure (plain (s.SetWait w))

unfoldable pub set_current : Parser (Checked Statement)
set_current = expect k.Current >> either (k.Isolation ∷ []) set_isolation set_timeout

unfoldable pub set : Parser (Checked Statement)
set = expect k.Set >> either (k.Isolation ∷ []) set_isolation set_current

unfoldable pub short_statement : Head → List ℕ → Parser (Checked Statement)
short_statement head line =
    either (k.Commit ∷ []) commit
    (either (k.Rollback ∷ []) (rollback line)
    (either (k.Savepoint ∷ []) (savepoint line)
    (either (k.Lock ∷ []) (lock head line)
    set)))

unfoldable pub statement : Head → List ℕ → ℕ → Parser (Checked Statement)
statement head line n =
    either (k.Select ∷ []) (select head line n)
    (either (k.Insert ∷ []) (insert head line n)
    (either (k.Update ∷ []) (update head line n)
    (either (k.Delete ∷ []) (delete head line n)
    (short_statement head line))))

-- the words that begin a statement
abbrev pub first_words : Kinds
first_words = k.Select ∷ k.Insert ∷ k.Update ∷ k.Delete ∷ k.Commit ∷ k.Rollback ∷ k.Savepoint ∷ k.Lock ∷ k.Set ∷ []

-- the kinds with which a statement may go on where it might end
abbrev pub goes_words : Kinds
goes_words =
    k.With ∷ k.Or ∷ k.And ∷ k.And ∷ k.Where
    ∷ k.With ∷ k.Or ∷ k.And ∷ k.And ∷ k.Where ∷ k.Comma ∷ k.Minus ∷ k.Plus ∷ k.Minus ∷ k.Plus
    ∷ k.With ∷ k.Or ∷ k.And ∷ k.And ∷ k.Where
    ∷ k.Work ∷ k.To ∷ k.Work ∷ k.On ∷ []
