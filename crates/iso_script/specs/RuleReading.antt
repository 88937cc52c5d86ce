-- Reading the lines of a script, as the code does.
use Rattle.std.specs.Prelude.{ℕ, Bool, true, false, List, [], ◌∷◌, Option}
use Rattle.iso_types.specs.declared.head.Isolation.{Isolation}
use Rattle.iso_types.specs.declared.head.Isolation.TheVariants as level
use Rattle.iso_sql.specs.StatementReading.{statement}
use Rattle.iso_grammar.specs.declared.fault.Checked.{Checked}
use Rattle.iso_grammar.specs.declared.token.Kind.{Kind}
use Rattle.iso_grammar.specs.declared.token.Kind.TheVariants as k
use Rattle.iso_grammar.specs.declared.token.Token.{Token}
use Rattle.iso_grammar.specs.Reading.{Parser, pure, ◌>>=◌, ◌>>◌, either, expect, many, optional}
use Rattle.iso_script.specs.declared.event.Event.{Event}
use Rattle.iso_script.specs.declared.event.Event.TheVariants as event
use Rattle.iso_script.specs.declared.reader.Place.{Place}
use Rattle.iso_script.specs.declared.reader.Place.TheVariants as place
use Rattle.iso_script.specs.declared.reader.Reader.{Reader}
use Rattle.iso_script.specs.declared.words.ColumnWords.{ColumnWords}
use Rattle.iso_script.specs.declared.words.SettingName.{SettingName}
use Rattle.iso_script.specs.declared.words.SettingName.TheVariants as name
use Rattle.iso_script.specs.declared.words.SettingWords.{SettingWords}
use Rattle.iso_script.specs.declared.words.TypeWords.{TypeWords}
use Rattle.iso_script.specs.declared.words.TypeWords.TheVariants as ty
use Rattle.iso_script.specs.Keyed.{index_words, rowed, indexed}
use Rattle.iso_script.specs.Events.{configured, declared, connected, stated, expired, pictured, plain}

unfoldable pub flag : Kind → Parser Bool
flag kind = either (kind ∷ []) (expect kind >> pure true) (pure false)

unfoldable pub number : Parser Token
number = either (k.Integer ∷ []) (expect k.Integer) (expect k.One)

unfoldable pub first_line : Parser (Checked Event)
first_line = do
  expect k.Db2iso
  expect k.One
  pure (plain event.First)

unfoldable pub switch : Parser Token
switch = either (k.On ∷ []) (expect k.On) (expect k.Disabled)

unfoldable pub switched : Parser SettingWords
switched = do
  word ← expect k.CurCommit
  value ← switch
  pure (record { name = name.CurCommit; word = word; value = value })

unfoldable pub numbered : Kind → SettingName → Parser SettingWords
numbered kind n = do
  word ← expect kind
  value ← number
  pure (record { name = n; word = word; value = value })

unfoldable pub setting_words : Parser SettingWords
setting_words =
    either (k.CurCommit ∷ []) switched
    (either (k.Locklist ∷ []) (numbered k.Locklist name.Locklist)
    (either (k.Maxlocks ∷ []) (numbered k.Maxlocks name.Maxlocks)
    (either (k.Logmax ∷ []) (numbered k.Logmax name.Logmax) (numbered k.Window name.Window))))

unfoldable pub config_line : Reader → List ℕ → Parser (Checked Event)
config_line s line = do
  expect k.Config
  w ← setting_words
  pure (configured s.set line w)

unfoldable pub varchar : Parser TypeWords
varchar = do
  expect k.Varchar
  expect k.Open
  n ← number
  expect k.Close
  pure (ty.Varchar n)

unfoldable pub type_words : Parser TypeWords
type_words = either (k.IntegerWord ∷ []) (expect k.IntegerWord >> pure ty.Integer) (either (k.Bigint ∷ []) (expect k.Bigint >> pure ty.Bigint) varchar)

unfoldable pub not_null : Parser Bool
not_null = either (k.Not ∷ []) (expect k.Not >> (expect k.Null >> pure true)) (pure false)

unfoldable pub column : Parser ColumnWords
column = do
  c ← expect k.Name
  kind ← type_words
  required ← not_null
  pure (record { name = c; kind = kind; required = required })

abbrev pub next_column : Parser ColumnWords
next_column = expect k.Comma >> column

unfoldable pub columns : ℕ → Parser (List ColumnWords)
columns n = do
  first ← column
  more ← many (k.Comma ∷ []) next_column n
  pure (first ∷ more)

unfoldable pub table_line : Reader → List ℕ → ℕ → Parser (Checked Event)
table_line s line n = do
  expect k.Table
  t ← expect k.Name
  expect k.Open
  cs ← columns n
  expect k.Close
  pure (declared s.script.head line t cs)

unfoldable pub literal : Parser Token
literal = either (k.Integer ∷ []) (expect k.Integer) (either (k.One ∷ []) (expect k.One) (either (k.Text ∷ []) (expect k.Text) (expect k.Null)))

abbrev pub next_literal : Parser Token
next_literal = expect k.Comma >> literal

unfoldable pub literals : ℕ → Parser (List Token)
literals n = do
  first ← literal
  more ← many (k.Comma ∷ []) next_literal n
  pure (first ∷ more)

unfoldable pub row_line : Reader → List ℕ → ℕ → Parser (Checked Event)
row_line s line n = do
  first ← expect k.Row
  t ← expect k.Name
  expect k.Open
  vs ← literals n
  close ← expect k.Close
  pure (rowed s.script.head line first t vs close)

unfoldable pub index_on : Reader → List ℕ → Option Token → Parser (Checked Event)
index_on s line unique = do
  word ← expect k.Index
  i ← expect k.Name
  expect k.On
  t ← expect k.Name
  expect k.Open
  c ← expect k.Name
  expect k.Close
  pure (indexed s.script.head line (index_words unique word i t c))

unfoldable pub index_line : Reader → List ℕ → Parser (Checked Event)
index_line s line = optional (k.Unique ∷ []) (expect k.Unique) >>= index_on s line

unfoldable pub isolation : Parser Isolation
isolation =
    either (k.Ur ∷ []) (expect k.Ur >> pure level.Ur)
    (either (k.Cs ∷ []) (expect k.Cs >> pure level.Cs) (either (k.Rs ∷ []) (expect k.Rs >> pure level.Rs) (either (k.Rr ∷ []) (expect k.Rr >> pure level.Rr) (pure level.Cs))))

unfoldable pub connect_line : Reader → List ℕ → Parser (Checked Event)
connect_line s line = do
  expect k.Connect
  a ← expect k.Name
  l ← isolation
  pure (connected s.script.head line a l)

unfoldable pub begin_line : Parser (Checked Event)
begin_line = expect k.Begin >> pure (plain event.Begin)

unfoldable pub statement_line : Reader → List ℕ → ℕ → Parser (Checked Event)
statement_line s line n = do
  free ← flag k.Ampersand
  a ← expect k.Name
  expect k.Colon
  x ← statement s.script.head line n
  flag k.Semicolon
  pure (stated s.script.head line free a x)

unfoldable pub expire_line : Reader → List ℕ → Parser (Checked Event)
expire_line s line = do
  expect k.Expire
  a ← expect k.Name
  pure (expired s.script.head line a)

unfoldable pub snapshot_line : Reader → Parser (Checked Event)
snapshot_line s = expect k.Snapshot >> pure (pictured s.script.lines)

unfoldable pub end_line : Parser (Checked Event)
end_line = expect k.End >> pure (plain event.End)

unfoldable pub head_line : Reader → List ℕ → ℕ → Parser (Checked Event)
head_line s line n = either (k.Config ∷ []) (config_line s line) (either (k.Table ∷ []) (table_line s line n)
    (either (k.Unique ∷ k.Index ∷ []) (index_line s line) (either (k.Row ∷ []) (row_line s line n) (either (k.Connect ∷ []) (connect_line s line) begin_line))))

unfoldable pub body_line : Reader → List ℕ → ℕ → Parser (Checked Event)
body_line s line n =
    either (k.Ampersand ∷ k.Name ∷ []) (statement_line s line n) (either (k.Expire ∷ []) (expire_line s line) (either (k.Snapshot ∷ []) (snapshot_line s) end_line))

abbrev pub rule : Place → Reader → List ℕ → ℕ → Parser (Checked Event)
rule place.First s line n = first_line
rule place.Head s line n = head_line s line n
rule place.Body s line n = body_line s line n
rule place.After s line n = pure (plain event.End)
