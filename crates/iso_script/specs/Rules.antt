-- The lines of a script: what may stand in each position. // this project's own
use Rattle.std.specs.Prelude.{ℕ, Bool, true, false, List, ◌∷◌, Option}
use Rattle.iso_types.specs.declared.head.Isolation.{Isolation}
use Rattle.iso_types.specs.declared.head.Isolation.TheVariants as level
use Rattle.iso_grammar.specs.declared.fault.Checked.{Checked}
use Rattle.iso_grammar.specs.declared.token.Kind.{Kind}
use Rattle.iso_grammar.specs.declared.token.Kind.TheVariants as k
use Rattle.iso_grammar.specs.declared.token.Token.{Token}
use Rattle.iso_grammar.specs.Grammar.{Lang, pure, ◌>>=◌, ◌>>◌, ◌<|>◌, token, many, optional}
use Rattle.iso_script.specs.declared.event.Event.{Event}
use Rattle.iso_script.specs.declared.event.Event.TheVariants as event
use Rattle.iso_script.specs.declared.reader.Place.{Place}
use Rattle.iso_script.specs.declared.reader.Place.TheVariants as place
use Rattle.iso_script.specs.declared.reader.Reader.{Reader}
use Rattle.iso_script.specs.declared.words.ColumnWords.{ColumnWords}
use Rattle.iso_script.specs.declared.words.SettingName.{SettingName}
use Rattle.iso_script.specs.declared.words.SettingName.TheVariants as name
use Rattle.iso_script.specs.declared.words.SettingWords.{SettingWords}
use Rattle.iso_script.specs.declared.words.TypeWords.{TypeWords}
use Rattle.iso_script.specs.declared.words.TypeWords.TheVariants as ty
use Rattle.iso_script.specs.Events.{configured, declared, connected, stated, expired, pictured, plain}
use Rattle.iso_script.specs.Keyed.{index_words, rowed, indexed}
use Rattle.iso_sql.specs.Statements.{statement}

-- one or more, with commas between
abbrev pub separated : {A : Type 0} → Lang A → Lang (List A)
separated L = do
  first ← L
  more ← many (token k.Comma >> L)
  pure (first ∷ more)

-- the word, or nothing
abbrev pub flag : Kind → Lang Bool
flag kind = (token kind >> pure true) <|> pure false

-- an integer
abbrev pub number : Lang Token
number = token k.Integer <|> token k.One

-- DB2ISO 1
abbrev pub first_line : Lang (Checked Event)
first_line = do
  token k.Db2iso
  token k.One
  pure (plain event.First)

-- CUR_COMMIT ON | DISABLED
abbrev pub switched : Lang SettingWords
switched = do
  word ← token k.CurCommit
  value ← token k.On <|> token k.Disabled
  pure (record { name = name.CurCommit; word = word; value = value })

-- a setting with a number
abbrev pub numbered : Kind → SettingName → Lang SettingWords
numbered kind n = do
  word ← token kind
  value ← number
  pure (record { name = n; word = word; value = value })

abbrev pub setting_words : Lang SettingWords
setting_words =
    switched <|> (numbered k.Locklist name.Locklist <|> (numbered k.Maxlocks name.Maxlocks <|> (numbered k.Logmax name.Logmax <|> numbered k.Window name.Window)))

-- CONFIG CUR_COMMIT ON | DISABLED, CONFIG LOCKLIST n | MAXLOCKS n | LOGMAX n | WINDOW n
abbrev pub config_line : Reader → List ℕ → Lang (Checked Event)
config_line s line = do
  token k.Config
  w ← setting_words
  pure (configured s.set line w)

-- INTEGER | BIGINT | VARCHAR ( n )
abbrev pub type_words : Lang TypeWords
type_words = (token k.IntegerWord >> pure ty.Integer) <|> ((token k.Bigint >> pure ty.Bigint) <|> varchar)
  where
    varchar : Lang TypeWords
    varchar = do
      token k.Varchar
      token k.Open
      n ← number
      token k.Close
      pure (ty.Varchar n)

-- [NOT NULL]
abbrev pub not_null : Lang Bool
not_null = (token k.Not >> (token k.Null >> pure true)) <|> pure false

-- c type [NOT NULL]
abbrev pub column : Lang ColumnWords
column = do
  c ← token k.Name
  kind ← type_words
  required ← not_null
  pure (record { name = c; kind = kind; required = required })

-- TABLE t ( c type [NOT NULL] {, c type [NOT NULL]} )
abbrev pub table_line : Reader → List ℕ → Lang (Checked Event)
table_line s line = do
  token k.Table
  t ← token k.Name
  token k.Open
  cs ← separated column
  token k.Close
  pure (declared s.script.head line t cs)

-- integer | text | NULL
abbrev pub literal : Lang Token
literal = token k.Integer <|> (token k.One <|> (token k.Text <|> token k.Null))

-- ROW t ( literal {, literal} )
abbrev pub row_line : Reader → List ℕ → Lang (Checked Event)
row_line s line = do
  first ← token k.Row
  t ← token k.Name
  token k.Open
  vs ← separated literal
  close ← token k.Close
  pure (rowed s.script.head line first t vs close)

-- INDEX i ON t ( c ), whose first token is this one or its own
abbrev pub index_on : Reader → List ℕ → Option Token → Lang (Checked Event)
index_on s line unique = do
  word ← token k.Index
  i ← token k.Name
  token k.On
  t ← token k.Name
  token k.Open
  c ← token k.Name
  token k.Close
  pure (indexed s.script.head line (index_words unique word i t c))

-- [UNIQUE] INDEX i ON t ( c )
abbrev pub index_line : Reader → List ℕ → Lang (Checked Event)
index_line s line = optional (token k.Unique) >>= index_on s line

-- [UR | CS | RS | RR]; without a level CS is meant. // Db2 LUW, 'Isolation levels'
abbrev pub isolation : Lang Isolation
isolation = (token k.Ur >> pure level.Ur) <|> ((token k.Cs >> pure level.Cs) <|> ((token k.Rs >> pure level.Rs) <|> ((token k.Rr >> pure level.Rr) <|> pure level.Cs)))

-- CONNECT a [UR | CS | RS | RR]
abbrev pub connect_line : Reader → List ℕ → Lang (Checked Event)
connect_line s line = do
  token k.Connect
  a ← token k.Name
  l ← isolation
  pure (connected s.script.head line a l)

-- BEGIN
abbrev pub begin_line : Lang (Checked Event)
begin_line = token k.Begin >> pure (plain event.Begin)

-- [&] a : statement [;]
abbrev pub statement_line : Reader → List ℕ → Lang (Checked Event)
statement_line s line = do
  free ← flag k.Ampersand
  a ← token k.Name
  token k.Colon
  x ← statement s.script.head line
  flag k.Semicolon
  pure (stated s.script.head line free a x)

-- EXPIRE a
abbrev pub expire_line : Reader → List ℕ → Lang (Checked Event)
expire_line s line = do
  token k.Expire
  a ← token k.Name
  pure (expired s.script.head line a)

-- SNAPSHOT
abbrev pub snapshot_line : Reader → Lang (Checked Event)
snapshot_line s = token k.Snapshot >> pure (pictured s.script.lines)

-- END
abbrev pub end_line : Lang (Checked Event)
end_line = token k.End >> pure (plain event.End)

abbrev pub head_line : Reader → List ℕ → Lang (Checked Event)
head_line s line = config_line s line <|> (table_line s line <|> (index_line s line <|> (row_line s line <|> (connect_line s line <|> begin_line))))

abbrev pub body_line : Reader → List ℕ → Lang (Checked Event)
body_line s line = statement_line s line <|> (expire_line s line <|> (snapshot_line s <|> end_line))

-- a line in this position; behind END no line says anything
abbrev pub rule : Place → Reader → List ℕ → Lang (Checked Event)
rule place.First s line = first_line
rule place.Head s line = head_line s line
rule place.Body s line = body_line s line
rule place.After s line = pure (plain event.End)
