-- Each line is read by its rule, exactly.
use Rattle.std.proofs.Common.{◌≡◌, ℕ, Bool, true, false, List, [], ◌∷◌, Option, Some, None, Result, refl, ◌⊎◌}
use Rattle.iso_types.specs.declared.head.Isolation.TheVariants as level
use Rattle.iso_grammar.specs.declared.fault.Checked.{Checked}
use Rattle.iso_grammar.specs.declared.token.Kind.{Kind}
use Rattle.iso_grammar.specs.declared.token.Kind.TheVariants as k
use Rattle.iso_grammar.specs.declared.token.Token.{Token}
use Rattle.iso_grammar.specs.declared.tokens.ReadError.{ReadError}
use Rattle.iso_grammar.specs.Grammar as g
use Rattle.iso_grammar.specs.Kinds.{Kinds}
use Rattle.iso_grammar.specs.Reading.{Input, Gives, all_of}
use Rattle.iso_grammar.proofs.Laws.{Reads}
use Rattle.iso_grammar.proofs.Rules.{then, or_else, repeated, word, done}
use Rattle.iso_grammar.proofs.Whole as whole
use Rattle.iso_script.specs.declared.event.Event.{Event}
use Rattle.iso_script.specs.declared.event.Event.TheVariants as event
use Rattle.iso_script.specs.declared.reader.Place.{Place}
use Rattle.iso_script.specs.declared.reader.Place.TheVariants as place
use Rattle.iso_script.specs.declared.reader.Reader.{Reader}
use Rattle.iso_script.specs.declared.words.SettingName.{SettingName}
use Rattle.iso_script.specs.declared.words.SettingName.TheVariants as name
use Rattle.iso_script.specs.declared.words.TypeWords.TheVariants as ty
use Rattle.iso_sql.specs.StatementReading.{goes_words}
use Rattle.iso_sql.proofs.StatementLaws.{statement-reads}
use Rattle.iso_script.specs.Rules as gs
use Rattle.iso_script.specs.Events.{configured, declared, connected, stated, expired, pictured, plain}
use Rattle.iso_script.specs.Keyed.{index_words, rowed, indexed}
use Rattle.iso_script.specs.RuleReading.{flag, number, first_line, switch, switched, numbered, setting_words, config_line, varchar, type_words, not_null, column, columns, table_line, literal, literals, row_line, index_on, index_line, isolation, connect_line, begin_line, statement_line, expire_line, snapshot_line, end_line, head_line, body_line, rule}

flag-reads : (kind : Kind) → Reads (λ n. flag kind) (gs.flag kind) (kind ∷ []) (kind ∷ []) true
unfolding flag
flag-reads kind = or_else (then (word kind) (λ _. done true) refl) (done false) refl

number-reads : Reads (λ n. number) gs.number (k.Integer ∷ k.One ∷ []) [] false
unfolding number
number-reads = or_else (word k.Integer) (word k.One) refl

first_line-reads : Reads (λ n. first_line) gs.first_line (k.Db2iso ∷ []) [] false
unfolding first_line
first_line-reads = then (word k.Db2iso) (λ _. then (word k.One) (λ _. done (plain event.First)) refl) refl

switch-reads : Reads (λ n. switch) (g.◌<|>◌ (g.token k.On) (g.token k.Disabled)) (k.On ∷ k.Disabled ∷ []) [] false
unfolding switch
switch-reads = or_else (word k.On) (word k.Disabled) refl

switched-reads : Reads (λ n. switched) gs.switched (k.CurCommit ∷ []) [] false
unfolding switched
switched-reads = then (word k.CurCommit) (λ w. then switch-reads (λ v. done (record { name = name.CurCommit; word = w; value = v })) refl) refl

numbered-reads : (kind : Kind) (n : SettingName) → Reads (λ _. numbered kind n) (gs.numbered kind n) (kind ∷ []) [] false
unfolding numbered
numbered-reads kind n = then (word kind) (λ w. then number-reads (λ v. done (record { name = n; word = w; value = v })) refl) refl

setting_words-reads : Reads (λ n. setting_words) gs.setting_words (k.CurCommit ∷ k.Locklist ∷ k.Maxlocks ∷ k.Logmax ∷ k.Window ∷ []) [] false
unfolding setting_words
setting_words-reads =
    or_else switched-reads
    (or_else (numbered-reads k.Locklist name.Locklist)
    (or_else (numbered-reads k.Maxlocks name.Maxlocks) (or_else (numbered-reads k.Logmax name.Logmax) (numbered-reads k.Window name.Window) refl) refl) refl) refl

config_line-reads : (s : Reader) (line : List ℕ) → Reads (λ n. config_line s line) (gs.config_line s line) (k.Config ∷ []) [] false
unfolding config_line
config_line-reads s line = then (word k.Config) (λ _. then setting_words-reads (λ w. done (configured s.set line w)) refl) refl

type_words-reads : Reads (λ n. type_words) gs.type_words (k.IntegerWord ∷ k.Bigint ∷ k.Varchar ∷ []) [] false
unfolding type_words varchar
type_words-reads =
    or_else (then (word k.IntegerWord) (λ _. done ty.Integer) refl)
    (or_else (then (word k.Bigint) (λ _. done ty.Bigint) refl)
    (then (word k.Varchar) (λ _. then (word k.Open) (λ _. then number-reads (λ n. then (word k.Close) (λ _. done (ty.Varchar n)) refl) refl) refl) refl) refl) refl

not_null-reads : Reads (λ n. not_null) gs.not_null (k.Not ∷ []) (k.Not ∷ []) true
unfolding not_null
not_null-reads = or_else (then (word k.Not) (λ _. then (word k.Null) (λ _. done true) refl) refl) (done false) refl

column-reads : Reads (λ n. column) gs.column (k.Name ∷ []) (k.Not ∷ []) false
unfolding column
column-reads = then (word k.Name) (λ c. then type_words-reads (λ t. then not_null-reads (λ r. done (record { name = c; kind = t; required = r })) refl) refl) refl

columns-reads : Reads columns (gs.separated gs.column) (k.Name ∷ []) (k.Comma ∷ k.Not ∷ k.Not ∷ []) false
unfolding columns
columns-reads = then column-reads (λ first. then (repeated (then (word k.Comma) (λ _. column-reads) refl) refl) (λ more. done (first ∷ more)) refl) refl

table_line-reads : (s : Reader) (line : List ℕ) → Reads (table_line s line) (gs.table_line s line) (k.Table ∷ []) [] false
unfolding table_line
table_line-reads s line =
    then (word k.Table) (λ _. then (word k.Name) (λ t. then (word k.Open) (λ _. then columns-reads (λ cs. then (word k.Close) (λ _. done (declared s.script.head line t cs)) refl) refl) refl) refl) refl

literal-reads : Reads (λ n. literal) gs.literal (k.Integer ∷ k.One ∷ k.Text ∷ k.Null ∷ []) [] false
unfolding literal
literal-reads = or_else (word k.Integer) (or_else (word k.One) (or_else (word k.Text) (word k.Null) refl) refl) refl

literals-reads : Reads literals (gs.separated gs.literal) (k.Integer ∷ k.One ∷ k.Text ∷ k.Null ∷ []) (k.Comma ∷ []) false
unfolding literals
literals-reads = then literal-reads (λ first. then (repeated (then (word k.Comma) (λ _. literal-reads) refl) refl) (λ more. done (first ∷ more)) refl) refl

row_line-reads : (s : Reader) (line : List ℕ) → Reads (row_line s line) (gs.row_line s line) (k.Row ∷ []) [] false
unfolding row_line
row_line-reads s line =
    then (word k.Row) (λ first. then (word k.Name) (λ t. then (word k.Open) (λ _. then literals-reads (λ vs. then (word k.Close) (λ close. done (rowed s.script.head line first t vs close)) refl) refl) refl) refl) refl

index_on-reads : (s : Reader) (line : List ℕ) (unique : Option Token) → Reads (λ n. index_on s line unique) (gs.index_on s line unique) (k.Index ∷ []) [] false
unfolding index_on
index_on-reads s line unique =
    then (word k.Index) (λ w. then (word k.Name) (λ i. then (word k.On) (λ _. then (word k.Name) (λ t. then (word k.Open) (λ _. then (word k.Name) (λ c. then (word k.Close) (λ _.
    done (indexed s.script.head line (index_words unique w i t c))) refl) refl) refl) refl) refl) refl) refl

index_line-reads : (s : Reader) (line : List ℕ) → Reads (λ n. index_line s line) (gs.index_line s line) (k.Unique ∷ k.Index ∷ []) [] false
unfolding index_line
index_line-reads s line = then (or_else (then (word k.Unique) (λ u. done (Some u)) refl) (done None) refl) (λ unique. index_on-reads s line unique) refl

isolation-reads : Reads (λ n. isolation) gs.isolation (k.Ur ∷ k.Cs ∷ k.Rs ∷ k.Rr ∷ []) (k.Rr ∷ k.Rs ∷ k.Cs ∷ k.Ur ∷ []) true
unfolding isolation
isolation-reads =
    or_else (then (word k.Ur) (λ _. done level.Ur) refl)
    (or_else (then (word k.Cs) (λ _. done level.Cs) refl)
    (or_else (then (word k.Rs) (λ _. done level.Rs) refl) (or_else (then (word k.Rr) (λ _. done level.Rr) refl) (done level.Cs) refl) refl) refl) refl

connect_line-reads : (s : Reader) (line : List ℕ) → Reads (λ n. connect_line s line) (gs.connect_line s line) (k.Connect ∷ []) (k.Rr ∷ k.Rs ∷ k.Cs ∷ k.Ur ∷ []) false
unfolding connect_line
connect_line-reads s line = then (word k.Connect) (λ _. then (word k.Name) (λ a. then isolation-reads (λ l. done (connected s.script.head line a l)) refl) refl) refl

begin_line-reads : Reads (λ n. begin_line) gs.begin_line (k.Begin ∷ []) [] false
unfolding begin_line
begin_line-reads = then (word k.Begin) (λ _. done (plain event.Begin)) refl

statement_line-reads : (s : Reader) (line : List ℕ) → Reads (statement_line s line) (gs.statement_line s line) (k.Ampersand ∷ k.Name ∷ []) (k.Semicolon ∷ goes_words) false
unfolding statement_line
statement_line-reads s line =
    then (flag-reads k.Ampersand) (λ free. then (word k.Name) (λ a. then (word k.Colon) (λ _. then (statement-reads s.script.head line) (λ x. then (flag-reads k.Semicolon) (λ _.
    done (stated s.script.head line free a x)) refl) refl) refl) refl) refl

expire_line-reads : (s : Reader) (line : List ℕ) → Reads (λ n. expire_line s line) (gs.expire_line s line) (k.Expire ∷ []) [] false
unfolding expire_line
expire_line-reads s line = then (word k.Expire) (λ _. then (word k.Name) (λ a. done (expired s.script.head line a)) refl) refl

snapshot_line-reads : (s : Reader) → Reads (λ n. snapshot_line s) (gs.snapshot_line s) (k.Snapshot ∷ []) [] false
unfolding snapshot_line
snapshot_line-reads s = then (word k.Snapshot) (λ _. done (pictured s.script.lines)) refl

end_line-reads : Reads (λ n. end_line) gs.end_line (k.End ∷ []) [] false
unfolding end_line
end_line-reads = then (word k.End) (λ _. done (plain event.End)) refl

-- a grammar that its parser reads
record IsRead {A : Type 0} (p : ℕ → List Token → Result (A × List Token) ℕ) (L : g.Lang A) : Type 0 where
  first : Kinds
  goes : Kinds
  null : Bool
  reads : Reads p L first goes null

is_read : {A : Type 0} {p : ℕ → List Token → Result (A × List Token) ℕ} {L : g.Lang A} {first goes : Kinds} {null : Bool} → Reads p L first goes null → IsRead p L
is_read {first = first} {goes = goes} {null = null} r = record { first = first; goes = goes; null = null; reads = r }

head_line-read : (s : Reader) (line : List ℕ) → IsRead (head_line s line) (gs.head_line s line)
unfolding head_line
head_line-read s line = is_read (or_else (config_line-reads s line) (or_else (table_line-reads s line) (or_else (index_line-reads s line) (or_else (row_line-reads s line) (or_else (connect_line-reads s line) begin_line-reads refl) refl) refl) refl) refl)

body_line-read : (s : Reader) (line : List ℕ) → IsRead (body_line s line) (gs.body_line s line)
unfolding body_line
body_line-read s line = is_read (or_else (statement_line-reads s line) (or_else (expire_line-reads s line) (or_else (snapshot_line-reads s) end_line-reads refl) refl) refl)

rule-read : (p : Place) (s : Reader) (line : List ℕ) → IsRead (rule p s line) (gs.rule p s line)
rule-read place.First s line = is_read first_line-reads
rule-read place.Head s line = head_line-read s line
rule-read place.Body s line = body_line-read s line
rule-read place.After s line = is_read (done (plain event.End))

-- what the reader of a line answers is right
pub rule_answers : (p : Place) (s : Reader) (line : List ℕ) (old new : Input) (res : Result (Checked Event) ReadError) → Gives (all_of (rule p s line)) old res new → g.Answers (gs.rule p s line) old.rest res
rule_answers p s line old new res e = whole.answers (rule-read p s line).reads old new res e

-- a line says one thing at most
pub rule_meaning : (p : Place) (s : Reader) (line : List ℕ) (ts : List Token) (x y : Checked Event) → gs.rule p s line ts x → gs.rule p s line ts y → x ≡ y
rule_meaning p s line ts x y a b = whole.one_meaning (rule-read p s line).reads ts x y a b

-- and says something, or leaves the grammar
pub rule_way : (p : Place) (s : Reader) (line : List ℕ) (ts : List Token) → ((x : Checked Event) × gs.rule p s line ts x) ⊎ ((left : ℕ) × g.StopsAt (gs.rule p s line) ts left)
rule_way p s line ts = whole.either_way (rule-read p s line).reads ts

-- not both
pub rule_apart : (p : Place) (s : Reader) (line : List ℕ) (ts : List Token) (x : Checked Event) (left : ℕ) → gs.rule p s line ts x → g.StopsAt (gs.rule p s line) ts left → ⊥
rule_apart p s line ts x left a b = whole.not_both (rule-read p s line).reads ts x left a b

-- it leaves the grammar at one place
pub rule_place : (p : Place) (s : Reader) (line : List ℕ) (ts : List Token) (a b : ℕ) → g.StopsAt (gs.rule p s line) ts a → g.StopsAt (gs.rule p s line) ts b → a ≡ b
rule_place p s line ts a b u v = whole.one_place (rule-read p s line).reads ts a b u v
