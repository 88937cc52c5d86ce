-- Statements are read by their grammar.
use Rattle.std.proofs.Common.{ℕ, true, false, List, [], ◌∷◌, Some, None, refl}
use Rattle.iso_types.specs.declared.head.Head.{Head}
use Rattle.iso_types.specs.declared.head.Isolation.TheVariants as iso
use Rattle.iso_modes.specs.declared.Mode.TheVariants as mode
use Rattle.iso_grammar.specs.declared.token.Kind.TheVariants as k
use Rattle.iso_grammar.specs.declared.token.Token.{Token}
use Rattle.iso_grammar.specs.Grammar as g
use Rattle.iso_grammar.proofs.Laws.{Reads}
use Rattle.iso_grammar.proofs.Rules.{then, or_else, repeated, word, done}
use Rattle.iso_sql.specs.declared.assignment.Right.TheVariants as side
use Rattle.iso_sql.specs.declared.list.Chosen.TheVariants as chosen
use Rattle.iso_sql.specs.declared.list.Listed.TheVariants as listed
use Rattle.iso_sql.specs.declared.statement.Statement.TheVariants as s
use Rattle.iso_sql.specs.Names.{Names, table_names}
use Rattle.iso_sql.specs.Actions.{limited, unfiltered, selected, inserted, updated, deleted, saved, rolled_back, locked, plain}
use Rattle.iso_sql.specs.Statements as gs
use Rattle.iso_sql.specs.StatementReading.{stored, separated, column_list, maybe_columns, isolation, level, where_, filter, all_items, counted, column_items, items, integer, literal_right, plus, minus, behind_column, column_right, right, assignment, assignments, select, insert, update, delete, commit, to_savepoint, maybe_to, rollback, retaining, maybe_retaining, savepoint, lock_mode, lock, new_level, set_isolation, waits, set_timeout, set_current, set, short_statement, statement, first_words, goes_words}
use Rattle.iso_sql.proofs.ConditionLaws.{stands}
use Rattle.iso_sql.proofs.Parens.{condition-reads}

-- ---- parts

stored-reads : Reads (λ n. stored) gs.stored (k.Integer ∷ k.One ∷ k.Text ∷ k.Null ∷ []) [] false
unfolding stored
stored-reads = or_else (word k.Integer) (or_else (word k.One) (or_else (word k.Text) (word k.Null) refl) refl) refl

columns-reads : Reads (separated listed.Column) (gs.separated listed.Column) (k.Name ∷ []) (k.Comma ∷ []) false
unfolding separated
columns-reads = then (word k.Name) (λ first. then (repeated (then (word k.Comma) (λ _. word k.Name) refl) refl) (λ more. done (first ∷ more)) refl) refl

literals-reads : Reads (separated listed.Literal) (gs.separated listed.Literal) (k.Integer ∷ k.One ∷ k.Text ∷ k.Null ∷ []) (k.Comma ∷ []) false
unfolding separated
literals-reads = then stored-reads (λ first. then (repeated (then (word k.Comma) (λ _. stored-reads) refl) refl) (λ more. done (first ∷ more)) refl) refl

column_list-reads : Reads column_list gs.column_list (k.Open ∷ []) [] false
unfolding column_list
column_list-reads = then (word k.Open) (λ _. then columns-reads (λ cs. then (word k.Close) (λ _. done cs) refl) refl) refl

maybe_columns-reads : Reads maybe_columns (g.optional gs.column_list) (k.Open ∷ []) (k.Open ∷ []) true
unfolding maybe_columns
maybe_columns-reads = or_else (then column_list-reads (λ cs. done (Some cs)) refl) (done None) refl

isolation-reads : Reads (λ n. isolation) gs.isolation (k.Ur ∷ k.Cs ∷ k.Rs ∷ k.Rr ∷ []) [] false
unfolding isolation
isolation-reads = or_else (stands k.Ur iso.Ur) (or_else (stands k.Cs iso.Cs) (or_else (stands k.Rs iso.Rs) (stands k.Rr iso.Rr) refl) refl) refl

level-reads : Reads (λ n. level) gs.level (k.With ∷ []) (k.With ∷ []) true
unfolding level
level-reads = or_else (then (then (word k.With) (λ _. isolation-reads) refl) (λ x. done (Some x)) refl) (done None) refl

where-reads : (names : Names) → Reads (where_ names) (gs.where_ names) (k.Where ∷ []) (k.Or ∷ k.And ∷ k.And ∷ []) false
unfolding where_
where-reads names = then (word k.Where) (λ _. then (condition-reads names) (λ x. done (limited x)) refl) refl

filter-reads : (names : Names) → Reads (filter names) (gs.filter names) (k.Where ∷ []) (k.Or ∷ k.And ∷ k.And ∷ k.Where ∷ []) true
unfolding filter
filter-reads names = or_else (where-reads names) (done unfiltered) refl

all_items-reads : Reads (λ n. all_items) gs.all_items (k.Star ∷ []) [] false
unfolding all_items
all_items-reads = then (word k.Star) (λ _. done chosen.All) refl

counted-reads : Reads (λ n. counted) gs.counted (k.Count ∷ []) [] false
unfolding counted
counted-reads = then (word k.Count) (λ _. then (word k.Open) (λ _. then (word k.Star) (λ _. then (word k.Close) (λ _. done chosen.Count) refl) refl) refl) refl

column_items-reads : Reads column_items gs.column_items (k.Name ∷ []) (k.Comma ∷ []) false
unfolding column_items
column_items-reads = then columns-reads (λ cs. done (chosen.Columns cs)) refl

items-reads : Reads items gs.items (k.Star ∷ k.Count ∷ k.Name ∷ []) (k.Comma ∷ []) false
unfolding items
items-reads = or_else all_items-reads (or_else counted-reads column_items-reads refl) refl

-- ---- expressions and assignments

integer-reads : Reads (λ n. integer) gs.integer (k.Integer ∷ k.One ∷ []) [] false
unfolding integer
integer-reads = or_else (word k.Integer) (word k.One) refl

literal_right-reads : Reads (λ n. literal_right) gs.literal_right (k.Integer ∷ k.One ∷ k.Text ∷ k.Null ∷ []) [] false
unfolding literal_right
literal_right-reads = then stored-reads (λ t. done (side.Literal t)) refl

plus-reads : (t : Token) → Reads (λ n. plus t) (gs.plus t) (k.Plus ∷ []) [] false
unfolding plus
plus-reads t = then (word k.Plus) (λ _. then integer-reads (λ n. done (side.Plus t n)) refl) refl

minus-reads : (t : Token) → Reads (λ n. minus t) (gs.minus t) (k.Minus ∷ []) [] false
unfolding minus
minus-reads t = then (word k.Minus) (λ _. then integer-reads (λ n. done (side.Minus t n)) refl) refl

behind_column-reads : (t : Token) → Reads (λ n. behind_column t) (gs.behind_column t) (k.Plus ∷ k.Minus ∷ []) (k.Minus ∷ k.Plus ∷ []) true
unfolding behind_column
behind_column-reads t = or_else (plus-reads t) (or_else (minus-reads t) (done (side.Column t)) refl) refl

column_right-reads : Reads (λ n. column_right) gs.column_right (k.Name ∷ []) (k.Minus ∷ k.Plus ∷ []) false
unfolding column_right
column_right-reads = then (word k.Name) (λ t. behind_column-reads t) refl

right-reads : Reads (λ n. right) (g.◌<|>◌ gs.column_right gs.literal_right) (k.Name ∷ k.Integer ∷ k.One ∷ k.Text ∷ k.Null ∷ []) (k.Minus ∷ k.Plus ∷ []) false
right-reads = or_else column_right-reads literal_right-reads refl

assignment-reads : Reads (λ n. assignment) gs.assignment (k.Name ∷ []) (k.Minus ∷ k.Plus ∷ []) false
unfolding assignment
assignment-reads = then (word k.Name) (λ c. then (word k.Equal) (λ _. then right-reads (λ x. done (record { column = c; right = x })) refl) refl) refl

assignments-reads : Reads assignments gs.assignments (k.Name ∷ []) (k.Comma ∷ k.Minus ∷ k.Plus ∷ k.Minus ∷ k.Plus ∷ []) false
unfolding assignments
assignments-reads = then assignment-reads (λ first. then (repeated (then (word k.Comma) (λ _. assignment-reads) refl) refl) (λ more. done (first ∷ more)) refl) refl

-- ---- statements

select-reads : (head : Head) (line : List ℕ) → Reads (select head line) (gs.select head line) (k.Select ∷ []) (k.With ∷ k.Or ∷ k.And ∷ k.And ∷ k.Where ∷ []) false
unfolding select
select-reads head line =
    then (word k.Select) (λ _. then items-reads (λ is. then (word k.From) (λ _. then (word k.Name) (λ t. then (filter-reads (table_names head line t)) (λ cond. then level-reads (λ at.
    done (selected head line is t cond at)) refl) refl) refl) refl) refl) refl

insert-reads : (head : Head) (line : List ℕ) → Reads (insert head line) (gs.insert head line) (k.Insert ∷ []) [] false
unfolding insert
insert-reads head line =
    then (word k.Insert) (λ _. then (word k.Into) (λ _. then (word k.Name) (λ t. then maybe_columns-reads (λ cs. then (word k.Values) (λ _. then (word k.Open) (λ _. then literals-reads (λ vs. then (word k.Close) (λ close.
    done (inserted head line t cs vs close)) refl) refl) refl) refl) refl) refl) refl) refl

update-reads : (head : Head) (line : List ℕ) → Reads (update head line) (gs.update head line) (k.Update ∷ []) (k.With ∷ k.Or ∷ k.And ∷ k.And ∷ k.Where ∷ k.Comma ∷ k.Minus ∷ k.Plus ∷ k.Minus ∷ k.Plus ∷ []) false
unfolding update
update-reads head line =
    then (word k.Update) (λ _. then (word k.Name) (λ t. then (word k.Set) (λ _. then assignments-reads (λ targets. then (filter-reads (table_names head line t)) (λ cond. then level-reads (λ at.
    done (updated head line t targets cond at)) refl) refl) refl) refl) refl) refl

delete-reads : (head : Head) (line : List ℕ) → Reads (delete head line) (gs.delete head line) (k.Delete ∷ []) (k.With ∷ k.Or ∷ k.And ∷ k.And ∷ k.Where ∷ []) false
unfolding delete
delete-reads head line =
    then (word k.Delete) (λ _. then (word k.From) (λ _. then (word k.Name) (λ t. then (filter-reads (table_names head line t)) (λ cond. then level-reads (λ at.
    done (deleted head line t cond at)) refl) refl) refl) refl) refl

commit-reads : Reads (λ n. commit) gs.commit (k.Commit ∷ []) (k.Work ∷ []) false
unfolding commit
commit-reads = then (word k.Commit) (λ _. then (or_else (then (word k.Work) (λ t. done (Some t)) refl) (done None) refl) (λ _. done (plain s.Commit)) refl) refl

to_savepoint-reads : Reads (λ n. to_savepoint) gs.to_savepoint (k.To ∷ []) [] false
unfolding to_savepoint
to_savepoint-reads = then (word k.To) (λ _. then (word k.Savepoint) (λ _. word k.Name) refl) refl

maybe_to-reads : Reads (λ n. maybe_to) (g.optional gs.to_savepoint) (k.To ∷ []) (k.To ∷ []) true
unfolding maybe_to
maybe_to-reads = or_else (then to_savepoint-reads (λ t. done (Some t)) refl) (done None) refl

rollback-reads : (line : List ℕ) → Reads (λ n. rollback line) (gs.rollback line) (k.Rollback ∷ []) (k.To ∷ k.Work ∷ []) false
unfolding rollback
rollback-reads line =
    then (word k.Rollback) (λ _. then (or_else (then (word k.Work) (λ t. done (Some t)) refl) (done None) refl) (λ _. then maybe_to-reads (λ to. done (rolled_back line to)) refl) refl) refl

retaining-reads : Reads (λ n. retaining) gs.retaining (k.On ∷ []) [] false
unfolding retaining
retaining-reads = then (word k.On) (λ _. then (word k.Rollback) (λ _. then (word k.Retain) (λ _. word k.Cursors) refl) refl) refl

maybe_retaining-reads : Reads (λ n. maybe_retaining) (g.optional gs.retaining) (k.On ∷ []) (k.On ∷ []) true
unfolding maybe_retaining
maybe_retaining-reads = or_else (then retaining-reads (λ t. done (Some t)) refl) (done None) refl

savepoint-reads : (line : List ℕ) → Reads (λ n. savepoint line) (gs.savepoint line) (k.Savepoint ∷ []) (k.On ∷ []) false
unfolding savepoint
savepoint-reads line = then (word k.Savepoint) (λ _. then (word k.Name) (λ t. then maybe_retaining-reads (λ _. done (saved line t)) refl) refl) refl

lock_mode-reads : Reads (λ n. lock_mode) gs.lock_mode (k.Share ∷ k.Exclusive ∷ []) [] false
unfolding lock_mode
lock_mode-reads = or_else (stands k.Share mode.S) (stands k.Exclusive mode.X) refl

lock-reads : (head : Head) (line : List ℕ) → Reads (λ n. lock head line) (gs.lock head line) (k.Lock ∷ []) [] false
unfolding lock
lock-reads head line =
    then (word k.Lock) (λ _. then (word k.Table) (λ _. then (word k.Name) (λ t. then (word k.In) (λ _. then lock_mode-reads (λ m. then (word k.Mode) (λ _. done (locked head line t m)) refl) refl) refl) refl) refl) refl

new_level-reads : Reads (λ n. new_level) gs.new_level (k.Ur ∷ k.Cs ∷ k.Rs ∷ k.Rr ∷ k.Reset ∷ []) [] false
unfolding new_level
new_level-reads = or_else (then isolation-reads (λ x. done (Some x)) refl) (stands k.Reset None) refl

set_isolation-reads : Reads (λ n. set_isolation) gs.set_isolation (k.Isolation ∷ []) [] false
unfolding set_isolation
set_isolation-reads =
    then (word k.Isolation) (λ _. then (or_else (then (word k.Equal) (λ t. done (Some t)) refl) (done None) refl) (λ _. then new_level-reads (λ x. done (plain (s.SetIsolation x))) refl) refl) refl

waits-reads : Reads (λ n. waits) gs.waits (k.Wait ∷ k.Not ∷ []) [] false
unfolding waits
waits-reads = or_else (stands k.Wait true) (then (word k.Not) (λ _. stands k.Wait false) refl) refl

set_timeout-reads : Reads (λ n. set_timeout) gs.set_timeout (k.Lock ∷ []) [] false
unfolding set_timeout
set_timeout-reads =
    then (word k.Lock) (λ _. then (word k.Timeout) (λ _. then (or_else (then (word k.Equal) (λ t. done (Some t)) refl) (done None) refl) (λ _. then waits-reads (λ w. done (plain (s.SetWait w))) refl) refl) refl) refl

set_current-reads : Reads (λ n. set_current) gs.set_current (k.Current ∷ []) [] false
unfolding set_current
set_current-reads = then (word k.Current) (λ _. or_else set_isolation-reads set_timeout-reads refl) refl

set-reads : Reads (λ n. set) gs.set (k.Set ∷ []) [] false
unfolding set
set-reads = then (word k.Set) (λ _. or_else set_isolation-reads set_current-reads refl) refl

short_statement-reads : (head : Head) (line : List ℕ) → Reads (λ n. short_statement head line) (gs.short_statement head line)
    (k.Commit ∷ k.Rollback ∷ k.Savepoint ∷ k.Lock ∷ k.Set ∷ []) (k.Work ∷ k.To ∷ k.Work ∷ k.On ∷ []) false
unfolding short_statement
short_statement-reads head line = or_else commit-reads (or_else (rollback-reads line) (or_else (savepoint-reads line) (or_else (lock-reads head line) set-reads refl) refl) refl) refl

-- each statement is read by its grammar, exactly
pub statement-reads : (head : Head) (line : List ℕ) → Reads (statement head line) (gs.statement head line) first_words goes_words false
unfolding statement
statement-reads head line =
    or_else (select-reads head line) (or_else (insert-reads head line) (or_else (update-reads head line) (or_else (delete-reads head line) (short_statement-reads head line) refl) refl) refl) refl
