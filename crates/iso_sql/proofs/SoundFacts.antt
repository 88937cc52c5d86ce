-- What follows where no fault is found.
use Rattle.std.proofs.Common.{◌≡◌, ℕ, Bool, true, false, cond, List, [], ◌∷◌, length, Option, Some, None, refl, sym, ap, subst, ◌∙◌, inl, inr}
use Rattle.std.specs.Prelude.{◌&&◌, find, slice_get, is_some}
use Rattle.std.specs.Option.{option_map_or}
use Rattle.std.proofs.lemmas.Option.{slice_get_within}
use Rattle.std.proofs.lemmas.Bool.{lt-ltb}
use Rattle.iso_types.specs.Head.{is_table}
use Rattle.iso_types.specs.declared.head.Column.{Column}
use Rattle.iso_types.specs.declared.head.ColumnKind.{ColumnKind}
use Rattle.iso_types.specs.declared.head.Head.{Head}
use Rattle.iso_types.specs.declared.head.TableDef.{TableDef}
use Rattle.iso_grammar.specs.declared.fault.Cause.{Cause}
use Rattle.iso_grammar.specs.declared.fault.Fault.{Fault}
use Rattle.iso_grammar.specs.declared.token.Token.{Token}
use Rattle.iso_grammar.specs.Faults.{at, is_sooner, least, unless}
use Rattle.iso_grammar.proofs.Choices.{decide}
use Rattle.iso_sql.specs.Names.{Names, column_in, column_of, column_place, column_places, columns_in, gives, is_column_at, is_table_at, name_fault, table_fault, table_in, table_names, table_of, table_place, table_places}
use Rattle.iso_sql.specs.Sound.{columns_of, of_kind}

pub and_made : (a b : Bool) → a ≡ true → b ≡ true → (a && b) ≡ true
and_made a b e f = rw (e, f) refl

pub some_same : {A : Type 0} (x y : A) → Some x ≡ Some y → x ≡ y
some_same x y e = cc

pub no_some : {A B : Type 0} (x : A) → Some x ≡ None → B
no_some x e = absurd cc

pub no_none : {A B : Type 0} (x : A) (o : Option A) → o ≡ None → o ≡ Some x → B
no_none x o e f = absurd cc

pub no_way : {B : Type 0} → false ≡ true → B
no_way e = absurd cc

-- ---- faults

pub unless_none : (b : Bool) (t : Token) (why : Cause) → unless b t why ≡ None → b ≡ true
unfolding unless at
unless_none true t why e = refl
unless_none false t why e = no_some (record { place = t.start; cause = why }) e

pub at_none : {B : Type 0} (t : Token) (why : Cause) → at t why ≡ None → B
unfolding at
at_none t why e = no_some (record { place = t.start; cause = why }) e

pub least_none : (a b : Option Fault) → least a b ≡ None → (a ≡ None) × (b ≡ None)
unfolding least
least_none None b e = (refl, e)
least_none (Some a) None e = no_some a e
least_none (Some a) (Some b) e = go (is_sooner b a) e
  where
    go : (v : Bool) → cond v (Some b) (Some a) ≡ None → (Some a ≡ None) × (Some b ≡ None)
    go true e = no_some b e
    go false e = no_some a e

-- ---- options

pub there : {A : Type 0} (f : A → Bool) (o : Option A) → option_map_or f o false ≡ true → (d : A) × (o ≡ Some d) × (f d ≡ true)
there f None e = no_way e
there f (Some d) e = (d, refl, e)

pub some_there : {A : Type 0} (o : Option A) → is_some o ≡ true → (d : A) × (o ≡ Some d)
some_there None e = no_way e
some_there (Some d) e = (d, refl)

pub find_true : (p : ℕ → Bool) (xs : List ℕ) (k : ℕ) → find p xs ≡ Some k → p k ≡ true
find_true p [] k e = no_some k (sym e)
find_true p (x ∷ xs) k e = elim (decide (p x)) [
  | inl v ↦ subst (λ (z : ℕ). p z ≡ true) (some_same x k (sym (ap (λ b. cond b (Some x) (find p xs)) v) ∙ e)) v
  | inr v ↦ find_true p xs k (sym (ap (λ b. cond b (Some x) (find p xs)) v) ∙ e)
]

-- ---- names

pub column_there : (names : Names) (t : Token) (p : ℕ) → column_place names t ≡ Some p → (d : Column) × (slice_get names.columns p ≡ Some d)
unfolding column_place
column_there names t p e =
    let w = there (λ (d : Column). gives names.line t d.name) (slice_get names.columns p) (find_true (is_column_at names t) column_places p e) in
    (w.0, w.1)

pub column_is : (names : Names) (t : Token) (p : ℕ) → column_place names t ≡ Some p → column_of names t ≡ slice_get names.columns p
unfolding column_of
column_is names t p e = ap (column_in names) e

-- a column without a fault: its place, and itself
pub declared : (names : Names) (t : Token) → name_fault names t ≡ None → (p : ℕ) × (d : Column) × (column_place names t ≡ Some p) × (slice_get names.columns p ≡ Some d)
unfolding name_fault
declared names t e =
    let w = some_there (column_place names t) (unless_none _ t _ e) in
    let c = column_there names t w.0 w.1 in
    (w.0, c.0, w.1, c.1)

-- it holds of the kind of the column in this place
pub kind_made : (columns : List Column) (place : ℕ) (d : Column) (p : ColumnKind → Bool) → slice_get columns place ≡ Some d → p d.kind ≡ true → of_kind columns place p ≡ true
kind_made columns place d p e q = ap (λ o. option_map_or (λ (c : Column). p c.kind) o false) e ∙ q

-- a table without a fault is the head's
pub table_there : (head : Head) (line : List ℕ) (t : Token) → table_fault (table_names head line t) t ≡ None → is_table head (table_of head line t) ≡ true
unfolding table_fault table_names table_of table_place
table_there head line t e =
    let w = some_there (table_place head line t) (unless_none _ t _ e) in
    let d = there (λ (d : TableDef). gives line t d.name) (slice_get head.tables w.0) (find_true (is_table_at head line t) table_places w.0 w.1) in
    ap (λ (o : Option ℕ). is_table head (table_in o)) w.1 ∙ lt-ltb w.0 (length head.tables) (slice_get_within head.tables w.0 d.0 d.1)

-- the columns of a statement's names are those of its table
pub columns_are : (head : Head) (line : List ℕ) (t : Token) → table_fault (table_names head line t) t ≡ None → columns_of head (table_of head line t) ≡ (table_names head line t).columns
unfolding table_fault table_names table_of
columns_are head line t e = go (table_place head line t) (unless_none _ t _ e)
  where
    go : (o : Option ℕ) → is_some o ≡ true → columns_of head (table_in o) ≡ columns_in head o
    go None e = no_way e
    go (Some p) e = refl
