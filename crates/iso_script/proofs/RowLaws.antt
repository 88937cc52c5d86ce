-- Rows that are stored fit their table, also when more tables come.
use Rattle.std.proofs.Common.{◌≡◌, ℕ, zero, suc, Bool, true, false, cond, List, [], ◌∷◌, ◌++◌, Option, Some, None, refl, sym, ap, ◌∙◌}
use Rattle.std.specs.Prelude.{◌&&◌, find, slice_get, is_some}
use Rattle.std.specs.List.{list_all}
use Rattle.std.specs.Option.{option_map_or}
use Rattle.iso_types.specs.Head.{all_fit, fits_column, row_fits}
use Rattle.iso_types.specs.declared.head.Column.{Column}
use Rattle.iso_types.specs.declared.head.FirstRow.{FirstRow}
use Rattle.iso_types.specs.declared.head.Head.{Head}
use Rattle.iso_types.specs.declared.head.TableDef.{TableDef}
use Rattle.iso_types.specs.declared.value.Value.{Value}
use Rattle.iso_grammar.specs.declared.fault.Cause.TheVariants.{TypeFault}
use Rattle.iso_grammar.specs.declared.token.Token.{Token}
use Rattle.iso_grammar.specs.Faults.{at}
use Rattle.iso_grammar.specs.Values.{value_of}
use Rattle.iso_sql.specs.Names.{columns_in, is_table_at, gives, table_in, table_place, table_places}
use Rattle.iso_sql.specs.Rows.{fits, or_null, stored_fault, stored_row, stored_value, stores}
use Rattle.iso_script.specs.Sound.{is_fitting}

some_none : {A : Type 0} (x : A) → Some x ≡ None → ⊥
some_none x e = cc

true_here : false ≡ true → ⊥
true_here e = cc

pub find_passes : (p : ℕ → Bool) (xs : List ℕ) (x : ℕ) → find p xs ≡ Some x → p x ≡ true
find_passes p [] x e = absurd (some_none x (sym e))
find_passes p (y ∷ ys) x e = go (p y) refl e (λ q. find_passes p ys x q)
  where
    same : Some y ≡ Some x → x ≡ y
    same e = cc

    go : (b : Bool) → p y ≡ b → cond b (Some y) (find p ys) ≡ Some x → (find p ys ≡ Some x → p x ≡ true) → p x ≡ true
    go true is q later = ap p (same q) ∙ is
    go false is q later = later q

-- what stands in a place stands there where more comes behind
pub slice_get-grow : {A : Type 0} (xs ys : List A) (i : ℕ) (x : A) → slice_get xs i ≡ Some x → slice_get (xs ++ ys) i ≡ Some x
slice_get-grow [] ys i x e = absurd (some_none x (sym e))
slice_get-grow (y ∷ xs) ys zero x e = e
slice_get-grow (y ∷ xs) ys (suc i) x e = slice_get-grow xs ys i x e

-- a row fits where more tables stand behind
fits-grow : (tables more : List TableDef) (i : ℕ) (row : List Value) → option_map_or (λ d. all_fit d.columns row) (slice_get tables i) false ≡ true
    → option_map_or (λ d. all_fit d.columns row) (slice_get (tables ++ more) i) false ≡ true
fits-grow tables more i row e = go (slice_get tables i) refl e
  where
    go : (o : Option TableDef) → slice_get tables i ≡ o → option_map_or (λ d. all_fit d.columns row) o false ≡ true → option_map_or (λ d. all_fit d.columns row) (slice_get (tables ++ more) i) false ≡ true
    go (Some d) is q = ap (λ o. option_map_or (λ d. all_fit d.columns row) o false) (slice_get-grow tables more i d is) ∙ q
    go None is q = absurd (true_here q)

both : (a b : Bool) → (a && b) ≡ true → (a ≡ true) × (b ≡ true)
both true b e = (refl, e)
both false b e = absurd cc

-- the rows fit where more tables stand behind
pub rows-grow : (head : Head) (d : TableDef) (rows : List FirstRow) → list_all (is_fitting head) rows ≡ true → list_all (is_fitting (record head { tables = head.tables ++ d ∷ [] })) rows ≡ true
rows-grow head d [] e = refl
rows-grow head d (f ∷ fs) e =
    let b = both (is_fitting head f) (list_all (is_fitting head) fs) e in
    ap (λ v. v && list_all (is_fitting (record head { tables = head.tables ++ d ∷ [] })) fs) (fits-grow head.tables (d ∷ []) f.table.0 f.row b.0) ∙ rows-grow head d fs b.1

stores-fits : (line : List ℕ) (c : Column) (t : Token) → stores true line c t ≡ true → fits_column c (stored_value line t) ≡ true
unfolding stores stored_value
stores-fits line c t e = go (value_of line t) e
  where
    go : (o : Option Value) → option_map_or (fits true c) o false ≡ true → fits_column c (or_null o) ≡ true
    go (Some v) q = q
    go None q = absurd (true_here q)

-- literals without a fault make a row that fits
pub stored-fits : (line : List ℕ) (columns : List Column) (ts : List Token) (close : Token) → stored_fault true line columns ts close ≡ None → all_fit columns (stored_row line ts) ≡ true
unfolding at
stored-fits line [] [] close e = refl
stored-fits line [] (t ∷ ts) close e = absurd (some_none _ e)
stored-fits line (c ∷ cs) [] close e = absurd (some_none _ e)
stored-fits line (c ∷ cs) (t ∷ ts) close e = go (stores true line c t) refl e (λ q. stored-fits line cs ts close q)
  where
    go : (b : Bool) → stores true line c t ≡ b → cond b (stored_fault true line cs ts close) (at t TypeFault) ≡ None → (stored_fault true line cs ts close ≡ None → all_fit cs (stored_row line ts) ≡ true)
        → (fits_column c (stored_value line t) && all_fit cs (stored_row line ts)) ≡ true
    go true is q later = ap (λ v. v && all_fit cs (stored_row line ts)) (stores-fits line c t is) ∙ later q
    go false is q later = absurd (some_none _ q)

-- a row that fits the columns of the table that is named fits that table
pub named-fits : (head : Head) (line : List ℕ) (t : Token) (row : List Value) (o : Option ℕ) → table_place head line t ≡ o → is_some o ≡ true → all_fit (columns_in head o) row ≡ true → row_fits head (table_in o) row ≡ true
unfolding table_place
named-fits head line t row None is known e = absurd (true_here known)
named-fits head line t row (Some p) is known e = go (slice_get head.tables p) (find_passes (is_table_at head line t) table_places p is) e
  where
    go : (o : Option TableDef) → option_map_or (λ d. gives line t d.name) o false ≡ true → all_fit (option_map_or (λ d. d.columns) o []) row ≡ true → option_map_or (λ d. all_fit d.columns row) o false ≡ true
    go (Some d) there q = q
    go None there q = absurd (true_here there)
