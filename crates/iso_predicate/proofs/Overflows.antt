-- Which assignments overflow.
use Rattle.std.proofs.Common.{◌≡◌, ℕ, zero, suc, Bool, true, false, List, [], ◌∷◌, length, refl, arith}
use Rattle.std.proofs.lemmas.Bool.{le-leb, leb-true}
use Rattle.std.specs.Option.{option_map_or}
use Rattle.std.specs.Prelude.{Some, None, Option, not, ◌&&◌, if◌then◌else◌, nat_le, slice_get}
use Rattle.iso_predicate.proofs.Fitting.{and_first, and_second}
use Rattle.iso_predicate.specs.Assigned.{Fault, OverflowIsOfNumbers, evaluated, fault_in, reads_column}
use Rattle.iso_predicate.specs.Truth.{value_at}
use Rattle.iso_sql.specs.Sound.{is_assignable, is_number, is_sound_expr}
use Rattle.iso_sql.specs.declared.statement.Assignment.{Assignment}
use Rattle.iso_sql.specs.declared.statement.Expr.{Expr}
use Rattle.iso_types.specs.Head.{all_fit, fits_column, fits_kind, is_null}
use Rattle.iso_types.specs.declared.head.Column.{Column}
use Rattle.iso_types.specs.declared.head.ColumnKind.{ColumnKind}
use Rattle.iso_types.specs.declared.head.ColumnKind.TheVariants.{Bigint, Integer, Varchar}
use Rattle.iso_types.specs.declared.value.Value.{Value}
use Rattle.iso_types.specs.declared.value.Value.TheVariants.{Int, Null, Text}

-- a value of a row that fits fits its column's kind
all_fit-at : (columns : List Column) (row : List Value) (k : ℕ) (d : Column)
    → all_fit columns row ≡ true → slice_get columns k ≡ Some d → fits_kind d.kind (value_at row k) ≡ true
all_fit-at [] row k d e is = absurd (cc)
all_fit-at (c ∷ cs) [] k d e is = absurd (cc)
all_fit-at (c ∷ cs) (v ∷ vs) zero d e is =
    let same : c ≡ d = cc in
    rw (← same) (and_first (fits_kind c.kind v) (not (c.required && is_null v)) (and_first (fits_column c v) (all_fit cs vs) e))
all_fit-at (c ∷ cs) (v ∷ vs) (suc k) d e is = all_fit-at cs vs k d (and_second (fits_column c v) (all_fit cs vs) e) is

-- a value that fits does not overflow
no_overflow : (c : Column) (v : Value) → fits_kind c.kind v ≡ true → fault_in c v ≡ Some Fault.Overflow → ⊥
no_overflow c v fits e = go (c.required && is_null v) (rw fits at e)
  where
    go : (b : Bool) → (if b then Some Fault.NullFault else None) ≡ Some Fault.Overflow → ⊥
    go true q = cc
    go false q = cc

-- a text of a shorter column fits
text_fits : (n m : ℕ) (v : Value) → nat_le m n ≡ true → fits_kind (Varchar m) v ≡ true → fits_kind (Varchar n) v ≡ true
text_fits n m Null le e = refl
text_fits n m (Int z) le e = absurd (cc)
text_fits n m (Text s) le e =
    let short = leb-true (length s) m e in
    let shorter = leb-true m n le in
    le-leb (length s) n (omega arith)

-- an overflow of a column that is set to an expression that it takes
of_numbers : (columns : List Column) (c : Column) (e : Expr) (row : List Value)
    → is_sound_expr columns e c.kind ≡ true → all_fit columns row ≡ true → fault_in c (evaluated row e) ≡ Some Fault.Overflow
    → (reads_column e ≡ true) × (is_number c.kind ≡ true)
of_numbers columns c (Expr.Literal v) row ok fit over = absurd (no_overflow c v ok over)
of_numbers columns c (Expr.Sum k n) row ok fit over =
    (refl, target (slice_get columns k) ok)
  where
    target : (o : Option Column) → option_map_or (λ (d : Column). is_number d.kind && is_number c.kind) o false ≡ true → is_number c.kind ≡ true
    target None t = absurd (cc)
    target (Some d) t = and_second (is_number d.kind) (is_number c.kind) t
of_numbers columns c (Expr.Column k) row ok fit over = (refl, go (slice_get columns k) refl ok)
  where
    kinds : (a b : ColumnKind) → a ≡ c.kind → is_assignable b a ≡ true → fits_kind b (value_at row k) ≡ true → is_number a ≡ true
    kinds Integer b same t f = refl
    kinds Bigint b same t f = refl
    kinds (Varchar n) Integer same t f = absurd (cc)
    kinds (Varchar n) Bigint same t f = absurd (cc)
    kinds (Varchar n) (Varchar m) same t f =
        absurd (no_overflow c (value_at row k) (rw (← same) (text_fits n m (value_at row k) t f)) over)

    go : (o : Option Column) → slice_get columns k ≡ o → option_map_or (λ d. is_assignable d.kind c.kind) o false ≡ true → is_number c.kind ≡ true
    go None is t = absurd (cc)
    go (Some d) is t = kinds c.kind d.kind refl t (all_fit-at columns row k d fit is)

pub overflow_is_of_numbers : (columns : List Column) (a : Assignment) (row : List Value) → OverflowIsOfNumbers columns a row
overflow_is_of_numbers columns a row sound fit = go (slice_get columns a.column) sound
  where
    go : (o : Option Column) → option_map_or (λ (c : Column). is_sound_expr columns a.expr c.kind) o false ≡ true
        → option_map_or (λ column. fault_in column (evaluated row a.expr)) o None ≡ Some Fault.Overflow
        → (reads_column a.expr ≡ true) × (option_map_or (λ column. is_number column.kind) o false ≡ true)
    go None ok over = absurd (cc)
    go (Some c) ok over = of_numbers columns c a.expr row ok fit over
