-- The steps of a walk over assignments.
use Rattle.std.proofs.Common.{◌≡◌, ℕ, zero, suc, ◌+◌, ◌<◌, ◌≤◌, Bool, true, false, List, [], ◌∷◌, length, drop, refl, ap, arith, add-one, ◌∙◌, sym}
use Rattle.std.proofs.Math.Seq.{drop-cons}
use Rattle.std.proofs.lemmas.Bool.{lt-ltb}
use Rattle.std.proofs.lemmas.List.Folds.{list_all_at}
use Rattle.std.proofs.lemmas.List.{drop_all}
use Rattle.std.proofs.lemmas.Option.{slice_get_within}
use Rattle.std.specs.List.{enumerate_from}
use Rattle.std.specs.Option.{option_map_or}
use Rattle.std.specs.Prelude.{◌==◌, ◌&&◌, map, Some, None, Err, Ok, Option, Result, nat_lt, slice_get, slice_index_or, slice_set}
use Rattle.iso_predicate.specs.Assigned.{Answers, Fault, are_sound, evaluated, fault_in, fault_of, new_value}
use Rattle.iso_predicate.specs.Walks.{GivesValue, names_within, set_all}
use Rattle.iso_sql.specs.Sound.{is_assignable, is_number, is_sound_assignment, is_sound_expr}
use Rattle.iso_sql.specs.declared.statement.Expr.{Expr}
use Rattle.iso_types.specs.declared.head.ColumnKind.{ColumnKind}
use Rattle.iso_predicate.specs.declared.assignments.AssignFault.{AssignFault}
use Rattle.iso_sql.specs.declared.statement.Assignment.{Assignment}
use Rattle.iso_types.specs.declared.head.Column.{Column}
use Rattle.iso_types.specs.declared.value.Value.{Value}

-- without assignments each value stays
pub none_left : (old row : List Value) (n : ℕ) → map (λ p. new_value old [] p.0 p.1) (enumerate_from n row) ≡ row
none_left old [] n = refl
none_left old (v ∷ vs) n = ap (λ ws. v ∷ ws) (none_left old vs (n + 1))

-- an assignment to a column before these changes none of them
before : (old : List Value) (a : Assignment) (rest : List Assignment) (row : List Value) (n : ℕ) → a.column < n
    → map (λ p. new_value old (a ∷ rest) p.0 p.1) (enumerate_from n row) ≡ map (λ p. new_value old rest p.0 p.1) (enumerate_from n row)
before old a rest [] n lt = refl
before old a rest (v ∷ vs) n lt =
    let other : (a.column == n) ≡ false = grind arith in
    let tail = before old a rest vs (n + 1) (omega arith) in
    rw (other, tail) refl

-- the first assignment writes its value
pub first_written : (old : List Value) (a : Assignment) (rest : List Assignment) (row : List Value) (n d : ℕ) → a.column ≡ n + d
    → map (λ p. new_value old (a ∷ rest) p.0 p.1) (enumerate_from n row)
    ≡ map (λ p. new_value old rest p.0 p.1) (enumerate_from n (slice_set row d (evaluated old a.expr)))
first_written old a rest [] n d e = refl
first_written old a rest (v ∷ vs) n zero e =
    let here : (a.column == n) ≡ true = grind arith in
    let tail = before old a rest vs (n + 1) (omega arith) in
    rw (here, tail) refl
first_written old a rest (v ∷ vs) n (suc d) e =
    let other : (a.column == n) ≡ false = grind arith in
    let tail = first_written old a rest vs (n + 1) d (omega arith) in
    rw (other, tail) refl

-- each of sound assignments is sound
pub sound_at : (columns : List Column) (sets : List Assignment) (i : ℕ) (a : Assignment)
    → are_sound columns sets ≡ true → i < length sets → a ≡ slice_index_or sets i a → is_sound_assignment columns a ≡ true
sound_at columns sets i a sound lt is = go (is_sound_assignment columns a) refl
  where
    go : (b : Bool) → is_sound_assignment columns a ≡ b → b ≡ true
    go true e = refl
    go false e =
        let at : is_sound_assignment columns (slice_index_or sets i a) ≡ false = rw (← is) e in
        let all = list_all_at (is_sound_assignment columns) sets i a lt at in
        absurd (cc)

-- the column that a sound assignment sets is there
pub sound_column : (columns : List Column) (a : Assignment) → is_sound_assignment columns a ≡ true → a.column < length columns
sound_column columns a sound = go (slice_get columns a.column) refl sound
  where
    go : (o : Option Column) → slice_get columns a.column ≡ o
        → option_map_or (λ (c : Column). is_sound_expr columns a.expr c.kind) o false ≡ true → a.column < length columns
    go None e q = absurd (cc)
    go (Some d) e q = slice_get_within columns a.column d e

-- a column that is looked up with success is there
there : (columns : List Column) (k : ℕ) (f : Column → Bool) → option_map_or f (slice_get columns k) false ≡ true → nat_lt k (length columns) ≡ true
there columns k f q = go (slice_get columns k) refl q
  where
    go : (o : Option Column) → slice_get columns k ≡ o → option_map_or f o false ≡ true → nat_lt k (length columns) ≡ true
    go None e r = absurd (cc)
    go (Some d) e r = lt-ltb k (length columns) (slice_get_within columns k d e)

names_of : (columns : List Column) (kind : ColumnKind) (e : Expr) → is_sound_expr columns e kind ≡ true → names_within (length columns) e ≡ true
names_of columns kind (Expr.Literal v) q = refl
names_of columns kind (Expr.Column k) q = there columns k (λ d. is_assignable d.kind kind) q
names_of columns kind (Expr.Sum k n) q = there columns k (λ d. is_number d.kind && is_number kind) q

-- the column that a sound assignment reads is there
pub sound_names : (columns : List Column) (a : Assignment) (width : ℕ)
    → is_sound_assignment columns a ≡ true → length columns ≡ width → names_within width a.expr ≡ true
sound_names columns a width sound is = rw (← is) (go (slice_get columns a.column) sound)
  where
    go : (o : Option Column) → option_map_or (λ (c : Column). is_sound_expr columns a.expr c.kind) o false ≡ true
        → names_within (length columns) a.expr ≡ true
    go None q = absurd (cc)
    go (Some d) q = names_of columns d.kind a.expr q

-- what is left of assignments, the first of them apart
split : (sets : List Assignment) (i : ℕ) (a : Assignment) → i < length sets → a ≡ slice_index_or sets i a → drop i sets ≡ a ∷ drop (i + 1) sets
split sets i a lt is =
    let e = drop-cons sets i a lt in
    let same : slice_index_or sets i a ≡ a = sym is in
    rw (add-one) (e ∙ rw same refl)

-- the fault of an assignment to a column that is there
fault_there : (columns : List Column) (row : List Value) (a : Assignment) (column : Column)
    → slice_get columns a.column ≡ Some column → fault_of columns row a ≡ fault_in column (evaluated row a.expr)
fault_there columns row a column is = rw is refl

-- an assignment without a fault leaves the rest for the row with its value
pub set_all_step : (columns : List Column) (sets : List Assignment) (old values : List Value) (i : ℕ) (a : Assignment) (column : Column) (v : Value)
    → i < length sets → a ≡ slice_index_or sets i a → slice_get columns a.column ≡ Some column
    → fault_in column (evaluated old a.expr) ≡ None → v ≡ evaluated old a.expr
    → set_all columns (drop (i + 1) sets) old (slice_set values a.column v) ≡ set_all columns (drop i sets) old values
set_all_step columns sets old values i a column v lt is there none value =
    let parts = split sets i a lt is in
    let fault = fault_there columns old a column there in
    let written = first_written old a (drop (i + 1) sets) values 0 a.column (omega arith) in
    rw (parts, fault, none, written, value) refl

-- the first assignment with a fault gives it
pub set_all_fault : (columns : List Column) (sets : List Assignment) (old row : List Value) (i : ℕ) (a : Assignment) (column : Column) (fault : Fault)
    → i < length sets → a ≡ slice_index_or sets i a → slice_get columns a.column ≡ Some column
    → fault_in column (evaluated old a.expr) ≡ Some fault → set_all columns (drop i sets) old row ≡ Err fault
set_all_fault columns sets old row i a column fault lt is there some =
    let parts = split sets i a lt is in
    let same = fault_there columns old a column there in
    rw (parts, same, some) refl

-- no assignment is left
pub set_all_done : (columns : List Column) (sets : List Assignment) (old values : List Value) (i : ℕ) → length sets ≤ i
    → set_all columns (drop i sets) old values ≡ Ok values
set_all_done columns sets old values i le =
    let none : drop i sets ≡ [] = drop_all i sets le in
    rw (none, none_left old values 0) refl

-- an assignment that answers with a fault is the first with one
pub set_all_answers : (columns : List Column) (sets : List Assignment) (old row : List Value) (i : ℕ) (a : Assignment) (column : Column)
    (fault : AssignFault) (told : Result (List Value) Fault)
    → i < length sets → a ≡ slice_index_or sets i a → slice_get columns a.column ≡ Some column
    → GivesValue (fault_in column (evaluated old a.expr)) (evaluated old a.expr) (Err fault)
    → set_all columns (drop i sets) old row ≡ told → Answers told (Err fault)
set_all_answers columns sets old row i a column AssignFault.Overflow told lt is there gives rest =
    sym rest ∙ set_all_fault columns sets old row i a column Fault.Overflow lt is there gives
set_all_answers columns sets old row i a column AssignFault.NullFault told lt is there gives rest =
    sym rest ∙ set_all_fault columns sets old row i a column Fault.NullFault lt is there gives
set_all_answers columns sets old row i a column AssignFault.Memory told lt is there gives rest = tt
