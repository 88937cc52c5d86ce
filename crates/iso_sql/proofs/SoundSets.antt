-- Assignments without a fault are sound.
use Rattle.std.proofs.Common.{◌≡◌, ◌≤◌, ◌+◌, ℕ, Bool, true, false, cond, List, [], ◌∷◌, ◌++◌, length, length-append, map, Option, Some, None, refl, sym, ap, subst, ◌∙◌, inl, inr, arith}
use Rattle.std.proofs.lemmas.List.{map-append}
use Rattle.std.specs.Prelude.{◌&&◌, ◌||◌, ◌==◌, slice_get, is_some, ℤ}
use Rattle.std.specs.List.{list_all, list_any}
use Rattle.iso_types.specs.declared.head.Column.{Column}
use Rattle.iso_types.specs.declared.head.ColumnKind.{ColumnKind}
use Rattle.iso_grammar.specs.declared.fault.Cause.TheVariants.{Duplicate, Limit, TypeFault, Unknown}
use Rattle.iso_grammar.specs.declared.fault.Checked.{Checked}
use Rattle.iso_grammar.specs.declared.fault.Fault.{Fault}
use Rattle.iso_grammar.specs.declared.token.Token.{Token}
use Rattle.iso_grammar.specs.Faults.{at, unless}
use Rattle.iso_grammar.proofs.Choices.{decide}
use Rattle.iso_sql.specs.declared.assignment.Right.{Right}
use Rattle.iso_sql.specs.declared.assignment.Right.TheVariants as side
use Rattle.iso_sql.specs.declared.assignment.Target.{Target}
use Rattle.iso_sql.specs.declared.statement.Assignment.{Assignment}
use Rattle.iso_sql.specs.Names.{Names, column_in, column_of, column_place, place_in}
use Rattle.iso_sql.specs.Rows.{stores}
use Rattle.iso_sql.specs.Sound.{are_apart, are_sound_sets, is_assignable, is_number, is_sound_assignment, is_sound_expr, of_kind}
use Rattle.iso_sql.specs.Actions.{added, assigned, assignment_of, column_right, go_on, is_set, right_of, sum_right, summed, taken, target_fault}
use Rattle.iso_sql.proofs.SoundFacts.{and_made, no_some, at_none, least_none, unless_none, column_there, column_is, kind_made}
use Rattle.iso_sql.proofs.SoundRows.{all-more, apart-more, is_there, stored-fits}

-- a column that was found stands in its place
column_found : (names : Names) (t : Token) (d : Column) → column_of names t ≡ Some d → (p : ℕ) × (column_place names t ≡ Some p) × (slice_get names.columns p ≡ Some d)
unfolding column_of
column_found names t d e = elim (is_there (column_place names t)) [
  | inl n ↦ no_some d (sym e ∙ ap (column_in names) n)
  | inr w ↦ (w.0, w.1, sym (ap (column_in names) w.1) ∙ e)
]

-- where the source is there, it holds of its kind
source_kind : (names : Names) (t : Token) (s : Column) (p : ColumnKind → Bool) → column_of names t ≡ Some s → p s.kind ≡ true → of_kind names.columns (place_in (column_place names t)) p ≡ true
source_kind names t s p e q =
    let w = column_found names t s e in
    ap (λ (o : Option ℕ). of_kind names.columns (place_in o) p) w.1 ∙ kind_made names.columns w.0 s p w.2 q

sum-sound : (names : Names) (d : Column) (t n : Token) (z : Option ℤ) → (summed names (Some d) t n z).fault ≡ None → is_sound_expr names.columns (summed names (Some d) t n z).value d.kind ≡ true
sum-sound names d t n z f = elim (is_there (column_of names t)) [
  | inl w ↦ at_none t Unknown (sym (ap (λ (o : Option Column). sum_right (Some d) o t n z) w) ∙ f)
  | inr w ↦
      let g : sum_right (Some d) (Some w.0) t n z ≡ None = sym (ap (λ (o : Option Column). sum_right (Some d) o t n z) w.1) ∙ f in
      elim (decide (is_number w.0.kind && is_number d.kind)) [
        | inl b ↦ source_kind names t w.0 (λ j. is_number j && is_number d.kind) w.1 b
        | inr b ↦ at_none t TypeFault (sym (ap (λ v. cond v (unless (is_some z) n Limit) (at t TypeFault)) b) ∙ g)
      ]
]

right-sound : (names : Names) (d : Column) (r : Right) → (right_of names (Some d) r).fault ≡ None → is_sound_expr names.columns (right_of names (Some d) r).value d.kind ≡ true
unfolding right_of
right-sound names d (side.Literal t) f = stored-fits names.line d t (unless_none (stores false names.line d t) t TypeFault f)
right-sound names d (side.Column t) f = elim (is_there (column_of names t)) [
  | inl w ↦ at_none t Unknown (sym (ap (λ (o : Option Column). column_right (Some d) o t) w) ∙ f)
  | inr w ↦
      let g : column_right (Some d) (Some w.0) t ≡ None = sym (ap (λ (o : Option Column). column_right (Some d) o t) w.1) ∙ f in
      source_kind names t w.0 (λ j. is_assignable j d.kind) w.1 (unless_none (is_assignable w.0.kind d.kind) t TypeFault g)
]
right-sound names d (side.Plus t n) f = sum-sound names d t n (added names.line n) f
right-sound names d (side.Minus t n) f = sum-sound names d t n (taken names.line n) f

abbrev column_in_place : Assignment → ℕ
column_in_place a = a.column

-- one assignment: it is sound, and its column is not set yet
one-sound : (names : Names) (made : List Assignment) (a : Target) → (assignment_of names made a).fault ≡ None
    → (is_sound_assignment names.columns (assignment_of names made a).value ≡ true) × (is_set made (assignment_of names made a).value.column ≡ false)
unfolding assignment_of
one-sound names made a f =
    let l = least_none (target_fault made a.column (column_place names a.column)) (right_of names (column_of names a.column) a.right).fault f in
    elim (is_there (column_place names a.column)) [
      | inl n ↦ at_none a.column Unknown (sym (ap (target_fault made a.column) n) ∙ l.0)
      | inr w ↦
          let d = column_there names a.column w.0 w.1 in
          let is : column_of names a.column ≡ Some d.0 = column_is names a.column w.0 w.1 ∙ d.1 in
          let r : (right_of names (Some d.0) a.right).fault ≡ None = sym (ap (λ (o : Option Column). (right_of names o a.right).fault) is) ∙ l.1 in
          let sound : is_sound_expr names.columns (right_of names (column_of names a.column) a.right).value d.0.kind ≡ true =
          ap (λ (o : Option Column). is_sound_expr names.columns (right_of names o a.right).value d.0.kind) is ∙ right-sound names d.0 a.right r in (
            source_kind names a.column d.0 (is_sound_expr names.columns (right_of names (column_of names a.column) a.right).value) is sound,
            elim (decide (is_set made w.0)) [
              | inl h ↦ at_none a.column Duplicate (sym (ap (λ v. cond v (at a.column Duplicate) None) h) ∙ sym (ap (target_fault made a.column) w.1) ∙ l.0)
              | inr h ↦ ap (λ (o : Option ℕ). is_set made (place_in o)) w.1 ∙ h
            ],
          )
    ]

set-map : (made : List Assignment) (p : ℕ) → list_any (λ q. q == p) (map column_in_place made) ≡ is_set made p
set-map [] p = refl
set-map (a ∷ made) p = ap (λ z. (a.column == p) || z) (set-map made p)

abbrev Setting : Names → ℕ → List Assignment → Type 0
Setting names n made = (list_all (is_sound_assignment names.columns) made ≡ true) × (are_apart (map column_in_place made) ≡ true) × (n ≤ length made)

assigned-sound : (names : Names) (targets : List Target) (made : List Assignment) → list_all (is_sound_assignment names.columns) made ≡ true → are_apart (map column_in_place made) ≡ true → (assigned names made targets).fault ≡ None
    → Setting names (length made + length targets) (assigned names made targets).value
assigned-sound names [] made a b f = (a, b, omega arith)
assigned-sound names (t ∷ ts) made a b f =
    let x = assignment_of names made t in
    let more = assigned names (made ++ x.value ∷ []) ts in
    elim (is_there x.fault) [
      | inr w ↦ no_some w.0 (sym (ap (λ (o : Option Fault). (go_on made o more).fault) w.1) ∙ f)
      | inl n ↦
          let one = one-sound names made t n in
          let is : assigned names made (t ∷ ts) ≡ more = ap (λ (o : Option Fault). go_on made o more) n in
          let rest = assigned-sound names ts (made ++ x.value ∷ []) (all-more (is_sound_assignment names.columns) made x.value a one.0)
          (ap are_apart (map-append column_in_place made (x.value ∷ [])) ∙ apart-more (map column_in_place made) x.value.column b (set-map made x.value.column ∙ one.1))
          (ap (λ (z : Checked (List Assignment)). z.fault) (sym is) ∙ f) in
          subst (λ (z : Checked (List Assignment)). Setting names (length made + length (t ∷ ts)) z.value) (sym is) (rest.0, rest.1, omega (arith, rest.2, length-append made (x.value ∷ [])))
    ]

pub sets-sound : (names : Names) (t : Target) (ts : List Target) → (assigned names [] (t ∷ ts)).fault ≡ None → are_sound_sets names.columns (assigned names [] (t ∷ ts)).value ≡ true
sets-sound names t ts f = go (assigned names [] (t ∷ ts)).value (assigned-sound names (t ∷ ts) [] refl refl f)
  where
    go : (made : List Assignment) → Setting names (0 + length (t ∷ ts)) made → are_sound_sets names.columns made ≡ true
    go [] s = absurd (omega (arith, s.2))
    go (a ∷ made) s = and_made _ _ s.0 s.1
