-- Lists of columns and rows without a fault are sound.
use Rattle.std.proofs.Common.{◌≡◌, ◌≤◌, ◌+◌, ℕ, suc, Bool, true, false, cond, List, [], ◌∷◌, ◌++◌, length, length-append, map, Option, Some, None, refl, sym, ap, subst, ◌∙◌, ◌⊎◌, inl, inr, arith}
use Rattle.std.specs.Prelude.{◌&&◌, ◌||◌, ◌==◌, if◌then◌else◌, not, slice_get, nat_lt}
use Rattle.std.specs.List.{list_all, list_any, range_with_len}
use Rattle.std.specs.Option.{option_map_or}
use Rattle.std.proofs.lemmas.Option.{slice_get_cases, slice_get_within}
use Rattle.std.proofs.lemmas.Bool.{lt-ltb, ltb-true, eqb-true}
use Rattle.std.proofs.lemmas.List.Folds.{list_all-append, list_any-append}
use Rattle.iso_types.specs.Head.{fits_kind}
use Rattle.iso_types.specs.declared.head.Column.{Column}
use Rattle.iso_types.specs.declared.head.ColumnKind.{ColumnKind}
use Rattle.iso_types.specs.declared.head.ColumnKind.TheVariants.{Bigint, Integer, Varchar}
use Rattle.iso_types.specs.declared.value.Value.{Value}
use Rattle.iso_types.specs.declared.value.Value.TheVariants as value
use Rattle.iso_grammar.specs.declared.fault.Cause.TheVariants.{Duplicate, TypeFault, Unknown}
use Rattle.iso_grammar.specs.declared.fault.Checked.{Checked}
use Rattle.iso_grammar.specs.declared.token.Token.{Token}
use Rattle.iso_grammar.specs.Faults.{at, checked}
use Rattle.iso_grammar.specs.Values.{value_of}
use Rattle.iso_grammar.proofs.Choices.{decide}
use Rattle.iso_sql.specs.declared.list.Chosen.{Chosen}
use Rattle.iso_sql.specs.declared.list.Chosen.TheVariants as chosen
use Rattle.iso_sql.specs.declared.statement.Items2.TheVariants as i
use Rattle.iso_sql.specs.Names.{Names, column_place}
use Rattle.iso_sql.specs.Rows.{fits, or_null, placed_value, stored_fault, stored_row, stored_value, stores}
use Rattle.iso_sql.specs.Sound.{are_apart, are_sound_items, are_stored}
use Rattle.iso_sql.specs.Actions.{and_column, columns_at, has_place, items_of, listed, row_of}
use Rattle.iso_sql.specs.Statements as gs
use Rattle.iso_sql.proofs.SoundFacts.{and_made, some_same, no_way, at_none, least_none, there, column_there}

pub and_parts : (a b : Bool) → (a && b) ≡ true → (a ≡ true) × (b ≡ true)
and_parts true b e = (refl, e)
and_parts false b e = no_way e

pub or_parts : (a b : Bool) → (a || b) ≡ false → (a ≡ false) × (b ≡ false)
or_parts true b e = no_way (sym e)
or_parts false b e = (refl, e)

pub not_parts : (a : Bool) → not a ≡ true → a ≡ false
not_parts true e = no_way e
not_parts false e = refl

pub neither : (a b : Bool) → a ≡ false → b ≡ false → not (a || b) ≡ true
neither a b e f = rw (e, f) refl

pub is_there : {A : Type 0} (o : Option A) → (o ≡ None) ⊎ ((x : A) × (o ≡ Some x))
is_there None = inl refl
is_there (Some x) = inr (x, refl)

-- ---- places

pub apart-more : (ks : List ℕ) (p : ℕ) → are_apart ks ≡ true → list_any (λ q. q == p) ks ≡ false → are_apart (ks ++ p ∷ []) ≡ true
apart-more [] p a h = refl
apart-more (k ∷ ks) p a h =
    let a' = and_parts _ _ a in
    let h' = or_parts _ _ h in
    and_made _ _
    (ap not (list_any-append (λ j. k == j) ks (p ∷ [])) ∙ neither (list_any (λ j. k == j) ks) (list_any (λ j. k == j) (p ∷ [])) (not_parts _ a'.0) (ap (λ z. z || false) h'.0))
    (apart-more ks p a'.1 h'.1)

pub all-more : {A : Type 0} (q : A → Bool) (ks : List A) (p : A) → list_all q ks ≡ true → q p ≡ true → list_all q (ks ++ p ∷ []) ≡ true
all-more q ks p a b = list_all-append q ks (p ∷ []) ∙ and_made _ _ a (and_made _ _ b refl)

abbrev are_there : List Column → List ℕ → Bool
are_there columns places = list_all (λ p. nat_lt p (length columns)) places

-- the places are there and apart, and at least so many
abbrev Listing : Names → ℕ → List ℕ → Type 0
Listing names n places = (are_there names.columns places ≡ true) × (are_apart places ≡ true) × (n ≤ length places)

abbrev next : Names → List ℕ → Token → List Token → Option ℕ → Checked (List ℕ)
next names places t ts o = option_map_or (λ p. if has_place places p then checked places (at t Duplicate) else listed names (places ++ p ∷ []) ts) o (checked places (at t Unknown))

pub listed-sound : (names : Names) (ts : List Token) (places : List ℕ) → are_there names.columns places ≡ true → are_apart places ≡ true → (listed names places ts).fault ≡ None
    → Listing names (length places + length ts) (listed names places ts).value
listed-sound names [] places a b e = (a, b, omega arith)
listed-sound names (t ∷ ts) places a b e = elim (is_there (column_place names t)) [
  | inl n ↦ at_none t Unknown (sym (ap (λ o. (next names places t ts o).fault) n) ∙ e)
  | inr w ↦ elim (decide (has_place places w.0)) [
    | inl h ↦ at_none t Duplicate (sym (ap (λ v. (cond v (checked places (at t Duplicate)) (listed names (places ++ w.0 ∷ []) ts)).fault) h) ∙ sym (ap (λ o. (next names places t ts o).fault) w.1) ∙ e)
    | inr h ↦
        let is : listed names places (t ∷ ts) ≡ listed names (places ++ w.0 ∷ []) ts = ap (next names places t ts) w.1 ∙ ap (λ v. cond v (checked places (at t Duplicate)) (listed names (places ++ w.0 ∷ []) ts)) h in
        let d = column_there names t w.0 w.1 in
        let rest = listed-sound names ts (places ++ w.0 ∷ []) (all-more (λ p. nat_lt p (length names.columns)) places w.0 a (lt-ltb w.0 (length names.columns) (slice_get_within names.columns w.0 d.0 d.1))) (apart-more places w.0 b h) (ap (λ (z : Checked (List ℕ)). z.fault) (sym is) ∙ e) in
        subst (λ (z : Checked (List ℕ)). Listing names (length places + length (t ∷ ts)) z.value) (sym is) (rest.0, rest.1, omega (arith, rest.2, length-append places (w.0 ∷ [])))
  ]
]

pub columns-sound : (names : Names) (t : Token) (ts : List Token) → (listed names [] (t ∷ ts)).fault ≡ None → are_sound_items names.columns (i.Columns (listed names [] (t ∷ ts)).value) ≡ true
columns-sound names t ts e = go (listed names [] (t ∷ ts)).value (listed-sound names (t ∷ ts) [] refl refl e)
  where
    go : (places : List ℕ) → Listing names (0 + length (t ∷ ts)) places → are_sound_items names.columns (i.Columns places) ≡ true
    go [] l = absurd (omega (arith, l.2))
    go (k ∷ ks) l = and_made _ _ l.0 l.1

pub items-sound : (names : Names) (ts : List Token) (x : Chosen) → gs.items ts x → (items_of names x).fault ≡ None → are_sound_items names.columns (items_of names x).value ≡ true
items-sound names ts x (inl l) e = subst (λ (z : Chosen). are_sound_items names.columns (items_of names z).value ≡ true) (sym l.5.1) refl
items-sound names ts x (inr (inl l)) e = subst (λ (z : Chosen). are_sound_items names.columns (items_of names z).value ≡ true) (sym l.5.5.5.5.1) refl
items-sound names ts x (inr (inr l)) e =
    let m = l.4 in
    let is : x ≡ chosen.Columns (m.0 ∷ m.5.0) = l.5.1 ∙ ap chosen.Columns m.5.5.1 in
    subst (λ (z : Chosen). are_sound_items names.columns (items_of names z).value ≡ true) (sym is) (columns-sound names m.0 m.5.0 (ap (λ (z : Chosen). (items_of names z).fault) (sym is) ∙ e))

-- ---- rows

null-fits : (kind : ColumnKind) → fits_kind kind value.Null ≡ true
null-fits Integer = refl
null-fits Bigint = refl
null-fits (Varchar n) = refl

pub stored-fits : (line : List ℕ) (d : Column) (t : Token) → stores false line d t ≡ true → fits_kind d.kind (stored_value line t) ≡ true
unfolding stores stored_value
stored-fits line d t e =
    let w = there (fits false d) (value_of line t) e in
    ap (λ (o : Option Value). fits_kind d.kind (or_null o)) w.1 ∙ w.2

all-stored : (line : List ℕ) (cs : List Column) (ts : List Token) (close : Token) → stored_fault false line cs ts close ≡ None → are_stored cs (stored_row line ts) ≡ true
all-stored line [] [] close e = refl
all-stored line [] (t ∷ ts) close e = at_none t TypeFault e
all-stored line (d ∷ cs) [] close e = at_none close TypeFault e
all-stored line (d ∷ cs) (t ∷ ts) close e = elim (decide (stores false line d t)) [
  | inl s ↦ and_made _ _ (stored-fits line d t s) (all-stored line cs ts close (sym (ap (λ v. cond v (stored_fault false line cs ts close) (at t TypeFault)) s) ∙ e))
  | inr s ↦ at_none t TypeFault (sym (ap (λ v. cond v (stored_fault false line cs ts close) (at t TypeFault)) s) ∙ e)
]

placed-fits : (names : Names) (places : List ℕ) (ts : List Token) (close : Token) (j : ℕ) (d : Column) → slice_get names.columns j ≡ Some d → are_there names.columns places ≡ true
    → stored_fault false names.line (columns_at names places) ts close ≡ None → fits_kind d.kind (placed_value names.line places ts j) ≡ true
placed-fits names [] ts close j d jd a e = null-fits d.kind
placed-fits names (p ∷ ps) [] close j d jd a e = null-fits d.kind
placed-fits names (p ∷ ps) (t ∷ ts) close j d jd a e =
    let a' = and_parts _ _ a in
    let w = here p a'.0 in
    let f : stored_fault false names.line (w.0 ∷ columns_at names ps) (t ∷ ts) close ≡ None = ap (λ (o : Option Column). stored_fault false names.line (and_column o (columns_at names ps)) (t ∷ ts) close) (sym w.1) ∙ e in
    elim (decide (stores false names.line w.0 t)) [
      | inr s ↦ at_none t TypeFault (sym (ap (λ v. cond v (stored_fault false names.line (columns_at names ps) ts close) (at t TypeFault)) s) ∙ f)
      | inl s ↦ elim (decide (p == j)) [
        | inl q ↦
            let same : w.0 ≡ d = some_same w.0 d (sym w.1 ∙ ap (slice_get names.columns) (eqb-true p j q) ∙ jd) in
            ap (λ v. fits_kind d.kind (cond v (stored_value names.line t) (placed_value names.line ps ts j))) q ∙ subst (λ (z : Column). fits_kind z.kind (stored_value names.line t) ≡ true) same (stored-fits names.line w.0 t s)
        | inr q ↦
            ap (λ v. fits_kind d.kind (cond v (stored_value names.line t) (placed_value names.line ps ts j))) q
            ∙ placed-fits names ps ts close j d jd a'.1 (sym (ap (λ v. cond v (stored_fault false names.line (columns_at names ps) ts close) (at t TypeFault)) s) ∙ f)
      ]
    ]
  where
    here : (p : ℕ) → nat_lt p (length names.columns) ≡ true → (x : Column) × (slice_get names.columns p ≡ Some x)
    here p lt = elim (slice_get_cases names.columns p).1 [
      | inl w ↦ (w.0, w.2)
      | inr w ↦ absurd (omega (arith, w.0, ltb-true p (length names.columns) lt))
    ]

all-placed : (cs : List Column) (f : ℕ → Value) (a : ℕ) → ((n : ℕ) (d : Column) → slice_get cs n ≡ Some d → fits_kind d.kind (f (a + n)) ≡ true) → are_stored cs (map f (range_with_len a (length cs))) ≡ true
all-placed [] f a h = refl
all-placed (d ∷ cs) f a h =
    let here : a + 0 ≡ a = omega arith in
    and_made _ _ (subst (λ (n : ℕ). fits_kind d.kind (f n) ≡ true) here (h 0 d refl))
    (all-placed cs f (a + 1) (λ n e is. let more : a + suc n ≡ (a + 1) + n = omega arith in subst (λ (m : ℕ). fits_kind e.kind (f m) ≡ true) more (h (suc n) e is)))

pub row-sound : (names : Names) (columns : Option (List Token)) (ts : List Token) (close : Token) → (row_of names columns ts close).fault ≡ None → are_stored names.columns (row_of names columns ts close).value ≡ true
row-sound names None ts close e = all-stored names.line names.columns ts close e
row-sound names (Some columns) ts close e =
    let l = least_none (listed names [] columns).fault (stored_fault false names.line (columns_at names (listed names [] columns).value) ts close) e in
    let s = listed-sound names columns [] refl refl l.0 in
    all-placed names.columns (placed_value names.line (listed names [] columns).value ts) 0 (λ n d is. let same : n ≡ 0 + n = omega arith in
    subst (λ (m : ℕ). fits_kind d.kind (placed_value names.line (listed names [] columns).value ts m) ≡ true) same (placed-fits names (listed names [] columns).value ts close n d is s.0 l.1))
