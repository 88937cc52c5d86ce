-- Each version's row fits its table, whatever entry comes.
use Rattle.std.proofs.Common.{◌≡◌, ◌≢◌, ◌<◌, ◌⊎◌, inl, inr, ℕ, suc, Bool, true, false, ◌&&◌, List, [], ◌∷◌, ◌++◌, length, refl, ap, sym, ◌∙◌, Some, None, Option, subst, get_or}
use Rattle.std.specs.Option.{option_map_or}
use Rattle.std.specs.Prelude.{◌==◌, slice_get, slice_set}
use Rattle.iso_history.specs.Fitted.{AllFit, Fits, RowsFit, WriteFits}
use Rattle.iso_history.specs.Versions.{Change, present, settled_by, tables_by, taken_off, versions}
use Rattle.iso_history.specs.Versions.Change.{Adds, Keeps, Settles, Takes, Writes}
use Rattle.iso_history.specs.World.{Version, World}
use Rattle.iso_types.specs.Head.{all_fit, fits_column, row_fits}
use Rattle.iso_types.specs.declared.head.Column.{Column}
use Rattle.iso_types.specs.declared.head.Head.{Head}
use Rattle.iso_types.specs.declared.head.TableDef.{TableDef}
use Rattle.iso_types.specs.declared.value.Rid.{Rid}
use Rattle.iso_types.specs.declared.value.TableId.{TableId}
use Rattle.iso_types.specs.declared.value.Value.{Value}
use Rattle.iso_history.proofs.log.Cells.{cell, cell-add_other, cell-add_same, cell-map, cell-set_other, cell-set_same, place}

-- rows of one table are equally wide
second-of : (a b : Bool) → (a && b) ≡ true → b ≡ true
second-of true b h = h
second-of false b h = absurd (cc)

columns-wide : (cs : List Column) (row : List Value) → all_fit cs row ≡ true → length row ≡ length cs
columns-wide [] [] h = refl
columns-wide [] (v ∷ vs) h = absurd (cc)
columns-wide (c ∷ cs) [] h = absurd (cc)
columns-wide (c ∷ cs) (v ∷ vs) h = ap suc (columns-wide cs vs (second-of (fits_column c v) (all_fit cs vs) h))

pub equally-wide : (head : Head) (t : TableId) (a b : List Value) → row_fits head t a ≡ true → row_fits head t b ≡ true → length a ≡ length b
equally-wide head t a b h k = go (slice_get head.tables t.0) h k
  where
    go : (o : Option TableDef) → option_map_or (λ d. all_fit d.columns a) o false ≡ true → option_map_or (λ d. all_fit d.columns b) o false ≡ true
        → length a ≡ length b
    go None h k = absurd (cc)
    go (Some d) h k = columns-wide d.columns a h ∙ sym (columns-wide d.columns b k)

-- what is present fits
pub present-fits : (head : Head) (t : TableId) (vs : List Version) (row : List Value) → AllFit head t vs → present vs ≡ Some row → row_fits head t row ≡ true
present-fits head t [] row h e = absurd (cc)
present-fits head t (v ∷ vs) row h e = subst (λ (o : Option (List Value)). Fits head t o) e h.0

taken-fit : (head : Head) (t : TableId) (n : ℕ) (vs : List Version) → AllFit head t vs → AllFit head t (taken_off n vs)
taken-fit head t n [] h = tt
taken-fit head t n (v ∷ vs) h = go (v.pending && (v.number == n)) refl (taken-fit head t n vs h.1)
  where
    go : (b : Bool) → (v.pending && (v.number == n)) ≡ b → AllFit head t (taken_off n vs) → AllFit head t (taken_off n (v ∷ vs))
    go true e ih = rw e ih
    go false e ih = rw e (h.0, ih)

settled-fit : (head : Head) (t : TableId) (u : ℕ) (vs : List Version) → AllFit head t vs → AllFit head t (settled_by u vs)
settled-fit head t u [] h = tt
settled-fit head t u (v ∷ vs) h = go (v.pending && (v.unit == u)) refl (settled-fit head t u vs h.1)
  where
    go : (b : Bool) → (v.pending && (v.unit == u)) ≡ b → AllFit head t (settled_by u vs) → AllFit head t (settled_by u (v ∷ vs))
    go true e ih = rw e (h.0, tt)
    go false e ih = rw e (h.0, ih)

add-fit : (head : Head) (tables : List (List (List Version))) (t : TableId) (vs : List Version) → t.0 < length tables → AllFit head t vs → RowsFit head tables
    → RowsFit head (slice_set tables t.0 (get_or tables t.0 [] ++ vs ∷ []))
add-fit head tables t vs lt this others u q = go (place u.0 q.0 t.0 (length (get_or tables t.0 [])))
  where
    table : ℕ → TableId
    table k = record { 0 = k }

    go : ((u.0 ≡ t.0) × (q.0 ≡ length (get_or tables t.0 []))) ⊎ ((u.0 ≢ t.0) ⊎ ((u.0 ≡ t.0) × (q.0 ≢ length (get_or tables t.0 []))))
        → AllFit head u (cell [] (slice_set tables t.0 (get_or tables t.0 [] ++ vs ∷ [])) u.0 q.0)
    go (inl (e, f)) =
        let same : t ≡ u = ap table (sym e) in
        subst (λ (z : TableId). AllFit head z (cell [] (slice_set tables t.0 (get_or tables t.0 [] ++ vs ∷ [])) u.0 q.0)) same
        (rw (e, f) (subst (AllFit head t) (sym (cell-add_same [] tables t.0 vs lt)) this))
    go (inr ne) = subst (AllFit head u) (sym (cell-add_other [] tables t.0 vs u.0 q.0 ne)) (others u q)

set-fit : (head : Head) (tables : List (List (List Version))) (t : TableId) (r : Rid) (vs : List Version) → t.0 < length tables
    → r.0 < length (get_or tables t.0 [])
    → AllFit head t vs → RowsFit head tables → RowsFit head (slice_set tables t.0 (slice_set (get_or tables t.0 []) r.0 vs))
set-fit head tables t r vs lt lr this others u q = go (place u.0 q.0 t.0 r.0)
  where
    table : ℕ → TableId
    table k = record { 0 = k }

    go : ((u.0 ≡ t.0) × (q.0 ≡ r.0)) ⊎ ((u.0 ≢ t.0) ⊎ ((u.0 ≡ t.0) × (q.0 ≢ r.0)))
        → AllFit head u (cell [] (slice_set tables t.0 (slice_set (get_or tables t.0 []) r.0 vs)) u.0 q.0)
    go (inl (e, f)) =
        let same : t ≡ u = ap table (sym e) in
        subst (λ (z : TableId). AllFit head z (cell [] (slice_set tables t.0 (slice_set (get_or tables t.0 []) r.0 vs)) u.0 q.0)) same
        (rw (e, f) (subst (AllFit head t) (sym (cell-set_same [] tables t.0 r.0 vs lt lr)) this))
    go (inr ne) = subst (AllFit head u) (sym (cell-set_other [] tables t.0 r.0 vs u.0 q.0 ne)) (others u q)

-- the place of what is written is there
abbrev pub PlaceThere : World → Change → Type 0
PlaceThere w (Adds t row) = t.0 < length w.tables
PlaceThere w (Writes t r row) = (t.0 < length w.tables) × (r.0 < length (get_or w.tables t.0 []))
PlaceThere w _ = Unit {0}

pub change-fit : (head : Head) (w : World) (u : ℕ) (ch : Change) → PlaceThere w ch → WriteFits head ch → RowsFit head w.tables → RowsFit head (tables_by w u ch)
change-fit head w u Keeps there fits s = s
change-fit head w u (Adds t row) there fits s = add-fit head w.tables t _ there (fits, tt) s
change-fit head w u (Writes t r row) there fits s = set-fit head w.tables t r _ there.0 there.1 (fits, s t r) s
change-fit head w u (Takes n) there fits s = λ t r. subst (AllFit head t) (sym (cell-map [] (taken_off n) refl w.tables t.0 r.0))
    (taken-fit head t n (versions w t r) (s t r))
change-fit head w u Settles there fits s = λ t r. subst (AllFit head t) (sym (cell-map [] (settled_by u) refl w.tables t.0 r.0))
    (settled-fit head t u (versions w t r) (s t r))
