-- The versions of a slot after a change of the tables.
use Rattle.std.proofs.Common.{◌≡◌, ◌≢◌, ◌<◌, ◌≤◌, ◌⊎◌, inl, inr, ℕ, zero, suc, List, [], ◌∷◌, ◌++◌, length, map, refl, ap, sym, ◌∙◌, arith, length-append, subst, get_or-set_same, get_or-set_other, slice_index_or, slice_set}
use Rattle.std.proofs.Math.ListN.{get_or-append}
use Rattle.std.proofs.Math.Seq.{get_or-append_seam}
use Rattle.std.proofs.lemmas.List.{get_or_past}
use Rattle.iso_history.specs.World.{Version}
use Rattle.iso_types.specs.declared.value.Rid.{Rid}
use Rattle.iso_types.specs.declared.value.TableId.{TableId}

-- the slots of a table, and the versions of a slot
abbrev pub slots_at : List (List (List Version)) → TableId → List (List Version)
slots_at tables t = slice_index_or tables t.0 []

abbrev pub versions_at : List (List (List Version)) → TableId → Rid → List Version
versions_at tables t r = slice_index_or (slots_at tables t) r.0 []

-- an item of a mapped list
pub mapped_at : {A B : Type 0} (f : A → B) (xs : List A) (k : ℕ) (d : A) (e : B) → f d ≡ e → slice_index_or (map f xs) k e ≡ f (slice_index_or xs k d)
mapped_at f [] k d e q = sym q
mapped_at f (x ∷ xs) zero d e q = refl
mapped_at f (x ∷ xs) (suc k) d e q = mapped_at f xs k d e q

-- each slot changed alike
pub versions-mapped : (f : List Version → List Version) → f [] ≡ [] → (tables : List (List (List Version))) (t : TableId) (r : Rid)
    → versions_at (map (λ slots. map f slots) tables) t r ≡ f (versions_at tables t r)
versions-mapped f e tables t r =
    ap (λ z. slice_index_or z r.0 []) (mapped_at (λ slots. map f slots) tables t.0 [] [] refl) ∙ mapped_at f (slots_at tables t) r.0 [] [] e

order : (a b : ℕ) → (a < b) ⊎ (b ≤ a)
order a b = grind arith

same : (a b : ℕ) → (a ≡ b) ⊎ (a ≢ b)
same a b = grind arith

-- a list that is set past its end stays
set-past : {A : Type 0} (xs : List A) (k : ℕ) (x : A) → length xs ≤ k → slice_set xs k x ≡ xs
set-past [] k x le = refl
set-past (y ∷ ys) zero x le = absurd (omega (arith, le))
set-past (y ∷ ys) (suc k) x le = let le2 : length ys ≤ k = omega (arith, le) in ap (λ z. y ∷ z) (set-past ys k x le2)

-- the slots of a table after those of one are set
pub slots-set_same : (tables : List (List (List Version))) (t : TableId) (slots : List (List Version)) → t.0 < length tables → slots_at
    (slice_set tables t.0 slots) t ≡ slots
slots-set_same tables t slots lt = get_or-set_same tables t.0 slots [] lt

pub slots-set_other : (tables : List (List (List Version))) (t u : TableId) (slots : List (List Version)) → u.0 ≢ t.0
    → slots_at (slice_set tables t.0 slots) u ≡ slots_at tables u
slots-set_other tables t u slots ne = get_or-set_other tables t.0 u.0 slots [] ne

-- of each slot: it stays, or it is the one that is set, and stands in its table
pub set-cases : (tables : List (List (List Version))) (t : TableId) (r : Rid) (vs : List Version) (u : TableId) (s : Rid)
    → (versions_at (slice_set tables t.0 (slice_set (slots_at tables t) r.0 vs)) u s ≡ versions_at tables u s)
    ⊎ ((u ≡ t) × (s ≡ r) × (versions_at (slice_set tables t.0 (slice_set (slots_at tables t) r.0 vs)) u s ≡ vs))
set-cases tables t r vs u s = at_table (same u.0 t.0)
  where
    table_is : u.0 ≡ t.0 → u ≡ t
    table_is e = ap (λ (n : ℕ). record { 0 = n }) e

    rid_is : s.0 ≡ r.0 → s ≡ r
    rid_is e = ap (λ (n : ℕ). record { 0 = n }) e

    new : List (List (List Version))
    new = slice_set tables t.0 (slice_set (slots_at tables t) r.0 vs)

    past : length tables ≤ t.0 → versions_at new u s ≡ versions_at tables u s
    past le = ap (λ z. versions_at z u s) (set-past tables t.0 (slice_set (slots_at tables t) r.0 vs) le)

    at_rid : u ≡ t → t.0 < length tables → (s.0 ≡ r.0) ⊎ (s.0 ≢ r.0)
        → (versions_at new u s ≡ versions_at tables u s) ⊎ ((u ≡ t) × (s ≡ r) × (versions_at new u s ≡ vs))
    at_rid e lt (inr ne) = inl (subst (λ (z : TableId). versions_at new z s ≡ versions_at tables z s) (sym e)
        (ap (λ z. slice_index_or z s.0 []) (slots-set_same tables t (slice_set (slots_at tables t) r.0 vs) lt) ∙ get_or-set_other (slots_at tables t) r.0
        s.0 vs [] ne))
    at_rid e lt (inl q) = in_slots (order r.0 (length (slots_at tables t)))
      where
        in_slots : (r.0 < length (slots_at tables t)) ⊎ (length (slots_at tables t) ≤ r.0)
            → (versions_at new u s ≡ versions_at tables u s) ⊎ ((u ≡ t) × (s ≡ r) × (versions_at new u s ≡ vs))
        in_slots (inl small) = inr (
          e,
          rid_is q,
          subst (λ (z : TableId). versions_at new z s ≡ vs) (sym e)
              (ap (λ z. slice_index_or z s.0 []) (slots-set_same tables t (slice_set (slots_at tables t) r.0 vs) lt)
              ∙ ap (λ z. slice_index_or (slice_set (slots_at tables t) r.0 vs) z []) q ∙ get_or-set_same (slots_at tables t) r.0 vs [] small),
        )
        in_slots (inr big) = inl (subst (λ (z : TableId). versions_at new z s ≡ versions_at tables z s) (sym e)
            (ap (λ z. slice_index_or z s.0 []) (slots-set_same tables t (slice_set (slots_at tables t) r.0 vs) lt ∙ set-past (slots_at tables t) r.0 vs big)))

    at_table : (u.0 ≡ t.0) ⊎ (u.0 ≢ t.0) → (versions_at new u s ≡ versions_at tables u s) ⊎ ((u ≡ t) × (s ≡ r) × (versions_at new u s ≡ vs))
    at_table (inr ne) = inl (ap (λ z. slice_index_or z s.0 []) (slots-set_other tables t u (slice_set (slots_at tables t) r.0 vs) ne))
    at_table (inl e) = elim (order t.0 (length tables)) [ inl lt ↦ at_rid (table_is e) lt (same s.0 r.0) | inr le ↦ inl (past le) ]

-- of each slot: it stays, or it is the new one
pub add-cases : (tables : List (List (List Version))) (t : TableId) (vs : List Version) (u : TableId) (s : Rid)
    → (versions_at (slice_set tables t.0 (slots_at tables t ++ vs ∷ [])) u s ≡ versions_at tables u s)
    ⊎ ((u ≡ t) × (s.0 ≡ length (slots_at tables t)) × (versions_at (slice_set tables t.0 (slots_at tables t ++ vs ∷ [])) u s ≡ vs))
add-cases tables t vs u s = at_table (same u.0 t.0)
  where
    table_is : u.0 ≡ t.0 → u ≡ t
    table_is e = ap (λ (n : ℕ). record { 0 = n }) e

    slots : List (List Version)
    slots = slots_at tables t

    new : List (List (List Version))
    new = slice_set tables t.0 (slots_at tables t ++ vs ∷ [])

    at_rid : u ≡ t → t.0 < length tables → (s.0 < length slots) ⊎ (length slots ≤ s.0) → (s.0 ≡ length slots) ⊎ (s.0 ≢ length slots)
        → (versions_at new u s ≡ versions_at tables u s) ⊎ ((u ≡ t) × (s.0 ≡ length slots) × (versions_at new u s ≡ vs))
    at_rid e lt a (inl q) = inr (
      e,
      q,
      subst (λ (z : TableId). versions_at new z s ≡ vs) (sym e)
          (ap (λ z. slice_index_or z s.0 []) (slots-set_same tables t (slots ++ vs ∷ []) lt)
          ∙ ap (λ z. slice_index_or (slots ++ vs ∷ []) z []) q ∙ get_or-append_seam slots vs [] []),
    )
    at_rid e lt (inl small) (inr ne) = inl (subst (λ (z : TableId). versions_at new z s ≡ versions_at tables z s) (sym e)
        (ap (λ z. slice_index_or z s.0 []) (slots-set_same tables t (slots ++ vs ∷ []) lt) ∙ get_or-append slots (vs ∷ []) [] s.0 small))
    at_rid e lt (inr big) (inr ne) =
        let past : length (slots ++ vs ∷ []) ≤ s.0 = simp length-append (omega (arith, big, ne)) in
        inl (subst (λ (z : TableId). versions_at new z s ≡ versions_at tables z s) (sym e)
        (ap (λ z. slice_index_or z s.0 []) (slots-set_same tables t (slots ++ vs ∷ []) lt) ∙ get_or_past (slots ++ vs ∷ []) s.0 [] past ∙
        sym (get_or_past slots s.0 [] big)))

    at_table : (u.0 ≡ t.0) ⊎ (u.0 ≢ t.0) → (versions_at new u s ≡ versions_at tables u s) ⊎ ((u ≡ t) × (s.0 ≡ length slots) × (versions_at new u s ≡ vs))
    at_table (inr ne) = inl (ap (λ z. slice_index_or z s.0 []) (slots-set_other tables t u (slots ++ vs ∷ []) ne))
    at_table (inl e) = elim (order t.0 (length tables)) [
      | inl lt ↦ at_rid (table_is e) lt (order s.0 (length slots)) (same s.0 (length slots))
      | inr le ↦ inl (ap (λ z. versions_at z u s) (set-past tables t.0 (slots ++ vs ∷ []) le))
    ]

-- of each table: its slots stay, or they are the ones that are set
pub table-cases : (tables : List (List (List Version))) (t : TableId) (slots : List (List Version)) (u : TableId)
    → (slots_at (slice_set tables t.0 slots) u ≡ slots_at tables u) ⊎ ((u ≡ t) × (slots_at (slice_set tables t.0 slots) u ≡ slots))
table-cases tables t slots u = go (same u.0 t.0)
  where
    go : (u.0 ≡ t.0) ⊎ (u.0 ≢ t.0) → (slots_at (slice_set tables t.0 slots) u ≡ slots_at tables u) ⊎
        ((u ≡ t) × (slots_at (slice_set tables t.0 slots) u ≡ slots))
    go (inr ne) = inl (slots-set_other tables t u slots ne)
    go (inl e) = elim (order t.0 (length tables)) [
      | inl lt ↦ inr (ap (λ (n : ℕ). record { 0 = n }) e, ap (λ z. slice_index_or (slice_set tables t.0 slots) z []) e ∙ slots-set_same tables t slots lt)
      | inr le ↦ inl (ap (λ z. slots_at z u) (set-past tables t.0 slots le))
    ]

-- the slot that is set, and the new one
pub set-there : (tables : List (List (List Version))) (t : TableId) (r : Rid) (vs : List Version) → t.0 < length tables → r.0 < length (slots_at tables t)
    → versions_at (slice_set tables t.0 (slice_set (slots_at tables t) r.0 vs)) t r ≡ vs
set-there tables t r vs lt small = ap (λ z. slice_index_or z r.0 []) (slots-set_same tables t (slice_set (slots_at tables t) r.0 vs) lt) ∙ get_or-set_same
    (slots_at tables t) r.0 vs [] small

pub add-there : (tables : List (List (List Version))) (t : TableId) (vs : List Version) → t.0 < length tables
    → versions_at (slice_set tables t.0 (slots_at tables t ++ vs ∷ [])) t (record { 0 = length (slots_at tables t) }) ≡ vs
add-there tables t vs lt = ap (λ z. slice_index_or z (length (slots_at tables t)) []) (slots-set_same tables t (slots_at tables t ++ vs ∷ []) lt) ∙
    get_or-append_seam (slots_at tables t) vs [] []

-- a slot with a version is there
pub versions-past : (tables : List (List (List Version))) (t : TableId) (r : Rid) → length (slots_at tables t) ≤ r.0 → versions_at tables t r ≡ []
versions-past tables t r le = get_or_past (slots_at tables t) r.0 [] le

pub slot-there : (tables : List (List (List Version))) (t : TableId) (r : Rid) → (versions_at tables t r ≡ [] → ⊥) → r.0 < length (slots_at tables t)
slot-there tables t r has = elim (order r.0 (length (slots_at tables t))) [ inl lt ↦ lt | inr le ↦ absurd (has (versions-past tables t r le)) ]

pub table-there : (tables : List (List (List Version))) (t : TableId) (k : ℕ) → k < length (slots_at tables t) → t.0 < length tables
table-there tables t k lt = elim (order t.0 (length tables)) [
  | inl small ↦ small
  | inr le ↦ let z : length (slots_at tables t) ≡ 0 = ap length (get_or_past tables t.0 [] le) in absurd (omega (arith, lt))
]
