-- Lists of lists, by two numbers.
use Rattle.std.proofs.Common.{◌≡◌, ◌≢◌, ◌<◌, ◌≤◌, ◌+◌, ◌⊎◌, inl, inr, ℕ, zero, suc, List, [], ◌∷◌, ◌++◌, length, map, refl, ap, sym, ◌∙◌, arith, length-append, subst, get_or, set, get_or-set_same, get_or-set_other}
use Rattle.std.proofs.Math.ListN.{get_or-append, length-set}
use Rattle.std.proofs.Math.Seq.{get_or-append_seam}
use Rattle.std.proofs.lemmas.List.{get_or_past, length-map}

-- the cell in row t at place r
abbrev pub cell : {A : Type 0} → A → List (List A) → ℕ → ℕ → A
cell d g t r = get_or (get_or g t []) r d

-- two places are the same, or differ in one of the numbers
pub place : (u q t r : ℕ) → ((u ≡ t) × (q ≡ r)) ⊎ ((u ≢ t) ⊎ ((u ≡ t) × (q ≢ r)))
place u q t r = grind arith

module _ {A : Type 0} (d : A) where
  pub cell-set_same : (g : List (List A)) (t r : ℕ) (x : A) → t < length g → r < length (get_or g t [])
      → cell d (set g t (set (get_or g t []) r x)) t r ≡ x
  cell-set_same g t r x lt lr = ap (λ (l : List A). get_or l r d) (get_or-set_same g t _ [] lt) ∙ get_or-set_same (get_or g t []) r x d lr

  -- another row
  pub cell-set_row : (g : List (List A)) (t : ℕ) (l : List A) (u q : ℕ) → u ≢ t → cell d (set g t l) u q ≡ cell d g u q
  cell-set_row g t l u q ne = ap (λ (l : List A). get_or l q d) (get_or-set_other g t u l [] ne)

  -- the row itself, where a change of the row shows nothing at this place
  row-set : (g : List (List A)) (t : ℕ) (l : List A) (q : ℕ) → get_or l q d ≡ get_or (get_or g t []) q d
      → cell d (set g t l) t q ≡ cell d g t q
  row-set g t l q e = go (cases t (length g))
    where
      cases : (a b : ℕ) → (a < b) ⊎ (b ≤ a)
      cases a b = grind arith

      go : (t < length g) ⊎ (length g ≤ t) → cell d (set g t l) t q ≡ cell d g t q
      go (inl lt) = ap (λ (l : List A). get_or l q d) (get_or-set_same g t l [] lt) ∙ e
      go (inr le) = ap (λ (l : List A). get_or l q d) (get_or_past (set g t l) t [] (simp length-set le) ∙ sym (get_or_past g t [] le))

  pub cell-set_other : (g : List (List A)) (t r : ℕ) (x : A) (u q : ℕ) → (u ≢ t) ⊎ ((u ≡ t) × (q ≢ r))
      → cell d (set g t (set (get_or g t []) r x)) u q ≡ cell d g u q
  cell-set_other g t r x u q (inl ne) = cell-set_row g t _ u q ne
  cell-set_other g t r x u q (inr (e, ne)) =
      subst (λ (z : ℕ). cell d (set g t (set (get_or g t []) r x)) z q ≡ cell d g z q) (sym e)
      (row-set g t _ q (get_or-set_other (get_or g t []) r q x d ne))

  pub cell-add_same : (g : List (List A)) (t : ℕ) (x : A) → t < length g
      → cell d (set g t (get_or g t [] ++ x ∷ [])) t (length (get_or g t [])) ≡ x
  cell-add_same g t x lt =
      ap (λ (l : List A). get_or l (length (get_or g t [])) d) (get_or-set_same g t _ [] lt) ∙ get_or-append_seam (get_or g t []) x [] d

  pub cell-add_other : (g : List (List A)) (t : ℕ) (x : A) (u q : ℕ) → (u ≢ t) ⊎ ((u ≡ t) × (q ≢ length (get_or g t [])))
      → cell d (set g t (get_or g t [] ++ x ∷ [])) u q ≡ cell d g u q
  cell-add_other g t x u q (inl ne) = cell-set_row g t _ u q ne
  cell-add_other g t x u q (inr (e, ne)) =
      subst (λ (z : ℕ). cell d (set g t (get_or g t [] ++ x ∷ [])) z q ≡ cell d g z q) (sym e)
      (row-set g t _ q (go (cases q (length (get_or g t [])) ne)))
    where
      cases : (a b : ℕ) → a ≢ b → (a < b) ⊎ (b + 1 ≤ a)
      cases a b n = grind arith

      go : (q < length (get_or g t [])) ⊎ (length (get_or g t []) + 1 ≤ q) → get_or (get_or g t [] ++ x ∷ []) q d ≡ get_or (get_or g t []) q d
      go (inl lt) = get_or-append (get_or g t []) (x ∷ []) d q lt
      go (inr le) = get_or_past (get_or g t [] ++ x ∷ []) q d (simp length-append (omega arith)) ∙ sym (get_or_past (get_or g t []) q d (omega arith))

  -- a row of which each cell is changed
  pub row-map : (f : A → A) → f d ≡ d → (l : List A) (r : ℕ) → get_or (map f l) r d ≡ f (get_or l r d)
  row-map f e [] r = sym e
  row-map f e (x ∷ l) zero = refl
  row-map f e (x ∷ l) (suc r) = row-map f e l r

  pub cell-map : (f : A → A) → f d ≡ d → (g : List (List A)) (t r : ℕ) → cell d (map (λ l. map f l) g) t r ≡ f (cell d g t r)
  cell-map f e [] t r = sym e
  cell-map f e (l ∷ g) zero r = row-map f e l r
  cell-map f e (l ∷ g) (suc t) r = cell-map f e g t r

-- rows keep their lengths
pub row-length_set : {A : Type 0} (g : List (List A)) (t r : ℕ) (x : A) (u : ℕ)
    → length (get_or (set g t (set (get_or g t []) r x)) u []) ≡ length (get_or g u [])
row-length_set g t r x u = go (cases u t (length g))
  where
    cases : (u t n : ℕ) → (u ≢ t) ⊎ (((u ≡ t) × (t < n)) ⊎ ((u ≡ t) × (n ≤ t)))
    cases u t n = grind arith

    go : (u ≢ t) ⊎ (((u ≡ t) × (t < length g)) ⊎ ((u ≡ t) × (length g ≤ t))) → length (get_or (set g t (set (get_or g t []) r x)) u []) ≡ length (get_or g u [])
    go (inl ne) = ap length (get_or-set_other g t u _ [] ne)
    go (inr (inl (e, lt))) = rw e (ap length (get_or-set_same g t _ [] lt) ∙ length-set (get_or g t []) r x)
    go (inr (inr (e, le))) = rw e (ap length (get_or_past (set g t (set (get_or g t []) r x)) t [] (simp length-set le) ∙ sym (get_or_past g t [] le)))

pub row-length_map : {A : Type 0} (f : A → A) (g : List (List A)) (u : ℕ) → length (get_or (map (λ l. map f l) g) u []) ≡ length (get_or g u [])
row-length_map f [] u = refl
row-length_map f (l ∷ g) zero = length-map l f
row-length_map f (l ∷ g) (suc u) = row-length_map f g u

-- one more in the same row of both
pub row-length_add : {A B : Type 0} (g : List (List A)) (h : List (List B)) (t : ℕ) (x : A) (y : B) → length g ≡ length h
    → ((u : ℕ) → length (get_or g u []) ≡ length (get_or h u [])) → (u : ℕ)
    → length (get_or (set g t (get_or g t [] ++ x ∷ [])) u []) ≡ length (get_or (set h t (get_or h t [] ++ y ∷ [])) u [])
row-length_add g h t x y same each u = go (cases u t (length g))
  where
    cases : (u t n : ℕ) → (u ≢ t) ⊎ (((u ≡ t) × (t < n)) ⊎ ((u ≡ t) × (n ≤ t)))
    cases u t n = grind arith

    more : length (get_or g t []) ≡ length (get_or h t []) → length (get_or g t [] ++ x ∷ []) ≡ length (get_or h t [] ++ y ∷ [])
    more e = simp length-append (omega (arith, e))

    go : (u ≢ t) ⊎ (((u ≡ t) × (t < length g)) ⊎ ((u ≡ t) × (length g ≤ t)))
        → length (get_or (set g t (get_or g t [] ++ x ∷ [])) u []) ≡ length (get_or (set h t (get_or h t [] ++ y ∷ [])) u [])
    go (inl ne) = ap length (get_or-set_other g t u _ [] ne) ∙ each u ∙ sym (ap length (get_or-set_other h t u _ [] ne))
    go (inr (inl (e, lt))) = rw e (ap length (get_or-set_same g t _ [] lt) ∙ more (each t)
        ∙ sym (ap length (get_or-set_same h t _ [] (omega (arith, lt, same)))))
    go (inr (inr (e, le))) = rw e (ap length (get_or_past (set g t (get_or g t [] ++ x ∷ [])) t [] (simp length-set le))
        ∙ sym (ap length (get_or_past (set h t (get_or h t [] ++ y ∷ [])) t [] (simp length-set (omega (arith, le, same))))))

-- a cell that is not empty is within
pub cell-within : {A : Type 0} (g : List (List (List A))) (t r : ℕ) (x : A) (l : List A) → cell [] g t r ≡ x ∷ l
    → (t < length g) × (r < length (get_or g t []))
cell-within g t r x l e = (first (cases t (length g)), second (cases r (length (get_or g t []))))
  where
    cases : (a b : ℕ) → (a < b) ⊎ (b ≤ a)
    cases a b = grind arith

    first : (t < length g) ⊎ (length g ≤ t) → t < length g
    first (inl lt) = lt
    first (inr le) = absurd (let k : [] ≡ x ∷ l = sym (ap (λ z. get_or z r []) (get_or_past g t [] le)) ∙ e in cc)

    second : (r < length (get_or g t [])) ⊎ (length (get_or g t []) ≤ r) → r < length (get_or g t [])
    second (inl lt) = lt
    second (inr le) = absurd (let k : [] ≡ x ∷ l = sym (get_or_past (get_or g t []) r [] le) ∙ e in cc)
