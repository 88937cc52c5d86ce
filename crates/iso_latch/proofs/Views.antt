-- Lists of views: one view changes, or one comes.
use Rattle.std.proofs.Common.{◌≡◌, ◌≢◌, ℕ, zero, suc, ◌+◌, ◌<◌, List, [], ◌∷◌, ◌++◌, length, set, sym, refl, ap, ◌∙◌, subst, ⊎_elim, ◌⊎◌, inl, inr, arith}
use mathlib.Core.Option.{some, some-injective, some-ne-none}
use lib.ListN.{get_elem?}
use Rattle.atomic_table.proofs.Lists.{at_set}
use Rattle.iso_latch.specs.declared.view.View.{View}
use Rattle.iso_latch.specs.Rule.{weight, waiting, held}

module _ {A : Type 0} where
  pub stay : (Q : ℕ → A → Type 0) (l : List A) (id : ℕ) (w : A) → Q id w → ((j : ℕ) (v : A) → j ≢ id → get_elem? l j ≡ some v → Q j v)
      → (j : ℕ) (v : A) → get_elem? (set l id w) j ≡ some v → Q j v
  stay Q l id w mine others j v e = ⊎_elim (λ (t : (j ≡ id) × (w ≡ v)). subst (λ (x : ℕ × A). Q x.0 x.1) (λ i. (sym t.0 i, t.1 i)) mine)
      (λ (t : (j ≢ id) × (get_elem? l j ≡ some v)). others j v t.0 t.1) (at_set l id j w v e)

  pub pairs_stay : (R : A → A → Type 0) → ((v w : A) → R v w → R w v) → (l : List A) (id : ℕ) (w : A) → ((j : ℕ) (v : A) → j ≢ id → get_elem? l j ≡ some v → R w v)
      → ((i j : ℕ) (v u : A) → i ≢ j → get_elem? l i ≡ some v → get_elem? l j ≡ some u → R v u)
      → (i j : ℕ) (v u : A) → i ≢ j → get_elem? (set l id w) i ≡ some v → get_elem? (set l id w) j ≡ some u → R v u
  pairs_stay R turn l id w mine old i j v u ne ei ej = stay (λ (k : ℕ) (x : A). k ≢ i → R v x) l id w
      (λ apart. ⊎_elim (λ (t : (i ≡ id) × (w ≡ v)). absurd (apart (sym t.0))) (λ (t : (i ≢ id) × (get_elem? l i ≡ some v)). turn w v (mine i v t.0 t.1)) (at_set l id i w v ei))
      (λ k x other at apart. ⊎_elim (λ (t : (i ≡ id) × (w ≡ v)). subst (λ (z : A). R z x) t.1 (mine k x other at)) (λ (t : (i ≢ id) × (get_elem? l i ≡ some v)). old i k v x (λ z. apart (sym z)) t.1 at) (at_set l id i w v ei))
      j u ej (λ z. ne (sym z))

  pub at_end : (l : List A) (a b : A) (j : ℕ) → get_elem? (l ++ a ∷ []) j ≡ some b → (get_elem? l j ≡ some b) ⊎ ((j ≡ length l) × (a ≡ b))
  at_end [] a b zero e = inr (refl, some-injective a b e)
  at_end [] a b (suc j) e = absurd (some-ne-none b (sym e))
  at_end (x ∷ xs) a b zero e = inl e
  at_end (x ∷ xs) a b (suc j) e = ⊎_elim (λ h. inl h) (λ t. inr (ap suc t.0, t.1)) (at_end xs a b j e)

  pub pairs_end : (R : A → A → Type 0) → ((v w : A) → R v w → R w v) → (l : List A) (w : A) → ((j : ℕ) (v : A) → get_elem? l j ≡ some v → R w v)
      → ((i j : ℕ) (v u : A) → i ≢ j → get_elem? l i ≡ some v → get_elem? l j ≡ some u → R v u)
      → (i j : ℕ) (v u : A) → i ≢ j → get_elem? (l ++ w ∷ []) i ≡ some v → get_elem? (l ++ w ∷ []) j ≡ some u → R v u
  pairs_end R turn l w new old i j v u ne ei ej = ⊎_elim
      (λ hi. ⊎_elim (λ hj. old i j v u ne hi hj) (λ tj. subst (λ (z : A). R v z) tj.1 (turn w v (new i v hi))) (at_end l w u j ej))
      (λ ti. ⊎_elim (λ hj. subst (λ (z : A). R z u) ti.1 (new j u hj)) (λ tj. absurd (ne (ti.0 ∙ sym tj.0))) (at_end l w u j ej))
      (at_end l w v i ei)

  pub within : (l : List A) (j : ℕ) (a : A) → get_elem? l j ≡ some a → j < length l
  within [] j a e = absurd (some-ne-none a (sym e))
  within (x ∷ xs) zero a e = omega arith
  within (x ∷ xs) (suc j) a e = let r = within xs j a e in omega arith

  pub set_twice : (l : List A) (i j : ℕ) (a b : A) → i ≢ j → set (set l i a) j b ≡ set (set l j b) i a
  set_twice [] i j a b ne = refl
  set_twice (x ∷ xs) zero zero a b ne = absurd (ne refl)
  set_twice (x ∷ xs) zero (suc j) a b ne = refl
  set_twice (x ∷ xs) (suc i) zero a b ne = refl
  set_twice (x ∷ xs) (suc i) (suc j) a b ne = ap (λ l. x ∷ l) (set_twice xs i j a b (λ e. ne (ap suc e)))

pub waiting-set : (l : List View) (i : ℕ) (v w : View) → get_elem? l i ≡ some v → waiting (set l i w) + weight v.stage ≡ waiting l + weight w.stage
waiting-set [] i v w e = absurd (some-ne-none v (sym e))
waiting-set (x ∷ xs) zero v w e = let is : weight x.stage ≡ weight v.stage = ap (λ (m : View). weight m.stage) (some-injective x v e) in omega arith
waiting-set (x ∷ xs) (suc i) v w e = let r = waiting-set xs i v w e in omega arith

pub held-set : (l : List View) (i : ℕ) (v w : View) → get_elem? l i ≡ some v → held (set l i w) + length v.voices ≡ held l + length w.voices
held-set [] i v w e = absurd (some-ne-none v (sym e))
held-set (x ∷ xs) zero v w e = let is : length x.voices ≡ length v.voices = ap (λ (m : View). length m.voices) (some-injective x v e) in omega arith
held-set (x ∷ xs) (suc i) v w e = let r = held-set xs i v w e in omega arith

pub waiting-end : (l : List View) (w : View) → waiting (l ++ w ∷ []) ≡ waiting l + weight w.stage
waiting-end [] w = omega arith
waiting-end (x ∷ xs) w = let r = waiting-end xs w in omega arith

pub held-end : (l : List View) (w : View) → held (l ++ w ∷ []) ≡ held l + length w.voices
held-end [] w = omega arith
held-end (x ∷ xs) w = let r = held-end xs w in omega arith
