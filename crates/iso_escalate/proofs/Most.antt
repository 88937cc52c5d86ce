-- The table with the most weight, found by going over all tables.
use Rattle.std.proofs.Common.{◌≡◌, ◌<◌, ◌≤◌, ◌+◌, ℕ, zero, suc, Bool, true, false, ◌&&◌, List, ◌⊎◌, inl, inr, length, map, refl, ap, sym, subst, ◌∙◌, arith}
use Rattle.std.specs.List.{list_all, range_with_len}
use Rattle.std.specs.Prelude.{find, nat_le, nat_lt, Option, None, Some}
use Rattle.std.proofs.lemmas.Bool.Decides.{nat_tests}
use Rattle.iso_queue.specs.Limits.{prey, weight}
use Rattle.iso_queue.specs.Locks.{Hold}
use Rattle.iso_types.specs.Head.{tables}
use Rattle.iso_types.specs.declared.head.Head.{Head}
use Rattle.iso_types.specs.declared.value.Conn.{Conn}
use Rattle.iso_types.specs.declared.value.TableId.{TableId}

-- the table of a number
abbrev pub table : ℕ → TableId
table k = record { 0 = k }

-- the first table with the most weight among those below k: none where all weigh nothing
pub record IsMost (w : TableId → ℕ) (k most : ℕ) (best : Option TableId) : Type 0 where
  pub all : (i : ℕ) → i < k → w (table i) ≤ most
  pub none : best ≡ None → most ≡ 0
  pub some : (t : TableId) → best ≡ Some t → (t.0 < k) × (w t ≡ most) × (0 < most) × ((i : ℕ) → i < t.0 → w (table i) < most)

pub most_none : (w : TableId → ℕ) → IsMost w 0 0 None
most_none w = record { all = λ i lt. absurd (omega arith); none = λ e. refl; some = λ t e. cc e }

next : (i k : ℕ) → i < k + 1 → (i < k) ⊎ (i ≡ k)
next i k lt = go (nat_lt i k) refl
  where
    go : (b : Bool) → nat_lt i k ≡ b → (i < k) ⊎ (i ≡ k)
    go true e = inl (grind (arith, nat_tests))
    go false e = inr (grind (arith, nat_tests))

before : (a k : ℕ) → a ≤ k → (a < k) ⊎ (a ≡ k)
before a k le = next a k (omega arith)

module _ (w : TableId → ℕ) (k most : ℕ) (best : Option TableId) (is : IsMost w k most best) where
  -- the next weighs no more
  pub most_stays : w (table k) ≤ most → IsMost w (k + 1) most best
  most_stays le = record {
    all = λ i lt. go i (next i k lt);
    none = is.none;
    some = λ t e. let p = is.some t e in (omega (arith, p.0), p.1, p.2, p.3);
  }
    where
      go : (i : ℕ) → (i < k) ⊎ (i ≡ k) → w (table i) ≤ most
      go i (inl lt) = is.all i lt
      go i (inr e) = subst (λ (j : ℕ). w (table j) ≤ most) (sym e) le

  -- the next weighs more
  pub most_moves : most < w (table k) → IsMost w (k + 1) (w (table k)) (Some (table k))
  most_moves lt = record {
    all = λ i small. go i (next i k small);
    none = λ e. cc e;
    some = λ t e. of t e;
  }
    where
      go : (i : ℕ) → (i < k) ⊎ (i ≡ k) → w (table i) ≤ w (table k)
      go i (inl small) = omega (arith, is.all i small, lt)
      go i (inr e) = subst (λ (j : ℕ). w (table j) ≤ w (table k)) (sym e) (omega arith)

      of : (t : TableId) → Some (table k) ≡ Some t → (t.0 < k + 1) × (w t ≡ w (table k)) × (0 < w (table k)) × ((i : ℕ) → i < t.0 → w (table i) < w (table k))
      of t e = subst (λ (u : TableId). (u.0 < k + 1) × (w u ≡ w (table k)) × (0 < w (table k)) × ((i : ℕ) → i < u.0 → w (table i) < w (table k))) (same e)
          (omega arith, refl, omega (arith, lt), λ i small. omega (arith, is.all i small, lt))
        where
          same : Some (table k) ≡ Some t → table k ≡ t
          same f = cc f

-- the same for values that are told
pub most_told : (w : TableId → ℕ) (k most v : ℕ) (best : Option TableId) (most' : ℕ) (best' : Option TableId) → IsMost w k most best → v ≡ w (table k)
    → most < v → best' ≡ Some (table k) → most' ≡ v → IsMost w (k + 1) most' best'
most_told w k most v best most' best' is here more e f =
    rw (e, f ∙ here) (most_moves w k most best is (omega (arith, here, more)))

pub least_told : (w : TableId → ℕ) (k most v : ℕ) (best : Option TableId) (most' : ℕ) (best' : Option TableId) → IsMost w k most best → v ≡ w (table k)
    → v ≤ most → best' ≡ best → most' ≡ most → IsMost w (k + 1) most' best'
least_told w k most v best most' best' is here less e f = rw (e, f) (most_stays w k most best is (omega (arith, here, less)))

-- ---- what is found among the tables in order
find_none : (p : TableId → Bool) (a n : ℕ) → ((i : ℕ) → a ≤ i → i < a + n → p (table i) ≡ false) → find p (map table (range_with_len a n)) ≡ None
find_none p a zero fails = refl
find_none p a (suc n) fails = rw (fails a (omega arith) (omega arith)) (find_none p (a + 1) n (λ i le lt. fails i (omega arith) (omega arith)))

find_at : (p : TableId → Bool) (a n k : ℕ) → a ≤ k → k < a + n → p (table k) ≡ true → ((i : ℕ) → a ≤ i → i < k → p (table i) ≡ false)
    → find p (map table (range_with_len a n)) ≡ Some (table k)
find_at p a zero k le lt passes fails = absurd (omega arith)
find_at p a (suc n) k le lt passes fails = go (before a k le) (λ more. find_at p (a + 1) n k (omega (arith, more)) (omega arith) passes (λ i small. fails i (omega arith)))
  where
    go : (a < k) ⊎ (a ≡ k) → (a < k → find p (map table (range_with_len (a + 1) n)) ≡ Some (table k)) → find p (map table (range_with_len a (suc n))) ≡ Some (table k)
    go (inl more) ih = rw (fails a (omega arith) more) (ih more)
    go (inr e) ih = rw (subst (λ (j : ℕ). p (table j) ≡ true) (sym e) passes) (ap (λ (j : ℕ). Some (table j)) e)

all_pass : (p : TableId → Bool) (a n : ℕ) → ((i : ℕ) → a ≤ i → i < a + n → p (table i) ≡ true) → list_all p (map table (range_with_len a n)) ≡ true
all_pass p a zero passes = refl
all_pass p a (suc n) passes = rw (passes a (omega arith) (omega arith)) (all_pass p (a + 1) n (λ i le lt. passes i (omega arith) (omega arith)))

and_false : (b : Bool) → (b && false) ≡ false
and_false true = refl
and_false false = refl

one_fails : (p : TableId → Bool) (a n k : ℕ) → a ≤ k → k < a + n → p (table k) ≡ false → list_all p (map table (range_with_len a n)) ≡ false
one_fails p a zero k le lt fails = absurd (omega arith)
one_fails p a (suc n) k le lt fails = go (before a k le) (λ more. one_fails p (a + 1) n k (omega (arith, more)) (omega arith) fails)
  where
    go : (a < k) ⊎ (a ≡ k) → (a < k → list_all p (map table (range_with_len (a + 1) n)) ≡ false) → list_all p (map table (range_with_len a (suc n))) ≡ false
    go (inl more) ih = ap (λ (b : Bool). p (table a) && b) (ih more) ∙ and_false (p (table a))
    go (inr e) ih = rw (subst (λ (j : ℕ). p (table j) ≡ false) (sym e) fails) refl

-- ---- the prey
lt_true : (m n : ℕ) → m < n → nat_lt m n ≡ true
lt_true m n lt = grind (arith, nat_tests)

lt_false : (m n : ℕ) → n ≤ m → nat_lt m n ≡ false
lt_false m n le = grind (arith, nat_tests)

le_true : (m n : ℕ) → m ≤ n → nat_le m n ≡ true
le_true m n le = grind (arith, nat_tests)

le_false : (m n : ℕ) → n < m → nat_le m n ≡ false
le_false m n lt = grind (arith, nat_tests)

module _ (head : Head) (hs : List Hold) (c : Conn) where
  abbrev w : TableId → ℕ
  w t = weight head hs c t

  abbrev leads : TableId → Bool
  leads t = nat_lt 0 (w t) && list_all (λ u. nat_le (w u) (w t)) (tables head)

  pub prey_is : (most : ℕ) (best : Option TableId) → IsMost w (length head.tables) most best → best ≡ prey head hs c
  prey_is most None is =
      sym (find_none leads 0 (length head.tables) (λ i le lt. light i (omega (arith, is.none refl, is.all i (omega arith)))))
    where
      light : (i : ℕ) → w (table i) ≤ 0 → leads (table i) ≡ false
      light i le = rw (lt_false 0 (w (table i)) le) refl
  prey_is most (Some t) is =
      let p = is.some t refl in
      sym (find_at leads 0 (length head.tables) t.0 (omega arith) (omega (arith, p.0)) (first p.1 p.2) (λ i le lt. behind i lt p.0 p.1 (p.3 i lt)))
    where
      first : w t ≡ most → 0 < most → leads t ≡ true
      first e some =
          rw (lt_true 0 (w t) (omega (arith, e, some)))
          (all_pass (λ u. nat_le (w u) (w t)) 0 (length head.tables) (λ i le lt. le_true (w (table i)) (w t) (omega (arith, e, is.all i (omega arith)))))

      behind : (i : ℕ) → i < t.0 → t.0 < length head.tables → w t ≡ most → w (table i) < most → leads (table i) ≡ false
      behind i lt within e less =
          ap (λ (b : Bool). nat_lt 0 (w (table i)) && b) (one_fails (λ u. nat_le (w u) (w (table i))) 0 (length head.tables) t.0 (omega arith) (omega (arith, within)) (le_false (w t) (w (table i)) (omega (arith, e, less))))
          ∙ and_false (nat_lt 0 (w (table i)))
