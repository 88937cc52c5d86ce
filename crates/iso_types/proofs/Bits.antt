-- The bit of a set of connections, as a test.
use Rattle.std.proofs.Common.{◌≡◌, ℕ, zero, suc, ◌-◌, ◌*◌, ◌%◌, ◌^◌, ◌<◌, ◌≤◌, ◌≢◌, Bool, true, false, ◌&&◌, ◌||◌, not, ◌==◌, min, max, refl, sym, ◌∙◌, arith, bit_and, bit_or, w32, inl, inr, ◌↔◌}
use Rattle.std.specs.Int.{bit_at, bit_not, trailing_zeros}
use Rattle.std.proofs.lemmas.Nat.{and_le_l}
use Rattle.std.proofs.lemmas.Bool.{and_from, and_parts, both_ways, cases_Bool, not-true, cases_eq, cases_lt, eq-eqb, ne_eqb, eqb-true}
use Rattle.std.proofs.lemmas.Nat.Bits.{bit_at_and, bit_at_or, bit_at_not, bit_at-lt, bit_at_above, bit_at-zero, bit_at_set_same, bit_at_set_other, bit_at-trailing_zeros}

-- the number has this bit
abbrev pub has : ℕ → ℕ → Bool
has n i = bit_at n i == 1

min-is : (x y : ℕ) → x < 2 → y < 2 → (min x y == 1) ≡ ((x == 1) && (y == 1))
min-is zero zero p q = refl
min-is zero (suc zero) p q = refl
min-is (suc zero) zero p q = refl
min-is (suc zero) (suc zero) p q = refl
min-is (suc (suc x)) y p q = absurd (omega arith)
min-is x (suc (suc y)) p q = absurd (omega arith)

max-is : (x y : ℕ) → x < 2 → y < 2 → (max x y == 1) ≡ ((x == 1) || (y == 1))
max-is zero zero p q = refl
max-is zero (suc zero) p q = refl
max-is (suc zero) zero p q = refl
max-is (suc zero) (suc zero) p q = refl
max-is (suc (suc x)) y p q = absurd (omega arith)
max-is x (suc (suc y)) p q = absurd (omega arith)

not-is : (x : ℕ) → x < 2 → ((1 - x) == 1) ≡ not (x == 1)
not-is zero p = refl
not-is (suc zero) p = refl
not-is (suc (suc x)) p = absurd (omega arith)

pub has_and : (a b i : ℕ) → has (bit_and a b) i ≡ (has a i && has b i)
has_and a b i = rw (bit_at_and a b i) (min-is (bit_at a i) (bit_at b i) (bit_at-lt a i) (bit_at-lt b i))

pub has_or : (a b i : ℕ) → has (bit_or a b) i ≡ (has a i || has b i)
has_or a b i = rw (bit_at_or a b i) (max-is (bit_at a i) (bit_at b i) (bit_at-lt a i) (bit_at-lt b i))

pub has_zero : (i : ℕ) → has 0 i ≡ false
has_zero i = rw (bit_at-zero i) refl

pub has_above : (a i : ℕ) → a < 2 ^ 32 → 32 ≤ i → has a i ≡ false
has_above a i p q = rw (bit_at_above a 32 i p q) refl

pub has_without : (a b i : ℕ) → a < 2 ^ 32 → b < 2 ^ 32 → has (bit_and a (bit_not w32 b)) i ≡ (has a i && not (has b i))
has_without a b i p q =
    elim (cases_lt i 32) [
      | inl l ↦ rw (has_and a (bit_not w32 b) i, bit_at_not w32 b i q l, not-is (bit_at b i) (bit_at-lt b i)) refl
      | inr g ↦ rw (has_and a (bit_not w32 b) i, has_above a i p g) refl
    ]

pub has_with : (a k i : ℕ) → k < 32 → has (bit_or a (1 * 2 ^ k % 2 ^ 32)) i ≡ ((i == k) || has a i)
has_with a k i l =
    elim (cases_eq i k) [
      | inl e ↦ rw (e, bit_at_set_same w32 a k l, eq-eqb k k refl) refl
      | inr n ↦ rw (bit_at_set_other w32 a k l i n, ne_eqb i k n) refl
    ]

not-one : (n : ℕ) → n ≡ 0 → n ≡ 1 → ⊥
not-one n e f = omega arith

pub has_least : (n : ℕ) → 0 < n → n < 2 ^ 32
    → (has n (trailing_zeros w32 n) ≡ true) × (trailing_zeros w32 n < 32) × ((i : ℕ) → has n i ≡ true → trailing_zeros w32 n ≤ i)
has_least n p q =
    let t = bit_at-trailing_zeros w32 n p q in (
      eq-eqb _ _ t.1,
      t.0,
      λ i h. elim (cases_lt i (trailing_zeros w32 n)) [
        | inl l ↦ absurd (not-one _ (t.2 i l) (eqb-true _ _ h))
        | inr g ↦ g
      ],
    )

pub has_meets : (a b : ℕ) → a < 2 ^ 32
    → (not (bit_and a b == 0) ≡ true) ↔ ((i : ℕ) × (has a i ≡ true) × (has b i ≡ true))
has_meets a b q = (there, back) where
  there : not (bit_and a b == 0) ≡ true → (i : ℕ) × (has a i ≡ true) × (has b i ≡ true)
  there h =
      let p : bit_and a b < 2 ^ 32 = omega (arith, and_le_l a b) in
      let n : bit_and a b ≢ 0 = λ e. both_ways (bit_and a b == 0) (not-true (bit_and a b == 0) h) (eq-eqb (bit_and a b) 0 e) in
      let t = has_least (bit_and a b) (omega arith) p in
      let i : ℕ = trailing_zeros w32 (bit_and a b) in
      let parts : (has a i ≡ true) × (has b i ≡ true) = and_parts (has a i) (has b i) (sym (has_and a b i) ∙ t.0) in
      (i, parts.0, parts.1)

  back : (i : ℕ) × (has a i ≡ true) × (has b i ≡ true) → not (bit_and a b == 0) ≡ true
  back w =
      let here : has (bit_and a b) w.0 ≡ true = has_and a b w.0 ∙ and_from (has a w.0) (has b w.0) w.1 w.2 in
      elim (cases_Bool (bit_and a b == 0)) [
        | inl e ↦
            let zero-is : bit_and a b ≡ 0 = eqb-true (bit_and a b) 0 e in
            absurd (both_ways (has (bit_and a b) w.0) (rw zero-is (has_zero w.0)) here)
        | inr e ↦ rw e refl
      ]
