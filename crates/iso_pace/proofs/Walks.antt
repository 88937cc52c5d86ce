-- Going over the connections of a head by their numbers.
use Rattle.std.proofs.Common.{◌≡◌, ℕ, zero, suc, ◌+◌, ◌-◌, ◌<◌, ◌≤◌, ◌⊎◌, inl, inr, Bool, true, false, ◌∷◌, filter, map, length, find, refl, sym, ◌∙◌, ap, subst, arith, Some, None}
use Rattle.std.specs.List.{list_all, range_with_len}
use Rattle.std.specs.Prelude.{if◌then◌else◌, nat_lt}
use Rattle.std.proofs.lemmas.Bool.Decides.{nat_tests}
use Rattle.iso_types.specs.Head.{conns}
use Rattle.iso_types.specs.declared.head.Head.{Head}
use Rattle.iso_types.specs.declared.value.Conn.{Conn}

abbrev pub place : ℕ → Conn
place k = record { 0 = k }

from-all : (p : Conn → Bool) (s n : ℕ) → ((k : ℕ) → s ≤ k → k < s + n → p (place k) ≡ true) → list_all p (map place (range_with_len s n)) ≡ true
from-all p s zero h = refl
from-all p s (suc n) h = rw (h s (omega arith) (omega arith)) (from-all p (s + 1) n (λ k le lt. h k (omega (arith, le)) (omega (arith, lt))))

from-one : (p : Conn → Bool) (s n k : ℕ) → s ≤ k → k < s + n → p (place k) ≡ false → list_all p (map place (range_with_len s n)) ≡ false
from-one p s zero k le lt e = absurd (omega (arith, le, lt))
from-one p s (suc n) k le lt e = go (λ past. from-one p (s + 1) n k past (omega (arith, lt)) e) (cases s k le) (p (place s)) refl
  where
    cases : (a b : ℕ) → a ≤ b → (a ≡ b) ⊎ (a + 1 ≤ b)
    cases a b le = grind arith

    go : (s + 1 ≤ k → list_all p (map place (range_with_len (s + 1) n)) ≡ false) → (s ≡ k) ⊎ (s + 1 ≤ k) → (b : Bool) → p (place s) ≡ b
        → list_all p (place s ∷ map place (range_with_len (s + 1) n)) ≡ false
    go later (inl same) b is = let own : p (place s) ≡ false = subst (λ (z : ℕ). p (place z) ≡ false) (sym same) e in rw own refl
    go later (inr past) true is = rw is (later past)
    go later (inr past) false is = rw is refl

from-first : (p : Conn → Bool) (s n k : ℕ) → s ≤ k → k < s + n → ((j : ℕ) → s ≤ j → j < k → p (place j) ≡ false) → p (place k) ≡ true
    → find p (map place (range_with_len s n)) ≡ Some (place k)
from-first p s zero k le lt h e = absurd (omega (arith, le, lt))
from-first p s (suc n) k le lt h e =
    go (λ past. from-first p (s + 1) n k past (omega (arith, lt)) (λ j l m. h j (omega (arith, l)) m) e) (cases s k le)
  where
    cases : (a b : ℕ) → a ≤ b → (a ≡ b) ⊎ (a + 1 ≤ b)
    cases a b le = grind arith

    go : (s + 1 ≤ k → find p (map place (range_with_len (s + 1) n)) ≡ Some (place k)) → (s ≡ k) ⊎ (s + 1 ≤ k)
        → find p (place s ∷ map place (range_with_len (s + 1) n)) ≡ Some (place k)
    go later (inl same) =
        let own : p (place s) ≡ true = subst (λ (z : ℕ). p (place z) ≡ true) (sym same) e in
        rw own (ap (λ (z : ℕ). Some (place z)) same)
    go later (inr past) = rw (h s (omega arith) (omega (arith, past))) (later past)

from-none : (p : Conn → Bool) (s n : ℕ) → ((k : ℕ) → s ≤ k → k < s + n → p (place k) ≡ false) → find p (map place (range_with_len s n)) ≡ None
from-none p s zero h = refl
from-none p s (suc n) h = rw (h s (omega arith) (omega arith)) (from-none p (s + 1) n (λ k le lt. h k (omega (arith, le)) (omega (arith, lt))))

module _ (head : Head) (p : Conn → Bool) where
  -- all connections pass
  pub all-pass : ((k : ℕ) → k < length head.conns → p (record { 0 = k }) ≡ true) → list_all p (conns head) ≡ true
  all-pass h = from-all p 0 (length head.conns) (λ k le lt. h k (omega (arith, lt)))

  -- one does not
  pub one-fails : (k : ℕ) → k < length head.conns → p (record { 0 = k }) ≡ false → list_all p (conns head) ≡ false
  one-fails k lt e = from-one p 0 (length head.conns) k (omega arith) (omega (arith, lt)) e

  -- the first that passes
  pub first-found : (k : ℕ) → k < length head.conns → ((j : ℕ) → j < k → p (record { 0 = j }) ≡ false) → p (record { 0 = k }) ≡ true
      → find p (conns head) ≡ Some (record { 0 = k })
  first-found k lt h e = from-first p 0 (length head.conns) k (omega arith) (omega (arith, lt)) (λ j le l. h j l) e

  -- none passes
  pub none-found : ((k : ℕ) → k < length head.conns → p (record { 0 = k }) ≡ false) → find p (conns head) ≡ None
  none-found h = from-none p 0 (length head.conns) (λ k le lt. h k (omega (arith, lt)))

module _ (head : Head) (p : Conn → Bool) where
  -- of those before number k, n pass
  abbrev pub IsCounted : ℕ → ℕ → Type 0
  IsCounted k n = (m : ℕ) → k + m ≡ length head.conns → length (filter p (conns head)) ≡ n + length (filter p (map place (range_with_len k m)))

  pub count-start : IsCounted 0 0
  count-start m e =
      let same : length head.conns ≡ m = omega (arith, e) in
      let is = ap (λ (x : ℕ). length (filter p (map place (range_with_len 0 x)))) same in
      omega (arith, is)

  one-pass : (k m : ℕ) → p (place k) ≡ true → length (filter p (map place (range_with_len k (suc m)))) ≡ suc (length (filter p (map place (range_with_len (k + 1) m))))
  one-pass k m e = rw e refl

  one-less : (k m : ℕ) → p (place k) ≡ false → length (filter p (map place (range_with_len k (suc m)))) ≡ length (filter p (map place (range_with_len (k + 1) m)))
  one-less k m e = rw e refl

  pub count-pass : (k n : ℕ) → p (record { 0 = k }) ≡ true → IsCounted k n → IsCounted (k + 1) (n + 1)
  count-pass k n e h m is =
      let all = h (suc m) (omega (arith, is)) in
      let more = one-pass k m e in
      omega (arith, all, more)

  pub count-skip : (k n : ℕ) → p (record { 0 = k }) ≡ false → IsCounted k n → IsCounted (k + 1) n
  count-skip k n e h m is = h (suc m) (omega (arith, is)) ∙ ap (λ (x : ℕ). n + x) (one-less k m e)

  pub count-end : (k n : ℕ) → k ≡ length head.conns → IsCounted k n → length (filter p (conns head)) ≡ n
  count-end k n is h = let all = h 0 (omega (arith, is)) in omega (arith, all)

  -- as long as one passed at most
  pub count-first : (k : ℕ) (one now : Bool) → p (record { 0 = k }) ≡ true → one ≡ false → now ≡ true → IsCounted k (if one then 1 else 0)
      → IsCounted (k + 1) (if now then 1 else 0)
  count-first k true now e a b h = absurd (cc)
  count-first k false true e a b h = count-pass k 0 e h
  count-first k false false e a b h = absurd (cc)

  pub count-other : (k : ℕ) (one now : Bool) → p (record { 0 = k }) ≡ false → now ≡ one → IsCounted k (if one then 1 else 0)
      → IsCounted (k + 1) (if now then 1 else 0)
  count-other k one now e same h =
      subst (λ (b : Bool). IsCounted (k + 1) (if b then 1 else 0)) (sym same) (count-skip k (if one then 1 else 0) e h)

  pub few-end : (k : ℕ) (one : Bool) → k ≡ length head.conns → IsCounted k (if one then 1 else 0) → nat_lt 1 (length (filter p (conns head))) ≡ false
  few-end k true is h = few (length (filter p (conns head))) (count-end k 1 is h) where
    few : (n : ℕ) → n ≡ 1 → nat_lt 1 n ≡ false
    few n e = grind (arith, nat_tests)
  few-end k false is h = few (length (filter p (conns head))) (count-end k 0 is h) where
    few : (n : ℕ) → n ≡ 0 → nat_lt 1 n ≡ false
    few n e = grind (arith, nat_tests)

  -- one passed, and here is a second
  pub count-two : (k : ℕ) → k < length head.conns → p (record { 0 = k }) ≡ true → IsCounted k 1 → nat_lt 1 (length (filter p (conns head))) ≡ true
  count-two k lt e h = go (length head.conns) refl lt
    where
      two : (a b : ℕ) → a ≡ 1 + suc b → nat_lt 1 a ≡ true
      two a b e = grind (arith, nat_tests)

      more : (x y n : ℕ) → x < n → y ≡ n → (d : ℕ) × (x + suc d ≡ n)
      more x y n l e = (n - x - 1, omega (arith, l))

      go : (n : ℕ) → length head.conns ≡ n → k < n → nat_lt 1 (length (filter p (conns head))) ≡ true
      go n is l =
          let t : (d : ℕ) × (k + suc d ≡ n) = more k n n l refl in
          two (length (filter p (conns head))) (length (filter p (map place (range_with_len (k + 1) t.0))))
          (h (suc t.0) (t.1 ∙ sym is) ∙ ap (λ (x : ℕ). 1 + x) (one-pass k t.0 e))

-- one more passes, or fails
pub next-one : (p : Conn → Bool) (b : Bool) (k : ℕ) → ((j : ℕ) → j < k → p (record { 0 = j }) ≡ b) → p (record { 0 = k }) ≡ b
    → (j : ℕ) → j < k + 1 → p (record { 0 = j }) ≡ b
next-one p b k h e j lt = go (cases j k lt)
  where
    cases : (x y : ℕ) → x < y + 1 → (x ≡ y) ⊎ (x < y)
    cases x y le = grind arith

    go : (j ≡ k) ⊎ (j < k) → p (record { 0 = j }) ≡ b
    go (inl same) = subst (λ (z : ℕ). p (record { 0 = z }) ≡ b) (sym same) e
    go (inr less) = h j less
