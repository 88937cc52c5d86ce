-- The bits of a set of edges that is told bit by bit.
use Rattle.std.proofs.Common.{◌≡◌, ◌≢◌, ◌<◌, ◌+◌, ◌*◌, ◌/◌, ◌%◌, ◌^◌, ◌⊎◌, inl, inr, ℕ, zero, suc, Bool, true, false, ◌&&◌, ◌==◌, refl, ap, sym, subst, ◌∙◌, arith}
use Rattle.std.specs.Int.{bit_at}
use Rattle.std.specs.Prelude.{if◌then◌else◌, nat_lt}
use Rattle.std.proofs.lemmas.Bool.Decides.{nat_tests}
use Rattle.std.specs.Int.Bits.{block_half}
use Rattle.std.proofs.lemmas.Nat.{shr_high}
use Rattle.std.proofs.lemmas.Nat.Bits.{bit_at-pow_other, bit_at-suc, bit_at-zero, bit_at_lowest}
use Rattle.iso_queue.specs.Lines.{bits_of}
use Rattle.iso_types.specs.declared.value.Conn.{Conn}

half-less : (n k : ℕ) → n < 2 ^ suc k → n / 2 < 2 ^ k
half-less n k lt = omega (arith, lt)

-- a bit above all others
pub bit-same : (n k : ℕ) → n < 2 ^ k → bit_at (n + 2 ^ k) k ≡ 1
bit-same n k lt =
    let turned : n + 2 ^ k ≡ 1 * 2 ^ k + n = omega arith in
    ap (λ (x : ℕ). x / 2 ^ k % 2) turned ∙ ap (λ (x : ℕ). x % 2) (shr_high 1 k n lt)

pub bit-other : (k i n : ℕ) → i ≢ k → n < 2 ^ k → bit_at (n + 2 ^ k) i ≡ bit_at n i
bit-other zero zero n ne lt = absurd (ne refl)
bit-other zero (suc i) n ne lt =
    let none : n ≡ 0 = omega (arith, lt) in
    subst (λ (x : ℕ). bit_at (x + 1) (suc i) ≡ bit_at x (suc i)) (sym none)
    (bit_at-pow_other 0 (suc i) (λ e. absurd (cc)) ∙ sym (bit_at-zero (suc i)))
bit-other (suc k) zero n ne lt = bit_at_lowest (n + 2 ^ suc k) ∙ even n k ∙ sym (bit_at_lowest n)
  where
    even : (x j : ℕ) → (x + 2 ^ suc j) % 2 ≡ x % 2
    even x j = omega arith
bit-other (suc k) (suc i) n ne lt =
    let turned : n + 2 ^ suc k ≡ 1 * 2 ^ suc k + n = omega arith in
    let back : 1 * 2 ^ k + n / 2 ≡ n / 2 + 2 ^ k = omega arith in
    bit_at-suc (n + 2 ^ suc k) i
    ∙ ap (λ (x : ℕ). bit_at x i) (ap (λ (x : ℕ). x / 2) turned ∙ block_half 1 k n ∙ back)
    ∙ bit-other k i (n / 2) (λ e. ne (ap suc e)) (half-less n k lt)
    ∙ sym (bit_at-suc n i)

-- what a number of so many bits says of a connection
pub record AreBits (test : Conn → Bool) (k : ℕ) (n : ℕ) : Type 0 where
  pub small : n < 2 ^ k
  pub each : (d : Conn) → (bit_at n d.0 == 1) ≡ (nat_lt d.0 k && test d)

conn-of : (d : Conn) (k : ℕ) → d.0 ≡ k → record { 0 = k } ≡ d
conn-of d k e = ap (λ (x : ℕ). record { 0 = x }) (sym e)

bits-more : (test : Conn → Bool) (k n : ℕ) → AreBits test k n → AreBits test (suc k) (n + (if test (record { 0 = k }) then 2 ^ k else 0))
bits-more test k n a = record { small = less (test (record { 0 = k })); each = λ d. go d (cases d.0 k) (test (record { 0 = k })) refl }
  where
    cases : (x y : ℕ) → (x ≡ y) ⊎ (x ≢ y)
    cases x y = grind arith

    less : (b : Bool) → n + (if b then 2 ^ k else 0) < 2 ^ suc k
    less true = let small = a.small in omega (arith, small)
    less false = let small = a.small in omega (arith, small)

    below : (x y : ℕ) → x ≢ y → nat_lt x (suc y) ≡ nat_lt x y
    below x y ne = grind (arith, nat_tests)

    last : (x : ℕ) → nat_lt x (suc x) ≡ true
    last x = grind (arith, nat_tests)

    none : (x : ℕ) → nat_lt x x ≡ false
    none x = grind (arith, nat_tests)

    go : (d : Conn) → (d.0 ≡ k) ⊎ (d.0 ≢ k) → (b : Bool) → test (record { 0 = k }) ≡ b
        → (bit_at (n + (if b then 2 ^ k else 0)) d.0 == 1) ≡ (nat_lt d.0 (suc k) && test d)
    go d (inl e) true is =
        let own : test d ≡ true = ap test (sym (conn-of d k e)) ∙ is in
        let bit : bit_at (n + 2 ^ k) d.0 ≡ 1 = subst (λ (x : ℕ). bit_at (n + 2 ^ k) x ≡ 1) (sym e) (bit-same n k a.small) in
        let low : nat_lt d.0 (suc k) ≡ true = subst (λ (x : ℕ). nat_lt d.0 (suc x) ≡ true) e (last d.0) in
        rw (bit, own, low) refl
    go d (inl e) false is =
        let own : test d ≡ false = ap test (sym (conn-of d k e)) ∙ is in
        let low : nat_lt d.0 (suc k) ≡ true = subst (λ (x : ℕ). nat_lt d.0 (suc x) ≡ true) e (last d.0) in
        let high : nat_lt d.0 k ≡ false = subst (λ (x : ℕ). nat_lt d.0 x ≡ false) e (none d.0) in
        let same : n + 0 ≡ n = omega arith in
        ap (λ (x : ℕ). bit_at x d.0 == 1) same ∙ a.each d ∙ rw (own, low, high) refl
    go d (inr ne) true is =
        ap (λ (x : ℕ). x == 1) (bit-other k d.0 n ne a.small) ∙ a.each d ∙ ap (λ (b : Bool). b && test d) (sym (below d.0 k ne))
    go d (inr ne) false is =
        let same : n + 0 ≡ n = omega arith in
        ap (λ (x : ℕ). bit_at x d.0 == 1) same ∙ a.each d ∙ ap (λ (b : Bool). b && test d) (sym (below d.0 k ne))

pub bits-are : (test : Conn → Bool) (k : ℕ) → AreBits test k (bits_of test k)
unfolding bits_of
bits-are test zero = record { small = omega arith; each = λ d. ap (λ (x : ℕ). x == 1) (bit_at-zero d.0) ∙ low d.0 (test d) }
  where
    none : (x : ℕ) → nat_lt x 0 ≡ false
    none x = grind (arith, nat_tests)

    low : (x : ℕ) (b : Bool) → (0 == 1) ≡ (nat_lt x 0 && b)
    low x b = rw (none x) refl
bits-are test (suc k) = bits-more test k (bits_of test k) (bits-are test k)
