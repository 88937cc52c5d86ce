-- Sums over the connections of a head, of which one is changed.
use Rattle.std.proofs.Common.{◌≡◌, ◌<◌, ◌≤◌, ◌+◌, ◌*◌, ◌⊎◌, inl, inr, ℕ, zero, suc, true, false, List, map, length, refl, sym, arith, sum_by, subst}
use Rattle.std.specs.Prelude.{◌==◌, nat_lt}
use Rattle.std.specs.List.{range_with_len}
use Rattle.std.proofs.lemmas.Bool.Decides.{nat_tests}
use Rattle.std.proofs.lemmas.List.Sums.{sum_by-cons}
use Rattle.iso_types.specs.Head.{conns, is_conn}
use Rattle.iso_types.specs.Ids.{conn_eq}
use Rattle.iso_types.specs.declared.head.Head.{Head}
use Rattle.iso_types.specs.declared.value.Conn.{Conn}

-- n connections, from number s on
abbrev pub some_conns : ℕ → ℕ → List Conn
some_conns s n = map (λ k. record { 0 = k }) (range_with_len s n)

-- functions that agree from number s on have the same sum there
sum-same : (f g : Conn → ℕ) (s n : ℕ) → ((k : ℕ) → s ≤ k → g (record { 0 = k }) ≡ f (record { 0 = k }))
    → sum_by g (some_conns s n) ≡ sum_by f (some_conns s n)
sum-same f g s zero same = refl
sum-same f g s (suc n) same =
    let first = same s (omega arith) in
    let rest = sum-same f g (s + 1) n (λ k le. same k (omega (arith, le))) in
    let more = sum_by-cons g (record { 0 = s }) (some_conns (s + 1) n) in
    let most = sum_by-cons f (record { 0 = s }) (some_conns (s + 1) n) in
    omega (arith, first, rest, more, most)

-- where the value at one of them is x more and y less, so is the sum
sum-moved : (f g : Conn → ℕ) (c x y s n : ℕ) → ((k : ℕ) → (k == c) ≡ false → g (record { 0 = k }) ≡ f (record { 0 = k }))
    → g (record { 0 = c }) + y ≡ f (record { 0 = c }) + x → s ≤ c → c < s + n
    → sum_by g (some_conns s n) + y ≡ sum_by f (some_conns s n) + x
sum-moved f g c x y s zero same at le lt = absurd (omega (arith, le, lt))
sum-moved f g c x y s (suc n) same at le lt =
    go (λ past. sum-moved f g c x y (s + 1) n same at past (omega (arith, lt))) (cases s c le)
  where
    more : sum_by g (some_conns s (suc n)) ≡ g (record { 0 = s }) + sum_by g (some_conns (s + 1) n)
    more = sum_by-cons g (record { 0 = s }) (some_conns (s + 1) n)

    most : sum_by f (some_conns s (suc n)) ≡ f (record { 0 = s }) + sum_by f (some_conns (s + 1) n)
    most = sum_by-cons f (record { 0 = s }) (some_conns (s + 1) n)

    cases : (s c : ℕ) → s ≤ c → (s ≡ c) ⊎ (s + 1 ≤ c)
    cases s c le = grind arith

    differs : (k c : ℕ) → (c + 1 ≤ k) ⊎ (k + 1 ≤ c) → (k == c) ≡ false
    differs k c (inl lt) = grind (arith, nat_tests)
    differs k c (inr lt) = grind (arith, nat_tests)

    go : (s + 1 ≤ c → sum_by g (some_conns (s + 1) n) + y ≡ sum_by f (some_conns (s + 1) n) + x)
        → (s ≡ c) ⊎ (s + 1 ≤ c) → sum_by g (some_conns s (suc n)) + y ≡ sum_by f (some_conns s (suc n)) + x
    go later (inl e) =
        let here = subst (λ (z : ℕ). g (record { 0 = z }) + y ≡ f (record { 0 = z }) + x) (sym e) at in
        let rest = sum-same f g (s + 1) n (λ k le. same k (differs k c (inl (omega (arith, le, e))))) in
        omega (arith, here, rest, more, most)
    go later (inr past) =
        let first = same s (differs s c (inr past)) in
        let rest = later past in
        omega (arith, first, rest, more, most)

module _ (head : Head) (f g : Conn → ℕ) where
  -- the sum over the connections of a head, of which c alone is changed
  pub conns-moved : (c : Conn) (x y : ℕ) → is_conn head c ≡ true → ((d : Conn) → conn_eq d c ≡ false → g d ≡ f d)
      → g c + y ≡ f c + x → sum_by g (conns head) + y ≡ sum_by f (conns head) + x
  conns-moved c x y is same at =
      sum-moved f g c.0 x y 0 (length head.conns) (λ k ne. same (record { 0 = k }) ne) at (omega arith) (place c.0 (length head.conns) is)
    where
      place : (k n : ℕ) → nat_lt k n ≡ true → k < 0 + n
      place k n is = grind (arith, nat_tests)

  -- of which none is changed
  pub conns-same : ((d : Conn) → g d ≡ f d) → sum_by g (conns head) ≡ sum_by f (conns head)
  conns-same same = sum-same f g 0 (length head.conns) (λ k le. same (record { 0 = k }))

  -- each value has at most the other's
  pub conns-le : ((d : Conn) → g d ≤ f d) → sum_by g (conns head) ≤ sum_by f (conns head)
  conns-le le = all_le 0 (length head.conns)
    where
      all_le : (s n : ℕ) → sum_by g (some_conns s n) ≤ sum_by f (some_conns s n)
      all_le s zero = omega arith
      all_le s (suc n) =
          let more = sum_by-cons g (record { 0 = s }) (some_conns (s + 1) n) in
          let most = sum_by-cons f (record { 0 = s }) (some_conns (s + 1) n) in
          let rest = all_le (s + 1) n in
          omega (arith, le (record { 0 = s }), rest, more, most)

-- a value that is everywhere at most m
pub conns-bounded : (head : Head) (f : Conn → ℕ) (m : ℕ) → ((d : Conn) → f d ≤ m) → sum_by f (conns head) ≤ length head.conns * m
conns-bounded head f m le = bounded 0 (length head.conns)
  where
    bounded : (s n : ℕ) → sum_by f (some_conns s n) ≤ n * m
    bounded s zero = omega arith
    bounded s (suc n) =
        let most = sum_by-cons f (record { 0 = s }) (some_conns (s + 1) n) in
        let rest = bounded (s + 1) n in
        let times = one_more n m in
        omega (arith, le (record { 0 = s }), rest, most, times)
      where
        one_more : (n m : ℕ) → suc n * m ≡ n * m + m
        one_more n m = grind arith

-- each value passes the other's by at most m
pub conns-near : (head : Head) (f g : Conn → ℕ) (m : ℕ) → ((d : Conn) → f d ≤ g d + m)
    → sum_by f (conns head) ≤ sum_by g (conns head) + length head.conns * m
conns-near head f g m le = near 0 (length head.conns)
  where
    near : (s n : ℕ) → sum_by f (some_conns s n) ≤ sum_by g (some_conns s n) + n * m
    near s zero = omega arith
    near s (suc n) =
        let most = sum_by-cons f (record { 0 = s }) (some_conns (s + 1) n) in
        let more = sum_by-cons g (record { 0 = s }) (some_conns (s + 1) n) in
        let rest = near (s + 1) n in
        let times = one_more n m in
        omega (arith, le (record { 0 = s }), rest, most, more, times)
      where
        one_more : (n m : ℕ) → suc n * m ≡ n * m + m
        one_more n m = grind arith

-- a value that is the same everywhere
pub conns-const : (head : Head) (f : Conn → ℕ) (m : ℕ) → ((d : Conn) → f d ≡ m) → sum_by f (conns head) ≡ length head.conns * m
conns-const head f m is = const 0 (length head.conns)
  where
    const : (s n : ℕ) → sum_by f (some_conns s n) ≡ n * m
    const s zero = omega arith
    const s (suc n) =
        let most = sum_by-cons f (record { 0 = s }) (some_conns (s + 1) n) in
        let rest = const (s + 1) n in
        let times = one_more n m in
        omega (arith, is (record { 0 = s }), rest, most, times)
      where
        one_more : (n m : ℕ) → suc n * m ≡ n * m + m
        one_more n m = grind arith
