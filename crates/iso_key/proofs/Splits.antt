-- Binary search in a list that rises.
use Rattle.std.proofs.Common.{◌≡◌, ℕ, zero, suc, ◌+◌, ◌-◌, ◌<◌, ◌≤◌, Bool, true, false, List, [], ◌∷◌, length, get_or, take, drop, refl, ap, arith, subst, slice_get}
use Rattle.std.specs.List.{list_all, list_any}
use Rattle.std.specs.Prelude.{find}
use Rattle.iso_key.proofs.Truths.{both, either}
use Rattle.iso_key.specs.Splits.{IsBetween, IsRising}

-- what all pass, the one at a place passes
pub all-at : {A : Type 0} (t : A → Bool) (xs : List A) (k : ℕ) (d : A) → list_all t xs ≡ true → k < length xs → t (get_or xs k d) ≡ true
all-at t [] k d a l = absurd (omega (arith, l))
all-at t (x ∷ xs) zero d a l = (both (t x) (list_all t xs) a).0
all-at t (x ∷ xs) (suc k) d a l = all-at t xs k d (both (t x) (list_all t xs) a).1 (omega arith)

-- where one does not pass, none before it does
pub rising-false : {A : Type 0} (t : A → Bool) (xs : List A) (k : ℕ) (d : A) → IsRising t xs → k < length xs → t (get_or xs k d) ≡ false
    → list_any t (take (suc k) xs) ≡ false
rising-false t [] k d r l e = absurd (omega (arith, l))
rising-false t (x ∷ xs) zero d r l e = rw e refl
rising-false t (x ∷ xs) (suc k) d r l e = go (rising-false t xs k d r.1 (omega arith) e) (t x) refl
  where
    go : list_any t (take (suc k) xs) ≡ false → (b : Bool) → t x ≡ b → list_any t (take (suc (suc k)) (x ∷ xs)) ≡ false
    go ih true f = let z : t (get_or xs k d) ≡ true = all-at t xs k d (r.0 f) (omega arith) in absurd (cc)
    go ih false f = rw f ih

-- where one passes, all behind it do
pub rising-true : {A : Type 0} (t : A → Bool) (xs : List A) (k : ℕ) (d : A) → IsRising t xs → k < length xs → t (get_or xs k d) ≡ true
    → list_all t (drop k xs) ≡ true
rising-true t [] k d r l e = absurd (omega (arith, l))
rising-true t (x ∷ xs) zero d r l e = rw e (r.0 e)
rising-true t (x ∷ xs) (suc k) d r l e = rising-true t xs k d r.1 (omega arith) e

-- the search goes on below one that passes
pub between-true : {A : Type 0} (t : A → Bool) (xs : List A) (low high k : ℕ) (d : A) → IsRising t xs → IsBetween t xs low high → low ≤ k → k < high
    → d ≡ get_or xs k d → t d ≡ true → IsBetween t xs low k
between-true {A} t xs low high k d r b f g i h = let e : t (get_or xs k d) ≡ true = subst (λ (z : A). t z ≡ true) i h in let w = b.within in
    record { fits = f; within = omega arith; before = b.before; behind = rising-true t xs k d r (omega arith) e }

-- and above one that does not
pub between-false : {A : Type 0} (t : A → Bool) (xs : List A) (low high k : ℕ) (d : A) → IsRising t xs → IsBetween t xs low high → k < high
    → d ≡ get_or xs k d → t d ≡ false → IsBetween t xs (k + 1) high
between-false {A} t xs low high k d r b g i h = let e : t (get_or xs k d) ≡ false = subst (λ (z : A). t z ≡ false) i h in let w = b.within in
    record { fits = omega arith; within = w; before = subst (λ (n : ℕ). list_any t (take n xs) ≡ false) {x = suc k} (omega arith) (rising-false t xs k d r (omega arith) e); behind = b.behind }

-- the first that passes stands at the split
pub find-at : {A : Type 0} (t : A → Bool) (xs : List A) (at : ℕ) → list_any t (take at xs) ≡ false → list_all t (drop at xs) ≡ true → find t xs ≡ slice_get xs at
find-at t [] zero b a = refl
find-at t [] (suc at) b a = refl
find-at t (x ∷ xs) zero b a = rw (both (t x) (list_all t xs) a).0 refl
find-at t (x ∷ xs) (suc at) b a = let e = either (t x) (list_any t (take at xs)) b in rw e.0 (find-at t xs at e.1 a)

-- taking as many as there are takes all
pub take-over : {A : Type 0} (xs : List A) (k : ℕ) → length xs ≤ k → take k xs ≡ xs
take-over [] zero l = refl
take-over [] (suc k) l = refl
take-over (x ∷ xs) zero l = absurd (omega (arith, l))
take-over {A} (x ∷ xs) (suc k) l = ap (λ (z : List A). x ∷ z) (take-over xs k (omega arith))

pub length-drop : {A : Type 0} (xs : List A) (n : ℕ) → length (drop n xs) ≡ length xs - n
length-drop [] zero = omega arith
length-drop [] (suc n) = omega arith
length-drop (x ∷ xs) zero = omega arith
length-drop (x ∷ xs) (suc n) = let e = length-drop xs n in omega (arith, e)

pub take-rest : {A : Type 0} (xs : List A) (n : ℕ) → take (length xs - n) (drop n xs) ≡ drop n xs
take-rest xs n = let e = length-drop xs n in take-over (drop n xs) (length xs - n) (omega (arith, e))
