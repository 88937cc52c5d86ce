-- Items of lists that stand one behind the other.
use Rattle.std.proofs.Common.{◌≡◌, ◌<◌, ◌≤◌, ℕ, zero, suc, ◌+◌, List, [], ◌∷◌, ◌++◌, Option, Some, None, ap, refl, sym, length, take, drop, arith, ◌↔◌, Bor}
use Rattle.std.specs.Option.{option_copied}
use Rattle.std.specs.Prelude.{slice_get, IsSome}
use Rattle.std.proofs.lemmas.Option.{slice_get_within}

pub get-left : {T : Type 0} (xs ys : List T) (i : ℕ) → i < length xs → slice_get (xs ++ ys) i ≡ slice_get xs i
get-left [] ys i lt = absurd (omega (arith, lt))
get-left (x ∷ xs) ys zero lt = refl
get-left (x ∷ xs) ys (suc i) lt = get-left xs ys i (omega (arith, lt))

pub get-right : {T : Type 0} (xs ys : List T) (i : ℕ) → slice_get (xs ++ ys) (length xs + i) ≡ slice_get ys i
get-right [] ys i = let e : 0 + i ≡ i = omega arith in rw e refl
get-right (x ∷ xs) ys i = let e : suc (length xs) + i ≡ suc (length xs + i) = omega arith in rw e (get-right xs ys i)

pub get-take : {T : Type 0} (n : ℕ) (xs : List T) (i : ℕ) → i < n → slice_get (take n xs) i ≡ slice_get xs i
get-take zero xs i lt = absurd (omega (arith, lt))
get-take (suc n) [] i lt = refl
get-take (suc n) (x ∷ xs) zero lt = refl
get-take (suc n) (x ∷ xs) (suc i) lt = get-take n xs i (omega (arith, lt))

pub get-drop : {T : Type 0} (n : ℕ) (xs : List T) (i : ℕ) → slice_get (drop n xs) i ≡ slice_get xs (n + i)
get-drop zero xs i = let e : 0 + i ≡ i = omega arith in rw e refl
get-drop (suc n) [] i = refl
get-drop (suc n) (x ∷ xs) i = let e : suc n + i ≡ suc (n + i) = omega arith in rw e (get-drop n xs i)

pub drop-drop : {T : Type 0} (n m : ℕ) (xs : List T) → drop n (drop m xs) ≡ drop (m + n) xs
drop-drop n zero xs = let e : 0 + n ≡ n = omega arith in rw e refl
drop-drop zero (suc m) [] = let e : suc m + 0 ≡ suc m = omega arith in rw e refl
drop-drop (suc n) (suc m) [] = let e : suc m + suc n ≡ suc (m + suc n) = omega arith in rw e refl
drop-drop n (suc m) (x ∷ xs) = let e : suc m + n ≡ suc (m + n) = omega arith in rw e (drop-drop n m xs)

-- what lies within the first q items
pub take-within : {T : Type 0} (n l q : ℕ) (xs : List T) → l + n ≤ q → take n (drop l (take q xs)) ≡ take n (drop l xs)
take-within zero l q xs le = refl
take-within (suc n) zero zero xs le = absurd (omega (arith, le))
take-within (suc n) zero (suc q) [] le = refl
take-within (suc n) zero (suc q) (x ∷ xs) le = ap (λ zs. x ∷ zs) (take-within n zero q xs (omega (arith, le)))
take-within (suc n) (suc l) zero xs le = absurd (omega (arith, le))
take-within (suc n) (suc l) (suc q) [] le = refl
take-within (suc n) (suc l) (suc q) (x ∷ xs) le = take-within (suc n) l q xs (omega (arith, le))

none-past : {T : Type 0} (xs : List T) (i : ℕ) → i < length xs → slice_get xs i ≡ None → ⊥
none-past [] i lt is = omega (arith, lt)
none-past (x ∷ xs) zero lt is = cc
none-past (x ∷ xs) (suc i) lt is = none-past xs i (omega (arith, lt)) is

-- an item is there exactly where its number is within
pub some-within : {T : Type 0} (o : Option (Bor T)) (xs : List T) (i : ℕ) → option_copied o ≡ slice_get xs i → (IsSome o) ↔ (i < length xs)
some-within None xs i is = ((λ no. absurd (cc)), (λ lt. absurd (none-past xs i lt (sym is))))
some-within (Some x) xs i is = ((λ _. slice_get_within xs i x.now (sym is)), (λ _. refl))
