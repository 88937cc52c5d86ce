-- The line of a number is in one half of lines whose numbers rise.
use Rattle.std.proofs.Common.{◌≡◌, ◌<◌, ◌≤◌, ℕ, Bool, true, false, List, [], ◌∷◌, ◌++◌, length, refl, sym, ap, ◌∙◌, subst, Option, Some, None, arith}
use Rattle.std.proofs.lemmas.Bool.{and_parts, ltb-true, ne_eqb}
use Rattle.std.proofs.lemmas.List.{take-append-drop}
use Rattle.std.proofs.lemmas.List.Folds.{find-append}
use Rattle.std.specs.Option.{option_or}
use Rattle.std.specs.Prelude.{◌==◌, ◌&&◌, drop, find, slice_index_or, take}
use Rattle.iso_agent.specs.Rising.{rises}
use Rattle.iso_script.specs.Numbered.{rises_above}
use Rattle.iso_script.specs.declared.script.Line.{Line}

-- the line has the number
abbrev is_at : ℕ → Line → Bool
is_at m l = l.number == m

above-front : (n : ℕ) (xs ys : List Line) → rises_above n (xs ++ ys) ≡ true → rises_above n xs ≡ true
above-front n [] ys h = refl
above-front n (x ∷ xs) ys h =
    let p = and_parts _ _ h in
    ap (λ b. b && rises_above x.number xs) p.0 ∙ above-front x.number xs ys p.1

front-rises : (xs ys : List Line) → rises (xs ++ ys) ≡ true → rises xs ≡ true
front-rises [] ys h = refl
front-rises (x ∷ xs) ys h = above-front x.number xs ys h

above-rises : (n : ℕ) (xs : List Line) → rises_above n xs ≡ true → rises xs ≡ true
above-rises n [] h = refl
above-rises n (x ∷ xs) h = (and_parts _ _ h).1

above-back : (n : ℕ) (xs ys : List Line) → rises_above n (xs ++ ys) ≡ true → rises ys ≡ true
above-back n [] ys h = above-rises n ys h
above-back n (x ∷ xs) ys h = above-back x.number xs ys ((and_parts _ _ h).1)

back-rises : (xs ys : List Line) → rises (xs ++ ys) ≡ true → rises ys ≡ true
back-rises [] ys h = h
back-rises (x ∷ xs) ys h = above-back x.number xs ys h

-- lines above a number don't have it, nor a lower one
none-above : (n m : ℕ) (xs : List Line) → m ≤ n → rises_above n xs ≡ true → find (is_at m) xs ≡ None
none-above n m [] le h = refl
none-above n m (x ∷ xs) le h =
    let lt : n < x.number = ltb-true _ _ ((and_parts _ _ h).0) in
    let other : (x.number == m) ≡ false = ne_eqb _ _ (λ s. omega (arith, lt, le, s)) in
    rw other (none-above x.number m xs (omega (arith, lt, le)) ((and_parts _ _ h).1))

-- what stands behind a line is above it
behind : (n : ℕ) (xs : List Line) (y : Line) (ys : List Line) → rises_above n (xs ++ y ∷ ys) ≡ true → n < y.number
behind n [] y ys h = ltb-true _ _ ((and_parts _ _ h).0)
behind n (x ∷ xs) y ys h =
    let lt : n < x.number = ltb-true _ _ ((and_parts _ _ h).0) in
    let later = behind x.number xs y ys ((and_parts _ _ h).1) in
    omega (arith, lt, later)

none-before : (m : ℕ) (xs : List Line) (y : Line) (ys : List Line) → y.number ≤ m → rises (xs ++ y ∷ ys) ≡ true → find (is_at m) xs ≡ None
none-before m [] y ys le h = refl
none-before m (x ∷ xs) y ys le h =
    let lt = behind x.number xs y ys h in
    let other : (x.number == m) ≡ false = ne_eqb _ _ (λ s. omega (arith, lt, le, s)) in
    rw other (none-before m xs y ys le (above-rises x.number (xs ++ y ∷ ys) h))

or-none : (o : Option Line) → option_or o None ≡ o
or-none None = refl
or-none (Some l) = refl

module _ (m : ℕ) (d : Line) (xs zs : List Line) (some : 1 ≤ length zs) (r : rises (xs ++ zs) ≡ true) where
  in-back : (slice_index_or zs 0 d).number ≤ m → find (is_at m) zs ≡ find (is_at m) (xs ++ zs)
  in-back le = go zs some r le
    where
      go : (ys : List Line) → 1 ≤ length ys → rises (xs ++ ys) ≡ true → (slice_index_or ys 0 d).number ≤ m → find (is_at m) ys ≡ find (is_at m) (xs ++ ys)
      go [] s h k = absurd (omega (arith, s))
      go (y ∷ ys) s h k =
          sym (find-append (is_at m) xs (y ∷ ys) ∙ ap (λ o. option_or o (find (is_at m) (y ∷ ys))) (none-before m xs y ys k h))

  in-front : m < (slice_index_or zs 0 d).number → find (is_at m) xs ≡ find (is_at m) (xs ++ zs)
  in-front lt = go zs some r lt
    where
      go : (ys : List Line) → 1 ≤ length ys → rises (xs ++ ys) ≡ true → m < (slice_index_or ys 0 d).number → find (is_at m) xs ≡ find (is_at m) (xs ++ ys)
      go [] s h k = absurd (omega (arith, s))
      go (y ∷ ys) s h k =
          let other : (y.number == m) ≡ false = ne_eqb _ _ (λ e. omega (arith, k, e)) in
          let none : find (is_at m) (y ∷ ys) ≡ None = rw other (none-above y.number m ys (omega (arith, k)) (back-rises xs (y ∷ ys) h)) in
          sym (find-append (is_at m) xs (y ∷ ys) ∙ ap (λ o. option_or (find (is_at m) xs) o) none ∙ or-none (find (is_at m) xs))

-- the same of the halves of a list
module _ (m : ℕ) (d : Line) (k : ℕ) (ls : List Line) (some : 1 ≤ length (drop k ls)) (r : rises ls ≡ true) where
  whole : take k ls ++ drop k ls ≡ ls
  whole = take-append-drop k ls

  split : rises (take k ls ++ drop k ls) ≡ true
  split = ap rises whole ∙ r

  pub back-half : (slice_index_or (drop k ls) 0 d).number ≤ m → find (λ l. l.number == m) (drop k ls) ≡ find (λ l. l.number == m) ls
  back-half le = in-back m d (take k ls) (drop k ls) some split le ∙ ap (find (is_at m)) whole

  pub front-half : m < (slice_index_or (drop k ls) 0 d).number → find (λ l. l.number == m) (take k ls) ≡ find (λ l. l.number == m) ls
  front-half lt = in-front m d (take k ls) (drop k ls) some split lt ∙ ap (find (is_at m)) whole

  pub back-half-rises : rises (drop k ls) ≡ true
  back-half-rises = back-rises (take k ls) (drop k ls) split

  pub front-half-rises : rises (take k ls) ≡ true
  front-half-rises = front-rises (take k ls) (drop k ls) split
