-- The lines that a history has passed, and the first line of a number behind them.
use Rattle.std.proofs.Common.{refl, length, ◌≡◌, ℕ, ◌+◌, ◌≤◌, ◌<◌, List, [], ◌∷◌, true, false, arith, zero, suc, Some, ap, subst, ◌∙◌, drop}
use Rattle.std.proofs.lemmas.Bool.{and_parts, lt-ltb, ltb-true, ne_eqb}
use Rattle.std.specs.Prelude.{◌==◌, ◌&&◌, nat_lt, slice_index_or, slice_set}
use Rattle.iso_render.specs.Opened.{are_below, changes_at}
use Rattle.iso_script.specs.declared.script.Line.{Line}

-- lower numbers than one are lower than a greater one
pub below-more : (lines : List Line) (at m n : ℕ) → m ≤ n → are_below lines at m ≡ true → are_below lines at n ≡ true
below-more [] at m n le h = refl
below-more (l ∷ ls) zero m n le h = refl
below-more (l ∷ ls) (suc at) m n le h =
    let lt : l.number < m = ltb-true _ _ ((and_parts _ _ h).0) in
    let here : nat_lt l.number n ≡ true = lt-ltb _ _ (omega (arith, lt, le)) in
    rw here (below-more ls at m n le ((and_parts _ _ h).1))

-- before the first line there is none
pub none-below : (lines : List Line) (n : ℕ) → are_below lines zero n ≡ true
none-below [] n = refl
none-below (l ∷ ls) n = refl

one-more : (lines : List Line) (at n : ℕ) (d : Line) → at < length lines → (slice_index_or lines at d).number < n → are_below lines at n ≡ true
    → are_below lines (suc at) n ≡ true
one-more [] at n d in-range lt h = refl
one-more (x ∷ xs) zero n d in-range lt h =
    let here : nat_lt x.number n ≡ true = lt-ltb _ _ lt in
    ap (λ b. b && are_below xs zero n) here ∙ none-below xs n
one-more (x ∷ xs) (suc at) n d in-range lt h =
    let here : nat_lt x.number n ≡ true = (and_parts _ _ h).0 in
    ap (λ b. b && are_below xs (suc at) n) here ∙ one-more xs at n d (omega (arith, in-range)) lt ((and_parts _ _ h).1)

-- one line more is passed
pub below-next : (lines : List Line) (at n : ℕ) (d : Line) → at < length lines → (slice_index_or lines at d).number < n → are_below lines at n ≡ true
    → are_below lines (at + 1) n ≡ true
below-next lines at n d in-range lt h =
    let same : suc at ≡ at + 1 = omega arith in
    subst (λ k. are_below lines k n ≡ true) same (one-more lines at n d in-range lt h)

-- no line that is passed has the number
pub changes-behind : (lines : List Line) (at n : ℕ) → are_below lines at n ≡ true → changes_at lines n ≡ changes_at (drop at lines) n
changes-behind [] zero n h = refl
changes-behind [] (suc at) n h = refl
changes-behind (x ∷ xs) zero n h = refl
changes-behind (x ∷ xs) (suc at) n h =
    let lt : x.number < n = ltb-true _ _ ((and_parts _ _ h).0) in
    let other : (x.number == n) ≡ false = ne_eqb _ _ (λ s. omega (arith, lt, s)) in
    rw other (changes-behind xs at n ((and_parts _ _ h).1))

-- a write past the end leaves the list as it is
pub set_past : {X : Type 0} (xs : List X) (i : ℕ) (y : X) → length xs ≤ i → slice_set xs i y ≡ xs
set_past [] i y h = refl
set_past (x ∷ xs) zero y h = absurd (omega arith)
set_past (x ∷ xs) (suc i) y h = ap (λ ys. x ∷ ys) (set_past xs i y (omega arith))
