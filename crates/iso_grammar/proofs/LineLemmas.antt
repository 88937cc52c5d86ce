-- Where a line ends.
use Rattle.std.proofs.Common.{◌≡◌, ℕ, zero, suc, ◌+◌, ◌-◌, ◌≤◌, ◌<◌, Bool, true, false, cond, ltb, List, [], ◌∷◌, ◌++◌, length, get_or, take, drop, Some, None, refl, sym, ap, subst, ◌∙◌, add-one, drop-cons, take-append-drop, arith}
use Rattle.std.specs.Prelude.{◌&&◌, ◌==◌}
use Rattle.std.specs.List.{position, position_or_len}
use Rattle.std.proofs.lemmas.Bool.{eqb-true, ltb-false}
use Rattle.std.proofs.lemmas.List.{drop_all, take_all}
use Rattle.std.proofs.lemmas.List.Sums.{fails_before_first}
use Rattle.std.proofs.lemmas.List.Quantifiers.{position-Some}
use Rattle.iso_grammar.specs.Lex.{begins_with}
use Rattle.iso_grammar.specs.Lines.{lines, onto, without_cr}

is_lf : ℕ → Bool
is_lf = λ b. b == 10

-- no LF stands in the list
abbrev NoLf : List ℕ → Type 0
NoLf [] = Unit {0}
NoLf (b ∷ bs) = ((b == 10) ≡ false) × NoLf bs

next_line : (b : ℕ) (bs : List ℕ) (x : List ℕ) (more : List (List ℕ)) → (b == 10) ≡ false → (b == 13 && begins_with 10 bs) ≡ false → lines bs ≡ x ∷ more → lines (b ∷ bs) ≡ (b ∷ x) ∷ more
next_line b bs x more n c e = ap (λ v. cond v ([] ∷ lines bs) (cond (b == 13 && begins_with 10 bs) (lines bs) (onto b (lines bs)))) n ∙ ap (λ v. cond v (lines bs) (onto b (lines bs))) c ∙ ap (onto b) e

and_false : (a b : Bool) → b ≡ false → (a && b) ≡ false
and_false true b e = e
and_false false b e = refl

uncut_raw : (b : ℕ) (bs : List ℕ) → NoLf (b ∷ bs) → lines (b ∷ bs) ≡ (b ∷ bs) ∷ []
uncut_raw b [] h = ap (λ v. cond v ([] ∷ []) (cond (b == 13 && false) [] (onto b []))) h.0 ∙ ap (λ v. cond v [] (onto b [])) (and_false (b == 13) false refl)
uncut_raw b (c ∷ bs) h = next_line b (c ∷ bs) (c ∷ bs) [] h.0 (and_false (b == 13) (c == 10) h.1.0) (uncut_raw c bs h.1)

cut_raw : (raw rest : List ℕ) → NoLf raw → lines (raw ++ 10 ∷ rest) ≡ without_cr raw ∷ lines rest
cut_raw [] rest h = refl
cut_raw (b ∷ []) rest h =
    ap (λ v. cond v ([] ∷ ([] ∷ lines rest)) (cond (b == 13 && true) ([] ∷ lines rest) ((b ∷ []) ∷ lines rest))) h.0
    ∙ elim (b == 13) as (λ v. cond (v && true) ([] ∷ lines rest) ((b ∷ []) ∷ lines rest) ≡ (cond v [] (b ∷ [])) ∷ lines rest) [ true ↦ refl | false ↦ refl ]
cut_raw (b ∷ c ∷ raw) rest h = next_line b ((c ∷ raw) ++ 10 ∷ rest) (without_cr (c ∷ raw)) (lines rest) h.0 (and_false (b == 13) (c == 10) h.1.0) (cut_raw (c ∷ raw) rest h.1)

no_lf : (n : ℕ) (bs : List ℕ) → ((k : ℕ) → k < n → (get_or bs k 0 == 10) ≡ false) → NoLf (take n bs)
no_lf zero bs h = tt
no_lf (suc n) [] h = tt
no_lf (suc n) (b ∷ bs) h = (h 0 (omega arith), no_lf n bs (λ k lt. h (suc k) (omega arith)))

-- an LF ends the first line
pub cut_at : (bs : List ℕ) (i : ℕ) → position (λ b. b == 10) bs ≡ Some i → lines bs ≡ without_cr (take i bs) ∷ lines (drop (i + 1) bs)
cut_at bs i e =
    let p = position-Some (λ b. b == 10) bs i 0 e in
    let lt : i < length bs = p.0 in
    let lf : get_or bs i 0 ≡ 10 = eqb-true (get_or bs i 0) 10 p.1 in
    let behind : drop i bs ≡ 10 ∷ drop (i + 1) bs = rw (add-one, drop-cons bs i 0) (ap (λ b. b ∷ drop (suc i) bs) lf) in
    let split : bs ≡ take i bs ++ 10 ∷ drop (i + 1) bs = sym (take-append-drop i bs) ∙ ap (λ z. take i bs ++ z) behind in
    ap lines split ∙ cut_raw (take i bs) (drop (i + 1) bs) (no_lf i bs p.2)

none_before : (n m : ℕ) (v : Bool) → ltb n m ≡ v → cond v (Some n) None ≡ None → m ≤ n
none_before n m true e f = absurd (some_none n f)
  where
    some_none : (n : ℕ) → Some n ≡ None → ⊥
    some_none n e = cc
none_before n m false e f = ltb-false n m e

-- without an LF all is one line
pub uncut : (bs : List ℕ) → position (λ b. b == 10) bs ≡ None → 0 < length bs → lines bs ≡ bs ∷ lines (drop (length bs) bs)
uncut [] e lt = absurd (omega arith)
uncut (b ∷ bs) e lt =
    let far : length (b ∷ bs) ≤ position_or_len (λ b. b == 10) (b ∷ bs) = none_before (position_or_len (λ b. b == 10) (b ∷ bs)) (length (b ∷ bs)) (ltb (position_or_len (λ b. b == 10) (b ∷ bs)) (length (b ∷ bs))) refl e in
    uncut_raw b bs (subst NoLf (take_all (length (b ∷ bs)) (b ∷ bs) (omega arith)) (no_lf (length (b ∷ bs)) (b ∷ bs) (λ k less. fails_before_first (λ b. b == 10) (b ∷ bs) k 0 (omega (arith, less, far)))))
    ∙ ap (λ z. (b ∷ bs) ∷ lines z) (sym (drop_all (length (b ∷ bs)) (b ∷ bs) (omega arith)))

-- a CR at the end
pub trim_cr : (raw : List ℕ) → 0 < length raw → get_or raw (length raw - 1) 0 ≡ 13 → take (length raw - 1) raw ≡ without_cr raw
trim_cr [] lt e = absurd (omega arith)
trim_cr (b ∷ []) lt e = sym (ap (λ x. cond (x == 13) [] (x ∷ [])) e)
trim_cr (b ∷ c ∷ bs) lt e =
    let n : length (b ∷ c ∷ bs) - 1 ≡ suc (length (c ∷ bs) - 1) = omega arith in
    ap (λ m. take m (b ∷ c ∷ bs)) n ∙ ap (λ z. b ∷ z) (trim_cr (c ∷ bs) (omega arith) (sym (ap (λ m. get_or (b ∷ c ∷ bs) m 0) n) ∙ e))

-- another end
pub keep_end : (raw : List ℕ) → 0 < length raw → (get_or raw (length raw - 1) 0 == 13) ≡ false → raw ≡ without_cr raw
keep_end [] lt h = refl
keep_end (b ∷ []) lt h = sym (ap (λ v. cond v [] (b ∷ [])) h)
keep_end (b ∷ c ∷ bs) lt h =
    let n : length (b ∷ c ∷ bs) - 1 ≡ suc (length (c ∷ bs) - 1) = omega arith in
    ap (λ z. b ∷ z) (keep_end (c ∷ bs) (omega arith) (sym (ap (λ m. get_or (b ∷ c ∷ bs) m 0 == 13) n) ∙ h))
