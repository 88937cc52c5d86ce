-- What a unit has left to undo, after one more record.
use Rattle.std.proofs.Common.{◌≡◌, ◌≢◌, ◌<◌, ◌≤◌, ◌+◌, ℕ, suc, Bool, true, false, not, List, [], ◌∷◌, ◌++◌, length, refl, ap, sym, ◌∙◌, arith, Some, None, Option, subst}
use Rattle.std.specs.Prelude.{◌==◌, filter, slice_get}
use Rattle.std.proofs.lemmas.Bool.Decides.{nat_tests}
use Rattle.iso_history.specs.Records.{left, left_by, left_from}
use Rattle.iso_history.specs.World.{Note}

left_from-snoc : (u k : ℕ) (acc : List ℕ) (ns : List Note) (n : Note) → left_from u k acc (ns ++ n ∷ []) ≡ left_by u (k + length ns) (left_from u k acc ns) n
left_from-snoc u k acc [] n = let e : k ≡ k + 0 = omega arith in ap (λ z. left_by u z acc n) e
left_from-snoc u k acc (m ∷ ns) n =
    let e : (k + 1) + length ns ≡ k + suc (length ns) = omega arith in
    left_from-snoc u (k + 1) (left_by u k acc m) ns n ∙ ap (λ z. left_by u z (left_from u (k + 1) (left_by u k acc m) ns) n) e

-- one more record is the last of them
pub left-snoc : (u : ℕ) (ns : List Note) (n : Note) → left (ns ++ n ∷ []) u ≡ left_by u (length ns) (left ns u) n
left-snoc u ns n =
    let e : 0 + length ns ≡ length ns = omega arith in left_from-snoc u 0 [] ns n ∙ ap (λ z. left_by u z (left ns u) n) e

-- another unit's record leaves what the unit has left
pub left-other : (u : ℕ) (ns : List Note) (n : Note) → n.unit ≢ u → left (ns ++ n ∷ []) u ≡ left ns u
left-other u ns n ne = left-snoc u ns n ∙ other
  where
    other : left_by u (length ns) (left ns u) n ≡ left ns u
    other = grind (arith, nat_tests)

left_by-add : (u k : ℕ) (acc : List ℕ) (n : Note) → n.unit ≡ u → n.undoes ≡ None → left_by u k acc n ≡ k ∷ acc
left_by-add u k acc n e none = let t : (n.unit == u) ≡ true = grind (arith, nat_tests) in rw (t, none) refl

left_by-take : (u k m : ℕ) (acc : List ℕ) (n : Note) → n.unit ≡ u → n.undoes ≡ Some m → left_by u k acc n ≡ filter (λ x. not (x == m)) acc
left_by-take u k m acc n e un = let t : (n.unit == u) ≡ true = grind (arith, nat_tests) in rw (t, un) refl

-- a change of the unit comes first of what it has left
pub left-add : (u : ℕ) (ns : List Note) (n : Note) → n.unit ≡ u → n.undoes ≡ None → left (ns ++ n ∷ []) u ≡ length ns ∷ left ns u
left-add u ns n e none = left-snoc u ns n ∙ left_by-add u (length ns) (left ns u) n e none

-- numbers below k, each less than the one before
abbrev pub Falls : ℕ → List ℕ → Type 0
Falls k [] = Unit {0}
Falls k (m ∷ ms) = (m < k) × Falls m ms

Falls-more : (a b : ℕ) (ms : List ℕ) → a ≤ b → Falls a ms → Falls b ms
Falls-more a b [] le h = tt
Falls-more a b (m ∷ ms) le h = (omega (arith, h.0, le), h.1)

Falls-filter : (k : ℕ) (p : ℕ → Bool) (ms : List ℕ) → Falls k ms → Falls k (filter p ms)
Falls-filter k p [] h = tt
Falls-filter k p (m ∷ ms) h = go (Falls-filter m p ms h.1) (p m) refl
  where
    go : Falls m (filter p ms) → (b : Bool) → p m ≡ b → Falls k (filter p (m ∷ ms))
    go ih true e = rw e (h.0, ih)
    go ih false e = let le : m ≤ k = omega (arith, h.0) in rw e (Falls-more m k (filter p ms) le ih)

left_by-falls : (u k : ℕ) (acc : List ℕ) (n : Note) → Falls k acc → Falls (k + 1) (left_by u k acc n)
left_by-falls u k acc n h = go (n.unit == u) refl n.undoes refl
  where
    lt : k < k + 1
    lt = omega arith

    le : k ≤ k + 1
    le = omega arith

    go : (b : Bool) → (n.unit == u) ≡ b → (o : Option ℕ) → n.undoes ≡ o → Falls (k + 1) (left_by u k acc n)
    go false e o f = rw e (Falls-more k (k + 1) acc le h)
    go true e None f = let same : n.unit ≡ u = grind (arith, nat_tests) in subst (Falls (k + 1)) (sym (left_by-add u k acc n same f)) (lt, h)
    go true e (Some m) f = let same : n.unit ≡ u = grind (arith, nat_tests) in
        subst (Falls (k + 1)) (sym (left_by-take u k m acc n same f))
        (Falls-more k (k + 1) (filter (λ x. not (x == m)) acc) le (Falls-filter k (λ x. not (x == m)) acc h))

left_from-falls : (u k : ℕ) (acc : List ℕ) (ns : List Note) → Falls k acc → Falls (k + length ns) (left_from u k acc ns)
left_from-falls u k acc [] h = let le : k ≤ k + 0 = omega arith in Falls-more k (k + 0) acc le h
left_from-falls u k acc (n ∷ ns) h =
    let le : (k + 1) + length ns ≤ k + suc (length ns) = omega arith in
    Falls-more _ _ _ le (left_from-falls u (k + 1) (left_by u k acc n) ns (left_by-falls u k acc n h))

-- what a unit has left falls, from its greatest record on
pub left-falls : (u : ℕ) (ns : List Note) → Falls (length ns) (left ns u)
left-falls u ns = let e : 0 + length ns ≡ length ns = omega arith in subst (λ (k : ℕ). Falls k (left ns u)) e (left_from-falls u 0 [] ns tt)

filter-below : (n k : ℕ) (ms : List ℕ) → k ≤ n → Falls k ms → filter (λ x. not (x == n)) ms ≡ ms
filter-below n k [] le h = refl
filter-below n k (m ∷ ms) le h =
    let lt : m < n = omega (arith, h.0, le) in
    let short : m ≤ n = omega (arith, lt) in
    let t : (m == n) ≡ false = grind (arith, nat_tests) in
    rw (t, filter-below n m ms short h.1) refl

filter-head : (n : ℕ) (ms : List ℕ) → Falls n ms → filter (λ x. not (x == n)) (n ∷ ms) ≡ ms
filter-head n ms h =
    let t : (n == n) ≡ true = grind (arith, nat_tests) in let le : n ≤ n = omega arith in rw (t, filter-below n n ms le h) refl

-- an undo of the unit's greatest record takes that one off
pub left-take : (u n : ℕ) (ns : List Note) (note : Note) → note.unit ≡ u → note.undoes ≡ Some n → slice_get (left ns u) 0 ≡ Some n
    → left ns u ≡ n ∷ left (ns ++ note ∷ []) u
left-take u n ns note e un top = go (left ns u) refl (left-falls u ns) top
  where
    after_take : left (ns ++ note ∷ []) u ≡ filter (λ x. not (x == n)) (left ns u)
    after_take = left-snoc u ns note ∙ left_by-take u (length ns) n (left ns u) note e un

    go : (ms : List ℕ) → left ns u ≡ ms → Falls (length ns) ms → slice_get ms 0 ≡ Some n → left ns u ≡ n ∷ left (ns ++ note ∷ []) u
    go [] is h f = absurd (cc)
    go (m ∷ ms) is h f =
        let mn : m ≡ n = cc in
        let ls : left ns u ≡ n ∷ ms = is ∙ ap (λ z. z ∷ ms) mn in
        ls ∙ ap (λ z. n ∷ z) (sym (after_take ∙ ap (filter (λ x. not (x == n))) ls ∙ filter-head n ms (subst (λ (z : ℕ). Falls z ms) mn h.1)))
