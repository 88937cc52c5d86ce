-- The changes that a unit has left: its own records, the newest first.
use Rattle.std.proofs.Common.{◌≡◌, ◌≢◌, ◌<◌, ◌≤◌, ◌+◌, ℕ, suc, Bool, true, false, not, List, [], ◌∷◌, ◌++◌, length, refl, ap, sym, ◌∙◌, arith, Some, None, Option, length-append, subst, filter, slice_get, append_assoc, append-nil}
use Rattle.std.specs.Prelude.{◌==◌}
use Rattle.std.proofs.lemmas.Bool.Decides.{nat_tests}
use Rattle.std.proofs.Math.ListN.{get_or-append}
use Rattle.std.proofs.Math.Seq.{get_or-append_seam}
use Rattle.iso_history.specs.Piles.{has}
use Rattle.iso_history.specs.Records.{left, left_by, left_from, no_note, note_of}
use Rattle.iso_history.specs.World.{Note}

left_from-snoc : (u k : ℕ) (acc : List ℕ) (ns : List Note) (n : Note) → left_from u k acc (ns ++ n ∷ []) ≡ left_by u (k + length ns) (left_from u k acc ns) n
left_from-snoc u k acc [] n = let e : k ≡ k + 0 = omega arith in ap (λ z. left_by u z acc n) e
left_from-snoc u k acc (m ∷ ns) n = let e : (k + 1) + length ns ≡ k + suc (length ns) = omega arith in
    left_from-snoc u (k + 1) (left_by u k acc m) ns n ∙ ap (λ z. left_by u z (left_from u (k + 1) (left_by u k acc m) ns) n) e

pub left-snoc : (u : ℕ) (ns : List Note) (n : Note) → left (ns ++ n ∷ []) u ≡ left_by u (length ns) (left ns u) n
left-snoc u ns n = let e : 0 + length ns ≡ length ns = omega arith in left_from-snoc u 0 [] ns n ∙ ap (λ z. left_by u z (left ns u) n) e

pub left_by-add : (u k : ℕ) (acc : List ℕ) (n : Note) → n.unit ≡ u → n.undoes ≡ None → left_by u k acc n ≡ k ∷ acc
left_by-add u k acc n e none = let t : (n.unit == u) ≡ true = grind (arith, nat_tests) in rw (t, none) refl

pub left_by-take : (u k m : ℕ) (acc : List ℕ) (n : Note) → n.unit ≡ u → n.undoes ≡ Some m → left_by u k acc n ≡ filter (λ x. not (x == m)) acc
left_by-take u k m acc n e un = let t : (n.unit == u) ≡ true = grind (arith, nat_tests) in rw (t, un) refl

pub left_by-other : (u k : ℕ) (acc : List ℕ) (n : Note) → n.unit ≢ u → left_by u k acc n ≡ acc
left_by-other u k acc n ne = let t : (n.unit == u) ≡ false = grind (arith, nat_tests) in rw t refl

-- each is less than n
abbrev pub AllBelow : ℕ → List ℕ → Type 0
AllBelow n [] = Unit {0}
AllBelow n (m ∷ ms) = (m < n) × AllBelow n ms

-- each is a record of the unit, and they fall
abbrev pub Owned : List Note → ℕ → List ℕ → Type 0
Owned notes u [] = Unit {0}
Owned notes u (n ∷ ns) = (n < length notes) × ((note_of notes n).unit ≡ u) × AllBelow n ns × Owned notes u ns

pub note_of-more : (notes : List Note) (n : Note) (k : ℕ) → k < length notes → note_of (notes ++ n ∷ []) k ≡ note_of notes k
note_of-more notes n k lt = get_or-append notes (n ∷ []) no_note k lt

pub note_of-new : (notes : List Note) (n : Note) → note_of (notes ++ n ∷ []) (length notes) ≡ n
note_of-new notes n = get_or-append_seam notes n [] no_note

pub length-more : (notes : List Note) (n : Note) → length (notes ++ n ∷ []) ≡ length notes + 1
length-more notes n = length-append notes (n ∷ [])

Owned-more : (notes : List Note) (n : Note) (u : ℕ) (ms : List ℕ) → Owned notes u ms → Owned (notes ++ n ∷ []) u ms
Owned-more notes n u [] h = tt
Owned-more notes n u (m ∷ ms) h =
    let l = length-more notes n in
    (omega (arith, h.0, l), ap (λ z. z.unit) (note_of-more notes n m h.0) ∙ h.1, h.2, Owned-more notes n u ms h.3)

Below-filter : (k : ℕ) (p : ℕ → Bool) (ms : List ℕ) → AllBelow k ms → AllBelow k (filter p ms)
Below-filter k p [] h = tt
Below-filter k p (m ∷ ms) h = go (Below-filter k p ms h.1) (p m) refl
  where
    go : AllBelow k (filter p ms) → (b : Bool) → p m ≡ b → AllBelow k (filter p (m ∷ ms))
    go ih true e = rw e (h.0, ih)
    go ih false e = rw e ih

Owned-filter : (notes : List Note) (u : ℕ) (p : ℕ → Bool) (ms : List ℕ) → Owned notes u ms → Owned notes u (filter p ms)
Owned-filter notes u p [] h = tt
Owned-filter notes u p (m ∷ ms) h = go (Owned-filter notes u p ms h.3) (p m) refl
  where
    go : Owned notes u (filter p ms) → (b : Bool) → p m ≡ b → Owned notes u (filter p (m ∷ ms))
    go ih true e = rw e (h.0, h.1, Below-filter m p ms h.2, ih)
    go ih false e = rw e ih

Owned-below : (notes : List Note) (u : ℕ) (ms : List ℕ) → Owned notes u ms → AllBelow (length notes) ms
Owned-below notes u [] h = tt
Owned-below notes u (m ∷ ms) h = (h.0, Owned-below notes u ms h.3)

-- one more record
Owned-snoc : (notes : List Note) (n : Note) (u : ℕ) (ms : List ℕ) → Owned notes u ms → Owned (notes ++ n ∷ []) u (left_by u (length notes) ms n)
Owned-snoc notes n u ms h = go (n.unit == u) refl n.undoes refl
  where
    more : Owned (notes ++ n ∷ []) u ms
    more = Owned-more notes n u ms h

    go : (b : Bool) → (n.unit == u) ≡ b → (o : Option ℕ) → n.undoes ≡ o → Owned (notes ++ n ∷ []) u (left_by u (length notes) ms n)
    go false e o k = rw e more
    go true e None k =
        let is : n.unit ≡ u = grind (arith, nat_tests) in
        let l = length-more notes n in
        subst (Owned (notes ++ n ∷ []) u) (sym (left_by-add u (length notes) ms n is k))
        (omega (arith, l), ap (λ z. z.unit) (note_of-new notes n) ∙ is, Owned-below notes u ms h, more)
    go true e (Some m) k =
        let is : n.unit ≡ u = grind (arith, nat_tests) in
        subst (Owned (notes ++ n ∷ []) u) (sym (left_by-take u (length notes) m ms n is k)) (Owned-filter (notes ++ n ∷ []) u (λ x. not (x == m)) ms more)

Owned-from : (u : ℕ) (notes : List Note) (acc : List ℕ) (ns : List Note) → Owned notes u acc → Owned (notes ++ ns) u (left_from u (length notes) acc ns)
Owned-from u notes acc [] h = subst (λ (z : List Note). Owned z u acc) (sym (append-nil notes)) h
Owned-from u notes acc (n ∷ ns) h = subst (λ (z : List Note). Owned z u (left_from u (length notes + 1) (left_by u (length notes) acc n) ns))
    (append_assoc notes (n ∷ []) ns)
    (subst (λ (z : ℕ). Owned ((notes ++ n ∷ []) ++ ns) u (left_from u z (left_by u (length notes) acc n) ns)) (length-more notes n)
    (Owned-from u (notes ++ n ∷ []) (left_by u (length notes) acc n) ns (Owned-snoc notes n u acc h)))

-- what a unit has left are its own records, falling
pub owned : (notes : List Note) (u : ℕ) → Owned notes u (left notes u)
owned notes u = Owned-from u [] [] notes tt

has-of : (notes : List Note) (u n : ℕ) (ms : List ℕ) → Owned notes u ms → has n ms ≡ true → (n < length notes) × ((note_of notes n).unit ≡ u)
has-of notes u n [] h e = cc
has-of notes u n (m ∷ ms) h e = go (has-of notes u n ms h.3) (m == n) refl
  where
    go : (has n ms ≡ true → (n < length notes) × ((note_of notes n).unit ≡ u)) → (b : Bool) → (m == n) ≡ b → (n < length notes) × ((note_of notes n).unit ≡ u)
    go ih true q = let is : m ≡ n = grind (arith, nat_tests) in subst (λ (z : ℕ). (z < length notes) × ((note_of notes z).unit ≡ u)) is (h.0, h.1)
    go ih false q = ih (rw q at e)

-- a record that is left is there, and the unit's
pub has-owned : (notes : List Note) (u n : ℕ) → has n (left notes u) ≡ true → (n < length notes) × ((note_of notes n).unit ≡ u)
has-owned notes u n e = has-of notes u n (left notes u) (owned notes u) e

-- the first is left
pub first-has : (n : ℕ) (ms : List ℕ) → slice_get ms 0 ≡ Some n → has n ms ≡ true
first-has n [] e = cc
first-has n (m ∷ ms) e = let is : m ≡ n = some-is e in grind (arith, nat_tests)
  where
    some-is : Some m ≡ Some n → m ≡ n
    some-is q = cc

has-below : (k n : ℕ) (ms : List ℕ) → AllBelow n ms → has k ms ≡ true → k < n
has-below k n [] h e = cc
has-below k n (m ∷ ms) h e = go (has-below k n ms h.1) (m == k) refl
  where
    go : (has k ms ≡ true → k < n) → (b : Bool) → (m == k) ≡ b → k < n
    go ih true q = let is : m ≡ k = grind (arith, nat_tests) in subst (λ (z : ℕ). z < n) is h.0
    go ih false q = ih (rw q at e)

most-of : (notes : List Note) (u k n : ℕ) (ms : List ℕ) → Owned notes u ms → slice_get ms 0 ≡ Some n → has k ms ≡ true → k ≤ n
most-of notes u k n [] h f e = cc
most-of notes u k n (m ∷ ms) h f e = go (some-is f) (m == k) refl
  where
    some-is : Some m ≡ Some n → m ≡ n
    some-is q = cc

    go : m ≡ n → (b : Bool) → (m == k) ≡ b → k ≤ n
    go is true q = let z : m ≡ k = grind (arith, nat_tests) in omega arith
    go is false q = let lt : k < m = has-below k m ms h.2 (rw q at e) in omega arith

-- and the greatest
pub first-most : (notes : List Note) (u k n : ℕ) → slice_get (left notes u) 0 ≡ Some n → has k (left notes u) ≡ true → k ≤ n
first-most notes u k n f e = most-of notes u k n (left notes u) (owned notes u) f e

has-filter : (k m : ℕ) (ms : List ℕ) → k ≢ m → has k ms ≡ true → has k (filter (λ x. not (x == m)) ms) ≡ true
has-filter k m [] ne e = e
has-filter k m (x ∷ ms) ne e = go (has-filter k m ms ne) (x == m) refl (x == k) refl
  where
    go : (has k ms ≡ true → has k (filter (λ y. not (y == m)) ms) ≡ true) → (b : Bool) → (x == m) ≡ b → (d : Bool) → (x == k) ≡ d
        → has k (filter (λ y. not (y == m)) (x ∷ ms)) ≡ true
    go ih true q true t = let a : x ≡ m = grind (arith, nat_tests) in let b : x ≡ k = grind (arith, nat_tests) in absurd (ne (sym b ∙ a))
    go ih true q false t = rw q (ih (rw t at e))
    go ih false q true t = rw (q, t) refl
    go ih false q false t = rw (q, t) (ih (rw t at e))

has-filtered : (k m : ℕ) (ms : List ℕ) → has k (filter (λ x. not (x == m)) ms) ≡ true → (has k ms ≡ true) × (k ≢ m)
has-filtered k m [] e = cc
has-filtered k m (x ∷ ms) e = go (has-filtered k m ms) (x == m) refl (x == k) refl
  where
    go : (has k (filter (λ y. not (y == m)) ms) ≡ true → (has k ms ≡ true) × (k ≢ m)) → (b : Bool) → (x == m) ≡ b → (d : Bool) → (x == k) ≡ d
        → (has k (x ∷ ms) ≡ true) × (k ≢ m)
    go ih true q true t = let r = ih (rw q at e) in (rw t refl, r.1)
    go ih true q false t = let r = ih (rw q at e) in (rw t r.0, r.1)
    go ih false q true t = let a : x ≡ k = grind (arith, nat_tests) in (rw t refl, λ km. absurd (wrong (a ∙ km)))
      where
        wrong : x ≡ m → ⊥
        wrong z = let y : (x == m) ≡ true = grind (arith, nat_tests) in cc
    go ih false q false t = let r = ih (rw (q, t) at e) in (rw t r.0, r.1)

-- what is left stays left, but for the record that is undone
pub has-more : (notes : List Note) (n : Note) (u k : ℕ) → (n.undoes ≡ Some k → ⊥) → has k (left notes u) ≡ true → has k (left (notes ++ n ∷ []) u) ≡ true
has-more notes n u k ne e = subst (λ (z : List ℕ). has k z ≡ true) (sym (left-snoc u notes n)) (go (n.unit == u) refl n.undoes refl)
  where
    go : (b : Bool) → (n.unit == u) ≡ b → (o : Option ℕ) → n.undoes ≡ o → has k (left_by u (length notes) (left notes u) n) ≡ true
    go false q o p = rw q e
    go true q None p = let is : n.unit ≡ u = grind (arith, nat_tests) in
        subst (λ (z : List ℕ). has k z ≡ true) (sym (left_by-add u (length notes) (left notes u) n is p)) (grind arith)
    go true q (Some m) p = let is : n.unit ≡ u = grind (arith, nat_tests) in
        subst (λ (z : List ℕ). has k z ≡ true) (sym (left_by-take u (length notes) m (left notes u) n is p))
        (has-filter k m (left notes u) (λ km. ne (p ∙ ap Some (sym km))) e)

-- a new change is left
pub new-left : (notes : List Note) (n : Note) → n.undoes ≡ None → has (length notes) (left (notes ++ n ∷ []) n.unit) ≡ true
new-left notes n none = subst (λ (z : List ℕ). has (length notes) z ≡ true)
    (sym (left-snoc n.unit notes n ∙ left_by-add n.unit (length notes) (left notes n.unit) n refl none)) (grind (arith, nat_tests))

-- what is left after one more record: it was before, and is not undone; or it is new
pub data LeftCases (notes : List Note) (n : Note) (u k : ℕ) : Type 0 where
  old : has k (left notes u) ≡ true → (n.undoes ≡ Some k → n.unit ≡ u → ⊥) → LeftCases notes n u k
  new : k ≡ length notes → n.unit ≡ u → n.undoes ≡ None → LeftCases notes n u k

pub left-cases : (notes : List Note) (n : Note) (u k : ℕ) → has k (left (notes ++ n ∷ []) u) ≡ true → LeftCases notes n u k
left-cases notes n u k e = go (n.unit == u) refl n.undoes refl
  where
    e2 : has k (left_by u (length notes) (left notes u) n) ≡ true
    e2 = subst (λ (z : List ℕ). has k z ≡ true) (left-snoc u notes n) e

    none-undone : n.undoes ≡ None → n.undoes ≡ Some k → ⊥
    none-undone a b = cc

    same-undone : (m : ℕ) → n.undoes ≡ Some m → n.undoes ≡ Some k → m ≡ k
    same-undone m a b = cc

    at_new : n.unit ≡ u → n.undoes ≡ None → (b : Bool) → (length notes == k) ≡ b → has k (length notes ∷ left notes u) ≡ true → LeftCases notes n u k
    at_new is p true t f = new (grind (arith, nat_tests)) is p
    at_new is p false t f = old (rw t at f) (λ a s. none-undone p a)

    go : (b : Bool) → (n.unit == u) ≡ b → (o : Option ℕ) → n.undoes ≡ o → LeftCases notes n u k
    go false q o p = old (rw q at e2) (λ a same. let t : (n.unit == u) ≡ true = grind (arith, nat_tests) in absurd (cc))
    go true q None p = let is : n.unit ≡ u = grind (arith, nat_tests) in
        at_new is p (length notes == k) refl (subst (λ (z : List ℕ). has k z ≡ true) (left_by-add u (length notes) (left notes u) n is p) e2)
    go true q (Some m) p = let is : n.unit ≡ u = grind (arith, nat_tests) in
        let t = has-filtered k m (left notes u) (subst (λ (z : List ℕ). has k z ≡ true) (left_by-take u (length notes) m (left notes u) n is p) e2) in
        old t.0 (λ a s. t.1 (sym (same-undone m p a)))
