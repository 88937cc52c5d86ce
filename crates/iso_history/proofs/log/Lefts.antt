-- What a unit has left, with one more record.
use Rattle.std.proofs.Common.{◌≡◌, ◌≢◌, ◌<◌, ◌+◌, ℕ, zero, suc, Bool, true, false, not, List, [], ◌∷◌, ◌++◌, length, refl, ap, ◌∙◌, arith, Some, None, Option, subst}
use Rattle.std.specs.Prelude.{◌==◌, filter, if◌then◌else◌, slice_get, unwrap_or}
use Rattle.std.proofs.lemmas.Bool.Decides.{nat_tests}
use Rattle.iso_history.specs.Linked.{AllBelow, Linked, first_from, first_made}
use Rattle.iso_history.specs.Records.{left, left_by, left_from, note_of}
use Rattle.iso_history.specs.World.{Note}

left_from-snoc : (u k : ℕ) (acc : List ℕ) (ns : List Note) (n : Note) → left_from u k acc (ns ++ n ∷ []) ≡ left_by u (k + length ns) (left_from u k acc ns) n
left_from-snoc u k acc [] n = let e : k ≡ k + 0 = omega arith in ap (λ z. left_by u z acc n) e
left_from-snoc u k acc (m ∷ ns) n =
    let e : (k + 1) + length ns ≡ k + suc (length ns) = omega arith in
    left_from-snoc u (k + 1) (left_by u k acc m) ns n ∙ ap (λ z. left_by u z (left_from u (k + 1) (left_by u k acc m) ns) n) e

pub left-snoc : (u : ℕ) (ns : List Note) (n : Note) → left (ns ++ n ∷ []) u ≡ left_by u (length ns) (left ns u) n
left-snoc u ns n = let e : 0 + length ns ≡ length ns = omega arith in left_from-snoc u 0 [] ns n ∙ ap (λ z. left_by u z (left ns u) n) e

-- another unit's record
pub left-other : (u : ℕ) (ns : List Note) (n : Note) → n.unit ≢ u → left (ns ++ n ∷ []) u ≡ left ns u
left-other u ns n ne = left-snoc u ns n ∙ other
  where
    other : left_by u (length ns) (left ns u) n ≡ left ns u
    other = grind (arith, nat_tests)

pub left_by-add : (u k : ℕ) (acc : List ℕ) (n : Note) → n.unit ≡ u → n.undoes ≡ None → left_by u k acc n ≡ k ∷ acc
left_by-add u k acc n e none = let t : (n.unit == u) ≡ true = grind (arith, nat_tests) in rw (t, none) refl

pub left_by-take : (u k m : ℕ) (acc : List ℕ) (n : Note) → n.unit ≡ u → n.undoes ≡ Some m → left_by u k acc n ≡ filter (λ x. not (x == m)) acc
left_by-take u k m acc n e un = let t : (n.unit == u) ≡ true = grind (arith, nat_tests) in rw (t, un) refl

-- a change of the unit
pub left-add : (u : ℕ) (ns : List Note) (n : Note) → n.unit ≡ u → n.undoes ≡ None → left (ns ++ n ∷ []) u ≡ length ns ∷ left ns u
left-add u ns n e none = left-snoc u ns n ∙ left_by-add u (length ns) (left ns u) n e none

filter-below : (n : ℕ) (ms : List ℕ) → AllBelow n ms → filter (λ x. not (x == n)) ms ≡ ms
filter-below n [] h = refl
filter-below n (m ∷ ms) h = let lt : m < n = h.0 in let t : (m == n) ≡ false = grind (arith, nat_tests) in rw (t, filter-below n ms h.1) refl

filter-head : (n : ℕ) (ms : List ℕ) → AllBelow n ms → filter (λ x. not (x == n)) (n ∷ ms) ≡ ms
filter-head n ms h = let t : (n == n) ≡ true = grind (arith, nat_tests) in rw (t, filter-below n ms h) refl

-- what is left once the last of it is undone
pub record Taken (notes : List Note) (note : Note) (u n : ℕ) : Type 0 where
  pub rest : List ℕ
  pub was : left notes u ≡ n ∷ rest
  pub is : left (notes ++ note ∷ []) u ≡ rest
  pub within : n < length notes
  pub prev : (note_of notes n).prev_unit ≡ slice_get rest 0

taken-from : (u n : ℕ) (notes : List Note) (note : Note) (ms : List ℕ) → left notes u ≡ ms → note.unit ≡ u → note.undoes ≡ Some n
    → slice_get ms 0 ≡ Some n → Linked notes ms → Taken notes note u n
taken-from u n notes note [] is e un f h = absurd (cc)
taken-from u n notes note (m ∷ ms) is e un f h =
    let mn : m ≡ n = cc in let t : (note.unit == u) ≡ true = grind (arith, nat_tests) in
    record {
      rest = ms;
      was = is ∙ ap (λ z. z ∷ ms) mn;
      is = left-snoc u notes note ∙ ap (λ z. left_by u (length notes) z note) is ∙ rw (t, un, mn) (filter-head n ms (subst (λ (z : ℕ). AllBelow z ms) mn h.2));
      within = subst (λ (z : ℕ). z < length notes) mn h.0;
      prev = subst (λ (z : ℕ). (note_of notes z).prev_unit ≡ slice_get ms 0) mn h.1;
    }

pub left-take : (u n : ℕ) (notes : List Note) (note : Note) → note.unit ≡ u → note.undoes ≡ Some n → slice_get (left notes u) 0 ≡ Some n
    → Linked notes (left notes u) → Taken notes note u n
left-take u n notes note e un f h = taken-from u n notes note (left notes u) refl e un f h

-- the first record of a unit stays, and the first one that comes is it
first_from-snoc : (u k : ℕ) (ns : List Note) (n : Note)
    → first_from u k (ns ++ n ∷ []) ≡ elim (first_from u k ns) [ None ↦ (if n.unit == u then Some (k + length ns) else None) | Some m ↦ Some m ]
first_from-snoc u k [] n = let e : k ≡ k + 0 = omega arith in ap (λ z. if n.unit == u then Some z else None) e
first_from-snoc u k (m ∷ ns) n = go (m.unit == u) refl (first_from-snoc u (k + 1) ns n)
  where
    e : (k + 1) + length ns ≡ k + suc (length ns)
    e = omega arith

    go : (b : Bool) → (m.unit == u) ≡ b
        → first_from u (k + 1) (ns ++ n ∷ [])
        ≡ elim (first_from u (k + 1) ns) [ None ↦ (if n.unit == u then Some ((k + 1) + length ns) else None) | Some m ↦ Some m ]
        → first_from u k (m ∷ ns ++ n ∷ [])
        ≡ elim (first_from u k (m ∷ ns)) [ None ↦ (if n.unit == u then Some (k + suc (length ns)) else None) | Some m ↦ Some m ]
    go true t ih = rw t refl
    go false t ih = rw t (subst (λ (z : ℕ). first_from u (k + 1) (ns ++ n ∷ [])
        ≡ elim (first_from u (k + 1) ns) [ None ↦ (if n.unit == u then Some z else None) | Some m ↦ Some m ]) e ih)

pub first-other : (u : ℕ) (ns : List Note) (n : Note) → n.unit ≢ u → first_made (ns ++ n ∷ []) u ≡ first_made ns u
first-other u ns n ne = first_from-snoc u 0 ns n ∙ go (first_made ns u)
  where
    t : (n.unit == u) ≡ false
    t = grind (arith, nat_tests)

    go : (o : Option ℕ) → elim o [ None ↦ (if n.unit == u then Some (0 + length ns) else None) | Some m ↦ Some m ] ≡ o
    go None = rw t refl
    go (Some m) = refl

pub first-own : (u : ℕ) (ns : List Note) (n : Note) → n.unit ≡ u → first_made (ns ++ n ∷ []) u ≡ Some (unwrap_or (first_made ns u) (length ns))
first-own u ns n e = first_from-snoc u 0 ns n ∙ go (first_made ns u)
  where
    t : (n.unit == u) ≡ true
    t = grind (arith, nat_tests)

    go : (o : Option ℕ) → elim o [ None ↦ (if n.unit == u then Some (0 + length ns) else None) | Some m ↦ Some m ] ≡ Some (unwrap_or o (length ns))
    go None = let k : 0 + length ns ≡ length ns = omega arith in rw t (ap Some k)
    go (Some m) = refl

-- a unit with a record has a first one, and another record changes it no more
first-there : (u k : ℕ) (ns : List Note) (i : ℕ) → i < length ns → (note_of ns i).unit ≡ u → first_from u k ns ≡ None → ⊥
first-there u k [] i lt e none = omega arith
first-there u k (n ∷ ns) zero lt e none = let t : (n.unit == u) ≡ true = grind (arith, nat_tests) in let z : Some k ≡ None = rw t at none in cc
first-there u k (n ∷ ns) (suc i) lt e none = go (n.unit == u) refl none (first-there u (k + 1) ns i (omega arith) e)
  where
    go : (b : Bool) → (n.unit == u) ≡ b → first_from u k (n ∷ ns) ≡ None → (first_from u (k + 1) ns ≡ None → ⊥) → ⊥
    go true t none rest = let z : Some k ≡ None = rw t at none in cc
    go false t none rest = rest (rw t at none)

pub first-stays : (u : ℕ) (ns : List Note) (n : Note) (i : ℕ) → n.unit ≡ u → i < length ns → (note_of ns i).unit ≡ u
    → first_made (ns ++ n ∷ []) u ≡ first_made ns u
first-stays u ns n i e lt is = first-own u ns n e ∙ go (first_made ns u) refl
  where
    go : (o : Option ℕ) → first_made ns u ≡ o → Some (unwrap_or o (length ns)) ≡ o
    go None f = absurd (first-there u 0 ns i lt is f)
    go (Some m) f = refl
