-- What is in an ordered list of pairs, and what is found first in it.
use Rattle.std.proofs.Common.{◌≡◌, Bool, true, false, List, [], ◌∷◌, refl, ap, sym, ◌∙◌, subst, ◌⊎◌, inl, inr, Some, None}
use Rattle.std.specs.List.{list_all}
use Rattle.std.specs.Prelude.{find}
use Rattle.iso_history.proofs.phantoms.Tests.{both}
use Rattle.iso_history.proofs.phantoms.Pairs.{pair-irrefl, pair-total, pair-trans, pair_is, pair_same}
use Rattle.iso_history.specs.Entries.{with_pair, without_pair}
use Rattle.iso_history.specs.Orders.{IsOrdered, has_pair}
use Rattle.iso_types.specs.Ids.{pair_eq, pair_lt}
use Rattle.iso_types.specs.declared.value.Rid.{Rid}
use Rattle.iso_types.specs.declared.value.Value.{Value}

-- a pair of a longer list is its first, or in the rest
pub has-cases : (q p : Value × Rid) (qs : List (Value × Rid)) → has_pair (q ∷ qs) p ≡ true → (p ≡ q) ⊎ (has_pair qs p ≡ true)
has-cases q p qs h = go (pair_eq p q) refl
  where
    go : (b : Bool) → pair_eq p q ≡ b → (p ≡ q) ⊎ (has_pair qs p ≡ true)
    go true e = inl (pair_is p q e)
    go false e = inr (rw e at h)

pub has-rest : (q p : Value × Rid) (qs : List (Value × Rid)) → has_pair qs p ≡ true → has_pair (q ∷ qs) p ≡ true
has-rest q p qs h = go (pair_eq p q) refl
  where
    go : (b : Bool) → pair_eq p q ≡ b → has_pair (q ∷ qs) p ≡ true
    go true e = rw e refl
    go false e = rw e h

pub has-first : (q : Value × Rid) (qs : List (Value × Rid)) → has_pair (q ∷ qs) q ≡ true
has-first q qs = rw (pair_same q) refl

-- what all pass, each that is in the list passes
pub all-has : (t : Value × Rid → Bool) (qs : List (Value × Rid)) (p : Value × Rid) → list_all t qs ≡ true → has_pair qs p ≡ true → t p ≡ true
all-has t [] p a h = cc
all-has t (q ∷ qs) p a h = elim (has-cases q p qs h) [
  | inl e ↦ subst (λ (x : Value × Rid). t x ≡ true) (sym e) (both (t q) (list_all t qs) a).0
  | inr k ↦ all-has t qs p (both (t q) (list_all t qs) a).1 k
]

-- the same the other way round
pub all-from_has : (t : Value × Rid → Bool) (qs : List (Value × Rid)) → ((p : Value × Rid) → has_pair qs p ≡ true → t p ≡ true) → list_all t qs ≡ true
all-from_has t [] f = refl
all-from_has t (q ∷ qs) f = rw (f q (has-first q qs)) (all-from_has t qs (λ p h. f p (has-rest q p qs h)))

-- what is found is in the list and passes
pub find-has : (t : Value × Rid → Bool) (qs : List (Value × Rid)) (p : Value × Rid) → find t qs ≡ Some p → (has_pair qs p ≡ true) × (t p ≡ true)
find-has t [] p f = cc
find-has t (q ∷ qs) p f = go (find-has t qs p) (t q) refl
  where
    go : (find t qs ≡ Some p → (has_pair qs p ≡ true) × (t p ≡ true)) → (b : Bool) → t q ≡ b → (has_pair (q ∷ qs) p ≡ true) × (t p ≡ true)
    go ih true e = let s : Some q ≡ Some p = rw e at f in let r : q ≡ p = cc in
        (subst (λ (x : Value × Rid). has_pair (q ∷ qs) x ≡ true) r (has-first q qs), subst (λ (x : Value × Rid). t x ≡ true) r e)
    go ih false e = let k = ih (rw e at f) in (has-rest q p qs k.0, k.1)

-- where nothing is found nothing passes
pub find-none : (t : Value × Rid → Bool) (qs : List (Value × Rid)) (p : Value × Rid) → find t qs ≡ None → has_pair qs p ≡ true → t p ≡ false
find-none t [] p f h = cc
find-none t (q ∷ qs) p f h = go (find-none t qs p) (t q) refl
  where
    go : (find t qs ≡ None → has_pair qs p ≡ true → t p ≡ false) → (b : Bool) → t q ≡ b → t p ≡ false
    go ih true e = let s : Some q ≡ None = rw e at f in absurd (cc)
    go ih false e = elim (has-cases q p qs h) [
      | inl r ↦ subst (λ (x : Value × Rid). t x ≡ false) (sym r) e
      | inr k ↦ ih (rw e at f) k
    ]

-- what is found is the least that passes
pub find-least : (t : Value × Rid → Bool) (qs : List (Value × Rid)) (p x : Value × Rid) → IsOrdered qs → find t qs ≡ Some p → has_pair qs x ≡ true
    → t x ≡ true → pair_lt x p ≡ false
find-least t [] p x o f h k = cc
find-least t (q ∷ qs) p x o f h k = go (find-least t qs p x o.1) (t q) refl
  where
    first : q ≡ p → pair_lt x p ≡ false
    first r = elim (has-cases q x qs h) [
      | inl e ↦ subst (λ (z : Value × Rid). pair_lt x z ≡ false) (e ∙ r) (pair-irrefl x)
      | inr e ↦ above (all-has (pair_lt q) qs x o.0 e) r
    ]
      where
        above : pair_lt q x ≡ true → q ≡ p → pair_lt x p ≡ false
        above a r = by (pair_lt x p) refl
          where
            by : (b : Bool) → pair_lt x p ≡ b → pair_lt x p ≡ false
            by false e = e
            by true e = let c : pair_lt x x ≡ true = pair-trans x q x (subst (λ (z : Value × Rid). pair_lt x z ≡ true) (sym r) e) a in
                let d : pair_lt x x ≡ false = pair-irrefl x in cc

    go : (find t qs ≡ Some p → has_pair qs x ≡ true → t x ≡ true → pair_lt x p ≡ false) → (b : Bool) → t q ≡ b → pair_lt x p ≡ false
    go ih true e = let s : Some q ≡ Some p = rw e at f in let r : q ≡ p = cc in first r
    go ih false e = elim (has-cases q x qs h) [
      | inl r ↦ (let z : t x ≡ false = subst (λ (y : Value × Rid). t y ≡ false) (sym r) e in absurd (cc))
      | inr g ↦ ih (rw e at f) g k
    ]

-- what is in the list with a pair is in the list or is the pair
pub has-with : (q p : Value × Rid) (qs : List (Value × Rid)) → has_pair (with_pair q qs) p ≡ true → (has_pair qs p ≡ true) ⊎ (p ≡ q)
has-with q p [] h = elim (has-cases q p [] h) [ inl e ↦ inr e | inr k ↦ inl k ]
has-with q p (x ∷ qs) h = go (has-with q p qs) (pair_lt q x) refl (pair_eq q x) refl
  where
    go : (has_pair (with_pair q qs) p ≡ true → (has_pair qs p ≡ true) ⊎ (p ≡ q)) → (a : Bool) → pair_lt q x ≡ a → (b : Bool) → pair_eq q x ≡ b
        → (has_pair (x ∷ qs) p ≡ true) ⊎ (p ≡ q)
    go ih true e b f = let k : has_pair (q ∷ x ∷ qs) p ≡ true = rw e at h in
        elim (has-cases q p (x ∷ qs) k) [ inl s ↦ inr s | inr s ↦ inl s ]
    go ih false e true f = let k : has_pair (x ∷ qs) p ≡ true = rw (e, f) at h in inl k
    go ih false e false f = let k : has_pair (x ∷ with_pair q qs) p ≡ true = rw (e, f) at h in
        elim (has-cases x p (with_pair q qs) k) [
          | inl s ↦ inl (subst (λ (z : Value × Rid). has_pair (x ∷ qs) z ≡ true) (sym s) (has-first x qs))
          | inr s ↦ elim (ih s) [ inl r ↦ inl (has-rest x p qs r) | inr r ↦ inr r ]
        ]

-- what is in the list stays in it
pub with-has : (q p : Value × Rid) (qs : List (Value × Rid)) → has_pair qs p ≡ true → has_pair (with_pair q qs) p ≡ true
with-has q p [] h = cc
with-has q p (x ∷ qs) h = go (with-has q p qs) (pair_lt q x) refl (pair_eq q x) refl
  where
    go : (has_pair qs p ≡ true → has_pair (with_pair q qs) p ≡ true) → (a : Bool) → pair_lt q x ≡ a → (b : Bool) → pair_eq q x ≡ b
        → has_pair (with_pair q (x ∷ qs)) p ≡ true
    go ih true e b f = rw e (has-rest q p (x ∷ qs) h)
    go ih false e true f = rw (e, f) h
    go ih false e false f = rw (e, f) (elim (has-cases x p qs h) [
      | inl s ↦ subst (λ (z : Value × Rid). has_pair (x ∷ with_pair q qs) z ≡ true) (sym s) (has-first x (with_pair q qs))
      | inr s ↦ has-rest x p (with_pair q qs) (ih s)
    ])

-- the pair is in it
pub with-new : (q : Value × Rid) (qs : List (Value × Rid)) → has_pair (with_pair q qs) q ≡ true
with-new q [] = has-first q []
with-new q (x ∷ qs) = go (with-new q qs) (pair_lt q x) refl (pair_eq q x) refl
  where
    go : has_pair (with_pair q qs) q ≡ true → (a : Bool) → pair_lt q x ≡ a → (b : Bool) → pair_eq q x ≡ b → has_pair (with_pair q (x ∷ qs)) q ≡ true
    go ih true e b f = rw e (has-first q (x ∷ qs))
    go ih false e true f = rw (e, f) (rw f refl)
    go ih false e false f = rw (e, f) (has-rest x q (with_pair q qs) ih)

-- what is below the list and the pair is below both together
below-with : (x q : Value × Rid) (qs : List (Value × Rid)) → list_all (pair_lt x) qs ≡ true → pair_lt x q ≡ true → list_all (pair_lt x) (with_pair q qs) ≡ true
below-with x q qs a e = all-from_has (pair_lt x) (with_pair q qs) (λ p h. elim (has-with q p qs h) [
  | inl k ↦ all-has (pair_lt x) qs p a k
  | inr k ↦ subst (λ (z : Value × Rid). pair_lt x z ≡ true) (sym k) e
])

-- what is below the first of an ordered list is below it
below-all : (q x : Value × Rid) (qs : List (Value × Rid)) → list_all (pair_lt x) qs ≡ true → pair_lt q x ≡ true → list_all (pair_lt q) (x ∷ qs) ≡ true
below-all q x qs a e = rw e (all-from_has (pair_lt q) qs (λ p h. pair-trans q x p e (all-has (pair_lt x) qs p a h)))

-- the list stays in order
pub ordered-with : (q : Value × Rid) (qs : List (Value × Rid)) → IsOrdered qs → IsOrdered (with_pair q qs)
ordered-with q [] o = (refl, tt)
ordered-with q (x ∷ qs) o = go (ordered-with q qs o.1) (pair_lt q x) refl (pair_eq q x) refl
  where
    go : IsOrdered (with_pair q qs) → (a : Bool) → pair_lt q x ≡ a → (b : Bool) → pair_eq q x ≡ b → IsOrdered (with_pair q (x ∷ qs))
    go ih true e b f = rw e (below-all q x qs o.0 e, o)
    go ih false e true f = rw (e, f) o
    go ih false e false f = rw (e, f) (below-with x q qs o.0 (above (pair_lt x q) refl), ih)
      where
        above : (b : Bool) → pair_lt x q ≡ b → pair_lt x q ≡ true
        above true h = h
        above false h = let s : q ≡ x = pair-total q x e h in let k : pair_eq q x ≡ true = subst (λ (z : Value × Rid). pair_eq q z ≡ true) s (pair_same q) in
            absurd (cc)

-- a pair that is in the list is not added
pub with-there : (q : Value × Rid) (qs : List (Value × Rid)) → IsOrdered qs → has_pair qs q ≡ true → with_pair q qs ≡ qs
with-there q [] o h = cc
with-there q (x ∷ qs) o h = go (with-there q qs o.1) (pair_lt q x) refl (pair_eq q x) refl
  where
    go : (has_pair qs q ≡ true → with_pair q qs ≡ qs) → (a : Bool) → pair_lt q x ≡ a → (b : Bool) → pair_eq q x ≡ b → with_pair q (x ∷ qs) ≡ x ∷ qs
    go ih true e b f =
        let k : pair_lt q q ≡ true = all-has (pair_lt q) (x ∷ qs) q (below-all q x qs o.0 e) h in
        let i : pair_lt q q ≡ false = pair-irrefl q in absurd (cc)
    go ih false e true f = rw (e, f) refl
    go ih false e false f = rw (e, f) (ap (λ (l : List (Value × Rid)). x ∷ l) (ih (rw f at h)))

-- what is in the list without a pair is in the list, and is another pair
pub has-without : (q p : Value × Rid) (qs : List (Value × Rid)) → has_pair (without_pair q qs) p ≡ true → (has_pair qs p ≡ true) × (pair_eq q p ≡ false)
has-without q p [] h = cc
has-without q p (x ∷ qs) h = go (has-without q p qs) (pair_eq q x) refl
  where
    go : (has_pair (without_pair q qs) p ≡ true → (has_pair qs p ≡ true) × (pair_eq q p ≡ false)) → (b : Bool) → pair_eq q x ≡ b
        → (has_pair (x ∷ qs) p ≡ true) × (pair_eq q p ≡ false)
    go ih true e = let k = ih (rw e at h) in (has-rest x p qs k.0, k.1)
    go ih false e = let k : has_pair (x ∷ without_pair q qs) p ≡ true = rw e at h in elim (has-cases x p (without_pair q qs) k) [
      | inl s ↦ (subst (λ (z : Value × Rid). has_pair (x ∷ qs) z ≡ true) (sym s) (has-first x qs), subst (λ (z : Value × Rid). pair_eq q z ≡ false) (sym s) e)
      | inr s ↦ (let r = ih s in (has-rest x p qs r.0, r.1))
    ]

-- each other pair stays
pub without-has : (q p : Value × Rid) (qs : List (Value × Rid)) → has_pair qs p ≡ true → pair_eq q p ≡ false → has_pair (without_pair q qs) p ≡ true
without-has q p [] h e = cc
without-has q p (x ∷ qs) h e = go (λ k. without-has q p qs k e) (pair_eq q x) refl
  where
    go : (has_pair qs p ≡ true → has_pair (without_pair q qs) p ≡ true) → (b : Bool) → pair_eq q x ≡ b → has_pair (without_pair q (x ∷ qs)) p ≡ true
    go ih true f = rw f (elim (has-cases x p qs h) [
      | inl s ↦ (let z : pair_eq q p ≡ true = subst (λ (y : Value × Rid). pair_eq q y ≡ true) (sym s) f in absurd (cc))
      | inr s ↦ ih s
    ])
    go ih false f = rw f (elim (has-cases x p qs h) [
      | inl s ↦ subst (λ (z : Value × Rid). has_pair (x ∷ without_pair q qs) z ≡ true) (sym s) (has-first x (without_pair q qs))
      | inr s ↦ has-rest x p (without_pair q qs) (ih s)
    ])

-- the list stays in order
pub ordered-without : (q : Value × Rid) (qs : List (Value × Rid)) → IsOrdered qs → IsOrdered (without_pair q qs)
ordered-without q [] o = tt
ordered-without q (x ∷ qs) o = go (ordered-without q qs o.1) (pair_eq q x) refl
  where
    go : IsOrdered (without_pair q qs) → (b : Bool) → pair_eq q x ≡ b → IsOrdered (without_pair q (x ∷ qs))
    go ih true f = rw f ih
    go ih false f = rw f (all-from_has (pair_lt x) (without_pair q qs) (λ p h. all-has (pair_lt x) qs p o.0 (has-without q p qs h).0), ih)
