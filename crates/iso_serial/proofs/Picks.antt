-- The actor that a word picks among those that could act: they are counted, and it is found, one by one.
use Rattle.std.proofs.Common.{◌≡◌, ℕ, zero, suc, ◌+◌, ◌-◌, ◌<◌, ◌≤◌, ◌%◌, ◌==◌, Bool, true, false, ◌&&◌, ◌||◌, List, [], ◌∷◌, drop, filter, length, refl, sym, ap, ◌∙◌, subst, arith, Some, None, if◌then◌else◌}
use Rattle.std.specs.List.{list_any}
use Rattle.std.specs.Option.{option_map}
use Rattle.std.specs.Prelude.{slice_get}
use Rattle.std.proofs.lemmas.Bool.{both_ways, eqb-true}
use Rattle.std.proofs.lemmas.List.{drop_all}
use Rattle.std.proofs.lemmas.Nat.{mod_below}
use Rattle.iso_conduct.specs.Schedule.{actors, drawn}
use Rattle.iso_history.specs.declared.entry.Who.{Who}
use Rattle.iso_history.specs.declared.entry.Who.TheVariants.{Dispatcher}
use Rattle.iso_types.specs.declared.head.Head.{Head}
use Rattle.iso_serial.proofs.Circle.{agents-all, agents-cons, agents-length}
use Rattle.iso_serial.specs.Rounds.{agent, agents_of}

-- ---- the agents from a place on

-- the first of them
pub agents-on : (head : Head) (k : ℕ) → k < length head.conns → drop k (agents_of head) ≡ agent k ∷ drop (k + 1) (agents_of head)
agents-on head k lt =
    let all = agents-all head in
    let next : suc k ≡ k + 1 = omega arith in
    sym (all k)
    ∙ (agents-cons head k (length head.conns) lt (omega arith)
    ∙ (ap (λ (l : List Who). agent k ∷ l) (all (suc k)) ∙ ap (λ (n : ℕ). agent k ∷ drop n (agents_of head)) next))

-- none is left at the end
pub agents-end : (head : Head) (k : ℕ) → length head.conns ≤ k → drop k (agents_of head) ≡ []
agents-end head k le = drop_all k (agents_of head) (omega (arith, le, agents-length head))

-- who is not the one at a place has none at 0
pub not-first : (b : Bool) (n : ℕ) → (b && (n == 0)) ≡ false → b ≡ true → 0 < n
not-first false n e t = absurd (both_ways false refl t)
not-first true zero e t = absurd (both_ways true e refl)
not-first true (suc n) e t = omega arith

-- who is has 0
pub is-first : (b : Bool) (n : ℕ) → (b && (n == 0)) ≡ true → (b ≡ true) × (n ≡ 0)
is-first true zero e = (refl, refl)
is-first true (suc n) e = let z : suc n ≡ 0 = eqb-true (suc n) 0 e in absurd (omega (arith, z))
is-first false n e = absurd (both_ways false refl e)

-- 1 at most
pub one-most : (b : Bool) → (if b then 1 else 0) ≤ 1
one-most true = omega arith
one-most false = omega arith

module _ (p : Who → Bool) where
  -- ---- those that could act, of a list

  -- one more
  pub count-on : (x : Who) (xs : List Who) (b : Bool) → p x ≡ b → length (filter p (x ∷ xs)) ≡ length (filter p xs) + (if b then 1 else 0)
  count-on x xs true e = rw e (omega arith)
  count-on x xs false e = rw e (omega arith)

  -- the first is at place 0
  pub place-here : (x : Who) (xs : List Who) (k : ℕ) → p x ≡ true → k ≡ 0 → slice_get (filter p (x ∷ xs)) k ≡ Some x
  place-here x xs k e z = rw (e, z) refl

  -- it is passed over
  pub place-on : (x : Who) (xs : List Who) (b : Bool) (k : ℕ) → p x ≡ b → (b ≡ true → 0 < k)
      → slice_get (filter p (x ∷ xs)) k ≡ slice_get (filter p xs) (k - (if b then 1 else 0))
  place-on x xs true zero e more = let high : 0 < 0 = more refl in absurd (omega (arith, high))
  place-on x xs true (suc n) e more =
      let same : n ≡ suc n - 1 = omega arith in
      rw e (ap (slice_get (filter p xs)) same)
  place-on x xs false k e more =
      let same : k ≡ k - 0 = omega arith in
      rw e (ap (slice_get (filter p xs)) same)

  pub some-count : (xs : List Who) → list_any p xs ≡ true → 0 < length (filter p xs)
  some-count [] h = absurd (both_ways false refl h)
  some-count (x ∷ xs) h = go (p x) refl h (some-count xs)
    where
      go : (b : Bool) → p x ≡ b → (p x || list_any p xs) ≡ true → (list_any p xs ≡ true → 0 < length (filter p xs))
          → 0 < length (filter p (x ∷ xs))
      go true e k more = rw e (omega arith)
      go false e k more = rw e (more (rw e at k))

  -- ---- the agents, one by one

  module _ (head : Head) (k : ℕ) (within : k < length head.conns) (b : Bool) (is : b ≡ p (agent k)) where
    pub agents-count : length (filter p (drop k (agents_of head))) ≡ length (filter p (drop (k + 1) (agents_of head))) + (if b then 1 else 0)
    agents-count =
        ap (λ (l : List Who). length (filter p l)) (agents-on head k within) ∙ count-on (agent k) (drop (k + 1) (agents_of head)) b (sym is)

    pub agents-here : (n : ℕ) → b ≡ true → n ≡ 0 → slice_get (filter p (drop k (agents_of head))) n ≡ Some (agent k)
    agents-here n able z =
        ap (λ (l : List Who). slice_get (filter p l) n) (agents-on head k within)
        ∙ place-here (agent k) (drop (k + 1) (agents_of head)) n (sym is ∙ able) z

    pub agents-past : (n : ℕ) → (b ≡ true → 0 < n)
        → slice_get (filter p (drop k (agents_of head))) n ≡ slice_get (filter p (drop (k + 1) (agents_of head))) (n - (if b then 1 else 0))
    agents-past n more =
        ap (λ (l : List Who). slice_get (filter p l) n) (agents-on head k within)
        ∙ place-on (agent k) (drop (k + 1) (agents_of head)) b n (sym is) more

  pub end-count : (head : Head) (k : ℕ) → length head.conns ≤ k → length (filter p (drop k (agents_of head))) ≡ 0
  end-count head k le = ap (λ (l : List Who). length (filter p l)) (agents-end head k le)

  pub end-none : (head : Head) (k n : ℕ) → length head.conns ≤ k → slice_get (filter p (drop k (agents_of head))) n ≡ None
  end-none head k n le = ap (λ (l : List Who). slice_get (filter p l) n) (agents-end head k le)

-- ---- the one that a word picks

-- it is at the word's place
pub drawn-at : (word : ℕ) (l : List Who) (n k : ℕ) → n ≡ length l → 0 < n → k ≡ word % n → drawn word l ≡ slice_get l k
drawn-at word [] n k e lt is = absurd (omega (arith, e, lt))
drawn-at word (x ∷ xs) n k e lt is = ap (slice_get (x ∷ xs)) (ap (λ (m : ℕ). word % m) (sym e) ∙ sym is)

-- where there is such a place there is such an item
pub there : (l : List Who) (k : ℕ) → k < length l → slice_get l k ≡ None → ⊥
there [] k lt e = omega (arith, lt)
there (x ∷ xs) zero lt e = cc
there (x ∷ xs) (suc k) lt e = there xs k (omega (arith, lt)) e

module _ (head : Head) (p : Who → Bool) (agents count : ℕ) (leads : Bool) (is : leads ≡ p Dispatcher) (some : list_any p (actors head) ≡ true)
    (n : agents ≡ length (filter p (agents_of head))) (all : count ≡ agents + (if leads then 1 else 0)) where
  whole : count ≡ length (filter p (actors head))
  whole = all ∙ (ap (λ (k : ℕ). k + (if leads then 1 else 0)) n ∙ sym (count-on p Dispatcher (agents_of head) leads (sym is)))

  pub some-able : 0 < count
  some-able = subst (λ (k : ℕ). 0 < k) (sym whole) (some-count p (actors head) some)

  module _ (word place : ℕ) (at : place ≡ word % count) where
    chosen-at : drawn word (filter p (actors head)) ≡ slice_get (filter p (actors head)) place
    chosen-at = drawn-at word (filter p (actors head)) count place whole some-able at

    pub chosen-dispatcher : leads ≡ true → place ≡ 0 → drawn word (filter p (actors head)) ≡ Some Dispatcher
    chosen-dispatcher able z = chosen-at ∙ place-here p Dispatcher (agents_of head) place (sym is ∙ able) z

    -- the place among the agents
    module _ (more : leads ≡ true → 0 < place) (k : ℕ) (left : k ≡ place - (if leads then 1 else 0)) where
      behind : drawn word (filter p (actors head)) ≡ slice_get (filter p (agents_of head)) k
      behind =
          chosen-at
          ∙ (place-on p Dispatcher (agents_of head) leads place (sym is) more ∙ ap (slice_get (filter p (agents_of head))) (sym left))

      pub chosen-agent : (c : ℕ) → option_map agent (Some c) ≡ slice_get (filter p (agents_of head)) k
          → drawn word (filter p (actors head)) ≡ Some (agent c)
      chosen-agent c found = behind ∙ sym found

      pub never-none : option_map agent None ≡ slice_get (filter p (agents_of head)) k → ⊥
      never-none found =
          let less : place < count = subst (λ (m : ℕ). m < count) (sym at) (mod_below word count some-able) in
          there (filter p (actors head)) place (subst (λ (m : ℕ). place < m) whole less) (sym chosen-at ∙ (behind ∙ sym found))

-- ---- who is drawn could act

kept : (p : Who → Bool) (xs : List Who) (k : ℕ) (who : Who) → slice_get (filter p xs) k ≡ Some who → p who ≡ true
kept p [] k who h = absurd (cc)
kept p (x ∷ xs) k who h = pick (λ n. kept p xs n who) (p x) refl k h
  where
    pick : ((n : ℕ) → slice_get (filter p xs) n ≡ Some who → p who ≡ true) → (b : Bool) → p x ≡ b → (n : ℕ)
        → slice_get (filter p (x ∷ xs)) n ≡ Some who → p who ≡ true
    pick more true e zero i =
        let same : Some x ≡ Some who = rw e at i in
        let q : x ≡ who = cc in
        subst (λ (z : Who). p z ≡ true) q e
    pick more true e (suc n) i = more n (rw e at i)
    pick more false e n i = more n (rw e at i)

pub drawn-able : (p : Who → Bool) (word : ℕ) (l : List Who) (who : Who) → drawn word (filter p l) ≡ Some who → p who ≡ true
drawn-able p word l who e = go (filter p l) refl e
  where
    go : (f : List Who) → filter p l ≡ f → drawn word f ≡ Some who → p who ≡ true
    go [] is d = absurd (cc)
    go (x ∷ xs) is d =
        kept p l (word % length (x ∷ xs)) who (ap (λ (z : List Who). slice_get z (word % length (x ∷ xs))) is ∙ d)
