-- A step of a scan over the pairs: what is guarded after it; and a pair that is taken off.
use Rattle.std.proofs.Common.{◌≡◌, Bool, true, false, not, List, refl, subst, ◌⊎◌, inl, inr, Some, None, Option}
use Rattle.std.specs.Prelude.{find}
use Rattle.iso_history.proofs.phantoms.Tests.{both, join, opposite}
use Rattle.iso_history.proofs.phantoms.Ordered.{find-has, find-least, find-none, has-without, without-has}
use Rattle.iso_history.proofs.phantoms.Pairs.{ge-key, pair-total, pair_is}
use Rattle.iso_history.proofs.phantoms.Ranges.{GuardsAll, GuardsTo, beyond, high-down, limit_kept}
use Rattle.iso_history.proofs.phantoms.Values.{lt-total}
use Rattle.iso_history.specs.Entries.{is_in_range, meets_high, meets_low, without_pair}
use Rattle.iso_history.specs.Orders.{IsOrdered, has_pair}
use Rattle.iso_types.specs.Ids.{pair_eq, pair_lt}
use Rattle.iso_types.specs.declared.head.Range.{Range}
use Rattle.iso_types.specs.declared.value.Rid.{Rid}
use Rattle.iso_types.specs.declared.value.Value.{Value}

-- t tests what comes after the position: what is in the range and does not is guarded; what does meets the low bound; what is beyond the range does
module _ (g : Value → Bool) (e : Bool) (range : Range) (qs : List (Value × Rid)) (o : IsOrdered qs) (t : Value × Rid → Bool)
    (old : (p : Value × Rid) → has_pair qs p ≡ true → is_in_range range p.0 ≡ true → (t p ≡ true) ⊎ (g p.0 ≡ true))
    (low : (p : Value × Rid) → has_pair qs p ≡ true → t p ≡ true → meets_low range.low p.0 ≡ true)
    (far : (p : Value × Rid) → has_pair qs p ≡ true → beyond range p ≡ true → t p ≡ true) where
  -- it stands at a pair in the range
  pub moved-at : (q : Value × Rid) → find t qs ≡ Some q → g q.0 ≡ true → GuardsTo g range q.0 qs
  moved-at q f gq p hp ip le = elim (old p hp ip) [
    | inl k ↦ subst (λ (z : Value). g z ≡ true) (lt-total q.0 p.0 le (ge-key p q (find-least t qs q p o f hp k))) gq
    | inr k ↦ k
  ]

  -- what is after the position and in the range is not below what is found past the range
  not_in_range : (q p : Value × Rid) → find t qs ≡ Some q → is_in_range range q.0 ≡ false → has_pair qs p ≡ true → is_in_range range p.0 ≡ true → t p ≡ true → ⊥
  not_in_range q p f out hp ip k =
      let x = find-has t qs q f in
      let high : meets_high range.high q.0 ≡ true = high-down range.high q.0 p.0 (both (meets_low range.low p.0) (meets_high range.high p.0) ip).1
      (ge-key p q (find-least t qs q p o f hp k)) in
      let y : is_in_range range q.0 ≡ true = join (meets_low range.low q.0) (meets_high range.high q.0) (low q x.0 x.1) high in cc

  -- it is past, and a pair was found
  pub past-all : (q : Value × Rid) → find t qs ≡ Some q → is_in_range range q.0 ≡ false → GuardsAll g range qs
  past-all q f out p hp ip = elim (old p hp ip) [ inl k ↦ absurd (not_in_range q p f out hp ip k) | inr k ↦ k ]

  -- and what is found is the limit
  pub past-limit : (q : Value × Rid) → find t qs ≡ Some q → is_in_range range q.0 ≡ false → g q.0 ≡ true → limit_kept g e range qs ≡ true
  past-limit q f out gq = go (find (beyond range) qs) refl (meets_high range.high q.0) refl
    where
      x : (has_pair qs q ≡ true) × (t q ≡ true)
      x = find-has t qs q f

      lq : meets_low range.low q.0 ≡ true
      lq = low q x.0 x.1

      go : (l : Option (Value × Rid)) → find (beyond range) qs ≡ l → (b : Bool) → meets_high range.high q.0 ≡ b → limit_kept g e range qs ≡ true
      go l r true h = let y : is_in_range range q.0 ≡ true = join (meets_low range.low q.0) (meets_high range.high q.0) lq h in absurd (cc)
      go None r false h =
          let y : beyond range q ≡ true = join (meets_low range.low q.0) (not (meets_high range.high q.0)) lq (opposite (meets_high range.high q.0) h) in
          let z : beyond range q ≡ false = find-none (beyond range) qs q r x.0 in absurd (cc)
      go (Some l) r false h =
          let y : beyond range q ≡ true = join (meets_low range.low q.0) (not (meets_high range.high q.0)) lq (opposite (meets_high range.high q.0) h) in
          let z = find-has (beyond range) qs l r in
          let one : pair_lt l q ≡ false = find-least t qs q l o f z.0 (far l z.0 z.1) in
          let two : pair_lt q l ≡ false = find-least (beyond range) qs l q o r x.0 y in
          rw r (subst (λ (u : Value × Rid). g u.0 ≡ true) (pair-total q l two one) gq)

  -- it is past, and nothing was found
  pub end-all : find t qs ≡ None → GuardsAll g range qs
  end-all f p hp ip = elim (old p hp ip) [ inl k ↦ (let z : t p ≡ false = find-none t qs p f hp in absurd (cc)) | inr k ↦ k ]

  -- and END is the limit
  pub end-limit : find t qs ≡ None → e ≡ true → limit_kept g e range qs ≡ true
  end-limit f he = go (find (beyond range) qs) refl
    where
      go : (l : Option (Value × Rid)) → find (beyond range) qs ≡ l → limit_kept g e range qs ≡ true
      go None r = rw r he
      go (Some l) r = let z = find-has (beyond range) qs l r in
          let y : t l ≡ true = far l z.0 z.1 in let u : t l ≡ false = find-none t qs l f z.0 in absurd (cc)

  -- what it has passed came before the position
  pub passed-at : (q p : Value × Rid) → find t qs ≡ Some q → has_pair qs p ≡ true → pair_lt p q ≡ true → t p ≡ false
  passed-at q p f hp lt = go (t p) refl
    where
      go : (b : Bool) → t p ≡ b → t p ≡ false
      go false k = k
      go true k = let z : pair_lt p q ≡ false = find-least t qs q p o f hp k in absurd (cc)

  -- all in the range came before the position
  pub passed-past : (q p : Value × Rid) → find t qs ≡ Some q → is_in_range range q.0 ≡ false → has_pair qs p ≡ true → is_in_range range p.0 ≡ true → t p ≡ false
  passed-past q p f out hp ip = go (t p) refl
    where
      go : (b : Bool) → t p ≡ b → t p ≡ false
      go false k = k
      go true k = absurd (not_in_range q p f out hp ip k)

-- a pair is taken off whose key is not guarded
module _ (g : Value → Bool) (e : Bool) (range : Range) (qs : List (Value × Rid)) (o : IsOrdered qs) (n : Value × Rid)
    (o_without : IsOrdered (without_pair n qs))
    (free : g n.0 ≡ false) where
  -- what was guarded is
  pub guards_to-without : (v : Value) → GuardsTo g range v qs → GuardsTo g range v (without_pair n qs)
  guards_to-without v all p hp ip le = all p (has-without n p qs hp).0 ip le

  pub guards_all-without : GuardsAll g range qs → GuardsAll g range (without_pair n qs)
  guards_all-without all p hp ip = all p (has-without n p qs hp).0 ip

  -- a guarded pair stays
  stays : (p : Value × Rid) → has_pair qs p ≡ true → g p.0 ≡ true → has_pair (without_pair n qs) p ≡ true
  stays p hp gp = go (pair_eq n p) refl
    where
      go : (b : Bool) → pair_eq n p ≡ b → has_pair (without_pair n qs) p ≡ true
      go false k = without-has n p qs hp k
      go true k = let z : g p.0 ≡ false = subst (λ (u : Value × Rid). g u.0 ≡ false) (pair_is n p k) free in absurd (cc)

  -- so the limit stays guarded
  pub limit-without : limit_kept g e range qs ≡ true → limit_kept g e range (without_pair n qs) ≡ true
  limit-without lim = go (find (beyond range) (without_pair n qs)) refl (find (beyond range) qs) refl
    where
      go : (a : Option (Value × Rid)) → find (beyond range) (without_pair n qs) ≡ a → (l : Option (Value × Rid)) → find (beyond range) qs ≡ l
          → limit_kept g e range (without_pair n qs) ≡ true
      go None q None r = let z : e ≡ true = rw r at lim in rw q z
      go None q (Some l) r = let x = find-has (beyond range) qs l r in let z : g l.0 ≡ true = rw r at lim in
          let y : beyond range l ≡ false = find-none (beyond range) (without_pair n qs) l q (stays l x.0 z) in let u : beyond range l ≡ true = x.1 in
          absurd (cc)
      go (Some p) q None r = let x = find-has (beyond range) (without_pair n qs) p q in
          let y : beyond range p ≡ false = find-none (beyond range) qs p r (has-without n p qs x.0).0 in let u : beyond range p ≡ true = x.1 in absurd (cc)
      go (Some p) q (Some l) r =
          let x = find-has (beyond range) (without_pair n qs) p q in
          let y = find-has (beyond range) qs l r in
          let z : g l.0 ≡ true = rw r at lim in
          let one : pair_lt p l ≡ false = find-least (beyond range) qs l p o r (has-without n p qs x.0).0 x.1 in
          let two : pair_lt l p ≡ false = find-least (beyond range) (without_pair n qs) p l o_without q (stays l y.0 z) y.1 in
          rw q (subst (λ (u : Value × Rid). g u.0 ≡ true) (pair-total l p two one) z)
