-- Where a new key falls into the part of a range that a scan has passed, its guard is guarded; and the part stays guarded with it.
use Rattle.std.proofs.Common.{◌≡◌, Bool, true, false, not, ◌&&◌, ◌||◌, List, refl, sym, ◌∙◌, subst, inl, inr, Some, None, Option}
use Rattle.std.specs.Prelude.{find}
use Rattle.iso_history.proofs.phantoms.Tests.{both, join, opposite, turned}
use Rattle.iso_history.proofs.phantoms.Ordered.{find-has, find-least, find-none, has-with, with-has}
use Rattle.iso_history.proofs.phantoms.Pairs.{ge-key, pair-total}
use Rattle.iso_history.proofs.phantoms.Values.{ge-lt, lt-asym, lt-ge, lt-total, value_is, value_same}
use Rattle.iso_history.specs.Entries.{is_in_range, meets_high, meets_low, with_pair}
use Rattle.iso_history.specs.Gaps.{is_beyond}
use Rattle.iso_history.specs.Orders.{IsOrdered, has_pair}
use Rattle.iso_types.specs.Ids.{pair_lt}
use Rattle.iso_types.specs.Value.{value_eq, value_lt}
use Rattle.iso_types.specs.declared.head.Edge.{Edge}
use Rattle.iso_types.specs.declared.head.Range.{Range}
use Rattle.iso_types.specs.declared.value.Rid.{Rid}
use Rattle.iso_types.specs.declared.value.Value.{Value}

-- what meets the low bound, all above meets it
pub low-up : (low : Option Edge) (a b : Value) → meets_low low a ≡ true → value_lt b a ≡ false → meets_low low b ≡ true
low-up None a b h g = refl
low-up (Some e) a b h g = go (value_lt e.value a) refl (value_lt e.value b) refl
  where
    go : (x : Bool) → value_lt e.value a ≡ x → (y : Bool) → value_lt e.value b ≡ y → (value_lt e.value b || (e.inclusive && value_eq e.value b)) ≡ true
    go x f true k = rw k refl
    go true f false k = let z : value_lt e.value b ≡ true = lt-ge e.value a b f g in absurd (cc)
    go false f false k =
        let p = both e.inclusive (value_eq e.value a) (rw f at h) in
        let s : e.value ≡ a = value_is e.value a p.1 in
        let t : a ≡ b = lt-total a b (subst (λ (z : Value). value_lt z b ≡ false) s k) g in
        rw (k, p.0) (subst (λ (z : Value). value_eq e.value z ≡ true) (s ∙ t) (value_same e.value))

-- what meets the high bound, all below meets it
pub high-down : (high : Option Edge) (a b : Value) → meets_high high b ≡ true → value_lt b a ≡ false → meets_high high a ≡ true
high-down None a b h g = refl
high-down (Some e) a b h g = go (value_lt b e.value) refl (value_lt a e.value) refl
  where
    go : (x : Bool) → value_lt b e.value ≡ x → (y : Bool) → value_lt a e.value ≡ y → (value_lt a e.value || (e.inclusive && value_eq e.value a)) ≡ true
    go x f true k = rw k refl
    go true f false k = let z : value_lt a e.value ≡ true = ge-lt a b e.value g f in absurd (cc)
    go false f false k =
        let p = both e.inclusive (value_eq e.value b) (rw f at h) in
        let s : e.value ≡ b = value_is e.value b p.1 in
        let t : e.value ≡ a = lt-total e.value a (subst (λ (z : Value). value_lt z a ≡ false) (sym s) g) k in
        rw (k, p.0) (subst (λ (z : Value). value_eq e.value z ≡ true) t (value_same e.value))

-- between a key in the range and a key in the range
pub between : (range : Range) (a b c : Value) → is_in_range range a ≡ true → is_in_range range c ≡ true → value_lt b a ≡ false → value_lt c b ≡ false
    → is_in_range range b ≡ true
between range a b c ia ic ge le =
    join (meets_low range.low b) (meets_high range.high b)
    (low-up range.low a b (both (meets_low range.low a) (meets_high range.high a) ia).0 ge)
    (high-down range.high b c (both (meets_low range.low c) (meets_high range.high c) ic).1 le)

-- the pair's key is not below the value
abbrev pub from_key : Value → Value × Rid → Bool
from_key k p = not (value_lt p.0 k)

-- the pair's key is beyond the range
abbrev pub beyond : Range → Value × Rid → Bool
beyond range p = is_beyond range p.0

-- whether the name of what is found is guarded: by p for keys, by e for END
abbrev pub at_found : (Value → Bool) → Bool → Option (Value × Rid) → Bool
at_found g e None = e
at_found g e (Some p) = g p.0

-- each key in the range up to v is guarded
abbrev pub GuardsTo : (Value → Bool) → Range → Value → List (Value × Rid) → Type 0
GuardsTo g range v qs = (p : Value × Rid) → has_pair qs p ≡ true → is_in_range range p.0 ≡ true → value_lt v p.0 ≡ false → g p.0 ≡ true

-- each key in the range is guarded
abbrev pub GuardsAll : (Value → Bool) → Range → List (Value × Rid) → Type 0
GuardsAll g range qs = (p : Value × Rid) → has_pair qs p ≡ true → is_in_range range p.0 ≡ true → g p.0 ≡ true

-- whether the guard of a key is guarded, and what is first beyond the range
abbrev pub guard_kept : (Value → Bool) → Bool → Value → List (Value × Rid) → Bool
guard_kept g e k qs = at_found g e (find (from_key k) qs)

abbrev pub limit_kept : (Value → Bool) → Bool → Range → List (Value × Rid) → Bool
limit_kept g e range qs = at_found g e (find (beyond range) qs)

module _ (g : Value → Bool) (e : Bool) (range : Range) (qs : List (Value × Rid)) (o : IsOrdered qs) where
  -- a key in the range up to where the scan stands
  pub guard-at : (v k : Value) (s : Rid) → has_pair qs (v, s) ≡ true → is_in_range range v ≡ true → GuardsTo g range v qs
      → is_in_range range k ≡ true → value_lt v k ≡ false → guard_kept g e k qs ≡ true
  guard-at v k s h iv all ik le = go (find (from_key k) qs) refl
    where
      go : (f : Option (Value × Rid)) → find (from_key k) qs ≡ f → guard_kept g e k qs ≡ true
      go None q = let z : not (value_lt v k) ≡ false = find-none (from_key k) qs (v, s) q h in
          let y : not (value_lt v k) ≡ true = opposite (value_lt v k) le in absurd (cc)
      go (Some p) q =
          let f = find-has (from_key k) qs p q in
          let low : value_lt p.0 k ≡ false = turned (value_lt p.0 k) f.1 in
          let high : value_lt v p.0 ≡ false = ge-key (v, s) p (find-least (from_key k) qs p (v, s) o q h (opposite (value_lt v k) le)) in
          rw q (all p f.0 (between range k p.0 v ik iv low high) high)

  -- a key in the range, after Past
  pub guard-past : (k : Value) → GuardsAll g range qs → limit_kept g e range qs ≡ true → is_in_range range k ≡ true → guard_kept g e k qs ≡ true
  guard-past k all lim ik = go (find (from_key k) qs) refl (find (beyond range) qs) refl
    where
      bounds : (meets_low range.low k ≡ true) × (meets_high range.high k ≡ true)
      bounds = both (meets_low range.low k) (meets_high range.high k) ik

      beyond-from : (p : Value × Rid) → beyond range p ≡ true → from_key k p ≡ true
      beyond-from p h = by (value_lt p.0 k) refl
        where
          by : (b : Bool) → value_lt p.0 k ≡ b → from_key k p ≡ true
          by false x = opposite (value_lt p.0 k) x
          by true x =
              let y : meets_high range.high p.0 ≡ true = high-down range.high p.0 k bounds.1 (lt-asym p.0 k x) in
              let z : meets_high range.high p.0 ≡ false = turned (meets_high range.high p.0)
              (both (meets_low range.low p.0) (not (meets_high range.high p.0)) h).1 in absurd (cc)

      go : (f : Option (Value × Rid)) → find (from_key k) qs ≡ f → (l : Option (Value × Rid)) → find (beyond range) qs ≡ l → guard_kept g e k qs ≡ true
      go None q None r = let z : e ≡ true = rw r at lim in rw q z
      go None q (Some l) r = let x = find-has (beyond range) qs l r in
          let y : from_key k l ≡ true = beyond-from l x.1 in let z : from_key k l ≡ false = find-none (from_key k) qs l q x.0 in absurd (cc)
      go (Some p) q l r = by (meets_high range.high p.0) refl
        where
          f : (has_pair qs p ≡ true) × (from_key k p ≡ true)
          f = find-has (from_key k) qs p q

          low : meets_low range.low p.0 ≡ true
          low = low-up range.low k p.0 bounds.0 (turned (value_lt p.0 k) f.1)

          by : (b : Bool) → meets_high range.high p.0 ≡ b → guard_kept g e k qs ≡ true
          by true h = rw q (all p f.0 (join (meets_low range.low p.0) (meets_high range.high p.0) low h))
          by false h = past l r
            where
              bp : beyond range p ≡ true
              bp = join (meets_low range.low p.0) (not (meets_high range.high p.0)) low (opposite (meets_high range.high p.0) h)

              past : (l : Option (Value × Rid)) → find (beyond range) qs ≡ l → guard_kept g e k qs ≡ true
              past None r = let z : beyond range p ≡ false = find-none (beyond range) qs p r f.0 in let y : beyond range p ≡ true = bp in absurd (cc)
              past (Some l) r =
                  let x = find-has (beyond range) qs l r in
                  let one : pair_lt p l ≡ false = find-least (beyond range) qs l p o r f.0 bp in
                  let two : pair_lt l p ≡ false = find-least (from_key k) qs p l o q x.0 (beyond-from l x.1) in
                  let s : l ≡ p = pair-total l p two one in
                  let z : g l.0 ≡ true = rw r at lim in
                  rw q (subst (λ (y : Value × Rid). g y.0 ≡ true) s z)

-- a new pair whose guard was guarded only if its key is now: g and e before, h and f after
module _ (g h : Value → Bool) (e f : Bool) (more : (v : Value) → g v ≡ true → h v ≡ true) (more_end : e ≡ true → f ≡ true)
    (range : Range) (qs : List (Value × Rid)) (o : IsOrdered qs) (n : Value × Rid) (o_with : IsOrdered (with_pair n qs))
    (inherits : guard_kept g e n.0 qs ≡ true → h n.0 ≡ true) where
  -- at a place in the range
  pub guards_to-with : (v : Value) (s : Rid) → has_pair qs (v, s) ≡ true → is_in_range range v ≡ true → GuardsTo g range v qs
      → GuardsTo h range v (with_pair n qs)
  guards_to-with v s hv iv all p hp ip le = elim (has-with n p qs hp) [
    | inl k ↦ more p.0 (all p k ip le)
    | inr k ↦ subst (λ (z : Value × Rid). h z.0 ≡ true) (sym k)
        (inherits (guard-at g e range qs o v n.0 s hv iv all (subst (λ (z : Value × Rid). is_in_range range z.0 ≡ true) k ip)
        (subst (λ (z : Value × Rid). value_lt v z.0 ≡ false) k le)))
  ]

  -- after Past
  pub guards_all-with : GuardsAll g range qs → limit_kept g e range qs ≡ true → GuardsAll h range (with_pair n qs)
  guards_all-with all lim p hp ip = elim (has-with n p qs hp) [
    | inl k ↦ more p.0 (all p k ip)
    | inr k ↦ subst (λ (z : Value × Rid). h z.0 ≡ true) (sym k)
        (inherits (guard-past g e range qs o n.0 all lim (subst (λ (z : Value × Rid). is_in_range range z.0 ≡ true) k ip)))
  ]

  -- a key beyond the range that comes before the limit has the limit as its guard
  guard-beyond : limit_kept g e range qs ≡ true → beyond range n ≡ true
      → ((p : Value × Rid) → has_pair qs p ≡ true → beyond range p ≡ true → value_lt p.0 n.0 ≡ false)
      → guard_kept g e n.0 qs ≡ true
  guard-beyond lim bn least = go (find (from_key n.0) qs) refl (find (beyond range) qs) refl
    where
      above : (p : Value × Rid) → from_key n.0 p ≡ true → beyond range p ≡ true
      above p h =
          let b = both (meets_low range.low n.0) (not (meets_high range.high n.0)) bn in
          let ge : value_lt p.0 n.0 ≡ false = turned (value_lt p.0 n.0) h in
          join (meets_low range.low p.0) (not (meets_high range.high p.0)) (low-up range.low n.0 p.0 b.0 ge) (by (meets_high range.high p.0) refl b.1 ge)
        where
          by : (c : Bool) → meets_high range.high p.0 ≡ c → not (meets_high range.high n.0) ≡ true → value_lt p.0 n.0 ≡ false
              → not (meets_high range.high p.0) ≡ true
          by false x b ge = opposite (meets_high range.high p.0) x
          by true x b ge = let y : meets_high range.high n.0 ≡ true = high-down range.high n.0 p.0 x ge in
              let z : meets_high range.high n.0 ≡ false = turned (meets_high range.high n.0) b in absurd (cc)

      go : (a : Option (Value × Rid)) → find (from_key n.0) qs ≡ a → (l : Option (Value × Rid)) → find (beyond range) qs ≡ l → guard_kept g e n.0 qs ≡ true
      go None q None r = let z : e ≡ true = rw r at lim in rw q z
      go None q (Some l) r = let x = find-has (beyond range) qs l r in
          let y : from_key n.0 l ≡ true = opposite (value_lt l.0 n.0) (least l x.0 x.1) in
          let z : from_key n.0 l ≡ false = find-none (from_key n.0) qs l q x.0 in absurd (cc)
      go (Some p) q None r = let x = find-has (from_key n.0) qs p q in
          let y : beyond range p ≡ true = above p x.1 in let z : beyond range p ≡ false = find-none (beyond range) qs p r x.0 in absurd (cc)
      go (Some p) q (Some l) r =
          let x = find-has (from_key n.0) qs p q in
          let y = find-has (beyond range) qs l r in
          let one : pair_lt p l ≡ false = find-least (beyond range) qs l p o r x.0 (above p x.1) in
          let two : pair_lt l p ≡ false = find-least (from_key n.0) qs p l o q y.0 (opposite (value_lt l.0 n.0) (least l y.0 y.1)) in
          let s : l ≡ p = pair-total l p two one in
          let z : g l.0 ≡ true = rw r at lim in
          rw q (subst (λ (y : Value × Rid). g y.0 ≡ true) s z)

  -- the limit stays guarded
  pub limit-with : limit_kept g e range qs ≡ true → limit_kept h f range (with_pair n qs) ≡ true
  limit-with lim = go (find (beyond range) (with_pair n qs)) refl (find (beyond range) qs) refl
    where
      go : (a : Option (Value × Rid)) → find (beyond range) (with_pair n qs) ≡ a → (l : Option (Value × Rid)) → find (beyond range) qs ≡ l
          → limit_kept h f range (with_pair n qs) ≡ true
      go None q None r = let z : e ≡ true = rw r at lim in rw q (more_end z)
      go None q (Some l) r = let x = find-has (beyond range) qs l r in
          let z : beyond range l ≡ false = find-none (beyond range) (with_pair n qs) l q (with-has n l qs x.0) in let y : beyond range l ≡ true = x.1 in
          absurd (cc)
      go (Some p) q l r = elim (has-with n p qs x.0) [ inl k ↦ old k l r | inr k ↦ rw q (subst (λ (z : Value × Rid). h z.0 ≡ true) (sym k) (inherits (new k))) ]
        where
          x : (has_pair (with_pair n qs) p ≡ true) × (beyond range p ≡ true)
          x = find-has (beyond range) (with_pair n qs) p q

          new : p ≡ n → guard_kept g e n.0 qs ≡ true
          new k = guard-beyond lim (subst (λ (z : Value × Rid). beyond range z ≡ true) k x.1)
              (λ y hy by. subst (λ (z : Value × Rid). value_lt y.0 z.0 ≡ false) k
              (ge-key y p (find-least (beyond range) (with_pair n qs) p y o_with q (with-has n y qs hy) by)))

          old : has_pair qs p ≡ true → (l : Option (Value × Rid)) → find (beyond range) qs ≡ l → limit_kept h f range (with_pair n qs) ≡ true
          old hp None r = let z : beyond range p ≡ false = find-none (beyond range) qs p r hp in let y : beyond range p ≡ true = x.1 in absurd (cc)
          old hp (Some l) r =
              let y = find-has (beyond range) qs l r in
              let one : pair_lt p l ≡ false = find-least (beyond range) qs l p o r hp x.1 in
              let two : pair_lt l p ≡ false = find-least (beyond range) (with_pair n qs) p l o_with q (with-has n l qs y.0) y.1 in
              let s : l ≡ p = pair-total l p two one in
              let z : g l.0 ≡ true = rw r at lim in
              rw q (more p.0 (subst (λ (y : Value × Rid). g y.0 ≡ true) s z))
