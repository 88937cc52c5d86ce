-- The walk over the entries of a key in an index that stands in order.
use Rattle.std.proofs.Common.{◌≡◌, Bool, true, false, ◌&&◌, ◌||◌, List, [], ◌∷◌, refl, ap, sym, ◌∙◌, subst, arith, Some, None, Option}
use Rattle.std.specs.List.{list_all}
use Rattle.std.specs.Option.{option_map}
use Rattle.std.specs.Prelude.{filter, find, if◌then◌else◌, nat_lt}
use Rattle.std.proofs.lemmas.Bool.Decides.{nat_tests}
use Rattle.iso_history.proofs.phantoms.Finds.{find-passes}
use Rattle.iso_history.proofs.phantoms.Pairs.{lt-key}
use Rattle.iso_history.proofs.phantoms.Tests.{both}
use Rattle.iso_history.proofs.phantoms.Values.{lt-irrefl, value_is, value_same}
use Rattle.iso_history.specs.Orders.{IsOrdered}
use Rattle.iso_key.proofs.Values.{lt-ge}
use Rattle.iso_types.specs.Ids.{pair_lt, rid_eq}
use Rattle.iso_types.specs.Value.{value_eq, value_lt}
use Rattle.iso_types.specs.declared.value.Rid.{Rid}
use Rattle.iso_types.specs.declared.value.Value.{Value}
use Rattle.iso_writes.specs.Walk.{entry_from, is_behind, is_left, others, rivals_in}

-- the value is the same the other way round
turned-value : (v w : Value) (b : Bool) → value_eq v w ≡ b → value_eq w v ≡ b
turned-value v w true e = subst (λ (u : Value). value_eq u v ≡ true) (value_is v w e) (value_same v)
turned-value v w false e = go (value_eq w v) refl
  where
    go : (b : Bool) → value_eq w v ≡ b → value_eq w v ≡ false
    go false f = f
    go true f = let z : value_eq v w ≡ true = subst (λ (u : Value). value_eq u w ≡ true) (value_is w v f) (value_same w) in absurd (cc)

-- a lesser value is another
below-another : (v w : Value) → value_lt v w ≡ true → value_eq w v ≡ false
below-another v w e = go (value_eq w v) refl
  where
    go : (b : Bool) → value_eq w v ≡ b → value_eq w v ≡ false
    go false f = f
    go true f =
        let z : value_lt v v ≡ true = subst (λ (u : Value). value_lt v u ≡ true) (value_is w v f) e in
        let i : value_lt v v ≡ false = lt-irrefl v in absurd (cc)

-- a filter of two lists of tests that agree on what stands above
filter-alike : (s t u : Value × Rid → Bool) → ((p : Value × Rid) → u p ≡ true → s p ≡ t p) → (ps : List (Value × Rid)) → list_all u ps ≡ true
    → filter s ps ≡ filter t ps
filter-alike s t u f [] a = refl
filter-alike s t u f (p ∷ ps) a =
    let b = both (u p) (list_all u ps) a in
    go (s p) refl (sym (f p b.0)) (filter-alike s t u f ps b.1)
  where
    go : (b : Bool) → s p ≡ b → t p ≡ s p → filter s ps ≡ filter t ps → filter s (p ∷ ps) ≡ filter t (p ∷ ps)
    go true e g ih = let k : t p ≡ true = g ∙ e in rw (e, k) (ap (λ (l : List (Value × Rid)). p ∷ l) ih)
    go false e g ih = let k : t p ≡ false = g ∙ e in rw (e, k) ih

module _ (v : Value) where
  -- behind the first that is left, what is left is what stands behind it
  behind-first : (after : Option Rid) (q p : Value × Rid) → is_left v after q ≡ true → pair_lt q p ≡ true → is_left v after p ≡ is_left v (Some q.1) p
  behind-first after q p left lt = go (value_eq p.0 v) refl
    where
      key : value_eq q.0 v ≡ true
      key = (both (value_eq q.0 v) (is_behind after q.1) left).0

      behind : is_behind after q.1 ≡ true
      behind = (both (value_eq q.0 v) (is_behind after q.1) left).1

      later : (o : Option Rid) → is_behind o q.1 ≡ true → nat_lt q.1.0 p.1.0 ≡ true → is_behind o p.1 ≡ true
      later None e f = refl
      later (Some r) e f = grind (arith, nat_tests)

      go : (b : Bool) → value_eq p.0 v ≡ b → is_left v after p ≡ is_left v (Some q.1) p
      go false e = rw e refl
      go true e =
          let same : q.0 ≡ p.0 = value_is q.0 v key ∙ sym (value_is p.0 v e) in
          let not_less : value_lt q.0 p.0 ≡ false = subst (λ (u : Value). value_lt q.0 u ≡ false) same (lt-irrefl q.0) in
          let rid : nat_lt q.1.0 p.1.0 ≡ true = (both (value_eq q.0 p.0) (nat_lt q.1.0 p.1.0) (rw not_less at lt)).1 in
          let far : is_behind after p.1 ≡ true = later after behind rid in
          rw (e, far, rid) refl

  -- one that was passed stays behind
  passed : (after : Option Rid) (q p : Value × Rid) → is_left v after q ≡ false → is_left v after p ≡ true → is_left v (Some p.1) q ≡ false
  passed after q p gone left = go (value_eq q.0 v) refl
    where
      behind : is_behind after p.1 ≡ true
      behind = (both (value_eq p.0 v) (is_behind after p.1) left).1

      before : (o : Option Rid) → is_behind o p.1 ≡ true → is_behind o q.1 ≡ false → nat_lt p.1.0 q.1.0 ≡ false
      before None e f = absurd (cc)
      before (Some r) e f = grind (arith, nat_tests)

      go : (b : Bool) → value_eq q.0 v ≡ b → is_left v (Some p.1) q ≡ false
      go false e = rw e refl
      go true e = let f : is_behind after q.1 ≡ false = rw e at gone in rw e (before after behind f)

  -- what is left is the first that is left and what stands behind it
  pub next-left : (after : Option Rid) (ps : List (Value × Rid)) (p : Value × Rid) → IsOrdered ps → find (is_left v after) ps ≡ Some p
      → filter (is_left v after) ps ≡ p ∷ filter (is_left v (Some p.1)) ps
  next-left after [] p o f = absurd (cc)
  next-left after (q ∷ qs) p o f = go (is_left v after q) refl (next-left after qs p o.1)
    where
      itself : (r : Rid) → nat_lt r.0 r.0 ≡ false
      itself r = grind (arith, nat_tests)

      not-again : (x : Value × Rid) → is_left v (Some x.1) x ≡ false
      not-again x = alike (value_eq x.0 v) (itself x.1)
        where
          alike : (b : Bool) → nat_lt x.1.0 x.1.0 ≡ false → (b && nat_lt x.1.0 x.1.0) ≡ false
          alike true e = e
          alike false e = refl

      go : (b : Bool) → is_left v after q ≡ b → (find (is_left v after) qs ≡ Some p → filter (is_left v after) qs ≡ p ∷ filter (is_left v (Some p.1)) qs)
          → filter (is_left v after) (q ∷ qs) ≡ p ∷ filter (is_left v (Some p.1)) (q ∷ qs)
      go true e ih =
          let s : Some q ≡ Some p = rw e at f in
          let is : q ≡ p = cc in
          let rest : filter (is_left v after) qs ≡ filter (is_left v (Some q.1)) qs =
          filter-alike (is_left v after) (is_left v (Some q.1)) (pair_lt q) (λ x lt. behind-first after q x e lt) qs o.0 in
          let here : filter (is_left v after) (q ∷ qs) ≡ q ∷ filter (is_left v after) qs = rw e refl in
          let there : filter (is_left v (Some q.1)) (q ∷ qs) ≡ filter (is_left v (Some q.1)) qs = rw (not-again q) refl in
          subst (λ (x : Value × Rid). filter (is_left v after) (q ∷ qs) ≡ x ∷ filter (is_left v (Some x.1)) (q ∷ qs)) is
          (here ∙ ap (λ (l : List (Value × Rid)). q ∷ l) (rest ∙ sym there))
      go false e ih =
          let g : find (is_left v after) qs ≡ Some p = rw e at f in
          let left = find-passes (is_left v after) qs p g in
          let here : filter (is_left v after) (q ∷ qs) ≡ filter (is_left v after) qs = rw e refl in
          let there : filter (is_left v (Some p.1)) (q ∷ qs) ≡ filter (is_left v (Some p.1)) qs = rw (passed after q p e left) refl in
          here ∙ ih g ∙ ap (λ (l : List (Value × Rid)). p ∷ l) (sym there)

  -- nothing is left where none is found
  pub none-left : (after : Option Rid) (ps : List (Value × Rid)) → find (is_left v after) ps ≡ None → filter (is_left v after) ps ≡ []
  none-left after [] f = refl
  none-left after (q ∷ qs) f = go (is_left v after q) refl (none-left after qs)
    where
      go : (b : Bool) → is_left v after q ≡ b → (find (is_left v after) qs ≡ None → filter (is_left v after) qs ≡ []) → filter (is_left v after) (q ∷ qs) ≡ []
      go true e ih = let s : Some q ≡ None = rw e at f in absurd (cc)
      go false e ih = rw e (ih (rw e at f))

  -- the search of the index passes an entry that is left, and of the others none below the key
  abbrev passes_by : Option Rid → Value × Rid → Bool
  passes_by None p = value_lt v p.0 || (true && value_eq v p.0)
  passes_by (Some r) p = pair_lt (v, r) p

  abbrev kept_key : Option (Value × Rid) → Option (Value × Rid)
  kept_key None = None
  kept_key (Some p) = if value_eq p.0 v then Some p else None

  searched : (after : Option Rid) (ps : List (Value × Rid)) → entry_from v after ps ≡ find (passes_by after) ps
  searched None ps = refl
  searched (Some r) ps = refl

  left-passes : (after : Option Rid) (p : Value × Rid) → value_eq p.0 v ≡ true → passes_by after p ≡ is_behind after p.1
  left-passes after p e = go after
    where
      same : value_eq v p.0 ≡ true
      same = turned-value p.0 v true e

      level : value_lt v p.0 ≡ false
      level = subst (λ (u : Value). value_lt v u ≡ false) (sym (value_is p.0 v e)) (lt-irrefl v)

      go : (o : Option Rid) → passes_by o p ≡ is_behind o p.1
      go None = rw (level, same) refl
      go (Some r) = rw (level, same) refl

  other-passes : (after : Option Rid) (p : Value × Rid) → value_eq p.0 v ≡ false → passes_by after p ≡ value_lt v p.0
  other-passes after p e = go after
    where
      differ : value_eq v p.0 ≡ false
      differ = turned-value p.0 v false e

      plain : (b : Bool) → (b || false) ≡ b
      plain true = refl
      plain false = refl

      go : (o : Option Rid) → passes_by o p ≡ value_lt v p.0
      go None = rw differ (plain (value_lt v p.0))
      go (Some r) = rw differ (plain (value_lt v p.0))

  -- above a greater key no entry has the key
  none-above : (after : Option Rid) (q : Value × Rid) (ps : List (Value × Rid)) → value_lt v q.0 ≡ true → list_all (pair_lt q) ps ≡ true
      → find (is_left v after) ps ≡ None
  none-above after q [] lt a = refl
  none-above after q (p ∷ ps) lt a =
      let b = both (pair_lt q p) (list_all (pair_lt q) ps) a in
      let other : value_eq p.0 v ≡ false = below-another v p.0 (lt-ge v q.0 p.0 lt (lt-key q p b.0)) in
      let gone : is_left v after p ≡ false = rw other refl in
      rw gone (none-above after q ps lt b.1)

  found-left : (after : Option Rid) (ps : List (Value × Rid)) → IsOrdered ps
      → kept_key (find (passes_by after) ps) ≡ find (is_left v after) ps
  found-left after [] o = refl
  found-left after (q ∷ qs) o = go (value_eq q.0 v) refl (found-left after qs o.1)
    where
      go : (b : Bool) → value_eq q.0 v ≡ b → kept_key (find (passes_by after) qs) ≡ find (is_left v after) qs
          → kept_key (find (passes_by after) (q ∷ qs)) ≡ find (is_left v after) (q ∷ qs)
      go true e ih = at (is_behind after q.1) refl
        where
          at : (b : Bool) → is_behind after q.1 ≡ b → kept_key (find (passes_by after) (q ∷ qs)) ≡ find (is_left v after) (q ∷ qs)
          at true f =
              let p : passes_by after q ≡ true = left-passes after q e ∙ f in
              let l : is_left v after q ≡ true = rw (e, f) refl in
              rw (p, l, e) refl
          at false f =
              let p : passes_by after q ≡ false = left-passes after q e ∙ f in
              let l : is_left v after q ≡ false = rw (e, f) refl in
              rw (p, l) ih
      go false e ih = at (value_lt v q.0) refl
        where
          l : is_left v after q ≡ false
          l = rw e refl

          at : (b : Bool) → value_lt v q.0 ≡ b → kept_key (find (passes_by after) (q ∷ qs)) ≡ find (is_left v after) (q ∷ qs)
          at true f =
              let p : passes_by after q ≡ true = other-passes after q e ∙ f in
              rw (p, l, e) (sym (none-above after q qs f o.0))
          at false f =
              let p : passes_by after q ≡ false = other-passes after q e ∙ f in
              rw (p, l) ih

  -- the key's next entry is what the search finds where it has the key
  pub next-found : (after : Option Rid) (ps : List (Value × Rid)) → IsOrdered ps → kept_key (entry_from v after ps) ≡ find (is_left v after) ps
  next-found after ps o = ap kept_key (searched after ps) ∙ found-left after ps o

  rid-kept : (p : Value × Rid) → (if value_eq p.0 v then Some p.1 else None) ≡ option_map (λ (x : Value × Rid). x.1) (kept_key (Some p))
  rid-kept p = go (value_eq p.0 v)
    where
      go : (b : Bool) → (if b then Some p.1 else None) ≡ option_map (λ (x : Value × Rid). x.1) (if b then Some p else None)
      go true = refl
      go false = refl

  -- its rid
  pub rid-found : (after : Option Rid) (ps : List (Value × Rid)) → IsOrdered ps → (p : Value × Rid) → entry_from v after ps ≡ Some p
      → (if value_eq p.0 v then Some p.1 else None) ≡ option_map (λ (x : Value × Rid). x.1) (find (is_left v after) ps)
  rid-found after ps o p e =
      rid-kept p ∙ ap (λ (z : Option (Value × Rid)). option_map (λ (x : Value × Rid). x.1) z) (ap kept_key (sym e) ∙ next-found after ps o)

  pub none-found : (after : Option Rid) (ps : List (Value × Rid)) → IsOrdered ps → entry_from v after ps ≡ None
      → None ≡ option_map (λ (x : Value × Rid). x.1) (find (is_left v after) ps)
  none-found after ps o e = ap (λ (z : Option (Value × Rid)). option_map (λ (x : Value × Rid). x.1) z) (ap kept_key (sym e) ∙ next-found after ps o)

  -- a step of the walk
  pub walk-step : (after : Option Rid) (ps : List (Value × Rid)) (rid : Rid) → IsOrdered ps
      → option_map (λ (x : Value × Rid). x.1) (find (is_left v after) ps) ≡ Some rid
      → filter (is_left v after) ps ≡ (v, rid) ∷ filter (is_left v (Some rid)) ps
  walk-step after ps rid o e = go (find (is_left v after) ps) refl e
    where
      go : (f : Option (Value × Rid)) → find (is_left v after) ps ≡ f → option_map (λ (x : Value × Rid). x.1) f ≡ Some rid
          → filter (is_left v after) ps ≡ (v, rid) ∷ filter (is_left v (Some rid)) ps
      go None is h = absurd (cc)
      go (Some p) is h =
          let r : p.1 ≡ rid = cc in
          let k : p.0 ≡ v = value_is p.0 v (both (value_eq p.0 v) (is_behind after p.1) (find-passes (is_left v after) ps p is)).0 in
          let same : p ≡ (v, rid) = ap (λ (x : Value). (x, p.1)) k ∙ ap (λ (x : Rid). (v, x)) r in
          subst (λ (x : Value × Rid). filter (is_left v after) ps ≡ x ∷ filter (is_left v (Some x.1)) ps) same (next-left after ps p o is)

  -- its end
  pub walk-end : (after : Option Rid) (ps : List (Value × Rid)) → option_map (λ (x : Value × Rid). x.1) (find (is_left v after) ps) ≡ None
      → filter (is_left v after) ps ≡ []
  walk-end after ps e = none-left after ps (go (find (is_left v after) ps) refl e)
    where
      go : (f : Option (Value × Rid)) → find (is_left v after) ps ≡ f → option_map (λ (x : Value × Rid). x.1) f ≡ None → find (is_left v after) ps ≡ None
      go None is h = is
      go (Some p) is h = absurd (cc)

  -- its beginning: all of the key but the row's own are the rivals
  pub walk-start : (own : Rid) (ps : List (Value × Rid)) → others own (filter (is_left v None) ps) ≡ rivals_in v own ps
  walk-start own [] = refl
  walk-start own (p ∷ ps) = go (value_eq p.0 v) refl (rid_eq p.1 own) refl (walk-start own ps)
    where
      go : (a : Bool) → value_eq p.0 v ≡ a → (b : Bool) → rid_eq p.1 own ≡ b → others own (filter (is_left v None) ps) ≡ rivals_in v own ps
          → others own (filter (is_left v None) (p ∷ ps)) ≡ rivals_in v own (p ∷ ps)
      go true e true f ih = rw (e, f) ih
      go true e false f ih = rw (e, f) (ap (λ (l : List (Value × Rid)). p ∷ l) ih)
      go false e b f ih = rw e ih
