-- Searches by key.
use Rattle.std.proofs.Common.{◌≡◌, Bool, true, false, not, ◌||◌, List, [], ◌∷◌, refl, sym, subst, ◌∙◌, Some, None, Option}
use Rattle.std.specs.List.{list_all}
use Rattle.std.specs.Option.{option_map_or}
use Rattle.std.specs.Prelude.{find}
use Rattle.iso_key.proofs.Pairs.{lt-key}
use Rattle.iso_key.proofs.Truths.{both}
use Rattle.iso_key.proofs.Values.{lt-asym, lt-ge, lt-irrefl, lt-total, value_is, value_same}
use Rattle.iso_key.specs.Cuts.{low_cut, passes}
use Rattle.iso_key.specs.declared.cut.Cut.TheVariants.{FromKey}
use Rattle.iso_key.specs.Entries.{IsOrdered, first_from, has_key, meets_low}
use Rattle.iso_types.specs.Ids.{pair_lt}
use Rattle.iso_types.specs.Value.{value_eq, value_lt}
use Rattle.iso_types.specs.declared.head.Edge.{Edge}
use Rattle.iso_types.specs.declared.value.Rid.{Rid}
use Rattle.iso_types.specs.declared.value.Value.{Value}

-- tests that agree find the same
pub find-same : {A : Type 0} (s t : A → Bool) → ((x : A) → s x ≡ t x) → (xs : List A) → find s xs ≡ find t xs
find-same s t f [] = refl
find-same s t f (x ∷ xs) = go (find-same s t f xs) (s x) refl
  where
    go : find s xs ≡ find t xs → (b : Bool) → s x ≡ b → find s (x ∷ xs) ≡ find t (x ∷ xs)
    go ih true e = let g : t x ≡ true = sym (f x) ∙ e in rw (e, g) refl
    go ih false e = let g : t x ≡ false = sym (f x) ∙ e in rw (e, g) ih

-- not less is greater or the same
pub not-less : (v w : Value) → not (value_lt w v) ≡ (value_lt v w || value_eq v w)
not-less v w = go (value_lt w v) refl (value_lt v w) refl
  where
    go : (a : Bool) → value_lt w v ≡ a → (b : Bool) → value_lt v w ≡ b → not (value_lt w v) ≡ (value_lt v w || value_eq v w)
    go true e true f = let z : value_lt w v ≡ false = lt-asym v w f in absurd (cc)
    go true e false f = rw (e, f) (other (value_eq v w) refl)
      where
        other : (c : Bool) → value_eq v w ≡ c → false ≡ value_eq v w
        other false g = sym g
        other true g =
            let s : v ≡ w = value_is v w g in
            let z : value_lt w w ≡ true = subst (λ (u : Value). value_lt w u ≡ true) s e in
            let i : value_lt w w ≡ false = lt-irrefl w in absurd (cc)
    go false e true f = rw (e, f) refl
    go false e false f =
        let s : v ≡ w = lt-total v w f e in
        let k : value_eq v w ≡ true = subst (λ (u : Value). value_eq v u ≡ true) s (value_same v) in rw (e, f, k) refl

low-same : (low : Option Edge) (p : Value × Rid) → passes (low_cut low) p ≡ meets_low low p.0
low-same None p = refl
low-same (Some e) p = go e.inclusive refl
  where
    go : (b : Bool) → e.inclusive ≡ b → passes (low_cut (Some e)) p ≡ meets_low (Some e) p.0
    go true f = rw f (not-less e.value p.0)
    go false f = rw f (plain (value_lt e.value p.0))
      where
        plain : (x : Bool) → x ≡ (x || false)
        plain true = refl
        plain false = refl

-- the cut of the low bound finds the first entry that meets it
pub from-low : (low : Option Edge) (ps : List (Value × Rid)) → find (passes (low_cut low)) ps ≡ first_from low ps
from-low low ps = find-same (passes (low_cut low)) (λ p. meets_low low p.0) (low-same low) ps

-- a key above this one is another
above-other : (v w : Value) → value_lt v w ≡ true → value_eq w v ≡ false
above-other v w e = go (value_eq w v) refl
  where
    go : (b : Bool) → value_eq w v ≡ b → value_eq w v ≡ false
    go false f = f
    go true f =
        let z : value_lt v v ≡ true = subst (λ (u : Value). value_lt v u ≡ true) (value_is w v f) e in
        let i : value_lt v v ≡ false = lt-irrefl v in cc

-- a key below this one is another
below-other : (v w : Value) → value_lt w v ≡ true → value_eq w v ≡ false
below-other v w e = go (value_eq w v) refl
  where
    go : (b : Bool) → value_eq w v ≡ b → value_eq w v ≡ false
    go false f = f
    go true f =
        let z : value_lt v v ≡ true = subst (λ (u : Value). value_lt u v ≡ true) (value_is w v f) e in
        let i : value_lt v v ≡ false = lt-irrefl v in cc

-- above an entry with a greater key none has the key
none-above : (v : Value) (q : Value × Rid) (ps : List (Value × Rid)) → value_lt v q.0 ≡ true → list_all (pair_lt q) ps ≡ true → has_key ps v ≡ false
none-above v q [] e a = refl
none-above v q (p ∷ ps) e a =
    let b = both (pair_lt q p) (list_all (pair_lt q) ps) a in
    rw (above-other v p.0 (lt-ge v q.0 p.0 e (lt-key q p b.0))) (none-above v q ps e b.1)

-- the index has the key where the first entry from it on has it
pub has-first_from : (v : Value) (ps : List (Value × Rid)) → IsOrdered ps
    → has_key ps v ≡ option_map_or (λ p. value_eq p.0 v) (find (passes (FromKey v)) ps) false
has-first_from v [] o = refl
has-first_from v (q ∷ qs) o = go (has-first_from v qs o.1) (value_lt q.0 v) refl
  where
    go : has_key qs v ≡ option_map_or (λ p. value_eq p.0 v) (find (passes (FromKey v)) qs) false → (b : Bool) → value_lt q.0 v ≡ b
        → has_key (q ∷ qs) v ≡ option_map_or (λ p. value_eq p.0 v) (find (passes (FromKey v)) (q ∷ qs)) false
    go ih true e = rw (e, below-other v q.0 e) ih
    go ih false e = rw e (same (value_eq q.0 v) refl)
      where
        same : (c : Bool) → value_eq q.0 v ≡ c → has_key (q ∷ qs) v ≡ value_eq q.0 v
        same true g = rw g refl
        same false g = rw g (none-above v q qs (less (value_lt v q.0) refl) o.0)
          where
            less : (d : Bool) → value_lt v q.0 ≡ d → value_lt v q.0 ≡ true
            less true h = h
            less false h =
                let s : q.0 ≡ v = lt-total q.0 v e h in
                let k : value_eq q.0 v ≡ true = subst (λ (u : Value). value_eq q.0 u ≡ true) s (value_same q.0) in cc
