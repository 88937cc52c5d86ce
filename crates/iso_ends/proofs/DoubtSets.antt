-- What is known when a pair becomes doubtful, is taken in, or is found.
use Rattle.std.proofs.Common.{◌≡◌, ◌<◌, ◌∙◌, ◌⊎◌, inl, inr, ℕ, zero, suc, Bool, true, false, ◌||◌, List, [], ◌∷◌, ◌++◌, find, length, refl, ap, sym, subst, arith, slice_get, slice_set, Some, None, Option, get_or, if◌then◌else◌}
use Rattle.std.specs.Option.{option_map}
use Rattle.std.specs.Prelude.{IfSome}
use Rattle.std.proofs.lemmas.Bool.{both_ways}
use Rattle.iso_ends.specs.Doubts.{AreParked, IsHeld, IsKnown, IsParking, Known, Knows, kept_at, released, released_by}
use Rattle.iso_ends.specs.Filling.{IsFilled, Keeps}
use Rattle.iso_ends.specs.Purges.{is_calm}
use Rattle.iso_history.proofs.phantoms.Ordered.{find-has, find-least, find-none, has-cases, has-with, has-without, ordered-with, ordered-without, with-has, with-new, without-has}
use Rattle.iso_history.proofs.phantoms.Pairs.{pair-total, pair_is}
use Rattle.iso_history.proofs.locks.Same.{conn_same}
use Rattle.iso_history.specs.Entries.{entries_of, with_pair, without_pair}
use Rattle.iso_history.specs.Holds.{keeps}
use Rattle.iso_history.specs.Orders.{IsOrdered, has_pair}
use Rattle.iso_history.specs.Versions.{versions}
use Rattle.iso_history.specs.World.{World}
use Rattle.iso_key.specs.Entries as keyed
use Rattle.iso_types.specs.Edges.{has_edge}
use Rattle.iso_types.specs.Head.{table_of_index}
use Rattle.iso_types.specs.Ids.{conn_eq, pair_eq, pair_lt}
use Rattle.iso_types.specs.declared.edges.Edges.{Edges}
use Rattle.iso_types.specs.declared.head.Head.{Head}
use Rattle.iso_types.specs.declared.head.IndexDef.{IndexDef}
use Rattle.iso_types.specs.declared.value.Conn.{Conn}
use Rattle.iso_types.specs.declared.value.IndexId.{IndexId}
use Rattle.iso_types.specs.declared.value.Name.TheVariants.{Key}
use Rattle.iso_types.specs.declared.value.Rid.{Rid}
use Rattle.iso_types.specs.declared.value.TableId.{TableId}
use Rattle.iso_types.specs.declared.value.Value.{Value}

-- an index adds a pair as the history does
pub with-same : (q : Value × Rid) (es : List (Value × Rid)) → keyed.with_pair q es ≡ with_pair q es
with-same q [] = refl
with-same q (x ∷ es) =
    ap (λ (l : List (Value × Rid)). if pair_lt q x then q ∷ x ∷ es else if pair_eq q x then x ∷ es else x ∷ l) (with-same q es)

-- ---- keys by rid

-- where no key is written none is kept
pub set-none : (keys : List (Option Value)) (k : ℕ) → get_or (slice_set keys k None) k None ≡ None
set-none [] k = refl
set-none (x ∷ xs) zero = refl
set-none (x ∷ xs) (suc k) = set-none xs k

-- a key that is kept then was kept before
pub set-kept : (keys : List (Option Value)) (k j : ℕ) (v : Value) → get_or (slice_set keys k None) j None ≡ Some v → get_or keys j None ≡ Some v
set-kept [] k j v e = e
set-kept (x ∷ xs) zero zero v e = absurd (cc)
set-kept (x ∷ xs) zero (suc j) v e = e
set-kept (x ∷ xs) (suc k) zero v e = e
set-kept (x ∷ xs) (suc k) (suc j) v e = set-kept xs k j v e

-- and each other key stays
pub kept-set : (keys : List (Option Value)) (k j : ℕ) (v : Value) → (j ≡ k → ⊥) → get_or keys j None ≡ Some v → get_or (slice_set keys k None) j None ≡ Some v
kept-set [] k j v n e = e
kept-set (x ∷ xs) zero zero v n e = absurd (n refl)
kept-set (x ∷ xs) zero (suc j) v n e = e
kept-set (x ∷ xs) (suc k) zero v n e = e
kept-set (x ∷ xs) (suc k) (suc j) v n e = kept-set xs k j v (λ s. n (ap suc s)) e

-- a place that is added has no key
pub pushed-none : (keys : List (Option Value)) (j : ℕ) → get_or (keys ++ None ∷ []) j None ≡ get_or keys j None
pushed-none [] zero = refl
pushed-none [] (suc j) = refl
pushed-none (x ∷ xs) zero = refl
pushed-none (x ∷ xs) (suc j) = pushed-none xs j

-- a key that is written into an empty place
pub set-some : (keys : List (Option Value)) (k : ℕ) (v : Value) → k < length keys → get_or (slice_set keys k (Some v)) k None ≡ Some v
set-some [] k v lt = absurd (omega (arith, lt))
set-some (x ∷ xs) zero v lt = refl
set-some (x ∷ xs) (suc k) v lt = set-some xs k v (omega (arith, lt))

set-new : (keys : List (Option Value)) (k j : ℕ) (v y : Value) → get_or (slice_set keys k (Some v)) j None ≡ Some y
    → (get_or keys j None ≡ Some y) ⊎ ((j ≡ k) × (y ≡ v))
set-new [] k j v y e = inl e
set-new (x ∷ xs) zero zero v y e = inr (refl, cc)
set-new (x ∷ xs) zero (suc j) v y e = inl e
set-new (x ∷ xs) (suc k) zero v y e = inl e
set-new (x ∷ xs) (suc k) (suc j) v y e = elim (set-new xs k j v y e) [ inl a ↦ inl a | inr a ↦ inr (ap suc a.0, a.1) ]

set-old : (keys : List (Option Value)) (k j : ℕ) (v y : Value) → get_or keys k None ≡ None → get_or keys j None ≡ Some y
    → get_or (slice_set keys k (Some v)) j None ≡ Some y
set-old [] k j v y n e = e
set-old (x ∷ xs) zero zero v y n e = absurd (cc)
set-old (x ∷ xs) zero (suc j) v y n e = e
set-old (x ∷ xs) (suc k) zero v y n e = e
set-old (x ∷ xs) (suc k) (suc j) v y n e = set-old xs k j v y n e

-- where nothing is written, and where a key is
pub keeps-same : (old new : List (Option Value)) (r : Rid) (key : Value) → ((s : Rid) → kept_at new s ≡ kept_at old s) → Keeps old new r key false
keeps-same old new r key same = record {
  kept = λ e. absurd (both_ways false refl e);
  same = λ s k e. same s ∙ e;
  fresh = λ s k e. inl (sym (same s) ∙ e);
}

pub keeps-set : (old mid new : List (Option Value)) (r : Rid) (key : Value) → ((s : Rid) → kept_at mid s ≡ kept_at old s) → r.0 < length mid
    → kept_at mid r ≡ None → new ≡ slice_set mid r.0 (Some key) → Keeps old new r key true
keeps-set old mid new r key same lt none is = subst (λ (z : List (Option Value)). Keeps old z r key true) (sym is) (record {
  kept = λ e. set-some mid r.0 key lt;
  same = λ s k e. set-old mid r.0 s.0 key k none (same s ∙ e);
  fresh = λ s k e. elim (set-new mid r.0 s.0 key k e) [
    | inl a ↦ inl (sym (same s) ∙ a)
    | inr a ↦ inr (refl, ap (λ (z : ℕ). record { 0 = z }) a.0, a.1)
  ];
})

-- ---- the pair at a rid becomes doubtful

module _ (x : Known) (r : Rid) where
  abbrev pub at : Option Value → Known
  at o = released_by r o x

  pub rel-ordered : IsOrdered x.pairs → IsOrdered (released r x).pairs
  rel-ordered o = go (kept_at x.keys r)
    where
      go : (k : Option Value) → IsOrdered (at k).pairs
      go None = o
      go (Some k) = ordered-with (k, r) x.pairs o

  pub rel-knows : (p : Value × Rid) → Knows x p → (p.1.0 ≡ r.0 → ⊥) ⊎ (p.1 ≡ r) → Knows (released r x) p
  rel-knows p (inl h) c = inl (go (kept_at x.keys r))
    where
      go : (k : Option Value) → has_pair (at k).pairs p ≡ true
      go None = h
      go (Some k) = with-has (k, r) p x.pairs h
  rel-knows p (inr (inr h)) c = inr (inr (go (kept_at x.keys r)))
    where
      go : (k : Option Value) → has_pair (at k).parked p ≡ true
      go None = h
      go (Some k) = h
  rel-knows p (inr (inl h)) (inl c) = inr (inl (go (kept_at x.keys r)))
    where
      go : (k : Option Value) → kept_at (at k).keys p.1 ≡ Some p.0
      go None = h
      go (Some k) = kept-set x.keys r.0 p.1.0 p.0 c h
  rel-knows p (inr (inl h)) (inr c) = inl (go (kept_at x.keys r) refl)
    where
      here : kept_at x.keys r ≡ Some p.0
      here = subst (λ (z : Rid). kept_at x.keys z ≡ Some p.0) c h

      go : (k : Option Value) → kept_at x.keys r ≡ k → has_pair (at k).pairs p ≡ true
      go None e = absurd (cc)
      go (Some k) e =
          let same : k ≡ p.0 = cc in
          subst (λ (z : Value × Rid). has_pair (with_pair (k, r) x.pairs) z ≡ true) (ap (λ (v : Value). (v, r)) same ∙ ap (λ (z : Rid). (p.0, z)) (sym c))
          (with-new (k, r) x.pairs)

  pub rel-there : (P : Value × Rid → Type 0) → ((p : Value × Rid) → has_pair x.pairs p ≡ true → P p) → ((k : Value) → kept_at x.keys r ≡ Some k → P (k, r))
      → (p : Value × Rid) → has_pair (released r x).pairs p ≡ true → P p
  rel-there P old new p h = go (kept_at x.keys r) refl h
    where
      go : (k : Option Value) → kept_at x.keys r ≡ k → has_pair (at k).pairs p ≡ true → P p
      go None e h = old p h
      go (Some k) e h = elim (has-with (k, r) p x.pairs h) [
        | inl a ↦ old p a
        | inr a ↦ subst P (sym a) (new k e)
      ]

  pub rel-kept : (s : Rid) (v : Value) → kept_at (released r x).keys s ≡ Some v → (kept_at x.keys s ≡ Some v) × (s ≡ r → ⊥)
  rel-kept s v h = go (kept_at x.keys r) refl h
    where
      go : (k : Option Value) → kept_at x.keys r ≡ k → kept_at (at k).keys s ≡ Some v → (kept_at x.keys s ≡ Some v) × (s ≡ r → ⊥)
      go None e h = (h, λ c. let z : kept_at x.keys r ≡ Some v = subst (λ (y : Rid). kept_at x.keys y ≡ Some v) c h in cc)
      go (Some k) e h = (
        set-kept x.keys r.0 s.0 v h,
        λ c. let z : kept_at (slice_set x.keys r.0 None) r ≡ Some v = subst (λ (y : Rid). kept_at (slice_set x.keys r.0 None) y ≡ Some v) c h in
            let n : kept_at (slice_set x.keys r.0 None) r ≡ None = set-none x.keys r.0 in cc,
      )

  -- what is parked stays so
  pub rel-parked : (released r x).parked ≡ x.parked
  rel-parked = go (kept_at x.keys r)
    where
      go : (k : Option Value) → (at k).parked ≡ x.parked
      go None = refl
      go (Some k) = refl

  pub rel-by : (released r x).by ≡ x.by
  rel-by = go (kept_at x.keys r)
    where
      go : (k : Option Value) → (at k).by ≡ x.by
      go None = refl
      go (Some k) = refl

-- ---- filling

parked-same : (w : World) (i : IndexId) (x y : Known) → y.parked ≡ x.parked → y.by ≡ x.by → AreParked w i x → AreParked w i y
parked-same w i x y stood by a p h =
    let k = a p (subst (λ (ps : List (Value × Rid)). has_pair ps p ≡ true) stood h) in
    (k.0, subst (λ (b : Edges). IsHeld w b (Key i p.0)) (sym by) k.1)

module _ (head : Head) (w : World) (i : IndexId) where
  -- where none is left all is known
  pub filled-known : (x : Known) → IsFilled head w i x [] → IsKnown head w i x
  filled-known x f = record {
    ordered = f.ordered;
    all = λ p h. elim (f.all p h) [ inl a ↦ a | inr a ↦ absurd (both_ways false refl a) ];
    there = f.there;
    kept = f.kept;
    calm = f.calm;
    parked = f.parked;
  }

  -- at first all are left
  pub filled-first : (x : Known) (left : List (Value × Rid)) → x.pairs ≡ [] → x.keys ≡ [] → x.parked ≡ [] → left ≡ entries_of w i → IsFilled head w i x left
  filled-first x left none bare free is = record {
    ordered = subst IsOrdered (sym none) tt;
    all = λ p h. inr (subst (λ (ps : List (Value × Rid)). has_pair ps p ≡ true) (sym is) h);
    there = λ p h. absurd (both_ways (has_pair x.pairs p) (ap (λ (ps : List (Value × Rid)). has_pair ps p) none) h);
    kept = λ r k h. absurd (no-key r k h);
    calm = λ r k t h on. absurd (no-key r k h);
    parked = λ p h. absurd (both_ways (has_pair x.parked p) (ap (λ (ps : List (Value × Rid)). has_pair ps p) free) h);
  }
    where
      no-key : (r : Rid) (k : Value) → kept_at x.keys r ≡ Some k → ⊥
      no-key r k h = let z : kept_at x.keys r ≡ None = ap (λ (ks : List (Option Value)). kept_at ks r) bare in absurd (cc)

  -- a pair of the index that becomes doubtful
  pub filled-added : (x y : Known) (p : Value × Rid) (left : List (Value × Rid)) → has_pair (entries_of w i) p ≡ true
      → y.pairs ≡ with_pair p x.pairs → y.keys ≡ x.keys → y.parked ≡ x.parked → y.by ≡ x.by → IsFilled head w i x (p ∷ left) → IsFilled head w i y left
  filled-added x y p left in_ is same stood by f = record {
    ordered = subst IsOrdered (sym is) (ordered-with p x.pairs f.ordered);
    all = λ q h. elim (f.all q h) [
      | inl (inl a) ↦ inl (inl (grown q (with-has p q x.pairs a)))
      | inl (inr (inl a)) ↦ inl (inr (inl (ap (λ (ks : List (Option Value)). kept_at ks q.1) same ∙ a)))
      | inl (inr (inr a)) ↦ inl (inr (inr (subst (λ (ps : List (Value × Rid)). has_pair ps q ≡ true) (sym stood) a)))
      | inr a ↦ elim (has-cases p q left a) [
        | inl b ↦ inl (inl (grown q (subst (λ (z : Value × Rid). has_pair (with_pair p x.pairs) z ≡ true) (sym b) (with-new p x.pairs))))
        | inr b ↦ inr b
      ]
    ];
    there = λ q h. elim (has-with p q x.pairs (subst (λ (ps : List (Value × Rid)). has_pair ps q ≡ true) is h)) [
      | inl a ↦ f.there q a
      | inr a ↦ subst (λ (z : Value × Rid). has_pair (entries_of w i) z ≡ true) (sym a) in_
    ];
    kept = λ r k h. f.kept r k (sym (ap (λ (ks : List (Option Value)). kept_at ks r) same) ∙ h);
    calm = λ r k t h on. f.calm r k t (sym (ap (λ (ks : List (Option Value)). kept_at ks r) same) ∙ h) on;
    parked = parked-same w i x y stood by f.parked;
  }
    where
      grown : (q : Value × Rid) → has_pair (with_pair p x.pairs) q ≡ true → has_pair y.pairs q ≡ true
      grown q h = subst (λ (ps : List (Value × Rid)). has_pair ps q ≡ true) (sym is) h

  -- a pair that is not kept leaves all as it was
  pub filled-kept : (x y : Known) (p : Value × Rid) (left : List (Value × Rid)) (b : Bool) → has_pair (entries_of w i) p ≡ true → y.pairs ≡ x.pairs
      → y.parked ≡ x.parked → y.by ≡ x.by
      → Keeps x.keys y.keys p.1 p.0 b → (b ≡ true → (t : TableId) → table_of_index head i ≡ Some t → is_calm head i p.0 (versions w t p.1) ≡ true)
      → IsFilled head w i x left → IsFilled head w i y left
  filled-kept x y p left b in_ same stood by k quiet f = record {
    ordered = subst IsOrdered (sym same) f.ordered;
    all = λ q h. elim (f.all q h) [
      | inl (inl a) ↦ inl (inl (subst (λ (ps : List (Value × Rid)). has_pair ps q ≡ true) (sym same) a))
      | inl (inr (inl a)) ↦ inl (inr (inl (k.same q.1 q.0 a)))
      | inl (inr (inr a)) ↦ inl (inr (inr (subst (λ (ps : List (Value × Rid)). has_pair ps q ≡ true) (sym stood) a)))
      | inr a ↦ inr a
    ];
    there = λ q h. f.there q (subst (λ (ps : List (Value × Rid)). has_pair ps q ≡ true) same h);
    kept = λ r v h. elim (k.fresh r v h) [
      | inl a ↦ f.kept r v a
      | inr a ↦ subst (λ (z : Value × Rid). has_pair (entries_of w i) z ≡ true) (sym (pair-of r v a.1 a.2)) in_
    ];
    calm = λ r v t h on. elim (k.fresh r v h) [
      | inl a ↦ f.calm r v t a on
      | inr a ↦ subst (λ (z : Value × Rid). is_calm head i z.0 (versions w t z.1) ≡ true) (sym (pair-of r v a.1 a.2)) (quiet a.0 t on)
    ];
    parked = parked-same w i x y stood by f.parked;
  }
    where
      pair-of : (r : Rid) (v : Value) → r ≡ p.1 → v ≡ p.0 → (v, r) ≡ p
      pair-of r v a e = ap (λ (z : Value). (z, r)) e ∙ ap (λ (z : Rid). (p.0, z)) a

  -- a pair whose key is kept is left no more
  pub filled-taken : (x : Known) (p : Value × Rid) (left : List (Value × Rid)) → kept_at x.keys p.1 ≡ Some p.0 → IsFilled head w i x (p ∷ left)
      → IsFilled head w i x left
  filled-taken x p left e f = record {
    ordered = f.ordered;
    all = λ q h. elim (f.all q h) [
      | inl a ↦ inl a
      | inr a ↦ elim (has-cases p q left a) [
        | inl b ↦ inl (inr (inl (subst (λ (z : Value × Rid). kept_at x.keys z.1 ≡ Some z.0) (sym b) e)))
        | inr b ↦ inr b
      ]
    ];
    there = f.there;
    kept = f.kept;
    calm = f.calm;
    parked = f.parked;
  }

  -- what is known is filled
  pub known-filled : (x : Known) (left : List (Value × Rid)) → IsKnown head w i x → IsFilled head w i x left
  known-filled x left f = record { ordered = f.ordered; all = λ p h. inl (f.all p h); there = f.there; kept = f.kept; calm = f.calm; parked = f.parked }

  -- a pair whose key is kept need not be doubtful
  pub known-dropped : (x y : Known) (p : Value × Rid) → kept_at x.keys p.1 ≡ Some p.0 → y.pairs ≡ without_pair p x.pairs → y.keys ≡ x.keys
      → y.parked ≡ x.parked → y.by ≡ x.by → IsKnown head w i x → IsKnown head w i y
  known-dropped x y p e is same stood by f = record {
    ordered = subst IsOrdered (sym is) (ordered-without p x.pairs f.ordered);
    all = λ q h. elim (f.all q h) [
      | inl a ↦ drop q a (pair_eq p q) refl
      | inr (inl a) ↦ inr (inl (keys q.1 ∙ a))
      | inr (inr a) ↦ inr (inr (subst (λ (ps : List (Value × Rid)). has_pair ps q ≡ true) (sym stood) a))
    ];
    there = λ q h. f.there q (has-without p q x.pairs (subst (λ (ps : List (Value × Rid)). has_pair ps q ≡ true) is h)).0;
    kept = λ r k h. f.kept r k (sym (keys r) ∙ h);
    calm = λ r k t h on. f.calm r k t (sym (keys r) ∙ h) on;
    parked = parked-same w i x y stood by f.parked;
  }
    where
      keys : (r : Rid) → kept_at y.keys r ≡ kept_at x.keys r
      keys r = ap (λ (ks : List (Option Value)). kept_at ks r) same

      drop : (q : Value × Rid) → has_pair x.pairs q ≡ true → (b : Bool) → pair_eq p q ≡ b → Knows y q
      drop q a true s = let is_same : p ≡ q = pair_is p q s in
          inr (inl (keys q.1 ∙ subst (λ (z : Value × Rid). kept_at x.keys z.1 ≡ Some z.0) is_same e))
      drop q a false s = inl (subst (λ (ps : List (Value × Rid)). has_pair ps q ≡ true) (sym is) (without-has p q x.pairs a s))

  -- a doubtful pair whose key's name is held need not be doubtful
  pub known-parked : (x y : Known) (p : Value × Rid) (c : Conn) → IsParking x y p c → has_pair x.pairs p ≡ true → keeps w c (Key i p.0) ≡ true
      → IsKnown head w i x → IsKnown head w i y
  known-parked x y p c g in_ held f = record {
    ordered = subst IsOrdered (sym g.pairs) (ordered-without p x.pairs f.ordered);
    all = λ q h. elim (f.all q h) [
      | inl a ↦ drop q a (pair_eq p q) refl
      | inr (inl a) ↦ inr (inl (keys q.1 ∙ a))
      | inr (inr a) ↦ inr (inr (here q (with-has p q x.parked a)))
    ];
    there = λ q h. f.there q (has-without p q x.pairs (subst (λ (ps : List (Value × Rid)). has_pair ps q ≡ true) g.pairs h)).0;
    kept = λ r k h. f.kept r k (sym (keys r) ∙ h);
    calm = λ r k t h on. f.calm r k t (sym (keys r) ∙ h) on;
    parked = λ q h. elim (has-with p q x.parked (subst (λ (ps : List (Value × Rid)). has_pair ps q ≡ true) g.parked h)) [
      | inl a ↦ (let k = f.parked q a in (k.0, (k.1.0, g.by k.1.0 ∙ or-right (conn_eq k.1.0 c) (has_edge x.by k.1.0) k.1.1, k.1.2)))
      | inr a ↦ subst (λ (z : Value × Rid). (has_pair (entries_of w i) z ≡ true) × IsHeld w y.by (Key i z.0)) (sym a)
          (f.there p in_, (c, g.by c ∙ ap (λ (b : Bool). b || has_edge x.by c) (conn_same c), held))
    ];
  }
    where
      keys : (r : Rid) → kept_at y.keys r ≡ kept_at x.keys r
      keys r = ap (λ (ks : List (Option Value)). kept_at ks r) g.keys

      here : (q : Value × Rid) → has_pair (with_pair p x.parked) q ≡ true → has_pair y.parked q ≡ true
      here q h = subst (λ (ps : List (Value × Rid)). has_pair ps q ≡ true) (sym g.parked) h

      or-right : (a b : Bool) → b ≡ true → (a || b) ≡ true
      or-right true b e = refl
      or-right false b e = e

      drop : (q : Value × Rid) → has_pair x.pairs q ≡ true → (b : Bool) → pair_eq p q ≡ b → Knows y q
      drop q a true s = let is_same : p ≡ q = pair_is p q s in
          inr (inr (here q (subst (λ (z : Value × Rid). has_pair (with_pair p x.parked) z ≡ true) is_same (with-new p x.parked))))
      drop q a false s = inl (subst (λ (ps : List (Value × Rid)). has_pair ps q ≡ true) (sym g.pairs) (without-has p q x.pairs a s))

  -- and a parked one may be doubtful again
  pub known-moved : (x y : Known) (p : Value × Rid) → has_pair x.parked p ≡ true → y.pairs ≡ with_pair p x.pairs → y.keys ≡ x.keys
      → y.parked ≡ without_pair p x.parked → y.by ≡ x.by → IsKnown head w i x → IsKnown head w i y
  known-moved x y p in_ is same stood by f = record {
    ordered = subst IsOrdered (sym is) (ordered-with p x.pairs f.ordered);
    all = λ q h. elim (f.all q h) [
      | inl a ↦ inl (grown q (with-has p q x.pairs a))
      | inr (inl a) ↦ inr (inl (keys q.1 ∙ a))
      | inr (inr a) ↦ move q a (pair_eq p q) refl
    ];
    there = λ q h. elim (has-with p q x.pairs (subst (λ (ps : List (Value × Rid)). has_pair ps q ≡ true) is h)) [
      | inl a ↦ f.there q a
      | inr a ↦ subst (λ (z : Value × Rid). has_pair (entries_of w i) z ≡ true) (sym a) (f.parked p in_).0
    ];
    kept = λ r k h. f.kept r k (sym (keys r) ∙ h);
    calm = λ r k t h on. f.calm r k t (sym (keys r) ∙ h) on;
    parked = λ q h. (let k = f.parked q (has-without p q x.parked (subst (λ (ps : List (Value × Rid)). has_pair ps q ≡ true) stood h)).0 in
        (k.0, subst (λ (b : Edges). IsHeld w b (Key i q.0)) (sym by) k.1));
  }
    where
      keys : (r : Rid) → kept_at y.keys r ≡ kept_at x.keys r
      keys r = ap (λ (ks : List (Option Value)). kept_at ks r) same

      grown : (q : Value × Rid) → has_pair (with_pair p x.pairs) q ≡ true → has_pair y.pairs q ≡ true
      grown q h = subst (λ (ps : List (Value × Rid)). has_pair ps q ≡ true) (sym is) h

      move : (q : Value × Rid) → has_pair x.parked q ≡ true → (b : Bool) → pair_eq p q ≡ b → Knows y q
      move q a true s = let is_same : p ≡ q = pair_is p q s in
          inl (grown q (subst (λ (z : Value × Rid). has_pair (with_pair p x.pairs) z ≡ true) is_same (with-new p x.pairs)))
      move q a false s = inr (inr (subst (λ (ps : List (Value × Rid)). has_pair ps q ≡ true) (sym stood) (without-has p q x.parked a s)))

  -- where none is parked no connection need be named
  pub known-bare : (x y : Known) → x.parked ≡ [] → y.pairs ≡ x.pairs → y.keys ≡ x.keys → y.parked ≡ x.parked → IsKnown head w i x → IsKnown head w i y
  known-bare x y none is same stood f = record {
    ordered = subst IsOrdered (sym is) f.ordered;
    all = λ q h. elim (f.all q h) [
      | inl a ↦ inl (subst (λ (ps : List (Value × Rid)). has_pair ps q ≡ true) (sym is) a)
      | inr (inl a) ↦ inr (inl (keys q.1 ∙ a))
      | inr (inr a) ↦ inr (inr (subst (λ (ps : List (Value × Rid)). has_pair ps q ≡ true) (sym stood) a))
    ];
    there = λ q h. f.there q (subst (λ (ps : List (Value × Rid)). has_pair ps q ≡ true) is h);
    kept = λ r k h. f.kept r k (sym (keys r) ∙ h);
    calm = λ r k t h on. f.calm r k t (sym (keys r) ∙ h) on;
    parked = λ q h. absurd (both_ways (has_pair y.parked q) (ap (λ (ps : List (Value × Rid)). has_pair ps q) (stood ∙ none)) h);
  }
    where
      keys : (r : Rid) → kept_at y.keys r ≡ kept_at x.keys r
      keys r = ap (λ (ks : List (Option Value)). kept_at ks r) same

-- ---- what is found among the doubtful pairs

module _ (t : Value × Rid → Bool) (ps qs : List (Value × Rid)) (o : IsOrdered ps) (u : IsOrdered qs)
    (some : (p : Value × Rid) → has_pair ps p ≡ true → t p ≡ true → has_pair qs p ≡ true)
    (back : (p : Value × Rid) → has_pair qs p ≡ true → has_pair ps p ≡ true) where
  pub found-same : find t qs ≡ find t ps
  found-same = go (find t qs) refl (find t ps) refl
    where
      go : (a : Option (Value × Rid)) → find t qs ≡ a → (b : Option (Value × Rid)) → find t ps ≡ b → a ≡ b
      go None e None f = refl
      go None e (Some p) f =
          let h = find-has t ps p f in
          absurd (both_ways (t p) (find-none t qs p e (some p h.0 h.1)) h.1)
      go (Some p) e None f =
          let h = find-has t qs p e in
          absurd (both_ways (t p) (find-none t ps p f (back p h.0)) h.1)
      go (Some p) e (Some q) f =
          let h = find-has t qs p e in
          let k = find-has t ps q f in
          ap Some (pair-total p q (find-least t ps q p o f (back p h.0) h.1) (find-least t qs p q u e (some q k.0 k.1) k.1))

-- a pair that is found stands in the list
pub some-found : (t : Value × Rid → Bool) (ps : List (Value × Rid)) (o : Option (Value × Rid)) → o ≡ find t ps → IfSome o (λ p. has_pair ps p ≡ true)
some-found t ps None e = tt
some-found t ps (Some p) e = (find-has t ps p (sym e)).0

-- an index has one table
pub calm-of : (head : Head) (w : World) (i : IndexId) (d : IndexDef) (key : Value) (r : Rid) → slice_get head.indexes i.0 ≡ Some d
    → is_calm head i key (versions w d.table r) ≡ true → (t : TableId) → table_of_index head i ≡ Some t → is_calm head i key (versions w t r) ≡ true
calm-of head w i d key r here calm t on =
    let both : Some d.table ≡ Some t = sym (ap (option_map (λ (x : IndexDef). x.table)) here) ∙ on in
    let same : d.table ≡ t = cc in
    subst (λ (z : TableId). is_calm head i key (versions w z r) ≡ true) same calm
