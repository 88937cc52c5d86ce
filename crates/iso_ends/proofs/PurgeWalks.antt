-- A walk over the pairs of an index by what stands next behind each.
use Rattle.std.proofs.Common.{◌≡◌, ◌<◌, ◌≤◌, ◌+◌, ◌∙◌, ◌⊎◌, inl, inr, ℕ, zero, suc, Bool, true, false, List, [], ◌∷◌, filter, find, length, map, refl, ap, sym, subst, arith, slice_get, Some, None, Option}
use Rattle.std.specs.List.{list_all, range_with_len}
use Rattle.std.proofs.lemmas.Bool.{and_parts, both_ways}
use Rattle.iso_history.proofs.phantoms.Finds.{find-all}
use Rattle.iso_history.proofs.phantoms.Pairs.{pair-irrefl, pair-trans}
use Rattle.iso_history.proofs.phantoms.GapStarts.{keyed-world}
use Rattle.iso_history.specs.After.{world}
use Rattle.iso_history.specs.Entries.{entries_of, is_purgeable, least_purgeable, purgeable_from}
use Rattle.iso_history.specs.Orders.{EntriesOrdered, IsOrdered}
use Rattle.iso_history.specs.World.{World}
use Rattle.iso_state.specs.Stands.{Content, Stands}
use Rattle.iso_types.specs.Ids.{pair_lt}
use Rattle.iso_types.specs.declared.head.Head.{Head}
use Rattle.iso_types.specs.declared.value.IndexId.{IndexId}
use Rattle.iso_types.specs.declared.value.Rid.{Rid}
use Rattle.iso_types.specs.declared.value.Value.{Value}

-- the pair and all behind it
abbrev pub behind : Option (Value × Rid) → List (Value × Rid) → List (Value × Rid)
behind None ps = []
behind (Some p) ps = p ∷ filter (pair_lt p) ps

filter-all : (t : Value × Rid → Bool) (ps : List (Value × Rid)) → list_all t ps ≡ true → filter t ps ≡ ps
filter-all t [] e = refl
filter-all t (p ∷ ps) e =
    let k = and_parts (t p) (list_all t ps) e in
    let first = k.0 in
    rw first (ap (λ (qs : List (Value × Rid)). p ∷ qs) (filter-all t ps k.1))

-- behind the first stand all others
after-first : (q : Value × Rid) (qs : List (Value × Rid)) → IsOrdered (q ∷ qs) → filter (pair_lt q) (q ∷ qs) ≡ qs
after-first q qs o = let same = pair-irrefl q in rw same (filter-all (pair_lt q) qs o.0)

all-below : (e q : Value × Rid) (qs : List (Value × Rid)) → pair_lt e q ≡ true → list_all (pair_lt q) qs ≡ true → list_all (pair_lt e) qs ≡ true
all-below e q [] h a = refl
all-below e q (x ∷ xs) h a =
    let k = and_parts (pair_lt q x) (list_all (pair_lt q) xs) a in
    let first = pair-trans e q x h k.0 in
    rw first (all-below e q xs h k.1)

pair-asym : (p q : Value × Rid) → pair_lt p q ≡ true → pair_lt q p ≡ false
pair-asym p q h = go (pair_lt q p) refl
  where
    go : (b : Bool) → pair_lt q p ≡ b → b ≡ false
    go false e = refl
    go true e = absurd (both_ways (pair_lt p p) (pair-irrefl p) (pair-trans p q p h e))

-- the walk begins at the first pair, and has all before it
pub begin-behind : (ps : List (Value × Rid)) → IsOrdered ps → behind (find (λ _. true) ps) ps ≡ ps
begin-behind [] o = refl
begin-behind (q ∷ qs) o = ap (λ (xs : List (Value × Rid)). q ∷ xs) (after-first q qs o)

-- each further step leaves what stands behind the pair
pub next-behind : (e : Value × Rid) (ps : List (Value × Rid)) → IsOrdered ps → behind (find (pair_lt e) ps) ps ≡ filter (pair_lt e) ps
next-behind e [] o = refl
next-behind e (q ∷ qs) o = go (pair_lt e q) refl (next-behind e qs o.1)
  where
    found : (r : Option (Value × Rid)) → find (pair_lt e) qs ≡ r → behind r qs ≡ filter (pair_lt e) qs → behind r (q ∷ qs) ≡ filter (pair_lt e) qs
    found None f ih = ih
    found (Some x) f ih =
        let past : pair_lt q x ≡ true = find-all (pair_lt e) (pair_lt q) qs x o.0 f in
        let back : pair_lt x q ≡ false = pair-asym q x past in
        rw back ih

    go : (b : Bool) → pair_lt e q ≡ b → behind (find (pair_lt e) qs) qs ≡ filter (pair_lt e) qs
        → behind (find (pair_lt e) (q ∷ qs)) (q ∷ qs) ≡ filter (pair_lt e) (q ∷ qs)
    go true h ih =
        rw h (ap (λ (xs : List (Value × Rid)). q ∷ xs) (after-first q qs o ∙ sym (filter-all (pair_lt e) qs (all-below e q qs h o.0))))
    go false h ih = rw h (found (find (pair_lt e) qs) refl ih)

-- the first pair that passes is the first of those that the walk has before it
abbrev pub IsWalk : (Value × Rid → Bool) → List (Value × Rid) → Option (Value × Rid) → Type 0
IsWalk t ps next = find t ps ≡ find t (behind next ps)

module _ (t : Value × Rid → Bool) (ps : List (Value × Rid)) (o : IsOrdered ps) where
  pub walk-begins : IsWalk t ps (find (λ _. true) ps)
  walk-begins = ap (λ (xs : List (Value × Rid)). find t xs) (sym (begin-behind ps o))

  pub walk-next : (e : Value × Rid) → t e ≡ false → IsWalk t ps (Some e) → IsWalk t ps (find (pair_lt e) ps)
  walk-next e off is =
      is ∙ past e (filter (pair_lt e) ps) off ∙ ap (λ (xs : List (Value × Rid)). find t xs) (sym (next-behind e ps o))
    where
      past : (x : Value × Rid) (xs : List (Value × Rid)) → t x ≡ false → find t (x ∷ xs) ≡ find t xs
      past x xs h = rw h refl

  pub walk-found : (e : Value × Rid) → t e ≡ true → IsWalk t ps (Some e) → Some e ≡ find t ps
  walk-found e on is = sym (is ∙ here e (filter (pair_lt e) ps) on)
    where
      here : (x : Value × Rid) (xs : List (Value × Rid)) → t x ≡ true → find t (x ∷ xs) ≡ Some x
      here x xs h = rw h refl

  -- it ends
  pub walk-smaller : (e : Value × Rid) → length (behind (find (pair_lt e) ps) ps) < length (behind (Some e) ps)
  walk-smaller e =
      let same : length (behind (find (pair_lt e) ps) ps) ≡ length (filter (pair_lt e) ps) =
      ap (λ (xs : List (Value × Rid)). length xs) (next-behind e ps o) in
      omega (arith, same)

  pub walk-less : (e : Value × Rid) (now next : Option (Value × Rid)) → now ≡ Some e → next ≡ find (pair_lt e) ps
      → length (behind next ps) < length (behind now ps)
  walk-less e now next is then =
      subst (λ (x : Option (Value × Rid)). length (behind next ps) < length (behind x ps)) (sym is)
      (subst (λ (x : Option (Value × Rid)). length (behind x ps) < length (behind (Some e) ps)) (sym then) (walk-smaller e))

-- the pairs of an index stand in order
pub pairs-ordered : (p : Content) → Stands p → (i : IndexId) (ps : List (Value × Rid)) → ps ≡ entries_of (world p.head p.history) i → IsOrdered ps
unfolding EntriesOrdered
pairs-ordered p s i ps is = subst IsOrdered (sym is) ((keyed-world p.head p.history s.ground).ordered i)

-- ---- over all indexes

abbrev pub place : ℕ → IndexId
place k = record { 0 = k }

-- the least purgeable pair of one index
abbrev pub least_in : Head → World → ℕ → Option (Value × Rid)
least_in head w k = find (is_purgeable head w (place k)) (entries_of w (place k))

-- an index that the head does not have has none
pub none-without : (head : Head) (w : World) (i : IndexId) (ps : List (Value × Rid)) → None ≡ slice_get head.indexes i.0
    → None ≡ find (is_purgeable head w i) ps
none-without head w i [] e = refl
none-without head w i (p ∷ ps) e = let absent = sym e in rw absent (none-without head w i ps e)

module _ (head : Head) (w : World) where
  from-none : (s n : ℕ) → ((k : ℕ) → s ≤ k → k < s + n → least_in head w k ≡ None) → purgeable_from head w (map place (range_with_len s n)) ≡ None
  from-none s zero h = refl
  from-none s (suc n) h =
      let own = h s (omega arith) (omega arith) in
      rw (own, purgeable_from) (from-none (s + 1) n (λ k le lt. h k (omega (arith, le)) (omega (arith, lt))))

  from-first : (s n k : ℕ) (p : Value × Rid) → s ≤ k → k < s + n → ((j : ℕ) → s ≤ j → j < k → least_in head w j ≡ None) → least_in head w k ≡ Some p
      → purgeable_from head w (map place (range_with_len s n)) ≡ Some (place k, p)
  from-first s zero k p le lt h e = absurd (omega (arith, le, lt))
  from-first s (suc n) k p le lt h e =
      go (λ past. from-first (s + 1) n k p past (omega (arith, lt)) (λ j l m. h j (omega (arith, l)) m) e) (cases s k le)
    where
      cases : (a b : ℕ) → a ≤ b → (a ≡ b) ⊎ (a + 1 ≤ b)
      cases a b le = grind arith

      go : (s + 1 ≤ k → purgeable_from head w (map place (range_with_len (s + 1) n)) ≡ Some (place k, p)) → (s ≡ k) ⊎ (s + 1 ≤ k)
          → purgeable_from head w (place s ∷ map place (range_with_len (s + 1) n)) ≡ Some (place k, p)
      go later (inl same) =
          let own : least_in head w s ≡ Some p = subst (λ (z : ℕ). least_in head w z ≡ Some p) (sym same) e in
          rw (own, purgeable_from) (ap (λ (z : ℕ). Some (place z, p)) same)
      go later (inr past) = let own = h s (omega arith) (omega (arith, past)) in rw (own, purgeable_from) (later past)

  pub least-found : (k : ℕ) (p : Value × Rid) → k < length head.indexes → ((j : ℕ) → j < k → least_in head w j ≡ None) → least_in head w k ≡ Some p
      → Some (place k, p) ≡ least_purgeable head w
  least-found k p lt h e = sym (from-first 0 (length head.indexes) k p (omega arith) (omega (arith, lt)) (λ j le l. h j l) e)

  pub least-none : ((k : ℕ) → k < length head.indexes → least_in head w k ≡ None) → None ≡ least_purgeable head w
  least-none h = sym (from-none 0 (length head.indexes) (λ k le lt. h k (omega (arith, lt))))

-- one more index has none
pub none-next : (head : Head) (w : World) (k : ℕ) → ((j : ℕ) → j < k → least_in head w j ≡ None) → least_in head w k ≡ None
    → (j : ℕ) → j < k + 1 → least_in head w j ≡ None
none-next head w k h e j lt = go (cases j k lt)
  where
    cases : (x y : ℕ) → x < y + 1 → (x ≡ y) ⊎ (x < y)
    cases x y le = grind arith

    go : (j ≡ k) ⊎ (j < k) → least_in head w j ≡ None
    go (inl same) = subst (λ (z : ℕ). least_in head w z ≡ None) (sym same) e
    go (inr less) = h j less
