-- Each entry leaves every version's key its pair, and committed versions last of their lists.
use Rattle.std.proofs.Common.{◌≡◌, ◌<◌, ℕ, Bool, true, false, not, ◌&&◌, List, [], ◌∷◌, length, refl, ap, sym, ◌∙◌, arith, subst, ◌⊎◌, inl, inr, Some, None, Option}
use Rattle.std.specs.List.{list_any}
use Rattle.std.specs.Option.{option_map_or}
use Rattle.std.specs.Prelude.{◌==◌, Contains}
use Rattle.std.proofs.lemmas.Bool.Decides.{nat_tests}
use Rattle.std.proofs.lemmas.List.FromFn.{get_or-map-range_with_len, length-map-range_with_len}
use Rattle.std.proofs.lemmas.Cmp.{nat_eq_equiv}
use Rattle.iso_history.proofs.phantoms.Members.{in-any, in-cases, in-filter, in-filter_passes, in-none}
use Rattle.iso_history.proofs.phantoms.Tests.{both, turned}
use Rattle.iso_history.proofs.phantoms.EntriesAfter.{pairs-gained, pairs_in, purged}
use Rattle.iso_history.proofs.phantoms.Names.{table_is}
use Rattle.iso_history.proofs.phantoms.Ordered.{with-has, with-new}
use Rattle.iso_history.proofs.phantoms.Pairs.{pair_is}
use Rattle.iso_history.proofs.phantoms.Values.{value_same}
use Rattle.iso_history.proofs.phantoms.VersionsAfter.{in-settled, versions-adds, versions-settles, versions-takes, versions-writes, versions_in}
use Rattle.iso_history.specs.Entries.{entries_by, entries_of, gained, is_in_use, is_purgeable, is_purgeable_of, least_purgeable, row_has}
use Rattle.iso_history.specs.Entries.Pairing.{Gains}
use Rattle.iso_history.specs.Orders.{IsLayered, VersionsLayered, has_pair}
use Rattle.iso_history.specs.Versions.{Change, committed, is_pending, pending_version, settled_by, slots, tables_by, taken_off, versions}
use Rattle.iso_history.specs.Versions.Change.{Adds, Keeps, Settles, Takes, Writes}
use Rattle.iso_history.specs.World.{Version, World}
use Rattle.iso_types.specs.Head.{indexes, indexes_of, is_index, key_in, table_of_index}
use Rattle.iso_types.specs.Ids.{index_eq, pair_eq, table_eq}
use Rattle.iso_types.specs.declared.head.Head.{Head}
use Rattle.iso_types.specs.declared.value.IndexId.{IndexId}
use Rattle.iso_types.specs.declared.value.Name.TheVariants.{Key}
use Rattle.iso_types.specs.declared.value.Rid.{Rid}
use Rattle.iso_types.specs.declared.value.TableId.{TableId}
use Rattle.iso_types.specs.declared.value.Value.{Value}

piled-taken : (n : ℕ) (vs : List Version) → IsLayered vs → IsLayered (taken_off n vs)
piled-taken n [] h = tt
piled-taken n (v ∷ vs) h = go (piled-taken n vs h.1) (not (v.pending && (v.number == n))) refl
  where
    go : IsLayered (taken_off n vs) → (b : Bool) → not (v.pending && (v.number == n)) ≡ b → IsLayered (taken_off n (v ∷ vs))
    go ih true e = rw e (λ p. ap (taken_off n) (h.0 p), ih)
    go ih false e = rw e ih

piled-settled : (u : ℕ) (vs : List Version) → IsLayered vs → IsLayered (settled_by u vs)
piled-settled u [] h = tt
piled-settled u (v ∷ vs) h = go (piled-settled u vs h.1) (v.pending && (v.unit == u)) refl
  where
    go : IsLayered (settled_by u vs) → (b : Bool) → (v.pending && (v.unit == u)) ≡ b → IsLayered (settled_by u (v ∷ vs))
    go ih true e = rw e (λ p. refl, tt)
    go ih false e = rw e (λ p. ap (settled_by u) (h.0 p), ih)

-- each effect leaves committed versions last
pub piled-change : (w : World) (u : ℕ) (ch : Change) → VersionsLayered w → (t : TableId) (r : Rid) → IsLayered (versions_in (tables_by w u ch) t r)
unfolding VersionsLayered
piled-change w u Keeps h t r = h t r
piled-change w u (Adds x row) h t r = elim (versions-adds w u x row t r) [
  | inl e ↦ subst IsLayered (sym e) (h t r)
  | inr e ↦ subst IsLayered (sym e.2) (λ p. refl, tt)
]
piled-change w u (Writes x y row) h t r = elim (versions-writes w u x y row t r) [
  | inl e ↦ subst IsLayered (sym e) (h t r)
  | inr e ↦ subst IsLayered (sym e.2) (λ p. absurd (true_false p), h x y)
]
  where
    true_false : true ≡ false → ⊥
    true_false p = cc
piled-change w u (Takes n) h t r = subst IsLayered (sym (versions-takes w u n t r)) (piled-taken n (versions w t r) (h t r))
piled-change w u Settles h t r = subst IsLayered (sym (versions-settles w u t r)) (piled-settled u (versions w t r) (h t r))

-- a version that an entry makes
abbrev pub IsNew : World → Change → TableId → Rid → Option (List Value) → Type 0
IsNew w (Adds x row) t r o = (t ≡ x) × (r.0 ≡ slots w x) × (o ≡ Some row)
IsNew w (Writes x y row) t r o = (t ≡ x) × (r ≡ y) × (o ≡ row)
IsNew w _ t r o = ⊥

-- a version of the same row stood there before
abbrev pub IsOld : World → TableId → Rid → Option (List Value) → Type 0
IsOld w t r o = (v : Version) × Contains (versions w t r) v × (v.row ≡ o)

-- each version after an entry is old or new
pub old-or-new : (w : World) (u : ℕ) (ch : Change) (t : TableId) (r : Rid) (v : Version) → Contains (versions_in (tables_by w u ch) t r) v
    → IsOld w t r v.row ⊎ IsNew w ch t r v.row
old-or-new w u Keeps t r v h = inl (v, h, refl)
old-or-new w u (Adds x row) t r v h = elim (versions-adds w u x row t r) [
  | inl e ↦ inl (v, subst (λ (l : List Version). Contains l v) e h, refl)
  | inr e ↦ elim (in-cases (pending_version w u (Some row)) v [] (subst (λ (l : List Version). Contains l v) e.2 h)) [
    | inl s ↦ inr (e.0, e.1, ap (λ (z : Version). z.row) s)
    | inr s ↦ absurd (in-none v s)
  ]
]
old-or-new w u (Writes x y row) t r v h = elim (versions-writes w u x y row t r) [
  | inl e ↦ inl (v, subst (λ (l : List Version). Contains l v) e h, refl)
  | inr e ↦ elim (in-cases (pending_version w u row) v (versions w x y) (subst (λ (l : List Version). Contains l v) e.2 h)) [
    | inl s ↦ inr (e.0, e.1, ap (λ (z : Version). z.row) s)
    | inr s ↦ inl (v, subst (λ (z : TableId). Contains (versions w z r) v) (sym e.0) (subst (λ (z : Rid). Contains (versions w x z) v) (sym e.1) s), refl)
  ]
]
old-or-new w u (Takes n) t r v h =
    inl (v, in-filter _ v (versions w t r) (subst (λ (l : List Version). Contains l v) (versions-takes w u n t r) h), refl)
old-or-new w u Settles t r v h = inl (in-settled u v (versions w t r) (subst (λ (l : List Version). Contains l v) (versions-settles w u t r) h))

-- an index of a table: of the head, on that table, and found among them
pub index-of-head : (head : Head) (t : TableId) (i : IndexId) → Contains (indexes_of head t) i → is_index head i ≡ true
index-of-head head t i h = go (in-filter _ i (indexes head) h)
  where
    go : Contains (indexes head) i → is_index head i ≡ true
    go (k, lt, e) =
        let long : length (indexes head) ≡ length head.indexes = length-map-range_with_len (λ k. record { 0 = k }) 0 (length head.indexes) in
        let small : k < length head.indexes = omega (arith, lt, long) in
        let s : record { 0 = k } ≡ i = sym (get_or-map-range_with_len (λ (k : ℕ). record { 0 = k }) 0 (length head.indexes) k k i small (omega arith)) ∙ e in
        let z : i.0 < length head.indexes = subst (λ (n : ℕ). n < length head.indexes) (ap (λ (x : IndexId). x.0) s) small in
        grind (arith, nat_tests, z)

-- the table of an index that the test finds
pub table-of-test : (t : TableId) (o : Option TableId) → option_map_or (λ u. table_eq u t) o false ≡ true → o ≡ Some t
table-of-test t None e = cc
table-of-test t (Some u) e = ap Some (table_is u t e)

pub index-on-table : (head : Head) (t : TableId) (i : IndexId) → Contains (indexes_of head t) i → table_of_index head i ≡ Some t
index-on-table head t i h = table-of-test t (table_of_index head i) (in-filter_passes _ i (indexes head) h)

pub index-found : (head : Head) (t : TableId) (i : IndexId) → Contains (indexes_of head t) i → list_any (index_eq i) (indexes_of head t) ≡ true
index-found head t i h = in-any (index_eq i) i (indexes_of head t) h (nat_eq_equiv.refl i.0)

module _ (head : Head) (w : World) where
  -- each pair of an index stays, where none is taken off
  pub stays-gained : (t : TableId) (r : Rid) (row : List Value) (i : IndexId) (p : Value × Rid) → has_pair (entries_of w i) p ≡ true
      → has_pair (gained head w t r row i) p ≡ true
  stays-gained t r row i p h = go (list_any (index_eq i) (indexes_of head t)) refl
    where
      go : (b : Bool) → list_any (index_eq i) (indexes_of head t) ≡ b → has_pair (gained head w t r row i) p ≡ true
      go true e = rw e (with-has (key_in head i row, r) p (entries_of w i) h)
      go false e = rw e h

  -- the row's key is there
  pub new-gained : (t : TableId) (r : Rid) (row : List Value) (i : IndexId) → Contains (indexes_of head t) i
      → has_pair (gained head w t r row i) (key_in head i row, r) ≡ true
  new-gained t r row i h = rw (index-found head t i h) (with-new (key_in head i row, r) (entries_of w i))

  -- a row that gains its pairs, beside versions that are of that row or old
  pub keys-gains : (x : TableId) (y : Rid) (row : List Value) (i : IndexId) (t : TableId) (r : Rid) (o : List Value)
      → Contains (indexes_of head t) i → has_pair (entries_of w i) (key_in head i o, r) ≡ true ⊎ ((t ≡ x) × (r ≡ y) × (o ≡ row))
      → has_pair (pairs_in (entries_by head w (Gains x y row)) i) (key_in head i o, r) ≡ true
  keys-gains x y row i t r o h e = subst (λ (l : List (Value × Rid)). has_pair l (key_in head i o, r) ≡ true)
      (sym (pairs-gained head w x y row i (index-of-head head t i h)))
      (elim e [
        | inl k ↦ stays-gained x y row i (key_in head i o, r) k
        | inr k ↦ subst (λ (z : List Value). has_pair (gained head w x y row i) (key_in head i z, r) ≡ true) (sym k.2)
            (subst (λ (z : Rid). has_pair (gained head w x y row i) (key_in head i row, z) ≡ true) (sym k.1)
            (new-gained x y row i (subst (λ (z : TableId). Contains (indexes_of head z) i) k.0 h)))
      ])

  -- the one version of a slot without pending ones
  committed-only : (vs : List Version) (v : Version) → IsLayered vs → is_pending vs ≡ false → Contains vs v → committed vs ≡ v.row
  committed-only [] v p e h = absurd (in-none v h)
  committed-only (x ∷ vs) v p e h = go x.pending refl
    where
      go : (b : Bool) → x.pending ≡ b → committed (x ∷ vs) ≡ v.row
      go true f = let z : true ≡ false = rw f at e in absurd (cc)
      go false f = rw f (elim (in-cases x v vs h) [
        | inl s ↦ ap (λ (z : Version). z.row) (sym s)
        | inr s ↦ absurd (in-none v (subst (λ (l : List Version). Contains l v) (p.0 f) s))
      ])

  -- a pair that is purged is no version's
  pub keys-purge : (j : IndexId) (key : Value) (y : Rid) → least_purgeable head w ≡ Some (j, (key, y)) → VersionsLayered w
      → (t : TableId) (r : Rid) (v : Version) (row : List Value)
      → table_of_index head j ≡ Some t → Contains (versions w t r) v → v.row ≡ Some row → pair_eq (key, y) (key_in head j row, r) ≡ false
  unfolding VersionsLayered
  keys-purge j key y l piled t r v row on h s = go (pair_eq (key, y) (key_in head j row, r)) refl
    where
      p : Value × Rid
      p = (key, y)

      fact : is_purgeable_of head w j (key, y) t ≡ true
      fact = let z : is_purgeable head w j (key, y) ≡ true = purged head w j (key, y) l in rw on at z

      go : (b : Bool) → pair_eq (key, y) (key_in head j row, r) ≡ b → pair_eq (key, y) (key_in head j row, r) ≡ false
      go false e = e
      go true e =
          let same : (key, y) ≡ (key_in head j row, r) = pair_is (key, y) (key_in head j row, r) e in
          let f0 = both (not (is_pending (versions w t y)) && not (row_has head j key (committed (versions w t y)))) (not (is_in_use w (Key j key))) fact in
          let f = both (not (is_pending (versions w t y))) (not (row_has head j key (committed (versions w t y)))) f0.0 in
          let yr : y ≡ r = ap (λ (z : Value × Rid). z.1) same in
          let kr : key ≡ key_in head j row = ap (λ (z : Value × Rid). z.0) same in
          let h2 : Contains (versions w t y) v = subst (λ (z : Rid). Contains (versions w t z) v) (sym yr) h in
          let c : committed (versions w t y) ≡ Some row = committed-only (versions w t y) v (piled t y) (turned (is_pending (versions w t y)) f.0) h2 ∙ s in
          let a : row_has head j key (Some row) ≡ false = subst (λ (o : Option (List Value)). row_has head j key o ≡ false) c
          (turned (row_has head j key (committed (versions w t y))) f.1) in
          let b : row_has head j key (Some row) ≡ true = subst (λ (z : Value). row_has head j z (Some row) ≡ true) (sym kr) (value_same (key_in head j row)) in
          absurd (cc)
