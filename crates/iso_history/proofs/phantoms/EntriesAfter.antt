-- Each entry leaves the pairs of each index in order.
use Rattle.std.proofs.Common.{◌≡◌, ◌<◌, ℕ, zero, suc, Bool, true, false, List, [], ◌∷◌, length, map, refl, ap, sym, ◌∙◌, arith, subst, ◌⊎◌, inl, inr, Some, None, Option, get_or}
use Rattle.std.specs.List.{list_any}
use Rattle.std.specs.Prelude.{slice_index_or, find}
use Rattle.std.proofs.lemmas.Bool.Decides.{nat_tests}
use Rattle.std.proofs.lemmas.List.{get_or-map}
use Rattle.std.proofs.lemmas.List.FromFn.{get_or-map-range_with_len, length-map-range_with_len}
use Rattle.iso_history.proofs.phantoms.Ordered.{find-has, ordered-with, ordered-without}
use Rattle.iso_history.proofs.phantoms.VersionsAfter.{set-cases}
use Rattle.iso_history.specs.After.{after}
use Rattle.iso_history.specs.Entries.{Pairing, entries_by, entries_of, gained, is_purgeable, least_purgeable, purgeable_from, without_pair}
use Rattle.iso_history.specs.Entries.Pairing.{Gains, Loses, Same}
use Rattle.iso_history.specs.Orders.{EntriesOrdered, IsOrdered}
use Rattle.iso_history.specs.World.{World}
use Rattle.iso_history.specs.declared.entry.Entry.{Entry}
use Rattle.iso_types.specs.Head.{indexes, indexes_of, is_index, key_in}
use Rattle.iso_types.specs.Ids.{index_eq}
use Rattle.iso_types.specs.declared.head.Head.{Head}
use Rattle.iso_types.specs.declared.value.IndexId.{IndexId}
use Rattle.iso_types.specs.declared.value.Rid.{Rid}
use Rattle.iso_types.specs.declared.value.TableId.{TableId}
use Rattle.iso_types.specs.declared.value.Value.{Value}

-- the pairs of an index in a list of all
abbrev pub pairs_in : List (List (Value × Rid)) → IndexId → List (Value × Rid)
pairs_in entries i = slice_index_or entries i.0 []

index_at : (i j : IndexId) → i.0 ≡ j.0 → i ≡ j
index_at i j e = ap (λ (k : ℕ). record { 0 = k }) e

-- what holds of each image and of the default holds of what is read
pub read-map : {A B : Type 0} (P : B → Type 0) (f : A → B) (d : B) → ((x : A) → P (f x)) → P d → (xs : List A) (k : ℕ) → P (get_or (map f xs) k d)
read-map P f d h z [] k = z
read-map P f d h z (x ∷ xs) zero = h x
read-map P f d h z (x ∷ xs) (suc k) = read-map P f d h z xs k

module _ (head : Head) (w : World) where
  -- a row that comes leaves the pairs in order
  pub ordered-gained : EntriesOrdered w → (t : TableId) (r : Rid) (row : List Value) (i : IndexId) → IsOrdered (gained head w t r row i)
  unfolding EntriesOrdered
  ordered-gained o t r row i = go (list_any (index_eq i) (indexes_of head t)) refl
    where
      go : (b : Bool) → list_any (index_eq i) (indexes_of head t) ≡ b → IsOrdered (gained head w t r row i)
      go true e = rw e (ordered-with (key_in head i row, r) (entries_of w i) (o i))
      go false e = rw e (o i)

  -- each effect does
  pub ordered-pairing : (p : Pairing) → EntriesOrdered w → (i : IndexId) → IsOrdered (pairs_in (entries_by head w p) i)
  unfolding EntriesOrdered
  ordered-pairing Same o i = o i
  ordered-pairing (Gains t r row) o i = read-map IsOrdered (gained head w t r row) [] (ordered-gained o t r row) tt (indexes head) i.0
  ordered-pairing (Loses j key r) o i = elim (set-cases w.entries j.0 i.0 (without_pair (key, r) (entries_of w j)) []) [
    | inl e ↦ subst IsOrdered (sym e) (o i)
    | inr e ↦ subst IsOrdered (sym e.1) (ordered-without (key, r) (entries_of w j) (o j))
  ]

  -- the pairs of an index of the head after a row has come
  pub pairs-gained : (t : TableId) (r : Rid) (row : List Value) (i : IndexId) → is_index head i ≡ true
      → pairs_in (entries_by head w (Gains t r row)) i ≡ gained head w t r row i
  pairs-gained t r row i e =
      let lt : i.0 < length head.indexes = grind (arith, nat_tests, e) in
      let long : length (indexes head) ≡ length head.indexes = length-map-range_with_len (λ k. record { 0 = k }) 0 (length head.indexes) in
      let z : i.0 < length (indexes head) = omega (arith, lt, long) in
      get_or-map (gained head w t r row) (indexes head) i.0 i [] z
      ∙ ap (gained head w t r row) (get_or-map-range_with_len (λ k. record { 0 = k }) 0 (length head.indexes) i.0 i.0 i lt (omega arith))

  -- the pairs of an index after a pair was taken off
  pub pairs-lost : (j : IndexId) (key : Value) (r : Rid) (i : IndexId) → (pairs_in (entries_by head w (Loses j key r)) i ≡ entries_of w i)
      ⊎ ((i ≡ j) × (pairs_in (entries_by head w (Loses j key r)) i ≡ without_pair (key, r) (entries_of w i)))
  pairs-lost j key r i = elim (set-cases w.entries j.0 i.0 (without_pair (key, r) (entries_of w j)) []) [
    | inl e ↦ inl e
    | inr e ↦ inr (index_at i j e.0, e.1 ∙ ap (λ (k : ℕ). without_pair (key, r) (get_or w.entries k [])) (sym e.0))
  ]

  -- what is purged is purgeable
  pub purged-from : (is : List IndexId) (i : IndexId) (p : Value × Rid) → purgeable_from head w is ≡ Some (i, p) → is_purgeable head w i p ≡ true
  purged-from [] i p e = cc
  purged-from (j ∷ is) i p e = go (purged-from is i p) (find (is_purgeable head w j) (entries_of w j)) refl
    where
      go : (purgeable_from head w is ≡ Some (i, p) → is_purgeable head w i p ≡ true) → (o : Option (Value × Rid))
          → find (is_purgeable head w j) (entries_of w j) ≡ o
          → is_purgeable head w i p ≡ true
      go ih None f = ih (rw (f, purgeable_from) at e)
      go ih (Some q) f =
          let s : Some (j, q) ≡ Some (i, p) = rw (f, purgeable_from) at e in let both_are : (j, q) ≡ (i, p) = cc in
          let a : j ≡ i = ap (λ (z : IndexId × (Value × Rid)). z.0) both_are in let b : q ≡ p = ap (λ (z : IndexId × (Value × Rid)). z.1) both_are in
          let x : is_purgeable head w j q ≡ true = (find-has (is_purgeable head w j) (entries_of w j) q f).1 in
          subst (λ (k : IndexId). is_purgeable head w k p ≡ true) a (subst (λ (z : Value × Rid). is_purgeable head w j z ≡ true) b x)

  -- the least purgeable pair is purgeable
  pub purged : (i : IndexId) (p : Value × Rid) → least_purgeable head w ≡ Some (i, p) → is_purgeable head w i p ≡ true
  purged i p e = purged-from (indexes head) i p e

  -- so does each entry
  pub ordered-after : (e : Entry) → EntriesOrdered w → EntriesOrdered (after head w e)
  unfolding EntriesOrdered
  ordered-after e o i = ordered-pairing _ o i
