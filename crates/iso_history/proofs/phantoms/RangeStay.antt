-- An entry of another connection changes no slot with a version in the part that a scan has passed.
use Rattle.std.proofs.Common.{◌≡◌, ◌<◌, ℕ, Bool, true, false, ◌&&◌, List, length, refl, sym, ◌∙◌, arith, subst, inl, inr, Some, None, Option}
use Rattle.std.specs.List.{list_any}
use Rattle.std.specs.Option.{option_map_or}
use Rattle.std.specs.Prelude.{Contains}
use Rattle.std.proofs.lemmas.Bool.Decides.{nat_tests}
use Rattle.std.proofs.lemmas.List.FromFn.{get_or-map-range_with_len, length-map-range_with_len}
use Rattle.std.proofs.lemmas.List.Elements.{Contains-get_or}
use Rattle.iso_history.proofs.phantoms.Members.{any-in, filter-in}
use Rattle.iso_history.proofs.phantoms.Tests.{both, one-of}
use Rattle.iso_history.proofs.phantoms.JudgedGuards.{insert-free, old-key-there, update-free}
use Rattle.iso_history.proofs.phantoms.KeysAfter.{IsNew, IsOld, index-found, old-or-new}
use Rattle.iso_history.proofs.phantoms.Names.{table_same}
use Rattle.iso_history.proofs.phantoms.RangeOthers.{added-not-come, index-there, passed-come}
use Rattle.iso_history.proofs.phantoms.SlotStays.{covered-not-ix, slot-stays}
use Rattle.iso_history.specs.After.{after}
use Rattle.iso_history.specs.Entries.{entries_of, guard, is_in_range}
use Rattle.iso_history.specs.Facts.{IsSound, KeysStand}
use Rattle.iso_history.specs.Gaps.{IsOrderly, IsRangeKept, is_slot_kept}
use Rattle.iso_history.specs.Orders.{has_pair}
use Rattle.iso_history.specs.Guards.{has_protected, is_passed, is_protected, is_watched}
use Rattle.iso_history.specs.Legal.{ByAgent}
use Rattle.iso_history.specs.Units.{unit_of}
use Rattle.iso_history.specs.Versions.{change_of, versions, view}
use Rattle.iso_history.specs.World.{Version, World}
use Rattle.iso_history.specs.Writes.{is_new_key, may_write}
use Rattle.iso_history.specs.declared.entry.Act.{Act}
use Rattle.iso_history.specs.declared.entry.Act.TheVariants.{Commit, Delete, Insert, Undo, Update}
use Rattle.iso_history.specs.declared.entry.Stand.{Stand}
use Rattle.iso_history.specs.declared.entry.Who.TheVariants.{Agent}
use Rattle.iso_modes.specs.declared.Mode.TheVariants.{Ix, S}
use Rattle.iso_queue.specs.Locks.{holds_at_least, is_covered_on, others_guard}
use Rattle.iso_types.specs.Head.{indexes, indexes_of, is_index, key_in, table_of_index}
use Rattle.iso_types.specs.Ids.{conn_eq, index_eq, table_eq}
use Rattle.iso_types.specs.declared.head.Head.{Head}
use Rattle.iso_types.specs.declared.head.Range.{Range}
use Rattle.iso_types.specs.declared.value.Conn.{Conn}
use Rattle.iso_types.specs.declared.value.IndexId.{IndexId}
use Rattle.iso_types.specs.declared.value.Name.TheVariants.{Table}
use Rattle.iso_types.specs.declared.value.Rid.{Rid}
use Rattle.iso_types.specs.declared.value.TableId.{TableId}
use Rattle.iso_types.specs.declared.value.Value.{Value}

-- an index is among those of its table
pub index-among : (head : Head) (i : IndexId) (t : TableId) → table_of_index head i ≡ Some t → Contains (indexes_of head t) i
index-among head i t on = filter-in (λ j. option_map_or (λ u. table_eq u t) (table_of_index head j) false) i (indexes head) among (rw on (table_same t))
  where
    among : Contains (indexes head) i
    among =
        let e : is_index head i ≡ true = index-there head i t on in
        let lt : i.0 < length head.indexes = grind (arith, nat_tests, e) in
        let long : length (indexes head) ≡ length head.indexes = length-map-range_with_len (λ k. record { 0 = k }) 0 (length head.indexes) in
        let z : i.0 < length (indexes head) = omega (arith, lt, long) in
        subst (λ (j : IndexId). Contains (indexes head) j)
        (get_or-map-range_with_len (λ (k : ℕ). record { 0 = k }) 0 (length head.indexes) i.0 i.0 i lt (omega arith))
        (Contains-get_or (indexes head) i.0 i z)

-- a protected version has its key in the part passed
protected-key : (head : Head) (i : IndexId) (range : Range) (stand : Stand) (s : Rid) (v : Version) → is_protected head i range stand s v ≡ true
    → (row : List Value) × (v.row ≡ Some row) × ((is_in_range range (key_in head i row) && is_passed stand (key_in head i row, s)) ≡ true)
protected-key head i range stand s v e = go v.row refl
  where
    go : (o : Option (List Value)) → v.row ≡ o → (row : List Value) × (v.row ≡ Some row)
        × ((is_in_range range (key_in head i row) && is_passed stand (key_in head i row, s)) ≡ true)
    go None f = let z : false ≡ true = rw f at e in absurd (cc)
    go (Some row) f = (row, f, rw f at e)

module _ (head : Head) (w : World) (sound : IsSound head w) (orderly : IsOrderly w) (c : Conn) (i : IndexId) (t : TableId) (on : table_of_index head i ≡ Some t)
    (range : Range) (stand : Stand) (kept : IsRangeKept w c i t range stand) (d : Conn) (ne : conn_eq c d ≡ false) where
  -- the pair of a version in that part has a kept slot
  old-kept : (s : Rid) (o : Option (List Value)) (row : List Value) → IsOld w t s o → o ≡ Some row
      → (is_in_range range (key_in head i row) && is_passed stand (key_in head i row, s)) ≡ true
      → is_slot_kept w c t s ≡ true
  unfolding KeysStand
  old-kept s o row (v, h, e) f p = kept.looked (key_in head i row, s) (sound.keys i t s v row (index-among head i t on) h (e ∙ f)) p

  -- a new key in that part, on a guard that is free: there is none
  new-none : (u : TableId) (k : Value) (s : Rid) → t ≡ u → may_write w d u ≡ true → (is_in_range range k && is_passed stand (k, s)) ≡ true
      → others_guard w.holds d (guard w i k) ≡ false → ⊥
  new-none u k s e ix p free = go (is_covered_on w.holds c S t) refl
    where
      go : (b : Bool) → is_covered_on w.holds c S t ≡ b → ⊥
      go true f = covered-not-ix head w sound orderly.fit c d ne t f (subst (λ (z : TableId). holds_at_least w.holds d (Table z) Ix ≡ true) (sym e) ix)
      go false f = added-not-come head w sound orderly.fit orderly.ordered c i t on range stand kept f d k ne free (passed-come range stand (k, s) p)

  some_row : (a b : List Value) → Some a ≡ Some b → a ≡ b
  some_row a b e = cc

  among : (u : TableId) → t ≡ u → list_any (index_eq i) (indexes_of head u) ≡ true
  among u e = subst (λ (z : TableId). list_any (index_eq i) (indexes_of head z) ≡ true) e (index-found head t i (index-among head i t on))

  -- a new version in that part has a kept slot
  new-kept : (a : Act) → ByAgent head w d a → (s : Rid) (o : Option (List Value)) (row : List Value) → IsNew w (change_of a) t s o → o ≡ Some row
      → (is_in_range range (key_in head i row) && is_passed stand (key_in head i row, s)) ≡ true → is_slot_kept w c t s ≡ true
  new-kept (Insert u y k) al s o row n e p =
      let r : row ≡ k = some_row row k (sym e ∙ n.2) in
      absurd (new-none u (key_in head i row) s n.0 al.1 p
      (subst (λ (z : List Value). others_guard w.holds d (guard w i (key_in head i z)) ≡ false) (sym r) (insert-free head w d u k i al.4 (among u n.0))))
  new-kept (Update u y k) al s o row n e p = go (is_new_key head i (view w d u y) k) refl
    where
      r : row ≡ k
      r = some_row row k (sym e ∙ n.2)

      go : (b : Bool) → is_new_key head i (view w d u y) k ≡ b → is_slot_kept w c t s ≡ true
      go true f = absurd (new-none u (key_in head i row) s n.0 (both _ _ al.1).0 p
          (subst (λ (z : List Value). others_guard w.holds d (guard w i (key_in head i z)) ≡ false) (sym r)
          (update-free head w d u y k i al.3 (among u n.0) f)))
      go false f = kept.looked (key_in head i row, s)
          (subst (λ (z : Rid). has_pair (entries_of w i) (key_in head i row, z) ≡ true) (sym n.1)
          (subst (λ (z : List Value). has_pair (entries_of w i) (key_in head i z, y) ≡ true) (sym r)
          (old-key-there head w d u y k i sound.keys (among u n.0) f))) p
  new-kept (Delete u y) al s o row n e p = let z : None ≡ Some row = sym n.2 ∙ e in absurd (none-row row z)
    where
      none-row : (row : List Value) → None ≡ Some row → ⊥
      none-row row z = cc
  new-kept (Undo k) al s o row n e p = absurd n
  new-kept Commit al s o row n e p = absurd n
  new-kept _ al s o row n e p = absurd n

  -- a slot that is watched stays
  pub watched-stays : (a : Act) → ByAgent head w d a → (s : Rid) → is_watched head w (after head w (record { who = Agent d; act = a })) t i range stand s ≡ true
      → versions (after head w (record { who = Agent d; act = a })) t s ≡ versions w t s
  watched-stays a al s e = slot-stays head w sound orderly.fit c d ne orderly.logged a t s al
      (elim (one-of (has_protected head i range stand s (versions w t s)) (has_protected head i range stand s (versions x t s)) e) [
        | inl f ↦ before (any-in (is_protected head i range stand s) (versions w t s) f)
        | inr f ↦ behind (any-in (is_protected head i range stand s) (versions x t s) f)
      ])
    where
      x : World
      x = after head w (record { who = Agent d; act = a })

      before : (v : Version) × Contains (versions w t s) v × (is_protected head i range stand s v ≡ true) → is_slot_kept w c t s ≡ true
      before (v, h, p) = let k = protected-key head i range stand s v p in old-kept s v.row k.0 (v, h, refl) k.1 k.2

      behind : (v : Version) × Contains (versions x t s) v × (is_protected head i range stand s v ≡ true) → is_slot_kept w c t s ≡ true
      behind (v, h, p) = let k = protected-key head i range stand s v p in elim (old-or-new w (unit_of w d) (change_of a) t s v h) [
        | inl old ↦ old-kept s v.row k.0 old k.1 k.2
        | inr new ↦ new-kept a al s v.row k.0 new k.1 k.2
      ]
