-- A write that is done finds the guard of each new key free of others' S and NW.
use Rattle.std.proofs.Common.{◌≡◌, ℕ, Bool, true, false, not, ◌&&◌, ◌||◌, List, [], ◌∷◌, refl, sym, subst, Some, None, Option}
use Rattle.std.specs.List.{list_any}
use Rattle.std.specs.Prelude.{Contains}
use Rattle.iso_history.proofs.phantoms.Members.{in-first, in-rest}
use Rattle.iso_history.proofs.phantoms.Tests.{both}
use Rattle.iso_history.proofs.phantoms.Finds.{find-any, find-passes}
use Rattle.iso_history.proofs.phantoms.KeptHolds.{held-as}
use Rattle.iso_history.proofs.phantoms.Names.{index_is, name_same, of-conn, of-name}
use Rattle.iso_history.proofs.phantoms.Values.{value_is}
use Rattle.iso_history.specs.Entries.{entries_of, guard}
use Rattle.iso_history.specs.Facts.{KeysStand}
use Rattle.iso_history.specs.Gaps.{keeps_guard}
use Rattle.iso_history.specs.Orders.{has_pair}
use Rattle.iso_history.specs.Units.{unit_of}
use Rattle.iso_history.specs.Versions.{committed, is_pending_beside, next_rid, present, versions, view, view_of}
use Rattle.iso_history.specs.World.{Version, World}
use Rattle.iso_history.specs.Writes.{Written, inserts, is_new_key, judged_guard, judged_index, judged_indexes, judged_key, judged_room, judged_unique, or_else, updates}
use Rattle.iso_history.specs.Writes.Written.{AtLimit, Blocks, Done, IsFull, Refuses}
use Rattle.iso_modes.specs.Modes.{mode_eq}
use Rattle.iso_modes.specs.Terms.{is_kept}
use Rattle.iso_modes.specs.declared.Mode.TheVariants.{Nw, S}
use Rattle.iso_queue.specs.Locks.{Hold, hold_on, is_hold_of, others_guard}
use Rattle.iso_types.specs.Head.{indexes_of, key_in}
use Rattle.iso_types.specs.Ids.{conn_eq, index_eq, name_eq}
use Rattle.iso_types.specs.Value.{value_eq}
use Rattle.iso_types.specs.declared.head.Head.{Head}
use Rattle.iso_types.specs.declared.value.Conn.{Conn}
use Rattle.iso_types.specs.declared.value.IndexId.{IndexId}
use Rattle.iso_types.specs.declared.value.Name.{Name}
use Rattle.iso_types.specs.declared.value.Rid.{Rid}
use Rattle.iso_types.specs.declared.value.TableId.{TableId}
use Rattle.iso_types.specs.declared.value.Value.{Value}

-- both are done
pub both-done : (a b : Written) → or_else a b ≡ Done → (a ≡ Done) × (b ≡ Done)
both-done Done b e = (refl, e)
both-done IsFull b e = cc
both-done (Refuses code) b e = cc
both-done (Blocks n m) b e = cc
both-done AtLimit b e = cc

-- each index is done
indexes-done : (head : Head) (w : World) (c : Conn) (t : TableId) (r : Rid) (old : Option (List Value)) (row : List Value) (is : List IndexId) (i : IndexId)
    → judged_indexes head w c t r old row is ≡ Done → list_any (index_eq i) is ≡ true → judged_index head w c t r old row i ≡ Done
indexes-done head w c t r old row [] i e h = cc
indexes-done head w c t r old row (j ∷ is) i e h = go (indexes-done head w c t r old row is i) (index_eq i j) refl
  where
    x : (judged_index head w c t r old row j ≡ Done) × (judged_indexes head w c t r old row is ≡ Done)
    x = both-done (judged_index head w c t r old row j) (judged_indexes head w c t r old row is) e

    go : (judged_indexes head w c t r old row is ≡ Done → list_any (index_eq i) is ≡ true → judged_index head w c t r old row i ≡ Done) → (b : Bool)
        → index_eq i j ≡ b
        → judged_index head w c t r old row i ≡ Done
    go ih true f = subst (λ (k : IndexId). judged_index head w c t r old row k ≡ Done) (sym (index_is i j f)) x.0
    go ih false f = ih x.1 (rw f at h)

-- a guard that is done is free
guard-done : (w : World) (c : Conn) (i : IndexId) (v : Value) → judged_guard w c i v ≡ Done → others_guard w.holds c (guard w i v) ≡ false
guard-done w c i v e = go (others_guard w.holds c (guard w i v)) refl
  where
    go : (b : Bool) → others_guard w.holds c (guard w i v) ≡ b → others_guard w.holds c (guard w i v) ≡ false
    go false f = f
    go true f = let z : Blocks (guard w i v) Nw ≡ Done = rw f at e in absurd (cc)

index-done : (head : Head) (w : World) (c : Conn) (t : TableId) (r : Rid) (old : Option (List Value)) (row : List Value) (i : IndexId)
    → judged_index head w c t r old row i ≡ Done → is_new_key head i old row ≡ true → others_guard w.holds c (guard w i (key_in head i row)) ≡ false
index-done head w c t r old row i e n =
    let z : judged_key head w c t r i (key_in head i row) ≡ Done = rw n at e in
    guard-done w c i (key_in head i row) (both-done (judged_unique head w c t i (key_in head i row) r) (judged_guard w c i (key_in head i row)) z).1

-- of an insertion
pub insert-free : (head : Head) (w : World) (c : Conn) (t : TableId) (row : List Value) (i : IndexId) → inserts head w c t row ≡ Done
    → list_any (index_eq i) (indexes_of head t) ≡ true
    → others_guard w.holds c (guard w i (key_in head i row)) ≡ false
insert-free head w c t row i e h =
    let x = both-done (judged_room w t) _ e in
    let y = both-done (judged_indexes head w c t (next_rid w t) None row (indexes_of head t)) _ x.1 in
    index-done head w c t (next_rid w t) None row i (indexes-done head w c t (next_rid w t) None row (indexes_of head t) i y.0 h) refl

-- of an update, where the key is new to the row
pub update-free : (head : Head) (w : World) (c : Conn) (t : TableId) (r : Rid) (row : List Value) (i : IndexId) → updates head w c t r row ≡ Done
    → list_any (index_eq i) (indexes_of head t) ≡ true
    → is_new_key head i (view w c t r) row ≡ true → others_guard w.holds c (guard w i (key_in head i row)) ≡ false
update-free head w c t r row i e h n =
    let y = both-done (judged_indexes head w c t r (view w c t r) row (indexes_of head t)) _ e in
    index-done head w c t r (view w c t r) row i (indexes-done head w c t r (view w c t r) row (indexes_of head t) i y.0 h) n

-- a guard that another connection keeps is not free
pub kept-not-free : (holds : List Hold) (c d : Conn) (n : Name) → conn_eq c d ≡ false → keeps_guard holds c n ≡ true → others_guard holds d n ≡ false → ⊥
kept-not-free holds c d n ne k f =
    let x = held-as (λ h. is_kept h.term && (mode_eq h.mode S || mode_eq h.mode Nw)) (hold_on holds c n) k in
    let o : is_hold_of c n x.0 ≡ true = find-passes (is_hold_of c n) holds x.0 x.1 in
    let a : conn_eq x.0.conn d ≡ false = subst (λ (z : Conn). conn_eq z d ≡ false) (sym (of-conn c n x.0 o)) ne in
    let b : name_eq x.0.name n ≡ true = subst (λ (z : Name). name_eq z n ≡ true) (sym (of-name c n x.0 o)) (name_same n) in
    let m : (mode_eq x.0.mode S || mode_eq x.0.mode Nw) ≡ true = (both (is_kept x.0.term) (mode_eq x.0.mode S || mode_eq x.0.mode Nw) x.2).1 in
    let z : others_guard holds d n ≡ true =
    find-any (is_hold_of c n) (λ h. not (conn_eq h.conn d) && (name_eq h.name n && (mode_eq h.mode S || mode_eq h.mode Nw))) holds x.0 x.1
    (rw (a, b, m) refl) in
    cc

-- what a view shows is a version's row
pub view-version : (u : ℕ) (vs : List Version) (row : List Value) → view_of u vs ≡ Some row → (v : Version) × Contains vs v × (v.row ≡ Some row)
view-version u vs row e = go (is_pending_beside u vs) refl
  where
    from-present : (vs : List Version) → present vs ≡ Some row → (v : Version) × Contains vs v × (v.row ≡ Some row)
    from-present [] e = cc
    from-present (v ∷ vs) e = (v, in-first v vs, e)

    from-committed : (vs : List Version) → committed vs ≡ Some row → (v : Version) × Contains vs v × (v.row ≡ Some row)
    from-committed [] e = cc
    from-committed (v ∷ vs) e = by (from-committed vs) v.pending refl
      where
        by : (committed vs ≡ Some row → (v : Version) × Contains vs v × (v.row ≡ Some row)) → (b : Bool) → v.pending ≡ b → (x : Version) × Contains (v ∷ vs) x
            × (x.row ≡ Some row)
        by ih true f = let x = ih (rw f at e) in (x.0, in-rest v x.0 vs x.1, x.2)
        by ih false f = (v, in-first v vs, rw f at e)

    go : (b : Bool) → is_pending_beside u vs ≡ b → (v : Version) × Contains vs v × (v.row ≡ Some row)
    go true f = from-committed vs (rw f at e)
    go false f = from-present vs (rw f at e)

-- an index that the test finds is in the list
pub found-in : (i : IndexId) (is : List IndexId) → list_any (index_eq i) is ≡ true → Contains is i
found-in i [] e = cc
found-in i (j ∷ is) e = go (found-in i is) (index_eq i j) refl
  where
    go : (list_any (index_eq i) is ≡ true → Contains is i) → (b : Bool) → index_eq i j ≡ b → Contains (j ∷ is) i
    go ih true f = subst (λ (k : IndexId). Contains (j ∷ is) k) (sym (index_is i j f)) (in-first j is)
    go ih false f = in-rest j i is (ih (rw f at e))

-- a key that is not new to the row has its pair
pub old-key-there : (head : Head) (w : World) (c : Conn) (t : TableId) (r : Rid) (row : List Value) (i : IndexId) → KeysStand head w
    → list_any (index_eq i) (indexes_of head t) ≡ true
    → is_new_key head i (view w c t r) row ≡ false → has_pair (entries_of w i) (key_in head i row, r) ≡ true
unfolding KeysStand
old-key-there head w c t r row i keys h e = go (view w c t r) refl
  where
    go : (o : Option (List Value)) → view w c t r ≡ o → has_pair (entries_of w i) (key_in head i row, r) ≡ true
    go None f = let z : true ≡ false = rw f at e in absurd (cc)
    go (Some old) f =
        let z : not (value_eq (key_in head i old) (key_in head i row)) ≡ false = rw f at e in
        let y : value_eq (key_in head i old) (key_in head i row) ≡ true = back (value_eq (key_in head i old) (key_in head i row)) z in
        let x = view-version (unit_of w c) (versions w t r) old f in
        subst (λ (k : Value). has_pair (entries_of w i) (k, r) ≡ true) (value_is (key_in head i old) (key_in head i row) y)
        (keys i t r x.0 old (found-in i (indexes_of head t) h) x.1 x.2)
      where
        back : (b : Bool) → not b ≡ false → b ≡ true
        back true e = refl
        back false e = cc
