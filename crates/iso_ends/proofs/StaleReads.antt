-- What a slot and the lock list tell of a pair: whether it is left behind, and whether its key's name is in use.
use Rattle.std.proofs.Common.{◌≡◌, ℕ, Bool, true, false, not, ◌&&◌, ◌||◌, List, [], ◌∷◌, map, filter, refl, ap, sym, ◌∙◌, slice_get, slice_index_or, Some, None, Option}
use Rattle.std.specs.List.{list_any}
use Rattle.std.specs.Option.{option_map_or}
use Rattle.std.specs.Prelude.{zero, suc}
use Rattle.iso_chain.specs.Slots.{SlotStands, slot_in, slots_of}
use Rattle.iso_ends.specs.Purges.{has_key, is_calm, is_left, is_settled}
use Rattle.iso_history.proofs.phantoms.GapStarts.{keyed-world}
use Rattle.iso_history.specs.After.{world}
use Rattle.iso_history.specs.Entries.{is_in_use, row_has}
use Rattle.iso_history.specs.Orders.{IsLayered, VersionsLayered}
use Rattle.iso_history.specs.Versions.{committed, is_pending, versions}
use Rattle.iso_history.specs.World.{Version, World}
use Rattle.iso_locklist.specs.Holding.{LocksAre, line_of}
use Rattle.iso_locklist.specs.Lists.{named_hold, named_wait}
use Rattle.iso_locklist.specs.Places.{Ledger}
use Rattle.iso_queue.specs.Lines.{is_used}
use Rattle.iso_state.specs.Stands.{Content, Stands}
use Rattle.iso_table.specs.Slots.{no_slot}
use Rattle.iso_table.specs.declared.slot.Slot.{Slot}
use Rattle.iso_types.specs.Ids.{name_eq}
use Rattle.iso_types.specs.declared.head.Head.{Head}
use Rattle.iso_types.specs.declared.head.IndexDef.{IndexDef}
use Rattle.iso_types.specs.declared.value.IndexId.{IndexId}
use Rattle.iso_types.specs.declared.value.Name.{Name}
use Rattle.iso_types.specs.declared.value.Rid.{Rid}
use Rattle.iso_types.specs.declared.value.TableId.{TableId}
use Rattle.iso_types.specs.declared.value.Value.{Value}

-- ---- names in use

any-map : {A B : Type 0} (f : A → B) (ys : List A) → list_any (λ _. true) ys ≡ list_any (λ _. true) (map f ys)
any-map f [] = refl
any-map f (y ∷ ys) = refl

any-filter : {A : Type 0} (p : A → Bool) (xs : List A) → list_any (λ _. true) (filter p xs) ≡ list_any p xs
any-filter p [] = refl
any-filter p (x ∷ xs) = go (p x) refl (any-filter p xs)
  where
    go : (b : Bool) → p x ≡ b → list_any (λ _. true) (filter p xs) ≡ list_any p xs → list_any (λ _. true) (filter p (x ∷ xs)) ≡ list_any p (x ∷ xs)
    go true e ih = rw e refl
    go false e ih = rw e ih

any-named : {A B : Type 0} (f : A → B) (p : B → Bool) (ys : List A) (xs : List B) → map f ys ≡ filter p xs → list_any (λ _. true) ys ≡ list_any p xs
any-named f p ys xs e = any-map f ys ∙ ap (λ (zs : List _). list_any (λ _. true) zs) e ∙ any-filter p xs

-- somebody is in the line of a name that is held or awaited
pub used-is : (w : World) (l : Ledger) (n : Name) → LocksAre w.holds w.waits l → is_used (line_of l n) ≡ is_in_use w n
used-is w l n is =
    ap (λ (b : Bool). b || list_any (λ _. true) (line_of l n).waiters)
    (any-named (named_hold n) (λ h. name_eq h.name n) (line_of l n).holders w.holds (is.holds n))
    ∙ ap (λ (b : Bool). list_any (λ h. name_eq h.name n) w.holds || b)
    (any-named (named_wait n) (λ x. name_eq x.name n) (line_of l n).waiters w.waits (is.waits n))

-- ---- slots

pub get-is : {A : Type 0} (xs : List A) (k : ℕ) (d x : A) → Some x ≡ slice_get xs k → slice_index_or xs k d ≡ x
get-is [] k d x e = cc
get-is (y ∷ ys) zero d x e = cc
get-is (y ∷ ys) (suc k) d x e = get-is ys k d x e

pub get-none : {A : Type 0} (xs : List A) (k : ℕ) (d : A) → None ≡ slice_get xs k → slice_index_or xs k d ≡ d
get-none [] k d e = refl
get-none (y ∷ ys) zero d e = cc
get-none (y ∷ ys) (suc k) d e = get-none ys k d e

-- a slot's head, liveness and row say what is pending and committed
left-by : (s : Slot) (column : ℕ) (key : Value) (vs : List Version) → SlotStands s vs → IsLayered vs
    → is_left s column key ≡ (not (is_pending vs) && not (option_map_or (λ row. has_key row column key) (committed vs) false))
left-by s column key [] st o = let h = st.head in let l = st.face.live in rw (h, l) refl
left-by s column key (v ∷ vs) st o = go v.pending refl v.row refl
  where
    go : (b : Bool) → v.pending ≡ b → (r : Option (List Value)) → v.row ≡ r
        → is_left s column key
        ≡ (not (is_pending (v ∷ vs)) && not (option_map_or (λ row. has_key row column key) (committed (v ∷ vs)) false))
    go true p r e = let h : s.head ≡ Some v.number = rw p at st.head in rw (h, p) refl
    go false p None e =
        let h : s.head ≡ None = rw p at st.head in
        let l : s.live ≡ false = rw e at st.face.live in
        let none : vs ≡ [] = o.0 p in
        rw (h, l, p, e, none) refl
    go false p (Some row) e =
        let h : s.head ≡ None = rw p at st.head in
        let l : s.live ≡ true = rw e at st.face.live in
        let same : s.row ≡ row = rw e at st.face.row in
        let none : vs ≡ [] = o.0 p in
        rw (h, l, p, e, none, same) refl

row-by : (head : Head) (i : IndexId) (d : IndexDef) (key : Value) (o : Option (List Value)) → slice_get head.indexes i.0 ≡ Some d
    → option_map_or (λ row. has_key row d.column key) o false ≡ row_has head i key o
row-by head i d key None e = refl
row-by head i d key (Some row) e = rw e refl

-- the slot of a pair says whether it is left behind
pub stale-is : (p : Content) (s : Stands p) (i : IndexId) (d : IndexDef) (t : TableId) (key : Value) (r : Rid) → slice_get p.head.indexes i.0 ≡ Some d
    → is_left (slot_in p.chain.tables t r) d.column key
    ≡ (not (is_pending (versions (world p.head p.history) t r)) && not (row_has p.head i key (committed (versions (world p.head p.history) t r))))
unfolding VersionsLayered
stale-is p s i d t key r e =
    let w = world p.head p.history in
    left-by (slot_in p.chain.tables t r) d.column key (versions w t r) (s.parts.chain.slots.each t r) ((keyed-world p.head p.history s.ground).piled t r)
    ∙ ap (λ (b : Bool). not (is_pending (versions w t r)) && not b) (row-by p.head i d key (committed (versions w t r)) e)

-- as it is found
pub stale-found : (p : Content) (s : Stands p) (i : IndexId) (d : IndexDef) (t : TableId) (key : Value) (r : Rid) (x : Slot) → slice_get p.head.indexes i.0 ≡ Some d
    → Some x ≡ slice_get (slots_of p.chain.tables t) r.0
    → is_left x d.column key
    ≡ (not (is_pending (versions (world p.head p.history) t r)) && not (row_has p.head i key (committed (versions (world p.head p.history) t r))))
stale-found p s i d t key r x e there =
    ap (λ (z : Slot). is_left z d.column key) (sym (get-is (slots_of p.chain.tables t) r.0 no_slot x there)) ∙ stale-is p s i d t key r e

-- and where there is no slot
pub stale-none : (p : Content) (s : Stands p) (i : IndexId) (d : IndexDef) (t : TableId) (key : Value) (r : Rid) → slice_get p.head.indexes i.0 ≡ Some d
    → None ≡ slice_get (slots_of p.chain.tables t) r.0
    → true ≡ (not (is_pending (versions (world p.head p.history) t r)) && not (row_has p.head i key (committed (versions (world p.head p.history) t r))))
stale-none p s i d t key r e none =
    ap (λ (z : Slot). is_left z d.column key) (sym (get-none (slots_of p.chain.tables t) r.0 no_slot none)) ∙ stale-is p s i d t key r e

-- ---- calm pairs

settled-by : (s : Slot) (column : ℕ) (key : Value) (vs : List Version) → SlotStands s vs → IsLayered vs
    → is_settled s column key ≡ (not (is_pending vs) && option_map_or (λ row. has_key row column key) (committed vs) false)
settled-by s column key [] st o = let h = st.head in let l = st.face.live in rw (h, l) refl
settled-by s column key (v ∷ vs) st o = go v.pending refl v.row refl
  where
    go : (b : Bool) → v.pending ≡ b → (r : Option (List Value)) → v.row ≡ r
        → is_settled s column key
        ≡ (not (is_pending (v ∷ vs)) && option_map_or (λ row. has_key row column key) (committed (v ∷ vs)) false)
    go true p r e = let h : s.head ≡ Some v.number = rw p at st.head in rw (h, p) refl
    go false p None e =
        let h : s.head ≡ None = rw p at st.head in
        let l : s.live ≡ false = rw e at st.face.live in
        let none : vs ≡ [] = o.0 p in
        rw (h, l, p, e, none) refl
    go false p (Some row) e =
        let h : s.head ≡ None = rw p at st.head in
        let l : s.live ≡ true = rw e at st.face.live in
        let same : s.row ≡ row = rw e at st.face.row in
        let none : vs ≡ [] = o.0 p in
        rw (h, l, p, e, none, same) refl

-- a slot as it is found says whether the pair is calm
pub calm-found : (p : Content) (s : Stands p) (i : IndexId) (d : IndexDef) (t : TableId) (key : Value) (r : Rid) (x : Slot)
    → slice_get p.head.indexes i.0 ≡ Some d
    → Some x ≡ slice_get (slots_of p.chain.tables t) r.0 → is_settled x d.column key ≡ is_calm p.head i key (versions (world p.head p.history) t r)
unfolding VersionsLayered
calm-found p s i d t key r x e there =
    let w = world p.head p.history in
    ap (λ (z : Slot). is_settled z d.column key) (sym (get-is (slots_of p.chain.tables t) r.0 no_slot x there))
    ∙ settled-by (slot_in p.chain.tables t r) d.column key (versions w t r) (s.parts.chain.slots.each t r) ((keyed-world p.head p.history s.ground).piled t r)
    ∙ ap (λ (b : Bool). not (is_pending (versions w t r)) && b) (row-by p.head i d key (committed (versions w t r)) e)
