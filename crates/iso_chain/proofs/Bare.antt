-- One slot of one table is written.
use Rattle.std.proofs.Common.{◌≡◌, ◌∙◌, ℕ, zero, suc, List, [], ◌∷◌, ◌++◌, length, refl, ap, sym, Some, get_or}
use Rattle.std.specs.Prelude.{slice_get, slice_set}
use Rattle.std.proofs.Math.Seq.{get_or-append_seam, set-append_seam}
use Rattle.std.proofs.lemmas.List.{set-get_or}
use Rattle.std.proofs.lemmas.Option.{get_or_from_slice_get}
use Rattle.iso_table.specs.Slots.{new_slot, no_slot, slot_at}
use Rattle.iso_table.specs.declared.slot.Slot.{Slot}
use Rattle.iso_types.specs.Filled.{Filled}
use Rattle.iso_types.specs.declared.value.Rid.{Rid}
use Rattle.iso_types.specs.declared.value.TableId.{TableId}
use Rattle.iso_types.specs.declared.value.Value.{Value}
use Rattle.iso_chain.specs.Slots.{slot_in, slots_of}
use Rattle.iso_chain.specs.Views.{bare}
use Rattle.iso_chain.specs.Writes.{made_slot, with_slot}

bare-write : (tables : List (Filled Slot)) (i : ℕ) (x : Filled Slot) → bare (slice_set tables i x) ≡ slice_set (bare tables) i x.items
bare-write [] i x = refl
bare-write (f ∷ fs) zero x = refl
bare-write (f ∷ fs) (suc i) x = ap (λ (l : List (List Slot)). f.items ∷ l) (bare-write fs i x)

-- the slots of a table that is there
pub slots-are : (tables : List (Filled Slot)) (t : TableId) (k : Filled Slot) → slice_get tables t.0 ≡ Some k → slots_of (bare tables) t ≡ k.items
slots-are tables t k e = go tables t.0 e
  where
    go : (tables : List (Filled Slot)) (i : ℕ) → slice_get tables i ≡ Some k → get_or (bare tables) i [] ≡ k.items
    go [] i e = absurd (cc)
    go (f ∷ fs) zero e = let same : f ≡ k = cc in ap (λ (z : Filled Slot). z.items) same
    go (f ∷ fs) (suc i) e = go fs i e

-- one slot
pub slot-is : (tables : List (Filled Slot)) (t : TableId) (r : Rid) (k : Filled Slot) (s : Slot) → slice_get tables t.0 ≡ Some k
    → slice_get k.items r.0 ≡ Some s
    → slot_in (bare tables) t r ≡ s
slot-is tables t r k s e f = ap (λ (l : List Slot). get_or l r.0 no_slot) (slots-are tables t k e) ∙ get_or_from_slice_get k.items r.0 s no_slot f

-- the tables with one slot written
pub bare-set : (tables : List (Filled Slot)) (t : TableId) (r : Rid) (k : Filled Slot) (s : Slot) (spare : ℕ) → slice_get tables t.0 ≡ Some k
    → bare (slice_set tables t.0 (record { items = slice_set k.items r.0 s; spare = spare })) ≡ with_slot (bare tables) t r s
bare-set tables t r k s spare e =
    bare-write tables t.0 _ ∙ ap (λ (l : List Slot). slice_set (bare tables) t.0 (slice_set l r.0 s)) (sym (slots-are tables t k e))

-- and with one more slot in one of them
pub bare-add : (tables : List (Filled Slot)) (t : TableId) (k x : Filled Slot) (s : Slot) → slice_get tables t.0 ≡ Some k → x.items ≡ k.items ++ s ∷ []
    → bare (slice_set tables t.0 x) ≡ slice_set (bare tables) t.0 (slots_of (bare tables) t ++ s ∷ [])
bare-add tables t k x s e f =
    bare-write tables t.0 x ∙ ap (λ (l : List Slot). slice_set (bare tables) t.0 l) (f ∙ ap (λ (l : List Slot). l ++ s ∷ []) (sym (slots-are tables t k e)))

-- a table with other room
pub bare-same : (tables : List (Filled Slot)) (t : TableId) (k x : Filled Slot) → slice_get tables t.0 ≡ Some k → x.items ≡ k.items
    → bare (slice_set tables t.0 x) ≡ bare tables
bare-same tables t k x e f =
    bare-write tables t.0 x ∙ ap (slice_set (bare tables) t.0) (f ∙ sym (slots-are tables t k e)) ∙ set-get_or (bare tables) t.0 []

-- a new slot with its record
pub add-made : (l items : List Slot) (row : List Value) (n : ℕ) (r : Rid) → items ≡ l ++ new_slot row ∷ [] → r.0 ≡ length l
    → slice_set items r.0 (record (slot_at items r) { head = Some n; first = Some n }) ≡ l ++ made_slot n row ∷ []
add-made l items row n r e f =
    rw (e, f) (ap (λ (s : Slot). slice_set (l ++ new_slot row ∷ []) (length l) (record s { head = Some n; first = Some n }))
    (get_or-append_seam l (new_slot row) [] no_slot)
    ∙ set-append_seam l (new_slot row) [] (made_slot n row))
