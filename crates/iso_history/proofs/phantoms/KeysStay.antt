-- Every version's key keeps its pair, and committed versions stay last, whoever makes the entry.
use Rattle.std.proofs.Common.{◌≡◌, ℕ, true, false, List, sym, ◌∙◌, subst, inl, inr, Some, None, Option}
use Rattle.std.specs.Prelude.{Contains}
use Rattle.iso_history.proofs.phantoms.EntriesAfter.{pairs-lost, pairs_in}
use Rattle.iso_history.proofs.phantoms.KeysAfter.{IsOld, index-on-table, keys-gains, keys-purge, old-or-new, piled-change}
use Rattle.iso_history.proofs.phantoms.Ordered.{without-has}
use Rattle.iso_history.proofs.phantoms.VersionsAfter.{rid_at, versions_in}
use Rattle.iso_history.specs.After.{after}
use Rattle.iso_history.specs.Entries.{entries_by, entries_of, pairing_of}
use Rattle.iso_history.specs.Facts.{KeysStand}
use Rattle.iso_history.specs.Orders.{VersionsLayered, has_pair}
use Rattle.iso_history.specs.Legal.{Allowed, By, ByAgent, ByDispatcher}
use Rattle.iso_history.specs.Units.{unit_of_maker}
use Rattle.iso_history.specs.Versions.{change_of, next_rid, tables_by}
use Rattle.iso_history.specs.Versions.Change.{Adds, Settles, Takes, Writes}
use Rattle.iso_history.specs.World.{Version, World}
use Rattle.iso_history.specs.declared.entry.Act.{Act}
use Rattle.iso_history.specs.declared.entry.Act.TheVariants.{Commit, Delete, Insert, Purge, Undo, Update}
use Rattle.iso_history.specs.declared.entry.Entry.{Entry}
use Rattle.iso_history.specs.declared.entry.Who.{Who}
use Rattle.iso_history.specs.declared.entry.Who.TheVariants.{Agent, Dispatcher}
use Rattle.iso_types.specs.Head.{indexes_of, key_in, table_of_index}
use Rattle.iso_types.specs.Ids.{pair_eq}
use Rattle.iso_types.specs.declared.head.Head.{Head}
use Rattle.iso_types.specs.declared.value.Conn.{Conn}
use Rattle.iso_types.specs.declared.value.IndexId.{IndexId}
use Rattle.iso_types.specs.declared.value.Rid.{Rid}
use Rattle.iso_types.specs.declared.value.TableId.{TableId}
use Rattle.iso_types.specs.declared.value.Value.{Value}

-- the fact over the components that it speaks of
abbrev KeysIn : Head → List (List (List Version)) → List (List (Value × Rid)) → Type 0
KeysIn head tables entries = (i : IndexId) (t : TableId) (r : Rid) (v : Version) (row : List Value) → Contains (indexes_of head t) i
    → Contains (versions_in tables t r) v → v.row ≡ Some row → has_pair (pairs_in entries i) (key_in head i row, r) ≡ true

some_is : (a b : List Value) → Some a ≡ Some b → a ≡ b
some_is a b e = cc

none_some : (a : List Value) (o : Option (List Value)) → o ≡ None → o ≡ Some a → ⊥
none_some a o e f = let z : Some a ≡ None = sym f ∙ e in no a z
  where
    no : (a : List Value) → Some a ≡ None → ⊥
    no a z = cc

module _ (head : Head) (w : World) (keys : KeysIn head w.tables w.entries) where
  -- an old version's key
  old-key : (i : IndexId) (t : TableId) (r : Rid) (o : Option (List Value)) (row : List Value) → Contains (indexes_of head t) i → IsOld w t r o → o ≡ Some row
      → has_pair (entries_of w i) (key_in head i row, r) ≡ true
  old-key i t r o row h (v, c, e) s = keys i t r v row h c (e ∙ s)

  keys-agent : (c : Conn) (a : Act) (u : ℕ) → ByAgent head w c a → KeysIn head (tables_by w u (change_of a)) (entries_by head w (pairing_of a))
  keys-agent c (Insert x y row) u al i t r v k h hv s = keys-gains head w x y row i t r k h (elim (old-or-new w u (Adds x row) t r v hv) [
    | inl o ↦ inl (old-key i t r v.row k h o s)
    | inr n ↦ inr (n.0, rid_at r (next_rid w x) n.1 ∙ sym al.3, some_is k row (sym s ∙ n.2))
  ])
  keys-agent c (Update x y row) u al i t r v k h hv s = keys-gains head w x y row i t r k h (elim (old-or-new w u (Writes x y (Some row)) t r v hv) [
    | inl o ↦ inl (old-key i t r v.row k h o s)
    | inr n ↦ inr (n.0, n.1, some_is k row (sym s ∙ n.2))
  ])
  keys-agent c (Delete x y) u al i t r v k h hv s = elim (old-or-new w u (Writes x y None) t r v hv) [
    | inl o ↦ old-key i t r v.row k h o s
    | inr n ↦ absurd (none_some k v.row n.2 s)
  ]
  keys-agent c (Undo n) u al i t r v k h hv s = elim (old-or-new w u (Takes n) t r v hv) [ inl o ↦ old-key i t r v.row k h o s | inr z ↦ absurd z ]
  keys-agent c Commit u al i t r v k h hv s = elim (old-or-new w u Settles t r v hv) [ inl o ↦ old-key i t r v.row k h o s | inr z ↦ absurd z ]
  keys-agent c (Purge j key y) u al i t r v k h hv s = absurd al
  keys-agent c _ u al i t r v k h hv s = keys i t r v k h hv s

  keys-dispatcher : (a : Act) (u : ℕ) → ByDispatcher head w a → VersionsLayered w → KeysIn head (tables_by w u (change_of a)) (entries_by head w (pairing_of a))
  keys-dispatcher (Purge j key y) u al piled i t r v k h hv s = elim (pairs-lost head w j key y i) [
    | inl e ↦ subst (λ (l : List (Value × Rid)). has_pair l (key_in head i k, r) ≡ true) (sym e) (keys i t r v k h hv s)
    | inr e ↦ subst (λ (l : List (Value × Rid)). has_pair l (key_in head i k, r) ≡ true) (sym e.1)
        (without-has (key, y) (key_in head i k, r) (entries_of w i) (keys i t r v k h hv s)
        (subst (λ (z : IndexId). pair_eq (key, y) (key_in head z k, r) ≡ false) (sym e.0)
        (keys-purge head w j key y al.2 piled t r v k (subst (λ (z : IndexId). table_of_index head z ≡ Some t) e.0 (index-on-table head t i h)) hv
        s)))
  ]
  keys-dispatcher (Insert x y row) u al piled i t r v k h hv s = absurd al
  keys-dispatcher (Update x y row) u al piled i t r v k h hv s = absurd al
  keys-dispatcher (Delete x y) u al piled i t r v k h hv s = absurd al
  keys-dispatcher (Undo n) u al piled i t r v k h hv s = absurd al
  keys-dispatcher Commit u al piled i t r v k h hv s = absurd al
  keys-dispatcher _ u al piled i t r v k h hv s = keys i t r v k h hv s

-- each allowed entry keeps them
pub keys-after : (head : Head) (w : World) (e : Entry) → Allowed head w e → VersionsLayered w → KeysStand head w → KeysStand head (after head w e)
unfolding KeysStand
keys-after head w e al piled keys = go e.who al.2
  where
    go : (who : Who) → By head w who e.act → KeysIn head (tables_by w (unit_of_maker w who) (change_of e.act)) (entries_by head w (pairing_of e.act))
    go Dispatcher a = keys-dispatcher head w keys e.act (unit_of_maker w Dispatcher) a piled
    go (Agent c) a = keys-agent head w keys c e.act (unit_of_maker w (Agent c)) a.1

-- and those too
pub piled-after : (head : Head) (w : World) (e : Entry) → VersionsLayered w → VersionsLayered (after head w e)
unfolding VersionsLayered
piled-after head w e h = piled-change w (unit_of_maker w e.who) (change_of e.act) h
