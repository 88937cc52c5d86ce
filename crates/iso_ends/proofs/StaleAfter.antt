-- Where no pair is stale, none is after an entry that neither commits nor undoes.
use Rattle.std.proofs.Common.{◌≡◌, ◌<◌, ◌⊎◌, inl, inr, ℕ, zero, suc, Bool, true, false, List, [], ◌∷◌, ◌++◌, length, refl, ap, sym, subst, ◌∙◌, arith, Some, None, Option, get_or}
use Rattle.std.specs.List.{list_any}
use Rattle.std.specs.Prelude.{◌≤◌, is_some, nat_lt, slice_set}
use Rattle.std.proofs.lemmas.Bool.{and_parts, both_ways}
use Rattle.std.proofs.lemmas.Bool.Decides.{nat_tests}
use Rattle.iso_ends.specs.Purges.{NoneStale, TablesThere, is_stale, may_ripen}
use Rattle.iso_history.proofs.locks.Lists.{at-set_here, past-end}
use Rattle.iso_history.proofs.phantoms.EntriesAfter.{pairs-gained, pairs-lost, pairs_in}
use Rattle.iso_history.proofs.phantoms.Ordered.{has-with, has-without}
use Rattle.iso_history.proofs.phantoms.RangeOthers.{index-table, index-there}
use Rattle.iso_history.proofs.phantoms.VersionsAfter.{versions-adds, versions-writes, versions_in}
use Rattle.iso_history.specs.After.{after}
use Rattle.iso_history.specs.Entries.{entries_by, entries_of, gained, pairing_of}
use Rattle.iso_history.specs.Entries.Pairing.{Gains}
use Rattle.iso_history.specs.Legal.{Allowed, By, ByAgent, ByDispatcher}
use Rattle.iso_history.specs.Orders.{has_pair}
use Rattle.iso_history.specs.Units.{unit_of, unit_of_maker}
use Rattle.iso_history.specs.Versions.{change_of, next_rid, pending_version, slot_list, slots, tables_by, versions, view, view_of}
use Rattle.iso_history.specs.Versions.Change.{Adds, Writes}
use Rattle.iso_history.specs.World.{Version, World}
use Rattle.iso_history.specs.declared.entry.Act.{Act}
use Rattle.iso_history.specs.declared.entry.Act.TheVariants.{Commit, Delete, Insert, Purge, Undo, Update}
use Rattle.iso_history.specs.declared.entry.Entry.{Entry}
use Rattle.iso_history.specs.declared.entry.Who.{Who}
use Rattle.iso_history.specs.declared.entry.Who.TheVariants.{Agent, Dispatcher}
use Rattle.iso_types.specs.Head.{indexes_of, key_in, table_of_index}
use Rattle.iso_types.specs.Ids.{index_eq}
use Rattle.iso_types.specs.declared.head.Head.{Head}
use Rattle.iso_types.specs.declared.value.Conn.{Conn}
use Rattle.iso_types.specs.declared.value.IndexId.{IndexId}
use Rattle.iso_types.specs.declared.value.Rid.{Rid}
use Rattle.iso_types.specs.declared.value.TableId.{TableId}
use Rattle.iso_types.specs.declared.value.Value.{Value}

-- the fact over the components that it speaks of
abbrev StaleFree : Head → List (List (List Version)) → List (List (Value × Rid)) → Type 0
StaleFree head tables entries = (i : IndexId) (t : TableId) (p : Value × Rid) → table_of_index head i ≡ Some t → has_pair (pairs_in entries i) p ≡ true
    → is_stale head i p.0 (versions_in tables t p.1) ≡ false

-- a slot with a pending version on top makes no pair stale
pending-fresh : (head : Head) (i : IndexId) (key : Value) (w : World) (u : ℕ) (row : Option (List Value)) (vs xs : List Version)
    → xs ≡ pending_version w u row ∷ vs → is_stale head i key xs ≡ false
pending-fresh head i key w u row vs xs e = subst (λ (zs : List Version). is_stale head i key zs ≡ false) (sym e) refl

last-of : {A : Type 0} (xs : List A) (y d : A) → get_or (xs ++ y ∷ []) (length xs) d ≡ y
last-of [] y d = refl
last-of (x ∷ xs) y d = last-of xs y d

here-set : {A : Type 0} (xs : List A) (k : ℕ) (y d : A) → k < length xs → get_or (slice_set xs k y) k d ≡ y
here-set [] k y d lt = absurd (omega (arith, lt))
here-set (x ∷ xs) zero y d lt = refl
here-set (x ∷ xs) (suc k) y d lt = here-set xs k y d (omega (arith, lt))

module _ (head : Head) (w : World) (there : TablesThere head w) (free : StaleFree head w.tables w.entries) where
  -- the new slot
  adds-here : (u : ℕ) (t : TableId) (row : List Value) → t.0 < length w.tables
      → versions_in (tables_by w u (Adds t row)) t (next_rid w t) ≡ pending_version w u (Some row) ∷ []
  adds-here u t row lt =
      ap (λ (s : List (List Version)). get_or s (slots w t) [])
      (at-set_here w.tables t.0 (slot_list w t ++ (pending_version w u (Some row) ∷ []) ∷ []) lt)
      ∙ last-of (slot_list w t) (pending_version w u (Some row) ∷ []) []

  -- the slot that is written
  writes-here : (u : ℕ) (t : TableId) (r : Rid) (row : Option (List Value)) → t.0 < length w.tables → r.0 < slots w t
      → versions_in (tables_by w u (Writes t r row)) t r ≡ pending_version w u row ∷ versions w t r
  writes-here u t r row lt within =
      ap (λ (s : List (List Version)). get_or s r.0 [])
      (at-set_here w.tables t.0 (slice_set (slot_list w t) r.0 (pending_version w u row ∷ versions w t r)) lt)
      ∙ here-set (slot_list w t) r.0 (pending_version w u row ∷ versions w t r) [] within

  -- a row that is seen stands in a slot
  seen-there : (c : Conn) (t : TableId) (r : Rid) → is_some (view w c t r) ≡ true → r.0 < slots w t
  seen-there c t r e = go (nat_lt r.0 (slots w t)) refl
    where
      go : (b : Bool) → nat_lt r.0 (slots w t) ≡ b → r.0 < slots w t
      go true k = grind (arith, nat_tests, k)
      go false k =
          let past : slots w t ≤ r.0 = grind (arith, nat_tests, k) in
          let none : versions w t r ≡ [] = past-end (slot_list w t) r.0 past in
          absurd (both_ways (is_some (view_of (unit_of w c) (versions w t r)))
          (ap (λ (vs : List Version). is_some (view_of (unit_of w c) vs)) none) e)

  -- a pair after a row has come was there before, or is the row's
  gained-cases : (x : TableId) (y : Rid) (row : List Value) (i : IndexId) (t : TableId) (p : Value × Rid) → table_of_index head i ≡ Some t
      → has_pair (pairs_in (entries_by head w (Gains x y row)) i) p ≡ true
      → (has_pair (entries_of w i) p ≡ true) ⊎ ((x ≡ t) × (p ≡ (key_in head i row, y)))
  gained-cases x y row i t p on has = go (list_any (index_eq i) (indexes_of head x)) refl
    where
      here : has_pair (gained head w x y row i) p ≡ true
      here = subst (λ (ps : List (Value × Rid)). has_pair ps p ≡ true) (pairs-gained head w x y row i (index-there head i t on)) has

      go : (b : Bool) → list_any (index_eq i) (indexes_of head x) ≡ b → (has_pair (entries_of w i) p ≡ true) ⊎ ((x ≡ t) × (p ≡ (key_in head i row, y)))
      go false e = inl (rw e at here)
      go true e = elim (has-with (key_in head i row, y) p (entries_of w i) (rw e at here)) [
        | inl old ↦ inl old
        | inr new ↦ inr (index-table head i t x on e, new)
      ]

  writes-free : (u : ℕ) (x : TableId) (y : Rid) (row : Option (List Value)) (i : IndexId) (t : TableId) (p : Value × Rid) → table_of_index head i ≡ Some t
      → has_pair (entries_of w i) p ≡ true → is_stale head i p.0 (versions_in (tables_by w u (Writes x y row)) t p.1) ≡ false
  writes-free u x y row i t p on has = elim (versions-writes w u x y row t p.1) [
    | inl e ↦ subst (λ (vs : List Version). is_stale head i p.0 vs ≡ false) (sym e) (free i t p on has)
    | inr e ↦ pending-fresh head i p.0 w u row (versions w x y) _ e.2
  ]

  new-pair : (tables : List (List (List Version))) (i : IndexId) (t x : TableId) (p : Value × Rid) (key : Value) (y : Rid) → x ≡ t → p ≡ (key, y)
      → ((k : Value) → is_stale head i k (versions_in tables x y) ≡ false) → is_stale head i p.0 (versions_in tables t p.1) ≡ false
  new-pair tables i t x p key y same is h =
      subst (λ (z : TableId). is_stale head i p.0 (versions_in tables z p.1) ≡ false) same
      (subst (λ (q : Value × Rid). is_stale head i q.0 (versions_in tables x q.1) ≡ false) (sym is) (h key))

  free-agent : (c : Conn) (a : Act) (u : ℕ) → ByAgent head w c a → may_ripen a ≡ false → StaleFree head (tables_by w u (change_of a)) (entries_by head w (pairing_of a))
  free-agent c (Insert x y row) u al n i t p on has = elim (gained-cases x y row i t p on has) [
    | inl old ↦ elim (versions-adds w u x row t p.1) [
      | inl e ↦ subst (λ (vs : List Version). is_stale head i p.0 vs ≡ false) (sym e) (free i t p on old)
      | inr e ↦ pending-fresh head i p.0 w u (Some row) [] _ e.2
    ]
    | inr new ↦ new-pair (tables_by w u (Adds x row)) i t x p (key_in head i row) y new.0 new.1
        (λ k. pending-fresh head i k w u (Some row) [] _
        (subst (λ (r : Rid). versions_in (tables_by w u (Adds x row)) x r ≡ pending_version w u (Some row) ∷ []) (sym al.3)
        (adds-here u x row (subst (λ (z : TableId). z.0 < length w.tables) (sym new.0) (there i t on)))))
  ]
  free-agent c (Update x y row) u al n i t p on has = elim (gained-cases x y row i t p on has) [
    | inl old ↦ writes-free u x y (Some row) i t p on old
    | inr new ↦ new-pair (tables_by w u (Writes x y (Some row))) i t x p (key_in head i row) y new.0 new.1
        (λ k. pending-fresh head i k w u (Some row) (versions w x y) _
        (writes-here u x y (Some row) (subst (λ (z : TableId). z.0 < length w.tables) (sym new.0) (there i t on))
        (seen-there c x y (and_parts _ _ (and_parts _ _ al.1).1).1)))
  ]
  free-agent c (Delete x y) u al n i t p on has = writes-free u x y None i t p on has
  free-agent c (Undo k) u al n i t p on has = absurd (both_ways true n refl)
  free-agent c Commit u al n i t p on has = absurd (both_ways true n refl)
  free-agent c (Purge j key y) u al n i t p on has = absurd al
  free-agent c _ u al n i t p on has = free i t p on has

  free-dispatcher : (a : Act) (u : ℕ) → ByDispatcher head w a → StaleFree head (tables_by w u (change_of a)) (entries_by head w (pairing_of a))
  free-dispatcher (Purge j key y) u al i t p on has = elim (pairs-lost head w j key y i) [
    | inl e ↦ free i t p on (subst (λ (ps : List (Value × Rid)). has_pair ps p ≡ true) e has)
    | inr e ↦ free i t p on (has-without (key, y) p (entries_of w i) (subst (λ (ps : List (Value × Rid)). has_pair ps p ≡ true) e.1 has)).0
  ]
  free-dispatcher (Insert x y row) u al i t p on has = absurd al
  free-dispatcher (Update x y row) u al i t p on has = absurd al
  free-dispatcher (Delete x y) u al i t p on has = absurd al
  free-dispatcher (Undo n) u al i t p on has = absurd al
  free-dispatcher Commit u al i t p on has = absurd al
  free-dispatcher _ u al i t p on has = free i t p on has

-- so after the entry
pub none_stale-after : (head : Head) (w : World) (e : Entry) → Allowed head w e → TablesThere head w → may_ripen e.act ≡ false → NoneStale head w
    → NoneStale head (after head w e)
none_stale-after head w e al there n free = go e.who al.2
  where
    go : (who : Who) → By head w who e.act → StaleFree head (tables_by w (unit_of_maker w who) (change_of e.act)) (entries_by head w (pairing_of e.act))
    go Dispatcher a = free-dispatcher head w there free e.act (unit_of_maker w Dispatcher) a
    go (Agent c) a = free-agent head w there free c e.act (unit_of_maker w (Agent c)) a.1 n
