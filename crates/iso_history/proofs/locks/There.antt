-- What is there stays there: slots and pairs only grow, but for a purge of a key that nobody uses.
use Rattle.std.proofs.Common.{◌≡◌, ◌<◌, ◌≤◌, ◌+◌, ℕ, Bool, true, false, not, ◌&&◌, ◌||◌, if◌then◌else◌, List, [], ◌∷◌, ◌++◌, map, length, refl, ap, sym, ◌∙◌, arith, Some, None, Option, find, length-append}
use Rattle.std.specs.Prelude.{slice_index_or, slice_set}
use Rattle.std.specs.List.{list_any, range_with_len}
use Rattle.std.specs.Option.{option_map_or}
use Rattle.std.proofs.lemmas.Bool.{and_parts, eq-eqb, lt-ltb, ltb-false, ltb-true, not-true}
use Rattle.std.proofs.lemmas.List.{length-map, length-set}
use Rattle.std.proofs.lemmas.List.FromFn.{length-range_with_len}
use Rattle.iso_history.proofs.locks.Finds.{find-is}
use Rattle.iso_history.proofs.locks.Lists.{any-filter, any-set, at-map, at-range, at-set_here, at-set_longer, map-map, past-end}
use Rattle.iso_history.proofs.locks.Same.{name_is, rid_is, the_index, value_is, value_same}
use Rattle.iso_history.proofs.locks.Tests.{or-second}
use Rattle.iso_history.specs.After.{after}
use Rattle.iso_history.specs.Entries.{Pairing, entries_by, entries_of, gained, has_key, is_in_use, is_purgeable, is_purgeable_of, pairing_of, purgeable_from, with_pair, without_pair}
use Rattle.iso_history.specs.Entries.Pairing.{Gains, Loses, Same}
use Rattle.iso_history.specs.Facts.{HasParts}
use Rattle.iso_history.specs.Legal.{ByAgent, ByDispatcher}
use Rattle.iso_history.specs.Requests.{is_there}
use Rattle.iso_history.specs.Units.{unit_of_maker}
use Rattle.iso_history.specs.Versions.{Change, change_of, pending_version, settled_by, slot_list, slots, tables_by, taken_off, versions}
use Rattle.iso_history.specs.Versions.Change.{Adds, Keeps, Settles, Takes, Writes}
use Rattle.iso_history.specs.World.{Version, World}
use Rattle.iso_history.specs.declared.entry.Act.{Act}
use Rattle.iso_history.specs.declared.entry.Act.TheVariants.{Insert, Purge, Update}
use Rattle.iso_history.specs.declared.entry.Entry.{Entry}
use Rattle.iso_types.specs.Head.{indexes, indexes_of, is_index, key_in, table_of_index}
use Rattle.iso_types.specs.Ids.{index_eq, name_eq, pair_eq, pair_lt, rid_eq}
use Rattle.iso_types.specs.Value.{value_eq}
use Rattle.iso_types.specs.declared.head.Head.{Head}
use Rattle.iso_types.specs.declared.value.Conn.{Conn}
use Rattle.iso_types.specs.declared.value.IndexId.{IndexId}
use Rattle.iso_types.specs.declared.value.Name.{Name}
use Rattle.iso_types.specs.declared.value.Name.TheVariants.{End, Key, Row, Table}
use Rattle.iso_types.specs.declared.value.Rid.{Rid}
use Rattle.iso_types.specs.declared.value.TableId.{TableId}
use Rattle.iso_types.specs.declared.value.Value.{Value}

-- no change takes a slot away
slots-by : (w : World) (u : ℕ) (ch : Change) (t : TableId) → slots w t ≤ length (slice_index_or (tables_by w u ch) t.0 [])
slots-by w u Keeps t = omega arith
slots-by w u (Adds o row) t = at-set_longer w.tables o.0 t.0 (slot_list w o ++ (pending_version w u (Some row) ∷ []) ∷ []) (simp length-append (omega arith))
slots-by w u (Writes o r row) t =
    at-set_longer w.tables o.0 t.0 (slice_set (slot_list w o) r.0 (pending_version w u row ∷ versions w o r)) (simp length-set (omega arith))
slots-by w u (Takes n) t = rw (at-map (map (taken_off n)) refl w.tables t.0) (simp length-map (omega arith))
slots-by w u Settles t = rw (at-map (map (settled_by u)) refl w.tables t.0) (simp length-map (omega arith))

-- a new slot is there
pub slot-new : (w : World) (u : ℕ) (t : TableId) (row : List Value) → t.0 < length w.tables
    → length (slice_index_or (tables_by w u (Adds t row)) t.0 []) ≡ slots w t + 1
slot-new w u t row lt =
    ap (λ (xs : List (List Version)). length xs) (at-set_here w.tables t.0 (slot_list w t ++ (pending_version w u (Some row) ∷ []) ∷ []) lt)
    ∙ simp length-append

-- as many tables as before
pub tables-count : (w : World) (u : ℕ) (ch : Change) → length (tables_by w u ch) ≡ length w.tables
tables-count w u Keeps = refl
tables-count w u (Adds o row) = length-set w.tables o.0 _
tables-count w u (Writes o r row) = length-set w.tables o.0 _
tables-count w u (Takes n) = simp length-map
tables-count w u Settles = simp length-map

-- a pair that is added takes none away
any-with : (q : Value × Rid → Bool) (p : Value × Rid) (ps : List (Value × Rid)) → list_any q ps ≡ true → list_any q (with_pair p ps) ≡ true
any-with q p [] e = cc
any-with q p (x ∷ xs) e = go (pair_lt p x) (pair_eq p x) (q x) refl (any-with q p xs)
  where
    go : (a b d : Bool) → q x ≡ d → (list_any q xs ≡ true → list_any q (with_pair p xs) ≡ true)
        → list_any q (if a then p ∷ x ∷ xs else if b then x ∷ xs else x ∷ with_pair p xs) ≡ true
    go true b d t ih = or-second (q p) (q x || list_any q xs) e
    go false true d t ih = e
    go false false true t ih = rw t refl
    go false false false t ih = rw t (ih (rw t at e))

abbrev pair : Value → Rid → Value × Rid
pair v r = (v, r)

-- and stands itself
any-with_new : (q : Value × Rid → Bool) (p : Value × Rid) → q p ≡ true → (ps : List (Value × Rid)) → list_any q (with_pair p ps) ≡ true
any-with_new q p e [] = rw e refl
any-with_new q p e (x ∷ xs) = go (pair_lt p x) (pair_eq p x) refl (any-with_new q p e xs)
  where
    same : pair_eq p x ≡ true → q x ≡ true
    same k =
        let parts = and_parts _ _ k in
        let key : p.0 ≡ x.0 = value_is p.0 x.0 parts.0 in
        let rid : p.1 ≡ x.1 = rid_is p.1 x.1 parts.1 in
        let is : p ≡ x = ap (λ (v : Value). pair v p.1) key ∙ ap (λ (r : Rid). pair x.0 r) rid in
        ap q (sym is) ∙ e

    go : (a b : Bool) → pair_eq p x ≡ b → list_any q (with_pair p xs) ≡ true
        → list_any q (if a then p ∷ x ∷ xs else if b then x ∷ xs else x ∷ with_pair p xs) ≡ true
    go true b k ih = rw e refl
    go false true k ih = rw (same k) refl
    go false false k ih = or-second (q x) (list_any q (with_pair p xs)) ih

-- the pairs of an index after a row's keys are added
module _ (head : Head) (w : World) (t : TableId) (r : Rid) (row : List Value) where
  entries-gained : (i : IndexId) → is_index head i ≡ true → slice_index_or (entries_by head w (Gains t r row)) i.0 [] ≡ gained head w t r row i
  entries-gained i e =
      ap (λ (xs : List (List (Value × Rid))). slice_index_or xs i.0 [])
      (map-map (λ (k : ℕ). the_index k) (gained head w t r row) (range_with_len 0 (length head.indexes)))
      ∙ at-range (λ (k : ℕ). gained head w t r row (the_index k)) (length head.indexes) 0 i.0 (ltb-true _ _ e)
      ∙ ap (λ (k : ℕ). gained head w t r row (the_index k)) (zero_plus i.0)
    where
      zero_plus : (n : ℕ) → 0 + n ≡ n
      zero_plus n = omega arith

  any-gained : (q : Value × Rid → Bool) (i : IndexId) → list_any q (entries_of w i) ≡ true → list_any q (gained head w t r row i) ≡ true
  any-gained q i e = go (list_any (index_eq i) (indexes_of head t))
    where
      go : (b : Bool) → list_any q (if b then with_pair (key_in head i row, r) (entries_of w i) else entries_of w i) ≡ true
      go true = any-with q (key_in head i row, r) (entries_of w i) e
      go false = e

  -- a key of the row has its pair
  pub key-gained : (i : IndexId) → is_index head i ≡ true → list_any (index_eq i) (indexes_of head t) ≡ true
      → list_any (λ p. value_eq p.0 (key_in head i row)) (slice_index_or (entries_by head w (Gains t r row)) i.0 []) ≡ true
  key-gained i is on =
      let k : gained head w t r row i ≡ with_pair (key_in head i row, r) (entries_of w i) = rw on refl in
      ap (list_any (λ (p : Value × Rid). value_eq p.0 (key_in head i row))) (entries-gained i is ∙ k)
      ∙ any-with_new (λ (p : Value × Rid). value_eq p.0 (key_in head i row)) (key_in head i row, r) (value_same (key_in head i row)) (entries_of w i)

  pub entries-count : length (entries_by head w (Gains t r row)) ≡ length head.indexes
  entries-count = simp (length-map, length-range_with_len)

-- a key that is not purged keeps a pair
abbrev pub SparesKey : Pairing → IndexId → Value → Type 0
SparesKey (Loses j key r) i v = (name_eq (Key j key) (Key i v)) ≡ false
SparesKey _ i v = Unit {0}

pub key-stays : (head : Head) (w : World) (ch : Pairing) (i : IndexId) (v : Value) → HasParts head w → SparesKey ch i v → has_key w i v ≡ true
    → list_any (λ p. value_eq p.0 v) (slice_index_or (entries_by head w ch) i.0 []) ≡ true
unfolding name_eq
key-stays head w Same i v parts f e = e
key-stays head w (Gains t r row) i v parts f e = go (is_index head i) refl
  where
    go : (b : Bool) → is_index head i ≡ b → list_any (λ p. value_eq p.0 v) (slice_index_or (entries_by head w (Gains t r row)) i.0 []) ≡ true
    go true k =
        ap (list_any (λ (p : Value × Rid). value_eq p.0 v)) (entries-gained head w t r row i k)
        ∙ any-gained head w t r row (λ (p : Value × Rid). value_eq p.0 v) i e
    go false k =
        let out : length w.entries ≤ i.0 = omega (arith, parts.entries, ltb-false _ _ k) in
        cc (sym (ap (list_any (λ (p : Value × Rid). value_eq p.0 v)) (past-end w.entries i.0 out)) ∙ e)
key-stays head w (Loses j key r) i v parts f e =
    any-set (λ (p : Value × Rid). value_eq p.0 v) w.entries j.0 i.0 (without_pair (key, r) (entries_of w j)) left e
  where
    passes : (b : Bool) → index_eq j i ≡ true → value_eq key v ≡ b → (index_eq j i && value_eq key v) ≡ false → value_eq key v ≡ false
    passes true h k g = cc (rw (h, k) at g)
    passes false h k g = k

    left : j.0 ≡ i.0 → list_any (λ p. value_eq p.0 v) (entries_of w j) ≡ true → list_any (λ p. value_eq p.0 v) (without_pair (key, r) (entries_of w j)) ≡ true
    left same a =
        any-filter (λ (p : Value × Rid). value_eq p.0 v) (λ (p : Value × Rid). not (pair_eq (key, r) p)) other (entries_of w j) a
      where
        away : value_eq key v ≡ false
        away = passes (value_eq key v) (eq-eqb j.0 i.0 same) refl f

        other : (p : Value × Rid) → value_eq p.0 v ≡ true → not (pair_eq (key, r) p) ≡ true
        other p h = go (value_eq key p.0) refl
          where
            go : (b : Bool) → value_eq key p.0 ≡ b → not (value_eq key p.0 && rid_eq r p.1) ≡ true
            go true k = cc (sym (ap (λ (u : Value). value_eq u v) (value_is key p.0 k) ∙ h) ∙ away)
            go false k = rw k refl

-- a name that is not purged
abbrev pub SparesName : Pairing → Name → Type 0
SparesName ch (Key i v) = SparesKey ch i v
SparesName ch n = Unit {0}

pub there-stays : (head : Head) (w : World) (e : Entry) → HasParts head w → (n : Name) → SparesName (pairing_of e.act) n → is_there head w n ≡ true
    → is_there head (after head w e) n ≡ true
there-stays head w e parts (Table t) f k = k
there-stays head w e parts (End i) f k = k
there-stays head w e parts (Row t r) f k =
    let lt : r.0 < slots w t = ltb-true _ _ k in
    let le = slots-by w (unit_of_maker w e.who) (change_of e.act) t in
    lt-ltb r.0 (slots (after head w e) t) (omega arith)
there-stays head w e parts (Key i v) f k = key-stays head w (pairing_of e.act) i v parts f k

spares-same : (n : Name) → SparesName Same n
spares-same (Key i v) = tt
spares-same _ = tt

spares-gains : (t : TableId) (r : Rid) (row : List Value) (n : Name) → SparesName (Gains t r row) n
spares-gains t r row (Key i v) = tt
spares-gains t r row _ = tt

-- an agent purges nothing
pub agent-spares : (head : Head) (w : World) (c : Conn) (a : Act) → ByAgent head w c a → (n : Name) → SparesName (pairing_of a) n
agent-spares head w c (Insert t r row) al n = spares-gains t r row n
agent-spares head w c (Update t r row) al n = spares-gains t r row n
agent-spares head w c (Purge i key r) al n = absurd al
agent-spares head w c _ al n = spares-same n

-- what is purged nobody uses
purged-unused : (head : Head) (w : World) (is : List IndexId) (i : IndexId) (p : Value × Rid) → purgeable_from head w is ≡ Some (i, p)
    → is_in_use w (Key i p.0) ≡ false
purged-unused head w [] i p e = cc
purged-unused head w (j ∷ js) i p e = go (find (is_purgeable head w j) (entries_of w j)) refl e (purged-unused head w js i p)
  where
    unused : (q : Value × Rid) (t : Option TableId) → option_map_or (is_purgeable_of head w j q) t false ≡ true → is_in_use w (Key j q.0) ≡ false
    unused q None k = cc
    unused q (Some t) k = not-true _ ((and_parts _ _ k).1)

    first : Option (IndexId × (Value × Rid)) → IndexId
    first x = option_map_or (λ y. y.0) x j

    second : Value × Rid → Option (IndexId × (Value × Rid)) → Value × Rid
    second q x = option_map_or (λ y. y.1) x q

    go : (x : Option (Value × Rid)) → find (is_purgeable head w j) (entries_of w j) ≡ x
        → ◌≡◌ {A = Option (IndexId × (Value × Rid))} (elim x [ None ↦ purgeable_from head w js | Some q ↦ Some (j, q) ]) (Some (i, p))
        → (purgeable_from head w js ≡ Some (i, p) → is_in_use w (Key i p.0) ≡ false) → is_in_use w (Key i p.0) ≡ false
    go None k f ih = ih f
    go (Some q) k f ih =
        let same : j ≡ i = ap first f in
        let also : q ≡ p = ap (second q) f in
        ap (λ (x : IndexId). is_in_use w (Key x p.0)) (sym same) ∙ ap (λ (x : Value × Rid). is_in_use w (Key j x.0)) (sym also)
        ∙ unused q (table_of_index head j) (find-is (is_purgeable head w j) (entries_of w j) q k)

-- the dispatcher purges nothing in use
pub dispatcher-spares : (head : Head) (w : World) (a : Act) → ByDispatcher head w a → (n : Name) → is_in_use w n ≡ true → SparesName (pairing_of a) n
dispatcher-spares head w (Purge i key r) al n used = go n used
  where
    go : (k : Name) → is_in_use w k ≡ true → SparesName (Loses i key r) k
    go (Key j v) u = away (name_eq (Key i key) (Key j v)) refl
      where
        away : (b : Bool) → name_eq (Key i key) (Key j v) ≡ b → name_eq (Key i key) (Key j v) ≡ false
        away true t = cc (sym (ap (is_in_use w) (name_is (Key i key) (Key j v) t) ∙ u) ∙ purged-unused head w (indexes head) i (key, r) al.2)
        away false t = t
    go (Table t) u = tt
    go (Row t q) u = tt
    go (End j) u = tt
dispatcher-spares head w (Insert t r row) al n used = absurd al
dispatcher-spares head w (Update t r row) al n used = absurd al
dispatcher-spares head w _ al n used = spares-same n
