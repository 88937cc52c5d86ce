-- In a legal history each entry of an index is of a slot of the index's table.
use Rattle.std.proofs.Common.{◌≡◌, inl, inr, ◌≤◌, ◌<◌, ◌+◌, ℕ, zero, suc, Bool, true, false, List, [], ◌∷◌, ◌++◌, length, map, refl, ap, ◌∙◌, subst, Option, Some, None, arith, length-append, option_map, if◌then◌else◌}
use Rattle.std.proofs.lemmas.Bool.{and_parts, lt-ltb, ltb-true}
use Rattle.std.proofs.lemmas.Bool.Decides.{nat_tests}
use Rattle.std.proofs.lemmas.List.{get_or-map, get_or-set_same, get_or_past, length-map}
use Rattle.std.proofs.lemmas.List.FromFn.{get_or-map-range_with_len, length-map-range_with_len}
use Rattle.std.proofs.lemmas.Option.{slice_get_within}
use Rattle.std.specs.List.{list_all, list_any}
use Rattle.std.specs.Option.{option_map_or}
use Rattle.std.specs.Prelude.{is_some, nat_lt, slice_get}
use Rattle.iso_history.proofs.Snoc.{along}
use Rattle.iso_history.proofs.phantoms.EntriesAfter.{pairs-gained, pairs-lost, pairs_in}
use Rattle.iso_history.proofs.phantoms.Ordered.{has-with, has-without}
use Rattle.iso_history.proofs.phantoms.RangeOthers.{index-table, index-there}
use Rattle.iso_history.proofs.phantoms.Slots.{slots-grow, slots_in}
use Rattle.iso_history.proofs.whole.Sound.{sound-after, start-sound}
use Rattle.iso_history.specs.After.{after, start, world}
use Rattle.iso_history.specs.Entries.{entries_by, entries_of, pairing_of, with_pair, with_rows}
use Rattle.iso_history.specs.Entries.Pairing.{Gains, Loses}
use Rattle.iso_history.specs.Facts.{HasParts, IsSound}
use Rattle.iso_history.specs.Legal.{Allowed, By, Ground}
use Rattle.iso_history.specs.Orders.{has_pair}
use Rattle.iso_history.specs.Units.{unit_of, unit_of_maker}
use Rattle.iso_history.specs.Versions.{Change, change_of, first_version, pending_version, slot_list, slots, tables_by, view, view_of}
use Rattle.iso_history.specs.Versions.Change.{Adds, Writes}
use Rattle.iso_history.specs.World.{Version, World}
use Rattle.iso_history.specs.declared.entry.Act.{Act}
use Rattle.iso_history.specs.declared.entry.Act.TheVariants.{Insert, Purge, Update}
use Rattle.iso_history.specs.declared.entry.Entry.{Entry}
use Rattle.iso_history.specs.declared.entry.Who.{Who}
use Rattle.iso_history.specs.declared.entry.Who.TheVariants.{Agent, Dispatcher}
use Rattle.iso_script.specs.Sound.{IsSoundHead, is_sound_index}
use Rattle.iso_sql.specs.Sound.{columns_of}
use Rattle.iso_types.specs.Head.{all_fit, indexes, indexes_of, is_table, key_in, row_fits, rows_of, table_of_index, tables}
use Rattle.iso_types.specs.Ids.{index_eq}
use Rattle.iso_types.specs.declared.head.Column.{Column}
use Rattle.iso_types.specs.declared.head.Head.{Head}
use Rattle.iso_types.specs.declared.head.IndexDef.{IndexDef}
use Rattle.iso_types.specs.declared.head.TableDef.{TableDef}
use Rattle.iso_types.specs.declared.value.Conn.{Conn}
use Rattle.iso_types.specs.declared.value.IndexId.{IndexId}
use Rattle.iso_types.specs.declared.value.Rid.{Rid}
use Rattle.iso_types.specs.declared.value.TableId.{TableId}
use Rattle.iso_types.specs.declared.value.Value.{Value}

-- ---- the indexes of a sound head

-- the index is one of the table, whose columns are there, and the key's column is one of them
pub record IsIndexOf (head : Head) (d : IndexDef) : Type 0 where
  pub there : is_table head d.table ≡ true
  pub column : d.column < length (columns_of head d.table)

all-at : {A : Type 0} (p : A → Bool) (xs : List A) (k : ℕ) (x : A) → list_all p xs ≡ true → slice_get xs k ≡ Some x → p x ≡ true
all-at p [] k x h e = absurd (cc)
all-at p (y ∷ ys) zero x h e = let s : y ≡ x = cc in subst (λ z. p z ≡ true) s (and_parts (p y) (list_all p ys) h).0
all-at p (y ∷ ys) (suc k) x h e = all-at p ys k x (and_parts (p y) (list_all p ys) h).1 e

columns-there : (head : Head) (t : TableId) (k : ℕ) (c : Column) → slice_get (columns_of head t) k ≡ Some c → is_table head t ≡ true
columns-there head t k c e = go (slice_get head.tables t.0) refl e
  where
    go : (o : Option TableDef) → slice_get head.tables t.0 ≡ o → slice_get (option_map_or (λ d. d.columns) o []) k ≡ Some c → is_table head t ≡ true
    go None f h = absurd (cc)
    go (Some d) f h = lt-ltb t.0 (length head.tables) (slice_get_within head.tables t.0 d f)

pub index-sound : (head : Head) (d : IndexDef) → is_sound_index head d ≡ true → IsIndexOf head d
index-sound head d h = go (slice_get (columns_of head d.table) d.column) refl (and_parts _ _ (and_parts _ _ h).1).0
  where
    go : (o : Option Column) → slice_get (columns_of head d.table) d.column ≡ o → option_map_or (λ (c : Column). c.required) o false ≡ true → IsIndexOf head d
    go None e f = absurd (cc)
    go (Some c) e f = record {
      there = columns-there head d.table d.column c e;
      column = slice_get_within (columns_of head d.table) d.column c e;
    }

pub index-at : (head : Head) (i : IndexId) (d : IndexDef) → IsSoundHead head → slice_get head.indexes i.0 ≡ Some d → IsIndexOf head d
index-at head i d sound e = index-sound head d (all-at (is_sound_index head) head.indexes i.0 d sound.indexes e)

-- the table of an index is the head's
pub table-there : (head : Head) (i : IndexId) (t : TableId) → IsSoundHead head → table_of_index head i ≡ Some t → is_table head t ≡ true
table-there head i t sound e = go (slice_get head.indexes i.0) refl e
  where
    go : (o : Option IndexDef) → slice_get head.indexes i.0 ≡ o → option_map (λ d. d.table) o ≡ Some t → is_table head t ≡ true
    go None f h = absurd (cc)
    go (Some d) f h = let s : d.table ≡ t = cc in subst (λ z. is_table head z ≡ true) s (index-at head i d sound f).there

-- ---- each entry is of a slot

-- the entries of an index are of slots of its table, in these entries and tables
abbrev pub SlottedIn : Head → List (List (Value × Rid)) → List (List (List Version)) → Type 0
SlottedIn head entries tables =
    (i : IndexId) (t : TableId) (p : Value × Rid) → table_of_index head i ≡ Some t → has_pair (pairs_in entries i) p ≡ true → p.1.0 < slots_in tables t

abbrev pub AreSlotted : Head → World → Type 0
AreSlotted head w = SlottedIn head w.entries w.tables

module _ (head : Head) (w : World) (now : List (List (List Version))) (grow : (t : TableId) → slots w t ≤ slots_in now t) (old : AreSlotted head w) where
  slotted-old : (i : IndexId) (t : TableId) (p : Value × Rid) → table_of_index head i ≡ Some t → has_pair (entries_of w i) p ≡ true → p.1.0 < slots_in now t
  slotted-old i t p on h = omega (arith, old i t p on h, grow t)

  -- a row that comes into a slot
  slotted-gains : (t : TableId) (r : Rid) (row : List Value) → r.0 < slots_in now t → SlottedIn head (entries_by head w (Gains t r row)) now
  slotted-gains t r row lt i u p on h =
      go (list_any (index_eq i) (indexes_of head t)) refl
      (subst (λ qs. has_pair qs p ≡ true) (pairs-gained head w t r row i (index-there head i u on)) h)
    where
      new : (p ≡ (key_in head i row, r)) → t ≡ u → p.1.0 < slots_in now u
      new e s =
          let a : p.1.0 ≡ r.0 = ap (λ (q : Value × Rid). q.1.0) e in
          let b : slots_in now t ≡ slots_in now u = ap (slots_in now) s in
          omega (arith, lt, a, b)

      go : (b : Bool) → list_any (index_eq i) (indexes_of head t) ≡ b
          → has_pair (if b then with_pair (key_in head i row, r) (entries_of w i) else entries_of w i) p ≡ true → p.1.0 < slots_in now u
      go true e k = elim (has-with (key_in head i row, r) p (entries_of w i) k) [
        | inl f ↦ slotted-old i u p on f
        | inr f ↦ new f (index-table head i u t on e)
      ]
      go false e k = slotted-old i u p on k

  slotted-loses : (j : IndexId) (key : Value) (r : Rid) → SlottedIn head (entries_by head w (Loses j key r)) now
  slotted-loses j key r i t p on h = elim (pairs-lost head w j key r i) [
    | inl e ↦ slotted-old i t p on (subst (λ qs. has_pair qs p ≡ true) e h)
    | inr e ↦ slotted-old i t p on (has-without (key, r) p (entries_of w i) (subst (λ qs. has_pair qs p ≡ true) e.1 h)).0
  ]

-- a slot that shows a row is there
pub view-there : (w : World) (c : Conn) (t : TableId) (r : Rid) → is_some (view w c t r) ≡ true → r.0 < slots w t
view-there w c t r e = go (nat_lt r.0 (slots w t)) refl
  where
    none : false ≡ true → ⊥
    none h = cc

    go : (b : Bool) → nat_lt r.0 (slots w t) ≡ b → r.0 < slots w t
    go true f = ltb-true r.0 (slots w t) f
    go false f =
        let past : slots w t ≤ r.0 = grind (arith, nat_tests, f) in
        absurd (none (subst (λ (vs : List Version). is_some (view_of (unit_of w c) vs) ≡ true) (get_or_past (slot_list w t) r.0 [] past) e))

module _ (head : Head) (w : World) (parts : HasParts head w) where
  -- the slot of a new row
  new-slot : (u : ℕ) (t : TableId) (row : List Value) → is_table head t ≡ true → slots w t < slots_in (tables_by w u (Adds t row)) t
  new-slot u t row e =
      let lt : t.0 < length w.tables = omega (arith, ltb-true t.0 (length head.tables) e, parts.tables) in
      let new : List (List Version) = slot_list w t ++ (pending_version w u (Some row) ∷ []) ∷ [] in
      let is : slots_in (tables_by w u (Adds t row)) t ≡ slots w t + 1 =
      ap (λ (l : List (List Version)). length l) (get_or-set_same w.tables t.0 new [] lt) ∙ length-append (slot_list w t) ((pending_version w u (Some row) ∷ []) ∷ []) in
      omega (arith, is)

  fits-there : (t : TableId) (row : List Value) → row_fits head t row ≡ true → is_table head t ≡ true
  fits-there t row e = go (slice_get head.tables t.0) refl e
    where
      go : (o : Option TableDef) → slice_get head.tables t.0 ≡ o → option_map_or (λ d. all_fit d.columns row) o false ≡ true → is_table head t ≡ true
      go None f h = absurd (cc)
      go (Some d) f h = lt-ltb t.0 (length head.tables) (slice_get_within head.tables t.0 d f)

  -- each entry leaves it so
  slotted-act : (who : Who) (a : Act) → By head w who a → AreSlotted head w
      → SlottedIn head (entries_by head w (pairing_of a)) (tables_by w (unit_of_maker w who) (change_of a))
  slotted-act (Agent c) (Insert t r row) by old =
      slotted-gains head w (tables_by w (unit_of_maker w (Agent c)) (Adds t row)) (slots-grow w (unit_of_maker w (Agent c)) (Adds t row)) old t r row
      (let s : r.0 ≡ slots w t = ap (λ (x : Rid). x.0) by.1.3 in
      omega (arith, s, new-slot (unit_of_maker w (Agent c)) t row (fits-there t row by.1.2)))
  slotted-act (Agent c) (Update t r row) by old =
      slotted-gains head w (tables_by w (unit_of_maker w (Agent c)) (Writes t r (Some row))) (slots-grow w (unit_of_maker w (Agent c)) (Writes t r (Some row))) old t r row
      (omega (arith, view-there w c t r (and_parts _ _ (and_parts _ _ by.1.1).1).1, slots-grow w (unit_of_maker w (Agent c)) (Writes t r (Some row)) t))
  slotted-act Dispatcher (Insert t r row) by old = absurd by
  slotted-act Dispatcher (Update t r row) by old = absurd by
  slotted-act who (Purge i key r) by old =
      slotted-loses head w w.tables (slots-grow w (unit_of_maker w who) Change.Keeps) old i key r
  slotted-act who a by old = slotted-old head w _ (slots-grow w (unit_of_maker w who) (change_of a)) old

-- ---- at the start

rows-below : (head : Head) (i : IndexId) (n : ℕ) (rows : List (List Value)) (p : Value × Rid) → has_pair (with_rows head i n rows) p ≡ true → p.1.0 < n + length rows
rows-below head i n [] p h = absurd (cc)
rows-below head i n (row ∷ rows) p h = elim (has-with (key_in head i row, record { 0 = n }) p (with_rows head i (n + 1) rows) h) [
  | inl f ↦ omega (arith, rows-below head i (n + 1) rows p f)
  | inr f ↦ let a : p.1.0 ≡ n = ap (λ (q : Value × Rid). q.1.0) f in omega (arith, a)
]

-- a sound world whose entries are of slots
abbrev pub Filled : Head → World → Type 0
Filled head w = IsSound head w × AreSlotted head w

pub filled-after : (head : Head) (w : World) (e : Entry) → Allowed head w e → Filled head w → Filled head (after head w e)
filled-after head w e al p = (sound-after head w e al p.0, slotted-act head w p.0.locks.parts e.who e.act al.2 p.1)

module _ (head : Head) (sound : IsSoundHead head) where
  start-pairs : (i : IndexId) (t : TableId) → table_of_index head i ≡ Some t → entries_of (start head) i ≡ with_rows head i 0 (rows_of head t)
  start-pairs i t on =
      let lt : i.0 < length head.indexes = ltb-true i.0 (length head.indexes) (index-there head i t on) in
      let long : length (indexes head) ≡ length head.indexes = length-map-range_with_len (λ k. record { 0 = k }) 0 (length head.indexes) in
      let z : i.0 < length (indexes head) = omega (arith, lt, long) in
      get_or-map (λ i. with_rows head i 0 (option_map_or (rows_of head) (table_of_index head i) [])) (indexes head) i.0 i [] z
      ∙ ap (λ (j : IndexId). with_rows head j 0 (option_map_or (rows_of head) (table_of_index head j) []))
      (get_or-map-range_with_len (λ (k : ℕ). record { 0 = k }) 0 (length head.indexes) i.0 i.0 i lt (omega arith))
      ∙ ap (λ (o : Option TableId). with_rows head i 0 (option_map_or (rows_of head) o [])) on

  start-slots : (t : TableId) → is_table head t ≡ true → slots (start head) t ≡ length (rows_of head t)
  start-slots t e =
      let lt : t.0 < length head.tables = ltb-true t.0 (length head.tables) e in
      let long : length (tables head) ≡ length head.tables = length-map-range_with_len (λ k. record { 0 = k }) 0 (length head.tables) in
      let z : t.0 < length (tables head) = omega (arith, lt, long) in
      ap (λ (l : List (List Version)). length l)
      (get_or-map (λ t. map first_version (rows_of head t)) (tables head) t.0 t [] z
      ∙ ap (λ (u : TableId). map first_version (rows_of head u)) (get_or-map-range_with_len (λ (k : ℕ). record { 0 = k }) 0 (length head.tables) t.0 t.0 t lt (omega arith)))
      ∙ length-map (rows_of head t) first_version

  slotted-start : AreSlotted head (start head)
  slotted-start i t p on h =
      let below = rows-below head i 0 (rows_of head t) p (subst (λ qs. has_pair qs p ≡ true) (start-pairs i t on) h) in
      let is : slots (start head) t ≡ length (rows_of head t) = start-slots t (table-there head i t sound on) in
      omega (arith, below, is)

  pub filled-start : Filled head (start head)
  filled-start = (start-sound head, slotted-start)

  pub slotted-along : (es : List Entry) → Ground head es → AreSlotted head (world head es)
  slotted-along es g = (along head (Filled head) (filled-after head) es filled-start g).1
