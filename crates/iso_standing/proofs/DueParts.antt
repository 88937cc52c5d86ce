-- What the step that is due says of the first part that is left.
use Rattle.std.proofs.Common.{◌≡◌, Bool, true, List, [], ◌∷◌, sym, subst, Option, Some, ℤ}
use Rattle.iso_conduct.proofs.Needs.{AllNeed, Locked, Reads, is_own_refusal}
use Rattle.iso_conduct.specs.Parts.{Part}
use Rattle.iso_conduct.specs.Parts.Part.{Asks, EntryLook, IndexScan, NewRow, Refuses, RowDelete, RowUpdate, TableScan}
use Rattle.iso_conduct.specs.Points.{Haul, due_by, row_by}
use Rattle.iso_conduct.specs.declared.moves.Move.{Move}
use Rattle.iso_history.specs.Requests.{is_table_mode}
use Rattle.iso_history.specs.declared.entry.Want.{Want}
use Rattle.iso_modes.specs.declared.Mode.{Mode}
use Rattle.iso_modes.specs.declared.Mode.TheVariants.{Is, Ix, X}
use Rattle.iso_standing.proofs.Writing.{AllWrite}
use Rattle.iso_types.specs.Head.{is_table, row_fits, table_of_index}
use Rattle.iso_types.specs.declared.head.Head.{Head}
use Rattle.iso_types.specs.declared.head.Range.{Range}
use Rattle.iso_types.specs.declared.value.IndexId.{IndexId}
use Rattle.iso_types.specs.declared.value.Name.{Name}
use Rattle.iso_types.specs.declared.value.Name.TheVariants.{End, Key, Row, Table}
use Rattle.iso_types.specs.declared.value.Rid.{Rid}
use Rattle.iso_types.specs.declared.value.TableId.{TableId}
use Rattle.iso_types.specs.declared.value.Value.{Value}

-- a lock is due where the first part asks for it
pub due-lock : (kept : Haul) (ps : List Part) (n : Name) (m : Mode) → due_by kept ps ≡ Move.Lock n m → (rest : List Part) × (ps ≡ Asks n m ∷ rest)
due-lock kept [] n m e = absurd (cc)
due-lock kept (Asks name mode ∷ ps) n m e = (ps, cc)
due-lock kept (x ∷ ps) n m e = absurd (cc)

-- an insertion, where the first part is a new row
pub due-insert : (kept : Haul) (ps : List Part) (t : TableId) → due_by kept ps ≡ Move.Insert t
    → (row : List Value) × ((rest : List Part) × (ps ≡ NewRow t row ∷ rest))
due-insert kept [] t e = absurd (cc)
due-insert kept (NewRow u row ∷ ps) t e = (row, (ps, cc))
due-insert kept (x ∷ ps) t e = absurd (cc)

-- an update, where it is the row's
pub due-update : (kept : Haul) (ps : List Part) (t : TableId) (r : Rid) → due_by kept ps ≡ Move.Update t r
    → (row : List Value) × ((rest : List Part) × (ps ≡ RowUpdate t r row ∷ rest))
due-update kept [] t r e = absurd (cc)
due-update kept (RowUpdate u s row ∷ ps) t r e = (row, (ps, cc))
due-update kept (x ∷ ps) t r e = absurd (cc)

-- a deletion, likewise
pub due-delete : (kept : Haul) (ps : List Part) (t : TableId) (r : Rid) → due_by kept ps ≡ Move.Delete t r
    → (rest : List Part) × (ps ≡ RowDelete t r ∷ rest)
due-delete kept [] t r e = absurd (cc)
due-delete kept (RowDelete u s ∷ ps) t r e = (ps, cc)
due-delete kept (x ∷ ps) t r e = absurd (cc)

-- a refusal
pub due-refuse : (kept : Haul) (ps : List Part) (code : ℤ) → due_by kept ps ≡ Move.Refuse code → (rest : List Part) × (ps ≡ Refuses code ∷ rest)
due-refuse kept [] code e = absurd (cc)
due-refuse kept (Refuses k ∷ ps) code e = (ps, cc)
due-refuse kept (x ∷ ps) code e = absurd (cc)

module _ (head : Head) (g : Locked) (kept : Haul) (ps : List Part) (n : AllNeed head g ps) where
  -- a lock on a table: the table is there, and is asked for in a mode of tables
  pub lock-needs : (t : TableId) (m : Mode) → due_by kept ps ≡ Move.Lock (Table t) m → (is_table head t ≡ true) × (is_table_mode m ≡ true)
  lock-needs t m e = let d = due-lock kept ps (Table t) m e in (subst (AllNeed head g) d.1 n).0

  -- a new row fits its table, which is locked
  pub insert-needs : (t : TableId) → due_by kept ps ≡ Move.Insert t → (row_fits head t (row_by ps) ≡ true) × g t Ix
  insert-needs t e =
      let d = due-insert kept ps t e in
      let k = (subst (AllNeed head g) d.1.1 n).0 in
      (subst (λ z. row_fits head t (row_by z) ≡ true) (sym d.1.1) k.0, k.1)

  pub refuse-needs : (code : ℤ) → due_by kept ps ≡ Move.Refuse code → is_own_refusal code ≡ true
  refuse-needs code e = let d = due-refuse kept ps code e in (subst (AllNeed head g) d.1 n).0

module _ (head : Head) (g : Locked) (kept : Haul) where
  -- a look, of a scan of its table or of an index
  abbrev Sees : TableId → Want → Type 0
  Sees t want = (is_table head t ≡ true) × Reads g t want

  sees-same : (t u : TableId) (want look : Want) → u ≡ t → look ≡ want → Sees u look → Sees t want
  sees-same t u want look a b s = subst (λ z. Sees z want) a (subst (λ z. Sees u z) b s)

  pub look-needs : (ps : List Part) (t : TableId) (r : Rid) (want : Want) → AllNeed head g ps → due_by kept ps ≡ Move.Look t r want
      → (is_table head t ≡ true) × Reads g t want
  look-needs [] t r want n e = absurd (cc)
  look-needs (TableScan u look k ∷ ps) t r want n e = sees-same t u want look (cc) (cc) n.0
  look-needs (EntryLook k key s ∷ ps) t r want n e = sees-same t k.table want k.want (cc) (cc) (n.0.0, n.0.2)
  look-needs (x ∷ ps) t r want n e = absurd (cc)

module _ (head : Head) (g : Locked) (kept : Haul) (ps : List Part) (n : AllWrite head g ps) where
  -- rows are asked for in X, and their table is locked; keys are not asked for
  pub row-writes : (t : TableId) (r : Rid) (m : Mode) → due_by kept ps ≡ Move.Lock (Row t r) m → (m ≡ X) × g t Ix
  row-writes t r m e = let d = due-lock kept ps (Row t r) m e in (subst (AllWrite head g) d.1 n).0

  pub key-writes : (i : IndexId) (v : Value) (m : Mode) → due_by kept ps ≡ Move.Lock (Key i v) m → ⊥
  key-writes i v m e = let d = due-lock kept ps (Key i v) m e in (subst (AllWrite head g) d.1 n).0

  pub end-writes : (i : IndexId) (m : Mode) → due_by kept ps ≡ Move.Lock (End i) m → ⊥
  end-writes i m e = let d = due-lock kept ps (End i) m e in (subst (AllWrite head g) d.1 n).0

  pub update-writes : (t : TableId) (r : Rid) → due_by kept ps ≡ Move.Update t r → g t Ix
  update-writes t r e = let d = due-update kept ps t r e in (subst (AllWrite head g) d.1.1 n).0

  pub delete-writes : (t : TableId) (r : Rid) → due_by kept ps ≡ Move.Delete t r → g t Ix
  delete-writes t r e = let d = due-delete kept ps t r e in (subst (AllWrite head g) d.1 n).0

-- ---- steps of an index scan

-- what a step of an index scan asks of the locks: its table is held where it locks keys
abbrev pub Guards : Head → Locked → IndexId → Bool → Type 0
Guards head g i guarded = (t : TableId) × (table_of_index head i ≡ Some t) × (guarded ≡ true → g t Is)

module _ (head : Head) (g : Locked) (kept : Haul) where
  guards-same : (i j : IndexId) (a b : Bool) → j ≡ i → a ≡ b → Guards head g j a → Guards head g i b
  guards-same i j a b f h s = subst (λ z. Guards head g i z) h (subst (λ z. Guards head g z a) f s)

  -- a step of an index scan: the index is one of the scan's table
  pub next-needs : (ps : List Part) (i : IndexId) (range : Range) (at : Option (Value × Rid)) (guarded : Bool) → AllNeed head g ps
      → due_by kept ps ≡ Move.Next i range at guarded → Guards head g i guarded
  next-needs [] i range at guarded n e = absurd (cc)
  next-needs (IndexScan k from ∷ ps) i range at guarded n e = guards-same i k.index k.guarded guarded (cc) (cc) (k.table, n.0.1, n.0.3)
  next-needs (x ∷ ps) i range at guarded n e = absurd (cc)
