-- A look leaves what the changes of a statement need of its rows, and so does the step to an entry and the end of a scan.
use Rattle.std.proofs.Common.{◌≡◌, ◌<◌, ◌⊎◌, inl, inr, ◌+◌, ℕ, Bool, true, false, List, [], ◌∷◌, ◌++◌, refl, subst, sym, arith, Option, Some, if◌then◌else◌}
use Rattle.iso_conduct.specs.Answers.{answers}
use Rattle.iso_conduct.specs.Parts.{Part}
use Rattle.iso_conduct.specs.Parts.Part.{Changes, EntryLook, Frees, IndexScan, TableScan}
use Rattle.iso_conduct.specs.Points.{Haul, Point, behind, due_by, found_rows, freeing, frees, has_entry_key, hauled, look_rid, opened_out, past_look, standing_at}
use Rattle.iso_conduct.specs.Points.Haul.{Found}
use Rattle.iso_conduct.specs.declared.moves.Told.{Told}
use Rattle.iso_history.proofs.phantoms.Values.{value_is}
use Rattle.iso_history.specs.declared.entry.Want.{Want}
use Rattle.iso_predicate.specs.Truth.{value_at}
use Rattle.iso_sql.specs.declared.statement.Statement.{Statement}
use Rattle.iso_standing.proofs.KeptRows.{AllBefore, AllKept, AllSuch, Below, Passed, Place, Scanned, Seen, Such, before-passed, below-apart, below-more, comes_after, entry-apart, passed-behind, scanned-kept, scanned-more, scanned-place, such-behind}
use Rattle.iso_standing.proofs.RowNeeds.{AllRows, Follows, NamesSuch, Written, changes-rows, follow-rows, names-tail}
use Rattle.iso_types.specs.Head.{row_fits}
use Rattle.iso_types.specs.declared.head.Column.{Column}
use Rattle.iso_types.specs.declared.head.Head.{Head}
use Rattle.iso_types.specs.declared.value.Rid.{Rid}
use Rattle.iso_types.specs.declared.value.TableId.{TableId}
use Rattle.iso_types.specs.declared.value.Value.{Value}

-- the row of this number
abbrev pub rid_of : ℕ → Rid
rid_of n = record { 0 = n }

-- the entry where an index scan comes to stand is behind its place
abbrev pub Stands : List Part → Value → Rid → Type 0
Stands (IndexScan k at ∷ ps) key r = comes_after at (key, r) ≡ true
Stands ps key r = Unit {0}

module _ (head : Head) (see : Seen) (firm : Such) where
  -- a row that an UPDATE or DELETE is shown is seen, and fits its table
  abbrev pub ShowsAt : TableId → Rid → Haul → Option (List Value) → Type 0
  ShowsAt t r kept shown =
      (ks : List (Rid × List Value)) (row : List Value) → kept ≡ Found ks → shown ≡ Some row → see t r row × (row_fits head t row ≡ true)

  -- so it is at the look that is due, and all rows that were kept before are firm now
  abbrev pub Shows : Haul → List Part → Option (List Value) → Type 0
  Shows kept (TableScan t want n ∷ ps) shown = ShowsAt t (rid_of n) kept shown × AllSuch (firm t) (found_rows kept)
  Shows kept (EntryLook k key r ∷ ps) shown = ShowsAt k.table r kept shown × AllSuch (firm k.table) (found_rows kept)
  Shows kept ps shown = Unit {0}

  module _ (once : (t : TableId) (r : Rid) (a b : List Value) → see t r a → see t r b → a ≡ b) (s : Statement) (columns : List Column) where
    -- what these parts need, with what is locked
    abbrev Of : Written → Haul → List Part → Type 0
    Of g kept ps = AllRows head s columns see firm g kept ps

    -- the scan goes on behind a row that is kept
    pub hauled-rows : (g : Written) (kept : Haul) (ps : List Part) (row given : List Value) (fresh : Bool)
        → answers (due_by kept ps) (Told.Shown (Some row) fresh) ≡ true → has_entry_key ps row ≡ true → Of g kept ps → Shows kept ps (Some row)
        → Of g (hauled kept (look_rid ps) row given) (past_look ps)
    hauled-rows g kept [] row given fresh a key n new = absurd (cc)
    hauled-rows g kept (TableScan t want m ∷ ps) row given fresh a key n new = (
      (
        n.0.0,
        scanned-more head see t want (Below m) (Below (m + 1)) kept (rid_of m) row given
            (λ ks sees k below. below-apart (rid_of m) ks below)
            (λ ks below. such-behind (λ q. q.0 < m + 1) ks (rid_of m) row (below-more m ks below) (omega arith))
            (λ ks e. new.0 ks row e refl) n.0.1,
      ),
      follow-rows head s columns see firm g (hauled kept (rid_of m) row given) t ps n.0.0,
    )
    hauled-rows g kept (EntryLook k key r ∷ ps) row given fresh a same n new =
        let keys : value_at row k.column ≡ key = value_is (value_at row k.column) key same in (
          (
            n.0.0,
            scanned-more head see k.table k.want (AllBefore k.column (key, r)) (Passed k.column (Some (key, r))) kept r row given
                (λ ks sees all before. entry-apart head see once k.table k.column key r row keys sees ks all before)
                (λ ks before. passed-behind k.column key r row ks keys before)
                (λ ks e. new.0 ks row e refl) n.0.1,
          ),
          follow-rows head s columns see firm g (hauled kept r row given) k.table ps n.0.0,
        )
    hauled-rows g kept (x ∷ ps) row given fresh a key n new = absurd (cc)

    -- or behind one that is not
    pub past-rows : (g : Written) (kept : Haul) (ps : List Part) → Of g kept ps → Of g kept (past_look ps)
    past-rows g kept [] n = tt
    past-rows g kept (TableScan t want m ∷ ps) n =
        ((n.0.0, scanned-place head see t want (Below m) (Below (m + 1)) kept (below-more m) n.0.1), n.1)
    past-rows g kept (EntryLook k key r ∷ ps) n = (
      (
        n.0.0,
        scanned-place head see k.table k.want (AllBefore k.column (key, r)) (Passed k.column (Some (key, r))) kept
            (before-passed k.column (key, r)) n.0.1,
      ),
      n.1,
    )
    past-rows g kept (x ∷ ps) n = n

    names-follow : (such : Such) (kept : Haul) (t : TableId) (ps : List Part) → Follows head s columns t ps → NamesSuch such kept ps
    names-follow such kept t [] f = tt
    names-follow such kept t (Changes u ∷ ps) f = names-tail such kept ps f.1
    names-follow such kept t (x ∷ ps) f = names-tail such kept (x ∷ ps) f

    -- a row that is freed takes none of those that are kept, which are firm
    pub freed-rows : (g : Written) (kept : Haul) (ps : List Part) (shown : Option (List Value)) (fresh : Bool) → Of g kept ps → Shows kept ps shown
        → Of g kept ((if fresh then freeing ps else []) ++ past_look ps)
    freed-rows g kept ps shown false n new = past-rows g kept ps n
    freed-rows g kept [] shown true n new = tt
    freed-rows g kept (TableScan t want m ∷ ps) shown true n new = go (frees want)
      where
        on : Of g kept (TableScan t want (m + 1) ∷ ps)
        on = past-rows g kept (TableScan t want m ∷ ps) n

        go : (b : Bool) → Of g kept ((if b then Frees t (rid_of m) ∷ [] else []) ++ TableScan t want (m + 1) ∷ ps)
        go true = ((new.1, names-follow firm kept t ps n.0.0), on)
        go false = on
    freed-rows g kept (EntryLook k key r ∷ ps) shown true n new = go (frees k.want)
      where
        on : Of g kept (IndexScan k (Some (key, r)) ∷ ps)
        on = past-rows g kept (EntryLook k key r ∷ ps) n

        go : (b : Bool) → Of g kept ((if b then Frees k.table r ∷ [] else []) ++ IndexScan k (Some (key, r)) ∷ ps)
        go true = ((new.1, names-follow firm kept k.table ps n.0.0), on)
        go false = on
    freed-rows g kept (x ∷ ps) shown true n new = n

    -- an index scan comes to stand at an entry
    pub standing-rows : (g : Written) (kept : Haul) (key : Value) (r : Rid) (ps : List Part) → answers (due_by kept ps) (Told.At key r) ≡ true
        → Of g kept ps → Stands ps key r → Of g kept (standing_at key r ps)
    standing-rows g kept key r [] a n ok = tt
    standing-rows g kept key r (IndexScan k at ∷ ps) a n ok = (
      (n.0.0, scanned-place head see k.table k.want (Passed k.column at) (AllBefore k.column (key, r)) kept (λ ks passed. passed (key, r) ok) n.0.1),
      n.1,
    )
    standing-rows g kept key r (x ∷ ps) a n ok = absurd (cc)

  -- behind its scan a statement changes what it kept
  opened-rows : (g : Written) (p : Point) (t : TableId) (want : Want) (place : Place) (ps : List Part) → Follows head p.statement p.columns t ps
      → Scanned head see t want place p.kept → AllRows head p.statement p.columns see firm g p.kept ps
      → AllRows head p.statement p.columns see firm g p.kept (opened_out p ps)
  opened-rows g p t want place [] f k n = tt
  opened-rows g p t want place (Changes u ∷ ps) f k n =
      changes-rows head p.statement p.columns see firm g p.kept u (found_rows p.kept) ps f.2 f.1
      (subst (λ z. AllKept head see z (found_rows p.kept)) (sym f.0) (scanned-kept head see t want place p.kept k))
  opened-rows g p t want place (x ∷ ps) f k n = n

  -- the scan is over: behind the last slot, or past its range
  pub over-rows : (g : Written) (p : Point) (ps : List Part) → AllRows head p.statement p.columns see firm g p.kept ps
      → (answers (due_by p.kept ps) Told.EndOfTable ≡ true) ⊎ (answers (due_by p.kept ps) Told.Past ≡ true)
      → AllRows head p.statement p.columns see firm g p.kept (opened_out p (behind ps))
  over-rows g p [] n a = tt
  over-rows g p (TableScan t want m ∷ ps) n a = opened-rows g p t want (Below m) ps n.0.0 n.0.1 n.1
  over-rows g p (IndexScan k at ∷ ps) n a = opened-rows g p k.table k.want (Passed k.column at) ps n.0.0 n.0.1 n.1
  over-rows g p (EntryLook k key r ∷ ps) n a = opened-rows g p k.table k.want (AllBefore k.column (key, r)) ps n.0.0 n.0.1 n.1
  over-rows g p (x ∷ ps) n (inl a) = absurd (cc)
  over-rows g p (x ∷ ps) n (inr a) = absurd (cc)
