-- The rows that an UPDATE or DELETE changes: where their locks and changes are due, they are there, and may be changed.
use Rattle.std.proofs.Common.{◌≡◌, ◌⊎◌, inl, inr, Bool, true, false, ◌||◌, List, [], ◌∷◌, refl, sym, ap, ◌∙◌, subst, Some, Option}
use Rattle.std.proofs.lemmas.Bool.{lt-ltb}
use Rattle.std.specs.Prelude.{is_some}
use Rattle.iso_conduct.specs.Conduct.{Conduct, point, ready}
use Rattle.iso_conduct.specs.Parts.{Part}
use Rattle.iso_conduct.specs.Parts.Part.{Asks, RowDelete, RowUpdate}
use Rattle.iso_conduct.specs.Points.{Haul, Point, due, due_by, row_by, row_due}
use Rattle.iso_conduct.specs.declared.moves.Move.{Move}
use Rattle.iso_history.proofs.pending.WritesAwaits.{keeps-held}
use Rattle.iso_history.proofs.whole.Journal.{first-fitted}
use Rattle.iso_history.proofs.whole.Sound.{sound-world}
use Rattle.iso_history.specs.After.{world}
use Rattle.iso_history.specs.Facts.{IsSound, has_write_lock, keeps_mode}
use Rattle.iso_history.specs.Legal.{Ground}
use Rattle.iso_history.specs.Phases.{phase}
use Rattle.iso_history.specs.Requests.{is_there}
use Rattle.iso_history.specs.Versions.{slots, view}
use Rattle.iso_history.specs.World.{World}
use Rattle.iso_history.specs.declared.entry.Entry.{Entry}
use Rattle.iso_modes.specs.declared.Mode.{Mode}
use Rattle.iso_modes.specs.declared.Mode.TheVariants.{X}
use Rattle.iso_queue.specs.Locks.{holds_at_least, is_covered}
use Rattle.iso_script.specs.Sound.{IsSound as IsSoundScript}
use Rattle.iso_script.specs.declared.script.Script.{Script}
use Rattle.iso_sql.specs.declared.statement.Statement.{Statement}
use Rattle.iso_standing.proofs.RowNeeds.{AllRows}
use Rattle.iso_standing.proofs.RowTold.{PointRows}
use Rattle.iso_standing.proofs.RowsFirm.{Firm}
use Rattle.iso_standing.proofs.RowsHold.{RowsAt, rows-hold, rows-ready}
use Rattle.iso_standing.proofs.RowsLocked.{LocksRow, running-locks}
use Rattle.iso_standing.proofs.RowsSeen.{Sees, seen-there, seen-view}
use Rattle.iso_types.specs.Head.{row_fits}
use Rattle.iso_types.specs.declared.desk.Phase.TheVariants.{Running}
use Rattle.iso_types.specs.declared.head.Column.{Column}
use Rattle.iso_types.specs.declared.head.Head.{Head}
use Rattle.iso_types.specs.declared.value.Conn.{Conn}
use Rattle.iso_types.specs.declared.value.Name.TheVariants.{Row}
use Rattle.iso_types.specs.declared.value.Rid.{Rid}
use Rattle.iso_types.specs.declared.value.TableId.{TableId}
use Rattle.iso_types.specs.declared.value.Value.{Value}

-- ---- at a point

-- the connection may write the row, and sees one there
abbrev pub Changes : Head → World → Conn → TableId → Rid → Type 0
Changes head w c t r = ((is_covered head w.holds c (Row t r) X || holds_at_least w.holds c (Row t r) X) ≡ true) × (is_some (view w c t r) ≡ true)

module _ (head : Head) (w : World) (s : IsSound head w) (c : Conn) (st : Statement) (columns : List Column) (kept : Haul) where
  -- what the parts need, in this world
  abbrev RowsOf : List Part → Type 0
  RowsOf ps = AllRows head st columns (Sees w c) (Firm w c) (LocksRow head w c) kept ps

  -- a row is asked for in X, and is there
  asked-there : (t : TableId) (r : Rid) (m : Mode) (ps : List Part) → due_by kept ps ≡ Move.Lock (Row t r) m → RowsOf ps
      → (m ≡ X) × (is_there head w (Row t r) ≡ true)
  asked-there t r m [] e n = cc
  asked-there t r m (Asks (Row u q) k ∷ ps) e n =
      let tables : u ≡ t = cc in
      let rows : q ≡ r = cc in
      let modes : k ≡ m = cc in (
        sym modes ∙ n.0.0,
        subst (λ z. is_there head w (Row z r) ≡ true) tables (subst (λ z. is_there head w (Row u z) ≡ true) rows
            (lt-ltb q.0 (slots w u) (seen-there head w s c u q n.0.1 n.0.2))),
      )
  asked-there t r m (x ∷ ps) e n = cc

  may-write : (t : TableId) (r : Rid) → has_write_lock head w.holds c t r ≡ true
      → (is_covered head w.holds c (Row t r) X || holds_at_least w.holds c (Row t r) X) ≡ true
  may-write t r e = go (is_covered head w.holds c (Row t r) X) e
    where
      go : (b : Bool) → (b || keeps_mode w.holds c (Row t r) X) ≡ true → (b || holds_at_least w.holds c (Row t r) X) ≡ true
      go true k = refl
      go false k = keeps-held w.holds c (Row t r) X k

  changed-so : phase w c ≡ Running → (t : TableId) (r : Rid) → LocksRow head w c t r → (old : List Value) → Sees w c t r old → Changes head w c t r
  changed-so runs t r locks old sees =
      (may-write t r (running-locks head w c runs t r locks), ap (λ (o : Option (List Value)). is_some o) (seen-view head w s c t r old sees))

  updated-so : phase w c ≡ Running → (t : TableId) (r : Rid) (ps : List Part) → due_by kept ps ≡ Move.Update t r → RowsOf ps → Changes head w c t r
  updated-so runs t r [] e n = cc
  updated-so runs t r (RowUpdate u q row ∷ ps) e n =
      let tables : u ≡ t = cc in
      let rows : q ≡ r = cc in
      subst (λ z. Changes head w c z r) tables (subst (λ z. Changes head w c u z) rows (changed-so runs u q n.0.0 n.0.1.0 n.0.1.1))
  updated-so runs t r (x ∷ ps) e n = cc

  updated-fits : (t : TableId) (r : Rid) (ps : List Part) → due_by kept ps ≡ Move.Update t r → RowsOf ps → row_fits head t (row_by ps) ≡ true
  updated-fits t r [] e n = cc
  updated-fits t r (RowUpdate u q row ∷ ps) e n = let tables : u ≡ t = cc in subst (λ z. row_fits head z row ≡ true) tables n.0.2
  updated-fits t r (x ∷ ps) e n = cc

  deleted-so : phase w c ≡ Running → (t : TableId) (r : Rid) (ps : List Part) → due_by kept ps ≡ Move.Delete t r → RowsOf ps → Changes head w c t r
  deleted-so runs t r [] e n = cc
  deleted-so runs t r (RowDelete u q ∷ ps) e n =
      let tables : u ≡ t = cc in
      let rows : q ≡ r = cc in
      subst (λ z. Changes head w c z r) tables (subst (λ z. Changes head w c u z) rows (changed-so runs u q n.0.0 n.0.1.0 n.0.1.1))
  deleted-so runs t r (x ∷ ps) e n = cc

-- ---- at the ready point of a legal history

module _ (script : Script) (es : List Entry) (c : Conn) (p : Point) (sound : IsSoundScript script)
    (ground : Ground script.head es) (conduct : Conduct script.head script.lines es c)
    (at : ready script.head script.lines (world script.head es) c (point script.head script.lines es c) ≡ Some p) where
  -- what the changes of the statement need of its rows
  pub rows-at : PointRows script.head (Sees (world script.head es) c) (Firm (world script.head es) c) (LocksRow script.head (world script.head es) c) p
  rows-at = subst (RowsAt script.head script.lines c (world script.head es)) at
      (rows-ready script.head script.lines c (world script.head es) (point script.head script.lines es c)
      (rows-hold script.head script.lines c es (first-fitted script.head sound.head.rows) ground conduct))

  sound-now : IsSound script.head (world script.head es)
  sound-now = sound-world script.head es ground

  -- a row that is to be locked for its change is there
  pub row-there-at : (t : TableId) (r : Rid) (m : Mode) → due p ≡ Move.Lock (Row t r) m → is_there script.head (world script.head es) (Row t r) ≡ true
  row-there-at t r m e = (asked-there script.head (world script.head es) sound-now c p.statement p.columns p.kept t r m p.left e rows-at).1

  -- a row that is to be updated or deleted may be changed
  pub change-at : phase (world script.head es) c ≡ Running → (t : TableId) (r : Rid) → (due p ≡ Move.Update t r) ⊎ (due p ≡ Move.Delete t r)
      → Changes script.head (world script.head es) c t r
  change-at runs t r (inl e) = updated-so script.head (world script.head es) sound-now c p.statement p.columns p.kept runs t r p.left e rows-at
  change-at runs t r (inr e) = deleted-so script.head (world script.head es) sound-now c p.statement p.columns p.kept runs t r p.left e rows-at

  -- what an update writes fits its table
  pub update-fits-at : (t : TableId) (r : Rid) → due p ≡ Move.Update t r → row_fits script.head t (row_due p) ≡ true
  update-fits-at t r e = updated-fits script.head (world script.head es) sound-now c p.statement p.columns p.kept t r p.left e rows-at
