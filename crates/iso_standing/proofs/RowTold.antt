-- An answer leaves what the changes of a statement need of its rows.
use Rattle.std.proofs.Common.{◌≡◌, inl, inr, ℕ, Bool, true, false, List, [], ◌∷◌, refl, sym, subst, Option, Some, None}
use Rattle.std.proofs.lemmas.Bool.{and_parts}
use Rattle.iso_conduct.specs.Answers.{AreAnswers, answers}
use Rattle.iso_conduct.specs.Parts.{Part}
use Rattle.iso_conduct.specs.Parts.Part.{Asks, Backs, Leaves, Replies}
use Rattle.iso_conduct.specs.Points.{Haul, Point, backed_up, behind, due, due_by, ending, is_kept, looked_by, projected_by, queued_up, told_all, told_point}
use Rattle.iso_conduct.specs.declared.moves.Told.{Told}
use Rattle.iso_modes.specs.declared.Mode.{Mode}
use Rattle.iso_sql.specs.declared.statement.Statement.{Statement}
use Rattle.iso_standing.proofs.KeptRows.{Seen, Such}
use Rattle.iso_standing.proofs.RowLooks.{Shows, Stands, freed-rows, hauled-rows, over-rows, past-rows, standing-rows}
use Rattle.iso_standing.proofs.RowNeeds.{AllRows, BehindRow, Written, rows-more}
use Rattle.iso_types.specs.declared.head.Column.{Column}
use Rattle.iso_types.specs.declared.head.Head.{Head}
use Rattle.iso_types.specs.declared.value.Name.TheVariants.{Row}
use Rattle.iso_types.specs.declared.value.Rid.{Rid}
use Rattle.iso_types.specs.declared.value.TableId.{TableId}
use Rattle.iso_types.specs.declared.value.Value.{Value}

-- the first part asks for no row, or it is locked
abbrev pub RowAsked : Written → List Part → Type 0
RowAsked g ps = (t : TableId) (r : Rid) (m : Mode) (rest : List Part) → ps ≡ Asks (Row t r) m ∷ rest → g t r

module _ (head : Head) (see : Seen) (firm : Such) where
  module _ (s : Statement) (columns : List Column) where
    -- ---- parts after an answer

    had-behind : (g : Written) (x : Part) (ps : List Part) → RowAsked g (x ∷ ps) → (t : TableId) (r : Rid) → BehindRow head s columns g x t r → g t r
    had-behind g (Asks (Row u q) m) ps ok t r (inl e) = e
    had-behind g (Asks (Row u q) m) ps ok t r (inr e) =
        subst (λ z. g z r) (sym e.0) (subst (λ z. g u z) (sym e.1) (ok u q m ps refl))
    had-behind g (Asks _ m) ps ok t r e = e
    had-behind g _ ps ok t r e = e

    pub behind-rows : (g : Written) (kept : Haul) (ps : List Part) → AllRows head s columns see firm g kept ps → RowAsked g ps
        → AllRows head s columns see firm g kept (behind ps)
    behind-rows g kept [] n ok = tt
    behind-rows g kept (x ∷ ps) n ok = rows-more head s columns see firm (BehindRow head s columns g x) g (had-behind g x ps ok) kept ps n.1

    queued-rows : (g : Written) (kept : Haul) (ps : List Part) → AllRows head s columns see firm g kept ps → RowAsked g ps
        → AllRows head s columns see firm g kept (queued_up ps)
    queued-rows g kept [] n ok = (tt, tt)
    queued-rows g kept (Asks name m ∷ ps) n ok = (tt, behind-rows g kept (Asks name m ∷ ps) n ok)
    queued-rows g kept (x ∷ ps) n ok = (tt, n)

    ending-rows : (g : Written) (kept : Haul) (ps : List Part) → AllRows head s columns see firm g kept (ending ps)
    ending-rows g kept [] = tt
    ending-rows g kept (Leaves code reason ∷ ps) = (tt, tt)
    ending-rows g kept (Replies code changed ∷ ps) = (tt, tt)
    ending-rows g kept (x ∷ ps) = ending-rows g kept ps

  -- ---- points

  -- what a point needs
  abbrev pub PointRows : Written → Point → Type 0
  PointRows g p = AllRows head p.statement p.columns see firm g p.kept p.left

  floor-rows : (g : Written) (p : Point) (mark : Option ℕ) (ps : List Part) → answers (due_by p.kept ps) (Told.Floor mark) ≡ true
      → AllRows head p.statement p.columns see firm g p.kept ps → AllRows head p.statement p.columns see firm g p.kept (backed_up mark ps)
  floor-rows g p None ps a n = (tt, tt)
  floor-rows g p (Some floor) [] a n = absurd (cc)
  floor-rows g p (Some floor) (Backs name ∷ ps) a n = (n.0, n.1)
  floor-rows g p (Some floor) (x ∷ ps) a n = absurd (cc)

  -- what an answer asks: a row that was asked for is locked, or will be; a row that is shown is seen; an entry is behind the place
  abbrev pub RowTold : Written → Point → Told → Type 0
  RowTold g p Told.Done = RowAsked g p.left
  RowTold g p Told.Granted = RowAsked g p.left
  RowTold g p Told.Queued = RowAsked g p.left
  RowTold g p (Told.Shown shown fresh) = Shows head see firm p.kept p.left shown
  RowTold g p (Told.At key r) = Stands p.left key r
  RowTold g p _ = Unit {0}

  -- several answers
  abbrev pub RowsTold : Written → Point → List Told → Type 0
  RowsTold g p [] = Unit {0}
  RowsTold g p (t ∷ ts) = RowTold g p t × RowsTold g (told_point p t) ts

  module _ (once : (t : TableId) (r : Rid) (a b : List Value) → see t r a → see t r b → a ≡ b) where
    shown-rows : (g : Written) (p : Point) (shown : Option (List Value)) (fresh : Bool) → answers (due p) (Told.Shown shown fresh) ≡ true → PointRows g p
        → Shows head see firm p.kept p.left shown → (keeps : Bool) → is_kept p shown ≡ keeps → PointRows g (looked_by p shown fresh keeps)
    shown-rows g p None fresh a n new true e = past-rows head see firm once p.statement p.columns g p.kept p.left n
    shown-rows g p (Some row) fresh a n new true e =
        hauled-rows head see firm once p.statement p.columns g p.kept p.left row (projected_by p.statement row) fresh a (and_parts _ _ e).0 n new
    shown-rows g p shown fresh a n new false e = freed-rows head see firm once p.statement p.columns g p.kept p.left shown fresh n new

    pub told-rows : (g : Written) (p : Point) (t : Told) → answers (due p) t ≡ true → PointRows g p → RowTold g p t → PointRows g (told_point p t)
    told-rows g p Told.Done a n ok = behind-rows p.statement p.columns g p.kept p.left n ok
    told-rows g p Told.Granted a n ok = behind-rows p.statement p.columns g p.kept p.left n ok
    told-rows g p Told.Queued a n ok = queued-rows p.statement p.columns g p.kept p.left n ok
    told-rows g p Told.Blocked a n ok = (tt, n)
    told-rows g p Told.TimedOut a n ok = (refl, (tt, tt))
    told-rows g p (Told.Ended reason) a n ok = (refl, (tt, tt))
    told-rows g p (Told.Escalates t) a n ok = (tt, n)
    told-rows g p (Told.Refused code) a n ok = (refl, (tt, tt))
    told-rows g p (Told.Shown shown fresh) a n ok = shown-rows g p shown fresh a n ok (is_kept p shown) refl
    told-rows g p Told.EndOfTable a n ok = over-rows head see firm g p p.left n (inl a)
    told-rows g p Told.Past a n ok = over-rows head see firm g p p.left n (inr a)
    told-rows g p (Told.At key r) a n ok = standing-rows head see firm once p.statement p.columns g p.kept key r p.left a n ok
    told-rows g p (Told.Undone true) a n ok = n
    told-rows g p (Told.Undone false) a n ok = ending-rows p.statement p.columns g p.kept p.left
    told-rows g p (Told.Floor mark) a n ok = floor-rows g p mark p.left a n

    pub told_all-rows : (g : Written) (p : Point) (ts : List Told) → AreAnswers p ts → PointRows g p → RowsTold g p ts → PointRows g (told_all p ts)
    told_all-rows g p [] a n ok = n
    told_all-rows g p (t ∷ ts) a n ok = told_all-rows g (told_point p t) ts a.1 (told-rows g p t a.0 n ok.0) ok.1
