-- What each answer makes of the scan of an open statement.
use Rattle.std.proofs.Common.{◌≡◌, ◌<◌, ℕ, Bool, true, false, ◌&&◌, List, [], ◌∷◌, ◌++◌, refl, Option, Some, None}
use Rattle.std.proofs.lemmas.Bool.{lt-ltb}
use Rattle.std.specs.List.{list_all}
use Rattle.std.specs.Prelude.{Ok, Err, Result, nat_lt}
use Rattle.iso_agent.specs.Scans.{IsSoundPoint, is_walk, is_within}
use Rattle.iso_conduct.specs.Parts.{Part}
use Rattle.iso_conduct.specs.Parts.Part.{Asks, Changes, IndexScan, Leaves, Refuses, Replies, RowUpdate}
use Rattle.iso_conduct.specs.Points.{Point, backed_up, behind, change_part, change_parts, ending, fault_code, found_rows, opened_out, queued_up, standing_at, told_point}
use Rattle.iso_conduct.specs.declared.moves.Told.{Told}
use Rattle.iso_history.specs.Versions.{slots}
use Rattle.iso_history.specs.World.{World}
use Rattle.iso_predicate.specs.Assigned.{Fault, assigned}
use Rattle.iso_sql.specs.declared.statement.Statement.{Statement}
use Rattle.iso_sql.specs.declared.statement.Statement.TheVariants as st
use Rattle.iso_types.specs.declared.head.Column.{Column}
use Rattle.iso_types.specs.declared.head.Head.{Head}
use Rattle.iso_types.specs.declared.value.Rid.{Rid}
use Rattle.iso_types.specs.declared.value.TableId.{TableId}
use Rattle.iso_types.specs.declared.value.Value.{Value}

-- ---- lists of parts that pass a test

pub and-of : (a b : Bool) → (a && b) ≡ true → (a ≡ true) × (b ≡ true)
and-of true b e = (refl, e)
and-of false b e = absurd (cc)

pub and-to : (a b : Bool) → a ≡ true → b ≡ true → (a && b) ≡ true
and-to a b e f = rw (e, f) refl

module _ (q : Part → Bool) where
  pub all-append : (xs ys : List Part) → list_all q xs ≡ true → list_all q ys ≡ true → list_all q (xs ++ ys) ≡ true
  all-append [] ys e f = f
  all-append (x ∷ xs) ys e f = let k = and-of (q x) (list_all q xs) e in and-to (q x) (list_all q (xs ++ ys)) k.0 (all-append xs ys k.1 f)

  all-behind : (ps : List Part) → list_all q ps ≡ true → list_all q (behind ps) ≡ true
  all-behind [] e = e
  all-behind (x ∷ xs) e = (and-of (q x) (list_all q xs) e).1

module _ (head : Head) (w : World) (s : Statement) where
  abbrev Within : List Part → Type 0
  Within ps = list_all (is_within head w s) ps ≡ true

  rest-within : (x : Part) (ps : List Part) → Within (x ∷ ps) → Within ps
  rest-within x ps e = (and-of (is_within head w s x) (list_all (is_within head w s) ps) e).1

  queued-within : (ps : List Part) → Within ps → Within (queued_up ps)
  queued-within [] e = refl
  queued-within (Asks name mode ∷ ps) e = e
  queued-within (x ∷ ps) e = e

  ending-within : (ps : List Part) → Within ps → Within (ending ps)
  ending-within [] e = e
  ending-within (Leaves code reason ∷ ps) e = refl
  ending-within (Replies code changed ∷ ps) e = refl
  ending-within (x ∷ ps) e = ending-within ps (rest-within x ps e)

  backed-within : (mark : Option ℕ) (ps : List Part) → Within ps → Within (backed_up mark ps)
  backed-within None ps e = refl
  backed-within (Some floor) ps e = all-behind (is_within head w s) ps e

  -- the entry where a scan comes to stand is of a slot
  abbrev pub FindsSlot : Rid → List Part → Type 0
  FindsSlot r (IndexScan k at ∷ ps) = r.0 < slots w k.table
  FindsSlot r _ = Unit {0}

  standing-within : (key : Value) (r : Rid) (ps : List Part) → FindsSlot r ps → Within ps → Within (standing_at key r ps)
  standing-within key r (IndexScan k at ∷ ps) there e =
      let a = and-of (is_walk head s k) (list_all (is_within head w s) ps) e in
      and-to (is_walk head s k && nat_lt r.0 (slots w k.table)) (list_all (is_within head w s) ps)
      (and-to (is_walk head s k) (nat_lt r.0 (slots w k.table)) a.0 (lt-ltb r.0 (slots w k.table) there)) a.1
  standing-within key r ps there e = e

  change-within : (z : Statement) (columns : List Column) (t : TableId) (k : Rid × List Value) → is_within head w s (change_part z columns t k) ≡ true
  change-within (st.Update u sets cond level) columns t k = go (assigned columns sets.list k.1)
    where
      go : (x : Result (List Value) Fault) → is_within head w s (elim x [ Ok row ↦ RowUpdate t k.0 row | Err fault ↦ Refuses (fault_code fault) ]) ≡ true
      go (Ok row) = refl
      go (Err fault) = refl
  change-within z columns t k = refl

  changes-within : (z : Statement) (columns : List Column) (t : TableId) (ks : List (Rid × List Value)) → Within (change_parts z columns t ks)
  changes-within z columns t [] = refl
  changes-within z columns t (k ∷ ks) =
      and-to (is_within head w s (change_part z columns t k)) (list_all (is_within head w s) (change_parts z columns t ks)) (change-within z columns t k)
      (changes-within z columns t ks)

  out-within : (p : Point) (ps : List Part) → Within ps → Within (opened_out p ps)
  out-within p (Changes t ∷ ps) e =
      all-append (is_within head w s) (change_parts p.statement p.columns t (found_rows p.kept)) ps (changes-within p.statement p.columns t (found_rows p.kept)) e
  out-within p ps e = e

-- ---- answers

-- the answer of a look, or where a step of an index scan stands
abbrev pub tells_scan : Told → Bool
tells_scan (Told.Shown shown fresh) = true
tells_scan (Told.At key r) = true
tells_scan t = false

-- the point with other parts left
moved : (head : Head) (w : World) (p : Point) (ps : List Part) → list_all (is_within head w p.statement) ps ≡ true → IsSoundPoint head w p
    → IsSoundPoint head w (record p { left = ps })
moved head w p ps e g = record { sound = g.sound; columns = g.columns; within = e; few = g.few }

-- a step of an index scan that stands at an entry of a slot
pub found-sound : (head : Head) (w : World) (p : Point) (key : Value) (r : Rid) → FindsSlot head w p.statement r p.left → IsSoundPoint head w p
    → IsSoundPoint head w (told_point p (Told.At key r))
found-sound head w p key r there g = moved head w p _ (standing-within head w p.statement key r p.left there g.within) g

-- an answer of another step leaves the scan where it was
pub told-sound : (head : Head) (w : World) (p : Point) (t : Told) → tells_scan t ≡ false → IsSoundPoint head w p → IsSoundPoint head w (told_point p t)
told-sound head w p Told.Done off g = moved head w p _ (all-behind (is_within head w p.statement) p.left g.within) g
told-sound head w p Told.Granted off g = moved head w p _ (all-behind (is_within head w p.statement) p.left g.within) g
told-sound head w p Told.Queued off g = moved head w p _ (queued-within head w p.statement p.left g.within) g
told-sound head w p Told.Blocked off g = moved head w p _ g.within g
told-sound head w p Told.TimedOut off g = moved head w p _ refl g
told-sound head w p (Told.Ended reason) off g = moved head w p _ refl g
told-sound head w p (Told.Escalates t) off g = moved head w p _ g.within g
told-sound head w p (Told.Refused code) off g = moved head w p _ refl g
told-sound head w p (Told.Shown shown fresh) off g = absurd (cc)
told-sound head w p Told.EndOfTable off g =
    moved head w p _ (out-within head w p.statement p (behind p.left) (all-behind (is_within head w p.statement) p.left g.within)) g
told-sound head w p Told.Past off g =
    moved head w p _ (out-within head w p.statement p (behind p.left) (all-behind (is_within head w p.statement) p.left g.within)) g
told-sound head w p (Told.At key r) off g = absurd (cc)
told-sound head w p (Told.Undone true) off g = g
told-sound head w p (Told.Undone false) off g = moved head w p _ (ending-within head w p.statement p.left g.within) g
told-sound head w p (Told.Floor mark) off g = moved head w p _ (backed-within head w p.statement mark p.left g.within) g
