-- The entries behind a scan: where a point stands in a guarded walk, the Next that stood there, and the look behind it, are in this unit.
use Rattle.std.proofs.Common.{◌≡◌, ◌<◌, ◌+◌, ◌⊎◌, inl, inr, ℕ, Bool, true, false, List, [], ◌∷◌, ◌++◌, refl, ap, sym, ◌∙◌, subst, arith, Option, Some, None, Ok, Err, Result, if◌then◌else◌}
use Rattle.std.specs.Option.{option_map}
use Rattle.std.specs.Prelude.{Contains, slice_get}
use Rattle.iso_conduct.specs.Conduct.{has_left, opened, quiet, quiet_back, quiet_claim, quieted, ready, statement_at}
use Rattle.iso_conduct.specs.Parts.{Part, Walk, change_want, level_in, listed, new_row, scan, select_want}
use Rattle.iso_conduct.specs.Parts.Part.{Changes, EntryLook, Frees, IndexScan, Leaves, NewRow, Refuses, Replies, RowUpdate, TableScan}
use Rattle.iso_conduct.specs.Points.{Point, backed_up, behind, change_part, change_parts, due, ending, fault_code, found_rows, freeing, frees, looked_by, opened_out, past_look, queued_up, standing_at, start_point, told_all, told_point}
use Rattle.iso_conduct.specs.declared.moves.Move.{Move}
use Rattle.iso_conduct.specs.declared.moves.Told.{Told}
use Rattle.iso_history.proofs.phantoms.KeysAfter.{index-on-table}
use Rattle.iso_history.proofs.phantoms.Members.{in-first, in-rest}
use Rattle.iso_history.specs.Guards.{StandsAt, ends_unit}
use Rattle.iso_history.specs.Marks.{mark_of}
use Rattle.iso_history.specs.Phases.{phase}
use Rattle.iso_history.specs.Scans.{NoEnd, is_repeated}
use Rattle.iso_history.specs.World.{Setting, World}
use Rattle.iso_history.specs.Writes.{minus}
use Rattle.iso_history.specs.declared.entry.Act.TheVariants.{Look, Next}
use Rattle.iso_history.specs.declared.entry.Entry.{Entry}
use Rattle.iso_history.specs.declared.entry.Got.{Got}
use Rattle.iso_history.specs.declared.entry.Stand.TheVariants.{At}
use Rattle.iso_history.specs.declared.entry.Want.{Want}
use Rattle.iso_predicate.specs.Assigned.{Fault, assigned, has_null}
use Rattle.iso_predicate.specs.Plan.{bounds_in, first_path, path_by, plan_of}
use Rattle.iso_predicate.specs.declared.plans.Path.{Path}
use Rattle.iso_script.specs.declared.script.Line.{Line}
use Rattle.iso_sql.specs.Sound.{columns_of}
use Rattle.iso_sql.specs.declared.statement.Condition.{Condition}
use Rattle.iso_sql.specs.declared.statement.Statement.{Statement}
use Rattle.iso_sql.specs.declared.statement.Statement.TheVariants as st
use Rattle.iso_types.specs.Head.{indexes_of, table_of_index}
use Rattle.iso_types.specs.declared.desk.Phase.{Phase}
use Rattle.iso_types.specs.declared.head.Column.{Column}
use Rattle.iso_types.specs.declared.head.Head.{Head}
use Rattle.iso_types.specs.declared.head.Isolation.{Isolation}
use Rattle.iso_types.specs.declared.head.Range.{Range}
use Rattle.iso_types.specs.declared.value.Conn.{Conn}
use Rattle.iso_types.specs.declared.value.IndexId.{IndexId}
use Rattle.iso_types.specs.declared.value.Rid.{Rid}
use Rattle.iso_types.specs.declared.value.TableId.{TableId}
use Rattle.iso_types.specs.declared.value.Value.{Value}

-- a walk whose steps lock keys looks to repeat, and its index is its table's
abbrev pub IsWalk : Head → Walk → Type 0
IsWalk head k = (k.guarded ≡ true → is_repeated k.want ≡ true) × (table_of_index head k.index ≡ Some k.table)

-- before place n, in this unit, the guarded Next of the walk that stood at the pair
pub record Stood (es : List Entry) (c : Conn) (n : ℕ) (k : Walk) (p : Value × Rid) : Type 0 where
  pub next : ℕ
  pub at : Option (Value × Rid)
  pub first : next < n
  pub stands : StandsAt es next c (Next k.index k.range at true (At p.0 p.1))
  pub one_unit : NoEnd c es next n

-- and behind it the granted look at its slot
pub record Seen (es : List Entry) (c : Conn) (n : ℕ) (k : Walk) (p : Value × Rid) : Type 0 where
  pub next : ℕ
  pub look : ℕ
  pub at : Option (Value × Rid)
  pub next_first : next < look
  pub look_first : look < n
  pub next_stands : StandsAt es next c (Next k.index k.range at true (At p.0 p.1))
  pub look_stands : StandsAt es look c (Look k.table p.1 k.want Got.Granted)
  pub one_unit : NoEnd c es next n

-- one more entry, which does not end the unit
pub no_end-more : (c : Conn) (es : List Entry) (m n : ℕ) (e : Entry) → slice_get es n ≡ Some e → ends_unit c e ≡ false → NoEnd c es m n → NoEnd c es m (n + 1)
no_end-more c es m n e here goes h x f le lt at = go (cases x n lt)
  where
    cases : (a b : ℕ) → a < b + 1 → (a < b) ⊎ (a ≡ b)
    cases a b l = grind arith

    same : Some e ≡ Some f → e ≡ f
    same q = cc

    go : (x < n) ⊎ (x ≡ n) → ends_unit c f ≡ false
    go (inl l) = h x f le l at
    go (inr q) =
        let s : e ≡ f = same (sym here ∙ ap (slice_get es) (sym q) ∙ at) in
        subst (λ (z : Entry). ends_unit c z ≡ false) s goes

pub no_end-none : (c : Conn) (es : List Entry) (n : ℕ) → NoEnd c es n n
no_end-none c es n x f le lt at = absurd (omega (arith, le, lt))

module _ (head : Head) (es : List Entry) (c : Conn) where
  -- what stands before place n for a part
  abbrev pub Good : ℕ → Part → Type 0
  Good n (IndexScan k None) = IsWalk head k
  Good n (IndexScan k (Some p)) = IsWalk head k × (k.guarded ≡ true → Seen es c n k p)
  Good n (EntryLook k key r) = IsWalk head k × (k.guarded ≡ true → Stood es c n k (key, r))
  Good n _ = Unit {0}

  abbrev pub AllGood : ℕ → List Part → Type 0
  AllGood n [] = Unit {0}
  AllGood n (x ∷ xs) = Good n x × AllGood n xs

  pub walk-of : (n : ℕ) (k : Walk) (at : Option (Value × Rid)) → Good n (IndexScan k at) → IsWalk head k
  walk-of n k None h = h
  walk-of n k (Some p) h = h.0

  -- one more entry, which does not end the unit
  module _ (n : ℕ) (e : Entry) (here : slice_get es n ≡ Some e) (goes : ends_unit c e ≡ false) where
    stood-more : (k : Walk) (p : Value × Rid) → Stood es c n k p → Stood es c (n + 1) k p
    stood-more k p s = let l = s.first in record {
      next = s.next;
      at = s.at;
      first = omega (arith, l);
      stands = s.stands;
      one_unit = no_end-more c es s.next n e here goes s.one_unit;
    }

    seen-more : (k : Walk) (p : Value × Rid) → Seen es c n k p → Seen es c (n + 1) k p
    seen-more k p s = let l = s.look_first in record {
      next = s.next;
      look = s.look;
      at = s.at;
      next_first = s.next_first;
      look_first = omega (arith, l);
      next_stands = s.next_stands;
      look_stands = s.look_stands;
      one_unit = no_end-more c es s.next n e here goes s.one_unit;
    }

    pub good-more : (ps : List Part) → AllGood n ps → AllGood (n + 1) ps
    good-more [] h = tt
    good-more (IndexScan k None ∷ ps) h = (h.0, good-more ps h.1)
    good-more (IndexScan k (Some p) ∷ ps) h = ((h.0.0, λ g. seen-more k p (h.0.1 g)), good-more ps h.1)
    good-more (EntryLook k key r ∷ ps) h = ((h.0.0, λ g. stood-more k (key, r) (h.0.1 g)), good-more ps h.1)
    good-more (x ∷ ps) h = (tt, good-more ps h.1)

  -- ---- parts after an answer

  good-append : (n : ℕ) (xs ys : List Part) → AllGood n xs → AllGood n ys → AllGood n (xs ++ ys)
  good-append n [] ys h k = k
  good-append n (x ∷ xs) ys h k = (h.0, good-append n xs ys h.1 k)

  good-behind : (n : ℕ) (ps : List Part) → AllGood n ps → AllGood n (behind ps)
  good-behind n [] h = tt
  good-behind n (x ∷ ps) h = h.1

  good-queued : (n : ℕ) (ps : List Part) → AllGood n ps → AllGood n (queued_up ps)
  good-queued n [] h = (tt, tt)
  good-queued n (Part.Asks name m ∷ ps) h = (tt, h.1)
  good-queued n (x ∷ ps) h = (tt, h)

  good-ending : (n : ℕ) (ps : List Part) → AllGood n (ending ps)
  good-ending n [] = tt
  good-ending n (Leaves code reason ∷ ps) = (tt, tt)
  good-ending n (Replies code changed ∷ ps) = (tt, tt)
  good-ending n (x ∷ ps) = good-ending n ps

  good-backed : (n : ℕ) (o : Option ℕ) (ps : List Part) → AllGood n ps → AllGood n (backed_up o ps)
  good-backed n (Some floor) ps h = (tt, good-behind n ps h)
  good-backed n None ps h = (tt, tt)

  -- what has to stand before place n where an index scan comes to stand at a pair, and where it has looked
  abbrev pub AtOk : ℕ → Value → Rid → List Part → Type 0
  AtOk n key r ps = (k : Walk) (at : Option (Value × Rid)) (rest : List Part) → ps ≡ IndexScan k at ∷ rest → k.guarded ≡ true → Stood es c n k (key, r)

  abbrev pub LookOk : ℕ → List Part → Type 0
  LookOk n ps = (k : Walk) (key : Value) (r : Rid) (rest : List Part) → ps ≡ EntryLook k key r ∷ rest → k.guarded ≡ true → Seen es c n k (key, r)

  abbrev pub ToldOk : ℕ → List Part → Told → Type 0
  ToldOk n ps (Told.At key r) = AtOk n key r ps
  ToldOk n ps (Told.Shown shown fresh) = LookOk n ps
  ToldOk n ps _ = Unit {0}

  good-standing : (n : ℕ) (key : Value) (r : Rid) (ps : List Part) → AllGood n ps → AtOk n key r ps → AllGood n (standing_at key r ps)
  good-standing n key r [] h ok = tt
  good-standing n key r (IndexScan k at ∷ ps) h ok = ((walk-of n k at h.0, λ g. ok k at ps refl g), h.1)
  good-standing n key r (x ∷ ps) h ok = h

  good-past_look : (n : ℕ) (ps : List Part) → AllGood n ps → LookOk n ps → AllGood n (past_look ps)
  good-past_look n [] h ok = tt
  good-past_look n (TableScan t want r ∷ ps) h ok = (tt, h.1)
  good-past_look n (EntryLook k key r ∷ ps) h ok = ((h.0.0, λ g. ok k key r ps refl g), h.1)
  good-past_look n (x ∷ ps) h ok = h

  good-freeing : (n : ℕ) (ps : List Part) → AllGood n (freeing ps)
  good-freeing n [] = tt
  good-freeing n (TableScan t want r ∷ ps) = go (frees want)
    where
      go : (b : Bool) → AllGood n (if b then Frees t (record { 0 = r }) ∷ [] else [])
      go true = (tt, tt)
      go false = tt
  good-freeing n (EntryLook k key r ∷ ps) = go (frees k.want)
    where
      go : (b : Bool) → AllGood n (if b then Frees k.table r ∷ [] else [])
      go true = (tt, tt)
      go false = tt
  good-freeing n (x ∷ ps) = tt

  good-looked : (n : ℕ) (p : Point) (shown : Option (List Value)) (fresh keeps : Bool) → AllGood n p.left → LookOk n p.left
      → AllGood n (looked_by p shown fresh keeps).left
  good-looked n p shown fresh true h ok = good-past_look n p.left h ok
  good-looked n p shown true false h ok = good-append n (freeing p.left) (past_look p.left) (good-freeing n p.left) (good-past_look n p.left h ok)
  good-looked n p shown false false h ok = good-past_look n p.left h ok

  good-assigned : (n : ℕ) (t : TableId) (r : Rid) (o : Result (List Value) Fault)
      → Good n (elim o [ Ok row ↦ RowUpdate t r row | Err fault ↦ Refuses (fault_code fault) ])
  good-assigned n t r (Ok row) = tt
  good-assigned n t r (Err fault) = tt

  good-change : (n : ℕ) (s : Statement) (columns : List Column) (t : TableId) (k : Rid × List Value) → Good n (change_part s columns t k)
  good-change n (st.Update u sets cond level) columns t k = good-assigned n t k.0 (assigned columns sets.list k.1)
  good-change n s columns t k = tt

  good-changes : (n : ℕ) (s : Statement) (columns : List Column) (t : TableId) (ks : List (Rid × List Value)) → AllGood n (change_parts s columns t ks)
  good-changes n s columns t [] = tt
  good-changes n s columns t (k ∷ ks) = (tt, (good-change n s columns t k, good-changes n s columns t ks))

  good-opened : (n : ℕ) (p : Point) (ps : List Part) → AllGood n ps → AllGood n (opened_out p ps)
  good-opened n p [] h = tt
  good-opened n p (Changes t ∷ ps) h =
      good-append n (change_parts p.statement p.columns t (found_rows p.kept)) ps (good-changes n p.statement p.columns t (found_rows p.kept)) h.1
  good-opened n p (x ∷ ps) h = h

  good-told : (n : ℕ) (p : Point) (t : Told) → AllGood n p.left → ToldOk n p.left t → AllGood n (told_point p t).left
  good-told n p Told.Done h ok = good-behind n p.left h
  good-told n p Told.Granted h ok = good-behind n p.left h
  good-told n p Told.Queued h ok = good-queued n p.left h
  good-told n p Told.Blocked h ok = (tt, h)
  good-told n p Told.TimedOut h ok = (tt, (tt, tt))
  good-told n p (Told.Ended reason) h ok = (tt, (tt, tt))
  good-told n p (Told.Escalates t) h ok = (tt, h)
  good-told n p (Told.Refused code) h ok = (tt, (tt, tt))
  good-told n p (Told.Shown shown fresh) h ok = good-looked n p shown fresh _ h ok
  good-told n p Told.EndOfTable h ok = good-opened n p (behind p.left) (good-behind n p.left h)
  good-told n p Told.Past h ok = good-opened n p (behind p.left) (good-behind n p.left h)
  good-told n p (Told.At key r) h ok = good-standing n key r p.left h ok
  good-told n p (Told.Undone true) h ok = h
  good-told n p (Told.Undone false) h ok = good-ending n p.left
  good-told n p (Told.Floor mark) h ok = good-backed n mark p.left h

  -- several answers
  abbrev pub HeardOk : ℕ → Point → List Told → Type 0
  HeardOk n p [] = Unit {0}
  HeardOk n p (t ∷ ts) = ToldOk n p.left t × HeardOk n (told_point p t) ts

  pub good-told_all : (n : ℕ) (p : Point) (ts : List Told) → AllGood n p.left → HeardOk n p ts → AllGood n (told_all p ts).left
  good-told_all n p [] h ok = h
  good-told_all n p (t ∷ ts) h ok = good-told_all n (told_point p t) ts (good-told n p t h ok.0) ok.1

  -- ---- the start of a statement

  abbrev PathOk : TableId → Path → Type 0
  PathOk t Path.Table = Unit {0}
  PathOk t (Path.Index i range) = table_of_index head i ≡ Some t

  path-by : (t : TableId) (i : IndexId) (o : Option Range) (after : Path) → table_of_index head i ≡ Some t → PathOk t after → PathOk t (path_by i o after)
  path-by t i None after h k = k
  path-by t i (Some range) after h k = h

  path-first : (t : TableId) (cond : Condition) (is : List IndexId) → ((i : IndexId) → Contains is i → table_of_index head i ≡ Some t)
      → PathOk t (first_path head cond is)
  path-first t cond [] h = tt
  path-first t cond (i ∷ is) h = path-by t i (bounds_in head cond i) (first_path head cond is) (h i (in-first i is))
      (path-first t cond is (λ j k. h j (in-rest i j is k)))

  path-plan : (t : TableId) (cond : Condition) → PathOk t (plan_of head t cond)
  path-plan t cond = path-first t cond (indexes_of head t) (λ i k. index-on-table head t i k)

  good-scan : (n : ℕ) (t : TableId) (want : Want) (level : Isolation) (path : Path) → (level ≡ Isolation.Rr → is_repeated want ≡ true) → PathOk t path
      → Good n (scan head t want level path)
  good-scan n t want level Path.Table rep ok = tt
  good-scan n t want Isolation.Rr (Path.Index i range) rep ok = ((λ g. rep refl), ok)
  good-scan n t want Isolation.Ur (Path.Index i range) rep ok = ((λ g. absurd (cc)), ok)
  good-scan n t want Isolation.Cs (Path.Index i range) rep ok = ((λ g. absurd (cc)), ok)
  good-scan n t want Isolation.Rs (Path.Index i range) rep ok = ((λ g. absurd (cc)), ok)

  rep-select : (b : Bool) (level : Isolation) → level ≡ Isolation.Rr → is_repeated (select_want b level) ≡ true
  rep-select b Isolation.Rr e = refl
  rep-select b Isolation.Ur e = cc
  rep-select b Isolation.Cs e = cc
  rep-select b Isolation.Rs e = cc

  rep-change : (level : Isolation) → level ≡ Isolation.Rr → is_repeated (change_want level) ≡ true
  rep-change Isolation.Rr e = refl
  rep-change Isolation.Ur e = cc
  rep-change Isolation.Cs e = cc
  rep-change Isolation.Rs e = cc

  good-new : (n : ℕ) (t : TableId) (row : List Value) → Good n (new_row head t row)
  good-new n t row = go (has_null (columns_of head t) row)
    where
      go : (b : Bool) → Good n (if b then Refuses (minus 407) else NewRow t row)
      go true = tt
      go false = tt

  good-listed : (n : ℕ) (d : Conn) (set : Setting) (s : Statement) → AllGood n (listed head d set s)
  good-listed n d set (st.Select t items cond level) = (
    tt,
    (
      good-scan n t (select_want head.config.cur_commit (level_in set level)) (level_in set level) (plan_of head t cond)
          (rep-select head.config.cur_commit (level_in set level)) (path-plan t cond),
      (tt, tt),
    ),
  )
  good-listed n d set (st.Update t sets cond level) = (
    tt,
    (
      good-scan n t (change_want (level_in set level)) (level_in set level) (plan_of head t cond) (rep-change (level_in set level)) (path-plan t cond),
      (tt, (tt, tt)),
    ),
  )
  good-listed n d set (st.Delete t cond level) = (
    tt,
    (
      good-scan n t (change_want (level_in set level)) (level_in set level) (plan_of head t cond) (rep-change (level_in set level)) (path-plan t cond),
      (tt, (tt, tt)),
    ),
  )
  good-listed n d set (st.Insert t row) = (tt, (good-new n t row, (tt, tt)))
  good-listed n d set (st.LockTable t mode) = (tt, (tt, tt))
  good-listed n d set (st.Savepoint name) = (tt, (tt, tt))
  good-listed n d set (st.RollbackTo name) = (tt, (tt, tt))
  good-listed n d set st.Rollback = (tt, (tt, tt))
  good-listed n d set st.Commit = (tt, tt)
  good-listed n d set (st.SetIsolation level) = (tt, (tt, tt))
  good-listed n d set (st.SetWait may_wait) = (tt, (tt, tt))

  -- ---- the point from which an entry is made

  abbrev pub PointGood : ℕ → Option Point → Type 0
  PointGood n None = Unit {0}
  PointGood n (Some p) = AllGood n p.left

  -- what is told without an entry
  abbrev QuietOk : ℕ → List Part → Option Told → Type 0
  QuietOk n ps None = Unit {0}
  QuietOk n ps (Some t) = ToldOk n ps t

  quiet_claim-ok : (n : ℕ) (ps : List Part) (ph : Phase) (doom : Option ℕ) → QuietOk n ps (quiet_claim ph doom)
  quiet_claim-ok n ps Phase.Rolling None = tt
  quiet_claim-ok n ps Phase.Rolling (Some reason) = tt
  quiet_claim-ok n ps _ doom = tt

  quiet_back-ok : (n : ℕ) (ps : List Part) (o : Option ℕ) → QuietOk n ps (quiet_back o)
  quiet_back-ok n ps None = tt
  quiet_back-ok n ps (Some at) = tt

  quiet-ok : (n : ℕ) (ps : List Part) (w : World) (mv : Move) → QuietOk n ps (quiet w c mv)
  quiet-ok n ps w Move.Claim = quiet_claim-ok n ps (phase w c) (w.doom c)
  quiet-ok n ps w (Move.Undo floor) = go (has_left w c floor)
    where
      go : (b : Bool) → QuietOk n ps (if b then None else Some (Told.Undone false))
      go true = tt
      go false = tt
  quiet-ok n ps w (Move.Back name) = quiet_back-ok n ps (mark_of (w.marks c) name)
  quiet-ok n ps w _ = tt

  abbrev told_by : Point → Option Told → Point
  told_by p o = elim o [ None ↦ p | Some t ↦ told_point p t ]

  good-told_by : (n : ℕ) (p : Point) (o : Option Told) → AllGood n p.left → QuietOk n p.left o → AllGood n (told_by p o).left
  good-told_by n p None h ok = h
  good-told_by n p (Some t) h ok = good-told n p t h ok

  good-quieted : (n : ℕ) (w : World) (p : Point) → AllGood n p.left → AllGood n (quieted w c p).left
  good-quieted n w p h = good-told_by n p (quiet w c (due p)) h (quiet-ok n p.left w (due p))

  good-started : (n : ℕ) (set : Setting) (floor : ℕ) (o : Option Statement) → PointGood n (option_map (start_point head c set floor) o)
  good-started n set floor None = tt
  good-started n set floor (Some s) = good-listed n c set s

  good-begun : (n : ℕ) (lines : List Line) (w : World) (o : Option Point) → PointGood n o → PointGood n (opened head lines w c o)
  good-begun n lines w (Some p) h = h
  good-begun n lines w None h = good-started n (w.setting c) (w.floor c) (statement_at lines c (w.line c))

  pub good-mapped : (n m : ℕ) (f : Point → Point) → ((p : Point) → AllGood n p.left → AllGood m (f p).left) → (o : Option Point) → PointGood n o
      → PointGood m (option_map f o)
  good-mapped n m f step None h = tt
  good-mapped n m f step (Some p) h = step p h

  pub good-ready : (n : ℕ) (lines : List Line) (w : World) (o : Option Point) → PointGood n o → PointGood n (ready head lines w c o)
  good-ready n lines w o h = good-mapped n n (λ p. quieted w c (quieted w c p))
      (λ p k. good-quieted n w (quieted w c p) (good-quieted n w p k)) (opened head lines w c o) (good-begun n lines w o h)
