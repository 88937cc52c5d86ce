-- How the conduct of a literal history is put together, entry by entry: conditions do not compute, so the path of a statement
-- and what becomes of a look come in by equations.
use Rattle.std.proofs.Common.{◌≡◌, ℕ, Bool, true, false, List, [], ◌∷◌, refl, sym, ap, ◌∙◌, subst, Option, Some, None, IsTrue}
use Rattle.std.specs.Option.{option_map}
use Rattle.iso_conduct.specs.Conduct.{ConductFrom, Does, ends, IsNext, MayIn, Rolls, is_by, moved, moved_by, moved_in, opened, point_after, quieted, ready}
use Rattle.iso_conduct.specs.Parts.{Part}
use Rattle.iso_conduct.specs.Points.{Point, first_haul, looked_by, updated_columns}
use Rattle.iso_history.specs.After.{after}
use Rattle.iso_history.specs.Legal.{is_fresh_on}
use Rattle.iso_history.specs.Looks.{shown}
use Rattle.iso_history.specs.Makers.{by_agent}
use Rattle.iso_history.specs.Phases.{phase}
use Rattle.iso_history.specs.World.{World}
use Rattle.iso_history.specs.declared.entry.Act.{Act}
use Rattle.iso_history.specs.declared.entry.Entry.{Entry}
use Rattle.iso_history.specs.declared.entry.Got.{Got}
use Rattle.iso_history.specs.declared.entry.Want.{Want}
use Rattle.iso_predicate.specs.Plan.{bounds_at, bounds_of, common_of, range_by, range_of, inclusive}
use Rattle.iso_predicate.specs.Truth.{between, both, compared, either, known, negated, truth, truth_at, value_at}
use Rattle.iso_predicate.specs.declared.conditions.Truth.{Truth}
use Rattle.iso_predicate.specs.declared.conditions.Truth.TheVariants.{True}
use Rattle.iso_script.specs.declared.script.Line.{Line}
use Rattle.iso_sql.specs.declared.statement.Condition.{Condition, fold-roll-Condition}
use Rattle.iso_sql.specs.declared.statement.Condition.TheOpen.{Condition-F}
use Rattle.iso_sql.specs.declared.statement.Condition.TheVariants as c
use Rattle.iso_sql.specs.declared.statement.Op.{Op}
use Rattle.iso_sql.specs.declared.statement.Statement.{Statement}
use Rattle.iso_types.specs.Head.{is_null}
use Rattle.iso_types.specs.declared.desk.Phase.{Phase}
use Rattle.iso_types.specs.declared.desk.Phase.TheVariants.{Closing, Idle, Rolling, Running}
use Rattle.iso_types.specs.declared.head.Head.{Head}
use Rattle.iso_types.specs.declared.head.Range.{Range}
use Rattle.iso_types.specs.declared.value.Conn.{Conn}
use Rattle.iso_types.specs.declared.value.Name.TheVariants.{Row}
use Rattle.iso_types.specs.declared.value.Rid.{Rid}
use Rattle.iso_types.specs.declared.value.TableId.{TableId}
use Rattle.iso_types.specs.declared.value.Value.{Value}

-- ---- conditions, level by level

module _ (row : List Value) where
  pub always-truth : truth row c.Always ≡ True
  unfolding Rattle.iso_sql.specs.declared.statement.Condition.TheViews.roll-Condition denote.Hole.Carrier.roll
  always-truth = fold-roll-Condition Truth (truth_at row) Condition-F.Always

  pub compare-truth : (k : ℕ) (op : Op) (v : Value) → truth row (c.Compare k op v) ≡ compared op (value_at row k) v
  unfolding Rattle.iso_sql.specs.declared.statement.Condition.TheViews.roll-Condition denote.Hole.Carrier.roll
  compare-truth k op v = fold-roll-Condition Truth (truth_at row) (Condition-F.Compare k op v)

  pub between-truth : (k : ℕ) (low high : Value) → truth row (c.Between k low high) ≡ between (value_at row k) low high
  unfolding Rattle.iso_sql.specs.declared.statement.Condition.TheViews.roll-Condition denote.Hole.Carrier.roll
  between-truth k low high = fold-roll-Condition Truth (truth_at row) (Condition-F.Between k low high)

  pub null-truth : (k : ℕ) → truth row (c.IsNull k) ≡ known (is_null (value_at row k))
  unfolding Rattle.iso_sql.specs.declared.statement.Condition.TheViews.roll-Condition denote.Hole.Carrier.roll
  null-truth k = fold-roll-Condition Truth (truth_at row) (Condition-F.IsNull k)

  not-truth : (a : Condition) → truth row (c.Not a) ≡ negated (truth row a)
  unfolding Rattle.iso_sql.specs.declared.statement.Condition.TheViews.roll-Condition denote.Hole.Carrier.roll
  not-truth a = fold-roll-Condition Truth (truth_at row) (Condition-F.Not a)

  and-truth : (a b : Condition) → truth row (c.And a b) ≡ both (truth row a) (truth row b)
  unfolding Rattle.iso_sql.specs.declared.statement.Condition.TheViews.roll-Condition denote.Hole.Carrier.roll
  and-truth a b = fold-roll-Condition Truth (truth_at row) (Condition-F.And a b)

  or-truth : (a b : Condition) → truth row (c.Or a b) ≡ either (truth row a) (truth row b)
  unfolding Rattle.iso_sql.specs.declared.statement.Condition.TheViews.roll-Condition denote.Hole.Carrier.roll
  or-truth a b = fold-roll-Condition Truth (truth_at row) (Condition-F.Or a b)

  -- the same where the parts are known
  pub not-by : (a : Condition) (x : Truth) → truth row a ≡ x → truth row (c.Not a) ≡ negated x
  not-by a x p = not-truth a ∙ ap negated p

  pub and-by : (a b : Condition) (x y : Truth) → truth row a ≡ x → truth row b ≡ y → truth row (c.And a b) ≡ both x y
  and-by a b x y p q = and-truth a b ∙ (ap (λ t. both t (truth row b)) p ∙ ap (both x) q)

  pub or-by : (a b : Condition) (x y : Truth) → truth row a ≡ x → truth row b ≡ y → truth row (c.Or a b) ≡ either x y
  or-by a b x y p q = or-truth a b ∙ (ap (λ t. either t (truth row b)) p ∙ ap (either x) q)

module _ (k : ℕ) where
  pub always-bounds : bounds_of k c.Always ≡ None
  unfolding Rattle.iso_sql.specs.declared.statement.Condition.TheViews.roll-Condition denote.Hole.Carrier.roll
  always-bounds = fold-roll-Condition (Option Range) (bounds_at k) Condition-F.Always

  pub compare-bounds : (j : ℕ) (op : Op) (v : Value) → bounds_of k (c.Compare j op v) ≡ bounds_at k (Condition-F.Compare j op v)
  unfolding Rattle.iso_sql.specs.declared.statement.Condition.TheViews.roll-Condition denote.Hole.Carrier.roll
  compare-bounds j op v = fold-roll-Condition (Option Range) (bounds_at k) (Condition-F.Compare j op v)

  pub between-bounds : (j : ℕ) (low high : Value) → bounds_of k (c.Between j low high) ≡ bounds_at k (Condition-F.Between j low high)
  unfolding Rattle.iso_sql.specs.declared.statement.Condition.TheViews.roll-Condition denote.Hole.Carrier.roll
  between-bounds j low high = fold-roll-Condition (Option Range) (bounds_at k) (Condition-F.Between j low high)

  pub null-bounds : (j : ℕ) → bounds_of k (c.IsNull j) ≡ None
  unfolding Rattle.iso_sql.specs.declared.statement.Condition.TheViews.roll-Condition denote.Hole.Carrier.roll
  null-bounds j = fold-roll-Condition (Option Range) (bounds_at k) (Condition-F.IsNull j)

  pub not-bounds : (a : Condition) → bounds_of k (c.Not a) ≡ None
  unfolding Rattle.iso_sql.specs.declared.statement.Condition.TheViews.roll-Condition denote.Hole.Carrier.roll
  not-bounds a = fold-roll-Condition (Option Range) (bounds_at k) (Condition-F.Not a)

  pub or-bounds : (a b : Condition) → bounds_of k (c.Or a b) ≡ None
  unfolding Rattle.iso_sql.specs.declared.statement.Condition.TheViews.roll-Condition denote.Hole.Carrier.roll
  or-bounds a b = fold-roll-Condition (Option Range) (bounds_at k) (Condition-F.Or a b)

  and-bounds : (a b : Condition) → bounds_of k (c.And a b) ≡ common_of (bounds_of k a) (bounds_of k b)
  unfolding Rattle.iso_sql.specs.declared.statement.Condition.TheViews.roll-Condition denote.Hole.Carrier.roll
  and-bounds a b = fold-roll-Condition (Option Range) (bounds_at k) (Condition-F.And a b)

  pub and-bounds-by : (a b : Condition) (x y : Option Range) → bounds_of k a ≡ x → bounds_of k b ≡ y → bounds_of k (c.And a b) ≡ common_of x y
  and-bounds-by a b x y p q = and-bounds a b ∙ (ap (λ t. common_of t (bounds_of k b)) p ∙ ap (common_of x) q)

-- ---- histories, entry by entry

-- before the first own entry of a statement with this list
abbrev pub begun : Head → World → Conn → Statement → List Part → Point
begun head w k s list = record { statement = s; columns = updated_columns head s; floor = w.floor k; left = list; kept = first_haul s }

-- the point of a ready connection
abbrev pub the_point : Point → Option Point → Point
the_point p None = p
the_point p (Some q) = q

-- the point after a look whose row is kept, or is not
abbrev pub past_look : Head → List Line → World → Conn → Point → TableId → Rid → Want → Bool → Option Point
past_look head lines w k p t r want b =
    Some (looked_by p (shown w k t r want) (is_fresh_on (after head w (by_agent k (Act.Look t r want Got.Granted))) k (Row t r)) b)

module _ (head : Head) (lines : List Line) (w : World) (k : Conn) where
  -- one entry more in front
  pub link : (o : Option Point) (e : Entry) (es : List Entry) (after_it : Option Point) → Does head lines w k o e
      → point_after head lines w k o e ≡ after_it → ConductFrom head lines (after head w e) k after_it es
      → ConductFrom head lines w k o (e ∷ es)
  unfolding ConductFrom
  link o e es after_it d q rest = (d, subst (λ x. ConductFrom head lines (after head w e) k x es) (sym q) rest)

  same-may : (f : Phase) (o p : Option Point) (a : Act) → opened head lines w k o ≡ opened head lines w k p
      → MayIn f head lines w k p a → MayIn f head lines w k o a
  same-may Running o p a q m = subst (λ x. IsNext head w k (option_map (λ y. quieted w k (quieted w k y)) x) a) (sym q) m
  same-may Phase.Waiting o p a q m = subst (λ x. IsNext head w k (option_map (λ y. quieted w k (quieted w k y)) x) a) (sym q) m
  same-may Rolling o p a q m = subst (λ x. Rolls head w k (option_map (λ y. quieted w k (quieted w k y)) x) a) (sym q) m
  same-may Closing o p a q m = m
  same-may Idle o p a q m = absurd m
  same-may Phase.Ended o p a q m = absurd m

  same-moved : (f : Phase) (v : World) (o p : Option Point) (a : Act) → opened head lines w k o ≡ opened head lines w k p
      → moved_in f head lines w v k o a ≡ moved_in f head lines w v k p a
  same-moved Running v o p a q = ap (λ x. moved_by (ends a) w v k (option_map (λ y. quieted w k (quieted w k y)) x) a) q
  same-moved Phase.Waiting v o p a q = ap (λ x. moved_by (ends a) w v k (option_map (λ y. quieted w k (quieted w k y)) x) a) q
  same-moved Rolling v o p a q = ap (λ x. moved_by (ends a) w v k (option_map (λ y. quieted w k (quieted w k y)) x) a) q
  same-moved Closing v o p a q = refl
  same-moved Idle v o p a q = ap (λ x. moved_by (ends a) w v k (option_map (λ y. quieted w k (quieted w k y)) x) a) q
  same-moved Phase.Ended v o p a q = ap (λ x. moved_by (ends a) w v k (option_map (λ y. quieted w k (quieted w k y)) x) a) q

  -- the first own entry of a statement: it begins at this point
  pub begins : (p : Point) (e : Entry) (es : List Entry) → is_by k e.who ≡ true → opened head lines w k None ≡ Some p
      → ConductFrom head lines w k (Some p) (e ∷ es) → ConductFrom head lines w k None (e ∷ es)
  unfolding ConductFrom
  begins p e es own q g = (
    λ h. same-may (phase w k) None (Some p) e.act q (g.0 h),
    subst (λ x. ConductFrom head lines (after head w e) k x es) (sym moved-so) g.1,
  )
    where
      moved-so : point_after head lines w k None e ≡ point_after head lines w k (Some p) e
      moved-so = rw own (same-moved (phase w k) (after head w e) None (Some p) e.act q)
