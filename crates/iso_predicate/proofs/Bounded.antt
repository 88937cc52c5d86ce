-- The range of a column holds of each row of which the condition is true.
use Rattle.std.proofs.Common.{◌≡◌, ℕ, Bool, true, false, List, [], ◌∷◌, refl, ap, subst, ◌∙◌, sym, eqb-true}
use Rattle.std.specs.Option.{option_map_or}
use Rattle.std.specs.Ordering.{is_eq, is_ge, is_le}
use Rattle.std.specs.Prelude.{◌||◌, ◌&&◌, ◌==◌, Some, None, Option, if◌then◌else◌, slice_get, slice_index_or}
use Rattle.std.specs.declared.cmp.Ordering.{Ordering}
use Rattle.std.specs.declared.cmp.Ordering.TheVariants.{Equal, Greater, Less}
use Rattle.iso_predicate.proofs.Orders.{value_same}
use Rattle.iso_predicate.specs.Bounded.{MissesNoRow, bounds_hold, high_holds, low_holds, range_holds}
use Rattle.iso_predicate.specs.Plan.{bounds_at, bounds_in, bounds_of, common_of, first_path, greater_by, inclusive, lesser_by, path_by, range_by, range_of, tighter_high, tighter_low}
use Rattle.iso_predicate.specs.Truth.{both, compared, known, truth, truth_at, value_at}
use Rattle.iso_predicate.specs.declared.conditions.Truth.{Truth}
use Rattle.iso_predicate.specs.declared.conditions.Truth.TheVariants.{False, True, Unknown}
use Rattle.iso_predicate.specs.declared.plans.Path.{Path}
use Rattle.iso_sql.specs.declared.statement.Condition.{Condition, fold-roll-Condition, ind-Condition, map-Condition, roll-Condition}
use Rattle.iso_sql.specs.declared.statement.Condition.TheOpen.{Condition-F}
use Rattle.iso_sql.specs.declared.statement.Op.{Op}
use Rattle.iso_sql.specs.declared.statement.Op.TheVariants.{Eq, Ge, Gt, Le, Lt, Ne}
use Rattle.iso_types.specs.Head.{indexes_of, is_null}
use Rattle.iso_types.specs.Value.{value_cmp}
use Rattle.iso_types.specs.declared.head.Edge.{Edge}
use Rattle.iso_types.specs.declared.head.Head.{Head}
use Rattle.iso_types.specs.declared.head.IndexDef.{IndexDef}
use Rattle.iso_types.specs.declared.head.Range.{Range}
use Rattle.iso_types.specs.declared.value.IndexId.{IndexId}
use Rattle.iso_types.specs.declared.value.TableId.{TableId}
use Rattle.iso_types.specs.declared.value.Value.{Value}
use Rattle.iso_types.specs.declared.value.Value.TheVariants.{Null}

pub both_true : (a b : Truth) → both a b ≡ True → (a ≡ True) × (b ≡ True)
both_true True b e = (refl, e)
both_true False b e = absurd (cc)
both_true Unknown True e = absurd (cc)
both_true Unknown False e = absurd (cc)
both_true Unknown Unknown e = absurd (cc)

pub both_hold : (a b : Truth) → a ≡ True → b ≡ True → both a b ≡ True
both_hold a b p q = rw (p, q) refl

-- the stricter of two bounds at one value holds where both do
stricter_holds : (from past : Op) (i j : Bool) (v x y : Value) → x ≡ y
    → compared (if i then from else past) v x ≡ True → compared (if j then from else past) v y ≡ True
    → compared (if i && j then from else past) v x ≡ True
stricter_holds from past true j v x y same p q = rw same q
stricter_holds from past false j v x y same p q = p

pub low_hold : (a b : Option Edge) (v : Value) → low_holds a v ≡ True → low_holds b v ≡ True → low_holds (tighter_low a b) v ≡ True
low_hold None b v p q = q
low_hold (Some a) None v p q = p
low_hold (Some a) (Some b) v p q = go (value_cmp a.value b.value) refl
  where
    go : (o : Ordering) → value_cmp a.value b.value ≡ o → low_holds (Some (greater_by o a b)) v ≡ True
    go Less e = q
    go Greater e = p
    go Equal e = stricter_holds Ge Gt a.inclusive b.inclusive v a.value b.value (value_same a.value b.value e) p q

pub high_hold : (a b : Option Edge) (v : Value) → high_holds a v ≡ True → high_holds b v ≡ True → high_holds (tighter_high a b) v ≡ True
high_hold None b v p q = q
high_hold (Some a) None v p q = p
high_hold (Some a) (Some b) v p q = go (value_cmp a.value b.value) refl
  where
    go : (o : Ordering) → value_cmp a.value b.value ≡ o → high_holds (Some (lesser_by o a b)) v ≡ True
    go Less e = p
    go Greater e = q
    go Equal e = stricter_holds Le Lt a.inclusive b.inclusive v a.value b.value (value_same a.value b.value e) p q

-- what two ranges have in common holds where both hold
pub common_hold : (a b : Option Range) (v : Value) → bounds_hold a v ≡ True → bounds_hold b v ≡ True → bounds_hold (common_of a b) v ≡ True
common_hold None b v p q = q
common_hold (Some a) None v p q = p
common_hold (Some a) (Some b) v p q =
    let left = both_true (low_holds a.low v) (high_holds a.high v) p in
    let right = both_true (low_holds b.low v) (high_holds b.high v) q in
    both_hold (low_holds (tighter_low a.low b.low) v) (high_holds (tighter_high a.high b.high) v)
    (low_hold a.low b.low v left.0 right.0) (high_hold a.high b.high v left.1 right.1)

-- an equal value is at least and at most the other
equal_hold : (v x : Value) → compared Eq v x ≡ True → both (compared Ge v x) (compared Le v x) ≡ True
equal_hold v x = go (is_null v || is_null x) (value_cmp v x)
  where
    go : (b : Bool) (o : Ordering) → (if b then Unknown else known (is_eq o)) ≡ True
        → both (if b then Unknown else known (is_ge o)) (if b then Unknown else known (is_le o)) ≡ True
    go true o e = absurd (cc)
    go false Less e = absurd (cc)
    go false Equal e = refl
    go false Greater e = absurd (cc)

-- the range of a comparison holds where the comparison does
range_by_holds : (op : Op) (v x : Value) → compared op v x ≡ True → bounds_hold (range_by op x) v ≡ True
range_by_holds Eq v x e = equal_hold v x e
range_by_holds Ne v x e = refl
range_by_holds Lt v x e = e
range_by_holds Le v x e = e
range_by_holds Gt v x e = both_hold (compared Gt v x) True e refl
range_by_holds Ge v x e = both_hold (compared Ge v x) True e refl

-- the range of a column holds of each row of which the condition is true
abbrev Bounds : ℕ → List Value → Condition → Type 0
Bounds k row cond = truth row cond ≡ True → bounds_hold (bounds_of k cond) (value_at row k) ≡ True

-- a test that may be of another column
of_column : (row : List Value) (column k : ℕ) (range : Option Range) → bounds_hold range (value_at row column) ≡ True
    → bounds_hold (if column == k then range else None) (value_at row k) ≡ True
of_column row column k range e = go (column == k) refl
  where
    go : (b : Bool) → (column == k) ≡ b → bounds_hold (if b then range else None) (value_at row k) ≡ True
    go false q = refl
    go true q = rw (← eqb-true column k q) e

level : (k : ℕ) (row : List Value) (c : Condition-F ((part : Condition) × Bounds k row part))
    → Bounds k row (roll-Condition (map-Condition ((part : Condition) × Bounds k row part) Condition (λ e. e.0) c))
level k row Condition-F.Always t = rw (fold-roll-Condition (Option Range) (bounds_at k) Condition-F.Always) refl
level k row (Condition-F.IsNull column) t = rw (fold-roll-Condition (Option Range) (bounds_at k) (Condition-F.IsNull column)) refl
level k row (Condition-F.Not a) t = rw (fold-roll-Condition (Option Range) (bounds_at k) (Condition-F.Not a.0)) refl
level k row (Condition-F.Or a b) t = rw (fold-roll-Condition (Option Range) (bounds_at k) (Condition-F.Or a.0 b.0)) refl
level k row (Condition-F.Compare column op v) t =
    let is = sym (fold-roll-Condition Truth (truth_at row) (Condition-F.Compare column op v)) ∙ t in
    rw (fold-roll-Condition (Option Range) (bounds_at k) (Condition-F.Compare column op v))
    (of_column row column k (range_by op v) (range_by_holds op (value_at row column) v is))
level k row (Condition-F.Between column low high) t =
    let is = sym (fold-roll-Condition Truth (truth_at row) (Condition-F.Between column low high)) ∙ t in
    rw (fold-roll-Condition (Option Range) (bounds_at k) (Condition-F.Between column low high))
    (of_column row column k (Some (range_of (inclusive low) (inclusive high))) is)
level k row (Condition-F.And a b) t =
    let is = sym (fold-roll-Condition Truth (truth_at row) (Condition-F.And a.0 b.0)) ∙ t in
    let parts = both_true (truth row a.0) (truth row b.0) is in
    rw (fold-roll-Condition (Option Range) (bounds_at k) (Condition-F.And a.0 b.0))
    (common_hold (bounds_of k a.0) (bounds_of k b.0) (value_at row k) (a.1 parts.0) (b.1 parts.1))

pub bounds_hold_of_true : (k : ℕ) (row : List Value) (cond : Condition) → Bounds k row cond
bounds_hold_of_true k row = ind-Condition (Bounds k row) (λ x y is. subst (λ z. Bounds k row (roll-Condition z)) is (level k row y))

-- the range of a path is that of its index
path_range : (head : Head) (cond : Condition) (is : List IndexId) (i : IndexId) (range : Range)
    → first_path head cond is ≡ Path.Index i range → bounds_in head cond i ≡ Some range
path_range head cond [] i range e = absurd (cc)
path_range head cond (j ∷ js) i range e = go (bounds_in head cond j) refl (path_range head cond js i range) e
  where
    go : (o : Option Range) → bounds_in head cond j ≡ o
        → (first_path head cond js ≡ Path.Index i range → bounds_in head cond i ≡ Some range)
        → path_by j o (first_path head cond js) ≡ Path.Index i range → bounds_in head cond i ≡ Some range
    go None q later p = later p
    go (Some r) q later p =
        let same : j ≡ i = cc in
        let ranges : r ≡ range = cc in
        subst (λ x. bounds_in head cond x ≡ Some range) same (q ∙ ap Some ranges)

pub misses_no_row : (head : Head) (t : TableId) (cond : Condition) → MissesNoRow head t cond
misses_no_row head t cond i range row path true_of =
    go (slice_get head.indexes i.0) (path_range head cond (indexes_of head t) i range path)
  where
    go : (o : Option IndexDef) → option_map_or (λ d. bounds_of d.column cond) o None ≡ Some range
        → range_holds range (option_map_or (λ d. slice_index_or row d.column Null) o Null) ≡ True
    go None e = absurd (cc)
    go (Some d) e = rw e at (bounds_hold_of_true d.column row cond true_of)
