-- What a range says of a value, what two ranges have in common, and why a path misses no row.
use Rattle.std.specs.Prelude.{◌≡◌, ◌↔◌, Bool, true, not, ◌&&◌, List, if◌then◌else◌, Some, None, Option}
use Rattle.iso_predicate.specs.Plan.{common, plan_of}
use Rattle.iso_predicate.specs.Truth.{both, compared, truth}
use Rattle.iso_predicate.specs.declared.conditions.Truth.{Truth}
use Rattle.iso_predicate.specs.declared.conditions.Truth.TheVariants.{True}
use Rattle.iso_predicate.specs.declared.plans.Path.{Path}
use Rattle.iso_sql.specs.declared.statement.Condition.{Condition}
use Rattle.iso_sql.specs.declared.statement.Op.TheVariants.{Ge, Gt, Le, Lt}
use Rattle.iso_types.specs.Head.{is_null, key_in}
use Rattle.iso_types.specs.declared.head.Edge.{Edge}
use Rattle.iso_types.specs.declared.head.Head.{Head}
use Rattle.iso_types.specs.declared.head.Range.{Range}
use Rattle.iso_types.specs.declared.value.IndexId.{IndexId}
use Rattle.iso_types.specs.declared.value.TableId.{TableId}
use Rattle.iso_types.specs.declared.value.Value.{Value}

-- the value is above a low bound, or at an inclusive one; a bound that is absent bounds nothing
abbrev pub low_holds : Option Edge → Value → Truth
low_holds None v = True
low_holds (Some e) v = compared (if e.inclusive then Ge else Gt) v e.value

-- the value is below a high bound, or at an inclusive one
abbrev pub high_holds : Option Edge → Value → Truth
high_holds None v = True
high_holds (Some e) v = compared (if e.inclusive then Le else Lt) v e.value

-- the value is between the bounds
abbrev pub range_holds : Range → Value → Truth
range_holds range v = both (low_holds range.low v) (high_holds range.high v)

-- the same where there may be no range
abbrev pub bounds_hold : Option Range → Value → Truth
bounds_hold None v = True
bounds_hold (Some range) v = range_holds range v

-- a row of which the condition is true has its key in the range by which the index is gone through
abbrev pub MissesNoRow : Head → TableId → Condition → Type 0
MissesNoRow head t cond =
    (i : IndexId) (range : Range) (row : List Value) → plan_of head t cond ≡ Path.Index i range → truth row cond ≡ True
    → range_holds range (key_in head i row) ≡ True

-- the bound, where there is one, is no NULL, as no literal of a comparison is
abbrev pub is_known : Option Edge → Bool
is_known None = true
is_known (Some e) = not (is_null e.value)

-- no bound of the range is NULL
abbrev pub has_known_bounds : Range → Bool
has_known_bounds range = is_known range.low && is_known range.high

-- what two ranges have in common holds of a value exactly where both hold
abbrev pub IsIntersection : Range → Range → Value → Type 0
IsIntersection a b v =
    has_known_bounds a ≡ true → has_known_bounds b ≡ true
    → (range_holds (common a b) v ≡ True) ↔ ((range_holds a v ≡ True) × (range_holds b v ≡ True))
