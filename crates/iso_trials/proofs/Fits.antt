-- The head of the trials has what the steps ask of one.
use Rattle.std.proofs.Common.{ℕ, ◌≤◌, Bool, true, false, [], ◌∷◌, length, refl, arith, if◌then◌else◌}
use Rattle.iso_state.specs.Stands.{HeadFits}
use Rattle.iso_types.specs.Ids.{table_eq}
use Rattle.iso_types.specs.declared.value.IndexId.{IndexId}
use Rattle.iso_types.specs.declared.value.TableId.{TableId}
use Rattle.iso_trials.specs.Heading.{heading, the_table}

-- at most one index is chosen
few : (b : Bool) (i : IndexId) → length (if b then i ∷ [] else []) ≤ 4
few true i = omega arith
few false i = omega arith

pub heading-fits : (k : ℕ) → k ≤ 100 → HeadFits (heading k)
heading-fits k most = record {
  tables = omega arith;
  columns = refl;
  conns = omega arith;
  rows = refl;
  locklist = omega arith;
  maxlocks = most;
  indexes = refl;
  some_indexes = omega arith;
  few_indexes = λ (t : TableId). few (table_eq the_table t) (record { 0 = 0 });
}
