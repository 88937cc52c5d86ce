use Rattle.std.proofs.Common.{◌≡◌, ◌&&◌, ◌||◌, ℕ, length}
use Rattle.iso_types.specs.declared.value.TableId.{TableId}
use Rattle.iso_types.specs.declared.value.Value.{Value}
use Rattle.iso_script.specs.Keyed.{has_key}
use Rattle.iso_script.specs.Kept.{has_value, is_on}
use Rattle.iso_script.proofs.keys.add_index.Given as goal

abbrev pub invariant-loop-rows : goal.invariant-loop-rows
invariant-loop-rows l = (t : TableId) (c : ℕ) (v : Value)
    → ((is_on t c l.index && has_key t c v l.rows) || has_value l.keys.keys t c v) ≡ ((is_on t c l.index && has_key t c v l.initial.rows) || has_value l.fn.keys.keys t c v)

abbrev pub decreases-loop-rows : goal.decreases-loop-rows
decreases-loop-rows l = length l.rows
