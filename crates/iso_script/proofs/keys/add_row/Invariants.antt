use Rattle.std.proofs.Common.{◌≡◌, ◌&&◌, ◌||◌, ℕ, length}
use Rattle.iso_types.specs.declared.value.TableId.{TableId}
use Rattle.iso_types.specs.declared.value.Value.{Value}
use Rattle.iso_script.specs.Keyed.{has_this}
use Rattle.iso_script.specs.Kept.{has_value, is_keyed}
use Rattle.iso_script.proofs.keys.add_row.Given as goal

abbrev pub invariant-loop-indexes : goal.invariant-loop-indexes
invariant-loop-indexes l = (t : TableId) (c : ℕ) (v : Value)
    → ((is_keyed l.indexes t c && has_this t c v l.first) || has_value l.keys.keys t c v) ≡ ((is_keyed l.initial.indexes t c && has_this t c v l.first) || has_value l.fn.keys.keys t c v)

abbrev pub decreases-loop-indexes : goal.decreases-loop-indexes
decreases-loop-indexes l = length l.indexes
