-- The guard by a search from the key on, and that of a world's entries.
use Rattle.std.proofs.Common.{◌≡◌, List, Some, not, true, ap, sym}
use Rattle.std.specs.Prelude.{find, ◌||◌, ◌&&◌}
use Rattle.iso_history.specs.Entries.{entries_of, guard}
use Rattle.iso_history.specs.World.{World}
use Rattle.iso_key.proofs.Keys.{find-same, not-less}
use Rattle.iso_key.specs.Entries.{first_from}
use Rattle.iso_nextkey.specs.Guards.{guard_in}
use Rattle.iso_types.specs.Value.{value_eq, value_lt}
use Rattle.iso_types.specs.declared.value.IndexId.{IndexId}
use Rattle.iso_types.specs.declared.value.Rid.{Rid}
use Rattle.iso_types.specs.declared.value.Value.{Value}

-- the first entry that meets the key as its low bound is the first that is not below it
pub from-edge : (v : Value) (ps : List (Value × Rid))
    → first_from (Some (record { value = v; inclusive = true })) ps ≡ find (λ p. not (value_lt p.0 v)) ps
from-edge v ps =
    find-same (λ (p : Value × Rid). value_lt v p.0 || (true && value_eq v p.0)) (λ (p : Value × Rid). not (value_lt p.0 v))
    (λ p. sym (not-less v p.0)) ps

-- of a world's entries it is the world's guard
pub guard-is : (w : World) (i : IndexId) (v : Value) (ps : List (Value × Rid)) → ps ≡ entries_of w i → guard_in i v ps ≡ guard w i v
guard-is w i v ps e = ap (guard_in i v) e
