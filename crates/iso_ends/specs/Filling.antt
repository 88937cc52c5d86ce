-- A doubt that is being filled, and a key that is kept.
use Rattle.std.specs.Prelude.{◌≡◌, ◌⊎◌, Bool, true, List, Option, Some}
use Rattle.iso_ends.specs.Doubts.{AreParked, Known, Knows, kept_at}
use Rattle.iso_ends.specs.Purges.{is_calm}
use Rattle.iso_history.specs.Entries.{entries_of}
use Rattle.iso_history.specs.Orders.{IsOrdered, has_pair}
use Rattle.iso_history.specs.Versions.{versions}
use Rattle.iso_history.specs.World.{World}
use Rattle.iso_types.specs.Head.{table_of_index}
use Rattle.iso_types.specs.declared.head.Head.{Head}
use Rattle.iso_types.specs.declared.value.IndexId.{IndexId}
use Rattle.iso_types.specs.declared.value.Rid.{Rid}
use Rattle.iso_types.specs.declared.value.TableId.{TableId}
use Rattle.iso_types.specs.declared.value.Value.{Value}

-- each pair of the index is known or still left; what is known is as it should be
pub record IsFilled (head : Head) (w : World) (i : IndexId) (x : Known) (left : List (Value × Rid)) : Type 0 where
  pub ordered : IsOrdered x.pairs
  pub all : (p : Value × Rid) → has_pair (entries_of w i) p ≡ true → Knows x p ⊎ (has_pair left p ≡ true)
  pub there : (p : Value × Rid) → has_pair x.pairs p ≡ true → has_pair (entries_of w i) p ≡ true
  pub kept : (r : Rid) (k : Value) → kept_at x.keys r ≡ Some k → has_pair (entries_of w i) (k, r) ≡ true
  pub calm : (r : Rid) (k : Value) (t : TableId) → kept_at x.keys r ≡ Some k → table_of_index head i ≡ Some t → is_calm head i k (versions w t r) ≡ true
  pub parked : AreParked w i x

-- where it is kept the key stands at its rid; all others are as before
pub record Keeps (old new : List (Option Value)) (r : Rid) (key : Value) (b : Bool) : Type 0 where
  pub kept : b ≡ true → kept_at new r ≡ Some key
  pub same : (s : Rid) (k : Value) → kept_at old s ≡ Some k → kept_at new s ≡ Some k
  pub fresh : (s : Rid) (k : Value) → kept_at new s ≡ Some k → (kept_at old s ≡ Some k) ⊎ ((b ≡ true) × (s ≡ r) × (k ≡ key))
