-- What is rebuilt of what a look pins.
use Rattle.std.specs.Prelude.{◌≡◌, List, Option}
use Rattle.iso_history.specs.Versions.{committed, versions}
use Rattle.iso_history.specs.World.{World}
use Rattle.iso_history.specs.declared.entry.Want.{Want}
use Rattle.iso_history.specs.declared.entry.Want.TheVariants.{Current}
use Rattle.iso_rebuild.specs.Chains.{HasChain, IsRebuilt}
use Rattle.iso_rebuild.specs.declared.past.Past.{Past}
use Rattle.iso_types.specs.declared.value.Rid.{Rid}
use Rattle.iso_types.specs.declared.value.TableId.{TableId}
use Rattle.iso_types.specs.declared.value.Value.{Value}

-- the look is one for Current, its pin has the slot's chain, and what is rebuilt of it is the row that was last committed
pub record IsSettledBy (w : World) (t : TableId) (r : Rid) (want : Want) (past : Past) : Type 0 where
  pub current : want ≡ Current
  pub chain : HasChain past
  pub row : (row : Option (List Value)) → IsRebuilt past row → row ≡ committed (versions w t r)
