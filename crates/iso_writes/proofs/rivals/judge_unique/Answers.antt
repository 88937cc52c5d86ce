use Rattle.std.proofs.Common.{sym, subst, List}
use Rattle.iso_history.specs.Orders.{EntriesOrdered, IsOrdered}
use Rattle.iso_state.proofs.FactsAlong.{sound-of}
use Rattle.iso_types.specs.declared.value.Rid.{Rid}
use Rattle.iso_types.specs.declared.value.Value.{Value}
use Rattle.iso_writes.proofs.rivals.judge_unique.Goals as goal

pub judge_entries-requires-clause-ordered : goal.judge_entries-requires-clause-ordered
unfolding EntriesOrdered
judge_entries-requires-clause-ordered c =
    subst (λ (l : List (Value × Rid)). IsOrdered l) (sym c.in-Some.ensures.some) ((sound-of c.requires.stands.stands).ordered c.args.index)
