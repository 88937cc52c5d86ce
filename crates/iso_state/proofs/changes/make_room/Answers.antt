use Rattle.std.proofs.Common.{◌≤◌, subst, ℕ, sym}
use Rattle.iso_state.proofs.FactsAlong.{entries-small}
use Rattle.iso_state.proofs.changes.make_room.Goals as goal

pub is_past_limit-requires : goal.is_past_limit-requires
is_past_limit-requires c = record { few = subst (λ (n : ℕ). n ≤ 2000000) (sym c.len.ensures) (entries-small c.requires.stands.stands) }
