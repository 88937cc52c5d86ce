use Rattle.std.proofs.Common.{◌∙◌, List, refl, sym, subst}
use Rattle.std.proofs.lemmas.Result.{on_ok_weaker}
use Rattle.iso_history.specs.Legal.{is_fresh_on}
use Rattle.iso_queue.specs.Locks.{Hold}
use Rattle.iso_locklist.specs.Holding.{LocksAre}
use Rattle.iso_state.specs.Stands.{world_of}
use Rattle.iso_state.proofs.LockReads.{holds-once}
use Rattle.iso_state.proofs.LockWrites.{taken-kept, taken-spared}
use Rattle.iso_state.proofs.locks.take.Goals as goal
use Rattle.iso_state.proofs.FactsAlong.{facts-of}

pub returns-then-becomes_kept-clause-ok : goal.returns-then-becomes_kept-clause-ok
returns-then-becomes_kept-clause-ok c =
    let p = c.args.parts.now in
    on_ok_weaker c.take_kept.result (λ are. subst (λ (gs : List Hold). LocksAre gs (world_of p).waits c.take_kept.new.parts.locks)
    (taken-kept p.head (world_of p).holds c.args.conn c.args.name.now c.args.mode c.args.term c.args.spared (is_fresh_on
    (world_of p) c.args.conn c.args.name.now) refl
    (sym c.becomes_kept-becomes_kept.ensures ∙ c.if-becomes_kept.true)) are) c.take_kept.ensures.ok

pub returns-else-becomes_kept-clause-ok : goal.returns-else-becomes_kept-clause-ok
returns-else-becomes_kept-clause-ok c =
    let p = c.args.parts.now in
    on_ok_weaker c.take_spared.result (λ are. subst (λ (gs : List Hold). LocksAre gs (world_of p).waits c.take_spared.new.parts.locks)
    (taken-spared p.head (world_of p).holds c.args.conn c.args.name.now c.args.mode c.args.term c.args.spared (is_fresh_on
    (world_of p) c.args.conn c.args.name.now) refl
    (sym c.becomes_kept-becomes_kept.ensures ∙ c.if-becomes_kept.false) c.requires.long
    (holds-once p.head (world_of p) (facts-of c.requires.stands.stands) c.args.conn c.args.name.now)) are) c.take_spared.ensures.ok
