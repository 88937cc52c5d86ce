use Rattle.std.proofs.Common.{◌≡◌, ◌∙◌, sym, [], subst}
use Rattle.iso_agent.proofs.Dues.{closing-undoes}
use Rattle.iso_agent.proofs.Undoing.{none-last, none-left}
use Rattle.iso_history.specs.After.{world}
use Rattle.iso_history.specs.Outcomes.{last_record}
use Rattle.iso_history.specs.Records.{left_of}
use Rattle.iso_state.specs.Stands.{Content, world_of}
use Rattle.iso_agent.proofs.ends.make_closing.Goals as goal

pub undo_one-requires-clause-may : goal.undo_one-requires-clause-may
undo_one-requires-clause-may c =
    let p = c.args.parts.now in closing-undoes p.head p.history.items c.args.conn c.requires.stands.stands.ground c.requires.closing

pub ended-requires-clause-left : goal.ended-requires-clause-left
ended-requires-clause-left c =
    let p = c.args.parts.now in
    let w = world_of p in
    subst (λ (x : Content). left_of (world x.head x.history) c.args.conn ≡ []) (sym (c.undo_one.ensures.none c.if-undo_one.false))
    (none-left w c.args.conn (none-last (last_record w c.args.conn) (sym c.undo_one.ensures.answer ∙ c.if-undo_one.false)))
