use Rattle.std.proofs.Common.{◌∙◌}
use Rattle.std.specs.Option.{option_copied}
use Rattle.iso_state.proofs.FactsAlong.{beside-of}
use Rattle.iso_state.specs.Stands.{world_of}
use Rattle.iso_writes.proofs.Numbered.{update-is}
use Rattle.iso_writes.proofs.judging.judge_update.Goals as goal

pub returns : goal.returns
returns c =
    let p = c.args.parts.now in
    c.judge_row.ensures
    ∙ update-is p.head (world_of p) c.args.conn c.args.table c.args.rid (option_copied c.present_row.result) c.args.row.now c.present_row.ensures
    (beside-of c.requires.stands.stands c.args.conn c.args.table c.args.rid c.requires.may)
