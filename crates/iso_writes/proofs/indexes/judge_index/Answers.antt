use Rattle.std.specs.Option.{option_copied}
use Rattle.iso_state.specs.Stands.{world_of}
use Rattle.iso_writes.proofs.Numbered.{judged-new}
use Rattle.iso_writes.proofs.indexes.judge_index.Goals as goal

pub returns-else-row_has_key : goal.returns-else-row_has_key
returns-else-row_has_key c =
    judged-new c.args.parts.now.head (world_of c.args.parts.now) c.args.conn c.args.table c.args.rid (option_copied c.args.old) c.args.row.now c.args.index
    _ _ _ c.key_of-key.ensures c.row_has_key.ensures c.if-row_has_key.false c.judge_key.ensures
