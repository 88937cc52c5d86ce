use Rattle.std.proofs.Common.{◌∙◌, sym}
use Rattle.iso_state.specs.Stands.{world_of}
use Rattle.iso_reads.proofs.Beside.{pending-beside}
use Rattle.iso_reads.proofs.looking.see.Goals as goal

pub pin-requires-clause-pending : goal.pin-requires-clause-pending
pin-requires-clause-pending c =
    pending-beside (world_of c.args.parts.now) c.args.conn c.args.table c.args.rid c.args.want (sym c.is_beside.ensures ∙ c.if-is_beside.true)
