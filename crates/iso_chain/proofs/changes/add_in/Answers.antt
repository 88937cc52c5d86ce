use Rattle.std.proofs.Common.{◌∙◌}
use Rattle.iso_chain.proofs.Bare.{add-made}
use Rattle.iso_chain.proofs.changes.add_in.Goals as goal

pub returns : goal.returns
returns c = c.set_chain.ensures.items
    ∙ add-made c.args.slots.now.items c.add.new.self.items c.args.row c.args.number c.in-Ok.rid c.in-Ok.ensures.ok c.in-Ok.ensures.rid
