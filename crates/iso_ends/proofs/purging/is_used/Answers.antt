use Rattle.std.proofs.Common.{◌∙◌}
use Rattle.iso_ends.proofs.StaleReads.{used-is}
use Rattle.iso_state.specs.Stands.{world_of}
use Rattle.iso_types.specs.declared.value.Name.TheVariants.{Key}
use Rattle.iso_ends.proofs.purging.is_used.Goals as goal

pub returns : goal.returns
returns c =
    let p = c.args.parts.now in
    c.in_use.ensures ∙ used-is (world_of p) p.locks (Key c.args.index c.args.key.now) c.requires.stands.parts.locks
