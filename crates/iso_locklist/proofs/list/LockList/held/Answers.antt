use Rattle.std.proofs.Common.{◌∙◌, ap}
use Rattle.std.specs.Option.{option_map}
use Rattle.iso_locklist.specs.Lists.{named_hold}
use Rattle.iso_locklist.specs.Places.{line_at}
use Rattle.iso_locklist.proofs.Holding.{hold_shown}
use Rattle.iso_locklist.proofs.list.LockList.held.Goals as goal

pub returns : goal.returns
returns c = λ hs xs are.
    ap (option_map (named_hold c.args.name)) c.hold_at.ensures ∙ hold_shown hs xs (line_at c.args.self.now.places) are c.args.conn c.args.name
