use Rattle.std.proofs.Common.{◌∙◌, sym}
use Rattle.iso_state.specs.Stands.{world_of}
use Rattle.iso_trials.proofs.Known.{end-blocks}
use Rattle.iso_trials.proofs.guards.may_block.Goals as goal

pub returns-then-may_ask_end-clause-blocks : goal.returns-then-may_ask_end-clause-blocks
returns-then-may_ask_end-clause-blocks c = λ held.
    let p = c.args.parts.now in
    end-blocks p.head (world_of p) c.args.conn c.args.index (sym c.is_guarded.ensures ∙ held)
