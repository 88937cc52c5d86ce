use Rattle.std.proofs.Common.{◌∙◌, sym}
use Rattle.std.proofs.lemmas.Bool.{lt-ltb}
use Rattle.iso_history.specs.Versions.{slots}
use Rattle.iso_state.specs.Stands.{world_of}
use Rattle.iso_trials.proofs.Known.{look-stands}
use Rattle.iso_trials.proofs.guards.may_look.Goals as goal

pub returns-then-is_within-clause-may : goal.returns-then-is_within-clause-may
returns-then-is_within-clause-may c = λ want held there.
    let p = c.args.parts.now in
    let r = c.args.rid in
    look-stands p.head (world_of p) c.args.conn c.args.table (sym c.holds_table.ensures ∙ held) r want
    (lt-ltb r.0 (slots (world_of p) c.args.table) there)
