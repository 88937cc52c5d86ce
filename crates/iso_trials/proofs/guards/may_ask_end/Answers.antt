use Rattle.std.proofs.Common.{◌∙◌, ap, sym, Option}
use Rattle.std.specs.Option.{option_map}
use Rattle.iso_state.specs.Stands.{world_of}
use Rattle.iso_types.specs.declared.head.IndexDef.{IndexDef}
use Rattle.iso_trials.proofs.Known.{end-asked}
use Rattle.iso_trials.proofs.guards.may_ask_end.Goals as goal

pub returns-in-Some : goal.returns-in-Some
returns-in-Some c = λ held.
    let p = c.args.parts.now in
    end-asked p.head (world_of p) c.args.conn c.in-Some.def.now.table (sym c.holds_table.ensures ∙ held) c.args.index
    (ap (λ (o : Option IndexDef). option_map (λ d. d.table) o) (sym c.in-Some.ensures.value))
