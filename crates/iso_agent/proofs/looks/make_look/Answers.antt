use Rattle.std.proofs.Common.{◌≡◌, ◌∙◌, ◌&&◌, ap, subst, sym, true}
use Rattle.iso_agent.proofs.LookStepping.{look-stepped}
use Rattle.iso_agent.proofs.PinKept.{pin-kept}
use Rattle.iso_agent.specs.Steps.{HasStepped, is_pin}
use Rattle.iso_agent.specs.declared.stepped.Stepped.TheVariants.{Goes}
use Rattle.iso_history.proofs.whole.Sound.{sound-world}
use Rattle.iso_history.specs.Legal.{is_fresh_on}
use Rattle.iso_history.specs.Outcomes.{look_act}
use Rattle.iso_state.specs.Stands.{content_of, world_of}
use Rattle.iso_types.specs.declared.value.Name.TheVariants.{Row}
use Rattle.iso_agent.proofs.looks.make_look.Goals as goal

pub returns-in-Ok-clause-stepped : goal.returns-in-Ok-clause-stepped
returns-in-Ok-clause-stepped c =
    let p = c.args.parts.now in
    let q = c.look.new.parts in
    subst (λ k. HasStepped p.head p.history.items q.history.items c.args.conn (look_act p.head (world_of p) c.args.conn c.args.table c.args.rid c.args.want) (Goes k))
    (sym c.keep_look.ensures)
    (look-stepped (content_of p) c.args.conn c.args.table c.args.rid c.args.want (sound-world p.head p.history.items c.requires.stands.stands.ground)
    c.requires.runs.0 q.head q.history.items c.in-Ok.looked c.is_fresh_where-fresh.result c.waits.result c.requires.may c.in-Ok.ensures.head c.in-Ok.ensures.ok
    c.in-Ok.ensures.answer c.in-Ok.ensures.shows
    (c.is_fresh_where-fresh.ensures ∙ ap (λ b. b && is_fresh_on (world_of q) c.args.conn (Row c.args.table c.args.rid)) c.leaves_fresh-may.ensures) c.waits.ensures)

pub returns-in-Ok-clause-pinned : goal.returns-in-Ok-clause-pinned
returns-in-Ok-clause-pinned c e =
    let p = c.args.parts.now in
    subst (λ k. is_pin k ≡ true) (sym c.keep_look.ensures)
    (pin-kept (content_of p) c.args.conn c.args.table c.args.rid c.args.want c.in-Ok.looked c.is_fresh_where-fresh.result c.waits.result e c.in-Ok.ensures.answer)
