use Rattle.std.proofs.Common.{◌≡◌, ◌∙◌, ap, Bool, subst, sym, true, false}
use Rattle.iso_history.specs.Entries.{stand_of}
use Rattle.iso_history.specs.Makers.{by_agent}
use Rattle.iso_history.specs.Stops.{is_full}
use Rattle.iso_history.specs.declared.entry.Act.TheVariants.{Next}
use Rattle.iso_history.specs.declared.entry.Stand.{Stand}
use Rattle.iso_state.specs.Stands.{world_of}
use Rattle.iso_reads.specs.Nexts.{next_act}
use Rattle.iso_reads.proofs.stepping.next_entry.Goals as goal

pub returns-then-guarded-clause-full : goal.returns-then-guarded-clause-full
returns-then-guarded-clause-full c =
    let p = c.args.parts.now in
    λ e. subst (λ (b : Bool). is_full p.head (world_of p) (by_agent c.args.conn (next_act p.head (world_of p) c.args.conn c.args.index c.args.range.now c.args.after b)) ≡ true)
    (sym c.if-guarded.true) (c.guard.ensures.full e)

pub returns-else-guarded-clause-full : goal.returns-else-guarded-clause-full
returns-else-guarded-clause-full c =
    let p = c.args.parts.now in
    λ e. subst (λ (b : Bool). is_full p.head (world_of p) (by_agent c.args.conn (next_act p.head (world_of p) c.args.conn c.args.index c.args.range.now c.args.after b)) ≡ true)
    (sym c.if-guarded.false)
    (subst (λ (s : Stand). is_full p.head (world_of p) (by_agent c.args.conn (Next c.args.index c.args.range.now c.args.after false s)) ≡ true)
    (c.stand_at-at.ensures ∙ ap (λ o. stand_of c.args.range.now o) c.find_entry-found.ensures) (c.stand.ensures.full e))
