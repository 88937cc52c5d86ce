use Rattle.std.proofs.Common.{◌≡◌, ◌∙◌, ap, subst, sym, true, Some, Option}
use Rattle.iso_history.specs.Entries.{key_name, stand_of}
use Rattle.iso_history.specs.Makers.{by_agent}
use Rattle.iso_history.specs.Outcomes.{next_by}
use Rattle.iso_history.specs.Stops.{is_full}
use Rattle.iso_history.specs.declared.entry.Stand.{Stand}
use Rattle.iso_state.specs.Judged.{judged_as}
use Rattle.iso_state.specs.Stands.{world_of}
use Rattle.iso_state.specs.declared.locks.Judged.{Judged}
use Rattle.iso_reads.proofs.NextSteps.{guarded-stand}
use Rattle.iso_reads.proofs.stepping.guard.Goals as goal

pub returns-in-Granted-clause-full : goal.returns-in-Granted-clause-full
returns-in-Granted-clause-full c =
    let p = c.args.parts.now in
    λ e. subst (λ (s : Option Stand). is_full p.head (world_of p) (by_agent c.args.conn (next_by p.head (world_of p) c.args.conn c.args.index c.args.range.now c.args.after true s)) ≡ true)
    (sym (guarded-stand p.head (world_of p) c.args.conn c.args.index c.args.range.now c.args.after c.key_name.result (judged_as Judged.Granted)
    (c.key_name.ensures ∙ ap (λ o. key_name c.args.index o) c.requires.found) (sym c.judge.ensures ∙ ap (λ (j : Judged). judged_as j) c.in-Granted.is) ∙ ap (λ (s : Stand). Some s) (ap (λ o. stand_of c.args.range.now o) (sym c.requires.found) ∙ sym c.stand_at-at.ensures)))
    (c.take.ensures.full e)

pub returns-in-Queues-clause-full : goal.returns-in-Queues-clause-full
returns-in-Queues-clause-full c =
    let p = c.args.parts.now in
    λ e. subst (λ (s : Option Stand). is_full p.head (world_of p) (by_agent c.args.conn (next_by p.head (world_of p) c.args.conn c.args.index c.args.range.now c.args.after true s)) ≡ true)
    (sym (guarded-stand p.head (world_of p) c.args.conn c.args.index c.args.range.now c.args.after c.key_name.result (judged_as (Judged.Queues c.in-Queues.to))
    (c.key_name.ensures ∙ ap (λ o. key_name c.args.index o) c.requires.found) (sym c.judge.ensures ∙ ap (λ (j : Judged). judged_as j) c.in-Queues.is)))
    (c.wait.ensures.full e)

pub returns-in-TimesOut-clause-full : goal.returns-in-TimesOut-clause-full
returns-in-TimesOut-clause-full c =
    let p = c.args.parts.now in
    λ e. subst (λ (s : Option Stand). is_full p.head (world_of p) (by_agent c.args.conn (next_by p.head (world_of p) c.args.conn c.args.index c.args.range.now c.args.after true s)) ≡ true)
    (sym (guarded-stand p.head (world_of p) c.args.conn c.args.index c.args.range.now c.args.after c.key_name.result (judged_as Judged.TimesOut)
    (c.key_name.ensures ∙ ap (λ o. key_name c.args.index o) c.requires.found) (sym c.judge.ensures ∙ ap (λ (j : Judged). judged_as j) c.in-TimesOut.is)))
    (c.time_out.ensures.full e)

pub returns-in-AtLimit-clause-full : goal.returns-in-AtLimit-clause-full
returns-in-AtLimit-clause-full c =
    let p = c.args.parts.now in
    λ e. subst (λ (s : Option Stand). is_full p.head (world_of p) (by_agent c.args.conn (next_by p.head (world_of p) c.args.conn c.args.index c.args.range.now c.args.after true s)) ≡ true)
    (sym (guarded-stand p.head (world_of p) c.args.conn c.args.index c.args.range.now c.args.after c.key_name.result (judged_as Judged.AtLimit)
    (c.key_name.ensures ∙ ap (λ o. key_name c.args.index o) c.requires.found) (sym c.judge.ensures ∙ ap (λ (j : Judged). judged_as j) c.in-AtLimit.is)))
    (c.limit.ensures.full e)
