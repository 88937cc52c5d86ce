use Rattle.std.proofs.Common.{subst, sym}
use Rattle.iso_agent.proofs.NextStepping.{next-stepped}
use Rattle.iso_agent.specs.Steps.{HasStepped}
use Rattle.iso_agent.specs.declared.stepped.Stepped.TheVariants.{Goes}
use Rattle.iso_reads.specs.Nexts.{next_act}
use Rattle.iso_state.specs.Stands.{content_of, world_of}
use Rattle.iso_agent.proofs.looks.make_next.Goals as goal

pub returns-in-Ok-clause-stepped : goal.returns-in-Ok-clause-stepped
returns-in-Ok-clause-stepped c =
    let p = c.args.parts.now in
    let q = c.next_entry.new.parts in
    subst (λ k. HasStepped p.head p.history.items q.history.items c.args.conn
    (next_act p.head (world_of p) c.args.conn c.args.index c.args.range.now c.args.after c.args.guarded) (Goes k))
    (sym c.keep_next.ensures)
    (next-stepped (content_of p) c.args.conn c.args.index c.args.range.now c.args.after c.args.guarded c.requires.runs.0 q.head q.history.items
    c.in-Ok.stepped c.waits.result c.in-Ok.ensures.head c.in-Ok.ensures.ok c.in-Ok.ensures.answer c.waits.ensures)
