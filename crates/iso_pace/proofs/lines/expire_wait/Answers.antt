use Rattle.std.proofs.Common.{◌-◌, ◌∙◌, ap, false, true}
use Rattle.iso_history.specs.declared.entry.Act.TheVariants.{Expire}
use Rattle.iso_history.specs.declared.entry.Entry.{Entry}
use Rattle.iso_types.specs.declared.desk.Desk.{Desk}
use Rattle.iso_types.specs.declared.desk.Phase.TheVariants.{Rolling}
use Rattle.iso_state.specs.Changes.{seated}
use Rattle.iso_state.specs.Stands.{Content, content_of, desk_at, pace_of, world_of}
use Rattle.iso_pace.proofs.Rolls.{expire-ends, may-expire, wait-covers, wait-place}
use Rattle.iso_pace.proofs.lines.expire_wait.Goals as goal

pub overflow_sub-parts : goal.overflow_sub-parts
overflow_sub-parts c =
    let p = c.args.parts.now in
    wait-covers p p (Expire c.args.line c.args.conn true) c.args.conn 68 c.requires.stands c.requires.conn c.requires.waits
    (may-expire p c.args.line c.args.conn c.requires.open c.requires.may c.requires.going c.requires.conn c.requires.waits c.requires.quiet)
    (expire-ends p.head (world_of p) c.args.line c.args.conn)

pub returns-clause-stands : goal.returns-clause-stands
returns-clause-stands c =
    let p = c.args.parts.now in
    let l = c.cancel.new.self in
    let x : Content = record (content_of p) { locks = l; reserved = p.reserved - 1; pace = record (pace_of p.pace) { purged = false } } in
    wait-place p c.move_to.new.parts (Expire c.args.line c.args.conn true) c.args.conn 68 c.requires.stands c.requires.conn c.requires.waits
    (may-expire p c.args.line c.args.conn c.requires.open c.requires.may c.requires.going c.requires.conn c.requires.waits c.requires.quiet)
    (expire-ends p.head (world_of p) c.args.line c.args.conn) l c.move_to.ensures.spends
    (c.cancel.ensures.lists (world_of p).holds (world_of p).waits c.requires.stands.parts.locks) c.cancel.ensures.limits
    (c.move_to.ensures.wrote
    ∙ ap (λ (d : Desk). seated x c.args.conn (record d { phase = Rolling; doom = 68 }) c.of_dispatcher.result) c.desk_of.ensures
    ∙ ap (λ (e : Entry). seated x c.args.conn (record (desk_at p.desks c.args.conn) { phase = Rolling; doom = 68 }) e) c.of_dispatcher.ensures)
