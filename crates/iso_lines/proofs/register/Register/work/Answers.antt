use Rattle.std.proofs.Common.{List, subst, sym, arith}
use Rattle.std.proofs.lemmas.Option.{slice_get_read}
use Rattle.iso_queue.specs.Lines.{Line}
use Rattle.iso_lines.specs.Named.{line_of}
use Rattle.iso_types.specs.declared.value.TableId.{TableId}
use Rattle.iso_lines.specs.Weighs.{IsWeighed}
use Rattle.iso_lines.proofs.Seated.{Rests, seated-all}
use Rattle.iso_lines.proofs.Sums.{part_of, total_moved}
use Rattle.iso_lines.proofs.Waiting.{worked_rests}
use Rattle.iso_lines.proofs.register.Register.work.Goals as goal

pub work-requires-clause-seated : goal.work-requires-clause-seated
work-requires-clause-seated c =
    c.self.invariant.seated c.args.conn.0 c.index_mut-desk.result.now
    (slice_get_read c.self.inside.desks.items 32 c.args.conn.0 c.index_mut-desk.result.now (sym c.self.invariant.size) c.requires c.index_mut-desk.ensures.value)

pub work-requires-clause-weighed : goal.work-requires-clause-weighed
work-requires-clause-weighed c =
    subst (λ (ts : List TableId). IsWeighed ts c.self.inside.lines c.args.conn c.index_mut-desk.result.now.names.entries c.index_mut-desk.result.now.weights.items) (sym c.as_slice.ensures)
    (c.self.invariant.weighed c.args.conn.0 c.index_mut-desk.result.now
    (slice_get_read c.self.inside.desks.items 32 c.args.conn.0 c.index_mut-desk.result.now (sym c.self.invariant.size) c.requires c.index_mut-desk.ensures.value))

pub lessened-self-inside-requires-clause-lessens : goal.lessened-self-inside-requires-clause-lessens
lessened-self-inside-requires-clause-lessens c = omega (arith, c.work.ensures.fewer, c.len-before.ensures.len, c.len-after.ensures.len)

pub lessened-self-inside-requires-clause-part : goal.lessened-self-inside-requires-clause-part
lessened-self-inside-requires-clause-part c =
    let at = slice_get_read c.self.inside.desks.items 32 c.args.conn.0 c.index_mut-desk.result.now (sym c.self.invariant.size) c.requires c.index_mut-desk.ensures.value in
    let part = part_of c.self.inside.desks.items c.self.inside.total c.args.conn.0 c.self.invariant.size c.requires c.self.invariant.all c.index_mut-desk.result.now at in
    omega (arith, part, c.len-before.ensures.len)

pub invariant_of-self : goal.invariant_of-self
invariant_of-self c =
    let at = slice_get_read c.self.inside.desks.items 32 c.args.conn.0 c.index_mut-desk.result.now (sym c.self.invariant.size) c.requires c.index_mut-desk.ensures.value in
    seated-all c.self.inside.lines c.work.new.lines c.self.inside.desks.items c.self.inside.total c.self.inside.tables c.self.invariant c.args.conn.0 c.work.new.desk c.work.ensures.seated
    (subst (λ (ts : List TableId). IsWeighed ts c.work.new.lines c.args.conn c.work.new.desk.names.entries c.work.new.desk.weights.items) c.as_slice.ensures c.work.ensures.weighed)
    c.len-after.ensures.unique c.requires
    (λ d apart n. subst (λ (r : Line). Rests (line_of c.self.inside.lines n) r d) (sym (c.work.ensures.lines n))
    (worked_rests c.as_slice.result.now c.args.task.now c.args.conn n (line_of c.self.inside.lines n) d apart))
    c.lessened-self-inside.result
    (total_moved c.self.inside.desks.items c.self.inside.total c.args.conn.0 c.self.invariant.size c.requires c.self.invariant.all c.index_mut-desk.result.now at c.work.new.desk c.lessened-self-inside.result
    (omega (arith, c.lessened-self-inside.ensures, c.len-before.ensures.len, c.len-after.ensures.len)))
