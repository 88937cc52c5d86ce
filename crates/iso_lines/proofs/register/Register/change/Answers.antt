use Rattle.std.proofs.Common.{List, subst, sym, arith}
use Rattle.std.proofs.lemmas.Option.{slice_get_read}
use Rattle.iso_queue.specs.Lines.{Line}
use Rattle.iso_lines.specs.Named.{line_of}
use Rattle.iso_types.specs.declared.value.TableId.{TableId}
use Rattle.iso_lines.specs.Weighs.{IsWeighed}
use Rattle.iso_lines.proofs.Seated.{Rests, rests_one, seated-all}
use Rattle.iso_lines.proofs.Sums.{part_of, total_moved}
use Rattle.iso_lines.proofs.Waiting.{changed_rests}
use Rattle.iso_lines.proofs.register.Register.change.Goals as goal

pub change_in-requires-clause-seated : goal.change_in-requires-clause-seated
change_in-requires-clause-seated c =
    c.self.invariant.seated c.args.conn.0 c.index_mut-desk.result.now
    (slice_get_read c.self.inside.desks.items 32 c.args.conn.0 c.index_mut-desk.result.now (sym c.self.invariant.size) c.requires c.index_mut-desk.ensures.value)

pub change_in-requires-clause-weighed : goal.change_in-requires-clause-weighed
change_in-requires-clause-weighed c =
    subst (λ (ts : List TableId). IsWeighed ts c.self.inside.lines c.args.conn c.index_mut-desk.result.now.names.entries c.index_mut-desk.result.now.weights.items) (sym c.as_slice.ensures)
    (c.self.invariant.weighed c.args.conn.0 c.index_mut-desk.result.now
    (slice_get_read c.self.inside.desks.items 32 c.args.conn.0 c.index_mut-desk.result.now (sym c.self.invariant.size) c.requires c.index_mut-desk.ensures.value))

pub lessened-self-inside-requires-clause-lessens : goal.lessened-self-inside-requires-clause-lessens
lessened-self-inside-requires-clause-lessens c = omega (arith, c.change_in.ensures.fewer, c.len-before.ensures.len, c.len-after.ensures.len)

pub lessened-self-inside-requires-clause-part : goal.lessened-self-inside-requires-clause-part
lessened-self-inside-requires-clause-part c =
    let at = slice_get_read c.self.inside.desks.items 32 c.args.conn.0 c.index_mut-desk.result.now (sym c.self.invariant.size) c.requires c.index_mut-desk.ensures.value in
    let part = part_of c.self.inside.desks.items c.self.inside.total c.args.conn.0 c.self.invariant.size c.requires c.self.invariant.all c.index_mut-desk.result.now at in
    omega (arith, part, c.len-before.ensures.len)

pub invariant_of-self : goal.invariant_of-self
invariant_of-self c =
    let at = slice_get_read c.self.inside.desks.items 32 c.args.conn.0 c.index_mut-desk.result.now (sym c.self.invariant.size) c.requires c.index_mut-desk.ensures.value in
    let q = line_of c.self.inside.lines c.args.name.now in
    seated-all c.self.inside.lines c.change_in.new.lines c.self.inside.desks.items c.self.inside.total c.self.inside.tables c.self.invariant c.args.conn.0 c.change_in.new.desk c.change_in.ensures.seated
    (subst (λ (ts : List TableId). IsWeighed ts c.change_in.new.lines c.args.conn c.change_in.new.desk.names.entries c.change_in.new.desk.weights.items) c.as_slice.ensures c.change_in.ensures.weighed)
    c.len-after.ensures.unique c.requires
    (λ d apart. rests_one c.self.inside.lines c.change_in.new.lines c.args.name.now c.change_in.ensures.others d
    (subst (λ (r : Line). Rests q r d) (sym c.change_in.ensures.line) (changed_rests c.args.change q c.args.conn d apart)))
    c.lessened-self-inside.result
    (total_moved c.self.inside.desks.items c.self.inside.total c.args.conn.0 c.self.invariant.size c.requires c.self.invariant.all c.index_mut-desk.result.now at c.change_in.new.desk c.lessened-self-inside.result
    (omega (arith, c.lessened-self-inside.ensures, c.len-before.ensures.len, c.len-after.ensures.len)))
