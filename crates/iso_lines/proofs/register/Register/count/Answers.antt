use Rattle.std.proofs.Common.{◌∙◌, ap, sym, arith}
use Rattle.std.proofs.Common.{is_some}
use Rattle.std.proofs.lemmas.Option.{slice_get_read}
use Rattle.iso_queue.specs.Lines.{is_touched}
use Rattle.iso_lines.specs.Locks.{Locks, names_of}
use Rattle.iso_lines.specs.Named.{key_of, line_of}
use Rattle.iso_lines.specs.declared.desk.Desk.{Desk}
use Rattle.iso_lines.proofs.Sums.{part_of}
use Rattle.iso_lines.proofs.Seated.{read_at}
use Rattle.iso_lines.proofs.Counted.{counted_names}
use Rattle.iso_lines.proofs.register.Register.count.Goals as goal

pub prove-unreachable-requires : goal.prove-unreachable-requires
prove-unreachable-requires c =
    let at = slice_get_read c.self.inside.desks.items 32 c.args.conn.0 c.index.result.now (sym c.self.invariant.size) c.requires c.index.ensures in
    let part = part_of c.self.inside.desks.items c.self.inside.total c.args.conn.0 c.self.invariant.size c.requires c.self.invariant.all c.index.result.now at in
    omega (arith, part, c.if-prove.true, c.len-count.ensures.len)

pub returns-clause-names : goal.returns-clause-names
returns-clause-names c n =
    let at = slice_get_read c.self.inside.desks.items 32 c.args.conn.0 c.index.result.now (sym c.self.invariant.size) c.requires c.index.ensures in
    ap (λ (v : Locks). is_some (key_of (names_of v c.args.conn) n)) (sym c.self.view_is)
    ∙ ap (λ es. is_some (key_of es n)) (read_at (λ (d : Desk). d.names.entries) c.self.inside.desks.items c.args.conn.0 c.index.result.now at)
    ∙ (c.self.invariant.seated c.args.conn.0 c.index.result.now at).touched n
    ∙ ap (λ (v : Locks). is_touched (line_of v.lines n) c.args.conn) c.self.view_is

pub returns-clause-number : goal.returns-clause-number
returns-clause-number c ns distinct touched =
    let at = slice_get_read c.self.inside.desks.items 32 c.args.conn.0 c.index.result.now (sym c.self.invariant.size) c.requires c.index.ensures in
    c.len-count.ensures.len
    ∙ counted_names c.index.result.now.names.entries c.len-count.ensures.unique ns distinct (λ n.
    (c.self.invariant.seated c.args.conn.0 c.index.result.now at).touched n ∙ ap (λ (v : Locks). is_touched (line_of v.lines n) c.args.conn) c.self.view_is ∙ sym (touched n))
