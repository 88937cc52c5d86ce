use Rattle.std.proofs.Common.{◌≡◌, ◌∙◌, true, ap, sym}
use Rattle.iso_queue.specs.Lines.{Line, is_touched}
use Rattle.iso_lines.specs.Named.{line_of}
use Rattle.iso_lines.proofs.Parts.{changed_some}
use Rattle.iso_lines.proofs.Weighing.{room_less, weighed_step}
use Rattle.iso_lines.proofs.desk.change_weighed.Goals as goal

pub reweigh-requires-clause-less : goal.reweigh-requires-clause-less
reweigh-requires-clause-less c =
    let n = c.args.name.now in
    let still = (λ (h : is_touched (line_of c.change.new.self n) c.args.conn ≡ true). c.requires.there n
    (changed_some c.args.change (line_of c.args.lines.now n) c.args.conn (ap (λ (l : Line). is_touched l c.args.conn) (sym c.change.ensures.line) ∙ h))) in
    room_less c.args.tables.now c.args.conn c.args.names.now.entries c.len.ensures.unique c.args.lines.now c.change.new.self n c.change.ensures.others
    (c.requires.there n) still c.args.weights.now.items c.requires.weighed c.table_of.result c.table_of.ensures
    c.holds_long-before.result c.holds_long-after.result c.holds_long-before.ensures c.holds_long-after.ensures

pub returns-clause-weighed : goal.returns-clause-weighed
returns-clause-weighed c =
    let n = c.args.name.now in
    let still = (λ (h : is_touched (line_of c.change.new.self n) c.args.conn ≡ true). c.requires.there n
    (changed_some c.args.change (line_of c.args.lines.now n) c.args.conn (ap (λ (l : Line). is_touched l c.args.conn) (sym c.change.ensures.line) ∙ h))) in
    weighed_step c.args.tables.now c.args.conn c.args.names.now.entries c.len.ensures.unique c.args.lines.now c.change.new.self n c.change.ensures.others
    (c.requires.there n) still c.args.weights.now.items c.requires.weighed c.table_of.result c.table_of.ensures
    c.holds_long-before.result c.holds_long-after.result c.holds_long-before.ensures c.holds_long-after.ensures
    c.reweigh.new.weights.items c.reweigh.ensures.size c.reweigh.ensures.weights
