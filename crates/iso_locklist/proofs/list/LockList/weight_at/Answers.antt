use Rattle.std.proofs.Common.{◌∙◌, ap}
use Rattle.iso_lines.specs.Weighs.{weighs}
use Rattle.iso_locklist.specs.Places.{Ledger, places_in}
use Rattle.iso_locklist.specs.Weights.{weight_in}
use Rattle.iso_locklist.proofs.Registered.{counted_in, places_line, weighs_nobody}
use Rattle.iso_queue.specs.Lines.{Line}
use Rattle.iso_locklist.proofs.list.LockList.weight_at.Goals as goal

pub returns : goal.returns
returns c =
    let lines = c.self.inside.register.lines in
    let ts = c.self.inside.register.tables in
    counted_in (places_in lines) c.self.invariant.apart (weighs ts c.args.conn c.args.table) (weighs_nobody ts c.args.conn c.args.table) c.weight.result
    (λ ns distinct members. c.weight.ensures ns distinct (λ n. members n ∙ ap (λ (q : Line). weighs ts c.args.conn c.args.table n q) (places_line lines n)))
    ∙ ap (λ (l : Ledger). weight_in l c.args.conn c.args.table) c.self.view_is
