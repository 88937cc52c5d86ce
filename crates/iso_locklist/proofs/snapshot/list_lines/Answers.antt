use Rattle.std.proofs.Common.{◌++◌, ◌∙◌, List, Bor, ap, sym}
use Rattle.iso_lines.specs.Named.{line_of}
use Rattle.iso_locklist.specs.Places.{place}
use Rattle.iso_locklist.specs.Snapshots.{lines_of}
use Rattle.iso_locklist.proofs.Listing.{flat_more}
use Rattle.iso_queue.specs.declared.LockLine.{LockLine}
use Rattle.iso_types.specs.declared.value.Name.{Name}
use Rattle.iso_locklist.proofs.snapshot.list_lines.Goals as goal

pub loop-name-preserved : goal.loop-name-preserved
loop-name-preserved c =
    let f = (λ (n : Bor Name). lines_of c.args.head.now (place n.now (line_of c.args.register.now.lines n.now))) in
    c.in_ok-push_lines.ensures ∙ ap (λ (l : List LockLine). l ++ f c.name-item.result) c.loop-name.invariant
    ∙ sym (flat_more f c.args.names.now c.loop-name.name-index c.name-item.result c.loop-name-test.true c.name-item.is)
