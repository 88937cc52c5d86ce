use Rattle.std.proofs.Common.{◌≡◌, ◌++◌, List, [], sym, ap, ◌∙◌}
use Rattle.std.proofs.lemmas.List.{append-nil}
use Rattle.iso_lines.specs.Named.{line_of}
use Rattle.iso_locklist.specs.Places.{place}
use Rattle.iso_locklist.specs.Snapshots.{lines_of}
use Rattle.iso_locklist.proofs.Listing.{lines_nobody}
use Rattle.iso_queue.specs.Lines.{Line}
use Rattle.iso_queue.specs.declared.LockLine.{LockLine}
use Rattle.iso_locklist.proofs.snapshot.push_lines.Goals as goal

pub returns-in-None : goal.returns-in-None
returns-in-None c =
    let none : lines_of c.args.head.now (place c.args.name.now (line_of c.args.register.now.lines c.args.name.now)) ≡ [] =
    ap (λ (q : Line). lines_of c.args.head.now (place c.args.name.now q)) c.in-None.ensures.none ∙ lines_nobody c.args.head.now c.args.name.now in
    sym (append-nil c.args.lines.now) ∙ ap (λ (l : List LockLine). c.args.lines.now ++ l) (sym none)
