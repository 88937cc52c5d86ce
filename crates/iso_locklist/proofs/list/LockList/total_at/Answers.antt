use Rattle.std.proofs.Common.{◌∙◌, ap}
use Rattle.iso_locklist.specs.Places.{Ledger, all_taken, places_in}
use Rattle.iso_locklist.proofs.Registered.{places_line, summed_in}
use Rattle.iso_queue.specs.Lines.{Line, is_touched}
use Rattle.iso_locklist.proofs.list.LockList.total_at.Goals as goal

pub returns : goal.returns
returns c =
    let lines = c.self.inside.register.lines in
    c.total.ensures.total
    ∙ summed_in (places_in lines) c.self.invariant.apart c.self.inside.register.names
    (λ d lt ns distinct members. c.total.ensures.each d lt ns distinct (λ n. members n ∙ ap (λ (q : Line). is_touched q d) (places_line lines n)))
    ∙ ap (λ (l : Ledger). all_taken l.places) c.self.view_is
