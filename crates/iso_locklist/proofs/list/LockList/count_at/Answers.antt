use Rattle.std.proofs.Common.{◌∙◌, ap, refl}
use Rattle.iso_locklist.specs.Places.{Ledger, places_in, taken}
use Rattle.iso_locklist.proofs.Registered.{counted_in, places_line}
use Rattle.iso_queue.specs.Lines.{Line, is_touched}
use Rattle.iso_locklist.proofs.list.LockList.count_at.Goals as goal

pub returns : goal.returns
returns c =
    let lines = c.self.inside.register.lines in
    counted_in (places_in lines) c.self.invariant.apart (λ n q. is_touched q c.args.conn) (λ n. refl) c.count.result
    (λ ns distinct members. c.count.ensures.number ns distinct (λ n. members n ∙ ap (λ (q : Line). is_touched q c.args.conn) (places_line lines n)))
    ∙ ap (λ (l : Ledger). taken l.places c.args.conn) c.self.view_is
