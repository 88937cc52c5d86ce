use Rattle.std.proofs.Common.{◌∙◌, Option, ap, sym}
use Rattle.std.specs.List.{list_any}
use Rattle.std.specs.Option.{option_map_or}
use Rattle.iso_locklist.specs.Places.{line_at}
use Rattle.iso_locklist.proofs.Edges.{edges_shown, wait_nowhere}
use Rattle.iso_locklist.proofs.Registered.{some_of}
use Rattle.iso_queue.specs.Lines.{bits_of, waiter_of}
use Rattle.iso_queue.specs.Queues.{Wait, blockers}
use Rattle.iso_types.specs.Ids.{conn_eq}
use Rattle.iso_locklist.proofs.list.LockList.edges.Goals as goal

pub returns-in-Some : goal.returns-in-Some
returns-in-Some c = λ hs xs are single.
    let line = line_at c.args.self.now.places in
    let w = some_of (waiter_of (line c.in-Some.name.now).waiters c.args.conn) c.in-Some.ensures.some in
    c.edges_at.ensures ∙ edges_shown hs xs line are c.args.conn single c.in-Some.name.now w.0 w.1

pub returns-in-None : goal.returns-in-None
returns-in-None c = λ hs xs are single.
    ap (λ (o : Option Wait). option_map_or (λ x. bits_of (λ d. list_any (conn_eq d) (blockers hs xs x)) 32) o 0)
    (sym (wait_nowhere hs xs (line_at c.args.self.now.places) are c.args.conn single c.in-None.ensures.none))
