use Rattle.std.proofs.Common.{◌∙◌, ap, sym}
use Rattle.std.specs.Option.{option_map}
use Rattle.iso_locklist.specs.Places.{line_at}
use Rattle.iso_locklist.proofs.Edges.{wait_nowhere, wait_there}
use Rattle.iso_locklist.proofs.Registered.{some_of}
use Rattle.iso_modes.specs.declared.Mode.{Mode}
use Rattle.iso_queue.specs.Lines.{waiter_of}
use Rattle.iso_queue.specs.Queues.{Wait}
use Rattle.iso_queue.specs.declared.types.Waiter.{Waiter}
use Rattle.iso_types.specs.declared.value.Name.{Name}
use Rattle.iso_locklist.proofs.list.LockList.waits.Goals as goal

pub returns-in-Some-target_at : goal.returns-in-Some-target_at
returns-in-Some-target_at c = λ hs xs are single.
    let line = (λ (n : Name). line_at c.args.self.now.places n) in
    let n = c.in-Some.name.now in
    let w = some_of (waiter_of (line n).waiters c.args.conn) c.in-Some.ensures.some in
    ap (option_map (λ (m : Mode). (n, m))) (sym c.in-Some-target_at.is ∙ c.target_at.ensures ∙ ap (option_map (λ (x : Waiter). x.target)) w.1)
    ∙ ap (option_map (λ (x : Wait). (x.name, x.target))) (sym (wait_there hs xs line are c.args.conn single n w.0 w.1))

pub returns-in-None : goal.returns-in-None
returns-in-None c = λ hs xs are single.
    ap (option_map (λ (x : Wait). (x.name, x.target))) (sym (wait_nowhere hs xs (λ (n : Name). line_at c.args.self.now.places n) are c.args.conn single c.in-None.ensures.none))
