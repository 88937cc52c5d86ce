use Rattle.std.proofs.Common.{◌≡◌, rules, length, ap, arith}
use Rattle.std.proofs.lemmas.Fn.{filter_same}
use Rattle.iso_queue.specs.Lines.{unqueued}
use Rattle.iso_queue.proofs.Steps.{fewer_waiters}
use Rattle.iso_queue.proofs.lists.unqueue.Goals as goal

pub returns-clause-items : goal.returns-clause-items
returns-clause-items c = filter_same _ _ _ (λ x b f' k. search rules) _ _ c.retain.ensures.filtered

pub returns-clause-fewer : goal.returns-clause-fewer
returns-clause-fewer c = λ e.
    let s : c.retain.new.self.items ≡ unqueued c.args.conn c.args.waiters.now.items = filter_same _ _ _ (λ x b f' k. search rules) _ _ c.retain.ensures.filtered in
    omega (arith, fewer_waiters c.args.conn c.args.waiters.now.items e, ap length s, c.retain.new.self.ok, c.args.waiters.now.ok)
