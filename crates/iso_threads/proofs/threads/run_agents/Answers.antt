use Rattle.std.proofs.Common.{rules, ◌≡◌, ◌≤◌, length, vec_len, sym, ap, ◌∙◌, subst, Some}
use Rattle.iso_agent.proofs.Entering.{same_head}
use Rattle.iso_conduct.proofs.Chained.{all-guarded}
use Rattle.iso_history.specs.Legal.{Ground}
use Rattle.iso_latch.specs.Told.{head_of}
use Rattle.iso_serial.proofs.Heads.{head-fits}
use Rattle.iso_threads.proofs.Ends.{finished-of, fresh-dealt, legal-of}
use Rattle.iso_threads.specs.Kept.{HasFinished}
use Rattle.iso_types.specs.declared.head.Head.{Head}
use Rattle.iso_threads.proofs.threads.run_agents.Goals as goal

pub new-requires-3 : goal.new-requires-3
new-requires-3 g c = record { fits = head-fits c.args.script.now.head c.requires.sound.head }

pub drive_all-requires-clause-ready : goal.drive_all-requires-clause-ready
drive_all-requires-clause-ready g c κs within =
    let script = c.args.script.now in
    let l = c.in_ok-latch.ensures in
    let d = c.in_ok-pass.ensures in
    let some : length script.head.conns ≤ 32 = c.requires.sound.head.some_conns in
    let head : head_of c.in_ok-latch.pass.seat ≡ Some script.head = l.head ∙ ap (λ (h : Head). Some h) c.in_ok-first.ensures.head in
    let count : length c.in_ok-pass.passes.items ≡ length script.head.conns = search rules in
    record {
      host = record { of = d.of ∙ l.of; head = d.first.1 ∙ head; voice = d.first.0 };
      fresh = d.first.2 ∙ l.seen;
      all = fresh-dealt c.in_ok-latch.latch.table.shared.table_id c.in_ok-latch.pass.seat.table_id script c.in_ok-latch.pass
          c.in_ok-pass.passes.items l.of d.dealt d.fresh head l.seen;
      few = subst (λ (n : _). n ≤ 32) (sym count) some;
      count = count;
    }

pub returns-clause-legal : goal.returns-clause-legal
returns-clause-legal g c =
    let script = c.args.script.now in
    let met = c.in_ok-pass-2.ensures in
    let is = c.into_history.ensures.history ∙ c.close.ensures.history in
    let same = same_head c.close.result.head script.head (head_of c.in_ok-pass-2.pass.seat) c.close.ensures.head met.host.head in
    let few : length script.head.conns ≤ vec_len c.in_ok-pass.passes = search rules in
    legal-of c.in_ok-latch.latch.table.shared.table_id script (vec_len c.in_ok-pass.passes) c.in_ok-pass-2.pass c.into_history.result.items
    met is (subst (λ (h : Head). Ground h c.into_history.result.items) same c.into_history.ensures.ground) few

pub returns-clause-finished : goal.returns-clause-finished
returns-clause-finished g c =
    let script = c.args.script.now in
    let met = c.in_ok-pass-2.ensures in
    let is = c.into_history.ensures.history ∙ c.close.ensures.history in
    let same = same_head c.close.result.head script.head (head_of c.in_ok-pass-2.pass.seat) c.close.ensures.head met.host.head in
    finished-of script c.into_history.result.items (subst (λ (h : Head). Ground h c.into_history.result.items) same c.into_history.ensures.ground)
    (subst (HasFinished script) (sym is) met.finished)

pub returns-clause-guarded : goal.returns-clause-guarded
returns-clause-guarded g c =
    let script = c.args.script.now in
    let met = c.in_ok-pass-2.ensures in
    let is = c.into_history.ensures.history ∙ c.close.ensures.history in
    let same = same_head c.close.result.head script.head (head_of c.in_ok-pass-2.pass.seat) c.close.ensures.head met.host.head in
    let few : length script.head.conns ≤ vec_len c.in_ok-pass.passes = search rules in
    all-guarded script c.into_history.result.items
    (legal-of c.in_ok-latch.latch.table.shared.table_id script (vec_len c.in_ok-pass.passes) c.in_ok-pass-2.pass c.into_history.result.items
    met is (subst (λ (h : Head). Ground h c.into_history.result.items) same c.into_history.ensures.ground) few)
