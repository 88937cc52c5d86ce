use Rattle.std.proofs.Common.{◌≡◌, ◌<◌, ◌≤◌, ◌∙◌, ℕ, ap, arith, drop, is_some, length, subst, sym}
use Rattle.iso_conduct.specs.Pacing.{taking}
use Rattle.iso_conduct.specs.Schedule.{dispatcher_step}
use Rattle.iso_director.proofs.Ables.{bare-over, ending-some, line-left, over-some, stopped-over, taking-some}
use Rattle.iso_director.proofs.Leads.{none-cycle}
use Rattle.iso_history.specs.World.{Pace}
use Rattle.iso_state.specs.Stands.{world_of}
use Rattle.iso_types.specs.declared.head.Head.{Head}
use Rattle.iso_director.proofs.director.Director.able.Goals as goal

pub returns-then-parts-2-clause-able : goal.returns-then-parts-2-clause-able
returns-then-parts-2-clause-able c =
    let p = c.args.parts.now in
    let w = world_of p in
    let ls = drop c.args.self.now.taken c.args.script.now.lines in
    let none = none-cycle p.head w p.history.items p.history.items (sym c.is_cyclic.ensures.answer ∙ c.if-is_cyclic.false) in
    let open_ = ap (λ (q : Pace). q.finished) (sym c.requires.stands.parts.pace) ∙ c.if-parts.false in
    let over = stopped-over p.head w ls (ap (λ (q : Pace). q.stopped) (sym c.requires.stands.parts.pace) ∙ c.if-parts-2.true) in
    subst (λ (h : Head). c.quiet.result ≡ is_some (dispatcher_step h w ls)) c.requires.head
    (c.quiet.ensures ∙ (ending-some p c.requires.stands none ∙ over-some p.head w ls open_ none over.0 over.1))

pub returns-then-self-len-clause-able : goal.returns-then-self-len-clause-able
returns-then-self-len-clause-able c =
    let p = c.args.parts.now in
    let w = world_of p in
    let k = c.args.self.now.taken in
    let lines = c.args.script.now.lines in
    let none = none-cycle p.head w p.history.items p.history.items (sym c.is_cyclic.ensures.answer ∙ c.if-is_cyclic.false) in
    let open_ = ap (λ (q : Pace). q.finished) (sym c.requires.stands.parts.pace) ∙ c.if-parts.false in
    let le : length lines ≤ k = omega (arith, c.if-self-len.true, c.len.ensures, c.is_cyclic.ensures.taken) in
    let over = bare-over p.head w lines k le in
    subst (λ (h : Head). c.quiet-then-self-len.result ≡ is_some (dispatcher_step h w (drop k lines))) c.requires.head
    (c.quiet-then-self-len.ensures ∙ (ending-some p c.requires.stands none ∙ over-some p.head w (drop k lines) open_ none over.0 over.1))

pub returns-clause-able : goal.returns-clause-able
returns-clause-able c =
    let p = c.args.parts.now in
    let w = world_of p in
    let k = c.args.self.now.taken in
    let lines = c.args.script.now.lines in
    let none = none-cycle p.head w p.history.items p.history.items (sym c.is_cyclic.ensures.answer ∙ c.if-is_cyclic.false) in
    let open_ = ap (λ (q : Pace). q.finished) (sym c.requires.stands.parts.pace) ∙ c.if-parts.false in
    let going = ap (λ (q : Pace). q.stopped) (sym c.requires.stands.parts.pace) ∙ c.if-parts-2.false in
    let lt : k < length lines = omega (arith, c.if-self-len.false, c.len.ensures, c.is_cyclic.ensures.taken) in
    let takes : c.can_go_on.result ≡ is_some (taking p.head w (drop k lines)) =
    subst (λ (n : ℕ). c.can_go_on.result ≡ is_some (taking p.head w (drop n lines))) c.is_cyclic.ensures.taken c.can_go_on.ensures.takes in
    subst (λ (h : Head). c.can_go_on.result ≡ is_some (dispatcher_step h w (drop k lines))) c.requires.head
    (takes ∙ taking-some p.head w (drop k lines) open_ none (line-left w lines k lt going))
