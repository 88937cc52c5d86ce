use Rattle.std.proofs.Common.{◌<◌, ◌≡◌, ◌∙◌, Bool, true, false, true≢false, length, arith, refl, ap, sym, is_some}
use Rattle.std.proofs.lemmas.Option.{slice_get_within}
use Rattle.iso_types.specs.declared.value.Name.{Name}
use Rattle.iso_lines.proofs.Released.{stands_within}
use Rattle.iso_queue.specs.Lines.{Line, is_touched}
use Rattle.iso_lines.proofs.Pruned.{worked_some}
use Rattle.iso_lines.proofs.Seated.{touched_back}
use Rattle.iso_lines.proofs.Worked.{worked-all, worked-more, worked_still}
use Rattle.iso_lines.specs.Named.{key_of, line_of}
use Rattle.iso_lines.specs.Tasks.{concerns, worked}
use Rattle.iso_lines.proofs.work.work_over.Goals as goal

pub loop-at-preserved : goal.loop-at-preserved
loop-at-preserved c =
    let lt : c.loop-at.at < length c.args.names.now.entries = omega (arith, c.loop-at-test.true, c.len-at-end.ensures.len) in
    let e = stands_within c.args.names.now.entries c.loop-at.at lt in
    let step = worked-more c.args.names.now.entries c.args.lines.now c.loop-at.lines c.work_at.new.lines (worked c.args.tables.now c.args.task.now c.args.conn) c.loop-at.at
    c.len-at-end.ensures.unique c.loop-at.invariant.done e.0 e.1 (c.work_at.ensures.line e.0 e.1) (c.work_at.ensures.others e.0 e.1) in
    let back = touched_back c.loop-at.lines c.work_at.new.lines e.0.0 c.args.conn (c.work_at.ensures.others e.0 e.1)
    (λ h. worked_some c.args.tables.now c.args.task.now c.args.conn e.0.0 (line_of c.loop-at.lines e.0.0)
    (ap (λ (l : Line). is_touched l c.args.conn) (sym (c.work_at.ensures.line e.0 e.1)) ∙ h)) in
    record { done = step; there = λ n h. c.loop-at.invariant.there n (back n h); weighed = c.work_at.ensures.weighed }

pub returns-clause-lines : goal.returns-clause-lines
returns-clause-lines c n =
    worked-all c.args.names.now.entries c.args.lines.now c.loop-at.lines (worked c.args.tables.now c.args.task.now c.args.conn) c.loop-at.at
    (λ i e g. let w = slice_get_within c.args.names.now.entries i e g in omega (arith, w, c.loop-at-test.false, c.len-at-end.ensures.len))
    (λ m none. worked_still c.args.tables.now c.args.task.now c.args.conn m (line_of c.args.lines.now m)
    (unconcerned m none (concerns c.args.task.now c.args.conn (line_of c.args.lines.now m)) refl)) c.loop-at.invariant.done n
  where
    unconcerned : (m : Name) → is_some (key_of c.args.names.now.entries m) ≡ false → (b : Bool) → concerns c.args.task.now c.args.conn (line_of c.args.lines.now m) ≡ b → b ≡ false
    unconcerned m none true e = absurd (true≢false (sym (c.requires.concerned m e) ∙ none))
    unconcerned m none false e = refl
