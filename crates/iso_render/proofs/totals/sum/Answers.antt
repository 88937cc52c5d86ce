use Rattle.std.proofs.Common.{◌≡◌, ◌≤◌, ◌∙◌, IfOk, arith, length, refl, subst}
use Rattle.iso_render.specs.Summary.{is_answer, is_busy, is_escalation, is_victim, is_wait, summary, summed}
use Rattle.iso_render.proofs.Summed.{counts_all, few_on, heard-few-on, number_on, tallied_all, tallied_on}
use Rattle.iso_render.proofs.totals.sum.Goals as goal

pub loop-entry-preserved : goal.loop-entry-preserved
loop-entry-preserved c =
    let w = c.with-counts.ensures in
    let i = c.loop-entry.invariant in
    record {
      answers = number_on is_answer c.args.entries.now _ _ _ _ _ c.loop-entry-test.true c.entry-item.is w.answers i.answers;
      busy = number_on is_busy c.args.entries.now _ _ _ _ _ c.loop-entry-test.true c.entry-item.is w.busy i.busy;
      waits = number_on is_wait c.args.entries.now _ _ _ _ _ c.loop-entry-test.true c.entry-item.is w.waits i.waits;
      escalations = number_on is_escalation c.args.entries.now _ _ _ _ _ c.loop-entry-test.true c.entry-item.is w.escalations i.escalations;
      victims = number_on is_victim c.args.entries.now _ _ _ _ _ c.loop-entry-test.true c.entry-item.is w.victims i.victims;
      answers_few = few_on _ _ _ _ w.answers i.answers_few;
      busy_few = few_on _ _ _ _ w.busy i.busy_few;
      waits_few = few_on _ _ _ _ w.waits i.waits_few;
      escalations_few = few_on _ _ _ _ w.escalations i.escalations_few;
      victims_few = few_on _ _ _ _ w.victims i.victims_few;
      tallies = tallied_on c.args.entries.now _ _ _ _ _ c.loop-entry-test.true c.entry-item.is c.in_ok-hear.ensures i.tallies;
      tallies_few = heard-few-on _ _ _ _ c.in_ok-hear.ensures i.tallies_few;
    }

pub returns : goal.returns
returns c =
    let es = c.args.entries.now in
    let i = c.loop-entry.invariant in
    let over : length es ≤ c.loop-entry.entry-index = omega (arith, c.loop-entry-test.false) in
    let counted = counts_all es _ c.loop-entry.counts over i.answers i.busy i.waits i.escalations i.victims in
    let heard = c.as_slice.ensures.value ∙ tallied_all es _ c.loop-entry.tallies.items over i.tallies in
    let lines : c.len.result ≡ length c.args.script.now.lines = c.len.ensures in
    let text : summed c.len.result c.loop-entry.counts c.as_slice.result.now ≡ summary c.args.script.now es = rw (lines, counted, heard) refl in
    let told : IfOk c.print.result (λ t. t ≡ summed c.len.result c.loop-entry.counts c.as_slice.result.now) = c.print.ensures in
    subst (λ x. IfOk c.print.result (λ t. t ≡ x)) text told
