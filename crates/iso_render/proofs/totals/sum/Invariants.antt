use Rattle.std.proofs.Common.{◌≡◌, ◌≤◌, ◌+◌, drop, []}
use Rattle.std.specs.List.{AllByRecursion}
use Rattle.iso_render.specs.Summary.{is_answer, is_busy, is_escalation, is_victim, is_wait, number, tallied}
use Rattle.iso_render.proofs.totals.sum.Given as goal

abbrev pub invariant-loop-entry : goal.invariant-loop-entry
invariant-loop-entry l =
    let rest = drop l.entry-index l.entries in
    record {
      answers : l.counts.answers + number is_answer rest ≡ number is_answer l.entries;
      busy : l.counts.busy + number is_busy rest ≡ number is_busy l.entries;
      waits : l.counts.waits + number is_wait rest ≡ number is_wait l.entries;
      escalations : l.counts.escalations + number is_escalation rest ≡ number is_escalation l.entries;
      victims : l.counts.victims + number is_victim rest ≡ number is_victim l.entries;
      answers_few : l.counts.answers ≤ l.entry-index;
      busy_few : l.counts.busy ≤ l.entry-index;
      waits_few : l.counts.waits ≤ l.entry-index;
      escalations_few : l.counts.escalations ≤ l.entry-index;
      victims_few : l.counts.victims ≤ l.entry-index;
      tallies : tallied l.tallies.items rest ≡ tallied [] l.entries;
      tallies_few : AllByRecursion (λ t. t.count ≤ l.entry-index) l.tallies.items;
    }
