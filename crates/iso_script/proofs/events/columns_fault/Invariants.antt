use Rattle.std.proofs.Common.{◌≡◌, length, None, []}
use Rattle.iso_script.specs.Events.{columns_fault}
use Rattle.iso_script.proofs.events.columns_fault.Given as goal

abbrev pub invariant-loop-words : goal.invariant-loop-words
invariant-loop-words l = columns_fault l.line l.fault l.before l.words ≡ columns_fault l.line None [] l.initial.words

abbrev pub decreases-loop-words : goal.decreases-loop-words
decreases-loop-words l = length l.words
