use Rattle.std.proofs.Common.{◌≡◌, ◌++◌, length, map}
use Rattle.iso_script.specs.Events.{column_of}
use Rattle.iso_script.proofs.events.columns_of.Given as goal

abbrev pub invariant-loop-words : goal.invariant-loop-words
invariant-loop-words l = l.columns ++ map (column_of l.line) l.words ≡ map (column_of l.line) l.initial.words

abbrev pub decreases-loop-words : goal.decreases-loop-words
decreases-loop-words l = length l.words
