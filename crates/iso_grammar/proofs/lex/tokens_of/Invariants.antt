use Rattle.std.proofs.Common.{length, ◌-◌, ◌≡◌, ◌≤◌, ◌++◌, drop}
use Rattle.iso_grammar.specs.Lex.{tokens, tokens_from}
use Rattle.iso_grammar.proofs.lex.tokens_of.Given as goal

abbrev pub invariant-loop-at : goal.invariant-loop-at
invariant-loop-at l = record { within : l.at ≤ length l.line; so_far : l.found ++ tokens_from l.at 0 l.after_name (drop l.at l.line) ≡ tokens l.line }

abbrev pub decreases-loop-at : goal.decreases-loop-at
decreases-loop-at l = length l.line - l.at
