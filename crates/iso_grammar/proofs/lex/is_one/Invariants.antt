use Rattle.std.proofs.Common.{◌≡◌, length}
use Rattle.iso_grammar.specs.Lex.{is_one}
use Rattle.iso_grammar.proofs.lex.is_one.Given as goal

abbrev pub invariant-loop-digits : goal.invariant-loop-digits
invariant-loop-digits l = is_one l.digits ≡ is_one l.initial.digits

abbrev pub decreases-loop-digits : goal.decreases-loop-digits
decreases-loop-digits l = length l.digits
