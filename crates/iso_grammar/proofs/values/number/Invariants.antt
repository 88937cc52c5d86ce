use Rattle.std.proofs.Common.{◌≡◌, ◌≤◌, length}
use Rattle.iso_grammar.specs.Values.{number_after}
use Rattle.iso_grammar.proofs.values.number.Given as goal

abbrev pub invariant-loop-digits : goal.invariant-loop-digits
invariant-loop-digits l = record { small : l.number ≤ 9223372036854775808; rest : number_after l.number l.digits ≡ number_after 0 l.initial.digits }

abbrev pub decreases-loop-digits : goal.decreases-loop-digits
decreases-loop-digits l = length l.digits
