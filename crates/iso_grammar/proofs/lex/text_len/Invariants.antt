use Rattle.std.proofs.Common.{◌≡◌, ◌+◌, drop, false}
use Rattle.std.specs.Option.{option_map}
use Rattle.iso_grammar.specs.Lex.{text_from}
use Rattle.iso_grammar.proofs.lex.text_len.Given as goal

abbrev pub invariant-loop-i : goal.invariant-loop-i
invariant-loop-i l = option_map (λ n. n + l.i) (text_from l.closes (drop l.i l.bytes)) ≡ text_from false l.bytes
