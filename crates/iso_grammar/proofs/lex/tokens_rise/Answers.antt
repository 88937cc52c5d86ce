use Rattle.iso_grammar.proofs.Rising.{rises}
use Rattle.iso_grammar.proofs.lex.tokens_rise.Goals as goal

pub returns : goal.returns
returns c = rises
