use Rattle.std.proofs.Common.{List, subst, ap}
use Rattle.iso_grammar.specs.declared.token.Token.{Token}
use Rattle.iso_grammar.specs.Grammar.{Answers}
use Rattle.iso_grammar.specs.Reading.{Input}
use Rattle.iso_grammar.proofs.Whole.{answers}
use Rattle.iso_sql.specs.Statements as rule
use Rattle.iso_sql.proofs.StatementLaws.{statement-reads}
use Rattle.iso_sql.proofs.read.said.Goals as goal

pub returns : goal.returns
returns c =
    subst (λ (ts : List Token). Answers (rule.statement c.args.head.now c.args.text.now) ts c.whole.result) (ap (λ (i : Input). i.rest) c.new-cursor.ensures)
    (answers (statement-reads c.args.head.now c.args.text.now) c.new-cursor.result c.whole.new.tokens c.whole.result c.whole.ensures)
