use Rattle.std.proofs.Common.{List, subst, ap}
use Rattle.iso_grammar.specs.declared.token.Token.{Token}
use Rattle.iso_grammar.specs.Grammar.{Answers}
use Rattle.iso_grammar.specs.Reading.{Input}
use Rattle.iso_script.specs.Rules as rule
use Rattle.iso_script.proofs.RuleLaws.{rule_answers}
use Rattle.iso_script.proofs.progress.Progress.said.Goals as goal

pub returns : goal.returns
returns c =
    subst (λ (ts : List Token). Answers (rule.rule c.args.self.now.reader.place c.args.self.now.reader c.args.line.now) ts c.whole_line.result) (ap (λ (i : Input). i.rest) c.new-cursor.ensures)
    (rule_answers c.args.self.now.reader.place c.args.self.now.reader c.args.line.now c.new-cursor.result c.whole_line.new.tokens c.whole_line.result c.whole_line.ensures)
