use Rattle.std.proofs.Common.{refl, []}
use Rattle.iso_grammar.proofs.Rising.{rises}
use Rattle.iso_grammar.specs.Lex.{tokens}
use Rattle.iso_sql.proofs.EveryLaws.{listed-least, stored-least}
use Rattle.iso_sql.proofs.EverySets.{assigned-least}
use Rattle.iso_sql.proofs.EveryStatements.{inserted-least, selected-least, updated-least}
use Rattle.iso_sql.proofs.EveryTexts.{text-has, text-is, text-told}
use Rattle.iso_sql.proofs.Firsts.{one-least}
use Rattle.iso_sql.proofs.StandingLaws.{standing-rise, starts-rise}
use Rattle.iso_sql.proofs.told.told_faults_are_least.Goals as goal

pub returns-clause-rise : goal.returns-clause-rise
returns-clause-rise c = λ line ts s. standing-rise 0 ts (tokens line) s (starts-rise 0 (tokens line) (rises line))

pub returns-clause-columns : goal.returns-clause-columns
returns-clause-columns c = λ names ts n r. listed-least names [] [] ts n (λ p. refl) r

pub returns-clause-literals : goal.returns-clause-literals
returns-clause-literals c = stored-least

pub returns-clause-assignments : goal.returns-clause-assignments
returns-clause-assignments c = λ names targets n r. assigned-least names [] [] targets n (λ p. refl) r

pub returns-clause-select : goal.returns-clause-select
returns-clause-select c = selected-least

pub returns-clause-insert : goal.returns-clause-insert
returns-clause-insert c = inserted-least

pub returns-clause-update : goal.returns-clause-update
returns-clause-update c = updated-least

pub returns-clause-text : goal.returns-clause-text
returns-clause-text c = text-told

pub returns-clause-one : goal.returns-clause-one
returns-clause-one c = one-least

pub returns-clause-every_text : goal.returns-clause-every_text
returns-clause-every_text c = text-has

pub returns-clause-no_other : goal.returns-clause-no_other
returns-clause-no_other c = text-is
