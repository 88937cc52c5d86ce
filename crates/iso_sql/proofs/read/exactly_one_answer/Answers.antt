use Rattle.std.proofs.Common.{refl, None}
use Rattle.iso_grammar.specs.Faults.{checked}
use Rattle.iso_grammar.specs.Lex.{tokens}
use Rattle.iso_sql.proofs.SoundStatements.{statement-sound}
use Rattle.iso_sql.proofs.TextLaws.{not_both, one_fault, one_statement, one_way}
use Rattle.iso_sql.proofs.read.exactly_one_answer.Goals as goal

pub returns-clause-one_way : goal.returns-clause-one_way
returns-clause-one_way c = one_way

pub returns-clause-not_both : goal.returns-clause-not_both
returns-clause-not_both c = not_both

pub returns-clause-one_statement : goal.returns-clause-one_statement
returns-clause-one_statement c = one_statement

pub returns-clause-one_fault : goal.returns-clause-one_fault
returns-clause-one_fault c = one_fault

pub returns-clause-sound : goal.returns-clause-sound
returns-clause-sound c = λ head text x a. statement-sound head text (tokens text) (checked x None) a refl
