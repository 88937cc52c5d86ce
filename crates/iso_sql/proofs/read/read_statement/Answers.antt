use Rattle.iso_sql.proofs.SoundStatements.{answer-sound}
use Rattle.iso_sql.proofs.TextLaws.{only, only_fault}
use Rattle.iso_sql.proofs.read.read_statement.Goals as goal

pub returns-clause-only : goal.returns-clause-only
returns-clause-only c = λ x a. only c.args.head.now c.args.text.now x c.judged.result a c.judged.ensures

pub returns-clause-place : goal.returns-clause-place
returns-clause-place c = λ e t a. only_fault c.args.head.now c.args.text.now e c.judged.result t a c.judged.ensures

pub returns-clause-sound : goal.returns-clause-sound
returns-clause-sound c = answer-sound c.args.head.now c.args.text.now c.judged.result c.judged.ensures
