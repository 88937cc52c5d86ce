use Rattle.iso_sql.proofs.TextLaws.{told_fault, told_value}
use Rattle.iso_sql.proofs.read.judged.Goals as goal

pub returns-in-Some : goal.returns-in-Some
returns-in-Some c = told_fault c.args.head.now c.args.text.now c.args.found.now c.in-Ok.checked c.in-Some.fault c.at_place.result c.requires.tokens c.in-Ok.ensures c.in-Some.is c.at_place.ensures

pub returns-in-None : goal.returns-in-None
returns-in-None c = told_value c.args.head.now c.args.text.now c.args.found.now c.in-Ok.checked c.requires.tokens c.in-Ok.ensures c.in-None.is
