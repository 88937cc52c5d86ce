use Rattle.iso_conduct.proofs.Writes.{assigned-due}
use Rattle.iso_conduct.proofs.course.Course.row.Goals as goal

pub returns-in_default : goal.returns-in_default
returns-in_default c = assigned-due _ c.args.self.now c.requires.sound.at c.in_default.not-NewRow c.requires.write
