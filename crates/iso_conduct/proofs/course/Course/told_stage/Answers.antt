use Rattle.std.proofs.Common.{refl}
use Rattle.iso_conduct.specs.declared.moves.Told.{Told}
use Rattle.iso_conduct.proofs.Classes.{at-back, at-granted, at-scan, at-undo}
use Rattle.iso_conduct.proofs.Staged.{on-err}
use Rattle.iso_conduct.proofs.course.Course.told_stage.Goals as goal

pub look_done-requires-clause-stage : goal.look_done-requires-clause-stage
look_done-requires-clause-stage c = at-scan _ c.args.self.now c.requires.sound.at (Told.Shown c.in-Shown.shown c.in-Shown.fresh) refl (rw c.in-Shown.is at c.requires.answers)

pub scan_done-requires-clause-stage : goal.scan_done-requires-clause-stage
scan_done-requires-clause-stage c = at-scan _ c.args.self.now c.requires.sound.at Told.EndOfTable refl (rw c.in-EndOfTable.is at c.requires.answers)

pub scan_done-requires-in-Past-clause-stage : goal.scan_done-requires-in-Past-clause-stage
scan_done-requires-in-Past-clause-stage c = at-scan _ c.args.self.now c.requires.sound.at Told.Past refl (rw c.in-Past.is at c.requires.answers)

pub stand_at-requires-clause-stage : goal.stand_at-requires-clause-stage
stand_at-requires-clause-stage c = at-scan _ c.args.self.now c.requires.sound.at (Told.At c.in-At.key c.in-At.rid) refl (rw c.in-At.is at c.requires.answers)

pub undos_done-requires-clause-stage : goal.undos_done-requires-clause-stage
undos_done-requires-clause-stage c = at-undo _ c.args.self.now c.requires.sound.at c.in-Undone.more (rw c.in-Undone.is at c.requires.answers)

pub back_to-requires-clause-stage : goal.back_to-requires-clause-stage
back_to-requires-clause-stage c = at-back _ c.args.self.now c.requires.sound.at c.in-Floor.mark (rw c.in-Floor.is at c.requires.answers)

pub returns-in_err-stage_done-in-Granted-clause-err : goal.returns-in_err-stage_done-in-Granted-clause-err
returns-in_err-stage_done-in-Granted-clause-err c =
    on-err c.from_residual-in_err-stage_done-in-Granted.result (absurd (at-granted _ c.args.self.now c.requires.sound.at (rw c.in-Granted.is at c.requires.answers)))
