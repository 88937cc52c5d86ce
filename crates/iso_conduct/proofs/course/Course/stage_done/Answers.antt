use Rattle.iso_conduct.proofs.Staged.{err-asks, on-err}
use Rattle.iso_conduct.proofs.course.Course.stage_done.Goals as goal

pub returns-in_err-work_out-in-RowLock-clause-err : goal.returns-in_err-work_out-in-RowLock-clause-err
returns-in_err-work_out-in-RowLock-clause-err c =
    on-err c.from_residual.result (err-asks c.args.self.now c.in-RowLock.at c.in-RowLock.is c.requires.sound.at c.in_err-work_out-in-RowLock.ensures.err)
