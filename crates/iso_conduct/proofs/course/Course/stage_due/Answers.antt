use Rattle.std.proofs.Common.{ap, ◌∙◌}
use Rattle.iso_conduct.specs.declared.moves.Move.{Move}
use Rattle.iso_modes.specs.declared.Mode.TheVariants.{X}
use Rattle.iso_types.specs.declared.value.Name.TheVariants.{Row}
use Rattle.iso_conduct.proofs.Staged.{due-row_change, due-row_lock}
use Rattle.iso_conduct.proofs.course.Course.stage_due.Goals as goal

pub returns-in-RowLock : goal.returns-in-RowLock
returns-in-RowLock c = ap (λ r. Move.Lock (Row c.args.self.now.table r) X) c.rid_at.ensures ∙ due-row_lock _ c.args.self.now c.in-RowLock.at c.in-RowLock.is c.requires.sound.at

pub returns-in-RowChange : goal.returns-in-RowChange
returns-in-RowChange c = c.change_due.ensures ∙ due-row_change _ c.args.self.now c.in-RowChange.at c.rid_at-in-RowChange.result c.rid_at-in-RowChange.ensures c.in-RowChange.is c.requires.sound.at
