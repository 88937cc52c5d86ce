use Rattle.iso_chain.proofs.Commits.{commit-chained}
use Rattle.iso_chain.proofs.Undo.{undo-chained}
use Rattle.iso_chain.proofs.Write.{delete-chained, insert-chained, update-chained}
use Rattle.iso_chain.proofs.laws.steps_stand.Goals as goal

pub returns : goal.returns
returns g h w p c s kept lt = record {
  update = λ t r row may. update-chained h w p c t r row s kept lt may;
  delete = λ t r may. delete-chained h w p c t r s kept lt may;
  insert = λ t r row may. insert-chained h w p c t r row s kept lt may;
  undo = λ n may. undo-chained h w p c n s kept lt may;
  commit = λ u pends open_unit. commit-chained h w p c u s kept pends open_unit;
}
