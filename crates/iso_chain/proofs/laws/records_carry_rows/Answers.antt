use Rattle.std.proofs.Common.{◌≡◌, [], ◌∷◌, ap, refl, sym, Some, None}
use Rattle.iso_history.specs.Makers.{by_agent}
use Rattle.iso_history.specs.declared.entry.Act.TheVariants.{Commit, Delete, Insert, Undo, Update}
use Rattle.iso_chain.specs.Carried.{rows_by}
use Rattle.iso_chain.proofs.Carries.{carries-more, carries-same}
use Rattle.iso_chain.proofs.laws.records_carry_rows.Goals as goal

pub returns : goal.returns
returns g p c es is = record {
  insert = λ t r row. carries-more p.log es _ (by_agent c (Insert t r row)) is refl;
  update = λ t r row. carries-more p.log es _ (by_agent c (Update t r row)) is refl;
  delete = λ t r. carries-more p.log es _ (by_agent c (Delete t r)) is refl;
  undo = λ n. carries-more p.log es _ (by_agent c (Undo n)) is refl;
  commit = λ ns. carries-same p.log es (by_agent c Commit) is refl;
  other = λ e keeps. carries-same p.log es e is (sym (ap rows_by keeps));
}
