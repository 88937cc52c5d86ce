use Rattle.iso_conduct.proofs.Lasts.{none_left, paced_last}
use Rattle.iso_conduct.specs.Pacing.{lines_left}
use Rattle.iso_history.specs.After.{world}
use Rattle.iso_conduct.proofs.laws.finished_takes_all_lines.Goals as goal

pub returns : goal.returns
returns c = λ script es legal still. none_left (world script.head es) (lines_left script.lines es) (paced_last script.head script.lines es _ legal.paced) still
