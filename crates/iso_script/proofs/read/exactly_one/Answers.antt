use Rattle.iso_script.proofs.Exact.{one_way, not_both, one_script, one_bad}
use Rattle.iso_script.proofs.NumberLaws.{reads-rising}
use Rattle.iso_script.proofs.SoundLaws.{reads-sound}
use Rattle.iso_script.proofs.read.exactly_one.Goals as goal

pub returns-clause-one_way : goal.returns-clause-one_way
returns-clause-one_way c = one_way

pub returns-clause-not_both : goal.returns-clause-not_both
returns-clause-not_both c = not_both

pub returns-clause-one_script : goal.returns-clause-one_script
returns-clause-one_script c = one_script

pub returns-clause-one_bad : goal.returns-clause-one_bad
returns-clause-one_bad c = one_bad

pub returns-clause-rising : goal.returns-clause-rising
returns-clause-rising c = reads-rising

pub returns-clause-sound : goal.returns-clause-sound
returns-clause-sound c = reads-sound
