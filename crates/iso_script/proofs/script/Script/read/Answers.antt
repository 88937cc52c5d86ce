use Rattle.std.proofs.Common.{refl}
use Rattle.iso_script.proofs.NumberLaws.{reads-rising}
use Rattle.iso_script.proofs.SoundLaws.{reads-sound}
use Rattle.iso_script.proofs.script.Script.read.Goals as goal

pub returns-clause-rising : goal.returns-clause-rising
returns-clause-rising c = reads-rising c.args.bytes.now c.in_ok-reader.reader.script (c.in_ok-reader.reader, c.in_ok-reader.ensures.read, refl)

pub returns-clause-sound : goal.returns-clause-sound
returns-clause-sound c = reads-sound c.args.bytes.now c.in_ok-reader.reader.script (c.in_ok-reader.reader, c.in_ok-reader.ensures.read, refl)
