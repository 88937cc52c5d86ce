use Rattle.std.proofs.Common.{arith}
use Rattle.iso_script.proofs.KeptLaws.{count_full}
use Rattle.iso_script.proofs.keyed.is_full.Goals as goal

pub returns : goal.returns
returns c = count_full c.args.progress.now.counts c.args.progress.now.reader.script.head.rows c.args.table c.requires.kept.0 (omega arith)
