use Rattle.iso_script.proofs.KeptLaws.{stays_counted}
use Rattle.iso_script.proofs.KeyLaws.{stays_held}
use Rattle.iso_script.proofs.progress.Progress.advance.Goals as goal

pub returns-clause-kept : goal.returns-clause-kept
returns-clause-kept c = (
  stays_counted c.args.self.now.reader c.advance.new.self c.args.number c.args.event c.args.self.now.counts c.with_row-self.result c.own_table-table.result c.requires.kept.0 c.own_table-table.ensures c.with_row-self.ensures
      c.in_ok-advance.ensures,
  stays_held c.args.self.now.reader c.advance.new.self c.args.number c.args.event c.add_keys.new.keys.keys (c.in_ok-add_keys.ensures c.requires.kept.1) c.in_ok-advance.ensures,
)
