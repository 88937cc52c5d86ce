use Rattle.std.proofs.Common.{sym, ◌∙◌}
use Rattle.iso_script.proofs.KeyLaws.{null_adds, value_added}
use Rattle.iso_script.proofs.keys.add_value.Goals as goal

pub returns-in_ok-insert : goal.returns-in_ok-insert
returns-in_ok-insert c = value_added c.args.keys.now.keys c.insert.new.self.keys c.args.table c.args.column c.args.value.now (sym c.is_null.ensures ∙ c.if-not-is_null.true) c.in_ok-insert.ensures.updates.0

pub returns-else-not-is_null : goal.returns-else-not-is_null
returns-else-not-is_null c = null_adds c.args.keys.now.keys c.args.table c.args.column c.args.value.now (sym c.is_null.ensures ∙ c.if-not-is_null.false)
