use Rattle.std.proofs.Common.{sym, ap, ◌∙◌}
use Rattle.iso_script.specs.Keyed.{key_at}
use Rattle.iso_script.proofs.KeyLaws.{key_added, key_past}
use Rattle.iso_script.proofs.keys.add_key.Goals as goal

pub returns-in_ok-add_value : goal.returns-in_ok-add_value
returns-in_ok-add_value c =
    key_added c.args.keys.now.keys c.add_value.new.keys.keys c.args.index.now c.args.first.now c.key_at-key.result (sym c.is_unique_on.ensures ∙ c.if-is_unique_on.true)
    (c.key_at-key.ensures ∙ ap (key_at c.args.index.now.column) c.as_slice.ensures) c.in_ok-add_value.ensures

pub returns-else-is_unique_on : goal.returns-else-is_unique_on
returns-else-is_unique_on c = key_past c.args.keys.now.keys c.args.index.now c.args.first.now (sym c.is_unique_on.ensures ∙ c.if-is_unique_on.false)
