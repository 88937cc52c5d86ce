use Rattle.std.proofs.Common.{◌∙◌, ap, sym}
use Rattle.iso_script.specs.Keyed.{key_at}
use Rattle.iso_script.proofs.KeyLaws.{twice_next, twice_start}
use Rattle.iso_script.proofs.keyed.has_twice.Goals as goal

pub loop-rows-init : goal.loop-rows-init
loop-rows-init c = twice_start c.new-seen.result.keys c.args.table c.args.column c.args.rows.now c.new-seen.ensures.empty

pub loop-rows-preserved-in_ok-add_value : goal.loop-rows-preserved-in_ok-add_value
loop-rows-preserved-in_ok-add_value c =
    twice_next c.loop-rows.seen.keys c.add_value.new.keys.keys c.args.table c.args.column c.first-item.result c.loop-rows.rows.now c.key_at-key.result
    c.if-first-table.true (c.key_at-key.ensures ∙ ap (key_at c.args.column) c.as_slice.ensures) (sym c.has_value.ensures ∙ c.if-has_value.false) (c.in_ok-add_value.ensures) c.in-len1-up.len_at_least c.first-item.is
    ∙ c.loop-rows.invariant
