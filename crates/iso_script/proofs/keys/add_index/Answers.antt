use Rattle.std.proofs.Common.{◌∙◌}
use Rattle.iso_script.proofs.KeyLaws.{row_on}
use Rattle.iso_script.proofs.keys.add_index.Goals as goal

pub loop-rows-preserved : goal.loop-rows-preserved
loop-rows-preserved c t column v =
    row_on c.loop-rows.keys.keys c.add_key.new.keys.keys c.args.index.now c.first-item.result c.loop-rows.rows.now c.in_ok-add_key.ensures c.in-len1-up.len_at_least c.first-item.is t column v
    ∙ c.loop-rows.invariant t column v
