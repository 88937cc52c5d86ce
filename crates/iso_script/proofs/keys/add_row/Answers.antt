use Rattle.std.proofs.Common.{◌∙◌}
use Rattle.iso_script.proofs.KeyLaws.{index_on}
use Rattle.iso_script.proofs.keys.add_row.Goals as goal

pub loop-indexes-preserved : goal.loop-indexes-preserved
loop-indexes-preserved c t column v =
    index_on c.loop-indexes.keys.keys c.add_key.new.keys.keys c.args.first.now c.index-item.result c.loop-indexes.indexes.now c.in_ok-add_key.ensures c.in-len1-up.len_at_least c.index-item.is t column v
    ∙ c.loop-indexes.invariant t column v
