use Rattle.std.proofs.Common.{arith}
use Rattle.std.proofs.lemmas.List.FromFn.{map-range_with_len_more}
use Rattle.iso_sql.specs.Rows.{placed_value}
use Rattle.iso_sql.proofs.rows.placed_row.Goals as goal

pub loop-place-preserved : goal.loop-place-preserved
loop-place-preserved c =
    let more = map-range_with_len_more (placed_value c.args.line.now c.args.places.now c.args.literals.now) 0 c.loop-place.place c.loop-place.place (omega arith) in
    grind (arith, more, c.in_ok-push.ensures.ok, c.loop-place.invariant, c.placed_value-value.ensures)
