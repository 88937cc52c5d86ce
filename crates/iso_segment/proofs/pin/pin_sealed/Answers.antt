use Rattle.std.proofs.Common.{◌+◌, arith, ap}
use Rattle.iso_segment.proofs.Cuts.{before, sealed-is, sealed-kept}
use Rattle.iso_segment.proofs.Laid.{first-below}
use Rattle.iso_segment.proofs.pin.pin_sealed.Goals as goal

pub place_of-start-requires-clause-first : goal.place_of-start-requires-clause-first
place_of-start-requires-clause-first g c = first-below 0 c.args.segments.now c.args.next c.args.first c.requires.laid (omega arith)

pub place_of-end-requires-clause-first : goal.place_of-end-requires-clause-first
place_of-end-requires-clause-first g c = first-below 0 c.args.segments.now c.args.next c.args.last c.requires.laid (omega arith)

pub shared-requires-clause-order : goal.shared-requires-clause-order
shared-requires-clause-order g c =
    let o = before c.args.segments.now c.args.next c.place_of-start.result (c.place_of-end.result + 1) c.args.first c.args.last c.requires.laid
    c.place_of-start.ensures.low c.requires.order c.place_of-end.ensures.high in
    omega (arith, o)

pub invariant_of-result : goal.invariant_of-result
invariant_of-result g c = sealed-kept c.args.segments.now c.args.next c.place_of-start.result c.place_of-end.result c.args.first c.args.last
    c.first_of.result c.first_of-2.result c.in_ok-shared.field-0.items c.new.result.items (record {
      laid = c.requires.laid;
      there = c.place_of-end.ensures.within;
      low = c.place_of-start.ensures.low;
      high = c.place_of-end.ensures.high;
      order = c.requires.order;
      from = c.first_of.ensures;
      to = c.first_of-2.ensures;
      shares = c.in_ok-shared.ensures;
      copies = c.new.ensures.items;
    })

pub returns : goal.returns
returns g c = ap (λ l. record { first = c.args.first; items = l })
    (sealed-is c.args.segments.now c.args.next c.place_of-start.result c.place_of-end.result c.args.first c.args.last
    c.first_of.result c.first_of-2.result c.in_ok-shared.field-0.items c.new.result.items (record {
      laid = c.requires.laid;
      there = c.place_of-end.ensures.within;
      low = c.place_of-start.ensures.low;
      high = c.place_of-end.ensures.high;
      order = c.requires.order;
      from = c.first_of.ensures;
      to = c.first_of-2.ensures;
      shares = c.in_ok-shared.ensures;
      copies = c.new.ensures.items;
    }))
