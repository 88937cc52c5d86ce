use Rattle.std.proofs.Common.{arith, ap}
use Rattle.iso_segment.proofs.Cuts.{both-is, both-kept}
use Rattle.iso_segment.proofs.Laid.{first-below}
use Rattle.iso_segment.proofs.pin.pin_both.Goals as goal

pub place_of-start-requires-clause-first : goal.place_of-start-requires-clause-first
place_of-start-requires-clause-first g c = first-below 0 c.args.segments.now c.args.next c.args.first c.requires.laid (omega arith)

pub invariant_of-result : goal.invariant_of-result
invariant_of-result g c = both-kept c.args.segments.now c.args.next c.args.rest.now c.place_of-start.result c.args.first c.args.last c.first_of.result
    c.in_ok-shared.field-0.items c.in_ok-rest.rest.items (record {
      laid = c.requires.laid;
      there = c.place_of-start.ensures.within;
      low = c.place_of-start.ensures.low;
      begins = c.requires.low;
      ends = c.requires.high;
      within = c.requires.within;
      from = c.first_of.ensures;
      shares = c.in_ok-shared.ensures;
      copies = c.in_ok-rest.ensures;
    })

pub returns : goal.returns
returns g c = ap (λ l. record { first = c.args.first; items = l })
    (both-is c.args.segments.now c.args.next c.args.rest.now c.place_of-start.result c.args.first c.args.last c.first_of.result
    c.in_ok-shared.field-0.items c.in_ok-rest.rest.items (record {
      laid = c.requires.laid;
      there = c.place_of-start.ensures.within;
      low = c.place_of-start.ensures.low;
      begins = c.requires.low;
      ends = c.requires.high;
      within = c.requires.within;
      from = c.first_of.ensures;
      shares = c.in_ok-shared.ensures;
      copies = c.in_ok-rest.ensures;
    }))
