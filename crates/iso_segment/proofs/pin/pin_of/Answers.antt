use Rattle.std.proofs.Common.{◌∙◌, arith, ap}
use Rattle.iso_segment.proofs.Cuts.{also, of-rest, of-sealed, rest-within}
use Rattle.iso_segment.proofs.pin.pin_of.Goals as goal

pub pin_rest-requires-clause-within : goal.pin_rest-requires-clause-within
pin_rest-requires-clause-within g c =
    let h = c.requires.order in
    let t = c.if-first-next.true in
    rest-within c.args.segments.now c.args.next c.args.rest.now c.args.last c.requires.laid (omega (arith, h, t)) c.requires.within

pub returns-then-first-next : goal.returns-then-first-next
returns-then-first-next g c = also (λ pin is. is ∙ ap (λ l. record { first = c.args.first; items = l })
    (of-rest c.args.segments.now c.args.next c.args.rest.now c.args.first c.args.last c.requires.laid c.if-first-next.true)) c.pin_rest.result c.pin_rest.ensures

pub returns-then-last-next : goal.returns-then-last-next
returns-then-last-next g c = also (λ pin is. is ∙ ap (λ l. record { first = c.args.first; items = l })
    (of-sealed c.args.segments.now c.args.next c.args.rest.now c.args.first c.args.last c.requires.laid c.requires.order c.if-last-next.true))
    c.pin_sealed.result c.pin_sealed.ensures

pub pin_both-requires-clause-within : goal.pin_both-requires-clause-within
pin_both-requires-clause-within g c =
    rest-within c.args.segments.now c.args.next c.args.rest.now c.args.last c.requires.laid c.if-last-next.false c.requires.within
