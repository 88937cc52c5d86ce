use Rattle.std.proofs.Common.{◌∙◌, ◌-◌, ◌++◌, slice_get, sym, ap}
use Rattle.iso_segment.specs.Parts.{joined}
use Rattle.iso_segment.proofs.Laid.{first-below, in-rest, in-stretch}
use Rattle.iso_segment.proofs.Lists.{some-within}
use Rattle.iso_segment.proofs.parts.item_in.Goals as goal

pub returns-then-number-next-clause-value : goal.returns-then-number-next-clause-value
returns-then-number-next-clause-value g c =
    c.item_at.ensures ∙ sym (in-rest c.args.from c.args.segments.now c.args.next c.args.rest.now c.args.number c.requires.laid c.if-number-next.true)

pub returns-then-number-next-clause-within : goal.returns-then-number-next-clause-within
returns-then-number-next-clause-within g c =
    some-within c.item_at.result (joined c.args.segments.now ++ c.args.rest.now) (c.args.number - c.args.from) (returns-then-number-next-clause-value g c)

pub place_of-requires-clause-first : goal.place_of-requires-clause-first
place_of-requires-clause-first g c =
    first-below c.args.from c.args.segments.now c.args.next c.args.number c.requires.laid c.requires.low

pub returns-clause-value : goal.returns-clause-value
returns-clause-value g c =
    let s = c.index-segments-place_of.result in
    let h = in-stretch c.args.from c.args.segments.now c.args.next c.args.rest.now c.args.number c.place_of.result s c.requires.laid
    c.place_of.ensures.within c.index-segments-place_of.is c.place_of.ensures.low c.place_of.ensures.high in
    c.item.ensures.value ∙ ap (λ k. slice_get s.items (c.args.number - k)) c.first.ensures ∙ sym h.is

pub returns-clause-within : goal.returns-clause-within
returns-clause-within g c =
    some-within c.item.result (joined c.args.segments.now ++ c.args.rest.now) (c.args.number - c.args.from) (returns-clause-value g c)
