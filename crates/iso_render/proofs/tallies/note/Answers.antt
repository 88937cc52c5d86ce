use Rattle.iso_render.proofs.Summed.{seen_between, seen_there}
use Rattle.iso_render.proofs.tallies.note.Goals as goal

pub returns-then-is_at : goal.returns-then-is_at
returns-then-is_at c =
    seen_there c.args.answer.now c.args.tallies.now.items _ _ c.place-at.result c.index_mut.result.now c.is_at.result
    c.as_slice.ensures.value c.as_slice-2.ensures.value c.place-at.ensures.lower c.place-at.ensures.next c.is_at.ensures.there c.if-is_at.true
    (c.is_at.ensures.within c.if-is_at.true) c.index_mut.ensures.value

pub returns : goal.returns
returns c =
    seen_between c.args.answer.now c.args.tallies.now.items _ _ c.insert.new.self.items c.place-at.result c.is_at.result
    c.as_slice.ensures.value c.as_slice-2.ensures.value c.place-at.ensures.lower c.place-at.ensures.next c.place-at.ensures.within
    c.is_at.ensures.there c.if-is_at.false c.in_ok-insert.ensures.items
