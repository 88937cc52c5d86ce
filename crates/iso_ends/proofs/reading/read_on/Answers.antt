use Rattle.std.proofs.Common.{◌≡◌, ◌<◌, ◌≤◌, ◌+◌, ◌∙◌, ap, sym, subst, arith, length, List, get_or}
use Rattle.iso_ends.proofs.DoubtsAlong.{known-end, known-freed, known-next}
use Rattle.iso_ends.specs.Doubts.{Known, WasKnown, known_of}
use Rattle.iso_history.specs.declared.entry.Entry.{Entry}
use Rattle.iso_state.specs.Stands.{content_of}
use Rattle.iso_ends.proofs.reading.read_on.Goals as goal

pub loop-at-preserved : goal.loop-at-preserved
loop-at-preserved c =
    let p = c.args.parts.now in
    let k = c.loop-at.at in
    let e = c.index-entries-at.result in
    let lt : k < length p.history.items = omega (arith, c.loop-at-test.true, ap (λ (es : List Entry). length es) c.as_slice-entries.ensures) in
    let is : e ≡ get_or p.history.items k e = c.index-entries-at.is ∙ ap (λ (es : List Entry). get_or es k e) c.as_slice-entries.ensures in
    let n = c.in_ok-read_next.ensures in
    subst (λ (x : Known). WasKnown p.head p.history.items c.args.index x (k + 1)) (sym n.2)
    (known-next (content_of p) c.requires.stands.stands c.args.index c.args.def.now c.requires.def k e lt is n.0 n.1.none
    (known-freed p.head p.history.items c.args.index e (known_of c.loop-at.doubt) n.0 k n.1 c.loop-at.invariant))

pub returns : goal.returns
returns c =
    let p = c.args.parts.now in
    let le : length p.history.items ≤ c.loop-at.at =
    omega (arith, c.loop-at-test.false, ap (λ (es : List Entry). length es) c.as_slice-entries.ensures) in
    known-end p.head p.history.items c.args.index (known_of c.loop-at.doubt) c.loop-at.at le c.loop-at.invariant
