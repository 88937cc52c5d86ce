use Rattle.std.proofs.Common.{◌≡◌, ◌<◌, ◌∙◌, ap, sym, arith, length, List, get_or}
use Rattle.iso_director.proofs.UntiedAlong.{untied-next}
use Rattle.iso_history.specs.declared.entry.Entry.{Entry}
use Rattle.iso_state.specs.Stands.{content_of}
use Rattle.iso_director.proofs.untied.untied_until.Goals as goal

pub loop-at-preserved : goal.loop-at-preserved
loop-at-preserved c =
    let p = c.args.parts.now in
    let k = c.loop-at.at in
    let e = c.index-entries-at.result in
    let lt : k < length p.history.items = omega (arith, c.loop-at-test.true, ap (λ (es : List Entry). length es) c.as_slice-entries.ensures) in
    let is : e ≡ get_or p.history.items k e = c.index-entries-at.is ∙ ap (λ (es : List Entry). get_or es k e) c.as_slice-entries.ensures in
    untied-next (content_of p) c.requires.stands.stands k e lt is (sym c.ties.ensures ∙ c.if-ties.false) c.loop-at.invariant
