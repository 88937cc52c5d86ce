use Rattle.std.proofs.Common.{◌≡◌, ◌<◌, ◌∙◌, ap, arith, length, List, get_or}
use Rattle.iso_history.specs.declared.entry.Entry.{Entry}
use Rattle.iso_trials.proofs.OwnsAlong.{own-end, own-next, own-start}
use Rattle.iso_trials.proofs.owns.own_of.Goals as goal

pub loop-at-init : goal.loop-at-init
loop-at-init c =
    own-start c.args.parts.now.head c.args.conn c.nothing-own.result c.nothing-own.ensures.looked c.nothing-own.ensures.awaits c.nothing-own.ensures.due

pub loop-at-preserved : goal.loop-at-preserved
loop-at-preserved c =
    let p = c.args.parts.now in
    let k = c.loop-at.at in
    let e = c.index-entries-at.result in
    let lt : k < length p.history.items = omega (arith, c.loop-at-test.true, ap (λ (es : List Entry). length es) c.as_slice-entries.ensures) in
    let is : e ≡ get_or p.history.items k e = c.index-entries-at.is ∙ ap (λ (es : List Entry). get_or es k e) c.as_slice-entries.ensures in
    own-next p.head p.history.items c.args.conn c.loop-at.own c.read_entry-own.result k e lt is c.loop-at.invariant c.read_entry-own.ensures

pub returns : goal.returns
returns c =
    let p = c.args.parts.now in
    own-end p.head p.history.items c.args.conn c.loop-at.own c.loop-at.at
    (omega (arith, c.loop-at-test.false, c.loop-at.auto.at-end, ap (λ (es : List Entry). length es) c.as_slice-entries.ensures)) c.loop-at.invariant
