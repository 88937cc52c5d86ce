use Rattle.std.proofs.Common.{arith}
use Rattle.std.proofs.lemmas.List.{length-append}
use Rattle.iso_segment.specs.Parts.{joined}
use Rattle.iso_segment.proofs.Laid.{next-is}
use Rattle.iso_segment.proofs.store.Store.len.Goals as goal

pub returns : goal.returns
returns g c =
    let i = c.self.inside in
    let e = next-is 0 i.segments.items i.next c.self.invariant.0 in
    let n = c.len.ensures in
    let o = i.rest.ok.0 in
    rw (← c.self.view_is, length-append (joined i.segments.items) i.rest.items) (omega (arith, e, n, o))
