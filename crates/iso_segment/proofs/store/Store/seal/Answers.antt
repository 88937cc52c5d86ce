use Rattle.std.proofs.Common.{◌∙◌, ◌++◌, ◌∷◌, [], arith, ap}
use Rattle.iso_segment.specs.Parts.{joined}
use Rattle.iso_segment.proofs.Cuts.{sealed-joined, sealed-laid}
use Rattle.iso_segment.proofs.store.Store.seal.Goals as goal

pub invariant_of-self-2 : goal.invariant_of-self-2
invariant_of-self-2 g c =
    let i = c.self.inside in
    let n = c.len-len.ensures in
    let z = c.in_ok-segment.ensures.len in
    let b = c.self.invariant.1 in
    let s = c.in_ok-segment.segment in (
      sealed-laid i.segments.items c.add_segment.new.segments.items i.next c.len-len.result s i.rest.items c.self.invariant.0
          (c.add_segment.ensures ∙ ap (λ l. l ++ s ∷ []) c.reserve.ensures.items) c.in_ok-segment.ensures.ok (n ∙ i.rest.ok.0),
      omega (arith, n, z, b),
    )

pub returns-clause-items : goal.returns-clause-items
returns-clause-items g c =
    let i = c.self.inside in
    let s = c.in_ok-segment.segment in
    ap (λ l. joined c.add_segment.new.segments.items ++ l) c.in_ok-segment.ensures.items
    ∙ sealed-joined i.segments.items c.add_segment.new.segments.items i.next s i.rest.items
    (c.add_segment.ensures ∙ ap (λ l. l ++ s ∷ []) c.reserve.ensures.items) c.in_ok-segment.ensures.ok
    ∙ ap (λ v. v.items) c.self.view_is
