use Rattle.std.proofs.Common.{◌≡◌, ◌∷◌, ◌∙◌, true, List, Option, ap, sym, subst, filter}
use Rattle.std.specs.Prelude.{IfSome}
use Rattle.iso_ends.proofs.DoubtSets.{filled-first, filled-known, some-found}
use Rattle.iso_ends.proofs.PurgeWalks.{begin-behind, behind, next-behind, pairs-ordered, walk-less}
use Rattle.iso_ends.specs.Doubts.{known_of}
use Rattle.iso_ends.specs.Filling.{IsFilled}
use Rattle.iso_history.specs.Orders.{has_pair}
use Rattle.iso_key.specs.Pages.{entries}
use Rattle.iso_state.specs.Stands.{content_of, world_of}
use Rattle.iso_types.specs.Ids.{pair_lt}
use Rattle.iso_types.specs.declared.value.Rid.{Rid}
use Rattle.iso_types.specs.declared.value.Value.{Value}
use Rattle.iso_ends.proofs.settling.fill.Goals as goal

pub loop-next-init : goal.loop-next-init
loop-next-init c =
    let p = c.args.parts.now in
    let ps = entries c.args.keys.now in
    let ordered = pairs-ordered (content_of p) c.requires.stands.stands c.args.index ps c.requires.keys in (
      filled-first p.head (world_of p) c.args.index (known_of c.args.doubt.now) (behind c.first_from-next.result ps)
          c.requires.empty c.requires.none c.requires.free
          (ap (λ (o : Option (Value × Rid)). behind o ps) c.first_from-next.ensures ∙ begin-behind ps ordered ∙ c.requires.keys),
      some-found (λ _. true) ps c.first_from-next.result c.first_from-next.ensures,
    )

pub loop-next-smaller : goal.loop-next-smaller
loop-next-smaller c =
    let p = c.args.parts.now in
    let ps = entries c.args.keys.now in
    walk-less (λ _. true) ps (pairs-ordered (content_of p) c.requires.stands.stands c.args.index ps c.requires.keys) c.in-Some.pair c.loop-next.next
    c.next_after-next.result c.in-Some.is c.next_after-next.ensures

pub take_in-requires-clause-there : goal.take_in-requires-clause-there
take_in-requires-clause-there c =
    let ps = entries c.args.keys.now in
    let own : has_pair ps c.in-Some.pair ≡ true =
    subst (λ (o : Option (Value × Rid)). IfSome o (λ p. has_pair ps p ≡ true)) c.in-Some.is c.loop-next.invariant.1 in
    subst (λ (qs : List (Value × Rid)). has_pair qs c.in-Some.pair ≡ true) c.requires.keys own

pub loop-next-preserved : goal.loop-next-preserved
loop-next-preserved c =
    let p = c.args.parts.now in
    let ps = entries c.args.keys.now in
    let e = c.in-Some.pair in
    let ordered = pairs-ordered (content_of p) c.requires.stands.stands c.args.index ps c.requires.keys in
    let now : IsFilled p.head (world_of p) c.args.index (known_of c.loop-next.doubt) (e ∷ filter (pair_lt e) ps) =
    subst (λ (o : Option (Value × Rid)). IsFilled p.head (world_of p) c.args.index (known_of c.loop-next.doubt) (behind o ps))
    c.in-Some.is c.loop-next.invariant.0 in (
      subst (λ (qs : List (Value × Rid)). IsFilled p.head (world_of p) c.args.index (known_of c.take_in.new.doubt) qs)
          (sym (next-behind e ps ordered) ∙ ap (λ (o : Option (Value × Rid)). behind o ps) (sym c.next_after-next.ensures))
          (c.in_ok-take_in.ensures (filter (pair_lt e) ps) now),
      some-found (pair_lt e) ps c.next_after-next.result c.next_after-next.ensures,
    )

pub returns : goal.returns
returns c =
    let p = c.args.parts.now in
    let ps = entries c.args.keys.now in
    filled-known p.head (world_of p) c.args.index (known_of c.loop-next.doubt)
    (subst (λ (o : Option (Value × Rid)). IsFilled p.head (world_of p) c.args.index (known_of c.loop-next.doubt) (behind o ps))
    c.in_default.is c.loop-next.invariant.0)
