use Rattle.std.proofs.Common.{◌≡◌, [], Option, ap, is_some, refl, subst, true}
use Rattle.std.specs.Prelude.{IfSome}
use Rattle.iso_ends.proofs.DoubtFinds.{first-none}
use Rattle.iso_ends.proofs.DoubtSets.{known-bare, some-found}
use Rattle.iso_ends.specs.Doubts.{Known, known_of}
use Rattle.iso_history.specs.Orders.{has_pair}
use Rattle.iso_key.specs.Pages.{entries}
use Rattle.iso_types.specs.declared.value.Rid.{Rid}
use Rattle.iso_types.specs.declared.value.Value.{Value}
use Rattle.iso_ends.proofs.parking.unpark.Goals as goal

pub loop-init : goal.loop-init
loop-init c head w i k = k

pub move_back-requires : goal.move_back-requires
move_back-requires c =
    let ps = entries c.loop.doubt.parked in
    subst (λ (o : Option (Value × Rid)). IfSome o (λ p. has_pair ps p ≡ true)) c.in-Some.is (some-found (λ _. true) ps c.first_from.result c.first_from.ensures)

pub loop-preserved : goal.loop-preserved
loop-preserved c head w i k = c.in_ok-move_back-in-Some.ensures head w i (c.loop.invariant head w i k)

pub returns-in-None : goal.returns-in-None
returns-in-None c conn =
    let d = c.loop.doubt in
    let y : Known = record { pairs = entries d.pairs; keys = d.keys; parked = entries d.parked; by = c.none-doubt.result } in
    let none : entries d.parked ≡ [] = first-none (entries d.parked) c.first_from.result c.first_from.ensures (ap is_some c.in-None.is) in
    record {
      known = λ head w i k. known-bare head w i (known_of d) y none refl refl refl (c.loop.invariant head w i k);
      none = c.none-doubt.ensures conn;
    }
