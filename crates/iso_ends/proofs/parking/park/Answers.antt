use Rattle.std.proofs.Common.{◌≡◌, Bool, true, false, refl, subst, sym}
use Rattle.iso_ends.proofs.DoubtSets.{known-parked}
use Rattle.iso_ends.specs.Doubts.{IsKnown, known_of}
use Rattle.iso_state.specs.Stands.{world_of}
use Rattle.iso_ends.proofs.parking.park.Goals as goal

pub returns-in-Some : goal.returns-in-Some
returns-in-Some c = go c.park_by.result refl
  where
    go : (b : Bool) → c.park_by.result ≡ b → IsKnown c.args.parts.now.head (world_of c.args.parts.now) c.args.index (known_of c.park_by.new.doubt)
    go true e = known-parked c.args.parts.now.head (world_of c.args.parts.now) c.args.index (known_of c.args.doubt.now) (known_of c.park_by.new.doubt)
        c.args.pair.now c.in-Some.conn (c.park_by.ensures.parked e) c.requires.there c.in-Some.ensures.1 c.requires.known
    go false e = subst (IsKnown c.args.parts.now.head (world_of c.args.parts.now) c.args.index) (sym (c.park_by.ensures.same e)) c.requires.known
