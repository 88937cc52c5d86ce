use Rattle.std.proofs.Common.{◌∙◌, List, ap, subst, true, None}
use Rattle.iso_history.specs.declared.entry.Act.TheVariants.{Claim}
use Rattle.iso_history.specs.Makers.{by_agent}
use Rattle.iso_locklist.specs.Holding.{LocksAre}
use Rattle.iso_queue.specs.Locks.{Hold, settled}
use Rattle.iso_types.specs.declared.desk.Desk.{Desk}
use Rattle.iso_types.specs.declared.desk.Phase.TheVariants.{Running}
use Rattle.iso_state.specs.Changes.{relocked, seated}
use Rattle.iso_state.specs.Stands.{content_of, world_of}
use Rattle.iso_state.proofs.ByKind.{fault-was}
use Rattle.iso_state.proofs.FactsAlong.{facts-of}
use Rattle.iso_state.proofs.LockReads.{one-wait}
use Rattle.iso_state.proofs.Steps.{limits-after}
use Rattle.iso_locks.proofs.ClaimSteps.{claim-full, claim-place, keeps-all, ready-now, waits-now}
use Rattle.iso_locks.proofs.claiming.grant.Goals as goal

pub returns-clause-stands : goal.returns-clause-stands
returns-clause-stands c =
    let o = c.args.parts.now in
    let p = c.make_room.new.parts in
    let q = c.move_to.new.parts in
    let l = c.claim.new.self in
    let s = c.in_ok-make_room.ensures.stands in
    let same = c.in_ok-make_room.ensures.same in
    let facts = facts-of s.stands in
    let hs = (world_of p).holds in
    let ws = (world_of p).waits in
    let waits = waits-now o p q c.args.conn s same c.move_to.ensures.spends c.requires.open c.requires.conn c.requires.waits c.requires.grantable in
    let ready = ready-now o p q c.args.conn s same c.move_to.ensures.spends c.requires.open c.requires.conn c.requires.waits c.requires.grantable in
    claim-place o p q c.args.conn s same c.move_to.ensures.spends c.requires.open c.requires.conn c.requires.waits c.requires.grantable l
    c.in_ok-make_room.ensures.ready
    (c.claim.ensures.lists (settled c.args.conn None hs) ws
    (subst (λ (gs : List Hold). LocksAre gs ws c.settle.new.self) (keeps-all p.head (world_of p) c.args.conn facts waits ready (settled c.args.conn None hs))
    (c.settle.ensures.lists hs ws s.parts.locks))
    (one-wait p.head (world_of p) facts c.args.conn))
    (limits-after p.locks c.settle.new.self l c.settle.ensures.limits c.claim.ensures.limits)
    (c.move_to.ensures.wrote
    ∙ ap (λ (d : Desk). seated (relocked (content_of p) l) c.args.conn (record d { phase = Running; claimed = true }) (by_agent c.args.conn Claim)) c.desk_of.ensures)

pub returns-in_err-make_room-clause-full : goal.returns-in_err-make_room-clause-full
returns-in_err-make_room-clause-full c =
    let o = c.args.parts.now in
    λ e. claim-full o c.args.conn c.requires.stands c.requires.open c.requires.conn c.requires.waits c.requires.grantable
    (c.make_room.ensures.full (fault-was _ _ _ _ c.in_err-make_room.was c.from_residual.ensures.1 e))
