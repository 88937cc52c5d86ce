use Rattle.std.proofs.Common.{◌≡◌, ◌∙◌, ◌-◌, ap, refl, subst, sym, arith}
use Rattle.iso_chain.specs.Writes.{taken_back}
use Rattle.iso_history.specs.Legal.{ByAgent}
use Rattle.iso_history.specs.Makers.{by_agent}
use Rattle.iso_history.specs.declared.entry.Act.TheVariants.{Undo}
use Rattle.iso_locklist.specs.Holding.{LocksAre}
use Rattle.iso_locklist.specs.Places.{IsSameLimits, Ledger}
use Rattle.iso_state.specs.Changes.{entered, unclaimed}
use Rattle.iso_state.specs.Stands.{Content, content_of, desk_at, world_of}
use Rattle.iso_ends.proofs.Places.{free-covers, free-place}
use Rattle.iso_ends.proofs.Undoes.{undo-own}
use Rattle.iso_ends.proofs.undoing.undo.Goals as goal

pub returns-clause-stands : goal.returns-clause-stands
returns-clause-stands c =
    let p = c.args.parts.now in
    let m = c.write_undo.new.parts in
    let q = c.enter.new.parts in
    let l = c.settle.new.self in
    let a = Undo c.args.number in
    let by : ByAgent p.head (world_of p) c.args.conn a = (c.requires.may, c.requires.last) in
    let covers = free-covers p c.args.conn a c.requires.stands c.requires.open c.requires.conn by refl in
    let wrote = c.write_undo.ensures.wrote in
    let locks : m.locks ≡ p.locks = ap (λ (x : Content). x.locks) wrote in
    let spent = c.enter.ensures.spends in
    free-place p c.args.conn a c.requires.stands c.requires.open c.requires.conn by q (taken_back (content_of p).chain c.args.conn c.args.number) l
    (unclaimed (desk_at p.desks c.args.conn)) (p.reserved - 1) (record { never = refl; unlogged = refl })
    (omega (arith, c.write_undo.ensures.history, spent.history)) (omega (arith, c.write_undo.ensures.log, spent.log))
    (undo-own (content_of p) c.args.conn c.args.number c.requires.stands.stands c.requires.conn c.requires.last l
    (subst (λ (x : Ledger). IsSameLimits l x) locks c.settle.ensures.limits)
    (c.settle.ensures.lists (world_of p).holds (world_of p).waits
    (subst (λ (x : Ledger). LocksAre (world_of p).holds (world_of p).waits x) (sym locks) c.requires.stands.parts.locks))
    (omega (arith, covers)))
    (c.enter.ensures.wrote
    ∙ ap (λ (x : Content). entered (record x { locks = l; reserved = x.reserved - 1 }) c.args.conn (by_agent c.args.conn a)) wrote)
