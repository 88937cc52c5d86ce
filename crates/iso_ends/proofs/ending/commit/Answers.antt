use Rattle.std.proofs.Common.{◌≡◌, ◌+◌, ◌-◌, ◌∙◌, ℕ, arith, ap, sym, subst, false}
use Rattle.iso_chain.specs.Writes.{committed}
use Rattle.iso_history.specs.Makers.{by_agent}
use Rattle.iso_history.specs.Records.{left}
use Rattle.iso_history.specs.Units.{unit_of}
use Rattle.iso_history.specs.declared.entry.Act.TheVariants.{Commit}
use Rattle.iso_locklist.specs.Places.{IsSameLimits, Ledger}
use Rattle.iso_types.specs.declared.desk.Desk.{Desk}
use Rattle.iso_types.specs.declared.desk.Phase.TheVariants.{Idle}
use Rattle.iso_ends.proofs.Commits.{commit-covers, commit-place}
use Rattle.iso_state.specs.Changes.{rechained, seated}
use Rattle.iso_locklist.specs.Holding.{LocksAre}
use Rattle.iso_state.specs.Stands.{Content, content_of, desk_at, world_of}
use Rattle.iso_state.proofs.ByKind.{spends-after}
use Rattle.iso_state.proofs.FactsAlong.{reserved-small}
use Rattle.iso_ends.proofs.ending.commit.Goals as goal

pub overflow_sub-parts : goal.overflow_sub-parts
overflow_sub-parts c =
    let p = c.args.parts.now in
    let covers = commit-covers p p c.args.conn c.requires.stands c.requires.open c.requires.conn c.requires.runs in
    let same = ap (λ (x : Content). x.reserved) c.write_commit-left.ensures.wrote in
    omega (arith, covers, same, c.write_commit-left.ensures.left)

pub overflow_add-parts : goal.overflow_add-parts
overflow_add-parts c =
    let p = c.args.parts.now in
    let covers = commit-covers p p c.args.conn c.requires.stands c.requires.open c.requires.conn c.requires.runs in
    let small = reserved-small c.requires.stands.stands in
    omega (arith, covers, small, c.write_commit-left.ensures.left)

pub returns-clause-stands : goal.returns-clause-stands
returns-clause-stands c =
    let p = c.args.parts.now in
    let m = c.write_commit-left.new.parts in
    let l = c.give_up.new.locks in
    let wrote = c.write_commit-left.ensures.wrote in
    let locks : m.locks ≡ p.locks = ap (λ (x : Content). x.locks) wrote in
    let k = committed (content_of p).chain c.args.conn (left (world_of p).records (unit_of (world_of p) c.args.conn)) in
    commit-place p c.move_to.new.parts c.args.conn c.requires.stands c.requires.open c.requires.conn c.requires.runs l
    (spends-after p m c.move_to.new.parts c.write_commit-left.ensures.room c.move_to.ensures.spends)
    (c.give_up.ensures.lists (world_of p).holds (world_of p).waits
    (subst (λ (x : Ledger). LocksAre (world_of p).holds (world_of p).waits x) (sym locks) c.requires.stands.parts.locks))
    (subst (λ (x : Ledger). IsSameLimits l x) locks c.give_up.ensures.limits)
    (c.move_to.ensures.wrote
    ∙ ap (λ (x : Content). seated (record x { locks = l; reserved = x.reserved - (c.write_commit-left.result + 2) }) c.args.conn
    (record c.desk_of.result { phase = Idle; claimed = false }) (by_agent c.args.conn Commit)) wrote
    ∙ ap (λ (d : Desk). seated (record (rechained (content_of p) k) { locks = l; reserved = p.reserved - (c.write_commit-left.result + 2) }) c.args.conn
    (record d { phase = Idle; claimed = false }) (by_agent c.args.conn Commit)) (c.desk_of.ensures ∙ ap (λ (x : Content). desk_at x.desks c.args.conn) wrote)
    ∙ ap (λ (n : ℕ). seated (record (rechained (content_of p) k) { locks = l; reserved = p.reserved - (n + 2) }) c.args.conn
    (record (desk_at p.desks c.args.conn) { phase = Idle; claimed = false }) (by_agent c.args.conn Commit)) c.write_commit-left.ensures.left)
