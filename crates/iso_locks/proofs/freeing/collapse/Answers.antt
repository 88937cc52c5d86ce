use Rattle.std.proofs.Common.{◌∙◌, ◌++◌, ◌∷◌, [], ap, refl, None}
use Rattle.iso_history.specs.Makers.{by_agent}
use Rattle.iso_history.specs.Outcomes.{due_mode}
use Rattle.iso_history.specs.declared.entry.Act.TheVariants.{Collapse}
use Rattle.iso_modes.specs.declared.Mode.{Mode}
use Rattle.iso_queue.specs.Locks.{settled, without_briefs}
use Rattle.iso_state.specs.Changes.{entered, relocked}
use Rattle.iso_state.specs.Stands.{Content, content_of, world_of}
use Rattle.iso_state.proofs.ByKind.{bare-full, bare-place, fault-was}
use Rattle.iso_state.proofs.FactsAlong.{sound-of}
use Rattle.iso_state.proofs.Steps.{limits-after}
use Rattle.iso_locks.proofs.FreeSteps.{collapsed-are, due-held, due-is, may-free}
use Rattle.iso_locks.proofs.freeing.collapse.Goals as goal

pub returns-clause-stands : goal.returns-clause-stands
returns-clause-stands c =
    let o = c.args.parts.now in
    let w = world_of o in
    let p = c.make_room.new.parts in
    let l = c.collapse.new.self in
    let hs = (world_of p).holds in
    let s = c.in_ok-make_room.ensures.stands in
    let m = due_mode w c.args.conn in
    let is = c.mode_on-mode.ensures ∙ due-held w c.args.conn c.args.table (sound-of c.requires.stands.stands).whole_dues (due-is w c.args.conn c.args.table c.requires.due) in
    bare-place o p c.enter.new.parts l c.args.conn (Collapse c.args.table m) s c.in_ok-make_room.ensures.same
    c.enter.ensures.spends c.requires.open c.requires.conn c.in_ok-make_room.ensures.ready
    (may-free o.head w c.args.conn c.args.table c.requires.running c.requires.due)
    refl
    (collapsed-are p.head (world_of p) c.args.conn l c.args.table m
    (c.collapse.ensures.lists p.head (without_briefs hs c.args.conn (settled c.args.conn None hs)) (world_of p).waits
    (c.settle.ensures.limits.index_tables ∙ s.limits.index_tables)
    (c.settle.ensures.lists hs (world_of p).waits s.parts.locks)))
    (limits-after p.locks c.settle.new.self l c.settle.ensures.limits c.collapse.ensures.limits)
    (c.enter.ensures.wrote ∙ ap (λ (x : Mode). entered (relocked (content_of p) l) c.args.conn (by_agent c.args.conn (Collapse c.args.table x))) is)

pub returns-clause-ok : goal.returns-clause-ok
returns-clause-ok c =
    let o = c.args.parts.now in
    let w = world_of o in
    let is = c.mode_on-mode.ensures ∙ due-held w c.args.conn c.args.table (sound-of c.requires.stands.stands).whole_dues (due-is w c.args.conn c.args.table c.requires.due) in
    ap (λ (x : Content). x.history) c.enter.ensures.wrote
    ∙ ap (λ (x : Content). x.history ++ by_agent c.args.conn (Collapse c.args.table c.mode_on-mode.result) ∷ []) c.in_ok-make_room.ensures.same
    ∙ ap (λ (m : Mode). o.history.items ++ by_agent c.args.conn (Collapse c.args.table m) ∷ []) is

pub returns-in_err-make_room-clause-full : goal.returns-in_err-make_room-clause-full
returns-in_err-make_room-clause-full c =
    let o = c.args.parts.now in
    λ e. bare-full o c.args.conn (Collapse c.args.table (due_mode (world_of o) c.args.conn)) c.requires.stands c.requires.open c.requires.conn
    (may-free o.head (world_of o) c.args.conn c.args.table c.requires.running c.requires.due)
    refl (c.make_room.ensures.full (fault-was _ _ _ _ c.in_err-make_room.was c.from_residual.ensures.1 e))
