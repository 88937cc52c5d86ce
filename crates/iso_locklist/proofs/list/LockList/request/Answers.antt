use Rattle.std.proofs.Common.{◌≡◌, ◌∙◌, Bool, true, subst, ap, refl}
use Rattle.std.proofs.lemmas.Result.{IfOk-weaker}
use Rattle.std.specs.Prelude.{if◌then◌else◌}
use Rattle.iso_locklist.specs.Places.{IsLimited, Ledger, are_apart, line_at, names}
use Rattle.iso_locklist.specs.declared.room.Room.{Room}
use Rattle.iso_locklist.proofs.Placings.{grants_shown}
use Rattle.iso_locklist.proofs.Rooms.{room_shown}
use Rattle.iso_queue.specs.declared.types.Asked.{Asked}
use Rattle.iso_locklist.proofs.list.LockList.request.Goals as goal

pub returns-clause-limit : goal.returns-clause-limit
returns-clause-limit c = λ head hs xs are of_head.
    subst (λ (r : Room). IsLimited r c.request_at.result)
    (room_shown c.args.self.now.places (subst (λ (l : Ledger). are_apart (names l.places) ≡ true) c.self.view_is c.self.invariant.apart)
    hs xs are c.args.self.now refl head of_head c.args.conn c.args.name c.args.mode) c.request_at.ensures.limit

pub returns-clause-answer : goal.returns-clause-answer
returns-clause-answer c = λ hs xs are idle.
    IfOk-weaker c.request_at.result _ _ (λ a e. e ∙ ap (λ (b : Bool). if b then Asked.Granted else Asked.Queued)
    (grants_shown hs xs (line_at c.args.self.now.places) are c.args.conn c.args.name c.args.mode idle)) c.request_at.ensures.answer
