use Rattle.std.proofs.Common.{◌≡◌, ◌∙◌, ◌+◌, List, ap, drop, subst, sym}
use Rattle.iso_locklist.specs.Holding.{AreNew, LocksAre, all_added}
use Rattle.iso_locklist.specs.Lists.{asked_for}
use Rattle.iso_locklist.specs.Places.{IsSameLimits, Ledger, line_at, names, nobody, released}
use Rattle.iso_locklist.specs.declared.places.Asking.{Asking}
use Rattle.iso_locklist.proofs.NewNames.{asks_from, still_new, within}
use Rattle.iso_locklist.proofs.Undone.{all_as_before, given_back, like_limits, nobody_there, same_ledger, same_places}
use Rattle.iso_modes.specs.declared.Term.TheVariants.{Kept}
use Rattle.iso_queue.specs.Lines.{Line, asked, is_used}
use Rattle.iso_queue.specs.Locks.{added}
use Rattle.iso_locklist.proofs.list.LockList.+request_from.Goals as goal

pub returns-in-Ok-clause-lists : goal.returns-in-Ok-clause-lists
returns-in-Ok-clause-lists t c = λ hs xs are idle new.
    let asks = c.args.requests.now in
    let a = c.index-requests-at.result in
    let e = asks_from asks c.args.at a (within c.args.at _ c.requires.at c.if-at-requests.false) c.index-requests-at.is in
    let all = subst (λ (l : List Asking). AreNew hs xs l) e new in
    let one = asked_for a.name a.mode Kept in
    let rest = c.in-Ok.ensures.lists (added hs c.args.conn one) xs (c.in_ok-request_kept.ensures.lists hs xs are idle all.0) idle
    (still_new hs xs a.name all.0 c.args.conn a.mode (drop (c.args.at + 1) asks) all.1 all.2) in
    subst (λ (l : List Asking). LocksAre (all_added hs c.args.conn l) xs c.request_from.new.self) (sym e) rest

pub returns-in-Err-clause-err : goal.returns-in-Err-clause-err
returns-in-Err-clause-err t c = λ hs xs are idle new.
    let asks = c.args.requests.now in
    let a = c.index-requests-at.result in
    let e = asks_from asks c.args.at a (within c.args.at _ c.requires.at c.if-at-requests.false) c.index-requests-at.is in
    let all = subst (λ (l : List Asking). AreNew hs xs l) e new in
    let n = a.name in
    let conn = c.args.conn in
    let old = c.args.self.now in
    let mid = c.request_kept.new.self in
    let last = c.release_one.new.self in
    let one = asked_for n a.mode Kept in
    let rest : c.request_from.new.self ≡ mid =
    c.in-Err.ensures.err (added hs conn one) xs (c.in_ok-request_kept.ensures.lists hs xs are idle all.0) idle
    (still_new hs xs n all.0 conn a.mode (drop (c.args.at + 1) asks) all.1 all.2) in
    let empty = nobody_there hs xs (λ m. line_at old.places m) are n all.0 in
    let back : released (line_at c.request_from.new.self.places n) conn ≡ nobody =
    ap (λ (l : Ledger). released (line_at l.places n) conn) rest
    ∙ ap (λ (q : Line). released q conn) (c.in_ok-request_kept.ensures.line ∙ ap (λ (q : Line). asked q conn a.mode Kept) empty) ∙ given_back conn a.mode in
    let named : names last.places ≡ names old.places =
    c.release_one.ensures.last (names old.places) (ap (λ (l : Ledger). names l.places) rest ∙ c.in_ok-request_kept.ensures.names empty) (ap is_used back) in
    let lines = all_as_before last.places old.places n (c.release_one.ensures.line ∙ back ∙ sym empty)
    (λ m e. c.release_one.ensures.others m e ∙ ap (λ (l : Ledger). line_at l.places m) rest ∙ c.in_ok-request_kept.ensures.others m e) in
    let places = same_places last.places old.places c.release_one.ensures.is_apart c.request_kept.ensures.was_apart named lines in
    let limits = like_limits last c.request_from.new.self old c.release_one.ensures.limits
    (subst (λ (l : Ledger). IsSameLimits l old) (sym rest) c.request_kept.ensures.limits) in
    same_ledger last old places limits
