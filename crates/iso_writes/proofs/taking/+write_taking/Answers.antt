use Rattle.std.proofs.Common.{◌≡◌, ◌∙◌, ◌+◌, ℕ, [], List, ap, drop, refl, subst, sym}
use Rattle.std.proofs.Math.Seq.{drop-length}
use Rattle.std.proofs.lemmas.Result.{on_ok_weaker}
use Rattle.iso_locklist.specs.Holding.{AreNew, LocksAre, all_added}
use Rattle.iso_locklist.specs.Lists.{asked_for}
use Rattle.iso_locklist.specs.Places.{IsSameLimits, Ledger, line_at, names, nobody, released}
use Rattle.iso_locklist.specs.declared.places.Asking.{Asking}
use Rattle.iso_locklist.proofs.NewNames.{asks_from, still_new, within}
use Rattle.iso_locklist.proofs.Undone.{all_as_before, given_back, like_limits, nobody_there, same_ledger, same_places}
use Rattle.iso_modes.specs.declared.Term.TheVariants.{Kept}
use Rattle.iso_queue.specs.Lines.{Line, asked, is_used}
use Rattle.iso_queue.specs.Locks.{added}
use Rattle.iso_state.specs.Changes.{relocked}
use Rattle.iso_state.specs.Stands.{Content, content_of}
use Rattle.iso_writes.proofs.SameLocks.{relocked-own, same-limits}
use Rattle.iso_writes.specs.Changing.{written_at}
use Rattle.iso_writes.proofs.taking.+write_taking.Goals as goal

pub returns-then-at-asks-clause-wrote : goal.returns-then-at-asks-clause-wrote
returns-then-at-asks-clause-wrote t c =
    let p = content_of c.args.parts.now in
    relocked-own c.write_from.result (content_of c.write_from.new.parts)
    (written_at p c.args.conn c.args.into c.args.table c.args.rid c.args.row.now 0) c.write_from.ensures.wrote

pub returns-then-at-asks-clause-lists : goal.returns-then-at-asks-clause-lists
returns-then-at-asks-clause-lists t c = λ hs xs are idle new.
    let asks = c.args.asks.now in
    let none : drop c.args.at asks ≡ [] = subst (λ (n : ℕ). drop n asks ≡ []) (sym c.if-at-asks.true) (drop-length asks) in
    on_ok_weaker c.write_from.result
    (λ e. subst (λ (l : List Asking). LocksAre (all_added hs c.args.conn l) xs c.write_from.new.parts.locks) (sym none)
    (subst (λ (l : Ledger). LocksAre hs xs l) (sym (ap (λ (x : Content). x.locks) e)) are))
    c.write_from.ensures.wrote

pub returns-then-at-asks-clause-limits : goal.returns-then-at-asks-clause-limits
returns-then-at-asks-clause-limits t c =
    let p = content_of c.args.parts.now in
    same-limits c.write_from.result p (content_of c.write_from.new.parts)
    (written_at p c.args.conn c.args.into c.args.table c.args.rid c.args.row.now 0) refl c.write_from.ensures.wrote c.write_from.ensures.err

pub returns-in-Ok-clause-lists : goal.returns-in-Ok-clause-lists
returns-in-Ok-clause-lists t c = λ hs xs are idle new.
    let asks = c.args.asks.now in
    let a = c.index-asks-at.result in
    let e = asks_from asks c.args.at a (within c.args.at _ c.requires.at c.if-at-asks.false) c.index-asks-at.is in
    let all = subst (λ (l : List Asking). AreNew hs xs l) e new in
    let one = asked_for a.name a.mode Kept in
    let rest = c.in-Ok.ensures.lists (added hs c.args.conn one) xs (c.in_ok-take_one.ensures.lists hs xs are idle all.0) idle
    (still_new hs xs a.name all.0 c.args.conn a.mode (drop (c.args.at + 1) asks) all.1 all.2) in
    subst (λ (l : List Asking). LocksAre (all_added hs c.args.conn l) xs c.write_taking.new.parts.locks) (sym e) rest

pub returns-in-Err-clause-err : goal.returns-in-Err-clause-err
returns-in-Err-clause-err t c = λ hs xs are idle new.
    let asks = c.args.asks.now in
    let a = c.index-asks-at.result in
    let e = asks_from asks c.args.at a (within c.args.at _ c.requires.at c.if-at-asks.false) c.index-asks-at.is in
    let all = subst (λ (l : List Asking). AreNew hs xs l) e new in
    let n = a.name in
    let conn = c.args.conn in
    let old = c.args.parts.now.locks in
    let mid = c.take_one.new.parts.locks in
    let after = c.write_taking.new.parts.locks in
    let last = c.give_back.new.parts.locks in
    let one = asked_for n a.mode Kept in
    let same : content_of c.write_taking.new.parts ≡ content_of c.take_one.new.parts =
    c.in-Err.ensures.err (added hs conn one) xs (c.in_ok-take_one.ensures.lists hs xs are idle all.0) idle
    (still_new hs xs n all.0 conn a.mode (drop (c.args.at + 1) asks) all.1 all.2) in
    let rest : after ≡ mid = ap (λ (x : Content). x.locks) same in
    let empty = nobody_there hs xs (λ m. line_at old.places m) are n all.0 in
    let back : released (line_at after.places n) conn ≡ nobody =
    ap (λ (l : Ledger). released (line_at l.places n) conn) rest
    ∙ ap (λ (q : Line). released q conn) (c.in_ok-take_one.ensures.line ∙ ap (λ (q : Line). asked q conn a.mode Kept) empty) ∙ given_back conn a.mode in
    let named : names last.places ≡ names old.places =
    c.give_back.ensures.last (names old.places) (ap (λ (l : Ledger). names l.places) rest ∙ c.in_ok-take_one.ensures.names empty) (ap is_used back) in
    let lines = all_as_before last.places old.places n (c.give_back.ensures.line ∙ back ∙ sym empty)
    (λ m ne. c.give_back.ensures.others m ne ∙ ap (λ (l : Ledger). line_at l.places m) rest ∙ c.in_ok-take_one.ensures.others m ne) in
    let places = same_places last.places old.places c.give_back.ensures.is_apart c.take_one.ensures.was_apart named lines in
    let limits = like_limits last after old c.give_back.ensures.limits
    (subst (λ (l : Ledger). IsSameLimits l old) (sym rest) c.take_one.ensures.limits) in
    c.give_back.ensures.content
    ∙ ap (λ (x : Content). relocked x last) (same ∙ c.take_one.ensures.content)
    ∙ ap (λ (l : Ledger). relocked (content_of c.args.parts.now) l) (same_ledger last old places limits)
