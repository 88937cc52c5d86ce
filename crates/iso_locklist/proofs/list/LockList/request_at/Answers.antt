use Rattle.std.proofs.Common.{◌≡◌, ◌∙◌, ◌∷◌, ◌++◌, [], List, ◌<◌, ℕ, Bool, false, ap, arith, subst, sym}
use Rattle.std.specs.Prelude.{if◌then◌else◌}
use Rattle.iso_lines.specs.Locks.{counts_below}
use Rattle.iso_locklist.specs.Places.{Ledger, all_taken, line_at, names, need_of, places_in, room_for, room_to_ask, taken}
use Rattle.iso_locklist.specs.declared.room.Room.{Room}
use Rattle.iso_locklist.specs.declared.room.Room.TheVariants.{Free}
use Rattle.iso_locklist.proofs.Placings.{asked_are}
use Rattle.iso_locklist.proofs.Registered.{mode_touched, names_in, places_apart, places_line, room_more, summed_in}
use Rattle.iso_queue.specs.Lines.{Line, asked, has_mode, is_granted, is_touched}
use Rattle.iso_types.specs.declared.value.Name.{Name}
use Rattle.iso_queue.specs.declared.types.Asked.{Asked}
use Rattle.iso_locklist.proofs.list.LockList.request_at.Goals as goal

pub request-requires-clause-room : goal.request-requires-clause-room
request-requires-clause-room c = λ none.
    let lines = c.self.inside.register.lines in
    let n = c.args.name.now in
    let summed : counts_below c.self.inside.register.names 32 ≡ all_taken (places_in lines) =
    summed_in (places_in lines) c.self.invariant.apart c.self.inside.register.names
    (λ d lt ns distinct members. c.total.ensures.each d lt ns distinct (λ m. members m ∙ ap (λ (q : Line). is_touched q d) (places_line lines m))) in
    let same : all_taken (places_in lines) ≡ all_taken c.args.self.now.places = ap (λ (l : Ledger). all_taken l.places) c.self.view_is in
    let untouched : is_touched (line_at c.args.self.now.places n) c.args.conn ≡ false =
    ap (λ (l : Ledger). is_touched (line_at l.places n) c.args.conn) (sym c.self.view_is) ∙ ap (λ (q : Line). is_touched q c.args.conn) (places_line lines n) ∙ none in
    let free : room_to_ask c.args.self.now c.args.conn n c.args.mode ≡ Free =
    ap (λ (b : Bool). if b then Free else room_for c.args.self.now c.args.conn (need_of c.args.self.now.places c.args.conn n)) (sym c.holds_mode.ensures)
    ∙ ap (λ (r : Room). if c.holds_mode.result then Free else r) (ap (room_for c.args.self.now c.args.conn) (sym c.need_at.ensures) ∙ sym c.room_at-room.ensures)
    ∙ sym c.room_beside.ensures ∙ c.in-Free.is in
    let more = room_more (is_touched (line_at c.args.self.now.places n) c.args.conn) (has_mode (line_at c.args.self.now.places n).holders c.args.conn c.args.mode)
    (taken c.args.self.now.places c.args.conn) (all_taken c.args.self.now.places) c.args.self.now.share c.args.self.now.slots
    (mode_touched (line_at c.args.self.now.places n) c.args.conn c.args.mode) free untouched in
    let slots : c.self.inside.slots ≡ c.args.self.now.slots = ap (λ (l : Ledger). l.slots) c.self.view_is in
    subst (λ (k : ℕ). k < 4294967295) (sym (summed ∙ same)) (omega (arith, more, slots, c.self.ranges))

pub invariant_of-self-2 : goal.invariant_of-self-2
invariant_of-self-2 c = record { apart = places_apart c.request.new.self.lines c.names_once.ensures }

pub returns-clause-answer : goal.returns-clause-answer
returns-clause-answer c =
    c.in-Ok.ensures.answer
    ∙ ap (λ (q : Line). if is_granted q c.args.conn c.args.mode then Asked.Granted else Asked.Queued) (sym (places_line c.self.inside.register.lines c.args.name.now))
    ∙ ap (λ (l : Ledger). if is_granted (line_at l.places c.args.name.now) c.args.conn c.args.mode then Asked.Granted else Asked.Queued) c.self.view_is

pub returns-clause-line : goal.returns-clause-line
returns-clause-line c =
    places_line c.request.new.self.lines c.args.name.now ∙ c.in-Ok.ensures.line
    ∙ ap (λ (q : Line). asked q c.args.conn c.args.mode c.args.term) (sym (places_line c.self.inside.register.lines c.args.name.now))
    ∙ ap (λ (l : Ledger). asked (line_at l.places c.args.name.now) c.args.conn c.args.mode c.args.term) c.self.view_is

pub returns-clause-others : goal.returns-clause-others
returns-clause-others c = λ n ne.
    places_line c.request.new.self.lines n ∙ c.in-Ok.ensures.others n ne ∙ sym (places_line c.self.inside.register.lines n) ∙ ap (λ (l : Ledger). line_at l.places n) c.self.view_is

pub returns-clause-lists : goal.returns-clause-lists
returns-clause-lists c = λ hs xs are idle.
    let both = asked_are hs xs (line_at c.args.self.now.places) are c.args.conn c.args.name.now c.args.mode idle c.args.term (line_at (places_in c.request.new.self.lines))
    (returns-clause-line c) (returns-clause-others c) in
    record { granted_are = both.0; queued_are = both.1 }

pub returns-clause-names : goal.returns-clause-names
returns-clause-names c = λ empty.
    let old = c.self.inside.register.lines in
    let new = c.request.new.self.lines in
    names_in new
    ∙ c.in-Ok.ensures.names (sym (places_line old c.args.name.now) ∙ ap (λ (l : Ledger). line_at l.places c.args.name.now) c.self.view_is ∙ empty)
    ∙ ap (λ (ns : List Name). ns ++ c.args.name.now ∷ []) (sym (names_in old) ∙ ap (λ (l : Ledger). names l.places) c.self.view_is)
