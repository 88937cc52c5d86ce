use Rattle.std.proofs.Common.{◌≡◌, ◌+◌, ◌<◌, ◌∙◌, ap, sym, true, ℕ}
use Rattle.iso_serial.proofs.Picks.{chosen-agent, chosen-dispatcher, is-first, never-none, not-first, some-able}
use Rattle.iso_serial.specs.Rounds.{could_act}
use Rattle.iso_serial.proofs.drawing.choose.Goals as goal

pub place_of-place-requires : goal.place_of-place-requires
place_of-place-requires c =
    let head = c.args.script.now.head in
    let p = could_act c.args.script.now c.args.parts.now.history.items in
    let n = c.count_able.result in
    some-able head p n (n + c.one_if.result) c.args.leads c.requires.leads c.requires.some c.count_able.ensures.count
    (ap (λ (k : ℕ). n + k) c.one_if.ensures)

pub returns-then-is_first-clause-chosen : goal.returns-then-is_first-clause-chosen
returns-then-is_first-clause-chosen c =
    let head = c.args.script.now.head in
    let p = could_act c.args.script.now c.args.parts.now.history.items in
    let n = c.count_able.result in
    let place = c.place_of-place.result in
    let first = is-first c.args.leads place (sym c.is_first.ensures ∙ c.if-is_first.true) in
    chosen-dispatcher head p n (n + c.one_if.result) c.args.leads c.requires.leads c.requires.some c.count_able.ensures.count
    (ap (λ (k : ℕ). n + k) c.one_if.ensures) c.args.word place c.place_of-place.ensures first.0 first.1

pub behind-requires : goal.behind-requires
behind-requires c = not-first c.args.leads c.place_of-place.result (sym c.is_first.ensures ∙ c.if-is_first.false)

pub unreachable-requires : goal.unreachable-requires
unreachable-requires c =
    let head = c.args.script.now.head in
    let p = could_act c.args.script.now c.args.parts.now.history.items in
    let n = c.count_able.result in
    let place = c.place_of-place.result in
    let more : c.args.leads ≡ true → 0 < place = not-first c.args.leads place (sym c.is_first.ensures ∙ c.if-is_first.false) in
    never-none head p n (n + c.one_if.result) c.args.leads c.requires.leads c.requires.some c.count_able.ensures.count
    (ap (λ (k : ℕ). n + k) c.one_if.ensures) c.args.word place c.place_of-place.ensures more c.behind.result c.behind.ensures c.in-None.ensures.found

pub returns-clause-chosen : goal.returns-clause-chosen
returns-clause-chosen c =
    let head = c.args.script.now.head in
    let p = could_act c.args.script.now c.args.parts.now.history.items in
    let n = c.count_able.result in
    let place = c.place_of-place.result in
    let more : c.args.leads ≡ true → 0 < place = not-first c.args.leads place (sym c.is_first.ensures ∙ c.if-is_first.false) in
    chosen-agent head p n (n + c.one_if.result) c.args.leads c.requires.leads c.requires.some c.count_able.ensures.count
    (ap (λ (k : ℕ). n + k) c.one_if.ensures) c.args.word place c.place_of-place.ensures more c.behind.result c.behind.ensures c.in-Some.at
    c.in-Some.ensures.found
