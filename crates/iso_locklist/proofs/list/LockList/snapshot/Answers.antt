use Rattle.std.proofs.Common.{Bor, ◌∙◌, ap, subst, sym}
use Rattle.std.specs.List.{flat_map}
use Rattle.std.proofs.lemmas.Result.{IfOk-weaker}
use Rattle.iso_lines.specs.Named.{line_of}
use Rattle.iso_locklist.specs.Holding.{AreLines}
use Rattle.iso_locklist.specs.Places.{Ledger, line_at, place}
use Rattle.iso_locklist.specs.Snapshots.{lines_of}
use Rattle.iso_locklist.proofs.Listing.{listed, used_shown}
use Rattle.iso_locklist.proofs.Registered.{places_line}
use Rattle.iso_queue.specs.Snapshots.{lines_at}
use Rattle.iso_types.specs.declared.value.Name.{Name}
use Rattle.iso_locklist.proofs.list.LockList.snapshot.Goals as goal

pub returns : goal.returns
returns c = λ hs xs are.
    let head = c.args.head.now in
    let lines = c.self.inside.register.lines in
    let line = (λ (n : Name). line_of lines n) in
    let holding = subst (λ (l : Name → _). AreLines hs xs l) (λ j n. places_line lines n j) (subst (λ (l : Ledger). AreLines hs xs (line_at l.places)) (sym c.self.view_is) are) in
    IfOk-weaker c.list_lines.result _ _ (λ all e. e
    ∙ ap (flat_map (λ (n : Bor Name). lines_of head (place n.now (line n.now)))) c.deref.ensures.value
    ∙ listed hs xs line holding head c.in_ok-names.names.items
    ∙ ap (flat_map (lines_at head hs xs)) (c.in_ok-names.ensures _ (used_shown hs xs line holding))) c.list_lines.ensures
