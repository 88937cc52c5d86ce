use Rattle.std.proofs.Common.{rules, ◌≡◌, ◌≤◌, ◌+◌, ◌*◌, ◌∙◌, List, ap, map, arith, length, sym, subst}
use Rattle.iso_chain.specs.Views.{bare}
use Rattle.iso_key.specs.Pages.{entries}
use Rattle.iso_table.specs.declared.slot.Slot.{Slot}
use Rattle.iso_types.specs.Filled.{Filled}
use Rattle.iso_types.specs.declared.value.Rid.{Rid}
use Rattle.iso_types.specs.declared.value.Value.{Value}
use Rattle.iso_state.specs.Stands.{Content, HasPlace}
use Rattle.iso_state.proofs.FirstParts.{first-is, first-place, locks-are}
use Rattle.iso_state.proofs.parts.Parts.new.Goals as goal

pub returns-clause-stands : goal.returns-clause-stands
returns-clause-stands c =
    let n : 2 * c.len-conns.result + 2 ≡ length c.args.head.now.conns * 2 + 2 = omega (arith, c.len-conns.ensures) in
    let room : length c.args.head.now.conns * 2 + 2 ≤ c.in_ok-first_history.field-0.spare = omega (arith, n, c.in_ok-first_history.ensures.room) in
    subst (λ (q : Content). HasPlace q c.in_ok-first_history.field-0.spare c.new-2.result.spare)
    (sym (first-is c.args.head.now c.in_ok-copied.field-0 c.tables.inside.items.items c.new-2.result c.in_ok-new-2.field-0 c.indexes.inside.items.items
    c.in_ok-new.field-0 c.in_ok-first_desks.field-0 c.in_ok-first_history.field-0.items (2 * c.len-conns.result + 2)
    c.in_ok-copied.ensures (ap (λ (l : List (Filled Slot)). bare l) c.tables.view_is ∙ c.in_ok-tables.ensures)
    c.new-2.ensures.records c.new-2.ensures.window c.new-2.ensures.logmax c.in_ok-new-2.ensures.begun (search rules)
    (ap (λ (l : List (List (List (Value × Rid)))). map entries l) c.indexes.view_is ∙ c.in_ok-indexes.ensures)
    (locks-are c.args.head.now c.in_ok-new.field-0 c.in_ok-new.ensures.places c.in_ok-new.ensures.share c.in_ok-new.ensures.slots c.in_ok-new.ensures.index_tables)
    c.in_ok-first_desks.ensures c.in_ok-first_history.ensures.items n))
    (first-place c.args.head.now c.in_ok-first_history.field-0.spare c.new-2.result.spare c.requires.fits room)
