use Rattle.std.proofs.Common.{◌≡◌, ◌∙◌, ◌++◌, ◌∷◌, map, ℕ, List, [], ap, sym, arith, length}
use Rattle.std.specs.List.{range_with_len}
use Rattle.std.proofs.lemmas.List.{map-append}
use Rattle.std.proofs.lemmas.List.FromFn.{map-range_with_len_more}
use Rattle.iso_chain.specs.Views.{bare}
use Rattle.iso_table.specs.Slots.{new_slot}
use Rattle.iso_table.specs.declared.slot.Slot.{Slot}
use Rattle.iso_types.specs.Filled.{Filled}
use Rattle.iso_types.specs.Head.{rows_of}
use Rattle.iso_state.proofs.FirstParts.{slots-of-numbers, table_number}
use Rattle.iso_state.proofs.parts.first_tables.Goals as goal

pub loop-at-preserved : goal.loop-at-preserved
loop-at-preserved c =
    ap (λ (l : List (Filled Slot)). bare l) c.in_ok-push.ensures.ok
    ∙ map-append (λ (t : Filled Slot). t.items) c.loop-at.tables (c.in_ok-first_table.field-0 ∷ [])
    ∙ ap (λ (l : List (List Slot)). l ++ c.in_ok-first_table.field-0.items ∷ []) c.loop-at.invariant
    ∙ ap (λ (r : List Slot). map (λ k. map new_slot (rows_of c.args.head.now (table_number k))) (range_with_len 0 c.loop-at.at) ++ r ∷ []) c.in_ok-first_table.ensures
    ∙ sym (map-range_with_len_more (λ k. map new_slot (rows_of c.args.head.now (table_number k))) 0 c.loop-at.at c.loop-at.at (omega arith))

pub returns : goal.returns
returns c =
    let all : c.loop-at.at ≡ length c.args.head.now.tables = omega (arith, c.loop-at-test.false, c.loop-at.auto.at-end, c.len-at-end.ensures) in
    c.loop-at.invariant
    ∙ ap (λ (n : ℕ). map (λ k. map new_slot (rows_of c.args.head.now (table_number k))) (range_with_len 0 n)) all
    ∙ slots-of-numbers c.args.head.now (range_with_len 0 (length c.args.head.now.tables))
