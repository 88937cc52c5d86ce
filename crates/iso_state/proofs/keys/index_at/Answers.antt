use Rattle.std.proofs.Common.{◌≡◌, ◌<◌, length, ap, sym, subst, ◌∙◌, List, get_or}
use Rattle.std.proofs.lemmas.Result.{IfOk-weaker}
use Rattle.iso_table.specs.declared.slot.Slot.{Slot}
use Rattle.iso_types.specs.Filled.{Filled}
use Rattle.iso_types.specs.declared.head.IndexDef.{IndexDef}
use Rattle.iso_state.proofs.FirstKeys.{keys-are, rows-there, table-there, tables-there}
use Rattle.iso_state.proofs.keys.index_at.Goals as goal

pub bounds-as_slice-index : goal.bounds-as_slice-index
bounds-as_slice-index c =
    let d = c.index-as_slice-at.result in
    let is : d ≡ get_or c.args.head.now.indexes c.args.at d = c.index-as_slice-at.is ∙ ap (λ (l : List IndexDef). get_or l c.args.at d) c.as_slice.ensures in
    subst (λ n. d.table.0 < n)
    (sym (ap (λ (l : List (Filled Slot)). length l) c.as_slice-2.ensures ∙ tables-there c.args.head.now c.args.tables.now c.requires.rows))
    (table-there c.args.head.now c.args.at d c.requires.placed c.requires.at is)

pub returns : goal.returns
returns c =
    let d = c.index-as_slice-at.result in
    let s = c.index-as_slice-index.result in
    let is : d ≡ get_or c.args.head.now.indexes c.args.at d = c.index-as_slice-at.is ∙ ap (λ (l : List IndexDef). get_or l c.args.at d) c.as_slice.ensures in
    let found : s ≡ get_or c.args.tables.now d.table.0 s = c.index-as_slice-index.is ∙ ap (λ (l : List (Filled Slot)). get_or l d.table.0 s) c.as_slice-2.ensures in
    let there = table-there c.args.head.now c.args.at d c.requires.placed c.requires.at is in
    IfOk-weaker c.first_index.result _ _ (λ index e. e
    ∙ keys-are c.args.head.now c.args.at d _ c.requires.at is (rows-there c.args.head.now c.args.tables.now d.table s there c.requires.rows found))
    c.first_index.ensures
