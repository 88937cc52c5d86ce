use Rattle.std.proofs.Common.{◌∙◌, ◌&&◌, ◌||◌, List, ap, subst, sym}
use Rattle.iso_types.specs.declared.head.FirstRow.{FirstRow}
use Rattle.iso_types.specs.declared.head.IndexDef.{IndexDef}
use Rattle.iso_script.specs.declared.event.Event.{Event}
use Rattle.iso_script.specs.Keyed.{has_key, has_this}
use Rattle.iso_script.specs.Kept.{HoldsKeys, has_value, indexes_with, is_keyed, is_on, rows_with}
use Rattle.iso_script.proofs.KeyLaws.{index_held, on_ok, row_held}
use Rattle.iso_script.proofs.progress.add_keys.Goals as goal

pub returns-in-Index : goal.returns-in-Index
returns-in-Index c =
    on_ok c.add_index.result
    (λ h k. subst (λ (e : Event). HoldsKeys c.add_index.new.keys.keys (indexes_with e c.args.head.now.indexes) (rows_with e c.args.head.now.rows)) (sym c.in-Index.is)
    (index_held c.args.keys.now.keys c.add_index.new.keys.keys c.in-Index.index c.args.head.now.indexes c.args.head.now.rows
    (λ t column v. h t column v ∙ ap (λ (rows : List FirstRow). (is_on t column c.in-Index.index && has_key t column v rows) || has_value c.args.keys.now.keys t column v) c.as_slice.ensures) k)) c.add_index.ensures

pub returns-in-Row : goal.returns-in-Row
returns-in-Row c =
    on_ok c.add_row.result
    (λ h k. subst (λ (e : Event). HoldsKeys c.add_row.new.keys.keys (indexes_with e c.args.head.now.indexes) (rows_with e c.args.head.now.rows)) (sym c.in-Row.is)
    (row_held c.args.keys.now.keys c.add_row.new.keys.keys c.in-Row.first c.args.head.now.indexes c.args.head.now.rows
    (λ t column v. h t column v ∙ ap (λ (indexes : List IndexDef). (is_keyed indexes t column && has_this t column v c.in-Row.first) || has_value c.args.keys.now.keys t column v) c.as_slice-in-Row.ensures) k)) c.add_row.ensures
