use Rattle.std.proofs.Common.{◌∙◌, ◌++◌, ◌∷◌, [], ap, arith, List, ℕ}
use Rattle.std.specs.Map.{remove_entry}
use Rattle.indexmap.proofs.CallerLemmas.{insert_entry-new}
use Rattle.iso_types.specs.Ids.{text_eq}
use Rattle.iso_uow.specs.Savepoints.{newest_first, set_again}
use Rattle.iso_uow.proofs.Marked.{done, moved}
use Rattle.iso_uow.proofs.marks.Marks.set.Goals as goal

pub returns-clause-ok : goal.returns-clause-ok
returns-clause-ok c =
    ap newest_first (done c.insert.result c.insert.ensures.entries (c.insert.ensures.succeeds (omega (arith, c.in_ok-reserve.ensures.ok, c.shift_remove.ensures.room.0)))
    ∙ insert_entry-new text_eq c.shift_remove.new.self c.args.name c.args.at c.shift_remove.ensures.updates.1)
    ∙ ap (λ (es : List (List ℕ × ℕ)). newest_first (es ++ (c.args.name, c.args.at) ∷ [])) c.shift_remove.ensures.entries
    ∙ ap (λ (es : List (List ℕ × ℕ)). newest_first (remove_entry (text_eq c.args.name) es ++ (c.args.name, c.args.at) ∷ [])) c.in_ok-reserve.ensures.entries
    ∙ moved c.args.name c.args.at c.self.inside.places.entries c.self.invariant
    ∙ ap (λ marks. set_again marks c.args.name c.args.at) c.self.view_is
