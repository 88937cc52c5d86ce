use Rattle.std.proofs.Common.{ap, ◌∙◌}
use Rattle.std.specs.List.{list_any}
use Rattle.iso_script.specs.Kept.{finds_key}
use Rattle.iso_script.proofs.KeyLaws.{keys_found}
use Rattle.iso_script.proofs.keyed.repeats_keys.Goals as goal

pub returns : goal.returns
returns c =
    c.finds_keys.ensures
    ∙ ap (list_any (finds_key c.args.progress.now.keys.keys c.args.table c.args.row.now)) c.as_slice-indexes.ensures
    ∙ keys_found c.args.progress.now.keys.keys c.args.progress.now.reader.script.head c.args.table c.args.row.now c.requires.kept.1
