use Rattle.std.proofs.Common.{◌∙◌, ap, find}
use Rattle.iso_ends.proofs.PurgeWalks.{pairs-ordered}
use Rattle.iso_history.specs.Entries.{is_purgeable}
use Rattle.iso_key.specs.Pages.{entries}
use Rattle.iso_state.specs.Stands.{content_of, world_of}
use Rattle.iso_ends.proofs.walking.least_in_all.Goals as goal

pub first_purgeable-requires-clause-ordered : goal.first_purgeable-requires-clause-ordered
first_purgeable-requires-clause-ordered c =
    pairs-ordered (content_of c.args.parts.now) c.requires.stands.stands c.args.index (entries c.args.keys.now) c.requires.keys

pub returns : goal.returns
returns c =
    let p = c.args.parts.now in
    c.first_purgeable.ensures ∙ ap (find (is_purgeable p.head (world_of p) c.args.index)) c.requires.keys
