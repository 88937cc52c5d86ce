use Rattle.std.proofs.Common.{◌∙◌, List, ap, find, is_some}
use Rattle.iso_ends.proofs.PurgeWalks.{pairs-ordered}
use Rattle.iso_ends.specs.Purges.{is_stale_at}
use Rattle.iso_key.specs.Pages.{entries}
use Rattle.iso_state.specs.Stands.{content_of, world_of}
use Rattle.iso_types.specs.declared.value.Rid.{Rid}
use Rattle.iso_types.specs.declared.value.Value.{Value}
use Rattle.iso_ends.proofs.doubts.is_stale_in_all.Goals as goal

pub has_stale_pair-requires-clause-ordered : goal.has_stale_pair-requires-clause-ordered
has_stale_pair-requires-clause-ordered c =
    pairs-ordered (content_of c.args.parts.now) c.requires.stands.stands c.args.index (entries c.args.keys.now) c.requires.keys

pub returns : goal.returns
returns c =
    let p = c.args.parts.now in
    c.has_stale_pair.ensures ∙ ap (λ (ps : List (Value × Rid)). is_some (find (is_stale_at p.head (world_of p) c.args.index) ps)) c.requires.keys
