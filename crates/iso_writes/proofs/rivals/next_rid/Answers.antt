use Rattle.std.proofs.Common.{◌∙◌, sym}
use Rattle.iso_key.specs.Pages.{entries}
use Rattle.iso_writes.proofs.Walks.{none-found, rid-found}
use Rattle.iso_writes.proofs.rivals.next_rid.Goals as goal

pub returns-in-Some : goal.returns-in-Some
returns-in-Some c =
    c.rid_with.ensures
    ∙ rid-found c.args.key.now c.args.after (entries c.args.index.now) c.requires.ordered c.in-Some.entry (sym c.entry_after.ensures ∙ c.in-Some.is)

pub returns-in-None : goal.returns-in-None
returns-in-None c =
    none-found c.args.key.now c.args.after (entries c.args.index.now) c.requires.ordered (sym c.entry_after.ensures ∙ c.in-None.is)
