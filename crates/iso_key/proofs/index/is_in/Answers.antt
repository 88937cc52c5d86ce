use Rattle.std.proofs.Common.{ap, ◌∙◌, sym, false}
use Rattle.std.specs.Option.{option_map_or}
use Rattle.iso_key.proofs.Placed.{has-from}
use Rattle.iso_key.specs.Pages.{entries}
use Rattle.iso_types.specs.Ids.{pair_eq}
use Rattle.iso_key.proofs.index.is_in.Goals as goal

pub returns-in-Some : goal.returns-in-Some
returns-in-Some c = c.is_same.ensures ∙ sym (has-from (c.args.key.now, c.args.rid) (entries c.args.pages.now) c.requires.ordered
    ∙ ap (λ z. option_map_or (pair_eq (c.args.key.now, c.args.rid)) z false) (sym c.first_behind.ensures ∙ c.in-Some.is))

pub returns-in-None : goal.returns-in-None
returns-in-None c = sym (has-from (c.args.key.now, c.args.rid) (entries c.args.pages.now) c.requires.ordered
    ∙ ap (λ z. option_map_or (pair_eq (c.args.key.now, c.args.rid)) z false) (sym c.first_behind.ensures ∙ c.in-None.is))
