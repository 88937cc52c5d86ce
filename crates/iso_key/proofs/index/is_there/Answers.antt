use Rattle.std.proofs.Common.{ap, ◌∙◌, sym, false}
use Rattle.std.specs.Option.{option_map_or}
use Rattle.iso_key.proofs.Keys.{has-first_from}
use Rattle.iso_key.specs.Pages.{entries}
use Rattle.iso_types.specs.Value.{value_eq}
use Rattle.iso_key.proofs.index.is_there.Goals as goal

pub returns-in-Some : goal.returns-in-Some
returns-in-Some c = c.has_key.ensures ∙ sym (has-first_from c.args.key.now (entries c.args.pages.now) c.requires.ordered
    ∙ ap (λ z. option_map_or (λ p. value_eq p.0 c.args.key.now) z false) (sym c.first_behind.ensures ∙ c.in-Some.is))

pub returns-in-None : goal.returns-in-None
returns-in-None c = sym (has-first_from c.args.key.now (entries c.args.pages.now) c.requires.ordered
    ∙ ap (λ z. option_map_or (λ p. value_eq p.0 c.args.key.now) z false) (sym c.first_behind.ensures ∙ c.in-None.is))
