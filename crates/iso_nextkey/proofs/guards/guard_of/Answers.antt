use Rattle.std.proofs.Common.{◌∙◌, ap, sym, Option}
use Rattle.iso_history.specs.Entries.{key_name}
use Rattle.iso_key.specs.Pages.{entries}
use Rattle.iso_nextkey.proofs.Worlds.{from-edge}
use Rattle.iso_types.specs.declared.value.Rid.{Rid}
use Rattle.iso_types.specs.declared.value.Value.{Value}
use Rattle.iso_nextkey.proofs.guards.guard_of.Goals as goal

pub returns-in-Some : goal.returns-in-Some
returns-in-Some c =
    c.name_of.ensures
    ∙ ap (λ (o : Option (Value × Rid)). key_name c.args.id o)
    (sym c.in-Some.is ∙ c.first_from.ensures ∙ from-edge c.args.key.now (entries c.args.index.now))

pub returns-in-None : goal.returns-in-None
returns-in-None c =
    ap (λ (o : Option (Value × Rid)). key_name c.args.id o)
    (sym c.in-None.is ∙ c.first_from.ensures ∙ from-edge c.args.key.now (entries c.args.index.now))
