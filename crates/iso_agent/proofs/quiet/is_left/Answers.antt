use Rattle.std.proofs.Common.{◌∙◌, ap, sym, false, ℕ, Option, not}
use Rattle.std.specs.Option.{option_map_or}
use Rattle.std.specs.Prelude.{nat_lt}
use Rattle.iso_state.specs.Stands.{content_of}
use Rattle.iso_ends.proofs.Undoes.{last-is}
use Rattle.iso_agent.proofs.quiet.is_left.Goals as goal

pub returns-in-None : goal.returns-in-None
returns-in-None c =
    ap (λ (o : Option ℕ). option_map_or (λ (n : ℕ). not (nat_lt n c.args.floor)) o false)
    (sym c.in-None.is ∙ c.last.ensures ∙ last-is (content_of c.args.parts.now) c.args.conn c.requires.stands.stands c.requires.conn)
