use Rattle.std.proofs.Common.{◌∙◌, Option, ap, false, option_map, sym}
use Rattle.std.specs.Option.{option_map_or}
use Rattle.iso_locklist.specs.Lists.{named_hold}
use Rattle.iso_modes.specs.Terms.{is_kept}
use Rattle.iso_queue.specs.Locks.{Hold}
use Rattle.iso_ends.proofs.parking.keeps.Goals as goal

pub returns-in-Some : goal.returns-in-Some
returns-in-Some c =
    c.is_kept.ensures
    ∙ ap (λ (o : Option Hold). option_map_or (λ h. is_kept h.term) o false) (ap (option_map (named_hold c.args.name.now)) (sym c.in-Some.is) ∙ c.hold.ensures)

pub returns-in-None : goal.returns-in-None
returns-in-None c =
    ap (λ (o : Option Hold). option_map_or (λ h. is_kept h.term) o false) (ap (option_map (named_hold c.args.name.now)) (sym c.in-None.is) ∙ c.hold.ensures)
