use Rattle.std.proofs.Common.{◌≡◌, ◌∙◌, sym}
use Rattle.iso_history.specs.declared.entry.Who.TheVariants.{Agent, Dispatcher}
use Rattle.iso_ends.proofs.parking.free.Goals as goal

pub returns-in-Dispatcher : goal.returns-in-Dispatcher
returns-in-Dispatcher c = record {
  known = λ head w i k. k;
  none = λ d e f. (let both : Dispatcher ≡ Agent d = sym c.in-Dispatcher.is ∙ e in absurd (cc));
}
