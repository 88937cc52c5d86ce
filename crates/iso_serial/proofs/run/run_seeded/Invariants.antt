use Rattle.std.proofs.Common.{◌≡◌, ◌-◌, length}
use Rattle.iso_director.specs.Director.{HasTaken}
use Rattle.iso_history.specs.Stops.{history_limit}
use Rattle.iso_serial.specs.Seeds.{IsDrawn, seeded}
use Rattle.iso_serial.specs.UnderWay.{AreRested}
use Rattle.iso_state.specs.Stands.{StandsFor}
use Rattle.iso_serial.proofs.run.run_seeded.Given as goal

abbrev pub invariant-draws : goal.invariant-draws
invariant-draws l = record {
  stands : StandsFor l.parts;
  head : l.parts.head ≡ l.fn.parts.head;
  taken : HasTaken l.script l.parts.history.items l.director;
  rested : AreRested l.script l.parts.history.items l.agents.items;
  drawn : IsDrawn l.script (seeded l.seed) l.parts.history.items l.words;
}

abbrev pub decreases-draws : goal.decreases-draws
decreases-draws l = history_limit - length l.parts.history.items
