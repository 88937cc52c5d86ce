use Rattle.std.proofs.Common.{◌≡◌, ◌≤◌, ◌-◌, vec_len, length}
use Rattle.iso_director.specs.Director.{HasTaken}
use Rattle.iso_history.specs.Stops.{history_limit}
use Rattle.iso_serial.specs.Rounds.{IsAfter, actor}
use Rattle.iso_serial.specs.UnderWay.{AreRested}
use Rattle.iso_state.specs.Stands.{StandsFor}
use Rattle.iso_serial.proofs.run.run_turns.Given as goal

abbrev pub invariant-turns : goal.invariant-turns
invariant-turns l = record {
  stands : StandsFor l.parts;
  head : l.parts.head ≡ l.fn.parts.head;
  taken : HasTaken l.script l.parts.history.items l.director;
  rested : AreRested l.script l.parts.history.items l.agents.items;
  within : l.last ≤ vec_len l.agents;
  scheduled : IsAfter l.script l.parts.history.items (actor l.last);
}

abbrev pub decreases-turns : goal.decreases-turns
decreases-turns l = history_limit - length l.parts.history.items
