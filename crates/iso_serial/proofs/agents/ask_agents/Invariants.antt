use Rattle.std.proofs.Common.{◌≡◌, find}
use Rattle.iso_serial.specs.Rounds.{agents_between, could_act}
use Rattle.iso_serial.specs.UnderWay.{AreRested}
use Rattle.iso_state.specs.Stands.{StandsFor}
use Rattle.iso_serial.proofs.agents.ask_agents.Given as goal

abbrev pub invariant-loop-at : goal.invariant-loop-at
invariant-loop-at l = record {
  stands : StandsFor l.parts;
  head : l.parts.head ≡ l.fn.parts.head;
  same : l.parts.history.items ≡ l.fn.parts.history.items;
  rested : AreRested l.script l.parts.history.items l.agents.items;
  passed : find (could_act l.script l.fn.parts.history.items) (agents_between l.script.head l.at l.to)
      ≡ find (could_act l.script l.fn.parts.history.items) (agents_between l.script.head l.from l.to);
}
