use Rattle.std.proofs.Common.{◌≡◌}
use Rattle.iso_agent.specs.Fits.{IsRested}
use Rattle.iso_agent.specs.Passes.{IsPassOf}
use Rattle.iso_latch.specs.Told.{seen_of}
use Rattle.iso_agent.proofs.agent.Agent.drive.Given as goal

abbrev pub invariant-loop : goal.invariant-loop
invariant-loop g l = record {
  conn : l.agent.conn ≡ l.fn.self.conn;
  pass : IsPassOf l.fn.latch.table.shared.table_id l.fn.script l.fn.self.conn l.pass;
  rested : IsRested l.fn.script (seen_of l.pass.seat) l.fn.self.conn l.agent.task l.agent.kept;
}
