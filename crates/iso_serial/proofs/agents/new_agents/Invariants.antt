use Rattle.std.proofs.Common.{◌≡◌, vec_len}
use Rattle.iso_serial.specs.UnderWay.{AreNew}
use Rattle.iso_serial.proofs.agents.new_agents.Given as goal

abbrev pub invariant-loop-conn : goal.invariant-loop-conn
invariant-loop-conn l = record { len : vec_len l.agents ≡ l.conn; fresh : AreNew l.agents.items }
