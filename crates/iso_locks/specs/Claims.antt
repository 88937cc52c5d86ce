-- What a claim answers, and what it adds.
use Rattle.std.specs.Prelude.{List, [], ◌∷◌, if◌then◌else◌, unwrap_or}
use Rattle.iso_history.specs.Makers.{by_agent}
use Rattle.iso_history.specs.Phases.{phase, waits_grantable}
use Rattle.iso_history.specs.World.{World}
use Rattle.iso_history.specs.declared.entry.Act.TheVariants.{Claim}
use Rattle.iso_history.specs.declared.entry.Entry.{Entry}
use Rattle.iso_queue.specs.Queues.{is_grantable}
use Rattle.iso_types.specs.declared.desk.Phase.{Phase}
use Rattle.iso_types.specs.declared.desk.Phase.TheVariants.{Rolling}
use Rattle.iso_types.specs.declared.value.Conn.{Conn}
use Rattle.iso_locks.specs.declared.claiming.StepClaim.{StepClaim}
use Rattle.iso_locks.specs.declared.claiming.StepClaim.TheVariants.{Ended, Granted, NotYet}

-- the answer to a claim, by phase: the wait was ended, is granted, or has an edge
abbrev pub claim_in : World → Conn → Phase → StepClaim
claim_in w c Rolling = Ended (unwrap_or (w.doom c) 0)
claim_in w c _ = if is_grantable w.holds w.waits c then Granted else NotYet

-- the answer to a claim
abbrev pub claim_of : World → Conn → StepClaim
claim_of w c = claim_in w c (phase w c)

-- what it adds: its entry, where it is granted
abbrev pub claims : World → Conn → List Entry
claims w c = if waits_grantable w c then by_agent c Claim ∷ [] else []
