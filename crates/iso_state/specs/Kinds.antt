-- Kinds of an agent's entries, by what they change beside locks and history.
use Rattle.std.specs.Prelude.{ℕ, Bool, true, false}
use Rattle.iso_history.specs.declared.entry.Act.{Act}
use Rattle.iso_history.specs.declared.entry.Act.TheVariants.{Collapse, Free, Lock, Look, Next, Refused, ScanEnd}
use Rattle.iso_history.specs.declared.entry.Got.{Got}
use Rattle.iso_history.specs.declared.entry.Stand.{Stand}

-- nothing: a request that is granted, an end of a scan, a lock given back, a refusal
abbrev pub is_bare : Act → Bool
is_bare (Lock n m t why Got.Granted) = true
is_bare (Look t r want Got.Granted) = true
is_bare (ScanEnd t n) = true
is_bare (Next i range at guarded (Stand.At v r)) = true
is_bare (Next i range at guarded Stand.Past) = true
is_bare (Free t r) = true
is_bare (Collapse t m) = true
is_bare (Refused code) = true
is_bare _ = false

-- the phase: a request that queues
abbrev pub queues : Act → Bool
queues (Lock n m t why (Got.Queued to)) = true
queues (Look t r want (Got.Queued to)) = true
queues (Next i range at guarded (Stand.Queued n)) = true
queues _ = false

-- the phase, the doom and the reserve: a request that timed out
abbrev pub times_out : Act → Bool
times_out (Lock n m t why Got.TimedOut) = true
times_out (Look t r want Got.TimedOut) = true
times_out (Next i range at guarded (Stand.TimedOut n)) = true
times_out _ = false
