-- The answer to a step of an index scan, by where it stands.
use Rattle.std.specs.Prelude.{Bool, true, false, Option, Some, None}
use Rattle.iso_history.specs.After.{world}
use Rattle.iso_history.specs.Nexts.{next}
use Rattle.iso_history.specs.Outcomes.{at_limit, next_by}
use Rattle.iso_history.specs.World.{World}
use Rattle.iso_history.specs.declared.entry.Act.{Act}
use Rattle.iso_history.specs.declared.entry.Stand.{Stand}
use Rattle.iso_types.specs.declared.head.Head.{Head}
use Rattle.iso_types.specs.declared.head.Range.{Range}
use Rattle.iso_types.specs.declared.value.Conn.{Conn}
use Rattle.iso_types.specs.declared.value.IndexId.{IndexId}
use Rattle.iso_types.specs.declared.value.Rid.{Rid}
use Rattle.iso_types.specs.declared.value.Value.{Value}
use Rattle.iso_state.specs.Stands.{Content}
use Rattle.iso_locks.specs.Answers.{answer_of}
use Rattle.iso_locks.specs.declared.locking.Answer.{Answer}
use Rattle.iso_reads.specs.declared.stepping.Stepped.{Stepped}
use Rattle.iso_reads.specs.declared.stepping.Stepped.TheVariants.{At, Escalates, Past, Queued, Refused, TimedOut}

-- the act of the step: its Next, or what comes at the lock limit
abbrev pub next_act : Head → World → Conn → IndexId → Range → Option (Value × Rid) → Bool → Act
next_act head w c i range at guarded = next_by head w c i range at guarded (next head w c i range at guarded)

-- the answer at the lock limit: a table's lock was asked for instead, or it timed out, or there is no such table
abbrev pub stepped_limited : Answer → Stepped
stepped_limited (Answer.Escalates t) = Escalates t
stepped_limited (Answer.Refused code) = Refused code
stepped_limited _ = TimedOut

-- the step asked for no lock, or was granted it
abbrev pub lands : Stand → Bool
lands (Stand.At key rid) = true
lands Stand.Past = true
lands _ = false

-- the answer, by where the step stands or what it awaits
abbrev pub stepped_at : Stand → Stepped
stepped_at (Stand.At key rid) = At key rid
stepped_at Stand.Past = Past
stepped_at (Stand.Queued name) = Queued
stepped_at (Stand.TimedOut name) = TimedOut

-- or at the limit
abbrev pub stepped_by : Content → Conn → Option Stand → Stepped
stepped_by p c (Some stand) = stepped_at stand
stepped_by p c None = stepped_limited (answer_of (at_limit p.head (world p.head p.history) c))

-- the answer to a step
abbrev pub next_answer : Content → Conn → IndexId → Range → Option (Value × Rid) → Bool → Stepped
next_answer p c i range at guarded = stepped_by p c (next p.head (world p.head p.history) c i range at guarded)
