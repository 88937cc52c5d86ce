-- What a look places and asks, and its answer.
use Rattle.std.specs.Prelude.{true, ◌≡◌, Bool, Option, List, false, not, ◌&&◌, if◌then◌else◌, is_some, nat_lt, unwrap_or}
use Rattle.iso_chain.specs.Laws.{pinned}
use Rattle.iso_chain.specs.Slots.{slot_in}
use Rattle.iso_history.specs.After.{world}
use Rattle.iso_history.specs.Holds.{placed_by_want}
use Rattle.iso_history.specs.Looks.{look, shown}
use Rattle.iso_history.specs.Outcomes.{at_limit}
use Rattle.iso_history.specs.Requests.{Outcome}
use Rattle.iso_history.specs.Requests.Outcome.{Gives, Limit}
use Rattle.iso_history.specs.Versions.{is_changed_beside, is_dead, slots, versions}
use Rattle.iso_history.specs.World.{World}
use Rattle.iso_history.specs.declared.entry.Got.{Got}
use Rattle.iso_history.specs.declared.entry.Want.{Want}
use Rattle.iso_history.specs.declared.entry.Want.TheVariants.{Alter, AlterKept, Dirty, Repeat}
use Rattle.iso_modes.specs.declared.Mode.{Mode}
use Rattle.iso_modes.specs.declared.Mode.TheVariants.{Ns, S, U}
use Rattle.iso_rebuild.specs.Chains.{HasChain, IsRebuilt}
use Rattle.iso_rebuild.specs.declared.past.Past.{Past}
use Rattle.iso_types.specs.declared.value.Conn.{Conn}
use Rattle.iso_types.specs.declared.value.Rid.{Rid}
use Rattle.iso_types.specs.declared.value.TableId.{TableId}
use Rattle.iso_types.specs.declared.value.Value.{Value}
use Rattle.iso_state.specs.Stands.{Content}
use Rattle.iso_locks.specs.Answers.{answer_of}
use Rattle.iso_locks.specs.declared.locking.Answer.{Answer}
use Rattle.iso_reads.specs.declared.outcomes.Looked.{Looked}
use Rattle.iso_reads.specs.declared.outcomes.Looked.TheVariants.{EndOfTable, Escalates, Pinned, Queued, Refused, Shown, TimedOut}

-- the mode that a want asks for, where it asks
abbrev pub asked_mode : Want → Mode
asked_mode Repeat = S
asked_mode Alter = U
asked_mode AlterKept = U
asked_mode _ = Ns

-- a look that is granted places a lock
abbrev pub places : World → TableId → Rid → Want → Bool
places w t r want = is_some (placed_by_want want) && not (is_dead (versions w t r))

-- what is seen is not the present row: the committed one beside another unit's pending version
abbrev pub is_beside : World → Conn → TableId → Rid → Want → Bool
is_beside w c t r Dirty = false
is_beside w c t r want = is_changed_beside w c t r

-- the slot as it is pinned: with the log's own records from its first to its head
abbrev pub pin_of : Content → TableId → Rid → Past
pin_of p t r = let s = slot_in p.chain.tables t r in pinned p.chain.log s (unwrap_or s.first 0) (unwrap_or s.head 0)

-- the answer to a look that is granted: the row that it shows, or the pin that it is made of
abbrev pub seen : Content → Conn → TableId → Rid → Want → Looked
seen p c t r want = let w = world p.head p.history in
    if is_beside w c t r want then Pinned (pin_of p t r) else Shown (shown w c t r want)

-- the answer at the lock limit: a table's lock was asked for instead, or it timed out, or there is no such table
abbrev pub limited : Answer → Looked
limited (Answer.Escalates t) = Escalates t
limited (Answer.Refused code) = Refused code
limited _ = TimedOut

-- the answer to a look at a slot, by its outcome
abbrev pub answer_by : Content → Conn → TableId → Rid → Want → Outcome → Looked
answer_by p c t r want (Gives Got.Granted) = seen p c t r want
answer_by p c t r want (Gives (Got.Queued m)) = Queued
answer_by p c t r want (Gives Got.TimedOut) = TimedOut
answer_by p c t r want Limit = limited (answer_of (at_limit p.head (world p.head p.history) c))

-- the answer to a look, or behind the last slot
abbrev pub answer_at : Content → Conn → TableId → Rid → Want → Looked
answer_at p c t r want = let w = world p.head p.history in
    if nat_lt r.0 (slots w t) then answer_by p c t r want (look p.head w c t r want) else EndOfTable

-- what is shown is this row, or is made of the pin
abbrev pub Shows : Looked → Option (List Value) → Type 0
Shows (Shown row) is = row ≡ is
Shows (Pinned past) is = HasChain past × ((row : Option (List Value)) → IsRebuilt past row → row ≡ is)
Shows _ is = Unit {0}

-- what comes at the lock limit
abbrev pub comes_at_limit : Answer → Bool
comes_at_limit Answer.Done = false
comes_at_limit Answer.Queued = false
comes_at_limit _ = true
