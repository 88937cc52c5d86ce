-- The serial run: whose turn it is, and which entry the dispatcher makes at its turn.
use Rattle.std.specs.Option.{option_map, option_or}
use Rattle.std.specs.Prelude.{◌≡◌, ℕ, ◌+◌, ◌%◌, Bool, not, ◌&&◌, List, [], ◌∷◌, ◌++◌, map, length, take, drop, filter, find, slice_get, IsTrue, Option, Some, None, is_some, is_none, if◌then◌else◌}
use Rattle.iso_conduct.specs.Conduct.{stops_for_memory}
use Rattle.iso_conduct.specs.Pacing.{is_over, lines_after, taking}
use Rattle.iso_history.specs.After.{after, start}
use Rattle.iso_history.specs.Makers.{by_dispatcher}
use Rattle.iso_history.specs.Quiet.{all_ended, cycle_in, is_able, is_quiet, least_idle}
use Rattle.iso_history.specs.Stops.{is_full}
use Rattle.iso_history.specs.Voices.{voice}
use Rattle.iso_history.specs.World.{World}
use Rattle.iso_history.specs.declared.entry.Act.{Act}
use Rattle.iso_history.specs.declared.entry.Act.TheVariants.{Close, Finish, Stopped, Victim}
use Rattle.iso_history.specs.declared.entry.Cause.TheVariants.{History}
use Rattle.iso_history.specs.declared.entry.Entry.{Entry}
use Rattle.iso_history.specs.declared.entry.Who.{Who}
use Rattle.iso_history.specs.declared.entry.Who.TheVariants.{Agent, Dispatcher}
use Rattle.iso_script.specs.declared.script.Line.{Line}
use Rattle.iso_types.specs.Head.{conns}
use Rattle.iso_types.specs.declared.head.Head.{Head}

-- ---- the dispatcher's entry

-- once no line is left or a Stopped stands: the least idle connection is closed in quiet, and Finish is made where all are ended
abbrev pub ending_step : Head → World → Option Act
ending_step head w =
    option_or (if is_quiet head w then option_map Close (least_idle head w) else None) (if all_ended head w then Some Finish else None)

-- the first that may stand of Victim, Purge, the next line's entry, Close and Finish
abbrev pub first_step : Head → World → List Line → Option Act
first_step head w ls =
    if w.pace.finished then None else
    option_or (option_map Victim (cycle_in head w)) (option_or (taking head w ls) (if is_over w ls then ending_step head w else None))

-- the same, or a Stopped in its place where it is full
abbrev pub dispatcher_step : Head → World → List Line → Option Act
dispatcher_step head w ls =
    option_map (λ a. if is_full head w (by_dispatcher a) then Stopped History else a) (first_step head w ls)

-- the dispatcher's entry is this step; it stops for want of memory where the step would take a line or purge
abbrev pub IsFirst : Head → World → List Line → Act → Type 0
IsFirst head w ls a =
    (IsTrue (not (stops_for_memory a)) → dispatcher_step head w ls ≡ Some a)
    × (IsTrue (stops_for_memory a) → IsTrue (is_none (cycle_in head w) && is_some (taking head w ls)))

-- of a dispatcher's entry alone
abbrev pub Leads : Head → World → List Line → Who → Act → Type 0
Leads head w ls Dispatcher a = IsFirst head w ls a
Leads head w ls (Agent c) a = Unit {0}

-- ---- whose turn it is

-- the actors, as they stand in the circle
abbrev pub actors : Head → List Who
actors head = Dispatcher ∷ map Agent (conns head)

-- the actor may make an entry
abbrev pub can_act : Head → World → List Line → Who → Bool
can_act head w ls Dispatcher = is_some (dispatcher_step head w ls)
can_act head w ls (Agent c) = is_able w c

-- the actors in the circle, those after this one first
abbrev pub after_actor : Head → Who → List Who
after_actor head who = drop (voice who + 1) (actors head) ++ take (voice who + 1) (actors head)

-- how turns are given: to the first able actor after the maker of the entry before; or by the words that are left
pub data Turns : Type 0 where
  Round : (last : Option Who) → Turns
  Drawn : (words : List ℕ) → Turns

-- the item at the word, modulo the number of items
abbrev pub drawn : ℕ → List Who → Option Who
drawn word [] = None
drawn word (x ∷ xs) = slice_get (x ∷ xs) (word % length (x ∷ xs))

-- whose turn it is: entry 0 of a round is the dispatcher's; a word picks among the able actors
abbrev pub turn : Head → World → List Line → Turns → Option Who
turn head w ls (Round None) = Some Dispatcher
turn head w ls (Round (Some who)) = find (can_act head w ls) (after_actor head who)
turn head w ls (Drawn []) = None
turn head w ls (Drawn (word ∷ words)) = drawn word (filter (can_act head w ls) (actors head))

-- the turns after an entry of this maker
abbrev pub turns_after : Turns → Who → Turns
turns_after (Round last) who = Round (Some who)
turns_after (Drawn []) who = Drawn []
turns_after (Drawn (word ∷ words)) who = Drawn words

-- ---- along a history

-- each entry is made by the actor whose turn it is, and each of the dispatcher's is its first step
unfoldable pub ScheduledFrom : Head → World → List Line → Turns → List Entry → Type 0
ScheduledFrom head w ls ts [] = Unit {0}
ScheduledFrom head w ls ts (e ∷ es) =
    (turn head w ls ts ≡ Some e.who) × Leads head w ls e.who e.act
    × ScheduledFrom head (after head w e) (lines_after ls e.who e.act) (turns_after ts e.who) es

-- the turns of a run: in a round without words, else by the words of the generator
abbrev pub first_turns : Option (List ℕ) → Turns
first_turns None = Round None
first_turns (Some words) = Drawn words

-- the history is that of the serial run without a seed, or with a seed whose generator gives these words
unfoldable pub Scheduled : Head → List Line → Option (List ℕ) → List Entry → Type 0
Scheduled head lines words es = ScheduledFrom head (start head) lines (first_turns words) es
