-- The words of a seed, and the run that they schedule. // this project's own
use Rattle.std.specs.Prelude.{◌≡◌, ℕ, zero, suc, ◌+◌, ◌≤◌, List, [], ◌∷◌, filter, length, Option, Some, None}
use Rattle.rand_core.specs.Pcg32Seed.{pcg32_seed}
use Rattle.rand_pcg.specs.Lcg.{Lcg}
use Rattle.rand_pcg.specs.Pcg.{pcg32, pcg32_of_seed}
use Rattle.iso_conduct.specs.Schedule.{Scheduled, actors, drawn}
use Rattle.iso_conduct.specs.Schedule.Turns.{Drawn}
use Rattle.iso_history.specs.declared.entry.Entry.{Entry}
use Rattle.iso_history.specs.declared.entry.Who.{Who}
use Rattle.iso_history.specs.declared.entry.Who.TheVariants.{Dispatcher}
use Rattle.iso_script.specs.declared.script.Line.{Line}
use Rattle.iso_script.specs.declared.script.Script.{Script}
use Rattle.iso_serial.specs.Rounds.{HasMade, agent, could_act, turns_from}
use Rattle.iso_types.specs.declared.head.Head.{Head}

-- ---- words

-- the generator that a seed makes
unfoldable pub seeded : ℕ → Lcg
seeded seed = pcg32_of_seed (pcg32_seed 16 seed)

-- its next word
unfoldable pub word : Lcg → ℕ
word g = (pcg32 g).0

-- the generator one word on
unfoldable pub later : Lcg → Lcg
later g = (pcg32 g).1

-- so many words, from the next one on
abbrev pub words_from : ℕ → Lcg → List ℕ
words_from zero g = []
words_from (suc n) g = word g ∷ words_from n (later g)

-- so many words of a seed; none without a seed
abbrev pub words_of : Option ℕ → ℕ → Option (List ℕ)
words_of None n = None
words_of (Some seed) n = Some (words_from n (seeded seed))

-- the history is that of the serial run with this seed, or without one: it is scheduled by as many of the seed's words as it has
-- entries, and by any more of them
abbrev pub IsScheduled : Head → List Line → Option ℕ → List Entry → Type 0
IsScheduled head lines seed es = (n : ℕ) → length es ≤ n → Scheduled head lines (words_of seed n) es

-- ---- a run under way

-- the history is that of the run so far by the words of the generator `first`, which stands at `now`: whatever number of words is left
abbrev pub IsDrawn : Script → Lcg → List Entry → Lcg → Type 0
IsDrawn script first es now =
    (m : ℕ) → Scheduled script.head script.lines (Some (words_from (length es + m) first)) es
    × (turns_from (Drawn (words_from (length es + m) first)) es ≡ Drawn (words_from m now))

-- the agent at a place, or the dispatcher
abbrev pub actor_at : Option ℕ → Who
actor_at None = Dispatcher
actor_at (Some c) = agent c

-- the actor that a word picks among those that could act has made one entry more
abbrev pub HasDrawn : Script → List Entry → List Entry → ℕ → Type 0
HasDrawn script old new n =
    (who : Who) × HasMade script old new who × (drawn n (filter (could_act script old) (actors script.head)) ≡ Some who)
