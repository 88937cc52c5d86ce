-- Voices: who may append which entries.
use Rattle.std.specs.Prelude.{ℕ, ◌+◌}
use Rattle.iso_history.specs.declared.entry.Entry.{Entry}
use Rattle.iso_history.specs.declared.entry.Who.{Who}
use Rattle.iso_history.specs.declared.entry.Who.TheVariants.{Agent, Dispatcher}

-- 0 for the dispatcher, c + 1 for the agent of connection c
abbrev pub voice : Who → ℕ
voice Dispatcher = 0
voice (Agent c) = c.0 + 1

-- the voice of the entry's author
abbrev pub voice_of : Entry → ℕ
voice_of e = voice e.who
