-- What the calls of a source and of a sink do to the bytes that they tell, and to their counts of faults.
use Rattle.std.specs.Prelude.{ℕ, ◌+◌, ◌<◌, ◌≤◌, ◌^◌, ◌⊎◌, List, length, take, Option}
use Rattle.std.specs.Io.KnownBytes.{Appends}

-- The count is above the old one, or it stands at its last value.
abbrev pub HasRisen : ℕ → ℕ → Type 0
HasRisen old new = (old < new) ⊎ (2 ^ 64 ≤ new + 1)

-- The sink holds a part of the text more, from its front.
abbrev pub AppendsPart : Option (List ℕ) → Option (List ℕ) → List ℕ → Type 0
AppendsPart old new text = (n : ℕ) × (n ≤ length text) × Appends old new (take n text)
