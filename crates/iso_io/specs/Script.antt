-- What reading a script takes and answers.
use Rattle.std.specs.Prelude.{◌≡◌, ℕ, ◌≤◌, List, length, Option, Result, Ok, Err}
use Rattle.std.specs.Io.KnownBytes.{Consumes}
use Rattle.iso_io.specs.declared.script.ReadFault.{ReadFault}
use Rattle.iso_io.specs.declared.script.ReadFault.TheVariants.{TooLong}

-- what an answer says of the bytes that were taken
abbrev pub IsAnswerFor : List ℕ → Result (List ℕ) ReadFault → Type 0
IsAnswerFor bytes (Ok all) = (all ≡ bytes) × (length bytes ≤ 1048576)
IsAnswerFor bytes (Err TooLong) = length bytes ≡ 1048577
IsAnswerFor bytes (Err _) = length bytes ≤ 1048576

-- some bytes were taken, and the answer is the one for them
abbrev pub ReadsScript : Option (List ℕ) → Option (List ℕ) → Result (List ℕ) ReadFault → Type 0
ReadsScript old new answer = (bytes : List ℕ) × Consumes old new bytes × IsAnswerFor bytes answer
