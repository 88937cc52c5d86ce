-- What taking one line answers.
use Rattle.std.specs.Prelude.{◌≡◌, ℕ, false, List, Some, None, Result, Ok, Err, MatchBool}
use Rattle.iso_grammar.specs.declared.fault.Checked.{Checked}
use Rattle.iso_script.specs.declared.fault.LineCause.{LineCause}
use Rattle.iso_grammar.specs.Lex.{is_skipped}
use Rattle.iso_script.specs.declared.event.Event.{Event}
use Rattle.iso_script.specs.declared.reader.Reader.{Reader}
use Rattle.iso_script.specs.declared.fault.ScriptFault.{ScriptFault}
use Rattle.iso_script.specs.declared.fault.ScriptFault.TheVariants as fault
use Rattle.iso_script.specs.Advance.{advance}
use Rattle.iso_script.specs.Reading.{cause_of, fits, wrong}

-- what a line comes to that says this with this least fault
abbrev pub verdict : Checked Event → Result Event LineCause
verdict c = elim c.fault [ Some f ↦ Err (cause_of f) | None ↦ Ok c.value ]

-- the line's event, or its fault
abbrev pub EventAnswers : Reader → List ℕ → ℕ → Result Event ScriptFault → Type 0
EventAnswers s line n (Ok e) = fits s line e
EventAnswers s line n (Err (fault.BadLine m why)) = (m ≡ n) × wrong s line why
EventAnswers s line n (Err fault.Memory) = Unit {0}

-- the state behind the line, or its fault
abbrev pub LineAnswers : Reader → List ℕ → ℕ → Result (Unit {0}) ScriptFault → Reader → Type 0
LineAnswers s line n (Ok _) end = MatchBool (is_skipped line) (end ≡ s) ((e : Event) × fits s line e × (end ≡ advance s n e))
LineAnswers s line n (Err (fault.BadLine m why)) end = (is_skipped line ≡ false) × (m ≡ n) × wrong s line why
LineAnswers s line n (Err fault.Memory) end = Unit {0}
