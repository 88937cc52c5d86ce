-- The summary of a run: what was answered, and how often. // this project's own
use Rattle.std.specs.Fmt.{decimal, signed_decimal}
use Rattle.std.specs.Option.{option_map_or}
use Rattle.std.specs.Ordering.{int_eq}
use Rattle.std.specs.Prelude.{ℕ, ℤ, pos, int_lt, Bool, true, false, ◌&&◌, ◌||◌, ◌+◌, ◌==◌, nat_lt, List, [], ◌∷◌, ◌++◌, codes, ◌≡◌, slice_get, if◌then◌else◌, is_some, length, Option, Some, None}
use Rattle.iso_history.specs.declared.entry.Act.{Act}
use Rattle.iso_history.specs.declared.entry.Entry.{Entry}
use Rattle.iso_render.specs.Transcript.{awaited}
use Rattle.iso_render.specs.declared.tallies.Answer.{Answer}
use Rattle.iso_render.specs.declared.tallies.Tally.{Tally}
use Rattle.iso_render.specs.declared.totals.Counts.{Counts}
use Rattle.iso_script.specs.declared.script.Script.{Script}

-- the SQLCODE of an answer, with the reason of a rollback that nobody asked for, else 0
abbrev pub answer_of : Act → Option Answer
answer_of (Act.Reply code changed rows) = Some (record { code = code; reason = 0 })
answer_of Act.Commit = Some (record { code = pos 0; reason = 0 })
answer_of (Act.Rollback code reason) = Some (record { code = code; reason = reason })
answer_of _ = None

-- a statement is answered
abbrev pub is_answer : Act → Bool
is_answer a = is_some (answer_of a)

-- a line of a connection that waits is passed over
abbrev pub is_busy : Act → Bool
is_busy (Act.Busy line c) = true
is_busy _ = false

-- a connection begins to wait
abbrev pub is_wait : Act → Bool
is_wait a = is_some (awaited a)

-- row and key locks are given up for a table lock
abbrev pub is_escalation : Act → Bool
is_escalation (Act.Collapse t mode) = true
is_escalation _ = false

-- a deadlock is ended
abbrev pub is_victim : Act → Bool
is_victim (Act.Victim cycle) = true
is_victim _ = false

-- 1 where it is so
abbrev pub one_if : Bool → ℕ
one_if true = 1
one_if false = 0

-- the number of entries of a kind
abbrev pub number : (Act → Bool) → List Entry → ℕ
number is [] = 0
number is (e ∷ es) = one_if (is e.act) + number is es

-- the tally is of this answer
abbrev pub is_of : Answer → Tally → Bool
is_of a t = int_eq t.answer.code a.code && t.answer.reason == a.reason

-- the tally is of a lower code, or of the same with a lower reason
abbrev pub is_lower : Answer → Tally → Bool
is_lower a t = int_lt t.answer.code a.code || (int_eq t.answer.code a.code && nat_lt t.answer.reason a.reason)

-- the tally at this place, if there is one, is not of a lower answer
abbrev pub StopsAt : (Tally → Bool) → List Tally → ℕ → Type 0
StopsAt is_below ts at = (t : Tally) → slice_get ts at ≡ Some t → is_below t ≡ false

-- one answer more, in a list that ascends by code and reason
abbrev pub noted : Answer → List Tally → List Tally
noted a [] = record { answer = a; count = 1 } ∷ []
noted a (t ∷ ts) =
    if is_lower a t then t ∷ noted a ts
    else if is_of a t then record t { count = t.count + 1 } ∷ ts
    else record { answer = a; count = 1 } ∷ t ∷ ts

-- the same with what an act answers
abbrev pub heard : List Tally → Act → List Tally
heard ts act = option_map_or (λ a. noted a ts) (answer_of act) ts

-- the same with all that entries answer
abbrev pub tallied : List Tally → List Entry → List Tally
tallied ts [] = ts
tallied ts (e ∷ es) = tallied (heard ts e.act) es

-- the reason behind a blank, where it isn't 0
abbrev pub reason_text : ℕ → List ℕ
reason_text reason = if reason == 0 then [] else codes " " ++ decimal reason

-- a code, its reason where it has one, and how often it came
abbrev pub code_line : Tally → List ℕ
code_line t =
    codes "CODE " ++ signed_decimal t.answer.code ++ reason_text t.answer.reason ++ codes " " ++ decimal t.count ++ codes "\n"

-- a line for each code
abbrev pub code_lines : List Tally → List ℕ
code_lines [] = []
code_lines (t ∷ ts) = code_line t ++ code_lines ts

-- a count under its word
abbrev pub count_line : List ℕ → ℕ → List ℕ
count_line word n = word ++ codes " " ++ decimal n ++ codes "\n"

-- a summary: lines of the script, answers, lines passed over, how often each code came, waits, escalations, victims
abbrev pub summed : ℕ → Counts → List Tally → List ℕ
summed lines counts ts =
    count_line (codes "LINES") lines ++ count_line (codes "REPLIES") counts.answers ++ count_line (codes "BUSY") counts.busy ++ code_lines ts
    ++ count_line (codes "WAITS") counts.waits ++ count_line (codes "ESCALATIONS") counts.escalations
    ++ count_line (codes "VICTIMS") counts.victims ++ codes "END\n"

-- the counts of entries
abbrev pub counts_of : List Entry → Counts
counts_of es = record {
  answers = number is_answer es;
  busy = number is_busy es;
  waits = number is_wait es;
  escalations = number is_escalation es;
  victims = number is_victim es;
}

-- the summary of a history
abbrev pub summary : Script → List Entry → List ℕ
summary script entries = summed (length script.lines) (counts_of entries) (tallied [] entries)
