-- How the fields of a trace line are printed. // this project's own
use Rattle.std.specs.Fmt.{decimal, signed_decimal}
use Rattle.std.specs.Prelude.{ℕ, Bool, true, false, List, [], ◌∷◌, ◌++◌, codes, if◌then◌else◌, length, map, Option, Some, None}
use Rattle.iso_history.specs.declared.entry.Act.{Act}
use Rattle.iso_history.specs.declared.entry.Got.{Got}
use Rattle.iso_history.specs.declared.entry.Stand.{Stand}
use Rattle.iso_history.specs.declared.entry.Want.{Want}
use Rattle.iso_history.specs.declared.entry.Why.{Why}
use Rattle.iso_modes.specs.declared.Term.{Term}
use Rattle.iso_queue.specs.declared.LockLine.{LockLine}
use Rattle.iso_render.specs.Texts.{conn_name, index_name, mode_word, name_text, row_text, state_word, table_name, value_text}
use Rattle.iso_render.specs.Transcript.{cause_word}
use Rattle.iso_types.specs.declared.head.Edge.{Edge}
use Rattle.iso_types.specs.declared.head.Head.{Head}
use Rattle.iso_types.specs.declared.head.Isolation.{Isolation}
use Rattle.iso_types.specs.declared.value.Rid.{Rid}
use Rattle.iso_types.specs.declared.value.Value.{Value}

-- yes or no
abbrev pub truth_word : Bool → List ℕ
truth_word true = codes "YES"
truth_word false = codes "NO"

-- how long a lock is kept
abbrev pub term_word : Term → List ℕ
term_word Term.Kept = codes "KEPT"
term_word Term.Brief = codes "BRIEF"
term_word Term.Fresh = codes "FRESH"

-- why a lock was requested
abbrev pub why_word : Why → List ℕ
why_word Why.Asked = codes "ASKED"
why_word Why.Escalation = codes "ESCALATION"
why_word Why.Blocked = codes "BLOCKED"

-- what a look wants
abbrev pub want_word : Want → List ℕ
want_word Want.Dirty = codes "DIRTY"
want_word Want.Current = codes "CURRENT"
want_word Want.Settled = codes "SETTLED"
want_word Want.Steady = codes "STEADY"
want_word Want.Repeat = codes "REPEAT"
want_word Want.Alter = codes "ALTER"
want_word Want.AlterKept = codes "ALTERKEPT"

-- an isolation level
abbrev pub level_word : Isolation → List ℕ
level_word Isolation.Ur = codes "UR"
level_word Isolation.Cs = codes "CS"
level_word Isolation.Rs = codes "RS"
level_word Isolation.Rr = codes "RR"

-- the outcome of a request; one that queues has its target
abbrev pub got_text : Got → List ℕ
got_text Got.Granted = codes "GRANTED"
got_text (Got.Queued mode) = codes "QUEUED " ++ mode_word mode
got_text Got.TimedOut = codes "TIMEDOUT"

-- an index entry
abbrev pub place_text : Value × Rid → List ℕ
place_text p = value_text p.0 ++ codes " " ++ decimal p.1.0

-- where a step of an index scan stands
abbrev pub stand_text : Head → Stand → List ℕ
stand_text head (Stand.At value rid) = codes "AT " ++ place_text (value, rid)
stand_text head Stand.Past = codes "PAST"
stand_text head (Stand.Queued name) = codes "QUEUED " ++ name_text head name
stand_text head (Stand.TimedOut name) = codes "TIMEDOUT " ++ name_text head name

-- the low bound of a range
abbrev pub low_text : Option Edge → List ℕ
low_text None = codes "-"
low_text (Some e) = (if e.inclusive then codes "GE " else codes "GT ") ++ value_text e.value

-- the high bound
abbrev pub high_text : Option Edge → List ℕ
high_text None = codes "-"
high_text (Some e) = (if e.inclusive then codes "LE " else codes "LT ") ++ value_text e.value

-- the entry from behind which an index scan goes on
abbrev pub after_text : Option (Value × Rid) → List ℕ
after_text None = codes "-"
after_text (Some p) = place_text p

-- a row in parentheses
abbrev pub whole_row : List Value → List ℕ
whole_row row = codes "(" ++ row_text row ++ codes ")"

-- a lock of a snapshot
abbrev pub lock_text : Head → LockLine → List ℕ
lock_text head l = name_text head l.name ++ codes " " ++ conn_name head l.conn ++ codes " " ++ mode_word l.mode ++ codes " " ++ state_word l.state

-- each field stands behind a blank
abbrev pub spaced : List (List ℕ) → List ℕ
spaced [] = []
spaced (field ∷ fields) = codes " " ++ field ++ spaced fields

-- the fields of the dispatcher's acts
abbrev pub paced : Head → Act → List (List ℕ)
paced head (Act.Dispatch line c) = decimal line ∷ conn_name head c ∷ []
paced head (Act.Busy line c) = decimal line ∷ conn_name head c ∷ []
paced head (Act.Expire line c ended) = decimal line ∷ conn_name head c ∷ truth_word ended ∷ []
paced head (Act.Snapshot line locks) = decimal line ∷ decimal (length locks) ∷ map (lock_text head) locks
paced head (Act.Victim cycle) = map (conn_name head) cycle
paced head (Act.Purge i value rid) = index_name head i ∷ value_text value ∷ decimal rid.0 ∷ []
paced head (Act.Close c) = conn_name head c ∷ []
paced head _ = []

-- the fields of requests, looks and steps of scans
abbrev pub sought : Head → Act → List (List ℕ)
sought head (Act.Lock name mode term why got) = name_text head name ∷ mode_word mode ∷ term_word term ∷ why_word why ∷ got_text got ∷ []
sought head (Act.Look t rid want got) = table_name head t ∷ decimal rid.0 ∷ want_word want ∷ got_text got ∷ []
sought head (Act.ScanEnd t slots) = table_name head t ∷ decimal slots ∷ []
sought head (Act.Next i range after guarded got) =
    index_name head i ∷ low_text range.low ∷ high_text range.high ∷ after_text after ∷ truth_word guarded ∷ stand_text head got ∷ []
sought head (Act.Free t rid) = table_name head t ∷ decimal rid.0 ∷ []
sought head (Act.Collapse t mode) = table_name head t ∷ mode_word mode ∷ []
sought head _ = []

-- the fields of changes, and of what undoes them
abbrev pub changed : Head → Act → List (List ℕ)
changed head (Act.Insert t rid row) = table_name head t ∷ decimal rid.0 ∷ whole_row row ∷ []
changed head (Act.Update t rid row) = table_name head t ∷ decimal rid.0 ∷ whole_row row ∷ []
changed head (Act.Delete t rid) = table_name head t ∷ decimal rid.0 ∷ []
changed head (Act.Undo number) = decimal number ∷ []
changed head (Act.Mark name) = name ∷ []
changed head (Act.Back name) = name ∷ []
changed head _ = []

-- the fields of settings, refusals, answers and stops
abbrev pub answered : Act → List (List ℕ)
answered (Act.Refused code) = signed_decimal code ∷ []
answered (Act.Set level may_wait) = level_word level ∷ truth_word may_wait ∷ []
answered (Act.Rollback code reason) = signed_decimal code ∷ decimal reason ∷ []
answered (Act.Reply code changed rows) = signed_decimal code ∷ decimal changed ∷ map whole_row rows
answered (Act.Stopped cause) = cause_word cause ∷ []
answered _ = []
