-- The trace of a history: a line for each entry. // this project's own
use Rattle.std.specs.Fmt.{decimal}
use Rattle.std.specs.Prelude.{ℕ, ◌+◌, List, [], ◌∷◌, ◌++◌, codes, length}
use Rattle.iso_history.specs.declared.entry.Act.{Act}
use Rattle.iso_history.specs.declared.entry.Entry.{Entry}
use Rattle.iso_history.specs.declared.entry.Who.{Who}
use Rattle.iso_history.specs.declared.entry.Who.TheVariants.{Agent, Dispatcher}
use Rattle.iso_render.specs.Fields.{answered, changed, paced, sought, spaced}
use Rattle.iso_render.specs.Texts.{conn_name}
use Rattle.iso_script.specs.declared.script.Script.{Script}
use Rattle.iso_types.specs.declared.head.Head.{Head}

-- the word of an act
abbrev pub act_word : Act → List ℕ
act_word (Act.Dispatch line c) = codes "DISPATCH"
act_word (Act.Busy line c) = codes "BUSY"
act_word (Act.Expire line c ended) = codes "EXPIRE"
act_word (Act.Snapshot line locks) = codes "SNAPSHOT"
act_word (Act.Victim cycle) = codes "VICTIM"
act_word (Act.Purge i value rid) = codes "PURGE"
act_word (Act.Close c) = codes "CLOSE"
act_word (Act.Stopped cause) = codes "STOPPED"
act_word Act.Finish = codes "FINISH"
act_word (Act.Lock name mode term why got) = codes "LOCK"
act_word Act.Claim = codes "CLAIM"
act_word (Act.Look t rid want got) = codes "LOOK"
act_word (Act.ScanEnd t slots) = codes "SCANEND"
act_word (Act.Next i range after guarded got) = codes "NEXT"
act_word (Act.Free t rid) = codes "FREE"
act_word (Act.Collapse t mode) = codes "COLLAPSE"
act_word (Act.Insert t rid row) = codes "INSERT"
act_word (Act.Update t rid row) = codes "UPDATE"
act_word (Act.Delete t rid) = codes "DELETE"
act_word (Act.Refused code) = codes "REFUSED"
act_word (Act.Undo number) = codes "UNDO"
act_word (Act.Mark name) = codes "MARK"
act_word (Act.Back name) = codes "BACK"
act_word (Act.Set level may_wait) = codes "SET"
act_word Act.Commit = codes "COMMIT"
act_word (Act.Rollback code reason) = codes "ROLLBACK"
act_word (Act.Reply code changed rows) = codes "REPLY"
act_word Act.Ended = codes "ENDED"

-- the maker of an entry: the dispatcher, or a connection by its name
abbrev pub maker_text : Head → Who → List ℕ
maker_text head Dispatcher = codes "-"
maker_text head (Agent c) = conn_name head c

-- the fields of an act, each behind a blank
abbrev pub field_text : Head → Act → List ℕ
field_text head a = spaced (paced head a) ++ spaced (sought head a) ++ spaced (changed head a) ++ spaced (answered a)

-- the line of an entry: its place, its maker, its act and the act's fields
abbrev pub trace_line : Head → ℕ → Entry → List ℕ
trace_line head place e = decimal place ++ codes " " ++ maker_text head e.who ++ codes " " ++ act_word e.act ++ field_text head e.act ++ codes "\n"

-- a line for each entry, from this place on
abbrev pub trace_lines : Head → ℕ → List Entry → List ℕ
trace_lines head place [] = []
trace_lines head place (e ∷ es) = trace_line head place e ++ trace_lines head (place + 1) es

-- the trace of a history: the number of its entries, then the line of each
abbrev pub trace : Script → List Entry → List ℕ
trace script entries = codes "TRACE " ++ decimal (length entries) ++ codes "\n" ++ trace_lines script.head 0 entries
