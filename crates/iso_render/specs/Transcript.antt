-- What a history prints. // this project's own
use Rattle.std.specs.Fmt.{decimal, signed_decimal}
use Rattle.std.specs.Option.{option_map_or}
use Rattle.std.specs.Ordering.{int_eq}
use Rattle.std.specs.Prelude.{ℕ, ℤ, pos, Bool, ◌&&◌, List, [], ◌∷◌, ◌++◌, codes, if◌then◌else◌, length, Option, Some, None}
use Rattle.iso_history.specs.declared.entry.Act.{Act}
use Rattle.iso_history.specs.declared.entry.Act.TheVariants.{Busy, Collapse, Commit, Expire, Finish, Lock, Look, Next, Reply, Rollback, Snapshot, Stopped}
use Rattle.iso_history.specs.declared.entry.Cause.{Cause}
use Rattle.iso_history.specs.declared.entry.Cause.TheVariants.{History, Memory, Table}
use Rattle.iso_history.specs.declared.entry.Entry.{Entry}
use Rattle.iso_history.specs.declared.entry.Got.{Got}
use Rattle.iso_history.specs.declared.entry.Stand.{Stand}
use Rattle.iso_history.specs.declared.entry.Who.{Who}
use Rattle.iso_history.specs.declared.entry.Who.TheVariants.{Agent, Dispatcher}
use Rattle.iso_modes.specs.declared.Mode.{Mode}
use Rattle.iso_modes.specs.declared.Mode.TheVariants.{S}
use Rattle.iso_queue.specs.declared.LockLine.{LockLine}
use Rattle.iso_render.specs.Opened.{at_first, open_of, opened}
use Rattle.iso_render.specs.Texts.{conn_name, mode_word, name_text, row_text, state_word, table_name}
use Rattle.iso_render.specs.declared.opened.OpenLine.{OpenLine}
use Rattle.iso_script.specs.declared.script.Script.{Script}
use Rattle.iso_types.specs.declared.head.Head.{Head}
use Rattle.iso_types.specs.declared.value.Conn.{Conn}
use Rattle.iso_types.specs.declared.value.Name.{Name}
use Rattle.iso_types.specs.declared.value.Name.TheVariants.{Row}
use Rattle.iso_types.specs.declared.value.Value.{Value}

-- what a stop names
abbrev pub cause_word : Cause → List ℕ
cause_word Memory = codes "MEMORY"
cause_word History = codes "HISTORY"
cause_word Table = codes "TABLE"

-- a line of a connection: a script line, the connection's name, and what is said
abbrev pub said : Head → ℕ → Conn → List ℕ → List ℕ
said head line c words = decimal line ++ codes " " ++ conn_name head c ++ codes " " ++ words ++ codes "\n"

-- a line for each row
abbrev pub row_lines : Head → ℕ → Conn → List (List Value) → List ℕ
row_lines head line c [] = []
row_lines head line c (row ∷ rows) = said head line c (codes "ROW " ++ row_text row) ++ row_lines head line c rows

-- a code, and the number of changed rows where a change went well
abbrev pub reply_words : Bool → ℤ → ℕ → List ℕ
reply_words changes code changed =
    codes "SQLCODE " ++ signed_decimal code ++ (if changes && int_eq code (pos 0) then codes " ROWS " ++ decimal changed else [])

-- a code, and the reason where it isn't 0
abbrev pub rollback_words : ℤ → ℕ → List ℕ
rollback_words code reason =
    codes "SQLCODE " ++ signed_decimal code ++ (if int_eq code (pos 0) then [] else codes " REASON " ++ decimal reason)

-- the mode and the name that an entry queues for; a Next asks S
abbrev pub awaited : Act → Option (Mode × Name)
awaited (Lock name mode term why (Got.Queued target)) = Some (target, name)
awaited (Look t r want (Got.Queued target)) = Some (target, Row t r)
awaited (Next i range after guarded (Stand.Queued name)) = Some (S, name)
awaited _ = None

-- a wait
abbrev pub wait_words : Head → Mode × Name → List ℕ
wait_words head w = codes "WAITS " ++ mode_word w.0 ++ codes " " ++ name_text head w.1

-- what a connection's entry prints
abbrev pub agent_text : Head → OpenLine → Conn → Act → List ℕ
agent_text head current c (Collapse t mode) =
    said head current.line c (codes "ESCALATES " ++ table_name head t ++ codes " " ++ mode_word mode)
agent_text head current c (Reply code changed rows) =
    row_lines head current.line c rows ++ said head current.line c (reply_words current.changes code changed)
agent_text head current c Commit = said head current.line c (codes "SQLCODE 0")
agent_text head current c (Rollback code reason) = said head current.line c (rollback_words code reason)
agent_text head current c (Stopped cause) = said head current.line c (codes "STOPPED " ++ cause_word cause)
agent_text head current c act = option_map_or (λ w. said head current.line c (wait_words head w)) (awaited act) []

-- a line of a snapshot
abbrev pub lock_line : Head → ℕ → LockLine → List ℕ
lock_line head line l =
    decimal line ++ codes " LOCK " ++ name_text head l.name ++ codes " " ++ conn_name head l.conn ++ codes " " ++ mode_word l.mode
    ++ codes " " ++ state_word l.state ++ codes "\n"

-- a line for each lock
abbrev pub lock_lines : Head → ℕ → List LockLine → List ℕ
lock_lines head line [] = []
lock_lines head line (l ∷ locks) = lock_line head line l ++ lock_lines head line locks

-- what the dispatcher's entry prints
abbrev pub dispatcher_text : Head → Act → List ℕ
dispatcher_text head (Busy line c) = said head line c (codes "BUSY")
dispatcher_text head (Expire line c ended) =
    decimal line ++ codes " EXPIRE " ++ conn_name head c ++ (if ended then [] else codes " NO EFFECT") ++ codes "\n"
dispatcher_text head (Snapshot line locks) =
    lock_lines head line locks ++ decimal line ++ codes " LOCKS " ++ decimal (length locks) ++ codes "\n"
dispatcher_text head (Stopped cause) = codes "STOPPED " ++ cause_word cause ++ codes "\n"
dispatcher_text head Finish = codes "END\n"
dispatcher_text head _ = []

-- what an entry prints
abbrev pub entry_text : Head → List OpenLine → Who → Act → List ℕ
entry_text head opens Dispatcher act = dispatcher_text head act
entry_text head opens (Agent c) act = agent_text head (open_of opens c) c act

-- what entries print, where these statements are open
abbrev pub printed : Script → List OpenLine → List Entry → List ℕ
printed script opens [] = []
printed script opens (e ∷ es) = entry_text script.head opens e.who e.act ++ printed script (opened script opens e.act) es

-- the transcript of a history
abbrev pub transcript : Script → List Entry → List ℕ
transcript script entries = printed script (at_first script) entries
