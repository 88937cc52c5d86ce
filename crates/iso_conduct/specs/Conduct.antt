-- Which own entries a connection makes under the statements that its Dispatch entries name.
use Rattle.std.specs.Option.{option_map, option_map_or}
use Rattle.std.specs.Prelude.{◌≡◌, ℕ, Bool, true, false, not, List, [], ◌∷◌, Option, Some, None, IsTrue, if◌then◌else◌, nat_lt, ◌==◌, find}
use Rattle.iso_conduct.specs.Outcomes.{act_of}
use Rattle.iso_history.specs.Outcomes.{last_record, unless_full}
use Rattle.iso_conduct.specs.Points.{Point, due, row_due, rows_due, start_point, told_all, told_point}
use Rattle.iso_conduct.specs.declared.moves.Move.{Move}
use Rattle.iso_conduct.specs.declared.moves.Told.{Told}
use Rattle.iso_history.specs.After.{after, start}
use Rattle.iso_history.specs.Legal.{is_fresh_on}
use Rattle.iso_history.specs.Looks.{shown}
use Rattle.iso_history.specs.Marks.{mark_of}
use Rattle.iso_history.specs.Phases.{phase}
use Rattle.iso_history.specs.World.{World}
use Rattle.iso_history.specs.declared.entry.Act.{Act}
use Rattle.iso_history.specs.declared.entry.Act.TheVariants.{Back, Claim, Collapse, Commit, Delete, Free, Insert, Lock, Look, Mark, Next, Refused, Reply, Rollback, ScanEnd, Set, Stopped, Undo, Update}
use Rattle.iso_history.specs.declared.entry.Cause.TheVariants.{Memory}
use Rattle.iso_history.specs.declared.entry.Entry.{Entry}
use Rattle.iso_history.specs.declared.entry.Got.{Got}
use Rattle.iso_history.specs.declared.entry.Stand.{Stand}
use Rattle.iso_history.specs.declared.entry.Stand.TheVariants.{At, Past}
use Rattle.iso_history.specs.declared.entry.Who.{Who}
use Rattle.iso_history.specs.declared.entry.Who.TheVariants.{Agent, Dispatcher}
use Rattle.iso_history.specs.declared.entry.Why.{Why}
use Rattle.iso_history.specs.declared.entry.Why.TheVariants.{Asked, Blocked, Escalation}
use Rattle.iso_script.specs.declared.script.Line.{Line}
use Rattle.iso_script.specs.declared.script.What.{What}
use Rattle.iso_sql.specs.declared.statement.Statement.{Statement}
use Rattle.iso_types.specs.Ids.{conn_eq}
use Rattle.iso_types.specs.declared.desk.Phase.{Phase}
use Rattle.iso_types.specs.declared.desk.Phase.TheVariants.{Closing, Rolling, Running}
use Rattle.iso_types.specs.declared.head.Head.{Head}
use Rattle.iso_types.specs.declared.value.Conn.{Conn}
use Rattle.iso_types.specs.declared.value.Name.{Name}
use Rattle.iso_types.specs.declared.value.Name.TheVariants.{Row, Table}

-- ---- the statement of a line

-- the statement of a line, where it has one
abbrev pub statement_in : What → Option Statement
statement_in (What.Statement s) = Some s
statement_in _ = None

-- the line is the connection's
abbrev pub is_line_of : Conn → Line → Bool
is_line_of c l = option_map_or (λ d. conn_eq d c) l.conn false

-- the statement of the connection's line with this number, where there is one
abbrev pub statement_on : Conn → Option Line → Option Statement
statement_on c None = None
statement_on c (Some l) = if is_line_of c l then statement_in l.what else None

-- the statement of the connection's open line
abbrev pub statement_at : List Line → Conn → Option ℕ → Option Statement
statement_at lines c None = None
statement_at lines c (Some n) = statement_on c (find (λ l. l.number == n) lines)

-- the point of the open statement; where it has no own entry yet, that before the first
abbrev pub opened : Head → List Line → World → Conn → Option Point → Option Point
opened head lines w c (Some p) = Some p
opened head lines w c None = option_map (start_point head c (w.setting c) (w.floor c)) (statement_at lines c (w.line c))

-- ---- what records nothing

-- the wait was ended by a Victim or an Expire
abbrev pub quiet_claim : Phase → Option ℕ → Option Told
quiet_claim Rolling reason = option_map Told.Ended reason
quiet_claim _ reason = None

-- the unit has a record at or above the floor that is not undone
abbrev pub has_left : World → Conn → ℕ → Bool
has_left w c floor = option_map_or (λ n. not (nat_lt n floor)) (last_record w c) false

-- the unit has no mark of this name
abbrev pub quiet_back : Option ℕ → Option Told
quiet_back None = Some (Told.Floor None)
quiet_back (Some at) = None

-- what a step answers that records nothing, if it does
abbrev pub quiet : World → Conn → Move → Option Told
quiet w c Move.Claim = quiet_claim (phase w c) (w.doom c)
quiet w c (Move.Undo floor) = if has_left w c floor then None else Some (Told.Undone false)
quiet w c (Move.Back name) = quiet_back (mark_of (w.marks c) name)
quiet w c _ = None

-- the point once that is told
abbrev pub quieted : World → Conn → Point → Point
quieted w c p = elim (quiet w c (due p)) [ None ↦ p | Some t ↦ told_point p t ]

-- the point from which the next entry is made: the end of a wait is told, and then that nothing is left to undo
abbrev pub ready : Head → List Line → World → Conn → Option Point → Option Point
ready head lines w c o = option_map (λ p. quieted w c (quieted w c p)) (opened head lines w c o)

-- ---- the next own entry

-- the entry of the step that is due, or a Stopped in its place
abbrev pub made : Head → World → Conn → Point → Act
made head w c p = unless_full head w c (act_of head w c (row_due p) (rows_due p) (due p))

-- a stop for want of memory
abbrev pub stops_for_memory : Act → Bool
stops_for_memory (Stopped Memory) = true
stops_for_memory _ = false

-- the own entry is the next one at this point, or a stop for want of memory; a line without a statement allows that alone
abbrev pub IsNext : Head → World → Conn → Option Point → Act → Type 0
IsNext head w c None a = IsTrue (stops_for_memory a)
IsNext head w c (Some p) a = IsTrue (not (stops_for_memory a)) → made head w c p ≡ a

-- what a rolling connection makes: the entry of its step
abbrev pub Rolls : Head → World → Conn → Option Point → Act → Type 0
Rolls head w c None a = ⊥
Rolls head w c (Some p) a = made head w c p ≡ a

-- what a closing connection makes: its Undos and Ended
abbrev pub closing_act : Option ℕ → Act
closing_act None = Act.Ended
closing_act (Some n) = Undo n

-- what a connection may make, by its phase; an idle or ended one makes no entry
abbrev pub MayIn : Phase → Head → List Line → World → Conn → Option Point → Act → Type 0
MayIn Running head lines w c o a = IsNext head w c (ready head lines w c o) a
MayIn Phase.Waiting head lines w c o a = IsNext head w c (ready head lines w c o) a
MayIn Rolling head lines w c o a = Rolls head w c (ready head lines w c o) a
MayIn Closing head lines w c o a = closing_act (last_record w c) ≡ a
MayIn _ head lines w c o a = ⊥

-- ---- what the statement learns of its entry

-- of a Lock, by its why, outcome and name
abbrev pub heard_lock : Why → Got → Name → List Told
heard_lock why Got.TimedOut name = Told.TimedOut ∷ []
heard_lock Asked Got.Granted name = Told.Done ∷ []
heard_lock Asked (Got.Queued m) name = Told.Queued ∷ []
heard_lock Escalation Got.Granted (Table t) = Told.Escalates t ∷ []
heard_lock Escalation (Got.Queued m) (Table t) = Told.Escalates t ∷ Told.Queued ∷ []
heard_lock Blocked (Got.Queued m) name = Told.Blocked ∷ []
heard_lock why got name = []

-- of each own entry: w is the world before it, v the one after it
abbrev pub heard : World → World → Conn → Act → List Told
heard w v c (Lock name mode term why got) = heard_lock why got name
heard w v c Claim = Told.Granted ∷ []
heard w v c (Look t r want Got.Granted) = Told.Shown (shown w c t r want) (is_fresh_on v c (Row t r)) ∷ []
heard w v c (Look t r want (Got.Queued m)) = Told.Queued ∷ []
heard w v c (Look t r want Got.TimedOut) = Told.TimedOut ∷ []
heard w v c (ScanEnd t n) = Told.EndOfTable ∷ []
heard w v c (Next i range at guarded (At key r)) = Told.At key r ∷ []
heard w v c (Next i range at guarded Past) = Told.Past ∷ []
heard w v c (Next i range at guarded (Stand.Queued n)) = Told.Queued ∷ []
heard w v c (Next i range at guarded (Stand.TimedOut n)) = Told.TimedOut ∷ []
heard w v c (Free t r) = Told.Done ∷ []
heard w v c (Collapse t m) = Told.Done ∷ []
heard w v c (Insert t r row) = Told.Done ∷ []
heard w v c (Update t r row) = Told.Done ∷ []
heard w v c (Delete t r) = Told.Done ∷ []
heard w v c (Refused code) = Told.Refused code ∷ []
heard w v c (Undo n) = Told.Undone true ∷ []
heard w v c (Mark name) = Told.Done ∷ []
heard w v c (Back name) = Told.Floor (mark_of (w.marks c) name) ∷ []
heard w v c (Set level may_wait) = Told.Done ∷ []
heard w v c _ = []

-- the entry ends its statement
abbrev pub ends : Act → Bool
ends (Reply code changed rows) = true
ends Commit = true
ends (Rollback code reason) = true
ends Act.Ended = true
ends (Stopped cause) = true
ends _ = false

-- the point after an own entry that ends the statement, or does not
abbrev pub moved_by : Bool → World → World → Conn → Option Point → Act → Option Point
moved_by true w v c o a = None
moved_by false w v c o a = option_map (λ p. told_all p (heard w v c a)) o

-- the point after an own entry; a closing connection has none
abbrev pub moved_in : Phase → Head → List Line → World → World → Conn → Option Point → Act → Option Point
moved_in Closing head lines w v c o a = None
moved_in _ head lines w v c o a = moved_by (ends a) w v c (ready head lines w c o) a

-- the point after an own entry
abbrev pub moved : Head → List Line → World → World → Conn → Option Point → Act → Option Point
moved head lines w v c o a = moved_in (phase w c) head lines w v c o a

-- ---- along a history

-- the entry is this connection's own
abbrev pub is_by : Conn → Who → Bool
is_by c Dispatcher = false
is_by c (Agent d) = conn_eq d c

-- the point after any entry; others' entries leave it
abbrev pub point_after : Head → List Line → World → Conn → Option Point → Entry → Option Point
point_after head lines w c o e = if is_by c e.who then moved head lines w (after head w e) c o e.act else o

-- where the entry is the connection's own, it is one that it may make
abbrev pub Does : Head → List Line → World → Conn → Option Point → Entry → Type 0
Does head lines w c o e = IsTrue (is_by c e.who) → MayIn (phase w c) head lines w c o e.act

-- the point after a list of entries
unfoldable pub point_from : Head → List Line → World → Conn → Option Point → List Entry → Option Point
point_from head lines w c o [] = o
point_from head lines w c o (e ∷ es) = point_from head lines (after head w e) c (point_after head lines w c o e) es

-- each own entry is the next one of its statement
unfoldable pub ConductFrom : Head → List Line → World → Conn → Option Point → List Entry → Type 0
ConductFrom head lines w c o [] = Unit {0}
ConductFrom head lines w c o (e ∷ es) =
    Does head lines w c o e × ConductFrom head lines (after head w e) c (point_after head lines w c o e) es

-- the point that the history reaches
unfoldable pub point : Head → List Line → List Entry → Conn → Option Point
point head lines es c = point_from head lines (start head) c None es

-- the own entries of the connection are those of its statements
unfoldable pub Conduct : Head → List Line → List Entry → Conn → Type 0
Conduct head lines es c = ConductFrom head lines (start head) c None es

-- none of the entries is the connection's
abbrev pub AreOthers : Conn → List Entry → Type 0
AreOthers c [] = Unit {0}
AreOthers c (e ∷ es) = (is_by c e.who ≡ false) × AreOthers c es
