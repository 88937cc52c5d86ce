-- Which answers a step may have.
use Rattle.std.specs.Prelude.{◌≡◌, Bool, true, false, List, [], ◌∷◌}
use Rattle.iso_conduct.specs.Points.{Point, due, told_point}
use Rattle.iso_conduct.specs.declared.moves.Move.{Move}
use Rattle.iso_conduct.specs.declared.moves.Told.{Told}

-- what any step that may wait or meet the lock limit answers where it is not done
abbrev pub answers_ask : Told → Bool
answers_ask Told.Queued = true
answers_ask Told.TimedOut = true
answers_ask (Told.Escalates t) = true
answers_ask (Told.Refused code) = true
answers_ask _ = false

-- a Lock is done, or not
abbrev pub answers_lock : Told → Bool
answers_lock Told.Done = true
answers_lock t = answers_ask t

-- a look shows a row or none, or the table's end
abbrev pub answers_look : Told → Bool
answers_look (Told.Shown shown fresh) = true
answers_look Told.EndOfTable = true
answers_look t = answers_ask t

-- a step of an index scan stands at an entry, or is past the range
abbrev pub answers_next : Told → Bool
answers_next (Told.At key r) = true
answers_next Told.Past = true
answers_next t = answers_ask t

-- a write is done or blocked
abbrev pub answers_write : Told → Bool
answers_write Told.Done = true
answers_write Told.Blocked = true
answers_write t = answers_ask t

-- the wait of a Claim is granted, or was ended
abbrev pub answers_claim : Told → Bool
answers_claim Told.Granted = true
answers_claim (Told.Ended reason) = true
answers_claim _ = false

-- where a Collapse is due, its escalation may queue first
abbrev pub answers_collapse : Told → Bool
answers_collapse Told.Done = true
answers_collapse Told.Queued = true
answers_collapse _ = false

abbrev pub is_done : Told → Bool
is_done Told.Done = true
is_done _ = false

abbrev pub is_refused : Told → Bool
is_refused (Told.Refused code) = true
is_refused _ = false

abbrev pub is_undone : Told → Bool
is_undone (Told.Undone more) = true
is_undone _ = false

abbrev pub is_floor : Told → Bool
is_floor (Told.Floor mark) = true
is_floor _ = false

-- the answers of each step; those that end the statement are not told
abbrev pub answers : Move → Told → Bool
answers (Move.Lock name mode) t = answers_lock t
answers Move.Claim t = answers_claim t
answers (Move.Look table r want) t = answers_look t
answers (Move.Next i range at guarded) t = answers_next t
answers (Move.Free table r) t = is_done t
answers (Move.Collapse table) t = answers_collapse t
answers (Move.Insert table) t = answers_write t
answers (Move.Update table r) t = answers_write t
answers (Move.Delete table r) t = answers_write t
answers (Move.Refuse code) t = is_refused t
answers (Move.Undo floor) t = is_undone t
answers (Move.Mark name) t = is_done t
answers (Move.Back name) t = is_floor t
answers (Move.Set level may_wait) t = is_done t
answers _ t = false

-- each is an answer of the step that is due once those before it are told
abbrev pub AreAnswers : Point → List Told → Type 0
AreAnswers p [] = Unit {0}
AreAnswers p (t ∷ ts) = (answers (due p) t ≡ true) × AreAnswers (told_point p t) ts
