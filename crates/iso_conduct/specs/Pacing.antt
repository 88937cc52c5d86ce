-- In which order the dispatcher takes the body lines, and when it purges, closes and stops.
use Rattle.std.specs.Option.{option_map_or}
use Rattle.std.specs.Prelude.{◌≡◌, Bool, true, false, ◌||◌, List, [], ◌∷◌, IsTrue, Option, Some, None, if◌then◌else◌, is_some, ℕ}
use Rattle.iso_conduct.specs.Conduct.{statement_in}
use Rattle.iso_history.specs.After.{after, start}
use Rattle.iso_history.specs.Entries.{least_purgeable}
use Rattle.iso_history.specs.Makers.{by_dispatcher}
use Rattle.iso_history.specs.Phases.{is_phase, phase}
use Rattle.iso_history.specs.Outcomes.{statement_step}
use Rattle.iso_history.specs.Quiet.{is_quiet}
use Rattle.iso_history.specs.Stops.{is_full}
use Rattle.iso_history.specs.World.{World}
use Rattle.iso_history.specs.declared.entry.Act.{Act}
use Rattle.iso_history.specs.declared.entry.Act.TheVariants.{Busy, Close, Dispatch, Expire, Finish, Purge, Snapshot, Stopped, Victim}
use Rattle.iso_history.specs.declared.entry.Cause.{Cause}
use Rattle.iso_history.specs.declared.entry.Cause.TheVariants.{History, Memory}
use Rattle.iso_history.specs.declared.entry.Entry.{Entry}
use Rattle.iso_history.specs.declared.entry.Who.{Who}
use Rattle.iso_history.specs.declared.entry.Who.TheVariants.{Agent, Dispatcher}
use Rattle.iso_queue.specs.Snapshots.{snapshot}
use Rattle.iso_script.specs.declared.script.Line.{Line}
use Rattle.iso_script.specs.declared.script.What.{What}
use Rattle.iso_types.specs.Head.{is_conn}
use Rattle.iso_types.specs.declared.desk.Phase.{Phase}
use Rattle.iso_types.specs.declared.head.Head.{Head}
use Rattle.iso_types.specs.declared.value.Conn.{Conn}
use Rattle.iso_types.specs.declared.value.IndexId.{IndexId}
use Rattle.iso_types.specs.declared.value.Rid.{Rid}
use Rattle.iso_types.specs.declared.value.Value.{Value}

-- the entry that takes a line, by what it asks for and its connection
abbrev pub step_of : Head → World → ℕ → What → Option Conn → Option Act
step_of head w n (What.Statement s) (Some c) = statement_step head w n c
step_of head w n What.Expire (Some c) = Some (Expire n c (is_phase (phase w c) Phase.Waiting))
step_of head w n What.Snapshot conn = Some (Snapshot n (snapshot head w.holds w.waits))
step_of head w n what None = None

-- a line without `&` is taken only in quiet
abbrev pub line_step : Head → World → Line → Option Act
line_step head w l = if l.free || is_quiet head w then step_of head w l.number l.what l.conn else None

-- only a statement stands behind `&`, and the line's connection is the head's
pub record IsLine (head : Head) (l : Line) : Type 0 where
  pub free : l.free ≡ true → is_some (statement_in l.what) ≡ true
  pub conn : (c : Conn) → l.conn ≡ Some c → is_conn head c ≡ true

-- the first of some lines is one of the head's
abbrev pub FirstLine : Head → List Line → Type 0
FirstLine head [] = Unit {0}
FirstLine head (l ∷ ls) = IsLine head l

-- the purge of a pair
abbrev pub purge_of : IndexId × (Value × Rid) → Act
purge_of p = Purge p.0 p.1.0 p.1.1

-- a line is taken only where no pair is purgeable, or where the dispatcher's last entry is a Purge; else the pair is purged
abbrev pub purge_or_line : Head → World → Line → Bool → Option (IndexId × (Value × Rid)) → Option Act
purge_or_line head w l false (Some pair) = Some (purge_of pair)
purge_or_line head w l purged pair = line_step head w l

-- the step by which the dispatcher takes the first line that is left, or purges; none after a Stopped
abbrev pub taking : Head → World → List Line → Option Act
taking head w [] = None
taking head w (l ∷ ls) = if w.pace.stopped then None else purge_or_line head w l w.pace.purged (least_purgeable head w)

-- no line is left
abbrev pub is_bare : List Line → Bool
is_bare [] = true
is_bare (l ∷ ls) = false

-- no line is left, or a Stopped stands
abbrev pub is_over : World → List Line → Bool
is_over w ls = is_bare ls || w.pace.stopped

-- the dispatcher stops in place of a step that takes a line or purges: for memory at any, for the history at a full one
abbrev pub MayHalt : Head → World → Option Act → Cause → Type 0
MayHalt head w step Memory = IsTrue (is_some step)
MayHalt head w step History = IsTrue (option_map_or (λ a. is_full head w (by_dispatcher a)) step false)
MayHalt head w step Cause.Table = ⊥

-- lines are taken in their order; connections are closed, and the history ends, only where no line is left or a Stopped stands
abbrev pub MayPace : Head → World → List Line → Act → Type 0
MayPace head w ls (Victim members) = Unit {0}
MayPace head w ls (Close c) = IsTrue (is_over w ls)
MayPace head w ls Finish = IsTrue (is_over w ls)
MayPace head w ls (Stopped cause) = MayHalt head w (taking head w ls) cause
MayPace head w ls a = taking head w ls ≡ Some a

-- the agents' entries take no line
abbrev pub Paces : Head → World → List Line → Who → Act → Type 0
Paces head w ls Dispatcher a = MayPace head w ls a
Paces head w ls (Agent c) a = Unit {0}

-- all lines but the first
abbrev pub lines_behind : List Line → List Line
lines_behind [] = []
lines_behind (l ∷ ls) = ls

-- the lines that are left after an act of the dispatcher
abbrev pub lines_after_act : List Line → Act → List Line
lines_after_act ls (Dispatch line c) = lines_behind ls
lines_after_act ls (Busy line c) = lines_behind ls
lines_after_act ls (Expire line c ended) = lines_behind ls
lines_after_act ls (Snapshot line locks) = lines_behind ls
lines_after_act ls _ = ls

-- the lines that are left after an entry
abbrev pub lines_after : List Line → Who → Act → List Line
lines_after ls Dispatcher a = lines_after_act ls a
lines_after ls (Agent c) a = ls

-- the lines that are left after a list of entries
unfoldable pub lines_from : List Line → List Entry → List Line
lines_from ls [] = ls
lines_from ls (e ∷ es) = lines_from (lines_after ls e.who e.act) es

-- each entry of the dispatcher keeps to the order
unfoldable pub PacedFrom : Head → World → List Line → List Entry → Type 0
PacedFrom head w ls [] = Unit {0}
PacedFrom head w ls (e ∷ es) =
    Paces head w ls e.who e.act × PacedFrom head (after head w e) (lines_after ls e.who e.act) es

-- the lines that the history leaves
unfoldable pub lines_left : List Line → List Entry → List Line
lines_left lines es = lines_from lines es

-- the dispatcher keeps to the order of the script's lines
unfoldable pub Paced : Head → List Line → List Entry → Type 0
Paced head lines es = PacedFrom head (start head) lines es
