-- The savepoints of each connection's unit, newest first.
use Rattle.std.specs.Option.{option_map}
use Rattle.std.specs.Prelude.{ℕ, not, List, [], ◌∷◌, if◌then◌else◌, filter, find, Option}
use Rattle.iso_history.specs.Records.{count}
use Rattle.iso_history.specs.World.{MarkAt, World, at_conn}
use Rattle.iso_history.specs.declared.entry.Act.{Act}
use Rattle.iso_history.specs.declared.entry.Act.TheVariants.{Back, Commit, Mark, Rollback}
use Rattle.iso_history.specs.declared.entry.Who.{Who}
use Rattle.iso_history.specs.declared.entry.Who.TheVariants.{Agent, Dispatcher}
use Rattle.iso_types.specs.Ids.{text_eq}
use Rattle.iso_types.specs.declared.value.Conn.{Conn}

-- `count` at the mark of this name, if the unit has it
abbrev pub mark_of : List MarkAt → List ℕ → Option ℕ
mark_of marks name = option_map (λ k. k.at) (find (λ k. text_eq k.name name) marks)

-- setting a name again moves it
abbrev pub marked : List MarkAt → List ℕ → ℕ → List MarkAt
marked marks name at = record { name = name; at = at } ∷ filter (λ k. not (text_eq k.name name)) marks

-- the marks made after the one of this name go
abbrev pub backed : List MarkAt → List ℕ → List MarkAt
backed [] name = []
backed (k ∷ ks) name = if text_eq k.name name then k ∷ ks else backed ks name

-- Mark sets one, Back drops the later ones, the unit's end drops all
abbrev pub marks_by_agent : World → Conn → Act → Conn → List MarkAt
marks_by_agent w c (Mark name) = at_conn w.marks c (marked (w.marks c) name (count w))
marks_by_agent w c (Back name) = at_conn w.marks c (backed (w.marks c) name)
marks_by_agent w c Commit = at_conn w.marks c []
marks_by_agent w c (Rollback code reason) = at_conn w.marks c []
marks_by_agent w c Act.Ended = at_conn w.marks c []
marks_by_agent w c _ = w.marks

-- the marks of each connection
abbrev pub marks_by : World → Who → Act → Conn → List MarkAt
marks_by w Dispatcher a = w.marks
marks_by w (Agent c) a = marks_by_agent w c a
