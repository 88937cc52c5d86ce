-- The statement that each connection has open. // this project's own
use Rattle.std.specs.Option.{option_map_or}
use Rattle.std.specs.Prelude.{◌≡◌, ℕ, ◌≤◌, zero, suc, Bool, true, false, List, ◌==◌, ◌&&◌, nat_lt, [], ◌∷◌, find, length, replicate, slice_index_or, slice_set}
use Rattle.iso_history.specs.declared.entry.Act.{Act}
use Rattle.iso_history.specs.declared.entry.Act.TheVariants.{Dispatch}
use Rattle.iso_script.specs.declared.script.Line.{Line}
use Rattle.iso_script.specs.declared.script.Script.{Script}
use Rattle.iso_script.specs.declared.script.What.{What}
use Rattle.iso_sql.specs.declared.statement.Statement.{Statement}
use Rattle.iso_sql.specs.declared.statement.Statement.TheVariants.{Delete, Insert, Update}
use Rattle.iso_types.specs.declared.value.Conn.{Conn}
use Rattle.iso_render.specs.declared.opened.OpenLine.{OpenLine}
use Rattle.iso_render.specs.declared.opened.Passed.{Passed}

-- the statement is an INSERT, an UPDATE or a DELETE
abbrev pub is_change : Statement → Bool
is_change (Insert t row) = true
is_change (Update t sets cond level) = true
is_change (Delete t cond level) = true
is_change _ = false

-- the line has such a statement
abbrev pub is_change_line : What → Bool
is_change_line (What.Statement s) = is_change s
is_change_line _ = false

-- the line of this number has such a statement
abbrev pub changes_at : List Line → ℕ → Bool
changes_at lines number = option_map_or (λ l. is_change_line l.what) (find (λ l. l.number == number) lines) false

-- each line before this place has a number less than this one
abbrev pub are_below : List Line → ℕ → ℕ → Bool
are_below [] at below = true
are_below (l ∷ lines) zero below = true
are_below (l ∷ lines) (suc at) below = nat_lt l.number below && are_below lines at below

-- the lines that are passed are there, and have lower numbers
abbrev pub IsPassed : List Line → Passed → Type 0
IsPassed lines p = (p.at ≤ length lines) × (are_below lines p.at p.below ≡ true)

-- no statement yet
abbrev pub unopened : OpenLine
unopened = record { line = 0; changes = false }

-- the open statement of each connection before the first entry
abbrev pub at_first : Script → List OpenLine
at_first script = replicate (length script.head.conns) unopened

-- a Dispatch opens the statement of its line
abbrev pub opened : Script → List OpenLine → Act → List OpenLine
opened script opens (Dispatch line c) = slice_set opens c.0 (record { line = line; changes = changes_at script.lines line })
opened script opens _ = opens

-- the statement that a connection has open, or had last
abbrev pub open_of : List OpenLine → Conn → OpenLine
open_of opens c = slice_index_or opens c.0 unopened
