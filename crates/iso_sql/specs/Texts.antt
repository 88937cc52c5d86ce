-- What a text says as a statement, or what is wrong with it.
use Rattle.std.specs.Prelude.{◌≡◌, ◌⊎◌, ℕ, List, length, Some, None, Result, Ok, Err}
use Rattle.iso_types.specs.declared.head.Head.{Head}
use Rattle.iso_grammar.specs.declared.fault.Cause.{Cause}
use Rattle.iso_grammar.specs.declared.fault.Cause.TheVariants as cause
use Rattle.iso_grammar.specs.Faults.{checked, place_of}
use Rattle.iso_grammar.specs.Grammar.{StopsAt}
use Rattle.iso_grammar.specs.Lex.{tokens}
use Rattle.iso_sql.specs.declared.fault.SqlFault.{SqlFault}
use Rattle.iso_sql.specs.declared.fault.SqlFault.TheVariants as fault
use Rattle.iso_sql.specs.declared.statement.Statement.{Statement}
use Rattle.iso_sql.specs.Statements.{statement}

-- the text is this statement, without a fault
abbrev pub Reads : Head → List ℕ → Statement → Type 0
Reads head text x = statement head text (tokens text) (checked x None)

-- the text has the form of a statement, whose least fault this is
abbrev pub IsFaulty : Head → List ℕ → Cause → ℕ → Type 0
IsFaulty head text why place = (x : Statement) × statement head text (tokens text) (checked x (Some (record { place = place; cause = why })))

-- the fault with this cause and place
abbrev pub as_fault : Cause → ℕ → SqlFault
as_fault cause.Unknown place = fault.Unknown place
as_fault cause.TypeFault place = fault.TypeFault place
as_fault cause.Duplicate place = fault.Duplicate place
as_fault cause.Limit place = fault.Limit place

-- what is wrong with the text, and where; want of memory says nothing
abbrev pub Refuses : Head → List ℕ → SqlFault → Type 0
Refuses head text (fault.Syntax place) = (left : ℕ) × StopsAt (statement head text) (tokens text) left × (place ≡ place_of (tokens text) left (length text))
Refuses head text (fault.Unknown place) = IsFaulty head text cause.Unknown place
Refuses head text (fault.TypeFault place) = IsFaulty head text cause.TypeFault place
Refuses head text (fault.Duplicate place) = IsFaulty head text cause.Duplicate place
Refuses head text (fault.Limit place) = IsFaulty head text cause.Limit place
Refuses head text fault.Memory = Unit {0}

-- what the reader answers is right
abbrev pub Answers : Head → List ℕ → Result Statement SqlFault → Type 0
Answers head text (Ok x) = Reads head text x
Answers head text (Err e) = Refuses head text e

-- this answer, unless memory ran out
abbrev pub IsOrMemory : Result Statement SqlFault → Result Statement SqlFault → Type 0
IsOrMemory r answer = (r ≡ answer) ⊎ (r ≡ Err fault.Memory)

-- a fault of the text, which want of memory is not
abbrev pub IsTold : SqlFault → Type 0
IsTold fault.Memory = ⊥
IsTold _ = Unit {0}
