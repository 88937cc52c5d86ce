-- What the names and numbers of a line mean.
use Rattle.std.specs.List.{list_any}
use Rattle.std.specs.Option.{option_map_or}
use Rattle.std.specs.Prelude.{ℕ, Bool, false, not, ◌&&◌, if◌then◌else◌, List, [], ◌∷◌, find, nat_le, slice_get, is_some, ℤ, pos, negsuc, Option, Some, None}
use Rattle.iso_types.specs.declared.head.Head.{Head}
use Rattle.iso_types.specs.declared.value.Conn.{Conn}
use Rattle.iso_grammar.specs.declared.fault.Cause.TheVariants.{Duplicate, Limit, Unknown}
use Rattle.iso_grammar.specs.declared.fault.Fault.{Fault}
use Rattle.iso_grammar.specs.declared.token.Token.{Token}
use Rattle.iso_grammar.specs.Faults.{least, unless}
use Rattle.iso_grammar.specs.Values.{text_of, integer}
use Rattle.iso_sql.specs.Names.{gives, name_of}

-- ---- names

-- the name that a token declares; one that is too long says nothing
unfoldable pub named : List ℕ → Token → List ℕ
named line t = option_map_or (λ n. n) (name_of line t) []

-- a name that is declared: it has at most 32 bytes, and was not declared before
unfoldable pub declared_fault : Bool → List ℕ → Token → Option Fault
declared_fault taken line t = least (unless (is_some (name_of line t)) t Limit) (unless (not taken) t Duplicate)

-- a table, an index, a connection of this name is declared
unfoldable pub has_table : Head → List ℕ → Token → Bool
has_table head line t = list_any (λ d. gives line t d.name) head.tables

unfoldable pub has_index : Head → List ℕ → Token → Bool
has_index head line t = list_any (λ d. gives line t d.name) head.indexes

unfoldable pub has_connection : Head → List ℕ → Token → Bool
has_connection head line t = list_any (λ d. gives line t d.name) head.conns

-- the places of at most 32 declarations
abbrev pub places : List ℕ
places = 0 ∷ 1 ∷ 2 ∷ 3 ∷ 4 ∷ 5 ∷ 6 ∷ 7 ∷ 8 ∷ 9 ∷ 10 ∷ 11 ∷ 12 ∷ 13 ∷ 14 ∷ 15 ∷ 16 ∷ 17 ∷ 18 ∷ 19 ∷ 20 ∷ 21 ∷ 22 ∷ 23 ∷ 24 ∷ 25 ∷ 26 ∷ 27 ∷ 28 ∷ 29 ∷ 30 ∷ 31 ∷ []

-- the connection in this place has the name that the token gives
abbrev pub is_connection : Head → List ℕ → Token → ℕ → Bool
is_connection head line t at = option_map_or (λ d. gives line t d.name) (slice_get head.conns at) false

-- the connection that the token names
unfoldable pub connection_place : Head → List ℕ → Token → Option ℕ
connection_place head line t = find (is_connection head line t) places

-- a connection that a line uses; with a fault it is any
abbrev pub connection_of : Head → List ℕ → Token → Conn
connection_of head line t = record { 0 = option_map_or (λ at. at) (connection_place head line t) 0 }

abbrev pub connection_fault : Head → List ℕ → Token → Option Fault
connection_fault head line t = unless (is_some (connection_place head line t)) t Unknown

-- ---- numbers

-- a number within bounds
abbrev pub within : ℕ → ℕ → Option ℤ → Option ℕ
within low high None = None
within low high (Some (negsuc n)) = None
within low high (Some (pos n)) = if nat_le low n && nat_le n high then Some n else None

-- the number that a token gives, where it lies within these bounds
unfoldable pub ranged : List ℕ → Token → ℕ → ℕ → Option ℕ
ranged line t low high = within low high (integer (text_of line t))

-- the same, or else the lower bound
abbrev pub ranged_or_low : List ℕ → Token → ℕ → ℕ → ℕ
ranged_or_low line t low high = option_map_or (λ n. n) (ranged line t low high) low
