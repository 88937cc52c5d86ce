-- Lists of holds, and how a request is placed on them.
-- Modes, conversion and covering: Db2 LUW, 'Lock attributes', 'Lock type compatibility', 'Lock conversion'. The terms, how each
-- ends, and the hold that is spared are this project's own.
use Rattle.std.specs.List.{list_any}
use Rattle.std.specs.Option.{option_map, option_map_or}
use Rattle.std.specs.Prelude.{Bool, false, not, ◌&&◌, ◌||◌, List, [], ◌∷◌, map, is_some, if◌then◌else◌, filter, find, Option}
use Rattle.iso_modes.specs.Modes.{at_least, covers, joined, mode_eq}
use Rattle.iso_modes.specs.Terms.{is_brief, is_fresh, is_kept}
use Rattle.iso_modes.specs.declared.Mode.{Mode}
use Rattle.iso_modes.specs.declared.Mode.TheVariants.{Nw, S}
use Rattle.iso_modes.specs.declared.Term.{Term}
use Rattle.iso_modes.specs.declared.Term.TheVariants.{Kept}
use Rattle.iso_types.specs.Head.{is_on, table_of}
use Rattle.iso_types.specs.Ids.{conn_eq, name_eq}
use Rattle.iso_types.specs.declared.head.Head.{Head}
use Rattle.iso_types.specs.declared.value.Conn.{Conn}
use Rattle.iso_types.specs.declared.value.Name.{Name}
use Rattle.iso_types.specs.declared.value.Name.TheVariants.{Table}
use Rattle.iso_types.specs.declared.value.TableId.{TableId}

-- a hold: a name, its connection, the mode and the term
pub record Hold : Type 0 where
  pub name : Name
  pub conn : Conn
  pub mode : Mode
  pub term : Term

-- what is asked of a name
pub record Request : Type 0 where
  pub name : Name
  pub mode : Mode
  pub term : Term

-- the hold is this connection's on this name
unfoldable pub is_hold_of : Conn → Name → Hold → Bool
is_hold_of c n h = conn_eq h.conn c && name_eq h.name n

-- the connection's hold on the name
abbrev pub hold_on : List Hold → Conn → Name → Option Hold
hold_on holds c n = find (is_hold_of c n) holds

-- the mode in which the connection holds the name
abbrev pub held : List Hold → Conn → Name → Option Mode
held holds c n = option_map (λ h. h.mode) (hold_on holds c n)

-- the connection holds the name
abbrev pub is_held : List Hold → Conn → Name → Bool
is_held holds c n = is_some (hold_on holds c n)

-- the connection holds the name in this mode or more
abbrev pub holds_at_least : List Hold → Conn → Name → Mode → Bool
holds_at_least holds c n low = option_map_or (λ m. at_least m low) (held holds c n) false

-- what the connection holds once the mode is granted
abbrev pub target : List Hold → Conn → Name → Mode → Mode
target holds c n m = option_map_or (λ h. joined h m) (held holds c n) m

-- the connection's table lock covers the request
abbrev pub is_covered_on : List Hold → Conn → Mode → TableId → Bool
is_covered_on holds c m t = option_map_or (λ h. covers h m) (held holds c (Table t)) false

-- the request is covered by the connection's lock on the name's table
abbrev pub is_covered : Head → List Hold → Conn → Name → Mode → Bool
is_covered head holds c n m = option_map_or (is_covered_on holds c m) (table_of head n) false

-- an own hold gets the joined mode, and the asked term unless it was Kept; else a new hold is added
abbrev pub raised : Mode → Term → Hold → Hold
raised m t h = record h { mode = joined h.mode m; term = if is_kept h.term then Kept else t }

-- the holds with the request added
abbrev pub added : List Hold → Conn → Request → List Hold
added [] c r = record { name = r.name; conn = c; mode = r.mode; term = r.term } ∷ []
added (h ∷ hs) c r = if is_hold_of c r.name h then raised r.mode r.term h ∷ hs else h ∷ added hs c r

-- to place a request: nothing happens where the connection's table lock covers it
abbrev pub placed : Head → List Hold → Conn → Request → List Hold
placed head holds c r = if is_covered head holds c r.name r.mode then holds else added holds c r

-- requests placed one after the other
abbrev pub all_placed : Head → List Hold → Conn → List Request → List Hold
all_placed head holds c [] = holds
all_placed head holds c (r ∷ rs) = all_placed head (placed head holds c r) c rs

-- each Fresh hold of the connection becomes Kept, but on the name that is spared
abbrev pub is_spared : Option Name → Hold → Bool
is_spared spare h = option_map_or (name_eq h.name) spare false

-- a hold of the connection that is Fresh and not spared becomes Kept
abbrev pub settled_one : Conn → Option Name → Hold → Hold
settled_one c spare h =
    if conn_eq h.conn c && (is_fresh h.term && not (is_spared spare h)) then record h { term = Kept } else h

-- the holds after that
abbrev pub settled : Conn → Option Name → List Hold → List Hold
settled c spare holds = map (settled_one c spare) holds

-- the holds of the connection that were Brief in the first list, and still are, go
abbrev pub was_brief : List Hold → Conn → Name → Bool
was_brief before c n = list_any (λ h. is_hold_of c n h && is_brief h.term) before

-- the holds without them
abbrev pub without_briefs : List Hold → Conn → List Hold → List Hold
without_briefs before c holds =
    filter (λ h. not (conn_eq h.conn c && (is_brief h.term && was_brief before c h.name))) holds

-- the connection's hold on the name goes
abbrev pub freed : Conn → Name → List Hold → List Hold
freed c n holds = filter (λ h. not (is_hold_of c n h)) holds

-- all row and key holds of the connection on the table go
abbrev pub collapsed : Head → Conn → TableId → List Hold → List Hold
collapsed head c t holds = filter (λ h. not (conn_eq h.conn c && is_on head t h.name)) holds

-- all holds of the connection go
abbrev pub dropped : Conn → List Hold → List Hold
dropped c holds = filter (λ h. not (conn_eq h.conn c)) holds

-- another connection holds S or NW on the name
abbrev pub others_guard : List Hold → Conn → Name → Bool
others_guard holds c n =
    list_any (λ h. not (conn_eq h.conn c) && (name_eq h.name n && (mode_eq h.mode S || mode_eq h.mode Nw))) holds
