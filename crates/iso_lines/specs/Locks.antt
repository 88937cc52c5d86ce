-- The lock list: what each name's line is, and the names of each connection. No order between names is told.
use Rattle.std.specs.List.{list_any}
use Rattle.std.specs.Prelude.{Bool, true, not, ◌&&◌, ◌||◌, ◌≡◌, ◌+◌, ℕ, zero, suc, List, [], length, map, is_some, slice_index_or}
use Rattle.iso_queue.specs.Lines.{Line, is_touched, is_waiter}
use Rattle.iso_modes.specs.Terms.{is_kept}
use Rattle.iso_queue.specs.declared.types.Hold.{Hold}
use Rattle.iso_queue.specs.declared.types.Waiter.{Waiter}
use Rattle.iso_types.specs.Ids.{conn_eq}
use Rattle.iso_types.specs.declared.value.Conn.{Conn}
use Rattle.iso_types.specs.declared.value.Name.{Name}
use Rattle.iso_types.specs.declared.value.TableId.{TableId}
use Rattle.iso_lines.specs.Named.{Named, key_of, line_of}
use Rattle.iso_lines.specs.declared.desk.Desk.{Desk}

-- a name with a number
abbrev pub Entry : Type 0
Entry = Name × ℕ

-- a hold of the connection that ends before its unit of work does, or may
abbrev pub is_loose_hold : Conn → Hold → Bool
is_loose_hold c h = conn_eq h.conn c && not (is_kept h.term)

-- the connection's hold in the line is Fresh or Brief
abbrev pub has_loose : Conn → Line → Bool
has_loose c q = list_any (is_loose_hold c) q.holders

-- a wait of the connection for such a hold
abbrev pub is_loose_wait : Conn → Waiter → Bool
is_loose_wait c w = conn_eq w.conn c && not (is_kept w.term)

-- the connection's hold in the line is Fresh or Brief, or is to be
abbrev pub is_at_hand : Conn → Line → Bool
is_at_hand c q = has_loose c q || list_any (is_loose_wait c) q.waiters

-- the lines of names, for each connection its names, and the table of each index
pub record Locks : Type 0 where
  pub lines : Named
  pub names : List (List (Name × ℕ))
  pub tables : List TableId

-- the names of the connection
abbrev pub names_of : Locks → Conn → List (Name × ℕ)
names_of l c = slice_index_or l.names c.0 []

-- how many they are
abbrev pub count_of : Locks → Conn → ℕ
count_of l c = length (names_of l c)

-- the names of each desk
abbrev pub names_at : List Desk → List (List (Name × ℕ))
names_at desks = map (λ d. d.names.entries) desks

-- how many names the connections of the numbers below k have together, each with its own row of names
abbrev pub counts_below : List (List (Name × ℕ)) → ℕ → ℕ
counts_below rows zero = 0
counts_below rows (suc k) = counts_below rows k + length (slice_index_or rows k [])

-- the names of a connection are those that it holds or awaits; those that are Fresh or Brief, or are to be, are at hand, and
-- so are those that it awaits
pub record IsSeated (lines : Named) (c : Conn) (d : Desk) : Type 0 where
  pub touched : (n : Name) → is_some (key_of d.names.entries n) ≡ is_touched (line_of lines n) c
  pub at_hand : (n : Name) → is_at_hand c (line_of lines n) ≡ true → is_some (key_of d.loose.entries n) ≡ true
  pub waiting : (n : Name) → is_waiter (line_of lines n).waiters c ≡ true → is_some (key_of d.awaited.entries n) ≡ true
