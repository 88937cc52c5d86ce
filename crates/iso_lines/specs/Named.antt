-- The lines of names, kept under keys: each name's line, whatever the order of the names.
use Rattle.std.specs.Map.{lookup}
use Rattle.std.specs.Option.{option_map_or}
use Rattle.std.specs.Prelude.{◌≡◌, ℕ, Bool, true, List, [], Option, None, Some, IsSome, is_some, slice_index_or, unwrap_or}
use Rattle.iso_queue.specs.Lines.{Line, claimed, is_used, settled, unheld, unqueued}
use Rattle.iso_types.specs.Ids.{name_eq}
use Rattle.iso_types.specs.contracts.value.NamePartialEq.TheImpl as names
use Rattle.iso_types.specs.declared.value.Conn.{Conn}
use Rattle.iso_types.specs.declared.value.Name.{Name}
use Rattle.iso_lines.specs.declared.lines.Change.{Change}
use Rattle.iso_lines.specs.declared.lines.Change.TheVariants.{Cancel, Claim, Release, Settle}

-- nobody holds or awaits the name
abbrev pub nobody : Line
nobody = record { holders = []; waiters = [] }

-- the equality by which the index finds a name: that of `Name`'s derive
abbrev pub same : Name → Name → Bool
same = names.ghosts.eq

-- the key under which the name's line stands
abbrev pub key_of : List (Name × ℕ) → Name → Option ℕ
key_of index n = lookup (same n) index

-- the line under a key
abbrev pub line_under : List (Option Line) → ℕ → Line
line_under slots k = unwrap_or (slice_index_or slots k None) nobody

-- the lines of all names: an index from names to keys, and the line under each key
pub record Named : Type 0 where
  pub index : List (Name × ℕ)
  pub slots : List (Option Line)

-- the two together
abbrev pub kept : List (Name × ℕ) → List (Option Line) → Named
kept index slots = record { index = index; slots = slots }

-- the holders and waiters of the name
abbrev pub line_of : Named → Name → Line
line_of l n = option_map_or (line_under l.slots) (key_of l.index n) nobody

-- each key has a line, and no two names have the same key
pub record IsNamed (index : List (Name × ℕ)) (slots : List (Option Line)) : Type 0 where
  pub stands : (n : Name) (k : ℕ) → key_of index n ≡ Some k → IsSome (slice_index_or slots k None)
  pub apart : (n m : Name) (k : ℕ) → key_of index n ≡ Some k → key_of index m ≡ Some k → name_eq n m ≡ true

-- the same, and each name in the index is one that somebody holds or awaits
pub record IsWhole (index : List (Name × ℕ)) (slots : List (Option Line)) : Type 0 where
  pub named : IsNamed index slots
  pub used : (n : Name) → is_some (key_of index n) ≡ true → is_used (line_of (kept index slots) n) ≡ true

-- the connection's hold goes
abbrev pub released : Line → Conn → Line
released q c = record { holders = unheld c q.holders; waiters = q.waiters }

-- the connection's wait goes
abbrev pub cancelled : Line → Conn → Line
cancelled q c = record { holders = q.holders; waiters = unqueued c q.waiters }

-- the line after the change of the connection's part in it
abbrev pub changed : Change → Conn → Line → Line
changed Release c q = released q c
changed Cancel c q = cancelled q c
changed (Settle spared) c q = settled q c spared
changed Claim c q = claimed q c
