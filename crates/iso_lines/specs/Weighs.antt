-- Which names count as a connection's row and key holds on a table, and their number, which is kept for each table.
use Rattle.std.specs.Option.{option_map_or}
use Rattle.std.specs.Prelude.{◌≡◌, ◌<◌, ℕ, Bool, List, Option, false, not, ◌&&◌, count_by, if◌then◌else◌, length, slice_index_or}
use Rattle.iso_lines.specs.Named.{Named, line_of}
use Rattle.iso_lines.specs.Tasks.{is_within}
use Rattle.iso_modes.specs.Terms.{is_brief}
use Rattle.iso_queue.specs.Lines.{Line, hold_of}
use Rattle.iso_queue.specs.declared.types.Hold.{Hold}
use Rattle.iso_types.specs.Ids.{table_eq}
use Rattle.iso_types.specs.declared.value.Conn.{Conn}
use Rattle.iso_types.specs.declared.value.Name.{Name}
use Rattle.iso_types.specs.declared.value.TableId.{TableId}

-- there is a hold, and it is not Brief
abbrev pub is_long : Option Hold → Bool
is_long o = option_map_or (λ h. not (is_brief h.term)) o false

-- the name is that of a row or key of the table, and in its line the connection has a hold that is not Brief
abbrev pub weighs : List TableId → Conn → TableId → Name → Line → Bool
weighs tables c t n q = is_within tables t n && is_long (hold_of q.holders c)

-- the number that is kept for the table
abbrev pub weight_of : List ℕ → TableId → ℕ
weight_of ws t = slice_index_or ws t.0 0

-- 1 where a name of the first table weighs for the second, else 0
abbrev pub share : Option TableId → Bool → TableId → ℕ
share o long t = if option_map_or (λ u. table_eq u t) o false && long then 1 else 0

-- nothing weighs
pub record IsBlank (ws : List ℕ) : Type 0 where
  pub size : length ws ≡ 256
  pub none : (t : TableId) → weight_of ws t ≡ 0

-- for each table it is that of those of the connection's names that weigh
pub record IsWeighed (tables : List TableId) (lines : Named) (c : Conn) (es : List (Name × ℕ)) (ws : List ℕ) : Type 0 where
  pub size : length ws ≡ 256
  pub weights : (t : TableId) → t.0 < 256 → weight_of ws t ≡ count_by (λ e. weighs tables c t e.0 (line_of lines e.0)) es
