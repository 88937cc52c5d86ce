-- Which ids, names, texts and pairs of an index are the same.
use Rattle.std.specs.Cmp.Lexicographic.{pointwise}
use Rattle.std.specs.Prelude.{ℕ, Bool, false, ◌&&◌, ◌||◌, List, nat_eq, nat_lt, ◌==◌}
use Rattle.iso_types.specs.Value.{value_eq, value_lt}
use Rattle.iso_types.specs.declared.value.Conn.{Conn}
use Rattle.iso_types.specs.declared.value.IndexId.{IndexId}
use Rattle.iso_types.specs.declared.value.Name.{Name}
use Rattle.iso_types.specs.declared.value.Name.TheVariants.{End, Key, Row, Table}
use Rattle.iso_types.specs.declared.value.Rid.{Rid}
use Rattle.iso_types.specs.declared.value.TableId.{TableId}
use Rattle.iso_types.specs.declared.value.Value.{Value}

-- the connections are the same
abbrev pub conn_eq : Conn → Conn → Bool
conn_eq c d = c.0 == d.0

-- the tables are the same
abbrev pub table_eq : TableId → TableId → Bool
table_eq t u = t.0 == u.0

-- the indexes are the same
abbrev pub index_eq : IndexId → IndexId → Bool
index_eq i j = i.0 == j.0

-- the rids are the same
abbrev pub rid_eq : Rid → Rid → Bool
rid_eq r s = r.0 == s.0

-- the texts are the same
abbrev pub text_eq : List ℕ → List ℕ → Bool
text_eq s t = pointwise nat_eq s t

-- the names are the same
unfoldable pub name_eq : Name → Name → Bool
name_eq (Table t) (Table u) = table_eq t u
name_eq (Row t r) (Row u s) = table_eq t u && rid_eq r s
name_eq (Key i v) (Key j w) = index_eq i j && value_eq v w
name_eq (End i) (End j) = index_eq i j
name_eq _ _ = false

-- the pairs are the same
abbrev pub pair_eq : Value × Rid → Value × Rid → Bool
pair_eq p q = value_eq p.0 q.0 && rid_eq p.1 q.1

-- by key, then by rid
abbrev pub pair_lt : Value × Rid → Value × Rid → Bool
pair_lt p q = value_lt p.0 q.0 || (value_eq p.0 q.0 && nat_lt p.1.0 q.1.0)
