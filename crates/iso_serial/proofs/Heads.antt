-- The head of a sound script is one that the state can begin with.
use Rattle.std.proofs.Common.{◌≡◌, ℕ, suc, ◌≤◌, ◌+◌, true, false, ◌&&◌, List, [], ◌∷◌, length, map, filter, refl, ap, sym, subst, ◌∙◌, Bool, Option, Some, None, arith}
use Rattle.std.specs.List.{list_all, range_with_len}
use Rattle.std.specs.Option.{option_map, option_map_or}
use Rattle.std.specs.Prelude.{nat_le, nat_lt, slice_get}
use Rattle.std.proofs.lemmas.Bool.{and_from, and_parts, leb-true, lt-ltb}
use Rattle.std.proofs.lemmas.Option.{slice_get_within}
use Rattle.iso_script.specs.Keyed.{own_indexes}
use Rattle.iso_script.specs.Sound.{IsSoundHead, is_sound_column, is_sound_config, is_sound_index, is_sound_table, are_new}
use Rattle.iso_sql.specs.Sound.{columns_of, is_short}
use Rattle.iso_state.specs.Stands.{HeadFits, is_placed}
use Rattle.iso_types.specs.declared.head.Config.{Config}
use Rattle.iso_types.specs.Head.{indexes_of, table_of_index}
use Rattle.iso_types.specs.Ids.{table_eq}
use Rattle.iso_types.specs.declared.head.Column.{Column}
use Rattle.iso_types.specs.declared.head.Head.{Head}
use Rattle.iso_types.specs.declared.head.IndexDef.{IndexDef}
use Rattle.iso_types.specs.declared.head.TableDef.{TableDef}
use Rattle.iso_types.specs.declared.value.IndexId.{IndexId}
use Rattle.iso_types.specs.declared.value.TableId.{TableId}

-- it has at most 8 columns
few-columns : (d : TableDef) → is_sound_table d ≡ true → nat_le (length d.columns) 8 ≡ true
few-columns d h = (and_parts _ _ (and_parts _ _ (and_parts _ _ h).1).1).0

all-few : (ds : List TableDef) → list_all is_sound_table ds ≡ true → list_all (λ (d : TableDef). nat_le (length d.columns) 8) ds ≡ true
all-few [] h = refl
all-few (d ∷ ds) h =
    let t = and_parts (is_sound_table d) (list_all is_sound_table ds) h in
    and_from (nat_le (length d.columns) 8) (list_all (λ (e : TableDef). nat_le (length e.columns) 8) ds) (few-columns d t.0) (all-few ds t.1)

locklist-in : (c : Config) → is_sound_config c ≡ true → nat_le c.locklist 4096 ≡ true
locklist-in c h = (and_parts _ _ (and_parts _ _ h).0).1

maxlocks-in : (c : Config) → is_sound_config c ≡ true → nat_le c.maxlocks 100 ≡ true
maxlocks-in c h = (and_parts _ _ (and_parts _ _ (and_parts _ _ h).1).0).1

-- a column of a table that is there
placed : (head : Head) (d : IndexDef) → is_sound_index head d ≡ true → is_placed head d ≡ true
placed head d h =
    let column : option_map_or (λ (c : Column). c.required) (slice_get (columns_of head d.table) d.column) false ≡ true = (and_parts _ _ (and_parts _ _ h).1).0 in
    at (slice_get head.tables d.table.0) refl column
  where
    on : List Column → Bool
    on cs = option_map_or (λ (c : Column). c.required) (slice_get cs d.column) false

    there : (cs : List Column) (o : Option Column) → slice_get cs d.column ≡ o → option_map_or (λ (c : Column). c.required) o false ≡ true
        → nat_lt d.column (length cs) ≡ true
    there cs None e h = cc h
    there cs (Some c) e h = lt-ltb d.column (length cs) (slice_get_within cs d.column c e)

    at : (o : Option TableDef) → slice_get head.tables d.table.0 ≡ o → on (option_map_or (λ t. t.columns) o []) ≡ true
        → (nat_lt d.table.0 (length head.tables) && nat_lt d.column (option_map_or (λ t. length t.columns) o 0)) ≡ true
    at None e h = cc h
    at (Some t) e h =
        and_from (nat_lt d.table.0 (length head.tables)) (nat_lt d.column (length t.columns))
        (lt-ltb d.table.0 (length head.tables) (slice_get_within head.tables d.table.0 t e)) (there t.columns (slice_get t.columns d.column) refl h)

all-placed : (head : Head) (ds : List IndexDef) → list_all (is_sound_index head) ds ≡ true → list_all (is_placed head) ds ≡ true
all-placed head [] h = refl
all-placed head (d ∷ ds) h =
    let p = and_parts (is_sound_index head d) (list_all (is_sound_index head) ds) h in
    and_from (is_placed head d) (list_all (is_placed head) ds) (placed head d p.0) (all-placed head ds p.1)

-- the indexes of a table, among those from a on
few-from : (head : Head) (t : TableId) (ds : List IndexDef) (a : ℕ) → ((j : ℕ) → slice_get head.indexes (a + j) ≡ slice_get ds j)
    → length (filter (λ i. option_map_or (λ u. table_eq u t) (table_of_index head i) false) (map (λ k. record { 0 = k }) (range_with_len a (length ds))))
    ≡ length (own_indexes t ds)
few-from head t [] a h = refl
few-from head t (d ∷ ds) a h = go (table_eq d.table t) refl (few-from head t ds (a + 1) later)
  where
    later : (j : ℕ) → slice_get head.indexes (a + 1 + j) ≡ slice_get ds j
    later j = subst (λ n. slice_get head.indexes n ≡ slice_get ds j) (omega arith) (h (suc j))

    on : IndexId → Bool
    on i = option_map_or (λ u. table_eq u t) (table_of_index head i) false

    rest : List IndexId
    rest = map (λ k. record { 0 = k }) (range_with_len (a + 1) (length ds))

    same : a ≡ a + 0
    same = omega arith

    first : on (record { 0 = a }) ≡ table_eq d.table t
    first = ap (λ (o : Option IndexDef). option_map_or (λ u. table_eq u t) (option_map (λ x. x.table) o) false)
        (ap (λ n. slice_get head.indexes n) same ∙ h 0)

    go : (b : Bool) → table_eq d.table t ≡ b → length (filter on rest) ≡ length (own_indexes t ds)
        → length (filter on (record { 0 = a } ∷ rest)) ≡ length (own_indexes t (d ∷ ds))
    go true e ih = rw (first ∙ e, e) (ap suc ih)
    go false e ih = rw (first ∙ e, e) ih

few : (head : Head) (t : TableId) → length (own_indexes t head.indexes) ≤ 4 → length (indexes_of head t) ≤ 4
few head t le =
    subst (λ n. n ≤ 4) (sym (few-from head t head.indexes 0 (λ j. ap (λ n. slice_get head.indexes n) (omega arith)))) le

pub head-fits : (head : Head) → IsSoundHead head → HeadFits head
head-fits head s = record {
  tables = s.some_tables;
  columns = all-few head.tables s.tables;
  conns = s.some_conns;
  rows = s.rows;
  locklist = leb-true head.config.locklist 4096 (locklist-in head.config s.config);
  maxlocks = leb-true head.config.maxlocks 100 (maxlocks-in head.config s.config);
  indexes = all-placed head head.indexes s.indexes;
  some_indexes = s.some_indexes;
  few_indexes = λ t. few head t (s.few_indexes t);
}
