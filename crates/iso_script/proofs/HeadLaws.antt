-- What the declarations of a script keep: its head stays sound.
use Rattle.std.proofs.Common.{◌≡◌, ℕ, zero, suc, ◌+◌, ◌≤◌, ◌<◌, Bool, true, false, not, cond, List, [], ◌∷◌, ◌++◌, length, map, Option, Some, None, refl, sym, ap, ◌∙◌, append_assoc, length-append, arith}
use Rattle.std.specs.Prelude.{◌&&◌, ◌||◌, filter, nat_lt, nat_le, is_some, pos, negsuc, ℤ}
use Rattle.std.specs.Char.{to_ascii_uppercase}
use Rattle.std.specs.List.{list_all, list_any}
use Rattle.std.specs.Option.{option_map_or}
use Rattle.std.proofs.lemmas.Bool.{le-leb, leb-false, ltb-false, and_from}
use Rattle.std.proofs.lemmas.List.{append-nil}
use Rattle.iso_types.specs.Ids.{table_eq, text_eq}
use Rattle.iso_types.specs.declared.head.Column.{Column}
use Rattle.iso_types.specs.declared.head.Config.{Config}
use Rattle.iso_types.specs.declared.head.ConnDef.{ConnDef}
use Rattle.iso_types.specs.declared.head.FirstRow.{FirstRow}
use Rattle.iso_types.specs.declared.head.Head.{Head}
use Rattle.iso_types.specs.declared.head.IndexDef.{IndexDef}
use Rattle.iso_types.specs.declared.head.Isolation.{Isolation}
use Rattle.iso_types.specs.declared.head.TableDef.{TableDef}
use Rattle.iso_types.specs.declared.value.TableId.{TableId}
use Rattle.iso_grammar.specs.declared.fault.Cause.TheVariants.{Duplicate, Limit}
use Rattle.iso_grammar.specs.declared.fault.Fault.{Fault}
use Rattle.iso_grammar.specs.declared.token.Kind.TheVariants as k
use Rattle.iso_grammar.specs.declared.token.Token.{Token}
use Rattle.iso_grammar.specs.Faults.{least, unless}
use Rattle.iso_grammar.specs.Kinds.{same_kind}
use Rattle.iso_grammar.specs.Values.{integer, name, text_of}
use Rattle.iso_sql.specs.Names.{column_place, gives, name_of, place_in, table_names, table_of}
use Rattle.iso_sql.specs.Rows.{stored_row}
use Rattle.iso_sql.proofs.SoundFacts.{least_none}
use Rattle.iso_script.specs.declared.event.Settings.{Settings}
use Rattle.iso_script.specs.declared.words.ColumnWords.{ColumnWords}
use Rattle.iso_script.specs.declared.words.IndexWords.{IndexWords}
use Rattle.iso_script.specs.declared.words.SettingName.{SettingName}
use Rattle.iso_script.specs.declared.words.SettingName.TheVariants as setting
use Rattle.iso_script.specs.declared.words.SettingWords.{SettingWords}
use Rattle.iso_script.specs.declared.words.TypeWords.{TypeWords}
use Rattle.iso_script.specs.declared.words.TypeWords.TheVariants as ty
use Rattle.iso_script.specs.Advance.{with_setting}
use Rattle.iso_script.specs.Sound.{is_fitting}
use Rattle.iso_script.specs.Events.{bounds_of, column_fault, column_of, columns_fault, configured, connect_fault, connected, declared, kind_fault, kind_of, is_set, setting_of, setting_value_fault, table_fault, whole_line}
use Rattle.iso_script.specs.Keyed.{indexed, place_fault, rowed}
use Rattle.iso_script.specs.Naming.{declared_fault, has_connection, has_index, has_table, named, ranged, ranged_or_low, within}
use Rattle.iso_script.specs.Sound.{IsSoundHead, are_new, is_sound_column, is_sound_config, is_sound_connection, is_sound_index, is_sound_kind, is_sound_table}
use Rattle.iso_script.proofs.Faultless.{none_is, false_true, and_left, and_right, or_left, or_right, no_least_left, no_least_right, all_well, all_snoc, is_false, row-fits, unlimited}
use Rattle.iso_script.proofs.IndexLaws.{few_more, grown-indexes, index-placed, row-keyed, rowed-indexes, rows-below}
use Rattle.iso_script.proofs.RowLaws.{rows-grow}

-- ---- names

are_new-snoc : (before ns : List (List ℕ)) (n : List ℕ) → are_new before ns ≡ true → list_any (text_eq n) (before ++ ns) ≡ false → are_new before (ns ++ n ∷ []) ≡ true
are_new-snoc before [] n e f = ap (λ v. not v && true) (ap (list_any (text_eq n)) (sym (append-nil before)) ∙ f)
are_new-snoc before (m ∷ ns) n e f =
    and_from (not (list_any (text_eq m) before)) (are_new (before ++ m ∷ []) (ns ++ n ∷ [])) (and_left (not (list_any (text_eq m) before)) (are_new (before ++ m ∷ []) ns) e)
    (are_new-snoc (before ++ m ∷ []) ns n (and_right (not (list_any (text_eq m) before)) (are_new (before ++ m ∷ []) ns) e) (ap (list_any (text_eq n)) (append_assoc before (m ∷ []) ns) ∙ f))

map-snoc : {A B : Type 0} (f : A → B) (xs : List A) (x : A) → map f (xs ++ x ∷ []) ≡ map f xs ++ f x ∷ []
map-snoc f [] x = refl
map-snoc f (y ∷ xs) x = ap (λ z. f y ∷ z) (map-snoc f xs x)

module _ {A : Type 0} (name_in : A → List ℕ) where
  names-any : (line : List ℕ) (t : Token) (n : List ℕ) → name_of line t ≡ Some n → (ds : List A) → list_any (λ d. gives line t (name_in d)) ds ≡ list_any (text_eq n) (map name_in ds)
  unfolding gives
  names-any line t n is [] = refl
  names-any line t n is (d ∷ ds) =
      ap (λ o. option_map_or (λ m. text_eq m (name_in d)) o false || list_any (λ d. gives line t (name_in d)) ds) is
      ∙ ap (λ v. text_eq n (name_in d) || v) (names-any line t n is ds)

  -- a name that is declared without a fault is new
  fresh : (line : List ℕ) (t : Token) (ds : List A) → declared_fault (list_any (λ d. gives line t (name_in d)) ds) line t ≡ None → list_any (text_eq (named line t)) (map name_in ds) ≡ false
  unfolding declared_fault named
  fresh line t ds e = go (name_of line t) refl (all_well (is_some (name_of line t)) t Limit (no_least_left (unless (is_some (name_of line t)) t Limit) (unless (not taken) t Duplicate) e))
    where
      taken : Bool
      taken = list_any (λ d. gives line t (name_in d)) ds

      go : (o : Option (List ℕ)) → name_of line t ≡ o → is_some o ≡ true → list_any (text_eq (option_map_or (λ n. n) (name_of line t) [])) (map name_in ds) ≡ false
      go (Some n) is q =
          ap (λ o. list_any (text_eq (option_map_or (λ n. n) o [])) (map name_in ds)) is ∙ sym (names-any line t n is ds)
          ∙ is_false (list_any (λ d. gives line t (name_in d)) ds) (all_well (not taken) t Duplicate (no_least_right (unless (is_some (name_of line t)) t Limit) (unless (not taken) t Duplicate) e))
      go None is q = absurd (false_true q)

  new-snoc : (ds : List A) (d : A) → are_new [] (map name_in ds) ≡ true → list_any (text_eq (name_in d)) (map name_in ds) ≡ false → are_new [] (map name_in (ds ++ d ∷ [])) ≡ true
  new-snoc ds d e f = ap (are_new []) (map-snoc name_in ds d) ∙ are_new-snoc [] (map name_in ds) (name_in d) e f

length-map : {A B : Type 0} (f : A → B) (xs : List A) → length (map f xs) ≡ length xs
length-map f [] = refl
length-map f (x ∷ xs) = let e = length-map f xs in omega (arith, e)

-- a name that is declared has at most 32 bytes
named-short : (line : List ℕ) (t : Token) → nat_le (length (named line t)) 32 ≡ true
unfolding named name
named-short line t = go (nat_le (length (text_of line t)) 32) refl
  where
    go : (b : Bool) → nat_le (length (text_of line t)) 32 ≡ b → nat_le (length (option_map_or (λ n. n) (cond b (Some (map to_ascii_uppercase (text_of line t))) None) [])) 32 ≡ true
    go true is = ap (λ k. nat_le k 32) (length-map to_ascii_uppercase (text_of line t)) ∙ is
    go false is = refl

-- ---- numbers

within-bounds : (o : Option ℤ) (low high n : ℕ) → within low high o ≡ Some n → (nat_le low n && nat_le n high) ≡ true
within-bounds None low high n e = absurd (none_is n (sym e))
within-bounds (Some (negsuc k)) low high n e = absurd (none_is n (sym e))
within-bounds (Some (pos k)) low high n e = go (nat_le low k && nat_le k high) refl e
  where
    same : Some k ≡ Some n → k ≡ n
    same p = cc

    go : (b : Bool) → (nat_le low k && nat_le k high) ≡ b → cond b (Some k) None ≡ Some n → (nat_le low n && nat_le n high) ≡ true
    go true is q = ap (λ m. nat_le low m && nat_le m high) (sym (same q)) ∙ is
    go false is q = absurd (none_is n (sym q))

-- a number without a fault lies within its bounds
number-within : (line : List ℕ) (t : Token) (low high : ℕ) → unless (is_some (ranged line t low high)) t Limit ≡ None → (nat_le low (ranged_or_low line t low high) && nat_le (ranged_or_low line t low high) high) ≡ true
unfolding ranged
number-within line t low high e = go (within low high (integer (text_of line t))) refl (all_well (is_some (ranged line t low high)) t Limit e)
  where
    go : (o : Option ℕ) → within low high (integer (text_of line t)) ≡ o → is_some o ≡ true → (nat_le low (option_map_or (λ n. n) o low) && nat_le (option_map_or (λ n. n) o low) high) ≡ true
    go (Some n) is q = within-bounds (integer (text_of line t)) low high n is
    go None is q = absurd (false_true q)

-- ---- columns

kind-sound : (line : List ℕ) (w : TypeWords) → kind_fault line w ≡ None → is_sound_kind (kind_of line w) ≡ true
kind-sound line ty.Integer e = refl
kind-sound line ty.Bigint e = refl
kind-sound line (ty.Varchar n) e = number-within line n 1 32 e

abbrev name_in_column : Column → List ℕ
name_in_column c = c.name

columns-new : (line : List ℕ) (so_far : Option Fault) (before : List Column) (cs : List ColumnWords) → columns_fault line so_far before cs ≡ None
    → (so_far ≡ None) × (are_new (map name_in_column before) (map name_in_column (map (column_of line) cs)) ≡ true) × (list_all is_sound_column (map (column_of line) cs) ≡ true)
unfolding column_fault column_of
columns-new line so_far before [] e = (e, refl, refl)
columns-new line so_far before (c ∷ cs) e =
    let r = columns-new line (least so_far (column_fault line before c)) (before ++ column_of line c ∷ []) cs e in
    let own : column_fault line before c ≡ None = no_least_right so_far (column_fault line before c) r.0 in
    let name_ok = no_least_left (declared_fault (list_any (λ d. gives line c.name d.name) before) line c.name) (kind_fault line c.kind) own in
    let kind_ok = no_least_right (declared_fault (list_any (λ d. gives line c.name d.name) before) line c.name) (kind_fault line c.kind) own in (
      no_least_left so_far (column_fault line before c) r.0,
      and_from (not (list_any (text_eq (named line c.name)) (map name_in_column before))) (are_new (map name_in_column before ++ named line c.name ∷ []) (map name_in_column (map (column_of line) cs))) (ap not (fresh name_in_column line c.name before name_ok))
          (ap (λ z. are_new z (map name_in_column (map (column_of line) cs))) (sym (map-snoc name_in_column before (column_of line c))) ∙ r.1),
      and_from (is_sound_column (column_of line c)) (list_all is_sound_column (map (column_of line) cs)) (and_from (nat_le (length (named line c.name)) 32) (is_sound_kind (kind_of line c.kind)) (named-short line c.name) (kind-sound line c.kind kind_ok)) r.2,
    )

-- the settings with one that lies within its bounds
setting-sound : (c : Config) (line : List ℕ) (n : SettingName) (on : Bool) (v : Token) → is_sound_config c ≡ true → setting_value_fault line n v ≡ None
    → is_sound_config (with_setting c (setting_of n on (ranged_or_low line v (bounds_of n).0 (bounds_of n).1))) ≡ true
setting-sound c line setting.CurCommit on v h e = h
setting-sound c line setting.Locklist on v h e = and_from _ _ (number-within line v 4 4096 e) (and_right (nat_le 4 c.locklist && nat_le c.locklist 4096) _ h)
setting-sound c line setting.Maxlocks on v h e =
    let r = and_right (nat_le 4 c.locklist && nat_le c.locklist 4096) _ h in
    and_from _ _ (and_left (nat_le 4 c.locklist && nat_le c.locklist 4096) _ h) (and_from _ _ (number-within line v 1 100 e) (and_right (nat_le 1 c.maxlocks && nat_le c.maxlocks 100) _ r))
setting-sound c line setting.Logmax on v h e =
    let r = and_right (nat_le 4 c.locklist && nat_le c.locklist 4096) _ h in
    let q = and_right (nat_le 1 c.maxlocks && nat_le c.maxlocks 100) _ r in
    and_from _ _ (and_left (nat_le 4 c.locklist && nat_le c.locklist 4096) _ h)
    (and_from _ _ (and_left (nat_le 1 c.maxlocks && nat_le c.maxlocks 100) _ r) (and_from _ _ (number-within line v 2 1000000 e) (and_right (nat_le 2 c.logmax && nat_le c.logmax 1000000) _ q)))
setting-sound c line setting.Window on v h e =
    let r = and_right (nat_le 4 c.locklist && nat_le c.locklist 4096) _ h in
    let q = and_right (nat_le 1 c.maxlocks && nat_le c.maxlocks 100) _ r in
    and_from _ _ (and_left (nat_le 4 c.locklist && nat_le c.locklist 4096) _ h)
    (and_from _ _ (and_left (nat_le 1 c.maxlocks && nat_le c.maxlocks 100) _ r) (and_from _ _ (and_left (nat_le 2 c.logmax && nat_le c.logmax 1000000) _ q) (number-within line v 1 1000000 e)))

-- ---- one declaration

pub config-head : (head : Head) (set : Settings) (line : List ℕ) (w : SettingWords) → IsSoundHead head → (configured set line w).fault ≡ None
    → IsSoundHead (record head { config = with_setting head.config (setting_of w.name (same_kind k.On w.value.kind) (ranged_or_low line w.value (bounds_of w.name).0 (bounds_of w.name).1)) })
unfolding configured
config-head head set line w h f = record {
  config = setting-sound head.config line w.name (same_kind k.On w.value.kind) w.value h.config
      (no_least_right (unless (not (is_set set w.name)) w.word Duplicate) (setting_value_fault line w.name w.value) f);
  some_tables = h.some_tables;
  table_names = h.table_names;
  tables = h.tables;
  some_indexes = h.some_indexes;
  few_indexes = h.few_indexes;
  index_names = h.index_names;
  indexes = h.indexes;
  some_rows = h.some_rows;
  rows = h.rows;
  some_conns = h.some_conns;
  conn_names = h.conn_names;
  conns = h.conns;
}

one_more : {A : Type 0} (most : ℕ) (xs : List A) (x : A) → nat_le most (length xs) ≡ false → length (xs ++ x ∷ []) ≤ most
one_more most xs x e = let lt : length xs < most = leb-false most (length xs) e in omega (arith, length-append xs (x ∷ []), lt)

at_least_one : {A : Type 0} (xs : List A) (x : A) (ys : List A) → xs ≡ x ∷ ys → nat_le 1 (length xs) ≡ true
at_least_one xs x ys e = le-leb 1 (length xs) (let z : length xs ≡ length (x ∷ ys) = ap length e in omega (arith, z))

not_more : (k : ℕ) → nat_lt 8 k ≡ false → nat_le k 8 ≡ true
not_more k e = le-leb k 8 (ltb-false 8 k e)

pub table-head : (head : Head) (line : List ℕ) (t : Token) (cs : List ColumnWords) (c : ColumnWords) (more : List ColumnWords) → IsSoundHead head → cs ≡ c ∷ more → (declared head line t cs).fault ≡ None
    → IsSoundHead (record head { tables = head.tables ++ record { name = named line t; columns = map (column_of line) cs } ∷ [] })
unfolding declared has_table
table-head head line t cs c more h some f =
    let u = unlimited (nat_lt 8 (length cs) || nat_le 16 (length head.tables)) _ f in
    let name_ok = no_least_left (declared_fault (has_table head line t) line t) (columns_fault line None [] cs) u.1 in
    let cols = columns-new line None [] cs (no_least_right (declared_fault (has_table head line t) line t) (columns_fault line None [] cs) u.1) in
    let count : length (map (column_of line) cs) ≡ length cs = length-map (column_of line) cs in
    let few : nat_lt 8 (length cs) ≡ false = or_left (nat_lt 8 (length cs)) (nat_le 16 (length head.tables)) u.0 in
    let good : is_sound_table (record { name = named line t; columns = map (column_of line) cs }) ≡ true =
    and_from _ _ (named-short line t) (and_from _ _ (ap (nat_le 1) count ∙ at_least_one cs c more some) (and_from _ _ (ap (λ k. nat_le k 8) count ∙ not_more (length cs) few) (and_from _ _ cols.1 cols.2))) in
    record {
      config = h.config;
      some_tables = one_more 16 head.tables _ (or_right (nat_lt 8 (length cs)) (nat_le 16 (length head.tables)) u.0);
      table_names = new-snoc (λ (d : TableDef). d.name) head.tables _ h.table_names (fresh (λ (d : TableDef). d.name) line t head.tables name_ok);
      tables = all_snoc is_sound_table head.tables _ h.tables good;
      some_indexes = h.some_indexes;
      few_indexes = h.few_indexes;
      index_names = h.index_names;
      indexes = grown-indexes head _ head.indexes h.indexes;
      some_rows = h.some_rows;
      rows = rows-grow head _ head.rows h.rows;
      some_conns = h.some_conns;
      conn_names = h.conn_names;
      conns = h.conns;
    }

pub connect-head : (head : Head) (line : List ℕ) (a : Token) (l : Isolation) → IsSoundHead head → (connected head line a l).fault ≡ None
    → IsSoundHead (record head { conns = head.conns ++ record { name = named line a; isolation = l } ∷ [] })
unfolding connected has_connection
connect-head head line a l h f =
    let u = unlimited (nat_le 32 (length head.conns)) (declared_fault (has_connection head line a) line a) f in
    record {
      config = h.config;
      some_tables = h.some_tables;
      table_names = h.table_names;
      tables = h.tables;
      some_indexes = h.some_indexes;
      few_indexes = h.few_indexes;
      index_names = h.index_names;
      indexes = h.indexes;
      some_rows = h.some_rows;
      rows = h.rows;
      some_conns = one_more 32 head.conns _ u.0;
      conn_names = new-snoc (λ (d : ConnDef). d.name) head.conns _ h.conn_names (fresh (λ (d : ConnDef). d.name) line a head.conns u.1);
      conns = all_snoc is_sound_connection head.conns _ h.conns (named-short line a);
    }

pub row-head : (head : Head) (line : List ℕ) (first t : Token) (vs : List Token) (close : Token) → IsSoundHead head → (rowed head line first t vs close).fault ≡ None
    → IsSoundHead (record head { rows = head.rows ++ record { table = table_of head line t; row = stored_row line vs } ∷ [] })
unfolding rowed
row-head head line first t vs close h f =
    let fits = row-fits head line first t vs close f in
    let keyed = row-keyed head line first t vs close f in
    record {
      config = h.config;
      some_tables = h.some_tables;
      table_names = h.table_names;
      tables = h.tables;
      some_indexes = h.some_indexes;
      few_indexes = h.few_indexes;
      index_names = h.index_names;
      indexes = rowed-indexes head (record { table = table_of head line t; row = stored_row line vs }) head.indexes h.indexes keyed.0;
      some_rows = rows-below head (record { table = table_of head line t; row = stored_row line vs }) keyed.1 h.some_rows;
      rows = all_snoc (is_fitting head) head.rows _ h.rows fits;
      some_conns = h.some_conns;
      conn_names = h.conn_names;
      conns = h.conns;
    }

pub index-head : (head : Head) (line : List ℕ) (w : IndexWords) → IsSoundHead head → (indexed head line w).fault ≡ None
    → IsSoundHead (record head {
      indexes = head.indexes ++ record { name = named line w.name; table = table_of head line w.table; column = place_in (column_place (table_names head line w.table) w.column); unique = w.unique } ∷ [];
    })
unfolding indexed has_index
index-head head line w h f =
    let a = least_none (declared_fault (has_index head line w.name) line w.name) (place_fault head w (table_of head line w.table) (table_names head line w.table)) f in
    let placed = index-placed head line w a.1 in
    record {
      config = h.config;
      some_tables = h.some_tables;
      table_names = h.table_names;
      tables = h.tables;
      some_indexes = one_more 32 head.indexes _ placed.all;
      few_indexes = λ t. few_more (λ (d : IndexDef). d.table.0) 4 head.indexes _ placed.own (λ n. h.few_indexes (record { 0 = n })) t.0;
      index_names = new-snoc (λ (d : IndexDef). d.name) head.indexes _ h.index_names (fresh (λ (d : IndexDef). d.name) line w.name head.indexes a.0);
      indexes = all_snoc (is_sound_index head) head.indexes _ h.indexes (and_from _ _ (named-short line w.name) (and_from _ _ placed.required placed.keys));
      some_rows = h.some_rows;
      rows = h.rows;
      some_conns = h.some_conns;
      conn_names = h.conn_names;
      conns = h.conns;
    }
