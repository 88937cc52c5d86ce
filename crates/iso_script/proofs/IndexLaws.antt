-- Indexes stay sound as tables, rows and indexes are declared.
use Rattle.std.proofs.Common.{◌≡◌, ℕ, ◌+◌, ◌≤◌, ◌<◌, Bool, true, false, not, cond, List, [], ◌∷◌, ◌++◌, length, Option, Some, None, refl, sym, ap, subst, ◌∙◌, length-append, arith}
use Rattle.std.specs.Prelude.{◌&&◌, ◌||◌, ◌==◌, filter, nat_le, slice_get}
use Rattle.std.specs.List.{list_all, list_any}
use Rattle.std.specs.Option.{option_map_or}
use Rattle.std.proofs.lemmas.Bool.{and_from, eqb-true, leb-false}
use Rattle.std.proofs.lemmas.List.Elements.{filter-append}
use Rattle.std.proofs.lemmas.List.Folds.{list_any-append}
use Rattle.iso_types.specs.Ids.{table_eq}
use Rattle.iso_types.specs.declared.head.Column.{Column}
use Rattle.iso_types.specs.declared.head.FirstRow.{FirstRow}
use Rattle.iso_types.specs.declared.head.Head.{Head}
use Rattle.iso_types.specs.declared.head.IndexDef.{IndexDef}
use Rattle.iso_types.specs.declared.head.TableDef.{TableDef}
use Rattle.iso_types.specs.declared.value.TableId.{TableId}
use Rattle.iso_grammar.specs.declared.fault.Cause.TheVariants.{Duplicate, TypeFault, Unknown}
use Rattle.iso_grammar.specs.declared.fault.Fault.{Fault}
use Rattle.iso_grammar.specs.declared.token.Token.{Token}
use Rattle.iso_grammar.specs.Faults.{at, unless}
use Rattle.iso_sql.specs.Names.{Names, column_in, column_of, column_place, place_in, table_fault, table_names, table_of}
use Rattle.iso_sql.specs.Rows.{stored_fault, stored_row}
use Rattle.iso_sql.specs.Sound.{columns_of, is_short}
use Rattle.iso_sql.proofs.SoundFacts.{at_none, columns_are, least_none}
use Rattle.iso_script.specs.declared.words.IndexWords.{IndexWords}
use Rattle.iso_script.specs.Keyed.{crowd_fault, full_fault, has_key, has_this, has_twice, is_same_key, key_at, keys_fault, on_fault, own_indexes, own_rows, place_fault, repeats_key, repeats_keys, required_fault, row_fault, unknown_fault, values_fault}
use Rattle.iso_script.specs.Sound.{is_sound_index}
use Rattle.iso_script.proofs.Faultless.{all_well, and_left, and_right, false_true, is_false, or_left, or_right, unlimited}
use Rattle.iso_script.proofs.KeyLaws.{same_turned}
use Rattle.iso_script.proofs.RowLaws.{slice_get-grow}

-- ---- counts

-- at most so many stand in each place where one more comes to a place that was not full
pub few_more : {A : Type 0} (place : A → ℕ) (most : ℕ) (xs : List A) (x : A) → nat_le most (length (filter (λ y. place y == place x) xs)) ≡ false
    → ((n : ℕ) → length (filter (λ y. place y == n) xs) ≤ most) → (n : ℕ) → length (filter (λ y. place y == n) (xs ++ x ∷ [])) ≤ most
few_more {A} place most xs x room h n = go (place x == n) refl
  where
    count : length (filter (λ y. place y == n) (xs ++ x ∷ [])) ≡ length (filter (λ y. place y == n) xs) + length (cond (place x == n) (x ∷ []) [])
    count = ap length (filter-append (λ y. place y == n) xs (x ∷ [])) ∙ length-append (filter (λ y. place y == n) xs) (filter (λ y. place y == n) (x ∷ []))

    go : (b : Bool) → (place x == n) ≡ b → length (filter (λ y. place y == n) (xs ++ x ∷ [])) ≤ most
    go true is =
        let there : length (filter (λ y. place y == place x) xs) < most = leb-false most (length (filter (λ y. place y == place x) xs)) room in
        let here : length (filter (λ y. place y == n) xs) < most = subst (λ m. length (filter (λ y. place y == m) xs) < most) (eqb-true (place x) n is) there in
        let one : length (cond (place x == n) (x ∷ []) []) ≡ 1 = ap (λ b. length (cond b (x ∷ []) [])) is in
        omega (arith, count, one, here)
    go false is =
        let none : length (cond (place x == n) (x ∷ []) []) ≡ 0 = ap (λ b. length (cond b (x ∷ []) [])) is in
        let before = h n in
        omega (arith, count, none, before)

-- at most 65,536 rows of a table where one more comes to a table that was not full
pub rows-below : (head : Head) (f : FirstRow) → nat_le 65536 (length (own_rows f.table head.rows)) ≡ false → ((t : TableId) → length (own_rows t head.rows) ≤ 65536)
    → (t : TableId) → length (own_rows t (head.rows ++ f ∷ [])) ≤ 65536
rows-below head f room h t = few_more (λ (g : FirstRow). g.table.0) 65536 head.rows f room (λ n. h (record { 0 = n })) t.0

-- ---- the parts of an index that is sound

abbrev on_required : Head → IndexDef → Bool
on_required head d = option_map_or (λ (c : Column). c.required) (slice_get (columns_of head d.table) d.column) false

abbrev keys_differ : List FirstRow → IndexDef → Bool
keys_differ rows d = not (d.unique && has_twice d.table d.column rows)

-- ---- a table more

column-grow : (head : Head) (d : TableDef) (t : TableId) (place : ℕ) → option_map_or (λ (c : Column). c.required) (slice_get (columns_of head t) place) false ≡ true
    → option_map_or (λ (c : Column). c.required) (slice_get (columns_of (record head { tables = head.tables ++ d ∷ [] }) t) place) false ≡ true
column-grow head d t place e = go (slice_get head.tables t.0) refl e
  where
    over : Option TableDef → Bool
    over o = option_map_or (λ (c : Column). c.required) (slice_get (option_map_or (λ (d : TableDef). d.columns) o []) place) false

    go : (o : Option TableDef) → slice_get head.tables t.0 ≡ o → over o ≡ true → over (slice_get (head.tables ++ d ∷ []) t.0) ≡ true
    go (Some c) is q = ap over (slice_get-grow head.tables (d ∷ []) t.0 c is) ∙ q
    go None is q = absurd (false_true q)

pub grown-indexes : (head : Head) (d : TableDef) (ds : List IndexDef) → list_all (is_sound_index head) ds ≡ true → list_all (is_sound_index (record head { tables = head.tables ++ d ∷ [] })) ds ≡ true
grown-indexes head d [] e = refl
grown-indexes head d (i ∷ ds) e =
    let own : (is_short i.name && (on_required head i && keys_differ head.rows i)) ≡ true = and_left (is_sound_index head i) (list_all (is_sound_index head) ds) e in
    let parts = and_right (is_short i.name) (on_required head i && keys_differ head.rows i) own in
    and_from _ _ (and_from _ _ (and_left (is_short i.name) (on_required head i && keys_differ head.rows i) own)
    (and_from _ _ (column-grow head d i.table i.column (and_left (on_required head i) (keys_differ head.rows i) parts)) (and_right (on_required head i) (keys_differ head.rows i) parts)))
    (grown-indexes head d ds (and_right (is_sound_index head i) (list_all (is_sound_index head) ds) e))

-- ---- a row more

and_nothing : (a : Bool) → (a && false) ≡ false
and_nothing true = refl
and_nothing false = refl

-- two rows, one of which has the other's key
no_pair : (f k g s r j : Bool) → s ≡ r → (f && k) ≡ false → (g && ((f && r) || j)) ≡ false → (f && (k || ((g && s) || false))) ≡ false
no_pair false k g s r j e a b = refl
no_pair true true g s r j e a b = absurd cc
no_pair true false false s r j e a b = refl
no_pair true false true true r j e a b = absurd cc
no_pair true false true false r j e a b = refl

no_later : (g a j : Bool) → (g && (a || j)) ≡ false → (g && j) ≡ false
no_later false a j e = refl
no_later true true j e = absurd cc
no_later true false j e = e

-- no key stands twice where a row comes whose key none has
twice-snoc : (t : TableId) (column : ℕ) (fs : List FirstRow) (g : FirstRow) → has_twice t column fs ≡ false → (table_eq g.table t && has_key t column (key_at column g.row) fs) ≡ false
    → has_twice t column (fs ++ g ∷ []) ≡ false
twice-snoc t column [] g e h = ap (λ v. v || false) (and_nothing (table_eq g.table t))
twice-snoc t column (f ∷ fs) g e h =
    let here = or_left (table_eq f.table t && has_key t column (key_at column f.row) fs) (has_twice t column fs) e in
    let later = twice-snoc t column fs g (or_right (table_eq f.table t && has_key t column (key_at column f.row) fs) (has_twice t column fs) e)
    (no_later (table_eq g.table t) (has_this t column (key_at column g.row) f) (has_key t column (key_at column g.row) fs) h) in
    let own = no_pair (table_eq f.table t) (has_key t column (key_at column f.row) fs) (table_eq g.table t) (is_same_key (key_at column f.row) (key_at column g.row))
    (is_same_key (key_at column g.row) (key_at column f.row)) (has_key t column (key_at column g.row) fs) (same_turned (key_at column f.row) (key_at column g.row)) here h in
    ap (λ v. (table_eq f.table t && v) || has_twice t column (fs ++ g ∷ [])) (list_any-append (has_this t column (key_at column f.row)) fs (g ∷ []))
    ∙ ap (λ v. v || has_twice t column (fs ++ g ∷ [])) own
    ∙ later

turned : (m n : ℕ) (p : ℕ → Bool) → ((m == n) && p n) ≡ false → ((n == m) && p m) ≡ false
turned m n p e = go (n == m) refl
  where
    go : (b : Bool) → (n == m) ≡ b → (b && p m) ≡ false
    go false is = refl
    go true is =
        let same : n ≡ m = eqb-true n m is in
        let one : (m == m) ≡ true = subst (λ z. (z == m) ≡ true) same is in
        ap (λ b. b && p m) (sym one) ∙ subst (λ z. ((m == z) && p z) ≡ false) same e

keys-snoc : (rows : List FirstRow) (f : FirstRow) (d : IndexDef) → keys_differ rows d ≡ true → repeats_key rows f.table f.row d ≡ false → keys_differ (rows ++ f ∷ []) d ≡ true
keys-snoc rows f d e h = go d.unique e h
  where
    fresh : (table_eq d.table f.table && has_key f.table d.column (key_at d.column f.row) rows) ≡ false → (table_eq f.table d.table && has_key d.table d.column (key_at d.column f.row) rows) ≡ false
    fresh = turned d.table.0 f.table.0 (λ n. has_key (record { 0 = n }) d.column (key_at d.column f.row) rows)

    go : (u : Bool) → not (u && has_twice d.table d.column rows) ≡ true → (u && (table_eq d.table f.table && has_key f.table d.column (key_at d.column f.row) rows)) ≡ false
        → not (u && has_twice d.table d.column (rows ++ f ∷ [])) ≡ true
    go false p q = refl
    go true p q = ap not (twice-snoc d.table d.column rows f (is_false (has_twice d.table d.column rows) p) (fresh q))

pub rowed-indexes : (head : Head) (f : FirstRow) (ds : List IndexDef) → list_all (is_sound_index head) ds ≡ true → list_any (repeats_key head.rows f.table f.row) ds ≡ false
    → list_all (is_sound_index (record head { rows = head.rows ++ f ∷ [] })) ds ≡ true
rowed-indexes head f [] e h = refl
rowed-indexes head f (i ∷ ds) e h =
    let own : (is_short i.name && (on_required head i && keys_differ head.rows i)) ≡ true = and_left (is_sound_index head i) (list_all (is_sound_index head) ds) e in
    let parts = and_right (is_short i.name) (on_required head i && keys_differ head.rows i) own in
    and_from _ _ (and_from _ _ (and_left (is_short i.name) (on_required head i && keys_differ head.rows i) own)
    (and_from _ _ (and_left (on_required head i) (keys_differ head.rows i) parts)
    (keys-snoc head.rows f i (and_right (on_required head i) (keys_differ head.rows i) parts) (or_left (repeats_key head.rows f.table f.row i) (list_any (repeats_key head.rows f.table f.row) ds) h))))
    (rowed-indexes head f ds (and_right (is_sound_index head i) (list_all (is_sound_index head) ds) e) (or_right (repeats_key head.rows f.table f.row i) (list_any (repeats_key head.rows f.table f.row) ds) h))

-- a row without a fault repeats no key, and its table has room for it
pub row-keyed : (head : Head) (line : List ℕ) (first t : Token) (vs : List Token) (close : Token) → row_fault head (table_names head line t) first t (table_of head line t) vs close ≡ None
    → (list_any (repeats_key head.rows (table_of head line t) (stored_row line vs)) head.indexes ≡ false) × (nat_le 65536 (length (own_rows (table_of head line t) head.rows)) ≡ false)
unfolding table_names repeats_keys full_fault
row-keyed head line first t vs close e = go (table_names head line t).known e
  where
    here : TableId
    here = table_of head line t

    go : (b : Bool) → cond b (values_fault head line first here (table_names head line t).columns vs close) (at t Unknown) ≡ None
        → (list_any (repeats_key head.rows here (stored_row line vs)) head.indexes ≡ false) × (nat_le 65536 (length (own_rows here head.rows)) ≡ false)
    go true q =
        let a = least_none (unless (not (repeats_keys head here (stored_row line vs))) first Duplicate) _ q in
        let b = least_none (full_fault head here) (stored_fault true line (table_names head line t).columns vs close) a.1 in
        (is_false _ (all_well (not (repeats_keys head here (stored_row line vs))) first Duplicate a.0), (unlimited (nat_le 65536 (length (own_rows here head.rows))) None b.0).0)
    go false q = at_none t Unknown q

-- ---- an index more

-- what an INDEX line without a fault has: a required column, keys that differ where it is unique, and room for it
pub record IsPlaced (head : Head) (line : List ℕ) (w : IndexWords) : Type 0 where
  pub required : option_map_or (λ (c : Column). c.required) (slice_get (columns_of head (table_of head line w.table)) (place_in (column_place (table_names head line w.table) w.column))) false ≡ true
  pub keys : not (w.unique && has_twice (table_of head line w.table) (place_in (column_place (table_names head line w.table) w.column)) head.rows) ≡ true
  pub all : nat_le 32 (length head.indexes) ≡ false
  pub own : nat_le 4 (length (own_indexes (table_of head line w.table) head.indexes)) ≡ false

column-required : (head : Head) (w : IndexWords) (t : TableId) (names : Names) (o : Option ℕ) → keys_fault head w t o ≡ None → required_fault (column_in names o) w.column ≡ None
    → (option_map_or (λ (c : Column). c.required) (slice_get names.columns (place_in o)) false ≡ true) × (not (w.unique && has_twice t (place_in o) head.rows) ≡ true)
column-required head w t names None k r = at_none w.column Unknown r
column-required head w t names (Some place) k r = (go (slice_get names.columns place) r, all_well (not (w.unique && has_twice t place head.rows)) w.first Duplicate k)
  where
    go : (o : Option Column) → required_fault o w.column ≡ None → option_map_or (λ (c : Column). c.required) o false ≡ true
    go None e = at_none w.column Unknown e
    go (Some d) e = all_well d.required w.column TypeFault e

pub index-placed : (head : Head) (line : List ℕ) (w : IndexWords) → place_fault head w (table_of head line w.table) (table_names head line w.table) ≡ None → IsPlaced head line w
unfolding crowd_fault column_of table_fault unless
index-placed head line w e = go (table_names head line w.table).known refl e
  where
    here : TableId
    here = table_of head line w.table

    names : Names
    names = table_names head line w.table

    go : (b : Bool) → (table_names head line w.table).known ≡ b → cond b (on_fault head w here names) (unknown_fault head w.table) ≡ None → IsPlaced head line w
    go true is q =
        let a = least_none (keys_fault head w here (column_place names w.column)) _ q in
        let b = least_none (crowd_fault head here) (required_fault (column_of names w.column) w.column) a.1 in
        let room = (unlimited (nat_le 32 (length head.indexes) || nat_le 4 (length (own_indexes here head.indexes))) None b.0).0 in
        let c = column-required head w here names (column_place names w.column) a.0 b.1 in
        let columns = columns_are head line w.table (ap (λ v. unless v w.table Unknown) is) in
        record {
          required = ap (λ (ds : List Column). option_map_or (λ (c : Column). c.required) (slice_get ds (place_in (column_place names w.column))) false) columns ∙ c.0;
          keys = c.1;
          all = or_left (nat_le 32 (length head.indexes)) (nat_le 4 (length (own_indexes here head.indexes))) room;
          own = or_right (nat_le 32 (length head.indexes)) (nat_le 4 (length (own_indexes here head.indexes))) room;
        }
    go false is q = at_none w.table Unknown (least_none _ (at w.table Unknown) q).1
