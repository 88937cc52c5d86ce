-- The set of keys has what the rows have.
use Rattle.std.proofs.Common.{◌≡◌, ◌&&◌, ◌||◌, ◌∙◌, ℕ, Bool, true, false, cond, List, [], ◌∷◌, ◌++◌, length, ◌≤◌, ◌-◌, take, drop, Ok, Err, refl, sym, ap, subst, arith}
use Rattle.std.specs.Cmp.{int_eq_equiv, nat_eq_equiv}
use Rattle.std.specs.Cmp.Lexicographic.{nat_list_eq_equiv}
use Rattle.std.specs.List.{list_any}
use Rattle.std.specs.Prelude.{OnOk, nat_eq, slice_index_or}
use Rattle.std.specs.declared.result.Result.{Result}
use Rattle.std.proofs.lemmas.Bool.{eqb-true}
use Rattle.std.proofs.Math.Seq.{take-length}
use Rattle.std.proofs.lemmas.List.Folds.{list_any-append}
use Rattle.iso_types.specs.contracts.value.ValuePartialEq.TheImpl as values
use Rattle.iso_types.specs.Head.{is_null}
use Rattle.iso_types.specs.Ids.{table_eq}
use Rattle.iso_types.specs.Value.{value_eq}
use Rattle.iso_types.specs.declared.head.FirstRow.{FirstRow}
use Rattle.iso_types.specs.declared.head.Head.{Head}
use Rattle.iso_types.specs.declared.head.IndexDef.{IndexDef}
use Rattle.iso_types.specs.declared.value.TableId.{TableId}
use Rattle.iso_types.specs.declared.value.Value.{Value}
use Rattle.iso_types.specs.declared.value.Value.TheVariants.{Int, Null, Text}
use Rattle.iso_script.specs.declared.event.Event.{Event}
use Rattle.iso_script.specs.declared.event.Event.TheVariants as event
use Rattle.iso_script.specs.declared.reader.Reader.{Reader}
use Rattle.iso_script.specs.Advance.{advance}
use Rattle.iso_script.specs.Keyed.{has_key, has_this, has_twice, is_same_key, key_at, repeats_key, repeats_keys}
use Rattle.iso_script.specs.Kept.{HoldsKeys, finds_key, has_value, indexes_with, is_keyed, is_on, is_same_entry, is_that, rows_with}
use Rattle.iso_script.proofs.Faultless.{and_left, and_right}

-- the equality by which the set finds an entry
abbrev pub same : ℕ × ℕ × Value → ℕ × ℕ × Value → Bool
same a b = (nat_eq a.0 b.0 && nat_eq a.1 b.1) && values.ghosts.eq a.2 b.2

same_values : (v w : Value) → values.ghosts.eq v w ≡ value_eq v w
unfolding value_eq
same_values Null Null = refl
same_values Null (Int n) = refl
same_values Null (Text t) = refl
same_values (Int m) Null = refl
same_values (Int m) (Int n) = refl
same_values (Int m) (Text t) = refl
same_values (Text s) Null = refl
same_values (Text s) (Int n) = refl
same_values (Text s) (Text t) = refl

same_entries : (a b : ℕ × ℕ × Value) → same a b ≡ is_same_entry a b
same_entries a b = ap (λ (e : Bool). (nat_eq a.0 b.0 && nat_eq a.1 b.1) && e) (same_values a.2 b.2)

any_alike : (p q : ℕ × ℕ × Value → Bool) → ((k : ℕ × ℕ × Value) → p k ≡ q k) → (ks : List (ℕ × ℕ × Value)) → list_any p ks ≡ list_any q ks
any_alike p q h [] = refl
any_alike p q h (k ∷ ks) = ap (λ (b : Bool). b || list_any p ks) (h k) ∙ ap (λ (b : Bool). q k || b) (any_alike p q h ks)

-- what the set finds is what it has
pub value_found : (keys : List (ℕ × ℕ × Value)) (t : TableId) (column : ℕ) (v : Value) → list_any (same (t.0, column, v)) keys ≡ has_value keys t column v
value_found keys t column v = any_alike (same (t.0, column, v)) (is_same_entry (t.0, column, v)) (same_entries (t.0, column, v)) keys

-- a key of a value is that value, from either side
key_same : (x v : Value) → is_null x ≡ false → value_eq x v ≡ is_same_key v x
unfolding value_eq
key_same Null v e = absurd (cc)
key_same (Int m) Null e = refl
key_same (Int m) (Int n) e = int_eq_equiv.symm m n
key_same (Int m) (Text t) e = refl
key_same (Text s) Null e = refl
key_same (Text s) (Int n) e = refl
key_same (Text s) (Text t) e = nat_list_eq_equiv.symm s t

null_same : (x v : Value) → is_null x ≡ true → is_same_key v x ≡ false
unfolding value_eq
null_same Null Null e = refl
null_same Null (Int n) e = refl
null_same Null (Text t) e = refl
null_same (Int m) v e = absurd (cc)
null_same (Text s) v e = absurd (cc)

-- it is the same entry where it is that key
key_found : (table t : TableId) (place column : ℕ) (x v : Value) → is_null x ≡ false → same (table.0, place, x) (t.0, column, v) ≡ is_that table place x t column v
key_found table t place column x v e =
    same_entries (table.0, place, x) (t.0, column, v)
    ∙ ap (λ (b : Bool). (nat_eq table.0 t.0 && nat_eq place column) && b) (key_same x v e)
    ∙ regroup (nat_eq table.0 t.0) (nat_eq place column) (is_same_key v x)
  where
    regroup : (a b d : Bool) → ((a && b) && d) ≡ (a && (b && d))
    regroup true b d = refl
    regroup false b d = refl

or_else : (a b : Bool) → cond a true b ≡ (a || b)
or_else true b = refl
or_else false b = refl

-- the set with a value more
pub value_added : (old new : List (ℕ × ℕ × Value)) (table : TableId) (place : ℕ) (x : Value) → is_null x ≡ false
    → ((q : ℕ × ℕ × Value) → list_any (same q) new ≡ cond (same (table.0, place, x) q) true (list_any (same q) old))
    → (t : TableId) (column : ℕ) (v : Value) → has_value new t column v ≡ (is_that table place x t column v || has_value old t column v)
value_added old new table place x e h t column v =
    sym (value_found new t column v)
    ∙ h (t.0, column, v)
    ∙ ap (λ (b : Bool). cond (same (table.0, place, x) (t.0, column, v)) true b) (value_found old t column v)
    ∙ or_else (same (table.0, place, x) (t.0, column, v)) (has_value old t column v)
    ∙ ap (λ (b : Bool). b || has_value old t column v) (key_found table t place column x v e)

-- a NULL adds nothing
pub null_adds : (old : List (ℕ × ℕ × Value)) (table : TableId) (place : ℕ) (x : Value) → is_null x ≡ true
    → (t : TableId) (column : ℕ) (v : Value) → has_value old t column v ≡ (is_that table place x t column v || has_value old t column v)
null_adds old table place x e t column v = sym (ap (λ (b : Bool). b || has_value old t column v) (never (table_eq table t) (nat_eq place column) (is_same_key v x) (null_same x v e)))
  where
    never : (a b d : Bool) → d ≡ false → (a && (b && d)) ≡ false
    never true true d e = e
    never true false d e = refl
    never false b d e = refl

-- the key of a row of an index's table
own_key : (d : IndexDef) (f : FirstRow) → (d.unique && table_eq d.table f.table) ≡ true → (t : TableId) (column : ℕ) (v : Value)
    → is_that f.table d.column (key_at d.column f.row) t column v ≡ (is_on t column d && has_this t column v f)
own_key d f e t column v =
    regroup d.unique (table_eq d.table t) (table_eq f.table t) (nat_eq d.column column) (is_same_key v (key_at d.column f.row)) (is_same_key v (key_at column f.row))
    (and_left d.unique (table_eq d.table f.table) e) (nat_eq_equiv.congr d.table.0 f.table.0 t.0 (and_right d.unique (table_eq d.table f.table) e))
    (λ is. ap (λ (n : ℕ). is_same_key v (key_at n f.row)) (eqb-true d.column column is))
  where
    regroup : (u a b n k l : Bool) → u ≡ true → a ≡ b → (n ≡ true → k ≡ l) → (b && (n && k)) ≡ ((u && (a && n)) && (b && l))
    regroup true true true true k l e f g = g refl
    regroup true true true false k l e f g = refl
    regroup true false false n k l e f g = refl
    regroup true true false n k l e f g = absurd (cc)
    regroup true false true n k l e f g = absurd (cc)
    regroup false a b n k l e f g = absurd (cc)

-- the set with the key of a row under an index
pub key_added : (old new : List (ℕ × ℕ × Value)) (d : IndexDef) (f : FirstRow) (key : Value) → (d.unique && table_eq d.table f.table) ≡ true → key ≡ key_at d.column f.row
    → ((t : TableId) (column : ℕ) (v : Value) → has_value new t column v ≡ (is_that f.table d.column key t column v || has_value old t column v))
    → (t : TableId) (column : ℕ) (v : Value) → has_value new t column v ≡ ((is_on t column d && has_this t column v f) || has_value old t column v)
key_added old new d f key e is h t column v =
    h t column v
    ∙ ap (λ (x : Value). is_that f.table d.column x t column v || has_value old t column v) is
    ∙ ap (λ (b : Bool). b || has_value old t column v) (own_key d f e t column v)

-- an index that is not unique, or another table's, adds nothing
pub key_past : (old : List (ℕ × ℕ × Value)) (d : IndexDef) (f : FirstRow) → (d.unique && table_eq d.table f.table) ≡ false
    → (t : TableId) (column : ℕ) (v : Value) → has_value old t column v ≡ ((is_on t column d && has_this t column v f) || has_value old t column v)
key_past old d f e t column v =
    sym (ap (λ (b : Bool). b || has_value old t column v)
    (none d.unique (table_eq d.table t) (table_eq f.table t) (nat_eq d.column column) (table_eq d.table f.table) (is_same_key v (key_at column f.row)) e
    (λ is. nat_eq_equiv.symm f.table.0 t.0 ∙ sym (nat_eq_equiv.congr d.table.0 t.0 f.table.0 is))))
  where
    nothing : (n k : Bool) → (n && (false && k)) ≡ false
    nothing true k = refl
    nothing false k = refl

    none : (u a b n s k : Bool) → (u && s) ≡ false → (a ≡ true → b ≡ s) → ((u && (a && n)) && (b && k)) ≡ false
    none false a b n s k e g = refl
    none true false b n s k e g = refl
    none true true b n s k e g = ap (λ (x : Bool). n && (x && k)) (g refl ∙ e) ∙ nothing n k

-- one index on
pub index_on : (old new : List (ℕ × ℕ × Value)) (f : FirstRow) (d : IndexDef) (ds : List IndexDef)
    → ((t : TableId) (column : ℕ) (v : Value) → has_value new t column v ≡ ((is_on t column d && has_this t column v f) || has_value old t column v))
    → 1 ≤ length ds → d ≡ slice_index_or ds 0 d → (t : TableId) (column : ℕ) (v : Value)
    → ((is_keyed (take (length ds - 1) (drop 1 ds)) t column && has_this t column v f) || has_value new t column v) ≡ ((is_keyed ds t column && has_this t column v f) || has_value old t column v)
index_on old new f d [] h long is t column v = absurd (omega (arith, long))
index_on old new f d (e ∷ es) h long is t column v =
    let one : length (e ∷ es) - 1 ≡ length es = omega arith in
    ap (λ (ds : List IndexDef). (is_keyed ds t column && has_this t column v f) || has_value new t column v) (ap (λ (n : ℕ). take n es) one ∙ take-length es)
    ∙ ap (λ (b : Bool). (is_keyed es t column && has_this t column v f) || b) (h t column v)
    ∙ ap (λ (x : IndexDef). (is_keyed es t column && has_this t column v f) || ((is_on t column x && has_this t column v f) || has_value old t column v)) is
    ∙ moved (is_on t column e) (is_keyed es t column) (has_this t column v f) (has_value old t column v)
  where
    moved : (a b h o : Bool) → ((b && h) || ((a && h) || o)) ≡ (((a || b) && h) || o)
    moved true true true o = refl
    moved true true false o = refl
    moved true false h o = refl
    moved false true true o = refl
    moved false true false o = refl
    moved false false h o = refl

-- one row on
pub row_on : (old new : List (ℕ × ℕ × Value)) (d : IndexDef) (f : FirstRow) (fs : List FirstRow)
    → ((t : TableId) (column : ℕ) (v : Value) → has_value new t column v ≡ ((is_on t column d && has_this t column v f) || has_value old t column v))
    → 1 ≤ length fs → f ≡ slice_index_or fs 0 f → (t : TableId) (column : ℕ) (v : Value)
    → ((is_on t column d && has_key t column v (take (length fs - 1) (drop 1 fs))) || has_value new t column v) ≡ ((is_on t column d && has_key t column v fs) || has_value old t column v)
row_on old new d f [] h long is t column v = absurd (omega (arith, long))
row_on old new d f (g ∷ gs) h long is t column v =
    let one : length (g ∷ gs) - 1 ≡ length gs = omega arith in
    ap (λ (fs : List FirstRow). (is_on t column d && has_key t column v fs) || has_value new t column v) (ap (λ (n : ℕ). take n gs) one ∙ take-length gs)
    ∙ ap (λ (b : Bool). (is_on t column d && has_key t column v gs) || b) (h t column v)
    ∙ ap (λ (x : FirstRow). (is_on t column d && has_key t column v gs) || ((is_on t column d && has_this t column v x) || has_value old t column v)) is
    ∙ moved (is_on t column d) (has_this t column v g) (has_key t column v gs) (has_value old t column v)
  where
    moved : (a h k o : Bool) → ((a && k) || ((a && h) || o)) ≡ ((a && (h || k)) || o)
    moved true true true o = refl
    moved true true false o = refl
    moved true false k o = refl
    moved false h k o = refl

-- a row more
pub row_held : (old new : List (ℕ × ℕ × Value)) (f : FirstRow) (indexes : List IndexDef) (rows : List FirstRow)
    → ((t : TableId) (column : ℕ) (v : Value) → has_value new t column v ≡ ((is_keyed indexes t column && has_this t column v f) || has_value old t column v))
    → HoldsKeys old indexes rows → HoldsKeys new indexes (rows ++ f ∷ [])
unfolding HoldsKeys
row_held old new f indexes rows h k t column v =
    h t column v
    ∙ ap (λ (b : Bool). (is_keyed indexes t column && has_this t column v f) || b) (k t column v)
    ∙ turned (is_keyed indexes t column) (has_this t column v f) (has_key t column v rows)
    ∙ ap (λ (b : Bool). is_keyed indexes t column && b) (sym (list_any-append (has_this t column v) rows (f ∷ [])))
  where
    turned : (i a b : Bool) → ((i && a) || (i && b)) ≡ (i && (b || (a || false)))
    turned true true true = refl
    turned true true false = refl
    turned true false true = refl
    turned true false false = refl
    turned false a b = refl

-- an index more
pub index_held : (old new : List (ℕ × ℕ × Value)) (d : IndexDef) (indexes : List IndexDef) (rows : List FirstRow)
    → ((t : TableId) (column : ℕ) (v : Value) → has_value new t column v ≡ ((is_on t column d && has_key t column v rows) || has_value old t column v))
    → HoldsKeys old indexes rows → HoldsKeys new (indexes ++ d ∷ []) rows
unfolding HoldsKeys
index_held old new d indexes rows h k t column v =
    h t column v
    ∙ ap (λ (b : Bool). (is_on t column d && has_key t column v rows) || b) (k t column v)
    ∙ turned (is_on t column d) (is_keyed indexes t column) (has_key t column v rows)
    ∙ ap (λ (b : Bool). b && has_key t column v rows) (sym (list_any-append (is_on t column) indexes (d ∷ [])))
  where
    turned : (a i k : Bool) → ((a && k) || (i && k)) ≡ ((i || (a || false)) && k)
    turned true true true = refl
    turned true true false = refl
    turned true false true = refl
    turned true false false = refl
    turned false true k = refl
    turned false false k = refl

-- before the first row
pub none_held : (keys : List (ℕ × ℕ × Value)) → keys ≡ [] → HoldsKeys keys [] []
unfolding HoldsKeys
none_held keys e t column v = ap (list_any (is_same_entry (t.0, column, v))) e

-- the keys behind an event
event_held : (s : Reader) (n : ℕ) (e : Event) (keys : List (ℕ × ℕ × Value)) → HoldsKeys keys (indexes_with e s.script.head.indexes) (rows_with e s.script.head.rows)
    → HoldsKeys keys (advance s n e).script.head.indexes (advance s n e).script.head.rows
event_held s n event.First keys h = h
event_held s n (event.Config x) keys h = h
event_held s n (event.Table d) keys h = h
event_held s n (event.Index d) keys h = h
event_held s n (event.Row f) keys h = h
event_held s n (event.Connect d) keys h = h
event_held s n event.Begin keys h = h
event_held s n (event.Asked c free w) keys h = h
event_held s n event.End keys h = h

-- the same, by what the code knows
pub stays_held : (s t : Reader) (n : ℕ) (e : Event) (keys : List (ℕ × ℕ × Value)) → HoldsKeys keys (indexes_with e s.script.head.indexes) (rows_with e s.script.head.rows) → t ≡ advance s n e
    → HoldsKeys keys t.script.head.indexes t.script.head.rows
stays_held s t n e keys h step = subst (λ (z : Reader). HoldsKeys keys z.script.head.indexes z.script.head.rows) (sym step) (event_held s n e keys h)

-- under these indexes, all of which the set has the keys of, a row's key is in the set where a row has it
found_among : (keys : List (ℕ × ℕ × Value)) (rows : List FirstRow) (t : TableId) (row : List Value) (indexes : List IndexDef) → HoldsKeys keys indexes rows
    → (ds : List IndexDef) → ((u : TableId) (column : ℕ) → is_keyed ds u column ≡ true → is_keyed indexes u column ≡ true)
    → list_any (finds_key keys t row) ds ≡ list_any (repeats_key rows t row) ds
unfolding HoldsKeys
found_among keys rows t row indexes k [] m = refl
found_among keys rows t row indexes k (d ∷ ds) m =
    ap (λ (b : Bool). b || list_any (finds_key keys t row) ds)
    (alike d.unique (table_eq d.table t) (nat_eq d.column d.column) (is_keyed ds t d.column) (is_keyed indexes t d.column) (has_value keys t d.column (key_at d.column row))
    (has_key t d.column (key_at d.column row) rows) (nat_eq_equiv.refl d.column) (k t d.column (key_at d.column row)) (m t d.column))
    ∙ ap (λ (b : Bool). repeats_key rows t row d || b) (found_among keys rows t row indexes k ds (λ u column e. m u column (or_too (is_on u column d) (is_keyed ds u column) e)))
  where
    or_too : (a b : Bool) → b ≡ true → (a || b) ≡ true
    or_too true b e = refl
    or_too false b e = e

    alike : (u a n i j h k : Bool) → n ≡ true → h ≡ (j && k) → (((u && (a && n)) || i) ≡ true → j ≡ true) → (u && (a && h)) ≡ (u && (a && k))
    alike false a n i j h k e f g = refl
    alike true false n i j h k e f g = refl
    alike true true n i j h k e f g = f ∙ ap (λ (b : Bool). b && k) (g (ap (λ (b : Bool). b || i) e))

pub keys_found : (keys : List (ℕ × ℕ × Value)) (head : Head) (t : TableId) (row : List Value) → HoldsKeys keys head.indexes head.rows
    → list_any (finds_key keys t row) head.indexes ≡ repeats_keys head t row
unfolding repeats_keys
keys_found keys head t row k = found_among keys head.rows t row head.indexes k head.indexes (λ u column e. e)

-- what holds of a result that is Ok
pub on_ok : {T E P Q : Type 0} (r : Result T E) → (P → Q) → OnOk r P → OnOk r Q
on_ok (Ok x) f p = f p
on_ok (Err e) f p = p

-- ---- keys that stand twice

pub same_turned : (v w : Value) → is_same_key v w ≡ is_same_key w v
unfolding value_eq
same_turned Null Null = refl
same_turned Null (Int n) = refl
same_turned Null (Text t) = refl
same_turned (Int m) Null = refl
same_turned (Int m) (Int n) = int_eq_equiv.symm m n
same_turned (Int m) (Text t) = refl
same_turned (Text s) Null = refl
same_turned (Text s) (Int n) = refl
same_turned (Text s) (Text t) = nat_list_eq_equiv.symm s t

-- the row is of this table, and the set has its key
abbrev pub is_seen : List (ℕ × ℕ × Value) → TableId → ℕ → FirstRow → Bool
is_seen seen t column f = table_eq f.table t && has_value seen t column (key_at column f.row)

-- a row whose key was seen, or two of these rows with one key
abbrev pub comes_twice : List (ℕ × ℕ × Value) → TableId → ℕ → List FirstRow → Bool
comes_twice seen t column rows = list_any (is_seen seen t column) rows || has_twice t column rows

any_either : (p q r : FirstRow → Bool) → ((f : FirstRow) → p f ≡ (q f || r f)) → (fs : List FirstRow) → list_any p fs ≡ (list_any q fs || list_any r fs)
any_either p q r h [] = refl
any_either p q r h (f ∷ fs) = ap (λ (b : Bool). b || list_any p fs) (h f) ∙ ap (λ (b : Bool). (q f || r f) || b) (any_either p q r h fs) ∙ apart (q f) (r f) (list_any q fs) (list_any r fs)
  where
    apart : (a b d e : Bool) → ((a || b) || (d || e)) ≡ ((a || d) || (b || e))
    apart true b d e = refl
    apart false true true e = refl
    apart false true false e = refl
    apart false false d e = refl

-- a row is seen later where it was, or has the key that is new
seen_more : (seen new : List (ℕ × ℕ × Value)) (table : TableId) (place : ℕ) (x : Value)
    → ((t : TableId) (column : ℕ) (v : Value) → has_value new t column v ≡ (is_that table place x t column v || has_value seen t column v))
    → (g : FirstRow) → is_seen new table place g ≡ (has_this table place x g || is_seen seen table place g)
seen_more seen new table place x h g =
    ap (λ (b : Bool). table_eq g.table table && b)
    (h table place (key_at place g.row)
    ∙ ap (λ (b : Bool). b || has_value seen table place (key_at place g.row))
    (here (nat_eq table.0 table.0) (nat_eq place place) (is_same_key (key_at place g.row) x) (nat_eq_equiv.refl table.0) (nat_eq_equiv.refl place) ∙ same_turned (key_at place g.row) x))
    ∙ shared (table_eq g.table table) (is_same_key x (key_at place g.row)) (has_value seen table place (key_at place g.row))
  where
    here : (a b d : Bool) → a ≡ true → b ≡ true → (a && (b && d)) ≡ d
    here true true d e f = refl
    here true false d e f = absurd (cc)
    here false b d e f = absurd (cc)

    shared : (a b d : Bool) → (a && (b || d)) ≡ ((a && b) || (a && d))
    shared true b d = refl
    shared false b d = refl

-- one row on
pub twice_on : (seen new : List (ℕ × ℕ × Value)) (table : TableId) (place : ℕ) (f : FirstRow) (fs : List FirstRow)
    → table_eq f.table table ≡ true → has_value seen table place (key_at place f.row) ≡ false
    → ((t : TableId) (column : ℕ) (v : Value) → has_value new t column v ≡ (is_that table place (key_at place f.row) t column v || has_value seen t column v))
    → comes_twice new table place fs ≡ comes_twice seen table place (f ∷ fs)
twice_on seen new table place f fs own free h =
    ap (λ (b : Bool). b || has_twice table place fs)
    (any_either (is_seen new table place) (has_this table place (key_at place f.row)) (is_seen seen table place) (seen_more seen new table place (key_at place f.row) h) fs)
    ∙ regroup (table_eq f.table table) (has_value seen table place (key_at place f.row)) (has_key table place (key_at place f.row) fs) (list_any (is_seen seen table place) fs) (has_twice table place fs) own free
  where
    regroup : (o s k a t : Bool) → o ≡ true → s ≡ false → ((k || a) || t) ≡ (((o && s) || a) || ((o && k) || t))
    regroup true false true true t e f = refl
    regroup true false true false t e f = refl
    regroup true false false true t e f = refl
    regroup true false false false t e f = refl
    regroup true true k a t e f = absurd (cc)
    regroup false s k a t e f = absurd (cc)

-- a row of another table changes nothing
pub twice_past : (seen : List (ℕ × ℕ × Value)) (table : TableId) (place : ℕ) (f : FirstRow) (fs : List FirstRow) → table_eq f.table table ≡ false → comes_twice seen table place fs ≡ comes_twice seen table place (f ∷ fs)
twice_past seen table place f fs other =
    go (table_eq f.table table) (has_value seen table place (key_at place f.row)) (has_key table place (key_at place f.row) fs) (list_any (is_seen seen table place) fs) (has_twice table place fs) other
  where
    go : (o s k a t : Bool) → o ≡ false → (a || t) ≡ (((o && s) || a) || ((o && k) || t))
    go false s k a t e = refl
    go true s k a t e = absurd (cc)

-- a row that was seen
pub twice_here : (seen : List (ℕ × ℕ × Value)) (table : TableId) (place : ℕ) (f : FirstRow) (fs : List FirstRow)
    → table_eq f.table table ≡ true → has_value seen table place (key_at place f.row) ≡ true → comes_twice seen table place (f ∷ fs) ≡ true
twice_here seen table place f fs own is = go (table_eq f.table table) (has_value seen table place (key_at place f.row)) (list_any (is_seen seen table place) fs) (has_twice table place (f ∷ fs)) own is
  where
    go : (o s a t : Bool) → o ≡ true → s ≡ true → (((o && s) || a) || t) ≡ true
    go true true a t e f = refl
    go true false a t e f = absurd (cc)
    go false s a t e f = absurd (cc)

-- before the first row
pub twice_start : (seen : List (ℕ × ℕ × Value)) (table : TableId) (place : ℕ) (rows : List FirstRow) → seen ≡ [] → comes_twice seen table place rows ≡ has_twice table place rows
twice_start seen table place rows e = ap (λ (b : Bool). b || has_twice table place rows) (none rows)
  where
    unseen : (o s : Bool) → s ≡ false → (o && s) ≡ false
    unseen true s f = f
    unseen false s f = refl

    none : (fs : List FirstRow) → list_any (is_seen seen table place) fs ≡ false
    none [] = refl
    none (f ∷ fs) = ap (λ (b : Bool). b || list_any (is_seen seen table place) fs) (unseen (table_eq f.table table) (has_value seen table place (key_at place f.row)) (ap (list_any (is_same_entry (table.0, place, key_at place f.row))) e)) ∙ none fs

-- the same, by what the code knows
pub twice_next : (seen new : List (ℕ × ℕ × Value)) (table : TableId) (place : ℕ) (f : FirstRow) (rows : List FirstRow) (key : Value)
    → f.table.0 ≡ table.0 → key ≡ key_at place f.row → has_value seen table place key ≡ false
    → ((t : TableId) (column : ℕ) (v : Value) → has_value new t column v ≡ (is_that table place key t column v || has_value seen t column v))
    → 1 ≤ length rows → f ≡ slice_index_or rows 0 f
    → comes_twice new table place (take (length rows - 1) (drop 1 rows)) ≡ comes_twice seen table place rows
twice_next seen new table place f [] key own named free h long is = absurd (omega (arith, long))
twice_next seen new table place f (g ∷ gs) key own named free h long is =
    let named_here : key ≡ key_at place g.row = named ∙ ap (λ (x : FirstRow). key_at place x.row) is in
    let one : length (g ∷ gs) - 1 ≡ length gs = omega arith in
    ap (λ (n : ℕ). comes_twice new table place (take n gs)) one
    ∙ ap (comes_twice new table place) (take-length gs)
    ∙ twice_on seen new table place g gs (ap (λ (x : FirstRow). table_eq x.table table) (sym is) ∙ ap (λ (n : ℕ). nat_eq n table.0) own ∙ nat_eq_equiv.refl table.0) (ap (has_value seen table place) (sym named_here) ∙ free)
    (λ t column v. h t column v ∙ ap (λ (x : Value). is_that table place x t column v || has_value seen t column v) named_here)
