-- A sound statement before its first entry.
use Rattle.std.proofs.Common.{◌≡◌, ℕ, Bool, true, false, ◌&&◌, List, [], ◌∷◌, refl, sym, subst, Option, Some, None, arith, length, find, option_map, if◌then◌else◌}
use Rattle.std.proofs.lemmas.Bool.{and_parts, eq-eqb, le-leb, lt-ltb}
use Rattle.std.specs.List.{list_all}
use Rattle.std.specs.Option.{option_map_or}
use Rattle.std.specs.Prelude.{◌==◌, nat_le, nat_lt, slice_get}
use Rattle.iso_agent.specs.Scans.{IsSoundPoint, is_scanned, is_walk, is_within}
use Rattle.iso_conduct.proofs.Needs.{AllNeed, Locked}
use Rattle.iso_conduct.proofs.NeedsBegin.{begin-needs}
use Rattle.iso_conduct.specs.Conduct.{is_line_of, statement_at, statement_in, statement_on}
use Rattle.iso_conduct.specs.Courses.{haul_size}
use Rattle.iso_conduct.specs.Parts.{Part, Walk, change_list, change_want, guards_keys, key_column, level_in, listed, new_row, replies, select_list, select_want}
use Rattle.iso_conduct.specs.Parts.Part.{Answer, IndexScan, NewRow, Refuses, TableScan}
use Rattle.iso_conduct.specs.Points.{first_haul, start_point}
use Rattle.iso_history.specs.Versions.{slots}
use Rattle.iso_history.specs.World.{Setting, World}
use Rattle.iso_history.specs.Writes.{minus}
use Rattle.iso_history.specs.declared.entry.Want.{Want}
use Rattle.iso_predicate.specs.Assigned.{has_null}
use Rattle.iso_predicate.specs.Plan.{plan_of}
use Rattle.iso_predicate.specs.declared.plans.Path.{Path}
use Rattle.iso_script.specs.Sound.{IsSoundHead, is_sound_line, is_sound_what}
use Rattle.iso_script.specs.declared.script.Line.{Line}
use Rattle.iso_script.specs.declared.script.What.{What}
use Rattle.iso_sql.specs.Sound.{columns_of, is_sound_statement}
use Rattle.iso_sql.specs.declared.statement.Items2.TheVariants.{All, Columns, Count}
use Rattle.iso_sql.specs.declared.statement.Statement.{Statement}
use Rattle.iso_sql.specs.declared.statement.Statement.TheVariants as st
use Rattle.iso_standing.proofs.Slotted.{index-at}
use Rattle.iso_types.specs.Head.{table_of_index}
use Rattle.iso_types.specs.Ids.{table_eq}
use Rattle.iso_types.specs.declared.head.Head.{Head}
use Rattle.iso_types.specs.declared.head.IndexDef.{IndexDef}
use Rattle.iso_types.specs.declared.head.Isolation.{Isolation}
use Rattle.iso_types.specs.declared.head.Range.{Range}
use Rattle.iso_types.specs.declared.value.Conn.{Conn}
use Rattle.iso_types.specs.declared.value.IndexId.{IndexId}
use Rattle.iso_types.specs.declared.value.TableId.{TableId}
use Rattle.iso_types.specs.declared.value.Value.{Value}

-- ---- the statement of a sound line

some-is : {A : Type 0} (a b : A) → Some a ≡ Some b → a ≡ b
some-is a b h = cc

pub found-all : {A : Type 0} (p q : A → Bool) (xs : List A) (x : A) → list_all q xs ≡ true → find p xs ≡ Some x → q x ≡ true
found-all p q [] x all e = absurd (cc)
found-all p q (y ∷ ys) x all e = go (p y) (found-all p q ys x (and_parts (q y) (list_all q ys) all).1) e
  where
    go : (b : Bool) → (find p ys ≡ Some x → q x ≡ true) → (if b then Some y else find p ys) ≡ Some x → q x ≡ true
    go true ih h = subst (λ z. q z ≡ true) (some-is y x h) (and_parts (q y) (list_all q ys) all).0
    go false ih h = ih h

sound-what : (head : Head) (o : Option Conn) (what : What) (free : Bool) (s : Statement) → is_sound_what head o what free ≡ true
    → statement_in what ≡ Some s → is_sound_statement head s ≡ true
sound-what head (Some c) (What.Statement x) free s sound e =
    let same : x ≡ s = cc in subst (λ z. is_sound_statement head z ≡ true) same (and_parts _ _ sound).1
sound-what head None (What.Statement x) free s sound e = absurd (cc)
sound-what head o What.Expire free s sound e = absurd (cc)
sound-what head o What.Snapshot free s sound e = absurd (cc)

sound-on : (head : Head) (c : Conn) (o : Option Line) (s : Statement) → ((l : Line) → o ≡ Some l → is_sound_line head l ≡ true)
    → statement_on c o ≡ Some s → is_sound_statement head s ≡ true
sound-on head c None s sound e = absurd (cc)
sound-on head c (Some l) s sound e = go (is_line_of c l) e
  where
    go : (b : Bool) → (if b then statement_in l.what else None) ≡ Some s → is_sound_statement head s ≡ true
    go true h = sound-what head l.conn l.what l.free s (sound l refl) h
    go false h = absurd (cc)

pub statement-sound : (head : Head) (lines : List Line) (c : Conn) (line : Option ℕ) (s : Statement) → list_all (is_sound_line head) lines ≡ true
    → statement_at lines c line ≡ Some s → is_sound_statement head s ≡ true
statement-sound head lines c None s sound e = absurd (cc)
statement-sound head lines c (Some n) s sound e =
    sound-on head c (find (λ l. l.number == n) lines) s (λ l is. found-all (λ l. l.number == n) (is_sound_line head) lines l sound is) e

-- ---- its parts

same-table : (t : TableId) → table_eq t t ≡ true
same-table t = eq-eqb t.0 t.0 refl

module _ (head : Head) (w : World) (good : IsSoundHead head) where
  abbrev Within : Statement → List Part → Type 0
  Within s ps = list_all (is_within head w s) ps ≡ true

  -- nothing is locked, and nothing need be
  abbrev NoLock : Locked
  NoLock u k = Unit {0}

  and-to : (a b : Bool) → a ≡ true → b ≡ true → (a && b) ≡ true
  and-to a b e f = rw (e, f) refl

  scan-within : (s : Statement) (t : TableId) (want : Want) (ps : List Part) → is_scanned s t ≡ true → Within s ps → Within s (TableScan t want 0 ∷ ps)
  scan-within s t want ps e rest =
      let a : nat_le 0 (slots w t) ≡ true = le-leb 0 (slots w t) (omega arith) in
      let b : nat_le 0 w.made ≡ true = le-leb 0 w.made (omega arith) in
      rw (e, a, b, rest) refl

  -- the keys of an index of the table are a column of it
  key-within : (i : IndexId) (t : TableId) → table_of_index head i ≡ Some t → nat_lt (key_column head i) (length (columns_of head t)) ≡ true
  key-within i t on = go (slice_get head.indexes i.0) refl on
    where
      go : (o : Option IndexDef) → slice_get head.indexes i.0 ≡ o → option_map (λ d. d.table) o ≡ Some t
          → nat_lt (option_map_or (λ (d : IndexDef). d.column) o 0) (length (columns_of head t)) ≡ true
      go None f h = absurd (cc)
      go (Some d) f h =
          let k : d.table ≡ t = cc in
          subst (λ z. nat_lt d.column (length (columns_of head z)) ≡ true) k
          (lt-ltb d.column (length (columns_of head d.table)) (index-at head i d good f).column)

  walk-within : (s : Statement) (k : Walk) (ps : List Part) → is_scanned s k.table ≡ true → table_of_index head k.index ≡ Some k.table
      → k.column ≡ key_column head k.index → Within s ps → Within s (IndexScan k None ∷ ps)
  walk-within s k ps e on column rest =
      let a : option_map_or (λ t. table_eq t k.table) (table_of_index head k.index) false ≡ true = rw on (same-table k.table) in
      let b : nat_lt k.column (length (columns_of head k.table)) ≡ true =
      subst (λ n. nat_lt n (length (columns_of head k.table)) ≡ true) (sym column) (key-within k.index k.table on) in
      and-to (is_walk head s k) (list_all (is_within head w s) ps) (and-to (is_scanned s k.table) _ e (and-to _ _ a b)) rest

  -- the scan by an index
  abbrev walk_by : TableId → Want → Isolation → IndexId → Range → Walk
  walk_by t want level i range =
      record { table = t; want = want; index = i; column = key_column head i; range = range; guarded = guards_keys level }

  select-within : (s : Statement) (t : TableId) (level : Isolation) (path : Path) → is_scanned s t ≡ true → AllNeed head NoLock (select_list head t level path)
      → Within s (select_list head t level path)
  select-within s t level Path.Table e n = scan-within s t (select_want head.config.cur_commit level) (Answer ∷ []) e refl
  select-within s t level (Path.Index i range) e n =
      walk-within s (walk_by t (select_want head.config.cur_commit level) level i range) (Answer ∷ []) e n.1.0.1 refl refl

  change-within : (s : Statement) (t : TableId) (level : Isolation) (path : Path) → is_scanned s t ≡ true → AllNeed head NoLock (change_list head t level path)
      → Within s (change_list head t level path)
  change-within s t level Path.Table e n = scan-within s t (change_want level) (Part.Changes t ∷ Answer ∷ []) e refl
  change-within s t level (Path.Index i range) e n =
      walk-within s (walk_by t (change_want level) level i range) (Part.Changes t ∷ Answer ∷ []) e n.1.0.1 refl refl

  insert-within : (s : Statement) (t : TableId) (row : List Value) → Within s (new_row head t row ∷ replies 1)
  insert-within s t row = go (has_null (columns_of head t) row)
    where
      go : (b : Bool) → Within s ((if b then Refuses (minus 407) else NewRow t row) ∷ replies 1)
      go true = refl
      go false = refl

  listed-within : (c : Conn) (set : Setting) (s : Statement) → AllNeed head NoLock (listed head c set s) → Within s (listed head c set s)
  listed-within c set (st.Select t items cond level) n =
      select-within (st.Select t items cond level) t (level_in set level) (plan_of head t cond) (same-table t) n
  listed-within c set (st.Update t sets cond level) n =
      change-within (st.Update t sets cond level) t (level_in set level) (plan_of head t cond) (same-table t) n
  listed-within c set (st.Delete t cond level) n =
      change-within (st.Delete t cond level) t (level_in set level) (plan_of head t cond) (same-table t) n
  listed-within c set (st.Insert t row) n = insert-within (st.Insert t row) t row
  listed-within c set (st.LockTable t mode) n = refl
  listed-within c set (st.Savepoint name) n = refl
  listed-within c set (st.RollbackTo name) n = refl
  listed-within c set st.Rollback n = refl
  listed-within c set st.Commit n = refl
  listed-within c set (st.SetIsolation level) n = refl
  listed-within c set (st.SetWait may_wait) n = refl

  first-none : (s : Statement) → haul_size (first_haul s) ≡ 0
  first-none (st.Select t All cond level) = refl
  first-none (st.Select t Count cond level) = refl
  first-none (st.Select t (Columns ks) cond level) = refl
  first-none (st.Update t sets cond level) = refl
  first-none (st.Delete t cond level) = refl
  first-none (st.Insert t row) = refl
  first-none (st.LockTable t mode) = refl
  first-none (st.Savepoint name) = refl
  first-none (st.RollbackTo name) = refl
  first-none st.Rollback = refl
  first-none st.Commit = refl
  first-none (st.SetIsolation level) = refl
  first-none (st.SetWait may_wait) = refl

  pub start-sound : (c : Conn) (set : Setting) (floor : ℕ) (s : Statement) → is_sound_statement head s ≡ true
      → IsSoundPoint head w (start_point head c set floor s)
  start-sound c set floor s sound = record {
    sound = sound;
    columns = refl;
    within = listed-within c set s (begin-needs head NoLock c set s sound);
    few = omega (arith, first-none s);
  }
