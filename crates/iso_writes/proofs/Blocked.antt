-- What blocks a write may be asked for, and is for a blocked write; what a write at the limit needs is few.
use Rattle.std.proofs.Common.{◌≡◌, ◌≤◌, ◌<◌, ◌+◌, ℕ, zero, suc, Bool, true, false, not, ◌||◌, if◌then◌else◌, List, [], ◌∷◌, length, map, refl, ap, sym, subst, ◌∙◌, arith, Some, None, Option, option_map, filter, find, count_by}
use Rattle.std.specs.Prelude.{nat_le, nat_lt, slice_get, slice_index_or}
use Rattle.std.specs.List.{list_all, list_any}
use Rattle.std.specs.Option.{option_map_or}
use Rattle.std.proofs.lemmas.Bool.{and_parts, lt-ltb}
use Rattle.iso_history.proofs.locks.Finds.{count-here, count-past, filter-here, filter-past}
use Rattle.iso_history.proofs.locks.Inherits.{is_index_of}
use Rattle.iso_history.proofs.locks.Lists.{any-found}
use Rattle.iso_history.proofs.locks.Modes.{at_least-table}
use Rattle.iso_history.proofs.locks.Same.{table_is, value_same}
use Rattle.iso_history.proofs.whole.Pressed.{pressed-by}
use Rattle.iso_history.proofs.whole.PressedWrites.{insert-needs, update-needs}
use Rattle.iso_history.specs.Entries.{entries_of, guard, has_key, key_name}
use Rattle.iso_history.specs.Holds.{is_inherited}
use Rattle.iso_history.specs.Records.{is_past_log}
use Rattle.iso_history.specs.Requests.{is_limited, is_pressed, is_row_mode, may_ask, table_mode}
use Rattle.iso_history.specs.Units.{unit_of}
use Rattle.iso_history.specs.Versions.{is_changed_beside, is_pending_beside, next_rid, slot_list, slots, view}
use Rattle.iso_history.specs.World.{Version, World}
use Rattle.iso_history.specs.Writes.{Written, inserts, is_block, is_new_key, is_refusal, judged_guard, judged_index, judged_indexes, judged_key, judged_log, judged_need, judged_rivals, judged_unique, key_need, may_write, minus, or_else, rivals, row_need, updates, view_has}
use Rattle.iso_history.specs.Writes.Written.{AtLimit, Blocks, Done, IsFull, Refuses}
use Rattle.iso_modes.specs.Modes.{at_least, mode_eq, mode_number}
use Rattle.iso_modes.specs.declared.Mode.{Mode}
use Rattle.iso_modes.specs.declared.Mode.TheVariants.{Ix, Ns, Nw, S, X}
use Rattle.iso_queue.specs.Locks.{held, holds_at_least, is_covered, others_guard}
use Rattle.iso_types.specs.Head.{indexes, indexes_of, is_index, is_unique, key_in, table_of_index}
use Rattle.iso_types.specs.Ids.{table_eq}
use Rattle.iso_types.specs.Value.{value_eq, value_lt}
use Rattle.iso_types.specs.declared.head.Head.{Head}
use Rattle.iso_types.specs.declared.value.Conn.{Conn}
use Rattle.iso_types.specs.declared.value.IndexId.{IndexId}
use Rattle.iso_types.specs.declared.value.Name.{Name}
use Rattle.iso_types.specs.declared.value.Name.TheVariants.{End, Key, Row, Table}
use Rattle.iso_types.specs.declared.value.Rid.{Rid}
use Rattle.iso_types.specs.declared.value.TableId.{TableId}
use Rattle.iso_types.specs.declared.value.Value.{Value}

-- ---- lists, tests and modes

or-right : (a b : Bool) → b ≡ true → (a || b) ≡ true
or-right true b e = refl
or-right false b e = e

all-kept : {A : Type 0} (p : A → Bool) (xs : List A) → list_all p (filter p xs) ≡ true
all-kept p [] = refl
all-kept p (x ∷ xs) = go (p x) refl (all-kept p xs)
  where
    go : (b : Bool) → p x ≡ b → list_all p (filter p xs) ≡ true → list_all p (filter p (x ∷ xs)) ≡ true
    go true e ih = rw (e, e) ih
    go false e ih = rw e ih

-- what is got stands within
got-within : {A : Type 0} (xs : List A) (k : ℕ) (x : A) → slice_get xs k ≡ Some x → k < length xs
got-within [] k x e = cc
got-within (y ∷ ys) zero x e = omega arith
got-within (y ∷ ys) (suc k) x e = let lt = got-within ys k x e in omega arith

some-mapped : {A B : Type 0} (f : A → B) (o : Option A) (y : B) → option_map f o ≡ Some y → (x : A) × (o ≡ Some x)
some-mapped f None y e = cc
some-mapped f (Some x) y e = (x, refl)

-- a slot with a version of another unit is there
slot-there : (u : ℕ) (xs : List (List Version)) (k : ℕ) → is_pending_beside u (slice_index_or xs k []) ≡ true → k < length xs
slot-there u [] k e = cc
slot-there u (x ∷ xs) zero e = omega arith
slot-there u (x ∷ xs) (suc k) e = let lt = slot-there u xs k e in omega arith

-- who holds its table in IX or more has enough of it
module _ (head : Head) (w : World) (c : Conn) (t : TableId) (may : may_write w c t ≡ true) where
  enough : (m : Mode) → holds_at_least w.holds c (Table t) (table_mode m) ≡ true
  enough m = go (held w.holds c (Table t)) may
    where
      go : (o : Option Mode) → option_map_or (λ a. at_least a Ix) o false ≡ true → option_map_or (λ a. at_least a (table_mode m)) o false ≡ true
      go None e = cc
      go (Some a) e = at_least-table a m e

  -- the Lock may be asked, and is for a blocked write
  abbrev pub MayBlock : Name → Mode → Type 0
  MayBlock n m = (may_ask head w c n m ≡ true) × (is_block head w c n m ≡ true)

  row-blocks : (r : Rid) → is_changed_beside w c t r ≡ true → list_any (is_unique head) (indexes_of head t) ≡ true → MayBlock (Row t r) Ns
  unfolding is_row_mode mode_eq mode_number
  row-blocks r beside unique =
      let there : nat_lt r.0 (slots w t) ≡ true = lt-ltb r.0 (slots w t) (slot-there (unit_of w c) (slot_list w t) r.0 beside) in
      let back : (is_covered head w.holds c (Row t r) Ns || holds_at_least w.holds c (Table t) (table_mode Ns)) ≡ true =
      or-right (is_covered head w.holds c (Row t r) Ns) _ (enough Ns) in
      (rw (there, back) refl, rw (beside, unique) refl)

  index-of : (i : IndexId) → is_index_of head t i ≡ true → table_of_index head i ≡ Some t
  index-of i e = go (table_of_index head i) refl
    where
      go : (o : Option TableId) → table_of_index head i ≡ o → table_of_index head i ≡ Some t
      go None f = let g : option_map_or (λ u. table_eq u t) None false ≡ true = rw f at e in cc
      go (Some u) f = let g : table_eq u t ≡ true = rw f at e in f ∙ ap Some (table_is u t g)

  index-there : (i : IndexId) → table_of_index head i ≡ Some t → is_index head i ≡ true
  index-there i e =
      let d = some-mapped (λ d. d.table) (slice_get head.indexes i.0) t e in
      lt-ltb i.0 (length head.indexes) (got-within head.indexes i.0 d.0 d.1)

  backed-key : (i : IndexId) → table_of_index head i ≡ Some t → (n : Name) → option_map_or (λ u. holds_at_least w.holds c (Table u) (table_mode Nw)) (table_of_index head i) true ≡ true
  backed-key i of n = rw of (enough Nw)

  guard-blocks : (i : IndexId) (v : Value) → is_index_of head t i ≡ true → others_guard w.holds c (guard w i v) ≡ true → MayBlock (guard w i v) Nw
  unfolding is_row_mode mode_eq mode_number
  guard-blocks i v e others = go (find (λ p. not (value_lt p.0 v)) (entries_of w i)) refl others
    where
      go : (o : Option (Value × Rid)) → find (λ p. not (value_lt p.0 v)) (entries_of w i) ≡ o → others_guard w.holds c (key_name i o) ≡ true
          → MayBlock (key_name i o) Nw
      go None f h =
          let there = index-there i (index-of i e) in
          let back = or-right (is_covered head w.holds c (End i) Nw) _ (backed-key i (index-of i e) (End i)) in
          (rw (there, back) refl, rw h refl)
      go (Some p) f h =
          let there : has_key w i p.0 ≡ true = any-found (λ q. not (value_lt q.0 v)) (λ q. value_eq q.0 p.0) (entries_of w i) p f (value_same p.0) in
          let back = or-right (is_covered head w.holds c (Key i p.0) Nw) _ (backed-key i (index-of i e) (Key i p.0)) in
          (rw (there, back) refl, rw h refl)

  -- ---- what comes of a write

  -- what comes of a row with a slot: it is never full, a refusal is one, and the Lock of a blocked write may stand
  abbrev pub Fits : Written → Type 0
  Fits Done = Unit {0}
  Fits IsFull = ⊥
  Fits (Refuses code) = is_refusal head w c code ≡ true
  Fits (Blocks n m) = MayBlock n m
  Fits AtLimit = Unit {0}

  or-fits : (a b : Written) → Fits a → Fits b → Fits (or_else a b)
  or-fits Done b f g = g
  or-fits IsFull b f g = f
  or-fits (Refuses code) b f g = f
  or-fits (Blocks n m) b f g = f
  or-fits AtLimit b f g = tt

  rivals-fit : (i : IndexId) (ps : List (Value × Rid)) → list_any (is_unique head) (indexes_of head t) ≡ true → Fits (judged_rivals head w c t i ps)
  rivals-fit i [] unique = tt
  rivals-fit i (p ∷ ps) unique = go (is_changed_beside w c t p.1) refl (view_has head w c t i p.0 p.1) (rivals-fit i ps unique)
    where
      go : (a : Bool) → is_changed_beside w c t p.1 ≡ a → (b : Bool) → Fits (judged_rivals head w c t i ps)
          → Fits (if a then Blocks (Row t p.1) Ns else if b then Refuses (minus 803) else judged_rivals head w c t i ps)
      go true k b ih = row-blocks p.1 k unique
      go false k true ih = refl
      go false k false ih = ih

  guard-fits : (i : IndexId) (v : Value) → is_index_of head t i ≡ true → Fits (judged_guard w c i v)
  guard-fits i v of = go (others_guard w.holds c (guard w i v)) refl
    where
      go : (b : Bool) → others_guard w.holds c (guard w i v) ≡ b → Fits (if b then Blocks (guard w i v) Nw else Done)
      go true k = guard-blocks i v of k
      go false k = tt

  -- where the list has a unique index, the table has one
  abbrev Among : List IndexId → Type 0
  Among is = list_any (is_unique head) is ≡ true → list_any (is_unique head) (indexes_of head t) ≡ true

  unique-fits : (i : IndexId) (is : List IndexId) (v : Value) (r : Rid) → Among (i ∷ is) → Fits (judged_unique head w c t i v r)
  unique-fits i is v r among = go (is_unique head i) refl
    where
      go : (b : Bool) → is_unique head i ≡ b → Fits (if b then judged_rivals head w c t i (rivals w i v r) else Done)
      go true k = rivals-fit i (rivals w i v r) (among (rw k refl))
      go false k = tt

  indexes-fit : (r : Rid) (old : Option (List Value)) (row : List Value) (is : List IndexId) → list_all (is_index_of head t) is ≡ true → Among is
      → Fits (judged_indexes head w c t r old row is)
  indexes-fit r old row [] all among = tt
  indexes-fit r old row (i ∷ is) all among =
      let own = and_parts _ _ all in
      or-fits (judged_index head w c t r old row i) (judged_indexes head w c t r old row is) (one own.0 (is_new_key head i old row))
      (indexes-fit r old row is own.1 (λ k. among (or-right (is_unique head i) _ k)))
    where
      one : is_index_of head t i ≡ true → (b : Bool) → Fits (if b then judged_key head w c t r i (key_in head i row) else Done)
      one of true =
          or-fits (judged_unique head w c t i (key_in head i row) r) (judged_guard w c i (key_in head i row))
          (unique-fits i is (key_in head i row) r among) (guard-fits i (key_in head i row) of)
      one of false = tt

  keys-fit : (r : Rid) (old : Option (List Value)) (row : List Value) → Fits (judged_indexes head w c t r old row (indexes_of head t))
  keys-fit r old row = indexes-fit r old row (indexes_of head t) (all-kept (is_index_of head t) (indexes head)) (λ k. k)

  rest-fits : (k : ℕ) → Fits (or_else (judged_need head w c k) (judged_log head w))
  rest-fits k = or-fits (judged_need head w c k) (judged_log head w) (need (is_limited head w c k)) (logged (is_past_log head w) refl)
    where
      need : (b : Bool) → Fits (if b then AtLimit else Done)
      need true = tt
      need false = tt

      logged : (b : Bool) → is_past_log head w ≡ b → Fits (if b then Refuses (minus 964) else Done)
      logged true e = e
      logged false e = tt

  -- what comes of each
  insert-rest : (row : List Value) → Fits (or_else (judged_indexes head w c t (next_rid w t) None row (indexes_of head t))
      (or_else (judged_need head w c (row_need head w c t (next_rid w t) + key_need head w c t row)) (judged_log head w)))
  insert-rest row =
      or-fits (judged_indexes head w c t (next_rid w t) None row (indexes_of head t)) _ (keys-fit (next_rid w t) None row)
      (rest-fits (row_need head w c t (next_rid w t) + key_need head w c t row))

  update-fits : (r : Rid) (row : List Value) → Fits (updates head w c t r row)
  update-fits r row =
      or-fits (judged_indexes head w c t r (view w c t r) row (indexes_of head t)) _ (keys-fit r (view w c t r) row)
      (rest-fits (key_need head w c t row))

  insert-fits : (row : List Value) (o : Written) → (o ≡ IsFull → ⊥) → inserts head w c t row ≡ o → Fits o
  insert-fits row o some e = go (nat_le 65536 (slots w t)) (or_else (judged_indexes head w c t (next_rid w t) None row (indexes_of head t))
      (or_else (judged_need head w c (row_need head w c t (next_rid w t) + key_need head w c t row)) (judged_log head w))) (insert-rest row) e
    where
      go : (b : Bool) (x : Written) → Fits x → or_else (if b then IsFull else Done) x ≡ o → Fits o
      go true x f h = absurd (some (sym h))
      go false x f h = subst (λ (y : Written). Fits y) h f

  pub insert-blocked : (row : List Value) (n : Name) (m : Mode) → inserts head w c t row ≡ Blocks n m → MayBlock n m
  insert-blocked row n m e = insert-fits row (Blocks n m) (λ h. cc h) e

  pub insert-past : (row : List Value) → inserts head w c t row ≡ Refuses (minus 964) → is_past_log head w ≡ true
  insert-past row e = insert-fits row (Refuses (minus 964)) (λ h. cc h) e

  pub update-past : (r : Rid) (row : List Value) → updates head w c t r row ≡ Refuses (minus 964) → is_past_log head w ≡ true
  update-past r row e = subst (λ (o : Written). Fits o) e (update-fits r row)

  pub update-blocked : (r : Rid) (row : List Value) (n : Name) (m : Mode) → updates head w c t r row ≡ Blocks n m → MayBlock n m
  update-blocked r row n m e = subst (λ (o : Written). Fits o) e (update-fits r row)

  pub update-not-full : (r : Rid) (row : List Value) → updates head w c t r row ≡ IsFull → ⊥
  update-not-full r row e = subst (λ (o : Written). Fits o) e (update-fits r row)

-- ---- at the limit the connection is pressed, where a table has at most four indexes
module _ (head : Head) (w : World) (c : Conn) (t : TableId) (row : List Value) where
  counted : (ns : List Name) → count_by (λ n. not (is_covered head w.holds c n S)) ns ≤ length ns
  counted [] = omega arith
  counted (n ∷ ns) = one (is_covered head w.holds c n S) refl (counted ns)
    where
      one : (b : Bool) → is_covered head w.holds c n S ≡ b → count_by (λ n. not (is_covered head w.holds c n S)) ns ≤ length ns
          → count_by (λ n. not (is_covered head w.holds c n S)) (n ∷ ns) ≤ length (n ∷ ns)
      one true k ih = omega (arith, ih, count-past (λ n. not (is_covered head w.holds c n S)) n ns (ap not k))
      one false k ih = omega (arith, ih, count-here (λ n. not (is_covered head w.holds c n S)) n ns (ap not k))

  names : (q : IndexId → Bool) (is : List IndexId) → length (map (λ i. Key i (key_in head i row)) (filter q is)) ≤ length is
  names q [] = omega arith
  names q (i ∷ is) = one (q i) refl (names q is)
    where
      one : (b : Bool) → q i ≡ b → length (map (λ i. Key i (key_in head i row)) (filter q is)) ≤ length is
          → length (map (λ i. Key i (key_in head i row)) (filter q (i ∷ is))) ≤ length (i ∷ is)
      one true k ih = rw (filter-here q i is k) (omega (arith, ih))
      one false k ih = rw (filter-past q i is k) (omega (arith, ih))

  few-keys : key_need head w c t row ≤ length (indexes_of head t)
  few-keys =
      let a = counted (map (λ i. Key i (key_in head i row)) (filter (is_inherited head w c row) (indexes_of head t))) in
      let b = names (is_inherited head w c row) (indexes_of head t) in
      omega (arith, a, b)

  pub insert-pressed : length (indexes_of head t) ≤ 4 → inserts head w c t row ≡ AtLimit → is_pressed head w c ≡ true
  insert-pressed few e =
      let one = at_most (is_covered head w.holds c (Row t (next_rid w t)) X) in
      pressed-by head w c (row_need head w c t (next_rid w t) + key_need head w c t row) (insert-needs head w c t row e) (omega (arith, one, few-keys, few))
    where
      at_most : (b : Bool) → (if b then 0 else 1) ≤ 1
      at_most true = omega arith
      at_most false = omega arith

  pub update-pressed : (r : Rid) → length (indexes_of head t) ≤ 4 → updates head w c t r row ≡ AtLimit → is_pressed head w c ≡ true
  update-pressed r few e = pressed-by head w c (key_need head w c t row) (update-needs head w c t r row e) (omega (arith, few-keys, few))
