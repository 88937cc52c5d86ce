-- At a lock limit a write has its entry: an Insert asks for a row and at most four keys, an Update for the keys, a Delete for nothing.
use Rattle.std.proofs.Common.{◌≡◌, ◌≤◌, ◌+◌, ◌⊎◌, inl, inr, ℕ, Bool, true, false, not, if◌then◌else◌, List, [], ◌∷◌, map, length, suc, option_map, refl, ap, sym, ◌∙◌, arith, None, Option, filter, count_by}
use Rattle.std.specs.Prelude.{nat_le, slice_get}
use Rattle.std.specs.List.{range_with_len}
use Rattle.std.specs.Option.{option_map_or}
use Rattle.iso_types.specs.Ids.{table_eq}
use Rattle.iso_history.proofs.locks.Same.{the_index}
use Rattle.iso_history.proofs.locks.Finds.{count-here, count-past, filter-here, filter-past}
use Rattle.iso_history.proofs.whole.Pressed.{limit-stands, no-need}
use Rattle.iso_history.specs.Facts.{IsSound}
use Rattle.iso_history.specs.Holds.{is_inherited}
use Rattle.iso_history.specs.Legal.{ByAgent, Runs}
use Rattle.iso_history.specs.Outcomes.{at_limit}
use Rattle.iso_history.specs.Records.{is_past_log}
use Rattle.iso_history.specs.Requests.{is_limited}
use Rattle.iso_history.specs.Shares.{SharesHold}
use Rattle.iso_history.specs.Entries.{guard}
use Rattle.iso_history.specs.Versions.{is_changed_beside, next_rid, slots, view}
use Rattle.iso_history.specs.World.{World}
use Rattle.iso_history.specs.Writes.{Written, deletes, inserts, is_new_key, judged_guard, judged_index, judged_indexes, judged_key, judged_log, judged_need, judged_rivals, judged_room, judged_unique, key_need, minus, or_else, rivals, row_need, updates, view_has}
use Rattle.iso_history.specs.Writes.Written.{AtLimit, Blocks, Done, IsFull, Refuses}
use Rattle.iso_modes.specs.declared.Mode.TheVariants.{Ns, Nw, S, X}
use Rattle.iso_queue.specs.Locks.{is_covered, others_guard}
use Rattle.iso_types.specs.Head.{table_of_index, indexes_of, is_unique, key_in}
use Rattle.iso_types.specs.declared.head.Head.{Head}
use Rattle.iso_types.specs.declared.head.IndexDef.{IndexDef}
use Rattle.iso_types.specs.declared.value.Conn.{Conn}
use Rattle.iso_types.specs.declared.value.IndexId.{IndexId}
use Rattle.iso_types.specs.declared.value.Name.{Name}
use Rattle.iso_types.specs.declared.value.Name.TheVariants.{Key, Row}
use Rattle.iso_types.specs.declared.value.Rid.{Rid}
use Rattle.iso_types.specs.declared.value.TableId.{TableId}
use Rattle.iso_types.specs.declared.value.Value.{Value}

-- the first of two is at the limit, or the second
either-limit : (a b : Written) → or_else a b ≡ AtLimit → (a ≡ AtLimit) ⊎ (b ≡ AtLimit)
either-limit Done b e = inr e
either-limit IsFull b e = inl e
either-limit (Refuses code) b e = inl e
either-limit (Blocks n m) b e = inl e
either-limit AtLimit b e = inl e

-- neither is, where one of them never is
second-limit : (a b : Written) → (a ≡ AtLimit → ⊥) → or_else a b ≡ AtLimit → b ≡ AtLimit
second-limit a b never e = go (either-limit a b e)
  where
    go : (a ≡ AtLimit) ⊎ (b ≡ AtLimit) → b ≡ AtLimit
    go (inl h) = absurd (never h)
    go (inr h) = h

first-limit : (a b : Written) → (b ≡ AtLimit → ⊥) → or_else a b ≡ AtLimit → a ≡ AtLimit
first-limit a b never e = go (either-limit a b e)
  where
    go : (a ≡ AtLimit) ⊎ (b ≡ AtLimit) → a ≡ AtLimit
    go (inl h) = h
    go (inr h) = absurd (never h)

module _ (head : Head) (w : World) (c : Conn) where
  room-never : (t : TableId) → judged_room w t ≡ AtLimit → ⊥
  room-never t e = go (nat_le 65536 (slots w t)) e
    where
      go : (b : Bool) → (if b then IsFull else Done) ≡ AtLimit → ⊥
      go true h = cc
      go false h = cc

  log-never : judged_log head w ≡ AtLimit → ⊥
  log-never e = go (is_past_log head w) e
    where
      go : (b : Bool) → (if b then Refuses (minus 964) else Done) ≡ AtLimit → ⊥
      go true h = cc
      go false h = cc

  need-limit : (k : ℕ) → judged_need head w c k ≡ AtLimit → is_limited head w c k ≡ true
  need-limit k e = go (is_limited head w c k) e
    where
      go : (b : Bool) → (if b then AtLimit else Done) ≡ AtLimit → b ≡ true
      go true h = refl
      go false h = cc

  guard-never : (i : IndexId) (v : Value) → judged_guard w c i v ≡ AtLimit → ⊥
  guard-never i v e = go (others_guard w.holds c (guard w i v)) e
    where
      go : (b : Bool) → (if b then Blocks (guard w i v) Nw else Done) ≡ AtLimit → ⊥
      go true h = cc
      go false h = cc

  rivals-never : (t : TableId) (i : IndexId) (ps : List (Value × Rid)) → judged_rivals head w c t i ps ≡ AtLimit → ⊥
  rivals-never t i [] e = cc
  rivals-never t i (p ∷ ps) e = go (is_changed_beside w c t p.1) (view_has head w c t i p.0 p.1) (rivals-never t i ps) e
    where
      go : (a b : Bool) → (judged_rivals head w c t i ps ≡ AtLimit → ⊥)
          → (if a then Blocks (Row t p.1) Ns else if b then Refuses (minus 803) else judged_rivals head w c t i ps) ≡ AtLimit → ⊥
      go true b ih h = cc
      go false true ih h = cc
      go false false ih h = ih h

  unique-never : (t : TableId) (i : IndexId) (v : Value) (r : Rid) → judged_unique head w c t i v r ≡ AtLimit → ⊥
  unique-never t i v r e = go (is_unique head i) e
    where
      go : (b : Bool) → (if b then judged_rivals head w c t i (rivals w i v r) else Done) ≡ AtLimit → ⊥
      go true h = rivals-never t i (rivals w i v r) h
      go false h = cc

  key-never : (t : TableId) (r : Rid) (i : IndexId) (v : Value) → judged_key head w c t r i v ≡ AtLimit → ⊥
  key-never t r i v e = guard-never i v (second-limit (judged_unique head w c t i v r) (judged_guard w c i v) (unique-never t i v r) e)

  index-never : (t : TableId) (r : Rid) (old : Option (List Value)) (row : List Value) (i : IndexId) → judged_index head w c t r old row i ≡ AtLimit → ⊥
  index-never t r old row i e = go (is_new_key head i old row) e
    where
      go : (b : Bool) → (if b then judged_key head w c t r i (key_in head i row) else Done) ≡ AtLimit → ⊥
      go true h = key-never t r i (key_in head i row) h
      go false h = cc

  indexes-never : (t : TableId) (r : Rid) (old : Option (List Value)) (row : List Value) (is : List IndexId)
      → judged_indexes head w c t r old row is ≡ AtLimit → ⊥
  indexes-never t r old row [] e = cc
  indexes-never t r old row (i ∷ is) e =
      indexes-never t r old row is
      (second-limit (judged_index head w c t r old row i) (judged_indexes head w c t r old row is) (index-never t r old row i) e)

  -- at most one key for each index
  few-keys : (t : TableId) (row : List Value) → key_need head w c t row ≤ length (indexes_of head t)
  few-keys t row = go (indexes_of head t)
    where
      key_of : IndexId → Name
      key_of i = Key i (key_in head i row)

      counted : (ns : List Name) → count_by (λ n. not (is_covered head w.holds c n S)) ns ≤ length ns
      counted [] = omega arith
      counted (n ∷ ns) = one (is_covered head w.holds c n S) refl (counted ns)
        where
          one : (b : Bool) → is_covered head w.holds c n S ≡ b → count_by (λ n. not (is_covered head w.holds c n S)) ns ≤ length ns
              → count_by (λ n. not (is_covered head w.holds c n S)) (n ∷ ns) ≤ length (n ∷ ns)
          one true k ih = omega (arith, ih, count-past (λ n. not (is_covered head w.holds c n S)) n ns (ap not k))
          one false k ih = omega (arith, ih, count-here (λ n. not (is_covered head w.holds c n S)) n ns (ap not k))

      names : (q : IndexId → Bool) (is : List IndexId) → length (map (λ i. Key i (key_in head i row)) (filter q is)) ≤ length is
      names q [] = omega arith
      names q (i ∷ is) = one (q i) refl (names q is)
        where
          one : (b : Bool) → q i ≡ b → length (map (λ i. Key i (key_in head i row)) (filter q is)) ≤ length is
              → length (map (λ i. Key i (key_in head i row)) (filter q (i ∷ is))) ≤ length (i ∷ is)
          one true k ih = rw (filter-here q i is k) (omega (arith, ih))
          one false k ih = rw (filter-past q i is k) (omega (arith, ih))

      go : (is : List IndexId)
          → count_by (λ n. not (is_covered head w.holds c n S)) (map (λ i. Key i (key_in head i row)) (filter (is_inherited head w c row) is)) ≤ length is
      go is =
          let a = counted (map (λ i. Key i (key_in head i row)) (filter (is_inherited head w c row) is)) in
          let b = names (is_inherited head w c row) is in
          omega (arith, a, b)

  row-one : (t : TableId) (r : Rid) → row_need head w c t r ≤ 1
  row-one t r = go (is_covered head w.holds c (Row t r) X)
    where
      go : (b : Bool) → (if b then 0 else 1) ≤ 1
      go true = omega arith
      go false = omega arith

  -- what a write at the limit needs
  pub insert-needs : (t : TableId) (row : List Value) → inserts head w c t row ≡ AtLimit
      → is_limited head w c (row_need head w c t (next_rid w t) + key_need head w c t row) ≡ true
  insert-needs t row e =
      need-limit (row_need head w c t (next_rid w t) + key_need head w c t row)
      (first-limit _ (judged_log head w) log-never
      (second-limit (judged_indexes head w c t (next_rid w t) None row (indexes_of head t)) _ (indexes-never t (next_rid w t) None row (indexes_of head t))
      (second-limit (judged_room w t) _ (room-never t) e)))

  pub update-needs : (t : TableId) (r : Rid) (row : List Value) → updates head w c t r row ≡ AtLimit
      → is_limited head w c (key_need head w c t row) ≡ true
  update-needs t r row e =
      need-limit (key_need head w c t row)
      (first-limit _ (judged_log head w) log-never
      (second-limit (judged_indexes head w c t r (view w c t r) row (indexes_of head t)) _ (indexes-never t r (view w c t r) row (indexes_of head t)) e))

  -- a Delete never is at the limit
  pub delete-never : SharesHold head w → deletes head w c ≡ AtLimit → ⊥
  delete-never s e = cc (sym (no-need head w c s) ∙ need-limit 0 (first-limit (judged_need head w c 0) (judged_log head w) log-never e))

  module _ (s : IsSound head w) (shares : SharesHold head w) (runs : Runs w c) (t : TableId) (few : length (indexes_of head t) ≤ 4) where
    pub insert-stands : (row : List Value) → inserts head w c t row ≡ AtLimit → ByAgent head w c (at_limit head w c)
    insert-stands row e =
        let keys = few-keys t row in
        let one = row-one t (next_rid w t) in
        limit-stands head w c s shares runs (row_need head w c t (next_rid w t) + key_need head w c t row) (insert-needs t row e)
        (omega (arith, few, keys, one))

    pub update-stands : (r : Rid) (row : List Value) → updates head w c t r row ≡ AtLimit → ByAgent head w c (at_limit head w c)
    update-stands r row e =
        let keys = few-keys t row in
        limit-stands head w c s shares runs (key_need head w c t row) (update-needs t r row e) (omega (arith, few, keys))

-- a table's indexes are as many as their declarations
pub indexes-declared : (head : Head) (t : TableId) → length (indexes_of head t) ≡ length (filter (λ d. table_eq d.table t) head.indexes)
indexes-declared head t = from head.indexes 0 first
  where
    of_table : IndexId → Bool
    of_table i = option_map_or (λ u. table_eq u t) (table_of_index head i) false

    numbered : ℕ → ℕ → List IndexId
    numbered a n = map (λ k. record { 0 = k }) (range_with_len a n)

    first : (k : ℕ) → slice_get head.indexes (0 + k) ≡ slice_get head.indexes k
    first k = let e : 0 + k ≡ k = omega arith in ap (slice_get head.indexes) e

    from : (ds : List IndexDef) (a : ℕ) → ((k : ℕ) → slice_get head.indexes (a + k) ≡ slice_get ds k)
        → length (filter of_table (numbered a (length ds))) ≡ length (filter (λ d. table_eq d.table t) ds)
    from [] a same = refl
    from (d ∷ ds) a same = go (table_eq d.table t) refl (from ds (a + 1) later)
      where
        later : (k : ℕ) → slice_get head.indexes (a + 1 + k) ≡ slice_get ds k
        later k = let e : a + 1 + k ≡ a + suc k = omega arith in ap (slice_get head.indexes) e ∙ same (suc k)

        here : of_table (the_index a) ≡ table_eq d.table t
        here =
            let e : a ≡ a + 0 = omega arith in
            ap (λ o. option_map_or (λ u. table_eq u t) (option_map (λ z. z.table) o) false) (ap (slice_get head.indexes) e ∙ same 0)

        go : (b : Bool) → table_eq d.table t ≡ b
            → length (filter of_table (numbered (a + 1) (length ds))) ≡ length (filter (λ z. table_eq z.table t) ds)
            → length (filter of_table (the_index a ∷ numbered (a + 1) (length ds))) ≡ length (filter (λ z. table_eq z.table t) (d ∷ ds))
        go true k ih =
            ap (λ (is : List IndexId). length is) (filter-here of_table (the_index a) (numbered (a + 1) (length ds)) (here ∙ k))
            ∙ ap (λ n. suc n) ih ∙ sym (ap (λ (zs : List IndexDef). length zs) (filter-here (λ z. table_eq z.table t) d ds k))
        go false k ih =
            ap (λ (is : List IndexId). length is) (filter-past of_table (the_index a) (numbered (a + 1) (length ds)) (here ∙ k))
            ∙ ih ∙ sym (ap (λ (zs : List IndexDef). length zs) (filter-past (λ z. table_eq z.table t) d ds k))
