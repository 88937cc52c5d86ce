-- The facts that the gaps rest on hold at the start, and so of every legal history.
use Rattle.std.proofs.Common.{◌≡◌, ◌<◌, ◌≤◌, ◌+◌, ℕ, zero, suc, Bool, true, false, List, [], ◌∷◌, length, map, refl, ap, sym, ◌∙◌, arith, subst, inl, inr, Some, None, Option, get_or}
use Rattle.std.specs.Option.{option_map_or}
use Rattle.std.specs.Prelude.{Contains, nat_lt}
use Rattle.std.proofs.lemmas.Bool.Decides.{nat_tests}
use Rattle.std.proofs.lemmas.List.{get_or-map, get_or_past}
use Rattle.std.proofs.lemmas.List.FromFn.{get_or-map-range_with_len, length-map-range_with_len}
use Rattle.std.proofs.lemmas.List.{length-map}
use Rattle.iso_history.proofs.phantoms.Members.{in-cases, in-none}
use Rattle.iso_history.proofs.phantoms.Tests.{both}
use Rattle.iso_history.proofs.phantoms.EntriesAfter.{ordered-after, read-map}
use Rattle.iso_history.proofs.phantoms.KeysAfter.{index-of-head, index-on-table}
use Rattle.iso_history.proofs.phantoms.KeysStay.{keys-after, piled-after}
use Rattle.iso_history.proofs.phantoms.Ordered.{ordered-with, with-has, with-new}
use Rattle.iso_history.proofs.phantoms.RangeAfter.{orderly-after}
use Rattle.iso_history.proofs.Snoc.{along}
use Rattle.iso_history.specs.After.{after, start, world, world_from}
use Rattle.iso_history.specs.Entries.{entries_of, with_rows}
use Rattle.iso_history.specs.Facts.{KeysStand}
use Rattle.iso_history.specs.Gaps.{IsFit, IsOrderly, is_plain}
use Rattle.iso_history.specs.Orders.{EntriesOrdered, IsOrdered, IsLayered, VersionsLogged, VersionsLayered, has_pair}
use Rattle.iso_history.specs.Legal.{Allowed, Ground, GroundFrom}
use Rattle.iso_history.specs.Scans.{are_plain}
use Rattle.iso_history.specs.Versions.{first_version, versions}
use Rattle.iso_history.specs.World.{Last, Version, World}
use Rattle.iso_history.specs.declared.entry.Entry.{Entry}
use Rattle.iso_modes.specs.declared.Mode.{Mode}
use Rattle.iso_types.specs.Head.{indexes, is_index, key_in, rows_of, table_of_index, tables}
use Rattle.iso_types.specs.declared.head.Head.{Head}
use Rattle.iso_types.specs.declared.value.IndexId.{IndexId}
use Rattle.iso_types.specs.declared.value.Rid.{Rid}
use Rattle.iso_types.specs.declared.value.TableId.{TableId}
use Rattle.iso_types.specs.declared.value.Value.{Value}

module _ (head : Head) where
  ordered-rows : (i : IndexId) (k : ℕ) (rows : List (List Value)) → IsOrdered (with_rows head i k rows)
  ordered-rows i k [] = tt
  ordered-rows i k (row ∷ rows) = ordered-with (key_in head i row, record { 0 = k }) (with_rows head i (k + 1) rows) (ordered-rows i (k + 1) rows)

  -- in order
  pub ordered-start : EntriesOrdered (start head)
  unfolding EntriesOrdered
  ordered-start i = read-map IsOrdered (λ i. with_rows head i 0 (option_map_or (rows_of head) (table_of_index head i) [])) []
      (λ i. ordered-rows i 0 (option_map_or (rows_of head) (table_of_index head i) [])) tt (indexes head) i.0

  -- what holds of each first version holds of each slot
  first-slots : (P : List Version → Type 0) → P [] → ((row : List Value) → P (first_version row)) → (t : TableId) (r : Rid) → P (versions (start head) t r)
  first-slots P z f t r = read-map (λ (slots : List (List Version)). (k : ℕ) → P (get_or slots k [])) (λ t. map first_version (rows_of head t)) []
      (λ t k. read-map P first_version [] f z (rows_of head t) k) (λ k. z) (tables head) t.0 r.0

  -- one committed version each
  pub piled-start : VersionsLayered (start head)
  unfolding VersionsLayered
  piled-start t r = first-slots IsLayered tt (λ row. (λ p. refl, tt)) t r

  -- none pending
  pub logged-start : VersionsLogged (start head)
  unfolding VersionsLogged
  logged-start t r v h p = absurd (off (first-slots (λ vs. (v : Version) → Contains vs v → v.pending ≡ false) (λ v h. absurd (in-none v h)) one t r v h))
    where
      off : v.pending ≡ false → ⊥
      off q = let z : true ≡ false = sym p ∙ q in cc

      one : (row : List Value) (v : Version) → Contains (first_version row) v → v.pending ≡ false
      one row v h = elim (in-cases (record { unit = 0; number = 0; row = Some row; pending = false }) v [] h) [
        | inl s ↦ ap (λ (x : Version). x.pending) s
        | inr s ↦ absurd (in-none v s)
      ]

  -- nothing is held or awaited
  pub fit-start : IsFit (start head)
  fit-start = record {
    holds = refl;
    waits = refl;
    dues = λ c t m e. absurd (none_due (t, m) e);
    awaits = λ c t m x l e. absurd (other_last t m l);
  }
    where
      none_due : (x : TableId × Mode) → None ≡ Some x → ⊥
      none_due x e = cc

      other_last : (t : TableId) (m : Mode) → Last.Other ≡ Last.Awaits t m → ⊥
      other_last t m e = cc

  pub orderly-start : IsOrderly (start head)
  orderly-start = record { fit = fit-start; ordered = ordered-start; piled = piled-start; logged = logged-start }

  -- the rows' keys have their pairs
  first-has : (i : IndexId) (rows : List (List Value)) (k n : ℕ) (v : Version) (row : List Value) → Contains (get_or (map first_version rows) k []) v
      → v.row ≡ Some row
      → has_pair (with_rows head i n rows) (key_in head i row, record { 0 = n + k }) ≡ true
  first-has i [] k n v row h e = absurd (in-none v h)
  first-has i (x ∷ rows) zero n v row h e = elim (in-cases (record { unit = 0; number = 0; row = Some x; pending = false }) v [] h) [
    | inl s ↦ (let q : Some x ≡ Some row = sym (ap (λ (y : Version). y.row) s) ∙ e in let r : x ≡ row = cc in
        subst (λ (y : List Value). has_pair (with_rows head i n (x ∷ rows)) (key_in head i y, record { 0 = n + 0 }) ≡ true) r
        (let m : n ≡ n + 0 = omega arith in subst (λ (j : ℕ). has_pair (with_rows head i n (x ∷ rows)) (key_in head i x, record { 0 = j }) ≡ true) m
        (with-new (key_in head i x, record { 0 = n }) (with_rows head i (n + 1) rows))))
    | inr s ↦ absurd (in-none v s)
  ]
  first-has i (x ∷ rows) (suc k) n v row h e =
      let m : (n + 1) + k ≡ n + suc k = omega arith in
      with-has (key_in head i x, record { 0 = n }) (key_in head i row, record { 0 = n + suc k }) (with_rows head i (n + 1) rows)
      (subst (λ (j : ℕ). has_pair (with_rows head i (n + 1) rows) (key_in head i row, record { 0 = j }) ≡ true) m (first-has i rows k (n + 1) v row h e))

  -- each row of the head has its pairs
  pub keys-start : KeysStand head (start head)
  unfolding KeysStand
  keys-start i t r v row h hv e = subst (λ (l : List (Value × Rid)). has_pair l (key_in head i row, r) ≡ true) (sym pairs)
      (let m : 0 + r.0 ≡ r.0 = omega arith in subst (λ (j : ℕ). has_pair (with_rows head i 0 (rows_of head t)) (key_in head i row, record { 0 = j }) ≡ true) m
      (first-has i (rows_of head t) r.0 0 v row slot e))
    where
      on : table_of_index head i ≡ Some t
      on = index-on-table head t i h

      lt : i.0 < length head.indexes
      lt = let z : is_index head i ≡ true = index-of-head head t i h in grind (arith, nat_tests, z)

      long : length (indexes head) ≡ length head.indexes
      long = length-map-range_with_len (λ k. record { 0 = k }) 0 (length head.indexes)

      pairs : entries_of (start head) i ≡ with_rows head i 0 (rows_of head t)
      pairs =
          let a = lt in let b = long in let z : i.0 < length (indexes head) = omega (arith, a, b) in
          get_or-map (λ i. with_rows head i 0 (option_map_or (rows_of head) (table_of_index head i) [])) (indexes head) i.0 i [] z
          ∙ ap (λ (j : IndexId). with_rows head j 0 (option_map_or (rows_of head) (table_of_index head j) []))
          (get_or-map-range_with_len (λ (k : ℕ). record { 0 = k }) 0 (length head.indexes) i.0 i.0 i lt (omega arith))
          ∙ ap (λ (o : Option TableId). with_rows head i 0 (option_map_or (rows_of head) o [])) on

      slot : Contains (get_or (map first_version (rows_of head t)) r.0 []) v
      slot = go (nat_lt t.0 (length head.tables)) refl
        where
          tables_long : length (tables head) ≡ length head.tables
          tables_long = length-map-range_with_len (λ k. record { 0 = k }) 0 (length head.tables)

          go : (b : Bool) → nat_lt t.0 (length head.tables) ≡ b → Contains (get_or (map first_version (rows_of head t)) r.0 []) v
          go true f =
              let small : t.0 < length head.tables = grind (arith, nat_tests, f) in let b = tables_long in
              let z : t.0 < length (tables head) = omega (arith, small, b) in
              subst (λ (l : List (List Version)). Contains (get_or l r.0 []) v)
              (get_or-map (λ t. map first_version (rows_of head t)) (tables head) t.0 t [] z
              ∙ ap (λ (u : TableId). map first_version (rows_of head u))
              (get_or-map-range_with_len (λ (k : ℕ). record { 0 = k }) 0 (length head.tables) t.0 t.0 t small (omega arith))) hv
          go false f =
              let b = tables_long in
              let big : length head.tables ≤ t.0 = grind (arith, nat_tests, f) in
              let l : length (map (λ t. map first_version (rows_of head t)) (tables head)) ≡ length (tables head) = length-map (tables head)
              (λ t. map first_version (rows_of head t)) in
              let z : length (map (λ t. map first_version (rows_of head t)) (tables head)) ≤ t.0 = omega (arith, big, b, l) in
              absurd (in-none v (subst (λ (l : List (List Version)). Contains (get_or l r.0 []) v)
              (get_or_past (map (λ t. map first_version (rows_of head t)) (tables head)) t.0 [] z) hv))

  -- keys and pairs in every legal history
  pub record IsKeyed (w : World) : Type 0 where
    pub keys : KeysStand head w
    pub ordered : EntriesOrdered w
    pub piled : VersionsLayered w

  -- kept by each allowed entry
  pub keyed-after : (w : World) (e : Entry) → Allowed head w e → IsKeyed w → IsKeyed (after head w e)
  keyed-after w e al k = record {
    keys = keys-after head w e al k.piled k.keys;
    ordered = ordered-after head w e k.ordered;
    piled = piled-after head w e
        k.piled;
  }

  -- so in every legal history
  pub keyed-world : (es : List Entry) → Ground head es → IsKeyed (world head es)
  keyed-world es g = along head IsKeyed keyed-after es (record { keys = keys-start; ordered = ordered-start; piled = piled-start }) g

  -- the facts of the gaps in every legal history without a Lock on a key name alone
  pub orderly-from : (w : World) (es : List Entry) → IsOrderly w → GroundFrom head w es → are_plain es ≡ true → IsOrderly (world_from head w es)
  unfolding GroundFrom world_from
  orderly-from w [] l g p = l
  orderly-from w (e ∷ es) l g p = let b = both (is_plain e.act) (are_plain es) p in orderly-from (after head w e) es (orderly-after head w e g.0 b.0 l) g.1 b.1

  -- from the start on
  pub orderly-world : (es : List Entry) → Ground head es → are_plain es ≡ true → IsOrderly (world head es)
  unfolding Ground world
  orderly-world es g p = orderly-from (start head) es orderly-start g p
