-- The entries of an index over the first rows of its table.
use Rattle.std.proofs.Common.{◌≡◌, ◌<◌, ◌+◌, ℕ, zero, suc, true, List, [], ◌∷◌, length, map, refl, ap, sym, ◌∙◌, Some, get_or, arith}
use Rattle.std.specs.Prelude.{nat_lt, slice_get, slice_index_or}
use Rattle.std.specs.Option.{option_map, option_map_or}
use Rattle.std.specs.List.{list_all, range_with_len}
use Rattle.std.proofs.lemmas.Bool.{and_parts, ltb-true}
use Rattle.std.proofs.lemmas.List.{length-map}
use Rattle.std.proofs.lemmas.List.FromFn.{get_or-map-range_with_len, length-map-range_with_len}
use Rattle.std.proofs.lemmas.Option.{slice_get_read}
use Rattle.iso_chain.specs.Views.{bare}
use Rattle.iso_history.specs.Entries.{with_pair, with_rows}
use Rattle.iso_key.proofs.Splits.{all-at}
use Rattle.iso_table.specs.Slots.{new_slot}
use Rattle.iso_table.specs.declared.slot.Slot.{Slot}
use Rattle.iso_types.specs.Filled.{Filled}
use Rattle.iso_types.specs.Head.{rows_of, tables as tables_of, width_of}
use Rattle.iso_types.specs.declared.head.Head.{Head}
use Rattle.iso_types.specs.declared.head.IndexDef.{IndexDef}
use Rattle.iso_types.specs.declared.value.IndexId.{IndexId}
use Rattle.iso_types.specs.declared.value.Rid.{Rid}
use Rattle.iso_types.specs.declared.value.TableId.{TableId}
use Rattle.iso_types.specs.declared.value.Value.{Value}
use Rattle.iso_types.specs.declared.value.Value.TheVariants.{Null}
use Rattle.iso_state.specs.Firsts.{first_keys, keyed}
use Rattle.iso_state.specs.Stands.{is_placed}
use Rattle.iso_state.proofs.FirstParts.{slots-of-numbers, table_number}

-- the keys of the declared column
pub keyed-with : (head : Head) (i : IndexId) (d : IndexDef) (k : ℕ) (rows : List (List Value)) → slice_get head.indexes i.0 ≡ Some d
    → keyed d.column k rows ≡ with_rows head i k rows
keyed-with head i d k [] e = refl
keyed-with head i d k (row ∷ rows) e =
    ap (λ (l : List (Value × Rid)). with_pair (slice_index_or row d.column Null, record { 0 = k }) l) (keyed-with head i d (k + 1) rows e)
    ∙ ap (λ (v : Value). with_pair (v, record { 0 = k }) (with_rows head i (k + 1) rows))
    (sym (ap (λ o. option_map_or (λ (x : IndexDef). slice_index_or row x.column Null) o Null) e))

-- the index that is declared at a place stands on a table of the head
pub table-there : (head : Head) (k : ℕ) (d : IndexDef) → list_all (is_placed head) head.indexes ≡ true → k < length head.indexes → d ≡ get_or head.indexes k d
    → d.table.0 < length head.tables
table-there head k d all lt is =
    let here : is_placed head d ≡ true = ap (λ (x : IndexDef). is_placed head x) is ∙ all-at (is_placed head) head.indexes k d all lt in
    ltb-true d.table.0 (length head.tables) (and_parts (nat_lt d.table.0 (length head.tables)) (nat_lt d.column (width_of head d.table)) here).0

-- the slots of the tables, by number
slots-by-number : (head : Head) (tables : List (Filled Slot)) → bare tables ≡ map (λ t. map new_slot (rows_of head t)) (tables_of head)
    → bare tables ≡ map (λ k. map new_slot (rows_of head (table_number k))) (range_with_len 0 (length head.tables))
slots-by-number head tables are = are ∙ sym (slots-of-numbers head (range_with_len 0 (length head.tables)))

-- there are as many as tables
pub tables-there : (head : Head) (tables : List (Filled Slot)) → bare tables ≡ map (λ t. map new_slot (rows_of head t)) (tables_of head)
    → length tables ≡ length head.tables
tables-there head tables are =
    sym (length-map tables (λ (s : Filled Slot). s.items)) ∙ ap (λ (l : List (List Slot)). length l) (slots-by-number head tables are)
    ∙ length-map-range_with_len (λ k. map new_slot (rows_of head (table_number k))) 0 (length head.tables)

slots-at : (tables : List (Filled Slot)) (k : ℕ) (s : Filled Slot) → get_or (bare tables) k s.items ≡ (get_or tables k s).items
slots-at [] k s = refl
slots-at (x ∷ xs) zero s = refl
slots-at (x ∷ xs) (suc k) s = slots-at xs k s

new-rows : (rows : List (List Value)) → map (λ (s : Slot). s.row) (map new_slot rows) ≡ rows
new-rows [] = refl
new-rows (row ∷ rows) = ap (λ (l : List (List Value)). row ∷ l) (new-rows rows)

-- and its slots are those of the head's rows
pub rows-there : (head : Head) (tables : List (Filled Slot)) (t : TableId) (s : Filled Slot) → t.0 < length head.tables
    → bare tables ≡ map (λ t. map new_slot (rows_of head t)) (tables_of head) → s ≡ get_or tables t.0 s → map (λ k. k.row) s.items ≡ rows_of head t
rows-there head tables t s lt are is =
    ap (λ (l : List Slot). map (λ k. k.row) l)
    (ap (λ (x : Filled Slot). x.items) is ∙ sym (slots-at tables t.0 s) ∙ ap (λ (l : List (List Slot)). get_or l t.0 s.items) (slots-by-number head tables are)
    ∙ get_or-map-range_with_len (λ k. map new_slot (rows_of head (table_number k))) 0 (length head.tables) t.0 t.0 s.items lt (omega arith))
    ∙ new-rows (rows_of head t)

-- the pairs of an index over the slots of its table
pub keys-are : (head : Head) (k : ℕ) (d : IndexDef) (rows : List (List Value)) → k < length head.indexes → d ≡ get_or head.indexes k d
    → rows ≡ rows_of head d.table → keyed d.column 0 rows ≡ first_keys head (record { 0 = k })
keys-are head k d rows lt is rows-are =
    let here : slice_get head.indexes k ≡ Some d = slice_get_read head.indexes (length head.indexes) k d refl lt is in
    keyed-with head (record { 0 = k }) d 0 rows here
    ∙ ap (λ (l : List (List Value)). with_rows head (record { 0 = k }) 0 l)
    (rows-are ∙ sym (ap (λ o. option_map_or (rows_of head) (option_map (λ (x : IndexDef). x.table) o) []) here))

-- the pairs of the indexes with these numbers
pub keys-of-numbers : (head : Head) (ks : List ℕ) → map (λ k. first_keys head (record { 0 = k })) ks ≡ map (λ i. first_keys head i) (map (λ k. record { 0 = k }) ks)
keys-of-numbers head [] = refl
keys-of-numbers head (k ∷ ks) = ap (λ (l : List (List (Value × Rid))). first_keys head (record { 0 = k }) ∷ l) (keys-of-numbers head ks)
