-- What is kept beside a script so far stays right.
use Rattle.std.proofs.Common.{◌≡◌, ◌<◌, ◌+◌, ℕ, Bool, true, false, cond, List, [], ◌∷◌, ◌++◌, length, refl, sym, ap, subst, ◌∙◌, arith}
use Rattle.std.specs.Prelude.{nat_le, nat_eq, slice_index_or, slice_set, if◌then◌else◌, Option, Some}
use Rattle.std.proofs.lemmas.List.{get_or-set_other, get_or-replicate, length-set, length-replicate, length-append}
use Rattle.std.proofs.lemmas.List.Elements.{filter-append}
use Rattle.std.proofs.lemmas.Bool.{eqb-true}
use Rattle.std.proofs.lemmas.Cmp.{nat_eq_equiv}
use Rattle.std.proofs.lemmas.Grind.{get_or-set_at}
use Rattle.std.proofs.Math.ListN.{replicate}
use Rattle.iso_types.specs.Ids.{table_eq}
use Rattle.iso_types.specs.declared.head.FirstRow.{FirstRow}
use Rattle.iso_types.specs.declared.value.TableId.{TableId}
use Rattle.iso_script.specs.declared.event.Event.{Event}
use Rattle.iso_script.specs.declared.event.Event.TheVariants as event
use Rattle.iso_script.specs.declared.reader.Reader.{Reader}
use Rattle.iso_script.specs.Advance.{advance}
use Rattle.iso_script.specs.Keyed.{own_rows}
use Rattle.iso_script.specs.Kept.{IsCounted, counted, own_table, with_row}

-- a count is full where the number is
pub counted_full : (n : ℕ) → nat_le 65536 (counted n) ≡ nat_le 65536 n
unfolding counted
counted_full n = go (nat_le 65536 n) refl
  where
    go : (b : Bool) → nat_le 65536 n ≡ b → nat_le 65536 (if b then 65536 else n) ≡ b
    go true is = refl
    go false is = is

-- one more of the count is one more of the number
pub counted_more : (n : ℕ) → counted (counted n + 1) ≡ counted (n + 1)
unfolding counted
counted_more n = search arith

own_snoc : (t : TableId) (rows : List FirstRow) (f : FirstRow) → length (own_rows t (rows ++ f ∷ [])) ≡ length (own_rows t rows) + length (own_rows t (f ∷ []))
own_snoc t rows f = ap length (filter-append (λ (g : FirstRow). table_eq g.table t) rows (f ∷ [])) ∙ length-append (own_rows t rows) (own_rows t (f ∷ []))

same_number : (i j : ℕ) → nat_eq i j ≡ true → i ≡ j
same_number i j e = eqb-true i j e

other_number : (i j : ℕ) → nat_eq i j ≡ false → j ≡ i → ⊥
other_number i j e same = no_both (sym e ∙ ap (λ k. nat_eq i k) same ∙ nat_eq_equiv.refl i)
  where
    no_both : false ≡ true → ⊥
    no_both p = cc

-- the counts with the row are those of the rows with it
pub row_counted : (counts : List ℕ) (rows : List FirstRow) (f : FirstRow) → IsCounted counts rows → IsCounted (with_row counts (Some f.table)) (rows ++ f ∷ [])
unfolding IsCounted
row_counted counts rows f h = (length-set counts f.table.0 _ ∙ h.0, λ t lt. go t lt (table_eq f.table t) refl)
  where
    go : (t : TableId) → t.0 < 256 → (b : Bool) → table_eq f.table t ≡ b → slice_index_or (slice_set counts f.table.0 (counted (slice_index_or counts f.table.0 0 + 1))) t.0 0 ≡ counted (length (own_rows t (rows ++ f ∷ [])))
    go t lt true is =
        let same : f.table.0 ≡ t.0 = same_number f.table.0 t.0 is in
        get_or-set_at counts f.table.0 t.0 (counted (slice_index_or counts f.table.0 0 + 1)) 0 (sym same) (omega (arith, same, lt, h.0))
        ∙ ap (λ x. counted (x + 1)) (ap (λ i. slice_index_or counts i 0) same ∙ h.1 t lt)
        ∙ counted_more (length (own_rows t rows))
        ∙ ap counted (sym (own_snoc t rows f ∙ ap (λ b. length (own_rows t rows) + length (cond b (f ∷ []) [])) is))
    go t lt false is =
        get_or-set_other counts f.table.0 t.0 (counted (slice_index_or counts f.table.0 0 + 1)) 0 (other_number f.table.0 t.0 is)
        ∙ h.1 t lt
        ∙ ap counted (sym (own_snoc t rows f ∙ ap (λ b. length (own_rows t rows) + length (cond b (f ∷ []) [])) is ∙ omega arith))

-- before the first row
pub none_counted : IsCounted (replicate 256 0) []
unfolding IsCounted counted
none_counted = (length-replicate {A = ℕ} 256 0, λ t lt. get_or-replicate 256 t.0 0 0 lt)

-- the counts behind an event
pub event_counted : (s : Reader) (n : ℕ) (e : Event) (counts : List ℕ) → IsCounted counts s.script.head.rows → IsCounted (with_row counts (own_table e)) (advance s n e).script.head.rows
event_counted s n event.First counts h = h
event_counted s n (event.Config x) counts h = h
event_counted s n (event.Table d) counts h = h
event_counted s n (event.Index d) counts h = h
event_counted s n (event.Row f) counts h = row_counted counts s.script.head.rows f h
event_counted s n (event.Connect d) counts h = h
event_counted s n event.Begin counts h = h
event_counted s n (event.Asked c free w) counts h = h
event_counted s n event.End counts h = h

-- the same, by what the code knows
pub stays_counted : (s t : Reader) (n : ℕ) (e : Event) (counts more : List ℕ) (o : Option TableId) → IsCounted counts s.script.head.rows → o ≡ own_table e → more ≡ with_row counts o → t ≡ advance s n e
    → IsCounted more t.script.head.rows
stays_counted s t n e counts more o h own is step =
    subst (λ (z : Reader). IsCounted more z.script.head.rows) (sym step)
    (subst (λ (z : List ℕ). IsCounted z (advance s n e).script.head.rows) (sym (is ∙ ap (with_row counts) own)) (event_counted s n e counts h))

-- a table is full where its count is
pub count_full : (counts : List ℕ) (rows : List FirstRow) (t : TableId) → IsCounted counts rows → t.0 < 256 → nat_le 65536 (slice_index_or counts t.0 0) ≡ nat_le 65536 (length (own_rows t rows))
unfolding IsCounted
count_full counts rows t h lt = ap (nat_le 65536) (h.1 t lt) ∙ counted_full (length (own_rows t rows))
