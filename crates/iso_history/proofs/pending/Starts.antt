-- The facts of versions hold at the start.
use Rattle.std.proofs.Common.{List, [], ◌∷◌, ◌≡◌, ℕ, zero, suc, refl, ◌∙◌, arith, Some, None, map, length, slice_index_or}
use Rattle.std.proofs.lemmas.List.{length-map}
use Rattle.std.proofs.lemmas.List.FromFn.{length-map-range_with_len}
use Rattle.iso_history.proofs.pending.Conns.{no-both}
use Rattle.iso_history.proofs.pending.Containing.{Each}
use Rattle.iso_history.proofs.pending.Makers.{IfPending, MakerOf, makers-of}
use Rattle.iso_history.specs.After.{start}
use Rattle.iso_history.specs.Facts.{DuesAwaited, DuesHeld, LinesOpen, MakersHold, TablesThere, UnitsApart, WritesAwaited, WritesKept}
use Rattle.iso_history.specs.Piles.{AllPiled, LeftPends, NotesBegun, Piled}
use Rattle.iso_history.specs.Versions.{first_version}
use Rattle.iso_history.specs.World.{Version}
use Rattle.iso_types.specs.Head.{rows_of, tables}
use Rattle.iso_types.specs.declared.head.Head.{Head}
use Rattle.iso_types.specs.declared.value.Rid.{Rid}
use Rattle.iso_types.specs.declared.value.TableId.{TableId}
use Rattle.iso_types.specs.declared.value.Value.{Value}

-- a version of the head's rows is not pending
each-first : (P : Version → Type 0) (rows : List (List Value)) (k : ℕ) → Each (IfPending P) (slice_index_or (map first_version rows) k [])
each-first P [] k = tt
each-first P (row ∷ rows) zero = ((λ p. absurd (no-both p refl)), tt)
each-first P (row ∷ rows) (suc k) = each-first P rows k

piled-first : (t : TableId) (r : Rid) (rows : List (List Value)) (k : ℕ) → Piled [] t r (slice_index_or (map first_version rows) k [])
piled-first t r [] k = tt
piled-first t r (row ∷ rows) zero = ((λ p. absurd (no-both p refl)), (λ p. tt), tt)
piled-first t r (row ∷ rows) (suc k) = piled-first t r rows k

-- what holds of the slots of all tables of the head
pub first-at : (head : Head) (P : List Version → Type 0) → P [] → ((rows : List (List Value)) (k : ℕ) → P (slice_index_or (map first_version rows) k []))
    → (ts : List TableId) (j k : ℕ) → P (slice_index_or (slice_index_or (map (λ t. map first_version (rows_of head t)) ts) j []) k [])
first-at head P none h [] j k = none
first-at head P none h (t ∷ ts) zero k = h (rows_of head t) k
first-at head P none h (t ∷ ts) (suc j) k = first-at head P none h ts j k

module _ (head : Head) where
  none-some : {A : Type 0} {x : A} → None ≡ Some x → ⊥
  none-some q = cc

  pub start-units : UnitsApart (start head)
  start-units = record { begun = λ c u e. absurd (none-some e); apart = λ c d u e f. absurd (none-some e) }

  pub start-makers : MakersHold head (start head)
  start-makers = makers-of head (start head) (λ t r. first-at head (Each (IfPending (MakerOf head (start head).unit [] t r))) tt
      (each-first (MakerOf head (start head).unit [] t r)) (tables head) t.0 r.0)

  pub start-opened : LinesOpen (start head)
  unfolding LinesOpen
  start-opened c k e = absurd (none-some e)

  pub start-wide : TablesThere head (start head)
  unfolding TablesThere
  start-wide = length-map (tables head) (λ t. map first_version (rows_of head t)) ∙ length-map-range_with_len (λ k. table_at k) 0 (length head.tables)
    where
      table_at : ℕ → TableId
      table_at k = record { 0 = k }

  pub start-writes : WritesKept (start head).holds
  unfolding WritesKept
  start-writes = refl

  pub start-awaited_writes : WritesAwaited (start head).holds (start head).waits
  unfolding WritesAwaited
  start-awaited_writes c x e = absurd (none-some e)

  pub start-dues : DuesHeld (start head)
  unfolding DuesHeld
  start-dues c t m e = absurd (none-some e)

  pub start-awaited_dues : DuesAwaited (start head)
  unfolding DuesAwaited
  start-awaited_dues c t m x l e = absurd (none-some e)

  pub start-piled : AllPiled (start head)
  unfolding AllPiled
  start-piled t r = first-at head (Piled [] t r) tt (piled-first t r) (tables head) t.0 r.0

  pub start-pending : LeftPends (start head)
  unfolding LeftPends
  start-pending c u n e h = absurd (none-some e)

  pub start-noted : NotesBegun (start head)
  unfolding NotesBegun
  start-noted n lt = absurd (omega (arith, lt))
