-- A lock for reading a row keeps the writers of other connections from it.
use Rattle.std.proofs.Common.{List, ◌≡◌, Bool, true, false, ◌||◌, refl, sym, Some, None, Option, option_map}
use Rattle.std.specs.Option.{option_map_or}
use Rattle.iso_history.proofs.pending.Conns.{no-both}
use Rattle.iso_history.proofs.pending.Kept.{keeps-found}
use Rattle.iso_history.proofs.pending.ModeTests.{backing-apart, rows-apart, tables-apart, x-covers, x-reads}
use Rattle.iso_history.proofs.pending.RowLocks.{or-left, or-right}
use Rattle.iso_history.specs.Facts.{GoTogether, HoldsBacked, has_write_lock, keeps_mode}
use Rattle.iso_history.specs.Requests.{table_mode}
use Rattle.iso_modes.specs.Modes.{at_least, compatible, covers}
use Rattle.iso_modes.specs.declared.Mode.{Mode}
use Rattle.iso_modes.specs.declared.Mode.TheVariants.{Ix, Ns, S, X}
use Rattle.iso_queue.specs.Locks.{Hold, held, hold_on, holds_at_least, is_covered}
use Rattle.iso_types.specs.Ids.{conn_eq}
use Rattle.iso_types.specs.declared.head.Head.{Head}
use Rattle.iso_types.specs.declared.value.Conn.{Conn}
use Rattle.iso_types.specs.declared.value.Name.{Name}
use Rattle.iso_types.specs.declared.value.Name.TheVariants.{Row, Table}
use Rattle.iso_types.specs.declared.value.Rid.{Rid}
use Rattle.iso_types.specs.declared.value.TableId.{TableId}

-- the connection holds S or more on the table, or NS or more on the row
abbrev pub has_read_lock : List Hold → Conn → TableId → Rid → Bool
has_read_lock holds c t r = holds_at_least holds c (Table t) S || holds_at_least holds c (Row t r) Ns

-- a test of the held mode, of the hold
pub held-found : (p : Mode → Bool) (holds : List Hold) (c : Conn) (n : Name) → option_map_or p (held holds c n) false ≡ true
    → (h : Hold) × (hold_on holds c n ≡ Some h) × (p h.mode ≡ true)
held-found p holds c n e = go (hold_on holds c n) refl e
  where
    go : (o : Option Hold) → hold_on holds c n ≡ o → option_map_or p (option_map (λ (h : Hold). h.mode) o) false ≡ true
        → (h : Hold) × (hold_on holds c n ≡ Some h) × (p h.mode ≡ true)
    go None q k = absurd (no-both refl (sym k))
    go (Some h) q k = (h, q, k)

module _ (head : Head) (holds : List Hold) (together : GoTogether holds) (backed : HoldsBacked head holds) where
  -- two locks that do not go together are of one connection
  clash : (d c : Conn) (n : Name) (h g : Hold) → conn_eq d c ≡ false → hold_on holds d n ≡ Some h → hold_on holds c n ≡ Some g → compatible h.mode g.mode ≡
      false → ⊥
  unfolding GoTogether
  clash d c n h g ne p q e = no-both (together d c n h g ne p q) e

  -- where a connection holds S or more on a table, no other writes there
  pub table-apart : (d c : Conn) (t : TableId) → conn_eq d c ≡ false → holds_at_least holds d (Table t) Ix ≡ true → holds_at_least holds c (Table t) S ≡
      true → ⊥
  table-apart d c t ne writes reads =
      let h = held-found (λ m. at_least m Ix) holds d (Table t) writes in
      let g = held-found (λ m. at_least m S) holds c (Table t) reads in
      clash d c (Table t) h.0 g.0 ne h.1 g.1 (tables-apart h.0.mode g.0.mode h.2 g.2)

  -- where a connection reads a row, no other writes it
  pub row-apart : (d c : Conn) (t : TableId) (r : Rid) → conn_eq d c ≡ false → has_write_lock head holds d t r ≡ true → holds_at_least holds d (Table t)
      Ix ≡ true
      → has_read_lock holds c t r ≡ true → ⊥
  unfolding HoldsBacked
  row-apart d c t r ne lock writes reads = at_table (holds_at_least holds c (Table t) S) refl
    where
      at_covered : (g : Hold) → hold_on holds c (Row t r) ≡ Some g → at_least g.mode Ns ≡ true → (b : Bool) → is_covered head holds d (Row t r) X ≡ b → ⊥
      at_covered g q l true e =
          let h = held-found (λ m. covers m X) holds d (Table t) e in
          let b = held-found (λ m. at_least m (table_mode g.mode)) holds c (Table t) (backed c (Row t r) t g refl q) in
          clash d c (Table t) h.0 b.0 ne h.1 b.1 (backing-apart h.0.mode b.0.mode g.mode h.2 b.2)
      at_covered g q l false e =
          let k : keeps_mode holds d (Row t r) X ≡ true = rw e at lock in
          let h = keeps-found (λ m. at_least m X) holds d (Row t r) k in
          clash d c (Row t r) h.0 g ne h.1 q (rows-apart h.0.mode g.mode h.3 l)

      at_table : (b : Bool) → holds_at_least holds c (Table t) S ≡ b → ⊥
      at_table true e = table-apart d c t ne writes e
      at_table false e =
          let z : holds_at_least holds c (Row t r) Ns ≡ true = rw e at reads in
          let g = held-found (λ m. at_least m Ns) holds c (Row t r) z in
          at_covered g.0 g.1 g.2 (is_covered head holds d (Row t r) X) refl

  -- who may write a row may read it
  pub write-reads : (c : Conn) (t : TableId) (r : Rid) → has_write_lock head holds c t r ≡ true → has_read_lock holds c t r ≡ true
  write-reads c t r lock = go (is_covered head holds c (Row t r) X) refl
    where
      go : (b : Bool) → is_covered head holds c (Row t r) X ≡ b → has_read_lock holds c t r ≡ true
      go true e = let h = held-found (λ m. covers m X) holds c (Table t) e in or-left _ (holds_at_least holds c (Row t r) Ns) (rw (h.1) (x-covers h.0.mode h.2))
      go false e =
          let k : keeps_mode holds c (Row t r) X ≡ true = rw e at lock in
          let h = keeps-found (λ m. at_least m X) holds c (Row t r) k in
          or-right (holds_at_least holds c (Table t) S) _ (rw (h.1) (x-reads h.0.mode h.3))
