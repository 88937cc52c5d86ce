-- Who reads a row under a lock excludes all others from writing it.
use Rattle.std.proofs.Common.{◌≡◌, Bool, true, false, not, ◌&&◌, ◌||◌, List, refl, ap, ◌∙◌, Some, None, Option, option_map, ◌⊎◌, inl, inr}
use Rattle.std.specs.Option.{option_map_or}
use Rattle.std.proofs.lemmas.Bool.{and_parts, or_cases}
use Rattle.iso_history.proofs.locks.Fits.{held-from, modes_together}
use Rattle.iso_history.proofs.locks.Modes.{at_least-less, covers-ix, covers-less, reader-apart, rows-apart, table-apart, tables-apart, writer-apart, writer-ix}
use Rattle.iso_history.proofs.locks.Tests.{or-first, or-second}
use Rattle.iso_history.specs.Facts.{HoldsBacked, LocksSound, ModesSuit, has_write_lock, keeps_mode}
use Rattle.iso_history.specs.Requests.{is_row_mode, table_mode}
use Rattle.iso_history.specs.World.{World}
use Rattle.iso_modes.specs.Modes.{at_least, compatible, covers}
use Rattle.iso_modes.specs.Terms.{is_kept}
use Rattle.iso_modes.specs.declared.Mode.{Mode}
use Rattle.iso_modes.specs.declared.Mode.TheVariants.{Ix, Ns, S, X}
use Rattle.iso_queue.specs.Locks.{Hold, held, hold_on, holds_at_least, is_covered}
use Rattle.iso_types.specs.Ids.{conn_eq}
use Rattle.iso_types.specs.declared.head.Head.{Head}
use Rattle.iso_types.specs.declared.value.Conn.{Conn}
use Rattle.iso_types.specs.declared.value.Name.{Name}
use Rattle.iso_types.specs.declared.value.Name.TheVariants.{Row, Table}
use Rattle.iso_types.specs.declared.value.Rid.{Rid}
use Rattle.iso_types.specs.declared.value.TableId.{TableId}

-- the connection holds the row in the mode or more, or its table so that it is covered
abbrev pub has_lock : Head → List Hold → Conn → TableId → Rid → Mode → Bool
has_lock head holds c t r m = is_covered head holds c (Row t r) m || holds_at_least holds c (Row t r) m

-- the mode that passes a test
pub passing : (f : Mode → Bool) (x : Option Mode) → option_map_or f x false ≡ true → (a : Mode) × (x ≡ Some a) × (f a ≡ true)
passing f None e = cc
passing f (Some a) e = (a, refl, e)

pub apart-not : (b : Bool) → not b ≡ true → b ≡ true → ⊥
apart-not true e h = cc
apart-not false e h = cc

module _ (head : Head) (w : World) (s : LocksSound head w) (t : TableId) (r : Rid) where
  -- the table of a held row
  backing : (c : Conn) (a : Mode) → held w.holds c (Row t r) ≡ Some a
      → (b : Mode) × (held w.holds c (Table t) ≡ Some b) × (at_least b (table_mode a) ≡ true)
  unfolding HoldsBacked
  backing c a e =
      let g = held-from (hold_on w.holds c (Row t r)) a e in
      let k : holds_at_least w.holds c (Table t) (table_mode a) ≡ true = rw g.2 at (s.backed c (Row t r) t g.0 refl g.1) in
      passing (λ z. at_least z (table_mode a)) (held w.holds c (Table t)) k

  of-rows : (c : Conn) (a : Mode) → held w.holds c (Row t r) ≡ Some a → is_row_mode a ≡ true
  unfolding ModesSuit
  of-rows c a e = let g = held-from (hold_on w.holds c (Row t r)) a e in rw g.2 at (s.suits c (Row t r) g.0 g.1)

  pub excludes : (c d : Conn) → conn_eq c d ≡ false → has_lock head w.holds c t r Ns ≡ true → has_lock head w.holds d t r X ≡ true → ⊥
  excludes c d away e f = go (or_cases _ _ e) (or_cases _ _ f)
    where
      together : (n : Name) (a b : Mode) → held w.holds c n ≡ Some a → held w.holds d n ≡ Some b → not (compatible a b) ≡ true → ⊥
      together n a b h g k = apart-not (compatible a b) k (modes_together w.holds s.together c d n a b away h g)

      go : (is_covered head w.holds c (Row t r) Ns ≡ true) ⊎ (holds_at_least w.holds c (Row t r) Ns ≡ true)
          → (is_covered head w.holds d (Row t r) X ≡ true) ⊎ (holds_at_least w.holds d (Row t r) X ≡ true) → ⊥
      go (inl h) (inl g) =
          let a = passing (λ z. covers z Ns) (held w.holds c (Table t)) h in
          let b = passing (λ z. covers z X) (held w.holds d (Table t)) g in
          together (Table t) a.0 b.0 a.1 b.1 (tables-apart a.0 b.0 a.2 b.2)
      go (inl h) (inr g) =
          let a = passing (λ z. covers z Ns) (held w.holds c (Table t)) h in
          let y = passing (λ z. at_least z X) (held w.holds d (Row t r)) g in
          let b = backing d y.0 y.1 in
          together (Table t) a.0 b.0 a.1 b.1 (writer-apart a.0 b.0 y.0 a.2 y.2 (of-rows d y.0 y.1) b.2)
      go (inr h) (inl g) =
          let x = passing (λ z. at_least z Ns) (held w.holds c (Row t r)) h in
          let a = backing c x.0 x.1 in
          let b = passing (λ z. covers z X) (held w.holds d (Table t)) g in
          together (Table t) a.0 b.0 a.1 b.1 (reader-apart a.0 b.0 x.0 a.2 b.2)
      go (inr h) (inr g) =
          let x = passing (λ z. at_least z Ns) (held w.holds c (Row t r)) h in
          let y = passing (λ z. at_least z X) (held w.holds d (Row t r)) g in
          together (Row t r) x.0 y.0 x.1 y.1 (rows-apart x.0 y.0 x.2 y.2)

  -- a lock for writing is one for reading
  pub write-reads : (c : Conn) → has_lock head w.holds c t r X ≡ true → has_lock head w.holds c t r Ns ≡ true
  write-reads c e = go (or_cases _ _ e)
    where
      go : (is_covered head w.holds c (Row t r) X ≡ true) ⊎ (holds_at_least w.holds c (Row t r) X ≡ true) → has_lock head w.holds c t r Ns ≡ true
      go (inl h) =
          let b = passing (λ z. covers z X) (held w.holds c (Table t)) h in
          or-first _ _ (ap (λ (x : Option Mode). option_map_or (λ z. covers z Ns) x false) b.1 ∙ covers-less b.0 b.2)
      go (inr h) =
          let y = passing (λ z. at_least z X) (held w.holds c (Row t r)) h in
          or-second _ _ (ap (λ (x : Option Mode). option_map_or (λ z. at_least z Ns) x false) y.1 ∙ at_least-less y.0 y.2)

  -- a kept lock for writing is one
  pub kept-writes : (c : Conn) → has_write_lock head w.holds c t r ≡ true → has_lock head w.holds c t r X ≡ true
  kept-writes c e = go (or_cases _ _ e)
    where
      at : (x : Option Hold) → option_map_or (λ h. is_kept h.term && at_least h.mode X) x false ≡ true
          → option_map_or (λ z. at_least z X) (option_map (λ h. h.mode) x) false ≡ true
      at None k = cc
      at (Some h) k = (and_parts _ _ k).1

      go : (is_covered head w.holds c (Row t r) X ≡ true) ⊎ (keeps_mode w.holds c (Row t r) X ≡ true) → has_lock head w.holds c t r X ≡ true
      go (inl h) = or-first _ _ h
      go (inr h) = or-second _ _ (at (hold_on w.holds c (Row t r)) h)

  -- a row has one writer
  pub one-writer : (c d : Conn) → has_write_lock head w.holds c t r ≡ true → has_write_lock head w.holds d t r ≡ true → conn_eq c d ≡ true
  one-writer c d e f = go (conn_eq c d) refl
    where
      go : (b : Bool) → conn_eq c d ≡ b → conn_eq c d ≡ true
      go true k = k
      go false k = absurd (excludes c d k (write-reads c (kept-writes c e)) (kept-writes d f))

  -- who may write a row holds its table in IX or more
  pub writer-table : (c : Conn) → has_lock head w.holds c t r X ≡ true → holds_at_least w.holds c (Table t) Ix ≡ true
  writer-table c e = go (or_cases _ _ e)
    where
      enough : Option Mode → Bool
      enough x = option_map_or (λ z. at_least z Ix) x false

      go : (is_covered head w.holds c (Row t r) X ≡ true) ⊎ (holds_at_least w.holds c (Row t r) X ≡ true) → holds_at_least w.holds c (Table t) Ix ≡ true
      go (inl h) = let b = passing (λ z. covers z X) (held w.holds c (Table t)) h in ap enough b.1 ∙ covers-ix b.0 b.2
      go (inr h) =
          let y = passing (λ z. at_least z X) (held w.holds c (Row t r)) h in
          let b = backing c y.0 y.1 in
          ap enough b.1 ∙ writer-ix b.0 y.0 y.2 (of-rows c y.0 y.1) b.2

-- who holds a table in S or more excludes all others from writing in it
pub table-excludes : (head : Head) (w : World) → LocksSound head w → (c d : Conn) (t : TableId) → conn_eq c d ≡ false
    → holds_at_least w.holds c (Table t) S ≡ true → holds_at_least w.holds d (Table t) Ix ≡ true → ⊥
table-excludes head w s c d t away e f =
    let a = passing (λ z. at_least z S) (held w.holds c (Table t)) e in
    let b = passing (λ z. at_least z Ix) (held w.holds d (Table t)) f in
    apart-not (compatible a.0 b.0) (table-apart a.0 b.0 a.2 b.2) (modes_together w.holds s.together c d (Table t) a.0 b.0 away a.1 b.1)
