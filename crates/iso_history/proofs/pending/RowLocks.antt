-- A lock for writing a row stays to the unit's end.
use Rattle.std.proofs.Common.{[], ◌∷◌, ◌≡◌, Bool, true, false, ◌&&◌, ◌||◌, refl, ap, sym, ◌∙◌, Some, None, Option, option_map, subst}
use Rattle.std.specs.Option.{option_map_or}
use Rattle.iso_history.proofs.pending.Conns.{and-first, and-rest, conn-is, no-both, rid-is, row_name-is, table-is, table_name-is}
use Rattle.iso_history.proofs.pending.Kept.{away-table, keeps-agent, keeps-found, keeps-of, keeps_if, kept-not_fresh, takes_away}
use Rattle.iso_history.proofs.pending.ModeTests.{at_least-joined, covers-joined, whole-writes}
use Rattle.iso_history.specs.Facts.{DuesHeld, TablesKept, has_write_lock, is_whole, keeps_mode}
use Rattle.iso_history.specs.Guards.{is_end}
use Rattle.iso_history.specs.Holds.{hand_of, holds_by_agent}
use Rattle.iso_history.specs.Holds.Hand.{Leaves, Places}
use Rattle.iso_history.specs.Legal.{ByAgent}
use Rattle.iso_history.specs.World.{World}
use Rattle.iso_history.specs.declared.entry.Act.{Act}
use Rattle.iso_history.specs.declared.entry.Act.TheVariants.{Claim, Collapse, Commit, Free, Lock, Look, Next, Rollback}
use Rattle.iso_history.specs.declared.entry.Got.{Got}
use Rattle.iso_history.specs.declared.entry.Stand.{Stand}
use Rattle.iso_history.specs.declared.entry.Stand.TheVariants.{At, Past}
use Rattle.iso_modes.specs.Modes.{at_least, covers, joined}
use Rattle.iso_modes.specs.declared.Mode.{Mode}
use Rattle.iso_modes.specs.declared.Mode.TheVariants.{Ix, X}
use Rattle.iso_queue.specs.Locks.{Hold, held, hold_on, holds_at_least, is_covered}
use Rattle.iso_queue.specs.Queues.{Wait, wait_of}
use Rattle.iso_types.specs.Ids.{conn_eq, name_eq, rid_eq, table_eq}
use Rattle.iso_types.specs.declared.head.Head.{Head}
use Rattle.iso_types.specs.declared.value.Conn.{Conn}
use Rattle.iso_types.specs.declared.value.Name.TheVariants.{Row, Table}
use Rattle.iso_types.specs.declared.value.Rid.{Rid}
use Rattle.iso_types.specs.declared.value.TableId.{TableId}

pub or-left : (a b : Bool) → a ≡ true → (a || b) ≡ true
or-left a b e = rw e refl

pub or-right : (a b : Bool) → b ≡ true → (a || b) ≡ true
or-right true b e = refl
or-right false b e = e

-- what takes a row lock away: a unit's end, its Free, or a Collapse of its table
pub data RowGoes (a : Act) (d c : Conn) (t : TableId) (r : Rid) : Type 0 where
  ends : (is_end a && conn_eq d c) ≡ true → RowGoes a d c t r
  frees : a ≡ Free t r → d ≡ c → RowGoes a d c t r
  collapses : (m : Mode) → a ≡ Collapse t m → d ≡ c → RowGoes a d c t r

module _ (head : Head) (w : World) where
  pub row-goes : (c : Conn) (a : Act) (d : Conn) (t : TableId) (r : Rid) → takes_away head c (hand_of head w c a) d (Row t r) ≡ true → RowGoes a d c t r
  unfolding name_eq
  row-goes c (Lock n m k y Got.Granted) d t r e = absurd (no-both refl (sym e))
  row-goes c (Lock n m k y (Got.Queued q)) d t r e = absurd (no-both refl (sym e))
  row-goes c (Lock n m k y Got.TimedOut) d t r e = absurd (no-both refl (sym e))
  row-goes c (Look u s want Got.Granted) d t r e = absurd (no-both refl (sym e))
  row-goes c (Look u s want (Got.Queued q)) d t r e = absurd (no-both refl (sym e))
  row-goes c (Look u s want Got.TimedOut) d t r e = absurd (no-both refl (sym e))
  row-goes c (Next i range at guarded (At v s)) d t r e = absurd (no-both refl (sym e))
  row-goes c (Next i range at guarded Past) d t r e = absurd (no-both refl (sym e))
  row-goes c (Next i range at guarded (Stand.Queued n)) d t r e = absurd (no-both refl (sym e))
  row-goes c (Next i range at guarded (Stand.TimedOut n)) d t r e = absurd (no-both refl (sym e))
  row-goes c Claim d t r e = claims (wait_of w.waits c) e
    where
      claims : (o : Option Wait)
          → takes_away head c (option_map_or (λ x. Places (record { name = x.name; mode = x.target; term = x.term } ∷ [])) o Leaves) d (Row t r) ≡ true
          → RowGoes Claim d c t r
      claims None q = absurd (no-both refl (sym q))
      claims (Some x) q = absurd (no-both refl (sym q))
  row-goes c (Free u s) d t r e =
      let n = and-first _ _ e in
      frees (ap (λ z. Free z s) (sym (table-is t u (and-first _ _ n))) ∙ ap (Free t) (sym (rid-is r s (and-rest (table_eq t u) (rid_eq r s) n))))
      (conn-is d c (and-rest (table_eq t u && rid_eq r s) (conn_eq d c) e))
  row-goes c (Collapse u m) d t r e =
      collapses m (ap (λ z. Collapse z m) (sym (table-is t u (and-first _ _ e)))) (conn-is d c (and-rest (table_eq t u) (conn_eq d c) e))
  row-goes c Commit d t r e = ends e
  row-goes c (Rollback code reason) d t r e = ends e
  row-goes c Act.Ended d t r e = ends e
  row-goes c _ d t r e = absurd (no-both refl (sym e))

  -- a table lock is kept, in its mode or more
  pub table-keeps : (p : Mode → Bool) (d : Conn) (t : TableId) → TablesKept w.holds → option_map_or p (held w.holds d (Table t)) false ≡ true
      → keeps_if p w.holds d (Table t) ≡ true
  unfolding TablesKept
  table-keeps p d t s e = go (hold_on w.holds d (Table t)) refl e
    where
      go : (o : Option Hold) → hold_on w.holds d (Table t) ≡ o → option_map_or p (option_map (λ (h : Hold). h.mode) o) false ≡ true
          → keeps_if p w.holds d (Table t) ≡ true
      go None q k = absurd (no-both refl (sym k))
      go (Some h) q k = keeps-of p w.holds d (Table t) h q (s d t h q) k

  pub table-stays : (p : Mode → Bool) → ((a b : Mode) → p a ≡ true → p (joined a b) ≡ true) → (c : Conn) (a : Act) (d : Conn) (t : TableId) → TablesKept w.holds
      → (is_end a && conn_eq d c) ≡ false → option_map_or p (held w.holds d (Table t)) false ≡ true
      → option_map_or p (held (holds_by_agent head w c a) d (Table t)) false ≡ true
  table-stays p st c a d t s nil e =
      let f = keeps-found p (holds_by_agent head w c a) d (Table t)
      (keeps-agent head p st w c a d (Table t) (λ m q. table_name-is m t q) (away-table head w c a d t nil) (table-keeps p d t s e)) in
      rw (f.1) (f.3)

  -- a Free frees no kept row
  pub free-fresh : (p : Mode → Bool) (c : Conn) (t : TableId) (r : Rid) → ByAgent head w c (Free t r) → keeps_if p w.holds c (Row t r) ≡ true → ⊥
  free-fresh p c t r al e =
      let f = keeps-found p w.holds c (Row t r) e in
      no-both (rw (f.1) at al.2) (kept-not_fresh f.0.term f.2)

  -- a lock for writing stays
  pub write-stays : (c : Conn) (a : Act) (d : Conn) (t : TableId) (r : Rid) → ByAgent head w c a → TablesKept w.holds → DuesHeld w
      → (is_end a && conn_eq d c) ≡ false → has_write_lock head w.holds d t r ≡ true → holds_at_least w.holds d (Table t) Ix ≡ true
      → has_write_lock head (holds_by_agent head w c a) d t r ≡ true
  unfolding DuesHeld
  write-stays c a d t r al s due nil lock writes = or-cases (is_covered head w.holds d (Row t r) X) refl
    where
      covered : is_covered head w.holds d (Row t r) X ≡ true → has_write_lock head (holds_by_agent head w c a) d t r ≡ true
      covered e = or-left _ (keeps_mode (holds_by_agent head w c a) d (Row t r) X) (table-stays (λ k. covers k X) (λ x y. covers-joined x y) c a d t s nil e)

      whole : (o : Option Mode) → option_map_or is_whole o false ≡ true → option_map_or (λ k. at_least k Ix) o false ≡ true → option_map_or
          (λ k. covers k X) o false ≡ true
      whole None p q = p
      whole (Some k) p q = whole-writes k p q

      goes : RowGoes a d c t r → keeps_mode w.holds d (Row t r) X ≡ true → has_write_lock head (holds_by_agent head w c a) d t r ≡ true
      goes (ends e) k = absurd (no-both e nil)
      goes (frees p q) k = absurd (free-fresh (λ m. at_least m X) c t r (subst (ByAgent head w c) p al)
          (subst (λ (z : Conn). keeps_mode w.holds z (Row t r) X ≡ true) q k))
      goes (collapses m p q) k = covered (whole (held w.holds d (Table t))
          (subst (λ (z : Conn). option_map_or is_whole (held w.holds z (Table t)) false ≡ true) (sym q) (is_held m (due c t m (subst (ByAgent head w c) p al).1)))
          writes)
        where
          is_held : (m : Mode) → (held w.holds c (Table t) ≡ Some m) × (is_whole m ≡ true) → option_map_or is_whole (held w.holds c (Table t)) false ≡ true
          is_held m f = ap (λ o. option_map_or is_whole o false) f.0 ∙ f.1

      at_row : keeps_mode w.holds d (Row t r) X ≡ true → (b : Bool) → takes_away head c (hand_of head w c a) d (Row t r) ≡ b
          → has_write_lock head (holds_by_agent head w c a) d t r ≡ true
      at_row k true e = goes (row-goes c a d t r e) k
      at_row k false e = or-right (is_covered head (holds_by_agent head w c a) d (Row t r) X) _
          (keeps-agent head (λ m. at_least m X) (λ x y. at_least-joined X x y) w c a d (Row t r) (λ m q. row_name-is m t r q) e k)

      or-cases : (b : Bool) → is_covered head w.holds d (Row t r) X ≡ b → has_write_lock head (holds_by_agent head w c a) d t r ≡ true
      or-cases true e = covered e
      or-cases false e = at_row (rw e at lock) (takes_away head c (hand_of head w c a) d (Row t r)) refl
