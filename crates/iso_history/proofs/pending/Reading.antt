-- A lock for reading a row stays, from its look to the unit's end.
use Rattle.std.proofs.Common.{List, ◌∷◌, ◌≡◌, Bool, true, false, ◌&&◌, refl, ap, sym, ◌∙◌, Some, None, Option, option_map, subst, if◌then◌else◌}
use Rattle.std.specs.Option.{option_map_or}
use Rattle.iso_history.proofs.pending.Conns.{and-both, and-first, at_conn-other, conn-is, conn-turned, no-both, rid-same, row_name-is, table-same}
use Rattle.iso_history.proofs.pending.Finds.{find-mapped, find-passes}
use Rattle.iso_types.specs.declared.value.Name.{Name}
use Rattle.iso_history.proofs.pending.Kept.{keeps-settled, hold-conn, keeps-mid, keeps-of, settled-of, takes_away}
use Rattle.iso_history.proofs.pending.ModeTests.{at_least-joined, whole-reads}
use Rattle.iso_history.proofs.pending.Others.{others-agent}
use Rattle.iso_history.proofs.pending.Queueing.{mode-settled}
use Rattle.iso_history.proofs.pending.ReadLocks.{has_read_lock}
use Rattle.iso_history.proofs.pending.RowLocks.{RowGoes, collapses, ends, free-fresh, frees, or-left, or-right, row-goes, table-stays}
use Rattle.iso_history.proofs.pending.WritesAwaits.{keeps-held}
use Rattle.iso_history.specs.After.{after}
use Rattle.iso_history.specs.Facts.{DuesHeld, IsSound, is_whole, keeps_mode}
use Rattle.iso_history.specs.Guards.{ends_unit, is_end, is_free_at, is_freed, is_own}
use Rattle.iso_history.specs.Holds.{hand_of, holds_by, holds_by_agent, spared}
use Rattle.iso_history.specs.Lasts.{last_by, last_of}
use Rattle.iso_history.specs.Legal.{Allowed, By, ByAgent}
use Rattle.iso_history.specs.World.{World}
use Rattle.iso_history.specs.World.Last.{Awaits, Claimed, Looked, Other}
use Rattle.iso_history.specs.declared.entry.Act.{Act}
use Rattle.iso_history.specs.declared.entry.Act.TheVariants.{Collapse, Free, Look}
use Rattle.iso_history.specs.declared.entry.Entry.{Entry}
use Rattle.iso_history.specs.declared.entry.Who.{Who}
use Rattle.iso_history.specs.declared.entry.Who.TheVariants.{Agent, Dispatcher}
use Rattle.iso_modes.specs.Modes.{at_least}
use Rattle.iso_modes.specs.Terms.{is_brief, is_fresh, is_kept}
use Rattle.iso_modes.specs.declared.Mode.{Mode}
use Rattle.iso_modes.specs.declared.Mode.TheVariants.{Ns, S}
use Rattle.iso_modes.specs.declared.Term.{Term}
use Rattle.iso_modes.specs.declared.Term.TheVariants.{Brief, Fresh, Kept}
use Rattle.iso_queue.specs.Locks.{Hold, held, hold_on, holds_at_least, is_hold_of, settled, settled_one}
use Rattle.iso_types.specs.Ids.{conn_eq, rid_eq, table_eq}
use Rattle.iso_types.specs.declared.head.Head.{Head}
use Rattle.iso_types.specs.declared.value.Conn.{Conn}
use Rattle.iso_types.specs.declared.value.Name.TheVariants.{Row, Table}
use Rattle.iso_types.specs.declared.value.Rid.{Rid}
use Rattle.iso_types.specs.declared.value.TableId.{TableId}

-- the connection keeps NS or more on the row, or has S or more on its table; or it has just looked, and does not free the row
pub data Reading (w : World) (c : Conn) (t : TableId) (r : Rid) (es : List Entry) : Type 0 where
  tabled : holds_at_least w.holds c (Table t) S ≡ true → Reading w c t r es
  kept : keeps_mode w.holds c (Row t r) Ns ≡ true → Reading w c t r es
  fresh : w.last c ≡ Looked t r → (h : Hold) → hold_on w.holds c (Row t r) ≡ Some h → is_brief h.term ≡ false → at_least h.mode Ns ≡ true
      → is_freed c t r es ≡ false → Reading w c t r es

pub reading-locks : (w : World) (c : Conn) (t : TableId) (r : Rid) (es : List Entry) → Reading w c t r es → has_read_lock w.holds c t r ≡ true
reading-locks w c t r es (tabled e) = or-left _ (holds_at_least w.holds c (Row t r) Ns) e
reading-locks w c t r es (kept e) = or-right (holds_at_least w.holds c (Table t) S) _ (keeps-held w.holds c (Row t r) Ns e)
reading-locks w c t r es (fresh l h q b m f) = or-right (holds_at_least w.holds c (Table t) S) _ (rw q m)

-- what is not Brief is kept once settled
settled-keeps : (c : Conn) (h : Hold) → conn_eq h.conn c ≡ true → is_brief h.term ≡ false → is_kept (settled_one c None h).term ≡ true
settled-keeps c h own b = rw own (at_term h.term b)
  where
    at_term : (t : Term) → is_brief t ≡ false → is_kept (if (is_fresh t && true) then record h { term = Kept } else record h { term = t }).term ≡ true
    at_term Kept e = refl
    at_term Fresh e = refl
    at_term Brief e = cc

-- what the next own entry spares, where it does not free the row
spares-none : (head : Head) (w : World) (c : Conn) (t : TableId) (r : Rid) (a : Act) → ByAgent head w c a → w.last c ≡ Looked t r → is_free_at t r a ≡ false
    → spared a (w.last c) ≡ None
spares-none head w c t r (Free u s) al l f = absurd (no-both (and-both _ _ (same_table u s (sym l ∙ al.1)) (same_rid u s (sym l ∙ al.1))) f)
  where
    same_table : (u : TableId) (s : Rid) → Looked t r ≡ Looked u s → table_eq u t ≡ true
    same_table u s e = ap (λ z. table_eq z t) (sym (ap (λ l. elim l [ Looked v q ↦ v | Awaits v m ↦ v | Claimed ↦ t | Other ↦ t ]) e)) ∙ table-same t

    same_rid : (u : TableId) (s : Rid) → Looked t r ≡ Looked u s → rid_eq s r ≡ true
    same_rid u s e = ap (λ z. rid_eq z r) (sym (ap (λ l. elim l [ Looked v q ↦ q | Awaits v m ↦ r | Claimed ↦ r | Other ↦ r ]) e)) ∙ rid-same r
spares-none head w c t r (Look u s want got) al l f = rw l refl
spares-none head w c t r _ al l f = refl

-- the entries that follow an entry of another, or of the dispatcher
freed-other : (c : Conn) (t : TableId) (r : Rid) (e : Entry) (es : List Entry) → is_own c e ≡ false → is_freed c t r (e ∷ es) ≡ false → is_freed c t r es ≡
    false
freed-other c t r e es o f = rw o at f

freed-own : (c : Conn) (t : TableId) (r : Rid) (e : Entry) (es : List Entry) → is_own c e ≡ true → is_freed c t r (e ∷ es) ≡ false → is_free_at t r e.act ≡
    false
freed-own c t r e es o f = rw o at f

module _ (head : Head) (w : World) (s : IsSound head w) where
  -- a whole table lock is S or more
  whole-read : (o : Option Mode) → option_map_or is_whole o false ≡ true → option_map_or (λ k. at_least k S) o false ≡ true
  whole-read None e = e
  whole-read (Some k) e = whole-reads k e

  -- what its own entry leaves of a row lock, once it is kept
  row-stays : (c : Conn) (a : Act) (t : TableId) (r : Rid) (es : List Entry) (w2 : World) → w2.holds ≡ holds_by_agent head w c a → ByAgent head w c a
      → is_end a ≡ false
      → (a ≡ Free t r → ⊥) → keeps_mode (settled c (spared a (w.last c)) w.holds) c (Row t r) Ns ≡ true → Reading w2 c t r es
  unfolding DuesHeld
  row-stays c a t r es w2 is al nil free k = go (takes_away head c (hand_of head w c a) c (Row t r)) refl
    where
      whole : (m : Mode) → a ≡ Collapse t m → Reading w2 c t r es
      whole m p = tabled (subst (λ (z : List Hold). holds_at_least z c (Table t) S ≡ true) (sym is)
          (table-stays head w (λ k. at_least k S) (λ x y. at_least-joined S x y) c a c t s.tables (rw nil refl)
          (let due = s.whole_dues c t m (subst (ByAgent head w c) p al).1 in
          whole-read (held w.holds c (Table t)) (ap (λ o. option_map_or is_whole o false) due.0 ∙ due.1))))

      goes : RowGoes a c c t r → Reading w2 c t r es
      goes (ends e) = absurd (no-both (and-first _ _ e) nil)
      goes (frees p q) = absurd (free p)
      goes (collapses m p q) = whole m p

      go : (b : Bool) → takes_away head c (hand_of head w c a) c (Row t r) ≡ b → Reading w2 c t r es
      go true e = goes (row-goes head w c a c t r e)
      go false e = kept (subst (λ (z : List Hold). keeps_mode z c (Row t r) Ns ≡ true) (sym is)
          (keeps-mid head (λ m. at_least m Ns) (λ x y. at_least-joined Ns x y) w c a c (Row t r) (λ m q. row_name-is m t r q) e k))

  -- an own entry, that does not end the unit
  reading-own : (c : Conn) (a : Act) (t : TableId) (r : Rid) (es fs : List Entry) (w2 : World) → w2.holds ≡ holds_by_agent head w c a → ByAgent head w c a
      → is_end a ≡ false → (is_freed c t r es ≡ false → is_free_at t r a ≡ false) → Reading w c t r es → Reading w2 c t r fs
  reading-own c a t r es fs w2 is al nil free (tabled e) = tabled (subst (λ (z : List Hold). holds_at_least z c (Table t) S ≡ true) (sym is)
      (table-stays head w (λ k. at_least k S) (λ x y. at_least-joined S x y) c a c t s.tables (rw nil refl) e))
  reading-own c a t r es fs w2 is al nil free (kept e) = row-stays c a t r fs w2 is al nil
      (λ q. free-fresh head w (λ m. at_least m Ns) c t r (subst (ByAgent head w c) q al) e)
      (keeps-settled (λ m. at_least m Ns) c (spared a (w.last c)) w.holds c (Row t r) e)
  reading-own c a t r es fs w2 is al nil free (fresh l h q b m f) = row-stays c a t r fs w2 is al nil
      (λ z. no-both (ap (is_free_at t r) z ∙ and-both _ _ (table-same t) (rid-same r)) (free f))
      (subst (λ (z : Option Name). keeps_mode (settled c z w.holds) c (Row t r) Ns ≡ true) (sym (spares-none head w c t r a al l (free f)))
      (keeps-of (λ m. at_least m Ns) (settled c None w.holds) c (Row t r) (settled_one c None h)
      (find-mapped (is_hold_of c (Row t r)) (settled_one c None) (settled-of c None c (Row t r)) w.holds ∙ ap (option_map (settled_one c None)) q)
      (settled-keeps c h (hold-conn c (Row t r) h (find-passes (is_hold_of c (Row t r)) w.holds h q)) b)
      (ap (λ z. at_least z Ns) (mode-settled c None h) ∙ m)))

  -- another's entry
  reading-other : (c : Conn) (t : TableId) (r : Rid) (es fs : List Entry) (w2 : World) → ((n : Name) → hold_on w2.holds c n ≡ hold_on w.holds c n) → w2.last
      c ≡ w.last c
      → (is_freed c t r es ≡ false → is_freed c t r fs ≡ false) → Reading w c t r es → Reading w2 c t r fs
  reading-other c t r es fs w2 same last free (tabled e) = tabled (ap (λ o. option_map_or (λ k. at_least k S) (option_map (λ (h : Hold). h.mode) o) false)
      (same (Table t)) ∙ e)
  reading-other c t r es fs w2 same last free (kept e) = kept (ap (λ o. option_map_or (λ (h : Hold). is_kept h.term && at_least h.mode Ns) o false)
      (same (Row t r)) ∙ e)
  reading-other c t r es fs w2 same last free (fresh l h q b m f) = fresh (last ∙ l) h (same (Row t r) ∙ q) b m (free f)

  pub reading-after : (e : Entry) → Allowed head w e → (c : Conn) (t : TableId) (r : Rid) (es : List Entry) → ends_unit c e ≡ false → Reading w c t r (e ∷ es)
      → Reading (after head w e) c t r es
  reading-after e al c t r es nil read = go e.who refl al.2
    where
      go : (who : Who) → e.who ≡ who → By head w who e.act → Reading (after head w e) c t r es
      go Dispatcher q a = reading-other c t r (e ∷ es) es (after head w e) (λ n. ap (λ z. hold_on (holds_by head w z e.act) c n) q)
          (ap (λ z. last_by w.last z e.act c) q)
          (freed-other c t r e es (ap (λ z. is_own c (record { who = z; act = e.act })) q)) read
      go (Agent d) q a = at_conn (conn_eq d c) refl
        where
          own : (b : Bool) → conn_eq d c ≡ b → is_own c e ≡ b
          own b p = ap (λ z. is_own c (record { who = z; act = e.act })) q ∙ p

          at_conn : (b : Bool) → conn_eq d c ≡ b → Reading (after head w e) c t r es
          at_conn true p = reading-own c e.act t r (e ∷ es) es (after head w e)
              (ap (λ z. holds_by head w z e.act) (q ∙ ap Agent (conn-is d c p))) (subst (λ (z : Conn). ByAgent head w z e.act) (conn-is d c p) a.1)
              (rw (own true p) at nil) (freed-own c t r e es (own true p)) read
          at_conn false p = reading-other c t r (e ∷ es) es (after head w e)
              (λ n. ap (λ z. hold_on (holds_by head w z e.act) c n) q ∙ others-agent head w d e.act c n (conn-turned c d ∙ p))
              (ap (λ z. last_by w.last z e.act c) q ∙ at_conn-other w.last d (last_of e.act) c (conn-turned c d ∙ p))
              (freed-other c t r e es (own false p)) read
