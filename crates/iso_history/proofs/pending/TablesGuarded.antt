-- A table on which a connection holds S or more stays to the unit's end.
use Rattle.std.proofs.Common.{List, [], ◌∷◌, ◌≡◌, ◌⊎◌, inl, inr, ℕ, zero, suc, Bool, true, false, ◌&&◌, refl, ap, ◌∙◌, subst, map, drop, IsTrue, slice_index_or, slice_set}
use Rattle.iso_history.proofs.pending.Conns.{and-first, conn-turned, not-false}
use Rattle.iso_history.proofs.pending.ModeTests.{at_least-joined}
use Rattle.iso_history.proofs.pending.Prefixes.{SoundFrom, at-ground, at-sound}
use Rattle.iso_history.proofs.pending.ReadLocks.{has_read_lock, table-apart}
use Rattle.iso_history.proofs.pending.RowLocks.{or-left, table-stays}
use Rattle.iso_history.proofs.pending.Slots.{mapped_at, slots_at, table-cases}
use Rattle.iso_history.proofs.pending.Stays.{dispatcher-keeps, others-number, others-unit, same-settled, same-taken}
use Rattle.iso_history.specs.After.{after, world_from}
use Rattle.iso_history.specs.Facts.{IsSound}
use Rattle.iso_history.specs.Guards.{TableStays, TablesGuarded, ends_unit, is_end, is_others, world_at}
use Rattle.iso_history.specs.Holds.{holds_by}
use Rattle.iso_history.specs.Legal.{Allowed, By, ByAgent, Ground, GroundFrom}
use Rattle.iso_history.specs.Units.{unit_of, unit_of_maker}
use Rattle.iso_history.specs.Versions.{change_of, settled_by, slot_list, tables_by, taken_off, versions}
use Rattle.iso_history.specs.World.{Version, World}
use Rattle.iso_history.specs.Writes.{may_write}
use Rattle.iso_history.specs.declared.entry.Act.{Act}
use Rattle.iso_history.specs.declared.entry.Act.TheVariants.{Commit, Delete, Insert, Undo, Update}
use Rattle.iso_history.specs.declared.entry.Entry.{Entry}
use Rattle.iso_history.specs.declared.entry.Who.{Who}
use Rattle.iso_history.specs.declared.entry.Who.TheVariants.{Agent, Dispatcher}
use Rattle.iso_modes.specs.Modes.{at_least}
use Rattle.iso_modes.specs.declared.Mode.TheVariants.{Ns, S}
use Rattle.iso_queue.specs.Locks.{holds_at_least}
use Rattle.iso_types.specs.Ids.{conn_eq}
use Rattle.iso_types.specs.declared.head.Head.{Head}
use Rattle.iso_types.specs.declared.value.Conn.{Conn}
use Rattle.iso_types.specs.declared.value.Name.TheVariants.{Row, Table}
use Rattle.iso_types.specs.declared.value.Rid.{Rid}
use Rattle.iso_types.specs.declared.value.TableId.{TableId}

-- a list of which each item stays
map-same : (f : List Version → List Version) (xs : List (List Version)) → ((k : ℕ) → f (slice_index_or xs k []) ≡ slice_index_or xs k []) → map f xs ≡ xs
map-same f [] h = refl
map-same f (x ∷ xs) h = ap (λ z. z ∷ map f xs) (h zero) ∙ ap (λ z. x ∷ z) (map-same f xs (λ k. h (suc k)))

module _ (head : Head) (w : World) (s : IsSound head w) where
  -- another's write is in another table
  set-apart : (d c : Conn) (k t : TableId) (new : List (List Version)) → conn_eq d c ≡ false → holds_at_least w.holds c (Table t) S ≡ true → may_write w d
      k ≡ true
      → slots_at (slice_set w.tables k.0 new) t ≡ slot_list w t
  set-apart d c k t new ne reads may = go (table-cases w.tables k new t)
    where
      go : (slots_at (slice_set w.tables k.0 new) t ≡ slots_at w.tables t) ⊎ ((t ≡ k) × (slots_at (slice_set w.tables k.0 new) t ≡ new)) → slots_at
          (slice_set w.tables k.0 new) t ≡ slot_list w t
      go (inl e) = e
      go (inr p) = absurd (table-apart head w.holds s.together s.backed d c k ne may
          (subst (λ (z : TableId). holds_at_least w.holds c (Table z) S ≡ true) p.0 reads))

  reads-rows : (c : Conn) (t : TableId) (r : Rid) → holds_at_least w.holds c (Table t) S ≡ true → has_read_lock w.holds c t r ≡ true
  reads-rows c t r e = or-left _ (holds_at_least w.holds c (Row t r) Ns) e

  -- one law for each kind that changes versions
  table-agent : (d : Conn) (a : Act) (c : Conn) (t : TableId) → ByAgent head w d a → conn_eq d c ≡ false → holds_at_least w.holds c (Table t) S ≡ true
      → slots_at (tables_by w (unit_of w d) (change_of a)) t ≡ slot_list w t
  table-agent d (Insert k q row) c t al ne reads = set-apart d c k t _ ne reads al.1
  table-agent d (Update k q row) c t al ne reads = set-apart d c k t _ ne reads (and-first _ _ al.1)
  table-agent d (Delete k q) c t al ne reads = set-apart d c k t _ ne reads (and-first _ _ al.1)
  table-agent d (Undo n) c t al ne reads = mapped_at (λ slots. map (taken_off n) slots) w.tables t.0 [] [] refl
      ∙ map-same (taken_off n) (slot_list w t) (λ k. same-taken n (versions w t (record { 0 = k }))
      (others-number head w s d c n t (record { 0 = k }) ne (reads-rows c t (record { 0 = k }) reads) al.1))
  table-agent d Commit c t al ne reads = mapped_at (λ slots. map (settled_by (unit_of w d)) slots) w.tables t.0 [] [] refl
      ∙ map-same (settled_by (unit_of w d)) (slot_list w t) (λ k. same-settled (unit_of w d) (versions w t (record { 0 = k }))
      (others-unit head w s d c t (record { 0 = k }) ne (reads-rows c t (record { 0 = k }) reads)))
  table-agent d _ c t al ne reads = refl

  table-after : (e : Entry) → Allowed head w e → (c : Conn) (t : TableId) → holds_at_least w.holds c (Table t) S ≡ true → IsTrue (is_others c e)
      → slot_list (after head w e) t ≡ slot_list w t
  table-after e al c t reads o = go e.who al.2 o
    where
      go : (who : Who) → By head w who e.act → IsTrue (is_others c (record { who = who; act = e.act })) → slots_at
          (tables_by w (unit_of_maker w who) (change_of e.act)) t ≡ slot_list w t
      go Dispatcher a o = ap (λ z. slots_at (tables_by w 0 z) t) (dispatcher-keeps head w e.act a)
      go (Agent d) a o = table-agent d e.act c t a.1 (not-false (conn_eq d c) o) reads

  -- the lock stays
  lock-after : (e : Entry) (c : Conn) (t : TableId) → ends_unit c e ≡ false → holds_at_least w.holds c (Table t) S ≡ true
      → holds_at_least (after head w e).holds c (Table t) S ≡ true
  lock-after e c t nil reads = go e.who nil
    where
      swapped : (a b : Bool) → (a && b) ≡ false → (b && a) ≡ false
      swapped true b q = rw q refl
      swapped false true q = refl
      swapped false false q = refl

      go : (who : Who) → ends_unit c (record { who = who; act = e.act }) ≡ false → holds_at_least (holds_by head w who e.act) c (Table t) S ≡ true
      go Dispatcher q = reads
      go (Agent d) q = table-stays head w (λ k. at_least k S) (λ x y. at_least-joined S x y) d e.act c t s.tables
          (swapped (conn_eq c d) (is_end e.act) (ap (λ z. z && is_end e.act) (conn-turned c d) ∙ q)) reads

module _ (head : Head) where
  table-from : (w : World) (c : Conn) (t : TableId) (es : List Entry) → GroundFrom head w es → SoundFrom head w es → holds_at_least w.holds c (Table t) S ≡ true
      → TableStays head w c t es
  unfolding GroundFrom TableStays world_from
  table-from w c t [] g s reads = tt
  table-from w c t (e ∷ es) g s reads = (
    table-after head w (s zero) e g.0 c t reads,
    λ goes. table-from (after head w e) c t es g.1 (λ k. s (suc k)) (lock-after head w (s zero) e c t (not-false (ends_unit c e) goes) reads),
  )

  pub tables_guarded : (es : List Entry) → Ground head es → ((k : ℕ) → IsSound head (world_at head es k)) → TablesGuarded head es
  tables_guarded es g s k c t reads = table-from (world_at head es k) c t (drop k es) (at-ground head es k g) (at-sound head es k s) reads
