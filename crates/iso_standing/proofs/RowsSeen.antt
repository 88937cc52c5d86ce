-- A row that a connection reads to stay shows the same until its own change.
use Rattle.std.proofs.Common.{List, [], ◌∷◌, ◌≡◌, ◌<◌, ◌⊎◌, inl, inr, ℕ, Bool, true, false, not, ◌&&◌, ◌||◌, refl, ap, sym, ◌∙◌, arith, Some, None, Option, if◌then◌else◌}
use Rattle.std.proofs.lemmas.Bool.Decides.{nat_tests}
use Rattle.std.specs.Option.{option_map_or}
use Rattle.std.specs.Prelude.{◌==◌, is_none, unwrap_or}
use Rattle.iso_conduct.specs.Conduct.{is_by}
use Rattle.iso_history.proofs.log.Fitted.{present-fits}
use Rattle.iso_history.proofs.pending.Conns.{no-both}
use Rattle.iso_history.proofs.pending.Containing.{Each}
use Rattle.iso_history.proofs.pending.Makers.{IfPending}
use Rattle.iso_history.proofs.pending.Reading.{Reading, fresh, kept, reading-after, reading-locks, tabled}
use Rattle.iso_history.proofs.pending.RowsGuarded.{slot-after}
use Rattle.iso_history.proofs.pending.Slots.{set-cases, slot-there, versions_at}
use Rattle.iso_history.proofs.pending.Stays.{dispatcher-keeps, readers-own}
use Rattle.iso_history.specs.After.{after}
use Rattle.iso_history.specs.Facts.{IsSound}
use Rattle.iso_history.specs.Fitted.{RowsFit}
use Rattle.iso_history.specs.Guards.{ends_unit, is_end, is_free_at, is_freed, is_own}
use Rattle.iso_history.specs.Legal.{Allowed}
use Rattle.iso_history.specs.Makers.{by_agent}
use Rattle.iso_history.specs.Units.{unit_of}
use Rattle.iso_history.specs.Versions.{change_of, committed, is_changed_beside, is_dead, is_pending, is_pending_beside, pending_version, present, slots, tables_by, versions, view}
use Rattle.iso_history.specs.Versions.Change.{Writes}
use Rattle.iso_history.specs.World.{Version, World}
use Rattle.iso_history.specs.declared.entry.Act.{Act}
use Rattle.iso_history.specs.declared.entry.Act.TheVariants.{Commit, Delete, Insert, Undo, Update}
use Rattle.iso_history.specs.declared.entry.Entry.{Entry}
use Rattle.iso_history.specs.declared.entry.Who.{Who}
use Rattle.iso_history.specs.declared.entry.Who.TheVariants.{Agent, Dispatcher}
use Rattle.iso_types.specs.Head.{row_fits}
use Rattle.iso_types.specs.Ids.{conn_eq}
use Rattle.iso_types.specs.declared.head.Head.{Head}
use Rattle.iso_types.specs.declared.value.Conn.{Conn}
use Rattle.iso_types.specs.declared.value.Rid.{Rid}
use Rattle.iso_types.specs.declared.value.TableId.{TableId}
use Rattle.iso_types.specs.declared.value.Value.{Value}

-- the connection has a lock for reading the row that stays, and this row is in the slot
abbrev pub Sees : World → Conn → TableId → Rid → List Value → Type 0
Sees w c t r row = Reading w c t r [] × (present (versions w t r) ≡ Some row)

-- ---- lists of versions

-- a slot with a row that no other has changed is not dead
pub live : (vs : List Version) (row : List Value) → present vs ≡ Some row → is_dead vs ≡ false
live [] row e = cc
live (v ∷ vs) row e = go v.pending refl v.row e
  where
    go : (p : Bool) → v.pending ≡ p → (o : Option (List Value)) → o ≡ Some row
        → (not (p || is_pending vs) && is_none (if p then committed vs else o)) ≡ false
    go true q o f = refl
    go false q None f = cc
    go false q (Some x) f = both (is_pending vs)
      where
        both : (b : Bool) → (not b && false) ≡ false
        both true = refl
        both false = refl

off : (a b rest : Bool) → (a ≡ true → b ≡ true) → rest ≡ false → ((a && not b) || rest) ≡ false
off true true rest h e = e
off true false rest h e = let z = h refl in cc
off false b rest h e = e

-- where all that is pending is the unit's own, none is another's
own-pending : (o : Option ℕ) (vs : List Version) → Each (IfPending (λ v. o ≡ Some v.unit)) vs → is_pending_beside (unwrap_or o 0) vs ≡ false
own-pending o [] h = refl
own-pending o (v ∷ vs) h = off v.pending (v.unit == unwrap_or o 0) (is_pending_beside (unwrap_or o 0) vs) (λ p. own (h.0 p)) (own-pending o vs h.1)
  where
    same : (a b : ℕ) → a ≡ b → (a == b) ≡ true
    same a b e = grind (arith, nat_tests)

    own : o ≡ Some v.unit → (v.unit == unwrap_or o 0) ≡ true
    own e = same v.unit (unwrap_or o 0) (sym (ap (λ z. unwrap_or z 0) e))

module _ (head : Head) (w : World) (s : IsSound head w) (c : Conn) where
  -- the slot is there
  pub seen-there : (t : TableId) (r : Rid) (row : List Value) → Sees w c t r row → r.0 < slots w t
  seen-there t r row h = slot-there w.tables t r (λ e. none (sym (ap present e) ∙ h.1))
    where
      none : None ≡ Some row → ⊥
      none e = cc

  seen-alone : (t : TableId) (r : Rid) (row : List Value) → Sees w c t r row → is_changed_beside w c t r ≡ false
  seen-alone t r row h = own-pending (w.unit c) (versions w t r) (readers-own head w s c t r (reading-locks w c t r [] h.0))

  -- it is what the connection sees
  pub seen-view : (t : TableId) (r : Rid) (row : List Value) → Sees w c t r row → view w c t r ≡ Some row
  seen-view t r row h = rw (seen-alone t r row h) h.1

  -- it fits its table
  pub seen-fits : RowsFit head w.tables → (t : TableId) (r : Rid) (row : List Value) → Sees w c t r row → row_fits head t row ≡ true
  seen-fits fit t r row h = present-fits head t (versions w t r) row (fit t r) h.1

  -- ---- what an entry leaves

  -- the lock stays, where the entry is no end and no Free of the row
  reading-on : (e : Entry) → Allowed head w e → (t : TableId) (r : Rid) → ends_unit c e ≡ false → (is_own c e ≡ true → is_free_at t r e.act ≡ false)
      → Reading w c t r [] → Reading (after head w e) c t r []
  reading-on e al t r nil free read = reading-after head w s e al c t r [] nil (further read)
    where
      next : (b : Bool) → is_own c e ≡ b
          → option_map_or (λ (x : Entry). is_free_at t r x.act) (if b then Some e else None) false ≡ false
      next true q = free q
      next false q = refl

      freed : is_freed c t r (e ∷ []) ≡ false
      freed = next (is_own c e) refl

      further : Reading w c t r [] → Reading w c t r (e ∷ [])
      further (tabled k) = tabled k
      further (kept k) = kept k
      further (fresh l h q b m f) = fresh l h q b m freed

  -- another's entry leaves it all
  pub seen-other : (e : Entry) → Allowed head w e → is_by c e.who ≡ false → (t : TableId) (r : Rid) (row : List Value) → Sees w c t r row
      → Sees (after head w e) c t r row
  seen-other e al other t r row h = go e.who e.act al other
    where
      there : r.0 < slots w t
      there = seen-there t r row h

      go : (who : Who) (a : Act) → Allowed head w (record { who = who; act = a }) → is_by c who ≡ false
          → Sees (after head w (record { who = who; act = a })) c t r row
      go Dispatcher a al o = (
        reading-on (record { who = Dispatcher; act = a }) al t r refl (λ k. absurd (no k)) h.0,
        ap (λ z. present (versions_at (tables_by w 0 z) t r)) (dispatcher-keeps head w a al.2) ∙ h.1,
      )
        where
          no : false ≡ true → ⊥
          no k = cc
      go (Agent d) a al o = (
        reading-on (record { who = Agent d; act = a }) al t r (rw o refl) (λ k. absurd (no-both k o)) h.0,
        ap present (slot-after head w s (record { who = Agent d; act = a }) al c t r [] h.0 there (rw o refl)) ∙ h.1,
      )

  -- the own act leaves the row
  abbrev pub LeavesRow : TableId → Rid → Act → Type 0
  LeavesRow t r (Update u q row) = t ≡ u → r ≡ q → ⊥
  LeavesRow t r (Delete u q) = t ≡ u → r ≡ q → ⊥
  LeavesRow t r (Insert u q row) = ⊥
  LeavesRow t r (Undo n) = ⊥
  LeavesRow t r Commit = ⊥
  LeavesRow t r _ = Unit {0}

  written-aside : (t : TableId) (r : Rid) (u : TableId) (q : Rid) (row : Option (List Value)) → (t ≡ u → r ≡ q → ⊥)
      → versions_at (tables_by w (unit_of w c) (Writes u q row)) t r ≡ versions w t r
  written-aside t r u q row l = go (set-cases w.tables u q new t r)
    where
      new : List Version
      new = pending_version w (unit_of w c) row ∷ versions w u q

      slots_then : List (List (List Version))
      slots_then = tables_by w (unit_of w c) (Writes u q row)

      go : (versions_at slots_then t r ≡ versions_at w.tables t r) ⊎ ((t ≡ u) × (r ≡ q) × (versions_at slots_then t r ≡ new))
          → versions_at slots_then t r ≡ versions w t r
      go (inl e) = e
      go (inr p) = absurd (l p.0 p.1)

  pub left-by : (t : TableId) (r : Rid) (a : Act) → LeavesRow t r a → versions_at (tables_by w (unit_of w c) (change_of a)) t r ≡ versions w t r
  left-by t r (Update u q row) l = written-aside t r u q (Some row) l
  left-by t r (Delete u q) l = written-aside t r u q None l
  left-by t r (Insert u q row) l = absurd l
  left-by t r (Undo n) l = absurd l
  left-by t r Commit l = absurd l
  left-by t r _ l = refl

  -- an own entry that leaves the row, and its lock
  pub seen-own : (a : Act) → Allowed head w (by_agent c a) → is_end a ≡ false → (t : TableId) (r : Rid) (row : List Value) → LeavesRow t r a
      → is_free_at t r a ≡ false → Sees w c t r row → Sees (after head w (by_agent c a)) c t r row
  seen-own a al goes t r row leaves free h = (
    reading-on (by_agent c a) al t r (never (conn_eq c c) (is_end a) goes) (λ k. free) h.0,
    ap present (left-by t r a leaves) ∙ h.1,
  )
    where
      never : (x y : Bool) → y ≡ false → (x && y) ≡ false
      never true y e = e
      never false y e = refl
