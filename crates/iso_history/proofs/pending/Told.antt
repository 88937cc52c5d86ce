-- Each entry tells of a slot what it makes of its versions.
use Rattle.std.proofs.Common.{List, [], ◌∷◌, ◌++◌, ◌≡◌, ◌<◌, ◌+◌, inl, inr, ℕ, Bool, true, false, ◌&&◌, refl, ap, sym, ◌∙◌, arith, Some, None, Option, subst, length, unwrap_or}
use Rattle.iso_history.proofs.pending.Conns.{and-both, and-first, and-rest, at_conn-cases, conn-is, no-both, rid-is, rid-same, table-is, table-same}
use Rattle.iso_history.proofs.pending.Left.{length-more}
use Rattle.iso_history.proofs.pending.Makers.{MakerOf, clear-of, each-map, makers-each}
use Rattle.iso_history.proofs.pending.MakersAfter.{runs-unit}
use Rattle.iso_history.proofs.pending.Pends.{change-fits}
use Rattle.iso_history.proofs.pending.ReadLocks.{has_read_lock, write-reads}
use Rattle.iso_history.proofs.pending.Slots.{add-cases, add-there, set-cases, set-there, table-there, versions-mapped, versions-past, versions_at}
use Rattle.iso_history.proofs.pending.Stays.{readers-own}
use Rattle.iso_history.proofs.pending.Telling.{TellsOf, told-beside, told-commit_apart, told-commit_own, told-end, told-more, told-new, told-undo}
use Rattle.iso_history.specs.After.{after}
use Rattle.iso_history.specs.Facts.{IsSound}
use Rattle.iso_history.specs.Legal.{Allowed, By, ByAgent, ByDispatcher}
use Rattle.iso_history.specs.Piles.{AllPiled}
use Rattle.iso_history.specs.Records.{change_note, note_of, records_by}
use Rattle.iso_history.specs.Settled.{Telling, change_told, told, told_by}
use Rattle.iso_history.specs.Units.{turn_of, turn_of_agent, turn_of_dispatcher, unit_by, unit_of, unit_of_maker}
use Rattle.iso_history.specs.Units.Turn.{Begins}
use Rattle.iso_history.specs.Versions.{change_of, head_record, next_rid, pending_version, settled_by, slots, tables_by, taken_off, versions}
use Rattle.iso_history.specs.Versions.Change.{Adds, Settles, Takes, Writes}
use Rattle.iso_history.specs.World.{Note, Version, World, at_conn}
use Rattle.iso_history.specs.declared.entry.Act.{Act}
use Rattle.iso_history.specs.declared.entry.Act.TheVariants.{Commit, Delete, Dispatch, Insert, Rollback, Undo, Update}
use Rattle.iso_history.specs.declared.entry.Entry.{Entry}
use Rattle.iso_history.specs.declared.entry.Who.{Who}
use Rattle.iso_history.specs.declared.entry.Who.TheVariants.{Agent, Dispatcher}
use Rattle.iso_types.specs.Ids.{rid_eq, table_eq}
use Rattle.iso_types.specs.declared.desk.Phase.TheVariants.{Running}
use Rattle.iso_types.specs.declared.head.Head.{Head}
use Rattle.iso_types.specs.declared.value.Conn.{Conn}
use Rattle.iso_types.specs.declared.value.Rid.{Rid}
use Rattle.iso_types.specs.declared.value.TableId.{TableId}
use Rattle.iso_types.specs.declared.value.Value.{Value}
use Rattle.iso_history.specs.Phases.{phase}

-- what is told so far stands for the world's slot
abbrev pub Tells : World → TableId → Rid → Telling → Type 0
Tells w t r s = TellsOf w.unit (length w.records) (versions w t r) t r s

module _ (head : Head) (w : World) (sound : IsSound head w) (t : TableId) (r : Rid) (s : Telling) (h : Tells w t r s) where
  -- a change makes one record, and is told
  told-change : (c : Conn) (u : TableId) (q : Rid) (row : Option (List Value)) (note : Note) (tables : List (List (List Version))) → phase w c ≡ Running
      → ((table_eq u t && rid_eq q r) ≡ true → versions_at tables t r ≡ pending_version w (unit_of w c) row ∷ versions w t r)
      → ((table_eq u t && rid_eq q r) ≡ false → versions_at tables t r ≡ versions w t r)
      → TellsOf w.unit (length (w.records ++ note ∷ [])) (versions_at tables t r) t r (change_told s c u q row)
  told-change c u q row note tables runs here beside = go (table_eq u t && rid_eq q r) refl
    where
      counted : {vs : List Version} → TellsOf w.unit (length w.records + 1) vs t r (change_told s c u q row) → versions_at tables t r ≡ vs
          → TellsOf w.unit (length (w.records ++ note ∷ [])) (versions_at tables t r) t r (change_told s c u q row)
      counted {vs} x e = subst (λ (z : ℕ). TellsOf w.unit z (versions_at tables t r) t r (change_told s c u q row)) (sym (length-more w.records note))
          (subst (λ (z : List Version). TellsOf w.unit (length w.records + 1) z t r (change_told s c u q row)) (sym e) x)

      go : (b : Bool) → (table_eq u t && rid_eq q r) ≡ b → TellsOf w.unit (length (w.records ++ note ∷ [])) (versions_at tables t r) t r
          (change_told s c u q row)
      go true e = counted (told-new w.unit (length w.records) (versions w t r) t r s c u q row (unit_of w c) e (runs-unit head w sound c runs) h) (here e)
      go false e = counted (told-beside w.unit (length w.records) (versions w t r) t r s c u q row e h) (beside e)

  at-slot : (u : TableId) (q : Rid) → (table_eq u t && rid_eq q r) ≡ true → (u ≡ t) × (q ≡ r)
  at-slot u q e = (table-is u t (and-first _ _ e), rid-is q r (and-rest (table_eq u t) (rid_eq q r) e))

  slot-at : (u : TableId) (q : Rid) → t ≡ u → r ≡ q → (table_eq u t && rid_eq q r) ≡ true
  slot-at u q a b = and-both _ _ (ap (λ z. table_eq u z) a ∙ table-same u) (ap (λ z. rid_eq q z) b ∙ rid-same q)

  told-write : (c : Conn) (u : TableId) (q : Rid) (row : Option (List Value)) → phase w c ≡ Running → q.0 < slots w u
      → TellsOf w.unit (length (records_by w (unit_of w c) (Writes u q row))) (versions_at (tables_by w (unit_of w c) (Writes u q row)) t r) t r
      (change_told s c u q row)
  told-write c u q row runs lt = told-change c u q row (change_note w (unit_of w c) u q (head_record (versions w u q))) tables runs here beside
    where
      tables : List (List (List Version))
      tables = tables_by w (unit_of w c) (Writes u q row)

      here : (table_eq u t && rid_eq q r) ≡ true → versions_at tables t r ≡ pending_version w (unit_of w c) row ∷ versions w t r
      here e = let p = at-slot u q e in
          subst (λ (z : TableId). versions_at tables z r ≡ pending_version w (unit_of w c) row ∷ versions w z r) p.0
          (subst (λ (z : Rid). versions_at tables u z ≡ pending_version w (unit_of w c) row ∷ versions w u z) p.1
          (set-there w.tables u q (pending_version w (unit_of w c) row ∷ versions w u q) (table-there w.tables u q.0 lt) lt))

      beside : (table_eq u t && rid_eq q r) ≡ false → versions_at tables t r ≡ versions w t r
      beside e = elim (set-cases w.tables u q (pending_version w (unit_of w c) row ∷ versions w u q) t r)
          [ inl p ↦ p | inr p ↦ absurd (no-both (slot-at u q p.0 p.1) e) ]

  told-insert : (c : Conn) (u : TableId) (q : Rid) (row : List Value) → phase w c ≡ Running → u.0 < length w.tables → q ≡ next_rid w u
      → TellsOf w.unit (length (records_by w (unit_of w c) (Adds u row))) (versions_at (tables_by w (unit_of w c) (Adds u row)) t r) t r
      (change_told s c u q (Some row))
  told-insert c u q row runs lt is = told-change c u q (Some row) (change_note w (unit_of w c) u (next_rid w u) None) tables runs here beside
    where
      tables : List (List (List Version))
      tables = tables_by w (unit_of w c) (Adds u row)

      made : List Version
      made = pending_version w (unit_of w c) (Some row) ∷ []

      none : versions w u (next_rid w u) ≡ []
      none = versions-past w.tables u (next_rid w u) (omega arith)

      here : (table_eq u t && rid_eq q r) ≡ true → versions_at tables t r ≡ pending_version w (unit_of w c) (Some row) ∷ versions w t r
      here e = let p = at-slot u q e in
          subst (λ (z : TableId). versions_at tables z r ≡ pending_version w (unit_of w c) (Some row) ∷ versions w z r) p.0
          (subst (λ (z : Rid). versions_at tables u z ≡ pending_version w (unit_of w c) (Some row) ∷ versions w u z) (sym is ∙ p.1)
          (add-there w.tables u made lt ∙ ap (λ z. pending_version w (unit_of w c) (Some row) ∷ z) (sym none)))

      beside : (table_eq u t && rid_eq q r) ≡ false → versions_at tables t r ≡ versions w t r
      beside e = elim (add-cases w.tables u made t r) [
        | inl p ↦ p
        | inr p ↦ absurd (no-both (slot-at u q p.0 (ap (λ (n : ℕ). record { 0 = n }) p.1 ∙ sym is)) e)
      ]

  told-commit : (c : Conn) → phase w c ≡ Running
      → TellsOf (at_conn w.unit c None) (length w.records) (versions_at (tables_by w (unit_of w c) Settles) t r) t r (told_by t r s c Commit)
  unfolding AllPiled
  told-commit c runs = subst (λ (z : List Version). TellsOf (at_conn w.unit c None) (length w.records) z t r (told_by t r s c Commit))
      (sym (versions-mapped (settled_by (unit_of w c)) refl w.tables t r)) (go (has_read_lock w.holds c t r) refl)
    where
      is : w.unit c ≡ Some (unit_of w c)
      is = runs-unit head w sound c runs

      go : (b : Bool) → has_read_lock w.holds c t r ≡ b → TellsOf (at_conn w.unit c None) (length w.records) (settled_by (unit_of w c) (versions w t r)) t r
          (told_by t r s c Commit)
      go true e = told-commit_own w.unit (length w.records) (versions w t r) t r s c (unit_of w c) w.records (λ d u p q. sound.units.apart d c u p q) is
          (sound.piled t r)
          (readers-own head w sound c t r e) h
      go false e = told-commit_apart w.unit (length w.records) (versions w t r) t r s c (unit_of w c) is
          (each-map head w (MakerOf head w.unit w.holds t r) (λ v. w.unit c ≡ Some v.unit → ⊥) (λ v m own. no-both (reads v m own) e) (versions w t r)
          (makers-each head w sound.makers t r)) h
        where
          reads : (v : Version) (m : MakerOf head w.unit w.holds t r v) → w.unit c ≡ Some v.unit → has_read_lock w.holds c t r ≡ true
          reads v m own = subst (λ (z : Conn). has_read_lock w.holds z t r ≡ true) (conn-is m.conn c (sound.units.apart m.conn c v.unit m.open_unit own))
              (write-reads head w.holds sound.together sound.backed m.conn t r m.locks)

  -- one law for each kind that is told
  told-agent : (c : Conn) (a : Act) → ByAgent head w c a
      → TellsOf (unit_by w (turn_of_agent c a)) (length (records_by w (unit_of w c) (change_of a)))
      (versions_at (tables_by w (unit_of w c) (change_of a)) t r) t r (told_by t r s c a)
  told-agent c (Insert u q row) al = told-insert c u q row al.0.0 (change-fits head w sound c (Insert u q row) al) al.3
  told-agent c (Update u q row) al = told-write c u q (Some row) al.0.0 (change-fits head w sound c (Update u q row) al)
  told-agent c (Delete u q) al = told-write c u q None al.0.0 (change-fits head w sound c (Delete u q) al)
  told-agent c (Undo n) al =
      subst (λ (z : ℕ). TellsOf w.unit z (versions_at (tables_by w (unit_of w c) (Takes n)) t r) t r (told_by t r s c (Undo n)))
      (sym (length-more w.records (record (note_of w.records n) { unit = unit_of w c; undoes = Some n })))
      (subst (λ (z : List Version). TellsOf w.unit (length w.records + 1) z t r (told_by t r s c (Undo n)))
      (sym (versions-mapped (taken_off n) refl w.tables t r))
      (told-undo w.unit (length w.records) (versions w t r) t r s n h))
  told-agent c Commit al = told-commit c al.0
  told-agent c (Rollback code reason) al = (told-end w.unit (length w.records) (versions w t r) t r s c (clear-of head w c al.1 sound.piled t r) h).0
  told-agent c Act.Ended al = (told-end w.unit (length w.records) (versions w t r) t r s c (clear-of head w c al.1 sound.piled t r) h).0
  told-agent c _ al = h

  told-dispatcher : (a : Act) → ByDispatcher head w a
      → TellsOf (unit_by w (turn_of_dispatcher a)) (length (records_by w 0 (change_of a))) (versions_at (tables_by w 0 (change_of a)) t r) t r s
  told-dispatcher (Dispatch line c) al = told-more w.unit (length w.records) (versions w t r) t r s (unit_by w (Begins c)) begins h
    where
      begins : (d : Conn) (u : ℕ) → w.unit d ≡ Some u → unit_by w (Begins c) d ≡ Some u
      begins d u e = at_conn-cases w.unit c (Some (unwrap_or (w.unit c) (w.begun + 1))) d (λ o. o ≡ Some u)
          (λ is. let q : w.unit c ≡ Some u = subst (λ (z : Conn). w.unit z ≡ Some u) (conn-is d c is) e in rw q refl)
          (λ ne. e)
  told-dispatcher (Insert u q row) al = absurd al
  told-dispatcher (Update u q row) al = absurd al
  told-dispatcher (Delete u q) al = absurd al
  told-dispatcher (Undo n) al = absurd al
  told-dispatcher Commit al = absurd al
  told-dispatcher _ al = h

  pub told-after : (e : Entry) → Allowed head w e → Tells (after head w e) t r (told t r s e)
  told-after e al = go e.who al.2
    where
      go : (who : Who) → By head w who e.act → TellsOf (unit_by w (turn_of who e.act)) (length (records_by w (unit_of_maker w who) (change_of e.act)))
          (versions_at (tables_by w (unit_of_maker w who) (change_of e.act)) t r) t r (told t r s (record { who = who; act = e.act }))
      go Dispatcher a = told-dispatcher e.act a
      go (Agent c) a = told-agent c e.act a.1
