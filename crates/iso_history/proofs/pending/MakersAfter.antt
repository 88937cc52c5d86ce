-- Each entry leaves pending versions their makers.
use Rattle.std.proofs.Common.{◌+◌, List, ◌≡◌, ℕ, Bool, true, false, ◌||◌, refl, ap, sym, ◌∙◌, Some, None, Option, subst, is_some, unwrap_or, if◌then◌else◌}
use Rattle.std.specs.Option.{option_map_or}
use Rattle.iso_history.proofs.pending.Conns.{and-first, and-rest, at_conn-cases, conn-is, no-both, row_name-same}
use Rattle.iso_history.proofs.pending.Containing.{Each}
use Rattle.iso_history.proofs.pending.Dues.{added-new, added-raised}
use Rattle.iso_history.proofs.pending.Kept.{keeps-all_placed, keeps-briefs, keeps-of, keeps_if}
use Rattle.iso_history.proofs.pending.Makers.{NotOf, IfPending, MakerOf, clear-of, each-changed, each-map, each-settled, maker-stays, makers-each, makers-end, makers-of, settled-none}
use Rattle.iso_history.proofs.pending.ModeTests.{at_least-joined, at_least-second, covers-joined, x-least}
use Rattle.iso_history.proofs.pending.RowLocks.{or-left, or-right, table-stays}
use Rattle.iso_history.proofs.pending.Slots.{versions-mapped, versions_at}
use Rattle.iso_history.proofs.pending.Waiting.{running-open}
use Rattle.iso_history.proofs.pending.WritesAwaits.{held-keeps}
use Rattle.iso_history.proofs.pending.WritesPlaced.{held-settled}
use Rattle.iso_history.specs.After.{after}
use Rattle.iso_history.specs.Facts.{IsSound, LinesOpen, MakersHold, has_write_lock, keeps_mode}
use Rattle.iso_history.specs.Guards.{is_end}
use Rattle.iso_history.specs.Holds.{holds_by, holds_by_agent, inheriting, request_on, spared}
use Rattle.iso_history.specs.Legal.{Allowed, By, ByAgent, ByDispatcher}
use Rattle.iso_history.specs.Phases.{phase}
use Rattle.iso_history.specs.Units.{turn_of, turn_of_agent, turn_of_dispatcher, unit_by, unit_of, unit_of_maker}
use Rattle.iso_history.specs.Units.Turn.{Begins}
use Rattle.iso_history.specs.Versions.{Change, change_of, next_rid, pending_version, settled_by, tables_by, versions}
use Rattle.iso_history.specs.Versions.Change.{Adds, Settles, Writes}
use Rattle.iso_history.specs.World.{World}
use Rattle.iso_history.specs.Writes.{may_change, may_write}
use Rattle.iso_history.specs.declared.entry.Act.{Act}
use Rattle.iso_history.specs.declared.entry.Act.TheVariants.{Commit, Delete, Dispatch, Insert, Rollback, Undo, Update}
use Rattle.iso_history.specs.declared.entry.Entry.{Entry}
use Rattle.iso_history.specs.declared.entry.Who.{Who}
use Rattle.iso_history.specs.declared.entry.Who.TheVariants.{Agent, Dispatcher}
use Rattle.iso_modes.specs.Modes.{at_least, covers, joined}
use Rattle.iso_modes.specs.Terms.{is_kept}
use Rattle.iso_modes.specs.declared.Mode.{Mode}
use Rattle.iso_modes.specs.declared.Mode.TheVariants.{Ix, X}
use Rattle.iso_modes.specs.declared.Term.{Term}
use Rattle.iso_modes.specs.declared.Term.TheVariants.{Kept as KeptTerm}
use Rattle.iso_queue.specs.Locks.{Hold, Request, added, hold_on, holds_at_least, is_covered, placed, settled}
use Rattle.iso_types.specs.Ids.{name_eq}
use Rattle.iso_types.specs.declared.desk.Phase.TheVariants.{Running}
use Rattle.iso_types.specs.declared.head.Head.{Head}
use Rattle.iso_types.specs.declared.value.Conn.{Conn}
use Rattle.iso_types.specs.declared.value.Name.TheVariants.{Row, Table}
use Rattle.iso_types.specs.declared.value.Rid.{Rid}
use Rattle.iso_types.specs.declared.value.TableId.{TableId}
use Rattle.iso_types.specs.declared.value.Value.{Value}

-- a kept request is kept
added-keeps : (p : Mode → Bool) (holds : List Hold) (c : Conn) (r : Request) → name_eq r.name r.name ≡ true → r.term ≡ KeptTerm → p r.mode ≡ true
    → ((a : Mode) → p (joined a r.mode) ≡ true) → keeps_if p (added holds c r) c r.name ≡ true
added-keeps p holds c r same k m join = go (hold_on holds c r.name) refl
  where
    go : (o : Option Hold) → hold_on holds c r.name ≡ o → keeps_if p (added holds c r) c r.name ≡ true
    go None e = keeps-of p (added holds c r) c r.name _ (added-new holds c r same e) (ap is_kept k) m
    go (Some h) e = keeps-of p (added holds c r) c r.name _ (added-raised holds c r h e) (term_is h.term) (join h.mode)
      where
        term_is : (t : Term) → is_kept (if is_kept t then KeptTerm else r.term) ≡ true
        term_is t = at_test (is_kept t)
          where
            at_test : (b : Bool) → is_kept (if b then KeptTerm else r.term) ≡ true
            at_test true = refl
            at_test false = ap is_kept k

module _ (head : Head) (w : World) (s : IsSound head w) where
  -- the unit of who runs is open
  pub runs-unit : (c : Conn) → phase w c ≡ Running → w.unit c ≡ Some (unit_of w c)
  unfolding LinesOpen
  runs-unit c p = let k = running-open w c p in go (w.unit c) refl (s.opened c k.0 k.1)
    where
      go : (o : Option ℕ) → w.unit c ≡ o → is_some o ≡ true → o ≡ Some (unwrap_or o 0)
      go None e h = absurd (no-both refl (sym h))
      go (Some u) e h = refl

  -- an inserted row is held for writing
  insert-lock : (c : Conn) (t : TableId) (r : Rid) (row : List Value) → has_write_lock head (holds_by_agent head w c (Insert t r row)) c t r ≡ true
  insert-lock c t r row = go (is_covered head w.holds c (Row t r) X) refl
    where
      a : Act
      a = Insert t r row

      mid : List Hold
      mid = settled c (spared a (w.last c)) w.holds

      go : (b : Bool) → is_covered head w.holds c (Row t r) X ≡ b → has_write_lock head (holds_by_agent head w c a) c t r ≡ true
      go true e = or-left _ (keeps_mode (holds_by_agent head w c a) c (Row t r) X)
          (table-stays head w (λ k. covers k X) (λ x y. covers-joined x y) c a c t s.tables refl e)
      go false e = or-right (is_covered head (holds_by_agent head w c a) c (Row t r) X) _
          (keeps-briefs head (λ k. at_least k X) w.holds c _ c (Row t r)
          (keeps-all_placed head (λ k. at_least k X) (λ x y. at_least-joined X x y) (placed head mid c (request_on (Row t r) (X, KeptTerm))) c
          (inheriting head w c t row) c (Row t r)
          (subst (λ (z : Bool). keeps_if (λ k. at_least k X) (if z then mid else added mid c (request_on (Row t r) (X, KeptTerm))) c (Row t r) ≡ true)
          (sym (ap (λ o. option_map_or (λ k. covers k X) o false) (held-settled head c (spared a (w.last c)) w.holds c (Table t)) ∙ e))
          (added-keeps (λ k. at_least k X) mid c (request_on (Row t r) (X, KeptTerm)) (row_name-same t r) refl x-least (λ k. at_least-second X k X x-least)))))

  -- a changed row was held for writing
  pub change-lock : (c : Conn) (t : TableId) (r : Rid) → may_change head w c t r ≡ true → has_write_lock head w.holds c t r ≡ true
  change-lock c t r m = go (is_covered head w.holds c (Row t r) X) refl
    where
      go : (b : Bool) → is_covered head w.holds c (Row t r) X ≡ b → has_write_lock head w.holds c t r ≡ true
      go true e = or-left _ _ e
      go false e =
          let z : (is_covered head w.holds c (Row t r) X || holds_at_least w.holds c (Row t r) X) ≡ true = and-first _ _ (and-rest (may_write w c t) _ m) in
          or-right (is_covered head w.holds c (Row t r) X) _ (held-keeps w.holds c (Row t r) s.writes refl (rw e at z))

  -- the new version of a change has its maker
  abbrev Made : Conn → Act → Change → Type 0
  Made c a (Adds t row) =
      MakerOf head (unit_by w (turn_of_agent c a)) (holds_by_agent head w c a) t (next_rid w t) (pending_version w (unit_of w c) (Some row))
  Made c a (Writes t r row) =
      MakerOf head (unit_by w (turn_of_agent c a)) (holds_by_agent head w c a) t r (pending_version w (unit_of w c) row)
  Made c a _ = Unit {0}

  makers-goes : (c : Conn) (a : Act) → is_end a ≡ false → ByAgent head w c a → Made c a (change_of a)
      → (t : TableId) (r : Rid) → Each (IfPending (MakerOf head (unit_by w (turn_of_agent c a)) (holds_by_agent head w c a) t r))
      (versions_at (tables_by w (unit_of w c) (change_of a)) t r)
  makers-goes c a nil al f = each-changed (MakerOf head (unit_by w (turn_of_agent c a)) (holds_by_agent head w c a)) w (unit_of w c) (change_of a)
      (λ t row e. subst (Made c a) e f) (λ t r row e. subst (Made c a) e f)
      (λ t r. each-map head w (MakerOf head w.unit w.holds t r) (MakerOf head (unit_by w (turn_of_agent c a)) (holds_by_agent head w c a) t r)
      (λ v m. maker-stays head w c a t r v al s.tables s.whole_dues m (rw nil refl)) (versions w t r) (makers-each head w s.makers t r))

  -- a change by who runs
  written : (c : Conn) (t : TableId) (r : Rid) (row : Option (List Value)) (a : Act) → is_end a ≡ false → ByAgent head w c a
      → phase w c ≡ Running → may_change head w c t r ≡ true
      → MakerOf head (unit_by w (turn_of_agent c a)) (holds_by_agent head w c a) t r (pending_version w (unit_of w c) row)
  written c t r row a nil al runs may = maker-stays head w c a t r (pending_version w (unit_of w c) row) al s.tables s.whole_dues
      (record { conn = c; open_unit = runs-unit c runs; locks = change-lock c t r may; writes = and-first _ _ may }) (rw nil refl)

  made : (c : Conn) (a : Act) → ByAgent head w c a → Made c a (change_of a)
  made c (Insert t r row) al = record {
    conn = c;
    open_unit = runs-unit c al.0.0;
    locks = subst (λ (z : Rid). has_write_lock head (holds_by_agent head w c (Insert t r row)) c t z ≡ true) al.3 (insert-lock c t r row);
    writes = table-stays head w (λ k. at_least k Ix) (λ x y. at_least-joined Ix x y) c (Insert t r row) c t s.tables refl al.1;
  }
  made c (Update t r row) al = written c t r (Some row) (Update t r row) refl al al.0.0 al.1
  made c (Delete t r) al = written c t r None (Delete t r) refl al al.0.0 al.1
  made c (Undo n) al = tt
  made c Commit al = tt
  made c _ al = tt

  -- what each kind of entry makes of the makers
  abbrev Kept : Conn → Act → Type 0
  Kept c a = (t : TableId) (r : Rid) → Each (IfPending (MakerOf head (unit_by w (turn_of_agent c a)) (holds_by_agent head w c a) t r))
      (versions_at (tables_by w (unit_of w c) (change_of a)) t r)

  makers-agent : (c : Conn) (a : Act) → ByAgent head w c a → Kept c a
  makers-agent c Commit al t r = makers-end head w c Commit refl al s.tables s.whole_dues t r (versions_at (tables_by w (unit_of w c) Settles) t r)
      (subst (Each (IfPending (MakerOf head w.unit w.holds t r))) (sym (versions-mapped (settled_by (unit_of w c)) refl w.tables t r))
      (each-settled (MakerOf head w.unit w.holds t r) (unit_of w c) (versions w t r) (makers-each head w s.makers t r)))
      (subst (Each (IfPending (NotOf head w c))) (sym (versions-mapped (settled_by (unit_of w c)) refl w.tables t r)) (settled-none head w c (versions w t r)))
  makers-agent c (Rollback code reason) al t r = makers-end head w c (Rollback code reason) refl al s.tables s.whole_dues t r (versions w t r)
      (makers-each head w s.makers t r) (clear-of head w c al.1 s.piled t r)
  makers-agent c Act.Ended al t r = makers-end head w c Act.Ended refl al s.tables s.whole_dues t r (versions w t r)
      (makers-each head w s.makers t r) (clear-of head w c al.1 s.piled t r)
  makers-agent c a al t r = makers-goes c a refl al (made c a al) t r

  makers-dispatcher : (a : Act) → ByDispatcher head w a → (t : TableId) (r : Rid)
      → Each (IfPending (MakerOf head (unit_by w (turn_of_dispatcher a)) w.holds t r)) (versions_at (tables_by w 0 (change_of a)) t r)
  makers-dispatcher (Dispatch line c) al t r = each-map head w (MakerOf head w.unit w.holds t r) (MakerOf head (unit_by w (Begins c)) w.holds t r)
      (λ v m. record { conn = m.conn; open_unit = begins m.conn v.unit m.open_unit; locks = m.locks; writes = m.writes }) (versions w t r)
      (makers-each head w s.makers t r)
    where
      begins : (d : Conn) (u : ℕ) → w.unit d ≡ Some u → unit_by w (Begins c) d ≡ Some u
      begins d u e = at_conn-cases w.unit c (Some (unwrap_or (w.unit c) (w.begun + 1))) d (λ o. o ≡ Some u)
          (λ is. let q : w.unit c ≡ Some u = subst (λ (z : Conn). w.unit z ≡ Some u) (conn-is d c is) e in rw q refl)
          (λ ne. e)
  makers-dispatcher (Insert u q row) al t r = absurd al
  makers-dispatcher (Update u q row) al t r = absurd al
  makers-dispatcher (Delete u q) al t r = absurd al
  makers-dispatcher (Undo n) al t r = absurd al
  makers-dispatcher Commit al t r = absurd al
  makers-dispatcher _ al t r = makers-each head w s.makers t r

  pub makers-after : (e : Entry) → Allowed head w e → MakersHold head (after head w e)
  makers-after e al = makers-of head (after head w e) (go e.who al.2)
    where
      go : (who : Who) → By head w who e.act → (t : TableId) (r : Rid)
          → Each (IfPending (MakerOf head (unit_by w (turn_of who e.act)) (holds_by head w who e.act) t r))
          (versions_at (tables_by w (unit_of_maker w who) (change_of e.act)) t r)
      go Dispatcher a = makers-dispatcher e.act a
      go (Agent c) a = makers-agent c e.act a.1
