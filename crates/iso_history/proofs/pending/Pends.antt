-- Each change that an open unit has left is pending in its record's slot.
use Rattle.std.proofs.Common.{List, [], ◌∷◌, ◌++◌, ◌≡◌, ◌≢◌, ◌≤◌, ◌<◌, ◌+◌, ◌⊎◌, inl, inr, ℕ, Bool, true, false, ◌&&◌, ◌||◌, refl, ap, sym, ◌∙◌, arith, Some, None, Option, subst, map, length, slice_set, slice_get, is_some, unwrap_or}
use Rattle.std.specs.Prelude.{◌==◌}
use Rattle.std.specs.Option.{option_map_or}
use Rattle.std.proofs.lemmas.Bool.Decides.{nat_tests}
use Rattle.std.proofs.Math.ListN.{length-set}
use Rattle.std.proofs.lemmas.List.{length-map}
use Rattle.iso_history.proofs.pending.Conns.{and-first, and-rest, at_conn-cases, conn-is, conn-turned, no-both}
use Rattle.iso_history.proofs.pending.Containing.{Each}
use Rattle.iso_history.proofs.pending.Left.{LeftCases, first-has, has-owned, left-cases, length-more, new, note_of-more, note_of-new, old}
use Rattle.iso_history.proofs.pending.Makers.{IfPending, MakerOf, makers-each}
use Rattle.iso_history.proofs.pending.ReadLocks.{has_read_lock, write-reads}
use Rattle.iso_history.proofs.pending.Slots.{add-cases, add-there, set-cases, set-there, slot-there, table-there, versions-mapped, versions-past, versions_at}
use Rattle.iso_history.proofs.pending.Stays.{dispatcher-keeps, others-unit, same-settled}
use Rattle.iso_history.proofs.pending.Units.{begun-grows}
use Rattle.iso_history.specs.After.{after}
use Rattle.iso_history.specs.Facts.{IsSound, TablesThere, UnitsApart}
use Rattle.iso_history.specs.Legal.{Allowed, By, ByAgent}
use Rattle.iso_history.specs.Piles.{LeftPends, NotesBegun, has, is_of_change, pends}
use Rattle.iso_history.specs.Records.{change_note, last_left, left, note_of, records_by}
use Rattle.iso_history.specs.Units.{turn_of, turn_of_agent, turn_of_dispatcher, unit_by, unit_of, unit_of_maker}
use Rattle.iso_history.specs.Versions.{Change, change_of, head_record, next_rid, pending_version, settled_by, slot_list, slots, tables_by, taken_off, versions, view, view_of}
use Rattle.iso_history.specs.Versions.Change.{Adds, Keeps, Settles, Takes, Writes}
use Rattle.iso_history.specs.World.{Note, Version, World, at_conn}
use Rattle.iso_history.specs.Writes.{may_write}
use Rattle.iso_history.specs.declared.entry.Act.{Act}
use Rattle.iso_history.specs.declared.entry.Act.TheVariants.{Commit, Delete, Dispatch, Insert, Rollback, Undo, Update}
use Rattle.iso_history.specs.declared.entry.Entry.{Entry}
use Rattle.iso_history.specs.declared.entry.Who.{Who}
use Rattle.iso_history.specs.declared.entry.Who.TheVariants.{Agent, Dispatcher}
use Rattle.std.proofs.lemmas.Option.{slice_get_within}
use Rattle.iso_types.specs.Head.{all_fit, row_fits}
use Rattle.iso_types.specs.declared.head.TableDef.{TableDef}
use Rattle.iso_types.specs.Ids.{conn_eq}
use Rattle.iso_types.specs.declared.head.Head.{Head}
use Rattle.iso_types.specs.declared.value.Conn.{Conn}
use Rattle.iso_types.specs.declared.value.Rid.{Rid}
use Rattle.iso_types.specs.declared.value.TableId.{TableId}
use Rattle.iso_types.specs.declared.value.Value.{Value}

-- no table goes, and none is new
change-wide : (w : World) (u : ℕ) (ch : Change) → length (tables_by w u ch) ≡ length w.tables
change-wide w u Keeps = refl
change-wide w u (Adds t row) = length-set w.tables t.0 (slot_list w t ++ (pending_version w u (Some row) ∷ []) ∷ [])
change-wide w u (Writes t r row) = length-set w.tables t.0 (slice_set (slot_list w t) r.0 (pending_version w u row ∷ versions w t r))
change-wide w u (Takes n) = length-map w.tables (λ slots. map (taken_off n) slots)
change-wide w u Settles = length-map w.tables (λ slots. map (settled_by u) slots)

pub wide-after : (head : Head) (w : World) (e : Entry) → TablesThere head w → TablesThere head (after head w e)
unfolding TablesThere
wide-after head w e s = change-wide w (unit_of_maker w e.who) (change_of e.act) ∙ s

-- the unit of an entry's maker has begun
maker-begun : (w : World) (who : Who) → UnitsApart w → unit_of_maker w who ≤ w.begun
maker-begun w Dispatcher s = omega arith
maker-begun w (Agent c) s = go (w.unit c) refl
  where
    go : (o : Option ℕ) → w.unit c ≡ o → unwrap_or o 0 ≤ w.begun
    go None e = omega arith
    go (Some u) e = (s.begun c u e).1

note-begun : (begun : ℕ) (notes : List Note) (n : Note) → n.unit ≤ begun → ((k : ℕ) → k < length notes → (note_of notes k).unit ≤ begun)
    → (k : ℕ) → k < length (notes ++ n ∷ []) → (note_of (notes ++ n ∷ []) k).unit ≤ begun
note-begun begun notes n le s k lt = go (cases k (length notes))
  where
    cases : (a b : ℕ) → (a < b) ⊎ ((a ≡ b) ⊎ (b + 1 ≤ a))
    cases a b = grind arith

    go : (k < length notes) ⊎ ((k ≡ length notes) ⊎ (length notes + 1 ≤ k)) → (note_of (notes ++ n ∷ []) k).unit ≤ begun
    go (inl small) = subst (λ (z : Note). z.unit ≤ begun) (sym (note_of-more notes n k small)) (s k small)
    go (inr (inl is)) = subst (λ (z : ℕ). (note_of (notes ++ n ∷ []) z).unit ≤ begun) (sym is)
        (subst (λ (z : Note). z.unit ≤ begun) (sym (note_of-new notes n)) le)
    go (inr (inr big)) = let l = length-more notes n in absurd (omega (arith, lt, l))

change-noted : (w : World) (u : ℕ) (ch : Change) → u ≤ w.begun → NotesBegun w → (k : ℕ) → k < length (records_by w u ch)
    → (note_of (records_by w u ch) k).unit ≤ w.begun
unfolding NotesBegun
change-noted w u Keeps le s = s
change-noted w u (Adds t row) le s = note-begun w.begun w.records (change_note w u t (next_rid w t) None) le s
change-noted w u (Writes t r row) le s = note-begun w.begun w.records (change_note w u t r (head_record (versions w t r))) le s
change-noted w u (Takes n) le s = note-begun w.begun w.records (record (note_of w.records n) { unit = u; undoes = Some n }) le s
change-noted w u Settles le s = s

pub noted-after : (head : Head) (w : World) (e : Entry) → UnitsApart w → NotesBegun w → NotesBegun (after head w e)
unfolding NotesBegun
noted-after head w e units s k lt =
    let a = change-noted w (unit_of_maker w e.who) (change_of e.act) (maker-begun w e.who units) s k lt in
    let b = begun-grows w (turn_of e.who e.act) in
    omega (arith, a, b)

-- a version that pends
pub pends-cons : (n u : ℕ) (v : Version) (vs : List Version) → pends n u (v ∷ vs) ≡ true → ((v.pending ≡ true) × (v.number ≡ n) × (v.unit ≡ u)) ⊎
    (pends n u vs ≡ true)
pends-cons n u v vs e = go (is_of_change n u v) refl
  where
    go : (b : Bool) → is_of_change n u v ≡ b → ((v.pending ≡ true) × (v.number ≡ n) × (v.unit ≡ u)) ⊎ (pends n u vs ≡ true)
    go true q =
        let a : v.pending ≡ true = and-first _ _ q in
        let k : ((v.number == n) && (v.unit == u)) ≡ true = and-rest v.pending _ q in
        let b : v.number ≡ n = grind (arith, nat_tests) in
        let d : v.unit ≡ u = grind (arith, nat_tests) in
        inl (a, b, d)
    go false q = inr (rw q at e)

pends-under : (n u : ℕ) (v : Version) (vs : List Version) → pends n u vs ≡ true → pends n u (v ∷ vs) ≡ true
pends-under n u v vs e = go (is_of_change n u v)
  where
    go : (b : Bool) → (b || pends n u vs) ≡ true
    go true = refl
    go false = e

pends-new : (w : World) (u : ℕ) (row : Option (List Value)) (vs : List Version) → pends (length w.records) u (pending_version w u row ∷ vs) ≡ true
pends-new w u row vs = grind (arith, nat_tests)

pends-some : (n u : ℕ) (vs : List Version) → pends n u vs ≡ true → vs ≡ [] → ⊥
pends-some n u vs e q = no-both (subst (λ (z : List Version). pends n u z ≡ true) q e) refl

-- it is not taken off with another number
pends-taken : (n m u : ℕ) (vs : List Version) → n ≢ m → pends n u vs ≡ true → pends n u (taken_off m vs) ≡ true
pends-taken n m u [] ne e = e
pends-taken n m u (v ∷ vs) ne e = go (pends-taken n m u vs ne) (v.pending && (v.number == m)) refl (pends-cons n u v vs e)
  where
    go : (pends n u vs ≡ true → pends n u (taken_off m vs) ≡ true) → (b : Bool) → (v.pending && (v.number == m)) ≡ b
        → ((v.pending ≡ true) × (v.number ≡ n) × (v.unit ≡ u)) ⊎ (pends n u vs ≡ true) → pends n u (taken_off m (v ∷ vs)) ≡ true
    go ih true q (inl p) = let k : v.number ≡ m = grind (arith, nat_tests) in absurd (ne (sym p.1 ∙ k))
    go ih true q (inr p) = rw q (ih p)
    go ih false q (inl p) =
        let a : (v.number == n) ≡ true = grind (arith, nat_tests, p.1) in
        let b : (v.unit == u) ≡ true = grind (arith, nat_tests, p.2) in
        rw (q, p.0, a, b) refl
    go ih false q (inr p) = rw q (pends-under n u v (taken_off m vs) (ih p))

-- what holds of the version that pends
pends-has : (P : Version → Type 0) (n u : ℕ) (vs : List Version) → Each (IfPending P) vs → pends n u vs ≡ true → (x : Version) × (x.unit ≡ u) × P x
pends-has P n u [] h e = cc
pends-has P n u (v ∷ vs) h e = elim (pends-cons n u v vs e) [ inl p ↦ (v, p.2, h.0 p.0) | inr q ↦ pends-has P n u vs h.1 q ]

-- a view of a row is of a slot that is there
view-there : (w : World) (c : Conn) (t : TableId) (r : Rid) → is_some (view w c t r) ≡ true → versions w t r ≡ [] → ⊥
view-there w c t r e q = no-both (subst (λ (z : List Version). is_some (view_of (unit_of w c) z) ≡ true) q e) refl

module _ (head : Head) (w : World) (s : IsSound head w) where
  -- the connection whose unit's version pends in a slot may read it
  pub pender-reads : (c : Conn) (u n : ℕ) (t : TableId) (r : Rid) → w.unit c ≡ Some u → pends n u (versions w t r) ≡ true → has_read_lock w.holds c t r ≡ true
  pender-reads c u n t r is e =
      let x = pends-has (MakerOf head w.unit w.holds t r) n u (versions w t r) (makers-each head w s.makers t r) e in
      let same : x.2.conn ≡ c = conn-is x.2.conn c (s.units.apart x.2.conn c u (x.2.open_unit ∙ ap Some x.1) is) in
      subst (λ (z : Conn). has_read_lock w.holds z t r ≡ true) same (write-reads head w.holds s.together s.backed x.2.conn t r x.2.locks)

  -- what a change asks
  abbrev pub ChangeFits : ℕ → Change → Type 0
  ChangeFits u (Adds t row) = t.0 < length w.tables
  ChangeFits u (Writes t r row) = r.0 < slots w t
  ChangeFits u (Takes n) = last_left w u ≡ Some n
  ChangeFits u _ = Unit {0}

  table-fits : (t : TableId) (row : List Value) → row_fits head t row ≡ true → t.0 < length head.tables
  table-fits t row e = go (slice_get head.tables t.0) refl e
    where
      go : (o : Option TableDef) → slice_get head.tables t.0 ≡ o → option_map_or (λ d. all_fit d.columns row) o false ≡ true → t.0 < length head.tables
      go None q k = absurd (no-both refl (sym k))
      go (Some d) q k = slice_get_within head.tables t.0 d q

  -- allowed changes fit
  pub change-fits : (c : Conn) (a : Act) → ByAgent head w c a → ChangeFits (unit_of w c) (change_of a)
  unfolding TablesThere
  change-fits c (Insert t r row) al = let k = table-fits t row al.2 in omega (arith, k, s.wide)
  change-fits c (Update t r row) al = slot-there w.tables t r (view-there w c t r (and-rest _ _ (and-rest (may_write w c t) _ al.1)))
  change-fits c (Delete t r) al = slot-there w.tables t r (view-there w c t r (and-rest _ _ (and-rest (may_write w c t) _ al.1)))
  change-fits c (Undo n) al = al.1
  change-fits c _ al = tt

  rid-more : (n : Note) (k : ℕ) → k < length w.records
      → ((note_of (w.records ++ n ∷ []) k).table ≡ (note_of w.records k).table) × ((note_of (w.records ++ n ∷ []) k).rid ≡ (note_of w.records k).rid)
  rid-more n k lt = (ap (λ z. z.table) (note_of-more w.records n k lt), ap (λ z. z.rid) (note_of-more w.records n k lt))

  -- what pends in the slot of a record, with one more record and other tables
  moved : (n : Note) (k u : ℕ) (tables : List (List (List Version))) → k < length w.records
      → pends k u (versions_at tables (note_of w.records k).table (note_of w.records k).rid) ≡ true
      → pends k u (versions_at tables (note_of (w.records ++ n ∷ []) k).table (note_of (w.records ++ n ∷ []) k).rid) ≡ true
  moved n k u tables lt e =
      let m = rid-more n k lt in
      subst (λ (z : TableId). pends k u (versions_at tables z (note_of (w.records ++ n ∷ []) k).rid) ≡ true) (sym m.0)
      (subst (λ (z : Rid). pends k u (versions_at tables (note_of w.records k).table z) ≡ true) (sym m.1) e)

  moved-new : (n : Note) (k u : ℕ) (tables : List (List (List Version))) → k ≡ length w.records
      → pends (length w.records) u (versions_at tables n.table n.rid) ≡ true
      → pends k u (versions_at tables (note_of (w.records ++ n ∷ []) k).table (note_of (w.records ++ n ∷ []) k).rid) ≡ true
  moved-new n k u tables is e = subst (λ (z : ℕ). pends z u (versions_at tables (note_of (w.records ++ n ∷ []) z).table
      (note_of (w.records ++ n ∷ []) z).rid) ≡ true) (sym is)
      (subst (λ (z : Note). pends (length w.records) u (versions_at tables z.table z.rid) ≡ true) (sym (note_of-new w.records n)) e)

  pends-add : (u0 : ℕ) (t : TableId) (row : List Value) (n u : ℕ) (k : TableId) (q : Rid) → pends n u (versions w k q) ≡ true
      → pends n u (versions_at (tables_by w u0 (Adds t row)) k q) ≡ true
  pends-add u0 t row n u k q e = go (add-cases w.tables t (pending_version w u0 (Some row) ∷ []) k q)
    where
      new_tables : List (List (List Version))
      new_tables = tables_by w u0 (Adds t row)

      go : (versions_at new_tables k q ≡ versions_at w.tables k q) ⊎ ((k ≡ t) × (q.0 ≡ slots w t) ×
          (versions_at new_tables k q ≡ pending_version w u0 (Some row) ∷ []))
          → pends n u (versions_at new_tables k q) ≡ true
      go (inl p) = subst (λ (z : List Version). pends n u z ≡ true) (sym p) e
      go (inr p) =
          let a : slots w k ≡ slots w t = ap (slots w) p.0 in
          absurd (pends-some n u (versions w k q) e (versions-past w.tables k q (omega (arith, p.1))))

  pends-write : (u0 : ℕ) (t : TableId) (r : Rid) (row : Option (List Value)) (n u : ℕ) (k : TableId) (q : Rid) → pends n u (versions w k q) ≡ true
      → pends n u (versions_at (tables_by w u0 (Writes t r row)) k q) ≡ true
  pends-write u0 t r row n u k q e = go (set-cases w.tables t r (pending_version w u0 row ∷ versions w t r) k q)
    where
      new_tables : List (List (List Version))
      new_tables = tables_by w u0 (Writes t r row)

      go : (versions_at new_tables k q ≡ versions_at w.tables k q) ⊎ ((k ≡ t) × (q ≡ r) ×
          (versions_at new_tables k q ≡ pending_version w u0 row ∷ versions w t r))
          → pends n u (versions_at new_tables k q) ≡ true
      go (inl p) = subst (λ (z : List Version). pends n u z ≡ true) (sym p) e
      go (inr p) = subst (λ (z : List Version). pends n u z ≡ true) (sym p.2) (pends-under n u (pending_version w u0 row) (versions w t r)
          (subst (λ (z : TableId). pends n u (versions w z r) ≡ true) p.0 (subst (λ (z : Rid). pends n u (versions w k z) ≡ true) p.1 e)))

  -- one law for each change, of a unit that is open before it and does not end
  change-pends : (d : Conn) (ch : Change) → ChangeFits (unit_of w d) ch → (c : Conn) (u n : ℕ) → w.unit c ≡ Some u → (ch ≡ Settles → conn_eq d c ≡ false)
      → has n (left (records_by w (unit_of w d) ch) u) ≡ true
      → pends n u (versions_at (tables_by w (unit_of w d) ch) (note_of (records_by w (unit_of w d) ch) n).table
      (note_of (records_by w (unit_of w d) ch) n).rid) ≡ true
  unfolding LeftPends
  change-pends d Keeps f c u n is ne e = s.pending c u n is e
  change-pends d (Adds t row) f c u n is ne e = go (left-cases w.records made u n e)
    where
      made : Note
      made = change_note w (unit_of w d) t (next_rid w t) None

      go : LeftCases w.records made u n
          → pends n u (versions_at (tables_by w (unit_of w d) (Adds t row)) (note_of (w.records ++ made ∷ []) n).table
          (note_of (w.records ++ made ∷ []) n).rid) ≡ true
      go (old h x) = moved made n u (tables_by w (unit_of w d) (Adds t row)) (has-owned w.records u n h).0
          (pends-add (unit_of w d) t row n u (note_of w.records n).table (note_of w.records n).rid (s.pending c u n is h))
      go (new k same none) = moved-new made n u (tables_by w (unit_of w d) (Adds t row)) k
          (subst (λ (z : List Version). pends (length w.records) u z ≡ true) (sym (add-there w.tables t (pending_version w (unit_of w d) (Some row) ∷ []) f))
          (subst (λ (z : ℕ). pends (length w.records) z (pending_version w (unit_of w d) (Some row) ∷ []) ≡ true) same
          (pends-new w (unit_of w d) (Some row) [])))
  change-pends d (Writes t r row) f c u n is ne e = go (left-cases w.records made u n e)
    where
      made : Note
      made = change_note w (unit_of w d) t r (head_record (versions w t r))

      go : LeftCases w.records made u n
          → pends n u (versions_at (tables_by w (unit_of w d) (Writes t r row)) (note_of (w.records ++ made ∷ []) n).table
          (note_of (w.records ++ made ∷ []) n).rid) ≡ true
      go (old h x) = moved made n u (tables_by w (unit_of w d) (Writes t r row)) (has-owned w.records u n h).0
          (pends-write (unit_of w d) t r row n u (note_of w.records n).table (note_of w.records n).rid (s.pending c u n is h))
      go (new k same none) = moved-new made n u (tables_by w (unit_of w d) (Writes t r row)) k
          (subst (λ (z : List Version). pends (length w.records) u z ≡ true)
          (sym (set-there w.tables t r (pending_version w (unit_of w d) row ∷ versions w t r) (table-there w.tables t r.0 f) f))
          (subst (λ (z : ℕ). pends (length w.records) z (pending_version w (unit_of w d) row ∷ versions w t r) ≡ true) same
          (pends-new w (unit_of w d) row (versions w t r))))
  change-pends d (Takes m) f c u n is ne e = go (left-cases w.records made u n e)
    where
      made : Note
      made = record (note_of w.records m) { unit = unit_of w d; undoes = Some m }

      of_maker : (note_of w.records m).unit ≡ unit_of w d
      of_maker = (has-owned w.records (unit_of w d) m (first-has m (left w.records (unit_of w d)) f)).1

      never : {x : ℕ} → Some x ≡ None → ⊥
      never q = cc

      go : LeftCases w.records made u n
          → pends n u (versions_at (tables_by w (unit_of w d) (Takes m)) (note_of (w.records ++ made ∷ []) n).table
          (note_of (w.records ++ made ∷ []) n).rid) ≡ true
      go (new k same none) = absurd (never none)
      go (old h x) =
          let own = has-owned w.records u n h in
          moved made n u (tables_by w (unit_of w d) (Takes m)) own.0
          (subst (λ (z : List Version). pends n u z ≡ true) (sym (versions-mapped (taken_off m) refl w.tables (note_of w.records n).table
          (note_of w.records n).rid))
          (pends-taken n m u (versions w (note_of w.records n).table (note_of w.records n).rid)
          (λ q. x (ap Some (sym q)) (sym of_maker ∙ ap (λ z. (note_of w.records z).unit) (sym q) ∙ own.1)) (s.pending c u n is h)))
  change-pends d Settles f c u n is ne e =
      let there : pends n u (versions w (note_of w.records n).table (note_of w.records n).rid) ≡ true = s.pending c u n is e in
      subst (λ (z : List Version). pends n u z ≡ true)
      (sym (versions-mapped (settled_by (unit_of w d)) refl w.tables _ _
      ∙ same-settled (unit_of w d) _ (others-unit head w s d c _ _ (ne refl) (pender-reads c u n _ _ is there)))) there

  -- a unit that is open after an agent's entry was open before, and the entry does not settle it
  unit-before : (d : Conn) (a : Act) (c : Conn) (u : ℕ) → unit_by w (turn_of_agent d a) c ≡ Some u → (w.unit c ≡ Some u) ×
      (change_of a ≡ Settles → conn_eq d c ≡ false)
  unit-before d a c u e = go a e
    where
      none-some : None ≡ Some u → ⊥
      none-some q = cc

      other : at_conn w.unit d None c ≡ Some u → (w.unit c ≡ Some u) × (conn_eq d c ≡ false)
      other = at_conn-cases w.unit d None c (λ o. o ≡ Some u → (w.unit c ≡ Some u) × (conn_eq d c ≡ false))
          (λ same q. absurd (none-some q)) (λ ne q. (q, conn-turned d c ∙ ne))

      go : (a : Act) → unit_by w (turn_of_agent d a) c ≡ Some u → (w.unit c ≡ Some u) × (change_of a ≡ Settles → conn_eq d c ≡ false)
      go Commit q = let o = other q in (o.0, λ z. o.1)
      go (Rollback code reason) q = let o = other q in (o.0, λ z. o.1)
      go Act.Ended q = let o = other q in (o.0, λ z. o.1)
      go _ q = (q, λ z. absurd (cc))

  -- a unit that is open after a dispatcher's entry was open before, or is new
  unit-begun : (a : Act) (c : Conn) (u : ℕ) → unit_by w (turn_of_dispatcher a) c ≡ Some u → (w.unit c ≡ Some u) ⊎ (u ≡ w.begun + 1)
  unit-begun (Dispatch line d) c u e = at_conn-cases w.unit d (Some (unwrap_or (w.unit d) (w.begun + 1))) c
      (λ o. o ≡ Some u → (w.unit c ≡ Some u) ⊎ (u ≡ w.begun + 1))
      (λ same q. at_unit (conn-is c d same) (w.unit d) refl q) (λ ne q. inl q) e
    where
      some-is : {x : ℕ} → Some x ≡ Some u → u ≡ x
      some-is q = cc

      at_unit : c ≡ d → (o : Option ℕ) → w.unit d ≡ o → Some (unwrap_or o (w.begun + 1)) ≡ Some u → (w.unit c ≡ Some u) ⊎ (u ≡ w.begun + 1)
      at_unit p None q z = inr (some-is z)
      at_unit p (Some v) q z = inl (ap w.unit p ∙ q ∙ z)
  unit-begun _ c u e = inl e

  pub pending-after : (e : Entry) → Allowed head w e → LeftPends (after head w e)
  unfolding LeftPends NotesBegun
  pending-after e al = go e.who al.2
    where
      go : (who : Who) → By head w who e.act → (c : Conn) (u n : ℕ) → unit_by w (turn_of who e.act) c ≡ Some u
          → has n (left (records_by w (unit_of_maker w who) (change_of e.act)) u) ≡ true
          → pends n u (versions_at (tables_by w (unit_of_maker w who) (change_of e.act))
          (note_of (records_by w (unit_of_maker w who) (change_of e.act)) n).table
          (note_of (records_by w (unit_of_maker w who) (change_of e.act)) n).rid) ≡ true
      go (Agent d) a c u n is h = let b = unit-before d e.act c u is in change-pends d (change_of e.act) (change-fits d e.act a.1) c u n b.0 b.1 h
      go Dispatcher a c u n is h = subst (λ (z : Change). has n (left (records_by w 0 z) u) ≡ true
          → pends n u (versions_at (tables_by w 0 z) (note_of (records_by w 0 z) n).table (note_of (records_by w 0 z) n).rid) ≡ true)
          (sym (dispatcher-keeps head w e.act a)) (λ k. at_unit k (unit-begun e.act c u is)) h
        where
          at_unit : has n (left w.records u) ≡ true → (w.unit c ≡ Some u) ⊎ (u ≡ w.begun + 1)
              → pends n u (versions w (note_of w.records n).table (note_of w.records n).rid) ≡ true
          at_unit k (inl p) = s.pending c u n p k
          at_unit k (inr p) =
              let own = has-owned w.records u n k in
              let le = s.noted n own.0 in
              absurd (omega (arith, le, own.1, p))
