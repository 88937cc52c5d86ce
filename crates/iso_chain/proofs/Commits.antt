-- Slots, log and units after a commit.
use Rattle.std.proofs.Common.{◌≡◌, ◌≢◌, ◌<◌, ◌⊎◌, inl, inr, ℕ, Bool, true, false, ◌&&◌, ◌||◌, List, [], ◌∷◌, length, refl, ap, sym, ◌∙◌, arith, Some, None, Option, subst, get_or-set_same, get_or-set_other}
use Rattle.std.specs.List.{list_any}
use Rattle.std.specs.Option.{option_map}
use Rattle.std.specs.Prelude.{◌==◌, if◌then◌else◌, IfSome, unwrap_or}
use Rattle.std.proofs.Math.ListN.{length-set}
use Rattle.std.proofs.lemmas.Bool.Decides.{nat_tests}
use Rattle.std.proofs.lemmas.List.{length-map}
use Rattle.iso_history.specs.After.{after}
use Rattle.iso_history.specs.Linked.{AllOwned, Owned}
use Rattle.iso_history.specs.Makers.{by_agent}
use Rattle.iso_history.specs.Piles.{AllOneUnit, AllPiled, LeftPends, OneUnit, Piled, has, pends}
use Rattle.iso_history.specs.Recorded.{kept, versions_in}
use Rattle.iso_history.specs.Records.{left, note_of}
use Rattle.iso_history.specs.Units.{unit_of}
use Rattle.iso_history.specs.Versions.{head_record, present, settled_by, versions}
use Rattle.iso_history.specs.World.{MarkAt, Note, Version, World, at_conn}
use Rattle.iso_history.specs.declared.entry.Act.TheVariants.{Commit}
use Rattle.iso_history.proofs.log.Cells.{cell-map, cell-set_other, cell-set_same, cell-within, place, row-length_map, row-length_set}
use Rattle.iso_history.proofs.log.Settled.{pends-own, settled-committed, settled-other, settled-own}
use Rattle.iso_history.proofs.log.Taken.{first-none}
use Rattle.iso_record.specs.declared.record.Record.{Record}
use Rattle.iso_table.specs.Slots.{no_slot}
use Rattle.iso_table.specs.declared.slot.Slot.{Slot}
use Rattle.iso_types.specs.Ids.{rid_eq, table_eq}
use Rattle.iso_types.specs.declared.head.Head.{Head}
use Rattle.iso_types.specs.declared.value.Conn.{Conn}
use Rattle.iso_types.specs.declared.value.Rid.{Rid}
use Rattle.iso_types.specs.declared.value.TableId.{TableId}
use Rattle.iso_types.specs.declared.value.Value.{Value}
use Rattle.iso_uow.specs.Book.{with_work, work_at}
use Rattle.iso_uow.specs.declared.units.Work.{Work}
use Rattle.iso_chain.specs.Facts.{AreKept}
use Rattle.iso_chain.specs.Lines.{AreWithin}
use Rattle.iso_chain.specs.Logs.{LogStands, record_at}
use Rattle.iso_chain.specs.Slots.{SlotStands, slot_in, slots_of}
use Rattle.iso_chain.specs.Stands.{AreChained, Chained}
use Rattle.iso_chain.specs.Works.{WorksStand, work_of_unit}
use Rattle.iso_chain.specs.Writes.{cleared, committed, is_hit, released, with_slot}
use Rattle.iso_chain.proofs.Records.{AllBack, all-back, length-log, noted}

-- clearing twice is clearing
cleared-twice : (s : Slot) → cleared (cleared s) ≡ cleared s
cleared-twice s = refl

-- writing a slot keeps the number of slots
pub within-set : (log : List Record) (tables : List (List Slot)) (t : TableId) (r : Rid) (s : Slot) (ns : List ℕ) → AreWithin log tables ns
    → AreWithin log (with_slot tables t r s) ns
within-set log tables t r s [] h = tt
within-set log tables t r s (n ∷ ns) h = (
  subst (λ (k : ℕ). (record_at log n).table.0 < k) (sym (length-set tables t.0 _)) h.0,
  subst (λ (k : ℕ). (record_at log n).rid.0 < k) (sym (row-length_set tables t.0 r.0 s (record_at log n).table.0)) h.1,
  within-set log tables t r s ns h.2,
)

-- a slot of one of these records is cleared, and every other one stays
released-at : (log : List Record) (ns : List ℕ) (tables : List (List Slot)) (t : TableId) (r : Rid) → AreWithin log tables ns
    → slot_in (released log ns tables) t r ≡ (if is_hit log ns t r then cleared (slot_in tables t r) else slot_in tables t r)
released-at log [] tables t r h = refl
released-at log (n ∷ ns) tables t r h =
    released-at log ns (with_slot tables u q (cleared (slot_in tables u q))) t r (within-set log tables u q _ ns h.2)
    ∙ go (place t.0 r.0 u.0 q.0)
  where
    u : TableId
    u = (record_at log n).table

    q : Rid
    q = (record_at log n).rid

    next : List (List Slot)
    next = with_slot tables (record_at log n).table (record_at log n).rid (cleared (slot_in tables (record_at log n).table (record_at log n).rid))

    table : ℕ → TableId
    table k = record { 0 = k }

    rid : ℕ → Rid
    rid k = record { 0 = k }

    go : ((t.0 ≡ u.0) × (r.0 ≡ q.0)) ⊎ ((t.0 ≢ u.0) ⊎ ((t.0 ≡ u.0) × (r.0 ≢ q.0)))
        → (if is_hit log ns t r then cleared (slot_in next t r) else slot_in next t r)
        ≡ (if is_hit log (n ∷ ns) t r then cleared (slot_in tables t r) else slot_in tables t r)
    go (inl (e, f)) =
        let this : (table_eq u t && rid_eq q r) ≡ true = rw (e, f) (grind (arith, nat_tests)) in
        let now : slot_in next t r ≡ cleared (slot_in tables t r) = rw (e, f) (cell-set_same no_slot tables u.0 q.0 (cleared (slot_in tables u q)) h.0 h.1) in
        rw (this, now) (both (is_hit log ns t r))
      where
        both : (b : Bool) → (if b then cleared (cleared (slot_in tables t r)) else cleared (slot_in tables t r)) ≡ cleared (slot_in tables t r)
        both true = refl
        both false = refl
    go (inr ne) =
        let this : (table_eq u t && rid_eq q r) ≡ false = apart ne in
        let now : slot_in next t r ≡ slot_in tables t r = cell-set_other no_slot tables u.0 q.0 (cleared (slot_in tables u q)) t.0 r.0 ne in
        rw (this, now) refl
      where
        apart : (t.0 ≢ u.0) ⊎ ((t.0 ≡ u.0) × (r.0 ≢ q.0)) → (table_eq u t && rid_eq q r) ≡ false
        apart (inl k) = grind (arith, nat_tests)
        apart (inr (e, k)) = grind (arith, nat_tests)

-- a slot of which the commit settles nothing, and one whose versions are the unit's
settled-stands : (log : List Record) (notes : List Note) (t : TableId) (r : Rid) (u : ℕ) (s : Slot) (vs : List Version) (hit : Bool) → Piled notes t r vs
    → OneUnit vs
    → SlotStands s vs → ((v : Version) (under : List Version) → vs ≡ v ∷ under → v.pending ≡ true → (v.unit ≡ u → hit ≡ true) × (v.unit ≢ u → hit ≡ false))
    → SlotStands (if hit then cleared s else s) (settled_by u vs)
settled-stands log notes t r u s [] hit pile one stands hits = either hit
  where
    either : (b : Bool) → SlotStands (if b then cleared s else s) []
    either true = record { face = record { row = tt; live = stands.face.live }; head = refl; first = refl }
    either false = stands
settled-stands log notes t r u s (v ∷ vs) hit pile one stands hits = go v.pending refl
  where
    same : (a b : ℕ) → (a ≡ b) ⊎ (a ≢ b)
    same a b = grind arith

    bare : s.head ≡ None → s.first ≡ None → SlotStands (cleared s) (v ∷ vs)
    bare h f = record { face = record { row = stands.face.row; live = stands.face.live }; head = sym h ∙ stands.head; first = sym f ∙ stands.first }

    own : v.pending ≡ true → v.unit ≡ u → SlotStands (cleared s) (record v { pending = false } ∷ [])
    own p e = record {
      face = record { row = row v.row refl stands.face.row; live = stands.face.live };
      head = refl;
      first = refl;
    }
      where
        row : (o : Option (List Value)) → v.row ≡ o → IfSome (kept (v ∷ vs)) (λ x. s.row ≡ x)
            → IfSome (elim o [ Some x ↦ Some x | None ↦ if false then present vs else None ]) (λ x. s.row ≡ x)
        row None k h = tt
        row (Some x) k h = rw k at h

    unit : v.pending ≡ true → (v.unit ≡ u) ⊎ (v.unit ≢ u) → SlotStands (if hit then cleared s else s) (settled_by u (v ∷ vs))
    unit p (inl e) = rw ((hits v vs refl p).0 e, settled-own u v vs p e) (own p e)
    unit p (inr ne) = rw ((hits v vs refl p).1 ne, settled-other u v vs p ne one) stands

    either : s.head ≡ None → s.first ≡ None → (b : Bool) → SlotStands (if b then cleared s else s) (v ∷ vs)
    either h f true = bare h f
    either h f false = stands

    go : (p : Bool) → v.pending ≡ p → SlotStands (if hit then cleared s else s) (settled_by u (v ∷ vs))
    go true p = unit p (same v.unit u)
    go false p =
        let none : head_record (v ∷ vs) ≡ None = rw p refl in
        rw (settled-committed u v vs p (pile.1 p)) (either (stands.head ∙ none) (stands.first ∙ first-none notes t r (v ∷ vs) pile none) hit)

-- a number that is in the list, and passes
any-has : (p : ℕ → Bool) (n : ℕ) (ms : List ℕ) → has n ms ≡ true → p n ≡ true → list_any p ms ≡ true
any-has p n [] h e = cc
any-has p n (m ∷ ms) h e = go (m == n) refl (any-has p n ms)
  where
    go : (b : Bool) → (m == n) ≡ b → (has n ms ≡ true → p n ≡ true → list_any p ms ≡ true) → list_any p (m ∷ ms) ≡ true
    go true q rest = let same : n ≡ m = grind (arith, nat_tests) in let k : p m ≡ true = subst (λ (z : ℕ). p z ≡ true) same e in rw k refl
    go false q rest = let k = rest (rw q at h) e in either (p m) k
      where
        either : (b : Bool) → list_any p ms ≡ true → (b || list_any p ms) ≡ true
        either true k = refl
        either false k = k

-- and one that does, where some does
any-one : (p : ℕ → Bool) (ms : List ℕ) → list_any p ms ≡ true → (n : ℕ) × (has n ms ≡ true) × (p n ≡ true)
any-one p [] h = absurd (cc)
any-one p (m ∷ ms) h = go (p m) refl (any-one p ms)
  where
    itself : (m == m) ≡ true
    itself = grind (arith, nat_tests)

    later : (n : ℕ) → has n ms ≡ true → has n (m ∷ ms) ≡ true
    later n e = either (m == n)
      where
        either : (b : Bool) → (b || has n ms) ≡ true
        either true = refl
        either false = e

    go : (b : Bool) → p m ≡ b → (list_any p ms ≡ true → (n : ℕ) × (has n ms ≡ true) × (p n ≡ true)) → (n : ℕ) × (has n (m ∷ ms) ≡ true) × (p n ≡ true)
    go true e rest = (m, rw itself refl, e)
    go false e rest = let k = rest (rw e at h) in (k.0, later k.0 k.1, k.2)

-- what is left is a record
own-has : (notes : List Note) (u n : ℕ) (ms : List ℕ) → Owned notes u ms → has n ms ≡ true → n < length notes
own-has notes u n [] h e = absurd (cc)
own-has notes u n (m ∷ ms) h e = go (m == n) refl (own-has notes u n ms h.2)
  where
    go : (b : Bool) → (m == n) ≡ b → (has n ms ≡ true → n < length notes) → n < length notes
    go true q rest = let same : m ≡ n = grind (arith, nat_tests) in let lt : m < length notes = h.0 in omega (arith, same, lt)
    go false q rest = rest (rw q at e)

-- a slot with a pending version is one of the unit's records exactly where the version is the unit's
hits-are : (w : World) (log : List Record) (c : Conn) (u : ℕ) (t : TableId) (r : Rid) (v : Version) (under : List Version) → LogStands log w.records w.changes
    → AreKept w → LeftPends w → w.unit c ≡ Some u → versions w t r ≡ v ∷ under → v.pending ≡ true
    → (v.unit ≡ u → is_hit log (left w.records u) t r ≡ true) × (v.unit ≢ u → is_hit log (left w.records u) t r ≡ false)
unfolding AllOwned AllPiled AllOneUnit LeftPends
hits-are w log c u t r v under stands kept left_pends open_unit is p = (own, λ ne. other ne (is_hit log (left w.records u) t r) refl)
  where
    pile : Piled w.records t r (v ∷ under)
    pile = subst (Piled w.records t r) is (kept.piled t r)

    one : OneUnit (v ∷ under)
    one = subst OneUnit is (kept.one t r)

    back : AllBack log (v ∷ under)
    back = subst (AllBack log) is (all-back log w (versions w t r) stands (kept.recorded.each t r))

    own : v.unit ≡ u → is_hit log (left w.records u) t r ≡ true
    own e =
        let note = noted log w v.number stands (back.0 p).within in
        let table : (record_at log v.number).table.0 ≡ t.0 = ap (λ (z : Note). z.table.0) note ∙ ap (λ (z : TableId). z.0) (pile.0 p).table in
        let rid : (record_at log v.number).rid.0 ≡ r.0 = ap (λ (z : Note). z.rid.0) note ∙ ap (λ (z : Rid). z.0) (pile.0 p).rid in
        any-has (λ n. table_eq (record_at log n).table t && rid_eq (record_at log n).rid r) v.number (left w.records u)
        (subst (λ (z : ℕ). has v.number (left w.records z) ≡ true) e (pile.0 p).is_left) (rw (table, rid) (grind (arith, nat_tests)))

    other : v.unit ≢ u → (b : Bool) → is_hit log (left w.records u) t r ≡ b → is_hit log (left w.records u) t r ≡ false
    other ne false e = e
    other ne true e = absurd (wrong (any-one _ (left w.records u) e))
      where
        wrong : (n : ℕ) × (has n (left w.records u) ≡ true) × ((table_eq (record_at log n).table t && rid_eq (record_at log n).rid r) ≡ true) → ⊥
        wrong (n, there, same) =
            let inside = own-has w.records u n (left w.records u) (kept.owned u) there in
            let count = length-log log w stands in
            let note = noted log w n stands (omega (arith, count, inside)) in
            let table : (note_of w.records n).table.0 ≡ t.0 = ap (λ (z : Note). z.table.0) (sym note) ∙ grind (arith, nat_tests, same) in
            let rid : (note_of w.records n).rid.0 ≡ r.0 = ap (λ (z : Note). z.rid.0) (sym note) ∙ grind (arith, nat_tests, same) in
            let at : versions w (note_of w.records n).table (note_of w.records n).rid ≡ v ∷ under = rw (table, rid) is in
            pends-own n u v under p one ne (subst (λ (l : List Version). pends n u l ≡ true) at (left_pends c u n open_unit there))

-- releasing keeps the numbers of tables and slots
released-wide : (log : List Record) (ns : List ℕ) (tables : List (List Slot)) → length (released log ns tables) ≡ length tables
released-wide log [] tables = refl
released-wide log (n ∷ ns) tables = released-wide log ns _ ∙ length-set tables (record_at log n).table.0 _

released-long : (log : List Record) (ns : List ℕ) (tables : List (List Slot)) (t : TableId)
    → length (slots_of (released log ns tables) t) ≡ length (slots_of tables t)
released-long log [] tables t = refl
released-long log (n ∷ ns) tables t = released-long log ns _ t ∙ row-length_set tables (record_at log n).table.0 (record_at log n).rid.0 _ t.0

-- a list of which each pends has what is not empty
pends-some : (n u : ℕ) (vs : List Version) → pends n u vs ≡ true → (v : Version) × (under : List Version) × (vs ≡ v ∷ under)
pends-some n u [] e = absurd (cc)
pends-some n u (v ∷ vs) e = (v, vs, refl)

-- each record that the unit has left is of a slot that is there
within-all : (log : List Record) (tables : List (List Slot)) (ms : List ℕ)
    → ((n : ℕ) → has n ms ≡ true → ((record_at log n).table.0 < length tables) × ((record_at log n).rid.0 < length (slots_of tables (record_at log n).table)))
    → AreWithin log tables ms
within-all log tables [] h = tt
within-all log tables (m ∷ ms) h = ((h m first).0, (h m first).1, within-all log tables ms (λ n e. h n (later n e)))
  where
    first : has m (m ∷ ms) ≡ true
    first = let k : (m == m) ≡ true = grind (arith, nat_tests) in rw k refl

    later : (n : ℕ) → has n ms ≡ true → has n (m ∷ ms) ≡ true
    later n e = either (m == n)
      where
        either : (b : Bool) → (b || has n ms) ≡ true
        either true = refl
        either false = e

pub left-within : (w : World) (p : Chained) (c : Conn) (u : ℕ) → AreChained w p → AreKept w → LeftPends w → w.unit c ≡ Some u
    → AreWithin p.log p.tables (left w.records u)
unfolding AllOwned LeftPends
left-within w p c u s kept left_pends open_unit = within-all p.log p.tables (left w.records u) one
  where
    one : (n : ℕ) → has n (left w.records u) ≡ true
        → ((record_at p.log n).table.0 < length p.tables) × ((record_at p.log n).rid.0 < length (slots_of p.tables (record_at p.log n).table))
    one n there =
        let inside = own-has w.records u n (left w.records u) (kept.owned u) there in
        let count = length-log p.log w s.log in
        let note = noted p.log w n s.log (omega (arith, count, inside)) in
        let some = pends-some n u _ (left_pends c u n open_unit there) in
        let cell : versions_in w.tables (record_at p.log n).table (record_at p.log n).rid ≡ some.0 ∷ some.1 =
        subst (λ (z : Note). versions_in w.tables z.table z.rid ≡ some.0 ∷ some.1) (sym note) some.2 in
        let at = cell-within w.tables _ _ some.0 some.1 cell in (
          subst (λ (k : ℕ). (record_at p.log n).table.0 < k) (sym s.slots.wide) at.0,
          subst (λ (k : ℕ). (record_at p.log n).rid.0 < k)
              (sym (s.slots.long (record_at p.log n).table)) at.1,
        )

-- the unit of the connection is closed, and no other one changes
pub works-none : (works : List (Option Work)) (notes : List Note) (unit : Conn → Option ℕ) (marks : Conn → List MarkAt) (c : Conn)
    → WorksStand works notes unit marks
    → WorksStand (with_work works c None) notes (at_conn unit c None) (at_conn marks c [])
works-none works notes unit marks c s d lt = go (same d.0 c.0)
  where
    same : (a b : ℕ) → (a ≡ b) ⊎ (a ≢ b)
    same a b = grind arith

    within : d.0 < length works
    within = rw length-set at lt

    go : (d.0 ≡ c.0) ⊎ (d.0 ≢ c.0)
        → work_at (with_work works c None) d ≡ option_map (work_of_unit notes (at_conn marks c [] d)) (at_conn unit c None d)
    go (inl e) =
        let test : (d.0 == c.0) ≡ true = grind (arith, nat_tests) in
        rw (test, e) (get_or-set_same works c.0 None None (subst (λ (z : ℕ). z < length works) e within))
    go (inr ne) =
        let test : (d.0 == c.0) ≡ false = grind (arith, nat_tests) in
        rw test (get_or-set_other works c.0 d.0 None None ne ∙ s d within)

pub commit-chained : (h : Head) (w : World) (p : Chained) (c : Conn) (u : ℕ) → AreChained w p → AreKept w → LeftPends w → w.unit c ≡ Some u
    → AreChained (after h w (by_agent c Commit)) (committed p c (left w.records u))
unfolding AllPiled AllOneUnit
commit-chained h w p c u s kept left_pends open_unit = record {
  slots = record {
    wide = released-wide p.log (left w.records u) p.tables ∙ s.slots.wide ∙ sym (length-map w.tables _);
    long = λ t. released-long p.log (left w.records u) p.tables t ∙ s.slots.long t ∙ sym (row-length_map (settled_by (unit_of w c)) w.tables t.0);
    each = λ t r. subst (λ (l : List Version). SlotStands (slot_in (released p.log (left w.records u) p.tables) t r) l)
        (sym (cell-map [] (settled_by (unit_of w c)) refl w.tables t.0 r.0))
        (subst (λ (z : Slot). SlotStands z (settled_by (unit_of w c) (versions w t r))) (sym (released-at p.log (left w.records u) p.tables t r within))
        (subst (λ (k : ℕ). SlotStands (if is_hit p.log (left w.records u) t r then cleared (slot_in p.tables t r) else slot_in p.tables t r)
        (settled_by k (versions w t r))) (sym unit)
        (settled-stands p.log w.records t r u (slot_in p.tables t r) (versions w t r) (is_hit p.log (left w.records u) t r) (kept.piled t r) (kept.one t r)
        (s.slots.each t r)
        (λ v under is pending. hits-are w p.log c u t r v under s.log kept left_pends open_unit is pending))));
  };
  log = s.log;
  works = works-none p.book.works w.records w.unit w.marks c s.works;
  begun = s.begun;
}
  where
    unit : unit_of w c ≡ u
    unit = ap (λ o. unwrap_or o 0) open_unit

    within : AreWithin p.log p.tables (left w.records u)
    within = left-within w p c u s kept left_pends open_unit
