-- What the writes ask, where slots, log and units stand for a world.
use Rattle.std.proofs.Common.{◌≡◌, ◌<◌, ◌≤◌, ℕ, Bool, true, false, List, [], ◌∷◌, length, refl, ap, sym, ◌∙◌, arith, Some, Option, subst}
use Rattle.std.specs.Prelude.{IfSome, IsSome, slice_get, slice_index_or}
use Rattle.iso_history.specs.Linked.{AllBelow, AllLinked, AllOwned, Linked}
use Rattle.iso_history.specs.Piles.{AllPiled, LeftPends}
use Rattle.iso_history.specs.Records.{left}
use Rattle.iso_history.specs.Versions.{head_record, versions}
use Rattle.iso_history.specs.World.{Note, Version, World}
use Rattle.iso_history.proofs.log.Cells.{cell-within}
use Rattle.iso_history.proofs.log.Taken.{Top, top}
use Rattle.iso_record.specs.Undone.{columns_in}
use Rattle.iso_record.specs.declared.record.Record.{Record}
use Rattle.iso_types.specs.declared.value.Conn.{Conn}
use Rattle.iso_types.specs.declared.value.Rid.{Rid}
use Rattle.iso_types.specs.declared.value.TableId.{TableId}
use Rattle.iso_uow.specs.Book.{own, work_at}
use Rattle.iso_uow.specs.declared.units.Work.{Work}
use Rattle.iso_chain.specs.Asked.{UndoAsks}
use Rattle.iso_chain.specs.Facts.{AreKept, MayUndo}
use Rattle.iso_chain.specs.Lines.{HasLine, IsLine}
use Rattle.iso_chain.specs.Logs.{LogStands, chain_of, record_at}
use Rattle.iso_chain.specs.Slots.{face, slot_in}
use Rattle.iso_chain.specs.Stands.{AreChained, Chained}
use Rattle.iso_chain.proofs.Chains.{chain-columns}
use Rattle.iso_chain.proofs.Commits.{left-within}
use Rattle.iso_chain.proofs.Common.{own-is}
use Rattle.iso_chain.proofs.Records.{all-back, length-log, noted}
use Rattle.iso_chain.proofs.Undo.{own-last}
use Rattle.iso_rebuild.specs.Chains.{AllIn}

-- the connection has a unit
pub has-unit : (w : World) (p : Chained) (c : Conn) (u : ℕ) → AreChained w p → c.0 < length p.book.works → w.unit c ≡ Some u → IsSome (work_at p.book.works c)
has-unit w p c u s lt e = rw (s.works c lt, e) refl

-- a change of a unit with something left
left-some : (notes : List Note) (u n : ℕ) → slice_get (left notes u) 0 ≡ Some n → 1 ≤ length (left notes u)
left-some notes u n e = go (left notes u) e
  where
    go : (ms : List ℕ) → slice_get ms 0 ≡ Some n → 1 ≤ length ms
    go [] e = absurd (cc)
    go (m ∷ ms) e = omega arith

-- the columns of the first of these records
head-in : (width : ℕ) (x : Record) (ns : List Record) → AllIn width (x ∷ ns) → columns_in width x.change ≡ true
head-in width x ns h = go (columns_in width x.change) refl h
  where
    go : (b : Bool) → columns_in width x.change ≡ b → AllIn width (x ∷ ns) → columns_in width x.change ≡ true
    go true e h = e
    go false e h = absurd (let z : false ≡ true = rw e at h in cc)

pub undo-asks : (w : World) (p : Chained) (c : Conn) (n : ℕ) → AreChained w p → AreKept w → c.0 < length p.book.works → MayUndo w c n → UndoAsks p c n
unfolding AllPiled AllOwned
undo-asks w p c n s kept lt may = record {
  has_unit = has-unit w p c may.unit s lt may.open_unit;
  some = subst (λ (x : Work). 1 ≤ x.count) (sym (own-is p w c may.unit s lt may.open_unit)) (left-some w.records may.unit n may.last);
  number = inside;
  table = let e = s.slots.wide in let k = within.0 in omega (arith, e, k);
  rid = let e = s.slots.long t in let k = within.1 in omega (arith, e, k);
  columns = go found.is;
}
  where
    inside : n < length p.log
    inside = let e = length-log p.log w s.log in let k = (own-last w.records may.unit n (left w.records may.unit) (kept.owned may.unit) may.last).0 in
        omega (arith, e, k)

    t : TableId
    t = (record_at p.log n).table

    r : Rid
    r = (record_at p.log n).rid

    head : head_record (versions w (record_at p.log n).table (record_at p.log n).rid) ≡ Some n
    head = subst (λ (z : Note). head_record (versions w z.table z.rid) ≡ Some n) (sym (noted p.log w n s.log inside)) may.top

    found : Top w.records (record_at p.log n).table (record_at p.log n).rid n (versions w (record_at p.log n).table (record_at p.log n).rid)
    found = top w.records t r n (versions w t r) (kept.piled t r) head

    within : ((record_at p.log n).table.0 < length w.tables) × ((record_at p.log n).rid.0 < length (slice_index_or w.tables (record_at p.log n).table.0 []))
    within = cell-within w.tables t.0 r.0 found.version found.under found.is

    go : versions w (record_at p.log n).table (record_at p.log n).rid ≡ found.version ∷ found.under
        → columns_in (length (slot_in p.tables (record_at p.log n).table (record_at p.log n).rid).row) (record_at p.log n).change ≡ true
    go is =
        let all : AllIn (length (slot_in p.tables t r).row) (chain_of p.log (found.version ∷ found.under)) =
        subst (λ (vs : List Version). AllIn (length (slot_in p.tables t r).row) (chain_of p.log vs)) is
        (chain-columns p.log (versions w t r) (face (slot_in p.tables t r)) (all-back p.log w (versions w t r) s.log (kept.recorded.each t r))
        (s.slots.each t r).face) in
        let first : AllIn (length (slot_in p.tables t r).row) (record_at p.log found.version.number ∷ chain_of p.log found.under) = rw found.pending at all in
        subst (λ (k : ℕ). columns_in (length (slot_in p.tables t r).row) (record_at p.log k).change ≡ true) found.number
        (head-in (length (slot_in p.tables t r).row) (record_at p.log found.version.number) (chain_of p.log found.under) first)

-- what a unit has left lies along its own chain
line-from : (log : List Record) (w : World) (ms : List ℕ) → LogStands log w.records w.changes → Linked w.records ms → IsLine log (slice_get ms 0) ms
line-from log w [] s h = refl
line-from log w (m ∷ ms) s h =
    let count = length-log log w s in
    let inside = h.0 in
    let lt : m < length log = omega (arith, count, inside) in
    let prev : (record_at log m).prev_unit ≡ slice_get ms 0 = ap (λ (z : Note). z.prev_unit) (noted log w m s lt) ∙ h.1 in (
      refl,
      lt,
      subst (λ (o : Option ℕ). IfSome o (λ j. j < m)) (sym prev) (falls ms h.2),
      subst (λ (o : Option ℕ). IsLine log o ms) (sym prev) (line-from log w ms s h.3),
    )
  where
    falls : (ms : List ℕ) → AllBelow m ms → IfSome (slice_get ms 0) (λ j. j < m)
    falls [] h = tt
    falls (k ∷ ks) h = h.0

pub line-of : (w : World) (p : Chained) (c : Conn) (u : ℕ) → AreChained w p → AreKept w → c.0 < length p.book.works → w.unit c ≡ Some u
    → IsLine p.log (own p.book.works c).last (left w.records u)
unfolding AllLinked
line-of w p c u s kept lt e = subst (λ (x : Work). IsLine p.log x.last (left w.records u)) (sym (own-is p w c u s lt e))
    (line-from p.log w (left w.records u) s.log (kept.linked u))

-- what `commit` asks
pub commit-asks : (w : World) (p : Chained) (c : Conn) (u : ℕ) → AreChained w p → AreKept w → LeftPends w → c.0 < length p.book.works → w.unit c ≡ Some u
    → HasLine p.log p.tables (own p.book.works c).last
commit-asks w p c u s kept left_pends lt e = (left w.records u, line-of w p c u s kept lt e, left-within w p c u s kept left_pends e)
