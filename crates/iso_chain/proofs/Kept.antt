-- What slots, log and units rest on holds in every legal history whose head's rows fit; and what each entry that may stand gives its write.
use Rattle.std.proofs.Common.{◌≡◌, ◌<◌, ℕ, true, List, refl, ap, sym, ◌∙◌, arith, Some, length}
use Rattle.std.specs.Prelude.{IfSome, Option, None}
use Rattle.iso_history.proofs.log.Fitted.{equally-wide, present-fits}
use Rattle.iso_history.proofs.log.Logged.{fits-there, seen}
use Rattle.iso_history.proofs.limits.Begun.{none_left, undo-unit, unit-of}
use Rattle.iso_history.proofs.pending.Conns.{conn-is}
use Rattle.iso_history.proofs.pending.MakersAfter.{change-lock, runs-unit}
use Rattle.iso_history.proofs.whole.Journal.{log_sound-world}
use Rattle.iso_history.proofs.whole.Sound.{sound-world}
use Rattle.iso_history.proofs.whole.Writers.{all-one_unit, top-of-unit, writer-alone}
use Rattle.iso_history.specs.After.{start, world}
use Rattle.iso_history.specs.Facts.{IsSound, LogSound, TablesThere}
use Rattle.iso_history.specs.Fitted.{Fits, RowsFit}
use Rattle.iso_history.specs.Legal.{Allowed, Ground}
use Rattle.iso_history.specs.Makers.{by_agent}
use Rattle.iso_history.specs.Units.{unit_of}
use Rattle.iso_history.specs.Versions.{present, versions}
use Rattle.iso_history.specs.World.{World}
use Rattle.iso_history.specs.Writes.{may_change}
use Rattle.iso_history.specs.declared.entry.Act.TheVariants.{Delete, Insert, Undo, Update}
use Rattle.iso_history.specs.declared.entry.Entry.{Entry}
use Rattle.iso_types.specs.declared.head.Head.{Head}
use Rattle.iso_types.specs.declared.value.Conn.{Conn}
use Rattle.iso_types.specs.declared.value.Rid.{Rid}
use Rattle.iso_types.specs.declared.value.TableId.{TableId}
use Rattle.iso_types.specs.declared.value.Value.{Value}
use Rattle.iso_chain.specs.Facts.{AreKept, MayAdd, MayUndo, MayWrite, UnitsDiffer}

units-differ : (w : World) → ((c d : Conn) (u : ℕ) → w.unit c ≡ Some u → w.unit d ≡ Some u → c ≡ d) → UnitsDiffer w.unit
units-differ w h c d u e f = ap (λ (z : Conn). z.0) (h c d u e f)

-- the facts of worlds
pub kept-of : (head : Head) (w : World) → IsSound head w → LogSound head w → AreKept w
kept-of head w s l = record {
  piled = s.piled;
  one = all-one_unit head w s;
  linked = s.linked;
  owned = s.owned;
  recorded = l.recorded;
  differ = units-differ w (λ c d u e f. conn-is c d (s.units.apart c d u e f));
}

-- in every legal history
pub kept-world : (head : Head) (es : List Entry) → RowsFit head (start head).tables → Ground head es → AreKept (world head es)
kept-world head es fit g = kept-of head (world head es) (sound-world head es g) (log_sound-world head es fit g)

module _ (head : Head) (w : World) (s : IsSound head w) where
  -- an Undo that may stand
  pub may-undo : (c : Conn) (n : ℕ) → Allowed head w (by_agent c (Undo n)) → MayUndo w c n
  may-undo c n al =
      let last = al.2.1.1 in
      record {
        unit = unit_of w c;
        open_unit = unit-of w c (undo-unit w c n (none_left w.begun w.records s.begun_records) last);
        last = last;
        top = top-of-unit head w s c n last;
      }

  -- a change that may stand
  may-write : (c : Conn) (t : TableId) (r : Rid) (row : Option (List Value)) → LogSound head w → w.unit c ≡ Some (unit_of w c)
      → may_change head w c t r ≡ true → Fits head t row → MayWrite w c t r row
  may-write c t r row l is may fits =
      let x = seen head w c t r (writer-alone head w s t r c (change-lock head w s c t r may)) may in
      record {
        unit = unit_of w c;
        open_unit = is;
        table = x.table;
        rid = x.rid;
        old = x.row;
        shows = x.shows;
        wide = wide row x.row x.shows fits;
      }
    where
      wide : (o : Option (List Value)) (old : List Value) → present (versions w t r) ≡ Some old → Fits head t o → IfSome o (λ new. length new ≡ length old)
      wide None old shows f = tt
      wide (Some new) old shows f = equally-wide head t new old f (present-fits head t (versions w t r) old (l.fitted t r) shows)

  pub may-update : (c : Conn) (t : TableId) (r : Rid) (row : List Value) → LogSound head w → Allowed head w (by_agent c (Update t r row))
      → MayWrite w c t r (Some row)
  may-update c t r row l al = let by = al.2.1 in may-write c t r (Some row) l (runs-unit head w s c by.0.0) by.1 by.2

  pub may-delete : (c : Conn) (t : TableId) (r : Rid) → LogSound head w → Allowed head w (by_agent c (Delete t r)) → MayWrite w c t r None
  may-delete c t r l al = let by = al.2.1 in may-write c t r None l (runs-unit head w s c by.0.0) by.1 tt

  pub may-insert : (c : Conn) (t : TableId) (r : Rid) (row : List Value) → Allowed head w (by_agent c (Insert t r row)) → MayAdd w c t
  unfolding TablesThere
  may-insert c t r row al =
      let by = al.2.1 in
      record {
        unit = unit_of w c;
        open_unit = runs-unit head w s c by.0.0;
        table = (let k = fits-there head t row by.2 in let e = s.wide in omega (arith, k, e));
      }
