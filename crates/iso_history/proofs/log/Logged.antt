-- Each pending version has its record, and each version's row fits, after each entry that a legal history may make.
use Rattle.std.proofs.Common.{◌≡◌, ◌<◌, ℕ, Bool, true, false, ◌&&◌, List, [], ◌∷◌, length, refl, ap, sym, ◌∙◌, arith, Some, None, Option, get_or}
use Rattle.std.specs.Option.{option_map_or}
use Rattle.std.specs.Prelude.{IfSome, is_some, slice_get, if◌then◌else◌}
use Rattle.std.proofs.lemmas.Option.{slice_get_within}
use Rattle.iso_history.specs.After.{after}
use Rattle.iso_history.specs.Fitted.{Fits, RowsFit, WriteFits}
use Rattle.iso_history.specs.Legal.{Allowed, By, ByAgent, ByDispatcher}
use Rattle.iso_history.specs.Piles.{AllOneUnit, AllPiled}
use Rattle.iso_history.specs.Recorded.{AllRecorded, ChangeFits}
use Rattle.iso_history.specs.Records.{last_left, note_of}
use Rattle.iso_history.specs.Units.{unit_of, unit_of_maker}
use Rattle.iso_history.specs.Versions.{Change, change_of, committed, head_record, is_changed_beside, present, versions, view}
use Rattle.iso_history.specs.Versions.Change.{Writes}
use Rattle.iso_history.specs.World.{Version, World}
use Rattle.iso_history.specs.Writes.{may_change, may_write}
use Rattle.iso_history.specs.declared.entry.Act.{Act}
use Rattle.iso_history.specs.declared.entry.Act.TheVariants.{Commit, Delete, Insert, Undo, Update}
use Rattle.iso_history.specs.declared.entry.Entry.{Entry}
use Rattle.iso_history.specs.declared.entry.Who.{Who}
use Rattle.iso_history.specs.declared.entry.Who.TheVariants.{Agent, Dispatcher}
use Rattle.iso_types.specs.Head.{all_fit, row_fits}
use Rattle.iso_types.specs.declared.head.Head.{Head}
use Rattle.iso_types.specs.declared.head.TableDef.{TableDef}
use Rattle.iso_types.specs.declared.value.Conn.{Conn}
use Rattle.iso_types.specs.declared.value.Rid.{Rid}
use Rattle.iso_types.specs.declared.value.TableId.{TableId}
use Rattle.iso_types.specs.declared.value.Value.{Value}
use Rattle.iso_history.proofs.log.Cells.{cell-within}
use Rattle.iso_history.proofs.log.Fitted.{PlaceThere, change-fit, equally-wide, present-fits}
use Rattle.iso_history.proofs.log.Recorded.{change-recorded}
use Rattle.iso_history.proofs.log.Taken.{takes-top}

-- what is taken of the world: piles, one unit a slot, as many tables as the head has; who may change a row sees no other
-- unit's pending version of it; the last record that a unit has left is its slot's last version
pub record Premises (head : Head) (w : World) : Type 0 where
  pub piled : AllPiled w
  pub one : AllOneUnit w
  pub wide : length w.tables ≡ length head.tables
  pub beside : (c : Conn) (t : TableId) (r : Rid) → may_change head w c t r ≡ true → is_changed_beside w c t r ≡ false
  pub top : (c : Conn) (n : ℕ) → last_left w (unit_of w c) ≡ Some n
      → head_record (versions w (note_of w.records n).table (note_of w.records n).rid) ≡ Some n

-- a row of a table fits where there is such a table
pub fits-there : (head : Head) (t : TableId) (row : List Value) → row_fits head t row ≡ true → t.0 < length head.tables
fits-there head t row h = go (slice_get head.tables t.0) refl h
  where
    go : (o : Option TableDef) → slice_get head.tables t.0 ≡ o → option_map_or (λ d. all_fit d.columns row) o false ≡ true → t.0 < length head.tables
    go None e h = absurd (cc)
    go (Some d) e h = slice_get_within head.tables t.0 d e

-- both of a conjunction
both : (a b : Bool) → (a && b) ≡ true → (a ≡ true) × (b ≡ true)
both true b h = (refl, h)
both false b h = absurd (cc)

-- who may change a row sees the present row
pub record Seen (w : World) (t : TableId) (r : Rid) : Type 0 where
  pub row : List Value
  pub shows : present (versions w t r) ≡ Some row
  pub table : t.0 < length w.tables
  pub rid : r.0 < length (get_or w.tables t.0 [])

pub seen : (head : Head) (w : World) (c : Conn) (t : TableId) (r : Rid) → is_changed_beside w c t r ≡ false → may_change head w c t r ≡ true → Seen w t r
seen head w c t r alone may = go (view w c t r) refl (both _ _ (both (may_write w c t) _ may).1).1
  where
    same : view w c t r ≡ present (versions w t r)
    same = ap (λ b. if b then committed (versions w t r) else present (versions w t r)) alone

    there : (row : List Value) (vs : List Version) → versions w t r ≡ vs → present vs ≡ Some row → Seen w t r
    there row [] e shows = absurd (cc)
    there row (v ∷ vs) e shows =
        let within = cell-within w.tables t.0 r.0 v vs e in
        record { row = row; shows = ap present e ∙ shows; table = within.0; rid = within.1 }

    go : (o : Option (List Value)) → view w c t r ≡ o → is_some (view w c t r) ≡ true → Seen w t r
    go None e some = absurd (let z : is_some (view w c t r) ≡ false = ap is_some e in cc)
    go (Some row) e some = there row (versions w t r) refl (sym same ∙ e)

-- what an agent's entry does fits
record Good (head : Head) (w : World) (ch : Change) : Type 0 where
  recorded : ChangeFits w ch
  there : PlaceThere w ch
  fits : WriteFits head ch

writes-good : (head : Head) (w : World) (c : Conn) (t : TableId) (r : Rid) (row : Option (List Value)) → Premises head w → RowsFit head w.tables
    → may_change head w c t r ≡ true → Fits head t row → Good head w (Writes t r row)
writes-good head w c t r row p fit may fits = record {
  recorded = (s.table, s.rid, s.row, s.shows, wide row fits);
  there = (s.table, s.rid);
  fits = fits;
}
  where
    s : Seen w t r
    s = seen head w c t r (p.beside c t r may) may

    wide : (o : Option (List Value)) → Fits head t o → IfSome o (λ new. length new ≡ length (seen head w c t r (p.beside c t r may) may).row)
    wide None f = tt
    wide (Some new) f = equally-wide head t new s.row f (present-fits head t (versions w t r) s.row (fit t r) s.shows)

agent-good : (head : Head) (w : World) (c : Conn) (a : Act) → Premises head w → RowsFit head w.tables → ByAgent head w c a → Good head w (change_of a)
unfolding AllOneUnit
agent-good head w c (Insert t r row) p fit al =
    let lt : t.0 < length w.tables = let k = fits-there head t row al.2 in let e = p.wide in omega (arith, k, e) in
    record { recorded = lt; there = lt; fits = al.2 }
agent-good head w c (Update t r row) p fit al = writes-good head w c t r (Some row) p fit al.1 al.2
agent-good head w c (Delete t r) p fit al = writes-good head w c t r None p fit al.1 tt
agent-good head w c (Undo n) p fit al = record { recorded = takes-top w n p.piled (p.top c n al.1); there = tt; fits = tt }
agent-good head w c Commit p fit al = record { recorded = p.one; there = tt; fits = tt }
agent-good head w c _ p fit al = record { recorded = tt; there = tt; fits = tt }

dispatcher-good : (head : Head) (w : World) (a : Act) → ByDispatcher head w a → Good head w (change_of a)
dispatcher-good head w (Insert t r row) al = absurd al
dispatcher-good head w (Update t r row) al = absurd al
dispatcher-good head w (Delete t r) al = absurd al
dispatcher-good head w (Undo n) al = absurd al
dispatcher-good head w Commit al = absurd al
dispatcher-good head w _ al = record { recorded = tt; there = tt; fits = tt }

good : (head : Head) (w : World) (e : Entry) → Premises head w → RowsFit head w.tables → Allowed head w e → Good head w (change_of e.act)
good head w e p fit al = go e.who al.2
  where
    go : (who : Who) → By head w who e.act → Good head w (change_of e.act)
    go Dispatcher by = dispatcher-good head w e.act by
    go (Agent c) by = agent-good head w c e.act p fit by.1

pub recorded-after : (head : Head) (w : World) (e : Entry) → Premises head w → RowsFit head w.tables → Allowed head w e
    → AllRecorded w.records w.changes w.tables
    → AllRecorded (after head w e).records (after head w e).changes (after head w e).tables
recorded-after head w e p fit al s = change-recorded w (unit_of_maker w e.who) (change_of e.act) (good head w e p fit al).recorded s

pub rows-after : (head : Head) (w : World) (e : Entry) → Premises head w → Allowed head w e → RowsFit head w.tables → RowsFit head (after head w e).tables
rows-after head w e p al fit =
    change-fit head w (unit_of_maker w e.who) (change_of e.act) (good head w e p fit al).there (good head w e p fit al).fits fit
