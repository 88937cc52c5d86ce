-- The step that is due of a connection which can go on may be made.
use Rattle.std.proofs.Common.{◌≡◌, inl, inr, true, List, refl, ap, Some}
use Rattle.iso_conduct.specs.Conduct.{Conduct, point, ready}
use Rattle.iso_conduct.specs.Points.{Point, due, row_due}
use Rattle.iso_conduct.specs.Standing.{MayGoOn, MayMake}
use Rattle.iso_conduct.specs.declared.moves.Move.{Move}
use Rattle.iso_history.proofs.pending.Conns.{and-both}
use Rattle.iso_history.specs.After.{world}
use Rattle.iso_history.specs.Legal.{Ground, Runs}
use Rattle.iso_history.specs.World.{World}
use Rattle.iso_history.specs.Writes.{may_change, may_write}
use Rattle.iso_history.specs.declared.entry.Entry.{Entry}
use Rattle.iso_script.specs.Sound.{IsSound}
use Rattle.iso_script.specs.declared.script.Script.{Script}
use Rattle.iso_standing.proofs.NextsAt.{next-at}
use Rattle.iso_standing.proofs.RowsAt.{Changes, change-at, row-there-at, update-fits-at}
use Rattle.iso_standing.proofs.StepsRun.{asks_to_run, back-at, claim-at, collapse-at, free-at, runs-at}
use Rattle.iso_standing.proofs.StepsUndo.{rollback-at, undo-at}
use Rattle.iso_standing.proofs.TableLocks.{ask-at, delete-table-at, insert-at, look-at, no-end-at, no-key-at, refuse-at, table-ask-at, update-table-at}
use Rattle.iso_standing.specs.Going.{GoesOn}
use Rattle.iso_types.specs.declared.value.Conn.{Conn}
use Rattle.iso_types.specs.declared.value.Name.TheVariants.{End, Key, Row, Table}
use Rattle.iso_types.specs.declared.value.Rid.{Rid}
use Rattle.iso_types.specs.declared.value.TableId.{TableId}

module _ (script : Script) (es : List Entry) (c : Conn) (p : Point) (sound : IsSound script) (g : Ground script.head es)
    (k : Conduct script.head script.lines es c) (able : GoesOn (world script.head es) c)
    (is : ready script.head script.lines (world script.head es) c (point script.head script.lines es c) ≡ Some p) where
  abbrev here : World
  here = world script.head es

  run : asks_to_run (due p) ≡ true → Runs here c
  run e = runs-at script.head script.lines es c g k able p is e

  may-change : (t : TableId) (r : Rid) → may_write here c t ≡ true → Changes script.head here c t r → may_change script.head here c t r ≡ true
  may-change t r w s = and-both _ _ w (and-both _ _ s.0 s.1)

  may-make : (m : Move) → due p ≡ m → MayMake script.head here c (row_due p) m
  may-make (Move.Lock (Table t) m) e = (run (ap asks_to_run e), table-ask-at script es c p sound g k is t m e)
  may-make (Move.Lock (Row t r) m) e =
      let runs = run (ap asks_to_run e) in
      (runs, ask-at script es c p sound g k is runs.0 (Row t r) m e (row-there-at script es c p sound g k is t r m e))
  may-make (Move.Lock (Key i v) m) e = absurd (no-key-at script es c p sound g k is i v m e)
  may-make (Move.Lock (End i) m) e = absurd (no-end-at script es c p sound g k is i m e)
  may-make Move.Claim e = claim-at script.head script.lines es c g k able p is e
  may-make (Move.Look t r want) e = let runs = run (ap asks_to_run e) in (runs, look-at script es c p sound g k is runs.0 t r want e)
  may-make (Move.Next i range at guarded) e = let runs = run (ap asks_to_run e) in (runs, next-at script es c p sound g k is runs.0 i range at guarded e)
  may-make (Move.Free t r) e = free-at script.head script.lines es c g k able p is t r e
  may-make (Move.Collapse t) e = collapse-at script.head script.lines es c g k able p is t e
  may-make (Move.Insert t) e =
      let runs = run (ap asks_to_run e) in
      let may = insert-at script es c p sound g k is runs.0 t e in
      (runs, may.0, may.1)
  may-make (Move.Update t r) e =
      let runs = run (ap asks_to_run e) in (
        runs,
        may-change t r (update-table-at script es c p sound g k is runs.0 t r e) (change-at script es c p sound g k is runs.0 t r (inl e)),
        update-fits-at script es c p sound g k is t r e,
      )
  may-make (Move.Delete t r) e =
      let runs = run (ap asks_to_run e) in
      (runs, may-change t r (delete-table-at script es c p sound g k is runs.0 t r e) (change-at script es c p sound g k is runs.0 t r (inr e)))
  may-make (Move.Refuse code) e = (run (ap asks_to_run e), refuse-at script es c p sound g k is code e)
  may-make (Move.Undo floor) e = undo-at script.head script.lines es c g k able p is floor e
  may-make (Move.Mark name) e = run (ap asks_to_run e)
  may-make (Move.Back name) e = back-at script.head script.lines es c g k able p is name e
  may-make (Move.Set level may_wait) e = run (ap asks_to_run e)
  may-make Move.Commit e = run (ap asks_to_run e)
  may-make (Move.RollbackEnd code reason) e = rollback-at script.head script.lines es c g k able p is code reason e
  may-make (Move.Reply code changed) e = run (ap asks_to_run e)

  -- what is due may be made
  pub goes-on-may : MayGoOn script.head here c p
  goes-on-may = may-make (due p) refl
