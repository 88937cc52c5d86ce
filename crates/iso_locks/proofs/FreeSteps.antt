-- The holds after locks on rows and keys are given back, and what is due.
use Rattle.std.proofs.Common.{◌≡◌, List, ap, subst}
use Rattle.std.specs.Option.{option_map, option_map_or}
use Rattle.std.specs.Prelude.{None, Some, Option, not, ◌&&◌, unwrap_or}
use Rattle.iso_history.specs.After.{after}
use Rattle.iso_history.specs.Facts.{DuesHeld}
use Rattle.iso_history.specs.Legal.{ByAgent}
use Rattle.iso_history.specs.Makers.{by_agent}
use Rattle.iso_history.specs.Outcomes.{due_mode}
use Rattle.iso_history.specs.Phases.{phase}
use Rattle.iso_history.specs.World.{World}
use Rattle.iso_history.specs.declared.entry.Act.TheVariants.{Collapse, Free}
use Rattle.iso_locklist.specs.Holding.{LocksAre}
use Rattle.iso_locklist.specs.Places.{Ledger}
use Rattle.iso_locklist.proofs.Alike.{swap}
use Rattle.iso_locklist.proofs.Settles.{stays_after}
use Rattle.iso_modes.specs.declared.Mode.{Mode}
use Rattle.iso_modes.specs.declared.Mode.TheVariants.{X}
use Rattle.iso_queue.specs.Locks.{Hold, collapsed, freed, held, is_hold_of, settled, without_briefs}
use Rattle.iso_types.specs.Head.{is_on}
use Rattle.iso_types.specs.Ids.{conn_eq}
use Rattle.iso_types.specs.declared.desk.Phase.TheVariants.{Running}
use Rattle.iso_types.specs.declared.head.Head.{Head}
use Rattle.iso_types.specs.declared.value.Conn.{Conn}
use Rattle.iso_types.specs.declared.value.Name.TheVariants.{Row, Table}
use Rattle.iso_types.specs.declared.value.Rid.{Rid}
use Rattle.iso_types.specs.declared.value.TableId.{TableId}

module _ (head : Head) (w : World) (c : Conn) (l : Ledger) where
  -- a row is freed after the holds are settled
  pub freed-are : (t : TableId) (r : Rid) → LocksAre (freed c (Row t r) (without_briefs w.holds c (settled c (Some (Row t r)) w.holds))) w.waits l
      → LocksAre (after head w (by_agent c (Free t r))).holds w.waits l
  freed-are t r are =
      subst (λ (hs : List Hold). LocksAre hs w.waits l)
      (swap (λ h. not (is_hold_of c (Row t r) h)) (stays_after w.holds c) (settled c (Some (Row t r)) w.holds)) are

  -- rows and keys of a table go after the holds are settled
  pub collapsed-are : (t : TableId) (m : Mode) → LocksAre (collapsed head c t (without_briefs w.holds c (settled c None w.holds))) w.waits l
      → LocksAre (after head w (by_agent c (Collapse t m))).holds w.waits l
  collapsed-are t m are =
      subst (λ (hs : List Hold). LocksAre hs w.waits l)
      (swap (λ h. not (conn_eq h.conn c && is_on head t h.name)) (stays_after w.holds c) (settled c None w.holds)) are

-- what is due, by its table
due-by : (o : Option (TableId × Mode)) (t : TableId) → option_map (λ d. d.0) o ≡ Some t → o ≡ Some (t, option_map_or (λ d. d.1) o X)
due-by None t e = cc e
due-by (Some d) t e = ap (λ (u : TableId). Some (u, d.1)) (same d.0 t e)
  where
    same : (u v : TableId) → Some u ≡ Some v → u ≡ v
    same u v e = cc e

pub due-is : (w : World) (c : Conn) (t : TableId) → option_map (λ d. d.0) (w.due c) ≡ Some t → w.due c ≡ Some (t, due_mode w c)
due-is w c t e = due-by (w.due c) t e

-- the mode of the Collapse is that in which the table is held
pub due-held : (w : World) (c : Conn) (t : TableId) → DuesHeld w → w.due c ≡ Some (t, due_mode w c)
    → unwrap_or (held w.holds c (Table t)) X ≡ due_mode w c
unfolding DuesHeld
due-held w c t dues e = ap (λ (o : Option Mode). unwrap_or o X) (dues c t (due_mode w c) e).0

pub may-free : (head : Head) (w : World) (c : Conn) (t : TableId) → phase w c ≡ Running → option_map (λ d. d.0) (w.due c) ≡ Some t
    → ByAgent head w c (Collapse t (due_mode w c))
may-free head w c t runs due = (runs, due-is w c t due)
