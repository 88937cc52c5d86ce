-- What the dispatcher takes may stand.
use Rattle.std.proofs.Common.{◌≡◌, ℕ, Bool, true, false, ◌||◌, List, ◌∷◌, refl, subst, Option, Some, None, if◌then◌else◌}
use Rattle.std.specs.Prelude.{is_some}
use Rattle.iso_conduct.proofs.Open.{is-idle}
use Rattle.iso_conduct.specs.Conduct.{statement_in}
use Rattle.iso_conduct.specs.Pacing.{IsLine, purge_of, purge_or_line, step_of, taking}
use Rattle.iso_history.specs.Entries.{least_purgeable}
use Rattle.iso_history.specs.Legal.{ByDispatcher}
use Rattle.iso_history.specs.Phases.{is_phase, phase}
use Rattle.iso_history.specs.Quiet.{is_busy, is_quiet, may_take}
use Rattle.iso_history.specs.World.{World}
use Rattle.iso_history.specs.declared.entry.Act.{Act}
use Rattle.iso_queue.specs.Snapshots.{snapshot}
use Rattle.iso_script.specs.declared.script.Line.{Line}
use Rattle.iso_script.specs.declared.script.What.{What}
use Rattle.iso_types.specs.Head.{is_conn}
use Rattle.iso_types.specs.declared.desk.Phase.{Phase}
use Rattle.iso_types.specs.declared.desk.Phase.TheVariants.{Idle}
use Rattle.iso_types.specs.declared.head.Head.{Head}
use Rattle.iso_types.specs.declared.value.Conn.{Conn}
use Rattle.iso_types.specs.declared.value.IndexId.{IndexId}
use Rattle.iso_types.specs.declared.value.Rid.{Rid}
use Rattle.iso_types.specs.declared.value.Value.{Value}

not-free : (b q : Bool) → (b ≡ true → false ≡ true) → (b || q) ≡ true → q ≡ true
not-free true q no-free h = let f : false ≡ true = no-free refl in absurd (cc)
not-free false q no-free h = h

module _ (head : Head) (w : World) where
  step-stands : (n : ℕ) (free : Bool) (what : What) (o : Option Conn) (a : Act) → (free ≡ true → is_some (statement_in what) ≡ true)
      → ((c : Conn) → o ≡ Some c → is_conn head c ≡ true) → may_take head w ≡ true → (free || is_quiet head w) ≡ true
      → step_of head w n what o ≡ Some a → ByDispatcher head w a
  step-stands n free (What.Statement s) (Some c) a fits known take quiet h =
      go (is_phase (phase w c) Idle) refl (is_busy head w c) refl h
    where
      go : (i : Bool) → is_phase (phase w c) Idle ≡ i → (b : Bool) → is_busy head w c ≡ b
          → (if i then Some (Act.Dispatch n c) else if b then Some (Act.Busy n c) else None) ≡ Some a → ByDispatcher head w a
      go true idle b busy k =
          let q : Act.Dispatch n c ≡ a = cc in
          subst (ByDispatcher head w) q (known c refl, is-idle (phase w c) idle, take)
      go false idle true busy k =
          let q : Act.Busy n c ≡ a = cc in
          subst (ByDispatcher head w) q (known c refl, busy, take)
      go false idle false busy k = absurd (cc)
  step-stands n free (What.Statement s) None a fits known take quiet h = absurd (cc)
  step-stands n free What.Expire (Some c) a fits known take quiet h =
      let q : Act.Expire n c (is_phase (phase w c) Phase.Waiting) ≡ a = cc in
      subst (ByDispatcher head w) q (known c refl, not-free free (is_quiet head w) fits quiet, take, refl)
  step-stands n free What.Expire None a fits known take quiet h = absurd (cc)
  step-stands n free What.Snapshot o a fits known take quiet h =
      let q : Act.Snapshot n (snapshot head w.holds w.waits) ≡ a = cc in
      subst (ByDispatcher head w) q (not-free free (is_quiet head w) fits quiet, take, refl)

  -- the entry that takes a line, or purges, is one that Ground allows, where it is not full
  pub taken-stands : (l : Line) (ls : List Line) (a : Act) → IsLine head l → taking head w (l ∷ ls) ≡ Some a → ByDispatcher head w a
  taken-stands l ls a is h = go w.pace.stopped refl w.pace.purged refl (least_purgeable head w) refl h
    where
      line : may_take head w ≡ true → (if l.free || is_quiet head w then step_of head w l.number l.what l.conn else None) ≡ Some a → ByDispatcher head w a
      line take k = past (l.free || is_quiet head w) refl k
        where
          past : (b : Bool) → (l.free || is_quiet head w) ≡ b → (if b then step_of head w l.number l.what l.conn else None) ≡ Some a → ByDispatcher head w a
          past true quiet j = step-stands l.number l.free l.what l.conn a is.free is.conn take quiet j
          past false quiet j = absurd (cc)

      go : (s : Bool) → w.pace.stopped ≡ s → (p : Bool) → w.pace.purged ≡ p → (o : Option (IndexId × (Value × Rid))) → least_purgeable head w ≡ o
          → (if s then None else purge_or_line head w l p o) ≡ Some a → ByDispatcher head w a
      go true stopped p purged o least k = absurd (cc)
      go false stopped true purged (Some pair) least k = line (rw (stopped, purged) refl) k
      go false stopped true purged None least k = line (rw (stopped, purged) refl) k
      go false stopped false purged None least k = line (rw (stopped, purged, least) refl) k
      go false stopped false purged (Some pair) least k =
          let q : purge_of pair ≡ a = cc in
          subst (ByDispatcher head w) q (rw stopped refl, rw purged refl, least)
