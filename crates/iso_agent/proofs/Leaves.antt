-- What a turn that made an entry leaves of its agent.
use Rattle.std.proofs.Common.{◌≡◌, Bool, true, false, ◌||◌, ◌&&◌, List, [], ◌∷◌, ◌++◌, refl, sym, ap, ◌∙◌, subst, Option, Some, None, if◌then◌else◌}
use Rattle.iso_agent.specs.Fits.{CanSettle, CanTell, Reaches, Tells, may_want, shows, wants}
use Rattle.iso_agent.specs.Steps.{HasPin}
use Rattle.iso_agent.specs.Turns.{Leaves}
use Rattle.iso_agent.specs.declared.agent.Kept.{Kept}
use Rattle.iso_agent.specs.declared.agent.Kept.TheVariants.{Answer, Nothing, Rebuild, Stop}
use Rattle.iso_conduct.proofs.Snoc.{Conduct-snoc, point-snoc}
use Rattle.iso_conduct.specs.Conduct.{Conduct, IsNext, MayIn, Rolls, ends, heard, made, moved, moved_in, point, ready}
use Rattle.iso_conduct.specs.Points.{Point, told_all}
use Rattle.iso_conduct.specs.declared.moves.Told.{Told}
use Rattle.iso_history.proofs.Snoc.{world-snoc}
use Rattle.iso_history.proofs.limits.Waiting.{conn_eq-refl}
use Rattle.iso_history.specs.After.{after, world}
use Rattle.iso_history.specs.Makers.{by_agent}
use Rattle.iso_history.specs.Phases.{is_phase, phase}
use Rattle.iso_history.specs.Stops.{may_stop}
use Rattle.iso_history.specs.World.{World}
use Rattle.iso_history.specs.declared.entry.Act.{Act}
use Rattle.iso_history.specs.declared.entry.Act.TheVariants.{Stopped}
use Rattle.iso_history.specs.declared.entry.Cause.TheVariants.{Memory}
use Rattle.iso_history.specs.declared.entry.Entry.{Entry}
use Rattle.iso_queue.specs.Queues.{is_grantable}
use Rattle.iso_script.specs.declared.script.Line.{Line}
use Rattle.iso_standing.specs.Going.{GoesOn}
use Rattle.iso_types.specs.declared.desk.Phase.{Phase}
use Rattle.iso_types.specs.declared.desk.Phase.TheVariants.{Closing, Idle, Rolling, Running}
use Rattle.iso_types.specs.declared.head.Head.{Head}
use Rattle.iso_types.specs.declared.value.Conn.{Conn}

-- ---- what a connection may make

-- by its phase, and whether its wait is grantable
abbrev able_by : Phase → Bool → Bool
able_by f g = (is_phase f Running || is_phase f Rolling || is_phase f Closing) || (is_phase f Phase.Waiting && g)

module _ (head : Head) (lines : List Line) (w : World) (c : Conn) (o : Option Point) where
  -- the entry of the step that is due, where the connection goes on
  pub goes-may : GoesOn w c → (p : Point) → ready head lines w c o ≡ Some p → (a : Act) → made head w c p ≡ a → MayIn (phase w c) head lines w c o a
  goes-may g p r a m = go (phase w c) refl
    where
      go : (f : Phase) → phase w c ≡ f → MayIn f head lines w c o a
      go Running e = subst (λ q. IsNext head w c q a) (sym r) (λ k. m)
      go Phase.Waiting e = subst (λ q. IsNext head w c q a) (sym r) (λ k. m)
      go Rolling e = subst (λ q. Rolls head w c q a) (sym r) m
      go Closing e = absurd (g.1 e)
      go Idle e = let k : able_by Idle (is_grantable w.holds w.waits c) ≡ true = subst (λ f. able_by f (is_grantable w.holds w.waits c) ≡ true) e g.0 in absurd (cc)
      go Phase.Ended e =
          let k : able_by Phase.Ended (is_grantable w.holds w.waits c) ≡ true = subst (λ f. able_by f (is_grantable w.holds w.waits c) ≡ true) e g.0 in absurd (cc)

  any-stop : (q : Option Point) → IsNext head w c q (Stopped Memory)
  any-stop None = refl
  any-stop (Some p) = λ k. absurd (cc)

  abbrev stops_by : Phase → Bool → Bool
  stops_by f g = is_phase f Running || (is_phase f Phase.Waiting && g)

  -- a stop for want of memory, where it may stop
  pub stop-may : may_stop head w c Memory ≡ true → MayIn (phase w c) head lines w c o (Stopped Memory)
  stop-may s = go (phase w c) refl
    where
      by_phase : (f : Phase) → phase w c ≡ f → stops_by f (is_grantable w.holds w.waits c) ≡ true
      by_phase f e = subst (λ z. stops_by z (is_grantable w.holds w.waits c) ≡ true) e s

      go : (f : Phase) → phase w c ≡ f → MayIn f head lines w c o (Stopped Memory)
      go Running e = any-stop (ready head lines w c o)
      go Phase.Waiting e = any-stop (ready head lines w c o)
      go Rolling e = let k = by_phase Rolling e in absurd (cc)
      go Closing e = let k = by_phase Closing e in absurd (cc)
      go Idle e = let k = by_phase Idle e in absurd (cc)
      go Phase.Ended e = let k = by_phase Phase.Ended e in absurd (cc)

-- ---- the point after an own entry

module _ (head : Head) (lines : List Line) (w v : World) (c : Conn) (o : Option Point) (a : Act) where
  pub ends-none : (f : Phase) → ends a ≡ true → moved_in f head lines w v c o a ≡ None
  ends-none Closing e = refl
  ends-none Running e = rw e refl
  ends-none Phase.Waiting e = rw e refl
  ends-none Rolling e = rw e refl
  ends-none Idle e = rw e refl
  ends-none Phase.Ended e = rw e refl

  pub goes-some : (f : Phase) → (f ≡ Closing → ⊥) → ends a ≡ false → (p : Point) → ready head lines w c o ≡ Some p
      → moved_in f head lines w v c o a ≡ Some (told_all p (heard w v c a))
  goes-some Closing k e p r = absurd (k refl)
  goes-some Running k e p r = rw (e, r) refl
  goes-some Phase.Waiting k e p r = rw (e, r) refl
  goes-some Rolling k e p r = rw (e, r) refl
  goes-some Idle k e p r = rw (e, r) refl
  goes-some Phase.Ended k e p r = rw (e, r) refl

module _ (head : Head) (lines : List Line) (es new : List Entry) (c : Conn) (a : Act) (is : new ≡ es ++ by_agent c a ∷ []) where
  pub world-now : world head new ≡ after head (world head es) (by_agent c a)
  world-now = ap (world head) is ∙ world-snoc head es (by_agent c a)

  point-now : point head lines new c ≡ moved head lines (world head es) (after head (world head es) (by_agent c a)) c (point head lines es c) a
  point-now =
      ap (λ z. point head lines z c) is ∙ point-snoc head lines c es (by_agent c a)
      ∙ ap (λ (b : Bool). if b then moved head lines (world head es) (after head (world head es) (by_agent c a)) c (point head lines es c) a else point head lines es c)
      (conn_eq-refl c)

  pub conduct-now : Conduct head lines es c → MayIn (phase (world head es) c) head lines (world head es) c (point head lines es c) a
      → Conduct head lines new c
  conduct-now k m = subst (λ z. Conduct head lines z c) (sym is) (Conduct-snoc head lines c es (by_agent c a) k (λ own. m))

  bare-leaves : Conduct head lines es c → MayIn (phase (world head es) c) head lines (world head es) c (point head lines es c) a
      → point head lines new c ≡ None → Leaves head lines new c None Nothing
  bare-leaves k m none = record {
    conduct = conduct-now k m;
    fits = record { reaches = sym none; runs = λ e. absurd (cc) };
    settle = tt;
  }

  -- after an entry that ends its statement there is no task
  pub over-leaves : Conduct head lines es c → MayIn (phase (world head es) c) head lines (world head es) c (point head lines es c) a → ends a ≡ true
      → Leaves head lines new c None Nothing
  over-leaves k m e = bare-leaves k m (point-now ∙ ends-none head lines (world head es) _ c (point head lines es c) a (phase (world head es) c) e)

  -- nor after one of a closing connection
  pub closing-leaves : Conduct head lines es c → MayIn (phase (world head es) c) head lines (world head es) c (point head lines es c) a
      → phase (world head es) c ≡ Closing → Leaves head lines new c None Nothing
  closing-leaves k m e =
      bare-leaves k m
      (point-now ∙ ap (λ f. moved_in f head lines (world head es) (after head (world head es) (by_agent c a)) c (point head lines es c) a) e)

  -- ---- after one that goes on

  reaches-by : (p : Point) (kept : Kept) (ts : List Told) → Tells kept ts → Reaches (Some p) kept (Some (told_all p ts))
  reaches-by p Nothing ts t = rw t refl
  reaches-by p (Answer told queued) ts t = rw t refl
  reaches-by p (Rebuild past) ts t = λ row rebuilt. rw (t.1 row rebuilt, t.2) refl
  reaches-by p Stop ts t = absurd t

  wants-by : (p : Point) (kept : Kept) (ts : List Told) → Tells kept ts → may_want (Some p) kept ≡ true → wants p ts ≡ true
  wants-by p Nothing ts t e = absurd (cc)
  wants-by p (Answer told queued) ts t e = rw t e
  wants-by p (Rebuild past) ts t e = rw (t.2) refl
  wants-by p Stop ts t e = absurd t

  settles-by : (p : Point) (kept : Kept) (ts : List Told) → Tells kept ts → HasPin kept → CanTell p ts → CanSettle (Some p) kept
  settles-by p Nothing ts t pin can = tt
  settles-by p (Answer told queued) ts t pin can = subst (λ z. CanTell p z) t can
  settles-by p (Rebuild past) ts t pin can =
      (pin, λ row rebuilt. subst (λ z. CanTell p (shows z)) (sym (t.1 row rebuilt)) (subst (λ z. CanTell p z) t.2 can))
  settles-by p Stop ts t pin can = absurd t

  pub goes-leaves : Conduct head lines es c → MayIn (phase (world head es) c) head lines (world head es) c (point head lines es c) a
      → (phase (world head es) c ≡ Closing → ⊥) → ends a ≡ false → (p : Point) → ready head lines (world head es) c (point head lines es c) ≡ Some p
      → (kept : Kept) → Tells kept (heard (world head es) (world head new) c a) → HasPin kept
      → (wants p (heard (world head es) (world head new) c a) ≡ true → phase (world head new) c ≡ Running)
      → CanTell p (heard (world head es) (world head new) c a) → Leaves head lines new c (Some p) kept
  goes-leaves k m unclosed e p r kept tells pin runs can = record {
    conduct = conduct-now k m;
    fits = record {
      reaches = subst (λ q. Reaches (Some p) kept q) (sym reached) (reaches-by p kept (heard (world head es) (world head new) c a) tells);
      runs = λ want. runs (wants-by p kept (heard (world head es) (world head new) c a) tells want);
    };
    settle = settles-by p kept (heard (world head es) (world head new) c a) tells pin can;
  }
    where
      reached : point head lines new c ≡ Some (told_all p (heard (world head es) (world head new) c a))
      reached =
          point-now ∙ goes-some head lines (world head es) _ c (point head lines es c) a (phase (world head es) c) unclosed e p r
          ∙ ap (λ v. Some (told_all p (heard (world head es) v c a))) (sym world-now)
