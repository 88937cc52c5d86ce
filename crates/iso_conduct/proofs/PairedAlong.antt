-- A running or waiting connection waits exactly where a Claim comes next at its point.
use Rattle.std.proofs.Common.{◌≡◌, ◌⊎◌, inl, inr, ℕ, Bool, true, false, not, List, [], ◌∷◌, refl, sym, ◌∙◌, ap, subst, Option, Some, None, if◌then◌else◌}
use Rattle.std.specs.Option.{option_map, option_map_or}
use Rattle.std.specs.Prelude.{◌&&◌, find, is_none, is_some}
use Rattle.iso_conduct.proofs.Fronts.{IsFront}
use Rattle.iso_conduct.proofs.FrontsAlong.{IsFrontAt, after-front, may-made, opened-front, quiet-answers, quieted-front, ready-front}
use Rattle.iso_conduct.proofs.Open.{eq-is, eq-same, eq-turned}
use Rattle.iso_conduct.proofs.Paired.{IsPaired, is_claim_move, made-next, made-paired, quits, says_last}
use Rattle.iso_conduct.proofs.Queues.{is_claim_next, says_wait, told-next}
use Rattle.iso_conduct.specs.Conduct.{Conduct, ConductFrom, Does, IsNext, is_by, point, point_after, point_from, MayIn, ends, has_left, heard, made, moved_in, opened, quiet, quiet_back, quiet_claim, quieted, ready, statement_at, stops_for_memory}
use Rattle.iso_conduct.specs.Outcomes.{act_of}
use Rattle.iso_history.specs.Outcomes.{unless_full}
use Rattle.iso_conduct.specs.Parts.{Part, listed}
use Rattle.iso_conduct.specs.Parts.Part.{Claims}
use Rattle.iso_conduct.specs.Points.{Haul, Point, due, due_by, row_due, rows_due, start_point, told_all, told_point}
use Rattle.iso_conduct.specs.declared.moves.Move.{Move}
use Rattle.iso_conduct.specs.declared.moves.Told.{Told}
use Rattle.iso_history.specs.After.{after, start, world, world_from}
use Rattle.iso_history.specs.Makers.{by_agent}
use Rattle.iso_history.specs.Marks.{mark_of}
use Rattle.iso_history.specs.Phases.{Doom, closing_by, doom_by, doom_of, doom_of_agent, doom_of_dispatcher, phase, phase_of, victim}
use Rattle.iso_history.specs.Phases.Doom.{Dooms, Lifts, Spares}
use Rattle.iso_history.specs.Stops.{is_full}
use Rattle.iso_history.specs.Waits.{Joining, joining_of, joining_of_agent, joining_of_dispatcher, waits_by}
use Rattle.iso_history.specs.Waits.Joining.{Joins, Passes, Quits}
use Rattle.iso_history.specs.World.{Setting, World}
use Rattle.iso_history.specs.declared.entry.Act.{Act}
use Rattle.iso_history.specs.declared.entry.Cause.TheVariants.{History}
use Rattle.iso_history.specs.declared.entry.Entry.{Entry}
use Rattle.iso_history.specs.declared.entry.Got.{Got}
use Rattle.iso_history.specs.declared.entry.Who.{Who}
use Rattle.iso_history.specs.declared.entry.Who.TheVariants.{Agent, Dispatcher}
use Rattle.iso_history.specs.declared.entry.Stand.{Stand}
use Rattle.iso_history.specs.declared.entry.Stand.TheVariants.{At, Past}
use Rattle.iso_queue.specs.Locks.{Hold, is_held}
use Rattle.iso_queue.specs.Queues.{Wait, is_new_beside, is_waiting, queued, unqueued}
use Rattle.iso_script.specs.declared.script.Line.{Line}
use Rattle.iso_sql.specs.declared.statement.Statement.{Statement}
use Rattle.iso_sql.specs.declared.statement.Statement.TheVariants as st
use Rattle.iso_types.specs.Ids.{conn_eq}
use Rattle.iso_types.specs.declared.desk.Phase.{Phase}
use Rattle.iso_types.specs.declared.desk.Phase.TheVariants.{Closing, Idle, Rolling, Running}
use Rattle.iso_types.specs.declared.head.Head.{Head}
use Rattle.iso_types.specs.declared.value.Conn.{Conn}

-- a Claim comes next at a point that may not be there
abbrev pub next_at : Option Point → Bool
next_at None = false
next_at (Some p) = is_claim_next p.left

-- the step of a Claim is a Claim
move-next : (kept : Haul) (ps : List Part) → is_claim_move (due_by kept ps) ≡ is_claim_next ps
move-next kept [] = refl
move-next kept (Claims ∷ ps) = refl
move-next kept (x ∷ ps) = refl

-- no statement begins with one
starts : (head : Head) (c : Conn) (set : Setting) (s : Statement) → is_claim_next (listed head c set s) ≡ false
starts head c set st.Commit = refl
starts head c set _ = refl

-- phases of a connection that neither closes nor is doomed: it runs or waits, else it makes nothing
runs-or-waits : (e t s : Bool) → (phase_of e false false t s ≡ Rolling → ⊥) × (phase_of e false false t s ≡ Closing → ⊥)
runs-or-waits true t s = (λ h. cc, λ h. cc)
runs-or-waits false true s = (λ h. cc, λ h. cc)
runs-or-waits false false true = (λ h. cc, λ h. cc)
runs-or-waits false false false = (λ h. cc, λ h. cc)

-- an own entry that leaves the connection undoomed left it so, or is its Rollback
abbrev is_rollback : Act → Bool
is_rollback (Act.Rollback code reason) = true
is_rollback _ = false

undoomed : (f : Conn → Option ℕ) (c : Conn) (a : Act) → is_some (doom_by f (doom_of_agent c a) c) ≡ false
    → (is_some (f c) ≡ false) ⊎ (is_rollback a ≡ true)
undoomed f c (Act.Rollback code reason) h = inr refl
undoomed f c (Act.Lock n m t why Got.Granted) h = inl h
undoomed f c (Act.Lock n m t why (Got.Queued q)) h = inl h
undoomed f c (Act.Lock n m t why Got.TimedOut) h = let q : true ≡ false = rw (eq-same c) at h in absurd (cc)
undoomed f c (Act.Look t r want Got.Granted) h = inl h
undoomed f c (Act.Look t r want (Got.Queued q)) h = inl h
undoomed f c (Act.Look t r want Got.TimedOut) h = let q : true ≡ false = rw (eq-same c) at h in absurd (cc)
undoomed f c (Act.Next i range at b (At key r)) h = inl h
undoomed f c (Act.Next i range at b Past) h = inl h
undoomed f c (Act.Next i range at b (Stand.Queued n)) h = inl h
undoomed f c (Act.Next i range at b (Stand.TimedOut n)) h = let q : true ≡ false = rw (eq-same c) at h in absurd (cc)
undoomed f c _ h = inl h

-- an own entry that leaves it not closing is no Stopped
abbrev stops : Act → Bool
stops (Act.Stopped cause) = true
stops _ = false

unclosed : (f : Conn → Bool) (c : Conn) (a : Act) → closing_by f (Agent c) a c ≡ false → (f c ≡ false) × (stops a ≡ false)
unclosed f c (Act.Stopped cause) h = let q : true ≡ false = rw (eq-same c) at h in absurd (cc)
unclosed f c _ h = (h, refl)

-- the answers of an entry that ends its statement
ends-silent : (w v : World) (c : Conn) (a : Act) → ends a ≡ true → says_last (heard w v c a) ≡ false
ends-silent w v c (Act.Reply code changed rows) h = refl
ends-silent w v c Act.Commit h = refl
ends-silent w v c (Act.Rollback code reason) h = refl
ends-silent w v c Act.Ended h = refl
ends-silent w v c (Act.Stopped cause) h = refl
ends-silent w v c _ h = absurd (cc)

-- where a Claim comes next the entry is the Claim, or a stop in its place
claim-made : (head : Head) (w : World) (c : Conn) (p : Point) (ps : List Part) → p.left ≡ ps → is_claim_next ps ≡ true
    → (made head w c p ≡ Act.Claim) ⊎ (made head w c p ≡ Act.Stopped History)
claim-made head w c p [] e h = absurd (cc)
claim-made head w c p (Claims ∷ ps) e h = subst (λ x. (unless_full head w c (act_of head w c (row_due p) (rows_due p) (due_by p.kept x)) ≡ Act.Claim) ⊎ (unless_full head w c (act_of head w c (row_due p) (rows_due p) (due_by p.kept x)) ≡ Act.Stopped History)) (sym e) (go (is_full head w (by_agent c Act.Claim)))
  where
    go : (b : Bool) → ((if b then Act.Stopped History else Act.Claim) ≡ Act.Claim) ⊎ ((if b then Act.Stopped History else Act.Claim) ≡ Act.Stopped History)
    go true = inr refl
    go false = inl refl
claim-made head w c p (x ∷ ps) e h = absurd (cc)

claim-silent : (f : Phase) (o : Option ℕ) → (f ≡ Rolling → ⊥) → quiet_claim f o ≡ None
claim-silent Rolling o k = absurd (k refl)
claim-silent Idle o k = refl
claim-silent Running o k = refl
claim-silent Phase.Waiting o k = refl
claim-silent Closing o k = refl
claim-silent Phase.Ended o k = refl

rollback-ends : (a : Act) → is_rollback a ≡ true → ends a ≡ true
rollback-ends (Act.Rollback code reason) h = refl
rollback-ends _ h = absurd (cc)

no-memory-stop : (a : Act) → stops a ≡ false → stops_for_memory a ≡ false
no-memory-stop (Act.Stopped cause) h = absurd (cc)
no-memory-stop _ h = refl

module _ (w : World) (c : Conn) (still : phase w c ≡ Rolling → ⊥) where
  undo-says : (b : Bool) (t : Told) → (if b then None else Some (Told.Undone false)) ≡ Some t → says_wait t ≡ false
  undo-says true t h = absurd (cc)
  undo-says false t h = let q : Told.Undone false ≡ t = cc in subst (λ x. says_wait x ≡ false) q refl

  back-says : (o : Option ℕ) (t : Told) → quiet_back o ≡ Some t → says_wait t ≡ false
  back-says None t h = let q : Told.Floor None ≡ t = cc in subst (λ x. says_wait x ≡ false) q refl
  back-says (Some n) t h = absurd (cc)

  -- what is told before the entry is no wait, and no Claim is due there
  quiet-says : (m : Move) (t : Told) → quiet w c m ≡ Some t → (says_wait t ≡ false) × (is_claim_move m ≡ false)
  quiet-says Move.Claim t h = let q : quiet_claim (phase w c) (w.doom c) ≡ None = claim-silent (phase w c) (w.doom c) still in absurd (cc)
  quiet-says (Move.Undo floor) t h = (undo-says (has_left w c floor) t h, refl)
  quiet-says (Move.Back name) t h = (back-says (mark_of (w.marks c) name) t h, refl)
  quiet-says _ t h = absurd (cc)

  abbrev told_so : Point → Option Told → Point
  told_so p o = elim o [ None ↦ p | Some t ↦ told_point p t ]

  quieted-next : (p : Point) → IsFront p.left → is_claim_next (quieted w c p).left ≡ is_claim_next p.left
  quieted-next p h = go (quiet w c (due p)) refl
    where
      go : (o : Option Told) → quiet w c (due p) ≡ o → is_claim_next (quieted w c p).left ≡ is_claim_next p.left
      go None e = subst (λ x. is_claim_next (told_so p x).left ≡ is_claim_next p.left) (sym e) refl
      go (Some t) e =
          let says = quiet-says (due p) t e in
          subst (λ x. is_claim_next (told_so p x).left ≡ is_claim_next p.left) (sym e)
          (told-next p t (quiet-answers w c (due p) t e) h ∙ (says.0 ∙ (sym says.1 ∙ move-next p.kept p.left)))

  twice-next : (o : Option Point) → IsFrontAt o → next_at (option_map (λ p. quieted w c (quieted w c p)) o) ≡ next_at o
  twice-next None h = refl
  twice-next (Some p) h = quieted-next (quieted w c p) (quieted-front w c p h) ∙ quieted-next p h

module _ (head : Head) (lines : List Line) (w : World) (c : Conn) where
  started-next : (s : Option Statement) → next_at (option_map (start_point head c (w.setting c) (w.floor c)) s) ≡ false
  started-next None = refl
  started-next (Some s) = starts head c (w.setting c) s

  opened-next : (o : Option Point) → next_at (opened head lines w c o) ≡ next_at o
  opened-next (Some p) = refl
  opened-next None = started-next (statement_at lines c (w.line c))

  ready-next : (phase w c ≡ Rolling → ⊥) → (o : Option Point) → IsFrontAt o → next_at (ready head lines w c o) ≡ next_at o
  ready-next still o h = twice-next w c still (opened head lines w c o) (opened-front head lines w c o h) ∙ opened-next o

  -- an entry that ends the statement leaves no point
  moved-ends : (f : Phase) (v : World) (o : Option Point) (a : Act) → ends a ≡ true → next_at (moved_in f head lines w v c o a) ≡ false
  moved-ends Closing v o a e = refl
  moved-ends Running v o a e = rw e refl
  moved-ends Phase.Waiting v o a e = rw e refl
  moved-ends Rolling v o a e = rw e refl
  moved-ends Idle v o a e = rw e refl
  moved-ends Phase.Ended v o a e = rw e refl

  rollback-waits : (a : Act) → is_rollback a ≡ true → is_waiting (waits_by w (joining_of_agent w c a)) c ≡ false
  rollback-waits (Act.Rollback code reason) h = quits c w.waits
  rollback-waits _ h = absurd (cc)

  -- where the connection runs or waits, its own entry is the one made at the ready point, or a stop for memory
  some-point : (f : Phase) (o : Option Point) (a : Act) → stops_for_memory a ≡ false → (f ≡ Rolling → ⊥) → (f ≡ Closing → ⊥)
      → MayIn f head lines w c o a → ready head lines w c o ≡ None → ⊥
  some-point Running o a n r k m e = let q : IsNext head w c None a = subst (λ x. IsNext head w c x a) e m in cc
  some-point Phase.Waiting o a n r k m e = let q : IsNext head w c None a = subst (λ x. IsNext head w c x a) e m in cc
  some-point Rolling o a n r k m e = r refl
  some-point Closing o a n r k m e = k refl
  some-point Idle o a n r k m e = m
  some-point Phase.Ended o a n r k m e = m

  moved-goes : (f : Phase) (v : World) (o : Option Point) (a : Act) → (f ≡ Closing → ⊥) → ends a ≡ false
      → moved_in f head lines w v c o a ≡ option_map (λ p. told_all p (heard w v c a)) (ready head lines w c o)
  moved-goes Closing v o a k e = absurd (k refl)
  moved-goes Running v o a k e = rw e refl
  moved-goes Phase.Waiting v o a k e = rw e refl
  moved-goes Rolling v o a k e = rw e refl
  moved-goes Idle v o a k e = rw e refl
  moved-goes Phase.Ended v o a k e = rw e refl

  -- at the ready point
  module _ (v : World) (o : Option Point) (a : Act) (front : IsFrontAt o) (ties : is_waiting w.waits c ≡ next_at o) (goes : stops a ≡ false)
      (unrolled : phase w c ≡ Rolling → ⊥) (unclosing : phase w c ≡ Closing → ⊥) (may : MayIn (phase w c) head lines w c o a) where
    idle-at : (p : Point) → ready head lines w c o ≡ Some p → is_claim_move (due p) ≡ false → is_waiting w.waits c ≡ false
    idle-at p e m = ties ∙ (sym (ready-next unrolled o front) ∙ (ap next_at e ∙ (sym (move-next p.kept p.left) ∙ m)))

    made-at : (p : Point) → ready head lines w c o ≡ Some p → made head w c p ≡ a
    made-at p e = may-made head lines w c (phase w c) o a (no-memory-stop a goes) unclosing may p e

    waits-at : (p : Point) → ready head lines w c o ≡ Some p → is_waiting (waits_by w (joining_of_agent w c a)) c ≡ says_last (heard w v c a)
    waits-at p e = subst (λ x. IsPaired head w v c x) (made-at p e) (made-paired head w v c p (idle-at p e))

    heard-some : (p : Point) → ready head lines w c o ≡ Some p → heard w v c (made head w c p) ≡ [] → is_claim_next p.left ≡ false
    heard-some p e none = go (is_claim_next p.left) refl
      where
        no-claim-made : (made head w c p ≡ Act.Claim) ⊎ (made head w c p ≡ Act.Stopped History) → ⊥
        no-claim-made (inl k) = let q : heard w v c Act.Claim ≡ [] = subst (λ x. heard w v c x ≡ []) k none in cc
        no-claim-made (inr k) = let q : stops (Act.Stopped History) ≡ false = subst (λ x. stops x ≡ false) (sym (made-at p e) ∙ k) goes in cc

        go : (b : Bool) → is_claim_next p.left ≡ b → is_claim_next p.left ≡ false
        go true k = absurd (no-claim-made (claim-made head w c p p.left refl k))
        go false k = k

    front-at : (p : Point) → ready head lines w c o ≡ Some p → IsFront p.left
    front-at p e = subst IsFrontAt e (ready-front head lines w c o front)

    told-at : (p : Point) → ready head lines w c o ≡ Some p
        → is_claim_next (told_all p (heard w v c a)).left ≡ is_waiting (waits_by w (joining_of_agent w c a)) c
    told-at p e = subst (λ x. is_claim_next (told_all p (heard w v c x)).left ≡ is_waiting (waits_by w (joining_of_agent w c x)) c) (made-at p e)
        (made-next head w v c p (front-at p e) (idle-at p e) (heard-some p e))

    own-by : (b : Bool) → ends a ≡ b → (r : Option Point) → ready head lines w c o ≡ r
        → is_waiting (waits_by w (joining_of_agent w c a)) c ≡ next_at (moved_in (phase w c) head lines w v c o a)
    own-by b e None q = absurd (some-point (phase w c) o a (no-memory-stop a goes) unrolled unclosing may q)
    own-by true e (Some p) q = waits-at p q ∙ (ends-silent w v c a e ∙ sym (moved-ends (phase w c) v o a e))
    own-by false e (Some p) q =
        sym (told-at p q) ∙ sym (ap next_at (moved-goes (phase w c) v o a unclosing e) ∙ ap (λ x. next_at (option_map (λ y. told_all y (heard w v c a)) x)) q)

-- ---- along a history

-- while the connection neither closes nor has to roll back, it waits exactly where a Claim comes next at its point
pub record IsTied (w : World) (c : Conn) (o : Option Point) : Type 0 where
  pub front : IsFrontAt o
  pub waits : w.closing c ≡ false → is_some (w.doom c) ≡ false → is_waiting w.waits c ≡ next_at o

module _ (head : Head) (lines : List Line) (w : World) (c : Conn) where
  own-tied : (v : World) (o : Option Point) (a : Act) → IsTied w c o → MayIn (phase w c) head lines w c o a
      → closing_by w.closing (Agent c) a c ≡ false → is_some (doom_by w.doom (doom_of_agent c a) c) ≡ false
      → is_waiting (waits_by w (joining_of_agent w c a)) c ≡ next_at (moved_in (phase w c) head lines w v c o a)
  own-tied v o a t m hc hd = go (undoomed w.doom c a hd)
    where
      cl : (w.closing c ≡ false) × (stops a ≡ false)
      cl = unclosed w.closing c a hc

      go : (is_some (w.doom c) ≡ false) ⊎ (is_rollback a ≡ true)
          → is_waiting (waits_by w (joining_of_agent w c a)) c ≡ next_at (moved_in (phase w c) head lines w v c o a)
      go (inr r) = rollback-waits head lines w c a r ∙ sym (moved-ends head lines w c (phase w c) v o a (rollback-ends a r))
      go (inl nd) = own-by head lines w c v o a t.front (t.waits cl.0 nd) cl.1 (λ e. (runs-or-waits (w.ended c) (is_waiting w.waits c) (is_none (w.line c))).0 (sym plain ∙ e)) (λ e. (runs-or-waits (w.ended c) (is_waiting w.waits c) (is_none (w.line c))).1 (sym plain ∙ e)) m (ends a) refl (ready head lines w c o) refl
        where
          plain : phase w c ≡ phase_of (w.ended c) false false (is_waiting w.waits c) (is_none (w.line c))
          plain = rw (cl.0, nd) refl

-- ---- what others do

touches_doom : Conn → Doom → Bool
touches_doom c Spares = false
touches_doom c (Dooms d reason) = conn_eq c d
touches_doom c (Lifts d) = conn_eq c d

touches_wait : Conn → Joining → Bool
touches_wait c Passes = false
touches_wait c (Joins x) = conn_eq x.conn c
touches_wait c (Quits d) = conn_eq d c

doom-other : (f : Conn → Option ℕ) (c : Conn) (x : Doom) → touches_doom c x ≡ false → doom_by f x c ≡ f c
unfolding touches_doom
doom-other f c Spares h = refl
doom-other f c (Dooms d reason) h = rw h refl
doom-other f c (Lifts d) h = rw h refl

joins-other : (holds : List Hold) (c : Conn) (x : Wait) (ws : List Wait) → conn_eq x.conn c ≡ false → is_waiting (queued holds x ws) c ≡ is_waiting ws c
joins-other holds c x [] h = rw h refl
joins-other holds c x (y ∷ ys) h = go (is_held holds x.conn x.name && is_new_beside holds x y) (joins-other holds c x ys h)
  where
    later : (b : Bool) → is_some (find (λ z. conn_eq z.conn c) (queued holds x ys)) ≡ is_some (find (λ z. conn_eq z.conn c) ys)
        → is_some (if b then Some y else find (λ z. conn_eq z.conn c) (queued holds x ys)) ≡ is_some (if b then Some y else find (λ z. conn_eq z.conn c) ys)
    later true k = refl
    later false k = k

    go : (b : Bool) → is_waiting (queued holds x ys) c ≡ is_waiting ys c → is_waiting (if b then x ∷ y ∷ ys else y ∷ queued holds x ys) c ≡ is_waiting (y ∷ ys) c
    go true k = rw h refl
    go false k = later (conn_eq y.conn c) k

quits-other : (c d : Conn) (ws : List Wait) → conn_eq d c ≡ false → is_waiting (unqueued d ws) c ≡ is_waiting ws c
quits-other c d [] h = refl
quits-other c d (x ∷ xs) h = go (conn_eq x.conn d) refl (conn_eq x.conn c) refl (quits-other c d xs h)
  where
    go : (a : Bool) → conn_eq x.conn d ≡ a → (b : Bool) → conn_eq x.conn c ≡ b → is_waiting (unqueued d xs) c ≡ is_waiting xs c
        → is_waiting (if not a then x ∷ unqueued d xs else unqueued d xs) c ≡ is_waiting (x ∷ xs) c
    go true e true f k = let q : conn_eq d c ≡ true = subst (λ z. conn_eq z c ≡ true) (eq-is x.conn d e) f in absurd (cc)
    go true e false f k = rw f k
    go false e true f k = rw f refl
    go false e false f k = rw f k

waits-other : (w : World) (c : Conn) (j : Joining) → touches_wait c j ≡ false → is_waiting (waits_by w j) c ≡ is_waiting w.waits c
unfolding touches_wait
waits-other w c Passes h = refl
waits-other w c (Joins x) h = joins-other w.holds c x w.waits h
waits-other w c (Quits d) h = quits-other c d w.waits h

-- another agent's entry touches neither
agent-dooms : (c d : Conn) (a : Act) → conn_eq c d ≡ false → touches_doom c (doom_of_agent d a) ≡ false
unfolding touches_doom
agent-dooms c d (Act.Lock n m t why Got.Granted) h = refl
agent-dooms c d (Act.Lock n m t why (Got.Queued q)) h = refl
agent-dooms c d (Act.Lock n m t why Got.TimedOut) h = h
agent-dooms c d (Act.Look t r want Got.Granted) h = refl
agent-dooms c d (Act.Look t r want (Got.Queued q)) h = refl
agent-dooms c d (Act.Look t r want Got.TimedOut) h = h
agent-dooms c d (Act.Next i range at b (At key r)) h = refl
agent-dooms c d (Act.Next i range at b Past) h = refl
agent-dooms c d (Act.Next i range at b (Stand.Queued n)) h = refl
agent-dooms c d (Act.Next i range at b (Stand.TimedOut n)) h = h
agent-dooms c d (Act.Rollback code reason) h = h
agent-dooms c d _ h = refl

agent-joins : (w : World) (c d : Conn) (a : Act) → conn_eq d c ≡ false → touches_wait c (joining_of_agent w d a) ≡ false
unfolding touches_wait
agent-joins w c d (Act.Lock n m t why Got.Granted) h = refl
agent-joins w c d (Act.Lock n m t why (Got.Queued q)) h = h
agent-joins w c d (Act.Lock n m t why Got.TimedOut) h = refl
agent-joins w c d (Act.Look t r want Got.Granted) h = refl
agent-joins w c d (Act.Look t r want (Got.Queued q)) h = h
agent-joins w c d (Act.Look t r want Got.TimedOut) h = refl
agent-joins w c d (Act.Next i range at b (At key r)) h = refl
agent-joins w c d (Act.Next i range at b Past) h = refl
agent-joins w c d (Act.Next i range at b (Stand.Queued n)) h = h
agent-joins w c d (Act.Next i range at b (Stand.TimedOut n)) h = refl
agent-joins w c d Act.Claim h = h
agent-joins w c d Act.Commit h = h
agent-joins w c d (Act.Rollback code reason) h = h
agent-joins w c d Act.Ended h = h
agent-joins w c d (Act.Stopped cause) h = h
agent-joins w c d _ h = refl

-- the dispatcher ends a wait only where it dooms the connection
dooms-here : (f : Conn → Option ℕ) (c d : Conn) (r : ℕ) → is_some (doom_by f (Dooms d r) c) ≡ false → conn_eq c d ≡ false
dooms-here f c d r h = go (conn_eq c d) h
  where
    go : (b : Bool) → is_some (if b then Some r else f c) ≡ false → b ≡ false
    go true k = absurd (cc)
    go false k = refl

dispatcher-leaves : (w : World) (c : Conn) (a : Act) → is_some (doom_by w.doom (doom_of_dispatcher w a) c) ≡ false
    → (touches_doom c (doom_of_dispatcher w a) ≡ false) × (touches_wait c (joining_of_dispatcher w a) ≡ false)
unfolding touches_doom touches_wait
dispatcher-leaves w c (Act.Victim cycle) h = go (victim w cycle) h
  where
    go : (o : Option Conn) → is_some (doom_by w.doom (option_map_or (λ d. Dooms d 2) o Spares) c) ≡ false
        → (touches_doom c (option_map_or (λ d. Dooms d 2) o Spares) ≡ false) × (touches_wait c (option_map_or Quits o Passes) ≡ false)
    go None k = (refl, refl)
    go (Some d) k = let e = dooms-here w.doom c d 2 k in (e, eq-turned c d e)
dispatcher-leaves w c (Act.Expire line d true) h = let e = dooms-here w.doom c d 68 h in (e, eq-turned c d e)
dispatcher-leaves w c (Act.Expire line d false) h = (refl, refl)
dispatcher-leaves w c _ h = (refl, refl)

closing-was : (f : Conn → Bool) (c : Conn) (who : Who) (a : Act) → closing_by f who a c ≡ false → f c ≡ false
closing-was f c Dispatcher (Act.Close d) h = go (conn_eq c d) h
  where
    go : (b : Bool) → (if b then true else f c) ≡ false → f c ≡ false
    go true k = absurd (cc)
    go false k = k
closing-was f c Dispatcher _ h = h
closing-was f c (Agent d) (Act.Stopped cause) h = go (conn_eq c d) h
  where
    go : (b : Bool) → (if b then true else f c) ≡ false → f c ≡ false
    go true k = absurd (cc)
    go false k = k
closing-was f c (Agent d) _ h = h

other-leaves : (w : World) (c : Conn) (who : Who) (a : Act) → is_by c who ≡ false → is_some (doom_by w.doom (doom_of w who a) c) ≡ false
    → (touches_doom c (doom_of w who a) ≡ false) × (touches_wait c (joining_of w who a) ≡ false)
other-leaves w c Dispatcher a h d = dispatcher-leaves w c a d
other-leaves w c (Agent k) a h d = (agent-dooms c k a (eq-turned k c h), agent-joins w c k a h)

other-tied : (w : World) (c : Conn) (o : Option Point) (who : Who) (a : Act) → is_by c who ≡ false → IsTied w c o
    → closing_by w.closing who a c ≡ false → is_some (doom_by w.doom (doom_of w who a) c) ≡ false
    → is_waiting (waits_by w (joining_of w who a)) c ≡ next_at o
other-tied w c o who a n t hc hd =
    let leaves = other-leaves w c who a n hd in
    let doom : is_some (w.doom c) ≡ false = subst (λ x. is_some x ≡ false) (doom-other w.doom c (doom_of w who a) leaves.0) hd in
    waits-other w c (joining_of w who a) leaves.1 ∙ t.waits (closing-was w.closing c who a hc) doom

-- an entry keeps them together
after-tied : (head : Head) (lines : List Line) (w : World) (c : Conn) (o : Option Point) (e : Entry) → Does head lines w c o e → IsTied w c o
    → IsTied (after head w e) c (point_after head lines w c o e)
after-tied head lines w c o e d t = record {
  front = after-front head lines w c o e d t.front;
  waits = by-maker e.who e.act d;
}
  where
    by-maker : (who : Who) (a : Act) → Does head lines w c o (record { who = who; act = a })
        → closing_by w.closing who a c ≡ false → is_some (doom_by w.doom (doom_of w who a) c) ≡ false
        → is_waiting (waits_by w (joining_of w who a)) c ≡ next_at (point_after head lines w c o (record { who = who; act = a }))
    by-maker Dispatcher a does hc hd = other-tied w c o Dispatcher a refl t hc hd
    by-maker (Agent k) a does hc hd = go (conn_eq k c) refl
      where
        v : World
        v = after head w (record { who = Agent k; act = a })

        go : (b : Bool) → conn_eq k c ≡ b → is_waiting (waits_by w (joining_of_agent w k a)) c ≡ next_at (if b then moved_in (phase w c) head lines w v c o a else o)
        go false n = other-tied w c o (Agent k) a n t hc hd
        go true own = let same : k ≡ c = eq-is k c own in
            subst (λ x. is_waiting (waits_by w (joining_of_agent w x a)) c ≡ next_at (moved_in (phase w c) head lines w v c o a)) (sym same)
            (own-tied head lines w c v o a t (does own)
            (subst (λ x. closing_by w.closing (Agent x) a c ≡ false) same hc)
            (subst (λ x. is_some (doom_by w.doom (doom_of_agent x a) c) ≡ false) same hd))

-- along a history
pub tied-along : (head : Head) (lines : List Line) (w : World) (c : Conn) (o : Option Point) (es : List Entry) → ConductFrom head lines w c o es
    → IsTied w c o → IsTied (world_from head w es) c (point_from head lines w c o es)
unfolding ConductFrom point_from world_from
tied-along head lines w c o [] g t = t
tied-along head lines w c o (e ∷ es) g t =
    tied-along head lines (after head w e) c (point_after head lines w c o e) es g.1 (after-tied head lines w c o e g.0 t)

-- in each history that keeps to its statements
pub tied : (head : Head) (lines : List Line) (es : List Entry) (c : Conn) → Conduct head lines es c → IsTied (world head es) c (point head lines es c)
unfolding Conduct point world
tied head lines es c g = tied-along head lines (start head) c None es g (record { front = tt; waits = λ hc hd. refl })

waiting-by : (e k d t s : Bool) → phase_of e k d t s ≡ Phase.Waiting → (k ≡ false) × (d ≡ false) × (t ≡ true)
waiting-by true k d t s h = absurd (cc)
waiting-by false true d t s h = absurd (cc)
waiting-by false false true t s h = absurd (cc)
waiting-by false false false true s h = (refl, refl, refl)
waiting-by false false false false true h = absurd (cc)
waiting-by false false false false false h = absurd (cc)

running-by : (e k d t s : Bool) → phase_of e k d t s ≡ Running → (k ≡ false) × (d ≡ false) × (t ≡ false)
running-by true k d t s h = absurd (cc)
running-by false true d t s h = absurd (cc)
running-by false false true t s h = absurd (cc)
running-by false false false true s h = absurd (cc)
running-by false false false false true h = absurd (cc)
running-by false false false false false h = (refl, refl, refl)

-- a waiting connection has a Claim next, a running one has not
pub waiting-claims : (head : Head) (lines : List Line) (es : List Entry) (c : Conn) → Conduct head lines es c
    → phase (world head es) c ≡ Phase.Waiting → next_at (point head lines es c) ≡ true
waiting-claims head lines es c g h = go (world head es) (tied head lines es c g) h
  where
    go : (w : World) → IsTied w c (point head lines es c) → phase w c ≡ Phase.Waiting → next_at (point head lines es c) ≡ true
    go w t k = let f = waiting-by (w.ended c) (w.closing c) (is_some (w.doom c)) (is_waiting w.waits c) (is_none (w.line c)) k in
        sym (t.waits f.0 f.1) ∙ f.2

pub running-claims-not : (head : Head) (lines : List Line) (es : List Entry) (c : Conn) → Conduct head lines es c
    → phase (world head es) c ≡ Running → next_at (point head lines es c) ≡ false
running-claims-not head lines es c g h = go (world head es) (tied head lines es c g) h
  where
    go : (w : World) → IsTied w c (point head lines es c) → phase w c ≡ Running → next_at (point head lines es c) ≡ false
    go w t k = let f = running-by (w.ended c) (w.closing c) (is_some (w.doom c)) (is_waiting w.waits c) (is_none (w.line c)) k in
        sym (t.waits f.0 f.1) ∙ f.2
