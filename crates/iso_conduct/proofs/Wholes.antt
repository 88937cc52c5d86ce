-- A legal history that ends with Finish and has no Stopped is whole.
use Rattle.std.proofs.Common.{◌≡◌, ℕ, ◌<◌, Bool, true, false, ◌&&◌, ◌||◌, List, [], ◌∷◌, ◌++◌, refl, sym, ◌∙◌, subst, Option, Some, None, arith, length, get_or, if◌then◌else◌}
use Rattle.std.specs.List.{list_all}
use Rattle.std.specs.Prelude.{is_none, is_some}
use Rattle.std.proofs.lemmas.Bool.{eq-eqb, ltb-true}
use Rattle.std.proofs.lemmas.List.Folds.{list_all_at}
use Rattle.std.proofs.lemmas.List.FromFn.{get_or-map-range_with_len, length-map-range_with_len}
use Rattle.iso_conduct.proofs.Lasts.{none_left, paced_last}
use Rattle.iso_conduct.proofs.Open.{IsOpen, answered, eq-same, idle-by}
use Rattle.iso_conduct.proofs.Snoc.{lines_left-snoc}
use Rattle.iso_conduct.specs.Legal.{IsFinished, IsLegal}
use Rattle.iso_conduct.specs.Pacing.{MayPace, Paced, PacedFrom, Paces, line_step, lines_after, lines_after_act, lines_behind, lines_from, lines_left, purge_of, purge_or_line, step_of, taking}
use Rattle.iso_conduct.specs.Whole.{IsWhole, is_answered, is_done, is_line_done, is_met}
use Rattle.iso_history.proofs.Snoc.{world-snoc}
use Rattle.iso_history.specs.After.{after, start, world, world_from}
use Rattle.iso_history.specs.Entries.{least_purgeable}
use Rattle.iso_history.specs.Legal.{Allowed, By, Ground, GroundFrom}
use Rattle.iso_history.specs.Makers.{by_dispatcher}
use Rattle.iso_history.specs.Paces.{is_purge}
use Rattle.iso_history.specs.Phases.{is_phase, phase}
use Rattle.iso_history.specs.Quiet.{all_ended, is_busy, is_quiet}
use Rattle.iso_history.specs.World.{World}
use Rattle.iso_history.specs.declared.entry.Act.{Act}
use Rattle.iso_history.specs.declared.entry.Entry.{Entry}
use Rattle.iso_history.specs.declared.entry.Who.{Who}
use Rattle.iso_history.specs.declared.entry.Who.TheVariants.{Agent, Dispatcher}
use Rattle.iso_queue.specs.Snapshots.{snapshot}
use Rattle.iso_script.specs.declared.script.Line.{Line}
use Rattle.iso_script.specs.declared.script.Script.{Script}
use Rattle.iso_script.specs.declared.script.What.{What}
use Rattle.iso_types.specs.Head.{conns, is_conn}
use Rattle.iso_types.specs.declared.desk.Phase.{Phase}
use Rattle.iso_types.specs.declared.desk.Phase.TheVariants.{Idle}
use Rattle.iso_types.specs.declared.head.Head.{Head}
use Rattle.iso_types.specs.declared.value.Conn.{Conn}
use Rattle.iso_types.specs.declared.value.IndexId.{IndexId}
use Rattle.iso_types.specs.declared.value.Rid.{Rid}
use Rattle.iso_types.specs.declared.value.Value.{Value}

-- ---- connections

abbrev place : ℕ → Conn
place x = record { 0 = x }

-- what all connections of the head pass, each passes
each : (head : Head) (p : Conn → Bool) (c : Conn) → is_conn head c ≡ true → list_all p (conns head) ≡ true → p c ≡ true
each head p c known all = go (p c) refl
  where
    within : c.0 < length head.conns
    within = ltb-true c.0 (length head.conns) known

    long : c.0 < length (conns head)
    long = rw (length-map-range_with_len place 0 (length head.conns)) within

    at : get_or (conns head) c.0 c ≡ c
    at = get_or-map-range_with_len place 0 (length head.conns) c.0 c.0 c within (omega arith)

    go : (b : Bool) → p c ≡ b → p c ≡ true
    go true h = h
    go false h =
        let n : list_all p (conns head) ≡ false = list_all_at p (conns head) c.0 c long (subst (λ x. p x ≡ false) (sym at) h) in
        absurd (cc)

-- ---- lines that are done stay so

or-right : (a b : Bool) → b ≡ true → (a || b) ≡ true
or-right true b h = refl
or-right false b h = h

met-more : (e : Entry) (es : List Entry) (n : ℕ) (what : What) (o : Option Conn) → is_met n what o es ≡ true → is_met n what o (e ∷ es) ≡ true
met-more e es n (What.Statement s) (Some c) h = or-right _ (is_done n c es) h
met-more e es n (What.Statement s) None h = h
met-more e es n What.Expire (Some c) h = or-right _ _ h
met-more e es n What.Expire None h = h
met-more e es n What.Snapshot o h = or-right _ _ h

all-more : (e : Entry) (es : List Entry) (ls : List Line) → list_all (is_line_done es) ls ≡ true → list_all (is_line_done (e ∷ es)) ls ≡ true
all-more e es [] h = refl
all-more e es (l ∷ ls) h = go (is_line_done es l) refl h (λ k. all-more e es ls k)
  where
    go : (b : Bool) → is_line_done es l ≡ b → (b && list_all (is_line_done es) ls) ≡ true
        → (list_all (is_line_done es) ls ≡ true → list_all (is_line_done (e ∷ es)) ls ≡ true) → list_all (is_line_done (e ∷ es)) (l ∷ ls) ≡ true
    go true is k later = rw (met-more e es l.number l.what l.conn is) (later k)
    go false is k later = absurd (cc)

-- ---- the line that is taken

module _ (head : Head) (w : World) where
  -- an act that is taken, and is no purge, is the step of the first line
  line-of : (l : Line) (ls : List Line) (a : Act) → taking head w (l ∷ ls) ≡ Some a → is_purge a ≡ false
      → step_of head w l.number l.what l.conn ≡ Some a
  line-of l ls a h n = past (l.free || is_quiet head w) (go w.pace.stopped w.pace.purged (least_purgeable head w) h)
    where
      go : (s p : Bool) (o : Option (IndexId × (Value × Rid))) → (if s then None else purge_or_line head w l p o) ≡ Some a → line_step head w l ≡ Some a
      go true p o k = absurd (cc)
      go false true (Some pair) k = k
      go false true None k = k
      go false false None k = k
      go false false (Some pair) k =
          let q : purge_of pair ≡ a = cc in
          let r : is_purge (purge_of pair) ≡ false = subst (λ x. is_purge x ≡ false) (sym q) n in
          absurd (cc)

      past : (b : Bool) → (if b then step_of head w l.number l.what l.conn else None) ≡ Some a → step_of head w l.number l.what l.conn ≡ Some a
      past true k = k
      past false k = absurd (cc)

  -- and does what that line asks for, where a statement that it dispatches is answered
  met-by : (n : ℕ) (what : What) (o : Option Conn) (a : Act) (es : List Entry) → step_of head w n what o ≡ Some a
      → ((m : ℕ) (d : Conn) → a ≡ Act.Dispatch m d → is_answered d es ≡ true) → is_met n what o (by_dispatcher a ∷ es) ≡ true
  met-by n (What.Statement s) (Some c) a es h said = go (is_phase (phase w c) Idle) (is_busy head w c) h
    where
      go : (i b : Bool) → (if i then Some (Act.Dispatch n c) else if b then Some (Act.Busy n c) else None) ≡ Some a
          → is_met n (What.Statement s) (Some c) (by_dispatcher a ∷ es) ≡ true
      go true b k =
          let q : Act.Dispatch n c ≡ a = cc in
          subst (λ x. is_met n (What.Statement s) (Some c) (by_dispatcher x ∷ es) ≡ true) q (rw (eq-eqb n n refl, eq-same c, said n c (sym q)) refl)
      go false true k =
          let q : Act.Busy n c ≡ a = cc in
          subst (λ x. is_met n (What.Statement s) (Some c) (by_dispatcher x ∷ es) ≡ true) q (rw (eq-eqb n n refl, eq-same c) refl)
      go false false k = absurd (cc)
  met-by n (What.Statement s) None a es h said = absurd (cc)
  met-by n What.Expire (Some c) a es h said =
      let q : Act.Expire n c (is_phase (phase w c) Phase.Waiting) ≡ a = cc in
      subst (λ x. is_met n What.Expire (Some c) (by_dispatcher x ∷ es) ≡ true) q (rw (eq-eqb n n refl, eq-same c) refl)
  met-by n What.Expire None a es h said = absurd (cc)
  met-by n What.Snapshot o a es h said =
      let q : Act.Snapshot n (snapshot head w.holds w.waits) ≡ a = cc in
      subst (λ x. is_met n What.Snapshot o (by_dispatcher x ∷ es) ≡ true) q (rw (eq-eqb n n refl) refl)

  first-done : (ls : List Line) (a : Act) (es : List Entry) → taking head w ls ≡ Some a → is_purge a ≡ false
      → ((m : ℕ) (d : Conn) → a ≡ Act.Dispatch m d → is_answered d es ≡ true)
      → list_all (is_line_done es) (lines_behind ls) ≡ true → list_all (is_line_done (by_dispatcher a ∷ es)) ls ≡ true
  first-done [] a es h n said rest = absurd (cc)
  first-done (l ∷ ls) a es h n said rest =
      rw (met-by l.number l.what l.conn a es (line-of l ls a h n) said) (all-more (by_dispatcher a) es ls rest)

  -- a Dispatch opens its connection's statement
  opened : (n : ℕ) (d : Conn) → phase w d ≡ Idle → IsOpen (after head w (by_dispatcher (Act.Dispatch n d))) d
  opened n d h =
      let f = idle-by (w.ended d) (w.closing d) (is_some (w.doom d)) _ (is_none (w.line d)) h in
      record { line = rw (eq-same d) refl; closing = f.1; ended = f.0 }

-- ---- along a history

module _ (head : Head) (w : World) (ls : List Line) (es : List Entry) where
  act-done : (a : Act) → By head w Dispatcher a → MayPace head w ls a
      → ((n : ℕ) (d : Conn) → a ≡ Act.Dispatch n d → is_answered d es ≡ true)
      → list_all (is_line_done es) (lines_after_act ls a) ≡ true → list_all (is_line_done (by_dispatcher a ∷ es)) ls ≡ true
  act-done (Act.Dispatch n d) b p said rest = first-done head w ls (Act.Dispatch n d) es p refl said rest
  act-done (Act.Busy n d) b p said rest = first-done head w ls (Act.Busy n d) es p refl said rest
  act-done (Act.Expire n d ended) b p said rest = first-done head w ls (Act.Expire n d ended) es p refl said rest
  act-done (Act.Snapshot n locks) b p said rest = first-done head w ls (Act.Snapshot n locks) es p refl said rest
  act-done _ b p said rest = all-more _ es ls rest

  entry-done : (who : Who) (act : Act) → By head w who act → Paces head w ls who act
      → ((n : ℕ) (d : Conn) → who ≡ Dispatcher → act ≡ Act.Dispatch n d → is_answered d es ≡ true)
      → list_all (is_line_done es) (lines_after ls who act) ≡ true → list_all (is_line_done (record { who = who; act = act } ∷ es)) ls ≡ true
  entry-done Dispatcher act b p said rest = act-done act b p (λ n d q. said n d refl q) rest
  entry-done (Agent d) act b p said rest = all-more (record { who = Agent d; act = act }) es ls rest

-- a statement that is dispatched is answered once all have ended, where nobody stops
said-by : (head : Head) (w : World) (es : List Entry) (who : Who) (act : Act) → By head w who act
    → GroundFrom head (after head w (record { who = who; act = act })) es
    → all_ended head (world_from head (after head w (record { who = who; act = act })) es) ≡ true
    → (world_from head (after head w (record { who = who; act = act })) es).pace.stopped ≡ false
    → (n : ℕ) (d : Conn) → who ≡ Dispatcher → act ≡ Act.Dispatch n d → is_answered d es ≡ true
said-by head w es Dispatcher (Act.Dispatch n d) b g all still m k q r =
    let same : d ≡ k = cc in
    subst (λ x. is_answered x es ≡ true) same
    (answered head (after head w (by_dispatcher (Act.Dispatch n d))) d es (opened head w n d b.1) g (each head _ d b.0 all) still)
said-by head w es who act b g all still m k q r = absurd (cc)

-- each line that is left is done once all have ended
lines-done : (head : Head) (w : World) (ls : List Line) (es : List Entry) → GroundFrom head w es → PacedFrom head w ls es
    → all_ended head (world_from head w es) ≡ true → (world_from head w es).pace.stopped ≡ false → lines_from ls es ≡ []
    → list_all (is_line_done es) ls ≡ true
unfolding GroundFrom PacedFrom world_from lines_from
lines-done head w ls [] g p all still none = rw none refl
lines-done head w ls (e ∷ es) g p all still none =
    entry-done head w ls es e.who e.act g.0.2 p.0 (said-by head w es e.who e.act g.0.2 g.1 all still)
    (lines-done head (after head w e) (lines_after ls e.who e.act) es g.1 p.1 all still none)

-- ---- the last entry

ground_last_from : (head : Head) (w : World) (es : List Entry) (e : Entry) → GroundFrom head w (es ++ e ∷ []) → Allowed head (world_from head w es) e
unfolding GroundFrom world_from
ground_last_from head w [] e g = g.0
ground_last_from head w (x ∷ xs) e g = ground_last_from head (after head w x) xs e g.1

module _ (script : Script) (before : List Entry) (legal : IsLegal script (before ++ by_dispatcher Act.Finish ∷ []))
    (still : (world script.head (before ++ by_dispatcher Act.Finish ∷ [])).pace.stopped ≡ false) where
  all-over : all_ended script.head (world script.head (before ++ by_dispatcher Act.Finish ∷ [])) ≡ true
  unfolding Ground world
  all-over = rw world-snoc (ground_last_from script.head (start script.head) before (by_dispatcher Act.Finish) legal.ground).2

  still-before : (world script.head before).pace.stopped ≡ false
  still-before = subst (λ x. x.pace.stopped ≡ false) (world-snoc script.head before (by_dispatcher Act.Finish)) still

  none : lines_left script.lines (before ++ by_dispatcher Act.Finish ∷ []) ≡ []
  none = lines_left-snoc script.lines before (by_dispatcher Act.Finish)
      ∙ none_left (world script.head before) (lines_left script.lines before)
      (paced_last script.head script.lines before (by_dispatcher Act.Finish) legal.paced) still-before

  whole-at : IsWhole script (before ++ by_dispatcher Act.Finish ∷ [])
  unfolding Ground Paced world lines_left
  whole-at = record {
    finished = (before, refl);
    unstopped = still;
    lines = lines-done script.head (start script.head) script.lines (before ++ by_dispatcher Act.Finish ∷ []) legal.ground legal.paced all-over still none;
    ended = all-over;
  }

-- a legal history that ends with Finish and has no Stopped is whole
pub whole : (script : Script) (es : List Entry) → IsLegal script es → IsFinished es → (world script.head es).pace.stopped ≡ false → IsWhole script es
whole script es legal f still =
    subst (IsWhole script) (sym f.1)
    (whole-at script f.0 (subst (IsLegal script) f.1 legal) (subst (λ xs. (world script.head xs).pace.stopped ≡ false) f.1 still))
