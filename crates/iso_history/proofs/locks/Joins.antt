-- What an allowed entry awaits: its connection waits for nothing else, the name is there, its table is held, a table lock is to be kept.
use Rattle.std.proofs.Common.{◌≡◌, ◌<◌, ℕ, zero, suc, ◌+◌, Bool, true, false, ◌||◌, List, map, length, refl, ap, sym, ◌∙◌, subst, arith, Some, None, Option, option_map, find, is_some, if◌then◌else◌}
use Rattle.std.specs.List.{range_with_len}
use Rattle.std.specs.Option.{option_map_or}
use Rattle.std.proofs.lemmas.Bool.{and_parts, lt-ltb}
use Rattle.iso_history.proofs.locks.Fits.{held-from, queued_by}
use Rattle.iso_history.proofs.locks.Finds.{find-here, find-past}
use Rattle.iso_history.proofs.locks.Modes.{covers-bare, enough-joined, row-suits, suits-target}
use Rattle.iso_history.proofs.locks.Stands.{asked-back, asked-suits, escalation-suits, is_stand}
use Rattle.iso_history.proofs.locks.Tests.{or-first_false, or-other, or-second}
use Rattle.iso_history.specs.Entries.{found, stand_of, is_in_range}
use Rattle.iso_history.specs.Facts.{suits_held, HoldsBacked, LocksSound, ModesSuit}
use Rattle.iso_history.specs.Holds.{next_name}
use Rattle.iso_history.specs.Legal.{By, ByAgent, LockStands, Runs}
use Rattle.iso_history.specs.Looks.{look, look_asks, may_look}
use Rattle.iso_history.specs.Nexts.{may_next, next, stand_after}
use Rattle.iso_history.specs.Phases.{phase, phase_of, victim}
use Rattle.iso_history.specs.Requests.{Outcome, asking, escalation, is_backed, is_had, is_limited, is_row_mode, is_there, may_ask, need_of, request, table_mode}
use Rattle.iso_history.specs.Requests.Outcome.{Gives, Limit}
use Rattle.iso_history.specs.Waits.{Joining, joining_of, joining_of_agent, joining_of_dispatcher, wait_term}
use Rattle.iso_history.specs.Waits.Joining.{Joins, Passes, Quits}
use Rattle.iso_history.specs.World.{World}
use Rattle.iso_history.specs.declared.entry.Act.{Act}
use Rattle.iso_history.specs.declared.entry.Act.TheVariants.{Expire, Lock, Look, Next, Victim}
use Rattle.iso_history.specs.declared.entry.Got.{Got}
use Rattle.iso_history.specs.declared.entry.Stand.{Stand}
use Rattle.iso_history.specs.declared.entry.Stand.TheVariants.{At, Past}
use Rattle.iso_history.specs.declared.entry.Want.{Want}
use Rattle.iso_history.specs.declared.entry.Who.{Who}
use Rattle.iso_history.specs.declared.entry.Who.TheVariants.{Agent, Dispatcher}
use Rattle.iso_history.specs.declared.entry.Why.{Why}
use Rattle.iso_history.specs.declared.entry.Why.TheVariants.{Asked, Blocked, Escalation}
use Rattle.iso_modes.specs.Modes.{covers, escalated, joined}
use Rattle.iso_modes.specs.Terms.{is_kept}
use Rattle.iso_modes.specs.declared.Mode.{Mode}
use Rattle.iso_modes.specs.declared.Mode.TheVariants.{S, X}
use Rattle.iso_modes.specs.declared.Term.{Term}
use Rattle.iso_modes.specs.declared.Term.TheVariants.{Kept}
use Rattle.iso_queue.specs.Limits.{prey}
use Rattle.iso_queue.specs.Locks.{held, hold_on, holds_at_least, is_covered, is_covered_on, target}
use Rattle.iso_queue.specs.Queues.{Wait, wait_of, would_wait}
use Rattle.iso_types.specs.Head.{is_index, is_table, table_of, tables}
use Rattle.iso_types.specs.declared.desk.Phase.TheVariants.{Running}
use Rattle.iso_types.specs.declared.head.Head.{Head}
use Rattle.iso_types.specs.declared.head.Range.{Range}
use Rattle.iso_types.specs.declared.value.Conn.{Conn}
use Rattle.iso_types.specs.declared.value.IndexId.{IndexId}
use Rattle.iso_types.specs.declared.value.Name.{Name}
use Rattle.iso_types.specs.declared.value.Name.TheVariants.{Row, Table}
use Rattle.iso_types.specs.declared.value.Rid.{Rid}
use Rattle.iso_types.specs.declared.value.TableId.{TableId}
use Rattle.iso_types.specs.declared.value.Value.{Value}

-- what a new wait meets
pub record WaitFits (head : Head) (w : World) (x : Wait) : Type 0 where
  pub alone : wait_of w.waits x.conn ≡ None
  pub there : is_there head w x.name ≡ true
  pub backed : (t : TableId) → table_of head x.name ≡ Some t → holds_at_least w.holds x.conn (Table t) (table_mode x.target) ≡ true
  pub kept : (t : TableId) → x.name ≡ Table t → is_kept x.term ≡ true
  pub suits : suits_held x.name x.target ≡ true
  pub bare : is_covered head w.holds x.conn x.name x.target ≡ false

-- a wait that joins fits
abbrev pub JoinStands : Head → World → Joining → Type 0
JoinStands head w (Joins x) = WaitFits head w x
JoinStands head w _ = Unit {0}

none-some : {A : Type 0} (x : Option A) → is_some x ≡ false → x ≡ None
none-some None e = refl
none-some (Some y) e = cc

running-waits : (ended closing doomed waiting shut : Bool) → phase_of ended closing doomed waiting shut ≡ Running → waiting ≡ false
running-waits true closing doomed waiting shut e = cc
running-waits false true doomed waiting shut e = cc
running-waits false false true waiting shut e = cc
running-waits false false false true shut e = cc
running-waits false false false false shut e = refl

-- who runs does not wait
pub runs-alone : (w : World) (c : Conn) → phase w c ≡ Running → wait_of w.waits c ≡ None
runs-alone w c e = none-some (wait_of w.waits c) (running-waits _ _ _ _ _ e)

abbrev the_id : ℕ → TableId
the_id k = record { 0 = k }

stands-found : (range : Range) (p : Option (Value × Rid)) → is_stand (stand_of range p) ≡ true
stands-found range None = refl
stands-found range (Some p) = go (is_in_range range p.0)
  where
    go : (b : Bool) → is_stand (if b then At p.0 p.1 else Past) ≡ true
    go true = refl
    go false = refl

-- a Next that queues awaits what its request awaits
next-queued : (o : Outcome) (n k : Name) (stand : Stand) → is_stand stand ≡ true → stand_after o n stand ≡ Some (Stand.Queued k)
    → (q : Mode) × (o ≡ Gives (Got.Queued q)) × (n ≡ k)
next-queued (Gives Got.Granted) n k stand i e = let h : stand ≡ Stand.Queued k = cc in cc (sym (ap is_stand h) ∙ i)
next-queued (Gives (Got.Queued m)) n k stand i e = (m, refl, cc)
next-queued (Gives Got.TimedOut) n k stand i e = cc
next-queued Limit n k stand i e = cc

-- what an element of a list of tables has that is found
in-range : (n a : ℕ) (q : TableId → Bool) (t : TableId) → find q (map (λ k. record { 0 = k }) (range_with_len a n)) ≡ Some t → t.0 < a + n
in-range zero a q t e = cc
in-range (suc n) a q t e = go (q (record { 0 = a })) refl (in-range n (a + 1) q t)
  where
    rest : List TableId
    rest = map (λ k. record { 0 = k }) (range_with_len (a + 1) n)

    go : (b : Bool) → q (record { 0 = a }) ≡ b → (find q rest ≡ Some t → t.0 < a + 1 + n) → t.0 < a + suc n
    go true k ih =
        let is : Some (the_id a) ≡ Some t = sym (find-here q (the_id a) rest k) ∙ e in
        let same : the_id a ≡ t = cc in
        let at : a ≡ t.0 = ap (λ (u : TableId). u.0) same in
        omega arith
    go false k ih = let lt = ih (sym (find-past q (the_id a) rest k) ∙ e) in omega arith

-- a table that is found is the head's
found-table : (head : Head) (q : TableId → Bool) (t : TableId) → find q (tables head) ≡ Some t → is_table head t ≡ true
found-table head q t e = lt-ltb t.0 (length head.tables) (let lt = in-range (length head.tables) 0 q t e in omega arith)

module _ (head : Head) (w : World) (c : Conn) (s : LocksSound head w) where
  -- what backs the held mode and the asked one backs their join
  target-backed : (n : Name) (m : Mode) (t : TableId) → table_of head n ≡ Some t → holds_at_least w.holds c (Table t) (table_mode m) ≡ true
      → holds_at_least w.holds c (Table t) (table_mode (target w.holds c n m)) ≡ true
  unfolding HoldsBacked
  target-backed n m t k e = go (held w.holds c n) refl
    where
      go : (x : Option Mode) → held w.holds c n ≡ x → holds_at_least w.holds c (Table t) (table_mode (option_map_or (λ h. joined h m) x m)) ≡ true
      go None h = e
      go (Some a) h =
          let g = held-from (hold_on w.holds c n) a h in
          let old : holds_at_least w.holds c (Table t) (table_mode a) ≡ true = rw g.2 at (s.backed c n t g.0 k g.1) in
          enough-joined (held w.holds c (Table t)) a m old e

  held-suits : (n : Name) (a : Mode) → held w.holds c n ≡ Some a → suits_held n a ≡ true
  unfolding ModesSuit
  held-suits n a h = let g = held-from (hold_on w.holds c n) a h in rw g.2 at (s.suits c n g.0 g.1)

  -- what the table's lock does not cover, it does not cover joined with what is held
  target-bare : (n : Name) (m : Mode) → suits_held n m ≡ true → is_covered head w.holds c n m ≡ false → is_covered head w.holds c n (target w.holds c n m) ≡ false
  target-bare n m suits none = go (table_of head n) refl none
    where
      join : (t a : Option Mode) → is_row_mode m ≡ true → option_map_or (λ h. covers h m) t false ≡ false
          → option_map_or (λ h. covers h (option_map_or (λ z. joined z m) a m)) t false ≡ false
      join None a r e = refl
      join (Some t) None r e = e
      join (Some t) (Some a) r e = covers-bare t a m r e

      go : (o : Option TableId) → table_of head n ≡ o → option_map_or (is_covered_on w.holds c m) o false ≡ false
          → option_map_or (is_covered_on w.holds c (target w.holds c n m)) o false ≡ false
      go None k e = refl
      go (Some t) k e = join (held w.holds c (Table t)) (held w.holds c n) (row-suits head n t m k suits) e

  -- a request that is queued
  queued-fits : (n : Name) (m q : Mode) (t : Term) → wait_of w.waits c ≡ None → is_there head w n ≡ true
      → (is_covered head w.holds c n m || is_backed head w c n m) ≡ true → ((u : TableId) → n ≡ Table u → is_kept t ≡ true)
      → suits_held n m ≡ true → request head w c n m ≡ Gives (Got.Queued q)
      → WaitFits head w (record { name = n; conn = c; target = q; term = t })
  queued-fits n m q t alone there back kept suits e = record {
    alone = alone;
    there = there;
    backed = λ u k. ap (λ (z : Mode). holds_at_least w.holds c (Table u) (table_mode z)) (sym had.1) ∙ target-backed n m u k (backed-at u k);
    kept = kept;
    suits = ap (suits_held n) (sym had.1) ∙ suits-target n (held w.holds c n) m (held-suits n) suits;
    bare = ap (is_covered head w.holds c n) (sym had.1) ∙ target-bare n m suits (or-first_false _ _ had.0);
  }
    where
      had : (is_had head w c n m ≡ false) × (target w.holds c n m ≡ q)
      had =
          queued_by (is_had head w c n m) (is_limited head w c (need_of w c n)) (would_wait w.holds w.waits (asking w c n m))
          (w.setting c).may_wait (target w.holds c n m) q e

      backed-at : (u : TableId) → table_of head n ≡ Some u → holds_at_least w.holds c (Table u) (table_mode m) ≡ true
      backed-at u k = rw k at (or-other (is_covered head w.holds c n m) (is_backed head w c n m) (or-first_false _ _ had.0) back)

  -- one that may be asked
  asked-fits : (n : Name) (m q : Mode) (t : Term) → Runs w c → may_ask head w c n m ≡ true → ((u : TableId) → n ≡ Table u → is_kept t ≡ true)
      → request head w c n m ≡ Gives (Got.Queued q) → WaitFits head w (record { name = n; conn = c; target = q; term = t })
  asked-fits n m q t runs may kept e = queued-fits n m q t (runs-alone w c runs.0) ((and_parts _ _ may).0) (asked-back head w c n m may) kept
      (asked-suits head w c n m may) e

  -- the prey is there
  pub escalated-there : (t : TableId) (m : Mode) → escalation head w c ≡ Some (t, m) → is_there head w (Table t) ≡ true
  escalated-there t m e = go (prey head w.holds c) refl e
    where
      prey_mode : TableId → TableId × Mode
      prey_mode u = (u, option_map_or escalated (held w.holds c (Table u)) X)

      go : (x : Option TableId) → prey head w.holds c ≡ x → option_map prey_mode x ≡ Some (t, m)
          → is_there head w (Table t) ≡ true
      go None k f = cc
      go (Some u) k f =
          let same : u ≡ t = ap (λ (p : Option (TableId × Mode)). option_map_or (λ y. y.0) p u) f in
          ap (is_table head) (sym same) ∙ found-table head _ u k

  -- a Lock that queues
  lock-fits : (n : Name) (m q : Mode) (t : Term) (why : Why) → Runs w c → LockStands head w c n m t why (Got.Queued q)
      → WaitFits head w (record { name = n; conn = c; target = q; term = t })
  lock-fits n m q t Asked runs al = asked-fits n m q t runs al.1 (λ u k. ap is_kept al.0) al.2
  lock-fits (Table u) m q t Escalation runs al =
      queued-fits (Table u) m q t (runs-alone w c runs.0) (escalated-there u m al.1.1) (or-second (is_covered head w.holds c (Table u) m) true refl)
      (λ v k. ap is_kept al.0) (escalation-suits head w c u m al.1.1) al.1.2
  lock-fits n m q t Escalation runs al = absurd al.1
  lock-fits n m q t Blocked runs al = asked-fits n m q t runs al.1 (λ u k. cc (rw k at al.2)) al.3

  -- a Look that queues
  look-fits : (t : TableId) (r : Rid) (want : Want) (q : Mode) → Runs w c → may_look head w c t r want ≡ true
      → look head w c t r want ≡ Gives (Got.Queued q) → WaitFits head w (record { name = Row t r; conn = c; target = q; term = wait_term want })
  look-fits t r want q runs may e = go (look_asks head w c t r want) ((and_parts _ _ may).1) e
    where
      other : (u : TableId) → Row t r ≡ Table u → is_kept (wait_term want) ≡ true
      other u k = cc

      go : (x : Option Mode) → option_map_or (may_ask head w c (Row t r)) x true ≡ true
          → option_map_or (request head w c (Row t r)) x (Gives Got.Granted) ≡ Gives (Got.Queued q)
          → WaitFits head w (record { name = Row t r; conn = c; target = q; term = wait_term want })
      go None k f = cc
      go (Some m) k f = asked-fits (Row t r) m q (wait_term want) runs k other f

  -- a Next that queues
  next-fits : (i : IndexId) (range : Range) (at : Option (Value × Rid)) (guarded : Bool) (n : Name) → Runs w c
      → may_next head w c i range at guarded ≡ true → next head w c i range at guarded ≡ Some (Stand.Queued n)
      → WaitFits head w (record { name = n; conn = c; target = target w.holds c n S; term = Kept })
  next-fits i range at false n runs may e =
      let h : stand_of range (found w i range at) ≡ Stand.Queued n = cc in
      cc (sym (ap is_stand h) ∙ stands-found range (found w i range at))
  next-fits i range at true n runs may e =
      let k = next-queued (request head w c (next_name w i range at) S) (next_name w i range at) n (stand_of range (found w i range at))
      (stands-found range (found w i range at)) e in
      subst (λ (z : Name). WaitFits head w (record { name = z; conn = c; target = target w.holds c z S; term = Kept })) k.2 (fits k.0 k.1)
    where
      fits : (q : Mode) → request head w c (next_name w i range at) S ≡ Gives (Got.Queued q)
          → WaitFits head w (record { name = next_name w i range at; conn = c; target = target w.holds c (next_name w i range at) S; term = Kept })
      fits q f =
          let had = queued_by (is_had head w c (next_name w i range at) S) (is_limited head w c (need_of w c (next_name w i range at)))
          (would_wait w.holds w.waits (asking w c (next_name w i range at) S)) (w.setting c).may_wait (target w.holds c (next_name w i range at) S) q f in
          subst (λ (z : Mode). WaitFits head w (record { name = next_name w i range at; conn = c; target = z; term = Kept })) (sym had.1)
          (asked-fits (next_name w i range at) S q Kept runs (and_parts (is_index head i) (may_ask head w c (next_name w i range at) S) may).1
          (λ u l. refl) f)

  -- each kind of entry
  agent-joins : (a : Act) → ByAgent head w c a → JoinStands head w (joining_of_agent w c a)
  agent-joins (Lock n m t why (Got.Queued q)) al = lock-fits n m q t why al.0 al.1
  agent-joins (Lock n m t why Got.Granted) al = tt
  agent-joins (Lock n m t why Got.TimedOut) al = tt
  agent-joins (Look t r want (Got.Queued q)) al = look-fits t r want q al.0 al.1 al.2
  agent-joins (Look t r want Got.Granted) al = tt
  agent-joins (Look t r want Got.TimedOut) al = tt
  agent-joins (Next i range at guarded (Stand.Queued n)) al = next-fits i range at guarded n al.0 al.1 al.2
  agent-joins (Next i range at guarded (At v r)) al = tt
  agent-joins (Next i range at guarded Past) al = tt
  agent-joins (Next i range at guarded (Stand.TimedOut n)) al = tt
  agent-joins _ al = tt

dispatcher-joins : (head : Head) (w : World) (a : Act) → JoinStands head w (joining_of_dispatcher w a)
dispatcher-joins head w (Victim cycle) = go (victim w cycle)
  where
    go : (x : Option Conn) → JoinStands head w (option_map_or Quits x Passes)
    go None = tt
    go (Some d) = tt
dispatcher-joins head w (Expire line d true) = tt
dispatcher-joins head w (Expire line d false) = tt
dispatcher-joins head w _ = tt

-- what an allowed entry awaits
pub joins-stand : (head : Head) (w : World) (who : Who) (a : Act) → By head w who a → LocksSound head w → JoinStands head w (joining_of w who a)
joins-stand head w Dispatcher a al s = dispatcher-joins head w a
joins-stand head w (Agent c) a al s = agent-joins head w c s a al.1
