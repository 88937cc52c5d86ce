-- Where a Collapse is due, the table is held in its mode, and that is whole.
use Rattle.std.proofs.Common.{List, [], ◌∷◌, ◌≡◌, ℕ, Bool, true, false, not, ◌&&◌, refl, ap, sym, ◌∙◌, Some, None, Option, option_map, subst, if◌then◌else◌}
use Rattle.std.specs.Option.{option_map_or}
use Rattle.iso_history.proofs.pending.Conns.{and-first, and-rest, at_conn-cases, at_conn-other, at_conn-same, conn-is, conn-same, no-both, table_name-same, and-both}
use Rattle.iso_history.proofs.pending.Finds.{find-kept, find-mapped, find-none}
use Rattle.iso_history.proofs.pending.Kept.{kept-not_brief, raised-of, settled-kept, settled-of}
use Rattle.iso_history.proofs.pending.ModeTests.{escalated-joins, whole-escalated, whole-x}
use Rattle.iso_history.proofs.pending.Others.{others-agent}
use Rattle.iso_history.proofs.pending.Queueing.{WaitOf, joins, others, undoes, waits-agent, waits-dispatcher, request-queued, lock-request}
use Rattle.iso_history.proofs.pending.Waiting.{none-left}
use Rattle.iso_history.specs.After.{after}
use Rattle.iso_history.specs.Facts.{DuesAwaited, DuesHeld, TablesKept, is_whole}
use Rattle.iso_history.specs.Holds.{claimed, hand_of, holds_by, holds_by_agent, holds_by_hand, spared}
use Rattle.iso_history.specs.Holds.Hand.{Leaves, Places}
use Rattle.iso_history.specs.Lasts.{due_by, due_of, due_of_claim, due_of_lock, last_by, last_of, last_of_lock}
use Rattle.iso_history.specs.Legal.{Allowed, By, ByAgent, LockStands}
use Rattle.iso_history.specs.Phases.{is_phase, phase}
use Rattle.iso_history.specs.Requests.{escalation}
use Rattle.iso_history.specs.Waits.{joining_of, joining_of_agent, waits_by}
use Rattle.iso_history.specs.Waits.Joining.{Joins, Passes, Quits}
use Rattle.iso_history.specs.World.{Last, World}
use Rattle.iso_history.specs.World.Last.{Awaits, Claimed, Looked, Other}
use Rattle.iso_history.specs.declared.entry.Act.{Act}
use Rattle.iso_history.specs.declared.entry.Act.TheVariants.{Claim, Lock, Look, Undo}
use Rattle.iso_history.specs.declared.entry.Entry.{Entry}
use Rattle.iso_history.specs.declared.entry.Got.{Got}
use Rattle.iso_history.specs.declared.entry.Who.{Who}
use Rattle.iso_history.specs.declared.entry.Who.TheVariants.{Agent, Dispatcher}
use Rattle.iso_history.specs.declared.entry.Why.{Why}
use Rattle.iso_history.specs.declared.entry.Why.TheVariants.{Asked, Blocked, Escalation}
use Rattle.iso_modes.specs.Modes.{escalated, joined}
use Rattle.iso_modes.specs.Terms.{is_brief, is_kept}
use Rattle.iso_modes.specs.declared.Mode.{Mode}
use Rattle.iso_modes.specs.declared.Mode.TheVariants.{X}
use Rattle.iso_modes.specs.declared.Term.{Term}
use Rattle.iso_modes.specs.declared.Term.TheVariants.{Kept}
use Rattle.iso_queue.specs.Limits.{prey}
use Rattle.iso_queue.specs.Locks.{Hold, Request, added, held, hold_on, is_hold_of, raised, settled, settled_one, target, was_brief, without_briefs}
use Rattle.iso_queue.specs.Queues.{Wait, has_edge, wait_of}
use Rattle.iso_types.specs.Ids.{conn_eq, name_eq}
use Rattle.iso_types.specs.declared.desk.Phase.{Phase}
use Rattle.iso_types.specs.declared.head.Head.{Head}
use Rattle.iso_types.specs.declared.value.Conn.{Conn}
use Rattle.iso_types.specs.declared.value.Name.{Name}
use Rattle.iso_types.specs.declared.value.Name.TheVariants.{End, Key, Row, Table}
use Rattle.iso_types.specs.declared.value.TableId.{TableId}

is_own : (c : Conn) (r : Request) → name_eq r.name r.name ≡ true → is_hold_of c r.name (record { name = r.name; conn = c; mode = r.mode; term = r.term }) ≡ true
unfolding is_hold_of
is_own c r same = and-both _ _ (conn-same c) same

-- what a request raises, and what it makes
pub added-raised : (holds : List Hold) (c : Conn) (r : Request) (h : Hold) → hold_on holds c r.name ≡ Some h
    → hold_on (added holds c r) c r.name ≡ Some (raised r.mode r.term h)
added-raised [] c r h e = cc
added-raised (g ∷ gs) c r h e = go (added-raised gs c r h) (is_hold_of c r.name g) refl
  where
    go : (hold_on gs c r.name ≡ Some h → hold_on (added gs c r) c r.name ≡ Some (raised r.mode r.term h)) → (b : Bool) → is_hold_of c r.name g ≡ b
        → hold_on (added (g ∷ gs) c r) c r.name ≡ Some (raised r.mode r.term h)
    go ih true b = rw (b, raised-of c r.name r.mode r.term g, b) (ap (λ o. option_map (raised r.mode r.term) o) (rw b at e))
    go ih false b = rw (b, b) (ih (rw b at e))

pub added-new : (holds : List Hold) (c : Conn) (r : Request) → name_eq r.name r.name ≡ true → hold_on holds c r.name ≡ None
    → hold_on (added holds c r) c r.name ≡ Some (record { name = r.name; conn = c; mode = r.mode; term = r.term })
added-new [] c r same e = let p : is_hold_of c r.name (record { name = r.name; conn = c; mode = r.mode; term = r.term }) ≡ true = own in rw p refl
  where
    own : is_hold_of c r.name (record { name = r.name; conn = c; mode = r.mode; term = r.term }) ≡ true
    own = is_own c r same
added-new (g ∷ gs) c r same e = go (added-new gs c r same) (is_hold_of c r.name g) refl
  where
    go : (hold_on gs c r.name ≡ None → hold_on (added gs c r) c r.name ≡ Some (record { name = r.name; conn = c; mode = r.mode; term = r.term })) → (b : Bool)
        → is_hold_of c r.name g ≡ b
        → hold_on (added (g ∷ gs) c r) c r.name ≡ Some (record { name = r.name; conn = c; mode = r.mode; term = r.term })
    go ih true b = absurd (wrong (rw b at e))
      where
        wrong : Some g ≡ None → ⊥
        wrong q = cc
    go ih false b = rw (b, b) (ih (rw b at e))

module _ (head : Head) (w : World) (tables : TablesKept w.holds) where
  -- the connection's table lock where its entry places nothing
  pub table-leaves : (c : Conn) (a : Act) (t : TableId) → hand_of head w c a ≡ Leaves
      → held (holds_by_agent head w c a) c (Table t) ≡ held w.holds c (Table t)
  unfolding TablesKept
  table-leaves c a t l = ap (λ z. held (without_briefs w.holds c (holds_by_hand head c z mid)) c (Table t)) l ∙ go (hold_on w.holds c (Table t)) refl
    where
      mid : List Hold
      mid = settled c (spared a (w.last c)) w.holds

      found_mid : hold_on mid c (Table t) ≡ option_map (settled_one c (spared a (w.last c))) (hold_on w.holds c (Table t))
      found_mid = find-mapped (is_hold_of c (Table t)) (settled_one c (spared a (w.last c))) (settled-of c (spared a (w.last c)) c (Table t)) w.holds

      go : (o : Option Hold) → hold_on w.holds c (Table t) ≡ o → held (without_briefs w.holds c mid) c (Table t) ≡ option_map (λ (h : Hold). h.mode) o
      go None e = ap (option_map (λ (h : Hold). h.mode)) (none-left (is_hold_of c (Table t)) _ mid
          (found_mid ∙ ap (option_map (settled_one c (spared a (w.last c)))) e))
      go (Some h) e = ap (option_map (λ (h : Hold). h.mode)) (find-kept (is_hold_of c (Table t)) _ mid h
          (found_mid ∙ ap (option_map (settled_one c (spared a (w.last c)))) e ∙ ap Some (settled-kept c (spared a (w.last c)) h (tables c t h e)))
          (stays h (is_brief h.term) (kept-not_brief h.term (tables c t h e))))
        where
          stays : (h : Hold) (b : Bool) → b ≡ false → not (conn_eq h.conn c && (b && was_brief w.holds c h.name)) ≡ true
          stays h true e = cc
          stays h false e = both (conn_eq h.conn c)
            where
              both : (a : Bool) → not (a && false) ≡ true
              both true = refl
              both false = refl

  -- and where it places a table lock
  table-placed : (c : Conn) (a : Act) (t : TableId) (m : Mode) (k : Term)
      → hand_of head w c a ≡ Places (record { name = Table t; mode = m; term = k } ∷ [])
      → held (holds_by_agent head w c a) c (Table t) ≡ Some (target w.holds c (Table t) m)
  unfolding TablesKept
  table-placed c a t m k l = ap (λ z. held (without_briefs w.holds c (holds_by_hand head c z mid)) c (Table t)) l ∙ go (hold_on w.holds c (Table t)) refl
    where
      mid : List Hold
      mid = settled c (spared a (w.last c)) w.holds

      asked : Request
      asked = record { name = Table t; mode = m; term = k }

      found_mid : hold_on mid c (Table t) ≡ option_map (settled_one c (spared a (w.last c))) (hold_on w.holds c (Table t))
      found_mid = find-mapped (is_hold_of c (Table t)) (settled_one c (spared a (w.last c))) (settled-of c (spared a (w.last c)) c (Table t)) w.holds

      kept : (h : Hold) → (is_brief h.term && was_brief w.holds c h.name) ≡ false → not
          (conn_eq h.conn c && (is_brief h.term && was_brief w.holds c h.name)) ≡ true
      kept h e = rw e (both (conn_eq h.conn c))
        where
          both : (a : Bool) → not (a && false) ≡ true
          both true = refl
          both false = refl

      go : (o : Option Hold) → hold_on w.holds c (Table t) ≡ o
          → held (without_briefs w.holds c (added mid c asked)) c (Table t) ≡ Some (option_map_or (λ h. joined h m) (option_map (λ (h : Hold). h.mode) o) m)
      go None e = ap (option_map (λ (h : Hold). h.mode)) (find-kept (is_hold_of c (Table t)) _ (added mid c asked) _
          (added-new mid c asked (table_name-same t) (found_mid ∙ ap (option_map (settled_one c (spared a (w.last c)))) e))
          (kept (record { name = Table t; conn = c; mode = m; term = k }) (and-false (is_brief k)
          (find-none (is_hold_of c (Table t)) w.holds _ e (λ x p. and-first _ _ p)))))
        where
          and-false : (b : Bool) {d : Bool} → d ≡ false → (b && d) ≡ false
          and-false true e = e
          and-false false e = refl
      go (Some h) e = ap (option_map (λ (h : Hold). h.mode)) (find-kept (is_hold_of c (Table t)) _ (added mid c asked) (raised m k h)
          (added-raised mid c asked h (found_mid ∙ ap (option_map (settled_one c (spared a (w.last c)))) e ∙ ap Some
          (settled-kept c (spared a (w.last c)) h (tables c t h e))))
          (kept (raised m k h) (brief_no h.term (tables c t h e))))
        where
          brief_no : (x : Term) → is_kept x ≡ true → (is_brief (if is_kept x then Kept else k) && was_brief w.holds c h.name) ≡ false
          brief_no x q = rw q refl

  -- the lock that an escalation asks for
  escalation-is : (c : Conn) (t : TableId) (m : Mode) → escalation head w c ≡ Some (t, m) → m ≡ option_map_or escalated (held w.holds c (Table t)) X
  escalation-is c t m e = go (prey head w.holds c) e
    where
      pair-is : (u : TableId) (k : Mode) → ◌≡◌ {A = Option (TableId × Mode)} (Some (u, k)) (Some (t, m)) → (u ≡ t) × (k ≡ m)
      pair-is u k q = (ap (λ z. option_map_or (λ p. p.0) z t) q, ap (λ z. option_map_or (λ p. p.1) z m) q)

      go : (o : Option TableId) → ◌≡◌ {A = Option (TableId × Mode)} (option_map (λ u. (u, option_map_or escalated (held w.holds c (Table u)) X)) o)
          (Some (t, m))
          → m ≡ option_map_or escalated (held w.holds c (Table t)) X
      go None q = cc
      go (Some u) q = let p = pair-is u _ q in sym p.1 ∙ ap (λ z. option_map_or escalated (held w.holds c (Table z)) X) p.0

  -- the table will be held in it, and it is whole
  escalated-whole : (c : Conn) (t : TableId) (m : Mode) → escalation head w c ≡ Some (t, m) → (target w.holds c (Table t) m ≡ m) × (is_whole m ≡ true)
  escalated-whole c t m e = subst (λ (z : Mode). (target w.holds c (Table t) z ≡ z) × (is_whole z ≡ true))
      (sym (escalation-is c t m e)) (go (held w.holds c (Table t)))
    where
      go : (o : Option Mode) → (option_map_or (λ h. joined h (option_map_or escalated o X)) o (option_map_or escalated o X) ≡ option_map_or escalated o X)
          × (is_whole (option_map_or escalated o X) ≡ true)
      go None = (refl, whole-x)
      go (Some k) = (escalated-joins k, whole-escalated k)

  -- the table is held in this mode, which is whole
  abbrev InMode : List Hold → Conn → TableId → Mode → Type 0
  InMode holds c t m = (held holds c (Table t) ≡ Some m) × (is_whole m ≡ true)

  -- a due Collapse after an own entry
  due-own : (c : Conn) (a : Act) (t : TableId) (m : Mode) → ByAgent head w c a → DuesAwaited w → due_of a (w.last c) ≡ Some (t, m)
      → InMode (holds_by_agent head w c a) c t m
  unfolding DuesAwaited
  due-own c (Lock n m2 k why got) t m al aw e = at_lock n m2 k why got al.1 e
    where
      none-some : ◌≡◌ {A = Option (TableId × Mode)} None (Some (t, m)) → ⊥
      none-some q = cc

      pair-is : (u : TableId) (j : Mode) → ◌≡◌ {A = Option (TableId × Mode)} (Some (u, j)) (Some (t, m)) → (u ≡ t) × (j ≡ m)
      pair-is u j q = (ap (λ z. option_map_or (λ p. p.0) z t) q, ap (λ z. option_map_or (λ p. p.1) z m) q)

      at_table : (u : TableId) (j : Mode) (k : Term) → escalation head w c ≡ Some (u, j)
          → InMode (holds_by_agent head w c (Lock (Table u) j k Escalation Got.Granted)) c u j
      at_table u j k es =
          let f = escalated-whole c u j es in
          (table-placed c (Lock (Table u) j k Escalation Got.Granted) u j k refl ∙ ap Some f.0, f.1)

      at_lock : (n : Name) (j : Mode) (k : Term) (why : Why) (got : Got) → LockStands head w c n j k why got → due_of_lock why got n j ≡ Some (t, m)
          → InMode (holds_by_agent head w c (Lock n j k why got)) c t m
      at_lock (Table u) j k Escalation Got.Granted st q =
          let p = pair-is u j q in
          subst (λ (z : Mode). InMode (holds_by_agent head w c (Lock (Table u) j k Escalation Got.Granted)) c t z) p.1
          (subst (λ (z : TableId). InMode (holds_by_agent head w c (Lock (Table u) j k Escalation Got.Granted)) c z j) p.0 (at_table u j k st.1.1))
      at_lock (Row u r) j k Escalation Got.Granted st q = absurd (none-some q)
      at_lock (Key i v) j k Escalation Got.Granted st q = absurd (none-some q)
      at_lock (End i) j k Escalation Got.Granted st q = absurd (none-some q)
      at_lock n j k Escalation (Got.Queued x) st q = absurd (none-some q)
      at_lock n j k Escalation Got.TimedOut st q = absurd (none-some q)
      at_lock n j k Asked got st q = absurd (none-some q)
      at_lock n j k Blocked got st q = absurd (none-some q)
  due-own c Claim t m al aw e = at_last (w.last c) refl e
    where
      none-some : ◌≡◌ {A = Option (TableId × Mode)} None (Some (t, m)) → ⊥
      none-some q = cc

      pair-is : (u : TableId) (j : Mode) → ◌≡◌ {A = Option (TableId × Mode)} (Some (u, j)) (Some (t, m)) → (u ≡ t) × (j ≡ m)
      pair-is u j q = (ap (λ z. option_map_or (λ p. p.0) z t) q, ap (λ z. option_map_or (λ p. p.1) z m) q)

      at_wait : (u : TableId) (j : Mode) → w.last c ≡ Awaits u j → (o : Option Wait) → wait_of w.waits c ≡ o
          → option_map_or (λ x. not (has_edge w.holds w.waits x)) o false ≡ true → InMode (holds_by_agent head w c Claim) c u j
      at_wait u j l None q there = absurd (no-both refl (sym there))
      at_wait u j l (Some x) q there =
          let f = aw c u j x l q in
          (table-placed c Claim u x.target x.term (places x q f.0) ∙ ap Some (ap (target w.holds c (Table u)) f.1 ∙ f.2), f.3)
        where
          places : (x : Wait) → wait_of w.waits c ≡ Some x → x.name ≡ Table u
              → claimed w c ≡ Places (record { name = Table u; mode = x.target; term = x.term } ∷ [])
          places x q n = ap (λ o. option_map_or (λ (x : Wait). Places (record { name = x.name; mode = x.target; term = x.term } ∷ [])) o Leaves) q
              ∙ ap (λ (z : Name). Places (record { name = z; mode = x.target; term = x.term } ∷ [])) n

      at_last : (l : Last) → w.last c ≡ l → due_of_claim l ≡ Some (t, m) → InMode (holds_by_agent head w c Claim) c t m
      at_last (Awaits u j) l q =
          let p = pair-is u j q in
          subst (λ (z : Mode). InMode (holds_by_agent head w c Claim) c t z) p.1
          (subst (λ (z : TableId). InMode (holds_by_agent head w c Claim) c z j) p.0
          (at_wait u j l (wait_of w.waits c) refl (and-rest (is_phase (phase w c) Phase.Waiting) _ al)))
      at_last (Looked u r) l q = absurd (none-some q)
      at_last Claimed l q = absurd (none-some q)
      at_last Other l q = absurd (none-some q)
  due-own c _ t m al aw e = absurd (none-some e)
    where
      none-some : ◌≡◌ {A = Option (TableId × Mode)} None (Some (t, m)) → ⊥
      none-some q = cc

  pub dues-after : (e : Entry) → Allowed head w e → DuesHeld w → DuesAwaited w → DuesHeld (after head w e)
  unfolding DuesHeld
  dues-after e al s aw = go e.who al.2
    where
      go : (who : Who) → By head w who e.act → (d : Conn) (t : TableId) (m : Mode) → due_by w who e.act d ≡ Some (t, m)
          → InMode (holds_by head w who e.act) d t m
      go Dispatcher a = s
      go (Agent c) a = λ d t m. at_conn-cases w.due c (due_of e.act (w.last c)) d
          (λ o. o ≡ Some (t, m) → InMode (holds_by_agent head w c e.act) d t m)
          (λ is q. subst (λ (z : Conn). InMode (holds_by_agent head w c e.act) z t m) (sym (conn-is d c is)) (due-own c e.act t m a.1 aw q))
          (λ ne q. let old = s d t m q in
          (ap (option_map (λ (h : Hold). h.mode)) (others-agent head w c e.act d (Table t) ne) ∙ old.0, old.1))

  -- the entry after which an escalation is awaited
  awaits-act : (c : Conn) (a : Act) (t : TableId) (m : Mode) → last_of a ≡ Awaits t m
      → (k : Term) × (q : Mode) × (a ≡ Lock (Table t) m k Escalation (Got.Queued q))
  awaits-act c (Lock n j k why got) t m e = at_lock n j k why got e
    where
      table_is : (u : TableId) (j : Mode) → Awaits u j ≡ Awaits t m → (u ≡ t) × (j ≡ m)
      table_is u j q = (
        ap (λ z. elim z [ Looked u r ↦ u | Awaits u j ↦ u | Claimed ↦ t | Other ↦ t ]) q,
        ap
            (λ z. elim z [ Looked u r ↦ m | Awaits u j ↦ j | Claimed ↦ m | Other ↦ m ]) q,
      )

      at_lock : (n : Name) (j : Mode) (k : Term) (why : Why) (got : Got) → last_of_lock why got n j ≡ Awaits t m
          → (k2 : Term) × (q : Mode) × (Lock n j k why got ≡ Lock (Table t) m k2 Escalation (Got.Queued q))
      at_lock (Table u) j k Escalation (Got.Queued x) q =
          let p = table_is u j q in
          (k, x, ap (λ z. Lock (Table z) j k Escalation (Got.Queued x)) p.0 ∙ ap (λ z. Lock (Table t) z k Escalation (Got.Queued x)) p.1)
      at_lock (Row u r) j k Escalation (Got.Queued x) q = cc
      at_lock (Key i v) j k Escalation (Got.Queued x) q = cc
      at_lock (End i) j k Escalation (Got.Queued x) q = cc
      at_lock n j k Escalation Got.Granted q = cc
      at_lock n j k Escalation Got.TimedOut q = cc
      at_lock n j k Asked got q = cc
      at_lock n j k Blocked got q = cc
  awaits-act c (Look u r want Got.Granted) t m e = cc
  awaits-act c (Look u r want (Got.Queued q)) t m e = cc
  awaits-act c (Look u r want Got.TimedOut) t m e = cc
  awaits-act c Claim t m e = cc
  awaits-act c _ t m e = cc

  -- it is of the table, and will leave it in its mode
  abbrev Will : List Hold → Conn → TableId → Mode → Wait → Type 0
  Will holds c t m x = (x.name ≡ Table t) × (x.target ≡ m) × (target holds c (Table t) m ≡ m) × (is_whole m ≡ true)

  awaited-own : (c : Conn) (a : Act) (t : TableId) (m q : Mode) (k : Term) (x : Wait) → a ≡ Lock (Table t) m k Escalation (Got.Queued q)
      → ByAgent head w c a → joining_of_agent w c a ≡ Joins x → Will (holds_by_agent head w c a) c t m x
  awaited-own c a t m q k x is = subst (λ (z : Act). ByAgent head w c z → joining_of_agent w c z ≡ Joins x
      → Will (holds_by_agent head w c z) c t m x) (sym is) at_lock
    where
      made : Wait
      made = record { name = Table t; conn = c; target = q; term = k }

      at_lock : ByAgent head w c (Lock (Table t) m k Escalation (Got.Queued q)) → Joins made ≡ Joins x
          → Will (holds_by_agent head w c (Lock (Table t) m k Escalation (Got.Queued q))) c t m x
      at_lock al j =
          let same : made ≡ x = ap (λ z. elim z [ Passes ↦ made | Joins y ↦ y | Quits d ↦ made ]) j in
          let asked : q ≡ target w.holds c (Table t) m = request-queued head w c (Table t) m q
          (lock-request head w c (Table t) m k Escalation (Got.Queued q) al.1) in
          let f = escalated-whole c t m al.1.1.1 in (
            ap (λ z. z.name) (sym same),
            ap (λ z. z.target) (sym same) ∙ asked ∙ f.0,
            ap (λ o. option_map_or (λ h. joined h m) o m) (table-leaves c (Lock (Table t) m k Escalation (Got.Queued q)) t refl) ∙ f.0,
            f.1,
          )

  pub awaited_dues-after : (e : Entry) → Allowed head w e → DuesAwaited w → DuesAwaited (after head w e)
  unfolding DuesAwaited
  awaited_dues-after e al s = go e.who al.2
    where
      go : (who : Who) → By head w who e.act → (d : Conn) (t : TableId) (m : Mode) (x : Wait) → last_by w.last who e.act d ≡ Awaits t m
          → wait_of (waits_by w (joining_of w who e.act)) d ≡ Some x → Will (holds_by head w who e.act) d t m x
      go Dispatcher a = λ d t m x l q. s d t m x l (waits-dispatcher w e.act d x q)
      go (Agent c) a = λ d t m x l q. at_wait d t m x l (waits-agent head w c e.act d x a.1 q)
        where
          never : (n : ℕ) (t : TableId) (m : Mode) (k : Term) (q : Mode) → Undo n ≡ Lock (Table t) m k Escalation (Got.Queued q) → ⊥
          never n t m k q z = cc

          own : (d : Conn) (t : TableId) (m : Mode) → d ≡ c → last_by w.last (Agent c) e.act d ≡ Awaits t m → last_of e.act ≡ Awaits t m
          own d t m p l = sym (at_conn-same w.last c (last_of e.act)) ∙ subst (λ (z : Conn). last_by w.last (Agent c) e.act z ≡ Awaits t m) p l

          at_wait : (d : Conn) (t : TableId) (m : Mode) (x : Wait) → last_by w.last (Agent c) e.act d ≡ Awaits t m → WaitOf head w c e.act d x
              → Will (holds_by_agent head w c e.act) d t m x
          at_wait d t m x l (others ne old) =
              let r = s d t m x (sym (at_conn-other w.last c (last_of e.act) d ne) ∙ l) old in (
                r.0,
                r.1,
                ap (λ o. option_map_or (λ h. joined h m) (option_map (λ (h : Hold). h.mode) o) m) (others-agent head w c e.act d (Table t) ne) ∙ r.2,
                r.3,
              )
          at_wait d t m x l (undoes p n u old) = let f = awaits-act c e.act t m (own d t m p l) in absurd (never n t m f.0 f.1 (sym u ∙ f.2))
          at_wait d t m x l (joins p j q) =
              let f = awaits-act c e.act t m (own d t m p l) in
              subst (λ (z : Conn). Will (holds_by_agent head w c e.act) z t m x) (sym p) (awaited-own c e.act t m f.1 f.0 x f.2 a.1 j)
