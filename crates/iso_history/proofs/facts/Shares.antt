-- No connection takes more than its share, nor all together more than the slots.
use Rattle.std.proofs.Common.{◌≡◌, ◌≤◌, ◌+◌, ◌*◌, length, ◌⊎◌, inl, inr, ℕ, Bool, true, false, ◌||◌, if◌then◌else◌, List, [], refl, ap, sym, subst, arith, is_some, Some, None, Option}
use Rattle.std.specs.Option.{option_map_or}
use Rattle.iso_history.proofs.facts.Taken.{lack, taken-filter, taken_with}
use Rattle.iso_history.proofs.locks.Same.{conn_same}
use Rattle.iso_history.specs.Holds.{hand_of, holds_by_hand}
use Rattle.iso_history.specs.Legal.{ByAgent}
use Rattle.iso_history.specs.Requests.{is_limited}
use Rattle.iso_history.specs.Waits.{joining_of_agent, waits_by}
use Rattle.iso_history.specs.World.{World}
use Rattle.iso_history.specs.declared.entry.Act.{Act}
use Rattle.iso_history.specs.declared.entry.Act.TheVariants.{Claim, Collapse, Commit, Free, Insert, Lock, Look, Next, Rollback, Stopped, Update}
use Rattle.iso_history.specs.declared.entry.Got.{Got}
use Rattle.iso_history.specs.declared.entry.Stand.{Stand}
use Rattle.iso_history.specs.declared.entry.Stand.TheVariants.{At, Past}
use Rattle.iso_queue.specs.Limits.{taken}
use Rattle.iso_queue.specs.Locks.{Hold, is_held, settled}
use Rattle.iso_queue.specs.Queues.{Wait, wait_of}
use Rattle.iso_types.specs.Ids.{conn_eq}
use Rattle.iso_types.specs.declared.head.Head.{Head}
use Rattle.iso_types.specs.declared.value.Conn.{Conn}
use Rattle.iso_types.specs.declared.value.Name.{Name}
use Rattle.iso_history.proofs.Snoc.{along}
use Rattle.iso_history.proofs.facts.OfHead.{no-more_holds}
use Rattle.iso_history.proofs.facts.Others.{hold_on-others, wait-others}
use Rattle.iso_history.proofs.facts.Taken.{taken-unqueued}
use Rattle.iso_history.proofs.facts.Takes.{Takes, claim-takes, drops, filters, granted-takes, leaves, lock-granted, look-queues, look-takes, next-queues, next-takes, queued-takes, quits}
use Rattle.iso_history.proofs.facts.TakesWrites.{insert-takes, update-takes}
use Rattle.iso_history.proofs.limits.Sums.{conns-const, conns-le, conns-moved}
use Rattle.iso_history.proofs.locks.Fits.{apart-turned}
use Rattle.iso_history.proofs.locks.Same.{conn_is}
use Rattle.iso_history.specs.After.{after, start, world}
use Rattle.iso_history.specs.Holds.{holds_by_agent, spared}
use Rattle.iso_history.specs.Legal.{Allowed, By, Ground}
use Rattle.iso_history.specs.Phases.{victim}
use Rattle.iso_history.specs.Shares.{SharesHold}
use Rattle.iso_history.specs.Waits.{joining_of_dispatcher}
use Rattle.iso_history.specs.Waits.Joining.{Passes, Quits}
use Rattle.iso_history.specs.declared.entry.Act.TheVariants.{Expire, Victim}
use Rattle.iso_history.specs.declared.entry.Entry.{Entry}
use Rattle.iso_history.specs.declared.entry.Who.{Who}
use Rattle.iso_history.specs.declared.entry.Who.TheVariants.{Agent, Dispatcher}
use Rattle.iso_queue.specs.Limits.{all_taken}
use Rattle.iso_queue.specs.Locks.{without_briefs}
use Rattle.iso_types.specs.Head.{conns, is_conn, lock_share, lock_slots}
use Rattle.std.specs.Prelude.{nat_lt, sum_by}
use Rattle.std.proofs.lemmas.Bool.Decides.{nat_tests}

module _ (head : Head) (w : World) (c : Conn) where
  -- what each kind of entry makes its connection take
  agent-takes : (spare : Option Name) (a : Act) → ByAgent head w c a
      → Takes head w c (holds_by_hand head c (hand_of head w c a) (settled c spare w.holds)) (wait_of (waits_by w (joining_of_agent w c a)) c)
  agent-takes spare (Lock n m t why Got.Granted) al = granted-takes head w c spare n m t (lock-granted head w c spare n m t why Got.Granted al.1)
  agent-takes spare (Lock n m t why (Got.Queued q)) al =
      queued-takes head w c spare n m q (record { name = n; conn = c; target = q; term = t }) refl refl al.0
      (lock-granted head w c spare n m t why (Got.Queued q) al.1)
  agent-takes spare (Lock n m t why Got.TimedOut) al = leaves head w c spare
  agent-takes spare (Look t r want Got.Granted) al = look-takes head w c spare t r want al.2
  agent-takes spare (Look t r want (Got.Queued q)) al = look-queues head w c spare t r want q al.0 al.2
  agent-takes spare (Look t r want Got.TimedOut) al = leaves head w c spare
  agent-takes spare (Next i range at guarded (At v r)) al = next-takes head w c spare i range at guarded (At v r) refl al.2
  agent-takes spare (Next i range at guarded Past) al = next-takes head w c spare i range at guarded Past refl al.2
  agent-takes spare (Next i range at guarded (Stand.Queued n)) al = next-queues head w c spare i range at guarded n al.0 al.2
  agent-takes spare (Next i range at guarded (Stand.TimedOut n)) al = leaves head w c spare
  agent-takes spare Claim al = claim-takes head w c spare
  agent-takes spare (Insert t r row) al = insert-takes head w c spare t r row al.3 al.4
  agent-takes spare (Update t r row) al = update-takes head w c spare t r row al.3
  agent-takes spare (Free t r) al = filters head w c spare _
  agent-takes spare (Collapse t m) al = filters head w c spare _
  agent-takes spare Commit al = drops head w c spare _
  agent-takes spare (Rollback code reason) al = drops head w c spare _
  agent-takes spare Act.Ended al = drops head w c spare _
  agent-takes spare (Stopped cause) al = quits head w c spare
  agent-takes spare _ al = leaves head w c spare

  -- what was Brief before goes
  own-takes : (a : Act) → ByAgent head w c a → Takes head w c (holds_by_agent head w c a) (wait_of (waits_by w (joining_of_agent w c a)) c)
  own-takes a al =
      let hs : List Hold = holds_by_hand head c (hand_of head w c a) (settled c (spared a (w.last c)) w.holds) in
      let t = agent-takes (spared a (w.last c)) a al in
      let few : taken_with (without_briefs w.holds c hs) c (wait_of (waits_by w (joining_of_agent w c a)) c)
      ≤ taken_with hs c (wait_of (waits_by w (joining_of_agent w c a)) c) = taken-filter _ hs c (wait_of (waits_by w (joining_of_agent w c a)) c) in
      record { more = t.more; fits = t.fits; bound = omega (arith, few, t.bound) }

  -- the others take no more than before
  others-take : (d : Conn) (a : Act) → conn_eq c d ≡ false
      → taken_with (holds_by_agent head w c a) d (wait_of (waits_by w (joining_of_agent w c a)) d) ≤ taken w.holds w.waits d
  others-take d a away =
      subst (λ (o : Option Wait). taken_with (holds_by_agent head w c a) d o ≤ taken w.holds w.waits d) (sym (wait-others w c d a away))
      (go (wait_of w.waits d))
    where
      go : (o : Option Wait) → taken_with (holds_by_agent head w c a) d o ≤ taken_with w.holds d o
      go None = let few = no-more_holds c d away head w a in omega (arith, few)
      go (Some x) =
          let few = no-more_holds c d away head w a in
          let alike : lack (is_held (holds_by_agent head w c a) d x.name) ≡ lack (is_held w.holds d x.name) =
          ap (λ (o : Option Hold). lack (is_some o)) (hold_on-others c d x.name away head w a) in
          omega (arith, few, alike)

-- what is not at the limit
within : (a t k : ℕ) → nat_lt a (t + k) ≡ false → t + k ≤ a
within a t k e = grind (arith, nat_tests, e)

neither : (a b : Bool) → (a || b) ≡ false → (a ≡ false) × (b ≡ false)
neither true b e = cc
neither false b e = (refl, e)

module _ (head : Head) (w : World) (s : SharesHold head w) where
  -- where one connection takes so many more, which was not at the limit, and no other more
  shares-moved : (c : Conn) (k : ℕ) (g : Conn → ℕ) → is_conn head c ≡ true → (k ≡ 0) ⊎ (is_limited head w c k ≡ false)
      → g c ≤ taken w.holds w.waits c + k → ((d : Conn) → conn_eq c d ≡ false → g d ≤ taken w.holds w.waits d)
      → ((d : Conn) → g d ≤ lock_share head.config) × (sum_by g (conns head) ≤ lock_slots head.config)
  shares-moved c k g is free own others = (λ d. each d (conn_eq c d) refl, total)
    where
      f : Conn → ℕ
      f d = taken w.holds w.waits d

      -- the bound of each
      top : Conn → ℕ
      top d = if conn_eq d c then taken w.holds w.waits d + k else taken w.holds w.waits d

      limits : (taken w.holds w.waits c + k ≤ lock_share head.config) × (all_taken head w.holds w.waits + k ≤ lock_slots head.config)
      limits = go free
        where
          go : (k ≡ 0) ⊎ (is_limited head w c k ≡ false)
              → (taken w.holds w.waits c + k ≤ lock_share head.config) × (all_taken head w.holds w.waits + k ≤ lock_slots head.config)
          go (inl z) = let one = s.each c in let all = s.total in (omega (arith, z, one), omega (arith, z, all))
          go (inr e) =
              let p = neither _ _ e in
              (within (lock_share head.config) (taken w.holds w.waits c) k p.0, within (lock_slots head.config) (all_taken head w.holds w.waits) k p.1)

      each : (d : Conn) (b : Bool) → conn_eq c d ≡ b → g d ≤ lock_share head.config
      each d true e = subst (λ (z : Conn). g z ≤ lock_share head.config) (conn_is c d e) (let le = limits.0 in omega (arith, own, le))
      each d false e = let le = s.each d in let less = others d e in omega (arith, less, le)

      below : (d : Conn) (b : Bool) → conn_eq d c ≡ b → g d ≤ (if b then taken w.holds w.waits d + k else taken w.holds w.waits d)
      below d true e = subst (λ (z : Conn). g z ≤ taken w.holds w.waits z + k) (sym (conn_is d c e)) own
      below d false e = others d (apart-turned d c e)

      total : sum_by g (conns head) ≤ lock_slots head.config
      total =
          let less = conns-le head top g (λ d. below d (conn_eq d c) refl) in
          let moved : sum_by top (conns head) + 0 ≡ sum_by f (conns head) + k =
          conns-moved head f top c k 0 is (λ d e. rw e refl) (rw (conn_same c) (omega arith)) in
          let le = limits.1 in
          omega (arith, less, moved, le)

  agent-shares : (c : Conn) (a : Act) → By head w (Agent c) a → SharesHold head (after head w (record { who = Agent c; act = a }))
  agent-shares c a al =
      let t = own-takes head w c a al.1 in
      let m = shares-moved c t.more (taken (holds_by_agent head w c a) (waits_by w (joining_of_agent w c a))) al.0 t.fits t.bound
      (λ d e. others-take head w c d a e) in
      record { each = m.0; total = m.1 }

  -- the dispatcher's entry ends a wait at most
  fewer-wait : (a : Act) (d : Conn) → taken w.holds (waits_by w (joining_of_dispatcher w a)) d ≤ taken w.holds w.waits d
  fewer-wait (Victim cycle) d = go (victim w cycle)
    where
      go : (o : Option Conn) → taken w.holds (waits_by w (option_map_or Quits o Passes)) d ≤ taken w.holds w.waits d
      go None = omega arith
      go (Some c) = taken-unqueued w.holds c d w.waits
  fewer-wait (Expire line c true) d = taken-unqueued w.holds c d w.waits
  fewer-wait (Expire line c false) d = omega arith
  fewer-wait a d = omega arith

  dispatcher-shares : (a : Act) → SharesHold head (after head w (record { who = Dispatcher; act = a }))
  dispatcher-shares a =
      let less = conns-le head (taken w.holds w.waits) (taken w.holds (waits_by w (joining_of_dispatcher w a))) (fewer-wait a) in
      let all = s.total in
      record {
        each = λ d. let le = fewer-wait a d in let one = s.each d in omega (arith, le, one);
        total = omega (arith, less, all);
      }

  shares-by : (who : Who) (a : Act) → By head w who a → SharesHold head (after head w (record { who = who; act = a }))
  shares-by Dispatcher a al = dispatcher-shares a
  shares-by (Agent c) a al = agent-shares c a al

pub shares-after : (head : Head) (w : World) (e : Entry) → Allowed head w e → SharesHold head w → SharesHold head (after head w e)
shares-after head w e al s = shares-by head w s e.who e.act al.2

pub start-shares : (head : Head) → SharesHold head (start head)
start-shares head = record { each = λ c. omega arith; total = none }
  where
    none : sum_by (taken [] []) (conns head) ≤ lock_slots head.config
    none = let zero_each = conns-const head (taken [] []) 0 (λ d. refl) in let times = by_none (length head.conns) in omega (arith, zero_each, times)
      where
        by_none : (n : ℕ) → n * 0 ≡ 0
        by_none n = grind arith

-- the limits hold in every legal history
pub shares-world : (head : Head) (es : List Entry) → Ground head es → SharesHold head (world head es)
shares-world head es g = along head (SharesHold head) (shares-after head) es (start-shares head) g
