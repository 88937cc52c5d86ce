-- The parts after an agent's entry, by its kind: nothing but locks and history changes, a request queues, or it timed out.
use Rattle.std.proofs.Common.{◌≡◌, ◌≤◌, ◌<◌, ◌+◌, ◌⊎◌, inl, inr, ◌∷◌, ◌++◌, [], ℕ, Bool, true, false, not, List, length, refl, ap, sym, ◌∙◌, arith, subst, Some, None, Option}
use Rattle.std.specs.Prelude.{Err, IfSome, IsErrAnd, Result, IsTrue, is_none, is_some, nat_lt, unwrap_or, ◌-◌}
use Rattle.iso_chain.proofs.Carries.{no-row}
use Rattle.iso_chain.specs.Carried.{rows_by}
use Rattle.iso_history.specs.Versions.{change_of}
use Rattle.iso_chain.proofs.Units.{kept-chained}
use Rattle.iso_chain.specs.Stands.{AreChained, Chained}
use Rattle.iso_history.proofs.limits.Full.{fullness}
use Rattle.iso_history.proofs.limits.Made.{made-is}
use Rattle.iso_history.proofs.limits.Others.{at-same}
use Rattle.iso_history.proofs.limits.Totals.{totals-after, totals-by}
use Rattle.iso_history.specs.After.{after, world}
use Rattle.iso_history.specs.Lasts.{last_of, last_of_lock}
use Rattle.iso_history.specs.Legal.{Allowed, By, ByAgent}
use Rattle.iso_history.specs.Makers.{by_agent, by_dispatcher}
use Rattle.iso_history.specs.Paces.{is_stop}
use Rattle.iso_history.specs.Phases.{phase, phase_of}
use Rattle.iso_history.specs.Reserves.{log_room_of, records_of, reserves_less, reserves_more}
use Rattle.iso_history.specs.Stops.{history_limit, is_full, is_never_refused, reserves}
use Rattle.iso_history.specs.World.{World, at_conn}
use Rattle.iso_history.specs.declared.entry.Act.{Act}
use Rattle.iso_history.specs.declared.entry.Act.TheVariants.{Collapse, Free, Lock, Look, Next, Refused, ScanEnd}
use Rattle.iso_history.specs.declared.entry.Entry.{Entry}
use Rattle.iso_history.specs.declared.entry.Got.{Got}
use Rattle.iso_history.specs.declared.entry.Stand.{Stand}
use Rattle.iso_history.specs.declared.entry.Why.{Why}
use Rattle.iso_history.specs.declared.entry.Why.TheVariants.{Asked, Blocked, Escalation}
use Rattle.iso_history.specs.declared.entry.Who.{Who}
use Rattle.iso_history.specs.declared.entry.Who.TheVariants.{Agent}
use Rattle.iso_locklist.specs.Places.{IsSameLimits, Ledger}
use Rattle.iso_history.specs.Waits.{wait_term}
use Rattle.iso_modes.specs.declared.Mode.TheVariants.{S}
use Rattle.iso_modes.specs.declared.Term.TheVariants.{Kept}
use Rattle.iso_queue.specs.Locks.{target}
use Rattle.iso_queue.specs.Queues.{Wait, is_waiting, queued}
use Rattle.iso_types.specs.declared.desk.Desk.{Desk}
use Rattle.iso_types.specs.declared.desk.Phase.{Phase}
use Rattle.iso_types.specs.declared.desk.Phase.TheVariants.{Rolling, Running}
use Rattle.iso_types.specs.declared.head.Head.{Head}
use Rattle.iso_types.specs.declared.items.StepFault.{StepFault}
use Rattle.iso_types.specs.declared.value.Conn.{Conn}
use Rattle.iso_types.specs.declared.value.Name.{Name}
use Rattle.iso_types.specs.declared.value.Name.TheVariants.{End, Key, Row, Table}
use Rattle.iso_modes.specs.declared.Mode.{Mode}
use Rattle.iso_state.proofs.Desks.{IsSameSeat, claims-own, seat-as, seat-kept}
use Rattle.iso_state.proofs.FactsAlong.{apart-of, none_left-of, within-of}
use Rattle.iso_state.proofs.Steps.{IsOwn, IsRoomFor, calm-place, conn-is, is-open, own-desk}
use Rattle.iso_state.proofs.Waits.{queues-by, rolls-by, waits-own}
use Rattle.iso_state.specs.Changes.{entered, relocked, seated, unclaimed}
use Rattle.iso_state.specs.Kinds.{is_bare, queues, times_out}
use Rattle.iso_locklist.specs.Holding.{LocksAre}
use Rattle.iso_state.specs.Stands.{Content, HasPlace, IsDeskOf, Stands, StandsFor, content_of, desk_at, is_claimed, world_of}
use Rattle.iso_state.specs.Steps.{IsReady, KeepsRoom, Spends, is_past}
use Rattle.iso_state.specs.declared.parts.Parts.{Parts}

-- a step that may be refused for the limit is full exactly where it is past it, with what it adds to the sum
pub full-is : (p : Content) (who : Who) (a : Act) (more : ℕ) → Stands p → (world p.head p.history).pace.finished ≡ false
    → By p.head (world p.head p.history) who a → is_never_refused a ≡ false
    → more + reserves_less (world p.head p.history) who a ≡ reserves_more (world p.head p.history) who a + 1
    → is_full p.head (world p.head p.history) (record { who = who; act = a }) ≡ is_past p more
full-is p who a more s free by never is =
    let w = world p.head p.history in
    let t = (totals-by p.head w who a free by (apart-of s) (within-of s).course (none_left-of s)).reserves_move in
    rw never (ap (nat_lt history_limit) (sums w.made (length p.history) _ _ _ _ more p.reserved (made-is p.head p.history) t is s.parts.reserved))
  where
    sums : (m k b r x y n q : ℕ) → m ≡ k → b + y ≡ r + x → n + y ≡ x + 1 → q ≡ r → m + 1 + b ≡ k + q + n
    sums m k b r x y n q e f g h = omega (arith, e, f, g, h)

-- so it is allowed where it is not past it
pub ready-allowed : (p : Content) (who : Who) (a : Act) (more : ℕ) → Stands p → (world p.head p.history).pace.finished ≡ false
    → By p.head (world p.head p.history) who a → is_never_refused a ≡ false
    → more + reserves_less (world p.head p.history) who a ≡ reserves_more (world p.head p.history) who a + 1
    → is_past p more ≡ false → Allowed p.head (world p.head p.history) (record { who = who; act = a })
ready-allowed p who a more s free by never is past =
    (is-open (world p.head p.history) free, ap not (full-is p who a more s free by never is ∙ past), by)

-- what an entry of an agent leaves as it was, beside its locks, its desk and the reserves
pub record Leaves (head : Head) (w : World) (c : Conn) (a : Act) : Type 0 where
  pub tables : (after head w (by_agent c a)).tables ≡ w.tables
  pub records : (after head w (by_agent c a)).records ≡ w.records
  pub changes : (after head w (by_agent c a)).changes ≡ w.changes
  pub unit : (after head w (by_agent c a)).unit ≡ w.unit
  pub marks : (after head w (by_agent c a)).marks ≡ w.marks
  pub begun : (after head w (by_agent c a)).begun ≡ w.begun
  pub entries : (after head w (by_agent c a)).entries ≡ w.entries
  pub line : (after head w (by_agent c a)).line ≡ w.line
  pub setting : (after head w (by_agent c a)).setting ≡ w.setting
  pub floor : (after head w (by_agent c a)).floor ≡ w.floor
  pub ended : (after head w (by_agent c a)).ended ≡ w.ended
  pub closing : (after head w (by_agent c a)).closing ≡ w.closing
  pub more : reserves_more w (Agent c) a ≡ 0
  pub refused : is_never_refused a ≡ false
  pub unlogged : log_room_of a ≡ 0
  pub unclaimed_is : is_claimed (last_of a) ≡ false
  pub calm : is_stop a ≡ false
  pub rows : rows_by (change_of a) ≡ []

-- a bare entry besides leaves waits, dooms and reserves
pub record IsBare (head : Head) (w : World) (c : Conn) (a : Act) : Type 0 where
  pub leaves : Leaves head w c a
  pub waits : (after head w (by_agent c a)).waits ≡ w.waits
  pub doom : (after head w (by_agent c a)).doom ≡ w.doom
  pub less : reserves_less w (Agent c) a ≡ 0

leaves-all : (head : Head) (w : World) (c : Conn) (a : Act) → Leaves head w c a → (after head w (by_agent c a)).waits ≡ w.waits
    → (after head w (by_agent c a)).doom ≡ w.doom → reserves_less w (Agent c) a ≡ 0 → IsBare head w c a
leaves-all head w c a l e f g = record { leaves = l; waits = e; doom = f; less = g }

-- no lock is a claim
locks-none : (why : Why) (got : Got) (n : Name) (m : Mode) → is_claimed (last_of_lock why got n m) ≡ false
locks-none Asked got n m = refl
locks-none Blocked got n m = refl
locks-none Escalation Got.Granted n m = refl
locks-none Escalation Got.TimedOut n m = refl
locks-none Escalation (Got.Queued to) (Table t) m = refl
locks-none Escalation (Got.Queued to) (Row t r) m = refl
locks-none Escalation (Got.Queued to) (Key i v) m = refl
locks-none Escalation (Got.Queued to) (End i) m = refl

pub bare-is : (head : Head) (w : World) (c : Conn) (a : Act) → is_bare a ≡ true → IsBare head w c a
bare-is head w c (Lock n m t why Got.Granted) e = record {
  leaves = record {
    tables = refl;
    records = refl;
    changes = refl;
    unit = refl;
    marks = refl;
    begun = refl;
    entries = refl;
    line = refl;
    setting = refl;
    floor = refl;
    ended = refl;
    closing = refl;
    more = refl;
    refused = refl;
    unlogged = refl;
    unclaimed_is = locks-none why Got.Granted n m;
    calm = refl;
    rows = refl;
  };
  waits = refl;
  doom = refl;
  less = refl;
}
bare-is head w c (Look t r want Got.Granted) e = record {
  leaves = record {
    tables = refl;
    records = refl;
    changes = refl;
    unit = refl;
    marks = refl;
    begun = refl;
    entries = refl;
    line = refl;
    setting = refl;
    floor = refl;
    ended = refl;
    closing = refl;
    more = refl;
    refused = refl;
    unlogged = refl;
    unclaimed_is = refl;
    calm = refl;
    rows = refl;
  };
  waits = refl;
  doom = refl;
  less = refl;
}
bare-is head w c (ScanEnd t n) e = record {
  leaves = record {
    tables = refl;
    records = refl;
    changes = refl;
    unit = refl;
    marks = refl;
    begun = refl;
    entries = refl;
    line = refl;
    setting = refl;
    floor = refl;
    ended = refl;
    closing = refl;
    more = refl;
    refused = refl;
    unlogged = refl;
    unclaimed_is = refl;
    calm = refl;
    rows = refl;
  };
  waits = refl;
  doom = refl;
  less = refl;
}
bare-is head w c (Next i range at guarded (Stand.At v r)) e = record {
  leaves = record {
    tables = refl;
    records = refl;
    changes = refl;
    unit = refl;
    marks = refl;
    begun = refl;
    entries = refl;
    line = refl;
    setting = refl;
    floor = refl;
    ended = refl;
    closing = refl;
    more = refl;
    refused = refl;
    unlogged = refl;
    unclaimed_is = refl;
    calm = refl;
    rows = refl;
  };
  waits = refl;
  doom = refl;
  less = refl;
}
bare-is head w c (Next i range at guarded Stand.Past) e = record {
  leaves = record {
    tables = refl;
    records = refl;
    changes = refl;
    unit = refl;
    marks = refl;
    begun = refl;
    entries = refl;
    line = refl;
    setting = refl;
    floor = refl;
    ended = refl;
    closing = refl;
    more = refl;
    refused = refl;
    unlogged = refl;
    unclaimed_is = refl;
    calm = refl;
    rows = refl;
  };
  waits = refl;
  doom = refl;
  less = refl;
}
bare-is head w c (Free t r) e = record {
  leaves = record {
    tables = refl;
    records = refl;
    changes = refl;
    unit = refl;
    marks = refl;
    begun = refl;
    entries = refl;
    line = refl;
    setting = refl;
    floor = refl;
    ended = refl;
    closing = refl;
    more = refl;
    refused = refl;
    unlogged = refl;
    unclaimed_is = refl;
    calm = refl;
    rows = refl;
  };
  waits = refl;
  doom = refl;
  less = refl;
}
bare-is head w c (Collapse t m) e = record {
  leaves = record {
    tables = refl;
    records = refl;
    changes = refl;
    unit = refl;
    marks = refl;
    begun = refl;
    entries = refl;
    line = refl;
    setting = refl;
    floor = refl;
    ended = refl;
    closing = refl;
    more = refl;
    refused = refl;
    unlogged = refl;
    unclaimed_is = refl;
    calm = refl;
    rows = refl;
  };
  waits = refl;
  doom = refl;
  less = refl;
}
bare-is head w c (Refused code) e = record {
  leaves = record {
    tables = refl;
    records = refl;
    changes = refl;
    unit = refl;
    marks = refl;
    begun = refl;
    entries = refl;
    line = refl;
    setting = refl;
    floor = refl;
    ended = refl;
    closing = refl;
    more = refl;
    refused = refl;
    unlogged = refl;
    unclaimed_is = refl;
    calm = refl;
    rows = refl;
  };
  waits = refl;
  doom = refl;
  less = refl;
}
bare-is head w c _ e = absurd (cc)

-- the unit's parts stay
leaves-chained : (head : Head) (w : World) (c : Conn) (a : Act) (k : Chained) → Leaves head w c a → AreChained w k
    → AreChained (after head w (by_agent c a)) k
leaves-chained head w c a k l is = kept-chained w (after head w (by_agent c a)) k l.tables l.records l.changes l.unit l.marks l.begun is

-- the phase, from its five truth values
phase-by : (w v : World) (c : Conn) (e f d x s : Bool) → v.ended c ≡ e → v.closing c ≡ f → is_some (v.doom c) ≡ d → is_waiting v.waits c ≡ x
    → is_none (v.line c) ≡ s → phase v c ≡ phase_of e f d x s
phase-by w v c e f d x s h i j k l = rw (h, i, j, k, l) refl

at : {A : Type 0} {f g : Conn → A} → f ≡ g → (c : Conn) → f c ≡ g c
at e c = ap (λ f. f c) e

bare-seat : (head : Head) (w : World) (c : Conn) (a : Act) → IsBare head w c a → IsSameSeat w (after head w (by_agent c a)) c
bare-seat head w c a b = let l = b.leaves in record {
  phase_same = phase-by w (after head w (by_agent c a)) c _ _ _ _ _ (at l.ended c) (at l.closing c) (ap (λ (f : Conn → Option ℕ). is_some (f c)) b.doom)
      (ap (λ (ws : List Wait). is_waiting ws c) b.waits) (ap (λ (f : Conn → Option ℕ). is_none (f c)) l.line);
  line_same = at l.line c;
  setting_same = at l.setting c;
  doom_same = at b.doom c;
  floor_same = at l.floor c;
}

room-for : (p q : Parts) (a : Act) → p.reserved + 3 ≤ p.history.spare → Spends p q → log_room_of a ≡ 0
    → IsRoomFor (content_of p) a p.history.spare q.history.spare p.log.spare q.log.spare
room-for p q a le s e = let more = s.log in
    record { made = inl le; pushed = s.history; logged = omega (arith, more); bare = e }

-- one more bare entry
bare-from : (p q : Parts) (l : Ledger) (c : Conn) (a : Act) → StandsFor p → IsReady p 1 → Spends p q → (world_of p).pace.finished ≡ false
    → c.0 < length p.head.conns → ByAgent p.head (world_of p) c a → is_bare a ≡ true
    → LocksAre (after p.head (world_of p) (by_agent c a)).holds (world_of p).waits l → IsSameLimits l p.locks
    → content_of q ≡ entered (relocked (content_of p) l) c (by_agent c a) → StandsFor q
bare-from p q l c a s ready spends free lt by kind are same wrote =
    let b = bare-is p.head (world_of p) c a kind in
    let k = b.leaves in
    let none = k.more in
    let less = b.less in
    rw wrote (calm-place (content_of p) c a (content_of p).chain l (unclaimed (desk_at p.desks c)) p.reserved p.history.spare q.history.spare p.log.spare q.log.spare s
    (ready-allowed (content_of p) (Agent c) a 1 s.stands free (conn-is p.head c lt, by) k.refused (omega (arith, none, less)) ready.fits)
    (room-for p q a ready.spare spends k.unlogged)
    (record {
      chain = leaves-chained p.head (world_of p) c a (content_of p).chain k s.parts.chain;
      carried = no-row (content_of p).chain.log a k.rows;
      works = refl;
      entries = k.entries;
      locks = rw b.waits are;
      limits = same;
      desk = seat-kept (world_of p) (after p.head (world_of p) (by_agent c a)) c (desk_at p.desks c) false (bare-seat p.head (world_of p) c a b)
          (sym k.unclaimed_is ∙ claims-own (world_of p) c a)
          (own-desk (content_of p) c (desk_at p.desks c) s.stands lt refl);
      reserved = omega (arith, none, less);
    }) k.calm)

-- an entry that queues adds one wait
pub record IsQueued (head : Head) (w : World) (c : Conn) (a : Act) : Type 0 where
  pub leaves : Leaves head w c a
  pub wait : Wait
  pub own : wait.conn ≡ c
  pub waits : (after head w (by_agent c a)).waits ≡ queued w.holds wait w.waits
  pub doom : (after head w (by_agent c a)).doom ≡ w.doom
  pub less : reserves_less w (Agent c) a ≡ 0

pub queued-is : (head : Head) (w : World) (c : Conn) (a : Act) → queues a ≡ true → IsQueued head w c a
queued-is head w c (Lock n m t why (Got.Queued to)) e = record {
  leaves = record {
    tables = refl;
    records = refl;
    changes = refl;
    unit = refl;
    marks = refl;
    begun = refl;
    entries = refl;
    line = refl;
    setting = refl;
    floor = refl;
    ended = refl;
    closing = refl;
    more = refl;
    refused = refl;
    unlogged = refl;
    unclaimed_is = locks-none why (Got.Queued to) n m;
    calm = refl;
    rows = refl;
  };
  wait = record { name = n; conn = c; target = to; term = t };
  own = refl;
  waits = refl;
  doom = refl;
  less = refl;
}
queued-is head w c (Look t r want (Got.Queued to)) e = record {
  leaves = record {
    tables = refl;
    records = refl;
    changes = refl;
    unit = refl;
    marks = refl;
    begun = refl;
    entries = refl;
    line = refl;
    setting = refl;
    floor = refl;
    ended = refl;
    closing = refl;
    more = refl;
    refused = refl;
    unlogged = refl;
    unclaimed_is = refl;
    calm = refl;
    rows = refl;
  };
  wait = record { name = Row t r; conn = c; target = to; term = wait_term want };
  own = refl;
  waits = refl;
  doom = refl;
  less = refl;
}
queued-is head w c (Next i range at guarded (Stand.Queued n)) e = record {
  leaves = record {
    tables = refl;
    records = refl;
    changes = refl;
    unit = refl;
    marks = refl;
    begun = refl;
    entries = refl;
    line = refl;
    setting = refl;
    floor = refl;
    ended = refl;
    closing = refl;
    more = refl;
    refused = refl;
    unlogged = refl;
    unclaimed_is = refl;
    calm = refl;
    rows = refl;
  };
  wait = record { name = n; conn = c; target = target w.holds c n S; term = Kept };
  own = refl;
  waits = refl;
  doom = refl;
  less = refl;
}
queued-is head w c _ e = absurd (cc)

-- one that timed out dooms its connection
pub record IsTimedOut (head : Head) (w : World) (c : Conn) (a : Act) : Type 0 where
  pub leaves : Leaves head w c a
  pub waits : (after head w (by_agent c a)).waits ≡ w.waits
  pub doom : (after head w (by_agent c a)).doom ≡ at_conn w.doom c (Some 68)
  pub less : reserves_less w (Agent c) a ≡ 1

pub timed_out-is : (head : Head) (w : World) (c : Conn) (a : Act) → times_out a ≡ true → IsTimedOut head w c a
timed_out-is head w c (Lock n m t why Got.TimedOut) e = record {
  leaves = record {
    tables = refl;
    records = refl;
    changes = refl;
    unit = refl;
    marks = refl;
    begun = refl;
    entries = refl;
    line = refl;
    setting = refl;
    floor = refl;
    ended = refl;
    closing = refl;
    more = refl;
    refused = refl;
    unlogged = refl;
    unclaimed_is = locks-none why Got.TimedOut n m;
    calm = refl;
    rows = refl;
  };
  waits = refl;
  doom = refl;
  less = refl;
}
timed_out-is head w c (Look t r want Got.TimedOut) e = record {
  leaves = record {
    tables = refl;
    records = refl;
    changes = refl;
    unit = refl;
    marks = refl;
    begun = refl;
    entries = refl;
    line = refl;
    setting = refl;
    floor = refl;
    ended = refl;
    closing = refl;
    more = refl;
    refused = refl;
    unlogged = refl;
    unclaimed_is = refl;
    calm = refl;
    rows = refl;
  };
  waits = refl;
  doom = refl;
  less = refl;
}
timed_out-is head w c (Next i range at guarded (Stand.TimedOut n)) e = record {
  leaves = record {
    tables = refl;
    records = refl;
    changes = refl;
    unit = refl;
    marks = refl;
    begun = refl;
    entries = refl;
    line = refl;
    setting = refl;
    floor = refl;
    ended = refl;
    closing = refl;
    more = refl;
    refused = refl;
    unlogged = refl;
    unclaimed_is = refl;
    calm = refl;
    rows = refl;
  };
  waits = refl;
  doom = refl;
  less = refl;
}
timed_out-is head w c _ e = absurd (cc)

-- the desk of a running connection that queues
queued-desk : (head : Head) (w : World) (c : Conn) (a : Act) (d : Desk) → IsQueued head w c a → phase w c ≡ Running → IsDeskOf w c d
    → IsDeskOf (after head w (by_agent c a)) c (record d { phase = Phase.Waiting; claimed = false })
queued-desk head w c a d b runs is = let l = b.leaves in
    seat-as w (after head w (by_agent c a)) c d Phase.Waiting d.doom false
    (sym (phase-by w (after head w (by_agent c a)) c (w.ended c) (w.closing c) (is_some (w.doom c)) true (is_none (w.line c)) (at l.ended c) (at l.closing c)
    (ap (λ (f : Conn → Option ℕ). is_some (f c)) b.doom) waiting (ap (λ (f : Conn → Option ℕ). is_none (f c)) l.line)
    ∙ queues-by (w.ended c) (w.closing c) (is_some (w.doom c)) (is_waiting w.waits c) (is_none (w.line c)) runs))
    (at l.line c) (at l.setting c) (is.doom ∙ ap (λ (o : Option ℕ). unwrap_or o 0) (sym (at b.doom c))) (at l.floor c)
    (sym l.unclaimed_is ∙ claims-own w c a) is
  where
    waiting : is_waiting (after head w (by_agent c a)).waits c ≡ true
    waiting = ap (λ (ws : List Wait). is_waiting ws c) b.waits
        ∙ subst (λ (d : Conn). is_waiting (queued w.holds b.wait w.waits) d ≡ true) b.own (waits-own w.holds b.wait w.waits)

-- and of one that timed out
timed_out-desk : (head : Head) (w : World) (c : Conn) (a : Act) (d : Desk) → IsTimedOut head w c a → phase w c ≡ Running → IsDeskOf w c d
    → IsDeskOf (after head w (by_agent c a)) c (record d { phase = Rolling; doom = 68; claimed = false })
timed_out-desk head w c a d b runs is = let l = b.leaves in
    seat-as w (after head w (by_agent c a)) c d Rolling 68 false
    (sym (phase-by w (after head w (by_agent c a)) c (w.ended c) (w.closing c) true (is_waiting w.waits c) (is_none (w.line c)) (at l.ended c) (at l.closing c)
    (ap (λ (o : Option ℕ). is_some o) doomed)
    (ap (λ (ws : List Wait). is_waiting ws c) b.waits) (ap (λ (f : Conn → Option ℕ). is_none (f c)) l.line)
    ∙ rolls-by (w.ended c) (w.closing c) (is_some (w.doom c)) (is_waiting w.waits c) (is_none (w.line c)) runs))
    (at l.line c) (at l.setting c) (ap (λ (o : Option ℕ). unwrap_or o 0) (sym doomed)) (at l.floor c)
    (sym l.unclaimed_is ∙ claims-own w c a) is
  where
    doomed : (after head w (by_agent c a)).doom c ≡ Some 68
    doomed = at b.doom c ∙ at-same w.doom c (Some 68)

-- one more entry that queues
queued-from : (p q : Parts) (l : Ledger) (c : Conn) (a : Act) → StandsFor p → IsReady p 1 → Spends p q → (world_of p).pace.finished ≡ false
    → c.0 < length p.head.conns → phase (world_of p) c ≡ Running → ByAgent p.head (world_of p) c a → queues a ≡ true
    → LocksAre (after p.head (world_of p) (by_agent c a)).holds (after p.head (world_of p) (by_agent c a)).waits l → IsSameLimits l p.locks
    → content_of q ≡ seated (relocked (content_of p) l) c (record (desk_at p.desks c) { phase = Phase.Waiting; claimed = false }) (by_agent c a)
    → StandsFor q
queued-from p q l c a s ready spends free lt runs by kind are same wrote =
    let b = queued-is p.head (world_of p) c a kind in
    let k = b.leaves in
    let none = k.more in
    let less = b.less in
    rw wrote (calm-place (content_of p) c a (content_of p).chain l (record (desk_at p.desks c) { phase = Phase.Waiting; claimed = false }) p.reserved p.history.spare
    q.history.spare p.log.spare q.log.spare s
    (ready-allowed (content_of p) (Agent c) a 1 s.stands free (conn-is p.head c lt, by) k.refused (omega (arith, none, less)) ready.fits)
    (room-for p q a ready.spare spends k.unlogged)
    (record {
      chain = leaves-chained p.head (world_of p) c a (content_of p).chain k s.parts.chain;
      carried = no-row (content_of p).chain.log a k.rows;
      works = refl;
      entries = k.entries;
      locks = are;
      limits = same;
      desk = queued-desk p.head (world_of p) c a (desk_at p.desks c) b runs (own-desk (content_of p) c (desk_at p.desks c) s.stands lt refl);
      reserved = omega (arith, none, less);
    }) k.calm)

-- an entry that may stand takes off the sum no more than it has
pub reserved-covers : (p : Content) (e : Entry) → Stands p → Allowed p.head (world p.head p.history) e
    → reserves_less (world p.head p.history) e.who e.act ≤ p.reserved + reserves_more (world p.head p.history) e.who e.act
reserved-covers p e s al =
    let t = (totals-after p.head (world p.head p.history) e al (apart-of s) (within-of s).course (none_left-of s)).reserves_move in
    let is = s.parts.reserved in
    covers _ _ _ _ p.reserved t is
  where
    covers : (b r x y n : ℕ) → b + y ≡ r + x → n ≡ r → y ≤ n + x
    covers b r x y n e f = omega (arith, e, f)

-- a request that timed out takes one off
covers-from : (p : Parts) (c : Conn) (a : Act) → StandsFor p → (world_of p).pace.finished ≡ false → c.0 < length p.head.conns
    → ByAgent p.head (world_of p) c a → times_out a ≡ true → 1 ≤ p.reserved
covers-from p c a s free lt by kind =
    let b = timed_out-is p.head (world_of p) c a kind in
    let t = (totals-by p.head (world_of p) (Agent c) a free (conn-is p.head c lt, by) (apart-of s.stands) (within-of s.stands).course (none_left-of s.stands)).reserves_move in
    let is = s.parts.reserved in
    let one = b.less in
    let none = b.leaves.more in
    covers _ _ _ _ p.reserved t is one none
  where
    covers : (b r x y n : ℕ) → b + y ≡ r + x → n ≡ r → y ≡ 1 → x ≡ 0 → 1 ≤ n
    covers b r x y n e f g h = omega (arith, e, f, g, h)

-- one more entry that timed out
timed_out-from : (p q : Parts) (l : Ledger) (c : Conn) (a : Act) → StandsFor p → IsReady p 0 → Spends p q → (world_of p).pace.finished ≡ false
    → c.0 < length p.head.conns → phase (world_of p) c ≡ Running → ByAgent p.head (world_of p) c a → times_out a ≡ true
    → LocksAre (after p.head (world_of p) (by_agent c a)).holds (world_of p).waits l → IsSameLimits l p.locks
    → content_of q ≡ seated (record (content_of p) { locks = l; reserved = p.reserved - 1 }) c
    (record (desk_at p.desks c) { phase = Rolling; doom = 68; claimed = false }) (by_agent c a)
    → StandsFor q
timed_out-from p q l c a s ready spends free lt runs by kind are same wrote =
    let b = timed_out-is p.head (world_of p) c a kind in
    let k = b.leaves in
    let none = k.more in
    let less = b.less in
    let some = covers-from p c a s free lt by kind in
    rw wrote (calm-place (content_of p) c a (content_of p).chain l (record (desk_at p.desks c) { phase = Rolling; doom = 68; claimed = false }) (p.reserved - 1)
    p.history.spare q.history.spare p.log.spare q.log.spare s
    (ready-allowed (content_of p) (Agent c) a 0 s.stands free (conn-is p.head c lt, by) k.refused (omega (arith, none, less)) ready.fits)
    (room-for p q a ready.spare spends k.unlogged)
    (record {
      chain = leaves-chained p.head (world_of p) c a (content_of p).chain k s.parts.chain;
      carried = no-row (content_of p).chain.log a k.rows;
      works = refl;
      entries = k.entries;
      locks = rw b.waits are;
      limits = same;
      desk = timed_out-desk p.head (world_of p) c a (desk_at p.desks c) b runs (own-desk (content_of p) c (desk_at p.desks c) s.stands lt refl);
      reserved = omega (arith, none, less, some);
    }) k.calm)

-- parts that are as before, with no less room, stand as before
pub same-place : (p q : Parts) → StandsFor p → content_of q ≡ content_of p → KeepsRoom p q → StandsFor q
same-place p q s same room =
    let needs = s.room.for_needs in
    let owed = s.room.for_debt in
    let more = room.history in
    let also = room.log in
    subst (λ (x : Content). HasPlace x q.history.spare q.log.spare) (sym same)
    (record { stands = s.stands; room = record { for_needs = omega (arith, needs, more); for_debt = omega (arith, owed, also) } })

-- what is left of the room after two calls
pub spends-after : (p m q : Parts) → KeepsRoom p m → Spends m q → Spends p q
spends-after p m q a b = record { history = omega (arith, a.history, b.history); log = omega (arith, a.log, b.log) }

-- nothing of the room is spent
pub room-same : (p : Parts) → KeepsRoom p p
room-same p = record { history = omega arith; log = omega arith }

-- As a step meets it: `o` are the parts as it finds them, `p` those with room for the entry, `q` those that it leaves.
module _ (o p q : Parts) (l : Ledger) (c : Conn) (a : Act) (s : StandsFor p) (same : content_of p ≡ content_of o) (spends : Spends p q)
    (free : (world_of o).pace.finished ≡ false) (lt : c.0 < length o.head.conns) where
  free-now : (world_of p).pace.finished ≡ false
  free-now = subst (λ (x : Content). (world x.head x.history).pace.finished ≡ false) (sym same) free

  lt-now : c.0 < length p.head.conns
  lt-now = subst (λ (x : Content). c.0 < length x.head.conns) (sym same) lt

  by-now : ByAgent o.head (world_of o) c a → ByAgent p.head (world_of p) c a
  by-now by = subst (λ (x : Content). ByAgent x.head (world x.head x.history) c a) (sym same) by

  runs-now : phase (world_of o) c ≡ Running → phase (world_of p) c ≡ Running
  runs-now runs = subst (λ (x : Content). phase (world x.head x.history) c ≡ Running) (sym same) runs

  -- a bare entry
  pub bare-place : IsReady p 1 → ByAgent o.head (world_of o) c a → is_bare a ≡ true
      → LocksAre (after p.head (world_of p) (by_agent c a)).holds (world_of p).waits l → IsSameLimits l p.locks
      → content_of q ≡ entered (relocked (content_of p) l) c (by_agent c a) → StandsFor q
  bare-place ready by kind are limits wrote = bare-from p q l c a s ready spends free-now lt-now (by-now by) kind are limits wrote

  -- one that queues
  pub queued-place : IsReady p 1 → phase (world_of o) c ≡ Running → ByAgent o.head (world_of o) c a → queues a ≡ true
      → LocksAre (after p.head (world_of p) (by_agent c a)).holds (after p.head (world_of p) (by_agent c a)).waits l → IsSameLimits l p.locks
      → content_of q ≡ seated (relocked (content_of p) l) c (record (desk_at p.desks c) { phase = Phase.Waiting; claimed = false }) (by_agent c a)
      → StandsFor q
  queued-place ready runs by kind are limits wrote =
      queued-from p q l c a s ready spends free-now lt-now (runs-now runs) (by-now by) kind are limits wrote

  -- one that timed out
  pub timed_out-place : IsReady p 0 → phase (world_of o) c ≡ Running → ByAgent o.head (world_of o) c a → times_out a ≡ true
      → LocksAre (after p.head (world_of p) (by_agent c a)).holds (world_of p).waits l → IsSameLimits l p.locks
      → content_of q ≡ seated (record (content_of p) { locks = l; reserved = p.reserved - 1 }) c
      (record (desk_at p.desks c) { phase = Rolling; doom = 68; claimed = false }) (by_agent c a)
      → StandsFor q
  timed_out-place ready runs by kind are limits wrote =
      timed_out-from p q l c a s ready spends free-now lt-now (runs-now runs) (by-now by) kind are limits wrote

-- it takes one off the sum
pub timed_out-covers : (o p : Parts) (c : Conn) (a : Act) → StandsFor p → content_of p ≡ content_of o → (world_of o).pace.finished ≡ false
    → c.0 < length o.head.conns → ByAgent o.head (world_of o) c a → times_out a ≡ true → 1 ≤ p.reserved
timed_out-covers o p c a s same free lt by kind =
    covers-from p c a s (subst (λ (x : Content). (world x.head x.history).pace.finished ≡ false) (sym same) free)
    (subst (λ (x : Content). c.0 < length x.head.conns) (sym same) lt)
    (subst (λ (x : Content). ByAgent x.head (world x.head x.history) c a) (sym same) by) kind

-- Where `make_room` says that a step is past the limit, its entry is full.
module _ (p : Parts) (c : Conn) (a : Act) (s : StandsFor p) (free : (world_of p).pace.finished ≡ false) (lt : c.0 < length p.head.conns)
    (by : ByAgent p.head (world_of p) c a) where
  pub bare-full : is_bare a ≡ true → is_past (content_of p) 1 ≡ true → is_full p.head (world_of p) (by_agent c a) ≡ true
  bare-full kind past =
      let b = bare-is p.head (world_of p) c a kind in
      let none = b.leaves.more in
      let less = b.less in
      full-is (content_of p) (Agent c) a 1 s.stands free (conn-is p.head c lt, by) b.leaves.refused (omega (arith, none, less)) ∙ past

  pub queued-full : queues a ≡ true → is_past (content_of p) 1 ≡ true → is_full p.head (world_of p) (by_agent c a) ≡ true
  queued-full kind past =
      let b = queued-is p.head (world_of p) c a kind in
      let none = b.leaves.more in
      let less = b.less in
      full-is (content_of p) (Agent c) a 1 s.stands free (conn-is p.head c lt, by) b.leaves.refused (omega (arith, none, less)) ∙ past

  pub timed_out-full : times_out a ≡ true → is_past (content_of p) 0 ≡ true → is_full p.head (world_of p) (by_agent c a) ≡ true
  timed_out-full kind past =
      let b = timed_out-is p.head (world_of p) c a kind in
      let none = b.leaves.more in
      let less = b.less in
      full-is (content_of p) (Agent c) a 0 s.stands free (conn-is p.head c lt, by) b.leaves.refused (omega (arith, none, less)) ∙ past

-- a fault that is passed on by `?` is the one that the call gave
pub fault-was : {A B : Type 0} (made : Result A StepFault) (result : Result B StepFault) (x y : StepFault) → made ≡ Err x
    → IsErrAnd result (λ e. e ≡ x) → result ≡ Err y → made ≡ Err y
fault-was {A} {B} made result x y is h e =
    is ∙ ap (λ (f : StepFault). Err f) (sym (subst (λ (s : Result B StepFault). IsErrAnd s (λ z. z ≡ x)) e h))
