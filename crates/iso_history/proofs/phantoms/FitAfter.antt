-- Each entry keeps the modes that fit, and that dues are covered.
use Rattle.std.proofs.Common.{◌≡◌, Bool, true, false, refl, ap, sym, ◌∙◌, subst, Some, None, Option}
use Rattle.std.specs.List.{list_all}
use Rattle.std.specs.Option.{option_map, option_map_or}
use Rattle.iso_history.proofs.phantoms.Dues.{awaits-lock, escalated-covers, own-due}
use Rattle.iso_history.proofs.phantoms.Finds.{all-filter}
use Rattle.iso_history.proofs.phantoms.FitHolds.{fits-agent, hand-fits}
use Rattle.iso_history.proofs.phantoms.FitWaits.{JoiningFits, all-queued, fits_wait, joining-fits, request-queued, runs-alone, wait-queued_other, wait-queued_own, wait-unqueued}
use Rattle.iso_history.proofs.phantoms.Names.{conn_is, conn_turned}
use Rattle.iso_history.proofs.phantoms.OtherHolds.{hold-agent_other}
use Rattle.iso_history.specs.After.{after}
use Rattle.iso_history.specs.Gaps.{IsFit, is_plain}
use Rattle.iso_history.specs.Holds.{holds_by_agent}
use Rattle.iso_history.specs.Lasts.{due_by, last_by, last_of}
use Rattle.iso_history.specs.Legal.{Allowed, By, ByAgent, ByDispatcher, LockStands, Runs}
use Rattle.iso_history.specs.Phases.{victim}
use Rattle.iso_history.specs.Waits.{Joining, joining_of_agent, joining_of_dispatcher, waits_by}
use Rattle.iso_history.specs.Waits.Joining.{Joins, Passes, Quits}
use Rattle.iso_history.specs.World.{Last, World}
use Rattle.iso_history.specs.World.Last.{Awaits}
use Rattle.iso_history.specs.declared.entry.Act.{Act}
use Rattle.iso_history.specs.declared.entry.Act.TheVariants.{Expire, Lock, Look, Claim, Victim}
use Rattle.iso_history.specs.declared.entry.Entry.{Entry}
use Rattle.iso_history.specs.declared.entry.Got.{Got}
use Rattle.iso_history.specs.declared.entry.Who.{Who}
use Rattle.iso_history.specs.declared.entry.Who.TheVariants.{Agent, Dispatcher}
use Rattle.iso_history.specs.declared.entry.Why.{Why}
use Rattle.iso_history.specs.declared.entry.Why.TheVariants.{Asked, Blocked, Escalation}
use Rattle.iso_modes.specs.Modes.{covers, joined}
use Rattle.iso_modes.specs.declared.Mode.{Mode}
use Rattle.iso_modes.specs.declared.Mode.TheVariants.{S}
use Rattle.iso_modes.specs.declared.Term.{Term}
use Rattle.iso_modes.specs.declared.Term.TheVariants.{Kept}
use Rattle.iso_queue.specs.Locks.{Hold, hold_on, is_covered_on, target}
use Rattle.iso_queue.specs.Queues.{Wait, wait_of}
use Rattle.iso_types.specs.Ids.{conn_eq}
use Rattle.iso_types.specs.declared.head.Head.{Head}
use Rattle.iso_types.specs.declared.value.Conn.{Conn}
use Rattle.iso_types.specs.declared.value.Name.{Name}
use Rattle.iso_types.specs.declared.value.Name.TheVariants.{End, Key, Row, Table}
use Rattle.iso_types.specs.declared.value.TableId.{TableId}

-- what an escalation that queued awaits
covered-target : (head : Head) (w : World) (c : Conn) (t : TableId) (k : Mode) → covers k S ≡ true
    → ((g : Hold) → hold_on w.holds c (Table t) ≡ Some g → covers (joined g.mode k) S ≡ true) → covers (target w.holds c (Table t) k) S ≡ true
covered-target head w c t k new old = go (hold_on w.holds c (Table t)) refl
  where
    go : (o : Option Hold) → hold_on w.holds c (Table t) ≡ o → covers (target w.holds c (Table t) k) S ≡ true
    go None e = rw e new
    go (Some g) e = rw e (old g e)

awaited : (head : Head) (w : World) (c : Conn) (n : Name) (k : Mode) (term : Term) (why : Why) (got : Got) (q : Mode) (t : TableId) (x : Wait)
    → Runs w c → LockStands head w c n k term why got → why ≡ Escalation → got ≡ Got.Queued q → n ≡ Table t
    → wait_of (waits_by w (joining_of_agent w c (Lock n k term why got))) c ≡ Some x → (x.name ≡ Table t) × (covers x.target S ≡ true) × (x.term ≡ Kept)
awaited head w c (Table u) k term Escalation (Got.Queued p) q t x runs al y g n e =
    let s : Some (record { name = Table u; conn = c; target = p; term = term }) ≡ Some x =
    sym (wait-queued_own w.holds (record { name = Table u; conn = c; target = p; term = term }) w.waits (runs-alone w c runs.0)) ∙ e in
    let i : record { name = Table u; conn = c; target = p; term = term } ≡ x = cc in
    let f = escalated-covers head w c u k al.1.1 in
    let z : covers p S ≡ true = subst (λ (m : Mode). covers m S ≡ true) (sym (request-queued head w c (Table u) k p al.1.2))
    (covered-target head w c u k f.0 f.1) in
    (ap (λ (y : Wait). y.name) (sym i) ∙ n, subst (λ (y : Wait). covers y.target S ≡ true) i z, ap (λ (y : Wait). y.term) (sym i) ∙ al.0)
awaited head w c n k term Asked got q t x runs al y g m e = cc
awaited head w c n k term Blocked got q t x runs al y g m e = cc
awaited head w c n k term Escalation Got.Granted q t x runs al y g m e = cc
awaited head w c n k term Escalation Got.TimedOut q t x runs al y g m e = cc
awaited head w c (Row u r) k term Escalation got q t x runs al y g m e = cc
awaited head w c (Key i v) k term Escalation got q t x runs al y g m e = cc
awaited head w c (End i) k term Escalation got q t x runs al y g m e = cc

other_last : (l : Last) (t : TableId) (m : Mode) → l ≡ Last.Other → l ≡ Awaits t m → ⊥
other_last l t m e f = let z : Last.Other ≡ Awaits t m = sym e ∙ f in no z
  where
    no : Last.Other ≡ Awaits t m → ⊥
    no z = cc

looked_last : (u : TableId) (r : _) (t : TableId) (m : Mode) → Last.Looked u r ≡ Awaits t m → ⊥
looked_last u r t m e = cc

own-awaits : (head : Head) (w : World) (c : Conn) (a : Act) (t : TableId) (m : Mode) (x : Wait) → ByAgent head w c a → last_of a ≡ Awaits t m
    → wait_of (waits_by w (joining_of_agent w c a)) c ≡ Some x → (x.name ≡ Table t) × (covers x.target S ≡ true) × (x.term ≡ Kept)
own-awaits head w c (Lock n k term why got) t m x al l e =
    let y = awaits-lock why got n k t m l in awaited head w c n k term why got y.0 t x al.0 al.1 y.1 y.2 y.3 e
own-awaits head w c (Look u r want Got.Granted) t m x al l e = absurd (looked_last u r t m l)
own-awaits head w c (Look u r want (Got.Queued q)) t m x al l e = absurd (other_last Last.Other t m refl l)
own-awaits head w c (Look u r want Got.TimedOut) t m x al l e = absurd (other_last Last.Other t m refl l)
own-awaits head w c Claim t m x al l e = cc
own-awaits head w c _ t m x al l e = absurd (other_last Last.Other t m refl l)

-- a wait of a connection after an entry that is not its own was there before
abbrev pub JoinsOther : Conn → Joining → Type 0
JoinsOther c (Joins x) = conn_eq x.conn c ≡ false
JoinsOther c _ = Unit {0}

wait-before : (w : World) (c : Conn) (j : Joining) (x : Wait) → JoinsOther c j → wait_of (waits_by w j) c ≡ Some x → wait_of w.waits c ≡ Some x
wait-before w c Passes x f e = e
wait-before w c (Joins y) x f e = sym (wait-queued_other c w.holds y w.waits f) ∙ e
wait-before w c (Quits d) x f e = wait-unqueued c d w.waits x e

joins-other : (c d : Conn) (j : Joining) → conn_eq c d ≡ false → JoiningFits d j → JoinsOther c j
joins-other c d Passes ne f = tt
joins-other c d (Joins x) ne f = subst (λ (k : Conn). conn_eq k c ≡ false) (sym f.1) (conn_turned c d ne)
joins-other c d (Quits e) ne f = tt

-- the dispatcher queues nothing
dispatcher-joins : (w : World) (a : Act) (c : Conn) → JoinsOther c (joining_of_dispatcher w a) × JoiningFits c (joining_of_dispatcher w a)
dispatcher-joins w (Victim cycle) c = go (victim w cycle)
  where
    go : (o : Option Conn) → JoinsOther c (option_map_or Quits o Passes) × JoiningFits c (option_map_or Quits o Passes)
    go None = (tt, tt)
    go (Some d) = (tt, tt)
dispatcher-joins w (Expire line d true) c = (tt, tt)
dispatcher-joins w (Expire line d false) c = (tt, tt)
dispatcher-joins w _ c = (tt, tt)

waits-fit : (w : World) (d : Conn) (j : Joining) → JoiningFits d j → IsFit w → list_all fits_wait (waits_by w j) ≡ true
waits-fit w d Passes f fit = fit.waits
waits-fit w d (Joins x) f fit = all-queued fits_wait w.holds x w.waits f.0 fit.waits
waits-fit w d (Quits c) f fit = all-filter fits_wait _ w.waits fit.waits

-- what another connection's entry leaves covered
pub covered-other : (head : Head) (w : World) (c d : Conn) (a : Act) (t : TableId) → conn_eq c d ≡ false → is_covered_on w.holds c S t ≡ true
    → is_covered_on (holds_by_agent head w d a) c S t ≡ true
covered-other head w c d a t ne e =
    subst (λ (o : Option Hold). option_map_or (λ h. covers h S) (option_map (λ h. h.mode) o) false ≡ true) (sym (hold-agent_other head c d ne (Table t) w a)) e

module _ (head : Head) (w : World) (fit : IsFit w) where
  fit-agent : (c : Conn) (a : Act) → ByAgent head w c a → is_plain a ≡ true → IsFit (after head w (record { who = Agent c; act = a }))
  fit-agent c a al p = record {
    holds = fits-agent head w c a (hand-fits head w c a al p fit) fit.holds;
    waits = waits-fit w c (joining_of_agent w c a) (joining-fits head w c a al p fit) fit;
    dues = dues;
    awaits = awaits;
  }
    where
      dues : (d : Conn) (t : TableId) (m : Mode) → due_by w (Agent c) a d ≡ Some (t, m) → is_covered_on (holds_by_agent head w c a) d S t ≡ true
      dues d t m e = go (conn_eq d c) refl
        where
          go : (b : Bool) → conn_eq d c ≡ b → is_covered_on (holds_by_agent head w c a) d S t ≡ true
          go true f = subst (λ (k : Conn). is_covered_on (holds_by_agent head w c a) k S t ≡ true) (sym (conn_is d c f))
              (own-due head w c a t m al fit (rw f at e))
          go false f = covered-other head w d c a t f (fit.dues d t m (rw f at e))

      awaits : (d : Conn) (t : TableId) (m : Mode) (x : Wait) → last_by w.last (Agent c) a d ≡ Awaits t m
          → wait_of (waits_by w (joining_of_agent w c a)) d ≡ Some x
          → (x.name ≡ Table t) × (covers x.target S ≡ true) × (x.term ≡ Kept)
      awaits d t m x e g = go (conn_eq d c) refl
        where
          go : (b : Bool) → conn_eq d c ≡ b → (x.name ≡ Table t) × (covers x.target S ≡ true) × (x.term ≡ Kept)
          go true f = own-awaits head w c a t m x al (rw f at e)
              (subst (λ (k : Conn). wait_of (waits_by w (joining_of_agent w c a)) k ≡ Some x) (conn_is d c f) g)
          go false f = fit.awaits d t m x (rw f at e)
              (wait-before w d (joining_of_agent w c a) x (joins-other d c (joining_of_agent w c a) f (joining-fits head w c a al p fit)) g)

  fit-dispatcher : (a : Act) → ByDispatcher head w a → IsFit (after head w (record { who = Dispatcher; act = a }))
  fit-dispatcher a al = record {
    holds = fit.holds;
    waits = waits-fit w (record { 0 = 0 }) (joining_of_dispatcher w a) (dispatcher-joins w a (record { 0 = 0 })).1 fit;
    dues = fit.dues;
    awaits = λ d t m x e g. fit.awaits d t m x e (wait-before w d (joining_of_dispatcher w a) x (dispatcher-joins w a d).0 g);
  }

-- each allowed entry keeps them, but a Lock on a key name alone
pub fit-after : (head : Head) (w : World) (e : Entry) → Allowed head w e → is_plain e.act ≡ true → IsFit w → IsFit (after head w e)
fit-after head w e al p fit = go e.who al.2
  where
    go : (who : Who) → By head w who e.act → IsFit (after head w (record { who = who; act = e.act }))
    go Dispatcher a = fit-dispatcher head w fit e.act a
    go (Agent c) a = fit-agent head w fit c e.act a.1 p
