-- What keeps a statement open, and that its end answers it.
use Rattle.std.proofs.Common.{◌≡◌, ℕ, Bool, true, false, ◌&&◌, ◌||◌, List, [], ◌∷◌, refl, sym, ap, ◌∙◌, subst, Option, Some, arith, if◌then◌else◌}
use Rattle.std.specs.Prelude.{find, is_none, is_some}
use Rattle.std.proofs.lemmas.Bool.{eq-eqb, eqb-true}
use Rattle.std.proofs.lemmas.Bool.Decides.{nat_tests}
use Rattle.iso_conduct.specs.Conduct.{ends, is_by}
use Rattle.iso_conduct.specs.Whole.{answers, is_answered}
use Rattle.iso_history.specs.After.{after, world_from}
use Rattle.iso_history.specs.Legal.{Allowed, By, GroundFrom}
use Rattle.iso_history.specs.Lines.{Stage, line_by, stage_of}
use Rattle.iso_history.specs.Lines.Stage.{Goes, Opens, Shuts}
use Rattle.iso_history.specs.Paces.{is_stop}
use Rattle.iso_history.specs.Phases.{closing_by, ended_by, is_phase, phase, phase_of}
use Rattle.iso_history.specs.World.{World}
use Rattle.iso_history.specs.declared.entry.Act.{Act}
use Rattle.iso_history.specs.declared.entry.Entry.{Entry}
use Rattle.iso_history.specs.declared.entry.Who.{Who}
use Rattle.iso_history.specs.declared.entry.Who.TheVariants.{Agent, Dispatcher}
use Rattle.iso_types.specs.Head.{conns}
use Rattle.iso_types.specs.Ids.{conn_eq}
use Rattle.iso_types.specs.declared.desk.Phase.{Phase}
use Rattle.iso_types.specs.declared.desk.Phase.TheVariants.{Closing, Idle, Rolling, Running}
use Rattle.iso_types.specs.declared.head.Head.{Head}
use Rattle.iso_types.specs.declared.value.Conn.{Conn}

-- ---- connections and tests

abbrev place : ℕ → Conn
place x = record { 0 = x }

pub eq-is : (c d : Conn) → conn_eq c d ≡ true → c ≡ d
eq-is c d e = ap place (eqb-true c.0 d.0 e)

pub eq-turned : (c d : Conn) → conn_eq c d ≡ false → conn_eq d c ≡ false
eq-turned c d e = grind (arith, nat_tests)

pub eq-same : (c : Conn) → conn_eq c c ≡ true
eq-same c = eq-eqb c.0 c.0 refl

and-first : (b : Bool) → (b && true) ≡ false → b ≡ false
and-first true h = h
and-first false h = refl

and-never : (b : Bool) → (b && false) ≡ true → ⊥
and-never true h = cc
and-never false h = cc

and-one : (a b : Bool) → (a && b) ≡ true → a ≡ true
and-one true b h = refl
and-one false b h = h

or-both : (a b : Bool) → (a || b) ≡ false → (a ≡ false) × (b ≡ false)
or-both true b h = absurd (cc)
or-both false b h = (refl, h)

-- what is found passes the test
pub found-passes : {A : Type 0} (p : A → Bool) (xs : List A) (x : A) → find p xs ≡ Some x → p x ≡ true
found-passes p [] x h = absurd (cc)
found-passes p (y ∷ ys) x h = go (p y) refl h (λ k. found-passes p ys x k)
  where
    go : (b : Bool) → p y ≡ b → (if b then Some y else find p ys) ≡ Some x → (find p ys ≡ Some x → p x ≡ true) → p x ≡ true
    go true is k later = let q : y ≡ x = cc in subst (λ z. p z ≡ true) q is
    go false is k later = later k

-- ---- phases

-- an idle connection has no open statement, and neither closes nor has ended
pub idle-by : (e k d t s : Bool) → phase_of e k d t s ≡ Idle → (e ≡ false) × (k ≡ false) × (s ≡ true)
idle-by true k d t s h = absurd (cc)
idle-by false true d t s h = absurd (cc)
idle-by false false true t s h = absurd (cc)
idle-by false false false true s h = absurd (cc)
idle-by false false false false true h = (refl, refl, refl)
idle-by false false false false false h = absurd (cc)

closing-by : (e k d t s : Bool) → phase_of e k d t s ≡ Closing → k ≡ true
closing-by true k d t s h = absurd (cc)
closing-by false true d t s h = refl
closing-by false false true t s h = absurd (cc)
closing-by false false false true s h = absurd (cc)
closing-by false false false false true h = absurd (cc)
closing-by false false false false false h = absurd (cc)

-- the test of a phase
pub is-idle : (p : Phase) → is_phase p Idle ≡ true → p ≡ Idle
is-idle Idle h = refl
is-idle Running h = absurd (cc)
is-idle Phase.Waiting h = absurd (cc)
is-idle Rolling h = absurd (cc)
is-idle Closing h = absurd (cc)
is-idle Phase.Ended h = absurd (cc)

-- ---- an open statement

-- the connection has an open statement, and neither closes nor has ended
pub record IsOpen (w : World) (c : Conn) : Type 0 where
  pub line : is_none (w.line c) ≡ false
  pub closing : w.closing c ≡ false
  pub ended : w.ended c ≡ false

-- an idle connection has none
not-idle : (w : World) (c d : Conn) → IsOpen w c → conn_eq c d ≡ true → phase w d ≡ Idle → ⊥
not-idle w c d o e h =
    let q : is_none (w.line d) ≡ true = (idle-by (w.ended d) (w.closing d) (is_some (w.doom d)) _ (is_none (w.line d)) h).2 in
    let l : is_none (w.line d) ≡ false = subst (λ x. is_none (w.line x) ≡ false) (eq-is c d e) o.line in
    cc

-- the stage shuts the connection's statement
abbrev shuts : Conn → Stage → Bool
shuts c (Shuts d) = conn_eq d c
shuts c _ = false

line-by-stage : (f : Conn → Option ℕ) (c : Conn) (s : Stage) → is_none (f c) ≡ false → shuts c s ≡ false → is_none (line_by f s c) ≡ false
line-by-stage f c Goes h n = h
line-by-stage f c (Opens d line) h n = go (conn_eq c d)
  where
    go : (b : Bool) → is_none (if b then Some line else f c) ≡ false
    go true = refl
    go false = h
line-by-stage f c (Shuts d) h n = rw (eq-turned d c n) h

-- an entry that does not end the connection's statement does not shut it
unshut : (c : Conn) (who : Who) (a : Act) → (is_by c who && ends a) ≡ false → shuts c (stage_of who a) ≡ false
unshut c Dispatcher (Act.Dispatch line d) h = refl
unshut c Dispatcher _ h = refl
unshut c (Agent d) (Act.Reply code changed rows) h = and-first (conn_eq d c) h
unshut c (Agent d) Act.Commit h = and-first (conn_eq d c) h
unshut c (Agent d) (Act.Rollback code reason) h = and-first (conn_eq d c) h
unshut c (Agent d) Act.Ended h = and-first (conn_eq d c) h
unshut c (Agent d) _ h = refl

module _ (head : Head) (w : World) (c : Conn) (o : IsOpen w c) where
  closing-kept : (who : Who) (a : Act) → By head w who a → (is_by c who && ends a) ≡ false → closing_by w.closing who a c ≡ false
  closing-kept Dispatcher (Act.Close d) b h = go (conn_eq c d) refl
    where
      idle : phase w d ≡ Idle
      idle = is-idle (phase w d) (found-passes (λ x. is_phase (phase w x) Idle) (conns head) d b.1)

      go : (t : Bool) → conn_eq c d ≡ t → (if t then true else w.closing c) ≡ false
      go true e = absurd (not-idle w c d o e idle)
      go false e = o.closing
  closing-kept Dispatcher _ b h = o.closing
  closing-kept (Agent d) (Act.Stopped cause) b h = rw (eq-turned d c (and-first (conn_eq d c) h)) o.closing
  closing-kept (Agent d) _ b h = o.closing

  ended-kept : (who : Who) (a : Act) → (is_by c who && ends a) ≡ false → ended_by w.ended who a c ≡ false
  ended-kept Dispatcher a h = o.ended
  ended-kept (Agent d) Act.Ended h = rw (eq-turned d c (and-first (conn_eq d c) h)) o.ended
  ended-kept (Agent d) _ h = o.ended

  -- an entry that does not end the statement leaves it open
  pub open-kept : (e : Entry) → Allowed head w e → (is_by c e.who && ends e.act) ≡ false → IsOpen (after head w e) c
  open-kept e a h = record {
    line = line-by-stage w.line c (stage_of e.who e.act) o.line (unshut c e.who e.act h);
    closing = closing-kept e.who e.act a.2 h;
    ended = ended-kept e.who e.act h;
  }

  -- the entry that ends it is its answer, where nobody stops
  answered-by : (who : Who) (a : Act) → By head w who a → (is_by c who && ends a) ≡ true → is_stop a ≡ false → answers a ≡ true
  answered-by Dispatcher a b h s = absurd (cc)
  answered-by (Agent d) (Act.Reply code changed rows) b h s = refl
  answered-by (Agent d) Act.Commit b h s = refl
  answered-by (Agent d) (Act.Rollback code reason) b h s = refl
  answered-by (Agent d) Act.Ended b h s =
      let k : w.closing d ≡ true = closing-by (w.ended d) (w.closing d) (is_some (w.doom d)) _ (is_none (w.line d)) b.1.0 in
      let q : w.closing c ≡ true = subst (λ x. w.closing x ≡ true) (eq-is d c (and-one (conn_eq d c) true h)) k in
      let r : w.closing c ≡ false = o.closing in
      absurd (cc)
  answered-by (Agent d) (Act.Stopped cause) b h s = absurd (cc)
  answered-by (Agent d) _ b h s = absurd (and-never (conn_eq d c) h)

-- ---- no Stopped

-- a Stopped stays
stopped-by : (head : Head) (w : World) (e : Entry) → (after head w e).pace.stopped ≡ (is_stop e.act || w.pace.stopped)
stopped-by head w e = go e.who e.act
  where
    go : (who : Who) (a : Act) → (after head w (record { who = who; act = a })).pace.stopped ≡ (is_stop a || w.pace.stopped)
    go Dispatcher a = refl
    go (Agent d) a = refl

-- where none stands at the end, none stands before
pub unstopped : (head : Head) (w : World) (es : List Entry) → (world_from head w es).pace.stopped ≡ false → w.pace.stopped ≡ false
unfolding world_from
unstopped head w [] h = h
unstopped head w (e ∷ es) h =
    (or-both (is_stop e.act) w.pace.stopped (sym (stopped-by head w e) ∙ unstopped head (after head w e) es h)).1

-- the entry itself is none
pub no-stop : (head : Head) (w : World) (e : Entry) (es : List Entry) → (world_from head (after head w e) es).pace.stopped ≡ false
    → is_stop e.act ≡ false
no-stop head w e es h = (or-both (is_stop e.act) w.pace.stopped (sym (stopped-by head w e) ∙ unstopped head (after head w e) es h)).0

-- ---- the answer

-- an open statement is answered before its connection has ended, where nobody stops
pub answered : (head : Head) (w : World) (c : Conn) (es : List Entry) → IsOpen w c → GroundFrom head w es
    → (world_from head w es).ended c ≡ true → (world_from head w es).pace.stopped ≡ false → is_answered c es ≡ true
unfolding GroundFrom world_from
answered head w c [] o g end still = let q : w.ended c ≡ false = o.ended in absurd (cc)
answered head w c (e ∷ es) o g end still =
    go (is_by c e.who && ends e.act) refl (λ k. answered head (after head w e) c es (open-kept head w c o e g.0 k) g.1 end still)
  where
    go : (b : Bool) → (is_by c e.who && ends e.act) ≡ b → (b ≡ false → is_answered c es ≡ true)
        → (if b then answers e.act else is_answered c es) ≡ true
    go true is later = answered-by head w c o e.who e.act g.0.2 is (no-stop head w e es still)
    go false is later = later refl
