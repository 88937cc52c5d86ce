-- Who has an edge waits, and nobody has one to itself: so a cycle has two members that wait at least.
use Rattle.std.proofs.Common.{◌≡◌, ◌≤◌, ◌∙◌, inl, inr, Bool, true, false, not, ◌&&◌, ◌||◌, List, [], ◌∷◌, filter, length, map, refl, sym, ap, subst, arith, take_while, Option, Some, None, MatchOption}
use Rattle.std.specs.List.{list_all, list_any}
use Rattle.std.specs.Option.{option_map_or}
use Rattle.std.specs.Prelude.{is_none, is_some, nat_lt}
use Rattle.std.proofs.lemmas.Bool.{and_from, and_parts, both_ways, cases_Bool, lt-ltb, not-true}
use Rattle.iso_history.proofs.limits.Courses.{find-passes}
use Rattle.iso_history.proofs.limits.Waiting.{conn_eq-is, conn_eq-sym}
use Rattle.iso_history.specs.Phases.{is_active, is_phase, phase}
use Rattle.iso_history.specs.Quiet.{cycle_in, edges_in, is_busy, is_quiet, is_resting, waits_stuck}
use Rattle.iso_history.specs.World.{World}
use Rattle.iso_locklist.proofs.Waits.{pass, stop}
use Rattle.iso_queue.specs.Locks.{Hold}
use Rattle.iso_queue.specs.Queues.{Wait, ahead, blockers, edges, is_stuck, is_waiting, opposes, wait_of}
use Rattle.iso_state.proofs.FactsAlong.{within-of}
use Rattle.iso_state.specs.Stands.{StandsFor, world_of}
use Rattle.iso_state.specs.declared.parts.Parts.{Parts}
use Rattle.iso_types.specs.Cycles.{AreDifferent, HasNoCycle, IsChosen, IsCycle, is_among, is_on_cycle}
use Rattle.iso_types.specs.Head.{conns}
use Rattle.iso_types.specs.Ids.{conn_eq, name_eq}
use Rattle.iso_types.specs.declared.desk.Phase.{Phase}
use Rattle.iso_types.specs.declared.head.Head.{Head}
use Rattle.iso_types.specs.declared.value.Conn.{Conn}
use Rattle.iso_waitgraph.proofs.Agree.{chosen, on-cycle}
use Rattle.iso_waitgraph.proofs.Members.{among-append, different-short, or-neither}
use Rattle.iso_waitgraph.proofs.Paths.{cycle-out}
use Rattle.iso_pace.proofs.Graphs.{Lack, among-kept, among-passes, lack-any, lack-filter}
use Rattle.iso_pace.proofs.Victims.{edge_in, targets-in}
use Rattle.iso_pace.specs.Waiters.{waiters}

-- ---- who has an edge waits

edge-waits : (all : List Conn) (holds : List Hold) (waits : List Wait) (c d : Conn) → is_among d (edges all holds waits c) ≡ true → is_waiting waits c ≡ true
edge-waits all holds waits c d on = go (wait_of waits c) on
  where
    go : (o : Option Wait) → is_among d (option_map_or (λ x. filter (λ e. list_any (conn_eq e) (blockers holds waits x)) all) o []) ≡ true → is_some o ≡ true
    go None h = absurd (both_ways false refl h)
    go (Some x) h = refl

edge-phase : (p : Parts) → StandsFor p → (c d : Conn) → is_among d (edges_in p.head (world_of p) c) ≡ true
    → is_phase (phase (world_of p) c) Phase.Waiting ≡ true
edge-phase p s c d on =
    let w = world_of p in
    let is : phase w c ≡ Phase.Waiting = (((within-of s.stands).course.each c).waits (edge-waits (conns p.head) w.holds w.waits c d on)).0 in
    ap (λ (x : Phase). is_phase x Phase.Waiting) is

-- who does not wait has none
pub no-edge : (p : Parts) → StandsFor p → (c d : Conn) → is_phase (phase (world_of p) c) Phase.Waiting ≡ false
    → is_among d (edges_in p.head (world_of p) c) ≡ false
no-edge p s c d still = elim (cases_Bool (is_among d (edges_in p.head (world_of p) c))) [
  | inl t ↦ absurd (both_ways _ still (edge-phase p s c d t))
  | inr f ↦ f
]

-- ---- nobody has an edge to itself

lack-kept : {A : Type 0} (f : A → Conn) (d : Conn) (p : A → Bool) → ((x : A) → p x ≡ true → conn_eq d (f x) ≡ false) → (xs : List A) → Lack f d (filter p xs)
lack-kept f d p out [] = tt
lack-kept f d p out (x ∷ xs) = go (lack-kept f d p out xs) (p x) refl
  where
    go : Lack f d (filter p xs) → (b : Bool) → p x ≡ b → Lack f d (filter p (x ∷ xs))
    go ih true e = rw e (out x e, ih)
    go ih false e = rw e ih

lack-before : {A : Type 0} (f : A → Conn) (d : Conn) (p : A → Bool) → ((x : A) → p x ≡ true → conn_eq d (f x) ≡ false) → (xs : List A) → Lack f d (take_while p xs)
lack-before f d p out [] = tt
lack-before f d p out (x ∷ xs) = go (lack-before f d p out xs) (p x) refl
  where
    go : Lack f d (take_while p xs) → (b : Bool) → p x ≡ b → Lack f d (take_while p (x ∷ xs))
    go ih true e = subst (Lack f d) (sym (pass p x xs e)) (out x e, ih)
    go ih false e = subst (Lack f d) (sym (stop p x xs e)) tt

opposed-other : (x : Wait) (h : Hold) → opposes x h ≡ true → conn_eq x.conn h.conn ≡ false
unfolding opposes
opposed-other x h on = conn_eq-sym x.conn h.conn ∙ not-true (conn_eq h.conn x.conn) (and_parts _ _ on).0

blocked-other : (holds : List Hold) (waits : List Wait) (x : Wait) → is_among x.conn (blockers holds waits x) ≡ false
blocked-other holds waits x =
    among-append x.conn (map (λ (h : Hold). h.conn) (filter (opposes x) holds)) (map (λ (y : Wait). y.conn) (ahead waits x))
    ∙ or-neither _ _ (lack-any (λ (h : Hold). h.conn) x.conn (filter (opposes x) holds) (lack-kept (λ (h : Hold). h.conn) x.conn (opposes x) (opposed-other x) holds))
    (lack-any (λ (y : Wait). y.conn) x.conn (ahead waits x)
    (lack-filter (λ (y : Wait). y.conn) x.conn (λ y. name_eq y.name x.name) (take_while (λ y. not (conn_eq y.conn x.conn)) waits)
    (lack-before (λ (y : Wait). y.conn) x.conn (λ y. not (conn_eq y.conn x.conn)) (λ y e. conn_eq-sym x.conn y.conn ∙ not-true (conn_eq y.conn x.conn) e) waits)))

own-edge : (all : List Conn) (holds : List Hold) (waits : List Wait) (c : Conn) → is_among c (edges all holds waits c) ≡ true → ⊥
own-edge all holds waits c on = go (wait_of waits c) refl on
  where
    go : (o : Option Wait) → wait_of waits c ≡ o → is_among c (option_map_or (λ x. filter (λ e. list_any (conn_eq e) (blockers holds waits x)) all) o []) ≡ true → ⊥
    go None e h = both_ways false refl h
    go (Some x) e h =
        let own : x.conn ≡ c = conn_eq-is x.conn c (find-passes (λ (y : Wait). conn_eq y.conn c) waits x e) in
        let there : is_among c (blockers holds waits x) ≡ true = (among-passes (λ e. list_any (conn_eq e) (blockers holds waits x)) c all h).1 in
        both_ways (is_among c (blockers holds waits x)) (subst (λ (z : Conn). is_among z (blockers holds waits x) ≡ false) own (blocked-other holds waits x)) there

-- ---- so a cycle is at least two long, and its members wait

cycle-long : (edge : Conn → Conn → Bool) (q : List Conn) → ((c : Conn) → edge c c ≡ true → ⊥) → IsCycle edge q → 2 ≤ length q
cycle-long edge [] none g = absurd g
cycle-long edge (c ∷ []) none g = absurd (none c g.1)
cycle-long edge (c ∷ d ∷ ds) none g = omega arith

cycle-different : (edge : Conn → Conn → Bool) (q : List Conn) → IsCycle edge q → AreDifferent q
cycle-different edge [] g = tt
cycle-different edge (c ∷ cs) g = g.0

-- what is no cycle is none that is chosen, and nobody is on one
pub none-chosen : (head : Head) (w : World) → HasNoCycle (edge_in head w) → cycle_in head w ≡ None
none-chosen head w none = go (cycle_in head w) (chosen (edge_in head w) (edges_in head w) (conns head) (targets-in head w))
  where
    go : (o : Option (List Conn)) → MatchOption o (HasNoCycle (edge_in head w)) (IsChosen (edge_in head w)) → o ≡ None
    go None h = refl
    go (Some q) h = absurd (none q h.2.cycle)

pub none-on : (head : Head) (w : World) → HasNoCycle (edge_in head w) → (c : Conn) → is_on_cycle (edges_in head w) (conns head) c ≡ false
none-on head w none c = elim (cases_Bool (is_on_cycle (edges_in head w) (conns head) c)) [
  | inl t ↦
      let on : (q : List Conn) × IsCycle (edge_in head w) q × (is_among c q ≡ true) = (on-cycle (edge_in head w) (edges_in head w) (conns head) (targets-in head w) c).0 t in
      absurd (none on.0 on.1)
  | inr f ↦ f
]

module _ (p : Parts) (s : StandsFor p) where
  member-waits : (q : List Conn) (c : Conn) → IsCycle (edge_in p.head (world_of p)) q → is_among c q ≡ true → is_among c (waiters p.head (world_of p)) ≡ true
  member-waits q c g on =
      let w = world_of p in
      let out : (d : Conn) × (edge_in p.head w c d ≡ true) = cycle-out (edge_in p.head w) q c g on in
      let edge : (is_among c (conns p.head) ≡ true) × (is_among out.0 (edges_in p.head w c) ≡ true) = and_parts _ _ out.1 in
      among-kept (λ d. is_phase (phase w d) Phase.Waiting) c (conns p.head) edge.0 (edge-phase p s c out.0 edge.1)

  -- where fewer than two wait there is none
  pub few-none : nat_lt 1 (length (waiters p.head (world_of p))) ≡ false → HasNoCycle (edge_in p.head (world_of p))
  few-none few q g =
      let w = world_of p in
      let long : 2 ≤ length q = cycle-long (edge_in p.head w) q (λ c e. no-own w c e) g in
      let short : length q ≤ length (waiters p.head w) =
      different-short q (waiters p.head w) (cycle-different (edge_in p.head w) q g) (λ c on. member-waits q c g on) in
      both_ways (nat_lt 1 (length (waiters p.head w))) few (lt-ltb 1 (length (waiters p.head w)) (omega (arith, long, short)))
    where
      no-own : (w : World) (c : Conn) → edge_in p.head w c c ≡ true → ⊥
      no-own w c e = own-edge (conns p.head) w.holds w.waits c (and_parts (is_among c (conns p.head)) (is_among c (edges_in p.head w c)) e).1

-- ---- in quiet nobody is on a cycle

-- where none is chosen there is none
pub without-cycle : (head : Head) (w : World) → cycle_in head w ≡ None → HasNoCycle (edge_in head w)
without-cycle head w e =
    let h : MatchOption (cycle_in head w) (HasNoCycle (edge_in head w)) (IsChosen (edge_in head w)) =
    chosen (edge_in head w) (edges_in head w) (conns head) (targets-in head w) in
    subst (λ (o : Option (List Conn)). MatchOption o (HasNoCycle (edge_in head w)) (IsChosen (edge_in head w))) e h

pub quiet-cycleless : (head : Head) (w : World) → is_quiet head w ≡ true → HasNoCycle (edge_in head w)
quiet-cycleless head w quiet = without-cycle head w (none-is (cycle_in head w) (and_parts (list_all (is_resting w) (conns head)) (is_none (cycle_in head w)) quiet).1)
  where
    none-is : (o : Option (List Conn)) → is_none o ≡ true → o ≡ None
    none-is None e = refl
    none-is (Some q) e = absurd (both_ways false refl e)

-- so who waits with an edge waits outside every deadlock
pub quiet-busy : (head : Head) (w : World) (c : Conn) → is_quiet head w ≡ true → is_busy head w c ≡ waits_stuck w c
quiet-busy head w c quiet = off (waits_stuck w c) (is_on_cycle (edges_in head w) (conns head) c) (none-on head w (quiet-cycleless head w quiet) c)
  where
    off : (a b : Bool) → b ≡ false → (a && not b) ≡ a
    off true b e = rw e refl
    off false b e = refl

-- ---- who acts does not rest

resting-still : (w : World) (c : Conn) → is_resting w c ≡ true → not (is_active w c) ≡ true
resting-still w c h = go (phase w c) (is_stuck w.holds w.waits c) h
  where
    go : (x : Phase) (b : Bool) → (is_phase x Phase.Idle || is_phase x Phase.Ended || (is_phase x Phase.Waiting && b)) ≡ true
        → not (is_phase x Phase.Running || is_phase x Phase.Rolling || is_phase x Phase.Closing) ≡ true
    go Phase.Idle b h = refl
    go Phase.Running b h = h
    go Phase.Waiting b h = refl
    go Phase.Rolling b h = h
    go Phase.Closing b h = h
    go Phase.Ended b h = refl

all-still : (w : World) (cs : List Conn) → list_all (is_resting w) cs ≡ true → list_all (λ c. not (is_active w c)) cs ≡ true
all-still w [] h = refl
all-still w (c ∷ cs) h =
    let t : (is_resting w c ≡ true) × (list_all (is_resting w) cs ≡ true) = and_parts (is_resting w c) (list_all (is_resting w) cs) h in
    and_from (not (is_active w c)) (list_all (λ d. not (is_active w d)) cs) (resting-still w c t.0) (all-still w cs t.1)

pub acting-unquiet : (head : Head) (w : World) → list_all (λ c. not (is_active w c)) (conns head) ≡ false → is_quiet head w ≡ false
acting-unquiet head w h = elim (cases_Bool (is_quiet head w)) [
  | inl t ↦ absurd (both_ways (list_all (λ c. not (is_active w c)) (conns head)) h
      (all-still w (conns head) (and_parts (list_all (is_resting w) (conns head)) (is_none (cycle_in head w)) t).0))
  | inr f ↦ f
]
