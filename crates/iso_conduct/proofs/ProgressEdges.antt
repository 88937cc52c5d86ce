-- The edges of a history, as targets of a test; and that who waits with an edge has one to a connection of the head that has not ended.
use Rattle.std.proofs.Common.{◌≡◌, ℕ, zero, suc, ◌+◌, ◌<◌, ◌≤◌, inl, inr, Bool, true, false, not, ◌&&◌, ◌||◌, List, [], ◌∷◌, ◌++◌, map, length, filter, refl, sym, ◌∙◌, ap, subst, arith, Option, Some, None}
use Rattle.std.specs.List.{AllByRecursion, list_any, prefix_len, range_with_len}
use Rattle.std.specs.Option.{option_map_or}
use Rattle.std.proofs.lemmas.Bool.{both_ways, cases_eq, lt-ltb, ltb-true, or_cases}
use Rattle.iso_conduct.proofs.ProgressHolders.{AreLive, IsLive, all-filter, all-take}
use Rattle.iso_history.specs.World.{World}
use Rattle.iso_queue.specs.Locks.{Hold}
use Rattle.iso_queue.specs.Queues.{Wait, ahead, blockers, edges, has_edge, opposes, wait_of}
use Rattle.iso_types.specs.Cycles.{is_among}
use Rattle.iso_types.specs.Edges.{leads}
use Rattle.iso_types.specs.Head.{conns, is_conn}
use Rattle.iso_types.specs.Ids.{conn_eq, name_eq}
use Rattle.iso_types.specs.declared.edges.Edges.{Edges}
use Rattle.iso_types.specs.declared.head.Head.{Head}
use Rattle.iso_types.specs.declared.value.Conn.{Conn}
use Rattle.iso_waitgraph.proofs.Chosen.{same-tests}
use Rattle.iso_waitgraph.proofs.Members.{among-cases, among-first, among-rest}
use Rattle.iso_waitgraph.proofs.Sets.{or-right}
use Rattle.iso_waitgraph.proofs.Ways.{conn-is}
use Rattle.iso_waitgraph.specs.Targets.{AreRising, AreTargets}

-- ---- the head's connections

abbrev place : ℕ → Conn
place k = record { 0 = k }

range-past : (d : Conn) (i n : ℕ) → is_among d (map place (range_with_len i n)) ≡ true → (i ≤ d.0) × (d.0 < i + n)
range-past d i zero h = absurd (both_ways false refl h)
range-past d i (suc n) h = elim (among-cases d (place i) (map place (range_with_len (i + 1) n)) h) [
  | inl e ↦ let same : d.0 ≡ i = ap (λ (z : Conn). z.0) e in (omega arith, omega arith)
  | inr r ↦ let t : (i + 1 ≤ d.0) × (d.0 < i + 1 + n) = range-past d (i + 1) n r in (omega (arith, t.0), omega (arith, t.1))
]

range-has : (d : Conn) (i n : ℕ) → i ≤ d.0 → d.0 < i + n → is_among d (map place (range_with_len i n)) ≡ true
range-has d i zero l g = absurd (omega arith)
range-has d i (suc n) l g = elim (cases_eq d.0 i) [
  | inl e ↦ let P : Conn → Type 0 = λ z. is_among z (place i ∷ map place (range_with_len (i + 1) n)) ≡ true in
      subst P (sym (conn-is d (place i) e)) (among-first (place i) (map place (range_with_len (i + 1) n)))
  | inr n2 ↦ among-rest d (place i) (map place (range_with_len (i + 1) n)) (range-has d (i + 1) n (omega arith) (omega arith))
]

range-rising : (i n : ℕ) → AreRising (map place (range_with_len i n))
range-rising i zero = tt
range-rising i (suc n) = (λ d on. let t : (i + 1 ≤ d.0) × (d.0 < i + 1 + n) = range-past d (i + 1) n on in omega (arith, t.0), range-rising (i + 1) n)

pub among-conns : (head : Head) (c : Conn) → is_conn head c ≡ true → is_among c (conns head) ≡ true
among-conns head c known =
    let l : c.0 < length head.conns = ltb-true c.0 (length head.conns) known in
    range-has c 0 (length head.conns) (omega arith) (omega arith)

pub conns-among : (head : Head) (c : Conn) → is_among c (conns head) ≡ true → is_conn head c ≡ true
conns-among head c on =
    let t : (0 ≤ c.0) × (c.0 < 0 + length head.conns) = range-past c 0 (length head.conns) on in
    lt-ltb c.0 (length head.conns) (omega (arith, t.1))

-- ---- edges

filter-none : {A : Type 0} (xs : List A) → filter (λ x. false) xs ≡ []
filter-none [] = refl
filter-none (x ∷ xs) = filter-none xs

-- a test that says what the edges of a history say, each connection of the head's
pub history-targets : (head : Head) (holds : List Hold) (waits : List Wait) (edge : Conn → Conn → Bool)
    → ((c d : Conn) → edge c d ≡ (is_among c (conns head) && is_among d (edges (conns head) holds waits c)))
    → AreTargets edge (edges (conns head) holds waits) (conns head)
history-targets head holds waits edge same = record { rising = range-rising 0 (length head.conns); some_of = some; same = same } where
  some : (c : Conn) → (p : Conn → Bool) × (edges (conns head) holds waits c ≡ filter p (conns head))
  some c = go (wait_of waits c) where
    go : (o : Option Wait) → (p : Conn → Bool)
        × (option_map_or (λ x. filter (λ d. list_any (conn_eq d) (blockers holds waits x)) (conns head)) o [] ≡ filter p (conns head))
    go None = (λ d. false, sym (filter-none (conns head)))
    go (Some x) = (λ d. list_any (conn_eq d) (blockers holds waits x), refl)

pub among-kept : (p : Conn → Bool) (c : Conn) (cs : List Conn) → is_among c cs ≡ true → p c ≡ true → is_among c (filter p cs) ≡ true
among-kept p c [] on pass = on
among-kept p c (d ∷ ds) on pass = decide (λ r. among-kept p c ds r pass) (p d) refl where
  decide : (is_among c ds ≡ true → is_among c (filter p ds) ≡ true) → (b : Bool) → p d ≡ b → is_among c (filter p (d ∷ ds)) ≡ true
  decide ih true e = elim (among-cases c d ds on) [
    | inl s ↦ rw e (let P : Conn → Type 0 = λ z. is_among z (d ∷ filter p ds) ≡ true in subst P (sym s) (among-first d (filter p ds)))
    | inr r ↦ rw e (among-rest c d (filter p ds) (ih r))
  ]
  decide ih false e = elim (among-cases c d ds on) [
    | inl s ↦ let P : Conn → Type 0 = λ z. p z ≡ true in absurd (both_ways (p d) e (subst P s pass))
    | inr r ↦ rw e (ih r)
  ]

pub among-passes : (p : Conn → Bool) (c : Conn) (cs : List Conn) → is_among c (filter p cs) ≡ true → (is_among c cs ≡ true) × (p c ≡ true)
among-passes p c [] on = absurd (both_ways false refl on)
among-passes p c (d ∷ ds) on = decide (among-passes p c ds) (p d) refl where
  decide : (is_among c (filter p ds) ≡ true → (is_among c ds ≡ true) × (p c ≡ true)) → (b : Bool) → p d ≡ b → (is_among c (d ∷ ds) ≡ true) × (p c ≡ true)
  decide ih true e = elim (among-cases c d (filter p ds) (rw e at on)) [
    | inl s ↦
        let P : Conn → Type 0 = λ z. (is_among z (d ∷ ds) ≡ true) × (p z ≡ true) in
        subst P (sym s) (among-first d ds, e)
    | inr r ↦ let t : (is_among c ds ≡ true) × (p c ≡ true) = ih r in (among-rest c d ds t.0, t.1)
  ]
  decide ih false e = let t : (is_among c ds ≡ true) × (p c ≡ true) = ih (rw e at on) in (among-rest c d ds t.0, t.1)

-- whether a connection is the head's
among-test : (head : Head) (c : Conn) → is_among c (conns head) ≡ is_conn head c
among-test head c = same-tests (is_among c (conns head)) (is_conn head c) (λ h. h, λ h. h) (λ h. among-conns head c h, λ h. conns-among head c h)

-- so where sets of edges, a bit a connection, say what the edges of a history say, the chosen cycle of the sets is that of the history
pub sets-targets : (head : Head) (holds : List Hold) (waits : List Wait) (sets : List Edges)
    → ((c d : Conn) → leads sets c d ≡ (is_conn head c && is_among d (edges (conns head) holds waits c)))
    → AreTargets (leads sets) (edges (conns head) holds waits) (conns head)
sets-targets head holds waits sets same =
    history-targets head holds waits (leads sets)
    (λ c d. same c d ∙ ap (λ (b : Bool). b && is_among d (edges (conns head) holds waits c)) (sym (among-test head c)))

-- ---- a wait with an edge has one to a live connection

any-left : {A : Type 0} (p : A → Bool) (xs ys : List A) → list_any p xs ≡ true → list_any p (xs ++ ys) ≡ true
any-left p [] ys h = absurd (both_ways false refl h)
any-left p (x ∷ xs) ys h = decide (any-left p xs ys) (p x) refl h where
  decide : (list_any p xs ≡ true → list_any p (xs ++ ys) ≡ true) → (b : Bool) → p x ≡ b → (p x || list_any p xs) ≡ true → (p x || list_any p (xs ++ ys)) ≡ true
  decide ih true e k = rw e refl
  decide ih false e k = rw e (ih (rw e at k))

any-right : {A : Type 0} (p : A → Bool) (xs ys : List A) → list_any p ys ≡ true → list_any p (xs ++ ys) ≡ true
any-right p [] ys h = h
any-right p (x ∷ xs) ys h = or-right (p x) (list_any p (xs ++ ys)) (any-right p xs ys h)

holder : (P : Conn → Type 0) (q : Hold → Bool) (hs : List Hold) → AllByRecursion (λ (h : Hold). P h.conn) hs → list_any q hs ≡ true
    → (c : Conn) × P c × (list_any (conn_eq c) (map (λ (h : Hold). h.conn) (filter q hs)) ≡ true)
holder P q [] a h = absurd (both_ways false refl h)
holder P q (x ∷ xs) a h = decide (holder P q xs a.1) (q x) refl h where
  decide : (list_any q xs ≡ true → (c : Conn) × P c × (list_any (conn_eq c) (map (λ (h : Hold). h.conn) (filter q xs)) ≡ true))
      → (b : Bool) → q x ≡ b → (q x || list_any q xs) ≡ true
      → (c : Conn) × P c × (list_any (conn_eq c) (map (λ (h : Hold). h.conn) (filter q (x ∷ xs))) ≡ true)
  decide ih true e k = (x.conn, a.0, rw e (among-first x.conn (map (λ (h : Hold). h.conn) (filter q xs))))
  decide ih false e k =
      let t : (c : Conn) × P c × (list_any (conn_eq c) (map (λ (h : Hold). h.conn) (filter q xs)) ≡ true) = ih (rw e at k) in
      (t.0, t.1, rw e t.2)

waiter : (P : Conn → Type 0) (ws : List Wait) → AllByRecursion (λ (x : Wait). P x.conn) ws → list_any (λ (y : Wait). true) ws ≡ true
    → (c : Conn) × P c × (list_any (conn_eq c) (map (λ (y : Wait). y.conn) ws) ≡ true)
waiter P [] a h = absurd (both_ways false refl h)
waiter P (x ∷ xs) a h = (x.conn, a.0, among-first x.conn (map (λ (y : Wait). y.conn) xs))

-- whom the wait is blocked by
blocked : (P : Conn → Type 0) (holds : List Hold) (waits : List Wait) (x : Wait) → AllByRecursion (λ (h : Hold). P h.conn) holds
    → AllByRecursion (λ (y : Wait). P y.conn) waits → has_edge holds waits x ≡ true → (c : Conn) × P c × (list_any (conn_eq c) (blockers holds waits x) ≡ true)
blocked P holds waits x a b h = elim (or_cases (list_any (opposes x) holds) (list_any (λ (y : Wait). true) (ahead waits x)) h) [
  | inl l ↦
      let t : (c : Conn) × P c × (list_any (conn_eq c) (map (λ (h : Hold). h.conn) (filter (opposes x) holds)) ≡ true) = holder P (opposes x) holds a l in
      (t.0, t.1, any-left (conn_eq t.0) (map (λ (h : Hold). h.conn) (filter (opposes x) holds)) (map (λ (y : Wait). y.conn) (ahead waits x)) t.2)
  | inr r ↦
      let live : AllByRecursion (λ (y : Wait). P y.conn) (ahead waits x) =
      all-filter (λ (y : Wait). P y.conn) (λ (y : Wait). P y.conn) (λ (y : Wait). name_eq y.name x.name) (λ y p e. p) _
      (all-take (λ (y : Wait). P y.conn) (prefix_len (λ (y : Wait). not (conn_eq y.conn x.conn)) waits) waits b) in
      let t : (c : Conn) × P c × (list_any (conn_eq c) (map (λ (y : Wait). y.conn) (ahead waits x)) ≡ true) = waiter P (ahead waits x) live r in
      (t.0, t.1, any-right (conn_eq t.0) (map (λ (h : Hold). h.conn) (filter (opposes x) holds)) (map (λ (y : Wait). y.conn) (ahead waits x)) t.2)
]

-- so who waits with an edge has one to a connection of the head that has not ended
pub stuck-on : (head : Head) (w : World) (c : Conn) (x : Wait) → AreLive head w → wait_of w.waits c ≡ Some x → has_edge w.holds w.waits x ≡ true
    → (d : Conn) × IsLive head w.ended d × (is_among d (edges (conns head) w.holds w.waits c) ≡ true)
stuck-on head w c x live is h =
    let t : (d : Conn) × IsLive head w.ended d × (list_any (conn_eq d) (blockers w.holds w.waits x) ≡ true) =
    blocked (IsLive head w.ended) w.holds w.waits x live.holds live.waits h in
    let on : is_among t.0 (filter (λ d. list_any (conn_eq d) (blockers w.holds w.waits x)) (conns head)) ≡ true =
    among-kept (λ d. list_any (conn_eq d) (blockers w.holds w.waits x)) t.0 (conns head) (among-conns head t.0 t.1.0) t.2 in
    (t.0, t.1, rw is on)
