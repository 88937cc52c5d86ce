-- The edges of a history, bit by bit, and as targets of a test.
use Rattle.std.proofs.Common.{◌≡◌, ℕ, zero, suc, ◌+◌, ◌<◌, ◌≤◌, ◌⊎◌, inl, inr, Bool, true, false, not, ◌&&◌, ◌==◌, List, [], ◌∷◌, map, length, filter, find, take, take_while, refl, sym, ◌∙◌, ap, subst, arith, Option, Some, None, ◌≢◌, get_or-set_same, get_or-set_other, slice_index_or}
use Rattle.std.specs.Int.{bit_at}
use Rattle.std.specs.List.{AllByRecursion, list_any, prefix_len, range_with_len}
use Rattle.std.specs.Option.{option_map_or}
use Rattle.std.specs.Prelude.{if◌then◌else◌, nat_lt, replicate, slice_set}
use Rattle.std.proofs.lemmas.Bool.{and_from, and_parts, both_ways, cases_eq, lt-ltb, ltb-true}
use Rattle.std.proofs.lemmas.Bool.Decides.{nat_tests}
use Rattle.std.proofs.lemmas.Nat.Bits.{bit_at-zero}
use Rattle.iso_history.proofs.limits.Waiting.{conn_eq-sym}
use Rattle.iso_history.specs.Facts.{LockFacts, OfHead}
use Rattle.iso_history.specs.World.{World}
use Rattle.iso_locklist.proofs.Alike.{none_found}
use Rattle.iso_queue.specs.Lines.{bits_of}
use Rattle.iso_queue.specs.Locks.{Hold}
use Rattle.iso_queue.specs.Queues.{Wait, ahead, blockers, edges, opposes, wait_of}
use Rattle.iso_types.specs.Cycles.{is_among}
use Rattle.iso_types.specs.Edges.{has_edge, leads}
use Rattle.iso_types.specs.Head.{conns, is_conn}
use Rattle.iso_types.specs.Ids.{conn_eq, name_eq}
use Rattle.iso_types.specs.declared.edges.Edges.{Edges}
use Rattle.iso_types.specs.declared.head.Head.{Head}
use Rattle.iso_types.specs.declared.value.Conn.{Conn}
use Rattle.iso_waitgraph.proofs.Chosen.{same-tests}
use Rattle.iso_waitgraph.proofs.Members.{among-append, among-cases, among-first, among-rest, or-neither}
use Rattle.iso_waitgraph.proofs.Ways.{conn-is}
use Rattle.iso_waitgraph.specs.Targets.{AreRising, AreTargets}
use Rattle.iso_history.specs.Quiet.{edges_in}
use Rattle.iso_pace.proofs.EdgeBits.{bits-are}
use Rattle.iso_pace.specs.Told.{AreToldTo}

-- ---- the head's connections

abbrev place : ℕ → Conn
place k = record { 0 = k }

range-past : (d : Conn) (i n : ℕ) → is_among d (map place (range_with_len i n)) ≡ true → (i ≤ d.0) × (d.0 < i + n)
range-past d i zero h = absurd (both_ways false refl h)
range-past d i (suc n) h = elim (among-cases d (place i) (map place (range_with_len (i + 1) n)) h) [
  | inl e ↦ let same : d.0 ≡ i = ap (λ (z : Conn). z.0) e in (omega arith, omega arith)
  | inr r ↦ let t : (i + 1 ≤ d.0) × (d.0 < i + 1 + n) = range-past d (i + 1) n r in (omega (arith, t.0), omega (arith, t.1))
]

range-has : (d : Conn) (i n : ℕ) → i ≤ d.0 → d.0 < i + n → is_among d (map place (range_with_len i n)) ≡ true
range-has d i zero l g = absurd (omega arith)
range-has d i (suc n) l g = elim (cases_eq d.0 i) [
  | inl e ↦ let P : Conn → Type 0 = λ z. is_among z (place i ∷ map place (range_with_len (i + 1) n)) ≡ true in
      subst P (sym (conn-is d (place i) e)) (among-first (place i) (map place (range_with_len (i + 1) n)))
  | inr n2 ↦ among-rest d (place i) (map place (range_with_len (i + 1) n)) (range-has d (i + 1) n (omega arith) (omega arith))
]

range-rising : (i n : ℕ) → AreRising (map place (range_with_len i n))
range-rising i zero = tt
range-rising i (suc n) = (λ d on. let t : (i + 1 ≤ d.0) × (d.0 < i + 1 + n) = range-past d (i + 1) n on in omega (arith, t.0), range-rising (i + 1) n)

pub among-conns : (head : Head) (c : Conn) → is_conn head c ≡ true → is_among c (conns head) ≡ true
among-conns head c known =
    let l : c.0 < length head.conns = ltb-true c.0 (length head.conns) known in
    range-has c 0 (length head.conns) (omega arith) (omega arith)

pub conns-among : (head : Head) (c : Conn) → is_among c (conns head) ≡ true → is_conn head c ≡ true
conns-among head c on =
    let t : (0 ≤ c.0) × (c.0 < 0 + length head.conns) = range-past c 0 (length head.conns) on in
    lt-ltb c.0 (length head.conns) (omega (arith, t.1))

-- ---- edges

filter-none : {A : Type 0} (xs : List A) → filter (λ x. false) xs ≡ []
filter-none [] = refl
filter-none (x ∷ xs) = filter-none xs

-- a test that says what the edges of a history say, each connection of the head's
pub history-targets : (head : Head) (holds : List Hold) (waits : List Wait) (edge : Conn → Conn → Bool)
    → ((c d : Conn) → edge c d ≡ (is_among c (conns head) && is_among d (edges (conns head) holds waits c)))
    → AreTargets edge (edges (conns head) holds waits) (conns head)
history-targets head holds waits edge same = record { rising = range-rising 0 (length head.conns); some_of = some; same = same } where
  some : (c : Conn) → (p : Conn → Bool) × (edges (conns head) holds waits c ≡ filter p (conns head))
  some c = go (wait_of waits c) where
    go : (o : Option Wait) → (p : Conn → Bool)
        × (option_map_or (λ x. filter (λ d. list_any (conn_eq d) (blockers holds waits x)) (conns head)) o [] ≡ filter p (conns head))
    go None = (λ d. false, sym (filter-none (conns head)))
    go (Some x) = (λ d. list_any (conn_eq d) (blockers holds waits x), refl)

pub among-kept : (p : Conn → Bool) (c : Conn) (cs : List Conn) → is_among c cs ≡ true → p c ≡ true → is_among c (filter p cs) ≡ true
among-kept p c [] on pass = on
among-kept p c (d ∷ ds) on pass = decide (λ r. among-kept p c ds r pass) (p d) refl where
  decide : (is_among c ds ≡ true → is_among c (filter p ds) ≡ true) → (b : Bool) → p d ≡ b → is_among c (filter p (d ∷ ds)) ≡ true
  decide ih true e = elim (among-cases c d ds on) [
    | inl s ↦ rw e (let P : Conn → Type 0 = λ z. is_among z (d ∷ filter p ds) ≡ true in subst P (sym s) (among-first d (filter p ds)))
    | inr r ↦ rw e (among-rest c d (filter p ds) (ih r))
  ]
  decide ih false e = elim (among-cases c d ds on) [
    | inl s ↦ let P : Conn → Type 0 = λ z. p z ≡ true in absurd (both_ways (p d) e (subst P s pass))
    | inr r ↦ rw e (ih r)
  ]

pub among-passes : (p : Conn → Bool) (c : Conn) (cs : List Conn) → is_among c (filter p cs) ≡ true → (is_among c cs ≡ true) × (p c ≡ true)
among-passes p c [] on = absurd (both_ways false refl on)
among-passes p c (d ∷ ds) on = decide (among-passes p c ds) (p d) refl where
  decide : (is_among c (filter p ds) ≡ true → (is_among c ds ≡ true) × (p c ≡ true)) → (b : Bool) → p d ≡ b → (is_among c (d ∷ ds) ≡ true) × (p c ≡ true)
  decide ih true e = elim (among-cases c d (filter p ds) (rw e at on)) [
    | inl s ↦
        let P : Conn → Type 0 = λ z. (is_among z (d ∷ ds) ≡ true) × (p z ≡ true) in
        subst P (sym s) (among-first d ds, e)
    | inr r ↦ let t : (is_among c ds ≡ true) × (p c ≡ true) = ih r in (among-rest c d ds t.0, t.1)
  ]
  decide ih false e = let t : (is_among c ds ≡ true) × (p c ≡ true) = ih (rw e at on) in (among-rest c d ds t.0, t.1)

-- whether a connection is the head's
among-test : (head : Head) (c : Conn) → is_among c (conns head) ≡ is_conn head c
among-test head c = same-tests (is_among c (conns head)) (is_conn head c) (λ h. h, λ h. h) (λ h. among-conns head c h, λ h. conns-among head c h)

-- so where sets of edges, a bit a connection, say what the edges of a history say, the chosen cycle of the sets is that of the history
pub sets-targets : (head : Head) (holds : List Hold) (waits : List Wait) (sets : List Edges)
    → ((c d : Conn) → leads sets c d ≡ (is_conn head c && is_among d (edges (conns head) holds waits c)))
    → AreTargets (leads sets) (edges (conns head) holds waits) (conns head)
sets-targets head holds waits sets same =
    history-targets head holds waits (leads sets)
    (λ c d. same c d ∙ ap (λ (b : Bool). b && is_among d (edges (conns head) holds waits c)) (sym (among-test head c)))

-- ---- the blockers of a wait are connections of the head

-- none of the items has the connection
abbrev pub Lack : {A : Type 0} → (A → Conn) → Conn → List A → Type 0
Lack f d xs = AllByRecursion (λ y. conn_eq d (f y) ≡ false) xs

lack-of : {A : Type 0} (f : A → Conn) (d : Conn) (xs : List A) → find (λ y. conn_eq (f y) d) xs ≡ None → Lack f d xs
lack-of f d [] e = tt
lack-of f d (x ∷ xs) e = go (lack-of f d xs) (conn_eq (f x) d) refl e
  where
    go : (find (λ y. conn_eq (f y) d) xs ≡ None → Lack f d xs) → (b : Bool) → conn_eq (f x) d ≡ b
        → (if b then Some x else find (λ y. conn_eq (f y) d) xs) ≡ None → Lack f d (x ∷ xs)
    go ih true is g = absurd (cc)
    go ih false is g = (conn_eq-sym d (f x) ∙ is, ih g)

pub lack-filter : {A : Type 0} (f : A → Conn) (d : Conn) (p : A → Bool) (xs : List A) → Lack f d xs → Lack f d (filter p xs)
lack-filter f d p [] h = tt
lack-filter f d p (x ∷ xs) h = go (lack-filter f d p xs h.1) (p x) refl
  where
    go : Lack f d (filter p xs) → (b : Bool) → p x ≡ b → Lack f d (filter p (x ∷ xs))
    go ih true e = rw e (h.0, ih)
    go ih false e = rw e ih

lack-while : {A : Type 0} (f : A → Conn) (d : Conn) (p : A → Bool) (xs : List A) → Lack f d xs → Lack f d (take_while p xs)
lack-while {A = A} f d p xs h = lack-take (prefix_len p xs) xs h
  where
    lack-take : (n : ℕ) (ys : List A) → Lack f d ys → Lack f d (take n ys)
    lack-take zero ys k = tt
    lack-take (suc n) [] k = tt
    lack-take (suc n) (y ∷ ys) k = (k.0, lack-take n ys k.1)

pub lack-any : {A : Type 0} (f : A → Conn) (d : Conn) (xs : List A) → Lack f d xs → is_among d (map f xs) ≡ false
lack-any f d [] h = refl
lack-any f d (x ∷ xs) h = or-neither (conn_eq d (f x)) (is_among d (map f xs)) h.0 (lack-any f d xs h.1)

module _ (head : Head) (w : World) (facts : LockFacts head w) where
  blocks-none : (x : Wait) (d : Conn) → is_conn head d ≡ false → is_among d (blockers w.holds w.waits x) ≡ false
  unfolding OfHead
  blocks-none x d none =
      let hs = lack-of (λ (h : Hold). h.conn) d w.holds (none_found (λ (h : Hold). conn_eq h.conn d) w.holds (facts.of_head d none).0) in
      let xs = lack-of (λ (y : Wait). y.conn) d w.waits (none_found (λ (y : Wait). conn_eq y.conn d) w.waits (facts.of_head d none).1) in
      among-append d (map (λ (h : Hold). h.conn) (filter (opposes x) w.holds)) (map (λ (y : Wait). y.conn) (ahead w.waits x))
      ∙ or-neither _ _ (lack-any (λ (h : Hold). h.conn) d (filter (opposes x) w.holds) (lack-filter (λ (h : Hold). h.conn) d (opposes x) w.holds hs))
      (lack-any (λ (y : Wait). y.conn) d (ahead w.waits x)
      (lack-filter (λ (y : Wait). y.conn) d (λ y. name_eq y.name x.name) (take_while (λ y. not (conn_eq y.conn x.conn)) w.waits)
      (lack-while (λ (y : Wait). y.conn) d (λ y. not (conn_eq y.conn x.conn)) w.waits xs)))

  blocks-head : (x : Wait) (d : Conn) → is_among d (blockers w.holds w.waits x) ≡ true → is_conn head d ≡ true
  blocks-head x d h = go (is_conn head d) refl
    where
      go : (b : Bool) → is_conn head d ≡ b → is_conn head d ≡ true
      go true e = e
      go false e = absurd (both_ways (is_among d (blockers w.holds w.waits x)) (blocks-none x d e) h)

  -- the edges that the lock list tells are those of the history
  pub edges-told : length head.conns ≤ 32 → (c d : Conn) (e : Edges)
      → e.0 ≡ option_map_or (λ x. bits_of (λ d. list_any (conn_eq d) (blockers w.holds w.waits x)) 32) (wait_of w.waits c) 0
      → has_edge e d ≡ is_among d (edges (conns head) w.holds w.waits c)
  unfolding has_edge
  edges-told few c d e is = ap (λ (n : ℕ). bit_at n d.0 == 1) is ∙ go (wait_of w.waits c)
    where
      small : (n m : ℕ) → nat_lt n m ≡ true → m ≤ 32 → nat_lt n 32 ≡ true
      small n m lt le = lt-ltb n 32 (let l = ltb-true n m lt in omega (arith, l, le))

      go : (o : Option Wait) → (bit_at (option_map_or (λ x. bits_of (λ d. list_any (conn_eq d) (blockers w.holds w.waits x)) 32) o 0) d.0 == 1)
          ≡ is_among d (option_map_or (λ x. filter (λ d. list_any (conn_eq d) (blockers w.holds w.waits x)) (conns head)) o [])
      go None = ap (λ (n : ℕ). n == 1) (bit_at-zero d.0)
      go (Some x) =
          let t : Conn → Bool = λ d. list_any (conn_eq d) (blockers w.holds w.waits x) in
          (bits-are t 32).each d
          ∙ same-tests (nat_lt d.0 32 && t d) (is_among d (filter t (conns head))) (λ h. h, λ h. h) (
            λ h. let k = (among-passes t d (conns head) h) in and_from (nat_lt d.0 32) (t d) (small d.0 (length head.conns) (conns-among head d k.0) few) k.1,
            λ h. let k = and_parts (nat_lt d.0 32) (t d) h in among-kept t d (conns head) (among-conns head d (blocks-head x d k.1)) k.1,
          )

-- ---- the sets of all connections

pub none-told : (head : Head) (w : World) (sets : List Edges)
    → ((c d : Conn) → has_edge (slice_index_or sets c.0 (record { 0 = 0 })) d ≡ false) → AreToldTo head w 0 sets
unfolding leads
none-told head w sets h = record { done = λ c d lt. absurd (omega (arith, lt)); rest = λ c d le. h c d }

-- one more set
pub one-told : (head : Head) (w : World) (k : ℕ) (sets : List Edges) (e : Edges) → k < length sets
    → ((d : Conn) → has_edge e d ≡ is_among d (edges_in head w (record { 0 = k }))) → AreToldTo head w k sets
    → AreToldTo head w (k + 1) (slice_set sets k e)
unfolding leads
one-told head w k sets e lt is t = record { done = λ c d le. go c d (cases c.0 k le); rest = λ c d le. rest c d le }
  where
    cases : (a b : ℕ) → a < b + 1 → (a ≡ b) ⊎ (a < b)
    cases a b le = grind arith

    apart : (a b : ℕ) → a < b → a ≢ b
    apart a b le = omega (arith, le)

    beyond : (a b : ℕ) → b + 1 ≤ a → a ≢ b
    beyond a b le = omega (arith, le)

    go : (c d : Conn) → (c.0 ≡ k) ⊎ (c.0 < k) → has_edge (slice_index_or (slice_set sets k e) c.0 (record { 0 = 0 })) d ≡ is_among d (edges_in head w c)
    go c d (inl same) =
        let own : c ≡ record { 0 = k } = ap (λ (x : ℕ). record { 0 = x }) same in
        subst (λ (z : Conn). has_edge (slice_index_or (slice_set sets k e) z.0 (record { 0 = 0 })) d ≡ is_among d (edges_in head w z)) (sym own)
        (ap (λ (x : Edges). has_edge x d) (get_or-set_same sets k e (record { 0 = 0 }) lt) ∙ is d)
    go c d (inr less) = ap (λ (x : Edges). has_edge x d) (get_or-set_other sets k c.0 e (record { 0 = 0 }) (apart c.0 k less)) ∙ t.done c d less

    rest : (c d : Conn) → k + 1 ≤ c.0 → has_edge (slice_index_or (slice_set sets k e) c.0 (record { 0 = 0 })) d ≡ false
    rest c d le =
        ap (λ (x : Edges). has_edge x d) (get_or-set_other sets k c.0 e (record { 0 = 0 }) (beyond c.0 k le)) ∙ t.rest c d (omega (arith, le))

-- the sets of all connections are the edges of the history
pub all-told : (head : Head) (w : World) (k : ℕ) (sets : List Edges) → length head.conns ≤ k → AreToldTo head w k sets → k ≤ length head.conns
    → AreTargets (leads sets) (edges_in head w) (conns head)
all-told head w k sets le t most = sets-targets head w.holds w.waits sets (λ c d. go c d (is_conn head c) refl)
  where
    less : (a b : ℕ) → nat_lt a b ≡ true → b ≤ k → a < k
    less a b lt le = let l = ltb-true a b lt in omega (arith, l, le)

    more : (a b : ℕ) → nat_lt a b ≡ false → k ≤ b → k ≤ a
    more a b lt le = grind (arith, nat_tests, lt, le)

    go : (c d : Conn) → (b : Bool) → is_conn head c ≡ b → leads sets c d ≡ (b && is_among d (edges_in head w c))
    go c d true e = t.done c d (less c.0 (length head.conns) e le)
    go c d false e = t.rest c d (more c.0 (length head.conns) e most)

same-none : (n k : ℕ) (e : Edges) (d : Conn) → has_edge e d ≡ false → has_edge (slice_index_or (replicate n e) k (record { 0 = 0 })) d ≡ false
unfolding has_edge
same-none zero k e d h = ap (λ (n : ℕ). n == 1) (bit_at-zero d.0)
same-none (suc n) zero e d h = h
same-none (suc n) (suc k) e d h = same-none n k e d h

-- at first no set has an edge
pub first-told : (head : Head) (w : World) (n : ℕ) (e : Edges) → ((d : Conn) → has_edge e d ≡ false) → AreToldTo head w 0 (replicate n e)
first-told head w n e h = none-told head w (replicate n e) (λ c d. same-none n c.0 e d (h d))
