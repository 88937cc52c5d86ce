-- The least way back is the chosen cycle.
use Rattle.std.proofs.Common.{◌≡◌, ℕ, suc, ◌+◌, ◌<◌, ◌≤◌, ◌↔◌, ◌⊎◌, inl, inr, Bool, true, false, ◌||◌, ◌==◌, List, [], ◌∷◌, length, refl, sym, ◌∙◌, ap, subst, arith, eqb}
use Rattle.std.specs.Option.{MatchOption, is_some}
use Rattle.std.specs.Prelude.{None, Option, Some}
use Rattle.std.specs.List.{AllByRecursion, IsDistinct, list_any}
use Rattle.std.proofs.lemmas.Bool.{cases_Bool, cases_lt, eq-eqb, eqb-true, or_cases, both_ways}
use Rattle.std.proofs.lemmas.Map.Steps.{length-le_from_distinct_below}
use Rattle.iso_types.specs.Cycles.{AreDifferent, HasNoCycle, IsChosen, IsCycle, IsShortestThrough, IsUpTo, Leads, is_among}
use Rattle.iso_types.specs.Edges.{has_edge, leads}
use Rattle.iso_types.specs.declared.edges.Edges.{Edges}
use Rattle.iso_types.specs.declared.value.Conn.{Conn}
use Rattle.iso_waitgraph.proofs.Distances.{shortest-walk}
use Rattle.iso_waitgraph.proofs.Paths.{cycle-turned}
use Rattle.iso_waitgraph.proofs.Sets.{or-left, place-within}
use Rattle.iso_waitgraph.proofs.Ways.{away-cycle, conn-is, falls-length, walk-of, way-cycle}
use Rattle.iso_waitgraph.specs.Walks.{AreLevels, IsAway, IsLeastWay, IsNoNearer, Walk, set_at}

-- a cycle through a connection, from it on
closed : (edge : Conn → Conn → Bool) (s : Conn) (q : List Conn) → IsCycle edge q → is_among s q ≡ true
    → (es : List Conn) × Leads edge s es s × (suc (length es) ≡ length q)
closed edge s q h on =
    let t : (es : List Conn) × IsCycle edge (s ∷ es) × (length (s ∷ es) ≡ length q) = cycle-turned edge s q h on in
    (t.0, t.1.1, t.2)

abbrev numbers : List Conn → List ℕ
numbers [] = []
numbers (c ∷ cs) = c.0 ∷ numbers cs

length-numbers : (cs : List Conn) → length (numbers cs) ≡ length cs
length-numbers [] = refl
length-numbers (c ∷ cs) = ap suc (length-numbers cs)

any-numbers : (c : Conn) (cs : List Conn) → list_any (eqb c.0) (numbers cs) ≡ is_among c cs
any-numbers c [] = refl
any-numbers c (d ∷ ds) = rw (any-numbers c ds) refl

none-same : (n : ℕ) (ns : List ℕ) → list_any (eqb n) ns ≡ false → AllByRecursion (λ m. eqb n m ≡ false) ns
none-same n [] h = tt
none-same n (m ∷ ns) h =
    elim (cases_Bool (eqb n m)) [
      | inl t ↦ absurd (both_ways (eqb n m || list_any (eqb n) ns) h (or-left (eqb n m) (list_any (eqb n) ns) t))
      | inr f ↦ (f, none-same n ns (sym (rw f refl) ∙ h))
    ]

distinct-numbers : (cs : List Conn) → AreDifferent cs → IsDistinct eqb (numbers cs)
unfolding IsDistinct
distinct-numbers [] h = tt
distinct-numbers (c ∷ cs) h = (none-same c.0 (numbers cs) (any-numbers c cs ∙ h.0), distinct-numbers cs h.1)

-- each member of a way has an edge, and so is below the number of connections
members-below : (edge : Conn → Conn → Bool) (n : ℕ) (out : (v w : Conn) → edge v w ≡ true → v.0 < n) (end c : Conn) (cs : List Conn) → Leads edge c cs end
    → (q : ℕ) → list_any (eqb q) (numbers (c ∷ cs)) ≡ true → q < n
members-below edge n out end c [] h q on =
    elim (or_cases (eqb q c.0) false on) [
      | inl e ↦ let same : q ≡ c.0 = eqb-true q c.0 e in let l : c.0 < n = out c end h in omega arith
      | inr f ↦ absurd (both_ways false refl f)
    ]
members-below edge n out end c (d ∷ ds) h q on =
    elim (or_cases (eqb q c.0) (list_any (eqb q) (numbers (d ∷ ds))) on) [
      | inl e ↦ let same : q ≡ c.0 = eqb-true q c.0 e in let l : c.0 < n = out c d h.0 in omega arith
      | inr r ↦ members-below edge n out end d ds h.1 q r
    ]

-- a cycle has at most as many members as there are connections
pub cycle-short : (edge : Conn → Conn → Bool) (n : ℕ) (out : (v w : Conn) → edge v w ≡ true → v.0 < n) (q : List Conn) → IsCycle edge q → length q ≤ n
cycle-short edge n out [] h = absurd h
cycle-short edge n out (c ∷ cs) h =
    let short : length (numbers (c ∷ cs)) ≤ n =
    length-le_from_distinct_below (numbers (c ∷ cs)) n (distinct-numbers (c ∷ cs) h.0) (members-below edge n out c c cs h.1) in
    let same : length (numbers (c ∷ cs)) ≡ length (c ∷ cs) = length-numbers (c ∷ cs) in
    omega arith

-- the least way back, where no lesser connection lies on a cycle, is the chosen cycle through the start
pub way-chosen : (edge : Conn → Conn → Bool) (start : Conn) (k : ℕ) (ds : List Conn)
    → IsLeastWay edge start start k ds → IsNoNearer edge start k start
    → ((q : List Conn) (d : Conn) → IsCycle edge q → is_among d q ≡ true → start.0 ≤ d.0)
    → IsShortestThrough edge start (start ∷ ds)
way-chosen edge start k ds way near first = record {
  cycle = way-cycle edge start k ds way;
  through = or-left (start.0 == start.0) (is_among start ds) (eq-eqb start.0 start.0 refl);
  shortest = shortest;
  least = least;
} where
  size : length ds ≡ k
  size = falls-length edge start k ds way.falls

  shortest : (q : List Conn) → IsCycle edge q → is_among start q ≡ true → length (start ∷ ds) ≤ length q
  shortest q h on =
      let t : (es : List Conn) × Leads edge start es start × (suc (length es) ≡ length q) = closed edge start q h on in
      let w : (w : Conn) × (edge start w ≡ true) × Walk edge start (length t.0) w = walk-of edge start start t.0 t.1 in
      let long : suc (length t.0) ≡ length q = t.2 in
      let full : length ds ≡ k = size in
      elim (cases_lt (length t.0) k) [
        | inl l ↦ absurd (near w.0 (length t.0) w.1 l w.2)
        | inr g ↦ omega arith
      ]

  least : (q : List Conn) → IsCycle edge q → is_among start q ≡ true → length q ≡ length (start ∷ ds) → IsUpTo (start ∷ ds) q
  least [] h on same = absurd h
  least (d ∷ es) h on same =
      let full : length ds ≡ k = size in
      let up : start.0 ≤ d.0 = first (d ∷ es) d h (or-left (d.0 == d.0) (is_among d es) (eq-eqb d.0 d.0 refl)) in
      elim (cases_lt start.0 d.0) [
        | inl l ↦ inl l
        | inr g ↦
            let here : start ≡ d = conn-is start d (omega arith) in
            let P : Conn → Type 0 = λ c. Leads edge c es c in
            let even : length es ≡ k = omega arith in
            inr (here, way.least es (subst P (sym here) h.1) even)
      ]

-- whether a connection is so far away is told by the levels
tell : (sets : List Edges) (start w : Conn) (levels : List Edges) → AreLevels sets start levels 32
    → (k : ℕ) → k < 32 → IsAway (leads sets) start k w ⊎ (IsAway (leads sets) start k w → ⊥)
tell sets start w levels on k l =
    elim (cases_Bool (has_edge (set_at levels k) w)) [
      | inl t ↦ inl ((on k w l).0 t)
      | inr f ↦ inr (λ h. both_ways (has_edge (set_at levels k) w) f ((on k w l).1 h))
    ]

-- no level that the start has an edge to is nearer than the nearest
pub no-nearer : (sets : List Edges) (start : Conn) (levels : List Edges) (k : ℕ) → k ≤ 32 → AreLevels sets start levels 32
    → ((j : ℕ) (w : Conn) → j < k → leads sets start w ≡ true → has_edge (set_at levels j) w ≡ true → ⊥)
    → IsNoNearer (leads sets) start k start
no-nearer sets start levels k l on none w j e m walk =
    let t : (i : ℕ) × (i ≤ j) × IsAway (leads sets) start i w =
    shortest-walk (leads sets) start w 32 j (omega arith) (tell sets start w levels on) walk in
    none t.0 w (omega arith) e ((on t.0 w (omega arith)).1 t.2)

-- no cycle where the start has no edge to a level
pub no-cycle : (sets : List Edges) (start : Conn) (levels : List Edges) → length sets ≡ 32 → AreLevels sets start levels 32
    → ((j : ℕ) (w : Conn) → j < 32 → leads sets start w ≡ true → has_edge (set_at levels j) w ≡ true → ⊥)
    → (q : List Conn) → IsCycle (leads sets) q → is_among start q ≡ true → ⊥
no-cycle sets start levels full on none q h here =
    let t : (es : List Conn) × Leads (leads sets) start es start × (suc (length es) ≡ length q) = closed (leads sets) start q h here in
    let w : (w : Conn) × (leads sets start w ≡ true) × Walk (leads sets) start (length t.0) w = walk-of (leads sets) start start t.0 t.1 in
    let short : length q ≤ 32 = cycle-short (leads sets) 32 (λ v x e. let l : v.0 < length sets = place-within sets v x e in omega arith) q h in
    let same : suc (length t.0) ≡ length q = t.2 in
    no-nearer sets start levels 32 (omega arith) on none w.0 (length t.0) w.1 (omega arith) w.2

-- the first of a way has an edge
first-leads : (edge : Conn → Conn → Bool) (c end : Conn) (cs : List Conn) → Leads edge c cs end → (w : Conn) × (edge c w ≡ true)
first-leads edge c end [] h = (end, h)
first-leads edge c end (d ∷ ds) h = (d, h.0)

-- where no connection below 32 lies on a cycle there is none
pub none-left : (sets : List Edges) (n : ℕ) → length sets ≤ n
    → ((q : List Conn) (d : Conn) → IsCycle (leads sets) q → is_among d q ≡ true → n ≤ d.0)
    → (q : List Conn) → IsCycle (leads sets) q → ⊥
none-left sets n full past [] h = h
none-left sets n full past (c ∷ cs) h =
    let w : (w : Conn) × (leads sets c w ≡ true) = first-leads (leads sets) c c cs h.1 in
    let l : c.0 < length sets = place-within sets c w.0 w.1 in
    let g : n ≤ c.0 = past (c ∷ cs) c h (or-left (c.0 == c.0) (is_among c cs) (eq-eqb c.0 c.0 refl)) in
    omega arith

-- where none goes through the next connection either, all that lie on a cycle come after it
pub next-start : (sets : List Edges) (start : ℕ)
    → ((q : List Conn) (d : Conn) → IsCycle (leads sets) q → is_among d q ≡ true → start ≤ d.0)
    → ((q : List Conn) → IsCycle (leads sets) q → is_among (record { 0 = start }) q ≡ true → ⊥)
    → (q : List Conn) (d : Conn) → IsCycle (leads sets) q → is_among d q ≡ true → start + 1 ≤ d.0
next-start sets start past none q d h on =
    let up : start ≤ d.0 = past q d h on in
    elim (cases_lt start d.0) [
      | inl l ↦ omega arith
      | inr g ↦
          let here : d ≡ record { 0 = start } = conn-is d (record { 0 = start }) (omega arith) in
          let P : Conn → Type 0 = λ c. is_among c q ≡ true in
          absurd (none q h (subst P here on))
    ]

pub none-of : {A : Type 0} (o : Option A) (P : Type 0) (Q : A → Type 0) → MatchOption o P Q → is_some o ≡ false → P
none-of None P Q h e = h
none-of (Some x) P Q h e = absurd (both_ways true e refl)

-- the start of the cycle that was found is the least connection on a cycle
pub some-of : (sets : List Edges) (start : ℕ) (o : Option (List Conn))
    → MatchOption o ((q : List Conn) → IsCycle (leads sets) q → is_among (record { 0 = start }) q ≡ true → ⊥)
    (IsShortestThrough (leads sets) (record { 0 = start }))
    → is_some o ≡ true
    → ((q : List Conn) (d : Conn) → IsCycle (leads sets) q → is_among d q ≡ true → start ≤ d.0)
    → MatchOption o (HasNoCycle (leads sets)) (IsChosen (leads sets))
some-of sets start None h e least = absurd (both_ways false refl e)
some-of sets start (Some p) h e least = (record { 0 = start }, record { on = (p, h.cycle, h.through); least = least }, h)

-- two tests of one thing are one
pub same-tests : {P : Type 0} (a b : Bool) → (a ≡ true) ↔ P → (b ≡ true) ↔ P → a ≡ b
same-tests true true h g = refl
same-tests false false h g = refl
same-tests true false h g = sym (g.1 (h.0 refl))
same-tests false true h g = h.1 (g.0 refl)

-- the nearest level to which the connection has an edge tells whether it lies on a cycle
pub tells-cycle : (sets : List Edges) (start : Conn) (levels : List Edges) (o : Option ℕ) (b : Bool) → length sets ≡ 32 → AreLevels sets start levels 32
    → MatchOption o ((j : ℕ) (w : Conn) → j < 32 → has_edge (set_at sets start.0) w ≡ true → has_edge (set_at levels j) w ≡ true → ⊥)
    (λ k. (k < 32)
    × ((w : Conn) × (has_edge (set_at sets start.0) w ≡ true) × (has_edge (set_at levels k) w ≡ true))
    × ((j : ℕ) (w : Conn) → j < k → has_edge (set_at sets start.0) w ≡ true → has_edge (set_at levels j) w ≡ true → ⊥))
    → b ≡ is_some o → (b ≡ true) ↔ ((q : List Conn) × IsCycle (leads sets) q × (is_among start q ≡ true))
unfolding leads
tells-cycle sets start levels None b full on h e =
    (λ t. absurd (both_ways false refl (sym e ∙ t)), λ w. absurd (no-cycle sets start levels full on h w.0 w.1 w.2))
tells-cycle sets start levels (Some k) b full on h e =
    let w : (w : Conn) × (has_edge (set_at sets start.0) w ≡ true) × (has_edge (set_at levels k) w ≡ true) = h.1 in
    let t : (ds : List Conn) × IsCycle (leads sets) (start ∷ ds) = away-cycle (leads sets) start w.0 k w.1 ((on k w.0 h.0).0 w.2) in
    (λ i. (start ∷ t.0, t.1, or-left (start.0 == start.0) (is_among start t.0) (eq-eqb start.0 start.0 refl)), λ i. e)
