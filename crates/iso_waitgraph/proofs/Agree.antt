-- The chosen cycle by trying paths is the chosen cycle by its properties.
use Rattle.std.proofs.Common.{◌≡◌, ℕ, zero, suc, ◌<◌, ◌≤◌, inl, inr, Bool, true, false, List, [], ◌∷◌, ◌++◌, Option, Some, None, MatchOption, is_some, find, flat_map, reverse, length, refl, sym, ◌∙◌, ap, subst, arith, append-nil, ◌↔◌}
use Rattle.std.proofs.lemmas.Bool.{both_ways, cases_Bool, cases_lt}
use Rattle.std.proofs.lemmas.List.{length-reverse, reverse-reverse}
use Rattle.iso_types.specs.Cycles.{HasNoCycle, IsChosen, IsCycle, IsShortestThrough, IsUpTo, chosen_cycle, closes, cycle_through, first_cycle, is_among, is_on_cycle, longer, shortest}
use Rattle.iso_types.specs.declared.value.Conn.{Conn}
use Rattle.iso_waitgraph.specs.Targets.{AreRising, AreTargets}
use Rattle.iso_waitgraph.proofs.Members.{among-cases, among-first, among-rest, different-short, up-both, up-refl}
use Rattle.iso_waitgraph.proofs.Paths.{Closes, IsPath, before-up, cycle-out, cycle-path, cycle-turned, path-cycle}
use Rattle.iso_waitgraph.proofs.Ways.{conn-is}
use Rattle.iso_waitgraph.proofs.Tried.{Answers, answers, edge-parts, targets-within, tried-none}

-- ---- there is one chosen cycle at most

pub chosen-one : (edge : Conn → Conn → Bool) (p q : List Conn) → IsChosen edge p → IsChosen edge q → p ≡ q
chosen-one edge p q a b =
    let c : Conn = a.0 in
    let d : Conn = b.0 in
    let less : c.0 ≤ d.0 = a.1.least b.1.on.0 d b.1.on.1 b.1.on.2 in
    let more : d.0 ≤ c.0 = b.1.least a.1.on.0 c a.1.on.1 a.1.on.2 in
    let same : d ≡ c = conn-is d c (omega arith) in
    let t : IsShortestThrough edge c q = subst (λ (z : Conn). IsShortestThrough edge z q) same b.2 in
    let short : length p ≤ length q = a.2.shortest q t.cycle t.through in
    let long : length q ≤ length p = t.shortest p a.2.cycle a.2.through in
    up-both p q (omega arith) (a.2.least q t.cycle t.through (omega arith)) (t.least p a.2.cycle a.2.through (omega arith))

-- what is the chosen cycle or none, is one thing
pub chosen-same : (edge : Conn → Conn → Bool) (o r : Option (List Conn))
    → MatchOption o (HasNoCycle edge) (IsChosen edge) → MatchOption r (HasNoCycle edge) (IsChosen edge) → o ≡ r
chosen-same edge None None a b = refl
chosen-same edge None (Some q) a b = absurd (a q b.2.cycle)
chosen-same edge (Some p) None a b = absurd (b p a.2.cycle)
chosen-same edge (Some p) (Some q) a b = ap (λ (z : List Conn). Some z) (chosen-one edge p q a b)

module _ (edge : Conn → Conn → Bool) (edges : Conn → List Conn) (all : List Conn) (h : AreTargets edge edges all) where
  -- ---- through a connection

  -- who lies on a cycle is one of the connections
  pub cycle-within : (q : List Conn) (d : Conn) → IsCycle edge q → is_among d q ≡ true → is_among d all ≡ true
  cycle-within q d g on = let w : (x : Conn) × (edge d x ≡ true) = cycle-out edge q d g on in (edge-parts edge edges all h d w.0 w.1).0

  cycle-fits : (q : List Conn) → IsCycle edge q → length q ≤ length all
  cycle-fits [] g = absurd g
  cycle-fits (c ∷ cs) g = different-short (c ∷ cs) all g.0 (λ d on. cycle-within (c ∷ cs) d g on)

  tried : (c : Conn) → is_among c all ≡ true → Answers edge edges all h c 0 (length all) (cycle_through edges all c)
  tried c on = answers edge edges all h c 0 (length all) ((c ∷ []) ∷ []) on (tried-none edge edges all h c)

  -- a cycle from a connection on, as a path that closes
  back : (c : Conn) (es : List Conn) → IsCycle edge (c ∷ es)
      → IsPath edge c (reverse (c ∷ es)) × Closes edge c (reverse (c ∷ es)) × (length (reverse (c ∷ es)) ≡ suc (length es))
  back c es g =
      let t : IsPath edge c (reverse (c ∷ es)) × Closes edge c (reverse (c ∷ es)) = cycle-path edge c es g in
      (t.0, t.1, length-reverse (c ∷ es))

  -- none through the connection
  none-through : (c : Conn) → Answers edge edges all h c 0 (length all) None → (q : List Conn) → IsCycle edge q → is_among c q ≡ true → ⊥
  none-through c a q g i =
      let t : (es : List Conn) × IsCycle edge (c ∷ es) × (length (c ∷ es) ≡ length q) = cycle-turned edge c q g i in
      let b : IsPath edge c (reverse (c ∷ t.0)) × Closes edge c (reverse (c ∷ t.0)) × (length (reverse (c ∷ t.0)) ≡ suc (length t.0)) = back c t.0 t.1 in
      let fits : length (c ∷ t.0) ≤ length all = cycle-fits (c ∷ t.0) t.1 in
      let long : length (reverse (c ∷ t.0)) ≡ suc (length t.0) = b.2 in
      a (reverse (c ∷ t.0)) b.0 b.1 (omega arith) (omega arith)

  -- the one through the connection, where no lesser one lies on a cycle
  one-through : (c : Conn) (q : List Conn) → Answers edge edges all h c 0 (length all) (Some q)
      → ((p : List Conn) (d : Conn) → IsCycle edge p → is_among d p ≡ true → c.0 ≤ d.0) → IsShortestThrough edge c q
  one-through c q a first =
      let t : (es : List Conn) × (reverse a.0 ≡ c ∷ es) × IsCycle edge (c ∷ es) = path-cycle edge c a.0 a.2 a.3 in
      let is : q ≡ c ∷ t.0 = a.1 ∙ t.1 in
      let long : length q ≡ length a.0 = ap (λ (z : List Conn). length z) a.1 ∙ length-reverse a.0 in
      record {
        cycle = subst (IsCycle edge) (sym is) t.2;
        through = subst (λ (z : List Conn). is_among c z ≡ true) (sym is) (among-first c t.0);
        shortest = λ p g i.
            let u : (es : List Conn) × IsCycle edge (c ∷ es) × (length (c ∷ es) ≡ length p) = cycle-turned edge c p g i in
            let b : IsPath edge c (reverse (c ∷ u.0)) × Closes edge c (reverse (c ∷ u.0)) × (length (reverse (c ∷ u.0)) ≡ suc (length u.0)) = back c u.0 u.1 in
            let two : length (reverse (c ∷ u.0)) ≡ suc (length u.0) = b.2 in
            let three : length (c ∷ u.0) ≡ length p = u.2 in
            let short : length a.0 ≤ length (reverse (c ∷ u.0)) = a.4 (reverse (c ∷ u.0)) b.0 b.1 (omega arith) in
            omega arith;
        least = λ p g i same. least p g i (same ∙ long);
      }
    where
      least : (p : List Conn) → IsCycle edge p → is_among c p ≡ true → length p ≡ length a.0 → IsUpTo q p
      least [] g i same = absurd g
      least (d ∷ es) g i same =
          let up : c.0 ≤ d.0 = first (d ∷ es) d g (among-first d es) in
          let t : (es : List Conn) × (reverse a.0 ≡ c ∷ es) × IsCycle edge (c ∷ es) = path-cycle edge c a.0 a.2 a.3 in
          let is : q ≡ c ∷ t.0 = a.1 ∙ t.1 in
          elim (cases_lt c.0 d.0) [
            | inl l ↦ subst (λ (z : List Conn). IsUpTo z (d ∷ es)) (sym is) (inl l)
            | inr m ↦
                let here : d ≡ c = conn-is d c (omega arith) in
                let from : IsCycle edge (c ∷ es) = subst (λ (z : Conn). IsCycle edge (z ∷ es)) here g in
                subst (λ (z : Conn). IsUpTo q (z ∷ es)) (sym here) (beside es from same)
          ]
        where
          beside : (es : List Conn) → IsCycle edge (c ∷ es) → suc (length es) ≡ length a.0 → IsUpTo q (c ∷ es)
          beside es from even =
              let b : IsPath edge c (reverse (c ∷ es)) × Closes edge c (reverse (c ∷ es)) × (length (reverse (c ∷ es)) ≡ suc (length es)) = back c es from in
              let again : reverse (reverse (c ∷ es)) ≡ c ∷ es = reverse-reverse (c ∷ es) in
              elim (a.5 (reverse (c ∷ es)) b.0 b.1 (b.2 ∙ even)) [
                | inl s ↦
                    let is : q ≡ c ∷ es = a.1 ∙ ap (λ (z : List Conn). reverse z) (sym s) ∙ again in
                    subst (λ (z : List Conn). IsUpTo q z) is (up-refl q)
                | inr before ↦
                    let up : IsUpTo (reverse a.0 ++ []) (reverse (reverse (c ∷ es)) ++ []) = before-up a.0 (reverse (c ∷ es)) [] [] before in
                    let one : reverse a.0 ++ [] ≡ q = append-nil {A = Conn} (reverse a.0) ∙ sym a.1 in
                    let two : reverse (reverse (c ∷ es)) ++ [] ≡ c ∷ es = append-nil {A = Conn} (reverse (reverse (c ∷ es))) ∙ again in
                    subst (λ (z : List Conn). IsUpTo q z) two (subst (λ (z : List Conn). IsUpTo z (reverse (reverse (c ∷ es)) ++ [])) one up)
              ]

  -- ---- of all connections

  first-chosen : (cs : List Conn) → AreRising cs → ((d : Conn) → is_among d cs ≡ true → is_among d all ≡ true)
      → ((q : List Conn) (d : Conn) → IsCycle edge q → is_among d q ≡ true → is_among d cs ≡ true)
      → MatchOption (first_cycle edges all cs) (HasNoCycle edge) (IsChosen edge)
  first-chosen [] up sub on = none where
    none : HasNoCycle edge
    none [] g = g
    none (c ∷ cs) g = both_ways false refl (on (c ∷ cs) c g (among-first c cs))
  first-chosen (c ∷ cs) up sub on =
      decide (first-chosen cs up.1 (λ d i. sub d (among-rest d c cs i))) (cycle_through edges all c) (tried c (sub c (among-first c cs))) where
        first : (q : List Conn) (d : Conn) → IsCycle edge q → is_among d q ≡ true → c.0 ≤ d.0
        first q d g i = elim (among-cases d c cs (on q d g i)) [
          | inl s ↦ let same : d.0 ≡ c.0 = ap (λ (z : Conn). z.0) s in omega arith
          | inr r ↦ let l : c.0 < d.0 = up.0 d r in omega arith
        ]

        decide : (((q : List Conn) (d : Conn) → IsCycle edge q → is_among d q ≡ true → is_among d cs ≡ true)
            → MatchOption (first_cycle edges all cs) (HasNoCycle edge) (IsChosen edge))
            → (o : Option (List Conn)) → Answers edge edges all h c 0 (length all) o
            → MatchOption (elim o [ None ↦ first_cycle edges all cs | Some p ↦ Some p ]) (HasNoCycle edge) (IsChosen edge)
        decide ih None a = ih (λ q d g i. elim (among-cases d c cs (on q d g i)) [
          | inl s ↦ absurd (none-through c a q g (subst (λ (z : Conn). is_among z q ≡ true) s i))
          | inr r ↦ r
        ])
        decide ih (Some p) a =
            let t : IsShortestThrough edge c p = one-through c p a first in
            (c, record { on = (p, t.cycle, t.through); least = first }, t)

  -- what trying the paths gives is the chosen cycle, and none where there is no cycle
  pub chosen : MatchOption (chosen_cycle edges all) (HasNoCycle edge) (IsChosen edge)
  chosen = first-chosen all h.rising (λ d on. on) cycle-within

  -- ---- on a cycle

  never-found : (test : List Conn → Bool) (ps : List (List Conn)) → ((p : List Conn) → test p ≡ false) → find test ps ≡ None
  never-found test [] none = refl
  never-found test (p ∷ ps) none = rw (none p) (never-found test ps none)

  never : (c : Conn) (n : ℕ) (ps : List (List Conn)) → ((p : List Conn) → closes edges c p ≡ false) → shortest edges c n ps ≡ None
  never c zero ps none = refl
  never c (suc n) ps none = rw (never-found (closes edges c) ps none, shortest) (never c n (flat_map (longer edges) ps) none)

  -- the connection lies on a cycle exactly where trying the paths finds one through it
  pub on-cycle : (c : Conn) → (is_on_cycle edges all c ≡ true) ↔ ((q : List Conn) × IsCycle edge q × (is_among c q ≡ true))
  on-cycle c = elim (cases_Bool (is_among c all)) [
    | inl t ↦ inside (cycle_through edges all c) (tried c t)
    | inr f ↦
        let none : cycle_through edges all c ≡ None = never c (length all) ((c ∷ []) ∷ []) (away f) in (
          λ e. absurd (both_ways (is_some (cycle_through edges all c)) (ap (λ (z : Option (List Conn)). is_some z) none) e),
          λ w. absurd (both_ways (is_among c all) f (cycle-within w.0 c w.1 w.2)),
        )
  ] where
    inside : (o : Option (List Conn)) → Answers edge edges all h c 0 (length all) o
        → (is_some o ≡ true) ↔ ((q : List Conn) × IsCycle edge q × (is_among c q ≡ true))
    inside None a = (λ e. absurd (both_ways false refl e), λ w. absurd (none-through c a w.0 w.1 w.2))
    inside (Some q) a =
        let t : (es : List Conn) × (reverse a.0 ≡ c ∷ es) × IsCycle edge (c ∷ es) = path-cycle edge c a.0 a.2 a.3 in
        (λ e. (c ∷ t.0, t.2, among-first c t.0), λ w. refl)

    away : is_among c all ≡ false → (p : List Conn) → closes edges c p ≡ false
    away f [] = refl
    away f (d ∷ ds) = elim (cases_Bool (is_among c (edges d))) [
      | inl t ↦ absurd (both_ways (is_among c all) f (targets-within edge edges all h d c t))
      | inr g ↦ g
    ]
