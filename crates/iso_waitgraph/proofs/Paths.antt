-- Paths of different connections, last connection first, and the cycles that they close to.
use Rattle.std.proofs.Common.{◌≡◌, ℕ, zero, suc, ◌+◌, ◌<◌, ◌≤◌, ◌⊎◌, inl, inr, Bool, true, false, ◌==◌, List, [], ◌∷◌, ◌++◌, reverse, length, refl, sym, ◌∙◌, ap, subst, arith, append-nil, length-append}
use Rattle.std.proofs.lemmas.Bool.{both_ways}
use Rattle.std.proofs.lemmas.List.{reverse-append}
use Rattle.iso_types.specs.Cycles.{AreDifferent, HasNoCycle, IsCycle, IsUpTo, Leads, is_among}
use Rattle.iso_types.specs.declared.value.Conn.{Conn}
use Rattle.iso_waitgraph.proofs.Members.{AreApart, among-cases, among-first, among-rest, different-reversed, different-short, different-turned, or-neither, other, reverse-onto, split, up-prefix}

-- a path from the connection: different ones, to each an edge from the one behind it
abbrev pub IsPath : (Conn → Conn → Bool) → Conn → List Conn → Type 0
IsPath edge c [] = ⊥
IsPath edge c (d ∷ []) = d ≡ c
IsPath edge c (e ∷ d ∷ ds) = (edge d e ≡ true) × (is_among e (d ∷ ds) ≡ false) × IsPath edge c (d ∷ ds)

-- its last connection has an edge to the first
abbrev pub Closes : (Conn → Conn → Bool) → Conn → List Conn → Type 0
Closes edge c [] = ⊥
Closes edge c (d ∷ ds) = edge d c ≡ true

path-leads : (edge : Conn → Conn → Bool) (c end d : Conn) (ds xs : List Conn) → IsPath edge c (d ∷ ds) → Leads edge d xs end
    → (es : List Conn) × (reverse (d ∷ ds) ++ xs ≡ c ∷ es) × Leads edge c es end
path-leads edge c end d [] xs h l =
    let P : Conn → Type 0 = λ x. (es : List Conn) × (d ∷ xs ≡ x ∷ es) × Leads edge x es end in
    subst P h (xs, refl, l)
path-leads edge c end e (d ∷ ds) xs h l =
    let t : (es : List Conn) × (reverse (d ∷ ds) ++ (e ∷ xs) ≡ c ∷ es) × Leads edge c es end = path-leads edge c end d ds (e ∷ xs) h.2 (h.0, l) in
    (t.0, reverse-onto e (d ∷ ds) xs ∙ t.1, t.2)

path-different : (edge : Conn → Conn → Bool) (c : Conn) (p : List Conn) → IsPath edge c p → AreDifferent p
path-different edge c [] h = tt
path-different edge c (d ∷ []) h = (refl, tt)
path-different edge c (e ∷ d ∷ ds) h = (h.1, path-different edge c (d ∷ ds) h.2)

-- a path that closes is a cycle from its first connection on
pub path-cycle : (edge : Conn → Conn → Bool) (c : Conn) (p : List Conn) → IsPath edge c p → Closes edge c p
    → (es : List Conn) × (reverse p ≡ c ∷ es) × IsCycle edge (c ∷ es)
path-cycle edge c [] h e = absurd h
path-cycle edge c (d ∷ ds) h e =
    let t : (es : List Conn) × (reverse (d ∷ ds) ++ [] ≡ c ∷ es) × Leads edge c es c = path-leads edge c c d ds [] h e in
    let apart : AreDifferent (reverse (d ∷ ds) ++ []) =
    different-reversed (d ∷ ds) [] (path-different edge c (d ∷ ds) h) tt (λ x on. refl) in
    (t.0, sym (append-nil {A = Conn} (reverse (d ∷ ds))) ∙ t.1, (subst AreDifferent t.1 apart, t.2))

leads-path : (edge : Conn → Conn → Bool) (c end d : Conn) (ds xs : List Conn) → IsPath edge c (d ∷ ds) → Leads edge d xs end → AreDifferent xs
    → AreApart xs (d ∷ ds) → (l : Conn) × (ls : List Conn) × (reverse xs ++ (d ∷ ds) ≡ l ∷ ls) × IsPath edge c (l ∷ ls) × (edge l end ≡ true)
leads-path edge c end d ds [] h l a apart = (d, ds, refl, h, l)
leads-path edge c end d ds (x ∷ xs) h l a apart =
    let t : (m : Conn) × (ls : List Conn) × (reverse xs ++ (x ∷ d ∷ ds) ≡ m ∷ ls) × IsPath edge c (m ∷ ls) × (edge m end ≡ true) =
    leads-path edge c end x (d ∷ ds) xs (l.0, apart x (among-first x xs), h) l.1 a.1
    (λ y on. or-neither (y.0 == x.0) (is_among y (d ∷ ds)) (other y x xs on a.0) (apart y (among-rest y x xs on))) in
    (t.0, t.1, reverse-onto x xs (d ∷ ds) ∙ t.2, t.3, t.4)

-- a cycle, reversed, is a path that closes
pub cycle-path : (edge : Conn → Conn → Bool) (c : Conn) (es : List Conn) → IsCycle edge (c ∷ es)
    → IsPath edge c (reverse (c ∷ es)) × Closes edge c (reverse (c ∷ es))
cycle-path edge c es h =
    let t : (m : Conn) × (ls : List Conn) × (reverse es ++ (c ∷ []) ≡ m ∷ ls) × IsPath edge c (m ∷ ls) × (edge m c ≡ true) =
    leads-path edge c c c [] es refl h.1 h.0.1 (λ y on. or-neither (y.0 == c.0) false (other y c es on h.0.0) refl) in
    let is : reverse (c ∷ es) ≡ t.0 ∷ t.1 = reverse-append {A = Conn} (c ∷ []) es ∙ t.2 in
    (subst (IsPath edge c) (sym is) t.3, subst (Closes edge c) (sym is) t.4)

leads-split : (edge : Conn → Conn → Bool) (c s end : Conn) (xs ys : List Conn) → Leads edge c (xs ++ s ∷ ys) end → Leads edge c xs s × Leads edge s ys end
leads-split edge c s end [] ys h = (h.0, h.1)
leads-split edge c s end (x ∷ xs) ys h =
    let t : Leads edge x xs s × Leads edge s ys end = leads-split edge x s end xs ys h.1 in ((h.0, t.0), t.1)

pub leads-join : (edge : Conn → Conn → Bool) (a b end : Conn) (xs ys : List Conn) → Leads edge a xs b → Leads edge b ys end → Leads edge a (xs ++ b ∷ ys) end
leads-join edge a b end [] ys h g = (h, g)
leads-join edge a b end (x ∷ xs) ys h g = (h.0, leads-join edge x b end xs ys h.1 g)

-- a cycle from another of its connections on
pub cycle-turned : (edge : Conn → Conn → Bool) (s : Conn) (q : List Conn) → IsCycle edge q → is_among s q ≡ true
    → (es : List Conn) × IsCycle edge (s ∷ es) × (length (s ∷ es) ≡ length q)
cycle-turned edge s q h on =
    let t : (xs : List Conn) × (ys : List Conn) × (q ≡ xs ++ s ∷ ys) = split s q on in
    let g : IsCycle edge (t.0 ++ s ∷ t.1) = subst (IsCycle edge) t.2 h in
    let u : (es : List Conn) × IsCycle edge (s ∷ es) × (length (s ∷ es) ≡ length (t.0 ++ s ∷ t.1)) = go t.0 t.1 g in
    (u.0, u.1, u.2 ∙ ap (λ (l : List Conn). length l) (sym t.2))
  where
    go : (xs ys : List Conn) → IsCycle edge (xs ++ s ∷ ys) → (es : List Conn) × IsCycle edge (s ∷ es) × (length (s ∷ es) ≡ length (xs ++ s ∷ ys))
    go [] ys g = (ys, g, refl)
    go (c ∷ xs) ys g =
        let l : Leads edge c xs s × Leads edge s ys c = leads-split edge c s c xs ys g.1 in (
          ys ++ c ∷ xs,
          (different-turned (c ∷ xs) (s ∷ ys) g.0, leads-join edge s c s ys xs l.1 l.0),
          omega (arith, length-append {A = Conn} ys (c ∷ xs), length-append {A = Conn} xs (s ∷ ys)),
        )

-- each of a way has an edge
leads-out : (edge : Conn → Conn → Bool) (c end d : Conn) (cs : List Conn) → Leads edge c cs end → is_among d (c ∷ cs) ≡ true → (x : Conn) × (edge d x ≡ true)
leads-out edge c end d [] h on = elim (among-cases d c [] on) [
  | inl e ↦ let P : Conn → Type 0 = λ z. (x : Conn) × (edge z x ≡ true) in subst P (sym e) (end, h)
  | inr r ↦ absurd (both_ways false refl r)
]
leads-out edge c end d (x ∷ xs) h on = elim (among-cases d c (x ∷ xs) on) [
  | inl e ↦ let P : Conn → Type 0 = λ z. (y : Conn) × (edge z y ≡ true) in subst P (sym e) (x, h.0)
  | inr r ↦ leads-out edge x end d xs h.1 r
]

-- each of a cycle has an edge
pub cycle-out : (edge : Conn → Conn → Bool) (q : List Conn) (d : Conn) → IsCycle edge q → is_among d q ≡ true → (x : Conn) × (edge d x ≡ true)
cycle-out edge [] d h on = absurd h
cycle-out edge (c ∷ cs) d h on = leads-out edge c c d cs h.1 on

-- the order of paths of one length: by the list from the first connection on
abbrev pub ComesBefore : List Conn → List Conn → Type 0
ComesBefore [] q = ⊥
ComesBefore (e ∷ ps) [] = ⊥
ComesBefore (e ∷ ps) (f ∷ qs) = ComesBefore ps qs ⊎ ((ps ≡ qs) × (e.0 < f.0))

pub before-up : (p q es fs : List Conn) → ComesBefore p q → IsUpTo (reverse p ++ es) (reverse q ++ fs)
before-up [] q es fs h = absurd h
before-up (e ∷ ps) [] es fs h = absurd h
before-up (e ∷ ps) (f ∷ qs) es fs h =
    let up : IsUpTo (reverse ps ++ (e ∷ es)) (reverse qs ++ (f ∷ fs)) = elim h [
      | inl b ↦ before-up ps qs (e ∷ es) (f ∷ fs) b
      | inr s ↦
          let P : List Conn → Type 0 = λ z. IsUpTo (reverse ps ++ (e ∷ es)) (reverse z ++ (f ∷ fs)) in
          subst P s.0 (up-prefix (reverse ps) (e ∷ es) (f ∷ fs) (inl s.1))
    ] in
    rw (reverse-onto e ps es, reverse-onto f qs fs) up

-- ---- a set in which everyone has an edge inside it

-- different connections, to each an edge from the one before it in the list, all of the set
abbrev IsChain : (Conn → Conn → Bool) → List Conn → Type 0
IsChain edge [] = ⊥
IsChain edge (d ∷ []) = Unit {0}
IsChain edge (e ∷ d ∷ ds) = (edge d e ≡ true) × (is_among e (d ∷ ds) ≡ false) × IsChain edge (d ∷ ds)

chain-different : (edge : Conn → Conn → Bool) (p : List Conn) → IsChain edge p → AreDifferent p
chain-different edge [] h = tt
chain-different edge (d ∷ []) h = (refl, tt)
chain-different edge (e ∷ d ∷ ds) h = (h.1, chain-different edge (d ∷ ds) h.2)

-- the chain from one of its connections on
chain-path : (edge : Conn → Conn → Bool) (c e : Conn) (r : List Conn) → IsChain edge (e ∷ r) → is_among c (e ∷ r) ≡ true
    → (p : List Conn) × IsPath edge c (e ∷ p) × ((x : Conn) → is_among x p ≡ true → is_among x r ≡ true)
chain-path edge c e [] h on = elim (among-cases c e [] on) [
  | inl s ↦ ([], sym s, λ x i. i)
  | inr r ↦ absurd (both_ways false refl r)
]
chain-path edge c e (d ∷ ds) h on = elim (among-cases c e (d ∷ ds) on) [
  | inl s ↦ ([], sym s, λ x i. absurd (both_ways false refl i))
  | inr r ↦
      let t : (p : List Conn) × IsPath edge c (d ∷ p) × ((x : Conn) → is_among x p ≡ true → is_among x ds ≡ true) = chain-path edge c d ds h.2 r in
      let more : (x : Conn) → is_among x (d ∷ t.0) ≡ true → is_among x (d ∷ ds) ≡ true = λ x i. elim (among-cases x d t.0 i) [
        | inl s ↦ let P : Conn → Type 0 = λ z. is_among z (d ∷ ds) ≡ true in subst P (sym s) (among-first d ds)
        | inr i2 ↦ among-rest x d ds (t.2 x i2)
      ] in
      let none : is_among e (d ∷ t.0) ≡ false = absent e (d ∷ t.0) (d ∷ ds) more h.1 in
      (d ∷ t.0, (h.0, none, t.1), more)
]
  where
    absent : (x : Conn) (xs ys : List Conn) → ((y : Conn) → is_among y xs ≡ true → is_among y ys ≡ true) → is_among x ys ≡ false → is_among x xs ≡ false
    absent x xs ys sub out = decide (is_among x xs) refl where
      decide : (b : Bool) → is_among x xs ≡ b → is_among x xs ≡ false
      decide true e = absurd (both_ways (is_among x ys) out (sub x e))
      decide false e = e

-- a chain in the set grows until it closes
closes-inside : (edge : Conn → Conn → Bool) (set : List Conn)
    → ((c : Conn) → is_among c set ≡ true → (d : Conn) × (is_among d set ≡ true) × (edge c d ≡ true))
    → (k : ℕ) (e : Conn) (r : List Conn) → IsChain edge (e ∷ r) → ((x : Conn) → is_among x (e ∷ r) ≡ true → is_among x set ≡ true)
    → length set < k + length (e ∷ r) → (q : List Conn) × IsCycle edge q
closes-inside edge set on zero e r h sub l =
    let short : length (e ∷ r) ≤ length set = different-short (e ∷ r) set (chain-different edge (e ∷ r) h) sub in
    absurd (omega arith)
closes-inside edge set on (suc k) e r h sub l =
    let t : (d : Conn) × (is_among d set ≡ true) × (edge e d ≡ true) = on e (sub e (among-first e r)) in
    decide (λ d c s. closes-inside edge set on k d (e ∷ r) c s (omega arith)) t.0 t.1 t.2 (is_among t.0 (e ∷ r)) refl
  where
    decide : ((d : Conn) → IsChain edge (d ∷ e ∷ r) → ((x : Conn) → is_among x (d ∷ e ∷ r) ≡ true → is_among x set ≡ true) → (q : List Conn) × IsCycle edge q)
        → (d : Conn) → is_among d set ≡ true → edge e d ≡ true → (b : Bool) → is_among d (e ∷ r) ≡ b → (q : List Conn) × IsCycle edge q
    decide grow d i out true here =
        let t : (p : List Conn) × IsPath edge d (e ∷ p) × ((x : Conn) → is_among x p ≡ true → is_among x r ≡ true) = chain-path edge d e r h here in
        let c : (es : List Conn) × (reverse (e ∷ t.0) ≡ d ∷ es) × IsCycle edge (d ∷ es) = path-cycle edge d (e ∷ t.0) t.1 out in
        (d ∷ c.0, c.2)
    decide grow d i out false away =
        grow d (out, away, h)
        (λ x m. elim (among-cases x d (e ∷ r) m) [
          | inl s ↦ let P : Conn → Type 0 = λ z. is_among z set ≡ true in subst P (sym s) i
          | inr m2 ↦ sub x m2
        ])

-- where each of a set has an edge to one of it there is a cycle
pub cycle-inside : (edge : Conn → Conn → Bool) (set : List Conn) (c : Conn) → is_among c set ≡ true
    → ((d : Conn) → is_among d set ≡ true → (e : Conn) × (is_among e set ≡ true) × (edge d e ≡ true))
    → HasNoCycle edge → ⊥
cycle-inside edge set c i on none =
    let t : (q : List Conn) × IsCycle edge q = closes-inside edge set on (suc (length set)) c [] tt
    (λ x m. elim (among-cases x c [] m) [
      | inl s ↦ let P : Conn → Type 0 = λ z. is_among z set ≡ true in subst P (sym s) i
      | inr r ↦ absurd (both_ways false refl r)
    ])
    (omega arith) in
    none t.0 t.1
