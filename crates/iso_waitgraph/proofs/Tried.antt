-- The paths that the definition of the chosen cycle tries: all of their length, in order; the first that closes is the least.
use Rattle.std.proofs.Common.{◌≡◌, ℕ, zero, suc, ◌+◌, ◌<◌, ◌≤◌, ◌⊎◌, inl, inr, Bool, true, false, not, List, [], ◌∷◌, ◌++◌, map, filter, find, flat_map, Option, Some, None, reverse, length, refl, sym, ◌∙◌, ap, subst, arith}
use Rattle.std.proofs.lemmas.Bool.{and_from, and_parts, both_ways, cases_lt, not-true}
use Rattle.iso_types.specs.Cycles.{closes, is_among, longer, shortest}
use Rattle.iso_types.specs.declared.value.Conn.{Conn}
use Rattle.iso_waitgraph.specs.Targets.{AreRising, AreTargets}
use Rattle.iso_waitgraph.proofs.Distances.{not-of}
use Rattle.iso_waitgraph.proofs.Members.{among-cases, among-first, among-rest}
use Rattle.iso_waitgraph.proofs.Paths.{Closes, ComesBefore, IsPath}

-- ---- lists of lists

abbrev pub IsIn : {A : Type 0} → List A → A → Type 0
IsIn [] x = ⊥
IsIn (y ∷ ys) x = (x ≡ y) ⊎ IsIn ys x

in-left : {A : Type 0} (xs ys : List A) (x : A) → IsIn xs x → IsIn (xs ++ ys) x
in-left [] ys x h = absurd h
in-left (z ∷ zs) ys x h = elim h [ inl e ↦ inl e | inr r ↦ inr (in-left zs ys x r) ]

in-right : {A : Type 0} (xs ys : List A) (x : A) → IsIn ys x → IsIn (xs ++ ys) x
in-right [] ys x h = h
in-right (z ∷ zs) ys x h = inr (in-right zs ys x h)

in-either : {A : Type 0} (xs ys : List A) (x : A) → IsIn (xs ++ ys) x → IsIn xs x ⊎ IsIn ys x
in-either [] ys x h = inr h
in-either (z ∷ zs) ys x h = elim h [
  | inl e ↦ inl (inl e)
  | inr r ↦ elim (in-either zs ys x r) [ inl a ↦ inl (inr a) | inr b ↦ inr b ]
]

in-parts : {A B : Type 0} (f : A → List B) (xs : List A) (y : B) → IsIn (flat_map f xs) y → (x : A) × IsIn xs x × IsIn (f x) y
in-parts f [] y h = absurd h
in-parts {A} {B} f (z ∷ zs) y h = elim (in-either (f z) (flat_map f zs) y h) [
  | inl a ↦ (z, inl refl, a)
  | inr b ↦ let t : (x : A) × IsIn zs x × IsIn (f x) y = in-parts f zs y b in (t.0, inr t.1, t.2)
]

in-flat : {A B : Type 0} (f : A → List B) (xs : List A) (x : A) (y : B) → IsIn xs x → IsIn (f x) y → IsIn (flat_map f xs) y
in-flat f [] x y h g = absurd h
in-flat {A} {B} f (z ∷ zs) x y h g = elim h [
  | inl e ↦ let P : A → Type 0 = λ u. IsIn (f u) y in in-left (f z) (flat_map f zs) y (subst P e g)
  | inr r ↦ in-right (f z) (flat_map f zs) y (in-flat f zs x y r g)
]

-- ---- paths in order

-- each path comes before those after it
abbrev pub AreInOrder : List (List Conn) → Type 0
AreInOrder [] = Unit {0}
AreInOrder (p ∷ ps) = ((q : List Conn) → IsIn ps q → ComesBefore p q) × AreInOrder ps

order-join : (xs ys : List (List Conn)) → AreInOrder xs → AreInOrder ys → ((x y : List Conn) → IsIn xs x → IsIn ys y → ComesBefore x y) → AreInOrder (xs ++ ys)
order-join [] ys a b h = b
order-join (x ∷ xs) ys a b h = (
  λ q on. elim (in-either xs ys q on) [ inl l ↦ a.0 q l | inr r ↦ h x q (inl refl) r ],
  order-join xs ys a.1 b (λ z y i j. h z y (inr i) j),
)

-- the first that passes is one of them, and comes before the others that pass
found-first : (test : List Conn → Bool) (ps : List (List Conn)) (p : List Conn) → AreInOrder ps → find test ps ≡ Some p
    → IsIn ps p × (test p ≡ true) × ((q : List Conn) → IsIn ps q → test q ≡ true → (q ≡ p) ⊎ ComesBefore p q)
found-first test [] p h e = cc
found-first test (x ∷ xs) p h e = decide (found-first test xs p h.1) (test x) refl where
  decide : (find test xs ≡ Some p → IsIn xs p × (test p ≡ true) × ((q : List Conn) → IsIn xs q → test q ≡ true → (q ≡ p) ⊎ ComesBefore p q))
      → (b : Bool) → test x ≡ b → IsIn (x ∷ xs) p × (test p ≡ true) × ((q : List Conn) → IsIn (x ∷ xs) q → test q ≡ true → (q ≡ p) ⊎ ComesBefore p q)
  decide ih true t =
      let here : Some x ≡ Some p = rw t at e in
      let same : x ≡ p = cc in
      let P : List Conn → Type 0 = λ z. IsIn (x ∷ xs) z × (test z ≡ true) × ((q : List Conn) → IsIn (x ∷ xs) q → test q ≡ true → (q ≡ z) ⊎ ComesBefore z q) in
      subst P same (inl refl, t, λ q on pass. elim on [ inl s ↦ inl s | inr r ↦ inr (h.0 q r) ])
  decide ih false f =
      let rest : find test xs ≡ Some p = rw f at e in
      let t : IsIn xs p × (test p ≡ true) × ((q : List Conn) → IsIn xs q → test q ≡ true → (q ≡ p) ⊎ ComesBefore p q) = ih rest in (
        inr t.0,
        t.1,
        λ q on pass. elim on [
          | inl s ↦ let P : List Conn → Type 0 = λ z. test z ≡ true in absurd (both_ways (test x) f (subst P s pass))
          | inr r ↦ t.2 q r pass
        ],
      )

found-none : {A : Type 0} (test : A → Bool) (ps : List A) → find test ps ≡ None → (q : A) → IsIn ps q → test q ≡ true → ⊥
found-none test [] e q h pass = h
found-none {A} test (x ∷ xs) e q h pass = decide (found-none test xs) (test x) refl where
  decide : (find test xs ≡ None → (z : A) → IsIn xs z → test z ≡ true → ⊥) → (b : Bool) → test x ≡ b → ⊥
  decide ih true t = let none : Some x ≡ None = rw t at e in cc
  decide ih false f = elim h [
    | inl s ↦ let P : A → Type 0 = λ z. test z ≡ true in both_ways (test x) f (subst P s pass)
    | inr r ↦ ih (rw f at e) q r pass
  ]

-- ---- one longer

-- a path with each of some connections in front, where the test passes
abbrev fronted : (Conn → Bool) → List Conn → List Conn → List (List Conn)
fronted test p cs = map (λ e. e ∷ p) (filter test cs)

fronted-is : (test : Conn → Bool) (p cs q : List Conn) → IsIn (fronted test p cs) q
    → (e : Conn) × (q ≡ e ∷ p) × (is_among e cs ≡ true) × (test e ≡ true)
fronted-is test p [] q h = absurd h
fronted-is test p (c ∷ cs) q h = decide (fronted-is test p cs q) (test c) refl where
  decide : (IsIn (fronted test p cs) q → (e : Conn) × (q ≡ e ∷ p) × (is_among e cs ≡ true) × (test e ≡ true))
      → (b : Bool) → test c ≡ b → (e : Conn) × (q ≡ e ∷ p) × (is_among e (c ∷ cs) ≡ true) × (test e ≡ true)
  decide ih true t =
      let g : IsIn ((c ∷ p) ∷ fronted test p cs) q = rw t at h in
      elim g [
        | inl e ↦ (c, e, among-first c cs, t)
        | inr r ↦ let w : (e : Conn) × (q ≡ e ∷ p) × (is_among e cs ≡ true) × (test e ≡ true) = ih r in (w.0, w.1, among-rest w.0 c cs w.2, w.3)
      ]
  decide ih false f =
      let g : IsIn (fronted test p cs) q = rw f at h in
      let w : (e : Conn) × (q ≡ e ∷ p) × (is_among e cs ≡ true) × (test e ≡ true) = ih g in
      (w.0, w.1, among-rest w.0 c cs w.2, w.3)

fronted-has : (test : Conn → Bool) (p cs : List Conn) (e : Conn) → is_among e cs ≡ true → test e ≡ true → IsIn (fronted test p cs) (e ∷ p)
fronted-has test p [] e on pass = absurd (both_ways false refl on)
fronted-has test p (c ∷ cs) e on pass = decide (λ r. fronted-has test p cs e r pass) (test c) refl where
  decide : (is_among e cs ≡ true → IsIn (fronted test p cs) (e ∷ p)) → (b : Bool) → test c ≡ b → IsIn (fronted test p (c ∷ cs)) (e ∷ p)
  decide ih true t = elim (among-cases e c cs on) [
    | inl s ↦ rw t (inl (ap (λ (z : Conn). z ∷ p) s))
    | inr r ↦ rw t (inr (ih r))
  ]
  decide ih false f = elim (among-cases e c cs on) [
    | inl s ↦ let P : Conn → Type 0 = λ z. test z ≡ true in absurd (both_ways (test c) f (subst P s pass))
    | inr r ↦ rw f (ih r)
  ]

fronted-order : (test : Conn → Bool) (p cs : List Conn) → AreRising cs → AreInOrder (fronted test p cs)
fronted-order test p [] h = tt
fronted-order test p (c ∷ cs) h = decide (fronted-order test p cs h.1) (test c) refl where
  after : (q : List Conn) → IsIn (fronted test p cs) q → ComesBefore (c ∷ p) q
  after q on =
      let w : (e : Conn) × (q ≡ e ∷ p) × (is_among e cs ≡ true) × (test e ≡ true) = fronted-is test p cs q on in
      let P : List Conn → Type 0 = λ z. ComesBefore (c ∷ p) z in
      subst P (sym w.1) (inr (refl, h.0 w.0 w.2))

  decide : AreInOrder (fronted test p cs) → (b : Bool) → test c ≡ b → AreInOrder (fronted test p (c ∷ cs))
  decide ih true t = rw t (after, ih)
  decide ih false f = rw f ih

filter-among : (p : Conn → Bool) (d : Conn) (cs : List Conn) → is_among d (filter p cs) ≡ true → is_among d cs ≡ true
filter-among p d [] on = on
filter-among p d (c ∷ cs) on = decide (filter-among p d cs) (p c) refl where
  decide : (is_among d (filter p cs) ≡ true → is_among d cs ≡ true) → (b : Bool) → p c ≡ b → is_among d (c ∷ cs) ≡ true
  decide ih true t = elim (among-cases d c (filter p cs) (rw t at on)) [
    | inl s ↦ let P : Conn → Type 0 = λ z. is_among z (c ∷ cs) ≡ true in subst P (sym s) (among-first c cs)
    | inr r ↦ among-rest d c cs (ih r)
  ]
  decide ih false f = among-rest d c cs (ih (rw f at on))

rising-filter : (p : Conn → Bool) (cs : List Conn) → AreRising cs → AreRising (filter p cs)
rising-filter p [] h = tt
rising-filter p (c ∷ cs) h = decide (rising-filter p cs h.1) (p c) refl where
  decide : AreRising (filter p cs) → (b : Bool) → p c ≡ b → AreRising (filter p (c ∷ cs))
  decide ih true t = rw t (λ d on. h.0 d (filter-among p d cs on), ih)
  decide ih false f = rw f ih

-- ---- of edges

module _ (edge : Conn → Conn → Bool) (edges : Conn → List Conn) (all : List Conn) (h : AreTargets edge edges all) where
  pub targets-rise : (c : Conn) → AreRising (edges c)
  targets-rise c = let w : (p : Conn → Bool) × (edges c ≡ filter p all) = h.some_of c in subst AreRising (sym w.1) (rising-filter w.0 all h.rising)

  pub targets-within : (c d : Conn) → is_among d (edges c) ≡ true → is_among d all ≡ true
  targets-within c d on =
      let w : (p : Conn → Bool) × (edges c ≡ filter p all) = h.some_of c in
      let P : List Conn → Type 0 = λ z. is_among d z ≡ true in
      filter-among w.0 d all (subst P w.1 on)

  pub edge-parts : (c d : Conn) → edge c d ≡ true → (is_among c all ≡ true) × (is_among d (edges c) ≡ true)
  edge-parts c d e = and_parts (is_among c all) (is_among d (edges c)) (sym (h.same c d) ∙ e)

  pub edge-from : (c d : Conn) → is_among c all ≡ true → is_among d (edges c) ≡ true → edge c d ≡ true
  edge-from c d a b = h.same c d ∙ and_from (is_among c all) (is_among d (edges c)) a b

  -- the last of a path is one of the connections
  head-within : (c d : Conn) (ds : List Conn) → is_among c all ≡ true → IsPath edge c (d ∷ ds) → is_among d all ≡ true
  head-within c d [] on p = let P : Conn → Type 0 = λ z. is_among z all ≡ true in subst P (sym p) on
  head-within c d (e ∷ es) on p = targets-within e d (edge-parts e d p.0).1

  closes-from : (c : Conn) (p : List Conn) → Closes edge c p → closes edges c p ≡ true
  closes-from c [] e = absurd e
  closes-from c (d ∷ ds) e = (edge-parts d c e).1

  closes-to : (c : Conn) (p : List Conn) → is_among c all ≡ true → IsPath edge c p → closes edges c p ≡ true → Closes edge c p
  closes-to c [] on p e = absurd p
  closes-to c (d ∷ ds) on p e = edge-from d c (head-within c d ds on p) e

  -- all paths of this many edges, in order
  pub record AreTried (c : Conn) (k : ℕ) (paths : List (List Conn)) : Type 0 where
    pub sound : (p : List Conn) → IsIn paths p → IsPath edge c p × (length p ≡ suc k)
    pub whole : (p : List Conn) → IsPath edge c p → length p ≡ suc k → IsIn paths p
    pub order : AreInOrder paths

  -- one path alone has no edge
  pub tried-none : (c : Conn) → AreTried c 0 ((c ∷ []) ∷ [])
  tried-none c = record {
    sound = λ p on. elim on [
      | inl e ↦ let P : List Conn → Type 0 = λ z. IsPath edge c z × (length z ≡ 1) in subst P (sym e) (refl, refl)
      | inr r ↦ absurd r
    ];
    whole = alone;
    order = (λ q on. absurd on, tt);
  } where
    alone : (p : List Conn) → IsPath edge c p → length p ≡ 1 → IsIn ((c ∷ []) ∷ []) p
    alone [] p e = absurd p
    alone (d ∷ []) p e = inl (ap (λ (z : Conn). z ∷ []) p)
    alone (d ∷ x ∷ xs) p e = absurd (omega (arith, e))

  -- what is one longer than a path
  longer-is : (p q : List Conn) → IsIn (longer edges p) q → (e : Conn) × (q ≡ e ∷ p)
  longer-is [] q on = absurd on
  longer-is (d ∷ ds) q on =
      let w : (e : Conn) × (q ≡ e ∷ d ∷ ds) × (is_among e (edges d) ≡ true) × (not (is_among e (d ∷ ds)) ≡ true) =
      fronted-is (λ e. not (is_among e (d ∷ ds))) (d ∷ ds) (edges d) q on in
      (w.0, w.1)

  longer-path : (c : Conn) (p q : List Conn) → is_among c all ≡ true → IsPath edge c p → IsIn (longer edges p) q → IsPath edge c q
  longer-path c [] q on h i = absurd h
  longer-path c (d ∷ ds) q on h i =
      let w : (e : Conn) × (q ≡ e ∷ d ∷ ds) × (is_among e (edges d) ≡ true) × (not (is_among e (d ∷ ds)) ≡ true) =
      fronted-is (λ e. not (is_among e (d ∷ ds))) (d ∷ ds) (edges d) q i in
      let one : edge d w.0 ≡ true = edge-from d w.0 (head-within c d ds on h) w.2 in
      subst (IsPath edge c) (sym w.1) (one, not-true (is_among w.0 (d ∷ ds)) w.3, h)

  longer-order : (p : List Conn) → AreInOrder (longer edges p)
  longer-order [] = tt
  longer-order (d ∷ ds) = fronted-order (λ e. not (is_among e (d ∷ ds))) (d ∷ ds) (edges d) (targets-rise d)

  all-longer-order : (paths : List (List Conn)) → AreInOrder paths → AreInOrder (flat_map (longer edges) paths)
  all-longer-order [] a = tt
  all-longer-order (p ∷ ps) a =
      order-join (longer edges p) (flat_map (longer edges) ps) (longer-order p) (all-longer-order ps a.1) between where
        between : (x y : List Conn) → IsIn (longer edges p) x → IsIn (flat_map (longer edges) ps) y → ComesBefore x y
        between x y i j =
            let v : (e : Conn) × (x ≡ e ∷ p) = longer-is p x i in
            let t : (q : List Conn) × IsIn ps q × IsIn (longer edges q) y = in-parts (longer edges) ps y j in
            let w : (e : Conn) × (y ≡ e ∷ t.0) = longer-is t.0 y t.2 in
            let P : List Conn → Type 0 = λ z. ComesBefore z y in
            let Q : List Conn → Type 0 = λ z. ComesBefore (v.0 ∷ p) z in
            subst P (sym v.1) (subst Q (sym w.1) (inl (a.0 t.0 t.1)))

  -- all paths of one edge more
  tried-more : (c : Conn) (k : ℕ) (paths : List (List Conn)) → is_among c all ≡ true → AreTried c k paths → AreTried c (suc k) (flat_map (longer edges) paths)
  tried-more c k paths on t = record { sound = sound; whole = whole; order = all-longer-order paths t.order } where
    sound : (q : List Conn) → IsIn (flat_map (longer edges) paths) q → IsPath edge c q × (length q ≡ suc (suc k))
    sound q i =
        let w : (p : List Conn) × IsIn paths p × IsIn (longer edges p) q = in-parts (longer edges) paths q i in
        let s : IsPath edge c w.0 × (length w.0 ≡ suc k) = t.sound w.0 w.1 in
        let e : (e : Conn) × (q ≡ e ∷ w.0) = longer-is w.0 q w.2 in
        (longer-path c w.0 q on s.0 w.2, ap (λ (z : List Conn). length z) e.1 ∙ ap suc s.1)

    whole : (q : List Conn) → IsPath edge c q → length q ≡ suc (suc k) → IsIn (flat_map (longer edges) paths) q
    whole [] h e = absurd h
    whole (x ∷ []) h e = absurd (omega (arith, e))
    whole (x ∷ d ∷ ds) h e =
        let before : IsIn paths (d ∷ ds) = t.whole (d ∷ ds) h.2 (omega (arith, e)) in
        let one : IsIn (longer edges (d ∷ ds)) (x ∷ d ∷ ds) =
        fronted-has (λ z. not (is_among z (d ∷ ds))) (d ∷ ds) (edges d) x (edge-parts d x h.0).1 (not-of (is_among x (d ∷ ds)) h.1) in
        in-flat (longer edges) paths (d ∷ ds) (x ∷ d ∷ ds) before one

  -- what the search gives: none of the paths that it may try closes; or the first that does, reversed
  abbrev pub Answers : Conn → ℕ → ℕ → Option (List Conn) → Type 0
  Answers c k n None = (p : List Conn) → IsPath edge c p → Closes edge c p → k < length p → length p ≤ k + n → ⊥
  Answers c k n (Some q) = (p : List Conn) × (q ≡ reverse p) × IsPath edge c p × Closes edge c p
      × ((x : List Conn) → IsPath edge c x → Closes edge c x → k < length x → length p ≤ length x)
      × ((x : List Conn) → IsPath edge c x → Closes edge c x → length x ≡ length p → (x ≡ p) ⊎ ComesBefore p x)

  answers-later : (c : Conn) (k n : ℕ) (o : Option (List Conn)) → ((p : List Conn) → IsPath edge c p → Closes edge c p → length p ≡ suc k → ⊥)
      → Answers c (suc k) n o → Answers c k (suc n) o
  answers-later c k n None none a = λ p h e l m. late p h e l m (length p) refl where
    late : (p : List Conn) → IsPath edge c p → Closes edge c p → k < length p → length p ≤ k + suc n → (i : ℕ) → length p ≡ i → ⊥
    late p h e l m i is = elim (cases_lt (suc k) (length p)) [
      | inl g ↦ a p h e g (omega arith)
      | inr g ↦ none p h e (omega arith)
    ]
  answers-later c k n (Some q) none a = (
    a.0,
    a.1,
    a.2,
    a.3,
    λ x h e l. elim (cases_lt (suc k) (length x)) [ inl g ↦ a.4 x h e g | inr g ↦ absurd (none x h e (omega arith)) ],
    a.5,
  )

  pub answers : (c : Conn) (k n : ℕ) (paths : List (List Conn)) → is_among c all ≡ true → AreTried c k paths → Answers c k n (shortest edges c n paths)
  answers c k zero paths on t = λ p h e l m. omega arith
  answers c k (suc n) paths on t =
      decide (answers c (suc k) n (flat_map (longer edges) paths) on (tried-more c k paths on t)) (find (closes edges c) paths) refl where
        decide : Answers c (suc k) n (shortest edges c n (flat_map (longer edges) paths))
            → (o : Option (List Conn)) → find (closes edges c) paths ≡ o
            → Answers c k (suc n) (elim o [ None ↦ shortest edges c n (flat_map (longer edges) paths) | Some p ↦ Some (reverse p) ])
        decide ih None e =
            (answers-later c k n (shortest edges c n (flat_map (longer edges) paths))
            (λ p h s l. found-none (closes edges c) paths e p (t.whole p h l) (closes-from c p s)) ih)
        decide ih (Some p) e =
            let f : IsIn paths p × (closes edges c p ≡ true) × ((q : List Conn) → IsIn paths q → closes edges c q ≡ true → (q ≡ p) ⊎ ComesBefore p q) =
            found-first (closes edges c) paths p t.order e in
            let s : IsPath edge c p × (length p ≡ suc k) = t.sound p f.0 in
            let long : length p ≡ suc k = s.1 in (
              p,
              refl,
              s.0,
              closes-to c p on s.0 f.1,
              λ x h g l. omega arith,
              λ x h g l. f.2 x (t.whole x h (omega arith)) (closes-from c x g),
            )
