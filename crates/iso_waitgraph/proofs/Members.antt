-- Lists of different connections: reversed, turned, and no longer than a list that has them all.
use Rattle.std.proofs.Common.{◌≡◌, suc, ◌≤◌, ◌⊎◌, inl, inr, Bool, true, false, ◌||◌, ◌==◌, List, [], ◌∷◌, ◌++◌, reverse, length, refl, sym, ◌∙◌, ap, subst, arith, append_assoc}
use Rattle.std.proofs.lemmas.Bool.{cases_Bool, eq-eqb, eqb-true, or_cases, both_ways}
use Rattle.std.proofs.lemmas.List.{reverse-append}
use Rattle.std.proofs.lemmas.List.Folds.{list_any-append}
use Rattle.iso_types.specs.Cycles.{AreDifferent, IsUpTo, is_among}
use Rattle.iso_types.specs.Ids.{conn_eq}
use Rattle.iso_types.specs.declared.value.Conn.{Conn}
use Rattle.iso_waitgraph.proofs.Sets.{or-left, or-right}
use Rattle.iso_waitgraph.proofs.Ways.{conn-is}

pub or-neither : (a b : Bool) → a ≡ false → b ≡ false → (a || b) ≡ false
or-neither a b h g = rw h g

pub among-first : (c : Conn) (cs : List Conn) → is_among c (c ∷ cs) ≡ true
among-first c cs = or-left (c.0 == c.0) (is_among c cs) (eq-eqb c.0 c.0 refl)

pub among-rest : (c d : Conn) (cs : List Conn) → is_among c cs ≡ true → is_among c (d ∷ cs) ≡ true
among-rest c d cs h = or-right (c.0 == d.0) (is_among c cs) h

pub among-cases : (c d : Conn) (cs : List Conn) → is_among c (d ∷ cs) ≡ true → (c ≡ d) ⊎ (is_among c cs ≡ true)
among-cases c d cs h = elim (or_cases (c.0 == d.0) (is_among c cs) h) [ inl e ↦ inl (conn-is c d (eqb-true c.0 d.0 e)) | inr r ↦ inr r ]

-- one of a list is none that the list does not have
pub other : (c d : Conn) (cs : List Conn) → is_among c cs ≡ true → is_among d cs ≡ false → (c.0 == d.0) ≡ false
other c d cs h g =
    elim (cases_Bool (c.0 == d.0)) [
      | inl t ↦
          let P : Conn → Type 0 = λ x. is_among x cs ≡ true in
          absurd (both_ways (is_among d cs) g (subst P (conn-is c d (eqb-true c.0 d.0 t)) h))
      | inr f ↦ f
    ]

pub among-append : (c : Conn) (xs ys : List Conn) → is_among c (xs ++ ys) ≡ (is_among c xs || is_among c ys)
among-append c xs ys = list_any-append (conn_eq c) xs ys

-- no connection is in both lists
abbrev pub AreApart : List Conn → List Conn → Type 0
AreApart xs ys = (c : Conn) → is_among c xs ≡ true → is_among c ys ≡ false

apart-turned : (xs ys : List Conn) → AreApart xs ys → AreApart ys xs
apart-turned xs ys h c on =
    elim (cases_Bool (is_among c xs)) [
      | inl t ↦ absurd (both_ways (is_among c ys) (h c t) on)
      | inr f ↦ f
    ]

different-join : (xs ys : List Conn) → AreDifferent xs → AreDifferent ys → AreApart xs ys → AreDifferent (xs ++ ys)
different-join [] ys a b h = b
different-join (x ∷ xs) ys a b h = (
  among-append x xs ys ∙ or-neither (is_among x xs) (is_among x ys) a.0 (h x (among-first x xs)),
  different-join xs ys a.1 b (λ c on. h c (among-rest c x xs on)),
)

different-parts : (xs ys : List Conn) → AreDifferent (xs ++ ys) → AreDifferent xs × AreDifferent ys × AreApart xs ys
different-parts [] ys h = (tt, h, λ c on. absurd (both_ways false refl on))
different-parts (x ∷ xs) ys h =
    let t : AreDifferent xs × AreDifferent ys × AreApart xs ys = different-parts xs ys h.1 in
    let none : (is_among x xs || is_among x ys) ≡ false = sym (among-append x xs ys) ∙ h.0 in
    let first : is_among x xs ≡ false = neither-left (is_among x xs) (is_among x ys) none in
    let second : is_among x ys ≡ false = neither-right (is_among x xs) (is_among x ys) none in (
      (first, t.0),
      t.1,
      λ c on. elim (among-cases c x xs on) [
        | inl e ↦ let P : Conn → Type 0 = λ z. is_among z ys ≡ false in subst P (sym e) second
        | inr r ↦ t.2 c r
      ],
    )
  where
    neither-left : (a b : Bool) → (a || b) ≡ false → a ≡ false
    neither-left false b h = refl
    neither-left true b h = h

    neither-right : (a b : Bool) → (a || b) ≡ false → b ≡ false
    neither-right false b h = h
    neither-right true b h = absurd (both_ways true h refl)

-- a list that is turned has different connections, as before
pub different-turned : (xs ys : List Conn) → AreDifferent (xs ++ ys) → AreDifferent (ys ++ xs)
different-turned xs ys h =
    let t : AreDifferent xs × AreDifferent ys × AreApart xs ys = different-parts xs ys h in
    different-join ys xs t.1 t.0 (apart-turned xs ys t.2)

pub reverse-onto : (c : Conn) (ps xs : List Conn) → reverse (c ∷ ps) ++ xs ≡ reverse ps ++ (c ∷ xs)
reverse-onto c ps xs = ap (λ (l : List Conn). l ++ xs) (reverse-append {A = Conn} (c ∷ []) ps) ∙ append_assoc (reverse ps) (c ∷ []) xs

pub different-reversed : (ps xs : List Conn) → AreDifferent ps → AreDifferent xs → AreApart ps xs → AreDifferent (reverse ps ++ xs)
different-reversed [] xs a b h = b
different-reversed (p ∷ ps) xs a b h =
    subst AreDifferent (sym (reverse-onto p ps xs)) (different-reversed ps (p ∷ xs) a.1 (h p (among-first p ps), b)
    (λ c on. or-neither (c.0 == p.0) (is_among c xs) (other c p ps on a.0) (h c (among-rest c p ps on))))

-- the list before and behind one of its connections
pub split : (s : Conn) (q : List Conn) → is_among s q ≡ true → (xs : List Conn) × (ys : List Conn) × (q ≡ xs ++ s ∷ ys)
split s [] h = absurd (both_ways false refl h)
split s (c ∷ cs) h = elim (among-cases s c cs h) [
  | inl e ↦ ([], cs, ap (λ (x : Conn). x ∷ cs) (sym e))
  | inr r ↦ let t : (xs : List Conn) × (ys : List Conn) × (cs ≡ xs ++ s ∷ ys) = split s cs r in (c ∷ t.0, t.1, ap (λ (l : List Conn). c ∷ l) t.2)
]

-- a list without one of its connections
taken : (x : Conn) (ys : List Conn) → is_among x ys ≡ true
    → (zs : List Conn) × (length ys ≡ suc (length zs)) × ((y : Conn) → is_among y ys ≡ true → (y.0 == x.0) ≡ false → is_among y zs ≡ true)
taken x [] h = absurd (both_ways false refl h)
taken x (c ∷ ys) h = elim (among-cases x c ys h) [
  | inl e ↦ (
    ys,
    refl,
    λ y on out. elim (among-cases y c ys on) [
      | inl s ↦ absurd (both_ways (y.0 == x.0) out (eq-eqb y.0 x.0 (ap (λ (z : Conn). z.0) (s ∙ sym e))))
      | inr r ↦ r
    ],
  )
  | inr r ↦
      let t : (zs : List Conn) × (length ys ≡ suc (length zs)) × ((y : Conn) → is_among y ys ≡ true → (y.0 == x.0) ≡ false → is_among y zs ≡ true) =
      taken x ys r in (
        c ∷ t.0,
        ap suc t.1,
        λ y on out. elim (among-cases y c ys on) [
          | inl s ↦ let P : Conn → Type 0 = λ z. is_among z (c ∷ t.0) ≡ true in subst P (sym s) (among-first c t.0)
          | inr i ↦ among-rest y c t.0 (t.2 y i out)
        ],
      )
]

-- different connections of a list are at most as many as it has
pub different-short : (xs ys : List Conn) → AreDifferent xs → ((c : Conn) → is_among c xs ≡ true → is_among c ys ≡ true) → length xs ≤ length ys
different-short [] ys a h = omega arith
different-short (x ∷ xs) ys a h =
    let t : (zs : List Conn) × (length ys ≡ suc (length zs)) × ((y : Conn) → is_among y ys ≡ true → (y.0 == x.0) ≡ false → is_among y zs ≡ true) =
    taken x ys (h x (among-first x xs)) in
    let rest : length xs ≤ length t.0 = different-short xs t.0 a.1 (λ c on. t.2 c (h c (among-rest c x xs on)) (other c x xs on a.0)) in
    let full : length ys ≡ suc (length t.0) = t.1 in
    omega arith

-- the order of lists
pub up-refl : (xs : List Conn) → IsUpTo xs xs
up-refl [] = tt
up-refl (x ∷ xs) = inr (refl, up-refl xs)

pub up-prefix : (zs xs ys : List Conn) → IsUpTo xs ys → IsUpTo (zs ++ xs) (zs ++ ys)
up-prefix [] xs ys h = h
up-prefix (z ∷ zs) xs ys h = inr (refl, up-prefix zs xs ys h)

pub up-both : (xs ys : List Conn) → length xs ≡ length ys → IsUpTo xs ys → IsUpTo ys xs → xs ≡ ys
up-both [] [] e h g = refl
up-both [] (y ∷ ys) e h g = absurd (omega (arith, e))
up-both (x ∷ xs) [] e h g = absurd h
up-both (x ∷ xs) (y ∷ ys) e h g = elim h [
  | inl l ↦ elim g [
    | inl m ↦ absurd (omega arith)
    | inr s ↦ let same : y.0 ≡ x.0 = ap (λ (z : Conn). z.0) s.0 in absurd (omega arith)
  ]
  | inr s ↦ elim g [
    | inl m ↦ let same : x.0 ≡ y.0 = ap (λ (z : Conn). z.0) s.0 in absurd (omega arith)
    | inr t ↦
        let rest : xs ≡ ys = up-both xs ys (omega (arith, e)) s.1 t.1 in
        ap (λ (z : Conn). z ∷ xs) s.0 ∙ ap (λ (l : List Conn). y ∷ l) rest
  ]
]
