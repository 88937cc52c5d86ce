-- Open units are apart and have been begun.
use Rattle.std.proofs.Common.{◌≡◌, ◌+◌, ◌≤◌, ℕ, Bool, true, false, refl, ap, sym, ◌∙◌, arith, Some, None, Option, is_some, subst}
use Rattle.std.specs.Prelude.{if◌then◌else◌, unwrap_or}
use Rattle.iso_history.specs.After.{after, start}
use Rattle.iso_history.specs.Facts.{UnitsApart}
use Rattle.iso_history.specs.Units.{Turn, begun_by, turn_of, unit_by}
use Rattle.iso_history.specs.Units.Turn.{Begins, Ends, Stays}
use Rattle.iso_history.specs.World.{World}
use Rattle.iso_history.specs.declared.entry.Entry.{Entry}
use Rattle.iso_types.specs.Ids.{conn_eq}
use Rattle.iso_types.specs.declared.head.Head.{Head}
use Rattle.iso_types.specs.declared.value.Conn.{Conn}
use Rattle.iso_history.proofs.limits.Others.{at-other, at-same}
use Rattle.iso_history.proofs.limits.Waiting.{conn_eq-is, conn_eq-refl}

-- the open units of connections, of the units begun
abbrev pub AreBegun : ℕ → (Conn → Option ℕ) → Type 0
AreBegun begun f = (c : Conn) (u : ℕ) → f c ≡ Some u → (1 ≤ u) × (u ≤ begun)

abbrev pub AreApart : (Conn → Option ℕ) → Type 0
AreApart f = (c d : Conn) (u : ℕ) → f c ≡ Some u → f d ≡ Some u → conn_eq c d ≡ true

some-is : (a b : ℕ) → Some a ≡ Some b → a ≡ b
some-is a b e = cc

-- by what an entry does to units
begun-turn : (w : World) (t : Turn) → AreBegun w.begun w.unit → AreBegun (begun_by w t) (unit_by w t)
begun-turn w Stays s d u e = s d u e
begun-turn w (Ends c) s d u e = go (conn_eq d c) refl
  where
    go : (b : Bool) → conn_eq d c ≡ b → (1 ≤ u) × (u ≤ w.begun)
    go true f = let g = sym e ∙ ap (unit_by w (Ends c)) (conn_eq-is d c f) ∙ at-same w.unit c None in absurd (cc)
    go false f = s d u (sym (at-other w.unit c None d f) ∙ e)
begun-turn w (Begins c) s d u e = go (conn_eq d c) refl (w.unit c) refl
  where
    grows : (b : Bool) → w.begun ≤ (if b then w.begun else w.begun + 1)
    grows true = omega arith
    grows false = omega arith

    go : (b : Bool) → conn_eq d c ≡ b → (o : Option ℕ) → w.unit c ≡ o → (1 ≤ u) × (u ≤ begun_by w (Begins c))
    go false f o g = let h = s d u (sym (at-other w.unit c _ d f) ∙ e) in let k = grows (is_some (w.unit c)) in (h.0, omega (arith, h.1, k))
    go true f (Some v) g =
        let here = sym e ∙ ap (unit_by w (Begins c)) (conn_eq-is d c f) ∙ at-same w.unit c _ in
        let is : u ≡ v = some-is u v (here ∙ ap (λ o. Some (unwrap_or o (w.begun + 1))) g) in
        let h = s c v g in let k = grows (is_some (w.unit c)) in (omega (arith, h.0, is), omega (arith, h.1, is, k))
    go true f None g =
        let here = sym e ∙ ap (unit_by w (Begins c)) (conn_eq-is d c f) ∙ at-same w.unit c _ in
        let is : u ≡ w.begun + 1 = some-is u _ (here ∙ ap (λ o. Some (unwrap_or o (w.begun + 1))) g) in
        let more : begun_by w (Begins c) ≡ w.begun + 1 = ap (λ o. if is_some o then w.begun else w.begun + 1) g in
        (omega (arith, is), omega (arith, is, more))

apart-turn : (w : World) (t : Turn) → AreBegun w.begun w.unit → AreApart w.unit → AreApart (unit_by w t)
apart-turn w Stays b s d e u f g = s d e u f g
apart-turn w (Ends c) b s d e u f g = go (conn_eq d c) refl (conn_eq e c) refl
  where
    go : (x : Bool) → conn_eq d c ≡ x → (y : Bool) → conn_eq e c ≡ y → conn_eq d e ≡ true
    go true x y z = let h = sym f ∙ ap (unit_by w (Ends c)) (conn_eq-is d c x) ∙ at-same w.unit c None in absurd (cc)
    go false x true z = let h = sym g ∙ ap (unit_by w (Ends c)) (conn_eq-is e c z) ∙ at-same w.unit c None in absurd (cc)
    go false x false z = s d e u (sym (at-other w.unit c None d x) ∙ f) (sym (at-other w.unit c None e z) ∙ g)
apart-turn w (Begins c) b s d e u f g = go (conn_eq d c) refl (conn_eq e c) refl
  where
    new : ℕ
    new = unwrap_or (w.unit c) (w.begun + 1)

    -- another connection's unit is not the one that a Dispatch leaves open
    beside : (x : Conn) → conn_eq x c ≡ false → w.unit x ≡ Some u → u ≡ new → ⊥
    beside x ne h is = split (w.unit c) refl
      where
        split : (o : Option ℕ) → w.unit c ≡ o → ⊥
        split None k =
            let m : new ≡ w.begun + 1 = ap (λ o. unwrap_or o (w.begun + 1)) k in
            let l = b x u h in absurd (omega (arith, l.1, is, m))
        split (Some v) k =
            let m : new ≡ v = ap (λ o. unwrap_or o (w.begun + 1)) k in
            let t = s x c u h (k ∙ ap (λ z. Some z) (sym (is ∙ m))) in absurd (cc)

    here : (x : Conn) → conn_eq x c ≡ true → unit_by w (Begins c) x ≡ Some u → u ≡ new
    here x z h = some-is u new (sym h ∙ ap (unit_by w (Begins c)) (conn_eq-is x c z) ∙ at-same w.unit c (Some new))

    go : (x : Bool) → conn_eq d c ≡ x → (y : Bool) → conn_eq e c ≡ y → conn_eq d e ≡ true
    go true x true z = subst (λ k. conn_eq k e ≡ true) (sym (conn_eq-is d c x)) (subst (λ k. conn_eq c k ≡ true) (sym (conn_eq-is e c z)) (conn_eq-refl c))
    go true x false z = absurd (beside e z (sym (at-other w.unit c _ e z) ∙ g) (here d x f))
    go false x true z = absurd (beside d x (sym (at-other w.unit c _ d x) ∙ f) (here e z g))
    go false x false z = s d e u (sym (at-other w.unit c _ d x) ∙ f) (sym (at-other w.unit c _ e z) ∙ g)

pub units-after : (head : Head) (w : World) (e : Entry) → UnitsApart w → UnitsApart (after head w e)
units-after head w e s = record {
  begun = begun-turn w (turn_of e.who e.act) s.begun;
  apart = apart-turn w (turn_of e.who e.act) s.begun s.apart;
}

pub units-start : (head : Head) → UnitsApart (start head)
units-start head = record { begun = λ c u e. absurd (cc); apart = λ c d u e f. absurd (cc) }
