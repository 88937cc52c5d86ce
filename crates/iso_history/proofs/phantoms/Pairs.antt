-- Lists of pairs in order.
use Rattle.std.proofs.Common.{◌≡◌, ℕ, Bool, true, false, ◌&&◌, refl, ap, sym, ◌∙◌, arith, subst}
use Rattle.std.specs.Prelude.{nat_lt}
use Rattle.std.proofs.lemmas.Bool.Decides.{nat_tests}
use Rattle.std.proofs.lemmas.Bool.{eqb-true}
use Rattle.std.proofs.lemmas.Cmp.{nat_eq_equiv}
use Rattle.iso_history.proofs.phantoms.Tests.{both, either}
use Rattle.iso_history.proofs.phantoms.Values.{lt-asym, lt-irrefl, lt-total, lt-trans, value_is, value_same}
use Rattle.iso_types.specs.Ids.{pair_eq, pair_lt, rid_eq}
use Rattle.iso_types.specs.Value.{value_eq, value_lt}
use Rattle.iso_types.specs.declared.value.Rid.{Rid}
use Rattle.iso_types.specs.declared.value.Value.{Value}

pub rid_is : (r s : Rid) → rid_eq r s ≡ true → r ≡ s
rid_is r s e = ap (λ (k : ℕ). record { 0 = k }) (eqb-true r.0 s.0 e)

-- pairs that are the same are equal
pub pair_is : (p q : Value × Rid) → pair_eq p q ≡ true → p ≡ q
pair_is p q e =
    let b = both (value_eq p.0 q.0) (rid_eq p.1 q.1) e in
    ap (λ (v : Value). (v, p.1)) (value_is p.0 q.0 b.0) ∙ ap (λ (r : Rid). (q.0, r)) (rid_is p.1 q.1 b.1)

pub pair_same : (p : Value × Rid) → pair_eq p p ≡ true
pair_same p = rw (value_same p.0) (nat_eq_equiv.refl p.1.0)

-- what is not below as a pair is not below as a key
pub ge-key : (p q : Value × Rid) → pair_lt p q ≡ false → value_lt p.0 q.0 ≡ false
ge-key p q e = (either (value_lt p.0 q.0) (value_eq p.0 q.0 && nat_lt p.1.0 q.1.0) e).0

-- a lesser key makes a lesser pair
pub key-lt : (p q : Value × Rid) → value_lt p.0 q.0 ≡ true → pair_lt p q ≡ true
key-lt p q e = rw e refl

pub pair-irrefl : (p : Value × Rid) → pair_lt p p ≡ false
pair-irrefl p = rw (lt-irrefl p.0, value_same p.0) (grind (arith, nat_tests))

-- a lesser pair has no greater key
pub lt-key : (p q : Value × Rid) → pair_lt p q ≡ true → value_lt q.0 p.0 ≡ false
lt-key p q e = go (value_lt p.0 q.0) refl
  where
    go : (b : Bool) → value_lt p.0 q.0 ≡ b → value_lt q.0 p.0 ≡ false
    go true h = lt-asym p.0 q.0 h
    go false h =
        let s : p.0 ≡ q.0 = value_is p.0 q.0 (both (value_eq p.0 q.0) (nat_lt p.1.0 q.1.0) (rw h at e)).0 in
        subst (λ (v : Value). value_lt v p.0 ≡ false) s (lt-irrefl p.0)

-- pairs of which none is less are equal
pub pair-total : (p q : Value × Rid) → pair_lt p q ≡ false → pair_lt q p ≡ false → p ≡ q
pair-total p q e f =
    let a = either (value_lt p.0 q.0) (value_eq p.0 q.0 && nat_lt p.1.0 q.1.0) e in
    let b = either (value_lt q.0 p.0) (value_eq q.0 p.0 && nat_lt q.1.0 p.1.0) f in
    let s : p.0 ≡ q.0 = lt-total p.0 q.0 a.0 b.0 in
    let u : nat_lt p.1.0 q.1.0 ≡ false = rw (subst (λ (v : Value). value_eq p.0 v ≡ true) s (value_same p.0)) at a.1 in
    let v : nat_lt q.1.0 p.1.0 ≡ false = rw (subst (λ (v : Value). value_eq q.0 v ≡ true) (sym s) (value_same q.0)) at b.1 in
    let k : rid_eq p.1 q.1 ≡ true = grind (arith, nat_tests) in
    ap (λ (v : Value). (v, p.1)) s ∙ ap (λ (r : Rid). (q.0, r)) (rid_is p.1 q.1 k)

pub pair-trans : (p q r : Value × Rid) → pair_lt p q ≡ true → pair_lt q r ≡ true → pair_lt p r ≡ true
pair-trans p q r e f = go (value_lt p.0 q.0) refl (value_lt q.0 r.0) refl
  where
    go : (a : Bool) → value_lt p.0 q.0 ≡ a → (b : Bool) → value_lt q.0 r.0 ≡ b → pair_lt p r ≡ true
    go true h true k = key-lt p r (lt-trans p.0 q.0 r.0 h k)
    go true h false k =
        let s : q.0 ≡ r.0 = value_is q.0 r.0 (both (value_eq q.0 r.0) (nat_lt q.1.0 r.1.0) (rw k at f)).0 in
        key-lt p r (subst (λ (v : Value). value_lt p.0 v ≡ true) s h)
    go false h true k =
        let s : p.0 ≡ q.0 = value_is p.0 q.0 (both (value_eq p.0 q.0) (nat_lt p.1.0 q.1.0) (rw h at e)).0 in
        key-lt p r (subst (λ (v : Value). value_lt v r.0 ≡ true) (sym s) k)
    go false h false k =
        let x = both (value_eq p.0 q.0) (nat_lt p.1.0 q.1.0) (rw h at e) in
        let y = both (value_eq q.0 r.0) (nat_lt q.1.0 r.1.0) (rw k at f) in
        let s : p.0 ≡ r.0 = value_is p.0 q.0 x.0 ∙ value_is q.0 r.0 y.0 in
        let z : value_eq p.0 r.0 ≡ true = subst (λ (v : Value). value_eq p.0 v ≡ true) s (value_same p.0) in
        let x1 = x.1 in let y1 = y.1 in
        let n : nat_lt p.1.0 r.1.0 ≡ true = grind (arith, nat_tests) in
        let l : value_lt p.0 r.0 ≡ false = subst (λ (v : Value). value_lt p.0 v ≡ false) s (lt-irrefl p.0) in
        rw (l, z) n
