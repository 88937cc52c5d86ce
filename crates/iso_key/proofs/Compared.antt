-- How pairs compare by the order of their keys.
use Rattle.std.proofs.Common.{◌≡◌, Bool, true, false, refl, sym, subst, ◌∙◌}
use Rattle.std.specs.Ordering.{is_lt}
use Rattle.std.specs.Prelude.{nat_lt}
use Rattle.std.proofs.lemmas.Cmp.{tied_itself}
use Rattle.std.specs.declared.cmp.Ordering.TheVariants.{Equal, Greater, Less}
use Rattle.iso_key.proofs.Values.{value_is, value_same, value_tied, value_total}
use Rattle.iso_types.specs.Ids.{pair_lt}
use Rattle.iso_types.specs.Value.{value_cmp, value_eq, value_lt}
use Rattle.iso_types.specs.declared.value.Rid.{Rid}
use Rattle.iso_types.specs.declared.value.Value.{Value}

lt-by : (a b : Value) → value_lt a b ≡ is_lt (value_cmp a b)
unfolding value_lt
lt-by a b = refl

pub below-less : (a b : Value) (r s : Rid) → value_cmp a b ≡ Less → true ≡ pair_lt (a, r) (b, s)
below-less a b r s e = let l : value_lt a b ≡ true = rw (lt-by a b, e) refl in rw l refl

pub below-greater : (a b : Value) (r s : Rid) → value_cmp a b ≡ Greater → false ≡ pair_lt (a, r) (b, s)
below-greater a b r s e = let l : value_lt a b ≡ false = rw (lt-by a b, e) refl in rw (l, differ (value_eq a b) refl) refl
  where
    differ : (x : Bool) → value_eq a b ≡ x → value_eq a b ≡ false
    differ false p = p
    differ true p =
        let s : a ≡ b = value_is a b p in
        let k : value_cmp a b ≡ Equal = subst (λ (v : Value). value_cmp a v ≡ Equal) s (tied_itself value_total a) in
        let z : Greater ≡ Equal = sym e ∙ k in absurd (cc)

pub below-equal : (a b : Value) (r s : Rid) → value_cmp a b ≡ Equal → nat_lt r.0 s.0 ≡ pair_lt (a, r) (b, s)
below-equal a b r s e =
    let l : value_lt a b ≡ false = rw (lt-by a b, e) refl in
    let k : value_eq a b ≡ true = subst (λ (v : Value). value_eq a v ≡ true) (value_tied a b e) (value_same a) in
    rw (l, k) refl
