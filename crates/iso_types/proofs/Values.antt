-- Values that are the same.
use Rattle.std.proofs.Common.{◌≡◌, ◌∙◌, ℕ, Bool, true, false, ◌&&◌, List, [], ◌∷◌, refl, ap}
use Rattle.std.specs.Cmp.Lexicographic.{pointwise}
use Rattle.std.specs.Prelude.{◌↔◌, IsTrue, nat_eq}
use Rattle.std.proofs.lemmas.Bool.{eqb-true}
use Rattle.std.proofs.lemmas.Bool.Decides.{Decides-int_eq}
use Rattle.std.proofs.lemmas.Cmp.{int_eq_equiv, nat_list_eq_equiv}
use Rattle.iso_types.specs.Value.{value_eq}
use Rattle.iso_types.specs.declared.value.Value.{Value}
use Rattle.iso_types.specs.declared.value.Value.TheVariants.{Int, Null, Text}

both : (a b : Bool) → (a && b) ≡ true → (a ≡ true) × (b ≡ true)
both true b e = (refl, e)
both false b e = cc

texts-are : (s t : List ℕ) → pointwise nat_eq s t ≡ true → s ≡ t
texts-are [] [] e = refl
texts-are [] (b ∷ t) e = cc
texts-are (a ∷ s) [] e = cc
texts-are (a ∷ s) (b ∷ t) e =
    let p = both (nat_eq a b) (pointwise nat_eq s t) e in
    ap (λ (x : ℕ). x ∷ s) (eqb-true a b p.0) ∙ ap (λ (l : List ℕ). b ∷ l) (texts-are s t p.1)

pub value-is : (v w : Value) → value_eq v w ≡ true → v ≡ w
unfolding value_eq
value-is Null Null e = refl
value-is (Int m) (Int n) e = ap Int ((Decides-int_eq m n).0 e)
value-is (Text s) (Text t) e = ap Text (texts-are s t e)
value-is v w e = cc

pub value-same : (v : Value) → value_eq v v ≡ true
unfolding value_eq
value-same Null = refl
value-same (Int m) = int_eq_equiv.refl m
value-same (Text s) = nat_list_eq_equiv.refl s

-- a test that tells whether two values are one
pub value-test : (v w : Value) (b : Bool) → (IsTrue b ↔ (v ≡ w)) → value_eq v w ≡ b
value-test v w true h = rw (h.0 refl) (value-same w)
value-test v w false h = go (value_eq v w) refl
  where
    wrong : false ≡ true → ⊥
    wrong k = cc

    go : (b : Bool) → value_eq v w ≡ b → b ≡ false
    go false e = refl
    go true e = absurd (wrong (h.1 (value-is v w e)))
