-- The order of values and of pairs, as tests.
use Rattle.std.proofs.Common.{◌≡◌, ℕ, Bool, true, false, List, [], ◌∷◌, refl, ap, ◌∙◌, subst}
use Rattle.std.specs.Cmp.{IsTotalOrder}
use Rattle.std.specs.Cmp.Lexicographic.{pointwise}
use Rattle.std.specs.Ordering.{is_lt, ordering_reverse}
use Rattle.std.specs.Prelude.{nat_eq}
use Rattle.std.specs.declared.cmp.Ordering.{Ordering}
use Rattle.std.specs.declared.cmp.Ordering.TheVariants.{Equal, Greater, Less}
use Rattle.std.proofs.lemmas.Bool.{eqb-true}
use Rattle.std.proofs.lemmas.Bool.Decides.{Decides-int_eq}
use Rattle.std.proofs.lemmas.Cmp.{int_cmp_total, int_eq_equiv, nat_list_cmp_total, nat_list_eq_equiv, tied_itself}
use Rattle.std.proofs.lemmas.Map.Lookups.{exact_bytes, exact_signed}
use Rattle.iso_key.proofs.Truths.{both}
use Rattle.iso_types.specs.Value.{value_cmp, value_eq, value_lt}
use Rattle.iso_types.specs.declared.value.Value.{Value}
use Rattle.iso_types.specs.declared.value.Value.TheVariants.{Int, Null, Text}

list_is : (s t : List ℕ) → pointwise nat_eq s t ≡ true → s ≡ t
list_is [] [] e = refl
list_is [] (b ∷ t) e = cc
list_is (a ∷ s) [] e = cc
list_is (a ∷ s) (b ∷ t) e =
    let p = both (nat_eq a b) (pointwise nat_eq s t) e in
    ap (λ (x : ℕ). x ∷ s) (eqb-true a b p.0) ∙ ap (λ (l : List ℕ). b ∷ l) (list_is s t p.1)

pub value_is : (v w : Value) → value_eq v w ≡ true → v ≡ w
unfolding value_eq
value_is Null Null e = refl
value_is (Int m) (Int n) e = ap Int ((Decides-int_eq m n).0 e)
value_is (Text s) (Text t) e = ap Text (list_is s t e)
value_is v w e = cc

pub value_same : (v : Value) → value_eq v v ≡ true
unfolding value_eq
value_same Null = refl
value_same (Int m) = int_eq_equiv.refl m
value_same (Text s) = nat_list_eq_equiv.refl s

value_antisymm : (v w : Value) → value_cmp v w ≡ ordering_reverse (value_cmp w v)
unfolding value_cmp
value_antisymm Null Null = refl
value_antisymm Null (Int n) = refl
value_antisymm Null (Text t) = refl
value_antisymm (Int m) Null = refl
value_antisymm (Int m) (Int n) = int_cmp_total.antisymm m n
value_antisymm (Int m) (Text t) = refl
value_antisymm (Text s) Null = refl
value_antisymm (Text s) (Int n) = refl
value_antisymm (Text s) (Text t) = nat_list_cmp_total.antisymm s t

value_trans : (u v w : Value) → value_cmp u v ≡ Less → value_cmp v w ≡ Less → value_cmp u w ≡ Less
unfolding value_cmp
value_trans Null v (Int n) e f = refl
value_trans Null v (Text t) e f = refl
value_trans (Int m) v (Text t) e f = refl
value_trans (Int m) (Int n) (Int o) e f = int_cmp_total.trans m n o e f
value_trans (Text s) (Text t) (Text r) e f = nat_list_cmp_total.trans s t r e f
value_trans u Null Null e f = cc
value_trans Null (Int n) Null e f = cc
value_trans Null (Text t) Null e f = cc
value_trans (Int m) Null w e f = cc
value_trans (Int m) (Int n) Null e f = cc
value_trans (Int m) (Text t) Null e f = cc
value_trans (Int m) (Text t) (Int o) e f = cc
value_trans (Text s) Null w e f = cc
value_trans (Text s) (Int n) w e f = cc
value_trans (Text s) (Text t) Null e f = cc
value_trans (Text s) (Text t) (Int o) e f = cc

pub value_tied : (v w : Value) → value_cmp v w ≡ Equal → v ≡ w
unfolding value_cmp
value_tied Null Null e = refl
value_tied (Int m) (Int n) e = ap Int (exact_signed m n e)
value_tied (Text s) (Text t) e = ap Text (exact_bytes s t e)
value_tied Null (Int n) e = cc
value_tied Null (Text t) e = cc
value_tied (Int m) Null e = cc
value_tied (Int m) (Text t) e = cc
value_tied (Text s) Null e = cc
value_tied (Text s) (Int n) e = cc

value_congr : (u v w : Value) → value_cmp u v ≡ Equal → value_cmp u w ≡ value_cmp v w
value_congr u v w e = ap (λ x. value_cmp x w) (value_tied u v e)

-- the order of values is total
pub value_total : IsTotalOrder value_cmp
value_total = record { antisymm = value_antisymm; trans = value_trans; congr = value_congr }

less_is : (o : Ordering) → is_lt o ≡ true → o ≡ Less
less_is Less e = refl
less_is Equal e = cc
less_is Greater e = cc

pub lt-trans : (a b c : Value) → value_lt a b ≡ true → value_lt b c ≡ true → value_lt a c ≡ true
unfolding value_lt
lt-trans a b c e f = ap is_lt (value_trans a b c (less_is (value_cmp a b) e) (less_is (value_cmp b c) f))

pub lt-irrefl : (a : Value) → value_lt a a ≡ false
unfolding value_lt
lt-irrefl a = ap is_lt (tied_itself value_total a)

tied_by : (o p : Ordering) → o ≡ ordering_reverse p → is_lt o ≡ false → is_lt p ≡ false → o ≡ Equal
tied_by Equal p r e f = refl
tied_by Less p r e f = cc
tied_by Greater Less r e f = cc
tied_by Greater Equal r e f = cc
tied_by Greater Greater r e f = cc

-- values of which none is less are equal
pub lt-total : (a b : Value) → value_lt a b ≡ false → value_lt b a ≡ false → a ≡ b
unfolding value_lt
lt-total a b e f = value_tied a b (tied_by (value_cmp a b) (value_cmp b a) (value_antisymm a b) e f)

-- not below, in a row
pub ge-trans : (a b c : Value) → value_lt a b ≡ false → value_lt b c ≡ false → value_lt a c ≡ false
ge-trans a b c e f = go (value_lt a c) refl (value_lt b a) refl
  where
    go : (x : Bool) → value_lt a c ≡ x → (y : Bool) → value_lt b a ≡ y → value_lt a c ≡ false
    go false p y q = p
    go true p true q = let r : value_lt b c ≡ true = lt-trans b a c q p in cc
    go true p false q = let s : value_lt b c ≡ true = subst (λ (z : Value). value_lt z c ≡ true) (lt-total a b e q) p in cc

-- below is below what is not below
pub lt-ge : (a b c : Value) → value_lt a b ≡ true → value_lt c b ≡ false → value_lt a c ≡ true
lt-ge a b c e f = go (value_lt a c) refl
  where
    go : (x : Bool) → value_lt a c ≡ x → value_lt a c ≡ true
    go true p = p
    go false p = let q : value_lt a b ≡ false = ge-trans a c b p f in cc

-- what is not above stands below what is above
pub ge-lt : (a b c : Value) → value_lt b a ≡ false → value_lt b c ≡ true → value_lt a c ≡ true
ge-lt a b c e f = go (value_lt a c) refl
  where
    go : (x : Bool) → value_lt a c ≡ x → value_lt a c ≡ true
    go true p = p
    go false p = let q : value_lt b c ≡ false = ge-trans b a c e p in cc

pub lt-asym : (a b : Value) → value_lt a b ≡ true → value_lt b a ≡ false
lt-asym a b e = go (value_lt b a) refl
  where
    go : (x : Bool) → value_lt b a ≡ x → value_lt b a ≡ false
    go false p = p
    go true p = let q : value_lt a a ≡ true = lt-trans a b a e p in let r : value_lt a a ≡ false = lt-irrefl a in cc
