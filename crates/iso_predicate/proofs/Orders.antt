-- The order of values is total.
use Rattle.std.proofs.Common.{◌≡◌, ℕ, ℤ, false, List, refl, ap, ◌∙◌, sym}
use Rattle.std.specs.Cmp.{int_cmp_total, signed_Decides}
use Rattle.std.specs.Cmp.Lexicographic.{nat_list_cmp_total, same_text, slice_cmp, texts_ties}
use Rattle.std.specs.Ordering.{int_cmp, is_eq, is_gt, is_lt, nat_cmp, ordering_reverse}
use Rattle.std.specs.declared.cmp.Ordering.{Ordering}
use Rattle.std.specs.declared.cmp.Ordering.TheVariants.{Equal, Greater, Less}
use Rattle.iso_types.specs.Value.{value_cmp}
use Rattle.iso_types.specs.declared.value.Value.{Value}
use Rattle.iso_types.specs.declared.value.Value.TheVariants.{Int, Null, Text}

-- values that compare as equal are the same
int_same : (m n : ℤ) → int_cmp m n ≡ Equal → m ≡ n
int_same m n e = (signed_Decides m n).0 (ap is_eq e)

text_same : (s t : List ℕ) → slice_cmp nat_cmp s t ≡ Equal → s ≡ t
text_same s t e = same_text s t (sym (texts_ties s t ∙ ap is_eq e))

pub value_same : (v w : Value) → value_cmp v w ≡ Equal → v ≡ w
unfolding value_cmp
value_same Null Null e = refl
value_same Null (Int n) e = absurd (cc)
value_same Null (Text t) e = absurd (cc)
value_same (Int m) Null e = absurd (cc)
value_same (Int m) (Int n) e = ap Int (int_same m n e)
value_same (Int m) (Text t) e = absurd (cc)
value_same (Text s) Null e = absurd (cc)
value_same (Text s) (Int n) e = absurd (cc)
value_same (Text s) (Text t) e = ap Text (text_same s t e)

-- the other way round the order is the reverse
pub value_reverse : (v w : Value) → value_cmp v w ≡ ordering_reverse (value_cmp w v)
unfolding value_cmp
value_reverse Null Null = refl
value_reverse Null (Int n) = refl
value_reverse Null (Text t) = refl
value_reverse (Int m) Null = refl
value_reverse (Int m) (Int n) = int_cmp_total.antisymm m n
value_reverse (Int m) (Text t) = refl
value_reverse (Text s) Null = refl
value_reverse (Text s) (Int n) = refl
value_reverse (Text s) (Text t) = nat_list_cmp_total.antisymm s t

-- what is less than a lesser value is less
pub value_trans : (u v w : Value) → value_cmp u v ≡ Less → value_cmp v w ≡ Less → value_cmp u w ≡ Less
unfolding value_cmp
value_trans Null Null w p q = absurd (cc)
value_trans Null (Int m) Null p q = absurd (cc)
value_trans Null (Int m) (Int n) p q = refl
value_trans Null (Int m) (Text t) p q = refl
value_trans Null (Text s) Null p q = absurd (cc)
value_trans Null (Text s) (Int n) p q = absurd (cc)
value_trans Null (Text s) (Text t) p q = refl
value_trans (Int k) Null w p q = absurd (cc)
value_trans (Int k) (Int m) Null p q = absurd (cc)
value_trans (Int k) (Int m) (Int n) p q = int_cmp_total.trans k m n p q
value_trans (Int k) (Int m) (Text t) p q = refl
value_trans (Int k) (Text s) Null p q = absurd (cc)
value_trans (Int k) (Text s) (Int n) p q = absurd (cc)
value_trans (Int k) (Text s) (Text t) p q = refl
value_trans (Text r) Null w p q = absurd (cc)
value_trans (Text r) (Int m) w p q = absurd (cc)
value_trans (Text r) (Text s) Null p q = absurd (cc)
value_trans (Text r) (Text s) (Int n) p q = absurd (cc)
value_trans (Text r) (Text s) (Text t) p q = nat_list_cmp_total.trans r s t p q

-- a value at or above one that is greater than a third is greater than the third
pub above_lesser : (u v w : Value) → value_cmp u v ≡ Less → is_lt (value_cmp w v) ≡ false → value_cmp w u ≡ Greater
above_lesser u v w p q = go (value_cmp w v) refl q
  where
    go : (o : Ordering) → value_cmp w v ≡ o → is_lt o ≡ false → value_cmp w u ≡ Greater
    go Less e f = absurd (cc)
    go Equal e f = rw (value_same w v e) (value_reverse v u ∙ ap ordering_reverse p)
    go Greater e f =
        let below : value_cmp v w ≡ Less = value_reverse v w ∙ ap ordering_reverse e in
        value_reverse w u ∙ ap ordering_reverse (value_trans u v w p below)

-- a value at or below one that is less than a third is less than the third
pub below_greater : (u v w : Value) → value_cmp u v ≡ Less → is_gt (value_cmp w u) ≡ false → value_cmp w v ≡ Less
below_greater u v w p q = go (value_cmp w u) refl q
  where
    go : (o : Ordering) → value_cmp w u ≡ o → is_gt o ≡ false → value_cmp w v ≡ Less
    go Less e f = value_trans w u v e p
    go Equal e f = rw (value_same w u e) p
    go Greater e f = absurd (cc)
