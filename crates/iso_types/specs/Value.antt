-- The order of values.
use Rattle.std.specs.Cmp.Lexicographic.{pointwise, slice_cmp}
use Rattle.std.specs.Ordering.{int_cmp, int_eq, is_lt, nat_cmp}
use Rattle.std.specs.Prelude.{Bool, true, false, nat_eq}
use Rattle.std.specs.declared.cmp.Ordering.{Ordering}
use Rattle.std.specs.declared.cmp.Ordering.TheVariants.{Equal, Greater, Less}
use Rattle.iso_types.specs.declared.value.Value.{Value}
use Rattle.iso_types.specs.declared.value.Value.TheVariants.{Int, Null, Text}

-- NULL before integers before texts, integers by number, texts by bytes with a proper prefix first
unfoldable pub value_cmp : Value → Value → Ordering
value_cmp Null Null = Equal
value_cmp Null _ = Less
value_cmp (Int _) Null = Greater
value_cmp (Int m) (Int n) = int_cmp m n
value_cmp (Int _) (Text _) = Less
value_cmp (Text s) (Text t) = slice_cmp nat_cmp s t
value_cmp (Text _) _ = Greater

-- the values are the same
unfoldable pub value_eq : Value → Value → Bool
value_eq Null Null = true
value_eq (Int m) (Int n) = int_eq m n
value_eq (Text s) (Text t) = pointwise nat_eq s t
value_eq _ _ = false

-- the first value is less
unfoldable pub value_lt : Value → Value → Bool
value_lt a b = is_lt (value_cmp a b)
