-- The equality by which a map finds a name is that of names.
use Rattle.std.proofs.Common.{◌≡◌, ◌&&◌, refl, ap}
use Rattle.iso_types.specs.contracts.value.NamePartialEq.TheImpl as names
use Rattle.iso_types.specs.contracts.value.ValuePartialEq.TheImpl as values
use Rattle.iso_types.specs.Ids.{index_eq, name_eq}
use Rattle.iso_types.specs.Value.{value_eq}
use Rattle.iso_types.specs.declared.value.Name.{Name}
use Rattle.iso_types.specs.declared.value.Name.TheVariants.{End, Key, Row, Table}
use Rattle.iso_types.specs.declared.value.Value.{Value}
use Rattle.iso_types.specs.declared.value.Value.TheVariants.{Int, Null, Text}

pub same_values : (v w : Value) → values.ghosts.eq v w ≡ value_eq v w
unfolding value_eq
same_values Null Null = refl
same_values Null (Int n) = refl
same_values Null (Text t) = refl
same_values (Int m) Null = refl
same_values (Int m) (Int n) = refl
same_values (Int m) (Text t) = refl
same_values (Text s) Null = refl
same_values (Text s) (Int n) = refl
same_values (Text s) (Text t) = refl

pub same_names : (n m : Name) → names.ghosts.eq n m ≡ name_eq n m
unfolding name_eq
same_names (Table t) (Table u) = refl
same_names (Table t) (Row u s) = refl
same_names (Table t) (Key j w) = refl
same_names (Table t) (End j) = refl
same_names (Row t r) (Table u) = refl
same_names (Row t r) (Row u s) = refl
same_names (Row t r) (Key j w) = refl
same_names (Row t r) (End j) = refl
same_names (Key i v) (Table u) = refl
same_names (Key i v) (Row u s) = refl
same_names (Key i v) (Key j w) = ap (λ b. index_eq i j && b) (same_values v w)
same_names (Key i v) (End j) = refl
same_names (End i) (Table u) = refl
same_names (End i) (Row u s) = refl
same_names (End i) (Key j w) = refl
same_names (End i) (End j) = refl

-- as functions
pub same_test : names.ghosts.eq ≡ name_eq
same_test = λ j n m. same_names n m j
