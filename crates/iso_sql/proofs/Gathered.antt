-- Columns that a loop gathers.
use Rattle.std.proofs.Common.{◌≡◌, ℕ, List, [], ◌∷◌, ◌++◌, Option, Some, None, ap, ◌∙◌, append_assoc}
use Rattle.std.proofs.lemmas.List.{append-nil}
use Rattle.std.specs.Prelude.{slice_get}
use Rattle.iso_types.specs.declared.head.Column.{Column}
use Rattle.iso_sql.specs.Actions.{and_column, columns_at}
use Rattle.iso_sql.specs.Names.{Names}

put : (found : List Column) (o : Option Column) (more : List Column) → (found ++ and_column o []) ++ more ≡ found ++ and_column o more
put found None more = ap (λ z. z ++ more) (append-nil found)
put found (Some d) more = append_assoc found (d ∷ []) more

-- one place more
pub adds : (names : Names) (found : List Column) (o : Option Column) (p : ℕ) (ps : List ℕ) → o ≡ slice_get names.columns p
    → (found ++ and_column o []) ++ columns_at names ps ≡ found ++ columns_at names (p ∷ ps)
adds names found o p ps e = put found o (columns_at names ps) ∙ ap (λ z. found ++ and_column z (columns_at names ps)) e
