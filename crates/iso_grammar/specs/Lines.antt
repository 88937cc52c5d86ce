-- The lines of a script's bytes.
use Rattle.std.specs.Prelude.{ℕ, ◌&&◌, if◌then◌else◌, ◌==◌, List, [], ◌∷◌}
use Rattle.iso_grammar.specs.Lex.{begins_with}

-- the byte stands first in the first line, which is there from then on
abbrev pub onto : ℕ → List (List ℕ) → List (List ℕ)
onto b [] = (b ∷ []) ∷ []
onto b (line ∷ more) = (b ∷ line) ∷ more

-- A line ends at an LF, and a CR directly before the LF is not in it. What stands behind the last LF is a line too, if it is not empty.
abbrev pub lines : List ℕ → List (List ℕ)
lines [] = []
lines (b ∷ bs) = if b == 10 then [] ∷ lines bs else (if b == 13 && begins_with 10 bs then lines bs else onto b (lines bs))

-- the list without a CR at its end
abbrev pub without_cr : List ℕ → List ℕ
without_cr [] = []
without_cr (b ∷ []) = if b == 13 then [] else b ∷ []
without_cr (b ∷ c ∷ bs) = b ∷ without_cr (c ∷ bs)
