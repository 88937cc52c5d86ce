-- A script, line by line: what it comes to, or its first bad line.
use Rattle.std.specs.Prelude.{◌≡◌, ◌⊎◌, ℕ, ◌+◌, Bool, true, false, List, [], ◌∷◌, MatchBool}

-- States, events, and lines: which event a line is in a state (`fits`), which fault it has there (`wrong`), the state after an event
-- of the line with this number (`advance`), the lines that say nothing (`skips`), the states that may be last (`ended`), and the
-- fault of a script that ends too soon (`unended`).
module _ {S E T F : Type 0} (fits : S → T → E → Type 0) (wrong : S → T → F → Type 0) (advance : S → ℕ → E → S) (skips : T → Bool) (ended : S → Bool) (unended : F) where
  -- the lines, the next of which has this number, lead from the one state to the other
  abbrev pub ReadsFrom : S → ℕ → List T → S → Type 0
  ReadsFrom s n [] end = (ended s ≡ true) × (end ≡ s)
  ReadsFrom s n (text ∷ texts) end =
      MatchBool (skips text) (ReadsFrom s (n + 1) texts end) ((e : E) × fits s text e × ReadsFrom (advance s n e) (n + 1) texts end)

  -- the line with the number `bad` is the first that is wrong, with this fault; or it is the one after the last
  abbrev pub BadFrom : S → ℕ → List T → ℕ → F → Type 0
  BadFrom s n [] bad fault = (ended s ≡ false) × (bad ≡ n) × (fault ≡ unended)
  BadFrom s n (text ∷ texts) bad fault =
      MatchBool (skips text) (BadFrom s (n + 1) texts bad fault)
      (((bad ≡ n) × wrong s text fault) ⊎ ((e : E) × fits s text e × BadFrom (advance s n e) (n + 1) texts bad fault))
