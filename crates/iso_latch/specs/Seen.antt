-- Voices, and what a pass has seen of the history.
use Rattle.std.specs.Prelude.{◌≡◌, ℕ, zero, suc, Bool, true, false, ◌||◌, not, cond, eqb, ltb, List, [], ◌∷◌, ◌++◌, length, filter}
use Rattle.iso_history.specs.Voices.{voice_of}
use Rattle.iso_history.specs.declared.entry.Entry.{Entry}

-- the voice is among these
abbrev pub has : ℕ → List ℕ → Bool
has x [] = false
has x (y ∷ ys) = eqb x y || has x ys

-- the entries with one of these voices, in order
abbrev pub own : List ℕ → List Entry → List Entry
own vs xs = filter (λ e. has (voice_of e) vs) xs

-- each entry has one of these voices
abbrev pub Mine : List ℕ → List Entry → Type 0
Mine vs [] = Unit {0}
Mine vs (e ∷ es) = (has (voice_of e) vs ≡ true) × Mine vs es

-- the history begins with what was seen, and what follows has none of these voices
abbrev pub Continues : List ℕ → List Entry → List Entry → Type 0
Continues vs seen log = (rest : List Entry) × (log ≡ seen ++ rest) × (own vs rest ≡ [])

-- the numbers below n, in order
abbrev pub below : ℕ → List ℕ
below zero = []
below (suc n) = below n ++ n ∷ []

-- all of these voices but x
abbrev pub without : ℕ → List ℕ → List ℕ
without x vs = filter (λ y. not (eqb x y)) vs

-- the longer of two histories; the first where they are as long
abbrev pub longer : List Entry → List Entry → List Entry
longer xs ys = cond (ltb (length xs) (length ys)) ys xs
