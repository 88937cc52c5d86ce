-- The scan over the words names a job exactly where they are its row of the table.
use Rattle.std.proofs.Common.{◌≡◌, ℕ, inl, inr, ◌||◌, ◌++◌, Bool, true, false, List, Option, Some, None, codes, refl, ap, ◌∙◌, length, arith, ◌≤◌, suc}
use Rattle.std.proofs.lemmas.Bool.{le-leb}
use Rattle.iso_words.specs.Numbers.{number}
use Rattle.iso_words.specs.Scan.{begins, parts_from, step}
use Rattle.iso_words.specs.Table.{HasOption, Says, word_of}
use Rattle.iso_words.specs.Table.Says.{Counts, Names, Nothing, Seeds, Traces}
use Rattle.iso_words.specs.declared.parts.Awaits.{Awaits}
use Rattle.iso_words.specs.declared.parts.Parts.{Parts}
use Rattle.iso_words.specs.declared.parts.Task.{Task}

-- the parts where no value is awaited
abbrev pub parts_of : Option Task → Option ℕ → Option ℕ → Bool → Parts
parts_of task seed count trace = record { task = task; seed = seed; count = count; trace = trace; awaits = Awaits.Nothing; bad = false }

-- one of two, not both
abbrev pub either : {A : Type 0} → Option A → Option A → Option A
either None b = b
either (Some x) b = Some x

abbrev pub Apart : {A : Type 0} → Option A → Option A → Type 0
Apart (Some x) (Some y) = ⊥
Apart (Some x) None = Unit {0}
Apart None b = Unit {0}

abbrev pub ApartBool : Bool → Bool → Type 0
ApartBool true true = ⊥
ApartBool true false = Unit {0}
ApartBool false b = Unit {0}

pub either_none : {A : Type 0} (a : Option A) → either a None ≡ a
either_none None = refl
either_none (Some x) = refl

pub or_false : (a : Bool) → (a || false) ≡ a
or_false true = refl
or_false false = refl

-- a job where none stood
pub job-step : (t : Task) (b c : Option ℕ) (d : Bool) → step (parts_of None b c d) (word_of t) ≡ parts_of (Some t) b c d
job-step Task.Run b c d = refl
job-step Task.Serial b c d = refl
job-step Task.Check b c d = refl
job-step Task.Generate b c d = refl
job-step Task.Mix b c d = refl

pub trace-step : (a : Option Task) (b c : Option ℕ) → step (parts_of a b c false) (codes "--trace") ≡ parts_of a b c true
trace-step a b c = refl

pub seed-step : (a : Option Task) (c : Option ℕ) (d : Bool) (n : ℕ) (text : List ℕ) → number text ≡ Some n
    → step (step (parts_of a None c d) (codes "--seed")) text ≡ parts_of a (Some n) c d
seed-step a c d n text e = rw e refl

seven : (n : ℕ) → 7 ≤ suc (suc (suc (suc (suc (suc (suc n))))))
seven n = omega arith

eight : (n : ℕ) → 8 ≤ suc (suc (suc (suc (suc (suc (suc (suc n)))))))
eight n = omega arith

seed-begins : (text : List ℕ) → begins (codes "--seed" ++ codes "=" ++ text) (codes "--seed=") ≡ true
seed-begins text = rw (le-leb 7 (length (codes "--seed" ++ codes "=" ++ text)) (seven (length text))) refl

count-begins : (text : List ℕ) → begins (codes "--count" ++ codes "=" ++ text) (codes "--count=") ≡ true
count-begins text = rw (le-leb 8 (length (codes "--count" ++ codes "=" ++ text)) (eight (length text))) refl

-- a word that begins with the one begins not with the other
not-seed : (text : List ℕ) → begins (codes "--count" ++ codes "=" ++ text) (codes "--seed=") ≡ false
not-seed text = rw (le-leb 7 (length (codes "--count" ++ codes "=" ++ text)) (seven (suc (length text)))) refl

pub seed-by-step : (a : Option Task) (c : Option ℕ) (d : Bool) (n : ℕ) (text : List ℕ) → number text ≡ Some n
    → step (parts_of a None c d) (codes "--seed" ++ codes "=" ++ text) ≡ parts_of a (Some n) c d
seed-by-step a c d n text e = rw (seed-begins text, e) refl

pub count-step : (a : Option Task) (b : Option ℕ) (d : Bool) (n : ℕ) (text : List ℕ) → number text ≡ Some n
    → step (step (parts_of a b None d) (codes "--count")) text ≡ parts_of a b (Some n) d
count-step a b d n text e = rw e refl

pub count-by-step : (a : Option Task) (b : Option ℕ) (d : Bool) (n : ℕ) (text : List ℕ) → number text ≡ Some n
    → step (parts_of a b None d) (codes "--count" ++ codes "=" ++ text) ≡ parts_of a b (Some n) d
count-by-step a b d n text e = rw (not-seed text, count-begins text, e) refl

-- an option and its number in front, in whichever form
pub seed-front : (a : Option Task) (c : Option ℕ) (d : Bool) (n : ℕ) (words rest : List (List ℕ)) → HasOption (codes "--seed") n words rest
    → parts_from (parts_of a None c d) words ≡ parts_from (parts_of a (Some n) c d) rest
seed-front a c d n words rest o = elim o.2 [
  | inl e ↦ ap (parts_from (parts_of a None c d)) e ∙ ap (λ p. parts_from p rest) (seed-step a c d n o.0 o.1)
  | inr e ↦ ap (parts_from (parts_of a None c d)) e ∙ ap (λ p. parts_from p rest) (seed-by-step a c d n o.0 o.1)
]

pub count-front : (a : Option Task) (b : Option ℕ) (d : Bool) (m : ℕ) (words rest : List (List ℕ)) → HasOption (codes "--count") m words rest
    → parts_from (parts_of a b None d) words ≡ parts_from (parts_of a b (Some m) d) rest
count-front a b d m words rest o = elim o.2 [
  | inl e ↦ ap (parts_from (parts_of a b None d)) e ∙ ap (λ p. parts_from p rest) (count-step a b d m o.0 o.1)
  | inr e ↦ ap (parts_from (parts_of a b None d)) e ∙ ap (λ p. parts_from p rest) (count-by-step a b d m o.0 o.1)
]

-- what words say is what the scan finds in them
pub full : (words : List (List ℕ)) (t : Option Task) (n m : Option ℕ) (u : Bool) → Says words t n m u → (a : Option Task) (b c : Option ℕ) (d : Bool)
    → Apart a t → Apart b n → Apart c m → ApartBool d u
    → parts_from (parts_of a b c d) words ≡ parts_of (either a t) (either b n) (either c m) (d || u)
full _ _ _ _ _ Nothing a b c d h i j k = rw (either_none a, either_none b, either_none c, or_false d) refl
full _ _ _ _ _ (Names t n m u rest s) (Some x) b c d h i j k = absurd h
full _ _ _ _ _ (Names t n m u rest s) None b c d h i j k =
    ap (λ p. parts_from p rest) (job-step t b c d) ∙ full _ _ _ _ _ s (Some t) b c d tt i j k
full _ _ _ _ _ (Seeds n t m u words rest o s) a (Some x) c d h i j k = absurd i
full _ _ _ _ _ (Seeds n t m u words rest o s) a None c d h i j k = seed-front a c d n words rest o ∙ full _ _ _ _ _ s a (Some n) c d h tt j k
full _ _ _ _ _ (Counts m t n u words rest o s) a b (Some x) d h i j k = absurd j
full _ _ _ _ _ (Counts m t n u words rest o s) a b None d h i j k = count-front a b d m words rest o ∙ full _ _ _ _ _ s a b (Some m) d h i tt k
full _ _ _ _ _ (Traces t n m rest s) a b c true h i j k = absurd k
full _ _ _ _ _ (Traces t n m rest s) a b c false h i j k = ap (λ p. parts_from p rest) (trace-step a b c) ∙ full _ _ _ _ _ s a b c true h i j tt
