-- The table of jobs: which words name which job. // this project's own
use Rattle.std.specs.Global.{Global}
use Rattle.std.specs.Prelude.{String, map, string_bytes, ℕ, ◌≡◌, ◌⊎◌, ◌++◌, Bool, true, false, List, [], ◌∷◌, Option, Some, None, codes}
use Rattle.iso_words.specs.Numbers.{is_count, number}
use Rattle.iso_words.specs.declared.parts.Job.{Job}
use Rattle.iso_words.specs.declared.parts.Job.TheVariants.{Check, Generate, Mix, Run, Serial}
use Rattle.iso_words.specs.declared.parts.Task.{Task}
pub use Rattle.iso_words.specs.Scan.{job_of}

-- the texts of the words
abbrev pub texts : List (String Global) → List (List ℕ)
texts words = map string_bytes words

-- the word of a job
abbrev pub word_of : Task → List ℕ
word_of Task.Run = codes "run"
word_of Task.Serial = codes "serial"
word_of Task.Check = codes "check"
word_of Task.Generate = codes "generate"
word_of Task.Mix = codes "mix"

-- before the rest stands this option with the number n, in the next word or behind `=`
abbrev pub HasOption : List ℕ → ℕ → List (List ℕ) → List (List ℕ) → Type 0
HasOption name n words rest = (text : List ℕ) × (number text ≡ Some n) × ((words ≡ name ∷ text ∷ rest) ⊎ (words ≡ (name ++ codes "=" ++ text) ∷ rest))

-- What words say, in any order: the job, the number of --seed, the number of --count, and whether --trace is there; each stands once
-- or not at all.
pub data Says : List (List ℕ) → Option Task → Option ℕ → Option ℕ → Bool → Type 0 where
  Nothing : Says [] None None None false
  Names : (task : Task) (seed count : Option ℕ) (trace : Bool) (rest : List (List ℕ)) → Says rest None seed count trace
      → Says (word_of task ∷ rest) (Some task) seed count trace
  Seeds : (n : ℕ) (task : Option Task) (count : Option ℕ) (trace : Bool) (words rest : List (List ℕ)) → HasOption (codes "--seed") n words rest
      → Says rest task None count trace → Says words task (Some n) count trace
  Counts : (m : ℕ) (task : Option Task) (seed : Option ℕ) (trace : Bool) (words rest : List (List ℕ)) → HasOption (codes "--count") m words rest
      → Says rest task seed None trace → Says words task seed (Some m) trace
  Traces : (task : Option Task) (seed count : Option ℕ) (rest : List (List ℕ)) → Says rest task seed count false
      → Says (codes "--trace" ∷ rest) task seed count true

-- The table, a row a job: `run [--trace]`, `serial [--seed N] [--trace]`, `check`, `generate --seed N --count M`, `mix --seed N
-- --count M`.
abbrev pub IsRow : List (List ℕ) → Job → Type 0
IsRow words (Run trace) = Says words (Some Task.Run) None None trace
IsRow words (Serial seed trace) = Says words (Some Task.Serial) seed None trace
IsRow words Check = Says words (Some Task.Check) None None false
IsRow words (Generate n m) = Says words (Some Task.Generate) (Some n) (Some m) false × (is_count m ≡ true)
IsRow words (Mix n m) = Says words (Some Task.Mix) (Some n) (Some m) false × (is_count m ≡ true)
