-- The job that words name, read word by word; the table of jobs itself is in Table. // this project's own
use Rattle.std.specs.Cmp.Lexicographic.{pointwise}
use Rattle.std.specs.Prelude.{ℕ, ◌+◌, ◌-◌, ◌*◌, ◌&&◌, Bool, true, false, List, [], ◌∷◌, Option, Some, None}
use Rattle.std.specs.Prelude.{codes, drop, if◌then◌else◌, is_some, length, min, nat_eq, nat_le, take}
use Rattle.iso_words.specs.Numbers.{below, bound, has_form, is_count, is_digit, number}
use Rattle.iso_words.specs.declared.parts.Job.{Job}
use Rattle.iso_words.specs.declared.parts.Awaits.{Awaits}
use Rattle.iso_words.specs.declared.parts.Parts.{Parts}
use Rattle.iso_words.specs.declared.parts.Task.{Task}

-- the word is this one
abbrev pub is_word : List ℕ → List ℕ → Bool
is_word word text = pointwise nat_eq word text

-- the word begins so
abbrev pub begins : List ℕ → List ℕ → Bool
begins word front = nat_le (length front) (length word) && pointwise nat_eq (take (length front) word) front

-- the number that digits go on to; one past the bound stays at it
abbrev pub number_from : ℕ → List ℕ → Option ℕ
number_from n [] = below n
number_from n (b ∷ bytes) = if is_digit b then number_from (min (10 * n + (b - 48)) bound) bytes else None

-- the number, read digit by digit
abbrev pub number_read : List ℕ → Option ℕ
number_read text = if has_form text then number_from 0 text else None

-- the words are no row of the table
abbrev pub spoilt : Parts → Parts
spoilt p = record p { bad = true }

-- the seed; it stands once
abbrev pub with_seed : Parts → Option ℕ → Parts
with_seed p None = spoilt p
with_seed p (Some n) = if is_some p.seed then spoilt p else record p { seed = Some n; awaits = Awaits.Nothing }

-- the count; it stands once
abbrev pub with_count : Parts → Option ℕ → Parts
with_count p None = spoilt p
with_count p (Some n) = if is_some p.count then spoilt p else record p { count = Some n; awaits = Awaits.Nothing }

-- the job; it stands once
abbrev pub with_task : Parts → Task → Parts
with_task p task = if is_some p.task then spoilt p else record p { task = Some task }

-- the option --trace; it stands once
abbrev pub with_trace : Parts → Parts
with_trace p = if p.trace then spoilt p else record p { trace = true }

-- a word where no value is awaited: a job, an option whose value follows, or an option with its value
abbrev pub with_word : Parts → List ℕ → Parts
with_word p w =
    if is_word w (codes "run") then with_task p Task.Run
    else if is_word w (codes "serial") then with_task p Task.Serial
    else if is_word w (codes "check") then with_task p Task.Check
    else if is_word w (codes "generate") then with_task p Task.Generate
    else if is_word w (codes "mix") then with_task p Task.Mix
    else if is_word w (codes "--trace") then with_trace p
    else if is_word w (codes "--seed") then record p { awaits = Awaits.Seed }
    else if is_word w (codes "--count") then record p { awaits = Awaits.Count }
    else if begins w (codes "--seed=") then with_seed p (number (drop 7 w))
    else if begins w (codes "--count=") then with_count p (number (drop 8 w))
    else spoilt p

-- a word by what is awaited
abbrev pub step_by : Awaits → Parts → List ℕ → Parts
step_by Awaits.Nothing p w = with_word p w
step_by Awaits.Seed p w = with_seed p (number w)
step_by Awaits.Count p w = with_count p (number w)

-- one word more
abbrev pub step : Parts → List ℕ → Parts
step p w = step_by p.awaits p w

-- no word yet
abbrev pub none_yet : Parts
none_yet = record { task = None; seed = None; count = None; trace = false; awaits = Awaits.Nothing; bad = false }

-- what words make of these parts
abbrev pub parts_from : Parts → List (List ℕ) → Parts
parts_from p [] = p
parts_from p (w ∷ ws) = parts_from (step p w) ws

-- the job that the parts make
abbrev pub job_by : Option Task → Option ℕ → Option ℕ → Bool → Option Job
job_by (Some Task.Run) None None trace = Some (Job.Run trace)
job_by (Some Task.Serial) seed None trace = Some (Job.Serial seed trace)
job_by (Some Task.Check) None None false = Some Job.Check
job_by (Some Task.Generate) (Some n) (Some m) false = if is_count m then Some (Job.Generate n m) else None
job_by (Some Task.Mix) (Some n) (Some m) false = if is_count m then Some (Job.Mix n m) else None
job_by _ _ _ _ = None

-- nothing is awaited
abbrev pub is_over : Awaits → Bool
is_over Awaits.Nothing = true
is_over Awaits.Seed = false
is_over Awaits.Count = false

-- none where a word is wrong or a value is missing
abbrev pub finished : Parts → Option Job
finished p = if p.bad then None else if is_over p.awaits then job_by p.task p.seed p.count p.trace else None

-- the job that the words name, if they name one
abbrev pub job_of : List (List ℕ) → Option Job
job_of words = finished (parts_from none_yet words)
