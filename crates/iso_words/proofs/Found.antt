-- Words from which the scan makes parts that are whole say what these parts hold; so the scan is the table of jobs.
use Rattle.std.proofs.Common.{◌≡◌, ℕ, ◌↔◌, inl, inr, ◌||◌, ◌++◌, Bool, true, false, List, [], ◌∷◌, Option, Some, None, codes, refl, ap, sym}
use Rattle.std.proofs.Common.{◌∙◌, subst, if◌then◌else◌, drop, take, is_some}
use Rattle.std.specs.Cmp.{second_so}
use Rattle.std.specs.Cmp.Lexicographic.{bytes_decides}
use Rattle.std.proofs.lemmas.List.{take-append-drop}
use Rattle.iso_words.proofs.Rows.{Apart, ApartBool, either, either_none, full, or_false, parts_of}
use Rattle.iso_words.specs.Numbers.{is_count, number}
use Rattle.iso_words.specs.Scan.{begins, finished, is_over, is_word, job_by, job_of, none_yet, parts_from, spoilt}
use Rattle.iso_words.specs.Scan.{step, step_by, with_count, with_seed, with_task, with_trace, with_word}
use Rattle.iso_words.specs.Table.{HasOption, IsRow, Says, word_of}
use Rattle.iso_words.specs.Table.Says.{Counts, Names, Nothing, Seeds, Traces}
use Rattle.iso_words.specs.declared.parts.Awaits.{Awaits}
use Rattle.iso_words.specs.declared.parts.Job.{Job}
use Rattle.iso_words.specs.declared.parts.Job.TheVariants.{Check, Generate, Mix, Run, Serial}
use Rattle.iso_words.specs.declared.parts.Parts.{Parts}
use Rattle.iso_words.specs.declared.parts.Task.{Task}

choose : {A : Type 0} (P : A → Type 0) (b : Bool) (x y : A) → (b ≡ true → P x) → (b ≡ false → P y) → P (if b then x else y)
choose P true x y f g = f refl
choose P false x y f g = g refl

-- what a word is, where no value is awaited, and what it makes of the parts
data Reads (p : Parts) (w : List ℕ) : Parts → Type 0 where
  as-job : (t : Task) → w ≡ word_of t → Reads p w (with_task p t)
  as-trace : w ≡ codes "--trace" → Reads p w (with_trace p)
  as-seed : w ≡ codes "--seed" → Reads p w (record p { awaits = Awaits.Seed })
  as-count : w ≡ codes "--count" → Reads p w (record p { awaits = Awaits.Count })
  as-seed-by : (text : List ℕ) → w ≡ codes "--seed" ++ codes "=" ++ text → Reads p w (with_seed p (number text))
  as-count-by : (text : List ℕ) → w ≡ codes "--count" ++ codes "=" ++ text → Reads p w (with_count p (number text))
  as-none : Reads p w (spoilt p)

is : (w text : List ℕ) → is_word w text ≡ true → w ≡ text
is w text e = (bytes_decides w text).0 e

seed-rest : (w : List ℕ) → begins w (codes "--seed=") ≡ true → w ≡ codes "--seed" ++ codes "=" ++ drop 7 w
seed-rest w e = sym (take-append-drop 7 w) ∙ ap (λ l. l ++ drop 7 w) ((bytes_decides (take 7 w) (codes "--seed=")).0 (second_so _ _ e))

count-rest : (w : List ℕ) → begins w (codes "--count=") ≡ true → w ≡ codes "--count" ++ codes "=" ++ drop 8 w
count-rest w e = sym (take-append-drop 8 w) ∙ ap (λ l. l ++ drop 8 w) ((bytes_decides (take 8 w) (codes "--count=")).0 (second_so _ _ e))

reads : (p : Parts) (w : List ℕ) → Reads p w (with_word p w)
reads p w = choose (Reads p w) (is_word w (codes "run")) _ _ (λ e. as-job Task.Run (is w _ e))
    (λ _. choose (Reads p w) (is_word w (codes "serial")) _ _ (λ e. as-job Task.Serial (is w _ e))
    (λ _. choose (Reads p w) (is_word w (codes "check")) _ _ (λ e. as-job Task.Check (is w _ e))
    (λ _. choose (Reads p w) (is_word w (codes "generate")) _ _ (λ e. as-job Task.Generate (is w _ e))
    (λ _. choose (Reads p w) (is_word w (codes "mix")) _ _ (λ e. as-job Task.Mix (is w _ e))
    (λ _. choose (Reads p w) (is_word w (codes "--trace")) _ _ (λ e. as-trace (is w _ e))
    (λ _. choose (Reads p w) (is_word w (codes "--seed")) _ _ (λ e. as-seed (is w _ e))
    (λ _. choose (Reads p w) (is_word w (codes "--count")) _ _ (λ e. as-count (is w _ e))
    (λ _. choose (Reads p w) (begins w (codes "--seed=")) _ _ (λ e. as-seed-by (drop 7 w) (seed-rest w e))
    (λ _. choose (Reads p w) (begins w (codes "--count=")) _ _ (λ e. as-count-by (drop 8 w) (count-rest w e)) (λ _. as-none))))))))))

-- what is spoilt stays so
seed-bad : (p : Parts) (o : Option ℕ) → p.bad ≡ true → (with_seed p o).bad ≡ true
seed-bad p None h = refl
seed-bad p (Some n) h = choose (λ (q : Parts). q.bad ≡ true) (is_some p.seed) _ _ (λ _. refl) (λ _. h)

count-bad : (p : Parts) (o : Option ℕ) → p.bad ≡ true → (with_count p o).bad ≡ true
count-bad p None h = refl
count-bad p (Some n) h = choose (λ (q : Parts). q.bad ≡ true) (is_some p.count) _ _ (λ _. refl) (λ _. h)

read-bad : (p : Parts) (w : List ℕ) (q : Parts) → Reads p w q → p.bad ≡ true → q.bad ≡ true
read-bad p w _ (as-job t e) h = choose (λ (q : Parts). q.bad ≡ true) (is_some p.task) _ _ (λ _. refl) (λ _. h)
read-bad p w _ (as-trace e) h = choose (λ (q : Parts). q.bad ≡ true) p.trace _ _ (λ _. refl) (λ _. h)
read-bad p w _ (as-seed e) h = h
read-bad p w _ (as-count e) h = h
read-bad p w _ (as-seed-by text e) h = seed-bad p (number text) h
read-bad p w _ (as-count-by text e) h = count-bad p (number text) h
read-bad p w _ as-none h = refl

step-bad : (a : Awaits) (p : Parts) (w : List ℕ) → p.bad ≡ true → (step_by a p w).bad ≡ true
step-bad Awaits.Nothing p w h = read-bad p w _ (reads p w) h
step-bad Awaits.Seed p w h = seed-bad p (number w) h
step-bad Awaits.Count p w h = count-bad p (number w) h

stays-bad : (p : Parts) (words : List (List ℕ)) → p.bad ≡ true → (parts_from p words).bad ≡ true
stays-bad p [] h = h
stays-bad p (w ∷ words) h = stays-bad (step p w) words (step-bad p.awaits p w h)

-- the parts are whole
abbrev Ended : Parts → Type 0
Ended p = (p.bad ≡ false) × (p.awaits ≡ Awaits.Nothing)

spoilt-never : (p : Parts) (words : List (List ℕ)) → p.bad ≡ true → Ended (parts_from p words) → ⊥
spoilt-never p words h e = let b = stays-bad p words h in let c = e.0 in cc

-- the parts so far, with what is awaited
abbrev state : Awaits → Option Task → Option ℕ → Option ℕ → Bool → Parts
state w a b c d = record { task = a; seed = b; count = c; trace = d; awaits = w; bad = false }

-- an option whose value is awaited is as if it stood in front
abbrev fronted : Awaits → List (List ℕ) → List (List ℕ)
fronted Awaits.Nothing words = words
fronted Awaits.Seed words = codes "--seed" ∷ words
fronted Awaits.Count words = codes "--count" ∷ words

-- what words say beside the parts so far, and together they are those at the end
record Finds (words : List (List ℕ)) (a : Option Task) (b c : Option ℕ) (d : Bool) (end : Parts) : Type 0 where
  task : Option Task
  seed : Option ℕ
  count : Option ℕ
  trace : Bool
  says : Says words task seed count trace
  tasks : Apart a task
  seeds : Apart b seed
  counts : Apart c count
  traces : ApartBool d trace
  whole : end ≡ parts_of (either a task) (either b seed) (either c count) (d || trace)

none-of : {A : Type 0} (x : A) (o : Option A) → Apart (Some x) o → o ≡ None
none-of x None h = refl
none-of x (Some y) h = absurd h

false-of : (b : Bool) → ApartBool true b → b ≡ false
false-of true h = absurd h
false-of false h = refl

job-found : (t : Task) (w : List ℕ) (rest : List (List ℕ)) (b c : Option ℕ) (d : Bool) (end : Parts) → w ≡ word_of t
    → Finds rest (Some t) b c d end → Finds (w ∷ rest) None b c d end
job-found t w rest b c d end e f = record {
  task = Some t;
  seed = f.seed;
  count = f.count;
  trace = f.trace;
  says = subst (λ x. Says (x ∷ rest) (Some t) f.seed f.count f.trace) (sym e)
      (Names t f.seed f.count f.trace rest (subst (λ o. Says rest o f.seed f.count f.trace) (none-of t f.task f.tasks) f.says));
  tasks = tt;
  seeds = f.seeds;
  counts = f.counts;
  traces = f.traces;
  whole = f.whole;
}

trace-found : (w : List ℕ) (rest : List (List ℕ)) (a : Option Task) (b c : Option ℕ) (end : Parts) → w ≡ codes "--trace"
    → Finds rest a b c true end → Finds (w ∷ rest) a b c false end
trace-found w rest a b c end e f = record {
  task = f.task;
  seed = f.seed;
  count = f.count;
  trace = true;
  says = subst (λ x. Says (x ∷ rest) f.task f.seed f.count true) (sym e)
      (Traces f.task f.seed f.count rest (subst (λ o. Says rest f.task f.seed f.count o) (false-of f.trace f.traces) f.says));
  tasks = f.tasks;
  seeds = f.seeds;
  counts = f.counts;
  traces = tt;
  whole = f.whole;
}

seed-found : (n : ℕ) (words rest : List (List ℕ)) (a : Option Task) (c : Option ℕ) (d : Bool) (end : Parts) → HasOption (codes "--seed") n words rest
    → Finds rest a (Some n) c d end → Finds words a None c d end
seed-found n words rest a c d end o f = record {
  task = f.task;
  seed = Some n;
  count = f.count;
  trace = f.trace;
  says = Seeds n f.task f.count f.trace words rest o (subst (λ s. Says rest f.task s f.count f.trace) (none-of n f.seed f.seeds) f.says);
  tasks = f.tasks;
  seeds = tt;
  counts = f.counts;
  traces = f.traces;
  whole = f.whole;
}

count-found : (m : ℕ) (words rest : List (List ℕ)) (a : Option Task) (b : Option ℕ) (d : Bool) (end : Parts) → HasOption (codes "--count") m words rest
    → Finds rest a b (Some m) d end → Finds words a b None d end
count-found m words rest a b d end o f = record {
  task = f.task;
  seed = f.seed;
  count = Some m;
  trace = f.trace;
  says = Counts m f.task f.seed f.trace words rest o (subst (λ s. Says rest f.task f.seed s f.trace) (none-of m f.count f.counts) f.says);
  tasks = f.tasks;
  seeds = f.seeds;
  counts = tt;
  traces = f.traces;
  whole = f.whole;
}

-- that the rest is told, whatever stands before it
abbrev IsTold : List (List ℕ) → Type 0
IsTold rest = (w : Awaits) (a : Option Task) (b c : Option ℕ) (d : Bool) → Ended (parts_from (state w a b c d) rest)
    → Finds (fronted w rest) a b c d (parts_from (state w a b c d) rest)

seed-told : (w : Awaits) (words rest : List (List ℕ)) (o : Option ℕ) → ((n : ℕ) → o ≡ Some n → HasOption (codes "--seed") n words rest) → IsTold rest
    → (a : Option Task) (b c : Option ℕ) (d : Bool) → Ended (parts_from (with_seed (state w a b c d) o) rest)
    → Finds words a b c d (parts_from (with_seed (state w a b c d) o) rest)
seed-told w words rest None has told a b c d e = absurd (spoilt-never (spoilt (state w a b c d)) rest refl e)
seed-told w words rest (Some n) has told a (Some x) c d e = absurd (spoilt-never (spoilt (state w a (Some x) c d)) rest refl e)
seed-told w words rest (Some n) has told a None c d e =
    seed-found n words rest a c d _ (has n refl) (told Awaits.Nothing a (Some n) c d e)

count-told : (w : Awaits) (words rest : List (List ℕ)) (o : Option ℕ) → ((m : ℕ) → o ≡ Some m → HasOption (codes "--count") m words rest) → IsTold rest
    → (a : Option Task) (b c : Option ℕ) (d : Bool) → Ended (parts_from (with_count (state w a b c d) o) rest)
    → Finds words a b c d (parts_from (with_count (state w a b c d) o) rest)
count-told w words rest None has told a b c d e = absurd (spoilt-never (spoilt (state w a b c d)) rest refl e)
count-told w words rest (Some m) has told a b (Some x) d e = absurd (spoilt-never (spoilt (state w a b (Some x) d)) rest refl e)
count-told w words rest (Some m) has told a b None d e =
    count-found m words rest a b d _ (has m refl) (told Awaits.Nothing a b (Some m) d e)

-- a word where no value is awaited
word-told : (w : List ℕ) (rest : List (List ℕ)) → IsTold rest → (a : Option Task) (b c : Option ℕ) (d : Bool) (q : Parts)
    → Reads (parts_of a b c d) w q → Ended (parts_from q rest) → Finds (w ∷ rest) a b c d (parts_from q rest)
word-told w rest told (Some x) b c d _ (as-job t i) e = absurd (spoilt-never (spoilt (parts_of (Some x) b c d)) rest refl e)
word-told w rest told None b c d _ (as-job t i) e = job-found t w rest b c d _ i (told Awaits.Nothing (Some t) b c d e)
word-told w rest told a b c true _ (as-trace i) e = absurd (spoilt-never (spoilt (parts_of a b c true)) rest refl e)
word-told w rest told a b c false _ (as-trace i) e = trace-found w rest a b c _ i (told Awaits.Nothing a b c true e)
word-told w rest told a b c d _ (as-seed i) e =
    subst (λ x. Finds (x ∷ rest) a b c d (parts_from (state Awaits.Seed a b c d) rest)) (sym i) (told Awaits.Seed a b c d e)
word-told w rest told a b c d _ (as-count i) e =
    subst (λ x. Finds (x ∷ rest) a b c d (parts_from (state Awaits.Count a b c d) rest)) (sym i) (told Awaits.Count a b c d e)
word-told w rest told a b c d _ (as-seed-by text i) e =
    seed-told Awaits.Nothing (w ∷ rest) rest (number text) (λ n h. (text, h, inr (ap (λ x. x ∷ rest) i))) told a b c d e
word-told w rest told a b c d _ (as-count-by text i) e =
    count-told Awaits.Nothing (w ∷ rest) rest (number text) (λ n h. (text, h, inr (ap (λ x. x ∷ rest) i))) told a b c d e
word-told w rest told a b c d _ as-none e = absurd (spoilt-never (spoilt (parts_of a b c d)) rest refl e)

all-told : (words : List (List ℕ)) → IsTold words
all-told [] Awaits.Nothing a b c d e = record {
  task = None;
  seed = None;
  count = None;
  trace = false;
  says = Nothing;
  tasks = apart-none a;
  seeds = apart-none b;
  counts = apart-none c;
  traces = apart-false d;
  whole = rw (either_none a, either_none b, either_none c, or_false d) refl;
}
  where
    apart-none : {A : Type 0} (o : Option A) → Apart o None
    apart-none None = tt
    apart-none (Some x) = tt

    apart-false : (o : Bool) → ApartBool o false
    apart-false true = tt
    apart-false false = tt
all-told [] Awaits.Seed a b c d e = absurd (let h : Awaits.Seed ≡ Awaits.Nothing = e.1 in cc)
all-told [] Awaits.Count a b c d e = absurd (let h : Awaits.Count ≡ Awaits.Nothing = e.1 in cc)
all-told (w ∷ words) Awaits.Nothing a b c d e = word-told w words (all-told words) a b c d _ (reads (parts_of a b c d) w) e
all-told (w ∷ words) Awaits.Seed a b c d e =
    seed-told Awaits.Seed (codes "--seed" ∷ w ∷ words) words (number w) (λ n h. (w, h, inl refl)) (all-told words) a b c d e
all-told (w ∷ words) Awaits.Count a b c d e =
    count-told Awaits.Count (codes "--count" ∷ w ∷ words) words (number w) (λ n h. (w, h, inl refl)) (all-told words) a b c d e

-- ---- the table

over : (a : Awaits) → is_over a ≡ true → a ≡ Awaits.Nothing
over Awaits.Nothing e = refl
over Awaits.Seed e = cc
over Awaits.Count e = cc

named : (p : Parts) (job : Job) → finished p ≡ Some job → Ended p × (job_by p.task p.seed p.count p.trace ≡ Some job)
named p job e = bad p.bad refl (is_over p.awaits) refl e
  where
    bad : (b : Bool) → p.bad ≡ b → (o : Bool) → is_over p.awaits ≡ o
        → (if b then None else if o then job_by p.task p.seed p.count p.trace else None) ≡ Some job
        → Ended p × (job_by p.task p.seed p.count p.trace ≡ Some job)
    bad true h o i e = cc
    bad false h true i e = ((h, over p.awaits i), e)
    bad false h false i e = cc

same-row : (words : List (List ℕ)) (x y : Job) → Some x ≡ Some y → IsRow words x → IsRow words y
same-row words x y e r = let s : x ≡ y = cc in subst (IsRow words) s r

none-some : {A : Type 0} (x : A) → None ≡ Some x → ⊥
none-some x e = cc

counted : (words : List (List ℕ)) (x job : Job) (b : Bool) → (if b then Some x else None) ≡ Some job → (b ≡ true → IsRow words x) → IsRow words job
counted words x job true e row = same-row words x job e (row refl)
counted words x job false e row = absurd (none-some job e)

row-of : (words : List (List ℕ)) (t : Option Task) (n m : Option ℕ) (u : Bool) (job : Job) → Says words t n m u → job_by t n m u ≡ Some job → IsRow words job
row-of words None n m u job s e = absurd (none-some job e)
row-of words (Some Task.Run) None None u job s e = same-row words (Run u) job e s
row-of words (Some Task.Run) None (Some y) u job s e = absurd (none-some job e)
row-of words (Some Task.Run) (Some x) None u job s e = absurd (none-some job e)
row-of words (Some Task.Run) (Some x) (Some y) u job s e = absurd (none-some job e)
row-of words (Some Task.Serial) n None u job s e = same-row words (Serial n u) job e s
row-of words (Some Task.Serial) None (Some y) u job s e = absurd (none-some job e)
row-of words (Some Task.Serial) (Some x) (Some y) u job s e = absurd (none-some job e)
row-of words (Some Task.Check) None None false job s e = same-row words Check job e s
row-of words (Some Task.Check) None None true job s e = absurd (none-some job e)
row-of words (Some Task.Check) None (Some y) u job s e = absurd (none-some job e)
row-of words (Some Task.Check) (Some x) None u job s e = absurd (none-some job e)
row-of words (Some Task.Check) (Some x) (Some y) u job s e = absurd (none-some job e)
row-of words (Some Task.Generate) (Some n) (Some m) false job s e = counted words (Generate n m) job (is_count m) e (λ c. (s, c))
row-of words (Some Task.Generate) (Some n) (Some m) true job s e = absurd (none-some job e)
row-of words (Some Task.Generate) (Some n) None u job s e = absurd (none-some job e)
row-of words (Some Task.Generate) None m u job s e = absurd (none-some job e)
row-of words (Some Task.Mix) (Some n) (Some m) false job s e = counted words (Mix n m) job (is_count m) e (λ c. (s, c))
row-of words (Some Task.Mix) (Some n) (Some m) true job s e = absurd (none-some job e)
row-of words (Some Task.Mix) (Some n) None u job s e = absurd (none-some job e)
row-of words (Some Task.Mix) None m u job s e = absurd (none-some job e)

named-row : (words : List (List ℕ)) (job : Job) → job_of words ≡ Some job → IsRow words job
named-row words job e =
    let k = named (parts_from none_yet words) job e in
    let f = all-told words Awaits.Nothing None None None false k.0 in
    row-of words f.task f.seed f.count f.trace job f.says (ap (λ (p : Parts). job_by p.task p.seed p.count p.trace) (sym f.whole) ∙ k.1)

row-named : (words : List (List ℕ)) (job : Job) → IsRow words job → job_of words ≡ Some job
row-named words (Run u) s = ap finished (full words _ _ _ _ s None None None false tt tt tt tt)
row-named words (Serial n u) s = ap finished (full words _ _ _ _ s None None None false tt tt tt tt)
row-named words Check s = ap finished (full words _ _ _ _ s None None None false tt tt tt tt)
row-named words (Generate n m) s = ap finished (full words _ _ _ _ s.0 None None None false tt tt tt tt) ∙ rw s.1 refl
row-named words (Mix n m) s = ap finished (full words _ _ _ _ s.0 None None None false tt tt tt tt) ∙ rw s.1 refl

-- the scan is the table
pub table : (words : List (List ℕ)) (job : Job) → (job_of words ≡ Some job) ↔ IsRow words job
table words job = (named-row words job, row-named words job)

-- it names none exactly where the words are no row
pub no-row : (words : List (List ℕ)) → (job_of words ≡ None) ↔ ((job : Job) → IsRow words job → ⊥)
no-row words = ((λ e job row. none-some job (sym e ∙ row-named words job row)), (λ never. go (job_of words) refl never))
  where
    go : (o : Option Job) → job_of words ≡ o → ((job : Job) → IsRow words job → ⊥) → o ≡ None
    go None e never = refl
    go (Some job) e never = absurd (never job (named-row words job e))
