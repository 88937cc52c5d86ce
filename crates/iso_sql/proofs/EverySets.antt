-- The first fault of a list of assignments is the least of all.
use Rattle.std.proofs.Common.{◌≡◌, ◌≤◌, ◌<◌, ℕ, ℤ, Bool, true, false, cond, List, [], ◌∷◌, ◌++◌, Option, Some, None, refl, sym, ap, subst, ◌∙◌, inl, inr, arith}
use Rattle.std.specs.Prelude.{◌==◌, ◌||◌, ◌&&◌, not, if◌then◌else◌, is_some}
use Rattle.std.specs.List.{All}
use Rattle.std.specs.Option.{option_map_or}
use Rattle.std.proofs.lemmas.List.Elements.{All-append, All-cons, All-contains, All-head, All-nil, All-weaker, Contains-append_left}
use Rattle.std.proofs.lemmas.List.Folds.{list_any-append}
use Rattle.iso_types.specs.declared.head.Column.{Column}
use Rattle.iso_types.specs.declared.head.ColumnKind.{ColumnKind}
use Rattle.iso_grammar.specs.declared.fault.Cause.{Cause}
use Rattle.iso_grammar.specs.declared.fault.Cause.TheVariants.{Unknown, TypeFault, Duplicate, Limit}
use Rattle.iso_grammar.specs.declared.fault.Checked.{Checked}
use Rattle.iso_grammar.specs.declared.fault.Fault.{Fault}
use Rattle.iso_grammar.specs.declared.token.Token.{Token}
use Rattle.iso_grammar.specs.Faults.{at, is_sooner, least, unless}
use Rattle.iso_sql.specs.declared.assignment.Right.{Right}
use Rattle.iso_sql.specs.declared.assignment.Right.TheVariants as side
use Rattle.iso_sql.specs.declared.assignment.Target.{Target}
use Rattle.iso_sql.specs.declared.statement.Assignment.{Assignment}
use Rattle.iso_sql.specs.Actions.{added, assigned, assignment_of, column_right, go_on, is_set, literal_right, right_of, sum_right, taken, target_fault}
use Rattle.iso_sql.specs.Every.{IsLeastOf, Rise, are_numbers, assigned_tokens, clash, column_fault, each, every_assigned, every_right, every_summed, is_named, right_tokens, source_fault}
use Rattle.iso_sql.specs.Names.{Names, column_in, column_of, column_place, place_in}
use Rattle.iso_sql.specs.Rows.{stores}
use Rattle.iso_sql.specs.Sound.{is_assignable, is_number}
use Rattle.iso_sql.proofs.Firsts.{Beyond, at-least, beyond-less, beyond-none, first-least, joined-least, place-sooner}
use Rattle.iso_sql.proofs.SoundFacts.{at_none, column_there, least_none}
use Rattle.iso_sql.proofs.SoundRows.{is_there}
use Rattle.iso_sql.proofs.StandingLaws.{lower}

-- ---- facts of all faults at tokens

-- it holds of each fault at the token
abbrev pub At : (Fault → Type 0) → Token → Type 0
At P t = (why : Cause) → P (record { place = t.start; cause = why })

abbrev pub AllAt : (Fault → Type 0) → List Token → Type 0
AllAt P [] = Unit {0}
AllAt P (t ∷ ts) = At P t × AllAt P ts

pub all-at : (P : Fault → Type 0) (t : Token) (why : Cause) → At P t → All P (each (at t why))
unfolding at
all-at P t why h = All-cons P (record { place = t.start; cause = why }) [] (h why) (All-nil P)

all-unless : (P : Fault → Type 0) (b : Bool) (t : Token) (why : Cause) → At P t → All P (each (unless b t why))
unfolding unless
all-unless P true t why h = All-nil P
all-unless P false t why h = all-at P t why h

all-clash : (P : Fault → Type 0) (go : ColumnKind → ColumnKind → Bool) (source target : Option Column) (t : Token) → At P t → All P (each (clash go source target t))
all-clash P go None target t h = All-nil P
all-clash P go (Some s) None t h = All-nil P
all-clash P go (Some s) (Some d) t h = all-unless P (go s.kind d.kind) t TypeFault h

all-summed : (P : Fault → Type 0) (names : Names) (target : Option Column) (t n : Token) (number : Option ℤ) → At P t → At P n → All P (every_summed names target t n number)
all-summed P names target t n number h k =
    All-append P (each (source_fault names t)) (each (clash are_numbers (column_of names t) target t) ++ each (unless (is_some number) n Limit)) (all-unless P (is_some (column_of names t)) t Unknown h)
    (All-append P (each (clash are_numbers (column_of names t) target t)) (each (unless (is_some number) n Limit)) (all-clash P are_numbers (column_of names t) target t h) (all-unless P (is_some number) n Limit k))

pub all-literal : (P : Fault → Type 0) (line : List ℕ) (target : Option Column) (t : Token) → At P t → All P (each (literal_right line target t))
all-literal P line None t h = All-nil P
all-literal P line (Some d) t h = all-unless P (stores false line d t) t TypeFault h

all-right : (P : Fault → Type 0) (names : Names) (target : Option Column) (x : Right) → AllAt P (right_tokens x) → All P (every_right names target x)
all-right P names target (side.Literal t) h = all-literal P names.line target t h.0
all-right P names target (side.Column t) h =
    All-append P (each (source_fault names t)) (each (clash is_assignable (column_of names t) target t)) (all-unless P (is_some (column_of names t)) t Unknown h.0) (all-clash P is_assignable (column_of names t) target t h.0)
all-right P names target (side.Plus t n) h = all-summed P names target t n (added names.line n) h.0 h.1.0
all-right P names target (side.Minus t n) h = all-summed P names target t n (taken names.line n) h.0 h.1.0

pub all-column : (P : Fault → Type 0) (names : Names) (before : List Token) (t : Token) → At P t → All P (each (column_fault names before t))
all-column P names before t h = go (column_place names t)
  where
    go : (o : Option ℕ) → All P (each (option_map_or (λ p. unless (not (is_named names before p)) t Duplicate) o (at t Unknown)))
    go None = all-at P t Unknown h
    go (Some p) = all-unless P (not (is_named names before p)) t Duplicate h

-- all that is wrong with one assignment
abbrev one : Names → List Token → Target → List Fault
one names before a = each (column_fault names before a.column) ++ every_right names (column_of names a.column) a.right

all-one : (P : Fault → Type 0) (names : Names) (before : List Token) (a : Target) → At P a.column → AllAt P (right_tokens a.right) → All P (one names before a)
all-one P names before a h k = All-append P (each (column_fault names before a.column)) (every_right names (column_of names a.column) a.right) (all-column P names before a.column h) (all-right P names (column_of names a.column) a.right k)

-- ---- a right side

pub each-least : (o : Option Fault) → IsLeastOf o (each o)
each-least None = refl
each-least (Some f) = first-least f [] (beyond-none f.place)

summed-least : (names : Names) (d : Column) (t n : Token) (number : Option ℤ) → t.start < n.start → IsLeastOf (sum_right (Some d) (column_of names t) t n number) (every_summed names (Some d) t n number)
unfolding unless
summed-least names d t n number lt = go (column_of names t)
  where
    kinds : (s : Column) (b : Bool) → IsLeastOf (if b then unless (is_some number) n Limit else at t TypeFault) (each (unless b t TypeFault) ++ each (unless (is_some number) n Limit))
    kinds s true = each-least (unless (is_some number) n Limit)
    kinds s false = at-least t TypeFault (each (unless (is_some number) n Limit)) (all-unless (λ g. t.start < g.place) (is_some number) n Limit (λ why. lt))

    go : (o : Option Column) → IsLeastOf (sum_right (Some d) o t n number) (each (unless (is_some o) t Unknown) ++ (each (clash are_numbers o (Some d) t) ++ each (unless (is_some number) n Limit)))
    go None = at-least t Unknown (each (unless (is_some number) n Limit)) (all-unless (λ g. t.start < g.place) (is_some number) n Limit (λ why. lt))
    go (Some s) = kinds s (is_number s.kind && is_number d.kind)

right-least : (names : Names) (d : Column) (x : Right) (n : ℕ) → Rise n (right_tokens x) → IsLeastOf (right_of names (Some d) x).fault (every_right names (Some d) x)
unfolding right_of unless
right-least names d (side.Literal t) n r = each-least (literal_right names.line (Some d) t)
right-least names d (side.Column t) n r = go (column_of names t)
  where
    go : (o : Option Column) → IsLeastOf (column_right (Some d) o t) (each (unless (is_some o) t Unknown) ++ each (clash is_assignable o (Some d) t))
    go None = at-least t Unknown [] (beyond-none t.start)
    go (Some s) = each-least (unless (is_assignable s.kind d.kind) t TypeFault)
right-least names d (side.Plus t m) n r = summed-least names d t m (added names.line m) r.1.0
right-least names d (side.Minus t m) n r = summed-least names d t m (taken names.line m) r.1.0

undeclared-sum : (P : Fault → Type 0) (t n : Token) (number : Option ℤ) (o : Option Column) → At P t → All P (each (sum_right None o t n number))
undeclared-sum P t n number None h = all-at P t Unknown h
undeclared-sum P t n number (Some s) h = All-nil P

-- where the target is not declared, what is told of a right side is one of its faults still
told-right : (P : Fault → Type 0) (names : Names) (x : Right) → AllAt P (right_tokens x) → All P (each (right_of names None x).fault)
unfolding right_of
told-right P names (side.Literal t) h = All-nil P
told-right P names (side.Column t) h = go (column_of names t)
  where
    go : (o : Option Column) → All P (each (column_right None o t))
    go None = all-at P t Unknown h.0
    go (Some s) = All-nil P
told-right P names (side.Plus t n) h = undeclared-sum P t n (added names.line n) (column_of names t) h.0
told-right P names (side.Minus t n) h = undeclared-sum P t n (taken names.line n) (column_of names t) h.0

-- ---- one assignment

least-stays : (t : Token) (why : Cause) (o : Option Fault) → All (λ g. t.start < g.place) (each o) → least (at t why) o ≡ at t why
unfolding least at
least-stays t why None all = refl
least-stays t why (Some g) all = ap (λ v. cond v (Some g) (at t why)) (place-sooner (record { place = t.start; cause = why }) g (All-head (λ h. t.start < h.place) g [] all))

-- the places that are set are those that the tokens name
abbrev pub AreSet : Names → List Assignment → List Token → Type 0
AreSet names made ts = (p : ℕ) → is_set made p ≡ is_named names ts p

rise-at : (n : ℕ) (ts : List Token) → Rise n ts → AllAt (λ g. n < g.place) ts
rise-at n [] r = tt
rise-at n (t ∷ ts) r = (λ why. r.0, rise-at n ts (let p : n < t.start = r.0 in lower t.start n ts (omega (arith, p)) r.1))

abbrev Whole : Names → List Assignment → List Token → Target → Option ℕ → Option Column → Type 0
Whole names made before a o c =
    IsLeastOf (least (target_fault made a.column o) (right_of names c a.right).fault) (each (option_map_or (λ p. unless (not (is_named names before p)) a.column Duplicate) o (at a.column Unknown)) ++ every_right names c a.right)

undeclared : (names : Names) (made : List Assignment) (before : List Token) (a : Target) (n : ℕ) → Rise n (a.column ∷ right_tokens a.right) → Whole names made before a None None
undeclared names made before a n r =
    let at' = rise-at a.column.start (right_tokens a.right) r.1 in
    subst (λ (o : Option Fault). IsLeastOf o (each (at a.column Unknown) ++ every_right names None a.right)) (sym (least-stays a.column Unknown (right_of names None a.right).fault (told-right (λ g. a.column.start < g.place) names a.right at')))
    (at-least a.column Unknown (every_right names None a.right) (all-right (λ g. a.column.start < g.place) names None a.right at'))

declared : (names : Names) (made : List Assignment) (before : List Token) (a : Target) (n : ℕ) (p : ℕ) (d : Column) → AreSet names made before → Rise n (a.column ∷ right_tokens a.right) → Whole names made before a (Some p) (Some d)
unfolding unless
declared names made before a n p d same r =
    joined-least (target_fault made a.column (Some p)) (right_of names (Some d) a.right).fault (each (unless (not (is_named names before p)) a.column Duplicate)) (every_right names (Some d) a.right)
    (subst (λ (b : Bool). IsLeastOf (if b then at a.column Duplicate else None) (each (unless (not (is_named names before p)) a.column Duplicate))) (sym (same p)) (twice (is_named names before p)))
    (right-least names d a.right a.column.start r.1)
  where
    twice : (b : Bool) → IsLeastOf (if b then at a.column Duplicate else None) (each (unless (not b) a.column Duplicate))
    twice true = each-least (at a.column Duplicate)
    twice false = refl

one-least : (names : Names) (made : List Assignment) (before : List Token) (a : Target) (n : ℕ) → AreSet names made before → Rise n (a.column ∷ right_tokens a.right) → IsLeastOf (assignment_of names made a).fault (one names before a)
unfolding assignment_of column_of
one-least names made before a n same r = elim (is_there (column_place names a.column)) [
  | inl e ↦ subst (λ (o : Option ℕ). Whole names made before a o (column_in names o)) (sym e) (undeclared names made before a n r)
  | inr w ↦
      let d = column_there names a.column w.0 w.1 in
      subst (λ (o : Option ℕ). Whole names made before a o (column_in names o)) (sym w.1)
      (subst (λ (c : Option Column). Whole names made before a (Some w.0) c) (sym d.1) (declared names made before a n w.0 d.0 same r))
]

-- ---- all of them

last_start : Right → ℕ
last_start (side.Literal t) = t.start
last_start (side.Column t) = t.start
last_start (side.Plus t n) = n.start
last_start (side.Minus t n) = n.start

right-parts : (m : ℕ) (x : Right) (more : List Token) → Rise m (right_tokens x ++ more) → Rise m (right_tokens x) × Rise (last_start x) more × (m < last_start x) × AllAt (λ g. g.place ≤ last_start x) (right_tokens x)
unfolding last_start
right-parts m (side.Literal t) more r = ((r.0, tt), r.1, r.0, (λ why. omega arith, tt))
right-parts m (side.Column t) more r = ((r.0, tt), r.1, r.0, (λ why. omega arith, tt))
right-parts m (side.Plus t n) more r = let p : m < t.start = r.0 in let q : t.start < n.start = r.1.0 in ((p, (q, tt)), r.1.1, omega (arith, p, q), (λ why. omega (arith, q), (λ why. omega arith, tt)))
right-parts m (side.Minus t n) more r = let p : m < t.start = r.0 in let q : t.start < n.start = r.1.0 in ((p, (q, tt)), r.1.1, omega (arith, p, q), (λ why. omega (arith, q), (λ why. omega arith, tt)))

pub assigned-beyond : (names : Names) (before : List Token) (as' : List Target) (n : ℕ) → Rise n (assigned_tokens as') → Beyond n (every_assigned names before as')
assigned-beyond names before [] n r = beyond-none n
assigned-beyond names before (a ∷ as') n r =
    let s = right-parts a.column.start a.right (assigned_tokens as') r.1 in
    let p : n < a.column.start = r.0 in
    let q : a.column.start < last_start a.right = s.2 in
    All-append (λ g. n < g.place) (one names before a) (every_assigned names (before ++ a.column ∷ []) as') (all-one (λ g. n < g.place) names before a (λ why. p) (rise-at n (right_tokens a.right) (lower a.column.start n (right_tokens a.right) (omega (arith, p)) s.0)))
    (beyond-less (last_start a.right) n (every_assigned names (before ++ a.column ∷ []) as') (omega (arith, p, q)) (assigned-beyond names (before ++ a.column ∷ []) as' (last_start a.right) s.1))

set-more : (names : Names) (made : List Assignment) (before : List Token) (a : Target) → AreSet names made before → (assignment_of names made a).fault ≡ None → AreSet names (made ++ (assignment_of names made a).value ∷ []) (before ++ a.column ∷ [])
unfolding assignment_of
set-more names made before a same e q = elim (is_there (column_place names a.column)) [
  | inl none ↦
      at_none a.column Unknown (sym (ap (target_fault made a.column) none) ∙ (least_none (target_fault made a.column (column_place names a.column)) (right_of names (column_of names a.column) a.right).fault e).0)
  | inr w ↦
      list_any-append (λ (x : Assignment). x.column == q) made ((assignment_of names made a).value ∷ [])
      ∙ ap (λ v. v || ((place_in (column_place names a.column) == q) || false)) (same q)
      ∙ ap (λ (o : Option ℕ). is_named names before q || ((place_in o == q) || false)) w.1
      ∙ ap (λ (o : Option ℕ). is_named names before q || (option_map_or (λ j. j == q) o false || false)) (sym w.1)
      ∙ sym (list_any-append (λ (x : Token). option_map_or (λ j. j == q) (column_place names x) false) before (a.column ∷ []))
]

step : (o : Option Fault) (more : Checked (List Assignment)) (made : List Assignment) (fs gs : List Fault) (m : ℕ) → IsLeastOf o fs → All (λ g. g.place ≤ m) fs → Beyond m gs → (o ≡ None → IsLeastOf more.fault gs)
    → IsLeastOf (go_on made o more).fault (fs ++ gs)
step None more made fs gs m l within behind ih = subst (λ (z : List Fault). IsLeastOf more.fault (z ++ gs)) (sym l) (ih refl)
step (Some f) more made fs gs m l within behind ih =
    let here : f.place ≤ m = All-contains (λ g. g.place ≤ m) fs f within l.0 in (
      Contains-append_left fs gs f l.0,
      All-append (λ g. is_sooner g f ≡ false) fs gs l.1 (All-weaker (λ g. m < g.place) (λ g. is_sooner g f ≡ false) (λ g lt. place-sooner f g (omega (arith, here, lt))) gs behind),
    )

pub assigned-least : (names : Names) (made : List Assignment) (before : List Token) (as' : List Target) (n : ℕ) → AreSet names made before → Rise n (assigned_tokens as')
    → IsLeastOf (assigned names made as').fault (every_assigned names before as')
assigned-least names made before [] n same r = refl
assigned-least names made before (a ∷ as') n same r =
    let s = right-parts a.column.start a.right (assigned_tokens as') r.1 in
    step (assignment_of names made a).fault (assigned names (made ++ (assignment_of names made a).value ∷ []) as') made (one names before a) (every_assigned names (before ++ a.column ∷ []) as') (last_start a.right)
    (one-least names made before a n same (r.0, s.0))
    (all-one (λ g. g.place ≤ last_start a.right) names before a (λ why. let q : a.column.start < last_start a.right = s.2 in omega (arith, q)) s.3)
    (assigned-beyond names (before ++ a.column ∷ []) as' (last_start a.right) s.1)
    (λ e. assigned-least names (made ++ (assignment_of names made a).value ∷ []) (before ++ a.column ∷ []) as' (last_start a.right) (set-more names made before a same e) s.1)
