-- The names that a connection takes, counted in the lists of holds and waits.
use Rattle.std.proofs.Common.{◌≡◌, ◌≤◌, ◌+◌, ℕ, Bool, true, false, not, ◌&&◌, ◌||◌, List, [], ◌∷◌, ◌++◌, map, refl, ap, sym, subst, ◌∙◌, arith}
use Rattle.std.specs.List.{list_any}
use Rattle.std.specs.Option.{option_map, option_map_or, option_or}
use Rattle.std.specs.Prelude.{count_by, find, if◌then◌else◌, is_some, Option, None, Some}
use Rattle.std.proofs.lemmas.List.Folds.{find-append}
use Rattle.std.proofs.lemmas.List.Sums.{sum_by-cons}
use Rattle.iso_locklist.specs.Lists.{IsSingle, holds_in, named_hold, named_wait, waits_in}
use Rattle.iso_locklist.specs.Places.{are_apart, line_at, names, one, taken}
use Rattle.iso_locklist.specs.Places.{Place}
use Rattle.iso_lines.proofs.Same.{turned}
use Rattle.iso_locklist.proofs.Lists.{hold_of_name, seek_map}
use Rattle.iso_lines.proofs.Names.{name_same}
use Rattle.iso_queue.specs.Limits as limits
use Rattle.iso_queue.specs.Lines.{Line, hold_of, is_holder, is_touched, is_waiter, waiter_of}
use Rattle.iso_queue.specs.Locks as locks
use Rattle.iso_queue.specs.Queues as queues
use Rattle.iso_queue.specs.declared.types.Hold.{Hold}
use Rattle.iso_queue.specs.declared.types.Waiter.{Waiter}
use Rattle.iso_types.specs.Ids.{conn_eq, name_eq}
use Rattle.iso_types.specs.declared.value.Conn.{Conn}
use Rattle.iso_types.specs.declared.value.Name.{Name}

pub count_cons : {X : Type 0} (t : X → Bool) (x : X) (xs : List X) → count_by t (x ∷ xs) ≡ one (t x) + count_by t xs
count_cons t x xs = sum_by-cons (λ (y : _). one (t y)) x xs

pub count_append : {X : Type 0} (t : X → Bool) (xs ys : List X) → count_by t (xs ++ ys) ≡ count_by t xs + count_by t ys
count_append t [] ys = omega arith
count_append t (x ∷ xs) ys = omega (arith, count_cons t x (xs ++ ys), count_append t xs ys, count_cons t x xs)

pub count_map : {X Y : Type 0} (t : Y → Bool) (f : X → Y) (xs : List X) → count_by t (map f xs) ≡ count_by (λ x. t (f x)) xs
count_map t f [] = refl
count_map t f (x ∷ xs) = omega (arith, count_cons t (f x) (map f xs), count_map t f xs, count_cons (λ y. t (f y)) x xs)

-- a list with one at most has one where one is found
found_by : {X : Type 0} (t : X → Bool) (x : X) (xs : List X) (b : Bool) → t x ≡ b → count_by t (x ∷ xs) ≤ 1
    → (count_by t xs ≤ 1 → count_by t xs ≡ one (is_some (find t xs))) → count_by t (x ∷ xs) ≡ one (is_some (find t (x ∷ xs)))
found_by t x xs true e le ih =
    let some : one (is_some (find t (x ∷ xs))) ≡ 1 = rw e refl in
    let first : one (t x) ≡ 1 = rw e refl in
    omega (arith, some, first, le, count_cons t x xs)
found_by t x xs false e le ih =
    let same : one (is_some (find t (x ∷ xs))) ≡ one (is_some (find t xs)) = rw e refl in
    let first : one (t x) ≡ 0 = rw e refl in
    let less : count_by t xs ≤ 1 = omega (arith, first, le, count_cons t x xs) in
    omega (arith, same, first, ih less, count_cons t x xs)

pub found : {X : Type 0} (t : X → Bool) (xs : List X) → count_by t xs ≤ 1 → count_by t xs ≡ one (is_some (find t xs))
found t [] le = refl
found t (x ∷ xs) le = found_by t x xs (t x) refl le (found t xs)

-- a list without one
absent_by : {X : Type 0} (t : X → Bool) (x : X) (xs : List X) (b : Bool) → t x ≡ b → count_by t (x ∷ xs) ≡ 0
    → (count_by t xs ≡ 0 → is_some (find t xs) ≡ false) → is_some (find t (x ∷ xs)) ≡ false
absent_by t x xs true e none ih =
    let first : one (t x) ≡ 1 = rw e refl in
    absurd (omega (arith, first, none, count_cons t x xs))
absent_by t x xs false e none ih =
    let first : one (t x) ≡ 0 = rw e refl in
    let rest : count_by t xs ≡ 0 = omega (arith, first, none, count_cons t x xs) in
    rw e (ih rest)

pub absent : {X : Type 0} (t : X → Bool) (xs : List X) → count_by t xs ≡ 0 → is_some (find t xs) ≡ false
absent t [] none = refl
absent t (x ∷ xs) none = absent_by t x xs (t x) refl none (absent t xs)

-- each place has the line of its name
abbrev pub AllLines : List Place → List Place → Type 0
AllLines ps [] = Unit {0}
AllLines ps (r ∷ rs) = (line_at ps r.name ≡ r.queue) × AllLines ps rs

or_none : (a b : Bool) → (a || b) ≡ false → (a ≡ false) × (b ≡ false)
or_none true b e = cc
or_none false b e = (refl, e)

and_parts : (a b : Bool) → (a && b) ≡ true → (a ≡ true) × (b ≡ true)
and_parts true b e = (refl, e)
and_parts false b e = cc

not_true : (b : Bool) → not b ≡ true → b ≡ false
not_true true e = cc
not_true false e = refl

line_here : (p : Place) (ps : List Place) (n : Name) → name_eq p.name n ≡ true → line_at (p ∷ ps) n ≡ p.queue
line_here p ps n e = rw e refl

line_past : (p : Place) (ps : List Place) (n : Name) → name_eq p.name n ≡ false → line_at (p ∷ ps) n ≡ line_at ps n
line_past p ps n e = rw e refl

lines_more : (p : Place) (ps rs : List Place) → list_any (λ (k : Name). name_eq k p.name) (names rs) ≡ false → AllLines ps rs → AllLines (p ∷ ps) rs
lines_more p ps [] e all = all
lines_more p ps (r ∷ rs) e all =
    let parts = or_none (name_eq r.name p.name) (list_any (λ (k : Name). name_eq k p.name) (names rs)) e in
    (line_past p ps r.name (turned r.name p.name parts.0) ∙ all.0, lines_more p ps rs parts.1 all.1)

pub all_lines : (ps : List Place) → are_apart (names ps) ≡ true → AllLines ps ps
all_lines [] apart = tt
all_lines (p ∷ ps) apart =
    let parts = and_parts (not (list_any (λ (k : Name). name_eq k p.name) (names ps))) (are_apart (names ps)) apart in
    (line_here p ps p.name (name_same p.name), lines_more p ps ps (not_true (list_any (λ (k : Name). name_eq k p.name) (names ps)) parts.0) (all_lines ps parts.1))

-- the connection awaits the name and does not hold it
abbrev pub only_waits : Conn → Place → Bool
only_waits c p = is_waiter p.queue.waiters c && not (is_holder p.queue.holders c)

or_split : (a b : Bool) → one (a || b) ≡ one a + one (b && not a)
or_split true true = refl
or_split true false = refl
or_split false true = refl
or_split false false = refl

taken_split : (ps : List Place) (c : Conn) → taken ps c ≡ count_by (λ p. is_holder p.queue.holders c) ps + count_by (only_waits c) ps
taken_split [] c = refl
taken_split (p ∷ ps) c =
    omega (
      arith,
      count_cons (λ (r : Place). is_touched r.queue c) p ps,
      count_cons (λ (r : Place). is_holder r.queue.holders c) p ps,
      count_cons (only_waits c) p ps,
      or_split (is_holder p.queue.holders c) (is_waiter p.queue.waiters c),
      taken_split ps c,
    )

holds_count : (ps rs : List Place) (c : Conn) → ((n : Name) → count_by (λ (h : Hold). conn_eq h.conn c) (line_at ps n).holders ≤ 1) → AllLines ps rs
    → count_by (λ (h : locks.Hold). conn_eq h.conn c) (holds_in rs) ≡ count_by (λ (p : Place). is_holder p.queue.holders c) rs
holds_count ps [] c single all = refl
holds_count ps (r ∷ rs) c single all =
    let le : count_by (λ (h : Hold). conn_eq h.conn c) r.queue.holders ≤ 1 = subst (λ (l : Line). count_by (λ (h : Hold). conn_eq h.conn c) l.holders ≤ 1) all.0 (single r.name) in
    omega (
      arith,
      count_append (λ (h : locks.Hold). conn_eq h.conn c) (map (named_hold r.name) r.queue.holders) (holds_in rs),
      count_map (λ (h : locks.Hold). conn_eq h.conn c) (named_hold r.name) r.queue.holders,
      found (λ (h : Hold). conn_eq h.conn c) r.queue.holders le,
      count_cons (λ (p : Place). is_holder p.queue.holders c) r rs,
      holds_count ps rs c single all.1,
    )

pub waits_more : (r : Place) (rs : List Place) (c : Conn) → count_by (λ (x : queues.Wait). conn_eq x.conn c) (waits_in (r ∷ rs))
    ≡ count_by (λ (w : Waiter). conn_eq w.conn c) r.queue.waiters + count_by (λ (x : queues.Wait). conn_eq x.conn c) (waits_in rs)
waits_more r rs c =
    count_append (λ (x : queues.Wait). conn_eq x.conn c) (map (named_wait r.name) r.queue.waiters) (waits_in rs)
    ∙ ap (λ (k : ℕ). k + count_by (λ (x : queues.Wait). conn_eq x.conn c) (waits_in rs)) (count_map (λ (x : queues.Wait). conn_eq x.conn c) (named_wait r.name) r.queue.waiters)

none_waits : (rs : List Place) (c : Conn) → count_by (λ (x : queues.Wait). conn_eq x.conn c) (waits_in rs) ≡ 0 → count_by (only_waits c) rs ≡ 0
none_waits [] c none = refl
none_waits (r ∷ rs) c none =
    let here : count_by (λ (w : Waiter). conn_eq w.conn c) r.queue.waiters ≡ 0 = omega (arith, none, waits_more r rs c) in
    let rest : count_by (λ (x : queues.Wait). conn_eq x.conn c) (waits_in rs) ≡ 0 = omega (arith, none, waits_more r rs c) in
    let first : one (only_waits c r) ≡ 0 = ap (λ (b : Bool). one (b && not (is_holder r.queue.holders c))) (absent (λ (w : Waiter). conn_eq w.conn c) r.queue.waiters here) in
    omega (arith, first, count_cons (only_waits c) r rs, none_waits rs c rest)

-- what the wait of a connection counts
abbrev pub wait_counts : List locks.Hold → Conn → Option queues.Wait → ℕ
wait_counts holds c o = option_map_or (λ x. if locks.is_held holds c x.name then 0 else 1) o 0

pub wait_is : (r : Place) (rs : List Place) (c : Conn) (o : Option Waiter) → waiter_of r.queue.waiters c ≡ o
    → queues.wait_of (waits_in (r ∷ rs)) c ≡ option_or (option_map (named_wait r.name) o) (queues.wait_of (waits_in rs) c)
wait_is r rs c o e =
    find-append (λ (x : queues.Wait). conn_eq x.conn c) (map (named_wait r.name) r.queue.waiters) (waits_in rs)
    ∙ ap (λ (p : Option queues.Wait). option_or p (queues.wait_of (waits_in rs) c))
    (seek_map (λ (x : queues.Wait). conn_eq x.conn c) (named_wait r.name) r.queue.waiters ∙ ap (option_map (named_wait r.name)) e)

not_one : (b : Bool) → one (true && not b) ≡ (if b then 0 else 1)
not_one true = refl
not_one false = refl

waits_by : (holds : List locks.Hold) (r : Place) (rs : List Place) (c : Conn) (o : Option Waiter) → waiter_of r.queue.waiters c ≡ o
    → locks.is_held holds c r.name ≡ is_holder r.queue.holders c → count_by (λ (x : queues.Wait). conn_eq x.conn c) (waits_in (r ∷ rs)) ≤ 1
    → (count_by (λ (x : queues.Wait). conn_eq x.conn c) (waits_in rs) ≤ 1 → count_by (only_waits c) rs ≡ wait_counts holds c (queues.wait_of (waits_in rs) c))
    → count_by (only_waits c) (r ∷ rs) ≡ wait_counts holds c (queues.wait_of (waits_in (r ∷ rs)) c)
waits_by holds r rs c None e held le ih =
    let rest : count_by (λ (x : queues.Wait). conn_eq x.conn c) (waits_in rs) ≤ 1 = omega (arith, le, waits_more r rs c) in
    let first : one (only_waits c r) ≡ 0 = ap (λ (p : Option Waiter). one (is_some p && not (is_holder r.queue.holders c))) e in
    let now : count_by (only_waits c) (r ∷ rs) ≡ count_by (only_waits c) rs = omega (arith, first, count_cons (only_waits c) r rs) in
    now ∙ ih rest ∙ ap (wait_counts holds c) (sym (wait_is r rs c None e))
waits_by holds r rs c (Some w) e held le ih =
    let small : count_by (λ (x : Waiter). conn_eq x.conn c) r.queue.waiters ≤ 1 = omega (arith, le, waits_more r rs c) in
    let here : count_by (λ (x : Waiter). conn_eq x.conn c) r.queue.waiters ≡ 1 = found (λ (x : Waiter). conn_eq x.conn c) r.queue.waiters small ∙ ap (λ (p : Option Waiter). one (is_some p)) e in
    let rest : count_by (λ (x : queues.Wait). conn_eq x.conn c) (waits_in rs) ≡ 0 = omega (arith, le, here, waits_more r rs c) in
    let first : one (only_waits c r) ≡ (if is_holder r.queue.holders c then 0 else 1) =
    ap (λ (p : Option Waiter). one (is_some p && not (is_holder r.queue.holders c))) e ∙ not_one (is_holder r.queue.holders c) in
    let now : count_by (only_waits c) (r ∷ rs) ≡ one (only_waits c r) = omega (arith, none_waits rs c rest, count_cons (only_waits c) r rs) in
    now ∙ first ∙ ap (λ (b : Bool). if b then 0 else 1) (sym held) ∙ ap (wait_counts holds c) (sym (wait_is r rs c (Some w) e))

waits_count : (ps rs : List Place) (c : Conn) → are_apart (names ps) ≡ true → AllLines ps rs → count_by (λ (x : queues.Wait). conn_eq x.conn c) (waits_in rs) ≤ 1
    → count_by (only_waits c) rs ≡ wait_counts (holds_in ps) c (queues.wait_of (waits_in rs) c)
waits_count ps [] c apart all le = refl
waits_count ps (r ∷ rs) c apart all le =
    waits_by (holds_in ps) r rs c (waiter_of r.queue.waiters c) refl
    (ap (λ (o : Option locks.Hold). is_some o) (hold_of_name ps c r.name apart) ∙ mapped (hold_of (line_at ps r.name).holders c) ∙ ap (λ (l : Line). is_holder l.holders c) all.0)
    le (waits_count ps rs c apart all.1)
  where
    mapped : (o : Option Hold) → is_some (option_map (named_hold r.name) o) ≡ is_some o
    mapped None = refl
    mapped (Some h) = refl

-- the count of a connection's names is that of its holds and of a wait for a name that it does not hold
pub taken_in_lists : (ps : List Place) (c : Conn) → are_apart (names ps) ≡ true → IsSingle ps c → taken ps c ≡ limits.taken (holds_in ps) (waits_in ps) c
taken_in_lists ps c apart single =
    omega (arith, taken_split ps c, holds_count ps ps c single.holds (all_lines ps apart), waits_count ps ps c apart (all_lines ps apart) single.waits)
