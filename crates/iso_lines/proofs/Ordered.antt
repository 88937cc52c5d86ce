-- The names that somebody holds or awaits, in order.
use Rattle.std.proofs.Common.{Bor, ℕ, is_some, Option, None, Some, ◌≡◌, ◌∙◌, ◌<◌, ◌+◌, Bool, true, false, ◌||◌, List, [], ◌∷◌, length, get_or, map, refl, ap, sym, subst, arith, ◌≤◌}
use Rattle.std.specs.List.{AllByRecursion, IsDistinct, list_any}
use Rattle.std.specs.List.Sorted.{IsPermutation, IsSortedBy, IsStrictlySortedBy}
use Rattle.std.specs.Map.{keys_of}
use Rattle.std.specs.Ordering.{is_lt, ordering_reverse}
use Rattle.std.specs.Prelude.{filter}
use Rattle.std.specs.declared.cmp.Ordering.{Ordering}
use Rattle.std.specs.declared.cmp.Ordering.TheVariants.{Equal, Greater, Less}
use Rattle.std.proofs.lemmas.Cmp.{tied_itself}
use Rattle.std.proofs.lemmas.List.{get_or-map, length-map}
use Rattle.std.proofs.lemmas.Map.Keys.{IsDistinct-IsPermutation, apart_from_distinct, sorted_from_all_adjacent, sorted_head, sorted_tail}
use Rattle.std.proofs.lemmas.List.Sorted.{IsPermutation-map, list_any-IsPermutation}
use Rattle.std.proofs.lemmas.Map.Made.{is_some-lookup}
use Rattle.iso_lines.proofs.Loose.{or_second}
use Rattle.iso_lines.proofs.Names.{name_same}
use Rattle.iso_lines.proofs.TotalOrder.{lt_is, name_cmp, name_total, same_of}
use Rattle.iso_lines.proofs.Parts.{gone, kept}
use Rattle.iso_lines.proofs.Same.{name_is, turned}
use Rattle.iso_lines.proofs.Tests.{same_names, same_test}
use Rattle.iso_lines.specs.Named.{IsWhole, Named, key_of, line_of, same}
use Rattle.iso_queue.specs.Lines.{is_used}
use Rattle.iso_queue.specs.Snapshots.{name_lt, ordered, with_name}
use Rattle.iso_types.specs.Ids.{name_eq}
use Rattle.iso_types.specs.declared.head.Head.{Head}
use Rattle.iso_types.specs.declared.value.Name.{Name}

-- all of them come later
abbrev AllAbove : Head → Name → List Name → Type 0
AllAbove head n ms = AllByRecursion (λ m. name_cmp head n m ≡ Less) ms

-- the list has the name
abbrev pub has : List Name → Name → Bool
has ns n = list_any (λ m. name_eq m n) ns

less : (head : Head) (n m : Name) → name_cmp head n m ≡ Less → name_lt head n m ≡ true
less head n m e = sym (lt_is head n m) ∙ ap is_lt e

not_less : (head : Head) (n m : Name) → name_cmp head n m ≡ Less → name_lt head m n ≡ false
not_less head n m e = sym (lt_is head m n) ∙ ap is_lt ((name_total head).antisymm m n ∙ ap ordering_reverse e)

not_itself : (head : Head) (n : Name) → name_lt head n n ≡ false
not_itself head n = sym (lt_is head n n) ∙ ap is_lt (tied_itself (name_total head) n)

other_by : (head : Head) (n m : Name) (b : Bool) → name_eq n m ≡ b → name_cmp head n m ≡ Less → name_eq n m ≡ false
other_by head n m true e f =
    let same : name_cmp head n n ≡ Less = subst (λ (k : Name). name_cmp head n k ≡ Less) (sym (name_is n m e)) f in
    cc (sym (tied_itself (name_total head) n) ∙ same)
other_by head n m false e f = e

other : (head : Head) (n m : Name) → name_cmp head n m ≡ Less → name_eq n m ≡ false
other head n m e = other_by head n m (name_eq n m) refl e

with_here : (head : Head) (n m : Name) (ms : List Name) → name_lt head n m ≡ true → with_name head n (m ∷ ms) ≡ n ∷ m ∷ ms
with_here head n m ms e = rw e refl

with_same : (head : Head) (n m : Name) (ms : List Name) → name_lt head n m ≡ false → name_eq n m ≡ true → with_name head n (m ∷ ms) ≡ m ∷ ms
with_same head n m ms e f = rw (e, f) refl

with_past : (head : Head) (n m : Name) (ms : List Name) → name_lt head n m ≡ false → name_eq n m ≡ false → with_name head n (m ∷ ms) ≡ m ∷ with_name head n ms
with_past head n m ms e f = rw (e, f) refl

first : (head : Head) (n : Name) (ms : List Name) → AllAbove head n ms → with_name head n ms ≡ n ∷ ms
first head n [] above = refl
first head n (m ∷ ms) above = with_here head n m ms (less head n m above.0)

kept_by : {X : Type 0} (P : X → Type 0) (p : X → Bool) (x : X) (xs : List X) (b : Bool) → p x ≡ b → P x → AllByRecursion P (filter p xs) → AllByRecursion P (filter p (x ∷ xs))
kept_by P p x xs true e own ih = subst (AllByRecursion P) (sym (kept p x xs e)) (own, ih)
kept_by P p x xs false e own ih = subst (AllByRecursion P) (sym (gone p x xs e)) ih

all_kept : {X : Type 0} (P : X → Type 0) (p : X → Bool) (xs : List X) → AllByRecursion P xs → AllByRecursion P (filter p xs)
all_kept P p [] all = tt
all_kept P p (x ∷ xs) all = kept_by P p x xs (p x) refl all.0 (all_kept P p xs all.1)

-- the name, or what passes
abbrev or_name : Name → (Name → Bool) → Name → Bool
or_name n p m = name_eq n m || p m

alike_by : {X : Type 0} (p q : X → Bool) (x : X) (xs : List X) (b : Bool) → q x ≡ b → p x ≡ q x → filter p xs ≡ filter q xs → filter p (x ∷ xs) ≡ filter q (x ∷ xs)
alike_by p q x xs true e same ih = kept p x xs (same ∙ e) ∙ ap (λ (l : List _). x ∷ l) ih ∙ sym (kept q x xs e)
alike_by p q x xs false e same ih = gone p x xs (same ∙ e) ∙ ih ∙ sym (gone q x xs e)

unlike : (head : Head) (n : Name) (p : Name → Bool) (ms : List Name) → AllAbove head n ms → filter (or_name n p) ms ≡ filter p ms
unlike head n p [] above = refl
unlike head n p (m ∷ ms) above =
    alike_by (or_name n p) p m ms (p m) refl (ap (λ (b : Bool). b || p m) (other head n m above.0)) (unlike head n p ms above.1)

here : (head : Head) (p : Name → Bool) (y : Name) (ys : List Name) (b : Bool) → p y ≡ b → AllAbove head y ys
    → with_name head y (filter p (y ∷ ys)) ≡ filter (or_name y p) (y ∷ ys)
here head p y ys true e above =
    ap (with_name head y) (kept p y ys e) ∙ with_same head y y (filter p ys) (not_itself head y) (name_same y)
    ∙ ap (λ (l : List Name). y ∷ l) (sym (unlike head y p ys above)) ∙ sym (kept (or_name y p) y ys (ap (λ (b : Bool). b || p y) (name_same y)))
here head p y ys false e above =
    ap (with_name head y) (gone p y ys e) ∙ first head y (filter p ys) (all_kept (λ (m : Name). name_cmp head y m ≡ Less) p ys above)
    ∙ ap (λ (l : List Name). y ∷ l) (sym (unlike head y p ys above)) ∙ sym (kept (or_name y p) y ys (ap (λ (b : Bool). b || p y) (name_same y)))

past : (head : Head) (n : Name) (p : Name → Bool) (y : Name) (ys : List Name) (b : Bool) → p y ≡ b → name_cmp head y n ≡ Less
    → with_name head n (filter p ys) ≡ filter (or_name n p) ys → with_name head n (filter p (y ∷ ys)) ≡ filter (or_name n p) (y ∷ ys)
past head n p y ys true e lt ih =
    ap (with_name head n) (kept p y ys e) ∙ with_past head n y (filter p ys) (not_less head y n lt) (turned y n (other head y n lt))
    ∙ ap (λ (l : List Name). y ∷ l) ih ∙ sym (kept (or_name n p) y ys (or_second (name_eq n y) (p y) e))
past head n p y ys false e lt ih =
    ap (with_name head n) (gone p y ys e) ∙ ih
    ∙ sym (gone (or_name n p) y ys (ap (λ (b : Bool). b || p y) (turned y n (other head y n lt)) ∙ e))

found_by : (head : Head) (y n m : Name) (ms : List Name) (b : Bool) → name_eq m n ≡ b → name_cmp head y m ≡ Less → has (m ∷ ms) n ≡ true
    → (has ms n ≡ true → name_cmp head y n ≡ Less) → name_cmp head y n ≡ Less
found_by head y n m ms true e lt has_it ih = subst (λ (k : Name). name_cmp head y k ≡ Less) (name_is m n e) lt
found_by head y n m ms false e lt has_it ih = ih (sym (ap (λ (b : Bool). b || has ms n) e) ∙ has_it)

found : (head : Head) (y n : Name) (ms : List Name) → AllAbove head y ms → has ms n ≡ true → name_cmp head y n ≡ Less
found head y n [] above has_it = cc
found head y n (m ∷ ms) above has_it = found_by head y n m ms (name_eq m n) refl above.0 has_it (found head y n ms above.1)

placed_by : (head : Head) (n : Name) (p : Name → Bool) (y : Name) (ys : List Name) (b : Bool) → name_eq y n ≡ b → AllAbove head y ys → has (y ∷ ys) n ≡ true
    → (has ys n ≡ true → with_name head n (filter p ys) ≡ filter (or_name n p) ys) → with_name head n (filter p (y ∷ ys)) ≡ filter (or_name n p) (y ∷ ys)
placed_by head n p y ys true e above has_it ih =
    subst (λ (k : Name). with_name head k (filter p (y ∷ ys)) ≡ filter (or_name k p) (y ∷ ys)) (name_is y n e) (here head p y ys (p y) refl above)
placed_by head n p y ys false e above has_it ih =
    let rest : has ys n ≡ true = sym (ap (λ (b : Bool). b || has ys n) e) ∙ has_it in
    past head n p y ys (p y) refl (found head y n ys above rest) (ih rest)

-- a name of the list is put among those that pass
placed : (head : Head) (n : Name) (p : Name → Bool) (ys : List Name) → IsStrictlySortedBy (name_cmp head) ys → has ys n ≡ true
    → with_name head n (filter p ys) ≡ filter (or_name n p) ys
placed head n p [] up has_it = cc
placed head n p (y ∷ ys) up has_it =
    placed_by head n p y ys (name_eq y n) refl (sorted_head (name_cmp head) y ys up) has_it (placed head n p ys (sorted_tail (name_cmp head) y ys up))

none_kept : (ys : List Name) → filter (λ (m : Name). false) ys ≡ []
none_kept [] = refl
none_kept (y ∷ ys) = none_kept ys

-- names of the list, in order and each once, are what the list keeps of them
ordered_is : (head : Head) (ys xs : List Name) → IsStrictlySortedBy (name_cmp head) ys → AllByRecursion (λ (x : Name). has ys x ≡ true) xs
    → ordered head xs ≡ filter (has xs) ys
ordered_is head ys [] up all = sym (none_kept ys)
ordered_is head ys (x ∷ xs) up all = ap (with_name head x) (ordered_is head ys xs up all.1) ∙ placed head x (has xs) ys up all.0

flips_by : (n m : Name) (a b : Bool) → name_eq n m ≡ a → name_eq m n ≡ b → name_eq n m ≡ name_eq m n
flips_by n m true true e f = e ∙ sym f
flips_by n m false false e f = e ∙ sym f
flips_by n m true false e f = cc (sym e ∙ turned m n f)
flips_by n m false true e f = cc (sym f ∙ turned n m e)

flips : (n m : Name) → name_eq n m ≡ name_eq m n
flips n m = flips_by n m (name_eq n m) (name_eq m n) refl refl

rises_by : (head : Head) (n m : Name) (o : Ordering) → name_cmp head n m ≡ o → name_lt head m n ≡ false → name_eq n m ≡ false → name_cmp head n m ≡ Less
rises_by head n m Less e f g = e
rises_by head n m Equal e f g = cc (sym (same_of head n m e) ∙ g)
rises_by head n m Greater e f g =
    let back : name_cmp head m n ≡ Less = (name_total head).antisymm m n ∙ ap ordering_reverse e in
    cc (sym (less head m n back) ∙ f)

-- sorted and distinct, they rise
rises : {X : Type 0} (head : Head) (f : X → Name) (xs : List X) → IsSortedBy (λ (x y : X). name_lt head (f x) (f y)) xs → IsDistinct name_eq (map f xs)
    → IsStrictlySortedBy (name_cmp head) (map f xs)
unfolding IsStrictlySortedBy
rises head f [] up apart = tt
rises head f (x ∷ xs) up apart =
    let all = x ∷ xs in
    let d = f x in
    sorted_from_all_adjacent (name_total head) (map f all) d (λ k lt.
    let len : length (map f all) ≡ length all = rw length-map refl in
    let below : k + 1 < length all = omega (arith, lt, len) in
    let here : k < length all = omega (arith, below) in
    let within : k + 1 < length (map f all) = lt in
    let next : k < k + 1 = omega arith in
    let e : get_or (map f all) k d ≡ f (get_or all k x) = get_or-map f all k x d here in
    let g : get_or (map f all) (k + 1) d ≡ f (get_or all (k + 1) x) = get_or-map f all (k + 1) x d below in
    let ne : name_eq (get_or (map f all) k d) (get_or (map f all) (k + 1) d) ≡ false = apart_from_distinct name_eq (map f all) k (k + 1) d apart next within in
    let zero_le : 0 ≤ k = omega arith in
    let not_back : name_lt head (get_or (map f all) (k + 1) d) (get_or (map f all) k d) ≡ false =
    ap (λ (n : Name). name_lt head n (get_or (map f all) k d)) g ∙ ap (name_lt head (f (get_or all (k + 1) x))) e ∙ up k x zero_le below in
    rises_by head (get_or (map f all) k d) (get_or (map f all) (k + 1) d) (name_cmp head (get_or (map f all) k d) (get_or (map f all) (k + 1) d)) refl not_back ne)

-- ---- the names of lines
each_one : (P : Name → Type 0) (ns : List Name) → ((n : Name) → has ns n ≡ true → P n) → AllByRecursion P ns
each_one P [] all = tt
each_one P (n ∷ ns) all = (
  all n (ap (λ (b : Bool). b || has ns n) (name_same n)),
  each_one P ns (λ m e. all m (or_second (name_eq n m) (has ns m) e)),
)

all_pass : (p : Name → Bool) (ns : List Name) → ((n : Name) → has ns n ≡ true → p n ≡ true) → filter p ns ≡ ns
all_pass p [] all = refl
all_pass p (n ∷ ns) all =
    kept p n ns (all n (ap (λ (b : Bool). b || has ns n) (name_same n)))
    ∙ ap (λ (l : List Name). n ∷ l) (all_pass p ns (λ m e. all m (or_second (name_eq n m) (has ns m) e)))

has_keys : (ks : List Name) (n : Name) → list_any (same n) ks ≡ has ks n
has_keys [] n = refl
has_keys (k ∷ ks) n = ap (λ (b : Bool). b || list_any (same n) ks) (same_names n k ∙ flips n k) ∙ ap (λ (b : Bool). name_eq k n || b) (has_keys ks n)

module _ (head : Head) (l : Named) (whole : IsWhole l.index l.slots) where
  -- who is used is kept, and only who is used
  used_kept : (n : Name) → is_used (line_of l n) ≡ has (keys_of l.index) n
  used_kept n = by (key_of l.index n) refl ∙ is_some-lookup (same n) l.index ∙ has_keys (keys_of l.index) n
    where
      by : (o : Option ℕ) → key_of l.index n ≡ o → is_used (line_of l n) ≡ is_some (key_of l.index n)
      by None e = rw e refl
      by (Some k) e = whole.used n (ap is_some e) ∙ sym (ap is_some e)

  -- kept names in their order are any list of the used names, in order and each once
  pub in_order_is : (ps rs : List (Bor Name)) → map (λ p. p.now) ps ≡ keys_of l.index → IsDistinct same (keys_of l.index) → IsPermutation ps rs
      → IsSortedBy (λ p q. name_lt head p.now q.now) rs → (ns : List Name) → ((n : Name) → has ns n ≡ is_used (line_of l n)) → map (λ p. p.now) rs ≡ ordered head ns
  in_order_is ps rs keys once moved up ns members =
      let f = (λ (p : Bor Name). p.now) in
      let ys = map f rs in
      let turns : IsPermutation (map f ps) ys = IsPermutation-map f ps rs moved in
      let apart : IsDistinct name_eq (map f ps) = subst (λ (ks : List Name). IsDistinct name_eq ks) (sym keys) (subst (λ t. IsDistinct t (keys_of l.index)) same_test once) in
      let rising : IsStrictlySortedBy (name_cmp head) ys = rises head f rs up (IsDistinct-IsPermutation name_eq flips (map f ps) ys turns apart) in
      let there : (n : Name) → has ys n ≡ has ns n = λ n.
      sym (list_any-IsPermutation (λ (m : Name). name_eq m n) (map f ps) ys turns) ∙ ap (λ (ks : List Name). has ks n) keys ∙ sym (used_kept n) ∙ sym (members n) in
      sym (ordered_is head ys ns rising (each_one (λ (n : Name). has ys n ≡ true) ns (λ n e. there n ∙ e)) ∙ all_pass (has ns) ys (λ n e. sym (there n) ∙ e))
