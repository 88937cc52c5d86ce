-- Lists that have of each name the same items, in the same order.
use Rattle.std.proofs.Common.{◌≡◌, ◌≤◌, ◌+◌, ℕ, zero, suc, Bool, true, false, not, List, [], ◌∷◌, length, refl, ap, sym, ◌∙◌, arith}
use Rattle.std.specs.Prelude.{count_by, filter, find, Option, None, Some}
use Rattle.std.specs.Option.{option_or}
use Rattle.std.proofs.lemmas.List.Filters.{length-filter_both}
use Rattle.iso_locklist.specs.Places.{one}
use Rattle.iso_lines.proofs.Names.{name_same}
use Rattle.iso_locklist.proofs.Settles.{gone, kept}
use Rattle.iso_locklist.proofs.Taken.{count_cons}
use Rattle.iso_types.specs.Ids.{name_eq}
use Rattle.iso_types.specs.declared.value.Name.{Name}

-- two filters, in either order
swap_by : {X : Type 0} (p q : X → Bool) (x : X) (xs : List X) (a b : Bool) → p x ≡ a → q x ≡ b
    → filter p (filter q xs) ≡ filter q (filter p xs) → filter p (filter q (x ∷ xs)) ≡ filter q (filter p (x ∷ xs))
swap_by p q x xs true true e f ih =
    ap (filter p) (kept q x xs f) ∙ kept p x (filter q xs) e ∙ ap (λ (l : List _). x ∷ l) ih ∙ sym (kept q x (filter p xs) f)
    ∙ ap (filter q) (sym (kept p x xs e))
swap_by p q x xs true false e f ih = ap (filter p) (gone q x xs f) ∙ ih ∙ sym (gone q x (filter p xs) f) ∙ ap (filter q) (sym (kept p x xs e))
swap_by p q x xs false true e f ih = ap (filter p) (kept q x xs f) ∙ gone p x (filter q xs) e ∙ ih ∙ ap (filter q) (sym (gone p x xs e))
swap_by p q x xs false false e f ih = ap (filter p) (gone q x xs f) ∙ ih ∙ ap (filter q) (sym (gone p x xs e))

pub swap : {X : Type 0} (p q : X → Bool) (xs : List X) → filter p (filter q xs) ≡ filter q (filter p xs)
swap p q [] = refl
swap p q (x ∷ xs) = swap_by p q x xs (p x) (q x) refl refl (swap p q xs)

-- a count, by a second test
count_by_parts : {X : Type 0} (p q : X → Bool) (x : X) (xs : List X) (b : Bool) → q x ≡ b
    → count_by p xs ≡ count_by p (filter q xs) + count_by p (filter (λ y. not (q y)) xs)
    → count_by p (x ∷ xs) ≡ count_by p (filter q (x ∷ xs)) + count_by p (filter (λ y. not (q y)) (x ∷ xs))
count_by_parts p q x xs true e ih =
    omega (arith, ih, count_cons p x xs, ap (count_by p) (kept q x xs e), ap (count_by p) (gone (λ y. not (q y)) x xs (ap not e)), count_cons p x (filter q xs))
count_by_parts p q x xs false e ih =
    omega (
      arith,
      ih,
      count_cons p x xs,
      ap (count_by p) (gone q x xs e),
      ap (count_by p) (kept (λ y. not (q y)) x xs (ap not e)),
      count_cons p x (filter
          (λ y. not (q y)) xs),
    )

pub count_parts : {X : Type 0} (p q : X → Bool) (xs : List X) → count_by p xs ≡ count_by p (filter q xs) + count_by p (filter (λ y. not (q y)) xs)
count_parts p q [] = refl
count_parts p q (x ∷ xs) = count_by_parts p q x xs (q x) refl (count_parts p q xs)

-- none to find
none_found_by : {X : Type 0} (p : X → Bool) (x : X) (xs : List X) (b : Bool) → p x ≡ b → count_by p (x ∷ xs) ≡ 0
    → (count_by p xs ≡ 0 → find p xs ≡ None) → find p (x ∷ xs) ≡ None
none_found_by p x xs true e none ih =
    let first : one (p x) ≡ 1 = rw e refl in
    absurd (omega (arith, first, none, count_cons p x xs))
none_found_by p x xs false e none ih =
    let rest : count_by p xs ≡ 0 = omega (arith, none, count_cons p x xs) in
    rw e (ih rest)

pub none_found : {X : Type 0} (p : X → Bool) (xs : List X) → count_by p xs ≡ 0 → find p xs ≡ None
none_found p [] none = refl
none_found p (x ∷ xs) none = none_found_by p x xs (p x) refl none (none_found p xs)

find_here : {X : Type 0} (p : X → Bool) (x : X) (xs : List X) → p x ≡ true → find p (x ∷ xs) ≡ Some x
find_here p x xs e = rw e refl

find_past : {X : Type 0} (p : X → Bool) (x : X) (xs : List X) → p x ≡ false → find p (x ∷ xs) ≡ find p xs
find_past p x xs e = rw e refl

or_none : {X : Type 0} (o : Option X) → option_or None o ≡ o
or_none o = refl

-- the only one that passes is found among those of a second test, or among the others
find_by_parts : {X : Type 0} (p q : X → Bool) (x : X) (xs : List X) (a b : Bool) → p x ≡ a → q x ≡ b → count_by p (x ∷ xs) ≤ 1
    → (count_by p xs ≤ 1 → find p xs ≡ option_or (find p (filter q xs)) (find p (filter (λ y. not (q y)) xs)))
    → find p (x ∷ xs) ≡ option_or (find p (filter q (x ∷ xs))) (find p (filter (λ y. not (q y)) (x ∷ xs)))
find_by_parts p q x xs true true e f le ih =
    find_here p x xs e
    ∙ ap (λ (o : Option _). option_or o (find p (filter (λ y. not (q y)) (x ∷ xs)))) (sym (ap (find p) (kept q x xs f) ∙ find_here p x (filter q xs) e))
find_by_parts p q x xs true false e f le ih =
    let first : one (p x) ≡ 1 = rw e refl in
    let none : count_by p (filter q xs) ≡ 0 = omega (arith, first, le, count_cons p x xs, count_parts p q xs) in
    find_here p x xs e
    ∙ sym (ap (λ (o : Option _). option_or o (find p (filter (λ y. not (q y)) (x ∷ xs)))) (ap (find p) (gone q x xs f) ∙ none_found p (filter q xs) none)
    ∙ ap (find p) (kept (λ y. not (q y)) x xs (ap not f)) ∙ find_here p x (filter (λ y. not (q y)) xs) e)
find_by_parts p q x xs false true e f le ih =
    let rest : count_by p xs ≤ 1 = omega (arith, le, count_cons p x xs) in
    find_past p x xs e ∙ ih rest
    ∙ ap (λ (o : Option _). option_or o (find p (filter (λ y. not (q y)) xs))) (sym (ap (find p) (kept q x xs f) ∙ find_past p x (filter q xs) e))
    ∙ ap (λ (l : List _). option_or (find p (filter q (x ∷ xs))) (find p l)) (sym (gone (λ y. not (q y)) x xs (ap not f)))
find_by_parts p q x xs false false e f le ih =
    let rest : count_by p xs ≤ 1 = omega (arith, le, count_cons p x xs) in
    find_past p x xs e ∙ ih rest
    ∙ ap (λ (l : List _). option_or (find p l) (find p (filter (λ y. not (q y)) xs))) (sym (gone q x xs f))
    ∙ ap (option_or (find p (filter q (x ∷ xs)))) (sym (ap (find p) (kept (λ y. not (q y)) x xs (ap not f)) ∙ find_past p x (filter (λ y. not (q y)) xs) e))

pub find_parts : {X : Type 0} (p q : X → Bool) (xs : List X) → count_by p xs ≤ 1
    → find p xs ≡ option_or (find p (filter q xs)) (find p (filter (λ y. not (q y)) xs))
find_parts p q [] le = refl
find_parts p q (x ∷ xs) le = find_by_parts p q x xs (p x) (q x) refl refl le (find_parts p q xs)

one_less : {X : Type 0} (p : X → Bool) (x : X) (xs : List X) → p x ≡ false → length (filter p (x ∷ xs)) ≤ length xs
one_less p x xs e =
    let rest : length (filter p (x ∷ xs)) ≡ length (filter p xs) = ap length (gone p x xs e) in
    omega (arith, rest, length-filter_both p (λ y. not (p y)) (λ y. refl) xs)

module _ {X : Type 0} (name_of : X → Name) where
  -- the items of a name, and all others
  abbrev pub of_name : Name → List X → List X
  of_name n xs = filter (λ x. name_eq (name_of x) n) xs

  abbrev pub others : Name → List X → List X
  others n xs = filter (λ x. not (name_eq (name_of x) n)) xs

  abbrev pub AreAlike : List X → List X → Type 0
  AreAlike xs ys = (n : Name) → of_name n xs ≡ of_name n ys

  -- filters keep lists alike, and so do maps that keep names
  pub alike_filter : (p : X → Bool) (xs ys : List X) → AreAlike xs ys → AreAlike (filter p xs) (filter p ys)
  alike_filter p xs ys same n =
      swap (λ x. name_eq (name_of x) n) p xs ∙ ap (filter p) (same n) ∙ sym (swap (λ x. name_eq (name_of x) n) p ys)

  -- name by name: what holds of no items, and of lists that are the same at a name and so beside it, holds of lists that are alike
  pub by_names : (P : List X → List X → Type 0) → P [] []
      → ((n : Name) (xs ys : List X) → of_name n xs ≡ of_name n ys → P (others n xs) (others n ys) → P xs ys)
      → (k : ℕ) (xs ys : List X) → length xs ≤ k → AreAlike xs ys → P xs ys
  by_names P nil step k [] [] le same = nil
  by_names P nil step k [] (y ∷ ys) le same = cc (same (name_of y) ∙ kept (λ x. name_eq (name_of x) (name_of y)) y ys (name_same (name_of y)))
  by_names P nil step zero (x ∷ xs) ys le same = absurd (omega (arith, le))
  by_names P nil step (suc k) (x ∷ xs) ys le same =
      let n = name_of x in
      let less : length (others n (x ∷ xs)) ≤ length xs = one_less (λ y. not (name_eq (name_of y) n)) x xs (ap not (name_same n)) in
      step n (x ∷ xs) ys (same n) (by_names P nil step k (others n (x ∷ xs)) (others n ys) (omega (arith, le, less))
      (alike_filter (λ y. not (name_eq (name_of y) n)) (x ∷ xs) ys same))

  pub alike_count : (p : X → Bool) (xs ys : List X) → AreAlike xs ys → count_by p xs ≡ count_by p ys
  alike_count p xs ys same =
      by_names (λ us vs. count_by p us ≡ count_by p vs) refl
      (λ n us vs here rest. count_parts p (λ x. name_eq (name_of x) n) us ∙ ap (λ (l : List X). count_by p l + count_by p (others n us)) here
      ∙ ap (λ (k : ℕ). count_by p (of_name n vs) + k) rest ∙ sym (count_parts p (λ x. name_eq (name_of x) n) vs))
      (length xs) xs ys (omega arith) same

  pub alike_find : (p : X → Bool) (xs ys : List X) → AreAlike xs ys → count_by p xs ≤ 1 → find p xs ≡ find p ys
  alike_find p xs ys same =
      by_names (λ us vs. count_by p us ≡ count_by p vs → count_by p us ≤ 1 → find p us ≡ find p vs) (λ e le. refl)
      (λ n us vs here rest e le.
      let more : count_by p (others n us) ≡ count_by p (others n vs) =
      omega (arith, e, count_parts p (λ x. name_eq (name_of x) n) us, count_parts p (λ x. name_eq (name_of x) n) vs, ap (count_by p) here) in
      let less : count_by p (others n us) ≤ 1 = omega (arith, le, count_parts p (λ x. name_eq (name_of x) n) us) in
      let also : count_by p vs ≤ 1 = omega (arith, e, le) in
      find_parts p (λ x. name_eq (name_of x) n) us le
      ∙ ap (λ (l : List X). option_or (find p l) (find p (others n us))) here
      ∙ ap (option_or (find p (of_name n vs))) (rest more less)
      ∙ sym (find_parts p (λ x. name_eq (name_of x) n) vs also))
      (length xs) xs ys (omega arith) same (alike_count p xs ys same)
