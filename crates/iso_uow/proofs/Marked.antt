-- Savepoints are kept by name, in the order in which they were set, and no two have the same name.
use Rattle.std.proofs.Common.{◌≡◌, ◌<◌, ◌-◌, ◌∙◌, ℕ, Bool, true, false, not, List, [], ◌∷◌, ◌++◌, length, ap, refl, sym, append-nil, Option, None, Some, Result, Ok, Err}
use Rattle.std.specs.Prelude.{IsOk, IsSome, OnOk, filter, find, map, reverse, slice_get, slice_range}
use Rattle.std.specs.List.{AllByRecursion, IsDistinct}
use Rattle.std.specs.Map.{keys_of, lookup, remove_entry}
use Rattle.std.specs.Option.{option_map, option_or, option_to_list}
use Rattle.std.proofs.lemmas.Cmp.{nat_list_eq_equiv}
use Rattle.std.proofs.lemmas.List.{map-append, reverse-append}
use Rattle.std.proofs.lemmas.List.Elements.{filter-append}
use Rattle.std.proofs.lemmas.List.Folds.{find-append}
use Rattle.std.proofs.lemmas.Map.Keys.{IsDistinct-head, IsDistinct-tail}
use Rattle.indexmap.proofs.MapLemmas.{split_last}
use Rattle.iso_types.specs.Ids.{text_eq}
use Rattle.iso_uow.specs.Savepoints.{down_to, floor_of, is_named, newest_first, savepoint_at, set_again}
use Rattle.iso_uow.specs.declared.marks.Savepoint.{Savepoint}

reverse-cons : {X : Type 0} (x : X) (xs : List X) → reverse (x ∷ xs) ≡ reverse xs ++ x ∷ []
reverse-cons x xs = reverse-append (x ∷ []) xs

reverse-filter : {X : Type 0} (p : X → Bool) (xs : List X) → reverse (filter p xs) ≡ filter p (reverse xs)
reverse-filter p [] = refl
reverse-filter p (x ∷ xs) = go (p x) refl (reverse-filter p xs)
  where
    go : (b : Bool) → p x ≡ b → reverse (filter p xs) ≡ filter p (reverse xs) → reverse (filter p (x ∷ xs)) ≡ filter p (reverse (x ∷ xs))
    go true e ih = rw (reverse-cons x xs, filter-append p (reverse xs) (x ∷ []), e) (reverse-cons x (filter p xs) ∙ ap (λ l. l ++ x ∷ []) ih)
    go false e ih = rw (reverse-cons x xs, filter-append p (reverse xs) (x ∷ []), e) (ih ∙ sym (append-nil (filter p (reverse xs))))

-- a name that is another than k is not one that is the same as k
other_name : (name k m : List ℕ) → text_eq name k ≡ true → text_eq k m ≡ false → text_eq m name ≡ false
other_name name k m same apart = nat_list_eq_equiv.symm m name ∙ nat_list_eq_equiv.congr name k m same ∙ apart

-- where all names are others than k, none is the name
unnamed : (name k : List ℕ) (es : List (List ℕ × ℕ)) → text_eq name k ≡ true → AllByRecursion (λ m. text_eq k m ≡ false) (keys_of es)
    → filter (λ s. not (is_named name s)) (map savepoint_at es) ≡ map savepoint_at es
unnamed name k [] same apart = refl
unnamed name k (e ∷ es) same apart =
    let no : text_eq e.0 name ≡ false = other_name name k e.0 same apart.0 in
    rw no (ap (λ l. savepoint_at e ∷ l) (unnamed name k es same apart.1))

unfound : (name k : List ℕ) (es : List (List ℕ × ℕ)) → text_eq name k ≡ true → AllByRecursion (λ m. text_eq k m ≡ false) (keys_of es)
    → find (is_named name) (newest_first es) ≡ None
unfound name k [] same apart = refl
unfound name k (e ∷ es) same apart =
    let no : text_eq e.0 name ≡ false = other_name name k e.0 same apart.0 in
    rw (reverse-cons (savepoint_at e) (map savepoint_at es), find-append (is_named name) (newest_first es) (savepoint_at e ∷ []), unfound name k es same apart.1, no) refl

-- the first entry of a name is its only one
removed : (name : List ℕ) (es : List (List ℕ × ℕ)) → IsDistinct text_eq (keys_of es)
    → map savepoint_at (remove_entry (text_eq name) es) ≡ filter (λ s. not (is_named name s)) (map savepoint_at es)
removed name [] apart = refl
removed name (e ∷ es) apart =
    go (text_eq name e.0) refl (removed name es (IsDistinct-tail text_eq e.0 (keys_of es) apart)) (IsDistinct-head text_eq e.0 (keys_of es) apart)
  where
    go : (b : Bool) → text_eq name e.0 ≡ b → map savepoint_at (remove_entry (text_eq name) es) ≡ filter (λ s. not (is_named name s)) (map savepoint_at es)
        → AllByRecursion (λ m. text_eq e.0 m ≡ false) (keys_of es)
        → map savepoint_at (remove_entry (text_eq name) (e ∷ es)) ≡ filter (λ s. not (is_named name s)) (map savepoint_at (e ∷ es))
    go true is ih others = rw (is, nat_list_eq_equiv.symm e.0 name, is) (sym (unnamed name e.0 es is others))
    go false is ih others = rw (is, nat_list_eq_equiv.symm e.0 name, is) (ap (λ l. savepoint_at e ∷ l) ih)

-- the entry is found by its name, from either end
pub found : (name : List ℕ) (es : List (List ℕ × ℕ)) → IsDistinct text_eq (keys_of es) → lookup (text_eq name) es ≡ floor_of (newest_first es) name
found name [] apart = refl
found name (e ∷ es) apart =
    go (text_eq name e.0) refl (found name es (IsDistinct-tail text_eq e.0 (keys_of es) apart)) (IsDistinct-head text_eq e.0 (keys_of es) apart)
  where
    last : (o : Option Savepoint) → option_map (λ s. s.at) o ≡ option_map (λ s. s.at) (option_or o None)
    last None = refl
    last (Some s) = refl

    go : (b : Bool) → text_eq name e.0 ≡ b → lookup (text_eq name) es ≡ floor_of (newest_first es) name
        → AllByRecursion (λ m. text_eq e.0 m ≡ false) (keys_of es) → lookup (text_eq name) (e ∷ es) ≡ floor_of (newest_first (e ∷ es)) name
    go true is ih others =
        rw (
          is,
          reverse-cons (savepoint_at e) (map savepoint_at es),
          find-append (is_named name) (newest_first es) (savepoint_at e ∷ []),
          unfound name e.0 es is others,
          nat_list_eq_equiv.symm e.0 name,
          is,
        ) refl
    go false is ih others =
        rw (
          is,
          reverse-cons (savepoint_at e) (map savepoint_at es),
          find-append (is_named name) (newest_first es) (savepoint_at e ∷ []),
          nat_list_eq_equiv.symm e.0 name,
          is,
        ) (ih ∙ last (find (is_named name) (newest_first es)))

-- one more at the end stands first
newest : (es : List (List ℕ × ℕ)) (e : List ℕ × ℕ) → newest_first (es ++ e ∷ []) ≡ savepoint_at e ∷ newest_first es
newest es e = ap reverse (map-append savepoint_at es (e ∷ [])) ∙ reverse-append (map savepoint_at es) (savepoint_at e ∷ [])

-- a name that is taken out and put at the end moves
pub moved : (name : List ℕ) (at : ℕ) (es : List (List ℕ × ℕ)) → IsDistinct text_eq (keys_of es)
    → newest_first (remove_entry (text_eq name) es ++ (name, at) ∷ []) ≡ set_again (newest_first es) name at
moved name at es apart =
    newest (remove_entry (text_eq name) es) (name, at)
    ∙ ap (λ (l : List Savepoint). savepoint_at (name, at) ∷ l) (ap reverse (removed name es apart) ∙ reverse-filter (λ s. not (is_named name s)) (map savepoint_at es))

-- what holds where it is Ok
pub done : {X E : Type 0} {P : Type 0} (r : Result X E) → OnOk r P → IsOk r → P
done (Ok x) p is = p
done (Err e) p is = absurd (cc)

-- the last entry stands first
top : (es : List (List ℕ × ℕ)) (e : List ℕ × ℕ) → slice_get es (length es - 1) ≡ Some e → 0 < length es
    → newest_first es ≡ savepoint_at e ∷ newest_first (slice_range es 0 (length es - 1))
top es e last some = ap newest_first (split_last es e last some) ∙ newest (slice_range es 0 (length es - 1)) e

-- where it has the name, no savepoint was set later
pub stays : (name : List ℕ) (es : List (List ℕ × ℕ)) (e : List ℕ × ℕ) → slice_get es (length es - 1) ≡ Some e → 0 < length es → text_eq e.0 name ≡ true
    → newest_first es ≡ down_to name (newest_first es)
stays name es e last some is = rw (top es e last some, is) refl

tail_of : {X : Type 0} (x y : X) (xs ys zs : List X) → zs ≡ x ∷ xs → zs ≡ y ∷ ys → xs ≡ ys
tail_of x y xs ys zs p q = cc

-- where it has another, it goes
pub goes : (name : List ℕ) (es left : List (List ℕ × ℕ)) (e : List ℕ × ℕ) (taken : Option (List ℕ × ℕ)) → es ≡ left ++ option_to_list taken → IsSome taken
    → slice_get es (length es - 1) ≡ Some e → 0 < length es → text_eq e.0 name ≡ false → down_to name (newest_first left) ≡ down_to name (newest_first es)
goes name es left e None whole got last some is = absurd (cc)
goes name es left e (Some x) whole got last some is =
    let front = newest_first (slice_range es 0 (length es - 1)) in
    let rest = tail_of (savepoint_at e) (savepoint_at x) front (newest_first left) (newest_first es) (top es e last some) (ap newest_first whole ∙ newest left x) in
    let down : down_to name (newest_first es) ≡ down_to name front = rw (top es e last some, is) refl in
    ap (down_to name) (sym rest) ∙ sym down
