-- The pairs of all indexes once the row's keys are added, index by index, are those that its entry makes of the world.
use Rattle.std.proofs.Common.{◌≡◌, ◌≤◌, ◌<◌, ◌+◌, ℕ, zero, suc, Bool, true, false, ◌||◌, List, [], ◌∷◌, ◌++◌, map, length, refl, ap, sym, ◌∙◌, arith, append_assoc, Some, None, Option, filter}
use Rattle.std.specs.List.{list_any, range_with_len}
use Rattle.std.specs.Prelude.{slice_index_or, slice_set}
use Rattle.std.proofs.lemmas.Bool.{eqb-false}
use Rattle.iso_history.proofs.locks.Finds.{filter-here, filter-past}
use Rattle.iso_history.proofs.locks.Inherits.{is_index_of}
use Rattle.iso_history.proofs.locks.Same.{index_is, the_index}
use Rattle.iso_history.specs.Entries.{entries_of, gained, with_pair}
use Rattle.iso_history.specs.World.{World}
use Rattle.iso_types.specs.Head.{indexes, indexes_of, key_in}
use Rattle.iso_types.specs.Ids.{index_eq}
use Rattle.iso_types.specs.declared.head.Head.{Head}
use Rattle.iso_types.specs.declared.value.IndexId.{IndexId}
use Rattle.iso_types.specs.declared.value.Rid.{Rid}
use Rattle.iso_types.specs.declared.value.TableId.{TableId}
use Rattle.iso_types.specs.declared.value.Value.{Value}
use Rattle.iso_writes.specs.Changing.{own_key, with_key, with_keys}

-- the indexes from this number on
abbrev pub numbered : ℕ → ℕ → List IndexId
numbered a n = map (λ k. the_index k) (range_with_len a n)

-- ---- whether an index is among a table's
any-kept : (p : IndexId → Bool) (i : IndexId) (is : List IndexId) → p i ≡ true → list_any (index_eq i) (filter p is) ≡ list_any (index_eq i) is
any-kept p i [] e = refl
any-kept p i (j ∷ is) e = go (p j) refl (index_eq i j) refl (any-kept p i is e)
  where
    go : (b : Bool) → p j ≡ b → (d : Bool) → index_eq i j ≡ d → list_any (index_eq i) (filter p is) ≡ list_any (index_eq i) is
        → list_any (index_eq i) (filter p (j ∷ is)) ≡ list_any (index_eq i) (j ∷ is)
    go true k d f ih = rw (filter-here p j is k) (ap (λ (b : Bool). index_eq i j || b) ih)
    go false k true f ih = cc (sym k ∙ ap p (sym (index_is i j f)) ∙ e)
    go false k false f ih = rw (filter-past p j is k, f) ih

any-left : (p : IndexId → Bool) (i : IndexId) (is : List IndexId) → p i ≡ false → list_any (index_eq i) (filter p is) ≡ false
any-left p i [] e = refl
any-left p i (j ∷ is) e = go (p j) refl (index_eq i j) refl (any-left p i is e)
  where
    go : (b : Bool) → p j ≡ b → (d : Bool) → index_eq i j ≡ d → list_any (index_eq i) (filter p is) ≡ false
        → list_any (index_eq i) (filter p (j ∷ is)) ≡ false
    go true k true f ih = cc (sym e ∙ ap p (index_is i j f) ∙ k)
    go true k false f ih = rw (filter-here p j is k, f) ih
    go false k d f ih = rw (filter-past p j is k) ih

in-numbered : (i : IndexId) (n a : ℕ) → a ≤ i.0 → i.0 < a + n → list_any (index_eq i) (numbered a n) ≡ true
in-numbered i zero a le lt = absurd (omega arith)
in-numbered i (suc n) a le lt = go (index_eq i (the_index a)) refl (in-numbered i n (a + 1))
  where
    go : (b : Bool) → index_eq i (the_index a) ≡ b → (a + 1 ≤ i.0 → i.0 < a + 1 + n → list_any (index_eq i) (numbered (a + 1) n) ≡ true)
        → list_any (index_eq i) (numbered a (suc n)) ≡ true
    go true k ih = rw k refl
    go false k ih = let ne = eqb-false i.0 a k in rw k (ih (omega arith) (omega arith))

pub among : (head : Head) (t : TableId) (i : IndexId) → i.0 < length head.indexes → list_any (index_eq i) (indexes_of head t) ≡ is_index_of head t i
among head t i lt = go (is_index_of head t i) refl
  where
    go : (b : Bool) → is_index_of head t i ≡ b → list_any (index_eq i) (indexes_of head t) ≡ is_index_of head t i
    go true e =
        any-kept (is_index_of head t) i (indexes head) e ∙ in-numbered i (length head.indexes) 0 (omega arith) (omega (arith, lt)) ∙ sym e
    go false e = any-left (is_index_of head t) i (indexes head) e ∙ sym e

-- ---- lists at a seam
set-seam : {A : Type 0} (pre : List A) (x y : A) (xs : List A) → slice_set (pre ++ x ∷ xs) (length pre) y ≡ pre ++ y ∷ xs
set-seam [] x y xs = refl
set-seam (p ∷ pre) x y xs = ap (λ (l : List _). p ∷ l) (set-seam pre x y xs)

get-seam : {A : Type 0} (pre : List A) (x d : A) (xs : List A) → slice_index_or (pre ++ x ∷ xs) (length pre) d ≡ x
get-seam [] x d xs = refl
get-seam (p ∷ pre) x d xs = get-seam pre x d xs

length-one : {A : Type 0} (pre : List A) (x : A) → length (pre ++ x ∷ []) ≡ length pre + 1
length-one [] x = refl
length-one (p ∷ pre) x = let ih = length-one pre x in omega (arith, ih)

module _ (head : Head) (t : TableId) (r : Rid) (row : List Value) where
  -- the pairs of one index, with the row's key where it has one
  abbrev pub grown : Option Value → List (Value × Rid) → List (Value × Rid)
  grown None es = es
  grown (Some v) es = with_pair (v, r) es

  -- those of all indexes from the k-th on
  abbrev pub all-grown : ℕ → List (List (Value × Rid)) → List (List (Value × Rid))
  all-grown k [] = []
  all-grown k (e ∷ es) = grown (own_key head t row (the_index k)) e ∷ all-grown (k + 1) es

  one-key : (o : Option Value) (pre es : List (List (Value × Rid))) (e : List (Value × Rid))
      → with_key o r (length pre) (pre ++ e ∷ es) ≡ pre ++ grown o e ∷ es
  one-key None pre es e = refl
  one-key (Some v) pre es e =
      ap (λ (x : List (Value × Rid)). slice_set (pre ++ e ∷ es) (length pre) (with_pair (v, r) x)) (get-seam pre e [] es)
      ∙ set-seam pre e (with_pair (v, r) e) es

  keys-from : (es pre : List (List (Value × Rid))) → with_keys head t r row (length es) (length pre) (pre ++ es) ≡ pre ++ all-grown (length pre) es
  keys-from [] pre = refl
  keys-from (e ∷ es) pre =
      let x = grown (own_key head t row (the_index (length pre))) e in
      let seam : (pre ++ x ∷ []) ++ es ≡ pre ++ x ∷ es = rw append_assoc refl in
      let seam_too : (pre ++ x ∷ []) ++ all-grown (length pre + 1) es ≡ pre ++ x ∷ all-grown (length pre + 1) es = rw append_assoc refl in
      ap (with_keys head t r row (length es) (length pre + 1)) (one-key (own_key head t row (the_index (length pre))) pre es e ∙ sym seam)
      ∙ ap (λ (k : ℕ). with_keys head t r row (length es) k ((pre ++ x ∷ []) ++ es)) (sym (length-one pre x))
      ∙ keys-from es (pre ++ x ∷ [])
      ∙ ap (λ (k : ℕ). (pre ++ x ∷ []) ++ all-grown k es) (length-one pre x) ∙ seam_too

  module _ (w : World) where
    -- one index of the head
    one-gained : (i : IndexId) (e : List (Value × Rid)) → i.0 < length head.indexes → entries_of w i ≡ e
        → grown (own_key head t row i) e ≡ gained head w t r row i
    one-gained i e lt is = go (is_index_of head t i) refl
      where
        go : (b : Bool) → is_index_of head t i ≡ b → grown (own_key head t row i) e ≡ gained head w t r row i
        go true k = rw (among head t i lt, k) (ap (with_pair (key_in head i row, r)) (sym is))
        go false k = rw (among head t i lt, k) (sym is)

    gained-from : (es : List (List (Value × Rid))) (a : ℕ) → a + length es ≡ length head.indexes
        → ((k : ℕ) → slice_index_or w.entries (a + k) [] ≡ slice_index_or es k [])
        → all-grown a es ≡ map (gained head w t r row) (numbered a (length es))
    gained-from [] a long same = refl
    gained-from (e ∷ es) a long same =
        let here : a + 0 ≡ a = omega arith in
        let one = one-gained (the_index a) e (omega (arith, long)) (ap (λ (k : ℕ). slice_index_or w.entries k []) (sym here) ∙ same 0) in
        let rest = gained-from es (a + 1) (omega (arith, long)) (later e es a same) in
        ap (λ (x : List (Value × Rid)). x ∷ all-grown (a + 1) es) one
        ∙ ap (λ (l : List (List (Value × Rid))). gained head w t r row (the_index a) ∷ l) rest
      where
        later : (e : List (Value × Rid)) (es : List (List (Value × Rid))) (a : ℕ)
            → ((k : ℕ) → slice_index_or w.entries (a + k) [] ≡ slice_index_or (e ∷ es) k [])
            → (k : ℕ) → slice_index_or w.entries (a + 1 + k) [] ≡ slice_index_or es k []
        later e es a same k = let is : a + 1 + k ≡ a + suc k = omega arith in ap (λ (j : ℕ). slice_index_or w.entries j []) is ∙ same (suc k)

    -- the pairs of the world, with the row's keys
    pub keys-gained : length w.entries ≡ length head.indexes
        → with_keys head t r row (length head.indexes) 0 w.entries ≡ map (gained head w t r row) (indexes head)
    keys-gained long =
        ap (λ (n : ℕ). with_keys head t r row n 0 w.entries) (sym long)
        ∙ keys-from w.entries []
        ∙ gained-from w.entries 0 (omega (arith, long)) (λ k. let e : 0 + k ≡ k = omega arith in ap (λ (j : ℕ). slice_index_or w.entries j []) e)
        ∙ ap (λ (n : ℕ). map (gained head w t r row) (numbered 0 n)) long
