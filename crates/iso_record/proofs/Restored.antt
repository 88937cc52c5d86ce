-- The old values of the changed columns give the old row back.
use Rattle.std.proofs.Common.{◌≡◌, ◌≤◌, ◌<◌, ◌+◌, ◌∙◌, ℕ, Bool, true, false, List, [], ◌∷◌, ◌++◌, length, arith, length-append, refl, ap, sym, subst, suc, drop, get_or}
use Rattle.std.specs.List.{list_all}
use Rattle.std.specs.Prelude.{nat_lt, slice_set}
use Rattle.std.proofs.Math.Seq.{drop-cons, set-append_seam}
use Rattle.std.proofs.lemmas.Bool.Decides.{nat_tests}
use Rattle.std.proofs.lemmas.List.{append_assoc}
use Rattle.iso_record.specs.Olds.{old_of, olds, olds_from}
use Rattle.iso_record.specs.Undone.{restored}
use Rattle.iso_types.specs.Value.{value_eq}
use Rattle.iso_types.specs.declared.value.Value.{Value}
use Rattle.iso_types.proofs.Values.{value-is}

-- with a front that is as it was
restored-from : (front : List Value) (k : ℕ) (old new : List Value) → length front ≡ k → length new ≡ length old
    → restored (olds_from k old new) (front ++ new) ≡ front ++ old
restored-from front k [] [] f e = refl
restored-from front k [] (b ∷ new) f e = absurd (cc)
restored-from front k (a ∷ old) [] f e = absurd (cc)
restored-from front k (a ∷ old) (b ∷ new) f e =
    go (value_eq a b) refl
    (ap (restored (olds_from (k + 1) old new)) (sym (append_assoc front (a ∷ []) new))
    ∙ restored-from (front ++ a ∷ []) (k + 1) old new (simp length-append (omega (arith, f))) (omega (arith, e)) ∙ append_assoc front (a ∷ []) old)
  where
    go : (t : Bool) → value_eq a b ≡ t → restored (olds_from (k + 1) old new) (front ++ a ∷ new) ≡ front ++ a ∷ old
        → restored (olds_from k (a ∷ old) (b ∷ new)) (front ++ b ∷ new) ≡ front ++ a ∷ old
    go true t rest = rw t (subst (λ (c : Value). restored (olds_from (k + 1) old new) (front ++ c ∷ new) ≡ front ++ a ∷ old) (value-is a b t) rest)
    go false t rest = rw t (ap (λ (i : ℕ). restored (olds_from (k + 1) old new) (slice_set (front ++ b ∷ new) i a)) (sym f)
        ∙ ap (restored (olds_from (k + 1) old new)) (set-append_seam front b new a) ∙ rest)

-- undoing an update gives the old row
pub restored-olds : (old new : List Value) → length new ≡ length old → restored (olds old new) new ≡ old
restored-olds old new e = restored-from [] 0 old new refl e

-- the columns are in the row
columns-from : (k width : ℕ) (old new : List Value) → k + length old ≤ width → list_all (λ p. nat_lt p.0 width) (olds_from k old new) ≡ true
columns-from k width [] new le = refl
columns-from k width (a ∷ old) [] le = refl
columns-from k width (a ∷ old) (b ∷ new) le = go (value_eq a b) refl (columns-from (k + 1) width old new (omega (arith, le)))
  where
    this : nat_lt k width ≡ true
    this = grind (arith, nat_tests, le)

    go : (t : Bool) → value_eq a b ≡ t → list_all (λ p. nat_lt p.0 width) (olds_from (k + 1) old new) ≡ true
        → list_all (λ p. nat_lt p.0 width) (olds_from k (a ∷ old) (b ∷ new)) ≡ true
    go true t rest = rw t rest
    go false t rest = rw t (rw (this, rest) refl)

pub columns-olds : (old new : List Value) → length new ≡ length old → list_all (λ p. nat_lt p.0 (length new)) (olds old new) ≡ true
columns-olds old new e = columns-from 0 (length new) old new (omega (arith, e))

-- the first column
pub olds-cons : (k : ℕ) (a b : Value) (old new : List Value) → olds_from k (a ∷ old) (b ∷ new) ≡ old_of k a b ++ olds_from (k + 1) old new
olds-cons k a b old new = go (value_eq a b) refl
  where
    go : (t : Bool) → value_eq a b ≡ t → olds_from k (a ∷ old) (b ∷ new) ≡ old_of k a b ++ olds_from (k + 1) old new
    go true t = rw t refl
    go false t = rw t refl

-- the columns from one place on
pub olds-on : (list : List (ℕ × Value)) (old new : List Value) (k : ℕ) (a b : Value) → k < length old → k < length new → get_or old k a ≡ a → get_or new k b ≡ b
    → list ++ olds_from k (drop k old) (drop k new) ≡ (list ++ old_of k a b) ++ olds_from (k + 1) (drop (k + 1) old) (drop (k + 1) new)
olds-on list old new k a b lt lt2 is is2 =
    let one : suc k ≡ k + 1 = omega arith in
    let front : drop k old ≡ a ∷ drop (k + 1) old = drop-cons old k a lt ∙ ap (λ z. z ∷ drop (suc k) old) is ∙ ap (λ z. a ∷ drop z old) one in
    let front2 : drop k new ≡ b ∷ drop (k + 1) new = drop-cons new k b lt2 ∙ ap (λ z. z ∷ drop (suc k) new) is2 ∙ ap (λ z. b ∷ drop z new) one in
    ap (λ z. list ++ olds_from k z (drop k new)) front ∙ ap (λ z. list ++ olds_from k (a ∷ drop (k + 1) old) z) front2
    ∙ ap (λ l. list ++ l) (olds-cons k a b (drop (k + 1) old) (drop (k + 1) new))
    ∙ sym (append_assoc list (old_of k a b) (olds_from (k + 1) (drop (k + 1) old) (drop (k + 1) new)))

-- the same value, and another one
pub old-same : (k : ℕ) (a b : Value) → value_eq a b ≡ true → old_of k a b ≡ []
old-same k a b e = rw e refl

pub old-differs : (k : ℕ) (a b : Value) → value_eq a b ≡ false → old_of k a b ≡ (k, a) ∷ []
old-differs k a b e = rw e refl
