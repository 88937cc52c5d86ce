-- What all open units have to undo, and the least of their first records, after one of them has changed.
use Rattle.std.proofs.Common.{◌≡◌, ◌<◌, ◌+◌, ◌-◌, ℕ, zero, suc, List, [], ◌∷◌, length, replicate, refl, ap, sym, ◌∙◌, arith, subst, Some, None, Option, get_or}
use Rattle.std.specs.Option.{option_map_or}
use Rattle.std.specs.Prelude.{slice_set, unwrap_or, IsSome}
use Rattle.std.proofs.lemmas.List.Sums.{sum_by-set}
use Rattle.iso_uow.specs.Book.{count_of, debt_of, first_added, lesser, oldest_of, no_work, with_added}
use Rattle.iso_uow.specs.declared.units.Work.{Work}

-- a unit's first record
abbrev pub first_of : Option Work → Option ℕ
first_of o = elim o [ None ↦ None | Some w ↦ w.first ]

-- the kept numbers are those of these units
abbrev pub Keeps : ℕ → Option ℕ → List (Option Work) → Type 0
Keeps debt oldest works = (debt ≡ debt_of works) × (oldest ≡ oldest_of works)

-- what stands for a unit that is not there does not matter where one is
pub there : (works : List (Option Work)) (k : ℕ) (d e : Option Work) → k < length works → get_or works k d ≡ get_or works k e
there [] k d e lt = absurd (omega (arith, lt))
there (o ∷ os) zero d e lt = refl
there (o ∷ os) (suc k) d e lt = there os k d e (omega (arith, lt))

-- no unit is open
pub none-kept : (n : ℕ) (works : List (Option Work)) → works ≡ replicate n None → Keeps 0 None works
none-kept n works e = subst (Keeps 0 None) (sym e) (go n)
  where
    go : (n : ℕ) → Keeps 0 None (replicate n None)
    go zero = (refl, refl)
    go (suc n) = go n

-- the sum with one more than its unit's part
pub debt-set : (works : List (Option Work)) (k : ℕ) (old new : Option Work) → k < length works → get_or works k None ≡ old
    → debt_of (slice_set works k new) + count_of old ≡ debt_of works + count_of new
debt-set works k old new lt at =
    subst (λ (o : Option Work). debt_of (slice_set works k new) + count_of o ≡ debt_of works + count_of new) at
    (sum_by-set (λ o. option_map_or (λ (w : Work). w.count) o 0) works k new None lt)

-- the least stays where the unit's first record does
pub oldest-same : (works : List (Option Work)) (k : ℕ) (old new : Option Work) → k < length works → get_or works k None ≡ old
    → first_of new ≡ first_of old → oldest_of (slice_set works k new) ≡ oldest_of works
oldest-same [] k old new lt at e = absurd (omega (arith, lt))
oldest-same (o ∷ os) zero old new lt at e = ap (λ (f : Option ℕ). lesser f (oldest_of os)) (e ∙ ap first_of (sym at))
oldest-same (o ∷ os) (suc k) old new lt at e = ap (lesser (first_of o)) (oldest-same os k old new (omega (arith, lt)) at e)

-- one of three is left out
lesser-move : (a b c : Option ℕ) → lesser a (lesser b c) ≡ lesser (lesser a b) c
lesser-move None b c = refl
lesser-move (Some x) None c = refl
lesser-move (Some x) (Some y) None = refl
lesser-move (Some x) (Some y) (Some z) = ap Some (grind arith)

lesser-turn : (a b : Option ℕ) → lesser a b ≡ lesser b a
lesser-turn None None = refl
lesser-turn None (Some y) = refl
lesser-turn (Some x) None = refl
lesser-turn (Some x) (Some y) = ap Some (grind arith)

-- a unit that had no first record has one
pub oldest-more : (works : List (Option Work)) (k : ℕ) (old new : Option Work) → k < length works → get_or works k None ≡ old
    → first_of old ≡ None → oldest_of (slice_set works k new) ≡ lesser (oldest_of works) (first_of new)
oldest-more [] k old new lt at e = absurd (omega (arith, lt))
oldest-more (o ∷ os) zero old new lt at e =
    let none : first_of o ≡ None = ap first_of at ∙ e in
    lesser-turn (first_of new) (oldest_of os) ∙ ap (λ (f : Option ℕ). lesser (lesser f (oldest_of os)) (first_of new)) (sym none)
oldest-more (o ∷ os) (suc k) old new lt at e =
    ap (lesser (first_of o)) (oldest-more os k old new (omega (arith, lt)) at e) ∙ lesser-move (first_of o) (oldest_of os) (first_of new)

-- another unit with as much to undo and the same first record
pub kept-same : (debt : ℕ) (oldest : Option ℕ) (works : List (Option Work)) (k : ℕ) (old new : Option Work) → Keeps debt oldest works → k < length works
    → get_or works k None ≡ old → count_of new ≡ count_of old → first_of new ≡ first_of old → Keeps debt oldest (slice_set works k new)
kept-same debt oldest works k old new is lt at count first =
    let sums = debt-set works k old new lt at in
    let was = is.0 in
    (omega (arith, sums, was, count), is.1 ∙ sym (oldest-same works k old new lt at first))

-- one record fewer to undo
pub kept-undone : (debt : ℕ) (oldest : Option ℕ) (works : List (Option Work)) (k : ℕ) (old new : Option Work) → Keeps debt oldest works → k < length works
    → get_or works k None ≡ old → count_of new + 1 ≡ count_of old → first_of new ≡ first_of old → Keeps (debt - 1) oldest (slice_set works k new)
kept-undone debt oldest works k old new is lt at count first =
    let sums = debt-set works k old new lt at in
    let was = is.0 in
    (omega (arith, sums, was, count), is.1 ∙ sym (oldest-same works k old new lt at first))

-- a unit with one more record
pub kept-added : (debt : ℕ) (oldest : Option ℕ) (works : List (Option Work)) (k : ℕ) (old : Option Work) (n : ℕ) → Keeps debt oldest works
    → k < length works → get_or works k None ≡ old → IsSome old
    → Keeps (debt + 1) (lesser oldest (first_added old n)) (slice_set works k (Some (with_added (unwrap_or old no_work) n)))
kept-added debt oldest works k None n is lt at some = cc some
kept-added debt oldest works k (Some w) n is lt at some =
    let new : Option Work = Some (with_added w n) in
    let sums : debt_of (slice_set works k new) + w.count ≡ debt_of works + (w.count + 1) = debt-set works k (Some w) new lt at in
    let was = is.0 in
    (omega (arith, sums, was), ap (λ (o : Option ℕ). lesser o (first_added (Some w) n)) is.1 ∙ go w.first refl)
  where
    none : (o : Option ℕ) → lesser o None ≡ o
    none None = refl
    none (Some x) = refl

    go : (o : Option ℕ) → w.first ≡ o
        → lesser (oldest_of works) (first_added (Some w) n) ≡ oldest_of (slice_set works k (Some (with_added w n)))
    go None e =
        let first : first_of (Some (with_added w n)) ≡ Some n = ap (λ (f : Option ℕ). Some (unwrap_or f n)) e in
        let more : first_added (Some w) n ≡ Some n = rw e refl in
        ap (lesser (oldest_of works)) (more ∙ sym first) ∙ sym (oldest-more works k (Some w) (Some (with_added w n)) lt at e)
    go (Some x) e =
        let stays : first_of (Some (with_added w n)) ≡ first_of (Some w) = ap (λ (f : Option ℕ). Some (unwrap_or f n)) e ∙ sym e in
        let more : first_added (Some w) n ≡ None = rw e refl in
        ap (lesser (oldest_of works)) more ∙ none (oldest_of works) ∙ sym (oldest-same works k (Some w) (Some (with_added w n)) lt at stays)
