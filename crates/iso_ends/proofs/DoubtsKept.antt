-- What is known of all indexes is kept as the history grows, and where one doubt is brought up to its end.
use Rattle.std.proofs.Common.{◌≡◌, ◌⊎◌, inl, inr, ℕ, zero, suc, List, [], ◌∷◌, ◌++◌, refl, ap, sym, subst, slice_get, slice_set, Some, None, Option}
use Rattle.iso_ends.proofs.DoubtsAlong.{known-grown}
use Rattle.iso_ends.proofs.FreshAlong.{fresh-as}
use Rattle.iso_ends.specs.Doubts.{AreDoubts, AreKept, IsDoubt, IsDoubtAt, Known, known_of}
use Rattle.iso_ends.specs.Freshness.{WasFresh}
use Rattle.iso_ends.specs.declared.doubt.Doubt.{Doubt}
use Rattle.iso_ends.specs.declared.doubts.Doubts.{Doubts}
use Rattle.iso_history.specs.declared.entry.Entry.{Entry}
use Rattle.iso_types.specs.declared.head.Head.{Head}
use Rattle.iso_types.specs.declared.value.IndexId.{IndexId}

-- the item at a place after one was written, and after one was added
set-cases : {A : Type 0} (xs : List A) (k j : ℕ) (y x : A) → slice_get (slice_set xs k y) j ≡ Some x → (slice_get xs j ≡ Some x) ⊎ ((j ≡ k) × (x ≡ y))
set-cases [] k j y x e = inl e
set-cases (z ∷ zs) zero zero y x e = inr (refl, cc)
set-cases (z ∷ zs) zero (suc j) y x e = inl e
set-cases (z ∷ zs) (suc k) zero y x e = inl e
set-cases (z ∷ zs) (suc k) (suc j) y x e = elim (set-cases zs k j y x e) [ inl a ↦ inl a | inr a ↦ inr (ap suc a.0, a.1) ]

more-cases : {A : Type 0} (xs : List A) (j : ℕ) (y x : A) → slice_get (xs ++ y ∷ []) j ≡ Some x → (slice_get xs j ≡ Some x) ⊎ (x ≡ y)
more-cases [] zero y x e = inr (cc)
more-cases [] (suc j) y x e = inl e
more-cases (z ∷ zs) zero y x e = inl e
more-cases (z ∷ zs) (suc j) y x e = more-cases zs j y x e

module _ (head : Head) (es : List Entry) where
  -- one doubt anew
  pub doubts-set : (ds : List Doubt) (i : IndexId) (d : Doubt) → AreDoubts head es ds → IsDoubt head es i d → AreDoubts head es (slice_set ds i.0 d)
  doubts-set ds i d all own j x e = elim (set-cases ds i.0 j.0 d x e) [
    | inl a ↦ all j x a
    | inr a ↦
        let at : i ≡ j = ap (λ (k : ℕ). record { 0 = k }) (sym a.0) in
        subst (λ (z : Doubt). IsDoubt head es j z) (sym a.1) (subst (λ (k : IndexId). IsDoubt head es k d) at own)
  ]

  -- one more doubt, which knows nothing
  pub doubts-more : (ds : List Doubt) (d : Doubt) → d.read ≡ None → AreDoubts head es ds → AreDoubts head es (ds ++ d ∷ [])
  doubts-more ds d none all j x e = elim (more-cases ds j.0 d x e) [
    | inl a ↦ all j x a
    | inr a ↦ subst (λ (z : Doubt). IsDoubt head es j z) (sym a) (subst (IsDoubtAt head es j (known_of d)) (sym none) tt)
  ]

  pub kept-none : (d : Doubts) → d.sets ≡ [] → d.fresh ≡ None → AreKept head es d
  kept-none d bare none = record {
    fresh = subst (WasFresh head es) (sym none) tt;
    sets = subst (AreDoubts head es) (sym bare) (λ j x e. absurd (cc));
  }

-- all goes on as the history grows
doubt-grown : (head : Head) (es more : List Entry) (i : IndexId) (x : Known) (o : Option ℕ) → IsDoubtAt head es i x o → IsDoubtAt head (es ++ more) i x o
doubt-grown head es more i x None f = tt
doubt-grown head es more i x (Some n) f = known-grown head es more i x n f

pub kept-as : (head : Head) (es fs more : List Entry) (d : Doubts) → fs ≡ es ++ more → AreKept head es d → AreKept head fs d
kept-as head es fs more d is f = record {
  fresh = fresh-as head es fs more d.fresh is f.fresh;
  sets = subst (λ (gs : List Entry). AreDoubts head gs d.sets) (sym is) (λ i x e. doubt-grown head es more i (known_of x) x.read (f.sets i x e));
}
