-- Threads that are started in turn, and joined in turn.
use Rattle.std.proofs.Common.{◌≡◌, ℕ, ◌+◌, ◌-◌, List, [], ◌∷◌, ◌++◌, length, refl, sym, ap, ◌∙◌, subst, ⊎_elim, arith}
use Rattle.std.specs.declared.thread.PromisedHandle.{PromisedHandle}
use Rattle.atomic_table.specs.Seated.{TableId}
use Rattle.atomic_table.proofs.Lists.{at_longer, at_last}
use Rattle.iso_latch.specs.Dealt.{Dealt}
use Rattle.iso_latch.specs.Sent.{Promised, SamePass}
use Rattle.iso_latch.specs.Told.{voices_of}
use Rattle.iso_latch.specs.declared.pass.Pass.{Pass}
use Rattle.iso_latch.proofs.Deals.{dealt_more}
use Rattle.iso_latch.proofs.Views.{at_end}

module _ {S X D : Type 0} (given : D → Pass S) (id : TableId) (n : ℕ) where
  pub promised_fewer : (cs ds : List (PromisedHandle X D)) (c : PromisedHandle X D) → cs ≡ ds ++ c ∷ [] → Promised given id n cs → Promised given id n ds × ((given c.promise).seat.table_id ≡ id) × (voices_of (given c.promise).seat ≡ (n - length ds) ∷ [])
  promised_fewer cs ds c is p = let p' : Promised given id n (ds ++ c ∷ []) = subst (Promised given id n) is p in let last = p' (length ds) c (at_last ds c (length ds) refl) in ((λ j h e. p' j h (at_longer ds (c ∷ []) j h e)), last.0, last.1)

  pub promised_more : (cs : List (PromisedHandle X D)) (c : PromisedHandle X D) → Promised given id n cs → (given c.promise).seat.table_id ≡ id → voices_of (given c.promise).seat ≡ (n - length cs) ∷ [] → Promised given id n (cs ++ c ∷ [])
  promised_more cs c p of voices j h e = ⊎_elim (λ old. p j h old) (λ new. subst (λ (z : ℕ × PromisedHandle X D). ((given z.1.promise).seat.table_id ≡ id) × (voices_of (given z.1.promise).seat ≡ (n - z.0) ∷ [])) (λ i. (sym new.0 i, new.1 i)) (of, voices)) (at_end cs c h j e)

  -- the pass that comes back from the last thread goes behind the others
  pub comes_back : (ds : List (PromisedHandle X D)) (c : PromisedHandle X D) (ps : List (Pass S)) (q : Pass S) → length ds + 1 + length ps ≡ n → ((given c.promise).seat.table_id ≡ id) × (voices_of (given c.promise).seat ≡ (n - length ds) ∷ [])
      → SamePass (given c.promise) q → Dealt id ps → Dealt id (ps ++ q ∷ [])
  comes_back ds c ps q count was same d = let back : n - length ds ≡ length ps + 1 = omega arith in dealt_more id ps q d (same.0 ∙ was.0) (same.1 ∙ (was.1 ∙ ap (λ (k : ℕ). k ∷ []) back))
