-- Passes dealt out and gathered.
use Rattle.std.proofs.Common.{◌≡◌, ℕ, ◌+◌, ◌<◌, ◌≤◌, zero, suc, true, List, [], ◌∷◌, ◌++◌, length, refl, sym, ap, ◌∙◌, subst, ⊎_elim, arith, ne_eqb, append_assoc, Option}
use mathlib.Core.Logic.{dite}
use mathlib.Core.Option.{some, some-injective}
use native.Mathlib.Decide.{ℕ_discrete}
use lib.ListN.{get_elem?}
use Rattle.atomic_table.specs.Seated.{TableId}
use Rattle.atomic_table.specs.declared.shared.Seat.{Seat}
use Rattle.atomic_table.proofs.Lists.{at_longer, at_last}
use Rattle.iso_history.specs.declared.entry.Entry.{Entry}
use Rattle.iso_latch.specs.Dealt.{Dealt, Fresh, ContinuesFrom}
use Rattle.iso_latch.specs.Seen.{has, Continues}
use Rattle.iso_latch.specs.Told.{seen_of, voices_of, head_of}
use Rattle.iso_latch.specs.declared.pass.Pass.{Pass}
use Rattle.iso_latch.specs.declared.view.View.{View}
use Rattle.iso_latch.proofs.Voices.{not_both, or_false, own-append, continues_fewer}
use Rattle.iso_latch.proofs.Views.{at_end, within}

-- what was continued twice is continued
pub continues_then : (vs : List ℕ) (a b c : List Entry) → Continues vs a b → Continues vs b c → Continues vs a c
continues_then vs a b c x y = (x.0 ++ y.0, y.1 ∙ (ap (λ l. l ++ y.0) x.1 ∙ append_assoc a x.0 y.0), own-append vs x.0 y.0 ∙ (λ i. x.2 i ++ y.2 i))

only : (x y : ℕ) → has y (x ∷ []) ≡ true → y ≡ x
only x y e = dite (ℕ_discrete y x) (λ is. is) (λ no. absurd (not_both e (or_false _ _ (ne_eqb y x no) refl)))

module _ {S : Type 0} where
  pub dealt_more : (id : TableId) (ps : List (Pass S)) (p : Pass S) → Dealt id ps → p.seat.table_id ≡ id → voices_of p.seat ≡ (length ps + 1) ∷ [] → Dealt id (ps ++ p ∷ [])
  dealt_more id ps p d of voices k q e = ⊎_elim (λ old. d k q old) (λ new. subst (λ (z : ℕ × Pass S). (z.1.seat.table_id ≡ id) × (voices_of z.1.seat ≡ (z.0 + 1) ∷ [])) (λ i. (sym new.0 i, new.1 i)) (of, voices)) (at_end ps p q k e)

  pub fresh_more : (seat : Seat (Option S) View) (ps : List (Pass S)) (p : Pass S) → Fresh seat ps → head_of p.seat ≡ head_of seat → seen_of p.seat ≡ seen_of seat → Fresh seat (ps ++ p ∷ [])
  fresh_more seat ps p f head seen k q e = ⊎_elim (λ old. f k q old) (λ new. subst (λ (z : Pass S). (head_of z.seat ≡ head_of seat) × (seen_of z.seat ≡ seen_of seat)) new.1 (head, seen)) (at_end ps p q k e)

  pub dealt_fewer : (id : TableId) (ps qs : List (Pass S)) (p : Pass S) → ps ≡ qs ++ p ∷ [] → Dealt id ps → Dealt id qs × (p.seat.table_id ≡ id) × (voices_of p.seat ≡ (length qs + 1) ∷ [])
  dealt_fewer id ps qs p is d = let d' : Dealt id (qs ++ p ∷ []) = subst (Dealt id) is d in let last = d' (length qs) p (at_last qs p (length qs) refl) in ((λ k q e. d' k q (at_longer qs (p ∷ []) k q e)), last.0, last.1)

  -- one more pass is met: the history goes on from what it and the others saw
  pub one_more : (all : List (Pass S)) (m : ℕ) (vs : List ℕ) (old new : List Entry) (one : Pass S) → get_elem? all m ≡ some one → voices_of one.seat ≡ (m + 1) ∷ []
      → ((k : ℕ) → m < k → k < length all → has (k + 1) vs ≡ true) → Continues vs old new → Continues (voices_of one.seat) (seen_of one.seat) new → ContinuesFrom (m + 1) all old → ContinuesFrom m all new
  one_more all m vs old new one at is here c d before k p low e = dite (ℕ_discrete k m)
      (λ same. let q : one ≡ p = some-injective one p (sym at ∙ (ap (get_elem? all) (sym same) ∙ e)) in
      subst (λ (z : ℕ × Pass S). Continues ((z.0 + 1) ∷ []) (seen_of z.1.seat) new) (λ i. (sym same i, q i)) (subst (λ (v : List ℕ). Continues v (seen_of one.seat) new) is d))
      (λ other. let in_all = within all k p e in continues_then ((k + 1) ∷ []) (seen_of p.seat) old new (before k p (omega arith) e) (continues_fewer vs ((k + 1) ∷ []) old new (λ y h. ap (λ z. has z vs) (only (k + 1) y h) ∙ here k (omega arith) in_all) c))

  pub at_left : (ps : List (Pass S)) (p : Pass S) (k : ℕ) → k < length ps → get_elem? (ps ++ p ∷ []) k ≡ get_elem? ps k
  at_left [] p k l = absurd (omega arith)
  at_left (q ∷ ps) p zero l = refl
  at_left (q ∷ ps) p (suc k) l = at_left ps p k (omega arith)

  pub none_past : (ps : List (Pass S)) (k : ℕ) (p : Pass S) → length ps ≤ k → get_elem? ps k ≡ some p → ⊥
  none_past ps k p l e = let w = within ps k p e in omega arith
