-- Threads that are started in turn.
use Rattle.std.proofs.Common.{◌≡◌, ℕ, ◌+◌, ◌<◌, ◌≤◌, Bool, true, false, ◌||◌, List, [], ◌∷◌, ◌++◌, length, refl, sym, ap, ◌∙◌, subst, ⊎_elim, arith}
use mathlib.Core.Logic.{dite}
use native.Mathlib.Decide.{ℕ_discrete}
use Rattle.atomic_table.specs.Seated.{TableId}
use Rattle.atomic_table.proofs.Lists.{at_last, at_longer}
use Rattle.std.specs.declared.thread.PromisedHandle.{PromisedHandle}
use Rattle.iso_latch.specs.Seen.{has}
use Rattle.iso_latch.specs.Told.{seen_of}
use Rattle.iso_latch.specs.declared.pass.Pass.{Pass}
use Rattle.iso_latch.proofs.Voices.{has-append, has_self, or_true}
use Rattle.iso_threads.specs.Backs.{promised, voices}
use Rattle.iso_threads.specs.Passes.{AllFresh}
use Rattle.iso_agent.specs.Passes.{IsPassOf}
use Rattle.iso_threads.specs.declared.backs.Back.{Back}
use Rattle.iso_threads.specs.declared.backs.Driven.{Driven}
use Rattle.iso_script.specs.declared.script.Script.{Script}
use Rattle.iso_state.specs.declared.state.State.{State}
use Rattle.iso_threads.proofs.Returned.{promised-snoc, voices-snoc}

pub fresh_fewer : (id : TableId) (script : Script) (ps qs : List (Pass State)) (p : Pass State) → ps ≡ qs ++ p ∷ [] → AllFresh id script ps
    → AllFresh id script qs × IsPassOf id script (record { 0 = length qs }) p × (seen_of p.seat ≡ [])
fresh_fewer id script ps qs p is f =
    let f2 : AllFresh id script (qs ++ p ∷ []) = subst (AllFresh id script) is f in
    let last = f2 (length qs) p (at_last qs p (length qs) refl) in
    ((λ k q e. f2 k q (at_longer qs (p ∷ []) k q e)), last.0, last.1)

-- the voices above m, up to n, are those of passes that threads or the dispatcher's thread have
abbrev pub Covers : ℕ → ℕ → List (PromisedHandle Back Driven) → List Back → Type 0
Covers m n hs bs = (x : ℕ) → m < x → x ≤ n → (has x (promised hs) || has x (voices bs)) ≡ true

right_true : (a b : Bool) → b ≡ true → (a || b) ≡ true
right_true true b e = refl
right_true false b e = e

left_true : (a b : Bool) → a ≡ true → (a || b) ≡ true
left_true a b e = ap (λ z. z || b) e

-- more voices cover more
covers_more : (m k n : ℕ) (xs ys vs ws : List ℕ) → m ≡ k + 1 → ((x : ℕ) → m < x → x ≤ n → (has x xs || has x ys) ≡ true)
    → ((x : ℕ) → has x xs ≡ true → has x vs ≡ true) → ((x : ℕ) → has x ys ≡ true → has x ws ≡ true) → (has (k + 1) vs || has (k + 1) ws) ≡ true →
    (x : ℕ) → k < x → x ≤ n → (has x vs || has x ws) ≡ true
covers_more m k n xs ys vs ws is old left right new x low high = dite (ℕ_discrete x (k + 1))
    (λ same. subst (λ (z : ℕ). (has z vs || has z ws) ≡ true) (sym same) new)
    (λ other. ⊎_elim (λ h. left_true (has x vs) (has x ws) (left x h)) (λ h. right_true (has x vs) (has x ws) (right x h))
    (or_true (has x xs) (has x ys) (old x (omega arith) high)))

has_more : (x v : ℕ) (vs ws : List ℕ) → ws ≡ vs ++ v ∷ [] → has x vs ≡ true → has x ws ≡ true
has_more x v vs ws is h = ap (has x) is ∙ (has-append x vs (v ∷ []) ∙ left_true (has x vs) (has x (v ∷ [])) h)

has_last : (v : ℕ) (vs ws : List ℕ) → ws ≡ vs ++ v ∷ [] → has v ws ≡ true
has_last v vs ws is = ap (has v) is ∙ (has-append v vs (v ∷ []) ∙ right_true (has v vs) (has v (v ∷ [])) (has_self v))

pub covers_child : (m k n : ℕ) (hs : List (PromisedHandle Back Driven)) (h : PromisedHandle Back Driven) (bs : List Back) → m ≡ k + 1
    → h.promise.back.value.conn.0 ≡ k → Covers m n hs bs → Covers k n (hs ++ h ∷ []) bs
covers_child m k n hs h bs is conn c =
    let e : promised (hs ++ h ∷ []) ≡ promised hs ++ (k + 1) ∷ [] = promised-snoc hs h ∙ ap (λ (z : ℕ). promised hs ++ (z + 1) ∷ []) conn in
    covers_more m k n (promised hs) (voices bs) (promised (hs ++ h ∷ [])) (voices bs) is c
    (λ x g. has_more x (k + 1) (promised hs) (promised (hs ++ h ∷ [])) e g) (λ x g. g)
    (left_true (has (k + 1) (promised (hs ++ h ∷ []))) (has (k + 1) (voices bs)) (has_last (k + 1) (promised hs) (promised (hs ++ h ∷ [])) e))

pub covers_here : (m k n : ℕ) (hs : List (PromisedHandle Back Driven)) (bs : List Back) (b : Back) → m ≡ k + 1 → b.conn.0 ≡ k → Covers m n hs bs
    → Covers k n hs (bs ++ b ∷ [])
covers_here m k n hs bs b is conn c =
    let e : voices (bs ++ b ∷ []) ≡ voices bs ++ (k + 1) ∷ [] = voices-snoc bs b ∙ ap (λ (z : ℕ). voices bs ++ (z + 1) ∷ []) conn in
    covers_more m k n (promised hs) (voices bs) (promised hs) (voices (bs ++ b ∷ [])) is c (λ x g. g)
    (λ x g. has_more x (k + 1) (voices bs) (voices (bs ++ b ∷ [])) e g)
    (right_true (has (k + 1) (promised hs)) (has (k + 1) (voices (bs ++ b ∷ []))) (has_last (k + 1) (voices bs) (voices (bs ++ b ∷ [])) e))

-- all voices are met
pub all_covered : (n : ℕ) (hs : List (PromisedHandle Back Driven)) (bs cs : List Back) (p q r : List ℕ) → Covers 0 n hs bs
    → ((x : ℕ) → has x (voices cs) ≡ has x (voices bs)) → has 0 p ≡ true
    → ((x : ℕ) → has x q ≡ (has x p || has x (voices cs))) → ((x : ℕ) → has x r ≡ (has x q || has x (promised hs))) → (x : ℕ) → x ≤ n → has x r ≡ true
all_covered n hs bs cs p q r c same zeroth first second x high = second x ∙ dite (ℕ_discrete x 0)
    (λ is. left_true (has x q) (has x (promised hs)) (first x ∙ left_true (has x p) (has x (voices cs)) (ap (λ z. has z p) is ∙ zeroth)))
    (λ no. ⊎_elim (λ h. right_true (has x q) (has x (promised hs)) h)
    (λ h. left_true (has x q) (has x (promised hs)) (first x ∙ right_true (has x p) (has x (voices cs)) (same x ∙ h)))
    (or_true (has x (promised hs)) (has x (voices bs)) (c x (omega arith) high)))
