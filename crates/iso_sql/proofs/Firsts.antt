-- The least of many faults, and the first.
use Rattle.std.proofs.Common.{◌≡◌, ◌≤◌, ◌<◌, ◌+◌, ◌*◌, ℕ, Bool, true, false, cond, List, [], ◌∷◌, ◌++◌, Option, Some, None, refl, sym, ap, subst, ◌∙◌, inl, inr, arith}
use Rattle.std.specs.Prelude.{◌&&◌, ◌||◌, ◌==◌, nat_lt}
use Rattle.std.specs.List.{All, Contains}
use Rattle.std.proofs.lemmas.Bool.{ltb-true}
use Rattle.std.proofs.lemmas.List.{append-nil}
use Rattle.std.proofs.lemmas.List.Elements.{All-append, All-cons, All-contains, All-nil, All-weaker, Contains-append_left, Contains-append_right}
use Rattle.iso_grammar.specs.declared.fault.Cause.{Cause}
use Rattle.iso_grammar.specs.declared.fault.Cause.TheVariants.{Unknown, TypeFault, Duplicate, Limit}
use Rattle.iso_grammar.specs.declared.fault.Fault.{Fault}
use Rattle.iso_grammar.specs.declared.token.Token.{Token}
use Rattle.iso_grammar.specs.Faults.{at, is_sooner, least, rank, unless}
use Rattle.iso_grammar.proofs.Choices.{decide}
use Rattle.iso_sql.specs.Every.{IsLeastOf, each}

-- ---- the order of faults, as one of numbers

abbrev pub key : Fault → ℕ
key f = 4 * f.place + rank f.cause

rank-small : (c : Cause) → rank c ≤ 3
rank-small Unknown = omega arith
rank-small TypeFault = omega arith
rank-small Duplicate = omega arith
rank-small Limit = omega arith

as-numbers : (p q r s : ℕ) → r ≤ 3 → s ≤ 3 → (nat_lt p q || (p == q && nat_lt r s)) ≡ nat_lt (4 * p + r) (4 * q + s)
as-numbers p q r s a b = grind arith

pub sooner-is : (f g : Fault) → is_sooner f g ≡ nat_lt (key f) (key g)
sooner-is f g = as-numbers f.place g.place (rank f.cause) (rank g.cause) (rank-small f.cause) (rank-small g.cause)

not-less : (a b : ℕ) → nat_lt a b ≡ false → b ≤ a
not-less a b e = grind arith

is-not-less : (a b : ℕ) → b ≤ a → nat_lt a b ≡ false
is-not-less a b le = grind arith

pub key-least : (g f : Fault) → is_sooner g f ≡ false → key f ≤ key g
key-least g f e = not-less (key g) (key f) (sym (sooner-is g f) ∙ e)

pub least-key : (g f : Fault) → key f ≤ key g → is_sooner g f ≡ false
least-key g f le = sooner-is g f ∙ is-not-less (key g) (key f) le

pub key-sooner : (g f : Fault) → is_sooner g f ≡ true → key g < key f
key-sooner g f e = ltb-true (key g) (key f) (sym (sooner-is g f) ∙ e)

pub place-sooner : (f g : Fault) → f.place < g.place → is_sooner g f ≡ false
place-sooner f g lt = least-key g f (omega (arith, lt, rank-small f.cause))

-- ---- the least of two lists

pub joined-least : (a b : Option Fault) (fs gs : List Fault) → IsLeastOf a fs → IsLeastOf b gs → IsLeastOf (least a b) (fs ++ gs)
unfolding least
joined-least None b fs gs x y = subst (λ (z : List Fault). IsLeastOf b (z ++ gs)) (sym x) y
joined-least (Some f) None fs gs x y = subst (λ (z : List Fault). IsLeastOf (Some f) z) (sym (append-nil fs) ∙ ap (λ (z : List Fault). fs ++ z) (sym y)) x
joined-least (Some f) (Some g) fs gs x y = elim (decide (is_sooner g f)) [
  | inl s ↦ subst (λ (o : Option Fault). IsLeastOf o (fs ++ gs)) (ap (λ v. cond v (Some g) (Some f)) (sym s)) (
    Contains-append_right fs gs g y.0,
    All-append (λ h. is_sooner h g ≡ false) fs gs (All-weaker (λ h. is_sooner h f ≡ false) (λ h. is_sooner h g ≡ false) (λ h e. least-key h g (omega (arith, key-least h f e, key-sooner g f s))) fs x.1) y.1,
  )
  | inr s ↦ subst (λ (o : Option Fault). IsLeastOf o (fs ++ gs)) (ap (λ v. cond v (Some g) (Some f)) (sym s)) (
    Contains-append_left fs gs f x.0,
    All-append (λ h. is_sooner h f ≡ false) fs gs x.1 (All-weaker (λ h. is_sooner h g ≡ false) (λ h. is_sooner h f ≡ false) (λ h e. least-key h f (omega (arith, key-least h g e, key-least g f s))) gs y.1),
  )
]

-- ---- the first of a list

-- all of them lie behind this place
abbrev pub Beyond : ℕ → List Fault → Type 0
Beyond n fs = All (λ g. n < g.place) fs

pub first-least : (f : Fault) (fs : List Fault) → Beyond f.place fs → IsLeastOf (Some f) (f ∷ fs)
first-least f fs all = (
  (0, omega arith, refl),
  All-cons (λ g. is_sooner g f ≡ false) f fs (least-key f f (omega arith)) (All-weaker (λ g. f.place < g.place) (λ g. is_sooner g f ≡ false) (λ g lt. place-sooner f g lt) fs all),
)

pub beyond-less : (m n : ℕ) (fs : List Fault) → n < m → Beyond m fs → Beyond n fs
beyond-less m n fs lt all = All-weaker (λ g. m < g.place) (λ g. n < g.place) (λ g le. omega (arith, lt, le)) fs all

pub beyond-both : (n : ℕ) (fs gs : List Fault) → Beyond n fs → Beyond n gs → Beyond n (fs ++ gs)
beyond-both n fs gs a b = All-append (λ g. n < g.place) fs gs a b

pub beyond-none : (n : ℕ) → Beyond n []
beyond-none n = All-nil (λ g. n < g.place)

pub beyond-at : (n : ℕ) (t : Token) (why : Cause) → n < t.start → Beyond n (each (at t why))
unfolding at
beyond-at n t why lt = All-cons (λ g. n < g.place) (record { place = t.start; cause = why }) [] lt (beyond-none n)

pub beyond-unless : (n : ℕ) (b : Bool) (t : Token) (why : Cause) → n < t.start → Beyond n (each (unless b t why))
unfolding unless
beyond-unless n true t why lt = beyond-none n
beyond-unless n false t why lt = beyond-at n t why lt

pub at-least : (t : Token) (why : Cause) (fs : List Fault) → Beyond t.start fs → IsLeastOf (at t why) (each (at t why) ++ fs)
unfolding at
at-least t why fs all = first-least (record { place = t.start; cause = why }) fs all

-- ---- one least fault

same-rank : (a b : Cause) → rank a ≡ rank b → a ≡ b
same-rank Unknown Unknown e = refl
same-rank TypeFault TypeFault e = refl
same-rank Duplicate Duplicate e = refl
same-rank Limit Limit e = refl
same-rank Unknown TypeFault e = absurd (omega (arith, e))
same-rank Unknown Duplicate e = absurd (omega (arith, e))
same-rank Unknown Limit e = absurd (omega (arith, e))
same-rank TypeFault Unknown e = absurd (omega (arith, e))
same-rank TypeFault Duplicate e = absurd (omega (arith, e))
same-rank TypeFault Limit e = absurd (omega (arith, e))
same-rank Duplicate Unknown e = absurd (omega (arith, e))
same-rank Duplicate TypeFault e = absurd (omega (arith, e))
same-rank Duplicate Limit e = absurd (omega (arith, e))
same-rank Limit Unknown e = absurd (omega (arith, e))
same-rank Limit TypeFault e = absurd (omega (arith, e))
same-rank Limit Duplicate e = absurd (omega (arith, e))

same-key : (f g : Fault) → key f ≤ key g → key g ≤ key f → f ≡ g
same-key f g a b =
    let p : f.place ≡ g.place = omega (arith, a, b, rank-small f.cause, rank-small g.cause) in
    let r : rank f.cause ≡ rank g.cause = omega (arith, a, b, rank-small f.cause, rank-small g.cause) in
    ap (λ (n : ℕ). record { place = n; cause = f.cause }) p ∙ ap (λ (c : Cause). record { place = g.place; cause = c }) (same-rank f.cause g.cause r)

none-in : {A : Type 0} (fs : List Fault) (f : Fault) → fs ≡ [] → Contains fs f → A
none-in [] f e w = absurd (omega (arith, w.1))
none-in (g ∷ fs) f e w = absurd (no-cons g fs e)
  where
    no-cons : (h : Fault) (hs : List Fault) → h ∷ hs ≡ [] → ⊥
    no-cons h hs e = cc

pub one-least : (fs : List Fault) (a b : Option Fault) → IsLeastOf a fs → IsLeastOf b fs → a ≡ b
one-least fs None None x y = refl
one-least fs None (Some g) x y = none-in fs g x y.0
one-least fs (Some f) None x y = none-in fs f y x.0
one-least fs (Some f) (Some g) x y =
    let p : is_sooner f g ≡ false = All-contains (λ h. is_sooner h g ≡ false) fs f y.1 x.0 in
    let q : is_sooner g f ≡ false = All-contains (λ h. is_sooner h f ≡ false) fs g x.1 y.0 in
    ap Some (same-key f g (key-least g f q) (key-least f g p))
