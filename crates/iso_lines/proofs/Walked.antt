-- Walks over names by place: what holds of each that was walked, and how many pass a test.
use Rattle.std.proofs.Common.{◌&&◌, ◌||◌, not, true≢false, Option, None, IfNone, ◌≡◌, ◌<◌, ◌≤◌, ◌+◌, ℕ, zero, suc, Bool, true, false, List, [], ◌∷◌, Some, is_some, length, drop, slice_get, refl, sym, ap, subst, ◌∙◌, inl, inr, arith}
use Rattle.std.proofs.lemmas.Bool.Decides.{eqb_tells}
use Rattle.std.proofs.lemmas.List.Sums.{sum_by-cons}
use Rattle.std.specs.Option.{option_map_or}
use Rattle.iso_queue.specs.Lines.{Line, has_edge, hold_of, is_grantable, is_touched, is_waiter, waiter_of}
use Rattle.iso_queue.specs.declared.types.Hold.{Hold}
use Rattle.iso_queue.specs.declared.types.Waiter.{Waiter}
use Rattle.iso_types.specs.declared.value.TableId.{TableId}
use Rattle.iso_lines.specs.Tasks.{is_within}
use Rattle.iso_lines.specs.Weighs.{is_long, weighs}
use Rattle.iso_types.specs.declared.value.Conn.{Conn}
use Rattle.std.specs.Prelude.{count_by, if◌then◌else◌}
use Rattle.iso_types.specs.declared.value.Name.{Name}
use Rattle.iso_lines.proofs.Released.{place_found}
use Rattle.iso_lines.proofs.Same.{name_is}
use Rattle.iso_lines.proofs.Tests.{same_names}
use Rattle.iso_lines.proofs.Touched.{no_some, same_some}
use Rattle.iso_lines.specs.Named.{key_of, same}

-- none of the first k names passes
abbrev pub ArePast : (Name → Bool) → List (Name × ℕ) → ℕ → Type 0
ArePast t es k = (i : ℕ) (e : Name × ℕ) → i < k → slice_get es i ≡ Some e → t e.0 ≡ false

pub past-none : (t : Name → Bool) (es : List (Name × ℕ)) → ArePast t es 0
past-none t es = λ i e lt g. absurd (omega (arith, lt))

pub past-more : (t : Name → Bool) (es : List (Name × ℕ)) (k : ℕ) → ArePast t es k → ((e : Name × ℕ) → slice_get es k ≡ Some e → t e.0 ≡ false) → ArePast t es (k + 1)
past-more t es k so here = λ i e lt g. elim (eqb_tells i k) [
  | inl y ↦ here e (subst (λ j. slice_get es j ≡ Some e) y.1 g)
  | inr y ↦ so i e (omega (arith, lt, y.1)) g
]

-- at the end none passes
pub past-all : (t : Name → Bool) (es : List (Name × ℕ)) (k : ℕ) → ArePast t es k → ((i : ℕ) (e : Name × ℕ) → slice_get es i ≡ Some e → i < k)
    → (n : Name) → is_some (key_of es n) ≡ true → t n ≡ false
past-all t es k so all n there =
    let p = place_found (same n) es there in
    subst (λ (m : Name). t m ≡ false) (sym (name_is n p.1.0 (sym (same_names n p.1.0) ∙ p.3))) (so p.0 p.1 (all p.0 p.1 p.2) p.2)

-- 1 for what is so
abbrev pub one : Bool → ℕ
one b = if b then 1 else 0

pub counted_cons : {X : Type 0} (t : X → Bool) (x : X) (xs : List X) → count_by t (x ∷ xs) ≡ one (t x) + count_by t xs
counted_cons t x xs = sum_by-cons (λ (y : _). one (t y)) x xs

-- what is left at a place, and behind it
pub counted_left : {X : Type 0} (t : X → Bool) (xs : List X) (i : ℕ) (x : X) → slice_get xs i ≡ Some x → count_by t (drop i xs) ≡ one (t x) + count_by t (drop (i + 1) xs)
counted_left t [] i x g = absurd (no_some g)
counted_left t (y ∷ ys) zero x g = counted_cons t y ys ∙ ap (λ (z : _). one (t z) + count_by t ys) (same_some g)
counted_left t (y ∷ ys) (suc i) x g =
    let e : suc i + 1 ≡ suc (i + 1) = omega arith in
    rw e (counted_left t ys i x g)

pub counted_end : {X : Type 0} (t : X → Bool) (xs : List X) (i : ℕ) → length xs ≤ i → count_by t (drop i xs) ≡ 0
counted_end t [] zero le = refl
counted_end t [] (suc i) le = refl
counted_end t (x ∷ xs) zero le = absurd (omega (arith, le))
counted_end t (x ∷ xs) (suc i) le = counted_end t xs i (omega (arith, le))

pub one_small : (b : Bool) → one b ≤ 1
one_small true = omega arith
one_small false = omega arith

pub if_none : {X P Q : Type 0} (o : Option X) → (P → Q) → IfNone o P → IfNone o Q
if_none None f p = f p
if_none (Some x) f p = tt

-- who does not wait has nothing to claim
pub grantable_waits : (q : Line) (c : Conn) → is_grantable q c ≡ true → is_waiter q.waiters c ≡ true
grantable_waits q c h = by (waiter_of q.waiters c) h
  where
    by : (o : Option Waiter) → option_map_or (λ x. not (has_edge q.holders q.waiters x)) o false ≡ true → is_some o ≡ true
    by None f = absurd (true≢false (sym f))
    by (Some x) f = refl

-- what is so of no name that is kept, and of kept names alone, is so of none
pub nowhere : (es : List (Name × ℕ)) (t : Name → Bool) → ((n : Name) → t n ≡ true → is_some (key_of es n) ≡ true) → ((n : Name) → is_some (key_of es n) ≡ true → t n ≡ false)
    → (n : Name) → t n ≡ false
nowhere es t there none n = by (t n) refl
  where
    by : (b : Bool) → t n ≡ b → b ≡ false
    by true e = sym e ∙ none n (there n e)
    by false e = refl

-- a name that counts is one that the connection holds
pub weighs_touched : (tables : List TableId) (c : Conn) (t : TableId) (n : Name) (q : Line) → weighs tables c t n q ≡ true → is_touched q c ≡ true
weighs_touched tables c t n q h = by (is_within tables t n) (hold_of q.holders c) h
  where
    by : (b : Bool) (o : Option Hold) → (b && is_long o) ≡ true → (is_some o || is_waiter q.waiters c) ≡ true
    by true None f = absurd (true≢false (sym f))
    by true (Some x) f = refl
    by false o f = absurd (true≢false (sym f))

pub none_is : {X : Type 0} (o : Option X) → o ≡ None → IfNone o (Unit {0})
none_is None e = tt
none_is (Some x) e = tt

-- a connection that touches no line neither waits nor has anything to claim in it
pub waiting_not : (q : Line) (c : Conn) → is_touched q c ≡ false → is_waiter q.waiters c ≡ false
waiting_not q c h = by (is_some (hold_of q.holders c)) (is_waiter q.waiters c) h
  where
    by : (a b : Bool) → (a || b) ≡ false → b ≡ false
    by true b f = absurd (true≢false f)
    by false b f = f

pub claiming_not : (q : Line) (c : Conn) → is_touched q c ≡ false → is_grantable q c ≡ false
claiming_not q c h = by (is_grantable q c) refl
  where
    by : (b : Bool) → is_grantable q c ≡ b → b ≡ false
    by true f = sym (grantable_waits q c f) ∙ waiting_not q c h
    by false f = refl
