-- What a test over all modes says of each.
use Rattle.std.proofs.Common.{◌≡◌, ℕ, zero, suc, ◌<◌, length, subst, lit<, arith, Bool, true, false, ◌&&◌, List, [], ◌∷◌, refl, ap, sym, ◌∙◌, not, cond, get_or}
use Rattle.std.proofs.lemmas.Bool.{eqb-true}
use Rattle.std.specs.List.{list_all}
use Rattle.iso_modes.specs.declared.Mode.{Mode}
use Rattle.iso_modes.specs.declared.Mode.TheVariants.{In, Is, Ns, S, Ix, Six, U, X, Nw, Z}
use Rattle.iso_modes.specs.Modes.{mode_number, mode_eq}

abbrev pub modes : List Mode
modes = In ∷ Is ∷ Ns ∷ S ∷ Ix ∷ Six ∷ U ∷ X ∷ Nw ∷ Z ∷ []

-- the tests agree
abbrev pub same : Bool → Bool → Bool
same a b = cond a b (not b)

pub same-is : (a b : Bool) → same a b ≡ true → a ≡ b
same-is true b h = sym h
same-is false true h = h
same-is false false h = refl

pub same-of : (a b : Bool) → a ≡ b → same a b ≡ true
same-of true b e = sym e
same-of false true e = e
same-of false false e = refl

first : (a b : Bool) → a && b ≡ true → a ≡ true
first true b h = refl
first false b h = h

rest : (a b : Bool) → a && b ≡ true → b ≡ true
rest true b h = h
rest false true h = refl
rest false false h = h

passes : (p : Mode → Bool) (ms : List Mode) (k : ℕ) → list_all p ms ≡ true → k < length ms → p (get_or ms k Z) ≡ true
passes p [] k h lt = absurd (omega arith)
passes p (x ∷ xs) zero h lt = first (p x) (list_all p xs) h
passes p (x ∷ xs) (suc k) h lt = passes p xs k (rest (p x) (list_all p xs) h) (omega arith)

abbrev mode_at : ℕ → Mode
mode_at n = get_or modes n Z

back : (m : Mode) → mode_at (mode_number m) ≡ m
unfolding mode_number
back In = refl
back Is = refl
back Ns = refl
back S = refl
back Ix = refl
back Six = refl
back U = refl
back X = refl
back Nw = refl
back Z = refl

within : (m : Mode) → mode_number m < 10
unfolding mode_number
within In = lit< tt
within Is = lit< tt
within Ns = lit< tt
within S = lit< tt
within Ix = lit< tt
within Six = lit< tt
within U = lit< tt
within X = lit< tt
within Nw = lit< tt
within Z = lit< tt

-- a test that all modes pass, each passes
pub each : (p : Mode → Bool) → list_all p modes ≡ true → (m : Mode) → p m ≡ true
each p h m = let P : Mode → Type 0 = λ x. p x ≡ true in subst P (back m) (passes p modes (mode_number m) h (within m))

-- a test that each passes, all modes pass
pub all-of : (p : Mode → Bool) → ((m : Mode) → p m ≡ true) → list_all p modes ≡ true
all-of p h = rw (h In, h Is, h Ns, h S, h Ix, h Six, h U, h X, h Nw, h Z) refl

-- the same of pairs
pub each-pair : (p : Mode → Mode → Bool) → list_all (λ a. list_all (p a) modes) modes ≡ true → (a b : Mode) → p a b ≡ true
each-pair p h a b = each (p a) (each (λ m. list_all (p m) modes) h a) b

-- modes whose numbers are the same are the same
pub mode_eq-is : (a b : Mode) → mode_eq a b ≡ true → a ≡ b
unfolding mode_eq
mode_eq-is a b h = sym (back a) ∙ ap mode_at (eqb-true _ _ h) ∙ back b
