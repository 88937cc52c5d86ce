-- Which versions a commit settles.
use Rattle.std.proofs.Common.{◌≡◌, ◌≢◌, ℕ, Bool, true, false, ◌&&◌, List, [], ◌∷◌, refl, sym, arith}
use Rattle.std.specs.Prelude.{◌==◌}
use Rattle.std.proofs.lemmas.Bool.Decides.{nat_tests}
use Rattle.iso_history.specs.Piles.{HasNone, NonePending, OneUnit, pends}
use Rattle.iso_history.specs.Versions.{settled_by}
use Rattle.iso_history.specs.World.{Version}
use Rattle.iso_history.proofs.log.Recorded.{none-of, settled-none}

-- where nothing is pending no unit has anything pending
pub none-at-all : (u : ℕ) (vs : List Version) → NonePending vs → HasNone u vs
none-at-all u [] h = tt
none-at-all u (v ∷ vs) h = ((λ p e. let q = h.0 in cc), none-at-all u vs h.1)

-- under another unit's version nothing is settled
pub settled-other : (u : ℕ) (v : Version) (vs : List Version) → v.pending ≡ true → v.unit ≢ u → OneUnit (v ∷ vs) → settled_by u (v ∷ vs) ≡ v ∷ vs
settled-other u v vs p ne one = settled-none u (v ∷ vs) ((λ q e. ne e), none-of u v.unit vs (λ e. ne (sym e)) (one.0 p))

pub settled-committed : (u : ℕ) (v : Version) (vs : List Version) → v.pending ≡ false → NonePending vs → settled_by u (v ∷ vs) ≡ v ∷ vs
settled-committed u v vs p none = settled-none u (v ∷ vs) (none-at-all u (v ∷ vs) (p, none))

pub settled-own : (u : ℕ) (v : Version) (vs : List Version) → v.pending ≡ true → v.unit ≡ u → settled_by u (v ∷ vs) ≡ record v { pending = false } ∷ []
settled-own u v vs p e = let t : (v.unit == u) ≡ true = grind (arith, nat_tests) in rw (p, t) refl

-- a pending version is of the unit of what is above it
pends-none : (n u : ℕ) (vs : List Version) → HasNone u vs → pends n u vs ≡ true → ⊥
pends-none n u [] h e = cc
pends-none n u (v ∷ vs) h e = go (v.pending && ((v.number == n) && (v.unit == u))) refl e (pends-none n u vs h.1)
  where
    go : (b : Bool) → (v.pending && ((v.number == n) && (v.unit == u))) ≡ b → pends n u (v ∷ vs) ≡ true → (pends n u vs ≡ true → ⊥) → ⊥
    go true q e rest = let p : v.pending ≡ true = grind arith in let s : v.unit ≡ u = grind (arith, nat_tests) in h.0 p s
    go false q e rest = rest (rw q at e)

pub pends-own : (n u : ℕ) (v : Version) (vs : List Version) → v.pending ≡ true → OneUnit (v ∷ vs) → v.unit ≢ u → pends n u (v ∷ vs) ≡ true → ⊥
pends-own n u v vs p one ne e = pends-none n u (v ∷ vs) ((λ q k. ne k), none-of u v.unit vs (λ k. ne (sym k)) (one.0 p)) e
