-- What a disjunction of tests says of its parts.
use Rattle.std.proofs.Common.{◌≡◌, Bool, true, false, ◌||◌, refl}

pub or-first_false : (a b : Bool) → (a || b) ≡ false → a ≡ false
or-first_false false b e = refl
or-first_false true b e = e

pub or-first : (a b : Bool) → a ≡ true → (a || b) ≡ true
or-first true b e = refl
or-first false b e = cc

pub or-second : (a b : Bool) → b ≡ true → (a || b) ≡ true
or-second true b e = refl
or-second false b e = e

-- where the first fails, the second passes
pub or-other : (a b : Bool) → a ≡ false → (a || b) ≡ true → b ≡ true
or-other false b p q = q
or-other true b p q = cc
