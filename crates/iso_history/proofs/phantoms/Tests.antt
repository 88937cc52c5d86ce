-- Laws of tests.
use Rattle.std.proofs.Common.{◌≡◌, Bool, true, false, not, ◌&&◌, ◌||◌, refl, ◌⊎◌, inl, inr}

-- both hold
pub both : (a b : Bool) → (a && b) ≡ true → (a ≡ true) × (b ≡ true)
both true b e = (refl, e)
both false b e = cc

-- neither holds
pub either : (a b : Bool) → (a || b) ≡ false → (a ≡ false) × (b ≡ false)
either false b e = (refl, e)
either true b e = cc

-- two that hold
pub join : (a b : Bool) → a ≡ true → b ≡ true → (a && b) ≡ true
join a b e f = rw (e, f) refl

-- the opposite of false
pub opposite : (b : Bool) → b ≡ false → not b ≡ true
opposite b e = rw e refl

-- what is opposite to true
pub turned : (b : Bool) → not b ≡ true → b ≡ false
turned false e = refl
turned true e = cc

-- one of both holds
pub one-of : (a b : Bool) → (a || b) ≡ true → (a ≡ true) ⊎ (b ≡ true)
one-of true b e = inl refl
one-of false b e = inr e

-- the second holds
pub or-right : (a b : Bool) → b ≡ true → (a || b) ≡ true
or-right true b q = refl
or-right false b q = q
