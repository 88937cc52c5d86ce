-- Lines and accounts one by one.
use Rattle.std.proofs.Common.{◌≡◌, ℕ, ◌<◌, ◌≤◌, ◌++◌, ◌+◌, ◌-◌, ◌*◌, List, [], ◌∷◌, codes, ap, append_assoc, arith, refl, zero, suc, ◌∙◌, subst, sym}
use Rattle.std.specs.Fmt.{decimal}
use Rattle.rand_pcg.specs.Lcg.{Lcg}
use Rattle.iso_generate.specs.Generated.{accounts, body, body_on, body_text, lines}

-- a number above 0 is the one before and one
before : (n : ℕ) → 0 < n → n ≡ suc (n - 1)
before n h = omega (arith, h)

-- the lines to come, one line on
pub lines_on : (n : ℕ) (g next : Lcg) (old new whole : List ℕ) → 0 < n → new ≡ old ++ body_text (body g) → next ≡ body_on g
    → old ++ lines n g ≡ whole → new ++ lines (n - 1) next ≡ whole
lines_on n g next old new whole h e f w =
    let d : old ++ (body_text (body g) ++ lines (n - 1) (body_on g)) ≡ whole = subst (λ k. old ++ lines k g ≡ whole) (before n h) w in
    rw (e, f) (append_assoc old _ _ ∙ d)

-- the accounts to come, one on
pub accounts_on : (n id next : ℕ) (old new whole : List ℕ) → 0 < n → new ≡ old ++ (codes "ROW ACCT (" ++ decimal id ++ codes ", 1000, 'a')\n")
    → next ≡ id + 10 → old ++ accounts n id ≡ whole → new ++ accounts (n - 1) next ≡ whole
accounts_on n id next old new whole h e f w =
    let d : old ++ (codes "ROW ACCT (" ++ decimal id ++ codes ", 1000, 'a')\n" ++ accounts (n - 1) (id + 10)) ≡ whole =
    subst (λ k. old ++ accounts k id ≡ whole) (before n h) w in
    rw (e, f) (append_assoc old _ _ ∙ d)

-- the numbers of the accounts to come stay below a bound
pub fewer : (n most id first : ℕ) → 0 < n → n ≤ most → id + 10 * n ≤ first + 10 * most
    → (n - 1 ≤ most) × (id + 10 + 10 * (n - 1) ≤ first + 10 * most)
fewer n most id first h a b = (omega (arith, h, a), omega (arith, h, b))
