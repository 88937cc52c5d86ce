-- A parenthesis with as much fuel inside as outside, and one at the greatest depth.
use Rattle.std.proofs.Common.{◌≡◌, ℕ, zero, suc, ◌+◌, ◌≤◌, true, false, cond, List, [], ◌∷◌, length, refl, sym, ap, ◌∙◌, arith}
use Rattle.std.specs.Prelude.{nat_lt}
use Rattle.iso_grammar.specs.declared.token.Kind.TheVariants as k
use Rattle.iso_grammar.specs.declared.token.Token.{Token}
use Rattle.iso_sql.specs.Names.{Names}
use Rattle.iso_sql.specs.Actions.{max_depth}
use Rattle.iso_sql.specs.declared.found.Found.{Found}
use Rattle.iso_sql.specs.Actions.{nested, hidden}
use Rattle.iso_grammar.specs.Reading.{Parser, and_then, pure, expect}
use Rattle.iso_sql.specs.ConditionReading.{disjunction, paren_at, deep_paren, scan}
use Rattle.iso_grammar.proofs.Rules.{word}
use Rattle.iso_sql.proofs.Parens.{disjunction-reads}
use Rattle.iso_grammar.proofs.Fuel.{and_then-cong, and_then-assoc, shrinks, agree}
use Rattle.iso_sql.proofs.Scan.{scan-inside}

abbrev flat : Names → ℕ → ℕ → Parser Found
flat names d n = λ ts. and_then (expect k.Open ts) (λ t r. and_then (disjunction names (paren_at names (d + 1) n) n r) (λ x r. and_then (expect k.Close r) (λ _. pure (nested d t x))))

paren_flat : (names : Names) (d n : ℕ) (ts : List Token) → length ts ≤ n → paren_at names d n ts ≡ flat names d n ts
paren_flat names d zero [] le = refl
paren_flat names d zero (t ∷ ts) le = absurd (omega (arith, le))
paren_flat names d (suc m) ts le =
    and_then-cong (expect k.Open ts) (λ t r. and_then (disjunction names (paren_at names (d + 1) m) m r) (λ x r. and_then (expect k.Close r) (λ _. pure (nested d t x))))
    (λ t r. and_then (disjunction names (paren_at names (d + 1) (suc m)) (suc m) r) (λ x r. and_then (expect k.Close r) (λ _. pure (nested d t x))))
    (λ t r e. let s = shrinks (word k.Open) (suc m) ts r t le e in
    ap (λ o. and_then o (λ x r. and_then (expect k.Close r) (λ _. pure (nested d t x)))) (agree (disjunction-reads names (d + 1)) m (suc m) r (omega (arith, s, le)) (omega (arith, s, le))))

pub paren_open : (names : Names) (d n : ℕ) (ts : List Token) → nat_lt d max_depth ≡ true → length ts ≤ n
    → paren_at names d n ts ≡ and_then (expect k.Open ts) (λ t r. and_then (disjunction names (paren_at names (d + 1) n) n r) (λ x r. and_then (expect k.Close r) (λ _. pure x)))
paren_open names d n ts lt le =
    paren_flat names d n ts le
    ∙ ap (λ v. and_then (expect k.Open ts) (λ t r. and_then (disjunction names (paren_at names (d + 1) n) n r) (λ x r. and_then (expect k.Close r) (λ _. pure (cond v x (hidden t)))))) lt

pub paren_deep : (names : Names) (d n : ℕ) (ts : List Token) → nat_lt d max_depth ≡ false → length ts ≤ n → paren_at names d n ts ≡ deep_paren names ts
paren_deep names d n ts lt le =
    paren_flat names d n ts le
    ∙ ap (λ v. and_then (expect k.Open ts) (λ t r. and_then (disjunction names (paren_at names (d + 1) n) n r) (λ x r. and_then (expect k.Close r) (λ _. pure (cond v x (hidden t)))))) lt
    ∙ and_then-cong (expect k.Open ts) (λ t r. and_then (disjunction names (paren_at names (d + 1) n) n r) (λ x r. and_then (expect k.Close r) (λ _. pure (hidden t))))
    (λ t r. and_then (scan names (length r + 1) 1 true r) (λ _. pure (hidden t)))
    (λ t r e. let s = shrinks (word k.Open) n ts r t le e in
    sym (
    ap (λ o. and_then o (λ _. pure (hidden t))) (scan-inside names n (d + 1) (length r + 1) r (omega arith) (omega (arith, s, le)))
    ∙ and_then-assoc (disjunction names (paren_at names (d + 1) n) n r) (λ x r. and_then (expect k.Close r) (λ _. pure tt)) (λ _. pure (hidden t))
    ∙ and_then-cong (disjunction names (paren_at names (d + 1) n) n r) (λ x r. and_then (and_then (expect k.Close r) (λ _. pure tt)) (λ _. pure (hidden t))) (λ x r. and_then (expect k.Close r) (λ _. pure (hidden t)))
    (λ x r2 f. and_then-assoc (expect k.Close r2) (λ _. pure tt) (λ _. pure (hidden t)))))
