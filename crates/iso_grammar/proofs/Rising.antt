-- Tokens stand in their line from left to right, none in another.
use Rattle.std.proofs.Common.{ℕ, zero, suc, ◌+◌, ◌-◌, ◌≤◌, ◌<◌, Bool, true, false, not, ◌&&◌, cond, List, [], ◌∷◌, take, Option, Some, None, arith}
use Rattle.std.specs.Prelude.{◌==◌}
use Rattle.iso_grammar.specs.Lex.{begins_digit, begins_with, digits_kind, in_word, is_blank, is_digit, is_letter, is_name, run_of, symbol, symbol_at, text_from, text_token, token, token_at, tokens, tokens_from, word_kind}
use Rattle.iso_grammar.specs.Order.{RisesFrom}
use Rattle.iso_grammar.specs.declared.token.Kind.{Kind}
use Rattle.iso_grammar.specs.declared.token.Kind.TheVariants as k
use Rattle.iso_grammar.specs.declared.token.Token.{Token}

-- it takes a byte at least
abbrev TakesOne : Kind × ℕ → Type 0
TakesOne found = 1 ≤ found.1

picked : (b : Bool) (x y : Kind × ℕ) → TakesOne x → TakesOne y → TakesOne (cond b x y)
picked true x y p q = p
picked false x y p q = q

one_more : (n : ℕ) → 1 ≤ n + 1
one_more n = omega arith

text-takes : (o : Option ℕ) → TakesOne (text_token o)
text-takes None = omega arith
text-takes (Some n) = one_more n

symbol-takes : (b : ℕ) (bs : List ℕ) → TakesOne (symbol_at b bs)
symbol-takes b bs =
    picked (b == 60 && begins_with 62 bs) (k.NotEqual, 2) _ (omega arith)
    (picked (b == 60 && begins_with 61 bs) (k.LessEqual, 2) _ (omega arith)
    (picked (b == 62 && begins_with 61 bs) (k.GreaterEqual, 2) (symbol b, 1) (omega arith) (omega arith)))

token-takes : (after : Bool) (b : ℕ) (bs : List ℕ) → TakesOne (token_at after b bs)
unfolding token_at
token-takes after b bs =
    picked (is_letter b) (word_kind (take (run_of in_word bs + 1) (b ∷ bs)), run_of in_word bs + 1) _ (one_more (run_of in_word bs))
    (picked (is_digit b) (digits_kind (take (run_of is_digit bs + 1) (b ∷ bs)), run_of is_digit bs + 1) _ (one_more (run_of is_digit bs))
    (picked (b == 45 && (not after && begins_digit bs)) (k.Integer, run_of is_digit bs + 1) _ (one_more (run_of is_digit bs))
    (picked (b == 39) (text_token (text_from false bs)) (symbol_at b bs) (text-takes (text_from false bs)) (symbol-takes b bs))))

-- tokens behind more bytes are behind fewer
behind : (m n : ℕ) (ts : List Token) → n ≤ m → RisesFrom m ts → RisesFrom n ts
behind m n [] le r = tt
behind m n (t ∷ ts) le r = (let p : m < t.start = r.0 in omega (arith, p, le), r.1, r.2)

rises_from : (bytes : List ℕ) (at left : ℕ) (after : Bool) → RisesFrom (at + left) (tokens_from at left after bytes)
rises_from [] at left after = tt
rises_from (b ∷ bs) at (suc left) after = behind ((at + 1) + left) (at + suc left) _ (omega arith) (rises_from bs (at + 1) left after)
rises_from (b ∷ bs) at zero after = go (is_blank b) (λ n later. rises_from bs (at + 1) n later)
  where
    go : (c : Bool) → ((n : ℕ) (later : Bool) → RisesFrom ((at + 1) + n) (tokens_from (at + 1) n later bs))
        → RisesFrom (at + 0) (cond c (tokens_from (at + 1) 0 after bs) (token at (token_at after b bs) ∷ tokens_from (at + 1) ((token_at after b bs).1 - 1) (is_name (token_at after b bs).0) bs))
    go true rest = behind ((at + 1) + 0) (at + 0) _ (omega arith) (rest 0 after)
    go false rest =
        let one : 1 ≤ (token_at after b bs).1 = token-takes after b bs in
        (omega arith, omega (arith, one), behind ((at + 1) + ((token_at after b bs).1 - 1)) (at + (token_at after b bs).1) _ (omega (arith, one)) (rest ((token_at after b bs).1 - 1) (is_name (token_at after b bs).0)))

-- the tokens of a line rise
pub rises : (line : List ℕ) → RisesFrom 0 (tokens line)
unfolding tokens
rises line = rises_from line 0 0 false
