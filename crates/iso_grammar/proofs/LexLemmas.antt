-- Cutting a line from a place on.
use Rattle.std.proofs.Common.{◌≡◌, ℕ, zero, suc, ◌+◌, ◌-◌, ◌<◌, Bool, true, false, cond, List, [], ◌∷◌, ◌++◌, length, get_or, take, drop, refl, sym, ap, ◌∙◌, append_assoc, add-one, drop-cons, arith}
use Rattle.std.proofs.lemmas.List.{drop-drop, take_all, length-drop}
use Rattle.iso_grammar.specs.declared.token.Kind.{Kind}
use Rattle.iso_grammar.specs.declared.token.Token.{Token}
use Rattle.iso_grammar.specs.Lex.{is_blank, token_at, token, is_name, tokens_from}

pub tokens_from-skip : (at left : ℕ) (after : Bool) (bs : List ℕ) → tokens_from at left after bs ≡ tokens_from (at + left) 0 after (drop left bs)
tokens_from-skip at zero after bs = ap (λ n. tokens_from n 0 after bs) (omega arith)
tokens_from-skip at (suc left) after [] = refl
tokens_from-skip at (suc left) after (b ∷ bs) =
    let e : (at + 1) + left ≡ at + suc left = omega arith in
    tokens_from-skip (at + 1) left after bs ∙ ap (λ n. tokens_from n 0 after (drop left bs)) e

pub here : (line : List ℕ) (at : ℕ) → at < length line → drop at line ≡ get_or line at 0 ∷ drop (at + 1) line
here line at lt = rw (add-one, drop-cons line at 0)

pub after_blank : (line : List ℕ) (at : ℕ) (after : Bool) → at < length line → is_blank (get_or line at 0) ≡ true → tokens_from at 0 after (drop at line) ≡ tokens_from (at + 1) 0 after (drop (at + 1) line)
after_blank line at after lt b = ap (tokens_from at 0 after) (here line at lt) ∙ go (get_or line at 0) (drop (at + 1) line) b
  where
    go : (x : ℕ) (xs : List ℕ) → is_blank x ≡ true → tokens_from at 0 after (x ∷ xs) ≡ tokens_from (at + 1) 0 after xs
    go x xs b = ap (λ v. cond v (tokens_from (at + 1) 0 after xs) (token at (token_at after x xs) ∷ tokens_from (at + 1) ((token_at after x xs).1 - 1) (is_name (token_at after x xs).0) xs)) b

pub after_token : (line : List ℕ) (at : ℕ) (after : Bool) (f : Kind × ℕ) → at < length line → is_blank (get_or line at 0) ≡ false → f ≡ token_at after (get_or line at 0) (drop (at + 1) line) → 0 < f.1
    → tokens_from at 0 after (drop at line) ≡ token at f ∷ tokens_from (at + f.1) 0 (is_name f.0) (drop (at + f.1) line)
after_token line at after f lt b is pos = ap (tokens_from at 0 after) (here line at lt) ∙ go (get_or line at 0) (drop (at + 1) line) b is ∙ ap (λ (ts : List Token). token at f ∷ ts) rest
  where
    go : (x : ℕ) (xs : List ℕ) → is_blank x ≡ false → f ≡ token_at after x xs → tokens_from at 0 after (x ∷ xs) ≡ token at f ∷ tokens_from (at + 1) (f.1 - 1) (is_name f.0) xs
    go x xs b is =
        ap (λ v. cond v (tokens_from (at + 1) 0 after xs) (token at (token_at after x xs) ∷ tokens_from (at + 1) ((token_at after x xs).1 - 1) (is_name (token_at after x xs).0) xs)) b
        ∙ ap (λ (g : Kind × ℕ). token at g ∷ tokens_from (at + 1) (g.1 - 1) (is_name g.0) xs) (sym is)

    count : (at + 1) + (f.1 - 1) ≡ at + f.1
    count = omega arith

    rest : tokens_from (at + 1) (f.1 - 1) (is_name f.0) (drop (at + 1) line) ≡ tokens_from (at + f.1) 0 (is_name f.0) (drop (at + f.1) line)
    rest =
        tokens_from-skip (at + 1) (f.1 - 1) (is_name f.0) (drop (at + 1) line) ∙ ap (tokens_from ((at + 1) + (f.1 - 1)) 0 (is_name f.0)) (drop-drop (f.1 - 1) (at + 1) line ∙ ap (λ n. drop n line) count)
        ∙ ap (λ n. tokens_from n 0 (is_name f.0) (drop (at + f.1) line)) count

at_front : (line : List ℕ) (at : ℕ) → at < length line → (get_or (drop at line) 0 0 ≡ get_or line at 0) × (drop 1 (drop at line) ≡ drop (at + 1) line)
at_front line at lt = (ap (λ (l : List ℕ). get_or l 0 0) (here line at lt), drop-drop 1 at line)

-- a token is cut off
pub one_more : (line : List ℕ) (at : ℕ) (after after' : Bool) (f : Kind × ℕ) (t : Token) (found new : List Token) (whole : List Token) → at < length line → is_blank (get_or line at 0) ≡ false
    → f ≡ token_at after (get_or (drop at line) 0 0) (drop 1 (drop at line)) → 0 < f.1 → t ≡ token at f → after' ≡ is_name f.0 → new ≡ found ++ t ∷ []
    → found ++ tokens_from at 0 after (drop at line) ≡ whole → new ++ tokens_from (at + f.1) 0 after' (drop (at + f.1) line) ≡ whole
one_more line at after after' f t found new whole lt b is pos made named pushed so_far =
    let p = at_front line at lt in
    let given : f ≡ token_at after (get_or line at 0) (drop (at + 1) line) = is ∙ ap (λ n. token_at after n (drop 1 (drop at line))) p.0 ∙ ap (token_at after (get_or line at 0)) p.1 in
    let more = tokens_from (at + f.1) 0 (is_name f.0) (drop (at + f.1) line) in
    let step : tokens_from at 0 after (drop at line) ≡ token at f ∷ more = after_token line at after f lt b given pos in
    ap (λ (z : List Token). z ++ tokens_from (at + f.1) 0 after' (drop (at + f.1) line)) pushed ∙ ap (λ a. (found ++ t ∷ []) ++ tokens_from (at + f.1) 0 a (drop (at + f.1) line)) named
    ∙ append_assoc found (t ∷ []) more ∙ ap (λ (u : Token). found ++ (u ∷ more)) made ∙ ap (λ (z : List Token). found ++ z) (sym step) ∙ so_far

pub rest_of_line : (line : List ℕ) (at : ℕ) → take (length line - at) (drop at line) ≡ drop at line
rest_of_line line at = take_all (length line - at) (drop at line) (omega (arith, length-drop at line))
