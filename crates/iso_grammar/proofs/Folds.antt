-- A repetition that a loop folds into one value.
use Rattle.std.proofs.Common.{◌≡◌, ℕ, zero, suc, ◌+◌, ◌-◌, ◌≤◌, ◌<◌, true, false, cond, List, [], ◌∷◌, Result, Ok, Err, refl, sym, ap, ◌∙◌, arith}
use Rattle.std.specs.Prelude.{fold}
use Rattle.iso_grammar.specs.declared.token.Token.{Token}
use Rattle.iso_grammar.specs.declared.tokens.ReadError.{ReadError}
use Rattle.iso_grammar.specs.declared.tokens.ReadError.TheVariants.{Memory, Syntax}
use Rattle.iso_grammar.specs.Kinds.{Kinds}
use Rattle.iso_grammar.specs.Reading.{Parser, Outcome, and_then, begins, many, pure, ◌>>=◌, Gives, Input}

-- the rest of a repetition, put to what was read before
unfoldable pub rest_of : {A B : Type 0} → (B → A → B) → Kinds → Parser A → ℕ → B → Parser B
rest_of f first p n all = many first p n >>= λ more. pure (fold f all more)

module _ {A B : Type 0} (f : B → A → B) (first : Kinds) (p : Parser A) where
  joined : (o : Outcome A) (n : ℕ) (all : B) → and_then (and_then o (λ x. many first p n >>= λ xs. pure (x ∷ xs))) (λ more. pure (fold f all more)) ≡ and_then o (λ x. rest_of f first p n (f all x))
  unfolding rest_of
  joined (Err e) n all = refl
  joined (Ok r) n all = go (many first p n r.1)
    where
      go : (m : Outcome (List A)) → and_then (and_then m (λ xs. pure (r.0 ∷ xs))) (λ more. pure (fold f all more)) ≡ and_then m (λ more. pure (fold f (f all r.0) more))
      go (Ok m) = refl
      go (Err e) = refl

  -- another turn
  pub rest_of-more : (n i : ℕ) (all : B) (ts : List Token) → i < n → begins first ts ≡ true → rest_of f first p (n - i) all ts ≡ and_then (p ts) (λ x. rest_of f first p (n - (i + 1)) (f all x))
  unfolding rest_of
  rest_of-more n i all ts lt b =
      let count : n - i ≡ suc (n - (i + 1)) = omega arith in
      ap (λ m. rest_of f first p m all ts) count ∙ ap (λ v. and_then (cond v (and_then (p ts) (λ x. many first p (n - (i + 1)) >>= λ xs. pure (x ∷ xs))) (pure [] ts)) (λ more. pure (fold f all more))) b ∙ joined (p ts) (n - (i + 1)) all

  -- no other turn
  pub rest_of-stop : (n : ℕ) (all : B) (ts : List Token) → begins first ts ≡ false → rest_of f first p n all ts ≡ Ok (all, ts)
  unfolding rest_of
  rest_of-stop zero all ts b = refl
  rest_of-stop (suc n) all ts b = ap (λ v. and_then (cond v (and_then (p ts) (λ x. many first p n >>= λ xs. pure (x ∷ xs))) (pure [] ts)) (λ more. pure (fold f all more))) b

  pub rest_of-end : (n i : ℕ) (all : B) (ts : List Token) → n ≤ i → rest_of f first p (n - i) all ts ≡ Ok (all, ts)
  unfolding rest_of
  rest_of-end n i all ts le = ap (λ m. rest_of f first p m all ts) (zeroed (n - i) (omega arith))
    where
      zeroed : (m : ℕ) → m ≤ 0 → m ≡ 0
      zeroed m le = omega arith

  -- what a loop keeps: the rest of the repetition, put to what was read, is the whole
  module _ (whole : Outcome B) where
    pub goes_on : (n i : ℕ) (all next : B) (x : A) (ts after : List Token) → i < n → begins first ts ≡ true → p ts ≡ Ok (x, after) → next ≡ f all x
        → rest_of f first p (n - i) all ts ≡ whole → rest_of f first p (n - (i + 1)) next after ≡ whole
    goes_on n i all next x ts after lt b e is so_far =
        ap (λ z. rest_of f first p (n - (i + 1)) z after) is ∙ sym (ap (λ o. and_then o (λ x. rest_of f first p (n - (i + 1)) (f all x))) e) ∙ sym (rest_of-more n i all ts lt b) ∙ so_far

    pub fails_here : (n i : ℕ) (all : B) (ts : List Token) (left : ℕ) → i < n → begins first ts ≡ true → p ts ≡ Err left → rest_of f first p (n - i) all ts ≡ whole → whole ≡ Err left
    fails_here n i all ts left lt b e so_far = sym so_far ∙ rest_of-more n i all ts lt b ∙ ap (λ o. and_then o (λ x. rest_of f first p (n - (i + 1)) (f all x))) e

    pub stops_here : (n : ℕ) (all : B) (ts : List Token) → begins first ts ≡ false → rest_of f first p n all ts ≡ whole → whole ≡ Ok (all, ts)
    stops_here n all ts b so_far = sym so_far ∙ rest_of-stop n all ts b

    pub ends_here : (n i : ℕ) (all : B) (ts : List Token) → n ≤ i → rest_of f first p (n - i) all ts ≡ whole → whole ≡ Ok (all, ts)
    ends_here n i all ts le so_far = sym so_far ∙ rest_of-end n i all ts le

pub rest_of-first : {A B : Type 0} (f : B → A → B) (first : Kinds) (q : Parser B) (p : Parser A) (n : ℕ) (ts : List Token) (x : B) (after : List Token) → q ts ≡ Ok (x, after)
    → rest_of f first p (n - 0) x after ≡ (q >>= λ x. many first p n >>= λ more. pure (fold f x more)) ts
unfolding rest_of
rest_of-first f first q p n ts x after e =
    ap (λ m. rest_of f first p m x after) (same n) ∙ sym (ap (λ o. and_then o (λ x. many first p n >>= λ more. pure (fold f x more))) e)
  where
    same : (n : ℕ) → n - 0 ≡ n
    same n = omega arith

pub errs_here : {A B : Type 0} (f : B → A → B) (first : Kinds) (p : Parser A) (whole : Parser B) (n i : ℕ) (all : B) (e : ReadError) (old new start after : Input) → i < n → begins first old.rest ≡ true → Gives p old (Err e) new
    → rest_of f first p (n - i) all old.rest ≡ whole start.rest → Gives whole start (Err e) after
errs_here f first p whole n i all Memory old new start after lt b g so_far = tt
errs_here f first p whole n i all (Syntax left) old new start after lt b g so_far = fails_here f first p (whole start.rest) n i all old.rest left lt b g so_far

-- two parsers that agree on the tokens
pub gives_as : {A : Type 0} (p q : Parser A) (old new : Input) (res : Result A ReadError) → p old.rest ≡ q old.rest → Gives p old res new → Gives q old res new
gives_as p q old new (Ok x) e g = (sym e ∙ g.0, g.1)
gives_as p q old new (Err Memory) e g = tt
gives_as p q old new (Err (Syntax left)) e g = sym e ∙ g
