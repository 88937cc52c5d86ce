-- A whole list is in the grammar, or leaves it at one place.
use Rattle.std.proofs.Common.{◌≡◌, ℕ, ◌+◌, ◌≤◌, Bool, false, List, [], ◌∷◌, ◌++◌, length, Result, Ok, Err, refl, sym, ap, subst, ◌∙◌, ◌⊎◌, inl, inr, append_assoc, length-append, arith}
use Rattle.std.proofs.lemmas.List.{append-nil}
use Rattle.iso_grammar.specs.declared.token.Token.{Token}
use Rattle.iso_grammar.specs.declared.tokens.ReadError.{ReadError}
use Rattle.iso_grammar.specs.declared.tokens.ReadError.TheVariants.{Memory, Syntax}
use Rattle.iso_grammar.specs.Kinds.{Kinds}
use Rattle.iso_grammar.specs.Grammar as g
use Rattle.iso_grammar.specs.Grammar.{Lang, SameHead, StopsAt, IsOrMemory}
use Rattle.iso_grammar.specs.Reading.{Parser, Outcome, and_then, begins, all_of, Gives, Input, end, pure}
use Rattle.iso_grammar.proofs.Lists.{same_refl, cut}
use Rattle.iso_grammar.proofs.Laws.{Reads, Takes, same_answer}

module _ {A : Type 0} {p : ℕ → Parser A} {L : Lang A} {first goes : Kinds} {null : Bool} (r : Reads p L first goes null) where
  nothing : begins goes [] ≡ false
  nothing = refl

  -- tokens are left behind a list of the grammar
  left_over : (ts : List Token) (x : A) (t : Token) (rest : List Token) → Takes p L ts x (t ∷ rest) → StopsAt L ts (length (t ∷ rest))
  left_over ts x t rest w = record {
    front = w.front;
    rest = t ∷ rest;
    split = w.split;
    count = refl;
    viable = ([], x, subst (λ (z : List Token). L z x) (sym (append-nil w.front)) w.spelled);
    dead = λ more y same l.
        let long : ℕ = length (w.front ++ more) in
        let one : p long (w.front ++ more) ≡ Ok (x, more) = w.again long more (omega arith) same in
        let whole : (w.front ++ more) ++ [] ≡ w.front ++ more = append-nil (w.front ++ more) in
        let two : p long ((w.front ++ more) ++ []) ≡ Ok (y, []) = r.complete long (w.front ++ more) [] y (subst (λ (z : List Token). length z ≤ long) (sym whole) (omega arith)) l nothing in
        let both = same_answer (p long (w.front ++ more)) x y more [] one (ap (p long) (sym whole) ∙ two) in
        no_cons t same.0 (sym same.1 ∙ both.1);
  }
    where
      no_cons : (t : Token) (a : List Token) → t ∷ a ≡ [] → ⊥
      no_cons t a e = cc

  result_of : Outcome A → Result A ReadError
  result_of (Ok q) = Ok q.0
  result_of (Err left) = Err (Syntax left)

  answers_by : (ts : List Token) (o : Outcome A) → p (length ts) ts ≡ o → (s : Outcome A) → and_then o (λ x ts. and_then (end ts) (λ _ rest. pure x rest)) ≡ s → g.Answers L ts (result_of s)
  unfolding result_of
  answers_by ts (Err left) e s es = subst (λ (o : Outcome A). g.Answers L ts (result_of o)) es ((r.answer (length ts)).err ts left (omega arith) e)
  answers_by ts (Ok q) e s es = go q.1 refl
    where
      w : Takes p L ts q.0 q.1
      w = (r.answer (length ts)).ok ts q.0 q.1 (omega arith) e

      go : (rest : List Token) → q.1 ≡ rest → g.Answers L ts (result_of s)
      go [] is = subst (λ (o : Outcome A). g.Answers L ts (result_of o)) (ap (λ (z : List Token). and_then (end z) (λ _ rest. pure q.0 rest)) (sym is) ∙ es) (subst (λ (z : List Token). L z q.0) (sym (w.split ∙ ap (λ (z : List Token). w.front ++ z) is ∙ append-nil w.front)) w.spelled)
      go (t ∷ rest) is = subst (λ (o : Outcome A). g.Answers L ts (result_of o)) (ap (λ (z : List Token). and_then (end z) (λ _ rest. pure q.0 rest)) (sym is) ∙ es) (left_over ts q.0 t rest (subst (λ (z : List Token). Takes p L ts q.0 z) is w))

  -- what the reader answers is right
  pub answers : (old new : Input) (res : Result A ReadError) → Gives (all_of p) old res new → g.Answers L old.rest res
  unfolding result_of
  answers old new (Ok x) e = answers_by old.rest (p (length old.rest) old.rest) refl (Ok (x, new.rest)) e.0
  answers old new (Err Memory) e = tt
  answers old new (Err (Syntax left)) e = answers_by old.rest (p (length old.rest) old.rest) refl (Err left) e

  -- a list has one meaning at most
  pub one_meaning : (ts : List Token) (x y : A) → L ts x → L ts y → x ≡ y
  one_meaning ts x y a b =
      let len : length (ts ++ []) ≤ length ts = subst (λ (z : List Token). length z ≤ length ts) (sym (append-nil ts)) (omega arith) in
      (same_answer (p (length ts) (ts ++ [])) x y [] [] (r.complete (length ts) ts [] x len a nothing) (r.complete (length ts) ts [] y len b nothing)).0

  pub not_both : (ts : List Token) (x : A) (left : ℕ) → L ts x → StopsAt L ts left → ⊥
  not_both ts x left l s = s.dead s.rest x (same_refl s.rest) (subst (λ (z : List Token). L z x) s.split l)

  no_sooner : (ts : List Token) (a b : ℕ) (s : StopsAt L ts a) (u : StopsAt L ts b) → ((c : List Token) × (s.front ≡ u.front ++ c) × (u.rest ≡ c ++ s.rest)) → u.front ≡ s.front
  no_sooner ts a b s u w = go w.0 w.1 w.2
    where
      go : (c : List Token) → s.front ≡ u.front ++ c → u.rest ≡ c ++ s.rest → u.front ≡ s.front
      go [] e f = sym (e ∙ append-nil u.front)
      go (t ∷ c) e f =
          let v = s.viable in
          absurd (u.dead ((t ∷ c) ++ v.0) v.1 (subst (λ (z : List Token). SameHead z ((t ∷ c) ++ v.0)) (sym f) (c ++ v.0, refl))
          (subst (λ (z : List Token). L z v.1) (ap (λ (z : List Token). z ++ v.0) e ∙ append_assoc u.front (t ∷ c) v.0) v.2))

  -- and leaves the grammar at one place at most
  pub one_place : (ts : List Token) (a b : ℕ) → StopsAt L ts a → StopsAt L ts b → a ≡ b
  one_place ts a b s u =
      let e : s.front ++ s.rest ≡ u.front ++ u.rest = sym s.split ∙ u.split in
      let fronts : s.front ≡ u.front = elim (cut u.front u.rest s.front s.rest (sym e)) [
        | inl c ↦ sym (no_sooner ts a b s u c)
        | inr d ↦ no_sooner ts b a u s (d.0 ∷ d.1, d.2, d.3)
      ] in
      let lens : length s.front + length s.rest ≡ length u.front + length u.rest = sym (length-append s.front s.rest) ∙ ap length e ∙ length-append u.front u.rest in
      omega (arith, ap length fronts, s.count, u.count)

  pub only : (ts : List Token) (x : A) (res : Result A ReadError) → L ts x → g.Answers L ts res → IsOrMemory res (Ok x)
  only ts x (Ok y) l a = inl (ap Ok (one_meaning ts y x a l))
  only ts x (Err Memory) l a = inr refl
  only ts x (Err (Syntax left)) l a = absurd (not_both ts x left l a)

  pub only_place : (ts : List Token) (left : ℕ) (res : Result A ReadError) → StopsAt L ts left → g.Answers L ts res → IsOrMemory res (Err (Syntax left))
  only_place ts left (Ok y) s a = absurd (not_both ts y left a s)
  only_place ts left (Err Memory) s a = inr refl
  only_place ts left (Err (Syntax other)) s a = inl (ap (λ n. Err (Syntax n)) (one_place ts other left a s))

  -- one of the two
  pub either_way : (ts : List Token) → ((x : A) × L ts x) ⊎ ((left : ℕ) × StopsAt L ts left)
  unfolding result_of
  either_way ts = go (and_then (p (length ts) ts) (λ x ts. and_then (end ts) (λ _ rest. pure x rest))) refl
    where
      go : (s : Outcome A) → and_then (p (length ts) ts) (λ x ts. and_then (end ts) (λ _ rest. pure x rest)) ≡ s → ((x : A) × L ts x) ⊎ ((left : ℕ) × StopsAt L ts left)
      go (Ok q) e = inl (q.0, answers_by ts (p (length ts) ts) refl (Ok q) e)
      go (Err left) e = inr (left, answers_by ts (p (length ts) ts) refl (Err left) e)
