-- Conditions in parentheses.
use Rattle.std.proofs.Common.{◌≡◌, ℕ, zero, suc, ◌+◌, ◌≤◌, false, List, [], ◌∷◌, ◌++◌, None, refl, sym, subst, inr, arith}
use Rattle.std.specs.Prelude.{fold}
use Rattle.std.proofs.lemmas.List.{append-nil}
use Rattle.iso_grammar.specs.declared.token.Kind.TheVariants as k
use Rattle.iso_grammar.specs.declared.token.Token.{Token}
use Rattle.iso_sql.specs.Names.{Names}
use Rattle.iso_grammar.specs.Kinds.{Kinds}
use Rattle.iso_sql.specs.declared.found.Found.{Found}
use Rattle.iso_sql.specs.Actions.{negated, both, any, nested}
use Rattle.iso_grammar.specs.Grammar as g
use Rattle.iso_grammar.specs.Grammar.{Lang}
use Rattle.iso_grammar.specs.Reading as r
use Rattle.iso_grammar.specs.Reading.{Parser}
use Rattle.iso_sql.specs.Conditions as gc
use Rattle.iso_sql.specs.ConditionReading.{negation, conjunction, disjunction, paren_at, condition}
use Rattle.iso_grammar.proofs.Laws.{Begins, Completes, Answers, Reads}
use Rattle.iso_grammar.proofs.Rules.{word, done, Half, Ready, half, ready, half_then, half_else, half_repeated, ready_then, ready_else, ready_repeated, completes_as, answers_as}
use Rattle.iso_grammar.proofs.Union.{Within, bind-within, alt-within, many-within, Grows, same-grows, bind-grows, alt-grows, many-grows}
use Rattle.iso_grammar.proofs.After.{after, after-heads, after-complete, after-ok, after-err, not_empty}
use Rattle.iso_sql.proofs.ConditionLaws.{maybe_not-reads, comparison-reads}

module _ (scope : Names) where
  -- ---- the levels above parentheses

  abbrev pub begin_negation : Kinds
  begin_negation = k.Not ∷ k.Open ∷ k.Name ∷ []

  negation-half : (P : ℕ → Parser Found) (L : Lang Found) (n : ℕ) → Half P L (k.Open ∷ []) [] false n → Half (λ n. negation scope (P n)) (gc.negation scope L) begin_negation [] false n
  unfolding negation
  negation-half P L n h = half_then (half maybe_not-reads n) (λ w. half_then (half_else h (half (comparison-reads scope) n) refl) (λ x. half (done (negated w x)) n) refl) refl

  conjunction-half : (P : ℕ → Parser Found) (L : Lang Found) (n : ℕ) → Half P L (k.Open ∷ []) [] false n → Half (λ n. conjunction scope (P n) n) (gc.conjunction scope L) begin_negation (k.And ∷ []) false n
  unfolding conjunction
  conjunction-half P L n h =
      half_then (negation-half P L n h) (λ first. half_then (half_repeated (half_then (half (word k.And) n) (λ _. negation-half P L n h) refl) refl) (λ more. half (done (fold both first more)) n) refl) refl

  disjunction-half : (P : ℕ → Parser Found) (L : Lang Found) (n : ℕ) → Half P L (k.Open ∷ []) [] false n → Half (λ n. disjunction scope (P n) n) (gc.disjunction scope L) begin_negation (k.Or ∷ k.And ∷ k.And ∷ []) false n
  unfolding disjunction
  disjunction-half P L n h =
      half_then (conjunction-half P L n h) (λ first. half_then (half_repeated (half_then (half (word k.Or) n) (λ _. conjunction-half P L n h) refl) refl) (λ more. half (done (fold any first more)) n) refl) refl

  negation-ready : (P : ℕ → Parser Found) (L : Lang Found) (n : ℕ) → Ready P L (k.Open ∷ []) [] false n → Ready (λ n. negation scope (P n)) (gc.negation scope L) begin_negation [] false n
  unfolding negation
  negation-ready P L n h = ready_then (ready maybe_not-reads n) (λ w. ready_then (ready_else h (ready (comparison-reads scope) n) refl) (λ x. ready (done (negated w x)) n) refl) refl

  conjunction-ready : (P : ℕ → Parser Found) (L : Lang Found) (n : ℕ) → Ready P L (k.Open ∷ []) [] false n → Ready (λ n. conjunction scope (P n) n) (gc.conjunction scope L) begin_negation (k.And ∷ []) false n
  unfolding conjunction
  conjunction-ready P L n h =
      ready_then (negation-ready P L n h) (λ first. ready_then (ready_repeated (ready_then (ready (word k.And) n) (λ _. negation-ready P L n h) refl) refl) (λ more. ready (done (fold both first more)) n) refl) refl

  disjunction-ready : (P : ℕ → Parser Found) (L : Lang Found) (n : ℕ) → Ready P L (k.Open ∷ []) [] false n → Ready (λ n. disjunction scope (P n) n) (gc.disjunction scope L) begin_negation (k.Or ∷ k.And ∷ k.And ∷ []) false n
  unfolding disjunction
  disjunction-ready P L n h =
      ready_then (conjunction-ready P L n h) (λ first. ready_then (ready_repeated (ready_then (ready (word k.Or) n) (λ _. conjunction-ready P L n h) refl) refl) (λ more. ready (done (fold any first more)) n) refl) refl

  -- ---- with more in parentheses, more

  negation-within : (P Q : Lang Found) → Within P Q → Within (gc.negation scope P) (gc.negation scope Q)
  negation-within P Q w = bind-within (λ ts x l. l) (λ nw. bind-within (alt-within w (λ ts x l. l)) (λ x ts y l. l))

  disjunction-within : (P Q : Lang Found) → Within P Q → Within (gc.disjunction scope P) (gc.disjunction scope Q)
  disjunction-within P Q w = bind-within (con P Q w) (λ first. bind-within (many-within (bind-within (λ ts x l. l) (λ _. con P Q w))) (λ more ts y l. l))
    where
      con : (P Q : Lang Found) → Within P Q → Within (gc.conjunction scope P) (gc.conjunction scope Q)
      con P Q w = bind-within (negation-within P Q w) (λ first. bind-within (many-within (bind-within (λ ts x l. l) (λ _. negation-within P Q w))) (λ more ts y l. l))

  paren-up : (n m depth : ℕ) → n ≤ m → Within (gc.paren_below scope n depth) (gc.paren_below scope m depth)
  paren-up zero m depth le = λ ts x w. absurd w
  paren-up (suc n) zero depth le = absurd (omega (arith, le))
  paren-up (suc n) (suc m) depth le =
      bind-within (λ ts x l. l) (λ t. bind-within (disjunction-within (gc.paren_below scope n (depth + 1)) (gc.paren_below scope m (depth + 1)) (paren-up n m (depth + 1) (omega (arith, le)))) (λ x ts y l. l))

  paren-grows : (depth : ℕ) → Grows (gc.paren scope depth) (λ n. gc.paren_below scope n depth)
  paren-grows depth = record { up = λ n m le. paren-up n m depth le; into = λ ts x w. w }

  negation-grows : (depth : ℕ) → Grows (gc.negation scope (gc.paren scope depth)) (λ n. gc.negation scope (gc.paren_below scope n depth))
  negation-grows depth = bind-grows (same-grows (g.optional (g.token k.Not))) (λ nw. bind-grows (alt-grows (paren-grows depth) (same-grows (gc.comparison scope))) (λ x. same-grows (g.pure (negated nw x))))

  conjunction-grows : (depth : ℕ) → Grows (gc.conjunction scope (gc.paren scope depth)) (λ n. gc.conjunction scope (gc.paren_below scope n depth))
  conjunction-grows depth = bind-grows (negation-grows depth) (λ first. bind-grows (many-grows (bind-grows (same-grows (g.token k.And)) (λ _. negation-grows depth))) (λ more. same-grows (g.pure (fold both first more))))

  disjunction-grows : (depth : ℕ) → Grows (gc.disjunction scope (gc.paren scope depth)) (λ n. gc.disjunction scope (gc.paren_below scope n depth))
  disjunction-grows depth = bind-grows (conjunction-grows depth) (λ first. bind-grows (many-grows (bind-grows (same-grows (g.token k.Or)) (λ _. conjunction-grows depth))) (λ more. same-grows (g.pure (fold any first more))))

  -- ---- a parenthesis holds a condition

  abbrev inside : ℕ → Token → Lang Found
  inside depth t = g.◌>>=◌ (gc.disjunction scope (gc.paren scope (depth + 1))) (λ x. g.◌>>=◌ (g.token k.Close) (λ _. g.pure (nested depth t x)))

  abbrev opened : ℕ → Lang Found
  opened depth = g.◌>>=◌ (g.token k.Open) (inside depth)

  opened-paren : (depth : ℕ) → Within (opened depth) (gc.paren scope depth)
  opened-paren depth ts x w =
      let all = (bind-grows (disjunction-grows (depth + 1)) (λ y. same-grows (g.◌>>=◌ (g.token k.Close) (λ _. g.pure (nested depth w.0 y))))).into w.2 x w.5 in
      (suc all.0, (w.0, w.1, w.2, w.3, w.4, all.1))

  paren-opened : (depth : ℕ) → Within (gc.paren scope depth) (opened depth)
  paren-opened depth ts x w = go w.0 ts x w.1
    where
      go : (n : ℕ) → Within (gc.paren_below scope n depth) (opened depth)
      go zero = λ ts x w. absurd w
      go (suc n) = bind-within (λ ts x l. l) (λ t. bind-within (disjunction-within (gc.paren_below scope n (depth + 1)) (gc.paren scope (depth + 1)) (λ ts x w. (n, w))) (λ x ts y l. l))

  -- ---- a condition with no more than one comparison, as an example

  negation-some : (L : Lang Found) → (ts : List Token) × (x : Found) × gc.negation scope L ts x
  negation-some L =
      let s = (comparison-reads scope).begin.some in
      (s.0, negated None s.1, (None, [], s.0, refl, inr (refl, refl), (s.1, s.0, [], sym (append-nil s.0), inr s.2, (refl, refl))))

  conjunction-some : (L : Lang Found) → (ts : List Token) × (x : Found) × gc.conjunction scope L ts x
  conjunction-some L =
      let s = negation-some L in
      (s.0, fold both s.1 [], (s.1, s.0, [], sym (append-nil s.0), s.2, ([], [], [], refl, refl, (refl, refl))))

  disjunction-some : (L : Lang Found) → (ts : List Token) × (x : Found) × gc.disjunction scope L ts x
  disjunction-some L =
      let s = conjunction-some L in
      (s.0, fold any s.1 [], (s.1, s.0, [], sym (append-nil s.0), s.2, ([], [], [], refl, refl, (refl, refl))))

  inside-some : (depth : ℕ) (t : Token) → (ts : List Token) × (x : Found) × inside depth t ts x
  inside-some depth t =
      let s = disjunction-some (gc.paren scope (depth + 1)) in
      let e = (word k.Close).begin.some in
      (s.0 ++ e.0, nested depth t s.1, (s.1, s.0, e.0, refl, s.2, (e.1, e.0, [], sym (append-nil e.0), e.2, (refl, refl))))

  opened-some : (depth : ℕ) → (ts : List Token) × (x : Found) × opened depth ts x
  opened-some depth =
      let o = (word k.Open).begin.some in
      let s = inside-some depth o.1 in
      (o.0 ++ s.0, s.1, (o.1, o.0, s.0, refl, o.2, s.2))

  -- ---- the knot

  abbrev inner : ℕ → Token → ℕ → Parser Found
  inner depth t n = r.◌>>=◌ (disjunction scope (paren_at scope (depth + 1) n) n) (λ x. r.◌>>=◌ (r.expect k.Close) (λ _. r.pure (nested depth t x)))

  paren-same : (depth n : ℕ) → paren_at scope depth n ≡ after k.Open (inner depth) n
  paren-same depth zero = refl
  paren-same depth (suc n) = refl

  paren-begin : (depth : ℕ) → Begins (gc.paren scope depth) (k.Open ∷ []) false
  paren-begin depth = record {
    heads = λ t ts x w. after-heads k.Open (inner depth) (inside depth) t ts x (paren-opened depth (t ∷ ts) x w);
    empty = λ x w. absurd (not_empty k.Open (inner depth) (inside depth) x [] (paren-opened depth [] x w) refl);
    some = let s = opened-some depth in (s.0, s.1, opened-paren depth s.0 s.1 s.2);
  }

  inner-half : (depth n : ℕ) (t : Token) → Half (paren_at scope (depth + 1)) (gc.paren scope (depth + 1)) (k.Open ∷ []) [] false n → Half (inner depth t) (inside depth t) begin_negation [] false n
  inner-half depth n t h = half_then (disjunction-half (paren_at scope (depth + 1)) (gc.paren scope (depth + 1)) n h) (λ x. half_then (half (word k.Close) n) (λ _. half (done (nested depth t x)) n) refl) refl

  paren-half : (n depth : ℕ) → Half (paren_at scope depth) (gc.paren scope depth) (k.Open ∷ []) [] false n
  paren-half zero depth = record {
    begin = paren-begin depth;
    complete = completes_as (after k.Open (inner depth)) (paren_at scope depth) (opened depth) (gc.paren scope depth) [] zero (paren-same depth) (paren-opened depth)
        (after-complete k.Open (inner depth) (inside depth) [] zero (λ t j e. absurd cc));
  }
  paren-half (suc n) depth =
      let h = paren-half n (depth + 1) in
      record {
        begin = paren-begin depth;
        complete = completes_as (after k.Open (inner depth)) (paren_at scope depth) (opened depth) (gc.paren scope depth) [] (suc n) (paren-same depth) (paren-opened depth)
            (after-complete k.Open (inner depth) (inside depth) [] (suc n) (λ t j e. let same : n ≡ j = cc in subst (Completes (inner depth t) (inside depth t) []) same (inner-half depth n t h).complete));
      }

  inner-ready : (depth n : ℕ) (t : Token) → Ready (paren_at scope (depth + 1)) (gc.paren scope (depth + 1)) (k.Open ∷ []) [] false n → Ready (inner depth t) (inside depth t) begin_negation [] false n
  inner-ready depth n t h = ready_then (disjunction-ready (paren_at scope (depth + 1)) (gc.paren scope (depth + 1)) n h) (λ x. ready_then (ready (word k.Close) n) (λ _. ready (done (nested depth t x)) n) refl) refl

  answers-after : (depth n : ℕ) → ((t : Token) (j : ℕ) → n ≡ suc j → Answers (inner depth t) (inside depth t) j) → Answers (paren_at scope depth) (gc.paren scope depth) n
  answers-after depth n given = answers_as (after k.Open (inner depth)) (paren_at scope depth) (opened depth) (gc.paren scope depth) n (paren-same depth) (paren-opened depth) (opened-paren depth) (record {
    ok = after-ok k.Open (inner depth) (inside depth) n given;
    err = after-err k.Open (inner depth) (inside depth) (opened-some depth) (inside-some depth) n given;
  })

  paren-ready : (n depth : ℕ) → Ready (paren_at scope depth) (gc.paren scope depth) (k.Open ∷ []) [] false n
  paren-ready zero depth = record { begin = paren-begin depth; complete = λ j. (paren-half j depth).complete; answer = answers-after depth zero (λ t j e. absurd cc) }
  paren-ready (suc n) depth =
      let h = paren-ready n (depth + 1) in
      record {
        begin = paren-begin depth;
        complete = λ j. (paren-half j depth).complete;
        answer = answers-after depth (suc n) (λ t j e. let same : n ≡ j = cc in subst (Answers (inner depth t) (inside depth t)) same (inner-ready depth n t h).answer);
      }

  pub negation-reads : (depth : ℕ) → Reads (λ n. negation scope (paren_at scope depth n)) (gc.negation scope (gc.paren scope depth)) begin_negation [] false
  negation-reads depth = record {
    begin = (negation-half (paren_at scope depth) (gc.paren scope depth) 0 (paren-half 0 depth)).begin;
    complete = λ n. (negation-half (paren_at scope depth) (gc.paren scope depth) n (paren-half n depth)).complete;
    answer = λ n. (negation-ready (paren_at scope depth) (gc.paren scope depth) n (paren-ready n depth)).answer;
  }

  pub conjunction-reads : (depth : ℕ) → Reads (λ n. conjunction scope (paren_at scope depth n) n) (gc.conjunction scope (gc.paren scope depth)) begin_negation (k.And ∷ []) false
  conjunction-reads depth = record {
    begin = (conjunction-half (paren_at scope depth) (gc.paren scope depth) 0 (paren-half 0 depth)).begin;
    complete = λ n. (conjunction-half (paren_at scope depth) (gc.paren scope depth) n (paren-half n depth)).complete;
    answer = λ n. (conjunction-ready (paren_at scope depth) (gc.paren scope depth) n (paren-ready n depth)).answer;
  }

  pub disjunction-reads : (depth : ℕ) → Reads (λ n. disjunction scope (paren_at scope depth n) n) (gc.disjunction scope (gc.paren scope depth)) begin_negation (k.Or ∷ k.And ∷ k.And ∷ []) false
  disjunction-reads depth = record {
    begin = (disjunction-half (paren_at scope depth) (gc.paren scope depth) 0 (paren-half 0 depth)).begin;
    complete = λ n. (disjunction-half (paren_at scope depth) (gc.paren scope depth) n (paren-half n depth)).complete;
    answer = λ n. (disjunction-ready (paren_at scope depth) (gc.paren scope depth) n (paren-ready n depth)).answer;
  }

  pub condition-reads : Reads (condition scope) (gc.condition scope) begin_negation (k.Or ∷ k.And ∷ k.And ∷ []) false
  unfolding condition
  condition-reads = disjunction-reads 0
