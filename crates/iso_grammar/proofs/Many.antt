-- A repetition.
use Rattle.std.proofs.Common.{◌≡◌, ℕ, zero, suc, ◌+◌, ◌≤◌, true, false, cond, List, [], ◌∷◌, ◌++◌, length, Ok, Err, refl, sym, ap, subst, ◌∙◌, inl, inr, append_assoc, length-append, arith}
use Rattle.std.proofs.lemmas.List.{append-nil}
use Rattle.iso_grammar.specs.declared.token.Token.{Token}
use Rattle.iso_grammar.specs.Kinds.{Kinds, has, apart}
use Rattle.iso_grammar.specs.Grammar as g
use Rattle.iso_grammar.specs.Grammar.{Lang, SameHead, StopsAt as Fails}
use Rattle.iso_grammar.specs.Reading as r
use Rattle.iso_grammar.specs.Reading.{Parser, Outcome, and_then, begins}
use Rattle.iso_grammar.proofs.KindLemmas.{apart_then}
use Rattle.iso_grammar.proofs.Lists.{same_under, begins_same, cut, same_start}
use Rattle.iso_grammar.proofs.Laws.{Begins, Completes, Takes, Answers, Reads, begins-append, ok_pair, ok_or_err, then_ok, then_err, same_answer}
use Rattle.iso_grammar.proofs.Choices.{both_ways, no_nil, decide, begins_so}

abbrev pub repeat : {A : Type 0} → Kinds → (ℕ → Parser A) → ℕ → Parser (List A)
repeat first p n = r.many first (p n) n

abbrev pub one_more : {A : Type 0} → Kinds → Parser A → ℕ → A → Parser (List A)
one_more first q m x rest = and_then (r.many first q m rest) (λ xs. r.pure (x ∷ xs))

pub turn_took : {A : Type 0} (first : Kinds) (q : Parser A) (m : ℕ) (ts : List Token) → begins first ts ≡ true → r.many first q (suc m) ts ≡ and_then (q ts) (one_more first q m)
turn_took first q m ts e = ap (λ b. cond b (and_then (q ts) (λ x rest. and_then (r.many first q m rest) (λ xs. r.pure (x ∷ xs)))) (r.pure [] ts)) e

pub turn_passed : {A : Type 0} (first : Kinds) (q : Parser A) (m : ℕ) (ts : List Token) → begins first ts ≡ false → r.many first q m ts ≡ r.pure [] ts
turn_passed first q zero ts e = refl
turn_passed first q (suc m) ts e = ap (λ b. cond b (and_then (q ts) (λ x rest. and_then (r.many first q m rest) (λ xs. r.pure (x ∷ xs)))) (r.pure [] ts)) e

module _ {A : Type 0} (p : ℕ → Parser A) (L : Lang A) (f1 g1 : Kinds) (disjoint : apart g1 f1 ≡ true) (bl : Begins L f1 false) where
  abbrev list : Lang (List A)
  list = g.many L

  list_heads : (ts : List Token) (xs : List A) → list ts xs → (t : Token) (more : List Token) → ts ≡ t ∷ more → has f1 t.kind ≡ true
  list_heads ts [] w t more e = absurd (no_nil t more (sym e ∙ w))
  list_heads ts (x ∷ xs) w t more e = subst (λ (z : List Token). begins f1 z ≡ true) (sym w.2 ∙ e) (begins_so L f1 bl w.0 w.1 x w.3)

  pub many-begin : Begins list f1 true
  many-begin = record { heads = λ t ts xs w. list_heads (t ∷ ts) xs w t ts refl; empty = λ xs w. refl; some = ([], [], refl) }

  -- what goes on with an item does not begin the items behind it
  item_stops : (back rest : List Token) (xs : List A) → list back xs → begins (f1 ++ g1) rest ≡ false → begins g1 (back ++ rest) ≡ false
  item_stops [] rest xs w stops = (begins-append f1 g1 rest stops).1
  item_stops (t ∷ back) rest xs w stops = apart_then g1 f1 t.kind disjoint (list_heads (t ∷ back) xs w t back refl)

  one_at_least : (front : List Token) (x : A) → L front x → 1 ≤ length front
  one_at_least [] x l = absurd (both_ways false (bl.empty x l) refl)
  one_at_least (t ∷ front) x l = omega arith

  turns-complete : (n : ℕ) → Completes p L g1 n → (xs : List A) (m : ℕ) (ts rest : List Token) → length (ts ++ rest) ≤ n → length (ts ++ rest) ≤ m → list ts xs → begins (f1 ++ g1) rest ≡ false → r.many f1 (p n) m (ts ++ rest) ≡ Ok (xs, rest)
  turns-complete n cp [] m ts rest le lem w stops =
      let whole : ts ++ rest ≡ rest = ap (λ (z : List Token). z ++ rest) w in
      turn_passed f1 (p n) m (ts ++ rest) (ap (begins f1) whole ∙ (begins-append f1 g1 rest stops).0) ∙ ap (r.pure []) whole
  turns-complete n cp (x ∷ xs) zero ts rest le lem w stops = absurd (omega (arith, one_at_least w.0 x w.3, ap length w.2, length-append w.0 w.1, length-append ts rest))
  turns-complete n cp (x ∷ xs) (suc m) ts rest le lem w stops =
      let front = w.0 in let back = w.1 in
      let whole : ts ++ rest ≡ front ++ (back ++ rest) = ap (λ (z : List Token). z ++ rest) w.2 ∙ append_assoc front back rest in
      let len : length (ts ++ rest) ≡ length front + length (back ++ rest) = ap length whole ∙ length-append front (back ++ rest) in
      let pos = one_at_least front x w.3 in
      let began : begins f1 (ts ++ rest) ≡ true = ap (begins f1) whole ∙ begins_so L f1 bl front (back ++ rest) x w.3 in
      let one : p n (ts ++ rest) ≡ Ok (x, back ++ rest) = ap (p n) whole ∙ cp front (back ++ rest) x (subst (λ (z : List Token). length z ≤ n) whole le) w.3 (item_stops back rest xs w.4 stops) in
      let others : r.many f1 (p n) m (back ++ rest) ≡ Ok (xs, rest) = turns-complete n cp xs m back rest (omega arith) (omega arith) w.4 stops in
      turn_took f1 (p n) m (ts ++ rest) began ∙ ap (λ o. and_then o (one_more f1 (p n) m)) one ∙ ap (λ o. and_then o (λ ys. r.pure (x ∷ ys))) others

  pub many-complete : (n : ℕ) → Completes p L g1 n → Completes (repeat f1 p) list (f1 ++ g1) n
  many-complete n cp ts rest xs le w stops = turns-complete n cp xs n ts rest le le w stops

  record Took (n : ℕ) (ts : List Token) (xs : List A) (rest : List Token) : Type 0 where
    front : List Token
    split : ts ≡ front ++ rest
    spelled : list front xs
    again : (k j : ℕ) (more : List Token) → length (front ++ more) ≤ k → length (front ++ more) ≤ j → SameHead rest more → r.many f1 (p k) j (front ++ more) ≡ Ok (xs, more)

  stopped : (n : ℕ) (ts : List Token) (xs : List A) (rest : List Token) → begins f1 ts ≡ false → r.pure [] ts ≡ r.pure xs rest → Took n ts xs rest
  stopped n ts xs rest b e =
      let d = ok_pair [] xs ts rest e in
      record {
        front = [];
        split = d.1;
        spelled = subst (λ ys. list [] ys) d.0 refl;
        again = λ k j more le lej same. turn_passed f1 (p k) j more (sym (begins_same f1 rest more same) ∙ ap (begins f1) (sym d.1) ∙ b) ∙ ap (λ ys. r.pure ys more) d.0;
      }

  turns-ok : (n : ℕ) → Answers p L n → (m : ℕ) (ts : List Token) (xs : List A) (rest : List Token) → length ts ≤ n → length ts ≤ m → r.many f1 (p n) m ts ≡ Ok (xs, rest) → Took n ts xs rest
  turns-ok n ap' zero [] xs rest le lem e = stopped n [] xs rest refl e
  turns-ok n ap' zero (t ∷ ts) xs rest le lem e = absurd (omega (arith, lem))
  turns-ok n ap' (suc m) ts xs rest le lem e = elim (decide (begins f1 ts)) [
    | inr b ↦ stopped n ts xs rest b (sym (turn_passed f1 (p n) (suc m) ts b) ∙ e)
    | inl b ↦
        let a = then_ok (p n ts) (one_more f1 (p n) m) (xs, rest) (sym (turn_took f1 (p n) m ts b) ∙ e) in
        let c = then_ok (r.many f1 (p n) m a.1) (λ ys. r.pure (a.0 ∷ ys)) (xs, rest) a.3 in
        let one = ap'.ok ts a.0 a.1 le a.2 in
        let len : length ts ≡ length one.front + length a.1 = ap length one.split ∙ length-append one.front a.1 in
        let pos = one_at_least one.front a.0 one.spelled in
        let two = turns-ok n ap' m a.1 c.0 c.1 (omega arith) (omega arith) c.2 in
        let d = ok_pair (a.0 ∷ c.0) xs c.1 rest c.3 in
        let regroup : (more : List Token) → (one.front ++ two.front) ++ more ≡ one.front ++ (two.front ++ more) = λ more. append_assoc one.front two.front more in
        record {
          front = one.front ++ two.front;
          split = one.split ∙ ap (λ (z : List Token). one.front ++ z) (two.split ∙ ap (λ (z : List Token). two.front ++ z) d.1) ∙ sym (append_assoc one.front two.front rest);
          spelled = subst (λ ys. list (one.front ++ two.front) ys) d.0 (one.front, two.front, refl, one.spelled, two.spelled);
          again = λ k j more lek lej same. again_here k j a.0 c.0 xs one.front two.front a.1 c.1 rest more pos one.spelled d two.split lek lej same one.again two.again;
        }
  ]
    where
      again_here : (k j : ℕ) (x : A) (ys xs : List A) (f f2 r1 r2 rest more : List Token) → 1 ≤ length f → L f x → (x ∷ ys ≡ xs) × (r2 ≡ rest) → r1 ≡ f2 ++ r2
          → length ((f ++ f2) ++ more) ≤ k → length ((f ++ f2) ++ more) ≤ j → SameHead rest more
          → ((k : ℕ) (more : List Token) → length (f ++ more) ≤ k → SameHead r1 more → p k (f ++ more) ≡ Ok (x, more))
          → ((k j : ℕ) (more : List Token) → length (f2 ++ more) ≤ k → length (f2 ++ more) ≤ j → SameHead r2 more → r.many f1 (p k) j (f2 ++ more) ≡ Ok (ys, more))
          → r.many f1 (p k) j ((f ++ f2) ++ more) ≡ Ok (xs, more)
      again_here k zero x ys xs f f2 r1 r2 rest more pos l d s2 lek lej same one two = absurd (omega (arith, length-append (f ++ f2) more, length-append f f2))
      again_here k (suc j) x ys xs f f2 r1 r2 rest more pos l d s2 lek lej same one two =
          let whole : (f ++ f2) ++ more ≡ f ++ (f2 ++ more) = append_assoc f f2 more in
          let len : length ((f ++ f2) ++ more) ≡ length f + length (f2 ++ more) = ap length whole ∙ length-append f (f2 ++ more) in
          let same2 : SameHead r2 more = subst (λ (z : List Token). SameHead z more) (sym d.1) same in
          let same1 : SameHead r1 (f2 ++ more) = subst (λ (z : List Token). SameHead z (f2 ++ more)) (sym s2) (same_under f2 r2 more same2) in
          let began : begins f1 ((f ++ f2) ++ more) ≡ true = ap (begins f1) whole ∙ begins_so L f1 bl f (f2 ++ more) x l in
          let first : p k ((f ++ f2) ++ more) ≡ Ok (x, f2 ++ more) = ap (p k) whole ∙ one k (f2 ++ more) (subst (λ (z : List Token). length z ≤ k) whole lek) same1 in
          let others : r.many f1 (p k) j (f2 ++ more) ≡ Ok (ys, more) = two k j more (omega arith) (omega arith) same2 in
          turn_took f1 (p k) j ((f ++ f2) ++ more) began ∙ ap (λ o. and_then o (one_more f1 (p k) j)) first ∙ ap (λ o. and_then o (λ zs. r.pure (x ∷ zs))) others ∙ ap (λ zs. r.pure zs more) d.0

  item_starts : (back : List Token) (xs : List A) → list back xs → begins g1 back ≡ false
  item_starts [] xs w = refl
  item_starts (t ∷ back) xs w = apart_then g1 f1 t.kind disjoint (list_heads (t ∷ back) xs w t back refl)

  -- no list has the fault's token where an item failed
  first_dead : (n : ℕ) → Completes p L g1 n → (ts : List Token) (left : ℕ) → length ts ≤ n → p n ts ≡ Err left → begins f1 ts ≡ true → (f : Fails L ts left)
      → (xs : List A) (more : List Token) → SameHead f.rest more → list (f.front ++ more) xs → ⊥
  first_dead n cp ts left le failed b f [] more same w =
      both_ways (begins f1 (f.front ++ more)) (sym (begins_same f1 (f.front ++ f.rest) (f.front ++ more) (same_under f.front f.rest more same)) ∙ ap (begins f1) (sym f.split) ∙ b) (ap (begins f1) w)
  first_dead n cp ts left le failed b f (x ∷ xs) more same w = elim (cut w.0 w.1 f.front more (sym w.2)) [
    | inl c ↦
        let stops : begins g1 (c.0 ++ f.rest) ≡ false = begins_same g1 (c.0 ++ f.rest) (c.0 ++ more) (same_under c.0 f.rest more same) ∙ ap (begins g1) (sym c.2) ∙ item_starts w.1 xs w.4 in
        let whole : ts ≡ w.0 ++ (c.0 ++ f.rest) = f.split ∙ ap (λ (z : List Token). z ++ f.rest) c.1 ∙ append_assoc w.0 c.0 f.rest in
        ok_or_err (p n ts) (x, c.0 ++ f.rest) left (ap (p n) whole ∙ cp w.0 (c.0 ++ f.rest) x (subst (λ (z : List Token). length z ≤ n) whole le) w.3 stops) failed
    | inr d ↦ f.dead (d.0 ∷ d.1) x (same_start f.rest more d.1 (d.1 ++ w.1) d.0 same d.3) (subst (λ (z : List Token). L z x) d.2 w.3)
  ]

  later_dead : ((k : ℕ) → Completes p L g1 k) → (ts : List Token) (x : A) (after : List Token) (one : Takes p L ts x after) (left : ℕ) (f : Fails list after left)
      → (xs : List A) (more : List Token) → SameHead f.rest more → list ((one.front ++ f.front) ++ more) xs → ⊥
  later_dead cp ts x after one left f [] more same w = absurd (omega (arith, ap length w, length-append (one.front ++ f.front) more, length-append one.front f.front, one_at_least one.front x one.spelled))
  later_dead cp ts x after one left f (y ∷ xs) more same w =
      let long : ℕ = length (one.front ++ (f.front ++ more)) in
      let same2 : SameHead after (f.front ++ more) = subst (λ (z : List Token). SameHead z (f.front ++ more)) (sym f.split) (same_under f.front f.rest more same) in
      let first : p long (one.front ++ (f.front ++ more)) ≡ Ok (x, f.front ++ more) = one.again long (f.front ++ more) (omega arith) same2 in
      let whole : one.front ++ (f.front ++ more) ≡ w.0 ++ w.1 = sym (append_assoc one.front f.front more) ∙ w.2 in
      let second : p long (w.0 ++ w.1) ≡ Ok (y, w.1) = cp long w.0 w.1 y (subst (λ (z : List Token). length z ≤ long) whole (omega arith)) w.3 (item_starts w.1 xs w.4) in
      let both = same_answer (p long (one.front ++ (f.front ++ more))) x y (f.front ++ more) w.1 first (ap (p long) whole ∙ second) in
      f.dead more xs same (subst (λ (z : List Token). list z xs) (sym both.1) w.4)

  turns-err : ((k : ℕ) → Completes p L g1 k) → (n : ℕ) → Answers p L n → (m : ℕ) (ts : List Token) (left : ℕ) → length ts ≤ n → length ts ≤ m → r.many f1 (p n) m ts ≡ Err left → Fails list ts left
  turns-err cp n ap' zero ts left le lem e = absurd cc
  turns-err cp n ap' (suc m) ts left le lem e = elim (decide (begins f1 ts)) [
    | inr b ↦ absurd (ok_or_err (r.many f1 (p n) (suc m) ts) ([], ts) left (turn_passed f1 (p n) (suc m) ts b) e)
    | inl b ↦ elim (then_err (p n ts) (one_more f1 (p n) m) left (sym (turn_took f1 (p n) m ts b) ∙ e)) [
      | inl failed ↦
          let f = ap'.err ts left le failed in
          record {
            front = f.front;
            rest = f.rest;
            split = f.split;
            count = f.count;
            viable = let v = f.viable in (v.0, v.1 ∷ [], (f.front ++ v.0, [], sym (append-nil (f.front ++ v.0)), v.2, refl));
            dead = λ more xs same w. first_dead n (cp n) ts left le failed b f xs more same w;
          }
      | inr a ↦
          let one = ap'.ok ts a.0 a.1 le a.2 in
          let len : length ts ≡ length one.front + length a.1 = ap length one.split ∙ length-append one.front a.1 in
          let pos = one_at_least one.front a.0 one.spelled in
          let f = turns-err cp n ap' m a.1 left (omega arith) (omega arith) (inner (r.many f1 (p n) m a.1) a.0 left a.3) in
          record {
            front = one.front ++ f.front;
            rest = f.rest;
            split = one.split ∙ ap (λ (z : List Token). one.front ++ z) f.split ∙ sym (append_assoc one.front f.front f.rest);
            count = f.count;
            viable = let v = f.viable in (v.0, a.0 ∷ v.1, (one.front, f.front ++ v.0, append_assoc one.front f.front v.0, one.spelled, v.2));
            dead = λ more xs same w. later_dead cp ts a.0 a.1 one left f xs more same w;
          }
    ]
  ]
    where
      inner : (o : Outcome (List A)) (x : A) (left : ℕ) → and_then o (λ zs. r.pure (x ∷ zs)) ≡ Err left → o ≡ Err left
      inner (Ok zs) x left e = absurd cc
      inner (Err d) x left e = cc

  pub many-answer : ((k : ℕ) → Completes p L g1 k) → (n : ℕ) → Answers p L n → Answers (repeat f1 p) list n
  many-answer cp n ap' = record {
    ok = λ ts xs rest le e. let w = turns-ok n ap' n ts xs rest le le e in record { front = w.front; split = w.split; spelled = w.spelled; again = λ k more lek same. w.again k k more lek lek same };
    err = λ ts left le e. turns-err cp n ap' n ts left le le e;
  }

pub many-reads : {A : Type 0} (p : ℕ → Parser A) (L : Lang A) (f1 g1 : Kinds) → apart g1 f1 ≡ true → Reads p L f1 g1 false → Reads (repeat f1 p) (g.many L) f1 (f1 ++ g1) true
many-reads p L f1 g1 d rp = record {
  begin = many-begin p L f1 g1 d rp.begin;
  complete = λ n. many-complete p L f1 g1 d rp.begin n (rp.complete n);
  answer = λ n. many-answer p L f1 g1 d rp.begin rp.complete n (rp.answer n);
}
