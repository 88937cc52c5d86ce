-- The rules by which a parser is put together with its grammar.
use Rattle.std.proofs.Common.{◌≡◌, ℕ, Bool, true, false, cond, [], ◌∷◌, ◌++◌, sym, ap, ◌∙◌}
use Rattle.std.specs.Prelude.{◌&&◌}
use Rattle.iso_grammar.specs.declared.token.Kind.{Kind}
use Rattle.iso_grammar.specs.Kinds.{Kinds, apart}
use Rattle.iso_grammar.specs.Grammar as g
use Rattle.iso_grammar.specs.Grammar.{Lang, SameHead, StopsAt as Fails}
use Rattle.iso_grammar.specs.Reading as r
use Rattle.iso_grammar.specs.Reading.{Parser}
use Rattle.iso_grammar.proofs.Laws.{Begins, Completes, Answers, Reads, bind, bind-reads, bind-begin, bind-complete, bind-ok, bind-err}
use Rattle.iso_grammar.proofs.Choices.{pure-reads, token-reads, one_of, either-reads, either-begin, either-complete, either-answer}
use Rattle.iso_grammar.proofs.Many.{repeat, many-reads, many-begin, many-complete, many-answer}
use Rattle.iso_grammar.proofs.Union.{Within}

pub then : {A B : Type 0} {p : ℕ → Parser A} {q : A → ℕ → Parser B} {L : Lang A} {M : A → Lang B} {f1 g1 f2 g2 : Kinds} {n1 n2 : Bool} → Reads p L f1 g1 n1 → ((x : A) → Reads (q x) (M x) f2 g2 n2) → apart g1 f2 ≡ true
    → Reads (bind p q) (g.◌>>=◌ L M) (f1 ++ cond n1 f2 []) (g2 ++ cond n2 g1 []) (n1 && n2)
then {p = p} {q = q} {L = L} {M = M} {f1 = f1} {g1 = g1} {f2 = f2} {g2 = g2} {n1 = n1} {n2 = n2} rp rq d = bind-reads p q L M f1 g1 f2 g2 n1 n2 d rp rq

pub or_else : {A : Type 0} {p q : ℕ → Parser A} {L M : Lang A} {f1 g1 f2 g2 : Kinds} {n2 : Bool} → Reads p L f1 g1 false → Reads q M f2 g2 n2 → apart f1 f2 ≡ true
    → Reads (one_of f1 p q) (g.◌<|>◌ L M) (f1 ++ f2) (g1 ++ (g2 ++ cond n2 f1 [])) n2
or_else {p = p} {q = q} {L = L} {M = M} {f1 = f1} {g1 = g1} {f2 = f2} {g2 = g2} {n2 = n2} rp rq d = either-reads p q L M f1 g1 f2 g2 n2 d rp rq

pub repeated : {A : Type 0} {p : ℕ → Parser A} {L : Lang A} {f1 g1 : Kinds} → Reads p L f1 g1 false → apart g1 f1 ≡ true → Reads (repeat f1 p) (g.many L) f1 (f1 ++ g1) true
repeated {p = p} {L = L} {f1 = f1} {g1 = g1} rp d = many-reads p L f1 g1 d rp

pub word : (kind : Kind) → Reads (λ n. r.expect kind) (g.token kind) (kind ∷ []) [] false
word kind = token-reads kind

pub done : {A : Type 0} (x : A) → Reads (λ n. r.pure x) (g.pure x) [] [] true
done x = pure-reads x

-- ---- the same with a bound, for a grammar that holds itself: first what is in the grammar is read, and then what is read is in it

pub record Half {A : Type 0} (p : ℕ → Parser A) (L : Lang A) (first goes : Kinds) (null : Bool) (n : ℕ) : Type 0 where
  pub begin : Begins L first null
  pub complete : Completes p L goes n

pub record Ready {A : Type 0} (p : ℕ → Parser A) (L : Lang A) (first goes : Kinds) (null : Bool) (n : ℕ) : Type 0 where
  pub begin : Begins L first null
  pub complete : (k : ℕ) → Completes p L goes k
  pub answer : Answers p L n

pub half : {A : Type 0} {p : ℕ → Parser A} {L : Lang A} {f g1 : Kinds} {nl : Bool} → Reads p L f g1 nl → (n : ℕ) → Half p L f g1 nl n
half rp n = record { begin = rp.begin; complete = rp.complete n }

pub ready : {A : Type 0} {p : ℕ → Parser A} {L : Lang A} {f g1 : Kinds} {nl : Bool} → Reads p L f g1 nl → (n : ℕ) → Ready p L f g1 nl n
ready rp n = record { begin = rp.begin; complete = rp.complete; answer = rp.answer n }

pub half_then : {A B : Type 0} {p : ℕ → Parser A} {q : A → ℕ → Parser B} {L : Lang A} {M : A → Lang B} {f1 g1 f2 g2 : Kinds} {n1 n2 : Bool} {n : ℕ} → Half p L f1 g1 n1 n → ((x : A) → Half (q x) (M x) f2 g2 n2 n) → apart g1 f2 ≡ true
    → Half (bind p q) (g.◌>>=◌ L M) (f1 ++ cond n1 f2 []) (g2 ++ cond n2 g1 []) (n1 && n2) n
half_then {p = p} {q = q} {L = L} {M = M} {f1 = f1} {g1 = g1} {f2 = f2} {g2 = g2} {n1 = n1} {n2 = n2} {n = n} rp rq d = record {
  begin = bind-begin L M f1 f2 n1 n2 rp.begin (λ x. (rq x).begin);
  complete = bind-complete p q L M g1 g2 f2 n2 (λ x. (rq x).begin) d n rp.complete (λ x. (rq x).complete);
}

pub half_else : {A : Type 0} {p q : ℕ → Parser A} {L M : Lang A} {f1 g1 f2 g2 : Kinds} {n2 : Bool} {n : ℕ} → Half p L f1 g1 false n → Half q M f2 g2 n2 n → apart f1 f2 ≡ true
    → Half (one_of f1 p q) (g.◌<|>◌ L M) (f1 ++ f2) (g1 ++ (g2 ++ cond n2 f1 [])) n2 n
half_else {p = p} {q = q} {L = L} {M = M} {f1 = f1} {g1 = g1} {f2 = f2} {g2 = g2} {n2 = n2} {n = n} rp rq d = record {
  begin = either-begin p q L M f1 g1 f2 g2 n2 d rp.begin rq.begin;
  complete = either-complete p q L M f1 g1 f2 g2 n2 d rp.begin rq.begin n rp.complete rq.complete;
}

pub half_repeated : {A : Type 0} {p : ℕ → Parser A} {L : Lang A} {f1 g1 : Kinds} {n : ℕ} → Half p L f1 g1 false n → apart g1 f1 ≡ true → Half (repeat f1 p) (g.many L) f1 (f1 ++ g1) true n
half_repeated {p = p} {L = L} {f1 = f1} {g1 = g1} {n = n} rp d = record { begin = many-begin p L f1 g1 d rp.begin; complete = many-complete p L f1 g1 d rp.begin n rp.complete }

pub ready_then : {A B : Type 0} {p : ℕ → Parser A} {q : A → ℕ → Parser B} {L : Lang A} {M : A → Lang B} {f1 g1 f2 g2 : Kinds} {n1 n2 : Bool} {n : ℕ} → Ready p L f1 g1 n1 n → ((x : A) → Ready (q x) (M x) f2 g2 n2 n) → apart g1 f2 ≡ true
    → Ready (bind p q) (g.◌>>=◌ L M) (f1 ++ cond n1 f2 []) (g2 ++ cond n2 g1 []) (n1 && n2) n
ready_then {p = p} {q = q} {L = L} {M = M} {f1 = f1} {g1 = g1} {f2 = f2} {g2 = g2} {n1 = n1} {n2 = n2} {n = n} rp rq d = record {
  begin = bind-begin L M f1 f2 n1 n2 rp.begin (λ x. (rq x).begin);
  complete = λ k. bind-complete p q L M g1 g2 f2 n2 (λ x. (rq x).begin) d k (rp.complete k) (λ x. (rq x).complete k);
  answer = record {
    ok = bind-ok p q L M n rp.answer (λ x. (rq x).answer);
    err = bind-err p q L M g1 f2 n2 (λ x. (rq x).begin) d rp.complete n rp.answer (λ x. (rq x).answer);
  };
}

pub ready_else : {A : Type 0} {p q : ℕ → Parser A} {L M : Lang A} {f1 g1 f2 g2 : Kinds} {n2 : Bool} {n : ℕ} → Ready p L f1 g1 false n → Ready q M f2 g2 n2 n → apart f1 f2 ≡ true
    → Ready (one_of f1 p q) (g.◌<|>◌ L M) (f1 ++ f2) (g1 ++ (g2 ++ cond n2 f1 [])) n2 n
ready_else {p = p} {q = q} {L = L} {M = M} {f1 = f1} {g1 = g1} {f2 = f2} {g2 = g2} {n2 = n2} {n = n} rp rq d = record {
  begin = either-begin p q L M f1 g1 f2 g2 n2 d rp.begin rq.begin;
  complete = λ k. either-complete p q L M f1 g1 f2 g2 n2 d rp.begin rq.begin k (rp.complete k) (rq.complete k);
  answer = either-answer p q L M f1 g1 f2 g2 n2 d rp.begin rq.begin n rp.answer rq.answer;
}

pub ready_repeated : {A : Type 0} {p : ℕ → Parser A} {L : Lang A} {f1 g1 : Kinds} {n : ℕ} → Ready p L f1 g1 false n → apart g1 f1 ≡ true → Ready (repeat f1 p) (g.many L) f1 (f1 ++ g1) true n
ready_repeated {p = p} {L = L} {f1 = f1} {g1 = g1} {n = n} rp d = record { begin = many-begin p L f1 g1 d rp.begin; complete = λ k. many-complete p L f1 g1 d rp.begin k (rp.complete k); answer = many-answer p L f1 g1 d rp.begin rp.complete n rp.answer }

-- the same parser and the same grammar, written another way
pub completes_as : {A : Type 0} (p p' : ℕ → Parser A) (L L' : Lang A) (goes : Kinds) (n : ℕ) → ((k : ℕ) → p' k ≡ p k) → Within L' L → Completes p L goes n → Completes p' L' goes n
completes_as p p' L L' goes n same within c ts rest x le w stops = ap (λ (f : Parser _). f (ts ++ rest)) (same n) ∙ c ts rest x le (within ts x w) stops

pub answers_as : {A : Type 0} (p p' : ℕ → Parser A) (L L' : Lang A) (n : ℕ) → ((k : ℕ) → p' k ≡ p k) → Within L' L → Within L L' → Answers p L n → Answers p' L' n
answers_as p p' L L' n same within back a = record {
  ok = λ ts x rest le e.
      let w = a.ok ts x rest le (sym (ap (λ (f : Parser _). f ts) (same n)) ∙ e) in
      record { front = w.front; split = w.split; spelled = back w.front x w.spelled; again = λ k more lek head. ap (λ (f : Parser _). f (w.front ++ more)) (same k) ∙ w.again k more lek head };
  err = λ ts left le e.
      let f = a.err ts left le (sym (ap (λ (f : Parser _). f ts) (same n)) ∙ e) in
      record {
        front = f.front;
        rest = f.rest;
        split = f.split;
        count = f.count;
        viable = let v = f.viable in (v.0, v.1, back (f.front ++ v.0) v.1 v.2);
        dead = λ more x head w. f.dead more x head (within (f.front ++ more) x w);
      };
}
