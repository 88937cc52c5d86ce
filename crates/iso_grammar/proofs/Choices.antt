-- Tokens, nothing, and a choice of two.
use Rattle.std.proofs.Common.{◌≡◌, ℕ, Bool, true, false, cond, List, [], ◌∷◌, ◌++◌, length, Ok, Err, refl, sym, ap, subst, ◌∙◌, ◌⊎◌, inl, inr}
use Rattle.std.specs.Prelude.{◌||◌}
use Rattle.iso_grammar.specs.declared.token.Kind.{Kind}
use Rattle.iso_grammar.specs.declared.token.Token.{Token}
use Rattle.iso_grammar.specs.Kinds.{Kinds, has, same_kind, apart}
use Rattle.iso_grammar.specs.Grammar as g
use Rattle.iso_grammar.specs.Grammar.{Lang, SameHead, StopsAt as Fails}
use Rattle.iso_grammar.specs.Reading as r
use Rattle.iso_grammar.specs.Reading.{Parser, Outcome, and_then, begins}
use Rattle.iso_grammar.proofs.KindLemmas.{apart_then, same_is, same_self}
use Rattle.iso_grammar.proofs.Lists.{same_under, begins_same}
use Rattle.iso_grammar.proofs.Laws.{Begins, Completes, Takes, Answers, Reads, has_left, has_right, begins-append, ok_pair}

-- ---- nothing

pub pure-reads : {A : Type 0} (x : A) → Reads (λ n. r.pure x) (g.pure x) [] [] true
pure-reads x = record {
  begin = record { heads = λ t ts y w. absurd (no t ts w.0); empty = λ y w. refl; some = ([], x, (refl, refl)) };
  complete = λ n ts rest y le w stops. ap (λ (z : List Token). r.pure x (z ++ rest)) w.0 ∙ ap (λ v. r.pure v rest) (sym w.1);
  answer = λ n. record {
    ok = λ ts y rest le e. let d = ok_pair x y ts rest e in record { front = []; split = d.1; spelled = (refl, sym d.0); again = λ k more le2 same. ap (λ v. r.pure v more) d.0 };
    err = λ ts left le e. absurd (never x ts left e);
  };
}
  where
    no : (t : Token) (ts : List Token) → t ∷ ts ≡ [] → ⊥
    no t ts e = cc

    never : {A : Type 0} (x : A) (ts : List Token) (left : ℕ) → r.pure x ts ≡ Err left → ⊥
    never x ts left e = cc

-- ---- a token

tested : (kind : Kind) (t : Token) (ts rest : List Token) (x : Token) (b : Bool) → same_kind kind t.kind ≡ b → cond b (r.pure t ts) (Err (length (t ∷ ts))) ≡ Ok (x, rest) → (x ≡ t) × (rest ≡ ts) × (t.kind ≡ kind) × (b ≡ true)
tested kind t ts rest x true s e = let p = ok_pair t x ts rest e in (sym p.0, sym p.1, sym (same_is kind t.kind s), refl)
tested kind t ts rest x false s e = absurd cc

refused : (kind : Kind) (t : Token) (ts : List Token) (left : ℕ) (b : Bool) → same_kind kind t.kind ≡ b → cond b (r.pure t ts) (Err (length (t ∷ ts))) ≡ Err left → (same_kind kind t.kind ≡ false) × (length (t ∷ ts) ≡ left)
refused kind t ts left true s e = absurd cc
refused kind t ts left false s e = (s, cc)

pub no_nil : (t : Token) (ts : List Token) → t ∷ ts ≡ [] → ⊥
no_nil t ts e = cc

first_is : (t u : Token) (a b : List Token) → t ∷ a ≡ u ∷ b → t ≡ u
first_is t u a b e = cc

rest_is : (t u : Token) (a b : List Token) → t ∷ a ≡ u ∷ b → a ≡ b
rest_is t u a b e = cc

pub both_ways : (b : Bool) → b ≡ true → b ≡ false → ⊥
both_ways b p q = cc

an_example : Kind → Token
an_example kind = record { kind = kind; start = 0; end = 0 }

an_example-kind : (kind : Kind) → (an_example kind).kind ≡ kind
unfolding an_example
an_example-kind kind = refl

token-ok : (kind : Kind) (ts : List Token) (x : Token) (rest : List Token) → r.expect kind ts ≡ Ok (x, rest) → Takes (λ n. r.expect kind) (g.token kind) ts x rest
token-ok kind [] x rest e = absurd cc
token-ok kind (t ∷ ts) x rest e =
    let w = tested kind t ts rest x (same_kind kind t.kind) refl e in
    record {
      front = x ∷ [];
      split = ap (λ (u : Token). u ∷ ts) (sym w.0) ∙ ap (λ (z : List Token). x ∷ z) (sym w.1);
      spelled = (refl, ap (λ (u : Token). u.kind) w.0 ∙ w.2);
      again = λ k more le same. ap (λ b. cond b (r.pure x more) (Err (length (x ∷ more)))) (ap (λ (u : Token). same_kind kind u.kind) w.0 ∙ w.3);
    }

token-err : (kind : Kind) (ts : List Token) (left : ℕ) → r.expect kind ts ≡ Err left → Fails (g.token kind) ts left
token-err kind [] left e = record {
  front = [];
  rest = [];
  split = refl;
  count = cc;
  viable = (an_example kind ∷ [], an_example kind, (refl, an_example-kind kind));
  dead = λ more x same w. no_nil x [] (sym w.0 ∙ same);
}
token-err kind (t ∷ ts) left e =
    let w = refused kind t ts left (same_kind kind t.kind) refl e in
    record {
      front = [];
      rest = t ∷ ts;
      split = refl;
      count = w.1;
      viable = (an_example kind ∷ [], an_example kind, (refl, an_example-kind kind));
      dead = λ more x same v.
          let is : t ≡ x = first_is t x same.0 [] (sym same.1 ∙ v.0) in
          both_ways (same_kind kind kind) (same_self kind) (ap (same_kind kind) (sym v.1 ∙ ap (λ (u : Token). u.kind) (sym is)) ∙ w.0);
    }

pub token-reads : (kind : Kind) → Reads (λ n. r.expect kind) (g.token kind) (kind ∷ []) [] false
token-reads kind = record {
  begin = record {
    heads = λ t ts y w. let is : t ≡ y = first_is t y ts [] w.0 in
        ap (λ b. b || false) (ap (same_kind kind) (ap (λ (u : Token). u.kind) is ∙ w.1) ∙ same_self kind);
    empty = λ y w. absurd (no_nil y [] (sym w.0));
    some = (an_example kind ∷ [], an_example kind, (refl, an_example-kind kind));
  };
  complete = λ n ts rest y le w stops.
      ap (λ (z : List Token). r.expect kind (z ++ rest)) w.0 ∙ ap (λ b. cond b (r.pure y rest) (Err (length (y ∷ rest)))) (ap (same_kind kind) w.1 ∙ same_self kind);
  answer = λ n. record {
    ok = λ ts x rest le e. token-ok kind ts x rest e;
    err = λ ts left le e. token-err kind ts left e;
  };
}

-- ---- one of two

abbrev pub one_of : {A : Type 0} → Kinds → (ℕ → Parser A) → (ℕ → Parser A) → ℕ → Parser A
one_of first p q n = r.either first (p n) (q n)

pub took : {A : Type 0} (first : Kinds) (p q : ℕ → Parser A) (n : ℕ) (ts : List Token) → begins first ts ≡ true → one_of first p q n ts ≡ p n ts
took first p q n ts e = ap (λ b. cond b (p n ts) (q n ts)) e

pub passed : {A : Type 0} (first : Kinds) (p q : ℕ → Parser A) (n : ℕ) (ts : List Token) → begins first ts ≡ false → one_of first p q n ts ≡ q n ts
passed first p q n ts e = ap (λ b. cond b (p n ts) (q n ts)) e

pub decide : (b : Bool) → (b ≡ true) ⊎ (b ≡ false)
decide true = inl refl
decide false = inr refl

-- a list of a grammar without the empty one begins as the grammar does, whatever follows
pub begins_so : {A : Type 0} (L : Lang A) (first : Kinds) → Begins L first false → (ts rest : List Token) (x : A) → L ts x → begins first (ts ++ rest) ≡ true
begins_so L first b [] rest x l = absurd (both_ways false (b.empty x l) refl)
begins_so L first b (t ∷ ts) rest x l = b.heads t ts x l

-- and one of the other grammar does not
pub begins_other : {A : Type 0} (M : Lang A) (f1 f2 : Kinds) (n2 : Bool) → apart f1 f2 ≡ true → Begins M f2 n2 → (ts rest : List Token) (x : A) → M ts x → begins (cond n2 f1 []) rest ≡ false → begins f1 (ts ++ rest) ≡ false
begins_other M f1 f2 n2 d b [] rest x m stops = subst (λ v. begins (cond v f1 []) rest ≡ false) (b.empty x m) stops
begins_other M f1 f2 n2 d b (t ∷ ts) rest x m stops = apart_then f1 f2 t.kind d (b.heads t ts x m)

module _ {A : Type 0} (p q : ℕ → Parser A) (L M : Lang A) (f1 g1 f2 g2 : Kinds) (n2 : Bool) (disjoint : apart f1 f2 ≡ true) (bl : Begins L f1 false) (bm : Begins M f2 n2) where
  abbrev this : ℕ → Parser A
  this = one_of f1 p q

  abbrev both : Lang A
  both = g.◌<|>◌ L M

  pub either-begin : Begins both (f1 ++ f2) n2
  either-begin = record {
    heads = λ t ts y w. elim w [
      | inl l ↦ has_left f1 f2 t.kind (bl.heads t ts y l)
      | inr m ↦ has_right f1 f2 t.kind (bm.heads t ts y m)
    ];
    empty = λ y w. elim w [
      | inl l ↦ absurd (both_ways false (bl.empty y l) refl)
      | inr m ↦ bm.empty y m
    ];
    some = let s = bl.some in (s.0, s.1, inl s.2);
  }

  pub either-complete : (n : ℕ) → Completes p L g1 n → Completes q M g2 n → Completes this both (g1 ++ (g2 ++ cond n2 f1 [])) n
  either-complete n cp cq ts rest y le w stops =
      let one = begins-append g1 (g2 ++ cond n2 f1 []) rest stops in
      let two = begins-append g2 (cond n2 f1 []) rest one.1 in
      elim w [
        | inl l ↦ took f1 p q n (ts ++ rest) (begins_so L f1 bl ts rest y l) ∙ cp ts rest y le l one.0
        | inr m ↦ passed f1 p q n (ts ++ rest) (begins_other M f1 f2 n2 disjoint bm ts rest y m two.1) ∙ cq ts rest y le m two.0
      ]

  first_took : (n : ℕ) (ts : List Token) (y : A) (rest : List Token) → begins f1 ts ≡ true → Takes p L ts y rest → Takes this both ts y rest
  first_took n ts y rest b w = record {
    front = w.front;
    split = w.split;
    spelled = inl w.spelled;
    again = λ k more le same. took f1 p q k (w.front ++ more) (sym (begins_same f1 (w.front ++ rest) (w.front ++ more) (same_under w.front rest more same)) ∙ ap (begins f1) (sym w.split) ∙ b) ∙ w.again k more le same;
  }

  second_took : (n : ℕ) (ts : List Token) (y : A) (rest : List Token) → begins f1 ts ≡ false → Takes q M ts y rest → Takes this both ts y rest
  second_took n ts y rest b w = record {
    front = w.front;
    split = w.split;
    spelled = inr w.spelled;
    again = λ k more le same. passed f1 p q k (w.front ++ more) (sym (begins_same f1 (w.front ++ rest) (w.front ++ more) (same_under w.front rest more same)) ∙ ap (begins f1) (sym w.split) ∙ b) ∙ w.again k more le same;
  }

  not_second : (ts : List Token) (y : A) → begins f1 ts ≡ true → M ts y → ⊥
  not_second [] y b m = both_ways false b refl
  not_second (t ∷ ts) y b m = both_ways (has f1 t.kind) b (apart_then f1 f2 t.kind disjoint (bm.heads t ts y m))

  not_first : (ts : List Token) (y : A) → begins f1 ts ≡ false → L ts y → ⊥
  not_first [] y b l = both_ways false (bl.empty y l) refl
  not_first (t ∷ ts) y b l = both_ways (has f1 t.kind) (bl.heads t ts y l) b

  first_failed : (ts : List Token) (left : ℕ) → begins f1 ts ≡ true → Fails L ts left → Fails both ts left
  first_failed ts left b f = record {
    front = f.front;
    rest = f.rest;
    split = f.split;
    count = f.count;
    viable = let v = f.viable in (v.0, v.1, inl v.2);
    dead = λ more y same w. elim w [
      | inl l ↦ f.dead more y same l
      | inr m ↦ not_second (f.front ++ more) y (sym (begins_same f1 (f.front ++ f.rest) (f.front ++ more) (same_under f.front f.rest more same)) ∙ ap (begins f1) (sym f.split) ∙ b) m
    ];
  }

  second_failed : (ts : List Token) (left : ℕ) → begins f1 ts ≡ false → Fails M ts left → Fails both ts left
  second_failed ts left b f = record {
    front = f.front;
    rest = f.rest;
    split = f.split;
    count = f.count;
    viable = let v = f.viable in (v.0, v.1, inr v.2);
    dead = λ more y same w. elim w [
      | inl l ↦ not_first (f.front ++ more) y (sym (begins_same f1 (f.front ++ f.rest) (f.front ++ more) (same_under f.front f.rest more same)) ∙ ap (begins f1) (sym f.split) ∙ b) l
      | inr m ↦ f.dead more y same m
    ];
  }

  pub either-answer : (n : ℕ) → Answers p L n → Answers q M n → Answers this both n
  either-answer n ap' aq = record {
    ok = λ ts y rest le e. elim (decide (begins f1 ts)) [
      | inl b ↦ first_took n ts y rest b (ap'.ok ts y rest le (sym (took f1 p q n ts b) ∙ e))
      | inr b ↦ second_took n ts y rest b (aq.ok ts y rest le (sym (passed f1 p q n ts b) ∙ e))
    ];
    err = λ ts left le e. elim (decide (begins f1 ts)) [
      | inl b ↦ first_failed ts left b (ap'.err ts left le (sym (took f1 p q n ts b) ∙ e))
      | inr b ↦ second_failed ts left b (aq.err ts left le (sym (passed f1 p q n ts b) ∙ e))
    ];
  }

pub either-reads : {A : Type 0} (p q : ℕ → Parser A) (L M : Lang A) (f1 g1 f2 g2 : Kinds) (n2 : Bool) → apart f1 f2 ≡ true → Reads p L f1 g1 false → Reads q M f2 g2 n2
    → Reads (one_of f1 p q) (g.◌<|>◌ L M) (f1 ++ f2) (g1 ++ (g2 ++ cond n2 f1 [])) n2
either-reads p q L M f1 g1 f2 g2 n2 disjoint rp rq = record {
  begin = either-begin p q L M f1 g1 f2 g2 n2 disjoint rp.begin rq.begin;
  complete = λ n. either-complete p q L M f1 g1 f2 g2 n2 disjoint rp.begin rq.begin n (rp.complete n) (rq.complete n);
  answer = λ n. either-answer p q L M f1 g1 f2 g2 n2 disjoint rp.begin rq.begin n (rp.answer n) (rq.answer n);
}
