-- What a parser owes to its grammar, and how parsers are put together.
use Rattle.std.proofs.Common.{◌≡◌, ℕ, ◌≤◌, Bool, true, false, cond, List, [], ◌∷◌, ◌++◌, length, Ok, Err, refl, sym, ap, subst, ◌∙◌, ◌⊎◌, inl, inr, append_assoc, arith}
use Rattle.std.specs.Prelude.{◌&&◌, ◌||◌}
use Rattle.iso_grammar.specs.declared.token.Kind.{Kind}
use Rattle.iso_grammar.specs.declared.token.Token.{Token}
use Rattle.iso_grammar.specs.Kinds.{Kinds, has, same_kind, apart}
use Rattle.iso_grammar.specs.Grammar as g
use Rattle.iso_grammar.specs.Grammar.{Lang, SameHead, StopsAt as Fails}
use Rattle.iso_grammar.specs.Reading as r
use Rattle.iso_grammar.specs.Reading.{Parser, Outcome, and_then, begins}
use Rattle.iso_grammar.proofs.KindLemmas.{apart_then}
use Rattle.iso_grammar.proofs.Lists.{same_under, begins_same, cut, shorter, same_start}

-- how the lists of a grammar begin, and that it has one
pub record Begins {A : Type 0} (L : Lang A) (first : Kinds) (null : Bool) : Type 0 where
  pub heads : (t : Token) (ts : List Token) (x : A) → L (t ∷ ts) x → has first t.kind ≡ true
  pub empty : (x : A) → L [] x → null ≡ true
  pub some : (ts : List Token) × (x : A) × L ts x

-- A list of the grammar is read, whatever comes behind it that does not go on with it.
abbrev pub Completes : {A : Type 0} → (ℕ → Parser A) → Lang A → Kinds → ℕ → Type 0
Completes p L goes n = (ts rest : List Token) (x : _) → length (ts ++ rest) ≤ n → L ts x → begins goes rest ≡ false → p n (ts ++ rest) ≡ Ok (x, rest)

-- What was read is in the grammar, and only the next token was looked at.
pub record Takes {A : Type 0} (p : ℕ → Parser A) (L : Lang A) (ts : List Token) (x : A) (rest : List Token) : Type 0 where
  pub front : List Token
  pub split : ts ≡ front ++ rest
  pub spelled : L front x
  pub again : (n : ℕ) (more : List Token) → length (front ++ more) ≤ n → SameHead rest more → p n (front ++ more) ≡ Ok (x, more)

pub record Answers {A : Type 0} (p : ℕ → Parser A) (L : Lang A) (n : ℕ) : Type 0 where
  pub ok : (ts : List Token) (x : A) (rest : List Token) → length ts ≤ n → p n ts ≡ Ok (x, rest) → Takes p L ts x rest
  pub err : (ts : List Token) (left : ℕ) → length ts ≤ n → p n ts ≡ Err left → Fails L ts left

-- a parser and its grammar: how it begins, what may go on with it, and whether it may be empty
pub record Reads {A : Type 0} (p : ℕ → Parser A) (L : Lang A) (first goes : Kinds) (null : Bool) : Type 0 where
  pub begin : Begins L first null
  pub complete : (n : ℕ) → Completes p L goes n
  pub answer : (n : ℕ) → Answers p L n

-- ---- tests

pub has-append : (a b : Kinds) (k : Kind) → has (a ++ b) k ≡ (has a k || has b k)
has-append [] b k = refl
has-append (j ∷ a) b k = elim (same_kind j k) as (λ v. (v || has (a ++ b) k) ≡ ((v || has a k) || has b k)) [ true ↦ refl | false ↦ has-append a b k ]

pub or_false : (a b : Bool) → (a || b) ≡ false → (a ≡ false) × (b ≡ false)
or_false true b e = absurd cc
or_false false b e = (refl, e)

pub begins-append : (a b : Kinds) (ts : List Token) → begins (a ++ b) ts ≡ false → (begins a ts ≡ false) × (begins b ts ≡ false)
begins-append a b [] e = (refl, refl)
begins-append a b (t ∷ ts) e = or_false (has a t.kind) (has b t.kind) (sym (has-append a b t.kind) ∙ e)

-- ---- results of a step and the next

pub then_ok : {A B : Type 0} (o : Outcome A) (f : A → Parser B) (y : B × List Token) → and_then o f ≡ Ok y → (x : A) × (rest : List Token) × (o ≡ Ok (x, rest)) × (f x rest ≡ Ok y)
then_ok (Ok p) f y e = (p.0, p.1, refl, e)
then_ok (Err d) f y e = absurd cc

pub then_err : {A B : Type 0} (o : Outcome A) (f : A → Parser B) (left : ℕ) → and_then o f ≡ Err left → (o ≡ Err left) ⊎ ((x : A) × (rest : List Token) × (o ≡ Ok (x, rest)) × (f x rest ≡ Err left))
then_err (Ok p) f left e = inr (p.0, p.1, refl, e)
then_err (Err d) f left e = inl cc

pub has_left : (a b : Kinds) (k : Kind) → has a k ≡ true → has (a ++ b) k ≡ true
has_left a b k e = has-append a b k ∙ ap (λ v. v || has b k) e

pub has_right : (a b : Kinds) (k : Kind) → has b k ≡ true → has (a ++ b) k ≡ true
has_right a b k e = has-append a b k ∙ ap (λ v. has a k || v) e ∙ elim (has a k) as (λ v. (v || true) ≡ true) [ true ↦ refl | false ↦ refl ]

-- what follows a list begins as the grammar behind does, or is what follows that
pub follows : {B : Type 0} (M : Lang B) (first goes : Kinds) (null : Bool) → Begins M first null → apart goes first ≡ true → (b rest : List Token) (y : B) → M b y → begins (cond null goes []) rest ≡ false → begins goes (b ++ rest) ≡ false
follows M first goes null begin disjoint [] rest y m stops = subst (λ v. begins (cond v goes []) rest ≡ false) (begin.empty y m) stops
follows M first goes null begin disjoint (t ∷ b) rest y m stops = apart_then goes first t.kind disjoint (begin.heads t b y m)

-- ---- one after the other

abbrev pub bind : {A B : Type 0} → (ℕ → Parser A) → (A → ℕ → Parser B) → ℕ → Parser B
bind p q n = r.◌>>=◌ (p n) (λ x. q x n)

bind-heads : {A B : Type 0} (L : Lang A) (M : A → Lang B) (f1 f2 : Kinds) (n1 n2 : Bool) → Begins L f1 n1 → ((x : A) → Begins (M x) f2 n2)
    → (t : Token) (ts front back : List Token) (x : A) (y : B) → (t ∷ ts) ≡ front ++ back → L front x → M x back y → has (f1 ++ cond n1 f2 []) t.kind ≡ true
bind-heads L M f1 f2 n1 n2 bl bm t ts [] back x y e l m =
    let second : has f2 t.kind ≡ true = (bm x).heads t ts y (subst (λ b. M x b y) (sym e) m) in
    has_right f1 (cond n1 f2 []) t.kind (subst (λ v. has (cond v f2 []) t.kind ≡ true) (sym (bl.empty x l)) second)
bind-heads L M f1 f2 n1 n2 bl bm t ts (u ∷ front) back x y e l m =
    let same : t ≡ u = cc in
    has_left f1 (cond n1 f2 []) t.kind (subst (λ (v : Token). has f1 v.kind ≡ true) (sym same) (bl.heads u front x l))

bind-empty : {A B : Type 0} (L : Lang A) (M : A → Lang B) (f1 f2 : Kinds) (n1 n2 : Bool) → Begins L f1 n1 → ((x : A) → Begins (M x) f2 n2)
    → (front back : List Token) (x : A) (y : B) → [] ≡ front ++ back → L front x → M x back y → (n1 && n2) ≡ true
bind-empty L M f1 f2 n1 n2 bl bm [] back x y e l m =
    let first = bl.empty x l in
    let second : n2 ≡ true = (bm x).empty y (subst (λ b. M x b y) (sym e) m) in
    rw (first, second) refl
bind-empty L M f1 f2 n1 n2 bl bm (u ∷ front) back x y e l m = absurd cc

pub bind-begin : {A B : Type 0} (L : Lang A) (M : A → Lang B) (f1 f2 : Kinds) (n1 n2 : Bool) → Begins L f1 n1 → ((x : A) → Begins (M x) f2 n2) → Begins (g.◌>>=◌ L M) (f1 ++ cond n1 f2 []) (n1 && n2)
bind-begin L M f1 f2 n1 n2 bl bm = record {
  heads = λ t ts y w. bind-heads L M f1 f2 n1 n2 bl bm t ts w.1 w.2 w.0 y w.3 w.4 w.5;
  empty = λ y w. bind-empty L M f1 f2 n1 n2 bl bm w.1 w.2 w.0 y w.3 w.4 w.5;
  some = let a = bl.some in let b = (bm a.1).some in (a.0 ++ b.0, b.1, (a.1, a.0, b.0, refl, a.2, b.2));
}

pub bind-complete : {A B : Type 0} (p : ℕ → Parser A) (q : A → ℕ → Parser B) (L : Lang A) (M : A → Lang B) (g1 g2 f2 : Kinds) (n2 : Bool) → ((x : A) → Begins (M x) f2 n2) → apart g1 f2 ≡ true
    → (n : ℕ) → Completes p L g1 n → ((x : A) → Completes (q x) (M x) g2 n) → Completes (bind p q) (g.◌>>=◌ L M) (g2 ++ cond n2 g1 []) n
bind-complete p q L M g1 g2 f2 n2 bm disjoint n cp cq ts rest y le w stops =
    let x = w.0 in let front = w.1 in let back = w.2 in
    let two = begins-append g2 (cond n2 g1 []) rest stops in
    let whole : ts ++ rest ≡ front ++ (back ++ rest) = ap (λ (z : List Token). z ++ rest) w.3 ∙ append_assoc front back rest in
    let le1 : length (front ++ (back ++ rest)) ≤ n = subst (λ (z : List Token). length z ≤ n) whole le in
    let one : p n (front ++ (back ++ rest)) ≡ Ok (x, back ++ rest) = cp front (back ++ rest) x le1 w.4 (follows (M x) f2 g1 n2 (bm x) disjoint back rest y w.5 two.1) in
    let other : q x n (back ++ rest) ≡ Ok (y, rest) = cq x back rest y (shorter n (front ++ (back ++ rest)) front (back ++ rest) refl le1) w.5 two.0 in
    ap (λ (z : List Token). and_then (p n z) (λ x. q x n)) whole ∙ ap (λ o. and_then o (λ x. q x n)) one ∙ other

pub bind-ok : {A B : Type 0} (p : ℕ → Parser A) (q : A → ℕ → Parser B) (L : Lang A) (M : A → Lang B) (n : ℕ) → Answers p L n → ((x : A) → Answers (q x) (M x) n)
    → (ts : List Token) (y : B) (rest : List Token) → length ts ≤ n → bind p q n ts ≡ Ok (y, rest) → Takes (bind p q) (g.◌>>=◌ L M) ts y rest
bind-ok p q L M n ap' aq ts y rest le e =
    let a = then_ok (p n ts) (λ x. q x n) (y, rest) e in
    let one = ap'.ok ts a.0 a.1 le a.2 in
    let two = (aq a.0).ok a.1 y rest (shorter n ts one.front a.1 one.split le) a.3 in
    let regroup : (more : List Token) → (one.front ++ two.front) ++ more ≡ one.front ++ (two.front ++ more) = λ more. append_assoc one.front two.front more in
    record {
      front = one.front ++ two.front;
      split = one.split ∙ ap (λ (z : List Token). one.front ++ z) two.split ∙ sym (append_assoc one.front two.front rest);
      spelled = (a.0, one.front, two.front, refl, one.spelled, two.spelled);
      again = λ k more le2 same.
          let le3 : length (one.front ++ (two.front ++ more)) ≤ k = subst (λ (z : List Token). length z ≤ k) (regroup more) le2 in
          let same2 : SameHead a.1 (two.front ++ more) = subst (λ (z : List Token). SameHead z (two.front ++ more)) (sym two.split) (same_under two.front rest more same) in
          let first : p k (one.front ++ (two.front ++ more)) ≡ Ok (a.0, two.front ++ more) = one.again k (two.front ++ more) le3 same2 in
          let second : q a.0 k (two.front ++ more) ≡ Ok (y, more) = two.again k more (shorter k (one.front ++ (two.front ++ more)) one.front (two.front ++ more) refl le3) same in
          ap (λ (z : List Token). and_then (p k z) (λ x. q x k)) (regroup more) ∙ ap (λ o. and_then o (λ x. q x k)) first ∙ second;
    }

-- a list of a grammar does not begin as what goes on with the grammar before
pub starts : {B : Type 0} (M : Lang B) (first goes : Kinds) (null : Bool) → Begins M first null → apart goes first ≡ true → (b : List Token) (y : B) → M b y → begins goes b ≡ false
starts M first goes null begin disjoint [] y m = refl
starts M first goes null begin disjoint (t ∷ b) y m = apart_then goes first t.kind disjoint (begin.heads t b y m)

pub ok_or_err : {A : Type 0} (o : Outcome A) (y : A × List Token) (left : ℕ) → o ≡ Ok y → o ≡ Err left → ⊥
ok_or_err o y left a b = cc

abbrev pub pair : {A : Type 0} → A → List Token → A × List Token
pair x a = (x, a)

pub ok_pair : {A : Type 0} (x y : A) (a b : List Token) → r.pure x a ≡ r.pure y b → (x ≡ y) × (a ≡ b)
ok_pair {A} x y a b e =
    let both : pair x a ≡ pair y b = cc in
    (ap (λ (z : A × List Token). z.0) both, ap (λ (z : A × List Token). z.1) both)

pub same_answer : {A : Type 0} (o : Outcome A) (x y : A) (a b : List Token) → o ≡ Ok (x, a) → o ≡ Ok (y, b) → (x ≡ y) × (a ≡ b)
same_answer {A} o x y a b p q =
    let e : pair x a ≡ pair y b = cc in
    (ap (λ (z : A × List Token). z.0) e, ap (λ (z : A × List Token). z.1) e)

pub bind-err : {A B : Type 0} (p : ℕ → Parser A) (q : A → ℕ → Parser B) (L : Lang A) (M : A → Lang B) (g1 f2 : Kinds) (n2 : Bool) → ((x : A) → Begins (M x) f2 n2) → apart g1 f2 ≡ true
    → ((k : ℕ) → Completes p L g1 k) → (n : ℕ) → Answers p L n → ((x : A) → Answers (q x) (M x) n)
    → (ts : List Token) (left : ℕ) → length ts ≤ n → bind p q n ts ≡ Err left → Fails (g.◌>>=◌ L M) ts left
bind-err p q L M g1 f2 n2 bm disjoint cp n ap' aq ts left le e =
    elim (then_err (p n ts) (λ x. q x n) left e) [
      | inl failed ↦
          let f = ap'.err ts left le failed in
          record {
            front = f.front;
            rest = f.rest;
            split = f.split;
            count = f.count;
            viable = let v = f.viable in let b = (bm v.1).some in (v.0 ++ b.0, b.1, (v.1, f.front ++ v.0, b.0, sym (append_assoc f.front v.0 b.0), v.2, b.2));
            dead = λ more y same w.
                elim (cut w.1 w.2 f.front more (sym w.3)) [
                  | inl c ↦
                      let stops : begins g1 (c.0 ++ f.rest) ≡ false = begins_same g1 (c.0 ++ f.rest) (c.0 ++ more) (same_under c.0 f.rest more same) ∙ ap (begins g1) (sym c.2) ∙ starts (M w.0) f2 g1 n2 (bm w.0) disjoint w.2 y w.5 in
                      let whole : ts ≡ w.1 ++ (c.0 ++ f.rest) = f.split ∙ ap (λ (z : List Token). z ++ f.rest) c.1 ∙ append_assoc w.1 c.0 f.rest in
                      let reads : p n (w.1 ++ (c.0 ++ f.rest)) ≡ Ok (w.0, c.0 ++ f.rest) = cp n w.1 (c.0 ++ f.rest) w.0 (subst (λ (z : List Token). length z ≤ n) whole le) w.4 stops in
                      ok_or_err (p n ts) (w.0, c.0 ++ f.rest) left (ap (p n) whole ∙ reads) failed
                  | inr d ↦ f.dead (d.0 ∷ d.1) w.0 (same_start f.rest more d.1 (d.1 ++ w.2) d.0 same d.3) (subst (λ (z : List Token). L z w.0) d.2 w.4)
                ];
          }
      | inr a ↦
          let one = ap'.ok ts a.0 a.1 le a.2 in
          let f = (aq a.0).err a.1 left (shorter n ts one.front a.1 one.split le) a.3 in
          record {
            front = one.front ++ f.front;
            rest = f.rest;
            split = one.split ∙ ap (λ (z : List Token). one.front ++ z) f.split ∙ sym (append_assoc one.front f.front f.rest);
            count = f.count;
            viable = let v = f.viable in (v.0, v.1, (a.0, one.front, f.front ++ v.0, append_assoc one.front f.front v.0, one.spelled, v.2));
            dead = λ more y same w.
                let long : ℕ = length (one.front ++ (f.front ++ more)) in
                let same2 : SameHead a.1 (f.front ++ more) = subst (λ (z : List Token). SameHead z (f.front ++ more)) (sym f.split) (same_under f.front f.rest more same) in
                let first : p long (one.front ++ (f.front ++ more)) ≡ Ok (a.0, f.front ++ more) = one.again long (f.front ++ more) (omega arith) same2 in
                let whole : one.front ++ (f.front ++ more) ≡ w.1 ++ w.2 = sym (append_assoc one.front f.front more) ∙ w.3 in
                let second : p long (w.1 ++ w.2) ≡ Ok (w.0, w.2) = cp long w.1 w.2 w.0 (subst (λ (z : List Token). length z ≤ long) whole (omega arith)) w.4 (starts (M w.0) f2 g1 n2 (bm w.0) disjoint w.2 y w.5) in
                let both = same_answer (p long (one.front ++ (f.front ++ more))) a.0 w.0 (f.front ++ more) w.2 first (ap (p long) whole ∙ second) in
                f.dead more y same (subst (λ (z : List Token). M a.0 z y) (sym both.1) (subst (λ z. M z w.2 y) (sym both.0) w.5));
          }
    ]

pub bind-reads : {A B : Type 0} (p : ℕ → Parser A) (q : A → ℕ → Parser B) (L : Lang A) (M : A → Lang B) (f1 g1 f2 g2 : Kinds) (n1 n2 : Bool) → apart g1 f2 ≡ true → Reads p L f1 g1 n1 → ((x : A) → Reads (q x) (M x) f2 g2 n2)
    → Reads (bind p q) (g.◌>>=◌ L M) (f1 ++ cond n1 f2 []) (g2 ++ cond n2 g1 []) (n1 && n2)
bind-reads p q L M f1 g1 f2 g2 n1 n2 disjoint rp rq = record {
  begin = bind-begin L M f1 f2 n1 n2 rp.begin (λ x. (rq x).begin);
  complete = λ n. bind-complete p q L M g1 g2 f2 n2 (λ x. (rq x).begin) disjoint n (rp.complete n) (λ x. (rq x).complete n);
  answer = λ n. record {
    ok = bind-ok p q L M n (rp.answer n) (λ x. (rq x).answer n);
    err = bind-err p q L M g1 f2 n2 (λ x. (rq x).begin) disjoint rp.complete n (rp.answer n) (λ x. (rq x).answer n);
  };
}
