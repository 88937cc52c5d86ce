-- The oldest record of an open unit is the least of the units' first ones.
use Rattle.std.proofs.lemmas.Bool.Decides.{nat_tests}
use Rattle.std.proofs.lemmas.List.Folds.{position_or_len_push}
use Rattle.std.proofs.Common.{◌≡◌, ◌≢◌, cond, eqb, length-append, ◌+◌, ◌<◌, ℕ, suc, min, Bool, true, false, ◌||◌, List, [], ◌∷◌, ◌++◌, length, refl, ap, sym, ◌∙◌, arith, Some, None, Option}
use Rattle.std.specs.List.{list_any, position_or_len}
use Rattle.std.specs.Option.{option_map_or}
use Rattle.std.specs.Prelude.{◌==◌}
use Rattle.iso_history.specs.Firsts.{first_of, least_of}
use Rattle.iso_history.specs.Records.{count, oldest}
use Rattle.iso_history.specs.World.{Note, World}
use Rattle.iso_types.specs.Head.{conns}
use Rattle.iso_types.specs.declared.head.Head.{Head}
use Rattle.iso_types.specs.declared.value.Conn.{Conn}

first-here : {A : Type 0} (p : A → Bool) (x : A) (xs : List A) → p x ≡ true → position_or_len p (x ∷ xs) ≡ 0
first-here p x xs e = rw e refl

first-later : {A : Type 0} (p : A → Bool) (x : A) (xs : List A) → p x ≡ false → position_or_len p (x ∷ xs) ≡ 1 + position_or_len p xs
first-later p x xs e = rw e refl

none-passes : {A : Type 0} (p : A → Bool) (xs : List A) → ((x : A) → p x ≡ false) → position_or_len p xs ≡ length xs
none-passes p [] e = refl
none-passes p (x ∷ xs) e = first-later p x xs (e x) ∙ more _ _ (none-passes p xs e)
  where
    more : (k n : ℕ) → k ≡ n → 1 + k ≡ suc n
    more k n e = omega (arith, e)

-- the first that passes the one test or the other
either-passes : {A : Type 0} (p q r : A → Bool) (xs : List A) → ((x : A) → r x ≡ (p x || q x))
    → position_or_len r xs ≡ min (position_or_len p xs) (position_or_len q xs)
either-passes p q r [] e = omega arith
either-passes p q r (x ∷ xs) e = go (either-passes p q r xs e) (p x) refl (q x) refl
  where
    left-first : (k m n : ℕ) → k ≡ 0 → m ≡ 0 → m ≡ min k n
    left-first k m n e f = omega (arith, e, f)

    right-first : (k m n : ℕ) → k ≡ 0 → m ≡ 0 → m ≡ min n k
    right-first k m n e f = omega (arith, e, f)

    both-later : (k m n a b d : ℕ) → k ≡ 1 + a → m ≡ 1 + b → n ≡ 1 + d → d ≡ min a b → n ≡ min k m
    both-later k m n a b d e f g h = omega (arith, e, f, g, h)

    go : position_or_len r xs ≡ min (position_or_len p xs) (position_or_len q xs) → (a : Bool) → p x ≡ a → (b : Bool) → q x ≡ b
        → position_or_len r (x ∷ xs) ≡ min (position_or_len p (x ∷ xs)) (position_or_len q (x ∷ xs))
    go ih true f b g = left-first _ _ _ (first-here p x xs f) (first-here r x xs (e x ∙ (rw f refl)))
    go ih false f true g = right-first _ _ _ (first-here q x xs g) (first-here r x xs (e x ∙ (rw (f, g) refl)))
    go ih false f false g = both-later _ _ _ _ _ _ (first-later p x xs f) (first-later q x xs g) (first-later r x xs (e x ∙ (rw (f, g) refl))) ih

-- the first record that passes one of the connections' tests
least-passes : (p : Conn → Note → Bool) (cs : List Conn) (notes : List Note)
    → position_or_len (λ n. list_any (λ c. p c n) cs) notes ≡ least_of (λ c. position_or_len (p c) notes) cs (length notes)
least-passes p [] notes = none-passes (λ n. false) notes (λ n. refl)
least-passes p (c ∷ cs) notes =
    either-passes (p c) (λ n. list_any (λ d. p d n) cs) (λ n. list_any (λ d. p d n) (c ∷ cs)) notes (λ n. one-or-rest (p c n) n)
    ∙ ap (min (position_or_len (p c) notes)) (least-passes p cs notes)
  where
    one-or-rest : (b : Bool) (n : Note) → list_any (λ d. p d n) (c ∷ cs) ≡ (p c n || list_any (λ d. p d n) cs)
    one-or-rest b n = refl

least-same : (f g : Conn → ℕ) (cs : List Conn) (top : ℕ) → ((c : Conn) → f c ≡ g c) → least_of f cs top ≡ least_of g cs top
least-same f g [] top e = refl
least-same f g (c ∷ cs) top e = rw (e c, least-same f g cs top e) refl

-- whether the record is of the connection's open unit
abbrev pub is_own : World → Conn → Note → Bool
is_own w c n = option_map_or (λ v. v == n.unit) (w.unit c) false

first-own : (w : World) (c : Conn) → position_or_len (is_own w c) w.records ≡ first_of w c
first-own w c = go (w.unit c)
  where
    go : (o : Option ℕ) → position_or_len (λ n. option_map_or (λ v. v == n.unit) o false) w.records
        ≡ option_map_or (λ u. position_or_len (λ n. u == n.unit) w.records) o (count w)
    go None = none-passes (λ n. false) w.records (λ n. refl)
    go (Some u) = refl

-- the oldest record of an open unit is the least of the first ones
pub oldest-is : (head : Head) (w : World) → oldest head w ≡ least_of (first_of w) (conns head) (count w)
oldest-is head w =
    least-passes (is_own w) (conns head) w.records
    ∙ least-same (λ c. position_or_len (is_own w c) w.records) (first_of w) (conns head) (count w) (first-own w)

-- one more record of the unit leaves its first one, or is that
pub first-pushed : (u : ℕ) (notes : List Note) (n : Note) → n.unit ≡ u
    → position_or_len (λ m. u == m.unit) (notes ++ n ∷ []) ≡ position_or_len (λ m. u == m.unit) notes
first-pushed u notes n e = position_or_len_push (λ m. u == m.unit) notes n ∙ go (position_or_len (λ m. u == m.unit) notes) (length notes) (u == n.unit) own
  where
    own : (u == n.unit) ≡ true
    own = grind (arith, nat_tests)

    go : (k m : ℕ) (b : Bool) → b ≡ true → cond (eqb k m) (m + cond b 0 1) k ≡ k
    go k m b e = grind (arith, nat_tests)

-- another unit's leaves it, and where there is none there is none still
pub first-beside : (u : ℕ) (notes : List Note) (n : Note) → n.unit ≢ u → position_or_len (λ m. u == m.unit) notes < length notes
    → position_or_len (λ m. u == m.unit) (notes ++ n ∷ []) ≡ position_or_len (λ m. u == m.unit) notes
first-beside u notes n ne lt = position_or_len_push (λ m. u == m.unit) notes n ∙ go _ _ _ lt
  where
    go : (k m r : ℕ) → k < m → cond (eqb k m) r k ≡ k
    go k m r lt = grind (arith, nat_tests)

pub first-none : (u : ℕ) (notes : List Note) (n : Note) → n.unit ≢ u → position_or_len (λ m. u == m.unit) notes ≡ length notes
    → position_or_len (λ m. u == m.unit) (notes ++ n ∷ []) ≡ length (notes ++ n ∷ [])
first-none u notes n ne e = position_or_len_push (λ m. u == m.unit) notes n ∙ go _ _ (u == n.unit) other e ∙ sym (simp length-append (omega arith))
  where
    other : (u == n.unit) ≡ false
    other = grind (arith, nat_tests)

    go : (k m : ℕ) (b : Bool) → b ≡ false → k ≡ m → cond (eqb k m) (m + cond b 0 1) k ≡ m + 1
    go k m b f e = grind (arith, nat_tests)
