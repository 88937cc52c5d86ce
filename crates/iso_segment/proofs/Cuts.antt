-- Parts of stretches that stand one after the other.
use Rattle.std.proofs.Common.{◌≡◌, ◌∙◌, ◌<◌, ◌≤◌, ℕ, zero, suc, ◌+◌, ◌-◌, List, [], ◌∷◌, ◌++◌, ap, refl, sym, subst, length, take, drop, arith, append-nil, ◌⊎◌, inl, inr}
use Rattle.std.proofs.lemmas.List.{append_assoc, length-append, length-drop, length-take-le, take_rest}
use Rattle.std.proofs.Math.Seq.{drop-append-add, take-append-add, take-append_seam}
use Rattle.std.specs.Prelude.{IfOk, Result, Ok, Err}
use Rattle.iso_segment.specs.Pinned.{Pinned}
use Rattle.iso_segment.specs.Parts.{AreLaid, first_at, joined}
use Rattle.iso_segment.proofs.Laid.{first-from, next-is}
use Rattle.iso_segment.proofs.Lists.{drop-drop, take-within}

-- one more stretch
pub laid-more : {T : Type 0} (from : ℕ) (ss : List (Pinned T)) (next : ℕ) (s : Pinned T) → AreLaid from ss next → s.first ≡ next
    → AreLaid from (ss ++ s ∷ []) (next + length s.items)
laid-more from [] next s is e = (e ∙ sym is, ap (λ z. z + length s.items) is)
laid-more from (x ∷ ss) next s is e = (is.0, laid-more (from + length x.items) ss next s is.1 e)

pub joined-more : {T : Type 0} (ss : List (Pinned T)) (s : Pinned T) → joined (ss ++ s ∷ []) ≡ joined ss ++ s.items
joined-more [] s = append-nil s.items
joined-more (x ∷ ss) s = ap (λ l. x.items ++ l) (joined-more ss s) ∙ sym (append_assoc x.items (joined ss) s.items)

-- later stretches begin at higher numbers
pub first-mono : {T : Type 0} (from : ℕ) (ss : List (Pinned T)) (next j k : ℕ) → AreLaid from ss next → j ≤ k → first_at ss j next ≤ first_at ss k next
first-mono from [] next j k is le = omega arith
first-mono from (s ∷ ss) next zero k is le = let b = first-from from (s ∷ ss) next k is in let e = is.0 in omega (arith, b, e)
first-mono from (s ∷ ss) next (suc j) zero is le = absurd (omega (arith, le))
first-mono from (s ∷ ss) next (suc j) (suc k) is le = first-mono (from + length s.items) ss next j k is.1 (omega (arith, le))

either : (j k : ℕ) → (j < k) ⊎ (k ≤ j)
either j zero = inr (omega arith)
either zero (suc k) = inl (omega arith)
either (suc j) (suc k) = elim (either j k) [ inl lt ↦ inl (omega (arith, lt)) | inr le ↦ inr (omega (arith, le)) ]

-- so where one begins at or below a number that another is above, it is before it
pub before : {T : Type 0} (ss : List (Pinned T)) (next j k n m : ℕ) → AreLaid 0 ss next → first_at ss j next ≤ n → n ≤ m → m < first_at ss k next → j < k
before ss next j k n m is low le high = go (either j k)
  where
    go : (j < k) ⊎ (k ≤ j) → j < k
    go (inl lt) = lt
    go (inr b) = let d = first-mono 0 ss next k j is b in absurd (omega (arith, d, low, le, high))

-- the first stretches
pub laid-take : {T : Type 0} (from : ℕ) (ss : List (Pinned T)) (next k : ℕ) → AreLaid from ss next → k ≤ length ss
    → AreLaid from (take k ss) (first_at ss k next)
laid-take from [] next zero is le = is
laid-take from [] next (suc k) is le = absurd (omega (arith, le))
laid-take from (s ∷ ss) next zero is le = sym is.0
laid-take from (s ∷ ss) next (suc k) is le = (is.0, laid-take (from + length s.items) ss next k is.1 (omega (arith, le)))

-- the others
pub laid-drop : {T : Type 0} (from : ℕ) (ss : List (Pinned T)) (next k : ℕ) → AreLaid from ss next → AreLaid (first_at ss k next) (drop k ss) next
laid-drop from [] next zero is = refl
laid-drop from [] next (suc k) is = refl
laid-drop from (s ∷ ss) next zero is = subst (λ (f : ℕ). AreLaid f (s ∷ ss) next) (sym is.0) is
laid-drop from (s ∷ ss) next (suc k) is = laid-drop (from + length s.items) ss next k is.1

pub first-drop : {T : Type 0} (ss : List (Pinned T)) (next j k : ℕ) → first_at (drop j ss) k next ≡ first_at ss (j + k) next
first-drop ss next zero k = let e : 0 + k ≡ k = omega arith in rw e refl
first-drop [] next (suc j) k = refl
first-drop (s ∷ ss) next (suc j) k = let e : suc j + k ≡ suc (j + k) = omega arith in rw e (first-drop ss next j k)

-- the items from a stretch on
pub drop-joined : {T : Type 0} (from : ℕ) (ss : List (Pinned T)) (next k : ℕ) (rest : List T) → AreLaid from ss next → k ≤ length ss
    → joined (drop k ss) ++ rest ≡ drop (first_at ss k next - from) (joined ss ++ rest)
drop-joined from [] next zero rest is le = let e : next - from ≡ 0 = omega (arith, is) in rw e refl
drop-joined from [] next (suc k) rest is le = absurd (omega (arith, le))
drop-joined from (s ∷ ss) next zero rest is le = let f = is.0 in let e : s.first - from ≡ 0 = omega (arith, f) in rw e refl
drop-joined from (s ∷ ss) next (suc k) rest is le =
    let b = first-from (from + length s.items) ss next k is.1 in
    let e : first_at ss k next - from ≡ length s.items + (first_at ss k next - (from + length s.items)) = omega (arith, b) in
    rw (append_assoc s.items (joined ss) rest, e) (drop-joined (from + length s.items) ss next k rest is.1 (omega (arith, le))
    ∙ sym (drop-append-add s.items (joined ss ++ rest) (first_at ss k next - (from + length s.items))))

pub dropped : {T : Type 0} (ss : List (Pinned T)) (next k : ℕ) (rest : List T) → AreLaid 0 ss next → k ≤ length ss
    → joined (drop k ss) ++ rest ≡ drop (first_at ss k next) (joined ss ++ rest)
dropped ss next k rest is le =
    let e : first_at ss k next - 0 ≡ first_at ss k next = omega arith in
    drop-joined 0 ss next k rest is le ∙ ap (λ z. drop z (joined ss ++ rest)) e

-- the items of the first stretches are the first items
joined-split : {T : Type 0} (ss : List (Pinned T)) (k : ℕ) → joined ss ≡ joined (take k ss) ++ joined (drop k ss)
joined-split ss zero = refl
joined-split [] (suc k) = refl
joined-split (s ∷ ss) (suc k) = ap (λ l. s.items ++ l) (joined-split ss k) ∙ sym (append_assoc s.items (joined (take k ss)) (joined (drop k ss)))

pub take-joined : {T : Type 0} (ss : List (Pinned T)) (k : ℕ) (rest : List T) → joined (take k ss) ≡ take (length (joined (take k ss))) (joined ss ++ rest)
take-joined ss k rest = sym (ap (λ l. take (length (joined (take k ss))) l)
    (ap (λ l. l ++ rest) (joined-split ss k) ∙ append_assoc (joined (take k ss)) (joined (drop k ss)) rest)
    ∙ take-append_seam (joined (take k ss)) (joined (drop k ss) ++ rest))

-- a stretch of a part that has it is the stretch of the whole
pub cut : {T : Type 0} (whole part : List T) (from first last q : ℕ) → part ≡ take q (drop from whole) → last + 1 ≤ from + q → from ≤ first
    → first ≤ last → take (last + 1 - first) (drop (first - from) part) ≡ take (last + 1 - first) (drop first whole)
cut whole part from first last q is fits low order =
    let e : from + (first - from) ≡ first = omega (arith, low) in
    ap (λ l. take (last + 1 - first) (drop (first - from) l)) is
    ∙ take-within (last + 1 - first) (first - from) q (drop from whole) (omega (arith, fits, low, order))
    ∙ ap (λ l. take (last + 1 - first) l) (drop-drop (first - from) from whole ∙ ap (λ k. drop k whole) e)

-- the stretches from j up to k
pub laid-middle : {T : Type 0} (ss : List (Pinned T)) (next j k : ℕ) → AreLaid 0 ss next → j ≤ k → k ≤ length ss
    → AreLaid (first_at ss j next) (take (k - j) (drop j ss)) (first_at ss k next)
laid-middle ss next j k is jk within =
    let e : j + (k - j) ≡ k = omega (arith, jk) in
    subst (λ (z : ℕ). AreLaid (first_at ss j next) (take (k - j) (drop j ss)) z) (first-drop ss next j (k - j) ∙ ap (λ z. first_at ss z next) e)
    (laid-take (first_at ss j next) (drop j ss) next (k - j) (laid-drop 0 ss next j is) (rw (length-drop j ss) (omega (arith, jk, within))))

-- a part that begins at stretch j and ends before stretch k
pub cut-sealed : {T : Type 0} (ss : List (Pinned T)) (next j k first last : ℕ) → AreLaid 0 ss next → j ≤ k → k ≤ length ss → first_at ss j next ≤ first
    → first ≤ last → last < first_at ss k next
    → take (last + 1 - first) (drop (first - first_at ss j next) (joined (take (k - j) (drop j ss)) ++ [])) ≡ take (last + 1 - first) (drop first (joined ss))
cut-sealed ss next j k first last is jk within low order high =
    let mid = laid-middle ss next j k is jk within in
    let len = next-is (first_at ss j next) (take (k - j) (drop j ss)) (first_at ss k next) mid in
    cut (joined ss) (joined (take (k - j) (drop j ss)) ++ []) (first_at ss j next) first last (length (joined (take (k - j) (drop j ss))))
    (append-nil (joined (take (k - j) (drop j ss))) ∙ take-joined (drop j ss) (k - j) []
    ∙ ap (λ l. take (length (joined (take (k - j) (drop j ss)))) l) (dropped ss next j [] is (omega (arith, jk, within))
    ∙ ap (λ l. drop (first_at ss j next) l) (append-nil (joined ss))))
    (omega (arith, len, high)) low order

pub cut-both : {T : Type 0} (ss : List (Pinned T)) (next : ℕ) (rest : List T) (j first last : ℕ) → AreLaid 0 ss next → j ≤ length ss
    → first_at ss j next ≤ first → first ≤ last → next ≤ last
    → take (last + 1 - first) (drop (first - first_at ss j next) (joined (drop j ss) ++ take (last - next + 1) rest))
    ≡ take (last + 1 - first) (drop first (joined ss ++ rest))
cut-both ss next rest j first last is within low order high =
    let tail = laid-drop 0 ss next j is in
    let len = next-is (first_at ss j next) (drop j ss) next tail in
    cut (joined ss ++ rest) (joined (drop j ss) ++ take (last - next + 1) rest) (first_at ss j next) first last
    (length (joined (drop j ss)) + (last - next + 1))
    (sym (take-append-add (joined (drop j ss)) rest (last - next + 1))
    ∙ ap (λ l. take (length (joined (drop j ss)) + (last - next + 1)) l) (dropped ss next j rest is within))
    (omega (arith, len, high)) low order

-- the open part is sealed
pub sealed-laid : {T : Type 0} (ss more : List (Pinned T)) (next len : ℕ) (s : Pinned T) (rest : List T) → AreLaid 0 ss next → more ≡ ss ++ s ∷ []
    → s ≡ record { first = next; items = rest } → len ≡ length rest → AreLaid 0 more (next + len)
sealed-laid {T = T} ss more next len s rest is adds made size = subst (λ (l : List (Pinned T)). AreLaid 0 l (next + len)) (sym adds)
    (subst (λ (z : ℕ). AreLaid 0 (ss ++ s ∷ []) (next + z)) (ap (λ z. length z.items) made ∙ sym size)
    (laid-more 0 ss next s is (ap (λ z. z.first) made)))

pub sealed-joined : {T : Type 0} (ss more : List (Pinned T)) (next : ℕ) (s : Pinned T) (rest : List T) → more ≡ ss ++ s ∷ []
    → s ≡ record { first = next; items = rest } → joined more ++ [] ≡ joined ss ++ rest
sealed-joined ss more next s rest adds made =
    append-nil (joined more) ∙ ap (λ l. joined l) adds ∙ joined-more ss s ∙ ap (λ z. joined ss ++ z.items) made

-- what `pin_both` makes
pub record Both {T : Type 0} (ss : List (Pinned T)) (next : ℕ) (rest : List T) (j lo hi f : ℕ) (held : List (Pinned T)) (tail : List T)
    : Type 0 where
  pub laid : AreLaid 0 ss next
  pub there : j < length ss
  pub low : first_at ss j next ≤ lo
  pub begins : lo < next
  pub ends : next ≤ hi
  pub within : hi - next < length rest
  pub from : f ≡ first_at ss j next
  pub shares : held ≡ take (length ss - j) (drop j ss)
  pub copies : tail ≡ take (hi - next + 1) rest

held-is : {T : Type 0} (ss held : List (Pinned T)) (j : ℕ) → held ≡ take (length ss - j) (drop j ss) → held ≡ drop j ss
held-is ss held j is = is ∙ take_rest ss j

pub both-kept : {T : Type 0} (ss : List (Pinned T)) (next : ℕ) (rest : List T) (j first last from : ℕ) (held : List (Pinned T)) (tail : List T)
    → Both ss next rest j first last from held tail
    → (AreLaid from held next) × (from ≤ first) × (first ≤ last) × (last - from < length (joined held ++ tail))
both-kept ss next rest j first last from held tail b =
    let laid = laid-drop 0 ss next j b.laid in
    let len = next-is (first_at ss j next) (drop j ss) next laid in
    let w = b.within in let n = b.ends in let l = b.low in let f = b.begins in
    rw (b.from, held-is ss held j b.shares, b.copies, length-append (joined (drop j ss)) (take (last - next + 1) rest)) (
      laid,
      l,
      omega (arith, n, f),
      (let size : length (take (last - next + 1) rest) ≡ last - next + 1 = length-take-le (last - next + 1) rest (omega (arith, w)) in
          omega (arith, size, len, n, f, l)),
    )

pub both-is : {T : Type 0} (ss : List (Pinned T)) (next : ℕ) (rest : List T) (j first last from : ℕ) (held : List (Pinned T)) (tail : List T)
    → Both ss next rest j first last from held tail
    → take (last + 1 - first) (drop (first - from) (joined held ++ tail)) ≡ take (last + 1 - first) (drop first (joined ss ++ rest))
both-is ss next rest j first last from held tail b =
    let t = b.there in let n = b.ends in let f = b.begins in
    rw (b.from, held-is ss held j b.shares, b.copies)
    (cut-both ss next rest j first last b.laid (omega (arith, t)) b.low (omega (arith, n, f)) n)

-- what `pin_sealed` makes
pub record Sealed {T : Type 0} (ss : List (Pinned T)) (next j k lo hi f t : ℕ) (held : List (Pinned T)) (tail : List T) : Type 0 where
  pub laid : AreLaid 0 ss next
  pub there : k < length ss
  pub low : first_at ss j next ≤ lo
  pub high : hi < first_at ss (k + 1) next
  pub order : lo ≤ hi
  pub from : f ≡ first_at ss j next
  pub to : t ≡ first_at ss (k + 1) next
  pub shares : held ≡ take (k + 1 - j) (drop j ss)
  pub copies : tail ≡ []

sealed-order : {T : Type 0} (ss : List (Pinned T)) (next j k first last from to : ℕ) (held : List (Pinned T)) (tail : List T)
    → Sealed ss next j k first last from to held tail → j ≤ k + 1
sealed-order ss next j k first last from to held tail b =
    let o = before ss next j (k + 1) first last b.laid b.low b.order b.high in omega (arith, o)

pub sealed-kept : {T : Type 0} (ss : List (Pinned T)) (next j k first last from to : ℕ) (held : List (Pinned T)) (tail : List T)
    → Sealed ss next j k first last from to held tail
    → (AreLaid from held to) × (from ≤ first) × (first ≤ last) × (last - from < length (joined held ++ tail))
sealed-kept ss next j k first last from to held tail b =
    let t = b.there in
    let laid = laid-middle ss next j (k + 1) b.laid (sealed-order ss next j k first last from to held tail b) (omega (arith, t)) in
    let len = next-is (first_at ss j next) (take (k + 1 - j) (drop j ss)) (first_at ss (k + 1) next) laid in
    let l = b.low in let h = b.high in let o = b.order in
    rw (b.from, b.to, b.shares, b.copies, append-nil (joined (take (k + 1 - j) (drop j ss)))) (laid, l, o, omega (arith, len, l, h, o))

pub sealed-is : {T : Type 0} (ss : List (Pinned T)) (next j k first last from to : ℕ) (held : List (Pinned T)) (tail : List T)
    → Sealed ss next j k first last from to held tail
    → take (last + 1 - first) (drop (first - from) (joined held ++ tail)) ≡ take (last + 1 - first) (drop first (joined ss))
sealed-is ss next j k first last from to held tail b =
    let t = b.there in
    rw (b.from, b.shares, b.copies)
    (cut-sealed ss next j (k + 1) first last b.laid (sealed-order ss next j k first last from to held tail b) (omega (arith, t)) b.low b.order b.high)

-- a stretch of the rest, and one of the stretches
pub of-rest : {T : Type 0} (ss : List (Pinned T)) (next : ℕ) (rest : List T) (first last : ℕ) → AreLaid 0 ss next → next ≤ first
    → take (last + 1 - first) (drop (first - next) rest) ≡ take (last + 1 - first) (drop first (joined ss ++ rest))
of-rest ss next rest first last is le =
    let len = next-is 0 ss next is in
    let e : first ≡ length (joined ss) + (first - next) = omega (arith, len, le) in
    ap (λ l. take (last + 1 - first) l) (sym (drop-append-add (joined ss) rest (first - next)) ∙ ap (λ z. drop z (joined ss ++ rest)) (sym e))

pub of-sealed : {T : Type 0} (ss : List (Pinned T)) (next : ℕ) (rest : List T) (first last : ℕ) → AreLaid 0 ss next → first ≤ last → last < next
    → take (last + 1 - first) (drop first (joined ss)) ≡ take (last + 1 - first) (drop first (joined ss ++ rest))
of-sealed ss next rest first last is order lt =
    let len = next-is 0 ss next is in
    ap (λ l. take (last + 1 - first) (drop first l)) (sym (take-append_seam (joined ss) rest))
    ∙ take-within (last + 1 - first) first (length (joined ss)) (joined ss ++ rest) (omega (arith, len, order, lt))

pub rest-within : {T : Type 0} (ss : List (Pinned T)) (next : ℕ) (rest : List T) (last : ℕ) → AreLaid 0 ss next → next ≤ last
    → last < length (joined ss ++ rest) → last - next < length rest
rest-within ss next rest last is le lt =
    let len = next-is 0 ss next is in let size = length-append (joined ss) rest in omega (arith, len, size, le, lt)

-- what holds of an answer that is there
pub also : {A E : Type 0} {P Q : A → Type 0} → ((x : A) → P x → Q x) → (r : Result A E) → IfOk r P → IfOk r Q
also f (Ok x) p = f x p
also f (Err e) p = tt
