-- Stretches that stand one after the other.
use Rattle.std.proofs.Common.{◌≡◌, ◌∙◌, ◌<◌, ◌≤◌, ℕ, zero, suc, ◌+◌, ◌-◌, List, [], ◌∷◌, ◌++◌, sym, subst, length, arith}
use Rattle.std.proofs.lemmas.List.{append_assoc, length-append}
use Rattle.std.specs.Prelude.{slice_get, slice_index_or}
use Rattle.iso_segment.specs.Pinned.{Pinned}
use Rattle.iso_segment.specs.Parts.{AreLaid, first_at, joined}
use Rattle.iso_segment.proofs.Lists.{get-left, get-right}

-- the next number is behind all items
pub next-is : {T : Type 0} (from : ℕ) (ss : List (Pinned T)) (next : ℕ) → AreLaid from ss next → next ≡ from + length (joined ss)
next-is from [] next is = omega (arith, is)
next-is from (s ∷ ss) next is = let e = next-is (from + length s.items) ss next is.1 in
    rw (length-append s.items (joined ss)) (omega (arith, e))

-- a stretch begins at or above the first number
pub first-from : {T : Type 0} (from : ℕ) (ss : List (Pinned T)) (next k : ℕ) → AreLaid from ss next → from ≤ first_at ss k next
first-from from [] next k is = omega (arith, is)
first-from from (s ∷ ss) next zero is = let e = is.0 in omega (arith, e)
first-from from (s ∷ ss) next (suc k) is = let e = first-from (from + length s.items) ss next k is.1 in omega (arith, e)

-- an item of the rest
pub in-rest : {T : Type 0} (from : ℕ) (ss : List (Pinned T)) (next : ℕ) (rest : List T) (n : ℕ) → AreLaid from ss next → next ≤ n
    → slice_get (joined ss ++ rest) (n - from) ≡ slice_get rest (n - next)
in-rest from ss next rest n is le = let e = next-is from ss next is in
    let i : n - from ≡ length (joined ss) + (n - next) = omega (arith, e, le) in
    rw i (get-right (joined ss) rest (n - next))

-- the first of them begins at the first number
next-first : {T : Type 0} (from : ℕ) (ss : List (Pinned T)) (next : ℕ) → AreLaid from ss next → first_at ss 0 next ≡ from
next-first from [] next is = sym is
next-first from (s ∷ ss) next is = is.0

pub first-below : {T : Type 0} (from : ℕ) (ss : List (Pinned T)) (next n : ℕ) → AreLaid from ss next → from ≤ n → first_at ss 0 next ≤ n
first-below from ss next n is le = rw (next-first from ss next is) le

-- an item of the stretch that has its number
pub record Held {T : Type 0} (from : ℕ) (ss : List (Pinned T)) (rest : List T) (n : ℕ) (s : Pinned T) : Type 0 where
  pub is : slice_get (joined ss ++ rest) (n - from) ≡ slice_get s.items (n - s.first)
  pub within : n - s.first < length s.items
  pub low : s.first ≤ n

pub in-stretch : {T : Type 0} (from : ℕ) (ss : List (Pinned T)) (next : ℕ) (rest : List T) (n k : ℕ) (s : Pinned T) → AreLaid from ss next
    → k < length ss → s ≡ slice_index_or ss k s → first_at ss k next ≤ n → n < first_at ss (k + 1) next → Held from ss rest n s
in-stretch from [] next rest n k s is lt at low high = absurd (omega (arith, lt))
in-stretch from (x ∷ ss) next rest n zero s is lt at low high = subst (Held from (x ∷ ss) rest n) (sym at)
    (let e = is.0 in
    let w = next-first (from + length x.items) ss next is.1 in
    let small : n - from < length x.items = omega (arith, e, w, low, high) in
    record {
      is = rw (append_assoc x.items (joined ss) rest, e) (get-left x.items (joined ss ++ rest) (n - from) small);
      within = rw e small;
      low = low;
    })
in-stretch from (x ∷ ss) next rest n (suc k) s is lt at low high =
    let b = first-from (from + length x.items) ss next k is.1 in
    let more : suc k + 1 ≡ suc (k + 1) = omega arith in
    let h = in-stretch (from + length x.items) ss next rest n k s is.1 (omega (arith, lt)) at low
    (subst (λ (z : ℕ). n < first_at (x ∷ ss) z next) more high) in
    let i : n - from ≡ length x.items + (n - (from + length x.items)) = omega (arith, b, low) in
    record {
      is = rw (append_assoc x.items (joined ss) rest, i) (get-right x.items (joined ss ++ rest) (n - (from + length x.items)) ∙ h.is);
      within = h.within;
      low = h.low;
    }
