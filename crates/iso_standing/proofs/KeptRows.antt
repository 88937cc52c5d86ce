-- What the scan of an UPDATE or DELETE has kept: each row is seen, fits its table and has a rid of its own, and the scan has passed it.
use Rattle.std.proofs.Common.{◌≡◌, ◌<◌, ◌+◌, ℕ, Bool, true, List, [], ◌∷◌, ◌++◌, refl, ap, sym, ◌∙◌, subst, arith, Option, Some, None}
use Rattle.iso_conduct.specs.Points.{Haul, found_rows, hauled}
use Rattle.iso_conduct.specs.Points.Haul.{Found, Given, Number}
use Rattle.iso_history.proofs.pending.Conns.{no-both}
use Rattle.iso_history.proofs.phantoms.Pairs.{pair-irrefl, pair-trans}
use Rattle.iso_history.specs.Guards.{is_lasting}
use Rattle.iso_history.specs.declared.entry.Want.{Want}
use Rattle.iso_predicate.specs.Truth.{value_at}
use Rattle.iso_types.specs.Head.{row_fits}
use Rattle.iso_types.specs.Ids.{pair_lt}
use Rattle.iso_types.specs.declared.head.Head.{Head}
use Rattle.iso_types.specs.declared.value.Rid.{Rid}
use Rattle.iso_types.specs.declared.value.TableId.{TableId}
use Rattle.iso_types.specs.declared.value.Value.{Value}

-- which row a slot shows, so that it stays
abbrev pub Seen : Type 1
Seen = TableId → Rid → List Value → Type 0

-- which rows are meant
abbrev pub Such : Type 1
Such = TableId → Rid → Type 0

-- ---- all rows of a list

-- each of these rows is such a one
abbrev pub AllSuch : (Rid → Type 0) → List (Rid × List Value) → Type 0
AllSuch such [] = Unit {0}
AllSuch such (k ∷ ks) = such k.0 × AllSuch such ks

pub any-such : (ks : List (Rid × List Value)) → AllSuch (λ q. Unit {0}) ks
any-such [] = tt
any-such (k ∷ ks) = (tt, any-such ks)

pub such-more : (a b : Rid → Type 0) → ((q : Rid) → a q → b q) → (ks : List (Rid × List Value)) → AllSuch a ks → AllSuch b ks
such-more a b f [] h = tt
such-more a b f (k ∷ ks) h = (f k.0 h.0, such-more a b f ks h.1)

-- with one more behind
pub such-behind : (a : Rid → Type 0) (ks : List (Rid × List Value)) (r : Rid) (row : List Value) → AllSuch a ks → a r → AllSuch a (ks ++ (r, row) ∷ [])
such-behind a [] r row h n = (n, tt)
such-behind a (k ∷ ks) r row h n = (h.0, such-behind a ks r row h.1 n)

-- ---- where the scan stands

-- what holds of a list of rows
abbrev pub Place : Type 1
Place = List (Rid × List Value) → Type 0

-- a table scan: their rids are below it
abbrev pub Below : ℕ → Place
Below n ks = AllSuch (λ q. q.0 < n) ks

-- an index scan: the pair of each row's key and rid is before this pair
abbrev pub AllBefore : ℕ → Value × Rid → Place
AllBefore column p [] = Unit {0}
AllBefore column p (k ∷ ks) = (pair_lt (value_at k.1 column, k.0) p ≡ true) × AllBefore column p ks

-- the pair comes after the position
abbrev pub comes_after : Option (Value × Rid) → Value × Rid → Bool
comes_after None p = true
comes_after (Some at) p = pair_lt at p

-- between two entries: each is before all pairs that are yet to come
abbrev pub Passed : ℕ → Option (Value × Rid) → Place
Passed column at ks = (p : Value × Rid) → comes_after at p ≡ true → AllBefore column p ks

pub below-more : (n : ℕ) (ks : List (Rid × List Value)) → Below n ks → Below (n + 1) ks
below-more n ks h = such-more (λ q. q.0 < n) (λ q. q.0 < n + 1) (λ q lt. omega (arith, lt)) ks h

pub below-apart : (r : Rid) (ks : List (Rid × List Value)) → Below r.0 ks → AllSuch (λ q. r ≡ q → ⊥) ks
below-apart r ks h = such-more (λ q. q.0 < r.0) (λ q. r ≡ q → ⊥) apart ks h
  where
    apart : (q : Rid) → q.0 < r.0 → r ≡ q → ⊥
    apart q lt e = let z : r.0 ≡ q.0 = ap (λ (x : Rid). x.0) e in omega (arith, lt, z)

-- what is before an entry is before each that comes after it
pub before-passed : (column : ℕ) (at : Value × Rid) (ks : List (Rid × List Value)) → AllBefore column at ks → Passed column (Some at) ks
before-passed column at [] h p e = tt
before-passed column at (k ∷ ks) h p e = (pair-trans (value_at k.1 column, k.0) at p h.0 e, before-passed column at ks h.1 p e)

before-behind : (column : ℕ) (p : Value × Rid) (ks : List (Rid × List Value)) (r : Rid) (row : List Value) → AllBefore column p ks
    → pair_lt (value_at row column, r) p ≡ true → AllBefore column p (ks ++ (r, row) ∷ [])
before-behind column p [] r row h n = (n, tt)
before-behind column p (k ∷ ks) r row h n = (h.0, before-behind column p ks r row h.1 n)

-- with the entry's own row, whose key is the entry's
pub passed-behind : (column : ℕ) (key : Value) (r : Rid) (row : List Value) (ks : List (Rid × List Value)) → value_at row column ≡ key
    → AllBefore column (key, r) ks → Passed column (Some (key, r)) (ks ++ (r, row) ∷ [])
passed-behind column key r row ks same h p e = before-behind column p ks r row (before-passed column (key, r) ks h p e)
    (subst (λ z. pair_lt (z, r) p ≡ true) (sym same) e)

-- ---- what is kept

module _ (head : Head) where
  -- the rows that a scan kept: they are seen, fit their table, and their rids differ
  abbrev pub AllKept : Seen → TableId → Place
  AllKept see t [] = Unit {0}
  AllKept see t (k ∷ ks) = see t k.0 k.1 × (row_fits head t k.1 ≡ true) × AllSuch (λ q. q ≡ k.0 → ⊥) ks × AllKept see t ks

  -- the same of what an UPDATE or DELETE kept, whose looks lock what they show, and where its scan stands
  abbrev pub Scanned : Seen → TableId → Want → Place → Haul → Type 0
  Scanned see t want place (Found ks) = (is_lasting want ≡ true) × AllKept see t ks × place ks
  Scanned see t want place kept = Unit {0}

  -- its rows are kept
  pub scanned-kept : (see : Seen) (t : TableId) (want : Want) (place : Place) (kept : Haul) → Scanned see t want place kept
      → AllKept see t (found_rows kept)
  scanned-kept see t want place (Found ks) k = k.1
  scanned-kept see t want place (Number n) k = tt
  scanned-kept see t want place (Given rows) k = tt

  -- from one world to another, for the rows that are meant
  module _ (see sees : Seen) (such : Such) (seen : (t : TableId) (r : Rid) (row : List Value) → such t r → see t r row → sees t r row) where
    kept-on : (t : TableId) (ks : List (Rid × List Value)) → AllSuch (such t) ks → AllKept see t ks → AllKept sees t ks
    kept-on t [] o k = tt
    kept-on t (x ∷ ks) o k = (seen t x.0 x.1 o.0 k.0, k.1, k.2, kept-on t ks o.1 k.3)

    pub scanned-on : (t : TableId) (want : Want) (place : Place) (kept : Haul) → AllSuch (such t) (found_rows kept) → Scanned see t want place kept
        → Scanned sees t want place kept
    scanned-on t want place (Found ks) o k = (k.0, kept-on t ks o k.1, k.2)
    scanned-on t want place (Number m) o k = tt
    scanned-on t want place (Given rows) o k = tt

  -- from one place to another
  pub scanned-place : (see : Seen) (t : TableId) (want : Want) (place places : Place) (kept : Haul)
      → ((ks : List (Rid × List Value)) → place ks → places ks) → Scanned see t want place kept → Scanned see t want places kept
  scanned-place see t want place places (Found ks) on k = (k.0, k.1, on ks k.2)
  scanned-place see t want place places (Number m) on k = tt
  scanned-place see t want place places (Given rows) on k = tt

  kept-more : (see : Seen) (t : TableId) (ks : List (Rid × List Value)) (r : Rid) (row : List Value) → see t r row → row_fits head t row ≡ true
      → AllSuch (λ q. r ≡ q → ⊥) ks → AllKept see t ks → AllKept see t (ks ++ (r, row) ∷ [])
  kept-more see t [] r row sees fits apart k = (sees, fits, tt, tt)
  kept-more see t (x ∷ ks) r row sees fits apart k =
      (k.0, k.1, such-behind (λ q. q ≡ x.0 → ⊥) ks r row k.2 apart.0, kept-more see t ks r row sees fits apart.1 k.3)

  -- one more row, of another rid
  pub scanned-more : (see : Seen) (t : TableId) (want : Want) (place places : Place) (kept : Haul) (r : Rid) (row given : List Value)
      → ((ks : List (Rid × List Value)) → see t r row → AllKept see t ks → place ks → AllSuch (λ q. r ≡ q → ⊥) ks)
      → ((ks : List (Rid × List Value)) → place ks → places (ks ++ (r, row) ∷ []))
      → ((ks : List (Rid × List Value)) → kept ≡ Found ks → see t r row × (row_fits head t row ≡ true))
      → Scanned see t want place kept → Scanned see t want places (hauled kept r row given)
  scanned-more see t want place places (Found ks) r row given apart on new k =
      let f = new ks refl in
      (k.0, kept-more see t ks r row f.0 f.1 (apart ks f.0 k.1 k.2) k.1, on ks k.2)
  scanned-more see t want place places (Number m) r row given apart on new k = tt
  scanned-more see t want place places (Given rows) r row given apart on new k = tt

  -- the row of an entry was not kept before: it would have been at another entry, with another key
  pub entry-apart : (see : Seen) → ((t : TableId) (r : Rid) (a b : List Value) → see t r a → see t r b → a ≡ b) → (t : TableId) (column : ℕ) (key : Value)
      (r : Rid) (row : List Value) → value_at row column ≡ key → see t r row → (ks : List (Rid × List Value)) → AllKept see t ks
      → AllBefore column (key, r) ks → AllSuch (λ q. r ≡ q → ⊥) ks
  entry-apart see once t column key r row same sees [] k h = tt
  entry-apart see once t column key r row same sees (x ∷ ks) k h = (apart, entry-apart see once t column key r row same sees ks k.3 h.1)
    where
      apart : r ≡ x.0 → ⊥
      apart e =
          let rows : row ≡ x.1 = once t r row x.1 sees (subst (λ z. see t z x.1) (sym e) k.0) in
          let keys : value_at x.1 column ≡ key = ap (λ z. value_at z column) (sym rows) ∙ same in
          no-both (subst (λ z. pair_lt (z, r) (key, r) ≡ true) keys (subst (λ z. pair_lt (value_at x.1 column, z) (key, r) ≡ true) (sym e) h.0))
          (pair-irrefl (key, r))
