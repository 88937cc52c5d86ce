-- The locks that a write takes: their names are new, and to add them is to place what its entry places.
use Rattle.std.proofs.Common.{◌≡◌, ◌≤◌, ◌<◌, ◌+◌, ◌-◌, ◌++◌, append_assoc, ℕ, zero, suc, Bool, true, false, not, ◌&&◌, List, [], ◌∷◌, map, refl, ap, sym, subst, ◌∙◌, arith, Some, None, Option, filter, if◌then◌else◌}
use Rattle.std.specs.List.{cons_option, list_any}
use Rattle.std.specs.Option.{option_map_or}
use Rattle.std.proofs.lemmas.Bool.Decides.{nat_tests}
use Rattle.iso_history.proofs.locks.Finds.{filter-here, filter-past}
use Rattle.iso_history.proofs.locks.Holds.{held-other}
use Rattle.iso_history.proofs.locks.Inherits.{inherited-new, is_index_of}
use Rattle.iso_history.proofs.locks.Same.{the_index}
use Rattle.iso_history.specs.Facts.{LocksSound}
use Rattle.iso_history.specs.Holds.{is_inherited, request_on}
use Rattle.iso_history.specs.Requests.{is_there}
use Rattle.iso_history.specs.World.{World}
use Rattle.iso_locklist.specs.Holding.{AreNew, IsNew, all_added}
use Rattle.iso_locklist.specs.declared.places.Asking.{Asking}
use Rattle.iso_modes.specs.declared.Mode.{Mode}
use Rattle.iso_modes.specs.declared.Mode.TheVariants.{S, X}
use Rattle.iso_modes.specs.declared.Term.TheVariants.{Kept}
use Rattle.iso_queue.specs.Locks.{Hold, Request, added, all_placed, is_covered, is_covered_on, placed}
use Rattle.iso_state.proofs.News.{no-holds, no-waits}
use Rattle.iso_types.specs.Head.{key_in, table_of}
use Rattle.iso_types.specs.Ids.{conn_eq, index_eq, name_eq}
use Rattle.iso_types.specs.declared.head.Head.{Head}
use Rattle.iso_types.specs.declared.value.Conn.{Conn}
use Rattle.iso_types.specs.declared.value.IndexId.{IndexId}
use Rattle.iso_types.specs.declared.value.Name.{Name}
use Rattle.iso_types.specs.declared.value.Name.TheVariants.{Key, Row, Table}
use Rattle.iso_types.specs.declared.value.Rid.{Rid}
use Rattle.iso_types.specs.declared.value.TableId.{TableId}
use Rattle.iso_types.specs.declared.value.Value.{Value}
use Rattle.iso_writes.proofs.Keyed.{numbered}
use Rattle.iso_writes.specs.Changing.{key_ask, key_asks, row_ask}

-- the list of what is asked for, with one more index looked at
joined : (xs : List Asking) (o : Option Asking) (ys : List Asking) → (xs ++ cons_option o []) ++ ys ≡ xs ++ cons_option o ys
joined xs None ys = rw append_assoc refl
joined xs (Some a) ys = rw append_assoc refl

pub one-more : (head : Head) (w : World) (c : Conn) (t : TableId) (row : List Value) (at end n : ℕ) → at < end → end ≡ n
    → (old new : List Asking) (whole : List Asking) (o : Option Asking) → o ≡ key_ask head w c t row (the_index at)
    → new ≡ old ++ cons_option o [] → old ++ key_asks head w c t row (n - at) at ≡ whole
    → new ++ key_asks head w c t row (n - (at + 1)) (at + 1) ≡ whole
one-more head w c t row at end n lt is old new whole o asked grown inv =
    let step : n - at ≡ suc (n - (at + 1)) = omega (arith, lt, is) in
    let rest = key_asks head w c t row (n - (at + 1)) (at + 1) in
    ap (λ (l : List Asking). l ++ rest) grown ∙ joined old o rest
    ∙ ap (λ (q : Option Asking). old ++ cons_option q rest) asked
    ∙ sym (ap (λ (k : ℕ). old ++ key_asks head w c t row k at) step) ∙ inv

and-none : (a b : Bool) → b ≡ false → (a && b) ≡ false
and-none true b e = e
and-none false b e = refl

-- a name of a row or key covers no other
abbrev pub IsFine : Name → Type 0
IsFine n = (t : TableId) → name_eq n (Table t) ≡ false

fine-key : (i : IndexId) (v : Value) → IsFine (Key i v)
unfolding name_eq
fine-key i v t = refl

fine-row : (t : TableId) (r : Rid) → IsFine (Row t r)
unfolding name_eq
fine-row t r u = refl

module _ (head : Head) (c : Conn) where
  pub covered-added : (hs : List Hold) (r : Request) → IsFine r.name → (n : Name) (m : Mode) → is_covered head (added hs c r) c n m ≡ is_covered head hs c n m
  covered-added hs r fine n m = go (table_of head n)
    where
      go : (o : Option TableId) → option_map_or (is_covered_on (added hs c r) c m) o false ≡ option_map_or (is_covered_on hs c m) o false
      go None = refl
      go (Some t) = rw (held-other c r c (Table t) (and-none (conn_eq c c) (name_eq r.name (Table t)) (fine t)) hs) refl

  placed-bare : (hs : List Hold) (r : Request) → is_covered head hs c r.name r.mode ≡ false → placed head hs c r ≡ added hs c r
  placed-bare hs r e = rw e refl

  placed-none : (hs : List Hold) (r : Request) → is_covered head hs c r.name r.mode ≡ true → placed head hs c r ≡ hs
  placed-none hs r e = rw e refl

-- the requests of a list of keys
abbrev pub requests : Head → World → Conn → TableId → List Value → List IndexId → List Request
requests head w c t row is =
    map (λ n. request_on n (S, Kept)) (map (λ i. Key i (key_in head i row)) (filter (is_inherited head w c row) (filter (is_index_of head t) is)))

module _ (head : Head) (w : World) (c : Conn) (t : TableId) (row : List Value) where
  -- table locks cover as in the world
  abbrev pub Covers : List Hold → Type 0
  Covers hs = (n : Name) (m : Mode) → is_covered head hs c n m ≡ is_covered head w.holds c n m

  more : (hs : List Hold) (r : Request) → IsFine r.name → Covers hs → Covers (added hs c r)
  more hs r fine same n m = covered-added head c hs r fine n m ∙ same n m

  request-of : IndexId → Request
  request-of i = request_on (Key i (key_in head i row)) (S, Kept)

  -- an index that is not the table's, or whose key is not inherited, has no request
  off-table : (i : IndexId) (is : List IndexId) → is_index_of head t i ≡ false → requests head w c t row (i ∷ is) ≡ requests head w c t row is
  off-table i is e = rw (filter-past (is_index_of head t) i is e) refl

  not-inherited : (i : IndexId) (is : List IndexId) → is_index_of head t i ≡ true → is_inherited head w c row i ≡ false
      → requests head w c t row (i ∷ is) ≡ requests head w c t row is
  not-inherited i is e f =
      rw (filter-here (is_index_of head t) i is e, filter-past (is_inherited head w c row) i (filter (is_index_of head t) is) f) refl

  is-inherited : (i : IndexId) (is : List IndexId) → is_index_of head t i ≡ true → is_inherited head w c row i ≡ true
      → requests head w c t row (i ∷ is) ≡ request_on (Key i (key_in head i row)) (S, Kept) ∷ requests head w c t row is
  is-inherited i is e f =
      rw (filter-here (is_index_of head t) i is e, filter-here (is_inherited head w c row) i (filter (is_index_of head t) is) f) refl

  -- what is asked for a key
  none-off : (i : IndexId) → is_index_of head t i ≡ false → key_ask head w c t row i ≡ None
  none-off i e = rw e refl

  none-kept : (i : IndexId) → is_index_of head t i ≡ true → is_inherited head w c row i ≡ false → key_ask head w c t row i ≡ None
  none-kept i e f = rw (e, f) refl

  none-bare : (i : IndexId) → is_index_of head t i ≡ true → is_inherited head w c row i ≡ true
      → is_covered head w.holds c (Key i (key_in head i row)) S ≡ true → key_ask head w c t row i ≡ None
  none-bare i e f g = rw (e, f, g) refl

  one-asked : (i : IndexId) → is_index_of head t i ≡ true → is_inherited head w c row i ≡ true
      → is_covered head w.holds c (Key i (key_in head i row)) S ≡ false
      → key_ask head w c t row i ≡ Some (record { name = Key i (key_in head i row); mode = S })
  one-asked i e f g = rw (e, f, g) refl

  -- to place them is to add what is asked for
  pub keys-placed : (n k : ℕ) (hs : List Hold) → Covers hs
      → all_placed head hs c (requests head w c t row (numbered k n)) ≡ all_added hs c (key_asks head w c t row n k)
  keys-placed zero k hs same = refl
  keys-placed (suc n) k hs same =
      go (is_index_of head t i) refl (is_inherited head w c row i) refl (is_covered head w.holds c (Key i v) S) refl (keys-placed n (k + 1))
    where
      i : IndexId
      i = the_index k

      v : Value
      v = key_in head (the_index k) row

      rest : List IndexId
      rest = numbered (k + 1) n

      IsPlaced : List Hold → Type 0
      IsPlaced hs = all_placed head hs c (requests head w c t row (numbered (k + 1) n)) ≡ all_added hs c (key_asks head w c t row n (k + 1))

      skips : requests head w c t row (numbered k (suc n)) ≡ requests head w c t row (numbered (k + 1) n)
          → key_ask head w c t row (the_index k) ≡ None
          → all_placed head hs c (requests head w c t row (numbered (k + 1) n)) ≡ all_added hs c (key_asks head w c t row n (k + 1))
          → all_placed head hs c (requests head w c t row (numbered k (suc n))) ≡ all_added hs c (key_asks head w c t row (suc n) k)
      skips e f ih =
          ap (all_placed head hs c) e ∙ ih
          ∙ ap (λ (o : Option Asking). all_added hs c (cons_option o (key_asks head w c t row n (k + 1)))) (sym f)

      go : (a : Bool) → is_index_of head t (the_index k) ≡ a → (b : Bool) → is_inherited head w c row (the_index k) ≡ b
          → (d : Bool) → is_covered head w.holds c (Key (the_index k) (key_in head (the_index k) row)) S ≡ d
          → ((gs : List Hold) → Covers gs
          → all_placed head gs c (requests head w c t row (numbered (k + 1) n)) ≡ all_added gs c (key_asks head w c t row n (k + 1)))
          → all_placed head hs c (requests head w c t row (numbered k (suc n))) ≡ all_added hs c (key_asks head w c t row (suc n) k)
      go false e b f d g ih = skips (off-table (the_index k) (numbered (k + 1) n) e) (none-off (the_index k) e) (ih hs same)
      go true e false f d g ih = skips (not-inherited (the_index k) (numbered (k + 1) n) e f) (none-kept (the_index k) e f) (ih hs same)
      go true e true f true g ih =
          let q = request_on (Key (the_index k) (key_in head (the_index k) row)) (S, Kept) in
          ap (all_placed head hs c) (is-inherited (the_index k) (numbered (k + 1) n) e f)
          ∙ ap (λ (l : List Hold). all_placed head l c (requests head w c t row (numbered (k + 1) n)))
          (placed-none head c hs q (same (Key (the_index k) (key_in head (the_index k) row)) S ∙ g))
          ∙ ih hs same
          ∙ ap (λ (o : Option Asking). all_added hs c (cons_option o (key_asks head w c t row n (k + 1)))) (sym (none-bare (the_index k) e f g))
      go true e true f false g ih =
          let q = request_on (Key (the_index k) (key_in head (the_index k) row)) (S, Kept) in
          ap (all_placed head hs c) (is-inherited (the_index k) (numbered (k + 1) n) e f)
          ∙ ap (λ (l : List Hold). all_placed head l c (requests head w c t row (numbered (k + 1) n)))
          (placed-bare head c hs q (same (Key (the_index k) (key_in head (the_index k) row)) S ∙ g))
          ∙ ih (added hs c q) (more hs q (fine-key (the_index k) (key_in head (the_index k) row)) same)
          ∙ ap (λ (o : Option Asking). all_added hs c (cons_option o (key_asks head w c t row n (k + 1)))) (sym (one-asked (the_index k) e f g))

-- a lock on a row covers no other
pub row-covers : (head : Head) (w : World) (c : Conn) (t : TableId) (r : Rid) (n : Name) (m : Mode)
    → is_covered head (added w.holds c (request_on (Row t r) (X, Kept))) c n m ≡ is_covered head w.holds c n m
row-covers head w c t r n m = covered-added head c w.holds (request_on (Row t r) (X, Kept)) (fine-row t r) n m

-- ---- their names are new
-- no two keys of different indexes are the same
keys-apart : (i j : IndexId) (v u : Value) → index_eq i j ≡ false → name_eq (Key i v) (Key j u) ≡ false
unfolding name_eq
keys-apart i j v u e = rw e refl

row-apart : (t : TableId) (r : Rid) (j : IndexId) (u : Value) → name_eq (Row t r) (Key j u) ≡ false
unfolding name_eq
row-apart t r j u = refl

module _ (head : Head) (w : World) (c : Conn) (t : TableId) (row : List Value) where
  -- what is asked for a key, by its tests
  asked-by : (i : IndexId) → Bool → Bool → Option Asking
  asked-by i inherits bare = if inherits && not bare then Some (record { name = Key i (key_in head i row); mode = S }) else None

  -- a name that is none of the keys is none of what is asked for
  pub none-same : (n : Name) (from : ℕ) → ((k : ℕ) → from ≤ k → name_eq n (Key (the_index k) (key_in head (the_index k) row)) ≡ false)
      → (m k : ℕ) → from ≤ k → list_any (λ b. name_eq n b.name) (key_asks head w c t row m k) ≡ false
  none-same n from other zero k le = refl
  none-same n from other (suc m) k le =
      go (is_index_of head t (the_index k)) refl (is_inherited head w c row (the_index k)) refl
      (is_covered head w.holds c (Key (the_index k) (key_in head (the_index k) row)) S) refl (none-same n from other m (k + 1) (omega (arith, le)))
    where
      rest : List Asking → Bool
      rest l = list_any (λ b. name_eq n b.name) l

      with-ask : (o : Option Asking) → key_ask head w c t row (the_index k) ≡ o
          → list_any (λ b. name_eq n b.name) (cons_option o (key_asks head w c t row m (k + 1))) ≡ false
          → list_any (λ b. name_eq n b.name) (key_asks head w c t row (suc m) k) ≡ false
      with-ask o e h = ap (λ (q : Option Asking). list_any (λ b. name_eq n b.name) (cons_option q (key_asks head w c t row m (k + 1)))) e ∙ h

      go : (a : Bool) → is_index_of head t (the_index k) ≡ a → (b : Bool) → is_inherited head w c row (the_index k) ≡ b
          → (d : Bool) → is_covered head w.holds c (Key (the_index k) (key_in head (the_index k) row)) S ≡ d
          → list_any (λ b. name_eq n b.name) (key_asks head w c t row m (k + 1)) ≡ false
          → list_any (λ b. name_eq n b.name) (key_asks head w c t row (suc m) k) ≡ false
      go false e b f d g ih = with-ask None (none-off head w c t row (the_index k) e) ih
      go true e false f d g ih = with-ask None (none-kept head w c t row (the_index k) e f) ih
      go true e true f true g ih = with-ask None (none-bare head w c t row (the_index k) e f g) ih
      go true e true f false g ih =
          with-ask (Some (record { name = Key (the_index k) (key_in head (the_index k) row); mode = S })) (one-asked head w c t row (the_index k) e f g)
          (rw (other k le) ih)

  module _ (sound : LocksSound head w) where
    pub new-at : (n : Name) → is_there head w n ≡ false → IsNew w.holds w.waits n
    new-at n away = record {
      held = no-holds head w n sound.there sound.awaited_there sound.alone away;
      awaited = no-waits head w n sound.there sound.awaited_there sound.alone away;
    }

    pub keys-new : (m k : ℕ) → AreNew w.holds w.waits (key_asks head w c t row m k)
    keys-new zero k = tt
    keys-new (suc m) k =
        go (is_index_of head t (the_index k)) refl (is_inherited head w c row (the_index k)) refl
        (is_covered head w.holds c (Key (the_index k) (key_in head (the_index k) row)) S) refl (keys-new m (k + 1))
      where
        with-ask : (o : Option Asking) → key_ask head w c t row (the_index k) ≡ o
            → AreNew w.holds w.waits (cons_option o (key_asks head w c t row m (k + 1))) → AreNew w.holds w.waits (key_asks head w c t row (suc m) k)
        with-ask o e h = subst (λ (q : Option Asking). AreNew w.holds w.waits (cons_option q (key_asks head w c t row m (k + 1)))) (sym e) h

        apart : (j : ℕ) → k + 1 ≤ j
            → name_eq (Key (the_index k) (key_in head (the_index k) row)) (Key (the_index j) (key_in head (the_index j) row)) ≡ false
        apart j le =
            keys-apart (the_index k) (the_index j) (key_in head (the_index k) row) (key_in head (the_index j) row) (grind (arith, nat_tests, le))

        go : (a : Bool) → is_index_of head t (the_index k) ≡ a → (b : Bool) → is_inherited head w c row (the_index k) ≡ b
            → (d : Bool) → is_covered head w.holds c (Key (the_index k) (key_in head (the_index k) row)) S ≡ d
            → AreNew w.holds w.waits (key_asks head w c t row m (k + 1)) → AreNew w.holds w.waits (key_asks head w c t row (suc m) k)
        go false e b f d g ih = with-ask None (none-off head w c t row (the_index k) e) ih
        go true e false f d g ih = with-ask None (none-kept head w c t row (the_index k) e f) ih
        go true e true f true g ih = with-ask None (none-bare head w c t row (the_index k) e f g) ih
        go true e true f false g ih =
            with-ask (Some (record { name = Key (the_index k) (key_in head (the_index k) row); mode = S })) (one-asked head w c t row (the_index k) e f g) (
              new-at (Key (the_index k) (key_in head (the_index k) row)) (inherited-new head w c row (the_index k) f),
              none-same (Key (the_index k) (key_in head (the_index k) row)) (k + 1) apart m (k + 1) (omega arith),
              ih,
            )

    -- the row's name is new, too, where it has no slot yet
    pub asks-new : (r : Rid) → is_there head w (Row t r) ≡ false → (m : ℕ)
        → AreNew w.holds w.waits (cons_option (row_ask head w c t r) (key_asks head w c t row m 0))
    asks-new r away m = go (is_covered head w.holds c (Row t r) X) refl
      where
        with-ask : (o : Option Asking) → row_ask head w c t r ≡ o → AreNew w.holds w.waits (cons_option o (key_asks head w c t row m 0))
            → AreNew w.holds w.waits (cons_option (row_ask head w c t r) (key_asks head w c t row m 0))
        with-ask o e h = subst (λ (q : Option Asking). AreNew w.holds w.waits (cons_option q (key_asks head w c t row m 0))) (sym e) h

        go : (b : Bool) → is_covered head w.holds c (Row t r) X ≡ b
            → AreNew w.holds w.waits (cons_option (row_ask head w c t r) (key_asks head w c t row m 0))
        go true e = with-ask None (rw e refl) (keys-new m 0)
        go false e =
            with-ask (Some (record { name = Row t r; mode = X })) (rw e refl) (
              new-at (Row t r) away,
              none-same (Row t r) 0 (λ k le. row-apart t r (the_index k) (key_in head (the_index k) row)) m 0 (omega arith),
              keys-new m 0,
            )
