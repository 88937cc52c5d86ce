-- A pair that is added to an index of the parts, and one that is taken out again.
use Rattle.std.proofs.Common.{◌≡◌, ◌<◌, ℕ, length, Bool, true, false, not, ◌||◌, List, [], ◌∷◌, map, refl, ap, sym, ◌∙◌, Some, option_map, if◌then◌else◌}
use Rattle.std.specs.Prelude.{slice_get, slice_index_or, slice_set}
use Rattle.std.proofs.lemmas.List.{map-set, set-get_or, set-set}
use Rattle.std.proofs.lemmas.Option.{get_or_from_slice_get, slice_get-map}
use Rattle.iso_history.specs.Entries as pairs
use Rattle.iso_key.proofs.Pairs.{pair_same}
use Rattle.iso_key.proofs.Removed.{get-set, without-lacks}
use Rattle.iso_key.specs.Entries.{has_pair, with_pair, without_pair}
use Rattle.iso_key.specs.Pages.{entries, inserted, placed}
use Rattle.iso_locklist.proofs.Settles.{gone, kept}
use Rattle.iso_state.specs.Stands.{Content, content_of}
use Rattle.iso_state.specs.declared.parts.Parts.{Parts}
use Rattle.iso_types.specs.Ids.{pair_eq, pair_lt}
use Rattle.iso_types.specs.declared.value.Rid.{Rid}
use Rattle.iso_types.specs.declared.value.Value.{Value}
use Rattle.iso_writes.specs.Changing.{with_pair_at, without_added}

-- an index adds a pair as the history does
pub with-same : (q : Value × Rid) (es : List (Value × Rid)) → with_pair q es ≡ pairs.with_pair q es
with-same q [] = refl
with-same q (x ∷ es) =
    ap (λ (l : List (Value × Rid)). if pair_lt q x then q ∷ x ∷ es else if pair_eq q x then x ∷ es else x ∷ l) (with-same q es)

-- a pair that was not there is gone again
pub with-without : (q : Value × Rid) (es : List (Value × Rid)) → has_pair es q ≡ false → without_pair q (with_pair q es) ≡ es
with-without q [] none = gone (λ x. not (pair_eq q x)) q [] (ap not (pair_same q))
with-without q (x ∷ es) none = go (pair_lt q x) (pair_eq q x) refl none (with-without q es)
  where
    go : (less same : Bool) → pair_eq q x ≡ same → (same || has_pair es q) ≡ false
        → (has_pair es q ≡ false → without_pair q (with_pair q es) ≡ es)
        → without_pair q (if less then q ∷ x ∷ es else if same then x ∷ es else x ∷ with_pair q es) ≡ x ∷ es
    go less true e h ih = cc h
    go true false e h ih =
        gone (λ y. not (pair_eq q y)) q (x ∷ es) (ap not (pair_same q)) ∙ kept (λ y. not (pair_eq q y)) x es (ap not e)
        ∙ ap (λ (l : List (Value × Rid)). x ∷ l) (without-lacks q es h)
    go false false e h ih =
        kept (λ y. not (pair_eq q y)) x (with_pair q es) (ap not e) ∙ ap (λ (l : List (Value × Rid)). x ∷ l) (ih h)

module _ (p : Parts) (at : ℕ) (old : List (List (Value × Rid))) (there : slice_get p.indexes at ≡ Some old) where
  -- the pairs of the index
  pub pairs-at : slice_index_or (map entries p.indexes) at [] ≡ entries old
  pairs-at =
      get_or_from_slice_get (map entries p.indexes) at (entries old) []
      (slice_get-map entries p.indexes at ∙ ap (option_map entries) there)

  -- the parts with another index
  set-at : (new : List (List (Value × Rid))) → map entries (slice_set p.indexes at new) ≡ slice_set (map entries p.indexes) at (entries new)
  set-at new = map-set entries p.indexes at new

  pub pair-added : (new : List (List (Value × Rid))) (q : Value × Rid) → entries new ≡ with_pair q (entries old)
      → content_of (record p { indexes = slice_set p.indexes at new }) ≡ with_pair_at (content_of p) at q
  pair-added new q e =
      ap (λ (es : List (List (Value × Rid))). record (content_of p) { entries = es })
      (set-at new
      ∙ ap (λ (l : List (Value × Rid)). slice_set (map entries p.indexes) at l)
      (e ∙ with-same q (entries old) ∙ ap (pairs.with_pair q) (sym pairs-at)))

  pub pair-taken : (new : List (List (Value × Rid))) (q : Value × Rid) → entries new ≡ without_pair q (entries old)
      → content_of (record p { indexes = slice_set p.indexes at new }) ≡ without_added true (content_of p) at q
  pair-taken new q e =
      ap (λ (es : List (List (Value × Rid))). record (content_of p) { entries = es })
      (set-at new ∙ ap (λ (l : List (Value × Rid)). slice_set (map entries p.indexes) at l) (e ∙ ap (without_pair q) (sym pairs-at)))

  -- where the index stays, so do the parts
  pub pair-kept : (new : List (List (Value × Rid))) → new ≡ old → content_of (record p { indexes = slice_set p.indexes at new }) ≡ content_of p
  pair-kept new e =
      ap (λ (xs : List (List (List (Value × Rid)))). content_of (record p { indexes = xs }))
      (ap (slice_set p.indexes at) (e ∙ sym (get_or_from_slice_get p.indexes at old [] there)) ∙ set-get_or p.indexes at [])

  -- a pair that was there is not added
  pub pair-there : (new : List (List (Value × Rid))) (q : Value × Rid) → new ≡ inserted q old → not (has_pair (entries old) q) ≡ false
      → content_of (record p { indexes = slice_set p.indexes at new }) ≡ content_of p
  pair-there new q e there = pair-kept new (e ∙ go (has_pair (entries old) q) there)
    where
      go : (b : Bool) → not b ≡ false → (if b then old else placed q old) ≡ old
      go true h = refl
      go false h = cc h

-- a pair that was added and taken out again leaves all as it was
pub back-again : (p m n : Content) (at : ℕ) (q : Value × Rid) (added : Bool) → at < length p.entries
    → added ≡ not (has_pair (slice_index_or p.entries at []) q) → m ≡ with_pair_at p at q → (added ≡ false → m ≡ p)
    → n ≡ without_added added m at q → n ≡ p
back-again p m n at q false lt is made same back = back ∙ same refl
back-again p m n at q true lt is made same back =
    let es = p.entries in
    let x = slice_index_or es at [] in
    back ∙ ap (λ (k : Content). without_added true k at q) made
    ∙ ap (λ (l : List (List (Value × Rid))). record p { entries = l })
    (ap (λ (l : List (Value × Rid)). slice_set (slice_set es at (pairs.with_pair q x)) at (without_pair q l)) (get-set es at (pairs.with_pair q x) [] lt)
    ∙ set-set es at (pairs.with_pair q x) (without_pair q (pairs.with_pair q x))
    ∙ ap (λ (l : List (Value × Rid)). slice_set es at l)
    (ap (without_pair q) (sym (with-same q x)) ∙ with-without q x (off (has_pair x q) is))
    ∙ set-get_or es at [])
  where
    off : (b : Bool) → true ≡ not b → b ≡ false
    off false e = refl
    off true e = cc e
