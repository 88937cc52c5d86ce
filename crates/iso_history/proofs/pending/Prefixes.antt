-- The worlds along a history, and what follows each of its entries.
use Rattle.std.proofs.Common.{List, [], ◌∷◌, ◌≡◌, ◌+◌, ℕ, zero, suc, refl, ap, sym, Some, subst, take, drop, slice_get, add-one}
use Rattle.iso_history.specs.After.{after, start, world, world_from}
use Rattle.iso_history.specs.Facts.{IsSound}
use Rattle.iso_history.specs.Guards.{world_at}
use Rattle.iso_history.specs.Legal.{Allowed, Ground, GroundFrom}
use Rattle.iso_history.specs.World.{World}
use Rattle.iso_history.specs.declared.entry.Entry.{Entry}
use Rattle.iso_types.specs.declared.head.Head.{Head}

module _ (head : Head) where
  -- each world from this one on is sound
  abbrev pub SoundFrom : World → List Entry → Type 0
  SoundFrom w es = (k : ℕ) → IsSound head (world_from head w (take k es))

  -- the entries after the first k
  pub rest-ground : (w : World) (es : List Entry) (k : ℕ) → GroundFrom head w es → GroundFrom head (world_from head w (take k es)) (drop k es)
  unfolding world_from GroundFrom
  rest-ground w es zero g = g
  rest-ground w [] (suc k) g = tt
  rest-ground w (e ∷ es) (suc k) g = rest-ground (after head w e) es k g.1

  pub rest-sound : (w : World) (es : List Entry) (k : ℕ) → SoundFrom w es → SoundFrom (world_from head w (take k es)) (drop k es)
  unfolding world_from
  rest-sound w es zero s = s
  rest-sound w [] (suc k) s = λ j. subst (IsSound head) (empty j) (s zero)
    where
      empty : (j : ℕ) → w ≡ world_from head w (take j [])
      empty zero = refl
      empty (suc j) = refl
  rest-sound w (e ∷ es) (suc k) s = rest-sound (after head w e) es k (λ j. s (suc j))

  -- entry k, and the world after it
  entry-at : (w : World) (es : List Entry) (k : ℕ) (e : Entry) → slice_get es k ≡ Some e → GroundFrom head w es
      → Allowed head (world_from head w (take k es)) e × (world_from head w (take (suc k) es) ≡ after head (world_from head w (take k es)) e)
  unfolding world_from GroundFrom
  entry-at w [] k e q g = cc
  entry-at w (x ∷ xs) zero e q g = let is : x ≡ e = some-is q in (subst (Allowed head w) is g.0, ap (after head w) is)
    where
      some-is : Some x ≡ Some e → x ≡ e
      some-is p = cc
  entry-at w (x ∷ xs) (suc k) e q g = entry-at (after head w x) xs k e q g.1

  -- the same of the whole history
  pub at-entry : (es : List Entry) (k : ℕ) (e : Entry) → slice_get es k ≡ Some e → Ground head es
      → Allowed head (world_at head es k) e × (world_at head es (k + 1) ≡ after head (world_at head es k) e)
  unfolding world Ground
  at-entry es k e q g = subst (λ (z : ℕ). Allowed head (world_at head es k) e × (world_at head es z ≡ after head (world_at head es k) e)) (sym (add-one k))
      (entry-at (start head) es k e q g)

  pub at-ground : (es : List Entry) (k : ℕ) → Ground head es → GroundFrom head (world_at head es k) (drop k es)
  unfolding world Ground
  at-ground es k g = rest-ground (start head) es k g

  pub at-sound : (es : List Entry) (k : ℕ) → ((j : ℕ) → IsSound head (world_at head es j)) → SoundFrom (world_at head es k) (drop k es)
  unfolding world
  at-sound es k s = rest-sound (start head) es k s

  -- what the start has and each allowed entry keeps, each prefix has
  along_at-from : (P : World → Type 0) → ((w : World) (e : Entry) → Allowed head w e → P w → P (after head w e)) → (w : World) (es : List Entry) (k : ℕ)
      → P w → GroundFrom head w es → P (world_from head w (take k es))
  unfolding world_from GroundFrom
  along_at-from P step w es zero p g = p
  along_at-from P step w [] (suc k) p g = p
  along_at-from P step w (e ∷ es) (suc k) p g = along_at-from P step (after head w e) es k (step w e g.0 p) g.1

  pub along_at : (P : World → Type 0) → ((w : World) (e : Entry) → Allowed head w e → P w → P (after head w e)) → (es : List Entry) (k : ℕ)
      → P (start head) → Ground head es → P (world_at head es k)
  unfolding world Ground
  along_at P step es k p g = along_at-from P step (start head) es k p g
