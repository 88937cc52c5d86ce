-- The number of entries of a world is the length of its history.
use Rattle.std.proofs.Common.{◌≡◌, ◌+◌, ℕ, suc, List, [], ◌∷◌, length, ◌∙◌, arith}
use Rattle.iso_history.specs.After.{after, start, world, world_from}
use Rattle.iso_history.specs.World.{World}
use Rattle.iso_history.specs.declared.entry.Entry.{Entry}
use Rattle.iso_types.specs.declared.head.Head.{Head}

made-from : (head : Head) (w : World) (es : List Entry) → (world_from head w es).made ≡ w.made + length es
unfolding world_from
made-from head w [] = omega arith
made-from head w (e ∷ es) = let h = made-from head (after head w e) es in let n = later w.made (length es) in h ∙ n
  where
    later : (m n : ℕ) → (m + 1) + n ≡ m + suc n
    later m n = omega arith

pub made-is : (head : Head) (es : List Entry) → (world head es).made ≡ length es
unfolding world
made-is head es = let h = made-from head (start head) es in omega (arith, h)
