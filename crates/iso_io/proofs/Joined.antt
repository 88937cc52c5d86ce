-- One move after another.
use Rattle.std.proofs.Common.{◌≡◌, ℕ, ◌+◌, ◌≤◌, List, ◌++◌, length, take, drop, sym, append_assoc, Option, None, Some, arith}
use Rattle.std.proofs.Math.Seq.{take-add}
use Rattle.std.proofs.lemmas.List.{length-take}
use Rattle.std.specs.Io.KnownBytes.{Appends, Consumes}

pub Consumes-then : (o m n : Option (List ℕ)) (xs ys : List ℕ) → Consumes o m xs → Consumes m n ys → Consumes o n (xs ++ ys)
Consumes-then None m n xs ys h g = tt
Consumes-then (Some a) None n xs ys h g = absurd h
Consumes-then (Some a) (Some b) None xs ys h g = absurd g
Consumes-then (Some a) (Some b) (Some c) xs ys h g = rw (h, g) (sym (append_assoc xs ys c))

pub Appends-then : (o m n : Option (List ℕ)) (xs ys : List ℕ) → Appends o m xs → Appends m n ys → Appends o n (xs ++ ys)
Appends-then None m n xs ys h g = tt
Appends-then (Some a) None n xs ys h g = absurd h
Appends-then (Some a) (Some b) None xs ys h g = absurd g
Appends-then (Some a) (Some b) (Some c) xs ys h g = rw (g, h) (append_assoc a xs ys)

pub Appends-piece : (o m n : Option (List ℕ)) (bytes : List ℕ) (at k : ℕ) → Appends o m (take at bytes)
    → Appends m n (take k (drop at bytes)) → Appends o n (take (at + k) bytes)
Appends-piece o m n bytes at k h g = rw take-add (Appends-then o m n (take at bytes) (take k (drop at bytes)) h g)

pub no_more_than_room : (buf new : List ℕ) (room n : ℕ) → length new ≡ length (take room buf) → n ≤ length new → n ≤ room
no_more_than_room buf new room n e h = let k = rw length-take at e in omega arith
