-- Passes that threads promised to bring back.
use Rattle.std.specs.Prelude.{◌≡◌, ℕ, ◌-◌, List, [], ◌∷◌}
use mathlib.Core.Option.{some}
use lib.ListN.{get_elem?}
use Rattle.std.specs.declared.thread.PromisedHandle.{PromisedHandle}
use Rattle.atomic_table.specs.Seated.{TableId}
use Rattle.iso_latch.specs.Told.{voices_of}
use Rattle.iso_latch.specs.declared.pass.Pass.{Pass}

module _ {S : Type 0} where
  -- the same pass, later
  abbrev pub SamePass : Pass S → Pass S → Type 0
  SamePass p q = (q.seat.table_id ≡ p.seat.table_id) × (voices_of q.seat ≡ voices_of p.seat)

  -- of n threads in all, that were started from the last voice down, the one at j was given the pass with the voice n - j
  abbrev pub Promised : {X D : Type 0} → (D → Pass S) → TableId → ℕ → List (PromisedHandle X D) → Type 0
  Promised {X} {D} given id n children = (j : ℕ) (h : PromisedHandle X D) → get_elem? children j ≡ some h → ((given h.promise).seat.table_id ≡ id) × (voices_of (given h.promise).seat ≡ (n - j) ∷ [])
