-- A chain that is walked from its head.
use Rattle.std.proofs.Common.{◌≡◌, ◌<◌, ℕ, true, List, [], ◌∷◌, refl, Some, None, Option}
use Rattle.std.specs.Prelude.{IfSome}
use Rattle.iso_record.specs.Undone.{columns_in}
use Rattle.iso_record.specs.declared.record.Record.{Record}
use Rattle.iso_segment.specs.Pinned.{Pinned, item_of}
use Rattle.iso_rebuild.specs.Chains.{AllIn, IsChain}

-- a chain goes from here, with its columns in a row of this width
abbrev pub IsLinked : Pinned Record → ℕ → Option ℕ → Type 0
IsLinked pin width at = (chain : List Record) × IsChain pin at chain × AllIn width chain

-- it ends
pub ends : (pin : Pinned Record) (width : ℕ) (at : Option ℕ) → at ≡ None → IsLinked pin width at
ends pin width at is = ([], is, refl)

-- one record more
pub link : (pin : Pinned Record) (width : ℕ) (at : Option ℕ) (k : ℕ) (n : Record) → at ≡ Some k → item_of pin k ≡ Some n → IfSome n.prev_row (λ j. j < k)
    → columns_in width n.change ≡ true → IsLinked pin width n.prev_row → IsLinked pin width at
link pin width at k n is item lower within rest = (n ∷ rest.0, (k, is, item, lower, rest.1), rw within rest.2)
