-- The passes of the voices 1, 2, ..: the one at k has the voice k + 1.
use Rattle.std.specs.Prelude.{◌≡◌, ℕ, ◌≤◌, ◌+◌, List, [], ◌∷◌, Option}
use lib.ListN.{get_elem?}
use mathlib.Core.Option.{some}
use Rattle.atomic_table.specs.Seated.{TableId}
use Rattle.atomic_table.specs.declared.shared.Seat.{Seat}
use Rattle.iso_history.specs.declared.entry.Entry.{Entry}
use Rattle.iso_latch.specs.Seen.{own, Continues}
use Rattle.iso_latch.specs.Told.{seen_of, voices_of, head_of}
use Rattle.iso_latch.specs.declared.pass.Pass.{Pass}
use Rattle.iso_latch.specs.declared.view.View.{View}

module _ {S : Type 0} where
  -- the pass at k is of this latch, and has just the voice k + 1
  abbrev pub Dealt : TableId → List (Pass S) → Type 0
  Dealt id passes = (k : ℕ) (p : Pass S) → get_elem? passes k ≡ some p → (p.seat.table_id ≡ id) × (voices_of p.seat ≡ (k + 1) ∷ [])

  -- each pass has the head of this one, and has seen what it has seen
  abbrev pub Fresh : Seat (Option S) View → List (Pass S) → Type 0
  Fresh seat passes = (k : ℕ) (p : Pass S) → get_elem? passes k ≡ some p → (head_of p.seat ≡ head_of seat) × (seen_of p.seat ≡ seen_of seat)

  -- from the place m on, the history begins with what each pass has seen, and what follows has no entry of its voice
  abbrev pub ContinuesFrom : ℕ → List (Pass S) → List Entry → Type 0
  ContinuesFrom m passes log = (k : ℕ) (p : Pass S) → m ≤ k → get_elem? passes k ≡ some p → Continues ((k + 1) ∷ []) (seen_of p.seat) log

  -- the history begins with what each pass has seen, and what follows has no entry of its voice
  abbrev pub AllContinue : List (Pass S) → List Entry → Type 0
  AllContinue passes log = ContinuesFrom 0 passes log

  -- the own entries of each pass stand in the history as the pass saw them
  abbrev pub OwnStay : List (Pass S) → List Entry → Type 0
  OwnStay passes log = (k : ℕ) (p : Pass S) → get_elem? passes k ≡ some p → own ((k + 1) ∷ []) log ≡ own ((k + 1) ∷ []) (seen_of p.seat)
