-- How the views change, and what the steps tell.
use Rattle.std.specs.Prelude.{◌≡◌, ◌≢◌, ℕ, Bool, true, false, List, [], ◌∷◌, ◌++◌, Option, Some, None}
use Rattle.atomic_table.specs.Table.{Me, Step}
use Rattle.atomic_table.specs.declared.shared.Seat.{Seat}
use Rattle.iso_history.specs.declared.entry.Entry.{Entry}
use Rattle.iso_types.specs.declared.head.Head.{Head}
use Rattle.iso_latch.specs.Rule.{modulo, Notes}
use Rattle.iso_latch.specs.Seen.{own, Continues, without, longer}
use Rattle.iso_latch.specs.declared.view.View.{View}
use Rattle.iso_latch.specs.declared.view.Part.{Part}
use Rattle.iso_latch.specs.declared.view.Stage.{Stage}
use Rattle.iso_latch.specs.declared.view.Stage.TheVariants.{Idle, Waits, Inside}

-- a view that gives a voice away
abbrev pub keeper : ℕ → View → View
keeper x v = record v { voices = without x v.voices; parts = [] }

-- the view that gets the voice
abbrev pub taker : ℕ → View → View
taker x v = record v { voices = x ∷ []; stage = Idle; parts = [] }

-- what is noted of a view that meets another
abbrev pub part_of : View → Part
part_of v = record { seen = v.seen; voices = v.voices }

-- a view that takes in another
abbrev pub met : View → View → View
met v w = record v { seen = longer v.seen w.seen; voices = v.voices ++ w.voices; parts = part_of v ∷ part_of w ∷ [] }

-- the view that was taken in
abbrev pub spent : View
spent = record { head = None; seen = []; voices = []; stage = Idle; parts = [] }

-- the ticket of a view that has one
abbrev pub ticket_of : Stage → ℕ
ticket_of Idle = 0
ticket_of (Waits t) = t
ticket_of (Inside t) = t

-- the view has its turn
abbrev pub is_inside : Stage → Bool
is_inside (Inside t) = true
is_inside _ = false

-- a seat's view and the slots that it holds
abbrev pub Sat : Type 0 → Type 0
Sat S = Me (Option S) View

module _ {S : Type 0} where
  -- the word was the ticket that the seat now waits with
  abbrev pub drew : Step (Option S) → Sat S → ℕ → Sat S → Type 0
  drew st m n m' = (t : ℕ) × (modulo t ≡ n) × (m' ≡ (record m.0 { stage = Waits t }, m.1))

  -- the seat has its turn and the slot, whose state goes on from all that it had seen
  abbrev pub Takes : (S → Head) → (S → List Entry) → Sat S → Sat S → Type 0
  Takes headf history m m' = (x : S) × (m' ≡ (record m.0 { stage = Inside (ticket_of m.0.stage); seen = history x; parts = [] }, (0, Some x) ∷ m.1))
      × (m.0.head ≡ Some (headf x)) × Continues m.0.voices m.0.seen (history x)

  -- where the word is its ticket the seat takes the slot, and else nothing changes
  abbrev pub looked : (S → Head) → (S → List Entry) → Step (Option S) → Sat S → ℕ → Sat S → Type 0
  looked headf history st m n m' = (n ≡ modulo (ticket_of m.0.stage) → Takes headf history m m') × (n ≢ modulo (ticket_of m.0.stage) → m' ≡ m)

  -- the seat has seen the history of the state that it holds
  abbrev pub grew : (S → List Entry) → Step (Option S) → Sat S → ℕ → Sat S → Type 0
  grew history st m n m' = (x : S) → m.1 ≡ (0, Some x) ∷ [] → m' ≡ (record m.0 { seen = history x; parts = [] }, m.1)

  -- the seat has given its turn and the slot back
  abbrev pub served_next : Step (Option S) → Sat S → ℕ → Sat S → Type 0
  served_next st m n m' = m' ≡ (record m.0 { stage = Idle }, [])

  -- what the meeting noted is true
  abbrev pub noted : Step (Option S) → Sat S → ℕ → Sat S → Type 0
  noted st m n m' = (m' ≡ m) × Notes m.0.seen m.0.parts

  -- the seat is as it was
  abbrev pub stood : Step (Option S) → Sat S → ℕ → Sat S → Type 0
  stood st m n m' = m' ≡ m

  -- it is the same seat of the same table
  abbrev pub IsSameSeat : Seat (Option S) View → Seat (Option S) View → Type 0
  IsSameSeat s t = (t.table_id ≡ s.table_id) × (t.id ≡ s.id)

  -- the history as far as the seat has seen it
  abbrev pub seen_of : Seat (Option S) View → List Entry
  seen_of s = s.me.0.seen

  -- the voices that the seat has
  abbrev pub voices_of : Seat (Option S) View → List ℕ
  voices_of s = s.me.0.voices

  -- the head of the latch's first state
  abbrev pub head_of : Seat (Option S) View → Option Head
  head_of s = s.me.0.head

  -- the own entries of a pass, in order: those of its voices among what it has seen
  abbrev pub own_of : Seat (Option S) View → List Entry
  own_of s = own s.me.0.voices s.me.0.seen
