-- The rule of the latch. Word 0 counts the tickets that were drawn, word 1 those that were served, word 2 the entries of the history, all modulo 2^64. Word 3 is the door, of which the rule says nothing: it only shapes who sleeps.
use Rattle.std.specs.Prelude.{◌≡◌, ◌≢◌, ℕ, ◌+◌, ◌%◌, ◌<◌, ◌≤◌, true, false, List, [], ◌∷◌, length, Option, Some}
use mathlib.Core.Option.{some}
use mathlib.Core.Option as maybe
use lib.ListN.{get_elem?}
use Rattle.atomic_table.specs.Table.{State}
use Rattle.iso_history.specs.Voices.{voice_of}
use Rattle.iso_history.specs.declared.entry.Entry.{Entry}
use Rattle.iso_types.specs.declared.head.Head.{Head}
use Rattle.iso_latch.specs.Seen.{has, Continues, below}
use Rattle.iso_latch.specs.declared.view.View.{View}
use Rattle.iso_latch.specs.declared.view.Part.{Part}
use Rattle.iso_latch.specs.declared.view.Stage.{Stage}
use Rattle.iso_latch.specs.declared.view.Stage.TheVariants.{Idle, Waits, Inside}

-- where the state is: at home, or out with the seat of this number
pub data Place (S : Type 0) : Type 0 where
  home : S → Place S
  out : ℕ → Place S

-- the slot, where it is at home
abbrev pub slot_of : {S : Type 0} → Place S → maybe.Option (Option S)
slot_of (home x) = some (Some x)
slot_of (out j) = maybe.none

-- the remainder that a word holds
abbrev pub modulo : ℕ → ℕ
modulo n = n % 18446744073709551616

-- 1 where the view has a ticket
abbrev pub weight : Stage → ℕ
weight Idle = 0
weight (Waits t) = 1
weight (Inside t) = 1

-- the view has this ticket
abbrev pub HasTicket : ℕ → Stage → Type 0
HasTicket t Idle = ⊥
HasTicket t (Waits u) = t ≡ u
HasTicket t (Inside u) = t ≡ u

-- the number of views with a ticket
abbrev pub waiting : List View → ℕ
waiting [] = 0
waiting (v ∷ vs) = weight v.stage + waiting vs

-- the number of voices in all views
abbrev pub held : List View → ℕ
held [] = 0
held (v ∷ vs) = length v.voices + held vs

-- what a meeting noted is true
abbrev pub Notes : List Entry → List Part → Type 0
Notes seen [] = Unit {0}
Notes seen (p ∷ ps) = Continues p.voices p.seen seen × Notes seen ps

-- the voice of each entry is below the number of seats
abbrev pub Known : ℕ → List Entry → Type 0
Known seats [] = Unit {0}
Known seats (e ∷ es) = (voice_of e < seats) × Known seats es

-- two views share no ticket and no voice
pub record Apart (v w : View) : Type 0 where
  pub tickets : (t : ℕ) → HasTicket t v.stage → HasTicket t w.stage → ⊥
  pub voices : (x : ℕ) → has x v.voices ≡ true → has x w.voices ≡ false

module _ {S : Type 0} (seats : ℕ) (h : Head) (drawn served : ℕ) (log : List Entry) (place : Place S) where
  -- a ticket was drawn and is not served yet; the one that has its turn is the one to be served, and it has seen the whole history
  abbrev pub Stands : ℕ → View → Stage → Type 0
  Stands j v Idle = Unit {0}
  Stands j v (Waits t) = (served ≤ t) × (t < drawn) × (0 < length v.voices)
  Stands j v (Inside t) = (t ≡ served) × (t < drawn) × (0 < length v.voices) × (place ≡ out j) × (v.seen ≡ log)

  -- what is true of the view at j
  pub record Fits (j : ℕ) (v : View) : Type 0 where
    pub head : 0 < length v.voices → v.head ≡ Some h
    pub seated : (x : ℕ) → has x v.voices ≡ true → x < seats
    pub begins : Continues v.voices v.seen log
    pub notes : Notes v.seen v.parts
    pub stands : Stands j v v.stage

module _ {S : Type 0} (headf : S → Head) (history : S → List Entry) (seats : ℕ) (h : Head) where
  -- a state at home has the head and the history; one that is out is out with a view that has its turn
  abbrev pub Placed : List Entry → List View → Place S → Type 0
  Placed log views (home x) = (headf x ≡ h) × (history x ≡ log)
  Placed log views (out j) = (v : View) × (t : ℕ) × (get_elem? views j ≡ some v) × (v.stage ≡ Inside t)

  -- the rule, without the words and the slot
  pub record Kept (drawn served : ℕ) (log : List Entry) (place : Place S) (views : List View) : Type 0 where
    pub queue : served + waiting views ≡ drawn
    pub few : held views ≤ seats
    pub each : (j : ℕ) (v : View) → get_elem? views j ≡ some v → Fits seats h drawn served log place j v
    pub apart : (i j : ℕ) (v w : View) → i ≢ j → get_elem? views i ≡ some v → get_elem? views j ≡ some w → Apart v w
    pub placed : Placed log views place
    pub known : Known seats log

  -- the words are the remainders of the counts, and the slot is where the place says
  pub record Rule (s : State (Option S) View) : Type 0 where
    pub drawn : ℕ
    pub served : ℕ
    pub log : List Entry
    pub place : Place S
    pub door : ℕ
    pub small : seats < 4294967296
    pub words_are : s.words ≡ modulo drawn ∷ modulo served ∷ modulo (length log) ∷ door ∷ []
    pub homes_are : s.homes ≡ slot_of place ∷ []
    pub kept : Kept drawn served log place s.views

-- the view of the first pass
abbrev pub opening_view : ℕ → Head → View
opening_view seats h = record { head = Some h; seen = []; voices = below seats; stage = Idle; parts = [] }
