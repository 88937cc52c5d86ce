-- The room for a request, in places that stand for holds and waits.
use Rattle.std.proofs.Common.{ℕ, ◌≡◌, ◌∙◌, Bool, true, ◌||◌, List, ap, sym}
use Rattle.std.specs.Prelude.{find, if◌then◌else◌, is_some, Option}
use Rattle.iso_locklist.specs.Holding.{AreLines, AreOfHead, holds_mode, need_in, room_asked, room_in_lists}
use Rattle.iso_locklist.specs.Lists.{named_hold, named_wait}
use Rattle.iso_locklist.specs.Places.{Ledger, Place, all_taken, are_apart, line_at, names, need_of, room_by, room_to_ask, taken}
use Rattle.iso_locklist.specs.declared.room.Room.TheVariants.{Free}
use Rattle.iso_locklist.proofs.AlikeWaits.{own}
use Rattle.iso_locklist.proofs.Holding.{hold_shown, taken_shown, total_shown}
use Rattle.iso_locklist.proofs.Lists.{seek_map}
use Rattle.iso_locklist.proofs.Placings.{mode_shown, some_map}
use Rattle.iso_modes.specs.declared.Mode.{Mode}
use Rattle.iso_queue.specs.Limits as limits
use Rattle.iso_queue.specs.Lines as lines
use Rattle.iso_queue.specs.Lines.{hold_of}
use Rattle.iso_queue.specs.Locks as locks
use Rattle.iso_queue.specs.Locks.{Hold}
use Rattle.iso_queue.specs.Queues.{Wait}
use Rattle.iso_types.specs.declared.head.Head.{Head}
use Rattle.iso_types.specs.declared.value.Conn.{Conn}
use Rattle.iso_types.specs.declared.value.Name.{Name}

module _ (ps : List Place) (unlike : are_apart (names ps) ≡ true) (hs : List Hold) (xs : List Wait) (are : AreLines hs xs (line_at ps)) where
  need_shown : (c : Conn) (n : Name) → need_of ps c n ≡ need_in hs xs c n
  need_shown c n =
      ap (λ (b : Bool). if b || lines.is_waiter (line_at ps n).waiters c then 0 else 1)
      (sym (some_map (named_hold n) (hold_of (line_at ps n).holders c)) ∙ ap (λ (o : Option Hold). is_some o) (hold_shown hs xs (line_at ps) are c n))
      ∙ ap (λ (b : Bool). if locks.is_held hs c n || b then 0 else 1)
      (sym (some_map (named_wait n) (lines.waiter_of (line_at ps n).waiters c))
      ∙ ap (λ (o : Option Wait). is_some o)
      (sym (seek_map (own c) (named_wait n) (line_at ps n).waiters) ∙ ap (find (own c)) (are.waits n)))

  pub room_shown : (l : Ledger) → l.places ≡ ps → (head : Head) → AreOfHead head hs xs → (c : Conn) (n : Name) (m : Mode)
      → room_to_ask l c n m ≡ room_asked head l hs xs c n m
  room_shown l same head of_head c n m =
      ap (λ (qs : List Place). if lines.has_mode (line_at qs n).holders c m then Free else room_by (taken qs c) (all_taken qs) l.share l.slots (need_of qs c n)) same
      ∙ ap (λ (b : Bool). if b then Free else room_by (taken ps c) (all_taken ps) l.share l.slots (need_of ps c n)) (mode_shown hs xs (line_at ps) are c n m)
      ∙ ap (λ (k : ℕ). if holds_mode hs c n m then Free else room_by k (all_taken ps) l.share l.slots (need_of ps c n)) (taken_shown ps unlike hs xs are c (of_head.single c))
      ∙ ap (λ (k : ℕ). if holds_mode hs c n m then Free else room_by (limits.taken hs xs c) k l.share l.slots (need_of ps c n)) (total_shown ps unlike hs xs are head of_head)
      ∙ ap (λ (k : ℕ). if holds_mode hs c n m then Free else room_in_lists head l hs xs c k) (need_shown c n)
