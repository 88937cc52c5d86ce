-- What the lock list says of the world.
use Rattle.std.proofs.Common.{◌≡◌, ◌≤◌, ◌+◌, ℕ, Bool, true, false, ◌||◌, length, refl, ap, ◌∙◌}
use Rattle.std.specs.Prelude.{count_by, if◌then◌else◌, nat_lt}
use Rattle.iso_history.specs.Facts.{AreAlone, AreSingle, LockFacts, OfHead}
use Rattle.iso_history.specs.Requests.{is_limited}
use Rattle.iso_history.specs.World.{World}
use Rattle.iso_locklist.specs.Holding.{AreOfHead, WaitsOnce, room_in_lists}
use Rattle.iso_locklist.specs.Lists.{IsHeadsIn, IsSingleIn}
use Rattle.iso_locklist.specs.Places.{Ledger, room_by}
use Rattle.iso_locklist.specs.declared.room.Room.{Room}
use Rattle.iso_locklist.specs.declared.room.Room.TheVariants.{AtCapacity, AtShare, Free}
use Rattle.iso_locklist.proofs.Alike.{none_found}
use Rattle.iso_locklist.proofs.AlikeWaits.{own}
use Rattle.iso_queue.specs.Limits as limits
use Rattle.iso_queue.specs.Locks.{is_hold_of}
use Rattle.iso_types.specs.Head.{lock_share, lock_slots}
use Rattle.iso_types.specs.declared.head.Head.{Head}
use Rattle.iso_types.specs.declared.value.Conn.{Conn}
use Rattle.iso_types.specs.declared.value.Name.{Name}
use Rattle.iso_state.specs.Stands.{IsLimitedBy}

-- a connection holds a name once at most
pub holds-once : (head : Head) (w : World) → LockFacts head w → (c : Conn) (n : Name) → count_by (is_hold_of c n) w.holds ≤ 1
unfolding AreSingle
holds-once head w facts c n = facts.single c n

module _ (head : Head) (w : World) (facts : LockFacts head w) where
  pub one-wait : (c : Conn) → WaitsOnce w.waits c
  unfolding AreAlone
  one-wait c = facts.alone c

  single : (c : Conn) → IsSingleIn w.holds w.waits c
  unfolding AreSingle AreAlone
  single c = record { holds = facts.single c; waits = facts.alone c }

  heads : IsHeadsIn head w.holds w.waits
  unfolding OfHead
  heads c none = rw ((facts.of_head c none).0, none_found (own c) w.waits (facts.of_head c none).1) refl

  -- nobody but the head's connections holds or awaits a name, and none twice
  pub of-head : length head.conns ≤ 32 → AreOfHead head w.holds w.waits
  of-head few = record { few = few; single = single; conns = heads }

-- a room, as a test
is-free : (a b : Bool) (r : Room) → r ≡ (if a then AtShare else if b then AtCapacity else Free) → r ≡ Free → false ≡ (a || b)
is-free true b r e f = cc
is-free false true r e f = cc
is-free false false r e f = refl

is-share : (a b : Bool) (r : Room) → r ≡ (if a then AtShare else if b then AtCapacity else Free) → r ≡ AtShare → true ≡ (a || b)
is-share true b r e f = refl
is-share false true r e f = cc
is-share false false r e f = cc

is-capacity : (a b : Bool) (r : Room) → r ≡ (if a then AtShare else if b then AtCapacity else Free) → r ≡ AtCapacity → true ≡ (a || b)
is-capacity true b r e f = cc
is-capacity false true r e f = refl
is-capacity false false r e f = cc

-- what each answer of the lock list says
pub record RoomTold (head : Head) (w : World) (c : Conn) (k : ℕ) (r : Room) : Type 0 where
  pub free : r ≡ Free → false ≡ is_limited head w c k
  pub share : r ≡ AtShare → true ≡ is_limited head w c k
  pub capacity : r ≡ AtCapacity → true ≡ is_limited head w c k

pub room-is : (head : Head) (w : World) (l : Ledger) (c : Conn) (k : ℕ) (r : Room) → IsLimitedBy head l
    → r ≡ room_in_lists head l w.holds w.waits c k → RoomTold head w c k r
room-is head w l c k r limited is =
    let told : r ≡ (if nat_lt (lock_share head.config) (limits.taken w.holds w.waits c + k) then AtShare
    else if nat_lt (lock_slots head.config) (limits.all_taken head w.holds w.waits + k) then AtCapacity else Free) =
    is ∙ ap (λ (n : ℕ). room_by (limits.taken w.holds w.waits c) (limits.all_taken head w.holds w.waits) n l.slots k) limited.share
    ∙ ap (λ (n : ℕ). room_by (limits.taken w.holds w.waits c) (limits.all_taken head w.holds w.waits) (lock_share head.config) n k) limited.slots in
    record { free = is-free _ _ r told; share = is-share _ _ r told; capacity = is-capacity _ _ r told }
