-- What comes of an Insert, Update or Delete: it is done, blocked, refused, or at a limit.
use Rattle.std.specs.List.{list_any}
use Rattle.std.specs.Ordering.{int_eq}
use Rattle.std.specs.Prelude.{ℕ, ◌+◌, Bool, false, not, ◌&&◌, ◌||◌, List, [], ◌∷◌, ℤ, pos, is_some, is_none, if◌then◌else◌, nat_le, None, count_by, filter, neg_ℤ, Option}
use Rattle.iso_history.specs.Entries.{entries_of, guard, row_has}
use Rattle.iso_history.specs.Holds.{inherited}
use Rattle.iso_history.specs.Records.{is_past_log}
use Rattle.iso_history.specs.Requests.{is_limited, is_pressed}
use Rattle.iso_history.specs.Versions.{is_changed_beside, next_rid, slots, view}
use Rattle.iso_history.specs.World.{World}
use Rattle.iso_modes.specs.Modes.{mode_eq}
use Rattle.iso_modes.specs.declared.Mode.{Mode}
use Rattle.iso_modes.specs.declared.Mode.TheVariants.{Ix, Ns, Nw, S, X}
use Rattle.iso_queue.specs.Limits.{prey}
use Rattle.iso_queue.specs.Locks.{holds_at_least, is_covered, others_guard}
use Rattle.iso_types.specs.Head.{indexes_of, is_unique, key_in}
use Rattle.iso_types.specs.Ids.{rid_eq}
use Rattle.iso_types.specs.Value.{value_eq}
use Rattle.iso_types.specs.declared.head.Head.{Head}
use Rattle.iso_types.specs.declared.value.Conn.{Conn}
use Rattle.iso_types.specs.declared.value.IndexId.{IndexId}
use Rattle.iso_types.specs.declared.value.Name.{Name}
use Rattle.iso_types.specs.declared.value.Name.TheVariants.{Row, Table}
use Rattle.iso_types.specs.declared.value.Rid.{Rid}
use Rattle.iso_types.specs.declared.value.TableId.{TableId}
use Rattle.iso_types.specs.declared.value.Value.{Value}

-- the code below zero
abbrev pub minus : ℕ → ℤ
minus n = neg_ℤ (pos n)

-- what comes of a write
pub data Written : Type 0 where
  Done : Written
  IsFull : Written
  Refuses : (code : ℤ) → Written
  Blocks : (name : Name) → (mode : Mode) → Written
  AtLimit : Written

-- the first that is not Done
abbrev pub or_else : Written → Written → Written
or_else Done second = second
or_else first second = first

-- the entries of a key at a unique index, but the row's own
abbrev pub rivals : World → IndexId → Value → Rid → List (Value × Rid)
rivals w i v r = filter (λ p. value_eq p.0 v && not (rid_eq p.1 r)) (entries_of w i)

-- the slot's view has the key
abbrev pub view_has : Head → World → Conn → TableId → IndexId → Value → Rid → Bool
view_has head w c t i v r = row_has head i v (view w c t r)

-- another unit's pending version blocks, and a view with the key refuses
abbrev pub judged_rivals : Head → World → Conn → TableId → IndexId → List (Value × Rid) → Written
judged_rivals head w c t i [] = Done
judged_rivals head w c t i (p ∷ ps) =
    if is_changed_beside w c t p.1 then Blocks (Row t p.1) Ns else
    if view_has head w c t i p.0 p.1 then Refuses (minus 803) else judged_rivals head w c t i ps

-- the entries of the key at a unique index
abbrev pub judged_unique : Head → World → Conn → TableId → IndexId → Value → Rid → Written
judged_unique head w c t i v r = if is_unique head i then judged_rivals head w c t i (rivals w i v r) else Done

-- another connection's S or NW on the guard blocks
abbrev pub judged_guard : World → Conn → IndexId → Value → Written
judged_guard w c i v = if others_guard w.holds c (guard w i v) then Blocks (guard w i v) Nw else Done

-- the key is new to the row
abbrev pub is_new_key : Head → IndexId → Option (List Value) → List Value → Bool
is_new_key head i old row = not (row_has head i (key_in head i row) old)

-- first the unique entries, then the guard
abbrev pub judged_key : Head → World → Conn → TableId → Rid → IndexId → Value → Written
judged_key head w c t r i v = or_else (judged_unique head w c t i v r) (judged_guard w c i v)

-- an index whose key is new to the row
abbrev pub judged_index : Head → World → Conn → TableId → Rid → Option (List Value) → List Value → IndexId → Written
judged_index head w c t r old row i = if is_new_key head i old row then judged_key head w c t r i (key_in head i row) else Done

-- each index in order
abbrev pub judged_indexes : Head → World → Conn → TableId → Rid → Option (List Value) → List Value → List IndexId → Written
judged_indexes head w c t r old row [] = Done
judged_indexes head w c t r old row (i ∷ is) =
    or_else (judged_index head w c t r old row i) (judged_indexes head w c t r old row is)

-- the lock slots that a write needs: one for each inherited key, and one for a new row, where not covered
abbrev pub key_need : Head → World → Conn → TableId → List Value → ℕ
key_need head w c t row = count_by (λ n. not (is_covered head w.holds c n S)) (inherited head w c t row)

-- 1 for a new row that is not covered
abbrev pub row_need : Head → World → Conn → TableId → Rid → ℕ
row_need head w c t r = if is_covered head w.holds c (Row t r) X then 0 else 1

-- a need at the limit
abbrev pub judged_need : Head → World → Conn → ℕ → Written
judged_need head w c k = if is_limited head w c k then AtLimit else Done

-- a change past the log
abbrev pub judged_log : Head → World → Written
judged_log head w = if is_past_log head w then Refuses (minus 964) else Done

-- a table with all its slots
abbrev pub judged_room : World → TableId → Written
judged_room w t = if nat_le 65536 (slots w t) then IsFull else Done

-- the first that comes, in order
abbrev pub inserts : Head → World → Conn → TableId → List Value → Written
inserts head w c t row = or_else (judged_room w t)
    (or_else (judged_indexes head w c t (next_rid w t) None row (indexes_of head t))
    (or_else (judged_need head w c (row_need head w c t (next_rid w t) + key_need head w c t row))
    (judged_log head w)))

-- what comes of an Update
abbrev pub updates : Head → World → Conn → TableId → Rid → List Value → Written
updates head w c t r row = or_else (judged_indexes head w c t r (view w c t r) row (indexes_of head t))
    (or_else (judged_need head w c (key_need head w c t row))
    (judged_log head w))

-- what comes of a Delete
abbrev pub deletes : Head → World → Conn → Written
deletes head w c = or_else (judged_need head w c 0) (judged_log head w)

-- a write may stand: IX or more on the table
abbrev pub may_write : World → Conn → TableId → Bool
may_write w c t = holds_at_least w.holds c (Table t) Ix

-- X held on the row or covered, and a view that is a row
abbrev pub may_change : Head → World → Conn → TableId → Rid → Bool
may_change head w c t r =
    may_write w c t && ((is_covered head w.holds c (Row t r) X || holds_at_least w.holds c (Row t r) X) && is_some (view w c t r))

-- a blocked write asks NS on a row with another unit's pending version, or NW on a guard with another's S or NW
abbrev pub is_block : Head → World → Conn → Name → Mode → Bool
is_block head w c (Table t) m = false
is_block head w c (Row t r) m =
    mode_eq m Ns && (is_changed_beside w c t r && list_any (is_unique head) (indexes_of head t))
is_block head w c n m = mode_eq m Nw && others_guard w.holds c n

-- a refusal, as far as the head and the history say
abbrev pub is_refusal : Head → World → Conn → ℤ → Bool
is_refusal head w c code =
    if int_eq code (minus 912) then is_pressed head w c && is_none (prey head w.holds c) else
    if int_eq code (minus 964) then is_past_log head w else
    list_any (int_eq code) (minus 407 ∷ minus 802 ∷ minus 803 ∷ minus 880 ∷ [])
