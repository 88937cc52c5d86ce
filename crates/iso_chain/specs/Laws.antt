-- The laws of slots, log and units.
use Rattle.std.specs.Prelude.{◌≡◌, ◌≤◌, ◌<◌, ℕ, List, length, take, drop, Some, None, Option}
use Rattle.iso_history.specs.After.{after}
use Rattle.iso_history.specs.Makers.{by_agent}
use Rattle.iso_history.specs.Piles.{LeftPends}
use Rattle.iso_history.specs.Records.{left}
use Rattle.iso_history.specs.Versions.{committed as last_committed, present, versions}
use Rattle.iso_history.specs.World.{World}
use Rattle.iso_history.specs.declared.entry.Act.TheVariants.{Commit, Delete, Insert, Undo, Update}
use Rattle.iso_rebuild.specs.Chains.{HasChain, IsRebuilt}
use Rattle.iso_rebuild.specs.declared.past.Past.{Past}
use Rattle.iso_record.specs.Undone.{all_undone, shown}
use Rattle.iso_record.specs.declared.record.Record.{Record}
use Rattle.iso_segment.specs.Pinned.{stretch}
use Rattle.iso_table.specs.declared.slot.Slot.{Slot}
use Rattle.iso_types.specs.declared.head.Head.{Head}
use Rattle.iso_types.specs.declared.value.Conn.{Conn}
use Rattle.iso_types.specs.declared.value.Rid.{Rid}
use Rattle.iso_types.specs.declared.value.TableId.{TableId}
use Rattle.iso_types.specs.declared.value.Value.{Value}
use Rattle.iso_chain.specs.Facts.{MayAdd, MayUndo, MayWrite}
use Rattle.iso_chain.specs.Logs.{chain_of}
use Rattle.iso_chain.specs.Slots.{face, slot_in}
use Rattle.iso_chain.specs.Stands.{AreChained, Chained}
use Rattle.iso_chain.specs.Writes.{committed, inserted, taken_back, written}

-- the slot as a look pins it: the records from first to head, its row, liveness and head
abbrev pub pinned : List Record → Slot → ℕ → ℕ → Past
pinned log s first head = record { pin = stretch log first head; row = s.row; live = s.live; head = head }

-- undoing the records of a slot's chain, from the head, one by one on the present row gives the contents of its versions
-- from last to first, and after the first record `committed`
abbrev pub ChainLaw : World → Chained → TableId → Rid → Type 0
ChainLaw w p t r = let chain = chain_of p.log (versions w t r) in let s = slot_in p.tables t r in
    ((k : ℕ) → k ≤ length chain → shown (all_undone (take k chain) (face s)) ≡ present (drop k (versions w t r)))
    × (shown (all_undone chain (face s)) ≡ last_committed (versions w t r))

-- the chain lies in the pin from the slot's first record to its head, and what is rebuilt of it is `committed`
abbrev pub PinLaw : World → Chained → TableId → Rid → ℕ → ℕ → Type 0
PinLaw w p t r first head = let s = slot_in p.tables t r in
    (first ≤ head) × (head < length p.log) × HasChain (pinned p.log s first head)
    × ((row : Option (List Value)) → IsRebuilt (pinned p.log s first head) row → row ≡ last_committed (versions w t r))

-- both, in a state that stands for its history
abbrev pub ChainsLaw : World → Chained → Type 0
ChainsLaw w p = (t : TableId) (r : Rid) → ChainLaw w p t r
    × ((first head : ℕ) → (slot_in p.tables t r).first ≡ Some first → (slot_in p.tables t r).head ≡ Some head → PinLaw w p t r first head)

-- what a step writes stands for the history with its entry
pub record StepsLaw (h : Head) (w : World) (p : Chained) (c : Conn) : Type 0 where
  pub update : (t : TableId) (r : Rid) (row : List Value) → MayWrite w c t r (Some row)
      → AreChained (after h w (by_agent c (Update t r row))) (written p c t r (Some row))
  pub delete : (t : TableId) (r : Rid) → MayWrite w c t r None → AreChained (after h w (by_agent c (Delete t r))) (written p c t r None)
  pub insert : (t : TableId) (r : Rid) (row : List Value) → MayAdd w c t → AreChained (after h w (by_agent c (Insert t r row))) (inserted p c t row)
  pub undo : (n : ℕ) → MayUndo w c n → AreChained (after h w (by_agent c (Undo n))) (taken_back p c n)
  pub commit : (u : ℕ) → LeftPends w → w.unit c ≡ Some u → AreChained (after h w (by_agent c Commit)) (committed p c (left w.records u))
