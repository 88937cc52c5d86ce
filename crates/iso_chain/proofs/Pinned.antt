-- What is rebuilt of a slot's pinned chain is `committed`.
use Rattle.std.proofs.Common.{◌≡◌, ◌<◌, ◌≤◌, ◌+◌, ℕ, Bool, true, false, List, [], ◌∷◌, length, refl, sym, ◌∙◌, arith, Some, None, Option, subst}
use Rattle.iso_history.specs.Piles.{AllPiled, Piled, Under}
use Rattle.iso_history.specs.Recorded.{AllRecorded}
use Rattle.iso_history.specs.Versions.{committed, head_record, versions}
use Rattle.iso_history.specs.World.{Note, Version, World}
use Rattle.iso_record.specs.declared.record.Record.{Record}
use Rattle.iso_rebuild.specs.Chains.{HasChain, IsChain, IsRebuilt}
use Rattle.iso_segment.specs.Pinned.{stretch}
use Rattle.iso_table.specs.declared.slot.Slot.{Slot}
use Rattle.iso_types.specs.declared.value.Rid.{Rid}
use Rattle.iso_types.specs.declared.value.TableId.{TableId}
use Rattle.iso_types.specs.declared.value.Value.{Value}
use Rattle.iso_chain.specs.Laws.{pinned}
use Rattle.iso_chain.specs.Logs.{LogStands, chain_of}
use Rattle.iso_chain.specs.Slots.{SlotStands}
use Rattle.iso_chain.proofs.Chains.{chain-columns, chain-committed, chain-is, first-over, first-under}
use Rattle.iso_chain.proofs.Records.{AllBack, all-back}

-- the head is the youngest
head-over : (notes : List Note) (t : TableId) (r : Rid) (vs : List Version) (hi : ℕ) → Piled notes t r vs → head_record vs ≡ Some hi → Under (hi + 1) vs
head-over notes t r [] hi h e = absurd (cc)
head-over notes t r (v ∷ vs) hi h e = go v.pending refl
  where
    more : (k : ℕ) (vs : List Version) → Under k vs → Under (k + 1) vs
    more k [] u = tt
    more k (x ∷ xs) u = ((λ p. let lt : x.number < k = u.0 p in omega (arith, lt)), more k xs u.1)

    go : (p : Bool) → v.pending ≡ p → Under (hi + 1) (v ∷ vs)
    go true p =
        let z : Some v.number ≡ Some hi = rw p at e in
        let same : v.number ≡ hi = cc in
        ((λ q. omega (arith, same)), more hi vs (subst (λ (k : ℕ). Under k vs) same (h.0 p).under))
    go false p = absurd (let z : None ≡ Some hi = rw p at e in cc)

head-within : (log : List Record) (vs : List Version) (hi : ℕ) → AllBack log vs → head_record vs ≡ Some hi → hi < length log
head-within log [] hi b e = absurd (cc)
head-within log (v ∷ vs) hi b e = go v.pending refl
  where
    go : (p : Bool) → v.pending ≡ p → hi < length log
    go true p = let z : Some v.number ≡ Some hi = rw p at e in let same : v.number ≡ hi = cc in subst (λ (k : ℕ). k < length log) same (b.0 p).within
    go false p = absurd (let z : None ≡ Some hi = rw p at e in cc)

module _ (w : World) (log : List Record) (t : TableId) (r : Rid) (s : Slot) (first head : ℕ) (stands : LogStands log w.records w.changes)
    (recorded : AllRecorded w.records w.changes w.tables)
    (piled : AllPiled w) (slot : SlotStands s (versions w t r)) (last : s.head ≡ Some head) (least : s.first ≡ Some first) where
  vs : List Version
  vs = versions w t r

  back : AllBack log (versions w t r)
  back = all-back log w (versions w t r) stands (recorded.each t r)

  pile : Piled w.records t r (versions w t r)
  unfolding AllPiled
  pile = piled t r

  chain : IsChain (stretch log first head) (Some head) (chain_of log (versions w t r))
  chain =
      let top : head_record (versions w t r) ≡ Some head = sym slot.head ∙ last in
      subst (λ (z : Option ℕ). IsChain (stretch log first head) z (chain_of log (versions w t r))) top
      (chain-is w.records t r log first head (versions w t r) (head-within log (versions w t r) head back top) back pile
      (first-over w.records t r (versions w t r) first pile (sym slot.first ∙ least)) (head-over w.records t r (versions w t r) head pile top))

  -- the pin may be taken: first is not above head, and head is a record
  pub pin-within : head < length log
  pin-within = head-within log (versions w t r) head back (sym slot.head ∙ last)

  pub pin-order : first ≤ head
  pin-order =
      let lt : first < head + 1 = first-under (head + 1) first (versions w t r) (head-over w.records t r (versions w t r) head pile (sym slot.head ∙ last))
      (sym slot.first ∙ least) in
      omega (arith, lt)

  -- what `rebuild` asks
  pub pin-chain : HasChain (pinned log s first head)
  pin-chain = (chain_of log (versions w t r), chain, chain-columns log (versions w t r) (record { row = s.row; live = s.live }) back slot.face)

  -- what it answers
  pub pin-committed : (row : Option (List Value)) → IsRebuilt (pinned log s first head) row → row ≡ committed (versions w t r)
  pin-committed row is = is (chain_of log (versions w t r)) chain ∙ chain-committed log (versions w t r) (record { row = s.row; live = s.live }) back slot.face
