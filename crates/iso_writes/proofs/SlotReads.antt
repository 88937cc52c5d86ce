-- What a slot tells of the versions that it stands for.
use Rattle.std.proofs.Common.{◌≡◌, ◌<◌, arith, ℕ, zero, suc, Bool, true, false, not, ◌||◌, List, [], ◌∷◌, length, refl, ap, sym, subst, ◌∙◌, if◌then◌else◌}
use Rattle.std.specs.Option.{option_map_or}
use Rattle.std.specs.Prelude.{None, Some, Option, ◌==◌, slice_get}
use Rattle.iso_chain.proofs.Chains.{chain-shows}
use Rattle.iso_chain.proofs.Records.{AllBack, all-back}
use Rattle.iso_chain.specs.Logs.{record_at}
use Rattle.iso_chain.specs.Slots.{SlotStands, face, slot_in}
use Rattle.iso_history.specs.After.{world}
use Rattle.iso_history.specs.Piles.{AllOfUnit, AllOneUnit, AllPiled, NonePending, OneUnit, Piled}
use Rattle.iso_history.specs.Units.{unit_of}
use Rattle.iso_history.specs.Versions.{head_record, is_changed_beside, is_pending_beside, present, versions}
use Rattle.iso_history.specs.World.{Note, Version}
use Rattle.iso_record.specs.Undone.{shown}
use Rattle.iso_record.specs.declared.record.Record.{Record}
use Rattle.iso_state.proofs.FactsAlong.{kept-of}
use Rattle.iso_state.specs.Stands.{Content, Stands}
use Rattle.iso_table.specs.Slots.{no_slot, slot_at}
use Rattle.iso_table.specs.declared.slot.Slot.{Slot}
use Rattle.iso_types.specs.declared.value.Conn.{Conn}
use Rattle.iso_types.specs.declared.value.Rid.{Rid}
use Rattle.iso_types.specs.declared.value.TableId.{TableId}

-- the slot at the rid
pub got-slot : (slots : List Slot) (n : ℕ) (o : Option Slot) → o ≡ slice_get slots n → slot_at slots (record { 0 = n }) ≡ option_map_or (λ s. s) o no_slot
got-slot [] n None e = refl
got-slot [] n (Some s) e = absurd (cc)
got-slot (x ∷ xs) zero None e = absurd (cc)
got-slot (x ∷ xs) zero (Some s) e = let is : s ≡ x = cc in sym is
got-slot (x ∷ xs) (suc n) o e = got-slot xs n o e

-- where nothing is pending
none-beside : (u : ℕ) (vs : List Version) → NonePending vs → is_pending_beside u vs ≡ false
none-beside u [] n = refl
none-beside u (v ∷ vs) n = rw n.0 (none-beside u vs n.1)

-- what is pending is another unit's where the last version's record is
unit-beside : (u v : ℕ) (vs : List Version) → AllOfUnit v vs → (not (v == u) || is_pending_beside u vs) ≡ not (v == u)
unit-beside u v [] all = go (v == u)
  where
    go : (b : Bool) → (not b || false) ≡ not b
    go true = refl
    go false = refl
unit-beside u v (x ∷ xs) all = go x.pending refl (unit-beside u v xs all.1)
  where
    twice : (b c : Bool) → (not b || c) ≡ not b → (not b || (not b || c)) ≡ not b
    twice true c e = e
    twice false c e = refl

    go : (p : Bool) → x.pending ≡ p → (not (v == u) || is_pending_beside u xs) ≡ not (v == u) → (not (v == u) || is_pending_beside u (x ∷ xs)) ≡ not (v == u)
    go true p is = let same : x.unit ≡ v = all.0 p in rw (p, same) (twice (v == u) (is_pending_beside u xs) is)
    go false p is = rw p is

-- the last pending record is another unit's
abbrev pub beside_by : List Record → ℕ → Option ℕ → Bool
beside_by log u head = option_map_or (λ n. not ((record_at log n).unit == u)) head false

beside-of : (log : List Record) (notes : List Note) (t : TableId) (r : Rid) (u : ℕ) (vs : List Version) → Piled notes t r vs → OneUnit vs → AllBack log vs
    → beside_by log u (head_record vs) ≡ is_pending_beside u vs
beside-of log notes t r u [] h one back = refl
beside-of log notes t r u (v ∷ vs) h one back = go v.pending refl
  where
    go : (p : Bool) → v.pending ≡ p → beside_by log u (head_record (v ∷ vs)) ≡ is_pending_beside u (v ∷ vs)
    go true p = let is = (back.0 p).unit in rw (p, is) (sym (unit-beside u v.unit vs (one.0 p)))
    go false p = let n = none-beside u vs (h.1 p) in rw (p, n) refl

module _ (p : Content) (s : Stands p) (t : TableId) (r : Rid) where
  pile : Piled (world p.head p.history).records t r (versions (world p.head p.history) t r)
  unfolding AllPiled
  pile = (kept-of s).piled t r

  one : OneUnit (versions (world p.head p.history) t r)
  unfolding AllOneUnit
  one = (kept-of s).one t r

  back : AllBack p.chain.log (versions (world p.head p.history) t r)
  back = all-back p.chain.log (world p.head p.history) (versions (world p.head p.history) t r) s.parts.chain.log ((kept-of s).recorded.each t r)

  slot : SlotStands (slot_in p.chain.tables t r) (versions (world p.head p.history) t r)
  slot = s.parts.chain.slots.each t r

  pub beside-is : (c : Conn) → beside_by p.chain.log (unit_of (world p.head p.history) c) (slot_in p.chain.tables t r).head
      ≡ is_changed_beside (world p.head p.history) c t r
  beside-is c = ap (λ (o : Option ℕ). beside_by p.chain.log (unit_of (world p.head p.history) c) o) slot.head
      ∙ beside-of p.chain.log (world p.head p.history).records t r (unit_of (world p.head p.history) c) (versions (world p.head p.history) t r) pile one back

  -- the head is a record
  pub head-there : (n : ℕ) → (slot_in p.chain.tables t r).head ≡ Some n → n < length p.chain.log
  head-there n e = go (versions (world p.head p.history) t r) back (sym slot.head ∙ e)
    where
      go : (vs : List Version) → AllBack p.chain.log vs → head_record vs ≡ Some n → n < length p.chain.log
      go [] b e = absurd (cc)
      go (v ∷ vs) b e = at v.pending refl e
        where
          at : (q : Bool) → v.pending ≡ q → (if v.pending then Some v.number else None) ≡ Some n → n < length p.chain.log
          at true q e = let same : v.number ≡ n = cc in subst (λ (k : ℕ). k < length p.chain.log) same (b.0 q).within
          at false q e = absurd (cc)

  -- the present row
  pub present-is : shown (face (slot_in p.chain.tables t r)) ≡ present (versions (world p.head p.history) t r)
  present-is = chain-shows p.chain.log (versions (world p.head p.history) t r) (face (slot_in p.chain.tables t r)) 0 back slot.face (omega arith)
