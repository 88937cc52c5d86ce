-- Guarded scans of an index: how far one has come, told by the entries.
use Rattle.std.specs.List.{list_all}
use Rattle.std.specs.Prelude.{◌≡◌, ◌<◌, ◌≤◌, ℕ, ◌+◌, Bool, true, false, List, [], ◌∷◌, take, drop, slice_get, Some, None, Option}
use Rattle.iso_history.specs.After.{after}
use Rattle.iso_history.specs.Facts.{IsSound}
use Rattle.iso_history.specs.Gaps.{is_plain}
use Rattle.iso_history.specs.Guards.{RangeStays, StandsAt, ends_unit, world_at}
use Rattle.iso_history.specs.Legal.{Allowed}
use Rattle.iso_history.specs.Makers.{by_agent}
use Rattle.iso_history.specs.World.{World}
use Rattle.iso_history.specs.declared.entry.Act.TheVariants.{Look, Next}
use Rattle.iso_history.specs.declared.entry.Entry.{Entry}
use Rattle.iso_history.specs.declared.entry.Got.{Got}
use Rattle.iso_history.specs.declared.entry.Stand.{Stand}
use Rattle.iso_history.specs.declared.entry.Stand.TheVariants.{At, Past}
use Rattle.iso_history.specs.declared.entry.Want.{Want}
use Rattle.iso_history.specs.declared.entry.Want.TheVariants.{AlterKept, Repeat}
use Rattle.iso_types.specs.Head.{table_of_index}
use Rattle.iso_types.specs.declared.head.Head.{Head}
use Rattle.iso_types.specs.declared.head.Range.{Range}
use Rattle.iso_types.specs.declared.value.Conn.{Conn}
use Rattle.iso_types.specs.declared.value.IndexId.{IndexId}
use Rattle.iso_types.specs.declared.value.Rid.{Rid}
use Rattle.iso_types.specs.declared.value.TableId.{TableId}
use Rattle.iso_types.specs.declared.value.Value.{Value}

--     First     the scan has made no Next
--     Found     it stands at a pair
--     Seen      and has looked at its slot
--     Over      it is past the range
pub data Place : Type 0 where
  First : Place
  Found : (pair : Value × Rid) → Place
  Seen : (pair : Value × Rid) → Place
  Over : Place

-- the wants of a scan at RR
abbrev pub is_repeated : Want → Bool
is_repeated Repeat = true
is_repeated AlterKept = true
is_repeated _ = false

-- A scan of the connection over the range goes from one place to another along these entries:
--     Rests     no entry is left
--     Waits     any entry that does not end the connection's unit
--     Starts    its first Next stands at a pair, or, Empties, is past
--     Looks     it looks at the slot of the pair where it stands
--     Steps     its Next from that pair stands at another, or, Closes, is past
pub data Goes (c : Conn) (i : IndexId) (t : TableId) (range : Range) : Place → List Entry → Place → Type 0 where
  Rests : (p : Place) → Goes c i t range p [] p
  Waits : (p q : Place) (e : Entry) (es : List Entry) → ends_unit c e ≡ false → Goes c i t range p es q → Goes c i t range p (e ∷ es) q
  Starts : (v : Value) (r : Rid) (q : Place) (es : List Entry) → Goes c i t range (Found (v, r)) es q
      → Goes c i t range First (by_agent c (Next i range None true (At v r)) ∷ es) q
  Empties : (q : Place) (es : List Entry) → Goes c i t range Over es q → Goes c i t range First (by_agent c (Next i range None true Past) ∷ es) q
  Looks : (p : Value × Rid) (want : Want) (q : Place) (es : List Entry) → is_repeated want ≡ true → Goes c i t range (Seen p) es q
      → Goes c i t range (Found p) (by_agent c (Look t p.1 want Got.Granted) ∷ es) q
  Steps : (p : Value × Rid) (v : Value) (r : Rid) (q : Place) (es : List Entry) → Goes c i t range (Found (v, r)) es q
      → Goes c i t range (Seen p) (by_agent c (Next i range (Some p) true (At v r)) ∷ es) q
  Closes : (p : Value × Rid) (q : Place) (es : List Entry) → Goes c i t range Over es q
      → Goes c i t range (Seen p) (by_agent c (Next i range (Some p) true Past) ∷ es) q

-- where a scan stands that has come to a place
abbrev pub HasStand : Place → Stand → Type 0
HasStand (Found p) stand = stand ≡ At p.0 p.1
HasStand (Seen p) stand = stand ≡ At p.0 p.1
HasStand Over stand = stand ≡ Past
HasStand First stand = ⊥

-- no Lock is asked for on a key name alone
abbrev pub are_plain : List Entry → Bool
are_plain es = list_all (λ e. is_plain e.act) es

-- along these entries each is allowed, none is a Lock on a key name alone, and each world is sound
unfoldable pub SoundRun : Head → World → List Entry → Type 0
SoundRun head w [] = IsSound head w
SoundRun head w (e ∷ es) = IsSound head w × Allowed head w e × (is_plain e.act ≡ true) × SoundRun head (after head w e) es

-- A scan has come to a place by the entries from j to k: from there on the part that it has passed stays
abbrev pub ScansGuarded : Head → List Entry → Type 0
ScansGuarded head es = (j k : ℕ) (c : Conn) (i : IndexId) (t : TableId) (range : Range) (place : Place) (stand : Stand) → table_of_index head i ≡ Some t
    → Goes c i t range First (drop j (take k es)) place → HasStand place stand → RangeStays head (world_at head es k) c t i range stand (drop k es)

-- it stands at a pair or past the range
abbrev pub IsStanding : Stand → Type 0
IsStanding (At v r) = Unit {0}
IsStanding Past = Unit {0}
IsStanding _ = ⊥

-- what conduct has to give: each guarded Next that stands is the last of a scan that began at some entry
abbrev pub AreScanned : Head → List Entry → Type 0
AreScanned head es = (k : ℕ) (c : Conn) (i : IndexId) (t : TableId) (range : Range) (at : Option (Value × Rid)) (got : Stand)
    → StandsAt es k c (Next i range at true got) → table_of_index head i ≡ Some t → IsStanding got
    → (j : ℕ) × (place : Place) × Goes c i t range First (drop j (take (k + 1) es)) place × HasStand place got

-- no entry from place m to place k ends the connection's unit
abbrev pub NoEnd : Conn → List Entry → ℕ → ℕ → Type 0
NoEnd c es m k = (x : ℕ) (e : Entry) → m ≤ x → x < k → slice_get es x ≡ Some e → ends_unit c e ≡ false

-- what stands before a guarded Next from a pair: in the same unit the Next of the same scan that stood at the pair, and then a granted look at its slot
pub record IsChained (es : List Entry) (k : ℕ) (c : Conn) (i : IndexId) (t : TableId) (range : Range) (p : Value × Rid) : Type 0 where
  pub next : ℕ
  pub look : ℕ
  pub at : Option (Value × Rid)
  pub want : Want
  pub next_first : next < look
  pub look_first : look < k
  pub next_stands : StandsAt es next c (Next i range at true (At p.0 p.1))
  pub look_stands : StandsAt es look c (Look t p.1 want Got.Granted)
  pub repeated : is_repeated want ≡ true
  pub one_unit : NoEnd c es next k

-- the same for conduct to give, step by step
abbrev pub AreChained : Head → List Entry → Type 0
AreChained head es = (k : ℕ) (c : Conn) (i : IndexId) (t : TableId) (range : Range) (p : Value × Rid) (got : Stand)
    → StandsAt es k c (Next i range (Some p) true got) → table_of_index head i ≡ Some t → IsStanding got → IsChained es k c i t range p
