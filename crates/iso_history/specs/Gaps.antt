-- Gaps: what a repeatable-read scan of an index keeps, so that no new key comes into the part that it has passed.
use Rattle.std.specs.List.{list_all}
use Rattle.std.specs.Option.{option_map_or}
use Rattle.std.specs.Prelude.{◌≡◌, Bool, true, false, not, ◌&&◌, ◌||◌, List, nat_lt, Some, find}
use Rattle.iso_history.specs.Entries.{entries_of, is_in_range, key_name, meets_high, meets_low}
use Rattle.iso_history.specs.Guards.{is_passed}
use Rattle.iso_history.specs.Requests.{is_row_mode}
use Rattle.iso_history.specs.Versions.{is_dead, slots, versions}
use Rattle.iso_history.specs.World.{World}
use Rattle.iso_history.specs.World.Last.{Awaits}
use Rattle.iso_history.specs.declared.entry.Act.{Act}
use Rattle.iso_history.specs.declared.entry.Act.TheVariants.{Lock}
use Rattle.iso_history.specs.declared.entry.Why.{Why}
use Rattle.iso_history.specs.declared.entry.Why.TheVariants.{Asked}
use Rattle.iso_history.specs.declared.entry.Stand.{Stand}
use Rattle.iso_history.specs.declared.entry.Stand.TheVariants.{At, Past}
use Rattle.iso_modes.specs.Modes.{covers, mode_eq}
use Rattle.iso_modes.specs.declared.Term.TheVariants.{Kept}
use Rattle.iso_queue.specs.Queues.{Wait, wait_of}
use Rattle.iso_modes.specs.Terms.{is_kept}
use Rattle.iso_modes.specs.declared.Mode.{Mode}
use Rattle.iso_modes.specs.declared.Mode.TheVariants.{Ns, Nw, S, U}
use Rattle.iso_history.specs.Facts.{keeps_mode}
use Rattle.iso_history.specs.Orders.{EntriesOrdered, VersionsLayered, VersionsLogged, has_pair}
use Rattle.iso_queue.specs.Locks.{Hold, hold_on, is_covered_on}
use Rattle.iso_types.specs.Value.{value_lt}
use Rattle.iso_types.specs.declared.head.Range.{Range}
use Rattle.iso_types.specs.declared.value.Conn.{Conn}
use Rattle.iso_types.specs.declared.value.IndexId.{IndexId}
use Rattle.iso_types.specs.declared.value.Name.{Name}
use Rattle.iso_types.specs.declared.value.Name.TheVariants.{End, Key, Row, Table}
use Rattle.iso_types.specs.declared.value.Rid.{Rid}
use Rattle.iso_types.specs.declared.value.TableId.{TableId}
use Rattle.iso_types.specs.declared.value.Value.{Value}

-- the modes in which a name is held or awaited: a table not in NS, U or NW, a row in a row mode, a key or END in S or NW
abbrev pub fits_name : Name → Mode → Bool
fits_name (Table t) m = not (mode_eq m Ns || (mode_eq m U || mode_eq m Nw))
fits_name (Row t r) m = is_row_mode m
fits_name n m = mode_eq m S || mode_eq m Nw

-- holds and waits are in modes that their names fit; where a Collapse is due, and where one is awaited, the table lock covers S
pub record IsFit (w : World) : Type 0 where
  pub holds : list_all (λ h. fits_name h.name h.mode) w.holds ≡ true
  pub waits : list_all (λ x. fits_name x.name x.target) w.waits ≡ true
  pub dues : (c : Conn) (t : TableId) (m : Mode) → w.due c ≡ Some (t, m) → is_covered_on w.holds c S t ≡ true
  pub awaits : (c : Conn) (t : TableId) (m : Mode) (x : Wait) → w.last c ≡ Awaits t m → wait_of w.waits c ≡ Some x
      → (x.name ≡ Table t) × (covers x.target S ≡ true) × (x.term ≡ Kept)

-- no Lock is asked for on a key name or END alone, as conduct has it: guarded Nexts and blocked writes ask for those
abbrev pub is_plain_lock : Why → Name → Bool
is_plain_lock Asked (Key i v) = false
is_plain_lock Asked (End i) = false
is_plain_lock why n = true

-- so of every act
abbrev pub is_plain : Act → Bool
is_plain (Lock n m term why got) = is_plain_lock why n
is_plain a = true

-- the connection keeps S or NW on the name
abbrev pub keeps_guard : List Hold → Conn → Name → Bool
keeps_guard holds c n = option_map_or (λ h. is_kept h.term && (mode_eq h.mode S || mode_eq h.mode Nw)) (hold_on holds c n) false

-- or its lock on the table covers S
abbrev pub guards_name : List Hold → Conn → TableId → Name → Bool
guards_name holds c t n = is_covered_on holds c S t || keeps_guard holds c n

-- the keys that a scan has come to: those not above where it stands, or all at Past
abbrev pub is_reached : Stand → Value → Bool
is_reached (At v r) u = not (value_lt v u)
is_reached Past u = true
is_reached _ u = false

-- it stands at a key in the range, or is past it
abbrev pub stands_in : Range → Stand → Bool
stands_in range (At v r) = is_in_range range v
stands_in range Past = true
stands_in range _ = false

-- the key is past the high bound, and meets the low one
abbrev pub is_beyond : Range → Value → Bool
is_beyond range v = meets_low range.low v && not (meets_high range.high v)

-- the name that bounds the part that a scan has passed: the key where it stands, or at Past the first key beyond the range, or END
abbrev pub limit_name : World → IndexId → Range → Stand → Name
limit_name w i range (At v r) = Key i v
limit_name w i range _ = key_name i (find (λ p. is_beyond range p.0) (entries_of w i))

-- the slot is there and dead, or the connection keeps S or more on its row, or its lock on the table covers S
abbrev pub is_slot_kept : World → Conn → TableId → Rid → Bool
is_slot_kept w c t r =
    is_covered_on w.holds c S t || (keeps_mode w.holds c (Row t r) S || (nat_lt r.0 (slots w t) && is_dead (versions w t r)))

-- what a scan of the range keeps that stands here:
--     passed    it guards the name of each key that it has come to
--     limit     and the name that bounds them
--     looked    it keeps each slot whose pair it has passed
pub record IsRangeKept (w : World) (c : Conn) (i : IndexId) (t : TableId) (range : Range) (stand : Stand) : Type 0 where
  pub inside : stands_in range stand ≡ true
  pub passed : (p : Value × Rid) → has_pair (entries_of w i) p ≡ true → (is_in_range range p.0 && is_reached stand p.0) ≡ true
      → guards_name w.holds c t (Key i p.0) ≡ true
  pub limit : guards_name w.holds c t (limit_name w i range stand) ≡ true
  pub looked : (p : Value × Rid) → has_pair (entries_of w i) p ≡ true → (is_in_range range p.0 && is_passed stand p) ≡ true
      → is_slot_kept w c t p.1 ≡ true

-- the facts of modes, pairs and versions that the gaps rest on
pub record IsOrderly (w : World) : Type 0 where
  pub fit : IsFit w
  pub ordered : EntriesOrdered w
  pub piled : VersionsLayered w
  pub logged : VersionsLogged w
