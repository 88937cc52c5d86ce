-- What an entry does to the holds.
use Rattle.std.specs.Option.{option_map_or}
use Rattle.std.specs.Prelude.{Bool, true, false, not, ◌&&◌, List, [], ◌∷◌, map, if◌then◌else◌, Some, None, filter, Option}
use Rattle.iso_history.specs.Entries.{found, guard, has_key, key_name}
use Rattle.iso_history.specs.Versions.{is_dead, versions}
use Rattle.iso_history.specs.World.{Last, World}
use Rattle.iso_history.specs.World.Last.{Claimed}
use Rattle.iso_history.specs.declared.entry.Act.{Act}
use Rattle.iso_history.specs.declared.entry.Act.TheVariants.{Claim, Collapse, Commit, Free, Insert, Lock, Look, Next, Rollback, Update}
use Rattle.iso_history.specs.declared.entry.Got.{Got}
use Rattle.iso_history.specs.declared.entry.Stand.TheVariants.{At, Past}
use Rattle.iso_history.specs.declared.entry.Want.{Want}
use Rattle.iso_history.specs.declared.entry.Want.TheVariants.{Alter, AlterKept, Repeat, Steady}
use Rattle.iso_history.specs.declared.entry.Who.{Who}
use Rattle.iso_history.specs.declared.entry.Who.TheVariants.{Agent, Dispatcher}
use Rattle.iso_modes.specs.Terms.{is_kept}
use Rattle.iso_modes.specs.declared.Mode.{Mode}
use Rattle.iso_modes.specs.declared.Mode.TheVariants.{Ns, S, U, X}
use Rattle.iso_modes.specs.declared.Term.{Term}
use Rattle.iso_modes.specs.declared.Term.TheVariants.{Fresh, Kept}
use Rattle.iso_queue.specs.Locks.{Hold, Request, all_placed, collapsed, dropped, freed, hold_on, settled, without_briefs}
use Rattle.iso_queue.specs.Queues.{wait_of}
use Rattle.iso_types.specs.Head.{indexes_of, key_in}
use Rattle.iso_types.specs.declared.head.Head.{Head}
use Rattle.iso_types.specs.declared.head.Range.{Range}
use Rattle.iso_types.specs.declared.value.Conn.{Conn}
use Rattle.iso_types.specs.declared.value.IndexId.{IndexId}
use Rattle.iso_types.specs.declared.value.Name.{Name}
use Rattle.iso_types.specs.declared.value.Name.TheVariants.{Key, Row}
use Rattle.iso_types.specs.declared.value.Rid.{Rid}
use Rattle.iso_types.specs.declared.value.TableId.{TableId}
use Rattle.iso_types.specs.declared.value.Value.{Value}

-- the mode and term that a want places on the row, or none
abbrev pub placed_by_want : Want → Option (Mode × Term)
placed_by_want Steady = Some (Ns, Fresh)
placed_by_want Repeat = Some (S, Kept)
placed_by_want Alter = Some (U, Fresh)
placed_by_want AlterKept = Some (U, Kept)
placed_by_want _ = None

-- the request of a mode and term on a name
abbrev pub request_on : Name → Mode × Term → Request
request_on n m = record { name = n; mode = m.0; term = m.1 }

-- the requests that a granted look places: none at a dead slot
abbrev pub looked : World → TableId → Rid → Want → List Request
looked w t r want =
    if is_dead (versions w t r) then [] else option_map_or (λ m. request_on (Row t r) m ∷ []) (placed_by_want want) []

-- the connection has a Kept hold on the name
abbrev pub keeps : World → Conn → Name → Bool
keeps w c n = option_map_or (λ h. is_kept h.term) (hold_on w.holds c n) false

-- the new keys of a row that have no entry, and on whose guard the connection has a Kept hold
abbrev pub is_inherited : Head → World → Conn → List Value → IndexId → Bool
is_inherited head w c row i = not (has_key w i (key_in head i row)) && keeps w c (guard w i (key_in head i row))

-- their key names
abbrev pub inherited : Head → World → Conn → TableId → List Value → List Name
inherited head w c t row = map (λ i. Key i (key_in head i row)) (filter (is_inherited head w c row) (indexes_of head t))

-- S Kept on each of them
abbrev pub inheriting : Head → World → Conn → TableId → List Value → List Request
inheriting head w c t row = map (λ n. request_on n (S, Kept)) (inherited head w c t row)

-- the name on which a guarded Next asks S
abbrev pub next_name : World → IndexId → Range → Option (Value × Rid) → Name
next_name w i range at = key_name i (found w i range at)

-- what a Next places: S Kept where it is guarded
abbrev pub guarded_next : World → IndexId → Range → Option (Value × Rid) → Bool → List Request
guarded_next w i range at true = request_on (next_name w i range at) (S, Kept) ∷ []
guarded_next w i range at false = []

-- what the entry itself does
pub data Hand : Type 0 where
  Leaves : Hand
  Places : (requests : List Request) → Hand
  Frees : (name : Name) → Hand
  Collapses : (table : TableId) → Hand
  Drops : Hand

-- a Claim places the target and term of its wait
abbrev pub claimed : World → Conn → Hand
claimed w c =
    option_map_or (λ x. Places (record { name = x.name; mode = x.target; term = x.term } ∷ [])) (wait_of w.waits c) Leaves

-- what each kind of entry does to the holds
abbrev pub hand_of : Head → World → Conn → Act → Hand
hand_of head w c (Lock name mode term why Got.Granted) = Places (record { name = name; mode = mode; term = term } ∷ [])
hand_of head w c (Look t r want Got.Granted) = Places (looked w t r want)
hand_of head w c (Next i range at guarded (At v r)) = Places (guarded_next w i range at guarded)
hand_of head w c (Next i range at guarded Past) = Places (guarded_next w i range at guarded)
hand_of head w c Claim = claimed w c
hand_of head w c (Free t r) = Frees (Row t r)
hand_of head w c (Collapse t mode) = Collapses t
hand_of head w c (Insert t r row) = Places (request_on (Row t r) (X, Kept) ∷ inheriting head w c t row)
hand_of head w c (Update t r row) = Places (inheriting head w c t row)
hand_of head w c Commit = Drops
hand_of head w c (Rollback code reason) = Drops
hand_of head w c Act.Ended = Drops
hand_of head w c _ = Leaves

-- the name on which a Fresh hold stays Fresh: a Free's row, and the row of a Look next after a Claim
abbrev pub spared_by_look : Name → Last → Option Name
spared_by_look n Claimed = Some n
spared_by_look n _ = None

-- a Free spares its row, a Look its row next after a Claim
abbrev pub spared : Act → Last → Option Name
spared (Free t r) last = Some (Row t r)
spared (Look t r want got) last = spared_by_look (Row t r) last
spared _ last = None

-- the holds after that
abbrev pub holds_by_hand : Head → Conn → Hand → List Hold → List Hold
holds_by_hand head c Leaves holds = holds
holds_by_hand head c (Places requests) holds = all_placed head holds c requests
holds_by_hand head c (Frees n) holds = freed c n holds
holds_by_hand head c (Collapses t) holds = collapsed head c t holds
holds_by_hand head c Drops holds = dropped c holds

-- Fresh becomes Kept; then the entry's own effect; then what was Brief before goes
abbrev pub holds_by_agent : Head → World → Conn → Act → List Hold
holds_by_agent head w c a =
    without_briefs w.holds c (holds_by_hand head c (hand_of head w c a) (settled c (spared a (w.last c)) w.holds))

-- the holds after an entry; the dispatcher's leave them
abbrev pub holds_by : Head → World → Who → Act → List Hold
holds_by head w Dispatcher a = w.holds
holds_by head w (Agent c) a = holds_by_agent head w c a
