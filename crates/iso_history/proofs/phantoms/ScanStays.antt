-- G5: from where a guarded scan has come to, no entry of another connection changes a slot in the part that it has passed.
use Rattle.std.proofs.Common.{◌≡◌, Bool, true, false, not, ◌&&◌, List, [], ◌∷◌, refl, sym, subst, Some, None}
use Rattle.std.specs.Prelude.{IsTrue}
use Rattle.iso_history.proofs.phantoms.Tests.{turned}
use Rattle.iso_history.proofs.phantoms.Names.{conn_turned}
use Rattle.iso_history.proofs.phantoms.RangeAfter.{orderly-after, range-after, slot_kept-after}
use Rattle.iso_history.proofs.phantoms.RangeStay.{watched-stays}
use Rattle.iso_history.proofs.phantoms.ScanLooks.{look-keeps}
use Rattle.iso_history.proofs.phantoms.ScanMoves.{first-at, first-past, later-at, later-past, next-guards_at, next-guards_past}
use Rattle.iso_history.proofs.phantoms.NextLaws.{next-stands}
use Rattle.iso_history.specs.After.{after, world_from}
use Rattle.iso_history.specs.Facts.{IsSound}
use Rattle.iso_history.specs.Gaps.{IsOrderly, IsRangeKept, is_plain, is_slot_kept}
use Rattle.iso_history.specs.Orders.{EntriesOrdered}
use Rattle.iso_history.specs.Guards.{RangeStays, ends_unit, is_end, is_others, is_own, is_watched}
use Rattle.iso_history.specs.Legal.{Allowed, By, ByAgent}
use Rattle.iso_history.specs.Makers.{by_agent}
use Rattle.iso_history.specs.Scans.{Goes, HasStand, Place, SoundRun}
use Rattle.iso_history.specs.Scans.Goes.{Closes, Empties, Looks, Rests, Starts, Steps, Waits}
use Rattle.iso_history.specs.Scans.Place.{First, Found, Over, Seen}
use Rattle.iso_history.specs.Versions.{versions}
use Rattle.iso_history.specs.World.{World}
use Rattle.iso_history.specs.declared.entry.Act.{Act}
use Rattle.iso_history.specs.declared.entry.Act.TheVariants.{Look, Next}
use Rattle.iso_history.specs.declared.entry.Entry.{Entry}
use Rattle.iso_history.specs.declared.entry.Got.{Got}
use Rattle.iso_history.specs.declared.entry.Stand.{Stand}
use Rattle.iso_history.specs.declared.entry.Stand.TheVariants.{At, Past}
use Rattle.iso_history.specs.declared.entry.Who.{Who}
use Rattle.iso_history.specs.declared.entry.Who.TheVariants.{Agent, Dispatcher}
use Rattle.iso_types.specs.Head.{table_of_index}
use Rattle.iso_types.specs.Ids.{conn_eq}
use Rattle.iso_types.specs.declared.head.Head.{Head}
use Rattle.iso_types.specs.declared.head.Range.{Range}
use Rattle.iso_types.specs.declared.value.Conn.{Conn}
use Rattle.iso_types.specs.declared.value.IndexId.{IndexId}
use Rattle.iso_types.specs.declared.value.Name.{Name}
use Rattle.iso_types.specs.declared.value.Rid.{Rid}
use Rattle.iso_types.specs.declared.value.TableId.{TableId}
use Rattle.iso_types.specs.declared.value.Value.{Value}

-- what a scan keeps that has come to a place
abbrev pub IsPlaceKept : World → Conn → IndexId → TableId → Range → Place → Type 0
IsPlaceKept w c i t range First = Unit {0}
IsPlaceKept w c i t range (Found p) = IsRangeKept w c i t range (At p.0 p.1)
IsPlaceKept w c i t range (Seen p) = IsRangeKept w c i t range (At p.0 p.1) × (is_slot_kept w c t p.1 ≡ true)
IsPlaceKept w c i t range Over = IsRangeKept w c i t range Past

at-queued : (v : Value) (r : Rid) (n : Name) → At v r ≡ Stand.Queued n → ⊥
at-queued v r n e = cc

at-out : (v : Value) (r : Rid) (n : Name) → At v r ≡ Stand.TimedOut n → ⊥
at-out v r n e = cc

past-queued : (n : Name) → Past ≡ Stand.Queued n → ⊥
past-queued n e = cc

past-out : (n : Name) → Past ≡ Stand.TimedOut n → ⊥
past-out n e = cc

pub own-ends : (c : Conn) (a : Act) → is_end a ≡ false → ends_unit c (by_agent c a) ≡ false
own-ends c a e = go (is_own c (by_agent c a)) e
  where
    go : (b : Bool) → is_end a ≡ false → (b && is_end a) ≡ false
    go true e = e
    go false e = refl

module _ (head : Head) (c : Conn) (i : IndexId) (t : TableId) (on : table_of_index head i ≡ Some t) (range : Range) where
  -- an entry that does not end the unit
  pub place-after : (w : World) (e : Entry) → Allowed head w e → is_plain e.act ≡ true → IsSound head w → IsSound head (after head w e) → IsOrderly w
      → ends_unit c e ≡ false
      → (p : Place) → IsPlaceKept w c i t range p → IsPlaceKept (after head w e) c i t range p
  place-after w e al plain sound sa orderly ends First k = tt
  place-after w e al plain sound sa orderly ends (Found p) k = range-after head w e al plain sound sa orderly c i t on range (At p.0 p.1) ends k
  place-after w e al plain sound sa orderly ends (Seen p) k =
      (range-after head w e al plain sound sa orderly c i t on range (At p.0 p.1) ends k.0, slot_kept-after head w e al plain sound sa orderly c t p.1 ends k.1)
  place-after w e al plain sound sa orderly ends Over k = range-after head w e al plain sound sa orderly c i t on range Past ends k

  -- its first Next
  start-at : (w : World) (v : Value) (r : Rid) → ByAgent head w c (Next i range None true (At v r)) → IsSound head w → IsOrderly w
      → IsRangeKept (after head w (by_agent c (Next i range None true (At v r)))) c i t range (At v r)
  unfolding EntriesOrdered
  start-at w v r al sound orderly = first-at (after head w (by_agent c (Next i range None true (At v r)))) c i t range (orderly.ordered i) v r
      (next-stands head w c i range None true (At v r) (at-queued v r) (at-out v r) al.2) (next-guards_at head w sound orderly.fit c i t on range None v r al)

  start-past : (w : World) → ByAgent head w c (Next i range None true Past) → IsSound head w → IsOrderly w
      → IsRangeKept (after head w (by_agent c (Next i range None true Past))) c i t range Past
  unfolding EntriesOrdered
  start-past w al sound orderly = first-past (after head w (by_agent c (Next i range None true Past))) c i t range (orderly.ordered i)
      (next-stands head w c i range None true Past past-queued past-out al.2) (next-guards_past head w sound orderly.fit c i t on range None al)

  -- a later Next
  step-at : (w : World) (p : Value × Rid) (v : Value) (r : Rid) → ByAgent head w c (Next i range (Some p) true (At v r)) → IsSound head w → IsOrderly w
      → IsPlaceKept (after head w (by_agent c (Next i range (Some p) true (At v r)))) c i t range (Seen p)
      → IsRangeKept (after head w (by_agent c (Next i range (Some p) true (At v r)))) c i t range (At v r)
  unfolding EntriesOrdered
  step-at w p v r al sound orderly k = later-at (after head w (by_agent c (Next i range (Some p) true (At v r)))) c i t range (orderly.ordered i) p k.0 k.1 v r
      (next-stands head w c i range (Some p) true (At v r) (at-queued v r) (at-out v r) al.2)
      (next-guards_at head w sound orderly.fit c i t on range (Some p) v r al)

  step-past : (w : World) (p : Value × Rid) → ByAgent head w c (Next i range (Some p) true Past) → IsSound head w → IsOrderly w
      → IsPlaceKept (after head w (by_agent c (Next i range (Some p) true Past))) c i t range (Seen p)
      → IsRangeKept (after head w (by_agent c (Next i range (Some p) true Past))) c i t range Past
  unfolding EntriesOrdered
  step-past w p al sound orderly k = later-past (after head w (by_agent c (Next i range (Some p) true Past))) c i t range (orderly.ordered i) p k.0 k.1
      (next-stands head w c i range (Some p) true Past past-queued past-out al.2) (next-guards_past head w sound orderly.fit c i t on range (Some p) al)

  -- a run begins in a sound world
  pub run-sound : (w : World) (es : List Entry) → SoundRun head w es → IsSound head w
  unfolding SoundRun
  run-sound w [] run = run
  run-sound w (e ∷ es) run = run.0

  -- along the entries of a scan
  pub goes-kept : (p q : Place) (es : List Entry) → Goes c i t range p es q → (w : World) → SoundRun head w es → IsOrderly w → IsPlaceKept w c i t range p
      → IsPlaceKept (world_from head w es) c i t range q × IsOrderly (world_from head w es)
  unfolding SoundRun world_from
  goes-kept p q es (Rests z) w run orderly k = (k, orderly)
  goes-kept p q es (Waits y z e fs ends goes) w run orderly k =
      goes-kept p q fs goes (after head w e) run.3 (orderly-after head w e run.1 run.2 orderly)
      (place-after w e run.1 run.2 run.0 (run-sound (after head w e) fs run.3) orderly ends p k)
  goes-kept p q es (Starts v r z fs goes) w run orderly k =
      let e = by_agent c (Next i range None true (At v r)) in
      goes-kept (Found (v, r)) q fs goes (after head w e) run.3 (orderly-after head w e run.1 refl orderly) (start-at w v r run.1.2.1 run.0 orderly)
  goes-kept p q es (Empties z fs goes) w run orderly k =
      let e = by_agent c (Next i range None true Past) in
      goes-kept Over q fs goes (after head w e) run.3 (orderly-after head w e run.1 refl orderly) (start-past w run.1.2.1 run.0 orderly)
  goes-kept p q es (Looks y want z fs rep goes) w run orderly k =
      let e = by_agent c (Look t y.1 want Got.Granted) in
      let sa = run-sound (after head w e) fs run.3 in
      goes-kept (Seen y) q fs goes (after head w e) run.3 (orderly-after head w e run.1 refl orderly) (
        place-after w e run.1 refl run.0 sa orderly (own-ends c (Look t y.1 want Got.Granted) refl) (Found y) k,
        look-keeps head w run.0 orderly.fit c t y.1 want run.1.2.1 rep sa,
      )
  goes-kept p q es (Steps y v r z fs goes) w run orderly k =
      let a = Next i range (Some y) true (At v r) in
      let sa = run-sound (after head w (by_agent c a)) fs run.3 in
      goes-kept (Found (v, r)) q fs goes (after head w (by_agent c a)) run.3 (orderly-after head w (by_agent c a) run.1 refl orderly)
      (step-at w y v r run.1.2.1 run.0 orderly (place-after w (by_agent c a) run.1 refl run.0 sa orderly (own-ends c a refl) (Seen y) k))
  goes-kept p q es (Closes y z fs goes) w run orderly k =
      let a = Next i range (Some y) true Past in
      let sa = run-sound (after head w (by_agent c a)) fs run.3 in
      goes-kept Over q fs goes (after head w (by_agent c a)) run.3 (orderly-after head w (by_agent c a) run.1 refl orderly)
      (step-past w y run.1.2.1 run.0 orderly (place-after w (by_agent c a) run.1 refl run.0 sa orderly (own-ends c a refl) (Seen y) k))

  -- to the end of the unit
  pub range_stays-from : (stand : Stand) (es : List Entry) (w : World) → SoundRun head w es → IsOrderly w → IsRangeKept w c i t range stand
      → RangeStays head w c t i range stand es
  unfolding SoundRun RangeStays
  range_stays-from stand [] w run orderly kept = tt
  range_stays-from stand (e ∷ es) w run orderly kept =
      (λ others s watched. one e.who run.1.2 others s watched, λ goes. rest goes (range_stays-from stand es (after head w e)))
    where
      one : (who : Who) → By head w who e.act → IsTrue (is_others c (record { who = who; act = e.act })) → (s : Rid)
          → IsTrue (is_watched head w (after head w (record { who = who; act = e.act })) t i range stand s)
          → versions (after head w (record { who = who; act = e.act })) t s ≡ versions w t s
      one Dispatcher al others s watched = cc
      one (Agent d) al others s watched =
          watched-stays head w run.0 orderly c i t on range stand kept d (conn_turned d c (turned (conn_eq d c) others)) e.act al.1 s watched

      rest : IsTrue (not (ends_unit c e))
          → (SoundRun head (after head w e) es → IsOrderly (after head w e) → IsRangeKept (after head w e) c i t range stand
          → RangeStays head (after head w e) c t i range stand es)
          → RangeStays head (after head w e) c t i range stand es
      rest goes ih = ih run.3 (orderly-after head w e run.1 run.2 orderly)
          (range-after head w e run.1 run.2 run.0 (run-sound (after head w e) es run.3) orderly c i t on range stand (turned (ends_unit c e) goes) kept)

  place-stand : (w : World) (q : Place) (stand : Stand) → HasStand q stand → IsPlaceKept w c i t range q → IsRangeKept w c i t range stand
  place-stand w First stand h k = absurd h
  place-stand w (Found p) stand h k = subst (λ (s : Stand). IsRangeKept w c i t range s) (sym h) k
  place-stand w (Seen p) stand h k = subst (λ (s : Stand). IsRangeKept w c i t range s) (sym h) k.0
  place-stand w Over stand h k = subst (λ (s : Stand). IsRangeKept w c i t range s) (sym h) k

  -- G5 from a world on: a scan that has come to a place, and what follows
  pub ranges-stay : (w : World) (es rest : List Entry) (q : Place) (stand : Stand) → SoundRun head w es → SoundRun head (world_from head w es) rest
      → IsOrderly w
      → Goes c i t range First es q → HasStand q stand → RangeStays head (world_from head w es) c t i range stand rest
  ranges-stay w es rest q stand run more orderly goes has =
      let k = goes-kept First q es goes w run orderly tt in
      range_stays-from stand rest (world_from head w es) more k.1 (place-stand (world_from head w es) q stand has k.0)
