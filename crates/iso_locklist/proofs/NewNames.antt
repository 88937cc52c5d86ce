-- Requests on names that nobody holds or awaits.
use Rattle.std.proofs.Common.{◌≢◌, ◌<◌, ◌≤◌, ◌+◌, length, drop, get_or, ◌≡◌, ℕ, Bool, true, false, not, ◌&&◌, ◌||◌, List, [], ◌∷◌, refl, ap, sym, ◌∙◌, arith}
use Rattle.std.specs.List.{list_any}
use Rattle.std.specs.Option.{option_map_or}
use Rattle.std.specs.Prelude.{count_by, take_while}
use Rattle.std.proofs.lemmas.Cmp.{nat_eq_equiv}
use Rattle.iso_queue.proofs.Steps.{drop_at}
use Rattle.iso_locklist.specs.Holding.{AreNew, IsNew}
use Rattle.iso_locklist.specs.Lists.{asked_for, grants_in, waiting_for}
use Rattle.iso_locklist.specs.declared.places.Asking.{Asking}
use Rattle.iso_locklist.proofs.Alike.{count_parts}
use Rattle.iso_locklist.proofs.AlikeHolds.{added_beside, opposed}
use Rattle.iso_locklist.proofs.AlikeWaits.{ahead_at, beside, own, queued_at, queued_beside}
use Rattle.iso_locklist.proofs.Holding.{none_counted}
use Rattle.iso_locklist.proofs.Lists.{any_seek}
use Rattle.iso_lines.proofs.Names.{name_same}
use Rattle.iso_locklist.proofs.Waits.{apart, stop}
use Rattle.iso_modes.specs.Modes.{compatible, mode_eq}
use Rattle.iso_modes.specs.declared.Mode.{Mode}
use Rattle.iso_modes.specs.declared.Term.TheVariants.{Brief, Kept}
use Rattle.iso_queue.specs.Locks.{Hold, added, held, target}
use Rattle.iso_queue.specs.Queues.{Wait, ahead, is_waiting, opposes, queue, queued, would_wait}
use Rattle.iso_types.specs.Ids.{conn_eq, name_eq}
use Rattle.iso_types.specs.declared.value.Conn.{Conn}
use Rattle.iso_types.specs.declared.value.Name.{Name}

or_true : (a b : Bool) → b ≡ false → (a || not b) ≡ true
or_true true b e = refl
or_true false b e = ap not e

module _ (hs : List Hold) (xs : List Wait) (n : Name) (new : IsNew hs xs n) (c : Conn) (idle : is_waiting xs c ≡ false) where
  asks : Mode → Wait
  asks m = waiting_for hs c n m Brief

  -- a request on it would not wait
  free : (m : Mode) → would_wait hs xs (waiting_for hs c n m Brief) ≡ false
  free m =
      let x = waiting_for hs c n m Brief in
      let none : count_by (own c) xs ≡ 0 = none_counted (own c) xs idle in
      let rest : count_by (own c) (beside n (queued hs (waiting_for hs c n m Brief) xs)) ≡ 0 =
      omega (
        arith,
        none,
        count_parts (own c) (λ y. name_eq y.name n) xs,
        ap (count_by (own c)) (queued_beside hs (waiting_for hs c n m Brief) xs (λ y. not (name_eq y.name n)) (ap not (name_same n))),
      ) in
      let unopposed : list_any (opposes (waiting_for hs c n m Brief)) hs ≡ false =
      any_seek (opposes (waiting_for hs c n m Brief)) (λ (h : Hold). not (conn_eq h.conn c) && not (compatible h.mode (target hs c n m)))
      (λ (h : Hold). name_eq h.name n) hs (opposed (waiting_for hs c n m Brief))
      ∙ ap (list_any (λ (h : Hold). not (conn_eq h.conn c) && not (compatible h.mode (target hs c n m)))) new.held in
      let line : queue (queued hs (waiting_for hs c n m Brief) xs) n ≡ waiting_for hs c n m Brief ∷ [] =
      queued_at hs (waiting_for hs c n m Brief) xs n (name_same n) ∙ ap (queued hs (waiting_for hs c n m Brief)) new.awaited in
      let front : ahead (queued hs (waiting_for hs c n m Brief) xs) (waiting_for hs c n m Brief) ≡ [] =
      ahead_at c n (queued hs (waiting_for hs c n m Brief) xs) rest ∙ ap (take_while (apart c)) line
      ∙ stop (apart c) (waiting_for hs c n m Brief) [] (ap not (nat_eq_equiv.refl c.0)) in
      ap (λ (b : Bool). b || list_any (λ y. true) (ahead (queued hs (waiting_for hs c n m Brief) xs) (waiting_for hs c n m Brief))) unopposed
      ∙ ap (list_any (λ (y : Wait). true)) front

  -- it is granted
  pub new_granted : (m : Mode) → grants_in hs xs c n m ≡ true
  new_granted m =
      or_true (option_map_or (mode_eq (target hs c n m)) (held hs c n) false) (would_wait hs xs (waiting_for hs c n m Brief)) (free m)

module _ (hs : List Hold) (xs : List Wait) (n : Name) (new : IsNew hs xs n) (c : Conn) (m : Mode) where
  or_parts : (a b : Bool) → (a || b) ≡ false → (a ≡ false) × (b ≡ false)
  or_parts true b e = cc
  or_parts false b e = (refl, e)

  -- the other names are new still
  pub still_new : (asks : List Asking) → list_any (λ b. name_eq n b.name) asks ≡ false → AreNew hs xs asks → AreNew (added hs c (asked_for n m Kept)) xs asks
  still_new [] other all = tt
  still_new (a ∷ asks) other all =
      let parts = or_parts (name_eq n a.name) (list_any (λ b. name_eq n b.name) asks) other in
      (record { held = added_beside hs c (asked_for n m Kept) a.name parts.0 ∙ all.0.held; awaited = all.0.awaited }, all.1, still_new asks parts.1 all.2)

-- the requests from a place on
pub asks_from : (asks : List Asking) (i : ℕ) (a : Asking) → i < length asks → a ≡ get_or asks i a → drop i asks ≡ a ∷ drop (i + 1) asks
asks_from asks i a lt at = drop_at asks i a lt ∙ ap (λ (b : Asking). b ∷ drop (i + 1) asks) (sym at)

pub within : (i n : ℕ) → i ≤ n → i ≢ n → i < n
within i n le ne = omega (arith, le, ne)
