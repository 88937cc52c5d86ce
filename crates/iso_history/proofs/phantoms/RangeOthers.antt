-- What a scan keeps, it keeps through the entries of others: no phantom.
use Rattle.std.proofs.Common.{◌≡◌, ◌<◌, ◌≤◌, length, Bool, true, false, not, ◌&&◌, ◌||◌, List, refl, ap, sym, ◌∙◌, arith, subst, ◌⊎◌, inl, inr, Some, None, Option}
use Rattle.std.specs.List.{list_any}
use Rattle.std.specs.Option.{option_map, option_map_or}
use Rattle.std.specs.Prelude.{nat_lt, slice_get}
use Rattle.std.proofs.lemmas.Bool.Decides.{nat_tests}
use Rattle.std.proofs.lemmas.Option.{slice_get_within}
use Rattle.iso_history.proofs.phantoms.Tests.{both, join, opposite, turned}
use Rattle.iso_history.proofs.phantoms.EntriesAfter.{pairs-gained, pairs-lost, pairs_in, purged}
use Rattle.iso_history.proofs.phantoms.Finds.{find-any, find-passes}
use Rattle.iso_history.proofs.phantoms.JudgedGuards.{found-in, insert-free, kept-not-free, old-key-there, update-free}
use Rattle.iso_history.proofs.phantoms.KeptHolds.{held-as}
use Rattle.iso_history.proofs.phantoms.KeysAfter.{index-on-table}
use Rattle.iso_history.proofs.phantoms.Names.{name_same, of-name}
use Rattle.iso_history.proofs.phantoms.Ordered.{has-with, has-without, with-there}
use Rattle.iso_history.proofs.phantoms.OtherHolds.{hold-agent_other}
use Rattle.iso_history.proofs.phantoms.Pairs.{lt-key}
use Rattle.iso_history.proofs.phantoms.Slots.{slots-grow}
use Rattle.iso_history.proofs.phantoms.SlotStays.{slot-stays}
use Rattle.iso_history.proofs.phantoms.Standing.{StandGuards, StandThere, end_guarded, guard-name, guards-of, kept-by, key-pair, key_guarded, stand-guard, stand-more, stand-with, stand-without}
use Rattle.iso_history.specs.After.{after}
use Rattle.iso_history.specs.Entries.{entries_by, entries_of, gained, guard, is_in_range, is_in_use, is_purgeable, is_purgeable_of, least_purgeable, pairing_of, row_has, with_pair}
use Rattle.iso_history.specs.Entries.Pairing.{Gains}
use Rattle.iso_history.specs.Facts.{HoldsThere, IsSound, keeps_mode}
use Rattle.iso_history.specs.Gaps.{IsFit, IsRangeKept, guards_name, is_reached, is_slot_kept, keeps_guard, stands_in}
use Rattle.iso_history.specs.Orders.{EntriesOrdered, VersionsLogged, has_pair}
use Rattle.iso_history.specs.Guards.{is_passed}
use Rattle.iso_history.specs.Holds.{holds_by_agent}
use Rattle.iso_history.specs.Legal.{ByAgent, ByDispatcher}
use Rattle.iso_history.specs.Units.{unit_of}
use Rattle.iso_history.specs.Versions.{change_of, committed, is_dead, is_pending, slots, versions, view}
use Rattle.iso_history.specs.World.{World}
use Rattle.iso_history.specs.Writes.{is_new_key}
use Rattle.iso_history.specs.declared.entry.Act.{Act}
use Rattle.iso_history.specs.declared.entry.Act.TheVariants.{Commit, Delete, Insert, Purge, Undo, Update}
use Rattle.iso_history.specs.declared.entry.Stand.{Stand}
use Rattle.iso_history.specs.declared.entry.Stand.TheVariants.{At, Past}
use Rattle.iso_history.specs.declared.entry.Who.TheVariants.{Agent, Dispatcher}
use Rattle.iso_modes.specs.Modes.{at_least, covers, mode_eq}
use Rattle.iso_modes.specs.Terms.{is_kept}
use Rattle.iso_modes.specs.declared.Mode.TheVariants.{Nw, S}
use Rattle.iso_queue.specs.Locks.{Hold, hold_on, is_covered_on, is_hold_of, others_guard}
use Rattle.iso_types.specs.Head.{indexes_of, is_index, key_in, table_of_index}
use Rattle.iso_types.specs.Ids.{conn_eq, index_eq, name_eq}
use Rattle.iso_types.specs.Value.{value_lt}
use Rattle.iso_types.specs.declared.head.Head.{Head}
use Rattle.iso_types.specs.declared.head.IndexDef.{IndexDef}
use Rattle.iso_types.specs.declared.head.Range.{Range}
use Rattle.iso_types.specs.declared.value.Conn.{Conn}
use Rattle.iso_types.specs.declared.value.IndexId.{IndexId}
use Rattle.iso_types.specs.declared.value.Name.{Name}
use Rattle.iso_types.specs.declared.value.Name.TheVariants.{End, Key, Row, Table}
use Rattle.iso_types.specs.declared.value.Rid.{Rid}
use Rattle.iso_types.specs.declared.value.TableId.{TableId}
use Rattle.iso_types.specs.declared.value.Value.{Value}

-- a lock that covers S stands for all that the scan keeps
pub covered-range : (w : World) (c : Conn) (i : IndexId) (t : TableId) (range : Range) (stand : Stand) → stands_in range stand ≡ true
    → is_covered_on w.holds c S t ≡ true
    → IsRangeKept w c i t range stand
covered-range w c i t range stand ins e = record {
  inside = ins;
  passed = λ p hp f. rw e refl;
  limit = rw e refl;
  looked = λ p hp f. rw e refl;
}

-- an index that has a table is one of the head
pub index-there : (head : Head) (i : IndexId) (t : TableId) → table_of_index head i ≡ Some t → is_index head i ≡ true
index-there head i t e = go (slice_get head.indexes i.0) refl
  where
    go : (o : Option IndexDef) → slice_get head.indexes i.0 ≡ o → is_index head i ≡ true
    go None f = let z : None ≡ Some t = rw f at e in absurd (cc)
    go (Some x) f = let lt : i.0 < length head.indexes = slice_get_within head.indexes i.0 x f in grind (arith, nat_tests, lt)

-- the table of an index that is among those of a table
pub index-table : (head : Head) (i : IndexId) (t x : TableId) → table_of_index head i ≡ Some t → list_any (index_eq i) (indexes_of head x) ≡ true → x ≡ t
index-table head i t x e h = let z : Some x ≡ Some t = sym (index-on-table head x i (found-in i (indexes_of head x) h)) ∙ e in cc

module _ (head : Head) (w : World) (sound : IsSound head w) (fit : IsFit w) (o : EntriesOrdered w) (c : Conn) (i : IndexId) (t : TableId)
    (on : table_of_index head i ≡ Some t)
    (range : Range) (stand : Stand) (kept : IsRangeKept w c i t range stand) (bare : is_covered_on w.holds c S t ≡ false) where
  -- what is guarded without a covering lock is kept
  bare-kept : (n : Name) → guards_name w.holds c t n ≡ true → keeps_guard w.holds c n ≡ true
  bare-kept n e = rw bare at e

  -- the key where the scan stands has a pair
  pub stand-there : StandThere stand (entries_of w i)
  unfolding HoldsThere
  stand-there = go stand kept
    where
      go : (s : Stand) → IsRangeKept w c i t range s → StandThere s (entries_of w i)
      go (At v r) k =
          let x = held-as (λ h. is_kept h.term && (mode_eq h.mode S || mode_eq h.mode Nw)) (hold_on w.holds c (Key i v)) (bare-kept (Key i v) k.limit) in
          key-pair v (entries_of w i) (sound.there c (Key i v) x.0 x.1)
      go Past k = tt
      go (Stand.Queued n) k = tt
      go (Stand.TimedOut n) k = tt

  -- a key that it has come to has a guarded guard
  pub come-guarded : (k : Value) → (is_in_range range k && is_reached stand k) ≡ true → guards_name w.holds c t (guard w i k) ≡ true
  unfolding EntriesOrdered
  come-guarded k e = guard-name w.holds c t w i k
      ∙ stand-guard (key_guarded w.holds c t i) (end_guarded w.holds c t i) range stand (entries_of w i) (o i) kept.inside stand-there
      (guards-of w c i t range stand kept) k e

  -- a guard that is free for another is none that it guards
  free-not : (d : Conn) (k : Value) → conn_eq c d ≡ false → others_guard w.holds d (guard w i k) ≡ false → guards_name w.holds c t (guard w i k) ≡ true → ⊥
  free-not d k ne f g = kept-not-free w.holds c d (guard w i k) ne (bare-kept (guard w i k) g) f

  -- so what another adds is none that it has come to
  pub added-not-come : (d : Conn) (k : Value) → conn_eq c d ≡ false → others_guard w.holds d (guard w i k) ≡ false
      → (is_in_range range k && is_reached stand k) ≡ true → ⊥
  added-not-come d k ne f e = free-not d k ne f (come-guarded k e)

-- what a scan has passed it has come to
pub passed-reached : (stand : Stand) (p : Value × Rid) → is_passed stand p ≡ true → is_reached stand p.0 ≡ true
passed-reached (At v r) p e = opposite (value_lt v p.0) (lt-key p (v, r) e)
passed-reached Past p e = refl
passed-reached (Stand.Queued n) p e = cc
passed-reached (Stand.TimedOut n) p e = cc

-- a pair that it has passed is one that it has come to
pub passed-come : (range : Range) (stand : Stand) (p : Value × Rid) → (is_in_range range p.0 && is_passed stand p) ≡ true
    → (is_in_range range p.0 && is_reached stand p.0) ≡ true
passed-come range stand p e = let x = both (is_in_range range p.0) (is_passed stand p) e in
    join (is_in_range range p.0) (is_reached stand p.0) x.0 (passed-reached stand p x.1)

-- another's entry leaves what c holds
module _ (head : Head) (w : World) (c d : Conn) (ne : conn_eq c d ≡ false) (a : Act) where
  pub covered-same : (t : TableId) → is_covered_on (holds_by_agent head w d a) c S t ≡ is_covered_on w.holds c S t
  covered-same t = ap (λ (h : Option Hold). option_map_or (λ m. covers m S) (option_map (λ h. h.mode) h) false) (hold-agent_other head c d ne (Table t) w a)

  pub keeps-same : (n : Name) → keeps_guard (holds_by_agent head w d a) c n ≡ keeps_guard w.holds c n
  keeps-same n = ap (λ (h : Option Hold). option_map_or (λ h. is_kept h.term && (mode_eq h.mode S || mode_eq h.mode Nw)) h false)
      (hold-agent_other head c d ne n w a)

  pub mode-same : (n : Name) → keeps_mode (holds_by_agent head w d a) c n S ≡ keeps_mode w.holds c n S
  mode-same n = ap (λ (h : Option Hold). option_map_or (λ h. is_kept h.term && at_least h.mode S) h false) (hold-agent_other head c d ne n w a)

  pub guards-same : (t : TableId) (n : Name) → guards_name (holds_by_agent head w d a) c t n ≡ guards_name w.holds c t n
  guards-same t n = rw (covered-same t, keeps-same n) refl

  -- a slot that it keeps
  pub slot_kept-others : IsSound head w → IsFit w → VersionsLogged w → ByAgent head w d a → (t : TableId) (s : Rid) → is_slot_kept w c t s ≡ true
      → is_slot_kept (after head w (record { who = Agent d; act = a })) c t s ≡ true
  slot_kept-others sound fit logged al t s e = go (is_covered_on w.holds c S t) refl (keeps_mode w.holds c (Row t s) S) refl
    where
      x : World
      x = after head w (record { who = Agent d; act = a })

      there : (b q : Bool) → nat_lt s.0 (slots w t) ≡ true → nat_lt s.0 (slots x t) ≡ true
      there b q lt =
          let small : s.0 < slots w t = grind (arith, nat_tests, lt) in
          let g : slots w t ≤ slots x t = slots-grow w (unit_of w d) (change_of a) t in
          let z : s.0 < slots x t = omega (arith, small, g) in grind (arith, nat_tests, z)

      go : (p : Bool) → is_covered_on w.holds c S t ≡ p → (q : Bool) → keeps_mode w.holds c (Row t s) S ≡ q → is_slot_kept x c t s ≡ true
      go true f q g = let z : is_covered_on x.holds c S t ≡ true = covered-same t ∙ f in rw z refl
      go false f true g = let z : is_covered_on x.holds c S t ≡ false = covered-same t ∙ f in
          let y : keeps_mode x.holds c (Row t s) S ≡ true = mode-same (Row t s) ∙ g in rw (z, y) refl
      go false f false g =
          let z : is_covered_on x.holds c S t ≡ false = covered-same t ∙ f in
          let y : keeps_mode x.holds c (Row t s) S ≡ false = mode-same (Row t s) ∙ g in
          let k : (nat_lt s.0 (slots w t) && is_dead (versions w t s)) ≡ true = rw (f, g) at e in
          let b = both (nat_lt s.0 (slots w t)) (is_dead (versions w t s)) k in
          let v : versions x t s ≡ versions w t s = slot-stays head w sound fit c d ne logged a t s al e in
          let l : nat_lt s.0 (slots x t) ≡ true = there true true b.0 in
          let m : is_dead (versions x t s) ≡ true = ap is_dead v ∙ b.1 in
          rw (z, y, l) m

-- another agent's entry
module _ (head : Head) (w : World) (sound : IsSound head w) (fit : IsFit w) (logged : VersionsLogged w) (o : EntriesOrdered w) (c : Conn) (i : IndexId)
    (t : TableId)
    (on : table_of_index head i ≡ Some t) (range : Range) (stand : Stand) (kept : IsRangeKept w c i t range stand) (d : Conn) (ne : conn_eq c d ≡ false) where
  -- the pairs after it: still guarded, and no new one in the part that the scan has passed
  abbrev PairsStand : List (Value × Rid) → Type 0
  PairsStand qs = StandGuards (key_guarded w.holds c t i) (end_guarded w.holds c t i) range stand qs
      × ((p : Value × Rid) → has_pair qs p ≡ true → (is_in_range range p.0 && is_reached stand p.0) ≡ true → has_pair (entries_of w i) p ≡ true)

  same-pairs : PairsStand (entries_of w i)
  same-pairs = (guards-of w c i t range stand kept, λ p h e. h)

  -- a pair whose guard is free for the other
  free-pairs : is_covered_on w.holds c S t ≡ false → (n : Value × Rid) → others_guard w.holds d (guard w i n.0) ≡ false
      → PairsStand (with_pair n (entries_of w i))
  unfolding EntriesOrdered
  free-pairs bare n free = (
    stand-with (key_guarded w.holds c t i) (key_guarded w.holds c t i) (end_guarded w.holds c t i) (end_guarded w.holds c t i) (λ v e. e)
        (λ e. e) range stand (entries_of w i) (o i) n
        (λ e. absurd (free-not head w sound fit o c i t on range stand kept bare d n.0 ne free (guard-name w.holds c t w i n.0 ∙ e)))
        kept.inside (stand-there head w sound fit o c i t on range stand kept bare) (guards-of w c i t range stand kept),
    λ p h e. elim (has-with n p (entries_of w i) h) [
      | inl k ↦ k
      | inr k ↦ absurd (added-not-come head w sound fit o c i t on range stand kept bare d n.0 ne free
          (subst (λ (z : Value × Rid). (is_in_range range z.0 && is_reached stand z.0) ≡ true) k e))
    ],
  )

  gained-pairs : is_covered_on w.holds c S t ≡ false → (x : TableId) (y : Rid) (row : List Value)
      → (list_any (index_eq i) (indexes_of head x) ≡ true → (others_guard w.holds d (guard w i (key_in head i row)) ≡ false)
      ⊎ (has_pair (entries_of w i) (key_in head i row, y) ≡ true))
      → PairsStand (pairs_in (entries_by head w (Gains x y row)) i)
  unfolding EntriesOrdered
  gained-pairs bare x y row f = subst PairsStand (sym (pairs-gained head w x y row i (index-there head i t on)))
      (go (list_any (index_eq i) (indexes_of head x)) refl)
    where
      go : (b : Bool) → list_any (index_eq i) (indexes_of head x) ≡ b → PairsStand (gained head w x y row i)
      go false e = rw e same-pairs
      go true e = rw e (elim (f e) [
        | inl k ↦ free-pairs bare (key_in head i row, y) k
        | inr k ↦ subst PairsStand (sym (with-there (key_in head i row, y) (entries_of w i) (o i) k)) same-pairs
      ])

  agent-pairs : is_covered_on w.holds c S t ≡ false → (a : Act) → ByAgent head w d a → PairsStand (pairs_in (entries_by head w (pairing_of a)) i)
  agent-pairs bare (Insert x y row) al = gained-pairs bare x y row (λ h. inl (insert-free head w d x row i al.4 h))
  agent-pairs bare (Update x y row) al = gained-pairs bare x y row (λ h. go h (is_new_key head i (view w d x y) row) refl)
    where
      go : list_any (index_eq i) (indexes_of head x) ≡ true → (b : Bool) → is_new_key head i (view w d x y) row ≡ b
          → (others_guard w.holds d (guard w i (key_in head i row)) ≡ false) ⊎ (has_pair (entries_of w i) (key_in head i row, y) ≡ true)
      go h true e = inl (update-free head w d x y row i al.3 h e)
      go h false e = inr (old-key-there head w d x y row i sound.keys h e)
  agent-pairs bare (Purge j key y) al = absurd al
  agent-pairs bare _ al = same-pairs

  -- what a scan keeps through an entry of another agent
  pub range-agent_other : (a : Act) → ByAgent head w d a → IsRangeKept (after head w (record { who = Agent d; act = a })) c i t range stand
  range-agent_other a al = go (is_covered_on w.holds c S t) refl
    where
      x : World
      x = after head w (record { who = Agent d; act = a })

      go : (b : Bool) → is_covered_on w.holds c S t ≡ b → IsRangeKept x c i t range stand
      go true e = covered-range x c i t range stand kept.inside (covered-same head w c d ne a t ∙ e)
      go false e =
          let p = agent-pairs e a al in
          kept-by x c i t range stand kept.inside
          (stand-more (key_guarded w.holds c t i) (key_guarded x.holds c t i) (end_guarded w.holds c t i) (end_guarded x.holds c t i)
          (λ v k. guards-same head w c d ne a t (Key i v) ∙ k) (λ k. guards-same head w c d ne a t (End i) ∙ k) range stand (entries_of x i) p.0)
          (λ q h k. slot_kept-others head w c d ne a sound fit logged al t q.1 (kept.looked q (p.1 q h (passed-come range stand q k)) k))

-- a held name is in use
held-used : (w : World) (c : Conn) (n : Name) (h : Hold) → hold_on w.holds c n ≡ Some h → is_in_use w n ≡ true
held-used w c n h e =
    let z : list_any (λ h. name_eq h.name n) w.holds ≡ true = find-any (is_hold_of c n) (λ h. name_eq h.name n) w.holds h e
    (subst (λ (k : Name). name_eq k n ≡ true) (sym (of-name c n h (find-passes (is_hold_of c n) w.holds h e))) (name_same n)) in
    rw z refl

-- what is purged is not in use
purged-unused : (head : Head) (w : World) (j : IndexId) (key : Value) (y : Rid) (t : TableId) → table_of_index head j ≡ Some t
    → least_purgeable head w ≡ Some (j, (key, y))
    → is_in_use w (Key j key) ≡ false
purged-unused head w j key y t on l =
    let z : is_purgeable head w j (key, y) ≡ true = purged head w j (key, y) l in
    let f : is_purgeable_of head w j (key, y) t ≡ true = rw on at z in
    turned (is_in_use w (Key j key)) (both (not (is_pending (versions w t y)) && not (row_has head j key (committed (versions w t y))))
    (not (is_in_use w (Key j key))) f).1

-- the dispatcher's entry
module _ (head : Head) (w : World) (o : EntriesOrdered w) (c : Conn) (i : IndexId) (t : TableId)
    (on : table_of_index head i ≡ Some t) (range : Range) (stand : Stand) (kept : IsRangeKept w c i t range stand) where
  -- a key that is not in use is not guarded
  unused-free : (key : Value) → is_covered_on w.holds c S t ≡ false → is_in_use w (Key i key) ≡ false → key_guarded w.holds c t i key ≡ false
  unused-free key bare u = go (key_guarded w.holds c t i key) refl
    where
      go : (b : Bool) → key_guarded w.holds c t i key ≡ b → key_guarded w.holds c t i key ≡ false
      go false e = e
      go true e =
          let k : keeps_guard w.holds c (Key i key) ≡ true = rw bare at e in
          let x = held-as (λ h. is_kept h.term && (mode_eq h.mode S || mode_eq h.mode Nw)) (hold_on w.holds c (Key i key)) k in
          let z : is_in_use w (Key i key) ≡ true = held-used w c (Key i key) x.0 x.1 in absurd (cc)

  range-purge : (j : IndexId) (key : Value) (y : Rid) → least_purgeable head w ≡ Some (j, (key, y))
      → IsRangeKept (after head w (record { who = Dispatcher; act = Purge j key y })) c i t range stand
  unfolding EntriesOrdered
  range-purge j key y l = go (is_covered_on w.holds c S t) refl
    where
      x : World
      x = after head w (record { who = Dispatcher; act = Purge j key y })

      by-pairs : StandGuards (key_guarded w.holds c t i) (end_guarded w.holds c t i) range stand (entries_of x i)
          → ((p : Value × Rid) → has_pair (entries_of x i) p ≡ true → has_pair (entries_of w i) p ≡ true) → IsRangeKept x c i t range stand
      by-pairs g back = kept-by x c i t range stand kept.inside g (λ q h k. kept.looked q (back q h) k)

      go : (b : Bool) → is_covered_on w.holds c S t ≡ b → IsRangeKept x c i t range stand
      go true e = covered-range x c i t range stand kept.inside e
      go false e = elim (pairs-lost head w j key y i) [
        | inl k ↦ by-pairs (subst (StandGuards (key_guarded w.holds c t i) (end_guarded w.holds c t i) range stand) (sym k)
            (guards-of w c i t range stand kept))
            (λ p h. subst (λ (l : List (Value × Rid)). has_pair l p ≡ true) k h)
        | inr k ↦ by-pairs (subst (StandGuards (key_guarded w.holds c t i) (end_guarded w.holds c t i) range stand) (sym k.1)
            (stand-without (key_guarded w.holds c t i) (end_guarded w.holds c t i) range stand (entries_of w i) (o i) (key, y)
            (unused-free key e (subst (λ (z : IndexId). is_in_use w (Key z key) ≡ false) (sym k.0)
            (purged-unused head w j key y t (subst (λ (z : IndexId). table_of_index head z ≡ Some t) k.0 on) l)))
            (guards-of w c i t range stand kept)))
            (λ p h. (has-without (key, y) p (entries_of w i) (subst (λ (l : List (Value × Rid)). has_pair l p ≡ true) k.1 h)).0)
      ]

  -- and through one of the dispatcher
  pub range-dispatcher : (a : Act) → ByDispatcher head w a → IsRangeKept (after head w (record { who = Dispatcher; act = a })) c i t range stand
  range-dispatcher (Purge j key y) al = range-purge j key y al.2
  range-dispatcher (Insert x y row) al = absurd al
  range-dispatcher (Update x y row) al = absurd al
  range-dispatcher (Delete x y) al = absurd al
  range-dispatcher (Undo n) al = absurd al
  range-dispatcher Commit al = absurd al
  range-dispatcher _ al = record { inside = kept.inside; passed = kept.passed; limit = kept.limit; looked = kept.looked }
