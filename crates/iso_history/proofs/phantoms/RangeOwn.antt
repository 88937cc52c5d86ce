-- What a scan keeps, it keeps through its own connection's entries, to the unit's end.
use Rattle.std.proofs.Common.{◌≡◌, ◌<◌, ◌≤◌, ℕ, Bool, true, false, ◌&&◌, ◌||◌, List, [], ◌∷◌, length, refl, ap, sym, ◌∙◌, arith, subst, ◌⊎◌, inl, inr, Some, None, Option, get_or}
use Rattle.std.specs.List.{list_any}
use Rattle.std.specs.Prelude.{find, Contains, nat_lt, is_some}
use Rattle.std.proofs.lemmas.Bool.Decides.{nat_tests}
use Rattle.std.proofs.lemmas.List.{get_or-set_same, get_or_past}
use Rattle.iso_history.proofs.phantoms.Members.{in-first}
use Rattle.iso_history.proofs.phantoms.Tests.{both, join, one-of, opposite, or-right, turned}
use Rattle.iso_history.proofs.phantoms.EntriesAfter.{pairs-gained, pairs_in}
use Rattle.iso_history.proofs.phantoms.Inherited.{inherits-insert, inherits-update, row-inserted}
use Rattle.iso_history.proofs.phantoms.KeptHolds.{held-as}
use Rattle.iso_history.proofs.phantoms.ModeLaws.{cover-x-s, least-x-s}
use Rattle.iso_history.proofs.phantoms.Ordered.{find-has, find-least, find-none, has-with}
use Rattle.iso_history.proofs.phantoms.OwnLocks.{k_guard, own-covered, own-name, own-row}
use Rattle.iso_history.proofs.phantoms.Pairs.{ge-key}
use Rattle.iso_history.proofs.phantoms.RangeOthers.{covered-range, index-table, index-there, stand-there}
use Rattle.iso_history.proofs.phantoms.Ranges.{from_key, guard_kept}
use Rattle.iso_history.proofs.phantoms.Slots.{dead-change, slots-grow}
use Rattle.iso_history.proofs.phantoms.SlotStays.{covered-held, unit-owner-of, write-sees}
use Rattle.iso_history.proofs.phantoms.Standing.{StandGuards, end_guarded, guard-name, guards-of, kept-by, key-pair, key_guarded, stand-more, stand-with}
use Rattle.iso_history.proofs.phantoms.Values.{lt-irrefl, lt-total}
use Rattle.iso_history.proofs.phantoms.VersionsAfter.{versions_in}
use Rattle.iso_history.specs.After.{after}
use Rattle.iso_history.specs.Entries.{entries_by, entries_of, gained, guard, has_key, pairing_of}
use Rattle.iso_history.specs.Entries.Pairing.{Gains}
use Rattle.iso_history.specs.Facts.{IsSound, MakersHold, has_write_lock, keeps_mode}
use Rattle.iso_history.specs.Gaps.{IsFit, IsRangeKept, guards_name, is_plain, is_slot_kept, keeps_guard}
use Rattle.iso_history.specs.Orders.{EntriesOrdered, IsOrdered, has_pair}
use Rattle.iso_history.specs.Guards.{is_end}
use Rattle.iso_history.specs.Holds.{holds_by_agent, is_inherited}
use Rattle.iso_history.specs.Legal.{ByAgent}
use Rattle.iso_history.specs.Units.{unit_of}
use Rattle.iso_history.specs.Versions.{change_of, is_dead, pending_version, slot_list, slots, tables_by, versions, view, view_of}
use Rattle.iso_history.specs.Versions.Change.{Writes}
use Rattle.iso_history.specs.World.{Version, World}
use Rattle.iso_history.specs.declared.entry.Act.{Act}
use Rattle.iso_history.specs.declared.entry.Act.TheVariants.{Insert, Purge, Update}
use Rattle.iso_history.specs.declared.entry.Stand.{Stand}
use Rattle.iso_history.specs.declared.entry.Who.TheVariants.{Agent}
use Rattle.iso_modes.specs.Modes.{at_least, mode_eq}
use Rattle.iso_modes.specs.Terms.{is_kept}
use Rattle.iso_modes.specs.declared.Mode.TheVariants.{Nw, S, X}
use Rattle.iso_queue.specs.Locks.{Hold, hold_on, is_covered_on}
use Rattle.iso_types.specs.Head.{indexes_of, key_in, table_of_index}
use Rattle.iso_types.specs.Ids.{index_eq}
use Rattle.iso_types.specs.Value.{value_lt}
use Rattle.iso_types.specs.declared.head.Head.{Head}
use Rattle.iso_types.specs.declared.head.Range.{Range}
use Rattle.iso_types.specs.declared.value.Conn.{Conn}
use Rattle.iso_types.specs.declared.value.IndexId.{IndexId}
use Rattle.iso_types.specs.declared.value.Name.TheVariants.{End, Key, Row}
use Rattle.iso_types.specs.declared.value.Rid.{Rid}
use Rattle.iso_types.specs.declared.value.TableId.{TableId}
use Rattle.iso_types.specs.declared.value.Value.{Value}

-- the guard of a key that has an entry is its own name
pub has_key-guard : (g : Value → Bool) (e : Bool) (qs : List (Value × Rid)) → IsOrdered qs → (k : Value) (s : Rid) → has_pair qs (k, s) ≡ true
    → guard_kept g e k qs ≡ g k
has_key-guard g e qs o k s h = go (find (from_key k) qs) refl
  where
    self : from_key k (k, s) ≡ true
    self = opposite (value_lt k k) (lt-irrefl k)

    go : (f : Option (Value × Rid)) → find (from_key k) qs ≡ f → guard_kept g e k qs ≡ g k
    go None q = let z : from_key k (k, s) ≡ false = find-none (from_key k) qs (k, s) q h in let y : from_key k (k, s) ≡ true = self in absurd (cc)
    go (Some p) q =
        let f = find-has (from_key k) qs p q in
        let a : value_lt p.0 k ≡ false = turned (value_lt p.0 k) f.1 in
        let b : value_lt k p.0 ≡ false = ge-key (k, s) p (find-least (from_key k) qs p (k, s) o q h self) in
        rw q (ap g (lt-total p.0 k a b))

-- who has the lock to write a slot keeps it
pub write-keeps : (head : Head) (w : World) (c : Conn) (t : TableId) (s : Rid) → has_write_lock head w.holds c t s ≡ true → is_slot_kept w c t s ≡ true
write-keeps head w c t s e = elim (one-of (is_covered_on w.holds c X t) (keeps_mode w.holds c (Row t s) X) e) [
  | inl a ↦ (let x = covered-held w.holds c X t a in let z : is_covered_on w.holds c S t ≡ true = rw x.1 (cover-x-s x.0.mode x.2) in rw z refl)
  | inr a ↦ or-right (is_covered_on w.holds c S t) _ (by (hold_on w.holds c (Row t s)) refl a)
]
  where
    by : (o : Option Hold) → hold_on w.holds c (Row t s) ≡ o → keeps_mode w.holds c (Row t s) X ≡ true
        → (keeps_mode w.holds c (Row t s) S || (nat_lt s.0 (slots w t) && is_dead (versions w t s))) ≡ true
    by None f a = let z : false ≡ true = rw f at a in absurd (cc)
    by (Some h) f a =
        let y : (is_kept h.term && at_least h.mode X) ≡ true = rw f at a in
        let x = both (is_kept h.term) (at_least h.mode X) y in
        let z : keeps_mode w.holds c (Row t s) S ≡ true = rw f (join (is_kept h.term) (at_least h.mode S) x.0 (least-x-s h.mode x.1)) in rw z refl

-- a read that is not the default is within
within : {A : Type 0} (xs : List A) (k : ℕ) (d : A) → (get_or xs k d ≡ d → ⊥) → k < length xs
within xs k d f = go (nat_lt k (length xs)) refl
  where
    go : (b : Bool) → nat_lt k (length xs) ≡ b → k < length xs
    go true e = grind (arith, nat_tests, e)
    go false e = absurd (f (get_or_past xs k d (grind (arith, nat_tests, e))))

-- a version that is written on a slot that shows a row
pub written : (w : World) (c : Conn) (u : ℕ) (t : TableId) (y : Rid) (row : Option (List Value)) → is_some (view w c t y) ≡ true
    → versions_in (tables_by w u (Writes t y row)) t y ≡ pending_version w u row ∷ versions w t y
written w c u t y row e =
    ap (λ (l : List (List Version)). get_or l y.0 [])
    (get_or-set_same w.tables t.0 _ [] (within w.tables t.0 [] (λ q. shows (ap (λ (l : List (List Version)). get_or l y.0 []) q))))
    ∙ get_or-set_same (slot_list w t) y.0 _ [] (within (slot_list w t) y.0 [] shows)
  where
    shows : versions w t y ≡ [] → ⊥
    shows q = let z : view w c t y ≡ None = ap (view_of (unit_of w c)) q in let n : false ≡ true = rw z at e in cc

module _ (head : Head) (w : World) (sound : IsSound head w) (fit : IsFit w) (c : Conn) (a : Act) (al : ByAgent head w c a) (plain : is_plain a ≡ true)
    (ends : is_end a ≡ false)
    (sound_after : IsSound head (after head w (record { who = Agent c; act = a }))) where
  abbrev next_world : World
  next_world = after head w (record { who = Agent c; act = a })

  -- a slot that is kept
  pub slot_kept-own : (t : TableId) (s : Rid) → is_slot_kept w c t s ≡ true → is_slot_kept next_world c t s ≡ true
  slot_kept-own t s e = go (is_covered_on w.holds c S t) refl (keeps_mode w.holds c (Row t s) S) refl
    where
      x : World
      x = next_world

      go : (p : Bool) → is_covered_on w.holds c S t ≡ p → (q : Bool) → keeps_mode w.holds c (Row t s) S ≡ q → is_slot_kept x c t s ≡ true
      go true f q g = rw (own-covered head w sound fit c a al plain ends t f) refl
      go false f true g = or-right (is_covered_on x.holds c S t) _ (rw (own-row head w sound fit c a al plain ends t s f g) refl)
      go false f false g =
          let k : (nat_lt s.0 (slots w t) && is_dead (versions w t s)) ≡ true = rw (f, g) at e in
          let b = both (nat_lt s.0 (slots w t)) (is_dead (versions w t s)) k in
          let v : versions x t s ≡ versions w t s = dead-change w c (unit_of w c) (change_of a) t s (write-sees head w c a al) b.0 b.1 in
          let small : s.0 < slots w t = grind (arith, nat_tests, b.0) in
          let n : slots w t ≤ slots x t = slots-grow w (unit_of w c) (change_of a) t in
          let z : s.0 < slots x t = omega (arith, small, n) in
          let l : nat_lt s.0 (slots x t) ≡ true = grind (arith, nat_tests, z) in
          or-right (is_covered_on x.holds c S t) _
          (or-right (keeps_mode x.holds c (Row t s) S) _ (join (nat_lt s.0 (slots x t)) (is_dead (versions x t s)) l (ap is_dead v ∙ b.1)))

-- the slot of an own Update is kept
updated-kept : (head : Head) (w : World) (c : Conn) (t : TableId) (y : Rid) (row : List Value) → IsSound head w → ByAgent head w c (Update t y row)
    → IsSound head (after head w (record { who = Agent c; act = Update t y row }))
    → is_slot_kept (after head w (record { who = Agent c; act = Update t y row })) c t y ≡ true
unfolding MakersHold
updated-kept head w c t y row sound al sa =
    let x = after head w (record { who = Agent c; act = Update t y row }) in
    let v = pending_version w (unit_of w c) (Some row) in
    let h : Contains (versions x t y) v = subst (λ (l : List Version). Contains l v)
    (sym (written w c (unit_of w c) t y (Some row) (both _ _ (both _ _ al.1).1).1)) (in-first v (versions w t y)) in
    let m = sa.makers t y v h refl in
    let o : m.conn ≡ c = unit-owner-of w sound.units c m.conn m.open_unit in
    write-keeps head x c t y (subst (λ (k : Conn). has_write_lock head x.holds k t y ≡ true) o m.locks)

module _ (head : Head) (w : World) (sound : IsSound head w) (fit : IsFit w) (o : EntriesOrdered w) (c : Conn) (i : IndexId) (t : TableId)
    (on : table_of_index head i ≡ Some t)
    (range : Range) (stand : Stand) (kept : IsRangeKept w c i t range stand) (a : Act) (al : ByAgent head w c a) (plain : is_plain a ≡ true)
    (ends : is_end a ≡ false)
    (sound_after : IsSound head (after head w (record { who = Agent c; act = a }))) where
  abbrev x : World
  x = after head w (record { who = Agent c; act = a })

  -- what is guarded stays guarded
  more-keys : (v : Value) → key_guarded w.holds c t i v ≡ true → key_guarded x.holds c t i v ≡ true
  more-keys v e = own-name head w sound fit c a al plain ends (Key i v) t tt on e

  more-end : end_guarded w.holds c t i ≡ true → end_guarded x.holds c t i ≡ true
  more-end e = own-name head w sound fit c a al plain ends (End i) t tt on e

  -- what the pairs after it have to be: guarded, and where new their slots kept
  abbrev OwnPairs : List (Value × Rid) → Type 0
  OwnPairs qs = StandGuards (key_guarded x.holds c t i) (end_guarded x.holds c t i) range stand qs
      × ((p : Value × Rid) → has_pair qs p ≡ true → (has_pair (entries_of w i) p ≡ true) ⊎ (is_slot_kept x c t p.1 ≡ true))

  own-same : OwnPairs (entries_of w i)
  own-same = (
    stand-more (key_guarded w.holds c t i) (key_guarded x.holds c t i) (end_guarded w.holds c t i) (end_guarded x.holds c t i) more-keys more-end
        range stand (entries_of w i)
        (guards-of w c i t range stand kept),
    λ p h. inl h,
  )

  -- a key inherits where it has no entry and its guard is kept
  inherits-by : is_covered_on w.holds c S t ≡ false → (row : List Value)
      → (is_inherited head w c row i ≡ true → keeps_guard x.holds c (Key i (key_in head i row)) ≡ true)
      → guard_kept (key_guarded w.holds c t i) (end_guarded w.holds c t i) (key_in head i row) (entries_of w i) ≡ true
      → key_guarded x.holds c t i (key_in head i row) ≡ true
  unfolding EntriesOrdered
  inherits-by bare row inh g = go (has_key w i (key_in head i row)) refl
    where
      k : Value
      k = key_in head i row

      go : (b : Bool) → has_key w i k ≡ b → key_guarded x.holds c t i k ≡ true
      go true h = let s = key-pair k (entries_of w i) h in
          more-keys k (sym (has_key-guard (key_guarded w.holds c t i) (end_guarded w.holds c t i) (entries_of w i) (o i) k s.0 s.1) ∙ g)
      go false h =
          let n : guards_name w.holds c t (guard w i k) ≡ true = guard-name w.holds c t w i k ∙ g in
          let m : keeps_guard w.holds c (guard w i k) ≡ true = rw bare at n in
          let q = held-as k_guard (hold_on w.holds c (guard w i k)) m in
          let y : is_inherited head w c row i ≡ true = rw (h, q.1) (both (is_kept q.0.term) (mode_eq q.0.mode S || mode_eq q.0.mode Nw) q.2).0 in
          or-right (is_covered_on x.holds c S t) _ (inh y)

  own-gained : is_covered_on w.holds c S t ≡ false → (u : TableId) (y : Rid) (row : List Value)
      → (list_any (index_eq i) (indexes_of head u) ≡ true → (is_inherited head w c row i ≡ true → keeps_guard x.holds c (Key i (key_in head i row)) ≡ true)
      × (is_slot_kept x c t y ≡ true))
      → OwnPairs (pairs_in (entries_by head w (Gains u y row)) i)
  unfolding EntriesOrdered
  own-gained bare u y row f = subst OwnPairs (sym (pairs-gained head w u y row i (index-there head i t on)))
      (go (list_any (index_eq i) (indexes_of head u)) refl)
    where
      n : Value × Rid
      n = (key_in head i row, y)

      go : (b : Bool) → list_any (index_eq i) (indexes_of head u) ≡ b → OwnPairs (gained head w u y row i)
      go false e = rw e own-same
      go true e = rw e (
        stand-with (key_guarded w.holds c t i) (key_guarded x.holds c t i) (end_guarded w.holds c t i) (end_guarded x.holds c t i) more-keys more-end range
            stand (entries_of w i) (o i) n
            (inherits-by bare row (f e).0) kept.inside (stand-there head w sound fit o c i t on range stand kept bare) (guards-of w c i t range stand kept),
        λ p h. elim (has-with n p (entries_of w i) h) [
          | inl k ↦ inl k
          | inr k ↦ inr (subst (λ (z : Value × Rid). is_slot_kept x c t z.1 ≡ true) (sym k) (f e).1)
        ],
      )

-- the pairs after an own entry
module _ (head : Head) (w : World) (sound : IsSound head w) (fit : IsFit w) (o : EntriesOrdered w) (c : Conn) (i : IndexId) (t : TableId)
    (on : table_of_index head i ≡ Some t)
    (range : Range) (stand : Stand) (kept : IsRangeKept w c i t range stand) (bare : is_covered_on w.holds c S t ≡ false) where
  own-pairs : (a : Act) (al : ByAgent head w c a) (plain : is_plain a ≡ true) (ends : is_end a ≡ false)
      (sa : IsSound head (after head w (record { who = Agent c; act = a })))
      → OwnPairs head w sound fit o c i t on range stand kept a al plain ends sa (pairs_in (entries_by head w (pairing_of a)) i)
  own-pairs (Insert u y row) al plain ends sa = own-gained head w sound fit o c i t on range stand kept (Insert u y row) al plain ends sa bare u y row
      (λ h. at_table u (index-table head i t u on h) h)
    where
      at_table : (u : TableId) → u ≡ t → list_any (index_eq i) (indexes_of head u) ≡ true
          → (is_inherited head w c row i ≡ true → keeps_guard (holds_by_agent head w c (Insert u y row)) c (Key i (key_in head i row)) ≡ true)
          × (is_slot_kept (after head w (record { who = Agent c; act = Insert u y row })) c t y ≡ true)
      at_table u e h = (
        λ n. subst (λ (z : TableId). keeps_guard (holds_by_agent head w c (Insert z y row)) c (Key i (key_in head i row)) ≡ true) (sym e)
            (inherits-insert head c row i t on w fit bare y (subst (λ (z : TableId). list_any (index_eq i) (indexes_of head z) ≡ true) e h) n),
        subst (λ (z : TableId). is_slot_kept (after head w (record { who = Agent c; act = Insert z y row })) c t y ≡ true) (sym e)
            (by-row (row-inserted head w c t y row bare)),
      )
        where
          by-row : keeps_mode (holds_by_agent head w c (Insert t y row)) c (Row t y) S ≡ true
              → is_slot_kept (after head w (record { who = Agent c; act = Insert t y row })) c t y ≡ true
          by-row k = or-right (is_covered_on (holds_by_agent head w c (Insert t y row)) c S t) _ (rw k refl)
  own-pairs (Update u y row) al plain ends sa = own-gained head w sound fit o c i t on range stand kept (Update u y row) al plain ends sa bare u y row
      (λ h. at_table u (index-table head i t u on h) h al sa)
    where
      at_table : (u : TableId) → u ≡ t → list_any (index_eq i) (indexes_of head u) ≡ true → ByAgent head w c (Update u y row)
          → IsSound head (after head w (record { who = Agent c; act = Update u y row }))
          → (is_inherited head w c row i ≡ true → keeps_guard (holds_by_agent head w c (Update u y row)) c (Key i (key_in head i row)) ≡ true)
          × (is_slot_kept (after head w (record { who = Agent c; act = Update u y row })) c t y ≡ true)
      at_table u e h al sa = (
        λ n. subst (λ (z : TableId). keeps_guard (holds_by_agent head w c (Update z y row)) c (Key i (key_in head i row)) ≡ true) (sym e)
            (inherits-update head c row i t on w fit bare y (subst (λ (z : TableId). list_any (index_eq i) (indexes_of head z) ≡ true) e h) n),
        subst (λ (z : TableId). is_slot_kept (after head w (record { who = Agent c; act = Update u y row })) c z y ≡ true) e
            (updated-kept head w c u y row sound al sa),
      )
  own-pairs (Purge j key y) al plain ends sa = absurd al
  own-pairs a al plain ends sa = own-same head w sound fit o c i t on range stand kept a al plain ends sa

-- what a scan keeps through an entry of its own connection
pub range-own : (head : Head) (w : World) → IsSound head w → IsFit w → EntriesOrdered w → (c : Conn) (i : IndexId) (t : TableId)
    → table_of_index head i ≡ Some t
    → (range : Range) (stand : Stand) → IsRangeKept w c i t range stand → (a : Act) → ByAgent head w c a → is_plain a ≡ true → is_end a ≡ false
    → IsSound head (after head w (record { who = Agent c; act = a })) → IsRangeKept (after head w (record { who = Agent c; act = a })) c i t range stand
range-own head w sound fit o c i t on range stand kept a al plain ends sa = go (is_covered_on w.holds c S t) refl
  where
    x : World
    x = after head w (record { who = Agent c; act = a })

    go : (b : Bool) → is_covered_on w.holds c S t ≡ b → IsRangeKept x c i t range stand
    go true e = covered-range x c i t range stand kept.inside (own-covered head w sound fit c a al plain ends t e)
    go false e =
        let p = own-pairs head w sound fit o c i t on range stand kept e a al plain ends sa in
        kept-by x c i t range stand kept.inside p.0 (λ q h k. elim (p.1 q h) [
          | inl old ↦ slot_kept-own head w sound fit c a al plain ends sa t q.1 (kept.looked q old k)
          | inr new ↦ new
        ])
