-- What the guards read is what the steps ask.
use Rattle.std.proofs.Common.{◌≡◌, ◌<◌, ℕ, zero, suc, arith, Bool, true, false, not, ◌&&◌, ◌||◌, List, [], ◌∷◌, length, refl, ap, sym, subst, ◌∙◌, Some, None, Option, if◌then◌else◌}
use Rattle.std.specs.List.{list_any}
use Rattle.std.specs.Option.{option_map, option_map_or}
use Rattle.std.specs.Prelude.{find, is_none, is_some, nat_lt, pos, slice_get, unwrap_or}
use Rattle.std.proofs.lemmas.Bool.{lt-ltb}
use Rattle.iso_history.proofs.locks.Lists.{any-found}
use Rattle.iso_history.proofs.locks.Modes.{at_least-table}
use Rattle.iso_history.proofs.locks.Same.{value_same}
use Rattle.iso_history.proofs.pending.WritesAwaits.{held-keeps}
use Rattle.iso_history.proofs.whole.Writers.{writer-alone}
use Rattle.iso_history.specs.After.{world}
use Rattle.iso_history.specs.Entries.{entries_of, found, has_key, key_name, least_purgeable, meets_low}
use Rattle.iso_history.specs.Facts.{IsSound, has_write_lock}
use Rattle.iso_history.specs.Holds.{next_name}
use Rattle.iso_history.specs.Legal.{By, RollbackStands, Runs, may_undo}
use Rattle.iso_history.specs.Looks.{is_current, is_settled, look_asks, may_look, want_asks}
use Rattle.iso_history.specs.Nexts.{may_next}
use Rattle.iso_history.specs.Phases.{phase}
use Rattle.iso_history.specs.Stops.{may_stop}
use Rattle.iso_pace.specs.Answers.{MayTakeLine}
use Rattle.iso_history.specs.Requests.{is_row_mode, may_ask, suits, table_mode}
use Rattle.iso_history.specs.Versions.{committed, is_changed_beside, is_dead, present, slots, versions, view}
use Rattle.iso_history.specs.World.{World}
use Rattle.iso_history.specs.Writes.{is_block, may_change, may_write}
use Rattle.iso_history.specs.declared.entry.Act.TheVariants.{Stopped}
use Rattle.iso_history.specs.declared.entry.Cause.TheVariants.{Memory}
use Rattle.iso_history.specs.declared.entry.Want.{Want}
use Rattle.iso_history.specs.declared.entry.Want.TheVariants.{Alter, AlterKept, Current, Dirty, Repeat, Settled, Steady}
use Rattle.iso_history.specs.declared.entry.Who.TheVariants.{Agent}
use Rattle.iso_modes.specs.Modes.{at_least, mode_eq, mode_number}
use Rattle.iso_modes.specs.declared.Mode.{Mode}
use Rattle.iso_modes.specs.declared.Mode.TheVariants.{Ix, Ns, Nw, S, U, X}
use Rattle.iso_queue.specs.Locks.{held, holds_at_least, is_covered, others_guard}
use Rattle.iso_queue.specs.Queues.{is_grantable}
use Rattle.iso_state.proofs.FactsAlong.{sound-of}
use Rattle.iso_state.proofs.Steps.{conn-is}
use Rattle.iso_state.specs.Stands.{Content, Stands}
use Rattle.iso_types.specs.Head.{table_of_index}
use Rattle.iso_types.specs.Ids.{pair_lt}
use Rattle.iso_types.specs.Value.{value_eq}
use Rattle.iso_types.specs.declared.desk.Phase.{Phase}
use Rattle.iso_types.specs.declared.desk.Phase.TheVariants.{Closing, Running}
use Rattle.iso_types.specs.declared.head.Head.{Head}
use Rattle.iso_types.specs.declared.head.Range.{Range}
use Rattle.iso_types.specs.declared.value.Conn.{Conn}
use Rattle.iso_types.specs.declared.value.IndexId.{IndexId}
use Rattle.iso_types.specs.declared.value.Name.{Name}
use Rattle.iso_types.specs.declared.value.Name.TheVariants.{End, Key, Row, Table}
use Rattle.iso_types.specs.declared.value.Rid.{Rid}
use Rattle.iso_types.specs.declared.value.TableId.{TableId}
use Rattle.iso_types.specs.declared.value.Value.{Value}

-- an item is within its list
got-within : {A : Type 0} (xs : List A) (k : ℕ) (x : A) → slice_get xs k ≡ Some x → k < length xs
got-within [] k x e = absurd (cc)
got-within (y ∷ ys) zero x e = omega arith
got-within (y ∷ ys) (suc k) x e = let lt = got-within ys k x e in omega arith

some-mapped : {A B : Type 0} (f : A → B) (o : Option A) (y : B) → option_map f o ≡ Some y → (x : A) × (o ≡ Some x)
some-mapped f None y e = absurd (cc)
some-mapped f (Some x) y e = (x, refl)

or-second : (a b : Bool) → b ≡ true → (a || b) ≡ true
or-second true b e = refl
or-second false b e = e

-- who is in the phase, with nothing due, runs
pub runs_by : (w : World) (c : Conn) → phase w c ≡ Running → is_none (w.due c) ≡ true → Runs w c
runs_by w c running none = (running, go (w.due c) none)
  where
    go : (o : Option (TableId × Mode)) → is_none o ≡ true → o ≡ None
    go None e = refl
    go (Some x) e = absurd (cc)

-- who runs with nothing due may undo
pub runs_undoes : (w : World) (c : Conn) → Runs w c → may_undo w c ≡ true
runs_undoes w c r = rw (r.0, r.1) refl

-- so may who closes
pub closes_undoes : (w : World) (c : Conn) → phase w c ≡ Closing → is_none (w.due c) ≡ true → may_undo w c ≡ true
closes_undoes w c closing none = rw (closing, none) refl

-- who runs may stop for want of memory
running-stops : (head : Head) (w : World) (c : Conn) → phase w c ≡ Running → may_stop head w c Memory ≡ true
running-stops head w c running = rw running refl

pub runs-stops : (head : Head) (w : World) (c : Conn) → c.0 < length head.conns → phase w c ≡ Running → By head w (Agent c) (Stopped Memory)
runs-stops head w c there running = (conn-is head c there, running-stops head w c running)

-- so may who waits with no edge
waiting-stops : (head : Head) (w : World) (c : Conn) → phase w c ≡ Phase.Waiting → is_grantable w.holds w.waits c ≡ true
    → may_stop head w c Memory ≡ true
waiting-stops head w c waits free = rw (waits, free) refl

pub waits-stops : (head : Head) (w : World) (c : Conn) → c.0 < length head.conns → phase w c ≡ Phase.Waiting
    → is_grantable w.holds w.waits c ≡ true → By head w (Agent c) (Stopped Memory)
waits-stops head w c there waits free = (conn-is head c there, waiting-stops head w c waits free)

-- who runs may answer ROLLBACK
pub runs_ends : (w : World) (c : Conn) → Runs w c → RollbackStands w c (pos 0) 0 (phase w c)
runs_ends w c r = subst (RollbackStands w c (pos 0) 0) (sym r.0) (r.1, refl, refl)

-- a line may be taken where no pair is purgeable
pub line_free : (head : Head) (w : World) → is_some (least_purgeable head w) ≡ false → MayTakeLine head w
line_free head w e = go (least_purgeable head w) e
  where
    go : (o : Option (IndexId × (Value × Rid))) → is_some o ≡ false → (w.pace.stopped || (w.pace.purged || is_none o)) ≡ true
    go None h = or-second w.pace.stopped _ (or-second w.pace.purged true refl)
    go (Some x) h = absurd (cc)

-- a write waits at the end of an index on which another one has a lock
pub end-blocks : (head : Head) (w : World) (c : Conn) (i : IndexId) → others_guard w.holds c (End i) ≡ true → is_block head w c (End i) Nw ≡ true
unfolding mode_eq mode_number
end-blocks head w c i others = rw others refl

module _ (head : Head) (w : World) (c : Conn) (t : TableId) (has : holds_at_least w.holds c (Table t) Ix ≡ true) where
  -- IX on the table is enough for each mode of its rows
  enough : (m : Mode) → holds_at_least w.holds c (Table t) (table_mode m) ≡ true
  enough m = go (held w.holds c (Table t)) has
    where
      go : (o : Option Mode) → option_map_or (λ a. at_least a Ix) o false ≡ true → option_map_or (λ a. at_least a (table_mode m)) o false ≡ true
      go None e = absurd (cc)
      go (Some a) e = at_least-table a m e

  -- a lock of a row
  pub row-asked : (r : Rid) (m : Mode) → nat_lt r.0 (slots w t) ≡ true → is_row_mode m ≡ true → may_ask head w c (Row t r) m ≡ true
  row-asked r m there suit =
      let back = or-second (is_covered head w.holds c (Row t r) m) _ (enough m) in rw (there, suit, back) refl

  -- the mode that a look asks is one of rows
  abbrev rows_only : Option Mode → Bool
  rows_only o = option_map_or is_row_mode o true

  unless-rows : (b : Bool) → rows_only (if b then None else Some Ns) ≡ true
  unfolding is_row_mode
  unless-rows true = refl
  unless-rows false = refl

  want-rows : (r : Rid) (want : Want) → rows_only (want_asks head w c t r want) ≡ true
  unfolding is_row_mode
  want-rows r Dirty = refl
  want-rows r Current = unless-rows (is_current head w c t r)
  want-rows r Settled = unless-rows (is_settled head w c t r)
  want-rows r Steady = refl
  want-rows r Repeat = refl
  want-rows r Alter = refl
  want-rows r AlterKept = refl

  -- a look
  pub look-stands : (r : Rid) (want : Want) → nat_lt r.0 (slots w t) ≡ true → may_look head w c t r want ≡ true
  look-stands r want there = rw there (asked (look_asks head w c t r want) (dead (is_dead (versions w t r))))
    where
      dead : (b : Bool) → rows_only (if b then None else want_asks head w c t r want) ≡ true
      dead true = refl
      dead false = want-rows r want

      asked : (o : Option Mode) → rows_only o ≡ true → option_map_or (may_ask head w c (Row t r)) o true ≡ true
      asked None e = refl
      asked (Some m) e = row-asked r m there e

  -- the table of an index
  module _ (i : IndexId) (of : table_of_index head i ≡ Some t) where
    index-there : nat_lt i.0 (length head.indexes) ≡ true
    index-there =
        let d = some-mapped (λ d. d.table) (slice_get head.indexes i.0) t of in
        lt-ltb i.0 (length head.indexes) (got-within head.indexes i.0 d.0 d.1)

    -- the key name where a scan comes to stand may be asked for
    there : (range : Range) (p : Value × Rid) (after : Option (Value × Rid)) → found w i range after ≡ Some p → has_key w i p.0 ≡ true
    there range p None e = any-found (λ q. meets_low range.low q.0) (λ q. value_eq q.0 p.0) (entries_of w i) p e (value_same p.0)
    there range p (Some at) e = any-found (pair_lt at) (λ q. value_eq q.0 p.0) (entries_of w i) p e (value_same p.0)

    backed : (m : Mode) → option_map_or (λ u. holds_at_least w.holds c (Table u) (table_mode m)) (table_of_index head i) true ≡ true
    backed m = rw of (enough m)

    name-asked : (range : Range) (after o : Option (Value × Rid)) → found w i range after ≡ o → may_ask head w c (key_name i o) S ≡ true
    unfolding is_row_mode
    name-asked range after None e =
        let back = or-second (is_covered head w.holds c (End i) S) _ (backed S) in rw (index-there, back) refl
    name-asked range after (Some p) e =
        let back = or-second (is_covered head w.holds c (Key i p.0) S) _ (backed S) in
        let has = there range p after e in
        rw (has, back) refl

    -- the end of the index may be asked for, as a write does
    pub end-asked : may_ask head w c (End i) Nw ≡ true
    unfolding is_row_mode
    end-asked = let back = or-second (is_covered head w.holds c (End i) Nw) _ (backed Nw) in rw (index-there, back) refl

    -- a step of a scan of the index
    pub scan-stands : (range : Range) (after : Option (Value × Rid)) (guarded : Bool) → may_next head w c i range after guarded ≡ true
    scan-stands range after false = rw index-there refl
    scan-stands range after true = let may = name-asked range after (found w i range after) refl in rw (index-there, may) refl

-- who holds a row in X sees the present row
pub change-stands : (p : Content) (s : Stands p) (c : Conn) (t : TableId) (r : Rid) → may_write (world p.head p.history) c t ≡ true
    → holds_at_least (world p.head p.history).holds c (Row t r) X ≡ true
    → is_some (present (versions (world p.head p.history) t r)) ≡ true → may_change p.head (world p.head p.history) c t r ≡ true
change-stands p s c t r writes holds live =
    let w = world p.head p.history in
    let sound = sound-of s in
    let kept = held-keeps w.holds c (Row t r) sound.writes refl holds in
    let lock : has_write_lock p.head w.holds c t r ≡ true = or-second (is_covered p.head w.holds c (Row t r) X) _ kept in
    let alone = writer-alone p.head w sound t r c lock in
    let may = or-second (is_covered p.head w.holds c (Row t r) X) _ holds in
    let shows : is_some (view w c t r) ≡ true = rw alone live in
    rw (writes, may, shows) refl
