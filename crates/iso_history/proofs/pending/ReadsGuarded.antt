-- A granted Current look at a slot with another unit's pending version shows the settled row.
use Rattle.std.proofs.Common.{List, [], ◌∷◌, ◌≡◌, ◌<◌, ℕ, zero, suc, Bool, true, refl, ap, sym, ◌∙◌, arith, subst, map, length, take, slice_get, slice_index_or, if◌then◌else◌, ltb-true}
use Rattle.std.proofs.lemmas.List.{get_or-map}
use Rattle.std.proofs.lemmas.List.FromFn.{get_or-map-range_with_len, length-map-range_with_len}
use Rattle.iso_history.proofs.pending.Conns.{and-first}
use Rattle.iso_history.proofs.pending.Matches.{Matches, pending_of}
use Rattle.iso_history.proofs.pending.Prefixes.{SoundFrom, at-entry}
use Rattle.iso_history.proofs.pending.Slots.{table-there}
use Rattle.iso_history.proofs.pending.Told.{Tells, told-after}
use Rattle.iso_history.specs.After.{after, start, world, world_from}
use Rattle.iso_history.specs.Facts.{IsSound, TablesThere}
use Rattle.iso_history.specs.Guards.{ReadsGuarded, world_at}
use Rattle.iso_history.specs.Legal.{Ground, GroundFrom}
use Rattle.iso_history.specs.Looks.{shown}
use Rattle.iso_history.specs.Settled.{Telling, first_telling, settled_row, told, told_along}
use Rattle.iso_history.specs.Versions.{committed, first_tables, first_version, is_changed_beside, present, slots, versions}
use Rattle.iso_history.specs.World.{World}
use Rattle.iso_history.specs.declared.entry.Act.TheVariants.{Look}
use Rattle.iso_history.specs.declared.entry.Entry.{Entry}
use Rattle.iso_history.specs.declared.entry.Got.{Got}
use Rattle.iso_history.specs.declared.entry.Want.TheVariants.{Current}
use Rattle.iso_history.specs.declared.entry.Who.TheVariants.{Agent}
use Rattle.iso_types.specs.Head.{rows_of, tables}
use Rattle.iso_types.specs.declared.head.Head.{Head}
use Rattle.iso_types.specs.declared.value.Rid.{Rid}
use Rattle.iso_types.specs.declared.value.TableId.{TableId}
use Rattle.iso_types.specs.declared.value.Value.{Value}

-- a slot of the head's rows: its row is committed, and nothing pends
first-committed : (rows : List (List Value)) (k : ℕ) → slice_get rows k ≡ committed (slice_index_or (map first_version rows) k [])
first-committed [] k = refl
first-committed (row ∷ rows) zero = refl
first-committed (row ∷ rows) (suc k) = first-committed rows k

first-pending : (rows : List (List Value)) (k : ℕ) → pending_of (slice_index_or (map first_version rows) k []) ≡ []
first-pending [] k = refl
first-pending (row ∷ rows) zero = refl
first-pending (row ∷ rows) (suc k) = first-pending rows k

module _ (head : Head) where
  -- the slots of a table at the start
  pub first-slots : (t : TableId) → t.0 < length head.tables → slice_index_or (first_tables head) t.0 [] ≡ map first_version (rows_of head t)
  first-slots t lt =
      let n : t.0 < length (tables head) = subst (λ (z : ℕ). t.0 < z) (sym (length-map-range_with_len (λ k. table_at k) 0 (length head.tables))) lt in
      get_or-map (λ u. map first_version (rows_of head u)) (tables head) t.0 t [] n
      ∙ ap (λ u. map first_version (rows_of head u)) (get_or-map-range_with_len (λ k. table_at k) 0 (length head.tables) t.0 t.0 t lt (omega arith))
    where
      table_at : ℕ → TableId
      table_at k = record { 0 = k }

  -- what is told first stands for the start
  first-tells : (t : TableId) (r : Rid) → t.0 < length head.tables → Tells (start head) t r (first_telling head t r)
  first-tells t r lt = record {
    count = refl;
    row = first-committed (rows_of head t) r.0 ∙ ap committed (sym slot);
    made = subst (Matches (start head).unit []) (sym (ap pending_of slot ∙ first-pending (rows_of head t) r.0)) tt;
  }
    where
      slot : versions (start head) t r ≡ slice_index_or (map first_version (rows_of head t)) r.0 []
      slot = ap (λ z. slice_index_or z r.0 []) (first-slots t lt)

  -- along a history what is told stands for each world
  tells-from : (w : World) (t : TableId) (r : Rid) (s : Telling) (es : List Entry) (k : ℕ) → GroundFrom head w es → SoundFrom head w es → Tells w t r s
      → Tells (world_from head w (take k es)) t r (told_along t r s (take k es))
  unfolding GroundFrom world_from
  tells-from w t r s es zero g sound h = h
  tells-from w t r s [] (suc k) g sound h = h
  tells-from w t r s (e ∷ es) (suc k) g sound h =
      tells-from (after head w e) t r (told t r s e) es k g.1 (λ j. sound (suc j)) (told-after head w (sound zero) t r s h e g.0)

  -- the committed row of each slot of the head's tables is the settled one
  pub committed-settled : (es : List Entry) (k : ℕ) (t : TableId) (r : Rid) → t.0 < length head.tables → Ground head es
      → ((j : ℕ) → IsSound head (world_at head es j))
      → settled_row head (take k es) t r ≡ committed (versions (world_at head es k) t r)
  unfolding Ground world settled_row
  committed-settled es k t r lt g sound = (tells-from (start head) t r (first_telling head t r) es k g sound (first-tells t r lt)).row

  pub reads_guarded : (es : List Entry) → Ground head es → ((k : ℕ) → IsSound head (world_at head es k)) → ReadsGuarded head es
  unfolding TablesThere
  reads_guarded es g sound k c t r at beside =
      let x = at-entry head es k (record { who = Agent c; act = Look t r Current Got.Granted }) at g in
      let there : r.0 < slots (world_at head es k) t = ltb-true r.0 (slots (world_at head es k) t) (and-first _ _ x.0.2.1.1) in
      let lt : t.0 < length head.tables = subst (λ (z : ℕ). t.0 < z) (sound k).wide (table-there (world_at head es k).tables t r.0 there) in
      shows (world_at head es k) beside ∙ sym (committed-settled es k t r lt g sound)
    where
      shows : (w : World) → is_changed_beside w c t r ≡ true → shown w c t r Current ≡ committed (versions w t r)
      shows w e = ap (λ (b : Bool). if b then committed (versions w t r) else present (versions w t r)) e
