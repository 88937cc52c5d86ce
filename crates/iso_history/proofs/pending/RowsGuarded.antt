-- A row that was looked at with a lasting lock stays to the unit's end.
use Rattle.std.proofs.Common.{List, [], ◌∷◌, ◌≡◌, ◌<◌, ◌+◌, ℕ, zero, suc, Bool, true, false, not, ◌&&◌, refl, ap, sym, ◌∙◌, arith, Some, None, Option, subst, if◌then◌else◌, drop, IsTrue, ltb-true}
use Rattle.std.specs.Option.{option_map_or}
use Rattle.iso_history.proofs.pending.Conns.{and-first, at_conn-same, not-false, row_name-same}
use Rattle.iso_history.proofs.pending.Dues.{added-new, added-raised}
use Rattle.iso_history.proofs.pending.Finds.{find-kept}
use Rattle.iso_history.proofs.pending.ModeTests.{at_least-joined, at_least-second, covers-reads}
use Rattle.iso_history.proofs.pending.ReadLocks.{held-found}
use Rattle.iso_history.proofs.pending.Prefixes.{SoundFrom, at-entry, at-ground, at-sound}
use Rattle.iso_history.proofs.pending.Reading.{Reading, fresh, reading-after, reading-locks, tabled}
use Rattle.iso_history.proofs.pending.RowLocks.{table-stays}
use Rattle.iso_history.proofs.pending.Slots.{versions_at}
use Rattle.iso_history.proofs.pending.Stays.{dispatcher-keeps, slots-grow, stays-agent}
use Rattle.iso_history.proofs.pending.WritesPlaced.{held-settled}
use Rattle.iso_history.specs.After.{after, world_from}
use Rattle.iso_history.specs.Facts.{IsSound}
use Rattle.iso_history.specs.Guards.{RowsGuarded, SlotStays, ends_unit, is_freed, is_lasting, is_others, world_at}
use Rattle.iso_history.specs.Holds.{holds_by_agent, placed_by_want, request_on, spared}
use Rattle.iso_history.specs.Legal.{Allowed, By, Ground, GroundFrom}
use Rattle.iso_history.specs.Units.{unit_of_maker}
use Rattle.iso_history.specs.Versions.{change_of, is_dead, slots, tables_by, versions}
use Rattle.iso_history.specs.World.{World}
use Rattle.iso_history.specs.World.Last.{Looked}
use Rattle.iso_history.specs.declared.entry.Act.{Act}
use Rattle.iso_history.specs.declared.entry.Act.TheVariants.{Look}
use Rattle.iso_history.specs.declared.entry.Entry.{Entry}
use Rattle.iso_history.specs.declared.entry.Got.{Got}
use Rattle.iso_history.specs.declared.entry.Want.{Want}
use Rattle.iso_history.specs.declared.entry.Want.TheVariants.{Alter, AlterKept, Current, Dirty, Repeat, Steady}
use Rattle.iso_history.specs.declared.entry.Who.{Who}
use Rattle.iso_history.specs.declared.entry.Who.TheVariants.{Agent, Dispatcher}
use Rattle.iso_modes.specs.Modes.{at_least, covers, joined, mode_eq, mode_number}
use Rattle.iso_modes.specs.Terms.{is_brief, is_kept}
use Rattle.iso_modes.specs.declared.Mode.{Mode}
use Rattle.iso_modes.specs.declared.Mode.TheVariants.{Ns, S, U}
use Rattle.iso_modes.specs.declared.Term.{Term}
use Rattle.iso_modes.specs.declared.Term.TheVariants.{Brief, Fresh, Kept}
use Rattle.iso_queue.specs.Locks.{Hold, Request, added, hold_on, is_covered, is_hold_of, placed, settled, was_brief, without_briefs}
use Rattle.iso_types.specs.Ids.{conn_eq}
use Rattle.iso_types.specs.declared.head.Head.{Head}
use Rattle.iso_types.specs.declared.value.Conn.{Conn}
use Rattle.iso_types.specs.declared.value.Name.TheVariants.{Row, Table}
use Rattle.iso_types.specs.declared.value.Rid.{Rid}
use Rattle.iso_types.specs.declared.value.TableId.{TableId}

-- the lock of a lasting want is NS or more, and not Brief
lasting-asks : (want : Want) → is_lasting want ≡ true → (m : Mode × Term) × (placed_by_want want ≡ Some m) × (at_least m.0 Ns ≡ true) × (is_brief m.1 ≡ false)
unfolding at_least joined mode_eq mode_number
lasting-asks Steady e = ((Ns, Fresh), refl, refl, refl)
lasting-asks Repeat e = ((S, Kept), refl, refl, refl)
lasting-asks Alter e = ((U, Fresh), refl, refl, refl)
lasting-asks AlterKept e = ((U, Kept), refl, refl, refl)
lasting-asks Dirty e = cc
lasting-asks Current e = cc
lasting-asks Want.Settled e = cc

module _ (head : Head) (w : World) (s : IsSound head w) where
  -- what a lasting look leaves
  look-reads : (c : Conn) (t : TableId) (r : Rid) (want : Want) (es : List Entry) → is_lasting want ≡ true → is_dead (versions w t r) ≡ false
      → is_freed c t r es ≡ false → Reading (after head w (record { who = Agent c; act = Look t r want Got.Granted })) c t r es
  look-reads c t r want es lasts live free = go (is_covered head mid c (Row t r) asked.0.0) refl
    where
      a : Act
      a = Look t r want Got.Granted

      asked : (m : Mode × Term) × (placed_by_want want ≡ Some m) × (at_least m.0 Ns ≡ true) × (is_brief m.1 ≡ false)
      asked = lasting-asks want lasts

      mid : List Hold
      mid = settled c (spared a (w.last c)) w.holds

      req : Request
      req = request_on (Row t r) asked.0

      after_is : holds_by_agent head w c a ≡ without_briefs w.holds c (placed head mid c req)
      after_is = rw (live, asked.1) refl

      now : World
      now = after head w (record { who = Agent c; act = a })

      kept_by : (h : Hold) → is_brief h.term ≡ false → not (conn_eq h.conn c && (is_brief h.term && was_brief w.holds c h.name)) ≡ true
      kept_by h b = rw b (both (conn_eq h.conn c))
        where
          both : (x : Bool) → not (x && false) ≡ true
          both true = refl
          both false = refl

      found : (h : Hold) → holds_by_agent head w c a ≡ without_briefs w.holds c (added mid c req) → hold_on (added mid c req) c (Row t r) ≡ Some h
          → is_brief h.term ≡ false
          → at_least h.mode Ns ≡ true → Reading now c t r es
      found h p q b m = fresh (at_conn-same w.last c (Looked t r)) h
          (ap (λ z. hold_on z c (Row t r)) p ∙ find-kept (is_hold_of c (Row t r)) _ (added mid c req) h q (kept_by h b)) b m free

      at_hold : holds_by_agent head w c a ≡ without_briefs w.holds c (added mid c req) → (o : Option Hold) → hold_on mid c (Row t r) ≡ o → Reading now c t r es
      at_hold p None q = found _ p (added-new mid c req (row_name-same t r) q) asked.3 asked.2
      at_hold p (Some h) q = found _ p (added-raised mid c req h q) (at_term h.term) (at_least-second Ns h.mode asked.0.0 asked.2)
        where
          at_term : (k : Term) → is_brief (if is_kept k then Kept else asked.0.1) ≡ false
          at_term Kept = refl
          at_term Fresh = asked.3
          at_term Brief = asked.3

      go : (b : Bool) → is_covered head mid c (Row t r) asked.0.0 ≡ b → Reading now c t r es
      go true e =
          let k = held-found (λ m. covers m asked.0.0) w.holds c (Table t)
          (ap (λ o. option_map_or (λ m. covers m asked.0.0) o false) (sym (held-settled head c (spared a (w.last c)) w.holds c (Table t))) ∙ e) in
          tabled (table-stays head w (λ m. at_least m S) (λ x y. at_least-joined S x y) c a c t s.tables refl
          (rw (k.1) (covers-reads k.0.mode asked.0.0 k.2 asked.2)))
      go false e = at_hold (after_is ∙ ap (without_briefs w.holds c) placed_is) (hold_on mid c (Row t r)) refl
        where
          placed_is : placed head mid c req ≡ added mid c req
          placed_is = rw e refl

  -- another's entry leaves the slot
  pub slot-after : (e : Entry) → Allowed head w e → (c : Conn) (t : TableId) (r : Rid) (es : List Entry) → Reading w c t r es → r.0 < slots w t → IsTrue
      (is_others c e)
      → versions (after head w e) t r ≡ versions w t r
  slot-after e al c t r es read lt o = go e.who al.2 o
    where
      go : (who : Who) → By head w who e.act → IsTrue (is_others c (record { who = who; act = e.act })) → versions_at
          (tables_by w (unit_of_maker w who) (change_of e.act)) t r ≡ versions w t r
      go Dispatcher a o = ap (λ z. versions_at (tables_by w 0 z) t r) (dispatcher-keeps head w e.act a)
      go (Agent d) a o = stays-agent head w s d e.act c t r a.1 (not-false (conn_eq d c) o) (reading-locks w c t r es read) lt

module _ (head : Head) where
  slots-after : (w : World) (e : Entry) (t : TableId) (r : Rid) → r.0 < slots w t → r.0 < slots (after head w e) t
  slots-after w e t r lt = let g = slots-grow w (unit_of_maker w e.who) (change_of e.act) t in omega (arith, lt, g)

  -- from any sound world on, by induction over the entries that follow
  slot-from : (w : World) (c : Conn) (t : TableId) (r : Rid) (es : List Entry) → GroundFrom head w es → SoundFrom head w es → Reading w c t r es → r.0 <
      slots w t
      → SlotStays head w c t r es
  unfolding GroundFrom SlotStays world_from
  slot-from w c t r [] g s read lt = tt
  slot-from w c t r (e ∷ es) g s read lt = (
    slot-after head w (s zero) e g.0 c t r (e ∷ es) read lt,
    λ goes. slot-from (after head w e) c t r es g.1 (λ k. s (suc k))
        (reading-after head w (s zero) e g.0 c t r es (not-false (ends_unit c e) goes) read) (slots-after w e t r lt),
  )

  -- a row that is looked at with a lasting lock, and not freed next, stays
  pub rows_guarded : (es : List Entry) → Ground head es → ((k : ℕ) → IsSound head (world_at head es k)) → RowsGuarded head es
  rows_guarded es g s k c t r want at lasts live free =
      let x = at-entry head es k (record { who = Agent c; act = Look t r want Got.Granted }) at g in
      slot-from (world_at head es (k + 1)) c t r (drop (k + 1) es) (at-ground head es (k + 1) g) (at-sound head es (k + 1) s)
      (subst (λ (z : World). Reading z c t r (drop (k + 1) es)) (sym x.1)
      (look-reads head (world_at head es k) (s k) c t r want (drop (k + 1) es) lasts (not-false (is_dead (versions (world_at head es k) t r)) live)
      (not-false (is_freed c t r (drop (k + 1) es)) free)))
      (subst (λ (z : World). r.0 < slots z t) (sym x.1)
      (slots-after (world_at head es k) (record { who = Agent c; act = Look t r want Got.Granted }) t r
      (ltb-true r.0 (slots (world_at head es k) t) (and-first _ _ x.0.2.1.1))))
