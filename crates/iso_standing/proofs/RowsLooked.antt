-- What a look that locks its row shows is seen to stay.
use Rattle.std.proofs.Common.{List, [], ◌≡◌, Bool, true, false, not, ◌&&◌, refl, ap, sym, ◌∙◌, Some, None, Option, if◌then◌else◌}
use Rattle.std.specs.Option.{option_map_or}
use Rattle.iso_history.proofs.pending.Conns.{at_conn-same, row_name-same}
use Rattle.iso_history.proofs.pending.Dues.{added-new, added-raised}
use Rattle.iso_history.proofs.pending.Finds.{find-kept}
use Rattle.iso_history.proofs.pending.ModeTests.{at_least-joined, at_least-second, covers-reads}
use Rattle.iso_history.proofs.pending.ReadLocks.{held-found}
use Rattle.iso_history.proofs.pending.Reading.{Reading, fresh, tabled}
use Rattle.iso_history.proofs.pending.RowLocks.{table-stays}
use Rattle.iso_history.proofs.pending.WritesPlaced.{held-settled}
use Rattle.iso_history.proofs.whole.Looking.{look-alone}
use Rattle.iso_history.specs.After.{after}
use Rattle.iso_history.specs.Facts.{IsSound}
use Rattle.iso_history.specs.Guards.{is_lasting}
use Rattle.iso_history.specs.Holds.{holds_by_agent, placed_by_want, request_on, spared}
use Rattle.iso_history.specs.Legal.{ByAgent}
use Rattle.iso_history.specs.Looks.{locks_row, shown}
use Rattle.iso_history.specs.Makers.{by_agent}
use Rattle.iso_history.specs.Versions.{is_changed_beside, is_dead, present, versions, view}
use Rattle.iso_history.specs.World.{World}
use Rattle.iso_history.specs.World.Last.{Looked}
use Rattle.iso_history.specs.declared.entry.Act.{Act}
use Rattle.iso_history.specs.declared.entry.Act.TheVariants.{Look}
use Rattle.iso_history.specs.declared.entry.Got.{Got}
use Rattle.iso_history.specs.declared.entry.Want.{Want}
use Rattle.iso_history.specs.declared.entry.Want.TheVariants.{Alter, AlterKept, Current, Dirty, Repeat, Steady}
use Rattle.iso_modes.specs.Modes.{at_least, covers, joined, mode_eq, mode_number}
use Rattle.iso_modes.specs.Terms.{is_brief, is_kept}
use Rattle.iso_modes.specs.declared.Mode.{Mode}
use Rattle.iso_modes.specs.declared.Mode.TheVariants.{Ns, S, U}
use Rattle.iso_modes.specs.declared.Term.{Term}
use Rattle.iso_modes.specs.declared.Term.TheVariants.{Brief, Fresh, Kept}
use Rattle.iso_queue.specs.Locks.{Hold, Request, added, hold_on, is_covered, is_hold_of, placed, settled, was_brief, without_briefs}
use Rattle.iso_types.specs.Ids.{conn_eq}
use Rattle.iso_types.specs.declared.head.Head.{Head}
use Rattle.iso_types.specs.declared.value.Conn.{Conn}
use Rattle.iso_types.specs.declared.value.Name.TheVariants.{Row, Table}
use Rattle.iso_types.specs.declared.value.Rid.{Rid}
use Rattle.iso_types.specs.declared.value.TableId.{TableId}
use Rattle.iso_types.specs.declared.value.Value.{Value}
use Rattle.iso_standing.proofs.RowsSeen.{Sees, live}

-- the lock of a lasting want is NS or more, and not Brief
lasting-asks : (want : Want) → is_lasting want ≡ true → (m : Mode × Term) × (placed_by_want want ≡ Some m) × (at_least m.0 Ns ≡ true) × (is_brief m.1 ≡ false)
unfolding at_least joined mode_eq mode_number
lasting-asks Steady e = ((Ns, Fresh), refl, refl, refl)
lasting-asks Repeat e = ((S, Kept), refl, refl, refl)
lasting-asks Alter e = ((U, Fresh), refl, refl, refl)
lasting-asks AlterKept e = ((U, Kept), refl, refl, refl)
lasting-asks Dirty e = cc
lasting-asks Current e = cc
lasting-asks Want.Settled e = cc

-- it locks the row, and shows what the connection sees
lasting-locks : (want : Want) → is_lasting want ≡ true → locks_row want ≡ true
lasting-locks Steady e = refl
lasting-locks Repeat e = refl
lasting-locks Alter e = refl
lasting-locks AlterKept e = refl
lasting-locks Dirty e = cc
lasting-locks Current e = cc
lasting-locks Want.Settled e = cc

lasting-shows : (w : World) (c : Conn) (t : TableId) (r : Rid) (want : Want) → is_lasting want ≡ true → shown w c t r want ≡ view w c t r
lasting-shows w c t r Dirty e = cc
lasting-shows w c t r _ e = refl

module _ (head : Head) (w : World) (s : IsSound head w) (c : Conn) (t : TableId) (r : Rid) (want : Want) where
  abbrev looked_at : Act
  looked_at = Look t r want Got.Granted

  look-reads : is_lasting want ≡ true → is_dead (versions w t r) ≡ false → Reading (after head w (by_agent c looked_at)) c t r []
  look-reads lasts alive = go (is_covered head mid c (Row t r) asked.0.0) refl
    where
      asked : (m : Mode × Term) × (placed_by_want want ≡ Some m) × (at_least m.0 Ns ≡ true) × (is_brief m.1 ≡ false)
      asked = lasting-asks want lasts

      mid : List Hold
      mid = settled c (spared looked_at (w.last c)) w.holds

      req : Request
      req = request_on (Row t r) asked.0

      after_is : holds_by_agent head w c looked_at ≡ without_briefs w.holds c (placed head mid c req)
      after_is = rw (alive, asked.1) refl

      now : World
      now = after head w (by_agent c looked_at)

      kept_by : (h : Hold) → is_brief h.term ≡ false → not (conn_eq h.conn c && (is_brief h.term && was_brief w.holds c h.name)) ≡ true
      kept_by h b = rw b (both (conn_eq h.conn c))
        where
          both : (x : Bool) → not (x && false) ≡ true
          both true = refl
          both false = refl

      found : (h : Hold) → holds_by_agent head w c looked_at ≡ without_briefs w.holds c (added mid c req) → hold_on (added mid c req) c (Row t r) ≡ Some h
          → is_brief h.term ≡ false → at_least h.mode Ns ≡ true → Reading now c t r []
      found h p q b m = fresh (at_conn-same w.last c (Looked t r)) h
          (ap (λ z. hold_on z c (Row t r)) p ∙ find-kept (is_hold_of c (Row t r)) _ (added mid c req) h q (kept_by h b)) b m refl

      at_hold : holds_by_agent head w c looked_at ≡ without_briefs w.holds c (added mid c req) → (o : Option Hold) → hold_on mid c (Row t r) ≡ o
          → Reading now c t r []
      at_hold p None q = found _ p (added-new mid c req (row_name-same t r) q) asked.3 asked.2
      at_hold p (Some h) q = found _ p (added-raised mid c req h q) (at_term h.term) (at_least-second Ns h.mode asked.0.0 asked.2)
        where
          at_term : (k : Term) → is_brief (if is_kept k then Kept else asked.0.1) ≡ false
          at_term Kept = refl
          at_term Fresh = asked.3
          at_term Brief = asked.3

      go : (b : Bool) → is_covered head mid c (Row t r) asked.0.0 ≡ b → Reading now c t r []
      go true e =
          let k = held-found (λ m. covers m asked.0.0) w.holds c (Table t)
          (ap (λ o. option_map_or (λ m. covers m asked.0.0) o false) (sym (held-settled head c (spared looked_at (w.last c)) w.holds c (Table t))) ∙ e) in
          tabled (table-stays head w (λ m. at_least m S) (λ x y. at_least-joined S x y) c looked_at c t s.tables refl
          (rw (k.1) (covers-reads k.0.mode asked.0.0 k.2 asked.2)))
      go false e = at_hold (after_is ∙ ap (without_briefs w.holds c) placed_is) (hold_on mid c (Row t r)) refl
        where
          placed_is : placed head mid c req ≡ added mid c req
          placed_is = rw e refl

  -- a row that a lasting look shows is seen
  pub look-sees : ByAgent head w c looked_at → is_lasting want ≡ true → (row : List Value) → shown w c t r want ≡ Some row
      → Sees (after head w (by_agent c looked_at)) c t r row
  look-sees al lasts row e = (look-reads lasts (live (versions w t r) row shows), shows)
    where
      alone : is_changed_beside w c t r ≡ false
      alone = look-alone head w s c t r want (lasting-locks want lasts) al.1 al.2

      seen : view w c t r ≡ Some row
      seen = sym (lasting-shows w c t r want lasts) ∙ e

      shows : present (versions w t r) ≡ Some row
      shows = rw alone at seen
