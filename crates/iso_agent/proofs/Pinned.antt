-- A look that is pinned: its connection has no hold on the row, before it and after.
use Rattle.std.proofs.Common.{◌≡◌, Bool, true, false, not, ◌&&◌, ◌||◌, List, [], refl, ap, ◌∙◌, Option, Some, None, arith, option_map, if◌then◌else◌}
use Rattle.std.specs.Option.{option_map_or}
use Rattle.iso_history.proofs.facts.Excludes.{excludes, has_lock, kept-writes}
use Rattle.iso_history.proofs.locks.Finds.{count-filter, counts-none, none-counts}
use Rattle.iso_history.proofs.locks.Holds.{count-settled}
use Rattle.iso_history.proofs.whole.Looking.{look-alone}
use Rattle.iso_history.proofs.whole.Writers.{alone-where}
use Rattle.iso_history.specs.After.{after}
use Rattle.iso_history.specs.Facts.{IsSound, ModesSuit}
use Rattle.iso_history.specs.Holds.{looked, spared_by_look}
use Rattle.iso_history.specs.Legal.{is_fresh_on}
use Rattle.iso_history.specs.Looks.{look, may_look}
use Rattle.iso_history.specs.Makers.{by_agent}
use Rattle.iso_history.specs.Requests.{is_row_mode}
use Rattle.iso_history.specs.Requests.Outcome.{Gives}
use Rattle.iso_history.specs.Versions.{is_changed_beside, is_dead, versions}
use Rattle.iso_history.specs.World.{World}
use Rattle.iso_history.specs.declared.entry.Act.TheVariants.{Look}
use Rattle.iso_history.specs.declared.entry.Got.{Got}
use Rattle.iso_history.specs.declared.entry.Want.{Want}
use Rattle.iso_history.specs.declared.entry.Want.TheVariants.{Alter, AlterKept, Current, Dirty, Repeat, Steady}
use Rattle.iso_modes.specs.Modes.{at_least, joined, mode_eq, mode_number}
use Rattle.iso_modes.specs.Terms.{is_brief, is_fresh}
use Rattle.iso_modes.specs.declared.Mode.{Mode}
use Rattle.iso_modes.specs.declared.Mode.TheVariants.{Ns, Nw, S, U, X}
use Rattle.iso_queue.specs.Locks.{Hold, Request, all_placed, hold_on, is_hold_of, settled, was_brief, without_briefs}
use Rattle.iso_reads.specs.Answers.{is_beside}
use Rattle.iso_types.specs.Ids.{conn_eq}
use Rattle.iso_types.specs.declared.head.Head.{Head}
use Rattle.iso_types.specs.declared.value.Conn.{Conn}
use Rattle.iso_types.specs.declared.value.Name.{Name}
use Rattle.iso_types.specs.declared.value.Name.TheVariants.{Row}
use Rattle.iso_types.specs.declared.value.Rid.{Rid}
use Rattle.iso_types.specs.declared.value.TableId.{TableId}

-- each mode of a row reads it
row-reads : (m : Mode) → is_row_mode m ≡ true → at_least m Ns ≡ true
unfolding mode_number mode_eq joined at_least is_row_mode
row-reads Ns e = refl
row-reads S e = refl
row-reads U e = refl
row-reads X e = refl
row-reads Nw e = refl
row-reads _ e = absurd (cc)

or-later : (a b : Bool) → b ≡ true → (a || b) ≡ true
or-later true b e = refl
or-later false b e = e

both : (b : Bool) → b ≡ true → b ≡ false → (P : Type 0) → P
both b t f P = absurd (cc)

abbrev none_asked : List Request
none_asked = []

neither : (b : Bool) → (if b then none_asked else []) ≡ none_asked
neither true = refl
neither false = refl

module _ (head : Head) (w : World) (s : IsSound head w) (c : Conn) (t : TableId) (r : Rid) where
  reads : (h : Hold) → hold_on w.holds c (Row t r) ≡ Some h → has_lock head w.holds c t r Ns ≡ true
  unfolding ModesSuit
  reads h e =
      or-later _ _ (ap (λ (o : Option Hold). option_map_or (λ m. at_least m Ns) (option_map (λ (x : Hold). x.mode) o) false) e
      ∙ row-reads h.mode (s.suits c (Row t r) h e))

  -- who holds the row sees no other's change in it
  held-alone : (h : Hold) → hold_on w.holds c (Row t r) ≡ Some h → is_changed_beside w c t r ≡ false
  held-alone h e =
      alone-where head w s t r c (λ d away lock. excludes head w s.locks t r c d away (reads h e) (kept-writes head w s.locks t r d lock))

  unheld : is_changed_beside w c t r ≡ true → hold_on w.holds c (Row t r) ≡ None
  unheld e = go (hold_on w.holds c (Row t r)) refl
    where
      go : (o : Option Hold) → hold_on w.holds c (Row t r) ≡ o → o ≡ None
      go None k = refl
      go (Some h) k = both (is_changed_beside w c t r) e (held-alone h k) _

  -- so is it after its holds are settled and the Brief ones have gone
  still : (spare : Option Name) → hold_on w.holds c (Row t r) ≡ None
      → hold_on (without_briefs w.holds c (settled c spare w.holds)) c (Row t r) ≡ None
  still spare free =
      let none = none-counts (is_hold_of c (Row t r)) w.holds free in
      let same = count-settled c spare w.holds c (Row t r) in
      let less = count-filter (is_hold_of c (Row t r)) (λ (h : Hold). not (conn_eq h.conn c && (is_brief h.term && was_brief w.holds c h.name)))
      (settled c spare w.holds) in
      counts-none (is_hold_of c (Row t r)) (without_briefs w.holds c (settled c spare w.holds)) (omega (arith, none, same, less))

  bare : (spare : Option Name) (rs : List Request) → rs ≡ [] → hold_on w.holds c (Row t r) ≡ None
      → option_map_or (λ (h : Hold). is_fresh h.term) (hold_on (without_briefs w.holds c (all_placed head (settled c spare w.holds) c rs)) c (Row t r)) false ≡ false
  bare spare rs none free =
      ap (λ (o : Option Hold). option_map_or (λ (h : Hold). is_fresh h.term) o false)
      (ap (λ (xs : List Request). hold_on (without_briefs w.holds c (all_placed head (settled c spare w.holds) c xs)) c (Row t r)) none ∙ still spare free)

  -- nor is a hold on it Fresh once such a look is made
  pub pinned-unfresh : (want : Want) → may_look head w c t r want ≡ true → look head w c t r want ≡ Gives Got.Granted → is_beside w c t r want ≡ true
      → is_fresh_on (after head w (by_agent c (Look t r want Got.Granted))) c (Row t r) ≡ false
  pinned-unfresh Dirty may granted e = absurd (cc)
  pinned-unfresh Current may granted e = bare (spared_by_look (Row t r) (w.last c)) (looked w t r Current) (neither (is_dead (versions w t r))) (unheld e)
  pinned-unfresh Want.Settled may granted e =
      bare (spared_by_look (Row t r) (w.last c)) (looked w t r Want.Settled) (neither (is_dead (versions w t r))) (unheld e)
  pinned-unfresh Steady may granted e = both (is_changed_beside w c t r) e (look-alone head w s c t r Steady refl may granted) _
  pinned-unfresh Repeat may granted e = both (is_changed_beside w c t r) e (look-alone head w s c t r Repeat refl may granted) _
  pinned-unfresh Alter may granted e = both (is_changed_beside w c t r) e (look-alone head w s c t r Alter refl may granted) _
  pinned-unfresh AlterKept may granted e = both (is_changed_beside w c t r) e (look-alone head w s c t r AlterKept refl may granted) _
