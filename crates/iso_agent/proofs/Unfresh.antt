-- A look that places no lock, and comes not next after a claim: no hold of its connection is Fresh behind it.
use Rattle.std.proofs.Common.{◌≡◌, Bool, true, false, not, ◌&&◌, List, [], ◌∷◌, refl, ap, sym, ◌∙◌, None, Option, if◌then◌else◌, map, filter, find}
use Rattle.std.specs.Option.{option_map_or}
use Rattle.iso_agent.specs.Steps.{leaves_fresh}
use Rattle.iso_history.proofs.locks.Finds.{filter-here, filter-past, find-here, find-past}
use Rattle.iso_history.specs.After.{after}
use Rattle.iso_history.specs.Holds.{looked, spared_by_look}
use Rattle.iso_history.specs.Legal.{is_fresh_on}
use Rattle.iso_history.specs.Makers.{by_agent}
use Rattle.iso_history.specs.Versions.{is_dead, versions}
use Rattle.iso_history.specs.World.{Last, World}
use Rattle.iso_history.specs.World.Last.{Claimed}
use Rattle.iso_history.specs.declared.entry.Act.TheVariants.{Look}
use Rattle.iso_history.specs.declared.entry.Got.{Got}
use Rattle.iso_history.specs.declared.entry.Want.{Want}
use Rattle.iso_history.specs.declared.entry.Want.TheVariants.{Alter, AlterKept, Current, Dirty, Repeat, Steady}
use Rattle.iso_modes.specs.Terms.{is_brief, is_fresh}
use Rattle.iso_modes.specs.declared.Term.TheVariants.{Kept}
use Rattle.iso_queue.specs.Locks.{Hold, Request, all_placed, is_hold_of, is_spared, settled, settled_one, was_brief, without_briefs}
use Rattle.iso_state.specs.Stands.{is_claimed}
use Rattle.iso_types.specs.Ids.{conn_eq, name_eq}
use Rattle.iso_types.specs.declared.head.Head.{Head}
use Rattle.iso_types.specs.declared.value.Conn.{Conn}
use Rattle.iso_types.specs.declared.value.Name.{Name}
use Rattle.iso_types.specs.declared.value.Name.TheVariants.{Row}
use Rattle.iso_types.specs.declared.value.Rid.{Rid}
use Rattle.iso_types.specs.declared.value.TableId.{TableId}

abbrev none_asked : List Request
none_asked = []

neither : (b : Bool) → (if b then none_asked else []) ≡ none_asked
neither true = refl
neither false = refl

-- the hold that is found is Fresh
abbrev found_fresh : Option Hold → Bool
found_fresh o = option_map_or (λ (h : Hold). is_fresh h.term) o false

module _ (c : Conn) (n : Name) where
  -- what is not the connection's stays as it is
  others-stay : (h : Hold) → conn_eq h.conn c ≡ false → settled_one c None h ≡ h
  others-stay h o = ap (λ b. if b && (is_fresh h.term && not (is_spared None h)) then record h { term = Kept } else h) o

  others-not : (h : Hold) → conn_eq h.conn c ≡ false → is_hold_of c n h ≡ false
  unfolding is_hold_of
  others-not h o = ap (λ b. b && name_eq h.name n) o

  clash : (b : Bool) → b ≡ true → b ≡ false → (P : Type 0) → P
  clash b t f P = absurd (cc)

  -- once settled, a hold of the connection is not Fresh
  settled-rests : (h : Hold) → is_hold_of c n (settled_one c None h) ≡ true → is_fresh (settled_one c None h).term ≡ false
  settled-rests h e = go (conn_eq h.conn c) refl (is_fresh h.term) refl e
    where
      go : (own : Bool) → conn_eq h.conn c ≡ own → (fresh : Bool) → is_fresh h.term ≡ fresh → is_hold_of c n (settled_one c None h) ≡ true
          → is_fresh (settled_one c None h).term ≡ false
      go true o true f k = rw (o, f) refl
      go true o false f k = rw (o, f) f
      go false o fresh f k = clash (is_hold_of c n (settled_one c None h)) k (ap (is_hold_of c n) (others-stay h o) ∙ others-not h o) _

  -- nor is the one that is found among those that stay
  pub found-rests : (stays : Hold → Bool) (hs : List Hold) → found_fresh (find (is_hold_of c n) (filter stays (settled c None hs))) ≡ false
  found-rests stays [] = refl
  found-rests stays (h ∷ hs) = go (stays (settled_one c None h)) refl (is_hold_of c n (settled_one c None h)) refl (found-rests stays hs)
    where
      x : Hold
      x = settled_one c None h

      rest : List Hold
      rest = settled c None hs

      go : (stay : Bool) → stays x ≡ stay → (its : Bool) → is_hold_of c n x ≡ its → found_fresh (find (is_hold_of c n) (filter stays rest)) ≡ false
          → found_fresh (find (is_hold_of c n) (filter stays (x ∷ rest))) ≡ false
      go true s true i ih =
          ap (λ ys. found_fresh (find (is_hold_of c n) ys)) (filter-here stays x rest s) ∙ ap found_fresh (find-here (is_hold_of c n) x (filter stays rest) i)
          ∙ settled-rests h i
      go true s false i ih =
          ap (λ ys. found_fresh (find (is_hold_of c n) ys)) (filter-here stays x rest s) ∙ ap found_fresh (find-past (is_hold_of c n) x (filter stays rest) i)
          ∙ ih
      go false s its i ih = ap (λ ys. found_fresh (find (is_hold_of c n) ys)) (filter-past stays x rest s) ∙ ih

module _ (head : Head) (w : World) (c : Conn) (t : TableId) (r : Rid) where
  bare : (spare : Option Name) (rs : List Request) → spare ≡ None → rs ≡ []
      → found_fresh (find (is_hold_of c (Row t r)) (without_briefs w.holds c (all_placed head (settled c spare w.holds) c rs))) ≡ false
  bare spare rs s none =
      rw (s, none) (found-rests c (Row t r) (λ (h : Hold). not (conn_eq h.conn c && (is_brief h.term && was_brief w.holds c h.name))) w.holds)

  unspared : (x : Last) → is_claimed x ≡ false → spared_by_look (Row t r) x ≡ None
  unspared Claimed e = absurd (cc)
  unspared _ e = refl

  -- such a look leaves no Fresh hold
  pub bare-unfresh : (want : Want) → leaves_fresh want (is_claimed (w.last c)) ≡ false
      → is_fresh_on (after head w (by_agent c (Look t r want Got.Granted))) c (Row t r) ≡ false
  bare-unfresh Dirty e = bare _ (looked w t r Dirty) (unspared (w.last c) e) (neither (is_dead (versions w t r)))
  bare-unfresh Current e = bare _ (looked w t r Current) (unspared (w.last c) e) (neither (is_dead (versions w t r)))
  bare-unfresh Want.Settled e = bare _ (looked w t r Want.Settled) (unspared (w.last c) e) (neither (is_dead (versions w t r)))
  bare-unfresh Steady e = absurd (cc)
  bare-unfresh Repeat e = absurd (cc)
  bare-unfresh Alter e = absurd (cc)
  bare-unfresh AlterKept e = absurd (cc)

  -- so the answer is the same where the hold is not looked up then
  pub fresh-told : (want : Want) (fresh : Bool)
      → fresh ≡ (leaves_fresh want (is_claimed (w.last c)) && is_fresh_on (after head w (by_agent c (Look t r want Got.Granted))) c (Row t r))
      → fresh ≡ is_fresh_on (after head w (by_agent c (Look t r want Got.Granted))) c (Row t r)
  fresh-told want fresh e = go (leaves_fresh want (is_claimed (w.last c))) refl
    where
      go : (may : Bool) → leaves_fresh want (is_claimed (w.last c)) ≡ may
          → fresh ≡ is_fresh_on (after head w (by_agent c (Look t r want Got.Granted))) c (Row t r)
      go true m = e ∙ ap (λ b. b && is_fresh_on (after head w (by_agent c (Look t r want Got.Granted))) c (Row t r)) m
      go false m =
          e ∙ ap (λ b. b && is_fresh_on (after head w (by_agent c (Look t r want Got.Granted))) c (Row t r)) m ∙ sym (bare-unfresh want m)
