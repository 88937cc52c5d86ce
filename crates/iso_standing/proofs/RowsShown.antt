-- What is heard of a look and of a step of an index scan is as the changes of a statement ask: a shown row is seen, what was kept
-- before is firm, and the entry of a step is behind the place of its scan.
use Rattle.std.proofs.Common.{◌≡◌, Bool, true, false, List, [], ◌∷◌, refl, ap, sym, ◌∙◌, subst, Some, None, Option, if◌then◌else◌}
use Rattle.std.specs.Prelude.{nat_lt}
use Rattle.iso_conduct.specs.Parts.{Part, Walk}
use Rattle.iso_conduct.specs.Parts.Part.{Asks, IndexScan}
use Rattle.iso_conduct.specs.Points.{Haul, Point, found_rows}
use Rattle.iso_conduct.specs.Points.Haul.{Found, Given, Number}
use Rattle.iso_history.proofs.log.Fitted.{present-fits}
use Rattle.iso_history.proofs.pending.Finds.{find-passes}
use Rattle.iso_history.specs.After.{after}
use Rattle.iso_history.specs.Entries.{entries_of, found, is_in_range, stand_of}
use Rattle.iso_history.specs.Facts.{IsSound}
use Rattle.iso_history.specs.Fitted.{RowsFit}
use Rattle.iso_history.specs.Guards.{is_lasting}
use Rattle.iso_history.specs.Holds.{next_name}
use Rattle.iso_history.specs.Legal.{Allowed, ByAgent}
use Rattle.iso_history.specs.Looks.{look, shown}
use Rattle.iso_history.specs.Makers.{by_agent}
use Rattle.iso_history.specs.Nexts.{next, stand_after}
use Rattle.iso_history.specs.Outcomes.{look_act, look_by, next_by, unless_full}
use Rattle.iso_history.specs.Requests.{Outcome, request}
use Rattle.iso_history.specs.Requests.Outcome.{Gives, Limit}
use Rattle.iso_history.specs.Versions.{slots, versions}
use Rattle.iso_history.specs.World.{World}
use Rattle.iso_history.specs.declared.entry.Act.{Act}
use Rattle.iso_history.specs.declared.entry.Act.TheVariants.{Look, ScanEnd}
use Rattle.iso_history.specs.declared.entry.Got.{Got}
use Rattle.iso_history.specs.declared.entry.Stand.{Stand}
use Rattle.iso_history.specs.declared.entry.Want.{Want}
use Rattle.iso_modes.specs.declared.Mode.TheVariants.{S}
use Rattle.iso_standing.proofs.KeptRows.{AllKept, AllSuch, Place, Scanned, Seen, Such, comes_after, scanned-kept}
use Rattle.iso_standing.proofs.RowLooks.{Shows, ShowsAt, Stands}
use Rattle.iso_standing.proofs.RowNeeds.{Written}
use Rattle.iso_standing.proofs.RowTold.{RowAsked}
use Rattle.iso_standing.proofs.RowsFirm.{Firm, seen-firm}
use Rattle.iso_standing.proofs.RowsHeard.{IsTold, limit-is, told-unless}
use Rattle.iso_standing.proofs.RowsLooked.{look-sees}
use Rattle.iso_standing.proofs.RowsSeen.{Sees}
use Rattle.iso_types.specs.Ids.{pair_lt}
use Rattle.iso_types.specs.declared.head.Head.{Head}
use Rattle.iso_types.specs.declared.head.Range.{Range}
use Rattle.iso_types.specs.declared.value.Conn.{Conn}
use Rattle.iso_types.specs.declared.value.IndexId.{IndexId}
use Rattle.iso_types.specs.declared.value.Name.{Name}
use Rattle.iso_types.specs.declared.value.Name.TheVariants.{Row}
use Rattle.iso_types.specs.declared.value.Rid.{Rid}
use Rattle.iso_types.specs.declared.value.TableId.{TableId}
use Rattle.iso_types.specs.declared.value.Value.{Value}

-- ---- where a step of an index scan stands

module _ (head : Head) (w : World) (c : Conn) (i : IndexId) (range : Range) (v : Value) (r : Rid) where
  found-after : (at : Option (Value × Rid)) → found w i range at ≡ Some (v, r) → comes_after at (v, r) ≡ true
  found-after None e = refl
  found-after (Some p) e = find-passes (λ q. pair_lt p q) (entries_of w i) (v, r) e

  stand-found : (o : Option (Value × Rid)) → stand_of range o ≡ Stand.At v r → o ≡ Some (v, r)
  stand-found None e = cc
  stand-found (Some p) e = go (is_in_range range p.0) e
    where
      go : (b : Bool) → (if b then Stand.At p.0 p.1 else Stand.Past) ≡ Stand.At v r → Some p ≡ Some (v, r)
      go true k =
          let keys : p.0 ≡ v = cc in
          let rows : p.1 ≡ r = cc in
          ap (λ z. Some (z, p.1)) keys ∙ ap (λ z. Some (v, z)) rows
      go false k = cc

  stand-stands : (o : Outcome) (n : Name) (stand : Stand) → stand_after o n stand ≡ Some (Stand.At v r) → stand ≡ Stand.At v r
  stand-stands (Gives Got.Granted) n stand e = cc
  stand-stands (Gives (Got.Queued m)) n stand e = cc
  stand-stands (Gives Got.TimedOut) n stand e = cc
  stand-stands Limit n stand e = cc

  -- it stands at an entry behind its place
  next-after : (at : Option (Value × Rid)) (guarded : Bool) → next head w c i range at guarded ≡ Some (Stand.At v r) → comes_after at (v, r) ≡ true
  next-after at true e =
      let n = next_name w i range at in
      found-after at (stand-found (found w i range at) (stand-stands (request head w c n S) n (stand_of range (found w i range at)) e))
  next-after at false e = found-after at (stand-found (found w i range at) (same (stand_of range (found w i range at)) e))
    where
      same : (a : Stand) → Some a ≡ Some (Stand.At v r) → a ≡ Stand.At v r
      same a k = cc

module _ (head : Head) (w : World) (c : Conn) (s : IsSound head w) (p : Point) where
  -- ---- a look, where the first part looks at a row

  module _ (fit : RowsFit head w.tables) (t : TableId) (r : Rid) (want : Want) (place : Place) (scanned : Scanned head (Sees w c) t want place p.kept)
      (ask : (g : Written) → RowAsked g p.left)
      (front : (see : Seen) (firm : Such) (sh : Option (List Value)) → ShowsAt head see firm t r p.kept sh → AllSuch (firm t) (found_rows p.kept)
      → Shows head see firm p.kept p.left sh) where
    abbrev looked_at : Act
    looked_at = Look t r want Got.Granted

    -- the world behind it
    abbrev behind_look : World
    behind_look = after head w (by_agent c looked_at)

    lasts : (kept : Haul) (ks : List (Rid × List Value)) → Scanned head (Sees w c) t want place kept → kept ≡ Found ks → is_lasting want ≡ true
    lasts (Found rows) ks k e = k.0
    lasts (Number n) ks k e = absurd (cc)
    lasts (Given rows) ks k e = absurd (cc)

    shows-row : ByAgent head w c looked_at → ShowsAt head (Sees behind_look c) (Firm behind_look c) t r p.kept (shown w c t r want)
    shows-row al ks row e sh =
        let sees : Sees behind_look c t r row = look-sees head w s c t r want al (lasts p.kept ks scanned e) row sh in
        (sees, present-fits head t (versions w t r) row (fit t r) sees.1)

    all-firm : Allowed head w (by_agent c looked_at) → (ks : List (Rid × List Value)) → AllKept head (Sees w c) t ks → AllSuch (Firm behind_look c t) ks
    all-firm al [] k = tt
    all-firm al (x ∷ ks) k = (seen-firm head w s c looked_at al refl t x.0 x.1 refl k.0, all-firm al ks k.3)

    seen-told : (o : Outcome) → Allowed head w (by_agent c (look_by head w c t r want o)) → IsTold head w c s p (look_by head w c t r want o)
    seen-told (Gives Got.Granted) al = (
      front (Sees behind_look c) (Firm behind_look c) (shown w c t r want) (shows-row al.2.1)
          (all-firm al (found_rows p.kept) (scanned-kept head (Sees w c) t want place p.kept scanned)),
      tt,
    )
    seen-told (Gives (Got.Queued k)) al = (ask _, tt)
    seen-told (Gives Got.TimedOut) al = (tt, tt)
    seen-told Limit al = limit-is head w c s p

    pub look-told : Allowed head w (by_agent c (unless_full head w c (look_act head w c t r want)))
        → IsTold head w c s p (unless_full head w c (look_act head w c t r want))
    look-told al = told-unless head w c s p (look_act head w c t r want) (go (nat_lt r.0 (slots w t))) al
      where
        act : Bool → Act
        act b = if b then look_by head w c t r want (look head w c t r want) else ScanEnd t (slots w t)

        go : (b : Bool) → Allowed head w (by_agent c (act b)) → IsTold head w c s p (act b)
        go true al = seen-told (look head w c t r want) al
        go false al = (tt, tt)

  -- ---- a step of an index scan

  module _ (k : Walk) (at : Option (Value × Rid)) (ps : List Part) (e : p.left ≡ IndexScan k at ∷ ps) where
    no-ask : (g : Written) → RowAsked g p.left
    no-ask g u r m rest f = let same : IndexScan k at ∷ ps ≡ Asks (Row u r) m ∷ rest = sym e ∙ f in cc

    -- where the step stands, and its entry
    abbrev stood : Option Stand
    stood = next head w c k.index k.range at k.guarded

    abbrev stepped : Option Stand → Act
    stepped o = next_by head w c k.index k.range at k.guarded o

    stepped-told : (o : Option Stand) → stood ≡ o → IsTold head w c s p (stepped o)
    stepped-told (Some (Stand.At v r)) q =
        (subst (λ z. Stands z v r) (sym e) (next-after head w c k.index k.range v r at k.guarded q), tt)
    stepped-told (Some Stand.Past) q = (tt, tt)
    stepped-told (Some (Stand.Queued n)) q = (no-ask _, tt)
    stepped-told (Some (Stand.TimedOut n)) q = (tt, tt)
    stepped-told None q = limit-is head w c s p

    pub next-told : Allowed head w (by_agent c (unless_full head w c (stepped stood))) → IsTold head w c s p (unless_full head w c (stepped stood))
    next-told al = told-unless head w c s p (stepped stood) (λ b. stepped-told stood refl) al
