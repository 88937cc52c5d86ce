-- Nexts that follow each other make scans.
use Rattle.std.proofs.Common.{◌≡◌, ◌<◌, ◌≤◌, ◌+◌, ℕ, zero, suc, true, List, [], ◌∷◌, ◌++◌, take, drop, refl, ap, sym, ◌∙◌, arith, subst, Some, None, Option}
use Rattle.std.specs.Prelude.{slice_get}
use Rattle.iso_history.proofs.phantoms.ScansAppend.{goes-append}
use Rattle.iso_history.proofs.phantoms.RangesGuarded.{ranges-guarded}
use Rattle.iso_history.proofs.phantoms.ScanStays.{own-ends}
use Rattle.iso_history.specs.After.{start}
use Rattle.iso_history.specs.Guards.{RangesGuarded, StandsAt}
use Rattle.iso_history.specs.Makers.{by_agent}
use Rattle.iso_history.specs.Scans.{AreChained, AreScanned, Goes, HasStand, IsChained, IsStanding, NoEnd, Place, SoundRun, is_repeated}
use Rattle.iso_history.specs.Scans.Goes.{Closes, Empties, Looks, Rests, Starts, Steps, Waits}
use Rattle.iso_history.specs.Scans.Place.{First, Found, Over, Seen}
use Rattle.iso_history.specs.declared.entry.Act.TheVariants.{Look, Next}
use Rattle.iso_history.specs.declared.entry.Entry.{Entry}
use Rattle.iso_history.specs.declared.entry.Got.{Got}
use Rattle.iso_history.specs.declared.entry.Stand.{Stand}
use Rattle.iso_history.specs.declared.entry.Stand.TheVariants.{At, Past}
use Rattle.iso_history.specs.declared.entry.Want.{Want}
use Rattle.iso_types.specs.Head.{table_of_index}
use Rattle.iso_types.specs.declared.head.Head.{Head}
use Rattle.iso_types.specs.declared.head.Range.{Range}
use Rattle.iso_types.specs.declared.value.Conn.{Conn}
use Rattle.iso_types.specs.declared.value.IndexId.{IndexId}
use Rattle.iso_types.specs.declared.value.Rid.{Rid}
use Rattle.iso_types.specs.declared.value.TableId.{TableId}
use Rattle.iso_types.specs.declared.value.Value.{Value}

-- the entries from place a to place b
abbrev pub part : ℕ → ℕ → List Entry → List Entry
part a b es = drop a (take b es)

part-none : (a b : ℕ) → part a b [] ≡ []
part-none zero zero = refl
part-none zero (suc b) = refl
part-none (suc a) zero = refl
part-none (suc a) (suc b) = refl

-- in two parts
pub part-split : (j a b : ℕ) (es : List Entry) → j ≤ a → a ≤ b → part j b es ≡ part j a es ++ part a b es
part-split j a b [] h k = part-none j b ∙ sym (ap (λ (l : List Entry). l ++ part a b []) (part-none j a) ∙ part-none a b)
part-split zero zero b (x ∷ es) h k = refl
part-split zero (suc a) zero (x ∷ es) h k = absurd (omega (arith, k))
part-split zero (suc a) (suc b) (x ∷ es) h k = ap (λ (l : List Entry). x ∷ l) (part-split zero a b es (omega arith) (omega (arith, k)))
part-split (suc j) zero b (x ∷ es) h k = absurd (omega (arith, h))
part-split (suc j) (suc a) zero (x ∷ es) h k = absurd (omega (arith, k))
part-split (suc j) (suc a) (suc b) (x ∷ es) h k = part-split j a b es (omega (arith, h)) (omega (arith, k))

-- one entry
pub part-one : (k : ℕ) (es : List Entry) (e : Entry) → slice_get es k ≡ Some e → part k (k + 1) es ≡ e ∷ []
part-one k [] e h = cc
part-one zero (x ∷ es) e h = let s : x ≡ e = cc in ap (λ (y : Entry). y ∷ []) s
part-one (suc k) (x ∷ es) e h =
    let s : suc k + 1 ≡ suc (k + 1) = omega arith in ap (λ (n : ℕ). part (suc k) n (x ∷ es)) s ∙ part-one k es e h

same : (p q : Value × Rid) → At p.0 p.1 ≡ At q.0 q.1 → p ≡ q
same p q e = let a : p.0 ≡ q.0 = cc in let b : p.1 ≡ q.1 = cc in ap (λ (v : Value). (v, p.1)) a ∙ ap (λ (r : Rid). (q.0, r)) b

at-past : (v : Value) (r : Rid) → At v r ≡ Past → ⊥
at-past v r e = cc

module _ (c : Conn) (i : IndexId) (t : TableId) (range : Range) where
  -- a part in which no entry ends the unit
  pub goes-part : (q : Place) (a b : ℕ) (es : List Entry) → NoEnd c es a b → Goes c i t range q (part a b es) q
  goes-part q a b [] no_end = subst (λ (l : List Entry). Goes c i t range q l q) (sym (part-none a b)) (Rests q)
  goes-part q zero zero (x ∷ es) no_end = Rests q
  goes-part q zero (suc b) (x ∷ es) no_end =
      Waits q q x (take b es) (no_end 0 x (omega arith) (omega arith) refl)
      (goes-part q zero b es (λ k e h g f. no_end (suc k) e (omega arith) (omega (arith, g)) f))
  goes-part q (suc a) zero (x ∷ es) no_end = Rests q
  goes-part q (suc a) (suc b) (x ∷ es) no_end = goes-part q a b es (λ k e h g f. no_end (suc k) e (omega (arith, h)) (omega (arith, g)) f)

  -- a look from where the scan stands
  look-part : (p : Value × Rid) (want : Want) (place : Place) → HasStand place (At p.0 p.1) → is_repeated want ≡ true
      → Goes c i t range place (by_agent c (Look t p.1 want Got.Granted) ∷ []) (Seen p)
  look-part p want First has rep = absurd has
  look-part p want (Found q) has rep = subst (λ (z : Value × Rid). Goes c i t range (Found z) (by_agent c (Look t p.1 want Got.Granted) ∷ []) (Seen p))
      (same p q has)
      (Looks p want (Seen p) [] rep (Rests (Seen p)))
  look-part p want (Seen q) has rep = subst (λ (z : Value × Rid). Goes c i t range (Seen z) (by_agent c (Look t p.1 want Got.Granted) ∷ []) (Seen p))
      (same p q has)
      (Waits (Seen p) (Seen p) (by_agent c (Look t p.1 want Got.Granted)) [] (own-ends c (Look t p.1 want Got.Granted) refl) (Rests (Seen p)))
  look-part p want Over has rep = absurd (at-past p.0 p.1 has)

  -- the Next from there, and a first Next
  next-part : (p : Value × Rid) (got : Stand) → IsStanding got
      → (place : Place) × Goes c i t range (Seen p) (by_agent c (Next i range (Some p) true got) ∷ []) place × HasStand place got
  next-part p (At v r) s = (Found (v, r), Steps p v r (Found (v, r)) [] (Rests (Found (v, r))), refl)
  next-part p Past s = (Over, Closes p Over [] (Rests Over), refl)
  next-part p (Stand.Queued n) s = absurd s
  next-part p (Stand.TimedOut n) s = absurd s

  first-part : (got : Stand) → IsStanding got → (place : Place) × Goes c i t range First (by_agent c (Next i range None true got) ∷ []) place
      × HasStand place got
  first-part (At v r) s = (Found (v, r), Starts v r (Found (v, r)) [] (Rests (Found (v, r))), refl)
  first-part Past s = (Over, Empties Over [] (Rests Over), refl)
  first-part (Stand.Queued n) s = absurd s
  first-part (Stand.TimedOut n) s = absurd s

  -- a scan that has come to where the Next at place k stands
  abbrev pub ComesTo : List Entry → ℕ → Stand → Type 0
  ComesTo es k got = (j : ℕ) × (place : Place) × (j ≤ k) × Goes c i t range First (part j (k + 1) es) place × HasStand place got

  -- one step of a scan more
  chain-step : (es : List Entry) (k : ℕ) (p : Value × Rid) (got : Stand) → StandsAt es k c (Next i range (Some p) true got) → IsStanding got
      → (ch : IsChained es k c i t range p) → ComesTo es ch.next (At p.0 p.1) → ComesTo es k got
  chain-step es k p got stands standing ch (j, place, le, goes, has) =
      let lt = ch.next_first in let gt = ch.look_first in
      let n = next-part p got standing in
      let m = ch.next in let l = ch.look in
      let one : part l (l + 1) es ≡ by_agent c (Look t p.1 ch.want Got.Granted) ∷ [] = part-one l es _ ch.look_stands in
      let two : part k (k + 1) es ≡ by_agent c (Next i range (Some p) true got) ∷ [] = part-one k es _ stands in
      let last : Goes c i t range (Seen p) (part (l + 1) (k + 1) es) n.0 =
      subst (λ (z : List Entry). Goes c i t range (Seen p) z n.0) (sym (part-split (l + 1) k (k + 1) es (omega (arith, gt)) (omega arith)))
      (goes-append c i t range (Seen p) (Seen p) n.0 (part (l + 1) k es) (part k (k + 1) es)
      (goes-part (Seen p) (l + 1) k es (λ x e a b f. ch.one_unit x e (omega (arith, a, lt)) b f))
      (subst (λ (z : List Entry). Goes c i t range (Seen p) z n.0) (sym two) n.1)) in
      let looks : Goes c i t range place (part l (k + 1) es) n.0 =
      subst (λ (z : List Entry). Goes c i t range place z n.0) (sym (part-split l (l + 1) (k + 1) es (omega arith) (omega (arith, gt))))
      (goes-append c i t range place (Seen p) n.0 (part l (l + 1) es) (part (l + 1) (k + 1) es)
      (subst (λ (z : List Entry). Goes c i t range place z (Seen p)) (sym one) (look-part p ch.want place has ch.repeated)) last) in
      let more : Goes c i t range place (part (m + 1) (k + 1) es) n.0 =
      subst (λ (z : List Entry). Goes c i t range place z n.0) (sym (part-split (m + 1) l (k + 1) es (omega (arith, lt)) (omega (arith, gt))))
      (goes-append c i t range place place n.0 (part (m + 1) l es) (part l (k + 1) es)
      (goes-part place (m + 1) l es (λ x e a b f. ch.one_unit x e (omega (arith, a)) (omega (arith, b, gt)) f)) looks) in (
        j,
        n.0,
        omega (arith, le, lt, gt),
        subst (λ (z : List Entry). Goes c i t range First z n.0) (sym (part-split j (m + 1) (k + 1) es (omega (arith, le)) (omega (arith, lt, gt))))
            (goes-append c i t range First place n.0 (part j (m + 1) es) (part (m + 1) (k + 1) es) goes more),
        n.2,
      )

  first-comes : (es : List Entry) (k : ℕ) (got : Stand) → StandsAt es k c (Next i range None true got) → IsStanding got → ComesTo es k got
  first-comes es k got stands standing =
      let f = first-part got standing in
      (k, f.0, omega arith, subst (λ (z : List Entry). Goes c i t range First z f.0) (sym (part-one k es _ stands)) f.1, f.2)

  -- by induction on the place
  chain-comes : (head : Head) (es : List Entry) → AreChained head es → table_of_index head i ≡ Some t → (n k : ℕ) → k < n
      → (at : Option (Value × Rid)) (got : Stand)
      → StandsAt es k c (Next i range at true got) → IsStanding got → ComesTo es k got
  chain-comes head es chained on zero k lt at got stands standing = absurd (omega (arith, lt))
  chain-comes head es chained on (suc n) k lt None got stands standing = first-comes es k got stands standing
  chain-comes head es chained on (suc n) k lt (Some p) got stands standing =
      let ch = chained k c i t range p got stands on standing in
      let a = ch.next_first in let b = ch.look_first in
      chain-step es k p got stands standing ch (chain-comes head es chained on n ch.next (omega (arith, lt, a, b)) ch.at (At p.0 p.1) ch.next_stands tt)

-- chained Nexts are scanned
pub chained-scanned : (head : Head) (es : List Entry) → AreChained head es → AreScanned head es
chained-scanned head es chained k c i t range at got stands on standing =
    let x = chain-comes c i t range head es chained on (k + 1) k (omega arith) at got stands standing in (x.0, x.1, x.3, x.4)

-- G5, from Nexts that are chained
pub chains-guarded : (head : Head) (es : List Entry) → SoundRun head (start head) es → AreChained head es → RangesGuarded head es
chains-guarded head es run chained = ranges-guarded head es run (chained-scanned head es chained)
