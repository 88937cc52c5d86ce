-- A scan that goes on: its entries one after the other, as a history grows at its end.
use Rattle.std.proofs.Common.{◌≡◌, true, false, List, [], ◌∷◌, ◌++◌, Some}
use Rattle.iso_history.specs.Guards.{ends_unit}
use Rattle.iso_history.specs.Makers.{by_agent}
use Rattle.iso_history.specs.Scans.{Goes, Place, is_repeated}
use Rattle.iso_history.specs.Scans.Goes.{Closes, Empties, Looks, Rests, Starts, Steps, Waits}
use Rattle.iso_history.specs.Scans.Place.{Found, Over, Seen}
use Rattle.iso_history.specs.declared.entry.Act.TheVariants.{Look, Next}
use Rattle.iso_history.specs.declared.entry.Entry.{Entry}
use Rattle.iso_history.specs.declared.entry.Got.{Got}
use Rattle.iso_history.specs.declared.entry.Stand.TheVariants.{At, Past}
use Rattle.iso_history.specs.declared.entry.Want.{Want}
use Rattle.iso_types.specs.declared.head.Range.{Range}
use Rattle.iso_types.specs.declared.value.Conn.{Conn}
use Rattle.iso_types.specs.declared.value.IndexId.{IndexId}
use Rattle.iso_types.specs.declared.value.Rid.{Rid}
use Rattle.iso_types.specs.declared.value.TableId.{TableId}
use Rattle.iso_types.specs.declared.value.Value.{Value}

module _ (c : Conn) (i : IndexId) (t : TableId) (range : Range) where
  -- one part after the other
  pub goes-append : (p q r : Place) (es fs : List Entry) → Goes c i t range p es q → Goes c i t range q fs r → Goes c i t range p (es ++ fs) r
  goes-append p q r es fs (Rests z) g = g
  goes-append p q r es fs (Waits y z e xs ends h) g = Waits p r e (xs ++ fs) ends (goes-append p q r xs fs h g)
  goes-append p q r es fs (Starts v s z xs h) g = Starts v s r (xs ++ fs) (goes-append (Found (v, s)) q r xs fs h g)
  goes-append p q r es fs (Empties z xs h) g = Empties r (xs ++ fs) (goes-append Over q r xs fs h g)
  goes-append p q r es fs (Looks y want z xs e h) g = Looks y want r (xs ++ fs) e (goes-append (Seen y) q r xs fs h g)
  goes-append p q r es fs (Steps y v s z xs h) g = Steps y v s r (xs ++ fs) (goes-append (Found (v, s)) q r xs fs h g)
  goes-append p q r es fs (Closes y z xs h) g = Closes y r (xs ++ fs) (goes-append Over q r xs fs h g)

  -- one more entry that does not end the unit
  pub goes-waits : (p q : Place) (es : List Entry) (e : Entry) → Goes c i t range p es q → ends_unit c e ≡ false → Goes c i t range p (es ++ e ∷ []) q
  goes-waits p q es e g ends = goes-append p q q es (e ∷ []) g (Waits q q e [] ends (Rests q))

  -- its look
  pub goes-looks : (p : Place) (y : Value × Rid) (es : List Entry) (want : Want) → Goes c i t range p es (Found y) → is_repeated want ≡ true
      → Goes c i t range p (es ++ by_agent c (Look t y.1 want Got.Granted) ∷ []) (Seen y)
  goes-looks p y es want g e =
      goes-append p (Found y) (Seen y) es (by_agent c (Look t y.1 want Got.Granted) ∷ []) g (Looks y want (Seen y) [] e (Rests (Seen y)))

  -- its next Next
  pub goes-steps : (p : Place) (y : Value × Rid) (v : Value) (r : Rid) (es : List Entry) → Goes c i t range p es (Seen y)
      → Goes c i t range p (es ++ by_agent c (Next i range (Some y) true (At v r)) ∷ []) (Found (v, r))
  goes-steps p y v r es g = goes-append p (Seen y) (Found (v, r)) es (by_agent c (Next i range (Some y) true (At v r)) ∷ []) g
      (Steps y v r (Found (v, r)) [] (Rests (Found (v, r))))

  -- or past the range
  pub goes-closes : (p : Place) (y : Value × Rid) (es : List Entry) → Goes c i t range p es (Seen y)
      → Goes c i t range p (es ++ by_agent c (Next i range (Some y) true Past) ∷ []) Over
  goes-closes p y es g = goes-append p (Seen y) Over es (by_agent c (Next i range (Some y) true Past) ∷ []) g (Closes y Over [] (Rests Over))
