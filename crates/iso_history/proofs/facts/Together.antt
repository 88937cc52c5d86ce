-- Two connections that hold one name hold modes that go together.
use Rattle.std.proofs.Common.{◌≡◌, Bool, true, false, ◌&&◌, List, refl, ap, sym, ◌∙◌, Some, None, Option, option_map, filter}
use Rattle.std.specs.Option.{option_map_or}
use Rattle.std.proofs.lemmas.Bool.{and_parts}
use Rattle.iso_history.proofs.facts.Single.{held-filter, single-hand, single-settled}
use Rattle.iso_history.proofs.locks.Fits.{GoesWithOthers, MayStand, apart-turned, modes_together}
use Rattle.iso_history.proofs.locks.Hands.{hand-stands}
use Rattle.iso_history.proofs.locks.Holds.{held-other, held-own, held-settled}
use Rattle.iso_history.proofs.locks.Placing.{AllAlong, all-keep}
use Rattle.iso_history.proofs.locks.Same.{conn_is, name_is}
use Rattle.iso_history.proofs.locks.Stands.{HandStands}
use Rattle.iso_history.specs.After.{after}
use Rattle.iso_history.specs.Facts.{AreSingle, GoTogether, LocksSound}
use Rattle.iso_history.specs.Holds.{Hand, hand_of, holds_by, holds_by_hand, spared}
use Rattle.iso_history.specs.Holds.Hand.{Collapses, Drops, Frees, Leaves, Places}
use Rattle.iso_history.specs.Legal.{Allowed, By}
use Rattle.iso_history.specs.World.{World}
use Rattle.iso_history.specs.declared.entry.Act.{Act}
use Rattle.iso_history.specs.declared.entry.Entry.{Entry}
use Rattle.iso_history.specs.declared.entry.Who.{Who}
use Rattle.iso_history.specs.declared.entry.Who.TheVariants.{Agent, Dispatcher}
use Rattle.iso_modes.proofs.Table.{joined_is, symmetric}
use Rattle.iso_modes.specs.Modes.{compatible, joined}
use Rattle.iso_modes.specs.declared.Mode.{Mode}
use Rattle.iso_queue.specs.Locks.{Hold, Request, added, all_placed, held, settled, target}
use Rattle.iso_types.specs.Ids.{conn_eq, name_eq}
use Rattle.iso_types.specs.declared.head.Head.{Head}
use Rattle.iso_types.specs.declared.value.Conn.{Conn}
use Rattle.iso_types.specs.declared.value.Name.{Name}

-- the same, of modes
abbrev pub ModesTogether : List Hold → Type 0
ModesTogether hs = (c d : Conn) (n : Name) (a b : Mode) → conn_eq c d ≡ false → held hs c n ≡ Some a → held hs d n ≡ Some b → compatible a b ≡ true

from_modes : (hs : List Hold) → ModesTogether hs → GoTogether hs
unfolding GoTogether
from_modes hs s c d n h g ne p q = s c d n h.mode g.mode ne (ap (option_map (λ (x : Hold). x.mode)) p) (ap (option_map (λ (x : Hold). x.mode)) q)

together-settled : (c : Conn) (spare : Option Name) (hs : List Hold) → ModesTogether hs → ModesTogether (settled c spare hs)
together-settled c spare hs s x y n a b ne p q = s x y n a b ne (sym (held-settled c spare hs x n) ∙ p) (sym (held-settled c spare hs y n) ∙ q)

together-filter : (q : Hold → Bool) (hs : List Hold) → AreSingle hs → ModesTogether hs → ModesTogether (filter q hs)
together-filter q hs one s x y n a b ne p r = s x y n a b ne (held-filter q hs one x n a p) (held-filter q hs one y n b r)

module _ (c : Conn) (r : Request) (hs : List Hold) (s : ModesTogether hs) (f : GoesWithOthers hs c r.name r.mode) where
  -- what the connection gets goes with what another holds
  own-fits : (d : Conn) (b : Mode) → conn_eq c d ≡ false → held hs d r.name ≡ Some b → compatible (target hs c r.name r.mode) b ≡ true
  own-fits d b ne e = go (held hs c r.name) refl
    where
      go : (x : Option Mode) → held hs c r.name ≡ x → compatible (option_map_or (λ h. joined h r.mode) x r.mode) b ≡ true
      go None k = f d b ne e
      go (Some a) k = joined_is a r.mode b ∙ rw (s c d r.name a b ne k e, f d b ne e) refl

  -- where one of two is the asking one
  one-asks : (x y : Conn) (n : Name) (a b : Mode) → conn_eq x y ≡ false → (conn_eq c x && name_eq r.name n) ≡ true
      → held (added hs c r) x n ≡ Some a → held (added hs c r) y n ≡ Some b → compatible a b ≡ true
  one-asks x y n a b ne k p q =
      let parts = and_parts _ _ k in
      let same : c ≡ x = conn_is c x parts.0 in
      let named : r.name ≡ n = name_is r.name n parts.1 in
      let away : conn_eq c y ≡ false = ap (λ (z : Conn). conn_eq z y) same ∙ ne in
      let mine : Some (target hs c r.name r.mode) ≡ Some a =
      sym (held-own c r hs) ∙ ap (λ (z : Conn). held (added hs c r) z r.name) same ∙ ap (λ (z : Name). held (added hs c r) x z) named ∙ p in
      let other : held hs y r.name ≡ Some b =
      ap (λ (z : Name). held hs y z) named ∙ sym (held-other c r y n (ap (λ (z : Bool). z && name_eq r.name n) away) hs) ∙ q in
      let is : target hs c r.name r.mode ≡ a = cc in
      ap (λ (z : Mode). compatible z b) (sym is) ∙ own-fits y b away other

  together-added : ModesTogether (added hs c r)
  together-added x y n a b ne p q = go (conn_eq c x && name_eq r.name n) refl (conn_eq c y && name_eq r.name n) refl
    where
      go : (i : Bool) → (conn_eq c x && name_eq r.name n) ≡ i → (j : Bool) → (conn_eq c y && name_eq r.name n) ≡ j → compatible a b ≡ true
      go true k j l = one-asks x y n a b ne k p q
      go false k true l = symmetric a b ∙ one-asks y x n b a (apart-turned x y ne) l q p
      go false k false l = s x y n a b ne (sym (held-other c r x n k hs) ∙ p) (sym (held-other c r y n l hs) ∙ q)

together-placed : (head : Head) (c : Conn) (hs : List Hold) (rs : List Request) → AllAlong (MayStand head c) head c hs rs → ModesTogether hs
    → ModesTogether (all_placed head hs c rs)
together-placed head c hs rs = all-keep head c (MayStand head c) ModesTogether (λ xs r e f s. together-added c r xs s (f e).others) hs rs

together-hand : (head : Head) (c : Conn) (hand : Hand) (hs : List Hold) → AreSingle hs → HandStands head c hs hand → ModesTogether hs
    → ModesTogether (holds_by_hand head c hand hs)
together-hand head c Leaves hs one f s = s
together-hand head c (Places rs) hs one f s = together-placed head c hs rs f s
together-hand head c (Frees n) hs one f s = together-filter _ hs one s
together-hand head c (Collapses t) hs one f s = together-filter _ hs one s
together-hand head c Drops hs one f s = together-filter _ hs one s

together-by : (head : Head) (w : World) (who : Who) (a : Act) → By head w who a → LocksSound head w → GoTogether (holds_by head w who a)
together-by head w Dispatcher a al s = s.together
together-by head w (Agent c) a al s =
    let spare = spared a (w.last c) in
    let hs : List Hold = settled c spare w.holds in
    let one : AreSingle hs = single-settled c spare w.holds s.single in
    let hand = hand_of head w c a in
    from_modes (holds_by head w (Agent c) a)
    (together-filter _ (holds_by_hand head c hand hs) (single-hand head c hand hs one)
    (together-hand head c hand hs one (hand-stands head w c spare a s al.1) (together-settled c spare w.holds (modes_together w.holds s.together))))

pub together-after : (head : Head) (w : World) (e : Entry) → Allowed head w e → LocksSound head w → GoTogether (after head w e).holds
together-after head w e al s = together-by head w e.who e.act al.2 s
