-- Each name is held in a mode that suits it.
use Rattle.std.proofs.Common.{◌≡◌, Bool, true, false, ◌&&◌, List, refl, ap, sym, ◌∙◌, Some, Option, option_map, filter}
use Rattle.std.proofs.lemmas.Bool.{and_parts}
use Rattle.iso_history.proofs.facts.Single.{held-filter, single-hand, single-settled}
use Rattle.iso_history.proofs.locks.Fits.{MayStand, held-from}
use Rattle.iso_history.proofs.locks.Hands.{hand-stands}
use Rattle.iso_history.proofs.locks.Holds.{held-other, held-own, held-settled}
use Rattle.iso_history.proofs.locks.Modes.{suits-target}
use Rattle.iso_history.proofs.locks.Placing.{all-keep}
use Rattle.iso_history.proofs.locks.Same.{conn_is, name_is}
use Rattle.iso_history.proofs.locks.Stands.{HandStands}
use Rattle.iso_history.specs.After.{after}
use Rattle.iso_history.specs.Facts.{suits_held, AreSingle, LocksSound, ModesSuit}
use Rattle.iso_history.specs.Holds.{Hand, hand_of, holds_by, holds_by_hand, spared}
use Rattle.iso_history.specs.Holds.Hand.{Collapses, Drops, Frees, Leaves, Places}
use Rattle.iso_history.specs.Legal.{Allowed, By}
use Rattle.iso_history.specs.World.{World}
use Rattle.iso_history.specs.declared.entry.Act.{Act}
use Rattle.iso_history.specs.declared.entry.Entry.{Entry}
use Rattle.iso_history.specs.declared.entry.Who.{Who}
use Rattle.iso_history.specs.declared.entry.Who.TheVariants.{Agent, Dispatcher}
use Rattle.iso_modes.specs.declared.Mode.{Mode}
use Rattle.iso_queue.specs.Locks.{Hold, Request, added, held, hold_on, settled, target}
use Rattle.iso_types.specs.Ids.{conn_eq, name_eq}
use Rattle.iso_types.specs.declared.head.Head.{Head}
use Rattle.iso_types.specs.declared.value.Conn.{Conn}
use Rattle.iso_types.specs.declared.value.Name.{Name}

module _ (head : Head) where
  -- the same, of modes
  abbrev pub HeldSuit : List Hold → Type 0
  HeldSuit hs = (d : Conn) (n : Name) (a : Mode) → held hs d n ≡ Some a → suits_held n a ≡ true

  -- from holds to modes, and back
  pub to_modes : (hs : List Hold) → ModesSuit hs → HeldSuit hs
  unfolding ModesSuit
  to_modes hs s d n a e = let g = held-from (hold_on hs d n) a e in rw g.2 at (s d n g.0 g.1)

  from_modes : (hs : List Hold) → HeldSuit hs → ModesSuit hs
  unfolding ModesSuit
  from_modes hs s d n h e = s d n h.mode (ap (option_map (λ (x : Hold). x.mode)) e)

  pub suits-settled : (c : Conn) (spare : Option Name) (hs : List Hold) → HeldSuit hs → HeldSuit (settled c spare hs)
  suits-settled c spare hs s d n a e = s d n a (sym (held-settled c spare hs d n) ∙ e)

  suits-filter : (q : Hold → Bool) (hs : List Hold) → AreSingle hs → HeldSuit hs → HeldSuit (filter q hs)
  suits-filter q hs one s d n a e = s d n a (held-filter q hs one d n a e)

  pub suits-added : (c : Conn) (r : Request) (hs : List Hold) → suits_held r.name r.mode ≡ true → HeldSuit hs
      → HeldSuit (added hs c r)
  suits-added c r hs f s d n a e = go (conn_eq c d && name_eq r.name n) refl
    where
      go : (b : Bool) → (conn_eq c d && name_eq r.name n) ≡ b → suits_held n a ≡ true
      go true k =
          let p = and_parts _ _ k in
          let named : r.name ≡ n = name_is r.name n p.1 in
          let is : Some (target hs c r.name r.mode) ≡ Some a =
          sym (held-own c r hs) ∙ ap (λ (z : Conn). held (added hs c r) z r.name) (conn_is c d p.0) ∙ ap (λ (z : Name). held (added hs c r) d z) named ∙ e in
          let same : target hs c r.name r.mode ≡ a = cc in
          ap (λ (z : Name). suits_held z a) (sym named) ∙ ap (suits_held r.name) (sym same) ∙ suits-target r.name (held hs c r.name) r.mode (s c r.name) f
      go false k = s d n a (sym (held-other c r d n k hs) ∙ e)

  suits-hand : (c : Conn) (hand : Hand) (hs : List Hold) → AreSingle hs → HandStands head c hs hand → HeldSuit hs → HeldSuit (holds_by_hand head c hand hs)
  suits-hand c Leaves hs one f s = s
  suits-hand c (Places rs) hs one f s = all-keep head c (MayStand head c) HeldSuit (λ xs r e g k. suits-added c r xs (g e).suits k) hs rs f s
  suits-hand c (Frees n) hs one f s = suits-filter _ hs one s
  suits-hand c (Collapses t) hs one f s = suits-filter _ hs one s
  suits-hand c Drops hs one f s = suits-filter _ hs one s

  suits-by : (w : World) (who : Who) (a : Act) → By head w who a → LocksSound head w → ModesSuit (holds_by head w who a)
  suits-by w Dispatcher a al s = s.suits
  suits-by w (Agent c) a al s =
      let spare = spared a (w.last c) in
      let hs : List Hold = settled c spare w.holds in
      let one : AreSingle hs = single-settled c spare w.holds s.single in
      let hand = hand_of head w c a in
      from_modes (holds_by head w (Agent c) a)
      (suits-filter _ (holds_by_hand head c hand hs) (single-hand head c hand hs one)
      (suits-hand c hand hs one (hand-stands head w c spare a s al.1) (suits-settled c spare w.holds (to_modes w.holds s.suits))))

pub suits-after : (head : Head) (w : World) (e : Entry) → Allowed head w e → LocksSound head w → ModesSuit (after head w e).holds
suits-after head w e al s = suits-by head w e.who e.act al.2 s
