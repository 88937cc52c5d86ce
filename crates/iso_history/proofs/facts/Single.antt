-- No connection holds a name twice.
use Rattle.std.proofs.Common.{◌≡◌, ◌≤◌, Bool, true, false, ◌&&◌, List, [], ◌∷◌, refl, ap, ◌∙◌, subst, arith, Some, Option, option_map, filter, count_by}
use Rattle.std.proofs.lemmas.Bool.{and_parts}
use Rattle.iso_history.proofs.locks.Finds.{count-filter, find-filter}
use Rattle.iso_history.proofs.locks.Fits.{held-from}
use Rattle.iso_history.proofs.locks.Holds.{count-other, count-own, count-settled}
use Rattle.iso_history.proofs.locks.Placing.{placed-keeps}
use Rattle.iso_history.proofs.locks.Same.{conn_is, name_is}
use Rattle.iso_history.specs.After.{after}
use Rattle.iso_history.specs.Facts.{AreSingle, LocksSound}
use Rattle.iso_history.specs.Holds.{Hand, hand_of, holds_by, holds_by_hand, spared}
use Rattle.iso_history.specs.Holds.Hand.{Collapses, Drops, Frees, Leaves, Places}
use Rattle.iso_history.specs.Legal.{Allowed}
use Rattle.iso_history.specs.World.{World}
use Rattle.iso_history.specs.declared.entry.Act.{Act}
use Rattle.iso_history.specs.declared.entry.Entry.{Entry}
use Rattle.iso_history.specs.declared.entry.Who.{Who}
use Rattle.iso_history.specs.declared.entry.Who.TheVariants.{Agent, Dispatcher}
use Rattle.iso_modes.specs.declared.Mode.{Mode}
use Rattle.iso_queue.specs.Locks.{Hold, Request, added, all_placed, held, hold_on, is_hold_of, placed, settled}
use Rattle.iso_types.specs.Ids.{conn_eq, name_eq}
use Rattle.iso_types.specs.declared.head.Head.{Head}
use Rattle.iso_types.specs.declared.value.Conn.{Conn}
use Rattle.iso_types.specs.declared.value.Name.{Name}

pub single-settled : (c : Conn) (spare : Option Name) (hs : List Hold) → AreSingle hs → AreSingle (settled c spare hs)
unfolding AreSingle
single-settled c spare hs s d k = let e = count-settled c spare hs d k in let le = s d k in omega arith

pub single-added : (c : Conn) (r : Request) (hs : List Hold) → AreSingle hs → AreSingle (added hs c r)
unfolding AreSingle
single-added c r hs s d k = go (conn_eq c d && name_eq r.name k) refl
  where
    go : (b : Bool) → (conn_eq c d && name_eq r.name k) ≡ b → count_by (is_hold_of d k) (added hs c r) ≤ 1
    go true e =
        let p = and_parts _ _ e in
        subst (λ (x : Conn). count_by (is_hold_of x k) (added hs c r) ≤ 1) (conn_is c d p.0)
        (subst (λ (x : Name). count_by (is_hold_of c x) (added hs c r) ≤ 1) (name_is r.name k p.1) (count-own c r hs (s c r.name)))
    go false e = let same = count-other c r d k e hs in let le = s d k in omega arith

pub single-filter : (q : Hold → Bool) (hs : List Hold) → AreSingle hs → AreSingle (filter q hs)
unfolding AreSingle
single-filter q hs s d k = let few = count-filter (is_hold_of d k) q hs in let le = s d k in omega arith

single-placed : (head : Head) (c : Conn) (hs : List Hold) (rs : List Request) → AreSingle hs → AreSingle (all_placed head hs c rs)
single-placed head c hs [] s = s
single-placed head c hs (r ∷ rs) s = single-placed head c (placed head hs c r) rs (placed-keeps head c AreSingle hs r (λ e. single-added c r hs) s)

pub single-hand : (head : Head) (c : Conn) (hand : Hand) (hs : List Hold) → AreSingle hs → AreSingle (holds_by_hand head c hand hs)
single-hand head c Leaves hs s = s
single-hand head c (Places rs) hs s = single-placed head c hs rs s
single-hand head c (Frees n) hs s = single-filter _ hs s
single-hand head c (Collapses t) hs s = single-filter _ hs s
single-hand head c Drops hs s = single-filter _ hs s

pub single-by : (head : Head) (w : World) (who : Who) (a : Act) → AreSingle w.holds → AreSingle (holds_by head w who a)
single-by head w Dispatcher a s = s
single-by head w (Agent c) a s =
    single-filter _ _ (single-hand head c (hand_of head w c a) (settled c (spared a (w.last c)) w.holds) (single-settled c (spared a (w.last c)) w.holds s))

pub single-after : (head : Head) (w : World) (e : Entry) → Allowed head w e → LocksSound head w → AreSingle (after head w e).holds
single-after head w e al s = single-by head w e.who e.act s.single

-- where no name is held twice, a filter finds what was held
pub hold_on-filter : (q : Hold → Bool) (hs : List Hold) → AreSingle hs → (c : Conn) (n : Name) (h : Hold) → hold_on (filter q hs) c n ≡ Some h
    → hold_on hs c n ≡ Some h
unfolding AreSingle
hold_on-filter q hs s c n h e = find-filter (is_hold_of c n) q hs h (s c n) e

pub held-filter : (q : Hold → Bool) (hs : List Hold) → AreSingle hs → (c : Conn) (n : Name) (a : Mode) → held (filter q hs) c n ≡ Some a
    → held hs c n ≡ Some a
held-filter q hs s c n a e =
    let g = held-from (hold_on (filter q hs) c n) a e in
    ap (option_map (λ (h : Hold). h.mode)) (hold_on-filter q hs s c n g.0 g.1) ∙ ap Some g.2
