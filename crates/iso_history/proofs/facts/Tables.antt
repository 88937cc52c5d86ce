-- A lock on a table is kept to the unit's end.
use Rattle.std.proofs.Common.{◌≡◌, Bool, true, false, ◌&&◌, if◌then◌else◌, List, refl, ap, sym, ◌∙◌, Some, None, Option, option_map, filter}
use Rattle.std.proofs.lemmas.Bool.{and_parts}
use Rattle.iso_history.proofs.facts.Single.{hold_on-filter, single-hand, single-settled}
use Rattle.iso_history.proofs.locks.Fits.{MayStand}
use Rattle.iso_history.proofs.locks.Hands.{hand-stands}
use Rattle.iso_history.proofs.locks.Holds.{granted, hold_on-other, hold_on-own, hold_on-settled, kept-settled}
use Rattle.iso_history.proofs.locks.Placing.{all-keep}
use Rattle.iso_history.proofs.locks.Same.{conn_is, name_is}
use Rattle.iso_history.proofs.locks.Stands.{HandStands}
use Rattle.iso_history.specs.After.{after}
use Rattle.iso_history.specs.Facts.{AreSingle, LocksSound, TablesKept}
use Rattle.iso_history.specs.Holds.{Hand, hand_of, holds_by, holds_by_hand, spared}
use Rattle.iso_history.specs.Holds.Hand.{Collapses, Drops, Frees, Leaves, Places}
use Rattle.iso_history.specs.Legal.{Allowed, By}
use Rattle.iso_history.specs.World.{World}
use Rattle.iso_history.specs.declared.entry.Act.{Act}
use Rattle.iso_history.specs.declared.entry.Entry.{Entry}
use Rattle.iso_history.specs.declared.entry.Who.{Who}
use Rattle.iso_history.specs.declared.entry.Who.TheVariants.{Agent, Dispatcher}
use Rattle.iso_modes.specs.Terms.{is_kept}
use Rattle.iso_modes.specs.declared.Term.TheVariants.{Kept}
use Rattle.iso_queue.specs.Locks.{Hold, Request, added, hold_on, settled, settled_one}
use Rattle.iso_types.specs.Ids.{conn_eq, name_eq}
use Rattle.iso_types.specs.declared.head.Head.{Head}
use Rattle.iso_types.specs.declared.value.Conn.{Conn}
use Rattle.iso_types.specs.declared.value.Name.{Name}
use Rattle.iso_types.specs.declared.value.Name.TheVariants.{Table}
use Rattle.iso_types.specs.declared.value.TableId.{TableId}

-- a hold on a table is kept
pub at_table : (hs : List Hold) → TablesKept hs → (d : Conn) (t : TableId) (g : Hold) → hold_on hs d (Table t) ≡ Some g → is_kept g.term ≡ true
unfolding TablesKept
at_table hs k d t g e = k d t g e

pub tables-settled : (c : Conn) (spare : Option Name) (hs : List Hold) → TablesKept hs → TablesKept (settled c spare hs)
unfolding TablesKept
tables-settled c spare hs s d t h e = go (hold_on hs d (Table t)) refl
  where
    go : (x : Option Hold) → hold_on hs d (Table t) ≡ x → is_kept h.term ≡ true
    go None k = cc (sym (hold_on-settled c spare hs d (Table t) ∙ ap (option_map (settled_one c spare)) k) ∙ e)
    go (Some g) k =
        let is : Some (settled_one c spare g) ≡ Some h = sym (hold_on-settled c spare hs d (Table t) ∙ ap (option_map (settled_one c spare)) k) ∙ e in
        let same : settled_one c spare g ≡ h = cc in
        ap (λ (z : Hold). is_kept z.term) (sym same) ∙ kept-settled c spare g (s d t g k)

tables-filter : (q : Hold → Bool) (hs : List Hold) → AreSingle hs → TablesKept hs → TablesKept (filter q hs)
unfolding TablesKept
tables-filter q hs one s d t h e = s d t h (hold_on-filter q hs one d (Table t) h e)

-- a kept request leaves a kept hold
granted-kept : (c : Conn) (r : Request) (x : Option Hold) → is_kept r.term ≡ true → is_kept (granted c r x).term ≡ true
granted-kept c r None e = e
granted-kept c r (Some h) e = go (is_kept h.term)
  where
    go : (b : Bool) → is_kept (if b then Kept else r.term) ≡ true
    go true = refl
    go false = e

tables-added : (c : Conn) (r : Request) (hs : List Hold) → ((t : TableId) → r.name ≡ Table t → is_kept r.term ≡ true) → TablesKept hs
    → TablesKept (added hs c r)
unfolding TablesKept
tables-added c r hs f s d t h e = go (conn_eq c d && name_eq r.name (Table t)) refl
  where
    go : (b : Bool) → (conn_eq c d && name_eq r.name (Table t)) ≡ b → is_kept h.term ≡ true
    go true k =
        let p = and_parts _ _ k in
        let named : r.name ≡ Table t = name_is r.name (Table t) p.1 in
        let is : Some (granted c r (hold_on hs c r.name)) ≡ Some h =
        sym (hold_on-own c r hs) ∙ ap (λ (z : Conn). hold_on (added hs c r) z r.name) (conn_is c d p.0)
        ∙ ap (λ (z : Name). hold_on (added hs c r) d z) named ∙ e in
        let same : granted c r (hold_on hs c r.name) ≡ h = cc in
        ap (λ (z : Hold). is_kept z.term) (sym same) ∙ granted-kept c r (hold_on hs c r.name) (f t named)
    go false k = s d t h (sym (hold_on-other c r d (Table t) k hs) ∙ e)

pub tables-hand : (head : Head) (c : Conn) (hand : Hand) (hs : List Hold) → AreSingle hs → HandStands head c hs hand → TablesKept hs
    → TablesKept (holds_by_hand head c hand hs)
tables-hand head c Leaves hs one f s = s
tables-hand head c (Places rs) hs one f s = all-keep head c (MayStand head c) TablesKept (λ xs r e g k. tables-added c r xs (g e).kept k) hs rs f s
tables-hand head c (Frees n) hs one f s = tables-filter _ hs one s
tables-hand head c (Collapses t) hs one f s = tables-filter _ hs one s
tables-hand head c Drops hs one f s = tables-filter _ hs one s

tables-by : (head : Head) (w : World) (who : Who) (a : Act) → By head w who a → LocksSound head w → TablesKept (holds_by head w who a)
tables-by head w Dispatcher a al s = s.tables
tables-by head w (Agent c) a al s =
    let spare = spared a (w.last c) in
    let hs : List Hold = settled c spare w.holds in
    let one : AreSingle hs = single-settled c spare w.holds s.single in
    let hand = hand_of head w c a in
    tables-filter _ (holds_by_hand head c hand hs) (single-hand head c hand hs one)
    (tables-hand head c hand hs one (hand-stands head w c spare a s al.1) (tables-settled c spare w.holds s.tables))

pub tables-after : (head : Head) (w : World) (e : Entry) → Allowed head w e → LocksSound head w → TablesKept (after head w e).holds
tables-after head w e al s = tables-by head w e.who e.act al.2 s
