-- Who holds a row or key name holds its table as well.
use Rattle.std.proofs.Common.{◌≡◌, Bool, true, false, not, ◌&&◌, List, refl, ap, sym, ◌∙◌, Some, None, Option, option_map, filter}
use Rattle.std.specs.Option.{option_map_or}
use Rattle.std.proofs.lemmas.Bool.{and_parts}
use Rattle.iso_history.proofs.facts.Single.{held-filter, single-hand, single-settled}
use Rattle.iso_history.proofs.facts.Tables.{at_table, tables-hand, tables-settled}
use Rattle.iso_history.proofs.locks.Finds.{find-filter_kept, find-filter_passes, find-is}
use Rattle.iso_history.proofs.locks.Fits.{MayStand, held-from}
use Rattle.iso_history.proofs.locks.Hands.{hand-stands}
use Rattle.iso_history.proofs.locks.Holds.{held-other, held-own, held-settled, of-is}
use Rattle.iso_history.proofs.locks.Modes.{at_least-added, enough-joined}
use Rattle.iso_history.proofs.locks.Placing.{all-keep, at_least-alike}
use Rattle.iso_history.proofs.locks.Same.{conn_is, name_is}
use Rattle.iso_history.proofs.locks.Stands.{HandStands}
use Rattle.iso_history.specs.After.{after}
use Rattle.iso_history.specs.Facts.{AreSingle, HoldsBacked, LocksSound}
use Rattle.iso_history.specs.Holds.{Hand, hand_of, holds_by, holds_by_hand, spared}
use Rattle.iso_history.specs.Holds.Hand.{Collapses, Drops, Frees, Leaves, Places}
use Rattle.iso_history.specs.Legal.{Allowed, By}
use Rattle.iso_history.specs.Requests.{table_mode}
use Rattle.iso_history.specs.World.{World}
use Rattle.iso_history.specs.declared.entry.Act.{Act}
use Rattle.iso_history.specs.declared.entry.Entry.{Entry}
use Rattle.iso_history.specs.declared.entry.Who.{Who}
use Rattle.iso_history.specs.declared.entry.Who.TheVariants.{Agent, Dispatcher}
use Rattle.iso_modes.specs.Modes.{at_least, joined}
use Rattle.iso_modes.specs.Terms.{is_brief, is_kept}
use Rattle.iso_modes.specs.declared.Mode.{Mode}
use Rattle.iso_modes.specs.declared.Term.{Term}
use Rattle.iso_modes.specs.declared.Term.TheVariants.{Brief, Fresh, Kept}
use Rattle.iso_queue.specs.Locks.{Hold, Request, added, held, hold_on, holds_at_least, is_hold_of, settled, target, was_brief}
use Rattle.iso_types.specs.Head.{is_on, table_of}
use Rattle.iso_types.specs.Ids.{conn_eq, name_eq}
use Rattle.iso_types.specs.declared.head.Head.{Head}
use Rattle.iso_types.specs.declared.value.Conn.{Conn}
use Rattle.iso_types.specs.declared.value.Name.{Name}
use Rattle.iso_types.specs.declared.value.Name.TheVariants.{Table}
use Rattle.iso_types.specs.declared.value.TableId.{TableId}

-- a filter that leaves a hold leaves what is tested of its mode
pub held-kept : (f : Mode → Bool) (q : Hold → Bool) (hs : List Hold) (d : Conn) (n : Name) → ((g : Hold) → hold_on hs d n ≡ Some g → q g ≡ true)
    → option_map_or f (held hs d n) false ≡ true → option_map_or f (held (filter q hs) d n) false ≡ true
held-kept f q hs d n keep e = go (hold_on hs d n) refl
  where
    passes : Option Hold → Bool
    passes x = option_map_or f (option_map (λ h. h.mode) x) false

    go : (x : Option Hold) → hold_on hs d n ≡ x → option_map_or f (held (filter q hs) d n) false ≡ true
    go None k = cc (sym (ap passes k) ∙ e)
    go (Some g) k = ap passes (find-filter_kept (is_hold_of d n) q hs g k (keep g k) ∙ sym k) ∙ e

pub at_least-filter : (q : Hold → Bool) (hs : List Hold) (d : Conn) (n : Name) → ((g : Hold) → hold_on hs d n ≡ Some g → q g ≡ true) → (m : Mode)
    → holds_at_least hs d n m ≡ true → holds_at_least (filter q hs) d n m ≡ true
at_least-filter q hs d n keep m e = held-kept (λ z. at_least z m) q hs d n keep e

-- what is without briefs keeps what is kept
pub brief-kept : (before : List Hold) (c : Conn) (h : Hold) → is_kept h.term ≡ true
    → not (conn_eq h.conn c && (is_brief h.term && was_brief before c h.name)) ≡ true
brief-kept before c h k = go h.term k (conn_eq h.conn c)
  where
    go : (t : Term) → is_kept t ≡ true → (b : Bool) → not (b && (is_brief t && was_brief before c h.name)) ≡ true
    go Kept k true = refl
    go Kept k false = refl
    go Fresh k b = cc
    go Brief k b = cc

-- a collapse keeps tables
pub collapse-keeps : (head : Head) (c : Conn) (t u : TableId) (h : Hold) → h.name ≡ Table u → not (conn_eq h.conn c && is_on head t h.name) ≡ true
collapse-keeps head c t u h e = ap (λ (n : Name). not (conn_eq h.conn c && is_on head t n)) e ∙ go (conn_eq h.conn c)
  where
    go : (b : Bool) → not (b && false) ≡ true
    go true = refl
    go false = refl

-- a free keeps tables
pub free-keeps : (c d : Conn) (n : Name) (u : TableId) (h : Hold) → (n ≡ Table u → ⊥) → h.name ≡ Table u → not (is_hold_of c n h) ≡ true
free-keeps c d n u h away e = go (is_hold_of c n h) refl
  where
    go : (b : Bool) → is_hold_of c n h ≡ b → not b ≡ true
    go true k = absurd (away (sym (of-is c n h k).1 ∙ e))
    go false k = refl

module _ (head : Head) where
  -- the same, of modes
  abbrev pub ModesBacked : List Hold → Type 0
  ModesBacked hs = (d : Conn) (n : Name) (t : TableId) (a : Mode) → table_of head n ≡ Some t → held hs d n ≡ Some a
      → holds_at_least hs d (Table t) (table_mode a) ≡ true

  -- from holds to modes, and back
  to_modes : (hs : List Hold) → HoldsBacked head hs → ModesBacked hs
  unfolding HoldsBacked
  to_modes hs s d n t a on e =
      let g = held-from (hold_on hs d n) a e in
      rw g.2 at (s d n t g.0 on g.1)

  from_modes : (hs : List Hold) → ModesBacked hs → HoldsBacked head hs
  unfolding HoldsBacked
  from_modes hs s d n t h on e = s d n t h.mode on (ap (option_map (λ (x : Hold). x.mode)) e)

  backed-settled : (c : Conn) (spare : Option Name) (hs : List Hold) → ModesBacked hs → ModesBacked (settled c spare hs)
  backed-settled c spare hs s d n t a on e =
      at_least-alike (settled c spare hs) hs d (Table t) (table_mode a) (held-settled c spare hs) ∙ s d n t a on (sym (held-settled c spare hs d n) ∙ e)

  backed-added : (c : Conn) (r : Request) (hs : List Hold)
      → ((t : TableId) → table_of head r.name ≡ Some t → holds_at_least hs c (Table t) (table_mode r.mode) ≡ true)
      → ModesBacked hs → ModesBacked (added hs c r)
  backed-added c r hs f s d n t a on e = at_least-added c r hs d (Table t) (table_mode a) (go (conn_eq c d && name_eq r.name n) refl)
    where
      own : (x : Option Mode) → held hs c r.name ≡ x → table_of head r.name ≡ Some t
          → holds_at_least hs c (Table t) (table_mode (option_map_or (λ h. joined h r.mode) x r.mode)) ≡ true
      own None k o = f t o
      own (Some b) k o = enough-joined (held hs c (Table t)) b r.mode (s c r.name t b o k) (f t o)

      go : (b : Bool) → (conn_eq c d && name_eq r.name n) ≡ b → holds_at_least hs d (Table t) (table_mode a) ≡ true
      go true k =
          let p = and_parts _ _ k in
          let named : r.name ≡ n = name_is r.name n p.1 in
          let is : Some (target hs c r.name r.mode) ≡ Some a =
          sym (held-own c r hs) ∙ ap (λ (z : Conn). held (added hs c r) z r.name) (conn_is c d p.0) ∙ ap (λ (z : Name). held (added hs c r) d z) named ∙ e in
          let same : target hs c r.name r.mode ≡ a = cc in
          ap (λ (z : Conn). holds_at_least hs z (Table t) (table_mode a)) (sym (conn_is c d p.0))
          ∙ ap (λ (z : Mode). holds_at_least hs c (Table t) (table_mode z)) (sym same)
          ∙ own (held hs c r.name) refl (ap (table_of head) named ∙ on)
      go false k = s d n t a on (sym (held-other c r d n k hs) ∙ e)

  -- a filter that leaves the tables of whom it leaves a hold
  backed-filter : (q : Hold → Bool) (hs : List Hold) → AreSingle hs
      → ((d : Conn) (n : Name) (t : TableId) (h g : Hold) → hold_on (filter q hs) d n ≡ Some h → hold_on hs d (Table t) ≡ Some g → q g ≡ true)
      → ModesBacked hs → ModesBacked (filter q hs)
  backed-filter q hs one keep s d n t a on e =
      let x = held-from (hold_on (filter q hs) d n) a e in
      at_least-filter q hs d (Table t) (λ g k. keep d n t x.0 g x.1 k) (table_mode a) (s d n t a on (held-filter q hs one d n a e))

  backed-hand : (c : Conn) (hand : Hand) (hs : List Hold) → AreSingle hs → HandStands head c hs hand → ModesBacked hs
      → ModesBacked (holds_by_hand head c hand hs)
  backed-hand c Leaves hs one f s = s
  backed-hand c (Places rs) hs one f s = all-keep head c (MayStand head c) ModesBacked (λ xs r e g k. backed-added c r xs (g e).backed k) hs rs f s
  backed-hand c (Frees k) hs one f s =
      backed-filter _ hs one (λ d n t h g x y. free-keeps c d k t g (f t) ((of-is d (Table t) g (find-is (is_hold_of d (Table t)) hs g y)).1)) s
  backed-hand c (Collapses u) hs one f s =
      backed-filter _ hs one (λ d n t h g x y. collapse-keeps head c u t g ((of-is d (Table t) g (find-is (is_hold_of d (Table t)) hs g y)).1)) s
  backed-hand c Drops hs one f s = backed-filter (λ h. not (conn_eq h.conn c)) hs one away s
    where
      away : (d : Conn) (n : Name) (t : TableId) (h g : Hold) → hold_on (filter (λ h. not (conn_eq h.conn c)) hs) d n ≡ Some h
          → hold_on hs d (Table t) ≡ Some g → not (conn_eq g.conn c) ≡ true
      away d n t h g x y =
          let of_h = (of-is d n h (find-is (is_hold_of d n) (filter (λ z. not (conn_eq z.conn c)) hs) h x)).0 in
          let of_g = (of-is d (Table t) g (find-is (is_hold_of d (Table t)) hs g y)).0 in
          ap (λ (z : Conn). not (conn_eq z c)) (of_g ∙ sym of_h) ∙ find-filter_passes (is_hold_of d n) (λ z. not (conn_eq z.conn c)) hs h x

  -- after an entry of either maker
  backed-by : (w : World) (who : Who) (a : Act) → By head w who a → LocksSound head w → HoldsBacked head (holds_by head w who a)
  backed-by w Dispatcher a al s = s.backed
  backed-by w (Agent c) a al s =
      let spare = spared a (w.last c) in
      let hs : List Hold = settled c spare w.holds in
      let one : AreSingle hs = single-settled c spare w.holds s.single in
      let hand = hand_of head w c a in
      let fits = hand-stands head w c spare a s al.1 in
      let kept = tables-hand head c hand hs one fits (tables-settled c spare w.holds s.tables) in
      from_modes (holds_by head w (Agent c) a)
      (backed-filter _ (holds_by_hand head c hand hs) (single-hand head c hand hs one)
      (λ d n t h g x y. brief-kept w.holds c g (at_table (holds_by_hand head c hand hs) kept d t g y))
      (backed-hand c hand hs one fits (backed-settled c spare w.holds (to_modes w.holds s.backed))))

pub backed-after : (head : Head) (w : World) (e : Entry) → Allowed head w e → LocksSound head w → HoldsBacked head (after head w e).holds
backed-after head w e al s = backed-by head w e.who e.act al.2 s
