-- One name's items in the lists of all names.
use Rattle.std.proofs.Common.{◌≡◌, Bool, true, false, not, ◌&&◌, ◌||◌, List, [], ◌∷◌, ◌++◌, map, refl, ap, sym, ◌∙◌, subst}
use Rattle.std.specs.List.{flat_map, list_any}
use Rattle.std.specs.Option.{option_map, option_map_or}
use Rattle.std.specs.Prelude.{filter, find, Option, None, Some}
use Rattle.std.proofs.lemmas.List.Elements.{filter-append}
use Rattle.std.proofs.lemmas.Option.{slice_get-map}
pub use Rattle.iso_lines.proofs.Same.{name_is}
pub use Rattle.iso_lines.proofs.Names.{name_same}
use Rattle.iso_locklist.specs.Lists.{holds_in, named_hold, named_wait, waits_in}
use Rattle.iso_locklist.specs.Places.{Ledger, are_apart, is_covered, is_covered_on, line_at, names, nobody, table_in}
use Rattle.iso_locklist.specs.Places.{Place}
use Rattle.iso_modes.specs.Modes.{covers}
use Rattle.iso_modes.specs.declared.Mode.{Mode}
use Rattle.iso_queue.specs.Lines.{Line, hold_of}
use Rattle.iso_queue.specs.Locks as locks
use Rattle.iso_queue.specs.Queues.{queue}
use Rattle.iso_queue.specs.declared.types.Hold.{Hold}
use Rattle.iso_types.specs.Head.{table_of}
use Rattle.iso_types.specs.Ids.{conn_eq, name_eq}
use Rattle.iso_types.specs.declared.head.Head.{Head}
use Rattle.iso_types.specs.declared.head.IndexDef.{IndexDef}
use Rattle.iso_types.specs.declared.value.Conn.{Conn}
use Rattle.iso_types.specs.declared.value.Name.{Name}
use Rattle.iso_types.specs.declared.value.Name.TheVariants.{End, Key, Row, Table}
use Rattle.iso_types.specs.declared.value.TableId.{TableId}

both : (a b : Bool) → (a && b) ≡ true → (a ≡ true) × (b ≡ true)
both true b e = (refl, e)
both false b e = cc

-- to look among the items that pass one test by another
seek_by : {Y : Type 0} (t a b : Y → Bool) (y : Y) (ys : List Y) → t y ≡ (a y && b y) → (p q : Bool) → a y ≡ p → b y ≡ q
    → find t ys ≡ find a (filter b ys) → find t (y ∷ ys) ≡ find a (filter b (y ∷ ys))
seek_by t a b y ys e true true f g ih = rw (e, g, f) refl
seek_by t a b y ys e true false f g ih = rw (e, g, f) ih
seek_by t a b y ys e false true f g ih = rw (e, g, f) ih
seek_by t a b y ys e false false f g ih = rw (e, g, f) ih

pub seek : {Y : Type 0} (t a b : Y → Bool) (ys : List Y) → ((y : Y) → t y ≡ (a y && b y)) → find t ys ≡ find a (filter b ys)
seek t a b [] e = refl
seek t a b (y ∷ ys) e = seek_by t a b y ys (e y) (a y) (b y) refl refl (seek t a b ys e)

seek_map_by : {X Y : Type 0} (a : Y → Bool) (f : X → Y) (x : X) (xs : List X) → (b : Bool) → a (f x) ≡ b
    → find a (map f xs) ≡ option_map f (find (λ x. a (f x)) xs) → find a (map f (x ∷ xs)) ≡ option_map f (find (λ x. a (f x)) (x ∷ xs))
seek_map_by a f x xs true e ih = rw e refl
seek_map_by a f x xs false e ih = rw e ih

pub seek_map : {X Y : Type 0} (a : Y → Bool) (f : X → Y) (xs : List X) → find a (map f xs) ≡ option_map f (find (λ x. a (f x)) xs)
seek_map a f [] = refl
seek_map a f (x ∷ xs) = seek_map_by a f x xs (a (f x)) refl (seek_map a f xs)

any_seek_by : {Y : Type 0} (t a b : Y → Bool) (y : Y) (ys : List Y) → t y ≡ (a y && b y) → (p q : Bool) → a y ≡ p → b y ≡ q
    → list_any t ys ≡ list_any a (filter b ys) → list_any t (y ∷ ys) ≡ list_any a (filter b (y ∷ ys))
any_seek_by t a b y ys e true true f g ih = rw (e, g, f) refl
any_seek_by t a b y ys e true false f g ih = rw (e, g, f) ih
any_seek_by t a b y ys e false true f g ih = rw (e, g, f) ih
any_seek_by t a b y ys e false false f g ih = rw (e, g, f) ih

-- whether one of them passes it
pub any_seek : {Y : Type 0} (t a b : Y → Bool) (ys : List Y) → ((y : Y) → t y ≡ (a y && b y)) → list_any t ys ≡ list_any a (filter b ys)
any_seek t a b [] e = refl
any_seek t a b (y ∷ ys) e = any_seek_by t a b y ys (e y) (a y) (b y) refl refl (any_seek t a b ys e)

pub any_map : {X Y : Type 0} (a : Y → Bool) (f : X → Y) (xs : List X) → list_any a (map f xs) ≡ list_any (λ x. a (f x)) xs
any_map a f [] = refl
any_map a f (x ∷ xs) = ap (λ (b : Bool). a (f x) || b) (any_map a f xs)

-- items of lines, each with its name
module _ {X Y : Type 0} (get : Line → List X) (g : Name → X → Y) (name_of : Y → Name) (named : (n : Name) (x : X) → name_of (g n x) ≡ n) where
  abbrev pub all_items : List Place → List Y
  all_items ps = flat_map (λ p. map (g p.name) (get p.queue)) ps

  abbrev pub of_name : Name → List Y → List Y
  of_name n ys = filter (λ y. name_eq (name_of y) n) ys

  kept_by : (n : Name) (y : Y) (ys : List Y) → name_eq (name_of y) n ≡ true → of_name n (y ∷ ys) ≡ y ∷ of_name n ys
  kept_by n y ys e = rw e refl

  left_by : (n : Name) (y : Y) (ys : List Y) → name_eq (name_of y) n ≡ false → of_name n (y ∷ ys) ≡ of_name n ys
  left_by n y ys e = rw e refl

  pub kept : (n m : Name) (xs : List X) → name_eq m n ≡ true → of_name n (map (g m) xs) ≡ map (g m) xs
  kept n m [] e = refl
  kept n m (x ∷ xs) e =
      kept_by n (g m x) (map (g m) xs) (ap (λ (k : Name). name_eq k n) (named m x) ∙ e) ∙ ap (λ (ys : List Y). g m x ∷ ys) (kept n m xs e)

  pub left : (n m : Name) (xs : List X) → name_eq m n ≡ false → of_name n (map (g m) xs) ≡ []
  left n m [] e = refl
  left n m (x ∷ xs) e = left_by n (g m x) (map (g m) xs) (ap (λ (k : Name). name_eq k n) (named m x) ∙ e) ∙ left n m xs e

  or_none : (a b : Bool) → (a || b) ≡ false → (a ≡ false) × (b ≡ false)
  or_none true b e = cc
  or_none false b e = (refl, e)

  pub none : (n : Name) (ps : List Place) → list_any (λ (k : Name). name_eq k n) (names ps) ≡ false → of_name n (all_items ps) ≡ []
  none n [] e = refl
  none n (p ∷ ps) e =
      let parts = or_none (name_eq p.name n) (list_any (λ (k : Name). name_eq k n) (names ps)) e in
      filter-append (λ y. name_eq (name_of y) n) (map (g p.name) (get p.queue)) (all_items ps)
      ∙ ap (λ (ys : List Y). ys ++ of_name n (all_items ps)) (left n p.name (get p.queue) parts.0)
      ∙ none n ps parts.1

  not_true : (b : Bool) → not b ≡ true → b ≡ false
  not_true true e = cc
  not_true false e = refl

  line_here : (p : Place) (ps : List Place) (n : Name) → name_eq p.name n ≡ true → line_at (p ∷ ps) n ≡ p.queue
  line_here p ps n e = rw e refl

  line_past : (p : Place) (ps : List Place) (n : Name) → name_eq p.name n ≡ false → line_at (p ∷ ps) n ≡ line_at ps n
  line_past p ps n e = rw e refl

  append_none : (ys : List Y) → ys ++ [] ≡ ys
  append_none [] = refl
  append_none (y ∷ ys) = ap (λ (zs : List Y). y ∷ zs) (append_none ys)

  split_by : (p : Place) (ps : List Place) (n : Name) (b : Bool) → name_eq p.name n ≡ b → list_any (λ (k : Name). name_eq k p.name) (names ps) ≡ false
      → of_name n (all_items ps) ≡ map (g n) (get (line_at ps n)) → of_name n (all_items (p ∷ ps)) ≡ map (g n) (get (line_at (p ∷ ps) n))
  split_by p ps n true e apart ih =
      let same : p.name ≡ n = name_is p.name n e in
      filter-append (λ y. name_eq (name_of y) n) (map (g p.name) (get p.queue)) (all_items ps)
      ∙ ap (λ (ys : List Y). ys ++ of_name n (all_items ps)) (kept n p.name (get p.queue) e)
      ∙ ap (λ (ys : List Y). map (g p.name) (get p.queue) ++ ys) (none n ps (subst (λ (m : Name). list_any (λ (k : Name). name_eq k m) (names ps) ≡ false) same apart))
      ∙ append_none (map (g p.name) (get p.queue))
      ∙ ap (λ (m : Name). map (g m) (get p.queue)) same
      ∙ ap (λ (l : Line). map (g n) (get l)) (sym (line_here p ps n e))
  split_by p ps n false e apart ih =
      filter-append (λ y. name_eq (name_of y) n) (map (g p.name) (get p.queue)) (all_items ps)
      ∙ ap (λ (ys : List Y). ys ++ of_name n (all_items ps)) (left n p.name (get p.queue) e)
      ∙ ih ∙ ap (λ (l : Line). map (g n) (get l)) (sym (line_past p ps n e))

  -- the items of a name are those of its line
  pub items_of : (ps : List Place) (n : Name) → get nobody ≡ [] → are_apart (names ps) ≡ true → of_name n (all_items ps) ≡ map (g n) (get (line_at ps n))
  items_of [] n e apart = ap (map (g n)) (sym e)
  items_of (p ∷ ps) n e apart =
      let parts = both (not (list_any (λ (k : Name). name_eq k p.name) (names ps))) (are_apart (names ps)) apart in
      split_by p ps n (name_eq p.name n) refl (not_true (list_any (λ (k : Name). name_eq k p.name) (names ps)) parts.0) (items_of ps n e parts.1)

-- the holds and the waits of a name
pub holds_of_name : (ps : List Place) (n : Name) → are_apart (names ps) ≡ true → filter (λ h. name_eq h.name n) (holds_in ps) ≡ map (named_hold n) (line_at ps n).holders
holds_of_name ps n apart = items_of (λ (q : Line). q.holders) named_hold (λ h. h.name) (λ m x. refl) ps n refl apart

pub waits_of_name : (ps : List Place) (n : Name) → are_apart (names ps) ≡ true → queue (waits_in ps) n ≡ map (named_wait n) (line_at ps n).waiters
waits_of_name ps n apart = items_of (λ (q : Line). q.waiters) named_wait (λ w. w.name) (λ m x. refl) ps n refl apart

pub is_hold : (c : Conn) (n : Name) (h : locks.Hold) → locks.is_hold_of c n h ≡ (conn_eq h.conn c && name_eq h.name n)
unfolding locks.is_hold_of
is_hold c n h = refl

-- the connection's hold on the name
pub hold_of_name : (ps : List Place) (c : Conn) (n : Name) → are_apart (names ps) ≡ true
    → locks.hold_on (holds_in ps) c n ≡ option_map (named_hold n) (hold_of (line_at ps n).holders c)
hold_of_name ps c n apart =
    seek (locks.is_hold_of c n) (λ h. conn_eq h.conn c) (λ h. name_eq h.name n) (holds_in ps) (is_hold c n)
    ∙ ap (find (λ (h : locks.Hold). conn_eq h.conn c)) (holds_of_name ps n apart)
    ∙ seek_map (λ (h : locks.Hold). conn_eq h.conn c) (named_hold n) (line_at ps n).holders

-- the table of a name is that of the head whose indexes were kept
pub table_like : (head : Head) (n : Name) → table_in (map (λ (d : IndexDef). d.table) head.indexes) n ≡ table_of head n
table_like head (Table t) = refl
table_like head (Row t r) = refl
table_like head (Key i v) = slice_get-map (λ (d : IndexDef). d.table) head.indexes i.0
table_like head (End i) = slice_get-map (λ (d : IndexDef). d.table) head.indexes i.0

covers_by : (n : Name) (m : Mode) (o : Option Hold) (r : Option locks.Hold) → option_map (named_hold n) o ≡ r
    → option_map_or (λ (h : Hold). covers h.mode m) o false ≡ option_map_or (λ (a : Mode). covers a m) (option_map (λ (h : locks.Hold). h.mode) r) false
covers_by n m None r e = rw (sym e) refl
covers_by n m (Some h) r e = rw (sym e) refl

-- what the own table lock covers
pub covered_shown : (l : Ledger) (head : Head) (hs : List locks.Hold) (c : Conn) (n : Name) (m : Mode)
    → ((k : Name) → option_map (named_hold k) (hold_of (line_at l.places k).holders c) ≡ locks.hold_on hs c k)
    → l.index_tables ≡ map (λ (d : IndexDef). d.table) head.indexes → is_covered l c n m ≡ locks.is_covered head hs c n m
covered_shown l head hs c n m holds e =
    ap (λ (o : Option TableId). option_map_or (is_covered_on l.places c m) o false) (ap (λ (ts : List TableId). table_in ts n) e ∙ table_like head n) ∙ by (table_of head n)
  where
    by : (o : Option TableId) → option_map_or (is_covered_on l.places c m) o false ≡ option_map_or (locks.is_covered_on hs c m) o false
    by None = refl
    by (Some t) = covers_by (Table t) m (hold_of (line_at l.places (Table t)).holders c) (locks.hold_on hs c (Table t)) (holds (Table t))
