-- Modes that are at least another, and the mode in which a table is held.
use Rattle.std.proofs.Common.{◌≡◌, Bool, true, false, not, ◌&&◌, ◌||◌, List, refl, ap, sym, ◌∙◌, Some, None, Option}
use Rattle.std.specs.List.{list_all}
use Rattle.std.specs.Option.{option_map_or}
use Rattle.std.proofs.lemmas.Bool.{and_parts}
use Rattle.iso_history.proofs.locks.Holds.{held-other, held-own}
use Rattle.iso_history.proofs.locks.Same.{conn_is, name_is}
use Rattle.iso_history.specs.Facts.{suits_held}
use Rattle.iso_history.specs.Requests.{is_row_mode, is_table_mode, table_mode}
use Rattle.iso_modes.proofs.Modes.{each, each-pair, modes}
use Rattle.iso_modes.proofs.Table.{joined_associates, joined_same}
use Rattle.iso_modes.specs.Modes.{at_least, compatible, covers, escalated, goes_with, joined, mode_eq, mode_number}
use Rattle.iso_modes.specs.declared.Mode.{Mode}
use Rattle.iso_modes.specs.declared.Mode.TheVariants.{Ix, Ns, S, Six, X}
use Rattle.iso_queue.specs.Locks.{Hold, Request, added, held, holds_at_least}
use Rattle.iso_types.specs.Head.{table_of}
use Rattle.iso_types.specs.Ids.{conn_eq, name_eq}
use Rattle.iso_types.specs.declared.head.Head.{Head}
use Rattle.iso_types.specs.declared.value.Conn.{Conn}
use Rattle.iso_types.specs.declared.value.Name.{Name}
use Rattle.iso_types.specs.declared.value.Name.TheVariants.{End, Key, Row, Table}
use Rattle.iso_types.specs.declared.value.TableId.{TableId}

implied : (a b : Bool) → (not a || b) ≡ true → a ≡ true → b ≡ true
implied true b h e = h
implied false b h e = cc

-- what a mode is at least, a mode joined to it is
pub at_least-joined : (a m low : Mode) → at_least a low ≡ true → at_least (joined a m) low ≡ true
unfolding mode_number mode_eq joined at_least
at_least-joined a m low =
    implied _ _ (each (λ z. not (at_least a z) || at_least (joined a m) z)
    (each-pair (λ x y. list_all (λ z. not (at_least x z) || at_least (joined x y) z) modes) refl a m) low)

-- IX on a table is enough for all that is asked of its rows
pub at_least-table : (a m : Mode) → at_least a Ix ≡ true → at_least a (table_mode m) ≡ true
unfolding mode_number mode_eq joined at_least table_mode
at_least-table a m = implied _ _ (each-pair (λ x y. not (at_least x Ix) || at_least x (table_mode y)) refl a m)

-- what is enough for both is enough for their join
abbrev is_enough : Mode → Mode → Mode → Bool
is_enough t a b = not (at_least t (table_mode a)) || (not (at_least t (table_mode b)) || at_least t (table_mode (joined a b)))

-- what is enough for two modes is enough for their join
pub table_mode-joined : (t a b : Mode) → at_least t (table_mode a) ≡ true → at_least t (table_mode b) ≡ true → at_least t (table_mode (joined a b)) ≡ true
unfolding mode_number mode_eq joined at_least table_mode
table_mode-joined t a b h g =
    implied _ _ (implied _ _ (each (is_enough t a) (each-pair (λ x y. list_all (is_enough x y) modes) refl t a) b) h) g

-- the join of two modes that suit a name suits it
suits-joined : (n : Name) (a b : Mode) → suits_held n a ≡ true → suits_held n b ≡ true → suits_held n (joined a b) ≡ true
unfolding mode_number mode_eq joined is_row_mode is_table_mode
suits-joined n a b h g = implied _ _ (implied _ _ (go n) h) g
  where
    go : (k : Name) → (not (suits_held k a) || (not (suits_held k b) || suits_held k (joined a b))) ≡ true
    go (Table t) = each-pair (λ x y. not (suits_held (Table t) x) || (not (suits_held (Table t) y) || suits_held (Table t) (joined x y))) refl a b
    go (Row t r) = each-pair (λ x y. not (is_row_mode x) || (not (is_row_mode y) || is_row_mode (joined x y))) refl a b
    go (Key i v) = each-pair (λ x y. not (is_row_mode x) || (not (is_row_mode y) || is_row_mode (joined x y))) refl a b
    go (End i) = each-pair (λ x y. not (is_row_mode x) || (not (is_row_mode y) || is_row_mode (joined x y))) refl a b

-- the same of what is held
pub suits-target : (n : Name) (x : Option Mode) (m : Mode) → ((a : Mode) → x ≡ Some a → suits_held n a ≡ true) → suits_held n m ≡ true
    → suits_held n (option_map_or (λ h. joined h m) x m) ≡ true
suits-target n None m held e = e
suits-target n (Some a) m held e = suits-joined n a m (held a refl) e

-- X, and each mode that an escalation asks for, is a mode of tables
pub x_table : (t : TableId) → suits_held (Table t) X ≡ true
unfolding mode_number mode_eq is_table_mode
x_table t = refl

pub escalated-table : (t : TableId) (a : Mode) → suits_held (Table t) (escalated a) ≡ true
unfolding mode_number mode_eq is_table_mode escalated
escalated-table t a = each (λ x. suits_held (Table t) (escalated x)) refl a

-- a mode that suits a row or key name is a mode of rows
pub row-suits : (head : Head) (n : Name) (t : TableId) (m : Mode) → table_of head n ≡ Some t → suits_held n m ≡ true → is_row_mode m ≡ true
row-suits head (Table u) t m on e = cc
row-suits head (Row u r) t m on e = e
row-suits head (Key i v) t m on e = e
row-suits head (End i) t m on e = e

-- an escalation covers the rows of its table
abbrev escalation_covers : Mode → Mode → Bool
escalation_covers t a = not (is_row_mode a) || (not (at_least t (table_mode a)) || covers (joined t (escalated t)) a)

pub escalated-covers : (t a : Mode) → is_row_mode a ≡ true → at_least t (table_mode a) ≡ true → covers (joined t (escalated t)) a ≡ true
unfolding mode_number mode_eq joined at_least table_mode is_row_mode covers escalated
escalated-covers t a h g = implied _ _ (implied _ _ (each-pair escalation_covers refl t a) h) g

-- the modes in which tables are held
abbrev is_held_table : Mode → Bool
is_held_table m = is_table_mode m || mode_eq m Six

-- a table lock that is raised covers what it covered
abbrev raised_covers : Mode → Mode → Mode → Bool
raised_covers t a m = not (is_held_table t) || (not (is_held_table a) || (not (is_row_mode m) || (not (covers t m) || covers (joined t a) m)))

pub covers-joined : (t : TableId) (a b m : Mode) → suits_held (Table t) a ≡ true → suits_held (Table t) b ≡ true → is_row_mode m ≡ true → covers a m ≡ true
    → covers (joined a b) m ≡ true
unfolding mode_number mode_eq joined is_row_mode is_table_mode covers
covers-joined t a b m h g r e =
    implied _ _ (implied _ _ (implied _ _ (implied _ _ (each (raised_covers a b) (each-pair (λ x y. list_all (raised_covers x y) modes) refl a b) m) h) g) r) e

-- what a table lock does not cover, it does not cover joined with more
abbrev bare_joins : Mode → Mode → Mode → Bool
bare_joins t a m = not (is_row_mode m) || (not (not (covers t m)) || not (covers t (joined a m)))

pub covers-bare : (t a m : Mode) → is_row_mode m ≡ true → covers t m ≡ false → covers t (joined a m) ≡ false
unfolding mode_number mode_eq joined is_row_mode covers
covers-bare t a m r e =
    not-is _ (implied _ _ (implied _ _ (each (bare_joins t a) (each-pair (λ x y. list_all (bare_joins x y) modes) refl t a) m) r) (ap not e))
  where
    not-is : (b : Bool) → not b ≡ true → b ≡ false
    not-is true k = cc
    not-is false k = refl

-- what covers a mode covers each row mode that it is at least
abbrev lower_covers : Mode → Mode → Mode → Bool
lower_covers t a m = not (covers t a) || (not (at_least a m) || (not (is_row_mode m) || covers t m))

pub covers-lower : (t a m : Mode) → covers t a ≡ true → at_least a m ≡ true → is_row_mode m ≡ true → covers t m ≡ true
unfolding mode_number mode_eq joined at_least is_row_mode covers
covers-lower t a m h g r =
    implied _ _ (implied _ _ (implied _ _ (each (lower_covers t a) (each-pair (λ x y. list_all (lower_covers x y) modes) refl t a) m) h) g) r

-- the modes of a reader and a writer of one row, each by its table's lock or its own, do not go together
abbrev apart_by_tables : Mode → Mode → Bool
apart_by_tables a b = not (covers a Ns) || (not (covers b X) || not (compatible a b))

pub tables-apart : (a b : Mode) → covers a Ns ≡ true → covers b X ≡ true → not (compatible a b) ≡ true
unfolding mode_number mode_eq goes_with compatible covers
tables-apart a b h g = implied _ _ (implied _ _ (each-pair apart_by_tables refl a b) h) g

abbrev apart_by_writer : Mode → Mode → Mode → Bool
apart_by_writer a b y = not (covers a Ns) || (not (at_least y X) || (not (is_row_mode y) || (not (at_least b (table_mode y)) || not (compatible a b))))

pub writer-apart : (a b y : Mode) → covers a Ns ≡ true → at_least y X ≡ true → is_row_mode y ≡ true → at_least b (table_mode y) ≡ true
    → not (compatible a b) ≡ true
unfolding mode_number mode_eq joined at_least goes_with compatible covers table_mode is_row_mode
writer-apart a b y h g r e =
    implied _ _ (implied _ _ (implied _ _ (implied _ _
    (each (apart_by_writer a b) (each-pair (λ u v. list_all (apart_by_writer u v) modes) refl a b) y) h) g) r) e

abbrev apart_by_reader : Mode → Mode → Mode → Bool
apart_by_reader a b x = not (at_least a (table_mode x)) || (not (covers b X) || not (compatible a b))

pub reader-apart : (a b x : Mode) → at_least a (table_mode x) ≡ true → covers b X ≡ true → not (compatible a b) ≡ true
unfolding mode_number mode_eq joined at_least goes_with compatible covers table_mode
reader-apart a b x h g =
    implied _ _ (implied _ _ (each (apart_by_reader a b) (each-pair (λ u v. list_all (apart_by_reader u v) modes) refl a b) x) h) g

abbrev apart_by_rows : Mode → Mode → Bool
apart_by_rows x y = not (at_least x Ns) || (not (at_least y X) || not (compatible x y))

pub rows-apart : (x y : Mode) → at_least x Ns ≡ true → at_least y X ≡ true → not (compatible x y) ≡ true
unfolding mode_number mode_eq joined at_least goes_with compatible
rows-apart x y h g = implied _ _ (implied _ _ (each-pair apart_by_rows refl x y) h) g

-- who reads a whole table, and who writes in it
abbrev apart_on_table : Mode → Mode → Bool
apart_on_table a b = not (at_least a S) || (not (at_least b Ix) || not (compatible a b))

pub table-apart : (a b : Mode) → at_least a S ≡ true → at_least b Ix ≡ true → not (compatible a b) ≡ true
unfolding mode_number mode_eq joined at_least goes_with compatible
table-apart a b h g = implied _ _ (implied _ _ (each-pair apart_on_table refl a b) h) g

-- what a writer's table is held in
pub covers-ix : (a : Mode) → covers a X ≡ true → at_least a Ix ≡ true
unfolding mode_number mode_eq joined at_least covers
covers-ix a = implied _ _ (each (λ x. not (covers x X) || at_least x Ix) refl a)

abbrev backs_writer : Mode → Mode → Bool
backs_writer b y = not (at_least y X) || (not (is_row_mode y) || (not (at_least b (table_mode y)) || at_least b Ix))

pub writer-ix : (b y : Mode) → at_least y X ≡ true → is_row_mode y ≡ true → at_least b (table_mode y) ≡ true → at_least b Ix ≡ true
unfolding mode_number mode_eq joined at_least table_mode is_row_mode
writer-ix b y h g e = implied _ _ (implied _ _ (implied _ _ (each-pair backs_writer refl b y) h) g) e

-- what writes reads as well
pub covers-less : (a : Mode) → covers a X ≡ true → covers a Ns ≡ true
unfolding covers
covers-less a = implied _ _ (each (λ x. not (covers x X) || covers x Ns) refl a)

pub at_least-less : (a : Mode) → at_least a X ≡ true → at_least a Ns ≡ true
unfolding mode_number mode_eq joined at_least
at_least-less a = implied _ _ (each (λ x. not (at_least x X) || at_least x Ns) refl a)

-- joined twice is joined once
pub joined-twice : (a m : Mode) → joined a (joined a m) ≡ joined a m
joined-twice a m = sym (joined_associates a a m) ∙ ap (λ (x : Mode). joined x m) (joined_same a)

-- a table that is held enough for two modes is held enough for their join
pub enough-joined : (x : Option Mode) (a b : Mode) → option_map_or (λ z. at_least z (table_mode a)) x false ≡ true
    → option_map_or (λ z. at_least z (table_mode b)) x false ≡ true → option_map_or (λ z. at_least z (table_mode (joined a b))) x false ≡ true
enough-joined None a b p q = cc
enough-joined (Some z) a b p q = table_mode-joined z a b p q

module _ (c : Conn) (r : Request) (hs : List Hold) where
  -- a request lowers no mode
  pub at_least-added : (d : Conn) (n : Name) (low : Mode) → holds_at_least hs d n low ≡ true → holds_at_least (added hs c r) d n low ≡ true
  at_least-added d n low e = go (conn_eq c d && name_eq r.name n) refl
    where
      own : (x : Option Mode) → option_map_or (λ m. at_least m low) x false ≡ true
          → at_least (option_map_or (λ h. joined h r.mode) x r.mode) low ≡ true
      own None k = cc
      own (Some a) k = at_least-joined a r.mode low k

      go : (b : Bool) → (conn_eq c d && name_eq r.name n) ≡ b → holds_at_least (added hs c r) d n low ≡ true
      go true k =
          let p = and_parts _ _ k in
          let x : c ≡ d = conn_is c d p.0 in
          let y : r.name ≡ n = name_is r.name n p.1 in
          let old : holds_at_least hs c r.name low ≡ true =
          ap (λ (z : Conn). holds_at_least hs z r.name low) x ∙ ap (λ (z : Name). holds_at_least hs d z low) y ∙ e in
          let new : holds_at_least (added hs c r) c r.name low ≡ true =
          ap (λ (z : Option Mode). option_map_or (λ m. at_least m low) z false) (held-own c r hs) ∙ own (held hs c r.name) old in
          ap (λ (z : Conn). holds_at_least (added hs c r) z n low) (sym x) ∙ ap (λ (z : Name). holds_at_least (added hs c r) c z low) (sym y) ∙ new
      go false k = ap (λ (z : Option Mode). option_map_or (λ m. at_least m low) z false) (held-other c r d n k hs) ∙ e
