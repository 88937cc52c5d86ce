-- Modes that stay: what a join leaves of them, and which are refused beside which.
use Rattle.std.proofs.Common.{◌≡◌, Bool, true, false, not, ◌&&◌, ◌||◌, refl}
use Rattle.iso_history.specs.Gaps.{fits_name}
use Rattle.iso_history.specs.Requests.{is_row_mode, table_mode}
use Rattle.iso_modes.proofs.Modes.{each, each-pair}
use Rattle.iso_modes.specs.Modes.{at_least, compatible, covers, escalated, goes_with, joined, mode_eq, mode_number}
use Rattle.iso_modes.specs.declared.Mode.{Mode}
use Rattle.iso_modes.specs.declared.Mode.TheVariants.{Is, Ix, Ns, Nw, S, U, X}
use Rattle.iso_types.specs.declared.value.Name.{Name}
use Rattle.iso_types.specs.declared.value.Name.TheVariants.{End, Key, Row, Table}

-- from a test of both premises and what follows
follows : (a b c : Bool) → (not a || (not b || c)) ≡ true → a ≡ true → b ≡ true → c ≡ true
follows true true c e p q = e
follows true false c e p q = cc
follows false b c e p q = cc

follows_one : (a b : Bool) → (not a || b) ≡ true → a ≡ true → b ≡ true
follows_one true b e p = e
follows_one false b e p = cc

abbrev pub is_guard : Mode → Bool
is_guard m = mode_eq m S || mode_eq m Nw

abbrev pub is_table_hold : Mode → Bool
is_table_hold m = not (mode_eq m Ns || (mode_eq m U || mode_eq m Nw))

-- S and NW join to S or NW
pub guard-joined : (a b : Mode) → is_guard a ≡ true → is_guard b ≡ true → is_guard (joined a b) ≡ true
unfolding mode_eq mode_number joined
guard-joined a b = follows (is_guard a) (is_guard b) (is_guard (joined a b))
    (each-pair (λ x y. not (is_guard x) || (not (is_guard y) || is_guard (joined x y))) refl a b)

-- S or more stays so
pub least-joined : (a b : Mode) → at_least a S ≡ true → at_least (joined a b) S ≡ true
unfolding at_least mode_eq mode_number joined
least-joined a b = follows_one (at_least a S) (at_least (joined a b) S) (each-pair (λ x y. not (at_least x S) || at_least (joined x y) S) refl a b)

-- what is joined with S or more is S or more
pub joined-least : (a b : Mode) → at_least b S ≡ true → at_least (joined a b) S ≡ true
unfolding at_least mode_eq mode_number joined
joined-least a b = follows_one (at_least b S) (at_least (joined a b) S) (each-pair (λ x y. not (at_least y S) || at_least (joined x y) S) refl a b)

-- what covers S stays so, by modes of tables
pub cover-joined : (a b : Mode) → covers a S ≡ true → is_table_hold b ≡ true → covers (joined a b) S ≡ true
unfolding covers mode_eq mode_number joined
cover-joined a b = follows (covers a S) (is_table_hold b) (covers (joined a b) S)
    (each-pair (λ x y. not (covers x S) || (not (is_table_hold y) || covers (joined x y) S)) refl a b)

-- what is joined with what covers S covers S
pub joined-cover : (a b : Mode) → covers b S ≡ true → is_table_hold a ≡ true → covers (joined a b) S ≡ true
unfolding covers mode_eq mode_number joined
joined-cover a b = follows (covers b S) (is_table_hold a) (covers (joined a b) S)
    (each-pair (λ x y. not (covers y S) || (not (is_table_hold x) || covers (joined x y) S)) refl a b)

-- what an escalation comes to covers S
pub cover-escalated : (a : Mode) → covers (joined a (escalated a)) S ≡ true
unfolding covers joined escalated
cover-escalated a = each (λ x. covers (joined x (escalated x)) S) refl a

table-joined : (a b : Mode) → is_table_hold a ≡ true → is_table_hold b ≡ true → is_table_hold (joined a b) ≡ true
unfolding mode_eq mode_number joined
table-joined a b = follows (is_table_hold a) (is_table_hold b) (is_table_hold (joined a b))
    (each-pair (λ x y. not (is_table_hold x) || (not (is_table_hold y) || is_table_hold (joined x y))) refl a b)

row-joined : (a b : Mode) → is_row_mode a ≡ true → is_row_mode b ≡ true → is_row_mode (joined a b) ≡ true
unfolding is_row_mode joined
row-joined a b = follows (is_row_mode a) (is_row_mode b) (is_row_mode (joined a b))
    (each-pair (λ x y. not (is_row_mode x) || (not (is_row_mode y) || is_row_mode (joined x y))) refl a b)

-- modes that fit join to modes that fit
pub fits-joined : (n : Name) (a b : Mode) → fits_name n a ≡ true → fits_name n b ≡ true → fits_name n (joined a b) ≡ true
fits-joined (Table t) = table-joined
fits-joined (Row t r) = row-joined
fits-joined (Key i v) = guard-joined
fits-joined (End i) = guard-joined

-- S or more does not go with X or more, of row modes
pub least-not-x : (a b : Mode) → at_least a S ≡ true → (at_least b X && is_row_mode b) ≡ true → compatible a b ≡ false
unfolding at_least mode_eq mode_number joined is_row_mode compatible goes_with
least-not-x a b p q = go (compatible a b)
    (follows (at_least a S) (at_least b X && is_row_mode b) (not (compatible a b))
    (each-pair (λ x y. not (at_least x S) || (not (at_least y X && is_row_mode y) || not (compatible x y))) refl a b) p q)
  where
    go : (c : Bool) → not c ≡ true → c ≡ false
    go false e = refl
    go true e = cc

not_true : (c : Bool) → not c ≡ true → c ≡ false
not_true false e = refl
not_true true e = cc

-- a lock that covers S does not go with IX or more
pub cover-not-ix : (a b : Mode) → covers a S ≡ true → at_least b Ix ≡ true → compatible a b ≡ false
unfolding at_least mode_eq mode_number joined covers compatible goes_with
cover-not-ix a b p q = not_true (compatible a b)
    (follows (covers a S) (at_least b Ix) (not (compatible a b))
    (each-pair (λ x y. not (covers x S) || (not (at_least y Ix) || not (compatible x y))) refl a b) p q)

-- a lock that covers X does not go with IS or more, or with one that covers S
pub x-not-is : (a b : Mode) → at_least a Is ≡ true → covers b X ≡ true → compatible a b ≡ false
unfolding at_least mode_eq mode_number joined covers compatible goes_with
x-not-is a b p q = not_true (compatible a b)
    (follows (at_least a Is) (covers b X) (not (compatible a b))
    (each-pair (λ x y. not (at_least x Is) || (not (covers y X) || not (compatible x y))) refl a b) p q)

-- what a row held in S or more asks of the table, and one held in X
pub table_mode-is : (a b : Mode) → at_least b (table_mode a) ≡ true → at_least b Is ≡ true
unfolding at_least mode_eq mode_number joined table_mode
table_mode-is a b = follows_one (at_least b (table_mode a)) (at_least b Is) (each-pair (λ x y. not (at_least y (table_mode x)) || at_least y Is) refl a b)

-- X on a row asks for IX on the table
pub table_mode-ix : (a b : Mode) → (at_least a X && is_row_mode a) ≡ true → at_least b (table_mode a) ≡ true → at_least b Ix ≡ true
unfolding at_least mode_eq mode_number joined table_mode is_row_mode
table_mode-ix a b = follows (at_least a X && is_row_mode a) (at_least b (table_mode a)) (at_least b Ix)
    (each-pair (λ x y. not (at_least x X && is_row_mode x) || (not (at_least y (table_mode x)) || at_least y Ix)) refl a b)

pub least-x-s : (a : Mode) → at_least a X ≡ true → at_least a S ≡ true
unfolding at_least mode_eq mode_number joined
least-x-s a = follows_one (at_least a X) (at_least a S) (each (λ x. not (at_least x X) || at_least x S) refl a)

pub cover-x-s : (a : Mode) → covers a X ≡ true → covers a S ≡ true
unfolding covers
cover-x-s a = follows_one (covers a X) (covers a S) (each (λ x. not (covers x X) || covers x S) refl a)

pub cover-x-ix : (a : Mode) → covers a X ≡ true → at_least a Ix ≡ true
unfolding covers at_least mode_eq mode_number joined
cover-x-ix a = follows_one (covers a X) (at_least a Ix) (each (λ x. not (covers x X) || at_least x Ix) refl a)

-- the mode of an escalation covers S
pub cover-of-escalated : (a : Mode) → covers (escalated a) S ≡ true
unfolding covers escalated
cover-of-escalated a = each (λ x. covers (escalated x) S) refl a

pub cover-of-x : covers X S ≡ true
unfolding covers
cover-of-x = refl

-- what covers U covers S
pub cover-u-s : (a : Mode) → covers a U ≡ true → covers a S ≡ true
unfolding covers
cover-u-s a = follows_one (covers a U) (covers a S) (each (λ x. not (covers x U) || covers x S) refl a)

pub least-s : at_least S S ≡ true
unfolding at_least mode_eq mode_number joined
least-s = refl

pub least-u : at_least U S ≡ true
unfolding at_least mode_eq mode_number joined
least-u = refl

-- S or more on a table covers S
pub least-covers : (a : Mode) → at_least a S ≡ true → is_table_hold a ≡ true → covers a S ≡ true
unfolding covers at_least mode_eq mode_number joined
least-covers a = follows (at_least a S) (is_table_hold a) (covers a S) (each (λ x. not (at_least x S) || (not (is_table_hold x) || covers x S)) refl a)

-- NS or more does not go with X or more, of row modes
pub ns-not-x : (a b : Mode) → at_least a Ns ≡ true → (at_least b X && is_row_mode b) ≡ true → compatible a b ≡ false
unfolding at_least mode_eq mode_number joined is_row_mode compatible goes_with
ns-not-x a b p q = not_true (compatible a b) (follows (at_least a Ns) (at_least b X && is_row_mode b) (not (compatible a b))
    (each-pair (λ x y. not (at_least x Ns) || (not (at_least y X && is_row_mode y) || not (compatible x y))) refl a b) p q)

-- S or more is NS or more
pub least-s-ns : (a : Mode) → at_least a S ≡ true → at_least a Ns ≡ true
unfolding at_least mode_eq mode_number joined
least-s-ns a = follows_one (at_least a S) (at_least a Ns) (each (λ x. not (at_least x S) || at_least x Ns) refl a)

-- NS or more stays so
pub ns-joined : (a b : Mode) → at_least a Ns ≡ true → at_least (joined a b) Ns ≡ true
unfolding at_least mode_eq mode_number joined
ns-joined a b = follows_one (at_least a Ns) (at_least (joined a b) Ns) (each-pair (λ x y. not (at_least x Ns) || at_least (joined x y) Ns) refl a b)

-- what is joined with NS or more is NS or more
pub joined-ns : (a b : Mode) → at_least b Ns ≡ true → at_least (joined a b) Ns ≡ true
unfolding at_least mode_eq mode_number joined
joined-ns a b = follows_one (at_least b Ns) (at_least (joined a b) Ns) (each-pair (λ x y. not (at_least y Ns) || at_least (joined x y) Ns) refl a b)

-- NS, S and U are
pub least-ns : at_least Ns Ns ≡ true
unfolding at_least mode_eq mode_number joined
least-ns = refl

pub least-s-is : at_least S Ns ≡ true
unfolding at_least mode_eq mode_number joined
least-s-is = refl

pub least-u-is : at_least U Ns ≡ true
unfolding at_least mode_eq mode_number joined
least-u-is = refl

-- what covers NS, or U, covers S
pub cover-ns-s : (a : Mode) → covers a Ns ≡ true → covers a S ≡ true
unfolding covers
cover-ns-s a = follows_one (covers a Ns) (covers a S) (each (λ x. not (covers x Ns) || covers x S) refl a)
