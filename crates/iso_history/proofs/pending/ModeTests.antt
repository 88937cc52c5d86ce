-- What the tables of modes say of locks for reading and for writing.
use Rattle.std.proofs.Common.{◌≡◌, Bool, true, false, not, ◌||◌, refl}
use Rattle.std.specs.List.{list_all}
use Rattle.iso_history.specs.Facts.{is_whole}
use Rattle.iso_history.specs.Requests.{table_mode}
use Rattle.iso_modes.proofs.Modes.{each, each-pair, mode_eq-is, modes}
use Rattle.iso_modes.specs.Modes.{at_least, compatible, covers, escalated, goes_with, joined, mode_eq, mode_number}
use Rattle.iso_modes.specs.declared.Mode.{Mode}
use Rattle.iso_modes.specs.declared.Mode.TheVariants.{Ix, Ns, S, U, X}

-- a then b, as a test
abbrev then : Bool → Bool → Bool
then a b = not a || b

then-is : (a b : Bool) → then a b ≡ true → a ≡ true → b ≡ true
then-is true b h e = h
then-is false b h e = cc

-- a join is at least what its first is
pub at_least-joined : (m a b : Mode) → at_least a m ≡ true → at_least (joined a b) m ≡ true
unfolding mode_number mode_eq joined at_least
at_least-joined m a b = then-is _ _ (each (λ z. then (at_least a z) (at_least (joined a b) z))
    (each-pair (λ x y. list_all (λ z. then (at_least x z) (at_least (joined x y) z)) modes) refl a b) m)

-- and at least what its second is
pub at_least-second : (m a b : Mode) → at_least b m ≡ true → at_least (joined a b) m ≡ true
unfolding mode_number mode_eq joined at_least
at_least-second m a b = then-is _ _ (each (λ z. then (at_least b z) (at_least (joined a b) z))
    (each-pair (λ x y. list_all (λ z. then (at_least y z) (at_least (joined x y) z)) modes) refl a b) m)

-- a mode that makes no X of what is not X
abbrev pub is_weak : Mode → Bool
is_weak m = mode_eq m Ns || mode_eq m S || mode_eq m U

pub weak-joined : (m a : Mode) → is_weak m ≡ true → at_least (joined a m) X ≡ true → at_least a X ≡ true
unfolding mode_number mode_eq joined at_least
weak-joined m a w = then-is _ _ (then-is _ _
    (each-pair (λ x y. then (is_weak x) (then (at_least (joined y x) X) (at_least y X))) refl m a) w)

-- and the join with it once more
pub weak-joined_twice : (m a : Mode) → is_weak m ≡ true → at_least (joined a (joined a m)) X ≡ true → at_least a X ≡ true
unfolding mode_number mode_eq joined at_least
weak-joined_twice m a w = then-is _ _ (then-is _ _
    (each-pair (λ x y. then (is_weak x) (then (at_least (joined y (joined y x)) X) (at_least y X))) refl m a) w)

pub weak-alone : (m : Mode) → is_weak m ≡ true → at_least m X ≡ true → ⊥
unfolding mode_number mode_eq joined at_least
weak-alone m w e = false-true (then-is (at_least m X) false (then-is (is_weak m) _ (each (λ x. then (is_weak x) (then (at_least x X) false)) refl m) w) e)
  where
    false-true : false ≡ true → ⊥
    false-true z = cc

-- an escalation's mode is whole, and the table's mode joined with it is that mode
pub whole-escalated : (k : Mode) → is_whole (escalated k) ≡ true
unfolding mode_number mode_eq joined at_least covers escalated
whole-escalated k = each (λ x. is_whole (escalated x)) refl k

pub escalated-joins : (k : Mode) → joined k (escalated k) ≡ escalated k
unfolding mode_number mode_eq joined escalated
escalated-joins k = mode_eq-is _ _ (each (λ x. mode_eq (joined x (escalated x)) (escalated x)) refl k)

pub whole-x : is_whole X ≡ true
unfolding mode_number mode_eq joined at_least covers
whole-x = refl

-- a lock that covers X goes on to, whatever it is joined with
pub covers-joined : (a b : Mode) → covers a X ≡ true → covers (joined a b) X ≡ true
unfolding mode_number mode_eq joined covers
covers-joined a b = then-is _ _ (each-pair (λ x y. then (covers x X) (covers (joined x y) X)) refl a b)

-- a whole lock of a writer covers X, and each whole lock is S or more
pub whole-writes : (k : Mode) → is_whole k ≡ true → at_least k Ix ≡ true → covers k X ≡ true
unfolding mode_number mode_eq joined at_least covers
whole-writes k h e = then-is _ _ (then-is _ _ (each (λ x. then (is_whole x) (then (at_least x Ix) (covers x X))) refl k) h) e

pub whole-reads : (k : Mode) → is_whole k ≡ true → at_least k S ≡ true
unfolding mode_number mode_eq joined at_least covers
whole-reads k h = then-is _ _ (each (λ x. then (is_whole x) (at_least x S)) refl k) h

pub x-least : at_least X X ≡ true
unfolding mode_number mode_eq joined at_least
x-least = refl

-- a writer's row lock and a reader's do not go together, nor do their table locks
pub rows-apart : (a b : Mode) → at_least a X ≡ true → at_least b Ns ≡ true → compatible a b ≡ false
unfolding mode_number mode_eq joined at_least goes_with compatible
rows-apart a b p q = not-is _ (then-is _ _ (then-is _ _ (each-pair (λ x y. then (at_least x X) (then (at_least y Ns) (not (compatible x y)))) refl a b) p) q)
  where
    not-is : (z : Bool) → not z ≡ true → z ≡ false
    not-is true e = cc
    not-is false e = refl

pub tables-apart : (a b : Mode) → at_least a Ix ≡ true → at_least b S ≡ true → compatible a b ≡ false
unfolding mode_number mode_eq joined at_least goes_with compatible
tables-apart a b p q = not-is _ (then-is _ _ (then-is _ _ (each-pair (λ x y. then (at_least x Ix) (then (at_least y S) (not (compatible x y)))) refl a b) p) q)
  where
    not-is : (z : Bool) → not z ≡ true → z ≡ false
    not-is true e = cc
    not-is false e = refl

-- a table lock that covers X goes with none under which a row lock stands
pub backing-apart : (a b m : Mode) → covers a X ≡ true → at_least b (table_mode m) ≡ true → compatible a b ≡ false
unfolding mode_number mode_eq joined at_least goes_with compatible covers table_mode
backing-apart a b m p q = not-is _ (then-is _ _ (then-is _ _ (each (λ z. then (covers a X) (then (at_least b (table_mode z)) (not (compatible a b))))
    (each-pair (λ x y. list_all (λ z. then (covers x X) (then (at_least y (table_mode z)) (not (compatible x y)))) modes) refl a b) m) p) q)
  where
    not-is : (z : Bool) → not z ≡ true → z ≡ false
    not-is true e = cc
    not-is false e = refl

-- a table lock that covers a reader's is S or more
pub covers-reads : (k m : Mode) → covers k m ≡ true → at_least m Ns ≡ true → at_least k S ≡ true
unfolding mode_number mode_eq joined at_least covers
covers-reads k m p q = then-is _ _ (then-is _ _ (each-pair (λ x y. then (covers x y) (then (at_least y Ns) (at_least x S))) refl k m) p) q

-- a writer's lock is a reader's too
pub x-reads : (m : Mode) → at_least m X ≡ true → at_least m Ns ≡ true
unfolding mode_number mode_eq joined at_least
x-reads m p = then-is _ _ (each (λ x. then (at_least x X) (at_least x Ns)) refl m) p

pub x-covers : (k : Mode) → covers k X ≡ true → at_least k S ≡ true
unfolding mode_number mode_eq joined at_least covers
x-covers k p = then-is _ _ (each (λ x. then (covers x X) (at_least x S)) refl k) p
