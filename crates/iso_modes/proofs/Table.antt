-- The laws of the table, each computed over all modes.
use Rattle.std.proofs.Common.{◌≡◌, Bool, true, false, ◌&&◌, [], refl, sym, ◌∙◌, get_or}
use Rattle.std.specs.List.{list_all}
use Rattle.iso_modes.specs.declared.Mode.{Mode}
use Rattle.iso_modes.specs.declared.Mode.TheVariants.{In}
use Rattle.iso_modes.specs.declared.tables.TheConstants.{JOINS, TOGETHER}
use Rattle.iso_modes.specs.Modes.{IsJoin, at_least, compatible, goes_with, joined, mode_eq, mode_number}
use Rattle.iso_modes.proofs.Modes.{all-of, each, each-pair, mode_eq-is, modes, same, same-is, same-of}

-- the program's table is the definition
pub together_is : (a b : Mode) → get_or (get_or TOGETHER (mode_number a) []) (mode_number b) false ≡ compatible a b
unfolding mode_number mode_eq goes_with compatible
together_is a b =
    same-is _ _ (each-pair (λ x y. same (get_or (get_or TOGETHER (mode_number x) []) (mode_number y) false) (compatible x y)) refl a b)

-- the program's table of joins is the definition
pub joins_is : (a b : Mode) → get_or (get_or JOINS (mode_number a) []) (mode_number b) In ≡ joined a b
unfolding mode_number mode_eq joined
joins_is a b =
    mode_eq-is _ _ (each-pair (λ x y. mode_eq (get_or (get_or JOINS (mode_number x) []) (mode_number y) In) (joined x y)) refl a b)

-- the relation is symmetric
pub symmetric : (a b : Mode) → compatible a b ≡ compatible b a
unfolding mode_number mode_eq goes_with compatible
symmetric a b = same-is _ _ (each-pair (λ x y. same (compatible x y) (compatible y x)) refl a b)

-- the joined mode goes with exactly the modes that go with both
pub joined_is : (a b m : Mode) → compatible (joined a b) m ≡ (compatible a m && compatible b m)
unfolding mode_number mode_eq goes_with compatible joined
joined_is a b m =
    same-is _ _ (each (λ z. same (compatible (joined a b) z) (compatible a z && compatible b z))
    (each-pair (λ x y. list_all (λ z. same (compatible (joined x y) z) (compatible x z && compatible y z)) modes) refl a b) m)

-- the two modes go with the same modes
abbrev alike : Mode → Mode → Bool
alike a b = list_all (λ m. same (compatible a m) (compatible b m)) modes

alike-is : (a b : Mode) → mode_eq a b ≡ alike a b
unfolding mode_number mode_eq goes_with compatible
alike-is a b = same-is _ _ (each-pair (λ x y. same (mode_eq x y) (alike x y)) refl a b)

-- modes that go with the same modes are the same
pub only : (a b : Mode) → ((m : Mode) → compatible a m ≡ compatible b m) → a ≡ b
only a b h = mode_eq-is a b (alike-is a b ∙ all-of _ (λ m. same-of _ _ (h m)))

-- there is no other join
pub join_only : (a b m : Mode) → IsJoin m a b → m ≡ joined a b
unfolding IsJoin
join_only a b m h = only m (joined a b) (λ x. h x ∙ sym (joined_is a b x))

-- the joined mode is a join
pub join_is : (a b : Mode) → IsJoin (joined a b) a b
unfolding IsJoin
join_is a b = joined_is a b

-- who goes with the join goes with both, and the other way round
pub goes_with_both : (a b m : Mode) → compatible m (joined a b) ≡ (compatible m a && compatible m b)
goes_with_both a b m = symmetric m (joined a b) ∙ rw (joined_is a b m, symmetric m a, symmetric m b) refl

pub joined_commutes : (a b : Mode) → joined a b ≡ joined b a
unfolding mode_number mode_eq joined
joined_commutes a b = mode_eq-is _ _ (each-pair (λ x y. mode_eq (joined x y) (joined y x)) refl a b)

pub joined_associates : (a b m : Mode) → joined (joined a b) m ≡ joined a (joined b m)
unfolding mode_number mode_eq joined
joined_associates a b m =
    mode_eq-is _ _ (each (λ z. mode_eq (joined (joined a b) z) (joined a (joined b z)))
    (each-pair (λ x y. list_all (λ z. mode_eq (joined (joined x y) z) (joined x (joined y z))) modes) refl a b) m)

pub joined_same : (a : Mode) → joined a a ≡ a
unfolding mode_number mode_eq joined
joined_same a = mode_eq-is _ _ (each (λ x. mode_eq (joined x x) x) refl a)

pub at_least_first : (a b : Mode) → at_least (joined a b) a ≡ true
unfolding mode_number mode_eq joined at_least
at_least_first a b = each-pair (λ x y. at_least (joined x y) x) refl a b

pub at_least_second : (a b : Mode) → at_least (joined a b) b ≡ true
unfolding mode_number mode_eq joined at_least
at_least_second a b = each-pair (λ x y. at_least (joined x y) y) refl a b

pub joined_unit_left : (a : Mode) → joined In a ≡ a
unfolding joined
joined_unit_left a = refl

pub joined_unit_right : (a : Mode) → joined a In ≡ a
unfolding joined mode_number mode_eq
joined_unit_right a = mode_eq-is _ _ (each (λ x. mode_eq (joined x In) x) refl a)
