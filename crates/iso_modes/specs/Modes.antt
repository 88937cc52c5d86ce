-- The modes of locks: which go together, and what two of them come to.
use Rattle.std.specs.List.{list_any}
use Rattle.std.specs.Prelude.{◌≡◌, ℕ, Bool, true, false, ◌&&◌, List, [], ◌∷◌, ◌==◌}
use Rattle.iso_modes.specs.declared.Mode.{Mode}
use Rattle.iso_modes.specs.declared.Mode.TheVariants.{In, Is, Ix, Ns, Nw, S, Six, U, X, Z}

-- the place of a mode in the table
unfoldable pub mode_number : Mode → ℕ
mode_number In = 0
mode_number Is = 1
mode_number Ns = 2
mode_number S = 3
mode_number Ix = 4
mode_number Six = 5
mode_number U = 6
mode_number X = 7
mode_number Nw = 8
mode_number Z = 9

-- the modes are the same
unfoldable pub mode_eq : Mode → Mode → Bool
mode_eq a b = mode_number a == mode_number b

-- the modes that a mode goes with
-- (Db2 LUW, 'Lock type compatibility'; the entries of U and NW are this project's own)
unfoldable pub goes_with : Mode → List Mode
goes_with In = In ∷ Is ∷ Ns ∷ S ∷ Ix ∷ Six ∷ U ∷ X ∷ Nw ∷ []
goes_with Is = In ∷ Is ∷ Ns ∷ S ∷ Ix ∷ Six ∷ U ∷ []
goes_with Ns = In ∷ Is ∷ Ns ∷ S ∷ U ∷ Nw ∷ []
goes_with S = In ∷ Is ∷ Ns ∷ S ∷ U ∷ []
goes_with Ix = In ∷ Is ∷ Ix ∷ []
goes_with Six = In ∷ Is ∷ []
goes_with U = In ∷ Is ∷ Ns ∷ S ∷ []
goes_with X = In ∷ []
goes_with Nw = In ∷ Ns ∷ []
goes_with Z = []

-- the two modes go together (Db2 LUW, 'Lock type compatibility')
unfoldable pub compatible : Mode → Mode → Bool
compatible a b = list_any (λ m. mode_eq m b) (goes_with a)

-- the mode goes with exactly the modes that go with both
-- (Db2 LUW, 'Lock conversion', for one mode that is at least the other; the rule for all pairs is this project's own)
unfoldable pub IsJoin : Mode → Mode → Mode → Type 0
IsJoin m a b = (x : Mode) → compatible m x ≡ (compatible a x && compatible b x)

-- the one mode that is the join of both, as a table (this project's own)
unfoldable pub joined : Mode → Mode → Mode
joined In b = b
joined a In = a
joined Z b = Z
joined a Z = Z
joined X b = X
joined a X = X
joined Is Is = Is
joined Is Ns = S
joined Is b = b
joined Ns Is = S
joined a Is = a
joined Ns Ns = Ns
joined Ns S = S
joined Ns Ix = Six
joined Ns Six = Six
joined Ns b = b
joined S Ns = S
joined Ix Ns = Six
joined Six Ns = Six
joined a Ns = a
joined S Ix = Six
joined S b = b
joined Ix S = Six
joined a S = a
joined Ix Ix = Ix
joined Ix Six = Six
joined Ix U = Six
joined Ix Nw = X
joined Six Nw = X
joined Six b = Six
joined U Ix = Six
joined U Six = Six
joined U b = b
joined Nw Ix = X
joined Nw Six = X
joined Nw U = Nw
joined Nw Nw = Nw

-- the first mode is the second one, or more (this project's own)
unfoldable pub at_least : Mode → Mode → Bool
at_least m low = mode_eq (joined m low) m

-- a table lock of the first mode covers a row or key lock of the second (this project's own)
unfoldable pub covers : Mode → Mode → Bool
covers S Ns = true
covers S S = true
covers Six Ns = true
covers Six S = true
covers X m = true
covers Z m = true
covers _ _ = false

-- the mode that an escalation asks for on a table held in this mode
-- (Db2 LUW, 'Lock escalation'; the modes are this project's own)
unfoldable pub escalated : Mode → Mode
escalated Is = S
escalated S = S
escalated Z = Z
escalated _ = X
