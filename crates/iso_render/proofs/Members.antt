-- Members of a cycle one by one.
use Rattle.std.proofs.Common.{◌≡◌, ℕ, ◌++◌, ◌+◌, List, [], ◌∷◌, drop, ap, Some, subst, sym, ◌∙◌, append_assoc, arith, zero, suc, refl}
use Rattle.std.specs.Prelude.{codes, map, slice_get}
use Rattle.iso_render.specs.Fields.{spaced}
use Rattle.iso_types.specs.declared.value.Conn.{Conn}

-- the member at a place stands first of what is left
member_there : (xs : List Conn) (i : ℕ) (x : Conn) → Some x ≡ slice_get xs i → drop i xs ≡ x ∷ drop (suc i) xs
member_there [] i x e = cc
member_there (y ∷ xs) zero x e = let s : x ≡ y = cc in rw s refl
member_there (y ∷ xs) (suc i) x e = member_there xs i x e

-- what is written with what is left, one member on
pub members_on : (name : Conn → List ℕ) (xs : List Conn) (i : ℕ) (x : Conn) (old new whole : List ℕ) → Some x ≡ slice_get xs i
    → new ≡ old ++ (codes " " ++ name x) → old ++ spaced (map name (drop i xs)) ≡ whole → new ++ spaced (map name (drop (i + 1) xs)) ≡ whole
members_on name xs i x old new whole g n w =
    let d = subst (λ l. old ++ spaced (map name l) ≡ whole) (member_there xs i x g) w in
    let next : i + 1 ≡ suc i = omega arith in
    rw (n, next) (append_assoc old _ _ ∙ d)
