-- In every prefix of a legal history two connections that hold one name hold modes that go together.
use Rattle.std.proofs.Common.{◌≡◌, ◌<◌, ◌≤◌, ℕ, zero, suc, Bool, true, false, not, List, [], ◌∷◌, length, take, get_or, refl, ap, ◌∙◌, arith, Some, find, count_by}
use Rattle.std.proofs.lemmas.Bool.{and_parts, not-true}
use Rattle.iso_history.proofs.facts.Sound.{locks-world}
use Rattle.iso_history.proofs.locks.Finds.{count-here, count-past, find-here, find-past}
use Rattle.iso_history.proofs.locks.Holds.{of-self}
use Rattle.iso_history.proofs.locks.Same.{name_is}
use Rattle.iso_history.specs.After.{after, start}
use Rattle.iso_history.specs.Facts.{AreSingle, GoTogether}
use Rattle.iso_history.specs.Guards.{AreCompatible, HoldsGuarded, world_at}
use Rattle.iso_history.specs.Legal.{Ground, GroundFrom}
use Rattle.iso_history.specs.World.{World}
use Rattle.iso_history.specs.declared.entry.Entry.{Entry}
use Rattle.iso_queue.specs.Locks.{Hold, hold_on, is_hold_of}
use Rattle.iso_types.specs.Ids.{conn_eq, name_eq}
use Rattle.iso_types.specs.declared.head.Head.{Head}

-- a prefix of a legal history is one
GroundFrom-take : (head : Head) (w : World) (es : List Entry) (k : ℕ) → GroundFrom head w es → GroundFrom head w (take k es)
unfolding GroundFrom
GroundFrom-take head w es zero g = tt
GroundFrom-take head w [] (suc k) g = tt
GroundFrom-take head w (e ∷ es) (suc k) g = (g.0, GroundFrom-take head (after head w e) es k g.1)

pub Ground-take : (head : Head) (es : List Entry) (k : ℕ) → Ground head es → Ground head (take k es)
unfolding Ground
Ground-take head es k g = GroundFrom-take head (start head) es k g

-- one that passes is there, so it counts
counts-some : {A : Type 0} (p : A → Bool) (xs : List A) (i : ℕ) (d : A) → i < length xs → p (get_or xs i d) ≡ true → 1 ≤ count_by p xs
counts-some p [] i d lt e = absurd (omega arith)
counts-some p (x ∷ xs) zero d lt e = omega (arith, count-here p x xs e)
counts-some p (x ∷ xs) (suc i) d lt e = go (p x) refl (counts-some p xs i d (omega arith) e)
  where
    go : (b : Bool) → p x ≡ b → 1 ≤ count_by p xs → 1 ≤ count_by p (x ∷ xs)
    go true k ih = omega (arith, count-here p x xs k)
    go false k ih = omega (arith, count-past p x xs k)

-- where at most one passes, one that passes is found
single-found : {A : Type 0} (p : A → Bool) (xs : List A) (i : ℕ) (d : A) → count_by p xs ≤ 1 → i < length xs → p (get_or xs i d) ≡ true
    → find p xs ≡ Some (get_or xs i d)
single-found p [] i d one lt e = absurd (omega arith)
single-found p (x ∷ xs) zero d one lt e = find-here p x xs e
single-found p (x ∷ xs) (suc i) d one lt e = go (p x) refl (λ few. single-found p xs i d few (omega arith) e)
  where
    go : (b : Bool) → p x ≡ b → (count_by p xs ≤ 1 → find p xs ≡ Some (get_or xs i d)) → find p (x ∷ xs) ≡ Some (get_or xs i d)
    go true k ih =
        let some = counts-some p xs i d (omega arith) e in
        absurd (omega (arith, count-here p x xs k))
    go false k ih = find-past p x xs k ∙ ih (omega (arith, count-past p x xs k))

compatible-by : (hs : List Hold) → AreSingle hs → GoTogether hs → AreCompatible hs
unfolding AreSingle GoTogether
compatible-by hs one s i j d lt within e =
    let h = get_or hs i d in
    let g = get_or hs j d in
    let parts = and_parts (name_eq h.name g.name) (not (conn_eq h.conn g.conn)) e in
    let first : hold_on hs h.conn h.name ≡ Some h = single-found (is_hold_of h.conn h.name) hs i d (one h.conn h.name) (omega arith) (of-self h) in
    let second : hold_on hs g.conn g.name ≡ Some g = single-found (is_hold_of g.conn g.name) hs j d (one g.conn g.name) within (of-self g) in
    let named : hold_on hs g.conn h.name ≡ Some g = ap (hold_on hs g.conn) (name_is h.name g.name parts.0) ∙ second in
    s h.conn g.conn h.name h g (not-true _ parts.1) first named

-- the law of the holds
pub holds-guarded : (head : Head) (es : List Entry) → Ground head es → HoldsGuarded head es
holds-guarded head es g k =
    let s = locks-world head (take k es) (Ground-take head es k g) in
    compatible-by (world_at head es k).holds s.single s.together
