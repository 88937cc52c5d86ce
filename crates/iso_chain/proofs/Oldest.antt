-- The oldest record that the units tell is that of the world.
use Rattle.std.proofs.Common.{◌≡◌, ◌<◌, ◌≤◌, ◌+◌, ℕ, zero, suc, Bool, true, false, List, [], ◌∷◌, length, map, min, refl, ap, ◌∙◌, arith, Some, None, Option, get_or}
use Rattle.std.specs.List.{list_any, position_or_len, range_with_len}
use Rattle.std.specs.Option.{option_map, option_map_or}
use Rattle.std.specs.Prelude.{◌==◌, unwrap_or}
use Rattle.std.proofs.lemmas.Bool.Decides.{nat_tests}
use Rattle.iso_history.specs.Linked.{first_from}
use Rattle.iso_history.specs.Records.{oldest}
use Rattle.iso_history.specs.World.{Note, World}
use Rattle.iso_types.specs.Head.{conns}
use Rattle.iso_types.specs.declared.head.Head.{Head}
use Rattle.iso_types.specs.declared.value.Conn.{Conn}
use Rattle.iso_uow.specs.Book.{lesser, oldest_of}
use Rattle.iso_uow.specs.declared.units.Work.{Work}
use Rattle.iso_chain.specs.Works.{WorksStand, work_of_unit}
use Rattle.iso_chain.proofs.Debts.{conn_at}

-- the first record of an open unit, from record k on
abbrev pub first_of : ℕ → List Note → Option ℕ → Option ℕ
first_of k notes None = None
first_of k notes (Some u) = first_from u k notes

-- the least of them
abbrev pub least_of : (Conn → Option ℕ) → ℕ → List Note → List Conn → Option ℕ
least_of unit k notes [] = None
least_of unit k notes (c ∷ cs) = lesser (first_of k notes (unit c)) (least_of unit k notes cs)

-- the units tell it
tells : (unit : Conn → Option ℕ) (notes : List Note) (i : ℕ) (works : List (Option Work))
    → ((k : ℕ) → k < length works → elim (get_or works k None) [ None ↦ None | Some x ↦ x.first ] ≡ first_of 0 notes (unit (conn_at (i + k))))
    → oldest_of works ≡ least_of unit 0 notes (map conn_at (range_with_len i (length works)))
tells unit notes i [] h = refl
tells unit notes i (o ∷ os) h =
    let here : elim o [ None ↦ None | Some x ↦ x.first ] ≡ first_of 0 notes (unit (conn_at i)) = h zero (omega arith)
    ∙ ap (λ z. first_of 0 notes (unit (conn_at z))) (omega arith) in
    let there = tells unit notes (i + 1) os (λ k lt. h (suc k) (omega arith) ∙ ap (λ z. first_of 0 notes (unit (conn_at z))) (omega arith)) in
    ap (λ z. lesser z (oldest_of os)) here ∙ ap (lesser (first_of 0 notes (unit (conn_at i)))) there

-- some unit is the note's
abbrev pub is_of : (Conn → Option ℕ) → List Conn → Note → Bool
is_of unit cs n = list_any (λ c. option_map_or (λ v. v == n.unit) (unit c) false) cs

-- a first record from k on is not below k
abbrev pub AtLeast : ℕ → Option ℕ → Type 0
AtLeast k None = Unit {0}
AtLeast k (Some m) = k ≤ m

from-least : (u k : ℕ) (notes : List Note) → AtLeast k (first_from u k notes)
from-least u k [] = tt
from-least u k (n ∷ ns) = go (n.unit == u) refl (from-least u (k + 1) ns)
  where
    less : (o : Option ℕ) → AtLeast (k + 1) o → AtLeast k o
    less None h = tt
    less (Some m) h = omega (arith, h)

    go : (b : Bool) → (n.unit == u) ≡ b → AtLeast (k + 1) (first_from u (k + 1) ns) → AtLeast k (first_from u k (n ∷ ns))
    go true e h = let le : k ≤ k = omega arith in rw e le
    go false e h = rw e (less (first_from u (k + 1) ns) h)

lesser-least : (k : ℕ) (a b : Option ℕ) → AtLeast k a → AtLeast k b → AtLeast k (lesser a b)
lesser-least k None b h l = l
lesser-least k (Some m) None h l = h
lesser-least k (Some m) (Some n) h l = let p : k ≤ min m n = grind (arith, h, l) in p

all-least : (unit : Conn → Option ℕ) (k : ℕ) (notes : List Note) (cs : List Conn) → AtLeast k (least_of unit k notes cs)
all-least unit k notes [] = tt
all-least unit k notes (c ∷ cs) = lesser-least k (first_of k notes (unit c)) (least_of unit k notes cs) (go (unit c)) (all-least unit k notes cs)
  where
    go : (o : Option ℕ) → AtLeast k (first_of k notes o)
    go None = tt
    go (Some u) = from-least u k notes

-- the least is k where it is k on one side
lesser-left : (k : ℕ) (b : Option ℕ) → AtLeast k b → lesser (Some k) b ≡ Some k
lesser-left k None l = refl
lesser-left k (Some n) l = let e : min k n ≡ k = grind (arith, l) in ap Some e

lesser-right : (k : ℕ) (a : Option ℕ) → AtLeast k a → lesser a (Some k) ≡ Some k
lesser-right k None l = refl
lesser-right k (Some n) l = let e : min n k ≡ k = grind (arith, l) in ap Some e

-- an open unit's note stands first
hit : (unit : Conn → Option ℕ) (k : ℕ) (n : Note) (ns : List Note) (cs : List Conn) → is_of unit cs n ≡ true → least_of unit k (n ∷ ns) cs ≡ Some k
hit unit k n ns [] h = absurd (cc)
hit unit k n ns (c ∷ cs) h = go (unit c) refl (hit unit k n ns cs)
  where
    others : (o : Option ℕ) → AtLeast k (first_of k (n ∷ ns) o)
    others None = tt
    others (Some u) = from-least u k (n ∷ ns)

    some : (u : ℕ) → (b : Bool) → (u == n.unit) ≡ b → unit c ≡ Some u → (is_of unit cs n ≡ true → least_of unit k (n ∷ ns) cs ≡ Some k)
        → lesser (first_from u k (n ∷ ns)) (least_of unit k (n ∷ ns) cs) ≡ Some k
    some u true t e rest = let q : (n.unit == u) ≡ true = grind (arith, nat_tests) in
        rw q (lesser-left k (least_of unit k (n ∷ ns) cs) (all-least unit k (n ∷ ns) cs))
    some u false t e rest =
        let later : is_of unit cs n ≡ true = rw (e, t) at h in
        ap (lesser (first_from u k (n ∷ ns))) (rest later) ∙ lesser-right k (first_from u k (n ∷ ns)) (from-least u k (n ∷ ns))

    go : (o : Option ℕ) → unit c ≡ o → (is_of unit cs n ≡ true → least_of unit k (n ∷ ns) cs ≡ Some k)
        → lesser (first_of k (n ∷ ns) (unit c)) (least_of unit k (n ∷ ns) cs) ≡ Some k
    go None e rest = let later : is_of unit cs n ≡ true = rw e at h in rw e (rest later)
    go (Some u) e rest = ap (λ o. lesser (first_of k (n ∷ ns) o) (least_of unit k (n ∷ ns) cs)) e ∙ some u (u == n.unit) refl e rest

-- another unit's note is left out
miss : (unit : Conn → Option ℕ) (k : ℕ) (n : Note) (ns : List Note) (cs : List Conn) → is_of unit cs n ≡ false
    → least_of unit k (n ∷ ns) cs ≡ least_of unit (k + 1) ns cs
miss unit k n ns [] h = refl
miss unit k n ns (c ∷ cs) h = go (unit c) refl (miss unit k n ns cs)
  where
    some : (u : ℕ) → (b : Bool) → (u == n.unit) ≡ b → unit c ≡ Some u → (is_of unit cs n ≡ false → least_of unit k (n ∷ ns) cs ≡ least_of unit (k + 1) ns cs)
        → lesser (first_from u k (n ∷ ns)) (least_of unit k (n ∷ ns) cs) ≡ lesser (first_from u (k + 1) ns) (least_of unit (k + 1) ns cs)
    some u true t e rest = absurd (let z : true ≡ false = rw (e, t) at h in cc)
    some u false t e rest =
        let q : (n.unit == u) ≡ false = grind (arith, nat_tests) in
        let later : is_of unit cs n ≡ false = rw (e, t) at h in
        rw q (ap (lesser (first_from u (k + 1) ns)) (rest later))

    go : (o : Option ℕ) → unit c ≡ o → (is_of unit cs n ≡ false → least_of unit k (n ∷ ns) cs ≡ least_of unit (k + 1) ns cs)
        → lesser (first_of k (n ∷ ns) (unit c)) (least_of unit k (n ∷ ns) cs) ≡ lesser (first_of (k + 1) ns (unit c)) (least_of unit (k + 1) ns cs)
    go None e rest = let later : is_of unit cs n ≡ false = rw e at h in rw e (rest later)
    go (Some u) e rest = rw e (some u (u == n.unit) refl e rest)

-- the least first record is the place of the first note of an open unit
least-is : (unit : Conn → Option ℕ) (cs : List Conn) (k : ℕ) (notes : List Note)
    → unwrap_or (least_of unit k notes cs) (k + length notes) ≡ k + position_or_len (is_of unit cs) notes
least-is unit cs k [] = ap (λ o. unwrap_or o (k + 0)) (none cs)
  where
    each : (o : Option ℕ) → first_of k [] o ≡ None
    each None = refl
    each (Some u) = refl

    none : (cs : List Conn) → least_of unit k [] cs ≡ None
    none [] = refl
    none (c ∷ cs) = ap (λ o. lesser o (least_of unit k [] cs)) (each (unit c)) ∙ none cs
least-is unit cs k (n ∷ ns) = go (is_of unit cs n) refl (least-is unit cs (k + 1) ns)
  where
    go : (b : Bool) → is_of unit cs n ≡ b → unwrap_or (least_of unit (k + 1) ns cs) ((k + 1) + length ns) ≡ (k + 1) + position_or_len (is_of unit cs) ns
        → unwrap_or (least_of unit k (n ∷ ns) cs) (k + length (n ∷ ns)) ≡ k + position_or_len (is_of unit cs) (n ∷ ns)
    go true e ih =
        let place : position_or_len (is_of unit cs) (n ∷ ns) ≡ 0 = rw e refl in
        ap (λ o. unwrap_or o (k + length (n ∷ ns))) (hit unit k n ns cs e) ∙ omega (arith, place)
    go false e ih =
        let place : position_or_len (is_of unit cs) (n ∷ ns) ≡ 1 + position_or_len (is_of unit cs) ns = rw e refl in
        let end : k + length (n ∷ ns) ≡ (k + 1) + length ns = omega arith in
        ap (λ o. unwrap_or o (k + length (n ∷ ns))) (miss unit k n ns cs e) ∙ ap (unwrap_or (least_of unit (k + 1) ns cs)) end ∙ ih ∙ omega (arith, place)

-- the oldest record, and `count` where no open unit has one
pub oldest-is : (head : Head) (w : World) (works : List (Option Work)) → length works ≡ length head.conns → WorksStand works w.records w.unit w.marks
    → unwrap_or (oldest_of works) (length w.records) ≡ oldest head w
oldest-is head w works same s =
    ap (λ o. unwrap_or o (length w.records)) (tells w.unit w.records 0 works one
    ∙ ap (λ n. least_of w.unit 0 w.records (map conn_at (range_with_len 0 n))) same)
    ∙ ap (unwrap_or (least_of w.unit 0 w.records (conns head))) zero-more ∙ least-is w.unit (conns head) 0 w.records ∙ omega arith
  where
    zero-more : length w.records ≡ 0 + length w.records
    zero-more = omega arith

    each : (c : Conn) (o : Option ℕ) → elim (option_map (work_of_unit w.records (w.marks c)) o) [ None ↦ None | Some x ↦ x.first ] ≡ first_of 0 w.records o
    each c None = refl
    each c (Some u) = refl

    one : (k : ℕ) → k < length works → elim (get_or works k None) [ None ↦ None | Some x ↦ x.first ] ≡ first_of 0 w.records (w.unit (conn_at (0 + k)))
    one k lt =
        let e : 0 + k ≡ k = omega arith in
        rw e (ap (λ (o : Option Work). elim o [ None ↦ None | Some x ↦ x.first ]) (s (conn_at k) lt) ∙ each (conn_at k) (w.unit (conn_at k)))
