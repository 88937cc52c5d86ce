-- The chosen cycle has a victim, which waits.
use Rattle.std.proofs.Common.{◌≡◌, ◌≢◌, ◌+◌, ◌≤◌, ◌<◌, ◌⊎◌, inl, inr, ℕ, zero, suc, Bool, true, false, not, List, [], ◌∷◌, ◌++◌, map, reverse, length, refl, ap, sym, ◌∙◌, arith, Some, None, Option, is_some, subst}
use mathlib.Core.List.{reverse-cons}
use Rattle.std.specs.Option.{option_map_or}
use Rattle.std.specs.Prelude.{if◌then◌else◌, filter, find, flat_map, nat_le, nat_lt}
use Rattle.std.specs.List.{AllByRecursion, list_all, list_any}
use Rattle.std.proofs.lemmas.Bool.Decides.{nat_tests}
use Rattle.iso_history.specs.Phases.{victim}
use Rattle.iso_history.specs.Quiet.{cycle_in, edges_in}
use Rattle.iso_history.specs.Units.{unit_of}
use Rattle.iso_history.specs.World.{World}
use Rattle.iso_queue.specs.Queues.{Wait, blockers, is_waiting, wait_of}
use Rattle.iso_types.specs.Cycles.{closes, cycle_through, first_cycle, is_among, longer, shortest}
use Rattle.iso_types.specs.Head.{conns, is_conn}
use Rattle.iso_types.specs.Ids.{conn_eq}
use Rattle.iso_types.specs.declared.head.Head.{Head}
use Rattle.iso_types.specs.declared.value.Conn.{Conn}
use Rattle.iso_history.proofs.limits.Courses.{find-passes}
use Rattle.iso_history.proofs.limits.Sums.{some_conns}

all-append : {A : Type 0} (P : A → Type 0) (xs ys : List A) → AllByRecursion P xs → AllByRecursion P ys → AllByRecursion P (xs ++ ys)
all-append P [] ys h k = k
all-append P (x ∷ xs) ys h k = (h.0, all-append P xs ys h.1 k)

all-filter : {A : Type 0} (P : A → Type 0) (p : A → Bool) (xs : List A) → AllByRecursion P xs → AllByRecursion P (filter p xs)
all-filter P p [] h = tt
all-filter P p (x ∷ xs) h = go (all-filter P p xs h.1) (p x) refl
  where
    go : AllByRecursion P (filter p xs) → (b : Bool) → p x ≡ b → AllByRecursion P (filter p (x ∷ xs))
    go ih true e = rw e (h.0, ih)
    go ih false e = rw e ih

all-weaker : {A : Type 0} (P Q : A → Type 0) (xs : List A) → ((x : A) → P x → Q x) → AllByRecursion P xs → AllByRecursion Q xs
all-weaker P Q [] f h = tt
all-weaker P Q (x ∷ xs) f h = (f x h.0, all-weaker P Q xs f h.1)

all-map : {A B : Type 0} (P : A → Type 0) (Q : B → Type 0) (f : A → B) (xs : List A) → ((x : A) → P x → Q (f x)) → AllByRecursion P xs
    → AllByRecursion Q (map f xs)
all-map P Q f [] g h = tt
all-map P Q f (x ∷ xs) g h = (g x h.0, all-map P Q f xs g h.1)

all-flat : {A B : Type 0} (P : A → Type 0) (Q : B → Type 0) (f : A → List B) (xs : List A) → ((x : A) → P x → AllByRecursion Q (f x))
    → AllByRecursion P xs → AllByRecursion Q (flat_map f xs)
all-flat P Q f [] g h = tt
all-flat P Q f (x ∷ xs) g h = all-append Q (f x) (flat_map f xs) (g x h.0) (all-flat P Q f xs g h.1)

all-find : {A : Type 0} (P : A → Type 0) (p : A → Bool) (xs : List A) (x : A) → find p xs ≡ Some x → AllByRecursion P xs → P x
all-find P p [] x e h = absurd (cc)
all-find P p (y ∷ ys) x e h = go (all-find P p ys x) (p y) e
  where
    some-is : {A : Type 0} (a b : A) → Some a ≡ Some b → a ≡ b
    some-is a b e = cc

    go : (find p ys ≡ Some x → AllByRecursion P ys → P x) → (b : Bool) → (if b then Some y else find p ys) ≡ Some x → P x
    go ih true f = subst P (some-is y x f) h.0
    go ih false f = ih f h.1

all-reverse : {A : Type 0} (P : A → Type 0) (xs : List A) → AllByRecursion P xs → AllByRecursion P (reverse xs)
all-reverse P [] h = tt
all-reverse P (x ∷ xs) h =
    subst (AllByRecursion P) (sym (reverse-cons x xs)) (all-append P (reverse xs) (x ∷ []) (all-reverse P xs h.1) (h.0, tt))

-- the connections of a head are its connections
all-conns : (head : Head) → AllByRecursion (λ c. is_conn head c ≡ true) (conns head)
all-conns head = some-are 0 (length head.conns) (omega arith)
  where
    below : (k n : ℕ) → k < n → nat_lt k n ≡ true
    below k n lt = grind (arith, nat_tests)

    some-are : (s n : ℕ) → s + n ≤ length head.conns → AllByRecursion (λ c. is_conn head c ≡ true) (some_conns s n)
    some-are s zero le = tt
    some-are s (suc n) le = (below s (length head.conns) (omega (arith, le)), some-are (s + 1) n (omega (arith, le)))

-- what is found among a head's connections is one of them
pub found-conn : (head : Head) (p : Conn → Bool) (c : Conn) → find p (conns head) ≡ Some c → is_conn head c ≡ true
found-conn head p c e = all-find (λ d. is_conn head d ≡ true) p (conns head) c e (all-conns head)

-- a connection that waits
abbrev pub Waits : Head → World → Conn → Type 0
Waits head w c = (is_conn head c ≡ true) × (is_waiting w.waits c ≡ true)

-- a path, last connection first: all but the last wait
abbrev Path_of : Head → World → List Conn → Type 0
Path_of head w [] = ⊥
Path_of head w (d ∷ ds) = (is_conn head d ≡ true) × AllByRecursion (Waits head w) ds

module _ (head : Head) (w : World) where
  -- each edge leads to a connection of the head, from one that waits
  edges-are : (d : Conn) → AllByRecursion (λ e. (is_conn head e ≡ true) × (is_waiting w.waits d ≡ true)) (edges_in head w d)
  edges-are d = go (wait_of w.waits d) refl
    where
      go : (o : Option Wait) → wait_of w.waits d ≡ o
          → AllByRecursion (λ e. (is_conn head e ≡ true) × (is_waiting w.waits d ≡ true)) (edges_in head w d)
      go None e = rw e tt
      go (Some x) e =
          let yes_waits : is_waiting w.waits d ≡ true = ap (λ o. is_some o) e in
          subst (λ (o : Option Wait). AllByRecursion (λ e. (is_conn head e ≡ true) × (is_waiting w.waits d ≡ true))
          (option_map_or (λ x. filter (λ f. list_any (conn_eq f) (blockers w.holds w.waits x)) (conns head)) o [])) (sym e)
          (all-filter _ _ (conns head) (all-weaker _ _ (conns head) (λ c h. (h, yes_waits)) (all-conns head)))

  longer-are : (p : List Conn) → Path_of head w p → AllByRecursion (Path_of head w) (longer (edges_in head w) p)
  longer-are [] h = absurd h
  longer-are (d ∷ ds) h =
      all-map (λ e. (is_conn head e ≡ true) × (is_waiting w.waits d ≡ true)) (Path_of head w) (λ e. e ∷ d ∷ ds) _
      (λ e k. (k.0, ((h.0, k.1), h.1)))
      (all-filter _ (λ e. not (is_among e (d ∷ ds))) (edges_in head w d) (edges-are d))

  -- who has an edge waits
  among-waits : (c d : Conn) → is_among c (edges_in head w d) ≡ true → is_waiting w.waits d ≡ true
  among-waits c d e = go (edges_in head w d) (edges-are d) e
    where
      go : (es : List Conn) → AllByRecursion (λ e. (is_conn head e ≡ true) × (is_waiting w.waits d ≡ true)) es → is_among c es ≡ true
          → is_waiting w.waits d ≡ true
      go [] h f = absurd (cc)
      go (x ∷ xs) h f = h.0.1

  -- a list that is not empty, of connections that wait
  Is_road : List Conn → Type 0
  Is_road p = (length p ≢ 0) × AllByRecursion (Waits head w) p

  closed-is : (c : Conn) (p : List Conn) → Path_of head w p → closes (edges_in head w) c p ≡ true → Is_road (reverse p)
  unfolding Is_road
  closed-is c [] h e = absurd h
  closed-is c (d ∷ ds) h e = (
    subst (λ (n : ℕ). n ≢ 0) (sym (ap length (reverse-cons d ds) ∙ last (reverse ds))) (λ z. absurd (cc)),
    all-reverse (Waits head w) (d ∷ ds) ((h.0, among-waits c d e), h.1),
  )
    where
      last : (xs : List Conn) → length (xs ++ d ∷ []) ≡ suc (length xs)
      last [] = refl
      last (x ∷ xs) = ap suc (last xs)

  shortest-is : (c : Conn) (k : ℕ) (paths : List (List Conn)) (p : List Conn) → AllByRecursion (Path_of head w) paths
      → shortest (edges_in head w) c k paths ≡ Some p → Is_road p
  shortest-is c zero paths p h e = absurd (cc)
  shortest-is c (suc k) paths p h e =
      go (find (closes (edges_in head w) c) paths) refl e (shortest-is c k _ p (all-flat (Path_of head w) (Path_of head w) _ paths longer-are h))
    where
      some-is : {A : Type 0} (a b : A) → Some a ≡ Some b → a ≡ b
      some-is a b e = cc

      go : (o : Option (List Conn)) → find (closes (edges_in head w) c) paths ≡ o
          → (elim o [ None ↦ shortest (edges_in head w) c k (flat_map (longer (edges_in head w)) paths) | Some q ↦ Some (reverse q) ]) ≡ Some p
          → (shortest (edges_in head w) c k (flat_map (longer (edges_in head w)) paths) ≡ Some p → Is_road p) → Is_road p
      go None f g later = later g
      go (Some q) f g later = subst Is_road (some-is (reverse q) p g)
          (closed-is c q (all-find (Path_of head w) _ paths q f h) (find-passes (closes (edges_in head w) c) paths q f))

  through-is : (c : Conn) (p : List Conn) → is_conn head c ≡ true → cycle_through (edges_in head w) (conns head) c ≡ Some p → Is_road p
  through-is c p is e = shortest-is c (length (conns head)) ((c ∷ []) ∷ []) p ((is, tt), tt) e

  first-is : (cs : List Conn) (p : List Conn) → AllByRecursion (λ c. is_conn head c ≡ true) cs
      → first_cycle (edges_in head w) (conns head) cs ≡ Some p → Is_road p
  first-is [] p h e = absurd (cc)
  first-is (c ∷ cs) p h e = go (cycle_through (edges_in head w) (conns head) c) refl e (first-is cs p h.1)
    where
      go : (o : Option (List Conn)) → cycle_through (edges_in head w) (conns head) c ≡ o
          → (elim o [ None ↦ first_cycle (edges_in head w) (conns head) cs | Some q ↦ Some q ]) ≡ Some p
          → (first_cycle (edges_in head w) (conns head) cs ≡ Some p → Is_road p) → Is_road p
      go None f g later = later g
      go (Some q) f g later = through-is c p h.0 (f ∙ g)

-- the greatest of the values is one of them
record Greatest (f : Conn → ℕ) (cs : List Conn) : Type 0 where
  pub member : Conn
  pub found : (p : Conn → Bool) → p member ≡ true → is_some (find p cs) ≡ true
  pub most : AllByRecursion (λ d. f d ≤ f member) cs

find-here : (p : Conn → Bool) (c : Conn) (cs : List Conn) → p c ≡ true → is_some (find p (c ∷ cs)) ≡ true
find-here p c cs e = rw e refl

find-later : (p : Conn → Bool) (c : Conn) (cs : List Conn) → is_some (find p cs) ≡ true → is_some (find p (c ∷ cs)) ≡ true
find-later p c cs h = go (p c) refl
  where
    go : (b : Bool) → p c ≡ b → is_some (find p (c ∷ cs)) ≡ true
    go true e = rw e refl
    go false e = rw e h

greatest : (f : Conn → ℕ) (c : Conn) (cs : List Conn) → Greatest f (c ∷ cs)
greatest f c [] = record { member = c; found = λ p e. find-here p c [] e; most = (omega arith, tt) }
greatest f c (d ∷ ds) = go (greatest f d ds) (either (f c) (f (greatest f d ds).member))
  where
    either : (m n : ℕ) → (m ≤ n) ⊎ (n ≤ m)
    either m n = grind arith

    go : (g : Greatest f (d ∷ ds)) → (f c ≤ f g.member) ⊎ (f g.member ≤ f c) → Greatest f (c ∷ d ∷ ds)
    go g (inl le) = record { member = g.member; found = λ p e. find-later p c (d ∷ ds) (g.found p e); most = (le, g.most) }
    go g (inr le) = record {
      member = c;
      found = λ p e. find-here p c (d ∷ ds) e;
      most = (omega arith, all-weaker (λ x. f x ≤ f g.member) (λ x. f x ≤ f c) (d ∷ ds) (λ x h. omega (arith, h, le)) g.most);
    }

all-test : (f : Conn → ℕ) (n : ℕ) (cs : List Conn) → AllByRecursion (λ d. f d ≤ n) cs → list_all (λ d. nat_le (f d) n) cs ≡ true
all-test f n [] h = refl
all-test f n (c ∷ cs) h = rw (test (f c) n h.0) (all-test f n cs h.1)
  where
    test : (m n : ℕ) → m ≤ n → nat_le m n ≡ true
    test m n le = grind (arith, nat_tests)

-- a list that is not empty has a member with the greatest unit
some-victim : (w : World) (cycle : List Conn) → length cycle ≢ 0 → is_some (victim w cycle) ≡ true
some-victim w [] ne = absurd (ne refl)
some-victim w (c ∷ cs) ne =
    let g = greatest (unit_of w) c cs in
    g.found (λ x. list_all (λ d. nat_le (unit_of w d) (unit_of w x)) (c ∷ cs)) (all-test (unit_of w) (unit_of w g.member) (c ∷ cs) g.most)

-- the victim of the chosen cycle
pub record HasVictim (head : Head) (w : World) (cycle : List Conn) : Type 0 where
  pub conn : Conn
  pub is_victim : victim w cycle ≡ Some conn
  pub is_one : is_conn head conn ≡ true
  pub waits : is_waiting w.waits conn ≡ true

pub has_victim : (head : Head) (w : World) (cycle : List Conn) → cycle_in head w ≡ Some cycle → HasVictim head w cycle
unfolding Is_road
has_victim head w cycle e = go (victim w cycle) refl (some-victim w cycle road.0)
  where
    road : Is_road head w cycle
    road = first-is head w (conns head) cycle (all-conns head) e

    go : (o : Option Conn) → victim w cycle ≡ o → is_some o ≡ true → HasVictim head w cycle
    go None f g = absurd (cc)
    go (Some c) f g = let h = all-find (Waits head w) _ cycle c f road.1 in record { conn = c; is_victim = f; is_one = h.0; waits = h.1 }
