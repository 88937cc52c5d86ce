-- The members of the chosen cycle, and the youngest of them, its victim, found member by member.
use Rattle.std.proofs.Common.{◌≡◌, ◌<◌, ◌+◌, ◌++◌, ℕ, zero, suc, Bool, true, false, ◌&&◌, List, [], ◌∷◌, length, refl, ap, sym, subst, ◌∙◌, arith, Some, None, Option, MatchOption, find, take}
use Rattle.std.specs.List.{list_all, slice_get}
use Rattle.std.specs.Option.{option_map, option_or}
use Rattle.std.specs.Prelude.{if◌then◌else◌, nat_le, nat_lt, unwrap_or}
use Rattle.std.proofs.lemmas.Bool.{ltb-true}
use Rattle.std.proofs.lemmas.Bool.Decides.{nat_tests}
use Rattle.std.proofs.lemmas.List.{take_more}
use Rattle.std.proofs.lemmas.List.Folds.{find-append}
use Rattle.std.proofs.lemmas.Option.{get_or_from_slice_get, slice_get_within}
use Rattle.iso_history.proofs.limits.Courses.{find-passes}
use Rattle.iso_history.proofs.limits.Victims.{has_victim}
use Rattle.iso_history.specs.Phases.{phase, victim}
use Rattle.iso_history.specs.Quiet.{cycle_in, edges_in}
use Rattle.iso_history.specs.Units.{unit_of}
use Rattle.iso_history.specs.World.{World}
use Rattle.iso_state.proofs.FactsAlong.{within-of}
use Rattle.iso_state.specs.Stands.{StandsFor, world_of}
use Rattle.iso_state.specs.declared.parts.Parts.{Parts}
use Rattle.iso_types.specs.Cycles.{HasNoCycle, IsChosen, chosen_cycle, is_among}
use Rattle.iso_types.specs.Head.{conns}
use Rattle.iso_types.specs.declared.desk.Phase.{Phase}
use Rattle.iso_types.specs.declared.head.Head.{Head}
use Rattle.iso_types.specs.declared.value.Conn.{Conn}
use Rattle.iso_waitgraph.proofs.Agree.{chosen, cycle-within}
use Rattle.iso_waitgraph.proofs.Members.{among-first, among-rest}
use Rattle.iso_waitgraph.specs.Targets.{AreTargets}
use Rattle.iso_pace.proofs.Graphs.{conns-among, history-targets}
use Rattle.iso_pace.specs.Told.{IsYoungestOf}

-- ---- the members of the chosen cycle are the head's

-- whether the first has an edge to the second
abbrev pub edge_in : Head → World → Conn → Conn → Bool
edge_in head w c d = is_among c (conns head) && is_among d (edges_in head w c)

pub targets-in : (head : Head) (w : World) → AreTargets (edge_in head w) (edges_in head w) (conns head)
targets-in head w = history-targets head w.holds w.waits (edge_in head w) (λ c d. refl)

chosen-in : (head : Head) (w : World) (cycle : List Conn) → cycle_in head w ≡ Some cycle → IsChosen (edge_in head w) cycle
chosen-in head w cycle e =
    let h : MatchOption (chosen_cycle (edges_in head w) (conns head)) (HasNoCycle (edge_in head w)) (IsChosen (edge_in head w)) =
    chosen (edge_in head w) (edges_in head w) (conns head) (targets-in head w) in
    subst (λ (o : Option (List Conn)). MatchOption o (HasNoCycle (edge_in head w)) (IsChosen (edge_in head w))) e h

some-is : (x y : Conn) → Some x ≡ Some y → x ≡ y
some-is x y e = cc

among-get : (xs : List Conn) (k : ℕ) (x : Conn) → slice_get xs k ≡ Some x → is_among x xs ≡ true
among-get [] k x e = absurd (cc)
among-get (y ∷ ys) zero x e = let P : Conn → Type 0 = λ z. is_among z (y ∷ ys) ≡ true in subst P (some-is y x e) (among-first y ys)
among-get (y ∷ ys) (suc k) x e = among-rest x y ys (among-get ys k x e)

pub member-there : (head : Head) (w : World) (cycle : List Conn) (k : ℕ) (x : Conn) → cycle_in head w ≡ Some cycle → slice_get cycle k ≡ Some x
    → x.0 < length head.conns
member-there head w cycle k x e is =
    ltb-true x.0 (length head.conns) (conns-among head x
    (cycle-within (edge_in head w) (edges_in head w) (conns head) (targets-in head w) cycle x (chosen-in head w cycle e).2.cycle (among-get cycle k x is)))

-- it has members
pub members-some : (head : Head) (w : World) (cycle : List Conn) → cycle_in head w ≡ Some cycle → 0 < length cycle
members-some head w cycle e = go cycle (has_victim head w cycle e).conn (has_victim head w cycle e).is_victim
  where
    go : (cs : List Conn) (c : Conn) → victim w cs ≡ Some c → 0 < length cs
    go [] c is = absurd (cc)
    go (d ∷ ds) c is = omega arith

-- ---- its victim is the head's, and waits

pub victim-there : (head : Head) (w : World) (cycle : List Conn) (c : Conn) → cycle_in head w ≡ Some cycle → victim w cycle ≡ Some c
    → c.0 < length head.conns
victim-there head w cycle c e is =
    let h = has_victim head w cycle e in
    subst (λ (d : Conn). d.0 < length head.conns) (some-is h.conn c (sym h.is_victim ∙ is)) (ltb-true h.conn.0 (length head.conns) h.is_one)

pub victim-waits : (p : Parts) (cycle : List Conn) (c : Conn) → StandsFor p → cycle_in p.head (world_of p) ≡ Some cycle
    → victim (world_of p) cycle ≡ Some c → phase (world_of p) c ≡ Phase.Waiting
victim-waits p cycle c s e is =
    let w = world_of p in
    let h = has_victim p.head w cycle e in
    subst (λ (d : Conn). phase (world_of p) d ≡ Phase.Waiting) (some-is h.conn c (sym h.is_victim ∙ is))
    (((within-of s.stands).course.each h.conn).waits h.waits).0

-- ---- the number of a unit, as the units tell it

pub number-is : {B : Type 0} (o : Option ℕ) (f : ℕ → B) (g : B → ℕ) (r : Option ℕ) (x : Option B) → x ≡ option_map f o → r ≡ option_map g x
    → ((u : ℕ) → g (f u) ≡ u) → unwrap_or r 0 ≡ unwrap_or o 0
number-is {B} o f g r x e h same = ap (λ (y : Option ℕ). unwrap_or y 0) (h ∙ ap (option_map g) e) ∙ go o
  where
    go : (o : Option ℕ) → unwrap_or (option_map g (option_map f o)) 0 ≡ unwrap_or o 0
    go None = refl
    go (Some u) = same u

-- ---- the youngest, member by member

module _ (f : Conn → ℕ) where
  -- no member has more
  abbrev top : List Conn → Conn → Bool
  top cs c = list_all (λ d. nat_le (f d) (f c)) cs

  top-last : (cs : List Conn) (x c : Conn) → nat_le (f x) (f c) ≡ false → top (cs ++ x ∷ []) c ≡ false
  top-last [] x c e = rw e refl
  top-last (d ∷ ds) x c e = go (nat_le (f d) (f c)) refl (top-last ds x c e)
    where
      go : (b : Bool) → nat_le (f d) (f c) ≡ b → top (ds ++ x ∷ []) c ≡ false → top (d ∷ ds ++ x ∷ []) c ≡ false
      go true h ih = rw h ih
      go false h ih = rw h refl

  top-first : (cs : List Conn) (x c : Conn) → top cs c ≡ false → top (cs ++ x ∷ []) c ≡ false
  top-first [] x c e = absurd (cc)
  top-first (d ∷ ds) x c e = go (nat_le (f d) (f c)) refl (top-first ds x c)
    where
      go : (b : Bool) → nat_le (f d) (f c) ≡ b → (top ds c ≡ false → top (ds ++ x ∷ []) c ≡ false) → top (d ∷ ds ++ x ∷ []) c ≡ false
      go true h ih = rw h (ih (sym (ap (λ (b : Bool). b && top ds c) h) ∙ e))
      go false h ih = rw h refl

  top-both : (cs : List Conn) (x c : Conn) → top cs c ≡ true → nat_le (f x) (f c) ≡ true → top (cs ++ x ∷ []) c ≡ true
  top-both [] x c e k = rw k refl
  top-both (d ∷ ds) x c e k = go (nat_le (f d) (f c)) refl (λ h. top-both ds x c h k)
    where
      go : (b : Bool) → nat_le (f d) (f c) ≡ b → (top ds c ≡ true → top (ds ++ x ∷ []) c ≡ true) → top (d ∷ ds ++ x ∷ []) c ≡ true
      go true h ih = rw h (ih (sym (ap (λ (b : Bool). b && top ds c) h) ∙ e))
      go false h ih = let k : false ≡ true = sym (ap (λ (b : Bool). b && top ds c) h) ∙ e in absurd (cc)

  higher : (cs : List Conn) (b x : Conn) → f b < f x → top cs b ≡ true → top cs x ≡ true
  higher [] b x lt e = refl
  higher (d ∷ ds) b x lt e = go (nat_le (f d) (f b)) refl (higher ds b x lt)
    where
      more : (l m n : ℕ) → nat_le l m ≡ true → m < n → nat_le l n ≡ true
      more l m n h k = grind (arith, nat_tests)

      go : (t : Bool) → nat_le (f d) (f b) ≡ t → (top ds b ≡ true → top ds x ≡ true) → top (d ∷ ds) x ≡ true
      go true h ih = rw (more (f d) (f b) (f x) h lt) (ih (sym (ap (λ (t : Bool). t && top ds b) h) ∙ e))
      go false h ih = let k : false ≡ true = sym (ap (λ (t : Bool). t && top ds b) h) ∙ e in absurd (cc)

  none-in : (p : Conn → Bool) (b : Conn) (cs : List Conn) → ((c : Conn) → nat_le (f c) (f b) ≡ true → p c ≡ false) → top cs b ≡ true → find p cs ≡ None
  none-in p b [] h e = refl
  none-in p b (c ∷ cs) h e = go (nat_le (f c) (f b)) refl (none-in p b cs h)
    where
      go : (t : Bool) → nat_le (f c) (f b) ≡ t → (top cs b ≡ true → find p cs ≡ None) → find p (c ∷ cs) ≡ None
      go true k ih = rw (h c k) (ih (sym (ap (λ (t : Bool). t && top cs b) k) ∙ e))
      go false k ih = let z : false ≡ true = sym (ap (λ (t : Bool). t && top cs b) k) ∙ e in absurd (cc)

  narrower : (p q : Conn → Bool) (cs : List Conn) (b : Conn) → ((c : Conn) → q c ≡ false → p c ≡ false) → p b ≡ true → find q cs ≡ Some b → find p cs ≡ Some b
  narrower p q [] b h k e = absurd (cc)
  narrower p q (c ∷ cs) b h k e = go (q c) refl (narrower p q cs b h k)
    where
      go : (t : Bool) → q c ≡ t → (find q cs ≡ Some b → find p cs ≡ Some b) → find p (c ∷ cs) ≡ Some b
      go true z ih =
          let same : c ≡ b = some-is c b (sym (ap (λ (t : Bool). if t then Some c else find q cs) z) ∙ e) in
          let yes : p c ≡ true = subst (λ (x : Conn). p x ≡ true) (sym same) k in
          rw yes (ap (λ (x : Conn). Some x) same)
      go false z ih = rw (h c z) (ih (sym (ap (λ (t : Bool). if t then Some c else find q cs) z) ∙ e))

  -- with one more member
  next-greatest : (cs : List Conn) (b x : Conn) → find (top cs) cs ≡ Some b
      → find (top (cs ++ x ∷ [])) (cs ++ x ∷ []) ≡ Some (if nat_lt (f b) (f x) then x else b)
  next-greatest cs b x e = find-append (top (cs ++ x ∷ [])) cs (x ∷ []) ∙ go (nat_lt (f b) (f x)) refl
    where
      p : Conn → Bool
      p = top (cs ++ x ∷ [])

      best : top cs b ≡ true
      best = find-passes (top cs) cs b e

      below : (m n : ℕ) → nat_lt m n ≡ true → m < n
      below m n h = grind (arith, nat_tests)

      above : (m n : ℕ) → nat_lt m n ≡ false → nat_le n m ≡ true
      above m n h = grind (arith, nat_tests)

      over : (l m n : ℕ) → nat_le l m ≡ true → m < n → nat_le n l ≡ false
      over l m n h k = grind (arith, nat_tests)

      own : (n : ℕ) → nat_le n n ≡ true
      own n = grind (arith, nat_tests)

      go : (t : Bool) → nat_lt (f b) (f x) ≡ t → option_or (find p cs) (find p (x ∷ [])) ≡ Some (if t then x else b)
      go true h =
          let none : find p cs ≡ None = none-in p b cs (λ c k. top-last cs x c (over (f c) (f b) (f x) k (below (f b) (f x) h))) best in
          let yes : p x ≡ true = top-both cs x x (higher cs b x (below (f b) (f x) h) best) (own (f x)) in
          rw (none, yes) refl
      go false h =
          let some : find p cs ≡ Some b = narrower p (top cs) cs b (λ c k. top-first cs x c k) (top-both cs x b best (above (f b) (f x) h)) e in
          rw some refl

  one-greatest : (c : Conn) → find (top (c ∷ [])) (c ∷ []) ≡ Some c
  one-greatest c = let own : nat_le (f c) (f c) ≡ true = grind (arith, nat_tests) in rw own refl

first-youngest : (w : World) (cs : List Conn) (c : Conn) → slice_get cs 0 ≡ Some c → victim w (take 1 cs) ≡ Some c
first-youngest w [] c e = absurd (cc)
first-youngest w (d ∷ ds) c e = one-greatest (unit_of w) d ∙ e

next-youngest : (w : World) (cs : List Conn) (k : ℕ) (b x : Conn) → slice_get cs k ≡ Some x → victim w (take k cs) ≡ Some b
    → victim w (take (k + 1) cs) ≡ Some (if nat_lt (unit_of w b) (unit_of w x) then x else b)
next-youngest w cs k b x is e =
    ap (victim w) (take_more cs k x (slice_get_within cs k x is) ∙ ap (λ (y : Conn). take k cs ++ y ∷ []) (get_or_from_slice_get cs k x x is))
    ∙ next-greatest (unit_of w) (take k cs) b x e

module _ (head : Head) (w : World) (cycle : List Conn) where
  -- of the first member, and of one more
  pub first-one : (c : Conn) → cycle_in head w ≡ Some cycle → slice_get cycle 0 ≡ Some c → IsYoungestOf head w (take 1 cycle) c
  first-one c e is = record { youngest = first-youngest w cycle c is; there = member-there head w cycle 0 c e is }

  pub one-more : (k : ℕ) (b x y : Conn) → cycle_in head w ≡ Some cycle → slice_get cycle k ≡ Some x → IsYoungestOf head w (take k cycle) b
      → y ≡ (if nat_lt (unit_of w b) (unit_of w x) then x else b) → IsYoungestOf head w (take (k + 1) cycle) y
  one-more k b x y e is h same = record {
    youngest = next-youngest w cycle k b x is h.youngest ∙ ap (λ (z : Conn). Some z) (sym same);
    there = subst (λ (z : Conn). z.0 < length head.conns) (sym same) (go (nat_lt (unit_of w b) (unit_of w x)));
  }
    where
      go : (t : Bool) → (if t then x else b).0 < length head.conns
      go true = member-there head w cycle k x e is
      go false = h.there
