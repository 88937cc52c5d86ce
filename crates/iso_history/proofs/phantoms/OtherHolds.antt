-- An entry leaves what other connections hold.
use Rattle.std.proofs.Common.{◌≡◌, Bool, true, false, not, ◌&&◌, List, [], ◌∷◌, refl, ap, sym, ◌∙◌, subst, Some, None, Option}
use Rattle.std.specs.Option.{option_map}
use Rattle.std.specs.Prelude.{find}
use Rattle.iso_history.proofs.phantoms.Finds.{find-filter_same, find-map}
use Rattle.iso_history.proofs.phantoms.Names.{conn_turned, of-conn, of-new, of-other, of-same}
use Rattle.iso_history.specs.Holds.{Hand, hand_of, holds_by_agent, holds_by_hand, spared}
use Rattle.iso_history.specs.Holds.Hand.{Collapses, Drops, Frees, Leaves, Places}
use Rattle.iso_history.specs.World.{World}
use Rattle.iso_history.specs.declared.entry.Act.{Act}
use Rattle.iso_modes.specs.declared.Mode.{Mode}
use Rattle.iso_modes.specs.declared.Term.{Term}
use Rattle.iso_modes.specs.Terms.{is_brief, is_fresh}
use Rattle.iso_queue.specs.Locks.{Hold, Request, added, all_placed, hold_on, is_covered, is_hold_of, is_spared, placed, raised, settled, settled_one, was_brief, without_briefs}
use Rattle.iso_types.specs.Head.{is_on}
use Rattle.iso_types.specs.Ids.{conn_eq}
use Rattle.iso_types.specs.declared.head.Head.{Head}
use Rattle.iso_types.specs.declared.value.Conn.{Conn}
use Rattle.iso_types.specs.declared.value.Name.{Name}

-- settling tells nothing of whose a hold is
pub of-settled_one : (c d : Conn) (n : Name) (spare : Option Name) (h : Hold) → is_hold_of c n (settled_one d spare h) ≡ is_hold_of c n h
of-settled_one c d n spare h = go (conn_eq h.conn d && (is_fresh h.term && not (is_spared spare h))) refl
  where
    go : (b : Bool) → (conn_eq h.conn d && (is_fresh h.term && not (is_spared spare h))) ≡ b → is_hold_of c n (settled_one d spare h) ≡ is_hold_of c n h
    go true e = rw e (of-same c n h h.mode Term.Kept)
    go false e = rw e refl

-- a hold of c, where the entry is d's
other-conn : (c d : Conn) (n : Name) (h : Hold) → conn_eq c d ≡ false → is_hold_of c n h ≡ true → conn_eq h.conn d ≡ false
other-conn c d n h ne e = subst (λ (x : Conn). conn_eq x d ≡ false) (sym (of-conn c n h e)) ne

settled_one-other : (c d : Conn) (n : Name) (spare : Option Name) (h : Hold) → conn_eq c d ≡ false → is_hold_of c n h ≡ true → settled_one d spare h ≡ h
settled_one-other c d n spare h ne e = rw (other-conn c d n h ne e) refl

-- what is found by a test that holds only of what a map leaves
find-map_same : {A : Type 0} (p : A → Bool) (f : A → A) → ((x : A) → p (f x) ≡ p x) → ((x : A) → p x ≡ true → f x ≡ x) → (xs : List A) → (y : Option A)
    → find p xs ≡ y
    → option_map f y ≡ y
find-map_same p f h k [] None q = refl
find-map_same p f h k [] (Some x) q = cc
find-map_same p f h k (x ∷ xs) y q = go (find-map_same p f h k xs y) (p x) refl
  where
    go : (find p xs ≡ y → option_map f y ≡ y) → (b : Bool) → p x ≡ b → option_map f y ≡ y
    go ih true e = let s : Some x ≡ y = rw e at q in subst (λ (z : Option _). option_map f z ≡ z) s (ap Some (k x e))
    go ih false e = ih (rw e at q)

module _ (head : Head) (c d : Conn) (ne : conn_eq c d ≡ false) (n : Name) where
  hold-settled_other : (spare : Option Name) (hs : List Hold) → hold_on (settled d spare hs) c n ≡ hold_on hs c n
  hold-settled_other spare hs = find-map (is_hold_of c n) (settled_one d spare) (of-settled_one c d n spare) hs
      ∙ find-map_same (is_hold_of c n) (settled_one d spare) (of-settled_one c d n spare) (λ h e. settled_one-other c d n spare h ne e) hs (hold_on hs c n) refl

  new-other : (k : Name) (m : Mode) (t : Term) → is_hold_of c n (record { name = k; conn = d; mode = m; term = t }) ≡ false
  new-other k m t = of-other d c k n (record { name = k; conn = d; mode = m; term = t }) (conn_turned c d ne) (of-new d k m t)

  hold-added_other : (r : Request) (hs : List Hold) → hold_on (added hs d r) c n ≡ hold_on hs c n
  hold-added_other r [] = rw (new-other r.name r.mode r.term) refl
  hold-added_other r (h ∷ hs) = go (hold-added_other r hs) (is_hold_of d r.name h) refl
    where
      go : hold_on (added hs d r) c n ≡ hold_on hs c n → (b : Bool) → is_hold_of d r.name h ≡ b → hold_on (added (h ∷ hs) d r) c n ≡ hold_on (h ∷ hs) c n
      go ih true e =
          let z : is_hold_of c n h ≡ false = of-other d c r.name n h (conn_turned c d ne) e in
          let y : is_hold_of c n (raised r.mode r.term h) ≡ false = of-same c n h (raised r.mode r.term h).mode (raised r.mode r.term h).term ∙ z in
          rw (e, y, z) refl
      go ih false e = rw e (by (is_hold_of c n h) refl)
        where
          by : (b : Bool) → is_hold_of c n h ≡ b → hold_on (h ∷ added hs d r) c n ≡ hold_on (h ∷ hs) c n
          by true f = rw f refl
          by false f = rw f ih

  hold-placed_other : (r : Request) (hs : List Hold) → hold_on (placed head hs d r) c n ≡ hold_on hs c n
  hold-placed_other r hs = go (is_covered head hs d r.name r.mode) refl
    where
      go : (b : Bool) → is_covered head hs d r.name r.mode ≡ b → hold_on (placed head hs d r) c n ≡ hold_on hs c n
      go true e = rw e refl
      go false e = rw e (hold-added_other r hs)

  hold-all_placed_other : (rs : List Request) (hs : List Hold) → hold_on (all_placed head hs d rs) c n ≡ hold_on hs c n
  hold-all_placed_other [] hs = refl
  hold-all_placed_other (r ∷ rs) hs = hold-all_placed_other rs (placed head hs d r) ∙ hold-placed_other r hs

  hold-hand_other : (hand : Hand) (hs : List Hold) → hold_on (holds_by_hand head d hand hs) c n ≡ hold_on hs c n
  hold-hand_other Leaves hs = refl
  hold-hand_other (Places rs) hs = hold-all_placed_other rs hs
  hold-hand_other (Frees k) hs = find-filter_same (is_hold_of c n) (λ h. not (is_hold_of d k h)) (λ h e. rw (of-other c d n k h ne e) refl) hs
  hold-hand_other (Collapses t) hs = find-filter_same (is_hold_of c n) (λ h. not (conn_eq h.conn d && is_on head t h.name))
      (λ h e. rw (other-conn c d n h ne e) refl) hs
  hold-hand_other Drops hs = find-filter_same (is_hold_of c n) (λ h. not (conn_eq h.conn d)) (λ h e. rw (other-conn c d n h ne e) refl) hs

  hold-briefs_other : (before hs : List Hold) → hold_on (without_briefs before d hs) c n ≡ hold_on hs c n
  hold-briefs_other before hs =
      find-filter_same (is_hold_of c n) (λ h. not (conn_eq h.conn d && (is_brief h.term && was_brief before d h.name)))
      (λ h e. rw (other-conn c d n h ne e) refl) hs

  -- after an entry of d, c holds what it held
  pub hold-agent_other : (w : World) (a : Act) → hold_on (holds_by_agent head w d a) c n ≡ hold_on w.holds c n
  hold-agent_other w a =
      hold-briefs_other w.holds (holds_by_hand head d (hand_of head w d a) (settled d (spared a (w.last d)) w.holds))
      ∙ hold-hand_other (hand_of head w d a) (settled d (spared a (w.last d)) w.holds)
      ∙ hold-settled_other (spared a (w.last d)) w.holds
