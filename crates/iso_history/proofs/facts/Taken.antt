-- How many names a connection takes, as its holds and its wait change.
use Rattle.std.proofs.Common.{◌≡◌, ◌≤◌, ◌+◌, ℕ, Bool, true, false, not, ◌&&◌, cond, if◌then◌else◌, List, [], ◌∷◌, refl, ap, sym, ◌∙◌, subst, arith, is_some, Some, None, Option, option_map, filter, find, count_by}
use Rattle.std.specs.Option.{option_map_or}
use Rattle.std.proofs.lemmas.Bool.{and_parts}
use Rattle.iso_history.proofs.locks.Finds.{count-filter, count-here, count-map, count-past, filter-here, filter-past, find-filter_away, find-filter_same, find-here, find-past}
use Rattle.iso_history.proofs.locks.Holds.{hold_on-other, hold_on-own, hold_on-settled}
use Rattle.iso_history.proofs.locks.Same.{conn_is, conn_same, name_is}
use Rattle.iso_modes.specs.Terms.{is_fresh}
use Rattle.iso_modes.specs.declared.Term.TheVariants.{Kept}
use Rattle.iso_queue.specs.Locks.{Hold, Request, added, hold_on, is_covered, is_held, is_hold_of, is_spared, placed, raised, settled, settled_one}
use Rattle.iso_queue.specs.Queues.{Wait, unqueued, wait_of}
use Rattle.iso_types.specs.Ids.{conn_eq, name_eq}
use Rattle.iso_types.specs.declared.head.Head.{Head}
use Rattle.iso_types.specs.declared.value.Conn.{Conn}
use Rattle.iso_types.specs.declared.value.Name.{Name}

-- one for a name that is not held
abbrev pub lack : Bool → ℕ
lack b = if b then 0 else 1

pub lack-one : (b : Bool) → lack b ≤ 1
lack-one true = omega arith
lack-one false = omega arith

lack-less : (a b : Bool) → (a ≡ true → b ≡ true) → lack b ≤ lack a
lack-less true b h = rw (h refl) (omega arith)
lack-less false b h = lack-one b

-- what the connection takes, with this wait
abbrev pub taken_with : List Hold → Conn → Option Wait → ℕ
taken_with hs c o = count_by (λ h. conn_eq h.conn c) hs + option_map_or (λ x. if is_held hs c x.name then 0 else 1) o 0

module _ {A : Type 0} (p r : A → Bool) (less : (x : A) → r x ≡ true → p x ≡ true) where
  -- how many pass the first test, and one more where none passes the second
  abbrev weigh : List A → ℕ
  weigh xs = count_by p xs + lack (is_some (find r xs))

  weigh-filter : (q : A → Bool) (xs : List A) → weigh (filter q xs) ≤ weigh xs
  weigh-filter q [] = omega arith
  weigh-filter q (x ∷ xs) = go (q x) refl (r x) refl (p x) refl (weigh-filter q xs)
    where
      go : (b : Bool) → q x ≡ b → (d : Bool) → r x ≡ d → (e : Bool) → p x ≡ e
          → weigh (filter q xs) ≤ weigh xs → weigh (filter q (x ∷ xs)) ≤ weigh (x ∷ xs)
      go b u true v false g ih = absurd (cc (sym (less x v) ∙ g))
      go true u true v true g ih =
          rw (filter-here q x xs u, count-here p x (filter q xs) g, count-here p x xs g, find-here r x (filter q xs) v, find-here r x xs v)
          (omega (arith, count-filter p q xs))
      go true u false v true g ih =
          rw (filter-here q x xs u, count-here p x (filter q xs) g, count-here p x xs g, find-past r x (filter q xs) v, find-past r x xs v) (omega (arith, ih))
      go true u false v false g ih =
          rw (filter-here q x xs u, count-past p x (filter q xs) g, count-past p x xs g, find-past r x (filter q xs) v, find-past r x xs v) ih
      go false u true v true g ih =
          rw (filter-past q x xs u, count-here p x xs g, find-here r x xs v)
          (omega (arith, count-filter p q xs, lack-one (is_some (find r (filter q xs)))))
      go false u false v true g ih = rw (filter-past q x xs u, count-here p x xs g, find-past r x xs v) (omega (arith, ih))
      go false u false v false g ih = rw (filter-past q x xs u, count-past p x xs g, find-past r x xs v) ih

own-hold : (c : Conn) (n : Name) (h : Hold) → is_hold_of c n h ≡ true → conn_eq h.conn c ≡ true
unfolding is_hold_of
own-hold c n h e = (and_parts _ _ e).0

-- holds that go leave no more
pub taken-filter : (q : Hold → Bool) (hs : List Hold) (c : Conn) (o : Option Wait) → taken_with (filter q hs) c o ≤ taken_with hs c o
taken-filter q hs c None = let few = count-filter (λ h. conn_eq h.conn c) q hs in omega (arith, few)
taken-filter q hs c (Some x) = weigh-filter (λ h. conn_eq h.conn c) (is_hold_of c x.name) (own-hold c x.name) q hs

-- a wait takes what is not held
pub taken-wait : (hs : List Hold) (c : Conn) (x : Wait) (o : Option Wait) → taken_with hs c (Some x) ≤ taken_with hs c o + lack (is_held hs c x.name)
taken-wait hs c x None = omega arith
taken-wait hs c x (Some y) = omega arith

pub taken-none : (hs : List Hold) (c : Conn) (o : Option Wait) → taken_with hs c None ≤ taken_with hs c o
taken-none hs c None = omega arith
taken-none hs c (Some y) = omega arith

-- where a wait goes
pub gone : (c : Conn) (ws : List Wait) → wait_of (unqueued c ws) c ≡ None
gone c ws = find-filter_away (λ x. conn_eq x.conn c) (λ x. not (conn_eq x.conn c)) (λ x e. ap not e) ws

pub taken-unqueued : (hs : List Hold) (c d : Conn) (ws : List Wait) → taken_with hs d (wait_of (unqueued c ws) d) ≤ taken_with hs d (wait_of ws d)
taken-unqueued hs c d ws = go (conn_eq d c) refl
  where
    go : (b : Bool) → conn_eq d c ≡ b → taken_with hs d (wait_of (unqueued c ws) d) ≤ taken_with hs d (wait_of ws d)
    go true e =
        let none : wait_of (unqueued c ws) d ≡ None = ap (wait_of (unqueued c ws)) (conn_is d c e) ∙ gone c ws in
        subst (λ (o : Option Wait). taken_with hs d o ≤ taken_with hs d (wait_of ws d)) (sym none) (taken-none hs d (wait_of ws d))
    go false e =
        let same : wait_of (unqueued c ws) d ≡ wait_of ws d = find-filter_same (λ x. conn_eq x.conn d) (λ x. not (conn_eq x.conn c))
        (λ x k. ap (λ (z : Conn). not (conn_eq z c)) (conn_is x.conn d k) ∙ ap not e) ws in
        rw same (omega arith)

module _ (c : Conn) (spare : Option Name) (hs : List Hold) (d : Conn) where
  own-settled : (h : Hold) → conn_eq (settled_one c spare h).conn d ≡ conn_eq h.conn d
  own-settled h = go (conn_eq h.conn c && (is_fresh h.term && not (is_spared spare h)))
    where
      go : (b : Bool) → conn_eq (if b then record h { term = Kept } else h).conn d ≡ conn_eq h.conn d
      go true = refl
      go false = refl

  some-map : (o : Option Hold) → is_some (option_map (settled_one c spare) o) ≡ is_some o
  some-map None = refl
  some-map (Some h) = refl

  -- a name is held as before where terms settle
  pub is_held-settled : (n : Name) → is_held (settled c spare hs) d n ≡ is_held hs d n
  is_held-settled n = ap (λ (o : Option Hold). is_some o) (hold_on-settled c spare hs d n) ∙ some-map (hold_on hs d n)

  pub taken-settled : (o : Option Wait) → taken_with (settled c spare hs) d o ≡ taken_with hs d o
  taken-settled None = let same = count-map (λ h. conn_eq h.conn d) (settled_one c spare) own-settled hs in omega (arith, same)
  taken-settled (Some x) =
      let same = count-map (λ h. conn_eq h.conn d) (settled_one c spare) own-settled hs in
      let alike : lack (is_held (settled c spare hs) d x.name) ≡ lack (is_held hs d x.name) = ap (λ (b : Bool). lack b) (is_held-settled x.name) in
      omega (arith, same, alike)

module _ (c : Conn) (r : Request) where
  -- the hold is the connection's
  abbrev own : Hold → Bool
  own h = conn_eq h.conn c

  count-added : (hs : List Hold) → count_by own (added hs c r) ≡ count_by own hs + lack (is_held hs c r.name)
  count-added [] = omega (arith, count-here own (record { name = r.name; conn = c; mode = r.mode; term = r.term }) [] (conn_same c))
  count-added (h ∷ hs) = go (is_hold_of c r.name h) (own h) refl (count-added hs)
    where
      go : (b a : Bool) → own h ≡ a → count_by own (added hs c r) ≡ count_by own hs + lack (is_held hs c r.name)
          → count_by own (if b then raised r.mode r.term h ∷ hs else h ∷ added hs c r)
          ≡ count_by own (h ∷ hs) + lack (is_some (cond b (Some h) (hold_on hs c r.name)))
      go true true e ih = omega (arith, count-here own (raised r.mode r.term h) hs e, count-here own h hs e)
      go true false e ih = omega (arith, count-past own (raised r.mode r.term h) hs e, count-past own h hs e)
      go false true e ih = omega (arith, ih, count-here own h (added hs c r) e, count-here own h hs e)
      go false false e ih = omega (arith, ih, count-past own h (added hs c r) e, count-past own h hs e)

  -- what is held stays so
  held-stays : (hs : List Hold) (n : Name) → is_held hs c n ≡ true → is_held (added hs c r) c n ≡ true
  held-stays hs n e = go (name_eq r.name n) refl
    where
      and-no : (a b : Bool) → b ≡ false → (a && b) ≡ false
      and-no true b k = k
      and-no false b k = refl

      go : (b : Bool) → name_eq r.name n ≡ b → is_held (added hs c r) c n ≡ true
      go true k =
          subst (λ (m : Name). is_held (added hs c r) c m ≡ true) (name_is r.name n k) (ap (λ (o : Option Hold). is_some o) (hold_on-own c r hs))
      go false k = ap (λ (o : Option Hold). is_some o) (hold_on-other c r c n (and-no (conn_eq c c) _ k) hs) ∙ e

  -- a request that is added takes one name where it is not held
  pub taken-added : (hs : List Hold) (o : Option Wait) → taken_with (added hs c r) c o ≤ taken_with hs c o + lack (is_held hs c r.name)
  taken-added hs None = let more = count-added hs in omega (arith, more)
  taken-added hs (Some x) =
      let more = count-added hs in
      let less = lack-less (is_held hs c x.name) (is_held (added hs c r) c x.name) (held-stays hs x.name) in
      omega (arith, more, less)

  -- a placed one too, where it is not covered
  pub taken-placed : (head : Head) (hs : List Hold) (o : Option Wait) → taken_with (placed head hs c r) c o
      ≤ taken_with hs c o + (if is_covered head hs c r.name r.mode then 0 else lack (is_held hs c r.name))
  taken-placed head hs o = go (is_covered head hs c r.name r.mode)
    where
      go : (b : Bool) → taken_with (if b then hs else added hs c r) c o ≤ taken_with hs c o + (if b then 0 else lack (is_held hs c r.name))
      go true = omega arith
      go false = taken-added hs o
