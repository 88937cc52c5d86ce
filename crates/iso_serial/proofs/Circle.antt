-- The circle: the actors after one of them, the first of them that could act, and that one of them can.
use Rattle.std.proofs.Common.{◌≡◌, ℕ, zero, suc, ◌+◌, ◌<◌, ◌≤◌, Bool, true, false, ◌||◌, List, [], ◌∷◌, ◌++◌, map, length, drop, take, find, get_or, refl, sym, ap, ◌∙◌, subst, arith, Option, Some, None, if◌then◌else◌}
use Rattle.std.proofs.Math.Seq.{drop-cons, drop-length, take-length}
use Rattle.std.proofs.lemmas.Bool.{both_ways}
use Rattle.std.proofs.lemmas.List.{length-map, take-append-drop}
use Rattle.std.proofs.lemmas.List.Folds.{find-append}
use Rattle.std.proofs.lemmas.List.FromFn.{get_or-map-range_with_len, length-map-range_with_len, take-map-range_with_len}
use Rattle.std.specs.List.{list_any, range_with_len}
use Rattle.std.specs.Option.{option_or}
use Rattle.iso_conduct.specs.Schedule.{actors, after_actor, can_act}
use Rattle.iso_history.specs.After.{start}
use Rattle.iso_history.specs.Voices.{voice}
use Rattle.iso_history.specs.declared.entry.Who.{Who}
use Rattle.iso_history.specs.declared.entry.Who.TheVariants.{Agent, Dispatcher}
use Rattle.iso_script.specs.declared.script.Line.{Line}
use Rattle.iso_types.specs.Head.{conns}
use Rattle.iso_types.specs.declared.head.Head.{Head}
use Rattle.iso_types.specs.declared.value.Conn.{Conn}
use Rattle.iso_serial.specs.Rounds.{actor, agent, agents_of}

-- ---- the agents from a place of the circle to another

abbrev conn : ℕ → Conn
conn k = record { 0 = k }

agents-over : (xs : List ℕ) → map Agent (map conn xs) ≡ map agent xs
agents-over [] = refl
agents-over (x ∷ xs) = ap (λ l. agent x ∷ l) (agents-over xs)

agents-are : (head : Head) → agents_of head ≡ map agent (range_with_len 0 (length head.conns))
agents-are head = agents-over (range_with_len 0 (length head.conns))

pub agents-length : (head : Head) → length (agents_of head) ≡ length head.conns
agents-length head = ap length (agents-are head) ∙ length-map-range_with_len agent 0 (length head.conns)

agents-to : (head : Head) (to : ℕ) → to ≤ length head.conns → take to (agents_of head) ≡ map agent (range_with_len 0 to)
agents-to head to le = ap (take to) (agents-are head) ∙ take-map-range_with_len agent 0 (length head.conns) to le

-- the first of those from here on
pub agents-cons : (head : Head) (k to : ℕ) → k < to → to ≤ length head.conns
    → drop k (take to (agents_of head)) ≡ agent k ∷ drop (suc k) (take to (agents_of head))
agents-cons head k to lt le =
    rw (agents-to head to le)
    (
    drop-cons (map agent (range_with_len 0 to)) k (agent k) (rw (length-map-range_with_len agent 0 to) lt)
    ∙ ap (λ (w : Who). w ∷ drop (suc k) (map agent (range_with_len 0 to))) (get_or-map-range_with_len agent 0 to k k (agent k) lt (omega arith))
    )

-- none is left at the end
pub agents-none : (head : Head) (to : ℕ) → to ≤ length head.conns → drop to (take to (agents_of head)) ≡ []
agents-none head to le =
    let n : length (map agent (range_with_len 0 to)) ≡ to = length-map-range_with_len agent 0 to in
    rw (agents-to head to le) (subst (λ (k : ℕ). drop k (map agent (range_with_len 0 to)) ≡ []) n (drop-length (map agent (range_with_len 0 to))))

-- those up to the end are all
pub agents-all : (head : Head) (k : ℕ) → drop k (take (length head.conns) (agents_of head)) ≡ drop k (agents_of head)
agents-all head k =
    ap (drop k) (subst (λ (n : ℕ). take n (agents_of head) ≡ agents_of head) (agents-length head) (take-length (agents_of head)))

-- ---- the first that could act

module _ (p : Who → Bool) where
  -- one that could not is passed over
  pub find-past : (x : Who) (xs : List Who) → p x ≡ false → find p (x ∷ xs) ≡ find p xs
  find-past x xs unable = rw unable refl

  pub find-here : (x : Who) (xs : List Who) → p x ≡ true → find p (x ∷ xs) ≡ Some x
  find-here x xs able = rw able refl

  none-any : (xs : List Who) → find p xs ≡ None → list_any p xs ≡ false
  none-any [] h = refl
  none-any (x ∷ xs) h = go (p x) refl h (none-any xs) where
    go : (b : Bool) → p x ≡ b → (if p x then Some x else find p xs) ≡ None → (find p xs ≡ None → list_any p xs ≡ false)
        → (p x || list_any p xs) ≡ false
    go true e k more = let s : Some x ≡ None = rw e at k in absurd (cc)
    go false e k more = rw e (more (rw e at k))

voice-actor : (v : ℕ) → voice (actor v) ≡ v
voice-actor zero = refl
voice-actor (suc c) = omega arith

-- after an actor come the agents behind it, the dispatcher, and the agents up to it
pub circle : (head : Head) (v : ℕ) → after_actor head (actor v) ≡ drop v (agents_of head) ++ Dispatcher ∷ take v (agents_of head)
circle head v =
    let e : voice (actor v) + 1 ≡ suc v = omega (arith, voice-actor v) in
    ap (λ (n : ℕ). drop n (actors head) ++ take n (actors head)) e

module _ (head : Head) (p : Who → Bool) (v : ℕ) where
  parts : find p (after_actor head (actor v)) ≡ option_or (find p (drop v (agents_of head))) (find p (Dispatcher ∷ take v (agents_of head)))
  parts = ap (find p) (circle head v) ∙ find-append p (drop v (agents_of head)) (Dispatcher ∷ take v (agents_of head))

  pub found-behind : (who : Who) → find p (drop v (agents_of head)) ≡ Some who → find p (after_actor head (actor v)) ≡ Some who
  found-behind who f = parts ∙ ap (λ (o : Option Who). option_or o (find p (Dispatcher ∷ take v (agents_of head)))) f

  past : find p (drop v (agents_of head)) ≡ None → find p (after_actor head (actor v)) ≡ find p (Dispatcher ∷ take v (agents_of head))
  past f = parts ∙ ap (λ (o : Option Who). option_or o (find p (Dispatcher ∷ take v (agents_of head)))) f

  pub found-dispatcher : find p (drop v (agents_of head)) ≡ None → p Dispatcher ≡ true → find p (after_actor head (actor v)) ≡ Some Dispatcher
  found-dispatcher f able = past f ∙ find-here p Dispatcher (take v (agents_of head)) able

  pub found-before : (who : Who) → find p (drop v (agents_of head)) ≡ None → p Dispatcher ≡ false → find p (take v (agents_of head)) ≡ Some who
      → find p (after_actor head (actor v)) ≡ Some who
  found-before who f unable g = past f ∙ (find-past p Dispatcher (take v (agents_of head)) unable ∙ g)

  -- where none was found, nobody could act
  pub nobody : find p (drop v (agents_of head)) ≡ None → p Dispatcher ≡ false → find p (take v (agents_of head)) ≡ None
      → list_any p (actors head) ≡ false
  nobody f unable g =
      let both : find p (take v (agents_of head) ++ drop v (agents_of head)) ≡ None =
      find-append p (take v (agents_of head)) (drop v (agents_of head))
      ∙ (ap (λ (o : Option Who). option_or o (find p (drop v (agents_of head)))) g ∙ f) in
      let all : find p (agents_of head) ≡ None = subst (λ (l : List Who). find p l ≡ None) (take-append-drop v (agents_of head)) both in
      rw unable (none-any p (agents_of head) all)

-- ---- before the first entry

still : (head : Head) (ls : List Line) (cs : List Conn) → list_any (can_act head (start head) ls) (map Agent cs) ≡ false
still head ls [] = refl
still head ls (c ∷ cs) = still head ls cs

-- at the start the dispatcher alone can act
pub first-leads : (head : Head) (ls : List Line) → list_any (can_act head (start head) ls) (actors head) ≡ true
    → can_act head (start head) ls Dispatcher ≡ true
first-leads head ls some = go (can_act head (start head) ls Dispatcher) (still head ls (conns head)) some where
  go : (b : Bool) → list_any (can_act head (start head) ls) (map Agent (conns head)) ≡ false
      → (b || list_any (can_act head (start head) ls) (map Agent (conns head))) ≡ true → b ≡ true
  go true none h = refl
  go false none h = absurd (both_ways _ none h)
