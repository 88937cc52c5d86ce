-- Waits that are alike: what is seen of them, and what is done to them.
use Rattle.std.proofs.Common.{◌≡◌, ◌≤◌, ◌+◌, ℕ, Bool, true, false, not, ◌&&◌, List, [], ◌∷◌, refl, ap, sym, ◌∙◌, arith}
use Rattle.std.specs.Option.{option_map_or}
use Rattle.std.specs.Prelude.{count_by, filter, find, if◌then◌else◌, is_some, sum_by, take_while, Option, None, Some}
use Rattle.std.proofs.lemmas.List.Sums.{sum_by-cons}
use Rattle.iso_locklist.specs.Lists.{HoldsAlike, WaitsAlike}
use Rattle.iso_locklist.specs.Places.{one}
use Rattle.iso_locklist.proofs.Alike.{alike_count, alike_find, count_parts}
use Rattle.iso_locklist.proofs.AlikeHolds.{alike_hold_on}
use Rattle.iso_lines.proofs.Names.{name_like, name_same}
use Rattle.iso_locklist.proofs.Settles.{gone, kept}
use Rattle.iso_locklist.proofs.Taken.{count_cons}
use Rattle.iso_locklist.proofs.Waits.{apart, pass, stop}
use Rattle.iso_queue.specs.Limits.{all_taken, taken}
use Rattle.iso_queue.specs.Locks.{Hold, is_held}
use Rattle.iso_queue.specs.Queues.{Wait, is_new_beside, queue, queued, wait_of}
use Rattle.iso_types.specs.Head.{conns}
use Rattle.iso_types.specs.Ids.{conn_eq, name_eq}
use Rattle.iso_types.specs.declared.head.Head.{Head}
use Rattle.iso_types.specs.declared.value.Conn.{Conn}
use Rattle.iso_types.specs.declared.value.Name.{Name}

abbrev name : Wait → Name
name x = x.name

-- the connection's own, and those of other names
abbrev pub own : Conn → Wait → Bool
own c y = conn_eq y.conn c

abbrev pub beside : Name → List Wait → List Wait
beside n ys = filter (λ y. not (name_eq y.name n)) ys

keep : (n : Name) (y : Wait) (ys : List Wait) → name_eq y.name n ≡ true → queue (y ∷ ys) n ≡ y ∷ queue ys n
keep n y ys e = rw e refl

leave : (n : Name) (y : Wait) (ys : List Wait) → name_eq y.name n ≡ false → queue (y ∷ ys) n ≡ queue ys n
leave n y ys e = rw e refl

-- ---- a wait that is added
before : (hs : List Hold) (x y : Wait) (ys : List Wait) → (is_held hs x.conn x.name && is_new_beside hs x y) ≡ true → queued hs x (y ∷ ys) ≡ x ∷ y ∷ ys
before hs x y ys e = rw e refl

past : (hs : List Hold) (x y : Wait) (ys : List Wait) → (is_held hs x.conn x.name && is_new_beside hs x y) ≡ false → queued hs x (y ∷ ys) ≡ y ∷ queued hs x ys
past hs x y ys e = rw e refl

beside_name : (a b d : Bool) → (a && (b && d)) ≡ true → b ≡ true
beside_name true true d e = refl
beside_name true false d e = cc
beside_name false b d e = cc

-- it is added to those of its name
pub queued_at : (hs : List Hold) (x : Wait) (ys : List Wait) (n : Name) → name_eq x.name n ≡ true → queue (queued hs x ys) n ≡ queued hs x (queue ys n)
queued_at hs x [] n same = keep n x [] same
queued_at hs x (y ∷ ys) n same = go (is_held hs x.conn x.name && is_new_beside hs x y) (name_eq y.name n) refl refl (queued_at hs x ys n same)
  where
    go : (b d : Bool) → (is_held hs x.conn x.name && is_new_beside hs x y) ≡ b → name_eq y.name n ≡ d
        → queue (queued hs x ys) n ≡ queued hs x (queue ys n) → queue (queued hs x (y ∷ ys)) n ≡ queued hs x (queue (y ∷ ys) n)
    go true d e f ih =
        let here : name_eq y.name n ≡ true = name_like y.name x.name n (beside_name (is_held hs x.conn x.name) (name_eq y.name x.name) (not
        (is_held hs y.conn y.name)) e) ∙ same in
        ap (λ l. queue l n) (before hs x y ys e) ∙ keep n x (y ∷ ys) same ∙ ap (λ (l : List Wait). x ∷ l) (keep n y ys here)
        ∙ sym (ap (queued hs x) (keep n y ys here) ∙ before hs x y (queue ys n) e)
    go false true e f ih =
        ap (λ l. queue l n) (past hs x y ys e) ∙ keep n y (queued hs x ys) f ∙ ap (λ (l : List Wait). y ∷ l) ih
        ∙ sym (ap (queued hs x) (keep n y ys f) ∙ past hs x y (queue ys n) e)
    go false false e f ih =
        ap (λ l. queue l n) (past hs x y ys e) ∙ leave n y (queued hs x ys) f ∙ ih ∙ ap (queued hs x) (sym (leave n y ys f))

-- and to no others
pub queued_beside : (hs : List Hold) (x : Wait) (ys : List Wait) (p : Wait → Bool) → p x ≡ false → filter p (queued hs x ys) ≡ filter p ys
queued_beside hs x [] p ne = gone p x [] ne
queued_beside hs x (y ∷ ys) p ne = go (is_held hs x.conn x.name && is_new_beside hs x y) (p y) refl refl (queued_beside hs x ys p ne)
  where
    go : (b d : Bool) → (is_held hs x.conn x.name && is_new_beside hs x y) ≡ b → p y ≡ d → filter p (queued hs x ys) ≡ filter p ys
        → filter p (queued hs x (y ∷ ys)) ≡ filter p (y ∷ ys)
    go true d e f ih = ap (filter p) (before hs x y ys e) ∙ gone p x (y ∷ ys) ne
    go false true e f ih = ap (filter p) (past hs x y ys e) ∙ kept p y (queued hs x ys) f ∙ ap (λ (l : List Wait). y ∷ l) ih ∙ sym (kept p y ys f)
    go false false e f ih = ap (filter p) (past hs x y ys e) ∙ gone p y (queued hs x ys) f ∙ ih ∙ sym (gone p y ys f)

module _ (hs gs : List Hold) (holds : HoldsAlike hs gs) where
  held_alike : (c : Conn) (n : Name) → is_held hs c n ≡ is_held gs c n
  held_alike c n = ap (λ (o : Option Hold). is_some o) (alike_hold_on hs gs holds c n)

-- ---- edges
-- the earlier waiters of a name, where no wait of another name is the connection's own
pub ahead_at : (c : Conn) (n : Name) (ys : List Wait) → count_by (own c) (beside n ys) ≡ 0 → queue (take_while (apart c) ys) n
    ≡ take_while (apart c) (queue ys n)
ahead_at c n [] none = refl
ahead_at c n (y ∷ ys) none = go (name_eq y.name n) (conn_eq y.conn c) refl refl (ahead_at c n ys)
  where
    go : (a b : Bool) → name_eq y.name n ≡ a → conn_eq y.conn c ≡ b
        → (count_by (own c) (beside n ys) ≡ 0 → queue (take_while (apart c) ys) n ≡ take_while (apart c) (queue ys n))
        → queue (take_while (apart c) (y ∷ ys)) n ≡ take_while (apart c) (queue (y ∷ ys) n)
    go true true e f ih =
        ap (λ l. queue l n) (stop (apart c) y ys (ap not f)) ∙ sym (ap (take_while (apart c)) (keep n y ys e) ∙ stop (apart c) y (queue ys n) (ap not f))
    go true false e f ih =
        ap (λ l. queue l n) (pass (apart c) y ys (ap not f)) ∙ keep n y (take_while (apart c) ys) e
        ∙ ap (λ (l : List Wait). y ∷ l) (ih (sym (ap (count_by (own c)) (gone (λ z. not (name_eq z.name n)) y ys (ap not e))) ∙ none))
        ∙ sym (ap (take_while (apart c)) (keep n y ys e) ∙ pass (apart c) y (queue ys n) (ap not f))
    go false true e f ih =
        let first : one (own c y) ≡ 1 = ap one f in
        absurd (omega (arith, first, none, ap (count_by (own c)) (kept (λ z. not (name_eq z.name n)) y ys (ap not e)), count_cons (own c) y (beside n ys)))
    go false false e f ih =
        let rest : count_by (own c) (beside n ys) ≡ 0 =
        omega (arith, none, ap (count_by (own c)) (kept (λ z. not (name_eq z.name n)) y ys (ap not e)), count_cons (own c) y (beside n ys)) in
        ap (λ l. queue l n) (pass (apart c) y ys (ap not f)) ∙ leave n y (take_while (apart c) ys) e ∙ ih rest
        ∙ ap (take_while (apart c)) (sym (leave n y ys e))

-- the wait that is found is among those of its name
pub found_count : (c : Conn) (n : Name) (x : Wait) (ys : List Wait) → find (own c) ys ≡ Some x → name_eq x.name n ≡ true → 1 ≤ count_by (own c) (queue ys n)
found_count c n x [] some e = cc
found_count c n x (y ∷ ys) some e = go (conn_eq y.conn c) (name_eq y.name n) refl refl (found_count c n x ys)
  where
    first : conn_eq y.conn c ≡ true → find (own c) (y ∷ ys) ≡ Some y
    first f = rw f refl

    later : conn_eq y.conn c ≡ false → find (own c) (y ∷ ys) ≡ find (own c) ys
    later f = rw f refl

    go : (a b : Bool) → conn_eq y.conn c ≡ a → name_eq y.name n ≡ b
        → (find (own c) ys ≡ Some x → name_eq x.name n ≡ true → 1 ≤ count_by (own c) (queue ys n)) → 1 ≤ count_by (own c) (queue (y ∷ ys) n)
    go true true f g ih =
        let here : one (own c y) ≡ 1 = ap one f in
        omega (arith, here, ap (count_by (own c)) (keep n y ys g), count_cons (own c) y (queue ys n))
    go true false f g ih =
        let same : name_eq y.name n ≡ name_eq x.name n = ap (λ (o : Option Wait). option_map_or (λ z. name_eq z.name n) o true) (sym (first f) ∙ some) in
        cc (sym g ∙ same ∙ e)
    go false true f g ih = omega (arith, ih (sym (later f) ∙ some) e, ap (count_by (own c)) (keep n y ys g), count_cons (own c) y (queue ys n))
    go false false f g ih = omega (arith, ih (sym (later f) ∙ some) e, ap (count_by (own c)) (leave n y ys g))

-- no other wait of the connection, where it has one at most
pub none_beside : (c : Conn) (x : Wait) (ys : List Wait) → count_by (own c) ys ≤ 1 → wait_of ys c ≡ Some x → count_by (own c) (beside x.name ys) ≡ 0
none_beside c x ys le some =
    omega (arith, le, found_count c x.name x ys some (name_same x.name), count_parts (own c) (λ y. name_eq y.name x.name) ys)

module _ (hs gs : List Hold) (holds : HoldsAlike hs gs) (xs ys : List Wait) (same : WaitsAlike xs ys) where
  pub alike_wait_of : (c : Conn) → count_by (own c) xs ≤ 1 → wait_of xs c ≡ wait_of ys c
  alike_wait_of c le = alike_find name (own c) xs ys same le

  pub alike_taken : (c : Conn) → count_by (own c) xs ≤ 1 → taken hs xs c ≡ taken gs ys c
  alike_taken c le =
      ap (λ (k : ℕ). k + option_map_or (λ x. if is_held hs c x.name then 0 else 1) (wait_of xs c) 0) (alike_count (λ h. h.name)
      (λ h. conn_eq h.conn c) hs gs holds)
      ∙ ap (λ (o : Option Wait). count_by (λ h. conn_eq h.conn c) gs + option_map_or (λ x. if is_held hs c x.name then 0 else 1) o 0)
      (alike_wait_of c le)
      ∙ go (wait_of ys c)
    where
      go : (o : Option Wait) → count_by (λ (h : Hold). conn_eq h.conn c) gs + option_map_or (λ x. if is_held hs c x.name then 0 else 1) o 0
          ≡ count_by (λ (h : Hold). conn_eq h.conn c) gs + option_map_or (λ x. if is_held gs c x.name then 0 else 1) o 0
      go None = refl
      go (Some x) = ap (λ (b : Bool). count_by (λ (h : Hold). conn_eq h.conn c) gs + (if b then 0 else 1)) (held_alike hs gs holds c x.name)

  pub alike_all_taken : (head : Head) → ((c : Conn) → count_by (own c) xs ≤ 1) → all_taken head hs xs ≡ all_taken head gs ys
  alike_all_taken head alone = sums (conns head)
    where
      sums : (cs : List Conn) → sum_by (taken hs xs) cs ≡ sum_by (taken gs ys) cs
      sums [] = refl
      sums (c ∷ cs) = sum_by-cons (taken hs xs) c cs ∙ ap (λ (k : ℕ). k + sum_by (taken hs xs) cs) (alike_taken c (alone c))
          ∙ ap (λ (k : ℕ). taken gs ys c + k) (sums cs) ∙ sym (sum_by-cons (taken gs ys) c cs)
