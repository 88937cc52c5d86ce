-- The wait of a connection and its edges, in lines that stand for holds and waits.
use Rattle.std.proofs.Common.{◌≡◌, ◌+◌, ◌^◌, ◌∙◌, ℕ, zero, suc, Bool, true, false, not, ◌&&◌, ◌||◌, List, [], ◌∷◌, Bor, IfNone, IfSome, filter, map, refl, ap, sym, subst, true≢false}
use Rattle.std.specs.List.{list_any}
use Rattle.std.specs.Option.{option_map, option_map_or, option_or}
use Rattle.std.specs.Prelude.{count_by, find, if◌then◌else◌, is_some, take_while, Option, None, Some}
use Rattle.std.proofs.lemmas.Bool.{eqb-true}
use Rattle.std.proofs.lemmas.Cmp.{nat_eq_equiv}
use Rattle.std.proofs.lemmas.List.Folds.{list_any-append}
use Rattle.iso_locklist.specs.Holding.{AreLines, WaitsOnce}
use Rattle.iso_locklist.specs.Lists.{named_hold, named_wait}
use Rattle.iso_locklist.proofs.Alike.{find_parts}
use Rattle.iso_locklist.proofs.AlikeHolds.{opposed}
use Rattle.iso_locklist.proofs.AlikeWaits.{ahead_at, beside, none_beside, own}
use Rattle.iso_locklist.proofs.Lists.{any_map, any_seek, name_same, seek_map}
use Rattle.iso_locklist.proofs.Settles.{gone, kept}
use Rattle.iso_locklist.proofs.Waits.{apart, found_true, pass, stop}
use Rattle.iso_modes.specs.Modes.{compatible}
use Rattle.iso_queue.specs.Lines as lines
use Rattle.iso_queue.specs.Lines.{Line, bits_of, is_waiter, waiter_of}
use Rattle.iso_queue.specs.Locks.{Hold}
use Rattle.iso_queue.specs.Queues.{Wait, ahead, blockers, has_edge, is_grantable, opposes, queue, wait_of}
use Rattle.iso_queue.specs.declared.types.Waiter.{Waiter}
use Rattle.iso_types.specs.Ids.{conn_eq, name_eq}
use Rattle.iso_types.specs.declared.value.Conn.{Conn}
use Rattle.iso_types.specs.declared.value.Name.{Name}

-- the waiters before a connection's own, each with its name
before_named : (n : Name) (c : Conn) (ws : List Waiter) → take_while (apart c) (map (named_wait n) ws) ≡ map (named_wait n) (lines.before ws c)
before_named n c [] = refl
before_named n c (w ∷ ws) = by (conn_eq w.conn c) refl (before_named n c ws)
  where
    put : (b : Bool) → conn_eq w.conn c ≡ b → lines.before (w ∷ ws) c ≡ (if b then [] else w ∷ lines.before ws c)
    put b e = ap (λ (a : Bool). if a then [] else w ∷ lines.before ws c) e

    by : (b : Bool) → conn_eq w.conn c ≡ b → take_while (apart c) (map (named_wait n) ws) ≡ map (named_wait n) (lines.before ws c)
        → take_while (apart c) (map (named_wait n) (w ∷ ws)) ≡ map (named_wait n) (lines.before (w ∷ ws) c)
    by true e ih = stop (apart c) (named_wait n w) (map (named_wait n) ws) (ap not e) ∙ sym (ap (map (named_wait n)) (put true e))
    by false e ih =
        pass (apart c) (named_wait n w) (map (named_wait n) ws) (ap not e) ∙ ap (λ (l : List Wait). named_wait n w ∷ l) ih
        ∙ sym (ap (map (named_wait n)) (put false e))

-- what is found, and passes a second test, is found among those that pass it
found_within : {Y : Type 0} (p r : Y → Bool) (ys : List Y) (x : Y) → find p ys ≡ Some x → r x ≡ true → find p (filter r ys) ≡ Some x
found_within p r [] x e f = e
found_within p r (y ∷ ys) x e f = by (p y) (r y) refl refl (found_within p r ys x)
  where
    first : p y ≡ true → find p (y ∷ ys) ≡ Some y
    first g = rw g refl

    later : p y ≡ false → find p (y ∷ ys) ≡ find p ys
    later g = rw g refl

    same : p y ≡ true → y ≡ x
    same g = cc (sym (first g) ∙ e)

    by : (a b : Bool) → p y ≡ a → r y ≡ b → (find p ys ≡ Some x → r x ≡ true → find p (filter r ys) ≡ Some x) → find p (filter r (y ∷ ys)) ≡ Some x
    by true true g h ih = ap (find p) (kept r y ys h) ∙ (rw g (ap Some (same g)))
    by true false g h ih = absurd (true≢false (sym f ∙ sym (ap r (same g)) ∙ h))
    by false true g h ih = ap (find p) (kept r y ys h) ∙ (rw g (ih (sym (later g) ∙ e) f))
    by false false g h ih = ap (find p) (gone r y ys h) ∙ ih (sym (later g) ∙ e) f

eq_turned : (c d : Conn) → conn_eq c d ≡ conn_eq d c
eq_turned c d = by (conn_eq c d) (conn_eq d c) refl refl
  where
    by : (a b : Bool) → conn_eq c d ≡ a → conn_eq d c ≡ b → conn_eq c d ≡ conn_eq d c
    by true true e f = e ∙ sym f
    by false false e f = e ∙ sym f
    by true false e f = cc (sym (nat_eq_equiv.congr c.0 d.0 c.0 e ∙ f) ∙ nat_eq_equiv.refl c.0)
    by false true e f = cc (sym (nat_eq_equiv.congr d.0 c.0 d.0 f ∙ e) ∙ nat_eq_equiv.refl d.0)

shuffled : (e a b : Bool) → (e && (a && b)) ≡ ((e && a) && b)
shuffled true a b = refl
shuffled false a b = refl

any_like : {X : Type 0} (s t : X → Bool) (xs : List X) → ((x : X) → s x ≡ t x) → list_any s xs ≡ list_any t xs
any_like s t [] same = refl
any_like s t (x ∷ xs) same = λ j. same x j || any_like s t xs same j

bits_same : (s t : Conn → Bool) (k : ℕ) → ((d : Conn) → s d ≡ t d) → bits_of s k ≡ bits_of t k
unfolding bits_of
bits_same s t zero same = refl
bits_same s t (suc k) same = λ j. bits_same s t k same j + (if same (record { 0 = k }) j then 2 ^ k else 0)

module _ (hs : List Hold) (xs : List Wait) (line : Name → Line) (are : AreLines hs xs line) where
  -- a wait that is the connection's only one
  module _ (n : Name) (w : Waiter) (none : count_by (own w.conn) (beside n xs) ≡ 0) where
    abbrev against : Hold → Bool
    against h = not (conn_eq h.conn w.conn) && not (compatible h.mode w.target)

    ahead_shown : ahead xs (named_wait n w) ≡ map (named_wait n) (lines.before (line n).waiters w.conn)
    ahead_shown = ahead_at w.conn n xs none ∙ ap (take_while (apart w.conn)) (sym (are.waits n)) ∙ before_named n w.conn (line n).waiters

    ahead_any : (t : Wait → Bool) → list_any t (ahead xs (named_wait n w)) ≡ list_any (λ v. t (named_wait n v)) (lines.before (line n).waiters w.conn)
    ahead_any t = ap (list_any t) ahead_shown ∙ any_map t (named_wait n) (lines.before (line n).waiters w.conn)

    -- holders of the name, by a test that asks for it
    holds_any : (t a : Hold → Bool) → ((h : Hold) → t h ≡ (a h && name_eq h.name n)) → list_any t hs ≡ list_any (λ h. a (named_hold n h)) (line n).holders
    holds_any t a asks = any_seek t a (λ h. name_eq h.name n) hs asks ∙ ap (list_any a) (sym (are.holds n)) ∙ any_map a (named_hold n) (line n).holders

    pub edge_shown : has_edge hs xs (named_wait n w) ≡ lines.has_edge (line n).holders (line n).waiters w
    edge_shown = λ j. holds_any (opposes (named_wait n w)) against (opposed (named_wait n w)) j || ahead_any (λ y. true) j

    -- its edge to one connection
    pub edge_to : (d : Conn) → list_any (conn_eq d) (blockers hs xs (named_wait n w)) ≡ lines.has_edge_to (line n).holders (line n).waiters w d
    edge_to d =
        let x = named_wait n w in
        let asks = (λ (h : Hold). ap (λ (b : Bool). b && opposes x h) (eq_turned d h.conn) ∙ ap (λ (b : Bool). conn_eq h.conn d && b) (opposed x h)
        ∙ shuffled (conn_eq h.conn d) (against h) (name_eq h.name n)) in
        let holds = any_map (conn_eq d) (λ (h : Hold). h.conn) (filter (opposes x) hs)
        ∙ sym (any_seek (λ (h : Hold). conn_eq d h.conn && opposes x h) (λ (h : Hold). conn_eq d h.conn) (opposes x) hs (λ h. refl))
        ∙ holds_any (λ (h : Hold). conn_eq d h.conn && opposes x h) (λ (h : Hold). conn_eq h.conn d && against h) asks in
        let waits = any_map (conn_eq d) (λ (y : Wait). y.conn) (ahead xs x) ∙ ahead_any (λ (y : Wait). conn_eq d y.conn)
        ∙ any_like (λ (v : Waiter). conn_eq d v.conn) (λ (v : Waiter). conn_eq v.conn d) (lines.before (line n).waiters w.conn) (λ v. eq_turned d v.conn) in
        list_any-append (conn_eq d) (map (λ (h : Hold). h.conn) (filter (opposes x) hs)) (map (λ (y : Wait). y.conn) (ahead xs x)) ∙ (λ j. holds j || waits j)

  module _ (c : Conn) (single : WaitsOnce xs c) where
    wait_at : (n : Name) → find (own c) (queue xs n) ≡ option_map (named_wait n) (waiter_of (line n).waiters c)
    wait_at n = ap (find (own c)) (sym (are.waits n)) ∙ seek_map (own c) (named_wait n) (line n).waiters

    -- where it waits in a name's line, that is its wait
    pub wait_there : (n : Name) (w : Waiter) → waiter_of (line n).waiters c ≡ Some w → wait_of xs c ≡ Some (named_wait n w)
    wait_there n w e =
        find_parts (own c) (λ (x : Wait). name_eq x.name n) xs single
        ∙ ap (λ (o : Option Wait). option_or o (find (own c) (filter (λ (x : Wait). not (name_eq x.name n)) xs))) (wait_at n ∙ ap (option_map (named_wait n)) e)

    -- its wait is in the line of its name
    pub line_wait : (x : Wait) → wait_of xs c ≡ Some x → (w : Waiter) × (waiter_of (line x.name).waiters c ≡ Some w) × (named_wait x.name w ≡ x)
    line_wait x e = by (waiter_of (line x.name).waiters c) refl (sym (wait_at x.name) ∙ found_within (own c) (λ y. name_eq y.name x.name) xs x e (name_same x.name))
      where
        by : (o : Option Waiter) → waiter_of (line x.name).waiters c ≡ o → option_map (named_wait x.name) (waiter_of (line x.name).waiters c) ≡ Some x
            → (w : Waiter) × (waiter_of (line x.name).waiters c ≡ Some w) × (named_wait x.name w ≡ x)
        by None f g = cc (sym (ap (option_map (named_wait x.name)) f) ∙ g)
        by (Some w) f g = (w, f, same (sym (ap (option_map (named_wait x.name)) f) ∙ g))
          where
            same : Some (named_wait x.name w) ≡ Some x → named_wait x.name w ≡ x
            same h = cc h

    -- where it waits in no name's line, it has none
    pub wait_nowhere : ((n : Name) → is_waiter (line n).waiters c ≡ false) → wait_of xs c ≡ None
    wait_nowhere idle = by (wait_of xs c) refl
      where
        by : (o : Option Wait) → wait_of xs c ≡ o → wait_of xs c ≡ None
        by None e = e
        by (Some x) e = absurd (true≢false (sym (ap (λ (o : Option Waiter). is_some o) (line_wait x e).1) ∙ idle x.name))

    -- it waits for one name
    pub waits_not : (n : Name) (w : Waiter) → waiter_of (line n).waiters c ≡ Some w → (m : Name) → name_eq n m ≡ false → is_waiter (line m).waiters c ≡ false
    waits_not n w e m unlike = by (waiter_of (line m).waiters c) refl
      where
        by : (o : Option Waiter) → waiter_of (line m).waiters c ≡ o → is_waiter (line m).waiters c ≡ false
        by None f = ap (λ (o : Option Waiter). is_some o) f
        by (Some v) f =
            let same : n ≡ m = ap (λ (o : Option Wait). option_map_or (λ (x : Wait). x.name) o n) (sym (wait_there n w e) ∙ wait_there m v f) in
            absurd (true≢false (sym (subst (λ (k : Name). name_eq n k ≡ true) same (name_same n)) ∙ unlike))

    module _ (n : Name) (w : Waiter) (e : waiter_of (line n).waiters c ≡ Some w) where
      only : count_by (own w.conn) (beside n xs) ≡ 0
      only =
          subst (λ (d : Conn). count_by (own d) (beside n xs) ≡ 0)
          (sym (ap (λ (k : ℕ). record { 0 = k }) (eqb-true w.conn.0 c.0 (found_true (λ (v : Waiter). conn_eq v.conn c) w (line n).waiters e))))
          (none_beside c (named_wait n w) xs single (wait_there n w e))

      pub grantable_at : is_grantable hs xs c ≡ lines.is_grantable (line n) c
      grantable_at =
          ap (λ (o : Option Wait). option_map_or (λ x. not (has_edge hs xs x)) o false) (wait_there n w e) ∙ ap not (edge_shown n w only)
          ∙ sym (ap (λ (o : Option Waiter). option_map_or (λ x. not (lines.has_edge (line n).holders (line n).waiters x)) o false) e)

      pub edges_shown : lines.edges_of (line n) c ≡ option_map_or (λ x. bits_of (λ d. list_any (conn_eq d) (blockers hs xs x)) 32) (wait_of xs c) 0
      edges_shown =
          ap (λ (o : Option Waiter). option_map_or (λ x. bits_of (lines.has_edge_to (line n).holders (line n).waiters x) 32) o 0) e
          ∙ bits_same (lines.has_edge_to (line n).holders (line n).waiters w) (λ d. list_any (conn_eq d) (blockers hs xs (named_wait n w))) 32 (λ d. sym (edge_to n w only d))
          ∙ sym (ap (λ (o : Option Wait). option_map_or (λ x. bits_of (λ d. list_any (conn_eq d) (blockers hs xs x)) 32) o 0) (wait_there n w e))

    -- what a search for a wait without an edge tells
    pub told_claim : (o : Option (Bor Name)) → IfSome o (λ n. lines.is_grantable (line n.now) c ≡ true) → IfNone o ((n : Name) → lines.is_grantable (line n) c ≡ false)
        → is_some o ≡ is_grantable hs xs c
    told_claim (Some n) some none = by (waiter_of (line n.now).waiters c) refl
      where
        by : (o : Option Waiter) → waiter_of (line n.now).waiters c ≡ o → true ≡ is_grantable hs xs c
        by None e = cc (sym (ap (λ (o : Option Waiter). option_map_or (λ x. not (lines.has_edge (line n.now).holders (line n.now).waiters x)) o false) e) ∙ some)
        by (Some w) e = sym (grantable_at n.now w e ∙ some)
    told_claim None some none = by (wait_of xs c) refl
      where
        by : (o : Option Wait) → wait_of xs c ≡ o → false ≡ is_grantable hs xs c
        by None e = sym (ap (λ (o : Option Wait). option_map_or (λ x. not (has_edge hs xs x)) o false) e)
        by (Some x) e = let l = line_wait x e in sym (grantable_at x.name l.0 l.1 ∙ none x.name)
