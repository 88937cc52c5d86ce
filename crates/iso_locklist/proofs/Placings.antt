-- A request, whether it is granted, and a claim, in lines that stand for holds and waits.
use Rattle.std.proofs.Common.{◌≡◌, ◌∙◌, Bool, true, false, not, ◌&&◌, ◌||◌, List, [], ◌∷◌, map, refl, ap, sym, subst, arith, if◌then◌else◌}
use Rattle.std.specs.List.{list_any}
use Rattle.std.specs.Option.{option_map, option_map_or}
use Rattle.std.specs.Prelude.{count_by, filter, is_some, Option, None, Some}
use Rattle.std.proofs.lemmas.Cmp.{nat_eq_equiv}
use Rattle.iso_lines.proofs.Worked.{worked_still}
use Rattle.iso_lines.specs.declared.tasks.Task.{Task}
use Rattle.iso_locklist.specs.Holding.{AreLines, WaitsOnce, holds_mode}
use Rattle.iso_locklist.specs.Lists.{asked_for, claimed_holds, claimed_waits, grants_in, named_hold, named_wait, waiting_for}
use Rattle.iso_locklist.specs.Places.{cancelled}
use Rattle.iso_locklist.proofs.Alike.{count_parts}
use Rattle.iso_locklist.proofs.AlikeHolds.{added_at, added_beside}
use Rattle.iso_locklist.proofs.AlikeWaits.{beside, own, queued_at, queued_beside}
use Rattle.iso_locklist.proofs.Edges.{edge_shown, grantable_at, line_wait, waits_not}
use Rattle.iso_locklist.proofs.Holding.{hold_shown, lines_cancelled, none_counted}
use Rattle.iso_locklist.proofs.Lists.{is_hold, name_is, name_same}
use Rattle.iso_modes.specs.Modes.{joined, mode_eq}
use Rattle.iso_modes.specs.declared.Mode.{Mode}
use Rattle.iso_modes.specs.declared.Term.{Term}
use Rattle.iso_modes.specs.declared.Term.TheVariants.{Brief, Kept}
use Rattle.iso_queue.specs.Lines.{Line, asked, claimed, granted, hold_of, is_granted, is_holder, queued, target_of, wait_for, waiter_of}
use Rattle.iso_queue.specs.Lines as lines
use Rattle.iso_queue.specs.Locks as locks
use Rattle.iso_queue.specs.Locks.{added}
use Rattle.iso_queue.specs.Queues as queues
use Rattle.iso_queue.specs.declared.types.Hold.{Hold}
use Rattle.iso_queue.specs.declared.types.Waiter.{Waiter}
use Rattle.iso_types.specs.Ids.{conn_eq, name_eq}
use Rattle.iso_types.specs.declared.value.Conn.{Conn}
use Rattle.iso_types.specs.declared.value.Name.{Name}

and_true : (a b : Bool) → b ≡ true → (a && b) ≡ a
and_true true b e = e
and_true false b e = refl

own_named : (c : Conn) (n : Name) (h : Hold) → locks.is_hold_of c n (named_hold n h) ≡ conn_eq h.conn c
own_named c n h = is_hold c n (named_hold n h) ∙ and_true (conn_eq h.conn c) (name_eq n n) (name_same n)

-- a grant in a line is the request added to the holds of its name
named_granted : (n : Name) (x : Hold) (hs : List Hold) → map (named_hold n) (granted hs x) ≡ added (map (named_hold n) hs) x.conn (asked_for n x.mode x.term)
named_granted n x [] = refl
named_granted n x (h ∷ hs) = go (conn_eq h.conn x.conn) refl (named_granted n x hs)
  where
    go : (b : Bool) → conn_eq h.conn x.conn ≡ b → map (named_hold n) (granted hs x) ≡ added (map (named_hold n) hs) x.conn (asked_for n x.mode x.term)
        → map (named_hold n) (granted (h ∷ hs) x) ≡ added (map (named_hold n) (h ∷ hs)) x.conn (asked_for n x.mode x.term)
    go true e ih = rw (e, own_named x.conn n h ∙ e) refl
    go false e ih = rw (e, own_named x.conn n h ∙ e) (ap (λ (l : List locks.Hold). named_hold n h ∷ l) ih)

-- a wait that queues in a line queues among those of its name
named_queued : (hs : List Hold) (all : List locks.Hold) (n : Name) → ((c : Conn) → locks.is_held all c n ≡ is_holder hs c) → (x : Waiter) (ws : List Waiter)
    → map (named_wait n) (queued hs x ws) ≡ queues.queued all (named_wait n x) (map (named_wait n) ws)
named_queued hs all n same x [] = refl
named_queued hs all n same x (w ∷ ws) = go (is_holder hs x.conn && not (is_holder hs w.conn)) refl (named_queued hs all n same x ws)
  where
    test : (locks.is_held all x.conn n && (name_eq n n && not (locks.is_held all w.conn n))) ≡ (is_holder hs x.conn && not (is_holder hs w.conn))
    test = λ j. same x.conn j && (name_same n j && not (same w.conn j))

    go : (b : Bool) → (is_holder hs x.conn && not (is_holder hs w.conn)) ≡ b
        → map (named_wait n) (queued hs x ws) ≡ queues.queued all (named_wait n x) (map (named_wait n) ws)
        → map (named_wait n) (queued hs x (w ∷ ws)) ≡ queues.queued all (named_wait n x) (map (named_wait n) (w ∷ ws))
    go true e ih = rw (e, test ∙ e) refl
    go false e ih = rw (e, test ∙ e) (ap (λ (l : List queues.Wait). named_wait n w ∷ l) ih)

-- who stands before a request does not go by its target and term
before_alike : (hs : List Hold) (c : Conn) (x y : Waiter) → x.conn ≡ c → y.conn ≡ c → (ws : List Waiter) → lines.before (queued hs x ws) c ≡ lines.before (queued hs y ws) c
before_alike hs c x y e f [] = rw (ap (λ (d : Conn). conn_eq d c) e ∙ nat_eq_equiv.refl c.0, ap (λ (d : Conn). conn_eq d c) f ∙ nat_eq_equiv.refl c.0) refl
before_alike hs c x y e f (w ∷ ws) = go (is_holder hs c && not (is_holder hs w.conn)) refl (before_alike hs c x y e f ws)
  where
    own_first : (z : Waiter) (vs : List Waiter) → z.conn ≡ c → lines.before (z ∷ vs) c ≡ []
    own_first z vs g = rw (ap (λ (d : Conn). conn_eq d c) g ∙ nat_eq_equiv.refl c.0) refl

    put : (z : Waiter) → z.conn ≡ c → (b : Bool) → (is_holder hs c && not (is_holder hs w.conn)) ≡ b → queued hs z (w ∷ ws) ≡ (if b then z ∷ w ∷ ws else w ∷ queued hs z ws)
    put z g b h = ap (λ (a : Bool). if a then z ∷ w ∷ ws else w ∷ queued hs z ws) (ap (λ (d : Conn). is_holder hs d && not (is_holder hs w.conn)) g ∙ h)

    go : (b : Bool) → (is_holder hs c && not (is_holder hs w.conn)) ≡ b → lines.before (queued hs x ws) c ≡ lines.before (queued hs y ws) c
        → lines.before (queued hs x (w ∷ ws)) c ≡ lines.before (queued hs y (w ∷ ws)) c
    go true h ih =
        ap (λ (l : List Waiter). lines.before l c) (put x e true h) ∙ own_first x (w ∷ ws) e
        ∙ sym (ap (λ (l : List Waiter). lines.before l c) (put y f true h) ∙ own_first y (w ∷ ws) f)
    go false h ih =
        ap (λ (l : List Waiter). lines.before l c) (put x e false h) ∙ ap (λ (l : List Waiter). if conn_eq w.conn c then [] else w ∷ l) ih
        ∙ sym (ap (λ (l : List Waiter). lines.before l c) (put y f false h))

target_by : (n : Name) (m : Mode) (o : Option Hold) (r : Option locks.Hold) → option_map (named_hold n) o ≡ r
    → option_map_or (λ (h : Hold). joined h.mode m) o m ≡ option_map_or (λ (a : Mode). joined a m) (option_map (λ (h : locks.Hold). h.mode) r) m
target_by n m None r e = rw (sym e) refl
target_by n m (Some h) r e = rw (sym e) refl

pub mode_by : (n : Name) (m : Mode) (o : Option Hold) (r : Option locks.Hold) → option_map (named_hold n) o ≡ r
    → option_map_or (λ (h : Hold). mode_eq (joined h.mode m) h.mode) o false
    ≡ option_map_or (mode_eq (option_map_or (λ (a : Mode). joined a m) (option_map (λ (h : locks.Hold). h.mode) r) m)) (option_map (λ (h : locks.Hold). h.mode) r) false
mode_by n m None r e = rw (sym e) refl
mode_by n m (Some h) r e = rw (sym e) refl

pub some_map : {X Y : Type 0} (f : X → Y) (o : Option X) → is_some (option_map f o) ≡ is_some o
some_map f None = refl
some_map f (Some x) = refl

-- what holds of one name, and of all others, holds of all
by_name : (n : Name) (P : Name → Type 0) → P n → ((k : Name) → name_eq n k ≡ false → P k) → (k : Name) → P k
by_name n P here past k = go (name_eq n k) refl
  where
    go : (b : Bool) → name_eq n k ≡ b → P k
    go true e = subst P (name_is n k e) here
    go false e = past k e

module _ (hs : List locks.Hold) (xs : List queues.Wait) (line : Name → Line) (are : AreLines hs xs line) (n : Name) (new : Name → Line)
    (others : (k : Name) → name_eq n k ≡ false → new k ≡ line k) where
  -- a grant
  pub added_are : (c : Conn) (m : Mode) (t : Term) → new n ≡ record { holders = granted (line n).holders (record { conn = c; mode = m; term = t }); waiters = (line n).waiters }
      → AreLines (added hs c (asked_for n m t)) xs new
  added_are c m t here = record {
    holds = by_name n (λ k. map (named_hold k) (new k).holders ≡ filter (λ h. name_eq h.name k) (added hs c (asked_for n m t)))
        (ap (λ (q : Line). map (named_hold n) q.holders) here ∙ named_granted n (record { conn = c; mode = m; term = t }) (line n).holders
        ∙ ap (λ (l : List locks.Hold). added l c (asked_for n m t)) (are.holds n) ∙ sym (added_at hs c (asked_for n m t) n (name_same n)))
        (λ k ne. ap (λ (q : Line). map (named_hold k) q.holders) (others k ne) ∙ are.holds k ∙ sym (added_beside hs c (asked_for n m t) k ne));
    waits = by_name n (λ k. map (named_wait k) (new k).waiters ≡ queues.queue xs k) (ap (λ (q : Line). map (named_wait n) q.waiters) here ∙ are.waits n)
        (λ k ne. ap (λ (q : Line). map (named_wait k) q.waiters) (others k ne) ∙ are.waits k);
  }

  -- a wait more
  pub queued_are : (x : Waiter) → new n ≡ record { holders = (line n).holders; waiters = queued (line n).holders x (line n).waiters }
      → AreLines hs (queues.queued hs (named_wait n x) xs) new
  queued_are x here = record {
    holds = by_name n (λ k. map (named_hold k) (new k).holders ≡ filter (λ h. name_eq h.name k) hs) (ap (λ (q : Line). map (named_hold n) q.holders) here ∙ are.holds n)
        (λ k ne. ap (λ (q : Line). map (named_hold k) q.holders) (others k ne) ∙ are.holds k);
    waits = by_name n (λ k. map (named_wait k) (new k).waiters ≡ queues.queue (queues.queued hs (named_wait n x) xs) k)
        (ap (λ (q : Line). map (named_wait n) q.waiters) here
        ∙ named_queued (line n).holders hs n (λ c. ap is_some (sym (hold_shown hs xs line are c n)) ∙ some_map (named_hold n) (hold_of (line n).holders c)) x (line n).waiters
        ∙ ap (queues.queued hs (named_wait n x)) (are.waits n) ∙ sym (queued_at hs (named_wait n x) xs n (name_same n)))
        (λ k ne. ap (λ (q : Line). map (named_wait k) q.waiters) (others k ne) ∙ are.waits k ∙ sym (queued_beside hs (named_wait n x) xs (λ y. name_eq y.name k) ne));
  }

module _ (hs : List locks.Hold) (xs : List queues.Wait) (line : Name → Line) (are : AreLines hs xs line) (c : Conn) (n : Name) (m : Mode) where
  asks : (t : Term) → named_wait n (wait_for (line n).holders c m t) ≡ waiting_for hs c n m t
  asks t = ap (λ (a : Mode). record { name = n; conn = c; target = a; term = t }) (target_by n m (hold_of (line n).holders c) (locks.hold_on hs c n) (hold_shown hs xs line are c n))

  pub mode_shown : lines.has_mode (line n).holders c m ≡ holds_mode hs c n m
  mode_shown = mode_by n m (hold_of (line n).holders c) (locks.hold_on hs c n) (hold_shown hs xs line are c n)

  abbrev x : Waiter
  x = wait_for (line n).holders c m Brief

  -- the lines with its wait
  abbrev with_wait : Name → Line
  with_wait k = if name_eq n k then record { holders = (line n).holders; waiters = queued (line n).holders x (line n).waiters } else line k

  -- a request is granted where it is in the lists, if its connection does not wait
  pub grants_shown : queues.is_waiting xs c ≡ false → is_granted (line n) c m ≡ grants_in hs xs c n m
  grants_shown idle = λ j. mode_shown j || not (wait j)
    where
      wait : lines.would_wait (line n).holders (line n).waiters (wait_for (line n).holders c m Kept) ≡ queues.would_wait hs xs (waiting_for hs c n m Brief)
      wait =
          let now : with_wait n ≡ record { holders = (line n).holders; waiters = queued (line n).holders x (line n).waiters } = rw (name_same n) refl in
          let stand = queued_are hs xs line are n with_wait (λ k ne. rw ne refl) x now in
          let none : count_by (own c) (beside n (queues.queued hs (named_wait n x) xs)) ≡ 0 =
          omega (
            arith,
            none_counted (own c) xs idle,
            count_parts (own c) (λ y. name_eq y.name n) xs,
            ap (count_by (own c)) (queued_beside hs (named_wait n x) xs (λ y. not (name_eq y.name n)) (ap not (name_same n))),
          ) in
          ap (λ (l : List Waiter). list_any (lines.opposes c (target_of (line n).holders c m)) (line n).holders || list_any (λ _. true) l)
          (before_alike (line n).holders c (wait_for (line n).holders c m Kept) (wait_for (line n).holders c m Brief) refl refl (line n).waiters)
          ∙ sym (edge_shown hs (queues.queued hs (named_wait n x) xs) with_wait stand n x none ∙ ap (λ (q : Line). lines.has_edge q.holders q.waiters x) now)
          ∙ ap (queues.would_wait hs xs) (asks Brief)

  -- the lists after a request
  pub asked_are : queues.is_waiting xs c ≡ false → (t : Term) (new : Name → Line) → new n ≡ asked (line n) c m t → ((k : Name) → name_eq n k ≡ false → new k ≡ line k)
      → (grants_in hs xs c n m ≡ true → AreLines (added hs c (asked_for n m t)) xs new)
      × (grants_in hs xs c n m ≡ false → AreLines hs (queues.queued hs (waiting_for hs c n m t) xs) new)
  asked_are idle t new here others = (
    λ e. added_are hs xs line are n new others c m t (here ∙ told true (grants_shown idle ∙ e)),
    λ e. subst (λ (x : queues.Wait). AreLines hs (queues.queued hs x xs) new) (asks t)
        (queued_are hs xs line are n new others (wait_for (line n).holders c m t) (here ∙ told false (grants_shown idle ∙ e))),
  )
    where
      told : (b : Bool) → is_granted (line n) c m ≡ b
          → asked (line n) c m t ≡ (if b then record { holders = granted (line n).holders (record { conn = c; mode = m; term = t }); waiters = (line n).waiters }
          else record { holders = (line n).holders; waiters = queued (line n).holders (wait_for (line n).holders c m t) (line n).waiters })
      told b e = ap (λ (a : Bool). if a then record { holders = granted (line n).holders (record { conn = c; mode = m; term = t }); waiters = (line n).waiters }
          else record { holders = (line n).holders; waiters = queued (line n).holders (wait_for (line n).holders c m t) (line n).waiters }) e

-- the lists after a claim that is granted
pub claimed_are : (hs : List locks.Hold) (xs : List queues.Wait) (line new : Name → Line) → AreLines hs xs line → (c : Conn) → WaitsOnce xs c → queues.is_grantable hs xs c ≡ true
    → ((n : Name) → new n ≡ claimed (line n) c) → AreLines (claimed_holds hs xs c) (claimed_waits hs xs c) new
claimed_are hs xs line new are c single free done = by (queues.wait_of xs c) refl
  where
    some : (x : queues.Wait) (w : Waiter) → queues.wait_of xs c ≡ Some x → waiter_of (line x.name).waiters c ≡ Some w → named_wait x.name w ≡ x
        → AreLines (claimed_holds hs xs c) (claimed_waits hs xs c) new
    some x w e f same =
        let n = x.name in
        let q = line n in
        let edge : queues.has_edge hs xs x ≡ false = from_not (queues.has_edge hs xs x) (sym (ap (λ (o : Option queues.Wait). option_map_or (λ y. not (queues.has_edge hs xs y)) o false) e) ∙ free) in
        let bare : lines.has_edge q.holders q.waiters w ≡ false = from_not (lines.has_edge q.holders q.waiters w)
        (sym (grantable_at hs xs line are c single n w f ∙ ap (λ (o : Option Waiter). option_map_or (λ y. not (lines.has_edge q.holders q.waiters y)) o false) f) ∙ free) in
        let holds : claimed_holds hs xs c ≡ added hs c (asked_for n w.target w.term) = rw (e, edge) (ap (λ (y : queues.Wait). added hs c (asked_for n y.target y.term)) (sym same)) in
        let waits : claimed_waits hs xs c ≡ queues.unqueued c xs = ap (λ (b : Bool). if b then queues.unqueued c xs else xs) free in
        let gone = lines_cancelled hs xs line (λ k. cancelled (line k) c) are c (λ k. refl) in
        let here : new n ≡ record { holders = granted q.holders (record { conn = c; mode = w.target; term = w.term }); waiters = lines.unqueued c q.waiters } =
        done n ∙ (rw (f, bare) refl) in
        let others = (λ (k : Name) (ne : name_eq n k ≡ false). done k ∙ worked_still [] Task.Claim c k (line k) (waits_not hs xs line are c single n w f k ne)
        ∙ sym (worked_still [] Task.Cancel c k (line k) (waits_not hs xs line are c single n w f k ne))) in
        subst (λ (gs : List locks.Hold). AreLines gs (claimed_waits hs xs c) new) (sym holds)
        (subst (λ (ys : List queues.Wait). AreLines (added hs c (asked_for n w.target w.term)) ys new) (sym waits)
        (added_are hs (queues.unqueued c xs) (λ k. cancelled (line k) c) gone n new others c w.target w.term here))
      where
        from_not : (b : Bool) → not b ≡ true → b ≡ false
        from_not true g = sym g
        from_not false g = refl

    by : (o : Option queues.Wait) → queues.wait_of xs c ≡ o → AreLines (claimed_holds hs xs c) (claimed_waits hs xs c) new
    by None e = cc (sym (ap (λ (o : Option queues.Wait). option_map_or (λ x. not (queues.has_edge hs xs x)) o false) e) ∙ free)
    by (Some x) e = let l = line_wait hs xs line are c single x e in some x l.0 e l.1 l.2
