-- A request on a name that is not there yet: nobody holds or awaits it.
use Rattle.std.proofs.Common.{◌≡◌, Bool, true, false, not, ◌&&◌, ◌||◌, List, [], ◌∷◌, refl, ap, sym, ◌∙◌, arith}
use Rattle.std.specs.List.{list_any}
use Rattle.std.specs.Option.{option_map_or, option_or}
use Rattle.std.specs.Prelude.{count_by, filter, find, if◌then◌else◌, is_some, take_while, Option, None, Some}
use Rattle.std.proofs.lemmas.Cmp.{nat_eq_equiv}
use Rattle.iso_history.specs.Facts.{AreAlone, HoldsThere, WaitsThere}
use Rattle.iso_history.specs.Requests.{asking, is_limited, is_there, need_of, request}
use Rattle.iso_history.specs.Requests.Outcome.{Gives}
use Rattle.iso_history.specs.World.{World}
use Rattle.iso_history.specs.declared.entry.Got.{Got}
use Rattle.iso_locklist.proofs.Alike.{count_parts, find_parts}
use Rattle.iso_locklist.proofs.AlikeHolds.{opposed}
use Rattle.iso_locklist.proofs.AlikeWaits.{ahead_at, beside, own, queued_at, queued_beside}
use Rattle.iso_locklist.proofs.Lists.{any_seek, is_hold, name_is}
use Rattle.iso_locklist.proofs.Lists.{name_same}
use Rattle.iso_locklist.proofs.Settles.{gone, kept}
use Rattle.iso_locklist.proofs.Taken.{found}
use Rattle.iso_locklist.proofs.Waits.{apart, stop}
use Rattle.iso_modes.specs.Modes.{compatible, mode_eq}
use Rattle.iso_modes.specs.declared.Mode.{Mode}
use Rattle.iso_queue.specs.Locks.{Hold, held, hold_on, is_covered, is_hold_of, target}
use Rattle.iso_queue.specs.Queues.{Wait, ahead, is_waiting, opposes, queue, queued, wait_of, would_wait}
use Rattle.iso_types.specs.Ids.{conn_eq, name_eq}
use Rattle.iso_types.specs.declared.head.Head.{Head}
use Rattle.iso_types.specs.declared.value.Conn.{Conn}
use Rattle.iso_types.specs.declared.value.Name.{Name}
use Rattle.iso_state.proofs.LockWrites.{by-tests}

-- a name that no connection holds has no hold
none-held : (n : Name) (hs : List Hold) → ((d : Conn) → hold_on hs d n ≡ None) → filter (λ h. name_eq h.name n) hs ≡ []
none-held n [] none = refl
none-held n (h ∷ hs) none = go (name_eq h.name n) refl (none-held n hs)
  where
    own_is : name_eq h.name n ≡ true → is_hold_of h.conn n h ≡ true
    own_is e = is_hold h.conn n h ∙ both (nat_eq_equiv.refl h.conn.0) e
      where
        both : {a b : Bool} → a ≡ true → b ≡ true → (a && b) ≡ true
        both p q = rw (p, q) refl

    first : name_eq h.name n ≡ true → hold_on (h ∷ hs) h.conn n ≡ Some h
    first e = rw (own_is e) refl

    and_false : (a b : Bool) → b ≡ false → (a && b) ≡ false
    and_false true b e = e
    and_false false b e = refl

    later : name_eq h.name n ≡ false → (d : Conn) → hold_on (h ∷ hs) d n ≡ hold_on hs d n
    later e d = rw (is_hold d n h ∙ and_false (conn_eq h.conn d) (name_eq h.name n) e) refl

    go : (b : Bool) → name_eq h.name n ≡ b → (((d : Conn) → hold_on hs d n ≡ None) → filter (λ g. name_eq g.name n) hs ≡ [])
        → filter (λ g. name_eq g.name n) (h ∷ hs) ≡ []
    go true e ih = cc (sym (first e) ∙ none h.conn)
    go false e ih = gone (λ g. name_eq g.name n) h hs e ∙ ih (λ d. sym (later e d) ∙ none d)

abbrev first_or : {X : Type 0} → List X → X → X
first_or [] d = d
first_or (z ∷ zs) d = z

-- the first of those that pass passes
first-passes : {X : Type 0} (p : X → Bool) (xs ys : List X) (y : X) → filter p xs ≡ y ∷ ys → p y ≡ true
first-passes p [] ys y e = cc e
first-passes p (x ∷ xs) ys y e = go (p x) refl (first-passes p xs ys y)
  where
    go : (b : Bool) → p x ≡ b → (filter p xs ≡ y ∷ ys → p y ≡ true) → p y ≡ true
    go true f ih =
        let same : x ≡ y = ap (λ (l : List _). first_or l x) (sym (kept p x xs f) ∙ e) in
        ap p (sym same) ∙ f
    go false f ih = ih (sym (gone p x xs f) ∙ e)

module _ (head : Head) (w : World) (n : Name) (holds : HoldsThere head w) (waits : WaitsThere head w) (alone : AreAlone w.waits)
    (new : is_there head w n ≡ false) where
  nobody-holds : (d : Conn) → hold_on w.holds d n ≡ None
  unfolding HoldsThere
  nobody-holds d = go (hold_on w.holds d n) refl
    where
      go : (o : Option Hold) → hold_on w.holds d n ≡ o → hold_on w.holds d n ≡ None
      go None e = e
      go (Some h) e = cc (sym (holds d n h e) ∙ new)

  pub no-holds : filter (λ h. name_eq h.name n) w.holds ≡ []
  no-holds = none-held n w.holds nobody-holds

  pub no-waits : queue w.waits n ≡ []
  unfolding WaitsThere AreAlone
  no-waits = go (queue w.waits n) refl
    where
      go : (ys : List Wait) → queue w.waits n ≡ ys → queue w.waits n ≡ []
      go [] e = e
      go (y ∷ ys) e =
          let named : y.name ≡ n = name_is y.name n (first-passes (λ x. name_eq x.name n) w.waits ys y e) in
          let here : find (own y.conn) (y ∷ ys) ≡ Some y = rw (nat_eq_equiv.refl y.conn.0) refl in
          let told : wait_of w.waits y.conn ≡ Some y =
          find_parts (own y.conn) (λ x. name_eq x.name n) w.waits (alone y.conn)
          ∙ ap (λ (o : Option Wait). option_or o (find (own y.conn) (beside n w.waits))) (ap (find (own y.conn)) e ∙ here) in
          let there : is_there head w n ≡ true = ap (is_there head w) (sym named) ∙ waits y.conn y told in
          cc (sym there ∙ new)

  -- a request on it would not wait
  pub new-free : (c : Conn) (m : Mode) → is_waiting w.waits c ≡ false → would_wait w.holds w.waits (asking w c n m) ≡ false
  unfolding AreAlone
  new-free c m idle =
      let x = asking w c n m in
      let none : count_by (own c) w.waits ≡ 0 = found (own c) w.waits (alone c) ∙ ap (λ (b : Bool). if b then 1 else 0) idle in
      let rest : count_by (own c) (beside n (queued w.holds (asking w c n m) w.waits)) ≡ 0 =
      omega (
        arith,
        none,
        count_parts (own c) (λ y. name_eq y.name n) w.waits,
        ap (count_by (own c)) (queued_beside w.holds (asking w c n m) w.waits (λ y. not (name_eq y.name n)) (ap not (name_same n))),
      ) in
      let unopposed : list_any (opposes (asking w c n m)) w.holds ≡ false =
      any_seek (opposes (asking w c n m)) (λ (h : Hold). not (conn_eq h.conn c) && not (compatible h.mode (target w.holds c n m))) (λ
      (h : Hold). name_eq h.name n) w.holds
      (opposed (asking w c n m))
      ∙ ap (list_any (λ (h : Hold). not (conn_eq h.conn c) && not (compatible h.mode (target w.holds c n m)))) no-holds in
      let line : queue (queued w.holds (asking w c n m) w.waits) n ≡ asking w c n m ∷ [] =
      queued_at w.holds (asking w c n m) w.waits n (name_same n) ∙ ap (queued w.holds (asking w c n m)) no-waits in
      let front : ahead (queued w.holds (asking w c n m) w.waits) (asking w c n m) ≡ [] =
      ahead_at c n (queued w.holds (asking w c n m) w.waits) rest ∙ ap (take_while (apart c)) line
      ∙ stop (apart c) (asking w c n m) [] (ap not (nat_eq_equiv.refl c.0)) in
      ap (λ (b : Bool). b || list_any (λ y. true) (ahead (queued w.holds (asking w c n m) w.waits) (asking w c n m))) unopposed
      ∙ ap (list_any (λ (y : Wait). true)) front

  new-by : (covered has limited waits may : Bool) (to : Mode) → (covered ≡ false → limited ≡ false) → waits ≡ false
      → by-tests (covered || has) limited waits may to ≡ Gives Got.Granted
  new-by true h l s m to k e = refl
  new-by false true l s m to k e = refl
  new-by false false true s m to k e = cc (k refl)
  new-by false false false true m to k e = cc e
  new-by false false false false m to k e = refl

  -- it is granted where it is covered, or one more slot is not at a limit
  pub new-granted : (c : Conn) (m : Mode) → is_waiting w.waits c ≡ false → (is_covered head w.holds c n m ≡ false → is_limited head w c 1 ≡ false)
      → request head w c n m ≡ Gives Got.Granted
  new-granted c m idle room =
      let one : need_of w c n ≡ 1 = ap (λ (o : Option Hold). if is_some o then 0 else 1) (nobody-holds c) in
      new-by (is_covered head w.holds c n m) (option_map_or (mode_eq (target w.holds c n m)) (held w.holds c n) false) (is_limited head w c (need_of w c n))
      (would_wait w.holds w.waits (asking w c n m)) (w.setting c).may_wait (target w.holds c n m) (λ e. ap (is_limited head w c) one
      ∙ room e) (new-free c m idle)
