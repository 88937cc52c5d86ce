-- At a lock limit a connection has its entry: an escalation on the prey, whose table is held, or -912.
use Rattle.std.proofs.Common.{◌≡◌, ◌≤◌, ◌+◌, ℕ, Bool, true, false, not, ◌&&◌, ◌||◌, if◌then◌else◌, List, [], ◌∷◌, refl, ap, sym, ◌∙◌, subst, arith, is_some, Some, None, Option, option_map, find}
use Rattle.std.specs.List.{list_all}
use Rattle.std.specs.Option.{option_map_or}
use Rattle.std.specs.Prelude.{is_none, nat_le, nat_lt}
use Rattle.std.proofs.lemmas.Bool.{and_parts}
use Rattle.std.proofs.lemmas.Bool.Decides.{nat_tests}
use Rattle.iso_history.proofs.locks.Finds.{find-here, find-is, find-past, none-counts}
use Rattle.iso_history.proofs.locks.Same.{name_same, table_is}
use Rattle.iso_history.specs.Facts.{HoldsBacked, IsSound, LocksSound}
use Rattle.iso_history.specs.Legal.{ByAgent, Runs}
use Rattle.iso_history.specs.Outcomes.{at_limit, escalated_by, limited_by}
use Rattle.iso_history.specs.Requests.{Outcome, asking, escalation, is_had, is_limited, is_pressed, need_of, request, table_mode}
use Rattle.iso_history.specs.Requests.Outcome.{Gives, Limit}
use Rattle.iso_history.specs.Shares.{SharesHold}
use Rattle.iso_history.specs.World.{World}
use Rattle.iso_history.specs.Writes.{minus}
use Rattle.iso_history.specs.declared.entry.Act.TheVariants.{Lock, Refused}
use Rattle.iso_history.specs.declared.entry.Got.{Got}
use Rattle.iso_history.specs.declared.entry.Why.TheVariants.{Escalation}
use Rattle.iso_modes.specs.Modes.{at_least, escalated}
use Rattle.iso_modes.specs.Terms.{is_brief}
use Rattle.iso_modes.specs.declared.Mode.{Mode}
use Rattle.iso_modes.specs.declared.Mode.TheVariants.{X}
use Rattle.iso_modes.specs.declared.Term.TheVariants.{Kept}
use Rattle.iso_queue.specs.Limits.{all_taken, prey, taken, weight}
use Rattle.iso_queue.specs.Locks.{Hold, held, hold_on, is_held, is_hold_of, target}
use Rattle.iso_queue.specs.Queues.{would_wait}
use Rattle.iso_types.specs.Head.{is_on, lock_share, lock_slots, table_of, tables}
use Rattle.iso_types.specs.Ids.{conn_eq, table_eq}
use Rattle.iso_types.specs.declared.head.Head.{Head}
use Rattle.iso_types.specs.declared.value.Conn.{Conn}
use Rattle.iso_types.specs.declared.value.Name.{Name}
use Rattle.iso_types.specs.declared.value.Name.TheVariants.{Table}
use Rattle.iso_types.specs.declared.value.TableId.{TableId}

-- what is at the limit is so with a greater need
at-more : (a b t u j k : ℕ) → j ≤ k → (nat_lt a (t + j) || nat_lt b (u + j)) ≡ true → (nat_lt a (t + k) || nat_lt b (u + k)) ≡ true
at-more a b t u j k le h = go (nat_lt a (t + j)) (nat_lt b (u + j)) refl refl h
  where
    or-right : (x y : Bool) → y ≡ true → (x || y) ≡ true
    or-right true y e = refl
    or-right false y e = e

    go : (x y : Bool) → nat_lt a (t + j) ≡ x → nat_lt b (u + j) ≡ y → (x || y) ≡ true → (nat_lt a (t + k) || nat_lt b (u + k)) ≡ true
    go true y e f h = let first : nat_lt a (t + k) ≡ true = grind (arith, nat_tests, e, le) in rw first refl
    go false true e f h = let second : nat_lt b (u + k) ≡ true = grind (arith, nat_tests, f, le) in or-right (nat_lt a (t + k)) (nat_lt b (u + k)) second
    go false false e f h = cc

-- a request that is at the limit is so by its need
limited_by_need : (had limited waits may_wait : Bool) (q : Mode)
    → (if had then Gives Got.Granted else if limited then Limit else if not waits then Gives Got.Granted else
    if may_wait then Gives (Got.Queued q) else Gives Got.TimedOut) ≡ Limit
    → limited ≡ true
limited_by_need true limited waits may_wait q e = cc
limited_by_need false true waits may_wait q e = refl
limited_by_need false false true true q e = cc
limited_by_need false false true false q e = cc
limited_by_need false false false may_wait q e = cc

-- where one test finds an element that another passes, that finds one too
found-too : {A : Type 0} (p q : A → Bool) (xs : List A) (y : A) → find q xs ≡ Some y → p y ≡ true → (z : A) × (find p xs ≡ Some z)
found-too p q [] y e k = cc
found-too p q (x ∷ xs) y e k = go (p x) refl (q x) refl (found-too p q xs y)
  where
    go : (b : Bool) → p x ≡ b → (d : Bool) → q x ≡ d → (find q xs ≡ Some y → p y ≡ true → (z : _) × (find p xs ≡ Some z))
        → (z : _) × (find p (x ∷ xs) ≡ Some z)
    go true f d g ih = (x, find-here p x xs f)
    go false f true g ih = let is : Some x ≡ Some y = sym (find-here q x xs g) ∙ e in let same : x ≡ y = cc in cc (sym f ∙ ap p same ∙ k)
    go false f false g ih = let r = ih (sym (find-past q x xs g) ∙ e) k in (r.0, find-past p x xs f ∙ r.1)

module _ (head : Head) (w : World) (c : Conn) where
  -- a need of some names at the limit is one of five, the most that a step may need
  pub pressed-by : (k : ℕ) → is_limited head w c k ≡ true → k ≤ 5 → is_pressed head w c ≡ true
  pressed-by k e le =
      at-more (lock_share head.config) (lock_slots head.config) (taken w.holds w.waits c) (all_taken head w.holds w.waits) k 5 le e

  -- a need of no name is never at the limit
  pub no-need : SharesHold head w → is_limited head w c 0 ≡ false
  no-need s =
      let one = s.each c in
      let all = s.total in
      let a : nat_lt (lock_share head.config) (taken w.holds w.waits c + 0) ≡ false = least (lock_share head.config) (taken w.holds w.waits c) one in
      let b : nat_lt (lock_slots head.config) (all_taken head w.holds w.waits + 0) ≡ false =
      least (lock_slots head.config) (all_taken head w.holds w.waits) all in
      rw (a, b) refl
    where
      least : (m n : ℕ) → n ≤ m → nat_lt m (n + 0) ≡ false
      least m n le = grind (arith, nat_tests, le)

  -- so a request on a name that is held never is
  pub held-gives : SharesHold head w → (n : Name) (m : Mode) → is_held w.holds c n ≡ true → (got : Got) × (request head w c n m ≡ Gives got)
  held-gives s n m is = go (request head w c n m) refl
    where
      go : (o : Outcome) → request head w c n m ≡ o → (got : Got) × (request head w c n m ≡ Gives got)
      go (Gives got) e = (got, e)
      go Limit e =
          let limited = limited_by_need (is_had head w c n m) (is_limited head w c (need_of w c n)) (would_wait w.holds w.waits (asking w c n m))
          (w.setting c).may_wait (target w.holds c n m) e in
          let none : need_of w c n ≡ 0 = rw is refl in
          let free : is_limited head w c (need_of w c n) ≡ false = ap (is_limited head w c) none ∙ no-need s in
          cc (sym free ∙ limited)

  -- the table of the prey is held
  pub prey-held : LocksSound head w → (t : TableId) → prey head w.holds c ≡ Some t → is_held w.holds c (Table t) ≡ true
  unfolding HoldsBacked is_hold_of
  prey-held s t e = backed (found (find some_hold w.holds) refl)
    where
      -- a hold that counts for the weight
      some_hold : Hold → Bool
      some_hold h = conn_eq h.conn c && (is_on head t h.name && not (is_brief h.term))

      heavy : nat_lt 0 (weight head w.holds c t) ≡ true
      heavy = (and_parts _ _ (find-is
          (λ u. nat_lt 0 (weight head w.holds c u) && list_all (λ v. nat_le (weight head w.holds c v) (weight head w.holds c u)) (tables head))
          (tables head) t e)).0

      found : (o : Option Hold) → find some_hold w.holds ≡ o → (h : Hold) × (find some_hold w.holds ≡ Some h)
      found (Some h) k = (h, k)
      found None k =
          let none : weight head w.holds c t ≡ 0 = none-counts some_hold w.holds k in
          let zero_less : nat_lt 0 0 ≡ true = rw none at heavy in
          cc

      on-table : (o : Option TableId) → option_map_or (λ u. table_eq u t) o false ≡ true → o ≡ Some t
      on-table None k = cc
      on-table (Some u) k = ap Some (table_is u t k)

      own-of : (h : Hold) → conn_eq h.conn c ≡ true → is_hold_of c h.name h ≡ true
      own-of h k = rw (k, name_same h.name) refl

      some-held : (o : Option Hold) (low : Mode) → option_map_or (λ m. at_least m low) (option_map (λ h. h.mode) o) false ≡ true → is_some o ≡ true
      some-held None low k = cc
      some-held (Some h) low k = refl

      backed : (h : Hold) × (find some_hold w.holds ≡ Some h) → is_held w.holds c (Table t) ≡ true
      backed p =
          let h = p.0 in
          let counts = and_parts _ _ (find-is some_hold w.holds h p.1) in
          let on = on-table (table_of head h.name) ((and_parts _ _ counts.1).0) in
          let own : is_hold_of c h.name h ≡ true = own-of h counts.0 in
          let z = found-too (is_hold_of c h.name) some_hold w.holds h p.1 own in
          some-held (hold_on w.holds c (Table t)) (table_mode z.0.mode) (s.backed c h.name t z.0 on z.1)

  -- the mode of the prey's escalation
  abbrev prey_mode : TableId → Mode
  prey_mode t = option_map_or escalated (held w.holds c (Table t)) X

  -- where there is a prey, its escalation
  pub pressed-escalation : LocksSound head w → SharesHold head w → Runs w c → is_pressed head w c ≡ true → (t : TableId)
      → prey head w.holds c ≡ Some t → ByAgent head w c (at_limit head w c)
  pressed-escalation s shares runs pressed t e =
      let g = held-gives shares (Table t) (prey_mode t) (prey-held s t e) in
      let chosen : escalation head w c ≡ Some (t, prey_mode t) = rw e refl in
      let act : at_limit head w c ≡ Lock (Table t) (prey_mode t) Kept Escalation g.0 =
      ap (limited_by head w c) chosen ∙ ap (escalated_by t (prey_mode t)) g.1 in
      subst (ByAgent head w c) (sym act) (runs, (refl, (pressed, chosen, g.1)))

  -- where there is none, it is refused
  pub pressed-refusal : Runs w c → is_pressed head w c ≡ true → prey head w.holds c ≡ None → ByAgent head w c (at_limit head w c)
  pressed-refusal runs pressed e =
      let chosen : escalation head w c ≡ None = rw e refl in
      let act : at_limit head w c ≡ Refused (minus 912) = ap (limited_by head w c) chosen in
      subst (ByAgent head w c) (sym act) (runs, refusal)
    where
      refusal : (is_pressed head w c && is_none (prey head w.holds c)) ≡ true
      refusal = rw (pressed, e) refl

  -- what a step records at the limit may stand
  pub pressed-stands : LocksSound head w → SharesHold head w → Runs w c → is_pressed head w c ≡ true → ByAgent head w c (at_limit head w c)
  pressed-stands s shares runs pressed = go (prey head w.holds c) refl
    where
      go : (o : Option TableId) → prey head w.holds c ≡ o → ByAgent head w c (at_limit head w c)
      go None e = pressed-refusal runs pressed e
      go (Some t) e = pressed-escalation s shares runs pressed t e

  pub limit-stands : IsSound head w → SharesHold head w → Runs w c → (k : ℕ) → is_limited head w c k ≡ true → k ≤ 5
      → ByAgent head w c (at_limit head w c)
  limit-stands s shares runs k limited le = pressed-stands s.locks shares runs (pressed-by k limited le)

  -- so it does where a request is at the limit
  pub request-stands : IsSound head w → SharesHold head w → Runs w c → (n : Name) (m : Mode) → request head w c n m ≡ Limit
      → ByAgent head w c (at_limit head w c)
  request-stands s shares runs n m e =
      limit-stands s shares runs (need_of w c n)
      (limited_by_need (is_had head w c n m) (is_limited head w c (need_of w c n)) (would_wait w.holds w.waits (asking w c n m)) (w.setting c).may_wait
      (target w.holds c n m) e) (few (is_held w.holds c n))
    where
      few : (b : Bool) → (if b then 0 else 1) ≤ 5
      few true = omega arith
      few false = omega arith
