-- What an allowed entry of a connection makes it take: what it takes more was not at the limit.
use Rattle.std.proofs.Common.{◌≡◌, ◌≤◌, ◌+◌, ◌⊎◌, inl, inr, ℕ, Bool, true, false, not, ◌||◌, if◌then◌else◌, List, [], ◌∷◌, refl, ap, sym, ◌∙◌, subst, arith, is_some, Some, None, Option, option_map, filter}
use Rattle.std.specs.Option.{option_map_or}
use Rattle.iso_history.proofs.facts.Taken.{gone, is_held-settled, lack, taken-filter, taken-none, taken-placed, taken-settled, taken-wait, taken_with}
use Rattle.iso_history.proofs.locks.Fits.{queued_by}
use Rattle.iso_history.proofs.locks.Holds.{held-settled}
use Rattle.iso_history.proofs.locks.Joins.{runs-alone}
use Rattle.iso_history.proofs.locks.Placing.{covered-alike}
use Rattle.iso_history.proofs.locks.Queues.{find-queued_here}
use Rattle.iso_history.proofs.locks.Same.{conn_same}
use Rattle.iso_history.proofs.locks.Stands.{is_stand}
use Rattle.iso_history.specs.Entries.{found, is_in_range, stand_of}
use Rattle.iso_history.specs.Holds.{Hand, claimed, guarded_next, holds_by_hand, looked, next_name, placed_by_want}
use Rattle.iso_history.specs.Holds.Hand.{Leaves, Places}
use Rattle.iso_history.specs.Legal.{LockStands, Runs}
use Rattle.iso_history.specs.Looks.{look, look_asks, want_asks}
use Rattle.iso_history.specs.Nexts.{next, stand_after}
use Rattle.iso_history.specs.Requests.{Outcome, asking, is_had, is_limited, need_of, request}
use Rattle.iso_history.specs.Requests.Outcome.{Gives, Limit}
use Rattle.iso_history.specs.Versions.{is_dead, versions}
use Rattle.iso_history.specs.Waits.{wait_term}
use Rattle.iso_history.specs.World.{World}
use Rattle.iso_history.specs.declared.entry.Got.{Got}
use Rattle.iso_history.specs.declared.entry.Stand.{Stand}
use Rattle.iso_history.specs.declared.entry.Stand.TheVariants.{At, Past}
use Rattle.iso_history.specs.declared.entry.Want.{Want}
use Rattle.iso_history.specs.declared.entry.Want.TheVariants.{Alter, AlterKept, Current, Dirty, Repeat, Steady}
use Rattle.iso_history.specs.declared.entry.Why.{Why}
use Rattle.iso_history.specs.declared.entry.Why.TheVariants.{Asked, Blocked, Escalation}
use Rattle.iso_modes.specs.Modes.{mode_eq}
use Rattle.iso_modes.specs.declared.Mode.{Mode}
use Rattle.iso_modes.specs.declared.Mode.TheVariants.{Ns, S, U}
use Rattle.iso_modes.specs.declared.Term.{Term}
use Rattle.iso_modes.specs.declared.Term.TheVariants.{Fresh, Kept}
use Rattle.iso_queue.specs.Limits.{taken}
use Rattle.iso_queue.specs.Locks.{Hold, Request, all_placed, hold_on, is_covered, is_held, placed, settled, target}
use Rattle.iso_queue.specs.Queues.{Wait, queued, unqueued, wait_of, would_wait}
use Rattle.iso_types.specs.Ids.{conn_eq}
use Rattle.iso_types.specs.declared.head.Head.{Head}
use Rattle.iso_types.specs.declared.head.Range.{Range}
use Rattle.iso_types.specs.declared.value.Conn.{Conn}
use Rattle.iso_types.specs.declared.value.IndexId.{IndexId}
use Rattle.iso_types.specs.declared.value.Name.{Name}
use Rattle.iso_types.specs.declared.value.Name.TheVariants.{Row, Table}
use Rattle.iso_types.specs.declared.value.Rid.{Rid}
use Rattle.iso_types.specs.declared.value.TableId.{TableId}
use Rattle.iso_types.specs.declared.value.Value.{Value}

-- with these holds and this wait the connection takes so many more names than before, which was not at the limit
pub record Takes (head : Head) (w : World) (c : Conn) (hs : List Hold) (o : Option Wait) : Type 0 where
  pub more : ℕ
  pub fits : (more ≡ 0) ⊎ (is_limited head w c more ≡ false)
  pub bound : taken_with hs c o ≤ taken w.holds w.waits c + more

-- a request that gives something is had, or its need is not at the limit
unlimited_by : (had limited waits may_wait : Bool) (q : Mode) (got : Got)
    → (if had then Gives Got.Granted else if limited then Limit else if not waits then Gives Got.Granted else
    if may_wait then Gives (Got.Queued q) else Gives Got.TimedOut) ≡ Gives got
    → (had ≡ true) ⊎ (limited ≡ false)
unlimited_by true limited waits may_wait q got e = inl refl
unlimited_by false true waits may_wait q got e = cc
unlimited_by false false waits may_wait q got e = inr refl

-- what is had takes no name
had-none : (f : Mode → Bool) (covered : Bool) (o : Option Hold) → (covered || option_map_or f (option_map (λ h. h.mode) o) false) ≡ true
    → (if covered then 0 else lack (is_some o)) ≡ 0
had-none f true o e = refl
had-none f false None e = cc
had-none f false (Some h) e = refl

if-less : (b : Bool) (k : ℕ) → (if b then 0 else k) ≤ k
if-less true k = omega arith
if-less false k = omega arith

-- a Next that stands was granted, one that queues awaits what its request awaits
stood-asked : (o : Outcome) (n : Name) (stand got : Stand) → stand_after o n stand ≡ Some got → is_stand got ≡ true → o ≡ Gives Got.Granted
stood-asked (Gives Got.Granted) n stand got e k = refl
stood-asked (Gives (Got.Queued m)) n stand got e k = let h : Stand.Queued n ≡ got = cc in cc (ap is_stand h ∙ k)
stood-asked (Gives Got.TimedOut) n stand got e k = let h : Stand.TimedOut n ≡ got = cc in cc (ap is_stand h ∙ k)
stood-asked Limit n stand got e k = cc

queued-asked : (o : Outcome) (n k : Name) (stand : Stand) → is_stand stand ≡ true → stand_after o n stand ≡ Some (Stand.Queued k)
    → (q : Mode) × (o ≡ Gives (Got.Queued q)) × (n ≡ k)
queued-asked (Gives Got.Granted) n k stand i e = let h : stand ≡ Stand.Queued k = cc in cc (sym (ap is_stand h) ∙ i)
queued-asked (Gives (Got.Queued m)) n k stand i e = (m, refl, cc)
queued-asked (Gives Got.TimedOut) n k stand i e = cc
queued-asked Limit n k stand i e = cc

stands-found : (range : Range) (p : Option (Value × Rid)) → is_stand (stand_of range p) ≡ true
stands-found range None = refl
stands-found range (Some p) = go (is_in_range range p.0)
  where
    go : (b : Bool) → is_stand (if b then At p.0 p.1 else Past) ≡ true
    go true = refl
    go false = refl

module _ (head : Head) (w : World) (c : Conn) (spare : Option Name) where
  abbrev after_settling : List Hold
  after_settling = settled c spare w.holds

  -- nothing more
  pub as-before : (hs : List Hold) (o : Option Wait) → taken_with hs c o ≤ taken w.holds w.waits c → Takes head w c hs o
  as-before hs o le = record { more = 0; fits = inl refl; bound = omega (arith, le) }

  pub leaves : Takes head w c after_settling (wait_of w.waits c)
  leaves = let same = taken-settled c spare w.holds c (wait_of w.waits c) in as-before after_settling (wait_of w.waits c) (omega (arith, same))

  pub filters : (q : Hold → Bool) → Takes head w c (filter q after_settling) (wait_of w.waits c)
  filters q =
      let same = taken-settled c spare w.holds c (wait_of w.waits c) in
      let less = taken-filter q after_settling c (wait_of w.waits c) in
      as-before (filter q after_settling) (wait_of w.waits c) (omega (arith, same, less))

  without-wait : (hs : List Hold) → Takes head w c hs None → Takes head w c hs (wait_of (unqueued c w.waits) c)
  without-wait hs t = subst (λ (o : Option Wait). Takes head w c hs o) (sym (gone c w.waits)) t

  pub quits : Takes head w c after_settling (wait_of (unqueued c w.waits) c)
  quits =
      let same = taken-settled c spare w.holds c None in
      let less = taken-none w.holds c (wait_of w.waits c) in
      without-wait after_settling (as-before after_settling None (omega (arith, same, less)))

  pub drops : (q : Hold → Bool) → Takes head w c (filter q after_settling) (wait_of (unqueued c w.waits) c)
  drops q =
      let same = taken-settled c spare w.holds c None in
      let few = taken-filter q after_settling c None in
      let less = taken-none w.holds c (wait_of w.waits c) in
      without-wait (filter q after_settling) (as-before (filter q after_settling) None (omega (arith, same, few, less)))

  -- a request takes one name where it is neither covered nor held
  abbrev one_need : Name → Mode → ℕ
  one_need n m = if is_covered head w.holds c n m then 0 else need_of w c n

  one-placed : (r : Request) (o : Option Wait) → taken_with (placed head after_settling c r) c o ≤ taken_with w.holds c o + one_need r.name r.mode
  one-placed r o =
      let more = taken-placed c r head after_settling o in
      let same = taken-settled c spare w.holds c o in
      let need : (if is_covered head after_settling c r.name r.mode then 0 else lack (is_held after_settling c r.name)) ≡ one_need r.name r.mode =
      rw (covered-alike head after_settling w.holds c r.name r.mode (held-settled c spare w.holds), is_held-settled c spare w.holds c r.name) refl in
      omega (arith, more, same, need)

  pub granted-takes : (n : Name) (m : Mode) (t : Term) → request head w c n m ≡ Gives Got.Granted
      → Takes head w c (placed head after_settling c (record { name = n; mode = m; term = t })) (wait_of w.waits c)
  granted-takes n m t e =
      go (unlimited_by (is_had head w c n m) (is_limited head w c (need_of w c n)) (would_wait w.holds w.waits (asking w c n m)) (w.setting c).may_wait
      (target w.holds c n m) Got.Granted e)
    where
      more : taken_with (placed head after_settling c (record { name = n; mode = m; term = t })) c (wait_of w.waits c)
          ≤ taken w.holds w.waits c + one_need n m
      more = one-placed (record { name = n; mode = m; term = t }) (wait_of w.waits c)

      go : (is_had head w c n m ≡ true) ⊎ (is_limited head w c (need_of w c n) ≡ false)
          → Takes head w c (placed head after_settling c (record { name = n; mode = m; term = t })) (wait_of w.waits c)
      go (inl had) =
          let none : one_need n m ≡ 0 = had-none (mode_eq (target w.holds c n m)) (is_covered head w.holds c n m) (hold_on w.holds c n) had in
          as-before (placed head after_settling c (record { name = n; mode = m; term = t })) (wait_of w.waits c) (omega (arith, more, none))
      go (inr free) =
          let less = if-less (is_covered head w.holds c n m) (need_of w c n) in
          record { more = need_of w c n; fits = inr free; bound = omega (arith, more, less) }

  -- what queues takes the name that it awaits
  pub queued-takes : (n : Name) (m q : Mode) (x : Wait) → x.conn ≡ c → x.name ≡ n → Runs w c → request head w c n m ≡ Gives (Got.Queued q)
      → Takes head w c after_settling (wait_of (queued w.holds x w.waits) c)
  queued-takes n m q x own named runs e = subst (λ (o : Option Wait). Takes head w c after_settling o) (sym joined) (record {
    more = need_of w c n;
    fits = inr free;
    bound = omega (arith, same, more, need);
  })
    where
      mine : conn_eq x.conn c ≡ true
      mine = ap (λ (z : Conn). conn_eq z c) own ∙ conn_same c

      joined : wait_of (queued w.holds x w.waits) c ≡ Some x
      joined = find-queued_here w.holds x (λ y. conn_eq y.conn c) mine w.waits (runs-alone w c runs.0)

      same : taken_with after_settling c (Some x) ≡ taken_with w.holds c (Some x)
      same = taken-settled c spare w.holds c (Some x)

      more : taken_with w.holds c (Some x) ≤ taken w.holds w.waits c + lack (is_held w.holds c x.name)
      more = taken-wait w.holds c x (wait_of w.waits c)

      need : lack (is_held w.holds c x.name) ≡ need_of w c n
      need = ap (λ (z : Name). need_of w c z) named

      free : is_limited head w c (need_of w c n) ≡ false
      free = go (unlimited_by (is_had head w c n m) (is_limited head w c (need_of w c n)) (would_wait w.holds w.waits (asking w c n m))
          (w.setting c).may_wait (target w.holds c n m) (Got.Queued q) e)
        where
          not_had : is_had head w c n m ≡ false
          not_had = (queued_by (is_had head w c n m) (is_limited head w c (need_of w c n)) (would_wait w.holds w.waits (asking w c n m))
              (w.setting c).may_wait (target w.holds c n m) q e).0

          go : (is_had head w c n m ≡ true) ⊎ (is_limited head w c (need_of w c n) ≡ false) → is_limited head w c (need_of w c n) ≡ false
          go (inl had) = cc (sym had ∙ not_had)
          go (inr k) = k

  -- a claim takes the name that was awaited
  pub claim-takes : Takes head w c (holds_by_hand head c (claimed w c) after_settling) (wait_of (unqueued c w.waits) c)
  claim-takes =
      without-wait (holds_by_hand head c (claimed w c) after_settling)
      (as-before (holds_by_hand head c (claimed w c) after_settling) None (go (wait_of w.waits c)))
    where
      claimed_by : Option Wait → Hand
      claimed_by o = option_map_or (λ x. Places (record { name = x.name; mode = x.target; term = x.term } ∷ [])) o Leaves

      go : (o : Option Wait) → taken_with (holds_by_hand head c (claimed_by o) after_settling) c None ≤ taken_with w.holds c o
      go None = let same = taken-settled c spare w.holds c None in omega (arith, same)
      go (Some x) =
          let more = one-placed (record { name = x.name; mode = x.target; term = x.term }) None in
          let less = if-less (is_covered head w.holds c x.name x.target) (need_of w c x.name) in
          omega (arith, more, less)

  -- a Lock that is granted or queued, by its why
  pub lock-granted : (n : Name) (m : Mode) (t : Term) (why : Why) (got : Got) → LockStands head w c n m t why got → request head w c n m ≡ Gives got
  lock-granted n m t Asked got al = al.2
  lock-granted (Table u) m t Escalation got al = al.1.2
  lock-granted n m t Escalation got al = absurd al.1
  lock-granted n m t Blocked got al = al.3

  -- a look that asks of the row
  look-asking : (t : TableId) (r : Rid) (want : Want) (m : Mode × Term) → placed_by_want want ≡ Some m → want_asks head w c t r want ≡ Some m.0
      → look head w c t r want ≡ Gives Got.Granted → Takes head w c (all_placed head after_settling c (looked w t r want)) (wait_of w.waits c)
  look-asking t r want m p a e = go (is_dead (versions w t r)) refl
    where
      go : (b : Bool) → is_dead (versions w t r) ≡ b → Takes head w c (all_placed head after_settling c (looked w t r want)) (wait_of w.waits c)
      go true d = rw d leaves
      go false d =
          let asks : look_asks head w c t r want ≡ Some m.0 = rw d a in
          let given : option_map_or (request head w c (Row t r)) (look_asks head w c t r want) (Gives Got.Granted) ≡ Gives Got.Granted = e in
          rw (d, p) (granted-takes (Row t r) m.0 m.1 (rw asks at given))

  -- a look that places nothing
  look-idle : (t : TableId) (r : Rid) (want : Want) → placed_by_want want ≡ None
      → Takes head w c (all_placed head after_settling c (looked w t r want)) (wait_of w.waits c)
  look-idle t r want p = go (is_dead (versions w t r)) refl
    where
      go : (b : Bool) → is_dead (versions w t r) ≡ b → Takes head w c (all_placed head after_settling c (looked w t r want)) (wait_of w.waits c)
      go true d = rw d leaves
      go false d = rw (d, p) leaves

  pub look-takes : (t : TableId) (r : Rid) (want : Want) → look head w c t r want ≡ Gives Got.Granted
      → Takes head w c (all_placed head after_settling c (looked w t r want)) (wait_of w.waits c)
  look-takes t r Dirty e = look-idle t r Dirty refl
  look-takes t r Current e = look-idle t r Current refl
  look-takes t r Want.Settled e = look-idle t r Want.Settled refl
  look-takes t r Steady e = look-asking t r Steady (Ns, Fresh) refl refl e
  look-takes t r Repeat e = look-asking t r Repeat (S, Kept) refl refl e
  look-takes t r Alter e = look-asking t r Alter (U, Fresh) refl refl e
  look-takes t r AlterKept e = look-asking t r AlterKept (U, Kept) refl refl e

  pub look-queues : (t : TableId) (r : Rid) (want : Want) (q : Mode) → Runs w c → look head w c t r want ≡ Gives (Got.Queued q)
      → Takes head w c after_settling (wait_of (queued w.holds (record { name = Row t r; conn = c; target = q; term = wait_term want }) w.waits) c)
  look-queues t r want q runs e = go (look_asks head w c t r want) e
    where
      go : (o : Option Mode) → option_map_or (request head w c (Row t r)) o (Gives Got.Granted) ≡ Gives (Got.Queued q)
          → Takes head w c after_settling (wait_of (queued w.holds (record { name = Row t r; conn = c; target = q; term = wait_term want }) w.waits) c)
      go None k = cc
      go (Some m) k = queued-takes (Row t r) m q (record { name = Row t r; conn = c; target = q; term = wait_term want }) refl refl runs k

  -- a Next that stands, and one that queues
  pub next-takes : (i : IndexId) (range : Range) (at : Option (Value × Rid)) (guarded : Bool) (got : Stand) → is_stand got ≡ true
      → next head w c i range at guarded ≡ Some got
      → Takes head w c (all_placed head after_settling c (guarded_next w i range at guarded)) (wait_of w.waits c)
  next-takes i range at false got k e = leaves
  next-takes i range at true got k e =
      granted-takes (next_name w i range at) S Kept
      (stood-asked (request head w c (next_name w i range at) S) (next_name w i range at) (stand_of range (found w i range at)) got e k)

  pub next-queues : (i : IndexId) (range : Range) (at : Option (Value × Rid)) (guarded : Bool) (n : Name) → Runs w c
      → next head w c i range at guarded ≡ Some (Stand.Queued n)
      → Takes head w c after_settling (wait_of (queued w.holds (record { name = n; conn = c; target = target w.holds c n S; term = Kept }) w.waits) c)
  next-queues i range at false n runs e =
      let h : stand_of range (found w i range at) ≡ Stand.Queued n = cc in
      cc (sym (ap is_stand h) ∙ stands-found range (found w i range at))
  next-queues i range at true n runs e =
      let k = queued-asked (request head w c (next_name w i range at) S) (next_name w i range at) n (stand_of range (found w i range at))
      (stands-found range (found w i range at)) e in
      queued-takes (next_name w i range at) S k.0 (record { name = n; conn = c; target = target w.holds c n S; term = Kept }) refl (sym k.2) runs k.1
