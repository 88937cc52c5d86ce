-- Who waits has no Brief hold, and its table lock does not cover what it waits for.
use Rattle.std.proofs.Common.{◌≡◌, ◌≤◌, arith, count_by, Bool, true, false, not, ◌&&◌, ◌||◌, List, [], ◌∷◌, refl, ap, sym, ◌∙◌, Some, None, Option, filter, map, is_some, if◌then◌else◌}
use Rattle.std.specs.List.{list_any}
use Rattle.std.specs.Option.{option_map_or}
use Rattle.std.proofs.lemmas.Bool.{and_parts}
use Rattle.iso_history.proofs.facts.AwaitedThere.{dispatcher-waits}
use Rattle.iso_history.proofs.facts.Others.{hold_on-others, wait-others}
use Rattle.iso_history.proofs.facts.Single.{single-after}
use Rattle.iso_history.proofs.locks.Finds.{count-here, count-past, filter-here, filter-past, find-filter_away}
use Rattle.iso_history.proofs.locks.Fits.{apart-turned}
use Rattle.iso_history.proofs.locks.Holds.{of-is}
use Rattle.iso_history.proofs.locks.Joins.{runs-alone}
use Rattle.iso_history.proofs.locks.Same.{conn_is, conn_same}
use Rattle.iso_history.specs.After.{after, start}
use Rattle.iso_history.specs.Facts.{AreSingle, LocksSound, WaitersKeep}
use Rattle.iso_history.specs.Holds.{Hand, hand_of, holds_by_agent, holds_by_hand, spared}
use Rattle.iso_history.specs.Holds.Hand.{Leaves}
use Rattle.iso_history.specs.Legal.{Allowed, By, ByAgent}
use Rattle.iso_history.specs.Phases.{phase}
use Rattle.iso_history.specs.Waits.{Joining, joining_of, joining_of_agent, waits_by}
use Rattle.iso_history.specs.Waits.Joining.{Joins, Passes, Quits}
use Rattle.iso_history.specs.World.{World}
use Rattle.iso_history.specs.declared.entry.Act.{Act}
use Rattle.iso_history.specs.declared.entry.Act.TheVariants.{Claim, Collapse, Commit, Free, Insert, Lock, Look, Next, Rollback, Stopped, Update}
use Rattle.iso_history.specs.declared.entry.Entry.{Entry}
use Rattle.iso_history.specs.declared.entry.Got.{Got}
use Rattle.iso_history.specs.declared.entry.Stand.{Stand}
use Rattle.iso_history.specs.declared.entry.Stand.TheVariants.{At, Past}
use Rattle.iso_history.specs.declared.entry.Who.{Who}
use Rattle.iso_history.specs.declared.entry.Who.TheVariants.{Agent, Dispatcher}
use Rattle.iso_modes.specs.Terms.{is_brief, is_fresh}
use Rattle.iso_modes.specs.declared.Term.TheVariants.{Kept}
use Rattle.iso_queue.specs.Locks.{Hold, hold_on, is_hold_of, is_spared, settled, settled_one, was_brief, without_briefs}
use Rattle.iso_queue.specs.Queues.{Wait, is_waiting, unqueued, wait_of}
use Rattle.iso_types.specs.Ids.{conn_eq}
use Rattle.iso_types.specs.declared.desk.Phase.TheVariants.{Running}
use Rattle.iso_types.specs.declared.head.Head.{Head}
use Rattle.iso_types.specs.declared.value.Conn.{Conn}
use Rattle.iso_types.specs.declared.value.Name.{Name}

-- ---- what an own entry does
-- its wait goes; or it joins, or waits, and then leaves the holds
abbrev OwnLaw : Conn → World → Joining → Hand → Type 0
OwnLaw c w (Quits e) hand = e ≡ c
OwnLaw c w (Joins x) hand = hand ≡ Leaves
OwnLaw c w Passes hand = is_some (wait_of w.waits c) ≡ true → hand ≡ Leaves

module _ (head : Head) (w : World) (c : Conn) where
  running : (hand : Hand) → phase w c ≡ Running → is_some (wait_of w.waits c) ≡ true → hand ≡ Leaves
  running hand is waits = cc (sym (ap (λ (o : Option Wait). is_some o) (runs-alone w c is)) ∙ waits)

  own-law : (a : Act) → ByAgent head w c a → OwnLaw c w (joining_of_agent w c a) (hand_of head w c a)
  own-law (Lock n m t y Got.Granted) al = running (hand_of head w c (Lock n m t y Got.Granted)) al.0.0
  own-law (Lock n m t y (Got.Queued to)) al = refl
  own-law (Lock n m t y Got.TimedOut) al = λ waits. refl
  own-law (Look t r want Got.Granted) al = running (hand_of head w c (Look t r want Got.Granted)) al.0.0
  own-law (Look t r want (Got.Queued to)) al = refl
  own-law (Look t r want Got.TimedOut) al = λ waits. refl
  own-law (Next i range at guarded (At v r)) al = running (hand_of head w c (Next i range at guarded (At v r))) al.0.0
  own-law (Next i range at guarded Past) al = running (hand_of head w c (Next i range at guarded Past)) al.0.0
  own-law (Next i range at guarded (Stand.Queued n)) al = refl
  own-law (Next i range at guarded (Stand.TimedOut n)) al = λ waits. refl
  own-law (Insert t r row) al = running (hand_of head w c (Insert t r row)) al.0.0
  own-law (Update t r row) al = running (hand_of head w c (Update t r row)) al.0.0
  own-law (Free t r) al = running (hand_of head w c (Free t r)) al.0.0
  own-law (Collapse t m) al = running (hand_of head w c (Collapse t m)) al.0
  own-law Claim al = refl
  own-law Commit al = refl
  own-law (Rollback code reason) al = refl
  own-law Act.Ended al = refl
  own-law (Stopped cause) al = refl
  own-law a al = λ waits. refl

  -- who waits after it has left the holds
  pub waiter-leaves : (a : Act) → ByAgent head w c a → (x : Wait) → wait_of (waits_by w (joining_of_agent w c a)) c ≡ Some x → hand_of head w c a ≡ Leaves
  waiter-leaves a al x e = go (joining_of_agent w c a) (own-law a al) e
    where
      away : (e : Conn) → e ≡ c → wait_of (unqueued e w.waits) c ≡ None
      away e same = find-filter_away (λ (y : Wait). conn_eq y.conn c) (λ (y : Wait). not (conn_eq y.conn e))
          (λ y k. ap (λ (z : Conn). not (conn_eq y.conn z)) same ∙ ap not k) w.waits

      go : (j : Joining) → OwnLaw c w j (hand_of head w c a) → wait_of (waits_by w j) c ≡ Some x → hand_of head w c a ≡ Leaves
      go (Quits e) law k = cc (sym (away e law) ∙ k)
      go (Joins y) law k = law
      go Passes law k = law (ap (λ (o : Option Wait). is_some o) k)

-- ---- no Brief hold
any-away : {A : Type 0} (p q : A → Bool) (xs : List A) → ((x : A) → p x ≡ true → q x ≡ false) → list_any p (filter q xs) ≡ false
any-away p q [] f = refl
any-away p q (x ∷ xs) f = go (q x) (p x) refl refl (any-away p q xs f)
  where
    go : (a b : Bool) → q x ≡ a → p x ≡ b → list_any p (filter q xs) ≡ false → list_any p (filter q (x ∷ xs)) ≡ false
    go true true e k ih = cc (sym (f x k) ∙ e)
    go true false e k ih = ap (list_any p) (filter-here q x xs e) ∙ (rw k ih)
    go false b e k ih = ap (list_any p) (filter-past q x xs e) ∙ ih

any-fewer : {A : Type 0} (p q : A → Bool) (xs : List A) → list_any p xs ≡ false → list_any p (filter q xs) ≡ false
any-fewer p q [] e = refl
any-fewer p q (x ∷ xs) e = go (q x) (p x) refl refl (any-fewer p q xs)
  where
    neither : (a b : Bool) → (a || b) ≡ false → (a ≡ false) × (b ≡ false)
    neither true b k = cc
    neither false b k = (refl, k)

    go : (a b : Bool) → q x ≡ a → p x ≡ b → (list_any p xs ≡ false → list_any p (filter q xs) ≡ false) → list_any p (filter q (x ∷ xs)) ≡ false
    go true b f k ih = ap (list_any p) (filter-here q x xs f) ∙ (rw ((neither (p x) (list_any p xs) e).0) (ih (neither (p x) (list_any p xs) e).1))
    go false b f k ih = ap (list_any p) (filter-past q x xs f) ∙ ih (neither (p x) (list_any p xs) e).1

any-mapped : {A : Type 0} (p : A → Bool) (f : A → A) (xs : List A) → ((x : A) → p x ≡ false → p (f x) ≡ false) → list_any p xs ≡ false
    → list_any p (map f xs) ≡ false
any-mapped p f [] same e = refl
any-mapped p f (x ∷ xs) same e = let parts = neither (p x) (list_any p xs) e in rw (same x parts.0) (any-mapped p f xs same parts.1)
  where
    neither : (a b : Bool) → (a || b) ≡ false → (a ≡ false) × (b ≡ false)
    neither true b k = cc
    neither false b k = (refl, k)

module _ (c : Conn) (spare : Option Name) (n : Name) where
  -- to settle makes no hold Brief
  brief-settled : (h : Hold) → (is_hold_of c n h && is_brief h.term) ≡ false
      → (is_hold_of c n (settled_one c spare h) && is_brief (settled_one c spare h).term) ≡ false
  brief-settled h e = go (conn_eq h.conn c && (is_fresh h.term && not (is_spared spare h)))
    where
      kept : Hold
      kept = record h { term = Kept }

      never : (a : Bool) → (a && false) ≡ false
      never true = refl
      never false = refl

      go : (b : Bool) → (is_hold_of c n (if b then kept else h) && is_brief (if b then kept else h).term) ≡ false
      go true = never (is_hold_of c n kept)
      go false = e

  -- what was Brief goes
  pub none-brief : (hs : List Hold) → was_brief (without_briefs hs c (settled c spare hs)) c n ≡ false
  none-brief hs = go (was_brief hs c n) refl
    where
      gone : was_brief hs c n ≡ true → (h : Hold) → (is_hold_of c n h && is_brief h.term) ≡ true
          → not (conn_eq h.conn c && (is_brief h.term && was_brief hs c h.name)) ≡ false
      gone was h e =
          let p = and_parts (is_hold_of c n h) (is_brief h.term) e in
          let is = of-is c n h p.0 in
          let own : conn_eq h.conn c ≡ true = ap (λ (z : Conn). conn_eq z c) is.0 ∙ conn_same c in
          let named : was_brief hs c h.name ≡ true = ap (was_brief hs c) is.1 ∙ was in
          rw (own, p.1, named) refl

      go : (b : Bool) → was_brief hs c n ≡ b → was_brief (without_briefs hs c (settled c spare hs)) c n ≡ false
      go true e = any-away _ _ (settled c spare hs) (gone e)
      go false e = any-fewer _ _ (settled c spare hs) (any-mapped _ (settled_one c spare) hs brief-settled e)

-- which holds are Brief, where none is held twice
brief-held : (hs : List Hold) (c : Conn) (n : Name) → count_by (is_hold_of c n) hs ≤ 1
    → was_brief hs c n ≡ option_map_or (λ h. is_brief h.term) (hold_on hs c n) false
brief-held [] c n one = refl
brief-held (h ∷ hs) c n one = go (is_hold_of c n h) refl (brief-held hs c n)
  where
    none : (gs : List Hold) → count_by (is_hold_of c n) gs ≡ 0 → was_brief gs c n ≡ false
    none [] e = refl
    none (g ∷ gs) e = past (is_hold_of c n g) refl (none gs)
      where
        past : (b : Bool) → is_hold_of c n g ≡ b → (count_by (is_hold_of c n) gs ≡ 0 → was_brief gs c n ≡ false) → was_brief (g ∷ gs) c n ≡ false
        past true k ih = absurd (lit-suc (omega (arith, e, count-here (is_hold_of c n) g gs k)))
          where
            lit-suc : 1 ≤ 0 → ⊥
            lit-suc q = omega (arith, q)
        past false k ih = rw k (ih (sym (count-past (is_hold_of c n) g gs k) ∙ e))

    last : (b : Bool) → (b || false) ≡ b
    last true = refl
    last false = refl

    go : (b : Bool) → is_hold_of c n h ≡ b
        → (count_by (is_hold_of c n) hs ≤ 1 → was_brief hs c n ≡ option_map_or (λ g. is_brief g.term) (hold_on hs c n) false)
        → was_brief (h ∷ hs) c n ≡ option_map_or (λ g. is_brief g.term) (hold_on (h ∷ hs) c n) false
    go true k ih =
        let rest : was_brief hs c n ≡ false = none hs (omega (arith, one, count-here (is_hold_of c n) h hs k)) in
        rw (k, rest) (last (is_brief h.term))
    go false k ih =
        let few : count_by (is_hold_of c n) hs ≤ 1 = omega (arith, one, count-past (is_hold_of c n) h hs k) in
        rw k (ih few)

some-waits : (ws : List Wait) (c : Conn) → is_waiting ws c ≡ true → (x : Wait) × (wait_of ws c ≡ Some x)
some-waits ws c e = go (wait_of ws c) refl e
  where
    go : (o : Option Wait) → wait_of ws c ≡ o → is_some o ≡ true → (x : Wait) × (wait_of ws c ≡ Some x)
    go None k h = cc
    go (Some x) k h = (x, k)

waits-some : (ws : List Wait) (c : Conn) (x : Wait) → wait_of ws c ≡ Some x → is_waiting ws c ≡ true
waits-some ws c x e = ap (λ (o : Option Wait). is_some o) e

module _ (head : Head) (w : World) where
  -- the holds of one who waits after its own entry
  left-holds : (c : Conn) (a : Act) → ByAgent head w c a → (x : Wait) → wait_of (waits_by w (joining_of_agent w c a)) c ≡ Some x
      → holds_by_agent head w c a ≡ without_briefs w.holds c (settled c (spared a (w.last c)) w.holds)
  left-holds c a al x e =
      ap (λ (h : Hand). without_briefs w.holds c (holds_by_hand head c h (settled c (spared a (w.last c)) w.holds))) (waiter-leaves head w c a al x e)

  keep-by : (who : Who) (a : Act) → By head w who a → AreSingle w.holds → AreSingle (after head w (record { who = who; act = a })).holds → WaitersKeep w
      → WaitersKeep (after head w (record { who = who; act = a }))
  unfolding WaitersKeep AreSingle
  keep-by Dispatcher a al before one f d n e =
      let x = some-waits (waits_by w (joining_of w Dispatcher a)) d e in f d n (waits-some w.waits d x.0 (dispatcher-waits w a d x.0 x.1))
  keep-by (Agent c) a al before one f d n e = go (conn_eq d c) refl
    where
      x : (x : Wait) × (wait_of (waits_by w (joining_of_agent w c a)) d ≡ Some x)
      x = some-waits (waits_by w (joining_of_agent w c a)) d e

      apart : conn_eq d c ≡ false → conn_eq c d ≡ false
      apart k = apart-turned d c k

      go : (b : Bool) → conn_eq d c ≡ b → was_brief (holds_by_agent head w c a) d n ≡ false
      go true k =
          let same : d ≡ c = conn_is d c k in
          let own : wait_of (waits_by w (joining_of_agent w c a)) c ≡ Some x.0 = ap (wait_of (waits_by w (joining_of_agent w c a))) (sym same) ∙ x.1 in
          ap (λ (z : Conn). was_brief (holds_by_agent head w c a) z n) same ∙ ap (λ (hs : List Hold). was_brief hs c n) (left-holds c a al.1 x.0 own)
          ∙ none-brief c (spared a (w.last c)) n w.holds
      go false k =
          brief-held (holds_by_agent head w c a) d n (one d n)
          ∙ ap (λ (o : Option Hold). option_map_or (λ h. is_brief h.term) o false) (hold_on-others c d n (apart k) head w a)
          ∙ sym (brief-held w.holds d n (before d n)) ∙ f d n (waits-some w.waits d x.0 (sym (wait-others w c d a (apart k)) ∙ x.1))

  pub keep-after : (e : Entry) → Allowed head w e → LocksSound head w → WaitersKeep w → WaitersKeep (after head w e)
  keep-after e al s f = keep-by e.who e.act al.2 s.single (single-after head w e al s) f

pub start-keep : (head : Head) → WaitersKeep (start head)
unfolding WaitersKeep
start-keep head d n e = refl
