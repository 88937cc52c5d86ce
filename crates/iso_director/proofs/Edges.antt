-- The edges between connections that wait after an entry that does not queue were there before it.
use Rattle.std.proofs.Common.{◌≡◌, Bool, true, false, not, ◌&&◌, ◌||◌, List, [], ◌∷◌, map, refl, ap, sym, subst, ◌∙◌, Some, None, Option, filter, if◌then◌else◌}
use Rattle.std.specs.List.{list_any}
use Rattle.std.specs.Option.{option_map_or}
use Rattle.std.specs.Prelude.{cond, take_while}
use Rattle.std.proofs.lemmas.Bool.{and_from, and_parts, both_ways}
use Rattle.std.proofs.lemmas.List.Folds.{list_any-append}
use Rattle.std.proofs.lemmas.List.Sums.{take_while-cons}
use Rattle.iso_conduct.proofs.Progress.{edge_in}
use Rattle.iso_conduct.proofs.ProgressEdges.{among-kept, among-passes}
use Rattle.iso_director.specs.Untied.{may_tie}
use Rattle.iso_history.proofs.facts.AwaitedThere.{dispatcher-waits}
use Rattle.iso_history.proofs.facts.Others.{wait-others}
use Rattle.iso_history.proofs.facts.Waiters.{open-waits}
use Rattle.iso_history.proofs.locks.Finds.{filter-here, filter-past, find-filter_away, find-is}
use Rattle.iso_history.proofs.locks.Fits.{apart-turned}
use Rattle.iso_history.proofs.locks.Holds.{of-is}
use Rattle.iso_history.proofs.locks.Joins.{runs-alone}
use Rattle.iso_history.proofs.locks.Queues.{wait-unqueued}
use Rattle.iso_history.proofs.locks.Same.{conn_is}
use Rattle.iso_history.specs.After.{after}
use Rattle.iso_history.specs.Facts.{WaitersOpen}
use Rattle.iso_history.specs.Holds.{Hand, hand_of, holds_by, holds_by_agent, holds_by_hand, spared}
use Rattle.iso_history.specs.Holds.Hand.{Collapses, Drops, Frees, Leaves, Places}
use Rattle.iso_history.specs.Legal.{Allowed, By, ByAgent}
use Rattle.iso_history.specs.Phases.{is_active, is_phase, victim}
use Rattle.iso_history.specs.Quiet.{edges_in}
use Rattle.iso_history.specs.Waits.{Joining, joining_of, joining_of_agent, joining_of_dispatcher, waits_by}
use Rattle.iso_history.specs.Waits.Joining.{Joins, Passes, Quits}
use Rattle.iso_history.specs.World.{World}
use Rattle.iso_history.specs.declared.entry.Act.{Act}
use Rattle.iso_history.specs.declared.entry.Act.TheVariants.{Back, Claim, Collapse, Commit, Delete, Expire, Free, Insert, Lock, Look, Mark, Next, Refused, Reply, Rollback, ScanEnd, Set, Stopped, Undo, Update, Victim}
use Rattle.iso_history.specs.declared.entry.Entry.{Entry}
use Rattle.iso_history.specs.declared.entry.Got.{Got}
use Rattle.iso_history.specs.declared.entry.Stand.{Stand}
use Rattle.iso_history.specs.declared.entry.Stand.TheVariants.{At, Past}
use Rattle.iso_history.specs.declared.entry.Who.{Who}
use Rattle.iso_history.specs.declared.entry.Who.TheVariants.{Agent, Dispatcher}
use Rattle.iso_modes.specs.Terms.{is_fresh}
use Rattle.iso_modes.specs.declared.Term.TheVariants.{Kept}
use Rattle.iso_queue.specs.Locks.{Hold, Request, added, all_placed, is_covered, is_hold_of, is_spared, placed, settled}
use Rattle.iso_queue.specs.Queues.{Wait, ahead, blockers, edges, opposes, queue, unqueued, wait_of}
use Rattle.iso_types.specs.Cycles.{HasNoCycle, Leads, is_among}
use Rattle.iso_types.specs.Head.{conns}
use Rattle.iso_types.specs.Ids.{conn_eq, name_eq}
use Rattle.iso_types.specs.declared.desk.Phase.{Phase}
use Rattle.iso_types.specs.declared.desk.Phase.TheVariants.{Closing, Rolling, Running}
use Rattle.iso_types.specs.declared.head.Head.{Head}
use Rattle.iso_types.specs.declared.value.Conn.{Conn}
use Rattle.iso_types.specs.declared.value.Name.{Name}

-- ---- holders

-- the connection holds the name of the wait in a mode that does not go with its target
abbrev pub opposing : Conn → Wait → List Hold → Bool
opposing y x hs = list_any (λ h. conn_eq y h.conn && opposes x h) hs

or-step : (a b c : Bool) → (b ≡ true → c ≡ true) → (a || b) ≡ true → (a || c) ≡ true
or-step true b c f e = refl
or-step false b c f e = f e

or-late : (a b : Bool) → b ≡ true → (a || b) ≡ true
or-late true b e = refl
or-late false b e = e

or-both : (a b c e : Bool) → (a ≡ true → b ≡ true) → (c ≡ true → e ≡ true) → (a || c) ≡ true → (b || e) ≡ true
or-both true b c e f g k = ap (λ (z : Bool). z || e) (f refl)
or-both false b c e f g k = or-late b e (g k)

-- whom a list of holders names
holders-any : (y : Conn) (x : Wait) (hs : List Hold) → list_any (conn_eq y) (map (λ (h : Hold). h.conn) (filter (opposes x) hs)) ≡ opposing y x hs
holders-any y x [] = refl
holders-any y x (h ∷ hs) = go (opposes x h) refl (holders-any y x hs)
  where
    last : (b : Bool) → (b && true) ≡ b
    last true = refl
    last false = refl

    none : (b : Bool) → (b && false) ≡ false
    none true = refl
    none false = refl

    go : (b : Bool) → opposes x h ≡ b → list_any (conn_eq y) (map (λ (g : Hold). g.conn) (filter (opposes x) hs)) ≡ opposing y x hs
        → list_any (conn_eq y) (map (λ (g : Hold). g.conn) (filter (opposes x) (h ∷ hs))) ≡ ((conn_eq y h.conn && opposes x h) || opposing y x hs)
    go true e ih =
        ap (λ (gs : List Hold). list_any (conn_eq y) (map (λ (g : Hold). g.conn) gs)) (filter-here (opposes x) h hs e)
        ∙ ap (λ (b : Bool). conn_eq y h.conn || b) ih
        ∙ ap (λ (b : Bool). b || opposing y x hs) (sym (ap (λ (b : Bool). conn_eq y h.conn && b) e ∙ last (conn_eq y h.conn)))
    go false e ih =
        ap (λ (gs : List Hold). list_any (conn_eq y) (map (λ (g : Hold). g.conn) gs)) (filter-past (opposes x) h hs e)
        ∙ ih
        ∙ ap (λ (b : Bool). b || opposing y x hs) (sym (ap (λ (b : Bool). conn_eq y h.conn && b) e ∙ none (conn_eq y h.conn)))

-- who stands among some of a list stands in it
any-of-filter : {A : Type 0} (p q : A → Bool) (xs : List A) → list_any p (filter q xs) ≡ true → list_any p xs ≡ true
any-of-filter p q [] e = e
any-of-filter p q (x ∷ xs) e = go (q x) refl (any-of-filter p q xs)
  where
    go : (b : Bool) → q x ≡ b → (list_any p (filter q xs) ≡ true → list_any p xs ≡ true) → (p x || list_any p xs) ≡ true
    go true k ih = or-step (p x) (list_any p (filter q xs)) (list_any p xs) ih (sym (ap (list_any p) (filter-here q x xs k)) ∙ e)
    go false k ih = or-late (p x) (list_any p xs) (ih (sym (ap (list_any p) (filter-past q x xs k)) ∙ e))

opposed-kept : (y : Conn) (x : Wait) (b : Bool) (h : Hold)
    → (conn_eq y (if b then record h { term = Kept } else h).conn && opposes x (if b then record h { term = Kept } else h)) ≡ (conn_eq y h.conn && opposes x h)
unfolding opposes
opposed-kept y x true h = refl
opposed-kept y x false h = refl

module _ (c y : Conn) (away : conn_eq y c ≡ false) (x : Wait) where
  -- to settle changes no mode
  opposed-settled : (spare : Option Name) (hs : List Hold) → opposing y x (settled c spare hs) ≡ opposing y x hs
  opposed-settled spare [] = refl
  opposed-settled spare (h ∷ hs) =
      ap (λ (b : Bool). b || opposing y x (settled c spare hs)) (opposed-kept y x (conn_eq h.conn c && (is_fresh h.term && not (is_spared spare h))) h)
      ∙ ap (λ (b : Bool). (conn_eq y h.conn && opposes x h) || b) (opposed-settled spare hs)

  -- another's request adds no hold of this connection
  opposed-added : (r : Request) (hs : List Hold) → opposing y x (added hs c r) ≡ true → opposing y x hs ≡ true
  opposed-added r [] e = absurd (both_ways false refl (sym (rw away refl) ∙ e))
  opposed-added r (h ∷ hs) e = go (is_hold_of c r.name h) refl (opposed-added r hs)
    where
      go : (b : Bool) → is_hold_of c r.name h ≡ b → (opposing y x (added hs c r) ≡ true → opposing y x hs ≡ true)
          → ((conn_eq y h.conn && opposes x h) || opposing y x hs) ≡ true
      go true k ih =
          let own : conn_eq y h.conn ≡ false = ap (conn_eq y) (of-is c r.name h k).0 ∙ away in
          or-late (conn_eq y h.conn && opposes x h) (opposing y x hs) (rw own at (rw k at e))
      go false k ih = or-step (conn_eq y h.conn && opposes x h) (opposing y x (added hs c r)) (opposing y x hs) ih (rw k at e)

  opposed-placed : (head : Head) (r : Request) (hs : List Hold) → opposing y x (placed head hs c r) ≡ true → opposing y x hs ≡ true
  opposed-placed head r hs e = go (is_covered head hs c r.name r.mode) e
    where
      go : (b : Bool) → opposing y x (if b then hs else added hs c r) ≡ true → opposing y x hs ≡ true
      go true k = k
      go false k = opposed-added r hs k

  opposed-all : (head : Head) (rs : List Request) (hs : List Hold) → opposing y x (all_placed head hs c rs) ≡ true → opposing y x hs ≡ true
  opposed-all head [] hs e = e
  opposed-all head (r ∷ rs) hs e = opposed-placed head r hs (opposed-all head rs (placed head hs c r) e)

  opposed-hand : (head : Head) (hand : Hand) (hs : List Hold) → opposing y x (holds_by_hand head c hand hs) ≡ true → opposing y x hs ≡ true
  opposed-hand head Leaves hs e = e
  opposed-hand head (Places rs) hs e = opposed-all head rs hs e
  opposed-hand head (Frees n) hs e = any-of-filter _ _ hs e
  opposed-hand head (Collapses t) hs e = any-of-filter _ _ hs e
  opposed-hand head Drops hs e = any-of-filter _ _ hs e

  opposed-agent : (head : Head) (w : World) (a : Act) → opposing y x (holds_by_agent head w c a) ≡ true → opposing y x w.holds ≡ true
  opposed-agent head w a e =
      let before = settled c (spared a (w.last c)) w.holds in
      sym (opposed-settled (spared a (w.last c)) w.holds)
      ∙ opposed-hand head (hand_of head w c a) before (any-of-filter _ _ (holds_by_hand head c (hand_of head w c a) before) e)

-- ---- waiters

-- the connection awaits the name of the wait before it
abbrev pub awaiting : Conn → Wait → List Wait → Bool
awaiting y x ws = list_any (conn_eq y) (map (λ (z : Wait). z.conn) (ahead ws x))

while-here : (p : Wait → Bool) (z : Wait) (ws : List Wait) → p z ≡ true → take_while p (z ∷ ws) ≡ z ∷ take_while p ws
while-here p z ws e = take_while-cons p z ws ∙ ap (λ (b : Bool). cond b (z ∷ take_while p ws) []) e

while-past : (p : Wait → Bool) (z : Wait) (ws : List Wait) → p z ≡ false → take_while p (z ∷ ws) ≡ []
while-past p z ws e = take_while-cons p z ws ∙ ap (λ (b : Bool). cond b (z ∷ take_while p ws) []) e

-- the connection awaits the name in the list
abbrev named : Conn → Name → List Wait → Bool
named y n ws = list_any (conn_eq y) (map (λ (z : Wait). z.conn) (queue ws n))

named-more : (y : Conn) (n : Name) (z : Wait) (d : Bool) → name_eq z.name n ≡ d → (ws : List Wait)
    → named y n (z ∷ ws) ≡ ((d && conn_eq y z.conn) || named y n ws)
named-more y n z true k ws = ap (λ (vs : List Wait). list_any (conn_eq y) (map (λ (v : Wait). v.conn) vs)) (filter-here (λ v. name_eq v.name n) z ws k)
named-more y n z false k ws = ap (λ (vs : List Wait). list_any (conn_eq y) (map (λ (v : Wait). v.conn) vs)) (filter-past (λ v. name_eq v.name n) z ws k)

named-fewer : (y : Conn) (n : Name) (p q : Wait → Bool) → ((z : Wait) → p z ≡ false → q z ≡ true) → (ws : List Wait)
    → named y n (take_while p (filter q ws)) ≡ true → named y n (take_while p ws) ≡ true
named-fewer y n p q stays [] e = e
named-fewer y n p q stays (z ∷ zs) e = go (p z) refl (q z) refl (name_eq z.name n) refl (named-fewer y n p q stays zs)
  where
    go : (a : Bool) → p z ≡ a → (b : Bool) → q z ≡ b → (d : Bool) → name_eq z.name n ≡ d
        → (named y n (take_while p (filter q zs)) ≡ true → named y n (take_while p zs) ≡ true) → named y n (take_while p (z ∷ zs)) ≡ true
    go true f true g d k ih =
        let whole : named y n (z ∷ take_while p (filter q zs)) ≡ true =
        sym (ap (named y n) (ap (take_while p) (filter-here q z zs g) ∙ while-here p z (filter q zs) f)) ∙ e in
        ap (named y n) (while-here p z zs f) ∙ named-more y n z d k (take_while p zs)
        ∙ or-step (d && conn_eq y z.conn) (named y n (take_while p (filter q zs))) (named y n (take_while p zs)) ih
        (sym (named-more y n z d k (take_while p (filter q zs))) ∙ whole)
    go true f false g d k ih =
        ap (named y n) (while-here p z zs f) ∙ named-more y n z d k (take_while p zs)
        ∙ or-late (d && conn_eq y z.conn) (named y n (take_while p zs))
        (ih (sym (ap (λ (vs : List Wait). named y n (take_while p vs)) (filter-past q z zs g)) ∙ e))
    go false f true g d k ih =
        absurd (both_ways false refl (sym (ap (named y n) (ap (take_while p) (filter-here q z zs g) ∙ while-past p z (filter q zs) f)) ∙ e))
    go false f false g d k ih = absurd (both_ways (q z) g (stays z f))

-- who stands before a wait once another has quit stood there before
ahead-unqueued : (k y : Conn) (x : Wait) → conn_eq k x.conn ≡ false → (ws : List Wait) → awaiting y x (unqueued k ws) ≡ true → awaiting y x ws ≡ true
ahead-unqueued k y x away ws e = named-fewer y x.name (λ z. not (conn_eq z.conn x.conn)) (λ z. not (conn_eq z.conn k)) stays ws e
  where
    own : (b : Bool) → not b ≡ false → b ≡ true
    own true h = refl
    own false h = sym h

    stays : (z : Wait) → not (conn_eq z.conn x.conn) ≡ false → not (conn_eq z.conn k) ≡ true
    stays z h =
        ap (λ (v : Conn). not (conn_eq v k)) (conn_is z.conn x.conn (own (conn_eq z.conn x.conn) h)) ∙ ap not (apart-turned k x.conn away)

-- nobody joins
abbrev pub JoinsNot : Joining → Type 0
JoinsNot (Joins x) = ⊥
JoinsNot Passes = Unit {0}
JoinsNot (Quits c) = Unit {0}

ahead-by : (w : World) (j : Joining) → JoinsNot j → (d y : Conn) (x : Wait) → wait_of (waits_by w j) d ≡ Some x → awaiting y x (waits_by w j) ≡ true
    → awaiting y x w.waits ≡ true
ahead-by w Passes n d y x is e = e
ahead-by w (Joins z) n d y x is e = absurd n
ahead-by w (Quits k) n d y x is e =
    let own : x.conn ≡ d = conn_is x.conn d (find-is (λ (z : Wait). conn_eq z.conn d) (waits_by w (Quits k)) x is) in
    ahead-unqueued k y x (ap (conn_eq k) own ∙ (wait-unqueued k d w.waits x is).1) w.waits e

-- the act of an agent that does not queue joins nobody
joins-agent : (w : World) (c : Conn) (a : Act) → may_tie a ≡ false → JoinsNot (joining_of_agent w c a)
joins-agent w c (Lock n m t why (Got.Queued q)) f = absurd (both_ways true f refl)
joins-agent w c (Lock n m t why Got.Granted) f = tt
joins-agent w c (Lock n m t why Got.TimedOut) f = tt
joins-agent w c (Look t r want (Got.Queued q)) f = absurd (both_ways true f refl)
joins-agent w c (Look t r want Got.Granted) f = tt
joins-agent w c (Look t r want Got.TimedOut) f = tt
joins-agent w c (Next i range at guarded (Stand.Queued n)) f = absurd (both_ways true f refl)
joins-agent w c (Next i range at guarded (At v r)) f = tt
joins-agent w c (Next i range at guarded Past) f = tt
joins-agent w c (Next i range at guarded (Stand.TimedOut n)) f = tt
joins-agent w c Claim f = tt
joins-agent w c Commit f = tt
joins-agent w c (Rollback code reason) f = tt
joins-agent w c Act.Ended f = tt
joins-agent w c (Stopped cause) f = tt
joins-agent w c _ f = tt

-- nor does one of the dispatcher
joins-dispatcher : (w : World) (a : Act) → JoinsNot (joining_of_dispatcher w a)
joins-dispatcher w (Victim cycle) = go (victim w cycle)
  where
    go : (o : Option Conn) → JoinsNot (option_map_or Quits o Passes)
    go None = tt
    go (Some c) = tt
joins-dispatcher w (Expire line c true) = tt
joins-dispatcher w (Expire line c false) = tt
joins-dispatcher w _ = tt

-- ---- the maker does not wait after it

none-unqueued : (c : Conn) (ws : List Wait) → wait_of (unqueued c ws) c ≡ None
none-unqueued c ws = find-filter_away (λ (z : Wait). conn_eq z.conn c) (λ (z : Wait). not (conn_eq z.conn c)) (λ z e. ap not e) ws

acts-alone : (w : World) (c : Conn) → WaitersOpen w → is_active w c ≡ true → wait_of w.waits c ≡ None
unfolding WaitersOpen
acts-alone w c open_ acts = go (wait_of w.waits c) refl
  where
    active : Phase → Bool
    active p = is_phase p Running || is_phase p Rolling || is_phase p Closing

    go : (o : Option Wait) → wait_of w.waits c ≡ o → wait_of w.waits c ≡ None
    go None e = e
    go (Some x) e = absurd (both_ways true (sym acts ∙ ap active (open-waits w c x (open_ c x e) e)) refl)

own-out : (head : Head) (w : World) (c : Conn) (a : Act) → WaitersOpen w → ByAgent head w c a → may_tie a ≡ false
    → wait_of (waits_by w (joining_of_agent w c a)) c ≡ None
own-out head w c (Lock n m t y Got.Granted) o al f = runs-alone w c al.0.0
own-out head w c (Lock n m t y (Got.Queued q)) o al f = absurd (both_ways true f refl)
own-out head w c (Lock n m t y Got.TimedOut) o al f = runs-alone w c al.0.0
own-out head w c (Look t r want Got.Granted) o al f = runs-alone w c al.0.0
own-out head w c (Look t r want (Got.Queued q)) o al f = absurd (both_ways true f refl)
own-out head w c (Look t r want Got.TimedOut) o al f = runs-alone w c al.0.0
own-out head w c (Next i range at guarded (At v r)) o al f = runs-alone w c al.0.0
own-out head w c (Next i range at guarded Past) o al f = runs-alone w c al.0.0
own-out head w c (Next i range at guarded (Stand.Queued n)) o al f = absurd (both_ways true f refl)
own-out head w c (Next i range at guarded (Stand.TimedOut n)) o al f = runs-alone w c al.0.0
own-out head w c (ScanEnd t n) o al f = runs-alone w c al.0.0
own-out head w c (Free t r) o al f = runs-alone w c al.0.0
own-out head w c (Collapse t m) o al f = runs-alone w c al.0
own-out head w c (Insert t r row) o al f = runs-alone w c al.0.0
own-out head w c (Update t r row) o al f = runs-alone w c al.0.0
own-out head w c (Delete t r) o al f = runs-alone w c al.0.0
own-out head w c (Refused code) o al f = runs-alone w c al.0.0
own-out head w c (Mark name) o al f = runs-alone w c al.0
own-out head w c (Back name) o al f = runs-alone w c al.0.0
own-out head w c (Set level may_wait) o al f = runs-alone w c al.0
own-out head w c (Reply code changed rows) o al f = runs-alone w c al.0
own-out head w c (Undo n) o al f = acts-alone w c o (and_parts (is_active w c) _ al.0).0
own-out head w c Claim o al f = none-unqueued c w.waits
own-out head w c Commit o al f = none-unqueued c w.waits
own-out head w c (Rollback code reason) o al f = none-unqueued c w.waits
own-out head w c Act.Ended o al f = none-unqueued c w.waits
own-out head w c (Stopped cause) o al f = none-unqueued c w.waits
own-out head w c _ o al f = absurd al

-- ---- edges

-- whom a wait is blocked by holds the name, or awaits it before
blocks : (y : Conn) (x : Wait) (hs : List Hold) (ws : List Wait) → list_any (conn_eq y) (blockers hs ws x) ≡ (opposing y x hs || awaiting y x ws)
blocks y x hs ws =
    list_any-append (conn_eq y) (map (λ (h : Hold). h.conn) (filter (opposes x) hs)) (map (λ (z : Wait). z.conn) (ahead ws x))
    ∙ ap (λ (b : Bool). b || awaiting y x ws) (holders-any y x hs)

-- the targets of a wait
abbrev targets : List Conn → List Hold → List Wait → Option Wait → List Conn
targets all fs us o = option_map_or (λ x. filter (λ e. list_any (conn_eq e) (blockers fs us x)) all) o []

-- where the holds and waits that are left of it were there
edge-by : (all : List Conn) (d y : Conn) (hs gs : List Hold) (ws vs : List Wait)
    → ((x : Wait) → wait_of ws d ≡ Some x → (wait_of vs d ≡ Some x) × (opposing y x hs ≡ true → opposing y x gs ≡ true)
    × (awaiting y x ws ≡ true → awaiting y x vs ≡ true))
    → is_among y (edges all hs ws d) ≡ true → is_among y (edges all gs vs d) ≡ true
edge-by all d y hs gs ws vs back on = go (wait_of ws d) refl on
  where
    go : (o : Option Wait) → wait_of ws d ≡ o → is_among y (targets all hs ws o) ≡ true → is_among y (edges all gs vs d) ≡ true
    go None e k = absurd (both_ways false refl k)
    go (Some x) e k =
        let b = back x e in
        let p = among-passes (λ c. list_any (conn_eq c) (blockers hs ws x)) y all k in
        let now : (opposing y x hs || awaiting y x ws) ≡ true = sym (blocks y x hs ws) ∙ p.1 in
        let then_ : (opposing y x gs || awaiting y x vs) ≡ true = or-both (opposing y x hs) (opposing y x gs) (awaiting y x ws) (awaiting y x vs) b.1 b.2 now in
        subst (λ (o : Option Wait). is_among y (targets all gs vs o) ≡ true) (sym b.0)
        (among-kept (λ c. list_any (conn_eq c) (blockers gs vs x)) y all p.0 (blocks y x gs vs ∙ then_))

-- ---- so no cycle closes

apart-waits : (ws : List Wait) (c d : Conn) (x : Wait) → wait_of ws c ≡ None → wait_of ws d ≡ Some x → conn_eq c d ≡ false
apart-waits ws c d x none some = go (conn_eq c d) refl
  where
    go : (b : Bool) → conn_eq c d ≡ b → conn_eq c d ≡ false
    go true e = let same : Some x ≡ None = sym some ∙ ap (wait_of ws) (sym (conn_is c d e)) ∙ none in cc
    go false e = e

-- who has an edge waits
edge-waits : (all : List Conn) (hs : List Hold) (ws : List Wait) (d y : Conn) → is_among y (edges all hs ws d) ≡ true → (x : Wait) × (wait_of ws d ≡ Some x)
edge-waits all hs ws d y on = go (wait_of ws d) refl on
  where
    go : (o : Option Wait) → wait_of ws d ≡ o → is_among y (targets all hs ws o) ≡ true → (x : Wait) × (wait_of ws d ≡ Some x)
    go None e k = absurd (both_ways false refl k)
    go (Some x) e k = (x, e)

module _ (head : Head) (w : World) (open_ : WaitersOpen w) where
  edge-back-by : (who : Who) (a : Act) → By head w who a → may_tie a ≡ false → (d y z : Conn)
      → is_among y (edges (conns head) (holds_by head w who a) (waits_by w (joining_of w who a)) d) ≡ true
      → is_among z (edges (conns head) (holds_by head w who a) (waits_by w (joining_of w who a)) y) ≡ true
      → is_among y (edges (conns head) w.holds w.waits d) ≡ true
  edge-back-by Dispatcher a al f d y z on next =
      edge-by (conns head) d y w.holds w.holds (waits_by w (joining_of_dispatcher w a)) w.waits
      (λ x is. (dispatcher-waits w a d x is, λ h. h, ahead-by w (joining_of_dispatcher w a) (joins-dispatcher w a) d y x is)) on
  edge-back-by (Agent c) a al f d y z on next =
      let ws = waits_by w (joining_of_agent w c a) in
      let out = own-out head w c a open_ al.1 f in
      let of_y = edge-waits (conns head) (holds_by_agent head w c a) ws y z next in
      let away = apart-turned c y (apart-waits ws c y of_y.0 out of_y.1) in
      edge-by (conns head) d y (holds_by_agent head w c a) w.holds ws w.waits
      (λ x is. (
        sym (wait-others w c d a (apart-waits ws c d x out is)) ∙ is,
        opposed-agent c y away x head w a,
        ahead-by w (joining_of_agent w c a) (joins-agent w c a f) d y x is,
      )) on

-- a walk all of whose members have an edge
leads-out : (edge : Conn → Conn → Bool) (c : Conn) (ds : List Conn) (end : Conn) → Leads edge c ds end → (d : Conn) × (edge c d ≡ true)
leads-out edge c [] end g = (end, g)
leads-out edge c (d ∷ ds) end g = (d, g.0)

leads-back : (edge old : Conn → Conn → Bool) → ((c d e : Conn) → edge c d ≡ true → edge d e ≡ true → old c d ≡ true)
    → (c : Conn) (ds : List Conn) (end e : Conn) → edge end e ≡ true → Leads edge c ds end → Leads old c ds end
leads-back edge old back c [] end e out g = back c end e g out
leads-back edge old back c (d ∷ ds) end e out g =
    let next = leads-out edge d ds end g.1 in
    (back c d next.0 g.0 next.1, leads-back edge old back d ds end e out g.1)

pub none-closes : (edge old : Conn → Conn → Bool) → ((c d e : Conn) → edge c d ≡ true → edge d e ≡ true → old c d ≡ true) → HasNoCycle old → HasNoCycle edge
none-closes edge old back none [] g = absurd g
none-closes edge old back none (c ∷ cs) g =
    let next = leads-out edge c cs c g.1 in
    none (c ∷ cs) (g.0, leads-back edge old back c cs c next.0 next.1 g.1)

-- an edge after the entry, to one that has an edge, was there before it
pub edge-back : (head : Head) (w : World) (e : Entry) → Allowed head w e → WaitersOpen w → may_tie e.act ≡ false → (c d f : Conn)
    → edge_in head (after head w e) c d ≡ true → edge_in head (after head w e) d f ≡ true → edge_in head w c d ≡ true
edge-back head w e al open_ free c d f on next =
    let p = and_parts (is_among c (conns head)) (is_among d (edges_in head (after head w e) c)) on in
    let q = and_parts (is_among d (conns head)) (is_among f (edges_in head (after head w e) d)) next in
    and_from (is_among c (conns head)) (is_among d (edges_in head w c)) p.0 (edge-back-by head w open_ e.who e.act al.2 free c d f p.1 q.1)

-- so where there is no cycle, there is none after it
pub untied-after : (head : Head) (w : World) (e : Entry) → Allowed head w e → WaitersOpen w → may_tie e.act ≡ false → HasNoCycle (edge_in head w)
    → HasNoCycle (edge_in head (after head w e))
untied-after head w e al open_ free none =
    none-closes (edge_in head (after head w e)) (edge_in head w) (edge-back head w e al open_ free) none
