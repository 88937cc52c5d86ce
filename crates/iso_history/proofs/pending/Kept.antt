-- A kept hold stays, in its mode or more, until something takes it away.
use Rattle.std.proofs.Common.{◌≡◌, Bool, true, false, not, ◌&&◌, List, [], ◌∷◌, filter, refl, ap, sym, ◌∙◌, Some, None, Option, if◌then◌else◌, option_map, subst}
use Rattle.std.specs.Option.{option_map_or}
use Rattle.iso_history.proofs.pending.Conns.{and-both, and-first, and-rest, no-both}
use Rattle.iso_history.proofs.pending.Finds.{find-kept, find-mapped, find-passes}
use Rattle.iso_history.specs.Holds.{Hand, hand_of, holds_by_agent, holds_by_hand, spared}
use Rattle.iso_history.specs.Holds.Hand.{Collapses, Drops, Frees, Leaves, Places}
use Rattle.iso_history.specs.World.{World}
use Rattle.iso_history.specs.declared.entry.Act.{Act}
use Rattle.iso_queue.specs.Queues.{Wait, wait_of}
use Rattle.iso_history.specs.declared.entry.Stand.TheVariants.{At, Past}
use Rattle.iso_history.specs.declared.entry.Stand.{Stand}
use Rattle.iso_history.specs.declared.entry.Got.{Got}
use Rattle.iso_history.specs.declared.entry.Act.TheVariants.{Claim, Commit, Lock, Look, Next, Rollback}
use Rattle.iso_history.specs.Guards.{is_end}
use Rattle.iso_modes.specs.Modes.{joined}
use Rattle.iso_modes.specs.Terms.{is_brief, is_fresh, is_kept}
use Rattle.iso_modes.specs.declared.Mode.{Mode}
use Rattle.iso_modes.specs.declared.Term.{Term}
use Rattle.iso_modes.specs.declared.Term.TheVariants.{Brief, Fresh, Kept}
use Rattle.iso_queue.specs.Locks.{Hold, Request, added, all_placed, hold_on, is_covered, is_hold_of, is_spared, placed, raised, settled, settled_one, was_brief, without_briefs}
use Rattle.iso_types.specs.Head.{is_on}
use Rattle.iso_types.specs.Ids.{conn_eq, name_eq}
use Rattle.iso_types.specs.declared.head.Head.{Head}
use Rattle.iso_types.specs.declared.value.Conn.{Conn}
use Rattle.iso_types.specs.declared.value.Name.{Name}
use Rattle.iso_types.specs.declared.value.Name.TheVariants.{Table}
use Rattle.iso_types.specs.declared.value.TableId.{TableId}
use Rattle.iso_history.proofs.pending.Conns.{conn-is}

-- only the name itself is the same as it
abbrev pub Exact : Name → Type 0
Exact n = (m : Name) → name_eq m n ≡ true → m ≡ n

-- what a filter of a hand keeps
turned : (a b : Bool) → (a && b) ≡ false → not (b && a) ≡ true
turned true true e = cc
turned true false e = refl
turned false true e = refl
turned false false e = refl

free_keeps : (c : Conn) (m : Name) (d : Conn) (n : Name) (h : Hold) → Exact n → (name_eq n m && conn_eq d c) ≡ false → is_hold_of d n h ≡ true
    → not (is_hold_of c m h) ≡ true
unfolding is_hold_of
free_keeps c m d n h ex a is =
    let p : h.conn ≡ d = conn-is h.conn d (and-first _ _ is) in
    let q : h.name ≡ n = ex h.name (and-rest (conn_eq h.conn d) _ is) in
    subst (λ (z : Name). not (conn_eq h.conn c && name_eq z m) ≡ true) (sym q)
    (subst (λ (z : Conn). not (conn_eq z c && name_eq n m) ≡ true) (sym p) (turned (name_eq n m) (conn_eq d c) a))

collapse_keeps : (head : Head) (c : Conn) (t : TableId) (d : Conn) (n : Name) (h : Hold) → Exact n → (is_on head t n && conn_eq d c) ≡ false
    → is_hold_of d n h ≡ true → not (conn_eq h.conn c && is_on head t h.name) ≡ true
unfolding is_hold_of
collapse_keeps head c t d n h ex a is =
    let p : h.conn ≡ d = conn-is h.conn d (and-first _ _ is) in
    let q : h.name ≡ n = ex h.name (and-rest (conn_eq h.conn d) _ is) in
    subst (λ (z : Name). not (conn_eq h.conn c && is_on head t z) ≡ true) (sym q)
    (subst (λ (z : Conn). not (conn_eq z c && is_on head t n) ≡ true) (sym p) (turned (is_on head t n) (conn_eq d c) a))

drop_keeps : (c d : Conn) (n : Name) (h : Hold) → conn_eq d c ≡ false → is_hold_of d n h ≡ true → not (conn_eq h.conn c) ≡ true
unfolding is_hold_of
drop_keeps c d n h a is =
    let p : h.conn ≡ d = conn-is h.conn d (and-first _ _ is) in
    subst (λ (z : Conn). not (conn_eq z c) ≡ true) (sym p) (rw a refl)

-- the hold is kept, and its mode passes the test
abbrev pub is_good : (Mode → Bool) → Hold → Bool
is_good p h = is_kept h.term && p h.mode

-- the connection has such a hold on the name
abbrev pub keeps_if : (Mode → Bool) → List Hold → Conn → Name → Bool
keeps_if p holds c n = option_map_or (is_good p) (hold_on holds c n) false

-- a test that a mode passes, each join with it passes
abbrev pub Stable : (Mode → Bool) → Type 0
Stable p = (a b : Mode) → p a ≡ true → p (joined a b) ≡ true

-- the hold that is found
pub keeps-found : (p : Mode → Bool) (holds : List Hold) (c : Conn) (n : Name) → keeps_if p holds c n ≡ true
    → (h : Hold) × (hold_on holds c n ≡ Some h) × (is_kept h.term ≡ true) × (p h.mode ≡ true)
keeps-found p holds c n e = go (hold_on holds c n) refl e
  where
    go : (o : Option Hold) → hold_on holds c n ≡ o → option_map_or (is_good p) o false ≡ true
        → (h : Hold) × (hold_on holds c n ≡ Some h) × (is_kept h.term ≡ true) × (p h.mode ≡ true)
    go None q k = absurd (no-both refl (sym k))
    go (Some h) q k = (h, q, and-first _ _ k, and-rest (is_kept h.term) _ k)

pub keeps-of : (p : Mode → Bool) (holds : List Hold) (c : Conn) (n : Name) (h : Hold) → hold_on holds c n ≡ Some h → is_kept h.term ≡ true → p h.mode ≡ true
    → keeps_if p holds c n ≡ true
keeps-of p holds c n h e k m = rw e (and-both _ _ k m)

pub kept-not_fresh : (t : Term) → is_kept t ≡ true → is_fresh t ≡ false
kept-not_fresh Kept e = refl
kept-not_fresh Fresh e = cc
kept-not_fresh Brief e = cc

pub kept-not_brief : (t : Term) → is_kept t ≡ true → is_brief t ≡ false
kept-not_brief Kept e = refl
kept-not_brief Fresh e = cc
kept-not_brief Brief e = cc

-- whose hold it is
pub hold-conn : (c : Conn) (n : Name) (h : Hold) → is_hold_of c n h ≡ true → conn_eq h.conn c ≡ true
unfolding is_hold_of
hold-conn c n h e = and-first _ _ e

pub hold-name : (c : Conn) (n : Name) (h : Hold) → is_hold_of c n h ≡ true → name_eq h.name n ≡ true
unfolding is_hold_of
hold-name c n h e = and-rest (conn_eq h.conn c) _ e

-- settling leaves whose hold it is
pub settled-of : (c : Conn) (spare : Option Name) (d : Conn) (n : Name) (h : Hold) → is_hold_of d n (settled_one c spare h) ≡ is_hold_of d n h
unfolding is_hold_of
settled-of c spare d n h = go (conn_eq h.conn c && (is_fresh h.term && not (is_spared spare h)))
  where
    go : (b : Bool) → is_hold_of d n (if b then record h { term = Kept } else h) ≡ is_hold_of d n h
    go true = refl
    go false = refl

-- a kept hold is settled
pub settled-kept : (c : Conn) (spare : Option Name) (h : Hold) → is_kept h.term ≡ true → settled_one c spare h ≡ h
settled-kept c spare h k = go (conn_eq h.conn c) (is_fresh h.term) (not (is_spared spare h)) (kept-not_fresh h.term k)
  where
    go : (a b d : Bool) → b ≡ false → (if a && (b && d) then record h { term = Kept } else h) ≡ h
    go true true d e = cc
    go true false d e = refl
    go false b d e = refl

pub keeps-settled : (p : Mode → Bool) (c : Conn) (spare : Option Name) (holds : List Hold) (d : Conn) (n : Name) → keeps_if p holds d n ≡ true
    → keeps_if p (settled c spare holds) d n ≡ true
keeps-settled p c spare holds d n e =
    let f = keeps-found p holds d n e in
    keeps-of p (settled c spare holds) d n f.0
    (find-mapped (is_hold_of d n) (settled_one c spare) (settled-of c spare d n) holds ∙ ap (option_map (settled_one c spare)) f.1 ∙ ap Some
    (settled-kept c spare f.0 f.2))
    f.2 f.3

pub raised-of : (d : Conn) (n : Name) (m : Mode) (t : Term) (h : Hold) → is_hold_of d n (raised m t h) ≡ is_hold_of d n h
unfolding is_hold_of
raised-of d n m t h = refl

raised-good : (p : Mode → Bool) → Stable p → (m : Mode) (t : Term) (h : Hold) → is_good p h ≡ true → is_good p (raised m t h) ≡ true
raised-good p st m t h e =
    let k : is_kept h.term ≡ true = and-first _ _ e in
    rw (k, st h.mode m (and-rest (is_kept h.term) _ e)) refl

pub keeps-added : (p : Mode → Bool) → Stable p → (holds : List Hold) (c : Conn) (r : Request) (d : Conn) (n : Name) → keeps_if p holds d n ≡ true
    → keeps_if p (added holds c r) d n ≡ true
keeps-added p st [] c r d n e = absurd (no-both refl (sym e))
keeps-added p st (h ∷ hs) c r d n e = go (keeps-added p st hs c r d n) (is_hold_of c r.name h) refl (is_hold_of d n h) refl
  where
    go : (keeps_if p hs d n ≡ true → keeps_if p (added hs c r) d n ≡ true) → (a : Bool) → is_hold_of c r.name h ≡ a → (b : Bool) → is_hold_of d n h ≡ b
        → keeps_if p (added (h ∷ hs) c r) d n ≡ true
    go ih true a true b = rw (a, raised-of d n r.mode r.term h, b) (raised-good p st r.mode r.term h (rw b at e))
    go ih true a false b = rw (a, raised-of d n r.mode r.term h, b) (rw b at e)
    go ih false a true b = rw (a, b) (rw b at e)
    go ih false a false b = rw (a, b) (ih (rw b at e))

module _ (head : Head) where
  pub keeps-placed : (p : Mode → Bool) → Stable p → (holds : List Hold) (c : Conn) (r : Request) (d : Conn) (n : Name) → keeps_if p holds d n ≡ true
      → keeps_if p (placed head holds c r) d n ≡ true
  keeps-placed p st holds c r d n e = go (is_covered head holds c r.name r.mode)
    where
      go : (b : Bool) → keeps_if p (if b then holds else added holds c r) d n ≡ true
      go true = e
      go false = keeps-added p st holds c r d n e

  pub keeps-all_placed : (p : Mode → Bool) → Stable p → (holds : List Hold) (c : Conn) (rs : List Request) (d : Conn) (n : Name)
      → keeps_if p holds d n ≡ true → keeps_if p (all_placed head holds c rs) d n ≡ true
  keeps-all_placed p st holds c [] d n e = e
  keeps-all_placed p st holds c (r ∷ rs) d n e = keeps-all_placed p st (placed head holds c r) c rs d n (keeps-placed p st holds c r d n e)

  -- a filter that keeps the hold that is found
  pub keeps-filter : (p : Mode → Bool) (q : Hold → Bool) (holds : List Hold) (d : Conn) (n : Name)
      → ((h : Hold) → is_hold_of d n h ≡ true → is_kept h.term ≡ true → q h ≡ true) → keeps_if p holds d n ≡ true → keeps_if p (filter q holds) d n ≡ true
  keeps-filter p q holds d n keep e =
      let f = keeps-found p holds d n e in
      keeps-of p (filter q holds) d n f.0 (find-kept (is_hold_of d n) q holds f.0 f.1 (keep f.0 (find-passes (is_hold_of d n) holds f.0 f.1) f.2)) f.2 f.3

  -- what the hand takes away from whom
  abbrev pub takes_away : Conn → Hand → Conn → Name → Bool
  takes_away c (Frees m) d n = name_eq n m && conn_eq d c
  takes_away c (Collapses t) d n = is_on head t n && conn_eq d c
  takes_away c Drops d n = conn_eq d c
  takes_away c _ d n = false

  pub keeps-hand : (p : Mode → Bool) → Stable p → (c : Conn) (hand : Hand) (holds : List Hold) (d : Conn) (n : Name) → Exact n
      → takes_away c hand d n ≡ false → keeps_if p holds d n ≡ true → keeps_if p (holds_by_hand head c hand holds) d n ≡ true
  keeps-hand p st c Leaves holds d n ex a e = e
  keeps-hand p st c (Places rs) holds d n ex a e = keeps-all_placed p st holds c rs d n e
  keeps-hand p st c (Frees m) holds d n ex a e = keeps-filter p _ holds d n (λ h is k. free_keeps c m d n h ex a is) e
  keeps-hand p st c (Collapses t) holds d n ex a e = keeps-filter p _ holds d n (λ h is k. collapse_keeps head c t d n h ex a is) e
  keeps-hand p st c Drops holds d n ex a e = keeps-filter p _ holds d n (λ h is k. drop_keeps c d n h a is) e

  -- a kept hold is not Brief
  pub keeps-briefs : (p : Mode → Bool) (before : List Hold) (c : Conn) (holds : List Hold) (d : Conn) (n : Name) → keeps_if p holds d n ≡ true
      → keeps_if p (without_briefs before c holds) d n ≡ true
  keeps-briefs p before c holds d n e = keeps-filter p _ holds d n (λ h is k. stays h (is_brief h.term) (kept-not_brief h.term k)) e
    where
      stays : (h : Hold) (b : Bool) → b ≡ false → not (conn_eq h.conn c && (b && was_brief before c h.name)) ≡ true
      stays h true e = cc
      stays h false e = both (conn_eq h.conn c)
        where
          both : (a : Bool) → not (a && false) ≡ true
          both true = refl
          both false = refl

  -- a connection's entry leaves what is kept once it is settled, and that it does not take away
  pub keeps-mid : (p : Mode → Bool) → Stable p → (w : World) (c : Conn) (a : Act) (d : Conn) (n : Name) → Exact n
      → takes_away c (hand_of head w c a) d n ≡ false → keeps_if p (settled c (spared a (w.last c)) w.holds) d n ≡ true
      → keeps_if p (holds_by_agent head w c a) d n ≡ true
  keeps-mid p st w c a d n ex t e = keeps-briefs p w.holds c _ d n (keeps-hand p st c (hand_of head w c a) _ d n ex t e)

  -- a connection's entry leaves a kept hold that it does not take away
  pub keeps-agent : (p : Mode → Bool) → Stable p → (w : World) (c : Conn) (a : Act) (d : Conn) (n : Name) → Exact n
      → takes_away c (hand_of head w c a) d n ≡ false → keeps_if p w.holds d n ≡ true → keeps_if p (holds_by_agent head w c a) d n ≡ true
  keeps-agent p st w c a d n ex t e =
      keeps-briefs p w.holds c _ d n
      (keeps-hand p st c (hand_of head w c a) _ d n ex t (keeps-settled p c (spared a (w.last c)) w.holds d n e))

  -- a lock on a table stays to the unit's end
  pub away-table : (w : World) (c : Conn) (a : Act) (d : Conn) (t : TableId) → (is_end a && conn_eq d c) ≡ false
      → takes_away c (hand_of head w c a) d (Table t) ≡ false
  unfolding name_eq
  away-table w c (Lock n m k y Got.Granted) d t e = refl
  away-table w c (Lock n m k y (Got.Queued q)) d t e = refl
  away-table w c (Lock n m k y Got.TimedOut) d t e = refl
  away-table w c (Look u r want Got.Granted) d t e = refl
  away-table w c (Look u r want (Got.Queued q)) d t e = refl
  away-table w c (Look u r want Got.TimedOut) d t e = refl
  away-table w c (Next i range at guarded (At v r)) d t e = refl
  away-table w c (Next i range at guarded Past) d t e = refl
  away-table w c (Next i range at guarded (Stand.Queued n)) d t e = refl
  away-table w c (Next i range at guarded (Stand.TimedOut n)) d t e = refl
  away-table w c Claim d t e = claims (wait_of w.waits c)
    where
      claims : (o : Option Wait)
          → takes_away c (option_map_or (λ x. Places (record { name = x.name; mode = x.target; term = x.term } ∷ [])) o Leaves) d (Table t) ≡ false
      claims None = refl
      claims (Some x) = refl
  away-table w c Commit d t e = e
  away-table w c (Rollback code reason) d t e = e
  away-table w c Act.Ended d t e = e
  away-table w c _ d t e = refl
