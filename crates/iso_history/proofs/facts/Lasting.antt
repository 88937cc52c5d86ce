-- A lock that is kept, or a table lock that covers it, lasts to the unit's end.
use Rattle.std.proofs.Common.{◌≡◌, Bool, true, false, not, ◌&&◌, ◌||◌, List, [], ◌∷◌, refl, ap, sym, ◌∙◌, subst, Some, None, Option, option_map, filter, ◌⊎◌, inl, inr}
use Rattle.std.specs.Option.{option_map_or}
use Rattle.std.proofs.lemmas.Bool.{and_from, and_parts, or_cases}
use Rattle.iso_history.proofs.facts.Awaited.{table-stays}
use Rattle.iso_history.proofs.facts.Backed.{brief-kept, collapse-keeps, free-keeps, held-kept}
use Rattle.iso_history.proofs.facts.Others.{hold_on-others}
use Rattle.iso_history.proofs.facts.Single.{single-settled}
use Rattle.iso_history.proofs.facts.Suits.{HeldSuit, suits-added, suits-settled, to_modes}
use Rattle.iso_history.proofs.facts.Tables.{at_table, tables-hand, tables-settled}
use Rattle.iso_history.proofs.locks.Finds.{find-filter_kept, find-is}
use Rattle.iso_history.proofs.locks.Fits.{MayStand}
use Rattle.iso_history.proofs.locks.Hands.{hand-stands}
use Rattle.iso_history.proofs.locks.Holds.{granted, held-other, held-own, held-settled, hold_on-other, hold_on-own, hold_on-settled, kept-settled, mode-settled, of-is}
use Rattle.iso_history.proofs.locks.Modes.{at_least-joined, covers-joined, covers-lower}
use Rattle.iso_history.proofs.locks.Placing.{all-keep, along-each, covered-alike, each-all}
use Rattle.iso_history.proofs.locks.Same.{conn_is, name_is, table_is}
use Rattle.iso_history.proofs.locks.Stands.{HandStands}
use Rattle.iso_history.proofs.locks.Tests.{or-first, or-second}
use Rattle.iso_history.specs.Facts.{AreSingle, DuesCover, LocksSound, has_write_lock, keeps_mode, suits_held}
use Rattle.iso_history.specs.Holds.{Hand, hand_of, holds_by, holds_by_hand, spared}
use Rattle.iso_history.specs.Holds.Hand.{Collapses, Drops, Frees, Leaves, Places}
use Rattle.iso_history.specs.Legal.{By, ByAgent, is_fresh_on}
use Rattle.iso_history.specs.Requests.{is_row_mode}
use Rattle.iso_history.specs.World.{World}
use Rattle.iso_history.specs.declared.entry.Act.{Act}
use Rattle.iso_history.specs.declared.entry.Act.TheVariants.{Claim, Collapse, Free, Lock, Look, Next}
use Rattle.iso_history.specs.declared.entry.Got.{Got}
use Rattle.iso_history.specs.declared.entry.Stand.{Stand}
use Rattle.iso_history.specs.declared.entry.Stand.TheVariants.{At, Past}
use Rattle.iso_history.specs.declared.entry.Who.{Who}
use Rattle.iso_history.specs.declared.entry.Who.TheVariants.{Agent, Dispatcher}
use Rattle.iso_modes.specs.Modes.{at_least, covers, joined}
use Rattle.iso_modes.specs.Terms.{is_fresh, is_kept}
use Rattle.iso_modes.specs.declared.Mode.{Mode}
use Rattle.iso_modes.specs.declared.Mode.TheVariants.{X}
use Rattle.iso_modes.specs.declared.Term.{Term}
use Rattle.iso_modes.specs.declared.Term.TheVariants.{Brief, Fresh, Kept}
use Rattle.iso_queue.specs.Locks.{Hold, Request, added, held, hold_on, holds_at_least, is_covered, is_hold_of, settled, settled_one, target}
use Rattle.iso_queue.specs.Queues.{Wait, wait_of}
use Rattle.iso_types.specs.Head.{is_on, table_of}
use Rattle.iso_types.specs.Ids.{conn_eq, name_eq, table_eq}
use Rattle.iso_types.specs.declared.head.Head.{Head}
use Rattle.iso_types.specs.declared.value.Conn.{Conn}
use Rattle.iso_types.specs.declared.value.Name.{Name}
use Rattle.iso_types.specs.declared.value.Name.TheVariants.{Row, Table}
use Rattle.iso_types.specs.declared.value.Rid.{Rid}
use Rattle.iso_types.specs.declared.value.TableId.{TableId}

-- the connection keeps the name in the mode, or has a table lock that covers it
abbrev pub lasts : Head → List Hold → Conn → Name → Mode → Bool
lasts head hs c n m = is_covered head hs c n m || keeps_mode hs c n m

-- what an allowed entry frees is fresh, and what it collapses was due
abbrev HandSays : World → Conn → Hand → Type 0
HandSays w c (Frees n) = is_fresh_on w c n ≡ true
HandSays w c (Collapses t) = (m : Mode) × (w.due c ≡ Some (t, m))
HandSays w c _ = Unit {0}

hand-says : (head : Head) (w : World) (c : Conn) (a : Act) → ByAgent head w c a → HandSays w c (hand_of head w c a)
hand-says head w c (Free t r) al = al.2
hand-says head w c (Collapse t m) al = (m, al.1)
hand-says head w c (Lock n m t why Got.Granted) al = tt
hand-says head w c (Lock n m t why (Got.Queued q)) al = tt
hand-says head w c (Lock n m t why Got.TimedOut) al = tt
hand-says head w c (Look t r want Got.Granted) al = tt
hand-says head w c (Look t r want (Got.Queued q)) al = tt
hand-says head w c (Look t r want Got.TimedOut) al = tt
hand-says head w c (Next i range at guarded (At v r)) al = tt
hand-says head w c (Next i range at guarded Past) al = tt
hand-says head w c (Next i range at guarded (Stand.Queued n)) al = tt
hand-says head w c (Next i range at guarded (Stand.TimedOut n)) al = tt
hand-says head w c Claim al = go (wait_of w.waits c)
  where
    go : (x : Option Wait) → HandSays w c (option_map_or (λ y. Places (record { name = y.name; mode = y.target; term = y.term } ∷ [])) x Leaves)
    go None = tt
    go (Some x) = tt
hand-says head w c _ al = tt

module _ (head : Head) (c : Conn) (n : Name) (m : Mode) (u : TableId) (on : table_of head n ≡ Some u) (row : is_row_mode m ≡ true) where
  -- the lock on the table covers it
  abbrev CoveredIn : List Hold → Type 0
  CoveredIn hs = option_map_or (λ h. covers h m) (held hs c (Table u)) false ≡ true

  covered-is : (hs : List Hold) → is_covered head hs c n m ≡ option_map_or (λ h. covers h m) (held hs c (Table u)) false
  covered-is hs = rw on refl

  table-named : (hs : List Hold) (g : Hold) → hold_on hs c (Table u) ≡ Some g → g.name ≡ Table u
  table-named hs g e = (of-is c (Table u) g (find-is (is_hold_of c (Table u)) hs g e)).1

  covered-added : (hs : List Hold) (r : Request) → HeldSuit head hs → suits_held r.name r.mode ≡ true → CoveredIn hs → CoveredIn (added hs c r)
  covered-added hs r s f e = go (conn_eq c c && name_eq r.name (Table u)) refl
    where
      passes : Option Mode → Bool
      passes x = option_map_or (λ h. covers h m) x false

      own : (x : Option Mode) → held hs c (Table u) ≡ x → passes x ≡ true → suits_held (Table u) r.mode ≡ true
          → covers (option_map_or (λ h. joined h r.mode) x r.mode) m ≡ true
      own None k p q = cc
      own (Some t) k p q = covers-joined u t r.mode m (s c (Table u) t k) q row p

      go : (b : Bool) → (conn_eq c c && name_eq r.name (Table u)) ≡ b → CoveredIn (added hs c r)
      go true k =
          let named : r.name ≡ Table u = name_is r.name (Table u) (and_parts _ _ k).1 in
          let new : held (added hs c r) c (Table u) ≡ Some (target hs c (Table u) r.mode) =
          ap (held (added hs c r) c) (sym named) ∙ held-own c r hs ∙ ap (λ (x : Name). Some (target hs c x r.mode)) named in
          ap passes new ∙ own (held hs c (Table u)) refl e (ap (λ (x : Name). suits_held x r.mode) (sym named) ∙ f)
      go false k = ap passes (held-other c r c (Table u) k hs) ∙ e

  covered-hand : (hand : Hand) (hs : List Hold) → HandStands head c hs hand → (hand ≡ Drops → ⊥) → HeldSuit head hs → CoveredIn hs
      → CoveredIn (holds_by_hand head c hand hs)
  covered-hand Leaves hs f stays s e = e
  covered-hand (Places rs) hs f stays s e =
      (all-keep head c (MayStand head c) (λ xs. HeldSuit head xs × CoveredIn xs)
      (λ xs r k g both. (suits-added head c r xs (g k).suits both.0, covered-added xs r both.0 (g k).suits both.1)) hs rs f (s, e)).1
  covered-hand (Frees k) hs f stays s e = held-kept (λ z. covers z m) _ hs c (Table u) (λ g x. free-keeps c c k u g (f u) (table-named hs g x)) e
  covered-hand (Collapses t) hs f stays s e = held-kept (λ z. covers z m) _ hs c (Table u) (λ g x. collapse-keeps head c t u g (table-named hs g x)) e
  covered-hand Drops hs f stays s e = absurd (stays refl)

  -- the connection keeps the name in the mode
  abbrev KeptIn : List Hold → Type 0
  KeptIn hs = keeps_mode hs c n m ≡ true

  keeps-settled : (spare : Option Name) (hs : List Hold) → KeptIn hs → KeptIn (settled c spare hs)
  keeps-settled spare hs e = ap kept (hold_on-settled c spare hs c n) ∙ go (hold_on hs c n) e
    where
      kept : Option Hold → Bool
      kept x = option_map_or (λ h. is_kept h.term && at_least h.mode m) x false

      go : (x : Option Hold) → kept x ≡ true → kept (option_map (settled_one c spare) x) ≡ true
      go None k = k
      go (Some h) k =
          let p = and_parts _ _ k in
          and_from _ _ (kept-settled c spare h p.0) (ap (λ (z : Mode). at_least z m) (mode-settled c spare h) ∙ p.1)

  keeps-added : (hs : List Hold) (r : Request) → KeptIn hs → KeptIn (added hs c r)
  keeps-added hs r e = go (conn_eq c c && name_eq r.name n) refl
    where
      kept : Option Hold → Bool
      kept x = option_map_or (λ h. is_kept h.term && at_least h.mode m) x false

      own : (x : Option Hold) → kept x ≡ true → kept (Some (granted c r x)) ≡ true
      own None k = cc
      own (Some h) k =
          let p = and_parts (is_kept h.term) (at_least h.mode m) k in
          rw p.0 (at_least-joined h.mode r.mode m p.1)

      go : (b : Bool) → (conn_eq c c && name_eq r.name n) ≡ b → KeptIn (added hs c r)
      go true k =
          let named : r.name ≡ n = name_is r.name n (and_parts _ _ k).1 in
          let new : hold_on (added hs c r) c n ≡ Some (granted c r (hold_on hs c n)) =
          ap (hold_on (added hs c r) c) (sym named) ∙ hold_on-own c r hs ∙ ap (λ (x : Name). Some (granted c r (hold_on hs c x))) named in
          ap kept new ∙ own (hold_on hs c n) e
      go false k = ap kept (hold_on-other c r c n k hs) ∙ e

  keeps-filter : (q : Hold → Bool) (hs : List Hold) → ((g : Hold) → hold_on hs c n ≡ Some g → is_kept g.term ≡ true → q g ≡ true) → KeptIn hs
      → KeptIn (filter q hs)
  keeps-filter q hs keep e = go (hold_on hs c n) refl e
    where
      kept : Option Hold → Bool
      kept x = option_map_or (λ h. is_kept h.term && at_least h.mode m) x false

      go : (x : Option Hold) → hold_on hs c n ≡ x → kept x ≡ true → KeptIn (filter q hs)
      go None k f = cc
      go (Some g) k f = ap kept (find-filter_kept (is_hold_of c n) q hs g k (keep g k (and_parts _ _ f).0)) ∙ f

  -- a hand that frees another name, and collapses another table
  abbrev Passes : Hand → Type 0
  Passes (Frees k) = n ≡ k → ⊥
  Passes (Collapses t) = table_eq u t ≡ false
  Passes Drops = ⊥
  Passes _ = Unit {0}

  named-in : (hs : List Hold) (g : Hold) → hold_on hs c n ≡ Some g → g.name ≡ n
  named-in hs g e = (of-is c n g (find-is (is_hold_of c n) hs g e)).1

  keeps-hand : (hand : Hand) (hs : List Hold) → Passes hand → KeptIn hs → KeptIn (holds_by_hand head c hand hs)
  keeps-hand Leaves hs f e = e
  keeps-hand (Places rs) hs f e =
      all-keep head c (λ xs r. Unit {0}) KeptIn (λ xs r k g both. keeps-added xs r both) hs rs
      (along-each head c (λ r. Unit {0}) hs rs (each-all (λ r. Unit {0}) (λ r. tt) rs)) e
  keeps-hand (Frees k) hs f e = keeps-filter _ hs (λ g x y. other g x) e
    where
      other : (g : Hold) → hold_on hs c n ≡ Some g → not (is_hold_of c k g) ≡ true
      other g x = go (is_hold_of c k g) refl
        where
          go : (b : Bool) → is_hold_of c k g ≡ b → not b ≡ true
          go true z = absurd (f (sym (named-in hs g x) ∙ (of-is c k g z).1))
          go false z = refl
  keeps-hand (Collapses t) hs f e = keeps-filter _ hs (λ g x y. other g x) e
    where
      away : (b : Bool) → not (b && false) ≡ true
      away true = refl
      away false = refl

      other : (g : Hold) → hold_on hs c n ≡ Some g → not (conn_eq g.conn c && is_on head t g.name) ≡ true
      other g x =
          let off : is_on head t g.name ≡ false =
          ap (is_on head t) (named-in hs g x) ∙ ap (λ (z : Option TableId). option_map_or (λ v. table_eq v t) z false) on ∙ f in
          ap (λ (b : Bool). not (conn_eq g.conn c && b)) off ∙ away (conn_eq g.conn c)
  keeps-hand Drops hs f e = absurd f

-- what a connection's own entry leaves, but the end of its unit
module _ (head : Head) (w : World) (c : Conn) (a : Act) (al : ByAgent head w c a) (s : LocksSound head w) (n : Name) (m : Mode) (u : TableId)
    (on : table_of head n ≡ Some u) (row : is_row_mode m ≡ true) where
  -- a table lock that covers the name goes on to
  covered-stays : (hand_of head w c a ≡ Drops → ⊥) → is_covered head w.holds c n m ≡ true → is_covered head (holds_by head w (Agent c) a) c n m ≡ true
  covered-stays stays e =
      let spare = spared a (w.last c) in
      let hs : List Hold = settled c spare w.holds in
      let one : AreSingle hs = single-settled c spare w.holds s.single in
      let hand = hand_of head w c a in
      let fits = hand-stands head w c spare a s al in
      let kept = tables-hand head c hand hs one fits (tables-settled c spare w.holds s.tables) in
      let old : is_covered head hs c n m ≡ true = covered-alike head hs w.holds c n m (held-settled c spare w.holds) ∙ e in
      let suits : HeldSuit head hs = suits-settled head c spare w.holds (to_modes head w.holds s.suits) in
      let new = covered-hand head c n m u on row hand hs fits stays suits (sym (covered-is head c n m u on row hs) ∙ old) in
      covered-is head c n m u on row (holds_by head w (Agent c) a)
      ∙ held-kept (λ z. covers z m) _ (holds_by_hand head c hand hs) c (Table u)
      (λ g x. brief-kept w.holds c g (at_table (holds_by_hand head c hand hs) kept c u g x)) new

  -- a kept hold stays, where it is neither freed nor collapsed
  kept-stays : Passes head c n m u on row (hand_of head w c a) → keeps_mode w.holds c n m ≡ true → keeps_mode (holds_by head w (Agent c) a) c n m ≡ true
  kept-stays f e =
      let spare = spared a (w.last c) in
      let hs : List Hold = settled c spare w.holds in
      let hand = hand_of head w c a in
      keeps-filter head c n m u on row _ (holds_by_hand head c hand hs) (λ g x k. brief-kept w.holds c g k)
      (keeps-hand head c n m u on row hand hs f (keeps-settled head c n m u on row spare w.holds e))

  -- a kept name is not freed
  not-freed : (k : Name) → is_fresh_on w c k ≡ true → keeps_mode w.holds c n m ≡ true → n ≡ k → ⊥
  not-freed k f e same = go (hold_on w.holds c n) e (ap (λ (x : Name). option_map_or (λ h. is_fresh h.term) (hold_on w.holds c x) false) same ∙ f)
    where
      both : (t : Term) → is_kept t ≡ true → is_fresh t ≡ true → ⊥
      both Kept x y = cc
      both Brief x y = cc
      both Fresh x y = cc

      go : (x : Option Hold) → option_map_or (λ h. is_kept h.term && at_least h.mode m) x false ≡ true → option_map_or (λ h. is_fresh h.term) x false ≡ true → ⊥
      go None x y = cc
      go (Some h) x y = both h.term (and_parts _ _ x).0 y

  -- a name of a table that collapses was covered
  due-covered : (k : Mode) → w.due c ≡ Some (u, k) → keeps_mode w.holds c n m ≡ true → is_covered head w.holds c n m ≡ true
  unfolding DuesCover
  due-covered k due e = go (hold_on w.holds c n) refl e
    where
      go : (x : Option Hold) → hold_on w.holds c n ≡ x → option_map_or (λ h. is_kept h.term && at_least h.mode m) x false ≡ true
          → is_covered head w.holds c n m ≡ true
      go None x y = cc
      go (Some h) x y =
          let d = s.dues c u k due in
          let all : covers d.0 h.mode ≡ true = d.2 n h on x in
          covered-is head c n m u on row w.holds ∙ ap (λ (z : Option Mode). option_map_or (λ b. covers b m) z false) d.1
          ∙ covers-lower d.0 h.mode m all (and_parts _ _ y).1 row

  -- so what lasts goes on to last
  own-lasts : (hand_of head w c a ≡ Drops → ⊥) → lasts head w.holds c n m ≡ true → lasts head (holds_by head w (Agent c) a) c n m ≡ true
  own-lasts stays e = go (or_cases _ _ e)
    where
      by_cover : is_covered head w.holds c n m ≡ true → lasts head (holds_by head w (Agent c) a) c n m ≡ true
      by_cover f = or-first _ _ (covered-stays stays f)

      by_hold : (keeps_mode w.holds c n m ≡ true) → (h : Hand) → hand_of head w c a ≡ h → HandSays w c h → lasts head (holds_by head w (Agent c) a) c n m ≡ true
      by_hold f Leaves is says = or-second _ _ (kept-stays (subst (Passes head c n m u on row) (sym is) tt) f)
      by_hold f (Places rs) is says = or-second _ _ (kept-stays (subst (Passes head c n m u on row) (sym is) tt) f)
      by_hold f (Frees k) is says = or-second _ _ (kept-stays (subst (Passes head c n m u on row) (sym is) (not-freed k says f)) f)
      by_hold f (Collapses t) is says = at_collapse (table_eq u t) refl
        where
          at_collapse : (b : Bool) → table_eq u t ≡ b → lasts head (holds_by head w (Agent c) a) c n m ≡ true
          at_collapse true k = by_cover (due-covered says.0 (subst (λ (x : TableId). w.due c ≡ Some (x, says.0)) (sym (table_is u t k)) says.1) f)
          at_collapse false k = or-second _ _ (kept-stays (subst (Passes head c n m u on row) (sym is) k) f)
      by_hold f Drops is says = absurd (stays is)

      go : (is_covered head w.holds c n m ≡ true) ⊎ (keeps_mode w.holds c n m ≡ true) → lasts head (holds_by head w (Agent c) a) c n m ≡ true
      go (inl f) = by_cover f
      go (inr f) = by_hold f (hand_of head w c a) refl (hand-says head w c a al)

-- another's entry leaves all of it
others-last : (head : Head) (w : World) (d c : Conn) (a : Act) (n : Name) (m : Mode) (u : TableId) → table_of head n ≡ Some u → conn_eq d c ≡ false
    → lasts head w.holds c n m ≡ true → lasts head (holds_by head w (Agent d) a) c n m ≡ true
others-last head w d c a n m u on away e =
    ap (λ (b : Bool). b || keeps_mode holds c n m) first ∙ ap (λ (b : Bool). is_covered head w.holds c n m || b) second ∙ e
  where
    holds : List Hold
    holds = holds_by head w (Agent d) a

    covering : Option Hold → Bool
    covering x = option_map_or (λ h. covers h m) (option_map (λ h. h.mode) x) false

    kept : Option Hold → Bool
    kept x = option_map_or (λ h. is_kept h.term && at_least h.mode m) x false

    covered-is_by : (hs : List Hold) → is_covered head hs c n m ≡ covering (hold_on hs c (Table u))
    covered-is_by hs = rw on refl

    first : is_covered head holds c n m ≡ is_covered head w.holds c n m
    first = covered-is_by holds ∙ ap covering (hold_on-others d c (Table u) away head w a) ∙ sym (covered-is_by w.holds)

    second : keeps_mode holds c n m ≡ keeps_mode w.holds c n m
    second = ap kept (hold_on-others d c n away head w a)

-- the entry ends the connection's unit
abbrev pub drops : Head → World → Conn → Who → Act → Type 0
drops head w c Dispatcher a = ⊥
drops head w c (Agent d) a = (conn_eq d c ≡ true) × (hand_of head w d a ≡ Drops)

-- what lasts, lasts until the connection's unit ends
pub lasts-stays : (head : Head) (w : World) (who : Who) (a : Act) → By head w who a → LocksSound head w → (c : Conn) (n : Name) (m : Mode) (u : TableId)
    → table_of head n ≡ Some u → is_row_mode m ≡ true → (drops head w c who a → ⊥) → lasts head w.holds c n m ≡ true
    → lasts head (holds_by head w who a) c n m ≡ true
lasts-stays head w Dispatcher a al s c n m u on row stays e = e
lasts-stays head w (Agent d) a al s c n m u on row stays e = go (conn_eq d c) refl
  where
    go : (b : Bool) → conn_eq d c ≡ b → lasts head (holds_by head w (Agent d) a) c n m ≡ true
    go true k =
        let same : d ≡ c = conn_is d c k in
        let own : lasts head w.holds d n m ≡ true = ap (λ (x : Conn). lasts head w.holds x n m) same ∙ e in
        ap (λ (x : Conn). lasts head (holds_by head w (Agent d) a) x n m) (sym same) ∙ own-lasts head w d a al.1 s n m u on row (λ h. stays (k, h)) own
    go false k = others-last head w d c a n m u on k e

-- so does a lock for writing
pub write_lock-stays : (head : Head) (w : World) (who : Who) (a : Act) → By head w who a → LocksSound head w → (c : Conn) (t : TableId) (r : Rid)
    → (drops head w c who a → ⊥) → has_write_lock head w.holds c t r ≡ true → has_write_lock head (holds_by head w who a) c t r ≡ true
unfolding is_row_mode
write_lock-stays head w who a al s c t r stays e = lasts-stays head w who a al s c (Row t r) X t refl refl stays e

-- a table lock stays in its mode or more until the connection's unit ends
pub table_lock-stays : (head : Head) (w : World) (who : Who) (a : Act) → By head w who a → LocksSound head w → (c : Conn) (t : TableId) (m : Mode)
    → (drops head w c who a → ⊥) → holds_at_least w.holds c (Table t) m ≡ true → holds_at_least (holds_by head w who a) c (Table t) m ≡ true
table_lock-stays head w Dispatcher a al s c t m stays e = e
table_lock-stays head w (Agent d) a al s c t m stays e = table-stays head c t m w d a al s (λ h. other h (conn_eq d c) refl) e
  where
    other : hand_of head w d a ≡ Drops → (b : Bool) → conn_eq d c ≡ b → conn_eq d c ≡ false
    other h true k = absurd (stays (k, h))
    other h false k = k
