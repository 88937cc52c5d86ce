-- A kept hold that passes a test passes it after an own entry, where no request, freeing or collapse undoes it.
use Rattle.std.proofs.Common.{◌≡◌, Bool, true, false, not, ◌&&◌, List, [], ◌∷◌, refl, ap, sym, ◌∙◌, subst, Some, None, Option}
use Rattle.std.specs.Option.{option_map, option_map_or}
use Rattle.std.specs.Prelude.{filter}
use Rattle.iso_history.proofs.phantoms.Finds.{find-filter_kept, find-map, find-passes}
use Rattle.iso_history.proofs.phantoms.Names.{name_same, of-name, of-new, of-same}
use Rattle.iso_history.proofs.phantoms.OtherHolds.{of-settled_one}
use Rattle.iso_history.specs.Holds.{Hand, hand_of, holds_by_agent, holds_by_hand, spared}
use Rattle.iso_history.specs.Holds.Hand.{Collapses, Drops, Frees, Leaves, Places}
use Rattle.iso_history.specs.World.{World}
use Rattle.iso_history.specs.declared.entry.Act.{Act}
use Rattle.iso_modes.specs.Terms.{is_brief, is_fresh, is_kept}
use Rattle.iso_modes.specs.declared.Term.{Term}
use Rattle.iso_queue.specs.Locks.{Hold, Request, added, all_placed, hold_on, is_covered, is_hold_of, placed, raised, settled, settled_one, was_brief, without_briefs}
use Rattle.iso_types.specs.Head.{is_on}
use Rattle.iso_types.specs.Ids.{conn_eq, name_eq}
use Rattle.iso_types.specs.declared.head.Head.{Head}
use Rattle.iso_types.specs.declared.value.Conn.{Conn}
use Rattle.iso_types.specs.declared.value.Name.{Name}
use Rattle.iso_types.specs.declared.value.TableId.{TableId}

-- the connection's hold on the name is there and passes the test
abbrev pub kept_as : (Hold → Bool) → List Hold → Conn → Name → Bool
kept_as k holds c n = option_map_or k (hold_on holds c n) false

pub kept-fresh : (t : Term) → is_kept t ≡ true → is_fresh t ≡ false
kept-fresh Term.Kept e = refl
kept-fresh Term.Fresh e = cc
kept-fresh Term.Brief e = cc

pub kept-brief : (t : Term) → is_kept t ≡ true → is_brief t ≡ false
kept-brief Term.Kept e = refl
kept-brief Term.Fresh e = cc
kept-brief Term.Brief e = cc

-- the hold that the test has found
pub held-as : (k : Hold → Bool) (o : Option Hold) → option_map_or k o false ≡ true → (h : Hold) × (o ≡ Some h) × (k h ≡ true)
held-as k None e = cc
held-as k (Some h) e = (h, refl, e)

module _ (head : Head) (k : Hold → Bool) (kept : (h : Hold) → k h ≡ true → is_kept h.term ≡ true) (c : Conn) (n : Name) where
  -- a request on this name leaves the test passed
  abbrev pub Grows : Request → Type 0
  Grows r = name_eq r.name n ≡ true → (h : Hold) → k h ≡ true → k (raised r.mode r.term h) ≡ true

  abbrev pub AllGrow : List Request → Type 0
  AllGrow [] = Unit {0}
  AllGrow (r ∷ rs) = Grows r × AllGrow rs

  -- so do freeing, and collapse
  abbrev pub HandKeeps : Hand → Type 0
  HandKeeps Leaves = Unit {0}
  HandKeeps (Places rs) = AllGrow rs
  HandKeeps (Frees m) = name_eq n m ≡ false
  HandKeeps (Collapses t) = is_on head t n ≡ false
  HandKeeps Drops = ⊥

  settled_one-kept : (spare : Option Name) (h : Hold) → k h ≡ true → settled_one c spare h ≡ h
  settled_one-kept spare h e = go (conn_eq h.conn c) refl
    where
      go : (b : Bool) → conn_eq h.conn c ≡ b → settled_one c spare h ≡ h
      go true f = rw (f, kept-fresh h.term (kept h e)) refl
      go false f = rw f refl

  kept-settled : (spare : Option Name) (hs : List Hold) → kept_as k hs c n ≡ true → kept_as k (settled c spare hs) c n ≡ true
  kept-settled spare hs e =
      let x = held-as k (hold_on hs c n) e in
      let f : hold_on (settled c spare hs) c n ≡ Some x.0 =
      find-map (is_hold_of c n) (settled_one c spare) (of-settled_one c c n spare) hs ∙ ap (option_map (settled_one c spare)) x.1
      ∙ ap Some (settled_one-kept spare x.0 x.2) in
      rw f x.2

  kept-added : (r : Request) (hs : List Hold) → Grows r → kept_as k hs c n ≡ true → kept_as k (added hs c r) c n ≡ true
  kept-added r [] g e = cc
  kept-added r (h ∷ hs) g e = go (kept-added r hs g) (is_hold_of c r.name h) refl (is_hold_of c n h) refl
    where
      go : (kept_as k hs c n ≡ true → kept_as k (added hs c r) c n ≡ true) → (a : Bool) → is_hold_of c r.name h ≡ a → (b : Bool) → is_hold_of c n h ≡ b
          → kept_as k (added (h ∷ hs) c r) c n ≡ true
      go ih true p true q =
          let y : is_hold_of c n (raised r.mode r.term h) ≡ true = of-same c n h (raised r.mode r.term h).mode (raised r.mode r.term h).term ∙ q in
          let s : r.name ≡ n = sym (of-name c r.name h p) ∙ of-name c n h q in
          let z : k h ≡ true = rw q at e in
          rw (p, y) (g (subst (λ (x : Name). name_eq r.name x ≡ true) s (name_same r.name)) h z)
      go ih true p false q =
          let y : is_hold_of c n (raised r.mode r.term h) ≡ false = of-same c n h (raised r.mode r.term h).mode (raised r.mode r.term h).term ∙ q in
          rw (p, y) (rw q at e)
      go ih false p true q = rw (p, q) (rw q at e)
      go ih false p false q = rw (p, q) (ih (rw q at e))

  kept-placed : (r : Request) (hs : List Hold) → Grows r → kept_as k hs c n ≡ true → kept_as k (placed head hs c r) c n ≡ true
  kept-placed r hs g e = go (is_covered head hs c r.name r.mode) refl
    where
      go : (b : Bool) → is_covered head hs c r.name r.mode ≡ b → kept_as k (placed head hs c r) c n ≡ true
      go true p = rw p e
      go false p = rw p (kept-added r hs g e)

  -- requests leave it
  pub kept-all_placed : (rs : List Request) (hs : List Hold) → AllGrow rs → kept_as k hs c n ≡ true → kept_as k (all_placed head hs c rs) c n ≡ true
  kept-all_placed [] hs g e = e
  kept-all_placed (r ∷ rs) hs g e = kept-all_placed rs (placed head hs c r) g.1 (kept-placed r hs g.0 e)

  -- what is found stays where a filter lets it pass
  kept-filter : (q : Hold → Bool) (hs : List Hold) → ((h : Hold) → is_hold_of c n h ≡ true → k h ≡ true → q h ≡ true) → kept_as k hs c n ≡ true
      → kept_as k (filter q hs) c n ≡ true
  kept-filter q hs pass e =
      let x = held-as k (hold_on hs c n) e in
      rw (find-filter_kept (is_hold_of c n) q x.0 hs x.1 (pass x.0 (find-passes (is_hold_of c n) hs x.0 x.1) x.2)) x.2

  freed-pass : (m : Name) → name_eq n m ≡ false → (h : Hold) → is_hold_of c n h ≡ true → not (is_hold_of c m h) ≡ true
  freed-pass m ne h e = go (is_hold_of c m h) refl
    where
      go : (b : Bool) → is_hold_of c m h ≡ b → not (is_hold_of c m h) ≡ true
      go false f = rw f refl
      go true f = let s : n ≡ m = sym (of-name c n h e) ∙ of-name c m h f in
          let z : name_eq n m ≡ true = subst (λ (x : Name). name_eq n x ≡ true) s (name_same n) in absurd (cc)

  collapsed-pass : (t : TableId) → is_on head t n ≡ false → (h : Hold) → is_hold_of c n h ≡ true → not (conn_eq h.conn c && is_on head t h.name) ≡ true
  collapsed-pass t off h e = go (conn_eq h.conn c) refl
    where
      go : (b : Bool) → conn_eq h.conn c ≡ b → not (conn_eq h.conn c && is_on head t h.name) ≡ true
      go false f = rw f refl
      go true f = let z : is_on head t h.name ≡ false = subst (λ (x : Name). is_on head t x ≡ false) (sym (of-name c n h e)) off in rw (f, z) refl

  pub kept-hand : (hand : Hand) (hs : List Hold) → HandKeeps hand → kept_as k hs c n ≡ true → kept_as k (holds_by_hand head c hand hs) c n ≡ true
  kept-hand Leaves hs g e = e
  kept-hand (Places rs) hs g e = kept-all_placed rs hs g e
  kept-hand (Frees m) hs g e = kept-filter (λ h. not (is_hold_of c m h)) hs (λ h p q. freed-pass m g h p) e
  kept-hand (Collapses t) hs g e = kept-filter (λ h. not (conn_eq h.conn c && is_on head t h.name)) hs (λ h p q. collapsed-pass t g h p) e
  kept-hand Drops hs g e = absurd g

  -- what is kept is not brief
  pub kept-briefs : (before hs : List Hold) → kept_as k hs c n ≡ true → kept_as k (without_briefs before c hs) c n ≡ true
  kept-briefs before hs e = kept-filter (λ h. not (conn_eq h.conn c && (is_brief h.term && was_brief before c h.name))) hs
      (λ h p q. pass h (kept-brief h.term (kept h q)) (conn_eq h.conn c) refl) e
    where
      pass : (h : Hold) → is_brief h.term ≡ false → (b : Bool) → conn_eq h.conn c ≡ b
          → not (conn_eq h.conn c && (is_brief h.term && was_brief before c h.name)) ≡ true
      pass h z true f = rw (f, z) refl
      pass h z false f = rw f refl

  -- after an own entry
  pub kept-agent : (w : World) (a : Act) → HandKeeps (hand_of head w c a) → kept_as k w.holds c n ≡ true → kept_as k (holds_by_agent head w c a) c n ≡ true
  kept-agent w a g e =
      kept-briefs w.holds (holds_by_hand head c (hand_of head w c a) (settled c (spared a (w.last c)) w.holds))
      (kept-hand (hand_of head w c a) (settled c (spared a (w.last c)) w.holds) g (kept-settled (spared a (w.last c)) w.holds e))

-- what a request makes of a name
module _ (k : Hold → Bool) (c : Conn) (n : Name) where
  -- a request places what passes
  abbrev pub Makes : List Hold → Request → Type 0
  Makes hs r = (k (record { name = n; conn = c; mode = r.mode; term = r.term }) ≡ true)
      × ((h : Hold) → hold_on hs c n ≡ Some h → k (raised r.mode r.term h) ≡ true)

  -- a request makes it
  pub made-added : (r : Request) (hs : List Hold) → r.name ≡ n → Makes hs r → kept_as k (added hs c r) c n ≡ true
  made-added r [] s m =
      let y : is_hold_of c n (record { name = r.name; conn = c; mode = r.mode; term = r.term }) ≡ true =
      subst (λ (x : Name). is_hold_of c x (record { name = r.name; conn = c; mode = r.mode; term = r.term }) ≡ true) s (of-new c r.name r.mode r.term) in
      rw y (subst (λ (x : Name). k (record { name = x; conn = c; mode = r.mode; term = r.term }) ≡ true) (sym s) m.0)
  made-added r (h ∷ hs) s m = go (made-added r hs s) (is_hold_of c r.name h) refl
    where
      go : (Makes hs r → kept_as k (added hs c r) c n ≡ true) → (a : Bool) → is_hold_of c r.name h ≡ a → kept_as k (added (h ∷ hs) c r) c n ≡ true
      go ih true p =
          let q : is_hold_of c n h ≡ true = subst (λ (x : Name). is_hold_of c x h ≡ true) s p in
          let y : is_hold_of c n (raised r.mode r.term h) ≡ true = of-same c n h (raised r.mode r.term h).mode (raised r.mode r.term h).term ∙ q in
          rw (p, y) (m.1 h (rw q refl))
      go ih false p =
          let q : is_hold_of c n h ≡ false = subst (λ (x : Name). is_hold_of c x h ≡ false) s p in
          rw (p, q) (ih (m.0, λ g e. m.1 g (rw q e)))
