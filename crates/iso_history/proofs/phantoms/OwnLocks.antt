-- What a connection keeps by locks, it keeps through its own entries to its unit's end, but for a Collapse, which its table lock covers.
use Rattle.std.proofs.Common.{◌≡◌, Bool, true, false, ◌&&◌, ◌||◌, List, [], ◌∷◌, refl, sym, subst, Some, None, Option}
use Rattle.std.specs.List.{list_all}
use Rattle.iso_history.proofs.phantoms.Tests.{both, join}
use Rattle.iso_history.proofs.phantoms.Dues.{cover-from, k_cover, k_cover-kept}
use Rattle.iso_history.proofs.phantoms.FitHolds.{HandFits, fits_request, hand-fits}
use Rattle.iso_history.proofs.phantoms.KeptHolds.{AllGrow, Grows, HandKeeps, held-as, kept-agent, kept-fresh, kept_as}
use Rattle.iso_history.proofs.phantoms.ModeLaws.{cover-joined, guard-joined, is_guard, least-joined}
use Rattle.iso_history.proofs.phantoms.Names.{name_is, table_is}
use Rattle.iso_history.proofs.phantoms.SlotStays.{covered-held}
use Rattle.iso_history.specs.Facts.{IsSound, TablesKept, keeps_mode}
use Rattle.iso_history.specs.Gaps.{IsFit, fits_name, guards_name, is_plain, keeps_guard}
use Rattle.iso_history.specs.Guards.{is_end}
use Rattle.iso_history.specs.Holds.{Hand, hand_of, holds_by_agent}
use Rattle.iso_history.specs.Holds.Hand.{Collapses, Drops, Frees, Leaves, Places}
use Rattle.iso_history.specs.Legal.{ByAgent, is_fresh_on}
use Rattle.iso_history.specs.World.{World}
use Rattle.iso_history.specs.declared.entry.Act.{Act}
use Rattle.iso_history.specs.declared.entry.Act.TheVariants.{Claim, Collapse, Commit, Free, Lock, Look, Next, Rollback}
use Rattle.iso_history.specs.declared.entry.Got.{Got}
use Rattle.iso_history.specs.declared.entry.Stand.{Stand}
use Rattle.iso_history.specs.declared.entry.Stand.TheVariants.{At, Past}
use Rattle.iso_modes.specs.Modes.{at_least, covers, joined, mode_eq}
use Rattle.iso_modes.specs.Terms.{is_fresh, is_kept}
use Rattle.iso_modes.specs.declared.Mode.{Mode}
use Rattle.iso_modes.specs.declared.Mode.TheVariants.{Nw, S}
use Rattle.iso_modes.specs.declared.Term.{Term}
use Rattle.iso_queue.specs.Locks.{Hold, Request, hold_on, is_covered_on, raised}
use Rattle.iso_queue.specs.Queues.{Wait, wait_of}
use Rattle.iso_types.specs.Head.{is_on, table_of}
use Rattle.iso_types.specs.Ids.{name_eq, table_eq}
use Rattle.iso_types.specs.declared.head.Head.{Head}
use Rattle.iso_types.specs.declared.value.Conn.{Conn}
use Rattle.iso_types.specs.declared.value.Name.{Name}
use Rattle.iso_types.specs.declared.value.Name.TheVariants.{End, Key, Row, Table}
use Rattle.iso_types.specs.declared.value.Rid.{Rid}
use Rattle.iso_types.specs.declared.value.TableId.{TableId}

-- a kept hold in S or NW, and one in S or more
abbrev pub k_guard : Hold → Bool
k_guard h = is_kept h.term && (mode_eq h.mode S || mode_eq h.mode Nw)

abbrev pub k_least : Hold → Bool
k_least h = is_kept h.term && at_least h.mode S

pub k_guard-kept : (h : Hold) → k_guard h ≡ true → is_kept h.term ≡ true
k_guard-kept h e = (both (is_kept h.term) (mode_eq h.mode S || mode_eq h.mode Nw) e).0

pub k_least-kept : (h : Hold) → k_least h ≡ true → is_kept h.term ≡ true
k_least-kept h e = (both (is_kept h.term) (at_least h.mode S) e).0

-- a kept hold that is raised stays kept
pub raised-stays : (m : Mode) (t : Term) (h : Hold) → is_kept h.term ≡ true → is_kept (raised m t h).term ≡ true
raised-stays m t h e = rw e refl

-- requests that fit leave the tests passed
cover-grows : (head : Head) (c : Conn) (t : TableId) (r : Request) → fits_request r ≡ true → Grows head k_cover k_cover-kept c (Table t) r
cover-grows head c t r f n h k =
    let x = both (is_kept h.term) (covers h.mode S) k in
    join (is_kept (raised r.mode r.term h).term) (covers (joined h.mode r.mode) S) (raised-stays r.mode r.term h x.0)
    (cover-joined h.mode r.mode x.1 (subst (λ (z : Name). fits_name z r.mode ≡ true) (name_is r.name (Table t) n) f))

-- a key name or END
abbrev pub IsKeyName : Name → Type 0
IsKeyName (Key i v) = Unit {0}
IsKeyName (End i) = Unit {0}
IsKeyName _ = ⊥

key_name-mode : (n : Name) (m : Mode) → IsKeyName n → fits_name n m ≡ true → is_guard m ≡ true
key_name-mode (Key i v) m k f = f
key_name-mode (End i) m k f = f
key_name-mode (Table t) m k f = absurd k
key_name-mode (Row t r) m k f = absurd k

pub guard-grows : (head : Head) (c : Conn) (n : Name) (r : Request) → IsKeyName n → fits_request r ≡ true → Grows head k_guard k_guard-kept c n r
guard-grows head c n r kn f e h k =
    let x = both (is_kept h.term) (mode_eq h.mode S || mode_eq h.mode Nw) k in
    join (is_kept (raised r.mode r.term h).term) (is_guard (joined h.mode r.mode)) (raised-stays r.mode r.term h x.0)
    (guard-joined h.mode r.mode x.1 (key_name-mode n r.mode kn (subst (λ (z : Name). fits_name z r.mode ≡ true) (name_is r.name n e) f)))

pub least-grows : (head : Head) (c : Conn) (n : Name) (r : Request) → Grows head k_least k_least-kept c n r
least-grows head c n r e h k =
    let x = both (is_kept h.term) (at_least h.mode S) k in
    join (is_kept (raised r.mode r.term h).term) (at_least (joined h.mode r.mode) S) (raised-stays r.mode r.term h x.0) (least-joined h.mode r.mode x.1)

module _ (head : Head) (k : Hold → Bool) (kept : (h : Hold) → k h ≡ true → is_kept h.term ≡ true) (c : Conn) (n : Name)
    (grows : (r : Request) → fits_request r ≡ true → Grows head k kept c n r) where
  -- requests that fit leave the test passed
  pub all-grow : (rs : List Request) → list_all fits_request rs ≡ true → AllGrow head k kept c n rs
  all-grow [] a = tt
  all-grow (r ∷ rs) a = let x = both (fits_request r) (list_all fits_request rs) a in (grows r x.0, all-grow rs x.1)

  -- the hand of an own entry keeps what it does not free, collapse or drop
  abbrev pub Spares : Hand → Type 0
  Spares (Frees m) = name_eq n m ≡ false
  Spares (Collapses t) = is_on head t n ≡ false
  Spares Drops = ⊥
  Spares _ = Unit {0}

  pub hand-keeps : (hand : Hand) → HandFits hand → Spares hand → HandKeeps head k kept c n hand
  hand-keeps Leaves f s = tt
  hand-keeps (Places rs) f s = all-grow rs f
  hand-keeps (Frees m) f s = s
  hand-keeps (Collapses t) f s = s
  hand-keeps Drops f s = absurd s

  -- so a kept hold stays as it was
  pub own-kept : (w : World) (a : Act) → ByAgent head w c a → is_plain a ≡ true → IsFit w → Spares (hand_of head w c a) → kept_as k w.holds c n ≡ true
      → kept_as k (holds_by_agent head w c a) c n ≡ true
  own-kept w a al p fit s e = kept-agent head k kept c n w a (hand-keeps (hand_of head w c a) (hand-fits head w c a al p fit) s) e

-- what an entry that ends no unit frees or collapses
abbrev pub Keeping : Head → World → Conn → Name → Hand → Type 0
Keeping head w c n (Frees (Row t r)) = is_fresh_on w c (Row t r) ≡ true
Keeping head w c n (Frees _) = ⊥
Keeping head w c n (Collapses t) = is_covered_on w.holds c S t ≡ true
Keeping head w c n Drops = ⊥
Keeping head w c n _ = Unit {0}

claimed-keeping : (head : Head) (w : World) (c : Conn) (n : Name) (o : Option Wait) → wait_of w.waits c ≡ o → Keeping head w c n (hand_of head w c Claim)
claimed-keeping head w c n None e = rw e tt
claimed-keeping head w c n (Some x) e = rw e tt

-- what the hand of an own entry may undo
pub own-keeping : (head : Head) (w : World) (c : Conn) (n : Name) (a : Act) → ByAgent head w c a → IsFit w → is_end a ≡ false
    → Keeping head w c n (hand_of head w c a)
own-keeping head w c n (Free t r) al fit e = al.2
own-keeping head w c n (Collapse t m) al fit e = fit.dues c t m al.1
own-keeping head w c n Claim al fit e = claimed-keeping head w c n (wait_of w.waits c) refl
own-keeping head w c n (Lock m mode term why Got.Granted) al fit e = tt
own-keeping head w c n (Lock m mode term why (Got.Queued q)) al fit e = tt
own-keeping head w c n (Lock m mode term why Got.TimedOut) al fit e = tt
own-keeping head w c n (Look t r want Got.Granted) al fit e = tt
own-keeping head w c n (Look t r want (Got.Queued q)) al fit e = tt
own-keeping head w c n (Look t r want Got.TimedOut) al fit e = tt
own-keeping head w c n (Next i range at guarded (At v r)) al fit e = tt
own-keeping head w c n (Next i range at guarded Past) al fit e = tt
own-keeping head w c n (Next i range at guarded (Stand.Queued m)) al fit e = tt
own-keeping head w c n (Next i range at guarded (Stand.TimedOut m)) al fit e = tt
own-keeping head w c n Commit al fit e = cc
own-keeping head w c n (Rollback code reason) al fit e = cc
own-keeping head w c n Act.Ended al fit e = cc
own-keeping head w c n _ al fit e = tt

-- a table's name is neither freed nor collapsed
pub table-row : (t x : TableId) (y : Rid) → name_eq (Table t) (Row x y) ≡ false
unfolding name_eq
table-row t x y = refl

pub key-row : (n : Name) (x : TableId) (y : Rid) → IsKeyName n → name_eq n (Row x y) ≡ false
unfolding name_eq
key-row (Key i v) x y k = refl
key-row (End i) x y k = refl
key-row (Table t) x y k = absurd k
key-row (Row t r) x y k = absurd k

spares-table : (head : Head) (w : World) (c : Conn) (t : TableId) (hand : Hand) → Keeping head w c (Table t) hand
    → Spares head k_cover k_cover-kept c (Table t) (cover-grows head c t) hand
spares-table head w c t Leaves k = tt
spares-table head w c t (Places rs) k = tt
spares-table head w c t (Frees (Row x y)) k = table-row t x y
spares-table head w c t (Frees (Table x)) k = absurd k
spares-table head w c t (Frees (Key i v)) k = absurd k
spares-table head w c t (Frees (End i)) k = absurd k
spares-table head w c t (Collapses x) k = refl
spares-table head w c t Drops k = absurd k

-- a collapse of a table whose lock covers S is none of a table whose lock does not
pub off-collapsed : (head : Head) (holds : List Hold) (c : Conn) (n : Name) (t x : TableId) → table_of head n ≡ Some t → is_covered_on holds c S t ≡ false
    → is_covered_on holds c S x ≡ true
    → is_on head x n ≡ false
off-collapsed head holds c n t x on bare cov = go (table_eq t x) refl
  where
    go : (b : Bool) → table_eq t x ≡ b → is_on head x n ≡ false
    go false e = rw on e
    go true e = let z : is_covered_on holds c S t ≡ true = subst (λ (y : TableId). is_covered_on holds c S y ≡ true) (sym (table_is t x e)) cov in absurd (cc)

spares-key : (head : Head) (w : World) (c : Conn) (n : Name) (t : TableId) (kn : IsKeyName n) → table_of head n ≡ Some t → is_covered_on w.holds c S t ≡ false
    → (hand : Hand)
    → Keeping head w c n hand → Spares head k_guard k_guard-kept c n (λ r. guard-grows head c n r kn) hand
spares-key head w c n t kn on bare Leaves k = tt
spares-key head w c n t kn on bare (Places rs) k = tt
spares-key head w c n t kn on bare (Frees (Row x y)) k = key-row n x y kn
spares-key head w c n t kn on bare (Frees (Table x)) k = absurd k
spares-key head w c n t kn on bare (Frees (Key i v)) k = absurd k
spares-key head w c n t kn on bare (Frees (End i)) k = absurd k
spares-key head w c n t kn on bare (Collapses x) k = off-collapsed head w.holds c n t x on bare k
spares-key head w c n t kn on bare Drops k = absurd k

-- a kept row is neither freed nor, without a covering lock, collapsed
spares-row : (head : Head) (w : World) (c : Conn) (t : TableId) (s : Rid) (k : Hold → Bool) (kept : (h : Hold) → k h ≡ true → is_kept h.term ≡ true)
    (grows : (r : Request) → fits_request r ≡ true → Grows head k kept c (Row t s) r)
    → kept_as k w.holds c (Row t s) ≡ true → is_covered_on w.holds c S t ≡ false → (hand : Hand)
    → Keeping head w c (Row t s) hand → Spares head k kept c (Row t s) grows hand
spares-row head w c t s k kept grows e bare Leaves f = tt
spares-row head w c t s k kept grows e bare (Places rs) f = tt
spares-row head w c t s k kept grows e bare (Frees (Row x y)) f = go (name_eq (Row t s) (Row x y)) refl
  where
    go : (b : Bool) → name_eq (Row t s) (Row x y) ≡ b → name_eq (Row t s) (Row x y) ≡ false
    go false g = g
    go true g =
        let n : Row t s ≡ Row x y = name_is (Row t s) (Row x y) g in
        let h = held-as k (hold_on w.holds c (Row t s)) e in
        let z : is_fresh_on w c (Row t s) ≡ true = subst (λ (m : Name). is_fresh_on w c m ≡ true) (sym n) f in
        let y1 : is_fresh h.0.term ≡ true = rw h.1 at z in
        let y2 : is_fresh h.0.term ≡ false = kept-fresh h.0.term (kept h.0 h.2) in absurd (cc)
spares-row head w c t s k kept grows e bare (Frees (Table x)) f = absurd f
spares-row head w c t s k kept grows e bare (Frees (Key i v)) f = absurd f
spares-row head w c t s k kept grows e bare (Frees (End i)) f = absurd f
spares-row head w c t s k kept grows e bare (Collapses x) f = off-collapsed head w.holds c (Row t s) t x refl bare f
spares-row head w c t s k kept grows e bare Drops f = absurd f

module _ (head : Head) (w : World) (sound : IsSound head w) (fit : IsFit w) (c : Conn) (a : Act) (al : ByAgent head w c a) (plain : is_plain a ≡ true)
    (ends : is_end a ≡ false) where
  -- the table's lock
  pub own-covered : (t : TableId) → is_covered_on w.holds c S t ≡ true → is_covered_on (holds_by_agent head w c a) c S t ≡ true
  unfolding TablesKept
  own-covered t e =
      let x = covered-held w.holds c S t e in
      let k : kept_as k_cover w.holds c (Table t) ≡ true = rw x.1 (join (is_kept x.0.term) (covers x.0.mode S) (sound.tables c t x.0 x.1) x.2) in
      cover-from (holds_by_agent head w c a) c t
      (own-kept head k_cover k_cover-kept c (Table t) (cover-grows head c t) w a al plain fit
      (spares-table head w c t (hand_of head w c a) (own-keeping head w c (Table t) a al fit ends)) k)

  -- a key name or END
  pub own-guard : (n : Name) (t : TableId) → IsKeyName n → table_of head n ≡ Some t → is_covered_on w.holds c S t ≡ false → keeps_guard w.holds c n ≡ true
      → keeps_guard (holds_by_agent head w c a) c n ≡ true
  own-guard n t kn on bare e = own-kept head k_guard k_guard-kept c n (λ r. guard-grows head c n r kn) w a al plain fit
      (spares-key head w c n t kn on bare (hand_of head w c a) (own-keeping head w c n a al fit ends)) e

  -- a row
  pub own-row-by : (k : Hold → Bool) (kept : (h : Hold) → k h ≡ true → is_kept h.term ≡ true) (t : TableId) (s : Rid)
      → ((r : Request) → fits_request r ≡ true → Grows head k kept c (Row t s) r) → is_covered_on w.holds c S t ≡ false → kept_as k w.holds c (Row t s) ≡ true
      → kept_as k (holds_by_agent head w c a) c (Row t s) ≡ true
  own-row-by k kept t s grows bare e = own-kept head k kept c (Row t s) grows w a al plain fit
      (spares-row head w c t s k kept grows e bare (hand_of head w c a) (own-keeping head w c (Row t s) a al fit ends)) e

  pub own-row : (t : TableId) (s : Rid) → is_covered_on w.holds c S t ≡ false → keeps_mode w.holds c (Row t s) S ≡ true
      → keeps_mode (holds_by_agent head w c a) c (Row t s) S ≡ true
  own-row t s bare e = own-row-by k_least k_least-kept t s (λ r f. least-grows head c (Row t s) r) bare e

  -- either of them
  pub own-name : (n : Name) (t : TableId) → IsKeyName n → table_of head n ≡ Some t → guards_name w.holds c t n ≡ true
      → guards_name (holds_by_agent head w c a) c t n ≡ true
  own-name n t kn on e = go (is_covered_on w.holds c S t) refl
    where
      x : List Hold
      x = holds_by_agent head w c a

      or_right : (a b : Bool) → b ≡ true → (a || b) ≡ true
      or_right true b q = refl
      or_right false b q = q

      go : (b : Bool) → is_covered_on w.holds c S t ≡ b → guards_name x c t n ≡ true
      go true f = rw (own-covered t f) refl
      go false f = or_right (is_covered_on x c S t) (keeps_guard x c n) (own-guard n t kn on f (rw f at e))
