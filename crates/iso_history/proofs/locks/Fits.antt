-- What a request meets when it is placed: it goes with what others hold of its name, its table is held, and a table lock is kept.
use Rattle.std.proofs.Common.{◌≡◌, Bool, true, false, not, ◌&&◌, ◌||◌, if◌then◌else◌, List, refl, ap, sym, ◌∙◌, Some, None, Option, option_map, ◌⊎◌, inl, inr}
use Rattle.std.specs.List.{list_any}
use Rattle.std.specs.Option.{option_map_or}
use Rattle.std.proofs.lemmas.Bool.{and_parts}
use Rattle.iso_history.proofs.locks.Finds.{find-is, none-found}
use Rattle.iso_history.proofs.locks.Holds.{of-is}
use Rattle.iso_history.proofs.locks.Placing.{HeldAlike, at_least-alike, covered-alike}
use Rattle.iso_history.proofs.locks.Same.{conn_is, conn_same, name_same}
use Rattle.iso_history.proofs.locks.Tests.{or-first_false, or-other}
use Rattle.iso_history.specs.Facts.{suits_held, GoTogether}
use Rattle.iso_history.specs.Requests.{asking, is_backed, is_had, is_limited, need_of, request, table_mode}
use Rattle.iso_history.specs.Requests.Outcome.{Gives, Limit}
use Rattle.iso_history.specs.World.{World}
use Rattle.iso_history.specs.declared.entry.Got.{Got}
use Rattle.iso_modes.proofs.Modes.{mode_eq-is}
use Rattle.iso_modes.proofs.Table.{joined_is, symmetric}
use Rattle.iso_modes.specs.Modes.{compatible, joined, mode_eq}
use Rattle.iso_modes.specs.Terms.{is_kept}
use Rattle.iso_modes.specs.declared.Mode.{Mode}
use Rattle.iso_modes.specs.declared.Term.{Term}
use Rattle.iso_queue.specs.Locks.{Hold, Request, held, hold_on, holds_at_least, is_covered, is_hold_of, target}
use Rattle.iso_queue.specs.Queues.{Wait, opposes, would_wait}
use Rattle.iso_types.specs.Head.{table_of}
use Rattle.iso_types.specs.Ids.{conn_eq, name_eq}
use Rattle.iso_types.specs.declared.head.Head.{Head}
use Rattle.iso_types.specs.declared.value.Conn.{Conn}
use Rattle.iso_types.specs.declared.value.Name.{Name}
use Rattle.iso_types.specs.declared.value.Name.TheVariants.{Table}
use Rattle.iso_types.specs.declared.value.TableId.{TableId}

-- every other connection's mode on the name goes with this one
abbrev pub GoesWithOthers : List Hold → Conn → Name → Mode → Type 0
GoesWithOthers hs c n m = (d : Conn) (b : Mode) → conn_eq c d ≡ false → held hs d n ≡ Some b → compatible m b ≡ true

-- what a request meets where it is not covered
pub record Fits (head : Head) (c : Conn) (hs : List Hold) (r : Request) : Type 0 where
  pub others : GoesWithOthers hs c r.name r.mode
  pub backed : (t : TableId) → table_of head r.name ≡ Some t → holds_at_least hs c (Table t) (table_mode r.mode) ≡ true
  pub kept : (t : TableId) → r.name ≡ Table t → is_kept r.term ≡ true
  pub suits : suits_held r.name r.mode ≡ true

-- it is covered, or fits
abbrev pub MayStand : Head → Conn → List Hold → Request → Type 0
MayStand head c hs r = is_covered head hs c r.name r.mode ≡ false → Fits head c hs r

-- it does so where the same is held
pub stands-alike : (head : Head) (c : Conn) (xs ys : List Hold) (r : Request) → HeldAlike xs ys → MayStand head c ys r → MayStand head c xs r
stands-alike head c xs ys r same f e =
    let g = f (sym (covered-alike head xs ys c r.name r.mode same) ∙ e) in
    record {
      others = λ d b ne h. g.others d b ne (sym (same d r.name) ∙ h);
      backed = λ t k. at_least-alike xs ys c (Table t) (table_mode r.mode) same ∙ g.backed t k;
      kept = g.kept;
      suits = g.suits;
    }

-- the hold of which the mode is held
pub held-from : (x : Option Hold) (a : Mode) → option_map (λ h. h.mode) x ≡ Some a → (h : Hold) × (x ≡ Some h) × (h.mode ≡ a)
held-from None a e = cc
held-from (Some h) a e = (h, refl, cc)

-- the fact that two connections' holds go together, by modes
pub modes_together : (hs : List Hold) → GoTogether hs → (c d : Conn) (n : Name) (a b : Mode) → conn_eq c d ≡ false
    → held hs c n ≡ Some a → held hs d n ≡ Some b → compatible a b ≡ true
unfolding GoTogether
modes_together hs s c d n a b ne h g =
    let x = held-from (hold_on hs c n) a h in
    let y = held-from (hold_on hs d n) b g in
    let k : compatible x.0.mode y.0.mode ≡ true = s c d n x.0 y.0 ne x.1 y.1 in
    rw (x.2, y.2) at k

pub apart-turned : (c d : Conn) → conn_eq c d ≡ false → conn_eq d c ≡ false
apart-turned c d e = go (conn_eq d c) refl
  where
    go : (b : Bool) → conn_eq d c ≡ b → conn_eq d c ≡ false
    go true t = let k : conn_eq c d ≡ true = ap (λ (x : Conn). conn_eq c x) (conn_is d c t) ∙ conn_same c in cc
    go false t = t

goes_if : (a b c : Bool) → a ≡ false → b ≡ true → (not a && (b && not c)) ≡ false → c ≡ true
goes_if false true true p q e = refl
goes_if a b c p q e = cc

-- a wait that nothing opposes goes with what others hold
pub unopposed : (hs : List Hold) (x : Wait) → list_any (opposes x) hs ≡ false → GoesWithOthers hs x.conn x.name x.target
unfolding opposes
unopposed hs x none d b ne h =
    let g = held-from (hold_on hs d x.name) b h in
    let p = of-is d x.name g.0 (find-is (is_hold_of d x.name) hs g.0 g.1) in
    let no_opponent = none-found (is_hold_of d x.name) (opposes x) hs g.0 none g.1 in
    let away : conn_eq g.0.conn x.conn ≡ false = ap (λ (y : Conn). conn_eq y x.conn) p.0 ∙ apart-turned x.conn d ne in
    let same : name_eq g.0.name x.name ≡ true = ap (λ (y : Name). name_eq y x.name) p.1 ∙ name_same x.name in
    let fits : compatible g.0.mode x.target ≡ true = goes_if _ _ _ away same no_opponent in
    symmetric x.target b ∙ rw g.2 at fits

-- a request that is granted is had, or would not wait
pub granted_by : (had limited waits may_wait : Bool) (q : Mode)
    → (if had then Gives Got.Granted else if limited then Limit else if not waits then Gives Got.Granted else
    if may_wait then Gives (Got.Queued q) else Gives Got.TimedOut) ≡ Gives Got.Granted
    → (had ≡ true) ⊎ (waits ≡ false)
granted_by true limited waits may_wait q e = inl refl
granted_by false true waits may_wait q e = cc
granted_by false false false may_wait q e = inr refl
granted_by false false true true q e = cc
granted_by false false true false q e = cc

-- one that is queued is not had, and awaits its target
pub queued_by : (had limited waits may_wait : Bool) (q m : Mode)
    → (if had then Gives Got.Granted else if limited then Limit else if not waits then Gives Got.Granted else
    if may_wait then Gives (Got.Queued q) else Gives Got.TimedOut) ≡ Gives (Got.Queued m)
    → (had ≡ false) × (q ≡ m)
queued_by true limited waits may_wait q m e = cc
queued_by false true waits may_wait q m e = cc
queued_by false false false may_wait q m e = cc
queued_by false false true true q m e = (refl, cc)
queued_by false false true false q m e = cc

-- what goes with the joined mode goes with the asked one
pub goes_asked : (x : Option Mode) (m b : Mode) → compatible (option_map_or (λ h. joined h m) x m) b ≡ true → compatible m b ≡ true
goes_asked None m b e = e
goes_asked (Some h) m b e = (and_parts (compatible h b) (compatible m b) (sym (joined_is h m b) ∙ e)).1

module _ (head : Head) (w : World) (c : Conn) (n : Name) (m : Mode) where
  -- what is had goes with what others hold, as the held mode does
  had-fits : GoTogether w.holds → option_map_or (mode_eq (target w.holds c n m)) (held w.holds c n) false ≡ true → GoesWithOthers w.holds c n m
  had-fits s e d b ne g = go (held w.holds c n) refl e
    where
      go : (x : Option Mode) → held w.holds c n ≡ x → option_map_or (mode_eq (target w.holds c n m)) x false ≡ true → compatible m b ≡ true
      go None h k = cc
      go (Some a) h k =
          let same : target w.holds c n m ≡ a = mode_eq-is _ _ k in
          let old : compatible a b ≡ true = modes_together w.holds s c d n a b ne h g in
          goes_asked (held w.holds c n) m b (ap (λ (z : Mode). compatible z b) same ∙ old)

  -- so does what would not wait
  free-fits : would_wait w.holds w.waits (asking w c n m) ≡ false → GoesWithOthers w.holds c n m
  free-fits e d b ne g =
      goes_asked (held w.holds c n) m b (unopposed w.holds (asking w c n m) (or-first_false _ _ e) d b ne g)

  -- a granted request fits, or is covered
  pub granted-fits : (t : Term) → GoTogether w.holds → (is_covered head w.holds c n m || is_backed head w c n m) ≡ true
      → ((u : TableId) → n ≡ Table u → is_kept t ≡ true) → suits_held n m ≡ true
      → request head w c n m ≡ Gives Got.Granted → MayStand head c w.holds (record { name = n; mode = m; term = t })
  granted-fits t s back kept suits e uncovered = record {
    others = go (granted_by (is_had head w c n m) (is_limited head w c (need_of w c n)) (would_wait w.holds w.waits (asking w c n m))
        (w.setting c).may_wait (target w.holds c n m) e);
    backed = λ u k. backed-at u k;
    kept = kept;
    suits = suits;
  }
    where
      go : (is_had head w c n m ≡ true) ⊎ (would_wait w.holds w.waits (asking w c n m) ≡ false) → GoesWithOthers w.holds c n m
      go (inl h) = had-fits s (or-other (is_covered head w.holds c n m) _ uncovered h)
      go (inr h) = free-fits h

      backed-at : (u : TableId) → table_of head n ≡ Some u → holds_at_least w.holds c (Table u) (table_mode m) ≡ true
      backed-at u k = rw k at (or-other (is_covered head w.holds c n m) (is_backed head w c n m) uncovered back)
