-- A name that a connection holds to the end of its unit stays held, but where it ends the unit or its locks collapse.
use Rattle.std.proofs.Common.{◌≡◌, ◌∙◌, Bool, true, false, ◌||◌, List, [], ◌∷◌, find, refl, ap, sym, subst, Some, None, Option}
use Rattle.std.specs.List.{list_any}
use Rattle.std.specs.Option.{option_map_or}
use Rattle.std.proofs.lemmas.Bool.{both_ways}
use Rattle.iso_ends.specs.Doubts.{IsHeld, may_free}
use Rattle.iso_history.proofs.facts.Others.{hold_on-others}
use Rattle.iso_history.proofs.locks.Same.{conn_is}
use Rattle.iso_history.proofs.phantoms.KeptHolds.{AllGrow, HandKeeps, kept-agent}
use Rattle.iso_history.proofs.phantoms.Names.{name_same, of-name}
use Rattle.iso_history.proofs.phantoms.OwnLocks.{key-row, raised-stays}
use Rattle.iso_history.specs.After.{after}
use Rattle.iso_history.specs.Entries.{is_in_use}
use Rattle.iso_history.specs.Holds.{guarded_next, hand_of, inheriting, keeps, looked, request_on}
use Rattle.iso_history.specs.World.{World}
use Rattle.iso_history.specs.declared.entry.Act.{Act}
use Rattle.iso_history.specs.declared.entry.Act.TheVariants.{Claim, Collapse, Commit, Free, Insert, Lock, Look, Next, Rollback, Update}
use Rattle.iso_history.specs.declared.entry.Got.{Got}
use Rattle.iso_history.specs.declared.entry.Stand.{Stand}
use Rattle.iso_history.specs.declared.entry.Stand.TheVariants.{At, Past}
use Rattle.iso_history.specs.declared.entry.Who.{Who}
use Rattle.iso_history.specs.declared.entry.Who.TheVariants.{Agent, Dispatcher}
use Rattle.iso_modes.specs.Terms.{is_kept}
use Rattle.iso_modes.specs.declared.Mode.TheVariants.{X}
use Rattle.iso_modes.specs.declared.Term.TheVariants.{Kept}
use Rattle.iso_queue.specs.Locks.{Hold, Request, is_hold_of}
use Rattle.iso_queue.specs.Queues.{Wait, wait_of}
use Rattle.iso_types.specs.Edges.{has_edge}
use Rattle.iso_types.specs.Ids.{conn_eq, name_eq}
use Rattle.iso_types.specs.declared.edges.Edges.{Edges}
use Rattle.iso_types.specs.declared.head.Head.{Head}
use Rattle.iso_types.specs.declared.value.Conn.{Conn}
use Rattle.iso_types.specs.declared.value.IndexId.{IndexId}
use Rattle.iso_types.specs.declared.value.Name.{Name}
use Rattle.iso_types.specs.declared.value.Name.TheVariants.{Key, Row}
use Rattle.iso_types.specs.declared.value.Value.{Value}

-- a hold that is kept
abbrev stays : Hold → Bool
stays h = is_kept h.term

-- ---- a held name is in use

or-right : (a b : Bool) → b ≡ true → (a || b) ≡ true
or-right true b e = refl
or-right false b e = e

used-any : (c : Conn) (n : Name) (hs : List Hold) → option_map_or (λ h. is_kept h.term) (find (is_hold_of c n) hs) false ≡ true
    → list_any (λ h. name_eq h.name n) hs ≡ true
used-any c n [] e = absurd (both_ways false refl e)
used-any c n (h ∷ hs) e = go (is_hold_of c n h) refl (used-any c n hs)
  where
    go : (b : Bool) → is_hold_of c n h ≡ b
        → (option_map_or (λ h. is_kept h.term) (find (is_hold_of c n) hs) false ≡ true → list_any (λ h. name_eq h.name n) hs ≡ true)
        → list_any (λ h. name_eq h.name n) (h ∷ hs) ≡ true
    go true f ih =
        let own : name_eq h.name n ≡ true = subst (λ (m : Name). name_eq m n ≡ true) (sym (of-name c n h f)) (name_same n) in
        ap (λ (b : Bool). b || list_any (λ h. name_eq h.name n) hs) own
    go false f ih = or-right (name_eq h.name n) (list_any (λ h. name_eq h.name n) hs) (ih (rw f at e))

pub held-used : (w : World) (by : Edges) (n : Name) → IsHeld w by n → is_in_use w n ≡ true
held-used w by n h =
    ap (λ (b : Bool). b || list_any (λ (x : Wait). name_eq x.name n) w.waits) (used-any h.0 n w.holds h.2)

-- ---- what an own entry leaves

module _ (head : Head) (w : World) (c : Conn) (i : IndexId) (k : Value) where
  abbrev Spares : Act → Type 0
  Spares a = HandKeeps head stays (λ h e. e) c (Key i k) (hand_of head w c a)

  all-grow : (rs : List Request) → AllGrow head stays (λ h e. e) c (Key i k) rs
  all-grow [] = tt
  all-grow (r ∷ rs) = (λ e h s. raised-stays r.mode r.term h s, all-grow rs)

  claim-spares : (o : Option Wait) → wait_of w.waits c ≡ o → Spares Claim
  claim-spares None e = rw e tt
  claim-spares (Some x) e = rw e (all-grow (record { name = x.name; mode = x.target; term = x.term } ∷ []))

  hand-spares : (a : Act) → may_free a ≡ false → Spares a
  hand-spares (Free t r) f = key-row (Key i k) t r tt
  hand-spares Claim f = claim-spares (wait_of w.waits c) refl
  hand-spares (Lock n mode term why Got.Granted) f = all-grow (record { name = n; mode = mode; term = term } ∷ [])
  hand-spares (Lock n mode term why (Got.Queued q)) f = tt
  hand-spares (Lock n mode term why Got.TimedOut) f = tt
  hand-spares (Look t r want Got.Granted) f = all-grow (looked w t r want)
  hand-spares (Look t r want (Got.Queued q)) f = tt
  hand-spares (Look t r want Got.TimedOut) f = tt
  hand-spares (Next j range at guarded (At v r)) f = all-grow (guarded_next w j range at guarded)
  hand-spares (Next j range at guarded Past) f = all-grow (guarded_next w j range at guarded)
  hand-spares (Next j range at guarded (Stand.Queued n)) f = tt
  hand-spares (Next j range at guarded (Stand.TimedOut n)) f = tt
  hand-spares (Insert t r row) f = all-grow (request_on (Row t r) (X, Kept) ∷ inheriting head w c t row)
  hand-spares (Update t r row) f = all-grow (inheriting head w c t row)
  hand-spares (Collapse t mode) f = absurd (both_ways true f refl)
  hand-spares Commit f = absurd (both_ways true f refl)
  hand-spares (Rollback code reason) f = absurd (both_ways true f refl)
  hand-spares Act.Ended f = absurd (both_ways true f refl)
  hand-spares _ f = tt

-- ---- what any entry leaves

pub held-after : (head : Head) (w : World) (by : Edges) (i : IndexId) (k : Value) (who : Who) (a : Act)
    → ((c : Conn) → who ≡ Agent c → may_free a ≡ true → has_edge by c ≡ false) → IsHeld w by (Key i k)
    → IsHeld (after head w (record { who = who; act = a })) by (Key i k)
held-after head w by i k Dispatcher a none h = h
held-after head w by i k (Agent c) a none h = (h.0, h.1, go (conn_eq c h.0) refl)
  where
    own : c ≡ h.0 → (b : Bool) → may_free a ≡ b → keeps (after head w (record { who = Agent c; act = a })) h.0 (Key i k) ≡ true
    own same true f =
        absurd (both_ways (has_edge by h.0) (subst (λ (d : Conn). has_edge by d ≡ false) same (none c refl f)) h.1)
    own same false f =
        subst (λ (d : Conn). keeps (after head w (record { who = Agent c; act = a })) d (Key i k) ≡ true) same
        (kept-agent head stays (λ h e. e) c (Key i k) w a (hand-spares head w c i k a f)
        (subst (λ (d : Conn). keeps w d (Key i k) ≡ true) (sym same) h.2))

    go : (b : Bool) → conn_eq c h.0 ≡ b → keeps (after head w (record { who = Agent c; act = a })) h.0 (Key i k) ≡ true
    go true e = own (conn_is c h.0 e) (may_free a) refl
    go false e =
        ap (λ (o : Option Hold). option_map_or (λ (h : Hold). is_kept h.term) o false) (hold_on-others c h.0 (Key i k) e head w a) ∙ h.2
