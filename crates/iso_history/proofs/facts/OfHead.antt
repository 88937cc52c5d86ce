-- Nobody but the head's connections holds or awaits a name.
use Rattle.std.proofs.Common.{◌≡◌, ◌≤◌, ℕ, Bool, true, false, not, ◌&&◌, List, [], ◌∷◌, refl, ap, sym, ◌∙◌, arith, count_by, if◌then◌else◌, Some, None, Option}
use Rattle.std.specs.Option.{option_map_or}
use Rattle.iso_history.proofs.facts.Others.{IsOwn, own-joining}
use Rattle.iso_history.proofs.locks.Finds.{count-filter, count-here, count-map, count-past}
use Rattle.iso_history.proofs.locks.Queues.{count-queued_past}
use Rattle.iso_history.proofs.locks.Same.{conn_is}
use Rattle.iso_history.specs.After.{after, start}
use Rattle.iso_history.specs.Facts.{OfHead}
use Rattle.iso_history.specs.Holds.{Hand, hand_of, holds_by_agent, holds_by_hand, spared}
use Rattle.iso_history.specs.Holds.Hand.{Collapses, Drops, Frees, Leaves, Places}
use Rattle.iso_history.specs.Legal.{Allowed, By}
use Rattle.iso_history.specs.Phases.{victim}
use Rattle.iso_history.specs.Waits.{Joining, joining_of_agent, joining_of_dispatcher, waits_by}
use Rattle.iso_history.specs.Waits.Joining.{Joins, Passes, Quits}
use Rattle.iso_history.specs.World.{World}
use Rattle.iso_history.specs.declared.entry.Act.{Act}
use Rattle.iso_history.specs.declared.entry.Act.TheVariants.{Expire, Victim}
use Rattle.iso_history.specs.declared.entry.Entry.{Entry}
use Rattle.iso_history.specs.declared.entry.Who.{Who}
use Rattle.iso_history.specs.declared.entry.Who.TheVariants.{Agent, Dispatcher}
use Rattle.iso_modes.specs.Terms.{is_fresh}
use Rattle.iso_modes.specs.declared.Term.TheVariants.{Kept}
use Rattle.iso_queue.specs.Locks.{Hold, Request, added, all_placed, is_covered, is_hold_of, is_spared, placed, raised, settled, settled_one, without_briefs}
use Rattle.iso_types.specs.Head.{is_conn}
use Rattle.iso_types.specs.Ids.{conn_eq}
use Rattle.iso_types.specs.declared.head.Head.{Head}
use Rattle.iso_types.specs.declared.value.Conn.{Conn}
use Rattle.iso_types.specs.declared.value.Name.{Name}

at-most : (m n : ℕ) → m ≤ n → n ≡ 0 → m ≡ 0
at-most m n le e = omega (arith, le, e)

no-more : (m n k : ℕ) → m ≡ n → n ≤ k → m ≤ k
no-more m n k e le = omega (arith, e, le)

module _ (c d : Conn) (apart : conn_eq c d ≡ false) where
  -- the hold is the other connection's
  abbrev theirs : Hold → Bool
  theirs h = conn_eq h.conn d

  -- an agent's request adds no hold of another connection
  more-added : (r : Request) (hs : List Hold) → count_by theirs (added hs c r) ≤ count_by theirs hs
  more-added r [] = omega (arith, count-past theirs (record { name = r.name; conn = c; mode = r.mode; term = r.term }) [] apart)
  more-added r (h ∷ hs) = go (is_hold_of c r.name h) (theirs h) refl (more-added r hs)
    where
      go : (b a : Bool) → theirs h ≡ a → count_by theirs (added hs c r) ≤ count_by theirs hs
          → count_by theirs (if b then raised r.mode r.term h ∷ hs else h ∷ added hs c r) ≤ count_by theirs (h ∷ hs)
      go true true e ih = omega (arith, count-here theirs (raised r.mode r.term h) hs e, count-here theirs h hs e)
      go true false e ih = omega (arith, count-past theirs (raised r.mode r.term h) hs e, count-past theirs h hs e)
      go false true e ih = omega (arith, ih, count-here theirs h (added hs c r) e, count-here theirs h hs e)
      go false false e ih = omega (arith, ih, count-past theirs h (added hs c r) e, count-past theirs h hs e)

  more-placed : (head : Head) (r : Request) (hs : List Hold) → count_by theirs (placed head hs c r) ≤ count_by theirs hs
  more-placed head r hs = go (is_covered head hs c r.name r.mode)
    where
      go : (b : Bool) → count_by theirs (if b then hs else added hs c r) ≤ count_by theirs hs
      go true = omega arith
      go false = more-added r hs

  more-all : (head : Head) (rs : List Request) (hs : List Hold) → count_by theirs (all_placed head hs c rs) ≤ count_by theirs hs
  more-all head [] hs = omega arith
  more-all head (r ∷ rs) hs = let rest = more-all head rs (placed head hs c r) in let here = more-placed head r hs in omega (arith, rest, here)

  more-hand : (head : Head) (hand : Hand) (hs : List Hold) → count_by theirs (holds_by_hand head c hand hs) ≤ count_by theirs hs
  more-hand head Leaves hs = omega arith
  more-hand head (Places rs) hs = more-all head rs hs
  more-hand head (Frees n) hs = count-filter theirs _ hs
  more-hand head (Collapses t) hs = count-filter theirs _ hs
  more-hand head Drops hs = count-filter theirs _ hs

  settled-theirs : (spare : Option Name) (h : Hold) → theirs (settled_one c spare h) ≡ theirs h
  settled-theirs spare h = go (conn_eq h.conn c && (is_fresh h.term && not (is_spared spare h)))
    where
      go : (b : Bool) → theirs (if b then record h { term = Kept } else h) ≡ theirs h
      go true = refl
      go false = refl

  pub no-more_holds : (head : Head) (w : World) (a : Act) → count_by theirs (holds_by_agent head w c a) ≤ count_by theirs w.holds
  no-more_holds head w a =
      let hs : List Hold = settled c (spared a (w.last c)) w.holds in
      let briefs : count_by theirs (without_briefs w.holds c (holds_by_hand head c (hand_of head w c a) hs))
      ≤ count_by theirs (holds_by_hand head c (hand_of head w c a) hs) = count-filter theirs _ (holds_by_hand head c (hand_of head w c a) hs) in
      let hand = more-hand head (hand_of head w c a) hs in
      let same = count-map theirs (settled_one c (spared a (w.last c))) (settled-theirs (spared a (w.last c))) w.holds in
      omega (arith, briefs, hand, same)

  -- nor a wait
  no-more_waits : (w : World) (j : Joining) → IsOwn c j → count_by (λ x. conn_eq x.conn d) (waits_by w j) ≤ count_by (λ x. conn_eq x.conn d) w.waits
  no-more_waits w Passes own = omega arith
  no-more_waits w (Joins x) own =
      let same = count-queued_past w.holds x (λ y. conn_eq y.conn d) (ap (λ (z : Conn). conn_eq z d) own ∙ apart) w.waits in omega (arith, same)
  no-more_waits w (Quits e) own = count-filter _ _ w.waits

-- the dispatcher's entry adds no wait
less-waits : (w : World) (d : Conn) (a : Act)
    → count_by (λ x. conn_eq x.conn d) (waits_by w (joining_of_dispatcher w a)) ≤ count_by (λ x. conn_eq x.conn d) w.waits
less-waits w d (Victim cycle) = go (victim w cycle)
  where
    go : (o : Option Conn) → count_by (λ x. conn_eq x.conn d) (waits_by w (option_map_or Quits o Passes)) ≤ count_by (λ x. conn_eq x.conn d) w.waits
    go None = omega arith
    go (Some c) = count-filter _ _ w.waits
less-waits w d (Expire line c true) = count-filter _ _ w.waits
less-waits w d (Expire line c false) = omega arith
less-waits w d a = omega arith

pub of_head-after : (head : Head) (w : World) (e : Entry) → Allowed head w e → OfHead head w → OfHead head (after head w e)
unfolding OfHead
of_head-after head w e al f d none = go e.who e.act al.2
  where
    apart-by : (c : Conn) (b : Bool) → conn_eq c d ≡ b → is_conn head c ≡ true → conn_eq c d ≡ false
    apart-by c true k is = cc (sym is ∙ ap (is_conn head) (conn_is c d k) ∙ none)
    apart-by c false k is = k

    go : (who : Who) (a : Act) → By head w who a → (count_by (λ h. conn_eq h.conn d) (after head w (record { who = who; act = a })).holds ≡ 0)
        × (count_by (λ x. conn_eq x.conn d) (after head w (record { who = who; act = a })).waits ≡ 0)
    go Dispatcher a by = ((f d none).0, at-most _ _ (less-waits w d a) (f d none).1)
    go (Agent c) a by =
        let apart = apart-by c (conn_eq c d) refl by.0 in (
          at-most _ _ (no-more_holds c d apart head w a) (f d none).0,
          at-most _ _ (no-more_waits c d apart w (joining_of_agent w c a) (own-joining w c a)) (f d none).1,
        )

pub start-of_head : (head : Head) → OfHead head (start head)
unfolding OfHead
start-of_head head d none = (refl, refl)
