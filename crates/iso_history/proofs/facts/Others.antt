-- An agent's entry leaves what other connections hold and await.
use Rattle.std.proofs.Common.{◌≡◌, Bool, true, false, not, ◌&&◌, List, refl, ap, sym, ◌∙◌, Some, None, Option, option_map, filter}
use Rattle.iso_history.proofs.locks.Finds.{find-filter_same, find-is}
use Rattle.iso_history.proofs.locks.Fits.{apart-turned}
use Rattle.iso_history.proofs.locks.Holds.{hold_on-other, hold_on-settled, of-is}
use Rattle.iso_history.proofs.locks.Placing.{all-keep, along-each, each-all}
use Rattle.iso_history.proofs.locks.Queues.{find-queued_past}
use Rattle.iso_history.proofs.locks.Same.{conn_is, conn_same}
use Rattle.iso_history.specs.Holds.{Hand, hand_of, holds_by, holds_by_hand, spared}
use Rattle.iso_history.specs.Holds.Hand.{Collapses, Drops, Frees, Leaves, Places}
use Rattle.iso_history.specs.Waits.{Joining, joining_of_agent, waits_by}
use Rattle.iso_history.specs.Waits.Joining.{Joins, Passes, Quits}
use Rattle.iso_history.specs.World.{World}
use Rattle.iso_history.specs.declared.entry.Act.{Act}
use Rattle.iso_history.specs.declared.entry.Act.TheVariants.{Claim, Commit, Lock, Look, Next, Rollback, Stopped}
use Rattle.iso_history.specs.declared.entry.Got.{Got}
use Rattle.iso_history.specs.declared.entry.Stand.{Stand}
use Rattle.iso_history.specs.declared.entry.Stand.TheVariants.{At, Past}
use Rattle.iso_history.specs.declared.entry.Who.TheVariants.{Agent}
use Rattle.iso_queue.specs.Locks.{Hold, hold_on, is_hold_of, settled, settled_one}
use Rattle.iso_queue.specs.Queues.{Wait, wait_of}
use Rattle.iso_types.specs.Ids.{conn_eq, name_eq}
use Rattle.iso_types.specs.declared.head.Head.{Head}
use Rattle.iso_types.specs.declared.value.Conn.{Conn}
use Rattle.iso_types.specs.declared.value.Name.{Name}

module _ (c d : Conn) (n : Name) (away : conn_eq c d ≡ false) where
  owned : (hs : List Hold) (h : Hold) → hold_on hs d n ≡ Some h → conn_eq h.conn c ≡ false
  owned hs h e = ap (λ (x : Conn). conn_eq x c) (of-is d n h (find-is (is_hold_of d n) hs h e)).0 ∙ apart-turned c d away

  others-settled : (spare : Option Name) (hs : List Hold) → hold_on (settled c spare hs) d n ≡ hold_on hs d n
  others-settled spare hs = hold_on-settled c spare hs d n ∙ go (hold_on hs d n) refl
    where
      one : (h : Hold) → conn_eq h.conn c ≡ false → settled_one c spare h ≡ h
      one h e = rw e refl

      go : (x : Option Hold) → hold_on hs d n ≡ x → option_map (settled_one c spare) x ≡ x
      go None e = refl
      go (Some h) e = ap Some (one h (owned hs h e))

  -- a filter that takes none of them
  others-filter : (q : Hold → Bool) → ((h : Hold) → conn_eq h.conn c ≡ false → q h ≡ true) → (hs : List Hold) → hold_on (filter q hs) d n ≡ hold_on hs d n
  others-filter q keep hs =
      find-filter_same (is_hold_of d n) q (λ h e. keep h (ap (λ (x : Conn). conn_eq x c) (of-is d n h e).0 ∙ apart-turned c d away)) hs

  others-hand : (head : Head) (hand : Hand) (hs : List Hold) → hold_on (holds_by_hand head c hand hs) d n ≡ hold_on hs d n
  others-hand head Leaves hs = refl
  others-hand head (Places rs) hs =
      all-keep head c (λ xs r. Unit {0}) (λ xs. hold_on xs d n ≡ hold_on hs d n)
      (λ xs r e f k. hold_on-other c r d n (ap (λ (b : Bool). b && name_eq r.name n) away) xs ∙ k) hs rs
      (along-each head c (λ r. Unit {0}) hs rs (each-all (λ r. Unit {0}) (λ r. tt) rs)) refl
  others-hand head (Frees k) hs = others-filter (λ h. not (is_hold_of c k h)) (λ h e. free h e) hs
    where
      free : (h : Hold) → conn_eq h.conn c ≡ false → not (is_hold_of c k h) ≡ true
      free h e = go (is_hold_of c k h) refl
        where
          go : (b : Bool) → is_hold_of c k h ≡ b → not b ≡ true
          go true f = cc (sym (ap (λ (x : Conn). conn_eq x c) (of-is c k h f).0 ∙ conn_same c) ∙ e)
          go false f = refl
  others-hand head (Collapses t) hs = others-filter _ (λ h e. rw e refl) hs
  others-hand head Drops hs = others-filter _ (λ h e. rw e refl) hs

  pub hold_on-others : (head : Head) (w : World) (a : Act) → hold_on (holds_by head w (Agent c) a) d n ≡ hold_on w.holds d n
  hold_on-others head w a =
      others-filter _ (λ h e. rw e refl) (holds_by_hand head c (hand_of head w c a) (settled c (spared a (w.last c)) w.holds))
      ∙ others-hand head (hand_of head w c a) (settled c (spared a (w.last c)) w.holds) ∙ others-settled (spared a (w.last c)) w.holds

-- what joins or quits is the connection's own wait
abbrev pub IsOwn : Conn → Joining → Type 0
IsOwn c Passes = Unit {0}
IsOwn c (Joins x) = x.conn ≡ c
IsOwn c (Quits d) = d ≡ c

pub own-joining : (w : World) (c : Conn) (a : Act) → IsOwn c (joining_of_agent w c a)
own-joining w c (Lock n m t why (Got.Queued q)) = refl
own-joining w c (Lock n m t why Got.Granted) = tt
own-joining w c (Lock n m t why Got.TimedOut) = tt
own-joining w c (Look t r want (Got.Queued q)) = refl
own-joining w c (Look t r want Got.Granted) = tt
own-joining w c (Look t r want Got.TimedOut) = tt
own-joining w c (Next i range at guarded (Stand.Queued n)) = refl
own-joining w c (Next i range at guarded (At v r)) = tt
own-joining w c (Next i range at guarded Past) = tt
own-joining w c (Next i range at guarded (Stand.TimedOut n)) = tt
own-joining w c Claim = refl
own-joining w c Commit = refl
own-joining w c (Rollback code reason) = refl
own-joining w c Act.Ended = refl
own-joining w c (Stopped cause) = refl
own-joining w c _ = tt

others-wait : (w : World) (c d : Conn) (j : Joining) → conn_eq c d ≡ false → IsOwn c j → wait_of (waits_by w j) d ≡ wait_of w.waits d
others-wait w c d Passes away own = refl
others-wait w c d (Joins x) away own = find-queued_past w.holds x (λ (y : Wait). conn_eq y.conn d) (ap (λ (z : Conn). conn_eq z d) own ∙ away) w.waits
others-wait w c d (Quits k) away own =
    find-filter_same (λ (y : Wait). conn_eq y.conn d) (λ (y : Wait). not (conn_eq y.conn k))
    (λ y e. ap (λ (z : Conn). not (conn_eq z k)) (conn_is y.conn d e) ∙ ap (λ (z : Conn). not (conn_eq d z)) own ∙ ap not (apart-turned c d away)) w.waits

pub wait-others : (w : World) (c d : Conn) (a : Act) → conn_eq c d ≡ false → wait_of (waits_by w (joining_of_agent w c a)) d ≡ wait_of w.waits d
wait-others w c d a away = others-wait w c d (joining_of_agent w c a) away (own-joining w c a)
