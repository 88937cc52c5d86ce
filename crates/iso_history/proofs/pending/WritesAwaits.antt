-- Who awaits X or more on a row will keep it.
use Rattle.std.proofs.Common.{List, ◌≡◌, Bool, true, false, not, ◌&&◌, ◌||◌, refl, ap, sym, ◌∙◌, Some, None, Option, option_map, subst}
use Rattle.std.specs.Option.{option_map_or}
use Rattle.iso_history.proofs.pending.Conns.{no-both, row_name-is}
use Rattle.iso_history.proofs.pending.Finds.{all-found, find-passes}
use Rattle.iso_history.proofs.pending.Kept.{Exact, takes_away, hold-name, keeps-agent, keeps-found, keeps_if, keeps-of}
use Rattle.iso_history.proofs.pending.ModeTests.{at_least-joined, at_least-second, is_weak, weak-alone, weak-joined_twice}
use Rattle.iso_history.proofs.pending.Others.{others-agent}
use Rattle.iso_history.proofs.pending.Queueing.{Queues, WaitOf, joins, leaves-from, others, undoes, waits-agent, waits-dispatcher}
use Rattle.iso_history.specs.After.{after}
use Rattle.iso_history.specs.Facts.{AreSingle, WritesAwaited, WritesKept, is_kept_write, is_row}
use Rattle.iso_history.specs.Holds.{Hand, holds_by_hand, hand_of, holds_by, holds_by_agent, spared}
use Rattle.iso_history.specs.Holds.Hand.{Leaves}
use Rattle.iso_history.specs.Legal.{Allowed, By}
use Rattle.iso_history.specs.Waits.{joining_of, waits_by}
use Rattle.iso_history.specs.World.{World}
use Rattle.iso_history.specs.declared.entry.Act.{Act}
use Rattle.iso_history.specs.declared.entry.Entry.{Entry}
use Rattle.iso_history.specs.declared.entry.Who.{Who}
use Rattle.iso_history.specs.declared.entry.Who.TheVariants.{Agent, Dispatcher}
use Rattle.iso_modes.specs.Modes.{at_least, joined}
use Rattle.iso_modes.specs.Terms.{is_kept}
use Rattle.iso_modes.specs.declared.Mode.{Mode}
use Rattle.iso_modes.specs.declared.Mode.TheVariants.{X}
use Rattle.iso_queue.specs.Locks.{Hold, hold_on, holds_at_least, is_hold_of, settled, target, without_briefs}
use Rattle.iso_queue.specs.Queues.{Wait}
use Rattle.iso_types.specs.Ids.{name_eq}
use Rattle.iso_types.specs.declared.head.Head.{Head}
use Rattle.iso_types.specs.declared.value.Conn.{Conn}
use Rattle.iso_types.specs.declared.value.Name.{Name}
use Rattle.iso_types.specs.declared.value.Name.TheVariants.{End, Key, Row, Table}

-- the same held mode, the same target and test
awaits-same : (holds holds2 : List Hold) (d : Conn) (n : Name) (m low : Mode) → hold_on holds2 d n ≡ hold_on holds d n
    → (target holds2 d n m ≡ target holds d n m) × (holds_at_least holds2 d n low ≡ holds_at_least holds d n low)
awaits-same holds holds2 d n m low e = (
  ap (λ o. option_map_or (λ h. joined h m) (option_map (λ (h : Hold). h.mode) o) m) e,
  ap (λ o. option_map_or (λ h. at_least h low) (option_map (λ (h : Hold). h.mode) o) false) e,
)

-- what a joined target comes to where the hold may be gone
target-gone : (holds holds2 : List Hold) (d : Conn) (n : Name) (m low : Mode)
    → ((h : Hold) → hold_on holds2 d n ≡ Some h → (g : Hold) × (hold_on holds d n ≡ Some g) × (h.mode ≡ g.mode))
    → at_least (target holds2 d n m) low ≡ true → at_least (target holds d n m) low ≡ true
target-gone holds holds2 d n m low from e = go (hold_on holds2 d n) refl (hold_on holds d n) refl
  where
    some-is : {y x : Hold} → Some y ≡ Some x → y ≡ x
    some-is q = cc

    none-some : {x : Hold} → None ≡ Some x → ⊥
    none-some q = cc

    go : (o : Option Hold) → hold_on holds2 d n ≡ o → (p : Option Hold) → hold_on holds d n ≡ p → at_least (target holds d n m) low ≡ true
    go None a None b = rw b (rw a at e)
    go None a (Some g) b = rw b (at_least-second low g.mode m (rw a at e))
    go (Some h) a None b = absurd (none-some (sym b ∙ (from h a).1))
    go (Some h) a (Some g) b =
        let f = from h a in
        let q : h.mode ≡ g.mode = f.2 ∙ ap (λ z. z.mode) (some-is (sym f.1 ∙ b)) in
        rw b (subst (λ (z : Mode). at_least (joined z m) low ≡ true) q (rw a at e))

row_was : (n m : Name) → name_eq n m ≡ true → is_row m ≡ true → is_row n ≡ true
unfolding name_eq
row_was (Row t r) m e i = refl
row_was (Table u) (Row t r) e i = cc
row_was (Key j v) (Row t r) e i = cc
row_was (End j) (Row t r) e i = cc
row_was n (Table u) e i = cc
row_was n (Key j v) e i = cc
row_was n (End j) e i = cc

-- who holds X or more on a row keeps it
pub held-keeps : (holds : List Hold) (d : Conn) (n : Name) → WritesKept holds → is_row n ≡ true → holds_at_least holds d n X ≡ true
    → keeps_if (λ m. at_least m X) holds d n ≡ true
unfolding WritesKept is_kept_write
held-keeps holds d n s row e = go (hold_on holds d n) refl
  where
    go : (o : Option Hold) → hold_on holds d n ≡ o → keeps_if (λ m. at_least m X) holds d n ≡ true
    go None q = absurd (no-both refl (sym (rw q at e)))
    go (Some h) q =
        let l : at_least h.mode X ≡ true = rw q at e in
        let a : (not (is_row h.name && at_least h.mode X) || is_kept h.term) ≡ true = all-found (is_hold_of d n) is_kept_write holds h s q in
        let r : is_row h.name ≡ true = row_was h.name n (hold-name d n h (find-passes (is_hold_of d n) holds h q)) row in
        keeps-of (λ m. at_least m X) holds d n h q (rw (r, l) at a) l

pub keeps-held : (holds : List Hold) (d : Conn) (n : Name) (low : Mode) → keeps_if (λ m. at_least m low) holds d n ≡ true → holds_at_least holds d n low ≡ true
keeps-held holds d n low e = let f = keeps-found (λ m. at_least m low) holds d n e in rw (f.1) (f.3)

exact-row : (n : Name) → is_row n ≡ true → Exact n
exact-row (Row t r) i = λ m e. row_name-is m t r e
exact-row (Table t) i = cc
exact-row (Key j v) i = cc
exact-row (End j) i = cc

module _ (head : Head) (w : World) where
  -- the connection's own entry, which places and takes nothing
  own-leaves : (c : Conn) (a : Act) (n : Name) (m : Mode) (k : Bool) → hand_of head w c a ≡ Leaves → AreSingle w.holds → WritesKept w.holds
      → is_row n ≡ true → (at_least (target w.holds c n m) X ≡ true → (k || holds_at_least w.holds c n X) ≡ true)
      → at_least (target (holds_by_agent head w c a) c n m) X ≡ true → (k || holds_at_least (holds_by_agent head w c a) c n X) ≡ true
  own-leaves c a n m true l single s row old e = refl
  own-leaves c a n m false l single s row old e =
      keeps-held (holds_by_agent head w c a) c n X (keeps-agent head (λ z. at_least z X) (at_least-joined X) w c a c n (exact-row n row)
      (ap (λ z. takes_away head c z c n) l) (held-keeps w.holds c n s row (old (target-gone w.holds (holds_by_agent head w c a) c n m X from e))))
    where
      from : (h : Hold) → hold_on (holds_by_agent head w c a) c n ≡ Some h → (g : Hold) × (hold_on w.holds c n ≡ Some g) × (h.mode ≡ g.mode)
      from h q = leaves-from w.holds w.holds c (spared a (w.last c)) c n h single
          (subst (λ (z : Hand). hold_on (without_briefs w.holds c (holds_by_hand head c z (settled c (spared a (w.last c)) w.holds))) c n ≡ Some h) l q)

  -- a wait that joins: where its target is X or more, it is kept, or X was held
  new-keeps : (c : Conn) (a : Act) (x : Wait) → Queues head w c a x → is_row x.name ≡ true → at_least (target w.holds c x.name x.target) X ≡ true
      → (is_kept x.term || holds_at_least w.holds c x.name X) ≡ true
  new-keeps c a x q row e = go (is_kept x.term) refl
    where
      go : (k : Bool) → is_kept x.term ≡ k → (is_kept x.term || holds_at_least w.holds c x.name X) ≡ true
      go true t = rw t refl
      go false t = rw t (at_hold (hold_on w.holds c x.name) refl)
        where
          weak : is_weak q.asks ≡ true
          weak = rw t at (q.weak row)

          at_hold : (o : Option Hold) → hold_on w.holds c x.name ≡ o → holds_at_least w.holds c x.name X ≡ true
          at_hold None y = absurd (weak-alone q.asks weak (subst (λ (z : Mode). at_least z X ≡ true)
              (q.target_is ∙ ap (λ o. option_map_or (λ h. joined h q.asks) (option_map (λ (h : Hold). h.mode) o) q.asks) y) (rw y at e)))
          at_hold (Some h) y = rw y (weak-joined_twice q.asks h.mode weak
              (subst (λ (z : Mode). at_least (joined h.mode z) X ≡ true) (q.target_is ∙ ap
              (λ o. option_map_or (λ h. joined h q.asks) (option_map (λ (h : Hold). h.mode) o) q.asks) y) (rw y at e)))

  -- X or more is kept, or held
  abbrev AwaitKeeps : List Hold → Conn → Wait → Type 0
  AwaitKeeps holds d x = is_row x.name ≡ true → at_least (target holds d x.name x.target) X ≡ true → (is_kept x.term || holds_at_least holds d x.name X) ≡ true

  agent-keeps : (c : Conn) (a : Act) (d : Conn) (x : Wait) → WaitOf head w c a d x → AreSingle w.holds → WritesKept w.holds → WritesAwaited w.holds w.waits
      → AwaitKeeps (holds_by_agent head w c a) d x
  unfolding WritesAwaited
  agent-keeps c a d x (others ne old) single s aw = λ row e.
      let low : (target (holds_by_agent head w c a) d x.name x.target ≡ target w.holds d x.name x.target)
      × (holds_at_least (holds_by_agent head w c a) d x.name X ≡ holds_at_least w.holds d x.name X) =
      awaits-same w.holds (holds_by_agent head w c a) d x.name x.target X (others-agent head w c a d x.name ne) in
      ap (λ z. is_kept x.term || z) low.1 ∙ aw d x old row (ap (λ z. at_least z X) (sym low.0) ∙ e)
  agent-keeps c a d x (undoes p n u old) single s aw = subst (λ (z : Conn). AwaitKeeps (holds_by_agent head w c a) z x) (sym p)
      (λ row e. own-leaves c a x.name x.target (is_kept x.term) (ap (hand_of head w c) u) single s row (aw c x old row) e)
  agent-keeps c a d x (joins p j q) single s aw = subst (λ (z : Conn). AwaitKeeps (holds_by_agent head w c a) z x) (sym p)
      (λ row e. own-leaves c a x.name x.target (is_kept x.term) q.leaves single s row (new-keeps c a x q row) e)

  pub awaited_writes-after : (e : Entry) → Allowed head w e → AreSingle w.holds → WritesKept w.holds → WritesAwaited w.holds w.waits
      → WritesAwaited (after head w e).holds (after head w e).waits
  unfolding WritesAwaited
  awaited_writes-after e al single s aw = go e.who al.2
    where
      go : (who : Who) → By head w who e.act → WritesAwaited (holds_by head w who e.act) (waits_by w (joining_of w who e.act))
      go Dispatcher a = λ d x is. aw d x (waits-dispatcher w e.act d x is)
      go (Agent c) a = λ d x is. agent-keeps c e.act d x (waits-agent head w c e.act d x a.1 is) single s aw
