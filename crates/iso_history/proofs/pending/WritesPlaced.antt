-- Each entry keeps X or more on rows.
use Rattle.std.proofs.Common.{◌≡◌, ◌⊎◌, inl, inr, Bool, true, false, not, ◌&&◌, ◌||◌, List, [], ◌∷◌, map, refl, ap, sym, ◌∙◌, Some, None, Option, if◌then◌else◌, option_map, subst}
use Rattle.std.specs.List.{list_all}
use Rattle.std.specs.Option.{option_map_or}
use Rattle.iso_history.proofs.pending.Conns.{and-both, and-first, and-rest}
use Rattle.iso_history.proofs.pending.Finds.{find-mapped}
use Rattle.iso_history.proofs.pending.Kept.{settled-of}
use Rattle.iso_history.proofs.pending.ModeTests.{is_weak, weak-alone, weak-joined}
use Rattle.iso_history.proofs.pending.Writes.{RequestKeeps, writes-filter, writes-placed, writes-settled}
use Rattle.iso_history.specs.After.{after}
use Rattle.iso_history.specs.Entries.{found, key_name}
use Rattle.iso_history.specs.Facts.{WritesAwaited, WritesKept, is_row}
use Rattle.iso_history.specs.Holds.{Hand, claimed, guarded_next, hand_of, holds_by, holds_by_hand, inherited, looked, next_name, placed_by_want, request_on, spared}
use Rattle.iso_history.specs.Holds.Hand.{Collapses, Drops, Frees, Leaves, Places}
use Rattle.iso_history.specs.Legal.{Allowed, By, ByAgent, LockStands}
use Rattle.iso_history.specs.Versions.{is_dead, versions}
use Rattle.iso_history.specs.World.{World}
use Rattle.iso_history.specs.Writes.{is_block}
use Rattle.iso_history.specs.declared.entry.Act.{Act}
use Rattle.iso_history.specs.declared.entry.Act.TheVariants.{Claim, Collapse, Commit, Free, Insert, Lock, Look, Next, Rollback, Update}
use Rattle.iso_history.specs.declared.entry.Entry.{Entry}
use Rattle.iso_history.specs.declared.entry.Got.{Got}
use Rattle.iso_history.specs.declared.entry.Stand.{Stand}
use Rattle.iso_history.specs.declared.entry.Stand.TheVariants.{At, Past}
use Rattle.iso_history.specs.declared.entry.Want.{Want}
use Rattle.iso_history.specs.declared.entry.Want.TheVariants.{Alter, AlterKept, Current, Dirty, Repeat, Steady}
use Rattle.iso_history.specs.declared.entry.Who.{Who}
use Rattle.iso_history.specs.declared.entry.Who.TheVariants.{Agent, Dispatcher}
use Rattle.iso_history.specs.declared.entry.Why.{Why}
use Rattle.iso_history.specs.declared.entry.Why.TheVariants.{Asked, Blocked, Escalation}
use Rattle.iso_modes.specs.Modes.{at_least, joined, mode_eq, mode_number}
use Rattle.iso_modes.specs.Terms.{is_fresh, is_kept}
use Rattle.iso_modes.specs.declared.Mode.{Mode}
use Rattle.iso_modes.specs.declared.Mode.TheVariants.{Ns, S, X}
use Rattle.iso_modes.specs.declared.Term.{Term}
use Rattle.iso_modes.specs.declared.Term.TheVariants.{Kept}
use Rattle.iso_types.specs.Ids.{conn_eq}
use Rattle.iso_queue.specs.Locks.{is_spared, Hold, Request, all_placed, held, hold_on, holds_at_least, is_hold_of, placed, settled, settled_one, target}
use Rattle.iso_queue.specs.Queues.{Wait, wait_of}
use Rattle.iso_types.specs.declared.head.Head.{Head}
use Rattle.iso_types.specs.declared.head.Range.{Range}
use Rattle.iso_types.specs.declared.value.Conn.{Conn}
use Rattle.iso_types.specs.declared.value.IndexId.{IndexId}
use Rattle.iso_types.specs.declared.value.Name.{Name}
use Rattle.iso_types.specs.declared.value.Name.TheVariants.{End, Key, Row, Table}
use Rattle.iso_types.specs.declared.value.Rid.{Rid}
use Rattle.iso_types.specs.declared.value.TableId.{TableId}
use Rattle.iso_types.specs.declared.value.Value.{Value}

-- a request that makes no X but a kept one
abbrev pub is_easy : Request → Bool
is_easy r = not (is_row r.name) || (is_kept r.term || is_weak r.mode)

pub easy-keeps : (holds : List Hold) (c : Conn) (r : Request) → is_easy r ≡ true → RequestKeeps holds c r
easy-keeps holds c r e row x = go (is_kept r.term) refl
  where
    go : (b : Bool) → is_kept r.term ≡ b → (is_kept r.term || holds_at_least holds c r.name X) ≡ true
    go true k = rw k refl
    go false k = rw k (at_hold (hold_on holds c r.name) x)
      where
        weak : is_weak r.mode ≡ true
        weak = rw (row, k) at e

        at_hold : (o : Option Hold) → at_least (option_map_or (λ h. joined h r.mode) (option_map (λ (h : Hold). h.mode) o) r.mode) X ≡ true
            → option_map_or (λ m. at_least m X) (option_map (λ (h : Hold). h.mode) o) false ≡ true
        at_hold None y = absurd (weak-alone r.mode weak y)
        at_hold (Some h) y = weak-joined r.mode h.mode weak y

module _ (head : Head) where
  writes-easy : (holds : List Hold) (c : Conn) (rs : List Request) → list_all is_easy rs ≡ true → WritesKept holds → WritesKept (all_placed head holds c rs)
  writes-easy holds c [] e s = s
  writes-easy holds c (r ∷ rs) e s =
      writes-easy (placed head holds c r) c rs (and-rest (is_easy r) _ e) (writes-placed head holds c r (easy-keeps holds c r (and-first _ _ e)) s)

  -- what a hand may place: easy requests, or one that keeps what it makes
  abbrev pub HandKeeps : List Hold → Conn → Hand → Type 0
  HandKeeps holds c (Places rs) = (list_all is_easy rs ≡ true) ⊎ ((r : Request) × (rs ≡ r ∷ []) × RequestKeeps holds c r)
  HandKeeps holds c _ = Unit {0}

  writes-hand : (holds : List Hold) (c : Conn) (hand : Hand) → HandKeeps holds c hand → WritesKept holds → WritesKept (holds_by_hand head c hand holds)
  writes-hand holds c Leaves f s = s
  writes-hand holds c (Places rs) (inl e) s = writes-easy holds c rs e s
  writes-hand holds c (Places rs) (inr p) s = subst (λ (z : List Request). WritesKept (all_placed head holds c z)) (sym p.1)
      (writes-placed head holds c p.0 p.2 s)
  writes-hand holds c (Frees n) f s = writes-filter _ holds s
  writes-hand holds c (Collapses t) f s = writes-filter _ holds s
  writes-hand holds c Drops f s = writes-filter _ holds s

  block-easy : (w : World) (c : Conn) (n : Name) (m : Mode) (k : Term) → is_block head w c n m ≡ true → is_easy (record { name = n; mode = m; term = k }) ≡ true
  block-easy w c (Table t) m k e = refl
  block-easy w c (Row t r) m k e = let p : mode_eq m Ns ≡ true = and-first _ _ e in rw p (go (is_kept k))
    where
      go : (a : Bool) → (a || true) ≡ true
      go true = refl
      go false = refl
  block-easy w c (Key i v) m k e = refl
  block-easy w c (End i) m k e = refl

  kept-easy : (n : Name) (m : Mode) (k : Term) → k ≡ Kept → is_easy (record { name = n; mode = m; term = k }) ≡ true
  kept-easy n m k e = rw e (go (is_row n))
    where
      go : (a : Bool) → (not a || true) ≡ true
      go true = refl
      go false = refl

  lock-easy : (w : World) (c : Conn) (n : Name) (m : Mode) (k : Term) (why : Why) (got : Got) → LockStands head w c n m k why got
      → is_easy (record { name = n; mode = m; term = k }) ≡ true
  lock-easy w c n m k Asked got al = kept-easy n m k al.0
  lock-easy w c n m k Escalation got al = kept-easy n m k al.0
  lock-easy w c n m k Blocked got al = block-easy w c n m k al.2

  look-easy : (w : World) (t : TableId) (r : Rid) (want : Want) → list_all is_easy (looked w t r want) ≡ true
  unfolding mode_eq mode_number
  look-easy w t r want = go (is_dead (versions w t r)) want
    where
      go : (b : Bool) (want : Want)
          → list_all is_easy (if b then [] else option_map_or (λ m. request_on (Row t r) m ∷ []) (placed_by_want want) []) ≡ true
      go true want = refl
      go false Dirty = refl
      go false Current = refl
      go false Want.Settled = refl
      go false Steady = refl
      go false Repeat = refl
      go false Alter = refl
      go false AlterKept = refl

  key-easy : (i : IndexId) (o : Option (Value × Rid)) → is_row (key_name i o) ≡ false
  key-easy i None = refl
  key-easy i (Some p) = refl

  next-easy : (w : World) (i : IndexId) (range : Range) (at : Option (Value × Rid)) (guarded : Bool) → list_all is_easy
      (guarded_next w i range at guarded) ≡ true
  next-easy w i range at true = let q : is_row (next_name w i range at) ≡ false = key-easy i (found w i range at) in rw q refl
  next-easy w i range at false = refl

  names-easy : (ns : List Name) → list_all is_easy (map (λ n. request_on n (S, Kept)) ns) ≡ true
  names-easy [] = refl
  names-easy (n ∷ ns) = and-both _ _ (kept-easy n S Kept refl) (names-easy ns)

  -- settling leaves the modes
  pub held-settled : (c : Conn) (spare : Option Name) (holds : List Hold) (d : Conn) (n : Name) → held (settled c spare holds) d n ≡ held holds d n
  held-settled c spare holds d n =
      ap (option_map (λ (h : Hold). h.mode)) (find-mapped (is_hold_of d n) (settled_one c spare) (settled-of c spare d n) holds) ∙ go (hold_on holds d n)
    where
      one : (h : Hold) → (settled_one c spare h).mode ≡ h.mode
      one h = at_test (conn_eq h.conn c && (is_fresh h.term && not (is_spared spare h)))
        where
          at_test : (b : Bool) → (if b then record h { term = Kept } else h).mode ≡ h.mode
          at_test true = refl
          at_test false = refl

      go : (o : Option Hold) → option_map (λ (h : Hold). h.mode) (option_map (settled_one c spare) o) ≡ option_map (λ (h : Hold). h.mode) o
      go None = refl
      go (Some h) = ap Some (one h)

  claim-keeps : (w : World) (c : Conn) (spare : Option Name) → WritesAwaited w.holds w.waits → HandKeeps (settled c spare w.holds) c (claimed w c)
  unfolding WritesAwaited
  claim-keeps w c spare s = go (wait_of w.waits c) refl
    where
      go : (o : Option Wait) → wait_of w.waits c ≡ o → HandKeeps (settled c spare w.holds) c
          (option_map_or (λ x. Places (record { name = x.name; mode = x.target; term = x.term } ∷ [])) o Leaves)
      go None e = tt
      go (Some x) e = inr (record { name = x.name; mode = x.target; term = x.term }, refl, keeps)
        where
          keeps : is_row x.name ≡ true → at_least (target (settled c spare w.holds) c x.name x.target) X ≡ true
              → (is_kept x.term || holds_at_least (settled c spare w.holds) c x.name X) ≡ true
          keeps row l = rw (held-settled c spare w.holds c x.name) (s c x e row (rw (held-settled c spare w.holds c x.name) at l))

  -- the allowed entries' hands keep
  hand_keeps : (w : World) (c : Conn) (spare : Option Name) (a : Act) → ByAgent head w c a → WritesAwaited w.holds w.waits
      → HandKeeps (settled c spare w.holds) c (hand_of head w c a)
  hand_keeps w c spare (Lock n m k y Got.Granted) al s = inl (and-both _ _ (lock-easy w c n m k y Got.Granted al.1) refl)
  hand_keeps w c spare (Lock n m k y (Got.Queued q)) al s = tt
  hand_keeps w c spare (Lock n m k y Got.TimedOut) al s = tt
  hand_keeps w c spare (Look t r want Got.Granted) al s = inl (look-easy w t r want)
  hand_keeps w c spare (Look t r want (Got.Queued q)) al s = tt
  hand_keeps w c spare (Look t r want Got.TimedOut) al s = tt
  hand_keeps w c spare (Next i range at guarded (At v r)) al s = inl (next-easy w i range at guarded)
  hand_keeps w c spare (Next i range at guarded Past) al s = inl (next-easy w i range at guarded)
  hand_keeps w c spare (Next i range at guarded (Stand.Queued n)) al s = tt
  hand_keeps w c spare (Next i range at guarded (Stand.TimedOut n)) al s = tt
  hand_keeps w c spare Claim al s = claim-keeps w c spare s
  hand_keeps w c spare (Insert t r row) al s = inl (names-easy (inherited head w c t row))
  hand_keeps w c spare (Update t r row) al s = inl (names-easy (inherited head w c t row))
  hand_keeps w c spare Commit al s = tt
  hand_keeps w c spare (Rollback code reason) al s = tt
  hand_keeps w c spare Act.Ended al s = tt
  hand_keeps w c spare (Free t r) al s = tt
  hand_keeps w c spare (Collapse t m) al s = tt
  hand_keeps w c spare _ al s = tt

  pub writes-after : (w : World) (e : Entry) → Allowed head w e → WritesKept w.holds → WritesAwaited w.holds w.waits → WritesKept (after head w e).holds
  writes-after w e al s aw = go e.who al.2
    where
      go : (who : Who) → By head w who e.act → WritesKept (holds_by head w who e.act)
      go Dispatcher a = s
      go (Agent c) a = writes-filter _ _ (writes-hand _ c (hand_of head w c e.act) (hand_keeps w c (spared e.act (w.last c)) e.act a.1 aw)
          (writes-settled c (spared e.act (w.last c)) w.holds s))
