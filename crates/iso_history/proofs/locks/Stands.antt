-- What an allowed entry places fits.
use Rattle.std.proofs.Common.{◌≡◌, Bool, true, false, not, ◌||◌, List, [], ◌∷◌, refl, ap, sym, ◌∙◌, subst, Some, None, Option, option_map}
use Rattle.std.specs.Option.{option_map_or}
use Rattle.std.proofs.lemmas.Bool.{and_parts, not-true}
use Rattle.iso_history.proofs.locks.Finds.{find-is}
use Rattle.iso_history.proofs.locks.Fits.{GoesWithOthers, MayStand, granted-fits, stands-alike, unopposed}
use Rattle.iso_history.proofs.locks.Holds.{held-settled}
use Rattle.iso_history.proofs.locks.Placing.{AllAlong}
use Rattle.iso_history.proofs.locks.Modes.{escalated-table, x_table}
use Rattle.iso_history.proofs.locks.Same.{conn_is}
use Rattle.iso_history.proofs.locks.Tests.{or-first, or-first_false, or-second}
use Rattle.iso_history.specs.Entries.{found, stand_of}
use Rattle.iso_history.specs.Facts.{suits_held, LocksSound, TablesAwaited, TargetsSuit, WaitsBacked}
use Rattle.iso_history.specs.Holds.{Hand, claimed, guarded_next, looked, next_name, placed_by_want, request_on}
use Rattle.iso_history.specs.Holds.Hand.{Frees, Leaves, Places}
use Rattle.iso_history.specs.Legal.{LockStands}
use Rattle.iso_history.specs.Looks.{look, look_asks, may_look, want_asks}
use Rattle.iso_history.specs.Nexts.{may_next, next, stand_after}
use Rattle.iso_history.specs.Phases.{waits_grantable}
use Rattle.iso_history.specs.Requests.{Outcome, escalation, is_backed, is_table_mode, may_ask, request}
use Rattle.iso_history.specs.Requests.Outcome.{Gives, Limit}
use Rattle.iso_history.specs.Versions.{is_dead, versions}
use Rattle.iso_history.specs.World.{World}
use Rattle.iso_history.specs.declared.entry.Got.{Got}
use Rattle.iso_history.specs.declared.entry.Stand.{Stand}
use Rattle.iso_history.specs.declared.entry.Stand.TheVariants.{At, Past}
use Rattle.iso_history.specs.declared.entry.Want.{Want}
use Rattle.iso_history.specs.declared.entry.Want.TheVariants.{Alter, AlterKept, Current, Dirty, Repeat, Steady}
use Rattle.iso_history.specs.declared.entry.Why.{Why}
use Rattle.iso_history.specs.declared.entry.Why.TheVariants.{Asked, Blocked, Escalation}
use Rattle.iso_modes.specs.Terms.{is_kept}
use Rattle.iso_modes.specs.declared.Mode.{Mode}
use Rattle.iso_modes.specs.declared.Mode.TheVariants.{Ns, S, Six, U, X}
use Rattle.iso_modes.specs.declared.Term.{Term}
use Rattle.iso_modes.specs.declared.Term.TheVariants.{Fresh, Kept}
use Rattle.iso_modes.specs.Modes.{escalated, mode_eq}
use Rattle.iso_queue.specs.Limits.{prey}
use Rattle.iso_queue.specs.Locks.{Hold, Request, held, is_covered, settled}
use Rattle.iso_queue.specs.Queues.{Wait, has_edge, wait_of}
use Rattle.iso_types.specs.Head.{is_index}
use Rattle.iso_types.specs.Ids.{conn_eq}
use Rattle.iso_types.specs.declared.head.Head.{Head}
use Rattle.iso_types.specs.declared.head.Range.{Range}
use Rattle.iso_types.specs.declared.value.Conn.{Conn}
use Rattle.iso_types.specs.declared.value.IndexId.{IndexId}
use Rattle.iso_types.specs.declared.value.Name.{Name}
use Rattle.iso_types.specs.declared.value.Name.TheVariants.{End, Key, Row, Table}
use Rattle.iso_types.specs.declared.value.Rid.{Rid}
use Rattle.iso_types.specs.declared.value.TableId.{TableId}
use Rattle.iso_types.specs.declared.value.Value.{Value}

-- what an entry's hand places may stand, and it frees no table
abbrev pub HandStands : Head → Conn → List Hold → Hand → Type 0
HandStands head c hs (Places rs) = AllAlong (MayStand head c) head c hs rs
HandStands head c hs (Frees n) = (t : TableId) → n ≡ Table t → ⊥
HandStands head c hs _ = Unit {0}

-- what may be asked is covered or backed
pub asked-back : (head : Head) (w : World) (c : Conn) (n : Name) (m : Mode) → may_ask head w c n m ≡ true
    → (is_covered head w.holds c n m || is_backed head w c n m) ≡ true
asked-back head w c n m e = (and_parts _ _ ((and_parts _ _ e).1)).1

-- it stands, and does not wait
abbrev pub is_stand : Stand → Bool
is_stand (At v r) = true
is_stand Past = true
is_stand _ = false

-- and in a mode that suits its name
pub asked-suits : (head : Head) (w : World) (c : Conn) (n : Name) (m : Mode) → may_ask head w c n m ≡ true → suits_held n m ≡ true
asked-suits head w c (Table t) m e = or-first (is_table_mode m) (mode_eq m Six) (and_parts _ _ (and_parts _ _ e).1).0
asked-suits head w c (Row t r) m e = (and_parts _ _ (and_parts _ _ e).1).0
asked-suits head w c (Key i v) m e = (and_parts _ _ (and_parts _ _ e).1).0
asked-suits head w c (End i) m e = (and_parts _ _ (and_parts _ _ e).1).0

-- an escalation asks for a mode of tables
pub escalation-suits : (head : Head) (w : World) (c : Conn) (t : TableId) (m : Mode) → escalation head w c ≡ Some (t, m)
    → suits_held (Table t) m ≡ true
escalation-suits head w c t m e = go (prey head w.holds c) e
  where
    prey_mode : TableId → TableId × Mode
    prey_mode u = (u, option_map_or escalated (held w.holds c (Table u)) X)

    suits : (x : Option Mode) → suits_held (Table t) (option_map_or escalated x X) ≡ true
    suits None = x_table t
    suits (Some a) = escalated-table t a

    go : (x : Option TableId) → option_map prey_mode x ≡ Some (t, m) → suits_held (Table t) m ≡ true
    go None k = cc
    go (Some u) k =
        let also : option_map_or escalated (held w.holds c (Table u)) X ≡ m = ap (λ (p : Option (TableId × Mode)). option_map_or (λ y. y.1) p m) k in
        ap (suits_held (Table t)) (sym also) ∙ suits (held w.holds c (Table u))

module _ (head : Head) (w : World) (c : Conn) (s : LocksSound head w) (spare : Option Name) where
  abbrev after_settling : List Hold
  after_settling = settled c spare w.holds

  -- what may stand on the holds may stand after they settled
  one-stands : (r : Request) → MayStand head c w.holds r → AllAlong (MayStand head c) head c after_settling (r ∷ [])
  one-stands r f = (stands-alike head c after_settling w.holds r (held-settled c spare w.holds) f, tt)

  granted-stands : (n : Name) (m : Mode) (t : Term) → (is_covered head w.holds c n m || is_backed head w c n m) ≡ true
      → ((u : TableId) → n ≡ Table u → is_kept t ≡ true) → suits_held n m ≡ true
      → request head w c n m ≡ Gives Got.Granted → AllAlong (MayStand head c) head c after_settling (record { name = n; mode = m; term = t } ∷ [])
  granted-stands n m t back kept suits e =
      one-stands (record { name = n; mode = m; term = t }) (granted-fits head w c n m t s.together back kept suits e)

  -- one that may be asked
  asked-stands : (n : Name) (m : Mode) (t : Term) → may_ask head w c n m ≡ true → ((u : TableId) → n ≡ Table u → is_kept t ≡ true)
      → request head w c n m ≡ Gives Got.Granted → AllAlong (MayStand head c) head c after_settling (record { name = n; mode = m; term = t } ∷ [])
  asked-stands n m t may kept e = granted-stands n m t (asked-back head w c n m may) kept (asked-suits head w c n m may) e

  pub lock-stands : (n : Name) (m : Mode) (t : Term) (why : Why) → LockStands head w c n m t why Got.Granted
      → AllAlong (MayStand head c) head c after_settling (record { name = n; mode = m; term = t } ∷ [])
  lock-stands n m t Asked al = asked-stands n m t al.1 (λ u k. ap is_kept al.0) al.2
  lock-stands (Table u) m t Escalation al = granted-stands (Table u) m t (or-second (is_covered head w.holds c (Table u) m) true refl)
      (λ v k. ap is_kept al.0) (escalation-suits head w c u m al.1.1) al.1.2
  lock-stands n m t Escalation al = absurd al.1
  lock-stands n m t Blocked al = asked-stands n m t al.1 (λ u k. cc (rw k at al.2)) al.3

  -- what a look places where its slot is not dead
  look-placed : (t : TableId) (r : Rid) (want : Want) (m : Mode × Term) → want_asks head w c t r want ≡ Some m.0 → is_dead (versions w t r) ≡ false
      → may_look head w c t r want ≡ true → look head w c t r want ≡ Gives Got.Granted
      → AllAlong (MayStand head c) head c after_settling (request_on (Row t r) m ∷ [])
  look-placed t r want m a d may e =
      let asks : look_asks head w c t r want ≡ Some m.0 = rw d a in
      let asked : option_map_or (may_ask head w c (Row t r)) (look_asks head w c t r want) true ≡ true = (and_parts _ _ may).1 in
      let given : option_map_or (request head w c (Row t r)) (look_asks head w c t r want) (Gives Got.Granted) ≡ Gives Got.Granted = e in
      asked-stands (Row t r) m.0 m.1 (rw asks at asked) (λ u k. other u k) (rw asks at given)
    where
      other : (u : TableId) → Row t r ≡ Table u → is_kept m.1 ≡ true
      other u k = cc

  -- a look that asks of the row
  look-asking : (t : TableId) (r : Rid) (want : Want) (m : Mode × Term) → placed_by_want want ≡ Some m → want_asks head w c t r want ≡ Some m.0
      → may_look head w c t r want ≡ true → look head w c t r want ≡ Gives Got.Granted
      → AllAlong (MayStand head c) head c after_settling (looked w t r want)
  look-asking t r want m p a may e = go (is_dead (versions w t r)) refl
    where
      go : (b : Bool) → is_dead (versions w t r) ≡ b → AllAlong (MayStand head c) head c after_settling (looked w t r want)
      go true d = rw d tt
      go false d = rw (d, p) (look-placed t r want m a d may e)

  -- a look that places nothing
  look-idle : (t : TableId) (r : Rid) (want : Want) → placed_by_want want ≡ None → AllAlong (MayStand head c) head c after_settling (looked w t r want)
  look-idle t r want p = go (is_dead (versions w t r)) refl
    where
      go : (b : Bool) → is_dead (versions w t r) ≡ b → AllAlong (MayStand head c) head c after_settling (looked w t r want)
      go true d = rw d tt
      go false d = rw (d, p) tt

  pub look-stands : (t : TableId) (r : Rid) (want : Want) → may_look head w c t r want ≡ true → look head w c t r want ≡ Gives Got.Granted
      → AllAlong (MayStand head c) head c after_settling (looked w t r want)
  look-stands t r Dirty may e = look-idle t r Dirty refl
  look-stands t r Current may e = look-idle t r Current refl
  look-stands t r Want.Settled may e = look-idle t r Want.Settled refl
  look-stands t r Steady may e = look-asking t r Steady (Ns, Fresh) refl refl may e
  look-stands t r Repeat may e = look-asking t r Repeat (S, Kept) refl refl may e
  look-stands t r Alter may e = look-asking t r Alter (U, Fresh) refl refl may e
  look-stands t r AlterKept may e = look-asking t r AlterKept (U, Kept) refl refl may e

  -- where a guarded Next stands, its request was granted
  pub stood-granted : (o : Outcome) (n : Name) (stand got : Stand) → stand_after o n stand ≡ Some got → is_stand got ≡ true → o ≡ Gives Got.Granted
  stood-granted (Gives Got.Granted) n stand got e k = refl
  stood-granted (Gives (Got.Queued m)) n stand got e k = let h : Stand.Queued n ≡ got = cc in cc (ap is_stand h ∙ k)
  stood-granted (Gives Got.TimedOut) n stand got e k = let h : Stand.TimedOut n ≡ got = cc in cc (ap is_stand h ∙ k)
  stood-granted Limit n stand got e k = cc

  pub next-stands : (i : IndexId) (range : Range) (at : Option (Value × Rid)) (guarded : Bool) (got : Stand) → is_stand got ≡ true
      → may_next head w c i range at guarded ≡ true → next head w c i range at guarded ≡ Some got
      → AllAlong (MayStand head c) head c after_settling (guarded_next w i range at guarded)
  next-stands i range at false got k may e = tt
  next-stands i range at true got k may e =
      asked-stands (next_name w i range at) S Kept (and_parts (is_index head i) (may_ask head w c (next_name w i range at) S) may).1 (λ u k. refl)
      (stood-granted (request head w c (next_name w i range at) S) (next_name w i range at) (stand_of range (found w i range at)) got e k)

  -- a wait that may be claimed fits
  wait-fits : (x : Wait) → wait_of w.waits c ≡ Some x → has_edge w.holds w.waits x ≡ false
      → MayStand head c w.holds (record { name = x.name; mode = x.target; term = x.term })
  unfolding WaitsBacked TablesAwaited TargetsSuit
  wait-fits x e free uncovered = record {
    others = subst (λ (d : Conn). GoesWithOthers w.holds d x.name x.target) own (unopposed w.holds x (or-first_false _ _ free));
    backed = λ t k. s.awaited c t x e k;
    kept = λ t k. s.tables_awaited c t x e k;
    suits = s.suits_awaited c x e;
  }
    where
      own : x.conn ≡ c
      own = conn_is x.conn c (find-is (λ (y : Wait). conn_eq y.conn c) w.waits x e)

  pub claim-stands : waits_grantable w c ≡ true → HandStands head c after_settling (claimed w c)
  claim-stands e = go (wait_of w.waits c) refl ((and_parts _ _ e).1)
    where
      go : (x : Option Wait) → wait_of w.waits c ≡ x → option_map_or (λ y. not (has_edge w.holds w.waits y)) x false ≡ true
          → HandStands head c after_settling (option_map_or (λ y. Places (record { name = y.name; mode = y.target; term = y.term } ∷ [])) x Leaves)
      go None k free = tt
      go (Some x) k free = one-stands (record { name = x.name; mode = x.target; term = x.term }) (wait-fits x k (not-true _ free))
