-- At the ready point of a connection that runs: the locks on tables that are due, the looks, the insertion, and the tables of the
-- rows that it changes.
use Rattle.std.proofs.Common.{◌≡◌, inl, inr, Bool, true, false, ◌||◌, List, refl, sym, ◌∙◌, subst, Option, Some, None, if◌then◌else◌, ℤ}
use Rattle.std.specs.Option.{option_map_or}
use Rattle.std.specs.Ordering.{int_eq}
use Rattle.std.specs.Prelude.{nat_lt}
use Rattle.std.proofs.lemmas.Bool.Decides.{Decides-int_eq}
use Rattle.iso_conduct.proofs.Needs.{Locked, Reads, Within, is_own_refusal}
use Rattle.iso_conduct.proofs.Promised.{Promised}
use Rattle.iso_conduct.specs.Conduct.{Conduct, point, ready}
use Rattle.iso_conduct.specs.Points.{Point, due, row_due}
use Rattle.iso_conduct.specs.Standing.{MayScan}
use Rattle.iso_conduct.specs.declared.moves.Move.{Move}
use Rattle.iso_history.proofs.locks.Joins.{runs-alone}
use Rattle.iso_history.specs.After.{world}
use Rattle.iso_history.specs.Legal.{Ground}
use Rattle.iso_history.specs.Looks.{is_current, is_settled, may_look, want_asks}
use Rattle.iso_history.specs.Phases.{phase, phase_of}
use Rattle.iso_history.specs.Requests.{is_backed, is_row_mode, is_there, may_ask, suits, table_mode}
use Rattle.iso_history.specs.Versions.{is_dead, slots, versions}
use Rattle.iso_history.specs.World.{World}
use Rattle.iso_history.specs.Writes.{is_refusal, may_write, minus}
use Rattle.iso_history.specs.declared.entry.Entry.{Entry}
use Rattle.iso_history.specs.declared.entry.Want.{Want}
use Rattle.iso_history.specs.declared.entry.Want.TheVariants.{Alter, AlterKept, Current, Dirty, Repeat, Steady}
use Rattle.iso_modes.specs.declared.Mode.{Mode}
use Rattle.iso_modes.specs.declared.Mode.TheVariants.{Is, Ix, Ns, S, U, X}
use Rattle.iso_queue.specs.Locks.{holds_at_least, is_covered}
use Rattle.iso_queue.specs.Queues.{Wait}
use Rattle.iso_script.specs.Sound.{IsSound}
use Rattle.iso_script.specs.declared.script.Script.{Script}
use Rattle.iso_standing.proofs.DueParts.{delete-writes, end-writes, insert-needs, key-writes, lock-needs, look-needs, refuse-needs, row-writes, update-writes}
use Rattle.iso_standing.proofs.LocksAlong.{Suits, SuitsAt, suits-hold, suits-more, suits-ready}
use Rattle.iso_types.specs.Head.{row_fits}
use Rattle.iso_types.specs.declared.desk.Phase.TheVariants.{Running}
use Rattle.iso_types.specs.declared.head.Head.{Head}
use Rattle.iso_types.specs.declared.value.Conn.{Conn}
use Rattle.iso_types.specs.declared.value.IndexId.{IndexId}
use Rattle.iso_types.specs.declared.value.Name.{Name}
use Rattle.iso_types.specs.declared.value.Name.TheVariants.{End, Key, Row, Table}
use Rattle.iso_types.specs.declared.value.Rid.{Rid}
use Rattle.iso_types.specs.declared.value.TableId.{TableId}
use Rattle.iso_types.specs.declared.value.Value.{Value}

-- ---- who runs holds what is promised

-- the tables that the connection holds
abbrev pub Held : World → Conn → Locked
Held w c u k = holds_at_least w.holds c (Table u) k ≡ true

running-spared : (ended closing doomed waiting shut : Bool) → phase_of ended closing doomed waiting shut ≡ Running → doomed ≡ true → ⊥
running-spared true closing doomed waiting shut e d = cc
running-spared false true doomed waiting shut e d = cc
running-spared false false true waiting shut e d = cc
running-spared false false false waiting shut e d = cc

pub running-holds : (w : World) (c : Conn) → phase w c ≡ Running → Within (Promised w c) (Held w c)
running-holds w c e u k (inl h) = h
running-holds w c e u k (inr (inl a)) = absurd (none a.0 (sym (runs-alone w c e) ∙ a.1))
  where
    none : (x : Wait) → None ≡ Some x → ⊥
    none x h = cc
running-holds w c e u k (inr (inr d)) = absurd (running-spared _ _ _ _ _ e d)

-- ---- looks

pub or-second : (a b : Bool) → b ≡ true → (a || b) ≡ true
or-second true b e = refl
or-second false b e = e

module _ (head : Head) (w : World) (c : Conn) (t : TableId) (r : Rid) where
  -- a row may be asked for where its slot is there, and its table is held as the mode wants
  pub row-may : (m : Mode) → is_row_mode m ≡ true → is_backed head w c (Row t r) m ≡ true → nat_lt r.0 (slots w t) ≡ true
      → may_ask head w c (Row t r) m ≡ true
  row-may m s b l = rw (l, s) (or-second (is_covered head w.holds c (Row t r) m) (is_backed head w c (Row t r) m) b)

  module _ (l : nat_lt r.0 (slots w t) ≡ true) where
    abbrev May : Option Mode → Type 0
    May o = option_map_or (may_ask head w c (Row t r)) o true ≡ true

    may-ns : Held w c t Is → May (Some Ns)
    unfolding is_row_mode table_mode
    may-ns h = row-may Ns refl h l

    may-s : Held w c t Is → May (Some S)
    unfolding is_row_mode table_mode
    may-s h = row-may S refl h l

    may-u : Held w c t Ix → May (Some U)
    unfolding is_row_mode table_mode
    may-u h = row-may U refl h l

    may-unless : (b : Bool) → Held w c t Is → May (if b then None else Some Ns)
    may-unless true h = refl
    may-unless false h = may-ns h

    may-want : (want : Want) → Reads (Held w c) t want → May (want_asks head w c t r want)
    may-want Dirty n = refl
    may-want Current n = may-unless (is_current head w c t r) n
    may-want Want.Settled n = may-unless (is_settled head w c t r) n
    may-want Steady n = may-ns n
    may-want Repeat n = may-s n
    may-want Alter n = may-u n
    may-want AlterKept n = may-u n

    may-see : (want : Want) → Reads (Held w c) t want → may_look head w c t r want ≡ true
    may-see want n = rw l (go (is_dead (versions w t r)))
      where
        go : (b : Bool) → May (if b then None else want_asks head w c t r want)
        go true = refl
        go false = may-want want n

-- ---- refusals

module _ (head : Head) (w : World) (c : Conn) where
  same-refusal : (code n : ℤ) → is_refusal head w c n ≡ true → int_eq code n ≡ true → is_refusal head w c code ≡ true
  same-refusal code n h e = subst (λ z. is_refusal head w c z ≡ true) (sym ((Decides-int_eq code n).0 e)) h

  -- a code with which a statement is refused by itself
  pub own-refusal : (code : ℤ) → is_own_refusal code ≡ true → is_refusal head w c code ≡ true
  own-refusal code e = go (int_eq code (minus 407)) refl (int_eq code (minus 802)) refl (int_eq code (minus 880)) refl e
    where
      go : (a : Bool) → int_eq code (minus 407) ≡ a → (b : Bool) → int_eq code (minus 802) ≡ b → (d : Bool) → int_eq code (minus 880) ≡ d
          → (a || (b || (d || false))) ≡ true → is_refusal head w c code ≡ true
      go true f b g d h k = same-refusal code (minus 407) refl f
      go false f true g d h k = same-refusal code (minus 802) refl g
      go false f false g true h k = same-refusal code (minus 880) refl h
      go false f false g false h k = cc

-- ---- at the ready point

module _ (script : Script) (es : List Entry) (c : Conn) (p : Point) (sound : IsSound script) (g : Ground script.head es)
    (k : Conduct script.head script.lines es c)
    (is : ready script.head script.lines (world script.head es) c (point script.head script.lines es c) ≡ Some p) where
  -- what is left needs no lock on a table that is neither held nor awaited nor asked for first
  point-suits : Suits script.head (Promised (world script.head es) c) p.left
  point-suits =
      subst (SuitsAt script.head script.lines c sound.lines (world script.head es)) is
      (suits-ready script.head script.lines c sound.lines (world script.head es) (point script.head script.lines es c)
      (suits-hold script.head script.lines c sound.lines es g k))

  -- a lock on a table: it is the head's, and the mode is one of tables
  pub table-ask-at : (t : TableId) (m : Mode) → due p ≡ Move.Lock (Table t) m → may_ask script.head (world script.head es) c (Table t) m ≡ true
  table-ask-at t m e = let n = lock-needs script.head _ p.kept p.left point-suits.0 t m e in rw (n.0, n.1) refl

  -- no key is asked for by itself, nor the end of an index
  pub no-key-at : (i : IndexId) (v : Value) (m : Mode) → due p ≡ Move.Lock (Key i v) m → ⊥
  no-key-at i v m e = key-writes script.head _ p.kept p.left point-suits.1 i v m e

  pub no-end-at : (i : IndexId) (m : Mode) → due p ≡ Move.Lock (End i) m → ⊥
  no-end-at i m e = end-writes script.head _ p.kept p.left point-suits.1 i m e

  -- a refusal that no step finds
  pub refuse-at : (code : ℤ) → due p ≡ Move.Refuse code → is_refusal script.head (world script.head es) c code ≡ true
  refuse-at code e = own-refusal script.head (world script.head es) c code (refuse-needs script.head _ p.kept p.left point-suits.0 code e)

  module _ (runs : phase (world script.head es) c ≡ Running) where
    pub held-suits : Suits script.head (Held (world script.head es) c) p.left
    held-suits = suits-more script.head _ _ (running-holds (world script.head es) c runs) p.left point-suits

    -- a look: its table is the head's, and it may stand where its slot is there
    pub look-at : (t : TableId) (r : Rid) (want : Want) → due p ≡ Move.Look t r want → MayScan script.head (world script.head es) c t r want
    look-at t r want e =
        let n = look-needs script.head _ p.kept p.left t r want held-suits.0 e in
        (n.0, λ l. may-see script.head (world script.head es) c t r l want n.1)

    -- an insertion: its table is held in IX, and its row fits
    pub insert-at : (t : TableId) → due p ≡ Move.Insert t
        → (may_write (world script.head es) c t ≡ true) × (row_fits script.head t (row_due p) ≡ true)
    insert-at t e = let n = insert-needs script.head _ p.kept p.left held-suits.0 t e in (n.1, n.0)

    -- the table of a row that is updated, or deleted, is held in IX
    pub update-table-at : (t : TableId) (r : Rid) → due p ≡ Move.Update t r → may_write (world script.head es) c t ≡ true
    update-table-at t r e = update-writes script.head _ p.kept p.left held-suits.1 t r e

    pub delete-table-at : (t : TableId) (r : Rid) → due p ≡ Move.Delete t r → may_write (world script.head es) c t ≡ true
    delete-table-at t r e = delete-writes script.head _ p.kept p.left held-suits.1 t r e

    -- a row is asked for in X, and its table is held in IX
    pub row-mode-at : (t : TableId) (r : Rid) (m : Mode) → due p ≡ Move.Lock (Row t r) m → m ≡ X
    row-mode-at t r m e = (row-writes script.head _ p.kept p.left held-suits.1 t r m e).0

    pub row-backed-at : (t : TableId) (r : Rid) → due p ≡ Move.Lock (Row t r) X
        → (suits (Row t r) X ≡ true) × (is_backed script.head (world script.head es) c (Row t r) X ≡ true)
    unfolding is_row_mode table_mode
    row-backed-at t r e = (refl, (row-writes script.head _ p.kept p.left held-suits.1 t r X e).1)

    -- so each lock that is due may be asked for, where its name is there
    pub ask-at : (n : Name) (m : Mode) → due p ≡ Move.Lock n m → is_there script.head (world script.head es) n ≡ true
        → may_ask script.head (world script.head es) c n m ≡ true
    ask-at (Table t) m e l = table-ask-at t m e
    ask-at (Row t r) m e l =
        let x : m ≡ X = row-mode-at t r m e in
        let b = row-backed-at t r (subst (λ z. due p ≡ Move.Lock (Row t r) z) x e) in
        subst (λ z. may_ask script.head (world script.head es) c (Row t r) z ≡ true) (sym x)
        (row-may script.head (world script.head es) c t r X b.0 b.1 l)
    ask-at (Key i v) m e l = absurd (no-key-at i v m e)
    ask-at (End i) m e l = absurd (no-end-at i m e)
