-- What a step that may be made records may stand.
use Rattle.std.proofs.Common.{◌≡◌, ◌≤◌, ◌<◌, ◌+◌, ◌⊎◌, inl, inr, ℕ, zero, suc, Bool, true, false, ◌||◌, if◌then◌else◌, List, map, length, refl, ap, sym, ◌∙◌, subst, arith, is_some, Some, None, Option, option_map}
use Rattle.std.specs.List.{list_any, range_with_len}
use Rattle.std.specs.Option.{option_map_or}
use Rattle.std.specs.Prelude.{nat_le, nat_lt, slice_get, unwrap_or}
use Rattle.std.proofs.lemmas.Bool.{and_parts}
use Rattle.std.proofs.lemmas.Option.{slice_get_within}
use Rattle.iso_conduct.proofs.WritesFit.{Fits, delete-fits, insert-fits, update-fits}
use Rattle.iso_conduct.specs.Outcomes.{act_of}
use Rattle.iso_conduct.specs.Conduct.{made}
use Rattle.iso_conduct.specs.Points.{Point, due, row_due, rows_due}
use Rattle.iso_conduct.specs.Standing.{MayGoOn, MayMake, MayScan}
use Rattle.iso_script.specs.Sound.{IsSound as IsSoundScript, IsSoundHead}
use Rattle.iso_script.specs.declared.script.Script.{Script}
use Rattle.iso_history.specs.After.{world}
use Rattle.iso_history.specs.declared.entry.Entry.{Entry}
use Rattle.iso_conduct.specs.declared.moves.Move.{Move}
use Rattle.iso_history.proofs.limits.Begun.{none_left}
use Rattle.iso_history.proofs.limits.Full.{stopped-allowed}
use Rattle.iso_history.proofs.whole.Pressed.{request-stands}
use Rattle.iso_history.proofs.facts.Shares.{shares-world}
use Rattle.iso_history.proofs.whole.Sound.{sound-world}
use Rattle.iso_history.proofs.whole.PressedWrites.{indexes-declared, delete-never, insert-stands, update-stands}
use Rattle.iso_history.specs.Entries.{found, stand_of}
use Rattle.iso_history.specs.Facts.{IsSound}
use Rattle.iso_history.specs.Holds.{next_name}
use Rattle.iso_history.specs.Legal.{Allowed, ByAgent, Ground, Runs, may_undo}
use Rattle.iso_history.specs.Looks.{look, look_asks, may_look}
use Rattle.iso_history.specs.Makers.{by_agent}
use Rattle.iso_history.specs.Nexts.{may_next, next, stand_after}
use Rattle.iso_history.specs.Outcomes.{asked_by, at_limit, blocked_by, last_record, look_act, look_by, next_by, unless_full, written_by}
use Rattle.iso_history.specs.Phases.{phase}
use Rattle.iso_history.specs.Records.{is_past_log}
use Rattle.iso_history.specs.Requests.{Outcome, is_limited, may_ask, request}
use Rattle.iso_history.specs.Requests.Outcome.{Gives, Limit}
use Rattle.iso_history.specs.Shares.{SharesHold}
use Rattle.iso_history.specs.Stops.{is_full}
use Rattle.iso_history.specs.Versions.{next_rid, slots}
use Rattle.iso_history.specs.World.{World}
use Rattle.iso_history.specs.Writes.{Written, deletes, inserts, is_block, may_change, may_write, minus, or_else, updates}
use Rattle.iso_history.specs.Writes.Written.{AtLimit, Blocks, Done, IsFull, Refuses}
use Rattle.iso_history.specs.declared.entry.Act.{Act}
use Rattle.iso_history.specs.declared.entry.Act.TheVariants.{Collapse, Delete, Insert, ScanEnd, Stopped, Undo, Update}
use Rattle.iso_history.specs.declared.entry.Cause.{Cause}
use Rattle.iso_history.specs.declared.entry.Got.{Got}
use Rattle.iso_history.specs.declared.entry.Stand.{Stand}
use Rattle.iso_history.specs.declared.entry.Want.{Want}
use Rattle.iso_modes.specs.declared.Mode.{Mode}
use Rattle.iso_modes.specs.declared.Mode.TheVariants.{S, X}
use Rattle.iso_types.specs.Head.{all_fit, indexes_of, is_conn, row_fits}
use Rattle.iso_types.specs.declared.desk.Phase.TheVariants.{Running}
use Rattle.iso_types.specs.declared.head.Head.{Head}
use Rattle.iso_types.specs.declared.head.Range.{Range}
use Rattle.iso_types.specs.declared.head.TableDef.{TableDef}
use Rattle.iso_types.specs.declared.value.Conn.{Conn}
use Rattle.iso_types.specs.declared.value.IndexId.{IndexId}
use Rattle.iso_types.specs.declared.value.Name.{Name}
use Rattle.iso_types.specs.declared.value.Name.TheVariants.{Row}
use Rattle.iso_types.specs.declared.value.Rid.{Rid}
use Rattle.iso_types.specs.declared.value.TableId.{TableId}
use Rattle.iso_types.specs.declared.value.Value.{Value}

-- ---- tables and outcomes

abbrev some_tables : ℕ → ℕ → List TableId
some_tables a n = map (λ k. record { 0 = k }) (range_with_len a n)

-- a table of the head that passes is found among them
any-table : (p : TableId → Bool) (k : ℕ) (a n : ℕ) → p (record { 0 = k }) ≡ true → a ≤ k → k < a + n → list_any p (some_tables a n) ≡ true
any-table p k a zero e le lt = absurd (omega (arith, le, lt))
any-table p k a (suc n) e le lt = go (λ past. any-table p k (a + 1) n e past (omega (arith, lt))) (cases a k le)
  where
    cases : (a k : ℕ) → a ≤ k → (a ≡ k) ⊎ (a + 1 ≤ k)
    cases a k le = grind arith

    later : (x y : Bool) → y ≡ true → (x || y) ≡ true
    later true y e = refl
    later false y e = e

    go : (a + 1 ≤ k → list_any p (some_tables (a + 1) n) ≡ true) → (a ≡ k) ⊎ (a + 1 ≤ k) → list_any p (some_tables a (suc n)) ≡ true
    go ih (inl is) = let f : p (record { 0 = a }) ≡ true = subst (λ (z : ℕ). p (record { 0 = z }) ≡ true) (sym is) e in rw f refl
    go ih (inr past) = later (p (record { 0 = a })) (list_any p (some_tables (a + 1) n)) (ih past)

-- the table of a row that fits is there
fits-there : (head : Head) (t : TableId) (row : List Value) → row_fits head t row ≡ true → t.0 < length head.tables
fits-there head t row e = go (slice_get head.tables t.0) refl e
  where
    go : (o : Option TableDef) → slice_get head.tables t.0 ≡ o → option_map_or (λ d. all_fit d.columns row) o false ≡ true
        → t.0 < length head.tables
    go None f h = cc
    go (Some d) f h = slice_get_within head.tables t.0 d f

module _ (head : Head) (w : World) (c : Conn) (s : IsSound head w) (shares : SharesHold head w) (few : (t : TableId) → length (indexes_of head t) ≤ 4) where
  -- ---- what each step records

  asked-stands : Runs w c → (n : Name) (m : Mode) → may_ask head w c n m ≡ true → ByAgent head w c (asked_by head w c n m (request head w c n m))
  asked-stands runs n m may = go (request head w c n m) refl
    where
      go : (o : Outcome) → request head w c n m ≡ o → ByAgent head w c (asked_by head w c n m o)
      go (Gives got) e = (runs, (refl, may, e))
      go Limit e = request-stands head w c s shares runs n m e

  blocked-stands : Runs w c → (n : Name) (m : Mode) → may_ask head w c n m ≡ true → is_block head w c n m ≡ true
      → ByAgent head w c (blocked_by head w c n m (request head w c n m))
  blocked-stands runs n m may block = go (request head w c n m) refl
    where
      go : (o : Outcome) → request head w c n m ≡ o → ByAgent head w c (blocked_by head w c n m o)
      go (Gives got) e = (runs, (refl, may, block, e))
      go Limit e = request-stands head w c s shares runs n m e

  look-stands : Runs w c → (t : TableId) (r : Rid) (want : Want) → may_look head w c t r want ≡ true
      → ByAgent head w c (look_by head w c t r want (look head w c t r want))
  look-stands runs t r want may = go (look head w c t r want) refl
    where
      limit : (o : Option Mode) → look_asks head w c t r want ≡ o → option_map_or (request head w c (Row t r)) o (Gives Got.Granted) ≡ Limit
          → ByAgent head w c (at_limit head w c)
      limit None e h = cc
      limit (Some m) e h = request-stands head w c s shares runs (Row t r) m h

      go : (o : Outcome) → look head w c t r want ≡ o → ByAgent head w c (look_by head w c t r want o)
      go (Gives got) e = (runs, may, e)
      go Limit e = limit (look_asks head w c t r want) refl e

  scan-stands : Runs w c → (t : TableId) (r : Rid) (want : Want) → MayScan head w c t r want → ByAgent head w c (look_act head w c t r want)
  scan-stands runs t r want may = go (nat_lt r.0 (slots w t)) refl
    where
      go : (b : Bool) → nat_lt r.0 (slots w t) ≡ b
          → ByAgent head w c (if b then look_by head w c t r want (look head w c t r want) else ScanEnd t (slots w t))
      go true e = look-stands runs t r want (may.1 e)
      go false e = (runs, may.0, refl)

  next-stands : Runs w c → (i : IndexId) (range : Range) (at : Option (Value × Rid)) (guarded : Bool) → may_next head w c i range at guarded ≡ true
      → ByAgent head w c (next_by head w c i range at guarded (next head w c i range at guarded))
  next-stands runs i range at guarded may = go guarded (next head w c i range at guarded) refl may
    where
      limit : (o : Outcome) → request head w c (next_name w i range at) S ≡ o
          → stand_after o (next_name w i range at) (stand_of range (found w i range at)) ≡ None → ByAgent head w c (at_limit head w c)
      limit (Gives Got.Granted) e h = cc
      limit (Gives (Got.Queued m)) e h = cc
      limit (Gives Got.TimedOut) e h = cc
      limit Limit e h = request-stands head w c s shares runs (next_name w i range at) S e

      go : (guarded : Bool) (o : Option Stand) → next head w c i range at guarded ≡ o → may_next head w c i range at guarded ≡ true
          → ByAgent head w c (next_by head w c i range at guarded o)
      go guarded (Some stand) e m = (runs, m, e)
      go true None e m = limit (request head w c (next_name w i range at) S) refl e
      go false None e m = cc

  -- what comes of a write that is not done
  written-stands : Runs w c → (t : TableId) (may : may_write w c t ≡ true) (a : Act) → t.0 < length head.tables → (x : Written)
      → (x ≡ Done → ByAgent head w c a) → (x ≡ AtLimit → ByAgent head w c (at_limit head w c)) → Fits head w c t may x
      → ByAgent head w c (written_by head w c a x)
  written-stands runs t may a there Done done limit fits = done refl
  written-stands runs t may a there IsFull done limit fits = rw (runs.0) (any-table (λ u. nat_le 65536 (slots w u)) t.0 0 (length head.tables) fits (omega arith) (omega (arith, there)))
  written-stands runs t may a there (Refuses code) done limit fits = (runs, fits)
  written-stands runs t may a there (Blocks n m) done limit fits = blocked-stands runs n m fits.0 fits.1
  written-stands runs t may a there AtLimit done limit fits = limit refl

  insert-may : Runs w c → (t : TableId) (row : List Value) → may_write w c t ≡ true → row_fits head t row ≡ true
      → ByAgent head w c (written_by head w c (Insert t (next_rid w t) row) (inserts head w c t row))
  insert-may runs t row may fits =
      written-stands runs t may (Insert t (next_rid w t) row) (fits-there head t row fits) (inserts head w c t row) (λ e. (runs, may, fits, refl, e))
      (insert-stands head w c s shares runs t (few t) row) (insert-fits head w c t may row)

  update-may : Runs w c → (t : TableId) (r : Rid) (row : List Value) → may_change head w c t r ≡ true → row_fits head t row ≡ true
      → ByAgent head w c (written_by head w c (Update t r row) (updates head w c t r row))
  update-may runs t r row may fits =
      let writes = (and_parts _ _ may).0 in
      written-stands runs t writes (Update t r row) (fits-there head t row fits) (updates head w c t r row) (λ e. (runs, may, fits, e))
      (update-stands head w c s shares runs t (few t) r row) (update-fits head w c t writes r row)

  never-full : deletes head w c ≡ IsFull → ⊥
  never-full e = go (is_limited head w c 0) (is_past_log head w) e
    where
      go : (a b : Bool) → or_else (if a then AtLimit else Done) (if b then Refuses (minus 964) else Done) ≡ IsFull → ⊥
      go true b h = cc
      go false true h = cc
      go false false h = cc

  delete-may : Runs w c → (t : TableId) (r : Rid) → may_change head w c t r ≡ true
      → ByAgent head w c (written_by head w c (Delete t r) (deletes head w c))
  delete-may runs t r may = go (deletes head w c) refl (delete-fits head w c t ((and_parts _ _ may).0))
    where
      go : (x : Written) → deletes head w c ≡ x → Fits head w c t ((and_parts _ _ may).0) x → ByAgent head w c (written_by head w c (Delete t r) x)
      go Done e f = (runs, may, e)
      go IsFull e f = absurd (never-full e)
      go (Refuses code) e f = (runs, f)
      go (Blocks n m) e f = blocked-stands runs n m f.0 f.1
      go AtLimit e f = absurd (delete-never head w c shares e)

  undo-may : (o : Option ℕ) → last_record w c ≡ o → is_some o ≡ true → may_undo w c ≡ true → ByAgent head w c (Undo (unwrap_or o 0))
  undo-may None e k may = cc
  undo-may (Some n) e k may = (may, e)

  collapse-may : (t : TableId) → phase w c ≡ Running → (o : Option (TableId × Mode)) → w.due c ≡ o → option_map (λ d. d.0) o ≡ Some t
      → ByAgent head w c (Collapse t (option_map_or (λ d. d.1) o X))
  collapse-may t runs None e k = cc
  collapse-may t runs (Some d) e k = let first : d.0 ≡ t = cc in (runs, e ∙ ap Some (ap (λ u. (u, d.1)) first))

  -- the step's entry may stand
  pub act-stands : (row : List Value) (rows : List (List Value)) (m : Move) → MayMake head w c row m → ByAgent head w c (act_of head w c row rows m)
  act-stands row rows (Move.Lock n m) may = asked-stands may.0 n m may.1
  act-stands row rows Move.Claim may = may
  act-stands row rows (Move.Look t r want) may = scan-stands may.0 t r want may.1
  act-stands row rows (Move.Next i range at guarded) may = next-stands may.0 i range at guarded may.1
  act-stands row rows (Move.Free t r) may = may
  act-stands row rows (Move.Collapse t) may = collapse-may t may.0 (w.due c) refl may.1
  act-stands row rows (Move.Insert t) may = insert-may may.0 t row may.1 may.2
  act-stands row rows (Move.Update t r) may = update-may may.0 t r row may.1 may.2
  act-stands row rows (Move.Delete t r) may = delete-may may.0 t r may.1
  act-stands row rows (Move.Refuse code) may = may
  act-stands row rows (Move.Undo floor) may = undo-may (last_record w c) refl may.1 may.0
  act-stands row rows (Move.Mark name) may = may
  act-stands row rows (Move.Back name) may = may
  act-stands row rows (Move.Set level may_wait) may = may
  act-stands row rows Move.Commit may = may
  act-stands row rows (Move.RollbackEnd code reason) may = may
  act-stands row rows (Move.Reply code changed) may = may

  -- it may be appended, or the Stopped in its place
  pub made-allowed : w.pace.finished ≡ false → is_conn head c ≡ true → (a : Act) → ByAgent head w c a
      → Allowed head w (by_agent c (unless_full head w c a))
  made-allowed going known a may = go (is_full head w (by_agent c a)) refl
    where
      go : (b : Bool) → is_full head w (by_agent c a) ≡ b → Allowed head w (by_agent c (if b then Stopped Cause.History else a))
      go true e = stopped-allowed head w c a going (known, may) s.units s.course (none_left w.begun w.records s.begun_records) e
      go false e = (rw going refl, rw e refl, (known, may))

-- each table of a sound head has at most four indexes
few-indexes : (head : Head) → IsSoundHead head → (t : TableId) → length (indexes_of head t) ≤ 4
few-indexes head s t = subst (λ (n : ℕ). n ≤ 4) (sym (indexes-declared head t)) (s.few_indexes t)

-- so in a legal history
pub made-stands : (script : Script) (es : List Entry) (c : Conn) (p : Point) → IsSoundScript script → Ground script.head es
    → is_conn script.head c ≡ true → (world script.head es).pace.finished ≡ false
    → MayGoOn script.head (world script.head es) c p
    → Allowed script.head (world script.head es) (by_agent c (made script.head (world script.head es) c p))
made-stands script es c p sound g known going may =
    let s = sound-world script.head es g in
    let shares = shares-world script.head es g in
    let few = few-indexes script.head sound.head in
    made-allowed script.head (world script.head es) c s shares few going known
    (act_of script.head (world script.head es) c (row_due p) (rows_due p) (due p))
    (act-stands script.head (world script.head es) c s shares few (row_due p) (rows_due p) (due p) may)
