-- What the entry of each step does to the rows that a statement is to change: most leave them, and the locks on them.
use Rattle.std.proofs.Common.{◌≡◌, ◌⊎◌, inl, inr, Bool, true, false, List, [], ◌∷◌, refl, ap, Some, None, Option, if◌then◌else◌}
use Rattle.std.specs.Prelude.{nat_lt}
use Rattle.iso_conduct.specs.Conduct.{made}
use Rattle.iso_conduct.specs.Outcomes.{act_of}
use Rattle.iso_conduct.specs.Parts.{Part}
use Rattle.iso_conduct.specs.Parts.Part.{Asks, EntryLook, Frees, IndexScan, NewRow, RowDelete, RowUpdate, Settles, TableScan, Undos}
use Rattle.iso_conduct.specs.Points.{Haul, Point, due_by, row_by, rows_due}
use Rattle.iso_history.specs.Makers.{by_agent}
use Rattle.iso_history.specs.Nexts.{next}
use Rattle.iso_history.specs.Outcomes.{asked_by, at_limit, blocked_by, escalated_by, limited_by, look_act, look_by, next_by, unless_full, written_by}
use Rattle.iso_history.specs.Looks.{look}
use Rattle.iso_history.specs.Requests.{Outcome, escalation, request}
use Rattle.iso_history.specs.Requests.Outcome.{Gives, Limit}
use Rattle.iso_history.specs.Stops.{is_full}
use Rattle.iso_history.specs.Versions.{slots}
use Rattle.iso_history.specs.World.{World}
use Rattle.iso_history.specs.Writes.{Written, deletes, updates}
use Rattle.iso_history.specs.declared.entry.Act.{Act}
use Rattle.iso_history.specs.declared.entry.Act.TheVariants.{Commit, Delete, Free, Insert, ScanEnd, Stopped, Undo, Update}
use Rattle.iso_history.specs.declared.entry.Cause.TheVariants.{History}
use Rattle.iso_history.specs.declared.entry.Stand.{Stand}
use Rattle.iso_history.specs.declared.entry.Want.{Want}
use Rattle.iso_modes.specs.declared.Mode.{Mode}
use Rattle.iso_types.specs.declared.head.Head.{Head}
use Rattle.iso_types.specs.declared.head.Range.{Range}
use Rattle.iso_types.specs.declared.value.Conn.{Conn}
use Rattle.iso_types.specs.declared.value.IndexId.{IndexId}
use Rattle.iso_types.specs.declared.value.Name.{Name}
use Rattle.iso_types.specs.declared.value.Name.TheVariants.{Table}
use Rattle.iso_types.specs.declared.value.Rid.{Rid}
use Rattle.iso_types.specs.declared.value.TableId.{TableId}
use Rattle.iso_types.specs.declared.value.Value.{Value}

-- the act changes no row and frees none
abbrev pub is_calm : Act → Bool
is_calm (Insert t r row) = false
is_calm (Update t r row) = false
is_calm (Delete t r) = false
is_calm (Undo n) = false
is_calm (Free t r) = false
is_calm Commit = false
is_calm _ = true

-- the step that comes next neither changes a row nor frees one
abbrev pub is_calm_part : List Part → Bool
is_calm_part (NewRow t row ∷ ps) = false
is_calm_part (RowUpdate t r row ∷ ps) = false
is_calm_part (RowDelete t r ∷ ps) = false
is_calm_part (Undos floor ∷ ps) = false
is_calm_part (Frees t r ∷ ps) = false
is_calm_part (Settles ∷ ps) = false
is_calm_part _ = true

module _ (head : Head) (w : World) (c : Conn) where
  calm-escalated : (t : TableId) (m : Mode) (o : Outcome) → is_calm (escalated_by t m o) ≡ true
  calm-escalated t m (Gives got) = refl
  calm-escalated t m Limit = refl

  calm-limited : (o : Option (TableId × Mode)) → is_calm (limited_by head w c o) ≡ true
  calm-limited None = refl
  calm-limited (Some p) = calm-escalated p.0 p.1 (request head w c (Table p.0) p.1)

  calm-limit : is_calm (at_limit head w c) ≡ true
  calm-limit = calm-limited (escalation head w c)

  calm-asked : (n : Name) (m : Mode) (o : Outcome) → is_calm (asked_by head w c n m o) ≡ true
  calm-asked n m (Gives got) = refl
  calm-asked n m Limit = calm-limit

  calm-blocked : (n : Name) (m : Mode) (o : Outcome) → is_calm (blocked_by head w c n m o) ≡ true
  calm-blocked n m (Gives got) = refl
  calm-blocked n m Limit = calm-limit

  calm-seen : (t : TableId) (r : Rid) (want : Want) (o : Outcome) → is_calm (look_by head w c t r want o) ≡ true
  calm-seen t r want (Gives got) = refl
  calm-seen t r want Limit = calm-limit

  calm-look : (t : TableId) (r : Rid) (want : Want) → is_calm (look_act head w c t r want) ≡ true
  calm-look t r want = go (nat_lt r.0 (slots w t))
    where
      go : (b : Bool) → is_calm (if b then look_by head w c t r want (look head w c t r want) else ScanEnd t (slots w t)) ≡ true
      go true = calm-seen t r want (look head w c t r want)
      go false = refl

  calm-next : (i : IndexId) (range : Range) (at : Option (Value × Rid)) (guarded : Bool) (o : Option Stand)
      → is_calm (next_by head w c i range at guarded o) ≡ true
  calm-next i range at guarded (Some stand) = refl
  calm-next i range at guarded None = calm-limit

  -- a write is done, or changes nothing
  calm-written : (a : Act) (o : Written) → (written_by head w c a o ≡ a) ⊎ (is_calm (written_by head w c a o) ≡ true)
  calm-written a Written.Done = inl refl
  calm-written a Written.IsFull = inr refl
  calm-written a (Written.Refuses code) = inr refl
  calm-written a (Written.Blocks n m) = inr (calm-blocked n m (request head w c n m))
  calm-written a Written.AtLimit = inr calm-limit

  calm-unless : (a : Act) → is_calm a ≡ true → is_calm (unless_full head w c a) ≡ true
  calm-unless a h = go (is_full head w (by_agent c a))
    where
      go : (b : Bool) → is_calm (if b then Stopped History else a) ≡ true
      go true = refl
      go false = h

  same-unless : (a b : Act) → (a ≡ b) ⊎ (is_calm a ≡ true) → (unless_full head w c a ≡ b) ⊎ (is_calm (unless_full head w c a) ≡ true)
  same-unless a b h = go (is_full head w (by_agent c a)) h
    where
      go : (x : Bool) → (a ≡ b) ⊎ (is_calm a ≡ true) → ((if x then Stopped History else a) ≡ b) ⊎ (is_calm (if x then Stopped History else a) ≡ true)
      go true k = inr refl
      go false k = k

  -- the entry of a calm step
  calm-act : (row : List Value) (rows : List (List Value)) (kept : Haul) (ps : List Part) → is_calm_part ps ≡ true
      → is_calm (act_of head w c row rows (due_by kept ps)) ≡ true
  calm-act row rows kept [] e = refl
  calm-act row rows kept (Asks n m ∷ ps) e = calm-asked n m (request head w c n m)
  calm-act row rows kept (TableScan t want r ∷ ps) e = calm-look t (record { 0 = r }) want
  calm-act row rows kept (IndexScan k at ∷ ps) e = calm-next k.index k.range at k.guarded (next head w c k.index k.range at k.guarded)
  calm-act row rows kept (EntryLook k key r ∷ ps) e = calm-look k.table r k.want
  calm-act row rows kept (NewRow t new ∷ ps) e = cc
  calm-act row rows kept (RowUpdate t r new ∷ ps) e = cc
  calm-act row rows kept (RowDelete t r ∷ ps) e = cc
  calm-act row rows kept (Undos floor ∷ ps) e = cc
  calm-act row rows kept (Frees t r ∷ ps) e = cc
  calm-act row rows kept (Settles ∷ ps) e = cc
  calm-act row rows kept (x ∷ ps) e = refl

  -- the entry that is made, by the parts that are left
  abbrev pub made_by : Point → List Part → Act
  made_by p ps = unless_full head w c (act_of head w c (row_by ps) (rows_due p) (due_by p.kept ps))

  pub made-is : (p : Point) (ps : List Part) → p.left ≡ ps → made head w c p ≡ made_by p ps
  made-is p ps e = ap (λ x. unless_full head w c (act_of head w c (row_by x) (rows_due p) (due_by p.kept x))) e

  pub calm-made : (p : Point) (ps : List Part) → is_calm_part ps ≡ true → is_calm (made_by p ps) ≡ true
  calm-made p ps e = calm-unless (act_of head w c (row_by ps) (rows_due p) (due_by p.kept ps)) (calm-act (row_by ps) (rows_due p) p.kept ps e)

  -- an update is made, or nothing is changed
  pub update-made : (p : Point) (t : TableId) (r : Rid) (row : List Value) (ps : List Part)
      → (made_by p (RowUpdate t r row ∷ ps) ≡ Update t r row) ⊎ (is_calm (made_by p (RowUpdate t r row ∷ ps)) ≡ true)
  update-made p t r row ps = same-unless _ (Update t r row) (calm-written (Update t r row) (updates head w c t r row))

  pub delete-made : (p : Point) (t : TableId) (r : Rid) (ps : List Part)
      → (made_by p (RowDelete t r ∷ ps) ≡ Delete t r) ⊎ (is_calm (made_by p (RowDelete t r ∷ ps)) ≡ true)
  delete-made p t r ps = same-unless _ (Delete t r) (calm-written (Delete t r) (deletes head w c))

  pub free-made : (p : Point) (t : TableId) (r : Rid) (ps : List Part)
      → (made_by p (Frees t r ∷ ps) ≡ Free t r) ⊎ (is_calm (made_by p (Frees t r ∷ ps)) ≡ true)
  free-made p t r ps = same-unless (Free t r) (Free t r) (inl refl)
