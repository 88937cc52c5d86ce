-- What the steps of locks ask of the world holds in every legal history.
use Rattle.std.proofs.Common.{◌≡◌, ◌≤◌, ◌<◌, ◌+◌, ◌∙◌, ℕ, List, true, false, length, refl, ap, sym, arith, Some}
use Rattle.std.proofs.lemmas.List.{length-map}
use Rattle.iso_chain.proofs.Debts.{debt-is}
use Rattle.iso_chain.proofs.Kept.{kept-world}
use Rattle.iso_chain.specs.Facts.{AreKept}
use Rattle.iso_chain.specs.Logs.{note_of_record}
use Rattle.iso_history.proofs.limits.Begun.{none_left}
use Rattle.iso_history.proofs.limits.Made.{made-is}
use Rattle.iso_history.proofs.limits.Pushed.{entries-fit}
use Rattle.iso_history.proofs.limits.Room.{reserves-fit}
use Rattle.iso_history.proofs.limits.Within.{within}
use Rattle.iso_history.proofs.pending.MakersAfter.{change-lock, runs-unit}
use Rattle.iso_history.proofs.whole.Journal.{first-fitted, log_sound-world}
use Rattle.iso_history.proofs.whole.Writers.{top-of-unit, writer-alone}
use Rattle.iso_history.proofs.whole.Locks.{lock_facts}
use Rattle.iso_history.proofs.whole.Sound.{sound-world}
use Rattle.iso_history.specs.After.{after, start, world}
use Rattle.iso_history.specs.Courses.{NoneLeft}
use Rattle.iso_history.specs.Facts.{IsSound, LockFacts, LogSound, UnitsApart}
use Rattle.iso_history.specs.Fitted.{RowsFit}
use Rattle.iso_history.specs.Phases.{phase}
use Rattle.iso_history.specs.Records.{count, debt, last_left, note_of}
use Rattle.iso_history.specs.Reserves.{IsWithin}
use Rattle.iso_history.specs.Units.{unit_of}
use Rattle.iso_history.specs.Versions.{head_record, is_changed_beside, versions}
use Rattle.iso_history.specs.Writes.{may_change}
use Rattle.iso_history.specs.Legal.{Allowed, Ground}
use Rattle.iso_history.specs.World.{Note, World}
use Rattle.iso_history.specs.declared.entry.Entry.{Entry}
use Rattle.iso_state.specs.Stands.{Content, Stands}
use Rattle.iso_types.specs.declared.desk.Phase.TheVariants.{Running}
use Rattle.iso_types.specs.declared.head.Head.{Head}
use Rattle.iso_types.specs.declared.value.Conn.{Conn}
use Rattle.iso_types.specs.declared.value.Rid.{Rid}
use Rattle.iso_types.specs.declared.value.TableId.{TableId}
use Rattle.iso_uow.specs.Book.{debt_of}

-- Facts that the steps ask, each from parts that stand for their history: what a step author imports in place of the histories' own.
module _ {p : Content} (s : Stands p) where
  abbrev w : World
  w = world p.head p.history

  -- locks, units and versions
  pub sound-of : IsSound p.head (world p.head p.history)
  sound-of = sound-world p.head p.history s.ground

  -- what the steps of locks ask
  pub facts-of : LockFacts p.head (world p.head p.history)
  facts-of = lock_facts p.head p.history s.ground

  -- the head's rows fit their tables
  pub first_rows-of : RowsFit p.head (start p.head).tables
  first_rows-of = first-fitted p.head s.fits.rows

  -- each pending version has its record, and each version's row fits its table
  pub log_sound-of : LogSound p.head (world p.head p.history)
  log_sound-of = log_sound-world p.head p.history first_rows-of s.ground

  pub rows-of : RowsFit p.head (world p.head p.history).tables
  rows-of = log_sound-of.fitted

  -- versions and records belong together
  pub kept-of : AreKept (world p.head p.history)
  kept-of = kept-world p.head p.history first_rows-of s.ground

  -- the history's limit and the log's
  pub within-of : IsWithin p.head (world p.head p.history)
  within-of = within p.head p.history s.fits.conns s.ground

  pub apart-of : UnitsApart (world p.head p.history)
  apart-of = sound-of.units

  pub none_left-of : NoneLeft (world p.head p.history).begun (world p.head p.history).records
  none_left-of = none_left _ _ within-of.notes

  -- the last record that a unit has left is its slot's last version
  pub top-of : (c : Conn) (n : ℕ) → last_left (world p.head p.history) (unit_of (world p.head p.history) c) ≡ Some n
      → head_record (versions (world p.head p.history) (note_of (world p.head p.history).records n).table (note_of (world p.head p.history).records n).rid) ≡ Some n
  top-of c n e = top-of-unit p.head (world p.head p.history) sound-of c n e

  -- who may change a row sees no other unit's pending version of it
  pub beside-of : (c : Conn) (t : TableId) (r : Rid) → may_change p.head (world p.head p.history) c t r ≡ true
      → is_changed_beside (world p.head p.history) c t r ≡ false
  beside-of c t r may =
      writer-alone p.head (world p.head p.history) sound-of t r c (change-lock p.head (world p.head p.history) sound-of c t r may)

  -- who runs has a unit
  pub unit-of : (c : Conn) → phase (world p.head p.history) c ≡ Running → (world p.head p.history).unit c ≡ Some (unit_of (world p.head p.history) c)
  unit-of c runs = runs-unit p.head (world p.head p.history) sound-of c runs

  -- a connection of the head has a desk, a place among the units, and a number below 32
  pub desk-there : (c : Conn) → c.0 < length p.head.conns → c.0 < length p.desks
  desk-there c lt = rw s.conns lt

  pub work-there : (c : Conn) → c.0 < length p.head.conns → c.0 < length p.chain.book.works
  work-there c lt = rw s.works lt

  pub conn-small : (c : Conn) → c.0 < length p.head.conns → c.0 < 32
  conn-small c lt = let few = s.fits.conns in omega (arith, lt, few)

  -- the log has as many records as the world
  pub count-of : length p.chain.log ≡ count (world p.head p.history)
  count-of = sym (length-map p.chain.log note_of_record) ∙ ap (λ (l : List Note). length l) s.parts.chain.log.notes

  -- the debt of the units is the world's, and small
  pub debt-of : debt_of p.chain.book.works ≡ debt p.head (world p.head p.history)
  debt-of = debt-is p.head (world p.head p.history) p.chain.book.works s.works s.parts.chain.works

  pub entries-small : length p.history ≤ 2000000
  entries-small = entries-fit p.head p.history within-of

  -- the kept sum is small
  pub reserved-small : length p.history + p.reserved ≤ 2000064
  reserved-small =
      let made = made-is p.head p.history in
      let sum = s.parts.reserved in
      let fits = reserves-fit p.head (world p.head p.history) s.fits.conns within-of.fits in
      omega (arith, made, sum, fits)

  pub records-small : length p.chain.log ≤ 2000000
  records-small =
      let made = made-is p.head p.history in
      let few = within-of.counted.recorded in
      let all = entries-small in
      let same = count-of in
      omega (arith, made, few, all, same)

  pub debt-small : debt_of p.chain.book.works ≤ 2000000
  debt-small =
      let owed = within-of.counted.owed in
      let few = records-small in
      let same = count-of in
      let is = debt-of in
      omega (arith, owed, few, same, is)
