-- What a look sees beside another unit's pending version.
use Rattle.std.specs.Prelude.{None, Some, Result, Ok, Err, IfOk}
use Rattle.std.proofs.Common.{◌≡◌, Bool, true, false, List, refl, ap, sym, subst, ◌∙◌, Option, if◌then◌else◌}
use Rattle.iso_history.specs.After.{world}
use Rattle.iso_history.specs.Looks.{look, shown}
use Rattle.iso_history.specs.Requests.{Outcome, escalation, is_pressed, request}
use Rattle.iso_history.specs.Requests.Outcome.{Gives, Limit}
use Rattle.iso_history.specs.Units.{unit_of}
use Rattle.iso_history.specs.Versions.{committed, is_changed_beside, is_pending, present, versions}
use Rattle.iso_history.specs.World.{World}
use Rattle.iso_history.specs.declared.entry.Got.{Got}
use Rattle.iso_history.specs.declared.entry.Want.{Want}
use Rattle.iso_history.specs.declared.entry.Want.TheVariants.{Alter, AlterKept, Current, Dirty, Repeat, Steady}
use Rattle.iso_types.specs.declared.value.Conn.{Conn}
use Rattle.iso_types.specs.declared.value.Rid.{Rid}
use Rattle.iso_types.specs.declared.value.TableId.{TableId}
use Rattle.iso_types.specs.declared.value.Value.{Value}
use Rattle.iso_state.specs.Stands.{Content, Stands}
use Rattle.iso_reads.proofs.SlotReads.{beside-pending, pin-shows}
use Rattle.iso_reads.specs.Answers.{Shows, answer_by, asked_mode, comes_at_limit, is_beside, limited, pin_of, seen}
use Rattle.iso_reads.proofs.LookSteps.{asks-by, outcome-is}
use Rattle.iso_locks.proofs.LockSteps.{pressed}
use Rattle.iso_locks.specs.Answers.{answer_of}
use Rattle.iso_locks.specs.declared.locking.Answer.{Answer}
use Rattle.iso_history.specs.Outcomes.{at_limit, escalated_by, limited_by}
use Rattle.iso_modes.specs.declared.Mode.{Mode}
use Rattle.iso_types.specs.declared.head.Head.{Head}
use Rattle.iso_types.specs.declared.value.Name.TheVariants.{Row, Table}
use Rattle.iso_reads.specs.declared.outcomes.Looked.{Looked}
use Rattle.iso_reads.specs.declared.outcomes.Looked.TheVariants.{Pinned, Shown}

-- nothing is seen beside a change where there is none
pub none-beside : (w : World) (c : Conn) (t : TableId) (r : Rid) (want : Want) → is_changed_beside w c t r ≡ false → false ≡ is_beside w c t r want
none-beside w c t r Dirty e = refl
none-beside w c t r Current e = sym e
none-beside w c t r Want.Settled e = sym e
none-beside w c t r Steady e = sym e
none-beside w c t r Repeat e = sym e
none-beside w c t r Alter e = sym e
none-beside w c t r AlterKept e = sym e

-- what is beside a change is beside something pending
pub pending-beside : (w : World) (c : Conn) (t : TableId) (r : Rid) (want : Want) → is_beside w c t r want ≡ true → is_pending (versions w t r) ≡ true
pending-beside w c t r Dirty e = cc e
pending-beside w c t r Current e = beside-pending (unit_of w c) (versions w t r) e
pending-beside w c t r Want.Settled e = beside-pending (unit_of w c) (versions w t r) e
pending-beside w c t r Steady e = beside-pending (unit_of w c) (versions w t r) e
pending-beside w c t r Repeat e = beside-pending (unit_of w c) (versions w t r) e
pending-beside w c t r Alter e = beside-pending (unit_of w c) (versions w t r) e
pending-beside w c t r AlterKept e = beside-pending (unit_of w c) (versions w t r) e

viewed : (b is : Bool) (x y : Option (List Value)) → b ≡ is → (if is then x else y) ≡ (if b then x else y)
viewed b is x y e = rw e refl

-- what is shown is the committed row beside a change, and the present one where there is none
pub shown-by : (w : World) (c : Conn) (t : TableId) (r : Rid) (want : Want) (b : Bool) → is_beside w c t r want ≡ b
    → (if b then committed (versions w t r) else present (versions w t r)) ≡ shown w c t r want
shown-by w c t r Dirty true e = cc e
shown-by w c t r Dirty false e = refl
shown-by w c t r Current b e = viewed _ b (committed (versions w t r)) (present (versions w t r)) e
shown-by w c t r Want.Settled b e = viewed _ b (committed (versions w t r)) (present (versions w t r)) e
shown-by w c t r Steady b e = viewed _ b (committed (versions w t r)) (present (versions w t r)) e
shown-by w c t r Repeat b e = viewed _ b (committed (versions w t r)) (present (versions w t r)) e
shown-by w c t r Alter b e = viewed _ b (committed (versions w t r)) (present (versions w t r)) e
shown-by w c t r AlterKept b e = viewed _ b (committed (versions w t r)) (present (versions w t r)) e

-- the answer to a granted look is what it shows, or a pin of which that is rebuilt
pub seen-shows : (p : Content) (s : Stands p) (c : Conn) (t : TableId) (r : Rid) (want : Want)
    → Shows (seen p c t r want) (shown (world p.head p.history) c t r want)
seen-shows p s c t r want = go (is_beside (world p.head p.history) c t r want) refl
  where
    go : (b : Bool) → is_beside (world p.head p.history) c t r want ≡ b
        → Shows (if b then Pinned (pin_of p t r) else Shown (shown (world p.head p.history) c t r want)) (shown (world p.head p.history) c t r want)
    go true e = subst (λ (row : Option (List Value)). Shows (Pinned (pin_of p t r)) row) (shown-by (world p.head p.history) c t r want true e)
        (pin-shows p s t r (pending-beside (world p.head p.history) c t r want e))
    go false e = refl

-- at the lock limit nothing is shown
limited-shows : (a : Answer) (row : Option (List Value)) → Shows (limited a) row
limited-shows (Answer.Escalates t) row = tt
limited-shows (Answer.Refused code) row = tt
limited-shows Answer.TimedOut row = tt
limited-shows Answer.Queued row = tt
limited-shows Answer.Done row = tt

-- the answer to a look, by its outcome
pub by-shows : (p : Content) (s : Stands p) (c : Conn) (t : TableId) (r : Rid) (want : Want) (o : Outcome)
    → Shows (answer_by p c t r want o) (shown (world p.head p.history) c t r want)
by-shows p s c t r want (Gives Got.Granted) = seen-shows p s c t r want
by-shows p s c t r want (Gives (Got.Queued m)) = tt
by-shows p s c t r want (Gives Got.TimedOut) = tt
by-shows p s c t r want Limit = limited-shows (answer_of (at_limit p.head (world p.head p.history) c)) (shown (world p.head p.history) c t r want)

-- an answer that is this one shows what this one shows
pub still-ok : {E : Type 0} (made : Result Looked E) (a : Looked) (row : Option (List Value)) → Shows a row → IfOk made (λ x. x ≡ a)
    → IfOk made (λ x. Shows x row)
still-ok (Ok x) a row shows is = subst (λ (y : Looked). Shows y row) (sym is) shows
still-ok (Err e) a row shows is = tt

-- what comes at the limit
pub limit-comes : (head : Head) (w : World) (c : Conn) → comes_at_limit (answer_of (at_limit head w c)) ≡ true
limit-comes head w c = go (escalation head w c)
  where
    by : (t : TableId) (m : Mode) (o : Outcome) → comes_at_limit (answer_of (escalated_by t m o)) ≡ true
    by t m (Gives Got.Granted) = refl
    by t m (Gives (Got.Queued to)) = refl
    by t m (Gives Got.TimedOut) = refl
    by t m Limit = refl

    go : (o : Option (TableId × Mode)) → comes_at_limit (answer_of (limited_by head w c o)) ≡ true
    go None = refl
    go (Some p) = by p.0 p.1 (request head w c (Table p.0) p.1)

-- a look at a limit is one of a connection that is pressed
pub look-pressed : (head : Head) (w : World) (c : Conn) (t : TableId) (r : Rid) (want : Want) → look head w c t r want ≡ Limit
    → is_pressed head w c ≡ true
look-pressed head w c t r want outcome =
    pressed head w c (Row t r) (asked_mode want)
    (sym (outcome-is head w c t r want (ap (λ (o : Outcome). asks-by o) outcome)) ∙ outcome)
