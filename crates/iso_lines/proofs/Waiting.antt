-- Who waits in a line after a call, and what it keeps of other connections.
use Rattle.std.proofs.Common.{◌≡◌, Bool, true, false, not, ◌||◌, List, Option, None, Some, refl, sym, ap, ◌∙◌, if◌then◌else◌, true≢false}
use Rattle.std.specs.Option.{option_map_or}
use Rattle.iso_modes.specs.declared.Mode.{Mode}
use Rattle.iso_modes.specs.declared.Term.{Term}
use Rattle.iso_queue.specs.Lines.{Line, asked, granted, has_edge, is_granted, is_waiter, queued, taken_in, unqueued, wait_for, waiter_of}
use Rattle.iso_queue.specs.declared.types.Waiter.{Waiter}
use Rattle.iso_types.specs.Ids.{conn_eq}
use Rattle.iso_types.specs.declared.value.Conn.{Conn}
use Rattle.iso_types.specs.declared.value.TableId.{TableId}
use Rattle.iso_types.specs.declared.value.Name.{Name}
use Rattle.iso_lines.proofs.Long.{asked_long, changed_long}
use Rattle.iso_lines.proofs.Loose.{any_left, changed_at_hand, far_request}
use Rattle.iso_lines.proofs.Parts.{asked_other, changed_other, of_waiter, queued_other, some_found}
use Rattle.iso_lines.proofs.Seated.{Rests, rests_same}
use Rattle.iso_lines.specs.Named.{changed}
use Rattle.iso_lines.specs.Tasks.{change_on, done_by, worked}
use Rattle.iso_lines.specs.Weighs.{is_long}
use Rattle.iso_lines.specs.declared.lines.Change.{Change}
use Rattle.iso_lines.specs.declared.tasks.Task.{Task}

-- who is left of those who waited waited
left_waits : (c d : Conn) (ws : List Waiter) → is_waiter (unqueued c ws) d ≡ true → is_waiter ws d ≡ true
left_waits c d ws h =
    some_found (of_waiter d) ws
    ∙ any_left (of_waiter d) (λ w. not (conn_eq w.conn c)) ws (sym (some_found (of_waiter d) (unqueued c ws)) ∙ h)

abbrev one_of : Bool → Line → Line → Line
one_of b q r = if b then q else r

claimed_waits : (q : Line) (c d : Conn) (o : Option Waiter)
    → is_waiter (option_map_or (λ x. if has_edge q.holders q.waiters x then q else taken_in q c x) o q).waiters d ≡ true → is_waiter q.waiters d ≡ true
claimed_waits q c d None h = h
claimed_waits q c d (Some x) h = by (has_edge q.holders q.waiters x) h
  where
    by : (b : Bool) → is_waiter (one_of b q (taken_in q c x)).waiters d ≡ true → is_waiter q.waiters d ≡ true
    by true g = g
    by false g = left_waits c d q.waiters g

-- nobody waits after a change who did not before
pub changed_waiting : (change : Change) (q : Line) (c d : Conn) → is_waiter (changed change c q).waiters d ≡ true → is_waiter q.waiters d ≡ true
changed_waiting Change.Release q c d h = h
changed_waiting Change.Cancel q c d h = left_waits c d q.waiters h
changed_waiting (Change.Settle s) q c d h = h
changed_waiting Change.Claim q c d h = claimed_waits q c d (waiter_of q.waiters c) h

asked_waits : (q : Line) (c : Conn) (m : Mode) (t : Term) (d : Conn) → conn_eq c d ≡ false → (b : Bool)
    → is_waiter (one_of b (record { holders = granted q.holders (record { conn = c; mode = m; term = t }); waiters = q.waiters })
    (record { holders = q.holders; waiters = queued q.holders (wait_for q.holders c m t) q.waiters })).waiters d ≡ true → is_waiter q.waiters d ≡ true
asked_waits q c m t d apart true h = h
asked_waits q c m t d apart false h =
    some_found (of_waiter d) q.waiters ∙ sym (queued_other q.holders (wait_for q.holders c m t) q.waiters d apart)
    ∙ sym (some_found (of_waiter d) (queued q.holders (wait_for q.holders c m t) q.waiters)) ∙ h

-- what a request leaves of another connection
pub asked_rests : (q : Line) (c : Conn) (m : Mode) (t : Term) (d : Conn) → conn_eq c d ≡ false → Rests q (asked q c m t) d
asked_rests q c m t d apart = record {
  touched = asked_other q c m t d apart;
  at_hand = far_request q c m t d apart;
  waiting = asked_waits q c m t d apart (is_granted q c m);
  long = ap is_long (asked_long c d apart q m t);
}

-- what a change leaves of another connection
pub changed_rests : (change : Change) (q : Line) (c d : Conn) → conn_eq c d ≡ false → Rests q (changed change c q) d
changed_rests change q c d apart = record {
  touched = changed_other change q c d apart;
  at_hand = changed_at_hand change q c d;
  waiting = changed_waiting change q c d;
  long = ap is_long (changed_long c d apart change q);
}

done_rests : (o : Option Change) (q : Line) (c d : Conn) → conn_eq c d ≡ false → Rests q (done_by o c q) d
done_rests None q c d apart = rests_same q q d refl
done_rests (Some x) q c d apart = changed_rests x q c d apart

-- what a task leaves of another connection
pub worked_rests : (tables : List TableId) (task : Task) (c : Conn) (n : Name) (q : Line) (d : Conn) → conn_eq c d ≡ false → Rests q (worked tables task c n q) d
worked_rests tables task c n q d apart = done_rests (change_on tables task n) q c d apart

done_waiting : (o : Option Change) (q : Line) (c d : Conn) → is_waiter (done_by o c q).waiters d ≡ true → is_waiter q.waiters d ≡ true
done_waiting None q c d h = h
done_waiting (Some x) q c d h = changed_waiting x q c d h

pub worked_waiting : (tables : List TableId) (task : Task) (c : Conn) (n : Name) (q : Line) (d : Conn) → is_waiter (worked tables task c n q).waiters d ≡ true → is_waiter q.waiters d ≡ true
worked_waiting tables task c n q d h = done_waiting (change_on tables task n) q c d h

-- what must be there is there
pub in_there : (w there : Bool) → w ≡ true → (not w || there) ≡ true → there ≡ true
in_there true there e h = h
in_there false there e h = absurd (true≢false (sym e))

-- and where it need not be, it is kept
pub unless_there : (k w there : Bool) → w ≡ not k → (not w || there) ≡ true → (k || there) ≡ true
unless_there true w there e h = refl
unless_there false w there e h = in_there w there e h
