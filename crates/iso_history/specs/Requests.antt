-- Requests and the lock limit.
use Rattle.std.specs.Option.{option_map, option_map_or}
use Rattle.std.specs.Prelude.{ℕ, Bool, true, false, not, ◌&&◌, ◌||◌, if◌then◌else◌, nat_lt, Option}
use Rattle.iso_history.specs.Entries.{has_key}
use Rattle.iso_history.specs.Versions.{slots}
use Rattle.iso_history.specs.World.{World}
use Rattle.iso_history.specs.declared.entry.Got.{Got}
use Rattle.iso_modes.specs.Modes.{escalated, mode_eq}
use Rattle.iso_modes.specs.declared.Mode.{Mode}
use Rattle.iso_modes.specs.declared.Mode.TheVariants.{Is, Ix, Ns, Nw, S, Six, U, X}
use Rattle.iso_modes.specs.declared.Term.TheVariants.{Brief}
use Rattle.iso_queue.specs.Limits.{is_at_limit, prey}
use Rattle.iso_queue.specs.Locks.{held, holds_at_least, is_covered, is_held, target}
use Rattle.iso_queue.specs.Queues.{Wait, would_wait}
use Rattle.iso_types.specs.Head.{is_index, is_table, table_of}
use Rattle.iso_types.specs.declared.head.Head.{Head}
use Rattle.iso_types.specs.declared.value.Conn.{Conn}
use Rattle.iso_types.specs.declared.value.Name.{Name}
use Rattle.iso_types.specs.declared.value.Name.TheVariants.{End, Key, Row, Table}
use Rattle.iso_types.specs.declared.value.TableId.{TableId}

-- the outcome of a request: what the entry records, or that it is at the limit
pub data Outcome : Type 0 where
  Gives : (got : Got) → Outcome
  Limit : Outcome

-- the name is there: a table, a slot, a key with an entry, an index
abbrev pub is_there : Head → World → Name → Bool
is_there head w (Table t) = is_table head t
is_there head w (Row t r) = nat_lt r.0 (slots w t)
is_there head w (Key i v) = has_key w i v
is_there head w (End i) = is_index head i

-- the modes that a table name is asked for, and those that a row or key name is asked for
unfoldable pub is_table_mode : Mode → Bool
is_table_mode Ns = false
is_table_mode Six = false
is_table_mode U = false
is_table_mode Nw = false
is_table_mode _ = true

-- the mode may be asked of a row or key
unfoldable pub is_row_mode : Mode → Bool
is_row_mode Ns = true
is_row_mode S = true
is_row_mode U = true
is_row_mode X = true
is_row_mode Nw = true
is_row_mode _ = false

-- the mode may be asked of the name
abbrev pub suits : Name → Mode → Bool
suits (Table t) m = is_table_mode m
suits n m = is_row_mode m

-- what the table has to be held in, at least: IX for U, X and NW, else IS
unfoldable pub table_mode : Mode → Mode
table_mode U = Ix
table_mode X = Ix
table_mode Nw = Ix
table_mode _ = Is

-- the connection holds enough on the name's table
abbrev pub is_backed : Head → World → Conn → Name → Mode → Bool
is_backed head w c n m = option_map_or (λ t. holds_at_least w.holds c (Table t) (table_mode m)) (table_of head n) true

-- a request may stand
abbrev pub may_ask : Head → World → Conn → Name → Mode → Bool
may_ask head w c n m = is_there head w n && (suits n m && (is_covered head w.holds c n m || is_backed head w c n m))

-- the request as a wait
abbrev pub asking : World → Conn → Name → Mode → Wait
asking w c n m = record { name = n; conn = c; target = target w.holds c n m; term = Brief }

-- covered, or its target is the held mode
abbrev pub is_had : Head → World → Conn → Name → Mode → Bool
is_had head w c n m =
    is_covered head w.holds c n m || option_map_or (mode_eq (target w.holds c n m)) (held w.holds c n) false

-- 1 for a name not held, else 0
abbrev pub need_of : World → Conn → Name → ℕ
need_of w c n = if is_held w.holds c n then 0 else 1

-- a need of k names is at the limit
abbrev pub is_limited : Head → World → Conn → ℕ → Bool
is_limited head w c k = is_at_limit head w.holds w.waits c k

-- the outcome of a request of the connection for the mode on the name is the first that fits
abbrev pub request : Head → World → Conn → Name → Mode → Outcome
request head w c n m =
    if is_had head w c n m then Gives Got.Granted else
    if is_limited head w c (need_of w c n) then Limit else
    if not (would_wait w.holds w.waits (asking w c n m)) then Gives Got.Granted else
    if (w.setting c).may_wait then Gives (Got.Queued (target w.holds c n m)) else Gives Got.TimedOut

-- some need of an insertion or of a request is at the limit: at most one row and four keys
abbrev pub is_pressed : Head → World → Conn → Bool
is_pressed head w c = is_limited head w c 5

-- the prey, with the mode of its escalation
abbrev pub escalation : Head → World → Conn → Option (TableId × Mode)
escalation head w c = option_map (λ t. (t, option_map_or escalated (held w.holds c (Table t)) X)) (prey head w.holds c)
