-- No own entry of a statement is a Lock that is asked for on a key name alone.
use Rattle.std.proofs.Common.{◌≡◌, ℕ, Bool, true, false, not, List, [], ◌∷◌, ◌++◌, refl, ◌∙◌, subst, Option, Some, None, Ok, Err, Result, if◌then◌else◌, ap}
use Rattle.std.specs.Option.{option_map}
use Rattle.std.specs.Prelude.{IsTrue, nat_lt}
use Rattle.iso_conduct.specs.Conduct.{Conduct, ConductFrom, IsNext, MayIn, Rolls, closing_act, ends, heard, is_by, made, moved, moved_by, moved_in, opened, point_after, quiet, quieted, ready, statement_at, stops_for_memory}
use Rattle.iso_conduct.specs.Legal.{AreGuarded, IsLegal}
use Rattle.iso_conduct.specs.Outcomes.{act_of}
use Rattle.iso_history.specs.Outcomes.{asked_by, at_limit, blocked_by, escalated_by, last_record, limited_by, look_act, look_by, next_by, unless_full, written_by}
use Rattle.iso_conduct.specs.Parts.{Part, change_want, level_in, listed, new_row, scan, select_want}
use Rattle.iso_conduct.specs.Parts.Part.{Asks, Changes, EntryLook, Frees, IndexScan, Leaves, NewRow, Refuses, Replies, RowUpdate, TableScan}
use Rattle.iso_conduct.specs.Points.{Haul, Point, backed_up, behind, change_part, change_parts, due, due_by, ending, fault_code, found_rows, freeing, frees, looked_by as looked_at, opened_out, past_look, queued_up, row_due, rows_due, standing_at, start_point, told_all, told_point}
use Rattle.iso_conduct.specs.declared.moves.Move.{Move}
use Rattle.iso_conduct.specs.declared.moves.Told.{Told}
use Rattle.iso_history.proofs.pending.Conns.{conn-same}
use Rattle.iso_history.proofs.whole.Guarded.{holds-guarded, ranges-guarded, reads-guarded, rows-guarded, tables-guarded}
use Rattle.iso_history.specs.After.{after, start}
use Rattle.iso_history.specs.Gaps.{is_plain, is_plain_lock}
use Rattle.iso_history.specs.Legal.{By, ByDispatcher, Ground, GroundFrom}
use Rattle.iso_history.specs.Looks.{look}
use Rattle.iso_history.specs.Makers.{by_agent}
use Rattle.iso_history.specs.Nexts.{next}
use Rattle.iso_history.specs.Phases.{phase}
use Rattle.iso_history.specs.Scans.{AreChained, are_plain}
use Rattle.iso_history.specs.Stops.{is_full}
use Rattle.iso_history.specs.Versions.{slots}
use Rattle.iso_history.specs.declared.entry.Cause.TheVariants.{History, Memory}
use Rattle.iso_types.specs.declared.desk.Phase.{Phase}
use Rattle.iso_history.specs.Requests.{Outcome, escalation, request}
use Rattle.iso_history.specs.Requests.Outcome.{Gives, Limit}
use Rattle.iso_history.specs.World.{Setting, World}
use Rattle.iso_history.specs.Writes.{Written, deletes, inserts, minus, updates}
use Rattle.iso_history.specs.declared.entry.Act.{Act}
use Rattle.iso_history.specs.declared.entry.Act.TheVariants.{Lock, ScanEnd, Stopped}
use Rattle.iso_history.specs.declared.entry.Entry.{Entry}
use Rattle.iso_history.specs.declared.entry.Stand.{Stand}
use Rattle.iso_history.specs.declared.entry.Want.{Want}
use Rattle.iso_history.specs.declared.entry.Who.{Who}
use Rattle.iso_history.specs.declared.entry.Who.TheVariants.{Agent, Dispatcher}
use Rattle.iso_history.specs.declared.entry.Why.TheVariants.{Asked}
use Rattle.iso_modes.specs.declared.Mode.{Mode}
use Rattle.iso_predicate.specs.Assigned.{Fault, assigned, has_null}
use Rattle.iso_predicate.specs.Plan.{plan_of}
use Rattle.iso_predicate.specs.declared.plans.Path.{Path}
use Rattle.iso_script.specs.declared.script.Line.{Line}
use Rattle.iso_script.specs.declared.script.Script.{Script}
use Rattle.iso_types.specs.Head.{is_conn}
use Rattle.iso_sql.specs.Sound.{columns_of}
use Rattle.iso_sql.specs.declared.statement.Statement.{Statement}
use Rattle.iso_sql.specs.declared.statement.Statement.TheVariants as st
use Rattle.iso_types.specs.declared.head.Column.{Column}
use Rattle.iso_types.specs.declared.head.Head.{Head}
use Rattle.iso_types.specs.declared.head.Isolation.{Isolation}
use Rattle.iso_types.specs.declared.head.Range.{Range}
use Rattle.iso_types.specs.declared.value.Conn.{Conn}
use Rattle.iso_types.specs.declared.value.IndexId.{IndexId}
use Rattle.iso_types.specs.declared.value.Name.{Name}
use Rattle.iso_types.specs.declared.value.Name.TheVariants.{Table}
use Rattle.iso_types.specs.declared.value.Rid.{Rid}
use Rattle.iso_types.specs.declared.value.TableId.{TableId}
use Rattle.iso_types.specs.declared.value.Value.{Value}

-- ---- parts

-- the part asks for no lock on a key name
abbrev pub is_plain_part : Part → Bool
is_plain_part (Asks n m) = is_plain_lock Asked n
is_plain_part _ = true

-- none of these does
abbrev pub Plain : List Part → Type 0
Plain [] = Unit {0}
Plain (x ∷ xs) = (is_plain_part x ≡ true) × Plain xs

plain-append : (xs ys : List Part) → Plain xs → Plain ys → Plain (xs ++ ys)
plain-append [] ys h k = k
plain-append (x ∷ xs) ys h k = (h.0, plain-append xs ys h.1 k)

plain-behind : (ps : List Part) → Plain ps → Plain (behind ps)
plain-behind [] h = tt
plain-behind (x ∷ ps) h = h.1

plain-queued : (ps : List Part) → Plain ps → Plain (queued_up ps)
plain-queued [] h = (refl, tt)
plain-queued (Asks n m ∷ ps) h = (refl, h.1)
plain-queued (x ∷ ps) h = (refl, h)

plain-ending : (ps : List Part) → Plain (ending ps)
plain-ending [] = tt
plain-ending (Leaves code reason ∷ ps) = (refl, tt)
plain-ending (Replies code changed ∷ ps) = (refl, tt)
plain-ending (x ∷ ps) = plain-ending ps

plain-standing : (key : Value) (r : Rid) (ps : List Part) → Plain ps → Plain (standing_at key r ps)
plain-standing key r [] h = tt
plain-standing key r (IndexScan k at ∷ ps) h = (refl, h.1)
plain-standing key r (x ∷ ps) h = h

plain-backed : (o : Option ℕ) (ps : List Part) → Plain ps → Plain (backed_up o ps)
plain-backed (Some floor) ps h = (refl, plain-behind ps h)
plain-backed None ps h = (refl, tt)

plain-past_look : (ps : List Part) → Plain ps → Plain (past_look ps)
plain-past_look [] h = tt
plain-past_look (TableScan t want r ∷ ps) h = (refl, h.1)
plain-past_look (EntryLook k key r ∷ ps) h = (refl, h.1)
plain-past_look (x ∷ ps) h = h

plain-freeing : (ps : List Part) → Plain (freeing ps)
plain-freeing [] = tt
plain-freeing (TableScan t want r ∷ ps) = go (frees want)
  where
    go : (b : Bool) → Plain (if b then Frees t (record { 0 = r }) ∷ [] else [])
    go true = (refl, tt)
    go false = tt
plain-freeing (EntryLook k key r ∷ ps) = go (frees k.want)
  where
    go : (b : Bool) → Plain (if b then Frees k.table r ∷ [] else [])
    go true = (refl, tt)
    go false = tt
plain-freeing (x ∷ ps) = tt

plain-looked : (p : Point) (shown : Option (List Value)) (fresh keeps : Bool) → Plain p.left → Plain (looked_at p shown fresh keeps).left
plain-looked p shown fresh true h = plain-past_look p.left h
plain-looked p shown true false h = plain-append (freeing p.left) (past_look p.left) (plain-freeing p.left) (plain-past_look p.left h)
plain-looked p shown false false h = plain-past_look p.left h

plain-assigned : (t : TableId) (r : Rid) (o : Result (List Value) Fault)
    → is_plain_part (elim o [ Ok row ↦ RowUpdate t r row | Err fault ↦ Refuses (fault_code fault) ]) ≡ true
plain-assigned t r (Ok row) = refl
plain-assigned t r (Err fault) = refl

plain-change : (s : Statement) (columns : List Column) (t : TableId) (k : Rid × List Value) → is_plain_part (change_part s columns t k) ≡ true
plain-change (st.Update u sets cond level) columns t k = plain-assigned t k.0 (assigned columns sets.list k.1)
plain-change s columns t k = refl

plain-changes : (s : Statement) (columns : List Column) (t : TableId) (ks : List (Rid × List Value)) → Plain (change_parts s columns t ks)
plain-changes s columns t [] = tt
plain-changes s columns t (k ∷ ks) = (refl, (plain-change s columns t k, plain-changes s columns t ks))

plain-opened : (p : Point) (ps : List Part) → Plain ps → Plain (opened_out p ps)
plain-opened p [] h = tt
plain-opened p (Changes t ∷ ps) h =
    plain-append (change_parts p.statement p.columns t (found_rows p.kept)) ps (plain-changes p.statement p.columns t (found_rows p.kept)) h.1
plain-opened p (x ∷ ps) h = h

-- ---- points

plain-told : (p : Point) (t : Told) → Plain p.left → Plain (told_point p t).left
plain-told p Told.Done h = plain-behind p.left h
plain-told p Told.Granted h = plain-behind p.left h
plain-told p Told.Queued h = plain-queued p.left h
plain-told p Told.Blocked h = (refl, h)
plain-told p Told.TimedOut h = (refl, (refl, tt))
plain-told p (Told.Ended reason) h = (refl, (refl, tt))
plain-told p (Told.Escalates t) h = (refl, h)
plain-told p (Told.Refused code) h = (refl, (refl, tt))
plain-told p (Told.Shown shown fresh) h = plain-looked p shown fresh _ h
plain-told p Told.EndOfTable h = plain-opened p (behind p.left) (plain-behind p.left h)
plain-told p Told.Past h = plain-opened p (behind p.left) (plain-behind p.left h)
plain-told p (Told.At key r) h = plain-standing key r p.left h
plain-told p (Told.Undone true) h = h
plain-told p (Told.Undone false) h = plain-ending p.left
plain-told p (Told.Floor mark) h = plain-backed mark p.left h

plain-told_all : (p : Point) (ts : List Told) → Plain p.left → Plain (told_all p ts).left
plain-told_all p [] h = h
plain-told_all p (t ∷ ts) h = plain-told_all (told_point p t) ts (plain-told p t h)

plain-scan : (head : Head) (t : TableId) (want : Want) (level : Isolation) (path : Path) → is_plain_part (scan head t want level path) ≡ true
plain-scan head t want level Path.Table = refl
plain-scan head t want level (Path.Index i range) = refl

plain-new : (head : Head) (t : TableId) (row : List Value) → is_plain_part (new_row head t row) ≡ true
plain-new head t row = go (has_null (columns_of head t) row)
  where
    go : (b : Bool) → is_plain_part (if b then Refuses (minus 407) else NewRow t row) ≡ true
    go true = refl
    go false = refl

plain-listed : (head : Head) (c : Conn) (set : Setting) (s : Statement) → Plain (listed head c set s)
plain-listed head c set (st.Select t items cond level) =
    (refl, (plain-scan head t (select_want head.config.cur_commit (level_in set level)) (level_in set level) (plan_of head t cond), (refl, tt)))
plain-listed head c set (st.Update t sets cond level) =
    (refl, (plain-scan head t (change_want (level_in set level)) (level_in set level) (plan_of head t cond), (refl, (refl, tt))))
plain-listed head c set (st.Delete t cond level) =
    (refl, (plain-scan head t (change_want (level_in set level)) (level_in set level) (plan_of head t cond), (refl, (refl, tt))))
plain-listed head c set (st.Insert t row) = (refl, (plain-new head t row, (refl, tt)))
plain-listed head c set (st.LockTable t mode) = (refl, (refl, tt))
plain-listed head c set (st.Savepoint name) = (refl, (refl, tt))
plain-listed head c set (st.RollbackTo name) = (refl, (refl, tt))
plain-listed head c set st.Rollback = (refl, (refl, tt))
plain-listed head c set st.Commit = (refl, tt)
plain-listed head c set (st.SetIsolation level) = (refl, (refl, tt))
plain-listed head c set (st.SetWait may_wait) = (refl, (refl, tt))

-- the point, where there is one
abbrev pub PlainAt : Option Point → Type 0
PlainAt None = Unit {0}
PlainAt (Some p) = Plain p.left

plain-started : (head : Head) (c : Conn) (set : Setting) (floor : ℕ) (o : Option Statement) → PlainAt (option_map (start_point head c set floor) o)
plain-started head c set floor None = tt
plain-started head c set floor (Some s) = plain-listed head c set s

plain-begun : (head : Head) (lines : List Line) (w : World) (c : Conn) (o : Option Point) → PlainAt o → PlainAt (opened head lines w c o)
plain-begun head lines w c (Some p) h = h
plain-begun head lines w c None h = plain-started head c (w.setting c) (w.floor c) (statement_at lines c (w.line c))

-- the point once this is told, if anything
abbrev told_by : Point → Option Told → Point
told_by p o = elim o [ None ↦ p | Some t ↦ told_point p t ]

plain-told_by : (p : Point) (o : Option Told) → Plain p.left → Plain (told_by p o).left
plain-told_by p None h = h
plain-told_by p (Some t) h = plain-told p t h

plain-quieted : (w : World) (c : Conn) (p : Point) → Plain p.left → Plain (quieted w c p).left
plain-quieted w c p h = plain-told_by p (quiet w c (due p)) h

plain-mapped : (f : Point → Point) → ((p : Point) → Plain p.left → Plain (f p).left) → (o : Option Point) → PlainAt o → PlainAt (option_map f o)
plain-mapped f step None h = tt
plain-mapped f step (Some p) h = step p h

plain-ready : (head : Head) (lines : List Line) (w : World) (c : Conn) (o : Option Point) → PlainAt o → PlainAt (ready head lines w c o)
plain-ready head lines w c o h = plain-mapped (λ p. quieted w c (quieted w c p))
    (λ p k. plain-quieted w c (quieted w c p) (plain-quieted w c p k)) (opened head lines w c o) (plain-begun head lines w c o h)

-- ---- entries

-- a move that asks for no lock on a key name
abbrev pub is_plain_move : Move → Bool
is_plain_move (Move.Lock n m) = is_plain_lock Asked n
is_plain_move _ = true

plain-due : (kept : Haul) (ps : List Part) → Plain ps → is_plain_move (due_by kept ps) ≡ true
plain-due kept [] h = refl
plain-due kept (Asks n m ∷ ps) h = h.0
plain-due kept (x ∷ ps) h = refl

module _ (head : Head) (w : World) (c : Conn) where
  plain-escalated : (t : TableId) (m : Mode) (o : Outcome) → is_plain (escalated_by t m o) ≡ true
  plain-escalated t m (Gives got) = refl
  plain-escalated t m Limit = refl

  plain-limited : (o : Option (TableId × Mode)) → is_plain (limited_by head w c o) ≡ true
  plain-limited None = refl
  plain-limited (Some p) = plain-escalated p.0 p.1 (request head w c (Table p.0) p.1)

  plain-limit : is_plain (at_limit head w c) ≡ true
  plain-limit = plain-limited (escalation head w c)

  plain-asked : (n : Name) (m : Mode) (o : Outcome) → is_plain_lock Asked n ≡ true → is_plain (asked_by head w c n m o) ≡ true
  plain-asked n m (Gives got) h = h
  plain-asked n m Limit h = plain-limit

  plain-blocked : (n : Name) (m : Mode) (o : Outcome) → is_plain (blocked_by head w c n m o) ≡ true
  plain-blocked n m (Gives got) = refl
  plain-blocked n m Limit = plain-limit

  plain-seen : (t : TableId) (r : Rid) (want : Want) (o : Outcome) → is_plain (look_by head w c t r want o) ≡ true
  plain-seen t r want (Gives got) = refl
  plain-seen t r want Limit = plain-limit

  plain-look : (t : TableId) (r : Rid) (want : Want) → is_plain (look_act head w c t r want) ≡ true
  plain-look t r want = go (nat_lt r.0 (slots w t))
    where
      go : (b : Bool) → is_plain (if b then look_by head w c t r want (look head w c t r want) else ScanEnd t (slots w t)) ≡ true
      go true = plain-seen t r want (look head w c t r want)
      go false = refl

  plain-next : (i : IndexId) (range : Range) (at : Option (Value × Rid)) (guarded : Bool) (o : Option Stand)
      → is_plain (next_by head w c i range at guarded o) ≡ true
  plain-next i range at guarded (Some stand) = refl
  plain-next i range at guarded None = plain-limit

  plain-written : (a : Act) (o : Written) → is_plain a ≡ true → is_plain (written_by head w c a o) ≡ true
  plain-written a Written.Done h = h
  plain-written a Written.IsFull h = refl
  plain-written a (Written.Refuses code) h = refl
  plain-written a (Written.Blocks n m) h = plain-blocked n m (request head w c n m)
  plain-written a Written.AtLimit h = plain-limit

  plain-act : (row : List Value) (rows : List (List Value)) (mv : Move) → is_plain_move mv ≡ true → is_plain (act_of head w c row rows mv) ≡ true
  plain-act row rows (Move.Lock n m) h = plain-asked n m (request head w c n m) h
  plain-act row rows (Move.Look t r want) h = plain-look t r want
  plain-act row rows (Move.Next i range at guarded) h = plain-next i range at guarded (next head w c i range at guarded)
  plain-act row rows (Move.Insert t) h = plain-written _ (inserts head w c t row) refl
  plain-act row rows (Move.Update t r) h = plain-written _ (updates head w c t r row) refl
  plain-act row rows (Move.Delete t r) h = plain-written _ (deletes head w c) refl
  plain-act row rows _ h = refl

  plain-unless : (a : Act) → is_plain a ≡ true → is_plain (unless_full head w c a) ≡ true
  plain-unless a h = go (is_full head w (by_agent c a))
    where
      go : (b : Bool) → is_plain (if b then Stopped History else a) ≡ true
      go true = refl
      go false = h

  -- the entry of the step that is due
  plain-made : (p : Point) → Plain p.left → is_plain (made head w c p) ≡ true
  plain-made p h = plain-unless (act_of head w c (row_due p) (rows_due p) (due p)) (plain-act (row_due p) (rows_due p) (due p) (plain-due p.kept p.left h))

  plain-stop : (a : Act) → stops_for_memory a ≡ true → is_plain a ≡ true
  plain-stop (Stopped Memory) h = refl
  plain-stop (Lock n m term why got) h = cc
  plain-stop _ h = cc

  plain-next_one : (o : Option Point) (a : Act) → PlainAt o → IsNext head w c o a → is_plain a ≡ true
  plain-next_one None a h k = plain-stop a k
  plain-next_one (Some p) a h k = go (stops_for_memory a) refl
    where
      go : (b : Bool) → stops_for_memory a ≡ b → is_plain a ≡ true
      go true e = plain-stop a e
      go false e = subst (λ (z : Act). is_plain z ≡ true) (k (ap not e)) (plain-made p h)

  plain-rolls : (o : Option Point) (a : Act) → PlainAt o → Rolls head w c o a → is_plain a ≡ true
  plain-rolls None a h k = absurd k
  plain-rolls (Some p) a h k = subst (λ (z : Act). is_plain z ≡ true) k (plain-made p h)

  plain-closing : (o : Option ℕ) → is_plain (closing_act o) ≡ true
  plain-closing None = refl
  plain-closing (Some n) = refl

  -- an own entry
  plain-in : (lines : List Line) (phase : Phase) (o : Option Point) (a : Act) → PlainAt o → MayIn phase head lines w c o a → is_plain a ≡ true
  plain-in lines Phase.Running o a h k = plain-next_one (ready head lines w c o) a (plain-ready head lines w c o h) k
  plain-in lines Phase.Waiting o a h k = plain-next_one (ready head lines w c o) a (plain-ready head lines w c o h) k
  plain-in lines Phase.Rolling o a h k = plain-rolls (ready head lines w c o) a (plain-ready head lines w c o h) k
  plain-in lines Phase.Closing o a h k = subst (λ (z : Act). is_plain z ≡ true) k (plain-closing (last_record w c))
  plain-in lines _ o a h k = absurd k

-- ---- along a history

plain-heard : (o : Option Point) (ts : List Told) → PlainAt o → PlainAt (option_map (λ p. told_all p ts) o)
plain-heard o ts h = plain-mapped (λ p. told_all p ts) (λ p k. plain-told_all p ts k) o h

plain-moved_by : (b : Bool) (w v : World) (c : Conn) (o : Option Point) (a : Act) → PlainAt o → PlainAt (moved_by b w v c o a)
plain-moved_by true w v c o a h = tt
plain-moved_by false w v c o a h = plain-heard o (heard w v c a) h

plain-moved_in : (phase : Phase) (head : Head) (lines : List Line) (w v : World) (c : Conn) (o : Option Point) (a : Act) → PlainAt o
    → PlainAt (moved_in phase head lines w v c o a)
plain-moved_in Phase.Closing head lines w v c o a h = tt
plain-moved_in Phase.Running head lines w v c o a h = plain-moved_by (ends a) w v c (ready head lines w c o) a (plain-ready head lines w c o h)
plain-moved_in _ head lines w v c o a h = plain-moved_by (ends a) w v c (ready head lines w c o) a (plain-ready head lines w c o h)

plain-after : (head : Head) (lines : List Line) (w : World) (c : Conn) (o : Option Point) (e : Entry) → PlainAt o → PlainAt (point_after head lines w c o e)
plain-after head lines w c o e h = go (is_by c e.who)
  where
    go : (b : Bool) → PlainAt (if b then moved head lines w (after head w e) c o e.act else o)
    go true = plain-moved_in (phase w c) head lines w (after head w e) c o e.act h
    go false = h

-- the own entries of the connection are plain
abbrev pub OwnPlain : Conn → List Entry → Type 0
OwnPlain c [] = Unit {0}
OwnPlain c (e ∷ es) = (is_by c e.who ≡ true → is_plain e.act ≡ true) × OwnPlain c es

pub plain-from : (head : Head) (lines : List Line) (w : World) (c : Conn) (o : Option Point) (es : List Entry) → PlainAt o
    → ConductFrom head lines w c o es → OwnPlain c es
unfolding ConductFrom
plain-from head lines w c o [] h k = tt
plain-from head lines w c o (e ∷ es) h k = (
  (λ own. plain-in head w c lines (phase w c) o e.act h (k.0 own)),
  plain-from head lines (after head w e) c (point_after head lines w c o e) es (plain-after head lines w c o e h) k.1,
)

plain-dispatcher : (head : Head) (w : World) (a : Act) → ByDispatcher head w a → is_plain a ≡ true
plain-dispatcher head w (Lock n m term why got) al = absurd al
plain-dispatcher head w _ al = refl

-- so all entries are, where each connection keeps to its statements
pub plain-all : (head : Head) (w : World) (es : List Entry) → GroundFrom head w es → ((c : Conn) → IsTrue (is_conn head c) → OwnPlain c es)
    → are_plain es ≡ true
unfolding GroundFrom
plain-all head w [] g h = refl
plain-all head w (e ∷ es) g h = both (own e.who refl g.0.2) (plain-all head (after head w e) es g.1 (λ c is. (h c is).1))
  where
    both : is_plain e.act ≡ true → are_plain es ≡ true → are_plain (e ∷ es) ≡ true
    both p q = rw (p, q) refl

    own : (who : Who) → e.who ≡ who → By head w who e.act → is_plain e.act ≡ true
    own Dispatcher is by = plain-dispatcher head w e.act by
    own (Agent c) is by = (h c by.0).0 (ap (is_by c) is ∙ conn-same c)

-- no entry of a legal history is a Lock that is asked for on a key name alone
pub legal-plain : (script : Script) (es : List Entry) → IsLegal script es → are_plain es ≡ true
unfolding Ground Conduct
legal-plain script es legal = plain-all script.head (start script.head) es legal.ground
    (λ c is. plain-from script.head script.lines (start script.head) c None es tt (legal.conduct c is))

-- the five guards of a legal history, where its guarded Nexts are chained
pub legal-guarded : (script : Script) (es : List Entry) → IsLegal script es → AreChained script.head es → AreGuarded script es
legal-guarded script es legal chained = record {
  holds = holds-guarded script.head es legal.ground;
  reads = reads-guarded script.head es legal.ground;
  rows = rows-guarded script.head es legal.ground;
  tables = tables-guarded script.head es legal.ground;
  ranges = ranges-guarded script.head es legal.ground (legal-plain script es legal) chained;
}
