-- The Nexts of a guarded scan follow each other in every history in which the connection keeps to its statements.
use Rattle.std.proofs.Common.{◌≡◌, ◌+◌, ℕ, zero, suc, Bool, true, false, not, ◌&&◌, List, [], ◌∷◌, refl, ap, sym, ◌∙◌, subst, arith, Option, Some, None, if◌then◌else◌}
use Rattle.std.specs.Option.{option_map}
use Rattle.std.specs.Prelude.{nat_lt, slice_get}
use Rattle.iso_conduct.proofs.Plain.{legal-guarded}
use Rattle.iso_conduct.proofs.Walks.{AllGood, AtOk, HeardOk, LookOk, PointGood, Seen, Stood, good-more, good-ready, good-told_all, no_end-more, no_end-none}
use Rattle.iso_conduct.specs.Conduct.{Conduct, ConductFrom, IsNext, MayIn, Rolls, closing_act, ends, heard, heard_lock, is_by, made, moved, moved_by, moved_in, point_after, ready, stops_for_memory}
use Rattle.iso_conduct.specs.Legal.{AreGuarded, IsLegal}
use Rattle.iso_conduct.specs.Outcomes.{act_of}
use Rattle.iso_history.specs.Outcomes.{asked_by, at_limit, blocked_by, escalated_by, last_record, limited_by, look_act, look_by, next_by, unless_full, written_by}
use Rattle.iso_conduct.specs.Parts.{Part, Walk}
use Rattle.iso_conduct.specs.Parts.Part.{EntryLook, IndexScan}
use Rattle.iso_conduct.specs.Points.{Haul, Point, due, due_by, row_due, rows_due, told_all}
use Rattle.iso_conduct.specs.declared.moves.Move.{Move}
use Rattle.iso_history.proofs.pending.Conns.{conn-is, conn-same}
use Rattle.iso_history.proofs.pending.Prefixes.{at-entry}
use Rattle.iso_history.specs.After.{after, start}
use Rattle.iso_history.specs.Guards.{ends_unit, is_end}
use Rattle.iso_history.specs.Legal.{Ground}
use Rattle.iso_history.specs.Looks.{look}
use Rattle.iso_history.specs.Makers.{by_agent}
use Rattle.iso_history.specs.Nexts.{next}
use Rattle.iso_history.specs.Phases.{phase}
use Rattle.iso_history.specs.Requests.{Outcome, escalation, request}
use Rattle.iso_history.specs.Requests.Outcome.{Gives, Limit}
use Rattle.iso_history.specs.Scans.{AreChained, IsChained}
use Rattle.iso_history.specs.Stops.{is_full}
use Rattle.iso_history.specs.Versions.{slots}
use Rattle.iso_history.specs.World.{World}
use Rattle.iso_history.specs.Writes.{Written, deletes, inserts, updates}
use Rattle.iso_history.specs.declared.entry.Act.{Act}
use Rattle.iso_history.specs.declared.entry.Act.TheVariants.{Back, Claim, Collapse, Commit, Delete, Free, Insert, Lock, Look, Mark, Next, Refused, Rollback, ScanEnd, Set, Stopped, Undo, Update}
use Rattle.iso_history.specs.declared.entry.Cause.TheVariants.{History}
use Rattle.iso_history.specs.declared.entry.Entry.{Entry}
use Rattle.iso_history.specs.declared.entry.Got.{Got}
use Rattle.iso_history.specs.declared.entry.Stand.{Stand}
use Rattle.iso_history.specs.declared.entry.Stand.TheVariants.{At, Past}
use Rattle.iso_history.specs.declared.entry.Want.{Want}
use Rattle.iso_history.specs.declared.entry.Who.{Who}
use Rattle.iso_history.specs.declared.entry.Who.TheVariants.{Agent, Dispatcher}
use Rattle.iso_history.specs.declared.entry.Why.{Why}
use Rattle.iso_history.specs.declared.entry.Why.TheVariants.{Asked, Blocked, Escalation}
use Rattle.iso_modes.specs.declared.Mode.{Mode}
use Rattle.iso_script.specs.declared.script.Line.{Line}
use Rattle.iso_script.specs.declared.script.Script.{Script}
use Rattle.iso_types.specs.Head.{table_of_index}
use Rattle.iso_types.specs.Ids.{conn_eq}
use Rattle.iso_types.specs.declared.desk.Phase.{Phase}
use Rattle.iso_types.specs.declared.head.Head.{Head}
use Rattle.iso_types.specs.declared.head.Range.{Range}
use Rattle.iso_types.specs.declared.value.Conn.{Conn}
use Rattle.iso_types.specs.declared.value.IndexId.{IndexId}
use Rattle.iso_types.specs.declared.value.Name.{Name}
use Rattle.iso_types.specs.declared.value.Name.TheVariants.{End, Key, Row, Table}
use Rattle.iso_types.specs.declared.value.Rid.{Rid}
use Rattle.iso_types.specs.declared.value.TableId.{TableId}
use Rattle.iso_types.specs.declared.value.Value.{Value}

-- ---- the entry of a move: a Next and a look have their move's arguments

abbrev pub Made : Move → Act → Type 0
Made mv (Next i range at guarded got) = mv ≡ Move.Next i range at guarded
Made mv (Look t r want got) = mv ≡ Move.Look t r want
Made mv _ = Unit {0}

module _ (head : Head) (w : World) (c : Conn) (mv : Move) where
  made-escalated : (t : TableId) (m : Mode) (o : Outcome) → Made mv (escalated_by t m o)
  made-escalated t m (Gives got) = tt
  made-escalated t m Limit = tt

  made-limited : (o : Option (TableId × Mode)) → Made mv (limited_by head w c o)
  made-limited None = tt
  made-limited (Some p) = made-escalated p.0 p.1 (request head w c (Table p.0) p.1)

  made-limit : Made mv (at_limit head w c)
  made-limit = made-limited (escalation head w c)

  made-asked : (n : Name) (m : Mode) (o : Outcome) → Made mv (asked_by head w c n m o)
  made-asked n m (Gives got) = tt
  made-asked n m Limit = made-limit

  made-blocked : (n : Name) (m : Mode) (o : Outcome) → Made mv (blocked_by head w c n m o)
  made-blocked n m (Gives got) = tt
  made-blocked n m Limit = made-limit

  made-seen : (t : TableId) (r : Rid) (want : Want) (o : Outcome) → mv ≡ Move.Look t r want → Made mv (look_by head w c t r want o)
  made-seen t r want (Gives got) e = e
  made-seen t r want Limit e = made-limit

  made-look : (t : TableId) (r : Rid) (want : Want) → mv ≡ Move.Look t r want → Made mv (look_act head w c t r want)
  made-look t r want e = go (nat_lt r.0 (slots w t))
    where
      go : (b : Bool) → Made mv (if b then look_by head w c t r want (look head w c t r want) else ScanEnd t (slots w t))
      go true = made-seen t r want (look head w c t r want) e
      go false = tt

  made-next : (i : IndexId) (range : Range) (at : Option (Value × Rid)) (guarded : Bool) (o : Option Stand) → mv ≡ Move.Next i range at guarded
      → Made mv (next_by head w c i range at guarded o)
  made-next i range at guarded (Some stand) e = e
  made-next i range at guarded None e = made-limit

  made-written : (a : Act) (o : Written) → Made mv a → Made mv (written_by head w c a o)
  made-written a Written.Done h = h
  made-written a Written.IsFull h = tt
  made-written a (Written.Refuses code) h = tt
  made-written a (Written.Blocks n m) h = made-blocked n m (request head w c n m)
  made-written a Written.AtLimit h = made-limit

  made-unless : (a : Act) → Made mv a → Made mv (unless_full head w c a)
  made-unless a h = go (is_full head w (by_agent c a))
    where
      go : (b : Bool) → Made mv (if b then Stopped History else a)
      go true = tt
      go false = h

made-act : (head : Head) (w : World) (c : Conn) (row : List Value) (rows : List (List Value)) (mv : Move) → Made mv (act_of head w c row rows mv)
made-act head w c row rows (Move.Lock n m) = made-asked head w c (Move.Lock n m) n m (request head w c n m)
made-act head w c row rows (Move.Look t r want) = made-look head w c (Move.Look t r want) t r want refl
made-act head w c row rows (Move.Next i range at guarded) =
    made-next head w c (Move.Next i range at guarded) i range at guarded (next head w c i range at guarded) refl
made-act head w c row rows (Move.Insert t) = made-written head w c (Move.Insert t) _ (inserts head w c t row) tt
made-act head w c row rows (Move.Update t r) = made-written head w c (Move.Update t r) _ (updates head w c t r row) tt
made-act head w c row rows (Move.Delete t r) = made-written head w c (Move.Delete t r) _ (deletes head w c) tt
made-act head w c row rows _ = tt

pub made-of : (head : Head) (w : World) (c : Conn) (p : Point) → Made (due p) (made head w c p)
made-of head w c p = made-unless head w c (due p) (act_of head w c (row_due p) (rows_due p) (due p)) (made-act head w c (row_due p) (rows_due p) (due p))

-- of the point, where there is one
abbrev pub MadeAt : Option Point → Act → Type 0
MadeAt None a = Unit {0}
MadeAt (Some p) a = Made (due p) a

made-stop : (mv : Move) (a : Act) → stops_for_memory a ≡ true → Made mv a
made-stop mv (Next i range at guarded got) h = absurd (cc)
made-stop mv (Look t r want got) h = absurd (cc)
made-stop mv _ h = tt

made-is_next : (head : Head) (w : World) (c : Conn) (o : Option Point) (a : Act) → IsNext head w c o a → MadeAt o a
made-is_next head w c None a k = tt
made-is_next head w c (Some p) a k = go (stops_for_memory a) refl
  where
    go : (b : Bool) → stops_for_memory a ≡ b → Made (due p) a
    go true e = made-stop (due p) a e
    go false e = subst (Made (due p)) (k (ap not e)) (made-of head w c p)

made-rolls : (head : Head) (w : World) (c : Conn) (o : Option Point) (a : Act) → Rolls head w c o a → MadeAt o a
made-rolls head w c None a k = absurd k
made-rolls head w c (Some p) a k = subst (Made (due p)) k (made-of head w c p)

-- ---- what is heard of an own entry

abbrev next_act : Value → Rid → Move → Act
next_act key r (Move.Next i range at guarded) = Next i range at guarded (At key r)
next_act key r _ = Claim

abbrev look_made : Move → Act
look_made (Move.Look t r want) = Look t r want Got.Granted
look_made _ = Claim

module _ (head : Head) (es : List Entry) (c : Conn) (n : ℕ) where
  entry-is : (a b : Act) → a ≡ b → slice_get es n ≡ Some (by_agent c b) → slice_get es n ≡ Some (by_agent c a)
  entry-is a b e h = h ∙ ap (λ (z : Act). Some (by_agent c z)) (sym e)

  module _ (p : Point) (a : Act) (here : slice_get es n ≡ Some (by_agent c a)) (goes : ends_unit c (by_agent c a) ≡ false) where
    at-ok : (i : IndexId) (range : Range) (at : Option (Value × Rid)) (guarded : Bool) (key : Value) (r : Rid) → a ≡ Next i range at guarded (At key r)
        → due p ≡ Move.Next i range at guarded → AtOk head es c (n + 1) key r p.left
    at-ok i range at guarded key r is mv k from rest left g =
        let m : Move.Next k.index k.range from k.guarded ≡ Move.Next i range at guarded = sym (ap (due_by p.kept) left) ∙ mv in
        let same : Next k.index k.range from true (At key r) ≡ a =
        ap (λ (b : Bool). Next k.index k.range from b (At key r)) (sym g) ∙ ap (next_act key r) m ∙ sym is in
        record {
          next = n;
          at = from;
          first = omega arith;
          stands = entry-is (Next k.index k.range from true (At key r)) a same here;
          one_unit = no_end-more c es n n (by_agent c a) here goes (no_end-none c es n);
        }

    look-ok : (t : TableId) (r : Rid) (want : Want) → a ≡ Look t r want Got.Granted → due p ≡ Move.Look t r want → AllGood head es c n p.left
        → LookOk head es c (n + 1) p.left
    look-ok t r want is mv h k key s rest left g =
        let m : Move.Look k.table s k.want ≡ Move.Look t r want = sym (ap (due_by p.kept) left) ∙ mv in
        let same : Look k.table s k.want Got.Granted ≡ a = ap look_made m ∙ sym is in
        let all : AllGood head es c n (EntryLook k key s ∷ rest) = subst (AllGood head es c n) left h in
        let st : Stood es c n k (key, s) = all.0.1 g in
        let l = st.first in
        record {
          next = st.next;
          look = n;
          at = st.at;
          next_first = l;
          look_first = omega arith;
          next_stands = st.stands;
          look_stands = entry-is (Look k.table s k.want Got.Granted) a same here;
          one_unit = no_end-more c es st.next n (by_agent c a) here goes st.one_unit;
        }

  lock-ok : (p : Point) (why : Why) (got : Got) (name : Name) → HeardOk head es c (n + 1) p (heard_lock why got name)
  lock-ok p Asked Got.TimedOut name = (tt, tt)
  lock-ok p Blocked Got.TimedOut name = (tt, tt)
  lock-ok p Escalation Got.TimedOut name = (tt, tt)
  lock-ok p Asked Got.Granted name = (tt, tt)
  lock-ok p Asked (Got.Queued m) name = (tt, tt)
  lock-ok p Escalation Got.Granted (Table t) = (tt, tt)
  lock-ok p Escalation Got.Granted (Row t r) = tt
  lock-ok p Escalation Got.Granted (Key i v) = tt
  lock-ok p Escalation Got.Granted (End i) = tt
  lock-ok p Escalation (Got.Queued m) (Table t) = (tt, (tt, tt))
  lock-ok p Escalation (Got.Queued m) (Row t r) = tt
  lock-ok p Escalation (Got.Queued m) (Key i v) = tt
  lock-ok p Escalation (Got.Queued m) (End i) = tt
  lock-ok p Blocked Got.Granted name = tt
  lock-ok p Blocked (Got.Queued m) name = (tt, tt)

heard-ok : (head : Head) (es : List Entry) (c : Conn) (n : ℕ) (w v : World) (p : Point) (a : Act) → slice_get es n ≡ Some (by_agent c a)
    → ends_unit c (by_agent c a) ≡ false → Made (due p) a → AllGood head es c n p.left → HeardOk head es c (n + 1) p (heard w v c a)
heard-ok head es c n w v p (Lock name mode term why got) here goes mv h = lock-ok head es c n p why got name
heard-ok head es c n w v p Claim here goes mv h = (tt, tt)
heard-ok head es c n w v p (Look t r want Got.Granted) here goes mv h =
    (look-ok head es c n p (Look t r want Got.Granted) here goes t r want refl mv h, tt)
heard-ok head es c n w v p (Look t r want (Got.Queued m)) here goes mv h = (tt, tt)
heard-ok head es c n w v p (Look t r want Got.TimedOut) here goes mv h = (tt, tt)
heard-ok head es c n w v p (ScanEnd t k) here goes mv h = (tt, tt)
heard-ok head es c n w v p (Next i range at guarded (At key r)) here goes mv h =
    (at-ok head es c n p (Next i range at guarded (At key r)) here goes i range at guarded key r refl mv, tt)
heard-ok head es c n w v p (Next i range at guarded Past) here goes mv h = (tt, tt)
heard-ok head es c n w v p (Next i range at guarded (Stand.Queued m)) here goes mv h = (tt, tt)
heard-ok head es c n w v p (Next i range at guarded (Stand.TimedOut m)) here goes mv h = (tt, tt)
heard-ok head es c n w v p (Free t r) here goes mv h = (tt, tt)
heard-ok head es c n w v p (Collapse t m) here goes mv h = (tt, tt)
heard-ok head es c n w v p (Insert t r row) here goes mv h = (tt, tt)
heard-ok head es c n w v p (Update t r row) here goes mv h = (tt, tt)
heard-ok head es c n w v p (Delete t r) here goes mv h = (tt, tt)
heard-ok head es c n w v p (Refused code) here goes mv h = (tt, tt)
heard-ok head es c n w v p (Undo k) here goes mv h = (tt, tt)
heard-ok head es c n w v p (Mark name) here goes mv h = (tt, tt)
heard-ok head es c n w v p (Back name) here goes mv h = (tt, tt)
heard-ok head es c n w v p (Set level may_wait) here goes mv h = (tt, tt)
heard-ok head es c n w v p _ here goes mv h = tt

-- ---- the point after an entry

end-ends : (a : Act) → ends a ≡ false → is_end a ≡ false
end-ends Commit h = cc
end-ends (Rollback code reason) h = cc
end-ends Act.Ended h = cc
end-ends _ h = refl

and-off : (a b : Bool) → b ≡ false → (a && b) ≡ false
and-off true b e = e
and-off false b e = refl

module _ (head : Head) (es : List Entry) (c : Conn) (n : ℕ) where
  heard-good : (w v : World) (o : Option Point) (a : Act) → slice_get es n ≡ Some (by_agent c a) → ends a ≡ false → MadeAt o a → PointGood head es c n o
      → PointGood head es c (n + 1) (option_map (λ p. told_all p (heard w v c a)) o)
  heard-good w v None a here off mv h = tt
  heard-good w v (Some p) a here off mv h =
      let goes : ends_unit c (by_agent c a) ≡ false = and-off (conn_eq c c) (is_end a) (end-ends a off) in
      good-told_all head es c (n + 1) p (heard w v c a) (good-more head es c n (by_agent c a) here goes p.left h)
      (heard-ok head es c n w v p a here goes mv h)

  good-moved_by : (b : Bool) (w v : World) (o : Option Point) (a : Act) → ends a ≡ b → slice_get es n ≡ Some (by_agent c a) → MadeAt o a
      → PointGood head es c n o → PointGood head es c (n + 1) (moved_by b w v c o a)
  good-moved_by true w v o a off here mv h = tt
  good-moved_by false w v o a off here mv h = heard-good w v o a here off mv h

  good-moved : (ph : Phase) (lines : List Line) (w v : World) (o : Option Point) (a : Act) → slice_get es n ≡ Some (by_agent c a)
      → MayIn ph head lines w c o a → PointGood head es c n o → PointGood head es c (n + 1) (moved_in ph head lines w v c o a)
  good-moved Phase.Closing lines w v o a here k h = tt
  good-moved Phase.Running lines w v o a here k h =
      good-moved_by (ends a) w v (ready head lines w c o) a refl here (made-is_next head w c (ready head lines w c o) a k) (good-ready head es c n lines w o h)
  good-moved Phase.Waiting lines w v o a here k h =
      good-moved_by (ends a) w v (ready head lines w c o) a refl here (made-is_next head w c (ready head lines w c o) a k) (good-ready head es c n lines w o h)
  good-moved Phase.Rolling lines w v o a here k h =
      good-moved_by (ends a) w v (ready head lines w c o) a refl here (made-rolls head w c (ready head lines w c o) a k) (good-ready head es c n lines w o h)
  good-moved _ lines w v o a here k h = absurd k

  -- another's entry
  good-beside : (o : Option Point) (e : Entry) → slice_get es n ≡ Some e → ends_unit c e ≡ false → PointGood head es c n o → PointGood head es c (n + 1) o
  good-beside None e here goes h = tt
  good-beside (Some p) e here goes h = good-more head es c n e here goes p.left h

others-end : (c : Conn) (e : Entry) → is_by c e.who ≡ false → ends_unit c e ≡ false
others-end c e h = go e.who h
  where
    go : (who : Who) → is_by c who ≡ false → ends_unit c (record { who = who; act = e.act }) ≡ false
    go Dispatcher k = refl
    go (Agent d) k = rw k refl

own-entry : (c : Conn) (e : Entry) → is_by c e.who ≡ true → e ≡ by_agent c e.act
own-entry c e h = go e.who h
  where
    go : (who : Who) → is_by c who ≡ true → record { who = who; act = e.act } ≡ by_agent c e.act
    go Dispatcher k = absurd (cc)
    go (Agent d) k = ap (λ (z : Conn). record { who = Agent z; act = e.act }) (conn-is d c k)

good-after : (head : Head) (es : List Entry) (c : Conn) (n : ℕ) (lines : List Line) (w : World) (o : Option Point) (e : Entry) → slice_get es n ≡ Some e
    → (is_by c e.who ≡ true → MayIn (phase w c) head lines w c o e.act) → PointGood head es c n o
    → PointGood head es c (n + 1) (point_after head lines w c o e)
good-after head es c n lines w o e here may h = go (is_by c e.who) refl
  where
    go : (b : Bool) → is_by c e.who ≡ b → PointGood head es c (n + 1) (if b then moved head lines w (after head w e) c o e.act else o)
    go true k = good-moved head es c n (phase w c) lines w (after head w e) o e.act (here ∙ ap (λ (z : Entry). Some z) (own-entry c e k)) (may k) h
    go false k = good-beside head es c n o e here (others-end c e k) h

-- ---- along a history

-- a Next is due where an index scan comes first
due-next : (kept : Haul) (ps : List Part) (i : IndexId) (range : Range) (at : Option (Value × Rid)) (g : Bool) → due_by kept ps ≡ Move.Next i range at g
    → (k : Walk) × (rest : List Part) × (ps ≡ IndexScan k at ∷ rest) × (k.index ≡ i) × (k.range ≡ range) × (k.guarded ≡ g)
due-next kept [] i range at g e = absurd (cc)
due-next kept (IndexScan k from ∷ ps) i range at g e =
    let a : k.index ≡ i = cc in
    let b : k.range ≡ range = cc in
    let d : from ≡ at = cc in
    let f : k.guarded ≡ g = cc in
    (k, ps, ap (λ z. IndexScan k z ∷ ps) d, a, b, f)
due-next kept (x ∷ ps) i range at g e = absurd (cc)

some-table : (t u : TableId) → Some t ≡ Some u → t ≡ u
some-table t u e = cc

module _ (head : Head) (es : List Entry) (c : Conn) (n : ℕ) (i : IndexId) (t : TableId) (range : Range) (q : Value × Rid) (on : table_of_index head i ≡ Some t) where
  chained-due : (p : Point) → due p ≡ Move.Next i range (Some q) true → AllGood head es c n p.left → IsChained es n c i t range q
  chained-due p e h = go (due-next p.kept p.left i range (Some q) true e)
    where
      of : (k : Walk) (rest : List Part) → p.left ≡ IndexScan k (Some q) ∷ rest → k.guarded ≡ true → IsChained es n c k.index k.table k.range q
      of k rest left g =
          let all : AllGood head es c n (IndexScan k (Some q) ∷ rest) = subst (AllGood head es c n) left h in
          let seen : Seen es c n k q = all.0.1 g in
          record {
            next = seen.next;
            look = seen.look;
            at = seen.at;
            want = k.want;
            next_first = seen.next_first;
            look_first = seen.look_first;
            next_stands = seen.next_stands;
            look_stands = seen.look_stands;
            repeated = all.0.0.0 g;
            one_unit = seen.one_unit;
          }

      table : (k : Walk) (rest : List Part) → p.left ≡ IndexScan k (Some q) ∷ rest → k.index ≡ i → k.table ≡ t
      table k rest left a =
          let all : AllGood head es c n (IndexScan k (Some q) ∷ rest) = subst (AllGood head es c n) left h in
          some-table k.table t (sym all.0.0.1 ∙ ap (table_of_index head) a ∙ on)

      go : (k : Walk) × (rest : List Part) × (p.left ≡ IndexScan k (Some q) ∷ rest) × (k.index ≡ i) × (k.range ≡ range) × (k.guarded ≡ true)
          → IsChained es n c i t range q
      go x =
          subst (λ (z : IndexId). IsChained es n c z t range q) x.3
          (subst (λ (z : TableId). IsChained es n c x.0.index z range q) (table x.0 x.1 x.2 x.3)
          (subst (λ (z : Range). IsChained es n c x.0.index x.0.table z q) x.4 (of x.0 x.1 x.2 x.5)))

  chained-point : (o : Option Point) (got : Stand) → MadeAt o (Next i range (Some q) true got) → (o ≡ None → ⊥) → PointGood head es c n o
      → IsChained es n c i t range q
  chained-point None got mv some h = absurd (some refl)
  chained-point (Some p) got mv some h = chained-due p mv h

  next-some : (w : World) (o : Option Point) (got : Stand) → IsNext head w c o (Next i range (Some q) true got) → o ≡ None → ⊥
  next-some w None got k e = let z : false ≡ true = k in cc
  next-some w (Some p) got k e = cc

  rolls-some : (w : World) (o : Option Point) (a : Act) → Rolls head w c o a → o ≡ None → ⊥
  rolls-some w None a k e = k
  rolls-some w (Some p) a k e = cc

  closing-not : (o : Option ℕ) (got : Stand) → closing_act o ≡ Next i range (Some q) true got → ⊥
  closing-not None got e = cc
  closing-not (Some m) got e = cc

  chained-in : (lines : List Line) (w : World) (o : Option Point) (got : Stand) (ph : Phase) → PointGood head es c n o
      → MayIn ph head lines w c o (Next i range (Some q) true got) → IsChained es n c i t range q
  chained-in lines w o got Phase.Running h k =
      let r = ready head lines w c o in
      chained-point r got (made-is_next head w c r (Next i range (Some q) true got) k) (next-some w r got k) (good-ready head es c n lines w o h)
  chained-in lines w o got Phase.Waiting h k =
      let r = ready head lines w c o in
      chained-point r got (made-is_next head w c r (Next i range (Some q) true got) k) (next-some w r got k) (good-ready head es c n lines w o h)
  chained-in lines w o got Phase.Rolling h k =
      let r = ready head lines w c o in
      let a = Next i range (Some q) true got in
      chained-point r got (made-rolls head w c r a k) (rolls-some w r a k) (good-ready head es c n lines w o h)
  chained-in lines w o got Phase.Closing h k = absurd (closing-not (last_record w c) got k)
  chained-in lines w o got _ h k = absurd k

some-entry : (e f : Entry) → Some e ≡ Some f → e ≡ f
some-entry e f q = cc

no-entry : (f : Entry) → None ≡ Some f → ⊥
no-entry f q = cc

chained-from : (head : Head) (es : List Entry) (c : Conn) (lines : List Line) (w : World) (o : Option Point) (n : ℕ) (rest : List Entry)
    → ((j : ℕ) → slice_get es (n + j) ≡ slice_get rest j) → PointGood head es c n o → ConductFrom head lines w c o rest
    → (j : ℕ) (i : IndexId) (t : TableId) (range : Range) (q : Value × Rid) (got : Stand)
    → slice_get rest j ≡ Some (by_agent c (Next i range (Some q) true got)) → table_of_index head i ≡ Some t → IsChained es (n + j) c i t range q
unfolding ConductFrom
chained-from head es c lines w o n [] link h k j i t range q got at on = absurd (no-entry (by_agent c (Next i range (Some q) true got)) at)
chained-from head es c lines w o n (e ∷ rest) link h k zero i t range q got at on =
    let a = Next i range (Some q) true got in
    let is : e ≡ by_agent c a = some-entry e (by_agent c a) at in
    let own : is_by c e.who ≡ true = ap (λ (z : Entry). is_by c z.who) is ∙ conn-same c in
    let m : n ≡ n + 0 = omega arith in
    subst (λ (z : ℕ). IsChained es z c i t range q) m
    (chained-in head es c n i t range q on lines w o got (phase w c) h
    (subst (λ (z : Entry). MayIn (phase w c) head lines w c o z.act) is (k.0 own)))
chained-from head es c lines w o n (e ∷ rest) link h k (suc j) i t range q got at on =
    let m : n + 0 ≡ n = omega arith in
    let here : slice_get es n ≡ Some e = ap (slice_get es) (sym m) ∙ link zero in
    let s : (n + 1) + j ≡ n + suc j = omega arith in
    subst (λ (z : ℕ). IsChained es z c i t range q) s
    (chained-from head es c lines (after head w e) (point_after head lines w c o e) (n + 1) rest
    (λ x. (let z : (n + 1) + x ≡ n + suc x = omega arith in ap (slice_get es) z ∙ link (suc x)))
    (good-after head es c n lines w o e here k.0 h) k.1 j i t range q got at on)

-- conduct gives it of every legal history
pub legal-chained : (script : Script) (es : List Entry) → IsLegal script es → AreChained script.head es
unfolding Conduct Ground
legal-chained script es legal k c i t range p got at on standing =
    let al = at-entry script.head es k (by_agent c (Next i range (Some p) true got)) at legal.ground in
    let m : 0 + k ≡ k = omega arith in
    subst (λ (z : ℕ). IsChained es z c i t range p) m
    (chained-from script.head es c script.lines (start script.head) None 0 es (λ j. (let z : 0 + j ≡ j = omega arith in ap (slice_get es) z)) tt
    (legal.conduct c al.0.2.0) k i t range p got at on)

-- the five guards of every legal history
pub all-guarded : (script : Script) (es : List Entry) → IsLegal script es → AreGuarded script es
all-guarded script es legal = legal-guarded script es legal (legal-chained script es legal)
