-- The room that steps take from the log's, and that they make.
use Rattle.std.proofs.Common.{◌≡◌, ◌+◌, ◌*◌, ◌≤◌, ℕ, List, [], ◌∷◌, ◌++◌, length, refl, arith, length-append}
use Rattle.iso_history.specs.After.{after, start}
use Rattle.iso_history.specs.Courses.{NoneLeft, OnCourse}
use Rattle.iso_history.specs.Facts.{UnitsApart}
use Rattle.iso_history.specs.Legal.{Allowed, By, ByDispatcher}
use Rattle.iso_history.specs.Records.{count, debt, left_of}
use Rattle.iso_history.specs.Reserves.{IsCounted, debt_less, debt_more, log_room_of, records_of}
use Rattle.iso_history.specs.World.{Note, World}
use Rattle.iso_history.specs.declared.entry.Act.{Act}
use Rattle.iso_history.specs.declared.entry.Act.TheVariants.{Delete, Insert, Undo, Update}
use Rattle.iso_history.specs.declared.entry.Entry.{Entry}
use Rattle.iso_history.specs.declared.entry.Who.{Who}
use Rattle.iso_history.specs.declared.entry.Who.TheVariants.{Agent, Dispatcher}
use Rattle.iso_types.specs.declared.head.Head.{Head}
use Rattle.iso_types.specs.declared.value.Conn.{Conn}
use Rattle.iso_history.proofs.limits.Debts.{debt-after}
use Rattle.iso_history.specs.Makers.{by_agent, by_dispatcher}
use Rattle.iso_history.proofs.limits.Sums.{conns-const}

pub one-more : (notes : List Note) (n : Note) → length (notes ++ n ∷ []) ≡ length notes + 1
one-more notes n = simp length-append (omega arith)

count-agent : (head : Head) (w : World) (c : Conn) (a : Act) → count (after head w (by_agent c a)) ≡ count w + records_of a
count-agent head w c (Insert t r row) = one-more w.records _
count-agent head w c (Update t r row) = one-more w.records _
count-agent head w c (Delete t r) = one-more w.records _
count-agent head w c (Undo n) = one-more w.records _
count-agent head w c _ = omega arith

count-dispatcher : (head : Head) (w : World) (a : Act) → ByDispatcher head w a → count (after head w (by_dispatcher a)) ≡ count w + records_of a
count-dispatcher head w (Insert t r row) al = absurd al
count-dispatcher head w (Update t r row) al = absurd al
count-dispatcher head w (Delete t r) al = absurd al
count-dispatcher head w (Undo n) al = absurd al
count-dispatcher head w _ al = omega arith

-- a change and an undo add a record, and nothing else does
pub count-by : (head : Head) (w : World) (who : Who) (a : Act) → By head w who a
    → count (after head w (record { who = who; act = a })) ≡ count w + records_of a
count-by head w Dispatcher a al = count-dispatcher head w a al
count-by head w (Agent c) a al = count-agent head w c a

pub count-after : (head : Head) (w : World) (e : Entry) → Allowed head w e → count (after head w e) ≡ count w + records_of e.act
count-after head w e al = count-by head w e.who e.act al.2

records-few : (a : Act) → records_of a ≤ 1
records-few (Insert t r row) = omega arith
records-few (Update t r row) = omega arith
records-few (Delete t r) = omega arith
records-few (Undo n) = omega arith
records-few _ = omega arith

covers-agent : (w : World) (c : Conn) (a : Act) → debt_more a + records_of a ≤ log_room_of a + debt_less w (Agent c) a
covers-agent w c (Insert t r row) = omega arith
covers-agent w c (Update t r row) = omega arith
covers-agent w c (Delete t r) = omega arith
covers-agent w c (Undo n) = omega arith
covers-agent w c _ = omega arith

covers-dispatcher : (head : Head) (w : World) (a : Act) → ByDispatcher head w a
    → debt_more a + records_of a ≤ log_room_of a + debt_less w Dispatcher a
covers-dispatcher head w (Insert t r row) al = absurd al
covers-dispatcher head w (Update t r row) al = absurd al
covers-dispatcher head w (Delete t r) al = absurd al
covers-dispatcher head w (Undo n) al = absurd al
covers-dispatcher head w _ al = omega arith

covers : (head : Head) (w : World) (who : Who) (a : Act) → By head w who a → debt_more a + records_of a ≤ log_room_of a + debt_less w who a
covers head w Dispatcher a al = covers-dispatcher head w a al
covers head w (Agent c) a al = covers-agent w c a

-- after an entry its records and the debt are covered by the debt before it and the room that it made
pub debt-room : (head : Head) (w : World) (e : Entry) → Allowed head w e → UnitsApart w → OnCourse w → NoneLeft w.begun w.records
    → debt head (after head w e) + records_of e.act ≤ debt head w + log_room_of e.act
debt-room head w e al s co n = more _ _ _ _ _ _ (debt-after head w e al s co n) (covers head w e.who e.act al.2)
  where
    more : (a b x y k r : ℕ) → a + y ≡ b + x → x + k ≤ r + y → a + k ≤ b + r
    more a b x y k r e le = omega (arith, e, le)

-- what is pushed into room that was kept or made leaves room for the debt after it; an undo makes none
pub log-kept : (head : Head) (w : World) (e : Entry) (old new : ℕ) → Allowed head w e → UnitsApart w → OnCourse w → NoneLeft w.begun w.records
    → debt head w + log_room_of e.act ≤ old → old ≤ new + records_of e.act → debt head (after head w e) ≤ new
log-kept head w e old new al s co n room push = let h = debt-room head w e al s co n in omega (arith, h, room, push)

more-few : (a : Act) → debt_more a ≤ records_of a
more-few (Insert t r row) = omega arith
more-few (Update t r row) = omega arith
more-few (Delete t r) = omega arith
more-few (Undo n) = omega arith
more-few _ = omega arith

pub counted-after : (head : Head) (w : World) (e : Entry) → Allowed head w e → UnitsApart w → OnCourse w → NoneLeft w.begun w.records
    → IsCounted head w → IsCounted head (after head w e)
counted-after head w e al s co n h =
    let k = count-after head w e al in
    let d = debt-after head w e al s co n in
    record {
      owed = owed _ _ _ _ _ _ _ d k (more-few e.act) h.owed;
      recorded = let few = records-few e.act in let old = h.recorded in omega (arith, k, few, old);
    }
  where
    owed : (a b x y k m r : ℕ) → a + y ≡ b + x → m ≡ k + r → x ≤ r → b ≤ k → a ≤ m
    owed a b x y k m r e f le h = omega (arith, e, f, le, h)

pub debt-start : (head : Head) → debt head (start head) ≡ 0
debt-start head = let z = conns-const head (λ c. length (left_of (start head) c)) 0 (λ c. refl) in nothing _ _ z
  where
    nothing : (k n : ℕ) → k ≡ n * 0 → k ≡ 0
    nothing k n e = grind arith

pub counted-start : (head : Head) → IsCounted head (start head)
counted-start head = record { owed = let z = debt-start head in omega (arith, z); recorded = omega arith }
