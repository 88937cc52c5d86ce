-- A unit that no connection has had has nothing left.
use Rattle.std.proofs.Common.{◌≡◌, ◌≢◌, ◌≤◌, ◌+◌, ◌⊎◌, ◌<◌, inl, inr, ℕ, Bool, true, false, List, [], ◌∷◌, ◌++◌, refl, ap, sym, ◌∙◌, arith, Some, None, Option, is_some, subst}
use Rattle.std.specs.Prelude.{◌==◌, if◌then◌else◌, slice_get}
use Rattle.std.proofs.lemmas.Bool.Decides.{nat_tests}
use Rattle.iso_history.specs.After.{after, start}
use Rattle.iso_history.specs.Courses.{CourseAt, NoneLeft, RecordsBegun, OnCourse}
use Rattle.iso_history.specs.Facts.{UnitsApart}
use Rattle.iso_history.specs.Legal.{Allowed, By, ByAgent, ByDispatcher}
use Rattle.iso_history.specs.Records.{last_left, left_by, left_from, records_by}
use Rattle.iso_history.specs.Units.{begun_by, turn_of, turn_of_agent, turn_of_dispatcher, unit_of, unit_of_maker}
use Rattle.iso_history.specs.Versions.{change_of}
use Rattle.iso_history.specs.World.{Note, World}
use Rattle.iso_history.specs.declared.entry.Act.{Act}
use Rattle.iso_history.specs.declared.entry.Act.TheVariants.{Commit, Delete, Dispatch, Insert, Rollback, Undo, Update}
use Rattle.iso_history.specs.declared.entry.Entry.{Entry}
use Rattle.iso_history.specs.declared.entry.Who.{Who}
use Rattle.iso_history.specs.declared.entry.Who.TheVariants.{Agent, Dispatcher}
use Rattle.iso_types.specs.declared.head.Head.{Head}
use Rattle.iso_types.specs.declared.value.Conn.{Conn}
use Rattle.iso_history.proofs.limits.Courses.{running-unit}

-- the number of an open unit
pub unit-of : (w : World) (c : Conn) → is_some (w.unit c) ≡ true → w.unit c ≡ Some (unit_of w c)
unit-of w c e = go (w.unit c) refl e
  where
    go : (o : Option ℕ) → w.unit c ≡ o → is_some o ≡ true → o ≡ Some (unit_of w c)
    go None f e = absurd (cc)
    go (Some u) f e = rw f refl

-- the connection's open unit has begun
pub unit-begun : (w : World) (c : Conn) → UnitsApart w → is_some (w.unit c) ≡ true → (1 ≤ unit_of w c) × (unit_of w c ≤ w.begun)
unit-begun w c s e = s.begun c (unit_of w c) (unit-of w c e)

-- a connection whose Undo may stand has an open unit
pub undo-unit : (w : World) (c : Conn) (n : ℕ) → NoneLeft w.begun w.records → last_left w (unit_of w c) ≡ Some n → is_some (w.unit c) ≡ true
unfolding NoneLeft
undo-unit w c n s e = go (w.unit c) refl
  where
    none : w.unit c ≡ None → last_left w (unit_of w c) ≡ None
    none f = rw f (ap (λ ms. slice_get ms 0) (s 0 (inl refl)))

    go : (o : Option ℕ) → w.unit c ≡ o → is_some o ≡ true
    go None f = let g = none f in absurd (cc)
    go (Some u) f = refl

-- one more record of a unit that has begun
notes-more : (begun : ℕ) (notes : List Note) (n : Note) → 1 ≤ n.unit → n.unit ≤ begun → RecordsBegun begun notes → RecordsBegun begun (notes ++ n ∷ [])
unfolding RecordsBegun
notes-more begun [] n ge le h = ((ge, le), tt)
notes-more begun (m ∷ ms) n ge le h = (h.0, notes-more begun ms n ge le h.1)

-- more units have begun
notes-later : (a b : ℕ) (notes : List Note) → a ≤ b → RecordsBegun a notes → RecordsBegun b notes
unfolding RecordsBegun
notes-later a b [] le h = tt
notes-later a b (n ∷ ns) le h = ((h.0.0, omega (arith, h.0.1, le)), notes-later a b ns le h.1)

-- a unit that made no record has nothing left
none-from : (begun u k : ℕ) (acc : List ℕ) (notes : List Note) → (u ≡ 0) ⊎ (begun < u) → RecordsBegun begun notes → left_from u k acc notes ≡ acc
unfolding RecordsBegun
none-from begun u k acc [] z h = refl
none-from begun u k acc (n ∷ ns) z h =
    none-from begun u (k + 1) (left_by u k acc n) ns z h.1 ∙ passed (apart z)
  where
    apart : (u ≡ 0) ⊎ (begun < u) → n.unit ≢ u
    apart (inl e) = omega (arith, e, h.0.0)
    apart (inr lt) = omega (arith, lt, h.0.1)

    passed : n.unit ≢ u → left_by u k acc n ≡ acc
    passed ne = let t : (n.unit == u) ≡ false = grind (arith, nat_tests) in rw t refl

pub none_left : (begun : ℕ) (notes : List Note) → RecordsBegun begun notes → NoneLeft begun notes
unfolding NoneLeft
none_left begun notes h u z = none-from begun u 0 [] notes z h

notes-agent : (head : Head) (w : World) (c : Conn) (a : Act) → ByAgent head w c a → UnitsApart w → CourseAt w c → RecordsBegun w.begun w.records
    → RecordsBegun w.begun (records_by w (unit_of w c) (change_of a))
notes-agent head w c (Insert t r row) al s co n = let b = unit-begun w c s (running-unit w c co al.0.0) in notes-more w.begun w.records _ b.0 b.1 n
notes-agent head w c (Update t r row) al s co n = let b = unit-begun w c s (running-unit w c co al.0.0) in notes-more w.begun w.records _ b.0 b.1 n
notes-agent head w c (Delete t r) al s co n = let b = unit-begun w c s (running-unit w c co al.0.0) in notes-more w.begun w.records _ b.0 b.1 n
notes-agent head w c (Undo k) al s co n =
    let b = unit-begun w c s (undo-unit w c k (none_left w.begun w.records n) al.1) in notes-more w.begun w.records _ b.0 b.1 n
notes-agent head w c _ al s co n = n

begun-agent : (w : World) (c : Conn) (a : Act) → begun_by w (turn_of_agent c a) ≡ w.begun
begun-agent w c Commit = refl
begun-agent w c (Rollback code reason) = refl
begun-agent w c Act.Ended = refl
begun-agent w c _ = refl

begun-dispatcher : (w : World) (a : Act) → w.begun ≤ begun_by w (turn_of_dispatcher a)
begun-dispatcher w (Dispatch line c) = go (is_some (w.unit c))
  where
    go : (b : Bool) → w.begun ≤ (if b then w.begun else w.begun + 1)
    go true = omega arith
    go false = omega arith
begun-dispatcher w _ = omega arith

notes-dispatcher : (head : Head) (w : World) (a : Act) → ByDispatcher head w a → RecordsBegun w.begun w.records
    → RecordsBegun w.begun (records_by w 0 (change_of a))
notes-dispatcher head w (Insert t r row) al n = absurd al
notes-dispatcher head w (Update t r row) al n = absurd al
notes-dispatcher head w (Delete t r) al n = absurd al
notes-dispatcher head w (Undo k) al n = absurd al
notes-dispatcher head w Commit al n = absurd al
notes-dispatcher head w _ al n = n

pub notes-after : (head : Head) (w : World) (e : Entry) → Allowed head w e → UnitsApart w → OnCourse w → RecordsBegun w.begun w.records
    → RecordsBegun (after head w e).begun (after head w e).records
notes-after head w e al s co n = go e.who al.2
  where
    go : (who : Who) → By head w who e.act
        → RecordsBegun (begun_by w (turn_of who e.act)) (records_by w (unit_of_maker w who) (change_of e.act))
    go Dispatcher a = notes-later w.begun _ _ (begun-dispatcher w e.act) (notes-dispatcher head w e.act a n)
    go (Agent c) a = subst (λ (b : ℕ). RecordsBegun b (records_by w (unit_of w c) (change_of e.act))) (sym (begun-agent w c e.act))
        (notes-agent head w c e.act a.1 s (co.each c) n)

pub notes-start : (head : Head) → RecordsBegun (start head).begun (start head).records
unfolding RecordsBegun
notes-start head = tt
