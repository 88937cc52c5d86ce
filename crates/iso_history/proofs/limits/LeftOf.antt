-- What each connection has left to undo, after an entry.
use Rattle.std.proofs.Common.{◌≡◌, ◌≢◌, ◌+◌, ℕ, suc, true, false, [], ◌∷◌, ◌++◌, length, refl, ap, sym, ◌∙◌, arith, Some, None, Option, is_some, subst}
use Rattle.std.specs.Option.{option_map_or}
use Rattle.iso_history.specs.After.{after}
use Rattle.iso_history.specs.Courses.{CourseAt, NoneLeft}
use Rattle.iso_history.specs.Facts.{UnitsApart}
use Rattle.iso_history.specs.Legal.{ByAgent}
use Rattle.iso_history.specs.Records.{last_left, left, left_of, records_by}
use Rattle.iso_history.specs.Units.{unit_of}
use Rattle.iso_history.specs.Versions.{change_of}
use Rattle.iso_history.specs.World.{Note, World}
use Rattle.iso_history.specs.declared.entry.Act.{Act}
use Rattle.iso_history.specs.declared.entry.Act.TheVariants.{Delete, Insert, Undo, Update}
use Rattle.iso_types.specs.Ids.{conn_eq}
use Rattle.iso_types.specs.declared.head.Head.{Head}
use Rattle.iso_types.specs.declared.value.Conn.{Conn}
use Rattle.iso_history.proofs.limits.Begun.{undo-unit, unit-of}
use Rattle.iso_history.proofs.limits.Courses.{running-unit}
use Rattle.iso_history.proofs.limits.Lefts.{left-add, left-other, left-take}
use Rattle.iso_history.specs.Makers.{by_agent}
use Rattle.iso_history.proofs.limits.Others.{others-agent}

-- another connection's unit has another number
unit-apart : (w : World) (c d : Conn) → UnitsApart w → conn_eq d c ≡ false → is_some (w.unit c) ≡ true → (u : ℕ) → w.unit d ≡ Some u
    → unit_of w c ≢ u
unit-apart w c d s ne some u at e =
    let t = s.apart d c u at (unit-of w c some ∙ ap (λ k. Some k) e) in absurd (cc)

-- one more record of c leaves what the others have left
left-beside : (w : World) (c d : Conn) (n : Note) → UnitsApart w → conn_eq d c ≡ false → is_some (w.unit c) ≡ true → n.unit ≡ unit_of w c
    → option_map_or (left (w.records ++ n ∷ [])) (w.unit d) [] ≡ option_map_or (left w.records) (w.unit d) []
left-beside w c d n s ne some is = go (w.unit d) refl
  where
    go : (o : Option ℕ) → w.unit d ≡ o → option_map_or (left (w.records ++ n ∷ [])) o [] ≡ option_map_or (left w.records) o []
    go None e = refl
    go (Some u) e = left-other u w.records n (subst (λ (k : ℕ). k ≢ u) (sym is) (unit-apart w c d s ne some u e))

left-agent : (head : Head) (w : World) (c : Conn) (a : Act) (d : Conn) → ByAgent head w c a → UnitsApart w → CourseAt w c
    → NoneLeft w.begun w.records → conn_eq d c ≡ false
    → option_map_or (left (records_by w (unit_of w c) (change_of a))) (w.unit d) [] ≡ option_map_or (left w.records) (w.unit d) []
left-agent head w c (Insert t r row) d al s co n ne = left-beside w c d _ s ne (running-unit w c co al.0.0) refl
left-agent head w c (Update t r row) d al s co n ne = left-beside w c d _ s ne (running-unit w c co al.0.0) refl
left-agent head w c (Delete t r) d al s co n ne = left-beside w c d _ s ne (running-unit w c co al.0.0) refl
left-agent head w c (Undo k) d al s co n ne = left-beside w c d _ s ne (undo-unit w c k n al.1) refl
left-agent head w c _ d al s co n ne = refl

-- an agent's entry leaves what the others have left
pub left_of-other : (head : Head) (w : World) (c : Conn) (a : Act) (d : Conn) → ByAgent head w c a → UnitsApart w → CourseAt w c
    → NoneLeft w.begun w.records → conn_eq d c ≡ false → left_of (after head w (by_agent c a)) d ≡ left_of w d
left_of-other head w c a d al s co n ne =
    ap (λ (o : Option ℕ). option_map_or (left (records_by w (unit_of w c) (change_of a))) o []) (others-agent head w c a d ne).unit_same
    ∙ left-agent head w c a d al s co n ne

-- a change of c is one more that it has left
pub left_of-add : (w : World) (c : Conn) (n : Note) → is_some (w.unit c) ≡ true → n.unit ≡ unit_of w c → n.undoes ≡ None
    → length (option_map_or (left (w.records ++ n ∷ [])) (w.unit c) []) ≡ length (left_of w c) + 1
left_of-add w c n some is none = go (w.unit c) (unit-of w c some)
  where
    go : (o : Option ℕ) → o ≡ Some (unit_of w c)
        → length (option_map_or (left (w.records ++ n ∷ [])) o []) ≡ length (option_map_or (left w.records) o []) + 1
    go o e = rw e (ap length (left-add (unit_of w c) w.records n is none) ∙ one_more (length (left w.records (unit_of w c))))
      where
        one_more : (k : ℕ) → suc k ≡ k + 1
        one_more k = omega arith

-- an undo takes one off
pub left_of-take : (w : World) (c : Conn) (n : Note) (k : ℕ) → is_some (w.unit c) ≡ true → n.unit ≡ unit_of w c → n.undoes ≡ Some k
    → last_left w (unit_of w c) ≡ Some k → length (option_map_or (left (w.records ++ n ∷ [])) (w.unit c) []) + 1 ≡ length (left_of w c)
left_of-take w c n k some is undoes top = go (w.unit c) (unit-of w c some)
  where
    go : (o : Option ℕ) → o ≡ Some (unit_of w c)
        → length (option_map_or (left (w.records ++ n ∷ [])) o []) + 1 ≡ length (option_map_or (left w.records) o [])
    go o e = rw e (one_less (length (left (w.records ++ n ∷ []) (unit_of w c))) ∙ sym (ap length (left-take (unit_of w c) k w.records n is undoes top)))
      where
        one_less : (k : ℕ) → k + 1 ≡ suc k
        one_less k = omega arith

-- a connection without a unit has nothing left
pub left_of-none : (w : World) (c : Conn) → w.unit c ≡ None → left_of w c ≡ []
left_of-none w c e = rw e refl
