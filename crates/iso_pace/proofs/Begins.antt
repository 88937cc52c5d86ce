-- What every history tells of a connection that has no unit, and of the next unit's number. These facts speak of histories
-- alone: they belong beside the histories' other facts.
use Rattle.std.proofs.Common.{◌≡◌, ◌≤◌, ◌<◌, ◌+◌, ℕ, Bool, true, false, List, [], ◌∷◌, length, refl, ap, sym, ◌∙◌, arith, Some, None, is_some}
use Rattle.std.specs.Prelude.{◌==◌, if◌then◌else◌}
use Rattle.std.proofs.lemmas.Bool.Decides.{nat_tests}
use Rattle.iso_history.proofs.Snoc.{along}
use Rattle.iso_history.proofs.limits.Courses.{on_course-after, on_course-start, running-unit}
use Rattle.iso_history.proofs.limits.Made.{made-is}
use Rattle.iso_history.proofs.limits.Others.{at-other, at-same}
use Rattle.iso_history.proofs.limits.Waiting.{conn_eq-is}
use Rattle.iso_history.specs.After.{world}
use Rattle.iso_history.specs.Courses.{OnCourse, RecordsBegun}
use Rattle.iso_history.specs.Legal.{By, ByAgent, Ground}
use Rattle.iso_history.specs.Linked.{first_from, first_made}
use Rattle.iso_history.specs.Marks.{marks_by, marks_by_agent}
use Rattle.iso_history.specs.Units.{Turn, begun_by, turn_of, turn_of_agent, turn_of_dispatcher, unit_by}
use Rattle.iso_history.specs.Units.Turn.{Begins, Ends, Stays}
use Rattle.iso_history.specs.World.{MarkAt, Note, World, at_conn}
use Rattle.iso_history.specs.declared.entry.Act.{Act}
use Rattle.iso_history.specs.declared.entry.Act.TheVariants.{Back, Commit, Dispatch, Mark, Rollback}
use Rattle.iso_history.specs.declared.entry.Entry.{Entry}
use Rattle.iso_history.specs.declared.entry.Who.{Who}
use Rattle.iso_history.specs.declared.entry.Who.TheVariants.{Agent, Dispatcher}
use Rattle.iso_types.specs.Ids.{conn_eq}
use Rattle.iso_types.specs.declared.head.Head.{Head}
use Rattle.iso_types.specs.declared.value.Conn.{Conn}

-- a connection without a unit has no savepoint
abbrev IsBare : World → Type 0
IsBare w = (c : Conn) → w.unit c ≡ None → w.marks c ≡ []

module _ (w : World) (b : IsBare w) (c d : Conn) where
  -- the unit's end drops its savepoints
  cleared : at_conn w.unit c None d ≡ None → at_conn w.marks c [] d ≡ []
  cleared e = go (conn_eq d c) refl
    where
      go : (x : Bool) → conn_eq d c ≡ x → at_conn w.marks c [] d ≡ []
      go true f = rw f refl
      go false f = at-other w.marks c [] d f ∙ b d (sym (at-other w.unit c None d f) ∙ e)

  -- who sets a savepoint has a unit
  marked-by : (ms : List MarkAt) → is_some (w.unit c) ≡ true → w.unit d ≡ None → at_conn w.marks c ms d ≡ []
  marked-by ms has e = go (conn_eq d c) refl
    where
      go : (x : Bool) → conn_eq d c ≡ x → at_conn w.marks c ms d ≡ []
      go true f = let none : w.unit c ≡ None = sym (ap w.unit (conn_eq-is d c f)) ∙ e in let k = sym (ap (λ o. is_some o) none) ∙ has in absurd (cc)
      go false f = at-other w.marks c ms d f ∙ b d e

  -- a Dispatch leaves its connection a unit
  opened-by : (u : ℕ) → at_conn w.unit c (Some u) d ≡ None → w.marks d ≡ []
  opened-by u e = go (conn_eq d c) refl
    where
      go : (x : Bool) → conn_eq d c ≡ x → w.marks d ≡ []
      go true f = let k = sym (ap (at_conn w.unit c (Some u)) (conn_eq-is d c f) ∙ at-same w.unit c (Some u)) ∙ e in absurd (cc)
      go false f = b d (sym (at-other w.unit c (Some u) d f) ∙ e)

bare-dispatcher : (w : World) (a : Act) (d : Conn) → IsBare w → unit_by w (turn_of_dispatcher a) d ≡ None → w.marks d ≡ []
bare-dispatcher w (Dispatch line c) d b e = opened-by w b c d _ e
bare-dispatcher w _ d b e = b d e

bare-agent : (head : Head) (w : World) (c : Conn) (a : Act) (d : Conn) → ByAgent head w c a → OnCourse w → IsBare w
    → unit_by w (turn_of_agent c a) d ≡ None → marks_by_agent w c a d ≡ []
bare-agent head w c (Mark name) d al co b e = marked-by w b c d _ (running-unit w c (co.each c) al.0) e
bare-agent head w c (Back name) d al co b e = marked-by w b c d _ (running-unit w c (co.each c) al.0.0) e
bare-agent head w c Commit d al co b e = cleared w b c d e
bare-agent head w c (Rollback code reason) d al co b e = cleared w b c d e
bare-agent head w c Act.Ended d al co b e = cleared w b c d e
bare-agent head w c _ d al co b e = b d e

bare-by : (head : Head) (w : World) (who : Who) (a : Act) → By head w who a → OnCourse w → IsBare w
    → (d : Conn) → unit_by w (turn_of who a) d ≡ None → marks_by w who a d ≡ []
bare-by head w Dispatcher a al co b d e = bare-dispatcher w a d b e
bare-by head w (Agent c) a al co b d e = bare-agent head w c a d al.1 co b e

-- no more units have begun than there are entries
begun-turn : (w : World) (t : Turn) → w.begun ≤ w.made → begun_by w t ≤ w.made + 1
begun-turn w Stays le = omega (arith, le)
begun-turn w (Ends c) le = omega (arith, le)
begun-turn w (Begins c) le = go (is_some (w.unit c))
  where
    go : (x : Bool) → (if x then w.begun else w.begun + 1) ≤ w.made + 1
    go true = omega (arith, le)
    go false = omega (arith, le)

-- no record has the number of a unit that has not begun
first-none : (begun u k : ℕ) (notes : List Note) → begun < u → RecordsBegun begun notes → first_from u k notes ≡ None
unfolding RecordsBegun
first-none begun u k [] lt h = refl
first-none begun u k (n ∷ ns) lt h =
    let le = h.0.1 in
    let other : (n.unit == u) ≡ false = grind (arith, nat_tests) in
    rw other (first-none begun u (k + 1) ns lt h.1)

pub first-later : (w : World) → RecordsBegun w.begun w.records → first_made w.records (w.begun + 1) ≡ None
first-later w h = first-none w.begun (w.begun + 1) 0 w.records (omega arith) h

module _ (head : Head) (es : List Entry) (g : Ground head es) where
  bare-along : OnCourse (world head es) × IsBare (world head es)
  bare-along = along head (λ w. OnCourse w × IsBare w)
      (λ w e al h. (on_course-after head w e al h.0, bare-by head w e.who e.act al.2 h.0 h.1)) es (on_course-start head, λ c e. refl) g

  pub no-marks : (c : Conn) → (world head es).unit c ≡ None → (world head es).marks c ≡ []
  no-marks = bare-along.1

  begun-made : (world head es).begun ≤ (world head es).made
  begun-made = along head (λ w. w.begun ≤ w.made) (λ w e al h. begun-turn w (turn_of e.who e.act) h) es (omega arith) g

  pub begun-few : (world head es).begun ≤ length es
  begun-few = let made = made-is head es in let le = begun-made in omega (arith, made, le)
