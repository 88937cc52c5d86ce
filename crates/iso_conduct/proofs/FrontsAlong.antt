-- Along a history a Claim stands in front of what is left, and nowhere else.
use Rattle.std.proofs.Common.{◌≡◌, ℕ, Bool, true, false, List, [], ◌∷◌, refl, sym, subst, Option, Some, None, if◌then◌else◌}
use Rattle.std.specs.Option.{option_map}
use Rattle.iso_conduct.proofs.Fronts.{IsFront, begins-front, told-front}
use Rattle.iso_conduct.proofs.Heard.{made-heard}
use Rattle.iso_conduct.specs.Answers.{AreAnswers, answers, answers_claim, is_floor, is_undone}
use Rattle.iso_conduct.specs.Conduct.{ConductFrom, Does, IsNext, MayIn, Rolls, ends, has_left, heard, is_by, made, moved_by, moved_in, opened, point_after, point_from, quiet, quiet_back, quiet_claim, quieted, ready, statement_at, stops_for_memory}
use Rattle.iso_conduct.specs.Points.{Point, due, start_point, told_all, told_point}
use Rattle.iso_conduct.specs.declared.moves.Move.{Move}
use Rattle.iso_conduct.specs.declared.moves.Told.{Told}
use Rattle.iso_history.specs.After.{after}
use Rattle.iso_history.specs.Marks.{mark_of}
use Rattle.iso_history.specs.Phases.{phase}
use Rattle.iso_history.specs.World.{World}
use Rattle.iso_history.specs.declared.entry.Act.{Act}
use Rattle.iso_history.specs.declared.entry.Entry.{Entry}
use Rattle.iso_script.specs.declared.script.Line.{Line}
use Rattle.iso_sql.specs.declared.statement.Statement.{Statement}
use Rattle.iso_types.specs.declared.desk.Phase.{Phase}
use Rattle.iso_types.specs.declared.desk.Phase.TheVariants.{Closing, Idle, Rolling, Running}
use Rattle.iso_types.specs.declared.head.Head.{Head}
use Rattle.iso_types.specs.declared.value.Conn.{Conn}

-- the same of a point that may not be there
abbrev pub IsFrontAt : Option Point → Type 0
IsFrontAt None = Unit {0}
IsFrontAt (Some p) = IsFront p.left

-- several answers
all-front : (p : Point) (ts : List Told) → AreAnswers p ts → IsFront p.left → IsFront (told_all p ts).left
all-front p [] a h = h
all-front p (t ∷ ts) a h = all-front (told_point p t) ts a.1 (told-front p t a.0 h)

-- an entry that does not end the statement is no stop for memory
pub goes-on : (a : Act) → ends a ≡ false → stops_for_memory a ≡ false
goes-on (Act.Stopped cause) h = absurd (cc)
goes-on _ h = refl

module _ (w : World) (c : Conn) where
  claim-answers : (f : Phase) (o : Option ℕ) (t : Told) → quiet_claim f o ≡ Some t → answers_claim t ≡ true
  claim-answers Rolling (Some r) t h = let q : Told.Ended r ≡ t = cc in subst (λ x. answers_claim x ≡ true) q refl
  claim-answers Rolling None t h = absurd (cc)
  claim-answers Idle o t h = absurd (cc)
  claim-answers Running o t h = absurd (cc)
  claim-answers Phase.Waiting o t h = absurd (cc)
  claim-answers Closing o t h = absurd (cc)
  claim-answers Phase.Ended o t h = absurd (cc)

  undo-answers : (b : Bool) (t : Told) → (if b then None else Some (Told.Undone false)) ≡ Some t → is_undone t ≡ true
  undo-answers true t h = absurd (cc)
  undo-answers false t h = let q : Told.Undone false ≡ t = cc in subst (λ x. is_undone x ≡ true) q refl

  back-answers : (o : Option ℕ) (t : Told) → quiet_back o ≡ Some t → is_floor t ≡ true
  back-answers None t h = let q : Told.Floor None ≡ t = cc in subst (λ x. is_floor x ≡ true) q refl
  back-answers (Some n) t h = absurd (cc)

  -- what a step answers that records nothing is one of its answers
  pub quiet-answers : (m : Move) (t : Told) → quiet w c m ≡ Some t → answers m t ≡ true
  quiet-answers Move.Claim t h = claim-answers (phase w c) (w.doom c) t h
  quiet-answers (Move.Undo floor) t h = undo-answers (has_left w c floor) t h
  quiet-answers (Move.Back name) t h = back-answers (mark_of (w.marks c) name) t h
  quiet-answers _ t h = absurd (cc)

  abbrev told_by : Point → Option Told → Point
  told_by p o = elim o [ None ↦ p | Some t ↦ told_point p t ]

  pub quieted-front : (p : Point) → IsFront p.left → IsFront (quieted w c p).left
  quieted-front p h = go (quiet w c (due p)) refl
    where
      go : (o : Option Told) → quiet w c (due p) ≡ o → IsFront (quieted w c p).left
      go None e = subst (λ x. IsFront (told_by p x).left) (sym e) h
      go (Some t) e = subst (λ x. IsFront (told_by p x).left) (sym e) (told-front p t (quiet-answers (due p) t e) h)

  twice-front : (o : Option Point) → IsFrontAt o → IsFrontAt (option_map (λ p. quieted w c (quieted w c p)) o)
  twice-front None h = h
  twice-front (Some p) h = quieted-front (quieted w c p) (quieted-front p h)

module _ (head : Head) (lines : List Line) (w : World) (c : Conn) where
  started : (s : Option Statement) → IsFrontAt (option_map (start_point head c (w.setting c) (w.floor c)) s)
  started None = tt
  started (Some s) = begins-front head c (w.setting c) s

  pub opened-front : (o : Option Point) → IsFrontAt o → IsFrontAt (opened head lines w c o)
  opened-front (Some p) h = h
  opened-front None h = started (statement_at lines c (w.line c))

  pub ready-front : (o : Option Point) → IsFrontAt o → IsFrontAt (ready head lines w c o)
  ready-front o h = twice-front w c (opened head lines w c o) (opened-front o h)

  -- the point after the entry that is made
  pub made-front : (v : World) (q : Option Point) (a : Act) → IsFrontAt q → ((p : Point) → q ≡ Some p → made head w c p ≡ a)
      → IsFrontAt (option_map (λ p. told_all p (heard w v c a)) q)
  made-front v None a h is = tt
  made-front v (Some p) a h is =
      all-front p (heard w v c a) (subst (λ x. AreAnswers p (heard w v c x)) (is p refl) (made-heard head w v c p)) h

  pub next-made : (q : Option Point) (a : Act) → stops_for_memory a ≡ false → IsNext head w c q a → (p : Point) → q ≡ Some p → made head w c p ≡ a
  next-made None a n m p e = absurd (cc)
  next-made (Some r) a n m p e = let q : r ≡ p = cc in subst (λ x. made head w c x ≡ a) q (m (rw n refl))

  rolls-made : (q : Option Point) (a : Act) → Rolls head w c q a → (p : Point) → q ≡ Some p → made head w c p ≡ a
  rolls-made None a m p e = absurd m
  rolls-made (Some r) a m p e = let q : r ≡ p = cc in subst (λ x. made head w c x ≡ a) q m

  pub may-made : (f : Phase) (o : Option Point) (a : Act) → stops_for_memory a ≡ false → (f ≡ Closing → ⊥) → MayIn f head lines w c o a
      → (p : Point) → ready head lines w c o ≡ Some p → made head w c p ≡ a
  may-made Running o a n k m = next-made (ready head lines w c o) a n m
  may-made Phase.Waiting o a n k m = next-made (ready head lines w c o) a n m
  may-made Rolling o a n k m = rolls-made (ready head lines w c o) a m
  may-made Closing o a n k m = absurd (k refl)
  may-made Idle o a n k m = absurd m
  may-made Phase.Ended o a n k m = absurd m

  goes-front : (f : Phase) (v : World) (o : Option Point) (a : Act) → IsFrontAt o → (f ≡ Closing → ⊥) → MayIn f head lines w c o a
      → IsFrontAt (moved_by (ends a) w v c (ready head lines w c o) a)
  goes-front f v o a h k m = go (ends a) refl
    where
      go : (b : Bool) → ends a ≡ b → IsFrontAt (moved_by b w v c (ready head lines w c o) a)
      go true e = tt
      go false e = made-front v (ready head lines w c o) a (ready-front o h) (may-made f o a (goes-on a e) k m)

  moved-front : (f : Phase) (v : World) (o : Option Point) (a : Act) → IsFrontAt o → MayIn f head lines w c o a
      → IsFrontAt (moved_in f head lines w v c o a)
  moved-front Closing v o a h m = tt
  moved-front Running v o a h m = goes-front Running v o a h (λ e. cc) m
  moved-front Phase.Waiting v o a h m = goes-front Phase.Waiting v o a h (λ e. cc) m
  moved-front Rolling v o a h m = goes-front Rolling v o a h (λ e. cc) m
  moved-front Idle v o a h m = absurd m
  moved-front Phase.Ended v o a h m = absurd m

  -- an entry leaves it so
  pub after-front : (o : Option Point) (e : Entry) → Does head lines w c o e → IsFrontAt o → IsFrontAt (point_after head lines w c o e)
  after-front o e d h = go (is_by c e.who) refl
    where
      go : (b : Bool) → is_by c e.who ≡ b → IsFrontAt (if b then moved_in (phase w c) head lines w (after head w e) c o e.act else o)
      go true own = moved-front (phase w c) (after head w e) o e.act h (d own)
      go false own = h

-- along a history
pub front-along : (head : Head) (lines : List Line) (w : World) (c : Conn) (o : Option Point) (es : List Entry) → ConductFrom head lines w c o es
    → IsFrontAt o → IsFrontAt (point_from head lines w c o es)
unfolding ConductFrom point_from
front-along head lines w c o [] g h = h
front-along head lines w c o (e ∷ es) g h =
    front-along head lines (after head w e) c (point_after head lines w c o e) es g.1 (after-front head lines w c o e g.0 h)
