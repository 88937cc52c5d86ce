-- In every legal history each row that an UPDATE or DELETE is to change shows what was kept of it, and is locked before its change.
use Rattle.std.proofs.Common.{◌≡◌, ℕ, Bool, true, false, List, [], ◌∷◌, refl, sym, subst, Some, None, Option, if◌then◌else◌}
use Rattle.std.specs.Option.{option_map}
use Rattle.iso_conduct.proofs.FrontsAlong.{goes-on, may-made, quiet-answers}
use Rattle.iso_conduct.proofs.Open.{eq-is}
use Rattle.iso_conduct.specs.Conduct.{Conduct, ConductFrom, Does, MayIn, ends, has_left, heard, is_by, made, moved, moved_by, moved_in, opened, point, point_after, point_from, quiet, quiet_back, quiet_claim, quieted, ready, statement_at}
use Rattle.iso_conduct.specs.Points.{Point, due, start_point, told_all, told_point}
use Rattle.iso_conduct.specs.declared.moves.Move.{Move}
use Rattle.iso_conduct.specs.declared.moves.Told.{Told}
use Rattle.iso_history.proofs.whole.Journal.{log_sound-after, start-log_sound}
use Rattle.iso_history.proofs.whole.Sound.{sound-after, start-sound}
use Rattle.iso_history.specs.After.{after, start, world, world_from}
use Rattle.iso_history.specs.Facts.{IsSound, LogSound}
use Rattle.iso_history.specs.Fitted.{RowsFit}
use Rattle.iso_history.specs.Legal.{Allowed, Ground, GroundFrom}
use Rattle.iso_history.specs.Makers.{by_agent}
use Rattle.iso_history.specs.Marks.{mark_of}
use Rattle.iso_history.specs.Phases.{phase}
use Rattle.iso_history.specs.World.{World}
use Rattle.iso_history.specs.declared.entry.Act.{Act}
use Rattle.iso_history.specs.declared.entry.Entry.{Entry}
use Rattle.iso_history.specs.declared.entry.Who.{Who}
use Rattle.iso_history.specs.declared.entry.Who.TheVariants.{Agent, Dispatcher}
use Rattle.iso_script.specs.declared.script.Line.{Line}
use Rattle.iso_sql.specs.declared.statement.Statement.{Statement}
use Rattle.iso_standing.proofs.RowTold.{PointRows, RowTold, told-rows}
use Rattle.iso_standing.proofs.RowsAlong.{made-rows, others-leave}
use Rattle.iso_standing.proofs.RowsBegin.{begin-rows}
use Rattle.iso_standing.proofs.RowsFirm.{Firm, seen-once}
use Rattle.iso_standing.proofs.RowsLocked.{LocksRow}
use Rattle.iso_standing.proofs.RowsSeen.{Sees}
use Rattle.iso_types.specs.Ids.{conn_eq}
use Rattle.iso_types.specs.declared.desk.Phase.{Phase}
use Rattle.iso_types.specs.declared.desk.Phase.TheVariants.{Closing, Idle, Rolling, Running}
use Rattle.iso_types.specs.declared.head.Head.{Head}
use Rattle.iso_types.specs.declared.value.Conn.{Conn}

module _ (head : Head) (lines : List Line) (c : Conn) where
  -- what the point needs of the rows, where there is one
  abbrev pub RowsAt : World → Option Point → Type 0
  RowsAt w None = Unit {0}
  RowsAt w (Some p) = PointRows head (Sees w c) (Firm w c) (LocksRow head w c) p

  -- ---- the point from which an entry is made

  abbrev QuietTold : World → Point → Option Told → Type 0
  QuietTold w p None = Unit {0}
  QuietTold w p (Some t) = RowTold head (Sees w c) (Firm w c) (LocksRow head w c) p t

  quiet_claim-told : (w : World) (p : Point) (f : Phase) (doom : Option ℕ) → QuietTold w p (quiet_claim f doom)
  quiet_claim-told w p Rolling None = tt
  quiet_claim-told w p Rolling (Some reason) = tt
  quiet_claim-told w p _ doom = tt

  quiet_back-told : (w : World) (p : Point) (o : Option ℕ) → QuietTold w p (quiet_back o)
  quiet_back-told w p None = tt
  quiet_back-told w p (Some at) = tt

  quiet-told : (w : World) (p : Point) (m : Move) → QuietTold w p (quiet w c m)
  quiet-told w p Move.Claim = quiet_claim-told w p (phase w c) (w.doom c)
  quiet-told w p (Move.Undo floor) = go (has_left w c floor)
    where
      go : (b : Bool) → QuietTold w p (if b then None else Some (Told.Undone false))
      go true = tt
      go false = tt
  quiet-told w p (Move.Back name) = quiet_back-told w p (mark_of (w.marks c) name)
  quiet-told w p _ = tt

  abbrev told_by : Point → Option Told → Point
  told_by p o = elim o [ None ↦ p | Some t ↦ told_point p t ]

  rows-quieted : (w : World) (p : Point) → RowsAt w (Some p) → RowsAt w (Some (quieted w c p))
  rows-quieted w p n = go (quiet w c (due p)) refl (quiet-told w p (due p))
    where
      go : (o : Option Told) → quiet w c (due p) ≡ o → QuietTold w p o → RowsAt w (Some (told_by p o))
      go None e k = n
      go (Some t) e k = told-rows head (Sees w c) (Firm w c) (seen-once w c) (LocksRow head w c) p t (quiet-answers w c (due p) t e) n k

  rows-started : (w : World) (o : Option Statement) → RowsAt w (option_map (start_point head c (w.setting c) (w.floor c)) o)
  rows-started w None = tt
  rows-started w (Some s) = begin-rows head (Sees w c) (Firm w c) (LocksRow head w c) c (w.setting c) s

  rows-opened : (w : World) (o : Option Point) → RowsAt w o → RowsAt w (opened head lines w c o)
  rows-opened w (Some p) n = n
  rows-opened w None n = rows-started w (statement_at lines c (w.line c))

  rows-twice : (w : World) (o : Option Point) → RowsAt w o → RowsAt w (option_map (λ p. quieted w c (quieted w c p)) o)
  rows-twice w None n = tt
  rows-twice w (Some p) n = rows-quieted w (quieted w c p) (rows-quieted w p n)

  pub rows-ready : (w : World) (o : Option Point) → RowsAt w o → RowsAt w (ready head lines w c o)
  rows-ready w o n = rows-twice w (opened head lines w c o) (rows-opened w o n)

  -- ---- entries

  module _ (w : World) (s : IsSound head w) (fit : RowsFit head w.tables) where
    -- an own entry that ends no statement
    rows-made : (q : Option Point) (a : Act) → Allowed head w (by_agent c a) → ends a ≡ false → ((p : Point) → q ≡ Some p → made head w c p ≡ a)
        → RowsAt w q
        → RowsAt (after head w (by_agent c a)) (option_map (λ p. told_all p (heard w (after head w (by_agent c a)) c a)) q)
    rows-made None a al goes is n = tt
    rows-made (Some p) a al goes is n = made-rows head w s c fit p a al goes (is p refl) n

    rows-own : (o : Option Point) (a : Act) (f : Phase) → Allowed head w (by_agent c a) → MayIn f head lines w c o a → RowsAt w o
        → RowsAt (after head w (by_agent c a)) (moved_in f head lines w (after head w (by_agent c a)) c o a)
    rows-own o a f al m n = by f m
      where
        goes : (f : Phase) → (f ≡ Closing → ⊥) → MayIn f head lines w c o a → (b : Bool) → ends a ≡ b
            → RowsAt (after head w (by_agent c a)) (moved_by b w (after head w (by_agent c a)) c (ready head lines w c o) a)
        goes f k m true e = tt
        goes f k m false e = rows-made (ready head lines w c o) a al e (may-made head lines w c f o a (goes-on a e) k m) (rows-ready w o n)

        by : (f : Phase) → MayIn f head lines w c o a → RowsAt (after head w (by_agent c a)) (moved_in f head lines w (after head w (by_agent c a)) c o a)
        by Closing m = tt
        by Running m = goes Running (λ e. cc) m (ends a) refl
        by Phase.Waiting m = goes Phase.Waiting (λ e. cc) m (ends a) refl
        by Rolling m = goes Rolling (λ e. cc) m (ends a) refl
        by Idle m = absurd m
        by Phase.Ended m = absurd m

    -- others' entries leave it
    rows-others : (o : Option Point) (e : Entry) → Allowed head w e → is_by c e.who ≡ false → RowsAt w o → RowsAt (after head w e) o
    rows-others None e al other n = tt
    rows-others (Some p) e al other n = others-leave head w s c e al other p n

    rows-after : (o : Option Point) (e : Entry) → Allowed head w e → Does head lines w c o e → RowsAt w o
        → RowsAt (after head w e) (point_after head lines w c o e)
    rows-after o e al d n = go e.who e.act al d
      where
        go : (who : Who) (a : Act) → Allowed head w (record { who = who; act = a }) → Does head lines w c o (record { who = who; act = a })
            → RowsAt (after head w (record { who = who; act = a })) (point_after head lines w c o (record { who = who; act = a }))
        go Dispatcher a al d = rows-others o (record { who = Dispatcher; act = a }) al refl n
        go (Agent k) a al d = by (conn_eq k c) refl
          where
            by : (b : Bool) → conn_eq k c ≡ b
                → RowsAt (after head w (by_agent k a)) (if b then moved head lines w (after head w (by_agent k a)) c o a else o)
            by true e =
                let same = eq-is k c e in
                subst (λ z. RowsAt (after head w (by_agent z a)) (moved head lines w (after head w (by_agent z a)) c o a)) (sym same)
                (rows-own o a (phase w c) (subst (λ z. Allowed head w (by_agent z a)) same al) (d e) n)
            by false e = rows-others o (by_agent k a) al e n

  -- ---- along a history

  pub rows-along : (w : World) (o : Option Point) (es : List Entry) → IsSound head w → LogSound head w → GroundFrom head w es
      → ConductFrom head lines w c o es → RowsAt w o → RowsAt (world_from head w es) (point_from head lines w c o es)
  unfolding GroundFrom ConductFrom world_from point_from
  rows-along w o [] s l g k n = n
  rows-along w o (e ∷ es) s l g k n =
      rows-along (after head w e) (point_after head lines w c o e) es (sound-after head w e g.0 s) (log_sound-after head w e g.0 s l) g.1 k.1
      (rows-after w s l.fitted o e g.0 k.0 n)

  -- so in every history over rows that fit their tables
  pub rows-hold : (es : List Entry) → RowsFit head (start head).tables → Ground head es → Conduct head lines es c
      → RowsAt (world head es) (point head lines es c)
  unfolding Ground Conduct world point
  rows-hold es fit g k = rows-along (start head) None es (start-sound head) (start-log_sound head fit) g k tt
