-- The scan of an open statement along a history.
use Rattle.std.proofs.Common.{◌≡◌, inl, inr, ℕ, Bool, true, false, ◌||◌, List, [], ◌∷◌, refl, sym, subst, Option, Some, None, arith, if◌then◌else◌}
use Rattle.std.specs.List.{list_all, list_any}
use Rattle.std.specs.Option.{option_map}
use Rattle.iso_agent.proofs.LookMade.{IsScanStep, heard-shows, made-look, steps_scan}
use Rattle.iso_agent.proofs.ScanLooks.{IsLater, looking, shown-sound, sound-later, walking}
use Rattle.iso_agent.proofs.ScanSteps.{found-sound, tells_scan, told-sound}
use Rattle.iso_agent.proofs.ScansBegin.{start-sound, statement-sound}
use Rattle.iso_agent.specs.Scans.{IsSoundPoint}
use Rattle.iso_conduct.proofs.FrontsAlong.{may-made}
use Rattle.iso_conduct.specs.Conduct.{Conduct, ConductFrom, Does, MayIn, ends, has_left, heard, is_by, made, moved_by, moved_in, opened, point, point_after, point_from, quiet, quiet_back, quiet_claim, quieted, ready, statement_at, stops_for_memory}
use Rattle.iso_conduct.specs.Outcomes.{act_of}
use Rattle.iso_conduct.specs.Points.{Point, due, row_due, rows_due, start_point, told_all, told_point}
use Rattle.iso_conduct.specs.declared.moves.Move.{Move}
use Rattle.iso_conduct.specs.declared.moves.Told.{Told}
use Rattle.iso_history.proofs.phantoms.Slots.{slots-grow}
use Rattle.iso_history.specs.After.{after, start, world, world_from}
use Rattle.iso_history.specs.Legal.{Ground, GroundFrom}
use Rattle.iso_history.specs.Looks.{shown}
use Rattle.iso_history.specs.Marks.{mark_of}
use Rattle.iso_history.specs.Phases.{phase}
use Rattle.iso_history.specs.Units.{unit_of_maker}
use Rattle.iso_history.specs.Stops.{is_full}
use Rattle.iso_history.specs.Versions.{change_of}
use Rattle.iso_history.specs.World.{World}
use Rattle.iso_history.specs.declared.entry.Act.{Act}
use Rattle.iso_history.specs.declared.entry.Act.TheVariants.{Stopped}
use Rattle.iso_history.specs.declared.entry.Cause.TheVariants.{History}
use Rattle.iso_history.specs.declared.entry.Entry.{Entry}
use Rattle.iso_history.specs.declared.entry.Who.TheVariants.{Agent}
use Rattle.iso_script.specs.Sound.{IsSoundHead, is_sound_line}
use Rattle.iso_script.specs.declared.script.Line.{Line}
use Rattle.iso_sql.specs.declared.statement.Statement.{Statement}
use Rattle.iso_standing.proofs.NextsAt.{found-pair}
use Rattle.iso_standing.proofs.Slotted.{AreSlotted, Filled, filled-after, filled-start}
use Rattle.iso_types.specs.declared.desk.Phase.{Phase}
use Rattle.iso_types.specs.declared.desk.Phase.TheVariants.{Closing, Idle, Rolling, Running}
use Rattle.iso_types.specs.declared.head.Head.{Head}
use Rattle.iso_types.specs.declared.value.Conn.{Conn}

-- an entry leaves no fewer slots
pub later : (head : Head) (w : World) (e : Entry) → IsLater w (after head w e)
later head w e = record { slots = λ t. slots-grow w (unit_of_maker w e.who) (change_of e.act) t; made = omega arith }

-- what is told without an entry shows no row, and no entry
quiet-shows : (w : World) (c : Conn) (m : Move) (t : Told) → quiet w c m ≡ Some t → tells_scan t ≡ false
quiet-shows w c Move.Claim t e = ended (phase w c) (w.doom c) e
  where
    ended : (f : Phase) (o : Option ℕ) → quiet_claim f o ≡ Some t → tells_scan t ≡ false
    ended Rolling (Some reason) h = let q : Told.Ended reason ≡ t = cc in subst (λ x. tells_scan x ≡ false) q refl
    ended _ _ h = absurd (cc)
quiet-shows w c (Move.Undo floor) t e = undone (has_left w c floor) e
  where
    undone : (b : Bool) → (if b then None else Some (Told.Undone false)) ≡ Some t → tells_scan t ≡ false
    undone true h = absurd (cc)
    undone false h = let q : Told.Undone false ≡ t = cc in subst (λ x. tells_scan x ≡ false) q refl
quiet-shows w c (Move.Back name) t e = back (mark_of (w.marks c) name) e
  where
    back : (o : Option ℕ) → quiet_back o ≡ Some t → tells_scan t ≡ false
    back None h = let q : Told.Floor None ≡ t = cc in subst (λ x. tells_scan x ≡ false) q refl
    back (Some at) h = absurd (cc)
quiet-shows w c _ t e = absurd (cc)

-- an entry that does not end its statement is no stop
ends-not : (a : Act) → ends a ≡ false → stops_for_memory a ≡ false
ends-not (Stopped cause) e = absurd (cc)
ends-not _ e = refl

module _ (head : Head) (lines : List Line) (c : Conn) (good : IsSoundHead head) (sound : list_all (is_sound_line head) lines ≡ true) where
  abbrev SoundAt : World → Option Point → Type 0
  SoundAt w None = Unit {0}
  SoundAt w (Some p) = IsSoundPoint head w p

  abbrev told_by : Point → Option Told → Point
  told_by p o = elim o [ None ↦ p | Some t ↦ told_point p t ]

  quieted-sound : (w : World) (p : Point) → IsSoundPoint head w p → IsSoundPoint head w (quieted w c p)
  quieted-sound w p g = go (quiet w c (due p)) refl
    where
      go : (o : Option Told) → quiet w c (due p) ≡ o → IsSoundPoint head w (quieted w c p)
      go None e = subst (λ x. IsSoundPoint head w (told_by p x)) (sym e) g
      go (Some t) e = subst (λ x. IsSoundPoint head w (told_by p x)) (sym e) (told-sound head w p t (quiet-shows w c (due p) t e) g)

  opened-sound : (w : World) (o : Option Point) → SoundAt w o → SoundAt w (opened head lines w c o)
  opened-sound w (Some p) g = g
  opened-sound w None g = go (statement_at lines c (w.line c)) refl
    where
      go : (s : Option Statement) → statement_at lines c (w.line c) ≡ s → SoundAt w (option_map (start_point head c (w.setting c) (w.floor c)) s)
      go None e = tt
      go (Some s) e = start-sound head w good c (w.setting c) (w.floor c) s (statement-sound head lines c (w.line c) s sound e)

  ready-sound : (w : World) (o : Option Point) → SoundAt w o → SoundAt w (ready head lines w c o)
  ready-sound w o g = go (opened head lines w c o) (opened-sound w o g)
    where
      go : (q : Option Point) → SoundAt w q → SoundAt w (option_map (λ p. quieted w c (quieted w c p)) q)
      go None g = tt
      go (Some p) g = quieted-sound w (quieted w c p) (quieted-sound w p g)

  all-sound : (w : World) (p : Point) (ts : List Told) → list_any tells_scan ts ≡ false → IsSoundPoint head w p → IsSoundPoint head w (told_all p ts)
  all-sound w p [] e g = g
  all-sound w p (t ∷ ts) e g = let k = neither (tells_scan t) (list_any tells_scan ts) e in all-sound w (told_point p t) ts k.1 (told-sound head w p t k.0 g)
    where
      neither : (a b : Bool) → (a || b) ≡ false → (a ≡ false) × (b ≡ false)
      neither true b h = absurd (cc)
      neither false b h = (refl, h)

  made-sound : (w v : World) (p : Point) → IsLater w v → AreSlotted head w → IsSoundPoint head w p → IsSoundPoint head v (told_all p (heard w v c (made head w c p)))
  made-sound w v p l slotted g = go (is_full head w (record { who = Agent c; act = act }))
    where
      act : Act
      act = act_of head w c (row_due p) (rows_due p) (due p)

      by : IsScanStep w (due p) (act_of head w c (row_due p) (rows_due p) (due p))
          → IsSoundPoint head v (told_all p (heard w v c (act_of head w c (row_due p) (rows_due p) (due p))))
      by (inl m) =
          subst (λ x. IsSoundPoint head v (told_all p (heard w v c x))) (sym m.act_is)
          (shown-sound head w v p m.table m.rid (shown w c m.table m.rid m.want) _ l
          (looking head w p.statement p.kept p.left m.table m.rid m.want m.move_is g.within) m.there g)
      by (inr m) =
          let k = walking head w p.statement p.kept p.left m.index m.range m.at m.guarded m.move_is g.within in
          let lt = slotted m.index k.table (m.key, m.rid) k.on (found-pair w m.index m.range m.at (m.key, m.rid) m.found_is) in
          subst (λ x. IsSoundPoint head v (told_all p (heard w v c x))) (sym m.act_is)
          (sound-later head w v (told_point p (Told.At m.key m.rid)) l (found-sound head w p m.key m.rid (k.finds w p.statement m.rid lt) g))

      by-look : (b : Bool) → steps_scan (act_of head w c (row_due p) (rows_due p) (due p)) ≡ b
          → IsSoundPoint head v (told_all p (heard w v c (act_of head w c (row_due p) (rows_due p) (due p))))
      by-look false e =
          sound-later head w v (told_all p (heard w v c (act_of head w c (row_due p) (rows_due p) (due p)))) l
          (all-sound w p (heard w v c (act_of head w c (row_due p) (rows_due p) (due p))) (heard-shows w v c _ e) g)
      by-look true e = by (made-look head w c (row_due p) (rows_due p) (due p) e)

      go : (b : Bool) → IsSoundPoint head v (told_all p (heard w v c (if b then Stopped History else act_of head w c (row_due p) (rows_due p) (due p))))
      go true = sound-later head w v p l g
      go false = by-look (steps_scan (act_of head w c (row_due p) (rows_due p) (due p))) refl

  moved-sound : (w v : World) (o : Option Point) (a : Act) → IsLater w v → AreSlotted head w → SoundAt w (ready head lines w c o)
      → ((p : Point) → ready head lines w c o ≡ Some p → ends a ≡ false → made head w c p ≡ a) → SoundAt v (moved_by (ends a) w v c (ready head lines w c o) a)
  moved-sound w v o a l slotted g is = go (ends a) refl (ready head lines w c o) refl g
    where
      go : (b : Bool) → ends a ≡ b → (q : Option Point) → ready head lines w c o ≡ q → SoundAt w q → SoundAt v (moved_by b w v c q a)
      go true e q r g = tt
      go false e None r g = tt
      go false e (Some p) r g = subst (λ x. IsSoundPoint head v (told_all p (heard w v c x))) (is p r e) (made-sound w v p l slotted g)

  moved_in-sound : (f : Phase) (w v : World) (o : Option Point) (a : Act) → IsLater w v → AreSlotted head w → SoundAt w o → MayIn f head lines w c o a
      → SoundAt v (moved_in f head lines w v c o a)
  moved_in-sound Closing w v o a l slotted g m = tt
  moved_in-sound Running w v o a l slotted g m =
      moved-sound w v o a l slotted (ready-sound w o g) (λ p r e. may-made head lines w c Running o a (ends-not a e) (λ k. cc) m p r)
  moved_in-sound Phase.Waiting w v o a l slotted g m =
      moved-sound w v o a l slotted (ready-sound w o g) (λ p r e. may-made head lines w c Phase.Waiting o a (ends-not a e) (λ k. cc) m p r)
  moved_in-sound Rolling w v o a l slotted g m =
      moved-sound w v o a l slotted (ready-sound w o g) (λ p r e. may-made head lines w c Rolling o a (ends-not a e) (λ k. cc) m p r)
  moved_in-sound Idle w v o a l slotted g m = absurd m
  moved_in-sound Phase.Ended w v o a l slotted g m = absurd m

  at-later : (w v : World) (o : Option Point) → IsLater w v → SoundAt w o → SoundAt v o
  at-later w v None l g = tt
  at-later w v (Some p) l g = sound-later head w v p l g

  after-sound : (w : World) (o : Option Point) (e : Entry) → AreSlotted head w → Does head lines w c o e → SoundAt w o → SoundAt (after head w e) (point_after head lines w c o e)
  after-sound w o e slotted d g = go (is_by c e.who) refl
    where
      go : (b : Bool) → is_by c e.who ≡ b → SoundAt (after head w e) (if b then moved_in (phase w c) head lines w (after head w e) c o e.act else o)
      go true own = moved_in-sound (phase w c) w (after head w e) o e.act (later head w e) slotted g (d own)
      go false own = at-later w (after head w e) o (later head w e) g

  along-sound : (w : World) (o : Option Point) (es : List Entry) → Filled head w → GroundFrom head w es → ConductFrom head lines w c o es → SoundAt w o
      → SoundAt (world_from head w es) (point_from head lines w c o es)
  unfolding ConductFrom GroundFrom point_from world_from
  along-sound w o [] f al d g = g
  along-sound w o (e ∷ es) f al d g =
      along-sound (after head w e) (point_after head lines w c o e) es (filled-after head w e al.0 f) al.1 d.1 (after-sound w o e f.1 d.0 g)

  reached-sound : (es : List Entry) → Ground head es → Conduct head lines es c → SoundAt (world head es) (point head lines es c)
  unfolding Conduct Ground point world
  reached-sound es al d = along-sound (start head) None es (filled-start head good) al d tt

  -- the point from which the next entry is made
  pub point-sound : (es : List Entry) (p : Point) → Ground head es → Conduct head lines es c
      → ready head lines (world head es) c (point head lines es c) ≡ Some p → IsSoundPoint head (world head es) p
  point-sound es p al d e = subst (SoundAt (world head es)) e (ready-sound (world head es) (point head lines es c) (reached-sound es al d))
