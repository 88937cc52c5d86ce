-- Along a history what a statement needs of the locks on tables is held, awaited, or asked for by its own parts first.
use Rattle.std.proofs.Common.{◌≡◌, ℕ, Bool, true, false, ◌&&◌, List, [], ◌∷◌, refl, sym, subst, Some, None, Option, option_map, if◌then◌else◌}
use Rattle.std.specs.List.{list_all}
use Rattle.iso_conduct.proofs.FrontsAlong.{goes-on, may-made}
use Rattle.iso_conduct.proofs.Needs.{AllNeed, HeardOk, Locked, ToldOk, Within, more, need-told, need-told_all}
use Rattle.iso_conduct.proofs.NeedsBegin.{begin-needs}
use Rattle.iso_conduct.proofs.Open.{eq-is, eq-same}
use Rattle.iso_conduct.proofs.Promised.{Promised, promised-stays}
use Rattle.iso_conduct.specs.Conduct.{Conduct, ConductFrom, Does, MayIn, ends, has_left, heard, is_by, made, moved, moved_by, moved_in, opened, point, point_after, point_from, quiet, quiet_back, quiet_claim, quieted, ready, statement_at}
use Rattle.iso_conduct.specs.Parts.{Part}
use Rattle.iso_conduct.specs.Points.{Point, due, start_point, told_all, told_point}
use Rattle.iso_conduct.specs.declared.moves.Move.{Move}
use Rattle.iso_conduct.specs.declared.moves.Told.{Told}
use Rattle.iso_history.proofs.whole.Sound.{sound-after, start-sound}
use Rattle.iso_history.specs.After.{after, start, world, world_from}
use Rattle.iso_history.specs.Facts.{IsSound, LocksSound}
use Rattle.iso_history.specs.Legal.{Allowed, ByAgent, Ground, GroundFrom}
use Rattle.iso_history.specs.Makers.{by_agent}
use Rattle.iso_history.specs.Marks.{mark_of}
use Rattle.iso_history.specs.Phases.{phase}
use Rattle.iso_history.specs.World.{World}
use Rattle.iso_history.specs.declared.entry.Act.{Act}
use Rattle.iso_history.specs.declared.entry.Entry.{Entry}
use Rattle.iso_history.specs.declared.entry.Who.{Who}
use Rattle.iso_history.specs.declared.entry.Who.TheVariants.{Agent, Dispatcher}
use Rattle.iso_script.specs.Sound.{is_sound_line}
use Rattle.iso_script.specs.declared.script.Line.{Line}
use Rattle.iso_sql.specs.declared.statement.Statement.{Statement}
use Rattle.iso_standing.proofs.Hearing.{IsOk, made-ok}
use Rattle.iso_standing.proofs.SoundLines.{sound-at}
use Rattle.iso_standing.proofs.Writing.{AllWrite, begin-writes, write-more, write-told, write-told_all}
use Rattle.iso_types.specs.Ids.{conn_eq}
use Rattle.iso_types.specs.declared.desk.Phase.{Phase}
use Rattle.iso_types.specs.declared.desk.Phase.TheVariants.{Closing, Idle, Rolling, Running}
use Rattle.iso_types.specs.declared.head.Head.{Head}
use Rattle.iso_types.specs.declared.value.Conn.{Conn}

module _ (head : Head) where
  -- what all parts need, those that change rows with it
  abbrev pub Suits : Locked → List Part → Type 0
  Suits g ps = AllNeed head g ps × AllWrite head g ps

  pub suits-more : (g h : Locked) → Within g h → (ps : List Part) → Suits g ps → Suits h ps
  suits-more g h le ps n = (more head g h le ps n.0, write-more head g h le ps n.1)

  suits-told : (g : Locked) (p : Point) (t : Told) → Suits g p.left → ToldOk head g p.left t → Suits g (told_point p t).left
  suits-told g p t n ok = (need-told head g p t n.0 ok, write-told head g p t n.1 ok)

  suits-told_all : (g : Locked) (p : Point) (ts : List Told) → Suits g p.left → HeardOk head g p ts → Suits g (told_all p ts).left
  suits-told_all g p ts n ok = (need-told_all head g p ts n.0 ok, write-told_all head g p ts n.1 ok)

module _ (head : Head) (lines : List Line) (c : Conn) (sound : list_all (is_sound_line head) lines ≡ true) where
  -- what the statement needs, where there is a point
  abbrev pub SuitsAt : World → Option Point → Type 0
  SuitsAt w None = Unit {0}
  SuitsAt w (Some p) = Suits head (Promised w c) p.left

  abbrev QuietOk : Locked → List Part → Option Told → Type 0
  QuietOk g ps None = Unit {0}
  QuietOk g ps (Some t) = ToldOk head g ps t

  quiet_claim-ok : (g : Locked) (ps : List Part) (ph : Phase) (doom : Option ℕ) → QuietOk g ps (quiet_claim ph doom)
  quiet_claim-ok g ps Rolling None = tt
  quiet_claim-ok g ps Rolling (Some reason) = tt
  quiet_claim-ok g ps _ doom = tt

  quiet_back-ok : (g : Locked) (ps : List Part) (o : Option ℕ) → QuietOk g ps (quiet_back o)
  quiet_back-ok g ps None = tt
  quiet_back-ok g ps (Some at) = tt

  quiet-ok : (g : Locked) (ps : List Part) (w : World) (m : Move) → QuietOk g ps (quiet w c m)
  quiet-ok g ps w Move.Claim = quiet_claim-ok g ps (phase w c) (w.doom c)
  quiet-ok g ps w (Move.Undo floor) = go (has_left w c floor)
    where
      go : (b : Bool) → QuietOk g ps (if b then None else Some (Told.Undone false))
      go true = tt
      go false = tt
  quiet-ok g ps w (Move.Back name) = quiet_back-ok g ps (mark_of (w.marks c) name)
  quiet-ok g ps w _ = tt

  abbrev told_by : Point → Option Told → Point
  told_by p o = elim o [ None ↦ p | Some t ↦ told_point p t ]

  suits-told_by : (g : Locked) (p : Point) (o : Option Told) → Suits head g p.left → QuietOk g p.left o → Suits head g (told_by p o).left
  suits-told_by g p None n ok = n
  suits-told_by g p (Some t) n ok = suits-told head g p t n ok

  suits-quieted : (w : World) (p : Point) → Suits head (Promised w c) p.left → Suits head (Promised w c) (quieted w c p).left
  suits-quieted w p n = suits-told_by (Promised w c) p (quiet w c (due p)) n (quiet-ok (Promised w c) p.left w (due p))

  suits-started : (w : World) (o : Option Statement) → statement_at lines c (w.line c) ≡ o
      → SuitsAt w (option_map (start_point head c (w.setting c) (w.floor c)) o)
  suits-started w None e = tt
  suits-started w (Some s) e = (
    begin-needs head (Promised w c) c (w.setting c) s (sound-at head c lines sound (w.line c) s e),
    begin-writes head (Promised w c) c (w.setting c) s,
  )

  suits-opened : (w : World) (o : Option Point) → SuitsAt w o → SuitsAt w (opened head lines w c o)
  suits-opened w (Some p) n = n
  suits-opened w None n = suits-started w (statement_at lines c (w.line c)) refl

  suits-twice : (w : World) (o : Option Point) → SuitsAt w o → SuitsAt w (option_map (λ p. quieted w c (quieted w c p)) o)
  suits-twice w None n = tt
  suits-twice w (Some p) n = suits-quieted w (quieted w c p) (suits-quieted w p n)

  pub suits-ready : (w : World) (o : Option Point) → SuitsAt w o → SuitsAt w (ready head lines w c o)
  suits-ready w o n = suits-twice w (opened head lines w c o) (suits-opened w o n)

  -- an own entry that does not end the statement
  suits-made : (w : World) (q : Option Point) (a : Act) → LocksSound head w → Allowed head w (by_agent c a) → ends a ≡ false
      → ((p : Point) → q ≡ Some p → made head w c p ≡ a) → SuitsAt w q
      → SuitsAt (after head w (by_agent c a)) (option_map (λ p. told_all p (heard w (after head w (by_agent c a)) c a)) q)
  suits-made w None a s al goes is n = tt
  suits-made w (Some p) a s al goes is n =
      let v = after head w (by_agent c a) in
      let same = is p refl in
      suits-told_all head (Promised v c) p (heard w v c a)
      (suits-more head (Promised w c) (Promised v c) (promised-stays head w c s (by_agent c a) al (rw (eq-same c, goes) refl)) p.left n)
      (subst (IsOk head c w s p) same (made-ok head c w s p (subst (ByAgent head w c) (sym same) al.2.1)))

  suits-own : (w : World) (o : Option Point) (a : Act) (f : Phase) → LocksSound head w → Allowed head w (by_agent c a) → MayIn f head lines w c o a
      → SuitsAt w o → SuitsAt (after head w (by_agent c a)) (moved_in f head lines w (after head w (by_agent c a)) c o a)
  suits-own w o a f s al m n = by f m
    where
      goes : (f : Phase) → (f ≡ Closing → ⊥) → MayIn f head lines w c o a → (b : Bool) → ends a ≡ b
          → SuitsAt (after head w (by_agent c a)) (moved_by b w (after head w (by_agent c a)) c (ready head lines w c o) a)
      goes f k m true e = tt
      goes f k m false e = suits-made w (ready head lines w c o) a s al e (may-made head lines w c f o a (goes-on a e) k m) (suits-ready w o n)

      by : (f : Phase) → MayIn f head lines w c o a → SuitsAt (after head w (by_agent c a)) (moved_in f head lines w (after head w (by_agent c a)) c o a)
      by Closing m = tt
      by Running m = goes Running (λ e. cc) m (ends a) refl
      by Phase.Waiting m = goes Phase.Waiting (λ e. cc) m (ends a) refl
      by Rolling m = goes Rolling (λ e. cc) m (ends a) refl
      by Idle m = absurd m
      by Phase.Ended m = absurd m

  -- others' entries leave it
  suits-stays : (w : World) (o : Option Point) (e : Entry) → LocksSound head w → Allowed head w e → (is_by c e.who && ends e.act) ≡ false
      → SuitsAt w o → SuitsAt (after head w e) o
  suits-stays w None e s al goes n = tt
  suits-stays w (Some p) e s al goes n = suits-more head (Promised w c) (Promised (after head w e) c) (promised-stays head w c s e al goes) p.left n

  suits-after : (w : World) (o : Option Point) (e : Entry) → LocksSound head w → Allowed head w e → Does head lines w c o e → SuitsAt w o
      → SuitsAt (after head w e) (point_after head lines w c o e)
  suits-after w o e s al d n = go e.who e.act al d
    where
      go : (who : Who) (a : Act) → Allowed head w (record { who = who; act = a }) → Does head lines w c o (record { who = who; act = a })
          → SuitsAt (after head w (record { who = who; act = a })) (point_after head lines w c o (record { who = who; act = a }))
      go Dispatcher a al d = suits-stays w o (record { who = Dispatcher; act = a }) s al refl n
      go (Agent k) a al d = by (conn_eq k c) refl
        where
          by : (b : Bool) → conn_eq k c ≡ b
              → SuitsAt (after head w (by_agent k a)) (if b then moved head lines w (after head w (by_agent k a)) c o a else o)
          by true e =
              let same = eq-is k c e in
              subst (λ z. SuitsAt (after head w (by_agent z a)) (moved head lines w (after head w (by_agent z a)) c o a)) (sym same)
              (suits-own w o a (phase w c) s (subst (λ z. Allowed head w (by_agent z a)) same al) (d e) n)
          by false e = suits-stays w o (by_agent k a) s al (rw e refl) n

  pub suits-along : (w : World) (o : Option Point) (es : List Entry) → IsSound head w → GroundFrom head w es → ConductFrom head lines w c o es
      → SuitsAt w o → SuitsAt (world_from head w es) (point_from head lines w c o es)
  unfolding GroundFrom ConductFrom world_from point_from
  suits-along w o [] s g k n = n
  suits-along w o (e ∷ es) s g k n =
      suits-along (after head w e) (point_after head lines w c o e) es (sound-after head w e g.0 s) g.1 k.1 (suits-after w o e s.locks g.0 k.0 n)

  -- so in every history of sound lines
  pub suits-hold : (es : List Entry) → Ground head es → Conduct head lines es c → SuitsAt (world head es) (point head lines es c)
  unfolding Ground Conduct world point
  suits-hold es g k = suits-along (start head) None es (start-sound head) g k tt
