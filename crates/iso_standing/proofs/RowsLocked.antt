-- A row that a statement has locked for writing, or awaits, stays so until its unit ends or it has to roll back.
use Rattle.std.proofs.Common.{◌≡◌, ◌⊎◌, inl, inr, Bool, true, false, ◌&&◌, ◌||◌, List, [], ◌∷◌, refl, ap, sym, ◌∙◌, subst, is_some, Some, None, Option}
use Rattle.std.specs.Option.{option_map_or}
use Rattle.std.specs.Prelude.{if◌then◌else◌, is_none}
use Rattle.iso_conduct.proofs.Open.{eq-is}
use Rattle.iso_conduct.specs.Conduct.{ends, is_by}
use Rattle.iso_history.proofs.facts.Lasting.{drops, write_lock-stays}
use Rattle.iso_history.proofs.facts.Others.{wait-others}
use Rattle.iso_history.proofs.locks.Modes.{covers-lower}
use Rattle.iso_history.proofs.pending.Conns.{row_name-same}
use Rattle.iso_history.proofs.pending.Dues.{added-new, added-raised}
use Rattle.iso_history.proofs.pending.Kept.{keeps-briefs, keeps-of}
use Rattle.iso_history.proofs.pending.ModeTests.{at_least-second}
use Rattle.iso_history.proofs.pending.WritesPlaced.{held-settled}
use Rattle.iso_history.specs.After.{after}
use Rattle.iso_history.specs.Facts.{LocksSound, has_write_lock, keeps_mode}
use Rattle.iso_history.specs.Holds.{hand_of, holds_by_agent, holds_by_hand, spared}
use Rattle.iso_history.specs.Holds.Hand.{Leaves, Places}
use Rattle.iso_history.specs.Legal.{Allowed, By}
use Rattle.iso_history.specs.Phases.{doom_by, doom_of, doom_of_dispatcher, phase, phase_of}
use Rattle.iso_history.specs.Requests.{is_row_mode}
use Rattle.iso_history.specs.Waits.{joining_of_dispatcher, waits_by}
use Rattle.iso_history.specs.World.{World}
use Rattle.iso_history.specs.declared.entry.Act.{Act}
use Rattle.iso_history.specs.declared.entry.Act.TheVariants.{Claim}
use Rattle.iso_history.specs.declared.entry.Entry.{Entry}
use Rattle.iso_history.specs.declared.entry.Who.{Who}
use Rattle.iso_history.specs.declared.entry.Who.TheVariants.{Agent, Dispatcher}
use Rattle.iso_modes.specs.Modes.{at_least, covers}
use Rattle.iso_modes.specs.Terms.{is_kept}
use Rattle.iso_modes.specs.declared.Mode.{Mode}
use Rattle.iso_modes.specs.declared.Mode.TheVariants.{X}
use Rattle.iso_modes.specs.declared.Term.{Term}
use Rattle.iso_modes.specs.declared.Term.TheVariants.{Brief, Fresh, Kept}
use Rattle.iso_queue.specs.Locks.{Hold, Request, added, hold_on, is_covered, settled, without_briefs}
use Rattle.iso_queue.specs.Queues.{Wait, wait_of}
use Rattle.iso_types.specs.Ids.{conn_eq}
use Rattle.iso_types.specs.declared.desk.Phase.TheVariants.{Running}
use Rattle.iso_types.specs.declared.head.Head.{Head}
use Rattle.iso_types.specs.declared.value.Conn.{Conn}
use Rattle.iso_types.specs.declared.value.Name.TheVariants.{Row, Table}
use Rattle.iso_types.specs.declared.value.Rid.{Rid}
use Rattle.iso_types.specs.declared.value.TableId.{TableId}
use Rattle.iso_standing.proofs.GoingOn.{awaits-dispatcher, doom-stays, drops-ends, not-dropped, unlifted, waiting-claims, waits-phase}

-- the connection awaits the row, and will keep it in X
abbrev pub AwaitsRow : World → Conn → TableId → Rid → Type 0
AwaitsRow w c t r =
    (x : Wait) × (wait_of w.waits c ≡ Some x) × (x.name ≡ Row t r) × (at_least x.target X ≡ true) × (is_kept x.term ≡ true)

-- it may write the row, awaits that, or has to roll back and then needs no row
abbrev pub LocksRow : Head → World → Conn → TableId → Rid → Type 0
LocksRow head w c t r = (has_write_lock head w.holds c t r ≡ true) ⊎ (AwaitsRow w c t r ⊎ (is_some (w.doom c) ≡ true))

module _ (head : Head) (w : World) (c : Conn) (s : LocksSound head w) where
  -- a row that is placed in X, to be kept, may be written
  pub placed-writes : (a : Act) → By head w (Agent c) a → ends a ≡ false → (t : TableId) (r : Rid) (m : Mode) (term : Term)
      → hand_of head w c a ≡ Places (record { name = Row t r; mode = m; term = term } ∷ []) → at_least m X ≡ true → is_kept term ≡ true
      → has_write_lock head (holds_by_agent head w c a) c t r ≡ true
  unfolding is_row_mode
  placed-writes a al goes t r m term is e lasting = go (is_covered head mid c (Row t r) m) refl
    where
      mid : List Hold
      mid = settled c (spared a (w.last c)) w.holds

      req : Request
      req = record { name = Row t r; mode = m; term = term }

      stays : drops head w c (Agent c) a → ⊥
      stays d = false-true (sym goes ∙ drops-ends head w c a d.1)
        where
          false-true : false ≡ true → ⊥
          false-true k = cc

      lower : (o : Option Mode) → option_map_or (λ h. covers h m) o false ≡ true → option_map_or (λ h. covers h X) o false ≡ true
      lower None k = k
      lower (Some h) k = covers-lower h m X k e refl

      covered : is_covered head mid c (Row t r) m ≡ true → has_write_lock head (holds_by_agent head w c a) c t r ≡ true
      covered k =
          let old = ap (λ o. option_map_or (λ h. covers h m) o false) (sym (held-settled head c (spared a (w.last c)) w.holds c (Table t))) ∙ k in
          write_lock-stays head w (Agent c) a al s c t r stays (rw (lower _ old) refl)

      kept-now : keeps_mode (added mid c req) c (Row t r) X ≡ true
      kept-now = at_hold (hold_on mid c (Row t r)) refl
        where
          at_term : (k : Term) → is_kept (if is_kept k then Kept else term) ≡ true
          at_term Kept = refl
          at_term Fresh = lasting
          at_term Brief = lasting

          at_hold : (o : Option Hold) → hold_on mid c (Row t r) ≡ o → keeps_mode (added mid c req) c (Row t r) X ≡ true
          at_hold None q = keeps-of (λ k. at_least k X) (added mid c req) c (Row t r) _ (added-new mid c req (row_name-same t r) q) lasting e
          at_hold (Some h) q = keeps-of (λ k. at_least k X) (added mid c req) c (Row t r) _ (added-raised mid c req h q) (at_term h.term)
              (at_least-second X h.mode m e)

      second : (x y : Bool) → y ≡ true → (x || y) ≡ true
      second true y k = refl
      second false y k = k

      go : (b : Bool) → is_covered head mid c (Row t r) m ≡ b → has_write_lock head (holds_by_agent head w c a) c t r ≡ true
      go true k = covered k
      go false k = second (is_covered head (holds_by_agent head w c a) c (Row t r) X) _
          (subst (λ hs. keeps_mode hs c (Row t r) X ≡ true) (sym after_is)
          (keeps-briefs head (λ z. at_least z X) w.holds c (added mid c req) c (Row t r) kept-now))
        where
          open_out : holds_by_hand head c (Places (req ∷ [])) mid ≡ added mid c req
          open_out = rw k refl

          after_is : holds_by_agent head w c a ≡ without_briefs w.holds c (added mid c req)
          after_is = ap (λ h. without_briefs w.holds c (holds_by_hand head c h mid)) is ∙ ap (without_briefs w.holds c) open_out

  -- what is awaited goes on to be, or is locked by the Claim
  awaits-stays : (who : Who) (a : Act) → By head w who a → (is_by c who && ends a) ≡ false → (t : TableId) (r : Rid) → AwaitsRow w c t r
      → LocksRow head (after head w (record { who = who; act = a })) c t r
  awaits-stays Dispatcher a al goes t r p = go (awaits-dispatcher w c a p.0 p.1)
    where
      go : (wait_of (waits_by w (joining_of_dispatcher w a)) c ≡ Some p.0) ⊎ (is_some (doom_by w.doom (doom_of_dispatcher w a) c) ≡ true)
          → LocksRow head (after head w (record { who = Dispatcher; act = a })) c t r
      go (inl e) = inr (inl (p.0, e, p.2, p.3, p.4))
      go (inr e) = inr (inr e)
  awaits-stays (Agent d) a al goes t r p = go (conn_eq d c) refl goes
    where
      claim-writes : By head w (Agent c) Claim → has_write_lock head (holds_by_agent head w c Claim) c t r ≡ true
      claim-writes by = placed-writes Claim by refl t r p.0.target p.0.term
          (ap (λ o. option_map_or (λ (y : Wait). Places (record { name = y.name; mode = y.target; term = y.term } ∷ [])) o Leaves) p.1
          ∙ ap (λ z. Places (record { name = z; mode = p.0.target; term = p.0.term } ∷ [])) p.2) p.3 p.4

      own : (d ≡ c) → ends a ≡ false → LocksRow head (after head w (record { who = Agent d; act = a })) c t r
      own same goes =
          let by : By head w (Agent c) a = subst (λ z. By head w (Agent z) a) same al in
          let is : a ≡ Claim = waiting-claims head w c a (waits-phase w c p.0 s.open_waits p.1) by.1 goes in
          inl (subst (λ z. has_write_lock head (holds_by_agent head w z a) c t r ≡ true) (sym same)
          (subst (λ z. has_write_lock head (holds_by_agent head w c z) c t r ≡ true) (sym is) (claim-writes (subst (By head w (Agent c)) is by))))

      go : (b : Bool) → conn_eq d c ≡ b → (b && ends a) ≡ false → LocksRow head (after head w (record { who = Agent d; act = a })) c t r
      go true e g = own (eq-is d c e) g
      go false e g = inr (inl (p.0, wait-others w d c a e ∙ p.1, p.2, p.3, p.4))

  -- so what is locked, or awaited, stays so
  pub locked-stays : (e : Entry) → Allowed head w e → (is_by c e.who && ends e.act) ≡ false → (t : TableId) (r : Rid) → LocksRow head w c t r
      → LocksRow head (after head w e) c t r
  locked-stays e al goes t r (inl h) = inl (write_lock-stays head w e.who e.act al.2 s c t r (not-dropped head w c e.who e.act goes) h)
  locked-stays e al goes t r (inr (inl h)) = awaits-stays e.who e.act al.2 goes t r h
  locked-stays e al goes t r (inr (inr h)) = inr (inr (doom-stays w.doom c (doom_of w e.who e.act) (unlifted w c e.who e.act goes) h))

-- where the connection runs it is locked
pub running-locks : (head : Head) (w : World) (c : Conn) → phase w c ≡ Running → (t : TableId) (r : Rid) → LocksRow head w c t r
    → has_write_lock head w.holds c t r ≡ true
running-locks head w c runs t r (inl h) = h
running-locks head w c runs t r (inr (inl h)) = absurd (waits (w.ended c) (w.closing c) (is_some (w.doom c)) (is_none (w.line c)) (wait_of w.waits c) h.1 runs)
  where
    waits : (a b d e : Bool) (o : Option Wait) → o ≡ Some h.0 → phase_of a b d (is_some o) e ≡ Running → ⊥
    waits true b d e o q k = cc
    waits false true d e o q k = cc
    waits false false true e o q k = cc
    waits false false false e None q k = cc
    waits false false false e (Some x) q k = cc
running-locks head w c runs t r (inr (inr h)) =
    absurd (doomed (w.ended c) (w.closing c) (is_some (w.doom c)) (is_some (wait_of w.waits c)) (is_none (w.line c)) h runs)
  where
    doomed : (a b d s e : Bool) → d ≡ true → phase_of a b d s e ≡ Running → ⊥
    doomed true b d s e q k = cc
    doomed false true d s e q k = cc
    doomed false false true s e q k = cc
    doomed false false false s e q k = cc
