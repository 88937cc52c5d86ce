-- An own entry leaves it so that what stands in front goes with the world.
use Rattle.std.proofs.Common.{◌≡◌, ◌⊎◌, inl, inr, ℕ, Bool, true, false, List, [], refl, sym, ◌∙◌, ap, subst, Option, Some, None, option_map}
use Rattle.iso_conduct.proofs.FrontsAlong.{goes-on, may-made}
use Rattle.iso_conduct.proofs.Heard.{made-heard}
use Rattle.iso_conduct.proofs.Open.{eq-same}
use Rattle.iso_conduct.specs.Answers.{AreAnswers}
use Rattle.iso_conduct.specs.Conduct.{IsNext, MayIn, Rolls, closing_act, ends, heard, made, moved_by, moved_in, ready}
use Rattle.iso_conduct.specs.Points.{Point, told_all}
use Rattle.iso_history.specs.After.{after}
use Rattle.iso_history.specs.Lasts.{due_of, last_of}
use Rattle.iso_history.specs.Legal.{ByAgent}
use Rattle.iso_history.specs.Makers.{by_agent}
use Rattle.iso_history.specs.Outcomes.{last_record}
use Rattle.iso_history.specs.Phases.{closing_by, doom_by, doom_of_agent, phase}
use Rattle.iso_history.specs.World.{World}
use Rattle.iso_history.specs.declared.entry.Act.{Act}
use Rattle.iso_history.specs.declared.entry.Act.TheVariants.{Commit, Reply, Rollback, Stopped}
use Rattle.iso_history.specs.declared.entry.Who.TheVariants.{Agent}
use Rattle.iso_script.specs.declared.script.Line.{Line}
use Rattle.iso_standing.proofs.Own.{FateIs, GoesWith, act-made, awaits_table, unfreed}
use Rattle.iso_standing.proofs.OwnActs.{readied-goes, rolled-goes}
use Rattle.iso_standing.proofs.Stands.{StandsAt, is-closing, is-doomed, is-spared, left_at, ready-is, ready-rolls}
use Rattle.iso_types.specs.declared.desk.Phase.{Phase}
use Rattle.iso_types.specs.declared.desk.Phase.TheVariants.{Closing, Idle, Rolling, Running}
use Rattle.iso_types.specs.declared.head.Head.{Head}
use Rattle.iso_types.specs.declared.value.Conn.{Conn}

-- a closing connection stays so
stays-closing : (f : Conn → Bool) (c : Conn) (a : Act) → f c ≡ true → closing_by f (Agent c) a c ≡ true
stays-closing f c (Stopped cause) e = rw (eq-same c) refl
stays-closing f c _ e = e

-- an entry that ends a statement makes no Collapse due, and nothing is awaited
ends-due : (a : Act) (w : World) (c : Conn) → ends a ≡ true → (due_of a (w.last c) ≡ None) × (awaits_table (last_of a) ≡ None)
ends-due (Reply code changed rows) w c e = (refl, refl)
ends-due Commit w c e = (refl, refl)
ends-due (Rollback code reason) w c e = (refl, refl)
ends-due Act.Ended w c e = (refl, refl)
ends-due (Stopped cause) w c e = (refl, refl)
ends-due _ w c e = absurd (cc)

never : true ≡ false → ⊥
never q = cc

module _ (head : Head) (w : World) (c : Conn) where
  -- a doom that is lifted, or none, where the entry ends the statement and the connection does not close
  ends-fate : (a : Act) → ends a ≡ true → ByAgent head w c a → closing_by w.closing (Agent c) a c ≡ false
      → FateIs (doom_by w.doom (doom_of_agent c a) c) []
  ends-fate (Reply code changed rows) e al k = subst (λ o. FateIs o []) (sym (is-spared w c (inl al.0)).1) (inl tt)
  ends-fate Commit e al k = subst (λ o. FateIs o []) (sym (is-spared w c (inl al.0)).1) (inl tt)
  ends-fate (Rollback code reason) e al k = rw (eq-same c) (inl tt)
  ends-fate Act.Ended e al k =
      absurd (never (sym (is-closing w c al.0) ∙ k))
  ends-fate (Stopped cause) e al k = absurd (never (sym closes ∙ k))
    where
      closes : closing_by w.closing (Agent c) (Stopped cause) c ≡ true
      closes = rw (eq-same c) refl
  ends-fate _ e al k = absurd (cc)

  -- the world after an own entry
  due-own : (a : Act) → (after head w (by_agent c a)).due c ≡ due_of a (w.last c)
  due-own a = rw (eq-same c) refl

  last-own : (a : Act) → (after head w (by_agent c a)).last c ≡ last_of a
  last-own a = rw (eq-same c) refl

  -- no statement is left
  nothing-stands : (a : Act) → due_of a (w.last c) ≡ None → awaits_table (last_of a) ≡ None
      → (closing_by w.closing (Agent c) a c ≡ false → FateIs (doom_by w.doom (doom_of_agent c a) c) [])
      → StandsAt (after head w (by_agent c a)) c None
  nothing-stands a d l f = record {
    collapse = ap (option_map (λ q. q.0)) (due-own a ∙ d);
    awaited = ap awaits_table (last-own a) ∙ l;
    frees = unfreed (after head w (by_agent c a)) c [] refl;
    fate = f;
  }

  -- what goes with the parts stands there
  goes-stands : (a : Act) (o : Option Point) → GoesWith head w c a (left_at o) → StandsAt (after head w (by_agent c a)) c o
  goes-stands a o g = record {
    collapse = ap (option_map (λ q. q.0)) (due-own a) ∙ g.collapse;
    awaited = ap awaits_table (last-own a) ∙ g.awaited;
    frees = g.frees;
    fate = λ k. g.fate;
  }

  closing-due : (n : Option ℕ) → (due_of (closing_act n) (w.last c) ≡ None) × (awaits_table (last_of (closing_act n)) ≡ None)
  closing-due None = (refl, refl)
  closing-due (Some n) = (refl, refl)

module _ (head : Head) (lines : List Line) (w : World) (c : Conn) (a : Act) where
  abbrev next : World
  next = after head w (by_agent c a)

  -- the point of a connection that need not roll back
  spared-goes : (o : Option Point) → StandsAt w c o → (phase w c ≡ Rolling → ⊥) → w.closing c ≡ false → w.doom c ≡ None → ends a ≡ false
      → (p : Point) → ready head lines w c o ≡ Some p → made head w c p ≡ a → GoesWith head w c a (told_all p (heard w next c a)).left
  spared-goes o s still k d e p r m =
      let q = ready-is head lines w c still o p r in
      readied-goes head w c d p p.left (q.parts (inl (subst (λ x. FateIs x (left_at o)) d (s.fate k)))) (s.awaited ∙ sym q.awaited) a e
      (act-made head w c p a m e) (subst (λ x. AreAnswers p (heard w next c x)) m (made-heard head w next c p))

  doomed-goes : (o : Option Point) → StandsAt w c o → phase w c ≡ Rolling → w.closing c ≡ false → (n : ℕ) → w.doom c ≡ Some n → ends a ≡ false
      → (p : Point) → ready head lines w c o ≡ Some p → made head w c p ≡ a → GoesWith head w c a (told_all p (heard w next c a)).left
  doomed-goes o s f k n d e p r m =
      rolled-goes head w c n d p p.left (ready-rolls head lines w c n f d o p (subst (λ x. FateIs x (left_at o)) d (s.fate k)) r) a e
      (act-made head w c p a m e)

  no-next : (r : Option Point) → r ≡ None → ends a ≡ false → IsNext head w c r a → ⊥
  no-next None e g m = let q = goes-on a g in cc
  no-next (Some p) e g m = cc

  no-rolls : (r : Option Point) → r ≡ None → Rolls head w c r a → ⊥
  no-rolls None e m = m
  no-rolls (Some p) e m = cc

  -- an own entry of a phase in which a statement is under way
  module _ (o : Option Point) (al : ByAgent head w c a)
      (goes : ends a ≡ false → (p : Point) → ready head lines w c o ≡ Some p → GoesWith head w c a (told_all p (heard w next c a)).left)
      (some : ends a ≡ false → ready head lines w c o ≡ None → ⊥) where
    going : ends a ≡ false → (r : Option Point) → ready head lines w c o ≡ r → StandsAt next c (option_map (λ p. told_all p (heard w next c a)) r)
    going e None r = absurd (some e r)
    going e (Some p) r = goes-stands head w c a (Some (told_all p (heard w next c a))) (goes e p r)

    moved-stands : (b : Bool) → ends a ≡ b → StandsAt next c (moved_by b w next c (ready head lines w c o) a)
    moved-stands true e = let n = ends-due a w c e in nothing-stands head w c a n.0 n.1 (ends-fate head w c a e al)
    moved-stands false e = going e (ready head lines w c o) refl

  pub own-stands : (o : Option Point) → StandsAt w c o → ByAgent head w c a → MayIn (phase w c) head lines w c o a
      → StandsAt next c (moved_in (phase w c) head lines w next c o a)
  own-stands o s al m = by (phase w c) refl m
    where
      spared : (f : Phase) → phase w c ≡ f → (f ≡ Running) ⊎ (f ≡ Phase.Waiting) → (f ≡ Rolling → ⊥) → (f ≡ Closing → ⊥) → MayIn f head lines w c o a
          → ends a ≡ false → (p : Point) → ready head lines w c o ≡ Some p → GoesWith head w c a (told_all p (heard w next c a)).left
      spared f is either still shut m e p r =
          let k = is-spared w c (subst (λ z. (z ≡ Running) ⊎ (z ≡ Phase.Waiting)) (sym is) either) in
          spared-goes o s (λ q. still (sym is ∙ q)) k.0 k.1 e p r (may-made head lines w c f o a (goes-on a e) shut m p r)

      by : (f : Phase) → phase w c ≡ f → MayIn f head lines w c o a → StandsAt next c (moved_in f head lines w next c o a)
      by Running is m = moved-stands o al (spared Running is (inl refl) (λ q. cc) (λ q. cc) m) (λ e r. no-next (ready head lines w c o) r e m) (ends a) refl
      by Phase.Waiting is m =
          moved-stands o al (spared Phase.Waiting is (inr refl) (λ q. cc) (λ q. cc) m) (λ e r. no-next (ready head lines w c o) r e m) (ends a) refl
      by Rolling is m = let k = is-doomed w c is in
          moved-stands o al (λ e p r. doomed-goes o s is k.0 k.1.0 k.1.1 e p r (may-made head lines w c Rolling o a (goes-on a e) (λ q. cc) m p r))
          (λ e r. no-rolls (ready head lines w c o) r m) (ends a) refl
      by Closing is m =
          let closes = is-closing w c is in
          let n = closing-due head w c (last_record w c) in
          nothing-stands head w c a (subst (λ z. due_of z (w.last c) ≡ None) m n.0) (subst (λ z. awaits_table (last_of z) ≡ None) m n.1)
          (λ k. absurd (never (sym (stays-closing w.closing c a closes) ∙ k)))
      by Idle is m = absurd m
      by Phase.Ended is m = absurd m
