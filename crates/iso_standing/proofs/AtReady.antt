-- How a connection that can go on stands at the point from which its next entry is made: it runs, waits and may have its lock, or rolls back.
use Rattle.std.proofs.Common.{◌≡◌, ◌⊎◌, inl, inr, ℕ, Bool, true, false, ◌&&◌, ◌||◌, List, [], ◌∷◌, refl, sym, ◌∙◌, ap, subst, Option, Some, None, option_map}
use Rattle.iso_conduct.proofs.PairedAlong.{running-claims-not, waiting-claims}
use Rattle.iso_conduct.proofs.Queues.{is_claim_next}
use Rattle.iso_conduct.proofs.Quiet.{quiet-twice}
use Rattle.iso_conduct.specs.Conduct.{Conduct, opened, point, quiet, quieted, ready}
use Rattle.iso_conduct.specs.Parts.{Part}
use Rattle.iso_conduct.specs.Points.{Point, due}
use Rattle.iso_history.specs.After.{world}
use Rattle.iso_history.specs.Legal.{Ground}
use Rattle.iso_history.specs.Phases.{is_phase, phase, waits_grantable}
use Rattle.iso_history.specs.World.{World}
use Rattle.iso_history.specs.declared.entry.Entry.{Entry}
use Rattle.iso_queue.specs.Queues.{is_grantable}
use Rattle.iso_script.specs.declared.script.Line.{Line}
use Rattle.iso_standing.proofs.Between.{collapse_of}
use Rattle.iso_standing.proofs.Own.{FateIs, FreesLooked}
use Rattle.iso_standing.proofs.Ready.{Readied, Rolled, RollsBack}
use Rattle.iso_standing.proofs.Stands.{StandsAt, is-doomed, is-spared, left_at, ready-is, ready-rolls}
use Rattle.iso_standing.proofs.StandsAlong.{stands}
use Rattle.iso_standing.proofs.StandsOthers.{next-left}
use Rattle.iso_standing.specs.Going.{GoesOn}
use Rattle.iso_types.specs.declared.desk.Phase.{Phase}
use Rattle.iso_types.specs.declared.desk.Phase.TheVariants.{Closing, Idle, Rolling, Running}
use Rattle.iso_types.specs.declared.head.Head.{Head}
use Rattle.iso_types.specs.declared.value.Conn.{Conn}

-- it runs: what stands in front goes with the world, and is no Claim
pub record RunsAt (w : World) (c : Conn) (p : Point) : Type 0 where
  pub runs : phase w c ≡ Running
  pub claims : is_claim_next p.left ≡ false
  pub collapse : option_map (λ d. d.0) (w.due c) ≡ collapse_of p.left
  pub frees : FreesLooked w c p.left
  pub parts : Readied w c p.left

-- it waits: its Claim comes next, and its lock can be had
pub record WaitsAt (w : World) (c : Conn) (p : Point) : Type 0 where
  pub claims : is_claim_next p.left ≡ true
  pub grantable : waits_grantable w c ≡ true

-- it rolls back: its undos come next, or its Rollback
pub record RollsAt (w : World) (c : Conn) (p : Point) : Type 0 where
  pub rolls : phase w c ≡ Rolling
  pub reason : ℕ
  pub doomed : w.doom c ≡ Some reason
  pub undue : w.due c ≡ None
  pub parts : Rolled w c reason p.left

-- no Collapse is due where none comes next
pub undue-is : {A B : Type 0} (f : A → B) (o : Option A) → option_map f o ≡ None → o ≡ None
undue-is f None e = refl
undue-is f (Some x) e = absurd (never e)
  where
    never : Some (f x) ≡ None → ⊥
    never q = cc

unrolled-collapse : (r : ℕ) (ps : List Part) → RollsBack r ps → collapse_of ps ≡ None
unrolled-collapse r [] h = refl
unrolled-collapse r (Part.Collapses t ∷ ps) (inl e) = absurd (cc)
unrolled-collapse r (Part.Collapses t ∷ ps) (inr e) = absurd (cc)
unrolled-collapse r (x ∷ ps) h = refl

-- an agent is able in a phase, where its lock can be had or not
abbrev able_in : Phase → Bool → Bool
able_in f b = (is_phase f Running || is_phase f Rolling || is_phase f Closing) || (is_phase f Phase.Waiting && b)

-- the first point is told nothing more
pub quiet-at : (head : Head) (lines : List Line) (w : World) (c : Conn) (o : Option Point) (p : Point) → ready head lines w c o ≡ Some p
    → quiet w c (due p) ≡ None
quiet-at head lines w c o p e = go (opened head lines w c o) e
  where
    go : (q : Option Point) → option_map (λ x. quieted w c (quieted w c x)) q ≡ Some p → quiet w c (due p) ≡ None
    go None k = absurd (never k)
      where
        never : None ≡ Some p → ⊥
        never h = cc
    go (Some q) k = let same : quieted w c (quieted w c q) ≡ p = cc in subst (λ z. quiet w c (due z) ≡ None) same (quiet-twice w c q)

module _ (head : Head) (lines : List Line) (es : List Entry) (c : Conn) (g : Ground head es) (k : Conduct head lines es c) (p : Point)
    (is : ready head lines (world head es) c (point head lines es c) ≡ Some p) where
  abbrev here : World
  here = world head es

  abbrev there : Option Point
  there = point head lines es c

  stand : StandsAt here c there
  stand = stands head lines c es g k

  runs : phase here c ≡ Running → RunsAt here c p
  runs f =
      let spared = is-spared here c (inl f) in
      let q = ready-is head lines here c (λ e. other (sym f ∙ e)) there p is in
      record {
        runs = f;
        claims = q.claims ∙ (next-left there ∙ running-claims-not head lines es c k f);
        collapse = stand.collapse ∙ sym q.collapse;
        frees = λ t r e. stand.frees t r (sym q.freed ∙ e);
        parts = q.parts (inl (subst (λ x. FateIs x (left_at there)) spared.1 (stand.fate spared.0)));
      }
    where
      other : Running ≡ Rolling → ⊥
      other e = cc

  waits : phase here c ≡ Phase.Waiting → waits_grantable here c ≡ true → WaitsAt here c p
  waits f able =
      let q = ready-is head lines here c (λ e. other (sym f ∙ e)) there p is in
      record { claims = q.claims ∙ (next-left there ∙ waiting-claims head lines es c k f); grantable = able }
    where
      other : Phase.Waiting ≡ Rolling → ⊥
      other e = cc

  rolls : phase here c ≡ Rolling → RollsAt here c p
  rolls f =
      let doomed = is-doomed here c f in
      let back : RollsBack doomed.1.0 (left_at there) = subst (λ x. FateIs x (left_at there)) doomed.1.1 (stand.fate doomed.0) in
      record {
        rolls = f;
        reason = doomed.1.0;
        doomed = doomed.1.1;
        undue = undue-is (λ d. d.0) (here.due c) (stand.collapse ∙ unrolled-collapse doomed.1.0 (left_at there) back);
        parts = ready-rolls head lines here c doomed.1.0 f doomed.1.1 there p back is;
      }

  -- one of the three, where it can go on
  pub stage-at : GoesOn here c → RunsAt here c p ⊎ (WaitsAt here c p ⊎ RollsAt here c p)
  stage-at able = go (phase here c) refl able.0 able.1
    where
      go : (f : Phase) → phase here c ≡ f → able_in f (is_grantable here.holds here.waits c) ≡ true → (f ≡ Closing → ⊥)
          → RunsAt here c p ⊎ (WaitsAt here c p ⊎ RollsAt here c p)
      go Running e a n = inl (runs e)
      go Phase.Waiting e a n = inr (inl (waits e (ap (λ f. is_phase f Phase.Waiting && is_grantable here.holds here.waits c) e ∙ a)))
      go Rolling e a n = inr (inr (rolls e))
      go Closing e a n = absurd (n refl)
      go Idle e a n = absurd (cc)
      go Phase.Ended e a n = absurd (cc)
