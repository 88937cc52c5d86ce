-- The steps of a statement that runs: no Collapse is due before them, and what they end or give back is there.
use Rattle.std.proofs.Common.{◌≡◌, ◌⊎◌, inl, inr, ℕ, Bool, true, false, List, [], ◌∷◌, refl, sym, ◌∙◌, ap, subst, Option, Some, None, option_map}
use Rattle.std.specs.Prelude.{is_some}
use Rattle.iso_conduct.proofs.Queues.{is_claim_next}
use Rattle.iso_conduct.specs.Conduct.{Conduct, point, quiet, quiet_back, ready}
use Rattle.iso_conduct.specs.Parts.{Part}
use Rattle.iso_conduct.specs.Parts.Part.{Claims, Collapses, Frees}
use Rattle.iso_conduct.specs.Points.{Haul, Point, due, due_by}
use Rattle.iso_conduct.specs.declared.moves.Move.{Move}
use Rattle.iso_history.specs.After.{world}
use Rattle.iso_history.specs.Legal.{Ground, Runs, is_fresh_on}
use Rattle.iso_history.specs.Marks.{mark_of}
use Rattle.iso_history.specs.Phases.{phase, waits_grantable}
use Rattle.iso_history.specs.World.{World}
use Rattle.iso_history.specs.World.Last.{Looked}
use Rattle.iso_history.specs.declared.entry.Entry.{Entry}
use Rattle.iso_script.specs.declared.script.Line.{Line}
use Rattle.iso_standing.proofs.AtReady.{RollsAt, RunsAt, WaitsAt, quiet-at, stage-at, undue-is}
use Rattle.iso_standing.proofs.Between.{collapse_of, freed_of}
use Rattle.iso_standing.proofs.Own.{row_at}
use Rattle.iso_standing.proofs.Ready.{Rolled}
use Rattle.iso_standing.specs.Going.{GoesOn}
use Rattle.iso_types.specs.declared.desk.Phase.TheVariants.{Running}
use Rattle.iso_types.specs.declared.head.Head.{Head}
use Rattle.iso_types.specs.declared.value.Conn.{Conn}
use Rattle.iso_types.specs.declared.value.Name.TheVariants.{Row}
use Rattle.iso_types.specs.declared.value.Rid.{Rid}
use Rattle.iso_types.specs.declared.value.TableId.{TableId}

-- the step asks that its connection runs, with no Collapse due
abbrev pub asks_to_run : Move → Bool
asks_to_run Move.Claim = false
asks_to_run (Move.Collapse t) = false
asks_to_run (Move.Undo floor) = false
asks_to_run (Move.RollbackEnd code reason) = false
asks_to_run _ = true

-- ---- what the due step says of what is left

run-collapse : (kept : Haul) (ps : List Part) → asks_to_run (due_by kept ps) ≡ true → collapse_of ps ≡ None
run-collapse kept [] e = refl
run-collapse kept (Collapses t ∷ ps) e = absurd (cc)
run-collapse kept (x ∷ ps) e = refl

claim-no-run : (kept : Haul) (ps : List Part) → is_claim_next ps ≡ true → asks_to_run (due_by kept ps) ≡ false
claim-no-run kept [] e = absurd (cc)
claim-no-run kept (Claims ∷ ps) e = refl
claim-no-run kept (x ∷ ps) e = absurd (cc)

-- a connection that rolls back asks for none of these
rolled-no-run : (w : World) (c : Conn) (r : ℕ) (kept : Haul) (ps : List Part) → Rolled w c r ps → asks_to_run (due_by kept ps) ≡ false
rolled-no-run w c r kept ps (inl h) = ap (λ z. asks_to_run (due_by kept z)) h.0
rolled-no-run w c r kept ps (inr h) = ap (λ z. asks_to_run (due_by kept z)) h.0

claim-next : (kept : Haul) (ps : List Part) → due_by kept ps ≡ Move.Claim → is_claim_next ps ≡ true
claim-next kept [] e = absurd (cc)
claim-next kept (Claims ∷ ps) e = refl
claim-next kept (x ∷ ps) e = absurd (cc)

freed-next : (kept : Haul) (ps : List Part) (t : TableId) (r : Rid) → due_by kept ps ≡ Move.Free t r → freed_of ps ≡ row_at t r
freed-next kept [] t r e = absurd (cc)
freed-next kept (Frees u s ∷ ps) t r e = let tables : u ≡ t = cc in let rows : s ≡ r = cc in ap (λ z. row_at z s) tables ∙ ap (row_at t) rows
freed-next kept (x ∷ ps) t r e = absurd (cc)

collapse-next : (kept : Haul) (ps : List Part) (t : TableId) → due_by kept ps ≡ Move.Collapse t → collapse_of ps ≡ Some t
collapse-next kept [] t e = absurd (cc)
collapse-next kept (Collapses u ∷ ps) t e = let same : u ≡ t = cc in ap (λ z. Some z) same
collapse-next kept (x ∷ ps) t e = absurd (cc)

-- the mark of a Back is there
has-mark : (o : Option ℕ) → quiet_back o ≡ None → is_some o ≡ true
has-mark None e = absurd (cc)
has-mark (Some n) e = refl

module _ (head : Head) (lines : List Line) (es : List Entry) (c : Conn) (g : Ground head es) (k : Conduct head lines es c) (able : GoesOn (world head es) c)
    (p : Point) (is : ready head lines (world head es) c (point head lines es c) ≡ Some p) where
  abbrev now : World
  now = world head es

  -- a step that asks it finds the connection running
  pub running-at : asks_to_run (due p) ≡ true → RunsAt now c p
  running-at e = go (stage-at head lines es c g k p is able)
    where
      clash : asks_to_run (due p) ≡ false → ⊥
      clash f = let q : true ≡ false = sym e ∙ f in cc

      go : RunsAt now c p ⊎ (WaitsAt now c p ⊎ RollsAt now c p) → RunsAt now c p
      go (inl r) = r
      go (inr (inl s)) = absurd (clash (claim-no-run p.kept p.left s.claims))
      go (inr (inr s)) = absurd (clash (rolled-no-run now c s.reason p.kept p.left s.parts))

  pub runs-at : asks_to_run (due p) ≡ true → Runs now c
  runs-at e = let r = running-at e in (r.runs, undue-is (λ d. d.0) (now.due c) (r.collapse ∙ run-collapse p.kept p.left e))

  -- the lock of a Claim can be had
  pub claim-at : due p ≡ Move.Claim → waits_grantable now c ≡ true
  claim-at e = go (stage-at head lines es c g k p is able)
    where
      go : RunsAt now c p ⊎ (WaitsAt now c p ⊎ RollsAt now c p) → waits_grantable now c ≡ true
      go (inl r) = let q : true ≡ false = sym (claim-next p.kept p.left e) ∙ r.claims in absurd (cc)
      go (inr (inl s)) = s.grantable
      go (inr (inr s)) = absurd (rolled (sym (claim-next p.kept p.left e)) s.parts)
        where
          rolled : true ≡ is_claim_next p.left → Rolled now c s.reason p.left → ⊥
          rolled f (inl h) = let q : true ≡ false = f ∙ ap is_claim_next h.0 in cc
          rolled f (inr h) = let q : true ≡ false = f ∙ ap is_claim_next h.0 in cc

  -- a Collapse is due where it comes next
  pub collapse-at : (t : TableId) → due p ≡ Move.Collapse t → (phase now c ≡ Running) × (option_map (λ d. d.0) (now.due c) ≡ Some t)
  collapse-at t e = go (stage-at head lines es c g k p is able)
    where
      next : collapse_of p.left ≡ Some t
      next = collapse-next p.kept p.left t e

      no-claim : (ps : List Part) → is_claim_next ps ≡ true → collapse_of ps ≡ Some t → ⊥
      no-claim [] f h = cc
      no-claim (Claims ∷ ps) f h = cc
      no-claim (x ∷ ps) f h = cc

      rolled : (r : ℕ) → Rolled now c r p.left → ⊥
      rolled r (inl h) = let q : None ≡ Some t = sym (ap collapse_of h.0) ∙ next in cc
      rolled r (inr h) = let q : None ≡ Some t = sym (ap collapse_of h.0) ∙ next in cc

      go : RunsAt now c p ⊎ (WaitsAt now c p ⊎ RollsAt now c p) → (phase now c ≡ Running) × (option_map (λ d. d.0) (now.due c) ≡ Some t)
      go (inl r) = (r.runs, r.collapse ∙ next)
      go (inr (inl s)) = absurd (no-claim p.left s.claims next)
      go (inr (inr s)) = absurd (rolled s.reason s.parts)

  -- a Free gives back the Fresh hold of the look before it
  pub free-at : (t : TableId) (r : Rid) → due p ≡ Move.Free t r
      → Runs now c × (now.last c ≡ Looked t r) × (is_fresh_on now c (Row t r) ≡ true)
  free-at t r e =
      let run = ap asks_to_run e in
      let f = (running-at run).frees t r (freed-next p.kept p.left t r e) in
      (runs-at run, f.0, f.1)

  -- the mark of a Back is there
  pub back-at : (name : List ℕ) → due p ≡ Move.Back name → Runs now c × (is_some (mark_of (now.marks c) name) ≡ true)
  back-at name e = (
    runs-at (ap asks_to_run e),
    has-mark (mark_of (now.marks c) name)
        (subst (λ m. quiet now c m ≡ None) e (quiet-at head lines now c (point head lines es c) p is)),
  )
