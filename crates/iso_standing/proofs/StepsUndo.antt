-- The Undos and the Rollback that end a unit: a record is left to undo, or none is.
use Rattle.std.proofs.Common.{◌≡◌, ◌⊎◌, inl, inr, ℕ, Bool, true, false, not, List, [], ◌∷◌, refl, sym, ◌∙◌, ap, subst, arith, Option, Some, None, ℤ, if◌then◌else◌, pos}
use Rattle.std.proofs.lemmas.Bool.Decides.{nat_tests}
use Rattle.std.specs.Option.{option_map_or}
use Rattle.std.specs.Prelude.{is_some, nat_lt, slice_get}
use Rattle.iso_conduct.proofs.Queues.{is_claim_next}
use Rattle.iso_conduct.specs.Conduct.{Conduct, has_left, point, quiet, ready}
use Rattle.iso_conduct.specs.Parts.{Part}
use Rattle.iso_conduct.specs.Parts.Part.{Leaves, Undos}
use Rattle.iso_conduct.specs.Points.{Haul, Point, due, due_by}
use Rattle.iso_conduct.specs.declared.moves.Move.{Move}
use Rattle.iso_conduct.specs.declared.moves.Told.{Told}
use Rattle.iso_history.specs.After.{world}
use Rattle.iso_history.specs.Legal.{Ground, RollbackStands, may_undo}
use Rattle.iso_history.specs.Outcomes.{last_record}
use Rattle.iso_history.specs.Phases.{phase}
use Rattle.iso_history.specs.Records.{left, left_of}
use Rattle.iso_history.specs.Units.{unit_of}
use Rattle.iso_history.specs.World.{World}
use Rattle.iso_history.specs.Writes.{minus}
use Rattle.iso_history.specs.declared.entry.Entry.{Entry}
use Rattle.iso_script.specs.declared.script.Line.{Line}
use Rattle.iso_standing.proofs.AtReady.{RollsAt, RunsAt, WaitsAt, quiet-at, stage-at, undue-is}
use Rattle.iso_standing.proofs.Between.{collapse_of}
use Rattle.iso_standing.proofs.Fronted.{Fronted}
use Rattle.iso_standing.proofs.Ready.{Readied, Rolled}
use Rattle.iso_standing.specs.Going.{GoesOn}
use Rattle.iso_types.specs.declared.desk.Phase.{Phase}
use Rattle.iso_types.specs.declared.desk.Phase.TheVariants.{Rolling, Running}
use Rattle.iso_types.specs.declared.head.Head.{Head}
use Rattle.iso_types.specs.declared.value.Conn.{Conn}

-- ---- what is left to undo

some-left : (floor : ℕ) (o : Option ℕ) → option_map_or (λ n. not (nat_lt n floor)) o false ≡ true → is_some o ≡ true
some-left floor None e = absurd (cc)
some-left floor (Some n) e = refl

-- an Undo that is due, and not told, has its record
undo-left : (w : World) (c : Conn) (floor : ℕ) → quiet w c (Move.Undo floor) ≡ None → is_some (last_record w c) ≡ true
undo-left w c floor e = go (has_left w c floor) refl e
  where
    go : (b : Bool) → has_left w c floor ≡ b → (if b then None else Some (Told.Undone false)) ≡ None → is_some (last_record w c) ≡ true
    go true k h = some-left floor (last_record w c) k
    go false k h = absurd (cc)

below-none : (n : ℕ) → not (nat_lt n 0) ≡ false → ⊥
below-none n e = go (nat_lt n 0) refl e
  where
    below : nat_lt n 0 ≡ false
    below = grind (arith, nat_tests)

    go : (b : Bool) → nat_lt n 0 ≡ b → not b ≡ false → ⊥
    go true k h = let q : true ≡ false = sym k ∙ below in cc
    go false k h = cc

-- no record is left, and so none of the unit
none-left : (w : World) (c : Conn) → has_left w c 0 ≡ false → left_of w c ≡ []
none-left w c e = go (w.unit c) refl
  where
    empty : (ks : List ℕ) → option_map_or (λ n. not (nat_lt n 0)) (slice_get ks 0) false ≡ false → ks ≡ []
    empty [] h = refl
    empty (n ∷ ks) h = absurd (below-none n h)

    of-unit : (u : ℕ) → unit_of w c ≡ u → left w.records u ≡ []
    of-unit u h = empty (left w.records u) (subst (λ z. option_map_or (λ n. not (nat_lt n 0)) (slice_get (left w.records z) 0) false ≡ false) h e)

    go : (o : Option ℕ) → w.unit c ≡ o → left_of w c ≡ []
    go None h = rw h refl
    go (Some u) h = ap (λ z. option_map_or (left w.records) z []) h ∙ of-unit u (rw h refl)

-- ---- what the due step says of what is left

undo-next : (kept : Haul) (ps : List Part) (floor : ℕ) → due_by kept ps ≡ Move.Undo floor → (collapse_of ps ≡ None) × (is_claim_next ps ≡ false)
undo-next kept [] floor e = absurd (cc)
undo-next kept (Undos n ∷ ps) floor e = (refl, refl)
undo-next kept (x ∷ ps) floor e = absurd (cc)

end-next : (kept : Haul) (ps : List Part) (code : ℤ) (reason : ℕ) → due_by kept ps ≡ Move.RollbackEnd code reason
    → (collapse_of ps ≡ None) × (is_claim_next ps ≡ false)
end-next kept [] code reason e = absurd (cc)
end-next kept (Leaves own why ∷ ps) code reason e = (refl, refl)
end-next kept (x ∷ ps) code reason e = absurd (cc)

-- the Rollback of ROLLBACK
own-end : (w : World) (c : Conn) (kept : Haul) (ps : List Part) (code : ℤ) (reason : ℕ) → due_by kept ps ≡ Move.RollbackEnd code reason → Readied w c ps
    → (code ≡ pos 0) × (reason ≡ 0) × (has_left w c 0 ≡ false)
own-end w c kept ps code reason e (inl (inl h)) = absurd (none ps e h)
  where
    none : (ps : List Part) → due_by kept ps ≡ Move.RollbackEnd code reason → Fronted ps → ⊥
    none [] e h = cc
    none (Leaves own why ∷ ps) e h = h.0
    none (x ∷ ps) e h = cc
own-end w c kept ps code reason e (inl (inr h)) = absurd (never (sym (ap (due_by kept) h) ∙ e))
  where
    never : Move.Undo 0 ≡ Move.RollbackEnd code reason → ⊥
    never q = cc
own-end w c kept ps code reason e (inr h) =
    let q : Move.RollbackEnd (pos 0) 0 ≡ Move.RollbackEnd code reason = sym (ap (due_by kept) h.0) ∙ e in
    let codes : pos 0 ≡ code = cc in
    let reasons : 0 ≡ reason = cc in
    (sym codes, sym reasons, h.1)

-- the Rollback of a unit that has to end
doomed-end : (w : World) (c : Conn) (r : ℕ) (kept : Haul) (ps : List Part) (code : ℤ) (reason : ℕ) → due_by kept ps ≡ Move.RollbackEnd code reason
    → Rolled w c r ps → (code ≡ minus 911) × (r ≡ reason) × (has_left w c 0 ≡ false)
doomed-end w c r kept ps code reason e (inl h) = absurd (never (sym (ap (due_by kept) h.0) ∙ e))
  where
    never : Move.Undo 0 ≡ Move.RollbackEnd code reason → ⊥
    never q = cc
doomed-end w c r kept ps code reason e (inr h) =
    let q : Move.RollbackEnd (minus 911) r ≡ Move.RollbackEnd code reason = sym (ap (due_by kept) h.0) ∙ e in
    let codes : minus 911 ≡ code = cc in
    let reasons : r ≡ reason = cc in
    (sym codes, reasons, h.1)

module _ (head : Head) (lines : List Line) (es : List Entry) (c : Conn) (g : Ground head es) (k : Conduct head lines es c) (able : GoesOn (world head es) c)
    (p : Point) (is : ready head lines (world head es) c (point head lines es c) ≡ Some p) where
  abbrev now : World
  now = world head es

  stage : RunsAt now c p ⊎ (WaitsAt now c p ⊎ RollsAt now c p)
  stage = stage-at head lines es c g k p is able

  unclaimed : {A : Type 0} → is_claim_next p.left ≡ true → is_claim_next p.left ≡ false → A
  unclaimed e f = let q : true ≡ false = sym e ∙ f in absurd (cc)

  may-undo : (f : Phase) → phase now c ≡ f → (f ≡ Running) ⊎ (f ≡ Rolling) → now.due c ≡ None → may_undo now c ≡ true
  may-undo f e (inl h) d = rw (e ∙ h, d) refl
  may-undo f e (inr h) d = rw (e ∙ h, d) refl

  -- an Undo has its record, and may be made
  pub undo-at : (floor : ℕ) → due p ≡ Move.Undo floor → (may_undo now c ≡ true) × (is_some (last_record now c) ≡ true)
  undo-at floor e = (
    go stage,
    undo-left now c floor (subst (λ m. quiet now c m ≡ None) e (quiet-at head lines now c (point head lines es c) p is)),
  )
    where
      next : (collapse_of p.left ≡ None) × (is_claim_next p.left ≡ false)
      next = undo-next p.kept p.left floor e

      go : RunsAt now c p ⊎ (WaitsAt now c p ⊎ RollsAt now c p) → may_undo now c ≡ true
      go (inl r) = may-undo Running r.runs (inl refl) (undue-is (λ d. d.0) (now.due c) (r.collapse ∙ next.0))
      go (inr (inl s)) = unclaimed s.claims next.1
      go (inr (inr s)) = may-undo Rolling s.rolls (inr refl) s.undue

  -- a Rollback has nothing left to undo, and its code and reason
  pub rollback-at : (code : ℤ) (reason : ℕ) → due p ≡ Move.RollbackEnd code reason
      → RollbackStands now c code reason (phase now c) × (left_of now c ≡ [])
  rollback-at code reason e = go stage
    where
      next : (collapse_of p.left ≡ None) × (is_claim_next p.left ≡ false)
      next = end-next p.kept p.left code reason e

      go : RunsAt now c p ⊎ (WaitsAt now c p ⊎ RollsAt now c p) → RollbackStands now c code reason (phase now c) × (left_of now c ≡ [])
      go (inl r) =
          let own = own-end now c p.kept p.left code reason e r.parts in
          (subst (RollbackStands now c code reason) (sym r.runs) (undue-is (λ d. d.0) (now.due c) (r.collapse ∙ next.0), own.0, own.1), none-left now c own.2)
      go (inr (inl s)) = unclaimed s.claims next.1
      go (inr (inr s)) =
          let own = doomed-end now c s.reason p.kept p.left code reason e s.parts in
          (subst (RollbackStands now c code reason) (sym s.rolls) (own.0, s.doomed ∙ ap (λ z. Some z) own.1), none-left now c own.2)
