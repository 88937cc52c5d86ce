-- What is told before an entry is made leaves in front what stood there, but for the undos that are done and a wait that was ended.
use Rattle.std.proofs.Common.{◌≡◌, ◌⊎◌, inl, inr, ℕ, Bool, true, false, List, [], ◌∷◌, refl, sym, ◌∙◌, ap, subst, Option, Some, None, if◌then◌else◌, pos}
use Rattle.iso_conduct.proofs.Queues.{is_claim_next}
use Rattle.iso_conduct.specs.Conduct.{has_left, quiet_back, quiet_claim, quieted}
use Rattle.iso_conduct.specs.Parts.{Part, rolling_list}
use Rattle.iso_conduct.specs.Parts.Part.{Backs, Claims, Leaves, Replies, Undos}
use Rattle.iso_conduct.specs.Points.{Point, ending, told_point}
use Rattle.iso_conduct.specs.declared.moves.Told.{Told}
use Rattle.iso_history.specs.Marks.{mark_of}
use Rattle.iso_history.specs.Phases.{phase}
use Rattle.iso_history.specs.World.{World}
use Rattle.iso_history.specs.Writes.{minus}
use Rattle.iso_standing.proofs.Between.{IsBare, awaited_of, collapse_of, ending-bare, freed_of}
use Rattle.iso_standing.proofs.Fronted.{Unrolled, ending-steps, steps-fronted}
use Rattle.iso_types.specs.declared.desk.Phase.{Phase}
use Rattle.iso_types.specs.declared.desk.Phase.TheVariants.{Closing, Idle, Rolling, Running}
use Rattle.iso_types.specs.declared.value.Conn.{Conn}

-- the point with these parts left
abbrev pub with_left : Point → List Part → Point
with_left p ps = record p { left = ps }

-- where the connection need not roll back, the end of a wait is not told
claim-silent : (f : Phase) (o : Option ℕ) → (f ≡ Rolling → ⊥) → quiet_claim f o ≡ None
claim-silent Rolling o k = absurd (k refl)
claim-silent Idle o k = refl
claim-silent Running o k = refl
claim-silent Phase.Waiting o k = refl
claim-silent Closing o k = refl
claim-silent Phase.Ended o k = refl

ending-unclaimed : (ps : List Part) → is_claim_next (ending ps) ≡ false
ending-unclaimed [] = refl
ending-unclaimed (Leaves code reason ∷ ps) = refl
ending-unclaimed (Replies code changed ∷ ps) = refl
ending-unclaimed (x ∷ ps) = ending-unclaimed ps

-- the parts of a connection that has to roll back: the Claim of its wait comes next, or its undos
abbrev pub RollsBack : ℕ → List Part → Type 0
RollsBack r ps = (is_claim_next ps ≡ true) ⊎ (ps ≡ rolling_list r)

module _ (w : World) (c : Conn) where
  -- the parts from which an entry is made, of a connection that need not roll back
  abbrev pub Readied : List Part → Type 0
  Readied ps = Unrolled ps ⊎ ((ps ≡ Leaves (pos 0) 0 ∷ []) × (has_left w c 0 ≡ false))

  -- the second parts have in front what the first have
  pub record IsQuieted (ps qs : List Part) : Type 0 where
    pub collapse : collapse_of qs ≡ collapse_of ps
    pub awaited : awaited_of qs ≡ awaited_of ps
    pub freed : freed_of qs ≡ freed_of ps
    pub claims : is_claim_next qs ≡ is_claim_next ps
    pub parts : Readied ps → Readied qs

  same : (ps : List Part) → IsQuieted ps ps
  same ps = record { collapse = refl; awaited = refl; freed = refl; claims = refl; parts = λ h. h }

  twice : (ps qs rs : List Part) → IsQuieted ps qs → IsQuieted qs rs → IsQuieted ps rs
  twice ps qs rs f s = record {
    collapse = s.collapse ∙ f.collapse;
    awaited = s.awaited ∙ f.awaited;
    freed = s.freed ∙ f.freed;
    claims = s.claims ∙ f.claims;
    parts = λ h. s.parts (f.parts h);
  }

  abbrev told_so : Point → Option Told → Point
  told_so p o = elim o [ None ↦ p | Some t ↦ told_point p t ]

  -- nothing is left to undo from a floor on
  undone-parts : (floor : ℕ) (ps : List Part) → has_left w c floor ≡ false → Readied (Undos floor ∷ ps) → Readied (ending ps)
  undone-parts floor ps e (inl (inl h)) = inl (inl (steps-fronted (ending ps) (ending-steps ps h.1)))
  undone-parts floor ps e (inl (inr h)) =
      let zero : floor ≡ 0 = cc in
      let rest : Leaves (pos 0) 0 ∷ [] ≡ ps = cc in
      inr (subst (λ z. ending z ≡ Leaves (pos 0) 0 ∷ []) rest refl, subst (λ z. has_left w c z ≡ false) zero e)
  undone-parts floor ps e (inr h) = absurd (none h.0)
    where
      none : Undos floor ∷ ps ≡ Leaves (pos 0) 0 ∷ [] → ⊥
      none q = cc

  module _ (still : phase w c ≡ Rolling → ⊥) (p : Point) where
    quiet-keeps : (ps : List Part) → IsQuieted ps (quieted w c (with_left p ps)).left
    quiet-keeps [] = same []
    quiet-keeps (Claims ∷ ps) =
        subst (λ o. IsQuieted (Claims ∷ ps) (told_so (with_left p (Claims ∷ ps)) o).left) (sym (claim-silent (phase w c) (w.doom c) still)) (same (Claims ∷ ps))
    quiet-keeps (Undos floor ∷ ps) = go (has_left w c floor) refl
      where
        bare : IsBare (ending ps)
        bare = ending-bare ps

        go : (b : Bool) → has_left w c floor ≡ b
            → IsQuieted (Undos floor ∷ ps) (told_so (with_left p (Undos floor ∷ ps)) (if b then None else Some (Told.Undone false))).left
        go true e = same (Undos floor ∷ ps)
        go false e = record {
          collapse = bare.collapse;
          awaited = bare.awaited;
          freed = bare.freed;
          claims = ending-unclaimed ps;
          parts = undone-parts floor ps e;
        }
    quiet-keeps (Backs name ∷ ps) = go (mark_of (w.marks c) name)
      where
        go : (o : Option ℕ) → IsQuieted (Backs name ∷ ps) (told_so (with_left p (Backs name ∷ ps)) (quiet_back o)).left
        go (Some at) = same (Backs name ∷ ps)
        go None = record { collapse = refl; awaited = refl; freed = refl; claims = refl; parts = λ h. inl (inl (tt, tt)) }
    quiet-keeps (x ∷ ps) = same (x ∷ ps)

  -- the point from which an entry is made, of a connection that need not roll back
  pub ready-keeps : (phase w c ≡ Rolling → ⊥) → (p : Point) → IsQuieted p.left (quieted w c (quieted w c p)).left
  ready-keeps still p =
      twice p.left (quieted w c p).left (quieted w c (quieted w c p)).left
      (quiet-keeps still p p.left) (quiet-keeps still (quieted w c p) (quieted w c p).left)

  -- ---- a unit that has to end

  -- its parts from which an entry is made: its undos, or its Rollback where nothing is left
  abbrev pub Rolled : ℕ → List Part → Type 0
  Rolled r ps = ((ps ≡ rolling_list r) × (has_left w c 0 ≡ true)) ⊎ ((ps ≡ Leaves (minus 911) r ∷ []) × (has_left w c 0 ≡ false))

  undos-once : (r : ℕ) (p : Point) → Rolled r (quieted w c (with_left p (rolling_list r))).left
  undos-once r p = go (has_left w c 0) refl
    where
      go : (b : Bool) → has_left w c 0 ≡ b → Rolled r (told_so (with_left p (rolling_list r)) (if b then None else Some (Told.Undone false))).left
      go true e = inl (refl, e)
      go false e = inr (refl, e)

  rolled-again : (r : ℕ) (p : Point) (ps : List Part) → Rolled r ps → Rolled r (quieted w c (with_left p ps)).left
  rolled-again r p ps (inl h) = subst (λ z. Rolled r (quieted w c (with_left p z)).left) (sym h.0) (undos-once r p)
  rolled-again r p ps (inr h) = subst (λ z. Rolled r (quieted w c (with_left p z)).left) (sym h.0) (inr (refl, h.1))

  module _ (r : ℕ) (rolling : phase w c ≡ Rolling) (doomed : w.doom c ≡ Some r) where
    claim-ended : (p : Point) (ps : List Part) → is_claim_next ps ≡ true → (quieted w c (with_left p ps)).left ≡ rolling_list r
    claim-ended p [] e = absurd (cc)
    claim-ended p (Claims ∷ ps) e = subst (λ o. (told_so (with_left p (Claims ∷ ps)) o).left ≡ rolling_list r) (sym told) refl
      where
        told : quiet_claim (phase w c) (w.doom c) ≡ Some (Told.Ended r)
        told = ap (λ f. quiet_claim f (w.doom c)) rolling ∙ ap (quiet_claim Rolling) doomed
    claim-ended p (x ∷ ps) e = absurd (cc)

    rolls-twice : (p : Point) (ps : List Part) → RollsBack r ps → Rolled r (quieted w c (quieted w c (with_left p ps))).left
    rolls-twice p ps (inl e) =
        subst (λ z. Rolled r (quieted w c (with_left (quieted w c (with_left p ps)) z)).left) (sym (claim-ended p ps e))
        (undos-once r (quieted w c (with_left p ps)))
    rolls-twice p ps (inr e) =
        subst (λ z. Rolled r (quieted w c (quieted w c (with_left p z))).left) (sym e)
        (rolled-again r (quieted w c (with_left p (rolling_list r))) _ (undos-once r p))

    -- the point from which an entry is made
    pub ready-rolled : (p : Point) → RollsBack r p.left → Rolled r (quieted w c (quieted w c p)).left
    ready-rolled p h = rolls-twice p p.left h
