-- The point from which an entry is made has nothing more to be told.
use Rattle.std.proofs.Common.{◌≡◌, ◌⊎◌, inl, inr, ℕ, Bool, true, false, List, [], ◌∷◌, refl, sym, subst, Option, Some, None, if◌then◌else◌}
use Rattle.iso_conduct.specs.Conduct.{has_left, quiet, quiet_back, quiet_claim, quieted}
use Rattle.iso_conduct.specs.Parts.{Part, rolling_list}
use Rattle.iso_conduct.specs.Parts.Part.{Backs, Claims, Leaves, Replies, Undos}
use Rattle.iso_conduct.specs.Points.{Haul, Point, due, due_by, ending, told_point}
use Rattle.iso_conduct.specs.declared.moves.Told.{Told}
use Rattle.iso_history.specs.Marks.{mark_of}
use Rattle.iso_history.specs.Phases.{phase}
use Rattle.iso_history.specs.World.{World}
use Rattle.iso_types.specs.declared.desk.Phase.{Phase}
use Rattle.iso_types.specs.declared.desk.Phase.TheVariants.{Closing, Idle, Rolling, Running}
use Rattle.iso_types.specs.declared.value.Conn.{Conn}

module _ (w : World) (c : Conn) where
  -- what is left once the undos are made is told nothing more
  ending-quiet : (kept : Haul) (ps : List Part) → quiet w c (due_by kept (ending ps)) ≡ None
  ending-quiet kept [] = refl
  ending-quiet kept (Leaves code reason ∷ ps) = refl
  ending-quiet kept (Replies code changed ∷ ps) = refl
  ending-quiet kept (x ∷ ps) = ending-quiet kept ps

  -- nothing is told at the point
  IsTold : Point → Type 0
  IsTold p = quiet w c (due p) ≡ None

  -- the point from its parts
  abbrev at_left : Point → List Part → Point
  at_left p ps = record p { left = ps }

  -- a quiet answer leaves nothing to be told, or a unit that has to end
  claim-told : (p : Point) (f : Phase) (o : Option ℕ) (t : Told) → quiet_claim f o ≡ Some t → (r : ℕ) × (told_point p t ≡ at_left p (rolling_list r))
  claim-told p Rolling (Some r) t h = let q : Told.Ended r ≡ t = cc in (r, subst (λ x. told_point p x ≡ at_left p (rolling_list r)) q refl)
  claim-told p Rolling None t h = absurd (cc)
  claim-told p Idle o t h = absurd (cc)
  claim-told p Running o t h = absurd (cc)
  claim-told p Phase.Waiting o t h = absurd (cc)
  claim-told p Closing o t h = absurd (cc)
  claim-told p Phase.Ended o t h = absurd (cc)

  undo-told : (p : Point) (b : Bool) (t : Told) → (if b then None else Some (Told.Undone false)) ≡ Some t → IsTold (told_point p t)
  unfolding IsTold
  undo-told p true t h = absurd (cc)
  undo-told p false t h = let q : Told.Undone false ≡ t = cc in subst (λ x. IsTold (told_point p x)) q (ending-quiet p.kept p.left)

  back-told : (p : Point) (o : Option ℕ) (t : Told) → quiet_back o ≡ Some t → IsTold (told_point p t)
  unfolding IsTold
  back-told p None t h = let q : Told.Floor None ≡ t = cc in subst (λ x. IsTold (told_point p x)) q refl
  back-told p (Some n) t h = absurd (cc)

  once : (p : Point) (ps : List Part) (t : Told) → quiet w c (due (at_left p ps)) ≡ Some t
      → IsTold (told_point (at_left p ps) t) ⊎ ((r : ℕ) × (told_point (at_left p ps) t ≡ at_left p (rolling_list r)))
  once p [] t h = absurd (cc)
  once p (Undos floor ∷ ps) t h = inl (undo-told (at_left p (Undos floor ∷ ps)) (has_left w c floor) t h)
  once p (Backs name ∷ ps) t h = inl (back-told (at_left p (Backs name ∷ ps)) (mark_of (w.marks c) name) t h)
  once p (Claims ∷ ps) t h = inr (claim-told (at_left p (Claims ∷ ps)) (phase w c) (w.doom c) t h)
  once p (x ∷ ps) t h = absurd (cc)

  -- a point at which nothing is told stays
  stays : (p : Point) → IsTold p → IsTold (quieted w c p)
  unfolding IsTold
  stays p e = subst (λ x. IsTold (elim x [ None ↦ p | Some t ↦ told_point p t ])) (sym e) e

  steps : (p : Point) (t : Told) → quiet w c (due p) ≡ Some t → IsTold (told_point p t) → IsTold (quieted w c p)
  steps p t e k = subst (λ x. IsTold (elim x [ None ↦ p | Some u ↦ told_point p u ])) (sym e) k

  if-none : {A : Type 0} (b : Bool) (x : A) → b ≡ true → (if b then None else Some x) ≡ None
  if-none true x h = refl
  if-none false x h = absurd (cc)

  if-some : {A : Type 0} (b : Bool) (x : A) → b ≡ false → (if b then None else Some x) ≡ Some x
  if-some true x h = absurd (cc)
  if-some false x h = refl

  rolled : (p : Point) (r : ℕ) → IsTold (quieted w c (at_left p (rolling_list r)))
  unfolding IsTold
  rolled p r = go (has_left w c 0) refl
    where
      go : (b : Bool) → has_left w c 0 ≡ b → IsTold (quieted w c (at_left p (rolling_list r)))
      go true is = stays (at_left p (rolling_list r)) (if-none (has_left w c 0) (Told.Undone false) is)
      go false is = steps (at_left p (rolling_list r)) (Told.Undone false) (if-some (has_left w c 0) (Told.Undone false) is) refl

  twice-by : (p : Point) (o : Option Told) → quiet w c (due p) ≡ o
      → IsTold (quieted w c (elim o [ None ↦ p | Some t ↦ told_point p t ]))
  unfolding IsTold
  twice-by p None e = stays p e
  twice-by p (Some t) e = go (once p p.left t e)
    where
      go : IsTold (told_point p t) ⊎ ((r : ℕ) × (told_point p t ≡ at_left p (rolling_list r))) → IsTold (quieted w c (told_point p t))
      go (inl k) = stays (told_point p t) k
      go (inr k) = subst (λ x. IsTold (quieted w c x)) (sym k.1) (rolled p k.0)

  -- the second time nothing is left to be told
  pub quiet-twice : (p : Point) → quiet w c (due (quieted w c (quieted w c p))) ≡ None
  unfolding IsTold
  quiet-twice p = twice-by p (quiet w c (due p)) refl
