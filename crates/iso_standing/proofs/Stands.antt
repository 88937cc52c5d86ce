-- What stands in front of a statement goes with its connection's world: the Collapse that is due, its last entry and its doom.
use Rattle.std.proofs.Common.{◌≡◌, ◌⊎◌, inl, inr, ℕ, Bool, true, false, List, [], refl, ◌∙◌, subst, Option, Some, None, option_map, is_some}
use Rattle.std.specs.Prelude.{is_none}
use Rattle.iso_conduct.proofs.Queues.{is_claim_next}
use Rattle.iso_conduct.specs.Conduct.{quieted, ready, statement_at}
use Rattle.iso_conduct.specs.Parts.{Part, listed}
use Rattle.iso_conduct.specs.Points.{Point, start_point}
use Rattle.iso_history.specs.Phases.{phase, phase_of}
use Rattle.iso_history.specs.World.{Setting, World}
use Rattle.iso_queue.specs.Queues.{is_waiting}
use Rattle.iso_script.specs.declared.script.Line.{Line}
use Rattle.iso_sql.specs.declared.statement.Statement.{Statement}
use Rattle.iso_sql.specs.declared.statement.Statement.TheVariants as st
use Rattle.iso_standing.proofs.Between.{awaited_of, collapse_of, freed_of}
use Rattle.iso_standing.proofs.Fronted.{listed-unrolled}
use Rattle.iso_standing.proofs.Own.{FateIs, FreesLooked, awaits_table}
use Rattle.iso_standing.proofs.Ready.{IsQuieted, Rolled, RollsBack, ready-keeps, ready-rolled}
use Rattle.iso_types.specs.declared.desk.Phase.{Phase}
use Rattle.iso_types.specs.declared.desk.Phase.TheVariants.{Closing, Rolling, Running}
use Rattle.iso_types.specs.declared.head.Head.{Head}
use Rattle.iso_types.specs.declared.value.Conn.{Conn}

-- what is left at a point that may not be there
abbrev pub left_at : Option Point → List Part
left_at None = []
left_at (Some p) = p.left

-- what stands in front at the point goes with the world
pub record StandsAt (w : World) (c : Conn) (o : Option Point) : Type 0 where
  pub collapse : option_map (λ d. d.0) (w.due c) ≡ collapse_of (left_at o)
  pub awaited : awaits_table (w.last c) ≡ awaited_of (left_at o)
  pub frees : FreesLooked w c (left_at o)
  pub fate : w.closing c ≡ false → FateIs (w.doom c) (left_at o)

-- ---- the phase

-- a running or waiting connection neither closes nor is doomed
pub unrolled-by : (e k d t s : Bool) → (phase_of e k d t s ≡ Running) ⊎ (phase_of e k d t s ≡ Phase.Waiting) → (k ≡ false) × (d ≡ false)
unrolled-by true k d t s (inl h) = absurd (cc)
unrolled-by true k d t s (inr h) = absurd (cc)
unrolled-by false true d t s (inl h) = absurd (cc)
unrolled-by false true d t s (inr h) = absurd (cc)
unrolled-by false false true t s (inl h) = absurd (cc)
unrolled-by false false true t s (inr h) = absurd (cc)
unrolled-by false false false t s h = (refl, refl)

rolling-by : (e k d t s : Bool) → phase_of e k d t s ≡ Rolling → (k ≡ false) × (d ≡ true)
rolling-by true k d t s h = absurd (cc)
rolling-by false true d t s h = absurd (cc)
rolling-by false false true t s h = (refl, refl)
rolling-by false false false true s h = absurd (cc)
rolling-by false false false false true h = absurd (cc)
rolling-by false false false false false h = absurd (cc)

closing-by : (e k d t s : Bool) → phase_of e k d t s ≡ Closing → k ≡ true
closing-by true k d t s h = absurd (cc)
closing-by false true d t s h = refl
closing-by false false true t s h = absurd (cc)
closing-by false false false true s h = absurd (cc)
closing-by false false false false true h = absurd (cc)
closing-by false false false false false h = absurd (cc)

pub none-is : {A : Type 0} (o : Option A) → is_some o ≡ false → o ≡ None
none-is None e = refl
none-is (Some x) e = absurd (cc)

pub some-is : {A : Type 0} (o : Option A) → is_some o ≡ true → (x : A) × (o ≡ Some x)
some-is None e = absurd (cc)
some-is (Some x) e = (x, refl)

module _ (w : World) (c : Conn) where
  -- a running or waiting connection
  pub is-spared : (phase w c ≡ Running) ⊎ (phase w c ≡ Phase.Waiting) → (w.closing c ≡ false) × (w.doom c ≡ None)
  is-spared h =
      let b = unrolled-by (w.ended c) (w.closing c) (is_some (w.doom c)) (is_waiting w.waits c) (is_none (w.line c)) h in
      (b.0, none-is (w.doom c) b.1)

  -- one that rolls back
  pub is-doomed : phase w c ≡ Rolling → (w.closing c ≡ false) × ((r : ℕ) × (w.doom c ≡ Some r))
  is-doomed h =
      let b = rolling-by (w.ended c) (w.closing c) (is_some (w.doom c)) (is_waiting w.waits c) (is_none (w.line c)) h in
      (b.0, some-is (w.doom c) b.1)

  -- one that closes
  pub is-closing : phase w c ≡ Closing → w.closing c ≡ true
  is-closing h = closing-by (w.ended c) (w.closing c) (is_some (w.doom c)) (is_waiting w.waits c) (is_none (w.line c)) h

-- ---- the point from which an entry is made

-- a statement begins with nothing in front
record IsFirst (ps : List Part) : Type 0 where
  pub collapse : collapse_of ps ≡ None
  pub awaited : awaited_of ps ≡ None
  pub freed : freed_of ps ≡ None
  pub claims : is_claim_next ps ≡ false

listed-first : (head : Head) (c : Conn) (set : Setting) (s : Statement) → IsFirst (listed head c set s)
listed-first head c set st.Commit = record { collapse = refl; awaited = refl; freed = refl; claims = refl }
listed-first head c set _ = record { collapse = refl; awaited = refl; freed = refl; claims = refl }

module _ (head : Head) (lines : List Line) (w : World) (c : Conn) where
  one-point : (f : Point → Point) (q p : Point) → Some (f q) ≡ Some p → f q ≡ p
  one-point f q p e = cc

  -- of a connection that need not roll back
  pub ready-is : (phase w c ≡ Rolling → ⊥) → (o : Option Point) (p : Point) → ready head lines w c o ≡ Some p → IsQuieted w c (left_at o) p.left
  ready-is still (Some q) p e =
      subst (λ z. IsQuieted w c q.left z.left) (one-point (λ x. quieted w c (quieted w c x)) q p e) (ready-keeps w c still q)
  ready-is still None p e = go (statement_at lines c (w.line c)) e
    where
      go : (s : Option Statement) → option_map (λ x. quieted w c (quieted w c x)) (option_map (start_point head c (w.setting c) (w.floor c)) s) ≡ Some p
          → IsQuieted w c [] p.left
      go None k = absurd (never k)
        where
          never : None ≡ Some p → ⊥
          never h = cc
      go (Some s) k =
          let q = start_point head c (w.setting c) (w.floor c) s in
          let first = listed-first head c (w.setting c) s in
          let same = one-point (λ x. quieted w c (quieted w c x)) q p k in
          let kept : IsQuieted w c q.left p.left = subst (λ z. IsQuieted w c q.left z.left) same (ready-keeps w c still q) in
          record {
            collapse = kept.collapse ∙ first.collapse;
            awaited = kept.awaited ∙ first.awaited;
            freed = kept.freed ∙ first.freed;
            claims = kept.claims ∙ first.claims;
            parts = λ h. kept.parts (inl (listed-unrolled head c (w.setting c) s));
          }

  -- of one that rolls back
  pub ready-rolls : (r : ℕ) → phase w c ≡ Rolling → w.doom c ≡ Some r → (o : Option Point) (p : Point) → RollsBack r (left_at o)
      → ready head lines w c o ≡ Some p → Rolled w c r p.left
  ready-rolls r f d (Some q) p h e =
      subst (λ z. Rolled w c r z.left) (one-point (λ x. quieted w c (quieted w c x)) q p e) (ready-rolled w c r f d q h)
  ready-rolls r f d None p (inl h) e = absurd (cc)
  ready-rolls r f d None p (inr h) e = absurd (cc)
