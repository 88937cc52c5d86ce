-- What is kept of the answer to a step of an index scan is what its statement hears of the entry.
use Rattle.std.proofs.Common.{◌≡◌, Bool, true, false, List, [], ◌∷◌, ◌++◌, refl, sym, subst, Option, Some, None}
use Rattle.iso_agent.proofs.Stepping.{goes, limit-ends, limit-kept, lock-pins, waits-now}
use Rattle.iso_agent.specs.Fits.{Tells}
use Rattle.iso_agent.specs.Steps.{HasPin, HasStepped, kept_of_lock, kept_of_next}
use Rattle.iso_agent.specs.declared.agent.Kept.{Kept}
use Rattle.iso_agent.specs.declared.stepped.Stepped.TheVariants.{Goes}
use Rattle.iso_conduct.specs.Conduct.{ends, heard}
use Rattle.iso_conduct.specs.declared.moves.Told.{Told}
use Rattle.iso_history.specs.After.{after, world}
use Rattle.iso_history.specs.Makers.{by_agent}
use Rattle.iso_history.specs.Nexts.{next}
use Rattle.iso_history.specs.Outcomes.{at_limit, next_by}
use Rattle.iso_history.specs.Phases.{is_phase, phase}
use Rattle.iso_history.specs.World.{World}
use Rattle.iso_history.specs.declared.entry.Act.{Act}
use Rattle.iso_history.specs.declared.entry.Entry.{Entry}
use Rattle.iso_history.specs.declared.entry.Stand.{Stand}
use Rattle.iso_locks.specs.Answers.{answer_of}
use Rattle.iso_locks.specs.declared.locking.Answer.{Answer as LockAnswer}
use Rattle.iso_reads.proofs.Beside.{limit-comes}
use Rattle.iso_reads.specs.Answers.{comes_at_limit}
use Rattle.iso_reads.specs.Nexts.{next_act, next_answer, stepped_by, stepped_limited}
use Rattle.iso_reads.specs.declared.stepping.Stepped.{Stepped}
use Rattle.iso_state.specs.Stands.{Content}
use Rattle.iso_types.specs.declared.desk.Phase.{Phase}
use Rattle.iso_types.specs.declared.desk.Phase.TheVariants.{Running}
use Rattle.iso_types.specs.declared.head.Head.{Head}
use Rattle.iso_types.specs.declared.head.Range.{Range}
use Rattle.iso_types.specs.declared.value.Conn.{Conn}
use Rattle.iso_types.specs.declared.value.IndexId.{IndexId}
use Rattle.iso_types.specs.declared.value.Rid.{Rid}
use Rattle.iso_types.specs.declared.value.Value.{Value}

-- at the limit a step is answered as a lock
limited-next : (x : LockAnswer) (b : Bool) → comes_at_limit x ≡ true → kept_of_lock x b ≡ kept_of_next (stepped_limited x) b
limited-next LockAnswer.Done b e = absurd (cc)
limited-next LockAnswer.Queued b e = absurd (cc)
limited-next LockAnswer.TimedOut b e = refl
limited-next (LockAnswer.Escalates t) b e = refl
limited-next (LockAnswer.Refused code) b e = refl

-- what is kept tells what is heard, and can be rebuilt
abbrev Keeps : Kept → List Told → Type 0
Keeps kept ts = Tells kept ts × HasPin kept

module _ (p : Content) (c : Conn) (i : IndexId) (range : Range) (at : Option (Value × Rid)) (guarded : Bool)
    (runs : phase (world p.head p.history) c ≡ Running) where
  abbrev w : World
  w = world p.head p.history

  abbrev heard_of : Act → List Told
  heard_of a = heard (world p.head p.history) (after p.head (world p.head p.history) (by_agent c a)) c a

  by-stand : (o : Option Stand) (stepped : Stepped) → stepped ≡ stepped_by p c o → (b : Bool)
      → b ≡ is_phase (phase (after p.head w (by_agent c (next_by p.head w c i range at guarded o))) c) Phase.Waiting
      → Keeps (kept_of_next stepped b) (heard_of (next_by p.head w c i range at guarded o)) × (ends (next_by p.head w c i range at guarded o) ≡ false)
  by-stand (Some (Stand.At key rid)) stepped is b e =
      (subst (λ y. Keeps (kept_of_next y b) (Told.At key rid ∷ [])) (sym is) (refl, tt), refl)
  by-stand (Some Stand.Past) stepped is b e = (subst (λ y. Keeps (kept_of_next y b) (Told.Past ∷ [])) (sym is) (refl, tt), refl)
  by-stand (Some (Stand.Queued n)) stepped is b e = (subst (λ y. Keeps (kept_of_next y b) (Told.Queued ∷ [])) (sym is) (refl, tt), refl)
  by-stand (Some (Stand.TimedOut n)) stepped is b e = (subst (λ y. Keeps (kept_of_next y b) (Told.TimedOut ∷ [])) (sym is) (refl, tt), refl)
  by-stand None stepped is b e = (
    subst (λ y. Keeps (kept_of_next y b) (heard_of (at_limit p.head w c))) (sym is)
        (subst (λ y. Keeps y (heard_of (at_limit p.head w c))) (limited-next (answer_of (at_limit p.head w c)) b (limit-comes p.head w c))
        (limit-kept p.head w c runs b e, lock-pins p.head w c runs (answer_of (at_limit p.head w c)) b)),
    limit-ends p.head w c runs,
  )

  -- the step of an index scan
  pub next-stepped : (now : Head) (new : List Entry) (stepped : Stepped) (b : Bool) → now ≡ p.head
      → new ≡ p.history ++ by_agent c (next_act p.head w c i range at guarded) ∷ [] → stepped ≡ next_answer p c i range at guarded
      → b ≡ is_phase (phase (world now new) c) Phase.Waiting
      → HasStepped p.head p.history new c (next_act p.head w c i range at guarded) (Goes (kept_of_next stepped b))
  next-stepped now new stepped b same is answer e =
      let k = by-stand (next p.head w c i range at guarded) stepped answer b
      (waits-now p.head now p.history new c (next_act p.head w c i range at guarded) b same is e) in
      goes p.head p.history new c (next_act p.head w c i range at guarded) (kept_of_next stepped b) is k.1 k.0.0 k.0.1
