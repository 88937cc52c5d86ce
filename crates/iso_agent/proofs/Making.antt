-- A connection that goes on: its statement has begun, or it runs; and no Finish stands.
use Rattle.std.proofs.Common.{◌≡◌, ◌⊎◌, inl, inr, ◌<◌, Bool, true, false, ◌||◌, ◌&&◌, List, Option, Some, None, length, refl, subst}
use Rattle.std.proofs.lemmas.Bool.{lt-ltb}
use Rattle.std.specs.Prelude.{is_some}
use Rattle.iso_agent.proofs.Doomed.{rolling-open}
use Rattle.iso_agent.proofs.Finished.{going-on}
use Rattle.iso_conduct.proofs.PairedAlong.{next_at, waiting-claims}
use Rattle.iso_conduct.specs.Conduct.{Conduct, point}
use Rattle.iso_conduct.specs.Points.{Point}
use Rattle.iso_history.specs.After.{world}
use Rattle.iso_history.specs.Legal.{Ground}
use Rattle.iso_history.specs.Phases.{is_phase, phase}
use Rattle.iso_history.specs.declared.entry.Entry.{Entry}
use Rattle.iso_queue.specs.Queues.{is_grantable}
use Rattle.iso_script.specs.declared.script.Line.{Line}
use Rattle.iso_standing.specs.Going.{GoesOn}
use Rattle.iso_types.specs.declared.desk.Phase.{Phase}
use Rattle.iso_types.specs.declared.desk.Phase.TheVariants.{Closing, Idle, Rolling, Running}
use Rattle.iso_types.specs.declared.head.Head.{Head}
use Rattle.iso_types.specs.declared.value.Conn.{Conn}

abbrev able_by : Phase → Bool → Bool
able_by f g = (is_phase f Running || is_phase f Rolling || is_phase f Closing) || (is_phase f Phase.Waiting && g)

claims-some : (o : Option Point) → next_at o ≡ true → is_some o ≡ true
claims-some None e = absurd (cc)
claims-some (Some p) e = refl

-- one that goes on runs, or has a point
pub runs-or-open : (head : Head) (lines : List Line) (es : List Entry) (c : Conn) → Ground head es → Conduct head lines es c → GoesOn (world head es) c
    → (phase (world head es) c ≡ Running) ⊎ (is_some (point head lines es c) ≡ true)
runs-or-open head lines es c g k goes = go (phase (world head es) c) refl
  where
    able : (f : Phase) → phase (world head es) c ≡ f → able_by f (is_grantable (world head es).holds (world head es).waits c) ≡ true
    able f e = subst (λ x. able_by x (is_grantable (world head es).holds (world head es).waits c) ≡ true) e goes.0

    go : (f : Phase) → phase (world head es) c ≡ f → (phase (world head es) c ≡ Running) ⊎ (is_some (point head lines es c) ≡ true)
    go Running e = inl e
    go Phase.Waiting e = inr (claims-some (point head lines es c) (waiting-claims head lines es c k e))
    go Rolling e = inr (rolling-open head lines es c g k e)
    go Closing e = absurd (goes.1 e)
    go Idle e = let x = able Idle e in absurd (cc)
    go Phase.Ended e = let x = able Phase.Ended e in absurd (cc)

-- no Finish stands while it has not ended
pub unfinished : (head : Head) (es : List Entry) (c : Conn) → Ground head es → c.0 < length head.conns → (world head es).ended c ≡ false
    → (world head es).pace.finished ≡ false
unfinished head es c g lt alive = going-on head es c g (lt-ltb c.0 (length head.conns) lt) alive
