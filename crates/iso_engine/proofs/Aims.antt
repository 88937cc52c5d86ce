-- The aim of a job is the one that its words name, and what came of it is what the clauses say.
use Rattle.std.proofs.Common.{◌≡◌, ℕ, ◌⊎◌, Bool, List, Option, Some, ap, subst, sym, ◌∙◌}
use Rattle.std.specs.Io.KnownBytes.{Consumes}
use Rattle.iso_engine.proofs.Complete.{answered, complete}
use Rattle.iso_engine.proofs.Order.{aim-order}
use Rattle.iso_engine.specs.Job.{IsAnswered, IsComplete, IsInOrder, IsOutcome, IsScript, aim_of, course_of, told_by}
use Rattle.iso_engine.specs.declared.job.Aim.{Aim}
use Rattle.iso_engine.specs.declared.job.Aim.TheVariants.{Count, Run}
use Rattle.iso_engine.specs.declared.job.Course.{Course}
use Rattle.iso_engine.specs.declared.job.Way.{Way}
use Rattle.iso_history.specs.declared.entry.Entry.{Entry}
use Rattle.iso_script.specs.declared.script.Script.{Script}
use Rattle.iso_words.specs.declared.parts.Job.{Job}

some_is : (a b : Aim) → Some a ≡ Some b → a ≡ b
some_is a b e = cc

-- the job that was read is the one that the words name
pub named-job : (read named : Option Job) (found job : Job) → read ≡ named → read ≡ Some found → found ≡ job → named ≡ Some job
named-job read named found job e f g = sym e ∙ f ∙ ap (λ x. Some x) g

-- a job `mix` has one seed and one count
pub same-mix : (job : Option Job) (a b c d : ℕ) → job ≡ Some (Job.Mix a b) → job ≡ Some (Job.Mix c d) → (a ≡ c) × (b ≡ d)
same-mix job a b c d e f = (cc, cc)

-- the aim of the job `run`, of `serial`, and of `check`
pub run-aim : (job : Option Job) (trace : Bool) (course : Course) → job ≡ Some (Job.Run trace) → course ≡ course_of Way.Threaded trace → aim_of job ≡ Some (Run course)
run-aim job trace course j e = ap aim_of j ∙ ap (λ x. Some (Run x)) (sym e)

pub serial-aim : (job : Option Job) (seed : Option ℕ) (trace : Bool) (course : Course) → job ≡ Some (Job.Serial seed trace)
    → course ≡ course_of (Way.Serial seed) trace → aim_of job ≡ Some (Run course)
serial-aim job seed trace course j e = ap aim_of j ∙ ap (λ x. Some (Run x)) (sym e)

pub check-aim : (job : Option Job) → job ≡ Some Job.Check → aim_of job ≡ Some Count
check-aim job j = ap aim_of j

-- what came of the bytes by the aim that the words name
module _ (source left old new : Option (List ℕ)) (status : ℕ) (history : List Entry) where
  abbrev Came : Aim → Type 0
  Came aim = (bytes : List ℕ) × Consumes source left bytes × IsOutcome (told_by aim) bytes left status history old new

  module _ (job : Option Job) (aim : Aim) (is : aim_of job ≡ Some aim) (came : Came aim) where
    -- by one aim and by the other that is named
    pub came-outcome : (other : Aim) → aim_of job ≡ Some other → Came other
    came-outcome other e = subst Came (some_is _ _ (sym is ∙ e)) came

    pub came-answered : (course : Course) → aim_of job ≡ Some (Run course) → (all : List ℕ) → source ≡ Some all → IsAnswered course all left status history old new
    came-answered course e all told =
        let c = came-outcome (Run course) e in
        answered course source left old new all c.0 status history c.1 told c.2

    pub came-complete : (other : Aim) → aim_of job ≡ Some other → (all : List ℕ) → source ≡ Some all → (script : Script) → IsScript all script
        → (status ≡ 3 → ⊥) → (status ≡ 4 → ⊥) → IsComplete other script status history left old new ⊎ (status ≡ 5)
    came-complete other e all told script is_script s k =
        let c = came-outcome other e in
        complete other source left old new all c.0 status history c.1 told c.2 script is_script s k

    pub came-order : (SourceFailed SinkFailed : Type 0) → (status ≡ 3 → SourceFailed) → (status ≡ 4 → SinkFailed)
        → IsInOrder job source left SourceFailed SinkFailed history status
    came-order SourceFailed SinkFailed s k =
        aim-order job source left SourceFailed SinkFailed status history aim is s k old new came.0 came.1 came.2
