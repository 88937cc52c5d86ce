-- The status of each job is that of the first thing that the call met.
use Rattle.std.proofs.Common.{◌≡◌, ℕ, ◌⊎◌, inl, inr, Bool, true, false, List, refl, sym, ap, ◌∙◌, Option, Some, None}
use Rattle.std.specs.Io.KnownBytes.{Consumes}
use Rattle.iso_engine.proofs.Complete.{never-refused}
use Rattle.iso_engine.specs.Job.{IsInOrder, IsMixed, IsOutcome, IsRun, IsSaid, IsToRefuse, IsTold, Met, TellsRun, WasRefused, aim_of, mixing, told_by}
use Rattle.iso_engine.specs.Stopping.{has_limit_stop, has_memory_stop, status_of}
use Rattle.iso_engine.specs.declared.job.Aim.{Aim}
use Rattle.iso_engine.specs.declared.job.Aim.TheVariants.{Count, Run}
use Rattle.iso_engine.specs.declared.job.Course.{Course}
use Rattle.iso_history.specs.declared.entry.Entry.{Entry}
use Rattle.iso_script.specs.declared.script.Script.{Script}
use Rattle.iso_words.specs.declared.parts.Job.{Job}

-- what an answer comes to: the status of the history, or a failed write, or want of memory
abbrev Comes : ℕ → List Entry → Type 0
Comes status history = (status ≡ status_of history) ⊎ ((status ≡ 4) ⊎ (status ≡ 5))

text-comes : (text : List ℕ) (status : ℕ) (history : List Entry) (old new : Option (List ℕ)) → TellsRun text history status old new → Comes status history
text-comes text status history old new (inl t) = inl t.0
text-comes text status history old new (inr (inl t)) = inr (inl t.0)
text-comes text status history old new (inr (inr t)) = inr (inr t.0)

told-comes : (course : Course) (script : Script) (status : ℕ) (history : List Entry) (old new : Option (List ℕ)) → IsTold course script status history old new
    → Comes status history
told-comes course script status history old new (inl (r, t)) = text-comes _ status history old new t
told-comes course script status history old new (inr t) = inr (inr t.1)

said-comes : (text : List ℕ) (status : ℕ) (history : List Entry) (old new : Option (List ℕ)) → IsSaid text status history old new → Comes status history
said-comes text status history old new (h, inl s) = inl (s.0 ∙ sym (ap status_of h))
said-comes text status history old new (h, inr (inl s)) = inr (inl s.0)
said-comes text status history old new (h, inr (inr s)) = inr (inr s.0)

mixed-comes : (seed count status : ℕ) (history : List Entry) (old new : Option (List ℕ)) → IsMixed seed count status history old new → Comes status history
mixed-comes seed count status history old new (inl m) = told-comes mixing m.0 status history old new m.2
mixed-comes seed count status history old new (inr m) = inr (inr m.1)

aim-comes : (aim : Aim) (script : Script) (status : ℕ) (history : List Entry) (old new : Option (List ℕ)) → told_by aim script status history old new
    → Comes status history
aim-comes (Run course) script status history old new t = told-comes course script status history old new t
aim-comes Count script status history old new t = said-comes _ status history old new t

module _ (job : Option Job) (source left : Option (List ℕ)) (SourceFailed SinkFailed : Type 0) (status : ℕ) (history : List Entry) where
  abbrev Ordered : Type 0
  Ordered = IsInOrder job source left SourceFailed SinkFailed history status

  -- what was met where the words name a job, no read failed, nothing was refused, and this is known of writes and of memory
  abbrev Later : Bool → Bool → Met
  Later unwritten starved =
      record {
        unnamed = false;
        unread = false;
        refused = false;
        unwritten = unwritten;
        starved = starved;
        limited = has_limit_stop history;
      }

  -- nothing that is to be refused came by
  came-later : (job ≡ None → ⊥) → (IsToRefuse job source → ⊥) → (status ≡ 4 → SinkFailed) → Comes status history → Ordered
  came-later named never sink (inl s) = (
    Later false (has_memory_stop history),
    record {
      unnamed = (λ e. absurd (cc), λ e. absurd (named e));
      unread = λ e. absurd (cc);
      refused = λ e. absurd (cc);
      refuses = λ r. absurd (never r);
      unwritten = λ e. absurd (cc);
      starved = λ e. e;
      limited = refl;
    },
    s,
  )
  came-later named never sink (inr (inl s)) = (
    Later true (has_memory_stop history),
    record {
      unnamed = (λ e. absurd (cc), λ e. absurd (named e));
      unread = λ e. absurd (cc);
      refused = λ e. absurd (cc);
      refuses = λ r. absurd (never r);
      unwritten = λ e. sink s;
      starved = λ e. e;
      limited = refl;
    },
    s,
  )
  came-later named never sink (inr (inr s)) = (
    Later false true,
    record {
      unnamed = (λ e. absurd (cc), λ e. absurd (named e));
      unread = λ e. absurd (cc);
      refused = λ e. absurd (cc);
      refuses = λ r. absurd (never r);
      unwritten = λ e. absurd (cc);
      starved = λ e. refl;
      limited = refl;
    },
    s,
  )

  came-refused : (job ≡ None → ⊥) → WasRefused job source left → status ≡ 2 → Ordered
  came-refused named was s = (
    record {
      unnamed = false;
      unread = false;
      refused = true;
      unwritten = false;
      starved = has_memory_stop history;
      limited = has_limit_stop history;
    },
    record {
      unnamed = (λ e. absurd (cc), λ e. absurd (named e));
      unread = λ e. absurd (cc);
      refused = λ e. was;
      refuses = λ r. inr (inl refl);
      unwritten = λ e. absurd (cc);
      starved = λ e. e;
      limited = refl;
    },
    s,
  )

  came-unread : (job ≡ None → ⊥) → (status ≡ 3 → SourceFailed) → (status ≡ 3) ⊎ (status ≡ 5) → Ordered
  came-unread named failed (inl s) = (
    record {
      unnamed = false;
      unread = true;
      refused = false;
      unwritten = false;
      starved = has_memory_stop history;
      limited = has_limit_stop history;
    },
    record {
      unnamed = (λ e. absurd (cc), λ e. absurd (named e));
      unread = λ e. failed s;
      refused = λ e. absurd (cc);
      refuses = λ r. inl refl;
      unwritten = λ e. absurd (cc);
      starved = λ e. e;
      limited = refl;
    },
    s,
  )
  came-unread named failed (inr s) = (
    Later false true,
    record {
      unnamed = (λ e. absurd (cc), λ e. absurd (named e));
      unread = λ e. absurd (cc);
      refused = λ e. absurd (cc);
      refuses = λ r. inr (inr refl);
      unwritten = λ e. absurd (cc);
      starved = λ e. refl;
      limited = refl;
    },
    s,
  )

  -- words that name no job
  pub usage-order : job ≡ None → status ≡ 1 → Ordered
  usage-order none s = (
    record {
      unnamed = true;
      unread = false;
      refused = false;
      unwritten = false;
      starved = has_memory_stop history;
      limited = has_limit_stop history;
    },
    record {
      unnamed = (λ e. none, λ e. refl);
      unread = λ e. absurd (cc);
      refused = λ e. absurd (cc);
      refuses = λ r. let none_is : aim_of job ≡ None = ap aim_of none in let one_is : aim_of job ≡ Some r.0 = r.1 in absurd (cc);
      unwritten = λ e. absurd (cc);
      starved = λ e. e;
      limited = refl;
    },
    s,
  )

  -- the job `generate`
  pub generate-order : (seed count : ℕ) → job ≡ Some (Job.Generate seed count) → (text : List ℕ) (old new : Option (List ℕ)) → IsSaid text status history old new
      → (status ≡ 4 → SinkFailed) → Ordered
  generate-order seed count j text old new said sink =
      let none_is : aim_of job ≡ None = ap aim_of j in
      came-later (λ none. absurd (cc)) (λ r. let one_is : aim_of job ≡ Some r.0 = r.1 in absurd (cc)) sink (said-comes text status history old new said)

  -- the job `mix`
  pub mix-order : (seed count : ℕ) → job ≡ Some (Job.Mix seed count) → (old new : Option (List ℕ)) → IsMixed seed count status history old new
      → (status ≡ 4 → SinkFailed) → Ordered
  mix-order seed count j old new mixed sink =
      let none_is : aim_of job ≡ None = ap aim_of j in
      came-later (λ none. absurd (cc)) (λ r. let one_is : aim_of job ≡ Some r.0 = r.1 in absurd (cc)) sink (mixed-comes seed count status history old new mixed)

  -- a job that reads a script
  module _ (aim : Aim) (is : aim_of job ≡ Some aim) (source_failed : status ≡ 3 → SourceFailed) (sink_failed : status ≡ 4 → SinkFailed)
      (old new : Option (List ℕ)) (bytes : List ℕ) (taken : Consumes source left bytes) where
    is-named : job ≡ None → ⊥
    is-named none = let none_is : aim_of job ≡ None = ap aim_of none in absurd (cc)

    never-due : IsRun (told_by aim) bytes left status history old new → IsToRefuse job source → ⊥
    never-due r due = never-refused source left due.2 bytes taken due.3 r.0 r.1 r.2 r.3 due.4 due.5

    pub aim-order : IsOutcome (told_by aim) bytes left status history old new → Ordered
    aim-order (inl r) = came-refused is-named (aim, is, bytes, taken, r.1, r.2) r.0
    aim-order (inr (inl u)) = came-unread is-named source_failed u.0
    aim-order (inr (inr r)) = came-later is-named (never-due r) sink_failed (aim-comes aim r.2 status history old new r.4)
