-- A line is taken, or the dispatcher may stop in its place.
use Rattle.std.proofs.Common.{◌≡◌, Bool, true, false, not, List, [], ◌∷◌, ◌++◌, refl, sym, subst, ◌∙◌, is_some, Option, Some, None, Result, Ok, Err}
use Rattle.std.proofs.lemmas.List.{append-nil}
use Rattle.std.specs.Option.{option_map_or}
use Rattle.std.proofs.lemmas.Bool.{both_ways}
use Rattle.iso_conduct.proofs.Takes.{taken-stands}
use Rattle.iso_conduct.specs.Pacing.{IsLine, MayHalt}
use Rattle.iso_director.proofs.Lines.{due-pair, due-taking}
use Rattle.iso_director.specs.Turns.{HasLineTaken, HasTried, due_step, lacked, takes_line}
use Rattle.iso_ends.specs.Purges.{purge_of, purging}
use Rattle.iso_director.specs.declared.taking.Taken.TheVariants as taking
use Rattle.iso_history.proofs.limits.Full.{full-may_halt}
use Rattle.iso_history.specs.After.{after, start, world, world_from}
use Rattle.iso_history.specs.Entries.{least_purgeable}
use Rattle.iso_history.specs.Legal.{Allowed, Ground, GroundFrom}
use Rattle.iso_history.specs.Makers.{by_dispatcher}
use Rattle.iso_history.specs.Stops.{is_full, may_halt}
use Rattle.iso_history.specs.World.{World}
use Rattle.iso_history.specs.declared.entry.Act.{Act}
use Rattle.iso_history.specs.declared.entry.Cause.{Cause}
use Rattle.iso_history.specs.declared.entry.Cause.TheVariants.{History, Memory}
use Rattle.iso_history.specs.declared.entry.Entry.{Entry}
use Rattle.iso_pace.specs.Answers.{is_taken}
use Rattle.iso_pace.specs.declared.lines.Paced.{Paced}
use Rattle.iso_script.specs.declared.script.Line.{Line}
use Rattle.iso_state.proofs.FactsAlong.{apart-of, none_left-of, within-of}
use Rattle.iso_state.specs.Stands.{Content, Stands}
use Rattle.iso_types.specs.declared.head.Head.{Head}
use Rattle.iso_types.specs.declared.items.StepFault.{StepFault}
use Rattle.iso_types.specs.declared.items.StepFault.TheVariants.{HistoryFull}
use Rattle.iso_types.specs.declared.value.IndexId.{IndexId}
use Rattle.iso_types.specs.declared.value.Rid.{Rid}
use Rattle.iso_types.specs.declared.value.Value.{Value}

-- ---- the last entry of a history may stand

last-from : (head : Head) (w : World) (es : List Entry) (e : Entry) → GroundFrom head w (es ++ e ∷ []) → Allowed head (world_from head w es) e
unfolding GroundFrom world_from
last-from head w [] e g = g.0
last-from head w (x ∷ xs) e g = last-from head (after head w x) xs e g.1

pub last-stands : (head : Head) (es : List Entry) (e : Entry) → Ground head (es ++ e ∷ []) → Allowed head (world head es) e
unfolding Ground world
last-stands head es e g = last-from head (start head) es e g

whole : (b : Bool) → not b ≡ true → b ≡ false
whole true h = absurd (cc)
whole false h = refl

-- ---- what comes of a line that was tried

module _ (head : Head) (old new : List Entry) (step : Option Act) where
  -- it made its entry
  pub taken-line : (r : Result Paced StepFault) (paced : Paced) → HasTried head (world head old) step old new r → r ≡ Ok paced → is_taken paced ≡ true
      → Ground head new → ((a : Act) → step ≡ Some a → takes_line a ≡ true) → HasLineTaken head (world head old) step old new taking.Line
  taken-line r paced tried is done ground takes =
      go step (subst (λ (x : Result Paced StepFault). HasTried head (world head old) step old new x) is tried) takes
    where
      go : (s : Option Act) → HasTried head (world head old) s old new (Ok paced) → ((a : Act) → s ≡ Some a → takes_line a ≡ true)
          → HasLineTaken head (world head old) s old new taking.Line
      go None t takes = absurd (both_ways (is_taken paced) t.answer done)
      go (Some a) t takes =
          (a, refl, takes a refl, whole _ (last-stands head old (by_dispatcher a) (subst (Ground head) t.ok ground)).1, t.ok)

  -- the dispatcher stops in its place
  pub halts : (r : Result Paced StepFault) (fault : StepFault) → HasTried head (world head old) step old new r → r ≡ Err fault
      → MayHalt head (world head old) step (lacked fault)
  halts r fault tried is = go fault (subst (λ (x : Result Paced StepFault). HasTried head (world head old) step old new x) is tried)
    where
      go : (f : StepFault) → HasTried head (world head old) step old new (Err f) → MayHalt head (world head old) step (lacked f)
      go StepFault.Memory t = t.due
      go HistoryFull t = t.full refl

-- and may do so
pub halt-stands : (p : Content) (l : Line) (cause : Cause) → Stands p → (world p.head p.history).pace.finished ≡ false
    → (world p.head p.history).pace.stopped ≡ false → IsLine p.head l
    → MayHalt p.head (world p.head p.history) (due_step p.head (world p.head p.history) l) cause → may_halt p.head (world p.head p.history) cause ≡ true
halt-stands p l Memory s open_ going is may = rw going refl
halt-stands p l Cause.Table s open_ going is may = absurd may
halt-stands p l History s open_ going is may = go (due_step p.head w l) refl may
  where
    w : World
    w = world p.head p.history

    go : (o : Option Act) → due_step p.head w l ≡ o → option_map_or (λ a. is_full p.head w (by_dispatcher a)) o false ≡ true → may_halt p.head w History ≡ true
    go None e full = absurd (both_ways false refl full)
    go (Some a) e full =
        full-may_halt p.head w a open_ (taken-stands p.head w l [] a is (due-taking p.head w l [] going ∙ e)) (apart-of s) (within-of s).course
        (none_left-of s) full

-- ---- what comes of a purge

module _ (head : Head) (old new : List Entry) (l : Line) (calm : (world head old).pace.purged ≡ false) where
  -- a pair went
  pub purged-pair : is_some (least_purgeable head (world head old)) ≡ true → new ≡ old ++ purging (least_purgeable head (world head old)) → Ground head new
      → HasLineTaken head (world head old) (due_step head (world head old) l) old new taking.Pair
  purged-pair some is ground = go (least_purgeable head (world head old)) refl some is
    where
      go : (o : Option (IndexId × (Value × Rid))) → least_purgeable head (world head old) ≡ o → is_some o ≡ true → new ≡ old ++ purging o
          → HasLineTaken head (world head old) (due_step head (world head old) l) old new taking.Pair
      go None e s i = absurd (both_ways false refl s)
      go (Some p) e s i = (
        purge_of p,
        due-pair head (world head old) l p calm e,
        refl,
        whole _ (last-stands head old (by_dispatcher (purge_of p)) (subst (Ground head) i ground)).1,
        i,
      )

  -- the dispatcher stops in its place
  pub purge-halts : (fault : StepFault) → is_some (least_purgeable head (world head old)) ≡ true
      → (◌≡◌ {A = Result Bool StepFault} (Err fault) (Err HistoryFull)
      → option_map_or (λ p. is_full head (world head old) (by_dispatcher (purge_of p))) (least_purgeable head (world head old)) false ≡ true)
      → MayHalt head (world head old) (due_step head (world head old) l) (lacked fault)
  purge-halts fault some full = go fault (least_purgeable head (world head old)) refl some full
    where
      go : (f : StepFault) (o : Option (IndexId × (Value × Rid))) → least_purgeable head (world head old) ≡ o → is_some o ≡ true
          → (◌≡◌ {A = Result Bool StepFault} (Err f) (Err HistoryFull) → option_map_or (λ p. is_full head (world head old) (by_dispatcher (purge_of p))) o false ≡ true)
          → MayHalt head (world head old) (due_step head (world head old) l) (lacked f)
      go f None e s u = absurd (both_ways false refl s)
      go StepFault.Memory (Some p) e s u =
          subst (λ (x : Option Act). MayHalt head (world head old) x Memory) (sym (due-pair head (world head old) l p calm e)) refl
      go HistoryFull (Some p) e s u =
          subst (λ (x : Option Act). MayHalt head (world head old) x History) (sym (due-pair head (world head old) l p calm e)) (u refl)

-- nothing went
pub none-purged : (head : Head) (w : World) (old new : List Entry) → is_some (least_purgeable head w) ≡ false → new ≡ old ++ purging (least_purgeable head w)
    → new ≡ old
none-purged head w old new none is = go (least_purgeable head w) none is
  where
    go : (o : Option (IndexId × (Value × Rid))) → is_some o ≡ false → new ≡ old ++ purging o → new ≡ old
    go None n i = i ∙ append-nil old
    go (Some p) n i = absurd (both_ways true n refl)
