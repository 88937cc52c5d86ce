-- A script has one serial run, stops for want of memory aside.
use Rattle.std.proofs.Common.{◌≡◌, ℕ, ◌+◌, length, arith, Bool, true, false, not, ◌||◌, List, [], ◌∷◌, refl, sym, ap, ◌∙◌, subst, Option, Some, None}
use Rattle.std.specs.List.{list_any}
use Rattle.std.specs.Prelude.{IsTrue}
use Rattle.std.proofs.lemmas.Bool.{both_ways}
use Rattle.iso_conduct.proofs.Lasts.{may_one}
use Rattle.iso_conduct.proofs.Open.{eq-same}
use Rattle.iso_conduct.specs.Conduct.{Conduct, ConductFrom, Does, point_after, stops_for_memory}
use Rattle.iso_conduct.specs.Legal.{IsFinished, IsLegal}
use Rattle.iso_conduct.specs.Pacing.{lines_after}
use Rattle.iso_conduct.specs.Points.{Point}
use Rattle.iso_conduct.specs.Schedule.{Leads, Scheduled, ScheduledFrom, Turns, first_turns, turns_after}
use Rattle.iso_history.proofs.Snoc.{world-snoc}
use Rattle.iso_history.specs.After.{after, start, world, world_from}
use Rattle.iso_history.specs.Legal.{By, Ground, GroundFrom}
use Rattle.iso_history.specs.Makers.{by_dispatcher}
use Rattle.iso_history.specs.Phases.{phase}
use Rattle.iso_history.specs.World.{World}
use Rattle.iso_history.specs.declared.entry.Act.{Act}
use Rattle.iso_history.specs.declared.entry.Act.TheVariants.{Finish}
use Rattle.iso_history.specs.declared.entry.Entry.{Entry}
use Rattle.iso_history.specs.declared.entry.Who.{Who}
use Rattle.iso_history.specs.declared.entry.Who.TheVariants.{Agent, Dispatcher}
use Rattle.iso_script.specs.declared.script.Line.{Line}
use Rattle.iso_script.specs.declared.script.Script.{Script}
use Rattle.iso_types.specs.Head.{is_conn}
use Rattle.iso_types.specs.declared.head.Head.{Head}
use Rattle.iso_types.specs.declared.value.Conn.{Conn}
use Rattle.iso_serial.specs.Seeds.{IsScheduled, words_of}

one-some : {A : Type 0} (o : Option A) (x y : A) → o ≡ Some x → o ≡ Some y → x ≡ y
one-some o x y p q = let e : Some x ≡ Some y = sym p ∙ q in cc

neither : (a b : Bool) → (a || b) ≡ false → (a ≡ false) × (b ≡ false)
neither true b h = absurd (both_ways true h refl)
neither false b h = (refl, h)

module _ (head : Head) (lines : List Line) where
  -- what is left of a run from a world, with the lines, the turns and the points that are reached
  record IsRest (w : World) (ls : List Line) (ts : Turns) (o : Conn → Option Point) (es : List Entry) : Type 0 where
    pub ground : GroundFrom head w es
    pub conduct : (c : Conn) → IsTrue (is_conn head c) → ConductFrom head lines w c (o c) es
    pub scheduled : ScheduledFrom head w ls ts es
    pub finished : (world_from head w es).pace.finished ≡ true
    pub enough : list_any (λ (e : Entry). stops_for_memory e.act) es ≡ false

  -- an actor makes one act
  one-act : (w : World) (ls : List Line) (o : Conn → Option Point) (who : Who) (a b : Act) → By head w who a
      → stops_for_memory a ≡ false → stops_for_memory b ≡ false → Leads head w ls who a → Leads head w ls who b
      → ((c : Conn) → IsTrue (is_conn head c) → Does head lines w c (o c) (record { who = who; act = a }))
      → ((c : Conn) → IsTrue (is_conn head c) → Does head lines w c (o c) (record { who = who; act = b })) → a ≡ b
  one-act w ls o Dispatcher a b by na nb la lb da db = one-some _ a b (la.0 (rw na refl)) (lb.0 (rw nb refl))
  one-act w ls o (Agent c) a b by na nb la lb da db =
      may_one (phase w c) head lines w c (o c) a b na nb (da c by.0 (eq-same c)) (db c by.0 (eq-same c))

  module _ (w : World) (ls : List Line) (ts : Turns) (o : Conn → Option Point) where
    next : (e : Entry) (es : List Entry) → IsRest w ls ts o (e ∷ es)
        → IsRest (after head w e) (lines_after ls e.who e.act) (turns_after ts e.who) (λ c. point_after head lines w c (o c) e) es
    unfolding GroundFrom ConductFrom ScheduledFrom world_from
    next e es r = record {
      ground = r.ground.1;
      conduct = λ c known. (r.conduct c known).1;
      scheduled = r.scheduled.2;
      finished = r.finished;
      enough = (neither (stops_for_memory e.act) _ r.enough).1;
    }

    one-entry : (e f : Entry) (es fs : List Entry) → IsRest w ls ts o (e ∷ es) → IsRest w ls ts o (f ∷ fs) → e ≡ f
    unfolding GroundFrom ConductFrom ScheduledFrom
    one-entry e f es fs r s = λ i. record { who = who i; act = act i }
      where
        who : e.who ≡ f.who
        who = one-some _ e.who f.who r.scheduled.0 s.scheduled.0

        act : e.act ≡ f.act
        act =
            one-act w ls o e.who e.act f.act r.ground.0.2 (neither (stops_for_memory e.act) _ r.enough).0 (neither (stops_for_memory f.act) _ s.enough).0
            r.scheduled.1 (subst (λ (x : Who). Leads head w ls x f.act) (sym who) s.scheduled.1) (λ c known. (r.conduct c known).0)
            (λ c known. subst (λ (x : Who). Does head lines w c (o c) (record { who = x; act = f.act })) (sym who) (s.conduct c known).0)

    -- nothing comes after the end
    no-more : (f : Entry) (fs : List Entry) → IsRest w ls ts o [] → IsRest w ls ts o (f ∷ fs) → ⊥
    unfolding GroundFrom world_from
    no-more f fs r s = both_ways (not w.pace.finished) (ap not r.finished) s.ground.0.0

  one-rest : (w : World) (ls : List Line) (ts : Turns) (o : Conn → Option Point) (es fs : List Entry) → IsRest w ls ts o es → IsRest w ls ts o fs
      → es ≡ fs
  one-rest w ls ts o [] [] r s = refl
  one-rest w ls ts o [] (f ∷ fs) r s = absurd (no-more w ls ts o f fs r s)
  one-rest w ls ts o (e ∷ es) [] r s = absurd (no-more w ls ts o e es s r)
  one-rest w ls ts o (e ∷ es) (f ∷ fs) r s =
      let q : e ≡ f = one-entry w ls ts o e f es fs r s in
      let same : IsRest w ls ts o (e ∷ fs) = subst (λ (x : Entry). IsRest w ls ts o (x ∷ fs)) (sym q) s in
      let behind : es ≡ fs =
      one-rest (after head w e) (lines_after ls e.who e.act) (turns_after ts e.who) (λ c. point_after head lines w c (o c) e) es fs
      (next w ls ts o e es r) (next w ls ts o e fs same) in
      λ i. q i ∷ behind i

-- where Finish stands the history has finished
has-finished : (head : Head) (es : List Entry) → IsFinished es → (world head es).pace.finished ≡ true
has-finished head es f =
    ap (λ (l : List Entry). (world head l).pace.finished) f.1 ∙ ap (λ (w : World). w.pace.finished) (world-snoc head f.0 (by_dispatcher Finish))

rest-of : (script : Script) (words : Option (List ℕ)) (es : List Entry) → IsLegal script es → IsFinished es → Scheduled script.head script.lines words es
    → list_any (λ (e : Entry). stops_for_memory e.act) es ≡ false
    → IsRest script.head script.lines (start script.head) script.lines (first_turns words) (λ c. None) es
unfolding Ground Conduct Scheduled world
rest-of script words es legal finished scheduled enough = record {
  ground = legal.ground;
  conduct = legal.conduct;
  scheduled = scheduled;
  finished = has-finished script.head es finished;
  enough = enough;
}

pub one-run : (script : Script) (words : Option (List ℕ)) (es fs : List Entry) → IsLegal script es → IsLegal script fs → IsFinished es → IsFinished fs
    → Scheduled script.head script.lines words es → Scheduled script.head script.lines words fs
    → list_any (λ (e : Entry). stops_for_memory e.act) es ≡ false → list_any (λ (e : Entry). stops_for_memory e.act) fs ≡ false → es ≡ fs
one-run script words es fs le lf ee ef se sf ne nf =
    one-rest script.head script.lines (start script.head) script.lines (first_turns words) (λ c. None) es fs (rest-of script words es le ee se ne)
    (rest-of script words fs lf ef sf nf)

-- the words of a seed: as many as both histories have entries schedule both
pub one-seeded : (script : Script) (seed : Option ℕ) (es fs : List Entry) → IsLegal script es → IsLegal script fs → IsFinished es → IsFinished fs
    → IsScheduled script.head script.lines seed es → IsScheduled script.head script.lines seed fs
    → list_any (λ (e : Entry). stops_for_memory e.act) es ≡ false → list_any (λ (e : Entry). stops_for_memory e.act) fs ≡ false → es ≡ fs
one-seeded script seed es fs le lf ee ef se sf ne nf =
    one-run script (words_of seed (length es + length fs)) es fs le lf ee ef (se (length es + length fs) (omega arith))
    (sf (length es + length fs) (omega arith)) ne nf
