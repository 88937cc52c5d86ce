-- The lines of a script, and the step that takes one.
use Rattle.std.proofs.Common.{◌≡◌, ℕ, ◌<◌, Bool, true, false, ◌||◌, List, ◌∷◌, length, refl, ap, subst, ◌∙◌, Option, Some, None, if◌then◌else◌, is_some}
use Rattle.std.specs.Prelude.{is_none}
use Rattle.std.proofs.lemmas.Bool.{and_parts, both_ways}
use Rattle.std.proofs.Math.ListN.{get_or}
use Rattle.std.proofs.lemmas.List.Folds.{list_all_at}
use Rattle.iso_conduct.specs.Conduct.{statement_in}
use Rattle.iso_conduct.specs.Pacing.{IsLine, MayPace, line_step, lines_after_act, purge_of, purge_or_line, step_of, taking}
use Rattle.iso_director.specs.Turns.{due_step, takes_line}
use Rattle.iso_history.specs.Entries.{least_purgeable}
use Rattle.iso_history.specs.Paces.{is_purge}
use Rattle.iso_history.specs.Phases.{is_phase, phase}
use Rattle.iso_history.specs.Quiet.{is_busy, is_quiet}
use Rattle.iso_history.specs.World.{World}
use Rattle.iso_history.specs.declared.entry.Act.{Act}
use Rattle.iso_history.specs.declared.entry.Act.TheVariants.{Busy, Dispatch, Expire, Purge, Snapshot}
use Rattle.iso_queue.specs.Snapshots.{snapshot}
use Rattle.iso_script.specs.Sound.{IsSound, is_sound_line, is_sound_what}
use Rattle.iso_script.specs.declared.script.Line.{Line}
use Rattle.iso_script.specs.declared.script.Script.{Script}
use Rattle.iso_script.specs.declared.script.What.{What}
use Rattle.iso_types.specs.Head.{is_conn}
use Rattle.iso_types.specs.declared.desk.Phase.{Phase}
use Rattle.iso_types.specs.declared.desk.Phase.TheVariants.{Idle}
use Rattle.iso_types.specs.declared.head.Head.{Head}
use Rattle.iso_types.specs.declared.value.Conn.{Conn}
use Rattle.iso_types.specs.declared.value.IndexId.{IndexId}
use Rattle.iso_types.specs.declared.value.Rid.{Rid}
use Rattle.iso_types.specs.declared.value.Value.{Value}
use Rattle.iso_pace.specs.Answers.{MayTakeLine}

-- ---- a sound line is one of the head's

of-head : (head : Head) (c d : Conn) → is_conn head c ≡ true → Some c ≡ Some d → is_conn head d ≡ true
of-head head c d h e = let q : c ≡ d = cc in subst (λ (x : Conn). is_conn head x ≡ true) q h

sound-what : (head : Head) (o : Option Conn) (what : What) (free : Bool) → is_sound_what head o what free ≡ true
    → (free ≡ true → is_some (statement_in what) ≡ true) × ((c : Conn) → o ≡ Some c → is_conn head c ≡ true)
sound-what head (Some c) (What.Statement s) free h = (λ e. refl, λ d e. of-head head c d (and_parts _ _ h).0 e)
sound-what head (Some c) What.Expire false h = (λ e. absurd (cc), λ d e. of-head head c d h e)
sound-what head None What.Snapshot false h = (λ e. absurd (cc), λ d e. absurd (cc))
sound-what head (Some c) What.Expire true h = absurd (cc)
sound-what head (Some c) What.Snapshot free h = absurd (cc)
sound-what head None What.Snapshot true h = absurd (cc)
sound-what head None (What.Statement s) free h = absurd (cc)
sound-what head None What.Expire free h = absurd (cc)

sound-line : (head : Head) (l : Line) → is_sound_line head l ≡ true → IsLine head l
sound-line head l h = let t = sound-what head l.conn l.what l.free h in record { free = t.0; conn = t.1 }

-- the line at a place
pub line-at : (script : Script) (k : ℕ) (l : Line) → IsSound script → k < length script.lines → l ≡ get_or script.lines k l → IsLine script.head l
line-at script k l sound lt is = sound-line script.head l (go (is_sound_line script.head (get_or script.lines k l)) refl)
  where
    go : (b : Bool) → is_sound_line script.head (get_or script.lines k l) ≡ b → is_sound_line script.head l ≡ true
    go true e = ap (is_sound_line script.head) is ∙ e
    go false e = absurd (both_ways _ (list_all_at (is_sound_line script.head) script.lines k l lt e) sound.lines)

-- ---- the step that is due at a line

-- it is the one that takes the line, or purges
pub due-taking : (head : Head) (w : World) (l : Line) (ls : List Line) → w.pace.stopped ≡ false → taking head w (l ∷ ls) ≡ due_step head w l
due-taking head w l ls going = rw going refl

-- the line's own where it may be taken
pub due-line : (head : Head) (w : World) (l : Line) → MayTakeLine head w → w.pace.stopped ≡ false → line_step head w l ≡ due_step head w l
due-line head w l may going = go w.pace.stopped w.pace.purged (least_purgeable head w) going may
  where
    go : (s b : Bool) (o : Option (IndexId × (Value × Rid))) → s ≡ false → (s || (b || is_none o)) ≡ true
        → line_step head w l ≡ purge_or_line head w l b o
    go true b o e m = absurd (cc)
    go false true (Some p) e m = refl
    go false true None e m = refl
    go false false None e m = refl
    go false false (Some p) e m = absurd (cc)

-- else the purge of the least pair
pub due-pair : (head : Head) (w : World) (l : Line) (p : IndexId × (Value × Rid)) → w.pace.purged ≡ false → least_purgeable head w ≡ Some p
    → due_step head w l ≡ Some (purge_of p)
due-pair head w l p calm least = rw (calm, least) refl

-- a line may be tried after a purge, and where no pair is purgeable
pub may-purged : (head : Head) (w : World) → w.pace.purged ≡ true → MayTakeLine head w
may-purged head w e = go w.pace.stopped w.pace.purged (is_none (least_purgeable head w)) e
  where
    go : (s b o : Bool) → b ≡ true → (s || (b || o)) ≡ true
    go true b o e = refl
    go false true o e = refl
    go false false o e = absurd (cc)

pub may-none : (head : Head) (w : World) → is_some (least_purgeable head w) ≡ false → MayTakeLine head w
may-none head w e = go w.pace.stopped w.pace.purged (least_purgeable head w) e
  where
    go : (s b : Bool) (o : Option (IndexId × (Value × Rid))) → is_some o ≡ false → (s || (b || is_none o)) ≡ true
    go true b o e = refl
    go false true o e = refl
    go false false None e = refl
    go false false (Some p) e = absurd (cc)

-- ---- the acts that take a line

some-is : (p : Act → Bool) (a b : Act) → p a ≡ true → Some a ≡ Some b → p b ≡ true
some-is p a b h e = let q : a ≡ b = cc in subst (λ (x : Act). p x ≡ true) q h

module _ (head : Head) (w : World) where
  step-takes : (n : ℕ) (what : What) (o : Option Conn) (a : Act) → step_of head w n what o ≡ Some a → takes_line a ≡ true
  step-takes n (What.Statement s) (Some c) a h = go (is_phase (phase w c) Idle) (is_busy head w c) h
    where
      go : (i b : Bool) → (if i then Some (Dispatch n c) else if b then Some (Busy n c) else None) ≡ Some a → takes_line a ≡ true
      go true b e = some-is takes_line (Dispatch n c) a refl e
      go false true e = some-is takes_line (Busy n c) a refl e
      go false false e = absurd (cc)
  step-takes n What.Expire (Some c) a h = some-is takes_line (Expire n c (is_phase (phase w c) Phase.Waiting)) a refl h
  step-takes n What.Snapshot o a h = some-is takes_line (Snapshot n (snapshot head w.holds w.waits)) a refl h
  step-takes n (What.Statement s) None a h = absurd (cc)
  step-takes n What.Expire None a h = absurd (cc)

  pub line-takes : (l : Line) (a : Act) → line_step head w l ≡ Some a → takes_line a ≡ true
  line-takes l a h = go (l.free || is_quiet head w) h
    where
      go : (b : Bool) → (if b then step_of head w l.number l.what l.conn else None) ≡ Some a → takes_line a ≡ true
      go true e = step-takes l.number l.what l.conn a e
      go false e = absurd (cc)

  -- its entry keeps to the order of the lines, and leaves those behind the first
  pub takes-paces : (l : Line) (ls : List Line) (a : Act) → takes_line a ≡ true → taking head w (l ∷ ls) ≡ Some a → MayPace head w (l ∷ ls) a
  takes-paces l ls (Dispatch n c) t h = h
  takes-paces l ls (Busy n c) t h = h
  takes-paces l ls (Expire n c ended) t h = h
  takes-paces l ls (Snapshot n locks) t h = h
  takes-paces l ls a t h = absurd (cc)

  pub takes-first : (l : Line) (ls : List Line) (a : Act) → takes_line a ≡ true → lines_after_act (l ∷ ls) a ≡ ls
  takes-first l ls (Dispatch n c) t = refl
  takes-first l ls (Busy n c) t = refl
  takes-first l ls (Expire n c ended) t = refl
  takes-first l ls (Snapshot n locks) t = refl
  takes-first l ls a t = absurd (cc)

  -- a purge keeps to the order, too, and leaves all lines
  pub purge-paces : (l : Line) (ls : List Line) (a : Act) → is_purge a ≡ true → taking head w (l ∷ ls) ≡ Some a → MayPace head w (l ∷ ls) a
  purge-paces l ls (Purge i key r) t h = h
  purge-paces l ls a t h = absurd (cc)

  pub purge-leaves : (ls : List Line) (a : Act) → is_purge a ≡ true → lines_after_act ls a ≡ ls
  purge-leaves ls (Purge i key r) t = refl
  purge-leaves ls a t = absurd (cc)
