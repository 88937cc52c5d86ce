-- Whether the dispatcher has a step, from what the state is asked.
use Rattle.std.proofs.Common.{◌≡◌, ℕ, zero, suc, ◌+◌, ◌<◌, ◌≤◌, Bool, true, false, not, ◌&&◌, ◌||◌, List, [], ◌∷◌, drop, length, refl, sym, ap, ◌∙◌, subst, Option, Some, None, option_map, if◌then◌else◌, is_some, arith}
use Rattle.std.specs.List.{list_all}
use Rattle.std.specs.Option.{option_or}
use Rattle.std.specs.Prelude.{is_none}
use Rattle.std.proofs.Math.ListN.{get_or}
use Rattle.std.proofs.lemmas.Bool.{and_from, and_parts, both_ways}
use Rattle.std.proofs.lemmas.List.{drop_all, drop_more}
use Rattle.iso_conduct.specs.Pacing.{is_over, line_step, purge_or_line, taking}
use Rattle.iso_conduct.specs.Schedule.{dispatcher_step, ending_step, first_step}
use Rattle.iso_director.proofs.Lines.{due-taking}
use Rattle.iso_history.specs.Entries.{least_purgeable}
use Rattle.iso_history.specs.Makers.{by_dispatcher}
use Rattle.iso_history.specs.Outcomes.{statement_step}
use Rattle.iso_history.specs.Phases.{is_phase, phase}
use Rattle.iso_history.specs.Quiet.{all_ended, cycle_in, edges_in, is_busy, is_quiet, is_resting, least_idle, waits_stuck}
use Rattle.iso_history.specs.Stops.{is_full}
use Rattle.iso_history.specs.World.{World}
use Rattle.iso_history.specs.declared.entry.Act.{Act}
use Rattle.iso_history.specs.declared.entry.Act.TheVariants.{Busy, Close, Dispatch, Finish, Stopped, Victim}
use Rattle.iso_history.specs.declared.entry.Cause.TheVariants.{History}
use Rattle.iso_pace.proofs.Closes.{ended-is}
use Rattle.iso_pace.proofs.QuietEnds.{quiet-over}
use Rattle.iso_pace.proofs.Waits.{none-on, without-cycle}
use Rattle.iso_script.specs.declared.script.Line.{Line}
use Rattle.iso_state.specs.Stands.{StandsFor, world_of}
use Rattle.iso_state.specs.declared.parts.Parts.{Parts}
use Rattle.iso_types.specs.Cycles.{is_on_cycle}
use Rattle.iso_types.specs.Head.{conns}
use Rattle.iso_types.specs.declared.desk.Phase.{Phase}
use Rattle.iso_types.specs.declared.desk.Phase.TheVariants.{Idle}
use Rattle.iso_types.specs.declared.head.Head.{Head}
use Rattle.iso_types.specs.declared.value.Conn.{Conn}
use Rattle.iso_types.specs.declared.value.IndexId.{IndexId}
use Rattle.iso_types.specs.declared.value.Rid.{Rid}
use Rattle.iso_types.specs.declared.value.Value.{Value}

-- ---- a statement's line, where there is no cycle

busy-is : (head : Head) (w : World) (c : Conn) → cycle_in head w ≡ None → is_busy head w c ≡ waits_stuck w c
busy-is head w c none =
    off (waits_stuck w c) (is_on_cycle (edges_in head w) (conns head) c) (none-on head w (without-cycle head w none) c)
  where
    off : (a b : Bool) → b ≡ false → (a && not b) ≡ a
    off true b e = rw e refl
    off false b e = refl

pub statement-some : (head : Head) (w : World) (n : ℕ) (c : Conn) → cycle_in head w ≡ None
    → (is_phase (phase w c) Idle || waits_stuck w c) ≡ is_some (statement_step head w n c)
statement-some head w n c none = go (is_phase (phase w c) Idle) (is_busy head w c) (waits_stuck w c) (busy-is head w c none)
  where
    go : (i b s : Bool) → b ≡ s → (i || s) ≡ is_some (if i then Some (Dispatch n c) else if b then Some (Busy n c) else None)
    go true b s e = refl
    go false true s e = sym e
    go false false s e = sym e

-- ---- a pair that is purged before the line

module _ (head : Head) (w : World) (l : Line) where
  pub purges-some : (not w.pace.purged && is_some (least_purgeable head w)) ≡ true
      → is_some (purge_or_line head w l w.pace.purged (least_purgeable head w)) ≡ true
  purges-some h = go w.pace.purged (least_purgeable head w) h
    where
      go : (b : Bool) (o : Option (IndexId × (Value × Rid))) → (not b && is_some o) ≡ true → is_some (purge_or_line head w l b o) ≡ true
      go true o e = absurd (both_ways false refl e)
      go false None e = absurd (both_ways false refl e)
      go false (Some p) e = refl

  pub purges-none : (not w.pace.purged && is_some (least_purgeable head w)) ≡ false
      → purge_or_line head w l w.pace.purged (least_purgeable head w) ≡ line_step head w l
  purges-none h = go w.pace.purged (least_purgeable head w) h
    where
      go : (b : Bool) (o : Option (IndexId × (Value × Rid))) → (not b && is_some o) ≡ false → purge_or_line head w l b o ≡ line_step head w l
      go true (Some p) e = refl
      go true None e = refl
      go false None e = refl
      go false (Some p) e = absurd (both_ways true e refl)

-- the step that takes the line at a place, or purges
module _ (head : Head) (w : World) (lines : List Line) (k : ℕ) (l : Line) (going : w.pace.stopped ≡ false) (within : k < length lines)
    (is : l ≡ get_or lines k l) where
  left : drop k lines ≡ l ∷ drop (k + 1) lines
  left = drop_more lines k l within ∙ ap (λ (x : Line). x ∷ drop (k + 1) lines) (sym is)

  taking-is : taking head w (drop k lines) ≡ purge_or_line head w l w.pace.purged (least_purgeable head w)
  taking-is = ap (taking head w) left ∙ due-taking head w l (drop (k + 1) lines) going

  pub takes-own : (not w.pace.purged && is_some (least_purgeable head w)) ≡ false
      → is_some (line_step head w l) ≡ is_some (taking head w (drop k lines))
  takes-own h = sym (ap is_some (taking-is ∙ purges-none head w l h))

pub takes-pair : (head : Head) (w : World) (lines : List Line) (k : ℕ) → w.pace.stopped ≡ false → k < length lines
    → (not w.pace.purged && is_some (least_purgeable head w)) ≡ true → true ≡ is_some (taking head w (drop k lines))
takes-pair head w [] k going lt h = absurd (omega (arith, lt))
takes-pair head w (l ∷ ls) zero going lt h = sym (ap is_some (due-taking head w l ls going) ∙ purges-some head w l h)
takes-pair head w (l ∷ ls) (suc k) going lt h = takes-pair head w ls k going (omega (arith, lt)) h

-- ---- the end of a run: where there is no cycle it has a step in quiet, and only there

middle : (a b c : Bool) → b ≡ true → (a || b || c) ≡ true
middle true b c e = refl
middle false true c e = refl
middle false false c e = absurd (both_ways false refl e)

rests-all : (w : World) (cs : List Conn) → list_all w.ended cs ≡ true → list_all (is_resting w) cs ≡ true
rests-all w [] h = refl
rests-all w (c ∷ cs) h =
    let t = and_parts (w.ended c) (list_all w.ended cs) h in
    and_from (is_resting w c) (list_all (is_resting w) cs)
    (middle (is_phase (phase w c) Idle) (is_phase (phase w c) Phase.Ended) (waits_stuck w c) (ended-is w c ∙ t.0)) (rests-all w cs t.1)

pub ending-some : (p : Parts) → StandsFor p → cycle_in p.head (world_of p) ≡ None
    → is_quiet p.head (world_of p) ≡ is_some (ending_step p.head (world_of p))
ending-some p s none = go (is_quiet head w) refl (least_idle head w) refl (all_ended head w) refl
  where
    head : Head
    head = p.head

    w : World
    w = world_of p

    go : (q : Bool) → is_quiet head w ≡ q → (o : Option Conn) → least_idle head w ≡ o → (b : Bool) → all_ended head w ≡ b
        → q ≡ is_some (option_or (if q then option_map Close o else None) (if b then Some Finish else None))
    go true e (Some c) f b g = refl
    go true e None f true g = refl
    go true e None f false g = absurd (both_ways _ g (quiet-over p s e f))
    go false e o f false g = refl
    go false e o f true g =
        absurd (both_ways (is_quiet head w) e
        (and_from (list_all (is_resting w) (conns head)) (is_none (cycle_in head w)) (rests-all w (conns head) g) (ap is_none none)))

-- ---- the dispatcher's step

module _ (head : Head) (w : World) (ls : List Line) where
  step-some : is_some (first_step head w ls) ≡ is_some (dispatcher_step head w ls)
  step-some = go (first_step head w ls)
    where
      go : (o : Option Act) → is_some o ≡ is_some (option_map (λ a. if is_full head w (by_dispatcher a) then Stopped History else a) o)
      go None = refl
      go (Some a) = refl

  abbrev first_of : Bool → Option (List Conn) → Option Act → Bool → Option Act
  first_of finished cycle take over =
      if finished then None else option_or (option_map Victim cycle) (option_or take (if over then ending_step head w else None))

  module _ (open_ : w.pace.finished ≡ false) where
    first-is : first_step head w ls ≡ first_of false (cycle_in head w) (taking head w ls) (is_over w ls)
    first-is = ap (λ (b : Bool). first_of b (cycle_in head w) (taking head w ls) (is_over w ls)) open_

    module _ (none : cycle_in head w ≡ None) where
      behind : is_some (first_of false None (taking head w ls) (is_over w ls)) ≡ is_some (dispatcher_step head w ls)
      behind =
          sym (ap is_some (first-is ∙ ap (λ (o : Option (List Conn)). first_of false o (taking head w ls) (is_over w ls)) none)) ∙ step-some

      pub taking-some : is_over w ls ≡ false → is_some (taking head w ls) ≡ is_some (dispatcher_step head w ls)
      taking-some on =
          go (taking head w ls) ∙ (sym (ap (λ (b : Bool). is_some (first_of false None (taking head w ls) b)) on) ∙ behind)
        where
          go : (o : Option Act) → is_some o ≡ is_some (first_of false None o false)
          go None = refl
          go (Some a) = refl

      pub over-some : taking head w ls ≡ None → is_over w ls ≡ true → is_some (ending_step head w) ≡ is_some (dispatcher_step head w ls)
      over-some nothing over =
          sym (ap (λ (o : Option Act). is_some (first_of false None o (is_over w ls))) nothing
          ∙ ap (λ (b : Bool). is_some (first_of false None None b)) over)
          ∙ behind

-- where somebody stopped
pub stopped-over : (head : Head) (w : World) (ls : List Line) → w.pace.stopped ≡ true → (taking head w ls ≡ None) × (is_over w ls ≡ true)
stopped-over head w [] e = (refl, refl)
stopped-over head w (l ∷ ls) e = (rw e refl, rw e refl)

-- where no line is left
pub bare-over : (head : Head) (w : World) (lines : List Line) (k : ℕ) → length lines ≤ k
    → (taking head w (drop k lines) ≡ None) × (is_over w (drop k lines) ≡ true)
bare-over head w lines k le =
    subst (λ (ls : List Line). (taking head w ls ≡ None) × (is_over w ls ≡ true)) (sym (drop_all k lines le)) (refl, refl)

-- where a line is left and nobody stopped
pub line-left : (w : World) (lines : List Line) (k : ℕ) → k < length lines → w.pace.stopped ≡ false → is_over w (drop k lines) ≡ false
line-left w [] k lt going = absurd (omega (arith, lt))
line-left w (l ∷ ls) zero lt going = going
line-left w (l ∷ ls) (suc k) lt going = line-left w ls k (omega (arith, lt)) going
