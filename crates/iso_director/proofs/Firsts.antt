-- What the dispatcher makes is its first step, and keeps to the order of the lines.
use Rattle.std.proofs.Common.{◌≡◌, Bool, true, false, List, ◌∷◌, refl, sym, ap, subst, ◌∙◌, Option, Some, None, option_map, if◌then◌else◌}
use Rattle.std.specs.Option.{option_map_or, option_or}
use Rattle.std.proofs.lemmas.Bool.{both_ways}
use Rattle.iso_conduct.specs.Conduct.{stops_for_memory}
use Rattle.iso_conduct.specs.Pacing.{MayHalt, is_over, taking}
use Rattle.iso_conduct.specs.Schedule.{IsFirst, dispatcher_step, ending_step, first_step}
use Rattle.iso_director.proofs.Lines.{due-taking, purge-leaves, purge-paces, takes-first, takes-paces}
use Rattle.iso_director.specs.Turns.{IsTurn, due_step, takes_line}
use Rattle.iso_history.specs.Makers.{by_dispatcher}
use Rattle.iso_history.specs.Paces.{is_purge}
use Rattle.iso_history.specs.Quiet.{cycle_in}
use Rattle.iso_history.specs.Stops.{is_full}
use Rattle.iso_history.specs.World.{World}
use Rattle.iso_history.specs.declared.entry.Act.{Act}
use Rattle.iso_history.specs.declared.entry.Act.TheVariants.{Stopped, Victim}
use Rattle.iso_history.specs.declared.entry.Cause.{Cause}
use Rattle.iso_history.specs.declared.entry.Cause.TheVariants.{History, Memory}
use Rattle.iso_script.specs.declared.script.Line.{Line}
use Rattle.iso_types.specs.declared.head.Head.{Head}
use Rattle.iso_types.specs.declared.value.Conn.{Conn}

-- what takes a line, or ends a run, is no stop
takes-calm : (a : Act) → takes_line a ≡ true → stops_for_memory a ≡ false
takes-calm (Stopped cause) t = absurd (cc)
takes-calm _ t = refl

purge-calm : (a : Act) → is_purge a ≡ true → stops_for_memory a ≡ false
purge-calm (Stopped cause) t = absurd (cc)
purge-calm _ t = refl

module _ (head : Head) (w : World) (ls : List Line) where
  -- the step after a victim's
  abbrev behind : Option Act
  behind = option_or (taking head w ls) (if is_over w ls then ending_step head w else None)

  -- a stop in its place where it is full
  abbrev unless_full : Act → Act
  unless_full a = if is_full head w (by_dispatcher a) then Stopped History else a

module _ (head : Head) (w : World) (ls : List Line) (open_ : w.pace.finished ≡ false) where
  first-cycle : (o : Option (List Conn)) → cycle_in head w ≡ o → first_step head w ls ≡ option_or (option_map Victim o) (behind head w ls)
  first-cycle o e =
      ap (λ (b : Bool). if b then None else option_or (option_map Victim (cycle_in head w)) (behind head w ls)) open_
      ∙ ap (λ (x : Option (List Conn)). option_or (option_map Victim x) (behind head w ls)) e

  first-line : cycle_in head w ≡ None → (a : Act) → taking head w ls ≡ Some a → first_step head w ls ≡ Some a
  first-line none a e =
      first-cycle None none ∙ ap (λ (x : Option Act). option_or x (if is_over w ls then ending_step head w else None)) e

  step-of : (o : Option Act) → first_step head w ls ≡ o → dispatcher_step head w ls ≡ option_map (unless_full head w ls) o
  step-of o e = ap (option_map (unless_full head w ls)) e

  -- the first step itself
  first-is : (a : Act) → first_step head w ls ≡ Some a → is_full head w (by_dispatcher a) ≡ false → stops_for_memory a ≡ false → IsFirst head w ls a
  first-is a e whole calm =
      (λ n. step-of (Some a) e ∙ ap (λ (b : Bool). Some (if b then Stopped History else a)) whole, λ m. absurd (both_ways (stops_for_memory a) calm m))

  -- a stop in place of the step that takes a line
  halt-is : cycle_in head w ≡ None → (cause : Cause) → MayHalt head w (taking head w ls) cause → IsFirst head w ls (Stopped cause)
  halt-is none Memory may = (λ n. absurd (both_ways false refl n), λ m. rw (none, may) refl)
  halt-is none History may = go (taking head w ls) refl may
    where
      go : (o : Option Act) → taking head w ls ≡ o → option_map_or (λ a. is_full head w (by_dispatcher a)) o false ≡ true
          → IsFirst head w ls (Stopped History)
      go (Some a) e full =
          (λ n. step-of (Some a) (first-line none a e) ∙ ap (λ (b : Bool). Some (if b then Stopped History else a)) full, λ m. absurd (both_ways false refl m))
      go None e full = absurd (both_ways false refl full)
  halt-is none Cause.Table may = absurd may

  -- ---- the turns

  pub turn-victim : (members : List Conn) → cycle_in head w ≡ Some members → IsTurn head w ls ls (Victim members)
  turn-victim members e = record { first = first-is (Victim members) (first-cycle (Some members) e) refl refl; paces = tt; left = refl }

module _ (head : Head) (w : World) (l : Line) (ls : List Line) (open_ : w.pace.finished ≡ false) (going : w.pace.stopped ≡ false)
    (none : cycle_in head w ≡ None) where
  pub turn-line : (a : Act) → due_step head w l ≡ Some a → takes_line a ≡ true → is_full head w (by_dispatcher a) ≡ false → IsTurn head w (l ∷ ls) ls a
  turn-line a e takes whole =
      let is = due-taking head w l ls going ∙ e in
      record {
        first = first-is head w (l ∷ ls) open_ a (first-line head w (l ∷ ls) open_ none a is) whole (takes-calm a takes);
        paces = takes-paces head w l ls a takes is;
        left = takes-first head w l ls a takes;
      }

  pub turn-pair : (a : Act) → due_step head w l ≡ Some a → is_purge a ≡ true → is_full head w (by_dispatcher a) ≡ false
      → IsTurn head w (l ∷ ls) (l ∷ ls) a
  turn-pair a e purges whole =
      let is = due-taking head w l ls going ∙ e in
      record {
        first = first-is head w (l ∷ ls) open_ a (first-line head w (l ∷ ls) open_ none a is) whole (purge-calm a purges);
        paces = purge-paces head w l ls a purges is;
        left = purge-leaves head w (l ∷ ls) a purges;
      }

  pub turn-halt : (cause : Cause) → MayHalt head w (due_step head w l) cause → IsTurn head w (l ∷ ls) (l ∷ ls) (Stopped cause)
  turn-halt cause may =
      let halts : MayHalt head w (taking head w (l ∷ ls)) cause =
      subst (λ (o : Option Act). MayHalt head w o cause) (sym (due-taking head w l ls going)) may in
      record { first = halt-is head w (l ∷ ls) open_ none cause halts; paces = halts; left = refl }
