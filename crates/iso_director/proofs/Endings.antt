-- What closing comes to is the step that ends a run.
use Rattle.std.proofs.Common.{◌≡◌, Bool, true, false, List, [], ◌∷◌, ◌++◌, find, refl, ap, ◌∙◌, Option, Some, None, option_map, if◌then◌else◌}
use Rattle.std.specs.List.{list_all}
use Rattle.std.specs.Option.{option_map_or, option_or}
use Rattle.std.proofs.lemmas.Bool.{and_parts}
use Rattle.iso_conduct.specs.Schedule.{ending_step}
use Rattle.iso_director.specs.Turns.{HasEnded}
use Rattle.iso_director.specs.declared.director.Led.TheVariants.{Ran}
use Rattle.iso_history.specs.Phases.{is_phase, phase}
use Rattle.iso_history.specs.Quiet.{all_ended, is_quiet, least_idle}
use Rattle.iso_history.specs.World.{World}
use Rattle.iso_history.specs.declared.entry.Act.{Act}
use Rattle.iso_history.specs.declared.entry.Act.TheVariants.{Close, Finish}
use Rattle.iso_history.specs.declared.entry.Entry.{Entry}
use Rattle.iso_pace.specs.Answers.{closed, closing}
use Rattle.iso_pace.specs.declared.closing.Closing.{Closing}
use Rattle.iso_pace.specs.declared.closing.Closing.TheVariants.{Finished, NotQuiet, One}
use Rattle.iso_types.specs.Head.{conns}
use Rattle.iso_types.specs.declared.desk.Phase.TheVariants.{Idle}
use Rattle.iso_types.specs.declared.head.Head.{Head}
use Rattle.iso_types.specs.declared.value.Conn.{Conn}

-- where all have ended nobody is idle
nobody-idle : (w : World) (cs : List Conn) → list_all w.ended cs ≡ true → find (λ c. is_phase (phase w c) Idle) cs ≡ None
nobody-idle w [] h = refl
nobody-idle w (c ∷ cs) h =
    let t = and_parts (w.ended c) (list_all w.ended cs) h in
    let busy : is_phase (phase w c) Idle ≡ false = rw t.0 refl in
    rw busy (nobody-idle w cs t.1)

-- the act of a closing
abbrev act_of : Closing → Option Act
act_of (One c) = Some (Close c)
act_of NotQuiet = None
act_of Finished = Some Finish

ending-is : (head : Head) (w : World) → ending_step head w ≡ act_of (closed head w)
ending-is head w = go (all_ended head w) refl (is_quiet head w) (least_idle head w) refl
  where
    go : (b : Bool) → all_ended head w ≡ b → (q : Bool) (o : Option Conn) → least_idle head w ≡ o
        → option_or (if q then option_map Close o else None) (if b then Some Finish else None)
        ≡ act_of (if b then Finished else if q then option_map_or One o NotQuiet else NotQuiet)
    go true e true (Some c) least = let none : least_idle head w ≡ None = nobody-idle w (conns head) e in absurd (cc)
    go true e true None least = refl
    go true e false o least = refl
    go false e true (Some c) least = refl
    go false e true None least = refl
    go false e false o least = refl

module _ (head : Head) (w : World) (old new : List Entry) where
  pub ended-all : closed head w ≡ Finished → new ≡ old ++ closing (closed head w) → HasEnded head w old new Ran
  ended-all e is = (Finish, ending-is head w ∙ ap act_of e, refl, is ∙ ap (λ (x : Closing). old ++ closing x) e)
