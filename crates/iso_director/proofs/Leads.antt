-- What each part of a turn leaves, as what the turn makes.
use Rattle.std.proofs.Common.{◌≡◌, ℕ, ◌+◌, ◌<◌, true, false, List, ◌∷◌, ◌++◌, drop, length, refl, sym, ap, subst, ◌∙◌, Option, Some, None, is_some}
use Rattle.std.proofs.lemmas.Bool.{both_ways}
use Rattle.std.proofs.lemmas.List.{append-nil, drop_more}
use Rattle.std.proofs.Math.ListN.{get_or}
use Rattle.std.specs.Option.{option_map_or}
use Rattle.iso_director.proofs.Firsts.{turn-halt, turn-line, turn-pair, turn-victim}
use Rattle.iso_director.specs.Turns.{HasLineTaken, HasMade, due_step}
use Rattle.iso_director.specs.declared.director.Led.TheVariants.{Ran}
use Rattle.iso_director.specs.declared.taking.Taken.TheVariants as taking_of
use Rattle.iso_history.proofs.limits.Victims.{has_victim}
use Rattle.iso_history.specs.Phases.{victim}
use Rattle.iso_history.specs.Quiet.{cycle_in}
use Rattle.iso_history.specs.World.{World}
use Rattle.iso_history.specs.declared.entry.Act.TheVariants.{Stopped, Victim}
use Rattle.iso_history.specs.declared.entry.Entry.{Entry}
use Rattle.iso_script.specs.declared.script.Line.{Line}
use Rattle.iso_pace.specs.Answers.{detected, detecting}
use Rattle.iso_types.specs.declared.head.Head.{Head}
use Rattle.iso_types.specs.declared.value.Conn.{Conn}

-- from the head and the history that a step states to those that stand after it
pub moved : (P : Head → List Entry → Type 0) (h k : Head) (es fs : List Entry) → k ≡ h → fs ≡ es → P h es → P k fs
moved P h k es fs head is p = subst (λ (x : Head). P x fs) (sym head) (subst (λ (y : List Entry). P h y) (sym is) p)

-- ---- a deadlock

-- a chosen cycle has a victim
pub detected-some : (head : Head) (w : World) → is_some (detected head w) ≡ is_some (cycle_in head w)
detected-some head w = go (cycle_in head w) refl
  where
    go : (o : Option (List Conn)) → cycle_in head w ≡ o → is_some (option_map_or (victim w) o None) ≡ is_some o
    go None e = refl
    go (Some members) e = ap is_some (has_victim head w members e).is_victim

module _ (head : Head) (w : World) (es fs : List Entry) where
  pub none-same : is_some (cycle_in head w) ≡ false → fs ≡ es ++ detecting (cycle_in head w) → fs ≡ es
  none-same not_some is = go (cycle_in head w) not_some is
    where
      go : (o : Option (List Conn)) → is_some o ≡ false → fs ≡ es ++ detecting o → fs ≡ es
      go None n i = i ∙ append-nil es
      go (Some members) n i = absurd (both_ways true n refl)

  pub none-cycle : is_some (cycle_in head w) ≡ false → cycle_in head w ≡ None
  none-cycle not_some = go (cycle_in head w) not_some
    where
      go : (o : Option (List Conn)) → is_some o ≡ false → o ≡ None
      go None n = refl
      go (Some members) n = absurd (both_ways true n refl)

module _ (head : Head) (w : World) (ls : List Line) (es fs : List Entry) (open_ : w.pace.finished ≡ false) where
  pub victim-made : is_some (cycle_in head w) ≡ true → fs ≡ es ++ detecting (cycle_in head w) → HasMade head w ls ls es fs Ran
  victim-made some is = go (cycle_in head w) refl some is
    where
      go : (o : Option (List Conn)) → cycle_in head w ≡ o → is_some o ≡ true → fs ≡ es ++ detecting o → HasMade head w ls ls es fs Ran
      go None e s i = absurd (both_ways false refl s)
      go (Some members) e s i = (Victim members, i, turn-victim head w ls open_ members e)

-- ---- the next line

module _ (head : Head) (w : World) (lines : List Line) (k : ℕ) (l : Line) (es fs : List Entry) (open_ : w.pace.finished ≡ false)
    (going : w.pace.stopped ≡ false) (none : cycle_in head w ≡ None) (within : k < length lines)
    (is : l ≡ get_or lines k l) where
  left : drop k lines ≡ l ∷ drop (k + 1) lines
  left = drop_more lines k l within ∙ ap (λ (x : Line). x ∷ drop (k + 1) lines) (sym is)

  pub line-made : HasLineTaken head w (due_step head w l) es fs taking_of.Line → HasMade head w (drop k lines) (drop (k + 1) lines) es fs Ran
  line-made h =
      subst (λ (ls : List Line). HasMade head w ls (drop (k + 1) lines) es fs Ran) (sym left)
      (h.0, h.4, turn-line head w l (drop (k + 1) lines) open_ going none h.0 h.1 h.2 h.3)

  pub pair-made : HasLineTaken head w (due_step head w l) es fs taking_of.Pair → HasMade head w (drop k lines) (drop k lines) es fs Ran
  pair-made h =
      subst (λ (ls : List Line). HasMade head w ls ls es fs Ran) (sym left)
      (h.0, h.4, turn-pair head w l (drop (k + 1) lines) open_ going none h.0 h.1 h.2 h.3)

  pub halt-made : HasLineTaken head w (due_step head w l) es fs taking_of.Stop → HasMade head w (drop k lines) (drop k lines) es fs Ran
  halt-made h =
      subst (λ (ls : List Line). HasMade head w ls ls es fs Ran) (sym left)
      (Stopped h.0, h.2, turn-halt head w l (drop (k + 1) lines) open_ going none h.0 h.1)
