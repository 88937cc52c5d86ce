-- One more entry at the end of a serial run.
use Rattle.std.proofs.Common.{◌≡◌, ℕ, List, [], ◌∷◌, ◌++◌, find, refl, sym, ap, ◌∙◌, subst, Option, Some, None}
use Rattle.iso_conduct.specs.Pacing.{lines_after, lines_from, lines_left}
use Rattle.iso_conduct.specs.Schedule.{Leads, Scheduled, ScheduledFrom, Turns, after_actor, first_turns, turn, turns_after}
use Rattle.iso_conduct.specs.Schedule.Turns.{Round}
use Rattle.iso_history.specs.After.{after, start, world, world_from}
use Rattle.iso_history.specs.World.{World}
use Rattle.iso_history.specs.declared.entry.Entry.{Entry}
use Rattle.iso_history.specs.declared.entry.Who.{Who}
use Rattle.iso_history.specs.declared.entry.Who.TheVariants.{Dispatcher}
use Rattle.iso_script.specs.declared.script.Line.{Line}
use Rattle.iso_script.specs.declared.script.Script.{Script}
use Rattle.iso_types.specs.declared.head.Head.{Head}
use Rattle.iso_serial.specs.Rounds.{HasMade, IsAfter, could_act, turns_from}

ScheduledFrom-snoc : (head : Head) (w : World) (ls : List Line) (ts : Turns) (es : List Entry) (e : Entry)
    → ScheduledFrom head w ls ts es
    → turn head (world_from head w es) (lines_from ls es) (turns_from ts es) ≡ Some e.who
    → Leads head (world_from head w es) (lines_from ls es) e.who e.act
    → ScheduledFrom head w ls ts (es ++ e ∷ [])
unfolding lines_from world_from ScheduledFrom
ScheduledFrom-snoc head w ls ts [] e g t l = (t, l, tt)
ScheduledFrom-snoc head w ls ts (x ∷ xs) e g t l =
    (g.0, g.1, ScheduledFrom-snoc head (after head w x) (lines_after ls x.who x.act) (turns_after ts x.who) xs e g.2 t l)

pub Scheduled-snoc : (head : Head) (lines : List Line) (words : Option (List ℕ)) (es : List Entry) (e : Entry) → Scheduled head lines words es
    → turn head (world head es) (lines_left lines es) (turns_from (first_turns words) es) ≡ Some e.who
    → Leads head (world head es) (lines_left lines es) e.who e.act
    → Scheduled head lines words (es ++ e ∷ [])
unfolding world lines_left Scheduled
Scheduled-snoc head lines words es e g t l = ScheduledFrom-snoc head (start head) lines (first_turns words) es e g t l

pub turns_from-snoc : (ts : Turns) (es : List Entry) (e : Entry) → turns_from ts (es ++ e ∷ []) ≡ turns_after (turns_from ts es) e.who
turns_from-snoc ts [] e = refl
turns_from-snoc ts (x ∷ xs) e = turns_from-snoc (turns_after ts x.who) xs e

pub Scheduled-nil : (head : Head) (lines : List Line) (words : Option (List ℕ)) → Scheduled head lines words []
unfolding Scheduled ScheduledFrom
Scheduled-nil head lines words = tt

-- entry 0 is the dispatcher's
pub after-first : (script : Script) (new : List Entry) → HasMade script [] new Dispatcher → IsAfter script new Dispatcher
after-first script new m =
    let e : Entry = record { who = Dispatcher; act = m.act } in
    record {
      scheduled = subst (Scheduled script.head script.lines None) (sym m.history)
          (Scheduled-snoc script.head script.lines None [] e (Scheduled-nil script.head script.lines None) refl m.leads);
      turns = ap (turns_from (Round None)) m.history;
    }

-- each further entry is that of the first able actor after the maker of the one before
pub after-next : (script : Script) (old new : List Entry) (last who : Who) → IsAfter script old last → HasMade script old new who
    → find (could_act script old) (after_actor script.head last) ≡ Some who → IsAfter script new who
after-next script old new last who a m found =
    let e : Entry = record { who = who; act = m.act } in
    let whose : turn script.head (world script.head old) (lines_left script.lines old) (turns_from (Round None) old) ≡ Some who =
    ap (turn script.head (world script.head old) (lines_left script.lines old)) a.turns ∙ found in
    record {
      scheduled = subst (Scheduled script.head script.lines None) (sym m.history)
          (Scheduled-snoc script.head script.lines None old e a.scheduled whose m.leads);
      turns = ap (turns_from (Round None)) m.history ∙ (turns_from-snoc (Round None) old e ∙ ap (λ (t : Turns). turns_after t who) a.turns);
    }
