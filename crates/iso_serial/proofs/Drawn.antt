-- A run that is drawn by a generator's words, entry by entry.
use Rattle.std.proofs.Common.{◌≡◌, ℕ, suc, ◌+◌, ◌-◌, List, [], ◌∷◌, drop, is_some, length, length-append, sym, ap, ◌∙◌, subst, arith, Some}
use Rattle.rand_pcg.specs.Lcg.{Lcg}
use Rattle.iso_conduct.specs.Pacing.{lines_left}
use Rattle.iso_conduct.specs.Schedule.{Scheduled, Turns, dispatcher_step, drawn, turn, turns_after}
use Rattle.iso_conduct.specs.Schedule.Turns.{Drawn}
use Rattle.iso_director.specs.Director.{HasTaken}
use Rattle.iso_director.specs.declared.director.Director.{Director}
use Rattle.iso_history.specs.After.{world}
use Rattle.iso_history.specs.declared.entry.Entry.{Entry}
use Rattle.iso_history.specs.declared.entry.Who.{Who}
use Rattle.iso_history.specs.declared.entry.Who.TheVariants.{Dispatcher}
use Rattle.iso_script.specs.declared.script.Line.{Line}
use Rattle.iso_script.specs.declared.script.Script.{Script}
use Rattle.iso_types.specs.declared.head.Head.{Head}
use Rattle.iso_serial.proofs.Scheduled.{Scheduled-nil, Scheduled-snoc, turns_from-snoc}
use Rattle.iso_serial.specs.Rounds.{could_act, turns_from}
use Rattle.iso_serial.specs.Seeds.{HasDrawn, IsDrawn, IsScheduled, later, seeded, word, words_from}

-- whether the dispatcher could act, by the lines that it has taken
pub leads-same : (script : Script) (given : Head) (es : List Entry) (d : Director) → given ≡ script.head → HasTaken script es d
    → is_some (dispatcher_step script.head (world given es) (drop d.taken script.lines)) ≡ could_act script es Dispatcher
leads-same script given es d same t =
    ap (λ (h : Head). is_some (dispatcher_step script.head (world h es) (drop d.taken script.lines))) same
    ∙ ap (λ (ls : List Line). is_some (dispatcher_step script.head (world script.head es) ls)) (sym t.left)

-- before the first entry
drawn-nil : (script : Script) (g : Lcg) → IsDrawn script g [] g
drawn-nil script g m =
    let none : 0 + m ≡ m = omega arith in
    (Scheduled-nil script.head script.lines (Some (words_from (0 + m) g)), ap (λ (n : ℕ). Drawn (words_from n g)) none)

pub drawn-first : (script : Script) (g : Lcg) (es : List Entry) → es ≡ [] → IsDrawn script g es g
drawn-first script g es none = subst (λ (fs : List Entry). IsDrawn script g fs g) (sym none) (drawn-nil script g)

-- one entry more, by the next word
pub drawn-next : (script : Script) (first now : Lcg) (old new : List Entry) → IsDrawn script first old now
    → HasDrawn script old new (word now) → IsDrawn script first new (later now)
drawn-next script first now old new before made m = subst (λ (k : ℕ). Is k) (sym count) (scheduled, turns)
  where
    who : Who
    who = made.0

    e : Entry
    e = record { who = who; act = made.1.act }

    Is : ℕ → Type 0
    Is k = Scheduled script.head script.lines (Some (words_from k first)) new
        × (turns_from (Drawn (words_from k first)) new ≡ Drawn (words_from m (later now)))

    count : length new + m ≡ length old + suc m
    count =
        let more : length new ≡ length old + 1 = ap length made.1.history ∙ length-append old (e ∷ []) in
        omega (arith, more)

    words : List ℕ
    words = words_from (length old + suc m) first

    whose : turn script.head (world script.head old) (lines_left script.lines old) (turns_from (Drawn words) old) ≡ Some who
    whose = ap (turn script.head (world script.head old) (lines_left script.lines old)) (before (suc m)).1 ∙ made.2

    scheduled : Scheduled script.head script.lines (Some words) new
    scheduled = subst (Scheduled script.head script.lines (Some words)) (sym made.1.history)
        (Scheduled-snoc script.head script.lines (Some words) old e (before (suc m)).0 whose made.1.leads)

    turns : turns_from (Drawn words) new ≡ Drawn (words_from m (later now))
    turns =
        ap (turns_from (Drawn words)) made.1.history
        ∙ (turns_from-snoc (Drawn words) old e ∙ ap (λ (t : Turns). turns_after t who) (before (suc m)).1)

-- such a run is that of the seed
pub seed-scheduled : (script : Script) (seed : ℕ) (es : List Entry) (now : Lcg) → IsDrawn script (seeded seed) es now
    → IsScheduled script.head script.lines (Some seed) es
seed-scheduled script seed es now d n le =
    let same : length es + (n - length es) ≡ n = omega (arith, le) in
    subst (λ (k : ℕ). Scheduled script.head script.lines (Some (words_from k (seeded seed))) es) same (d (n - length es)).0
