-- The agents' entries take no line.
use Rattle.std.proofs.Common.{◌≡◌, ℕ, List, ◌++◌, [], ◌∷◌, sym, ap, ◌∙◌, subst}
use Rattle.iso_conduct.proofs.Snoc.{Paced-snoc, lines_left-snoc}
use Rattle.iso_conduct.specs.Pacing.{Paced, lines_left}
use Rattle.iso_history.specs.declared.entry.Entry.{Entry}
use Rattle.iso_script.specs.declared.script.Script.{Script}
use Rattle.iso_serial.specs.Rounds.{HasMade, agent}

pub paced-agent : (script : Script) (old new : List Entry) (c : ℕ) → HasMade script old new (agent c)
    → Paced script.head script.lines old → Paced script.head script.lines new
paced-agent script old new c m p =
    subst (Paced script.head script.lines) (sym m.history) (Paced-snoc script.head script.lines old (record { who = agent c; act = m.act }) p tt)

pub left-agent : (script : Script) (old new : List Entry) (c : ℕ) → HasMade script old new (agent c)
    → lines_left script.lines new ≡ lines_left script.lines old
left-agent script old new c m =
    ap (lines_left script.lines) m.history ∙ lines_left-snoc script.lines old (record { who = agent c; act = m.act })
